-- The units of `Verb` and `Extend`: each header and each line is one operation of the verbs, where nothing is found wrong with it and no
-- table refuses anything.
use Rattle.std.specs.Prelude.{◌≡◌, ℕ, zero, suc, ◌+◌, nat_lt, length, List, Bool, true, Option, Some, None}
use Rattle.inf_settings.specs.Bounds.{Limits}
use Rattle.inf_scanner.specs.{declared.tokens.DictionaryWord.DictionaryWord, declared.tokens.Place.Place}
use Rattle.inf_dictionary.specs.{Words.Words, Words.add_fault as word_fault, Words.with_use, Words.word_of, declared.uses.WordUse.WordUse}
use Rattle.inf_unit.specs.{Tokens.SourceToken, Units.bytes_at, Units.name_at, Units.name_order, Units.next_place}
use Rattle.inf_output.specs.Output.{Out}
use Rattle.inf_compilation.specs.{Actions.Compilation, Context.Context}
use Rattle.inf_verbs.specs.{Lines.LineOf, declared.lines.LineToken.LineToken, declared.verbs.LinePlace.LinePlace}
use Rattle.inf_verbs.specs.Verbs.{AllVerbs, add_fault, line_fault_of, with_extended, with_line_of, with_verb}
use Rattle.inf_verb_lines.specs.declared.verbs.VerbHead.{VerbHead}
use Rattle.inf_verb_lines.specs.Verbs.{action_by, arrow_in, extend_header, head_finding, is_reverse, line_ended, line_tokens, lines_of}
use Rattle.inf_verb_lines.specs.Verbs.{place_named, tokens_finding, verb_head, verb_header, verb_named, verb_use, word_at}

abbrev pub verbs_of : Compilation → AllVerbs
verbs_of w = w.output.tables.verbs

abbrev pub words_of : Compilation → Words
words_of w = w.output.tables.dictionary

-- The words before a place are used, in their order, and none is refused.

abbrev pub word_with : Option DictionaryWord → WordUse → Words → Words
word_with None how words = words
word_with (Some word) how words = with_use word.text how word.is_plural words

abbrev pub words_with : ℕ → List SourceToken → WordUse → Words → Words
words_with zero tokens how words = words
words_with (suc at) tokens how words = word_with (word_at tokens at) how (words_with at tokens how words)

abbrev pub WordFits : Limits → Option DictionaryWord → WordUse → Words → Type 0
WordFits limits None how words = Unit {0}
WordFits limits (Some word) how words = word_fault limits (word_of word.text words.list) how words ≡ None

abbrev pub WordsFit : Limits → ℕ → List SourceToken → WordUse → Words → Type 0
WordsFit limits zero tokens how words = Unit {0}
WordsFit limits (suc at) tokens how words =
    WordsFit limits at tokens how words × WordFits limits (word_at tokens at) how (words_with at tokens how words)

abbrev pub head_of : Compilation → VerbHead
head_of w = verb_head w.unit.tokens

-- the use of words of the verb with a number, as the header says
abbrev pub use_of : ℕ → Compilation → WordUse
use_of number w = verb_use number (head_of w).is_meta

-- where an `Extend` puts its lines, by the word behind that of the verb
abbrev pub how_of : Compilation → LinePlace
how_of w = place_named (bytes_at w.unit.tokens (name_order w.unit.tokens + 1))

-- the line that is read: what comes before its last arrow, its action, and `reverse`
abbrev pub taken : Limits → Compilation → Out × List LineToken
taken limits w = line_tokens limits (arrow_in w.unit.tokens) w.unit.tokens w.output

abbrev pub line_of : Limits → Compilation → LineOf
line_of limits w = record {
  action = (action_by limits (name_at w.unit.tokens (next_place (arrow_in w.unit.tokens))) (taken limits w).0).1;
  is_reverse = is_reverse w.unit.tokens (arrow_in w.unit.tokens);
  tokens = (taken limits w).1;
}

pub record VerbsChange (limits : Limits) (context : Context) (place : Place) (w : Compilation) : Type 0 where
  -- a new verb: it has the next number, its words, and the lines that follow
  pub verb : (head_of w).like ≡ None → head_finding (head_of w) w.unit.tokens w.output ≡ None → add_fault limits (verbs_of w) ≡ None
      → verbs_of (verb_header limits context place w) ≡ with_verb (verbs_of w)
  pub words : (head_of w).like ≡ None → head_finding (head_of w) w.unit.tokens w.output ≡ None → add_fault limits (verbs_of w) ≡ None
      → WordsFit limits (head_of w).end w.unit.tokens (use_of (length (verbs_of w).list) w) (words_of w)
      → words_of (verb_header limits context place w)
      ≡ words_with (head_of w).end w.unit.tokens (use_of (length (verbs_of w).list) w) (words_of w)
  pub opens : (head_of w).like ≡ None → head_finding (head_of w) w.unit.tokens w.output ≡ None → add_fault limits (verbs_of w) ≡ None
      → (verb_header limits context place w).extending ≡ lines_of (Some (length (verbs_of w).list)) LinePlace.Last
  -- words for a verb that has others
  pub like : (at number : ℕ) → (head_of w).like ≡ Some at → head_finding (head_of w) w.unit.tokens w.output ≡ None
      → verb_named w.unit.tokens at w.output ≡ Some number
      → verbs_of (verb_header limits context place w) ≡ verbs_of w
  pub more_words : (at number : ℕ) → (head_of w).like ≡ Some at → head_finding (head_of w) w.unit.tokens w.output ≡ None
      → verb_named w.unit.tokens at w.output ≡ Some number
      → WordsFit limits (head_of w).end w.unit.tokens (use_of number w) (words_of w)
      → WordFits limits (word_at w.unit.tokens at) (WordUse.Verb number)
      (words_with (head_of w).end w.unit.tokens (use_of number w) (words_of w))
      → words_of (verb_header limits context place w)
      ≡ word_with (word_at w.unit.tokens at) (WordUse.Verb number)
      (words_with (head_of w).end w.unit.tokens (use_of number w) (words_of w))
  -- more lines of a verb, and where they go
  pub extend : (number : ℕ) → verb_named w.unit.tokens (name_order w.unit.tokens) w.output ≡ Some number
      → nat_lt number (length (verbs_of w).list) ≡ true
      → verbs_of (extend_header limits context place w) ≡ with_extended number (how_of w) (verbs_of w)
  pub extends : (number : ℕ) → verb_named w.unit.tokens (name_order w.unit.tokens) w.output ≡ Some number
      → (extend_header limits context place w).extending ≡ lines_of (Some number) (how_of w)
  -- a line of the verb at hand
  pub line : (number : ℕ) → w.extending.verb ≡ Some number → nat_lt number (length (verbs_of w).list) ≡ true
      → tokens_finding (arrow_in w.unit.tokens) w.unit.tokens w.output.names ≡ None
      → line_fault_of limits (length (line_of limits w).tokens) (verbs_of w) ≡ None
      → verbs_of (line_ended limits context place w) ≡ with_line_of number w.extending.place (line_of limits w) (verbs_of w)

abbrev pub VerbsChangeTables : Type 0
VerbsChangeTables = (limits : Limits) (context : Context) (place : Place) (w : Compilation) → VerbsChange limits context place w
