-- Headers and lines of verbs are one operation of the verbs each.
use Rattle.std.proofs.Common.{◌≡◌, ℕ, zero, suc, ◌+◌, length, List, Option, Some, None, Bool, cond, refl, sym, ap, ◌∙◌}
use Rattle.std.proofs.Common.{subst, nat_lt}
use Rattle.inf_settings.specs.Bounds.{Limits}
use Rattle.inf_scanner.specs.declared.tokens.DictionaryWord.{DictionaryWord}
use Rattle.inf_dictionary.specs.{Texts.Text, Words.add_fault as word_fault, Words.word_of}
use Rattle.inf_dictionary.specs.{declared.dictionary.AddFault.AddFault as WordFault, declared.uses.WordUse.WordUse}
use Rattle.inf_names.specs.Spellings.{Name}
use Rattle.inf_unit.specs.{Tokens.SourceToken, Units.bytes_at, Units.name_at, Units.name_order, Units.next_place}
use Rattle.inf_output.specs.Output.{Out, with_word, with_word_by}
use Rattle.inf_compilation.specs.Actions.{Compilation}
use Rattle.inf_verbs.specs.declared.verbs.LinePlace.{LinePlace}
use Rattle.inf_verbs.specs.Verbs.{add_fault, line_fault_of, with_extended, with_line_of, with_verb}
use Rattle.inf_verb_lines.specs.declared.{verbs.Opened.Opened, verbs.VerbHead.VerbHead}
use Rattle.inf_verb_lines.specs.Verbs.{action_by, arrow_in, header_opened, head_finding, like_used}
use Rattle.inf_verb_lines.specs.Verbs.{line_kept_by, line_laid, line_tokens, lines_of}
use Rattle.inf_verb_lines.specs.Verbs.{new_verb_by, one_line_by}
use Rattle.inf_verb_lines.specs.Verbs.{place_named, verb_begun, verb_extended, verb_named, verb_opened, verb_use, with_verbs, word_at}
use Rattle.inf_verb_lines.specs.Verbs.{word_used, words_given, words_used}
use Rattle.inf_entry_laws.specs.Verbs.{VerbsChangeTables, WordFits, WordsFit, head_of, line_of, taken, use_of, verbs_of, word_with}
use Rattle.inf_entry_laws.specs.Verbs.{words_with}
use Rattle.inf_entry_laws.proofs.Lines.{action_stays, tokens_stay}

module _ (limits : Limits) where
  -- Words leave the verbs.

  word_stays_by : (f : Option WordFault) (text : Text) (how : WordUse) (is_plural : Bool) (o : Out)
      → (with_word_by limits f text how is_plural o).tables.verbs ≡ o.tables.verbs
  word_stays_by None text how is_plural o = refl
  word_stays_by (Some WordFault.Full) text how is_plural o = refl
  word_stays_by (Some WordFault.OtherVerb) text how is_plural o = refl
  word_stays_by (Some WordFault.Memory) text how is_plural o = refl

  word_stays : (text : Text) (how : WordUse) (is_plural : Bool) (o : Out)
      → (with_word limits text how is_plural o).tables.verbs ≡ o.tables.verbs
  word_stays text how is_plural o =
      word_stays_by (word_fault limits (word_of text o.tables.dictionary.list) how o.tables.dictionary) text how is_plural o

  used_stays : (word : Option DictionaryWord) (how : WordUse) (o : Out) → (word_used limits word how o).tables.verbs ≡ o.tables.verbs
  used_stays None how o = refl
  used_stays (Some word) how o = word_stays word.text how word.is_plural o

  words_stay : (at : ℕ) (tokens : List SourceToken) (how : WordUse) (o : Out)
      → (words_used limits at tokens how o).tables.verbs ≡ o.tables.verbs
  words_stay zero tokens how o = refl
  words_stay (suc at) tokens how o = used_stays (word_at tokens at) how (words_used limits at tokens how o) ∙ words_stay at tokens how o

  like_stays : (at : Option ℕ) (tokens : List SourceToken) (number : ℕ) (o : Out)
      → (like_used limits at tokens number o).tables.verbs ≡ o.tables.verbs
  like_stays None tokens number o = refl
  like_stays (Some at) tokens number o = used_stays (word_at tokens at) (WordUse.Verb number) o

  given_stays : (number : Option ℕ) (head : VerbHead) (tokens : List SourceToken) (o : Out)
      → (words_given limits number head tokens o).tables.verbs ≡ o.tables.verbs
  given_stays None head tokens o = refl
  given_stays (Some number) head tokens o =
      like_stays head.like tokens number (words_used limits head.end tokens (verb_use number head.is_meta) o)
      ∙ words_stay head.end tokens (verb_use number head.is_meta) o

  -- Words that fit are used.

  word_is : (word : Option DictionaryWord) (how : WordUse) (o : Out) → WordFits limits word how o.tables.dictionary
      → (word_used limits word how o).tables.dictionary ≡ word_with word how o.tables.dictionary
  word_is None how o fits = refl
  word_is (Some word) how o fits = ap (λ f. (with_word_by limits f word.text how word.is_plural o).tables.dictionary) fits

  words_are : (at : ℕ) (tokens : List SourceToken) (how : WordUse) (o : Out) → WordsFit limits at tokens how o.tables.dictionary
      → (words_used limits at tokens how o).tables.dictionary ≡ words_with at tokens how o.tables.dictionary
  words_are zero tokens how o fits = refl
  words_are (suc at) tokens how o fits =
      let p = words_used limits at tokens how o in
      let rest = words_are at tokens how o fits.0 in
      word_is (word_at tokens at) how p (subst (WordFits limits (word_at tokens at) how) (sym rest) fits.1)
      ∙ ap (word_with (word_at tokens at) how) rest

  -- Tokens and actions leave the verbs.

  tokens_leave : (at : ℕ) (tokens : List SourceToken) (o : Out) → (line_tokens limits at tokens o).0.tables.verbs ≡ o.tables.verbs
  tokens_leave =
      tokens_stay limits (λ t. t.verbs) (λ text p o. word_stays text WordUse.Preposition p o) (λ routines t. refl) (λ all t. refl)

  action_leaves : (name : Option Name) (o : Out) → (action_by limits name o).0.tables.verbs ≡ o.tables.verbs
  action_leaves =
      action_stays limits (λ t. t.verbs) (λ text p o. word_stays text WordUse.Preposition p o) (λ routines t. refl) (λ all t. refl)

  -- Lemmas about headers

  module _ (w : Compilation) where
    abbrev tokens : List SourceToken
    tokens = w.unit.tokens

    -- what a header with nothing wrong leaves of the output, by what its `=` names
    abbrev new_opened : Out × Opened
    new_opened = new_verb_by limits None w.output

    new_is : (head_of w).like ≡ None → add_fault limits (verbs_of w) ≡ None → verb_opened limits (head_of w) tokens w.output
        ≡ (words_given limits new_opened.1.words (head_of w) tokens new_opened.0, new_opened.1.lines)
    new_is none fits = ap (λ like. (
      words_given limits (verb_begun limits like tokens w.output).1.words (head_of w) tokens (verb_begun limits like tokens w.output).0,
      (verb_begun limits like tokens w.output).1.lines,
    )) none ∙ ap (λ f. (
      words_given limits (new_verb_by limits f w.output).1.words (head_of w) tokens (new_verb_by limits f w.output).0,
      (new_verb_by limits f w.output).1.lines,
    )) fits

    header_is : head_finding (head_of w) tokens w.output ≡ None
        → header_opened limits (head_finding (head_of w) tokens w.output) (head_of w) w ≡ header_opened limits None (head_of w) w
    header_is untold = ap (λ f. header_opened limits f (head_of w) w) untold

    like_is : (at number : ℕ) → (head_of w).like ≡ Some at → verb_named tokens at w.output ≡ Some number
        → verb_opened limits (head_of w) tokens w.output
        ≡ (words_given limits (Some number) (head_of w) tokens w.output, None)
    like_is at number like named = ap (λ l. (
      words_given limits (verb_begun limits l tokens w.output).1.words (head_of w) tokens (verb_begun limits l tokens w.output).0,
      (verb_begun limits l tokens w.output).1.lines,
    )) like ∙ ap (λ n. (words_given limits n (head_of w) tokens w.output, None)) named

pub verbs_change : VerbsChangeTables
verbs_change limits context place w =
    let tokens = w.unit.tokens in
    let head = head_of w in
    let number = length (verbs_of w).list in
    record {
      verb = λ none untold fits. ap (λ u. u.output.tables.verbs) (header_is limits w untold)
          ∙ ap (λ v. v.0.tables.verbs) (new_is limits w none fits)
          ∙ given_stays limits (Some number) head tokens (with_verbs (with_verb (verbs_of w)) w.output);
      words = λ none untold fits words. ap (λ u. u.output.tables.dictionary) (header_is limits w untold)
          ∙ ap (λ v. v.0.tables.dictionary) (new_is limits w none fits)
          ∙ ap (λ l. (like_used limits l tokens number (words_used limits head.end tokens (use_of number w)
          (with_verbs (with_verb (verbs_of w)) w.output))).tables.dictionary) none
          ∙ words_are limits head.end tokens (use_of number w) (with_verbs (with_verb (verbs_of w)) w.output) words;
      opens = λ none untold fits. ap (λ u. u.extending) (header_is limits w untold)
          ∙ ap (λ v. lines_of v.1 LinePlace.Last) (new_is limits w none fits);
      like = λ at n like untold named. ap (λ u. u.output.tables.verbs) (header_is limits w untold)
          ∙ ap (λ v. v.0.tables.verbs) (like_is limits w at n like named)
          ∙ given_stays limits (Some n) head tokens w.output;
      more_words = λ at n like untold named words word.
          let o = words_used limits head.end tokens (use_of n w) w.output in
          let are = words_are limits head.end tokens (use_of n w) w.output words in
          ap (λ u. u.output.tables.dictionary) (header_is limits w untold)
          ∙ ap (λ v. v.0.tables.dictionary) (like_is limits w at n like named)
          ∙ ap (λ l. (like_used limits l tokens n o).tables.dictionary) like
          ∙ word_is limits (word_at tokens at) (WordUse.Verb n) o
          (subst (WordFits limits (word_at tokens at) (WordUse.Verb n)) (sym are) word)
          ∙ ap (word_with (word_at tokens at) (WordUse.Verb n)) are;
      extend = λ n named there.
          let at = name_order tokens in
          let how = place_named (bytes_at tokens (at + 1)) in
          let o = word_used limits (word_at tokens at) (WordUse.Verb n) w.output in
          let stays = used_stays limits (word_at tokens at) (WordUse.Verb n) w.output in
          ap (λ k. (verb_extended limits k how (word_at tokens at) w.output).tables.verbs) named
          ∙ ap (λ b. (cond b (with_verbs (with_extended n how o.tables.verbs) o) o).tables.verbs)
          (ap (λ v. nat_lt n (length v.list)) stays ∙ there)
          ∙ ap (with_extended n how) stays;
      extends = λ n named.
          let at = name_order tokens in
          let how = place_named (bytes_at tokens (at + 1)) in
          ap (λ k. lines_of k how) named;
      line = λ n verb there untold fits.
          let arrow = arrow_in tokens in
          let name = name_at tokens (next_place arrow) in
          let o = (action_by limits name (taken limits w).0).0 in
          let l = line_of limits w in
          let how = w.extending.place in
          let stays : o.tables.verbs ≡ verbs_of w =
          action_leaves limits name (taken limits w).0 ∙ tokens_leave limits arrow tokens w.output in
          ap (λ f. verbs_of (line_laid limits f arrow w)) untold
          ∙ ap (λ v. (line_kept_by limits v how l o).tables.verbs) verb
          ∙ ap (λ b. (cond b (one_line_by limits (line_fault_of limits (length l.tokens) o.tables.verbs) n how l o) o).tables.verbs)
          (ap (λ v. nat_lt n (length v.list)) stays ∙ there)
          ∙ ap (λ f. (one_line_by limits f n how l o).tables.verbs) (ap (line_fault_of limits (length l.tokens)) stays ∙ fits)
          ∙ ap (with_line_of n how l) stays;
    }
