-- The units of `Verb` and `Extend` one behind the other, each header with its lines, as a chain of compilations. Where nothing is wrong
-- with any of them, the verbs behind the chain have the lines, and the words the verbs, of the second description.
use Rattle.std.specs.Prelude.{◌≡◌, ℕ, nat_lt, length, List, [], ◌∷◌, map, true, Option, Some, None}
use Rattle.inf_settings.specs.Bounds.{Limits}
use Rattle.inf_scanner.specs.declared.tokens.DictionaryWord.{DictionaryWord}
use Rattle.inf_dictionary.specs.{Words.verb_byte_of, Words.verb_of, declared.uses.WordUse.WordUse}
use Rattle.inf_unit.specs.Units.{name_order}
use Rattle.inf_compilation.specs.{Actions.Compilation, Context.Context}
use Rattle.inf_verbs.specs.{Lines.LineOf, Verbs.add_fault, Verbs.line_fault_of, Verbs.lines_of as lines_in}
use Rattle.inf_verb_lines.specs.Verbs.{arrow_in, extend_header, head_finding, line_ended, texts_before, tokens_finding, verb_header, verb_named}
use Rattle.inf_verb_lines.specs.Verbs.{word_at}
use Rattle.inf_verb_laws.specs.{Laws.where_of, Saying.AreRight}
use Rattle.inf_verb_laws.specs.Verbs.{Extend, Like, Line, Said, Text, Verb, verb_byte, verbs}
use Rattle.inf_entry_laws.specs.Runs.{Piece}
use Rattle.inf_entry_laws.specs.Verbs.{WordFits, WordsFit, head_of, how_of, line_of, use_of, verbs_of, words_of, words_with}

-- a line as it is described, with its unit
pub record LineUnit : Type 0 where
  pub line : Line
  pub unit : Piece

-- `Verb` with its lines; `Verb .. = ..` with the place of the word behind the sign; `Extend` with its lines
pub data VerbUnits : Type 0 where
  New : Piece → List LineUnit → VerbUnits
  More : Piece → ℕ → VerbUnits
  Extended : Piece → List LineUnit → VerbUnits

-- Definitions of the compilation behind each unit

abbrev pub lines_behind : Limits → Context → List LineUnit → Compilation → Compilation
lines_behind limits context [] before = before
lines_behind limits context (l ∷ lines) before = lines_behind limits context lines (line_ended limits context l.unit.place l.unit.work)

abbrev pub verb_behind : Limits → Context → VerbUnits → Compilation
verb_behind limits context (New u lines) = lines_behind limits context lines (verb_header limits context u.place u.work)
verb_behind limits context (More u at) = verb_header limits context u.place u.work
verb_behind limits context (Extended u lines) = lines_behind limits context lines (extend_header limits context u.place u.work)

abbrev pub verbs_behind : Limits → Context → List VerbUnits → Compilation → Compilation
verbs_behind limits context [] before = before
verbs_behind limits context (u ∷ units) before = verbs_behind limits context units (verb_behind limits context u)

-- Definitions of the things that units of verbs say

abbrev pub text_of : Option DictionaryWord → Text
text_of None = []
text_of (Some word) = word.text

abbrev pub text_at : ℕ → Compilation → Text
text_at at w = text_of (word_at w.unit.tokens at)

abbrev pub texts_of : Compilation → List Text
texts_of w = texts_before (head_of w).end w.unit.tokens

abbrev pub lines_said : List LineUnit → List Line
lines_said lines = map (λ l. l.line) lines

abbrev pub said_of : VerbUnits → Said
said_of (New u lines) = Verb (head_of u.work).is_meta (texts_of u.work) (lines_said lines)
said_of (More u at) = Like (head_of u.work).is_meta (texts_of u.work) (text_at at u.work)
said_of (Extended u lines) = Extend (text_at (name_order u.work.unit.tokens) u.work) (where_of (how_of u.work)) (lines_said lines)

-- Nothing is wrong with them. Whatever is compiled between two units leaves the verbs, and of which verb each word is.

pub record Leaves (u : Piece) (before : Compilation) : Type 0 where
  pub verbs : verbs_of u.work ≡ verbs_of before
  pub words : (t : Text) → verb_of t (words_of u.work).list ≡ verb_of t (words_of before).list

pub record IsLine (limits : Limits) (f : Line → LineOf) (l : LineUnit) (number : ℕ) (before : Compilation) : Type 0 where
  pub leaves : Leaves l.unit before
  pub same_verb : l.unit.work.extending ≡ before.extending
  pub there : nat_lt number (length (verbs_of l.unit.work).list) ≡ true
  pub untold : tokens_finding (arrow_in l.unit.work.unit.tokens) l.unit.work.unit.tokens l.unit.work.output.names ≡ None
  pub fits : line_fault_of limits (length (line_of limits l.unit.work).tokens) (verbs_of l.unit.work) ≡ None
  pub told : line_of limits l.unit.work ≡ f l.line

abbrev pub AreLines : Limits → Context → (Line → LineOf) → List LineUnit → ℕ → Compilation → Type 0
AreLines limits context f [] number before = Unit {0}
AreLines limits context f (l ∷ lines) number before =
    IsLine limits f l number before × AreLines limits context f lines number (line_ended limits context l.unit.place l.unit.work)

pub record IsNew (limits : Limits) (context : Context) (f : Line → LineOf) (u : Piece) (lines : List LineUnit) (before : Compilation)
    : Type 0 where
  pub leaves : Leaves u before
  pub plain : (head_of u.work).like ≡ None
  pub untold : head_finding (head_of u.work) u.work.unit.tokens u.work.output ≡ None
  pub fits : add_fault limits (verbs_of u.work) ≡ None
  pub words_fit : WordsFit limits (head_of u.work).end u.work.unit.tokens (use_of (length (verbs_of u.work).list) u.work) (words_of u.work)
  pub are_lines : AreLines limits context f lines (length (verbs_of u.work).list) (verb_header limits context u.place u.work)

pub record IsMore (limits : Limits) (u : Piece) (at : ℕ) (before : Compilation) : Type 0 where
  pub leaves : Leaves u before
  pub sign : (head_of u.work).like ≡ Some at
  pub untold : head_finding (head_of u.work) u.work.unit.tokens u.work.output ≡ None
  pub number : ℕ
  pub named : verb_named u.work.unit.tokens at u.work.output ≡ Some number
  pub words_fit : WordsFit limits (head_of u.work).end u.work.unit.tokens (use_of number u.work) (words_of u.work)
  pub word_fits : WordFits limits (word_at u.work.unit.tokens at) (WordUse.Verb number)
      (words_with (head_of u.work).end u.work.unit.tokens (use_of number u.work) (words_of u.work))

pub record IsExtended (limits : Limits) (context : Context) (f : Line → LineOf) (u : Piece) (lines : List LineUnit) (before : Compilation)
    : Type 0 where
  pub leaves : Leaves u before
  pub number : ℕ
  pub named : verb_named u.work.unit.tokens (name_order u.work.unit.tokens) u.work.output ≡ Some number
  pub there : nat_lt number (length (verbs_of u.work).list) ≡ true
  pub are_lines : AreLines limits context f lines number (extend_header limits context u.place u.work)

abbrev pub IsVerb : Limits → Context → (Line → LineOf) → VerbUnits → Compilation → Type 0
IsVerb limits context f (New u lines) before = IsNew limits context f u lines before
IsVerb limits context f (More u at) before = IsMore limits u at before
IsVerb limits context f (Extended u lines) before = IsExtended limits context f u lines before

abbrev pub AreVerbs : Limits → Context → (Line → LineOf) → List VerbUnits → Compilation → Type 0
AreVerbs limits context f [] before = Unit {0}
AreVerbs limits context f (u ∷ units) before =
    IsVerb limits context f u before × AreVerbs limits context f units (verb_behind limits context u)

-- Behind all units of `Verb` and `Extend` each verb has the lines of the description, each as the tables have it, and each word its verb.
pub record VerbsAreMade (limits : Limits) (context : Context) (f : Line → LineOf) (units : List VerbUnits) (before : Compilation)
    : Type 0 where
  pub lines : map lines_in (verbs_of (verbs_behind limits context units before)).list ≡ map (λ v. map f v.lines) (verbs (map said_of units))
  pub words : (t : Text)
      → verb_byte_of (verb_of t (words_of (verbs_behind limits context units before)).list) ≡ verb_byte (map said_of units) t

abbrev pub UnitsMakeVerbs : Type 0
UnitsMakeVerbs =
    (limits : Limits) (context : Context) (f : Line → LineOf) (units : List VerbUnits) (before : Compilation) →
    (verbs_of before).list ≡ [] → ((t : Text) → verb_of t (words_of before).list ≡ None) → AreRight [] (map said_of units) →
    AreVerbs limits context f units before → VerbsAreMade limits context f units before
