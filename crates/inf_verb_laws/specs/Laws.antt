-- Words and lines: the definitions of the tables agree with the description.
use Rattle.std.specs.Prelude.{◌≡◌, ℕ, ◌++◌, [], ◌∷◌, List, map, Bool, Option, Some, None, if◌then◌else◌, ◌<◌, length, fold}
use Rattle.inf_area.specs.declared.targets.Target.{Target}
use Rattle.inf_dictionary.specs.{Uses.UseOf, Uses.said_of, declared.uses.Word.Word, declared.uses.WordUse.WordUse}
use Rattle.inf_objects.specs.Reading.{filled}
use Rattle.inf_verbs.specs.{Lines.LineOf, Lines.lines_cells, Routines.AllActions, Routines.with_action, Routines.with_routine}
use Rattle.inf_verbs.specs.{declared.lines.LineToken.LineToken, declared.lines.Noun.Noun as NounKind, declared.verbs.LinePlace.LinePlace}
use Rattle.inf_verbs.specs.Verbs.{VerbOf, extended as with_place, lines_of, with_line}
use Rattle.inf_verb_laws.specs.Reading.{Read, lines_read}
use Rattle.inf_verb_laws.specs.Verbs.{First, Last, Replace, Text, Where, all_bits, distinct, extended}

-- Words: the flags of one are those of all its uses together.

abbrev pub flags_in : Option Word → ℕ
flags_in None = 0
flags_in (Some word) = word.flags

abbrev pub bits_of : WordUse → Bool → ℕ
bits_of (WordUse.Verb number) is_plural = if is_plural then 5 else 1
bits_of (WordUse.MetaVerb number) is_plural = if is_plural then 7 else 3
bits_of WordUse.Preposition is_plural = if is_plural then 12 else 8
bits_of WordUse.Other is_plural = if is_plural then 132 else 128

abbrev pub FlagsAgree : Type 0
FlagsAgree =
    (uses : List UseOf) (t : Text) →
    flags_in (said_of t uses None) ≡ all_bits (map (λ u. (u.text, bits_of u.how u.is_plural)) uses) t

-- Actions, and routines that parse, stand in the order of their first appearance.

abbrev pub RoutinesAgree : Type 0
RoutinesAgree = (named : List ℕ) → fold (λ routines n. with_routine n routines) [] named ≡ distinct [] named

abbrev pub no_actions : ℕ → AllActions
no_actions fakes = record { routines = []; fakes = fakes }

abbrev pub ActionsAgree : Type 0
ActionsAgree =
    (fakes : ℕ) (named : List ℕ) →
    (fold (λ actions n. with_action n actions) (no_actions fakes) named).routines ≡ distinct [] named

-- An `Extend` puts its lines, one by one, where the description has them.

abbrev pub where_of : LinePlace → Where
where_of LinePlace.First = First
where_of LinePlace.Last = Last
where_of LinePlace.Replace = Replace

abbrev pub ExtendAgrees : Type 0
ExtendAgrees =
    (how : LinePlace) (new : List LineOf) (verb : VerbOf) →
    lines_of (fold (λ v l. with_line how l v) (with_place how verb) new) ≡ extended (where_of how) new (lines_of verb)

-- A line of the tables as it should be read: the number of each kind of noun, and the type of each kind of token

abbrev pub noun_of : NounKind → ℕ
noun_of NounKind.Noun = 0
noun_of NounKind.Held = 1
noun_of NounKind.Multi = 2
noun_of NounKind.MultiHeld = 3
noun_of NounKind.MultiExcept = 4
noun_of NounKind.MultiInside = 5
noun_of NounKind.Creature = 6
noun_of NounKind.Special = 7
noun_of NounKind.Number = 8
noun_of NounKind.Topic = 9

abbrev pub token_seen : (Target → ℕ) → LineToken → ℕ × ℕ
token_seen address (LineToken.Noun n) = (1, noun_of n)
token_seen address (LineToken.Preposition text is_first is_last) =
    (if is_first then (if is_last then 2 else 34) else (if is_last then 18 else 50), address (Target.Word text))
token_seen address (LineToken.Filter n) = (3, n)
token_seen address (LineToken.Attribute n) = (4, n)
token_seen address (LineToken.Scope n) = (5, n)
token_seen address (LineToken.Routine n) = (6, n)

abbrev pub line_seen : (Target → ℕ) → LineOf → Read
line_seen address l = record { action = l.action; is_reverse = l.is_reverse; tokens = map (token_seen address) l.tokens }

-- Lines that are read back from their bytes are what they were, where a story has fewer than 1,024 actions.

abbrev pub AreActions : List LineOf → Type 0
AreActions [] = Unit {0}
AreActions (l ∷ lines) = (l.action < 1024) × AreActions lines

abbrev pub LinesAreRead : Type 0
LinesAreRead =
    (address : Target → ℕ) (lines : List LineOf) (rest : List ℕ) → AreActions lines →
    lines_read (length lines) (filled address (lines_cells lines) ++ rest) ≡ map (line_seen address) lines
