-- One small source with a verb that is extended: its verbs and words by the description, and by the tables of a story.
use Rattle.std.specs.Prelude.{◌≡◌, ℕ, [], ◌∷◌, List, map, true, false, None, if◌then◌else◌}
use Rattle.inf_area.specs.declared.targets.Target.{Target}
use Rattle.inf_dictionary.specs.{Uses.UseOf, Uses.said_of, Words.verb_byte_of, Words.verb_in_word, declared.uses.WordUse.WordUse}
use Rattle.inf_objects.specs.Reading.{filled}
use Rattle.inf_verbs.specs.{Lines.LineOf, declared.lines.LineToken.LineToken, declared.verbs.LinePlace.LinePlace}
use Rattle.inf_verbs.specs.Verbs.{AllVerbs, grammar_cells, with_extended, with_line_of, with_verb}
use Rattle.inf_verbs.specs.declared.lines.Noun.TheVariants as noun
use Rattle.inf_verb_laws.specs.{Laws.flags_in, Reading.line_told, Reading.verb_read}
use Rattle.inf_verb_laws.specs.Verbs.{Extend, First, Noun, Said, Text, Verb, Words, actions, flags, routines, same_text, verb_byte, verbs}

-- three words, which stand at 982, 991 and 1000
abbrev pub off : Text
off = 81 ∷ 107 ∷ 20 ∷ 165 ∷ 148 ∷ 165 ∷ []

abbrev pub take : Text
take = 100 ∷ 208 ∷ 40 ∷ 165 ∷ 148 ∷ 165 ∷ []

abbrev pub up : Text
up = 106 ∷ 165 ∷ 20 ∷ 165 ∷ 148 ∷ 165 ∷ []

abbrev pub word_at : Text → ℕ
word_at t = if same_text t off then 982 else if same_text t take then 991 else 1000

abbrev pub address : Target → ℕ
address (Target.Word text) = word_at text
address t = 21845

-- Verb 'take' * noun -> Take; Extend 'take' first * 'off'/'up' noun -> Take reverse;
-- where 7 stands for the name `Take`.
abbrev pub said : List Said
said =
    Verb false (take ∷ []) (record { tokens = Noun 0 ∷ []; action = 7; is_reverse = false } ∷ [])
    ∷ Extend take First (record { tokens = Words (off ∷ up ∷ []) ∷ Noun 0 ∷ []; action = 7; is_reverse = true } ∷ []) ∷ []

-- the tables of the source
abbrev pub first_line : LineOf
first_line = record {
  action = 0;
  is_reverse = true;
  tokens = LineToken.Preposition off true false ∷ LineToken.Preposition up false true ∷ LineToken.Noun noun.Noun ∷ [];
}

abbrev pub last_line : LineOf
last_line = record { action = 0; is_reverse = false; tokens = LineToken.Noun noun.Noun ∷ [] }

abbrev pub tables : AllVerbs
tables =
    with_line_of 0 LinePlace.First first_line
    (with_extended 0 LinePlace.First (with_line_of 0 LinePlace.Last last_line (with_verb (record { list = [] }))))

abbrev pub use_of : Text → WordUse → UseOf
use_of text how = record { text = text; how = how; is_plural = false }

abbrev pub uses : List UseOf
uses =
    use_of take (WordUse.Verb 0) ∷ use_of take (WordUse.Verb 0) ∷ use_of off WordUse.Preposition ∷ use_of up WordUse.Preposition ∷ []

-- The lines that are read from the bytes of the grammar, behind the address of the verb, are those of the description, and the bytes are
-- these.
abbrev pub LinesAreShown : Type 0
LinesAreShown =
    (filled address (grammar_cells tables.list)
    ≡ 85 ∷ 85 ∷ 2 ∷ 4 ∷ 0 ∷ 34 ∷ 3 ∷ 214 ∷ 18 ∷ 3 ∷ 232 ∷ 1 ∷ 0 ∷ 0 ∷ 15 ∷ 0 ∷ 0 ∷ 1 ∷ 0 ∷ 0 ∷ 15 ∷ [])
    × (verb_read 2 (filled address (grammar_cells tables.list)) ∷ []
    ≡ map (λ v. map (line_told word_at (actions said) (routines said)) v.lines) (verbs said))

-- The words have the flags and the verb bytes of the description.
abbrev pub WordsAreShown : Type 0
WordsAreShown =
    (map (λ t. flags_in (said_of t uses None)) (off ∷ take ∷ up ∷ []) ≡ map (flags said) (off ∷ take ∷ up ∷ []))
    × (map (λ t. verb_byte_of (verb_in_word (said_of t uses None))) (off ∷ take ∷ up ∷ []) ≡ map (verb_byte said) (off ∷ take ∷ up ∷ []))
