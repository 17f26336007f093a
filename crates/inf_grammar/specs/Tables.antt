-- The grammar as the program has it: flat tables of numbers.
use Rattle.std.specs.Prelude.{ℕ, ◌+◌, ◌*◌, ◌/◌, ◌%◌, ◌^◌, List, [], ◌∷◌, ◌++◌, Bool, map, reverse, length, take, drop, if◌then◌else◌}
use Rattle.std.specs.Prelude.{nat_le, ◌-◌, ◌&&◌}
use Rattle.inf_machine.specs.{Decided.beginning, Grammar.Row, Grammar.has, declared.symbols.Symbol.Symbol}
use Rattle.inf_machine.specs.Machine.{can_end, empty_row, is_silent, depth}
use Rattle.inf_grammar.specs.{Facts.beginnings, Facts.empties, Language.grammar, Language.known, Language.rules}
use Rattle.inf_grammar.specs.declared.{rules.Row.Row as CodeRow, rules.Rule.Rule as CodeRule, rules.Set.Set, rules.Span.Span}
use Rattle.inf_syntax.specs.{Classes.classes, declared.actions.Action.Action}

-- a set as four numbers of 64 bits, the lowest first
abbrev pub set_of : ℕ → Set
set_of n = record { 0 = n % 2 ^ 64 ∷ n / 2 ^ 64 % 2 ^ 64 ∷ n / 2 ^ 128 % 2 ^ 64 ∷ n / 2 ^ 192 % 2 ^ 64 ∷ [] }

abbrev pub span : ℕ → ℕ → Span
span start size = record { start = start; end = start + size }

unfoldable pub all_classes : List Set
all_classes = map set_of classes

-- the parts of some rows, those of a row from the last to the first
abbrev pub parts_of : List (Row Action) → List (Symbol Action)
parts_of [] = []
parts_of (row ∷ rows) = reverse row.parts ++ parts_of rows

abbrev pub parts_of_all : List (List (Row Action)) → List (Symbol Action)
parts_of_all [] = []
parts_of_all (rows ∷ rest) = parts_of rows ++ parts_of_all rest

unfoldable pub all_parts : List (Symbol Action)
all_parts = parts_of_all rules

-- some rows, the parts of the first at `place`
abbrev pub rows_from : ℕ → List (Row Action) → List CodeRow
rows_from place [] = []
rows_from place (row ∷ rows) =
    record { begins = set_of (beginning grammar known row.parts); parts = span place (length row.parts) } ∷ rows_from
    (place + length row.parts) rows

abbrev pub rows_of_all : ℕ → List (List (Row Action)) → List CodeRow
rows_of_all place [] = []
rows_of_all place (rows ∷ rest) = rows_from place rows ++ rows_of_all (place + length (parts_of rows)) rest

unfoldable pub all_rows : List CodeRow
unfolding grammar known
all_rows = rows_of_all 0 rules

-- the place of the parts of the row that can be empty
abbrev pub other_from : ℕ → List (Row Action) → Span
other_from place [] = span 0 0
other_from place (row ∷ rows) =
    if can_end known row.parts then span place (length row.parts) else other_from (place + length row.parts) rows

-- the place of the parts that are put in place of a rule that is passed over
abbrev pub passed_from : ℕ → List (Row Action) → Span
passed_from place rows = if is_silent grammar known depth (empty_row known rows) then span 0 0 else other_from place rows

abbrev pub rules_from : ℕ → ℕ → List (List (Row Action)) → List ℕ → List Bool → List CodeRule
rules_from first place [] _ _ = []
rules_from first place (rows ∷ rest) [] _ = []
rules_from first place (rows ∷ rest) (b ∷ bs) [] = []
rules_from first place (rows ∷ rest) (b ∷ bs) (e ∷ es) =
    record { begins = set_of b; is_empty = e; rows = span first (length rows); other = passed_from place rows }
    ∷ rules_from (first + length rows) (place + length (parts_of rows)) rest bs es

unfoldable pub all_rules : List CodeRule
unfolding grammar known
all_rules = rules_from 0 0 rules beginnings empties

-- Definitions of the reading of the tables

-- numbers of 64 bits as one, the lowest first
abbrev pub joined_words : List ℕ → ℕ
joined_words [] = 0
joined_words (w ∷ ws) = joined_words ws * 2 ^ 64 + w

abbrev pub set_number : Set → ℕ
set_number set = joined_words set.0

-- the items of a span
abbrev pub cut : {X : Type 0} → Span → List X → List X
cut s xs = if nat_le s.start s.end && nat_le s.end (length xs) then take (s.end - s.start) (drop s.start xs) else []

-- the place of the parts of the first row that an atom begins, or else `other`
abbrev pub found : ℕ → Span → List CodeRow → Span
found atom other [] = other
found atom other (row ∷ rows) = if has (set_number row.begins) atom then row.parts else found atom other rows

-- the place of the parts that are put in place of a rule before an atom
abbrev pub span_for : CodeRule → ℕ → Span
span_for rule atom = if has (set_number rule.begins) atom then found atom rule.other (cut rule.rows all_rows) else rule.other
