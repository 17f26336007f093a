-- The property of a grammar's table by which one token decides. It is computed, rule by rule.
use Rattle.std.specs.Prelude.{ℕ, ◌+◌, List, [], ◌∷◌, Bool, true, ◌&&◌, ◌==◌, nat_lt, if◌then◌else◌, suc, bit_or, bit_and}
use Rattle.inf_machine.specs.{Grammar.Grammar, Grammar.Row, Machine.Known, Machine.can_end, declared.symbols.Symbol.Symbol}

-- tells whether a set is a part of another
abbrev pub is_within : ℕ → ℕ → Bool
is_within inner outer = bit_or inner outer == outer

-- the atoms that begin symbols
abbrev pub beginning : {A : Type 0} → Grammar A → Known → List (Symbol A) → ℕ
beginning g k [] = 0
beginning g k (Symbol.Token class ∷ symbols) = g.atoms_of class
beginning g k (Symbol.Act a ∷ symbols) = beginning g k symbols
beginning g k (Symbol.Rule rule ∷ symbols) = if k.is_empty rule then bit_or (k.begins rule) (beginning g k symbols) else k.begins rule

-- the atoms that begin any of the rows
abbrev pub all_beginnings : {A : Type 0} → Grammar A → Known → List (Row A) → ℕ
all_beginnings g k [] = 0
all_beginnings g k (row ∷ rows) = bit_or (beginning g k row.parts) (all_beginnings g k rows)

-- tells whether no atom begins two of the rows, and none that is in `seen` begins one
abbrev pub are_apart : {A : Type 0} → Grammar A → Known → ℕ → List (Row A) → Bool
are_apart g k seen [] = true
are_apart g k seen (row ∷ rows) =
    (bit_and seen (beginning g k row.parts) == 0) && are_apart g k (bit_or seen (beginning g k row.parts)) rows

-- the number of rows that can be empty
abbrev pub empty_rows : {A : Type 0} → Known → List (Row A) → ℕ
empty_rows k [] = 0
empty_rows k (row ∷ rows) = (if can_end k row.parts then 1 else 0) + empty_rows k rows

-- tells whether all atoms that follow a rule among the symbols are known to follow it, where the atoms `next` come behind the symbols
abbrev pub is_followed : {A : Type 0} → Grammar A → Known → ℕ → List (Symbol A) → Bool
is_followed g k next [] = true
is_followed g k next (Symbol.Token class ∷ symbols) = is_followed g k next symbols
is_followed g k next (Symbol.Act a ∷ symbols) = is_followed g k next symbols
is_followed g k next (Symbol.Rule rule ∷ symbols) =
    is_within (if can_end k symbols then bit_or (beginning g k symbols) next else beginning g k symbols) (k.follows rule)
    && is_followed g k next symbols

-- a bound on the steps through symbols to a token
abbrev pub steps_through : {A : Type 0} → Known → List (Symbol A) → ℕ
steps_through k [] = 0
steps_through k (Symbol.Token class ∷ symbols) = 1
steps_through k (Symbol.Act a ∷ symbols) = suc (steps_through k symbols)
steps_through k (Symbol.Rule rule ∷ symbols) = k.steps rule + (if k.is_empty rule then steps_through k symbols else 0)

-- Tells whether a row is fit for its rule. If it can be empty, the atoms before which it is not taken begin the rule, and each atom that
-- both begins the rule and may follow it is one of them; where there are any, no atom begins the row. If it cannot be empty there are none.
abbrev pub is_preferred : {A : Type 0} → Grammar A → Known → ℕ → Row A → Bool
is_preferred g k rule row =
    if can_end k row.parts
    then (if row.unless == 0 then bit_and (k.begins rule) (k.follows rule) == 0
    else (beginning g k row.parts == 0) && is_within row.unless (k.begins rule) && is_within (bit_and (k.begins rule) (k.follows rule))
    row.unless)
    else row.unless == 0

abbrev pub is_sound : {A : Type 0} → Grammar A → Known → ℕ → Row A → Bool
is_sound g k rule row =
    is_preferred g k rule row && is_followed g k (k.follows rule) row.parts && nat_lt (steps_through k row.parts) (k.steps rule)

abbrev pub are_sound : {A : Type 0} → Grammar A → Known → ℕ → List (Row A) → Bool
are_sound g k rule [] = true
are_sound g k rule (row ∷ rows) = is_sound g k rule row && are_sound g k rule rows

-- tells whether one atom decides which row of a rule is taken
abbrev pub is_decided : {A : Type 0} → Grammar A → Known → ℕ → Bool
is_decided g k rule =
    let rows = g.rows_of rule in
    (all_beginnings g k rows == k.begins rule) && are_apart g k 0 rows && (empty_rows k rows == (if k.is_empty rule then 1 else 0))
    && are_sound g k rule rows
