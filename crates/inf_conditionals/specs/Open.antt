-- The conditionals that are open.
use Rattle.std.specs.Prelude.{ℕ, ◌-◌, ◌+◌, List, [], ◌∷◌, drop, min, Bool, true, false, not, if◌then◌else◌, Option, Some, None}
use Rattle.inf_scanner.specs.declared.tokens.Place.{Place}
use Rattle.inf_conditionals.specs.{Condition.Condition, Said.Said, declared.open.LeftOut.LeftOut, declared.pending.Pending.Pending}
use Rattle.inf_conditionals.specs.{declared.words.ConditionalWord.ConditionalWord}
use Rattle.inf_sources.specs.declared.open_file.Conditional.{Conditional}

-- The conditionals of the file that is read that were opened between its directives, and those that were opened inside the directive at
-- hand, the latest first; the conditional directives that are being read, the inner ones first, and the conditions of those that have
-- one; the side that is left out, if one is; a `#` that is held back; the number of names that were declared before the directive at
-- hand; the most tokens that a condition had so far; and the message about a condition.
pub record Conditions : Type 0 where
  pub among : List Conditional
  pub inner : List Conditional
  pub pending : List Pending
  pub conditions : List Condition
  pub left_out : Option LeftOut
  pub sign : Option Place
  pub declared : ℕ
  pub most_tokens : ℕ
  pub said : Option Said

abbrev pub no_conditions : Conditions
no_conditions = record {
  among = [];
  inner = [];
  pending = [];
  conditions = [];
  left_out = None;
  sign = None;
  declared = 0;
  most_tokens = 0;
  said = None;
}

-- the conditionals without a message about a condition
abbrev pub silent : Conditions → Conditions
silent c = record c { said = None }

abbrev pub is_none_open : List Conditional → Bool
is_none_open [] = true
is_none_open (c ∷ cs) = false

-- Tells whether the first of these is in its second side, or there is none.
abbrev pub is_second : List Conditional → Bool
is_second [] = true
is_second (c ∷ cs) = c.is_second

-- The latest conditional is one that was opened inside the directive at hand, or else one of the file.
abbrev pub latest_among : List Conditional → List Conditional → List Conditional
latest_among [] among = among
latest_among (c ∷ inner) among = c ∷ inner

abbrev pub latest : Conditions → List Conditional
latest c = latest_among c.inner c.among

-- conditionals of a list, with the first one in its second side
abbrev pub turned_first : List Conditional → List Conditional
turned_first [] = []
turned_first (c ∷ cs) = record c { is_second = true } ∷ cs

-- the conditionals, with the latest one in its second side
abbrev pub turned_by : List Conditional → Conditions → Conditions
turned_by [] c = record c { among = turned_first c.among }
turned_by (x ∷ inner) c = record c { inner = turned_first c.inner }

abbrev pub turned : Conditions → Conditions
turned c = turned_by c.inner c

-- the conditionals without the latest one
abbrev pub closed_by : List Conditional → Conditions → Conditions
closed_by [] c = record c { among = drop 1 c.among }
closed_by (x ∷ inner) c = record c { inner = inner }

abbrev pub closed : Conditions → Conditions
closed c = closed_by c.inner c

-- the conditionals with one more that a directive opens, inside another or not; its first side is kept or left out
abbrev pub opened : Bool → Pending → Conditions → Conditions
opened is_kept p c =
    let new : Conditional = record { place = p.place; is_second = false } in
    record c {
      among = if p.is_inner then c.among else new ∷ c.among;
      inner = if p.is_inner then new ∷ c.inner else c.inner;
      left_out = if is_kept then None else Some (record { is_inner = p.is_inner; levels = 0 });
    }

-- the number at which the count of levels stops: no file has as many
abbrev pub most_levels : ℕ
most_levels = 4294967295

-- the number of levels that are open in a side that is left out, behind a word
abbrev pub levels_behind : ConditionalWord → ℕ → ℕ
levels_behind ConditionalWord.Endif n = n - 1
levels_behind ConditionalWord.Ifnot n = n
levels_behind _ n = min (n + 1) most_levels

-- Tells whether a word ends a side that is left out, at its own level.
abbrev pub ends_at : ConditionalWord → Bool → Bool
ends_at ConditionalWord.Endif is_second = true
ends_at ConditionalWord.Ifnot is_second = not is_second
ends_at _ is_second = false

-- the conditionals behind a word that ends a side, which acts at once
abbrev pub ended_by : ConditionalWord → Conditions → Conditions
ended_by ConditionalWord.Endif c = closed c
ended_by _ c = turned c
