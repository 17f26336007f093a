-- The local variables of a routine. Designer's Manual, fourth edition, section 1.4; Z-Machine Standard 1.1, section 5.2.
use Rattle.std.specs.Prelude.{ℕ, ◌+◌, List, [], ◌∷◌, ◌++◌, length, Bool, true, false, nat_lt, if◌then◌else◌, Option, Some, None}
use Rattle.std.specs.Str.{str_eq_ignore_ascii_case}
use Rattle.inf_scanner.specs.declared.tokens.Place.{Place}
use Rattle.inf_names.specs.Spellings.{Name}

-- a local variable: as the header of its routine spells it, the place there, and whether a statement has named it
pub record Local : Type 0 where
  pub name : List ℕ
  pub place : Place
  pub is_named : Bool

-- the most locals that a routine has
abbrev pub most_locals : ℕ
most_locals = 15

-- the local with a name, in any case
abbrev pub local_of : List ℕ → List Local → Option Local
local_of name [] = None
local_of name (l ∷ locals) = if str_eq_ignore_ascii_case l.name name then Some l else local_of name locals

-- the number of the local with a name, in any case: locals are the variables from 1 on (section 4.2.2)
abbrev pub number_from : ℕ → List ℕ → List Local → Option ℕ
number_from n name [] = None
number_from n name (l ∷ locals) = if str_eq_ignore_ascii_case l.name name then Some n else number_from (n + 1) name locals

abbrev pub local_number : List ℕ → List Local → Option ℕ
local_number name locals = number_from 1 name locals

-- the locals after a statement has named `name`, if it is one of them
abbrev pub with_named : List ℕ → List Local → List Local
with_named name [] = []
with_named name (l ∷ locals) =
    if str_eq_ignore_ascii_case l.name name then record { name = l.name; place = l.place; is_named = true } ∷ locals
    else l ∷ with_named name locals

abbrev pub with_all_named : List Name → List Local → List Local
with_all_named [] locals = locals
with_all_named (n ∷ names) locals = with_all_named names (with_named n.bytes locals)

-- A name that a header gives again, and its first place there.
pub record Repeated : Type 0 where
  pub name : Name
  pub first : Place

-- The locals that a header names: the first 15 different ones, the first name that comes again, and whether there are more.
pub record Headed : Type 0 where
  pub locals : List Local
  pub repeated : Option Repeated
  pub are_too_many : Bool

abbrev pub no_locals : Headed
no_locals = record { locals = []; repeated = None; are_too_many = false }

-- the first of two repeated names
abbrev pub earlier : Option Repeated → Repeated → Option Repeated
earlier None later = Some later
earlier (Some first) later = Some first

abbrev pub with_local_by : Name → Option Local → Headed → Headed
with_local_by n (Some l) h = record h { repeated = earlier h.repeated (record { name = n; first = l.place }) }
with_local_by n None h =
    if nat_lt (length h.locals) most_locals
    then record h { locals = h.locals ++ record { name = n.bytes; place = n.place; is_named = false } ∷ [] }
    else record h { are_too_many = true }

-- the locals of a header with one name more
abbrev pub with_local : Name → Headed → Headed
with_local n h = with_local_by n (local_of n.bytes h.locals) h

abbrev pub with_locals : List Name → Headed → Headed
with_locals [] h = h
with_locals (n ∷ names) h = with_locals names (with_local n h)
