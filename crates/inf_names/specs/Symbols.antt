-- The names of a source: those that it declares or uses, in the order in which they first came.
use Rattle.std.specs.{Char.to_ascii_lowercase, Str.bytes_eq}
use Rattle.std.specs.Prelude.{ℕ, ◌+◌, List, [], ◌∷◌, length, map, Bool, false, nat_lt, nat_le, slice_get, if◌then◌else◌, Option, Some, None}
use Rattle.std.specs.Prelude.{is_some}
use Rattle.inf_settings.specs.{Bounds.Limits, declared.setting.Setting.Setting}
use Rattle.inf_names.specs.{SystemNames.system_meaning, declared.meanings.Meaning.Meaning, declared.symbols.DeclareFault.DeclareFault}
use Rattle.inf_names.specs.{declared.symbols.Found.Found, declared.symbols.ReferFault.ReferFault}

-- a name without case
abbrev pub folded : List ℕ → List ℕ
folded name = map to_ascii_lowercase name

-- The state of a name: the name was declared as the one of this number, counted from 0, with this meaning and at this place;
-- or it was used and not declared so far, with this spelling and at this place first.
pub data Standing (P : Type 0) : Type 0 where
  IsDeclared : (number : ℕ) (meaning : Meaning) (place : P) → Standing P
  IsUsed : (spelling : List ℕ) (place : P) → Standing P

-- a name without case, and its state
pub record Named (P : Type 0) : Type 0 where
  pub name : List ℕ
  pub standing : Standing P

-- The names, the number of them that were declared, and whether the language has the name DEBUG too.
pub record Table (P : Type 0) : Type 0 where
  pub names : List (Named P)
  pub declared : ℕ
  pub is_debugging : Bool

abbrev pub no_names : {P : Type 0} → Bool → Table P
no_names debugging = record { names = []; declared = 0; is_debugging = debugging }

abbrev pub standing_of : {P : Type 0} → List ℕ → List (Named P) → Option (Standing P)
standing_of key [] = None
standing_of key (n ∷ names) = if bytes_eq key n.name then Some n.standing else standing_of key names

-- a name with its state, in its place among the names or behind the others
abbrev pub put : {P : Type 0} → List ℕ → Standing P → List (Named P) → List (Named P)
put key standing [] = record { name = key; standing = standing } ∷ []
put key standing (n ∷ names) =
    if bytes_eq key n.name then record { name = n.name; standing = standing } ∷ names else n ∷ put key standing names

-- the number of names before a name
abbrev pub index_of : {P : Type 0} → List ℕ → List (Named P) → ℕ
index_of key [] = 0
index_of key (n ∷ names) = if bytes_eq key n.name then 0 else index_of key names + 1

-- the number of names before a name, where it is one of them
abbrev pub number_among : {P : Type 0} → List ℕ → List (Named P) → Option ℕ
number_among key names = if is_some (standing_of key names) then Some (index_of key names) else None

-- the finding of a look-up of a name that was neither declared nor used
abbrev pub found_from : {P : Type 0} → Option Meaning → Found P
found_from None = Found.Unknown
found_from (Some meaning) = Found.System meaning

abbrev pub found_as : {P : Type 0} → Option Meaning → Option (Standing P) → Found P
found_as system None = found_from system
found_as system (Some (IsDeclared number meaning place)) = Found.Declared meaning place
found_as system (Some (IsUsed spelling place)) = Found.Used

abbrev pub found_in : {P : Type 0} → List ℕ → Table P → Found P
found_in name t = found_as (system_meaning t.is_debugging name) (standing_of (folded name) t.names)

-- whether there are as many names as there may be
abbrev pub is_full : {P : Type 0} → Limits → Table P → Bool
is_full limits t = nat_le (limits Setting.Symbols) (length t.names)

-- The reason for which a name cannot be declared: it is there already, and then its place is told where it was declared; or
-- there would be more names than there may be.
abbrev pub declare_fault_by : {P : Type 0} → Found P → Bool → Option (DeclareFault P)
declare_fault_by (Found.System meaning) full = Some (DeclareFault.Present None)
declare_fault_by (Found.Declared meaning place) full = Some (DeclareFault.Present (Some place))
declare_fault_by Found.Used full = None
declare_fault_by Found.Unknown full = if full then Some DeclareFault.Full else None

abbrev pub declare_fault : {P : Type 0} → Limits → List ℕ → Table P → Option (DeclareFault P)
declare_fault limits name t = declare_fault_by (found_in name t) (is_full limits t)

-- the fault that is told: the one that was found, or else that memory ran out
abbrev pub declare_refusal : {P : Type 0} → Option (DeclareFault P) → DeclareFault P
declare_refusal None = DeclareFault.Memory
declare_refusal (Some fault) = fault

-- the names after a name is declared
abbrev pub with_declared : {P : Type 0} → List ℕ → P → Meaning → Table P → Table P
with_declared name place meaning t =
    record t { names = put (folded name) (IsDeclared t.declared meaning place) t.names; declared = t.declared + 1 }

-- the reason for which a name cannot be used: there would be more names than there may be
abbrev pub refer_fault_by : {P : Type 0} → Found P → Bool → Option ReferFault
refer_fault_by Found.Unknown full = if full then Some ReferFault.Full else None
refer_fault_by other full = None

abbrev pub refer_fault : {P : Type 0} → Limits → List ℕ → Table P → Option ReferFault
refer_fault limits name t = refer_fault_by (found_in name t) (is_full limits t)

abbrev pub refer_refusal : Option ReferFault → ReferFault
refer_refusal None = ReferFault.Memory
refer_refusal (Some fault) = fault

-- The names after a name is used: the first use of one that is neither declared nor the language's own is kept.
abbrev pub with_used_by : {P : Type 0} → Found P → List ℕ → P → Table P → Table P
with_used_by Found.Unknown name place t = record t { names = put (folded name) (IsUsed name place) t.names }
with_used_by other name place t = t

abbrev pub with_used : {P : Type 0} → List ℕ → P → Table P → Table P
with_used name place t = with_used_by (found_in name t) name place t

-- the number by which references name a name: how many names came before it; none where the language has it from the start
abbrev pub number_by : {P : Type 0} → Found P → List ℕ → Table P → Option ℕ
number_by (Found.System meaning) name t = None
number_by other name t = Some (index_of (folded name) t.names)

abbrev pub number_of : {P : Type 0} → List ℕ → Table P → Option ℕ
number_of name t = number_by (found_in name t) name t

-- whether a name is the language's own or one of the first `n` that were declared
abbrev pub is_before : {P : Type 0} → ℕ → Option Meaning → Option (Standing P) → Bool
is_before n system None = is_some system
is_before n system (Some (IsDeclared number meaning place)) = nat_lt number n
is_before n system (Some (IsUsed spelling place)) = false

abbrev pub declared_before : {P : Type 0} → List ℕ → ℕ → Table P → Bool
declared_before name n t = is_before n (system_meaning t.is_debugging name) (standing_of (folded name) t.names)

-- the state of the name with a number
abbrev pub standing_at : {P : Type 0} → ℕ → List (Named P) → Option (Standing P)
standing_at {P = P} n names = slice_get (map (λ (m : Named P). m.standing) names) n

abbrev pub meaning_in : {P : Type 0} → Option (Standing P) → Option Meaning
meaning_in None = None
meaning_in (Some (IsDeclared number meaning place)) = Some meaning
meaning_in (Some (IsUsed spelling place)) = None

abbrev pub use_in : {P : Type 0} → Option (Standing P) → Option (List ℕ × P)
use_in None = None
use_in (Some (IsDeclared number meaning place)) = None
use_in (Some (IsUsed spelling place)) = Some (spelling, place)

-- the number of some names that are declared
abbrev pub counted : {P : Type 0} → Standing P → ℕ → ℕ
counted (IsDeclared number meaning place) n = 1 + n
counted (IsUsed spelling place) n = n

abbrev pub declarations : {P : Type 0} → List (Named P) → ℕ
declarations [] = 0
declarations (n ∷ names) = counted n.standing (declarations names)
