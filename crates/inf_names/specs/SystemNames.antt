-- The names that the language has from the start, and their meanings (Inform Designer's Manual, fourth edition).
use Rattle.std.specs.{Char.to_ascii_lowercase, List.list_any, Str.str_eq_ignore_ascii_case}
use Rattle.std.specs.Prelude.{ℕ, ◌-◌, Bool, true, ◌&&◌, List, [], ◌∷◌, Option, Some, None, find, codes, get_or, length, nat_eq}
use Rattle.std.specs.Prelude.{if◌then◌else◌}
use Rattle.inf_names.specs.declared.{meanings.Function.Function, meanings.Meaning.Meaning, system_names.SystemName.SystemName}

-- the spelling of each name
abbrev pub name_of : SystemName → List ℕ
name_of SystemName.True = codes "true"
name_of SystemName.False = codes "false"
name_of SystemName.Nothing = codes "nothing"
name_of SystemName.Null = codes "null"
name_of SystemName.WordSize = codes "wordsize"
name_of SystemName.TargetZcode = codes "target_zcode"
name_of SystemName.Name = codes "name"
name_of SystemName.Class = codes "class"
name_of SystemName.Object = codes "object"
name_of SystemName.Routine = codes "routine"
name_of SystemName.String = codes "string"
name_of SystemName.Child = codes "child"
name_of SystemName.Parent = codes "parent"
name_of SystemName.Sibling = codes "sibling"
name_of SystemName.Children = codes "children"
name_of SystemName.Random = codes "random"
name_of SystemName.Indirect = codes "indirect"
name_of SystemName.OwnObject = codes "self"
name_of SystemName.Sender = codes "sender"
name_of SystemName.SwitchVariable = codes "sw__var"
name_of SystemName.TemporaryGlobal = codes "temp_global"
name_of SystemName.Debug = codes "debug"

-- The meaning of each name: numbers; the first property, which is additive; the first four objects, which are classes;
-- functions; and variables.
abbrev pub meaning_of : SystemName → Meaning
meaning_of SystemName.True = Meaning.Number 1
meaning_of SystemName.False = Meaning.Number 0
meaning_of SystemName.Nothing = Meaning.Number 0
meaning_of SystemName.Null = Meaning.Number 65535
meaning_of SystemName.WordSize = Meaning.Number 2
meaning_of SystemName.TargetZcode = Meaning.Number 0
meaning_of SystemName.Name = Meaning.Property 1 true
meaning_of SystemName.Class = Meaning.Object 1
meaning_of SystemName.Object = Meaning.Object 2
meaning_of SystemName.Routine = Meaning.Object 3
meaning_of SystemName.String = Meaning.Object 4
meaning_of SystemName.Child = Meaning.Function Function.Child
meaning_of SystemName.Parent = Meaning.Function Function.Parent
meaning_of SystemName.Sibling = Meaning.Function Function.Sibling
meaning_of SystemName.Children = Meaning.Function Function.Children
meaning_of SystemName.Random = Meaning.Function Function.Random
meaning_of SystemName.Indirect = Meaning.Function Function.Indirect
meaning_of SystemName.OwnObject = Meaning.Variable 253
meaning_of SystemName.Sender = Meaning.Variable 252
meaning_of SystemName.SwitchVariable = Meaning.Variable 251
meaning_of SystemName.TemporaryGlobal = Meaning.Variable 255
meaning_of SystemName.Debug = Meaning.Number 0

unfoldable pub system_names : List SystemName
system_names = SystemName.True ∷ SystemName.False ∷ SystemName.Nothing ∷ SystemName.Null ∷ SystemName.WordSize ∷ SystemName.TargetZcode ∷
    SystemName.Name ∷ SystemName.Class ∷
    SystemName.Object ∷ SystemName.Routine ∷ SystemName.String ∷ SystemName.Child ∷ SystemName.Parent ∷ SystemName.Sibling ∷
    SystemName.Children ∷ SystemName.Random ∷
    SystemName.Indirect ∷ SystemName.OwnObject ∷ SystemName.Sender ∷ SystemName.SwitchVariable ∷ SystemName.TemporaryGlobal ∷
    SystemName.Debug ∷ []

-- whether a name is spelled `spelling`, in any case
abbrev pub has_name : List ℕ → SystemName → Bool
has_name spelling known = str_eq_ignore_ascii_case spelling (name_of known)

abbrev pub named : List ℕ → Option SystemName
named spelling = find (has_name spelling) system_names

-- the first and last letters of the names that have `size` letters
abbrev pub ends_of : ℕ → List (ℕ × ℕ)
ends_of size = if nat_eq size 4 then (116, 101) ∷ (110, 108) ∷ (110, 101) ∷ (115, 102) ∷ [] else
    if nat_eq size 5 then (102, 101) ∷ (99, 115) ∷ (99, 100) ∷ (100, 103) ∷ [] else
    if nat_eq size 6 then (111, 116) ∷ (115, 103) ∷ (112, 116) ∷ (114, 109) ∷ (115, 114) ∷ [] else
    if nat_eq size 7 then (110, 103) ∷ (114, 101) ∷ (115, 103) ∷ (115, 114) ∷ [] else
    if nat_eq size 8 then (119, 101) ∷ (99, 110) ∷ (105, 116) ∷ [] else if nat_eq size 11 then (116, 108) ∷ [] else
    if nat_eq size 12 then (116, 101) ∷ [] else []

-- whether one pair of ends is `first` and `last`
abbrev pub has_ends : List (ℕ × ℕ) → ℕ → ℕ → Bool
has_ends ends first last = list_any (λ (e : ℕ × ℕ). nat_eq e.0 first && nat_eq e.1 last) ends

-- whether some name of the language has the size and the ends of `spelling`, in any case
abbrev pub may_be_known : List ℕ → Bool
may_be_known spelling = has_ends (ends_of (length spelling)) (to_ascii_lowercase (get_or spelling 0 0))
    (to_ascii_lowercase (get_or spelling (length spelling - 1) 0))

-- DEBUG is there only where debugging is on
abbrev pub is_known : Bool → SystemName → Bool
is_known debugging SystemName.Debug = debugging
is_known debugging known = true

abbrev pub meaning_if : Bool → Option SystemName → Option Meaning
meaning_if debugging None = None
meaning_if debugging (Some known) = if is_known debugging known then Some (meaning_of known) else None

-- the meaning that a name has from the start
abbrev pub system_meaning : Bool → List ℕ → Option Meaning
system_meaning debugging spelling = meaning_if debugging (named spelling)
