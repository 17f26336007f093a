-- The name of an opcode, in any case, has no byte over 127.
use Rattle.std.proofs.Common.{◌≡◌, ℕ, zero, suc, ◌+◌, ◌<◌, List, [], ◌∷◌, map, nat_lt, Bool, true, false, ◌&&◌, cond, None, refl, sym, ap}
use Rattle.std.proofs.Common.{◌∙◌, arith, IsAscii, find}
use Rattle.std.proofs.{lemmas.Bool.Decides.nat_tests, lemmas.Slice.Eq.bytes_eq-Decides}
use Rattle.std.proofs.lemmas.Bool.{and_parts, false_from_ne_true}
use Rattle.std.specs.{Char.to_ascii_lowercase, List.list_all}
use Rattle.inf_opcode.specs.{Names.has_name, Names.name_of, Names.opcode_named, Names.opcodes, declared.opcodes.Opcode.Opcode}

abbrev are_ascii : List ℕ → Bool
are_ascii name = list_all (λ b. nat_lt b 128) name

pub is_ascii : (name : List ℕ) → are_ascii name ≡ true → IsAscii name
is_ascii [] e i = omega arith
is_ascii (b ∷ name) e zero =
    let first = (and_parts (nat_lt b 128) (are_ascii name) e).0 in
    let small : b < 128 = grind (arith, nat_tests) in small
is_ascii (b ∷ name) e (suc i) = is_ascii name (and_parts (nat_lt b 128) (are_ascii name) e).1 i

-- a byte in lower case is over 127 exactly if it is
lower : (b : ℕ) → nat_lt (to_ascii_lowercase b) 128 ≡ nat_lt b 128
lower b = by_tests (nat_lt b 65) (nat_lt b 91) refl refl where
  by_tests : (s t : Bool) → nat_lt b 65 ≡ s → nat_lt b 91 ≡ t → nat_lt (cond s b (cond t (b + 32) b)) 128 ≡ nat_lt b 128
  by_tests true t is within = refl
  by_tests false true is within = grind (arith, nat_tests)
  by_tests false false is within = refl

all_lower : (name : List ℕ) → are_ascii (map to_ascii_lowercase name) ≡ are_ascii name
all_lower [] = refl
all_lower (b ∷ name) = ap (λ t. t && are_ascii (map to_ascii_lowercase name)) (lower b) ∙ ap (λ t. nat_lt b 128 && t) (all_lower name)

named_ascii : (name : List ℕ) (o : Opcode) → has_name name o ≡ true → are_ascii (name_of o) ≡ are_ascii name
named_ascii name o e = sym (all_lower (name_of o))
    ∙ ap are_ascii ((bytes_eq-Decides (map to_ascii_lowercase (name_of o)) (map to_ascii_lowercase name)).0 e) ∙ all_lower name

-- no opcode of a list, whose names have no byte over 127, has a name with one
none_named : (name : List ℕ) (os : List Opcode) → list_all (λ o. are_ascii (name_of o)) os ≡ true → are_ascii name ≡ false
    → find (has_name name) os ≡ None
none_named name [] all other = refl
none_named name (o ∷ os) all other =
    let parts = and_parts (are_ascii (name_of o)) (list_all (λ o. are_ascii (name_of o)) os) all in
    let not : has_name name o ≡ false =
    false_from_ne_true (has_name name o) (λ e. let wrong = sym parts.0 ∙ named_ascii name o e ∙ other in absurd (cc wrong)) in
    rw not (none_named name os parts.1 other)

all_ascii : list_all (λ o. are_ascii (name_of o)) opcodes ≡ true
unfolding opcodes
all_ascii = refl

pub any_name : (name : List ℕ) → opcode_named name ≡ cond (are_ascii name) (opcode_named name) None
any_name name = by_test (are_ascii name) refl where
  by_test : (t : Bool) → are_ascii name ≡ t → opcode_named name ≡ cond t (opcode_named name) None
  by_test true e = refl
  by_test false e = none_named name opcodes all_ascii e
