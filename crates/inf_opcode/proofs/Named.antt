-- An opcode is found by the slot of its name.
use Rattle.std.proofs.Common.{◌≡◌, ℕ, zero, suc, ◌+◌, ◌-◌, ◌/◌, ◌<◌, List, [], ◌∷◌, Bool, true, false, ◌&&◌, nat_eq, map, length, get_or}
use Rattle.std.proofs.Common.{None, Some, refl, sym, ◌∙◌, ap, arith, if◌then◌else◌, cond, find, slice_get}
use Rattle.std.proofs.{Math.ListN.get_or-map, lemmas.List.length-map, lemmas.Slice.Eq.bytes_eq-Decides}
use Rattle.std.proofs.lemmas.Bool.{and_parts, false_from_ne_true, eqb-true}
use Rattle.std.specs.Char.{to_ascii_lowercase}
use Rattle.inf_opcode.specs.{Names.has_name, Names.name_of, Names.opcode_named, Names.opcodes, Slots.all_places, Slots.if_named}
use Rattle.inf_opcode.specs.{Slots.letter, Slots.slot, declared.opcodes.Opcode.Opcode}

-- Lemmas about the slot of a name in any case

same_letter : (byte : ℕ) → letter (to_ascii_lowercase byte) ≡ letter byte
same_letter byte = by_tests _ _ where
  by_tests : (b c : Bool) → letter (cond b byte (cond c (byte + 32) byte)) ≡ letter byte
  by_tests true c = refl
  by_tests false true = omega arith
  by_tests false false = refl

lower_at : (s : List ℕ) (n : ℕ) → letter (get_or (map to_ascii_lowercase s) n 0) ≡ letter (get_or s n 0)
lower_at s n = ap letter (get_or-map to_ascii_lowercase s n 0) ∙ same_letter (get_or s n 0)

letter_same : (s w : List ℕ) → map to_ascii_lowercase s ≡ map to_ascii_lowercase w → (n : ℕ) → letter (get_or s n 0) ≡ letter (get_or w n 0)
letter_same s w e n = sym (lower_at s n) ∙ ap (λ x. letter (get_or x n 0)) e ∙ lower_at w n

slot_same : (s w : List ℕ) → map to_ascii_lowercase s ≡ map to_ascii_lowercase w → slot s ≡ slot w
slot_same s w e =
    let size : length s ≡ length w = sym (length-map s to_ascii_lowercase) ∙ ap length e ∙ length-map w to_ascii_lowercase in
    let first = letter_same s w e 0 in
    let before : letter (get_or s (length s - 2) 0) ≡ letter (get_or w (length w - 2) 0) =
    letter_same s w e (length s - 2) ∙ ap (λ n. letter (get_or w (n - 2) 0)) size in
    let last : letter (get_or s (length s - 1) 0) ≡ letter (get_or w (length w - 1) 0) =
    letter_same s w e (length s - 1) ∙ ap (λ n. letter (get_or w (n - 1) 0)) size in
    let middle : letter (get_or s (length s / 2) 0) ≡ letter (get_or w (length w / 2) 0) =
    letter_same s w e (length s / 2) ∙ ap (λ n. letter (get_or w (n / 2) 0)) size in
    cc (size, first, before, last, middle)

-- Lemmas about the place of a name, by its slot

abbrev place : List ℕ → ℕ
place name = get_or all_places (slot name) 98

same_place : (s : List ℕ) (o : Opcode) → has_name s o ≡ true → place (name_of o) ≡ place s
same_place s o e = ap (λ n. get_or all_places n 98)
    (slot_same (name_of o) s ((bytes_eq-Decides (map to_ascii_lowercase (name_of o)) (map to_ascii_lowercase s)).0 e))

-- An opcode at another place than that of the name does not have the name.
differs : (s : List ℕ) (o : Opcode) (n : ℕ) → place (name_of o) ≡ n → (place s ≡ n → ⊥) → has_name s o ≡ false
differs s o n at apart = false_from_ne_true (has_name s o) (λ e. apart (sym (same_place s o e) ∙ at))

-- The opcodes of a list stand, from place `n` on, at the places of their names.
abbrev are_placed : ℕ → List Opcode → Bool
are_placed n [] = true
are_placed n (o ∷ os) = nat_eq (place (name_of o)) n && are_placed (suc n) os

-- No opcode of a list has a name whose place is before those of the list.
passed : (s : List ℕ) (n : ℕ) (os : List Opcode) → are_placed n os ≡ true → place s < n → find (has_name s) os ≡ None
passed s n [] a l = refl
passed s n (o ∷ os) a l =
    let parts = and_parts (nat_eq (place (name_of o)) n) (are_placed (suc n) os) a in
    let at = eqb-true (place (name_of o)) n parts.0 in
    rw (differs s o n at (λ e. omega (arith, l, e))) (passed s (suc n) os parts.1 (omega (arith, l)))

-- Of the opcodes of a list only the one at the place of the name may have it.
reached : (s : List ℕ) (n k : ℕ) (os : List Opcode) → are_placed n os ≡ true → place s ≡ n + k →
    find (has_name s) os ≡ if_named s (slice_get os k)
reached s n k [] a e = refl
reached s n zero (o ∷ os) a e =
    let parts = and_parts (nat_eq (place (name_of o)) n) (are_placed (suc n) os) a in
    ap (λ rest. if has_name s o then Some o else rest) (passed s (suc n) os parts.1 (omega (arith, e)))
reached s n (suc k) (o ∷ os) a e =
    let parts = and_parts (nat_eq (place (name_of o)) n) (are_placed (suc n) os) a in
    let at = eqb-true (place (name_of o)) n parts.0 in
    rw (differs s o n at (λ q. omega (arith, e, q))) (reached s (suc n) k os parts.1 (omega (arith, e)))

all_placed : are_placed 0 opcodes ≡ true
unfolding opcodes all_places
all_placed = refl

zero_more : (n : ℕ) → n ≡ 0 + n
zero_more n = omega arith

pub by_slot : (s : List ℕ) → opcode_named s ≡ if_named s (slice_get opcodes (get_or all_places (slot s) 98))
by_slot s = reached s 0 (place s) opcodes all_placed (zero_more (place s))
