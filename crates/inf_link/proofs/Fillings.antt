-- Filling keeps the lengths of areas, and depends on the numbers alone.
use Rattle.std.proofs.Common.{◌≡◌, ◌∙◌, ℕ, ◌+◌, List, [], ◌∷◌, Bool, true, false, if◌then◌else◌, length, refl, ap, nat_lt, length-set, ◌==◌}
use Rattle.inf_area.specs.{Words.with_word, declared.fixups.Fixup.Fixup, declared.targets.AreaName.AreaName, declared.targets.Target.Target}
use Rattle.inf_link.specs.{Areas.area_of, Areas.lengths, Areas.rank, Filling.filled, Filling.with_filled, Filling.with_number}
use Rattle.inf_link.specs.{declared.areas.Areas.Areas}
use Rattle.inf_link.proofs.Names.{area_of-by_name, by_name-same}

pub length-with_number : (place number : ℕ) (bytes : List ℕ) → length (with_number place number bytes) ≡ length bytes
length-with_number place number bytes = go (nat_lt (place + 1) (length bytes)) where
  go : (b : Bool) → length (if b then with_word bytes place number else bytes) ≡ length bytes
  go true = length-set _ _ _ ∙ length-set _ _ _
  go false = refl

length-chosen : (b : Bool) (place number : ℕ) (bytes : List ℕ) → length (if b then with_number place number bytes else bytes) ≡ length bytes
length-chosen true place number bytes = length-with_number place number bytes
length-chosen false place number bytes = refl

lengths-with_filled : (area : AreaName) (place number : ℕ) (contents : Areas (List ℕ)) →
    lengths (with_filled area place number contents) ≡ lengths contents
lengths-with_filled area place number contents =
    by_name-same (λ name. length (area_of name (with_filled area place number contents))) (λ name. length (area_of name contents))
    (λ name. ap length (area_of-by_name (λ n. if rank area == rank n then with_number place number (area_of n contents) else area_of n
    contents) name) ∙ length-chosen (rank area == rank name) place number (area_of name contents))

pub lengths-filled : (number : Target → ℕ) (fixups : List Fixup) (contents : Areas (List ℕ)) →
    lengths (filled number fixups contents) ≡ lengths contents
lengths-filled number [] contents = refl
lengths-filled number (fixup ∷ fixups) contents =
    lengths-filled number fixups (with_filled fixup.area fixup.place (number fixup.target) contents)
    ∙ lengths-with_filled fixup.area fixup.place (number fixup.target) contents

pub filled-same : (number other : Target → ℕ) → ((target : Target) → number target ≡ other target) →
    (fixups : List Fixup) (contents : Areas (List ℕ)) → filled number fixups contents ≡ filled other fixups contents
filled-same number other same [] contents = refl
filled-same number other same (fixup ∷ fixups) contents =
    ap (λ n. filled number fixups (with_filled fixup.area fixup.place n contents)) (same fixup.target)
    ∙ filled-same number other same fixups (with_filled fixup.area fixup.place (other fixup.target) contents)
