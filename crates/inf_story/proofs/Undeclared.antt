-- Entries that are left of a table, all of which are the same.
use Rattle.std.proofs.Common.{◌-◌, min, replicate, ◌≡◌, ℕ, drop, take, zero, suc, ap, ◌∙◌, arith}
use Rattle.std.proofs.lemmas.List.{length-drop, take_all}
use Rattle.inf_area.specs.{Cells.values_cells, declared.targets.Value.Value}
use Rattle.inf_story.specs.Tables.{undeclared}

drop-replicate : (n count : ℕ) (v : Value) → drop n (replicate count v) ≡ replicate (count - n) v
drop-replicate zero count v =
    let same : count ≡ count - 0 = omega arith in ap (λ k. replicate k v) same
drop-replicate (suc n) zero v =
    let same : 0 ≡ 0 - suc n = omega arith in ap (λ k. replicate k v) same
drop-replicate (suc n) (suc count) v =
    let same : count - n ≡ suc count - suc n = omega arith in drop-replicate n count v ∙ ap (λ k. replicate k v) same

pub left_of : (declared : ℕ) → values_cells (drop (min declared 64) (replicate 64 (Value.Known 32))) ≡ undeclared (64 - declared)
left_of declared =
    let same : 64 - min declared 64 ≡ 64 - declared = omega arith in
    ap values_cells (drop-replicate (min declared 64) 64 (Value.Known 32) ∙ ap (λ k. replicate k (Value.Known 32)) same)

pub left_taken : (declared : ℕ) → values_cells (take (64 - min declared 64) (drop (min declared 64) (replicate 64 (Value.Known 32))))
    ≡ undeclared (64 - declared)
left_taken declared =
    let left = drop (min declared 64) (replicate 64 (Value.Known 32)) in
    ap values_cells (take_all (64 - min declared 64) left (omega (arith, length-drop (min declared 64) (replicate 64 (Value.Known 32)))))
    ∙ left_of declared
