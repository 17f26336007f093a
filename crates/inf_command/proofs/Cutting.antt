-- Paths that are cut at their commas.
use Rattle.std.proofs.Common.{◌≡◌, ◌≢◌, ℕ, suc, ◌<◌, ◌==◌, false, List, [], ◌∷◌, ◌++◌, length, map, get_or, Option, Some, None, Bor, refl}
use Rattle.std.proofs.Common.{ap, sym, subst, ◌∙◌, arith, option_map, IfSome}
use Rattle.std.proofs.lemmas.Bool.Decides.{nat_tests}
use Rattle.std.specs.{Iterator.Runs.AllItems, Iterator.Runs.Run, List.join_with_byte, Str.Iter.LacksByte}
use Rattle.inf_command.specs.Directories.{cut_at_commas, in_front}

other_byte : (b : ℕ) → b ≢ 44 → (b == 44) ≡ false
other_byte b other = grind (arith, nat_tests)

-- a part without a comma is cut off at the comma behind it
cut-part : (part rest : List ℕ) → LacksByte 44 part → cut_at_commas (part ++ 44 ∷ rest) ≡ part ∷ cut_at_commas rest
cut-part [] rest lacks = refl
cut-part (b ∷ part) rest lacks =
    rw (other_byte b (lacks 0 (omega arith))) (ap (in_front b) (cut-part part rest (λ k lt. lacks (suc k) (omega arith))))

-- the last part has no comma, and is not cut
cut-last : (part : List ℕ) → LacksByte 44 part → cut_at_commas part ≡ part ∷ []
cut-last [] lacks = refl
cut-last (b ∷ part) lacks =
    rw (other_byte b (lacks 0 (omega arith))) (ap (in_front b) (cut-last part (λ k lt. lacks (suc k) (omega arith))))

-- parts without commas, joined by commas, are cut into these parts
pub cut-joined : (parts : List (Bor (List ℕ))) → 0 < length parts →
    ((k : ℕ) (d : Bor (List ℕ)) → k < length parts → LacksByte 44 (get_or parts k d).now)
    → cut_at_commas (join_with_byte 44 (map (λ part. part.now) parts)) ≡ map (λ part. part.now) parts
cut-joined [] some lacks = absurd (omega (arith, some))
cut-joined (x ∷ []) some lacks = cut-last x.now (lacks 0 x (omega arith))
cut-joined (x ∷ y ∷ parts) some lacks = cut-part x.now (join_with_byte 44 (map (λ part. part.now) (y ∷ parts))) (lacks 0 x (omega arith))
    ∙ ap (λ rest. x.now ∷ rest) (cut-joined (y ∷ parts) (omega arith) (λ k d lt. lacks (suc k) d (omega arith)))

some_lacks : (o : Option (Bor (List ℕ))) (y : Bor (List ℕ)) → option_map (λ x. x) o ≡ Some y → IfSome o (λ x. LacksByte 44 x.now) →
    LacksByte 44 y.now
some_lacks None y is lacks = cc
some_lacks (Some x) y is lacks =
    let same : x ≡ y = cc in subst (λ (z : Bor (List ℕ)). LacksByte 44 z.now) same lacks

-- where no item of an iterator has a comma, the path that they are joined to by commas is cut into them
pub run_cut : {S : Type 0} {steps : S → Option (Bor (List ℕ)) → S → Type 0} (p : Run steps) (path : List ℕ) → 0 < p.len
    → path ≡ join_with_byte 44 (map (λ x. x.now) p.items) → AllItems p (λ x. LacksByte 44 x.now)
    → map (λ x. x.now) p.items ≡ cut_at_commas path
run_cut p path some joined lacks = sym (ap cut_at_commas joined ∙ cut-joined p.items (omega (arith, some, p.long))
    (λ k d lt. some_lacks (p.at k) (get_or p.items k d) (p.reads k d (omega (arith, p.long, lt))) (lacks k)))
