-- The latest values of a list that grows at its end.
use Rattle.std.proofs.Common.{◌≡◌, ◌+◌, ℕ, suc, List, ◌∷◌, ◌++◌, length, reverse, drop, take, get_or, Bool, Option, None}
use Rattle.std.proofs.Common.{sym, ap, ◌∙◌, arith}
use Rattle.std.proofs.Math.Seq.{drop-append_seam, take-append_seam, take-suc}
use Rattle.std.proofs.lemmas.List.{length-drop, length-reverse, reverse-append, reverse-reverse, take-append-drop}
use Rattle.inf_expressions.specs.declared.operators.Test.{Test}
use Rattle.inf_sources.proofs.Places.{reverse_last}
use Rattle.inf_conditionals.specs.{Truths.Truth, Truths.called_behind, Truths.tested_behind, Truths.with_value, Values.tested}

split_back : {X : Type 0} → (m : ℕ) (xs : List X) → reverse xs ≡ reverse (drop m xs) ++ reverse (take m xs)
split_back m xs = ap reverse (sym (take-append-drop m xs)) ∙ reverse-append (take m xs) (drop m xs)

behind_count : {X : Type 0} → (n m : ℕ) (xs : List X) → n + m ≡ length xs → length (reverse (drop m xs)) ≡ n
behind_count n m xs all = omega (arith, all, length-reverse (drop m xs), length-drop m xs)

drop_back : {X : Type 0} → (n m : ℕ) (xs : List X) → n + m ≡ length xs → drop n (reverse xs) ≡ reverse (take m xs)
drop_back n m xs all = ap (λ l. drop n l) (split_back m xs)
    ∙ ap (λ i. drop i (reverse (drop m xs) ++ reverse (take m xs))) (sym (behind_count n m xs all))
    ∙ drop-append_seam (reverse (drop m xs)) (reverse (take m xs))

take_back : {X : Type 0} → (n m : ℕ) (xs : List X) → n + m ≡ length xs → reverse (take n (reverse xs)) ≡ drop m xs
take_back n m xs all = ap (λ l. reverse (take n l)) (split_back m xs)
    ∙ ap (λ i. reverse (take i (reverse (drop m xs) ++ reverse (take m xs)))) (sym (behind_count n m xs all))
    ∙ ap reverse (take-append_seam (reverse (drop m xs)) (reverse (take m xs))) ∙ reverse-reverse (drop m xs)

-- the latest value before some others, and those before it
front_back : (n j : ℕ) (xs : List (Option ℕ)) → n + suc j ≡ length xs → drop n (reverse xs) ≡ get_or xs j None ∷ reverse (take j xs)
front_back n j xs all =
    drop_back n (suc j) xs all ∙ ap reverse (take-suc xs j None (omega (arith, all))) ∙ reverse_last (take j xs) (get_or xs j None)

-- the value of a test against the latest values, and what is before it
pub test_behind : (sense : Bool) (test : Test) (n j : ℕ) (xs : List (Option ℕ)) (t : Truth) → n + suc j ≡ length xs →
    with_value (tested sense test (get_or xs j None) (drop (suc j) xs)) (reverse (take j xs)) t
    ≡ tested_behind sense test (drop n (reverse xs)) (reverse (take n (reverse xs))) t
test_behind sense test n j xs t all =
    ap (λ (l : List (Option ℕ)). with_value (tested sense test (get_or xs j None) l) (reverse (take j xs)) t)
    (sym (take_back n (suc j) xs all))
    ∙ ap (λ (l : List (Option ℕ)). tested_behind sense test l (reverse (take n (reverse xs))) t) (sym (front_back n j xs all))

pub called_back : (n j : ℕ) (xs : List (Option ℕ)) (t : Truth) → n + suc j ≡ length xs →
    with_value None (reverse (take j xs)) t ≡ called_behind (drop n (reverse xs)) t
called_back n j xs t all = ap (λ (l : List (Option ℕ)). called_behind l t) (sym (front_back n j xs all))
