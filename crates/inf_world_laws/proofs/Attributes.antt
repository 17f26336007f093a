-- Attributes: what a body says one by one, and a function of each attribute
use Rattle.std.proofs.Common.{◌≡◌, ◌<◌, ℕ, zero, suc, ◌+◌, List, [], ◌∷◌, Bool, true, false, refl, ◌∙◌, ap, sym, arith}
use Rattle.std.specs.Prelude.{◌==◌, cond, if◌then◌else◌, map, slice_set}
use Rattle.std.specs.List.{fold, range_with_len}
use Rattle.inf_objects.proofs.Saying.{said_in_order as by_the_body}
use Rattle.inf_world_laws.specs.{Laws.AttributesAgree, Things.said}

abbrev changed : (ℕ → Bool) → ℕ → Bool → ℕ → Bool
changed f i b a = if i == a then b else f a

unchanged : (f : ℕ → Bool) (i : ℕ) (b : Bool) (k n : ℕ) → i < k → map f (range_with_len k n) ≡ map (changed f i b) (range_with_len k n)
unchanged f i b k zero h = refl
unchanged f i b k (suc n) h =
    let other : (i == k) ≡ false = grind arith in
    ap (λ (l : List Bool). f k ∷ l) (unchanged f i b (k + 1) n (omega arith))
    ∙ ap (λ c. cond c b (f k) ∷ map (changed f i b) (range_with_len (k + 1) n)) (sym other)

set_map : (f : ℕ → Bool) (k n i : ℕ) (b : Bool)
    → slice_set (map f (range_with_len k n)) i b ≡ map (changed f (k + i) b) (range_with_len k n)
set_map f k zero i b = refl
set_map f k (suc n) zero b =
    let here : (k + 0 == k) ≡ true = grind arith in
    ap (λ (l : List Bool). b ∷ l) (unchanged f (k + 0) b (k + 1) n (omega arith))
    ∙ ap (λ c. cond c b (f k) ∷ map (changed f (k + 0) b) (range_with_len (k + 1) n)) (sym here)
set_map f k (suc n) (suc i) b =
    let other : (k + suc i == k) ≡ false = grind arith in
    let place : k + 1 + i ≡ k + suc i = omega arith in
    ap (λ (l : List Bool). f k ∷ l) (set_map f (k + 1) n i b)
    ∙ ap (λ j. f k ∷ map (changed f j b) (range_with_len (k + 1) n)) place
    ∙ ap (λ c. cond c b (f k) ∷ map (changed f (k + suc i) b) (range_with_len (k + 1) n)) (sym other)

pub said_in_order : (f : ℕ → Bool) (n : ℕ) (has : List (ℕ × Bool))
    → fold (λ attributes h. slice_set attributes h.0 h.1) (map f (range_with_len 0 n)) has
    ≡ map (λ a. said a (f a) has) (range_with_len 0 n)
said_in_order f n [] = refl
said_in_order f n ((i, b) ∷ has) = ap (λ l. fold (λ attributes h. slice_set attributes h.0 h.1) l has) (set_map f 0 n i b)
    ∙ ap (λ j. fold (λ attributes h. slice_set attributes h.0 h.1) (map (changed f j b) (range_with_len 0 n)) has)
    (let h : 0 + i ≡ i = omega arith in h)
    ∙ said_in_order (changed f i b) n has

pub attributes_agree : AttributesAgree
attributes_agree above has = by_the_body (map above (range_with_len 0 48)) has refl ∙ said_in_order above 48 has
