-- The first Z-characters of a text.
use Rattle.std.proofs.Common.{◌≡◌, ◌<◌, ◌≤◌, ◌+◌, ◌-◌, ℕ, zero, suc, List, [], ◌∷◌, ◌++◌, length, take, set, replicate, sym, refl, ap, ◌∙◌}
use Rattle.std.proofs.Common.{arith, append_assoc, flat_map}
use Rattle.std.proofs.lemmas.List.{take_more_set, length-take, take-replicate}
use Rattle.std.proofs.Math.Seq.{set-append_seam, append_snoc, take-append-add}
use Rattle.inf_characters.specs.{Items.IsText, Items.lowered, declared.texts.TextItem.TextItem}
use Rattle.inf_text.specs.Packing.{AreZs, dictionary_zs, item_zs}

-- cut to n, continued and cut again
pub take-take_append : (n : ℕ) (xs ys : List ℕ) → take n (take n xs ++ ys) ≡ take n (xs ++ ys)
take-take_append zero xs ys = refl
take-take_append (suc n) [] ys = refl
take-take_append (suc n) (x ∷ xs) ys = ap (λ (zs : List ℕ). x ∷ zs) (take-take_append n xs ys)

pub AreZs-set : (zs : List ℕ) (i z : ℕ) → AreZs zs → z < 32 → AreZs (set zs i z)
AreZs-set [] i z h small = tt
AreZs-set (x ∷ zs) zero z h small = (small, h.1)
AreZs-set (x ∷ zs) (suc i) z h small = (h.0, AreZs-set zs i z h.1 small)

-- one more is given, and the rest is still filled
pub filled-more : (zs : List ℕ) (i k z : ℕ) → length zs ≡ 9 → i + suc k ≡ 9 → zs ≡ take i zs ++ replicate (suc k) 5 →
    set zs i z ≡ take (i + 1) (set zs i z) ++ replicate k 5
filled-more zs i k z len room filled =
    let front = take i zs in let at : length front ≡ i = omega (arith, length-take i zs) in
    let lt : i < length zs = omega arith in
    let seam : set (front ++ 5 ∷ replicate k 5) i z ≡ front ++ z ∷ replicate k 5 =
    ap (λ (j : ℕ). set (front ++ 5 ∷ replicate k 5) j z) (sym at) ∙ set-append_seam front 5 (replicate k 5) z in
    let written : set zs i z ≡ front ++ z ∷ replicate k 5 = ap (λ (xs : List ℕ). set xs i z) filled ∙ seam in
    rw (take_more_set zs i z lt) (written ∙ sym (append_snoc front z (replicate k 5)))

-- Z-characters given in two steps are those given at once
pub given-more : (n : ℕ) (old xs s ys t : List ℕ) → s ≡ take n (old ++ xs) → t ≡ take n (s ++ ys) → t ≡ take n (old ++ (xs ++ ys))
given-more n old xs s ys t first second = second ∙ rw first (take-take_append n (old ++ xs) ys ∙ ap (take n) (append_assoc old xs ys))

-- the given Z-characters, filled to nine, are those of the whole front
pub filled-all : (zs front : List ℕ) (len : ℕ) → length zs ≡ 9 → len ≤ 9 → take len zs ≡ front → zs ≡ take len zs ++ replicate (9 - len) 5 →
    zs ≡ take 9 (front ++ replicate 9 5)
filled-all zs front len is_nine le is_front filled =
    let at : length front ≡ len = ap length (sym is_front) ∙ omega (arith, length-take len zs) in
    let room : length front + (9 - len) ≡ 9 = omega arith in
    let cut : take (length front + (9 - len)) (front ++ replicate 9 5) ≡ front ++ take (9 - len) (replicate 9 5) =
    take-append-add front (replicate 9 5) (9 - len) in
    let cut' : take 9 (front ++ replicate 9 5) ≡ front ++ replicate (9 - len) 5 =
    ap (λ (n : ℕ). take n (front ++ replicate 9 5)) (sym room) ∙ cut
    ∙ ap (λ (r : List ℕ). front ++ r) (take-replicate (9 - len) 9 5 (omega arith)) in
    filled ∙ ap (λ (f : List ℕ). f ++ replicate (9 - len) 5) is_front ∙ sym cut'

-- The Z-characters taken and those of the items left give those of the whole text.
pub record Gives (front : List ℕ) (items whole : List TextItem) : Type 0 where
  pub value : take 9 (front ++ (flat_map (λ x. item_zs (lowered x)) items ++ replicate 9 5)) ≡ dictionary_zs whole
  pub text : IsText items

pub Gives-more : (front new zs : List ℕ) (items rest whole : List TextItem) (x : TextItem) → items ≡ x ∷ rest → zs ≡ item_zs (lowered x) →
    new ≡ take 9 (front ++ zs) → Gives front items whole → Gives new rest whole
Gives-more front new zs items rest whole x split is given h =
    let f : TextItem → List ℕ = λ x. item_zs (lowered x) in
    let tail = flat_map f rest ++ replicate 9 5 in
    let value : take 9 (front ++ (flat_map f (x ∷ rest) ++ replicate 9 5)) ≡ dictionary_zs whole = rw split at h.value in
    let regrouped : front ++ (zs ++ tail) ≡ front ++ (flat_map f (x ∷ rest) ++ replicate 9 5) =
    rw is (ap (λ (r : List ℕ). front ++ r) (sym (append_assoc (item_zs (lowered x)) (flat_map f rest) (replicate 9 5)))) in
    let text : IsText (x ∷ rest) = rw split at h.text in
    record { value = given-more 9 front zs new tail (take 9 (new ++ tail)) given refl ∙ ap (take 9) regrouped ∙ value; text = text.1 }
