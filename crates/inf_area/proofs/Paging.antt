-- Bytes in pages.
use Rattle.std.proofs.Common.{◌≡◌, ℕ, zero, suc, ◌+◌, ◌*◌, ◌<◌, ◌≤◌, ◌-◌, List, [], ◌∷◌, ◌++◌, length, get_or, set, take, refl, sym, ◌∙◌}
use Rattle.std.proofs.Common.{ap, append_assoc, arith, length-append, length-drop, length-take, drop, min, inl, inr, ◌⊎◌}
use Rattle.std.proofs.Math.Seq.{drop-append-add, take-append-add, take-append_seam}
use Rattle.std.proofs.lemmas.Bool.{cases_lt}
use Rattle.std.proofs.lemmas.List.{get_or_append_left, get_or-append-add, set-append_left, set-append_right, take-append-le, with_items_is}
use Rattle.std.proofs.lemmas.List.{append-nil, drop-append-le, take_all}
use Rattle.std.proofs.lemmas.List.Concat.{flat_map-append}
use Rattle.std.specs.{Global.Box, Global.Vec, List.AllByRecursion, List.flat_map, Vec.with_items}
use Rattle.inf_area.specs.Pages.{page_bytes, with_bytes}

-- bytes that are set within the first list
with_bytes-left : (xs ys : List ℕ) (at : ℕ) (bytes : List ℕ) → at + length bytes ≤ length xs →
    with_bytes (xs ++ ys) at bytes ≡ with_bytes xs at bytes ++ ys
with_bytes-left xs ys at bytes le =
    let n = at + length bytes in
    ap (λ front. front ++ bytes ++ drop n (xs ++ ys)) (take-append-le at xs ys (omega arith))
    ∙ ap (λ back. take at xs ++ bytes ++ back) (drop-append-le n xs ys le) ∙ sym (append_assoc (take at xs ++ bytes) (drop n xs) ys)

-- bytes that are set within the second list
with_bytes-right : (xs ys : List ℕ) (at : ℕ) (bytes : List ℕ) → with_bytes (xs ++ ys) (length xs + at) bytes ≡ xs ++ with_bytes ys at bytes
with_bytes-right xs ys at bytes =
    let n = at + length bytes in let sum : length xs + at + length bytes ≡ length xs + n = omega arith in
    ap (λ front. front ++ bytes ++ drop (length xs + at + length bytes) (xs ++ ys)) (take-append-add xs ys at)
    ∙ ap (λ k. (xs ++ take at ys) ++ bytes ++ drop k (xs ++ ys)) sum
    ∙ ap (λ back. (xs ++ take at ys) ++ bytes ++ back) (drop-append-add xs ys n)
    ∙ ap (λ front. front ++ drop n ys) (append_assoc xs (take at ys) bytes) ∙ append_assoc xs (take at ys ++ bytes) (drop n ys)

pub length-with_bytes : (xs : List ℕ) (at : ℕ) (bytes : List ℕ) → at + length bytes ≤ length xs → length (with_bytes xs at bytes) ≡ length xs
length-with_bytes xs at bytes le =
    let behind = drop (at + length bytes) xs in
    omega (
      arith,
      length-append (take at xs ++ bytes) behind,
      length-append (take at xs) bytes,
      length-take at xs,
      length-drop (at + length bytes) xs,
    )

-- the bytes up to those that were set
pub take-with_bytes : (xs : List ℕ) (at : ℕ) (bytes : List ℕ) → at + length bytes ≤ length xs →
    take (at + length bytes) (with_bytes xs at bytes) ≡ take at xs ++ bytes
take-with_bytes xs at bytes le =
    let front = take at xs ++ bytes in let behind = drop (at + length bytes) xs in
    let len : at + length bytes ≡ length front = omega (arith, length-append (take at xs) bytes, length-take at xs) in
    ap (λ n. take n (front ++ behind)) len ∙ take-append_seam front behind

module _ (X : Type 0) (f : X → List ℕ) where
  pub length-pages : (xs : List X) → AllByRecursion (λ x. length (f x) ≡ 1024) xs → length (flat_map f xs) ≡ 1024 * length xs
  length-pages [] whole = refl
  length-pages (x ∷ xs) whole = omega (arith, length-append (f x) (flat_map f xs), length-pages xs whole.1, whole.0)

  -- the byte at a place is that of its page
  pub page_get : (xs : List X) (p o : ℕ) (e : X) → AllByRecursion (λ x. length (f x) ≡ 1024) xs → o < 1024 → p < length xs →
      get_or (flat_map f xs) (1024 * p + o) 0 ≡ get_or (f (get_or xs p e)) o 0
  page_get [] p o e whole small within = absurd (omega arith)
  page_get (x ∷ xs) zero o e whole small within =
      let here : 1024 * 0 + o ≡ o = omega arith in
      ap (λ i. get_or (f x ++ flat_map f xs) i 0) here ∙ get_or_append_left (f x) (flat_map f xs) 0 o (omega (arith, whole.0))
  page_get (x ∷ xs) (suc p) o e whole small within =
      let there : 1024 * suc p + o ≡ length (f x) + (1024 * p + o) = omega (arith, whole.0) in
      ap (λ i. get_or (f x ++ flat_map f xs) i 0) there ∙ get_or-append-add (f x) (flat_map f xs) (1024 * p + o) 0
      ∙ page_get xs p o e whole.1 small (omega arith)

  -- setting a byte sets one of its page
  pub page_set : (xs : List X) (p o b : ℕ) (e y : X) → AllByRecursion (λ x. length (f x) ≡ 1024) xs → o < 1024 → p < length xs →
      f y ≡ set (f (get_or xs p e)) o b → flat_map f (set xs p y) ≡ set (flat_map f xs) (1024 * p + o) b
  page_set [] p o b e y whole small within is = absurd (omega arith)
  page_set (x ∷ xs) zero o b e y whole small within is =
      let here : 1024 * 0 + o ≡ o = omega arith in
      ap (λ ys. ys ++ flat_map f xs) is ∙ sym (set-append_left (f x) (flat_map f xs) o b (omega (arith, whole.0)))
      ∙ ap (λ i. set (f x ++ flat_map f xs) i b) (sym here)
  page_set (x ∷ xs) (suc p) o b e y whole small within is =
      let there : 1024 * suc p + o - 1024 ≡ 1024 * p + o = omega arith in
      ap (λ ys. f x ++ ys) (page_set xs p o b e y whole.1 small (omega arith) is) ∙ ap (λ i. f x ++ set (flat_map f xs) i b) (sym there)
      ∙ sym (set-append_right (f x) (flat_map f xs) 1024 (1024 * suc p + o) b whole.0 (omega arith))

  -- setting bytes sets those of one page
  pub page_put : (xs : List X) (p o : ℕ) (bytes : List ℕ) (e y : X) → AllByRecursion (λ x. length (f x) ≡ 1024) xs → o + length bytes ≤ 1024
      → p < length xs → f y ≡ with_bytes (f (get_or xs p e)) o bytes → flat_map f (set xs p y) ≡ with_bytes (flat_map f xs) (1024 * p + o)
      bytes
  page_put [] p o bytes e y whole room within is = absurd (omega arith)
  page_put (x ∷ xs) zero o bytes e y whole room within is =
      let here : 1024 * 0 + o ≡ o = omega arith in
      ap (λ ys. ys ++ flat_map f xs) is ∙ sym (with_bytes-left (f x) (flat_map f xs) o bytes (omega (arith, whole.0)))
      ∙ ap (λ i. with_bytes (f x ++ flat_map f xs) i bytes) (sym here)
  page_put (x ∷ xs) (suc p) o bytes e y whole room within is =
      let there : 1024 * suc p + o ≡ length (f x) + (1024 * p + o) = omega (arith, whole.0) in
      ap (λ ys. f x ++ ys) (page_put xs p o bytes e y whole.1 room (omega arith) is)
      ∙ sym (with_bytes-right (f x) (flat_map f xs) (1024 * p + o) bytes) ∙ ap (λ i. with_bytes (f x ++ flat_map f xs) i bytes) (sym there)

  -- a page that is set stays whole
  pub whole_set : (xs : List X) (p : ℕ) (y : X) → AllByRecursion (λ x. length (f x) ≡ 1024) xs → length (f y) ≡ 1024 →
      AllByRecursion (λ x. length (f x) ≡ 1024) (set xs p y)
  whole_set [] p y whole new = tt
  whole_set (x ∷ xs) zero y whole new = (new, whole.1)
  whole_set (x ∷ xs) (suc p) y whole new = (whole.0, whole_set xs p y whole.1 new)

  pub whole_get : (xs : List X) (p : ℕ) (e : X) → AllByRecursion (λ x. length (f x) ≡ 1024) xs → p < length xs →
      length (f (get_or xs p e)) ≡ 1024
  whole_get [] p e whole within = absurd (omega arith)
  whole_get (x ∷ xs) zero e whole within = whole.0
  whole_get (x ∷ xs) (suc p) e whole within = whole_get xs p e whole.1 (omega arith)

  -- pages stay whole with a whole page behind them
  pub whole_push : (xs : List X) (y : X) → AllByRecursion (λ x. length (f x) ≡ 1024) xs → length (f y) ≡ 1024 →
      AllByRecursion (λ x. length (f x) ≡ 1024) (xs ++ y ∷ [])
  whole_push [] y whole new = (new, tt)
  whole_push (x ∷ xs) y whole new = (whole.0, whole_push xs y whole.1 new)

  pub take_push : (xs : List X) (y : X) (n : ℕ) → AllByRecursion (λ x. length (f x) ≡ 1024) xs → n ≤ 1024 * length xs →
      take n (flat_map f (xs ++ y ∷ [])) ≡ take n (flat_map f xs)
  take_push xs y n whole within = ap (take n) (flat_map-append f xs (y ∷ []))
      ∙ take-append-le n (flat_map f xs) (flat_map f (y ∷ [])) (omega (arith, length-pages xs whole))

  -- the first bytes of pages are the first of one page, and those of the pages behind it
  pub take_page : (xs : List X) (i n count : ℕ) (e : X) → AllByRecursion (λ x. length (f x) ≡ 1024) xs → i < length xs → count ≡ min n 1024
      → take n (flat_map f (drop i xs)) ≡ take count (f (get_or xs i e)) ++ take (n - count) (flat_map f (drop (suc i) xs))
  take_page [] i n count e whole within is = absurd (omega arith)
  take_page (x ∷ xs) (suc i) n count e whole within is = take_page xs i n count e whole.1 (omega arith) is
  take_page (x ∷ xs) zero n count e whole within is = go (cases_lt n 1024) where
    go : (n < 1024) ⊎ (1024 ≤ n) → take n (f x ++ flat_map f xs) ≡ take count (f x) ++ take (n - count) (flat_map f xs)
    go (inl lt) =
        let all : count ≡ n = omega (arith, is) in let none : n - count ≡ 0 = omega arith in
        rw none (take-append-le n (f x) (flat_map f xs) (omega (arith, whole.0)) ∙ ap (λ k. take k (f x)) (sym all)
        ∙ sym (append-nil (take count (f x))))
    go (inr le) =
        let page : count ≡ length (f x) = omega (arith, is, whole.0) in
        let sum : n ≡ length (f x) + (n - count) = omega arith in
        ap (λ k. take k (f x ++ flat_map f xs)) sum ∙ take-append-add (f x) (flat_map f xs) (n - count)
        ∙ ap (λ ys. ys ++ take (n - count) (flat_map f xs)) (sym (ap (λ k. take k (f x)) page ∙ take_all (length (f x)) (f x) (omega arith)))

-- setting a byte sets it among the first bytes
pub take_set : (n i b : ℕ) (xs : List ℕ) → take n (set xs i b) ≡ set (take n xs) i b
take_set zero i b xs = refl
take_set (suc n) i b [] = refl
take_set (suc n) zero b (x ∷ xs) = refl
take_set (suc n) (suc i) b (x ∷ xs) = ap (λ ys. x ∷ ys) (take_set n i b xs)

-- the first bytes of pages that were written through a slice are those of the new pages
pub take_written : (n : ℕ) (pages : Vec (Box (List ℕ))) (new : List (Box (List ℕ))) → length new ≡ pages.len →
    take n (page_bytes (with_items pages new).items) ≡ take n (page_bytes new)
take_written n pages new same = ap (λ ps. take n (page_bytes ps)) (with_items_is pages new same)
