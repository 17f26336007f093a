-- Forty bytes of a key, and the name that they begin with.
use Rattle.std.proofs.Common.{◌≡◌, ℕ, ◌+◌, ◌-◌, ◌≤◌, zero, suc, Bool, true, false, List, [], ◌∷◌, ◌++◌, length, map, take, drop, refl, sym}
use Rattle.std.proofs.Common.{◌∙◌, ap, arith, drop_of_length-le, bytes_eq, ◌↔◌, IsTrue, replicate}
use Rattle.std.proofs.lemmas.List.{drop-drop, drop-map, drop-replicate, drop_at, length-take, take-append-drop, take-map, take_at}
use Rattle.std.proofs.lemmas.Slice.Eq.{bytes_eq-Decides}
use Rattle.std.specs.Char.{to_ascii_lowercase}
use Rattle.inf_names.specs.Keys.{padded}

-- a test of two lists that holds exactly where they are the same
pub same_truth : (t : Bool) (a b : List ℕ) → (t ≡ true → a ≡ b) → (a ≡ b → t ≡ true) → t ≡ bytes_eq a b
same_truth t a b to from = go t (bytes_eq a b) to from (bytes_eq-Decides a b).0 (bytes_eq-Decides a b).1 where
  go : (t r : Bool) → (t ≡ true → a ≡ b) → (a ≡ b → t ≡ true) → (r ≡ true → a ≡ b) → (a ≡ b → r ≡ true) → t ≡ r
  go true true to from of back = refl
  go false false to from of back = refl
  go true false to from of back = sym (back (to refl))
  go false true to from of back = from (of refl)

-- eight bytes behind others, and what is behind them
piece : (n : ℕ) (xs : List ℕ) → drop n xs ≡ take 8 (drop n xs) ++ drop (n + 8) xs
piece n xs = sym (take-append-drop 8 (drop n xs)) ∙ ap (λ rest. take 8 (drop n xs) ++ rest) (drop-drop 8 n xs)

one : (n : ℕ) (a b : List ℕ) → take 8 (drop n a) ≡ take 8 (drop n b) → drop (n + 8) a ≡ drop (n + 8) b → drop n a ≡ drop n b
one n a b front rest = piece n a ∙ ap (λ xs. xs ++ drop (n + 8) a) front ∙ ap (λ xs. take 8 (drop n b) ++ xs) rest ∙ sym (piece n b)

pub all_same : (a b : List ℕ) → length a ≡ 40 → length b ≡ 40 → take 8 (drop 0 a) ≡ take 8 (drop 0 b) →
    take 8 (drop 8 a) ≡ take 8 (drop 8 b) → take 8 (drop 16 a) ≡ take 8 (drop 16 b) → take 8 (drop 24 a) ≡ take 8 (drop 24 b) → take 8
    (drop 32 a) ≡ take 8 (drop 32 b) → a ≡ b
all_same a b la lb p q r s t =
    let short_a : length a ≤ 40 = omega (arith, la) in let short_b : length b ≤ 40 = omega (arith, lb) in
    let none_a : drop 40 a ≡ [] = drop_of_length-le a short_a in
    let none_b : drop 40 b ≡ [] = drop_of_length-le b short_b in
    let end : drop 40 a ≡ drop 40 b = none_a ∙ sym none_b in
    one 0 a b p (one 8 a b q (one 16 a b r (one 24 a b s (one 32 a b t end))))

-- all bytes are the same where the five words are
pub same_words : (a b : List ℕ) (p q r s t : Bool) → length a ≡ 40 → length b ≡ 40 → (IsTrue p ↔ (take 8 (drop 0 a) ≡ take 8 (drop 0 b))) →
    (IsTrue q ↔ (take 8 (drop 8 a) ≡ take 8 (drop 8 b))) → (IsTrue r ↔ (take 8 (drop 16 a) ≡ take 8 (drop 16 b))) →
    (IsTrue s ↔ (take 8 (drop 24 a) ≡ take 8 (drop 24 b))) → (IsTrue t ↔ (take 8 (drop 32 a) ≡ take 8 (drop 32 b))) →
    (p ≡ true × (q ≡ true × (r ≡ true × (s ≡ true × t ≡ true))) → a ≡ b) ×
    (a ≡ b → p ≡ true × (q ≡ true × (r ≡ true × (s ≡ true × t ≡ true))))
same_words a b p q r s t la lb wp wq wr ws wt = (
  (λ h. all_same a b la lb (wp.0 h.0) (wq.0 h.1.0) (wr.0 h.1.1.0) (ws.0 h.1.1.1.0) (wt.0 h.1.1.1.1)),
  (λ e. (
    wp.1 (ap (λ xs. take 8 (drop 0 xs)) e),
    (
      wq.1 (ap (λ xs. take 8 (drop 8 xs)) e),
      (wr.1 (ap (λ xs. take 8 (drop 16 xs)) e), (ws.1 (ap (λ xs. take 8 (drop 24 xs)) e), wt.1 (ap (λ xs. take 8 (drop 32 xs)) e))),
    ),
  )),
)

-- a key is the name and the zeros behind it
pub whole : (bytes : List ℕ) (n : ℕ) → drop n bytes ≡ replicate (40 - n) 0 → bytes ≡ take n bytes ++ replicate (40 - n) 0
whole bytes n zeros = sym (take-append-drop n bytes) ∙ ap (λ rest. take n bytes ++ rest) zeros

pub eq_items : (a b : List ℕ) (n m : ℕ) → n ≡ m → drop n a ≡ replicate (40 - n) 0 → drop m b ≡ replicate (40 - m) 0 →
    bytes_eq a b ≡ bytes_eq (take n a) (take m b)
eq_items a b n m same za zb = same_truth (bytes_eq a b) (take n a) (take m b)
    (λ e. ap (take n) ((bytes_eq-Decides a b).0 e) ∙ ap (λ k. take k b) same)
    (λ e. (bytes_eq-Decides a b).1 (whole a n za ∙ ap (λ xs. xs ++ replicate (40 - n) 0) e ∙ ap (λ k. take m b ++ replicate (40 - k) 0) same
    ∙ sym (whole b m zb)))

pub padded_is : (bytes : List ℕ) (n : ℕ) → length bytes ≡ 40 → n ≤ 40 → drop n bytes ≡ replicate (40 - n) 0 → bytes ≡ padded (take n bytes)
padded_is bytes n l le zeros =
    let long : length (take n bytes) ≡ n = length-take n bytes ∙ omega (arith, l) in
    whole bytes n zeros ∙ ap (λ k. take n bytes ++ replicate (40 - k) 0) (sym long)

-- five writes hash the five words
pub hashed : {S : Type 0} (write : S → List ℕ → S) (bytes all v w x y z : List ℕ) (s s1 s2 s3 s4 s5 : S) → bytes ≡ all →
    v ≡ take 8 (drop 0 bytes) → w ≡ take 8 (drop 8 bytes) → x ≡ take 8 (drop 16 bytes) → y ≡ take 8 (drop 24 bytes) →
    z ≡ take 8 (drop 32 bytes) → s1 ≡ write s v → s2 ≡ write s1 w → s3 ≡ write s2 x → s4 ≡ write s3 y → s5 ≡ write s4 z →
    s5 ≡ write (write (write (write (write s (take 8 (drop 0 all))) (take 8 (drop 8 all))) (take 8 (drop 16 all))) (take 8 (drop 24 all)))
    (take 8 (drop 32 all))
hashed write bytes all v w x y z s s1 s2 s3 s4 s5 is ev ew ex ey ez e1 e2 e3 e4 e5 =
    let at = λ (n : ℕ). ap (λ (xs : List ℕ). take 8 (drop n xs)) is in
    let t1 = e1 ∙ ap (write s) (ev ∙ at 0) in
    let t2 = e2 ∙ ap (write s1) (ew ∙ at 8) ∙ ap (λ t. write t (take 8 (drop 8 all))) t1 in
    let t3 = e3 ∙ ap (write s2) (ex ∙ at 16) ∙ ap (λ t. write t (take 8 (drop 16 all))) t2 in
    let t4 = e4 ∙ ap (write s3) (ey ∙ at 24) ∙ ap (λ t. write t (take 8 (drop 24 all))) t3 in
    e5 ∙ ap (write s4) (ez ∙ at 32) ∙ ap (λ t. write t (take 8 (drop 32 all))) t4

-- zeros have no case
pub zeros_same : (n : ℕ) → map to_ascii_lowercase (replicate n 0) ≡ replicate n 0
zeros_same zero = refl
zeros_same (suc n) = ap (λ xs. 0 ∷ xs) (zeros_same n)

-- at the end of the loop all bytes are without case
pub all_folded : (items all : List ℕ) (i : ℕ) → length items ≤ i →
    take i items ++ map to_ascii_lowercase (drop i items) ≡ map to_ascii_lowercase all → items ≡ map to_ascii_lowercase all
all_folded items all i long e =
    let none : drop i items ≡ [] = drop_of_length-le items long in
    sym (take-append-drop i items) ∙ ap (λ rest. take i items ++ rest) (none ∙ sym (ap (map to_ascii_lowercase) none)) ∙ e

pub zeros_behind : (name items : List ℕ) → items ≡ map to_ascii_lowercase (name ++ drop (length name) (replicate 40 0)) →
    drop (length name) items ≡ replicate (40 - length name) 0
zeros_behind name items e =
    ap (drop (length name)) e ∙ drop-map to_ascii_lowercase (length name) (name ++ drop (length name) (replicate 40 0))
    ∙ ap (map to_ascii_lowercase) (drop_at name (drop (length name) (replicate 40 0)) (length name) refl
    ∙ drop-replicate (length name) 40 0) ∙ zeros_same (40 - length name)

pub name_before : (name items : List ℕ) → items ≡ map to_ascii_lowercase (name ++ drop (length name) (replicate 40 0)) →
    take (length name) items ≡ map to_ascii_lowercase name
name_before name items e =
    ap (take (length name)) e ∙ take-map to_ascii_lowercase (length name) (name ++ drop (length name) (replicate 40 0))
    ∙ ap (map to_ascii_lowercase) (take_at name (drop (length name) (replicate 40 0)) (length name) refl)
