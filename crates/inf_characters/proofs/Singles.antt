-- Runs of bytes that are a character each are read as these characters.
use Rattle.std.proofs.lemmas.Bool.{Decides.nat_tests, and_parts, both_ways}
use Rattle.std.proofs.lemmas.List.{append-nil}
use Rattle.std.proofs.Common.{◌≡◌, ◌<◌, ◌≤◌, ◌∷◌, ◌++◌, ℕ, suc, Bool, true, false, not, ◌&&◌, ◌||◌, cond, eqb, leb, Some, Ok}
use Rattle.std.proofs.Common.{List, [], take, drop, append_assoc, refl, ap, arith}
use Rattle.std.specs.List.{list_all}
use Rattle.inf_characters.proofs.Pieces.{Continues, Continues-holds, Continues-more}
use Rattle.inf_characters.specs.{declared.characters.CharSet.CharSet, declared.reading.Mode.Mode}
use Rattle.inf_characters.specs.{declared.texts.TextItem.TextItem}
use Rattle.inf_characters.specs.Characters.{has_byte, is_code, is_white, zscii_of, zscii_of_unicode}
use Rattle.inf_characters.specs.Reading.{HoldsItems, is_new_line_mark, meaning, one, piece_at}
use Rattle.inf_characters.specs.Runs.{begins_itself, characters, is_itself, is_single, run_len}

-- a byte that is itself is none of the marks, and no white space
record IsSign (b : ℕ) : Type 0 where
  low : 33 ≤ b
  high : b ≤ 125
  no_escape : eqb b 64 ≡ false
  no_break : eqb b 92 ≡ false
  no_mark : eqb b 94 ≡ false

is_sign : (b : ℕ) → is_itself b ≡ true → IsSign b
is_sign b is = go (leb 95 b && leb b 125) refl is where
  go : (t : Bool) → (leb 95 b && leb b 125) ≡ t → (t || (leb 33 b && leb b 91 && not (eqb b 64))) ≡ true → IsSign b
  go true e h =
      let both = and_parts (leb 95 b) (leb b 125) e in let low : 95 ≤ b = grind (arith, nat_tests, both.0) in
      let high : b ≤ 125 = grind (arith, nat_tests, both.1) in
      record {
        low = omega arith;
        high = high;
        no_escape = grind (arith, nat_tests);
        no_break = grind (arith, nat_tests);
        no_mark = grind (arith, nat_tests);
      }
  go false e h =
      let parts = and_parts (leb 33 b && leb b 91) (not (eqb b 64)) h in
      let both = and_parts (leb 33 b) (leb b 91) parts.0 in let low : 33 ≤ b = grind (arith, nat_tests, both.0) in
      let high : b ≤ 91 = grind (arith, nat_tests, both.1) in
      record {
        low = low;
        high = omega arith;
        no_escape = unless (eqb b 64) parts.1;
        no_break = grind (arith, nat_tests);
        no_mark = grind (arith, nat_tests);
      }
    where
      unless : (t : Bool) → not t ≡ true → t ≡ false
      unless true h = absurd (both_ways false refl h)
      unless false h = refl

no_white : (set : CharSet) (b : ℕ) → IsSign b → is_white set b ≡ false
no_white CharSet.Ascii b h =
    let low = h.low in let a : eqb b 32 ≡ false = grind (arith, nat_tests) in
    let c : eqb b 9 ≡ false = grind (arith, nat_tests) in let d : eqb b 12 ≡ false = grind (arith, nat_tests) in
    let e : eqb b 10 ≡ false = grind (arith, nat_tests) in let f : eqb b 13 ≡ false = grind (arith, nat_tests) in
    rw (a, c, d, e, f) refl
no_white CharSet.Latin1 b h =
    let low = h.low in let high = h.high in let a : eqb b 32 ≡ false = grind (arith, nat_tests) in
    let c : eqb b 9 ≡ false = grind (arith, nat_tests) in let d : eqb b 12 ≡ false = grind (arith, nat_tests) in
    let e : eqb b 10 ≡ false = grind (arith, nat_tests) in let f : eqb b 13 ≡ false = grind (arith, nat_tests) in
    let g : eqb b 160 ≡ false = grind (arith, nat_tests) in rw (a, c, d, e, f, g) refl

has_sign : (set : CharSet) (b : ℕ) → IsSign b → has_byte set b ≡ true
has_sign CharSet.Ascii b h = let high = h.high in grind (arith, nat_tests)
has_sign CharSet.Latin1 b h = refl

sign_code : (set : CharSet) (b : ℕ) → IsSign b → zscii_of set b ≡ Some b
unfolding zscii_of zscii_of_unicode
sign_code set b h =
    let low = h.low in let high = h.high in let from : leb 32 b ≡ true = grind (arith, nat_tests) in
    let to : leb b 126 ≡ true = grind (arith, nat_tests) in rw (no_white set b h, has_sign set b h, from, to) refl

sign_meaning : (mode : Mode) (b : ℕ) → IsSign b → meaning mode b ≡ b
sign_meaning Mode.Quote b h = rw h.no_mark refl
sign_meaning Mode.Text b h = let high = h.high in let e : eqb b 126 ≡ false = grind (arith, nat_tests) in rw (h.no_mark, e) refl
sign_meaning Mode.Abbreviation b h = let high = h.high in let e : eqb b 126 ≡ false = grind (arith, nat_tests) in rw (h.no_mark, e) refl

sign_mark : (mode : Mode) (b : ℕ) → IsSign b → is_new_line_mark mode b ≡ false
sign_mark Mode.Quote b h = refl
sign_mark Mode.Text b h = h.no_mark
sign_mark Mode.Abbreviation b h = h.no_mark

-- a byte that is itself gives its character
sign_piece : (set : CharSet) (mode : Mode) (after_mark : Bool) (b : ℕ) (bytes : List ℕ) → IsSign b →
    piece_at set mode after_mark b bytes ≡ Ok (one (TextItem.Character b) 0)
unfolding piece_at
sign_piece set mode after_mark b bytes h =
    rw (h.no_escape, h.no_break, no_white set b h, sign_code set b h, sign_meaning mode b h, sign_mark mode b h) refl

-- a space before a byte that is itself is a space
space_piece : (set : CharSet) (mode : Mode) (after_mark : Bool) (bytes : List ℕ) → begins_itself bytes ≡ true →
    piece_at set mode after_mark 32 bytes ≡ Ok (one (TextItem.Character 32) 0)
unfolding piece_at
space_piece set mode after_mark [] is = absurd (both_ways false refl is)
space_piece CharSet.Ascii mode after_mark (b ∷ bytes) is = rw (no_white CharSet.Ascii b (is_sign b is)) refl
space_piece CharSet.Latin1 mode after_mark (b ∷ bytes) is = rw (no_white CharSet.Latin1 b (is_sign b is)) refl

-- a byte that is a character: a sign, or a space that a sign follows
by_single : (P : ℕ → Type 0) (b : ℕ) (bytes : List ℕ) → is_single b bytes ≡ true → (IsSign b → P b) →
    (begins_itself bytes ≡ true → P 32) → P b
by_single P b bytes is sign space = go (is_itself b) refl is where
  go : (t : Bool) → is_itself b ≡ t → (t || (eqb b 32 && begins_itself bytes)) ≡ true → P b
  go true e h = sign (is_sign b e)
  go false e h =
      let parts = and_parts (eqb b 32) (begins_itself bytes) h in
      let same : b ≡ 32 = grind (arith, nat_tests, parts.0) in rw same (space parts.1)

single_piece : (set : CharSet) (mode : Mode) (after_mark : Bool) (b : ℕ) (bytes : List ℕ) → is_single b bytes ≡ true →
    piece_at set mode after_mark b bytes ≡ Ok (one (TextItem.Character b) 0)
single_piece set mode after_mark b bytes is =
    by_single (λ c. piece_at set mode after_mark c bytes ≡ Ok (one (TextItem.Character c) 0)) b bytes is
    (sign_piece set mode after_mark b bytes) (space_piece set mode after_mark bytes)

single_code : (b : ℕ) (bytes : List ℕ) → is_single b bytes ≡ true → is_code b ≡ true
single_code b bytes is = by_single (λ c. is_code c ≡ true) b bytes is sign (λ h. refl) where
  sign : IsSign b → is_code b ≡ true
  sign h =
      let low = h.low in let high = h.high in let a : eqb b 13 ≡ false = grind (arith, nat_tests) in
      let from : leb 32 b ≡ true = grind (arith, nat_tests) in let to : leb b 126 ≡ true = grind (arith, nat_tests) in
      rw (a, from, to) refl

-- the bytes of a run are codes
pub run_codes : (bytes : List ℕ) → list_all is_code (take (run_len bytes) bytes) ≡ true
run_codes [] = refl
run_codes (b ∷ bytes) = go (is_single b bytes) refl (run_codes bytes) where
  go : (t : Bool) → is_single b bytes ≡ t → list_all is_code (take (run_len bytes) bytes) ≡ true →
      list_all is_code (take (cond t (suc (run_len bytes)) 0) (b ∷ bytes)) ≡ true
  go true e more = rw (single_code b bytes e) more
  go false e more = refl

-- the first byte of a run is a character
run_first : (b : ℕ) (bytes : List ℕ) → 0 < run_len (b ∷ bytes) → is_single b bytes ≡ true
run_first b bytes some = go (is_single b bytes) some where
  go : (t : Bool) → 0 < cond t (suc (run_len bytes)) 0 → t ≡ true
  go true lt = refl
  go false lt = absurd (omega arith)

module _ (set : CharSet) (mode : Mode) (bytes : List ℕ) where
  -- one character more
  single_more : (after_mark : Bool) (items : List TextItem) (b : ℕ) (tail : List ℕ) → is_single b tail ≡ true →
      Continues set mode after_mark items (b ∷ tail) bytes → Continues set mode false (items ++ TextItem.Character b ∷ []) tail bytes
  single_more after_mark items b tail is h =
      Continues-more set mode after_mark items (b ∷ tail) bytes b tail (one (TextItem.Character b) 0) (items ++ TextItem.Character b ∷ [])
      tail refl (single_piece set mode after_mark b tail is) refl (omega arith, rw (single_code b tail is) refl) refl h

  run_more : (items : List TextItem) (rest : List ℕ) → Continues set mode false items rest bytes →
      Continues set mode false (items ++ characters (take (run_len rest) rest)) (drop (run_len rest) rest) bytes
  run_more items [] h = rw (append-nil items) h
  run_more items (b ∷ tail) h = go (is_single b tail) refl (run_more (items ++ TextItem.Character b ∷ []) tail) where
    go : (t : Bool) → is_single b tail ≡ t → (Continues set mode false (items ++ TextItem.Character b ∷ []) tail bytes →
        Continues set mode false ((items ++ TextItem.Character b ∷ []) ++ characters (take (run_len tail) tail))
        (drop (run_len tail) tail) bytes) → Continues set mode false (items ++ characters (take (cond t (suc (run_len tail)) 0) (b ∷ tail)))
        (drop (cond t (suc (run_len tail)) 0) (b ∷ tail)) bytes
    go true e more = rw (append_assoc items (TextItem.Character b ∷ []) (characters (take (run_len tail) tail))) at
        (more (single_more false items b tail e h))
    go false e more = rw (append-nil items) h

  -- the characters of a run
  pub Continues-run : (after_mark : Bool) (items : List TextItem) (rest : List ℕ) (len : ℕ) (new : List TextItem) (next : List ℕ) →
      len ≡ run_len rest → 0 < len → new ≡ items ++ characters (take len rest) → next ≡ drop len rest →
      Continues set mode after_mark items rest bytes → Continues set mode false new next bytes
  Continues-run after_mark items [] len new next is some pushed left h = absurd (omega (arith, is))
  Continues-run after_mark items (b ∷ tail) len new next is some pushed left h =
      let single = run_first b tail (rw is at some) in
      let whole : run_len (b ∷ tail) ≡ suc (run_len tail) = ap (λ (t : Bool). cond t (suc (run_len tail)) 0) single in
      let more = run_more (items ++ TextItem.Character b ∷ []) tail (single_more after_mark items b tail single h) in
      rw (pushed, left, is, whole) (rw (append_assoc items (TextItem.Character b ∷ []) (characters (take (run_len tail) tail))) at more)

  -- the bytes up to the first character of a run, and this one, are a text
  pub run_holds : (after_mark : Bool) (items : List TextItem) (rest : List ℕ) → 0 < run_len rest →
      Continues set mode after_mark items rest bytes → HoldsItems set mode bytes
  run_holds after_mark items [] some h = absurd (omega arith)
  run_holds after_mark items (b ∷ tail) some h =
      let single = run_first b tail some in
      Continues-holds set mode after_mark items (b ∷ tail) bytes b tail (one (TextItem.Character b) 0) refl
      (single_piece set mode after_mark b tail single) (omega arith, rw (single_code b tail single) refl) (omega arith) h
