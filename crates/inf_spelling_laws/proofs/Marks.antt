-- The marks of the description are those of the scanner.
use Rattle.std.proofs.Common.{◌≡◌, ℕ, ◌==◌, ◌&&◌, List, [], ◌∷◌, ◌++◌, Bool, true, false, cond, Some, None, refl, ap, ◌∙◌, arith}
use Rattle.std.proofs.lemmas.Bool.{and_parts}
use Rattle.inf_scanner.specs.{Marks.first_mark, Marks.longer_mark, Marks.mark_bytes, declared.tokens.Mark.Mark}
use Rattle.inf_spelling_laws.specs.Source.{long_in, long_marks, mark_of, same, short_in, short_marks}

-- A mark is spelled by its bytes.

abbrev AreShort : List (ℕ × Mark) → Type 0
AreShort [] = Unit {0}
AreShort ((c, m) ∷ marks) = (c ∷ [] ≡ mark_bytes m) × AreShort marks

abbrev AreLong : List (List ℕ × Mark) → Type 0
AreLong [] = Unit {0}
AreLong ((bytes, m) ∷ marks) = (bytes ≡ mark_bytes m) × AreLong marks

are_short : AreShort short_marks
are_short = (refl, (refl, (refl, (refl, (refl, (refl, (refl, (refl, (refl, (refl, (refl, (refl, (refl, (refl, (refl, (refl, (refl, (refl, (refl, (refl, (refl, (refl, (refl, (refl, tt))))))))))))))))))))))))

are_long : AreLong long_marks
are_long = (refl, (refl, (refl, (refl, (refl, (refl, (refl, (refl, (refl, (refl, (refl, (refl, (refl, (refl, (refl, (refl, tt))))))))))))))))

same_is : (bytes others : List ℕ) → same bytes others ≡ true → bytes ≡ others
same_is [] [] e = refl
same_is [] (c ∷ others) e = absurd (cc e)
same_is (b ∷ bytes) [] e = absurd (cc e)
same_is (b ∷ bytes) (c ∷ others) e =
    let parts = and_parts (b == c) (same bytes others) e in
    let h : (b == c) ≡ true = parts.0 in
    let first : b ≡ c = grind arith in
    ap (λ x. x ∷ bytes) first ∙ ap (λ l. c ∷ l) (same_is bytes others parts.1)

short_spelled : (b : ℕ) (m : Mark) (marks : List (ℕ × Mark)) → AreShort marks → short_in b marks ≡ Some m → b ∷ [] ≡ mark_bytes m
short_spelled b m [] are e = absurd (cc e)
short_spelled b m ((c, n) ∷ marks) are e = by (b == c) refl (λ e. short_spelled b m marks are.1 e) e
  where
    by : (t : Bool) → (b == c) ≡ t → (short_in b marks ≡ Some m → b ∷ [] ≡ mark_bytes m)
        → cond t (Some n) (short_in b marks) ≡ Some m → b ∷ [] ≡ mark_bytes m
    by true h rest e =
        let first : b ≡ c = grind arith in
        let mark : n ≡ m = cc e in
        ap (λ x. x ∷ []) first ∙ are.0 ∙ ap mark_bytes mark
    by false h rest e = rest e

long_spelled : (bytes : List ℕ) (m : Mark) (marks : List (List ℕ × Mark)) → AreLong marks → long_in bytes marks ≡ Some m
    → bytes ≡ mark_bytes m
long_spelled bytes m [] are e = absurd (cc e)
long_spelled bytes m ((others, n) ∷ marks) are e = by (same bytes others) refl (λ e. long_spelled bytes m marks are.1 e) e
  where
    by : (t : Bool) → same bytes others ≡ t → (long_in bytes marks ≡ Some m → bytes ≡ mark_bytes m)
        → cond t (Some n) (long_in bytes marks) ≡ Some m → bytes ≡ mark_bytes m
    by true h rest e = let mark : n ≡ m = cc e in same_is bytes others h ∙ are.0 ∙ ap mark_bytes mark
    by false h rest e = rest e

pub mark_spelled : (bytes : List ℕ) (m : Mark) → mark_of bytes ≡ Some m → bytes ≡ mark_bytes m
mark_spelled [] m e = absurd (cc e)
mark_spelled (b ∷ []) m e = short_spelled b m short_marks are_short e
mark_spelled (b ∷ c ∷ bytes) m e = long_spelled (b ∷ c ∷ bytes) m long_marks are_long e

pub spelled_mark : (m : Mark) → mark_of (mark_bytes m) ≡ Some m
spelled_mark Mark.Arrow = refl
spelled_mark other = refl

pub short_is : (b : ℕ) → mark_of (b ∷ []) ≡ first_mark b
short_is b = refl

-- Lemmas about a mark with the next byte

one : (x : Bool) (m : Mark) → cond (x && true) (Some m) None ≡ cond x (Some m) None
one true m = refl
one false m = refl

two : (x y : Bool) (m n : Mark) → cond (x && true) (Some m) (cond (y && true) (Some n) None) ≡ cond x (Some m) (cond y (Some n) None)
two true y m n = refl
two false true m n = refl
two false false m n = refl

three : (x y : Bool) (m n o : Mark)
    → cond (x && true) (Some m) (cond (y && true) (Some n) (cond (x && false) (Some o) None)) ≡ cond x (Some m) (cond y (Some n) None)
three true y m n o = refl
three false true m n o = refl
three false false m n o = refl

pub longer_is : (m : Mark) (b : ℕ) → mark_of (mark_bytes m ++ b ∷ []) ≡ longer_mark m b
longer_is Mark.Minus b = three (b == 45) (b == 62) Mark.Decrement Mark.Arrow Mark.LongArrow
longer_is Mark.Decrement b = one (b == 62) Mark.LongArrow
longer_is Mark.Plus b = one (b == 43) Mark.Increment
longer_is Mark.BitAnd b = one (b == 38) Mark.LogicalAnd
longer_is Mark.BitOr b = one (b == 124) Mark.LogicalOr
longer_is Mark.BitNot b = two (b == 126) (b == 61) Mark.LogicalNot Mark.NotEqual
longer_is Mark.Assign b = one (b == 61) Mark.Equal
longer_is Mark.Greater b = two (b == 61) (b == 62) Mark.GreaterOrEqual Mark.DoubleGreater
longer_is Mark.Less b = two (b == 61) (b == 60) Mark.LessOrEqual Mark.DoubleLess
longer_is Mark.Dot b = two (b == 38) (b == 35) Mark.DotAnd Mark.DotHash
longer_is Mark.Hash b = one (b == 35) Mark.DoubleHash
longer_is other b = refl
