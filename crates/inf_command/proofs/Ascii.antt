-- Bytes that are all of ASCII are a text.
use Rattle.std.proofs.{lemmas.Bool.ltb-true, lemmas.List.take_all, lemmas.Str.IsUtf8-from_ascii}
use Rattle.std.proofs.Common.{◌≡◌, ℕ, zero, suc, ◌-◌, List, [], ◌∷◌, length, take, drop, Bool, true, false, ◌&&◌, refl, arith, subst, sym}
use Rattle.std.specs.{Char.is_ascii, List.list_all, Str.IsAscii, Str.IsUtf8}

-- each of two tests that hold together
first_holds : (a b : Bool) → (a && b) ≡ true → a ≡ true
first_holds true b e = refl
first_holds false b e = cc

second_holds : (a b : Bool) → (a && b) ≡ true → b ≡ true
second_holds true b e = e
second_holds false b e = cc

each_ascii : (bs : List ℕ) → list_all is_ascii bs ≡ true → IsAscii bs
each_ascii [] all i = omega arith
each_ascii (b ∷ bs) all zero = ltb-true b 128 (first_holds (is_ascii b) (list_all is_ascii bs) all)
each_ascii (b ∷ bs) all (suc i) = each_ascii bs (second_holds (is_ascii b) (list_all is_ascii bs) all) i

-- the bytes of a text of ASCII behind its first are a text
pub text_behind : (bs : List ℕ) → list_all is_ascii bs ≡ true → IsUtf8 (take (length bs - 1) (drop 1 bs))
text_behind [] all = IsUtf8-from_ascii [] (each_ascii [] refl)
text_behind (b ∷ bs) all =
    let whole : take (length (b ∷ bs) - 1) bs ≡ bs = take_all _ bs (omega arith) in
    subst IsUtf8 (sym whole) (IsUtf8-from_ascii bs (each_ascii bs (second_holds (is_ascii b) (list_all is_ascii bs) all)))
