-- The text of an inclusion that can name a file is of ASCII.
use Rattle.std.proofs.Common.{◌≡◌, ℕ, zero, suc, ◌==◌, nat_lt, List, [], ◌∷◌, length, Bool, true, false, not, ◌&&◌, cond, refl, arith}
use Rattle.std.proofs.lemmas.Bool.{eqb-true, ltb-true}
use Rattle.std.specs.{List.list_all, Str.IsAscii}
use Rattle.inf_lexer.specs.Names.{can_name, is_fit}

-- the first of two tests holds where both do, and the second
first_holds : (a b : Bool) → (a && b) ≡ true → a ≡ true
first_holds true b e = refl
first_holds false b e = cc

second_holds : (a b : Bool) → (a && b) ≡ true → b ≡ true
second_holds true b e = e
second_holds false b e = cc

each_ascii : (bs : List ℕ) → list_all (λ b. nat_lt b 128) bs ≡ true → IsAscii bs
each_ascii [] all i = omega arith
each_ascii (b ∷ bs) all zero = ltb-true b 128 (first_holds (nat_lt b 128) (list_all (λ x. nat_lt x 128) bs) all)
each_ascii (b ∷ bs) all (suc i) = each_ascii bs (second_holds (nat_lt b 128) (list_all (λ x. nat_lt x 128) bs) all) i

fit_ascii : (name : List ℕ) → is_fit name ≡ true → IsAscii name
fit_ascii name fit = each_ascii name (second_holds (not (length name == 0)) (list_all (λ b. nat_lt b 128) name) fit)

pub names_are_ascii : (text : List ℕ) → can_name text ≡ true → IsAscii text
names_are_ascii [] can = each_ascii [] refl
names_are_ascii (b ∷ bs) can = by (b == 62) refl can where
  by : (sign : Bool) → (b == 62) ≡ sign → is_fit (cond sign bs (b ∷ bs)) ≡ true → IsAscii (b ∷ bs)
  by false is fit = fit_ascii (b ∷ bs) fit
  by true is fit = behind (fit_ascii bs fit) where
    behind : IsAscii bs → IsAscii (b ∷ bs)
    behind each zero = omega (arith, eqb-true b 62 is)
    behind each (suc i) = each i
