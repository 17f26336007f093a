-- Each turn ends reading, or lessens how far it can still go.
use Rattle.std.proofs.Common.{◌≡◌, ◌⊎◌, inl, inr, ℕ, suc, zero, ◌+◌, ◌-◌, ◌*◌, ◌<◌, ◌≤◌, List, [], ◌∷◌, ◌++◌, length, map, cond, Bool}
use Rattle.std.proofs.Common.{true, false, sym, ap, subst, ◌∙◌, arith, refl, length-append}
use Rattle.inf_characters.specs.declared.characters.CharSet.{CharSet}
use Rattle.inf_lexer.specs.Readers.{Reader}
use Rattle.inf_sources.specs.{Open.Open, Open.lexers_of, declared.open_file.OpenFile.OpenFile}
use Rattle.inf_sources.specs.Choosing.{file_with, open_with, reader_with}
use Rattle.inf_session.specs.Weights.{Enters, GoesOn, Leaves, Stays, Turns, room, scale, weigh_from, weight}

-- scales are linear, so the larger weighs more
scale_sum : (n a b : ℕ) → scale n (a + b) ≡ scale n a + scale n b
scale_sum zero a b = refl
scale_sum (suc n) a b = ap (scale n) (omega arith) ∙ scale_sum n (16777218 * a) (16777218 * b)

scale_one : (n : ℕ) → 0 < scale n 1
scale_one n = scale_at n 0 where
  scale_at : (n a : ℕ) → 0 < scale n (suc a)
  scale_at zero a = omega arith
  scale_at (suc n) a = subst (λ m. 0 < scale n m) (omega arith) (scale_at n (16777218 * a + 16777217))

scale_more : (n a b : ℕ) → a < b → scale n a < scale n b
scale_more n a b less =
    let split : b ≡ a + (1 + (b - a - 1)) = omega (arith, less) in
    let more : scale n b ≡ scale n a + (scale n 1 + scale n (b - a - 1)) =
    ap (scale n) split ∙ scale_sum n a (1 + (b - a - 1)) ∙ ap (λ x. scale n a + x) (scale_sum n 1 (b - a - 1)) in
    omega (arith, more, scale_one n)

-- a list of files in two parts
weigh_append : (n m : ℕ) (xs ys : List Reader) → m ≡ n + length xs → weigh_from n (xs ++ ys) ≡ weigh_from n xs + weigh_from m ys
weigh_append n m [] ys e =
    let same : n ≡ m = omega (arith, e) in
    let here : weigh_from n ys ≡ weigh_from m ys = ap (λ k. weigh_from k ys) same in
    omega (arith, here)
weigh_append n m (x ∷ xs) ys e =
    let rest = weigh_append (suc n) m xs ys (omega (arith, e)) in omega (arith, rest)

-- the weight of the outer files and the innermost one
weight_is : (outer : List Reader) (r : Reader) → weigh_from 0 (outer ++ r ∷ []) ≡ weigh_from 0 outer + scale (15 - length outer) (room r)
weight_is outer r =
    let split = weigh_append 0 (length outer) outer (r ∷ []) (omega arith) in omega (arith, split)

weight_in : (f : Open) (outer : List Reader) → lexers_of f.outer ≡ outer →
    weight f ≡ weigh_from 0 outer + scale (15 - length outer) (room f.lexer)
weight_in f outer e = ap (λ rs. weigh_from 0 (rs ++ f.lexer ∷ [])) e ∙ weight_is outer f.lexer

lexers_length : (files : List OpenFile) → length (lexers_of files) ≡ length files
lexers_length [] = refl
lexers_length (f ∷ files) = ap suc (lexers_length files)

-- Lemmas about the fall of the weight in one turn

abbrev pub Falls : Open → Open → Type 0
Falls before after = weight after < weight before

-- the file at hand goes on
stays_less : (before mid after : Open) → lexers_of mid.outer ≡ lexers_of before.outer → room mid.lexer < room before.lexer → after ≡ mid →
    Falls before after
stays_less before mid after outer less same =
    let was = weight_in before (lexers_of before.outer) refl in
    let now : weight after ≡ weigh_from 0 (lexers_of before.outer) + scale (15 - length (lexers_of before.outer)) (room mid.lexer) =
    ap weight same ∙ weight_in mid (lexers_of before.outer) outer in
    let more = scale_more (15 - length (lexers_of before.outer)) (room mid.lexer) (room before.lexer) less in
    omega (arith, was, now, more)

-- the file goes on by another character set, which weighs nothing
set_weighs : (set : CharSet) (n : ℕ) (files : List OpenFile) (r : Reader) →
    weigh_from n (lexers_of (map (file_with set) files) ++ reader_with set r ∷ []) ≡ weigh_from n (lexers_of files ++ r ∷ [])
set_weighs set n [] r = refl
set_weighs set n (f ∷ files) r = ap (λ w. scale (15 - n) (room f.lexer) + w) (set_weighs set (suc n) files r)

turns_less : (before mid after : Open) (set : CharSet) → lexers_of mid.outer ≡ lexers_of before.outer
    → room mid.lexer < room before.lexer → after ≡ open_with set mid → Falls before after
turns_less before mid after set outer less turned =
    let same : weight after ≡ weight mid = ap weight turned ∙ set_weighs set 0 mid.outer mid.lexer in
    subst (λ n. n < weight before) (sym same) (stays_less before mid mid outer less refl)

-- the file was left, with all that it could still have
leaves_less : (before mid after : Open) → lexers_of mid.outer ≡ lexers_of before.outer →
    lexers_of mid.outer ≡ lexers_of after.outer ++ after.lexer ∷ [] → Falls before after
leaves_less before mid after outer left =
    let was = weight_in before (lexers_of after.outer ++ after.lexer ∷ []) (sym outer ∙ left) in
    let some = scale_more (15 - length (lexers_of after.outer ++ after.lexer ∷ [])) 0 (room before.lexer) (omega arith) in
    omega (arith, was, some)

-- another file was entered, which can have no more than the weight of the bytes that were taken
enters_less : (before mid after : Open) → lexers_of mid.outer ≡ lexers_of before.outer → room mid.lexer < room before.lexer
    → after.lexer.window.given ≡ 0 → after.lexer.window.left ≡ [] → lexers_of after.outer ≡ lexers_of mid.outer ++ mid.lexer ∷ [] → length
    (lexers_of mid.outer) < 15 → Falls before after
enters_less before mid after outer less none empty entered deep =
    let levels : 15 - length (lexers_of before.outer) ≡ suc (14 - length (lexers_of before.outer)) = omega (arith, deep, ap length outer) in
    let was : weight before ≡ weigh_from 0 (lexers_of before.outer) + scale (14 - length (lexers_of before.outer))
    (16777218 * room before.lexer) =
    weight_in before (lexers_of before.outer) refl ∙ ap (λ n. weigh_from 0 (lexers_of before.outer) + scale n (room before.lexer)) levels in
    let size : length (lexers_of before.outer ++ mid.lexer ∷ []) ≡ suc (length (lexers_of before.outer)) =
    omega (arith, length-append (lexers_of before.outer) (mid.lexer ∷ [])) in
    let inner : 15 - length (lexers_of before.outer ++ mid.lexer ∷ []) ≡ 14 - length (lexers_of before.outer) = omega (arith, size) in
    let all : room after.lexer ≡ 16777217 = omega (arith, none, ap length empty) in
    let around : weigh_from 0 (lexers_of before.outer ++ mid.lexer ∷ []) ≡ weigh_from 0 (lexers_of before.outer) + scale
    (14 - length (lexers_of before.outer)) (16777218 * room mid.lexer) =
    weight_is (lexers_of before.outer) mid.lexer ∙ ap (λ n. weigh_from 0 (lexers_of before.outer) + scale n (room mid.lexer)) levels in
    let now : weight after ≡ weigh_from 0 (lexers_of before.outer ++ mid.lexer ∷ []) + scale
    (14 - length (lexers_of before.outer)) 16777217 =
    weight_in after (lexers_of before.outer ++ mid.lexer ∷ []) (entered ∙ ap (λ rs. rs ++ mid.lexer ∷ []) outer)
    ∙ ap (λ n. weigh_from 0 (lexers_of before.outer ++ mid.lexer ∷ []) + scale n (room after.lexer)) inner
    ∙ ap (λ n. weigh_from 0 (lexers_of before.outer ++ mid.lexer ∷ []) + scale (14 - length (lexers_of before.outer)) n) all in
    let both = scale_sum (14 - length (lexers_of before.outer)) (16777218 * room mid.lexer) 16777217 in
    let more = scale_more (14 - length (lexers_of before.outer)) (16777218 * room mid.lexer + 16777217) (16777218 * room before.lexer)
    (omega (arith, less)) in
    omega (arith, was, around, now, both, more)

-- a token was taken of the innermost file, or its end was read; and then reading went on
pub falls : (before mid after : Open) (is_at_end : Bool) → mid.outer ≡ before.outer
    → (is_at_end ≡ true) ⊎ (room mid.lexer < room before.lexer) → GoesOn is_at_end mid after → Falls before after
falls before mid after is_at_end outer moved (Leaves is) = leaves_less before mid after (ap lexers_of outer) is
falls before mid after is_at_end outer (inl at_end) (Stays going same) = let never : true ≡ false = sym at_end ∙ going in cc
falls before mid after is_at_end outer (inl at_end) (Turns set going turned) = let never : true ≡ false = sym at_end ∙ going in cc
falls before mid after is_at_end outer (inl at_end) (Enters going none empty is deep) = let never : true ≡ false = sym at_end ∙ going in cc
falls before mid after is_at_end outer (inr less) (Stays going same) = stays_less before mid after (ap lexers_of outer) less same
falls before mid after is_at_end outer (inr less) (Turns set going turned) =
    turns_less before mid after set (ap lexers_of outer) less turned
falls before mid after is_at_end outer (inr less) (Enters going none empty is deep) =
    enters_less before mid after (ap lexers_of outer) less none empty is (omega (arith, deep, lexers_length mid.outer))

-- a token was taken of the bytes that were in view and given
pub room_less : (before after : Reader) → before.window.given + length after.window.left < after.window.given + length before.window.left
    → after.window.given ≤ 16777216 → room after < room before
room_less before after less few = omega (arith, less, few)

-- a turn that does not end reading leaves a smaller weight than the one before
pub falls_then : (over ended : Bool) (first mid last : ℕ) → (over ≡ true) ⊎ (mid < first) → over ≡ false → (ended ≡ true) ⊎ (last < mid) →
    (ended ≡ true) ⊎ (last < first)
falls_then over ended first mid last (inl is) going after = let never : true ≡ false = sym is ∙ going in cc
falls_then over ended first mid last (inr less) going (inl is) = inl is
falls_then over ended first mid last (inr less) going (inr more) = inr (omega (arith, less, more))

-- the bound of a loop falls, by whether reading has ended
pub ends_or_falls : (last over : Bool) (m n : ℕ) → over ≡ false → (last ≡ true) ⊎ (n < m) → cond last 0 (suc n) < cond over 0 (suc m)
ends_or_falls last true m n going after = cc
ends_or_falls true false m n going after = omega arith
ends_or_falls false false m n going (inl is) = cc
ends_or_falls false false m n going (inr less) = omega (arith, less)
