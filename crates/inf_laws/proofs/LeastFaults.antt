-- The least of some findings, list by list.
use Rattle.std.proofs.Common.{◌≡◌, ◌⊎◌, inl, inr, ℕ, ◌-◌, ◌<◌, ◌≤◌, nat_eq, List, [], ◌∷◌, ◌++◌, append-nil, ltb}
use Rattle.std.proofs.Common.{◌&&◌, ◌||◌, Bool, true, false, Option, None, Some, refl, sym, ap, subst, ◌∙◌, arith}
use Rattle.std.proofs.lemmas.Bool.{and_from, and_parts, cases_lt, eqb-true, false_from_ne_true, lt-ltb, ltb-false, ltb-true, or_cases, or_parts}
use Rattle.std.proofs.lemmas.Bool.Decides.{eqb_tells}
use Rattle.std.specs.Prelude.{◌≢◌, if◌then◌else◌}
use Rattle.inf_machine.specs.Grammar.{IsOneOf, first, later}
use Rattle.inf_expressions.specs.{Findings.error_number, Findings.is_before, Findings.least_of_both, declared.findings.Finding.Finding}
use Rattle.inf_laws.specs.UnitFaults.{IsLeastOf}

-- Lemmas about the order of findings

abbrev Before : Finding → Finding → Type 0
Before a b = (a.order < b.order) ⊎ ((a.order ≡ b.order) × (error_number a.error < error_number b.error))

before_by : (a b : Finding) → is_before a b ≡ true → Before a b
before_by a b e = go (or_cases (ltb a.order b.order) (nat_eq a.order b.order && ltb (error_number a.error) (error_number b.error)) e)
  where
    go : (ltb a.order b.order ≡ true) ⊎ ((nat_eq a.order b.order && ltb (error_number a.error) (error_number b.error)) ≡ true) → Before a b
    go (inl less) = inl (ltb-true a.order b.order less)
    go (inr same) =
        let parts = and_parts (nat_eq a.order b.order) (ltb (error_number a.error) (error_number b.error)) same in
        inr (eqb-true a.order b.order parts.0, ltb-true (error_number a.error) (error_number b.error) parts.1)

or-true : (b : Bool) → (b || true) ≡ true
or-true true = refl
or-true false = refl

same_order : (a b : ℕ) → a ≡ b → nat_eq a b ≡ true
same_order a b same = go (eqb_tells a b)
  where
    go : ((nat_eq a b ≡ true) × (a ≡ b)) ⊎ ((nat_eq a b ≡ false) × (a ≢ b)) → nat_eq a b ≡ true
    go (inl is) = is.0
    go (inr other) = absurd (other.1 same)

is_before_by : (a b : Finding) → Before a b → is_before a b ≡ true
is_before_by a b (inl less) =
    ap (λ c. c || (nat_eq a.order b.order && ltb (error_number a.error) (error_number b.error))) (lt-ltb a.order b.order less)
is_before_by a b (inr same) = ap (λ c. ltb a.order b.order || c)
    (and_from (nat_eq a.order b.order) (ltb (error_number a.error) (error_number b.error)) (same_order a.order b.order same.0)
    (lt-ltb (error_number a.error) (error_number b.error) same.1))
    ∙ or-true (ltb a.order b.order)

abbrev NoLater : Finding → Finding → Type 0
NoLater a b = (a.order < b.order) ⊎ ((a.order ≡ b.order) × (error_number a.error ≤ error_number b.error))

no_later_by : (a b : Finding) → is_before b a ≡ false → NoLater a b
no_later_by a b e = go (eqb_tells b.order a.order) (cases_lt a.order b.order)
  where
    parts : (ltb b.order a.order ≡ false) × ((nat_eq b.order a.order && ltb (error_number b.error) (error_number a.error)) ≡ false)
    parts = or_parts (ltb b.order a.order) (nat_eq b.order a.order && ltb (error_number b.error) (error_number a.error)) e

    go : ((nat_eq b.order a.order ≡ true) × (b.order ≡ a.order)) ⊎ ((nat_eq b.order a.order ≡ false) × (b.order ≢ a.order))
        → (a.order < b.order) ⊎ (b.order ≤ a.order) → NoLater a b
    go (inl same) of = inr (
      sym same.1,
      ltb-false (error_number b.error) (error_number a.error)
          (ap (λ c. c && ltb (error_number b.error) (error_number a.error)) (sym same.0) ∙ parts.1),
    )
    go (inr other) (inl less) = inl less
    go (inr other) (inr more) = absurd (other.1 (omega (arith, more, ltb-false b.order a.order parts.0)))

before_both : (a b c : Finding) → Before a b → NoLater b c → Before a c
before_both a b c (inl less) (inl more) = inl (omega (arith, less, more))
before_both a b c (inl less) (inr same) = inl (omega (arith, less, same.0))
before_both a b c (inr same) (inl more) = inl (omega (arith, same.0, more))
before_both a b c (inr same) (inr also) = inr (omega (arith, same.0, also.0), omega (arith, same.1, also.1))

no_later : (a b : Finding) → Before a b → NoLater a b
no_later a b (inl less) = inl less
no_later a b (inr same) = inr (same.0, omega (arith, same.1))

-- a finding that is not before one is not before a lesser one
not_before : (g a b : Finding) → is_before g a ≡ false → NoLater b a → is_before g b ≡ false
not_before g a b e less =
    false_from_ne_true (is_before g b) (λ t. never (sym (is_before_by g a (before_both g b a (before_by g b t) less)) ∙ e))
  where
    never : true ≡ false → ⊥
    never e = cc

never_itself : (a : Finding) → is_before a a ≡ false
never_itself a = false_from_ne_true (is_before a a) (λ t. go (before_by a a t))
  where
    go : Before a a → ⊥
    go (inl less) = omega (arith, less)
    go (inr same) = omega (arith, same.1)

-- Lemmas about the least of two lists

one_left : {f : Finding} {xs : List Finding} (ys : List Finding) → IsOneOf f xs → IsOneOf f (xs ++ ys)
one_left ys first = first
one_left ys (later one) = later (one_left ys one)

one_right : {f : Finding} {ys : List Finding} (xs : List Finding) → IsOneOf f ys → IsOneOf f (xs ++ ys)
one_right [] one = one
one_right (x ∷ xs) one = later (one_right xs one)

one_either : {g : Finding} (xs ys : List Finding) → IsOneOf g (xs ++ ys) → IsOneOf g xs ⊎ IsOneOf g ys
one_either [] ys one = inr one
one_either (x ∷ xs) ys first = inl first
one_either {g} (x ∷ xs) ys (later one) = go (one_either xs ys one)
  where
    go : IsOneOf g xs ⊎ IsOneOf g ys → IsOneOf g (x ∷ xs) ⊎ IsOneOf g ys
    go (inl here) = inl (later here)
    go (inr there) = inr there

lesser : (a b : Finding) (xs ys : List Finding) → IsLeastOf (Some a) xs → IsLeastOf (Some b) ys
    → IsLeastOf (if is_before b a then Some b else Some a) (xs ++ ys)
lesser a b xs ys x y = go (is_before b a) refl
  where
    behind_both : (f : Finding) → NoLater f a → NoLater f b → (g : Finding) → IsOneOf g xs ⊎ IsOneOf g ys → is_before g f ≡ false
    behind_both f less also g (inl here) = not_before g a f (x.1 g here) less
    behind_both f less also g (inr there) = not_before g b f (y.1 g there) also

    go : (t : Bool) → is_before b a ≡ t → IsLeastOf (if t then Some b else Some a) (xs ++ ys)
    go true e = (
      one_right xs y.0,
      λ g one. behind_both b (no_later b a (before_by b a e)) (no_later_by b b (never_itself b)) g (one_either xs ys one),
    )
    go false e = (one_left ys x.0, λ g one. behind_both a (no_later_by a a (never_itself a)) (no_later_by a b e) g (one_either xs ys one))

pub least_of_lists : (x y : Option Finding) (xs ys : List Finding) → IsLeastOf x xs → IsLeastOf y ys → IsLeastOf (least_of_both x y) (xs ++ ys)
least_of_lists None None xs ys none also = ap (λ l. l ++ ys) none ∙ also
least_of_lists (Some a) None xs ys x none = subst (IsLeastOf (Some a)) (sym (append-nil xs) ∙ ap (λ l. xs ++ l) (sym none)) x
least_of_lists None (Some b) xs ys none y = subst (λ l. IsLeastOf (Some b) (l ++ ys)) (sym none) y
least_of_lists (Some a) (Some b) xs ys x y = lesser a b xs ys x y

only_one : (f g : Finding) → IsOneOf g (f ∷ []) → is_before g f ≡ false
only_one f g first = never_itself f
only_one f g (later none) = elim none [ ]

pub least_of_one : (f : Finding) → IsLeastOf (Some f) (f ∷ [])
least_of_one f = (first, only_one f)
