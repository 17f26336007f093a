-- Numbers that are added to a list, unless they are there, stand in the order of their first appearance.
use Rattle.std.proofs.Common.{◌≡◌, ℕ, List, [], ◌∷◌, ◌++◌, Bool, true, false, refl, ◌∙◌, ap, sym, append_assoc, append-nil}
use Rattle.std.specs.Prelude.{◌||◌, cond, nat_eq}
use Rattle.std.specs.List.{fold, list_any}
use Rattle.inf_verbs.specs.Routines.{AllActions, with_action, with_routine}
use Rattle.inf_verb_laws.specs.{Laws.ActionsAgree, Laws.RoutinesAgree, Laws.no_actions, Verbs.distinct}

or_swapped : (a b c : Bool) → (a || (b || c)) ≡ (b || (a || c))
or_swapped true true c = refl
or_swapped true false c = refl
or_swapped false b c = refl

at_end : (n r : ℕ) (xs : List ℕ) → list_any (nat_eq n) (xs ++ r ∷ []) ≡ (nat_eq n r || list_any (nat_eq n) xs)
at_end n r [] = refl
at_end n r (x ∷ xs) = ap (λ b. nat_eq n x || b) (at_end n r xs) ∙ or_swapped (nat_eq n x) (nat_eq n r) (list_any (nat_eq n) xs)

abbrev all_added : List ℕ → List ℕ → List ℕ
all_added before named = fold (λ rs r. with_routine r rs) before named

by_seen : (r : ℕ) (before seen named : List ℕ) → all_added before named ≡ before ++ distinct seen named
    → all_added (before ++ r ∷ []) named ≡ (before ++ r ∷ []) ++ distinct (r ∷ seen) named → (b c : Bool) → b ≡ c
    → all_added (cond b before (before ++ r ∷ [])) named ≡ before ++ cond c (distinct seen named) (r ∷ distinct (r ∷ seen) named)
by_seen r before seen named old new true true e = old
by_seen r before seen named old new false false e = new ∙ append_assoc before (r ∷ []) (distinct (r ∷ seen) named)
by_seen r before seen named old new true false e = cc
by_seen r before seen named old new false true e = cc

in_order : (before seen named : List ℕ) → ((n : ℕ) → list_any (nat_eq n) before ≡ list_any (nat_eq n) seen)
    → all_added before named ≡ before ++ distinct seen named
in_order before seen [] h = sym (append-nil before)
in_order before seen (r ∷ named) h = by_seen r before seen named (in_order before seen named h)
    (in_order (before ++ r ∷ []) (r ∷ seen) named (λ n. at_end n r before ∙ ap (λ b. nat_eq n r || b) (h n)))
    (list_any (nat_eq r) before) (list_any (nat_eq r) seen) (h r)

pub routines_agree : RoutinesAgree
routines_agree named = in_order [] [] named (λ n. refl)

actions_are : (a : AllActions) (named : List ℕ) → (fold (λ a n. with_action n a) a named).routines ≡ all_added a.routines named
actions_are a [] = refl
actions_are a (n ∷ named) = actions_are (with_action n a) named

pub actions_agree : ActionsAgree
actions_agree fakes named = actions_are (no_actions fakes) named ∙ routines_agree named
