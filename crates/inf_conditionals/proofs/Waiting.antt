-- Conditions that wait, and are read again by their tokens.
use Rattle.std.proofs.Common.{◌≡◌, ℕ, suc, List, [], ◌∷◌, ◌++◌, Bool, true, false, ◌&&◌, drop}
use Rattle.std.proofs.Common.{Some, refl, sym, ap, subst, ◌∙◌, slice_get}
use Rattle.std.proofs.Math.Seq.{drop-cons}
use Rattle.std.proofs.lemmas.Option.{get_or_from_slice_get, slice_get_within}
use Rattle.inf_machine.specs.{Machine.fits, Machine.taken as read}
use Rattle.inf_grammar.specs.Language.{grammar, known}
use Rattle.inf_unit.specs.{Tokens.SourceToken, Tokens.atom_of, Units.taken}
use Rattle.inf_conditionals.specs.Condition.{Condition, condition_begun, condition_took}
use Rattle.inf_conditionals.specs.ReadAgain.{IsReadBy, all_fit, all_taken}

-- Lemmas about one token more

pub taken_more : (ts : List SourceToken) (t : SourceToken) (k : Condition) → all_taken (ts ++ t ∷ []) k ≡ condition_took t (all_taken ts k)
taken_more [] t k = refl
taken_more (x ∷ ts) t k = taken_more ts t (condition_took x k)

pub both_true : (a b : Bool) → (a && b) ≡ true → (a ≡ true) × (b ≡ true)
both_true true b e = (refl, e)
both_true false b e = cc

fit_more : (ts : List SourceToken) (t : SourceToken) (k : Condition) → all_fit ts k ≡ true →
    fits grammar known (atom_of t) (all_taken ts k).stack ≡ true → all_fit (ts ++ t ∷ []) k ≡ true
fit_more [] t k all fit = ap (λ b. b && true) fit
fit_more (x ∷ ts) t k all fit =
    let two = both_true (fits grammar known (atom_of x) k.stack) (all_fit ts (condition_took x k)) all in
    ap (λ b. b && all_fit (ts ++ t ∷ []) (condition_took x k)) two.0 ∙ fit_more ts t (condition_took x k) two.1 fit

pub read_by_more : (ts : List SourceToken) (t : SourceToken) (k new : Condition) → IsReadBy ts k →
    fits grammar known (atom_of t) k.stack ≡ true → new ≡ condition_took t k → IsReadBy (ts ++ t ∷ []) new
read_by_more ts t k new is fit e = (
  fit_more ts t condition_begun is.0 (subst (λ (c : Condition). fits grammar known (atom_of t) c.stack ≡ true) is.1 fit),
  e ∙ ap (λ (c : Condition). condition_took t c) is.1 ∙ sym (taken_more ts t condition_begun),
)

-- Lemmas about tokens one by one

pub drop_at : (ts : List SourceToken) (at : ℕ) (t : SourceToken) → slice_get ts at ≡ Some t → drop at ts ≡ t ∷ drop (suc at) ts
drop_at ts at t e = drop-cons ts at t (slice_get_within ts at t e)
    ∙ ap (λ (x : SourceToken). x ∷ drop (suc at) ts) (get_or_from_slice_get ts at t t e)

-- The token at hand is taken, of those from its place on.

split_at : (ts : List SourceToken) (at : ℕ) (t : SourceToken) (k : Condition) → slice_get ts at ≡ Some t → all_fit (drop at ts) k ≡ true →
    (fits grammar known (atom_of t) k.stack ≡ true) × (all_fit (drop (suc at) ts) (condition_took t k) ≡ true)
split_at ts at t k there all = both_true (fits grammar known (atom_of t) k.stack) (all_fit (drop (suc at) ts) (condition_took t k))
    (ap (λ (l : List SourceToken). all_fit l k) (sym (drop_at ts at t there)) ∙ all)

pub one_fits : (ts : List SourceToken) (at : ℕ) (t : SourceToken) (k : Condition) → slice_get ts at ≡ Some t →
    all_fit (drop at ts) k ≡ true → fits grammar known (atom_of t) k.stack ≡ true
one_fits ts at t k there all = (split_at ts at t k there all).0

pub others_fit : (ts : List SourceToken) (at next : ℕ) (t : SourceToken) (k new : Condition) → next ≡ suc at → slice_get ts at ≡ Some t →
    new ≡ condition_took t k → all_fit (drop at ts) k ≡ true → all_fit (drop next ts) new ≡ true
others_fit ts at next t k new n there e all =
    ap (λ i. all_fit (drop i ts) new) n ∙ ap (λ (c : Condition). all_fit (drop (suc at) ts) c) e ∙ (split_at ts at t k there all).1

pub others_taken : (ts : List SourceToken) (at next : ℕ) (t : SourceToken) (k new : Condition) → next ≡ suc at → slice_get ts at ≡ Some t →
    new ≡ condition_took t k → all_taken (drop next ts) new ≡ all_taken (drop at ts) k
others_taken ts at next t k new n there e = ap (λ i. all_taken (drop i ts) new) n ∙ ap (λ (c : Condition). all_taken (drop (suc at) ts) c) e
    ∙ sym (ap (λ (l : List SourceToken). all_taken l k) (drop_at ts at t there))

-- The token at hand is added behind others.

-- Lemmas about the last condition that waits

-- A short condition waits
