-- The steps that are kept: what putting one of them changes, and where the walk goes by them.
use Rattle.std.proofs.Common.{◌-◌, ◌<◌, ◌≤◌, length, reverse, take, ◌≡◌, ℕ, zero, suc, List, [], ◌∷◌, ◌++◌, true, false, Some, refl, sym}
use Rattle.std.proofs.Common.{◌∙◌, ap, subst, inl, inr, get_or, set, slice_get, ◌⊎◌, unwrap_or, replicate}
use Rattle.std.proofs.{lemmas.List.append-nil, lemmas.Option.slice_get_read}
use Rattle.inf_machine.specs.{Grammar.Grammar, Grammar.has, Laws.IsDecided, declared.steps.Step.Step, declared.symbols.Symbol.Symbol}
use Rattle.inf_machine.specs.Machine.{Known, are_acts, acts_of, fits, opened, passed_row}
use Rattle.inf_machine.specs.Steps.{is_kept, step_at, step_of, Means, AllMean}
use Rattle.inf_machine.proofs.Reaching.{IsOn, Ends, on_passed, at_rule, at_other, top_is}

-- Lemmas about rows of steps

-- a row that grows by steps that were not met has the same steps
pub padded : (steps : List Step) (n a : ℕ) → step_at (steps ++ replicate n Step.Refused) a ≡ step_at steps a
padded [] zero a = refl
padded [] (suc n) zero = refl
padded [] (suc n) (suc a) = padded [] n a
padded (x ∷ steps) n zero = refl
padded (x ∷ steps) n (suc a) = padded steps n a

-- steps change in the row that is replaced, and in no other
pub put_row : (rows : List (List Step)) (rule : ℕ) (row : List Step) (r a : ℕ) →
    (step_of (set rows rule row) r a ≡ step_of rows r a) ⊎ ((r ≡ rule) × (step_of (set rows rule row) r a ≡ step_at row a))
put_row [] rule row r a = inl refl
put_row (x ∷ rows) zero row zero a = inr (refl, refl)
put_row (x ∷ rows) zero row (suc r) a = inl refl
put_row (x ∷ rows) (suc rule) row zero a = inl refl
put_row (x ∷ rows) (suc rule) row (suc r) a = elim (put_row rows rule row r a)
    as (λ s. (step_of (set rows rule row) r a ≡ step_of rows r a) ⊎ ((suc r ≡ suc rule) × (step_of (set rows rule row) r a ≡ step_at row a))) [
      | inl e ↦ inl e
      | inr e ↦ inr (ap suc e.0, e.1)
    ]

-- a step changes where it is put in the row of its rule, and nowhere else
pub put_in_row : (rows : List (List Step)) (rule atom : ℕ) (step : Step) (row : List Step) →
    ((a : ℕ) → (step_at row a ≡ step_of rows rule a) ⊎ ((a ≡ atom) × (step_at row a ≡ step))) → (r a : ℕ) →
    (step_of (set rows rule row) r a ≡ step_of rows r a) ⊎ ((r ≡ rule) × (a ≡ atom) × (step_of (set rows rule row) r a ≡ step))
put_in_row rows rule atom step row put r a = elim (put_row rows rule row r a) as (λ s. (step_of (set rows rule row) r a ≡ step_of rows r a)
    ⊎ ((r ≡ rule) × (a ≡ atom) × (step_of (set rows rule row) r a ≡ step))) [
      | inl e ↦ inl e
      | inr e ↦ in_it e.0 e.1 (put a)
    ]
  where
    in_it : r ≡ rule → step_of (set rows rule row) r a ≡ step_at row a →
        (step_at row a ≡ step_of rows rule a) ⊎ ((a ≡ atom) × (step_at row a ≡ step)) → (step_of (set rows rule row) r a ≡ step_of rows r a)
        ⊎ ((r ≡ rule) × (a ≡ atom) × (step_of (set rows rule row) r a ≡ step))
    in_it same at (inl e) = inl (at ∙ e ∙ ap (λ n. step_of rows n a) (sym same))
    in_it same at (inr e) = inr (same, e.0, at ∙ e.1)

-- a step that is put into a row among rows that have the steps of others
pub put_among : (old rows : List (List Step)) (rule atom : ℕ) (step : Step) (row now : List Step) → rule < length rows →
    row ≡ get_or rows rule row → ((r a : ℕ) → step_of rows r a ≡ step_of old r a) →
    ((a : ℕ) → (step_at now a ≡ step_at row a) ⊎ ((a ≡ atom) × (step_at now a ≡ step))) → (r a : ℕ) →
    (step_of (set rows rule now) r a ≡ step_of old r a) ⊎ ((r ≡ rule) × (a ≡ atom) × (step_of (set rows rule now) r a ≡ step))
put_among old rows rule atom step row now l at same put r a = elim (put_in_row rows rule atom step now in_row r a)
    as (λ s. (step_of (set rows rule now) r a ≡ step_of old r a) ⊎ ((r ≡ rule) × (a ≡ atom) × (step_of (set rows rule now) r a ≡ step))) [
      | inl e ↦ inl (e ∙ same r a)
      | inr e ↦ inr e
    ]
  where
    here : (n : ℕ) → step_at row n ≡ step_of rows rule n
    here n = ap (λ o. step_at (unwrap_or o []) n) (sym (slice_get_read rows (length rows) rule row refl l at))

    in_row : (n : ℕ) → (step_at now n ≡ step_of rows rule n) ⊎ ((n ≡ atom) × (step_at now n ≡ step))
    in_row n = elim (put n) as (λ s. (step_at now n ≡ step_of rows rule n) ⊎ ((n ≡ atom) × (step_at now n ≡ step))) [
      | inl e ↦ inl (e ∙ here n)
      | inr e ↦ inr e
    ]

-- Lemmas about openings

stays : {X : Type 0} (made more : List X) (place : ℕ) (x : X) → slice_get made place ≡ Some x → slice_get (made ++ more) place ≡ Some x
stays [] more place x e = cc
stays (y ∷ made) more zero x e = e
stays (y ∷ made) more (suc place) x e = stays made more place x e

-- the opening that was made last
pub opened_last : (made now : List (ℕ × ℕ)) (place : ℕ) (v x : ℕ × ℕ) → now ≡ made ++ (v ∷ []) → place ≡ length made → v ≡ x →
    slice_get now place ≡ Some x
opened_last made now place v x same e is =
    ap (λ ys. slice_get ys place) same ∙ ap (slice_get (made ++ (v ∷ []))) e ∙ at_end made ∙ ap Some is
  where
    at_end : (ys : List (ℕ × ℕ)) → slice_get (ys ++ (v ∷ [])) (length ys) ≡ Some v
    at_end [] = refl
    at_end (y ∷ ys) = at_end ys

module _ {A : Type 0} where
  -- what a step means stays where more openings are made
  pub means_on : (g : Grammar A) (k : Known) (made more : List (ℕ × ℕ)) (rule atom : ℕ) (step : Step) → Means g k made rule atom step →
      Means g k (made ++ more) rule atom step
  means_on g k made more rule atom Step.Silent m = m
  means_on g k made more rule atom Step.Passed m = m
  means_on g k made more rule atom Step.Refused m = m
  means_on g k made more rule atom (Step.Opened place) m = (m.0, stays made more place (rule, atom) m.1)

  pub all_mean_on : (g : Grammar A) (k : Known) (made now more : List (ℕ × ℕ)) (rows : List (List Step)) →
      now ≡ made ++ more → AllMean g k made rows → AllMean g k now rows
  all_mean_on g k made now more rows same all = subst (λ made. AllMean g k made rows) (sym same)
      (λ rule atom met. means_on g k made more rule atom (step_of rows rule atom) (all rule atom met))

  -- all steps mean what they did, and the one that was put means what it should
  pub all_mean_put : (g : Grammar A) (k : Known) (made : List (ℕ × ℕ)) (rows now : List (List Step)) (rule atom : ℕ) (step : Step) →
      AllMean g k made rows → Means g k made rule atom step →
      ((r a : ℕ) → (step_of now r a ≡ step_of rows r a) ⊎ ((r ≡ rule) × (a ≡ atom) × (step_of now r a ≡ step))) → AllMean g k made now
  all_mean_put g k made rows now rule atom step all means put r a met = by_place (put r a) where
    by_place : (step_of now r a ≡ step_of rows r a) ⊎ ((r ≡ rule) × (a ≡ atom) × (step_of now r a ≡ step)) →
        Means g k made r a (step_of now r a)
    by_place (inl e) = subst (Means g k made r a) (sym e) (all r a (ap is_kept (sym e) ∙ met))
    by_place (inr e) = subst (Means g k made r a) (sym e.2)
        (subst (λ n. Means g k made n a step) (sym e.0) (subst (λ n. Means g k made rule n step) (sym e.1) means))

  -- The walk at a rule, which is the last of the symbols below a place

  rule_is : (all now : List (Symbol A)) (below rule : ℕ) (x : Symbol A) → 0 < below → below ≤ length now → now ≡ all →
      x ≡ get_or now (below - 1) x → x ≡ Symbol.Rule rule → reverse (take below all) ≡ Symbol.Rule rule ∷ reverse (take (below - 1) all)
  rule_is all now below rule x p l same at is = subst (λ s. reverse (take below s) ≡ Symbol.Rule rule ∷ reverse (take (below - 1) s)) same
      (top_is now below x p l at ∙ ap (λ s. s ∷ reverse (take (below - 1) now)) is)

  -- the walk goes on past a rule that is passed over
  pub passed_at : (g : Grammar A) (k : Known) → IsDecided g k → (made : List (ℕ × ℕ)) (atom : ℕ) (all now : List (Symbol A))
      (below rule : ℕ) (x : Symbol A) (first acts : List A) → 0 < below → below ≤ length now → now ≡ all → x ≡ get_or now (below - 1) x →
      x ≡ Symbol.Rule rule → Means g k made rule atom Step.Passed → are_acts (passed_row g k (g.rows_of rule)) ≡ true →
      IsOn g k atom (reverse all) (reverse (take below all)) first acts →
      IsOn g k atom (reverse all) (reverse (take (below - 1) all)) first (acts ++ acts_of (passed_row g k (g.rows_of rule)))
  passed_at g k d made atom all now below rule x first acts p l same at is m are on =
      on_passed g k d atom rule (reverse all) (reverse (take below all)) (reverse (take (below - 1) all)) first acts
      (rule_is all now below rule x p l same at is) m.0 m.1 are on

  -- the walk goes on past a rule that is passed over without an action
  pub silent_at : (g : Grammar A) (k : Known) → IsDecided g k → (made : List (ℕ × ℕ)) (atom : ℕ) (all now : List (Symbol A))
      (below rule : ℕ) (x : Symbol A) (first acts : List A) → 0 < below → below ≤ length now → now ≡ all → x ≡ get_or now (below - 1) x →
      x ≡ Symbol.Rule rule → Means g k made rule atom Step.Silent → IsOn g k atom (reverse all) (reverse (take below all)) first acts →
      IsOn g k atom (reverse all) (reverse (take (below - 1) all)) first acts
  silent_at g k d made atom all now below rule x first acts p l same at is m on =
      subst (λ end. IsOn g k atom (reverse all) (reverse (take (below - 1) all)) first end)
      (ap (λ row. acts ++ acts_of row) m.2 ∙ append-nil acts)
      (passed_at g k d made atom all now below rule x first acts p l same at is (m.0, m.1) (ap are_acts m.2) on)

  -- the atom does not fit at a rule that refuses it
  pub refused_at : (g : Grammar A) (k : Known) (made : List (ℕ × ℕ)) (atom : ℕ) (all now : List (Symbol A)) (below rule : ℕ) (x : Symbol A)
      (first acts : List A) → 0 < below → below ≤ length now → now ≡ all → x ≡ get_or now (below - 1) x → x ≡ Symbol.Rule rule →
      Means g k made rule atom Step.Refused → IsOn g k atom (reverse all) (reverse (take below all)) first acts →
      false ≡ fits g k atom (reverse all)
  refused_at g k made atom all now below rule x first acts p l same at is m on =
      at_other g k atom rule (reverse all) (reverse (take below all)) (reverse (take (below - 1) all)) first acts
      (rule_is all now below rule x p l same at is) m.0 m.1 on

  -- the walk ends at a rule that the atom begins, with what the opening `o` at its place gives
  pub opened_at : (g : Grammar A) (k : Known) → IsDecided g k → (made : List (ℕ × ℕ)) (atom : ℕ) (all now : List (Symbol A))
      (below rule : ℕ) (x : Symbol A) (first acts : List A) (place : ℕ) (o : ℕ × ℕ) → 0 < below → below ≤ length now → now ≡ all →
      x ≡ get_or now (below - 1) x → x ≡ Symbol.Rule rule → Means g k made rule atom (Step.Opened place) → slice_get made place ≡ Some o →
      IsOn g k atom (reverse all) (reverse (take below all)) first acts →
      Ends g k atom (reverse all) ((opened g k o.0 o.1).left ++ reverse (take (below - 1) all)) first (acts ++ (opened g k o.0 o.1).actions)
  opened_at g k d made atom all now below rule x first acts place o p l same at is m there on =
      let one : (rule, atom) ≡ o = some_is (sym m.1 ∙ there) in
      subst (λ (o : ℕ × ℕ). Ends g k atom (reverse all) ((opened g k o.0 o.1).left ++ reverse (take (below - 1) all)) first
      (acts ++ (opened g k o.0 o.1).actions)) one
      (at_rule g k d atom rule (reverse all) (reverse (take below all)) (reverse (take (below - 1) all)) first acts
      (rule_is all now below rule x p l same at is) m.0 on)
    where
      some_is : {v w : ℕ × ℕ} → Some v ≡ Some w → v ≡ w
      some_is e = cc
