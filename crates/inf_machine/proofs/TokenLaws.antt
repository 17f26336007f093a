-- The laws of reading.
use Rattle.std.proofs.Common.{◌≡◌, ℕ, List, [], ◌∷◌, ◌++◌, Bool, true, false, Option, Some, None, is_some, refl, sym, ◌∙◌, ap, subst, arith}
use Rattle.std.proofs.Common.{append_assoc, if◌then◌else◌}
use Rattle.std.proofs.lemmas.Bool.{cond-true}
use Rattle.inf_machine.specs.{Laws.BadTokensBeginNothing, Laws.IsDecided, Laws.IsSpaced, Laws.TextsAreTaken, declared.symbols.Symbol.Symbol}
use Rattle.inf_machine.specs.Grammar.{Grammar, Leads, here, IsText, Begins, Event}
use Rattle.inf_machine.specs.Machine.{Known, fits, taken, events_of, work, read, Read, behind}
use Rattle.inf_machine.proofs.Taking.{leads_on, leads_only, spaced_left}

module _ {A : Type 0} where
  -- the symbols that are left once the tokens of a text are all taken
  pub record AllTaken (g : Grammar A) (k : Known) (symbols : List (Symbol A)) (atoms : List ℕ) (events : List (Event A))
      (left : List (Symbol A)) : Type 0 where
    pub r : Read A
    pub rest : List (Event A)
    pub are : read g k symbols atoms ≡ Some r
    pub same : events ≡ r.events ++ rest
    pub leads : Leads g r.left [] rest left

  -- tokens that the grammar takes are taken by the machine
  pub takes_all : (g : Grammar A) (k : Known) → IsDecided g k → (symbols : List (Symbol A)) (atoms : List ℕ) → IsSpaced g k symbols →
      {events : List (Event A)} {left : List (Symbol A)} → Leads g symbols atoms events left → AllTaken g k symbols atoms events left
  takes_all g k d symbols [] s {events} {left} l =
      record { r = record { events = []; left = symbols }; rest = events; are = refl; same = refl; leads = l }
  takes_all g k d symbols (atom ∷ atoms) s l =
      let o = leads_only g k d l s in let t = taken g k atom symbols in
      let on = takes_all g k d t.left atoms (spaced_left g k d atom (work k atom symbols) symbols o.fits_here s) o.leads in
      let es = events_of t.actions atom in
      record {
        r = record { events = es ++ on.r.events; left = on.r.left };
        rest = on.rest;
        are = cond-true (fits g k atom symbols) (behind es (read g k t.left atoms)) None o.fits_here ∙ ap (behind es) on.are;
        same = o.are ∙ ap (λ xs. es ++ xs) on.same ∙ sym (append_assoc es on.r.events on.rest);
        leads = on.leads;
      }

  -- tokens that the machine takes are taken by the grammar
  pub all_lead : (g : Grammar A) (k : Known) → IsDecided g k → (symbols : List (Symbol A)) (atoms : List ℕ) (r : Read A) →
      read g k symbols atoms ≡ Some r → {rest : List (Event A)} {left : List (Symbol A)} → Leads g r.left [] rest left →
      Leads g symbols atoms (r.events ++ rest) left
  all_lead g k d symbols [] r e {rest} {left} l =
      let same : record { events = []; left = symbols } ≡ r = cc in
      subst (λ q. Leads g q.left [] rest left → Leads g symbols [] (q.events ++ rest) left) same (λ x. x) l
  all_lead g k d symbols (atom ∷ atoms) r e {rest} {left} l =
      by_fit (λ q h x. all_lead g k d (taken g k atom symbols).left atoms q h x) (fits g k atom symbols) refl
      (read g k (taken g k atom symbols).left atoms) refl e
    where
      es : List (Event A)
      es = events_of (taken g k atom symbols).actions atom

      by_fit : ((q : Read A) → read g k (taken g k atom symbols).left atoms ≡ Some q → Leads g q.left [] rest left → Leads g
          (taken g k atom symbols).left atoms (q.events ++ rest) left) → (b : Bool) → fits g k atom symbols ≡ b → (o : Option (Read A)) →
          read g k (taken g k atom symbols).left atoms ≡ o → (if b then behind es o else None) ≡ Some r → Leads g symbols (atom ∷ atoms)
          (r.events ++ rest) left
      by_fit on false f o h q = cc
      by_fit on true f None h q = cc
      by_fit on true f (Some p) h q =
          let same : record { events = es ++ p.events; left = p.left } ≡ r = cc in
          let lead = λ (x : Leads g p.left [] rest left). leads_on g k d atom (work k atom symbols) symbols (omega arith) f (on p h x) in
          let there : Leads g p.left [] rest left → Leads g symbols (atom ∷ atoms) ((es ++ p.events) ++ rest) left =
          λ x. subst (λ xs. Leads g symbols (atom ∷ atoms) xs left) (sym (append_assoc es p.events rest)) (lead x) in
          subst (λ t. Leads g t.left [] rest left → Leads g symbols (atom ∷ atoms) (t.events ++ rest) left) same there l

  -- Proofs of the laws

  first_is_spaced : (g : Grammar A) (k : Known) (rule : ℕ) → IsSpaced g k (Symbol.Rule rule ∷ [])
  first_is_spaced g k rule = ((λ atom f. cc), tt)

  some_read : (o : Option (Read A)) → is_some o ≡ true → (r : Read A) × (o ≡ Some r)
  some_read (Some r) e = (r, refl)
  some_read None e = cc

  pub bad_tokens_begin_nothing : BadTokensBeginNothing A
  bad_tokens_begin_nothing g k rule atoms d = (onward, back) where
    onward : is_some (read g k (Symbol.Rule rule ∷ []) atoms) ≡ true → Begins g (Symbol.Rule rule ∷ []) atoms
    onward e =
        let r = some_read (read g k (Symbol.Rule rule ∷ []) atoms) e in
        (r.0.events ++ [], r.0.left, all_lead g k d (Symbol.Rule rule ∷ []) atoms r.0 r.1 here)

    back : Begins g (Symbol.Rule rule ∷ []) atoms → is_some (read g k (Symbol.Rule rule ∷ []) atoms) ≡ true
    back b = ap is_some (takes_all g k d (Symbol.Rule rule ∷ []) atoms (first_is_spaced g k rule) b.2).are

  pub texts_are_taken : TextsAreTaken A
  texts_are_taken g k rule atoms events d = (onward, back) where
    onward : IsText g (Symbol.Rule rule ∷ []) atoms events →
        (r : Read A) × (rest : List (Event A)) × (read g k (Symbol.Rule rule ∷ []) atoms ≡ Some r)
        × (events ≡ r.events ++ rest) × IsText g r.left [] rest
    onward t =
        let a = takes_all g k d (Symbol.Rule rule ∷ []) atoms (first_is_spaced g k rule) t in
        (a.r, a.rest, a.are, a.same, a.leads)

    back : ((r : Read A) × (rest : List (Event A)) × (read g k (Symbol.Rule rule ∷ []) atoms ≡ Some r) ×
        (events ≡ r.events ++ rest) × IsText g r.left [] rest) → IsText g (Symbol.Rule rule ∷ []) atoms events
    back t = subst (λ es. IsText g (Symbol.Rule rule ∷ []) atoms es) (sym t.3) (all_lead g k d (Symbol.Rule rule ∷ []) atoms t.0 t.2 t.4)
