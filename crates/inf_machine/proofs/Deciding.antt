-- Where one token decides, the machine takes the tokens that the grammar takes.
use Rattle.std.proofs.Common.{◌≡◌, ℕ, ◌+◌, ◌<◌, ◌≤◌, List, [], ◌∷◌, ◌++◌, Bool, true, false, ◌&&◌, ◌||◌, ◌==◌, refl, sym, ◌∙◌, ap, arith}
use Rattle.std.proofs.Common.{bit_and, if◌then◌else◌, nat_lt}
use Rattle.std.proofs.lemmas.Bool.{eqb-true, ltb-true, and_parts, false_from_ne_true, both_ways}
use Rattle.inf_machine.specs.{Machine.Known, Machine.can_end, Machine.fits, Machine.work, declared.symbols.Symbol.Symbol}
use Rattle.inf_machine.specs.Grammar.{Grammar, Row, has, IsOneOf, first, later}
use Rattle.inf_machine.specs.Decided.{is_within, beginning, all_beginnings, are_apart, empty_rows, is_followed, steps_through, is_preferred}
use Rattle.inf_machine.specs.Decided.{is_sound, are_sound, is_decided}
use Rattle.inf_machine.proofs.{Rows.fits_is_begun, Sets.has_and, Sets.has_within, Sets.has_zero}

module _ {A : Type 0} where
  -- Lemmas about the parts of the property that is computed of a rule

  pub record Decided (g : Grammar A) (k : Known) (rule : ℕ) : Type 0 where
    pub whole : all_beginnings g k (g.rows_of rule) ≡ k.begins rule
    pub apart : are_apart g k 0 (g.rows_of rule) ≡ true
    pub empties : empty_rows k (g.rows_of rule) ≡ (if k.is_empty rule then 1 else 0)
    pub sound : (r : Row A) → IsOneOf r (g.rows_of rule) → is_sound g k rule r ≡ true

  each_sound : (g : Grammar A) (k : Known) (rule : ℕ) (rows : List (Row A)) → are_sound g k rule rows ≡ true → (r : Row A) →
      IsOneOf r rows → is_sound g k rule r ≡ true
  each_sound g k rule [] s r m = elim m [ ]
  each_sound g k rule (r ∷ rows) s r' first = (and_parts (is_sound g k rule r) (are_sound g k rule rows) s).0
  each_sound g k rule (y ∷ rows) s r (later m) =
      each_sound g k rule rows (and_parts (is_sound g k rule y) (are_sound g k rule rows) s).1 r m

  pub decided_parts : (g : Grammar A) (k : Known) (rule : ℕ) → is_decided g k rule ≡ true → Decided g k rule
  decided_parts g k rule d =
      let rows = g.rows_of rule in let a = (all_beginnings g k rows == k.begins rule) in let b = are_apart g k 0 rows in
      let c = (empty_rows k rows == (if k.is_empty rule then 1 else 0)) in
      let three = and_parts ((a && b) && c) (are_sound g k rule rows) d in let two = and_parts (a && b) c three.0 in
      let one = and_parts a b two.0 in
      record {
        whole = eqb-true (all_beginnings g k rows) (k.begins rule) one.0;
        apart = one.1;
        empties = eqb-true (empty_rows k rows) (if k.is_empty rule then 1 else 0) two.1;
        sound = each_sound g k rule rows three.1;
      }

  -- the parts of a sound row
  pub record Sound (g : Grammar A) (k : Known) (rule : ℕ) (r : Row A) : Type 0 where
    pub preferred : is_preferred g k rule r ≡ true
    pub followed : is_followed g k (k.follows rule) r.parts ≡ true
    pub fewer : steps_through k r.parts < k.steps rule

  pub sound_parts : (g : Grammar A) (k : Known) (rule : ℕ) (r : Row A) → is_sound g k rule r ≡ true → Sound g k rule r
  sound_parts g k rule r s =
      let p = is_preferred g k rule r in let f = is_followed g k (k.follows rule) r.parts in
      let two = and_parts (p && f) (nat_lt (steps_through k r.parts) (k.steps rule)) s in
      let one = and_parts p f two.0 in
      record { preferred = one.0; followed = one.1; fewer = ltb-true (steps_through k r.parts) (k.steps rule) two.1 }

  -- an atom that begins a row is none of those before which the row is not taken
  pub unless_of_begun : (g : Grammar A) (k : Known) (atom rule : ℕ) (r : Row A) → is_preferred g k rule r ≡ true →
      fits g k atom r.parts ≡ true → has r.unless atom ≡ false
  unless_of_begun g k atom rule r p f = by_end (can_end k r.parts) (r.unless == 0) refl p where
    nothing : (r.unless == 0) ≡ true → has r.unless atom ≡ false
    nothing e = ap (λ s. has s atom) (eqb-true r.unless 0 e) ∙ has_zero atom

    by_end : (c z : Bool) → (r.unless == 0) ≡ z →
        (if c then (if z then bit_and (k.begins rule) (k.follows rule) == 0 else (beginning g k r.parts == 0) && is_within r.unless
        (k.begins rule) && is_within (bit_and (k.begins rule) (k.follows rule)) r.unless) else z) ≡ true → has r.unless atom ≡ false
    by_end c true e q = nothing e
    by_end false false e q = cc
    by_end true false e q =
        let two = and_parts ((beginning g k r.parts == 0) && is_within r.unless (k.begins rule))
        (is_within (bit_and (k.begins rule) (k.follows rule)) r.unless) q in
        let one = and_parts (beginning g k r.parts == 0) (is_within r.unless (k.begins rule)) two.0 in
        absurd (both_ways (has 0 atom) (has_zero atom)
        (ap (λ s. has s atom) (sym (eqb-true (beginning g k r.parts) 0 one.0)) ∙ sym (fits_is_begun g k atom r.parts) ∙ f))

  pub unless_of_other : (g : Grammar A) (k : Known) (atom rule : ℕ) (r : Row A) → is_preferred g k rule r ≡ true →
      has (k.begins rule) atom ≡ false → has r.unless atom ≡ false
  unless_of_other g k atom rule r p f = by_end (can_end k r.parts) (r.unless == 0) refl p where
    nothing : (r.unless == 0) ≡ true → has r.unless atom ≡ false
    nothing e = ap (λ s. has s atom) (eqb-true r.unless 0 e) ∙ has_zero atom

    by_end : (c z : Bool) → (r.unless == 0) ≡ z →
        (if c then (if z then bit_and (k.begins rule) (k.follows rule) == 0 else (beginning g k r.parts == 0) && is_within r.unless
        (k.begins rule) && is_within (bit_and (k.begins rule) (k.follows rule)) r.unless) else z) ≡ true → has r.unless atom ≡ false
    by_end c true e q = nothing e
    by_end false false e q = cc
    by_end true false e q =
        let two = and_parts ((beginning g k r.parts == 0) && is_within r.unless (k.begins rule))
        (is_within (bit_and (k.begins rule) (k.follows rule)) r.unless) q in
        let one = and_parts (beginning g k r.parts == 0) (is_within r.unless (k.begins rule)) two.0 in
        false_from_ne_true (has r.unless atom) (λ u. both_ways (has (k.begins rule) atom) f
        (has_within r.unless (k.begins rule) atom one.1 u))

  -- The atoms before which a row that can be empty is not taken include each that both begins its rule and may follow it.
  pub unless_of_both : (g : Grammar A) (k : Known) (atom rule : ℕ) (r : Row A) → is_preferred g k rule r ≡ true → can_end k r.parts ≡ true →
      has (k.begins rule) atom ≡ true → has (k.follows rule) atom ≡ true → has r.unless atom ≡ true
  unless_of_both g k atom rule r p ends b f = by_end (can_end k r.parts) (r.unless == 0) ends p where
    both : has (bit_and (k.begins rule) (k.follows rule)) atom ≡ true
    both = has_and (k.begins rule) (k.follows rule) atom ∙ ap (λ x. x && has (k.follows rule) atom) b ∙ f

    by_end : (c z : Bool) → c ≡ true → (if c then (if z then bit_and (k.begins rule) (k.follows rule) == 0 else
        (beginning g k r.parts == 0) && is_within r.unless (k.begins rule) && is_within (bit_and (k.begins rule) (k.follows rule))
        r.unless) else z) ≡ true → has r.unless atom ≡ true
    by_end false z e q = cc
    by_end true true e q = absurd (both_ways (has 0 atom) (has_zero atom)
        (ap (λ s. has s atom) (sym (eqb-true (bit_and (k.begins rule) (k.follows rule)) 0 q)) ∙ both))
    by_end true false e q =
        let two = and_parts ((beginning g k r.parts == 0) && is_within r.unless (k.begins rule))
        (is_within (bit_and (k.begins rule) (k.follows rule)) r.unless) q in
        has_within (bit_and (k.begins rule) (k.follows rule)) r.unless atom two.1 both

  -- Lemmas about steps

  -- an atom that fits the front of a stack is found within the steps through the front
  pub work_within : (g : Grammar A) (k : Known) (atom : ℕ) (xs ys : List (Symbol A)) → fits g k atom xs ≡ true →
      work k atom (xs ++ ys) ≤ steps_through k xs
  work_within g k atom [] ys f = cc
  work_within g k atom (Symbol.Token class ∷ xs) ys f = omega arith
  work_within g k atom (Symbol.Act a ∷ xs) ys f = omega (arith, work_within g k atom xs ys f)
  work_within g k atom (Symbol.Rule rule ∷ xs) ys f =
      by_cases (has (k.begins rule) atom) (k.is_empty rule) (fits g k atom xs) f (λ e. work_within g k atom xs ys e)
    where
      by_cases : (h e i : Bool) → (h || (e && i)) ≡ true → (i ≡ true → work k atom (xs ++ ys) ≤ steps_through k xs) →
          k.steps rule + (if h then 0 else work k atom (xs ++ ys)) ≤ k.steps rule + (if e then steps_through k xs else 0)
      by_cases true e i q w = omega arith
      by_cases false true true q w = omega (arith, w refl)
      by_cases false true false q w = cc
      by_cases false false i q w = cc

  -- past symbols that can be empty it takes no more steps than those through them and those from there on
  pub work_past : (k : Known) (atom : ℕ) (xs ys : List (Symbol A)) → can_end k xs ≡ true →
      work k atom (xs ++ ys) ≤ steps_through k xs + work k atom ys
  work_past k atom [] ys e = omega arith
  work_past k atom (Symbol.Token class ∷ xs) ys e = cc
  work_past k atom (Symbol.Act a ∷ xs) ys e = omega (arith, work_past k atom xs ys e)
  work_past k atom (Symbol.Rule rule ∷ xs) ys e =
      let parts = and_parts (k.is_empty rule) (can_end k xs) e in
      by_cases (has (k.begins rule) atom) (k.is_empty rule) parts.0 (work_past k atom xs ys parts.1)
    where
      by_cases : (h c : Bool) → c ≡ true → work k atom (xs ++ ys) ≤ steps_through k xs + work k atom ys →
          k.steps rule + (if h then 0 else work k atom (xs ++ ys)) ≤ (k.steps rule + (if c then steps_through k xs else 0)) + work k atom ys
      by_cases h false q w = cc
      by_cases true true q w = omega arith
      by_cases false true q w = omega arith
