-- Where one token decides, the machine takes the tokens that the grammar takes, with the same events.
use Rattle.std.proofs.Common.{◌≡◌, ℕ, zero, suc, ◌<◌, ◌≤◌, List, [], ◌∷◌, ◌++◌, Bool, true, false, ◌&&◌, ◌||◌, refl, sym, ◌∙◌, ap, subst}
use Rattle.std.proofs.Common.{arith, bit_or, if◌then◌else◌, inl, inr}
use Rattle.std.proofs.lemmas.Bool.{or_left, or_right, or_cases, and_parts, and_from, cond-true, cond-false, false_from_ne_true, both_ways}
use Rattle.inf_machine.specs.{Laws.IsDecided, Laws.IsSpaced, declared.symbols.Symbol.Symbol}
use Rattle.inf_machine.specs.Grammar.{Grammar, Row, has, IsOneOf, Leads, token, action, row, Event, Did}
use Rattle.inf_machine.specs.Machine.{Known, fits, can_end, empty_row, chosen, after, stepped, work, taken, events_of}
use Rattle.inf_machine.specs.Decided.{is_within, beginning, is_followed, empty_rows}
use Rattle.inf_machine.proofs.{Deciding.Decided, Deciding.Sound, Deciding.decided_parts, Deciding.sound_parts, Deciding.unless_of_begun}
use Rattle.inf_machine.proofs.{Deciding.unless_of_both, Deciding.unless_of_other, Deciding.work_past, Deciding.work_within, Rows.begins_all}
use Rattle.inf_machine.proofs.{Rows.begun_is_chosen, Rows.empty_counts, Rows.empty_is_chosen, Rows.fits_append, Rows.fits_is_begun}
use Rattle.inf_machine.proofs.{Rows.none_chooses_other, Rows.some_is_begun, Rows.some_is_empty, Sets.has_or, Sets.has_within}

module _ {A : Type 0} where
  -- Lemmas about the row that an atom chooses

  pub record Choice (g : Grammar A) (k : Known) (atom rule : ℕ) (symbols : List (Symbol A)) : Type 0 where
    pub row : Row A
    pub one : IsOneOf row (g.rows_of rule)
    pub is : chosen g k atom rule ≡ row.parts
    pub free : has row.unless atom ≡ false
    pub fits_on : fits g k atom (row.parts ++ symbols) ≡ true
    pub less : work k atom (row.parts ++ symbols) < work k atom (Symbol.Rule rule ∷ symbols)

  pub choice : (g : Grammar A) (k : Known) → IsDecided g k → (atom rule : ℕ) (symbols : List (Symbol A)) →
      fits g k atom (Symbol.Rule rule ∷ symbols) ≡ true → Choice g k atom rule symbols
  choice g k d atom rule symbols f = by_begun (has (k.begins rule) atom) refl where
    rows : List (Row A)
    rows = g.rows_of rule

    of_rule : Decided g k rule
    of_rule = decided_parts g k rule (d rule)

    by_begun : (b : Bool) → has (k.begins rule) atom ≡ b → Choice g k atom rule symbols
    by_begun true e =
        let r = some_is_begun g k atom (empty_row k rows) rows (ap (λ s. has s atom) of_rule.whole ∙ e) in
        let s = sound_parts g k rule r.row (of_rule.sound r.row r.one) in
        let w = work_within g k atom r.row.parts symbols r.fits_it in
        let here_zero : (if has (k.begins rule) atom then 0 else work k atom symbols) ≡ 0 =
        cond-true {A = ℕ} (has (k.begins rule) atom) 0 (work k atom symbols) e in
        record {
          row = r.row;
          one = r.one;
          is = r.is;
          free = unless_of_begun g k atom rule r.row s.preferred r.fits_it;
          fits_on = fits_append g k atom r.row.parts symbols
              ∙ or_left (fits g k atom r.row.parts) (can_end k r.row.parts && fits g k atom symbols) r.fits_it;
          less = omega (arith, w, s.fewer, here_zero);
        }
    by_begun false e =
        let two = elim (or_cases (has (k.begins rule) atom) (k.is_empty rule && fits g k atom symbols) f)
        as (λ x. (k.is_empty rule && fits g k atom symbols) ≡ true) [
          | inl b ↦ absurd (both_ways (has (k.begins rule) atom) e b)
          | inr b ↦ b
        ] in
        let both = and_parts (k.is_empty rule) (fits g k atom symbols) two in
        let counted : 1 ≤ empty_rows k rows = omega (arith, of_rule.empties, cond-true {A = ℕ} (k.is_empty rule) 1 0 both.0) in
        let r = some_is_empty k rows counted in let s = sound_parts g k rule r.row (of_rule.sound r.row r.one) in
        let w = work_past k atom r.row.parts symbols r.ends in
        let here_on : (if has (k.begins rule) atom then 0 else work k atom symbols) ≡ work k atom symbols =
        cond-false {A = ℕ} (has (k.begins rule) atom) 0 (work k atom symbols) e in
        record {
          row = r.row;
          one = r.one;
          is = none_chooses_other g k atom (empty_row k rows) rows (ap (λ s. has s atom) of_rule.whole ∙ e) ∙ r.is;
          free = unless_of_other g k atom rule r.row s.preferred e;
          fits_on = fits_append g k atom r.row.parts symbols ∙ or_right (fits g k atom r.row.parts)
              (can_end k r.row.parts && fits g k atom symbols) (and_from (can_end k r.row.parts) (fits g k atom symbols) r.ends both.1);
          less = omega (arith, w, s.fewer, here_on);
        }

  -- an atom that fits a rule fits the row that it chooses
  pub chosen_fits : (g : Grammar A) (k : Known) → IsDecided g k → (atom rule : ℕ) (symbols : List (Symbol A)) →
      fits g k atom (Symbol.Rule rule ∷ symbols) ≡ true → fits g k atom (chosen g k atom rule ++ symbols) ≡ true
  chosen_fits g k d atom rule symbols f =
      let c = choice g k d atom rule symbols f in ap (λ parts. fits g k atom (parts ++ symbols)) c.is ∙ c.fits_on

  pub chosen_less : (g : Grammar A) (k : Known) → IsDecided g k → (atom rule : ℕ) (symbols : List (Symbol A)) →
      fits g k atom (Symbol.Rule rule ∷ symbols) ≡ true → work k atom (chosen g k atom rule ++ symbols) < work k atom
      (Symbol.Rule rule ∷ symbols)
  chosen_less g k d atom rule symbols f =
      let c = choice g k d atom rule symbols f in
      let same : work k atom (chosen g k atom rule ++ symbols) ≡ work k atom (c.row.parts ++ symbols) =
      ap (λ parts. work k atom (parts ++ symbols)) c.is in
      omega (arith, same, c.less)

  -- Lemmas about steps

  -- a token that fits takes at least one step
  pub some_work : (g : Grammar A) (k : Known) → IsDecided g k → (atom : ℕ) (symbols : List (Symbol A)) → fits g k atom symbols ≡ true →
      0 < work k atom symbols
  some_work g k d atom [] f = cc
  some_work g k d atom (Symbol.Token class ∷ symbols) f = omega arith
  some_work g k d atom (Symbol.Act a ∷ symbols) f = omega arith
  some_work g k d atom (Symbol.Rule rule ∷ symbols) f = omega (arith, chosen_less g k d atom rule symbols f)

  -- more steps than enough change nothing
  pub enough : (g : Grammar A) (k : Known) → IsDecided g k → (atom n m : ℕ) (symbols : List (Symbol A)) → fits g k atom symbols ≡ true →
      work k atom symbols ≤ n → work k atom symbols ≤ m → stepped g k atom n symbols ≡ stepped g k atom m symbols
  enough g k d atom zero m symbols f p q = absurd (omega (arith, some_work g k d atom symbols f))
  enough g k d atom (suc n) zero symbols f p q = absurd (omega (arith, some_work g k d atom symbols f))
  enough g k d atom (suc n) (suc m) [] f p q = refl
  enough g k d atom (suc n) (suc m) (Symbol.Token class ∷ symbols) f p q = refl
  enough g k d atom (suc n) (suc m) (Symbol.Act a ∷ symbols) f p q =
      ap (after a) (enough g k d atom n m symbols f (omega arith) (omega arith))
  enough g k d atom (suc n) (suc m) (Symbol.Rule rule ∷ symbols) f p q =
      let l = chosen_less g k d atom rule symbols f in
      enough g k d atom n m (chosen g k atom rule ++ symbols) (chosen_fits g k d atom rule symbols f) (omega (arith, l)) (omega (arith, l))

  -- a rule is replaced by the row that is chosen
  pub taken_row : (g : Grammar A) (k : Known) → IsDecided g k → (atom rule : ℕ) (symbols : List (Symbol A)) →
      fits g k atom (Symbol.Rule rule ∷ symbols) ≡ true → taken g k atom (Symbol.Rule rule ∷ symbols) ≡ taken g k atom
      (chosen g k atom rule ++ symbols)
  taken_row g k d atom rule symbols f = go (work k atom (Symbol.Rule rule ∷ symbols)) (chosen_less g k d atom rule symbols f) where
    go : (n : ℕ) → work k atom (chosen g k atom rule ++ symbols) < n →
        stepped g k atom n (Symbol.Rule rule ∷ symbols) ≡ taken g k atom (chosen g k atom rule ++ symbols)
    go zero l = absurd (omega arith)
    go (suc n) l = enough g k d atom n (work k atom (chosen g k atom rule ++ symbols)) (chosen g k atom rule ++ symbols)
        (chosen_fits g k d atom rule symbols f) (omega arith) (omega arith)

  -- The machine takes only tokens that the grammar takes

  pub leads_on : (g : Grammar A) (k : Known) → IsDecided g k → (atom n : ℕ) (symbols : List (Symbol A)) → work k atom symbols ≤ n →
      fits g k atom symbols ≡ true → {atoms : List ℕ} {events : List (Event A)} {left : List (Symbol A)} →
      Leads g (stepped g k atom n symbols).left atoms events left →
      Leads g symbols (atom ∷ atoms) (events_of (stepped g k atom n symbols).actions atom ++ events) left
  leads_on g k d atom zero symbols w f l = absurd (omega (arith, some_work g k d atom symbols f))
  leads_on g k d atom (suc n) [] w f l = cc
  leads_on g k d atom (suc n) (Symbol.Token class ∷ symbols) w f l = token f l
  leads_on g k d atom (suc n) (Symbol.Act a ∷ symbols) w f l = action (leads_on g k d atom n symbols (omega arith) f l)
  leads_on g k d atom (suc n) (Symbol.Rule rule ∷ symbols) w f {atoms} {events} {left} l =
      let c = choice g k d atom rule symbols f in let less = chosen_less g k d atom rule symbols f in
      let on = leads_on g k d atom n (chosen g k atom rule ++ symbols) (omega (arith, less)) (chosen_fits g k d atom rule symbols f) l in
      row c.one c.free (subst (λ parts. Leads g (parts ++ symbols) (atom ∷ atoms)
      (events_of (stepped g k atom n (chosen g k atom rule ++ symbols)).actions atom ++ events) left) c.is on)

  -- The machine takes each token that the grammar takes

  -- a row may be followed by the symbols that may follow its rule
  spaced_row : (g : Grammar A) (k : Known) (next : ℕ) (parts symbols : List (Symbol A)) → is_followed g k next parts ≡ true →
      ((atom : ℕ) → fits g k atom symbols ≡ true → has next atom ≡ true) → IsSpaced g k symbols → IsSpaced g k (parts ++ symbols)
  spaced_row g k next [] symbols e h s = s
  spaced_row g k next (Symbol.Token class ∷ parts) symbols e h s = spaced_row g k next parts symbols e h s
  spaced_row g k next (Symbol.Act a ∷ parts) symbols e h s = spaced_row g k next parts symbols e h s
  spaced_row g k next (Symbol.Rule rule ∷ parts) symbols e h s =
      let two = and_parts (is_within (if can_end k parts then bit_or (beginning g k parts) next else beginning g k parts) (k.follows rule))
      (is_followed g k next parts) e in (
        (λ atom f. has_within (if can_end k parts then bit_or (beginning g k parts) next else beginning g k parts) (k.follows rule) atom
            two.0 (by_end atom (can_end k parts) refl (sym (fits_append g k atom parts symbols) ∙ f))),
        spaced_row g k next parts symbols two.1 h s,
      )
    where
      by_end : (atom : ℕ) (c : Bool) → can_end k parts ≡ c → (fits g k atom parts || (c && fits g k atom symbols)) ≡ true →
          has (if c then bit_or (beginning g k parts) next else beginning g k parts) atom ≡ true
      by_end atom true e f = elim (or_cases (fits g k atom parts) (fits g k atom symbols) f) [
        | inl b ↦ has_or (beginning g k parts) next atom
            ∙ or_left (has (beginning g k parts) atom) (has next atom) (sym (fits_is_begun g k atom parts) ∙ b)
        | inr b ↦ has_or (beginning g k parts) next atom ∙ or_right (has (beginning g k parts) atom) (has next atom) (h atom b)
      ]
      by_end atom false e f = elim (or_cases (fits g k atom parts) false f) [
        | inl b ↦ sym (fits_is_begun g k atom parts) ∙ b
        | inr b ↦ cc
      ]

  pub spaced_choice : (g : Grammar A) (k : Known) → IsDecided g k → (rule : ℕ) (r : Row A) (symbols : List (Symbol A)) →
      IsOneOf r (g.rows_of rule) → IsSpaced g k (Symbol.Rule rule ∷ symbols) → IsSpaced g k (r.parts ++ symbols)
  spaced_choice g k d rule r symbols m s =
      let of_rule = decided_parts g k rule (d rule) in let sound = sound_parts g k rule r (of_rule.sound r m) in
      spaced_row g k (k.follows rule) r.parts symbols sound.followed s.0 s.1

  -- a row that the grammar takes before an atom is the row that the atom chooses
  pub record Only (g : Grammar A) (k : Known) (atom rule : ℕ) (r : Row A) (symbols : List (Symbol A)) : Type 0 where
    pub fits_here : fits g k atom (Symbol.Rule rule ∷ symbols) ≡ true
    pub is : chosen g k atom rule ≡ r.parts

  only : (g : Grammar A) (k : Known) → IsDecided g k → (atom rule : ℕ) (r : Row A) (symbols : List (Symbol A)) →
      IsOneOf r (g.rows_of rule) → has r.unless atom ≡ false → IsSpaced g k (Symbol.Rule rule ∷ symbols) →
      fits g k atom (r.parts ++ symbols) ≡ true → Only g k atom rule r symbols
  only g k d atom rule r symbols m free s f = by_begun (fits g k atom r.parts) refl where
    rows : List (Row A)
    rows = g.rows_of rule

    of_rule : Decided g k rule
    of_rule = decided_parts g k rule (d rule)

    sound : Sound g k rule r
    sound = sound_parts g k rule r (of_rule.sound r m)

    by_begun : (b : Bool) → fits g k atom r.parts ≡ b → Only g k atom rule r symbols
    by_begun true e =
        let begun : has (k.begins rule) atom ≡ true = ap (λ s. has s atom) (sym of_rule.whole) ∙ begins_all g k atom rows r m e in
        record {
          fits_here = or_left (has (k.begins rule) atom) (k.is_empty rule && fits g k atom symbols) begun;
          is = begun_is_chosen g k atom 0 (empty_row k rows) rows r m of_rule.apart e;
        }
    by_begun false e =
        let past = elim (or_cases (fits g k atom r.parts) (can_end k r.parts && fits g k atom symbols)
        (sym (fits_append g k atom r.parts symbols) ∙ f)) as (λ x. (can_end k r.parts && fits g k atom symbols) ≡ true) [
          | inl b ↦ absurd (both_ways (fits g k atom r.parts) e b)
          | inr b ↦ b
        ] in
        let both = and_parts (can_end k r.parts) (fits g k atom symbols) past in
        let not_begun : has (k.begins rule) atom ≡ false = false_from_ne_true (has (k.begins rule) atom) (λ b.
        both_ways (has r.unless atom) free (unless_of_both g k atom rule r sound.preferred both.0 b (s.0 atom both.1))) in
        let counted = empty_counts k rows r m both.0 in
        let empty : k.is_empty rule ≡ true = by_empty (k.is_empty rule) (omega (arith, counted, of_rule.empties)) in
        record {
          fits_here = or_right (has (k.begins rule) atom) (k.is_empty rule && fits g k atom symbols)
              (and_from (k.is_empty rule) (fits g k atom symbols) empty both.1);
          is = none_chooses_other g k atom (empty_row k rows) rows (ap (λ s. has s atom) of_rule.whole ∙ not_begun)
              ∙ empty_is_chosen k rows r m both.0 (omega (arith, of_rule.empties, cond-true {A = ℕ} (k.is_empty rule) 1 0 empty));
        }
      where
        by_empty : (b : Bool) → 1 ≤ (if b then 1 else 0) → b ≡ true
        by_empty true l = refl
        by_empty false l = absurd (omega arith)

  pub record Follows (g : Grammar A) (k : Known) (atom : ℕ) (symbols : List (Symbol A)) (atoms : List ℕ) (events : List (Event A))
      (left : List (Symbol A)) : Type 0 where
    pub fits_here : fits g k atom symbols ≡ true
    pub rest : List (Event A)
    pub are : events ≡ events_of (taken g k atom symbols).actions atom ++ rest
    pub leads : Leads g (taken g k atom symbols).left atoms rest left

  pub leads_only : (g : Grammar A) (k : Known) → IsDecided g k →
      {atom : ℕ} {symbols : List (Symbol A)} {atoms : List ℕ} {events : List (Event A)} {left : List (Symbol A)} →
      Leads g symbols (atom ∷ atoms) events left → IsSpaced g k symbols → Follows g k atom symbols atoms events left
  leads_only g k d (token {events} f l) s = record { fits_here = f; rest = events; are = refl; leads = l }
  leads_only g k d (action {a} l) s =
      let on = leads_only g k d l s in
      record { fits_here = on.fits_here; rest = on.rest; are = ap (λ es. Did a ∷ es) on.are; leads = on.leads }
  leads_only g k d {atom} {atoms = atoms} (row {rule} {r} {symbols} {left} {events} m free l) s =
      let on = leads_only g k d l (spaced_choice g k d rule r symbols m s) in
      let o = only g k d atom rule r symbols m free s on.fits_here in
      let same : taken g k atom (r.parts ++ symbols) ≡ taken g k atom (Symbol.Rule rule ∷ symbols) =
      sym (taken_row g k d atom rule symbols o.fits_here ∙ ap (λ parts. taken g k atom (parts ++ symbols)) o.is) in
      record {
        fits_here = o.fits_here;
        rest = on.rest;
        are = on.are ∙ ap (λ t. events_of t.actions atom ++ on.rest) same;
        leads = subst (λ t. Leads g t.left atoms on.rest left) same on.leads;
      }

  -- the symbols that are left are spaced too
  pub spaced_left : (g : Grammar A) (k : Known) → IsDecided g k → (atom n : ℕ) (symbols : List (Symbol A)) → fits g k atom symbols ≡ true →
      IsSpaced g k symbols → IsSpaced g k (stepped g k atom n symbols).left
  spaced_left g k d atom zero symbols f s = s
  spaced_left g k d atom (suc n) [] f s = s
  spaced_left g k d atom (suc n) (Symbol.Token class ∷ symbols) f s = s
  spaced_left g k d atom (suc n) (Symbol.Act a ∷ symbols) f s = spaced_left g k d atom n symbols f s
  spaced_left g k d atom (suc n) (Symbol.Rule rule ∷ symbols) f s =
      let c = choice g k d atom rule symbols f in
      spaced_left g k d atom n (chosen g k atom rule ++ symbols) (chosen_fits g k d atom rule symbols f)
      (subst (λ parts. IsSpaced g k (parts ++ symbols)) (sym c.is) (spaced_choice g k d rule c.row symbols c.one s))
