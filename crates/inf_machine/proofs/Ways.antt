-- The symbols that the machine puts in place of a rule lead where the rule's row does: a rule that is passed over without an
-- action can be left out.
use Rattle.std.proofs.Common.{◌≡◌, ℕ, zero, suc, ◌<◌, ◌≤◌, List, [], ◌∷◌, ◌++◌, Bool, true, false, ◌&&◌, refl, sym, ◌∙◌, ap, arith, bit_or}
use Rattle.std.proofs.Common.{if◌then◌else◌, inl, inr}
use Rattle.std.proofs.lemmas.Bool.{or_right, or_cases, or_parts, and_parts, and_from, cond-true, cond-false, false_from_ne_true, both_ways}
use Rattle.inf_machine.specs.{Decided.beginning, Decided.empty_rows, Laws.IsDecided, declared.symbols.Symbol.Symbol}
use Rattle.inf_machine.specs.Grammar.{Grammar, Row, has}
use Rattle.inf_machine.specs.Machine.{Known, fits, can_end, empty_row, chosen, work, taken, is_silent, depth, passed_row, way}
use Rattle.inf_machine.proofs.{Deciding.Decided, Deciding.decided_parts, Deciding.sound_parts, Sets.has_or, Taking.chosen_fits}
use Rattle.inf_machine.proofs.{Taking.chosen_less, Taking.taken_row}
use Rattle.inf_machine.proofs.Rows.{fits_is_begun, fits_append, begins_all, none_chooses_other, begun_whatever, some_is_empty}

module _ {A : Type 0} where
  -- the facts about a rule that can be empty, before an atom that does not begin it
  record Passed (g : Grammar A) (k : Known) (atom rule : ℕ) : Type 0 where
    is : chosen g k atom rule ≡ empty_row k (g.rows_of rule)
    ends : can_end k (empty_row k (g.rows_of rule)) ≡ true
    not_begun : has (beginning g k (empty_row k (g.rows_of rule))) atom ≡ false
    some : 0 < k.steps rule

  passed : (g : Grammar A) (k : Known) → IsDecided g k → (atom rule : ℕ) → has (k.begins rule) atom ≡ false → k.is_empty rule ≡ true →
      Passed g k atom rule
  passed g k d atom rule not_it empty =
      let rows = g.rows_of rule in let of_rule = decided_parts g k rule (d rule) in
      let none = ap (λ s. has s atom) of_rule.whole ∙ not_it in
      let counted : 1 ≤ empty_rows k rows = omega (arith, of_rule.empties, cond-true {A = ℕ} (k.is_empty rule) 1 0 empty) in
      let r = some_is_empty k rows counted in let sound = sound_parts g k rule r.row (of_rule.sound r.row r.one) in
      let unfit : fits g k atom r.row.parts ≡ false = false_from_ne_true (fits g k atom r.row.parts)
      (λ b. both_ways (has (k.begins rule) atom) not_it
      (ap (λ s. has s atom) (sym of_rule.whole) ∙ begins_all g k atom rows r.row r.one b)) in
      record {
        is = none_chooses_other g k atom (empty_row k rows) rows none;
        ends = ap (λ parts. can_end k parts) r.is ∙ r.ends;
        not_begun = ap (λ parts. has (beginning g k parts) atom) r.is ∙ sym (fits_is_begun g k atom r.row.parts) ∙ unfit;
        some = omega (arith, sound.fewer);
      }

  -- symbols that are passed over without an action can be left out
  silent_passes : (g : Grammar A) (k : Known) → IsDecided g k → (atom n : ℕ) (symbols rest : List (Symbol A)) →
      is_silent g k n symbols ≡ true → can_end k symbols ≡ true → has (beginning g k symbols) atom ≡ false → fits g k atom rest ≡ true →
      taken g k atom (symbols ++ rest) ≡ taken g k atom rest
  silent_passes g k d atom n [] rest s e h f = refl
  silent_passes g k d atom n (Symbol.Token class ∷ symbols) rest s e h f = cc
  silent_passes g k d atom n (Symbol.Act a ∷ symbols) rest s e h f = cc
  silent_passes g k d atom zero (Symbol.Rule rule ∷ symbols) rest s e h f = cc
  silent_passes g k d atom (suc n) (Symbol.Rule rule ∷ symbols) rest s e h f =
      let empty = empty_row k (g.rows_of rule) in
      let still = and_parts (is_silent g k n empty) (is_silent g k (suc n) symbols) s in
      let ends = and_parts (k.is_empty rule) (can_end k symbols) e in
      let whole : beginning g k (Symbol.Rule rule ∷ symbols) ≡ bit_or (k.begins rule) (beginning g k symbols) =
      cond-true {A = ℕ} (k.is_empty rule) (bit_or (k.begins rule) (beginning g k symbols)) (k.begins rule) ends.0 in
      let none = or_parts (has (k.begins rule) atom) (has (beginning g k symbols) atom)
      (sym (has_or (k.begins rule) (beginning g k symbols) atom) ∙ ap (λ s. has s atom) (sym whole) ∙ h) in
      let fits_behind : fits g k atom (symbols ++ rest) ≡ true =
      fits_append g k atom symbols rest ∙ or_right (fits g k atom symbols) (can_end k symbols && fits g k atom rest)
      (and_from (can_end k symbols) (fits g k atom rest) ends.1 f) in
      let fits_here : fits g k atom (Symbol.Rule rule ∷ (symbols ++ rest)) ≡ true =
      or_right (has (k.begins rule) atom) (k.is_empty rule && fits g k atom (symbols ++ rest))
      (and_from (k.is_empty rule) (fits g k atom (symbols ++ rest)) ends.0 fits_behind) in
      let p = passed g k d atom rule none.0 ends.0 in
      taken_row g k d atom rule (symbols ++ rest) fits_here ∙ ap (λ parts. taken g k atom (parts ++ (symbols ++ rest))) p.is
      ∙ silent_passes g k d atom n empty (symbols ++ rest) still.0 p.ends p.not_begun fits_behind
      ∙ silent_passes g k d atom (suc n) symbols rest still.1 ends.1 none.1 f

  -- the facts about the symbols that are put in place of a rule before an atom that fits
  pub record Way (g : Grammar A) (k : Known) (atom rule : ℕ) (symbols : List (Symbol A)) : Type 0 where
    pub fits_on : fits g k atom (way g k atom rule ++ symbols) ≡ true
    pub less : work k atom (way g k atom rule ++ symbols) < work k atom (Symbol.Rule rule ∷ symbols)
    pub same : taken g k atom (Symbol.Rule rule ∷ symbols) ≡ taken g k atom (way g k atom rule ++ symbols)

  -- the chosen row can take the place of its rule
  as_chosen : (g : Grammar A) (k : Known) → IsDecided g k → (atom rule : ℕ) (symbols : List (Symbol A)) →
      fits g k atom (Symbol.Rule rule ∷ symbols) ≡ true → way g k atom rule ≡ chosen g k atom rule → Way g k atom rule symbols
  as_chosen g k d atom rule symbols f e =
      let as_work : work k atom (way g k atom rule ++ symbols) ≡ work k atom (chosen g k atom rule ++ symbols) =
      ap (λ parts. work k atom (parts ++ symbols)) e in
      record {
        fits_on = ap (λ parts. fits g k atom (parts ++ symbols)) e ∙ chosen_fits g k d atom rule symbols f;
        less = omega (arith, as_work, chosen_less g k d atom rule symbols f);
        same = taken_row g k d atom rule symbols f ∙ ap (λ parts. taken g k atom (parts ++ symbols)) (sym e);
      }

  -- nothing can take the place of a rule that is passed over without an action
  as_nothing : (g : Grammar A) (k : Known) → IsDecided g k → (atom rule : ℕ) (symbols : List (Symbol A)) →
      fits g k atom (Symbol.Rule rule ∷ symbols) ≡ true → has (k.begins rule) atom ≡ false →
      is_silent g k depth (empty_row k (g.rows_of rule)) ≡ true → way g k atom rule ≡ [] → Way g k atom rule symbols
  as_nothing g k d atom rule symbols f not_it silent e =
      let two = elim (or_cases (has (k.begins rule) atom) (k.is_empty rule && fits g k atom symbols) f)
      as (λ x. (k.is_empty rule && fits g k atom symbols) ≡ true) [
        | inl b ↦ absurd (both_ways (has (k.begins rule) atom) not_it b)
        | inr b ↦ b
      ] in
      let both = and_parts (k.is_empty rule) (fits g k atom symbols) two in
      let p = passed g k d atom rule not_it both.0 in
      let as_work : work k atom (way g k atom rule ++ symbols) ≡ work k atom symbols = ap (λ parts. work k atom (parts ++ symbols)) e in
      let here_on : (if has (k.begins rule) atom then 0 else work k atom symbols) ≡ work k atom symbols =
      cond-false {A = ℕ} (has (k.begins rule) atom) 0 (work k atom symbols) not_it in
      record {
        fits_on = ap (λ parts. fits g k atom (parts ++ symbols)) e ∙ both.1;
        less = omega (arith, as_work, here_on, p.some);
        same = taken_row g k d atom rule symbols f ∙ ap (λ parts. taken g k atom (parts ++ symbols)) p.is
            ∙ silent_passes g k d atom depth (empty_row k (g.rows_of rule)) symbols silent p.ends p.not_begun both.1
            ∙ ap (λ parts. taken g k atom (parts ++ symbols)) (sym e);
      }

  pub way_on : (g : Grammar A) (k : Known) → IsDecided g k → (atom rule : ℕ) (symbols : List (Symbol A)) →
      fits g k atom (Symbol.Rule rule ∷ symbols) ≡ true → Way g k atom rule symbols
  way_on g k d atom rule symbols f = by_begun (has (k.begins rule) atom) refl where
    rows : List (Row A)
    rows = g.rows_of rule

    of_rule : Decided g k rule
    of_rule = decided_parts g k rule (d rule)

    by_silent : has (k.begins rule) atom ≡ false → way g k atom rule ≡ passed_row g k rows → (b : Bool) →
        is_silent g k depth (empty_row k rows) ≡ b → Way g k atom rule symbols
    by_silent not_it e true s =
        as_nothing g k d atom rule symbols f not_it s (e ∙ cond-true (is_silent g k depth (empty_row k rows)) [] (empty_row k rows) s)
    by_silent not_it e false s = as_chosen g k d atom rule symbols f
        (e ∙ cond-false (is_silent g k depth (empty_row k rows)) [] (empty_row k rows) s ∙ sym
        (none_chooses_other g k atom (empty_row k rows) rows (ap (λ s. has s atom) of_rule.whole ∙ not_it)))

    by_begun : (b : Bool) → has (k.begins rule) atom ≡ b → Way g k atom rule symbols
    by_begun true e = as_chosen g k d atom rule symbols f (begun_whatever g k atom (passed_row g k rows) (empty_row k rows) rows
        (ap (λ s. has s atom) of_rule.whole ∙ e))
    by_begun false e = by_silent e (none_chooses_other g k atom (passed_row g k rows) rows (ap (λ s. has s atom) of_rule.whole ∙ e))
        (is_silent g k depth (empty_row k rows)) refl

  -- before an atom that does not begin the rule its way is the row of the rule passed over
  pub way_past : (g : Grammar A) (k : Known) → IsDecided g k → (atom rule : ℕ) → has (k.begins rule) atom ≡ false →
      passed_row g k (g.rows_of rule) ≡ way g k atom rule
  way_past g k d atom rule e = sym (none_chooses_other g k atom (passed_row g k (g.rows_of rule)) (g.rows_of rule)
      (ap (λ s. has s atom) (decided_parts g k rule (d rule)).whole ∙ e))
