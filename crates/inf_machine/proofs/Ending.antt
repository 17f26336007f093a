-- The places where reading may end.
use Rattle.std.proofs.Common.{◌≡◌, ℕ, zero, suc, ◌+◌, ◌≤◌, List, [], ◌∷◌, ◌++◌, Bool, true, false, ◌&&◌, Some, refl, sym, ◌∙◌, ap, arith}
use Rattle.std.proofs.Common.{if◌then◌else◌}
use Rattle.std.proofs.lemmas.Bool.{and_parts, and_from, cond-true}
use Rattle.inf_machine.specs.{Decided.steps_through, Laws.IsDecided, Laws.SourcesEnd, declared.symbols.Symbol.Symbol}
use Rattle.inf_machine.specs.Grammar.{Grammar, Leads, here, action, row, IsText, Event, Did}
use Rattle.inf_machine.specs.Machine.{Known, can_end, read, Read}
use Rattle.inf_machine.proofs.{Deciding.decided_parts, Deciding.sound_parts, Rows.empty_counts, Rows.some_is_empty}
use Rattle.inf_machine.proofs.{TokenLaws.texts_are_taken}

module _ {A : Type 0} where
  can_end_append : (k : Known) (xs ys : List (Symbol A)) → can_end k (xs ++ ys) ≡ (can_end k xs && can_end k ys)
  can_end_append k [] ys = refl
  can_end_append k (Symbol.Token class ∷ xs) ys = refl
  can_end_append k (Symbol.Act a ∷ xs) ys = can_end_append k xs ys
  can_end_append k (Symbol.Rule rule ∷ xs) ys =
      ap (λ b. k.is_empty rule && b) (can_end_append k xs ys) ∙ regroup (k.is_empty rule) (can_end k xs) (can_end k ys)
    where
      regroup : (a b c : Bool) → (a && (b && c)) ≡ ((a && b) && c)
      regroup true b c = refl
      regroup false b c = refl

  steps_append : (k : Known) (xs ys : List (Symbol A)) → can_end k xs ≡ true →
      steps_through k (xs ++ ys) ≡ steps_through k xs + steps_through k ys
  steps_append k [] ys e = omega arith
  steps_append k (Symbol.Token class ∷ xs) ys e = cc
  steps_append k (Symbol.Act a ∷ xs) ys e = omega (arith, steps_append k xs ys e)
  steps_append k (Symbol.Rule rule ∷ xs) ys e =
      let parts = and_parts (k.is_empty rule) (can_end k xs) e in
      by_empty (k.is_empty rule) parts.0 (steps_append k xs ys parts.1)
    where
      by_empty : (b : Bool) → b ≡ true → steps_through k (xs ++ ys) ≡ steps_through k xs + steps_through k ys → k.steps rule +
          (if b then steps_through k (xs ++ ys) else 0) ≡ (k.steps rule + (if b then steps_through k xs else 0)) + steps_through k ys
      by_empty true q w = omega arith
      by_empty false q w = cc

  -- symbols that can be empty lead to no symbols without a token
  ends : (g : Grammar A) (k : Known) → IsDecided g k → (n : ℕ) (symbols : List (Symbol A)) → steps_through k symbols ≤ n →
      can_end k symbols ≡ true → (events : List (Event A)) × Leads g symbols [] events []
  ends g k d n [] l e = ([], here)
  ends g k d n (Symbol.Token class ∷ symbols) l e = cc
  ends g k d zero (Symbol.Act a ∷ symbols) l e = absurd (omega arith)
  ends g k d (suc n) (Symbol.Act a ∷ symbols) l e =
      let on = ends g k d n symbols (omega arith) e in (Did a ∷ on.0, action on.1)
  ends g k d zero (Symbol.Rule rule ∷ symbols) l e =
      let of_rule = decided_parts g k rule (d rule) in let both = and_parts (k.is_empty rule) (can_end k symbols) e in
      let r = some_is_empty k (g.rows_of rule) (omega (arith, of_rule.empties, cond-true {A = ℕ} (k.is_empty rule) 1 0 both.0)) in
      absurd (omega (arith, (sound_parts g k rule r.row (of_rule.sound r.row r.one)).fewer))
  ends g k d (suc n) (Symbol.Rule rule ∷ symbols) l e =
      let of_rule = decided_parts g k rule (d rule) in let both = and_parts (k.is_empty rule) (can_end k symbols) e in
      let r = some_is_empty k (g.rows_of rule) (omega (arith, of_rule.empties, cond-true {A = ℕ} (k.is_empty rule) 1 0 both.0)) in
      let less = (sound_parts g k rule r.row (of_rule.sound r.row r.one)).fewer in
      let whole : (if k.is_empty rule then steps_through k symbols else 0) ≡ steps_through k symbols =
      cond-true {A = ℕ} (k.is_empty rule) (steps_through k symbols) 0 both.0 in
      let on = ends g k d n (r.row.parts ++ symbols) (omega (arith, less, whole, steps_append k r.row.parts symbols r.ends))
      (can_end_append k r.row.parts symbols ∙ and_from (can_end k r.row.parts) (can_end k symbols) r.ends both.1) in
      (on.0, row {events = on.0} r.one tt on.1)

  -- symbols that lead to no symbols without a token can be empty
  ended : (g : Grammar A) (k : Known) → IsDecided g k → {symbols : List (Symbol A)} {events : List (Event A)} →
      Leads g symbols [] events [] → can_end k symbols ≡ true
  ended g k d here = refl
  ended g k d (action l) = ended g k d l
  ended g k d (row {rule} {r} {symbols} m free l) =
      let both = and_parts (can_end k r.parts) (can_end k symbols) (sym (can_end_append k r.parts symbols) ∙ ended g k d l) in
      let of_rule = decided_parts g k rule (d rule) in
      and_from (k.is_empty rule) (can_end k symbols)
      (by_empty (k.is_empty rule) (omega (arith, of_rule.empties, empty_counts k (g.rows_of rule) r m both.0))) both.1
    where
      by_empty : (b : Bool) → 1 ≤ (if b then 1 else 0) → b ≡ true
      by_empty true l = refl
      by_empty false l = absurd (omega arith)

  pub sources_end : SourcesEnd A
  sources_end g k rule atoms d = (onward, back) where
    onward : ((events : List (Event A)) × IsText g (Symbol.Rule rule ∷ []) atoms events) →
        (r : Read A) × (read g k (Symbol.Rule rule ∷ []) atoms ≡ Some r) × (can_end k r.left ≡ true)
    onward t =
        let a = (texts_are_taken g k rule atoms t.0 d).0 t.1 in (a.0, a.2, ended g k d a.4)

    back : ((r : Read A) × (read g k (Symbol.Rule rule ∷ []) atoms ≡ Some r) × (can_end k r.left ≡ true)) →
        (events : List (Event A)) × IsText g (Symbol.Rule rule ∷ []) atoms events
    back a =
        let on = ends g k d (steps_through k a.0.left) a.0.left (omega arith) a.2 in
        (a.0.events ++ on.0, (texts_are_taken g k rule atoms (a.0.events ++ on.0) d).1 (a.0, on.0, a.1, refl, on.1))
