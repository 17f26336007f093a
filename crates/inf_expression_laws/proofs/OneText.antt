-- A text of the grammar of the language has one list of events.
use Rattle.std.proofs.{lemmas.Bool.and_from, lemmas.Bool.and_parts, lemmas.Option.same_Some}
use Rattle.std.proofs.Common.{◌≡◌, ℕ, ◌≤◌, List, [], ◌∷◌, ◌++◌, Bool, true, false, ◌&&◌, refl, sym, ◌∙◌, ap, subst, arith, if◌then◌else◌}
use Rattle.inf_machine.specs.{Decided.empty_rows, Machine.Read, Machine.can_end, declared.symbols.Symbol.Symbol}
use Rattle.inf_machine.specs.Grammar.{Event, IsText, Leads, Did, here, action, row}
use Rattle.inf_machine.proofs.{Deciding.decided_parts, Rows.empty_counts, Rows.empty_is_chosen, TokenLaws.texts_are_taken}
use Rattle.inf_syntax.specs.declared.actions.Action.{Action}
use Rattle.inf_grammar.specs.{Evaluated.language_is_decided, Language.grammar, Language.known}

can_end_append : (xs ys : List (Symbol Action)) → can_end known (xs ++ ys) ≡ (can_end known xs && can_end known ys)
can_end_append [] ys = refl
can_end_append (Symbol.Token class ∷ xs) ys = refl
can_end_append (Symbol.Act a ∷ xs) ys = can_end_append xs ys
can_end_append (Symbol.Rule rule ∷ xs) ys =
    ap (λ b. known.is_empty rule && b) (can_end_append xs ys) ∙ regroup (known.is_empty rule) (can_end known xs) (can_end known ys)
  where
    regroup : (a b c : Bool) → (a && (b && c)) ≡ ((a && b) && c)
    regroup true b c = refl
    regroup false b c = refl

at_most_one : (rule : ℕ) → empty_rows known (grammar.rows_of rule) ≤ 1
at_most_one rule = by_empty (known.is_empty rule) (decided_parts grammar known rule (language_is_decided rule)).empties
  where
    by_empty : (b : Bool) → empty_rows known (grammar.rows_of rule) ≡ (if b then 1 else 0) → empty_rows known (grammar.rows_of rule) ≤ 1
    by_empty true e = omega (arith, e)
    by_empty false e = omega (arith, e)

-- symbols that are read without a token can be empty
ended : {symbols : List (Symbol Action)} {events : List (Event Action)} → Leads grammar symbols [] events [] → can_end known symbols ≡ true
ended here = refl
ended (action l) = ended l
ended (row {rule} {r} {symbols} m free l) =
    let both = and_parts (can_end known r.parts) (can_end known symbols) (sym (can_end_append r.parts symbols) ∙ ended l) in
    and_from (known.is_empty rule) (can_end known symbols)
    (by_empty (known.is_empty rule) (decided_parts grammar known rule (language_is_decided rule)).empties
    (empty_counts known (grammar.rows_of rule) r m both.0)) both.1
  where
    by_empty : (b : Bool) → empty_rows known (grammar.rows_of rule) ≡ (if b then 1 else 0) → 1 ≤ empty_rows known (grammar.rows_of rule) →
        b ≡ true
    by_empty true e l = refl
    by_empty false e l = absurd (omega (arith, e, l))

-- symbols that are read without a token have one list of events: those of the rows that can be empty
same_empty : {symbols : List (Symbol Action)} {events others : List (Event Action)} → Leads grammar symbols [] events [] →
    Leads grammar symbols [] others [] → events ≡ others
same_empty here here = refl
same_empty (action {a = a} l) (action k) = ap (λ es. Did a ∷ es) (same_empty l k)
same_empty (row {rule = rule} {r = r} {symbols = symbols} m free l) (row {r = s} {events = others} n clear k) =
    let first = and_parts (can_end known r.parts) (can_end known symbols) (sym (can_end_append r.parts symbols) ∙ ended l) in
    let second = and_parts (can_end known s.parts) (can_end known symbols) (sym (can_end_append s.parts symbols) ∙ ended k) in
    let same : s.parts ≡ r.parts = sym (empty_is_chosen known (grammar.rows_of rule) s n second.0 (at_most_one rule))
    ∙ empty_is_chosen known (grammar.rows_of rule) r m first.0 (at_most_one rule) in
    same_empty l (subst (λ parts. Leads grammar (parts ++ symbols) [] others []) same k)

pub same_events : (rule : ℕ) (atoms : List ℕ) (events others : List (Event Action)) → IsText grammar (Symbol.Rule rule ∷ []) atoms events →
    IsText grammar (Symbol.Rule rule ∷ []) atoms others → events ≡ others
same_events rule atoms events others t u =
    let one = (texts_are_taken grammar known rule atoms events language_is_decided).0 t in
    let two = (texts_are_taken grammar known rule atoms others language_is_decided).0 u in
    let reads : two.0 ≡ one.0 = same_Some two.0 one.0 (sym two.2 ∙ one.2) in
    one.3 ∙ ap (λ es. one.0.events ++ es) (same_empty one.4 (subst (λ (r : Read Action). IsText grammar r.left [] two.1) reads two.4))
    ∙ ap (λ (r : Read Action). r.events ++ two.1) (sym reads) ∙ sym two.3
