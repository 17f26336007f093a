-- The rows of a rule, each with what holds of it; and rules all of whose rows pass a test, as evaluation over the table shows.
use Rattle.std.proofs.Common.{◌≡◌, ℕ, List, [], ◌∷◌, ◌++◌, Bool, true, false, not, ◌||◌, ◌==◌, refl, sym, ◌∙◌, ap, subst, inl, inr}
use Rattle.std.proofs.Common.{append_assoc, append-nil}
use Rattle.std.proofs.lemmas.Bool.{agree_below, agree_below_at, and_parts, cases_lt}
use Rattle.inf_machine.specs.{Pieces.all_rows, declared.symbols.Symbol.Symbol}
use Rattle.inf_machine.specs.Grammar.{Did, Event, IsOneOf, IsText, Leads, Row, Took, action, first, here, later, row, token}
use Rattle.inf_syntax.specs.declared.actions.Action.{Action}
use Rattle.inf_grammar.specs.{Evaluated.rows_past, Language.grammar}
use Rattle.inf_statement_laws.proofs.Rules.{number}

-- the rules among some symbols
abbrev pub is_among : ℕ → List (Symbol Action) → Bool
is_among rule [] = false
is_among rule (Symbol.Token class ∷ symbols) = is_among rule symbols
is_among rule (Symbol.Act a ∷ symbols) = is_among rule symbols
is_among rule (Symbol.Rule other ∷ symbols) = (rule == other) || is_among rule symbols

-- the premise that `P` holds of the parts of each of some rows
abbrev pub Each : (List (Symbol Action) → Type 0) → List (Row Action) → Type 0
Each P [] = Unit {0}
Each P (x ∷ rows) = P x.parts × Each P rows

pub one_of : (P : List (Symbol Action) → Type 0) (rows : List (Row Action)) (r : Row Action) → Each P rows → IsOneOf r rows → P r.parts
one_of P [] r each m = elim m [ ]
one_of P (x ∷ rows) r each first = each.0
one_of P (x ∷ rows) r each (later m) = one_of P rows r each.1 m

-- A text of a rule is one of one of its rows.
pub of_rule : {P : Type 0} (rule : ℕ) {atoms : List ℕ} {events : List (Event Action)} → IsText grammar (Symbol.Rule rule ∷ []) atoms events
    → ((r : Row Action) → IsOneOf r (grammar.rows_of rule) → IsText grammar r.parts atoms events → P) → P
of_rule rule {atoms} {events} (row {r} is_row free leads) each =
    each r is_row (subst (λ l. IsText grammar l atoms events) (append-nil r.parts) leads)

pub by_rows : (P : Type 0) (rule : ℕ) {atoms : List ℕ} {events : List (Event Action)}
    → Each (λ parts. IsText grammar parts atoms events → P) (grammar.rows_of rule) → IsText grammar (Symbol.Rule rule ∷ []) atoms events → P
by_rows P rule {atoms} {events} each text =
    of_rule rule text (λ r m. one_of (λ parts. IsText grammar parts atoms events → P) (grammar.rows_of rule) r each m)

-- the same with the rows written out
pub of_rows : (P : Type 0) (rule : ℕ) (rows : List (Row Action)) (atoms : List ℕ) (events : List (Event Action))
    → grammar.rows_of rule ≡ rows → Each (λ parts. IsText grammar parts atoms events → P) rows
    → IsText grammar (Symbol.Rule rule ∷ []) atoms events → P
of_rows P rule rows atoms events are each (row {r} is_row free leads) =
    one_of (λ parts. IsText grammar parts atoms events → P) rows r each (subst (λ l. IsOneOf r l) are is_row)
    (subst (λ l. IsText grammar l atoms events) (append-nil r.parts) leads)

abbrev pub Rows : Symbol Action → List (Row Action) → Type 0
Rows rule rows = grammar.rows_of (number rule) ≡ rows

-- Rules that pass a test

abbrev pub keeps : (ℕ → Bool) → (List (Symbol Action) → Bool) → ℕ → Bool
keeps rules test rule = not (rules rule) || all_rows test (grammar.rows_of rule)

past_keeps : (b : Bool) (test : List (Symbol Action) → Bool) (rows : List (Row Action)) → rows ≡ [] → (not b || all_rows test rows) ≡ true
past_keeps true test rows none = ap (all_rows test) none
past_keeps false test rows none = refl

pub row_passes : (test : List (Symbol Action) → Bool) (rows : List (Row Action)) (r : Row Action) → IsOneOf r rows
    → all_rows test rows ≡ true
    → test r.parts ≡ true
row_passes test [] r m all = elim m [ ]
row_passes test (x ∷ rows) r first all = (and_parts (test x.parts) (all_rows test rows) all).0
row_passes test (x ∷ rows) r (later m) all = row_passes test rows r m (and_parts (test x.parts) (all_rows test rows) all).1

rows_pass : (b : Bool) (test : List (Symbol Action) → Bool) (rows : List (Row Action)) → b ≡ true → (not b || all_rows test rows) ≡ true
    → all_rows test rows ≡ true
rows_pass true test rows is all = all
rows_pass false test rows is all = cc

pub passes : (rules : ℕ → Bool) (test : List (Symbol Action) → Bool) → agree_below (keeps rules test) (λ rule. true) 256 ≡ true
    → (rule : ℕ) → rules rule ≡ true → (r : Row Action) → IsOneOf r (grammar.rows_of rule) → test r.parts ≡ true
passes rules test all rule is r m = row_passes test (grammar.rows_of rule) r m (rows_pass (rules rule) test (grammar.rows_of rule) is kept)
  where
    kept : keeps rules test rule ≡ true
    kept =
        elim (cases_lt rule 256) [
          | inl below ↦ agree_below_at (keeps rules test) (λ r. true) 256 rule all below
          | inr past ↦ past_keeps (rules rule) test (grammar.rows_of rule) (rows_past rule past)
        ]

-- A rule among the symbols of a text, with one of its rows in its place

same_head : {x y : Symbol Action} {xs ys : List (Symbol Action)} → x ∷ xs ≡ y ∷ ys → x ≡ y
same_head same = cc

same_tail : {x y : Symbol Action} {xs ys : List (Symbol Action)} → x ∷ xs ≡ y ∷ ys → xs ≡ ys
same_tail same = cc

abbrev a_rule : ℕ → Symbol Action
a_rule n = Symbol.Rule n

same_rule : {m n : ℕ} → a_rule m ≡ a_rule n → m ≡ n
same_rule same = cc

-- One of the rows of a rule stands in its place, between other symbols.
pub record Opened (xs : List (Symbol Action)) (rule : ℕ) (ys : List (Symbol Action)) (atoms : List ℕ)
    (events : List (Event Action)) : Type 0 where
  pub way : Row Action
  pub is_row : IsOneOf way (grammar.rows_of rule)
  pub text : IsText grammar (xs ++ (way.parts ++ ys)) atoms events

pub opened : {symbols left : List (Symbol Action)} {atoms : List ℕ} {events : List (Event Action)}
    → Leads grammar symbols atoms events left → left ≡ [] → (xs : List (Symbol Action)) (rule : ℕ) (ys : List (Symbol Action))
    → symbols ≡ xs ++ Symbol.Rule rule ∷ ys → Opened xs rule ys atoms events
opened here none [] rule ys are = cc
opened here none (x ∷ xs) rule ys are = cc
opened (token h leads) none [] rule ys are = cc
opened (token {class} {atom} {atoms = more} {events = late} h leads) none (x ∷ xs) rule ys are =
    let on = opened leads none xs rule ys (same_tail are) in
    record {
      way = on.way;
      is_row = on.is_row;
      text = subst (λ y. IsText grammar (y ∷ (xs ++ (on.way.parts ++ ys))) (atom ∷ more) (Took atom ∷ late)) (same_head are)
          (token h on.text);
    }
opened (action leads) none [] rule ys are = cc
opened (action {a} {atoms = more} {events = late} leads) none (x ∷ xs) rule ys are =
    let on = opened leads none xs rule ys (same_tail are) in
    record {
      way = on.way;
      is_row = on.is_row;
      text = subst (λ y. IsText grammar (y ∷ (xs ++ (on.way.parts ++ ys))) more (Did a ∷ late)) (same_head are) (action on.text);
    }
opened {left = left} {atoms} {events} (row {rule = other} {r} {symbols} is_row free leads) none [] rule ys are = record {
  way = r;
  is_row = subst (λ n. IsOneOf r (grammar.rows_of n)) (same_rule (same_head are)) is_row;
  text = subst (λ l. IsText grammar (r.parts ++ l) atoms events) (same_tail are)
      (subst (λ l. Leads grammar (r.parts ++ symbols) atoms events l) none leads);
}
opened {atoms = atoms} {events = events} (row {rule = other} {r} {symbols} is_row free leads) none (x ∷ xs) rule ys are =
    let on = opened leads none (r.parts ++ xs) rule ys (ap (λ l. r.parts ++ l) (same_tail are) ∙ sym
    (append_assoc r.parts xs (Symbol.Rule rule ∷ ys))) in
    record {
      way = on.way;
      is_row = on.is_row;
      text = subst (λ y. IsText grammar (y ∷ (xs ++ (on.way.parts ++ ys))) atoms events) (same_head are)
          (row is_row free (subst (λ l. IsText grammar l atoms events) (append_assoc r.parts xs (on.way.parts ++ ys)) on.text));
    }
