-- A text of some symbols and of others behind them is a text of these and one of those; and the text of an expression only
-- gathers.
use Rattle.std.proofs.Common.{◌≡◌, ℕ, List, [], ◌∷◌, ◌++◌, Bool, true, false, not, ◌&&◌, ◌||◌, refl, sym, ◌∙◌, ap, subst, append_assoc, inl}
use Rattle.std.proofs.Common.{inr, ◌==◌}
use Rattle.std.proofs.lemmas.Bool.{agree_below, agree_below_at, and_parts, cases_lt}
use Rattle.inf_machine.specs.{Pieces.all_rows, declared.symbols.Symbol.Symbol}
use Rattle.inf_machine.specs.Grammar.{Did, Event, IsNext_not, IsOneOf, IsText, Leads, Row, Took, action, here, row, token, first, later}
use Rattle.inf_syntax.specs.declared.parts.names.TheConstants as Part
use Rattle.inf_syntax.specs.declared.actions.Action.{Action}
use Rattle.inf_grammar.specs.{Evaluated.rows_past, Language.grammar}
use Rattle.inf_language.specs.Units.{AllSteps, is_step}

-- Lemmas about two parts of a text

pub record Split (xs ys : List (Symbol Action)) (atoms : List ℕ) (events : List (Event Action)) : Type 0 where
  pub front : List ℕ
  pub rest : List ℕ
  pub early : List (Event Action)
  pub late : List (Event Action)
  pub atoms_are : atoms ≡ front ++ rest
  pub events_are : events ≡ early ++ late
  pub of_front : IsText grammar xs front early
  pub of_rest : IsText grammar ys rest late

-- a text whose next token is not of a set has a front whose next token is not either
next_in_front : (set : ℕ) (front rest atoms : List ℕ) → atoms ≡ front ++ rest → IsNext_not set atoms → IsNext_not set front
next_in_front set [] rest atoms are free = tt
next_in_front set (atom ∷ front) rest atoms are free = subst (λ xs. IsNext_not set xs) are free

same_head : {x y : Symbol Action} {xs ys : List (Symbol Action)} → x ∷ xs ≡ y ∷ ys → x ≡ y
same_head same = cc

same_tail : {x y : Symbol Action} {xs ys : List (Symbol Action)} → x ∷ xs ≡ y ∷ ys → xs ≡ ys
same_tail same = cc

pub split : {symbols left : List (Symbol Action)} {atoms : List ℕ} {events : List (Event Action)} → Leads grammar symbols atoms events left
    → left ≡ [] → (xs ys : List (Symbol Action)) → symbols ≡ xs ++ ys → Split xs ys atoms events
split {symbols} {atoms = atoms} {events = events} leads none [] ys are = record {
  front = [];
  rest = atoms;
  early = [];
  late = events;
  atoms_are = refl;
  events_are = refl;
  of_front = here;
  of_rest = subst (λ s. Leads grammar s atoms events []) are (subst (λ left. Leads grammar symbols atoms events left) none leads);
}
split here none (x ∷ xs) ys are = cc
split (token {class} {atom} h leads) none (x ∷ xs) ys are =
    let on = split leads none xs ys (same_tail are) in
    record {
      front = atom ∷ on.front;
      rest = on.rest;
      early = Took atom ∷ on.early;
      late = on.late;
      atoms_are = ap (λ a. atom ∷ a) on.atoms_are;
      events_are = ap (λ a. Took atom ∷ a) on.events_are;
      of_front = subst (λ s. Leads grammar (s ∷ xs) (atom ∷ on.front) (Took atom ∷ on.early) []) (same_head are) (token h on.of_front);
      of_rest = on.of_rest;
    }
split (action {a} leads) none (x ∷ xs) ys are =
    let on = split leads none xs ys (same_tail are) in
    record {
      front = on.front;
      rest = on.rest;
      early = Did a ∷ on.early;
      late = on.late;
      atoms_are = on.atoms_are;
      events_are = ap (λ b. Did a ∷ b) on.events_are;
      of_front = subst (λ s. Leads grammar (s ∷ xs) on.front (Did a ∷ on.early) []) (same_head are) (action on.of_front);
      of_rest = on.of_rest;
    }
split {atoms = atoms} (row {rule} {r} {symbols} is_row free leads) none (x ∷ xs) ys are =
    let on = split leads none (r.parts ++ xs) ys (ap (λ s. r.parts ++ s) (same_tail are) ∙ sym (append_assoc r.parts xs ys)) in
    record {
      front = on.front;
      rest = on.rest;
      early = on.early;
      late = on.late;
      atoms_are = on.atoms_are;
      events_are = on.events_are;
      of_front = subst (λ s. Leads grammar (s ∷ xs) on.front on.early []) (same_head are)
          (row is_row (next_in_front r.unless on.front on.rest atoms on.atoms_are free) on.of_front);
      of_rest = on.of_rest;
    }

-- Lemmas about expressions

-- The rules by which an expression is read as a value. Their rows have tokens, these rules, and actions that gather a step.
abbrev expression_rules : List (Symbol Action)
expression_rules =
    Part.ASSIGN ∷ Part.ASSIGN_TAIL ∷ Part.ASSIGN_TAIL_1 ∷ Part.SUM ∷ Part.SUM_OPERATOR ∷ Part.SUM_TAIL ∷ Part.TERM ∷ Part.TERM_OPERATOR ∷
    Part.TERM_TAIL ∷ Part.BIT ∷ Part.ARRAY_OPERATOR
    ∷ Part.ARRAY_TAIL ∷ Part.ADDRESS_OPERATOR ∷ Part.ADDRESS_TAIL ∷ Part.NEG ∷ Part.NEGATED ∷ Part.INC ∷ Part.STEP_OPERATOR ∷
    Part.STEP_PREFIX ∷ Part.STEP_TAIL ∷ Part.CALL ∷ Part.CALL_1 ∷ Part.CALL_2
    ∷ Part.POST ∷ Part.POST_TAIL ∷ Part.PREFIXED ∷ Part.PRIM ∷ Part.PLAIN_PRIM ∷ Part.OTHER_PRIM ∷ Part.BRACKETED ∷ Part.AFTER_PRIM ∷
    Part.AFTER_UNARY ∷ Part.TEST ∷ Part.TEST_TAIL ∷ Part.TEST_TAIL_1
    ∷ Part.TESTED ∷ Part.TESTED_1 ∷ Part.LOGIC_OPERATOR ∷ Part.LOGIC_TAIL ∷ Part.EXPRESSION ∷ Part.EXPRESSION_TAIL ∷ []

abbrev is_among : ℕ → List (Symbol Action) → Bool
is_among rule [] = false
is_among rule (Symbol.Rule other ∷ symbols) = (rule == other) || is_among rule symbols
is_among rule (x ∷ symbols) = is_among rule symbols

unfoldable pub is_rule : ℕ → Bool
is_rule rule = is_among rule expression_rules

-- whether symbols are tokens, these rules and such actions
abbrev all_steps : List (Symbol Action) → Bool
all_steps [] = true
all_steps (Symbol.Token class ∷ symbols) = all_steps symbols
all_steps (Symbol.Act a ∷ symbols) = is_step a && all_steps symbols
all_steps (Symbol.Rule rule ∷ symbols) = is_rule rule && all_steps symbols

-- Each row of these rules has nothing else, as evaluation shows.
abbrev keeps : ℕ → Bool
keeps rule = not (is_rule rule) || all_rows all_steps (grammar.rows_of rule)

all_keep : agree_below keeps (λ rule. true) 256 ≡ true
unfolding grammar is_rule
all_keep = refl

none_keep : (is : Bool) (rows : List (Row Action)) → rows ≡ [] → (not is || all_rows all_steps rows) ≡ true
none_keep true rows none = ap (all_rows all_steps) none
none_keep false rows none = refl

keeps_at : (rule : ℕ) → keeps rule ≡ true
keeps_at rule =
    elim (cases_lt rule 256) [
      | inl below ↦ agree_below_at keeps (λ r. true) 256 rule all_keep below
      | inr past ↦ none_keep (is_rule rule) (grammar.rows_of rule) (rows_past rule past)
    ]

row_keeps : (rows : List (Row Action)) (r : Row Action) → IsOneOf r rows → all_rows all_steps rows ≡ true → all_steps r.parts ≡ true
row_keeps [] r is_row all = elim is_row [ ]
row_keeps (r ∷ rows) r' first all = (and_parts (all_steps r.parts) (all_rows all_steps rows) all).0
row_keeps (other ∷ rows) r (later is_row) all = row_keeps rows r is_row (and_parts (all_steps other.parts) (all_rows all_steps rows) all).1

rows_keep : (is : Bool) (rows : List (Row Action)) → is ≡ true → (not is || all_rows all_steps rows) ≡ true → all_rows all_steps rows ≡ true
rows_keep true rows is keep = keep
rows_keep false rows is keep = cc

steps-append : (xs ys : List (Symbol Action)) → all_steps xs ≡ true → all_steps ys ≡ true → all_steps (xs ++ ys) ≡ true
steps-append [] ys x y = y
steps-append (Symbol.Token class ∷ xs) ys x y = steps-append xs ys x y
steps-append (Symbol.Act a ∷ xs) ys x y = let both = and_parts (is_step a) (all_steps xs) x in rw both.0 (steps-append xs ys both.1 y)
steps-append (Symbol.Rule rule ∷ xs) ys x y =
    let both = and_parts (is_rule rule) (all_steps xs) x in rw both.0 (steps-append xs ys both.1 y)

-- While a text of these rules is read, tokens are taken and steps are gathered, and nothing else happens.
pub only_steps : {symbols left : List (Symbol Action)} {atoms : List ℕ} {events : List (Event Action)}
    → Leads grammar symbols atoms events left → all_steps symbols ≡ true → AllSteps events
only_steps here all = tt
only_steps (token h leads) all = only_steps leads all
only_steps (action {a} {symbols} leads) all =
    let both = and_parts (is_step a) (all_steps symbols) all in (both.0, only_steps leads both.1)
only_steps (row {rule} {r} {symbols} is_row free leads) all =
    let both = and_parts (is_rule rule) (all_steps symbols) all in
    let own = rows_keep (is_rule rule) (grammar.rows_of rule) both.0 (keeps_at rule) in
    only_steps leads (steps-append r.parts symbols (row_keeps (grammar.rows_of rule) r is_row own) both.1)

pub assign_steps : all_steps (Part.ASSIGN ∷ []) ≡ true
unfolding is_rule
assign_steps = refl
