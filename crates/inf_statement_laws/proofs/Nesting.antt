-- Each text of a statement is a nested statement.
use Rattle.std.proofs.Common.{◌≡◌, ℕ, zero, suc, List, [], ◌∷◌, ◌++◌, Bool, true, false, ◌&&◌, ◌||◌, ◌==◌, Some, refl, sym, ◌∙◌, ap, subst}
use Rattle.std.proofs.Common.{append-nil, inl, inr}
use Rattle.std.proofs.lemmas.Bool.{and_from, and_parts, eqb-true, or_cases}
use Rattle.inf_machine.specs.{Grammar.IsOneOf, Grammar.Row, declared.symbols.Symbol.Symbol}
use Rattle.inf_syntax.specs.declared.actions.Action.{Action}
use Rattle.inf_syntax.specs.declared.parts.names.TheConstants as Part
use Rattle.inf_grammar.specs.Language.{grammar}
use Rattle.inf_statement_laws.specs.Happenings.{Acts, Happening, IsRead, Moment, Quiet, Takes, happen_quietly, happens_quietly, is_quiet}
use Rattle.inf_statement_laws.specs.Nested.{Case, Do, For, If, IfElse, Nested, NoStep, Objectloop, Plain, Step, StepEnds, Switch, Then}
use Rattle.inf_statement_laws.specs.Nested.{While, happenings, rest_of, step_happenings}
use Rattle.inf_statement_laws.proofs.Rules.{all_may, all_quiet, body_may, brace, bracket, case_row, cases_may, do_parts, do_row, else_parts}
use Rattle.inf_statement_laws.proofs.Rules.{else_row, else_word, embedded_may, for_parts, for_row, for_start, for_test, holding_row}
use Rattle.inf_statement_laws.proofs.Rules.{if_parts, if_row, if_test, is_case, is_case_rule, is_holding, is_quiet_rule, is_rest}
use Rattle.inf_statement_laws.proofs.Rules.{lone_parts, loop_parts, loop_row, loop_unit, may, number, quiet_for_start, quiet_for_test}
use Rattle.inf_statement_laws.proofs.Rules.{quiet_if_test, quiet_loop_unit, quiet_row, quiet_step_front, quiet_switch_value}
use Rattle.inf_statement_laws.proofs.Rules.{quiet_until_test, quiet_while_test, statement_may, step_front, step_parts, step_row}
use Rattle.inf_statement_laws.proofs.Rules.{switch_parts, switch_row, switch_value, until_test, until_word, while_parts, while_row}
use Rattle.inf_statement_laws.proofs.Rules.{while_test}
use Rattle.inf_statement_laws.proofs.Texts.{OfRule, Parts, raised, read_deep, split}

-- Lemmas about quiet texts

quietly_joined : (xs ys : List Happening) → happen_quietly xs ≡ true → happen_quietly ys ≡ true → happen_quietly (xs ++ ys) ≡ true
quietly_joined [] ys h k = k
quietly_joined (x ∷ xs) ys h k =
    let both = and_parts (happens_quietly x) (happen_quietly xs) h in
    and_from (happens_quietly x) (happen_quietly (xs ++ ys)) both.0 (quietly_joined xs ys both.1 k)

pub quiet_parts : (Of : ℕ → List Happening → Type 0)
    → ((rule : ℕ) (hs : List Happening) → Of rule hs → is_quiet_rule rule ≡ true → happen_quietly hs ≡ true)
    → (symbols : List (Symbol Action)) (hs : List Happening) → Parts Of symbols hs → all_quiet symbols ≡ true → happen_quietly hs ≡ true
quiet_parts Of below [] hs p q = ap happen_quietly p
quiet_parts Of below (Symbol.Token class ∷ symbols) hs p q = ap happen_quietly p.2 ∙ quiet_parts Of below symbols p.1 p.3 q
quiet_parts Of below (Symbol.Act a ∷ symbols) hs p q =
    let both = and_parts (is_quiet a) (all_quiet symbols) q in
    ap happen_quietly p.2 ∙ and_from (is_quiet a) (happen_quietly p.1) both.0 (quiet_parts Of below symbols p.1 p.3 both.1)
quiet_parts Of below (Symbol.Rule rule ∷ symbols) hs p q =
    let both = and_parts (is_quiet_rule rule) (all_quiet symbols) q in
    ap happen_quietly p.2 ∙ quietly_joined p.0 p.1 (below rule p.0 p.3 both.0) (quiet_parts Of below symbols p.1 p.4 both.1)

pub quiet_rule : (deep rule : ℕ) (hs : List Happening) → OfRule deep rule hs → is_quiet_rule rule ≡ true → happen_quietly hs ≡ true
quiet_rule zero rule hs o q = absurd o
quiet_rule (suc deep) rule hs o q = quiet_parts (OfRule deep) (quiet_rule deep) o.0.parts hs o.2 (quiet_row rule q o.0 o.1)

abbrev pub quiet_of : (deep : ℕ) (symbols : List (Symbol Action)) (hs : List Happening) → Parts (OfRule deep) symbols hs
    → all_quiet symbols ≡ true → Quiet
quiet_of deep symbols hs p q = record { all = hs; are = quiet_parts (OfRule deep) (quiet_rule deep) symbols hs p q }

-- Lemmas about nested statements

record Nests (b : Bool) (hs : List Happening) : Type 0 where
  nested : Nested b
  same : happenings nested ≡ hs

-- a statement that holds others, by the rule that reads its rest
pub record Compound (b : Bool) (rest : Symbol Action) (hs : List Happening) : Type 0 where
  pub nested : Nested b
  pub same : happenings nested ≡ hs
  pub is : rest_of nested ≡ Some rest

abbrev Below : ℕ → Type 0
Below deep = (b : Bool) (rule : ℕ) (hs : List Happening) → OfRule deep rule hs → may b rule ≡ true → Nests b hs

abbrev one : (h : Happening) → happens_quietly h ≡ true → Quiet
one h q = record { all = h ∷ []; are = and_from (happens_quietly h) true q refl }

case_is : (a : Action) → is_case a ≡ true → a ≡ Action.EndCase
case_is Action.EndCase e = refl
case_is _ e = cc

case_nests : (b : Bool) (a : Action) (place : Moment) → (b && is_case a) ≡ true → Nests b (Acts place a ∷ [])
case_nests true a place e = record {
  nested = Case (record { all = []; are = refl }) place;
  same = ap (λ x. Acts place x ∷ []) (sym (case_is a e));
}
case_nests false a place e = cc

act_nests : (b : Bool) (a : Action) (place : Moment) → (is_quiet a || (b && is_case a)) ≡ true → Nests b (Acts place a ∷ [])
act_nests b a place e =
    elim (or_cases (is_quiet a) (b && is_case a) e) [
      | inl q ↦ record { nested = Plain (one (Acts place a) q); same = refl }
      | inr c ↦ case_nests b a place c
    ]

then_nests : (b : Bool) (xs ys hs : List Happening) → hs ≡ xs ++ ys → Nests b xs → Nests b ys → Nests b hs
then_nests b xs ys hs e x y = record {
  nested = Then x.nested y.nested;
  same = ap (λ l. l ++ happenings y.nested) x.same ∙ (ap (λ l. xs ++ l) y.same ∙ sym e);
}

nest_parts : (Of : ℕ → List Happening → Type 0) (b : Bool)
    → ((rule : ℕ) (hs : List Happening) → Of rule hs → may b rule ≡ true → Nests b hs)
    → (symbols : List (Symbol Action)) (hs : List Happening) → Parts Of symbols hs → all_may b symbols ≡ true → Nests b hs
nest_parts Of b below [] hs p m = record { nested = Plain (record { all = []; are = refl }); same = sym p }
nest_parts Of b below (Symbol.Token class ∷ symbols) hs p m =
    then_nests b (Takes p.0.0 p.0.1 ∷ []) p.1 hs p.2 (record { nested = Plain (one (Takes p.0.0 p.0.1) refl); same = refl })
    (nest_parts Of b below symbols p.1 p.3 m)
nest_parts Of b below (Symbol.Act a ∷ symbols) hs p m =
    let both = and_parts (is_quiet a || (b && is_case a)) (all_may b symbols) m in
    then_nests b (Acts p.0 a ∷ []) p.1 hs p.2 (act_nests b a p.0 both.0) (nest_parts Of b below symbols p.1 p.3 both.1)
nest_parts Of b below (Symbol.Rule rule ∷ symbols) hs p m =
    let both = and_parts (may b rule) (all_may b symbols) m in
    then_nests b p.0 p.1 hs p.2 (below rule p.0 p.3 both.0) (nest_parts Of b below symbols p.1 p.4 both.1)

-- the body of a statement that holds others
body_of : (deep : ℕ) → Below deep → (hs : List Happening) → OfRule deep (number Part.STATEMENT) hs → Nests false hs
body_of deep below hs o = below false (number Part.STATEMENT) hs o statement_may

-- The end: only the closing is left.
record Closing (hs : List Happening) : Type 0 where
  closes : Moment
  same : hs ≡ Acts closes Action.Close ∷ []

closing : (Of : ℕ → List Happening → Type 0) (hs : List Happening) → Parts Of (Part.DO_CLOSE ∷ []) hs → Closing hs
closing Of hs p = record { closes = p.0; same = p.2 ∙ ap (λ l. Acts p.0 Action.Close ∷ l) p.3 }

-- a statement, and then the closing
record BodyRead (deep : ℕ) (hs : List Happening) : Type 0 where
  body : List Happening
  of_body : OfRule deep (number Part.STATEMENT) body
  closes : Moment
  same : hs ≡ body ++ Acts closes Action.Close ∷ []

body_read : (deep : ℕ) (hs : List Happening) → Parts (OfRule deep) (Part.STATEMENT ∷ Part.DO_CLOSE ∷ []) hs → BodyRead deep hs
body_read deep hs p =
    let c = closing (OfRule deep) p.1 p.4 in
    record { body = p.0; of_body = p.3; closes = c.closes; same = p.2 ∙ ap (λ l. p.0 ++ l) c.same }

row_parts : (deep rule : ℕ) (hs : List Happening) (parts : List (Symbol Action))
    → ((r : Row Action) → IsOneOf r (grammar.rows_of rule) → r.parts ≡ parts) → OfRule (suc deep) rule hs → Parts (OfRule deep) parts hs
row_parts deep rule hs parts has_row o = subst (λ xs. Parts (OfRule deep) xs hs) (has_row o.0 o.1) o.2

while_nests : (deep : ℕ) (b : Bool) (hs : List Happening) → Below deep → OfRule (suc deep) (number Part.WHILE_REST) hs → Compound b
    Part.WHILE_REST hs
while_nests deep b hs below o =
    let p = row_parts deep (number Part.WHILE_REST) hs while_parts while_row o in
    let s = split (OfRule deep) while_test (Part.STATEMENT ∷ Part.DO_CLOSE ∷ []) p.1 p.3 in
    let body = body_read deep s.rest s.of_rest in
    let inner = body_of deep below body.body body.of_body in
    record {
      nested = While p.0 (quiet_of deep while_test s.front s.of_front quiet_while_test) inner.nested body.closes;
      same = ap (λ l. Acts p.0 Action.OpenWhile ∷ (s.front ++ (l ++ Acts body.closes Action.Close ∷ []))) inner.same
          ∙ (ap (λ l. Acts p.0 Action.OpenWhile ∷ (s.front ++ l)) (sym body.same)
          ∙ (ap (λ l. Acts p.0 Action.OpenWhile ∷ l) (sym s.joined) ∙ sym p.2));
      is = refl;
    }

-- The end of an `if` behind its body: its `else`, or the closing alone.
data ElseRead (deep : ℕ) (hs : List Happening) : Type 0 where
  Without : (closes : Moment) → hs ≡ Acts closes Action.Close ∷ [] → ElseRead deep hs
  With : (joins : Moment) (word : Quiet) (other : List Happening) (closes : Moment) → OfRule deep (number Part.STATEMENT) other
      → hs ≡ Acts joins Action.Else ∷ (word.all ++ (other ++ Acts closes Action.Close ∷ [])) → ElseRead deep hs

else_by : (deep : ℕ) (hs : List Happening) → Parts (OfRule deep) else_parts hs → ElseRead (suc deep) hs
else_by deep hs p =
    let s = split (OfRule deep) else_word (Part.STATEMENT ∷ Part.DO_CLOSE ∷ []) p.1 p.3 in
    let body = body_read deep s.rest s.of_rest in
    With p.0 (quiet_of deep else_word s.front s.of_front refl) body.body body.closes (raised deep (number Part.STATEMENT) body.body
    body.of_body)
    (p.2 ∙ (ap (λ l. Acts p.0 Action.Else ∷ l) s.joined ∙ ap (λ l. Acts p.0 Action.Else ∷ (s.front ++ l)) body.same))

lone_by : (deep : ℕ) (hs : List Happening) → Parts (OfRule deep) lone_parts hs → ElseRead (suc deep) hs
lone_by deep hs p = let c = closing (OfRule deep) hs p in Without c.closes c.same

else_read : (deep : ℕ) (hs : List Happening) → OfRule deep (number Part.ELSE_PART) hs → ElseRead deep hs
else_read zero hs o = absurd o
else_read (suc deep) hs o =
    elim (else_row o.0 o.1) [
      | inl e ↦ else_by deep hs (subst (λ xs. Parts (OfRule deep) xs hs) e o.2)
      | inr e ↦ lone_by deep hs (subst (λ xs. Parts (OfRule deep) xs hs) e o.2)
    ]

if_by : (deep : ℕ) (b : Bool) (hs body rest : List Happening) (opens : Moment) (test : Quiet) → Below deep
    → hs ≡ Acts opens Action.OpenIf ∷ (test.all ++ (body ++ rest)) → Nests false body → ElseRead deep rest
    → Compound b Part.IF_REST hs
if_by deep b hs body rest opens test below e inner (Without closes same) = record {
  nested = If opens test inner.nested closes;
  same = ap (λ l. Acts opens Action.OpenIf ∷ (test.all ++ (l ++ Acts closes Action.Close ∷ []))) inner.same
      ∙ (ap (λ l. Acts opens Action.OpenIf ∷ (test.all ++ (body ++ l))) (sym same) ∙ sym e);
  is = refl;
}
if_by deep b hs body rest opens test below e inner (With joins word other closes of_other same) =
    let on = body_of deep below other of_other in
    record {
      nested = IfElse opens test inner.nested joins word on.nested closes;
      same = ap (λ l. Acts opens Action.OpenIf ∷
          (test.all ++ (l ++ Acts joins Action.Else ∷ (word.all ++ (happenings on.nested ++ Acts closes Action.Close ∷ [])))))
          inner.same
          ∙ (ap (λ l. Acts opens Action.OpenIf ∷
          (test.all ++ (body ++ Acts joins Action.Else ∷ (word.all ++ (l ++ Acts closes Action.Close ∷ []))))) on.same
          ∙ (ap (λ l. Acts opens Action.OpenIf ∷ (test.all ++ (body ++ l))) (sym same) ∙ sym e));
      is = refl;
    }

if_nests : (deep : ℕ) (b : Bool) (hs : List Happening) → Below deep → OfRule (suc deep) (number Part.IF_REST) hs → Compound b Part.IF_REST
    hs
if_nests deep b hs below o =
    let p = row_parts deep (number Part.IF_REST) hs if_parts if_row o in
    let s = split (OfRule deep) if_test (Part.STATEMENT ∷ Part.ELSE_PART ∷ []) p.1 p.3 in
    let q = s.of_rest in
    let r = q.4 in
    let whole : s.rest ≡ q.0 ++ r.0 = q.2 ∙ ap (λ l. q.0 ++ l) (r.2 ∙ (ap (λ l. r.0 ++ l) r.4 ∙ append-nil r.0)) in
    if_by deep b hs q.0 r.0 p.0 (quiet_of deep if_test s.front s.of_front quiet_if_test) below
    (p.2 ∙ (ap (λ l. Acts p.0 Action.OpenIf ∷ l) s.joined ∙ ap (λ l. Acts p.0 Action.OpenIf ∷ (s.front ++ l)) whole))
    (body_of deep below q.0 q.3) (else_read deep r.0 r.3)

do_nests : (deep : ℕ) (b : Bool) (hs : List Happening) → Below deep → OfRule (suc deep) (number Part.DO_REST) hs → Compound b Part.DO_REST
    hs
do_nests deep b hs below o =
    let p = row_parts deep (number Part.DO_REST) hs do_parts do_row o in
    let q = p.3 in
    let inner = body_of deep below q.0 q.3 in
    let s = split (OfRule deep) until_word (Part.DO_UNTIL ∷ (until_test ++ Part.DO_CLOSE ∷ [])) q.1 q.4 in
    let u = s.of_rest in
    let t = split (OfRule deep) until_test (Part.DO_CLOSE ∷ []) u.1 u.3 in
    let c = closing (OfRule deep) t.rest t.of_rest in
    record {
      nested = Do p.0 inner.nested (quiet_of deep until_word s.front s.of_front refl) u.0 (quiet_of deep until_test t.front t.of_front
          quiet_until_test) c.closes;
      same = ap (λ l. Acts p.0 Action.OpenDo ∷ (l ++ (s.front ++ Acts u.0 Action.Until ∷ (t.front ++ Acts c.closes Action.Close ∷ []))))
          inner.same
          ∙ (ap (λ l. Acts p.0 Action.OpenDo ∷ (q.0 ++ (s.front ++ Acts u.0 Action.Until ∷ (t.front ++ l)))) (sym c.same)
          ∙ (ap (λ l. Acts p.0 Action.OpenDo ∷ (q.0 ++ (s.front ++ Acts u.0 Action.Until ∷ l))) (sym t.joined)
          ∙ (ap (λ l. Acts p.0 Action.OpenDo ∷ (q.0 ++ (s.front ++ l))) (sym u.2)
          ∙ (ap (λ l. Acts p.0 Action.OpenDo ∷ (q.0 ++ l)) (sym s.joined) ∙ (ap (λ l. Acts p.0 Action.OpenDo ∷ l) (sym q.2) ∙ sym p.2)))));
      is = refl;
    }

-- the step of a `for`
record StepRead (hs : List Happening) : Type 0 where
  step : Step
  same : step_happenings step ≡ hs

step_by : (deep : ℕ) (hs : List Happening) → Parts (OfRule deep) step_parts hs → StepRead hs
step_by deep hs p =
    let s = split (OfRule deep) step_front (Part.DO_END_FOR_STEP ∷ []) hs p in
    let e = s.of_rest in
    record {
      step = StepEnds (quiet_of deep step_front s.front s.of_front quiet_step_front) e.0;
      same = ap (λ l. s.front ++ Acts e.0 Action.EndForStep ∷ l) (sym e.3) ∙ (ap (λ l. s.front ++ l) (sym e.2) ∙ sym s.joined);
    }

step_read : (deep : ℕ) (hs : List Happening) → OfRule deep (number Part.FOR_REST_3) hs → StepRead hs
step_read zero hs o = absurd o
step_read (suc deep) hs o =
    elim (step_row o.0 o.1) [
      | inl e ↦ step_by deep hs (subst (λ xs. Parts (OfRule deep) xs hs) e o.2)
      | inr e ↦ record { step = NoStep; same = sym (subst (λ xs. Parts (OfRule deep) xs hs) e o.2) }
    ]

for_nests : (deep : ℕ) (b : Bool) (hs : List Happening) → Below deep → OfRule (suc deep) (number Part.FOR_REST) hs → Compound b
    Part.FOR_REST hs
for_nests deep b hs below o =
    let p = row_parts deep (number Part.FOR_REST) hs for_parts for_row o in
    let s = split (OfRule deep) for_start (Part.DO_FOR_TOP ∷ (for_test ++ Part.FOR_REST_3 ∷ (bracket ++ Part.STATEMENT ∷ Part.DO_CLOSE ∷
    []))) p.1 p.3 in
    let u = s.of_rest in
    let t = split (OfRule deep) for_test (Part.FOR_REST_3 ∷ (bracket ++ Part.STATEMENT ∷ Part.DO_CLOSE ∷ [])) u.1 u.3 in
    let q = t.of_rest in
    let step = step_read deep q.0 q.3 in
    let k = split (OfRule deep) bracket (Part.STATEMENT ∷ Part.DO_CLOSE ∷ []) q.1 q.4 in
    let body = body_read deep k.rest k.of_rest in
    let inner = body_of deep below body.body body.of_body in
    let opened = λ (l : List Happening). Acts p.0 Action.OpenFor ∷ l in
    let started = λ (l : List Happening). opened (s.front ++ l) in
    let topped = λ (l : List Happening). started (Acts u.0 Action.ForTop ∷ l) in
    let tested = λ (l : List Happening). topped (t.front ++ l) in
    let stepped = λ (l : List Happening). tested (q.0 ++ l) in
    let bracketed = λ (l : List Happening). stepped (k.front ++ l) in
    record {
      nested = For p.0 (quiet_of deep for_start s.front s.of_front quiet_for_start) u.0 (quiet_of deep for_test t.front t.of_front
          quiet_for_test) step.step (quiet_of deep bracket k.front k.of_front refl) inner.nested body.closes;
      same = ap (λ l. tested (l ++ (k.front ++ (happenings inner.nested ++ Acts body.closes Action.Close ∷ [])))) step.same
          ∙ (ap (λ l. bracketed (l ++ Acts body.closes Action.Close ∷ [])) inner.same
          ∙ (ap bracketed (sym body.same)
          ∙ (ap stepped (sym k.joined) ∙ (ap tested (sym q.2)
          ∙ (ap topped (sym t.joined) ∙ (ap started (sym u.2) ∙ (ap opened (sym s.joined) ∙ sym p.2)))))));
      is = refl;
    }

loop_nests : (deep : ℕ) (b : Bool) (hs : List Happening) → Below deep → OfRule (suc deep) (number Part.OBJECTLOOP_REST) hs
    → Compound b Part.OBJECTLOOP_REST hs
loop_nests deep b hs below o =
    let p = row_parts deep (number Part.OBJECTLOOP_REST) hs loop_parts loop_row o in
    let s = split (OfRule deep) loop_unit (Part.DO_END_OBJECTLOOP ∷ Part.DO_LOOP ∷ (bracket ++ Part.STATEMENT ∷ Part.DO_CLOSE ∷
    [])) p.1 p.3 in
    let u = s.of_rest in
    let v = u.3 in
    let k = split (OfRule deep) bracket (Part.STATEMENT ∷ Part.DO_CLOSE ∷ []) v.1 v.3 in
    let body = body_read deep k.rest k.of_rest in
    let inner = body_of deep below body.body body.of_body in
    let opened = λ (l : List Happening). Acts p.0 Action.OpenObjectloop ∷ l in
    let units = λ (l : List Happening). opened (s.front ++ l) in
    let ended = λ (l : List Happening). units (Acts u.0 Action.EndObjectloop ∷ l) in
    let joined = λ (l : List Happening). ended (Acts v.0 Action.Loop ∷ l) in
    let bracketed = λ (l : List Happening). joined (k.front ++ l) in
    record {
      nested = Objectloop p.0 (quiet_of deep loop_unit s.front s.of_front quiet_loop_unit) u.0 v.0
          (quiet_of deep bracket k.front k.of_front refl) inner.nested body.closes;
      same = ap (λ l. bracketed (l ++ Acts body.closes Action.Close ∷ [])) inner.same ∙ (ap bracketed (sym body.same)
          ∙ (ap joined (sym k.joined) ∙ (ap ended (sym v.2) ∙ (ap units (sym u.2) ∙ (ap opened (sym s.joined) ∙ sym p.2)))));
      is = refl;
    }

switch_nests : (deep : ℕ) (b : Bool) (hs : List Happening) → Below deep → OfRule (suc deep) (number Part.SWITCH_REST) hs
    → Compound b Part.SWITCH_REST hs
switch_nests deep b hs below o =
    let p = row_parts deep (number Part.SWITCH_REST) hs switch_parts switch_row o in
    let s = split (OfRule deep) switch_value (Part.SWITCH_REST_1 ∷ (brace ++ Part.DO_CLOSE ∷ [])) p.1 p.3 in
    let q = s.of_rest in
    let inner = below true (number Part.SWITCH_REST_1) q.0 q.3 cases_may in
    let k = split (OfRule deep) brace (Part.DO_CLOSE ∷ []) q.1 q.4 in
    let c = closing (OfRule deep) k.rest k.of_rest in
    let opened = λ (l : List Happening). Acts p.0 Action.OpenSwitch ∷ l in
    let valued = λ (l : List Happening). opened (s.front ++ l) in
    record {
      nested = Switch p.0 (quiet_of deep switch_value s.front s.of_front quiet_switch_value) inner.nested
          (quiet_of deep brace k.front k.of_front refl) c.closes;
      same = ap (λ l. valued (l ++ (k.front ++ Acts c.closes Action.Close ∷ []))) inner.same
          ∙ (ap (λ l. valued (q.0 ++ (k.front ++ l))) (sym c.same)
          ∙ (ap (λ l. valued (q.0 ++ l)) (sym k.joined) ∙ (ap valued (sym q.2) ∙ (ap opened (sym s.joined) ∙ sym p.2))));
      is = refl;
    }

plainly : {b : Bool} {rest : Symbol Action} {hs : List Happening} → Compound b rest hs → Nests b hs
plainly c = record { nested = c.nested; same = c.same }

-- Lemmas about one of the six rules
data Rest : ℕ → Type 0 where
  AnIf : Rest (number Part.IF_REST)
  AWhile : Rest (number Part.WHILE_REST)
  ADo : Rest (number Part.DO_REST)
  AFor : Rest (number Part.FOR_REST)
  ALoop : Rest (number Part.OBJECTLOOP_REST)
  ASwitch : Rest (number Part.SWITCH_REST)

rest_is : (rule : ℕ) → is_rest rule ≡ true → Rest rule
rest_is rule e =
    elim (or_cases (rule == number Part.IF_REST) _ e) [
      | inl f ↦ at (number Part.IF_REST) AnIf f
      | inr e ↦
          elim (or_cases (rule == number Part.WHILE_REST) _ e) [
            | inl f ↦ at (number Part.WHILE_REST) AWhile f
            | inr e ↦
                elim (or_cases (rule == number Part.DO_REST) _ e) [
                  | inl f ↦ at (number Part.DO_REST) ADo f
                  | inr e ↦
                      elim (or_cases (rule == number Part.FOR_REST) _ e) [
                        | inl f ↦ at (number Part.FOR_REST) AFor f
                        | inr e ↦
                            elim (or_cases (rule == number Part.OBJECTLOOP_REST) (rule == number Part.SWITCH_REST) e) [
                              | inl f ↦ at (number Part.OBJECTLOOP_REST) ALoop f
                              | inr f ↦ at (number Part.SWITCH_REST) ASwitch f
                            ]
                      ]
                ]
          ]
    ]
  where
    at : (n : ℕ) → Rest n → (rule == n) ≡ true → Rest rule
    at n r f = subst Rest (sym (eqb-true rule n f)) r

rest_nests : (deep : ℕ) (b : Bool) (rule : ℕ) (hs : List Happening) → Below deep → Rest rule → OfRule (suc deep) rule hs → Nests b hs
rest_nests deep b rule hs below AnIf o = plainly (if_nests deep b hs below o)
rest_nests deep b rule hs below AWhile o = plainly (while_nests deep b hs below o)
rest_nests deep b rule hs below ADo o = plainly (do_nests deep b hs below o)
rest_nests deep b rule hs below AFor o = plainly (for_nests deep b hs below o)
rest_nests deep b rule hs below ALoop o = plainly (loop_nests deep b hs below o)
rest_nests deep b rule hs below ASwitch o = plainly (switch_nests deep b hs below o)

cases_nest : (deep : ℕ) (b : Bool) (rule : ℕ) (hs : List Happening) → Below deep → OfRule (suc deep) rule hs
    → (b && is_case_rule rule) ≡ true → Nests b hs
cases_nest deep true rule hs below o e = nest_parts (OfRule deep) true (below true) o.0.parts hs o.2 (case_row rule e o.0 o.1)
cases_nest deep false rule hs below o e = cc

nest_rule : (deep : ℕ) → Below deep
nest_rule zero b rule hs o e = absurd o
nest_rule (suc deep) b rule hs o e =
    elim (or_cases (is_quiet_rule rule) _ e) [
      | inl q ↦ record { nested = Plain (record { all = hs; are = quiet_rule (suc deep) rule hs o q }); same = refl }
      | inr e ↦
          elim (or_cases (is_holding rule) _ e) [
            | inl h ↦ nest_parts (OfRule deep) b (nest_rule deep b) o.0.parts hs o.2 (holding_row b rule h o.0 o.1)
            | inr e ↦
                elim (or_cases (is_rest rule) (b && is_case_rule rule) e) [
                  | inl r ↦ rest_nests deep b rule hs (nest_rule deep) (rest_is rule r) o
                  | inr c ↦ cases_nest deep b rule hs (nest_rule deep) o c
                ]
          ]
    ]

-- Lemmas about the texts

pub statement_is_nested : (hs : List Happening) → IsRead Part.STATEMENT hs → (s : Nested false) × (happenings s ≡ hs)
statement_is_nested hs is =
    let d = read_deep (number Part.STATEMENT) hs is in
    let n = nest_rule d.0 false (number Part.STATEMENT) hs d.1 statement_may in (n.nested, n.same)

pub body_in : (deep : ℕ) (hs : List Happening) → OfRule deep (number Part.DIRECTIVE_2) hs → (s : Nested true) × (happenings s ≡ hs)
body_in deep hs o = let n = nest_rule deep true (number Part.DIRECTIVE_2) hs o body_may in (n.nested, n.same)

pub body_is_nested : (hs : List Happening) → IsRead Part.DIRECTIVE_2 hs → (s : Nested true) × (happenings s ≡ hs)
body_is_nested hs is =
    let d = read_deep (number Part.DIRECTIVE_2) hs is in
    let n = nest_rule d.0 true (number Part.DIRECTIVE_2) hs d.1 body_may in (n.nested, n.same)

pub embedded_is_nested : (hs : List Happening) → IsRead Part.VALUE_3 hs → (s : Nested true) × (happenings s ≡ hs)
embedded_is_nested hs is =
    let d = read_deep (number Part.VALUE_3) hs is in
    let n = nest_rule d.0 true (number Part.VALUE_3) hs d.1 embedded_may in (n.nested, n.same)

-- where some rules are read deep enough to have a row
at_row : {P : Type 0} (deep rule : ℕ) (hs : List Happening) → OfRule deep rule hs → ((n : ℕ) → OfRule (suc n) rule hs → P) → P
at_row zero rule hs o f = absurd o
at_row (suc n) rule hs o f = f n o

abbrev Compounds : Symbol Action → Type 0
Compounds rest = (hs : List Happening) → IsRead rest hs → Compound false rest hs

pub if_is_nested : Compounds Part.IF_REST
if_is_nested hs is =
    let d = read_deep (number Part.IF_REST) hs is in at_row d.0 (number Part.IF_REST) hs d.1 (λ n o. if_nests n false hs (nest_rule n) o)

pub while_is_nested : Compounds Part.WHILE_REST
while_is_nested hs is =
    let d = read_deep (number Part.WHILE_REST) hs is in at_row d.0 (number Part.WHILE_REST) hs d.1 (λ n o. while_nests n false hs
    (nest_rule n) o)

pub do_is_nested : Compounds Part.DO_REST
do_is_nested hs is =
    let d = read_deep (number Part.DO_REST) hs is in at_row d.0 (number Part.DO_REST) hs d.1 (λ n o. do_nests n false hs (nest_rule n) o)

pub for_is_nested : Compounds Part.FOR_REST
for_is_nested hs is =
    let d = read_deep (number Part.FOR_REST) hs is in at_row d.0 (number Part.FOR_REST) hs d.1 (λ n o. for_nests n false hs (nest_rule n) o)

pub objectloop_is_nested : Compounds Part.OBJECTLOOP_REST
objectloop_is_nested hs is =
    let d = read_deep (number Part.OBJECTLOOP_REST) hs is in at_row d.0 (number Part.OBJECTLOOP_REST) hs d.1
    (λ n o. loop_nests n false hs (nest_rule n) o)

pub switch_is_nested : Compounds Part.SWITCH_REST
switch_is_nested hs is =
    let d = read_deep (number Part.SWITCH_REST) hs is in at_row d.0 (number Part.SWITCH_REST) hs d.1 (λ n o. switch_nests n false hs
    (nest_rule n) o)
