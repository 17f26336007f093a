-- Texts of a unit by evaluation: what is open behind symbols is computed, each with what shows it, over the rows of the grammar.
use Rattle.std.proofs.Common.{◌≡◌, ℕ, zero, suc, List, [], ◌∷◌, ◌++◌, Bool, true, false, ◌||◌, ◌==◌, Option, Some, None, refl, ap, sym}
use Rattle.std.proofs.Common.{subst, is_some, inl, inr, if◌then◌else◌, ◌∙◌}
use Rattle.std.proofs.lemmas.Bool.{agree_below, agree_below_at, cases_lt, and_parts}
use Rattle.inf_machine.specs.{Grammar.IsOneOf, Grammar.Row, Grammar.first, Grammar.later, Pieces.all_rows, declared.symbols.Symbol.Symbol}
use Rattle.inf_syntax.specs.declared.actions.Action.{Action}
use Rattle.inf_syntax.specs.declared.parts.names.TheConstants as Part
use Rattle.inf_grammar.specs.{Evaluated.rows_past, Language.grammar}
use Rattle.inf_unit.specs.Steps.{step_of}
use Rattle.inf_expression_laws.specs.Precedence.{commas}
use Rattle.inf_expression_laws.proofs.Items.{Item, Sign, Whole, all_fit, all_fit_sound, all_popped, all_popped_sound, within_same}
use Rattle.inf_expression_laws.proofs.Typed.{Change, Passes, passed, passed_sound, rule_change}
use Rattle.inf_trees.specs.Ends.{end_kind}
use Rattle.inf_trees.proofs.UnitStates.{ActMove, Alone, Begins, ByRows, ByRule, Changes, Closes, Commas, Does, Done, Else, Ended, Ends}
use Rattle.inf_trees.proofs.UnitStates.{Fits, ForLine, Free, Gathers, Into, Joint, Known, LaterWord, Lead, Leading, Lists, Loses, Lost}
use Rattle.inf_trees.proofs.UnitStates.{Marking, MayBegin, Misread, Misses, Names, Narrow, Notes, Open, Others, Passed, Printed, Prints}
use Rattle.inf_trees.proofs.UnitStates.{Ranges, Rules, RulesBy, Ruling, Same, State, Tails, Takes, TokenMove, Turns, Typed, Worded, Words}
use Rattle.inf_trees.proofs.UnitStates.{all_steps, closes_with, fits_then, is_note, is_other, no_sure}

-- Lemmas about values that are computed, with the equation that shows each

abbrev found : {A : Type 0} (o : Option A) → Option ((a : A) × (o ≡ Some a))
found None = None
found (Some a) = Some (a, refl)

abbrev pub holds : (b : Bool) → Option (b ≡ true)
holds true = Some refl
holds false = None

abbrev is_none : {A : Type 0} (o : Option A) → Option (o ≡ None)
is_none None = Some refl
is_none (Some a) = None

abbrev pub bind : {A B : Type 0} → Option A → (A → Option B) → Option B
bind None next = None
bind (Some a) next = next a

abbrev pub or_else : {A : Type 0} → Option A → Option A → Option A
or_else (Some a) other = Some a
or_else None other = other

-- A state as that of an open expression, of one that is whole, or as another

abbrev opened : (s : State) → Option ((ruled : Bool) × (items : List Item) × Fits s (Open ruled items))
opened (Open ruled items) = Some (ruled, items, Same)
opened (Lead true symbols) =
    bind (found (passed symbols [])) (λ f. Some (false, f.0, Turns (passed_sound symbols [] f.0 f.0 f.1 (within_same f.0)) Same))
opened _ = None

abbrev closed : (ruled : Bool) (items : List Item) → Option (Fits (Open ruled items) Free)
closed false (Whole level ∷ []) = Some (Closes Same)
closed _ _ = None

abbrev turned : (symbols : List (Symbol Action)) (items : List Item) → Passes [] symbols items → Option (Fits (Lead true symbols) Free)
turned symbols (Whole level ∷ []) p = Some (Turns p (Closes Same))
turned symbols _ p = None

abbrev free : (s : State) → Option (Fits s Free)
free Free = Some Same
free (Open ruled items) = closed ruled items
free (Lead true symbols) =
    bind (found (passed symbols [])) (λ f. turned symbols f.0 (passed_sound symbols [] f.0 f.0 f.1 (within_same f.0)))
free _ = None

abbrev narrowed : {s : State} (ruled : Bool) (items : List Item) → Fits s (Open ruled items) → (other : Bool) (wide : List Item)
    → Option (Fits s (Open other wide))
narrowed true items f true wide = bind (holds (all_fit items wide)) (λ h. Some (fits_then f (Narrow (all_fit_sound items wide h) Same)))
narrowed false items f false wide = bind (holds (all_fit items wide)) (λ h. Some (fits_then f (Narrow (all_fit_sound items wide h) Same)))
narrowed _ items f _ wide = None

abbrev fitted : (s t : State) → Option (Fits s t)
fitted s Free = free s
fitted s (Open ruled wide) = bind (opened s) (λ o. narrowed o.0 o.1 o.2 ruled wide)
fitted s Lost = Some Loses
fitted Ended Ended = Some Same
fitted _ _ = None

-- Lemmas about tokens

record TokenStep (s : State) (class : ℕ) : Type 0 where
  at : State
  to : State
  fits : Fits s at
  moves : TokenMove at class to

-- A comma, and the word `to`, stand between the values of a case.
abbrev is_joint : Action → ℕ → Bool
is_joint Action.EndCase class = (class == 50) || (class == 118)
is_joint _ class = false

abbrev into : (x : Symbol Action) (items : List Item) → Option ((now : List Item) × Passes items (x ∷ []) now)
into x items = bind (found (passed (x ∷ []) items)) (λ f. Some (f.0, passed_sound (x ∷ []) items f.0 f.0 f.1 (within_same f.0)))

abbrev plain_token : (s : State) (class : ℕ) → Option (TokenStep s class)
plain_token Free class = Some (record { at = Free; to = Free; fits = Same; moves = Alone })
plain_token Lost class = Some (record { at = Lost; to = Lost; fits = Same; moves = Passed })
plain_token (Lead true []) class =
    Some (record { at = Lead true []; to = Lead true (Symbol.Token class ∷ []); fits = Same; moves = Leading })
plain_token (Lead false symbols) class =
    Some (record { at = Lead false symbols; to = Lead false (symbols ++ Symbol.Token class ∷ []); fits = Same; moves = Leading })
plain_token s class = bind (opened s) (λ o. bind (into (Symbol.Token class) o.1)
    (λ n. Some (record { at = Open o.0 o.1; to = Open o.0 n.0; fits = o.2; moves = Into n.1 })))

abbrev token_step : (e : Action) (s : State) (class : ℕ) → Option (TokenStep s class)
token_step e s class = or_else (bind (holds (is_joint e class)) (λ j. bind (free s) (λ f.
    Some (record { at = Free; to = Open false []; fits = f; moves = Joint }))))
    (plain_token s class)

-- Lemmas about actions

record ActStep (s : State) (a : Action) : Type 0 where
  at : State
  to : State
  fits : Fits s at
  moves : ActMove at a to

abbrev free_step : {s : State} → Fits s Free → (a : Action) → Option (ActStep s a)
free_step f Action.Outer = Some (record { at = Free; to = Lead true []; fits = f; moves = Begins })
free_step f Action.OuterMaybe = Some (record { at = Free; to = Lead false []; fits = f; moves = MayBegin })
free_step f Action.OuterWord = Some (record { at = Free; to = Worded; fits = f; moves = Words })
free_step f Action.To = Some (record { at = Free; to = Free; fits = f; moves = Ranges })
free_step f Action.Comma = Some (record { at = Free; to = Free; fits = f; moves = Commas })
free_step f a = bind (holds (is_note a)) (λ is. Some (record { at = Free; to = Free; fits = f; moves = Notes is }))

abbrev gathering : (s : State) (a : Action) → Option (ActStep s a)
gathering s a = bind (opened s) (λ o. bind (into (Symbol.Act a) o.1) (λ n. bind (holds (is_some (step_of a)))
    (λ is. Some (record { at = Open o.0 o.1; to = Open o.0 n.0; fits = o.2; moves = Gathers n.1 is }))))

abbrev open_step : (s : State) (a : Action) → Option (ActStep s a)
open_step s a = or_else (gathering s a)
    (or_else (bind (free s) (λ f. free_step f a)) (Some (record { at = Lost; to = Lost; fits = Loses; moves = Misses })))

abbrev known : (symbols : List (Symbol Action)) → Option (ActStep (Lead false symbols) Action.OuterSure)
known symbols =
    let all = symbols ++ Part.DO_OUTER_SURE ∷ [] in
    bind (found (passed all [])) (λ f. bind (holds (all_steps symbols))
    (λ is. Some (record {
      at = Lead false symbols;
      to = Open false f.0;
      fits = Same;
      moves = Known is (passed_sound all [] f.0 f.0 f.1 (within_same f.0));
    })))

abbrev maybe_step : (symbols : List (Symbol Action)) (a : Action) → Option (ActStep (Lead false symbols) a)
maybe_step symbols Action.OuterSure = known symbols
maybe_step (Symbol.Token class ∷ []) Action.PrintText =
    Some (record { at = Lead false (Symbol.Token class ∷ []); to = Free; fits = Same; moves = Printed })
maybe_step (Symbol.Token class ∷ []) Action.AsmText =
    Some (record { at = Lead false (Symbol.Token class ∷ []); to = Free; fits = Same; moves = ForLine })
maybe_step (Symbol.Token one ∷ Symbol.Act Action.Bracket ∷ Symbol.Token two ∷ Symbol.Act Action.Name ∷ Symbol.Token three ∷ [])
    Action.Rule =
    Some (record {
      at = Lead false (Symbol.Token one ∷ Symbol.Act Action.Bracket ∷ Symbol.Token two ∷ Symbol.Act Action.Name ∷ Symbol.Token three ∷ []);
      to = Ruling false;
      fits = Same;
      moves = Rules;
    })
maybe_step (Symbol.Token one ∷ Symbol.Act Action.Bracket ∷ Symbol.Act Action.OuterEnd ∷ Symbol.Token two ∷ Symbol.Act Action.Name
    ∷ Symbol.Token three
    ∷ []) Action.Rule =
    Some (record {
      at = Lead false (Symbol.Token one ∷ Symbol.Act Action.Bracket ∷ Symbol.Act Action.OuterEnd ∷ Symbol.Token two ∷ Symbol.Act Action.Name
          ∷ Symbol.Token three ∷ []);
      to = Ruling true;
      fits = Same;
      moves = RulesBy;
    })
maybe_step symbols a =
    Some (record { at = Lead false symbols; to = Lead false (symbols ++ Symbol.Act a ∷ []); fits = Same; moves = Marking })

abbrev act_step : (s : State) (a : Action) → Option (ActStep s a)
act_step Lost a = Some (record { at = Lost; to = Lost; fits = Same; moves = Misses })
act_step (Lead false symbols) a = maybe_step symbols a
act_step (Lead true (Symbol.Token class ∷ [])) Action.Default =
    Some (record { at = Lead true (Symbol.Token class ∷ []); to = Free; fits = Same; moves = Others })
act_step (Lead true (Symbol.Token class ∷ [])) Action.OuterWord =
    Some (record { at = Lead true (Symbol.Token class ∷ []); to = Worded; fits = Same; moves = LaterWord })
act_step Worded Action.Name = Some (record { at = Worded; to = Free; fits = Same; moves = Names })
act_step (Ruling ends) Action.Outer = Some (record { at = Ruling ends; to = Open true []; fits = Same; moves = Prints })
act_step (Open true (Whole level ∷ [])) Action.PrintRule =
    Some (record { at = Open true (Whole level ∷ []); to = Free; fits = Same; moves = ByRule })
act_step s a = open_step s a

-- Lemmas about rows

pub one_of : (P : List (Symbol Action) → Type 0) (x : Row Action) (rows : List (Row Action)) → P x.parts
    → ((r : Row Action) → IsOneOf r rows → P r.parts) → (r : Row Action) → IsOneOf r (x ∷ rows) → P r.parts
one_of P x rows p others _ first = p
one_of P x rows p others r (later m) = others r m

abbrev pub each_row : (P : List (Symbol Action) → Type 0) → ((parts : List (Symbol Action)) → Option (P parts)) → (rows : List (Row Action))
    → Option ((r : Row Action) → IsOneOf r rows → P r.parts)
each_row P check [] = Some (λ r m. elim m [ ])
each_row P check (x ∷ rows) =
    bind (check x.parts) (λ p. bind (each_row P check rows) (λ others. Some (λ r m. one_of P x rows p others r m)))

-- The rules whose rows come back to them: lists of items, of operands and of values; and what stands behind a comma where both a case and
-- a statement may go on. In a statement no values are listed, and in a case no items.

abbrev is_rule : ℕ → List (Symbol Action) → Bool
is_rule rule [] = false
is_rule rule (Symbol.Rule other ∷ symbols) = (rule == other) || is_rule rule symbols
is_rule rule (_ ∷ symbols) = is_rule rule symbols

abbrev lists : State → State → State → ℕ → Option (State × State)
lists items values behind_comma rule =
    if is_rule rule (Part.PRINT_REST_1 ∷ Part.GIVE_REST_1 ∷ Part.OPERANDS_1 ∷ []) then Some (items, items)
    else if is_rule rule (Part.VALUES_1 ∷ Part.TOP_VALUES_1 ∷ []) then Some (values, values)
    else if is_rule rule (Part.SWITCH_NEXT ∷ Part.TOP_NEXT ∷ []) then Some (behind_comma, Ended)
    else None

unfoldable pub declared : Action → ℕ → Option (State × State)
declared Action.EndCase rule = lists Lost Free (Open false []) rule
declared Action.EndStatement rule = lists Free Lost (Open false (Sign (grammar.atoms_of 50) ∷ Whole commas ∷ [])) rule
declared _ rule = None

-- Lemmas about the walk

abbrev ended : (e a : Action) (s : State) (symbols : List (Symbol Action)) (t : State)
    → Option (Typed declared e s (Symbol.Act a ∷ symbols) t)
ended Action.EndCase Action.EndCase s (Symbol.Token class ∷ []) Ended =
    bind (free s) (λ f. bind (holds (closes_with Action.EndCase class)) (λ is. Some (Ends f is)))
ended Action.EndStatement Action.EndStatement s (Symbol.Token class ∷ []) Ended =
    bind (free s) (λ f. bind (holds (closes_with Action.EndStatement class)) (λ is. Some (Ends f is)))
ended Action.EndDirective Action.EndDirective s (Symbol.Token class ∷ []) Ended =
    bind (free s) (λ f. bind (holds (closes_with Action.EndDirective class)) (λ is. Some (Ends f is)))
ended _ _ _ _ _ = None

-- a rule of an expression, and one of those rules, with what is walked behind them
abbrev changing : (e : Action) (s : State) (rule : ℕ) (c : Change) → rule_change rule ≡ Some c
    → (symbols : List (Symbol Action)) (t : State)
    → ((next : State) → Option (Typed declared e next symbols t)) → Option (Typed declared e s (Symbol.Rule rule ∷ symbols) t)
changing e s rule c is symbols t behind = or_else
    (bind (opened s) (λ o. bind (found (all_popped c.old o.1)) (λ rest. bind (behind (Open o.0 (c.now ++ rest.0)))
    (λ typed. Some (Changes c rest.0 o.2 is (all_popped_sound c.old o.1 rest.0 rest.1) typed)))))
    (bind (behind Lost) (λ typed. Some (Misread c is typed)))

abbrev listing : (e : Action) (s : State) (rule : ℕ) (p : State × State) → declared e rule ≡ Some p
    → (symbols : List (Symbol Action)) (t : State)
    → ((next : State) → Option (Typed declared e next symbols t)) → Option (Typed declared e s (Symbol.Rule rule ∷ symbols) t)
listing e s rule (before, Ended) is [] Ended behind = bind (fitted s before) (λ f. Some (Tails before is f))
listing e s rule (before, Free) is symbols t behind =
    bind (fitted s before) (λ f. bind (behind Free) (λ typed. Some (Lists (before, Free) is refl f typed)))
listing e s rule (before, Lost) is symbols t behind =
    bind (fitted s before) (λ f. bind (behind Lost) (λ typed. Some (Lists (before, Lost) is refl f typed)))
listing e s rule _ is symbols t behind = None

abbrev pub walk : ℕ → (e : Action) (s : State) (symbols : List (Symbol Action)) (t : State) → Option (Typed declared e s symbols t)
walk zero e s symbols t = None
walk (suc n) e s [] t = bind (fitted s t) (λ f. Some (Done f))
walk (suc n) e s (Symbol.Token class ∷ symbols) t =
    bind (token_step e s class) (λ m. bind (walk n e m.to symbols t) (λ typed. Some (Takes m.fits m.moves typed)))
walk (suc n) e s (Symbol.Act a ∷ symbols) t = or_else (ended e a s symbols t)
    (or_else (bind (holds (is_other (end_kind a) (end_kind e))) (λ is. Some (Else is)))
    (bind (is_none (end_kind a))
    (λ plain. bind (act_step s a) (λ m. bind (walk n e m.to symbols t) (λ typed. Some (Does m.fits m.moves plain typed))))))
walk (suc n) e s (Symbol.Rule rule ∷ symbols) t =
    or_else (bind (found (rule_change rule)) (λ c. changing e s rule c.0 c.1 symbols t (λ next. walk n e next symbols t)))
    (or_else (bind (found (declared e rule)) (λ p. listing e s rule p.0 p.1 symbols t (λ next. walk n e next symbols t)))
    (bind (is_none (declared e rule)) (λ none. bind
    (each_row (λ parts. Typed declared e s (parts ++ symbols) t) (λ parts. walk n e s (parts ++ symbols) t) (grammar.rows_of rule))
    (λ each. Some (ByRows each)))))

-- The rows of these rules, and those of expressions, by evaluation over the table

abbrev checked_by : (e : Action) → Option (State × State) → List (Row Action) → Bool
checked_by e None rows = true
checked_by e (Some p) rows = is_some (each_row (λ parts. Typed declared e p.0 parts p.1) (λ parts. walk 60 e p.0 parts p.1) rows)

abbrev all_checked : Action → Type 0
all_checked e = agree_below (λ rule. checked_by e (declared e rule) (grammar.rows_of rule)) (λ rule. true) 256 ≡ true

case_rows : all_checked Action.EndCase
unfolding grammar declared
case_rows = refl

statement_rows : all_checked Action.EndStatement
unfolding grammar declared
statement_rows = refl

pub from_some : {A : Type 0} (o : Option A) → is_some o ≡ true → A
from_some None is = cc
from_some (Some a) is = a

by_rule : (e : Action) (o : Option (State × State)) (p : State × State) (rows : List (Row Action)) → o ≡ Some p → checked_by e o rows ≡ true
    → (r : Row Action) → IsOneOf r rows → Typed declared e p.0 r.parts p.1
by_rule e o p rows is all = from_some (each_row (λ parts. Typed declared e p.0 parts p.1) (λ parts. walk 60 e p.0 parts p.1) rows)
    (ap (λ x. checked_by e x rows) (sym is) ∙ all)

declared_row : (e : Action) → all_checked e → (rule : ℕ) (p : State × State) → declared e rule ≡ Some p → (r : Row Action)
    → IsOneOf r (grammar.rows_of rule) → Typed declared e p.0 r.parts p.1
declared_row e all rule p is r m =
    elim (cases_lt rule 256) [
      | inl below ↦ by_rule e (declared e rule) p (grammar.rows_of rule) is
          (agree_below_at (λ n. checked_by e (declared e n) (grammar.rows_of n)) (λ n. true) 256 rule all below) r m
      | inr past ↦ elim (subst (λ l. IsOneOf r l) (rows_past rule past) m) [ ]
    ]

-- the ends of units that are read so
pub data IsEnd : Action → Type 0 where
  OfCase : IsEnd Action.EndCase
  OfStatement : IsEnd Action.EndStatement
  OfDirective : IsEnd Action.EndDirective

none_declared : {X : Type 0} (rule : ℕ) (p : State × State) → declared Action.EndDirective rule ≡ Some p → X
unfolding declared
none_declared rule p is = cc

pub listed_row : {e : Action} → IsEnd e → (rule : ℕ) (p : State × State) → declared e rule ≡ Some p → (r : Row Action)
    → IsOneOf r (grammar.rows_of rule) → Typed declared e p.0 r.parts p.1
listed_row OfCase rule p is r m = declared_row Action.EndCase case_rows rule p is r m
listed_row OfStatement rule p is r m = declared_row Action.EndStatement statement_rows rule p is r m
listed_row OfDirective rule p is r m = none_declared rule p is

-- The rows of an expression have no action that makes sure of it.

abbrev sure_of : Option Change → List (Row Action) → Bool
sure_of None rows = true
sure_of (Some c) rows = all_rows no_sure rows

none_sure : agree_below (λ rule. sure_of (rule_change rule) (grammar.rows_of rule)) (λ rule. true) 256 ≡ true
unfolding grammar
none_sure = refl

pub row_unsure : (rule : ℕ) (c : Change) → rule_change rule ≡ Some c → (r : Row Action) → IsOneOf r (grammar.rows_of rule)
    → no_sure r.parts ≡ true
row_unsure rule c is r m =
    elim (cases_lt rule 256) [
      | inl below ↦ one_unsure (grammar.rows_of rule) r m (ap (λ x. sure_of x (grammar.rows_of rule)) (sym is)
          ∙ agree_below_at (λ n. sure_of (rule_change n) (grammar.rows_of n)) (λ n. true) 256 rule none_sure below)
      | inr past ↦ elim (subst (λ l. IsOneOf r l) (rows_past rule past) m) [ ]
    ]
  where
    one_unsure : (rows : List (Row Action)) (r : Row Action) → IsOneOf r rows → all_rows no_sure rows ≡ true → no_sure r.parts ≡ true
    one_unsure [] r m all = elim m [ ]
    one_unsure (x ∷ rows) _ first all = (and_parts (no_sure x.parts) (all_rows no_sure rows) all).0
    one_unsure (x ∷ rows) r (later m) all = one_unsure rows r m (and_parts (no_sure x.parts) (all_rows no_sure rows) all).1
