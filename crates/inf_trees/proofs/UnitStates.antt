-- States of a unit that is read, and the symbols of the grammar by which it goes on, whichever rows they are of.
use Rattle.std.proofs.Common.{◌≡◌, ℕ, List, [], ◌∷◌, ◌++◌, Bool, true, false, not, ◌==◌, Option, Some, None, refl, subst, append_assoc}
use Rattle.std.proofs.Common.{is_some, ◌&&◌}
use Rattle.std.proofs.lemmas.Bool.{and_parts}
use Rattle.inf_machine.specs.{Grammar.IsOneOf, Grammar.Row, declared.symbols.Symbol.Symbol}
use Rattle.inf_syntax.specs.{declared.actions.Action.Action}
use Rattle.inf_syntax.specs.declared.parts.names.TheConstants as Part
use Rattle.inf_grammar.specs.Language.{grammar}
use Rattle.inf_unit.specs.{Roles.role_of, Steps.step_in, Steps.step_of, declared.roles.Role.Role, declared.steps.GatherStep.GatherStep}
use Rattle.inf_expression_laws.specs.Precedence.{primaries}
use Rattle.inf_expression_laws.proofs.ActionSteps.{is_sure}
use Rattle.inf_expression_laws.proofs.Items.{Item, Sign, Whole, Within, within_same}
use Rattle.inf_expression_laws.proofs.Typed.{Change, Passes, act as passes_act, close, done, rule as passes_rule, rule_change}
use Rattle.inf_expression_laws.proofs.Typed.{step_changes, sure, token as passes_token}
use Rattle.inf_trees.specs.Ends.{by_end, end_in, end_kind}

-- A state says what is open: nothing; an expression, of which these items were read, behind a print rule or not; the first tokens of one,
-- where it is sure that they are or not; the word of a statement as a value; a print rule. Or this is not known any more; or the unit has
-- ended, or none can have.
pub data State : Type 0 where
  Free : State
  Open : (ruled : Bool) (items : List Item) → State
  Lead : (is_sure : Bool) (symbols : List (Symbol Action)) → State
  Worded : State
  Ruling : (ends : Bool) → State
  Lost : State
  Ended : State
  Never : State

-- Lemmas about the ends of units

-- whether an end is that of a case where a statement is read, or the other way round
abbrev pub is_other : Option Bool → Option Bool → Bool
is_other (Some true) (Some is) = not is
is_other (Some false) (Some is) = is
is_other _ _ = false

-- whether the first end among events is that of what is read, if this is a case or a statement
abbrev pub Agrees : Option Bool → Bool → Type 0
Agrees None first = Unit {0}
Agrees (Some is) first = first ≡ is

pub ends_otherwise : (o e : Option Bool) (others : Bool) → is_other o e ≡ true → Agrees e (by_end o others) → ⊥
ends_otherwise None e others other first = cc
ends_otherwise (Some true) None others other first = cc
ends_otherwise (Some true) (Some true) others other first = cc
ends_otherwise (Some true) (Some false) others other first = cc
ends_otherwise (Some false) None others other first = cc
ends_otherwise (Some false) (Some true) others other first = cc
ends_otherwise (Some false) (Some false) others other first = cc

role_plain : (r : Role) → is_some (step_in r) ≡ true → end_in r ≡ None
role_plain (Role.Gather s) is = refl
role_plain _ is = cc

pub step_plain : (a : Action) → is_some (step_of a) ≡ true → end_kind a ≡ None
step_plain a is = role_plain (role_of a) is

-- the class of the token behind an end
abbrev pub closes_with : Action → ℕ → Bool
closes_with Action.EndCase class = class == 117
closes_with _ class = class == 0

-- Lemmas about steps from what is open to what is open next

-- An expression may be read for a wider one, and is whole where its items are; it is open once its first tokens are.
pub data Fits : State → State → Type 0 where
  Same : {s : State} → Fits s s
  Loses : {s : State} → Fits s Lost
  Narrow : {ruled : Bool} {items wide : List Item} {t : State} → Within items wide → Fits (Open ruled wide) t → Fits (Open ruled items) t
  Closes : {level : ℕ} {t : State} → Fits Free t → Fits (Open false (Whole level ∷ [])) t
  Turns : {symbols : List (Symbol Action)} {items : List Item} {t : State} → Passes [] symbols items → Fits (Open false items) t
      → Fits (Lead true symbols) t

pub data TokenMove : State → ℕ → State → Type 0 where
  Alone : {class : ℕ} → TokenMove Free class Free
  Joint : {class : ℕ} → TokenMove Free class (Open false [])
  Into : {class : ℕ} {ruled : Bool} {items now : List Item} → Passes items (Symbol.Token class ∷ []) now
      → TokenMove (Open ruled items) class (Open ruled now)
  Leading : {class : ℕ} {is_sure : Bool} {symbols : List (Symbol Action)}
      → TokenMove (Lead is_sure symbols) class (Lead is_sure (symbols ++ Symbol.Token class ∷ []))
  Passed : {class : ℕ} → TokenMove Lost class Lost

-- whether an action notes something of a unit in which nothing is open
abbrev pub is_note : Action → Bool
is_note Action.OuterEnd = true
is_note Action.PrintText = true
is_note Action.PrintValue = true
is_note Action.Set = true
is_note Action.Clear = true
is_note Action.Action = true
is_note Action.Store = true
is_note Action.Branch = true
is_note Action.BranchNot = true
is_note _ = false

abbrev pub all_steps : List (Symbol Action) → Bool
all_steps [] = true
all_steps (Symbol.Act a ∷ symbols) = is_some (step_of a) && all_steps symbols
all_steps (Symbol.Token class ∷ symbols) = all_steps symbols
all_steps (Symbol.Rule rule ∷ symbols) = false

pub data ActMove : State → Action → State → Type 0 where
  Gathers : {a : Action} {ruled : Bool} {items now : List Item} → Passes items (Symbol.Act a ∷ []) now → is_some (step_of a) ≡ true
      → ActMove (Open ruled items) a (Open ruled now)
  Marking : {a : Action} {symbols : List (Symbol Action)} → ActMove (Lead false symbols) a (Lead false (symbols ++ Symbol.Act a ∷ []))
  Begins : ActMove Free Action.Outer (Lead true [])
  MayBegin : ActMove Free Action.OuterMaybe (Lead false [])
  Known : {symbols : List (Symbol Action)} {items : List Item} → all_steps symbols ≡ true →
      Passes [] (symbols ++ Part.DO_OUTER_SURE ∷ []) items
      → ActMove (Lead false symbols) Action.OuterSure (Open false items)
  Printed : {class : ℕ} → ActMove (Lead false (Symbol.Token class ∷ [])) Action.PrintText Free
  ForLine : {class : ℕ} → ActMove (Lead false (Symbol.Token class ∷ [])) Action.AsmText Free
  Others : {class : ℕ} → ActMove (Lead true (Symbol.Token class ∷ [])) Action.Default Free
  LaterWord : {class : ℕ} → ActMove (Lead true (Symbol.Token class ∷ [])) Action.OuterWord Worded
  Words : ActMove Free Action.OuterWord Worded
  Names : ActMove Worded Action.Name Free
  Notes : {a : Action} → is_note a ≡ true → ActMove Free a Free
  Ranges : ActMove Free Action.To Free
  Commas : ActMove Free Action.Comma Free
  Rules : {one two three : ℕ}
      → ActMove (Lead false (Symbol.Token one ∷ Symbol.Act Action.Bracket ∷ Symbol.Token two ∷ Symbol.Act Action.Name ∷ Symbol.Token three
      ∷ [])) Action.Rule (Ruling false)
  RulesBy : {one two three : ℕ}
      → ActMove (Lead false (Symbol.Token one ∷ Symbol.Act Action.Bracket ∷ Symbol.Act Action.OuterEnd ∷ Symbol.Token two
      ∷ Symbol.Act Action.Name ∷ Symbol.Token three ∷ [])) Action.Rule (Ruling true)
  Prints : {ends : Bool} → ActMove (Ruling ends) Action.Outer (Open true [])
  ByRule : {level : ℕ} → ActMove (Open true (Whole level ∷ [])) Action.PrintRule Free
  Misses : {a : Action} → ActMove Lost a Lost

abbrev pub goes_on : State → Bool
goes_on Ended = false
goes_on _ = true

-- Texts of a unit up to the end `e`: from what is open before some symbols to what is open behind them.
pub data Typed (declared : Action → ℕ → Option (State × State)) (e : Action) : State → List (Symbol Action) → State → Type 0 where
  Done : {s t : State} → Fits s t → Typed declared e s [] t
  Takes : {s at next t : State} {class : ℕ} {symbols : List (Symbol Action)} → Fits s at → TokenMove at class next
      → Typed declared e next symbols t → Typed declared e s (Symbol.Token class ∷ symbols) t
  Does : {s at next t : State} {a : Action} {symbols : List (Symbol Action)} → Fits s at → ActMove at a next → end_kind a ≡ None
      → Typed declared e next symbols t → Typed declared e s (Symbol.Act a ∷ symbols) t
  Ends : {s : State} {class : ℕ} → Fits s Free → closes_with e class ≡ true
      → Typed declared e s (Symbol.Act e ∷ Symbol.Token class ∷ []) Ended
  Else : {s t : State} {a : Action} {symbols : List (Symbol Action)} → is_other (end_kind a) (end_kind e) ≡ true
      → Typed declared e s (Symbol.Act a ∷ symbols) t
  Changes : {s t : State} {rule : ℕ} {symbols : List (Symbol Action)} {ruled : Bool} {items : List Item} (c : Change) (rest : List Item)
      → Fits s (Open ruled items) → rule_change rule ≡ Some c → Within items (c.old ++ rest)
      → Typed declared e (Open ruled (c.now ++ rest)) symbols t → Typed declared e s (Symbol.Rule rule ∷ symbols) t
  Misread : {s t : State} {rule : ℕ} {symbols : List (Symbol Action)} (c : Change) → rule_change rule ≡ Some c
      → Typed declared e Lost symbols t → Typed declared e s (Symbol.Rule rule ∷ symbols) t
  Lists : {s t : State} {rule : ℕ} {symbols : List (Symbol Action)} (p : State × State) → declared e rule ≡ Some p → goes_on p.1 ≡ true
      → Fits s p.0 → Typed declared e p.1 symbols t → Typed declared e s (Symbol.Rule rule ∷ symbols) t
  Tails : {s : State} {rule : ℕ} (before : State) → declared e rule ≡ Some (before, Ended) → Fits s before
      → Typed declared e s (Symbol.Rule rule ∷ []) Ended
  ByRows : {s t : State} {rule : ℕ} {symbols : List (Symbol Action)}
      → ((r : Row Action) → IsOneOf r (grammar.rows_of rule) → Typed declared e s (r.parts ++ symbols) t)
      → Typed declared e s (Symbol.Rule rule ∷ symbols) t

-- whether no action among symbols is the one that makes sure of an expression
abbrev pub no_sure : List (Symbol Action) → Bool
no_sure [] = true
no_sure (Symbol.Token class ∷ symbols) = no_sure symbols
no_sure (Symbol.Act a ∷ symbols) = not (is_sure a) && no_sure symbols
no_sure (Symbol.Rule rule ∷ symbols) = no_sure symbols

pub fits_then : {s m t : State} → Fits s m → Fits m t → Fits s t
fits_then Same g = g
fits_then Loses Same = Loses
fits_then Loses Loses = Loses
fits_then (Narrow w f) g = Narrow w (fits_then f g)
fits_then (Closes f) g = Closes (fits_then f g)
fits_then (Turns p f) g = Turns p (fits_then f g)

step_is : (o : Option GatherStep) (c : Change) → IsOneOf c (step_changes o) → is_some o ≡ true
step_is None c m = elim m [ ]
step_is (Some s) c m = refl

module _ {declared : Action → ℕ → Option (State × State)} {e : Action} where
  pub fitted_before : {s m t : State} {symbols : List (Symbol Action)} → Fits s m → Typed declared e m symbols t
      → Typed declared e s symbols t
  fitted_before f (Done g) = Done (fits_then f g)
  fitted_before f (Takes g move typed) = Takes (fits_then f g) move typed
  fitted_before f (Does g move plain typed) = Does (fits_then f g) move plain typed
  fitted_before f (Ends g closes) = Ends (fits_then f g) closes
  fitted_before f (Else other) = Else other
  fitted_before f (Changes c rest g is w typed) = Changes c rest (fits_then f g) is w typed
  fitted_before f (Misread c is typed) = Misread c is typed
  fitted_before f (Lists p is on g typed) = Lists p is on (fits_then f g) typed
  fitted_before f (Tails before is g) = Tails before is (fits_then f g)
  fitted_before f (ByRows each) = ByRows (λ r m. fitted_before f (each r m))

  pub behind : {s m t : State} {xs ys : List (Symbol Action)} → Typed declared e s xs m → goes_on m ≡ true → Typed declared e m ys t
      → Typed declared e s (xs ++ ys) t
  behind (Done f) on others = fitted_before f others
  behind (Takes f move typed) on others = Takes f move (behind typed on others)
  behind (Does f move plain typed) on others = Does f move plain (behind typed on others)
  behind (Ends f closes) on others = cc
  behind (Else other) on others = Else other
  behind (Changes c rest f is w typed) on others = Changes c rest f is w (behind typed on others)
  behind (Misread c is typed) on others = Misread c is (behind typed on others)
  behind (Lists p is more f typed) on others = Lists p is more f (behind typed on others)
  behind (Tails before is f) on others = cc
  behind {t = t} {ys = ys} (ByRows {s} {symbols} each) on others =
      ByRows (λ r is. subst (λ l. Typed declared e s l t) (append_assoc r.parts symbols ys) (behind (each r is) on others))

  -- The rows of an expression, where one is open, and where what is open is not known

  pub row_opened : {ruled : Bool} {items target : List Item} {symbols : List (Symbol Action)} → Passes items symbols target
      → no_sure symbols ≡ true → Typed declared e (Open ruled items) symbols (Open ruled target)
  row_opened (done w) unsure = Done (Narrow w Same)
  row_opened (passes_token {class} {items} p) unsure =
      Takes Same (Into (passes_token (done (within_same (Sign (grammar.atoms_of class) ∷ items))))) (row_opened p unsure)
  row_opened (close {class} {items} {rest} w is p) unsure =
      Takes Same (Into (close w is (done (within_same (Whole primaries ∷ rest))))) (row_opened p unsure)
  row_opened (sure p) unsure = cc
  row_opened (passes_act {a} {symbols = symbols} c rest one w p) unsure =
      let both = and_parts (not (is_sure a)) (no_sure symbols) unsure in
      let step = step_is (step_of a) c one in
      Does Same (Gathers (passes_act c rest one w (done (within_same (c.now ++ rest)))) step) (step_plain a step) (row_opened p both.1)
  row_opened (passes_rule c rest is w p) unsure = Changes c rest Same is w (row_opened p unsure)

  pub row_lost : {items target : List Item} {symbols : List (Symbol Action)} → Passes items symbols target
      → no_sure symbols ≡ true → Typed declared e Lost symbols Lost
  row_lost (done w) unsure = Done Same
  row_lost (passes_token p) unsure = Takes Same Passed (row_lost p unsure)
  row_lost (close w is p) unsure = Takes Same Passed (row_lost p unsure)
  row_lost (sure p) unsure = cc
  row_lost (passes_act {a} {symbols = symbols} c rest one w p) unsure =
      let both = and_parts (not (is_sure a)) (no_sure symbols) unsure in
      Does Same Misses (step_plain a (step_is (step_of a) c one)) (row_lost p both.1)
  row_lost (passes_rule c rest is w p) unsure = Misread c is (row_lost p unsure)
