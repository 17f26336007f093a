-- Statements as they are nested, each with the happenings of its parts in order. Designer's Manual, fourth edition, sections 1.7 to 1.9.
use Rattle.std.specs.Prelude.{Bool, true, false, List, [], ◌∷◌, ◌++◌, Option, Some, None}
use Rattle.inf_machine.specs.declared.symbols.Symbol.{Symbol}
use Rattle.inf_syntax.specs.declared.actions.Action.{Action}
use Rattle.inf_syntax.specs.declared.parts.names.TheConstants as Part
use Part.{DO_REST, FOR_REST, IF_REST, OBJECTLOOP_REST, SWITCH_REST, WHILE_REST}
use Rattle.inf_statement_laws.specs.Happenings.{Acts, Happening, Moment, Quiet}

-- the step of a `for`, which may be missing
pub data Step : Type 0 where
  NoStep : Step
  StepEnds : (step : Quiet) (ends : Moment) → Step

abbrev pub step_happenings : Step → List Happening
step_happenings NoStep = []
step_happenings (StepEnds step ends) = step.all ++ Acts ends Action.EndForStep ∷ []

-- Statements one behind the other, or those in one; in a `switch`, and at the top of a routine, cases may be among them. A
-- statement that holds others begins where its word was read, and has its own actions, each at its moment, between its
-- parts.
pub data Nested : (has_cases : Bool) → Type 0 where
  Plain : {b : Bool} (plain : Quiet) → Nested b
  Then : {b : Bool} (first second : Nested b) → Nested b
  Case : (values : Quiet) (ends : Moment) → Nested true
  If : {b : Bool} (opens : Moment) (test : Quiet) (body : Nested false) (closes : Moment) → Nested b
  IfElse : {b : Bool} (opens : Moment) (test : Quiet) (body : Nested false) (joins : Moment) (word : Quiet) (other : Nested false)
      (closes : Moment) → Nested b
  While : {b : Bool} (opens : Moment) (test : Quiet) (body : Nested false) (closes : Moment) → Nested b
  Do : {b : Bool} (opens : Moment) (body : Nested false) (word : Quiet) (joins : Moment) (test : Quiet) (closes : Moment) → Nested b
  For : {b : Bool} (opens : Moment) (start : Quiet) (joins : Moment) (test : Quiet) (step : Step) (bracket : Quiet) (body : Nested false)
      (closes : Moment) → Nested b
  Objectloop : {b : Bool} (opens : Moment) (loop : Quiet) (ends joins : Moment) (bracket : Quiet) (body : Nested false) (closes : Moment)
      → Nested b
  Switch : {b : Bool} (opens : Moment) (value : Quiet) (cases : Nested true) (brace : Quiet) (closes : Moment) → Nested b

-- the happenings while a nested statement is read
abbrev pub happenings : {b : Bool} → Nested b → List Happening
happenings (Plain plain) = plain.all
happenings (Then first second) = happenings first ++ happenings second
happenings (Case values ends) = values.all ++ Acts ends Action.EndCase ∷ []
happenings (If opens test body closes) =
    Acts opens Action.OpenIf ∷ (test.all ++ (happenings body ++ Acts closes Action.Close ∷ []))
happenings (IfElse opens test body joins word other closes) =
    Acts opens Action.OpenIf
    ∷ (test.all ++ (happenings body ++ Acts joins Action.Else ∷ (word.all ++ (happenings other ++ Acts closes Action.Close ∷ []))))
happenings (While opens test body closes) =
    Acts opens Action.OpenWhile ∷ (test.all ++ (happenings body ++ Acts closes Action.Close ∷ []))
happenings (Do opens body word joins test closes) =
    Acts opens Action.OpenDo ∷ (happenings body ++ (word.all ++ Acts joins Action.Until ∷ (test.all ++ Acts closes Action.Close ∷ [])))
happenings (For opens start joins test step bracket body closes) =
    Acts opens Action.OpenFor
    ∷ (start.all ++ Acts joins Action.ForTop
    ∷ (test.all ++ (step_happenings step ++ (bracket.all ++ (happenings body ++ Acts closes Action.Close ∷ [])))))
happenings (Objectloop opens loop ends joins bracket body closes) =
    Acts opens Action.OpenObjectloop
    ∷ (loop.all ++ Acts ends Action.EndObjectloop
    ∷ Acts joins Action.Loop ∷ (bracket.all ++ (happenings body ++ Acts closes Action.Close ∷ [])))
happenings (Switch opens value cases brace closes) =
    Acts opens Action.OpenSwitch ∷ (value.all ++ (happenings cases ++ (brace.all ++ Acts closes Action.Close ∷ [])))

-- the rule by which the rest of a statement that holds others is read
abbrev pub rest_of : {b : Bool} → Nested b → Option (Symbol Action)
rest_of (If opens test body closes) = Some IF_REST
rest_of (IfElse opens test body joins word other closes) = Some IF_REST
rest_of (While opens test body closes) = Some WHILE_REST
rest_of (Do opens body word joins test closes) = Some DO_REST
rest_of (For opens start joins test step bracket body closes) = Some FOR_REST
rest_of (Objectloop opens loop ends joins bracket body closes) = Some OBJECTLOOP_REST
rest_of (Switch opens value cases brace closes) = Some SWITCH_REST
rest_of _ = None
