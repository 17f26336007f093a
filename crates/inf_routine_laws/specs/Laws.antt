-- The labels of a routine: none is missing but such as have names, and none is marked twice; and what may happen between two of its tokens.
use Rattle.std.specs.Prelude.{Bool, List, None, Option, Some, [], false, true, ℕ, ◌<◌, ◌∷◌, ◌≡◌}
use Rattle.inf_scanner.specs.declared.tokens.Place.{Place}
use Rattle.inf_settings.specs.Bounds.{Limits}
use Rattle.inf_assembler.specs.{declared.routines.CloseFault.CloseFault, declared.routines.RoutineKind.RoutineKind}
use Rattle.inf_names.specs.{Locals.Headed, Spellings.Name}
use Rattle.inf_code.specs.Code.{Opened, fault_closed}
use Rattle.inf_output.specs.Output.{Out, opened as opened_as}
use Rattle.inf_machine.specs.declared.symbols.Symbol.{Symbol}
use Rattle.inf_syntax.specs.declared.actions.Action.{Action}
use Rattle.inf_unit.specs.{Messages.FileNames, Units.names_in}
use Rattle.inf_constructs.specs.Labels.{missing}
use Rattle.inf_compilation.specs.{Context.Context, Findings.Findings}
use Rattle.inf_compilation.specs.Actions.{Compilation, cases_ended, is_to_be_replaced, opened_with}
use Rattle.inf_statement_laws.specs.{Laid.happens, Laid.laid, Laid.run, Nested.Nested, Nested.happenings}
use Rattle.inf_statement_laws.specs.Happenings.{Acts, Between, Happening, Moment, Takes}
use Rattle.inf_statement_laws.specs.Readings.{Routine, Seen, all_happenings, body_laid, directive_between, routine_happenings}

-- Tells whether an output stands behind another one of which it has the open routine and the number of the next label.
pub record LeavesRoutine (before now : Out) : Type 0 where
  pub opened : now.code.opened ≡ before.code.opened
  pub next : now.next ≡ before.next
  pub kept : now.kept ≡ before.kept
  pub fits : now.past ≡ None → before.past ≡ None

-- whether a label of a routine is missing, or marked twice
abbrev pub is_of_labels : Option CloseFault → Bool
is_of_labels (Some (CloseFault.LabelMissing label)) = true
is_of_labels (Some (CloseFault.LabelTwice label)) = true
is_of_labels _ = false

-- Tells whether a routine has just begun: the open one, if there is one, has no items, and no statement is open.
pub record HasBegun (w : Compilation) : Type 0 where
  pub items : (routine : Opened) → w.output.code.opened ≡ Some routine → routine.contents.cells ≡ []
  pub labels : w.labels ≡ []
  pub constructs : w.constructs ≡ []
  pub together : w.output.kept ≡ None

abbrev pub LeaveRoutine : Between → Type 0
LeaveRoutine m = (o : Out) → LeavesRoutine o (m.output o)

-- Tells whether all that comes between the tokens of some happenings leaves the open routine as it is.
abbrev pub AllLeave : List Happening → Type 0
AllLeave [] = Unit {0}
AllLeave ((Acts at a) ∷ happenings) = LeaveRoutine at.behind × AllLeave happenings
AllLeave ((Takes t m) ∷ happenings) = LeaveRoutine m × AllLeave happenings

-- Tells whether all that comes behind some tokens, by itself or where a conditional directive ends, leaves it as it is.
abbrev pub DirectiveLeaves : Option Between → Type 0
DirectiveLeaves None = Unit {0}
DirectiveLeaves (Some m) = LeaveRoutine m

abbrev pub AllSeenLeave : List Seen → Type 0
AllSeenLeave [] = Unit {0}
AllSeenLeave (s ∷ seen) = (LeaveRoutine s.behind × DirectiveLeaves s.directive) × AllSeenLeave seen

-- A routine that ends has no fault of its labels: where no limit was passed, and fewer labels were handed out than there are numbers of
-- labels, no label is missing but one with a name, which is told by itself, and none is marked twice.
abbrev pub HasItsLabels : Limits → Compilation → Type 0
HasItsLabels limits w =
    let v = cases_ended limits w in
    v.output.past ≡ None → v.output.next < 4294967295 → missing v.labels ≡ None → (how : RoutineKind) →
    is_of_labels (fault_closed limits how v.output.code) ≡ false

-- the compilation behind the header of a routine, up to its last local
abbrev pub headed : Limits → Context → Routine → Compilation → Compilation
headed limits context r w = happens limits context (Acts r.heads Action.EndLocals) (run limits context r.header.all w)

-- The body of a routine, by its nested statements, leaves it with its labels, whatever errors its statements have; so does a routine as a
-- whole, of its own or a value of a property, where its header has begun it. A header that opens a routine begins it, and so does that of a
-- routine with a name, which is not to be replaced, where it ends. Without items, as a stub is, a routine has no such fault either. What
-- conditional directives do at their end leaves it as it is, and so does all that happens while tokens are read, where what comes behind
-- each does.
pub record RoutinesHaveTheirLabels (limits : Limits) : Type 0 where
  pub bodies : (context : Context) (body : Nested true) (w : Compilation) → w.closed ≡ 0 → HasBegun w → AllLeave (happenings body)
      → HasItsLabels limits (laid limits context body w)
  pub routines : (context : Context) (r : Routine) (w : Compilation) → w.closed ≡ 0
      → HasBegun (headed limits context r w) → AllLeave (routine_happenings r) → HasItsLabels limits (body_laid limits context r w)
  pub opened : (context : Context) (first : Place) (h : Headed) (found : Findings) (w : Compilation) → w.output.kept ≡ None
      → HasBegun (opened_with limits context first h found w)
  pub headers : (context : Context) (at : Moment) (name : Name) (names : List Name) (w : Compilation)
      → names_in w.unit.tokens ≡ name ∷ names → is_to_be_replaced name w ≡ false → w.output.kept ≡ None → LeaveRoutine at.behind
      → HasBegun (happens limits context (Acts at Action.EndLocals) w)
  pub empty : (how : RoutineKind) (locals : ℕ) (is_lost : Bool) (o : Out) →
      is_of_labels (fault_closed limits how (opened_as limits locals is_lost o).code) ≡ false
  pub directives : (files : FileNames) (place : Place) → LeaveRoutine (directive_between limits files place)
  pub tokens : (seen : List Seen) (symbols : List (Symbol Action)) → AllSeenLeave seen → AllLeave (all_happenings seen symbols)
