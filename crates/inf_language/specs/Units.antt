-- The unit at hand while it is read: it depends on its tokens and actions alone, and on nothing that is compiled or
-- reported meanwhile.
use Rattle.std.specs.Prelude.{◌≡◌, List, [], ◌∷◌, Bool, true, false, is_some}
use Rattle.inf_settings.specs.Bounds.{Limits}
use Rattle.inf_scanner.specs.declared.tokens.Place.{Place}
use Rattle.inf_machine.specs.Grammar.{Event, Took, Did}
use Rattle.inf_syntax.specs.declared.actions.Action.{Action}
use Rattle.inf_unit.specs.{Roles.role_of, Steps.step_of, declared.roles.Note.Note, declared.roles.Role.Role}
use Rattle.inf_compilation.specs.{Actions.Compilation, Context.Context}
use Rattle.inf_expression_laws.specs.Gathered.{read_by}
use Rattle.inf_statement_laws.specs.{Laid.run, Readings.Seen}
use Rattle.inf_language.specs.Texts.{happenings_before, tokens_of}

-- Whether a note is always kept, whatever is noted already. Some are dropped where a setting would be passed: a text that is
-- printed, a value that is printed or given, an arrow before the name of an object, the end of an operand, a token of a line of
-- grammar, and a further word of a verb.
abbrev pub is_kept_whole : Note → Bool
is_kept_whole Note.PrintText = false
is_kept_whole Note.Arrow = false
is_kept_whole Note.OuterEnd = false
is_kept_whole Note.LineToken = false
is_kept_whole Note.PrintValue = false
is_kept_whole Note.PrintRuled = false
is_kept_whole Note.Set = false
is_kept_whole Note.Clear = false
is_kept_whole Note.VerbWord = false
is_kept_whole _ = true

-- whether an action only changes the unit at hand, and in a way that depends on that unit alone
abbrev pub gathers_in : Role → Bool
gathers_in (Role.Gather s) = true
gathers_in (Role.Note n) = is_kept_whole n
gathers_in _ = false

abbrev pub gathers : Action → Bool
gathers a = gathers_in (role_of a)

-- Tells whether all actions among some events only change the unit at hand, by that unit alone.
abbrev pub AllGather : List (Event Action) → Type 0
AllGather [] = Unit {0}
AllGather (Did a ∷ events) = (gathers a ≡ true) × AllGather events
AllGather (Took atom ∷ events) = AllGather events

-- The unit in a compilation is the one that the same events and tokens make of the unit by itself, where all actions only
-- change it, by it alone.
abbrev pub UnitsAreReadAlone : Limits → Type 0
UnitsAreReadAlone limits =
    (context : Context) (next : Place) (events : List (Event Action)) (seen : List Seen) (w : Compilation) → AllGather events
    → (run limits context (happenings_before next events seen) w).unit ≡ read_by events (tokens_of seen) w.unit

-- whether an action gathers a step of an expression, and notes nothing
abbrev pub is_step : Action → Bool
is_step a = is_some (step_of a)

-- Tells whether all actions among some events gather a step of an expression, and note nothing.
abbrev pub AllSteps : List (Event Action) → Type 0
AllSteps [] = Unit {0}
AllSteps (Did a ∷ events) = (is_step a ≡ true) × AllSteps events
AllSteps (Took atom ∷ events) = AllSteps events

-- Tells whether events take as many tokens as there are.
abbrev pub TakeAll : List (Event Action) → List Seen → Type 0
TakeAll [] [] = Unit {0}
TakeAll [] (s ∷ seen) = ⊥
TakeAll (Did a ∷ events) seen = TakeAll events seen
TakeAll (Took atom ∷ events) [] = ⊥
TakeAll (Took atom ∷ events) (s ∷ seen) = TakeAll events seen
