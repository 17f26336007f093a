-- Turns through a routine have the effect of the routine as a whole: its header, its statements as they are nested, and its end.
use Rattle.std.specs.Prelude.{◌≡◌, ℕ, List, [], ◌∷◌, false}
use Rattle.inf_settings.specs.Bounds.{Limits}
use Rattle.inf_scanner.specs.declared.tokens.Mark.{Mark}
use Rattle.inf_devices.specs.Files.{Sources}
use Rattle.inf_machine.specs.{Grammar.Event, Grammar.IsText, declared.symbols.Symbol.Symbol}
use Rattle.inf_syntax.specs.{Atoms.mark_atom, declared.actions.Action.Action}
use Rattle.inf_syntax.specs.declared.parts.names.TheConstants as Part
use Rattle.inf_grammar.specs.Language.{grammar}
use Rattle.inf_unit.specs.Tokens.{SourceToken, atom_of, is_end}
use Rattle.inf_compilation.specs.{Actions.Compilation, Actions.piece_begun as work_begun, Context.Context}
use Rattle.inf_reader.specs.{Reading.between, Reading.piece_rule, declared.recovery.Recovery.Recovery}
use Rattle.inf_session.specs.{Choices.Choices, Session.State, Session.context_of, Session.stepped}
use Rattle.inf_laws.specs.KeptTokens.{Kept}
use Rattle.inf_statement_laws.specs.{Happenings.Between, Laid.next_comes, Laid.passed}
use Rattle.inf_statement_laws.specs.Readings.{Routine, Seen, all_happenings, routine_happenings, routine_laid}
use Rattle.inf_language.specs.Texts.{atoms_of}
use Rattle.inf_program.specs.{Turns.AreQuiet, Turns.all_steps, Writing.silent_turned}
use Rattle.inf_program.specs.definition.Steps.{AllKept, Passes, Reads, Step}
use Rattle.inf_turn_laws.specs.Acted.{seen_in}

-- Tells whether tokens are those of a routine, which leads as a whole from one compilation to another.
pub record LaysRoutine (limits : Limits) (context : Context) (seen : List Seen) (before after : Compilation) : Type 0 where
  pub routine : Routine
  pub same : routine_happenings routine ≡ all_happenings seen (Part.DIRECTIVE ∷ [])
  pub lays : next_comes after ≡ routine_laid limits context routine (next_comes before)

-- Turns from where a piece begins, behind which nothing else happens up to the last, and whose kept tokens are the text of a piece that
-- begins with a bracket, lay a routine as a whole, wherever conditional directives end between the tokens.
abbrev pub TurnsReadRoutinesWhole : Limits → Type 0
TurnsReadRoutinesWhole limits =
    (sources : Sources) (o : Choices) (n : ℕ) (s : State) (m : Between) (t : SourceToken) (steps : List Step)
    (events : List (Event Action))
    → s.reading ≡ between Recovery.Reads → is_end t.kind ≡ false → AreQuiet limits sources o n s
    → all_steps limits sources o n s ≡ Passes m ∷ Reads (Kept t) ∷ steps → AllKept steps
    → IsText grammar (Symbol.Rule piece_rule ∷ []) (atoms_of (seen_in t steps)) events → atom_of t ≡ mark_atom Mark.OpenBracket
    → LaysRoutine limits (context_of o s) (seen_in t steps) (work_begun (passed m s.work))
    (stepped limits o (silent_turned limits sources o n s)).work
