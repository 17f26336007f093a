-- Turns through a piece have the effect of the actions and tokens of its text, with the conditional directives between them, and with no
-- machine that reads them.
use Rattle.std.specs.Prelude.{◌≡◌, ℕ, List, [], ◌∷◌, false}
use Rattle.inf_settings.specs.Bounds.{Limits}
use Rattle.inf_devices.specs.Files.{Sources}
use Rattle.inf_machine.specs.Grammar.{Event, IsText, Leads, action, here, row, token}
use Rattle.inf_machine.specs.declared.symbols.Symbol.{Symbol}
use Rattle.inf_syntax.specs.declared.actions.Action.{Action}
use Rattle.inf_grammar.specs.{Language.grammar, Routines.closings}
use Rattle.inf_unit.specs.Tokens.{SourceToken, is_end}
use Rattle.inf_compilation.specs.{Actions.Compilation, Actions.piece_begun as work_begun, Context.Context}
use Rattle.inf_reader.specs.{Reading.between, Reading.piece_rule, declared.recovery.Recovery.Recovery}
use Rattle.inf_session.specs.{Choices.Choices, Session.State, Session.context_of, Session.stepped}
use Rattle.inf_laws.specs.KeptTokens.{Kept}
use Rattle.inf_statement_laws.specs.Happenings.{Acts, Between, Happening, Takes}
use Rattle.inf_statement_laws.specs.Laid.{next_comes, passed, run}
use Rattle.inf_statement_laws.specs.Readings.{Seen, all_taken, behind_ends, behind_token, plainly_at}
use Rattle.inf_language.specs.Texts.{NoneClosesAhead, atoms_of, happenings_of}
use Rattle.inf_program.specs.{Turns.AreQuiet, Turns.all_steps, Turns.grouped, Writing.silent_turned}
use Rattle.inf_program.specs.definition.Steps.{AllKept, Passes, Reads, Step}

-- the tokens of a piece that begins with a token, each with the effect behind it
abbrev pub seen_in : SourceToken → List Step → List Seen
seen_in t steps = (grouped (Reads (Kept t) ∷ steps)).seen

-- The happenings of a text and its tokens, by the derivation of the text: an action acts at the place of the next token, and each token is
-- taken with the effect behind it. The symbols behind a token begin with the ends of the statements that are over, whatever the next token
-- is. From where a conditional directive ends behind the token, its effect comes behind these ends, and behind the token where there are
-- none. No action comes behind the last token.
abbrev pub text_happenings : {symbols : List (Symbol Action)} {atoms : List ℕ} {events : List (Event Action)} {left : List (Symbol Action)}
    → Leads grammar symbols atoms events left → List Seen → List Happening
text_happenings here seen = []
text_happenings (token is_in leads) [] = []
text_happenings (token {symbols} is_in leads) (s ∷ seen) =
    Takes s.token (behind_token s.directive (closings symbols) s.behind)
    ∷ behind_ends s.directive (closings symbols) (text_happenings leads seen)
text_happenings (action leads) [] = []
text_happenings (action {a} leads) (s ∷ seen) = Acts (plainly_at s.token.place) a ∷ text_happenings leads (s ∷ seen)
text_happenings (row is_row free leads) seen = text_happenings leads seen

-- Tokens that are the text of a piece have the effect of the happenings of the text, wherever conditional directives end between them
-- (`texts`); where none ends, these are the happenings of the text's events (`plain`). Turns from where a piece begins, behind which
-- nothing else happens up to the last, and whose kept tokens are the text of a piece, have the effect of the text's happenings (`turns`).
pub record PiecesDoTheirActions (limits : Limits) : Type 0 where
  pub texts : (seen : List Seen) (events : List (Event Action)) (text : IsText grammar (Symbol.Rule piece_rule ∷ []) (atoms_of seen) events)
      (context : Context) (w : Compilation)
      → next_comes (all_taken limits context seen (Symbol.Rule piece_rule ∷ []) w) ≡ run limits context (text_happenings text seen)
      (next_comes w)
  pub plain : (seen : List Seen) (events : List (Event Action)) (text : IsText grammar (Symbol.Rule piece_rule ∷ []) (atoms_of seen) events)
      → NoneClosesAhead seen → text_happenings text seen ≡ happenings_of events seen
  pub turns : (sources : Sources) (o : Choices) (n : ℕ) (s : State) (m : Between) (t : SourceToken) (steps : List Step)
      (events : List (Event Action)) (text : IsText grammar (Symbol.Rule piece_rule ∷ []) (atoms_of (seen_in t steps)) events)
      → s.reading ≡ between Recovery.Reads → is_end t.kind ≡ false → AreQuiet limits sources o n s
      → all_steps limits sources o n s ≡ Passes m ∷ Reads (Kept t) ∷ steps → AllKept steps
      → next_comes (stepped limits o (silent_turned limits sources o n s)).work
      ≡ run limits (context_of o s) (text_happenings text (seen_in t steps)) (next_comes (work_begun (passed m s.work)))
