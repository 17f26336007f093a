-- Turns through a text that is read by itself: they have the effect of its actions and tokens, with the conditional directives between
-- these, and with no machine that reads them.
use Rattle.std.specs.Prelude.{◌≡◌, ℕ, zero, suc, List, [], ◌∷◌, map, None, false}
use Rattle.inf_settings.specs.Bounds.{Limits}
use Rattle.inf_devices.specs.Files.{Sources}
use Rattle.inf_machine.specs.{Grammar.Event, Grammar.IsOneOf, Grammar.IsText, declared.symbols.Symbol.Symbol}
use Rattle.inf_syntax.specs.declared.actions.Action.{Action}
use Rattle.inf_grammar.specs.Language.{grammar}
use Rattle.inf_unit.specs.Directives.{Nothing}
use Rattle.inf_compilation.specs.{Actions.Compilation, Context.Context}
use Rattle.inf_reader.specs.{Handing.is_empty, Reading.Reading, Reading.between, Reading.is_mode_ended, declared.recovery.Recovery.Recovery}
use Rattle.inf_session.specs.{Choices.Choices, Session.State, Session.context_of, Session.has_ended, Session.part, Session.stepped}
use Rattle.inf_statement_laws.specs.{Happenings.Between, Laid.next_comes, Laid.passed, Laid.run}
use Rattle.inf_statement_laws.specs.Readings.{Seen, all_taken, behind_token}
use Rattle.inf_language.specs.Texts.{atoms_of, happenings_of}
use Rattle.inf_program.specs.{Turns.all_steps, Turns.grouped, Writing.silent_turn, Writing.silent_turned}
use Rattle.inf_program.specs.definition.Steps.{AllKept, Step}
use Rattle.inf_calls.specs.Calls.{alone_close, alone_constant, alone_expression, alone_header, alone_line, begun_with_rule}

-- the rules of the texts that are read by themselves
abbrev pub alone_rules : List ℕ
alone_rules = alone_expression ∷ alone_constant ∷ alone_line ∷ alone_header ∷ alone_close ∷ []

-- the reading of the first token of a text of a rule
abbrev pub text_begun : ℕ → Reading
text_begun rule = record { mode = Recovery.Reads; stack = Symbol.Rule rule ∷ [] }

-- A token with all effects behind it. No statement ends within such a text, so that a conditional directive in it closes none.
abbrev pub merged : Seen → Seen
merged s = record s { behind = behind_token s.directive 0 s.behind; directive = None }

abbrev pub all_merged : List Seen → List Seen
all_merged seen = map (λ (s : Seen). merged s) seen

-- the tokens of steps, and the effect of conditional directives before the first
abbrev pub text_seen : List Step → List Seen
text_seen steps = all_merged (grouped steps).seen

abbrev pub text_front : List Step → Between
text_front steps = behind_token (grouped steps).directive 0 (grouped steps).behind

-- Behind a token nothing else happens: no fatal message came, no file ends, and no directive asks for anything.
pub record IsPlain (s : State) : Type 0 where
  pub is_not_over : s.work.report.counts.is_over ≡ false
  pub has_more : is_mode_ended s.reading.mode ≡ false
  pub asks_nothing : s.work.asked ≡ Nothing

-- Nothing else happens behind a token, and more of the text is still to come.
pub record GoesOn (s : State) : Type 0 where
  pub is_plain : IsPlain s
  pub is_inside : is_empty s.reading.stack ≡ false

-- behind each of `n` turns the text goes on
abbrev pub AllGoOn : Limits → Sources → Choices → ℕ → State → Type 0
AllGoOn limits sources o zero s = Unit {0}
AllGoOn limits sources o (suc n) s = GoesOn (stepped limits o s) × AllGoOn limits sources o n (silent_turn limits sources o s)

-- the steps of `n` turns and of one more from where a text of a rule begins, and the state at the last token
abbrev pub alone_steps : Limits → Sources → Choices → ℕ → ℕ → State → List Step
alone_steps limits sources o rule n s = all_steps limits sources o n (begun_with_rule rule s)

abbrev pub alone_stepped : Limits → Sources → Choices → ℕ → ℕ → State → State
alone_stepped limits sources o rule n s = stepped limits o (silent_turned limits sources o n (begun_with_rule rule s))

-- the work behind the part that a call reads
abbrev pub alone_work : Limits → Sources → Choices → ℕ → ℕ → State → Compilation
alone_work limits sources o rule n s = (part limits sources o (suc n) (begun_with_rule rule s)).work

-- Tokens that are a text of such a rule have the effect of the happenings of its events, wherever conditional directives end between them
-- (`texts`). Turns from where the text begins, behind which it goes on up to the last, and whose kept tokens are the text, have this effect
-- (`turns`). The part that a call reads by these turns leaves the same work, but for what is reported (`parts`).
pub record TextsAreReadAlone (limits : Limits) : Type 0 where
  pub texts : (rule : ℕ) → IsOneOf rule alone_rules → (seen : List Seen) (events : List (Event Action))
      → IsText grammar (Symbol.Rule rule ∷ []) (atoms_of seen) events → (context : Context) (w : Compilation)
      → next_comes (all_taken limits context seen (Symbol.Rule rule ∷ []) w)
      ≡ run limits context (happenings_of events (all_merged seen)) (next_comes w)
  pub turns : (rule : ℕ) → IsOneOf rule alone_rules → (sources : Sources) (o : Choices) (n : ℕ) (s : State) (events : List (Event Action))
      → s.reading ≡ between Recovery.Reads → AllGoOn limits sources o n (begun_with_rule rule s)
      → AllKept (alone_steps limits sources o rule n s)
      → IsText grammar (Symbol.Rule rule ∷ []) (atoms_of (text_seen (alone_steps limits sources o rule n s))) events
      → next_comes (alone_stepped limits sources o rule n s).work
      ≡ run limits (context_of o s) (happenings_of events (text_seen (alone_steps limits sources o rule n s)))
      (next_comes (passed (text_front (alone_steps limits sources o rule n s)) s.work))
  pub parts : (rule : ℕ) (sources : Sources) (o : Choices) (n : ℕ) (s : State) → has_ended s ≡ false
      → AllGoOn limits sources o n (begun_with_rule rule s) → IsPlain (alone_stepped limits sources o rule n s)
      → record (alone_stepped limits sources o rule n s).work { report = (alone_work limits sources o rule n s).report }
      ≡ alone_work limits sources o rule n s
