-- Turns through a text that is read by itself have the effect of the happenings of its events.
use Rattle.std.proofs.Common.{◌≡◌, ℕ, zero, suc, List, [], ◌∷◌, true, Option, Some, None, refl, sym, ◌∙◌, ap, subst}
use Rattle.std.proofs.lemmas.Bool.{and_parts}
use Rattle.inf_settings.specs.Bounds.{Limits}
use Rattle.inf_devices.specs.Files.{Sources}
use Rattle.inf_machine.specs.{Grammar.Event, Grammar.IsOneOf, Grammar.IsText, Machine.fits, Machine.taken}
use Rattle.inf_machine.specs.declared.symbols.Symbol.{Symbol}
use Rattle.inf_syntax.specs.declared.actions.Action.{Action}
use Rattle.inf_grammar.specs.{Language.grammar, Language.known, Routines.closings}
use Rattle.inf_compilation.specs.{Actions.Compilation, Actions.took, Context.Context, Nesting.closed_ahead}
use Rattle.inf_reader.specs.{Acting.all_acted, Reading.Reading, Reading.ReaderState, Reading.between, declared.recovery.Recovery.Recovery}
use Rattle.inf_session.specs.{Choices.Choices, Session.State, Session.context_of, Session.stand_of, Session.stepped}
use Rattle.inf_statement_laws.specs.{Happenings.Between, Laid.next_comes, Laid.passed, Laid.run}
use Rattle.inf_statement_laws.specs.Readings.{Seen, all_fit, all_taken, behind_token, directed}
use Rattle.inf_language.specs.Texts.{NoneClosesAhead, atoms_of, happenings_of}
use Rattle.inf_language.proofs.TextsActed.{texts_do_their_actions}
use Rattle.inf_program.specs.{Turns.AllFit, Turns.AreQuiet, Turns.grouped, Turns.steps_by, Writing.silent_turn}
use Rattle.inf_program.specs.definition.Steps.{AllKept, Step}
use Rattle.inf_program.proofs.{Grouping.steps_are_taken, TurnSteps.turns_are_steps}
use Rattle.inf_turn_laws.proofs.{Acted.all_fit_by, Ahead.nothing_ahead}
use Rattle.inf_calls.specs.Calls.{begun_with_rule}
use Rattle.inf_call_laws.specs.Texts.{AllGoOn, TextsAreReadAlone, all_merged, alone_rules, alone_stepped, alone_steps, text_begun}
use Rattle.inf_call_laws.specs.Texts.{text_front, text_seen}
use Rattle.inf_call_laws.proofs.{Parts.not_resting, Parts.parts_leave_work, Stacks.alone_is_quiet, Stacks.are_quiet, Stacks.none_over}
use Rattle.inf_call_laws.proofs.Stacks.{still_quiet}

-- Conditional directives have their effect behind the token before them.

directed_behind : (limits : Limits) (d : Option Between) (b : Between) (count : ℕ) (w : Compilation) → count ≡ 0
    → directed limits d count (passed b w) ≡ passed (behind_token d 0 b) w
directed_behind limits None b count w none = refl
directed_behind limits (Some m) b count w none =
    ap (λ n. passed m (closed_ahead limits n (passed b w))) none ∙ ap (passed m) (nothing_ahead limits (passed b w))

merged_taken : (limits : Limits) (context : Context) (seen : List Seen) (symbols : List (Symbol Action)) (w : Compilation)
    → are_quiet symbols ≡ true → all_fit seen symbols ≡ true
    → all_taken limits context seen symbols w ≡ all_taken limits context (all_merged seen) symbols w
merged_taken limits context [] symbols w quiet fit = refl
merged_taken limits context (s ∷ seen) symbols w quiet fit =
    let n = taken grammar known s.atom symbols in
    let both = and_parts (fits grammar known s.atom symbols) (all_fit seen n.left) fit in
    let still = still_quiet s.atom symbols quiet both.0 in
    let now = took context s.token (all_acted limits context s.token.place n.actions w) in
    merged_taken limits context seen n.left (directed limits s.directive (closings n.left) (passed s.behind now)) still both.1
    ∙ ap (all_taken limits context (all_merged seen) n.left)
    (directed_behind limits s.directive s.behind (closings n.left) now (none_over n.left still))

merged_atoms : (seen : List Seen) → atoms_of (all_merged seen) ≡ atoms_of seen
merged_atoms [] = refl
merged_atoms (s ∷ seen) = ap (λ (atoms : List ℕ). s.atom ∷ atoms) (merged_atoms seen)

none_ahead : (seen : List Seen) → NoneClosesAhead (all_merged seen)
none_ahead [] = tt
none_ahead (s ∷ seen) = (refl, none_ahead seen)

-- Lemmas about texts

texts_act : (limits : Limits) (rule : ℕ) → IsOneOf rule alone_rules → (seen : List Seen) (events : List (Event Action))
    → IsText grammar (Symbol.Rule rule ∷ []) (atoms_of seen) events → (context : Context) (w : Compilation)
    → next_comes (all_taken limits context seen (Symbol.Rule rule ∷ []) w)
    ≡ run limits context (happenings_of events (all_merged seen)) (next_comes w)
texts_act limits rule is seen events text context w =
    let law = texts_do_their_actions limits in
    let plain = subst (λ atoms. IsText grammar (Symbol.Rule rule ∷ []) atoms events) (sym (merged_atoms seen)) text in
    ap next_comes
    (merged_taken limits context seen (Symbol.Rule rule ∷ []) w (alone_is_quiet rule is) (law.fit rule seen events text))
    ∙ law.act rule (all_merged seen) events plain (none_ahead seen) context w

steps_act : (limits : Limits) (context : Context) (rule : ℕ) → IsOneOf rule alone_rules → (steps : List Step) (events : List (Event Action))
    (r : ReaderState) → r.reading ≡ text_begun rule → AllKept steps
    → IsText grammar (Symbol.Rule rule ∷ []) (atoms_of (text_seen steps)) events
    → next_comes (steps_by limits context steps r).work
    ≡ run limits context (happenings_of events (text_seen steps)) (next_comes (passed (text_front steps) r.work))
steps_act limits context rule is steps events r fresh kept text =
    let law = texts_do_their_actions limits in
    let g = grouped steps in
    let own = subst (λ atoms. IsText grammar (Symbol.Rule rule ∷ []) atoms events) (merged_atoms g.seen) text in
    let stack : r.reading.stack ≡ Symbol.Rule rule ∷ [] = ap (λ (x : Reading). x.stack) fresh in
    let all : all_fit g.seen r.reading.stack ≡ true = ap (all_fit g.seen) stack ∙ law.fit rule g.seen events own in
    let fit : AllFit limits context steps r = all_fit_by limits context steps r (ap (λ (x : Reading). x.mode) fresh) kept all in
    ap next_comes (steps_are_taken limits context steps r fit)
    ∙ (ap (λ (symbols : List (Symbol Action)). next_comes (all_taken limits context g.seen symbols
    (directed limits g.directive (closings symbols) (passed g.behind r.work)))) stack
    ∙ (texts_act limits rule is g.seen events own context (directed limits g.directive 0 (passed g.behind r.work))
    ∙ ap (λ (w : Compilation). run limits context (happenings_of events (text_seen steps)) (next_comes w))
    (directed_behind limits g.directive g.behind 0 r.work refl)))

-- Lemmas about turns

all_quiet : (limits : Limits) (sources : Sources) (o : Choices) (n : ℕ) (s : State) → AllGoOn limits sources o n s
    → AreQuiet limits sources o n s
all_quiet limits sources o zero s on = tt
all_quiet limits sources o (suc n) s on = (
  record {
    is_not_over = on.0.is_plain.is_not_over;
    has_more = on.0.is_plain.has_more;
    asks_nothing = on.0.is_plain.asks_nothing;
    is_inside = not_resting (stepped limits o s) on.0;
  },
  all_quiet limits sources o n (silent_turn limits sources o s) on.1,
)

pub turns_act : (limits : Limits) (rule : ℕ) → IsOneOf rule alone_rules → (sources : Sources) (o : Choices) (n : ℕ) (s : State)
    (events : List (Event Action)) → s.reading ≡ between Recovery.Reads → AllGoOn limits sources o n (begun_with_rule rule s)
    → AllKept (alone_steps limits sources o rule n s)
    → IsText grammar (Symbol.Rule rule ∷ []) (atoms_of (text_seen (alone_steps limits sources o rule n s))) events
    → next_comes (alone_stepped limits sources o rule n s).work
    ≡ run limits (context_of o s) (happenings_of events (text_seen (alone_steps limits sources o rule n s)))
    (next_comes (passed (text_front (alone_steps limits sources o rule n s)) s.work))
turns_act limits rule is sources o n s events fresh on kept text =
    let b = begun_with_rule rule s in
    ap (λ (r : ReaderState). next_comes r.work) (turns_are_steps limits sources o n b (all_quiet limits sources o n b on))
    ∙ steps_act limits (context_of o s) rule is (alone_steps limits sources o rule n s) events (stand_of b)
    (ap (λ (r : Reading). record r { stack = Symbol.Rule rule ∷ r.stack }) fresh) kept text

pub texts_are_read_alone : (limits : Limits) → TextsAreReadAlone limits
texts_are_read_alone limits = record { texts = texts_act limits; turns = turns_act limits; parts = parts_leave_work limits }
