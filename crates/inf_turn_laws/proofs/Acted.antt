-- Turns through a piece have the effect of the happenings of its text, also where conditional directives close statements ahead.
use Rattle.std.proofs.Common.{◌≡◌, ℕ, suc, Some, None, arith, List, [], ◌∷◌, true, false, refl, sym, ◌∙◌, ap, subst, true≢false}
use Rattle.std.proofs.lemmas.Bool.{and_parts}
use Rattle.inf_settings.specs.Bounds.{Limits}
use Rattle.inf_devices.specs.Files.{Sources}
use Rattle.inf_machine.specs.{Grammar.Event, Grammar.IsText, Grammar.Leads, Laws.IsSpaced, Machine.fits, Machine.taken, Machine.work}
use Rattle.inf_machine.specs.{declared.symbols.Symbol.Symbol}
use Rattle.inf_machine.proofs.Taking.{spaced_left}
use Rattle.inf_syntax.specs.declared.actions.Action.{Action}
use Rattle.inf_grammar.specs.{Evaluated.language_is_decided, Language.grammar, Language.known, Routines.closings}
use Rattle.inf_unit.specs.Tokens.{SourceToken, atom_of, is_end}
use Rattle.inf_compilation.specs.{Actions.Compilation, Actions.piece_begun as work_begun, Actions.took as took_work, Context.Context}
use Rattle.inf_reader.specs.{Acting.acted, Handing.is_empty, declared.recovery.Recovery.Recovery}
use Rattle.inf_reader.specs.Reading.{ReaderState, between, piece_rule, took}
use Rattle.inf_session.specs.{Choices.Choices, Session.State, Session.context_of, Session.stepped}
use Rattle.inf_laws.specs.KeptTokens.{Kept, Unfit}
use Rattle.inf_statement_laws.specs.{Happenings.Between, Laid.next_comes, Laid.passed, Laid.run}
use Rattle.inf_statement_laws.specs.Readings.{Seen, all_fit, all_taken, behind_ends, behind_token, directed, token_happenings}
use Rattle.inf_statement_laws.proofs.Laying.{run_then}
use Rattle.inf_language.specs.Texts.{atoms_of}
use Rattle.inf_language.proofs.TextsActed.{texts_do_their_actions}
use Rattle.inf_grammar.proofs.Spaced.{rule_is_spaced}
use Rattle.inf_program.specs.definition.Steps.{AllKept, Ends, Passes, Reads, Step}
use Rattle.inf_program.specs.Turns.{AllFit, AreQuiet, IsFit, all_steps, grouped, piece_first, step_by}
use Rattle.inf_program.specs.Writing.{silent_turned}
use Rattle.inf_turn_laws.specs.Acted.{PiecesDoTheirActions, seen_in, text_happenings}
use Rattle.inf_turn_laws.proofs.Ahead.{Further, actions_happen, onward, starts}
use Rattle.inf_turn_laws.proofs.Derived.{First, first_by, no_tokens, plain_happenings}
use Rattle.inf_program.proofs.{Chosen.EndWithToken, Chosen.none_left, Chosen.pieces_end, Grouping.step_fit, Grouping.whole_piece}

-- Nothing fits where no piece is at hand.
fits_inside : (atom : ℕ) (stack : List (Symbol Action)) → fits grammar known atom stack ≡ true → is_empty stack ≡ false
fits_inside atom [] fit = absurd (true≢false (sym fit))
fits_inside atom (symbol ∷ symbols) fit = refl

-- Kept tokens that fit one behind the other by the machine fit as steps.
pub all_fit_by : (limits : Limits) (context : Context) (steps : List Step) (s : ReaderState) → s.reading.mode ≡ Recovery.Reads →
    AllKept steps
    → all_fit (grouped steps).seen s.reading.stack ≡ true → AllFit limits context steps s
all_fit_by limits context [] s reads kept fit = tt
all_fit_by limits context (Passes m ∷ steps) s reads kept fit =
    all_fit_by limits context steps (step_by limits context (Passes m) s) reads kept fit
all_fit_by limits context (Ends m ∷ steps) s reads kept fit =
    all_fit_by limits context steps (step_by limits context (Ends m) s) reads kept fit
all_fit_by limits context (Reads (Unfit t) ∷ steps) s reads kept fit = absurd kept
all_fit_by limits context (Reads (Kept t) ∷ steps) s reads kept fit =
    let stack = s.reading.stack in
    let now = fits grammar known (atom_of t) stack in
    let rest = all_fit (grouped steps).seen (taken grammar known (atom_of t) stack).left in
    let both = and_parts now rest fit in
    let here : IsFit t s.reading = record { reads = reads; is_inside = fits_inside (atom_of t) stack both.0; is_fit = both.0 } in (
      here,
      subst (AllFit limits context steps) (sym (step_fit limits context t s.reading s.work here))
          (all_fit_by limits context steps (took limits context t s.reading s.work) reads kept both.1),
    )

-- Lemmas about texts

none_over : (symbols : List (Symbol Action)) (count : ℕ) → symbols ≡ [] → closings symbols ≡ suc count → ⊥
none_over symbols count none over = let zero_is : 0 ≡ suc count = sym (ap closings none) ∙ over in absurd (omega (arith, zero_is))

text_runs : (limits : Limits) (context : Context) (seen : List Seen) (symbols : List (Symbol Action)) (events : List (Event Action))
    (leads : Leads grammar symbols (atoms_of seen) events []) → IsSpaced grammar known symbols → EndWithToken symbols
    → Further limits context seen symbols (text_happenings leads seen)
text_runs limits context [] symbols events leads spaced ends None w waits =
    ap (λ hs. run limits context hs (next_comes w)) (sym (no_tokens leads))
text_runs limits context [] symbols events leads spaced ends (Some m) w waits =
    absurd (none_over symbols waits.0 (none_left leads ends) waits.1)
text_runs limits context (s ∷ seen) symbols events leads spaced ends d w waits =
    let f : First symbols (s.atom ∷ atoms_of seen) [] (λ x xs. text_happenings leads (x ∷ xs)) = first_by leads spaced ends in
    let on = f.1 in
    let now = taken grammar known s.atom symbols in
    let own = behind_token s.directive (closings now.left) s.behind in
    let others = behind_ends s.directive (closings now.left) (text_happenings on.leads seen) in
    let still_spaced = spaced_left grammar known language_is_decided s.atom (work known s.atom symbols) symbols f.0 spaced in
    let st = starts limits context d s own symbols others w waits in
    let acted_on = acted limits context s.token.place st.rest st.from in
    ap (λ (v : Compilation). next_comes (all_taken limits context seen now.left
    (directed limits s.directive (closings now.left) (passed s.behind (took_work context s.token v))))) st.acts
    ∙ (onward limits context seen now.left (text_happenings on.leads seen)
    (text_runs limits context seen now.left on.rest on.leads still_spaced on.ends) s.directive s.behind (took_work context s.token acted_on)
    (closings now.left) refl
    ∙ (ap (run limits context others) (actions_happen limits context s.token own st.rest st.from)
    ∙ (sym (run_then limits context (token_happenings s.token own st.rest) others st.from)
    ∙ (sym st.runs ∙ ap (λ hs. run limits context (behind_ends d (closings symbols) hs) (next_comes w)) (sym (on.are s seen))))))

texts_act : (limits : Limits) (seen : List Seen) (events : List (Event Action))
    (text : IsText grammar (Symbol.Rule piece_rule ∷ []) (atoms_of seen) events) (context : Context) (w : Compilation)
    → next_comes (all_taken limits context seen (Symbol.Rule piece_rule ∷ []) w) ≡ run limits context (text_happenings text seen)
    (next_comes w)
texts_act limits seen events text context w =
    text_runs limits context seen (Symbol.Rule piece_rule ∷ []) events text (rule_is_spaced piece_rule) pieces_end None w tt

-- Lemmas about whole pieces

turns_act : (limits : Limits) (sources : Sources) (o : Choices) (n : ℕ) (s : State) (m : Between) (t : SourceToken) (steps : List Step)
    (events : List (Event Action)) (text : IsText grammar (Symbol.Rule piece_rule ∷ []) (atoms_of (seen_in t steps)) events)
    → s.reading ≡ between Recovery.Reads → is_end t.kind ≡ false → AreQuiet limits sources o n s
    → all_steps limits sources o n s ≡ Passes m ∷ Reads (Kept t) ∷ steps → AllKept steps
    → next_comes (stepped limits o (silent_turned limits sources o n s)).work
    ≡ run limits (context_of o s) (text_happenings text (seen_in t steps)) (next_comes (work_begun (passed m s.work)))
turns_act limits sources o n s m t steps events text fresh is_no_end quiet all kept =
    let context = context_of o s in
    let law = texts_do_their_actions limits in
    let fit : AllFit limits context (Reads (Kept t) ∷ steps) (piece_first m s.work) =
    all_fit_by limits context (Reads (Kept t) ∷ steps) (piece_first m s.work) refl kept
    (law.fit piece_rule (seen_in t steps) events text) in
    ap next_comes (whole_piece limits sources o n s m t steps fresh is_no_end quiet all fit)
    ∙ texts_act limits (seen_in t steps) events text context (work_begun (passed m s.work))

pub pieces_do_their_actions : (limits : Limits) → PiecesDoTheirActions limits
pieces_do_their_actions limits = record {
  texts = texts_act limits;
  plain = λ seen events text none. plain_happenings text seen none;
  turns = turns_act limits;
}
