-- Turns do what comes next in a file.
use Rattle.std.proofs.Common.{◌≡◌, ◌⊎◌, inl, inr, ℕ, List, [], ◌∷◌, true, false, refl, sym, ◌∙◌, ap, subst, if◌then◌else◌}
use Rattle.inf_settings.specs.Bounds.{Limits}
use Rattle.inf_devices.specs.Files.{Sources}
use Rattle.inf_machine.specs.declared.symbols.Symbol.{Symbol}
use Rattle.inf_syntax.specs.declared.actions.Action.{Action}
use Rattle.inf_unit.specs.Tokens.{SourceToken, is_end}
use Rattle.inf_compilation.specs.{Actions.Compilation, Actions.piece_begun as work_begun, Context.Context}
use Rattle.inf_reader.specs.Reading.{ReaderState, between, judged, piece_begun, step}
use Rattle.inf_reader.specs.declared.recovery.Recovery.{Recovery}
use Rattle.inf_session.specs.Choices.{Choices}
use Rattle.inf_laws.specs.KeptTokens.{Kept}
use Rattle.inf_statement_laws.specs.Laid.{passed}
use Rattle.inf_program.specs.{SideTurns.position_of, SideTurns.stepped, Turns.steps_by}
use Rattle.inf_program.specs.definition.Steps.{Ends, Passes, Reads, Step}
use Rattle.inf_program.specs.definition.NextToken.{afresh, at_front, behind_at, steps_at}
use Rattle.inf_program.specs.definition.Fronts.{Front, PieceState, reached}
use Rattle.inf_program.specs.definition.BadPieces.{all_passed, all_skipped, cut_of, lands}
use Rattle.inf_program.specs.definition.Program.{Bad, BrokenOff, Conditional, FileEnd, FileEnds, Next, NoneGiven, Piece, front_passed}
use Rattle.inf_program.specs.definition.States.{State, context_of, followed, has_ended}
use Rattle.inf_program.proofs.{Events.not_ahead, Skipping.bad_walked, Skipping.skip_walked}
use Rattle.inf_program.proofs.Stepping.{Comes, comes_next, comes_same, comes_then, followed_over, stand, turn_lands}
use Rattle.inf_program.proofs.Walking.{IsAt, Walked, afresh_same, front_steps, front_walked, whole_is}

-- Turns lead from one state to another; or a fatal message ends reading there, but for the rest of a piece that is broken off.
pub record Done (limits : Limits) (sources : Sources) (o : Choices) (s t : State) : Type 0 where
  pub now : State
  pub comes : Comes limits sources o s now
  pub is : (now ≡ t) ⊎ ((now.work.report.counts.is_over ≡ true) × (afresh now ≡ t))

-- the next turn leads to a state
next_turn : (limits : Limits) (sources : Sources) (o : Choices) (s x t : State) → has_ended s ≡ false → stepped limits o s ≡ x
    → t ≡ followed sources o x → Done limits sources o s t
next_turn limits sources o s x t going is leads = record {
  now = followed sources o (stepped limits o s);
  comes = comes_next limits sources o s going;
  is = inl (ap (followed sources o) is ∙ sym leads);
}

-- Lemmas about a token that is not handed on

given_none : (limits : Limits) (context : Context) (steps : List Step) (m : Recovery) (w : Compilation) → NoneGiven steps
    → steps_by limits context steps (stand (between m) w) ≡ stand (between m) (all_passed steps w)
given_none limits context [] m w free = refl
given_none limits context (Passes b ∷ steps) m w free = given_none limits context steps m (passed b w) free
given_none limits context (Ends b ∷ steps) m w free =
    ap (λ (v : Compilation). steps_by limits context steps (stand (between m) (passed b v))) (not_ahead limits 0 w refl)
    ∙ given_none limits context steps m (passed b w) free
given_none limits context (Reads given ∷ steps) m w free = absurd free

pub conditional_is : (limits : Limits) (sources : Sources) (o : Choices) (s : State) → s.reading ≡ between Recovery.Reads
    → NoneGiven (steps_at limits o at_front s) → stepped limits o s ≡ front_passed limits o s
conditional_is limits sources o s fresh free =
    let c : Context = context_of o s in
    let w : Compilation = all_passed (steps_at limits o at_front s) s.work in
    turn_lands limits o s at_front (between Recovery.Reads) w (ap position_of fresh)
    (front_steps limits sources o s fresh ∙ given_none limits c (steps_at limits o at_front s) Recovery.Reads s.work free)
    ∙ ap (λ (q : State). behind_at o at_front w q) (afresh_same s fresh)

-- Lemmas about the end of a file

end_step : (limits : Limits) (context : Context) (t : SourceToken) (w : Compilation) → is_end t.kind ≡ true
    → step limits context t (between Recovery.Reads) w ≡ stand (between Recovery.Ended) w
end_step limits context t w is_the_end =
    ap (λ b. if b then stand (between Recovery.Ended) w else judged limits context t (piece_begun (between Recovery.Reads)) (work_begun w))
    is_the_end

pub file_end_is : (limits : Limits) (sources : Sources) (o : Choices) (s : State) → s.reading ≡ between Recovery.Reads → FileEnds limits o s
    → stepped limits o s ≡ record (front_passed limits o s) { reading = between Recovery.Ended }
file_end_is limits sources o s fresh e =
    let c : Context = context_of o s in
    let x : ReaderState = stand (between Recovery.Reads) s.work in
    let last : steps_by limits c (Passes e.effect ∷ Reads (Kept e.token) ∷ e.rest) x
    ≡ stand (between Recovery.Ended) (all_passed (Passes e.effect ∷ Reads (Kept e.token) ∷ e.rest) s.work) =
    ap (steps_by limits c e.rest) (end_step limits c e.token (passed e.effect s.work) e.is_the_end)
    ∙ given_none limits c e.rest Recovery.Ended (passed e.effect s.work) e.is_last in
    turn_lands limits o s at_front (between Recovery.Ended) (all_passed (steps_at limits o at_front s) s.work) (ap position_of fresh)
    (front_steps limits sources o s fresh
    ∙ subst (λ (steps : List Step). steps_by limits c steps x ≡ stand (between Recovery.Ended) (all_passed steps s.work))
    (sym e.steps) last)

-- Lemmas about pieces

piece_done : (limits : Limits) (sources : Sources) (o : Choices) (s t : State) → s.reading ≡ between Recovery.Reads → has_ended s ≡ false
    → (f : Front limits o s) → f.further ≡ [] → f.left ≡ [] → t ≡ followed sources o (reached f).state → Done limits sources o s t
piece_done limits sources o s t fresh going f whole empty leads =
    let m : PieceState = reached f in
    let w : Walked limits sources o f.further f.left m s = front_walked limits sources o s f fresh going in
    let same : w.now ≡ m.state = whole_is m w.now
    (subst (λ (left : List (Symbol Action)). IsAt [] left m w.now) empty
    (subst (λ (atoms : List ℕ). IsAt atoms f.left m w.now) whole w.is_at)) in
    record { now = followed sources o w.now; comes = w.comes; is = inl (ap (followed sources o) same ∙ sym leads) }

broken_done : (limits : Limits) (sources : Sources) (o : Choices) (s t : State) → s.reading ≡ between Recovery.Reads → has_ended s ≡ false
    → (f : Front limits o s) → (reached f).state.work.report.counts.is_over ≡ true → t ≡ (reached f).state → Done limits sources o s t
broken_done limits sources o s t fresh going f over leads =
    let m : PieceState = reached f in
    let w : Walked limits sources o f.further f.left m s = front_walked limits sources o s f fresh going in
    let is_over : w.now.work.report.counts.is_over ≡ true = ap (λ (q : State). q.work.report.counts.is_over) (sym w.is_at.same) ∙ over in
    record {
      now = w.now;
      comes = comes_then limits sources o s (followed sources o w.now) w.now w.comes
          (comes_same limits sources o (followed sources o w.now) w.now (followed_over sources o w.now is_over));
      is = inr (is_over, sym w.is_at.same ∙ sym leads);
    }

-- Lemmas about whatever comes next

pub next_done : (limits : Limits) (sources : Sources) (o : Choices) (s t : State) → s.reading ≡ between Recovery.Reads → has_ended s ≡ false
    → Next limits sources o s t → Done limits sources o s t
next_done limits sources o s t fresh going (Conditional free leads) =
    next_turn limits sources o s (front_passed limits o s) t going (conditional_is limits sources o s fresh free) leads
next_done limits sources o s t fresh going (Piece f whole empty leads) = piece_done limits sources o s t fresh going f whole empty leads
next_done limits sources o s t fresh going (BrokenOff f over leads) = broken_done limits sources o s t fresh going f over leads
next_done limits sources o s t fresh going (FileEnd e leads) =
    next_turn limits sources o s (record (front_passed limits o s) { reading = between Recovery.Ended }) t going
    (file_end_is limits sources o s fresh e) leads
next_done limits sources o s t fresh going (Bad b n all leads) = record {
  now = followed sources o (lands (all_skipped limits o n (cut_of b)));
  comes = comes_then limits sources o s (followed sources o (lands (cut_of b)))
      (followed sources o (lands (all_skipped limits o n (cut_of b))))
      (bad_walked limits sources o s b fresh going) (skip_walked limits sources o n (cut_of b) all);
  is = inl (sym leads);
}
