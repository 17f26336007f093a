-- Turns through a bad piece: the bad token cuts the piece, and the tokens behind it are passed over.
use Rattle.std.proofs.Common.{◌≡◌, ℕ, zero, suc, List, [], ◌∷◌, ◌++◌, ◌&&◌, map, cond, true, false, refl, sym, ◌∙◌, ap, subst, append-nil}
use Rattle.std.proofs.Common.{true≢false}
use Rattle.std.proofs.lemmas.Bool.{false_from_ne_true}
use Rattle.inf_settings.specs.Bounds.{Limits}
use Rattle.inf_devices.specs.Files.{Sources}
use Rattle.inf_machine.specs.{Machine.fits, declared.symbols.Symbol.Symbol}
use Rattle.inf_syntax.specs.declared.actions.Action.{Action}
use Rattle.inf_grammar.specs.{Brackets.is_bracket_open, Language.grammar, Language.known, Routines.is_in_routine, Sources.is_inside}
use Rattle.inf_unit.specs.Tokens.{SourceToken, atom_of}
use Rattle.inf_compilation.specs.{Actions.Compilation, Actions.piece_begun as work_begun, Context.Context}
use Rattle.inf_conditional_sides.specs.Sides.{has_none}
use Rattle.inf_reader.specs.{Handing.is_empty, Handing.skips, Handing.unfit_in, declared.recovery.Recovery.Recovery}
use Rattle.inf_reader.specs.Reading.{Reading, ReaderState, bad, between, is_mode_ended, passed as mode_behind, piece_begun, piece_rule}
use Rattle.inf_reader.specs.Reading.{skip_of}
use Rattle.inf_session.specs.Choices.{Choices}
use Rattle.inf_laws.specs.BadTokens.{skip_behind}
use Rattle.inf_laws.specs.KeptTokens.{Given, IsBad, Kept, Unfit, token_in, took_by}
use Rattle.inf_laws.proofs.{BadTokens.bracketed, KeptTokens.At, KeptTokens.begins, KeptTokens.goes, KeptTokens.no_token}
use Rattle.inf_statement_laws.specs.{Happenings.Between, Laid.passed}
use Rattle.inf_program.specs.definition.Steps.{Ends, Passes, Reads, Step}
use Rattle.inf_program.specs.Turns.{IsUnfit, step_by, steps_by}
use Rattle.inf_program.specs.definition.NextToken.{Position, at_front, behind_at, passed_over, steps_at, within}
use Rattle.inf_program.specs.definition.Fronts.{Derives, IsOpen, PieceState, Progress, done_by, fresh_progress, is_whole, kept_atoms, progress_of}
use Rattle.inf_program.specs.definition.Fronts.{reached}
use Rattle.inf_program.specs.definition.BadPieces.{AllSkipOn, AllSkipped, Alone, BadAlone, BadFirst, BadPiece, Behind, First, HandsOnBad, IsNoEnd}
use Rattle.inf_program.specs.definition.BadPieces.{SkipState, SkipsOn, all_passed, all_skipped, begun_by, cut_alone, cut_behind, cut_by}
use Rattle.inf_program.specs.definition.BadPieces.{cut_first, cut_in, cut_of, lands, skip_from, skipped_behind, skipped_on}
use Rattle.inf_program.specs.definition.States.{State, context_of, followed, has_ended}
use Rattle.inf_program.specs.SideTurns.{IsQuietBySide, position_of, stand_of, stepped}
use Rattle.inf_program.proofs.{Events.Agrees, Events.not_ahead, Events.steps_agree, Grouping.turns_take_tokens, Stacks.some_left}
use Rattle.inf_program.proofs.Stepping.{Comes, comes_next, comes_same, comes_then, followed_plainly, goes_on, stand, turn_lands, turn_steps}
use Rattle.inf_program.proofs.Walking.{IsAt, Walked, comes_at, first_step, front_agrees, front_steps, front_walked, is_within}

-- Lemmas about the bad token

pub skips_as : (tokens : List SourceToken) (r : Reading) → At tokens r → skip_of r.stack ≡ skip_behind (map atom_of tokens)
skips_as tokens r at =
    let left : is_in_routine r.stack ≡ is_bracket_open (map atom_of tokens) =
    ap is_in_routine (sym at.is_read.leaves) ∙ sym (ap is_inside at.is_read.is_read)
    ∙ bracketed (map atom_of tokens) (begins tokens r at) in
    ap (λ b. cond b Recovery.SkipsRoutine Recovery.SkipsDirective) left

cut_is : (limits : Limits) (context : Context) (t : SourceToken) (tokens : List SourceToken) (w : Compilation) (x : ReaderState)
    → At tokens x.reading → x.work ≡ w
    → bad limits context t x.reading x.work ≡ stand (between (skip_from tokens t)) (cut_by limits context t w)
cut_is limits context t tokens w x at same =
    ap (λ (m : Recovery). stand (between (mode_behind m t.kind)) (cut_by limits context t x.work)) (skips_as tokens x.reading at)
    ∙ ap (λ (v : Compilation). stand (between (skip_from tokens t)) (cut_by limits context t v)) same

bad_step : (limits : Limits) (context : Context) (given : Given) (tokens : List SourceToken) (w : Compilation) (x : ReaderState)
    → At tokens x.reading → is_empty x.reading.stack ≡ false → x.work ≡ w → IsBad tokens given
    → step_by limits context (Reads given) x
    ≡ stand (between (skip_from tokens (token_in given))) (cut_by limits context (token_in given) w)
bad_step limits context (Unfit t) tokens w x at inside same wrong =
    ap (λ (m : Recovery). unfit_in limits m context t x) at.reads ∙ cut_is limits context t tokens w x at same
bad_step limits context (Kept t) tokens w x at inside same wrong =
    let unfit : IsUnfit t x.reading = record {
      reads = at.reads;
      is_inside = inside;
      is_unfit = false_from_ne_true (fits grammar known (atom_of t) x.reading.stack) (λ fit.
          wrong (begins (tokens ++ t ∷ []) (took_by (atom_of t) x.reading) (goes tokens x.reading t at fit)));
    } in
    (turns_take_tokens limits).cut context t x unfit ∙ cut_is limits context t tokens w x at same

-- Lemmas about tokens that are passed over

skip_one : (limits : Limits) (context : Context) (given : Given) (skip : Recovery) (w : Compilation) → skips skip ≡ true
    → step_by limits context (Reads given) (stand (between skip) w) ≡ stand (between (mode_behind skip (token_in given).kind)) w
skip_one limits context (Kept t) Recovery.SkipsRoutine w e = refl
skip_one limits context (Kept t) Recovery.SkipsDirective w e = refl
skip_one limits context (Kept t) Recovery.Reads w e = absurd (true≢false (sym e))
skip_one limits context (Kept t) Recovery.Ended w e = absurd (true≢false (sym e))
skip_one limits context (Unfit t) Recovery.SkipsRoutine w e = refl
skip_one limits context (Unfit t) Recovery.SkipsDirective w e = refl
skip_one limits context (Unfit t) Recovery.Reads w e = absurd (true≢false (sym e))
skip_one limits context (Unfit t) Recovery.Ended w e = absurd (true≢false (sym e))

skip_steps : (limits : Limits) (context : Context) (steps : List Step) (skip : Recovery) (w : Compilation) → AllSkipped steps skip
    → steps_by limits context steps (stand (between skip) w) ≡ stand (between (skipped_behind steps skip)) (all_passed steps w)
skip_steps limits context [] skip w all = refl
skip_steps limits context (Passes m ∷ steps) skip w all = skip_steps limits context steps skip (passed m w) all
skip_steps limits context (Ends m ∷ steps) skip w all =
    ap (λ (v : Compilation). steps_by limits context steps (stand (between skip) (passed m v))) (not_ahead limits 0 w refl)
    ∙ skip_steps limits context steps skip (passed m w) all
skip_steps limits context (Reads given ∷ steps) skip w all = ap (steps_by limits context steps) (skip_one limits context given skip w all.0)
    ∙ skip_steps limits context steps (mode_behind skip (token_in given).kind) w all.1

steps_joined : (limits : Limits) (context : Context) (a b : List Step) (s : ReaderState)
    → steps_by limits context (a ++ b) s ≡ steps_by limits context b (steps_by limits context a s)
steps_joined limits context [] b s = refl
steps_joined limits context (x ∷ a) b s = steps_joined limits context a b (step_by limits context x s)

-- steps with the bad token among them
bad_steps : (limits : Limits) (context : Context) (before : List Step) (given : Given) (after : List Step) (atoms : List ℕ)
    (left : List (Symbol Action)) (done : Progress) (x : ReaderState)
    → Agrees atoms left done (steps_by limits context before x) → is_whole done.course.events left ≡ false → IsBad done.tokens given
    → AllSkipped after (skip_from done.tokens (token_in given))
    → steps_by limits context (before ++ Reads given ∷ after) x
    ≡ stand (between (skipped_behind after (skip_from done.tokens (token_in given))))
    (all_passed after (cut_by limits context (token_in given) done.work))
bad_steps limits context before given after atoms left done x a more wrong all =
    let y : ReaderState = steps_by limits context before x in
    steps_joined limits context before (Reads given ∷ after) x
    ∙ (ap (steps_by limits context after)
    (bad_step limits context given done.tokens done.work y a.inside.at (some_left a.inside.derives.leads more) a.same wrong)
    ∙ skip_steps limits context after (skip_from done.tokens (token_in given)) (cut_by limits context (token_in given) done.work) all)

-- Lemmas about the turn that hands on the bad token

pub bad_behind : (limits : Limits) (sources : Sources) (o : Choices) (m : PieceState) (x : State) (left : List (Symbol Action))
    (before : List Step) (given : Given) (after : List Step)
    → HandsOnBad limits o left within m.state (progress_of m) before given after → IsAt (kept_atoms before ++ []) left m x → IsOpen left m
    → stepped limits o x ≡ lands (cut_in limits o within m.state (progress_of m) before given after)
bad_behind limits sources o m x left before given after b s is =
    let c : Context = context_of o m.state in
    let done : Progress = done_by limits c before (progress_of m) in
    let skip : Recovery = skipped_behind after (skip_from done.tokens (token_in given)) in
    let w : Compilation = all_passed after (cut_by limits c (token_in given) done.work) in
    let here : position_of x.reading ≡ within = is_within m x (kept_atoms before ++ []) left s is in
    let start : Agrees (kept_atoms before ++ []) left (progress_of m) (stand_of x) =
    record { same = ap (λ (q : State). q.work) (sym s.same); inside = s.inside } in
    let steps : stand_of (stepped limits o x) ≡ stand (between skip) w = turn_steps limits sources o x within here
    ∙ (ap (λ (q : State). steps_by limits (context_of o q) (steps_at limits o within q) (stand_of x)) (sym s.same)
    ∙ (ap (λ (all : List Step). steps_by limits c all (stand_of x)) b.steps
    ∙ bad_steps limits c before given after [] left done (stand_of x)
    (steps_agree limits c before [] left (progress_of m) (stand_of x) b.are_kept start) b.has_more b.is_bad b.are_skipped)) in
    turn_lands limits o x within (between skip) w here steps
    ∙ ap (λ (q : State). record (behind_at o within w q) { reading = between skip }) (sym s.same)

pub bad_first : (limits : Limits) (sources : Sources) (o : Choices) (s : State) (f : BadFirst limits o s) →
    s.reading ≡ between Recovery.Reads
    → stepped limits o s ≡ lands (cut_first f)
bad_first limits sources o s f fresh =
    let c : Context = context_of o s in
    let before : List Step = Passes f.effect ∷ Reads (Kept f.token) ∷ f.rest in
    let start : Progress = fresh_progress f.course s.work in
    let done : Progress = done_by limits c before start in
    let skip : Recovery = skipped_behind f.after (skip_from done.tokens (token_in f.given)) in
    let w : Compilation = all_passed f.after (cut_by limits c (token_in f.given) done.work) in
    let x : ReaderState = stand (between Recovery.Reads) s.work in
    let agrees : Agrees [] f.left done (steps_by limits c before x) =
    front_agrees limits c f.effect f.token f.rest [] f.left f.course s.work f.is_no_end f.bad.are_kept
    (subst (λ (atoms : List ℕ). Derives (Symbol.Rule piece_rule ∷ []) atoms f.course f.left) (sym (append-nil (kept_atoms before)))
    f.derives) in
    turn_lands limits o s at_front (between skip) w (ap position_of fresh)
    (front_steps limits sources o s fresh
    ∙ (ap (λ (all : List Step). steps_by limits c all x) f.bad.steps
    ∙ bad_steps limits c before f.given f.after [] f.left done x agrees f.bad.has_more f.bad.is_bad f.bad.are_skipped))

-- a bad token alone
alone_step : (limits : Limits) (context : Context) (m : Between) (given : Given) (w : Compilation) → IsNoEnd given → IsBad [] given
    → step_by limits context (Reads given) (stand (between Recovery.Reads) (passed m w))
    ≡ stand (between (skip_from [] (token_in given))) (cut_by limits context (token_in given) (begun_by given (passed m w)))
alone_step limits context m (Unfit t) w no_end wrong = refl
alone_step limits context m (Kept t) w no_end wrong = first_step limits context t m w no_end
    ∙ bad_step limits context (Kept t) [] (work_begun (passed m w)) (stand (piece_begun (between Recovery.Reads)) (work_begun (passed m w)))
    no_token refl refl wrong

pub bad_alone : (limits : Limits) (sources : Sources) (o : Choices) (s : State) (b : BadAlone limits o s) →
    s.reading ≡ between Recovery.Reads
    → stepped limits o s ≡ lands (cut_alone b)
bad_alone limits sources o s b fresh =
    let c : Context = context_of o s in
    let skip : Recovery = skip_from [] (token_in b.given) in
    let cut : Compilation = cut_by limits c (token_in b.given) (begun_by b.given (passed b.effect s.work)) in
    let x : ReaderState = stand (between Recovery.Reads) s.work in
    turn_lands limits o s at_front (between (skipped_behind b.after skip)) (all_passed b.after cut) (ap position_of fresh)
    (front_steps limits sources o s fresh
    ∙ (ap (λ (all : List Step). steps_by limits c all x) b.steps
    ∙ (ap (steps_by limits c b.after) (alone_step limits c b.effect b.given s.work b.is_no_end b.is_bad)
    ∙ skip_steps limits c b.after skip cut b.are_skipped)))

-- the turns up to the bad token
pub bad_walked : (limits : Limits) (sources : Sources) (o : Choices) (s : State) (b : BadPiece limits o s) →
    s.reading ≡ between Recovery.Reads
    → has_ended s ≡ false → Comes limits sources o s (followed sources o (lands (cut_of b)))
bad_walked limits sources o s (Alone b) fresh going =
    comes_then limits sources o s (followed sources o (stepped limits o s)) (followed sources o (lands (cut_alone b)))
    (comes_next limits sources o s going)
    (comes_same limits sources o (followed sources o (stepped limits o s)) (followed sources o (lands (cut_alone b)))
    (ap (followed sources o) (bad_alone limits sources o s b fresh)))
bad_walked limits sources o s (First b) fresh going =
    comes_then limits sources o s (followed sources o (stepped limits o s)) (followed sources o (lands (cut_first b)))
    (comes_next limits sources o s going)
    (comes_same limits sources o (followed sources o (stepped limits o s)) (followed sources o (lands (cut_first b)))
    (ap (followed sources o) (bad_first limits sources o s b fresh)))
bad_walked limits sources o s (Behind b) fresh going =
    let m : PieceState = reached b.front in
    let w : Walked limits sources o b.front.further b.front.left m s = front_walked limits sources o s b.front fresh going in
    let now : State = w.now in
    let at : IsAt (kept_atoms b.before ++ []) b.front.left m now =
    subst (λ (atoms : List ℕ). IsAt atoms b.front.left m now) (b.is_further ∙ sym (append-nil (kept_atoms b.before))) w.is_at in
    let one : Comes limits sources o (followed sources o now) (followed sources o (stepped limits o now)) =
    comes_at limits sources o m now (kept_atoms b.before ++ []) b.front.left at b.is_open in
    let two : Comes limits sources o (followed sources o (stepped limits o now)) (followed sources o (lands (cut_behind b))) =
    comes_same limits sources o (followed sources o (stepped limits o now)) (followed sources o (lands (cut_behind b)))
    (ap (followed sources o) (bad_behind limits sources o m now b.front.left b.before b.given b.after b.bad at b.is_open)) in
    comes_then limits sources o s (followed sources o now) (followed sources o (lands (cut_behind b))) w.comes
    (comes_then limits sources o (followed sources o now) (followed sources o (stepped limits o now))
    (followed sources o (lands (cut_behind b))) one two)

-- Lemmas about turns that pass tokens over

pub position_skips : (skip : Recovery) → skips skip ≡ true → position_of (between skip) ≡ passed_over
position_skips Recovery.SkipsRoutine e = refl
position_skips Recovery.SkipsDirective e = refl
position_skips Recovery.Reads e = absurd (true≢false (sym e))
position_skips Recovery.Ended e = absurd (true≢false (sym e))

skips_not_ended : (skip : Recovery) → skips skip ≡ true → is_mode_ended skip ≡ false
skips_not_ended Recovery.SkipsRoutine e = refl
skips_not_ended Recovery.SkipsDirective e = refl
skips_not_ended Recovery.Reads e = refl
skips_not_ended Recovery.Ended e = absurd (true≢false (sym e))

pub skip_turn : (limits : Limits) (sources : Sources) (o : Choices) (k : SkipState) → SkipsOn limits o k
    → stepped limits o (lands k) ≡ lands (skipped_on limits o k)
skip_turn limits sources o k on =
    let steps : List Step = steps_at limits o passed_over k.state in
    let here : position_of (lands k).reading ≡ passed_over = position_skips k.skip on.skips_more in
    turn_lands limits o (lands k) passed_over (between (skipped_behind steps k.skip)) (all_passed steps k.state.work) here
    (turn_steps limits sources o (lands k) passed_over here
    ∙ skip_steps limits (context_of o k.state) steps k.skip k.state.work on.are_skipped)

skip_quiet : (limits : Limits) (o : Choices) (k : SkipState) → SkipsOn limits o k → IsQuietBySide (lands k)
skip_quiet limits o k on = record {
  is_not_over = on.is_not_over;
  has_more = skips_not_ended k.skip on.skips_more;
  asks_nothing = on.asks_nothing;
  is_inside = ap (λ b. b && has_none k.state.sides.texts) (ap (λ (p : Position). p.is_front) (position_skips k.skip on.skips_more));
}

pub skip_walked : (limits : Limits) (sources : Sources) (o : Choices) (n : ℕ) (k : SkipState) → AllSkipOn limits o n k
    → Comes limits sources o (followed sources o (lands k)) (followed sources o (lands (all_skipped limits o n k)))
skip_walked limits sources o zero k all = comes_same limits sources o (followed sources o (lands k)) (followed sources o (lands k)) refl
skip_walked limits sources o (suc n) k all =
    let k2 : SkipState = skipped_on limits o k in
    let x : State = lands k in
    let last : State = followed sources o (lands (all_skipped limits o n k2)) in
    let quiet : IsQuietBySide x = skip_quiet limits o k all.0 in
    let going : has_ended x ≡ false = goes_on x all.0.is_going all.0.is_not_over quiet.has_more in
    let rest : Comes limits sources o (followed sources o (lands k2)) last = skip_walked limits sources o n k2 all.1 in
    let there : Comes limits sources o (followed sources o (stepped limits o x)) last =
    comes_then limits sources o (followed sources o (stepped limits o x)) (followed sources o (lands k2)) last
    (comes_same limits sources o (followed sources o (stepped limits o x)) (followed sources o (lands k2))
    (ap (followed sources o) (skip_turn limits sources o k all.0)))
    rest in
    comes_then limits sources o (followed sources o x) x last
    (comes_same limits sources o (followed sources o x) x (followed_plainly sources o x quiet))
    (comes_then limits sources o x (followed sources o (stepped limits o x)) last (comes_next limits sources o x going) there)
