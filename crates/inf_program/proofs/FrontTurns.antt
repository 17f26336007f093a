-- Turns from a state between two pieces are the front of a piece, and what comes behind it.
use Rattle.std.proofs.Common.{◌≡◌, ℕ, List, [], ◌∷◌, ◌++◌, ◌||◌, Bool, true, false, refl, sym, ◌∙◌, ap, subst, append-nil, true≢false}
use Rattle.inf_settings.specs.Bounds.{Limits}
use Rattle.inf_devices.specs.Files.{Sources}
use Rattle.inf_machine.specs.{Grammar.Event, Grammar.Leads, Grammar.here, declared.symbols.Symbol.Symbol}
use Rattle.inf_syntax.specs.declared.actions.Action.{Action}
use Rattle.inf_grammar.specs.Language.{grammar}
use Rattle.inf_unit.specs.Tokens.{SourceToken, is_end}
use Rattle.inf_compilation.specs.{Actions.piece_begun as work_begun, Context.Context}
use Rattle.inf_reader.specs.{Handing.is_between, Handing.is_empty, declared.recovery.Recovery.Recovery}
use Rattle.inf_reader.specs.Reading.{Reading, ReaderState, between, is_mode_ended, passed as mode_behind, piece_begun, piece_rule, skip_of}
use Rattle.inf_session.specs.Choices.{Choices}
use Rattle.inf_laws.specs.KeptTokens.{Given, IsBad, Kept, Unfit, token_in}
use Rattle.inf_laws.proofs.KeptTokens.{At, no_token, stops}
use Rattle.inf_statement_laws.specs.Happenings.{Between}
use Rattle.inf_grammar.proofs.Spaced.{rule_is_spaced}
use Rattle.inf_program.specs.{Turns.AllFit, Turns.steps_by, definition.Program.BrokenOff, definition.Program.Next, definition.Program.Piece}
use Rattle.inf_program.specs.definition.Steps.{AllKept, Passes, Reads, Step}
use Rattle.inf_program.specs.definition.NextToken.{afresh, at_front, steps_at, within}
use Rattle.inf_program.specs.definition.Fronts.{Course, Derives, FirstKept, Front, IsOpen, PieceState, Progress, begun_piece, done_by}
use Rattle.inf_program.specs.definition.Fronts.{fresh_progress, kept_atoms, progress_of, reached}
use Rattle.inf_program.specs.definition.BadPieces.{AllSkipped, Alone, BadAlone, BadFirst, BadPiece, Behind, First, HandsOnBad, IsNoEnd}
use Rattle.inf_program.specs.definition.BadPieces.{cut_of, lands, skip_from}
use Rattle.inf_program.specs.definition.States.{State, context_of, followed, has_ended}
use Rattle.inf_program.specs.SideTurns.{IsQuietBySide, side_turned, stand_of, stepped, side_steps}
use Rattle.inf_program.proofs.{Events.Agrees, Events.course_of, Events.steps_agree, Shapes.Misfits, Shapes.behind_kept, Skipping.bad_alone}
use Rattle.inf_program.proofs.{Skipping.bad_behind, Skipping.bad_first, Skipping.skips_as, Stacks.piece_is_rest, Stepping.stand}
use Rattle.inf_program.proofs.Forward.{FitTurns, Forward, Led, fit_leads, forward, is_open_at, kept_of, later_steps, more_left, same_steps}
use Rattle.inf_program.proofs.Forward.{some_at_hand, turns_lead}
use Rattle.inf_program.proofs.Walking.{IsAt, begun_is_at, first_step, front_steps, whole_is}

-- Lemmas about the first turn

-- the reading of a piece before its first token
abbrev pub piece_start : State → ReaderState
piece_start s = stand (piece_begun (between Recovery.Reads)) (work_begun s.work)

-- Behind a state between two pieces the first token of the file hands on tokens that fit.
pub record FirstFit (limits : Limits) (o : Choices) (s : State) : Type 0 where
  pub begins : FirstKept limits o s
  pub is_fresh : s.reading ≡ between Recovery.Reads
  pub is_going : has_ended s ≡ false
  pub are_fit : AllFit limits (context_of o s) (steps_at limits o at_front s) (piece_start s)

-- steps that begin with the first token of a piece come to the piece that begins
begun_steps : (limits : Limits) (context : Context) (m : Between) (t : SourceToken) (rest : List Step) (s : State) → is_end t.kind ≡ false
    → steps_by limits context (Passes m ∷ Reads (Kept t) ∷ rest) (stand (between Recovery.Reads) s.work)
    ≡ steps_by limits context (Passes m ∷ Reads (Kept t) ∷ rest) (piece_start s)
begun_steps limits context m t rest s no_end = ap (steps_by limits context rest) (first_step limits context t m s.work no_end)

pub first_steps : (limits : Limits) (sources : Sources) (o : Choices) (s : State) → s.reading ≡ between Recovery.Reads →
    FirstKept limits o s
    → stand_of (stepped limits o s) ≡ steps_by limits (context_of o s) (steps_at limits o at_front s) (piece_start s)
first_steps limits sources o s fresh b = front_steps limits sources o s fresh
    ∙ subst (λ (steps : List Step). steps_by limits (context_of o s) steps (stand (between Recovery.Reads) s.work)
    ≡ steps_by limits (context_of o s) steps (piece_start s)) (sym b.steps)
    (begun_steps limits (context_of o s) b.effect b.token b.rest s b.is_no_end)

-- Lemmas about a front

pub record IsFront (limits : Limits) (sources : Sources) (o : Choices) (n : ℕ) (s : State) (further : List ℕ) (left : List (Symbol Action))
    : Type 0
  where
    pub front : Front limits o s
    pub is_further : front.further ≡ further
    pub is_left : front.left ≡ left
    pub at_end : IsAt further left (reached front) (stepped limits o (side_turned limits sources o n s))

first_of_two : (a b : Bool) → (a || b) ≡ false → a ≡ false
first_of_two true b e = absurd (true≢false e)
first_of_two false b e = refl

pub not_over : (s : State) → has_ended s ≡ false → s.is_over ≡ false
not_over s going = first_of_two s.is_over (s.work.report.counts.is_over || is_mode_ended s.reading.mode) going

pub front_of : (limits : Limits) (sources : Sources) (o : Choices) (n : ℕ) (s : State) (further : List ℕ) (events : List (Event Action))
    (left : List (Symbol Action))
    → FirstFit limits o s → FitTurns limits sources o n s
    → Leads grammar (stepped limits o (side_turned limits sources o n s)).reading.stack further events left
    → IsFront limits sources o n s further left
front_of limits sources o n s further events left f all l =
    let c : Context = context_of o s in
    let a : List Step = steps_at limits o at_front s in
    let b : List Step = later_steps limits sources o n s in
    let r : Led b further (stepped limits o s).reading.stack left = turns_lead limits sources o n s further events left all l in
    let there : Leads grammar (steps_by limits c a (piece_start s)).reading.stack (kept_atoms b ++ further) r.events left =
    subst (λ (x : ReaderState). Leads grammar x.reading.stack (kept_atoms b ++ further) r.events left)
    (first_steps limits sources o s f.is_fresh f.begins) r.leads in
    let w : Led a (kept_atoms b ++ further) (Symbol.Rule piece_rule ∷ []) left =
    fit_leads limits c a (piece_start s) (kept_atoms b ++ further) r.events left f.are_fit there in
    let kept : AllKept a = kept_of limits c a (piece_start s) f.are_fit in
    let course : Course = course_of w.leads in
    let derives : Derives (Symbol.Rule piece_rule ∷ []) (kept_atoms a ++ (kept_atoms b ++ further)) course left =
    record { leads = w.leads; are_ends = refl } in
    let start : PieceState = begun_piece limits o course s in
    let z : Forward limits sources o n start s further left = forward limits sources o n start s further left all
    (begun_is_at limits sources o s course (kept_atoms b ++ further) left f.is_fresh f.begins kept derives)
    (not_over s f.is_going) in
    record {
      front = record {
        more = n;
        course = course;
        further = further;
        left = left;
        begins = f.begins;
        are_kept = kept;
        go_on = z.go_on;
        derives = subst (λ (xs : List ℕ). Derives (Symbol.Rule piece_rule ∷ []) (kept_atoms a ++ xs) course left) (sym z.atoms) derives;
      };
      is_further = refl;
      is_left = refl;
      at_end = z.at_end;
    }

-- Lemmas about a whole piece, and one that is broken off

pub whole_next : (limits : Limits) (sources : Sources) (o : Choices) (n : ℕ) (s : State) → FirstFit limits o s
    → FitTurns limits sources o n s → (stepped limits o (side_turned limits sources o n s)).reading ≡ between Recovery.Reads
    → Next limits sources o s (followed sources o (stepped limits o (side_turned limits sources o n s)))
whole_next limits sources o n s first all reading =
    let z : State = stepped limits o (side_turned limits sources o n s) in
    let f : IsFront limits sources o n s [] [] = front_of limits sources o n s [] [] [] first all
    (subst (λ (r : Reading). Leads grammar r.stack [] [] []) (sym reading) here) in
    Piece f.front f.is_further f.is_left (ap (followed sources o) (whole_is (reached f.front) z f.at_end))

pub broken_next : (limits : Limits) (sources : Sources) (o : Choices) (n : ℕ) (s : State) → FirstFit limits o s
    → FitTurns limits sources o n s → (stepped limits o (side_turned limits sources o n s)).work.report.counts.is_over ≡ true
    → Next limits sources o s (afresh (stepped limits o (side_turned limits sources o n s)))
broken_next limits sources o n s first all over =
    let z : State = stepped limits o (side_turned limits sources o n s) in
    let f : IsFront limits sources o n s [] z.reading.stack = front_of limits sources o n s [] [] z.reading.stack first all here in
    BrokenOff f.front (ap (λ (y : State). y.work.report.counts.is_over) f.at_end.same ∙ over) (sym f.at_end.same)

-- Lemmas about bad tokens

bad_by : (given : Given) (tokens : List SourceToken) (r : Reading) → At tokens r → Misfits given r.stack → IsBad tokens given
bad_by (Kept t) tokens r at out = stops tokens r t at out
bad_by (Unfit t) tokens r at out = tt

-- the bad piece of turns, and the state behind its bad token
pub record BadRead (limits : Limits) (o : Choices) (s x : State) : Type 0 where
  pub bad : BadPiece limits o s
  pub same : x ≡ lands (cut_of bad)

skipped_by : (tokens : List SourceToken) (r : Reading) (given : Given) (after : List Step) → At tokens r
    → AllSkipped after (mode_behind (skip_of r.stack) (token_in given).kind) → AllSkipped after (skip_from tokens (token_in given))
skipped_by tokens r given after at all =
    subst (λ (m : Recovery). AllSkipped after (mode_behind m (token_in given).kind)) (skips_as tokens r at) all

-- a bad token behind a front
pub hands_on : (limits : Limits) (o : Choices) (m : PieceState) (z : State) (left : List (Symbol Action)) (before : List Step)
    (given : Given) (after : List Step)
    → IsAt (kept_atoms before ++ []) left m z → is_empty z.reading.stack ≡ false → side_steps limits o z ≡ before ++ Reads given ∷ after
    → AllFit limits (context_of o z) before (stand_of z)
    → is_empty (steps_by limits (context_of o z) before (stand_of z)).reading.stack ≡ false
    → Misfits given (steps_by limits (context_of o z) before (stand_of z)).reading.stack
    → AllSkipped after (mode_behind (skip_of (steps_by limits (context_of o z) before (stand_of z)).reading.stack) (token_in given).kind)
    → HandsOnBad limits o left within m.state (progress_of m) before given after
hands_on limits o m z left before given after s some steps fit more out skip =
    let same : context_of o z ≡ context_of o m.state = ap (context_of o) (sym s.same) in
    let c : Context = context_of o m.state in
    let y : ReaderState = steps_by limits c before (stand_of z) in
    let kept : AllKept before = kept_of limits (context_of o z) before (stand_of z) fit in
    let start : Agrees (kept_atoms before ++ []) left (progress_of m) (stand_of z) =
    record { same = ap (λ (q : State). q.work) (sym s.same); inside = s.inside } in
    let a : Agrees [] left (done_by limits c before (progress_of m)) y =
    steps_agree limits c before [] left (progress_of m) (stand_of z) kept start in
    let more2 : is_empty y.reading.stack ≡ false =
    subst (λ (x : Context). is_empty (steps_by limits x before (stand_of z)).reading.stack ≡ false) same more in
    let out2 : Misfits given y.reading.stack =
    subst (λ (x : Context). Misfits given (steps_by limits x before (stand_of z)).reading.stack) same out in
    let skip2 : AllSkipped after (mode_behind (skip_of y.reading.stack) (token_in given).kind) = subst (λ (x : Context). AllSkipped after
    (mode_behind (skip_of (steps_by limits x before (stand_of z)).reading.stack) (token_in given).kind)) same skip in
    record {
      steps = sym (same_steps limits o m z (kept_atoms before ++ []) left s some) ∙ steps;
      are_kept = kept;
      has_more = more_left y.reading.stack [] (done_by limits c before (progress_of m)).course.events left a.inside.derives.leads
          a.inside.is_rest more2;
      is_bad = bad_by given (done_by limits c before (progress_of m)).tokens y.reading a.inside.at out2;
      are_skipped = skipped_by (done_by limits c before (progress_of m)).tokens y.reading given after a.inside.at skip2;
    }

pub bad_read : (limits : Limits) (sources : Sources) (o : Choices) (n : ℕ) (s : State) (before : List Step) (given : Given)
    (after : List Step)
    → FirstFit limits o s → FitTurns limits sources o n s
    → let z = stepped limits o (side_turned limits sources o n s) in
    IsQuietBySide z → is_between z.reading ≡ false → z.is_over ≡ false → side_steps limits o z ≡ before ++ Reads given ∷ after
    → AllFit limits (context_of o z) before (stand_of z)
    → is_empty (steps_by limits (context_of o z) before (stand_of z)).reading.stack ≡ false
    → Misfits given (steps_by limits (context_of o z) before (stand_of z)).reading.stack
    → AllSkipped after (mode_behind (skip_of (steps_by limits (context_of o z) before (stand_of z)).reading.stack) (token_in given).kind)
    → BadRead limits o s (stepped limits o z)
bad_read limits sources o n s before given after first all quiet inside going steps fit more out skip =
    let z : State = stepped limits o (side_turned limits sources o n s) in
    let left : List (Symbol Action) = (steps_by limits (context_of o z) before (stand_of z)).reading.stack in
    let l : Led before [] z.reading.stack left = fit_leads limits (context_of o z) before (stand_of z) [] [] left fit here in
    let f : IsFront limits sources o n s (kept_atoms before ++ []) left =
    front_of limits sources o n s (kept_atoms before ++ []) l.events left first all l.leads in
    let m : PieceState = reached f.front in
    let some : is_empty z.reading.stack ≡ false = some_at_hand z.reading f.at_end.inside.at.reads inside in
    let hands : HandsOnBad limits o left within m.state (progress_of m) before given after =
    hands_on limits o m z left before given after f.at_end some steps fit more out skip in
    let is : IsOpen left m = is_open_at m z (kept_atoms before ++ []) left f.at_end quiet going some in
    record {
      bad = Behind (record {
        front = f.front;
        before = before;
        given = given;
        after = after;
        is_open = subst (λ (xs : List (Symbol Action)). IsOpen xs m) (sym f.is_left) is;
        bad = subst (λ (xs : List (Symbol Action)). HandsOnBad limits o xs within m.state (progress_of m) before given after)
            (sym f.is_left) hands;
        is_further = f.is_further ∙ append-nil (kept_atoms before);
      });
      same = bad_behind limits sources o m z left before given after hands f.at_end is;
    }

-- a bad token behind a kept one of the first turn
pub first_bad : (limits : Limits) (sources : Sources) (o : Choices) (s : State) (m : Between) (h : SourceToken) (given : Given)
    (after : List Step)
    → s.reading ≡ between Recovery.Reads → steps_at limits o at_front s ≡ Passes m ∷ Reads (Kept h) ∷ Reads given ∷ after
    → is_end h.kind ≡ false → AllFit limits (context_of o s) (Passes m ∷ Reads (Kept h) ∷ []) (piece_start s)
    → is_empty (behind_kept limits (context_of o s) m h (piece_start s)).reading.stack ≡ false
    → Misfits given (behind_kept limits (context_of o s) m h (piece_start s)).reading.stack
    → AllSkipped after
    (mode_behind (skip_of (behind_kept limits (context_of o s) m h (piece_start s)).reading.stack) (token_in given).kind)
    → BadRead limits o s (stepped limits o s)
first_bad limits sources o s m h given after fresh steps no_end fit more out skip =
    let c : Context = context_of o s in
    let before : List Step = Passes m ∷ Reads (Kept h) ∷ [] in
    let y : ReaderState = behind_kept limits c m h (piece_start s) in
    let l : Led before [] (Symbol.Rule piece_rule ∷ []) y.reading.stack =
    fit_leads limits c before (piece_start s) [] [] y.reading.stack fit here in
    let course : Course = course_of l.leads in
    let start : Progress = fresh_progress course s.work in
    let a : Agrees [] y.reading.stack (done_by limits c before start) y =
    steps_agree limits c before [] y.reading.stack start (piece_start s) tt (record {
      same = refl;
      inside = record {
        at = no_token;
        is_over = refl;
        spaced = rule_is_spaced piece_rule;
        derives = record { leads = l.leads; are_ends = refl };
        is_rest = piece_is_rest;
      };
    }) in
    let b : BadFirst limits o s = record {
      course = course;
      left = y.reading.stack;
      effect = m;
      token = h;
      rest = [];
      given = given;
      after = after;
      bad = record {
        steps = steps;
        are_kept = tt;
        has_more = more_left y.reading.stack [] (done_by limits c before start).course.events y.reading.stack a.inside.derives.leads
            a.inside.is_rest more;
        is_bad = bad_by given (done_by limits c before start).tokens y.reading a.inside.at out;
        are_skipped = skipped_by (done_by limits c before start).tokens y.reading given after a.inside.at skip;
      };
      is_no_end = no_end;
      derives = record { leads = l.leads; are_ends = refl };
    } in
    record { bad = First b; same = bad_first limits sources o s b fresh }

-- a bad token that is handed on first
pub alone_bad : (limits : Limits) (sources : Sources) (o : Choices) (s : State) (m : Between) (given : Given) (after : List Step)
    → s.reading ≡ between Recovery.Reads → steps_at limits o at_front s ≡ Passes m ∷ Reads given ∷ after → IsNoEnd given
    → Misfits given (piece_start s).reading.stack
    → AllSkipped after (mode_behind (skip_of (piece_start s).reading.stack) (token_in given).kind) → BadRead limits o s (stepped limits o s)
alone_bad limits sources o s m given after fresh steps no_end out skip =
    let b : BadAlone limits o s = record {
      effect = m;
      given = given;
      after = after;
      steps = steps;
      is_no_end = no_end;
      is_bad = bad_by given [] (piece_start s).reading no_token out;
      are_skipped = skip;
    } in
    record { bad = Alone b; same = bad_alone limits sources o s b fresh }
