-- Turns through the front of a piece do what the events of its text say.
use Rattle.std.proofs.Common.{◌≡◌, ℕ, zero, suc, List, [], ◌∷◌, ◌++◌, ◌&&◌, false, refl, sym, ◌∙◌, ap, subst, if◌then◌else◌}
use Rattle.inf_settings.specs.Bounds.{Limits}
use Rattle.inf_devices.specs.Files.{Sources}
use Rattle.inf_machine.specs.declared.symbols.Symbol.{Symbol}
use Rattle.inf_syntax.specs.declared.actions.Action.{Action}
use Rattle.inf_unit.specs.Tokens.{SourceToken, is_end}
use Rattle.inf_compilation.specs.{Actions.Compilation, Actions.piece_begun as work_begun, Context.Context}
use Rattle.inf_conditional_sides.specs.Sides.{has_none}
use Rattle.inf_reader.specs.Reading.{Reading, ReaderState, between, is_mode_ended, judged, piece_begun, piece_rule, step}
use Rattle.inf_reader.specs.declared.recovery.Recovery.{Recovery}
use Rattle.inf_session.specs.Choices.{Choices}
use Rattle.inf_laws.specs.KeptTokens.{Kept}
use Rattle.inf_laws.proofs.KeptTokens.{no_token}
use Rattle.inf_statement_laws.specs.{Happenings.Between, Laid.passed}
use Rattle.inf_grammar.proofs.Spaced.{rule_is_spaced}
use Rattle.inf_program.specs.definition.Steps.{AllKept, Passes, Reads, Step}
use Rattle.inf_program.specs.Turns.{piece_first, step_by, steps_by}
use Rattle.inf_program.specs.definition.NextToken.{Position, afresh, at_front, steps_at, within}
use Rattle.inf_program.specs.definition.Fronts.{AllGoOn, Course, Derives, FirstKept, Front, IsOpen, PieceState, Progress, atoms_from}
use Rattle.inf_program.specs.definition.Fronts.{begun_piece, done_by, fresh_progress, kept_atoms, moved, piece_behind, reached, walked}
use Rattle.inf_program.specs.definition.States.{AsksNothing, State, context_of, followed, has_ended}
use Rattle.inf_program.specs.SideTurns.{IsQuietBySide, position_of, stand_of, stepped}
use Rattle.inf_program.proofs.{Events.Agrees, Events.InPiece, Events.steps_agree, Stacks.none_left, Stacks.piece_is_rest, Stacks.some_left}
use Rattle.inf_program.proofs.Stepping.{Comes, comes_next, comes_same, comes_then, followed_plainly, goes_on, position_within, stand}
use Rattle.inf_program.proofs.Stepping.{turn_behind, turn_steps}

-- A state of the reading, behind the token of a turn, is that of a piece of which these atoms are still to come, and these symbols are
-- left.
pub record IsAt (atoms : List ℕ) (left : List (Symbol Action)) (m : PieceState) (x : State) : Type 0 where
  pub same : m.state ≡ afresh x
  pub inside : InPiece m.tokens m.over atoms m.course left x.reading

-- Lemmas about a turn

turn_is_at : (limits : Limits) (o : Choices) (x : State) (at : Position) (p : Progress) (atoms : List ℕ)
    (left : List (Symbol Action))
    → position_of x.reading ≡ at → Agrees atoms left p (stand_of (stepped limits o x))
    → IsAt atoms left (piece_behind o at (afresh x) p) (stepped limits o x)
turn_is_at limits o x at p atoms left here a = record { same = sym (turn_behind limits o x at p.work here a.same); inside = a.inside }

within_is_at : (limits : Limits) (sources : Sources) (o : Choices) (x : State) (tokens : List SourceToken) (over : ℕ) (course : Course)
    (atoms : List ℕ) (left : List (Symbol Action))
    → InPiece tokens over (kept_atoms (steps_at limits o within (afresh x)) ++ atoms) course left x.reading
    → position_of x.reading ≡ within → AllKept (steps_at limits o within (afresh x))
    → IsAt atoms left (moved limits o (record { state = afresh x; tokens = tokens; over = over; course = course })) (stepped limits o x)
within_is_at limits sources o x tokens over course atoms left i here kept =
    let steps : List Step = steps_at limits o within (afresh x) in
    let start : Progress = record { tokens = tokens; over = over; course = course; work = x.work } in
    turn_is_at limits o x within (done_by limits (context_of o x) steps start) atoms left here
    (subst (λ (s : ReaderState). Agrees atoms left (done_by limits (context_of o x) steps start) s)
    (sym (turn_steps limits sources o x within here))
    (steps_agree limits (context_of o x) steps atoms left start (stand_of x) kept (record { same = refl; inside = i })))

-- within an open piece the next token comes within
pub is_within : (m : PieceState) (x : State) (atoms : List ℕ) (left : List (Symbol Action)) → IsAt atoms left m x → IsOpen left m
    → position_of x.reading ≡ within
is_within m x atoms left s is = position_within x.reading s.inside.at.reads (some_left s.inside.derives.leads is.has_more)

pub next_is_at : (limits : Limits) (sources : Sources) (o : Choices) (m : PieceState) (x : State) (atoms : List ℕ)
    (left : List (Symbol Action))
    → IsAt (kept_atoms (steps_at limits o within m.state) ++ atoms) left m x → IsOpen left m → AllKept (steps_at limits o within m.state)
    → IsAt atoms left (moved limits o m) (stepped limits o x)
next_is_at limits sources o m x atoms left s is kept =
    subst (λ (q : State). InPiece m.tokens m.over (kept_atoms (steps_at limits o within q) ++ atoms) m.course left x.reading
    → AllKept (steps_at limits o within q)
    → IsAt atoms left (moved limits o (record { state = q; tokens = m.tokens; over = m.over; course = m.course })) (stepped limits o x))
    (sym s.same)
    (λ i keep. within_is_at limits sources o x m.tokens m.over m.course atoms left i
    (is_within m x (kept_atoms (steps_at limits o within m.state) ++ atoms) left s is) keep)
    s.inside kept

-- behind a token of an open piece nothing else happens
pub quiet_at : (m : PieceState) (x : State) (atoms : List ℕ) (left : List (Symbol Action)) → IsAt atoms left m x → IsOpen left m →
    IsQuietBySide x
quiet_at m x atoms left s is = record {
  is_not_over = ap (λ (q : State). q.work.report.counts.is_over) (sym s.same) ∙ is.is_not_over;
  has_more = ap is_mode_ended s.inside.at.reads;
  asks_nothing = subst (λ (q : State). AsksNothing q) s.same is.asks_nothing;
  is_inside = ap (λ b. b && has_none x.sides.texts) (ap (λ (p : Position). p.is_front) (is_within m x atoms left s is));
}

pub going_at : (m : PieceState) (x : State) (atoms : List ℕ) (left : List (Symbol Action)) → IsAt atoms left m x → IsOpen left m
    → has_ended x ≡ false
going_at m x atoms left s is =
    goes_on x (ap (λ (q : State). q.is_over) (sym s.same) ∙ is.is_going) (quiet_at m x atoms left s is).is_not_over
    (quiet_at m x atoms left s is).has_more

-- the next turn of an open piece
pub comes_at : (limits : Limits) (sources : Sources) (o : Choices) (m : PieceState) (x : State) (atoms : List ℕ)
    (left : List (Symbol Action))
    → IsAt atoms left m x → IsOpen left m → Comes limits sources o (followed sources o x) (followed sources o (stepped limits o x))
comes_at limits sources o m x atoms left s is =
    comes_then limits sources o (followed sources o x) x (followed sources o (stepped limits o x))
    (comes_same limits sources o (followed sources o x) x (followed_plainly sources o x (quiet_at m x atoms left s is)))
    (comes_next limits sources o x (going_at m x atoms left s is))

-- Lemmas about turns

pub record Walked (limits : Limits) (sources : Sources) (o : Choices) (atoms : List ℕ) (left : List (Symbol Action)) (m : PieceState)
    (s : State) : Type 0
  where
    pub now : State
    pub comes : Comes limits sources o s (followed sources o now)
    pub is_at : IsAt atoms left m now

walk : (limits : Limits) (sources : Sources) (o : Choices) (n : ℕ) (atoms : List ℕ) (left : List (Symbol Action)) (m : PieceState)
    (x : State)
    → IsAt (atoms_from limits o n m atoms) left m x → AllGoOn limits o left n m
    → Walked limits sources o atoms left (walked limits o n m) (followed sources o x)
walk limits sources o zero atoms left m x s all = record {
  now = x;
  comes = comes_same limits sources o (followed sources o x) (followed sources o x) refl;
  is_at = s;
}
walk limits sources o (suc n) atoms left m x s all =
    let y : State = stepped limits o x in
    let m2 : PieceState = moved limits o m in
    let next : IsAt (atoms_from limits o n m2 atoms) left m2 y =
    next_is_at limits sources o m x (atoms_from limits o n m2 atoms) left s all.0.is_open all.0.are_kept in
    let w : Walked limits sources o atoms left (walked limits o n m2) (followed sources o y) =
    walk limits sources o n atoms left m2 y next all.1 in
    record {
      now = w.now;
      comes = comes_then limits sources o (followed sources o x) (followed sources o y) (followed sources o w.now)
          (comes_at limits sources o m x (atoms_from limits o (suc n) m atoms) left s all.0.is_open) w.comes;
      is_at = w.is_at;
    }

-- Lemmas about the first token

pub first_step : (limits : Limits) (context : Context) (t : SourceToken) (m : Between) (w : Compilation) → is_end t.kind ≡ false
    → step limits context t (between Recovery.Reads) (passed m w) ≡ step_by limits context (Reads (Kept t)) (piece_first m w)
first_step limits context t m w is_no_end =
    let ended : ReaderState = record { reading = between Recovery.Ended; work = passed m w } in
    ap (λ b. if b then ended else judged limits context t (piece_begun (between Recovery.Reads)) (work_begun (passed m w))) is_no_end

pub front_agrees : (limits : Limits) (context : Context) (m : Between) (t : SourceToken) (rest : List Step) (atoms : List ℕ)
    (left : List (Symbol Action)) (course : Course) (w : Compilation)
    → is_end t.kind ≡ false → AllKept (Passes m ∷ Reads (Kept t) ∷ rest)
    → Derives (Symbol.Rule piece_rule ∷ []) (kept_atoms (Passes m ∷ Reads (Kept t) ∷ rest) ++ atoms) course left
    → Agrees atoms left (done_by limits context (Passes m ∷ Reads (Kept t) ∷ rest) (fresh_progress course w))
    (steps_by limits context (Passes m ∷ Reads (Kept t) ∷ rest) (stand (between Recovery.Reads) w))
front_agrees limits context m t rest atoms left course w is_no_end kept text =
    let start : Progress = record { tokens = []; over = 0; course = course; work = work_begun (passed m w) } in
    subst (λ (x : ReaderState). Agrees atoms left (done_by limits context (Reads (Kept t) ∷ rest) start) (steps_by limits context rest x))
    (sym (first_step limits context t m w is_no_end))
    (steps_agree limits context (Reads (Kept t) ∷ rest) atoms left start (piece_first m w) kept (record {
      same = refl;
      inside = record { at = no_token; is_over = refl; spaced = rule_is_spaced piece_rule; derives = text; is_rest = piece_is_rest };
    }))

pub afresh_same : (s : State) → s.reading ≡ between Recovery.Reads → afresh s ≡ s
afresh_same s fresh = ap (λ (r : Reading). record s { reading = r }) (sym fresh)

-- the reading of a turn at the front of a piece, by its steps
pub front_steps : (limits : Limits) (sources : Sources) (o : Choices) (s : State) → s.reading ≡ between Recovery.Reads
    → stand_of (stepped limits o s)
    ≡ steps_by limits (context_of o s) (steps_at limits o at_front s) (stand (between Recovery.Reads) s.work)
front_steps limits sources o s fresh = turn_steps limits sources o s at_front (ap position_of fresh)
    ∙ ap (λ (r : Reading). steps_by limits (context_of o s) (steps_at limits o at_front s) (stand r s.work)) fresh

-- the state behind the first token of the file
pub begun_is_at : (limits : Limits) (sources : Sources) (o : Choices) (s : State) (course : Course) (atoms : List ℕ)
    (left : List (Symbol Action))
    → s.reading ≡ between Recovery.Reads → FirstKept limits o s → AllKept (steps_at limits o at_front s)
    → Derives (Symbol.Rule piece_rule ∷ []) (kept_atoms (steps_at limits o at_front s) ++ atoms) course left
    → IsAt atoms left (begun_piece limits o course s) (stepped limits o s)
begun_is_at limits sources o s course atoms left fresh b kept text =
    let c : Context = context_of o s in
    let start : Progress = fresh_progress course s.work in
    let done : Progress = done_by limits c (steps_at limits o at_front s) start in
    let by_steps : Agrees atoms left done (steps_by limits c (steps_at limits o at_front s) (stand (between Recovery.Reads) s.work)) =
    subst (λ (steps : List Step). AllKept steps
    → Derives (Symbol.Rule piece_rule ∷ []) (kept_atoms steps ++ atoms) course left
    → Agrees atoms left (done_by limits c steps start) (steps_by limits c steps (stand (between Recovery.Reads) s.work))) (sym b.steps)
    (front_agrees limits c b.effect b.token b.rest atoms left course s.work b.is_no_end) kept text in
    subst (λ (q : State). IsAt atoms left (piece_behind o at_front q done) (stepped limits o s)) (afresh_same s fresh)
    (turn_is_at limits o s at_front done atoms left (ap position_of fresh)
    (subst (λ (x : ReaderState). Agrees atoms left done x) (sym (front_steps limits sources o s fresh)) by_steps))

-- turns through a front
pub front_walked : (limits : Limits) (sources : Sources) (o : Choices) (s : State) (f : Front limits o s) →
    s.reading ≡ between Recovery.Reads
    → has_ended s ≡ false → Walked limits sources o f.further f.left (reached f) s
front_walked limits sources o s f fresh going =
    let x : State = stepped limits o s in
    let w : Walked limits sources o f.further f.left (reached f) (followed sources o x) =
    walk limits sources o f.more f.further f.left (begun_piece limits o f.course s) x
    (begun_is_at limits sources o s f.course (atoms_from limits o f.more (begun_piece limits o f.course s) f.further) f.left fresh f.begins
    f.are_kept f.derives)
    f.go_on in
    record {
      now = w.now;
      comes = comes_then limits sources o s (followed sources o x) (followed sources o w.now) (comes_next limits sources o s going) w.comes;
      is_at = w.is_at;
    }

-- behind a whole piece
pub whole_is : (m : PieceState) (x : State) → IsAt [] [] m x → x ≡ m.state
whole_is m x s =
    let empty : x.reading.stack ≡ [] = none_left x.reading.stack s.inside.derives.leads s.inside.is_rest in
    let reading : x.reading ≡ between Recovery.Reads = ap (λ m. record { mode = m; stack = x.reading.stack }) s.inside.at.reads
    ∙ ap (λ stack. record { mode = Recovery.Reads; stack = stack }) empty in
    sym (afresh_same x reading) ∙ sym s.same
