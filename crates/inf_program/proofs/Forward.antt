-- Turns that read tokens which fit are the front of a piece.
use Rattle.std.proofs.Common.{◌≡◌, ℕ, zero, suc, List, [], ◌∷◌, ◌++◌, ◌&&◌, Bool, true, false, refl, sym, ◌∙◌, ap, subst, arith, true≢false}
use Rattle.inf_settings.specs.Bounds.{Limits}
use Rattle.inf_devices.specs.Files.{Sources}
use Rattle.inf_machine.specs.{Machine.Taken, Machine.events_of, Machine.taken, Machine.work, declared.symbols.Symbol.Symbol}
use Rattle.inf_machine.specs.Grammar.{Event, IsText, Leads, here, row}
use Rattle.inf_machine.proofs.Taking.{leads_on}
use Rattle.inf_syntax.specs.declared.actions.Action.{Action}
use Rattle.inf_grammar.specs.{Evaluated.language_is_decided, Language.grammar, Language.known}
use Rattle.inf_unit.specs.Tokens.{atom_of}
use Rattle.inf_compilation.specs.Context.{Context}
use Rattle.inf_reader.specs.{Reading.ReaderState, Reading.Reading, declared.recovery.Recovery.Recovery}
use Rattle.inf_reader.specs.Handing.{is_between, is_empty, reads}
use Rattle.inf_session.specs.Choices.{Choices}
use Rattle.inf_laws.specs.KeptTokens.{Kept, Unfit}
use Rattle.inf_program.specs.definition.Steps.{AllKept, Ends, Passes, Reads, Step}
use Rattle.inf_program.specs.Turns.{AllFit, step_by, steps_by}
use Rattle.inf_program.specs.definition.NextToken.{Position, afresh, steps_at, within}
use Rattle.inf_program.specs.definition.Fronts.{AllGoOn, IsOpen, PieceState, are_over, atoms_from, is_whole, kept_atoms, moved, walked}
use Rattle.inf_program.specs.definition.States.{AsksNothing, State, context_of}
use Rattle.inf_program.specs.SideTurns.{IsQuietBySide, side_turn, side_turned, stand_of, stepped, side_steps}
use Rattle.inf_program.proofs.{Grouping.step_fit, Stacks.IsRest, Stacks.none_left, Stepping.followed_plainly, Stepping.position_within}
use Rattle.inf_program.proofs.{Walking.IsAt, Walking.next_is_at}

-- Tokens that fit lead on.

pub record Led (steps : List Step) (atoms : List ℕ) (symbols left : List (Symbol Action)) : Type 0 where
  pub events : List (Event Action)
  pub leads : Leads grammar symbols (kept_atoms steps ++ atoms) events left

pub fit_leads : (limits : Limits) (context : Context) (steps : List Step) (s : ReaderState) (atoms : List ℕ) (events : List (Event Action))
    (left : List (Symbol Action))
    → AllFit limits context steps s → Leads grammar (steps_by limits context steps s).reading.stack atoms events left
    → Led steps atoms s.reading.stack left
fit_leads limits context [] s atoms events left fit l = record { events = events; leads = l }
fit_leads limits context (Passes m ∷ steps) s atoms events left fit l =
    let r : Led steps atoms s.reading.stack left =
    fit_leads limits context steps (step_by limits context (Passes m) s) atoms events left fit l in
    record { events = r.events; leads = r.leads }
fit_leads limits context (Ends m ∷ steps) s atoms events left fit l =
    let r : Led steps atoms s.reading.stack left =
    fit_leads limits context steps (step_by limits context (Ends m) s) atoms events left fit l in
    record { events = r.events; leads = r.leads }
fit_leads limits context (Reads (Unfit t) ∷ steps) s atoms events left fit l = absurd fit
fit_leads limits context (Reads (Kept t) ∷ steps) s atoms events left fit l =
    let stack : List (Symbol Action) = s.reading.stack in
    let n : Taken Action = taken grammar known (atom_of t) stack in
    let r : Led steps atoms (step_by limits context (Reads (Kept t)) s).reading.stack left =
    fit_leads limits context steps (step_by limits context (Reads (Kept t)) s) atoms events left fit.1 l in
    let there : Leads grammar n.left (kept_atoms steps ++ atoms) r.events left =
    subst (λ (x : ReaderState). Leads grammar x.reading.stack (kept_atoms steps ++ atoms) r.events left)
    (step_fit limits context t s.reading s.work fit.0) r.leads in
    record {
      events = events_of n.actions (atom_of t) ++ r.events;
      leads = leads_on grammar known language_is_decided (atom_of t) (work known (atom_of t) stack) stack (omega arith) fit.0.is_fit there;
    }

pub kept_of : (limits : Limits) (context : Context) (steps : List Step) (s : ReaderState) → AllFit limits context steps s → AllKept steps
kept_of limits context [] s fit = tt
kept_of limits context (Passes m ∷ steps) s fit = kept_of limits context steps (step_by limits context (Passes m) s) fit
kept_of limits context (Ends m ∷ steps) s fit = kept_of limits context steps (step_by limits context (Ends m) s) fit
kept_of limits context (Reads (Unfit t) ∷ steps) s fit = absurd fit
kept_of limits context (Reads (Kept t) ∷ steps) s fit = kept_of limits context steps (step_by limits context (Reads (Kept t)) s) fit.1

-- Lemmas about steps in two parts

pub atoms_joined : (a b : List Step) (atoms : List ℕ) → kept_atoms (a ++ b) ++ atoms ≡ kept_atoms a ++ (kept_atoms b ++ atoms)
atoms_joined [] b atoms = refl
atoms_joined (Reads (Kept t) ∷ a) b atoms = ap (λ (xs : List ℕ). atom_of t ∷ xs) (atoms_joined a b atoms)
atoms_joined (Reads (Unfit t) ∷ a) b atoms = atoms_joined a b atoms
atoms_joined (Passes m ∷ a) b atoms = atoms_joined a b atoms
atoms_joined (Ends m ∷ a) b atoms = atoms_joined a b atoms

-- Lemmas about turns behind the first

-- Behind a turn nothing else happens, a piece is at hand, and the tokens of the next turn fit.
pub record FitTurn (limits : Limits) (sources : Sources) (o : Choices) (q : State) : Type 0 where
  pub is_quiet : IsQuietBySide (stepped limits o q)
  pub is_within : is_between (stepped limits o q).reading ≡ false
  pub are_fit : AllFit limits (context_of o (side_turn limits sources o q)) (side_steps limits o (side_turn limits sources o q))
      (stand_of (side_turn limits sources o q))

abbrev pub FitTurns : Limits → Sources → Choices → ℕ → State → Type 0
FitTurns limits sources o zero q = Unit {0}
FitTurns limits sources o (suc n) q = FitTurn limits sources o q × FitTurns limits sources o n (side_turn limits sources o q)

-- the steps of `n` turns behind the first
abbrev pub later_steps : Limits → Sources → Choices → ℕ → State → List Step
later_steps limits sources o zero q = []
later_steps limits sources o (suc n) q =
    side_steps limits o (side_turn limits sources o q) ++ later_steps limits sources o n (side_turn limits sources o q)

plain_turn : (limits : Limits) (sources : Sources) (o : Choices) (q : State) → FitTurn limits sources o q
    → side_turn limits sources o q ≡ stepped limits o q
plain_turn limits sources o q f = followed_plainly sources o (stepped limits o q) f.is_quiet

pub turns_lead : (limits : Limits) (sources : Sources) (o : Choices) (n : ℕ) (q : State) (atoms : List ℕ) (events : List (Event Action))
    (left : List (Symbol Action))
    → FitTurns limits sources o n q
    → Leads grammar (stepped limits o (side_turned limits sources o n q)).reading.stack atoms events left
    → Led (later_steps limits sources o n q) atoms (stepped limits o q).reading.stack left
turns_lead limits sources o zero q atoms events left all l = record { events = events; leads = l }
turns_lead limits sources o (suc n) q atoms events left all l =
    let q2 : State = side_turn limits sources o q in
    let c : Context = context_of o q2 in
    let a : List Step = side_steps limits o q2 in
    let b : List Step = later_steps limits sources o n q2 in
    let r : Led b atoms (stepped limits o q2).reading.stack left = turns_lead limits sources o n q2 atoms events left all.1 l in
    let there : Leads grammar (steps_by limits c a (stand_of q2)).reading.stack (kept_atoms b ++ atoms) r.events left = r.leads in
    let w : Led a (kept_atoms b ++ atoms) q2.reading.stack left =
    fit_leads limits c a (stand_of q2) (kept_atoms b ++ atoms) r.events left all.0.are_fit there in
    record {
      events = w.events;
      leads = subst (λ (xs : List ℕ). Leads grammar (stepped limits o q).reading.stack xs w.events left) (sym (atoms_joined a b atoms))
          (subst (λ (x : State). Leads grammar x.reading.stack (kept_atoms a ++ (kept_atoms b ++ atoms)) w.events left)
          (plain_turn limits sources o q all.0) w.leads);
    }

-- Lemmas about a piece that is at hand

no_atoms : {symbols left : List (Symbol Action)} {atoms : List ℕ} → Leads grammar symbols atoms [] left → atoms ≡ []
no_atoms here = refl
no_atoms (row m free l) = no_atoms l

more_events : (symbols : List (Symbol Action)) (atoms : List ℕ) (events : List (Event Action)) → IsText grammar symbols atoms events
    → IsRest symbols → is_empty symbols ≡ false → are_over events ≡ false
more_events symbols atoms (e ∷ events) text rest some = refl
more_events symbols atoms [] text rest some =
    let nothing : symbols ≡ [] = none_left symbols (subst (λ (xs : List ℕ). IsText grammar symbols xs []) (no_atoms text) text) rest in
    absurd (true≢false (ap is_empty (sym nothing) ∙ some))

and_false : (b : Bool) → (b && false) ≡ false
and_false true = refl
and_false false = refl

-- more of a piece is to come where something is left
pub more_left : (symbols : List (Symbol Action)) (atoms : List ℕ) (events : List (Event Action)) (left : List (Symbol Action))
    → Leads grammar symbols atoms events left → IsRest symbols → is_empty symbols ≡ false → is_whole events left ≡ false
more_left symbols atoms events [] l rest some = ap (λ b. b && true) (more_events symbols atoms events l rest some)
more_left symbols atoms events (x ∷ left) l rest some = and_false (are_over events)

pub some_at_hand : (r : Reading) → r.mode ≡ Recovery.Reads → is_between r ≡ false → is_empty r.stack ≡ false
some_at_hand r reading inside = ap (λ (m : Recovery). reads m && is_empty r.stack) (sym reading) ∙ inside

-- a piece of which something is left is open
pub is_open_at : (m : PieceState) (x : State) (atoms : List ℕ) (left : List (Symbol Action)) → IsAt atoms left m x → IsQuietBySide x
    → x.is_over ≡ false → is_empty x.reading.stack ≡ false → IsOpen left m
is_open_at m x atoms left s quiet going some = record {
  is_going = ap (λ (y : State). y.is_over) s.same ∙ going;
  is_not_over = ap (λ (y : State). y.work.report.counts.is_over) s.same ∙ quiet.is_not_over;
  asks_nothing = subst (λ (y : State). AsksNothing y) (sym s.same) quiet.asks_nothing;
  has_more = more_left x.reading.stack atoms m.course.events left s.inside.derives.leads s.inside.is_rest some;
}

-- the steps of a turn within a piece are those at its state
pub same_steps : (limits : Limits) (o : Choices) (m : PieceState) (x : State) (atoms : List ℕ) (left : List (Symbol Action))
    → IsAt atoms left m x → is_empty x.reading.stack ≡ false → side_steps limits o x ≡ steps_at limits o within m.state
same_steps limits o m x atoms left s some =
    ap (λ (p : Position). steps_at limits o p (afresh x)) (position_within x.reading s.inside.at.reads some)
    ∙ ap (steps_at limits o within) (sym s.same)

-- Turns behind the first, and the states within the piece at which they are.
pub record Forward (limits : Limits) (sources : Sources) (o : Choices) (n : ℕ) (m : PieceState) (q : State) (further : List ℕ)
    (left : List (Symbol Action)) : Type 0
  where
    pub go_on : AllGoOn limits o left n m
    pub atoms : atoms_from limits o n m further ≡ kept_atoms (later_steps limits sources o n q) ++ further
    pub at_end : IsAt further left (walked limits o n m) (stepped limits o (side_turned limits sources o n q))

pub forward : (limits : Limits) (sources : Sources) (o : Choices) (n : ℕ) (m : PieceState) (q : State) (further : List ℕ)
    (left : List (Symbol Action))
    → FitTurns limits sources o n q → IsAt (kept_atoms (later_steps limits sources o n q) ++ further) left m (stepped limits o q)
    → q.is_over ≡ false → Forward limits sources o n m q further left
forward limits sources o zero m q further left all s going = record { go_on = tt; atoms = refl; at_end = s }
forward limits sources o (suc n) m q further left all s going =
    let x : State = stepped limits o q in
    let q2 : State = side_turn limits sources o q in
    let m2 : PieceState = moved limits o m in
    let plain : q2 ≡ x = plain_turn limits sources o q all.0 in
    let a : List Step = side_steps limits o q2 in
    let b : List Step = later_steps limits sources o n q2 in
    let rest : List ℕ = kept_atoms b ++ further in
    let some : is_empty x.reading.stack ≡ false = some_at_hand x.reading s.inside.at.reads all.0.is_within in
    let same : a ≡ steps_at limits o within m.state =
    ap (side_steps limits o) plain ∙ same_steps limits o m x (kept_atoms (a ++ b) ++ further) left s some in
    let at : IsAt (kept_atoms (steps_at limits o within m.state) ++ rest) left m x =
    subst (λ (steps : List Step). IsAt (kept_atoms steps ++ rest) left m x) same
    (subst (λ (atoms : List ℕ). IsAt atoms left m x) (atoms_joined a b further) s) in
    let kept : AllKept (steps_at limits o within m.state) =
    subst (λ (steps : List Step). AllKept steps) same (kept_of limits (context_of o q2) a (stand_of q2) all.0.are_fit) in
    let is : IsOpen left m = is_open_at m x (kept_atoms (a ++ b) ++ further) left s all.0.is_quiet going some in
    let w : Forward limits sources o n m2 q2 further left = forward limits sources o n m2 q2 further left all.1
    (subst (λ (y : State). IsAt rest left m2 (stepped limits o y)) (sym plain)
    (next_is_at limits sources o m x rest left at is kept))
    (ap (λ (y : State). y.is_over) plain ∙ going) in
    record {
      go_on = (record { is_open = is; are_kept = kept }, w.go_on);
      atoms = ap (λ (atoms : List ℕ). kept_atoms (steps_at limits o within m.state) ++ atoms) w.atoms
          ∙ (ap (λ (steps : List Step). kept_atoms steps ++ rest) (sym same) ∙ sym (atoms_joined a b further));
      at_end = w.at_end;
    }
