-- The events of a text, and steps that are taken by them.
use Rattle.std.proofs.Common.{◌≡◌, ℕ, ◌-◌, max, List, [], ◌∷◌, ◌++◌, true, refl, sym, ◌∙◌, ap, subst, arith}
use Rattle.inf_settings.specs.Bounds.{Limits}
use Rattle.inf_machine.specs.{Grammar.Did, Grammar.Event, Grammar.Leads, Grammar.action, Grammar.row, Grammar.token, Laws.IsSpaced}
use Rattle.inf_machine.specs.{Machine.Taken, Machine.events_of, Machine.fits, Machine.taken, Machine.work, declared.symbols.Symbol.Symbol}
use Rattle.inf_machine.proofs.Taking.{spaced_choice, spaced_left, taken_row}
use Rattle.inf_syntax.specs.declared.actions.Action.{Action}
use Rattle.inf_grammar.specs.{Evaluated.language_is_decided, Language.grammar, Language.known, Routines.closings}
use Rattle.inf_unit.specs.Tokens.{SourceToken, atom_of}
use Rattle.inf_compilation.specs.{Actions.Compilation, Actions.took as work_took, Context.Context, Nesting.closed_ahead}
use Rattle.inf_reader.specs.{Acting.all_acted, Reading.ReaderState, Reading.Reading, Reading.took}
use Rattle.inf_laws.specs.KeptTokens.{Kept, Unfit}
use Rattle.inf_laws.proofs.KeptTokens.{At, goes}
use Rattle.inf_statement_laws.specs.Laid.{passed}
use Rattle.inf_program.specs.definition.Steps.{AllKept, Ends, Passes, Reads, Step}
use Rattle.inf_program.specs.Turns.{IsFit, step_by, steps_by}
use Rattle.inf_program.specs.definition.Fronts.{Course, Derives, Progress, actions_first, done_by, ends_in, events_behind, first_ends}
use Rattle.inf_program.specs.definition.Fronts.{kept_atoms, later_ends, taken_by}
use Rattle.inf_program.proofs.{Chosen.only, Grouping.closed_once, Grouping.step_fit, Stacks.IsRest, Stacks.fits_some, Stacks.rest_left}

-- Lemmas about events token by token

first_actions : (actions : List Action) (atom : ℕ) (events : List (Event Action))
    → actions_first (events_of actions atom ++ events) ≡ actions
first_actions [] atom events = refl
first_actions (a ∷ actions) atom events = ap (λ (acts : List Action). a ∷ acts) (first_actions actions atom events)

behind_actions : (actions : List Action) (atom : ℕ) (events : List (Event Action))
    → events_behind (events_of actions atom ++ events) ≡ events
behind_actions [] atom events = refl
behind_actions (a ∷ actions) atom events = behind_actions actions atom events

-- Statements are not closed ahead where none is over.

none_ahead : (limits : Limits) (w : Compilation) → closed_ahead limits 0 w ≡ w
none_ahead limits w = closed_once limits 0 w (none_less w.closed) (most_alone w.closed)
  where
    none_less : (n : ℕ) → 0 - n ≡ 0
    none_less n = omega arith

    most_alone : (n : ℕ) → max n 0 ≡ n
    most_alone n = omega arith

pub not_ahead : (limits : Limits) (count : ℕ) (w : Compilation) → count ≡ 0 → closed_ahead limits count w ≡ w
not_ahead limits count w e = ap (λ n. closed_ahead limits n w) e ∙ none_ahead limits w

-- Lemmas about the first token of a course

-- The machine takes the first token as `now`. What is to come is that of this token, and then of the others.
pub record Ahead (atom : ℕ) (now : Taken Action) (atoms : List ℕ) (course : Course) (left : List (Symbol Action)) : Type 0 where
  pub rest : Course
  pub derives : Derives now.left atoms rest left
  pub events : course.events ≡ events_of now.actions atom ++ rest.events
  pub ends : course.ends ≡ closings now.left ∷ rest.ends

pub record First (atom : ℕ) (symbols : List (Symbol Action)) (atoms : List ℕ) (course : Course) (left : List (Symbol Action)) : Type 0 where
  pub fits_here : fits grammar known atom symbols ≡ true
  pub ahead : Ahead atom (taken grammar known atom symbols) atoms course left

-- the course of a derivation
abbrev pub course_of : {symbols left : List (Symbol Action)} {atoms : List ℕ} {events : List (Event Action)}
    → Leads grammar symbols atoms events left → Course
course_of {events} l = record { events = events; ends = ends_in l }

first_by : {atom : ℕ} {symbols left : List (Symbol Action)} {atoms : List ℕ} {events : List (Event Action)}
    → (l : Leads grammar symbols (atom ∷ atoms) events left) → IsSpaced grammar known symbols
    → First atom symbols atoms (course_of l) left
first_by (token {events} f l) spaced = record {
  fits_here = f;
  ahead = record { rest = course_of l; derives = record { leads = l; are_ends = refl }; events = refl; ends = refl };
}
first_by {atom} {symbols} {left} {atoms} (action {a} l) spaced =
    let on : First atom _ atoms (course_of l) left = first_by l spaced in
    record {
      fits_here = on.fits_here;
      ahead = record {
        rest = on.ahead.rest;
        derives = on.ahead.derives;
        events = ap (λ (es : List (Event Action)). Did a ∷ es) on.ahead.events;
        ends = on.ahead.ends;
      };
    }
first_by {atom} {left} {atoms} (row {rule} {r} {symbols} m free l) spaced =
    let on : First atom (r.parts ++ symbols) atoms (course_of l) left =
    first_by l (spaced_choice grammar known language_is_decided rule r symbols m spaced) in
    let one = only atom rule r symbols m free spaced on.fits_here in
    let same : taken grammar known atom (r.parts ++ symbols) ≡ taken grammar known atom (Symbol.Rule rule ∷ symbols) =
    sym (taken_row grammar known language_is_decided atom rule symbols one.fits_here
    ∙ ap (λ parts. taken grammar known atom (parts ++ symbols)) one.is) in
    record { fits_here = one.fits_here; ahead = subst (λ (n : Taken Action). Ahead atom n atoms (course_of l) left) same on.ahead }

pub first_token : (atom : ℕ) (symbols : List (Symbol Action)) (atoms : List ℕ) (course : Course) (left : List (Symbol Action))
    → Derives symbols (atom ∷ atoms) course left → IsSpaced grammar known symbols → First atom symbols atoms course left
first_token atom symbols atoms course left d spaced =
    let f : First atom symbols atoms (course_of d.leads) left = first_by d.leads spaced in
    record {
      fits_here = f.fits_here;
      ahead = record { rest = f.ahead.rest; derives = f.ahead.derives; events = f.ahead.events; ends = sym d.are_ends ∙ f.ahead.ends };
    }

-- The reading stands within a piece: its tokens so far were taken, and this number of statements is over behind them. The rest of it leads
-- by these atoms, with this course, to the symbols that are left.
pub record InPiece (tokens : List SourceToken) (over : ℕ) (atoms : List ℕ) (course : Course) (left : List (Symbol Action)) (r : Reading)
    : Type 0 where
  pub at : At tokens r
  pub is_over : over ≡ closings r.stack
  pub spaced : IsSpaced grammar known r.stack
  pub derives : Derives r.stack atoms course left
  pub is_rest : IsRest r.stack

-- The reading stands where the events of a text stand.
pub record Agrees (atoms : List ℕ) (left : List (Symbol Action)) (p : Progress) (s : ReaderState) : Type 0 where
  pub same : s.work ≡ p.work
  pub inside : InPiece p.tokens p.over atoms p.course left s.reading

-- a token that is taken
token_agrees : (limits : Limits) (context : Context) (t : SourceToken) (atoms : List ℕ)
    (left : List (Symbol Action)) (p : Progress) (s : ReaderState)
    → Agrees (atom_of t ∷ atoms) left p s → First (atom_of t) s.reading.stack atoms p.course left
    → Agrees atoms left (taken_by limits context t p) (took limits context t s.reading s.work)
token_agrees limits context t atoms left p s a first =
    let n : Taken Action = taken grammar known (atom_of t) s.reading.stack in
    let f : Ahead (atom_of t) n atoms p.course left = first.ahead in
    let acts : actions_first p.course.events ≡ n.actions = ap actions_first f.events ∙ first_actions n.actions (atom_of t) f.rest.events in
    let past : events_behind p.course.events ≡ f.rest.events =
    ap events_behind f.events ∙ behind_actions n.actions (atom_of t) f.rest.events in
    let later : later_ends p.course.ends ≡ f.rest.ends = ap later_ends f.ends in
    record {
      same = ap (λ (w : Compilation). work_took context t (all_acted limits context t.place n.actions w)) a.same
          ∙ ap (λ (actions : List Action). work_took context t (all_acted limits context t.place actions p.work)) (sym acts);
      inside = record {
        at = goes p.tokens s.reading t a.inside.at first.fits_here;
        is_over = ap first_ends f.ends;
        spaced = spaced_left grammar known language_is_decided (atom_of t) (work known (atom_of t) s.reading.stack) s.reading.stack
            first.fits_here a.inside.spaced;
        derives = subst (λ (counts : List ℕ). Derives n.left atoms
            (record { events = events_behind p.course.events; ends = counts }) left) (sym later)
            (subst (λ (es : List (Event Action)). Derives n.left atoms (record { events = es; ends = f.rest.ends }) left) (sym past)
            f.derives);
        is_rest = rest_left (atom_of t) s.reading.stack first.fits_here a.inside.is_rest;
      };
    }

pub kept_agrees : (limits : Limits) (context : Context) (t : SourceToken) (atoms : List ℕ)
    (left : List (Symbol Action)) (p : Progress) (s : ReaderState)
    → Agrees (atom_of t ∷ atoms) left p s → Agrees atoms left (taken_by limits context t p) (step_by limits context (Reads (Kept t)) s)
kept_agrees limits context t atoms left p s a =
    let f : First (atom_of t) s.reading.stack atoms p.course left =
    first_token (atom_of t) s.reading.stack atoms p.course left a.inside.derives a.inside.spaced in
    let fit : IsFit t s.reading = record {
      reads = a.inside.at.reads;
      is_inside = fits_some (atom_of t) s.reading.stack f.fits_here;
      is_fit = f.fits_here;
    } in
    subst (λ (x : ReaderState). Agrees atoms left (taken_by limits context t p) x) (sym (step_fit limits context t s.reading s.work fit))
    (token_agrees limits context t atoms left p s a f)

-- Steps whose tokens are kept do what the events of their text say.
pub steps_agree : (limits : Limits) (context : Context) (steps : List Step) (atoms : List ℕ)
    (left : List (Symbol Action)) (p : Progress) (s : ReaderState)
    → AllKept steps → Agrees (kept_atoms steps ++ atoms) left p s
    → Agrees atoms left (done_by limits context steps p) (steps_by limits context steps s)
steps_agree limits context [] atoms left p s kept a = a
steps_agree limits context (Passes m ∷ steps) atoms left p s kept a =
    steps_agree limits context steps atoms left (record p { work = passed m p.work }) (step_by limits context (Passes m) s) kept
    (record { same = ap (passed m) a.same; inside = a.inside })
steps_agree limits context (Ends m ∷ steps) atoms left p s kept a =
    steps_agree limits context steps atoms left (record p { work = passed m (closed_ahead limits p.over p.work) })
    (step_by limits context (Ends m) s) kept
    (record {
      same = ap (λ (w : Compilation). passed m (closed_ahead limits (closings s.reading.stack) w)) a.same
          ∙ ap (λ (count : ℕ). passed m (closed_ahead limits count p.work)) (sym a.inside.is_over);
      inside = a.inside;
    })
steps_agree limits context (Reads (Unfit t) ∷ steps) atoms left p s kept a = absurd kept
steps_agree limits context (Reads (Kept t) ∷ steps) atoms left p s kept a =
    steps_agree limits context steps atoms left (taken_by limits context t p) (step_by limits context (Reads (Kept t)) s) kept
    (kept_agrees limits context t (kept_atoms steps ++ atoms) left p s a)
