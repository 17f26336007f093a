-- Where control comes to, by the outcome of a statement.
use Rattle.std.proofs.Common.{◌≡◌, ℕ, List, Option, Some, None, Bool, true, false, subst, if◌then◌else◌}
use Rattle.inf_opcode.specs.declared.instructions.Label.{Label}
use Rattle.inf_expressions.specs.Numbers.{same}
use Rattle.inf_interpreter.specs.{Claims.Comes, Claims.state, Machine.Place, Machine.State, Machine.Store, Machine.World, Machine.◌then◌}
use Rattle.inf_interpreter.proofs.Laying.{Lies, Marks, Then, jump_to}
use Rattle.inf_interpreter.proofs.Running.{comes_then, opened, same_some}
use Rattle.inf_meaning_laws.specs.Laws.{Branches}
use Rattle.inf_meaning_laws.proofs.Instructions.{jump_comes, mark_comes, moved}
use Rattle.inf_control_laws.specs.Control.{Broke, Continued, Done, Effect, Outcome, Returned, Truth, both_run, else_run, followed_by}
use Rattle.inf_control_laws.specs.Control.{if_run}
use Rattle.inf_control_laws.specs.Runs.{Exits, GoesTo, Leaves, Reaches, Runs}

-- from a place that leads to another one
pub goes_behind : (w : World) (at : Label → Place) (a b : Place) (s u now : State) (l : Option Label) → Comes w at a s b u →
    GoesTo w at b u l now → GoesTo w at a s l now
goes_behind w at a b s u now None c g = absurd g
goes_behind w at a b s u now (Some l) c g = comes_then c g

pub leaves_behind : (w : World) (at : Label → Place) (a b : Place) (s u : State) (n : ℕ) (t : Store) → Comes w at a s b u →
    Leaves w at b u n t → Leaves w at a s n t
leaves_behind w at a b s u n t c l =
    record { item = l.item; rest = l.rest; now = l.now; comes = comes_then c l.comes; returns = l.returns }

pub reaches_behind : (w : World) (x : Exits) (at : Label → Place) (a b to : Place) (s u now : State) (r : Outcome) → Comes w at a s b u →
    Reaches w x at b u to r now → Reaches w x at a s to r now
reaches_behind w x at a b to s u now Done c g = comes_then c g
reaches_behind w x at a b to s u now Broke c g = goes_behind w at a b s u now x.breaks c g
reaches_behind w x at a b to s u now Continued c g = goes_behind w at a b s u now x.continues c g
reaches_behind w x at a b to s u now (Returned n) c g = leaves_behind w at a b s u n now.store c g

-- to a place that leads to another one
pub reaches_on : (w : World) (x : Exits) (at : Label → Place) (from m to : Place) (s now : State) (r : Outcome) →
    Reaches w x at from s m r now → Comes w at m now to now → Reaches w x at from s to r now
reaches_on w x at from m to s now Done c k = comes_then c k
reaches_on w x at from m to s now Broke c k = c
reaches_on w x at from m to s now Continued c k = c
reaches_on w x at from m to s now (Returned n) c k = c

-- an end that is known
abbrev pub SameEnd : Option (Outcome × Store) → Option (Outcome × Store) → Type 0
SameEnd x y = x ≡ y

pub ends_as : (w : World) (x : Exits) (at : Label → Place) (from to : Place) (start : State) (stack : List ℕ) (left : ℕ) (r q : Outcome)
    (u t : Store) → SameEnd (Some (r, u)) (Some (q, t)) → Reaches w x at from start to r (state stack left u) →
    (left' : ℕ) × Reaches w x at from start to q (state stack left' t)
ends_as w x at from to start stack left r q u t e c =
    (left, subst (λ y. Reaches w x at from start to y.0 (state stack left y.1)) (same_some e) c)

-- Lemmas about one statement behind another
followed : (w : World) (x : Exits) (at : Label → Place) (from m to : Place) (start : State) (stack : List ℕ) (left : ℕ) (second : Effect)
    (r : Outcome) (u : Store) (q : Outcome) (t : Store) → Reaches w x at from start m r (state stack left u) → Runs w x second at m to →
    followed_by second r u ≡ Some (q, t) → (left' : ℕ) × Reaches w x at from start to q (state stack left' t)
followed w x at from m to start stack left second Done u q t c k e =
    let g = k stack left u q t e in
    (g.0, reaches_behind w x at from m to start (state stack left u) (state stack g.0 t) q c g.1)
followed w x at from m to start stack left second Broke u q t c k e = ends_as w x at from to start stack left Broke q u t e c
followed w x at from m to start stack left second Continued u q t c k e = ends_as w x at from to start stack left Continued q u t e c
followed w x at from m to start stack left second (Returned n) u q t c k e = ends_as w x at from to start stack left (Returned n) q u t e c

pub both_runs : (w : World) (x : Exits) (first second : Effect) (at : Label → Place) (from to : Place) →
    Then (Runs w x first) (Runs w x second) at from to → Runs w x (both_run first second) at from to
both_runs w x first second at from to p stack temp s q t e =
    let o = opened (first s) (λ r. followed_by second r.0 r.1) (q, t) e in
    let g = p.1 stack temp s o.0.0 o.0.1 o.1 in
    followed w x at from p.0 to (state stack temp s) stack g.0 second o.0.0 o.0.1 q t g.1 p.2 o.2

-- `if`: the branch leads over the body
if_by : (w : World) (x : Exits) (at : Label → Place) (from m1 m2 to : Place) (next : Label) (body : Effect) (start : State)
    (stack : List ℕ) (left : ℕ) (b : Bool) (s : Store) (q : Outcome) (t : Store) →
    Comes w at from start (if same b false then at next else m1) (state stack left s) → Runs w x body at m1 m2 → Marks next at m2 to →
    (if b then body s else Some (Done, s)) ≡ Some (q, t) → (left' : ℕ) × Reaches w x at from start to q (state stack left' t)
if_by w x at from m1 m2 to next body start stack left true s q t c h m e =
    let g = h stack left s q t e in (
      g.0,
      reaches_behind w x at from m1 to start (state stack left s) (state stack g.0 t) q c
          (reaches_on w x at m1 m2 to (state stack left s) (state stack g.0 t) q g.1 (mark_comes w at next m2 to (state stack g.0 t) m)),
    )
if_by w x at from m1 m2 to next body start stack left false s q t c h m e =
    ends_as w x at from to start stack left Done q s t e (moved m.1 c)

pub if_runs : (w : World) (x : Exits) (next : Label) (holds : Truth) (body : Effect) (at : Label → Place) (from to : Place) →
    Then (Branches false w holds false next) (Then (Runs w x body) (Marks next)) at from to → Runs w x (if_run holds body) at from to
if_runs w x next holds body at from to p stack temp s q t e =
    let o = opened (holds s) (λ r. if r.0 then body r.1 else Some (Done, r.1)) (q, t) e in
    let g = p.1 stack temp s o.0.0 o.0.1 o.1 in
    if_by w x at from p.0 p.2.0 to next body (state stack temp s) stack g.0 o.0.0 o.0.1 q t g.2 p.2.1 p.2.2 o.2

-- `else`: behind the body a jump leads over the other statement
else_by : (w : World) (x : Exits) (at : Label → Place) (from m1 m2 m3 m4 m5 to : Place) (next end : Label) (body other : Effect)
    (start : State) (stack : List ℕ) (left : ℕ) (b : Bool) (s : Store) (q : Outcome) (t : Store) →
    Comes w at from start (if same b false then at next else m1) (state stack left s) → Runs w x body at m1 m2 →
    Lies (jump_to end) at m2 m3 → Marks next at m3 m4 → Runs w x other at m4 m5 → Marks end at m5 to →
    (if b then body s else other s) ≡ Some (q, t) → (left' : ℕ) × Reaches w x at from start to q (state stack left' t)
else_by w x at from m1 m2 m3 m4 m5 to next end body other start stack left true s q t c h jump m k last e =
    let g = h stack left s q t e in
    let now = state stack g.0 t in (
      g.0,
      reaches_behind w x at from m1 to start (state stack left s) now q c
          (reaches_on w x at m1 m2 to (state stack left s) now q g.1 (moved last.1 (jump_comes w at end m2 m3 now jump))),
    )
else_by w x at from m1 m2 m3 m4 m5 to next end body other start stack left false s q t c h jump m k last e =
    let g = k stack left s q t e in
    let now = state stack g.0 t in (
      g.0,
      reaches_behind w x at from m4 to start (state stack left s) now q (moved m.1 c)
          (reaches_on w x at m4 m5 to (state stack left s) now q g.1 (mark_comes w at end m5 to now last)),
    )

pub else_runs : (w : World) (x : Exits) (next end : Label) (holds : Truth) (body other : Effect) (at : Label → Place) (from to : Place) →
    Then (Branches false w holds false next) (Then (Runs w x body) (Then (Then (Lies (jump_to end)) (Marks next)) (Then (Runs w x other)
    (Marks end)))) at from to → Runs w x (else_run holds body other) at from to
else_runs w x next end holds body other at from to p stack temp s q t e =
    let o = opened (holds s) (λ r. if r.0 then body r.1 else other r.1) (q, t) e in
    let g = p.1 stack temp s o.0.0 o.0.1 o.1 in
    let p1 = p.2 in
    let p2 = p1.2 in
    let joint = p2.1 in
    let p3 = p2.2 in
    else_by w x at from p.0 p1.0 joint.0 p2.0 p3.0 to next end body other (state stack temp s) stack g.0 o.0.0 o.0.1 q t g.2 p1.1 joint.1
    joint.2 p3.1 p3.2 o.2
