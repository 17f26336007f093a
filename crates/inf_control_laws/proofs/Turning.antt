-- Loops, turn by turn.
use Rattle.std.proofs.Common.{◌≡◌, ℕ, zero, suc, List, Some, Bool, true, false, if◌then◌else◌}
use Rattle.inf_opcode.specs.declared.instructions.Label.{Label}
use Rattle.inf_expressions.specs.Numbers.{same}
use Rattle.inf_interpreter.specs.{Claims.Comes, Claims.state, Machine.Place, Machine.State, Machine.Store, Machine.World, Machine.◌then◌}
use Rattle.inf_interpreter.proofs.Laying.{Lies, Marks, Then, jump_to}
use Rattle.inf_interpreter.proofs.Running.{comes_then, none_some, opened}
use Rattle.inf_meaning_laws.specs.Laws.{Branches, GivesNothing}
use Rattle.inf_meaning_laws.proofs.Instructions.{jump_comes, mark_comes, moved}
use Rattle.inf_control_laws.specs.{Parts.BeginsLoop, Runs.Exits, Runs.Reaches, Runs.Runs}
use Rattle.inf_control_laws.specs.Control.{Broke, Change, Continued, Done, Effect, Outcome, Returned, Truth, behind_turn, for_run}
use Rattle.inf_control_laws.specs.Control.{found_run, objects_run, until_by, until_run, while_run}
use Rattle.inf_control_laws.proofs.Reaching.{ends_as, reaches_behind}

-- the labels to which a loop's body leads
abbrev pub inside : Label → Label → Exits
inside end next = record { breaks = Some end; continues = Some next }

-- A loop goes on from a place, once that is reached in some state.
abbrev pub GoesOn : World → Exits → (Label → Place) → Place → Effect → List ℕ → Outcome → Place → Store → Type 0
GoesOn w x at m again stack q to t =
    (left : ℕ) (u : Store) → again u ≡ Some (q, t) →
    (left' : ℕ) × Reaches w x at m (state stack left u) to q (state stack left' t)

-- Behind the body, control comes to where the loop goes on, or to the end of the loop, or out of the routine.
behind : (w : World) (x : Exits) (at : Label → Place) (from m go to : Place) (next end : Label) (again : Effect) (start : State)
    (stack : List ℕ) (left : ℕ) (r : Outcome) (u : Store) (q : Outcome) (t : Store) →
    Reaches w (inside end next) at from start m r (state stack left u) →
    (Comes w at m (state stack left u) go (state stack left u)) → at next ≡ go → at end ≡ to →
    GoesOn w x at go again stack q to t → behind_turn again r u ≡ Some (q, t) →
    (left' : ℕ) × Reaches w x at from start to q (state stack left' t)
behind w x at from m go to next end again start stack left Done u q t c k there last on e =
    let g = on left u e in
    (g.0, reaches_behind w x at from go to start (state stack left u) (state stack g.0 t) q (comes_then c k) g.1)
behind w x at from m go to next end again start stack left Broke u q t c k there last on e =
    ends_as w x at from to start stack left Done q u t e (moved last c)
behind w x at from m go to next end again start stack left Continued u q t c k there last on e =
    let g = on left u e in
    (g.0, reaches_behind w x at from go to start (state stack left u) (state stack g.0 t) q (moved there c) g.1)
behind w x at from m go to next end again start stack left (Returned n) u q t c k there last on e =
    ends_as w x at from to start stack left (Returned n) q u t e c

-- from the beginning of the loop
begun_on : (w : World) (x : Exits) (at : Label → Place) (a b to : Place) (s u : State) (stack : List ℕ) (q : Outcome) (t : Store) →
    Comes w at a s b u → ((left : ℕ) × Reaches w x at b u to q (state stack left t)) →
    (left : ℕ) × Reaches w x at a s to q (state stack left t)
begun_on w x at a b to s u stack q t c g = (g.0, reaches_behind w x at a b to s u (state stack g.0 t) q c g.1)

-- `while`: the condition, the body, and a jump back to the condition
while_turns : (w : World) (x : Exits) (at : Label → Place) (from m0 m1 m2 m3 to : Place) (next end : Label) (holds : Truth)
    (body : Effect) →
    Marks next at from m0 → Branches false w holds false end at m0 m1 → Runs w (inside end next) body at m1 m2 →
    Lies (jump_to next) at m2 m3 → Marks end at m3 to → (n : ℕ) (stack : List ℕ) (temp : ℕ) (s : Store) (q : Outcome) (t : Store) →
    while_run holds body n s ≡ Some (q, t) → (left : ℕ) × Reaches w x at m0 (state stack temp s) to q (state stack left t)
while_turns w x at from m0 m1 m2 m3 to next end holds body top test runs jump last zero stack temp s q t e = none_some e
while_turns w x at from m0 m1 m2 m3 to next end holds body top test runs jump last (suc n) stack temp s q t e =
    let o = opened (holds s) (λ p.
    if p.0 then (body p.1 then λ r. behind_turn (while_run holds body n) r.0 r.1) else Some (Done, p.1)) (q, t) e in
    let g = test stack temp s o.0.0 o.0.1 o.1 in
    turn o.0.0 g.0 o.0.1 g.2 o.2
    (λ left u f. while_turns w x at from m0 m1 m2 m3 to next end holds body top test runs jump last n stack left u q t f)
  where
    turn : (b : Bool) (left : ℕ) (u : Store) →
        Comes w at m0 (state stack temp s) (if same b false then at end else m1) (state stack left u) →
        (if b then (body u then λ r. behind_turn (while_run holds body n) r.0 r.1) else Some (Done, u)) ≡ Some (q, t) →
        GoesOn w x at m0 (while_run holds body n) stack q to t →
        (left' : ℕ) × Reaches w x at m0 (state stack temp s) to q (state stack left' t)
    turn true left u c f on =
        let o = opened (body u) (λ r. behind_turn (while_run holds body n) r.0 r.1) (q, t) f in
        let g = runs stack left u o.0.0 o.0.1 o.1 in
        let now = state stack g.0 o.0.1 in
        begun_on w x at m0 m1 to (state stack temp s) (state stack left u) stack q t c
        (behind w x at m1 m2 m0 to next end (while_run holds body n) (state stack left u) stack g.0 o.0.0 o.0.1 q t g.1
        (moved top.1 (jump_comes w at next m2 m3 now jump)) top.1 last.1 on o.2)
    turn false left u c f on = ends_as w x at m0 to (state stack temp s) stack left Done q u t f (moved last.1 c)

pub while_runs : (w : World) (x : Exits) (next end : Label) (holds : Truth) (body : Effect) (n : ℕ) (at : Label → Place) (from to : Place) →
    Then (Marks next) (Then (Branches false w holds false end) (Then (Runs w (inside end next) body) (Then (Lies (jump_to next))
    (Marks end)))) at from to → Runs w x (while_run holds body n) at from to
while_runs w x next end holds body n at from to p stack temp s q t e =
    let p1 = p.2 in
    let p2 = p1.2 in
    let p3 = p2.2 in
    begun_on w x at from p.0 to (state stack temp s) (state stack temp s) stack q t
    (mark_comes w at next from p.0 (state stack temp s) p.1)
    (while_turns w x at from p.0 p1.0 p2.0 p3.0 to next end holds body p.1 p1.1 p2.1 p3.1 p3.2 n stack temp s q t e)

-- `do`: the body, and the condition behind it, where control goes on by `continue`, too
until_turns : (w : World) (x : Exits) (at : Label → Place) (from m0 m1 m2 m3 to : Place) (top next end : Label) (body : Effect)
    (holds : Truth) →
    Marks top at from m0 → Runs w (inside end next) body at m0 m1 → Marks next at m1 m2 → Branches false w holds false top at m2 m3 →
    Marks end at m3 to → (n : ℕ) (stack : List ℕ) (temp : ℕ) (s : Store) (q : Outcome) (t : Store) →
    until_run body holds n s ≡ Some (q, t) → (left : ℕ) × Reaches w x at m0 (state stack temp s) to q (state stack left t)
until_turns w x at from m0 m1 m2 m3 to top next end body holds first runs joint test last zero stack temp s q t e = none_some e
until_turns w x at from m0 m1 m2 m3 to top next end body holds first runs joint test last (suc n) stack temp s q t e =
    let o = opened (body s) (λ r. behind_turn (λ u. holds u then λ p. until_by (until_run body holds n) p.0 p.1) r.0 r.1) (q, t) e in
    let g = runs stack temp s o.0.0 o.0.1 o.1 in
    behind w x at m0 m1 m2 to next end (λ u. holds u then λ p. until_by (until_run body holds n) p.0 p.1)
    (state stack temp s) stack g.0 o.0.0 o.0.1 q t g.1 (mark_comes w at next m1 m2 (state stack g.0 o.0.1) joint) joint.1 last.1
    (λ left u f. tested left u f
    (λ left' u' f'. until_turns w x at from m0 m1 m2 m3 to top next end body holds first runs joint test last n stack left' u' q t f')) o.2
  where
    turn : (b : Bool) (left : ℕ) (u : Store) (start : State) →
        Comes w at m2 start (if same b false then at top else m3) (state stack left u) →
        until_by (until_run body holds n) b u ≡ Some (q, t) → GoesOn w x at m0 (until_run body holds n) stack q to t →
        (left' : ℕ) × Reaches w x at m2 start to q (state stack left' t)
    turn true left u start c f on =
        ends_as w x at m2 to start stack left Done q u t f (comes_then c (mark_comes w at end m3 to (state stack left u) last))
    turn false left u start c f on = begun_on w x at m2 m0 to start (state stack left u) stack q t (moved first.1 c) (on left u f)

    tested : (left : ℕ) (u : Store) → (holds u then λ p. until_by (until_run body holds n) p.0 p.1) ≡ Some (q, t) →
        GoesOn w x at m0 (until_run body holds n) stack q to t →
        (left' : ℕ) × Reaches w x at m2 (state stack left u) to q (state stack left' t)
    tested left u f on =
        let o = opened (holds u) (λ p. until_by (until_run body holds n) p.0 p.1) (q, t) f in
        let g = test stack left u o.0.0 o.0.1 o.1 in
        turn o.0.0 g.0 o.0.1 (state stack left u) g.2 o.2 on

pub until_runs : (w : World) (x : Exits) (top next end : Label) (body : Effect) (holds : Truth) (n : ℕ) (at : Label → Place)
    (from to : Place) →
    Then (Marks top) (Then (Runs w (inside end next) body) (Then (Marks next) (Then (Branches false w holds false top) (Marks end))))
    at from to → Runs w x (until_run body holds n) at from to
until_runs w x top next end body holds n at from to p stack temp s q t e =
    let p1 = p.2 in
    let p2 = p1.2 in
    let p3 = p2.2 in
    begun_on w x at from p.0 to (state stack temp s) (state stack temp s) stack q t
    (mark_comes w at top from p.0 (state stack temp s) p.1)
    (until_turns w x at from p.0 p1.0 p2.0 p3.0 to top next end body holds p.1 p1.1 p2.1 p3.1 p3.2 n stack temp s q t e)

-- `for`: the condition, the body, and the step, where control goes on by `continue`, too, and a jump back to the condition
for_turns : (w : World) (x : Exits) (at : Label → Place) (from m0 m1 m2 m3 m4 m5 to : Place) (top next end : Label) (holds : Truth)
    (step : Change) (body : Effect) →
    Marks top at from m0 → Branches false w holds false end at m0 m1 → Runs w (inside end next) body at m1 m2 → Marks next at m2 m3 →
    GivesNothing w step at m3 m4 → Lies (jump_to top) at m4 m5 → Marks end at m5 to →
    (n : ℕ) (stack : List ℕ) (temp : ℕ) (s : Store) (q : Outcome) (t : Store) →
    for_run holds step body n s ≡ Some (q, t) → (left : ℕ) × Reaches w x at m0 (state stack temp s) to q (state stack left t)
for_turns w x at from m0 m1 m2 m3 m4 m5 to top next end holds step body first test runs joint steps jump last zero stack temp s q t e =
    none_some e
for_turns w x at from m0 m1 m2 m3 m4 m5 to top next end holds step body first test runs joint steps jump last (suc n) stack temp s q t e =
    let o = opened (holds s) (λ p.
    if p.0 then (body p.1 then λ r. behind_turn (λ u. step u then λ v. for_run holds step body n v) r.0 r.1) else Some (Done, p.1))
    (q, t) e in
    let g = test stack temp s o.0.0 o.0.1 o.1 in
    turn o.0.0 g.0 o.0.1 g.2 o.2
    (λ left u f. for_turns w x at from m0 m1 m2 m3 m4 m5 to top next end holds step body first test runs joint steps jump last n stack left
    u q t f)
  where
    stepped : (left : ℕ) (u : Store) → (step u then λ v. for_run holds step body n v) ≡ Some (q, t) →
        GoesOn w x at m0 (for_run holds step body n) stack q to t →
        (left' : ℕ) × Reaches w x at m3 (state stack left u) to q (state stack left' t)
    stepped left u f on =
        let o = opened (step u) (λ v. for_run holds step body n v) (q, t) f in
        let g = steps stack left u o.0 o.1 in
        let now = state stack g.0 o.0 in
        begun_on w x at m3 m0 to (state stack left u) now stack q t (comes_then g.1 (moved first.1 (jump_comes w at top m4 m5 now jump)))
        (on g.0 o.0 o.2)

    turn : (b : Bool) (left : ℕ) (u : Store) →
        Comes w at m0 (state stack temp s) (if same b false then at end else m1) (state stack left u) →
        (if b then (body u then λ r. behind_turn (λ u. step u then λ v. for_run holds step body n v) r.0 r.1) else Some (Done, u))
        ≡ Some (q, t) →
        GoesOn w x at m0 (for_run holds step body n) stack q to t →
        (left' : ℕ) × Reaches w x at m0 (state stack temp s) to q (state stack left' t)
    turn true left u c f on =
        let o = opened (body u) (λ r. behind_turn (λ u. step u then λ v. for_run holds step body n v) r.0 r.1) (q, t) f in
        let g = runs stack left u o.0.0 o.0.1 o.1 in
        let now = state stack g.0 o.0.1 in
        begun_on w x at m0 m1 to (state stack temp s) (state stack left u) stack q t c
        (behind w x at m1 m2 m3 to next end (λ u. step u then λ v. for_run holds step body n v) (state stack left u) stack g.0 o.0.0 o.0.1 q
        t g.1 (mark_comes w at next m2 m3 now joint) joint.1 last.1 (λ left' u' f'. stepped left' u' f' on) o.2)
    turn false left u c f on = ends_as w x at m0 to (state stack temp s) stack left Done q u t f (moved last.1 c)

pub for_runs : (w : World) (x : Exits) (top next end : Label) (start : Change) (holds : Truth) (step : Change) (body : Effect) (n : ℕ)
    (at : Label → Place) (from to : Place) →
    Then (GivesNothing w start) (Then (Marks top) (Then (Branches false w holds false end) (Then (Runs w (inside end next) body) (Then
    (Marks next) (Then (GivesNothing w step) (Then (Lies (jump_to top)) (Marks end))))))) at from to →
    Runs w x (λ s. start s then λ t. for_run holds step body n t) at from to
for_runs w x top next end start holds step body n at from to p stack temp s q t e =
    let o = opened (start s) (λ u. for_run holds step body n u) (q, t) e in
    let g = p.1 stack temp s o.0 o.1 in
    let now = state stack g.0 o.0 in
    let p1 = p.2 in
    let p2 = p1.2 in
    let p3 = p2.2 in
    let p4 = p3.2 in
    let p5 = p4.2 in
    let p6 = p5.2 in
    begun_on w x at from p1.0 to (state stack temp s) now stack q t (comes_then g.1 (mark_comes w at top p.0 p1.0 now p1.1))
    (for_turns w x at p.0 p1.0 p2.0 p3.0 p4.0 p5.0 p6.0 to top next end holds step body p1.1 p2.1 p3.1 p4.1 p5.1 p6.1 p6.2 n stack g.0 o.0
    q t o.2)

-- Loops over objects: the condition, the body, and the next object, where control goes on by `continue`, too, and where the condition leads
-- to that is not true; and a branch back to the condition
objects_turns : (w : World) (x : Exits) (at : Label → Place) (m0 m1 m2 m3 m4 m5 to : Place) (top next end : Label) (holds step : Truth)
    (body : Effect) →
    Marks top at m0 m1 → Branches false w holds false next at m1 m2 → Runs w (inside end next) body at m2 m3 → Marks next at m3 m4 →
    Branches false w step true top at m4 m5 → Marks end at m5 to →
    (n : ℕ) (stack : List ℕ) (temp : ℕ) (s : Store) (q : Outcome) (t : Store) →
    objects_run holds step body n s ≡ Some (q, t) → (left : ℕ) × Reaches w x at m1 (state stack temp s) to q (state stack left t)
objects_turns w x at m0 m1 m2 m3 m4 m5 to top next end holds step body first test runs joint steps last zero stack temp s q t e =
    none_some e
objects_turns w x at m0 m1 m2 m3 m4 m5 to top next end holds step body first test runs joint steps last (suc n) stack temp s q t e =
    let on = found_run step (objects_run holds step body n) in
    let o = opened (holds s) (λ p. if p.0 then (body p.1 then λ r. behind_turn on r.0 r.1) else on p.1) (q, t) e in
    let g = test stack temp s o.0.0 o.0.1 o.1 in
    turn o.0.0 g.0 o.0.1 g.2 o.2
    (λ left u f. objects_turns w x at m0 m1 m2 m3 m4 m5 to top next end holds step body first test runs joint steps last n stack left u q t
    f)
  where
    found : (b : Bool) (left : ℕ) (u : Store) (start : State) →
        Comes w at m4 start (if same b true then at top else m5) (state stack left u) →
        (if b then objects_run holds step body n u else Some (Done, u)) ≡ Some (q, t) →
        GoesOn w x at m1 (objects_run holds step body n) stack q to t → (left' : ℕ) × Reaches w x at m4 start to q (state stack left' t)
    found true left u start c f on = begun_on w x at m4 m1 to start (state stack left u) stack q t (moved first.1 c) (on left u f)
    found false left u start c f on =
        ends_as w x at m4 to start stack left Done q u t f (comes_then c (mark_comes w at end m5 to (state stack left u) last))

    stepped : (left : ℕ) (u : Store) → found_run step (objects_run holds step body n) u ≡ Some (q, t) →
        GoesOn w x at m1 (objects_run holds step body n) stack q to t →
        (left' : ℕ) × Reaches w x at m4 (state stack left u) to q (state stack left' t)
    stepped left u f on =
        let o = opened (step u) (λ p. if p.0 then objects_run holds step body n p.1 else Some (Done, p.1)) (q, t) f in
        let g = steps stack left u o.0.0 o.0.1 o.1 in
        found o.0.0 g.0 o.0.1 (state stack left u) g.2 o.2 on

    turn : (b : Bool) (left : ℕ) (u : Store) →
        Comes w at m1 (state stack temp s) (if same b false then at next else m2) (state stack left u) →
        (if b then (body u then λ r. behind_turn (found_run step (objects_run holds step body n)) r.0 r.1)
        else found_run step (objects_run holds step body n) u)
        ≡ Some (q, t) →
        GoesOn w x at m1 (objects_run holds step body n) stack q to t →
        (left' : ℕ) × Reaches w x at m1 (state stack temp s) to q (state stack left' t)
    turn true left u c f on =
        let o = opened (body u) (λ r. behind_turn (found_run step (objects_run holds step body n)) r.0 r.1) (q, t) f in
        let g = runs stack left u o.0.0 o.0.1 o.1 in
        let now = state stack g.0 o.0.1 in
        begun_on w x at m1 m2 to (state stack temp s) (state stack left u) stack q t c
        (behind w x at m2 m3 m4 to next end (found_run step (objects_run holds step body n)) (state stack left u) stack g.0 o.0.0 o.0.1 q t
        g.1 (mark_comes w at next m3 m4 now joint) joint.1 last.1 (λ left' u' f'. stepped left' u' f' on) o.2)
    turn false left u c f on =
        begun_on w x at m1 m4 to (state stack temp s) (state stack left u) stack q t (moved joint.1 c) (stepped left u f on)

pub objects_runs : (w : World) (x : Exits) (top next end : Label) (begins holds step : Truth) (body : Effect) (n : ℕ) (at : Label → Place)
    (from to : Place) →
    Then (BeginsLoop w begins holds top next end) (Then (Runs w (inside end next) body) (Then (Marks next) (Then
    (Branches false w step true top) (Marks end)))) at from to → Runs w x (found_run begins (objects_run holds step body n)) at from to
objects_runs w x top next end begins holds step body n at from to p stack temp s q t e =
    let o = opened (begins s) (λ p. if p.0 then objects_run holds step body n p.1 else Some (Done, p.1)) (q, t) e in
    let b = p.1 in
    let g = b.2 stack temp s o.0.0 o.0.1 o.1 in
    let p1 = p.2 in
    let p2 = p1.2 in
    let p3 = p2.2 in
    begins_by b.0 b.1 p3.0 o.0.0 g.0 o.0.1 g.2 o.2 b.3 p3.2
    (λ left u f. objects_turns w x at b.0 b.1 p.0 p1.0 p2.0 p3.0 to top next end holds step body b.3 b.4 p1.1 p2.1 p3.1 p3.2 n stack left u
    q t f)
  where
    begins_by : (m m1 m5 : Place) (z : Bool) (left : ℕ) (u : Store) →
        Comes w at from (state stack temp s) (if same z false then at end else m) (state stack left u) →
        (if z then objects_run holds step body n u else Some (Done, u)) ≡ Some (q, t) → Marks top at m m1 → Marks end at m5 to →
        GoesOn w x at m1 (objects_run holds step body n) stack q to t →
        (left' : ℕ) × Reaches w x at from (state stack temp s) to q (state stack left' t)
    begins_by m m1 m5 true left u c f first last on = begun_on w x at from m1 to (state stack temp s) (state stack left u) stack q t
        (comes_then c (mark_comes w at top m m1 (state stack left u) first)) (on left u f)
    begins_by m m1 m5 false left u c f first last on = ends_as w x at from to (state stack temp s) stack left Done q u t f (moved last.1 c)
