-- Cases of a `switch`, one behind the other.
use Rattle.std.proofs.Common.{◌≡◌, ℕ, List, ◌∷◌, Option, Some, Bool, true, false, refl, ◌∙◌, ap, sym, subst, if◌then◌else◌}
use Rattle.inf_settings.specs.Bounds.{Limits}
use Rattle.inf_opcode.specs.declared.instructions.Label.{Label}
use Rattle.inf_expressions.specs.Numbers.{same}
use Rattle.inf_constructs.specs.{Constructs.case_closed, declared.constructs.Case.Case}
use Rattle.inf_interpreter.specs.Machine.{World, Store, State, Place, ◌then◌}
use Rattle.inf_interpreter.specs.Claims.{Claim, Comes, state}
use Rattle.inf_interpreter.proofs.Laying.{Always, Marks, Then, jumped_, marked_, nothing_, then_}
use Rattle.inf_interpreter.proofs.Running.{comes_then, here, opened, same_some}
use Rattle.inf_meaning_laws.specs.Laws.{GivesNothing}
use Rattle.inf_meaning_laws.proofs.Instructions.{begun, jump_comes, mark_comes, moved}
use Rattle.inf_control_laws.specs.Control.{Before, Broke, Change, Continued, Done, Effect, Mode, Outcome, Returned, Seeks, Truth, Walk}
use Rattle.inf_control_laws.specs.Control.{Within, behind_switch, both_walk, case_by, case_tested, case_walk, own_walk, walk_run, walked_on}
use Rattle.inf_control_laws.specs.Parts.{BeginsCase, EndsCase, TestsCase, jump}
use Rattle.inf_control_laws.specs.Runs.{Exits, GoesTo, Leaves, Reaches, Runs}
use Rattle.inf_control_laws.proofs.Reaching.{ends_as, goes_behind, leaves_behind, reaches_behind}

-- The place of control between two pieces of a `switch`, by its mode and the case that is open there: between the pieces, or behind the
-- mark of the label that the tests of this case lead to, which is to come.
abbrev pub StandsAt : Mode → Case → (Label → Place) → Place → Place → Type 0
StandsAt Before Case.Nothing at p q = q ≡ p
StandsAt Seeks (Case.Values next) at p q = q ≡ at next
StandsAt Within (Case.Values next) at p q = q ≡ p
StandsAt Within Case.Default at p q = q ≡ p
StandsAt m old at p q = ⊥

abbrev pub Walked : World → Exits → (Label → Place) → Place → State → Place → Case → Mode → Outcome → State → Type 0
Walked w x at from start to new m Done now = (q : Place) × StandsAt m new at to q × Comes w at from start q now
Walked w x at from start to new m Broke now = GoesTo w at from start x.breaks now
Walked w x at from start to new m Continued now = GoesTo w at from start x.continues now
Walked w x at from start to new m (Returned n) now = Leaves w at from start n now.store

abbrev pub Walks : World → Exits → Case → Case → Walk → Claim
Walks w x old new walk at from to =
    (m : Mode) (q : Place) → StandsAt m old at from q →
    (stack : List ℕ) (temp : ℕ) (s : Store) (z : Mode) (r : Outcome) (t : Store) → walk m s ≡ Some (z, r, t) →
    (left : ℕ) × Walked w x at q (state stack temp s) to new z r (state stack left t)

-- an end that is known
abbrev SameWalk : Option (Mode × Outcome × Store) → Option (Mode × Outcome × Store) → Type 0
SameWalk x y = x ≡ y

walked_as : (w : World) (x : Exits) (at : Label → Place) (from to : Place) (new : Case) (start : State) (stack : List ℕ) (left : ℕ)
    (m z : Mode) (r q : Outcome) (u t : Store) → SameWalk (Some (m, r, u)) (Some (z, q, t)) →
    Walked w x at from start to new m r (state stack left u) →
    (left' : ℕ) × Walked w x at from start to new z q (state stack left' t)
walked_as w x at from to new start stack left m z r q u t e c =
    (left, subst (λ y. Walked w x at from start to new y.0 y.1 (state stack left y.2)) (same_some e) c)

-- from a place that leads to another one
walked_behind : (w : World) (x : Exits) (at : Label → Place) (a b to : Place) (new : Case) (s u now : State) (m : Mode) (r : Outcome) →
    Comes w at a s b u → Walked w x at b u to new m r now → Walked w x at a s to new m r now
walked_behind w x at a b to new s u now m Done c g = (g.0, g.1, comes_then c g.2)
walked_behind w x at a b to new s u now m Broke c g = goes_behind w at a b s u now x.breaks c g
walked_behind w x at a b to new s u now m Continued c g = goes_behind w at a b s u now x.continues c g
walked_behind w x at a b to new s u now m (Returned n) c g = leaves_behind w at a b s u n now.store c g

-- Lemmas about statements of a case

seeks_on : (old : Case) (at : Label → Place) (from to q : Place) → StandsAt Seeks old at from q → StandsAt Seeks old at to q
seeks_on Case.Nothing at from to q h = absurd h
seeks_on (Case.Values next) at from to q h = h
seeks_on Case.Default at from to q h = absurd h

before_on : (old : Case) (at : Label → Place) (from to q : Place) → StandsAt Before old at from q →
    (q ≡ from) × StandsAt Before old at to to
before_on Case.Nothing at from to q h = (h, refl)
before_on (Case.Values next) at from to q h = absurd h
before_on Case.Default at from to q h = absurd h

within_on : (old : Case) (at : Label → Place) (from to q : Place) → StandsAt Within old at from q →
    (q ≡ from) × StandsAt Within old at to to
within_on Case.Nothing at from to q h = absurd h
within_on (Case.Values next) at from to q h = (h, refl)
within_on Case.Default at from to q h = (h, refl)

own_walked : (w : World) (x : Exits) (at : Label → Place) (from to q : Place) (old : Case) (m : Mode) (start : State) (r : Outcome)
    (now : State) → q ≡ from → StandsAt m old at to to → Reaches w x at from start to r now → Walked w x at q start to old m r now
own_walked w x at from to q old m start Done now e h c = (to, h, begun (sym e) c)
own_walked w x at from to q old m start Broke now e h c = subst (λ p. GoesTo w at p start x.breaks now) (sym e) c
own_walked w x at from to q old m start Continued now e h c = subst (λ p. GoesTo w at p start x.continues now) (sym e) c
own_walked w x at from to q old m start (Returned n) now e h c = subst (λ p. Leaves w at p start n now.store) (sym e) c

pub own_walks : (w : World) (x : Exits) (old : Case) (e : Effect) (at : Label → Place) (from to : Place) → Runs w x e at from to →
    Walks w x old old (own_walk e) at from to
own_walks w x old e at from to g Before q h stack temp s z r t f =
    let o = opened (e s) (λ r. Some (Before, r.0, r.1)) (z, r, t) f in
    let c = g stack temp s o.0.0 o.0.1 o.1 in
    let k = before_on old at from to q h in
    walked_as w x at q to old (state stack temp s) stack c.0 Before z o.0.0 r o.0.1 t o.2
    (own_walked w x at from to q old Before (state stack temp s) o.0.0 (state stack c.0 o.0.1) k.0 k.1 c.1)
own_walks w x old e at from to g Seeks q h stack temp s z r t f =
    walked_as w x at q to old (state stack temp s) stack temp Seeks z Done r s t f
    (q, seeks_on old at from to q h, here w at q (state stack temp s))
own_walks w x old e at from to g Within q h stack temp s z r t f =
    let o = opened (e s) (λ r. Some (Within, r.0, r.1)) (z, r, t) f in
    let c = g stack temp s o.0.0 o.0.1 o.1 in
    let k = within_on old at from to q h in
    walked_as w x at q to old (state stack temp s) stack c.0 Within z o.0.0 r o.0.1 t o.2
    (own_walked w x at from to q old Within (state stack temp s) o.0.0 (state stack c.0 o.0.1) k.0 k.1 c.1)

-- Lemmas about one piece behind another
walked_then : (w : World) (x : Exits) (mid new : Case) (second : Walk) (at : Label → Place) (from m to : Place) (start : State)
    (stack : List ℕ) (left : ℕ) (mode : Mode) (r : Outcome) (u : Store) (z : Mode) (q : Outcome) (t : Store) →
    Walked w x at from start m mid mode r (state stack left u) → Walks w x mid new second at m to →
    walked_on second mode r u ≡ Some (z, q, t) → (left' : ℕ) × Walked w x at from start to new z q (state stack left' t)
walked_then w x mid new second at from m to start stack left mode Done u z q t c k e =
    let g = k mode c.0 c.1 stack left u z q t e in
    (g.0, walked_behind w x at from c.0 to new start (state stack left u) (state stack g.0 t) z q c.2 g.1)
walked_then w x mid new second at from m to start stack left mode Broke u z q t c k e =
    walked_as w x at from to new start stack left mode z Broke q u t e c
walked_then w x mid new second at from m to start stack left mode Continued u z q t c k e =
    walked_as w x at from to new start stack left mode z Continued q u t e c
walked_then w x mid new second at from m to start stack left mode (Returned n) u z q t c k e =
    walked_as w x at from to new start stack left mode z (Returned n) q u t e c

pub both_walks : (w : World) (x : Exits) (old mid new : Case) (first second : Walk) (at : Label → Place) (from to : Place) →
    Then (Walks w x old mid first) (Walks w x mid new second) at from to → Walks w x old new (both_walk first second) at from to
both_walks w x old mid new first second at from to p m q h stack temp s z r t e =
    let o = opened (first m s) (λ y. walked_on second y.0 y.1 y.2) (z, r, t) e in
    let g = p.1 m q h stack temp s o.0.0 o.0.1 o.0.2 o.1 in
    walked_then w x mid new second at q p.0 to (state stack temp s) stack g.0 o.0.0 o.0.1 o.0.2 z r t g.1 p.2 o.2

-- A case: where its tests begin, and where they lead
tests_begin : (w : World) (x : Exits) (at : Label → Place) (q m to : Place) (holds : Truth) (new : Case) → TestsCase w holds new at m to →
    q ≡ m → (stack : List ℕ) (temp : ℕ) (s : Store) (z : Mode) (r : Outcome) (t : Store) →
    case_tested holds s ≡ Some (z, r, t) →
    (left : ℕ) × Walked w x at q (state stack temp s) to new z r (state stack left t)
tests_begin w x at q m to holds Case.Nothing h there stack temp s z r t e = absurd h
tests_begin w x at q m to holds (Case.Values next) h there stack temp s z r t e =
    let o = opened (holds s) (λ p. case_by p.0 p.1) (z, r, t) e in
    let g = h stack temp s o.0.0 o.0.1 o.1 in
    lead o.0.0 g.0 o.0.1 (begun (sym there) g.2) o.2
  where
    lead : (b : Bool) (left : ℕ) (u : Store) →
        Comes w at q (state stack temp s) (if same b false then at next else to) (state stack left u) →
        case_by b u ≡ Some (z, r, t) →
        (left' : ℕ) × Walked w x at q (state stack temp s) to (Case.Values next) z r (state stack left' t)
    lead true left u c f = walked_as w x at q to (Case.Values next) (state stack temp s) stack left Within z Done r u t f (to, refl, c)
    lead false left u c f = walked_as w x at q to (Case.Values next) (state stack temp s) stack left Seeks z Done r u t f (at next, refl, c)
tests_begin w x at q m to holds Case.Default h there stack temp s z r t e =
    let o = opened (holds s) (λ p. case_by p.0 p.1) (z, r, t) e in
    let g = h stack temp s o.0.0 o.0.1 o.1 in
    walked_as w x at q to Case.Default (state stack temp s) stack g.0 Within z Done r o.0.1 t
    (ap (λ b. case_by b o.0.1) (sym g.1) ∙ o.2) (to, refl, begun (sym there) g.2)

jumps_out : (w : World) (x : Exits) (at : Label → Place) (from to q : Place) (end : Label) (new : Case) (m : Place) →
    x.breaks ≡ Some end → q ≡ from → from ≡ jump end ∷ m → (stack : List ℕ) (temp : ℕ) (s : Store) (z : Mode) (r : Outcome) (t : Store) →
    SameWalk (Some (Within, Broke, s)) (Some (z, r, t)) → (left : ℕ) × Walked w x at q (state stack temp s) to new z r (state stack left t)
jumps_out w x at from to q end new m breaks there place stack temp s z r t e =
    let now = state stack temp s in
    walked_as w x at q to new now stack temp Within z Broke r s t e
    (subst (λ l. GoesTo w at q now l now) (sym breaks) (begun (sym there) (jump_comes w at end from m now place)))

pub case_walks : (w : World) (x : Exits) (holds : Truth) (old new : Case) (end : Label) → x.breaks ≡ Some end → (at : Label → Place)
    (from to : Place) → BeginsCase w holds old new end at from to → Walks w x old new (case_walk holds) at from to
case_walks w x holds Case.Nothing new end breaks at from to b Before q h stack temp s z r t e =
    tests_begin w x at q b.0 to holds new b.2 (h ∙ b.1) stack temp s z r t e
case_walks w x holds (Case.Values next) new end breaks at from to b Seeks q h stack temp s z r t e =
    tests_begin w x at q b.0 to holds new b.2 (h ∙ b.1.2.1) stack temp s z r t e
case_walks w x holds (Case.Values next) new end breaks at from to b Within q h stack temp s z r t e =
    jumps_out w x at from to q end new b.1.0 breaks h b.1.1 stack temp s z r t e
case_walks w x holds Case.Default new end breaks at from to b Within q h stack temp s z r t e =
    jumps_out w x at from to q end new b.0 breaks h b.1 stack temp s z r t e
case_walks w x holds old new end breaks at from to b m q h stack temp s z r t e = absurd h

-- The end of a `switch`: the case that is open ends, and the label of the end is marked.
closes : (w : World) (at : Label → Place) (m1 m2 to q : Place) (end : Label) (new : Case) (m : Mode) (now : State) →
    StandsAt m new at m1 q → EndsCase new end at m1 m2 → Marks end at m2 to → Comes w at q now to now
closes w at m1 m2 to q end Case.Nothing Before now h e k = begun (sym (h ∙ e)) (mark_comes w at end m2 to now k)
closes w at m1 m2 to q end (Case.Values next) Seeks now h e k = begun (sym (h ∙ e.2.1)) (mark_comes w at end m2 to now k)
closes w at m1 m2 to q end (Case.Values next) Within now h e k = begun (sym h) (moved k.1 (jump_comes w at end m1 e.0 now e.1))
closes w at m1 m2 to q end Case.Default Within now h e k = begun (sym h) (moved k.1 (jump_comes w at end m1 m2 now e))
closes w at m1 m2 to q end new m now h e k = absurd h

ends_by : (w : World) (x y : Exits) (at : Label → Place) (from m1 m2 to : Place) (end : Label) (new : Case) → y.breaks ≡ Some end →
    y.continues ≡ x.continues → EndsCase new end at m1 m2 → Marks end at m2 to → (start : State) (stack : List ℕ) (left : ℕ) (m : Mode)
    (r : Outcome) (u : Store) (q : Outcome) (t : Store) → Walked w y at from start m1 new m r (state stack left u) →
    behind_switch r u ≡ Some (q, t) → (left' : ℕ) × Reaches w x at from start to q (state stack left' t)
ends_by w x y at from m1 m2 to end new breaks continues ends mark start stack left m Done u q t c e =
    ends_as w x at from to start stack left Done q u t e
    (comes_then c.2 (closes w at m1 m2 to c.0 end new m (state stack left u) c.1 ends mark))
ends_by w x y at from m1 m2 to end new breaks continues ends mark start stack left m Broke u q t c e =
    ends_as w x at from to start stack left Done q u t e
    (moved mark.1 (subst (λ l. GoesTo w at from start l (state stack left u)) breaks c))
ends_by w x y at from m1 m2 to end new breaks continues ends mark start stack left m Continued u q t c e =
    ends_as w x at from to start stack left Continued q u t e (subst (λ l. GoesTo w at from start l (state stack left u)) continues c)
ends_by w x y at from m1 m2 to end new breaks continues ends mark start stack left m (Returned n) u q t c e =
    ends_as w x at from to start stack left (Returned n) q u t e c

pub switch_runs : (w : World) (x y : Exits) (end : Label) (new : Case) (keeps : Change) (walk : Walk) → y.breaks ≡ Some end →
    y.continues ≡ x.continues → (at : Label → Place) (from to : Place) →
    Then (GivesNothing w keeps) (Then (Walks w y Case.Nothing new walk) (Then (EndsCase new end) (Marks end))) at from to →
    Runs w x (λ s. keeps s then λ t. walk_run walk t) at from to
switch_runs w x y end new keeps walk breaks continues at from to p stack temp s q t e =
    let o = opened (keeps s) (λ u. walk_run walk u) (q, t) e in
    let g = p.1 stack temp s o.0 o.1 in
    let v = opened (walk Before o.0) (λ r. behind_switch r.1 r.2) (q, t) o.2 in
    let p1 = p.2 in
    let p2 = p1.2 in
    let c = p1.1 Before p.0 refl stack g.0 o.0 v.0.0 v.0.1 v.0.2 v.1 in
    let r = ends_by w x y at p.0 p1.0 p2.0 to end new breaks continues p2.1 p2.2 (state stack g.0 o.0) stack c.0 v.0.0 v.0.1 v.0.2 q t c.1
    v.2 in
    (r.0, reaches_behind w x at from p.0 to (state stack temp s) (state stack g.0 o.0) (state stack r.0 t) q g.1 r.1)

pub ends_case : (w : World) (limits : Limits) (new : Case) (end : Label) → Always w (case_closed limits new end) (EndsCase new end)
ends_case w limits Case.Nothing end = nothing_
ends_case w limits (Case.Values next) end = then_ (jumped_ limits end) (marked_ limits next)
ends_case w limits Case.Default end = jumped_ limits end
