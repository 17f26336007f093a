-- The book of a compilation: labels with names are due until they are given, and an open `switch` has its end and the next case due.
-- Statements that hold others hand labels out, and mark each of them once.
use Rattle.std.proofs.Common.{Bool, List, None, [], arith, false, true, ℕ, ◌+◌, ◌∙◌, ◌∷◌, ◌≡◌, ◌≤◌}
use Rattle.inf_settings.specs.Bounds.{Limits}
use Rattle.inf_opcode.specs.declared.instructions.Label.{Label}
use Rattle.inf_output.specs.Output.{Out, behind, marked}
use Rattle.inf_constructs.specs.{Constructs.opened, Constructs.with_labels, Labels.NamedLabel, declared.constructs.Case.Case}
use Rattle.inf_constructs.specs.{declared.constructs.Construct.Construct, declared.constructs.Kind.Kind, declared.constructs.Over.Over}
use Rattle.inf_code_walk.specs.Made.{times}
use Rattle.inf_label_laws.proofs.Owning.{owned_mark}
use Rattle.inf_routine_laws.specs.Laws.{LeavesRoutine}
use Rattle.inf_routine_laws.proofs.Booking.{Came, Counts, Sound, came, one, one_is, paid_together, sound_as, sound_label, sound_paid}
use Rattle.inf_routine_laws.proofs.Booking.{sound_still}

-- Lemmas about labels with names

abbrev pub unless_given : Bool → ℕ → ℕ
unless_given true n = 0
unless_given false n = n

abbrev pub named_due : ℕ → List NamedLabel → ℕ
named_due n [] = 0
named_due n (l ∷ labels) = unless_given l.known.is_given (one n l.known.label) + named_due n labels

abbrev pub named_all : ℕ → List NamedLabel → ℕ
named_all n [] = 0
named_all n (l ∷ labels) = one n l.known.label + named_all n labels

-- Open statements: the labels that cases have due, and all to which `break`, `continue` and conditions go

abbrev pub case_due : ℕ → Case → ℕ
case_due n Case.Nothing = 0
case_due n (Case.Values next) = one n next
case_due n Case.Default = 0

abbrev pub cased_in : ℕ → Construct → Kind → ℕ
cased_in n c (Kind.Switch old had_default) = case_due n old + one n c.end
cased_in n c (Kind.Cases old had_default) = case_due n old + one n c.end
cased_in n c _ = 0

abbrev pub cased : ℕ → List Construct → ℕ
cased n [] = 0
cased n (c ∷ constructs) = cased_in n c c.kind + cased n constructs

abbrev pub reached_in : ℕ → Construct → Kind → ℕ
reached_in n c Kind.If = one n c.next
reached_in n c Kind.Else = one n c.end
reached_in n c Kind.Do = one n c.top + (one n c.next + one n c.end)
reached_in n c (Kind.Switch old had_default) = case_due n old + one n c.end
reached_in n c (Kind.Cases old had_default) = case_due n old + one n c.end
reached_in n c kind = one n c.next + one n c.end

abbrev pub reached : ℕ → List Construct → ℕ
reached n [] = 0
reached n (c ∷ constructs) = reached_in n c c.kind + reached n constructs

-- Lemmas about books

pub record Good (due spare extra : Counts) (labels : List NamedLabel) (constructs : List Construct) (o : Out) : Type 0 where
  pub together : o.kept ≡ None
  pub sound : Sound (λ n. due n + (named_due n labels + cased n constructs)) spare
      (λ n. extra n + (reached n constructs + named_all n labels)) o

pub good_paid : (needs given : List ℕ) (due left spare extra : Counts) (labels : List NamedLabel) (constructs : List Construct)
    (o q : Out) →
    Good due spare extra labels constructs o → Came needs given o q → ((n : ℕ) → due n ≡ times n given + left n) →
    ((n : ℕ) → 1 ≤ times n needs → 1 ≤ extra n + (reached n constructs + named_all n labels)) →
    Good left spare extra labels constructs q
good_paid needs given due left spare extra labels constructs o q g c h k = record {
  together = paid_together needs given o q g.together c;
  sound = sound_paid needs given (λ n. due n + (named_due n labels + cased n constructs))
      (λ n. left n + (named_due n labels + cased n constructs)) spare (λ n. extra n + (reached n constructs + named_all n labels)) o q
      g.together g.sound c (λ n. let e = h n in paid n (due n) (left n) (named_due n labels + cased n constructs) e) k;
}
  where
    paid : (n d l x : ℕ) → d ≡ times n given + l → d + x ≡ times n given + (l + x)
    paid n d l x e = omega (arith, e)

pub good_still : (due spare extra : Counts) (labels : List NamedLabel) (constructs : List Construct) (o q : Out) → LeavesRoutine o q →
    Good due spare extra labels constructs o → Good due spare extra labels constructs q
good_still due spare extra labels constructs o q l g = record {
  together = l.kept ∙ g.together;
  sound = sound_still (λ n. due n + (named_due n labels + cased n constructs)) spare
      (λ n. extra n + (reached n constructs + named_all n labels))
      o q l g.sound;
}

-- Labels become due, and other statements are open.
pub record Turns (due spare extra more rest other : Counts) (before after : List Construct) : Type 0 where
  pub once : (n : ℕ) → (more n + cased n after) + rest n ≤ (due n + cased n before) + spare n
  pub all : (n : ℕ) → due n + cased n before ≤ more n + cased n after
  pub known : (n : ℕ) → other n + reached n after ≤ (extra n + reached n before) + (more n + cased n after)

pub good_as : (due spare extra more rest other : Counts) (labels : List NamedLabel) (before after : List Construct) (o : Out) →
    Turns due spare extra more rest other before after → Good due spare extra labels before o → Good more rest other labels after o
good_as due spare extra more rest other labels before after o t g = record {
  together = g.together;
  sound = sound_as (λ n. due n + (named_due n labels + cased n before)) spare (λ n. extra n + (reached n before + named_all n labels))
      (λ n. more n + (named_due n labels + cased n after)) rest (λ n. other n + (reached n after + named_all n labels)) o g.sound
      (λ n. once (more n) (cased n after) (rest n) (due n) (cased n before) (spare n) (named_due n labels) (t.once n))
      (λ n. all (due n) (cased n before) (more n) (cased n after) (named_due n labels) (t.all n))
      (λ n. known (other n) (reached n after) (extra n) (reached n before) (more n) (cased n after) (named_all n labels)
      (named_due n labels)
      (t.known n));
}
  where
    once : (m a r d b s l : ℕ) → (m + a) + r ≤ (d + b) + s → (m + (l + a)) + r ≤ (d + (l + b)) + s
    once m a r d b s l h = omega (arith, h)

    all : (d b m a l : ℕ) → d + b ≤ m + a → d + (l + b) ≤ m + (l + a)
    all d b m a l h = omega (arith, h)

    known : (x r e b m a l k : ℕ) → x + r ≤ (e + b) + (m + a) → 1 ≤ x + (r + l) → 1 ≤ (e + (b + l)) + (m + (k + a))
    known x r e b m a l k h some = omega (arith, h, some)

-- The labels of a statement are handed out: each is spare.
abbrev pub handed : Out → Out
handed o = record o { next = behind (behind (behind o.next)) }

pub good_label : (due spare extra : Counts) (labels : List NamedLabel) (constructs : List Construct) (o : Out) →
    Good due spare extra labels constructs o →
    Good due (λ n. spare n + one n (record { number = o.next })) extra labels constructs (record o { next = behind o.next })
good_label due spare extra labels constructs o g = record {
  together = g.together;
  sound = sound_label (λ n. due n + (named_due n labels + cased n constructs)) spare
      (λ n. extra n + (reached n constructs + named_all n labels)) o
      g.sound;
}

-- the labels of a statement
abbrev top_of : Out → Label
top_of o = record { number = o.next }

abbrev next_of : Out → Label
next_of o = record { number = behind o.next }

abbrev end_of : Out → Label
end_of o = record { number = behind (behind o.next) }

good_handed : (due spare extra : Counts) (labels : List NamedLabel) (constructs : List Construct) (o : Out) →
    Good due spare extra labels constructs o →
    Good due (λ n. ((spare n + one n (top_of o)) + one n (next_of o)) + one n (end_of o)) extra labels constructs (handed o)
good_handed due spare extra labels constructs o g =
    let a = good_label due spare extra labels constructs o g in
    let p = record o { next = behind o.next } in
    let b = good_label due (λ n. spare n + one n (top_of o)) extra labels constructs p a in
    let q = record o { next = behind (behind o.next) } in
    good_label due (λ n. (spare n + one n (top_of o)) + one n (next_of o)) extra labels constructs q b

-- A statement is opened: some of its labels are due, and some are spare, also where one is marked at once.
good_opened : (k : Kind) (due spare extra more rest other : Counts) (labels : List NamedLabel) (around : List Construct) (o : Out) →
    Good due spare extra labels around o →
    Turns due (λ n. ((spare n + one n (top_of o)) + one n (next_of o)) + one n (end_of o)) extra more rest other around
    ((with_labels k o).0 ∷ around) →
    Good more rest other labels ((with_labels k o).0 ∷ around) (handed o)
good_opened k due spare extra more rest other labels around o g t =
    good_as due (λ n. ((spare n + one n (top_of o)) + one n (next_of o)) + one n (end_of o)) extra more rest other labels around
    ((with_labels k o).0 ∷ around) (handed o) t (good_handed due spare extra labels around o g)

pub opened_if : (limits : Limits) (due spare extra : Counts) (labels : List NamedLabel) (around : List Construct) (o : Out) →
    Good due spare extra labels around o →
    let c = opened limits Kind.If o in
    Good (λ n. one n c.0.next + due n) (λ n. one n c.0.end + spare n) extra labels (c.0 ∷ around) c.1
unfolding opened
opened_if limits due spare extra labels around o g =
    good_opened Kind.If due spare extra (λ n. one n (next_of o) + due n) (λ n. one n (end_of o) + spare n) extra labels around o g
    (record { once = λ n. omega arith; all = λ n. omega arith; known = λ n. omega arith })

pub opened_while : (limits : Limits) (due spare extra : Counts) (labels : List NamedLabel) (around : List Construct) (o : Out) →
    Good due spare extra labels around o →
    let c = opened limits Kind.While o in Good (λ n. one n c.0.end + due n) spare extra labels (c.0 ∷ around) c.1
unfolding opened
opened_while limits due spare extra labels around o g =
    let c = (with_labels Kind.While o).0 in
    let more : Counts = λ n. one n (next_of o) + (one n (end_of o) + due n) in
    good_paid [] (c.next.number ∷ []) more (λ n. one n (end_of o) + due n) spare extra labels (c ∷ around) (handed o)
    (marked limits c.next (handed o))
    (good_opened Kind.While due spare extra more spare extra labels around o g
    (record { once = λ n. omega arith; all = λ n. omega arith; known = λ n. omega arith }))
    (came {needs = []} {given = c.next.number ∷ []} (owned_mark limits c.next) (handed o))
    (λ n. let e = one_is n c.next in paid (one n c.next) (one n (end_of o) + due n) (times n (c.next.number ∷ [])) e)
    (λ n h. absurd (omega (arith, h)))
  where
    paid : (a b t : ℕ) → t ≡ a → a + b ≡ t + b
    paid a b t e = omega (arith, e)

pub opened_do : (limits : Limits) (due spare extra : Counts) (labels : List NamedLabel) (around : List Construct) (o : Out) →
    Good due spare extra labels around o →
    let c = opened limits Kind.Do o in Good (λ n. one n c.0.next + (one n c.0.end + due n)) spare extra labels (c.0 ∷ around) c.1
unfolding opened
opened_do limits due spare extra labels around o g =
    let c = (with_labels Kind.Do o).0 in
    let left : Counts = λ n. one n (next_of o) + (one n (end_of o) + due n) in
    good_paid [] (c.top.number ∷ []) (λ n. one n (top_of o) + left n) left spare extra labels (c ∷ around) (handed o)
    (marked limits c.top (handed o))
    (good_opened Kind.Do due spare extra (λ n. one n (top_of o) + left n) spare extra labels around o g
    (record { once = λ n. omega arith; all = λ n. omega arith; known = λ n. omega arith }))
    (came {needs = []} {given = c.top.number ∷ []} (owned_mark limits c.top) (handed o))
    (λ n. let e = one_is n c.top in paid (one n c.top) (left n) (times n (c.top.number ∷ [])) e)
    (λ n h. absurd (omega (arith, h)))
  where
    paid : (a b t : ℕ) → t ≡ a → a + b ≡ t + b
    paid a b t e = omega (arith, e)

-- A loop begins with all its labels due, and its top is known from there on.
abbrev pub loop_due : Construct → Counts → Counts
loop_due c due n = one n c.top + (one n c.next + (one n c.end + due n))

abbrev pub top_known : Construct → Counts → Counts
top_known c extra n = one n c.top + extra n

pub opened_for : (limits : Limits) (due spare extra : Counts) (labels : List NamedLabel) (around : List Construct) (o : Out) →
    Good due spare extra labels around o →
    let c = opened limits Kind.For o in Good (loop_due c.0 due) spare (top_known c.0 extra) labels (c.0 ∷ around) c.1
unfolding opened
opened_for limits due spare extra labels around o g =
    let c = (with_labels Kind.For o).0 in
    good_opened Kind.For due spare extra (loop_due c due) spare (top_known c extra) labels around o g
    (record { once = λ n. omega arith; all = λ n. omega arith; known = λ n. omega arith })

pub opened_objects : (limits : Limits) (due spare extra : Counts) (labels : List NamedLabel) (around : List Construct) (o : Out) →
    Good due spare extra labels around o →
    let c = opened limits (Kind.Objects Over.Nothing 0) o in
    Good (loop_due c.0 due) spare (top_known c.0 extra) labels (c.0 ∷ around) c.1
unfolding opened
opened_objects limits due spare extra labels around o g =
    let k = Kind.Objects Over.Nothing 0 in
    let c = (with_labels k o).0 in
    good_opened k due spare extra (loop_due c due) spare (top_known c extra) labels around o g
    (record { once = λ n. omega arith; all = λ n. omega arith; known = λ n. omega arith })

pub opened_switch : (limits : Limits) (due spare extra : Counts) (labels : List NamedLabel) (around : List Construct) (o : Out) →
    Good due spare extra labels around o →
    let c = opened limits (Kind.Switch Case.Nothing false) o in Good due spare extra labels (c.0 ∷ around) c.1
unfolding opened
opened_switch limits due spare extra labels around o g =
    good_opened (Kind.Switch Case.Nothing false) due spare extra due spare extra labels around o g
    (record { once = λ n. omega arith; all = λ n. omega arith; known = λ n. omega arith })

pub opened_cases : (limits : Limits) (due spare extra : Counts) (labels : List NamedLabel) (o : Out) → Good due spare extra labels [] o →
    let c = opened limits (Kind.Cases Case.Nothing false) o in Good due spare extra labels (c.0 ∷ []) c.1
unfolding opened
opened_cases limits due spare extra labels o g = good_opened (Kind.Cases Case.Nothing false) due spare extra due spare extra labels [] o g
    (record { once = λ n. omega arith; all = λ n. omega arith; known = λ n. omega arith })
