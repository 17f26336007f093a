-- The code that statements which hold others lay themselves: where the word is read, between their parts, and at their end.
use Rattle.std.proofs.Common.{◌≡◌, ℕ, List, [], ◌∷◌, Some, true, false, refl, ap, sym}
use Rattle.inf_settings.specs.Bounds.{Limits}
use Rattle.inf_output.specs.Output.{Out, items_of, jumped, laid_all, marked, ◌▸◌}
use Rattle.inf_constructs.specs.declared.{constructs.Case.Case, constructs.Construct.Construct, constructs.Kind.Kind, constructs.Over.Over}
use Rattle.inf_constructs.specs.Constructs.{between, case_closed, closed, ending, giving, joint, kind_behind, left_to, looped_on, opened}
use Rattle.inf_constructs.specs.Constructs.{with_labels}
use Rattle.inf_statement_laws.specs.Laid.{with_kind_in, with_step_in}
use Rattle.inf_interpreter.specs.Machine.{World}
use Rattle.inf_interpreter.proofs.Laying.{Lies, Marks, Then, jump_to, jumped_, marked_, then_}
use Rattle.inf_interpreter.proofs.Running.{none_some, same_some}
use Rattle.inf_control_laws.specs.{Parts.IsOver, Parts.case_in, Parts.open_case, Runs.Lays, Runs.LaysNone, Runs.exits}
use Rattle.inf_control_laws.proofs.{Laying.lays_code, Laying.none_alike, Laying.none_then, Turning.inside}

-- Lemmas about `if`
pub if_opened : (limits : Limits) (o : Out) → LaysNone o (opened limits Kind.If o).1
unfolding opened
if_opened limits o = none_alike o (opened limits Kind.If o).1 refl refl refl refl

pub if_exits : (limits : Limits) (o : Out) (around : List Construct) → exits ((opened limits Kind.If o).0 ∷ around) ≡ exits around
unfolding opened
if_exits limits o around = refl

pub if_closed : (w : World) (limits : Limits) (o u : Out) →
    let c = (opened limits Kind.If o).0 in Lays w (Marks c.next) u (closed limits c u)
unfolding opened closed
if_closed w limits o u =
    let c = (opened limits Kind.If o).0 in lays_code w (marked limits c.next) (Marks c.next) (marked_ limits c.next) u

-- Lemmas about `else`
pub if_joined : (w : World) (limits : Limits) (o u : Out) →
    let c = (opened limits Kind.If o).0 in Lays w (Then (Lies (jump_to c.end)) (Marks c.next)) u (between limits c u).1
unfolding opened between
if_joined w limits o u =
    let c = (opened limits Kind.If o).0 in
    lays_code w (jumped limits c.end ▸ marked limits c.next) (Then (Lies (jump_to c.end)) (Marks c.next))
    (then_ (jumped_ limits c.end) (marked_ limits c.next)) u

pub else_exits : (limits : Limits) (o u : Out) (around : List Construct) →
    exits ((between limits (opened limits Kind.If o).0 u).0 ∷ around) ≡ exits around
unfolding opened between
else_exits limits o u around = refl

pub else_closed : (w : World) (limits : Limits) (o u z : Out) →
    let c = (opened limits Kind.If o).0 in Lays w (Marks c.end) z (closed limits (between limits c u).0 z)
unfolding opened between closed
else_closed w limits o u z =
    let c = (opened limits Kind.If o).0 in lays_code w (marked limits c.end) (Marks c.end) (marked_ limits c.end) z

-- Lemmas about `while`
pub while_opened : (w : World) (limits : Limits) (o : Out) → let c = opened limits Kind.While o in Lays w (Marks c.0.next) o c.1
unfolding opened
while_opened w limits o =
    let m = with_labels Kind.While o in
    none_then w (Marks m.0.next) o m.1 (marked limits m.0.next m.1) (none_alike o m.1 refl refl refl refl)
    (lays_code w (marked limits m.0.next) (Marks m.0.next) (marked_ limits m.0.next) m.1)

pub while_exits : (limits : Limits) (o : Out) (around : List Construct) →
    let c = (opened limits Kind.While o).0 in exits (c ∷ around) ≡ inside c.end c.next
unfolding opened
while_exits limits o around = refl

pub while_closed : (w : World) (limits : Limits) (o u : Out) →
    let c = (opened limits Kind.While o).0 in Lays w (Then (Lies (jump_to c.next)) (Marks c.end)) u (closed limits c u)
unfolding opened closed
while_closed w limits o u =
    let c = (opened limits Kind.While o).0 in
    lays_code w (jumped limits c.next ▸ marked limits c.end) (Then (Lies (jump_to c.next)) (Marks c.end))
    (then_ (jumped_ limits c.next) (marked_ limits c.end)) u

-- Lemmas about `do`
pub do_opened : (w : World) (limits : Limits) (o : Out) → let c = opened limits Kind.Do o in Lays w (Marks c.0.top) o c.1
unfolding opened
do_opened w limits o =
    let m = with_labels Kind.Do o in
    none_then w (Marks m.0.top) o m.1 (marked limits m.0.top m.1) (none_alike o m.1 refl refl refl refl)
    (lays_code w (marked limits m.0.top) (Marks m.0.top) (marked_ limits m.0.top) m.1)

pub do_exits : (limits : Limits) (o : Out) (around : List Construct) →
    let c = (opened limits Kind.Do o).0 in exits (c ∷ around) ≡ inside c.end c.next
unfolding opened
do_exits limits o around = refl

pub do_joined : (w : World) (limits : Limits) (o u : Out) →
    let c = (opened limits Kind.Do o).0 in Lays w (Marks c.next) u (between limits c u).1
unfolding opened between
do_joined w limits o u =
    let c = (opened limits Kind.Do o).0 in lays_code w (marked limits c.next) (Marks c.next) (marked_ limits c.next) u

pub do_closed : (w : World) (limits : Limits) (o u z : Out) →
    let c = (opened limits Kind.Do o).0 in Lays w (Marks c.end) z (closed limits (between limits c u).0 z)
unfolding opened between closed
do_closed w limits o u z =
    let c = (opened limits Kind.Do o).0 in lays_code w (marked limits c.end) (Marks c.end) (marked_ limits c.end) z

-- `for`, whose step is added to it
pub for_opened : (limits : Limits) (o : Out) → LaysNone o (opened limits Kind.For o).1
unfolding opened
for_opened limits o = none_alike o (opened limits Kind.For o).1 refl refl refl refl

pub for_joined : (w : World) (limits : Limits) (o u : Out) →
    let c = (opened limits Kind.For o).0 in Lays w (Marks c.top) u (between limits c u).1
unfolding opened between
for_joined w limits o u =
    let c = (opened limits Kind.For o).0 in lays_code w (marked limits c.top) (Marks c.top) (marked_ limits c.top) u

pub for_exits : (limits : Limits) (o u : Out) (constructs around : List Construct) →
    let c = (opened limits Kind.For o).0 in exits (with_step_in constructs (between limits c u).0 ∷ around) ≡ inside c.end c.next
unfolding opened between
for_exits limits o u [] around = refl
for_exits limits o u (d ∷ constructs) around = refl

pub for_closed : (limits : Limits) (o u z : Out) (constructs : List Construct) →
    let c = (opened limits Kind.For o).0 in
    let own = with_step_in constructs (between limits c u).0 in
    (marked limits c.next ▸ laid_all limits (items_of own.step) ▸ jumped limits c.top ▸ marked limits c.end) z ≡ closed limits own z
unfolding opened between closed
for_closed limits o u z [] = refl
for_closed limits o u z (d ∷ constructs) = refl

-- loops over objects, of which the unit changes the kind
pub objects_opened : (limits : Limits) (o : Out) → LaysNone o (opened limits (Kind.Objects Over.Nothing 0) o).1
unfolding opened
objects_opened limits o = none_alike o (opened limits (Kind.Objects Over.Nothing 0) o).1 refl refl refl refl

pub objects_joined : (limits : Limits) (c : Construct) (how : Over) (v : ℕ) → IsOver how → c.kind ≡ Kind.Objects how v → (u : Out) →
    between limits c u ≡ (record c { kind = Kind.Objects how v }, u)
unfolding between
objects_joined limits c Over.Nothing v some is u = absurd some
objects_joined limits c Over.Children v some is u = ap (λ k. giving (record c { kind = kind_behind k }) (joint limits c k) u) is
objects_joined limits c Over.All v some is u = ap (λ k. giving (record c { kind = kind_behind k }) (joint limits c k) u) is

pub objects_exits : (limits : Limits) (o : Out) (constructs around : List Construct) (how : Over) (v : ℕ) →
    let c = (opened limits (Kind.Objects Over.Nothing 0) o).0 in
    exits (record (with_kind_in constructs c) { kind = Kind.Objects how v } ∷ around) ≡ inside c.end c.next
unfolding opened
objects_exits limits o [] around how v = refl
objects_exits limits o (d ∷ constructs) around how v = refl

pub objects_closed : (limits : Limits) (o z : Out) (constructs : List Construct) (how : Over) (v : ℕ) →
    let c = (opened limits (Kind.Objects Over.Nothing 0) o).0 in
    (marked limits c.next ▸ looped_on limits how v c.top ▸ marked limits c.end) z
    ≡ closed limits (record (with_kind_in constructs c) { kind = Kind.Objects how v }) z
unfolding opened closed
objects_closed limits o z [] how v = refl
objects_closed limits o z (d ∷ constructs) how v = refl

-- Lemmas about `switch`
pub switch_opened : (limits : Limits) (o : Out) → LaysNone o (opened limits (Kind.Switch Case.Nothing false) o).1
unfolding opened
switch_opened limits o = none_alike o (opened limits (Kind.Switch Case.Nothing false) o).1 refl refl refl refl

pub switch_begins : (limits : Limits) (o : Out) (around : List Construct) →
    open_case ((opened limits (Kind.Switch Case.Nothing false) o).0 ∷ around) ≡ Some Case.Nothing
unfolding opened
switch_begins limits o around = refl

pub switch_exits : (limits : Limits) (o : Out) (around : List Construct) →
    let c = (opened limits (Kind.Switch Case.Nothing false) o).0 in
    exits (c ∷ around) ≡ record { breaks = Some c.end; continues = left_to true around }
unfolding opened
switch_exits limits o around = refl

ending_is : (limits : Limits) (c : Construct) (k : Kind) (new : Case) (z : Out) → case_in k ≡ Some new →
    (case_closed limits new c.end ▸ marked limits c.end) z ≡ ending limits c k z
ending_is limits c (Kind.Switch old had_default) new z e =
    ap (λ n. (case_closed limits n c.end ▸ marked limits c.end) z) (sym (same_some e))
ending_is limits c (Kind.Cases old had_default) new z e = ap (λ n. (case_closed limits n c.end ▸ marked limits c.end) z) (sym (same_some e))
ending_is limits c other new z e = none_some e

pub switch_closed : (limits : Limits) (c : Construct) (constructs : List Construct) (new : Case) (z : Out) →
    open_case constructs ≡ Some new →
    (case_closed limits new c.end ▸ marked limits c.end) z ≡ closed limits (with_kind_in constructs c) z
unfolding closed
switch_closed limits c [] new z e = none_some e
switch_closed limits c (d ∷ constructs) new z e = ending_is limits (record c { kind = d.kind }) d.kind new z e
