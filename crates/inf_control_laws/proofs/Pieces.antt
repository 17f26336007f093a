-- The pieces of each statement that holds others, one behind the other, from output to output.
use Rattle.std.proofs.Common.{◌≡◌, ℕ, List, Option, Some, true, false, subst}
use Rattle.inf_settings.specs.Bounds.{Limits}
use Rattle.inf_opcode.specs.declared.instructions.Label.{Label}
use Rattle.inf_output.specs.declared.items.Item.{Item}
use Rattle.inf_output.specs.Output.{Out, items_of, jumped, laid_all, marked, ◌▸◌}
use Rattle.inf_constructs.specs.{Constructs.case_closed, Constructs.looped_on, declared.constructs.Case.Case, declared.constructs.Over.Over}
use Rattle.inf_interpreter.specs.Machine.{World, ◌then◌}
use Rattle.inf_interpreter.proofs.Laying.{Lies, Marks, Then, jump_to, jumped_, marked_, then_}
use Rattle.inf_interpreter.proofs.Naming.{names_then}
use Rattle.inf_meaning_laws.specs.Laws.{Branches, GivesNothing}
use Rattle.inf_control_laws.specs.{Parts.BeginsLoop, Parts.EndsCase, Runs.Exits, Runs.KeepsApart, Runs.Lays, Runs.LaysNone, Runs.Runs}
use Rattle.inf_control_laws.specs.Control.{Change, Effect, Truth, both_run, else_run, for_run, found_run, if_run, objects_run, until_run}
use Rattle.inf_control_laws.specs.Control.{Walk, walk_run, while_run}
use Rattle.inf_control_laws.proofs.Laying.{kept_laid, lays_code, lays_so, lays_then, none_then, then_none}
use Rattle.inf_control_laws.proofs.Reaching.{both_runs, else_runs, if_runs}
use Rattle.inf_control_laws.proofs.Turning.{for_runs, inside, objects_runs, until_runs, while_runs}
use Rattle.inf_control_laws.proofs.Walking.{Walks, ends_case, switch_runs}

pub both_laid : (w : World) (x : Exits) (first second : Effect) (o0 o1 o2 : Out) → Lays w (Runs w x first) o0 o1 →
    Lays w (Runs w x second) o1 o2 → Lays w (Runs w x (both_run first second)) o0 o2
both_laid w x first second o0 o1 o2 one two =
    lays_so w (Then (Runs w x first) (Runs w x second)) (Runs w x (both_run first second)) o0 o2 (both_runs w x first second)
    (lays_then w (Runs w x first) (Runs w x second) o0 o1 o2 one two)

pub if_laid : (w : World) (x : Exits) (next : Label) (holds : Truth) (body : Effect) (o0 o1 o2 o3 o4 o5 o6 : Out) → LaysNone o0 o1 →
    LaysNone o1 o2 → Lays w (Branches false w holds false next) o2 o3 → Lays w (Runs w x body) o3 o4 → Lays w (Marks next) o4 o5 →
    LaysNone o5 o6 → Lays w (Runs w x (if_run holds body)) o0 o6
if_laid w x next holds body o0 o1 o2 o3 o4 o5 o6 opens still test runs closes last =
    let ends = lays_then w (Runs w x body) (Marks next) o3 o4 o5 runs closes in
    let all = lays_then w (Branches false w holds false next) (Then (Runs w x body) (Marks next)) o2 o3 o5 test ends in
    let does = lays_so w (Then (Branches false w holds false next) (Then (Runs w x body) (Marks next))) (Runs w x (if_run holds body)) o2 o5
    (if_runs w x next holds body) all in
    none_then w (Runs w x (if_run holds body)) o0 o1 o6 opens
    (none_then w (Runs w x (if_run holds body)) o1 o2 o6 still (then_none w (Runs w x (if_run holds body)) o2 o5 o6 does last))

pub else_laid : (w : World) (x : Exits) (next end : Label) (holds : Truth) (body other : Effect) (o0 o1 o2 o3 o4 o5 o6 o7 o8 o9 o10 : Out) →
    LaysNone o0 o1 → LaysNone o1 o2 → Lays w (Branches false w holds false next) o2 o3 → Lays w (Runs w x body) o3 o4 →
    Lays w (Then (Lies (jump_to end)) (Marks next)) o4 o5 → LaysNone o5 o6 → LaysNone o6 o7 → Lays w (Runs w x other) o7 o8 →
    Lays w (Marks end) o8 o9 → LaysNone o9 o10 → Lays w (Runs w x (else_run holds body other)) o0 o10
else_laid w x next end holds body other o0 o1 o2 o3 o4 o5 o6 o7 o8 o9 o10 opens still test runs joins still2 word runs2 closes last =
    let joint = Then (Lies (jump_to end)) (Marks next) in
    let P3 = Then (Runs w x other) (Marks end) in
    let P2 = Then joint P3 in
    let P1 = Then (Runs w x body) P2 in
    let P0 = Then (Branches false w holds false next) P1 in
    let R = Runs w x (else_run holds body other) in
    let l3 = lays_then w (Runs w x other) (Marks end) o7 o8 o9 runs2 closes in
    let l3' = none_then w P3 o5 o6 o9 still2 (none_then w P3 o6 o7 o9 word l3) in
    let l2 = lays_then w joint P3 o4 o5 o9 joins l3' in
    let l1 = lays_then w (Runs w x body) P2 o3 o4 o9 runs l2 in
    let l0 = lays_then w (Branches false w holds false next) P1 o2 o3 o9 test l1 in
    let does = lays_so w P0 R o2 o9 (else_runs w x next end holds body other) l0 in
    none_then w R o0 o1 o10 opens (none_then w R o1 o2 o10 still (then_none w R o2 o9 o10 does last))

pub while_laid : (w : World) (x : Exits) (next end : Label) (holds : Truth) (body : Effect) (n : ℕ) (o0 o1 o2 o3 o4 o5 o6 : Out) →
    Lays w (Marks next) o0 o1 → LaysNone o1 o2 → Lays w (Branches false w holds false end) o2 o3 →
    Lays w (Runs w (inside end next) body) o3 o4 → Lays w (Then (Lies (jump_to next)) (Marks end)) o4 o5 → LaysNone o5 o6 →
    Lays w (Runs w x (while_run holds body n)) o0 o6
while_laid w x next end holds body n o0 o1 o2 o3 o4 o5 o6 opens still test runs closes last =
    let P3 = Then (Lies (jump_to next)) (Marks end) in
    let P2 = Then (Runs w (inside end next) body) P3 in
    let P1 = Then (Branches false w holds false end) P2 in
    let P0 = Then (Marks next) P1 in
    let R = Runs w x (while_run holds body n) in
    let l2 = lays_then w (Runs w (inside end next) body) P3 o3 o4 o5 runs closes in
    let l1 = lays_then w (Branches false w holds false end) P2 o2 o3 o5 test l2 in
    let l0 = lays_then w (Marks next) P1 o0 o1 o5 opens (none_then w P1 o1 o2 o5 still l1) in
    then_none w R o0 o5 o6 (lays_so w P0 R o0 o5 (while_runs w x next end holds body n) l0) last

pub do_laid : (w : World) (x : Exits) (top next end : Label) (body : Effect) (holds : Truth) (n : ℕ) (o0 o1 o2 o3 o4 o5 o6 o7 o8 o9 : Out) →
    Lays w (Marks top) o0 o1 → LaysNone o1 o2 → Lays w (Runs w (inside end next) body) o2 o3 → LaysNone o3 o4 →
    Lays w (Marks next) o4 o5 → LaysNone o5 o6 → Lays w (Branches false w holds false top) o6 o7 → Lays w (Marks end) o7 o8 →
    LaysNone o8 o9 → Lays w (Runs w x (until_run body holds n)) o0 o9
do_laid w x top next end body holds n o0 o1 o2 o3 o4 o5 o6 o7 o8 o9 opens still runs word joins still2 test closes last =
    let P3 = Then (Branches false w holds false top) (Marks end) in
    let P2 = Then (Marks next) P3 in
    let P1 = Then (Runs w (inside end next) body) P2 in
    let P0 = Then (Marks top) P1 in
    let R = Runs w x (until_run body holds n) in
    let l3 = lays_then w (Branches false w holds false top) (Marks end) o6 o7 o8 test closes in
    let l2 = lays_then w (Marks next) P3 o4 o5 o8 joins (none_then w P3 o5 o6 o8 still2 l3) in
    let l1 = lays_then w (Runs w (inside end next) body) P2 o2 o3 o8 runs (none_then w P2 o3 o4 o8 word l2) in
    let l0 = lays_then w (Marks top) P1 o0 o1 o8 opens (none_then w P1 o1 o2 o8 still l1) in
    then_none w R o0 o8 o9 (lays_so w P0 R o0 o8 (until_runs w x top next end body holds n) l0) last

pub for_laid : (w : World) (limits : Limits) (x : Exits) (top next end : Label) (start : Change) (holds : Truth) (step : Change)
    (body : Effect) (kept : Option (List Item)) (n : ℕ) (o0 o1 o2 o3 o4 o5 o6 o7 o8 o9 o10 o11 : Out) →
    LaysNone o0 o1 → LaysNone o1 o2 → Lays w (GivesNothing w start) o2 o3 → Lays w (Marks top) o3 o4 → LaysNone o4 o5 →
    Lays w (Branches false w holds false end) o5 o6 → KeepsApart w (GivesNothing w step) o6 o7 kept → LaysNone o7 o8 →
    Lays w (Runs w (inside end next) body) o8 o9 →
    (marked limits next ▸ laid_all limits (items_of kept) ▸ jumped limits top ▸ marked limits end) o9 ≡ o10 → LaysNone o10 o11 →
    Lays w (Runs w x (λ s. start s then λ t. for_run holds step body n t)) o0 o11
for_laid w limits x top next end start holds step body kept n o0 o1 o2 o3 o4 o5 o6 o7 o8 o9 o10 o11 opens still a b c d e f g closes last =
    let m1 = marked limits next o9 in
    let m2 = laid_all limits (items_of kept) m1 in
    let m3 = (jumped limits top ▸ marked limits end) m2 in
    let mark = lays_code w (marked limits next) (Marks next) (marked_ limits next) o9 in
    let stays = names_then o7 o9 m1 (names_then o7 o8 o9 f.names g.names) mark.names in
    let l7 = kept_laid w limits (GivesNothing w step) o6 o7 kept e m1 stays
    (λ y. f.laid.fits (g.laid.fits (mark.laid.fits y))) in
    let P7 = Then (Lies (jump_to top)) (Marks end) in
    let l8 = lays_code w (jumped limits top ▸ marked limits end) P7 (then_ (jumped_ limits top) (marked_ limits end)) m2 in
    let P6 = Then (GivesNothing w step) P7 in
    let l6 = lays_then w (GivesNothing w step) P7 m1 m2 m3 l7 l8 in
    let P5 = Then (Marks next) P6 in
    let l5 = lays_then w (Marks next) P6 o9 m1 m3 mark l6 in
    let l5' = subst (λ o. Lays w P5 o9 o) closes l5 in
    let P4 = Then (Runs w (inside end next) body) P5 in
    let l4 = none_then w P4 o6 o7 o10 e.laid (none_then w P4 o7 o8 o10 f
    (lays_then w (Runs w (inside end next) body) P5 o8 o9 o10 g l5')) in
    let P3 = Then (Branches false w holds false end) P4 in
    let l3 = lays_then w (Branches false w holds false end) P4 o5 o6 o10 d l4 in
    let P2 = Then (Marks top) P3 in
    let l2 = lays_then w (Marks top) P3 o3 o4 o10 b (none_then w P3 o4 o5 o10 c l3) in
    let P1 = Then (GivesNothing w start) P2 in
    let l1 = lays_then w (GivesNothing w start) P2 o2 o3 o10 a l2 in
    let R = Runs w x (λ s. start s then λ t. for_run holds step body n t) in
    let does = lays_so w P1 R o2 o10 (for_runs w x top next end start holds step body n) l1 in
    none_then w R o0 o1 o11 opens (none_then w R o1 o2 o11 still (then_none w R o2 o10 o11 does last))

pub objects_laid : (w : World) (limits : Limits) (x : Exits) (top next end : Label) (begins holds step : Truth) (body : Effect) (how : Over)
    (variable : ℕ) (n : ℕ) (o0 o1 o2 o3 o4 o5 o6 o7 o8 : Out) →
    LaysNone o0 o1 → LaysNone o1 o2 → Lays w (BeginsLoop w begins holds top next end) o2 o3 → LaysNone o3 o4 → LaysNone o4 o5 →
    Lays w (Runs w (inside end next) body) o5 o6 →
    ((o : Out) → Lays w (Branches false w step true top) o (looped_on limits how variable top o)) →
    (marked limits next ▸ looped_on limits how variable top ▸ marked limits end) o6 ≡ o7 → LaysNone o7 o8 →
    Lays w (Runs w x (found_run begins (objects_run holds step body n))) o0 o8
objects_laid w limits x top next end begins holds step body how variable n o0 o1 o2 o3 o4 o5 o6 o7 o8 opens still a b c d e closes last =
    let m1 = marked limits next o6 in
    let m2 = looped_on limits how variable top m1 in
    let m3 = marked limits end m2 in
    let mark = lays_code w (marked limits next) (Marks next) (marked_ limits next) o6 in
    let ends = lays_code w (marked limits end) (Marks end) (marked_ limits end) m2 in
    let P4 = Then (Branches false w step true top) (Marks end) in
    let l4 = lays_then w (Branches false w step true top) (Marks end) m1 m2 m3 (e m1) ends in
    let P3 = Then (Marks next) P4 in
    let l3 = subst (λ o. Lays w P3 o6 o) closes (lays_then w (Marks next) P4 o6 m1 m3 mark l4) in
    let P2 = Then (Runs w (inside end next) body) P3 in
    let l2 = lays_then w (Runs w (inside end next) body) P3 o5 o6 o7 d l3 in
    let B = BeginsLoop w begins holds top next end in
    let P1 = Then B P2 in
    let l1 = lays_then w B P2 o2 o3 o7 a (none_then w P2 o3 o4 o7 b (none_then w P2 o4 o5 o7 c l2)) in
    let R = Runs w x (found_run begins (objects_run holds step body n)) in
    let does = lays_so w P1 R o2 o7 (objects_runs w x top next end begins holds step body n) l1 in
    none_then w R o0 o1 o8 opens (none_then w R o1 o2 o8 still (then_none w R o2 o7 o8 does last))

pub switch_laid : (w : World) (limits : Limits) (x y : Exits) (end : Label) (new : Case) (keeps : Change) (walk : Walk)
    (o0 o1 o2 o3 o4 o5 o6 o7 : Out) → y.breaks ≡ Some end → y.continues ≡ x.continues →
    LaysNone o0 o1 → LaysNone o1 o2 → Lays w (GivesNothing w keeps) o2 o3 → Lays w (Walks w y Case.Nothing new walk) o3 o4 →
    LaysNone o4 o5 → (case_closed limits new end ▸ marked limits end) o5 ≡ o6 → LaysNone o6 o7 →
    Lays w (Runs w x (λ s. keeps s then λ t. walk_run walk t)) o0 o7
switch_laid w limits x y end new keeps walk o0 o1 o2 o3 o4 o5 o6 o7 breaks continues opens still a b c closes last =
    let m1 = case_closed limits new end o5 in
    let ends = lays_code w (case_closed limits new end) (EndsCase new end) (ends_case w limits new end) o5 in
    let mark = lays_code w (marked limits end) (Marks end) (marked_ limits end) m1 in
    let P3 = Then (EndsCase new end) (Marks end) in
    let l3 = subst (λ o. Lays w P3 o5 o) closes (lays_then w (EndsCase new end) (Marks end) o5 m1 (marked limits end m1) ends mark) in
    let P2 = Then (Walks w y Case.Nothing new walk) P3 in
    let l2 = lays_then w (Walks w y Case.Nothing new walk) P3 o3 o4 o6 b (none_then w P3 o4 o5 o6 c l3) in
    let P1 = Then (GivesNothing w keeps) P2 in
    let l1 = lays_then w (GivesNothing w keeps) P2 o2 o3 o6 a l2 in
    let R = Runs w x (λ s. keeps s then λ t. walk_run walk t) in
    let does = lays_so w P1 R o2 o6 (switch_runs w x y end new keeps walk breaks continues) l1 in
    none_then w R o0 o1 o7 opens (none_then w R o1 o2 o7 still (then_none w R o2 o6 o7 does last))
