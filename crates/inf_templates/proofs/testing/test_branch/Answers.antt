-- One instruction makes all tests of a simple value against simple members.
use Rattle.std.proofs.Common.{◌≡◌, ◌∙◌, Option, Result, Ok, Err, OnOk, ap, sym, if◌then◌else◌}
use Rattle.inf_opcode.specs.declared.instructions.Label.{Label}
use Rattle.inf_output.specs.{Output.Out, Output.marked, Output.next_label, declared.operands.Simple.Simple}
use Rattle.inf_templates.specs.{Tasks.at, Tasks.tasks_code}
use Rattle.inf_templates.specs.Meaning.{parts, test_branch, tests, tests_by}
use Rattle.inf_templates.proofs.testing.test_branch.Goals as goal

on_ok : {T E P Q : Type 0} (r : Result T E) → (P → Q) → OnOk r P → OnOk r Q
on_ok (Ok x) f p = f p
on_ok (Err e) f p = p

pub returns-in_ok-any-in-Some-clause-code : goal.returns-in_ok-any-in-Some-clause-code
unfolding test_branch
returns-in_ok-any-in-Some-clause-code g c =
    let limits = g.B.Bounds.most in let nodes = c.args.nodes.now in let a = at limits nodes c.args.a in
    let members = parts (at limits nodes c.args.list) in let over = c.label-over.result in
    let now = c.label-over.new.self in
    let whole : Option Simple → Label → Out → Out = λ s l o. marked limits l
    (tests_by limits s c.args.test a members c.args.sense c.args.label (if c.args.sense then c.args.label else l) o) in
    let once : c.any.new.out
    ≡ tests limits c.args.test c.in-Some.x members c.args.sense c.args.label (if c.args.sense then c.args.label else over) now =
    c.in_ok-any-in-Some.ensures
    ∙ sym (c.is_at_once.ensures c.if-is_at_once.true limits c.in-Some.x c.args.sense c.args.label _ now) in
    on_ok c.mark.result (λ e. ap (tasks_code limits nodes c.args.tasks.now)
    (e ∙ ap (marked limits over) once ∙ ap (λ s. whole s over now) (sym c.in-Some.is ∙ c.simple_of.ensures)
    ∙ ap (λ l. whole a.operand l now) c.label-over.ensures.label
    ∙ ap (λ o. whole a.operand (next_label c.args.out.now) o) c.label-over.ensures.next)) c.mark.ensures.ok
