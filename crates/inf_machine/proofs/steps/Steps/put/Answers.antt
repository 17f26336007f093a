-- The step changes in the row of its rule, among rows that have the steps of those before.
use Rattle.std.proofs.Common.{◌∙◌, ap, arith, List}
use Rattle.inf_machine.specs.{Steps.step_of, declared.steps.Step.Step}
use Rattle.inf_machine.proofs.Stepping.{put_among}
use Rattle.inf_machine.proofs.steps.Steps.put.Goals as goal

pub returns : goal.returns
returns c = put_among c.args.self.now c.add_rows.new.rows.items c.args.rule c.args.atom c.args.step c.index_mut.result.now c.put.new.self
    (omega (arith, c.in_ok-add_rows.ensures.there)) c.index_mut.ensures.value
    (λ r a. c.in_ok-add_rows.ensures.same r a ∙ ap (λ (rows : List (List Step)). step_of rows r a) c.self.view_is) c.put.ensures
