use Rattle.std.proofs.Common.{sym, ◌∙◌}
use Rattle.inf_command.proofs.Stems.{stem-split, stem-split_slash, stem-undivided, has_slash-found}
use Rattle.inf_command.proofs.command_line.stem_of.Goals as goal

pub returns-in_err-front : goal.returns-in_err-front
returns-in_err-front c = rw c.from_residual.ensures (sym (stem-undivided c.args.name.now c.in_err-front.ensures.cases))

pub returns-then-contains : goal.returns-then-contains
returns-then-contains c =
    let has = has_slash-found c.in_ok-front.extension.now c.contains.result c.contains.ensures.cases in
    sym (stem-split_slash c.args.name.now c.in_ok-front.front.now c.in_ok-front.extension.now c.in_ok-front.ensures.cases
    (has ∙ c.if-contains.true))

pub returns : goal.returns
returns c =
    let has = has_slash-found c.in_ok-front.extension.now c.contains.result c.contains.ensures.cases in
    sym (stem-split c.args.name.now c.in_ok-front.front.now c.in_ok-front.extension.now c.in_ok-front.ensures.cases
    (has ∙ c.if-contains.false))
