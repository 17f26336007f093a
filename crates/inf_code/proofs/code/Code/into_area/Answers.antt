-- There is room for the fixups where they and that of the first routine are no more than the room left.
use Rattle.std.proofs.Common.{◌≡◌, ◌+◌, false, true, length, nat_lt, sym, ◌∙◌, ap, arith}
use Rattle.std.proofs.lemmas.Result.{err_from_is_err_and}
use Rattle.inf_area.specs.Cells.{later_count}
use Rattle.inf_code.specs.Code.{Routines, are_too_many, code_cells, source_bytes, source_cells, unlisted}
use Rattle.inf_code.proofs.Full.{later_stands_for, not_too_many, too_many}
use Rattle.inf_code.proofs.code.Code.into_area.Goals as goal

pub returns-then-limit-len-clause-fault : goal.returns-then-limit-len-clause-fault
returns-then-limit-len-clause-fault g c =
    let inside = c.self.inside in let refs = c.args.refs.now in
    let cells = source_cells inside.finished inside.refs inside.area in
    let count : later_count (code_cells c.args.called c.args.self.finished) ≡ 1 + c.len-2.result =
    ap (λ (r : Routines). later_count (code_cells c.args.called r.finished)) (sym c.self.view_is)
    ∙ ap (λ n. 1 + n) (later_stands_for 8 inside.refs.list (source_bytes inside.finished inside.area) cells c.self.invariant.0.stands
    ∙ sym c.len-2.ensures.value) in
    let all = later_count (code_cells c.args.called c.args.self.finished) in
    let full : are_too_many c.args.called c.args.self.finished refs ≡ true =
    ap (λ l. nat_lt l (length refs.list + all)) (sym c.limit.ensures) ∙ ap (λ n. nat_lt c.limit.result (n + all)) (sym c.len.ensures.value)
    ∙ too_many c.limit.result c.len.result c.len-2.result all (omega (arith, c.len.ensures.limited, c.limit.ensures))
    c.if-limit-len.true count in
    sym (ap unlisted full)

pub returns-in_err-list_all-clause-fault : goal.returns-in_err-list_all-clause-fault
returns-in_err-list_all-clause-fault g c =
    let inside = c.self.inside in let refs = c.args.refs.now in
    let cells = source_cells inside.finished inside.refs inside.area in
    let count : later_count (code_cells c.args.called c.args.self.finished) ≡ 1 + c.len-2.result =
    ap (λ (r : Routines). later_count (code_cells c.args.called r.finished)) (sym c.self.view_is)
    ∙ ap (λ n. 1 + n) (later_stands_for 8 inside.refs.list (source_bytes inside.finished inside.area) cells c.self.invariant.0.stands
    ∙ sym c.len-2.ensures.value) in
    let all = later_count (code_cells c.args.called c.args.self.finished) in
    let full : are_too_many c.args.called c.args.self.finished refs ≡ false =
    ap (λ l. nat_lt l (length refs.list + all)) (sym c.limit.ensures) ∙ ap (λ n. nat_lt c.limit.result (n + all)) (sym c.len.ensures.value)
    ∙ not_too_many c.limit.result c.len.result c.len-2.result all c.if-limit-len.false count in
    let p = err_from_is_err_and c.from_residual.result c.from_residual.ensures.1 in
    rw (p.1, p.2) (sym (ap unlisted full))

pub returns-clause-fault : goal.returns-clause-fault
returns-clause-fault g c =
    let inside = c.self.inside in let refs = c.args.refs.now in
    let cells = source_cells inside.finished inside.refs inside.area in
    let count : later_count (code_cells c.args.called c.args.self.finished) ≡ 1 + c.len-2.result =
    ap (λ (r : Routines). later_count (code_cells c.args.called r.finished)) (sym c.self.view_is)
    ∙ ap (λ n. 1 + n) (later_stands_for 8 inside.refs.list (source_bytes inside.finished inside.area) cells c.self.invariant.0.stands
    ∙ sym c.len-2.ensures.value) in
    let all = later_count (code_cells c.args.called c.args.self.finished) in
    ap (λ l. nat_lt l (length refs.list + all)) (sym c.limit.ensures) ∙ ap (λ n. nat_lt c.limit.result (n + all)) (sym c.len.ensures.value)
    ∙ not_too_many c.limit.result c.len.result c.len-2.result all c.if-limit-len.false count
