-- The bytes of the finished routines are those before the next one.
use Rattle.std.proofs.Common.{◌≡◌, ℕ, ◌+◌, ◌∙◌, Option, Some, None, cond, length, ap, sym, nat_lt}
use Rattle.std.proofs.lemmas.Result.{err_from_is_err_and}
use Rattle.inf_assembler.specs.{Routines.refusal, declared.routines.Limit.Limit}
use Rattle.inf_code.specs.Code.{full_behind_bytes, full_opened, full_before, place_behind, source_cells, unlimited}
use Rattle.inf_code.proofs.{CodeSteps.length_finished, CodeSteps.size_finished, Full.code_is_free}
use Rattle.inf_code.proofs.code.Code.open.Goals as goal

pub returns-in-Some-clause-fault : goal.returns-in-Some-clause-fault
returns-in-Some-clause-fault g c =
    let inside = c.self.inside in
    let count = size_finished inside.limits inside.finished inside.refs inside.area inside.routine c.self.invariant.0 in
    let same = ap (full_behind_bytes inside.limits c.args.is_lost inside.has_begun) (sym count)
    ∙ ap (λ l. full_behind_bytes l c.args.is_lost inside.has_begun (place_behind (source_cells inside.finished inside.refs inside.area)))
    inside.is_most ∙ ap (full_opened g.B.Bounds.most c.args.is_lost) c.self.view_is in
    ap refusal (sym c.in-Some.is ∙ c.full_opened.ensures ∙ same)

pub returns-in_err-routine-clause-fault : goal.returns-in_err-routine-clause-fault
returns-in_err-routine-clause-fault g c =
    let inside = c.self.inside in let bound = inside.limits in
    let count = size_finished bound inside.finished inside.refs inside.area inside.routine c.self.invariant.0 in
    let same = ap (full_behind_bytes inside.limits c.args.is_lost inside.has_begun) (sym count)
    ∙ ap (λ l. full_behind_bytes l c.args.is_lost inside.has_begun (place_behind (source_cells inside.finished inside.refs inside.area)))
    inside.is_most ∙ ap (full_opened g.B.Bounds.most c.args.is_lost) c.self.view_is in
    let none : full_behind_bytes inside.limits c.args.is_lost inside.has_begun inside.finished ≡ None =
    sym c.full_opened.ensures ∙ c.in_default.is in
    let cut =
    ap length c.cut_back.ensures ∙ length_finished bound inside.finished inside.refs inside.area inside.routine c.self.invariant.0 in
    let Full : ℕ → Option Limit = λ n. cond (nat_lt unlimited (n + 1)) (Some Limit.Code) None in
    let free : Full inside.finished ≡ None =
    code_is_free (nat_lt unlimited (inside.finished + 1)) (full_before c.args.is_lost inside.has_begun inside.limits) none in
    let p = err_from_is_err_and c.from_residual.result c.from_residual.ensures.1 in
    rw (p.1, p.2) (c.in_err-routine.ensures.fault ∙ ap refusal (ap Full cut ∙ free ∙ sym none ∙ same))

pub returns-clause-fault : goal.returns-clause-fault
returns-clause-fault g c =
    let inside = c.self.inside in
    let count = size_finished inside.limits inside.finished inside.refs inside.area inside.routine c.self.invariant.0 in
    let same = ap (full_behind_bytes inside.limits c.args.is_lost inside.has_begun) (sym count)
    ∙ ap (λ l. full_behind_bytes l c.args.is_lost inside.has_begun (place_behind (source_cells inside.finished inside.refs inside.area)))
    inside.is_most ∙ ap (full_opened g.B.Bounds.most c.args.is_lost) c.self.view_is in
    sym same ∙ sym c.full_opened.ensures ∙ c.in_default.is
