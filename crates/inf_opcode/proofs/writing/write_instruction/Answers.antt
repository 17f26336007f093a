-- The bytes are written behind those before, and then the special parts are kept.
use Rattle.std.proofs.Common.{◌+◌, [], ◌++◌, length, sym, ◌∙◌, ap, append-nil, length-append}
use Rattle.inf_opcode.specs.{Cells.kept_from, Cells.long_bytes, Grown.Grew, Instructions.front_cells, PartsOf.parts_of}
use Rattle.inf_opcode.proofs.Growing.{grew_then, grew_plain, longer_by, on_err}
use Rattle.inf_opcode.proofs.writing.write_instruction.Goals as goal

pub keep_front-requires : goal.keep_front-requires
keep_front-requires g c =
    let bytes = g.A.Area.bytes c.args.area.now in
    let front = long_bytes (front_cells (parts_of c.args.instruction.now)) in
    c.len-end.ensures.value
    ∙ ap length (c.in_ok-append.ensures.ok ∙ ap (λ xs. bytes ++ xs) (c.as_slice.ensures.value ∙ c.front_bytes.ensures))
    ∙ length-append bytes front ∙ ap (λ n. n + length front) (sym c.len-start.ensures.value)

pub returns-in_err-append-clause-err : goal.returns-in_err-append-clause-err
returns-in_err-append-clause-err g c = on_err c.from_residual.result
    (longer_by _ _ [] _ _ [] (c.in_err-append.ensures.err ∙ sym (append-nil (g.A.Area.bytes c.args.area.now)))
    (sym (append-nil c.args.kept.now.items)))

pub returns-in_err-keep_front-clause-err : goal.returns-in_err-keep_front-clause-err
returns-in_err-keep_front-clause-err g c = on_err c.from_residual-in_err-keep_front.result
    (longer_by _ _ _ _ _ c.keep_front.ensures.longer.0 c.in_ok-append.ensures.ok c.keep_front.ensures.longer.1)

pub returns-in_err-append_text-clause-err : goal.returns-in_err-append_text-clause-err
returns-in_err-append_text-clause-err g c = on_err c.from_residual-in_err-append_text.result
    (longer_by _ _ _ _ _ c.keep_front.ensures.longer.0 (c.in_err-append_text.ensures.err ∙ c.in_ok-append.ensures.ok)
    c.keep_front.ensures.longer.1)

pub returns-clause-ok : goal.returns-clause-ok
returns-clause-ok g c =
    let bytes = g.A.Area.bytes c.args.area.now in let kept = c.args.kept.now.items in
    let cells = front_cells (parts_of c.args.instruction.now) in
    let front : Grew bytes kept cells (g.A.Area.bytes c.append.new.self) c.keep_front.new.kept.items = record {
      bytes = c.in_ok-append.ensures.ok ∙ ap (λ xs. bytes ++ xs) (c.as_slice.ensures.value ∙ c.front_bytes.ensures);
      kept = c.in_ok-keep_front.ensures.ok ∙ ap (λ n. kept ++ kept_from n cells) c.len-start.ensures.value;
    } in
    grew_then front (grew_plain _ _ _ _ c.in_ok-append_text.ensures.ok)
