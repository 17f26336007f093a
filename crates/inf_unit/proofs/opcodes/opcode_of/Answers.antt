use Rattle.std.proofs.{lemmas.Bool.false_from_ne_true, lemmas.Str.IsUtf8-from_ascii}
use Rattle.std.proofs.Common.{◌≡◌, None, false, sym, ap, ◌∙◌, cond, nat_lt}
use Rattle.std.specs.List.{list_all}
use Rattle.inf_opcode.specs.Names.{opcode_named}
use Rattle.inf_unit.specs.Opcodes.{opcode_of}
use Rattle.inf_unit.proofs.OpcodeNames.{any_name, is_ascii}
use Rattle.inf_unit.proofs.opcodes.opcode_of.Goals as goal

pub returns-in-Ok : goal.returns-in-Ok
unfolding opcode_of
returns-in-Ok c = c.by_name.ensures ∙ ap opcode_named c.in-Ok.ensures.cases.0 ∙ any_name c.args.name.now

pub returns-in-Err : goal.returns-in-Err
unfolding opcode_of
returns-in-Err c =
    let name = c.args.name.now in
    let over : list_all (λ b. nat_lt b 128) name ≡ false =
    false_from_ne_true (list_all (λ b. nat_lt b 128) name) (λ e. c.in-Err.ensures.cases.0 (IsUtf8-from_ascii name (is_ascii name e))) in
    sym (ap (λ t. cond t (opcode_named name) None) over)
