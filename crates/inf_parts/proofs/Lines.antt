-- The opcode of an assembly line is known until the line is laid: its unit stays as it is while cases are prepared and begun.
use Rattle.std.proofs.Common.{◌≡◌, Option, ap, sym, ◌∙◌}
use Rattle.inf_settings.specs.Bounds.{Limits}
use Rattle.inf_opcode.specs.declared.opcodes.Opcode.{Opcode}
use Rattle.inf_unit.specs.Units.{line_opcode}
use Rattle.inf_compilation.specs.Actions.{Compilation, named}
use Rattle.inf_parts.specs.{Parts.KnowsOpcode, Parts.case_prepared, Parts.part_begun, declared.parts.Part.Part}

abbrev line_of : Compilation → Option Opcode
line_of w = line_opcode w.unit

still_known : (p : Part) (opcode : Option Opcode) (w after : Compilation) → line_of after ≡ line_of w
    → KnowsOpcode p opcode w → KnowsOpcode p opcode after
still_known p opcode w after same known = λ line. known line ∙ sym same

pub known_prepared : (limits : Limits) (p : Part) (opcode : Option Opcode) (w after : Compilation) → after ≡ case_prepared limits p w
    → KnowsOpcode p opcode w → KnowsOpcode p opcode after
known_prepared limits (Part.Statement s) opcode w after e known = still_known (Part.Statement s) opcode w after (ap line_of e) known
known_prepared limits Part.Condition opcode w after e known = still_known Part.Condition opcode w after (ap line_of e) known
known_prepared limits Part.Start opcode w after e known = still_known Part.Start opcode w after (ap line_of e) known
known_prepared limits Part.Step opcode w after e known = still_known Part.Step opcode w after (ap line_of e) known
known_prepared limits Part.Loop opcode w after e known = still_known Part.Loop opcode w after (ap line_of e) known
known_prepared limits Part.Switched opcode w after e known = still_known Part.Switched opcode w after (ap line_of e) known
known_prepared limits Part.Case opcode w after e known = λ wrong. absurd (cc wrong)

pub known_begun : (limits : Limits) (p : Part) (opcode : Option Opcode) (w after : Compilation) → after ≡ named (part_begun limits p w)
    → KnowsOpcode p opcode w → KnowsOpcode p opcode after
known_begun limits (Part.Statement s) opcode w after e known = still_known (Part.Statement s) opcode w after (ap line_of e) known
known_begun limits Part.Condition opcode w after e known = still_known Part.Condition opcode w after (ap line_of e) known
known_begun limits Part.Start opcode w after e known = still_known Part.Start opcode w after (ap line_of e) known
known_begun limits Part.Step opcode w after e known = still_known Part.Step opcode w after (ap line_of e) known
known_begun limits Part.Loop opcode w after e known = still_known Part.Loop opcode w after (ap line_of e) known
known_begun limits Part.Switched opcode w after e known = still_known Part.Switched opcode w after (ap line_of e) known
known_begun limits Part.Case opcode w after e known = λ wrong. absurd (cc wrong)
