-- Meaning of the unit at hand of the code.
use Rattle.std.specs.Prelude.{option_map}
use Rattle.inf_names.specs.LocalList.{headed}
use Rattle.inf_unit.specs.{Crowds.crowd, Units.Unit, declared.unit.Unit.Unit as CodeUnit}

abbrev pub unit : CodeUnit → Unit
unit u = record {
  tokens = u.tokens;
  begun = u.begun;
  gathering = u.gathering;
  headed = headed u.headed;
  items = u.items.items;
  code = u.code;
  outer = u.outer;
  is_sure = u.is_sure;
  is_over = u.is_over;
  depth = u.depth;
  held = u.held;
  passed = u.passed;
  long = u.long;
  crowd = option_map crowd u.crowd;
}
