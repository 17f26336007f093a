-- The list of locals that the code's locals stand for.
use Rattle.std.specs.Prelude.{ℕ, ◌-◌, ◌%◌, List, get_or, length, map, option_map}
use Rattle.inf_names.specs.{Spellings.as_name, declared.locals.Headed.Headed as CodeHeaded, declared.locals.Local.Local as CodeLocal}
use Rattle.inf_names.specs.{declared.locals.Locals.Locals, declared.locals.Repeated.Repeated as CodeRepeated}
use Rattle.inf_names.specs.Locals.{Local, Repeated, Headed}

abbrev pub local : CodeLocal → Local
local l = record { name = l.name.items; place = l.place; is_named = l.is_named }

abbrev pub listed : Locals → List Local
listed locals = map local locals.list.items

abbrev pub repeated : CodeRepeated → Repeated
repeated r = record { name = as_name r.name; first = r.first }

abbrev pub headed : CodeHeaded → Headed
headed h = record { locals = listed h.locals; repeated = option_map repeated h.repeated; are_too_many = h.are_too_many }

-- the last letter of a name as a number that is the same in any case: 0 where the name is empty
abbrev pub last_letter : List ℕ → ℕ
last_letter name = get_or name (length name - 1) 0 % 32
