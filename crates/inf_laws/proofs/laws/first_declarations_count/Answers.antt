use Rattle.inf_laws.proofs.NameEvents.{few_have_room, first_declarations_count, operands_use, units_declare}
use Rattle.inf_laws.proofs.laws.first_declarations_count.Goals as goal

pub returns : goal.returns
returns c = record { count = first_declarations_count; declares = units_declare; operands = operands_use; room = few_have_room }
