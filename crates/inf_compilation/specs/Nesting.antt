-- Statements that hold others, opened and closed.
use Rattle.std.specs.Prelude.{ℕ, ◌-◌, nat_lt, max, List, if◌then◌else◌}
use Rattle.inf_settings.specs.Bounds.{Limits}
use Rattle.inf_scanner.specs.declared.tokens.Place.{Place}
use Rattle.inf_compilation.specs.{Actions.Compilation, Actions.is_deep, Actions.nested, Context.Context}
use Rattle.inf_unit.specs.Units.{last_place}
use Rattle.inf_constructs.specs.{declared.constructs.Construct.Construct, declared.constructs.Kind.Kind}
use Rattle.inf_constructs.specs.Constructs.{Laying, all_ended, begun, between, changed, ended}

abbrev pub constructs_laid : Laying (List Construct) → Compilation → Compilation
constructs_laid laying w = let laid = laying w.output in record w { constructs = laid.0; output = laid.1 }

-- Statements that hold others: their beginning, which is told at the place of their word where they stand too deep, the change
-- between their parts, and their end.
abbrev pub construct_opened : Limits → Context → Place → Kind → Compilation → Compilation
construct_opened limits context place kind w =
    let told = nested context (last_place w.unit.tokens place) (is_deep w 1) w in constructs_laid (begun limits kind told.constructs) told

abbrev pub construct_joined : Limits → Compilation → Compilation
construct_joined limits w = constructs_laid (changed (between limits) w.constructs) w

abbrev pub construct_ended : Limits → Compilation → Compilation
construct_ended limits w = constructs_laid (ended limits w.constructs) w

-- The innermost statement is over. It may have been closed ahead of a conditional.
abbrev pub construct_closed : Limits → Compilation → Compilation
construct_closed limits w = if nat_lt 0 w.closed then record w { closed = w.closed - 1 } else construct_ended limits w

-- The `count` innermost statements are closed, which the next token ends, whatever it is, since a conditional stands next.
abbrev pub closed_ahead : Limits → ℕ → Compilation → Compilation
closed_ahead limits count w = record (constructs_laid (all_ended limits (count - w.closed) w.constructs) w) { closed = max w.closed count }
