-- Units of such statements, and parts of nested statements that are such units.
use Rattle.std.specs.Prelude.{◌≡◌, Some}
use Rattle.inf_settings.specs.Bounds.{Limits}
use Rattle.inf_scanner.specs.declared.tokens.Place.{Place}
use Rattle.inf_syntax.specs.declared.actions.Action.{Action}
use Rattle.inf_unit.specs.{Roles.role_of, declared.roles.Ending.Ending, declared.roles.Role.Role}
use Rattle.inf_compilation.specs.{Actions.Compilation, Actions.named, Actions.settled_of, Context.Context}
use Rattle.inf_output.specs.Output.{low_string_at}
use Rattle.inf_parts.specs.{Parts.part_prepared, Parts.site_of, Parts.statement_at, declared.parts.Part.Part}
use Rattle.inf_statements.specs.Effects.{Site}
use Rattle.inf_reader.specs.Acting.{act}
use Rattle.inf_statement_laws.specs.{Happenings.Quiet, Laid.run}
use Rattle.inf_interpreter.specs.Machine.{World}
use Rattle.inf_control_laws.specs.{Premises.Ends, Runs.Lays, Runs.Runs, Runs.exits, Units.IsSound, Units.trees_of}
use Rattle.inf_effect_laws.specs.{Described.Deed, Described.effect, Written.Covers, Written.HasTexts, Written.deed_of}

-- the site of the statement that a unit is
abbrev pub site_at : Context → Compilation → Site
site_at context v = site_of context (named (part_prepared v))

-- A unit is such a statement.
abbrev pub IsDeed : Limits → Context → Compilation → Deed → Type 0
IsDeed limits context v d =
    let low = low_string_at (settled_of limits context (named (part_prepared v))).out in
    deed_of (site_at context v) low (trees_of limits context (Part.Statement (statement_at v)) v) (statement_at v) ≡ Some d

-- The end of a unit that has no error lays code that does what the statement does.
abbrev pub UnitsHaveEffects : Type 0
UnitsHaveEffects =
    (w : World) (limits : Limits) (context : Context) (place : Place) (v : Compilation) (a : Action) →
    role_of a ≡ Role.End Ending.Statement → IsSound limits context (Part.Statement (statement_at v)) v → (d : Deed) →
    IsDeed limits context v d → Covers d → HasTexts w v.output →
    Lays w (Runs w (exits v.constructs) (effect w d)) v.output (act limits context place a v).output

-- A part of a nested statement that is such a unit lays code with this effect, too, where nothing is laid before the unit ends.
abbrev pub PartsHaveEffects : Type 0
PartsHaveEffects =
    (w : World) (limits : Limits) (context : Context) (plain : Quiet) (v u : Compilation)
    (x : Ends limits context (Part.Statement (statement_at u)) Ending.Statement plain v) → run limits context x.front.all v ≡ u →
    (d : Deed) → IsDeed limits context u d → Covers d → HasTexts w u.output →
    Lays w (Runs w (exits v.constructs) (effect w d)) v.output (run limits context plain.all v).output
