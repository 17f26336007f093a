-- Units of statements that print and that change objects.
use Rattle.std.proofs.Common.{◌≡◌, List, [], Some, None, refl, ◌∙◌, ap, sym, subst}
use Rattle.inf_settings.specs.Bounds.{Limits}
use Rattle.inf_scanner.specs.declared.tokens.Place.{Place}
use Rattle.inf_expressions.specs.Trees.{Tree}
use Rattle.inf_unit.specs.{Roles.role_of, declared.roles.Ending.Ending, declared.roles.Role.Role}
use Rattle.inf_area.specs.declared.targets.Target.{Target}
use Rattle.inf_output.specs.{Output.Out, Output.low_string_at, Texts.used_in}
use Rattle.inf_constructs.specs.Labels.{NamedLabel}
use Rattle.inf_compilation.specs.{Actions.Compilation, Actions.named, Context.Context}
use Rattle.inf_parts.specs.Parts.{found_in, part_carried, part_effect, part_finished, part_prepared, place_of, site_of, statement_at}
use Rattle.inf_parts.specs.declared.parts.Part.{Part}
use Rattle.inf_statements.specs.{Effects.Site, Effects.statement_code, Effects.statement_laid}
use Rattle.inf_statements.specs.declared.statements.Statement.{Statement}
use Rattle.inf_reader.specs.Acting.{act, played}
use Rattle.inf_statement_laws.proofs.Acts.{quiet_run}
use Rattle.inf_interpreter.specs.Machine.{World}
use Rattle.inf_interpreter.proofs.Running.{none_some}
use Rattle.inf_control_laws.specs.{Runs.Lays, Runs.Runs, Runs.exits, Units.IsSound, Units.trees_of}
use Rattle.inf_control_laws.proofs.{Laying.none_then, Premises.part_lays, Units.begun_in, Units.by_role, Units.carried_is}
use Rattle.inf_control_laws.proofs.{Units.none_begun, Units.unit_is}
use Rattle.inf_effect_laws.specs.{Described.Deed, Described.effect, Written.Covers, Written.HasTexts, Written.deed_of}
use Rattle.inf_effect_laws.specs.Units.{IsDeed, PartsHaveEffects, UnitsHaveEffects, site_at}
use Rattle.inf_effect_laws.proofs.{Printing.texts_stay, Settled.settled_stays, Statements.effects_are_laid}

deed_laid : (limits : Limits) (site : Site) (s : Statement) (trees : List Tree) (labels : List NamedLabel) (o : Out) (d : Deed)
    (low : Target) → deed_of site low trees s ≡ Some d →
    (statement_laid limits site s trees labels o).1 ≡ statement_code limits site trees s o
unfolding statement_laid
deed_laid limits site Statement.Jump trees labels o d low e = none_some e
deed_laid limits site Statement.Place trees labels o d low e = none_some e
deed_laid limits site Statement.Assembly trees labels o d low e = none_some e
deed_laid limits site s trees labels o d low e = refl

deed_carried : (limits : Limits) (context : Context) (first : Place) (s : Statement) (v : Compilation) (d : Deed) →
    deed_of (site_at context v) (low_string_at (begun_in limits context first v)) (trees_of limits context (Part.Statement s) v) s
    ≡ Some d →
    (part_carried limits context first (Part.Statement s) None (named (part_prepared v))).output
    ≡ statement_code limits (site_at context v) (trees_of limits context (Part.Statement s) v) s (begun_in limits context first v)
unfolding part_effect
deed_carried limits context first s v d e =
    let u = record (named (part_prepared v)) { output = begun_in limits context first v } in
    deed_laid limits (site_of context u) s (trees_of limits context (Part.Statement s) v) u.labels (begun_in limits context first v) d
    (low_string_at (begun_in limits context first v)) e

texts_begun : (limits : Limits) (context : Context) (first : Place) (v : Compilation) →
    used_in (begun_in limits context first v).texts ≡ used_in v.output.texts
texts_begun limits context first v =
    let u = named (part_prepared v) in
    settled_stays limits context.set u.locals u.unit.tokens u.unit.gathering.leaves (record { out = u.output; operands = [] })

unit_ends : (w : World) (limits : Limits) (context : Context) (place : Place) (v : Compilation) →
    IsSound limits context (Part.Statement (statement_at v)) v → (d : Deed) → IsDeed limits context v d → Covers d → HasTexts w v.output →
    Lays w (Runs w (exits v.constructs) (effect w d)) v.output (played limits context place (Role.End Ending.Statement) v).output
unit_ends w limits context place v sound d e h has =
    let s = statement_at v in
    let p = Part.Statement s in
    let ready = part_prepared v in
    let first = place_of p place ready in
    let o = begun_in limits context first v in
    let trees = trees_of limits context p v in
    let P = Runs w (exits v.constructs) (effect w d) in
    let is = unit_is limits context place p v (part_finished limits context first p ready) sound.stays
    ∙ carried_is limits context first p (found_in limits context p ready) (named ready) sound.finds
    ∙ deed_carried limits context first s v d e in
    subst (λ z. Lays w P v.output z) (sym is)
    (none_then w P v.output o (statement_code limits (site_at context v) trees s o) (none_begun limits context first v)
    (effects_are_laid w limits (site_at context v) trees s o d e h (texts_stay w v.output o (texts_begun limits context first v) has)))

pub units_have_effects : UnitsHaveEffects
units_have_effects w limits context place v a is sound d e h has =
    by_role w limits context place v (Runs w (exits v.constructs) (effect w d)) (role_of a) (Role.End Ending.Statement) is
    (unit_ends w limits context place v sound d e h has)

pub parts_have_effects : PartsHaveEffects
parts_have_effects w limits context plain v u x e d is h has =
    let s = statement_at u in
    let P = Runs w (exits v.constructs) (effect w d) in
    let same = ap (λ (z : Compilation). z.constructs) (sym e) ∙ (quiet_run limits context x.front.all v x.front.are).0 in
    let sound = subst (λ z. IsSound limits context (Part.Statement s) z) e x.sound in
    let lays = units_have_effects w limits context x.at.place u x.last x.ends sound d is h has in
    let lays' = subst (λ l. Lays w (Runs w (exits l) (effect w d)) u.output (act limits context x.at.place x.last u).output) same lays in
    part_lays w limits context (Part.Statement s) Ending.Statement plain v x P
    (subst (λ (z : Compilation). Lays w P z.output (act limits context x.at.place x.last z).output) (sym e) lays')
