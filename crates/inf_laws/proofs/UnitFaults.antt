-- The ends of units tell the least of what is wrong with them.
use Rattle.std.proofs.Common.{◌≡◌, List, [], ◌∷◌, map, true, Option, None, Some, refl, sym, ap, subst, ◌∙◌, if◌then◌else◌}
use Rattle.inf_settings.specs.Bounds.{Limits}
use Rattle.inf_scanner.specs.declared.tokens.Place.{Place}
use Rattle.inf_expressions.specs.{Findings.no_constant, Rooted.Rooted, declared.findings.Finding.Finding, declared.units.Wanted.Wanted}
use Rattle.inf_names.specs.{Symbols.declare_fault, declared.meanings.Meaning.Meaning}
use Rattle.inf_output.specs.Output.{declared, full}
use Rattle.inf_constructs.specs.Roots.{tree_in}
use Rattle.inf_statements.specs.{Effects.site_finding, declared.statements.Statement.Statement}
use Rattle.inf_unit.specs.{Messages.with_full, Units.name_order, Units.order}
use Rattle.inf_compilation.specs.Actions.{Compilation, constant_added, constant_finding, constant_findings, constant_meaning}
use Rattle.inf_compilation.specs.Actions.{constant_of, finding_at, named, operands_of, passed, settled_of, trees_at, unit_ended}
use Rattle.inf_compilation.specs.Context.{Context}
use Rattle.inf_compilation.specs.Findings.{Findings, again_by, again_finding, found_alone, told_as}
use Rattle.inf_parts.specs.Parts.{found_in, has_last, order_of, own_finding, part_begun, part_carried}
use Rattle.inf_parts.specs.Parts.{part_effect, part_ended, part_finished, place_of, site_of, wanted_of}
use Rattle.inf_parts.specs.declared.parts.Part.{Part}
use Rattle.inf_laws.specs.Findings.{told_behind}
use Rattle.inf_laws.specs.UnitFaults.{ConstantsTellTheLeast, IsLeastOf, PartsTellTheLeast, listed, own_faults, ready, value_faults}
use Rattle.inf_laws.proofs.LeastFaults.{least_of_lists, least_of_one}

least_listed : (o : Option Finding) → IsLeastOf o (listed o)
least_listed None = refl
least_listed (Some f) = least_of_one f

-- Lemmas about units of routines

own_least : (limits : Limits) (context : Context) (p : Part) (w : Compilation)
    → IsLeastOf (own_finding limits context p w) (own_faults limits context p w)
own_least limits context (Part.Statement s) w = of_statement s
  where
    of_statement : (s : Statement) →
        IsLeastOf (own_finding limits context (Part.Statement s) w) (own_faults limits context (Part.Statement s) w)
    of_statement Statement.Assembly =
        let own = site_finding limits (site_of context w) w.output.names
        (map tree_in (trees_at (order w.unit.begun) Wanted.Operand (operands_of w) w)) in
        least_of_lists w.unit.passed own (listed w.unit.passed) (listed own) (least_listed w.unit.passed) (least_listed own)
    of_statement s = least_listed (own_finding limits context (Part.Statement s) w)
own_least limits context Part.Case w = least_listed (own_finding limits context Part.Case w)
own_least limits context other w = refl

effect_report : (limits : Limits) (context : Context) (p : Part) (trees : List Rooted) (w : Compilation)
    → (part_effect limits context p trees w).report ≡ w.report
unfolding part_effect
effect_report limits context (Part.Statement s) trees w = refl
effect_report limits context other trees w = refl

carried_told : (limits : Limits) (context : Context) (first : Place) (p : Part) (f : Option Finding) (w : Compilation)
    → (part_carried limits context first p f w).report
    ≡ told_behind limits context first (told_as context.names w.unit.tokens first (found_alone f)) w.report (part_carried limits context first p f w)
carried_told limits context first p (Some f) w = refl
carried_told limits context first p None w =
    let s = settled_of limits context w in
    let x = record w { output = record s.out { first = first } } in
    let trees = trees_at (order_of p w) (wanted_of p) s.operands w in
    ap (with_full context.names first (full limits (part_effect limits context p trees x).output)) (effect_report limits context p trees x)

abbrev begun_named : Limits → Part → Compilation → Compilation
begun_named limits p w = named (part_begun limits p w)

begun_report : (limits : Limits) (p : Part) (w : Compilation) → (begun_named limits p w).report ≡ w.report
begun_report limits Part.Case w = refl
begun_report limits _ w = refl

begun_tokens : (limits : Limits) (p : Part) (w : Compilation) → (begun_named limits p w).unit.tokens ≡ w.unit.tokens
begun_tokens limits Part.Case w = refl
begun_tokens limits _ w = refl

finished_told : (limits : Limits) (context : Context) (first : Place) (p : Part) (w : Compilation)
    → (part_finished limits context first p w).report
    ≡ told_behind limits context first (told_as context.names w.unit.tokens first (found_alone (found_in limits context p w))) w.report
    (part_finished limits context first p w)
finished_told limits context first p w =
    let f = found_in limits context p w in
    let after = part_finished limits context first p w in
    carried_told limits context first p f (begun_named limits p w)
    ∙ (ap (λ tokens. told_behind limits context first (told_as context.names tokens first (found_alone f)) (begun_named limits p w).report after)
    (begun_tokens limits p w)
    ∙ ap (λ r. told_behind limits context first (told_as context.names w.unit.tokens first (found_alone f)) r after) (begun_report limits p w))

pub parts_tell_the_least : (limits : Limits) → PartsTellTheLeast limits
parts_tell_the_least limits context place p w kept =
    let v = ready limits p w in
    let first = place_of p place v in
    let after = part_finished limits context first p v in
    let f = found_in limits context p v in
    let told = told_as context.names v.unit.tokens first (found_alone f) in
    let same : part_ended limits context place p w ≡ after = ap (λ b. if b then passed (has_last p) w else after) kept in
    record {
      found = found_alone f;
      is_least = least_of_lists (finding_at (order_of p v) (wanted_of p) v) (own_finding limits context p v)
          (listed (finding_at (order_of p v) (wanted_of p) v)) (own_faults limits context p v)
          (least_listed (finding_at (order_of p v) (wanted_of p) v))
          (own_least limits context p v);
      told = ap (λ (x : Compilation). x.report) same
          ∙ (finished_told limits context first p v ∙ ap (told_behind limits context first told v.report) (sym same));
    }

-- Lemmas about constants

value_least : (m : Option Meaning) (f : Option Finding) (all : List Finding) → IsLeastOf f all
    → IsLeastOf (constant_finding m f) (value_faults m all)
value_least None None all none = subst (λ l. IsLeastOf (Some (no_constant 0)) (value_faults None l)) (sym none) (least_of_one (no_constant 0))
value_least None (Some f) [] is = elim is.0 [ ]
value_least None (Some f) (x ∷ all) is = is
value_least (Some m) None all is = is
value_least (Some m) (Some f) all is = is

added_told : (limits : Limits) (context : Context) (first : Place) (found : Findings) (o : Option Finding) (w : Compilation)
    → (unit_ended limits context first true found (constant_added limits context o w)).report
    ≡ told_behind limits context first (told_as context.names w.unit.tokens first found) w.report
    (unit_ended limits context first true found (constant_added limits context o w))
added_told limits context first found None w = refl
added_told limits context first found (Some f) w = refl

pub constants_tell_the_least : (limits : Limits) → ConstantsTellTheLeast limits
constants_tell_the_least limits context first name others w =
    let m = constant_of (map tree_in (trees_at 0 Wanted.Constant (operands_of w) w)) w in
    let judged = finding_at 0 Wanted.Constant w in
    let finding = constant_finding m judged in
    let again = again_by name (declare_fault limits name.bytes w.output.names) in
    let of_name = again_finding (name_order w.unit.tokens) again in
    let found = constant_findings (name_order w.unit.tokens) again finding in
    let all = listed judged in
    let next = record w { output = declared limits name.bytes name.place (constant_meaning m finding) w.output } in
    record {
      found = found;
      is_least = least_of_lists of_name finding (listed of_name) (value_faults m all) (least_listed of_name)
          (value_least m judged all (least_listed judged));
      told = added_told limits context first found found.least next;
    }
