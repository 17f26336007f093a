-- The end of a unit that has gathered one expression is by this one.
use Rattle.std.proofs.Common.{◌≡◌, ℕ, List, [], ◌∷◌, map, true, false, Option, Some, None, refl, ◌∙◌, ap, if◌then◌else◌}
use Rattle.inf_settings.specs.Bounds.{Limits}
use Rattle.inf_scanner.specs.declared.tokens.Place.{Place}
use Rattle.inf_expressions.specs.{Sources.Source, Sources.meant, Trees.Tree, Units.judged, Units.trees_of, declared.symbols.Symbol.Symbol}
use Rattle.inf_expressions.specs.declared.{findings.Finding.Finding, operators.Operand.Operand, units.Wanted.Wanted}
use Rattle.inf_unit.specs.Units.{order, own_place}
use Rattle.inf_constructs.specs.Roots.{tree_in}
use Rattle.inf_compilation.specs.{Context.Context, Findings.nothing_found}
use Rattle.inf_compilation.specs.Actions.{Compilation, finding_at, operands_of, passed, settled_of, trees_at, unit_ended}
use Rattle.inf_named_values.specs.Values.{value_in}
use Rattle.inf_alone.specs.Ending.{alone_ended, code_of, constant_alone, constant_ended, expression_ended, leaves_noted, left_of}
use Rattle.inf_alone.specs.declared.ending.{Ended.Ended, Told.Told, Use.Use}
use Rattle.inf_expression_laws.proofs.TreesRead.{symbols_come_to_their_tree}
use Rattle.inf_expression_laws.specs.Laws.{joins_commas}
use Rattle.inf_call_laws.specs.Laid.{HasOne, constant_by, ended_by, finding_of, laid_by, told_by}

-- The finding about such a unit, and its trees, are those of the expression.

found : (wanted : Wanted) (first : ℕ) (value : Source) (w : Compilation) → joins_commas wanted ≡ true → HasOne value w.unit
    → finding_at first wanted w ≡ finding_of wanted first (operands_of w) value
found wanted first value w joins one = ap (λ (symbols : List Symbol). judged wanted first (operands_of w) symbols) one.symbols
    ∙ (symbols_come_to_their_tree wanted false first (operands_of w) one.level one.from one.leaf one.atoms value one.written joins).1

grown : (wanted : Wanted) (first : ℕ) (operands : List Operand) (value : Source) (w : Compilation) → joins_commas wanted ≡ true
    → HasOne value w.unit → map tree_in (trees_at first wanted operands w) ≡ tree_in (meant operands value) ∷ []
grown wanted first operands value w joins one =
    ap (λ (symbols : List Symbol). map tree_in (trees_of wanted first operands symbols)) one.symbols
    ∙ ap (map tree_in)
    (symbols_come_to_their_tree wanted false first operands one.level one.from one.leaf one.atoms value one.written joins).0

-- Lemmas about an expression

laid_so : (limits : Limits) (context : Context) (first : Place) (u : Use) (value : Source) (f : Option Finding) (w : Compilation)
    → HasOne value w.unit → expression_ended limits context first u f w ≡ laid_by limits context first u value f w
laid_so limits context first u value (Some f) w one = refl
laid_so limits context first u value None w one =
    let settled = settled_of limits context w in
    ap (λ (trees : List Tree). (
      unit_ended limits context first false nothing_found
          (record w { output = code_of limits u trees (record settled.out { first = first }) }),
      Ended.Laid (left_of limits u trees),
    )) (grown Wanted.Value (order w.unit.begun) settled.operands value w refl one)

pub ends_so : (limits : Limits) (context : Context) (place : Place) (u : Use) (value : Source) (w : Compilation) → HasOne value w.unit
    → alone_ended limits context place u w ≡ ended_by limits context place u value w
ends_so limits context place u value w one =
    let first = own_place w.unit place in
    ap (λ (e : Compilation × Ended). if w.is_replaced then (passed false w, Ended.Laid None) else e)
    (ap (λ (f : Option Finding). expression_ended limits context first u f (leaves_noted w))
    (found Wanted.Value (order w.unit.begun) value w refl one)
    ∙ laid_so limits context first u value (finding_of Wanted.Value (order w.unit.begun) (operands_of w) value) (leaves_noted w) one)

-- Lemmas about a constant

told_so : (limits : Limits) (context : Context) (first : Place) (value : Source) (f : Option Finding) (w : Compilation)
    → HasOne value w.unit → constant_ended limits context first f w ≡ constant_by limits context first value f w
told_so limits context first value (Some f) w one = refl
told_so limits context first value None w one =
    let settled = settled_of limits context w in
    ap (λ (trees : List Tree). (
      unit_ended limits context first false nothing_found (record w { output = settled.out }),
      Told.Is (value_in trees),
    )) (grown Wanted.Constant 0 settled.operands value w refl one)

pub constants_so : (limits : Limits) (context : Context) (place : Place) (value : Source) (w : Compilation) → HasOne value w.unit
    → constant_alone limits context place w ≡ told_by limits context place value w
constants_so limits context place value w one =
    let first = own_place w.unit place in
    ap (λ (f : Option Finding). constant_ended limits context first f w) (found Wanted.Constant 0 value w refl one)
    ∙ told_so limits context first value (finding_of Wanted.Constant 0 (operands_of w) value) w one
