-- The first of some trees as an operand.
use Rattle.std.proofs.Common.{◌≡◌, List, [], ◌∷◌, Some, None, refl, subst, slice_get}
use Rattle.inf_settings.specs.Bounds.{Limits}
use Rattle.inf_area.specs.declared.targets.Target.{Target}
use Rattle.inf_opcode.specs.declared.opcodes.Opcode.{Opcode}
use Rattle.inf_expressions.specs.{Trees.Tree, declared.trees.Root.Root}
use Rattle.inf_output.specs.{declared.operands.Simple.Simple}
use Rattle.inf_templates.specs.{Meaning.part, Parts.Part, Parts.is, Parts.worked, Tasks.at}
use Rattle.inf_constructs.specs.Roots.{trees_from}
use Rattle.inf_statements.specs.Statements.{abbreviations, attribute_code, string_set}

pub first_attribute : (limits : Limits) (op : Opcode) (object : Part) (nodes : List Tree) (roots : List Root) (root : Root)
    → Some root ≡ slice_get roots 0
    → worked limits op (object ∷ part (at limits nodes root.place) ∷ []) None None ≡ attribute_code limits op object
    (trees_from nodes roots)
first_attribute limits op object nodes [] root first = cc
first_attribute limits op object nodes (r ∷ roots) root first =
    let same : r ≡ root = cc in
    subst (λ (x : Root). worked limits op (object ∷ part (at limits nodes x.place) ∷ []) None None ≡ attribute_code limits op object
    (trees_from nodes (r ∷ roots))) same refl

pub first_string : (limits : Limits) (low : Target) (nodes : List Tree) (roots : List Root) (root : Root) → Some root ≡ slice_get roots 0
    → worked limits Opcode.Storew (is (Simple.Later abbreviations) ∷ part (at limits nodes root.place) ∷ is (Simple.Later low) ∷
    []) None None ≡ string_set limits low (trees_from nodes roots)
first_string limits low nodes [] root first = cc
first_string limits low nodes (r ∷ roots) root first =
    let same : r ≡ root = cc in
    subst (λ (x : Root). worked limits Opcode.Storew
    (is (Simple.Later abbreviations) ∷ part (at limits nodes x.place) ∷ is (Simple.Later low) ∷ []) None
    None ≡ string_set limits low (trees_from nodes (r ∷ roots))) same refl
