-- Loops over objects, by expressions of the language: the first object and each next one, which a variable then is, and the condition of
-- an object.
use Rattle.std.specs.Prelude.{ℕ, true, List, Option, Some, None, unwrap_or}
use Rattle.inf_settings.specs.Bounds.{Limits}
use Rattle.inf_area.specs.{declared.targets.SystemConstant.SystemConstant, declared.targets.Target.Target}
use Rattle.inf_expressions.specs.{Rooted.Rooted, Trees.Leaf, Trees.One, Trees.Tree, Trees.Two, declared.operators.Binary.Binary}
use Rattle.inf_expressions.specs.{declared.operators.Direction.Direction, declared.operators.Operand.Operand}
use Rattle.inf_expressions.specs.{declared.operators.Relative.Relative, declared.operators.Test.Test, declared.operators.Unary.Unary}
use Rattle.inf_output.specs.Output.{Out}
use Rattle.inf_constructs.specs.declared.constructs.Construct.{Construct}
use Rattle.inf_statement_laws.specs.Laid.{with_kind_in}
use Rattle.inf_interpreter.specs.Machine.{World}
use Rattle.inf_meaning_laws.specs.Values.{truth_of}
use Rattle.inf_control_laws.specs.{Control.Truth, Parts.BeginsLoop, Parts.GoesOver, Runs.Lays}

-- the variable of a loop, with which its expression begins
abbrev pub loop_variable : Rooted → ℕ
loop_variable r = unwrap_or r.origin.lead.variable 0

abbrev pub in_variable : ℕ → Tree
in_variable v = Leaf (Operand.Variable v)

-- `v = e`, which is true where the value is not 0
abbrev pub put_into : ℕ → Tree → Tree
put_into v e = Two Binary.Assign (in_variable v) e

-- The first object is found by `v = child(e)` where the expression is `v in e`, and else by `v = 5`.
abbrev pub first_by : Option Tree → ℕ → Tree
first_by (Some e) v = put_into v (One (Unary.Relative Relative.Child) e)
first_by None v = put_into v (Leaf (Operand.Known 5))

-- The next one is found by `v = sibling(v)`, and else by `++v <= #highest_object_number`.
abbrev pub next_by : Option Tree → ℕ → Tree
next_by (Some e) v = put_into v (One (Unary.Relative Relative.Sibling) (in_variable v))
next_by None v =
    Two (Binary.Test Test.AtMost) (One (Unary.Before Direction.Up) (in_variable v))
    (Leaf (Operand.Later (Target.System SystemConstant.HighestObjectNumber)))

-- Any other expression than `v in e` and `v` alone is the condition of an object. Each child of `e` meets it, and where the expression is
-- `v` alone each object does.
abbrev pub holds_by : World → Option Tree → Tree → Truth
holds_by w (Some e) t s = Some (true, s)
holds_by w None (Leaf x) s = Some (true, s)
holds_by w None t s = truth_of w t s

-- A loop over objects begins, with a statement as the innermost one: it is known over which objects the loop goes, and the code of the
-- unit finds the first one and leads over the body where the condition is not true.
pub record LoopBegins (w : World) (limits : Limits) (children : Option Tree) (t : Tree) (v : ℕ) (c : Construct) (before : Out)
    (constructs : List Construct) (now : Out) : Type 0 where
  pub goes : GoesOver w limits (truth_of w (next_by children v)) c.top (with_kind_in constructs c).kind
  pub begins : Lays w (BeginsLoop w (truth_of w (first_by children v)) (holds_by w children t) c.top c.next c.end) before now
