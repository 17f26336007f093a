use Rattle.std.proofs.Common.{sym, subst}
use Rattle.inf_gathering.specs.declared.gathering.Leaf.{Leaf}
use Rattle.inf_operands.specs.Uses.{LeafStays}
use Rattle.inf_operands.proofs.looking.stays.Goals as goal

pub returns-in-Name : goal.returns-in-Name
returns-in-Name g c =
    λ e. subst (λ (l : Leaf). LeafStays c.args.out.now c.args.tokens.now l c.args.operand) (sym c.in-Name.is) (c.name_stays.ensures.name e)

pub returns-in-Alone : goal.returns-in-Alone
returns-in-Alone g c =
    λ e. subst (λ (l : Leaf). LeafStays c.args.out.now c.args.tokens.now l c.args.operand) (sym c.in-Alone.is) (c.name_stays-in-Alone.ensures.alone e)
