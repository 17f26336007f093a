-- The number of a list's members: the code has as many parts as the tree.
use Rattle.std.proofs.Common.{◌≡◌, ◌≤◌, ℕ, suc, Bool, true, refl, ◌∙◌, ap, sym, subst, arith, length, nat_lt}
use Rattle.std.proofs.lemmas.Bool.{ltb-true}
use Rattle.inf_settings.specs.Bounds.{Limits}
use Rattle.inf_expressions.specs.{declared.operators.Binary.Binary, declared.operators.Unary.Unary}
use Rattle.inf_expressions.specs.Trees.{Tree, One, Two}
use Rattle.inf_templates.specs.Meaning.{Meaning, meaning, parts}
use Rattle.inf_templates.specs.Meaning as code
use Rattle.inf_interpreter.specs.Machine.{World}
use Rattle.inf_meaning_laws.specs.{Covered.count, Values.args, Values.sense}
use Rattle.inf_meaning_laws.proofs.{Groups.same_length, Meant.Means}

one_others : (limits : Limits) (op : Unary) (m : Meaning) → suc (length (code.one limits op m).others) ≡ 1
one_others limits Unary.Negate m = refl
one_others limits other m = refl

pub counted : (limits : Limits) (t : Tree) → suc (length (meaning limits t).others) ≡ count t
counted limits (One op a) = one_others limits op (meaning limits a)
counted limits (Two Binary.Then a b) = ap suc (counted limits b)
counted limits other = refl

pub few_of : (limits : Limits) (t : Tree) (n : ℕ) → count t ≤ n → suc (length (meaning limits t).others) ≤ n
few_of limits t n h = subst (λ k. k ≤ n) (sym (counted limits t)) h

-- no more than a number of members are not more than it
pub none_more : {keeps : Bool} {B : Type 0} (w : World) (limits : Limits) (t : Tree) → Means keeps w limits (meaning limits t) (sense w t) →
    (n : ℕ) → count t ≤ n → nat_lt n (length (args (sense w t))) ≡ true → B
none_more {keeps} {B} w limits t h n few more =
    let long = same_length keeps w (parts (meaning limits t)) (args (sense w t)) (h.first, h.others) ∙ counted limits t in
    let over = ltb-true n (length (args (sense w t))) more in
    absurd (omega (arith, few, long, over))
