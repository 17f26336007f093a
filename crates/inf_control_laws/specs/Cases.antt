-- Cases of a `switch`: whether the value that it keeps is one of theirs. Designer's Manual, fourth edition, section 1.8.
use Rattle.std.specs.Prelude.{ℕ, ◌==◌, ◌&&◌, ◌||◌, not, Bool, true, false, List, [], ◌∷◌, Option, Some, None}
use Rattle.inf_expressions.specs.{Trees.Leaf, Trees.Tree, Trees.Two, declared.operators.Binary.Binary}
use Rattle.inf_constructs.specs.Cases.{SWITCHED}
use Rattle.inf_interpreter.specs.Machine.{World, Store, ◌then◌, less}
use Rattle.inf_meaning_laws.specs.Values.{read}
use Rattle.inf_control_laws.specs.Control.{Truth}

-- a number from the least one of a range to the greatest one, by their signs
abbrev pub is_within : ℕ → ℕ → ℕ → Bool
is_within least greatest n = not (less n least) && not (less greatest n)

-- A value of a case is a number, or a range between two of them.
abbrev pub is_value : World → Tree → ℕ → Store → Option Bool
is_value w (Leaf x) n s = read w x s then λ m. Some (n == m)
is_value w (Two Binary.To (Leaf x) (Leaf y)) n s = read w x s then λ least. read w y s then λ greatest. Some (is_within least greatest n)
is_value w t n s = None

abbrev pub is_one_of : World → List Tree → ℕ → Store → Option Bool
is_one_of w [] n s = Some false
is_one_of w (t ∷ trees) n s = is_value w t n s then λ b. is_one_of w trees n s then λ c. Some (b || c)

-- A default is a case of any value, and another case has one value at least.
abbrev pub case_truth : World → Bool → List Tree → Truth
case_truth w true trees s = Some (true, s)
case_truth w false [] s = None
case_truth w false (t ∷ trees) s = is_one_of w (t ∷ trees) (s.variables SWITCHED) s then λ b. Some (b, s)

-- The values are constants, or ranges between two.
abbrev pub IsCaseValue : Tree → Type 0
IsCaseValue (Leaf x) = Unit {0}
IsCaseValue (Two Binary.To (Leaf x) (Leaf y)) = Unit {0}
IsCaseValue t = ⊥

abbrev pub AreValues : List Tree → Type 0
AreValues [] = Unit {0}
AreValues (t ∷ trees) = IsCaseValue t × AreValues trees
