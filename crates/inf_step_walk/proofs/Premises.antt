-- Operands and trees that meet a premise, and with it a wider one. Trees of a unit meet it where its operands do.
use Rattle.std.specs.Prelude.{if◌then◌else◌, map, reverse, ◌-◌, ◌==◌}
use Rattle.std.proofs.lemmas.List.{reverse-append}
use Rattle.std.proofs.Common.{Bool, List, None, Option, Some, [], false, subst, suc, sym, true, zero, ℕ, ◌++◌, ◌∷◌}
use Rattle.inf_area.specs.declared.targets.Target.{Target}
use Rattle.inf_expressions.specs.{Rooted.Rooted, Rooted.bracketed_latest, Rooted.with_two, Rooted.with_unary, Trees.Leaf, Trees.One}
use Rattle.inf_expressions.specs.{Trees.Tree, Trees.Two, declared.operators.Binary.Binary, declared.operators.Function.Function}
use Rattle.inf_expressions.specs.{declared.operators.Operand.Operand, declared.operators.Unary.Unary, declared.symbols.Symbol.Symbol}
use Rattle.inf_expressions.specs.{declared.units.Wanted.Wanted}
use Rattle.inf_expressions.specs.Folding.{built, folded, folded_single, function_of, known, number_or}
use Rattle.inf_expressions.specs.Units.{Gathered, acted, call_joined, called, gathered, listed, nothing_gathered, operand_at, parted}
use Rattle.inf_expressions.specs.Units.{trees_of, with_unary_of}
use Rattle.inf_output.specs.{Output.Out, declared.operands.Simple.Simple}
use Rattle.inf_constructs.specs.Roots.{tree_in}
use Rattle.inf_code_walk.specs.Made.{AllMeet, LeafMeets, Meets, TreeMeets, TreesMeet}
use Rattle.inf_word_laws.specs.Standing.{AllOf}
use Rattle.inf_step_walk.specs.{Standing.TargetStands, Walking.RootsMeet}

-- Lists joined

pub all_join : {A : Type 0} (P : A → Type 0) (a b : List A) → AllOf P a → AllOf P b → AllOf P (a ++ b)
all_join P [] b h k = k
all_join P (item ∷ a) b h k = (h.0, all_join P a b h.1 k)

-- Premises

abbrev pub OperandsMeet : (Target → Type 0) → List Operand → Type 0
OperandsMeet L operands = AllOf (λ (x : Operand). LeafMeets L x) operands

abbrev pub There : Out → Type 0 → Target → Type 0
There u P t = P → TargetStands u t

abbrev pub SimpleStands : Out → Type 0 → Simple → Type 0
SimpleStands u P s = Meets (There u P) s

abbrev pub SimplesStand : Out → Type 0 → List Simple → Type 0
SimplesStand u P simples = AllMeet (There u P) simples

module _ {L M : Target → Type 0} (wide : (t : Target) → L t → M t) where
  meets_more : (s : Simple) → Meets L s → Meets M s
  meets_more (Simple.Known number) h = tt
  meets_more (Simple.Variable number) h = tt
  meets_more (Simple.Later t) h = wide t h

  pub all_more : (simples : List Simple) → AllMeet L simples → AllMeet M simples
  all_more [] h = tt
  all_more (s ∷ simples) h = (meets_more s h.0, all_more simples h.1)

  leaf_more : (x : Operand) → LeafMeets L x → LeafMeets M x
  leaf_more (Operand.Later t) h = wide t h
  leaf_more x h = tt

  pub tree_more : (e : Tree) → TreeMeets L e → TreeMeets M e
  tree_more (Leaf x) h = leaf_more x h
  tree_more (One op a) h = tree_more a h
  tree_more (Two op a b) h = (tree_more a h.0, tree_more b h.1)

  pub roots_more : (trees : List Rooted) → RootsMeet L trees → RootsMeet M trees
  roots_more [] h = tt
  roots_more (r ∷ trees) h = (tree_more r.tree h.0, roots_more trees h.1)

pub trees_in : (L : Target → Type 0) (trees : List Rooted) → RootsMeet L trees → TreesMeet L (map tree_in trees)
trees_in L [] h = tt
trees_in L (r ∷ trees) h = (h.0, trees_in L trees h.1)

-- Lemmas about trees of a unit

module _ (L : Target → Type 0) where
  -- Lemmas about operators

  number_stands : (number : Option ℕ) (t : Tree) → TreeMeets L t → TreeMeets L (number_or number t)
  number_stands (Some n) t h = tt
  number_stands None t h = h

  built_stands : (op : Binary) (f : Option Function) (a b : Tree) → TreeMeets L a → TreeMeets L b → TreeMeets L (built op f a b)
  built_stands Binary.Call (Some f) a b h k = k
  built_stands Binary.Call None a b h k = (h, k)
  built_stands op f a b h k = (h, k)

  two_stand : (op : Binary) (trees : List Rooted) → RootsMeet L trees → RootsMeet L (with_two op trees)
  two_stand op [] h = tt
  two_stand op (b ∷ []) h = tt
  two_stand op (b ∷ a ∷ trees) h = (
    number_stands (folded op a.tree b.tree) (built op (function_of a.tree) a.tree b.tree)
        (built_stands op (function_of a.tree) a.tree b.tree h.1.0 h.0),
    h.1.1,
  )

  unary_stands : (op : Unary) (front : Option ℕ) (trees : List Rooted) → RootsMeet L trees → RootsMeet L (with_unary op front trees)
  unary_stands op front [] h = tt
  unary_stands op front (a ∷ trees) h = (number_stands (folded_single op (known a.tree)) (One op a.tree) h.0, h.1)

  bracketed_stands : (order : ℕ) (trees : List Rooted) → RootsMeet L trees → RootsMeet L (bracketed_latest order trees)
  bracketed_stands order [] h = tt
  bracketed_stands order (a ∷ trees) h = h

  -- Lemmas about symbols

  listed_stands : (unit n : ℕ) (g : Gathered) → RootsMeet L g.trees → RootsMeet L (listed unit n g).trees
  listed_stands unit zero g h = h
  listed_stands unit (suc n) g h = two_stand Binary.Then (listed unit n g).trees (listed_stands unit n g h)

  called_stands : (unit given : ℕ) (g : Gathered) → RootsMeet L g.trees → RootsMeet L (called unit given g).trees
  called_stands unit given g h = go (given == 0)
    where
      all : Gathered
      all = listed unit (given - 1) g

      go : (b : Bool) → RootsMeet L (if◌then◌else◌ {A = Gathered} b (with_unary_of Unary.Call None g) (call_joined unit given all)).trees
      go true = unary_stands Unary.Call None g.trees h
      go false = two_stand Binary.Call all.trees (listed_stands unit (given - 1) g h)

  parted_stands : (w : Wanted) (unit : ℕ) (g : Gathered) → RootsMeet L g.trees → RootsMeet L (parted w unit g).trees
  parted_stands Wanted.Case unit g h = h
  parted_stands wanted unit g h = two_stand Binary.Comma g.trees h

  at_stands : (operands : List Operand) (leaf : ℕ) → OperandsMeet L operands → LeafMeets L (operand_at operands leaf)
  at_stands [] leaf h = tt
  at_stands (x ∷ operands) zero h = h.0
  at_stands (x ∷ operands) (suc leaf) h = at_stands operands leaf h.1

  acted_stands : (w : Wanted) (unit : ℕ) (operands : List Operand) (s : Symbol) (g : Gathered)
      → OperandsMeet L operands → RootsMeet L g.trees → RootsMeet L (acted w unit operands s g).trees
  acted_stands w unit operands (Symbol.Leaf first token leaf) g all h = (at_stands operands leaf all, h)
  acted_stands w unit operands (Symbol.Bracketed order) g all h = bracketed_stands order g.trees h
  acted_stands w unit operands (Symbol.Prefix order op) g all h = unary_stands op (Some order) g.trees h
  acted_stands w unit operands (Symbol.Suffix op) g all h = unary_stands op None g.trees h
  acted_stands w unit operands (Symbol.Two op) g all h = two_stand op g.trees h
  acted_stands w unit operands Symbol.Comma g all h = parted_stands w unit g h
  acted_stands w unit operands (Symbol.List joints) g all h = listed_stands unit joints g h
  acted_stands w unit operands (Symbol.Call given) g all h = called_stands unit given g h

  gathered_stand : (w : Wanted) (unit : ℕ) (operands : List Operand) (symbols : List Symbol) (g : Gathered)
      → OperandsMeet L operands → RootsMeet L g.trees → RootsMeet L (gathered w unit operands symbols g).trees
  gathered_stand w unit operands [] g all h = h
  gathered_stand w unit operands (s ∷ symbols) g all h =
      gathered_stand w unit operands symbols (acted w unit operands s g) all (acted_stands w unit operands s g all h)

  -- Lemmas about all trees of a unit, from the first on

  reversed_stand : (trees : List Rooted) → RootsMeet L trees → RootsMeet L (reverse trees)
  reversed_stand [] h = tt
  reversed_stand (r ∷ trees) h = subst (λ (all : List Rooted). RootsMeet L all) (sym (reverse-append (r ∷ []) trees))
      (all_join (λ (r : Rooted). TreeMeets L r.tree) (reverse trees) (r ∷ []) (reversed_stand trees h.1) (h.0, tt))

  pub roots_stand : (w : Wanted) (unit : ℕ) (operands : List Operand) (symbols : List Symbol)
      → OperandsMeet L operands → RootsMeet L (trees_of w unit operands symbols)
  roots_stand w unit operands symbols all = reversed_stand (gathered w unit operands symbols nothing_gathered).trees
      (gathered_stand w unit operands symbols nothing_gathered all tt)
