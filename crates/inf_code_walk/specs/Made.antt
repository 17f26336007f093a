-- Code by the pieces that it is put together of. A law that holds of each piece holds of the code, by one induction.
use Rattle.std.specs.Prelude.{Bool, List, None, Option, Some, [], if◌then◌else◌, ℕ, ◌++◌, ◌+◌, ◌==◌, ◌∷◌, ◌≡◌, ◌≤◌, ◌⊎◌}
use Rattle.inf_area.specs.declared.targets.Target.{Target}
use Rattle.inf_expressions.specs.{Trees.Leaf, Trees.One, Trees.Tree, Trees.Two, declared.operators.Operand.Operand}
use Rattle.inf_settings.specs.Bounds.{Limits}
use Rattle.inf_opcode.specs.{Instructions.bare, declared.instructions.Branch.Branch, declared.instructions.Destination.Destination}
use Rattle.inf_opcode.specs.{declared.instructions.Label.Label, declared.opcodes.Opcode.Opcode}
use Rattle.inf_output.specs.{Texts.late, declared.items.Item.Item, declared.operands.Simple.Simple, declared.veneer.Veneer.Veneer}
use Rattle.inf_output.specs.Output.{Code, Out, instruction, jumped, laid, low_string_at, marked, naming, nothing, with_label, with_low_text}
use Rattle.inf_output.specs.Output.{◌▸◌}
use Rattle.inf_templates.specs.{Meaning.meaning, Parts.calling_routine}
use Rattle.inf_constructs.specs.Constructs.{Laying}

-- Numbers of labels

-- the number of times that a number is in a list
abbrev pub times : ℕ → List ℕ → ℕ
times n [] = 0
times n (m ∷ ms) = (if n == m then 1 else 0) + times n ms

abbrev pub target_labels : Destination → List ℕ
target_labels (Destination.To label) = label.number ∷ []
target_labels Destination.ReturnFalse = []
target_labels Destination.ReturnTrue = []

abbrev pub branch_labels : Option Branch → List ℕ
branch_labels None = []
branch_labels (Some branch) = target_labels branch.target

-- Pieces

-- Operands meet a premise where the targets that they refer to do: numbers and variables refer to none.
abbrev pub Meets : (Target → Type 0) → Simple → Type 0
Meets L (Simple.Later t) = L t
Meets L _ = Unit {0}

abbrev pub AllMeet : (Target → Type 0) → List Simple → Type 0
AllMeet L [] = Unit {0}
AllMeet L (s ∷ simples) = Meets L s × AllMeet L simples

abbrev pub MaybeMeets : (Target → Type 0) → Option Simple → Type 0
MaybeMeets L None = Unit {0}
MaybeMeets L (Some s) = Meets L s

abbrev pub LeafMeets : (Target → Type 0) → Operand → Type 0
LeafMeets L (Operand.Later t) = L t
LeafMeets L _ = Unit {0}

-- the leaves of a tree
abbrev pub TreeMeets : (Target → Type 0) → Tree → Type 0
TreeMeets L (Leaf x) = LeafMeets L x
TreeMeets L (One op a) = TreeMeets L a
TreeMeets L (Two op a b) = TreeMeets L a × TreeMeets L b

abbrev pub TreesMeet : (Target → Type 0) → List Tree → Type 0
TreesMeet L [] = Unit {0}
TreesMeet L (e ∷ trees) = TreeMeets L e × TreesMeet L trees

-- Code of these pieces alone: instructions whose operands meet a premise or that print a text, calls of supplied routines, low strings,
-- and labels. It branches and jumps to labels that it marks or that are among those that it may need; beside the labels that are handed
-- out while it is laid, it marks those that it is given, once each.
pub data Made (limits : Limits) (L : Target → Type 0) : Code → List ℕ → List ℕ → Type 0 where
  Nothing : {needs : List ℕ} → Made limits L nothing needs []
  Then : {c d : Code} {needs a b : List ℕ} → Made limits L c needs a → Made limits L d needs b → Made limits L (c ▸ d) needs (a ++ b)
  Handed : {body : Label → Code} {needs given : List ℕ}
      → ((l : Label) → Made limits L (body l) (l.number ∷ needs) (l.number ∷ given)) → Made limits L (with_label body) needs given
  Wide : {c : Code} {a b given : List ℕ} → ((n : ℕ) → 1 ≤ times n a → 1 ≤ times n b) → Made limits L c a given → Made limits L c b given
  As : {c : Code} {needs a b : List ℕ} → ((n : ℕ) → times n a ≡ times n b) → Made limits L c needs a → Made limits L c needs b
  Instructs : (op : Opcode) (operands : List Simple) (store : Option ℕ) (branch : Option Branch) → AllMeet L operands
      → Made limits L (instruction limits op operands store branch) (branch_labels branch) []
  Names : (op : Opcode) (variable : ℕ) (operands : List Simple) (store : Option ℕ) (branch : Option Branch) → AllMeet L operands
      → Made limits L (naming limits op variable operands store branch) (branch_labels branch) []
  Asks : (v : Veneer) (arguments : List Simple) (store : Option ℕ) → AllMeet L arguments
      → Made limits L (calling_routine limits v arguments store) [] []
  Marks : {needs : List ℕ} (l : Label) → Made limits L (marked limits l) needs (l.number ∷ [])
  Jumps : (l : Label) → Made limits L (jumped limits l) (l.number ∷ []) []
  Packs : Made limits L (λ o. record o { texts = late o.texts }) [] []
  Prints : (op : Opcode) (text : Out → List ℕ)
      → Made limits L (λ o. laid limits (Item.Instruction (record (bare op) { text = text o })) o) [] []
  Lows : {needs given : List ℕ} (text : List ℕ) (body : Target → Code) → ((o : Out) → Made limits L (body (low_string_at o)) needs given)
      → Made limits L (λ o. body (low_string_at o) (with_low_text limits text o)) needs given

-- A laying gives a value with code of pieces; it hands out labels; it is one of two, by a test; or it is one behind another, or one that is
-- chosen by the output.
pub data Laid (limits : Limits) (L : Target → Type 0) : (A : Type 0) → Laying A → Type 1 where
  Lays : {A : Type 0} {c : Code} {needs given : List ℕ} (a : A) → Made limits L c needs given → Laid limits L A (λ o. (a, c o))
  Takes : {A : Type 0} (x : Out → A) (next : Out → ℕ) → Laid limits L A (λ o. (x o, record o { next = next o }))
  Either : {A : Type 0} (b : Bool) (f g : Laying A) → Laid limits L A f → Laid limits L A g
      → Laid limits L A (λ o. if◌then◌else◌ {A = A × Out} b (f o) (g o))
  Binds : {A B : Type 0} (f : Laying B) (g : B → Laying A) → Laid limits L B f → ((b : B) → Laid limits L A (g b))
      → Laid limits L A (λ o. g (f o).0 (f o).1)
  By : {A B : Type 0} (x : Out → B) (g : B → Laying A) → ((b : B) → Laid limits L A (g b)) → Laid limits L A (λ o. g (x o) o)

-- The code of a tree is made so in each use of the tree; as a branch it needs the label to which it leads.
pub record TreeMade (limits : Limits) (L : Target → Type 0) (t : Tree) : Type 0 where
  pub value : (d : ℕ) → Made limits L ((meaning limits t).value d) [] []
  pub alone : Made limits L (meaning limits t).alone [] []
  pub branch : (sense : Bool) (label : Label) → Made limits L ((meaning limits t).branch sense label) (label.number ∷ []) []

-- the targets to which the leaves of a tree refer
abbrev pub leaf_targets : Operand → List Target
leaf_targets (Operand.Later t) = t ∷ []
leaf_targets _ = []

abbrev pub tree_targets : Tree → List Target
tree_targets (Leaf x) = leaf_targets x
tree_targets (One op a) = tree_targets a
tree_targets (Two op a b) = tree_targets a ++ tree_targets b

abbrev pub IsAmong : List Target → Target → Type 0
IsAmong [] t = ⊥
IsAmong (u ∷ others) t = (t ≡ u) ⊎ IsAmong others t

-- Code refers to no other targets than the leaves of its tree do.
abbrev pub TreesAreMade : Type 0
TreesAreMade = (limits : Limits) (t : Tree) → TreeMade limits (IsAmong (tree_targets t)) t
