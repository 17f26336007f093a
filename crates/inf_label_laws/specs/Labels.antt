-- The labels of an expression are its own; and its code, anywhere in a program, with the labels looked up.
use Rattle.std.specs.Prelude.{Bool, List, Some, [], false, if◌then◌else◌, ℕ, ◌++◌, ◌+◌, ◌<◌, ◌==◌, ◌∷◌, ◌≡◌, ◌≤◌}
use Rattle.inf_expressions.specs.Trees.{Tree}
use Rattle.inf_settings.specs.Bounds.{Limits}
use Rattle.inf_opcode.specs.{declared.instructions.Label.Label, declared.instructions.Operand.Operand}
use Rattle.inf_output.specs.{Output.Code, Output.Out, Output.apart, Output.items_of, declared.items.Item.Item}
use Rattle.inf_templates.specs.Meaning.{meaning}
use Rattle.inf_interpreter.specs.{Claims.state, Machine.Place, Machine.State, Machine.Store, Machine.World, Machine.run, Supplied.Supplies}
use Rattle.inf_meaning_laws.specs.{Covered.Covered, Laws.taken, Laws.taker, Values.sense, Values.value_of}
use Rattle.inf_code_walk.specs.Made.{branch_labels, times}

-- Code, anywhere in a program

-- the place of a label, behind its first mark
abbrev pub behind_mark : List Item → Label → Place
behind_mark [] l = []
behind_mark ((Item.Instruction i) ∷ items) l = behind_mark items l
behind_mark ((Item.Mark m) ∷ items) l = if m.number == l.number then items else behind_mark items l

abbrev pub marks : List Item → List ℕ
marks [] = []
marks ((Item.Instruction i) ∷ items) = marks items
marks ((Item.Mark m) ∷ items) = m.number ∷ marks items

-- the labels to which items branch or jump
abbrev pub operand_labels : List Operand → List ℕ
operand_labels [] = []
operand_labels ((Operand.Offset label) ∷ others) = label.number ∷ operand_labels others
operand_labels (operand ∷ others) = operand_labels others

abbrev pub uses : List Item → List ℕ
uses [] = []
uses ((Item.Instruction i) ∷ items) = operand_labels i.operands ++ (branch_labels i.branch ++ uses items)
uses ((Item.Mark m) ∷ items) = uses items

-- All labels that a program marks are different.
abbrev pub IsAbsent : ℕ → List ℕ → Type 0
IsAbsent n [] = Unit {0}
IsAbsent n (m ∷ others) = ((n == m) ≡ false) × IsAbsent n others

abbrev pub AreDifferent : List ℕ → Type 0
AreDifferent [] = Unit {0}
AreDifferent (n ∷ others) = IsAbsent n others × AreDifferent others

-- the items that code lays, kept apart from all that was laid before
abbrev pub items_laid : Code → Out → List Item
items_laid c o = items_of (c (apart o)).kept

-- Wherever these items are in a program, some number of steps leads from their front to their end.
abbrev pub RunsTo : World → List Item → List Item → State → (ℕ → State) → Type 0
RunsTo w program items start now =
    (rest : Place) → (front : List Item) → program ≡ front ++ (items ++ rest) → AreDifferent (marks program) →
    (left : ℕ) × (steps : ℕ) × (run w (behind_mark program) steps (items ++ rest) start ≡ Some (rest, now left))

-- In every program the code of an expression gives its value to a variable or the stack.
abbrev pub ProgramsCompute : Type 0
ProgramsCompute =
    (keeps : Bool) (w : World) (limits : Limits) (tree : Tree) → Covered keeps tree → (d : ℕ) (o : Out) (program : List Item)
    (stack : List ℕ)
    (temp : ℕ) (s t : Store) (n : ℕ) → Supplies w ((meaning limits tree).value d (apart o)) →
    (sense w tree).value (taker d) s ≡ Some (n, t) →
    RunsTo w program (items_laid ((meaning limits tree).value d) o) (state stack temp s) (λ left. taken d n stack left t)

-- Where the value goes to the stack, one number more is on it.
abbrev pub ProgramsPush : Type 0
ProgramsPush =
    (keeps : Bool) (w : World) (limits : Limits) (tree : Tree) → Covered keeps tree → (o : Out) (program : List Item) (stack : List ℕ)
    (temp : ℕ)
    (s t : Store) (n : ℕ) → Supplies w ((meaning limits tree).value 0 (apart o)) →
    value_of w tree s ≡ Some (n, t) →
    RunsTo w program (items_laid ((meaning limits tree).value 0) o) (state stack temp s) (λ left. state (n ∷ stack) left t)

-- Labels that are own

-- Code marks no label twice, and only labels that are handed out while it is laid: those from the next label before it to the one before
-- the next behind it. Numbers of labels end long behind the most labels that a routine may have, and there nothing is said.
abbrev pub MarksItsOwn : Code → Type 0
MarksItsOwn c =
    (o : Out) → (c (apart o)).next < 4294967295 → (n : ℕ) →
    (times n (marks (items_laid c o)) ≤ 1)
    × (n < o.next → times n (marks (items_laid c o)) ≡ 0)
    × ((c (apart o)).next ≤ n → times n (marks (items_laid c o)) ≡ 0)

-- Code branches and jumps to labels that it marks, and to no others but those that it may need.
abbrev pub NeedsAlone : List ℕ → Code → Type 0
NeedsAlone needs c =
    (o : Out) → (c (apart o)).next < 4294967295 → (n : ℕ) → 1 ≤ times n (uses (items_laid c o)) →
    1 ≤ times n needs + times n (marks (items_laid c o))

-- The code of every tree, in each use of the tree, marks labels of its own, and branches and jumps to these alone; as a branch it needs the
-- label to which it leads.
pub record AreOwn (limits : Limits) (t : Tree) : Type 0 where
  pub value : (d : ℕ) → MarksItsOwn ((meaning limits t).value d)
  pub alone : MarksItsOwn (meaning limits t).alone
  pub branch : (sense : Bool) (label : Label) → MarksItsOwn ((meaning limits t).branch sense label)
  pub value_needs : (d : ℕ) → NeedsAlone [] ((meaning limits t).value d)
  pub alone_needs : NeedsAlone [] (meaning limits t).alone
  pub branch_needs : (sense : Bool) (label : Label) → NeedsAlone (label.number ∷ []) ((meaning limits t).branch sense label)

abbrev pub LabelsAreOwn : Type 0
LabelsAreOwn = (limits : Limits) (t : Tree) → AreOwn limits t
