-- Claims about code of statements, and code that is laid between two moments of a compilation.
use Rattle.std.specs.Prelude.{◌≡◌, ℕ, true, false, List, [], ◌∷◌, ◌++◌, Option, Some, None}
use Rattle.inf_opcode.specs.{Instructions.Parts, declared.instructions.Label.Label, declared.opcodes.Opcode.Opcode}
use Rattle.inf_constructs.specs.{Constructs.left_to, declared.constructs.Construct.Construct}
use Rattle.inf_output.specs.{Output.Out, Output.items_of, declared.items.Item.Item}
use Rattle.inf_interpreter.specs.{Claims.Claim, Claims.Comes, Claims.Laid, Claims.state, Supplied.NamesStay, Supplied.Supplies}
use Rattle.inf_interpreter.specs.Machine.{LineEnd, World, Store, State, Place, Stands, ◌then◌, operand_values, popped, tells, text_told}
use Rattle.inf_control_laws.specs.Control.{Broke, Continued, Done, Effect, Outcome, Returned}

-- An instruction that leaves the routine, with the value that it returns and the store (Z-Machine Standard 1.1, section 15).
abbrev pub only_value : List ℕ → Store → Option (ℕ × Store)
only_value (n ∷ []) s = Some (n, s)
only_value _ s = None

abbrev pub returned_by : World → Opcode → Parts → State → Option (ℕ × Store)
returned_by w Opcode.Rtrue i s = Some (1, s.store)
returned_by w Opcode.Rfalse i s = Some (0, s.store)
returned_by w Opcode.Ret i s = operand_values w i.operands s then λ p. only_value p.0 p.1.store
returned_by w Opcode.PrintRet i s = Some (1, tells LineEnd (text_told w i.text s.store))
returned_by w Opcode.RetPopped i s = popped s.stack s then λ p. Some (p.0, p.1.store)
returned_by w _ i s = None

abbrev pub returned : World → Item → State → Option (ℕ × Store)
returned w (Item.Mark l) s = None
returned w (Item.Instruction i) s = returned_by w i.opcode i s

pub record Leaves (w : World) (at : Label → Place) (from : Place) (start : State) (n : ℕ) (t : Store) : Type 0 where
  pub item : Item
  pub rest : Place
  pub now : State
  pub comes : Comes w at from start (item ∷ rest) now
  pub returns : returned w item now ≡ Some (n, t)

-- the labels to which `break` and `continue` go
pub record Exits : Type 0 where
  pub breaks : Option Label
  pub continues : Option Label

abbrev pub exits : List Construct → Exits
exits constructs = record { breaks = left_to false constructs; continues = left_to true constructs }

abbrev pub GoesTo : World → (Label → Place) → Place → State → Option Label → State → Type 0
GoesTo w at from start None now = ⊥
GoesTo w at from start (Some l) now = Comes w at from start (at l) now

-- Control comes to where an outcome leads.
abbrev pub Reaches : World → Exits → (Label → Place) → Place → State → Place → Outcome → State → Type 0
Reaches w x at from start to Done now = Comes w at from start to now
Reaches w x at from start to Broke now = GoesTo w at from start x.breaks now
Reaches w x at from start to Continued now = GoesTo w at from start x.continues now
Reaches w x at from start to (Returned n) now = Leaves w at from start n now.store

-- From any stack, store and content of variable 255 the code has the effect, and leaves the stack as it was.
abbrev pub Runs : World → Exits → Effect → Claim
Runs w x effect at from to =
    (stack : List ℕ) (temp : ℕ) (s : Store) (r : Outcome) (t : Store) → effect s ≡ Some (r, t) →
    (left : ℕ) × Reaches w x at from (state stack temp s) to r (state stack left t)

-- Between two moments some items are laid, of which a claim holds; or none.
pub record Lays (w : World) (P : Claim) (before now : Out) : Type 0 where
  pub items : List Item
  pub laid : Laid before items now
  pub names : NamesStay before now
  pub runs : (at : Label → Place) (rest : Place) → Supplies w now → Stands at items rest → P at (items ++ rest) rest

pub record LaysNone (before now : Out) : Type 0 where
  pub laid : Laid before [] now
  pub names : NamesStay before now

-- Items are kept apart, to be laid later, and a claim holds of them.
pub record KeepsApart (w : World) (P : Claim) (before now : Out) (kept : Option (List Item)) : Type 0 where
  pub laid : LaysNone before now
  pub runs : (at : Label → Place) (rest : Place) → Supplies w now → Stands at (items_of kept) rest → P at (items_of kept ++ rest) rest
