-- Code keeps the abbreviations with which texts are packed.
use Rattle.std.proofs.Common.{Bool, List, None, Option, Some, ap, false, refl, true, ℕ, ◌∙◌, ◌≡◌}
use Rattle.inf_area.specs.declared.targets.Target.{Target}
use Rattle.inf_settings.specs.Bounds.{Limits}
use Rattle.inf_tables.specs.LowStrings.{low_fits}
use Rattle.inf_opcode.specs.{Instructions.bare, declared.instructions.Branch.Branch, declared.instructions.Label.Label}
use Rattle.inf_opcode.specs.{declared.opcodes.Opcode.Opcode}
use Rattle.inf_assembler.specs.declared.routines.Limit.{Limit}
use Rattle.inf_names.specs.{Symbols.refer_fault, declared.symbols.ReferFault.ReferFault}
use Rattle.inf_output.specs.{Texts.used_in, Veneer.name_of, declared.items.Item.Item, declared.operands.Simple.Simple}
use Rattle.inf_output.specs.{declared.past.Past.Past, declared.veneer.Veneer.Veneer}
use Rattle.inf_output.specs.Output.{Code, Out, behind, fitted, full_item, in_routine, instruction, jumped, laid, laid_by, marked, naming}
use Rattle.inf_output.specs.Output.{next_label, used, used_by, with_low_text, with_low_text_by}
use Rattle.inf_templates.specs.Parts.{calling, calling_routine}
use Rattle.inf_code_walk.specs.Made.{As, Asks, Handed, Instructs, Jumps, Lows, Made, Marks, Names, Nothing, Packs, Prints, Then, Wide}

-- an item that is laid leaves the texts
fitted_texts : (limits : Limits) (f : Option Limit) (item : Item) (o : Out) → (fitted limits f item o).texts ≡ o.texts
fitted_texts limits None item o = refl
fitted_texts limits (Some limit) item o = refl

in_texts : (limits : Limits) (p : Option Past) (item : Item) (o : Out) → (in_routine limits p item o).texts ≡ o.texts
in_texts limits None item o = fitted_texts limits (full_item item o.code) item o
in_texts limits (Some past) item o = refl

by_texts : (limits : Limits) (k : Option (List Item)) (item : Item) (o : Out) → (laid_by limits k item o).texts ≡ o.texts
by_texts limits None item o = in_texts limits o.past item o
by_texts limits (Some before) item o = refl

laid_texts : (limits : Limits) (item : Item) (o : Out) → (laid limits item o).texts ≡ o.texts
unfolding laid
laid_texts limits item o = by_texts limits o.kept item o

-- pieces of code
pub record KeepsTexts (c : Code) : Type 0 where
  pub keeps : (o : Out) → used_in (c o).texts ≡ used_in o.texts

item_keeps : (limits : Limits) (item : Item) (o : Out) → used_in (laid limits item o).texts ≡ used_in o.texts
item_keeps limits item o = ap used_in (laid_texts limits item o)

instruction_keeps : (limits : Limits) (op : Opcode) (operands : List Simple) (store : Option ℕ) (branch : Option Branch) →
    KeepsTexts (instruction limits op operands store branch)
unfolding instruction
instruction_keeps limits op operands store branch = record { keeps = λ o. item_keeps limits _ o }

naming_keeps : (limits : Limits) (op : Opcode) (v : ℕ) (operands : List Simple) (store : Option ℕ) (branch : Option Branch) →
    KeepsTexts (naming limits op v operands store branch)
unfolding naming
naming_keeps limits op v operands store branch = record { keeps = λ o. item_keeps limits _ o }

mark_keeps : (limits : Limits) (l : Label) → KeepsTexts (marked limits l)
unfolding marked
mark_keeps limits l = record { keeps = λ o. item_keeps limits _ o }

jump_keeps : (limits : Limits) (l : Label) → KeepsTexts (jumped limits l)
unfolding jumped
jump_keeps limits l = record { keeps = λ o. item_keeps limits _ o }

by_used : (limits : Limits) (f : Option ReferFault) (name : List ℕ) (o : Out) → (used_by limits f name o).texts ≡ o.texts
by_used limits None name o = refl
by_used limits (Some fault) name o = refl

used_keeps : (limits : Limits) (v : Veneer) (o : Out) → used_in (used limits v o).texts ≡ used_in o.texts
unfolding used
used_keeps limits v o = ap used_in (by_used limits (refer_fault limits (name_of v) o.names) (name_of v) o)

calling_keeps : (limits : Limits) (routine : Simple) (arguments : List Simple) (store : Option ℕ) →
    KeepsTexts (calling limits routine arguments store)
unfolding calling
calling_keeps limits routine arguments store = instruction_keeps limits _ _ store None

asked_keeps : (limits : Limits) (v : Veneer) (arguments : List Simple) (store : Option ℕ) →
    KeepsTexts (calling_routine limits v arguments store)
unfolding calling_routine
asked_keeps limits v arguments store =
    record { keeps = λ o. (calling_keeps limits _ arguments store).keeps (used limits v o) ∙ used_keeps limits v o }

by_low : (limits : Limits) (b : Bool) (text : List ℕ) (o : Out) → (with_low_text_by limits b text o).texts ≡ o.texts
by_low limits true text o = refl
by_low limits false text o = refl

low_keeps : (limits : Limits) (text : List ℕ) (o : Out) → used_in (with_low_text limits text o).texts ≡ used_in o.texts
low_keeps limits text o = ap used_in (by_low limits (low_fits limits text o.tables.low_strings) text o)

pub made_keeps : {limits : Limits} {L : Target → Type 0} {c : Code} {needs given : List ℕ} → Made limits L c needs given → KeepsTexts c
made_keeps Nothing = record { keeps = λ o. refl }
made_keeps (Then {c} {d} f g) = record { keeps = λ o. (made_keeps g).keeps (c o) ∙ (made_keeps f).keeps o }
made_keeps (Handed f) = record { keeps = λ o. (made_keeps (f (next_label o))).keeps (record o { next = behind o.next }) }
made_keeps (Wide h f) = made_keeps f
made_keeps (As h f) = made_keeps f
made_keeps {limits} (Instructs op operands store branch m) = instruction_keeps limits op operands store branch
made_keeps {limits} (Names op v operands store branch m) = naming_keeps limits op v operands store branch
made_keeps {limits} (Asks v arguments store m) = asked_keeps limits v arguments store
made_keeps {limits} (Marks l) = mark_keeps limits l
made_keeps {limits} (Jumps l) = jump_keeps limits l
made_keeps Packs = record { keeps = λ o. refl }
made_keeps {limits} (Prints op text) = record { keeps = λ o. item_keeps limits (Item.Instruction (record (bare op) { text = text o })) o }
made_keeps {limits} (Lows text body f) = record {
  keeps = λ o. (made_keeps (f o)).keeps (with_low_text limits text o) ∙ low_keeps limits text o;
}
