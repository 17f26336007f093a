-- Code that is made of pieces keeps an output counted, and so do statements that hold others; where these begin, go on or end, references
-- of finished routines and of tables stay as they are.
use Rattle.std.proofs.Common.{Bool, List, None, Option, Some, [], false, suc, true, zero, ℕ, ◌+◌, ◌∷◌, ◌≤◌}
use Rattle.inf_area.specs.declared.targets.Target.{Target}
use Rattle.inf_expressions.specs.{Rooted.Rooted, Trees.Tree}
use Rattle.inf_settings.specs.{Bounds.Limits, declared.setting.Setting.Setting}
use Rattle.inf_tables.specs.Tables.{references}
use Rattle.inf_opcode.specs.{Instructions.bare, declared.instructions.Branch.Branch, declared.instructions.Label.Label}
use Rattle.inf_opcode.specs.{declared.opcodes.Opcode.Opcode}
use Rattle.inf_assembler.specs.declared.routines.Limit.{Limit as CodeLimit}
use Rattle.inf_code.specs.Code.{reference_count}
use Rattle.inf_output.specs.{declared.items.Item.Item, declared.operands.Simple.Simple, declared.past.Past.Past}
use Rattle.inf_output.specs.{declared.veneer.Veneer.Veneer}
use Rattle.inf_output.specs.Output.{Code, Out, behind, fitted, full_item, in_routine, instruction, items_of, jumped, laid, laid_all}
use Rattle.inf_output.specs.Output.{laid_by, marked, naming, next_label, nothing, with_low_text, ◌▸◌}
use Rattle.inf_templates.specs.Parts.{calling, calling_routine}
use Rattle.inf_constructs.specs.{declared.constructs.Case.Case, declared.constructs.Construct.Construct, declared.constructs.Kind.Kind}
use Rattle.inf_constructs.specs.{declared.constructs.Over.Over}
use Rattle.inf_constructs.specs.Constructs.{Laying, all_ended, begun, between, case_closed, cases_begun, changed, closed, ended, ending}
use Rattle.inf_constructs.specs.Constructs.{entered, front, joint, looped, looped_on, looped_over, opened, with_labels}
use Rattle.inf_statements.specs.Statements.{alone}
use Rattle.inf_code_walk.specs.Made.{As, Asks, Binds, By, Either, Handed, Instructs, Jumps, Laid, Lays, Lows, Made, Marks, Names, Nothing}
use Rattle.inf_code_walk.specs.Made.{Packs, Prints, Takes, Then, Wide}
use Rattle.inf_code_walk.proofs.Rows.{Any, any_tree, any_trees}
use Rattle.inf_code_walk.proofs.Statements.{alone_made, any_fixed, between_laid, case_closed_made, entered_laid, looped_laid}
use Rattle.inf_code_walk.proofs.Statements.{looped_on_made, opened_laid}
use Rattle.inf_limit_laws.specs.Within.{Before, Counted, Sound}
use Rattle.inf_limit_laws.proofs.Outputs.{instruction_keeps, item_keeps, items_keep, jump_keeps, low_text_keeps, mark_keeps, naming_keeps}
use Rattle.inf_limit_laws.proofs.Outputs.{with_routine_keeps}

-- Lemmas about pieces of code put together

pub sound_nothing : {limits : Limits} {was : Before} → Sound limits was nothing
sound_nothing {limits} {was} = record { keeps = λ o h. h }

pub sound_then : {limits : Limits} {was : Before} {c d : Code} → Sound limits was c → Sound limits was d → Sound limits was (c ▸ d)
sound_then {limits} {was} {c} {d} first second = record { keeps = λ o h. second.keeps (c o) (first.keeps o h) }

pub sound_mark : {limits : Limits} {was : Before} (label : Label) → Sound limits was (marked limits label)
sound_mark {limits} {was} label = record { keeps = mark_keeps limits label }

pub sound_jump : {limits : Limits} {was : Before} (label : Label) → Sound limits was (jumped limits label)
sound_jump {limits} {was} label = record { keeps = jump_keeps limits label }

calling_sound : {was : Before} (limits : Limits) (routine : Simple) (arguments : List Simple) (store : Option ℕ)
    → Sound limits was (calling limits routine arguments store)
unfolding calling
calling_sound {was} limits routine arguments store = record { keeps = instruction_keeps limits _ _ store None }

asked_sound : {was : Before} (limits : Limits) (v : Veneer) (arguments : List Simple) (store : Option ℕ)
    → Sound limits was (calling_routine limits v arguments store)
unfolding calling_routine
asked_sound {was} limits v arguments store = record {
  keeps = with_routine_keeps limits v (λ routine. calling limits routine arguments store)
      (λ routine. (calling_sound limits routine arguments store).keeps);
}

pub made_sound : {limits : Limits} {was : Before} {L : Target → Type 0} {c : Code} {needs given : List ℕ} → Made limits L c needs given
    → Sound limits was c
made_sound Nothing = sound_nothing
made_sound (Then f g) = sound_then (made_sound f) (made_sound g)
made_sound (Handed f) = record { keeps = λ o h. (made_sound (f (next_label o))).keeps (record o { next = behind o.next }) h }
made_sound (Wide h f) = made_sound f
made_sound (As h f) = made_sound f
made_sound {limits} (Instructs op operands store branch m) = record { keeps = instruction_keeps limits op operands store branch }
made_sound {limits} (Names op v operands store branch m) = record { keeps = naming_keeps limits op v operands store branch }
made_sound {limits} (Asks v arguments store m) = asked_sound limits v arguments store
made_sound (Marks l) = sound_mark l
made_sound (Jumps l) = sound_jump l
made_sound Packs = record { keeps = λ o h. h }
made_sound {limits} (Prints op text) = record {
  keeps = λ o h. item_keeps limits (Item.Instruction (record (bare op) { text = text o })) o h;
}
made_sound {limits} (Lows text body f) = record {
  keeps = λ o h. (made_sound (f o)).keeps (with_low_text limits text o) (low_text_keeps limits text o h);
}

pub alone_sound : {was : Before} (limits : Limits) (trees : List Tree) → Sound limits was (alone limits trees)
alone_sound {was} limits trees = made_sound (alone_made limits Any trees (any_trees trees))

-- Lemmas about layings

-- Code with a result keeps an output counted.
pub record Gives {A : Type 0} (limits : Limits) (was : Before) (laying : Laying A) : Type 0 where
  pub keeps : (o : Out) → Counted limits was o → Counted limits was (laying o).1

pub laid_gives : {limits : Limits} {was : Before} {L : Target → Type 0} {A : Type 0} {f : Laying A} → Laid limits L A f → Gives limits was f
laid_gives (Lays a m) = record { keeps = (made_sound m).keeps }
laid_gives (Takes x next) = record { keeps = λ o h. h }
laid_gives (Either true f g a b) = record { keeps = (laid_gives a).keeps }
laid_gives (Either false f g a b) = record { keeps = (laid_gives b).keeps }
laid_gives (Binds f g a b) = record { keeps = λ o h. (laid_gives (b (f o).0)).keeps (f o).1 ((laid_gives a).keeps o h) }
laid_gives (By x g b) = record { keeps = λ o h. (laid_gives (b (x o))).keeps o h }

-- Lemmas about statements that hold others, and layings

-- Lemmas about statements that hold others

pub between_gives : {was : Before} (limits : Limits) (c : Construct) → Gives limits was (between limits c)
between_gives {was} limits c = laid_gives (between_laid limits Any c)

case_closed_sound : {was : Before} (limits : Limits) (c : Case) (end : Label) → Sound limits was (case_closed limits c end)
case_closed_sound {was} limits c end = made_sound (case_closed_made limits Any c end)

step_sound : {was : Before} (limits : Limits) (items : List Item) → Sound limits was (laid_all limits items)
step_sound limits items = record { keeps = items_keep limits items }

ending_sound : {was : Before} (limits : Limits) (c : Construct) (k : Kind) → Sound limits was (ending limits c k)
ending_sound {was} limits c Kind.If = sound_mark c.next
ending_sound {was} limits c Kind.Else = sound_mark c.end
ending_sound {was} limits c Kind.While = sound_then (sound_jump c.next) (sound_mark c.end)
ending_sound {was} limits c Kind.Do = sound_mark c.end
ending_sound {was} limits c Kind.For = sound_then (sound_mark c.next) (sound_then (step_sound limits (items_of c.step))
    (sound_then (sound_jump c.top) (sound_mark c.end)))
ending_sound {was} limits c (Kind.Objects how v) =
    sound_then (sound_mark c.next) (sound_then (made_sound (looped_on_made limits Any any_fixed how v c.top)) (sound_mark c.end))
ending_sound {was} limits c (Kind.Switch old had_default) = sound_then (case_closed_sound limits old c.end) (sound_mark c.end)
ending_sound {was} limits c (Kind.Cases old had_default) = sound_then (case_closed_sound limits old c.end) (sound_mark c.end)

closed_sound : {was : Before} (limits : Limits) (c : Construct) → Sound limits was (closed limits c)
unfolding closed
closed_sound {was} limits c = ending_sound limits c c.kind

pub entered_gives : {was : Before} (limits : Limits) (is_default : Bool) (c : Construct) → Gives limits was (entered limits is_default c)
entered_gives {was} limits is_default c = laid_gives (entered_laid limits Any is_default c)

-- Lemmas about open statements

pub begun_gives : {was : Before} (limits : Limits) (k : Kind) (constructs : List Construct) → Gives limits was (begun limits k constructs)
begun_gives {was} limits k constructs = record { keeps = λ o h. (laid_gives (opened_laid limits Any k)).keeps o h }

pub changed_gives : {was : Before} (limits : Limits) (change : Construct → Laying Construct) →
    ((c : Construct) → Gives limits was (change c))
    → (constructs : List Construct) → Gives limits was (changed change constructs)
changed_gives {was} limits change each [] = record { keeps = λ o h. h }
changed_gives {was} limits change each (c ∷ constructs) = record { keeps = λ o h. (each c).keeps o h }

pub cases_gives : {was : Before} (limits : Limits) (constructs : List Construct) → Gives limits was (cases_begun limits constructs)
cases_gives {was} limits [] = record { keeps = λ o h. (begun_gives limits (Kind.Cases Case.Nothing false) []).keeps o h }
cases_gives {was} limits (c ∷ constructs) = record { keeps = λ o h. h }

pub ended_gives : {was : Before} (limits : Limits) (constructs : List Construct) → Gives limits was (ended limits constructs)
ended_gives {was} limits [] = record { keeps = λ o h. h }
ended_gives {was} limits (c ∷ constructs) = record { keeps = λ o h. (closed_sound limits c).keeps o h }

pub all_ended_keep : {was : Before} (limits : Limits) (n : ℕ) (constructs : List Construct) (o : Out) → Counted limits was o
    → Counted limits was (all_ended limits n constructs o).1
all_ended_keep {was} limits zero constructs o h = h
all_ended_keep {was} limits (suc n) constructs o h =
    let e = ended limits constructs o in all_ended_keep limits n e.0 e.1 ((ended_gives limits constructs).keeps o h)

pub looped_over_gives : {was : Before} (limits : Limits) (trees : List Rooted) (constructs : List Construct) →
    Gives limits was (looped_over limits trees constructs)
looped_over_gives {was} limits [] constructs = record { keeps = λ o h. h }
looped_over_gives {was} limits (r ∷ trees) constructs =
    record {
      keeps = λ o h. (changed_gives limits (looped limits r) (λ c. laid_gives (looped_laid limits Any r (any_tree r.tree) c))
          constructs).keeps o h;
    }

-- Lemmas about references

-- The references of finished routines and of tables are few.
abbrev pub Few : Limits → Out → Type 0
Few limits o = reference_count o.code + references o.tables ≤ limits Setting.References

-- Code keeps them few.
pub record Leaves (limits : Limits) (c : Code) : Type 0 where
  pub leaves : (o : Out) → Few limits o → Few limits (c o)

leaves_then : {limits : Limits} {c d : Code} → Leaves limits c → Leaves limits d → Leaves limits (c ▸ d)
leaves_then {limits} {c} {d} f g = record { leaves = λ o h. g.leaves (c o) (f.leaves o h) }

nothing_leaves : {limits : Limits} → Leaves limits (λ o. o)
nothing_leaves = record { leaves = λ o h. h }

item_few : (limits : Limits) (item : Item) (o : Out) → Few limits o → Few limits (laid limits item o)
unfolding laid
item_few limits item o h = go o.kept
  where
    grown : (item : Item) → Few limits (fitted limits None item o)
    grown (Item.Instruction parts) = h
    grown (Item.Mark label) = h

    fits : (full : Option CodeLimit) → Few limits (fitted limits full item o)
    fits None = grown item
    fits (Some limit) = h

    within : (past : Option Past) → Few limits (in_routine limits past item o)
    within None = fits (full_item item o.code)
    within (Some past) = h

    go : (kept : Option (List Item)) → Few limits (laid_by limits kept item o)
    go None = within o.past
    go (Some items) = h

items_few : (limits : Limits) (items : List Item) (o : Out) → Few limits o → Few limits (laid_all limits items o)
items_few limits [] o h = h
items_few limits (item ∷ items) o h = items_few limits items (laid limits item o) (item_few limits item o h)

items_leave : (limits : Limits) (items : List Item) → Leaves limits (laid_all limits items)
items_leave limits items = record { leaves = items_few limits items }

mark_leaves : {limits : Limits} (label : Label) → Leaves limits (marked limits label)
unfolding marked
mark_leaves {limits} label = record { leaves = item_few limits (Item.Mark label) }

jump_leaves : {limits : Limits} (label : Label) → Leaves limits (jumped limits label)
unfolding jumped
jump_leaves {limits} label = record { leaves = λ o h. item_few limits _ o h }

instruction_leaves : {limits : Limits} (opcode : Opcode) (operands : List Simple) (store : Option ℕ) (branch : Option Branch)
    → Leaves limits (instruction limits opcode operands store branch)
unfolding instruction
instruction_leaves {limits} opcode operands store branch = record { leaves = λ o h. item_few limits _ o h }

naming_leaves : {limits : Limits} (opcode : Opcode) (variable : ℕ) (operands : List Simple) (store : Option ℕ)
    (branch : Option Branch)
    → Leaves limits (naming limits opcode variable operands store branch)
unfolding naming
naming_leaves {limits} opcode variable operands store branch = record { leaves = λ o h. item_few limits _ o h }

-- Lemmas about how code or a condition begins

front_leaves : (limits : Limits) (k : Kind) (c : Construct) → Leaves limits (front limits k c)
front_leaves limits Kind.While c = mark_leaves c.next
front_leaves limits Kind.Do c = mark_leaves c.top
front_leaves limits kind c = nothing_leaves

opened_few : (limits : Limits) (k : Kind) (o : Out) → Few limits o → Few limits (opened limits k o).1
unfolding opened
opened_few limits k o h = let c = with_labels k o in (front_leaves limits k c.0).leaves c.1 h

pub begun_few : (limits : Limits) (k : Kind) (constructs : List Construct) (o : Out) → Few limits o →
    Few limits (begun limits k constructs o).1
begun_few limits k constructs o h = opened_few limits k o h

-- Lemmas about the joints of statements, the code between their parts

joint_leaves : (limits : Limits) (c : Construct) (k : Kind) → Leaves limits (joint limits c k)
joint_leaves limits c Kind.If = leaves_then (jump_leaves c.end) (mark_leaves c.next)
joint_leaves limits c Kind.Do = mark_leaves c.next
joint_leaves limits c Kind.For = mark_leaves c.top
joint_leaves limits c (Kind.Objects Over.Nothing v) = mark_leaves c.top
joint_leaves limits c kind = nothing_leaves

between_few : (limits : Limits) (c : Construct) (o : Out) → Few limits o → Few limits (between limits c o).1
unfolding between
between_few limits c o h = (joint_leaves limits c c.kind).leaves o h

pub joined_few : (limits : Limits) (constructs : List Construct) (o : Out) → Few limits o
    → Few limits (changed (between limits) constructs o).1
joined_few limits [] o h = h
joined_few limits (c ∷ constructs) o h = between_few limits c o h

-- Lemmas about ends

on_leaves : (limits : Limits) (how : Over) (v : ℕ) (top : Label) → Leaves limits (looped_on limits how v top)
on_leaves limits Over.Nothing v top = nothing_leaves
on_leaves limits Over.Children v top = instruction_leaves Opcode.GetSibling (Simple.Variable v ∷ []) (Some v) _
on_leaves limits Over.All v top = naming_leaves Opcode.IncChk v _ None _

case_leaves : (limits : Limits) (c : Case) (end : Label) → Leaves limits (case_closed limits c end)
case_leaves limits Case.Nothing end = nothing_leaves
case_leaves limits (Case.Values next) end = leaves_then (jump_leaves end) (mark_leaves next)
case_leaves limits Case.Default end = jump_leaves end

ending_leaves : (limits : Limits) (c : Construct) (k : Kind) → Leaves limits (ending limits c k)
ending_leaves limits c Kind.If = mark_leaves c.next
ending_leaves limits c Kind.Else = mark_leaves c.end
ending_leaves limits c Kind.While = leaves_then (jump_leaves c.next) (mark_leaves c.end)
ending_leaves limits c Kind.Do = mark_leaves c.end
ending_leaves limits c Kind.For = leaves_then (mark_leaves c.next) (leaves_then (items_leave limits (items_of c.step))
    (leaves_then (jump_leaves c.top) (mark_leaves c.end)))
ending_leaves limits c (Kind.Objects how v) =
    leaves_then (mark_leaves c.next) (leaves_then (on_leaves limits how v c.top) (mark_leaves c.end))
ending_leaves limits c (Kind.Switch old had_default) = leaves_then (case_leaves limits old c.end) (mark_leaves c.end)
ending_leaves limits c (Kind.Cases old had_default) = leaves_then (case_leaves limits old c.end) (mark_leaves c.end)

closed_few : (limits : Limits) (c : Construct) (o : Out) → Few limits o → Few limits (closed limits c o)
unfolding closed
closed_few limits c o h = (ending_leaves limits c c.kind).leaves o h

pub ended_few : (limits : Limits) (constructs : List Construct) (o : Out) → Few limits o → Few limits (ended limits constructs o).1
ended_few limits [] o h = h
ended_few limits (c ∷ constructs) o h = closed_few limits c o h
