-- The statements that hold others: the code of each where it begins, between its parts, and where it ends. Designer's
-- Manual, fourth edition, sections 1.7 to 1.9.
use Rattle.std.specs.Prelude.{ℕ, zero, suc, ◌-◌, Bool, true, false, if◌then◌else◌, List, [], ◌∷◌, length, Option, Some, None, unwrap_or}
use Rattle.inf_settings.specs.Bounds.{Limits}
use Rattle.inf_opcode.specs.{declared.instructions.Label.Label, declared.opcodes.Opcode.Opcode}
use Rattle.inf_area.specs.{declared.targets.SystemConstant.SystemConstant, declared.targets.Target.Target}
use Rattle.inf_expressions.specs.{Questions.children_of, Rooted.Rooted, Trees.Tree}
use Rattle.inf_output.specs.{declared.items.Item.Item, declared.operands.Simple.Simple}
use Rattle.inf_output.specs.Output.{Code, Out, behind, instruction, items_of, jumped, laid_all, marked, naming, nothing, to, together, ◌▸◌}
use Rattle.inf_templates.specs.{Meaning.Meaning, Meaning.meaning, Meaning.part, Parts.worked}
use Rattle.inf_constructs.specs.declared.{constructs.Case.Case, constructs.Construct.Construct, constructs.Kind.Kind, constructs.Over.Over}

-- code with a result
abbrev pub Laying : Type 0 → Type 0
Laying A = Out → A × Out

abbrev pub giving : {A : Type 0} → A → Code → Laying A
giving a code o = (a, code o)

-- The beginning of a statement, where its word was read: its labels are handed out, and some mark the first of their places.
abbrev pub with_labels : Kind → Laying Construct
with_labels k o =
    let next = behind o.next in
    let end = behind next in (
      record { kind = k; top = record { number = o.next }; next = record { number = next }; end = record { number = end }; step = None },
      record o { next = behind end },
    )

abbrev pub front : Limits → Kind → Construct → Code
front limits Kind.While c = marked limits c.next
front limits Kind.Do c = marked limits c.top
front limits _ c = nothing

unfoldable pub opened : Limits → Kind → Laying Construct
opened limits k o = let c = with_labels k o in giving c.0 (front limits k c.0) c.1

-- the label to which a branch goes where the condition is not true
abbrev pub otherwise : Construct → Kind → Label
otherwise c Kind.If = c.next
otherwise c Kind.Do = c.top
otherwise c _ = c.end

-- The joint of a statement: `else`, `until`, the first `:` of a `for`; and the beginning of a loop's body over objects,
-- where its unit had an error.
abbrev pub kind_behind : Kind → Kind
kind_behind Kind.If = Kind.Else
kind_behind k = k

abbrev pub joint : Limits → Construct → Kind → Code
joint limits c Kind.If = jumped limits c.end ▸ marked limits c.next
joint limits c Kind.Do = marked limits c.next
joint limits c Kind.For = marked limits c.top
joint limits c (Kind.Objects Over.Nothing v) = marked limits c.top
joint limits c _ = nothing

unfoldable pub between : Limits → Construct → Laying Construct
between limits c o = giving (record c { kind = kind_behind c.kind }) (joint limits c c.kind) o

-- A loop over the children of an object, or over all objects but the first four, where objects that fail a test are passed over.
abbrev pub over_children : Limits → Tree → ℕ → Construct → Code
over_children limits e v c = worked limits Opcode.GetChild (part (meaning limits e) ∷ []) (Some v) (to false c.end) ▸ marked limits c.top

abbrev pub tested_over : Option Simple → Meaning → Label → Code
tested_over (Some operand) e next = nothing
tested_over None e next = e.branch false next

abbrev pub over_all : Limits → Meaning → ℕ → Construct → Code
over_all limits e v c = naming limits Opcode.Store v (Simple.Known 5 ∷ []) None None ▸ marked limits c.top ▸ tested_over e.operand e c.next

abbrev pub looped_by : Limits → Option Tree → Tree → ℕ → Construct → Laying Construct
looped_by limits (Some parent) e v c = giving (record c { kind = Kind.Objects Over.Children v }) (over_children limits parent v c)
looped_by limits None e v c = giving (record c { kind = Kind.Objects Over.All v }) (over_all limits (meaning limits e) v c)

unfoldable pub looped : Limits → Rooted → Construct → Laying Construct
looped limits r c = looped_by limits (children_of r.tree) r.tree (unwrap_or r.origin.lead.variable 0) c

-- the end of a statement
abbrev pub looped_on : Limits → Over → ℕ → Label → Code
looped_on limits Over.Nothing v top = nothing
looped_on limits Over.Children v top = instruction limits Opcode.GetSibling (Simple.Variable v ∷ []) (Some v) (to true top)
looped_on limits Over.All v top =
    naming limits Opcode.IncChk v (Simple.Later (Target.System SystemConstant.HighestObjectNumber) ∷ []) None (to false top)

abbrev pub case_closed : Limits → Case → Label → Code
case_closed limits Case.Nothing end = nothing
case_closed limits (Case.Values next) end = jumped limits end ▸ marked limits next
case_closed limits Case.Default end = jumped limits end

abbrev pub ending : Limits → Construct → Kind → Code
ending limits c Kind.If = marked limits c.next
ending limits c Kind.Else = marked limits c.end
ending limits c Kind.While = jumped limits c.next ▸ marked limits c.end
ending limits c Kind.Do = marked limits c.end
ending limits c Kind.For = marked limits c.next ▸ laid_all limits (items_of c.step) ▸ jumped limits c.top ▸ marked limits c.end
ending limits c (Kind.Objects how v) = marked limits c.next ▸ looped_on limits how v c.top ▸ marked limits c.end
ending limits c (Kind.Switch old had_default) = case_closed limits old c.end ▸ marked limits c.end
ending limits c (Kind.Cases old had_default) = case_closed limits old c.end ▸ marked limits c.end

unfoldable pub closed : Limits → Construct → Code
closed limits c = ending limits c c.kind

-- The beginning of a case, of a `switch` or of a routine itself: the case before it jumps to the end of the whole.
abbrev pub with_case : Bool → Case → Bool → Kind
with_case true open_case had_default = Kind.Cases open_case had_default
with_case false open_case had_default = Kind.Switch open_case had_default

abbrev pub default_entered : Limits → Bool → Case → Construct → Laying Construct
default_entered limits are_own old c o = (record c { kind = with_case are_own Case.Default true }, case_closed limits old c.end o)

abbrev pub values_entered : Limits → Bool → Case → Bool → Construct → Laying Construct
values_entered limits are_own old had_default c o =
    let next : Label = record { number = o.next } in
    (record c { kind = with_case are_own (Case.Values next) had_default }, case_closed limits old c.end (record o { next = behind o.next }))

abbrev pub case_entered : Limits → Bool → Bool → Case → Bool → Construct → Laying Construct
case_entered limits are_own true old had_default c o = default_entered limits are_own old c o
case_entered limits are_own false old had_default c o = values_entered limits are_own old had_default c o

abbrev pub entered_by : Limits → Kind → Bool → Construct → Laying Construct
entered_by limits (Kind.Switch old had_default) is_default c o = case_entered limits false is_default old had_default c o
entered_by limits (Kind.Cases old had_default) is_default c o = case_entered limits true is_default old had_default c o
entered_by limits _ is_default c o = (c, o)

unfoldable pub entered : Limits → Bool → Construct → Laying Construct
entered limits is_default c o = entered_by limits c.kind is_default c o

-- whether a case would follow a default, behind which no case may come
abbrev pub is_late_in : Kind → Bool
is_late_in (Kind.Switch old had_default) = had_default
is_late_in (Kind.Cases old had_default) = had_default
is_late_in _ = false

abbrev pub is_late : List Construct → Bool
is_late [] = false
is_late (c ∷ constructs) = is_late_in c.kind

-- the label behind a case of values, where one is open
abbrev pub next_case_in : Kind → Option Label
next_case_in (Kind.Switch (Case.Values next) had_default) = Some next
next_case_in (Kind.Cases (Case.Values next) had_default) = Some next
next_case_in _ = None

abbrev pub next_case : List Construct → Option Label
next_case [] = None
next_case (c ∷ constructs) = next_case_in c.kind

-- the labels to which `break` and `continue` go
abbrev pub break_of : Construct → Kind → Option Label
break_of c Kind.If = None
break_of c Kind.Else = None
break_of c _ = Some c.end

abbrev pub continue_of : Construct → Kind → Option Label
continue_of c Kind.If = None
continue_of c Kind.Else = None
continue_of c (Kind.Switch old had_default) = None
continue_of c (Kind.Cases old had_default) = None
continue_of c _ = Some c.next

abbrev pub left_to_by : Bool → Construct → Option Label
left_to_by true c = continue_of c c.kind
left_to_by false c = break_of c c.kind

abbrev pub found_or : Option Label → Option Label → Option Label
found_or (Some label) others = Some label
found_or None others = others

-- the label of the innermost statement that has one
abbrev pub left_to : Bool → List Construct → Option Label
left_to on [] = None
left_to on (c ∷ constructs) = found_or (left_to_by on c) (left_to on constructs)

-- The open statements, the innermost first.
abbrev pub begun : Limits → Kind → List Construct → Laying (List Construct)
begun limits k constructs o = let c = opened limits k o in (c.0 ∷ constructs, c.1)

abbrev pub changed : (Construct → Laying Construct) → List Construct → Laying (List Construct)
changed change [] o = ([], o)
changed change (c ∷ constructs) o = let laid = change c o in (laid.0 ∷ constructs, laid.1)

-- A case outside of any statement is one of the routine's own, whose values are actions. Designer's Manual, fourth edition, section 1.9.
abbrev pub cases_begun : Limits → List Construct → Laying (List Construct)
cases_begun limits [] o = begun limits (Kind.Cases Case.Nothing false) [] o
cases_begun limits (c ∷ constructs) o = (c ∷ constructs, o)

abbrev pub are_cases : Kind → Bool
are_cases (Kind.Cases old had_default) = true
are_cases _ = false

abbrev pub are_own : List Construct → Bool
are_own [] = false
are_own (c ∷ constructs) = are_cases c.kind

-- The number of open statements: the cases of the routine itself, which hold all others, are none.
abbrev pub outermost_from : List Construct → Option Kind → Option Kind
outermost_from [] last = last
outermost_from (c ∷ constructs) last = outermost_from constructs (Some c.kind)

abbrev pub outermost : List Construct → Option Kind
outermost constructs = outermost_from constructs None

abbrev pub depth_by : Option Kind → ℕ → ℕ
depth_by None count = count
depth_by (Some k) count = if are_cases k then count - 1 else count

abbrev pub depth : List Construct → ℕ
depth constructs = depth_by (outermost constructs) (length constructs)

-- The step of a `for`, which was laid apart, and is kept with the innermost statement.
abbrev pub with_step : Option (List Item) → List Construct → List Construct
with_step step [] = []
with_step step (c ∷ constructs) = record c { step = step } ∷ constructs

abbrev pub stepped : List Construct → Laying (List Construct)
stepped constructs o = (with_step (Some (items_of o.kept)) constructs, together o)

abbrev pub ended : Limits → List Construct → Laying (List Construct)
ended limits [] o = ([], o)
ended limits (c ∷ constructs) o = (constructs, closed limits c o)

-- the statements where the innermost `n` end, the innermost first
abbrev pub all_ended : Limits → ℕ → List Construct → Laying (List Construct)
all_ended limits zero constructs o = (constructs, o)
all_ended limits (suc n) constructs o = let e = ended limits constructs o in all_ended limits n e.0 e.1

-- the label where the condition of the innermost statement is not true, and the beginning of a loop over objects
abbrev pub condition_label : List Construct → Option Label
condition_label [] = None
condition_label (c ∷ constructs) = Some (otherwise c c.kind)

abbrev pub looped_over : Limits → List Rooted → List Construct → Laying (List Construct)
looped_over limits [] constructs o = (constructs, o)
looped_over limits (r ∷ trees) constructs o = changed (looped limits r) constructs o
