-- `give`: attribute by attribute.
use Rattle.std.proofs.Common.{◌≡◌, List, [], ◌∷◌, Option, Some, None, Bool, true, false, refl, ◌∙◌, ap, sym, subst}
use Rattle.inf_settings.specs.Bounds.{Limits}
use Rattle.inf_expressions.specs.{Trees.Leaf, Trees.One, Trees.Tree, Trees.Two}
use Rattle.inf_output.specs.{Output.Code, Output.nothing, Output.◌▸◌, declared.operands.Simple.Simple}
use Rattle.inf_templates.specs.{Meaning.meaning, Meaning.part, Parts.Part, Parts.TEMP, Parts.is}
use Rattle.inf_unit.specs.declared.items.Item.{Item}
use Rattle.inf_statements.specs.Statements.{attribute_opcode, attributes_given, given_by as code_given_by}
use Rattle.inf_statements.specs.Statements as code
use Rattle.inf_interpreter.specs.Machine.{World, Writes, action_of, ◌then◌, write_of_two}
use Rattle.inf_interpreter.proofs.Laying.{Always, so, then_}
use Rattle.inf_interpreter.proofs.Running.{comes_then, none_some, opened, same_some}
use Rattle.inf_meaning_laws.specs.{Covered.Covered, Laws.GivesNothing, Values.Arg, Values.arg, Values.number, Values.sense, Values.value_of}
use Rattle.inf_meaning_laws.proofs.{Expressions.values_are_computed, Instructions.writes_, Working.AreParts, Working.IsPart}
use Rattle.inf_control_laws.proofs.Plain.{one_operand, two_operand}
use Rattle.inf_effect_laws.specs.Described.{all_given, are_several, args_of, given, given_by, one_given, waits}
use Rattle.inf_effect_laws.specs.Written.{CoversEach, attributes_in, gives}
use Rattle.inf_effect_laws.proofs.Changes.{Waits, both_changed, both_wait, none_changed, none_wait, part_is, waits_}

-- an attribute, and those behind it
record Given (i : Item) (items : List Item) (a : Tree) (trees : List Tree) (all : List (Bool × Tree)) : Type 0 where
  has : Bool
  others : List (Bool × Tree)
  first : gives i ≡ Some has
  behind : attributes_in items trees ≡ Some others
  same : (has, a) ∷ others ≡ all

parted : (i : Item) (items : List Item) (a : Tree) (trees : List Tree) (all : List (Bool × Tree)) →
    attributes_in (i ∷ items) (a ∷ trees) ≡ Some all → Given i items a trees all
parted i items a trees all e =
    let m = opened (gives i) (λ given. attributes_in items trees then λ others. Some ((given, a) ∷ others)) all e in
    let n = opened (attributes_in items trees) (λ others. Some ((m.0, a) ∷ others)) all m.2 in
    record { has = m.0; others = n.0; first = m.1; behind = n.1; same = same_some n.2 }

given_acts : (w : World) (i : Item) (has : Bool) → gives i ≡ Some has →
    action_of w (attribute_opcode i) ≡ Writes (write_of_two (λ o n. w.with_attribute o n has))
given_acts w Item.Set has e = ap (λ h. Writes (write_of_two (λ o n. w.with_attribute o n h))) (same_some e)
given_acts w Item.Clear has e = ap (λ h. Writes (write_of_two (λ o n. w.with_attribute o n h))) (same_some e)
given_acts w _ has e = none_some e

-- The object is an operand of each instruction.
attributes_lay : (w : World) (limits : Limits) (object : Part) (x : Arg) → IsPart false w object x → (items : List Item) (trees : List Tree)
    (all : List (Bool × Tree)) → attributes_in items trees ≡ Some all → CoversEach false all →
    Always w (attributes_given limits object items trees) (GivesNothing w (all_given w x all))
attributes_lay w limits object x is [] trees all e h =
    subst (λ l. Always w nothing (GivesNothing w (all_given w x l))) (same_some e) (none_changed w)
attributes_lay w limits object x is (i ∷ items) [] all e h = none_some e
attributes_lay w limits object x is (i ∷ items) (a ∷ trees) all e h =
    let g = parted i items a trees all e in
    let covers : CoversEach false ((g.has, a) ∷ g.others) = subst (λ l. CoversEach false l) (sym g.same) h in
    let ps = object ∷ part (meaning limits a) ∷ [] in
    let args = x ∷ args_of w (a ∷ []) in
    let are : AreParts false w ps args = (is, (part_is false w limits a covers.0, tt)) in
    subst (λ l. Always w (attributes_given limits object (i ∷ items) (a ∷ trees)) (GivesNothing w (all_given w x l))) g.same
    (so (both_changed w (one_given w x (g.has, a)) (all_given w x g.others))
    (then_ (writes_ false w limits (attribute_opcode i) (write_of_two (λ o n. w.with_attribute o n g.has)) ps args
    (given_acts w i g.has g.first) are)
    (attributes_lay w limits object x is items trees g.others g.behind covers.1)))

-- The object waits in variable 255.
attributes_wait : (w : World) (limits : Limits) (items : List Item) (trees : List Tree) (all : List (Bool × Tree)) →
    attributes_in items trees ≡ Some all → CoversEach true all →
    Always w (attributes_given limits (is (Simple.Variable TEMP)) items trees) (Waits w (λ n. all_given w (number n) all))
attributes_wait w limits [] trees all e h =
    subst (λ l. Always w nothing (Waits w (λ n. all_given w (number n) l))) (same_some e) (none_wait w)
attributes_wait w limits (i ∷ items) [] all e h = none_some e
attributes_wait w limits (i ∷ items) (a ∷ trees) all e h =
    let g = parted i items a trees all e in
    let covers : CoversEach true ((g.has, a) ∷ g.others) = subst (λ l. CoversEach true l) (sym g.same) h in
    let object = is (Simple.Variable TEMP) in
    let are : AreParts true w (part (meaning limits a) ∷ []) (args_of w (a ∷ [])) = (part_is true w limits a covers.0, tt) in
    subst (λ l. Always w (attributes_given limits object (i ∷ items) (a ∷ trees)) (Waits w (λ n. all_given w (number n) l))) g.same
    (so (both_wait w (λ n. one_given w (number n) (g.has, a)) (λ n. all_given w (number n) g.others))
    (then_ (waits_ w limits (attribute_opcode i) (write_of_two (λ o n. w.with_attribute o n g.has)) (given_acts w i g.has g.first)
    (part (meaning limits a) ∷ []) (args_of w (a ∷ [])) are)
    (attributes_wait w limits items trees g.others g.behind covers.1)))

waited : (w : World) (limits : Limits) (e : Tree) → Covered false e → (items : List Item) (trees : List Tree)
    (all : List (Bool × Tree)) → attributes_in items trees ≡ Some all → CoversEach true all →
    Always w ((meaning limits e).value TEMP ▸ attributes_given limits (is (Simple.Variable TEMP)) items trees)
    (GivesNothing w (given_by true w e all))
waited w limits e h items trees all is covers = so (λ at from to p stack temp s t f.
    let o = opened (value_of w e s) (λ q. all_given w (number q.0) all q.1) t f in
    let k = p.1 stack temp s o.0.0 o.0.1 o.1 in
    (o.0.0, comes_then k.2 (p.2 stack o.0.0 o.0.1 t o.2)))
    (then_ (values_are_computed false w limits e h TEMP) (attributes_wait w limits items trees all is covers))

-- The code has the object wait where it waits.
several_is : (items : List Item) (trees : List Tree) (all : List (Bool × Tree)) → attributes_in items trees ≡ Some all →
    code.are_several items ≡ are_several all
several_is [] trees all e = ap are_several (same_some e)
several_is (i ∷ items) [] all e = none_some e
several_is (i ∷ []) (a ∷ trees) all e =
    let g = parted i [] a trees all e in
    ap (λ l. are_several ((g.has, a) ∷ l)) (same_some g.behind) ∙ ap are_several g.same
several_is (i ∷ j ∷ items) (a ∷ []) all e =
    let g = parted i (j ∷ items) a [] all e in none_some g.behind
several_is (i ∷ j ∷ items) (a ∷ b ∷ trees) all e =
    let g = parted i (j ∷ items) a (b ∷ trees) all e in
    let n = parted j items b trees g.others g.behind in
    ap (λ l. are_several ((g.has, a) ∷ l)) n.same ∙ ap are_several g.same

abbrev code_by : Limits → Bool → Tree → List Item → List Tree → Code
code_by limits true e items trees = (meaning limits e).value TEMP ▸ attributes_given limits (is (Simple.Variable TEMP)) items trees
code_by limits false e items trees = attributes_given limits (part (meaning limits e)) items trees

of_leaf : (limits : Limits) (b : Bool) (x : Simple) (e : Tree) (items : List Item) (trees : List Tree) →
    code_given_by limits b (Some x) (meaning limits e) items trees ≡ code_by limits false e items trees
of_leaf limits true x e items trees = refl
of_leaf limits false x e items trees = refl

of_worked : (limits : Limits) (b : Bool) (operand : Option Simple) → operand ≡ None → (e : Tree) (items : List Item) (trees : List Tree) →
    code_given_by limits b operand (meaning limits e) items trees ≡ code_by limits b e items trees
of_worked limits true operand none e items trees = ap (λ o. code_given_by limits true o (meaning limits e) items trees) none
of_worked limits false operand none e items trees = ap (λ o. code_given_by limits false o (meaning limits e) items trees) none

code_is : (limits : Limits) (e : Tree) (items : List Item) (trees : List Tree) (all : List (Bool × Tree)) →
    attributes_in items trees ≡ Some all →
    code_given_by limits (code.are_several items) (meaning limits e).operand (meaning limits e) items trees
    ≡ code_by limits (waits e all) e items trees
code_is limits (Leaf x) items trees all e = of_leaf limits (code.are_several items) _ (Leaf x) items trees
code_is limits (One op a) items trees all e =
    of_worked limits (code.are_several items) (meaning limits (One op a)).operand (one_operand limits op (meaning limits a)) (One op a)
    items trees
    ∙ ap (λ b. code_by limits b (One op a) items trees) (several_is items trees all e)
code_is limits (Two op a b) items trees all e =
    of_worked limits (code.are_several items) (meaning limits (Two op a b)).operand (two_operand limits op (meaning limits a)
    (meaning limits b)) (Two op a b) items trees
    ∙ ap (λ z. code_by limits z (Two op a b) items trees) (several_is items trees all e)

by_waiting : (w : World) (limits : Limits) (b : Bool) (e : Tree) → Covered false e → (items : List Item) (trees : List Tree)
    (all : List (Bool × Tree)) → attributes_in items trees ≡ Some all → CoversEach b all →
    Always w (code_by limits b e items trees) (GivesNothing w (given_by b w e all))
by_waiting w limits true e h items trees all is covers = waited w limits e h items trees all is covers
by_waiting w limits false e h items trees all is covers =
    attributes_lay w limits (part (meaning limits e)) (arg (sense w e)) (part_is false w limits e h) items trees all is covers

pub given_lays : (w : World) (limits : Limits) (e : Tree) → Covered false e → (items : List Item) (trees : List Tree)
    (all : List (Bool × Tree)) → attributes_in items trees ≡ Some all → CoversEach (waits e all) all →
    Always w (code_given_by limits (code.are_several items) (meaning limits e).operand (meaning limits e) items trees)
    (GivesNothing w (given w e all))
given_lays w limits e h items trees all is covers =
    subst (λ c. Always w c (GivesNothing w (given w e all))) (sym (code_is limits e items trees all is))
    (by_waiting w limits (waits e all) e h items trees all is covers)
