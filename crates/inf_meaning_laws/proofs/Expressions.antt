-- The laws of expressions, by induction on their trees.
use Rattle.std.proofs.Common.{arith, [], ◌∷◌, Some, refl, ◌≡◌, ℕ, List, None, Bool, true, false, sym, subst, inl, inr, not, nat_lt, length}
use Rattle.inf_settings.specs.Bounds.{Limits}
use Rattle.inf_output.specs.{Output.marked, Output.to, Output.◌▸◌, declared.operands.Simple.Simple, declared.veneer.Veneer.Veneer}
use Rattle.inf_opcode.specs.{declared.instructions.Label.Label, declared.opcodes.Opcode.Opcode}
use Rattle.inf_expressions.specs.declared.{operators.Binary.Binary, operators.Direction.Direction, operators.Operand.Operand}
use Rattle.inf_expressions.specs.declared.{operators.Operation.Operation, operators.PropertyPart.PropertyPart, operators.Relative.Relative}
use Rattle.inf_expressions.specs.declared.{operators.Single.Single, operators.Test.Test, operators.Unary.Unary}
use Rattle.inf_expressions.specs.Trees.{Tree, Leaf, One, Two}
use Rattle.inf_templates.specs.{Meaning.Meaning, Meaning.meaning, Meaning.part, Meaning.parts, Parts.Part, Parts.is, Parts.worked}
use Rattle.inf_templates.specs.Meaning as code
use Rattle.inf_interpreter.specs.Machine.{World}
use Rattle.inf_meaning_laws.specs.Values.{Arg, Element, Sense, Width, Bytes, Words, Properties, arg, number, opposite, sense, together}
use Rattle.inf_meaning_laws.specs.Covered.{Covered, CoversOne, CoversTest, CoversTwo, Fits, IsElement, IsLeaf, most_arguments}
use Rattle.inf_meaning_laws.specs.Laws.{BranchesAreTaken, EffectsAreDone, ValuesAreComputed, GivesValue, Branches}
use Rattle.inf_meaning_laws.specs.Values as values
use Rattle.inf_interpreter.proofs.Laying.{so, Always, labelled}
use Rattle.inf_meaning_laws.proofs.{Called.calls_means, Counting.few_of, Counting.none_more, Groups.test_means, Messages.call_means}
use Rattle.inf_meaning_laws.proofs.{Supplying.property_means, Supplying.supplied_means, Working.AreParts}
use Rattle.inf_meaning_laws.proofs.Instructions.{opposed, computed_of, finds_, drawn_value, draws_}
use Rattle.inf_meaning_laws.proofs.Assigned.{assign_means, element_means, element_steps, before_means, behind_means}
use Rattle.inf_meaning_laws.proofs.Conditions.{then_means, comma_means, not_means, and_branches, or_branches}
use Rattle.inf_meaning_laws.proofs.Meant.{part_of, simple_part, leaf_means, condition_means, computed_means, operation_means, Means}
use Rattle.inf_meaning_laws.proofs.Meant.{no_leaf, stored_means}

-- where a law speaks of an expression that keeps nothing
unkept : {keeps : Bool} (w : World) (limits : Limits) (m : Meaning) (e : Sense) → keeps ≡ false → Means false w limits m e →
    Means keeps w limits m e
unkept {keeps} w limits m e none h = subst (λ k. Means k w limits m e) (sym none) h

relative_acts : {keeps : Bool} (w : World) (how : Relative) (limits : Limits) (ps : List Part) (args : List Arg) →
    AreParts keeps w ps args →
    (d : ℕ) (next : Label) → Always w (worked limits (code.related_opcode how) ps (Some d) (to true next) ▸ marked limits next)
    (GivesValue keeps w (computed_of w (values.relative_of w how) args) d)
relative_acts {keeps} w Relative.Child limits ps args h d next =
    finds_ {keeps = keeps} w limits Opcode.GetChild w.child ps args refl h d next
relative_acts {keeps} w Relative.Sibling limits ps args h d next =
    finds_ {keeps = keeps} w limits Opcode.GetSibling w.sibling ps args refl h d next

relative_means : {keeps : Bool} (w : World) (limits : Limits) (how : Relative) (m : Meaning) (a : Sense) → Means keeps w limits m a →
    Means keeps w limits (code.one limits (Unary.Relative how) m) (values.one w (Unary.Relative how) a)
unfolding code.related
relative_means {keeps} w limits how m a h =
    stored_means {keeps = keeps} w limits (computed_of w (values.relative_of w how) (arg a ∷ [])) (code.related limits
    (code.related_opcode how) (part m))
    (λ d. labelled λ next. relative_acts {keeps = keeps} w how limits (part m ∷ []) (arg a ∷ []) (part_of w limits m a h, tt) d next)

-- An element of an array or a property is assigned and stepped by its parts.
element_aim : (w : World) (v : Tree) → IsElement v →
    (width : Width) × (parts : List Arg) × ((sense w v).aim ≡ Element width parts) × (length parts ≡ 2)
element_aim w (Two (Binary.Operation Operation.Byte) a c) h = (Bytes, arg (sense w a) ∷ arg (sense w c) ∷ [], refl, refl)
element_aim w (Two (Binary.Operation Operation.Word) a c) h = (Words, arg (sense w a) ∷ arg (sense w c) ∷ [], refl, refl)
element_aim w (Two (Binary.Property PropertyPart.Value) a c) h = (Properties, arg (sense w a) ∷ arg (sense w c) ∷ [], refl, refl)
element_aim w other h = absurd h

assigned_element : (keeps : Bool) (w : World) (limits : Limits) (v b : Tree) → keeps ≡ false → IsElement v →
    Means keeps w limits (meaning limits v) (sense w v) → Means keeps w limits (meaning limits b) (sense w b) →
    Means keeps w limits (code.two limits Binary.Assign (meaning limits v) (meaning limits b)) (values.two w Binary.Assign (sense w v)
    (sense w b))
assigned_element keeps w limits v b none h k l =
    let p = element_aim w v h in
    unkept {keeps = keeps} w limits (code.two limits Binary.Assign (meaning limits v) (meaning limits b)) (values.two w Binary.Assign
    (sense w v) (sense w b)) none
    (subst (λ aim. Means false w limits (code.two limits Binary.Assign (meaning limits v) (meaning limits b))
    (values.assigned w aim (sense w b))) (sym p.2)
    (element_means keeps w limits p.0 p.1 (meaning limits v) (sense w v) p.2 p.3 (meaning limits b) (sense w b) k l))

before_element : (keeps : Bool) (w : World) (limits : Limits) (how : Direction) (v : Tree) → keeps ≡ false → IsElement v →
    Means keeps w limits (meaning limits v) (sense w v) →
    Means keeps w limits (code.one limits (Unary.Before how) (meaning limits v)) (values.one w (Unary.Before how) (sense w v))
before_element keeps w limits how v none h k =
    let p = element_aim w v h in
    unkept {keeps = keeps} w limits (code.one limits (Unary.Before how) (meaning limits v)) (values.one w (Unary.Before how)
    (sense w v)) none
    (subst (λ aim. Means false w limits (code.stepped limits true how (meaning limits v)) (values.stepped_before w how aim)) (sym p.2)
    (element_steps keeps w limits true how p.0 p.1 (meaning limits v) (sense w v) p.2 p.3 k))

behind_element : (keeps : Bool) (w : World) (limits : Limits) (how : Direction) (v : Tree) → keeps ≡ false → IsElement v →
    Means keeps w limits (meaning limits v) (sense w v) →
    Means keeps w limits (code.one limits (Unary.Behind how) (meaning limits v)) (values.one w (Unary.Behind how) (sense w v))
behind_element keeps w limits how v none h k =
    let p = element_aim w v h in
    unkept {keeps = keeps} w limits (code.one limits (Unary.Behind how) (meaning limits v)) (values.one w (Unary.Behind how)
    (sense w v)) none
    (subst (λ aim. Means false w limits (code.stepped limits false how (meaning limits v)) (values.stepped_behind w how aim)) (sym p.2)
    (element_steps keeps w limits false how p.0 p.1 (meaning limits v) (sense w v) p.2 p.3 k))

one_means : {keeps : Bool} (w : World) (limits : Limits) (op : Unary) (a : Tree) → CoversOne keeps op a →
    Means keeps w limits (meaning limits a) (sense w a) →
    Means keeps w limits (code.one limits op (meaning limits a)) (values.one w op (sense w a))
one_means {keeps} w limits Unary.Negate a h k =
    computed_means {keeps = keeps} w limits Opcode.Sub (values.operation_of Operation.Subtract) (is (Simple.Known 0) ∷ part
    (meaning limits a) ∷ [])
    (number 0 ∷ arg (sense w a) ∷ []) refl
    (simple_part {keeps = keeps} w (Operand.Known 0) (λ s. Some (0, s)), (part_of w limits (meaning limits a) (sense w a) k, tt))
one_means {keeps} w limits Unary.Not a h k = not_means {keeps = keeps} w limits (meaning limits a) (sense w a) k
one_means {keeps} w limits (Unary.Single Single.Complement) a h k =
    computed_means {keeps = keeps} w limits Opcode.Not (values.single_of w Single.Complement) (part (meaning limits a) ∷ []) (arg
    (sense w a) ∷ []) refl
    (part_of w limits (meaning limits a) (sense w a) k, tt)
one_means {keeps} w limits (Unary.Single Single.Parent) a h k =
    computed_means {keeps = keeps} w limits Opcode.GetParent (values.single_of w Single.Parent) (part (meaning limits a) ∷ []) (arg
    (sense w a) ∷ []) refl
    (part_of w limits (meaning limits a) (sense w a) k, tt)
one_means {keeps} w limits (Unary.Single Single.Random) a h k =
    stored_means {keeps = keeps} w limits (drawn_value w (arg (sense w a) ∷ [])) (λ d. worked limits Opcode.Random (part
    (meaning limits a) ∷ []) (Some d) None)
    (draws_ {keeps = keeps} w limits (part (meaning limits a) ∷ []) (arg (sense w a) ∷ []) (
      part_of w limits (meaning limits a) (sense w a) k,
      tt,
    ))
one_means {keeps} w limits (Unary.Before how) (Leaf x) h k = before_means {keeps = keeps} w limits how x
one_means {keeps} w limits (Unary.Before how) (One op a) h k = before_element keeps w limits how (One op a) h.0 h.1 k
one_means {keeps} w limits (Unary.Before how) (Two op a b) h k = before_element keeps w limits how (Two op a b) h.0 h.1 k
one_means {keeps} w limits (Unary.Behind how) (Leaf x) h k = behind_means {keeps = keeps} w limits how x
one_means {keeps} w limits (Unary.Behind how) (One op a) h k = behind_element keeps w limits how (One op a) h.0 h.1 k
one_means {keeps} w limits (Unary.Behind how) (Two op a b) h k = behind_element keeps w limits how (Two op a b) h.0 h.1 k
one_means {keeps} w limits (Unary.Relative how) a h k = relative_means {keeps = keeps} w limits how (meaning limits a) (sense w a) k
one_means {keeps} w limits Unary.Children a h k =
    unkept {keeps = keeps} w limits (code.one limits Unary.Children (meaning limits a)) (values.one w Unary.Children (sense w a)) h
    (supplied_means keeps w limits Veneer.Children (part (meaning limits a) ∷ []) (arg (sense w a) ∷ [])
    (part_of w limits (meaning limits a) (sense w a) k, tt) (omega arith))
one_means {keeps} w limits Unary.Call a h k =
    unkept {keeps = keeps} w limits (code.one limits Unary.Call (meaning limits a)) (values.one w Unary.Call (sense w a)) h
    (call_means keeps w limits a [] [] k tt (omega arith))
one_means {keeps} w limits Unary.Indirect a h k =
    unkept {keeps = keeps} w limits (code.one limits Unary.Indirect (meaning limits a)) (values.one w Unary.Indirect (sense w a)) h.0
    (calls_means keeps w limits (meaning limits a).first (meaning limits a).others (values.args (sense w a)) (k.first, k.others)
    (let few = few_of limits a 8 h.1 in omega (arith, few)))

-- assignments to a variable, and to an element of an array or a property
assigned_means : {keeps : Bool} (w : World) (limits : Limits) (v b : Tree) (AreKept : Type 0) → CoversTwo keeps Binary.Assign v b AreKept →
    Means keeps w limits (meaning limits v) (sense w v) → Means keeps w limits (meaning limits b) (sense w b) →
    Means keeps w limits (code.two limits Binary.Assign (meaning limits v) (meaning limits b)) (values.two w Binary.Assign (sense w v)
    (sense w b))
assigned_means {keeps} w limits (Leaf x) b kept h k l = assign_means {keeps = keeps} w limits x (meaning limits b) (sense w b) l
assigned_means {keeps} w limits (One op a) b kept h k l = assigned_element keeps w limits (One op a) b h.0 h.1 k l
assigned_means {keeps} w limits (Two op a c) b kept h k l = assigned_element keeps w limits (Two op a c) b h.0 h.1 k l

-- alternatives, which keep variable 255 where a value waits in it
leaf_has_none : {B : Type 0} (w : World) (a : Tree) → IsLeaf a → (sense w a).leaf ≡ None → B
leaf_has_none w (Leaf x) h e = no_leaf e
leaf_has_none w (One op a) h e = absurd h
leaf_has_none w (Two op a b) h e = absurd h

fitting_means : {keeps : Bool} (w : World) (limits : Limits) (t : Test) (a b : Tree) → CoversTest keeps t →
    Fits keeps t a b (Covered true b) →
    Means keeps w limits (meaning limits a) (sense w a) → Means keeps w limits (meaning limits b) (sense w b) →
    (Covered true b → Means true w limits (meaning limits b) (sense w b)) → (how : Bool) (label : Label) →
    Always w (code.test_branch limits t (meaning limits a) (meaning limits b) how label)
    (Branches keeps w (values.compared w t (sense w a).leaf (sense w a) (values.args (sense w b))) how label)
fitting_means {keeps} w limits t a b d fits k l kept how label =
    test_means {keeps = keeps} w limits t d (meaning limits a) (meaning limits b) (sense w a) (sense w b) k l (calm fits) how label
  where
    calm : Fits keeps t a b (Covered true b) → (sense w a).leaf ≡ None → nat_lt (together t) (length (values.args (sense w b))) ≡ true →
        (keeps ≡ false) × CoversTest true t × Means true w limits (meaning limits b) (sense w b)
    calm (inl few) none more = none_more {keeps = keeps} w limits b l (together t) few more
    calm (inr (inl leaf)) none more = leaf_has_none w a leaf none
    calm (inr (inr c)) none more = (c.0, c.1, kept c.2)

two_means : {keeps : Bool} (w : World) (limits : Limits) (op : Binary) (a b : Tree) → CoversTwo keeps op a b (Covered true b) →
    Means keeps w limits (meaning limits a) (sense w a) → Means keeps w limits (meaning limits b) (sense w b) →
    (Covered true b → Means true w limits (meaning limits b) (sense w b)) →
    Means keeps w limits (code.two limits op (meaning limits a) (meaning limits b)) (values.two w op (sense w a) (sense w b))
two_means {keeps} w limits (Binary.Operation o) a b h k l kept =
    operation_means {keeps = keeps} w limits o (meaning limits a) (meaning limits b) (sense w a) (sense w b) k l
two_means {keeps} w limits (Binary.Property p) a b h k l kept =
    unkept {keeps = keeps} w limits (code.two limits (Binary.Property p) (meaning limits a) (meaning limits b)) (values.two w
    (Binary.Property p) (sense w a) (sense w b)) h
    (property_means w limits p (meaning limits a) (meaning limits b) (sense w a) (sense w b)
    (subst (λ x. Means x w limits (meaning limits a) (sense w a)) h k) (subst (λ x. Means x w limits (meaning limits b) (sense w b)) h l))
two_means {keeps} w limits (Binary.Test t) a b h k l kept =
    condition_means {keeps = keeps} w limits (values.compared w t (sense w a).leaf (sense w a) (values.args (sense w b)))
    (code.test_branch limits t (meaning limits a) (meaning limits b)) (fitting_means {keeps = keeps} w limits t a b h.0 h.1 k l kept)
two_means {keeps} w limits (Binary.Fails t) a b h k l kept =
    let holds = values.compared w t (sense w a).leaf (sense w a) (values.args (sense w b)) in
    condition_means {keeps = keeps} w limits (opposite holds) (λ how label. code.test_branch limits t (meaning limits a)
    (meaning limits b) (not how) label)
    (λ how label. so (opposed {keeps = keeps} w holds how label) (fitting_means {keeps = keeps} w limits t a b h.0 h.1 k l kept
    (not how) label))
two_means {keeps} w limits Binary.Assign a b h k l kept = assigned_means {keeps = keeps} w limits a b (Covered true b) h k l
two_means {keeps} w limits Binary.Comma a b h k l kept =
    unkept {keeps = keeps} w limits (code.two limits Binary.Comma (meaning limits a) (meaning limits b)) (values.two w Binary.Comma
    (sense w a) (sense w b)) h
    (comma_means w limits (meaning limits a) (meaning limits b) (sense w a) (sense w b) k l)
two_means {keeps} w limits Binary.And a b h k l kept =
    condition_means {keeps = keeps} w limits (values.both (sense w a).truth (sense w b).truth) (code.and_branch limits (meaning limits a)
    (meaning limits b))
    (and_branches {keeps = keeps} w limits (meaning limits a) (meaning limits b) (sense w a) (sense w b) k l)
two_means {keeps} w limits Binary.Or a b h k l kept =
    condition_means {keeps = keeps} w limits (values.either (sense w a).truth (sense w b).truth) (code.or_branch limits (meaning limits a)
    (meaning limits b))
    (or_branches {keeps = keeps} w limits (meaning limits a) (meaning limits b) (sense w a) (sense w b) k l)
two_means {keeps} w limits Binary.Call a b h k l kept =
    unkept {keeps = keeps} w limits (code.two limits Binary.Call (meaning limits a) (meaning limits b)) (values.two w Binary.Call
    (sense w a) (sense w b)) h.0
    (call_means keeps w limits a (parts (meaning limits b)) (values.args (sense w b)) k (l.first, l.others)
    (few_of limits b (most_arguments a) h.1))
two_means {keeps} w limits Binary.Then a b h k l kept =
    then_means {keeps = keeps} w limits (meaning limits a) (meaning limits b) (sense w a) (sense w b) k l
two_means w limits Binary.To a b h k l kept = absurd h

pub means : (keeps : Bool) (w : World) (limits : Limits) (t : Tree) → Covered keeps t → Means keeps w limits (meaning limits t) (sense w t)
means keeps w limits (Leaf x) h = leaf_means {keeps = keeps} w limits x
means keeps w limits (One op a) h = one_means {keeps = keeps} w limits op a h.0 (means keeps w limits a h.1)
means keeps w limits (Two op a b) h =
    two_means {keeps = keeps} w limits op a b h.0 (means keeps w limits a h.1) (means keeps w limits b h.2) (λ c. means true w limits b c)

pub values_are_computed : ValuesAreComputed
values_are_computed keeps w limits t h d = (means keeps w limits t h).value d

pub effects_are_done : EffectsAreDone
effects_are_done keeps w limits t h = (means keeps w limits t h).alone

pub branches_are_taken : BranchesAreTaken
branches_are_taken keeps w limits t h sense label = (means keeps w limits t h).branch sense label
