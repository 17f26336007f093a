-- The code of statements marks labels of its own; and statements that hold others in the book of labels: their joints and ends, their
-- cases, and loops over objects.
use Rattle.std.specs.Prelude.{unwrap_or}
use Rattle.std.proofs.Common.{Bool, List, None, Option, Some, [], ap, arith, false, refl, subst, sym, true, ℕ, ◌++◌, ◌+◌, ◌∙◌, ◌∷◌, ◌≡◌}
use Rattle.std.proofs.Common.{◌≤◌}
use Rattle.inf_expressions.specs.{Questions.children_of, Rooted.Rooted, Trees.Tree}
use Rattle.inf_settings.specs.Bounds.{Limits}
use Rattle.inf_opcode.specs.declared.instructions.Label.{Label}
use Rattle.inf_output.specs.declared.items.Item.{Item as CodeItem}
use Rattle.inf_output.specs.Output.{Code, Out, behind, items_of, jumped, laid, laid_all, marked, ◌▸◌}
use Rattle.inf_templates.specs.Meaning.{meaning}
use Rattle.inf_constructs.specs.{Cases.case_code, Labels.NamedLabel, declared.constructs.Case.Case, declared.constructs.Construct.Construct}
use Rattle.inf_constructs.specs.{declared.constructs.Kind.Kind, declared.constructs.Over.Over}
use Rattle.inf_constructs.specs.Constructs.{between, case_closed, changed, closed, ending, entered, entered_by, joint, kind_behind, looped}
use Rattle.inf_constructs.specs.Constructs.{looped_by, looped_on, looped_over, over_all, over_children, with_case}
use Rattle.inf_statements.specs.{Effects.Site, Effects.statement_code, Statements.alone, Statements.switched, Statements.tested}
use Rattle.inf_statements.specs.{declared.statements.Statement.Statement}
use Rattle.inf_code_walk.specs.Made.{branch_labels, times}
use Rattle.inf_code_walk.proofs.Rows.{Any, any_tree, any_trees, has_first, times_joined}
use Rattle.inf_code_walk.proofs.Statements.{all_made, alone_made, any_fixed, case_closed_made, case_labels, case_made, children_made}
use Rattle.inf_code_walk.proofs.Statements.{code_made, label_in, looped_on_made, needs_of, switched_made, tested_made}
use Rattle.inf_label_laws.specs.Labels.{marks, operand_labels, uses}
use Rattle.inf_label_laws.proofs.Owning.{Owned, owned, owned_at, owned_behind, owned_free, owned_item, owned_jump, owned_mark}
use Rattle.inf_label_laws.proofs.Owning.{owned_nothing, owned_then, owned_wide}
use Rattle.inf_routine_laws.proofs.Balance.{Good, Turns, case_due, cased_in, good_as, good_label, good_paid, loop_due, named_all, reached}
use Rattle.inf_routine_laws.proofs.Balance.{reached_in, top_known}
use Rattle.inf_routine_laws.proofs.Booking.{Came, Counts, came, one, one_is}

pub code_owns : (limits : Limits) (s : Site) (trees : List Tree) (st : Statement) →
    Owned (statement_code limits s trees st) (needs_of s st) []
code_owns limits s trees st = owned (code_made limits Any any_fixed s trees (any_trees trees) st)

pub alone_owns : (limits : Limits) (trees : List Tree) → Owned (alone limits trees) [] []
alone_owns limits trees = owned (alone_made limits Any trees (any_trees trees))

pub tested_owns : (limits : Limits) (l : Option Label) (trees : List Tree) → Owned (tested limits l trees) (label_in l) []
tested_owns limits l trees = owned (tested_made limits Any l trees (any_trees trees))

pub switched_owns : (limits : Limits) (trees : List Tree) → Owned (switched limits trees) [] []
switched_owns limits trees = owned (switched_made limits Any trees (any_trees trees))

pub case_code_owns : (limits : Limits) (next : Option Label) (values : List Tree) → Owned (case_code limits next values) (label_in next) []
case_code_owns limits next values = owned (case_made limits Any next values (any_trees values))

-- Items that were kept apart are laid as they are.
pub items_laid_own : (limits : Limits) (items : List CodeItem) → Owned (laid_all limits items) (uses items) (marks items)
items_laid_own limits [] = owned_nothing
items_laid_own limits ((CodeItem.Instruction i) ∷ items) = owned_then {c = laid limits (CodeItem.Instruction i)} {d = laid_all limits items}
    {needs = uses (CodeItem.Instruction i ∷ items)} {a = []} {b = marks items}
    (owned_wide {c = laid limits (CodeItem.Instruction i)} {a = uses (CodeItem.Instruction i ∷ [])} (λ n h. first n h)
    (owned_item limits (CodeItem.Instruction i)))
    (owned_wide {c = laid_all limits items} {a = uses items} (λ n h. later n h) (items_laid_own limits items))
  where
    parts : (n : ℕ) →
        times n (uses (CodeItem.Instruction i ∷ items)) ≡ times n (operand_labels i.operands) + (times n (branch_labels i.branch)
        + times n (uses items))
    parts n = times_joined n (operand_labels i.operands) (branch_labels i.branch ++ uses items)
        ∙ ap (λ k. times n (operand_labels i.operands) + k) (times_joined n (branch_labels i.branch) (uses items))

    alone : (n : ℕ) →
        times n (uses (CodeItem.Instruction i ∷ [])) ≡ times n (operand_labels i.operands) + (times n (branch_labels i.branch) + 0)
    alone n = times_joined n (operand_labels i.operands) (branch_labels i.branch ++ [])
        ∙ ap (λ k. times n (operand_labels i.operands) + k) (times_joined n (branch_labels i.branch) [])

    first : (n : ℕ) → 1 ≤ times n (uses (CodeItem.Instruction i ∷ [])) → 1 ≤ times n (uses (CodeItem.Instruction i ∷ items))
    first n h = let e = parts n in let d = alone n in omega (arith, h, e, d)

    later : (n : ℕ) → 1 ≤ times n (uses items) → 1 ≤ times n (uses (CodeItem.Instruction i ∷ items))
    later n h = let e = parts n in omega (arith, h, e)
items_laid_own limits ((CodeItem.Mark l) ∷ items) =
    owned_then {c = laid limits (CodeItem.Mark l)} {d = laid_all limits items} {needs = uses items} {a = l.number ∷ []} {b = marks items}
    (owned_free {c = laid limits (CodeItem.Mark l)} (owned_item limits (CodeItem.Mark l))) (items_laid_own limits items)

-- Lemmas about joints and ends

-- Lemmas about code that marks one label, which is due, and needs one

pub marks_one : (l : Label) (due : Counts) → (n : ℕ) → one n l + due n ≡ times n (l.number ∷ []) + due n
marks_one l due n = ap (λ k. k + due n) (sym (one_is n l))

pub none_needed : (n k : ℕ) → 1 ≤ times n [] → 1 ≤ k
none_needed n k h = absurd (omega (arith, h))

pub needs_one : (l : Label) (n k : ℕ) → one n l ≤ k → 1 ≤ times n (l.number ∷ []) → 1 ≤ k
needs_one l n k h some = let e = one_is n l in omega (arith, h, some, e)

pub jump_mark : (limits : Limits) (to_ at : Label) → Owned (jumped limits to_ ▸ marked limits at) (to_.number ∷ []) (at.number ∷ [])
jump_mark limits to_ at = owned_behind (owned_jump limits to_) (owned_mark limits at)

-- A statement that ends: its labels that are due are marked, and those around it stay.

abbrev Ends : Counts → Counts → Counts → Counts → Counts → Counts → List NamedLabel → Construct → List Construct → Out → Out → Type 0
Ends due spare extra left rest other labels c around o q = Good due spare extra labels (c ∷ around) o → Good left rest other labels around q

ends_by : (needs given : List ℕ) (due spare extra middle left rest other : Counts) (labels : List NamedLabel) (c : Construct)
    (around : List Construct) (o q : Out) → Came needs given o q → ((n : ℕ) → due n ≡ times n given + middle n) →
    ((n : ℕ) → 1 ≤ times n needs → 1 ≤ extra n + (reached n (c ∷ around) + named_all n labels)) →
    Turns middle spare extra left rest other (c ∷ around) around → Ends due spare extra left rest other labels c around o q
ends_by needs given due spare extra middle left rest other labels c around o q x h k t g =
    good_as middle spare extra left rest other labels (c ∷ around) around q t
    (good_paid needs given due middle spare extra labels (c ∷ around) o q g x h k)

-- the statements that end by their kind
pub ends_if : (limits : Limits) (due spare extra : Counts) (labels : List NamedLabel) (c : Construct) (around : List Construct) (o : Out) →
    c.kind ≡ Kind.If → (l : Label) → Good (λ n. one n c.next + due n) (λ n. one n l + spare n) extra labels (c ∷ around) o →
    Good due spare extra labels around (closed limits c o)
unfolding closed
ends_if limits due spare extra labels c around o e l g = subst (λ k. Good due spare extra labels around (ending limits c k o)) (sym e)
    (ends_by [] (c.next.number ∷ []) (λ n. one n c.next + due n) (λ n. one n l + spare n) extra due due spare extra labels c around o
    (marked limits c.next o) (came {needs = []} {given = c.next.number ∷ []} (owned_mark limits c.next) o) (marks_one c.next due)
    (λ n h. none_needed n (extra n + (reached n (c ∷ around) + named_all n labels)) h)
    (record {
      once = λ n. let i = ap (cased_in n c) e in omega (arith, i);
      all = λ n. let i = ap (cased_in n c) e in omega (arith, i);
      known = λ n. omega arith;
    }) g)

pub ends_else : (limits : Limits) (due spare extra : Counts) (labels : List NamedLabel) (c : Construct) (around : List Construct)
    (o : Out) →
    c.kind ≡ Kind.Else → Good (λ n. one n c.end + due n) spare extra labels (c ∷ around) o →
    Good due spare extra labels around (closed limits c o)
unfolding closed
ends_else limits due spare extra labels c around o e g = subst (λ k. Good due spare extra labels around (ending limits c k o)) (sym e)
    (ends_by [] (c.end.number ∷ []) (λ n. one n c.end + due n) spare extra due due spare extra labels c around o
    (marked limits c.end o) (came {needs = []} {given = c.end.number ∷ []} (owned_mark limits c.end) o) (marks_one c.end due)
    (λ n h. none_needed n (extra n + (reached n (c ∷ around) + named_all n labels)) h)
    (record {
      once = λ n. let i = ap (cased_in n c) e in omega (arith, i);
      all = λ n. let i = ap (cased_in n c) e in omega (arith, i);
      known = λ n. omega arith;
    }) g)

pub ends_do : (limits : Limits) (due spare extra : Counts) (labels : List NamedLabel) (c : Construct) (around : List Construct) (o : Out) →
    c.kind ≡ Kind.Do → Good (λ n. one n c.end + due n) spare extra labels (c ∷ around) o →
    Good due spare extra labels around (closed limits c o)
unfolding closed
ends_do limits due spare extra labels c around o e g = subst (λ k. Good due spare extra labels around (ending limits c k o)) (sym e)
    (ends_by [] (c.end.number ∷ []) (λ n. one n c.end + due n) spare extra due due spare extra labels c around o
    (marked limits c.end o) (came {needs = []} {given = c.end.number ∷ []} (owned_mark limits c.end) o) (marks_one c.end due)
    (λ n h. none_needed n (extra n + (reached n (c ∷ around) + named_all n labels)) h)
    (record {
      once = λ n. let i = ap (cased_in n c) e in omega (arith, i);
      all = λ n. let i = ap (cased_in n c) e in omega (arith, i);
      known = λ n. omega arith;
    }) g)

pub ends_while : (limits : Limits) (due spare extra : Counts) (labels : List NamedLabel) (c : Construct) (around : List Construct)
    (o : Out) → c.kind ≡ Kind.While → Good (λ n. one n c.end + due n) spare extra labels (c ∷ around) o →
    Good due spare extra labels around (closed limits c o)
unfolding closed
ends_while limits due spare extra labels c around o e g = subst (λ k. Good due spare extra labels around (ending limits c k o)) (sym e)
    (ends_by (c.next.number ∷ []) (c.end.number ∷ []) (λ n. one n c.end + due n) spare extra due due spare extra labels c around o
    ((jumped limits c.next ▸ marked limits c.end) o)
    (came {needs = c.next.number ∷ []} {given = c.end.number ∷ []} (jump_mark limits c.next c.end) o) (marks_one c.end due)
    (λ n h. needs_one c.next n (extra n + (reached n (c ∷ around) + named_all n labels))
    (let i = ap (reached_in n c) e in omega (arith, i)) h)
    (record {
      once = λ n. let i = ap (cased_in n c) e in omega (arith, i);
      all = λ n. let i = ap (cased_in n c) e in omega (arith, i);
      known = λ n. omega arith;
    }) g)

-- a `for`, with the items of its step
abbrev pub step_marks : Construct → ℕ → ℕ
step_marks c n = times n (marks (items_of c.step))

abbrev pub step_uses : Construct → ℕ → ℕ
step_uses c n = times n (uses (items_of c.step))

pub ends_for : (limits : Limits) (due spare extra : Counts) (labels : List NamedLabel) (c : Construct) (around : List Construct) (o : Out) →
    c.kind ≡ Kind.For
    → Good (λ n. step_marks c n + (one n c.next + (one n c.end + due n))) spare (λ n. step_uses c n + (one n c.top + extra n)) labels
    (c ∷ around) o → Good due spare extra labels around (closed limits c o)
unfolding closed
ends_for limits due spare extra labels c around o e g =
    let items = items_of c.step in
    let needs = c.top.number ∷ uses items in
    let given = c.next.number ∷ (marks items ++ c.end.number ∷ []) in
    let code = marked limits c.next ▸ (laid_all limits items ▸ (jumped limits c.top ▸ marked limits c.end)) in
    let owned : Owned code needs given =
    owned_then {c = marked limits c.next} {needs = needs} {a = c.next.number ∷ []} {b = marks items ++ c.end.number ∷ []}
    (owned_mark limits c.next)
    (owned_then {c = laid_all limits items} {needs = needs} {a = marks items} {b = c.end.number ∷ []}
    (owned_wide {c = laid_all limits items} {a = uses items} {b = needs} (λ n h. later n c.top.number (uses items) h)
    (items_laid_own limits items))
    (owned_behind {c = jumped limits c.top} {needs = needs}
    (owned_at {c = jumped limits c.top} {l = c.top.number} (has_first c.top.number (uses items)) (owned_jump limits c.top))
    (owned_mark limits c.end))) in
    subst (λ k. Good due spare extra labels around (ending limits c k o)) (sym e)
    (ends_by needs given (λ n. step_marks c n + (one n c.next + (one n c.end + due n))) spare
    (λ n. step_uses c n + (one n c.top + extra n)) due due spare extra labels c around o (code o)
    (came {needs = needs} {given = given} owned o)
    (λ n.
    let a = times_joined n (c.next.number ∷ []) (marks items ++ c.end.number ∷ []) in
    let b = times_joined n (marks items) (c.end.number ∷ []) in
    let x = one_is n c.next in
    let y = one_is n c.end in
    paid (step_marks c n) (one n c.next) (one n c.end) (due n) (times n given) (times n (c.next.number ∷ [])) (times n (c.end.number ∷ []))
    (times n (marks items ++ c.end.number ∷ [])) a b x y)
    (λ n h.
    let a = times_joined n (c.top.number ∷ []) (uses items) in
    let x = one_is n c.top in
    some (step_uses c n) (one n c.top) (extra n) (reached n (c ∷ around) + named_all n labels) (times n needs)
    (times n (c.top.number ∷ [])) a x h)
    (record {
      once = λ n. let i = ap (cased_in n c) e in omega (arith, i);
      all = λ n. let i = ap (cased_in n c) e in omega (arith, i);
      known = λ n. omega arith;
    }) g)
  where
    later : (n m : ℕ) (ns : List ℕ) → 1 ≤ times n ns → 1 ≤ times n (m ∷ ns)
    later n m ns h = let e = times_joined n (m ∷ []) ns in omega (arith, e, h)

    paid : (s a b d g x y z : ℕ) → g ≡ x + z → z ≡ s + y → x ≡ a → y ≡ b → s + (a + (b + d)) ≡ g + d
    paid s a b d g x y z p q r t = omega (arith, p, q, r, t)

    some : (u t x r g y : ℕ) → g ≡ y + u → y ≡ t → 1 ≤ g → 1 ≤ (u + (t + x)) + r
    some u t x r g y p q h = omega (arith, p, q, h)

-- a loop over objects
pub ends_objects : (limits : Limits) (due spare extra : Counts) (labels : List NamedLabel) (c : Construct) (around : List Construct)
    (o : Out) (how : Over) (v : ℕ) → c.kind ≡ Kind.Objects how v
    → Good (λ n. one n c.next + (one n c.end + due n)) spare (λ n. one n c.top + extra n) labels (c ∷ around) o →
    Good due spare extra labels around (closed limits c o)
unfolding closed
ends_objects limits due spare extra labels c around o how v e g =
    let needs = c.top.number ∷ [] in
    let given = c.next.number ∷ c.end.number ∷ [] in
    let code = marked limits c.next ▸ (looped_on limits how v c.top ▸ marked limits c.end) in
    let owned : Owned code needs given =
    owned_then {c = marked limits c.next} {needs = needs} {a = c.next.number ∷ []} {b = c.end.number ∷ []}
    (owned_mark limits c.next)
    (owned_behind {c = looped_on limits how v c.top} {needs = needs} (owned (looped_on_made limits Any any_fixed how v c.top))
    (owned_mark limits c.end)) in
    subst (λ k. Good due spare extra labels around (ending limits c k o)) (sym e)
    (ends_by needs given (λ n. one n c.next + (one n c.end + due n)) spare
    (λ n. one n c.top + extra n) due due spare extra labels c around o
    (code o) (came {needs = needs} {given = given} owned o)
    (λ n.
    let a = times_joined n (c.next.number ∷ []) (c.end.number ∷ []) in
    let x = one_is n c.next in
    let y = one_is n c.end in
    paid (one n c.next) (one n c.end) (due n) (times n given) (times n (c.next.number ∷ [])) (times n (c.end.number ∷ [])) a x y)
    (λ n h. needs_one c.top n ((one n c.top + extra n) + (reached n (c ∷ around) + named_all n labels)) (omega arith) h)
    (record {
      once = λ n. let i = ap (cased_in n c) e in omega (arith, i);
      all = λ n. let i = ap (cased_in n c) e in omega (arith, i);
      known = λ n. omega arith;
    }) g)
  where
    paid : (a b d g x y : ℕ) → g ≡ x + y → x ≡ a → y ≡ b → a + (b + d) ≡ g + d
    paid a b d g x y p q r = omega (arith, p, q, r)

-- Lemmas about cases, joints, and loops over objects

-- Lemmas about cases

case_is : (n : ℕ) (old : Case) → case_due n old ≡ times n (case_labels old)
case_is n Case.Nothing = refl
case_is n (Case.Values next) = sym (one_is n next)
case_is n Case.Default = refl

case_closed_owns : (limits : Limits) (old : Case) (end : Label) → Owned (case_closed limits old end) (end.number ∷ []) (case_labels old)
case_closed_owns limits old end = owned (case_closed_made limits Any old end)

-- The last case is closed, and then its statement ends.
ends_as : (limits : Limits) (due spare extra : Counts) (labels : List NamedLabel) (c : Construct) (around : List Construct) (o : Out)
    (old : Case) → ((n : ℕ) → cased_in n c c.kind ≡ case_due n old + one n c.end)
    → ((n : ℕ) → reached_in n c c.kind ≡ case_due n old + one n c.end)
    → Good due spare extra labels (c ∷ around) o →
    Good due spare extra labels around ((case_closed limits old c.end ▸ marked limits c.end) o)
ends_as limits due spare extra labels c around o old h k g =
    let needs = c.end.number ∷ [] in
    let given = case_labels old ++ c.end.number ∷ [] in
    let code = case_closed limits old c.end ▸ marked limits c.end in
    let more : Counts = λ n. case_due n old + (one n c.end + due n) in
    let other : Counts = λ n. one n c.end + extra n in
    let owned : Owned code needs given =
    owned_then {c = case_closed limits old c.end} {needs = needs} {a = case_labels old} {b = c.end.number ∷ []}
    (case_closed_owns limits old c.end) (owned_mark limits c.end) in
    let open_ = good_as due spare extra more spare other labels (c ∷ around) around o
    (record {
      once = λ n. let i = h n in omega (arith, i);
      all = λ n. let i = h n in omega (arith, i);
      known = λ n. let i = k n in omega (arith, i);
    }) g in
    let paid = good_paid needs given more due spare other labels around o (code o) open_
    (came {needs = needs} {given = given} owned o)
    (λ n.
    let a = times_joined n (case_labels old) (c.end.number ∷ []) in
    let x = case_is n old in
    let y = one_is n c.end in
    sums (case_due n old) (one n c.end) (due n) (times n given) (times n (case_labels old)) (times n (c.end.number ∷ [])) a x y)
    (λ n some. needs_one c.end n (other n + (reached n around + named_all n labels)) (omega arith) some) in
    good_as due spare other due spare extra labels around around (code o)
    (record { once = λ n. omega arith; all = λ n. omega arith; known = λ n. omega arith }) paid
  where
    sums : (a b d g x y : ℕ) → g ≡ x + y → a ≡ x → y ≡ b → a + (b + d) ≡ g + d
    sums a b d g x y p q r = omega (arith, p, q, r)

pub ends_switch : (limits : Limits) (due spare extra : Counts) (labels : List NamedLabel) (c : Construct) (around : List Construct)
    (o : Out) (old : Case) (had_default : Bool) → c.kind ≡ Kind.Switch old had_default → Good due spare extra labels (c ∷ around) o →
    Good due spare extra labels around (closed limits c o)
unfolding closed
ends_switch limits due spare extra labels c around o old had_default e g =
    subst (λ k. Good due spare extra labels around (ending limits c k o)) (sym e)
    (ends_as limits due spare extra labels c around o old (λ n. ap (cased_in n c) e) (λ n. ap (reached_in n c) e) g)

pub ends_cases : (limits : Limits) (due spare extra : Counts) (labels : List NamedLabel) (c : Construct) (around : List Construct)
    (o : Out) (old : Case) (had_default : Bool) → c.kind ≡ Kind.Cases old had_default → Good due spare extra labels (c ∷ around) o →
    Good due spare extra labels around (closed limits c o)
unfolding closed
ends_cases limits due spare extra labels c around o old had_default e g =
    subst (λ k. Good due spare extra labels around (ending limits c k o)) (sym e)
    (ends_as limits due spare extra labels c around o old (λ n. ap (cased_in n c) e) (λ n. ap (reached_in n c) e) g)

-- Where a further case begins, the one before it is closed, and the label of the new one is due.
enters : (limits : Limits) (due spare rest extra : Counts) (labels : List NamedLabel) (c : Construct) (around : List Construct) (o : Out)
    (old : Case) (k : Kind) (n_due : Counts) → ((n : ℕ) → cased_in n c c.kind ≡ case_due n old + one n c.end)
    → ((n : ℕ) → reached_in n c c.kind ≡ case_due n old + one n c.end)
    → ((n : ℕ) → cased_in n (record c { kind = k }) k ≡ n_due n + one n c.end)
    → ((n : ℕ) → reached_in n (record c { kind = k }) k ≡ n_due n + one n c.end)
    → ((n : ℕ) → n_due n + rest n ≤ spare n)
    → Good due spare extra labels (c ∷ around) o →
    Good due rest extra labels (record c { kind = k } ∷ around) (case_closed limits old c.end o)
enters limits due spare rest extra labels c around o old k n_due h r i j few g =
    let d = record c { kind = k } in
    let needs = c.end.number ∷ [] in
    let more : Counts = λ n. case_due n old + due n in
    let open_ = good_as due spare extra more rest extra labels (c ∷ around) (d ∷ around) o
    (record {
      once = λ n. let a = h n in let b = i n in let f = few n in omega (arith, a, b, f);
      all = λ n. let a = h n in let b = i n in omega (arith, a, b);
      known = λ n. let a = r n in let b = j n in let x = i n in omega (arith, a, b, x);
    }) g in
    good_paid needs (case_labels old) more due rest extra labels (d ∷ around) o (case_closed limits old c.end o) open_
    (came {needs = needs} {given = case_labels old} (case_closed_owns limits old c.end) o)
    (λ n. let x = case_is n old in ap (λ m. m + due n) x)
    (λ n some. needs_one c.end n (extra n + (reached n (d ∷ around) + named_all n labels)) (let b = j n in omega (arith, b)) some)

entered_as : (limits : Limits) (k : Kind) (is_default : Bool) (due spare extra : Counts) (labels : List NamedLabel) (c : Construct)
    (around : List Construct) (o : Out) → c.kind ≡ k → Good due spare extra labels (c ∷ around) o →
    let r = entered_by limits k is_default c o in Good due spare extra labels (r.0 ∷ around) r.1
entered_as limits (Kind.Switch old had_default) true due spare extra labels c around o e g =
    enters limits due spare spare extra labels c around o old (with_case false Case.Default true) (λ n. 0) (λ n. ap (cased_in n c) e)
    (λ n. ap (reached_in n c) e) (λ n. refl) (λ n. refl) (λ n. omega arith) g
entered_as limits (Kind.Switch old had_default) false due spare extra labels c around o e g =
    let next : Label = record { number = o.next } in
    enters limits due (λ n. spare n + one n next) spare extra labels c around (record o { next = behind o.next }) old
    (with_case false (Case.Values next) had_default) (λ n. one n next) (λ n. ap (cased_in n c) e) (λ n. ap (reached_in n c) e)
    (λ n. refl) (λ n. refl) (λ n. omega arith) (good_label due spare extra labels (c ∷ around) o g)
entered_as limits (Kind.Cases old had_default) true due spare extra labels c around o e g =
    enters limits due spare spare extra labels c around o old (with_case true Case.Default true) (λ n. 0) (λ n. ap (cased_in n c) e)
    (λ n. ap (reached_in n c) e) (λ n. refl) (λ n. refl) (λ n. omega arith) g
entered_as limits (Kind.Cases old had_default) false due spare extra labels c around o e g =
    let next : Label = record { number = o.next } in
    enters limits due (λ n. spare n + one n next) spare extra labels c around (record o { next = behind o.next }) old
    (with_case true (Case.Values next) had_default) (λ n. one n next) (λ n. ap (cased_in n c) e) (λ n. ap (reached_in n c) e)
    (λ n. refl) (λ n. refl) (λ n. omega arith) (good_label due spare extra labels (c ∷ around) o g)
entered_as limits _ is_default due spare extra labels c around o e g = g

pub entered_good : (limits : Limits) (is_default : Bool) (due spare extra : Counts) (labels : List NamedLabel) (constructs : List Construct)
    (o : Out) → Good due spare extra labels constructs o →
    let r = changed (entered limits is_default) constructs o in Good due spare extra labels r.0 r.1
unfolding entered
entered_good limits is_default due spare extra labels [] o g = g
entered_good limits is_default due spare extra labels (c ∷ around) o g =
    entered_as limits c.kind is_default due spare extra labels c around o refl g

-- Lemmas about the joints of statements, the code between their parts

abbrev Joined : Limits → Counts → Counts → Counts → List NamedLabel → Construct → List Construct → Out → Kind → Type 0
Joined limits due spare extra labels c around o k =
    Good due spare extra labels (record c { kind = kind_behind k } ∷ around) (joint limits c k o)

pub joined_if : (limits : Limits) (due spare extra : Counts) (labels : List NamedLabel) (c : Construct) (around : List Construct)
    (o : Out) →
    c.kind ≡ Kind.If → Good (λ n. one n c.next + due n) (λ n. one n c.end + spare n) extra labels (c ∷ around) o →
    let j = between limits c o in Good (λ n. one n j.0.end + due n) spare extra labels (j.0 ∷ around) j.1
unfolding between
joined_if limits due spare extra labels c around o e g =
    let d = record c { kind = Kind.Else } in
    let left : Counts = λ n. one n c.end + due n in
    let more : Counts = λ n. one n c.next + left n in
    subst (λ k. Joined limits left spare extra labels c around o k) (sym e)
    (good_paid (c.end.number ∷ []) (c.next.number ∷ []) more left spare extra labels (d ∷ around) o
    ((jumped limits c.end ▸ marked limits c.next) o)
    (good_as (λ n. one n c.next + due n) (λ n. one n c.end + spare n) extra more spare extra labels (c ∷ around) (d ∷ around) o
    (record {
      once = λ n. let i = ap (cased_in n c) e in omega (arith, i);
      all = λ n. let i = ap (cased_in n c) e in omega (arith, i);
      known = λ n. omega arith;
    }) g)
    (came {needs = c.end.number ∷ []} {given = c.next.number ∷ []} (jump_mark limits c.end c.next) o) (marks_one c.next left)
    (λ n some. needs_one c.end n (extra n + (reached n (d ∷ around) + named_all n labels)) (omega arith) some))

pub joined_do : (limits : Limits) (due spare extra : Counts) (labels : List NamedLabel) (c : Construct) (around : List Construct)
    (o : Out) →
    c.kind ≡ Kind.Do → Good (λ n. one n c.next + (one n c.end + due n)) spare extra labels (c ∷ around) o →
    let j = between limits c o in Good (λ n. one n j.0.end + due n) spare extra labels (j.0 ∷ around) j.1
unfolding between
joined_do limits due spare extra labels c around o e g =
    let d = record c { kind = Kind.Do } in
    let left : Counts = λ n. one n c.end + due n in
    let more : Counts = λ n. one n c.next + left n in
    subst (λ k. Joined limits left spare extra labels c around o k) (sym e)
    (good_paid [] (c.next.number ∷ []) more left spare extra labels (d ∷ around) o (marked limits c.next o)
    (good_as more spare extra more spare extra labels (c ∷ around) (d ∷ around) o
    (record {
      once = λ n. let i = ap (cased_in n c) e in omega (arith, i);
      all = λ n. let i = ap (cased_in n c) e in omega (arith, i);
      known = λ n. let i = ap (reached_in n c) e in omega (arith, i);
    }) g)
    (came {needs = []} {given = c.next.number ∷ []} (owned_mark limits c.next) o) (marks_one c.next left)
    (λ n some. none_needed n (extra n + (reached n (d ∷ around) + named_all n labels)) some))

pub joined_for : (limits : Limits) (due spare extra : Counts) (labels : List NamedLabel) (c : Construct) (around : List Construct)
    (o : Out) →
    c.kind ≡ Kind.For → Good (loop_due c due) spare (top_known c extra) labels (c ∷ around) o →
    let j = between limits c o in
    Good (λ n. one n j.0.next + (one n j.0.end + due n)) spare (top_known j.0 extra) labels (j.0 ∷ around) j.1
unfolding between
joined_for limits due spare extra labels c around o e g =
    let d = record c { kind = Kind.For } in
    let left : Counts = λ n. one n c.next + (one n c.end + due n) in
    subst (λ k. Joined limits left spare (top_known c extra) labels c around o k) (sym e)
    (good_paid [] (c.top.number ∷ []) (loop_due c due) left spare (top_known c extra) labels (d ∷ around) o (marked limits c.top o)
    (good_as (loop_due c due) spare (top_known c extra) (loop_due c due) spare (top_known c extra) labels (c ∷ around) (d ∷ around) o
    (record {
      once = λ n. let i = ap (cased_in n c) e in omega (arith, i);
      all = λ n. let i = ap (cased_in n c) e in omega (arith, i);
      known = λ n. let i = ap (reached_in n c) e in omega (arith, i);
    }) g)
    (came {needs = []} {given = c.top.number ∷ []} (owned_mark limits c.top) o) (marks_one c.top left)
    (λ n some. none_needed n (top_known c extra n + (reached n (d ∷ around) + named_all n labels)) some))

-- A loop over objects begins where its objects end, or, where these had an error, at its joint.

abbrev pub top_due : ℕ → Over → Label → ℕ
top_due n Over.Nothing top = one n top
top_due n Over.Children top = 0
top_due n Over.All top = 0

abbrev pub objects_due : Over → Construct → Counts → Counts
objects_due how c due n = top_due n how c.top + (one n c.next + (one n c.end + due n))

joined_over : (limits : Limits) (how : Over) (v : ℕ) (due spare extra : Counts) (labels : List NamedLabel) (c : Construct)
    (around : List Construct) (o : Out) → c.kind ≡ Kind.Objects how v →
    Good (objects_due how c due) spare (top_known c extra) labels (c ∷ around) o →
    Joined limits (λ n. one n c.next + (one n c.end + due n)) spare (top_known c extra) labels c around o (Kind.Objects how v)
joined_over limits Over.Nothing v due spare extra labels c around o e g =
    let d = record c { kind = Kind.Objects Over.Nothing v } in
    let left : Counts = λ n. one n c.next + (one n c.end + due n) in
    good_paid [] (c.top.number ∷ []) (objects_due Over.Nothing c due) left spare (top_known c extra) labels (d ∷ around) o
    (marked limits c.top o)
    (good_as (objects_due Over.Nothing c due) spare (top_known c extra) (objects_due Over.Nothing c due) spare (top_known c extra) labels
    (c ∷ around) (d ∷ around) o
    (record {
      once = λ n. let i = ap (cased_in n c) e in omega (arith, i);
      all = λ n. let i = ap (cased_in n c) e in omega (arith, i);
      known = λ n. let i = ap (reached_in n c) e in omega (arith, i);
    }) g)
    (came {needs = []} {given = c.top.number ∷ []} (owned_mark limits c.top) o) (marks_one c.top left)
    (λ n some. none_needed n (top_known c extra n + (reached n (d ∷ around) + named_all n labels)) some)
joined_over limits Over.Children v due spare extra labels c around o e g =
    let d = record c { kind = Kind.Objects Over.Children v } in
    good_as (objects_due Over.Children c due) spare (top_known c extra) (λ n. one n c.next + (one n c.end + due n)) spare
    (top_known c extra)
    labels (c ∷ around) (d ∷ around) o
    (record {
      once = λ n. let i = ap (cased_in n c) e in omega (arith, i);
      all = λ n. let i = ap (cased_in n c) e in omega (arith, i);
      known = λ n. let i = ap (reached_in n c) e in omega (arith, i);
    }) g
joined_over limits Over.All v due spare extra labels c around o e g =
    let d = record c { kind = Kind.Objects Over.All v } in
    good_as (objects_due Over.All c due) spare (top_known c extra) (λ n. one n c.next + (one n c.end + due n)) spare (top_known c extra)
    labels (c ∷ around) (d ∷ around) o
    (record {
      once = λ n. let i = ap (cased_in n c) e in omega (arith, i);
      all = λ n. let i = ap (cased_in n c) e in omega (arith, i);
      known = λ n. let i = ap (reached_in n c) e in omega (arith, i);
    }) g

pub joined_objects : (limits : Limits) (how : Over) (v : ℕ) (due spare extra : Counts) (labels : List NamedLabel) (c : Construct)
    (around : List Construct) (o : Out) → c.kind ≡ Kind.Objects how v →
    Good (objects_due how c due) spare (top_known c extra) labels (c ∷ around) o →
    let j = between limits c o in
    Good (λ n. one n j.0.next + (one n j.0.end + due n)) spare (top_known j.0 extra) labels (j.0 ∷ around) j.1
unfolding between
joined_objects limits how v due spare extra labels c around o e g =
    subst (λ k. Joined limits (λ n. one n c.next + (one n c.end + due n)) spare (top_known c extra) labels c around o k) (sym e)
    (joined_over limits how v due spare extra labels c around o e g)

pub record IsLooped (due spare extra : Counts) (labels : List NamedLabel) (c : Construct) (around constructs : List Construct) (o : Out) :
    Type 0 where
  pub how : Over
  pub variable : ℕ
  pub is : constructs ≡ record c { kind = Kind.Objects how variable } ∷ around
  pub good : Good (objects_due how c due) spare (top_known c extra) labels (record c { kind = Kind.Objects how variable } ∷ around) o

looped_as : (limits : Limits) (code : Code) (needs : Label) (how : Over) (v : ℕ) (due spare extra : Counts) (labels : List NamedLabel)
    (c : Construct) (around : List Construct) (o : Out) → c.kind ≡ Kind.Objects Over.Nothing 0 →
    ((n : ℕ) → one n needs ≤ one n c.next + one n c.end) → ((n : ℕ) → top_due n how c.top ≡ 0) →
    Owned code (needs.number ∷ []) (c.top.number ∷ []) → Good (loop_due c due) spare (top_known c extra) labels (c ∷ around) o →
    Good (objects_due how c due) spare (top_known c extra) labels (record c { kind = Kind.Objects how v } ∷ around) (code o)
looped_as limits code needs how v due spare extra labels c around o e among none owned g =
    let d = record c { kind = Kind.Objects how v } in
    let left : Counts = λ n. one n c.next + (one n c.end + due n) in
    let paid = good_paid (needs.number ∷ []) (c.top.number ∷ []) (loop_due c due) left spare (top_known c extra) labels (c ∷ around) o
    (code o) g
    (came {needs = needs.number ∷ []} {given = c.top.number ∷ []} owned o) (marks_one c.top left)
    (λ n some. needs_one needs n (top_known c extra n + (reached n (c ∷ around) + named_all n labels))
    (let i = ap (reached_in n c) e in let a = among n in omega (arith, i, a)) some) in
    good_as left spare (top_known c extra) (objects_due how c due) spare (top_known c extra) labels (c ∷ around) (d ∷ around) (code o)
    (record {
      once = λ n. let i = ap (cased_in n c) e in let x = none n in omega (arith, i, x);
      all = λ n. let i = ap (cased_in n c) e in let x = none n in omega (arith, i, x);
      known = λ n. let i = ap (reached_in n c) e in omega (arith, i);
    }) paid

looped_by_good : (limits : Limits) (parent : Option Tree) (e : Tree) (v : ℕ) (due spare extra : Counts) (labels : List NamedLabel)
    (c : Construct) (around : List Construct) (o : Out) → c.kind ≡ Kind.Objects Over.Nothing 0 →
    Good (loop_due c due) spare (top_known c extra) labels (c ∷ around) o →
    let r = looped_by limits parent e v c o in IsLooped due spare extra labels c around (r.0 ∷ around) r.1
looped_by_good limits (Some parent) e v due spare extra labels c around o k g = record {
  how = Over.Children;
  variable = v;
  is = refl;
  good = looped_as limits (over_children limits parent v c) c.end Over.Children v due spare extra labels c around o k (λ n. omega arith)
      (λ n. refl) (owned (children_made limits Any parent (any_tree parent) v c)) g;
}
looped_by_good limits None e v due spare extra labels c around o k g = record {
  how = Over.All;
  variable = v;
  is = refl;
  good = looped_as limits (over_all limits (meaning limits e) v c) c.next Over.All v due spare extra labels c around o k (λ n. omega arith)
      (λ n. refl) (owned (all_made limits Any e (any_tree e) v c)) g;
}

not_begun : (due spare extra : Counts) (labels : List NamedLabel) (c : Construct) (around : List Construct) (o : Out) →
    c.kind ≡ Kind.Objects Over.Nothing 0 → Good (loop_due c due) spare (top_known c extra) labels (c ∷ around) o →
    IsLooped due spare extra labels c around (c ∷ around) o
not_begun due spare extra labels c around o k g = record {
  how = Over.Nothing;
  variable = 0;
  is = ap (λ x. record c { kind = x } ∷ around) k;
  good = subst (λ x. Good (loop_due c due) spare (top_known c extra) labels (record c { kind = x } ∷ around) o) k g;
}

pub looped_good : (limits : Limits) (trees : List Rooted) (due spare extra : Counts) (labels : List NamedLabel) (c : Construct)
    (around : List Construct) (o : Out) → c.kind ≡ Kind.Objects Over.Nothing 0 →
    Good (loop_due c due) spare (top_known c extra) labels (c ∷ around) o →
    let r = looped_over limits trees (c ∷ around) o in IsLooped due spare extra labels c around r.0 r.1
unfolding looped
looped_good limits [] due spare extra labels c around o k g = not_begun due spare extra labels c around o k g
looped_good limits (r ∷ trees) due spare extra labels c around o k g =
    looped_by_good limits (children_of r.tree) r.tree (unwrap_or r.origin.lead.variable 0) due spare extra labels c around o k g

pub not_looped : (due spare extra : Counts) (labels : List NamedLabel) (c : Construct) (around : List Construct) (o : Out) →
    c.kind ≡ Kind.Objects Over.Nothing 0 → Good (loop_due c due) spare (top_known c extra) labels (c ∷ around) o →
    IsLooped due spare extra labels c around (c ∷ around) o
not_looped due spare extra labels c around o k g = not_begun due spare extra labels c around o k g
