-- A book of the labels of the open routine: each is marked, due or spare at most once, and each that is used is marked or due. Where each
-- is marked once, and each that is used is marked, no label is missing or twice.
use Rattle.std.proofs.Common.{List, None, Option, Some, [], ap, append-nil, append_assoc, arith, flat_map, if◌then◌else◌, inl, inr, is_some}
use Rattle.std.proofs.Common.{refl, subst, suc, sym, true, ℕ, ◌++◌, ◌+◌, ◌<◌, ◌∙◌, ◌∷◌, ◌≡◌, ◌≤◌, ◌⊎◌}
use Rattle.std.proofs.lemmas.Bool.{cases_eq, cases_lt, eq-eqb, ne_eqb}
use Rattle.inf_opcode.specs.{Cells.Cell, Cells.Of, Cells.Plain, Cells.plain, Opcodes.row_of, declared.cells.Special.Special}
use Rattle.inf_opcode.specs.{declared.instructions.Branch.Branch, declared.instructions.Destination.Destination}
use Rattle.inf_opcode.specs.{declared.instructions.Label.Label, declared.instructions.Operand.Operand}
use Rattle.inf_opcode.specs.Instructions.{Parts, branch_cells, heading, instruction_cells, operand_cells, store_cells}
use Rattle.inf_assembler.specs.Places.{Places, first_of, label_of, long_place, missing, twice_behind, unplaced}
use Rattle.inf_code.specs.Code.{Opened, Routines}
use Rattle.inf_output.specs.{Output.Code, Output.Out, Output.behind, Output.grown, declared.items.Item.Item}
use Rattle.inf_interpreter.specs.Claims.{Laid, all_grown, code_behind, kept_behind}
use Rattle.inf_code_walk.specs.Made.{branch_labels, target_labels, times}
use Rattle.inf_code_walk.proofs.Rows.{times_first, times_joined, times_other}
use Rattle.inf_label_laws.specs.Labels.{marks, operand_labels, uses}
use Rattle.inf_label_laws.proofs.Owning.{Owned, Settles, behind_is, marks_joined, some_of_two, uses_joined}
use Rattle.inf_routine_laws.specs.Laws.{LeavesRoutine}

-- Lemmas about labels that cells mark, branch to and jump to

abbrev pub cell_marks : List Cell → List ℕ
cell_marks [] = []
cell_marks ((Plain byte) ∷ cells) = cell_marks cells
cell_marks ((Of (Special.Marks label)) ∷ cells) = label.number ∷ cell_marks cells
cell_marks ((Of (Special.Branches branch)) ∷ cells) = cell_marks cells
cell_marks ((Of (Special.Jumps label)) ∷ cells) = cell_marks cells
cell_marks ((Of (Special.Refers target)) ∷ cells) = cell_marks cells

abbrev pub cell_uses : List Cell → List ℕ
cell_uses [] = []
cell_uses ((Plain byte) ∷ cells) = cell_uses cells
cell_uses ((Of (Special.Marks label)) ∷ cells) = cell_uses cells
cell_uses ((Of (Special.Branches branch)) ∷ cells) = target_labels branch.target ++ cell_uses cells
cell_uses ((Of (Special.Jumps label)) ∷ cells) = label.number ∷ cell_uses cells
cell_uses ((Of (Special.Refers target)) ∷ cells) = cell_uses cells

pub cell_marks_joined : (a b : List Cell) → cell_marks (a ++ b) ≡ cell_marks a ++ cell_marks b
cell_marks_joined [] b = refl
cell_marks_joined ((Plain byte) ∷ a) b = cell_marks_joined a b
cell_marks_joined ((Of (Special.Marks label)) ∷ a) b = ap (λ ns. label.number ∷ ns) (cell_marks_joined a b)
cell_marks_joined ((Of (Special.Branches branch)) ∷ a) b = cell_marks_joined a b
cell_marks_joined ((Of (Special.Jumps label)) ∷ a) b = cell_marks_joined a b
cell_marks_joined ((Of (Special.Refers target)) ∷ a) b = cell_marks_joined a b

pub cell_uses_joined : (a b : List Cell) → cell_uses (a ++ b) ≡ cell_uses a ++ cell_uses b
cell_uses_joined [] b = refl
cell_uses_joined ((Plain byte) ∷ a) b = cell_uses_joined a b
cell_uses_joined ((Of (Special.Marks label)) ∷ a) b = cell_uses_joined a b
cell_uses_joined ((Of (Special.Branches branch)) ∷ a) b = ap (λ ns. target_labels branch.target ++ ns) (cell_uses_joined a b)
    ∙ sym (append_assoc (target_labels branch.target) (cell_uses a) (cell_uses b))
cell_uses_joined ((Of (Special.Jumps label)) ∷ a) b = ap (λ ns. label.number ∷ ns) (cell_uses_joined a b)
cell_uses_joined ((Of (Special.Refers target)) ∷ a) b = cell_uses_joined a b

-- Lemmas about instructions

marks_plain : (bytes : List ℕ) → cell_marks (plain bytes) ≡ []
marks_plain [] = refl
marks_plain (byte ∷ bytes) = marks_plain bytes

uses_plain : (bytes : List ℕ) → cell_uses (plain bytes) ≡ []
uses_plain [] = refl
uses_plain (byte ∷ bytes) = uses_plain bytes

marks_operands : (operands : List Operand) → cell_marks (flat_map operand_cells operands) ≡ []
marks_operands [] = refl
marks_operands ((Operand.Large number) ∷ operands) = marks_operands operands
marks_operands ((Operand.Small byte) ∷ operands) = marks_operands operands
marks_operands ((Operand.Variable number) ∷ operands) = marks_operands operands
marks_operands ((Operand.Later target) ∷ operands) = marks_operands operands
marks_operands ((Operand.Offset label) ∷ operands) = marks_operands operands

uses_operands : (operands : List Operand) → cell_uses (flat_map operand_cells operands) ≡ operand_labels operands
uses_operands [] = refl
uses_operands ((Operand.Large number) ∷ operands) = uses_operands operands
uses_operands ((Operand.Small byte) ∷ operands) = uses_operands operands
uses_operands ((Operand.Variable number) ∷ operands) = uses_operands operands
uses_operands ((Operand.Later target) ∷ operands) = uses_operands operands
uses_operands ((Operand.Offset label) ∷ operands) = ap (λ ns. label.number ∷ ns) (uses_operands operands)

marks_store : (store : Option ℕ) → cell_marks (store_cells store) ≡ []
marks_store None = refl
marks_store (Some number) = refl

uses_store : (store : Option ℕ) → cell_uses (store_cells store) ≡ []
uses_store None = refl
uses_store (Some number) = refl

marks_branch : (branch : Option Branch) → cell_marks (branch_cells branch) ≡ []
marks_branch None = refl
marks_branch (Some branch) = refl

uses_branch : (branch : Option Branch) → cell_uses (branch_cells branch) ≡ branch_labels branch
uses_branch None = refl
uses_branch (Some branch) = append-nil (target_labels branch.target)

marks_both : (a b : List Cell) → cell_marks a ≡ [] → cell_marks b ≡ [] → cell_marks (a ++ b) ≡ []
marks_both a b x y = cell_marks_joined a b ∙ (ap (λ ns. ns ++ cell_marks b) x ∙ y)

pub instruction_marks : (i : Parts) → cell_marks (instruction_cells i) ≡ []
instruction_marks i =
    let h = plain (heading (row_of i.opcode) i.operands) in
    let o = flat_map operand_cells i.operands in
    let s = store_cells i.store in
    let b = branch_cells i.branch in
    marks_both (h ++ o ++ s ++ b) (plain i.text)
    (marks_both (h ++ o ++ s) b
    (marks_both (h ++ o) s
    (marks_both h o (marks_plain (heading (row_of i.opcode) i.operands)) (marks_operands i.operands)) (marks_store i.store))
    (marks_branch i.branch)) (marks_plain i.text)

pub instruction_uses : (i : Parts) → cell_uses (instruction_cells i) ≡ operand_labels i.operands ++ branch_labels i.branch
instruction_uses i =
    let h = plain (heading (row_of i.opcode) i.operands) in
    let o = flat_map operand_cells i.operands in
    let s = store_cells i.store in
    let b = branch_cells i.branch in
    cell_uses_joined (h ++ o ++ s ++ b) (plain i.text)
    ∙ (ap (λ ns. cell_uses (h ++ o ++ s ++ b) ++ ns) (uses_plain i.text)
    ∙ (append-nil (cell_uses (h ++ o ++ s ++ b))
    ∙ (cell_uses_joined (h ++ o ++ s) b
    ∙ (ap (λ ns. ns ++ cell_uses b) (cell_uses_joined (h ++ o) s
    ∙ (ap (λ ns. cell_uses (h ++ o) ++ ns) (uses_store i.store)
    ∙ (append-nil (cell_uses (h ++ o))
    ∙ (cell_uses_joined h o
    ∙ (ap (λ ns. ns ++ cell_uses o) (uses_plain (heading (row_of i.opcode) i.operands))
    ∙ uses_operands i.operands)))))
    ∙ ap (λ ns. operand_labels i.operands ++ ns) (uses_branch i.branch)))))

-- Lemmas about places of labels

has_place : (place : ℕ) (cells : List Cell) (n : ℕ) → 1 ≤ times n (cell_marks cells) → is_some (long_place place cells n) ≡ true
has_place place [] n h = absurd (omega (arith, h))
has_place place ((Plain byte) ∷ cells) n h = has_place (place + 1) cells n h
has_place place ((Of (Special.Marks label)) ∷ cells) n h = go (cases_eq label.number n) (λ k. has_place (place + 0) cells n k)
  where
    go : (label.number ≡ n) ⊎ (label.number ≡ n → ⊥) → (1 ≤ times n (cell_marks cells) → is_some (long_place (place + 0) cells n) ≡ true)
        → is_some (long_place place (Of (Special.Marks label) ∷ cells) n) ≡ true
    go (inl same) later = ap (λ b. is_some (if b then Some place else long_place (place + 0) cells n)) (eq-eqb label.number n same)
    go (inr other) later =
        let e = times_other n label.number (cell_marks cells) (λ same. other (sym same)) in
        ap (λ b. is_some (if b then Some place else long_place (place + 0) cells n)) (ne_eqb label.number n other)
        ∙ later (omega (arith, h, e))
has_place place ((Of (Special.Branches branch)) ∷ cells) n h = has_place (place + 2) cells n h
has_place place ((Of (Special.Jumps label)) ∷ cells) n h = has_place (place + 2) cells n h
has_place place ((Of (Special.Refers target)) ∷ cells) n h = has_place (place + 2) cells n h

no_place : (place : ℕ) (cells : List Cell) (n : ℕ) → times n (cell_marks cells) ≤ 0 → long_place place cells n ≡ None
no_place place [] n h = refl
no_place place ((Plain byte) ∷ cells) n h = no_place (place + 1) cells n h
no_place place ((Of (Special.Marks label)) ∷ cells) n h = go (cases_eq label.number n) (λ k. no_place (place + 0) cells n k)
  where
    go : (label.number ≡ n) ⊎ (label.number ≡ n → ⊥) → (times n (cell_marks cells) ≤ 0 → long_place (place + 0) cells n ≡ None)
        → long_place place (Of (Special.Marks label) ∷ cells) n ≡ None
    go (inl same) later =
        let e = times_first n (cell_marks cells) in
        let d = ap (λ m. times n (m ∷ cell_marks cells)) same in
        absurd (omega (arith, h, e, d))
    go (inr other) later =
        let e = times_other n label.number (cell_marks cells) (λ same. other (sym same)) in
        ap (λ b. if b then Some place else long_place (place + 0) cells n) (ne_eqb label.number n other)
        ∙ later (omega (arith, h, e))
no_place place ((Of (Special.Branches branch)) ∷ cells) n h = no_place (place + 2) cells n h
no_place place ((Of (Special.Jumps label)) ∷ cells) n h = no_place (place + 2) cells n h
no_place place ((Of (Special.Refers target)) ∷ cells) n h = no_place (place + 2) cells n h

-- Lemmas about labels that have a place

placed_target : (places : Places) (target : Destination) (rest : Option Label) →
    ((n : ℕ) → 1 ≤ times n (target_labels target) → is_some (places n) ≡ true) → rest ≡ None →
    first_of (unplaced places (label_of target)) rest ≡ None
placed_target places (Destination.To label) rest h e =
    let first = times_first label.number [] in
    ap (λ b. first_of (if b then None else Some label) rest) (h label.number (omega (arith, first))) ∙ e
placed_target places Destination.ReturnFalse rest h e = e
placed_target places Destination.ReturnTrue rest h e = e

none_missing : (places : Places) (cells : List Cell) → ((n : ℕ) → 1 ≤ times n (cell_uses cells) → is_some (places n) ≡ true) →
    missing places cells ≡ None
none_missing places [] h = refl
none_missing places ((Plain byte) ∷ cells) h = none_missing places cells h
none_missing places ((Of (Special.Marks label)) ∷ cells) h = none_missing places cells h
none_missing places ((Of (Special.Branches branch)) ∷ cells) h = placed_target places branch.target (missing places cells)
    (λ n m. let e = times_joined n (target_labels branch.target) (cell_uses cells) in h n (omega (arith, e, m)))
    (none_missing places cells (λ n m. let e = times_joined n (target_labels branch.target) (cell_uses cells) in h n (omega (arith, e, m))))
none_missing places ((Of (Special.Jumps label)) ∷ cells) h =
    let first = times_first label.number (cell_uses cells) in
    ap (λ b. first_of (if b then None else Some label) (missing places cells)) (h label.number (omega (arith, first)))
    ∙ none_missing places cells (λ n m. h n (later n m))
  where
    later : (n : ℕ) → 1 ≤ times n (cell_uses cells) → 1 ≤ times n (label.number ∷ cell_uses cells)
    later n m = let e = times_joined n (label.number ∷ []) (cell_uses cells) in omega (arith, e, m)
none_missing places ((Of (Special.Refers target)) ∷ cells) h = none_missing places cells h

none_twice : (before cells : List Cell) → ((n : ℕ) → times n (cell_marks before) + times n (cell_marks cells) ≤ 1) →
    twice_behind before cells ≡ None
none_twice before [] h = refl
none_twice before ((Plain byte) ∷ cells) h = none_twice before cells h
none_twice before ((Of (Special.Marks label)) ∷ cells) h =
    let first = times_first label.number (cell_marks cells) in
    let most = h label.number in
    ap (λ p. first_of (if is_some p then Some label else None) (twice_behind (before ++ Of (Special.Marks label) ∷ []) cells))
    (no_place 0 before label.number (omega (arith, first, most)))
    ∙ none_twice (before ++ Of (Special.Marks label) ∷ []) cells (λ n. both n)
  where
    both : (n : ℕ) → times n (cell_marks (before ++ Of (Special.Marks label) ∷ [])) + times n (cell_marks cells) ≤ 1
    both n =
        let e = ap (times n) (cell_marks_joined before (Of (Special.Marks label) ∷ [])) in
        let d = times_joined n (cell_marks before) (label.number ∷ []) in
        let f = times_joined n (label.number ∷ []) (cell_marks cells) in
        let most = h n in
        omega (arith, e, d, f, most)
none_twice before ((Of (Special.Branches branch)) ∷ cells) h = none_twice (before ++ Of (Special.Branches branch) ∷ []) cells
    (λ n. subst (λ ms. times n ms + times n (cell_marks cells) ≤ 1)
    (sym (cell_marks_joined before (Of (Special.Branches branch) ∷ []) ∙ append-nil (cell_marks before))) (h n))
none_twice before ((Of (Special.Jumps label)) ∷ cells) h = none_twice (before ++ Of (Special.Jumps label) ∷ []) cells
    (λ n. subst (λ ms. times n ms + times n (cell_marks cells) ≤ 1)
    (sym (cell_marks_joined before (Of (Special.Jumps label) ∷ []) ∙ append-nil (cell_marks before))) (h n))
none_twice before ((Of (Special.Refers target)) ∷ cells) h = none_twice (before ++ Of (Special.Refers target) ∷ []) cells
    (λ n. subst (λ ms. times n ms + times n (cell_marks cells) ≤ 1)
    (sym (cell_marks_joined before (Of (Special.Refers target) ∷ []) ∙ append-nil (cell_marks before))) (h n))

-- Cells whose labels are each marked once, where each that is used is marked.
pub record AreWhole (cells : List Cell) : Type 0 where
  pub once : (n : ℕ) → times n (cell_marks cells) ≤ 1
  pub known : (n : ℕ) → 1 ≤ times n (cell_uses cells) → 1 ≤ times n (cell_marks cells)

pub whole_missing : (place : ℕ) (cells : List Cell) → AreWhole cells → missing (long_place place cells) cells ≡ None
whole_missing place cells w = none_missing (long_place place cells) cells (λ n h. has_place place cells n (w.known n h))

pub whole_twice : (cells : List Cell) → AreWhole cells → twice_behind [] cells ≡ None
whole_twice cells w = none_twice [] cells (λ n. let p = w.once n in omega (arith, p))

-- Lemmas about the book

-- how often a number is that of one label
unfoldable pub one : ℕ → Label → ℕ
one n l = times n (l.number ∷ [])

pub one_is : (n : ℕ) (l : Label) → times n (l.number ∷ []) ≡ one n l
unfolding one
one_is n l = refl

pub one_same : (l : Label) → one l.number l ≡ 1
unfolding one
one_same l = times_first l.number []

pub one_other : (n : ℕ) (l : Label) → (n ≡ l.number → ⊥) → one n l ≡ 0
unfolding one
one_other n l h = times_other n l.number [] h

-- Lemmas about items that were laid, as cells of the open routine

pub record Grew (items : List Item) (before now : Opened) : Type 0 where
  pub marked : cell_marks now.contents.cells ≡ cell_marks before.contents.cells ++ marks items
  pub used : cell_uses now.contents.cells ≡ cell_uses before.contents.cells ++ uses items

pub record GrewFrom (items : List Item) (opened : Option Opened) (now : Opened) : Type 0 where
  pub before : Opened
  pub is : opened ≡ Some before
  pub grew : Grew items before now

some_none : {A : Type 0} {B : Type 0} {a : A} → None ≡ Some a → B
some_none e = absurd (cc e)

pub some_is : {A : Type 0} {a b : A} → Some a ≡ Some b → a ≡ b
some_is e = cc e

grew_instruction : (i : Parts) (c : Opened) (cells : List Cell) → cells ≡ c.contents.cells ++ instruction_cells i →
    (cell_marks cells ≡ cell_marks c.contents.cells ++ marks (Item.Instruction i ∷ []))
    × (cell_uses cells ≡ cell_uses c.contents.cells ++ uses (Item.Instruction i ∷ []))
grew_instruction i c cells e = (
  ap cell_marks e ∙ (cell_marks_joined c.contents.cells (instruction_cells i)
      ∙ ap (λ ns. cell_marks c.contents.cells ++ ns) (instruction_marks i)),
  ap cell_uses e ∙ (cell_uses_joined c.contents.cells (instruction_cells i)
      ∙ ap (λ ns. cell_uses c.contents.cells ++ ns) (instruction_uses i
      ∙ sym (ap (λ ns. operand_labels i.operands ++ ns) (append-nil (branch_labels i.branch))))),
)

grew_one : (item : Item) (code : Routines) (opened : Option Opened) (now : Opened) → code.opened ≡ opened →
    (grown item code).opened ≡ Some now
    → GrewFrom (item ∷ []) opened now
grew_one (Item.Instruction i) code None now e h =
    some_none (sym (ap (λ o. (grown (Item.Instruction i) (record code { opened = o })).opened) e) ∙ h)
grew_one (Item.Instruction i) code (Some c) now e h =
    let is = some_is (sym (ap (λ o. (grown (Item.Instruction i) (record code { opened = o })).opened) e) ∙ h) in
    let both = grew_instruction i c now.contents.cells (sym (ap (λ (d : Opened). d.contents.cells) is)) in
    record { before = c; is = refl; grew = record { marked = both.0; used = both.1 } }
grew_one (Item.Mark l) code None now e h = some_none (sym (ap (λ o. (grown (Item.Mark l) (record code { opened = o })).opened) e) ∙ h)
grew_one (Item.Mark l) code (Some c) now e h =
    let is = some_is (sym (ap (λ o. (grown (Item.Mark l) (record code { opened = o })).opened) e) ∙ h) in
    let cells = sym (ap (λ (d : Opened). d.contents.cells) is) in
    record {
      before = c;
      is = refl;
      grew = record {
        marked = ap cell_marks cells ∙ cell_marks_joined c.contents.cells _;
        used = ap cell_uses cells ∙ cell_uses_joined c.contents.cells _;
      };
    }

grew_both : (a b : List Item) (x y z : Opened) → Grew a x y → Grew b y z → Grew (a ++ b) x z
grew_both a b x y z f g = record {
  marked = g.marked ∙ (ap (λ ns. ns ++ marks b) f.marked ∙ (append_assoc (cell_marks x.contents.cells) (marks a) (marks b)
      ∙ ap (λ ns. cell_marks x.contents.cells ++ ns) (sym (marks_joined a b))));
  used = g.used ∙ (ap (λ ns. ns ++ uses b) f.used ∙ (append_assoc (cell_uses x.contents.cells) (uses a) (uses b)
      ∙ ap (λ ns. cell_uses x.contents.cells ++ ns) (sym (uses_joined a b))));
}

pub grew_all : (items : List Item) (code : Routines) (now : Opened) → (all_grown items code).opened ≡ Some now →
    GrewFrom items code.opened now
grew_all [] code now h = record {
  before = now;
  is = h;
  grew = record { marked = sym (append-nil (cell_marks now.contents.cells)); used = sym (append-nil (cell_uses now.contents.cells)) };
}
grew_all (item ∷ items) code now h =
    let later = grew_all items (grown item code) now h in
    let first = grew_one item code code.opened later.before refl later.is in
    record { before = first.before; is = first.is; grew = grew_both (item ∷ []) items first.before later.before now first.grew later.grew }

-- Lemmas about books

abbrev pub Counts : Type 0
Counts = ℕ → ℕ

pub record Booked (due spare need : Counts) (next : ℕ) (cells : List Cell) : Type 0 where
  pub once : (n : ℕ) → times n (cell_marks cells) + due n + spare n ≤ 1
  pub over : (n : ℕ) → next ≤ n → times n (cell_marks cells) + due n + spare n ≤ 0
  pub known : (n : ℕ) → 1 ≤ times n (cell_uses cells) + need n → 1 ≤ times n (cell_marks cells) + due n

-- Items are laid that mark labels of their own and some that are due.
booked_paid : (needs given : List ℕ) (due left spare need : Counts) (low high : ℕ) (cells now : List Cell) (items : List Item) →
    Booked due spare need low cells → cell_marks now ≡ cell_marks cells ++ marks items → cell_uses now ≡ cell_uses cells ++ uses items →
    Settles needs given low high items → ((n : ℕ) → due n ≡ times n given + left n) → ((n : ℕ) → 1 ≤ times n needs → 1 ≤ need n) →
    Booked left spare need high now
booked_paid needs given due left spare need low high cells now items b m u s h k = record {
  once = λ n. once n (cases_lt n low);
  over = λ n more.
      let e = marked n in
      let d = h n in
      let p = b.over n (let r = s.within.grows in omega (arith, more, r)) in
      let q = s.within.over n more in
      omega (arith, e, d, p, q);
  known = λ n used. known n (some_of_two (times n (cell_uses cells) + need n) (times n (uses items)) (parted n used));
}
  where
    marked : (n : ℕ) → times n (cell_marks now) ≡ times n (cell_marks cells) + times n (marks items)
    marked n = ap (times n) m ∙ times_joined n (cell_marks cells) (marks items)

    once : (n : ℕ) → (n < low) ⊎ (low ≤ n) → times n (cell_marks now) + left n + spare n ≤ 1
    once n (inl less) =
        let e = marked n in
        let d = h n in
        let p = b.once n in
        let q = s.within.below n less in
        omega (arith, e, d, p, q)
    once n (inr more) =
        let e = marked n in
        let d = h n in
        let p = b.over n more in
        let q = s.within.once n in
        omega (arith, e, d, p, q)

    parted : (n : ℕ) → 1 ≤ times n (cell_uses now) + need n → 1 ≤ (times n (cell_uses cells) + need n) + times n (uses items)
    parted n used = let e = ap (times n) u ∙ times_joined n (cell_uses cells) (uses items) in omega (arith, e, used)

    before : (n : ℕ) → 1 ≤ times n (cell_uses cells) + need n → 1 ≤ times n (cell_marks now) + left n
    before n used =
        let e = marked n in
        let d = h n in
        let p = b.known n used in
        let q = s.all n in
        omega (arith, e, d, p, q)

    needed : (n : ℕ) → (1 ≤ times n needs) ⊎ (1 ≤ times n (marks items)) → 1 ≤ times n (cell_marks now) + left n
    needed n (inl some) = let p = k n some in before n (omega (arith, p))
    needed n (inr own) = let e = marked n in omega (arith, e, own)

    known : (n : ℕ) → (1 ≤ times n (cell_uses cells) + need n) ⊎ (1 ≤ times n (uses items)) → 1 ≤ times n (cell_marks now) + left n
    known n (inl used) = before n used
    known n (inr used) = needed n (some_of_two (times n needs) (times n (marks items)) (s.known n used))

-- A spare label becomes due, or is never used; and other labels may be needed.
pub booked_as : (due spare need more rest other : Counts) (next : ℕ) (cells : List Cell) → Booked due spare need next cells →
    ((n : ℕ) → more n + rest n ≤ due n + spare n) → ((n : ℕ) → due n ≤ more n) → ((n : ℕ) → 1 ≤ other n → 1 ≤ need n + more n) →
    Booked more rest other next cells
booked_as due spare need more rest other next cells b f g h = record {
  once = λ n. let p = b.once n in let q = f n in omega (arith, p, q);
  over = λ n behind. let p = b.over n behind in let q = f n in omega (arith, p, q);
  known = λ n used. known n (some_of_two (times n (cell_uses cells)) (other n) used);
}
  where
    still : (n : ℕ) → 1 ≤ times n (cell_uses cells) + need n → 1 ≤ times n (cell_marks cells) + more n
    still n used = let p = b.known n used in let q = g n in omega (arith, p, q)

    needed : (n : ℕ) → (1 ≤ need n) ⊎ (1 ≤ more n) → 1 ≤ times n (cell_marks cells) + more n
    needed n (inl before) = still n (omega (arith, before))
    needed n (inr now) = omega (arith, now)

    known : (n : ℕ) → (1 ≤ times n (cell_uses cells)) ⊎ (1 ≤ other n) → 1 ≤ times n (cell_marks cells) + more n
    known n (inl used) = still n (omega (arith, used))
    known n (inr some) = needed n (some_of_two (need n) (more n) (h n some))

-- A label that is handed out is spare.
booked_label : (due spare need : Counts) (l : Label) (cells : List Cell) → Booked due spare need l.number cells →
    Booked due (λ n. spare n + one n l) need (suc l.number) cells
booked_label due spare need l cells b = record {
  once = λ n. once n (cases_eq n l.number);
  over = λ n more.
      let e = one_other n l (λ same. omega (arith, same, more)) in
      let p = b.over n (omega (arith, more)) in
      omega (arith, e, p);
  known = b.known;
}
  where
    once : (n : ℕ) → (n ≡ l.number) ⊎ (n ≡ l.number → ⊥) → times n (cell_marks cells) + due n + (spare n + one n l) ≤ 1
    once n (inl same) =
        let e = subst (λ k. one k l ≡ 1) (sym same) (one_same l) in
        let p = b.over n (omega (arith, same)) in
        omega (arith, e, p)
    once n (inr other) = let e = one_other n l other in let p = b.once n in omega (arith, e, p)

-- Outputs: as long as no limit is passed, and there are numbers of labels, the book of the open routine holds.
pub record Sound (due spare need : Counts) (o : Out) : Type 0 where
  pub holds : o.past ≡ None → o.next < 4294967295 → (routine : Opened) → o.code.opened ≡ Some routine →
      Booked due spare need o.next routine.contents.cells

-- Code that was laid between two outputs
pub record Came (needs given : List ℕ) (o q : Out) : Type 0 where
  pub items : List Item
  pub laid : Laid o items q
  pub own : q.next < 4294967295 → Settles needs given o.next q.next items

pub came : {c : Code} {needs given : List ℕ} → Owned c needs given → (o : Out) → Came needs given o (c o)
came {c} {needs} {given} f o = let x = f o in record { items = x.items; laid = x.laid; own = x.own }

pub sound_paid : (needs given : List ℕ) (due left spare need : Counts) (o q : Out) → o.kept ≡ None → Sound due spare need o →
    Came needs given o q → ((n : ℕ) → due n ≡ times n given + left n) → ((n : ℕ) → 1 ≤ times n needs → 1 ≤ need n) →
    Sound left spare need q
sound_paid needs given due left spare need o q together b c h k = record {
  holds = λ fits few now is.
      let code = c.laid.code fits ∙ ap (λ k. code_behind k c.items o.code) together in
      let g = grew_all c.items o.code now (sym (ap (λ (r : Routines). r.opened) code) ∙ is) in
      let s = c.own few in
      let low : o.next < 4294967295 = let r = s.within.grows in omega (arith, few, r) in
      booked_paid needs given due left spare need o.next q.next g.before.contents.cells now.contents.cells c.items
      (b.holds (c.laid.fits fits) low g.before g.is) g.grew.marked g.grew.used s h k;
}

pub paid_together : (needs given : List ℕ) (o q : Out) → o.kept ≡ None → Came needs given o q → q.kept ≡ None
paid_together needs given o q together c = c.laid.kept ∙ ap (λ k. kept_behind k c.items) together

pub sound_as : (due spare need more rest other : Counts) (o : Out) → Sound due spare need o →
    ((n : ℕ) → more n + rest n ≤ due n + spare n) → ((n : ℕ) → due n ≤ more n) → ((n : ℕ) → 1 ≤ other n → 1 ≤ need n + more n) →
    Sound more rest other o
sound_as due spare need more rest other o b f g h = record {
  holds = λ fits few now is. booked_as due spare need more rest other o.next now.contents.cells (b.holds fits few now is) f g h;
}

-- an output that has the same open routine
pub sound_still : (due spare need : Counts) (o q : Out) → LeavesRoutine o q → Sound due spare need o → Sound due spare need q
sound_still due spare need o q l b = record {
  holds = λ fits few now is. subst (λ k. Booked due spare need k now.contents.cells) (sym l.next)
      (b.holds (l.fits fits) (subst (λ k. k < 4294967295) l.next few) now (sym l.opened ∙ is));
}

pub sound_label : (due spare need : Counts) (o : Out) → Sound due spare need o →
    Sound due (λ n. spare n + one n (record { number = o.next })) need (record o { next = behind o.next })
sound_label due spare need o b = record {
  holds = λ fits few now is.
      let e = behind_is o.next few in
      subst (λ k. Booked due (λ n. spare n + one n (record { number = o.next })) need k now.contents.cells) (sym e)
      (booked_label due spare need (record { number = o.next }) now.contents.cells
      (b.holds fits (omega (arith, few, e)) now is));
}
