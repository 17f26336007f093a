-- Instructions and routines are read as the parts of which they were made.
use Rattle.std.proofs.Common.{◌≡◌, ℕ, suc, ◌+◌, ◌<◌, ◌≤◌, Bool, true, false, cond, List, [], ◌∷◌, ◌++◌, length, map, Option, Some, None}
use Rattle.std.proofs.Common.{is_some, ◌⊎◌, inl, inr, refl, sym, ◌∙◌, ap, subst, arith, append_assoc, length-append, flat_map, option_map}
use Rattle.inf_opcode.specs.{Names.opcodes, Opcodes.has_place, Opcodes.has_room, Opcodes.row_of, declared.cells.Special.Special}
use Rattle.inf_opcode.specs.{declared.instructions.Branch.Branch, declared.instructions.Destination.Destination}
use Rattle.inf_opcode.specs.{declared.instructions.Operand.Operand, declared.opcodes.OperandCount.OperandCount}
use Rattle.inf_opcode.specs.Cells.{Cell, Plain, Of, plain}
use Rattle.inf_opcode.specs.Instructions.{Parts, IsProper, bare, is_long, heading, heading_by, types_bytes, operand_cells, store_cells}
use Rattle.inf_opcode.specs.Instructions.{branch_cells, front_cells, instruction_cells}
use Rattle.inf_assembler.specs.{Routines.closing_byte, declared.routines.RoutineKind.RoutineKind}
use Rattle.inf_assembler.specs.Places.{Places, is_near, is_short_to, offset_to, long_place, place_from, closed_bytes}
use Rattle.inf_assembler_laws.specs.Laws.{returning}
use Rattle.inf_assembler_laws.specs.Items.{Item, Marked, Written, items_cells, AreProper, instructions}
use Rattle.inf_assembler_laws.specs.Decoding.{◌>>=◌, opcode_at, Given, Aimed, Seen, Opening, operands_at, store_at, branch_at, text_at}
use Rattle.inf_assembler_laws.specs.Decoding.{instruction_at, instructions_at, given, aimed, seen}
use Rattle.inf_assembler_laws.proofs.{Openings.opening_at-heading, Reading.both_parts, Reading.text_at-bytes, Rows.opcode_at-row}
use Rattle.inf_assembler_laws.proofs.{Rows.row_fits}
use Rattle.inf_assembler_laws.proofs.Offsets.{short_size, near_of, near_long, offset_clear, short_clear}
use Rattle.inf_assembler_laws.proofs.Parts.{split, closed-plain, closed-store, some_same, all_suit, operands_read, store_bytes, store_read}
use Rattle.inf_assembler_laws.proofs.Parts.{Clear, branch_read}
use Rattle.inf_assembler_laws.proofs.Placed.{cells_size, long_size, long_size-append, cells_size-append, AreUnmarked, beside}

-- the cells before an instruction's branch
abbrev pub before_branch : Parts → List Cell
before_branch parts =
    plain (heading (row_of parts.opcode) parts.operands) ++ flat_map operand_cells parts.operands ++ store_cells parts.store

abbrev pub ClearOf : Places → Places → ℕ → ℕ → Option Branch → Type 0
ClearOf long places old new None = Unit {0}
ClearOf long places old new (Some branch) = Clear long places old new branch.target

branch_part : (long places : Places) (old new total : ℕ) (branch : Option Branch) (bytes rest : List ℕ) → ClearOf long places old new branch
    → closed_bytes long places old new (branch_cells branch) ≡ Some bytes → total ≡ new + length bytes + length rest
    → branch_at total (is_some branch) (bytes ++ rest) ≡ Some (option_map (aimed places) branch, rest)
branch_part long places old new total None bytes rest clear e t =
    let same : bytes ≡ [] = some_same bytes [] (sym e) in ap (λ b. branch_at total false (b ++ rest)) same
branch_part long places old new total (Some branch) bytes rest clear e t = branch_read long places old new total branch bytes rest clear e t

regrouped : (h o s b t rest : List ℕ) → ((((h ++ o) ++ s) ++ b) ++ t) ++ rest ≡ h ++ (o ++ (s ++ (b ++ (t ++ rest))))
regrouped h o s b t rest = simp append_assoc

lengths : (h o s b t : List ℕ) → length ((((h ++ o) ++ s) ++ b) ++ t) ≡ length h + length o + length s + length b + length t
lengths h o s b t =
    omega (arith, length-append (((h ++ o) ++ s) ++ b) t, length-append ((h ++ o) ++ s) b, length-append (h ++ o) s, length-append h o)

lengths_behind : (s b t rest : List ℕ) → length (s ++ (b ++ (t ++ rest))) ≡ length s + length b + length t + length rest
lengths_behind s b t rest = omega (arith, length-append s (b ++ (t ++ rest)), length-append b (t ++ rest), length-append t rest)

-- an instruction is read, and the bytes behind it are left
pub instruction_read : (long places : Places) (old new total : ℕ) (parts : Parts) (bytes rest : List ℕ) → IsProper parts
    → ClearOf long places (old + long_size (before_branch parts)) (new + cells_size long old (before_branch parts)) parts.branch
    → closed_bytes long places old new (instruction_cells parts) ≡ Some bytes → total ≡ new + length bytes + length rest
    → instruction_at total (bytes ++ rest) ≡ Some (seen places parts, rest)
instruction_read long places old new total parts bytes rest proper clear e is_total =
    let opcode = parts.opcode in
    let row = row_of opcode in
    let head = heading row parts.operands in
    let cells = flat_map operand_cells parts.operands in
    let stored = store_bytes parts.store in
    let fits = both_parts (has_place row.count row.number) (has_room row.count row.least row.most) (row_fits opcode) in
    let t = split long places old new (front_cells parts) (plain parts.text) bytes e in
    let b = split long places old new (plain head ++ cells ++ store_cells parts.store) (branch_cells parts.branch) t.front t.is_front in
    let s = split long places old new (plain head ++ cells) (store_cells parts.store) b.front b.is_front in
    let o = split long places old new (plain head) cells s.front s.is_front in
    let head_is : o.front ≡ head = some_same o.front head (sym o.is_front ∙ closed-plain long places old new head) in
    let text_is : t.back ≡ parts.text = some_same t.back parts.text
    (sym t.is_back ∙ closed-plain long places (old + long_size (front_cells parts)) (new + length t.front) parts.text) in
    let store_is : s.back ≡ stored = some_same s.back stored
    (sym s.is_back ∙ closed-store long places (old + long_size (plain head ++ cells)) (new + length s.front) parts.store) in
    let all : bytes ≡ (((head ++ o.back) ++ stored) ++ b.back) ++ parts.text = t.whole
    ∙ ap (λ x. x ++ t.back)
    (b.whole ∙ ap (λ x. x ++ b.back) (s.whole ∙ ap (λ x. x ++ s.back) (o.whole ∙ ap (λ x. x ++ o.back) head_is) ∙ ap
    (λ x. (head ++ o.back) ++ x) store_is))
    ∙ ap (λ x. (((head ++ o.back) ++ stored) ++ b.back) ++ x) text_is in
    let size : length bytes ≡ length head + length o.back + length stored + length b.back + length parts.text =
    ap length all ∙ lengths head o.back stored b.back parts.text in
    let behind_branch = parts.text ++ rest in
    let behind_store = b.back ++ behind_branch in
    let behind_operands = stored ++ behind_store in
    let left = lengths_behind stored b.back parts.text rest in
    let left_branch : length behind_branch ≡ length parts.text + length rest = length-append parts.text rest in
    let head_size = ap length head_is in
    let store_size = ap length store_is in
    let front_size : length b.front ≡ length head + length o.back + length stored = omega (
      arith,
      ap length b.whole,
      ap length s.whole,
      length-append s.front s.back,
      ap length o.whole,
      length-append o.front o.back,
      head_size,
      store_size,
    ) in
    let operands = map (given places) parts.operands in
    let branch = option_map (aimed places) parts.branch in
    let clear_here = subst (λ n. ClearOf long places (old + long_size (before_branch parts)) (new + n) parts.branch) (sym b.size) clear in
    let with_text : List Given → Option ℕ → Option Aimed → List ℕ × List ℕ → Option (Seen × List ℕ) =
    λ o s b text. Some (record { opcode = opcode; operands = o; store = s; branch = b; text = text.0 }, text.1) in
    let with_branch : List Given → Option ℕ → Option Aimed × List ℕ → Option (Seen × List ℕ) =
    λ o s branch. text_at row.has_text branch.1 >>= with_text o s branch.0 in
    let with_store : List Given → Option ℕ × List ℕ → Option (Seen × List ℕ) =
    λ o store. branch_at total row.branches store.1 >>= with_branch o store.0 in
    let with_operands : List Given × List ℕ → Option (Seen × List ℕ) = λ o. store_at row.stores o.1 >>= with_store o.0 in
    let with_opening : Opening → Option (Seen × List ℕ) =
    λ opening. operands_at total (row_of opening.opcode).jumps opening.types opening.rest
    >>= λ o. store_at (row_of opening.opcode).stores o.1
    >>= λ store. branch_at total (row_of opening.opcode).branches store.1
    >>= λ branch. text_at (row_of opening.opcode).has_text branch.1
    >>= λ text. Some (record { opcode = opening.opcode; operands = o.0; store = store.0; branch = branch.0; text = text.0 }, text.1) in
    ap (λ x. instruction_at total (x ++ rest)) all
    ∙ ap (instruction_at total) (regrouped head o.back stored b.back parts.text rest)
    ∙ ap (λ read. read >>= with_opening) (opening_at-heading row.count opcode row.number row.least row.most parts.operands
    (o.back ++ behind_operands) (opcode_at-row opcode) refl fits.0 fits.1 proper.enough proper.few)
    ∙ ap (λ read. read >>= with_operands)
    (operands_read long places (old + long_size (plain head)) (new + length o.front) total row.jumps parts.operands o.back behind_operands
    (all_suit row.jumps parts.operands proper.jump) o.is_back (omega (arith, is_total, size, left, head_size)))
    ∙ ap (λ b. store_at b behind_operands >>= with_store operands) (sym proper.store)
    ∙ ap (λ read. read >>= with_store operands) (store_read parts.store behind_store)
    ∙ ap (λ b. branch_at total b behind_store >>= with_branch operands parts.store) (sym proper.branch)
    ∙ ap (λ read. read >>= with_branch operands parts.store)
    (branch_part long places (old + long_size (before_branch parts)) (new + length b.front) total parts.branch b.back behind_branch
    clear_here b.is_back (omega (arith, is_total, size, front_size, left_branch)))
    ∙ ap (λ read. read >>= with_text operands parts.store branch) (text_at-bytes row.has_text parts.text rest proper.text)

-- an instruction marks no label
unmarked-append : (xs ys : List Cell) → AreUnmarked xs → AreUnmarked ys → AreUnmarked (xs ++ ys)
unmarked-append [] ys first second = second
unmarked-append ((Plain byte) ∷ xs) ys first second = unmarked-append xs ys first second
unmarked-append ((Of (Special.Marks label)) ∷ xs) ys first second = absurd first
unmarked-append ((Of (Special.Branches branch)) ∷ xs) ys first second = unmarked-append xs ys first second
unmarked-append ((Of (Special.Jumps label)) ∷ xs) ys first second = unmarked-append xs ys first second
unmarked-append ((Of (Special.Refers target)) ∷ xs) ys first second = unmarked-append xs ys first second

unmarked-plain : (bytes : List ℕ) → AreUnmarked (plain bytes)
unmarked-plain [] = tt
unmarked-plain (byte ∷ bytes) = unmarked-plain bytes

unmarked-operand : (operand : Operand) → AreUnmarked (operand_cells operand)
unmarked-operand (Operand.Large number) = tt
unmarked-operand (Operand.Small number) = tt
unmarked-operand (Operand.Variable number) = tt
unmarked-operand (Operand.Later target) = tt
unmarked-operand (Operand.Offset label) = tt

unmarked-operands : (operands : List Operand) → AreUnmarked (flat_map operand_cells operands)
unmarked-operands [] = tt
unmarked-operands (operand ∷ others) =
    unmarked-append (operand_cells operand) (flat_map operand_cells others) (unmarked-operand operand) (unmarked-operands others)

unmarked-store : (store : Option ℕ) → AreUnmarked (store_cells store)
unmarked-store None = tt
unmarked-store (Some number) = tt

unmarked-before : (parts : Parts) → AreUnmarked (before_branch parts)
unmarked-before parts =
    let head = heading (row_of parts.opcode) parts.operands in
    let cells = flat_map operand_cells parts.operands in
    unmarked-append (plain head ++ cells) (store_cells parts.store)
    (unmarked-append (plain head) cells (unmarked-plain head) (unmarked-operands parts.operands)) (unmarked-store parts.store)

-- An instruction has a byte before its branch.
size-plain : (long : Places) (old : ℕ) (bytes : List ℕ) → cells_size long old (plain bytes) ≡ length bytes
size-plain long old [] = refl
size-plain long old (byte ∷ bytes) = omega (arith, size-plain long (old + 1) bytes)

cond_some_bytes : (b : Bool) (x y : ℕ) (xs ys : List ℕ) → 1 ≤ length (cond b (x ∷ xs) (y ∷ ys))
cond_some_bytes true x y xs ys = omega arith
cond_some_bytes false x y xs ys = omega arith

heading_some : (count : OperandCount) (number : ℕ) (types : List ℕ) (operands : List Operand) →
    1 ≤ length (heading_by count number types operands)
heading_some OperandCount.Zero number types operands = omega arith
heading_some OperandCount.One number types operands = omega arith
heading_some OperandCount.Two number types operands = cond_some_bytes (is_long operands) _ _ _ _
heading_some OperandCount.Several number types operands = omega arith
heading_some OperandCount.Extended number types operands = omega arith

before_some : (long : Places) (old : ℕ) (parts : Parts) → 1 ≤ cells_size long old (before_branch parts)
before_some long old parts =
    let row = row_of parts.opcode in
    let head = heading row parts.operands in
    let cells = flat_map operand_cells parts.operands in
    omega (
      arith,
      cells_size-append long old (plain head ++ cells) (store_cells parts.store),
      cells_size-append long old (plain head) cells,
      size-plain long old head,
      heading_some row.count row.number (types_bytes row.most parts.operands) parts.operands,
    )

-- the branches of a routine whose cells begin at a place
module _ (all : List Cell) (start : ℕ) where
  abbrev long : Places
  long = long_place start all

  abbrev places : Places
  places = place_from long start start all

  abbrev old_at : List Cell → ℕ
  old_at before = start + long_size before

  abbrev new_at : List Cell → ℕ
  new_at before = start + cells_size long start before

  clear_by : (before back : List Cell) (parts : Parts) (branch : Branch) (label : ℕ) →
      all ≡ before ++ ((before_branch parts ++ Of (Special.Branches branch) ∷ []) ++ back)
      → (short : Bool) → is_near (old_at before + long_size (before_branch parts)) (long label) ≡ short → is_short_to long
      (old_at before + long_size (before_branch parts)) branch.target ≡ short
      → (o : Option ℕ) → places label ≡ o → (offset : ℕ) → offset_to 8192
      (new_at before + cells_size long (old_at before) (before_branch parts) + cond short 1 2) o ≡ Some offset
      → (2 ≤ offset) × (short ≡ true → offset < 64)
  clear_by before back parts branch label is short near_is short_is None place_is offset e = cc
  clear_by before back parts branch label is short near_is short_is (Some place) place_is offset e =
      let gap = before_branch parts ++ Of (Special.Branches branch) ∷ [] in
      let old = old_at before in
      let new = new_at before in
      let old_branch = old + long_size (before_branch parts) in
      let new_branch = new + cells_size long old (before_branch parts) in
      let end = new_branch + cond short 1 2 in
      let near = near_of 8192 end place offset e in
      let unmarked = unmarked-append (before_branch parts) (Of (Special.Branches branch) ∷ []) (unmarked-before parts) tt in
      let found =
      beside long start before gap back label place unmarked (ap (λ cells. place_from long start start cells label) (sym is) ∙ place_is) in
      let long_is : long label ≡ Some found.long = ap (λ cells. long_place start cells label) is ∙ found.is in
      let long_gap : long_size gap ≡ long_size (before_branch parts) + 2 =
      long_size-append (before_branch parts) (Of (Special.Branches branch) ∷ []) in
      let size_gap : cells_size long old gap ≡ cells_size long old (before_branch parts) + cond short 1 2 =
      cells_size-append long old (before_branch parts) (Of (Special.Branches branch) ∷ []) ∙ omega (arith, ap short_size short_is) in
      let ahead : short ≡ true → (old_branch + 2 ≤ found.long) × (found.long ≤ old_branch + 63) =
      λ yes. near_long old_branch found.long (ap (is_near old_branch) (sym long_is) ∙ near_is ∙ yes) in
      let apart : short ≡ false → new + 2 < end = λ no. omega (arith, ap short_size no, before_some long old parts) in
      let sides : ((place ≤ new) × (found.long ≤ old)) ⊎
      ((end ≤ place) × (old_branch + 2 ≤ found.long) × (place + (old_branch + 2) ≤ found.long + end)) =
      elim found.side [
        | inl s ↦ inl s
        | inr s ↦ inr (omega (arith, s.0, size_gap), omega (arith, s.1, long_gap), omega (arith, s.2, size_gap, long_gap))
      ] in (
        offset_clear short old new old_branch end place found.long offset near (omega arith) apart ahead sides,
        λ yes. short_clear old new old_branch end place found.long offset near (omega arith) (ahead yes) sides,
      )

  clear_target : (before back : List Cell) (parts : Parts) (sense : Bool) (target : Destination) →
      all ≡ before ++ ((before_branch parts ++ Of (Special.Branches (record { sense = sense; target = target })) ∷ []) ++ back)
      → Clear long places (old_at before + long_size (before_branch parts))
      (new_at before + cells_size long (old_at before) (before_branch parts)) target
  clear_target before back parts sense (Destination.To label) is = λ offset e.
      let known = clear_by before back parts (record { sense = sense; target = Destination.To label }) label.number is
      (is_near (old_at before + long_size (before_branch parts)) (long label.number)) refl refl (places label.number) refl offset e in
      record { large = known.0; small = known.1 }
  clear_target before back parts sense Destination.ReturnFalse is = tt
  clear_target before back parts sense Destination.ReturnTrue is = tt

  clear_option : (before back : List Cell) (parts : Parts) (branch : Option Branch) →
      all ≡ before ++ ((before_branch parts ++ branch_cells branch) ++ back)
      → ClearOf long places (old_at before + long_size (before_branch parts))
      (new_at before + cells_size long (old_at before) (before_branch parts)) branch
  clear_option before back parts None is = tt
  clear_option before back parts (Some branch) is = clear_target before back parts branch.sense branch.target is

  -- items are read one behind the other
  pub items_read : (before : List Cell) (items : List Item) (total : ℕ) (bytes rest : List ℕ) → all ≡ before ++ items_cells items →
      AreProper items
      → closed_bytes long places (old_at before) (new_at before) (items_cells items) ≡ Some bytes → total ≡ new_at before + length bytes +
      length rest
      → instructions_at total (length (instructions items)) (bytes ++ rest) ≡ Some (map (seen places) (instructions items), rest)
  items_read before [] total bytes rest is proper e t =
      let same : bytes ≡ [] = some_same bytes [] (sym e) in ap (λ b. instructions_at total 0 (b ++ rest)) same
  items_read before ((Marked label) ∷ items) total bytes rest is proper e t =
      let mark : List Cell = Of (Special.Marks label) ∷ [] in
      let s = split long places (old_at before) (new_at before) mark (items_cells items) bytes e in
      let none : s.front ≡ [] = some_same s.front [] (sym s.is_front) in
      let same : bytes ≡ s.back = s.whole ∙ ap (λ f. f ++ s.back) none in
      let old : old_at before + long_size mark ≡ old_at (before ++ mark) = omega (arith, long_size-append before mark) in
      let new : new_at before + length s.front ≡ new_at (before ++ mark) =
      omega (arith, cells_size-append long start before mark, ap length none) in
      let closed = ap (λ n. closed_bytes long places n (new_at (before ++ mark)) (items_cells items)) (sym old)
      ∙ ap (λ n. closed_bytes long places (old_at before + long_size mark) n (items_cells items)) (sym new) ∙ s.is_back in
      ap (λ b. instructions_at total (length (instructions items)) (b ++ rest)) same
      ∙ items_read (before ++ mark) items total s.back rest (is ∙ sym (append_assoc before mark (items_cells items))) proper closed
      (omega (arith, t, new, ap length same, ap length none))
  items_read before ((Written parts) ∷ items) total bytes rest is proper e t =
      let cells = instruction_cells parts in
      let s = split long places (old_at before) (new_at before) cells (items_cells items) bytes e in
      let behind = s.back ++ rest in
      let sizes : length bytes ≡ length s.front + length s.back = ap length s.whole ∙ length-append s.front s.back in
      let size_behind : length behind ≡ length s.back + length rest = length-append s.back rest in
      let old : old_at before + long_size cells ≡ old_at (before ++ cells) = omega (arith, long_size-append before cells) in
      let new : new_at before + length s.front ≡ new_at (before ++ cells) =
      omega (arith, cells_size-append long start before cells, s.size) in
      let closed = ap (λ n. closed_bytes long places n (new_at (before ++ cells)) (items_cells items)) (sym old)
      ∙ ap (λ n. closed_bytes long places (old_at before + long_size cells) n (items_cells items)) (sym new) ∙ s.is_back in
      let clear = clear_option before (plain parts.text ++ items_cells items) parts parts.branch
      (is ∙ ap (λ x. before ++ x) (append_assoc (front_cells parts) (plain parts.text) (items_cells items))) in
      let more = length (instructions items) in
      let next : Seen × List ℕ → Option (List Seen × List ℕ) =
      λ first. instructions_at total more first.1 >>= λ others. Some (first.0 ∷ others.0, others.1) in
      ap (λ b. instructions_at total (suc more) (b ++ rest)) s.whole
      ∙ ap (instructions_at total (suc more)) (append_assoc s.front s.back rest)
      ∙ ap (λ read. read >>= next) (instruction_read long places (old_at before) (new_at before) total parts s.front behind proper.0 clear
      s.is_front (omega (arith, t, sizes, size_behind)))
      ∙ ap (λ read. read >>= λ others. Some (seen places parts ∷ others.0, others.1))
      (items_read (before ++ cells) items total s.back rest (is ∙ sym (append_assoc before cells (items_cells items))) proper.1 closed
      (omega (arith, t, new, sizes)))

-- a routine is read as its instructions
pub routine_read : (place : ℕ) (items : List Item) (bytes rest : List ℕ) → AreProper items
    → closed_bytes (long_place (place + 1) (items_cells items))
    (place_from (long_place (place + 1) (items_cells items)) (place + 1) (place + 1) (items_cells items)) (place + 1) (place + 1)
    (items_cells items) ≡ Some bytes
    → instructions_at (place + 1 + length bytes + length rest) (length (instructions items)) (bytes ++ rest)
    ≡ Some (
      map (seen (place_from (long_place (place + 1) (items_cells items)) (place + 1) (place + 1) (items_cells items))) (instructions items),
      rest,
    )
routine_read place items bytes rest proper e =
    let cells = items_cells items in
    let start = place + 1 in
    let long = long_place start cells in
    let table = place_from long start start cells in
    let none : start + 0 ≡ start = omega arith in
    items_read cells start [] items (start + length bytes + length rest) bytes rest refl proper
    (ap (λ n. closed_bytes long table n (start + 0) cells) none ∙ ap (λ n. closed_bytes long table start n cells) none ∙ e)
    (omega arith)

-- The return at the end is read as `rtrue` or `rfalse`.
pub returns_read : (kind : RoutineKind) (total : ℕ) (rest : List ℕ) →
    instruction_at total (closing_byte kind ∷ rest) ≡ Some (seen (λ _. None) (bare (returning kind)), rest)
unfolding opcode_at opcodes
returns_read RoutineKind.Plain total rest = refl
returns_read RoutineKind.Embedded total rest = refl
