-- Offsets that are written fit their fields.
use Rattle.std.proofs.Common.{◌≡◌, ℕ, ◌+◌, ◌<◌, ◌≤◌, Bool, true, false, cond, List, [], ◌∷◌, ◌++◌, Option, Some, None, ◌⊎◌, inl, inr, refl}
use Rattle.std.proofs.Common.{sym, ◌∙◌, ap, subst, arith, append_assoc}
use Rattle.inf_area.specs.Words.{word}
use Rattle.inf_opcode.specs.declared.{cells.Special.Special, instructions.Destination.Destination, instructions.Label.Label}
use Rattle.inf_opcode.specs.Cells.{Cell, Plain, Of, special_size}
use Rattle.inf_assembler.specs.Places.{Places, is_near, is_short_to, size_at, offset_to, branch_offset, branch_bytes, long_place}
use Rattle.inf_assembler.specs.Places.{place_from, closed_special, closed_bytes}
use Rattle.inf_assembler.proofs.Finishing.{with_some_of}
use Rattle.inf_assembler_laws.specs.Fields.{Field, field_at, fields, IsBelow, AreWithin}
use Rattle.inf_assembler_laws.proofs.Offsets.{short_size, near_of, near_long, short_clear, branch_below, jump_below}
use Rattle.inf_assembler_laws.proofs.Parts.{joined_of}
use Rattle.inf_assembler_laws.proofs.Placed.{cells_size, long_size, long_size-of, long_size-append, cells_size-append, beside}

below_of : (values : ℕ) (option : Option ℕ) (offset : ℕ) → option ≡ Some offset → offset < values → IsBelow values option
below_of values option offset e less = subst (IsBelow values) (sym e) less

below_cond : (short : Bool) (offset : ℕ) → (short ≡ true → offset < 64) → offset < 16384 → offset < cond short 64 16384
below_cond true offset small fits = small refl
below_cond false offset small fits = fits

-- the offset of a jump that was found is below 65,536
jump_within : (place : Option ℕ) (end offset : ℕ) → offset_to 32768 end place ≡ Some offset → offset < 65536
jump_within None end offset e = cc
jump_within (Some place) end offset e = jump_below end place offset (near_of 32768 end place offset e)

module _ (all : List Cell) (start : ℕ) where
  abbrev long : Places
  long = long_place start all

  abbrev places : Places
  places = place_from long start start all

  abbrev old_at : List Cell → ℕ
  old_at before = start + long_size before

  abbrev new_at : List Cell → ℕ
  new_at before = start + cells_size long start before

  label_within : (before after : List Cell) (old new : ℕ) (sense : Bool) (label : Label) → old ≡ old_at before → new ≡ new_at before
      → all ≡ before ++ ((Of (Special.Branches (record { sense = sense; target = Destination.To label })) ∷ []) ++ after)
      → (short : Bool) → is_near old (long label.number) ≡ short → (o : Option ℕ) → places label.number ≡ o → (offset : ℕ) → offset_to 8192
      (new + cond short 1 2) o ≡ Some offset
      → offset < cond short 64 16384
  label_within before after old new sense label old_is new_is is short near_is None place_is offset e = cc
  label_within before after old new sense label old_is new_is is short near_is (Some place) place_is offset e =
      let gap : List Cell = Of (Special.Branches (record { sense = sense; target = Destination.To label })) ∷ [] in
      let end = new + cond short 1 2 in
      let near = near_of 8192 end place offset e in
      let found = beside long start before gap after label.number place tt
      (ap (λ cells. place_from long start start cells label.number) (sym is) ∙ place_is) in
      let long_is : long label.number ≡ Some found.long = ap (λ cells. long_place start cells label.number) is ∙ found.is in
      let size : cells_size long (old_at before) gap ≡ cond short 1 2 =
      ap (λ n. cells_size long n gap) (sym old_is) ∙ omega (arith, ap short_size near_is) in
      let sides : ((place ≤ new) × (found.long ≤ old)) ⊎ ((end ≤ place) × (old + 2 ≤ found.long) × (place + (old + 2) ≤ found.long + end)) =
      elim found.side [
        | inl s ↦ inl (omega (arith, s.0, new_is), omega (arith, s.1, old_is))
        | inr s ↦ inr (omega (arith, s.0, size, new_is), omega (arith, s.1, old_is), omega (arith, s.2, size, old_is, new_is))
      ] in
      below_cond short offset
      (λ yes. short_clear old new old end place found.long offset near (omega arith)
      (near_long old found.long (ap (is_near old) (sym long_is) ∙ near_is ∙ yes)) sides)
      (branch_below end place offset near)

  target_within : (before after : List Cell) (old new : ℕ) (sense : Bool) (target : Destination) → old ≡ old_at before → new ≡ new_at before
      → all ≡ before ++ ((Of (Special.Branches (record { sense = sense; target = target })) ∷ []) ++ after)
      → (offset : ℕ) → branch_offset places (new + cond (is_short_to long old target) 1 2) target ≡ Some offset → offset < cond
      (is_short_to long old target) 64 16384
  target_within before after old new sense (Destination.To label) old_is new_is is offset e =
      label_within before after old new sense label old_is new_is is (is_near old (long label.number)) refl (places label.number) refl
      offset e
  target_within before after old new sense Destination.ReturnFalse old_is new_is is offset e =
      let same : 0 ≡ offset = cc in omega (arith, same)
  target_within before after old new sense Destination.ReturnTrue old_is new_is is offset e =
      let same : 1 ≡ offset = cc in omega (arith, same)

  field_within : (before after : List Cell) (old new : ℕ) (what : Special) (bytes : List ℕ) (others : List Field) → old ≡ old_at before →
      new ≡ new_at before
      → all ≡ before ++ ((Of what ∷ []) ++ after) → closed_special long places old new what ≡ Some bytes → AreWithin others → AreWithin
      (field_at long places old new what ++ others)
  field_within before after old new (Special.Marks label) bytes others old_is new_is is e rest = rest
  field_within before after old new (Special.Branches branch) bytes others old_is new_is is e rest =
      let short = is_short_to long old branch.target in
      let made = with_some_of (branch_bytes short branch.sense) (branch_offset places (new + cond short 1 2) branch.target) bytes e in (
        below_of (cond short 64 16384) (branch_offset places (new + cond short 1 2) branch.target) made.0 made.1
            (target_within before after old new branch.sense branch.target old_is new_is is made.0 made.1),
        rest,
      )
  field_within before after old new (Special.Jumps label) bytes others old_is new_is is e rest =
      let made = with_some_of word (offset_to 32768 (new + 2) (places label.number)) bytes e in (
        below_of 65536 (offset_to 32768 (new + 2) (places label.number)) made.0 made.1
            (jump_within (places label.number) (new + 2) made.0 made.1),
        rest,
      )
  field_within before after old new (Special.Refers target) bytes others old_is new_is is e rest = rest

  pub fields_within : (before cells : List Cell) (old new : ℕ) (bytes : List ℕ) → old ≡ old_at before → new ≡ new_at before →
      all ≡ before ++ cells
      → closed_bytes long places old new cells ≡ Some bytes → AreWithin (fields long places old new cells)
  fields_within before [] old new bytes old_is new_is is e = tt
  fields_within before ((Plain byte) ∷ cells) old new bytes old_is new_is is e =
      let one : List Cell = Plain byte ∷ [] in
      let made = with_some_of (λ rest. byte ∷ rest) (closed_bytes long places (old + 1) (new + 1) cells) bytes e in
      fields_within (before ++ one) cells (old + 1) (new + 1) made.0 (omega (arith, old_is, long_size-append before one))
      (omega (arith, new_is, cells_size-append long start before one)) (is ∙ sym (append_assoc before one cells)) made.1
  fields_within before ((Of what) ∷ cells) old new bytes old_is new_is is e =
      let one : List Cell = Of what ∷ [] in
      let next = old + special_size what in
      let made =
      joined_of (closed_special long places old new what) (closed_bytes long places next (new + size_at long old what) cells) bytes e in
      let old_next : next ≡ old_at (before ++ one) = omega (arith, old_is, long_size-append before one, long_size-of what []) in
      let new_next : new + size_at long old what ≡ new_at (before ++ one) =
      omega (arith, new_is, cells_size-append long start before one, ap (λ n. size_at long n what) old_is) in
      field_within before cells old new what made.front (fields long places next (new + size_at long old what) cells) old_is new_is is
      made.is_front
      (fields_within (before ++ one) cells next (new + size_at long old what) made.back old_next new_next
      (is ∙ sym (append_assoc before one cells)) made.is_back)
