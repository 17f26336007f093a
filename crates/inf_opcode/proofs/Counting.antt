-- Counts of cells.
use Rattle.std.proofs.{lemmas.List.Concat.flat_map-append, lemmas.List.take_more}
use Rattle.std.proofs.Common.{◌≡◌, ℕ, ◌+◌, ◌<◌, List, [], ◌∷◌, ◌++◌, length, get_or, take, refl, ◌∙◌, ap, arith, append-nil, length-append}
use Rattle.std.specs.List.{flat_map}
use Rattle.inf_opcode.specs.{Instructions.operand_cells, declared.cells.Special.Special, declared.instructions.Operand.Operand}
use Rattle.inf_opcode.specs.Cells.{Cell, Plain, Of, plain, long_bytes, label_count, fixup_count}
use Rattle.inf_opcode.proofs.Growing.{long-append}

pub length-long : (xs ys : List Cell) → length (long_bytes (xs ++ ys)) ≡ length (long_bytes xs) + length (long_bytes ys)
length-long xs ys = ap length (long-append xs ys) ∙ length-append (long_bytes xs) (long_bytes ys)

pub labels-append : (xs ys : List Cell) → label_count (xs ++ ys) ≡ label_count xs + label_count ys
labels-append [] ys = omega arith
labels-append ((Plain byte) ∷ xs) ys = labels-append xs ys
labels-append ((Of (Special.Marks label)) ∷ xs) ys = omega (arith, labels-append xs ys)
labels-append ((Of (Special.Branches branch)) ∷ xs) ys = omega (arith, labels-append xs ys)
labels-append ((Of (Special.Jumps label)) ∷ xs) ys = omega (arith, labels-append xs ys)
labels-append ((Of (Special.Refers target)) ∷ xs) ys = labels-append xs ys

pub fixups-append : (xs ys : List Cell) → fixup_count (xs ++ ys) ≡ fixup_count xs + fixup_count ys
fixups-append [] ys = omega arith
fixups-append ((Plain byte) ∷ xs) ys = fixups-append xs ys
fixups-append ((Of (Special.Marks label)) ∷ xs) ys = fixups-append xs ys
fixups-append ((Of (Special.Branches branch)) ∷ xs) ys = fixups-append xs ys
fixups-append ((Of (Special.Jumps label)) ∷ xs) ys = fixups-append xs ys
fixups-append ((Of (Special.Refers target)) ∷ xs) ys = omega (arith, fixups-append xs ys)

pub labels-plain : (bytes : List ℕ) → label_count (plain bytes) ≡ 0
labels-plain [] = refl
labels-plain (byte ∷ bytes) = labels-plain bytes

pub fixups-plain : (bytes : List ℕ) → fixup_count (plain bytes) ≡ 0
fixups-plain [] = refl
fixups-plain (byte ∷ bytes) = fixups-plain bytes

-- The cells of one more operand stand behind those of the operands before.
pub operands_more : (operands : List Operand) (i : ℕ) (d : Operand) → i < length operands →
    flat_map operand_cells (take (i + 1) operands) ≡ flat_map operand_cells (take i operands) ++ operand_cells (get_or operands i d)
operands_more operands i d within =
    ap (flat_map operand_cells) (take_more operands i d within) ∙ flat_map-append operand_cells (take i operands) (get_or operands i d ∷ [])
    ∙ ap (λ xs. flat_map operand_cells (take i operands) ++ xs) (append-nil (operand_cells (get_or operands i d)))
