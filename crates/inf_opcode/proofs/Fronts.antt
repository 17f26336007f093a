-- An instruction without its text: its bytes, and what is kept of it.
use Rattle.std.proofs.Common.{◌≡◌, ℕ, ◌+◌, ◌<◌, ◌≤◌, List, [], ◌++◌, length, get_or, take, drop, take-append-drop, Option, Some, None, refl}
use Rattle.std.proofs.Common.{sym, ◌∙◌, ap, arith, append-nil, append_assoc, flat_map}
use Rattle.std.proofs.lemmas.List.Concat.{flat_map-append}
use Rattle.inf_opcode.specs.{declared.instructions.Branch.Branch, declared.instructions.Operand.Operand}
use Rattle.inf_opcode.specs.Cells.{Cell, plain, long_bytes, kept_from}
use Rattle.inf_opcode.specs.Instructions.{operand_cells, store_cells, branch_cells}
use Rattle.inf_opcode.proofs.Growing.{long-append, long-plain, kept-append, kept-plain}
use Rattle.inf_opcode.proofs.Counting.{length-long, operands_more}

pub size-front : (head : List ℕ) (a b c : List Cell) →
    length (long_bytes (plain head ++ a ++ b ++ c)) ≡ length head + length (long_bytes a) + length (long_bytes b) + length (long_bytes c)
size-front head a b c = omega (
  arith,
  length-long (plain head ++ a ++ b) c,
  length-long (plain head ++ a) b,
  length-long (plain head) a,
  ap length (long-plain head),
)

-- An operand and those before it are not longer than all operands.
pub long-within : (operands : List Operand) (i : ℕ) (d : Operand) → i < length operands
    → length (long_bytes (flat_map operand_cells (take i operands))) + length (long_bytes (operand_cells (get_or operands i d))) ≤ length
    (long_bytes (flat_map operand_cells operands))
long-within operands i d within =
    let before = flat_map operand_cells (take i operands) in let here = operand_cells (get_or operands i d) in
    let rest = flat_map operand_cells (drop (i + 1) operands) in
    let all : flat_map operand_cells operands ≡ (before ++ here) ++ rest =
    sym (ap (flat_map operand_cells) (take-append-drop (i + 1) operands))
    ∙ flat_map-append operand_cells (take (i + 1) operands) (drop (i + 1) operands)
    ∙ ap (λ xs. xs ++ rest) (operands_more operands i d within) in
    omega (arith, ap (λ cs. length (long_bytes cs)) all, length-long (before ++ here) rest, length-long before here)

-- One more operand adds its bytes.
pub long-more : (head : List ℕ) (operands : List Operand) (i : ℕ) (d : Operand) → i < length operands
    → (head ++ long_bytes (flat_map operand_cells (take i operands))) ++ long_bytes (operand_cells (get_or operands i d)) ≡ head ++
    long_bytes (flat_map operand_cells (take (i + 1) operands))
long-more head operands i d within =
    let before = flat_map operand_cells (take i operands) in
    append_assoc head (long_bytes before) (long_bytes (operand_cells (get_or operands i d)))
    ∙ ap (λ x. head ++ x) (sym (ap long_bytes (operands_more operands i d within) ∙ long-append before
    (operand_cells (get_or operands i d))))

pub kept-more : (place : ℕ) (operands : List Operand) (i : ℕ) (d : Operand) → i < length operands
    → kept_from place (flat_map operand_cells (take (i + 1) operands))
    ≡ kept_from place (flat_map operand_cells (take i operands)) ++ kept_from
    (place + length (long_bytes (flat_map operand_cells (take i operands)))) (operand_cells (get_or operands i d))
kept-more place operands i d within = ap (kept_from place) (operands_more operands i d within)
    ∙ kept-append place (flat_map operand_cells (take i operands)) (operand_cells (get_or operands i d))

-- Of a store variable, a plain byte, nothing is kept.
kept-store : (place : ℕ) (store : Option ℕ) → kept_from place (store_cells store) ≡ []
kept-store place None = refl
kept-store place (Some number) = refl

pub kept-front : (start : ℕ) (head : List ℕ) (operands : List Cell) (store : Option ℕ) (branch : Option Branch)
    → kept_from start (plain head ++ operands ++ store_cells store ++ branch_cells branch)
    ≡ kept_from (start + length head) operands ++ kept_from (start + length (long_bytes (plain head ++ operands ++ store_cells store)))
    (branch_cells branch)
kept-front start head operands store branch =
    let front = plain head ++ operands in
    let inner : kept_from start (front ++ store_cells store) ≡ kept_from (start + length head) operands =
    kept-append start front (store_cells store)
    ∙ ap (λ k. kept_from start front ++ k) (kept-store (start + length (long_bytes front)) store) ∙ append-nil (kept_from start front)
    ∙ kept-append start (plain head) operands
    ∙ ap (λ k. k ++ kept_from (start + length (long_bytes (plain head))) operands) (kept-plain start head)
    ∙ ap (λ bytes. kept_from (start + length bytes) operands) (long-plain head) in
    kept-append start (front ++ store_cells store) (branch_cells branch)
    ∙ ap (λ k. k ++ kept_from (start + length (long_bytes (front ++ store_cells store))) (branch_cells branch)) inner
