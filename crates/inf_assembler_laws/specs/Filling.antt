-- Routines whose references have numbers.
use Rattle.std.specs.Prelude.{ℕ, List, [], ◌∷◌, ◌++◌}
use Rattle.inf_area.specs.{Words.with_word, Words.word, declared.fixups.Fixup.Fixup, declared.targets.Target.Target}
use Rattle.inf_opcode.specs.{Cells.Cell, Cells.Of, Cells.Plain, Cells.plain, declared.cells.Special.Special}

-- cells with the number of each reference in its place
abbrev pub known_special : (Target → ℕ) → Special → List Cell
known_special number_of (Special.Marks label) = Of (Special.Marks label) ∷ []
known_special number_of (Special.Branches branch) = Of (Special.Branches branch) ∷ []
known_special number_of (Special.Jumps label) = Of (Special.Jumps label) ∷ []
known_special number_of (Special.Refers target) = plain (word (number_of target))

abbrev pub known_cells : (Target → ℕ) → List Cell → List Cell
known_cells number_of [] = []
known_cells number_of ((Plain byte) ∷ cells) = Plain byte ∷ known_cells number_of cells
known_cells number_of ((Of what) ∷ cells) = known_special number_of what ++ known_cells number_of cells

-- bytes whose fixups are filled with the numbers of their references
abbrev pub filled : (Target → ℕ) → List Fixup → List ℕ → List ℕ
filled number_of [] bytes = bytes
filled number_of (fixup ∷ others) bytes = filled number_of others (with_word bytes fixup.place (number_of fixup.target))
