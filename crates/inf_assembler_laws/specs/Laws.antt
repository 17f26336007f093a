-- Laws above the definitions.
use Rattle.std.specs.Prelude.{◌≡◌, ℕ, ◌+◌, ◌≤◌, Bool, List, ◌∷◌, ◌++◌, length, map, Option, Some, None}
use Rattle.inf_area.specs.declared.targets.Target.{Target}
use Rattle.inf_opcode.specs.{Instructions.bare, Names.name_of, Names.opcode_named, declared.opcodes.Opcode.Opcode}
use Rattle.inf_assembler.specs.declared.routines.RoutineKind.{RoutineKind}
use Rattle.inf_assembler.specs.Routines.{Contents, long_places, places, body_bytes, routine_fixups, closing_byte}
use Rattle.inf_assembler_laws.specs.{Fields.AreWithin, Fields.routine_fields, Filling.filled, Filling.known_cells}
use Rattle.inf_assembler_laws.specs.Items.{Item, routine_of, AreProper, instructions}
use Rattle.inf_assembler_laws.specs.Decoding.{instruction_at, instructions_at, seen}

-- A name gives its opcode back.
abbrev pub NamesAreFound : Type 0
NamesAreFound = (opcode : Opcode) → opcode_named (name_of opcode) ≡ Some opcode

-- The bytes of a routine at a place are read as its instructions: each branch and jump goes to the place of its label, and references are
-- zero. The bytes behind them are left.
abbrev pub RoutinesAreReadBack : Type 0
RoutinesAreReadBack =
    (place locals : ℕ) (items : List Item) (is_final : Bool) (body rest : List ℕ) → AreProper items
    → body_bytes place (routine_of locals items is_final) ≡ Some body
    → instructions_at (place + 1 + length body + length rest) (length (instructions items)) (body ++ rest)
    ≡ Some (map (seen (places place (routine_of locals items is_final))) (instructions items), rest)

-- The return at the end of a routine is read as rtrue or rfalse.
abbrev pub returning : RoutineKind → Opcode
returning RoutineKind.Plain = Opcode.Rtrue
returning RoutineKind.Embedded = Opcode.Rfalse

abbrev pub ReturnsAreReadBack : Type 0
ReturnsAreReadBack = (kind : RoutineKind) (total : ℕ) (rest : List ℕ) → instruction_at total (closing_byte kind ∷ rest) ≡ Some
    (seen (λ _. None) (bare (returning kind)), rest)

-- a place that is no later than another, where there are both, or neither
abbrev pub NoLater : Option ℕ → Option ℕ → Type 0
NoLater None None = Unit {0}
NoLater None (Some later) = ⊥
NoLater (Some place) None = ⊥
NoLater (Some place) (Some later) = place ≤ later

-- No place comes later than its long place.
abbrev pub PlacesAreNoLater : Type 0
PlacesAreNoLater = (place : ℕ) (contents : Contents) (label : ℕ) → NoLater (places place contents label) (long_places place contents label)

-- The offset of each branch fits in 6 bits where the branch is short and in 14 where it is long, and that of each jump in 16.
abbrev pub OffsetsFit : Type 0
OffsetsFit =
    (place : ℕ) (contents : Contents) (body : List ℕ) → body_bytes place contents ≡ Some body → AreWithin (routine_fields place contents)

-- A routine whose fixups are filled has the bytes of the routine with these numbers in place of its references, and the bytes before it
-- stay.
abbrev pub with_numbers : (Target → ℕ) → Contents → Contents
with_numbers number_of contents = record contents { cells = known_cells number_of contents.cells }

abbrev pub FixupsTakeNumbers : Type 0
FixupsTakeNumbers =
    (number_of : Target → ℕ) (contents : Contents) (front body rest : List ℕ) → body_bytes (length front) contents ≡ Some body
    → (numbered : List ℕ) × (body_bytes (length front) (with_numbers number_of contents) ≡ Some numbered)
    × (filled number_of (routine_fixups (length front) contents) (front ++ (contents.locals ∷ (body ++ rest))) ≡ front ++
    (contents.locals ∷ (numbered ++ rest)))
