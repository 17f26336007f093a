-- Instructions, their sizes and their bytes (Z-Machine Standard 1.1, section 4).
use Rattle.std.specs.{List.flat_map, Option.option_map_or}
use Rattle.std.specs.Prelude.{◌≡◌, ◌≤◌, ℕ, ◌+◌, ◌*◌, Bool, true, false, nat_lt, nat_le, ◌&&◌, List, [], ◌∷◌, ◌++◌, length, slice_get}
use Rattle.std.specs.Prelude.{Option, Some, None, is_some, IsTrue, if◌then◌else◌}
use Rattle.inf_opcode.specs.{Cells.Cell, Cells.Of, Cells.Plain, Cells.plain, Opcodes.row_of, declared.cells.Special.Special}
use Rattle.inf_opcode.specs.{declared.instructions.Branch.Branch, declared.instructions.Operand.Operand, declared.opcodes.Opcode.Opcode}
use Rattle.inf_opcode.specs.{declared.opcodes.OpcodeRow.OpcodeRow, declared.opcodes.OperandCount.OperandCount}
use Rattle.inf_area.specs.Words.{word}

-- Parts of an instruction.
pub record Parts : Type 0 where
  pub opcode : Opcode
  pub operands : List Operand
  pub store : Option ℕ
  pub branch : Option Branch
  pub text : List ℕ

-- An opcode without operands, and with nothing behind it.
abbrev pub bare : Opcode → Parts
bare opcode = record { opcode = opcode; operands = []; store = None; branch = None; text = [] }

-- Bits of the type of an operand (section 4.2). A number that is known later is a large constant.
abbrev pub type_code : Operand → ℕ
type_code (Operand.Large word) = 0
type_code (Operand.Small byte) = 1
type_code (Operand.Variable number) = 2
type_code (Operand.Later target) = 0
type_code (Operand.Offset label) = 0

abbrev pub is_byte : Operand → Bool
is_byte (Operand.Large word) = false
is_byte (Operand.Small byte) = true
is_byte (Operand.Variable number) = true
is_byte (Operand.Later target) = false
is_byte (Operand.Offset label) = false

abbrev pub is_variable : Operand → Bool
is_variable (Operand.Large word) = false
is_variable (Operand.Small byte) = false
is_variable (Operand.Variable number) = true
is_variable (Operand.Later target) = false
is_variable (Operand.Offset label) = false

-- the type of the operand at a place, or 3 where there is none (section 4.4.3)
abbrev pub type_slot : List Operand → ℕ → ℕ
type_slot operands k = option_map_or type_code (slice_get operands k) 3

-- the types of four operands in one byte, the first in the highest bits (section 4.4.3)
abbrev pub types_byte : List Operand → ℕ → ℕ
types_byte operands k =
    64 * type_slot operands k + 16 * type_slot operands (k + 1) + 4 * type_slot operands (k + 2) + type_slot operands (k + 3)

-- one such byte, or two where there may be more than four operands (section 4.4.3.1)
abbrev pub types_bytes : ℕ → List Operand → List ℕ
types_bytes most operands = if nat_lt 4 most then types_byte operands 0 ∷ types_byte operands 4 ∷ [] else types_byte operands 0 ∷ []

-- Tells whether the long form can express the operands: two, of one byte each (section 4.4.2).
abbrev pub is_long : List Operand → Bool
is_long [] = false
is_long (first ∷ []) = false
is_long (first ∷ second ∷ []) = is_byte first && is_byte second
is_long (first ∷ second ∷ third ∷ others) = false

-- Bit of the long form for the operand at a place: 1 for a variable.
abbrev pub variable_bit : List Operand → ℕ → ℕ
variable_bit operands k = if option_map_or is_variable (slice_get operands k) false then 1 else 0

-- The opcode and the types of the operands (sections 4.3 and 4.4): by its count, its number, the bytes of the types, and the operands.
abbrev pub heading_by : OperandCount → ℕ → List ℕ → List Operand → List ℕ
heading_by OperandCount.Zero number types operands = (176 + number) ∷ []
heading_by OperandCount.One number types operands = (128 + 16 * type_slot operands 0 + number) ∷ []
heading_by OperandCount.Two number types operands =
    if is_long operands then (64 * variable_bit operands 0 + 32 * variable_bit operands 1 + number) ∷ [] else (192 + number) ∷ types
heading_by OperandCount.Several number types operands = (224 + number) ∷ types
heading_by OperandCount.Extended number types operands = 190 ∷ number ∷ types

abbrev pub heading : OpcodeRow → List Operand → List ℕ
heading row operands = heading_by row.count row.number (types_bytes row.most operands) operands

-- An operand: bytes, or a number that is known later.
abbrev pub operand_cells : Operand → List Cell
operand_cells (Operand.Large number) = plain (word number)
operand_cells (Operand.Small byte) = Plain byte ∷ []
operand_cells (Operand.Variable number) = Plain number ∷ []
operand_cells (Operand.Later target) = Of (Special.Refers target) ∷ []
operand_cells (Operand.Offset label) = Of (Special.Jumps label) ∷ []

-- the cell of a store variable, a byte (section 4.6), or none
abbrev pub store_cells : Option ℕ → List Cell
store_cells None = []
store_cells (Some number) = Plain number ∷ []

-- the cell of a branch, or none
abbrev pub branch_cells : Option Branch → List Cell
branch_cells None = []
branch_cells (Some branch) = Of (Special.Branches branch) ∷ []

-- an instruction without its text, and with it
abbrev pub front_cells : Parts → List Cell
front_cells parts =
    plain (heading (row_of parts.opcode) parts.operands) ++ flat_map operand_cells parts.operands ++ store_cells parts.store ++ branch_cells
    parts.branch

abbrev pub instruction_cells : Parts → List Cell
instruction_cells parts = front_cells parts ++ plain parts.text

-- Tells whether bytes are whole words of which only the last has its top bit set (section 3.2).
abbrev pub is_text : List ℕ → Bool
is_text [] = false
is_text (high ∷ []) = false
is_text (high ∷ low ∷ []) = nat_le 128 high
is_text (high ∷ low ∷ next ∷ others) = nat_lt high 128 && is_text (next ∷ others)

abbrev pub fits_text : Bool → List ℕ → Bool
fits_text true text = is_text text
fits_text false [] = true
fits_text false (byte ∷ others) = false

-- Tells whether the operands have offsets to labels as the opcode wants them: one and nothing else where it jumps, and none where
-- it does not.
abbrev pub has_no_offset : List Operand → Bool
has_no_offset [] = true
has_no_offset ((Operand.Offset label) ∷ others) = false
has_no_offset (operand ∷ others) = has_no_offset others

abbrev pub fits_jump : Bool → List Operand → Bool
fits_jump false operands = has_no_offset operands
fits_jump true ((Operand.Offset label) ∷ []) = true
fits_jump true operands = false

-- Tells whether the first operand is a small constant, where it names a variable.
abbrev pub fits_variable : Bool → List Operand → Bool
fits_variable false operands = true
fits_variable true ((Operand.Small number) ∷ others) = true
fits_variable true operands = false

-- The parts are those that the instruction set gives the opcode (section 14).
pub record IsProper (parts : Parts) : Type 0 where
  pub enough : (row_of parts.opcode).least ≤ length parts.operands
  pub few : length parts.operands ≤ (row_of parts.opcode).most
  pub variable : IsTrue (fits_variable (row_of parts.opcode).names_variable parts.operands)
  pub jump : IsTrue (fits_jump (row_of parts.opcode).jumps parts.operands)
  pub store : is_some parts.store ≡ (row_of parts.opcode).stores
  pub branch : is_some parts.branch ≡ (row_of parts.opcode).branches
  pub text : IsTrue (fits_text (row_of parts.opcode).has_text parts.text)
