-- Instructions read from bytes, by the formats of the Z-Machine Standard 1.1, section 4.
use Rattle.std.specs.Prelude.{ℕ, zero, suc, ◌+◌, ◌-◌, ◌*◌, ◌/◌, ◌%◌, Bool, true, false, nat_lt, nat_le, ◌==◌, ◌&&◌, List, [], ◌∷◌, ◌++◌}
use Rattle.std.specs.Prelude.{length, map, find, Option, Some, None, if◌then◌else◌, option_map}
use Rattle.inf_opcode.specs.{Instructions.Parts, Names.opcodes, Opcodes.row_of, declared.instructions.Branch.Branch}
use Rattle.inf_opcode.specs.{declared.instructions.Destination.Destination, declared.instructions.Operand.Operand}
use Rattle.inf_opcode.specs.{declared.opcodes.Opcode.Opcode, declared.opcodes.OperandCount.OperandCount}
use Rattle.inf_assembler.specs.Places.{Places}

-- one step of reading behind another
infixl 10 ◌>>=◌
abbrev pub ◌>>=◌ : {A B : Type 0} → Option A → (A → Option B) → Option B
None >>= next = None
(Some x) >>= next = next x

-- the number of a count, by which counts are compared
abbrev pub rank : OperandCount → ℕ
rank OperandCount.Zero = 0
rank OperandCount.One = 1
rank OperandCount.Two = 2
rank OperandCount.Several = 3
rank OperandCount.Extended = 4

-- whether an opcode has this count and this number
abbrev pub is_at : OperandCount → ℕ → Opcode → Bool
is_at count number opcode = (rank (row_of opcode).count == rank count) && ((row_of opcode).number == number)

-- the opcode of a count and a number (section 14)
unfoldable pub opcode_at : OperandCount → ℕ → Option Opcode
opcode_at count number = find (is_at count number) opcodes

-- how the first byte is read (section 4.3)
pub data Form : Type 0 where
  long : Form
  short_one : Form
  short_zero : Form
  variable_two : Form
  variable_several : Form
  extended : Form

abbrev pub form_of : ℕ → Form
form_of first =
    if nat_lt first 128 then long else
    if first == 190 then extended else
    if nat_lt first 176 then short_one else
    if nat_lt first 192 then short_zero else
    if nat_lt first 224 then variable_two else variable_several

-- the types in a byte, from the top (section 4.4.3)
abbrev pub types_in : ℕ → List ℕ
types_in byte = (byte / 64) ∷ (byte / 16 % 4) ∷ (byte / 4 % 4) ∷ (byte % 4) ∷ []

-- the types up to the first that is omitted
abbrev pub given_types : List ℕ → List ℕ
given_types [] = []
given_types (code ∷ codes) = if nat_lt code 3 then code ∷ given_types codes else []

-- the types in one byte, or in two where there may be more than four operands, and the bytes behind them (section 4.4.3.1)
abbrev pub types_at : Bool → List ℕ → Option (List ℕ × List ℕ)
types_at true (first ∷ second ∷ rest) = Some (given_types (types_in first ++ types_in second), rest)
types_at true (first ∷ []) = None
types_at true [] = None
types_at false (first ∷ rest) = Some (given_types (types_in first), rest)
types_at false [] = None

-- the opcode, the types of its operands, and the bytes behind these
pub record Opening : Type 0 where
  pub opcode : Opcode
  pub types : List ℕ
  pub rest : List ℕ

-- an opcode whose types are known, and one whose types follow
abbrev pub typed : Option Opcode → List ℕ → List ℕ → Option Opening
typed found types rest = found >>= λ opcode. Some (record { opcode = opcode; types = types; rest = rest })

abbrev pub untyped : Option Opcode → List ℕ → Option Opening
untyped found rest =
    found >>= λ opcode. types_at (nat_lt 4 (row_of opcode).most) rest >>= λ types. Some
    (record { opcode = opcode; types = types.0; rest = types.1 })

-- An instruction's opening by its form. In the long form a bit of a type says variable and not small (sections 4.4.1 to 4.4.3).
abbrev pub opening_by : Form → ℕ → List ℕ → Option Opening
opening_by long first rest = typed (opcode_at OperandCount.Two (first % 32)) ((1 + first / 64) ∷ (1 + first / 32 % 2) ∷ []) rest
opening_by short_one first rest = typed (opcode_at OperandCount.One (first % 16)) ((first / 16 % 4) ∷ []) rest
opening_by short_zero first rest = typed (opcode_at OperandCount.Zero (first % 16)) [] rest
opening_by variable_two first rest = untyped (opcode_at OperandCount.Two (first % 32)) rest
opening_by variable_several first rest = untyped (opcode_at OperandCount.Several (first % 32)) rest
opening_by extended first [] = None
opening_by extended first (number ∷ rest) = untyped (opcode_at OperandCount.Extended number) rest

abbrev pub opening_at : List ℕ → Option Opening
opening_at [] = None
opening_at (first ∷ rest) = opening_by (form_of first) first rest

-- An operand as it is read: a constant of two bytes or of one, a variable, or the place that a jump goes to
pub data Given : Type 0 where
  Word : (number : ℕ) → Given
  Byte : (number : ℕ) → Given
  OfVariable : (number : ℕ) → Given
  Place : (place : ℕ) → Given

-- The aim of a branch: it returns false or true, or goes to a place
pub data Aim : Type 0 where
  Returns : (value : Bool) → Aim
  GoesTo : (place : ℕ) → Aim

-- The place that an offset says from an end, as a number of twice half values: from half on it is negative, and 2 is the end itself
-- (sections 4.7.2 and 15, jump).
abbrev pub place_by : ℕ → ℕ → ℕ → ℕ
place_by half end offset = if nat_lt offset half then end + offset - 2 else end + offset - (2 * half + 2)

-- a branch by its offset of 14 bits; 0 and 1 return (section 4.7.1)
abbrev pub aim_at : ℕ → ℕ → Aim
aim_at end offset = if offset == 0 then Returns false else if offset == 1 then Returns true else GoesTo (place_by 8192 end offset)

abbrev pub word_given : Bool → ℕ → ℕ → Given
word_given true end number = Place (place_by 32768 end number)
word_given false end number = Word number

-- An operand by its type (section 4.2): a word, a byte, or the number of a variable. `total` is the number of places up to the end of the
-- bytes.
abbrev pub operand_at : ℕ → Bool → ℕ → List ℕ → Option (Given × List ℕ)
operand_at total jumps zero (high ∷ low ∷ rest) = Some (word_given jumps (total - length rest) (256 * high + low), rest)
operand_at total jumps zero (high ∷ []) = None
operand_at total jumps zero [] = None
operand_at total jumps (suc zero) (byte ∷ rest) = Some (Byte byte, rest)
operand_at total jumps (suc zero) [] = None
operand_at total jumps (suc (suc type)) (number ∷ rest) = Some (OfVariable number, rest)
operand_at total jumps (suc (suc type)) [] = None

abbrev pub operands_at : ℕ → Bool → List ℕ → List ℕ → Option (List Given × List ℕ)
operands_at total jumps [] bytes = Some ([], bytes)
operands_at total jumps (type ∷ types) bytes =
    operand_at total jumps type bytes >>= λ first. operands_at total jumps types first.1 >>= λ others. Some (first.0 ∷ others.0, others.1)

-- a store variable, where the opcode has one (section 4.6)
abbrev pub store_at : Bool → List ℕ → Option (Option ℕ × List ℕ)
store_at false bytes = Some (None, bytes)
store_at true (number ∷ rest) = Some (Some number, rest)
store_at true [] = None

-- whether a branch is taken where its test holds, and where it goes
pub record Aimed : Type 0 where
  pub sense : Bool
  pub aim : Aim

-- a branch, where the opcode has one: of one byte where bit 6 is set (section 4.7)
abbrev pub branch_by : ℕ → Bool → ℕ → List ℕ → Option (Option Aimed × List ℕ)
branch_by total true first rest = Some (Some (record { sense = nat_le 128 first; aim = aim_at (total - length rest) (first % 64) }), rest)
branch_by total false first (low ∷ rest) =
    Some (Some (record { sense = nat_le 128 first; aim = aim_at (total - length rest) (256 * (first % 64) + low) }), rest)
branch_by total false first [] = None

abbrev pub branch_at : ℕ → Bool → List ℕ → Option (Option Aimed × List ℕ)
branch_at total false bytes = Some (None, bytes)
branch_at total true (first ∷ rest) = branch_by total (first / 64 % 2 == 1) first rest
branch_at total true [] = None

-- a text, where the opcode has one: words up to the one whose top bit is set (sections 3.2 and 4.8)
abbrev pub words_at : List ℕ → Option (List ℕ × List ℕ)
words_at (high ∷ low ∷ rest) =
    if nat_le 128 high then Some (high ∷ low ∷ [], rest) else words_at rest >>= λ others. Some (high ∷ low ∷ others.0, others.1)
words_at (high ∷ []) = None
words_at [] = None

abbrev pub text_at : Bool → List ℕ → Option (List ℕ × List ℕ)
text_at false bytes = Some ([], bytes)
text_at true bytes = words_at bytes

-- an instruction as it is read
pub record Seen : Type 0 where
  pub opcode : Opcode
  pub operands : List Given
  pub store : Option ℕ
  pub branch : Option Aimed
  pub text : List ℕ

-- an instruction, and the bytes behind it, where bytes up to a place are read
abbrev pub instruction_at : ℕ → List ℕ → Option (Seen × List ℕ)
instruction_at total bytes =
    opening_at bytes >>= λ opening. operands_at total (row_of opening.opcode).jumps opening.types opening.rest
    >>= λ operands. store_at (row_of opening.opcode).stores operands.1
    >>= λ store. branch_at total (row_of opening.opcode).branches store.1
    >>= λ branch. text_at (row_of opening.opcode).has_text branch.1
    >>= λ text. Some (record { opcode = opening.opcode; operands = operands.0; store = store.0; branch = branch.0; text = text.0 }, text.1)

-- the number of instructions that is given, one behind the other, and the bytes behind them
abbrev pub instructions_at : ℕ → ℕ → List ℕ → Option (List Seen × List ℕ)
instructions_at total zero bytes = Some ([], bytes)
instructions_at total (suc more) bytes =
    instruction_at total bytes >>= λ first. instructions_at total more first.1 >>= λ others. Some (first.0 ∷ others.0, others.1)

-- How the instructions of a routine are to be seen, with the places of its labels. Each label that is used has a place where its bytes are
-- known.
abbrev pub place_in : Option ℕ → ℕ
place_in None = 0
place_in (Some place) = place

abbrev pub given : Places → Operand → Given
given places (Operand.Large number) = Word number
given places (Operand.Small number) = Byte number
given places (Operand.Variable number) = OfVariable number
given places (Operand.Later target) = Word 0
given places (Operand.Offset label) = Place (place_in (places label.number))

abbrev pub aim_of : Places → Destination → Aim
aim_of places (Destination.To label) = GoesTo (place_in (places label.number))
aim_of places Destination.ReturnFalse = Returns false
aim_of places Destination.ReturnTrue = Returns true

abbrev pub aimed : Places → Branch → Aimed
aimed places branch = record { sense = branch.sense; aim = aim_of places branch.target }

abbrev pub seen : Places → Parts → Seen
seen places parts =
    record {
      opcode = parts.opcode;
      operands = map (given places) parts.operands;
      store = parts.store;
      branch = option_map (aimed places)
          parts.branch;
      text = parts.text;
    }
