-- The opcodes of assembly lines.
use Rattle.std.specs.Prelude.{ℕ, List, Bool, false, nat_lt, if◌then◌else◌, Option, Some, None}
use Rattle.std.specs.List.{list_all}
use Rattle.inf_opcode.specs.{Names.opcode_named, Opcodes.row_of, declared.opcodes.Opcode.Opcode}

-- Opcode of a name, in any case. Names of a source have no byte over 127, and no opcode has one.
unfoldable pub opcode_of : List ℕ → Option Opcode
opcode_of name = if list_all (λ b. nat_lt b 128) name then opcode_named name else None

-- Tells whether an opcode takes a text of its own (Z-Machine Standard 1.1, section 4.8).
abbrev pub takes_text_by : Option Opcode → Bool
takes_text_by None = false
takes_text_by (Some opcode) = (row_of opcode).has_text

abbrev pub takes_text : List ℕ → Bool
takes_text name = takes_text_by (opcode_of name)
