-- The opening of an instruction is read back, by the count of its opcode.
use Rattle.std.proofs.Common.{◌≡◌, ◌≢◌, ℕ, ◌+◌, ◌*◌, ◌/◌, ◌%◌, ◌<◌, ◌≤◌, Bool, true, false, ltb, leb, eqb, not, cond, List, [], ◌∷◌, ◌++◌}
use Rattle.std.proofs.Common.{length, map, Option, Some, refl, ◌∙◌, ap, arith}
use Rattle.std.proofs.lemmas.Bool.Decides.{nat_tests}
use Rattle.inf_opcode.specs.declared.{instructions.Operand.Operand, opcodes.Opcode.Opcode, opcodes.OperandCount.OperandCount}
use Rattle.inf_opcode.specs.Opcodes.{row_of, has_place, has_room}
use Rattle.inf_opcode.specs.Instructions.{type_code, types_bytes, variable_bit, is_byte, is_variable, is_long, heading_by}
use Rattle.inf_assembler_laws.specs.Decoding.{opcode_at, Opening, typed, untyped, opening_by, opening_at}
use Rattle.inf_assembler_laws.proofs.Reading.{form_of-long, form_of-one, form_of-zero, form_of-two, form_of-several, both_parts}
use Rattle.inf_assembler_laws.proofs.Reading.{untyped-found}

-- the opening of these operands
abbrev pub opening : Opcode → List Operand → List ℕ → Option Opening
opening opcode operands rest = Some (record { opcode = opcode; types = map type_code operands; rest = rest })

type_code-three : (operand : Operand) → type_code operand < 3
type_code-three (Operand.Large number) = omega arith
type_code-three (Operand.Small number) = omega arith
type_code-three (Operand.Variable number) = omega arith
type_code-three (Operand.Later target) = omega arith
type_code-three (Operand.Offset label) = omega arith

opening-zero : (opcode : Opcode) (number : ℕ) (rest : List ℕ) → opcode_at OperandCount.Zero number ≡ Some opcode →
    has_place OperandCount.Zero number ≡ true →
    opening_at ((176 + number) ∷ rest) ≡ opening opcode [] rest
opening-zero opcode number rest found place =
    let both = both_parts (ltb number 16) (not (eqb number 14)) place in
    let fits : number < 16 = grind (arith, nat_tests, both.0) in
    let other : number ≢ 14 = grind (arith, nat_tests, both.1) in
    let again : (176 + number) % 16 ≡ number = omega arith in
    ap (λ form. opening_by form (176 + number) rest) (form_of-zero number fits other)
    ∙ ap (λ n. typed (opcode_at OperandCount.Zero n) [] rest) again ∙ ap (λ o. typed o [] rest) found

opening-one : (opcode : Opcode) (number : ℕ) (operand : Operand) (rest : List ℕ) → opcode_at OperandCount.One number ≡ Some opcode →
    has_place OperandCount.One number ≡ true → opening_at ((128 + 16 * type_code operand + number) ∷ rest) ≡ opening opcode
    (operand ∷ []) rest
opening-one opcode number operand rest found place =
    let type = type_code operand in
    let first = 128 + 16 * type + number in
    let small : type < 3 = type_code-three operand in
    let fits : number < 16 = grind (arith, nat_tests, place) in
    let again : first % 16 ≡ number = omega arith in
    let same : first / 16 % 4 ≡ type = omega arith in
    ap (λ form. opening_by form first rest) (form_of-one type number small fits)
    ∙ ap (λ n. typed (opcode_at OperandCount.One n) ((first / 16 % 4) ∷ []) rest) again
    ∙ ap (λ t. typed (opcode_at OperandCount.One number) (t ∷ []) rest) same ∙ ap (λ o. typed o (type ∷ []) rest) found

-- a byte's type by its bit in the long form
byte_type : (operand : Operand) → is_byte operand ≡ true → type_code operand ≡ 1 + cond (is_variable operand) 1 0
byte_type (Operand.Large number) byte = cc
byte_type (Operand.Small number) byte = refl
byte_type (Operand.Variable number) byte = refl
byte_type (Operand.Later target) byte = cc
byte_type (Operand.Offset label) byte = cc

bit_small : (b : Bool) → cond b 1 0 < 2
bit_small true = omega arith
bit_small false = omega arith

opening-long : (opcode : Opcode) (number : ℕ) (a b : Operand) (rest : List ℕ) → opcode_at OperandCount.Two number ≡ Some opcode →
    number < 32 →
    is_byte a ≡ true → is_byte b ≡ true →
    opening_at ((64 * cond (is_variable a) 1 0 + 32 * cond (is_variable b) 1 0 + number) ∷ rest) ≡ opening opcode (a ∷ b ∷ []) rest
opening-long opcode number a b rest found fits byte_a byte_b =
    let u = cond (is_variable a) 1 0 in
    let v = cond (is_variable b) 1 0 in
    let small_u : u < 2 = bit_small (is_variable a) in
    let small_v : v < 2 = bit_small (is_variable b) in
    let first = 64 * u + 32 * v + number in
    let again : first % 32 ≡ number = omega arith in
    let type_a : 1 + first / 64 ≡ type_code a = omega (arith, byte_type a byte_a) in
    let type_b : 1 + first / 32 % 2 ≡ type_code b = omega (arith, byte_type b byte_b) in
    ap (λ form. opening_by form first rest) (form_of-long first (omega arith))
    ∙ ap (λ n. typed (opcode_at OperandCount.Two n) ((1 + first / 64) ∷ (1 + first / 32 % 2) ∷ []) rest) again
    ∙ ap (λ t. typed (opcode_at OperandCount.Two number) (t ∷ (1 + first / 32 % 2) ∷ []) rest) type_a
    ∙ ap (λ t. typed (opcode_at OperandCount.Two number) (type_code a ∷ t ∷ []) rest) type_b
    ∙ ap (λ o. typed o (type_code a ∷ type_code b ∷ []) rest) found

opening-two : (opcode : Opcode) (number most : ℕ) (operands : List Operand) (rest : List ℕ) →
    opcode_at OperandCount.Two number ≡ Some opcode →
    (row_of opcode).most ≡ most → number < 32 → length operands ≤ most → most ≤ 8 → (is_short : Bool) → is_long operands ≡ is_short →
    opening_at (cond is_short ((64 * variable_bit operands 0 + 32 * variable_bit operands 1 + number) ∷ [])
    ((192 + number) ∷ types_bytes most operands) ++ rest) ≡ opening opcode operands rest
opening-two opcode number most [] rest found most_is fits few at_most true e = cc
opening-two opcode number most (a ∷ []) rest found most_is fits few at_most true e = cc
opening-two opcode number most (a ∷ b ∷ []) rest found most_is fits few at_most true e =
    let both = both_parts (is_byte a) (is_byte b) e in opening-long opcode number a b rest found fits both.0 both.1
opening-two opcode number most (a ∷ b ∷ c ∷ others) rest found most_is fits few at_most true e = cc
opening-two opcode number most operands rest found most_is fits few at_most false e =
    let bytes = types_bytes most operands ++ rest in
    let again : (192 + number) % 32 ≡ number = omega arith in
    ap (λ form. opening_by form (192 + number) bytes) (form_of-two number fits)
    ∙ ap (λ n. untyped (opcode_at OperandCount.Two n) bytes) again
    ∙ untyped-found (opcode_at OperandCount.Two number) opcode most operands rest found most_is few at_most

-- the opening, by the count
pub opening_at-heading : (count : OperandCount) (opcode : Opcode) (number least most : ℕ) (operands : List Operand) (rest : List ℕ) →
    opcode_at count number ≡ Some opcode → (row_of opcode).most ≡ most → has_place count number ≡ true → has_room count least most ≡ true →
    least ≤ length operands → length operands ≤ most →
    opening_at (heading_by count number (types_bytes most operands) operands ++ rest) ≡ opening opcode operands rest
opening_at-heading OperandCount.Zero opcode number least most [] rest found most_is place room enough few =
    opening-zero opcode number rest found place
opening_at-heading OperandCount.Zero opcode number least most (a ∷ others) rest found most_is place room enough few =
    let none : most ≡ 0 = grind (arith, nat_tests, room) in absurd (omega arith)
opening_at-heading OperandCount.One opcode number least most [] rest found most_is place room enough few =
    let both = both_parts (eqb least 1) (eqb most 1) room in
    let one : least ≡ 1 = grind (arith, nat_tests, both.0) in absurd (omega arith)
opening_at-heading OperandCount.One opcode number least most (a ∷ []) rest found most_is place room enough few =
    opening-one opcode number a rest found place
opening_at-heading OperandCount.One opcode number least most (a ∷ b ∷ others) rest found most_is place room enough few =
    let both = both_parts (eqb least 1) (eqb most 1) room in
    let one : most ≡ 1 = grind (arith, nat_tests, both.1) in absurd (omega arith)
opening_at-heading OperandCount.Two opcode number least most operands rest found most_is place room enough few =
    let both = both_parts (leb 2 least) (leb most 4) room in
    let fits : number < 32 = grind (arith, nat_tests, place) in
    let at_most : most ≤ 8 = grind (arith, nat_tests, both.1) in
    opening-two opcode number most operands rest found most_is fits few at_most (is_long operands) refl
opening_at-heading OperandCount.Several opcode number least most operands rest found most_is place room enough few =
    let bytes = types_bytes most operands ++ rest in
    let fits : number < 32 = grind (arith, nat_tests, place) in
    let at_most : most ≤ 8 = grind (arith, nat_tests, room) in
    let again : (224 + number) % 32 ≡ number = omega arith in
    ap (λ form. opening_by form (224 + number) bytes) (form_of-several number fits)
    ∙ ap (λ n. untyped (opcode_at OperandCount.Several n) bytes) again
    ∙ untyped-found (opcode_at OperandCount.Several number) opcode most operands rest found most_is few at_most
opening_at-heading OperandCount.Extended opcode number least most operands rest found most_is place room enough few =
    let at_most : most ≤ 8 = grind (arith, nat_tests, room) in
    untyped-found (opcode_at OperandCount.Extended number) opcode most operands rest found most_is few at_most
