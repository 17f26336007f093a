-- The bytes of an instruction are read back part by part.
use Rattle.std.proofs.Common.{◌≡◌, ◌≢◌, ℕ, zero, suc, ◌+◌, ◌*◌, ◌/◌, ◌%◌, ◌<◌, ◌≤◌, Bool, true, false, ltb, leb, ◌&&◌, cond, List, [], ◌∷◌}
use Rattle.std.proofs.Common.{◌++◌, length, map, Option, Some, None, refl, ◌∙◌, ap, arith, slice_get}
use Rattle.std.proofs.lemmas.Bool.Decides.{nat_tests}
use Rattle.std.specs.Option.{option_map_or}
use Rattle.inf_opcode.specs.{Opcodes.row_of, declared.instructions.Operand.Operand, declared.opcodes.Opcode.Opcode}
use Rattle.inf_opcode.specs.Instructions.{type_code, type_slot, types_byte, types_bytes, is_text, fits_text}
use Rattle.inf_assembler_laws.specs.Decoding.{◌>>=◌, long, short_one, short_zero, variable_two, variable_several, form_of, types_in}
use Rattle.inf_assembler_laws.specs.Decoding.{given_types, types_at, Opening, untyped, words_at, text_at}

-- The first byte decides the form.
pub form_of-long : (first : ℕ) → first < 128 → form_of first ≡ long
form_of-long first small = grind (arith, nat_tests)

pub form_of-one : (type number : ℕ) → type < 3 → number < 16 → form_of (128 + 16 * type + number) ≡ short_one
form_of-one type number small fits = grind (arith, nat_tests)

pub form_of-zero : (number : ℕ) → number < 16 → number ≢ 14 → form_of (176 + number) ≡ short_zero
form_of-zero number fits other = grind (arith, nat_tests)

pub form_of-two : (number : ℕ) → number < 32 → form_of (192 + number) ≡ variable_two
form_of-two number fits = grind (arith, nat_tests)

pub form_of-several : (number : ℕ) → number < 32 → form_of (224 + number) ≡ variable_several
form_of-several number fits = grind (arith, nat_tests)

-- The types in a byte are those that it was made of.
types_in-four : (a b c d : ℕ) → a < 4 → b < 4 → c < 4 → d < 4 → types_in (64 * a + 16 * b + 4 * c + d) ≡ a ∷ b ∷ c ∷ d ∷ []
types_in-four a b c d fits_a fits_b fits_c fits_d =
    let byte = 64 * a + 16 * b + 4 * c + d in
    let first : byte / 64 ≡ a = omega arith in
    let second : byte / 16 % 4 ≡ b = omega arith in
    let third : byte / 4 % 4 ≡ c = omega arith in
    let fourth : byte % 4 ≡ d = omega arith in
    rw (first, second, third, fourth)

-- both parts of a test
pub both_parts : (a b : Bool) → (a && b) ≡ true → (a ≡ true) × (b ≡ true)
both_parts true b h = (refl, h)
both_parts false b h = cc

-- the words of a text are read back as the text
words_at-text : (text rest : List ℕ) → is_text text ≡ true → words_at (text ++ rest) ≡ Some (text, rest)
words_at-text [] rest marked = cc
words_at-text (high ∷ []) rest marked = cc
words_at-text (high ∷ low ∷ []) rest marked = rw marked
words_at-text (high ∷ low ∷ next ∷ others) rest marked =
    let both = both_parts (ltb high 128) (is_text (next ∷ others)) marked in
    let more : leb 128 high ≡ false = grind (arith, nat_tests, both.0) in
    rw (more, words_at-text (next ∷ others) rest both.1)

pub text_at-bytes : (has_text : Bool) (text rest : List ℕ) → fits_text has_text text ≡ true →
    text_at has_text (text ++ rest) ≡ Some (text, rest)
text_at-bytes true text rest fits = words_at-text text rest fits
text_at-bytes false [] rest fits = refl
text_at-bytes false (byte ∷ others) rest fits = cc

-- The types of operands, with 3 for those that there are not.
abbrev slots : ℕ → List Operand → List ℕ
slots zero operands = []
slots (suc n) [] = 3 ∷ slots n []
slots (suc n) (operand ∷ others) = type_code operand ∷ slots n others

given_types-code : (operand : Operand) (codes : List ℕ) → given_types (type_code operand ∷ codes) ≡ type_code operand ∷ given_types codes
given_types-code (Operand.Large number) codes = refl
given_types-code (Operand.Small number) codes = refl
given_types-code (Operand.Variable number) codes = refl
given_types-code (Operand.Later target) codes = refl
given_types-code (Operand.Offset label) codes = refl

given_types-none : (n : ℕ) → given_types (slots n []) ≡ []
given_types-none zero = refl
given_types-none (suc n) = refl

given_types-slots : (n : ℕ) (operands : List Operand) → length operands ≤ n → given_types (slots n operands) ≡ map type_code operands
given_types-slots n [] few = given_types-none n
given_types-slots zero (operand ∷ others) few = absurd (omega arith)
given_types-slots (suc n) (operand ∷ others) few =
    given_types-code operand (slots n others) ∙ ap (λ codes. type_code operand ∷ codes) (given_types-slots n others (omega arith))

pub type_code-small : (operand : Operand) → type_code operand < 4
type_code-small (Operand.Large number) = omega arith
type_code-small (Operand.Small number) = omega arith
type_code-small (Operand.Variable number) = omega arith
type_code-small (Operand.Later target) = omega arith
type_code-small (Operand.Offset label) = omega arith

abbrev slot_of : Option Operand → ℕ
slot_of found = option_map_or type_code found 3

slot_of-small : (found : Option Operand) → slot_of found < 4
slot_of-small None = omega arith
slot_of-small (Some operand) = type_code-small operand

types_in-byte : (operands : List Operand) (k : ℕ) → types_in (types_byte operands k) ≡ type_slot operands k ∷ type_slot operands (k + 1) ∷
    type_slot operands (k + 2) ∷ type_slot operands (k + 3) ∷ []
types_in-byte operands k =
    types_in-four (type_slot operands k) (type_slot operands (k + 1)) (type_slot operands (k + 2)) (type_slot operands (k + 3))
    (slot_of-small (slice_get operands k)) (slot_of-small (slice_get operands (k + 1))) (slot_of-small (slice_get operands (k + 2)))
    (slot_of-small (slice_get operands (k + 3)))

four_slots : (operands : List Operand) →
    type_slot operands 0 ∷ type_slot operands 1 ∷ type_slot operands 2 ∷ type_slot operands 3 ∷ [] ≡ slots 4 operands
four_slots [] = refl
four_slots (a ∷ []) = refl
four_slots (a ∷ b ∷ []) = refl
four_slots (a ∷ b ∷ c ∷ []) = refl
four_slots (a ∷ b ∷ c ∷ d ∷ others) = refl

eight_slots : (operands : List Operand) → type_slot operands 0 ∷ type_slot operands 1 ∷ type_slot operands 2 ∷ type_slot operands 3 ∷
    type_slot operands 4 ∷ type_slot operands 5 ∷ type_slot operands 6 ∷ type_slot operands 7 ∷ [] ≡ slots 8 operands
eight_slots [] = refl
eight_slots (a ∷ []) = refl
eight_slots (a ∷ b ∷ []) = refl
eight_slots (a ∷ b ∷ c ∷ []) = refl
eight_slots (a ∷ b ∷ c ∷ d ∷ []) = refl
eight_slots (a ∷ b ∷ c ∷ d ∷ e ∷ []) = refl
eight_slots (a ∷ b ∷ c ∷ d ∷ e ∷ f ∷ []) = refl
eight_slots (a ∷ b ∷ c ∷ d ∷ e ∷ f ∷ g ∷ []) = refl
eight_slots (a ∷ b ∷ c ∷ d ∷ e ∷ f ∷ g ∷ h ∷ others) = refl

-- the types in one byte or two are those of the operands
types_at-double : (is_double : Bool) (operands : List Operand) (rest : List ℕ) → length operands ≤ cond is_double 8 4 → types_at is_double
    (cond is_double (types_byte operands 0 ∷ types_byte operands 4 ∷ []) (types_byte operands 0 ∷ []) ++ rest) ≡ Some
    (map type_code operands, rest)
types_at-double true operands rest few =
    let all : types_in (types_byte operands 0) ++ types_in (types_byte operands 4) ≡ slots 8 operands =
    ap (λ xs. xs ++ types_in (types_byte operands 4)) (types_in-byte operands 0)
    ∙ ap (λ xs. type_slot operands 0 ∷ type_slot operands 1 ∷ type_slot operands 2 ∷ type_slot operands 3 ∷ xs) (types_in-byte operands 4)
    ∙ eight_slots operands in
    ap (λ codes. Some (given_types codes, rest)) all ∙ ap (λ codes. Some (codes, rest)) (given_types-slots 8 operands few)
types_at-double false operands rest few = ap (λ codes. Some (given_types codes, rest)) (types_in-byte operands 0 ∙ four_slots operands)
    ∙ ap (λ codes. Some (codes, rest)) (given_types-slots 4 operands few)

-- an opening whose types follow
pub untyped-found : (found : Option Opcode) (opcode : Opcode) (most : ℕ) (operands : List Operand) (rest : List ℕ) → found ≡ Some opcode →
    (row_of opcode).most ≡ most → length operands ≤ most → most ≤ 8 →
    untyped found (types_bytes most operands ++ rest) ≡ Some (record { opcode = opcode; types = map type_code operands; rest = rest })
untyped-found found opcode most operands rest is few_is few at_most =
    let fits : length operands ≤ cond (ltb 4 most) 8 4 = grind (arith, nat_tests) in
    let next : Opcode → List ℕ × List ℕ → Option Opening = λ o types. Some (record { opcode = o; types = types.0; rest = types.1 }) in
    ap (λ o. untyped o (types_bytes most operands ++ rest)) is
    ∙ ap (λ n. types_at (ltb 4 n) (types_bytes most operands ++ rest) >>= next opcode) few_is
    ∙ ap (λ read. read >>= next opcode) (types_at-double (ltb 4 most) operands rest fits)
