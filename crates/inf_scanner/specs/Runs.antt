-- Runs of bytes that leave a state as it is, and their effect together. Only the crate's private clauses cite them.
use Rattle.std.specs.Prelude.{ℕ, zero, suc, ◌-◌, List, [], ◌∷◌, ◌++◌, length, take, Bool, true, false, not, ◌||◌, ◌==◌, nat_le}
use Rattle.std.specs.Prelude.{if◌then◌else◌}
use Rattle.inf_characters.specs.Characters.{is_line_end}
use Rattle.inf_scanner.specs.{Kept.Kept, Scanning.is_digit, Scanning.is_letter, declared.scanner.State.State}

-- white space that ends no line, in both character sets
abbrev pub is_blank : ℕ → Bool
is_blank b = b == 32 || b == 9 || b == 12

-- tells whether a byte may be in a name, but for `$`
abbrev pub is_name_byte : ℕ → Bool
is_name_byte b = (is_letter b || is_digit b) || b == 95

-- for each of `n` bytes, from `b` on, whether it may be in a name
abbrev pub names_from : ℕ → ℕ → List Bool
names_from zero b = []
names_from (suc n) b = is_name_byte b ∷ names_from n (suc b)

-- for each byte whether it may be in a name
unfoldable pub name_bytes : List Bool
name_bytes = names_from 256 0

-- tells whether a byte ends no line, text or quote, and is no `@`
abbrev pub is_plain : ℕ → Bool
is_plain b = not (is_line_end b || b == 34 || b == 39 || b == 64)

-- tells whether a byte is known to leave the state as it is, and to end no line
abbrev pub stays : State → ℕ → Bool
stays State.Gap b = is_blank b
stays State.Comment b = is_plain b
stays (State.Run is_number) b = is_name_byte b
stays (State.Mark m) b = false
stays State.Text b = is_plain b
stays (State.Quote false) b = is_plain b
stays (State.Quote true) b = false

-- the bytes that are kept, at most `most`, once more bytes have come
abbrev pub with_bytes : ℕ → List ℕ → Kept → Kept
with_bytes most bs k =
    if nat_le (length bs) (most - length k.bytes) then record { bytes = k.bytes ++ bs; is_cut = k.is_cut }
    else record { bytes = k.bytes ++ take (most - length k.bytes) bs; is_cut = true }
