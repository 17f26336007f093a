-- The lines of a verb as a parser reads them from the bytes of a story (Inform Technical Manual, section 8.5).
use Rattle.std.specs.Prelude.{ℕ, zero, suc, ◌+◌, ◌*◌, ◌%◌, ◌==◌, nat_le, nat_eq, List, [], ◌∷◌, drop, length, Bool, if◌then◌else◌}
use Rattle.std.specs.List.{flat_map, position_or_len}
use Rattle.inf_verb_laws.specs.Verbs.{Attribute, Filter, Line, Noun, Routine, Scope, Text, Token, Words}

-- a line: its action, whether its nouns change places, and of each token the type and the word
pub record Read : Type 0 where
  pub action : ℕ
  pub is_reverse : Bool
  pub tokens : List (ℕ × ℕ)

abbrev pub word_in : List ℕ → ℕ
word_in (high ∷ low ∷ bytes) = 256 * high + low
word_in bytes = 0

-- the tokens up to a 15, and the bytes behind it
abbrev pub tokens_read : ℕ → List ℕ → List (ℕ × ℕ) × List ℕ
tokens_read zero bytes = ([], bytes)
tokens_read (suc most) [] = ([], [])
tokens_read (suc most) (kind ∷ bytes) =
    if kind == 15 then ([], bytes)
    else let more = tokens_read most (drop 2 bytes) in ((kind, word_in bytes) ∷ more.0, more.1)

abbrev pub lines_read : ℕ → List ℕ → List Read
lines_read zero bytes = []
lines_read (suc count) (high ∷ low ∷ bytes) =
    let r = tokens_read (length bytes) bytes in
    record { action = 256 * (high % 4) + low; is_reverse = nat_le 4 (high % 8); tokens = r.0 } ∷ lines_read count r.1
lines_read (suc count) bytes = []

-- the lines of the verb whose count byte stands at a place
abbrev pub counted : List ℕ → List Read
counted [] = []
counted (count ∷ bytes) = lines_read count bytes

abbrev pub verb_read : ℕ → List ℕ → List Read
verb_read at bytes = counted (drop at bytes)

-- A line of the description as it should be read. An alternative has $20 where another follows, and $10 where one comes before.

abbrev pub alternatives : (Text → ℕ) → ℕ → List Text → List (ℕ × ℕ)
alternatives address before [] = []
alternatives address before (t ∷ []) = (2 + before, address t) ∷ []
alternatives address before (t ∷ u ∷ texts) = (34 + before, address t) ∷ alternatives address 16 (u ∷ texts)

abbrev pub token_told : (Text → ℕ) → List ℕ → Token → List (ℕ × ℕ)
token_told address routines (Noun n) = (1, n) ∷ []
token_told address routines (Words texts) = alternatives address 0 texts
token_told address routines (Filter r) = (3, position_or_len (nat_eq r) routines) ∷ []
token_told address routines (Attribute n) = (4, n) ∷ []
token_told address routines (Scope r) = (5, position_or_len (nat_eq r) routines) ∷ []
token_told address routines (Routine r) = (6, position_or_len (nat_eq r) routines) ∷ []

abbrev pub line_told : (Text → ℕ) → List ℕ → List ℕ → Line → Read
line_told address actions routines l = record {
  action = position_or_len (nat_eq l.action) actions;
  is_reverse = l.is_reverse;
  tokens = flat_map (token_told address routines) l.tokens;
}
