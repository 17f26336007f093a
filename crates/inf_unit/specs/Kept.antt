-- Tokens that are kept. The bytes of each begin where those of the token before it end.
use Rattle.std.specs.Prelude.{◌≡◌, ◌≤◌, ◌+◌, ◌*◌, ◌/◌, ◌%◌, ℕ, List, [], ◌∷◌, Bool, true, length}
use Rattle.std.specs.List.{between}
use Rattle.inf_scanner.specs.{declared.tokens.Place.Place, declared.tokens.TokenKind.TokenKind}
use Rattle.inf_unit.specs.{Atoms.atom_of_kind, Atoms.is_short, Tokens.SourceToken, declared.kept.Kept.Kept}

-- the number of numbers of 32 bits
abbrev pub halves : ℕ
halves = 4294967296

-- the place behind the bytes of a token, of which it has both halves
unfoldable pub end_of : Kept → ℕ
end_of k = k.upper * halves + k.lower

-- a token with these parts, whose bytes end before a place
abbrev pub kept_of : TokenKind → Place → Bool → ℕ → ℕ → Kept
kept_of kind place is_class atom end = record {
  lower = end % halves;
  upper = end / halves;
  line = place.line;
  file = place.file;
  kind = kind;
  is_class = is_class;
  atom = atom;
}

-- a token with these bytes
abbrev pub token_with : Kept → List ℕ → SourceToken
token_with k bytes = record { kind = k.kind; bytes = bytes; place = record { file = k.file; line = k.line }; is_class = k.is_class }

-- a token whose bytes begin at a place
abbrev pub kept_token : ℕ → Kept → List ℕ → SourceToken
kept_token start k bytes = token_with k (between start (end_of k) bytes)

-- tokens of which the bytes of the first begin at a place
abbrev pub kept_tokens : ℕ → List Kept → List ℕ → List SourceToken
kept_tokens start [] bytes = []
kept_tokens start (k ∷ others) bytes = kept_token start k bytes ∷ kept_tokens (end_of k) others bytes

-- the place behind the bytes of tokens that begin at a place
abbrev pub end_of_all : ℕ → List Kept → ℕ
end_of_all start [] = start
end_of_all start (k ∷ others) = end_of_all (end_of k) others

-- A token whose bytes are there, and whose atom is by them.
pub record IsKept (start : ℕ) (k : Kept) (bytes : List ℕ) : Type 0 where
  pub order : start ≤ end_of k
  pub there : end_of k ≤ length bytes
  pub seen : k.atom ≡ atom_of_kind k.is_class k.kind (between start (end_of k) bytes)
  pub short : is_short k.kind (between start (end_of k) bytes) ≡ true

-- Tokens that have all bytes from a place on.
abbrev pub AreKept : ℕ → List Kept → List ℕ → Type 0
AreKept start [] bytes = start ≡ length bytes
AreKept start (k ∷ others) bytes = IsKept start k bytes × AreKept (end_of k) others bytes
