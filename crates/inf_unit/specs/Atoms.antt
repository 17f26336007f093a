-- A token for the grammar: its atom, and the word of the grammar that it may be.
use Rattle.std.specs.Prelude.{ℕ, ◌+◌, List, length, nat_le, Bool, true, if◌then◌else◌, Option, None}
use Rattle.inf_scanner.specs.declared.tokens.TokenKind.{TokenKind}
use Rattle.inf_syntax.specs.{Words.words, declared.words.Keyword.Keyword}
use Rattle.inf_syntax.specs.Atoms.{keyword_of, mark_atom, place_in, first_word, first_literal, names}

-- Atoms of a number, a character, a word in quotes, a text, a token that is faulty by itself, and the end.
abbrev pub number_atom : ℕ
number_atom = first_literal

abbrev pub char_atom : ℕ
char_atom = first_literal + 1

abbrev pub word_atom : ℕ
word_atom = first_literal + 2

abbrev pub text_atom : ℕ
text_atom = first_literal + 3

abbrev pub bad_atom : ℕ
bad_atom = first_literal + 4

abbrev pub end_atom : ℕ
end_atom = first_literal + 5

-- Atom of a name; those of the names of classes are others than those of other names.
abbrev pub name_atom : Bool → List ℕ → ℕ
name_atom is_class bytes = first_word + (if is_class then names else 0) + place_in bytes words

-- Atom of a token, which is the name of a class or not; that of a token that is faulty by itself is the bad one.
abbrev pub atom_of_kind : Bool → TokenKind → List ℕ → ℕ
atom_of_kind is_class (TokenKind.Mark m) bytes = mark_atom m
atom_of_kind is_class TokenKind.Name bytes = name_atom is_class bytes
atom_of_kind is_class (TokenKind.Number n) bytes = number_atom
atom_of_kind is_class (TokenKind.Char c) bytes = char_atom
atom_of_kind is_class (TokenKind.Word w) bytes = word_atom
atom_of_kind is_class TokenKind.Text bytes = text_atom
atom_of_kind is_class (TokenKind.Bad b) bytes = bad_atom
atom_of_kind is_class TokenKind.End bytes = end_atom

-- Word of the grammar that a token is.
abbrev pub keyword_of_kind : TokenKind → List ℕ → Option Keyword
keyword_of_kind TokenKind.Name bytes = keyword_of bytes
keyword_of_kind _ bytes = None

-- Tells whether a token has at most 32 bytes, where it is a name.
abbrev pub is_short : TokenKind → List ℕ → Bool
is_short TokenKind.Name bytes = nat_le (length bytes) 32
is_short _ bytes = true
