-- Atoms: tokens, as far as the grammar looks at them. They are numbered: the marks, the words, another name, each of
-- these names again as that of a class, a number, a character, a word in quotes, a text, a bad token, the end.
use Rattle.std.specs.Prelude.{ℕ, ◌+◌, ◌-◌, ◌*◌, ◌^◌, List, [], ◌∷◌, bit_or, bit_and, nat_lt, slice_get, if◌then◌else◌, Option}
use Rattle.std.specs.Str.{str_eq_ignore_ascii_case}
use Rattle.inf_syntax.specs.{Words.keywords, Words.words, declared.atoms.Token.Token as Seen, declared.words.Keyword.Keyword}
use Rattle.inf_scanner.specs.declared.tokens.Mark.{Mark}

abbrev pub mark_atom : Mark → ℕ
mark_atom Mark.Arrow = 0
mark_atom Mark.LongArrow = 1
mark_atom Mark.Minus = 2
mark_atom Mark.Decrement = 3
mark_atom Mark.Plus = 4
mark_atom Mark.Increment = 5
mark_atom Mark.Times = 6
mark_atom Mark.Divide = 7
mark_atom Mark.Remainder = 8
mark_atom Mark.BitAnd = 9
mark_atom Mark.LogicalAnd = 10
mark_atom Mark.BitOr = 11
mark_atom Mark.LogicalOr = 12
mark_atom Mark.BitNot = 13
mark_atom Mark.LogicalNot = 14
mark_atom Mark.NotEqual = 15
mark_atom Mark.Assign = 16
mark_atom Mark.Equal = 17
mark_atom Mark.Greater = 18
mark_atom Mark.GreaterOrEqual = 19
mark_atom Mark.Less = 20
mark_atom Mark.LessOrEqual = 21
mark_atom Mark.DoubleLess = 22
mark_atom Mark.DoubleGreater = 23
mark_atom Mark.Comma = 24
mark_atom Mark.Semicolon = 25
mark_atom Mark.Colon = 26
mark_atom Mark.OpenParenthesis = 27
mark_atom Mark.CloseParenthesis = 28
mark_atom Mark.OpenBracket = 29
mark_atom Mark.CloseBracket = 30
mark_atom Mark.OpenBrace = 31
mark_atom Mark.CloseBrace = 32
mark_atom Mark.Dot = 33
mark_atom Mark.DotAnd = 34
mark_atom Mark.DotHash = 35
mark_atom Mark.Hash = 36
mark_atom Mark.DoubleHash = 37
mark_atom Mark.Question = 38
mark_atom Mark.At = 39

-- the number of words before a name, in any case: all of them, if it is none
abbrev pub place_in : List ℕ → List (List ℕ) → ℕ
place_in spelling [] = 0
place_in spelling (word ∷ rest) = if str_eq_ignore_ascii_case spelling word then 0 else 1 + place_in spelling rest

abbrev pub first_word : ℕ
first_word = 40

-- the number of names: the words, and another name
abbrev pub names : ℕ
names = 73

abbrev pub first_literal : ℕ
first_literal = 186

-- Definitions of the atom of a token

abbrev pub atom_of : Seen → ℕ
atom_of (Seen.Mark m) = mark_atom m
atom_of (Seen.Name spelling is_class) = first_word + (if is_class then names else 0) + place_in spelling.now words
atom_of Seen.Number = first_literal
atom_of Seen.Char = first_literal + 1
atom_of Seen.Word = first_literal + 2
atom_of Seen.Text = first_literal + 3
atom_of Seen.Bad = first_literal + 4
atom_of Seen.End = first_literal + 5

-- Definitions of words

-- the word of the grammar that a name is, in any case, if it is one
unfoldable pub keyword_of : List ℕ → Option Keyword
keyword_of spelling = slice_get keywords (place_in spelling words)

-- which name an atom is, of a class or not: none of these, if it is no name's
abbrev pub name_at : ℕ → ℕ
name_at atom =
    if nat_lt atom first_word then names else if nat_lt atom (first_word + names) then atom - first_word else atom - (first_word + names)

-- the word that an atom is
unfoldable pub keyword_at : ℕ → Option Keyword
keyword_at atom = slice_get keywords (name_at atom)

-- Definitions of sets of atoms

abbrev pub of_mark : Mark → ℕ
of_mark m = 2 ^ mark_atom m

-- a word, be it the name of a class or not
abbrev pub of_word : List ℕ → ℕ
of_word spelling = let place = first_word + place_in spelling words in 2 ^ place + 2 ^ (place + names)

-- every name, and every name of a class
abbrev pub name : ℕ
name = (2 ^ (2 * names) - 1) * 2 ^ first_word

abbrev pub classname : ℕ
classname = (2 ^ names - 1) * 2 ^ (first_word + names)

abbrev pub number : ℕ
number = 2 ^ first_literal

abbrev pub char : ℕ
char = 2 ^ (first_literal + 1)

abbrev pub word_literal : ℕ
word_literal = 2 ^ (first_literal + 2)

abbrev pub text : ℕ
text = 2 ^ (first_literal + 3)

abbrev pub joined : List ℕ → ℕ
joined [] = 0
joined (set ∷ sets) = bit_or set (joined sets)

-- a set without some others
abbrev pub without : ℕ → List ℕ → ℕ
without set others = set - bit_and set (joined others)
