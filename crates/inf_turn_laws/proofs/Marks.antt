-- A token that has the atom of a mark is that mark.
use Rattle.std.proofs.Common.{◌≡◌, ℕ, zero, suc, ◌+◌, ◌<◌, List, [], ◌∷◌, Bool, refl, sym, ◌∙◌, ap, arith, if◌then◌else◌}
use Rattle.inf_scanner.specs.{declared.tokens.Mark.Mark, declared.tokens.TokenKind.TokenKind}
use Rattle.inf_syntax.specs.{Atoms.mark_atom, Atoms.names, Atoms.place_in, Words.words}
use Rattle.inf_unit.specs.{Atoms.atom_of_kind, Tokens.SourceToken, Tokens.atom_of}
use Rattle.inf_expression_laws.specs.Gathered.{AreSeen, IsSeen}
use Rattle.inf_laws.specs.KeptTokens.{token_in}
use Rattle.inf_language.specs.Texts.{atoms_of, tokens_of}
use Rattle.inf_program.specs.{Turns.grouped, definition.Steps.Ends, definition.Steps.Passes, definition.Steps.Reads, definition.Steps.Step}

-- all marks, each at its atom
marks : List Mark
marks = Mark.Arrow ∷ Mark.LongArrow ∷ Mark.Minus ∷ Mark.Decrement ∷ Mark.Plus ∷ Mark.Increment ∷ Mark.Times ∷ Mark.Divide ∷ Mark.Remainder
    ∷ Mark.BitAnd
    ∷ Mark.LogicalAnd
    ∷ Mark.BitOr
    ∷ Mark.LogicalOr
    ∷ Mark.BitNot
    ∷ Mark.LogicalNot
    ∷ Mark.NotEqual
    ∷ Mark.Assign
    ∷ Mark.Equal
    ∷ Mark.Greater
    ∷ Mark.GreaterOrEqual
    ∷ Mark.Less
    ∷ Mark.LessOrEqual
    ∷ Mark.DoubleLess
    ∷ Mark.DoubleGreater
    ∷ Mark.Comma
    ∷ Mark.Semicolon
    ∷ Mark.Colon
    ∷ Mark.OpenParenthesis
    ∷ Mark.CloseParenthesis
    ∷ Mark.OpenBracket
    ∷ Mark.CloseBracket
    ∷ Mark.OpenBrace
    ∷ Mark.CloseBrace
    ∷ Mark.Dot
    ∷ Mark.DotAnd
    ∷ Mark.DotHash
    ∷ Mark.Hash
    ∷ Mark.DoubleHash
    ∷ Mark.Question
    ∷ Mark.At
    ∷ []

mark_in : List Mark → ℕ → Mark
mark_in [] n = Mark.At
mark_in (m ∷ ms) zero = m
mark_in (m ∷ ms) (suc n) = mark_in ms n

mark_back : (m : Mark) → mark_in marks (mark_atom m) ≡ m
unfolding mark_in marks
mark_back Mark.Arrow = refl
mark_back other = refl

few_marks : (m : Mark) → mark_atom m < 40
few_marks Mark.Arrow = omega arith
few_marks other = omega arith

same_mark : (n m : Mark) → mark_atom n ≡ mark_atom m → n ≡ m
same_mark n m e = sym (mark_back n) ∙ (ap (mark_in marks) e ∙ mark_back m)

other_atom : (m : Mark) (n place : ℕ) → 40 + n + place ≡ mark_atom m → ⊥
other_atom m n place e = omega (arith, e, few_marks m)

literal_atom : (m : Mark) (n : ℕ) → 186 + n ≡ mark_atom m → ⊥
literal_atom m n e = omega (arith, e, few_marks m)

kind_seen : (is_class : Bool) (k : TokenKind) (bytes : List ℕ) (m : Mark) → atom_of_kind is_class k bytes ≡ mark_atom m →
    k ≡ TokenKind.Mark m
kind_seen is_class (TokenKind.Mark n) bytes m e = ap TokenKind.Mark (same_mark n m e)
kind_seen is_class TokenKind.Name bytes m e = absurd (other_atom m (if is_class then names else 0) (place_in bytes words) e)
kind_seen is_class (TokenKind.Number n) bytes m e = absurd (literal_atom m 0 e)
kind_seen is_class (TokenKind.Char c) bytes m e = absurd (literal_atom m 1 e)
kind_seen is_class (TokenKind.Word w) bytes m e = absurd (literal_atom m 2 e)
kind_seen is_class TokenKind.Text bytes m e = absurd (literal_atom m 3 e)
kind_seen is_class (TokenKind.Bad b) bytes m e = absurd (literal_atom m 4 e)
kind_seen is_class TokenKind.End bytes m e = absurd (literal_atom m 5 e)

is_seen : (t : SourceToken) → IsSeen (atom_of t) t
is_seen t m e = kind_seen t.is_class t.kind t.bytes m e

-- the tokens of steps
pub steps_seen : (steps : List Step) → AreSeen (atoms_of (grouped steps).seen) (tokens_of (grouped steps).seen)
steps_seen [] = tt
steps_seen (Reads given ∷ steps) = (is_seen (token_in given), steps_seen steps)
steps_seen (Passes m ∷ steps) = steps_seen steps
steps_seen (Ends m ∷ steps) = steps_seen steps
