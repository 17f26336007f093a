-- A token leaves no more bytes than there were; and where a byte of it may still come, there are bytes of which it takes one.
use Rattle.std.proofs.Common.{◌≡◌, ℕ, ◌≤◌, List, [], ◌∷◌, length, true, arith}
use Rattle.inf_characters.specs.declared.characters.CharSet.{CharSet}
use Rattle.inf_scanner.specs.{Marks.can_grow, declared.scanner.State.State, declared.scanner.Turn.Turn, declared.tokens.Mark.Mark}
use Rattle.inf_scanner.specs.Scanning.{Sight, TakesMore, find, goes_on, turn}
use Rattle.inf_scanner.proofs.Taking.{after_turn}

mark_takes : (set : CharSet) (limit : ℕ) (m : Mark) (seen : Sight) → can_grow m ≡ true → TakesMore set limit (State.Mark m) seen
mark_takes set limit Mark.Arrow seen h = cc
mark_takes set limit Mark.LongArrow seen h = cc
mark_takes set limit Mark.Minus seen h = record { more = 45 ∷ []; takes = omega arith }
mark_takes set limit Mark.Decrement seen h = record { more = 62 ∷ []; takes = omega arith }
mark_takes set limit Mark.Plus seen h = record { more = 43 ∷ []; takes = omega arith }
mark_takes set limit Mark.Increment seen h = cc
mark_takes set limit Mark.Times seen h = cc
mark_takes set limit Mark.Divide seen h = cc
mark_takes set limit Mark.Remainder seen h = cc
mark_takes set limit Mark.BitAnd seen h = record { more = 38 ∷ []; takes = omega arith }
mark_takes set limit Mark.LogicalAnd seen h = cc
mark_takes set limit Mark.BitOr seen h = record { more = 124 ∷ []; takes = omega arith }
mark_takes set limit Mark.LogicalOr seen h = cc
mark_takes set limit Mark.BitNot seen h = record { more = 126 ∷ []; takes = omega arith }
mark_takes set limit Mark.LogicalNot seen h = cc
mark_takes set limit Mark.NotEqual seen h = cc
mark_takes set limit Mark.Assign seen h = record { more = 61 ∷ []; takes = omega arith }
mark_takes set limit Mark.Equal seen h = cc
mark_takes set limit Mark.Greater seen h = record { more = 61 ∷ []; takes = omega arith }
mark_takes set limit Mark.GreaterOrEqual seen h = cc
mark_takes set limit Mark.Less seen h = record { more = 61 ∷ []; takes = omega arith }
mark_takes set limit Mark.LessOrEqual seen h = cc
mark_takes set limit Mark.DoubleLess seen h = cc
mark_takes set limit Mark.DoubleGreater seen h = cc
mark_takes set limit Mark.Comma seen h = cc
mark_takes set limit Mark.Semicolon seen h = cc
mark_takes set limit Mark.Colon seen h = cc
mark_takes set limit Mark.OpenParenthesis seen h = cc
mark_takes set limit Mark.CloseParenthesis seen h = cc
mark_takes set limit Mark.OpenBracket seen h = cc
mark_takes set limit Mark.CloseBracket seen h = cc
mark_takes set limit Mark.OpenBrace seen h = cc
mark_takes set limit Mark.CloseBrace seen h = cc
mark_takes set limit Mark.Dot seen h = record { more = 38 ∷ []; takes = omega arith }
mark_takes set limit Mark.DotAnd seen h = cc
mark_takes set limit Mark.DotHash seen h = cc
mark_takes set limit Mark.Hash seen h = record { more = 35 ∷ []; takes = omega arith }
mark_takes set limit Mark.DoubleHash seen h = cc
mark_takes set limit Mark.Question seen h = cc
mark_takes set limit Mark.At seen h = cc

-- a token takes a first byte
gap_takes : (set : CharSet) (limit : ℕ) (seen : Sight) → TakesMore set limit State.Gap seen
gap_takes CharSet.Ascii limit seen = record { more = 59 ∷ []; takes = omega arith }
gap_takes CharSet.Latin1 limit seen = record { more = 59 ∷ []; takes = omega arith }

pub takes_more : (set : CharSet) (limit : ℕ) (s : State) (seen : Sight) → goes_on s ≡ true → TakesMore set limit s seen
takes_more set limit State.Gap seen h = gap_takes set limit seen
takes_more set limit State.Comment seen h = record { more = 59 ∷ []; takes = omega arith }
takes_more set limit (State.Run is_number) seen h = record { more = 65 ∷ []; takes = omega arith }
takes_more set limit (State.Mark m) seen h = mark_takes set limit m seen h
takes_more set limit State.Text seen h = record { more = 65 ∷ []; takes = omega arith }
takes_more set limit (State.Quote after_at) seen h = record { more = 65 ∷ []; takes = omega arith }

after_within : (set : CharSet) (limit : ℕ) (t : Turn) (seen : Sight) (b : ℕ) (bs : List ℕ) →
    ((next : State) → length (find set limit next seen bs).rest ≤ length bs)
    → length (after_turn set limit (t, seen) b bs).rest ≤ length (b ∷ bs)
after_within set limit (Turn.On next) seen b bs h = omega (arith, h next)
after_within set limit (Turn.Last e) seen b bs h = omega arith
after_within set limit (Turn.Behind e) seen b bs h = omega arith

pub rest_within : (set : CharSet) (limit : ℕ) (s : State) (seen : Sight) (bs : List ℕ) → length (find set limit s seen bs).rest ≤ length bs
rest_within set limit s seen [] = omega arith
rest_within set limit s seen (b ∷ bs) =
    let t = turn set limit s b seen in after_within set limit t.0 t.1 b bs (λ next. rest_within set limit next t.1 bs)
