-- The marks of the language (Designer's Manual, fourth edition, sections 1.5 and 3).
use Rattle.std.specs.Prelude.{ℕ, List, [], ◌∷◌, ◌==◌, if◌then◌else◌, Bool, true, false, Option, Some, None}
use Rattle.inf_scanner.specs.declared.tokens.Mark.{Mark}

-- the mark that a single byte is
abbrev pub first_mark : ℕ → Option Mark
first_mark b = if b == 45 then Some Mark.Minus else if b == 43 then Some Mark.Plus else if b == 42 then Some Mark.Times else
    if b == 47 then Some Mark.Divide else if b == 37 then Some Mark.Remainder else if b == 38 then Some Mark.BitAnd else
    if b == 124 then Some Mark.BitOr else if b == 126 then Some Mark.BitNot else if b == 61 then Some Mark.Assign else
    if b == 62 then Some Mark.Greater else if b == 60 then Some Mark.Less else if b == 44 then Some Mark.Comma else
    if b == 59 then Some Mark.Semicolon else if b == 58 then Some Mark.Colon else if b == 40 then Some Mark.OpenParenthesis else
    if b == 41 then Some Mark.CloseParenthesis else if b == 91 then Some Mark.OpenBracket else if b == 93 then Some Mark.CloseBracket else
    if b == 123 then Some Mark.OpenBrace else if b == 125 then Some Mark.CloseBrace else if b == 46 then Some Mark.Dot else
    if b == 35 then Some Mark.Hash else if b == 63 then Some Mark.Question else if b == 64 then Some Mark.At else None

-- the mark that a mark with one more byte is
abbrev pub longer_mark : Mark → ℕ → Option Mark
longer_mark Mark.Minus b = if b == 45 then Some Mark.Decrement else if b == 62 then Some Mark.Arrow else None
longer_mark Mark.Decrement b = if b == 62 then Some Mark.LongArrow else None
longer_mark Mark.Plus b = if b == 43 then Some Mark.Increment else None
longer_mark Mark.BitAnd b = if b == 38 then Some Mark.LogicalAnd else None
longer_mark Mark.BitOr b = if b == 124 then Some Mark.LogicalOr else None
longer_mark Mark.BitNot b = if b == 126 then Some Mark.LogicalNot else if b == 61 then Some Mark.NotEqual else None
longer_mark Mark.Assign b = if b == 61 then Some Mark.Equal else None
longer_mark Mark.Greater b = if b == 61 then Some Mark.GreaterOrEqual else if b == 62 then Some Mark.DoubleGreater else None
longer_mark Mark.Less b = if b == 61 then Some Mark.LessOrEqual else if b == 60 then Some Mark.DoubleLess else None
longer_mark Mark.Dot b = if b == 38 then Some Mark.DotAnd else if b == 35 then Some Mark.DotHash else None
longer_mark Mark.Hash b = if b == 35 then Some Mark.DoubleHash else None
longer_mark _ b = None

-- tells whether a mark with one more byte can be a mark
abbrev pub can_grow : Mark → Bool
can_grow Mark.Minus = true
can_grow Mark.Decrement = true
can_grow Mark.Plus = true
can_grow Mark.BitAnd = true
can_grow Mark.BitOr = true
can_grow Mark.BitNot = true
can_grow Mark.Assign = true
can_grow Mark.Greater = true
can_grow Mark.Less = true
can_grow Mark.Dot = true
can_grow Mark.Hash = true
can_grow _ = false

-- the bytes of each mark
abbrev pub mark_bytes : Mark → List ℕ
mark_bytes Mark.Arrow = 45 ∷ 62 ∷ []
mark_bytes Mark.LongArrow = 45 ∷ 45 ∷ 62 ∷ []
mark_bytes Mark.Minus = 45 ∷ []
mark_bytes Mark.Decrement = 45 ∷ 45 ∷ []
mark_bytes Mark.Plus = 43 ∷ []
mark_bytes Mark.Increment = 43 ∷ 43 ∷ []
mark_bytes Mark.Times = 42 ∷ []
mark_bytes Mark.Divide = 47 ∷ []
mark_bytes Mark.Remainder = 37 ∷ []
mark_bytes Mark.BitAnd = 38 ∷ []
mark_bytes Mark.LogicalAnd = 38 ∷ 38 ∷ []
mark_bytes Mark.BitOr = 124 ∷ []
mark_bytes Mark.LogicalOr = 124 ∷ 124 ∷ []
mark_bytes Mark.BitNot = 126 ∷ []
mark_bytes Mark.LogicalNot = 126 ∷ 126 ∷ []
mark_bytes Mark.NotEqual = 126 ∷ 61 ∷ []
mark_bytes Mark.Assign = 61 ∷ []
mark_bytes Mark.Equal = 61 ∷ 61 ∷ []
mark_bytes Mark.Greater = 62 ∷ []
mark_bytes Mark.GreaterOrEqual = 62 ∷ 61 ∷ []
mark_bytes Mark.DoubleGreater = 62 ∷ 62 ∷ []
mark_bytes Mark.Less = 60 ∷ []
mark_bytes Mark.LessOrEqual = 60 ∷ 61 ∷ []
mark_bytes Mark.DoubleLess = 60 ∷ 60 ∷ []
mark_bytes Mark.Comma = 44 ∷ []
mark_bytes Mark.Semicolon = 59 ∷ []
mark_bytes Mark.Colon = 58 ∷ []
mark_bytes Mark.OpenParenthesis = 40 ∷ []
mark_bytes Mark.CloseParenthesis = 41 ∷ []
mark_bytes Mark.OpenBracket = 91 ∷ []
mark_bytes Mark.CloseBracket = 93 ∷ []
mark_bytes Mark.OpenBrace = 123 ∷ []
mark_bytes Mark.CloseBrace = 125 ∷ []
mark_bytes Mark.Dot = 46 ∷ []
mark_bytes Mark.DotAnd = 46 ∷ 38 ∷ []
mark_bytes Mark.DotHash = 46 ∷ 35 ∷ []
mark_bytes Mark.Hash = 35 ∷ []
mark_bytes Mark.DoubleHash = 35 ∷ 35 ∷ []
mark_bytes Mark.Question = 63 ∷ []
mark_bytes Mark.At = 64 ∷ []
