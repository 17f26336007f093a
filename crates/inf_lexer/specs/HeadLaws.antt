-- The head of a source is no part of its tokens.
use Rattle.std.specs.Prelude.{◌≡◌, ℕ, List}
use Rattle.inf_characters.specs.declared.characters.CharSet.{CharSet}
use Rattle.inf_scanner.specs.{Scanning.begun, Scanning.find, declared.lines.Lines.Lines, declared.scanner.State.State}
use Rattle.inf_lexer.specs.{Heads.next_head_word, Heads.whole_head, declared.head.HeadPlace.HeadPlace}

-- the state of a scanner of tokens at a place of a head: in a comment, but for the front of a line
abbrev pub state_at : HeadPlace → State
state_at HeadPlace.Line = State.Gap
state_at HeadPlace.Return = State.Gap
state_at HeadPlace.Behind = State.Gap
state_at _ = State.Comment

-- Where a word of a head was read, or its end was, the next token is the same as before. So the tokens of a source are those behind
-- its head, since both the head's front and the bytes behind the head are the front of a line.
abbrev pub HeadsHaveNoTokens : Type 0
HeadsHaveNoTokens = (set : CharSet) (limit : ℕ) (p : HeadPlace) (lines : Lines) (bytes : List ℕ) → let r = next_head_word p lines bytes in
    find set limit (state_at r.place) (begun r.lines) r.rest ≡ find set limit (state_at p) (begun lines) bytes

-- The tokens of a source are those behind its head: the next token there is the one at the source's front.
abbrev pub WholeHeadsHaveNoTokens : Type 0
WholeHeadsHaveNoTokens = (set : CharSet) (limit : ℕ) (lines : Lines) (bytes : List ℕ) → let h = whole_head lines bytes in
    find set limit State.Gap (begun h.lines) h.rest ≡ find set limit State.Gap (begun lines) bytes
