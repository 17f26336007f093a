-- The spelling of a whole source: gaps and tokens, each with its bytes, which joined are the source.
use Rattle.std.specs.Prelude.{◌≡◌, ℕ, ◌+◌, ◌<◌, ◌⊎◌, List, [], ◌∷◌, ◌++◌, length, take, Bool, true, false, not, ◌&&◌, ◌||◌, ◌==◌, nat_lt}
use Rattle.std.specs.Prelude.{if◌then◌else◌, None}
use Rattle.std.specs.List.{list_all}
use Rattle.inf_characters.specs.{Characters.is_line_end, Characters.is_white, declared.characters.CharSet.CharSet}
use Rattle.inf_scanner.specs.{Kept.Kept, Kinds.kind_of, Lines.first_line, Lines.past, Marks.longer_mark, Marks.mark_bytes}
use Rattle.inf_scanner.specs.{Scanning.is_run_byte, Tokens.Read, Tokens.next_token, declared.lines.Lines.Lines}
use Rattle.inf_scanner.specs.{declared.scanner.Ending.Ending}

-- tells whether there is a first byte that passes a test
abbrev pub begins_with : (ℕ → Bool) → List ℕ → Bool
begins_with test [] = false
begins_with test (b ∷ bs) = test b

abbrev pub is_nothing : List ℕ → Bool
is_nothing [] = true
is_nothing (b ∷ bs) = false

-- Tells whether bytes are white space and whole comments, in front of other bytes. A comment goes from its exclamation mark to the end
-- of the line, or to the end of the source, where no byte is behind it.
abbrev pub are_gaps : CharSet → Bool → List ℕ → List ℕ → Bool
are_gaps set in_comment [] behind = not in_comment || is_nothing behind
are_gaps set true (b ∷ bs) behind = are_gaps set (not (is_line_end b)) bs behind
are_gaps set false (b ∷ bs) behind = if b == 33 then are_gaps set true bs behind else is_white set b && are_gaps set false bs behind

-- tells whether a byte begins a gap
abbrev pub begins_gap : CharSet → ℕ → Bool
begins_gap set b = is_white set b || b == 33

-- Tells whether bytes may be in a quote, where the byte before them may be a `@`: none ends a line, and a single quote comes only right
-- behind a `@`.
abbrev pub is_in_quote : Bool → List ℕ → Bool
is_in_quote after_at [] = true
is_in_quote after_at (b ∷ bs) = (not (is_line_end b) && not (b == 39 && not after_at)) && is_in_quote (b == 64) bs

-- tells whether the last byte is a `@`
abbrev pub ends_at : Bool → List ℕ → Bool
ends_at after_at [] = after_at
ends_at after_at (b ∷ bs) = ends_at (b == 64) bs

-- no mark is this one and the byte behind it
abbrev pub no_longer : List ℕ → Ending → Type 0
no_longer [] e = Unit {0}
no_longer (b ∷ behind) (Ending.Mark m) = longer_mark m b ≡ None
no_longer (b ∷ behind) e = Unit {0}

-- The span of a token with these bytes, in front of other bytes: a run or a mark is as long as it can be; a text or a quote has
-- its quotes besides, and one that is not closed goes to the end of the source, or of the line.
abbrev pub Spans : CharSet → Ending → List ℕ → List ℕ → List ℕ → Type 0
Spans set (Ending.Run n) bytes span behind =
    (span ≡ bytes) × (0 < length bytes) × (list_all is_run_byte bytes ≡ true) × (begins_with is_run_byte behind ≡ false)
Spans set (Ending.Mark m) bytes span behind = (span ≡ bytes) × (bytes ≡ mark_bytes m) × no_longer behind (Ending.Mark m)
Spans set Ending.Text bytes span behind = (span ≡ 34 ∷ (bytes ++ 34 ∷ [])) × (list_all (λ b. not (b == 34)) bytes ≡ true)
Spans set Ending.Quote bytes span behind =
    (span ≡ 39 ∷ (bytes ++ 39 ∷ [])) × (is_in_quote false bytes ≡ true) × (ends_at false bytes ≡ false)
Spans set Ending.Unclosed bytes span behind = ((span ≡ 34 ∷ bytes) × (list_all (λ b. not (b == 34)) bytes ≡ true) × (behind ≡ []))
    ⊎ ((span ≡ 39 ∷ bytes) × (is_in_quote false bytes ≡ true) × (is_nothing behind || begins_with is_line_end behind ≡ true))
Spans set Ending.Unfit bytes span behind = (length span ≡ 1) × (bytes ≡ [])
Spans set Ending.End bytes span behind = (span ≡ []) × (bytes ≡ []) × (behind ≡ [])

-- the number of bytes that are kept of a token
abbrev pub most_of : ℕ → Ending → ℕ
most_of limit Ending.Text = limit
most_of limit Ending.Quote = limit
most_of limit Ending.Unclosed = limit
most_of limit _ = 32

-- the bytes that are kept of a token, at most `most`, and whether it has more
abbrev pub kept_of : ℕ → List ℕ → Kept
kept_of most bytes = record { bytes = take most bytes; is_cut = nat_lt most (length bytes) }

-- the lines behind these bytes
abbrev pub past_all : List ℕ → Lines → Lines
past_all [] lines = lines
past_all (b ∷ bs) lines = past_all bs (past b lines)

-- the number of lines that end in these bytes: at each carriage return, and at each line feed that is not right behind one
abbrev pub lines_ended : Bool → List ℕ → ℕ
lines_ended after_return [] = 0
lines_ended after_return (b ∷ bs) = (if b == 13 || (b == 10 && not after_return) then 1 else 0) + lines_ended (b == 13) bs

-- A token with the gap before it and its span.
pub record Piece : Type 0 where
  pub gap : List ℕ
  pub span : List ℕ
  pub read : Read

-- The token at the front of these bytes, which begin on this line, with its gap, its span, its bytes and its lines.
pub record IsSpelled (set : CharSet) (limit : ℕ) (lines : Lines) (rest : List ℕ) (p : Piece) : Type 0 where
  pub ending : Ending
  pub bytes : List ℕ
  pub is_read : p.read ≡ next_token set limit lines rest
  pub is_told : p.read.kind ≡ kind_of set ending p.read.kept
  pub whole : rest ≡ p.gap ++ (p.span ++ p.read.rest)
  pub gap_fits : are_gaps set false p.gap (p.span ++ p.read.rest) ≡ true
  pub span_fits : Spans set ending bytes p.span p.read.rest
  pub keeps : p.read.kept ≡ kept_of (most_of limit ending) bytes
  pub begins : p.read.line ≡ (past_all p.gap lines).line
  pub passes : p.read.lines ≡ past_all p.span (past_all p.gap lines)
  pub stops : begins_with (begins_gap set) (p.span ++ p.read.rest) ≡ false
  pub is_more : 0 < length rest

-- pieces, one behind the other, up to the end of the bytes
abbrev pub AreSpelled : CharSet → ℕ → Lines → List ℕ → List Piece → Type 0
AreSpelled set limit lines rest [] = rest ≡ []
AreSpelled set limit lines rest (p ∷ pieces) = IsSpelled set limit lines rest p × AreSpelled set limit p.read.lines p.read.rest pieces

abbrev pub joined : List Piece → List ℕ
joined [] = []
joined (p ∷ pieces) = p.gap ++ (p.span ++ joined pieces)

-- A source is its gaps and the spans of the tokens that are read one after another, in one way: each byte is in one of them, once.
pub record IsSpelledOnce (set : CharSet) (limit : ℕ) (source : List ℕ) : Type 0 where
  pub pieces : List Piece
  pub whole : joined pieces ≡ source
  pub in_order : AreSpelled set limit first_line source pieces
  pub no_other : (others : List Piece) → AreSpelled set limit first_line source others → others ≡ pieces

abbrev pub SourcesAreSpelledOnce : Type 0
SourcesAreSpelledOnce = (set : CharSet) (limit : ℕ) (source : List ℕ) → IsSpelledOnce set limit source

-- the line of a byte is one more than the number of lines that end before it
abbrev pub LinesAreCounted : Type 0
LinesAreCounted = (bytes : List ℕ) → (past_all bytes first_line).line ≡ 1 + lines_ended false bytes
