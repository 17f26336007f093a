-- Tokens byte by byte, over all bytes that are left of a source (Designer's Manual, fourth edition, sections 1.1 to 1.4).
use Rattle.std.specs.Prelude.{ℕ, ◌<◌, List, [], ◌∷◌, length, Bool, true, false, not, ◌&&◌, ◌||◌, ◌==◌, nat_le, if◌then◌else◌, Option, Some}
use Rattle.std.specs.Prelude.{None}
use Rattle.inf_characters.specs.{Characters.is_line_end, Characters.is_white, declared.characters.CharSet.CharSet}
use Rattle.inf_scanner.specs.{Kept.Kept, Kept.nothing_kept, Kept.with_byte, Lines.past, Marks.can_grow, Marks.first_mark, Marks.longer_mark}
use Rattle.inf_scanner.specs.{declared.lines.Lines.Lines, declared.scanner.ByteStep.ByteStep, declared.scanner.Ending.Ending}
use Rattle.inf_scanner.specs.{declared.scanner.State.State, declared.scanner.Turn.Turn}
use Rattle.inf_scanner.specs.declared.scanner.Seen as code

abbrev pub is_digit : ℕ → Bool
is_digit b = nat_le 48 b && nat_le b 57

abbrev pub is_letter : ℕ → Bool
is_letter b = (nat_le 65 b && nat_le b 90) || (nat_le 97 b && nat_le b 122)

-- tells whether a byte may be in a name or a number: letters, digits, `_` and `$`
abbrev pub is_run_byte : ℕ → Bool
is_run_byte b = (is_letter b || is_digit b) || b == 95 || b == 36

abbrev pub begins_number : ℕ → Bool
begins_number b = is_digit b || b == 36

-- The part of a token that was seen: the line of its first byte, its bytes, and the lines behind them.
pub record Sight : Type 0 where
  pub first : ℕ
  pub kept : Kept
  pub lines : Lines

-- the state where no byte of a token was seen yet
abbrev pub begun : Lines → Sight
begun lines = record { first = lines.line; kept = nothing_kept; lines = lines }

-- the step of the first byte of a token, or of a byte before it
abbrev pub begin : CharSet → ℕ → ByteStep
begin set b = if is_white set b then ByteStep.Skip State.Gap else if is_run_byte b then ByteStep.Keep (State.Run (begins_number b)) else
    if b == 33 then ByteStep.Skip State.Comment else if b == 34 then ByteStep.Skip State.Text else
    if b == 39 then ByteStep.Skip (State.Quote false) else
    elim (first_mark b) [ Some m ↦ ByteStep.Keep (State.Mark m) | None ↦ ByteStep.Close Ending.Unfit ]

-- the step that a byte makes in a state
abbrev pub step_of : CharSet → State → ℕ → ByteStep
step_of set State.Gap b = begin set b
step_of set State.Comment b = ByteStep.Skip (if is_line_end b then State.Gap else State.Comment)
step_of set (State.Run is_number) b =
    if is_run_byte b then ByteStep.Keep (State.Run (is_number || b == 36)) else ByteStep.Behind (Ending.Run is_number)
step_of set (State.Mark m) b =
    elim (longer_mark m b) [ Some longer ↦ ByteStep.Keep (State.Mark longer) | None ↦ ByteStep.Behind (Ending.Mark m) ]
step_of set State.Text b = if b == 34 then ByteStep.Close Ending.Text else ByteStep.Keep State.Text
step_of set (State.Quote after_at) b = if is_line_end b then ByteStep.Behind Ending.Unclosed else
    if b == 39 && not after_at then ByteStep.Close Ending.Quote else ByteStep.Keep (State.Quote (b == 64))

-- the ending of a token at the end of the source
abbrev pub at_end : State → Ending
at_end State.Gap = Ending.End
at_end State.Comment = Ending.End
at_end (State.Run is_number) = Ending.Run is_number
at_end (State.Mark m) = Ending.Mark m
at_end State.Text = Ending.Unclosed
at_end (State.Quote after_at) = Ending.Unclosed

-- tells whether a byte that comes may still be of the token: in every state but at a mark that is the front of no other
abbrev pub goes_on : State → Bool
goes_on (State.Mark m) = can_grow m
goes_on _ = true

-- the ending of the token at once, where no byte can go on with it
abbrev pub ended_at : State → Option Ending
ended_at (State.Mark m) = if can_grow m then None else Some (Ending.Mark m)
ended_at _ = None

-- the number of bytes that are kept: the limit for a quoted token, and 32 for every other
abbrev pub most : ℕ → State → ℕ
most limit State.Text = limit
most limit (State.Quote after_at) = limit
most limit _ = 32

-- the number of bytes of the token that are kept at a step that keeps a byte
abbrev pub most_behind : ℕ → ByteStep → ℕ
most_behind limit (ByteStep.Keep s) = most limit s
most_behind limit _ = 0

-- tells whether a token began with a quote
abbrev pub is_quoted : Ending → Bool
is_quoted Ending.Text = true
is_quoted Ending.Quote = true
is_quoted Ending.Unclosed = true
is_quoted _ = false

abbrev pub is_gap : State → Bool
is_gap State.Gap = true
is_gap State.Comment = true
is_gap _ = false

-- before a token its first byte is on the line at hand
abbrev pub marked : State → Sight → Sight
marked s seen = record { first = if is_gap s then seen.lines.line else seen.first; kept = seen.kept; lines = seen.lines }

abbrev pub passed : ℕ → Sight → Sight
passed b seen = record { first = seen.first; kept = seen.kept; lines = past b seen.lines }

abbrev pub kept : ℕ → ℕ → Sight → Sight
kept most b seen = record { first = seen.first; kept = with_byte most b seen.kept; lines = past b seen.lines }

-- the outcome of a step
abbrev pub turn_by : ℕ → ByteStep → ℕ → Sight → Turn × Sight
turn_by limit (ByteStep.Skip s) b seen = (Turn.On s, passed b seen)
turn_by limit (ByteStep.Keep s) b seen = (Turn.On s, kept (most limit s) b seen)
turn_by limit (ByteStep.Close e) b seen = (Turn.Last e, passed b seen)
turn_by limit (ByteStep.Behind e) b seen = (Turn.Behind e, seen)

-- tells whether a byte was left behind the token
abbrev pub is_behind : Turn → Bool
is_behind (Turn.Behind e) = true
is_behind _ = false

-- the outcome of a byte
abbrev pub turn : CharSet → ℕ → State → ℕ → Sight → Turn × Sight
turn set limit s b seen = turn_by limit (step_of set s b) b (marked s seen)

-- A token: its ending, the part that was seen of it, and the bytes that are left behind it.
pub record Found : Type 0 where
  pub ending : Ending
  pub seen : Sight
  pub rest : List ℕ

-- the token that goes on with these bytes
abbrev pub find : CharSet → ℕ → State → Sight → List ℕ → Found
find set limit s seen [] = record { ending = at_end s; seen = marked s seen; rest = [] }
find set limit s seen (b ∷ bs) =
    let t = turn set limit s b seen in
    elim t.0 [
      | Turn.On next ↦ find set limit next t.1 bs
      | Turn.Last e ↦ record { ending = e; seen = t.1; rest = bs }
      | Turn.Behind e ↦ record { ending = e; seen = t.1; rest = b ∷ bs }
    ]

-- Bytes that may come next, of which the token takes at least one.
pub record TakesMore (set : CharSet) (limit : ℕ) (s : State) (seen : Sight) : Type 0 where
  pub more : List ℕ
  pub takes : length (find set limit s seen more).rest < length more

-- the token that is found behind a byte with this outcome
abbrev pub found_after : CharSet → ℕ → Turn → Sight → List ℕ → Found
found_after set limit (Turn.On next) seen bs = find set limit next seen bs
found_after set limit (Turn.Last e) seen bs = record { ending = e; seen = seen; rest = bs }
found_after set limit (Turn.Behind e) seen bs = record { ending = e; seen = seen; rest = bs }

-- tells whether the token goes on
abbrev pub is_on : Turn → Bool
is_on (Turn.On _) = true
is_on _ = false

-- tells whether a byte that comes can go on with the token, if the token goes on
abbrev pub is_open : Turn → Bool
is_open (Turn.On s) = goes_on s
is_open _ = true

abbrev pub sight : code.Seen → Sight
sight s = record { first = s.first; kept = s.spelling; lines = s.lines }
