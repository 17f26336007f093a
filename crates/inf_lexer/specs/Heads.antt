-- The head of a source: its lines, from the first byte on, that begin with `!%`, and the words of these lines.
use Rattle.std.specs.Prelude.{ℕ, zero, suc, List, [], ◌∷◌, ◌++◌, length, Bool, true, false, ◌||◌, ◌==◌, nat_lt, if◌then◌else◌}
use Rattle.inf_characters.specs.Characters.{is_line_end}
use Rattle.inf_scanner.specs.{Lines.past, declared.lines.Lines.Lines}
use Rattle.inf_lexer.specs.{declared.head.HeadPlace.HeadPlace, declared.head.HeadStep.HeadStep, declared.head.HeadTurn.HeadTurn}

-- words are cut at spaces and tabs
abbrev pub is_cut : ℕ → Bool
is_cut b = b == 32 || b == 9

-- the step of a byte at the front of a line
abbrev pub line_step : ℕ → HeadStep
line_step b = if b == 33 then HeadStep.Pass HeadPlace.Sign else HeadStep.Stop

-- the step of a byte in a line that begins with `!` and is no line of the head
abbrev pub comment_step : ℕ → HeadStep
comment_step b = if is_line_end b then HeadStep.Stop else HeadStep.Pass HeadPlace.Comment

-- the step of a byte behind `!%` or behind a word; a line ends with CR, LF or CR LF
abbrev pub gap_step : ℕ → HeadStep
gap_step b = if is_cut b then HeadStep.Pass HeadPlace.Gap else if b == 13 then HeadStep.Pass HeadPlace.Return else
    if b == 10 then HeadStep.Pass HeadPlace.Line else HeadStep.Keep

-- the step of a byte at a place
abbrev pub head_step : HeadPlace → ℕ → HeadStep
head_step HeadPlace.Line b = line_step b
head_step HeadPlace.Return b = if b == 10 then HeadStep.Pass HeadPlace.Line else line_step b
head_step HeadPlace.Sign b = if b == 37 then HeadStep.Pass HeadPlace.Gap else comment_step b
head_step HeadPlace.Gap b = gap_step b
head_step HeadPlace.Word b = if is_cut b || is_line_end b then HeadStep.Stop else HeadStep.Keep
head_step HeadPlace.Comment b = comment_step b
head_step HeadPlace.Behind b = HeadStep.Stop

-- a word with one byte more, of which 256 are kept
abbrev pub with_head_byte : ℕ → List ℕ → List ℕ
with_head_byte b word = if nat_lt (length word) 256 then word ++ b ∷ [] else word

-- The end of a part of a head: the place, the bytes that are kept of the word, and the lines and the bytes behind it.
pub record HeadFound : Type 0 where
  pub place : HeadPlace
  pub word : List ℕ
  pub lines : Lines
  pub rest : List ℕ

-- the end of a part of a head that goes on with some bytes
abbrev pub head_found : HeadPlace → List ℕ → Lines → List ℕ → HeadFound
head_found p word lines [] = record { place = p; word = word; lines = lines; rest = [] }
head_found p word lines (b ∷ bs) = elim (head_step p b) [
  | HeadStep.Pass next ↦ head_found next word (past b lines) bs
  | HeadStep.Keep ↦ head_found HeadPlace.Word (with_head_byte b word) (past b lines) bs
  | HeadStep.Stop ↦ record { place = p; word = word; lines = lines; rest = b ∷ bs }
]

-- the end of a part of a head, behind bytes whose taking ended with a turn
abbrev pub head_after : HeadTurn → List ℕ → Lines → List ℕ → HeadFound
head_after (HeadTurn.On p) word lines bs = head_found p word lines bs
head_after (HeadTurn.Stopped p) word lines bs = record { place = p; word = word; lines = lines; rest = bs }

abbrev pub is_head_on : HeadTurn → Bool
is_head_on (HeadTurn.On p) = true
is_head_on _ = false

-- the place up to which bytes were taken
abbrev pub turn_place : HeadTurn → HeadPlace
turn_place (HeadTurn.On p) = p
turn_place (HeadTurn.Stopped p) = p

abbrev pub is_behind : HeadPlace → Bool
is_behind HeadPlace.Behind = true
is_behind _ = false

abbrev pub is_word : HeadPlace → Bool
is_word HeadPlace.Word = true
is_word _ = false

-- where the head goes on behind a word; where there was none, it is at its end
abbrev pub place_behind : HeadPlace → HeadPlace
place_behind HeadPlace.Word = HeadPlace.Gap
place_behind _ = HeadPlace.Behind

-- the place where the head goes on, by whether there was a word
abbrev pub goes_on_at : Bool → HeadPlace
goes_on_at is_word = if is_word then HeadPlace.Gap else HeadPlace.Behind

-- The part of a head that a call reads: whether there was a word, where the head goes on, the bytes that are kept of the word, and
-- the lines and the bytes behind it.
pub record HeadRead : Type 0 where
  pub is_word : Bool
  pub place : HeadPlace
  pub word : List ℕ
  pub lines : Lines
  pub rest : List ℕ

abbrev pub head_read_of : HeadFound → HeadRead
head_read_of f = record { is_word = is_word f.place; place = place_behind f.place; word = f.word; lines = f.lines; rest = f.rest }

-- the next word of a head that goes on at a place with some bytes
abbrev pub next_head_word : HeadPlace → Lines → List ℕ → HeadRead
next_head_word p lines bytes = head_read_of (head_found p [] lines bytes)

-- A whole head and the rest behind it: its words, of each at most the first 256 bytes, and the lines and the bytes that come then.
pub record WholeHead : Type 0 where
  pub words : List (List ℕ)
  pub lines : Lines
  pub rest : List ℕ

abbrev pub with_head_word : List ℕ → WholeHead → WholeHead
with_head_word word h = record h { words = word ∷ h.words }

-- the part of a head that goes on at a place, up to `n` words, read one after another
abbrev pub head_within : ℕ → HeadPlace → Lines → List ℕ → WholeHead
head_within zero p lines bytes = record { words = []; lines = lines; rest = bytes }
head_within (suc n) p lines bytes =
    let r = next_head_word p lines bytes in
    if r.is_word then with_head_word r.word (head_within n r.place r.lines r.rest)
    else record { words = []; lines = r.lines; rest = r.rest }

-- the whole head of a source that has these bytes from this line on: each of its words has a byte at least
abbrev pub whole_head : Lines → List ℕ → WholeHead
whole_head lines bytes = head_within (suc (length bytes)) HeadPlace.Line lines bytes
