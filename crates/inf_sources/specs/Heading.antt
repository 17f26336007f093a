-- The reading of the head of the innermost file.
use Rattle.std.specs.Prelude.{◌≡◌, ℕ, zero, suc, List, Bool}
use Rattle.inf_lexer.specs.{Readers.HeadStaysOpen, declared.head.HeadPlace.HeadPlace}
use Rattle.inf_lexer.specs.Heads.{HeadRead, WholeHead, next_head_word, whole_head}
use Rattle.inf_scanner.specs.declared.lines.Lines.{Lines}
use Rattle.inf_sources.specs.{Cursors.Cursor, Inclusions.Nesting}

-- the next word of a head that goes on at this place
abbrev pub read_head : HeadPlace → Cursor → HeadRead
read_head from c = next_head_word from c.lines c.rest

-- the rest behind a word of a head
abbrev pub behind_head : Cursor → HeadRead → Cursor
behind_head c r = record c { rest = r.rest; lines = r.lines }

-- A word of the head was read, or its end was, and the head goes on at a place.
pub record ReadsHead (is_word : Bool) (place : HeadPlace) (word : List ℕ) (from : HeadPlace) (was now : Nesting) : Type 0 where
  pub tells : is_word ≡ (read_head from was.cursor).is_word
  pub goes_to : place ≡ (read_head from was.cursor).place
  pub spelled : word ≡ (read_head from was.cursor).word
  pub goes_on : now ≡ record was { cursor = behind_head was.cursor (read_head from was.cursor) }

-- The rest of a head that goes on at `from` ends neither its next word nor the head, where the bytes `unread`, and `past` bytes before
-- them, are cut off.
abbrev pub UnfinishedHead : HeadPlace → Cursor → ℕ → List ℕ → Type 0
UnfinishedHead from c past unread = HeadStaysOpen from c.lines c.rest past unread

-- the head of a file that is open at its front
abbrev pub head_in : Cursor → WholeHead
head_in c = whole_head c.lines c.rest

-- the open files with the innermost one behind all of its head
abbrev pub past_head : Nesting → Nesting
past_head n = record n { cursor = record n.cursor { rest = (head_in n.cursor).rest; lines = (head_in n.cursor).lines } }

-- The place where a head goes on, and the rest there.
pub record HeadAt : Type 0 where
  pub place : HeadPlace
  pub lines : Lines
  pub rest : List ℕ

abbrev pub head_at : HeadPlace → Cursor → HeadAt
head_at p c = record { place = p; lines = c.lines; rest = c.rest }

-- the head at the front of a file
abbrev pub head_front : Cursor → HeadAt
head_front c = head_at HeadPlace.Line c

-- the head behind one word more
abbrev pub behind_word : HeadAt → HeadAt
behind_word h =
    let r = next_head_word h.place h.lines h.rest in
    record { place = r.place; lines = r.lines; rest = r.rest }

-- the head behind `n` words more
abbrev pub behind_words : ℕ → HeadAt → HeadAt
behind_words zero h = h
behind_words (suc n) h = behind_words n (behind_word h)

abbrev pub UnfinishedAt : HeadAt → ℕ → List ℕ → Type 0
UnfinishedAt h past unread = HeadStaysOpen h.place h.lines h.rest past unread

-- Behind some words of a head, its rest ends neither the next one nor the head.
pub record StopsInHead (front : HeadAt) (past : ℕ) (unread : List ℕ) : Type 0 where
  pub words : ℕ
  pub not_ended : UnfinishedAt (behind_words words front) past unread
