-- Lines of verbs (Inform Technical Manual, section 8.5).
use Rattle.std.specs.Prelude.{ℕ, ◌+◌, ◌*◌, ◌%◌, List, [], ◌∷◌, ◌++◌, Bool, length, if◌then◌else◌}
use Rattle.inf_area.specs.{declared.cells.Cell.Cell, declared.targets.Target.Target, declared.targets.Value.Value}
use Rattle.inf_area.specs.{Cells.value_cells, Cells.word_cells, Sums.sum_of}
use Rattle.inf_verbs.specs.{declared.lines.LineToken.LineToken, declared.lines.Noun.Noun}

-- a line: the action that it means, whether its nouns change places, and its tokens
pub record LineOf : Type 0 where
  pub action : ℕ
  pub is_reverse : Bool
  pub tokens : List LineToken

abbrev pub noun_number : Noun → ℕ
noun_number Noun.Noun = 0
noun_number Noun.Held = 1
noun_number Noun.Multi = 2
noun_number Noun.MultiHeld = 3
noun_number Noun.MultiExcept = 4
noun_number Noun.MultiInside = 5
noun_number Noun.Creature = 6
noun_number Noun.Special = 7
noun_number Noun.Number = 8
noun_number Noun.Topic = 9

-- the type of a token; a preposition has $10 where another one comes before it in its list, $20 where another follows
abbrev pub token_type : LineToken → ℕ
token_type (LineToken.Noun n) = 1
token_type (LineToken.Preposition text is_first is_last) = 2 + (if is_first then 0 else 16) + (if is_last then 0 else 32)
token_type (LineToken.Filter n) = 3
token_type (LineToken.Attribute n) = 4
token_type (LineToken.Scope n) = 5
token_type (LineToken.Routine n) = 6

abbrev pub token_value : LineToken → Value
token_value (LineToken.Noun n) = Value.Known (noun_number n)
token_value (LineToken.Preposition text is_first is_last) = Value.Later (Target.Word text)
token_value (LineToken.Filter n) = Value.Known n
token_value (LineToken.Attribute n) = Value.Known n
token_value (LineToken.Scope n) = Value.Known n
token_value (LineToken.Routine n) = Value.Known n

abbrev pub is_preposition : LineToken → ℕ
is_preposition (LineToken.Noun n) = 0
is_preposition (LineToken.Preposition text is_first is_last) = 1
is_preposition (LineToken.Filter n) = 0
is_preposition (LineToken.Attribute n) = 0
is_preposition (LineToken.Scope n) = 0
is_preposition (LineToken.Routine n) = 0

-- the number of tokens that are prepositions
abbrev pub prepositions : List LineToken → ℕ
prepositions tokens = sum_of is_preposition tokens

-- A line as it is written: its action, with $400 where its nouns change places, its tokens, 15.
abbrev pub action_word : LineOf → ℕ
action_word line = if line.is_reverse then (line.action + 1024) % 65536 else line.action

abbrev pub tokens_cells : List LineToken → List Cell
tokens_cells [] = []
tokens_cells (t ∷ tokens) = (Cell.Byte (token_type t) ∷ value_cells (token_value t)) ++ tokens_cells tokens

abbrev pub line_cells : LineOf → List Cell
line_cells line = word_cells (action_word line) ++ tokens_cells line.tokens ++ Cell.Byte 15 ∷ []

abbrev pub lines_cells : List LineOf → List Cell
lines_cells [] = []
lines_cells (line ∷ lines) = line_cells line ++ lines_cells lines

-- the number of bytes of a line: the action, three for each token, 15
abbrev pub line_size : LineOf → ℕ
line_size line = 3 + 3 * length line.tokens

abbrev pub lines_size : List LineOf → ℕ
lines_size lines = sum_of line_size lines

abbrev pub lines_prepositions : List LineOf → ℕ
lines_prepositions lines = sum_of (λ line. prepositions line.tokens) lines
