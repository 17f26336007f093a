-- The tokens that sides keep, and the directives that have no conditional.
use Rattle.std.specs.Prelude.{◌≡◌, ℕ, List, [], ◌∷◌, Bool, true, false, not, Some, None, unwrap_or}
use Rattle.inf_scanner.specs.{declared.tokens.Mark.Mark, declared.tokens.Place.Place}
use Rattle.inf_output.specs.Output.{Out}
use Rattle.inf_unit.specs.Tokens.{SourceToken, is_end, is_mark, keyword}
use Rattle.inf_conditionals.specs.{Condition.Condition, Condition.verdict_of, Words.word_of, declared.words.ConditionalWord.ConditionalWord}
use Rattle.inf_conditional_sides.specs.Sides.{Asked, condition_of, first_stays, sides_behind}
use Rattle.inf_conditional_sides.specs.Sides.{Ends, Kept, Lone, Side, Sides, all_stay, closes, giving, has_any, has_first, step, turned_over, turns}

-- the state in which the sides of a list are open, and no conditional directive is being read
abbrev pub with_sides : List Side → Sides
with_sides sides = record { sides = sides; texts = []; sign = None }

-- Where a side around it is left out, nothing is given of a token, which is not the end of the file (`cut`). Where all sides stay and no
-- conditional directive is being read, a token but a `#` is kept: within a directive (`within`), and at the front of one where it is no word
-- of a conditional (`front`). Of a conditional the second side stays where the first did not (`turned`). A directive that turns or ends a
-- conditional is reported where there is none (`lone_turn`, `lone_end`).
pub record SidesKeepTokens : Type 0 where
  pub cut : (is_between : Bool) (declared : ℕ) (o : Out) (t : SourceToken) (s : Sides) → all_stay s.sides ≡ false → is_end t.kind ≡ false
      → (step is_between declared o t s).given ≡ []
  pub within : (declared : ℕ) (o : Out) (t : SourceToken) (sides : List Side) → all_stay sides ≡ true → is_mark Mark.Hash t.kind ≡ false
      → step false declared o t (with_sides sides) ≡ giving (with_sides sides) (Kept t ∷ [])
  pub front : (declared : ℕ) (o : Out) (t : SourceToken) (sides : List Side) → all_stay sides ≡ true → is_mark Mark.Hash t.kind ≡ false
      → word_of (keyword t) ≡ None → step true declared o t (with_sides sides) ≡ giving (with_sides sides) (Kept t ∷ [])
  pub turned : (x : Side) → x.is_second ≡ false → turned_over x ≡ record x { is_second = true; stays = not x.stays }
  pub lone_turn : (place : Place) (s : Sides) → has_first s.sides ≡ false → turns place s ≡ giving s (Lone place ∷ Ends place ∷ [])
  pub lone_end : (place : Place) (s : Sides) → has_any s.sides ≡ false → closes place s ≡ giving s (Lone place ∷ Ends place ∷ [])

-- The first side of a conditional stays where its name was declared (`ifdef`), or was not (`ifndef`); where its condition is true (`iftrue`), or
-- is not (`iffalse`). In a side that is left out a word of a conditional acts at once: four open a side more, `Ifnot` turns the latest, and
-- `Endif` ends it (`words`); any other token leaves the sides as they are (`others`).
pub record DirectivesChooseSides : Type 0 where
  pub ifdef : (declared : ℕ) (o : Out) (first : SourceToken) (name : Asked) (others : List Asked)
      → first_stays ConditionalWord.Ifdef declared o first (name ∷ others) ≡ name.is_declared
  pub ifndef : (declared : ℕ) (o : Out) (first : SourceToken) (name : Asked) (others : List Asked)
      → first_stays ConditionalWord.Ifndef declared o first (name ∷ others) ≡ not name.is_declared
  pub iftrue : (declared : ℕ) (o : Out) (first : SourceToken) (others : List Asked) (k : Condition) → condition_of first others ≡ Some k
      → first_stays ConditionalWord.Iftrue declared o first others ≡ (verdict_of declared o k).is_true
  pub iffalse : (declared : ℕ) (o : Out) (first : SourceToken) (others : List Asked) (k : Condition) → condition_of first others ≡ Some k
      → first_stays ConditionalWord.Iffalse declared o first others ≡ not (verdict_of declared o k).is_true
  pub words : (is_between : Bool) (declared : ℕ) (o : Out) (t : SourceToken) (w : ConditionalWord) (s : Sides) → all_stay s.sides ≡ false
      → is_end t.kind ≡ false → word_of (keyword t) ≡ Some w
      → (step is_between declared o t s).now.sides ≡ sides_behind w (unwrap_or s.sign t.place) s.sides
  pub others : (is_between : Bool) (declared : ℕ) (o : Out) (t : SourceToken) (s : Sides) → all_stay s.sides ≡ false
      → is_end t.kind ≡ false → word_of (keyword t) ≡ None → (step is_between declared o t s).now.sides ≡ s.sides
