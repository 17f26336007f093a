-- The tokens that the sides of conditionals keep of a token of a file, and the effects of conditional directives between them, one behind the
-- other.
use Rattle.std.specs.Prelude.{List, [], ◌∷◌, Option, Some, None}
use Rattle.inf_settings.specs.Bounds.{Limits}
use Rattle.inf_scanner.specs.declared.tokens.Place.{Place}
use Rattle.inf_unit.specs.Messages.{FileNames}
use Rattle.inf_conditionals.specs.{Ends.with_lone, Said.Said, Said.with_right, Said.with_said}
use Rattle.inf_conditional_sides.specs.Sides as by_sides
use Rattle.inf_conditional_sides.specs.Sides.{Given as GivenBySides}
use Rattle.inf_laws.specs.KeptTokens.{Given, Kept, Unfit}
use Rattle.inf_statement_laws.specs.{Happenings.Between, Readings.directive_between, Readings.nothing_between}

-- Steps of a reading: a token is handed on; or conditional directives have an effect; or one of them ends, and closes statements ahead.
pub data Step : Type 0 where
  Reads : (given : Given) → Step
  Passes : (effect : Between) → Step
  Ends : (effect : Between) → Step

-- the effect of the message about a condition, and of a directive that has no conditional to turn or to end
abbrev pub said_between : Limits → FileNames → Option Said → Between
said_between limits files said = record nothing_between { report = λ o r. with_said files said r; output = with_right limits said }

abbrev pub lone_between : FileNames → Option Place → Between
lone_between files None = nothing_between
lone_between files (Some place) = record nothing_between { report = λ o r. with_lone files place r }

-- the step by a thing that is given of a token
abbrev pub step_of : Limits → FileNames → GivenBySides → Step
step_of limits files (by_sides.Kept t) = Reads (Kept t)
step_of limits files (by_sides.Unfit t) = Reads (Unfit t)
step_of limits files (by_sides.Lone place) = Passes (lone_between files (Some place))
step_of limits files (by_sides.Ends place) = Ends (directive_between limits files place)

abbrev pub steps_of_all : Limits → FileNames → List GivenBySides → List Step
steps_of_all limits files [] = []
steps_of_all limits files (g ∷ given) = step_of limits files g ∷ steps_of_all limits files given

-- the steps of a token, behind the message about a condition
abbrev pub token_steps : Limits → FileNames → Option Said → List GivenBySides → List Step
token_steps limits files said given = Passes (said_between limits files said) ∷ steps_of_all limits files given

-- all tokens are kept
abbrev pub AllKept : List Step → Type 0
AllKept [] = Unit {0}
AllKept (Reads (Kept t) ∷ steps) = AllKept steps
AllKept (Reads (Unfit t) ∷ steps) = ⊥
AllKept (Passes m ∷ steps) = AllKept steps
AllKept (Ends m ∷ steps) = AllKept steps
