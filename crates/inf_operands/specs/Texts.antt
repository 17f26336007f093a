-- The texts of a unit, and the place that a packed one takes.
use Rattle.std.specs.Prelude.{ℕ, List, slice_get, Option, Some, None}
use Rattle.inf_characters.specs.{declared.characters.CharSet.CharSet, declared.texts.TextItem.TextItem}
use Rattle.inf_unit.specs.{Texts.read_of, Tokens.SourceToken}
use Rattle.inf_output.specs.{Output.Code, Texts.late}

abbrev pub text_by : CharSet → Option SourceToken → Option (List TextItem)
text_by set None = None
text_by set (Some t) = read_of set t

abbrev pub text_at : CharSet → List SourceToken → ℕ → Option (List TextItem)
text_at set tokens at = text_by set (slice_get tokens at)

-- a text was packed, and it is too late now to declare an abbreviation
abbrev pub text_packed : Code
text_packed o = record o { texts = late o.texts }
