-- Names as a source spells them.
use Rattle.std.specs.Prelude.{ℕ, List}
use Rattle.inf_scanner.specs.declared.tokens.Place.{Place}
use Rattle.inf_names.specs.declared.spellings.Name as code

-- A name as a source spells it, and its place.
pub record Name : Type 0 where
  pub bytes : List ℕ
  pub place : Place

abbrev pub as_name : code.Name → Name
as_name n = record { bytes = n.spelling.items; place = n.place }
