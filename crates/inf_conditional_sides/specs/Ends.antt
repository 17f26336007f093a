-- The conditionals that are reported where they lack their other end, by the sides that are open there: at the end of a directive those that
-- were opened inside of it, and at the end of a file the others, too, in order of opening. One that was opened in a side that is left out is
-- not reported.
use Rattle.std.specs.Prelude.{◌≡◌, List, [], ◌∷◌, reverse, true, if◌then◌else◌}
use Rattle.inf_unit.specs.Messages.{FileNames, Reported}
use Rattle.inf_conditionals.specs.{Ends.file_told, Ends.piece_told, Ends.with_lone, Open.Conditions}
use Rattle.inf_conditional_sides.specs.{Judged.Agree, Judged.is_settled, Sides.Side, Sides.Sides, Sides.at_end, Sides.only_between}

-- the sides that were opened inside of the directive at hand
abbrev pub inner_only : List Side → List Side
inner_only [] = []
inner_only (x ∷ sides) = if x.is_inner then x ∷ inner_only sides else inner_only sides

-- the report with a message for each of some sides, at the place where its conditional begins
abbrev pub with_lone_sides : FileNames → List Side → Reported → Reported
with_lone_sides files [] r = r
with_lone_sides files (x ∷ sides) r = with_lone_sides files sides (with_lone files x.place r)

abbrev pub piece_told_by : FileNames → Sides → Reported → Reported
piece_told_by files s r = with_lone_sides files (reverse (at_end (inner_only s.sides))) r

abbrev pub file_told_by : FileNames → Sides → Reported → Reported
file_told_by files s r = with_lone_sides files (reverse (only_between (at_end s.sides))) (piece_told_by files s r)

-- Where sides agree with the conditionals, the same are reported by both.
pub record EndsAreToldBySides : Type 0 where
  pub of_directives : (files : FileNames) (c : Conditions) (s : Sides) (r : Reported) → Agree c s
      → piece_told files c r ≡ piece_told_by files s r
  pub of_files : (files : FileNames) (c : Conditions) (s : Sides) (r : Reported) → Agree c s → is_settled c ≡ true
      → file_told files c r ≡ file_told_by files s r
