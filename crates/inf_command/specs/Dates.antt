-- The date of a story.
use Rattle.std.specs.Prelude.{ℕ, ◌+◌, ◌/◌, ◌%◌, List, [], ◌∷◌, ◌++◌, unsigned_abs, pos}
use Rattle.std.specs.Int.{int_rem_euclid}
use Rattle.jiff_core.specs.declared.civil.date.Date.{Date}

-- a number below 100 as two ASCII digits
abbrev pub two_digits : ℕ → List ℕ
two_digits n = (48 + n / 10) ∷ (48 + n % 10) ∷ []

-- the year's place in its century, 0 to 99, also for a year before 0
abbrev pub year_of_century : Date → ℕ
year_of_century date = unsigned_abs (int_rem_euclid date.year (pos 100))

-- the six digits of a date: year of the century, month and day
abbrev pub serial_of : Date → List ℕ
serial_of date = two_digits (year_of_century date) ++ two_digits date.month ++ two_digits date.day
