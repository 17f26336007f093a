-- The report of a compilation: the lines that it writes, and its counts.
use Rattle.std.specs.Prelude.{ℕ, ◌+◌, List, [], ◌++◌, codes, decimal, Bool, true, false, not, ◌||◌, ◌==◌, if◌then◌else◌}
use Rattle.inf_report.specs.{OwnWords.Words, OwnWords.shown, declared.messages.Kind.Kind}
use Rattle.inf_report.specs.Messages.{Location, Message, TooManyErrors, line_of}

-- The numbers of errors and warnings that were reported, whether a fatal error has ended the report, and whether warnings are reported at
-- all.
pub record Counts : Type 0 where
  pub errors : ℕ
  pub warnings : ℕ
  pub is_over : Bool
  pub has_warnings : Bool

-- the counts before the first message
abbrev pub no_counts : Bool → Counts
no_counts has_warnings = record { errors = 0; warnings = 0; is_over = false; has_warnings = has_warnings }

-- the most errors: the hundredth is the last
abbrev pub most_errors : ℕ
most_errors = 100

-- Tells whether the next error is the last.
abbrev pub is_last : Counts → Bool
is_last c = c.errors + 1 == most_errors

-- the lines of an error at a place, in a unit that begins at another or the same: the last error is followed by a fatal one there
abbrev pub error_lines : Location → Location → Message → Counts → List ℕ
error_lines at unit m c = if c.is_over then [] else
    if is_last c then line_of Kind.Error at m ++ line_of Kind.Fatal unit TooManyErrors else line_of Kind.Error at m

abbrev pub with_error : Counts → Counts
with_error c = if c.is_over then c else record c { errors = c.errors + 1; is_over = is_last c }

-- the number at which the count of warnings stops
abbrev pub most_warnings : ℕ
most_warnings = 18446744073709551615

abbrev pub one_warning_more : ℕ → ℕ
one_warning_more n = if n == most_warnings then most_warnings else n + 1

-- the line of a warning: where none are wanted it is not counted
abbrev pub warning_lines : Location → Message → Counts → List ℕ
warning_lines at m c = if c.is_over || not c.has_warnings then [] else line_of Kind.Warning at m

abbrev pub with_warning : Counts → Counts
with_warning c = if c.is_over || not c.has_warnings then c else record c { warnings = one_warning_more c.warnings }

-- the line of a fatal error, which ends the report
abbrev pub fatal_lines : Location → Message → Counts → List ℕ
fatal_lines at m c = if c.is_over then [] else line_of Kind.Fatal at m

abbrev pub with_fatal : Counts → Counts
with_fatal c = if c.is_over then c else record c { is_over = true }

-- a line of the source's own words alone
abbrev pub plain_lines : Words → Counts → List ℕ
plain_lines words c = if c.is_over then [] else shown words ++ codes "\n"

-- a line of the statistics
abbrev pub statistic_lines : List ℕ → ℕ → Counts → List ℕ
statistic_lines word n c = if c.is_over then [] else word ++ codes ": " ++ decimal n ++ codes "\n"

-- the end of the last line: with an error no story is written
abbrev pub ending : ℕ → List ℕ
ending errors = if errors == 0 then codes "\n" else codes " (no output)\n"

abbrev pub closing : ℕ → ℕ → List ℕ
closing errors warnings = codes "Errors: " ++ decimal errors ++ codes ", warnings: " ++ decimal warnings ++ ending errors

-- the last line
abbrev pub closing_lines : Counts → List ℕ
closing_lines c = if c.is_over then [] else closing c.errors c.warnings
