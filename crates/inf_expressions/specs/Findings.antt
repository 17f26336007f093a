-- The findings of a unit. The least is reported: by the order of its token, then by the number of its error.
use Rattle.std.specs.Prelude.{ℕ, nat_lt, ◌==◌, Bool, ◌&&◌, ◌||◌, Option, Some, None, if◌then◌else◌}
use Rattle.inf_expressions.specs.{declared.findings.Finding.Finding, declared.findings.UnitError.UnitError}

-- the number of an error in the table of messages
unfoldable pub error_number : UnitError → ℕ
error_number UnitError.NumberOutOfRange = 4
error_number UnitError.UnknownEscape = 5
error_number UnitError.NoZscii = 7
error_number UnitError.Declared = 8
error_number UnitError.WrongKind = 9
error_number UnitError.UsedBefore = 11
error_number UnitError.NotConstant = 12
error_number UnitError.ConstantOutOfRange = 13
error_number UnitError.TooManyArguments = 14
error_number UnitError.WrongOpcode = 15
error_number UnitError.LabelTwice = 16
error_number UnitError.NothingToLeave = 17
error_number UnitError.TooMany = 19
error_number UnitError.MisplacedSwitches = 20
error_number UnitError.WrongAbbreviation = 21
error_number UnitError.WrongVerb = 22
error_number UnitError.MisplacedDefault = 24

abbrev pub is_before : Finding → Finding → Bool
is_before a b = nat_lt a.order b.order || (a.order == b.order) && nat_lt (error_number a.error) (error_number b.error)

abbrev pub least : Option Finding → Finding → Option Finding
least None finding = Some finding
least (Some old) finding = if is_before finding old then Some finding else Some old

abbrev pub least_of_both : Option Finding → Option Finding → Option Finding
least_of_both found None = found
least_of_both found (Some finding) = least found finding

-- the token names something that is not allowed there
abbrev pub wrong_kind : ℕ → Finding
wrong_kind order = record { order = order; error = UnitError.WrongKind }

-- there is no constant where one is needed, which is told at the first token of the unit, as the two errors below are
abbrev pub no_constant : ℕ → Finding
no_constant order = record { order = order; error = UnitError.NotConstant }

-- a number is impossible
abbrev pub out_of_range : ℕ → Finding
out_of_range order = record { order = order; error = UnitError.ConstantOutOfRange }

-- a call has too many arguments
abbrev pub too_many_arguments : ℕ → Finding
too_many_arguments order = record { order = order; error = UnitError.TooManyArguments }
