-- The errors in an expression, operator by operator: each function gives the least of the finding so far and of the errors that
-- it finds itself.
use Rattle.std.specs.Prelude.{ℕ, nat_lt, ◌==◌, Bool, true, false, ◌&&◌, Option, Some, None, if◌then◌else◌}
use Rattle.inf_expressions.specs.declared.{findings.Finding.Finding, kinds.Kind.Kind, kinds.Seen.Seen, operators.Binary.Binary}
use Rattle.inf_expressions.specs.declared.{operators.Function.Function, operators.Operand.Operand, operators.Operation.Operation}
use Rattle.inf_expressions.specs.declared.{operators.Unary.Unary, origins.Lead.Lead, units.Wanted.Wanted}
use Rattle.inf_expressions.specs.Findings.{least, no_constant, out_of_range, too_many_arguments, wrong_kind}

-- a leaf that is wrong by itself
abbrev pub leaf_finding : Operand → ℕ → Option Finding → Option Finding
leaf_finding Operand.Unknown token found = least found (wrong_kind token)
leaf_finding (Operand.Known n) token found = found
leaf_finding (Operand.Variable v) token found = found
leaf_finding (Operand.Later target) token found = found
leaf_finding (Operand.Function f) token found = found

-- a function of the system where a value is needed
abbrev pub value_finding_of : Kind → ℕ → Option Finding → Option Finding
value_finding_of (Kind.Function f) token found = least found (wrong_kind token)
value_finding_of _ token found = found

abbrev pub value_finding : Seen → Option Finding → Option Finding
value_finding s found = value_finding_of s.kind s.origin.token found

-- a target that is no variable, entry of an array or property: only these are assigned and stepped
abbrev pub target_finding_of : Kind → ℕ → Option Finding → Option Finding
target_finding_of Kind.Variable first found = found
target_finding_of Kind.Entry first found = found
target_finding_of Kind.Property first found = found
target_finding_of _ first found = least found (wrong_kind first)

abbrev pub target_finding : Seen → Option Finding → Option Finding
target_finding s found = target_finding_of s.kind s.origin.first found

-- an expression that is no constant where one is needed
abbrev pub constant_finding : ℕ → Kind → Option Finding → Option Finding
constant_finding unit (Kind.Number n) found = found
constant_finding unit Kind.Constant found = found
constant_finding unit (Kind.Function f) found = found
constant_finding unit _ found = least found (no_constant unit)

-- tells whether an expression is a known number; a function of the system counts as 0
abbrev pub is_known : Kind → Bool
is_known (Kind.Number n) = true
is_known (Kind.Function f) = true
is_known _ = false

abbrev pub is_zero : Kind → Bool
is_zero (Kind.Number n) = n == 0
is_zero (Kind.Function f) = true
is_zero _ = false

-- a known number that is divided by 0
abbrev pub division_finding : ℕ → Kind → Kind → Option Finding → Option Finding
division_finding unit a b found = if is_known a && is_zero b then least found (out_of_range unit) else found

-- the errors of an operator of one expression
abbrev pub unary_finding : Unary → Seen → Option Finding → Option Finding
unary_finding (Unary.Before step) a found = target_finding a (value_finding a found)
unary_finding (Unary.Behind step) a found = target_finding a (value_finding a found)
unary_finding _ a found = value_finding a found

abbrev pub values_finding : Seen → Seen → Option Finding → Option Finding
values_finding a b found = value_finding b (value_finding a found)

-- the errors of an operator of two expressions, in a unit that begins at the order `unit`
abbrev pub two_finding : Binary → ℕ → Seen → Seen → Option Finding → Option Finding
two_finding Binary.Assign unit a b found = target_finding a (values_finding a b found)
two_finding (Binary.Operation Operation.Divide) unit a b found = division_finding unit a.kind b.kind (values_finding a b found)
two_finding (Binary.Operation Operation.Remainder) unit a b found = division_finding unit a.kind b.kind (values_finding a b found)
two_finding Binary.To unit a b found = constant_finding unit b.kind (constant_finding unit a.kind (values_finding a b found))
two_finding _ unit a b found = values_finding a b found

-- The most arguments of a call. In a message an object and a property come before them, and behind `indirect` the routine that it
-- calls is counted as one.
abbrev pub most_arguments : Kind → ℕ
most_arguments (Kind.Function Function.Indirect) = 8
most_arguments (Kind.Function _) = 1
most_arguments Kind.Property = 5
most_arguments _ = 7

-- the errors of a call with a list of `given` arguments
abbrev pub call_finding : ℕ → ℕ → Seen → Seen → Option Finding → Option Finding
call_finding unit given callee list found =
    if nat_lt (most_arguments callee.kind) given then least (value_finding list found) (too_many_arguments unit) else value_finding list
    found

abbrev pub number_finding : ℕ → Kind → Option Finding → Option Finding
number_finding unit k found = if is_known k then found else least found (no_constant unit)

-- an operand of an instruction that is neither a constant nor a variable
abbrev pub operand_finding : ℕ → Kind → Option Finding → Option Finding
operand_finding unit Kind.Variable found = found
operand_finding unit k found = constant_finding unit k found

-- a value of a case that is neither a constant nor a range
abbrev pub case_finding : ℕ → Kind → Option Finding → Option Finding
case_finding unit Kind.Range found = found
case_finding unit k found = constant_finding unit k found

-- a loop over objects that does not begin with its variable
abbrev pub lead_finding_of : Option ℕ → ℕ → Option Finding → Option Finding
lead_finding_of (Some v) first found = found
lead_finding_of None first found = least found (wrong_kind first)

abbrev pub lead_finding : Lead → Option Finding → Option Finding
lead_finding lead found = lead_finding_of lead.variable lead.first found

abbrev pub wanted_finding : Wanted → ℕ → Seen → Option Finding → Option Finding
wanted_finding Wanted.Value unit s found = found
wanted_finding Wanted.Constant unit s found = constant_finding unit s.kind found
wanted_finding Wanted.Number unit s found = number_finding unit s.kind found
wanted_finding Wanted.Operand unit s found = operand_finding unit s.kind found
wanted_finding Wanted.Case unit s found = case_finding unit s.kind found
wanted_finding Wanted.Loop unit s found = lead_finding s.origin.lead found

-- the errors of a whole expression, by the kind that a unit wants
abbrev pub root_finding : Wanted → ℕ → Seen → Option Finding → Option Finding
root_finding w unit s found = wanted_finding w unit s (value_finding s found)
