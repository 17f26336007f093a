-- The tokens with which the text of an expression begins.
use Rattle.std.specs.Prelude.{ℕ, true, false, Option, Some, None, if◌then◌else◌}
use Rattle.inf_expressions.specs.{declared.operators.Operand.Operand, declared.origins.Lead.Lead, declared.origins.Origin.Origin}

-- the origin of no expression
abbrev pub nowhere : Origin
nowhere = record { first = 0; token = 0; lead = record { first = 0; variable = None; is_whole = false } }

abbrev pub variable_of : Operand → Option ℕ
variable_of (Operand.Variable v) = Some v
variable_of (Operand.Known n) = None
variable_of (Operand.Later target) = None
variable_of (Operand.Function f) = None
variable_of Operand.Unknown = None

-- the origin of a leaf, which begins with itself
abbrev pub of_leaf : ℕ → ℕ → Operand → Origin
of_leaf first token operand = record {
  first = first;
  token = token;
  lead = record { first = first; variable = variable_of operand; is_whole = true };
}

-- The origin of an expression in brackets. Its text begins with the opening one; its first part has the brackets only where it is
-- all that is in them.
abbrev pub bracketed_lead : ℕ → Lead → Lead
bracketed_lead order lead =
    record { first = if lead.is_whole then order else lead.first; variable = lead.variable; is_whole = lead.is_whole }

abbrev pub bracketed : ℕ → Origin → Origin
bracketed order o = record { first = order; token = o.token; lead = bracketed_lead order o.lead }

-- the origin of an expression behind an operator, which hides the first part of the expression
abbrev pub prefixed : ℕ → Origin → Origin
prefixed order o = record { first = order; token = o.token; lead = record { first = order; variable = None; is_whole = true } }

-- the origin of an expression with an operator behind it, or with an operator and another expression
abbrev pub followed : Origin → Origin
followed o =
    record { first = o.first; token = o.token; lead = record { first = o.lead.first; variable = o.lead.variable; is_whole = false } }
