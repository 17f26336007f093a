-- The messages about a condition.
use Rattle.std.specs.Prelude.{ℕ, List, [], nat_lt, slice_get, ◌&&◌, if◌then◌else◌, Option, Some, None}
use Rattle.inf_settings.specs.{Bounds.Limits, declared.setting.Setting.Setting}
use Rattle.inf_gathering.specs.declared.gathering.Leaf.{Leaf}
use Rattle.inf_output.specs.Output.{Code}
use Rattle.inf_scanner.specs.{declared.tokens.Mark.Mark, declared.tokens.Place.Place}
use Rattle.inf_expressions.specs.{declared.findings.Finding.Finding, declared.findings.UnitError.UnitError}
use Rattle.inf_report.specs.Messages.{DeepNesting, End, Exceeded}
use Rattle.inf_unit.specs.{Tokens.SourceToken, Tokens.is_mark, Tokens.told, Units.long_at}
use Rattle.inf_unit.specs.Messages.{Diagnostic, FileNames, Reported, location, message_of, with_error, with_fatal}
use Rattle.inf_conditionals.specs.{Condition.Condition, Operands.actions_added}

-- The judgement of a condition: it is right, and the actions of its leaves appear; or it has an error, and its directive begins at a
-- place; or it has too many tokens, of which the first is at a place; or a bracket is too deep in others.
pub data Said : Type 0 where
  Right : (tokens : List SourceToken) (leaves : List Leaf) → Said
  Wrong : (directive : Place) (blame : Diagnostic) → Said
  Long : (place : Place) → Said
  Deep : (place : Place) → Said

abbrev pub with_said : FileNames → Option Said → Reported → Reported
with_said files None r = r
with_said files (Some (Right tokens leaves)) r = r
with_said files (Some (Wrong directive b)) r = with_error (location files b.place) (location files directive) b.message r
with_said files (Some (Long place)) r = with_fatal (location files place) (Exceeded Setting.ExpressionNodes) r
with_said files (Some (Deep place)) r = with_fatal (location files place) DeepNesting r

-- the output with the actions of a condition that is right
abbrev pub with_right : Limits → Option Said → Code
with_right limits (Some (Right tokens leaves)) o = actions_added limits tokens leaves o
with_right limits _ o = o

-- Definitions of errors

-- the message of an error at a token, and its place
abbrev pub blame_at : Place → UnitError → Option SourceToken → Diagnostic
blame_at directive error None = record { place = directive; message = message_of error End [] }
blame_at directive error (Some t) = record { place = t.place; message = message_of error (told t) t.bytes }

abbrev pub blame_of : Place → Condition → Finding → Diagnostic
blame_of directive k f = blame_at directive f.error (slice_get k.unit.tokens f.order)

abbrev pub wrong : Place → Condition → Finding → Said
wrong directive k f = Wrong directive (blame_of directive k f)

abbrev pub right : Condition → Said
right k = Right k.unit.tokens k.unit.gathering.leaves

abbrev pub told_by : Place → Condition → Option Finding → Option Said
told_by directive k None = Some (right k)
told_by directive k (Some f) = Some (wrong directive k f)

-- Definitions of sizes

-- the most brackets that stand in one another
abbrev pub most_nested : ℕ
most_nested = 64

abbrev pub too_deep : SourceToken → ℕ → Option Said
too_deep t depth = if is_mark Mark.OpenParenthesis t.kind && nat_lt most_nested depth then Some (Deep t.place) else None

abbrev pub too_much_by : Option Place → SourceToken → ℕ → Option Said
too_much_by (Some place) t depth = Some (Long place)
too_much_by None t depth = too_deep t depth

-- the message behind a token, where a condition may have `longest` tokens
abbrev pub too_much : ℕ → SourceToken → Condition → Option Said
too_much longest t k = too_much_by (long_at longest k.unit) t k.unit.depth
