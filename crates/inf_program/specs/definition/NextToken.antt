-- The next token of the innermost file, by the position at which it comes: at the front of a piece, within one, or among tokens that are
-- passed over behind a bad one. It is read, and kept or not, by the open files, the sides of conditionals and the compilation, and by
-- nothing else of a reading.
use Rattle.std.specs.Prelude.{List, Bool, true, false, None}
use Rattle.inf_settings.specs.{Bounds.Limits, Settings.number_of, declared.setting.Setting.Setting}
use Rattle.inf_sources.specs.Cursors.{behind, read}
use Rattle.inf_unit.specs.Tokens.{SourceToken}
use Rattle.inf_compilation.specs.Actions.{Compilation}
use Rattle.inf_conditional_sides.specs.{Sides.Step as SideStep, Sides.heard, Sides.step as side_step, Told.Told, Told.told_of}
use Rattle.inf_reader.specs.{Reading.between, declared.recovery.Recovery.Recovery}
use Rattle.inf_session.specs.{Choices.Choices, Taking.token_at}
use Rattle.inf_program.specs.{definition.States.State, definition.Steps.Step, definition.Steps.token_steps}

-- The position at which a token comes: at the front of a piece or not, and among tokens that are passed over or not.
pub record Position : Type 0 where
  pub is_front : Bool
  pub is_passed : Bool

abbrev pub position : Bool → Bool → Position
position is_front is_passed = record { is_front = is_front; is_passed = is_passed }

abbrev pub at_front : Position
at_front = position true false

abbrev pub within : Position
within = position false false

abbrev pub passed_over : Position
passed_over = position false true

-- the next token of the innermost file
abbrev pub coming : Position → State → SourceToken
coming p s =
    let r = read s.nesting.cursor in
    token_at p.is_front r.kind r.kept.bytes (record { file = s.nesting.cursor.file; line = r.line }) s.work

-- the sides behind the next token, and what is given of it
abbrev pub step_at : Position → State → SideStep
step_at p s = side_step p.is_front s.declared s.work.output (coming p s) s.sides

-- what the next token tells of a condition
abbrev pub told_at : Choices → Position → State → Told
told_at o p s =
    let longest = number_of Setting.ExpressionNodes o.settings in
    told_of p.is_passed longest s.declared s.work.output (coming p s) s.sides (record { said = None; most_tokens = s.most_tokens })

-- the tokens that are handed on for the next one, and the effects of conditional directives before and behind them
abbrev pub steps_at : Limits → Choices → Position → State → List Step
steps_at limits o p s = token_steps limits s.nesting.names (told_at o p s).said (heard p.is_passed (step_at p s).given)

-- the state behind the next token, with the compilation to which these steps lead
abbrev pub behind_at : Choices → Position → Compilation → State → State
behind_at o p w s =
    record s {
      nesting = record s.nesting { cursor = behind s.nesting.cursor (read s.nesting.cursor) };
      sides = (step_at p s).now;
      most_tokens = (told_at o p s).most_tokens;
      work = w;
    }

-- the state without the rest of the piece at hand
abbrev pub afresh : State → State
afresh s = record s { reading = between Recovery.Reads }
