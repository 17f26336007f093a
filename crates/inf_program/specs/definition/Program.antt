-- A program: all that comes in its files, or in the text of a supplied routine. From a place between two pieces a token comes that
-- conditionals take, a piece, a bad piece, or the end of the file. Then a directive may ask for a file, which is read from its first piece
-- on, or that reading ends; and behind the end of an included file reading goes on in the file that includes it.
use Rattle.std.specs.Prelude.{◌≡◌, ℕ, List, [], ◌∷◌, true, false}
use Rattle.inf_settings.specs.Bounds.{Limits}
use Rattle.inf_devices.specs.Files.{Sources}
use Rattle.inf_unit.specs.Tokens.{SourceToken, is_end}
use Rattle.inf_reader.specs.{Reading.between, declared.recovery.Recovery.Recovery}
use Rattle.inf_session.specs.Choices.{Choices}
use Rattle.inf_laws.specs.KeptTokens.{Kept}
use Rattle.inf_statement_laws.specs.Happenings.{Between}
use Rattle.inf_program.specs.definition.States.{State, followed, has_ended}
use Rattle.inf_program.specs.definition.Steps.{Ends, Passes, Reads, Step}
use Rattle.inf_program.specs.definition.NextToken.{at_front, behind_at, steps_at}
use Rattle.inf_program.specs.definition.Fronts.{Front, reached}
use Rattle.inf_program.specs.definition.BadPieces.{AllSkipOn, BadPiece, all_passed, all_skipped, cut_of, lands}

-- no token is handed on
abbrev pub NoneGiven : List Step → Type 0
NoneGiven [] = Unit {0}
NoneGiven (Reads given ∷ steps) = ⊥
NoneGiven (Passes m ∷ steps) = NoneGiven steps
NoneGiven (Ends m ∷ steps) = NoneGiven steps

-- The end of the file is handed on, between two pieces.
pub record FileEnds (limits : Limits) (o : Choices) (s : State) : Type 0 where
  pub effect : Between
  pub token : SourceToken
  pub rest : List Step
  pub steps : steps_at limits o at_front s ≡ Passes effect ∷ Reads (Kept token) ∷ rest
  pub is_the_end : is_end token.kind ≡ true
  pub is_last : NoneGiven rest

-- the state behind a token at the front of a piece that has no effect but that of conditional directives
abbrev pub front_passed : Limits → Choices → State → State
front_passed limits o s = behind_at o at_front (all_passed (steps_at limits o at_front s) s.work) s

-- From a state `s` between two pieces reading comes to `t` with the next thing in the innermost file: a token that conditionals take; a
-- whole piece, whose tokens are a text of the grammar; a piece that a fatal message breaks off; the end of the file; or a bad piece,
-- where `n` more tokens of the file are passed over behind the one for which the bad token is handed on.
pub data Next (limits : Limits) (sources : Sources) (o : Choices) (s t : State) : Type 0 where
  Conditional : NoneGiven (steps_at limits o at_front s) → t ≡ followed sources o (front_passed limits o s) → Next limits sources o s t
  Piece : (f : Front limits o s) → f.further ≡ [] → f.left ≡ [] → t ≡ followed sources o (reached f).state → Next limits sources o s t
  BrokenOff : (f : Front limits o s) → (reached f).state.work.report.counts.is_over ≡ true → t ≡ (reached f).state
      → Next limits sources o s t
  FileEnd : FileEnds limits o s → t ≡ followed sources o (record (front_passed limits o s) { reading = between Recovery.Ended })
      → Next limits sources o s t
  Bad : (b : BadPiece limits o s) (n : ℕ) → AllSkipOn limits o n (cut_of b)
      → t ≡ followed sources o (lands (all_skipped limits o n (cut_of b))) → Next limits sources o s t

-- Reading ends in a state, or goes on from a place between two pieces with what comes next.
pub data IsProgram (limits : Limits) (sources : Sources) (o : Choices) (final : State) : State → Type 0 where
  IsOver : {s : State} → has_ended s ≡ true → s ≡ final → IsProgram limits sources o final s
  Continues : {s t : State} → has_ended s ≡ false → s.reading ≡ between Recovery.Reads → Next limits sources o s t
      → IsProgram limits sources o final t → IsProgram limits sources o final s
