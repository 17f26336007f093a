-- The tokens that the turns of a whole reading hand on, with the files that include one another.
use Rattle.std.specs.Prelude.{◌≡◌, ℕ, zero, suc, List, [], ◌++◌, false}
use Rattle.inf_settings.specs.Bounds.{Limits}
use Rattle.inf_devices.specs.Files.{Sources}
use Rattle.inf_conditionals.specs.Judging.{judged}
use Rattle.inf_reader.specs.{Handing.site_of, Reading.between, Reading.is_mode_ended, declared.recovery.Recovery.Recovery}
use Rattle.inf_session.specs.{Choices.Choices, Session.State, Session.stepped, Session.token_of, Session.turn}
use Rattle.inf_laws.specs.KeptTokens.{Given, GoesOn, Stands, given_of}

-- the tokens that a turn hands on
abbrev pub given_by : Choices → State → List Given
given_by o s = let t = token_of s in given_of (judged (site_of o.settings s.reading) s.work.output t s.conditions).judged t

-- the state after `n` turns, and the tokens that they hand on
abbrev pub turned : Limits → Sources → Choices → ℕ → State → State
turned limits sources o zero s = s
turned limits sources o (suc n) s = turned limits sources o n (turn limits sources o s)

abbrev pub given_in : Limits → Sources → Choices → ℕ → State → List Given
given_in limits sources o zero s = []
given_in limits sources o (suc n) s = given_by o s ++ given_in limits sources o n (turn limits sources o s)

-- no file ends in `n` turns
abbrev pub StayInFile : Limits → Sources → Choices → ℕ → State → Type 0
StayInFile limits sources o zero s = Unit {0}
StayInFile limits sources o (suc n) s =
    (is_mode_ended (stepped limits o s).reading.mode ≡ false) × StayInFile limits sources o n (turn limits sources o s)

-- From a place between two pieces on, as long as the first piece goes on, and behind the token that ends it, the reading of the
-- turns is in the state that the tokens decide which they handed on: in a piece that these begin, behind one that they are, or
-- behind the bad one, which is the first with which they begin none.
abbrev pub TurnsReadPieces : Limits → Type 0
TurnsReadPieces limits =
    (sources : Sources) (o : Choices) (n : ℕ) (s : State) → s.reading ≡ between Recovery.Reads → StayInFile limits sources o n s
    → GoesOn (given_in limits sources o (suc n) s) s.reading
    → Stands (given_in limits sources o (suc n) s) (stepped limits o (turned limits sources o n s)).reading
