-- The parts of a reading, which its steps read, and the pieces of its files.
use Rattle.std.specs.Prelude.{◌≡◌, ◌⊎◌, ℕ, zero, suc, List, [], true, false}
use Rattle.inf_settings.specs.Bounds.{Limits}
use Rattle.inf_devices.specs.Files.{Sources}
use Rattle.inf_reader.specs.{Reading.between, declared.recovery.Recovery.Recovery}
use Rattle.inf_session.specs.{Choices.Choices, Session.State, Session.is_parted, Session.start, Session.stepped, Session.turn}
use Rattle.inf_laws.specs.{KeptTokens.Stands, KeptTokens.rests, KeptTurns.given_by, KeptTurns.given_in, KeptTurns.turned}

-- none of `n` turns ends a part
abbrev pub StayInPart : Limits → Sources → Choices → ℕ → State → Type 0
StayInPart limits sources o zero s = Unit {0}
StayInPart limits sources o (suc n) s =
    (is_parted (turn limits sources o s) ≡ false) × StayInPart limits sources o n (turn limits sources o s)

-- the tokens that are handed on within a part, and the reading then: there are none, or they are those of one piece
abbrev pub IsOfOnePiece : Limits → Sources → Choices → ℕ → State → Type 0
IsOfOnePiece limits sources o n s =
    (given_in limits sources o (suc n) s ≡ []) ⊎ Stands (given_in limits sources o (suc n) s)
    (stepped limits o (turned limits sources o n s)).reading

-- From any place between two pieces of a reading on, the turns of one part hand on nothing, or the tokens of one piece, whole or
-- bad, or of the end of a file.
abbrev pub PartsArePieces : Limits → Type 0
PartsArePieces limits =
    (sources : Sources) (o : Choices) (name : List ℕ) (m n : ℕ) → (turned limits sources o m (start sources o name)).reading ≡ between
    Recovery.Reads
    → StayInPart limits sources o n (turned limits sources o m (start sources o name)) → IsOfOnePiece limits sources o n
    (turned limits sources o m (start sources o name))

-- Where the tokens of a turn bring the reading to the end of a piece, or of a file, a part ends with it.
abbrev pub PartsEndWithPieces : Limits → Type 0
PartsEndWithPieces limits =
    (sources : Sources) (o : Choices) (name : List ℕ) (m n : ℕ) → (turned limits sources o m (start sources o name)).reading ≡ between
    Recovery.Reads
    → StayInPart limits sources o n (turned limits sources o m (start sources o name))
    → (given_by o (turned limits sources o n (turned limits sources o m (start sources o name))) ≡ [] → ⊥) → rests
    (stepped limits o (turned limits sources o n (turned limits sources o m (start sources o name)))).reading ≡ true
    → is_parted (turn limits sources o (turned limits sources o n (turned limits sources o m (start sources o name)))) ≡ true
