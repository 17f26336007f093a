-- A token that is handed on in a piece is taken, or it is told, and the unit that it cuts gives nothing.
use Rattle.std.specs.Prelude.{◌≡◌, ◌⊎◌, List, [], ◌∷◌, ◌++◌, map, false}
use Rattle.inf_settings.specs.Bounds.{Limits}
use Rattle.inf_unit.specs.Tokens.{SourceToken, atom_of, is_end}
use Rattle.inf_compilation.specs.Context.{Context}
use Rattle.inf_reader.specs.{Pieces.BeginsPiece, Pieces.at_hand, Pieces.work_by, declared.recovery.Recovery.Recovery}
use Rattle.inf_reader.specs.Reading.{ReaderState, bad, between, took}
use Rattle.inf_laws.specs.KeptTokens.{GoesOn, Kept, Unfit, all_given_to, rests}
use Rattle.inf_laws.specs.Skipping.{given_at}

-- The tokens `tokens` were kept since the reading was between two pieces, and the piece that they begin is not at its end.
pub record IsAt (tokens : List SourceToken) (s : ReaderState) : Type 0 where
  pub goes_on : GoesOn (map Kept tokens) (between Recovery.Reads)
  pub is_read : s.reading ≡ all_given_to (map Kept tokens) (between Recovery.Reads)
  pub reads : s.reading.mode ≡ Recovery.Reads
  pub is_open : (tokens ≡ []) ⊎ (rests s.reading ≡ false)

-- Where the tokens begin a piece with one more, this one is taken, behind the actions on the way to it; where they begin none, it
-- is told at its place, in the words of its kind, and the unit that it cuts gives nothing.
pub record IsTakenOrTold (limits : Limits) (context : Context) (tokens : List SourceToken) (t : SourceToken) (s : ReaderState) : Type 0
  where
    pub taken : BeginsPiece (map atom_of (tokens ++ t ∷ [])) →
        given_at limits context (Kept t) s ≡ took limits context t (at_hand s.reading) (work_by s.reading.stack s.work)
    pub told : (BeginsPiece (map atom_of (tokens ++ t ∷ [])) → ⊥) →
        given_at limits context (Kept t) s ≡ bad limits context t (at_hand s.reading) (work_by s.reading.stack s.work)

-- For any token but the end of a source between two pieces, which belongs to no piece: it is taken, or told.
abbrev pub TokensAreTakenOrTold : Limits → Type 0
TokensAreTakenOrTold limits =
    (context : Context) (tokens : List SourceToken) (t : SourceToken) (s : ReaderState) → IsAt tokens s
    → (is_end t.kind ≡ false) ⊎ (rests s.reading ≡ false) → IsTakenOrTold limits context tokens t s

-- A token that does not fit its conditional directive is told wherever it is not passed over.
abbrev pub UnfitTokensAreTold : Limits → Type 0
UnfitTokensAreTold limits =
    (context : Context) (t : SourceToken) (s : ReaderState) → s.reading.mode ≡ Recovery.Reads → given_at limits context (Unfit t) s ≡
    bad limits context t s.reading s.work
