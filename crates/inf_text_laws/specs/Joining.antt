-- Two texts that are joined.
use Rattle.std.specs.Prelude.{◌≡◌, ℕ, zero, suc, Bool, true, false, not, ◌&&◌, Result, Ok, Err, List, [], ◌∷◌, ◌++◌}
use Rattle.inf_characters.specs.{Characters.is_white, declared.characters.CharSet.CharSet, declared.reading.Mode.Mode}
use Rattle.inf_characters.specs.{declared.reading.TextFault.TextFault, declared.texts.TextItem.TextItem}
use Rattle.inf_characters.specs.Reading.{piece_at, text_of, with_front}

-- whether some bytes begin with white space
abbrev pub begins_white : CharSet → List ℕ → Bool
begins_white set [] = false
begins_white set (b ∷ bytes) = is_white set b

-- Whether some bytes, but for those at their front that are passed over, end where no escape and no run of white space goes on in the bytes
-- behind them. The mark of a new line belongs to the run behind it.
abbrev pub ends_whole : CharSet → Mode → Bool → ℕ → List ℕ → List ℕ → Bool
ends_whole set mode after_mark zero [] behind = not (after_mark && begins_white set behind)
ends_whole set mode after_mark (suc passed) [] behind = false
ends_whole set mode after_mark (suc passed) (b ∷ bytes) behind = ends_whole set mode after_mark passed bytes behind
ends_whole set mode after_mark zero (b ∷ bytes) behind =
    elim (piece_at set mode after_mark b (bytes ++ behind)) [
      | Err fault ↦ false
      | Ok found ↦ ends_whole set mode found.is_mark found.behind bytes behind
    ]

-- the items of both, or the first fault
abbrev pub joined : Result (List TextItem) TextFault → Result (List TextItem) TextFault → Result (List TextItem) TextFault
joined (Ok items) next = with_front items next
joined (Err fault) next = Err fault

-- bytes that are joined where neither an escape nor a run of white space is cut are read as the two, joined
abbrev pub ReadsJoined : CharSet → Mode → List ℕ → List ℕ → Type 0
ReadsJoined set mode bytes behind =
    ends_whole set mode false 0 bytes behind ≡ true
    → text_of set mode (bytes ++ behind) ≡ joined (text_of set mode bytes) (text_of set mode behind)
