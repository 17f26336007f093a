-- Texts that are joined where no piece is cut.
use Rattle.std.proofs.Common.{◌≡◌, ◌≤◌, ℕ, zero, suc, Bool, true, false, not, ◌&&◌, Result, Ok, Err, List, [], ◌∷◌, ◌++◌, length, replicate}
use Rattle.std.proofs.Common.{refl, sym, ap, ◌∙◌, arith}
use Rattle.inf_characters.specs.{Characters.is_white, declared.characters.CharSet.CharSet, declared.reading.Mode.Mode}
use Rattle.inf_characters.specs.{declared.reading.TextFault.TextFault, declared.texts.TextItem.TextItem}
use Rattle.inf_characters.specs.Reading.{and_then, piece_at, text_from, text_of, with_front}
use Rattle.inf_text_laws.specs.Joining.{ReadsJoined, begins_white, ends_whole, joined}
use Rattle.inf_characters.proofs.{Cuts.piece_at-cut, Pieces.Found, Pieces.with_front-append, Pieces.with_front-none}

-- where the place behind a piece was looked at
abbrev goes_on : CharSet → Mode → List ℕ → List ℕ → Result Found TextFault → Bool
goes_on set m bytes behind (Err fault) = false
goes_on set m bytes behind (Ok found) = ends_whole set m found.is_mark found.behind bytes behind

-- no more bytes are passed over than there are
ends_whole-fits : (set : CharSet) (m : Mode) (after_mark : Bool) (passed : ℕ) (bytes behind : List ℕ) →
    ends_whole set m after_mark passed bytes behind ≡ true → passed ≤ length bytes
ends_whole-fits set m after_mark zero bytes behind h = omega arith
ends_whole-fits set m after_mark (suc passed) [] behind h = absurd (let none : false ≡ true = h in cc)
ends_whole-fits set m after_mark (suc passed) (b ∷ bytes) behind h = omega (arith, ends_whole-fits set m after_mark passed bytes behind h)

-- The mark of a new line changes nothing before a byte that is no white space.
piece_at-unmarked : (set : CharSet) (m : Mode) (b : ℕ) (bytes : List ℕ) → is_white set b ≡ false →
    piece_at set m true b bytes ≡ piece_at set m false b bytes
unfolding piece_at
piece_at-unmarked set m b bytes black = rw black refl

unmarked : (set : CharSet) (m : Mode) (bytes : List ℕ) → begins_white set bytes ≡ false →
    text_from set m true 0 bytes ≡ text_from set m false 0 bytes
unmarked set m [] h = refl
unmarked set m (b ∷ bytes) h = ap (λ (r : Result Found TextFault). and_then r (λ found. text_from set m found.is_mark found.behind bytes))
    (piece_at-unmarked set m b bytes h)

not_white : (t : Bool) → not t ≡ true → t ≡ false
not_white true h = cc
not_white false h = refl

at_end : (set : CharSet) (m : Mode) (after_mark : Bool) (behind : List ℕ) → not (after_mark && begins_white set behind) ≡ true →
    text_from set m after_mark 0 behind ≡ text_of set m behind
unfolding text_of
at_end set m true behind h = unmarked set m behind (not_white (begins_white set behind) h)
at_end set m false behind h = refl

-- items before joined texts
with_front-joined : (items : List TextItem) (r next : Result (List TextItem) TextFault) →
    with_front items (joined r next) ≡ joined (with_front items r) next
with_front-joined items (Ok more) next = sym (with_front-append items more next)
with_front-joined items (Err fault) next = refl

-- joined bytes, but for those at their front that are passed over
from_joined : (set : CharSet) (m : Mode) (after_mark : Bool) (passed : ℕ) (bytes behind : List ℕ) →
    ends_whole set m after_mark passed bytes behind ≡ true →
    text_from set m after_mark passed (bytes ++ behind) ≡ joined (text_from set m after_mark passed bytes) (text_of set m behind)
from_joined set m after_mark zero [] behind h = at_end set m after_mark behind h ∙ sym (with_front-none (text_of set m behind))
from_joined set m after_mark (suc passed) [] behind h = absurd (let none : false ≡ true = h in cc)
from_joined set m after_mark (suc passed) (b ∷ bytes) behind h = from_joined set m after_mark passed bytes behind h
from_joined set m after_mark zero (b ∷ bytes) behind h =
    go (λ found. from_joined set m found.is_mark found.behind bytes behind) (piece_at set m after_mark b (bytes ++ behind)) refl h
  where
    go : ((found : Found) → ends_whole set m found.is_mark found.behind bytes behind ≡ true → text_from set m found.is_mark found.behind
        (bytes ++ behind) ≡ joined (text_from set m found.is_mark found.behind bytes) (text_of set m behind)) → (r : Result Found TextFault)
        → piece_at set m after_mark b (bytes ++ behind) ≡ r → goes_on set m bytes behind r ≡ true → and_then r
        (λ found. text_from set m found.is_mark found.behind (bytes ++ behind)) ≡ joined
        (and_then (piece_at set m after_mark b bytes) (λ found. text_from set m found.is_mark found.behind bytes)) (text_of set m behind)
    go later (Err fault) e whole = cc
    go later (Ok found) e whole =
        let given = replicate found.count found.item in
        let alone : piece_at set m after_mark b bytes ≡ Ok found =
        piece_at-cut set m after_mark b bytes behind found e (ends_whole-fits set m found.is_mark found.behind bytes behind whole) in
        ap (with_front given) (later found whole)
        ∙ with_front-joined given (text_from set m found.is_mark found.behind bytes) (text_of set m behind)
        ∙ ap (λ (r : Result Found TextFault). joined (and_then r (λ found. text_from set m found.is_mark found.behind bytes))
        (text_of set m behind)) (sym alone)

pub reads_joined : (set : CharSet) (m : Mode) (bytes behind : List ℕ) → ReadsJoined set m bytes behind
unfolding text_of
reads_joined set m bytes behind h = from_joined set m false 0 bytes behind h
