-- A text is read piece by piece.
use Rattle.std.proofs.{Math.Seq.drop-append_seam, lemmas.List.length-take, lemmas.List.take-append-drop}
use Rattle.std.proofs.Common.{◌≡◌, ◌<◌, ◌≤◌, ℕ, zero, suc, Bool, Ok, Err, Result, List, [], ◌∷◌, ◌++◌, length, take, drop, replicate}
use Rattle.std.proofs.Common.{append_assoc, length-append, refl, sym, ap, ◌∙◌, arith}
use Rattle.inf_characters.proofs.Cuts.{piece_at-cut}
use Rattle.inf_characters.specs.{Numbers.IsPieceOf, declared.characters.CharSet.CharSet, declared.reading.Mode.Mode}
use Rattle.inf_characters.specs.{declared.reading.Piece.Piece, declared.reading.TextFault.TextFault, declared.texts.TextItem.TextItem}
use Rattle.inf_characters.specs.Items.{IsItem, IsText}
use Rattle.inf_characters.specs.Reading.{HoldsItems, and_then, piece_at, text_from, text_of, with_front}

-- a piece, for the proofs of other crates, which can't name the private type
abbrev pub Found : Type 0
Found = Piece

pub with_front-none : (r : Result (List TextItem) TextFault) → with_front [] r ≡ r
with_front-none (Ok items) = refl
with_front-none (Err fault) = refl

pub with_front-append : (xs ys : List TextItem) (r : Result (List TextItem) TextFault) →
    with_front (xs ++ ys) r ≡ with_front xs (with_front ys r)
with_front-append xs ys (Ok items) = ap (λ (all : List TextItem). Ok all) (append_assoc xs ys items)
with_front-append xs ys (Err fault) = refl

-- bytes that are passed over are dropped
pub text_from-passed : (set : CharSet) (mode : Mode) (after_mark : Bool) (k : ℕ) (bytes : List ℕ) →
    text_from set mode after_mark k bytes ≡ text_from set mode after_mark 0 (drop k bytes)
text_from-passed set mode after_mark zero bytes = refl
text_from-passed set mode after_mark (suc k) [] = refl
text_from-passed set mode after_mark (suc k) (b ∷ bytes) = text_from-passed set mode after_mark k bytes

-- an item, some times behind a text, gives a text
pub IsText-append_replicate : (items : List TextItem) (n : ℕ) (item : TextItem) → IsText items → IsItem item →
    IsText (items ++ replicate n item)
IsText-append_replicate [] zero item h is = tt
IsText-append_replicate [] (suc n) item h is = (is, IsText-append_replicate [] n item h is)
IsText-append_replicate (x ∷ items) n item h is = (h.0, IsText-append_replicate items n item h.1 is)

-- the items that were read, with the text of the bytes that are left, are the whole text
pub record Continues (set : CharSet) (mode : Mode) (after_mark : Bool) (items : List TextItem) (rest bytes : List ℕ) : Type 0 where
  pub value : with_front items (text_from set mode after_mark 0 rest) ≡ text_of set mode bytes
  pub text : IsText items
  pub seen : List ℕ
  pub bytes_are : bytes ≡ seen ++ rest
  pub cut : (xs ys : List ℕ) → rest ≡ xs ++ ys → text_of set mode (seen ++ xs) ≡ with_front items (text_from set mode after_mark 0 xs)

-- the bytes of one more piece, and a front of those behind them
seen-more : (set : CharSet) (mode : Mode) (after_mark : Bool) (items : List TextItem) (seen : List ℕ) (first : ℕ) (tail : List ℕ)
    (piece : Piece) → piece_at set mode after_mark first tail ≡ Ok piece → piece.behind ≤ length tail →
    ((xs ys : List ℕ) → first ∷ tail ≡ xs ++ ys → text_of set mode (seen ++ xs) ≡ with_front items (text_from set mode after_mark 0 xs)) →
    (xs ys : List ℕ) → drop piece.behind tail ≡ xs ++ ys → text_of set mode ((seen ++ first ∷ take piece.behind tail) ++ xs) ≡ with_front
    (items ++ replicate piece.count piece.item) (text_from set mode piece.is_mark 0 xs)
seen-more set mode after_mark items seen first tail piece found le cut xs ys split =
    let k = piece.behind in let own = take k tail in let given = replicate piece.count piece.item in
    let whole : tail ≡ (own ++ xs) ++ ys =
    sym (take-append-drop k tail) ∙ ap (λ (r : List ℕ). own ++ r) split ∙ sym (append_assoc own xs ys) in
    let room : k ≤ length (own ++ xs) = omega (arith, length-append own xs, length-take k tail) in
    let found' : piece_at set mode after_mark first ((own ++ xs) ++ ys) ≡ Ok piece =
    ap (piece_at set mode after_mark first) (sym whole) ∙ found in
    let alone : piece_at set mode after_mark first (own ++ xs) ≡ Ok piece =
    piece_at-cut set mode after_mark first (own ++ xs) ys piece found' room in
    let len : length own ≡ k = omega (arith, length-take k tail) in
    let past : drop k (own ++ xs) ≡ xs = ap (λ (n : ℕ). drop n (own ++ xs)) (sym len) ∙ drop-append_seam own xs in
    let step : text_from set mode after_mark 0 (first ∷ (own ++ xs)) ≡ with_front given (text_from set mode piece.is_mark 0 xs) =
    ap (λ (r : Result Piece TextFault). and_then r (λ p. text_from set mode p.is_mark p.behind (own ++ xs))) alone
    ∙ ap (with_front given) (text_from-passed set mode piece.is_mark k (own ++ xs) ∙ ap (text_from set mode piece.is_mark 0) past) in
    ap (text_of set mode) (append_assoc seen (first ∷ own) xs) ∙ cut (first ∷ (own ++ xs)) ys (ap (λ (r : List ℕ). first ∷ r) whole)
    ∙ ap (with_front items) step ∙ sym (with_front-append items given (text_from set mode piece.is_mark 0 xs))

-- one more piece
pub Continues-more : (set : CharSet) (mode : Mode) (after_mark : Bool) (items : List TextItem) (rest bytes : List ℕ) (first : ℕ)
    (tail : List ℕ) (piece : Piece) (new : List TextItem) (next : List ℕ) → rest ≡ first ∷ tail → piece_at set mode after_mark first tail ≡
    Ok piece → new ≡ items ++ replicate piece.count piece.item → IsPieceOf tail piece → next ≡ drop piece.behind tail → Continues set mode
    after_mark items rest bytes → Continues set mode piece.is_mark new next bytes
Continues-more set mode after_mark items rest bytes first tail piece new next split found pushed is left h =
    let given = replicate piece.count piece.item in
    let step : text_from set mode after_mark 0 rest ≡ with_front given (text_from set mode piece.is_mark 0 next) =
    ap (text_from set mode after_mark 0) split
    ∙ ap (λ (r : Result Piece TextFault). and_then r (λ p. text_from set mode p.is_mark p.behind tail)) found
    ∙ ap (with_front given) (text_from-passed set mode piece.is_mark piece.behind tail ∙ ap (text_from set mode piece.is_mark 0) (sym left))
    in
    record {
      value =
          rw pushed (with_front-append items given (text_from set mode piece.is_mark 0 next) ∙ ap (with_front items) (sym step) ∙ h.value);
      text = rw pushed (IsText-append_replicate items piece.count piece.item h.text is.1);
      seen = h.seen ++ first ∷ take piece.behind tail;
      bytes_are = h.bytes_are ∙ rw (split, left) (ap (λ (r : List ℕ). h.seen ++ first ∷ r) (sym (take-append-drop piece.behind tail)) ∙ sym
          (append_assoc h.seen (first ∷ take piece.behind tail) (drop piece.behind tail)));
      cut = rw (pushed, left) (seen-more set mode after_mark items h.seen first tail piece found is.0 (λ xs ys e. h.cut xs ys (split ∙ e)));
    }

-- where a piece gives items, they are not none
some_items : (items : List TextItem) (n : ℕ) (x : TextItem) → 0 < n →
    (y : TextItem) × ((ys : List TextItem) × ((items ++ replicate n x) ++ [] ≡ y ∷ ys))
some_items [] zero x lt = absurd (omega arith)
some_items [] (suc n) x lt = (x, (replicate n x ++ [], refl))
some_items (y ∷ items) n x lt = (y, ((items ++ replicate n x) ++ [], refl))

-- the bytes up to a piece that gives items, and those of the piece, are a text
pub Continues-holds : (set : CharSet) (mode : Mode) (after_mark : Bool) (items : List TextItem) (rest bytes : List ℕ) (first : ℕ)
    (tail : List ℕ) (piece : Piece) → rest ≡ first ∷ tail → piece_at set mode after_mark first tail ≡ Ok piece → IsPieceOf tail piece → 0 <
    piece.count → Continues set mode after_mark items rest bytes → HoldsItems set mode bytes
Continues-holds set mode after_mark items rest bytes first tail piece split found is some h =
    let next = drop piece.behind tail in
    let more = Continues-more set mode after_mark items rest bytes first tail piece (items ++ replicate piece.count piece.item) next split
    found refl is refl h in
    let items' = some_items items piece.count piece.item some in
    record {
      front = more.seen ++ [];
      rest = next;
      bytes_are = more.bytes_are ∙ sym (append_assoc more.seen [] next);
      item = items'.0;
      items = items'.1.0;
      reads = more.cut [] next refl ∙ ap (λ (all : List TextItem). Ok all) items'.1.1;
    }
