-- The bytes that the innermost source gives, reading by reading.
use Rattle.std.proofs.Common.{◌≡◌, ℕ, suc, ◌+◌, ◌-◌, ◌<◌, ◌≤◌, zero, List, [], ◌∷◌, ◌++◌, length, take, drop, get_or, true, false, Some, Ok}
use Rattle.std.proofs.Common.{Err, Result, unwrap_or, refl, sym, ap, subst, ◌∙◌, arith, append-nil, append_assoc, length-append, IfOk}
use Rattle.std.proofs.Common.{nat_eq, slice_get, slice_set}
use Rattle.std.proofs.lemmas.List.{length-set, drop-take, drop-drop, take-append-le, with_items_is}
use Rattle.std.proofs.{Math.Seq.drop-append_seam, Math.Seq.get_or-append_seam, lemmas.Option.get_or_from_slice_get}
use Rattle.std.specs.{Global.Vec, Vec.with_items}
use Rattle.inf_devices.specs.Files.{Opening, Openings, Sources, GivesInnermost, Reads, opened, after_bytes}
use Rattle.inf_devices.specs.declared.files.ReadFault.{ReadFault}
use Rattle.inf_lexer.specs.Unread.{Gave, innermost, innermost_place, unread, unread_of}

-- a source gave no bytes
pub gave_nothing : {s : Sources} {o : Openings} → Gave s o o []
gave_nothing = record { next = refl; given = sym (append-nil _); name = refl; places = refl; count = refl; others = λ i other. refl }

-- a source gave some bytes, and then more
pub gave_more : {s : Sources} {old now new : Openings} {bytes more : List ℕ} → Gave s old now bytes → Gave s now new more
    → Gave s old new (bytes ++ more)
gave_more {s = s} {new = new} {bytes = bytes} {more = more} g h = record {
  next = g.next ∙ ap (λ r. bytes ++ r) h.next ∙ sym (append_assoc bytes more (unread s new));
  given = h.given ∙ ap (λ r. r ++ more) g.given ∙ append_assoc _ bytes more;
  name = h.name ∙ g.name;
  places = h.places ∙ g.places;
  count = h.count ∙ g.count;
  others =
      λ i other. h.others i (λ e. other (e ∙ ap (λ (places : List ℕ). get_or places (length places - 1) 0) g.places)) ∙ g.others i other;
}

-- Lemmas about the opening that a reading changes

set_at : (os : List Opening) (place : ℕ) (o new : Opening) → slice_get os place ≡ Some o →
    get_or (slice_set os place new) place (opened []) ≡ new
set_at [] place o new e = cc
set_at (x ∷ os) zero o new e = refl
set_at (x ∷ os) (suc place) o new e = set_at os place o new e

set_else : (os : List Opening) (place : ℕ) (new : Opening) (i : ℕ) → (i ≡ place → ⊥) → slice_get (slice_set os place new) i ≡ slice_get os i
set_else [] place new i other = refl
set_else (x ∷ os) zero new zero other = absurd (other refl)
set_else (x ∷ os) zero new (suc i) other = refl
set_else (x ∷ os) (suc place) new zero other = refl
set_else (x ∷ os) (suc place) new (suc i) other = set_else os place new i (λ e. other (ap suc e))

after_given : (before : Opening) (bytes : List ℕ) → (after_bytes before bytes).given ≡ before.given ++ bytes
after_given before [] = sym (append-nil _)
after_given before (b ∷ bytes) = refl

after_name : (before : Opening) (bytes : List ℕ) → (after_bytes before bytes).name ≡ before.name
after_name before [] = refl
after_name before (b ∷ bytes) = refl

-- the innermost opening before a reading, and after it
module _ {s : Sources} {old new : Openings} {bytes : List ℕ} (g : GivesInnermost s old new bytes) where
  here : innermost_place old ≡ g.place
  here =
      let last : length (g.outer ++ g.place ∷ []) - 1 ≡ length g.outer = omega (arith, length-append g.outer (g.place ∷ [])) in
      ap (λ (places : List ℕ). get_or places (length places - 1) 0) g.innermost
      ∙ ap (λ n. get_or (g.outer ++ g.place ∷ []) n 0) last ∙ get_or-append_seam g.outer g.place [] 0

  all_are : new.all ≡ slice_set old.all g.place (after_bytes g.before bytes)
  all_are = ap (λ (o : Openings). o.all) g.after

  places_are : new.open_places ≡ old.open_places
  places_are = ap (λ (o : Openings). o.open_places) g.after

  was : innermost old ≡ g.before
  was = ap (λ n. get_or old.all n (opened [])) here ∙ get_or_from_slice_get old.all g.place g.before (opened []) g.was_opened

  now_is : innermost new ≡ after_bytes g.before bytes
  now_is = ap (λ n. get_or new.all n (opened [])) (ap (λ (places : List ℕ). get_or places (length places - 1) 0) places_are ∙ here)
      ∙ ap (λ os. get_or os g.place (opened [])) all_are ∙ set_at old.all g.place g.before (after_bytes g.before bytes) g.was_opened

  rest_is : unread s new ≡ g.gives.rest
  rest_is = ap (λ o. unread_of s o) now_is
      ∙ ap (λ n. drop (length (after_bytes g.before bytes).given) (unwrap_or (s n) [])) (after_name g.before bytes)
      ∙ ap (λ given. drop (length given) (unwrap_or (s g.before.name) [])) (after_given g.before bytes)
      ∙ ap (λ w. drop (length (g.before.given ++ bytes)) w) (ap (λ o. unwrap_or o []) g.gives.is_source ∙ g.gives.in_order)
      ∙ drop-append_seam (g.before.given ++ bytes) g.gives.rest

  -- the bytes that a reading of the innermost source gives
  pub gave_of : Gave s old new bytes
  gave_of = record {
    next = ap (λ o. unread_of s o) was ∙ ap (λ w. drop (length g.before.given) w)
        (ap (λ o. unwrap_or o []) g.gives.is_source ∙ g.gives.in_order ∙ append_assoc g.before.given bytes g.gives.rest)
        ∙ drop-append_seam g.before.given (bytes ++ g.gives.rest) ∙ ap (λ r. bytes ++ r) (sym rest_is);
    given = ap (λ (o : Opening). o.given) now_is ∙ after_given g.before bytes ∙ ap (λ (o : Opening). o.given ++ bytes) (sym was);
    name = ap (λ (o : Opening). o.name) now_is ∙ after_name g.before bytes ∙ ap (λ (o : Opening). o.name) (sym was);
    places = places_are;
    count = ap length all_are ∙ length-set old.all g.place _;
    others = λ i other. ap (λ os. slice_get os i) all_are ∙ set_else old.all g.place _ i (λ e. other (e ∙ sym here));
  }

  -- Where the innermost source gives nothing, it is at its end, and that was read.
  pub nothing_left : bytes ≡ [] → (unread s new ≡ []) × ((innermost new).is_read_out ≡ true)
  nothing_left none = (
    rest_is ∙ g.gives.end_only none,
    ap (λ (o : Opening). o.is_read_out) now_is ∙ ap (λ bs. (after_bytes g.before bs).is_read_out) none,
  )

  -- Where it gives bytes, its end was read only if it was before.
  pub still_open : 0 < length bytes → (innermost old).is_read_out ≡ false → (innermost new).is_read_out ≡ false
  still_open some before =
      ap (λ (o : Opening). o.is_read_out) now_is ∙ after_some bytes some ∙ ap (λ (o : Opening). o.is_read_out) (sym was) ∙ before
    where
      after_some : (xs : List ℕ) → 0 < length xs → (after_bytes g.before xs).is_read_out ≡ g.before.is_read_out
      after_some [] less = absurd (omega arith)
      after_some (x ∷ xs) less = refl

-- the bytes in a window that has some taken
pub window_behind : (n next end : ℕ) (buffer : List ℕ) → next + n ≤ end →
    take (end - (next + n)) (drop (next + n) buffer) ≡ drop n (take (end - next) (drop next buffer))
window_behind n next end buffer some =
    let size : end - next ≡ n + (end - (next + n)) = omega arith in
    ap (λ xs. take (end - (next + n)) xs) (sym (drop-drop n next buffer)) ∙ sym (drop-take n (end - (next + n)) (drop next buffer))
    ∙ ap (λ m. drop n (take m (drop next buffer))) (sym size)

-- the first bytes of those that a reading wrote to, in a window of which nothing was taken
pub written_window : (count : ℕ) (bytes : Vec ℕ) (new : List ℕ) → length new ≡ bytes.len
    → take (count - 0) (with_items bytes new).items ≡ take count new
written_window count bytes new same = ap (take (count - 0)) (with_items_is bytes new same) ∙ ap (λ n. take n new) (omega arith)

-- what a reading wrote to the front of some bytes stands at the front of all of them
pub reads_front : (sources : Sources) (old new : Openings) (front back : List ℕ) (result : Result ℕ ReadFault)
    → IfOk result (λ n. n ≤ length front) → Reads sources old new front result → Reads sources old new (front ++ back) result
reads_front sources old new front back (Ok n) few reads =
    subst (λ bytes. GivesInnermost sources old new bytes) (sym (take-append-le n front back few)) reads
reads_front sources old new front back (Err fault) few reads = reads
