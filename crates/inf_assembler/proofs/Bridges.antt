-- The results computed from the kept entries are those of the cells.
use Rattle.std.proofs.Common.{◌≡◌, ℕ, ◌+◌, ◌-◌, ◌≤◌, Bool, true, false, cond, List, [], ◌∷◌, ◌++◌, length, take, drop, Option, Some, None}
use Rattle.std.proofs.Common.{is_some, refl, sym, ◌∙◌, ap, arith, append-nil, append_assoc, length-append, length-drop}
use Rattle.std.proofs.lemmas.List.{drop_at, drop-drop, take_at}
use Rattle.inf_opcode.specs.{declared.cells.Kept.Kept, declared.cells.Special.Special}
use Rattle.inf_opcode.specs.Cells.{Cell, Plain, Of, special_size, special_bytes, long_bytes, kept_from}
use Rattle.inf_assembler.specs.Places.{Places, with_some, joined, is_short_to, size_at, long_place, place_from, closed_special}
use Rattle.inf_assembler.specs.Places.{closed_bytes, closed_fixups, fixup_at, first_of, marks, unplaced, used_by, missing, marked_again}
use Rattle.inf_assembler.specs.Places.{twice_behind}
use Rattle.inf_assembler.specs.Closing.{AreInOrder, nowhere, special_saving, kept_place, kept_missing, kept_again, kept_twice, kept_fixups}
use Rattle.inf_assembler.specs.Closing.{placed_bytes, with_bytes, squeezed}
use Rattle.inf_opcode.proofs.Growing.{length-special}
use Rattle.inf_assembler.proofs.Passes.{saving_nowhere, closed_size, size_le, kept_place-push}
use Rattle.inf_assembler.proofs.Placing.{length-placed, take-placed_all, drop-placed}

-- the kept entries are in order
pub order_kept : (from place end : ℕ) (cells : List Cell) → from ≤ place → place + length (long_bytes cells) ≡ end →
    AreInOrder from (kept_from place cells) end
order_kept from place end [] before e = omega arith
order_kept from place end ((Plain byte) ∷ cells) before e = order_kept from (place + 1) end cells (omega arith) (omega arith)
order_kept from place end ((Of what) ∷ cells) before e = (
  before,
  order_kept (place + special_size what) (place + special_size what) end cells (omega arith)
      (omega (arith, length-append (special_bytes what) (long_bytes cells), length-special what)),
)

-- a size and the saving are the long size
cond_saving : (b : Bool) → cond b 1 0 + cond b 1 2 ≡ 2
cond_saving true = refl
cond_saving false = refl

pub size_saving : (long : Places) (old : ℕ) (what : Special) → special_saving long old what + size_at long old what ≡ special_size what
size_saving long old (Special.Marks label) = refl
size_saving long old (Special.Branches branch) = cond_saving (is_short_to long old branch.target)
size_saving long old (Special.Jumps label) = refl
size_saving long old (Special.Refers target) = refl

-- the places of labels
pub place_bridge : (long : Places) (saved old new : ℕ) (cells : List Cell) (n : ℕ) → old ≡ new + saved →
    kept_place long saved (kept_from old cells) n ≡ place_from long old new cells n
place_bridge long saved old new [] n e = refl
place_bridge long saved old new ((Plain byte) ∷ cells) n e = place_bridge long saved (old + 1) (new + 1) cells n (omega arith)
place_bridge long saved old new ((Of what) ∷ cells) n e =
    let here : old - saved ≡ new = omega arith in
    ap (λ p. cond (marks n what) (Some p) (kept_place long (saved + special_saving long old what)
    (kept_from (old + special_size what) cells) n)) here ∙ ap (λ o. cond (marks n what) (Some new) o)
    (place_bridge long (saved + special_saving long old what) (old + special_size what) (new + size_at long old what) cells n
    (omega (arith, size_saving long old what)))

pub long_bridge : (old new : ℕ) (cells : List Cell) (n : ℕ) → old ≡ new → place_from nowhere old new cells n ≡ long_place new cells n
long_bridge old new [] n e = refl
long_bridge old new ((Plain byte) ∷ cells) n e = long_bridge (old + 1) (new + 1) cells n (omega arith)
long_bridge old new ((Of what) ∷ cells) n e =
    let size : size_at nowhere old what ≡ special_size what = omega (arith, size_saving nowhere old what, saving_nowhere old what) in
    ap (λ o. cond (marks n what) (Some new) o)
    (ap (λ k. place_from nowhere (old + special_size what) (new + k) cells n) size ∙ long_bridge (old + special_size what)
    (new + special_size what) cells n (omega arith))

-- the fixups of cells at their final places are those at the places with long branches, less the bytes that were saved
pub fixups_bridge : (long : Places) (saved old new : ℕ) (cells : List Cell) → old ≡ new + saved →
    kept_fixups long saved (kept_from old cells) ≡ closed_fixups long old new cells
fixups_bridge long saved old new [] e = refl
fixups_bridge long saved old new ((Plain byte) ∷ cells) e = fixups_bridge long saved (old + 1) (new + 1) cells (omega arith)
fixups_bridge long saved old new ((Of what) ∷ cells) e =
    let here : old - saved ≡ new = omega arith in
    ap (λ p. fixup_at p what ++ kept_fixups long (saved + special_saving long old what) (kept_from (old + special_size what) cells)) here
    ∙ ap (λ hs. fixup_at new what ++ hs)
    (fixups_bridge long (saved + special_saving long old what) (old + special_size what) (new + size_at long old what) cells
    (omega (arith, size_saving long old what)))

-- the labels that are missing
pub missing_bridge : (places : Places) (place : ℕ) (cells : List Cell) → kept_missing places (kept_from place cells) ≡ missing places cells
missing_bridge places place [] = refl
missing_bridge places place ((Plain byte) ∷ cells) = missing_bridge places (place + 1) cells
missing_bridge places place ((Of what) ∷ cells) =
    ap (first_of (unplaced places (used_by what))) (missing_bridge places (place + special_size what) cells)

-- functions of a value that may be none may be joined
with_some-map : {A B C : Type 0} (f : B → C) (g : A → B) (h : A → C) → ((x : A) → h x ≡ f (g x)) → (o : Option A) →
    with_some h o ≡ with_some f (with_some g o)
with_some-map f g h same None = refl
with_some-map f g h same (Some x) = ap Some (same x)

with_some-same : {A B : Type 0} (f h : A → B) → ((x : A) → h x ≡ f x) → (o : Option A) → with_some h o ≡ with_some f o
with_some-same f h same None = refl
with_some-same f h same (Some x) = ap Some (same x)

-- one entry, whose bytes are moved and written
squeezed_special : (long places : Places) (what : Special) (cells : List Cell) (mid : List ℕ) (from to : ℕ) (xs : List ℕ) → to ≤ from →
    from ≤ length xs → drop from xs ≡ mid ++ long_bytes (Of what ∷ cells)
    → ((from to : ℕ) (xs : List ℕ) → to ≤ from → from ≤ length xs → drop from xs ≡ long_bytes cells → squeezed long places from to
    (kept_from from cells) xs ≡ with_some (λ rest. take to xs ++ rest) (closed_bytes long places from to cells))
    → (closed : Option (List ℕ)) → closed ≡ closed_special long places (from + length mid) (to + length mid) what
    → with_bytes (λ added. squeezed long places (from + length mid + special_size what) (to + length mid + length added)
    (kept_from (from + length mid + special_size what) cells) (placed_bytes to from (length mid) added xs)) closed
    ≡ with_some (λ rest. take to xs ++ mid ++ rest) (joined closed (closed_bytes long places (from + length mid + special_size what)
    (to + length mid + size_at long (from + length mid) what) cells))
squeezed_special long places what cells mid from to xs before within e next None is = refl
squeezed_special long places what cells mid from to xs before within e next (Some added) is =
    let n = length mid in let special = special_bytes what in let new = to + n + length added in
    let old = from + n + special_size what in let ys = placed_bytes to from n added xs in
    let size = closed_size long places (from + n) (to + n) what added (sym is) in
    let small = size_le long (from + n) what in
    let long_all : length (drop from xs) ≡ n + (special_size what + length (long_bytes cells)) =
    ap length e ∙ length-append mid (special ++ long_bytes cells)
    ∙ ap (λ k. n + k) (length-append special (long_bytes cells) ∙ ap (λ k. k + length (long_bytes cells)) (length-special what)) in
    let within_n : from + n ≤ length xs = omega (arith, long_all, length-drop from xs) in
    let room : to + n + length added ≤ length xs = omega (arith, long_all, length-drop from xs, size, small) in
    let front : take new ys ≡ take to xs ++ mid ++ added = take-placed_all to from n added xs before within_n room
    ∙ ap (λ zs. take to xs ++ zs ++ added) (ap (take n) e ∙ take_at mid (special ++ long_bytes cells) n refl) in
    let behind : drop old ys ≡ long_bytes cells = drop-placed to from n added xs before within_n room old (omega (arith, size, small))
    ∙ ap (λ k. drop k xs) (omega arith) ∙ sym (drop-drop (n + special_size what) from xs)
    ∙ ap (drop (n + special_size what)) (e ∙ sym (append_assoc mid special (long_bytes cells)))
    ∙ drop_at (mid ++ special) (long_bytes cells) (n + special_size what)
    (length-append mid special ∙ ap (λ k. n + k) (length-special what)) in
    let inside : old ≤ length ys = omega (arith, length-placed to from n added xs before within_n room, long_all, length-drop from xs) in
    next old new ys (omega (arith, size, small)) inside behind
    ∙ ap (λ zs. with_some (λ rest. zs ++ rest) (closed_bytes long places old new cells)) front
    ∙ with_some-map (λ rest. take to xs ++ mid ++ rest) (λ rest. added ++ rest) (λ rest. (take to xs ++ mid ++ added) ++ rest)
    (λ rest. append_assoc (take to xs ++ mid) added rest) (closed_bytes long places old new cells)
    ∙ ap (λ k. with_some (λ rest. take to xs ++ mid ++ rest)
    (with_some (λ rest. added ++ rest) (closed_bytes long places old (to + n + k) cells))) size

-- the bytes that are moved together
squeezed_cells : (long places : Places) (cells : List Cell) (mid : List ℕ) (from to : ℕ) (xs : List ℕ) → to ≤ from → from ≤ length xs →
    drop from xs ≡ mid ++ long_bytes cells
    → squeezed long places from to (kept_from (from + length mid) cells) xs ≡ with_some (λ rest. take to xs ++ mid ++ rest)
    (closed_bytes long places (from + length mid) (to + length mid) cells)
squeezed_cells long places [] mid from to xs before within e =
    ap Some (ap (λ zs. take to xs ++ zs) e ∙ sym (append_assoc (take to xs) mid []))
squeezed_cells long places ((Plain byte) ∷ cells) mid from to xs before within e =
    let more = length-append mid (byte ∷ []) in
    let old : from + length (mid ++ byte ∷ []) ≡ from + length mid + 1 = omega (arith, more) in
    let new : to + length (mid ++ byte ∷ []) ≡ to + length mid + 1 = omega (arith, more) in
    ap (λ k. squeezed long places from to (kept_from k cells) xs) (sym old)
    ∙ squeezed_cells long places cells (mid ++ byte ∷ []) from to xs before within
    (e ∙ sym (append_assoc mid (byte ∷ []) (long_bytes cells))) ∙ ap (λ k. with_some (λ rest. take to xs ++ (mid ++ byte ∷ []) ++ rest)
    (closed_bytes long places k (to + length (mid ++ byte ∷ [])) cells)) old
    ∙ ap (λ k. with_some (λ rest. take to xs ++ (mid ++ byte ∷ []) ++ rest) (closed_bytes long places (from + length mid + 1) k cells)) new
    ∙ with_some-map (λ rest. take to xs ++ mid ++ rest) (λ rest. byte ∷ rest) (λ rest. take to xs ++ (mid ++ byte ∷ []) ++ rest)
    (λ rest. ap (λ zs. zs ++ rest) (sym (append_assoc (take to xs) mid (byte ∷ []))) ∙ append_assoc (take to xs ++ mid) (byte ∷ []) rest)
    (closed_bytes long places (from + length mid + 1) (to + length mid + 1) cells)
squeezed_cells long places ((Of what) ∷ cells) mid from to xs before within e =
    let n = length mid in let back : from + n - from ≡ n = omega arith in
    let whole : ℕ → Option (List ℕ) = λ k. with_bytes (λ added. squeezed long places (from + n + special_size what) (to + k + length added)
    (kept_from (from + n + special_size what) cells) (placed_bytes to from k added xs))
    (closed_special long places (from + n) (to + k) what) in
    let next : (from to : ℕ) (xs : List ℕ) → to ≤ from → from ≤ length xs → drop from xs ≡ long_bytes cells → squeezed long places from to
    (kept_from from cells) xs ≡ with_some (λ rest. take to xs ++ rest) (closed_bytes long places from to cells) =
    λ from to xs before within e.
    let old : from + 0 ≡ from = omega arith in let new : to + 0 ≡ to = omega arith in
    ap (λ k. squeezed long places from to (kept_from k cells) xs) (sym old) ∙ squeezed_cells long places cells [] from to xs before within e
    ∙ ap (λ k. with_some (λ rest. take to xs ++ [] ++ rest) (closed_bytes long places k (to + 0) cells)) old
    ∙ ap (λ k. with_some (λ rest. take to xs ++ [] ++ rest) (closed_bytes long places from k cells)) new
    ∙ with_some-same (λ rest. take to xs ++ rest) (λ rest. take to xs ++ [] ++ rest)
    (λ rest. ap (λ zs. zs ++ rest) (append-nil (take to xs))) (closed_bytes long places from to cells) in
    ap whole back
    ∙ squeezed_special long places what cells mid from to xs before within e next (closed_special long places (from + n) (to + n) what) refl

-- the bytes of a routine whose cells follow a front
pub squeezed_bridge : (long places : Places) (cells : List Cell) (front : List ℕ) (start : ℕ) → start ≡ length front
    → squeezed long places start start (kept_from start cells) (front ++ long_bytes cells) ≡ with_some (λ rest. front ++ rest)
    (closed_bytes long places start start cells)
squeezed_bridge long places cells front start is =
    let zeroth : start + 0 ≡ start = omega arith in let xs = front ++ long_bytes cells in
    ap (λ k. squeezed long places start start (kept_from k cells) xs) (sym zeroth)
    ∙ squeezed_cells long places cells [] start start xs (omega arith) (omega (arith, length-append front (long_bytes cells)))
    (drop_at front (long_bytes cells) start (sym is))
    ∙ ap (λ k. with_some (λ rest. take start xs ++ [] ++ rest) (closed_bytes long places k k cells)) zeroth
    ∙ with_some-same (λ rest. front ++ rest) (λ rest. take start xs ++ [] ++ rest)
    (λ rest. ap (λ zs. zs ++ rest) (append-nil (take start xs) ∙ take_at front (long_bytes cells) start (sym is)))
    (closed_bytes long places start start cells)

-- the labels that are marked twice
marked-cond : (b : Bool) (p q : ℕ) → is_some (cond b (Some p) None) ≡ is_some (cond b (Some q) None)
marked-cond true p q = refl
marked-cond false p q = refl

marked_first : (b : Bool) (p : ℕ) (x y z : Option ℕ) → is_some x ≡ is_some (first_of y z) →
    is_some (cond b (Some p) x) ≡ is_some (first_of (cond b (Some p) y) z)
marked_first true p x y z e = refl
marked_first false p x y z e = e

one : ℕ → Special → Option ℕ
one n what = cond (marks n what) (Some 0) None

long_push : (place : ℕ) (before : List Cell) (what : Special) (n : ℕ) →
    is_some (long_place place (before ++ Of what ∷ []) n) ≡ is_some (first_of (long_place place before n) (one n what))
unfolding one
long_push place [] what n = marked-cond (marks n what) place 0
long_push place ((Plain byte) ∷ before) what n = long_push (place + 1) before what n
long_push place ((Of first) ∷ before) what n =
    marked_first (marks n first) place (long_place (place + special_size first) (before ++ Of what ∷ []) n)
    (long_place (place + special_size first) before n) (one n what) (long_push (place + special_size first) before what n)

marked_same : (b : Bool) (p q : ℕ) (x y : Option ℕ) → is_some x ≡ is_some y →
    is_some (first_of x (cond b (Some p) None)) ≡ is_some (first_of y (cond b (Some q) None))
marked_same b p q None None e = marked-cond b p q
marked_same b p q None (Some y) e = cc
marked_same b p q (Some x) None e = cc
marked_same b p q (Some x) (Some y) e = refl

again_same : (kept : List Kept) (before : List Cell) (what : Special) →
    ((n : ℕ) → is_some (kept_place nowhere 0 kept n) ≡ is_some (long_place 0 before n)) → kept_again kept what ≡ marked_again before what
again_same kept before (Special.Marks label) same = ap (λ b. cond b (Some label) None) (same label.number)
again_same kept before (Special.Branches branch) same = refl
again_same kept before (Special.Jumps label) same = refl
again_same kept before (Special.Refers target) same = refl

pub twice_bridge : (kept : List Kept) (before cells : List Cell) (place : ℕ) →
    ((n : ℕ) → is_some (kept_place nowhere 0 kept n) ≡ is_some (long_place 0 before n)) →
    kept_twice kept (kept_from place cells) ≡ twice_behind before cells
twice_bridge kept before [] place same = refl
twice_bridge kept before ((Plain byte) ∷ cells) place same = twice_bridge kept before cells (place + 1) same
twice_bridge kept before ((Of what) ∷ cells) place same =
    let entry : Kept = record { place = place; what = what } in
    ap (λ o. first_of o (kept_twice (kept ++ entry ∷ []) (kept_from (place + special_size what) cells))) (again_same kept before what same)
    ∙ ap (first_of (marked_again before what)) (twice_bridge (kept ++ entry ∷ []) (before ++ Of what ∷ []) cells (place + special_size what)
    (λ n. ap is_some (kept_place-push 0 kept entry n) ∙ marked_same (marks n what) (place - 0) 0 (kept_place nowhere 0 kept n)
    (long_place 0 before n) (same n) ∙ sym (unfold one in long_push 0 before what n)))
