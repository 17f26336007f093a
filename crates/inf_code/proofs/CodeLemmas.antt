-- Bytes with fixups as cells: piece by piece, and closed.
use Rattle.std.proofs.Common.{◌≡◌, ℕ, ◌+◌, ◌-◌, ◌≤◌, List, [], ◌∷◌, ◌++◌, length, take, drop, Option, Some, None, refl, sym, ◌∙◌, ap, subst}
use Rattle.std.proofs.Common.{arith, append_assoc, append-nil, length-append}
use Rattle.std.proofs.lemmas.List.{map-append, drop_all, take-append-le, drop-append-le, length-drop}
use Rattle.std.proofs.Math.Seq.{take-append-add, drop-append-add}
use Rattle.inf_area.specs.{declared.cells.Cell.Cell as CodeCell, declared.fixups.Fixup.Fixup, declared.scale.Scale.Scale}
use Rattle.inf_area.specs.{declared.targets.AreaName.AreaName, declared.targets.Target.Target}
use Rattle.inf_area.specs.Cells.{bytes_of, fixups_of, size_of}
use Rattle.inf_area.proofs.Joining.{bytes_of-append, bytes_of-known, fixups_of-append, fixups_of-known, length-bytes_of}
use Rattle.inf_opcode.specs.{Cells.Cell, Cells.Of, Cells.Plain, Cells.special_size, declared.cells.Special.Special}
use Rattle.inf_assembler.specs.declared.routines.RoutineKind.{RoutineKind}
use Rattle.inf_assembler.specs.Places.{Places, size_at, with_some, closed_special, joined, closed_bytes, fixup_at, closed_fixups}
use Rattle.inf_assembler.specs.Routines.{Contents, long_places, places, closing, body_bytes, routine_fixups}
use Rattle.inf_assembler.proofs.Passes.{closed_size}
use Rattle.inf_code.specs.Code.{StandsFor, known, padded, cells_from, AreInOrder, whole_bytes, cells_with, routine_cells, zeros_behind}

-- the fixups lie before the end
in_order-bound : (place end : ℕ) (fixups : List Fixup) → AreInOrder place fixups end → place ≤ end
in_order-bound place end [] within = within
in_order-bound place end (fixup ∷ fixups) within =
    let next = in_order-bound (fixup.place + 2) end fixups within.1 in let first : place ≤ fixup.place = within.0 in
    omega arith

-- fixups behind others
in_order-append : (place middle end : ℕ) (fixups more : List Fixup) → AreInOrder place fixups middle → AreInOrder middle more end →
    AreInOrder place (fixups ++ more) end
in_order-append place middle end [] [] first second = omega arith
in_order-append place middle end [] (fixup ∷ more) first second =
    let behind : middle ≤ fixup.place = second.0 in (omega arith, second.1)
in_order-append place middle end (fixup ∷ fixups) more first second =
    (first.0, in_order-append (fixup.place + 2) middle end fixups more first.1 second)

-- the cells of bytes behind other bytes are those behind the cells of these
cells_from-append : (place middle end : ℕ) (fixups more : List Fixup) (bytes new : List ℕ) → middle ≡ place + length bytes →
    AreInOrder place fixups middle → AreInOrder middle more end →
    cells_from place (fixups ++ more) (bytes ++ new) ≡ cells_from place fixups bytes ++ cells_from middle more new
cells_from-append place middle end [] [] bytes new at first second = map-append CodeCell.Byte bytes new
cells_from-append place middle end [] (fixup ∷ more) bytes new at first second =
    let behind : middle ≤ fixup.place = second.0 in
    let front : fixup.place - place ≡ length bytes + (fixup.place - middle) = omega arith in
    let back : fixup.place + 2 - place ≡ length bytes + (fixup.place + 2 - middle) = omega arith in
    let rest : List ℕ → List CodeCell = λ xs. CodeCell.Later fixup.target ∷ cells_from (fixup.place + 2) more xs in
    ap (λ n. known (take n (bytes ++ new)) ++ rest (drop (fixup.place + 2 - place) (bytes ++ new))) front
    ∙ ap (λ n. known (take (length bytes + (fixup.place - middle)) (bytes ++ new)) ++ rest (drop n (bytes ++ new))) back
    ∙ ap (λ xs. known xs ++ rest (drop (length bytes + (fixup.place + 2 - middle)) (bytes ++ new)))
    (take-append-add bytes new (fixup.place - middle))
    ∙ ap (λ xs. known (bytes ++ take (fixup.place - middle) new) ++ rest xs) (drop-append-add bytes new (fixup.place + 2 - middle))
    ∙ ap (λ xs. xs ++ rest (drop (fixup.place + 2 - middle) new)) (map-append CodeCell.Byte bytes (take (fixup.place - middle) new))
    ∙ append_assoc (known bytes) (known (take (fixup.place - middle) new)) (rest (drop (fixup.place + 2 - middle) new))
cells_from-append place middle end (fixup ∷ fixups) more bytes new at first second =
    let bound : fixup.place + 2 ≤ middle = in_order-bound (fixup.place + 2) middle fixups first.1 in
    let behind : place ≤ fixup.place = first.0 in let front : fixup.place - place ≤ length bytes = omega arith in
    let back : fixup.place + 2 - place ≤ length bytes = omega arith in
    let left = drop (fixup.place + 2 - place) bytes in
    let long : middle ≡ fixup.place + 2 + length left = omega (arith, length-drop (fixup.place + 2 - place) bytes) in
    let rest : List ℕ → List CodeCell = λ xs. CodeCell.Later fixup.target ∷ cells_from (fixup.place + 2) (fixups ++ more) xs in
    let before = known (take (fixup.place - place) bytes) in
    ap (λ xs. known xs ++ rest (drop (fixup.place + 2 - place) (bytes ++ new))) (take-append-le (fixup.place - place) bytes new front)
    ∙ ap (λ xs. before ++ rest xs) (drop-append-le (fixup.place + 2 - place) bytes new back)
    ∙ ap (λ cells. before ++ CodeCell.Later fixup.target ∷ cells)
    (cells_from-append (fixup.place + 2) middle end fixups more left new long first.1 second)
    ∙ sym (append_assoc before (CodeCell.Later fixup.target ∷ cells_from (fixup.place + 2) fixups left) (cells_from middle more new))

-- one piece behind the other
pub stands_for-append : (place middle : ℕ) (fixups more : List Fixup) (bytes new : List ℕ) (cells others : List CodeCell) →
    middle ≡ place + length bytes → StandsFor place fixups bytes cells → StandsFor middle more new others →
    StandsFor place (fixups ++ more) (bytes ++ new) (cells ++ others)
stands_for-append place middle fixups more bytes new cells others at first second =
    let end : middle + length new ≡ place + length (bytes ++ new) = omega (arith, length-append bytes new) in
    let within : AreInOrder place fixups middle = subst (λ n. AreInOrder place fixups n) (sym at) first.in_order in
    let behind : place + size_of cells ≡ middle = omega (arith, at, length-bytes_of cells, ap length first.bytes_are) in
    record {
      in_order = subst (λ n. AreInOrder place (fixups ++ more) n) end
          (in_order-append place middle (middle + length new) fixups more within second.in_order);
      are = cells_from-append place middle (middle + length new) fixups more bytes new at within second.in_order
          ∙ ap (λ xs. xs ++ cells_from middle more new) first.are ∙ ap (λ xs. cells ++ xs) second.are;
      bytes_are = bytes_of-append cells others ∙ ap (λ xs. xs ++ bytes_of others) first.bytes_are ∙ ap (λ xs. bytes ++ xs) second.bytes_are;
      fixups_are = fixups_of-append AreaName.Code place cells others
          ∙ ap (λ xs. xs ++ fixups_of AreaName.Code (place + size_of cells) others) first.fixups_are
          ∙ ap (λ n. fixups ++ fixups_of AreaName.Code n others) behind ∙ ap (λ xs. fixups ++ xs) second.fixups_are;
    }

-- bytes without fixups
pub stands_for-known : (place : ℕ) (bytes : List ℕ) → StandsFor place [] bytes (known bytes)
stands_for-known place bytes =
    record { in_order = omega arith; are = refl; bytes_are = bytes_of-known bytes; fixups_are = fixups_of-known AreaName.Code place bytes }

-- a number that is known later
stands_for-later : (place : ℕ) (target : Target) →
    StandsFor place (record { area = AreaName.Code; place = place; target = target } ∷ []) (0 ∷ 0 ∷ []) (CodeCell.Later target ∷ [])
stands_for-later place target =
    let zeros : List ℕ = 0 ∷ 0 ∷ [] in let none : place - place ≡ 0 = omega arith in
    let both : place + 2 - place ≡ 2 = omega arith in
    record {
      in_order = (omega arith, omega arith);
      are = ap (λ n. known (take n zeros) ++ CodeCell.Later target ∷ known (drop (place + 2 - place) zeros)) none
          ∙ ap (λ n. CodeCell.Later target ∷ known (drop n zeros)) both;
      bytes_are = refl;
      fixups_are = refl;
    }

-- cells that bytes with fixups stand for may be replaced by equal ones
rebased : (place : ℕ) (fixups : List Fixup) (bytes : List ℕ) (cells others : List CodeCell) → StandsFor place fixups bytes cells →
    others ≡ cells_from place fixups bytes → StandsFor place fixups bytes others
rebased place fixups bytes cells others stands same = subst (StandsFor place fixups bytes) (sym (same ∙ stands.are)) stands

pub itself : (place : ℕ) (fixups : List Fixup) (bytes : List ℕ) (cells : List CodeCell) → StandsFor place fixups bytes cells →
    StandsFor place fixups bytes (cells_from place fixups bytes)
itself place fixups bytes cells stands = rebased place fixups bytes cells (cells_from place fixups bytes) stands refl

-- cells have as many bytes as those that they stand for
pub size-stands_for : (place : ℕ) (fixups : List Fixup) (bytes : List ℕ) (cells : List CodeCell) → StandsFor place fixups bytes cells →
    size_of cells ≡ length bytes
size-stands_for place fixups bytes cells stands = sym (length-bytes_of cells) ∙ ap length stands.bytes_are

-- what comes of something that may be none
some_with : {A B : Type 0} (f : A → B) (o : Option A) (y : B) → with_some f o ≡ Some y → (x : A) × (o ≡ Some x) × (y ≡ f x)
some_with f None y e = cc
some_with f (Some x) y e = (x, refl, (cc))

some_joined : (o others : Option (List ℕ)) (bytes : List ℕ) → joined o others ≡ Some bytes →
    (added : List ℕ) × (rest : List ℕ) × (o ≡ Some added) × (others ≡ Some rest) × (bytes ≡ added ++ rest)
some_joined None others bytes e = cc
some_joined (Some added) others bytes e =
    let found = some_with (λ rest. added ++ rest) others bytes e in
    (added, found.0, refl, found.1, found.2)

-- the cells of a thing
abbrev Cells : ℕ → List Fixup → List ℕ → Type 0
Cells place fixups bytes = (cells : List CodeCell) × StandsFor place fixups bytes cells

stands_for-special : (long places : Places) (old new : ℕ) (what : Special) (added : List ℕ) →
    closed_special long places old new what ≡ Some added → Cells new (fixup_at new what) added
stands_for-special long places old new (Special.Marks label) added e = (known added, stands_for-known new added)
stands_for-special long places old new (Special.Branches branch) added e = (known added, stands_for-known new added)
stands_for-special long places old new (Special.Jumps label) added e = (known added, stands_for-known new added)
stands_for-special long places old new (Special.Refers target) added e =
    let zeros : 0 ∷ 0 ∷ [] ≡ added = cc in (
      CodeCell.Later target ∷ [],
      subst (λ xs. StandsFor new (fixup_at new (Special.Refers target)) xs (CodeCell.Later target ∷ [])) zeros
          (stands_for-later new target),
    )

-- the cells of a closed routine
stands_for-items : (long places : Places) (old new : ℕ) (cells : List Cell) (bytes : List ℕ) →
    closed_bytes long places old new cells ≡ Some bytes → Cells new (closed_fixups long old new cells) bytes
stands_for-items long places old new [] bytes e = (known bytes, stands_for-known new bytes)
stands_for-items long places old new ((Plain byte) ∷ cells) bytes e =
    let found = some_with (λ rest. byte ∷ rest) (closed_bytes long places (old + 1) (new + 1) cells) bytes e in
    let others = stands_for-items long places (old + 1) (new + 1) cells found.0 found.1 in
    let fixups = closed_fixups long (old + 1) (new + 1) cells in
    let all = stands_for-append new (new + 1) [] fixups (byte ∷ []) found.0 (known (byte ∷ [])) others.0 (omega arith)
    (stands_for-known new (byte ∷ [])) others.1 in
    let codes = known (byte ∷ []) ++ others.0 in (codes, subst (λ xs. StandsFor new fixups xs codes) (sym found.2) all)
stands_for-items long places old new ((Of what) ∷ cells) bytes e =
    let later = old + special_size what in let next = new + size_at long old what in
    let found = some_joined (closed_special long places old new what) (closed_bytes long places later next cells) bytes e in
    let first = stands_for-special long places old new what found.0 found.2 in
    let others = stands_for-items long places later next cells found.1 found.3 in
    let here : length found.0 ≡ size_at long old what = closed_size long places old new what found.0 found.2 in
    let fixups = closed_fixups long later next cells in
    let all =
    stands_for-append new next (fixup_at new what) fixups found.0 found.1 first.0 others.0 (omega (arith, here)) first.1 others.1 in
    let codes = first.0 ++ others.0 in
    (codes, subst (λ xs. StandsFor new (fixup_at new what ++ fixups) xs codes) (sym found.4) all)

stands_for-routine : (place : ℕ) (kind : RoutineKind) (contents : Contents) (body : List ℕ) → body_bytes place contents ≡ Some body →
    StandsFor place (routine_fixups place contents) (whole_bytes kind contents body) (routine_cells place kind contents)
stands_for-routine place kind contents body is =
    let fixups = routine_fixups place contents in let end = closing kind contents in
    let items = stands_for-items (long_places place contents) (places place contents) (place + 1) (place + 1) contents.cells body is in
    let front = known (contents.locals ∷ []) in
    let first : StandsFor place fixups (contents.locals ∷ body) (front ++ items.0) =
    stands_for-append place (place + 1) [] fixups (contents.locals ∷ []) body front items.0 (omega arith)
    (stands_for-known place (contents.locals ∷ [])) items.1 in
    let behind = place + length (contents.locals ∷ body) in
    let all : StandsFor place (fixups ++ []) (whole_bytes kind contents body) ((front ++ items.0) ++ known end) =
    stands_for-append place behind fixups [] (contents.locals ∷ body) end (front ++ items.0) (known end) refl first
    (stands_for-known behind end) in
    let cells = (front ++ items.0) ++ known end in
    let whole : StandsFor place fixups (whole_bytes kind contents body) cells =
    subst (λ hs. StandsFor place hs (whole_bytes kind contents body) cells) (append-nil fixups) all in
    rebased place fixups (whole_bytes kind contents body) cells (routine_cells place kind contents) whole
    (ap (cells_with place kind contents) is)

-- a routine, and the zeros behind it
stands_for-padded : (scale : Scale) (start : ℕ) (kind : RoutineKind) (contents : Contents) (body : List ℕ) →
    body_bytes start contents ≡ Some body → StandsFor start (routine_fixups start contents)
    (whole_bytes kind contents body ++ zeros_behind scale (length (whole_bytes kind contents body)))
    (padded scale (routine_cells start kind contents))
stands_for-padded scale start kind contents body is =
    let code = whole_bytes kind contents body in let cells = routine_cells start kind contents in
    let fixups = routine_fixups start contents in let zeros = zeros_behind scale (length code) in
    let end = start + length code in let routine = stands_for-routine start kind contents body is in
    let behind = stands_for-append start end fixups [] code zeros cells (known zeros) refl routine (stands_for-known end zeros) in
    let here : StandsFor start fixups (code ++ zeros) (cells ++ known zeros) =
    subst (λ hs. StandsFor start hs (code ++ zeros) (cells ++ known zeros)) (append-nil fixups) behind in
    let same : length code ≡ size_of cells = sym (size-stands_for start fixups code cells routine) in
    subst (λ n. StandsFor start fixups (code ++ zeros) (cells ++ known (zeros_behind scale n))) same here

-- The cells of a routine and its zeros follow those that were closed before, where its bytes were written behind them.
pub stands_for-closed : (scale : Scale) (kind : RoutineKind) (contents : Contents) (body : List ℕ) (from : ℕ) (fixups listed : List Fixup)
    (area written whole : List ℕ) (cells : List CodeCell) (start count : ℕ)
    → start ≡ from + length area → body_bytes start contents ≡ Some body → StandsFor from fixups area cells
    → listed ≡ fixups ++ routine_fixups start contents → written ≡ area ++ contents.locals ∷ body ++ closing kind contents
    → count ≡ length (whole_bytes kind contents body) → whole ≡ written ++ zeros_behind scale count
    → StandsFor from listed whole (cells ++ padded scale (routine_cells start kind contents))
stands_for-closed scale kind contents body from fixups listed area written whole cells start count at is before are_listed are_written
    counted is_whole =
    let code = whole_bytes kind contents body in let more = routine_fixups start contents in
    let new = code ++ zeros_behind scale (length code) in
    let closed = padded scale (routine_cells start kind contents) in
    let all : StandsFor from (fixups ++ more) (area ++ new) (cells ++ closed) =
    stands_for-append from start fixups more area new cells closed at before (stands_for-padded scale start kind contents body is) in
    let routine : written ≡ area ++ code = are_written ∙ append_assoc area (contents.locals ∷ body) (closing kind contents) in
    let bytes_are : area ++ new ≡ whole =
    sym (is_whole ∙ ap (λ xs. xs ++ zeros_behind scale count) routine ∙ ap (λ n. (area ++ code) ++ zeros_behind scale n) counted ∙
    append_assoc area code (zeros_behind scale (length code))) in
    subst (λ xs. StandsFor from listed xs (cells ++ closed)) bytes_are
    (subst (λ hs. StandsFor from hs (area ++ new) (cells ++ closed)) (sym are_listed) all)

-- bytes without those behind a place
pub cut_is : (n : ℕ) (bytes : List ℕ) → n ≤ length bytes → take n bytes ++ drop (n + (length bytes - n)) bytes ≡ take n bytes
cut_is n bytes within =
    let all : n + (length bytes - n) ≡ length bytes = omega arith in
    ap (λ k. take n bytes ++ drop k bytes) all ∙ ap (λ xs. take n bytes ++ xs) (drop_all (length bytes) bytes (omega arith))
    ∙ append-nil (take n bytes)
