-- Open routines: their bytes and the entries that they keep determine their cells.
use Rattle.std.proofs.Common.{◌≡◌, ℕ, ◌+◌, ◌-◌, ◌≤◌, Bool, List, [], ◌∷◌, ◌++◌, length, get_or, take, drop, refl, sym, ◌∙◌, ap, subst}
use Rattle.std.proofs.Common.{arith, append-nil, append_assoc, length-append}
use Rattle.std.proofs.lemmas.List.{map-append, drop_at, take_at, get_or_at, drop_all}
use Rattle.inf_opcode.specs.{Cells.Cell, Cells.Of, Cells.Plain, Cells.cells_of, Cells.fixup_count, Cells.kept_from, Cells.label_count}
use Rattle.inf_opcode.specs.{Cells.long_bytes, Cells.plain, Cells.special_bytes, Cells.special_size, Grown.Grew}
use Rattle.inf_assembler.specs.Routines.{State, Contents, Moment, Were, contents_of, Stands, Holds, with_cells}
use Rattle.inf_opcode.proofs.Growing.{length-special, long-append, kept-append}
use Rattle.inf_opcode.proofs.Counting.{length-long, labels-append, fixups-append}

decoded : (cells : List Cell) (mid : List ℕ) (place : ℕ) →
    cells_of place (kept_from (place + length mid) cells) (mid ++ long_bytes cells) ≡ plain mid ++ cells
decoded [] mid place = map-append Plain mid []
decoded ((Plain byte) ∷ cells) mid place =
    let more : place + length mid + 1 ≡ place + length (mid ++ byte ∷ []) = omega (arith, length-append mid (byte ∷ [])) in
    ap (λ k. cells_of place (kept_from k cells) (mid ++ byte ∷ long_bytes cells)) more
    ∙ ap (cells_of place (kept_from (place + length (mid ++ byte ∷ [])) cells)) (sym (append_assoc mid (byte ∷ []) (long_bytes cells)))
    ∙ decoded cells (mid ++ byte ∷ []) place ∙ ap (λ cs. cs ++ cells) (map-append Plain mid (byte ∷ []))
    ∙ append_assoc (plain mid) (Plain byte ∷ []) cells
decoded ((Of what) ∷ cells) mid place =
    let n = length mid in let special = special_bytes what in let next = place + n + special_size what in
    let bytes = mid ++ (special ++ long_bytes cells) in let front : place + n - place ≡ n = omega arith in
    let behind : next - place ≡ n + special_size what = omega arith in let zeroth : next + 0 ≡ next = omega arith in
    ap (λ k. plain (take k bytes) ++ Of what ∷ cells_of next (kept_from next cells) (drop (next - place) bytes)) front
    ∙ ap (λ xs. plain xs ++ Of what ∷ cells_of next (kept_from next cells) (drop (next - place) bytes))
    (take_at mid (special ++ long_bytes cells) n refl) ∙ ap (λ xs. plain mid ++ Of what ∷ cells_of next (kept_from next cells) xs)
    (ap (λ k. drop k bytes) behind ∙ ap (drop (n + special_size what)) (sym (append_assoc mid special (long_bytes cells)))
    ∙ drop_at (mid ++ special) (long_bytes cells) (n + special_size what)
    (length-append mid special ∙ ap (λ k. n + k) (length-special what)))
    ∙ ap (λ k. plain mid ++ Of what ∷ cells_of next (kept_from k cells) (long_bytes cells)) (sym zeroth)
    ∙ ap (λ cs. plain mid ++ Of what ∷ cs) (decoded cells [] next)

-- the items of a routine are those that its state and its bytes determine
pub told_front : {state : State} {bytes front : List ℕ} {contents : Contents} → Stands state bytes front contents →
    take state.start bytes ≡ front
told_front {state = state} {bytes = bytes} {front = front} {contents = contents} stands =
    ap (take state.start) stands.bytes ∙ take_at front (contents.locals ∷ long_bytes contents.cells) state.start (sym stands.start)

pub told : {state : State} {bytes front : List ℕ} {contents : Contents} → Stands state bytes front contents →
    contents_of state bytes ≡ contents
told {state = state} {bytes = bytes} {front = front} {contents = contents} stands =
    let long = long_bytes contents.cells in
    let locals : get_or bytes state.start 0 ≡ contents.locals =
    ap (λ xs. get_or xs state.start 0) stands.bytes ∙ get_or_at front contents.locals long 0 state.start (sym stands.start) in
    let behind : drop (state.start + 1) bytes ≡ long =
    ap (drop (state.start + 1)) (stands.bytes ∙ sym (append_assoc front (contents.locals ∷ []) long))
    ∙ drop_at (front ++ contents.locals ∷ []) long (state.start + 1)
    (length-append front (contents.locals ∷ []) ∙ ap (λ k. k + 1) (sym stands.start)) in
    let first : length front + 1 ≡ state.start + 1 + 0 = omega (arith, stands.start) in
    let cells : cells_of (state.start + 1) state.kept (drop (state.start + 1) bytes) ≡ contents.cells =
    ap (λ ks. cells_of (state.start + 1) ks (drop (state.start + 1) bytes)) (stands.kept ∙ ap (λ k. kept_from k contents.cells) first)
    ∙ ap (cells_of (state.start + 1) (kept_from (state.start + 1 + 0) contents.cells)) behind
    ∙ decoded contents.cells [] (state.start + 1) in
    let make : ℕ → List Cell → Bool → Contents = λ l cs f. record { locals = l; cells = cs; is_final = f } in
    ap (λ l. make l (cells_of (state.start + 1) state.kept (drop (state.start + 1) bytes)) state.is_final) locals
    ∙ ap (λ cs. make contents.locals cs state.is_final) cells ∙ ap (make contents.locals contents.cells) stands.is_final

-- a routine with items keeps them
pub holds : (contents : Contents) (old new : State) (old_bytes new_bytes front : List ℕ) → Stands new new_bytes front contents →
    new.start ≡ old.start → take old.start old_bytes ≡ front → new.limits ≡ old.limits → Holds contents old old_bytes new new_bytes
holds contents old new old_bytes new_bytes front stands start before limits =
    let is = told stands in let same = told_front stands in
    let P : List ℕ → Contents → Type 0 = λ f items. Stands new new_bytes f items in
    record {
      is = is;
      open_still = subst (λ f. P f (contents_of new new_bytes)) (sym same) (subst (λ items. P front items) (sym is) stands);
      start = start;
      front = ap (λ k. take k new_bytes) (sym start) ∙ same ∙ sym before;
      limits = limits;
    }

-- a routine where more cells are written
pub stands_more : (old new : State) (bytes new_bytes front : List ℕ) (contents : Contents) (cells : List Cell) (is_final : Bool) →
    Stands old bytes front contents → Grew bytes old.kept cells new_bytes new.kept
    → new.start ≡ old.start → new.labels ≡ old.labels + label_count cells → new.fixups ≡ old.fixups + fixup_count cells → new.is_final ≡
    is_final → Stands new new_bytes front (with_cells cells is_final contents)
stands_more old new bytes new_bytes front contents cells is_final stands grew start labels fixups final =
    let long = long_bytes contents.cells in
    let place : length bytes ≡ length front + 1 + length long =
    omega (arith, ap length stands.bytes, length-append front (contents.locals ∷ long)) in
    record {
      start = start ∙ stands.start;
      bytes = grew.bytes ∙ ap (λ xs. xs ++ long_bytes cells) stands.bytes ∙ append_assoc front (contents.locals ∷ long) (long_bytes cells)
          ∙ ap (λ xs. front ++ contents.locals ∷ xs) (sym (long-append contents.cells cells));
      kept = grew.kept ∙ ap (λ ks. ks ++ kept_from (length bytes) cells) stands.kept
          ∙ ap (λ k. kept_from (length front + 1) contents.cells ++ kept_from k cells) place
          ∙ sym (kept-append (length front + 1) contents.cells cells);
      labels = omega (arith, labels, stands.labels, labels-append contents.cells cells);
      fixups = omega (arith, fixups, stands.fixups, fixups-append contents.cells cells);
      is_final = final;
    }

-- the number of entries does not depend on the place
pub kept_length : (p q : ℕ) (cells : List Cell) → length (kept_from p cells) ≡ length (kept_from q cells)
kept_length p q [] = refl
kept_length p q ((Plain byte) ∷ cells) = kept_length (p + 1) (q + 1) cells
kept_length p q ((Of what) ∷ cells) = omega (arith, kept_length (p + special_size what) (q + special_size what) cells)

-- the place of a moment lies within
pub back_within : (state : State) (bytes front : List ℕ) (now earlier : Contents) (at : Moment) → Stands state bytes front now →
    Were earlier at now → state.start + at.len ≤ length bytes
back_within state bytes front now earlier at stands were = omega (
  arith,
  stands.start,
  ap length stands.bytes,
  length-append front (now.locals ∷ long_bytes now.cells),
  ap (λ (m : Moment). m.len) were.moment,
  ap (λ cs. length (long_bytes cs)) were.cells,
  length-long earlier.cells were.added,
)

-- the items of a moment are kept where the rest is cut off
pub back_stands : (state new : State) (bytes new_bytes front : List ℕ) (now earlier : Contents) (at : Moment) (place end : ℕ) →
    Stands state bytes front now → Were earlier at now
    → place ≡ state.start + at.len → end ≡ length bytes → new_bytes ≡ take place bytes ++ drop (place + (end - place)) bytes → new.kept ≡
    take at.kept state.kept
    → new.start ≡ state.start → new.labels ≡ at.labels → new.fixups ≡ at.fixups → new.is_final ≡ at.is_final → Stands new new_bytes front
    earlier
back_stands state new bytes new_bytes front now earlier at place end stands were place_is end_is cut kept start labels fixups final =
    let long = long_bytes earlier.cells in let head = front ++ earlier.locals ∷ long in
    let all : bytes ≡ head ++ long_bytes were.added =
    stands.bytes ∙ ap (λ l. front ++ l ∷ long_bytes now.cells) were.locals ∙ ap (λ cs. front ++ earlier.locals ∷ long_bytes cs) were.cells
    ∙ ap (λ xs. front ++ earlier.locals ∷ xs) (long-append earlier.cells were.added)
    ∙ sym (append_assoc front (earlier.locals ∷ long) (long_bytes were.added)) in
    let first : length head ≡ place =
    omega (arith, length-append front (earlier.locals ∷ long), stands.start, ap (λ (m : Moment). m.len) were.moment, place_is) in
    let p = length front + 1 in
    let kept_all : state.kept ≡ kept_from p earlier.cells ++ kept_from (p + length long) were.added =
    stands.kept ∙ ap (kept_from p) were.cells ∙ kept-append p earlier.cells were.added in
    let count : length (kept_from p earlier.cells) ≡ at.kept =
    kept_length p 0 earlier.cells ∙ sym (ap (λ (m : Moment). m.kept) were.moment) in
    record {
      start = start ∙ stands.start;
      bytes = cut ∙ ap (λ xs. take place xs ++ drop (place + (end - place)) bytes) all
          ∙ ap (λ xs. xs ++ drop (place + (end - place)) bytes) (take_at head (long_bytes were.added) place first)
          ∙ ap (λ xs. head ++ xs) (drop_all (place + (end - place)) bytes (omega (arith, end_is))) ∙ append-nil head;
      kept = kept ∙ ap (take at.kept) kept_all ∙ take_at (kept_from p earlier.cells) (kept_from (p + length long) were.added) at.kept count;
      labels = labels ∙ ap (λ (m : Moment). m.labels) were.moment;
      fixups = fixups ∙ ap (λ (m : Moment). m.fixups) were.moment;
      is_final = final ∙ ap (λ (m : Moment). m.is_final) were.moment;
    }
