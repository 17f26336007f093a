-- Code, step by step: its finished routines stay while one is open, and this one follows them when it is closed.
use Rattle.std.proofs.Common.{Result, Ok, Err, OnOk, OnErr, ◌≤◌, ◌≡◌, ℕ, ◌+◌, List, [], ◌∷◌, ◌++◌, length, take, drop, Option, Some, None}
use Rattle.std.proofs.Common.{refl, sym, ◌∙◌, ap, subst, arith, append_assoc, length-append, length-take}
use Rattle.std.proofs.lemmas.List.{take_at, take-take, take_all, length-take-le, length-drop, drop-append-le}
use Rattle.inf_area.specs.{Fixups.Fixups, declared.scale.Scale.Scale}
use Rattle.inf_opcode.specs.Cells.{long_bytes}
use Rattle.inf_assembler.specs.{declared.routines.Closed.Closed, declared.routines.RoutineKind.RoutineKind}
use Rattle.inf_assembler.specs.Routines.{State, Contents, Stands, IsOpen, Holds, Closes, contents_of, fresh, closing, routine_fixups}
use Rattle.inf_assembler.specs.Routines.{body_bytes}
use Rattle.inf_code.specs.Code.{IsCode, StandsFor, cells_from, first_routine, padded, place_behind, routine_cells, source_bytes}
use Rattle.inf_code.specs.Code.{source_cells, whole_bytes, routine_bounds, zeros_behind}
use Rattle.inf_code.specs.declared.code.CodeLimits.{CodeLimits}
use Rattle.inf_code.proofs.CodeLemmas.{itself, size-stands_for, stands_for-closed}

-- the bytes of the finished routines
module _ (limits : CodeLimits) (finished : ℕ) (refs : Fixups) (bytes : List ℕ) (routine : Option State)
    (is : IsCode limits finished refs bytes routine) where
  pub length_finished : length (take finished bytes) ≡ finished
  length_finished = length-take-le finished bytes is.within

  pub first_within : 8 ≤ finished
  first_within = omega (arith, ap length is.front, length-take 8 (take finished bytes), length_finished)

  pub length_source : finished ≡ 8 + length (source_bytes finished bytes)
  length_source = omega (arith, first_within, length-drop 8 (take finished bytes), length_finished)

  pub size_finished : place_behind (source_cells finished refs bytes) ≡ finished
  size_finished =
      omega (arith, size-stands_for 8 refs.list (source_bytes finished bytes) (source_cells finished refs bytes) is.stands, length_source)

  -- with other bytes behind them
  module _ (new : List ℕ) (same : take finished new ≡ take finished bytes) where
    pub within_along : finished ≤ length new
    within_along = omega (arith, ap length same, length_finished, length-take finished new)

    pub front_along : take 8 (take finished new) ≡ first_routine
    front_along = ap (take 8) same ∙ is.front

    pub stands_along : StandsFor 8 refs.list (source_bytes finished new) (source_cells finished refs new)
    stands_along = subst (λ xs. StandsFor 8 refs.list (drop 8 xs) (cells_from 8 refs.list (drop 8 xs))) (sym same) is.stands

  -- cut, and with nothing open
  pub front_cut : (cut : List ℕ) → cut ≡ take finished bytes → take finished cut ≡ take finished bytes
  front_cut cut e = ap (take finished) e ∙ take-take finished finished bytes (omega arith)

  pub code_cut : (cut : List ℕ) → cut ≡ take finished bytes → IsCode limits finished refs cut None
  code_cut cut e =
      let same = front_cut cut e in
      record {
        within = within_along cut same;
        front = front_along cut same;
        stands = stands_along cut same;
        limit = is.limit;
        few = is.few;
        behind = tt;
      }

  -- with bytes behind them
  pub front_longer : (longer more : List ℕ) → longer ≡ take finished bytes ++ more → take finished longer ≡ take finished bytes
  front_longer longer more e = ap (take finished) e ∙ take_at (take finished bytes) more finished length_finished

  -- a routine is opened behind them
  module _ (locals : ℕ) (opened : State) (cut new : List ℕ) (at : cut ≡ take finished bytes) (stands : Stands opened new cut (fresh locals))
    where
      pub front_opened : take finished new ≡ take finished bytes
      front_opened = front_longer new _ (stands.bytes ∙ ap (λ xs. xs ++ locals ∷ long_bytes []) at)

      pub code_opened : IsOpen opened new → opened.limits ≡ routine_bounds → IsCode limits finished refs new (Some opened)
      code_opened open_now same =
          let start : opened.start ≡ finished = stands.start ∙ ap length at ∙ length_finished in
          record {
            within = within_along new front_opened;
            front = front_along new front_opened;
            stands = stands_along new front_opened;
            limit = is.limit;
            few = is.few;
            behind = record { start = start; open_still = open_now; limits = same };
          }

-- the open routine has grown
module _ (limits : CodeLimits) (finished : ℕ) (refs : Fixups) (bytes new : List ℕ) (routine longer : State) (contents : Contents)
    (is : IsCode limits finished refs bytes (Some routine)) (holds : Holds contents routine bytes longer new) where
  pub front_emitted : take finished new ≡ take finished bytes
  front_emitted = subst (λ n. take n new ≡ take n bytes) is.behind.start holds.front

  pub code_emitted : IsCode limits finished refs new (Some longer)
  code_emitted = record {
    within = within_along limits finished refs bytes (Some routine) is new front_emitted;
    front = front_along limits finished refs bytes (Some routine) is new front_emitted;
    stands = stands_along limits finished refs bytes (Some routine) is new front_emitted;
    limit = is.limit;
    few = is.few;
    behind = record { start = holds.start ∙ is.behind.start; open_still = holds.open_still; limits = holds.limits ∙ is.behind.limits };
  }

-- a call that makes code or is refused, and then leaves it as it was
pub code_or_same : {T E : Type 0} (limits : CodeLimits) (finished : ℕ) (refs : Fixups) (bytes new : List ℕ) (routine longer : State)
    (contents : Contents) → IsCode limits finished refs bytes (Some routine)
    → (r : Result T E) → OnOk r (Holds contents routine bytes longer new) → OnErr r ((longer ≡ routine) × (new ≡ bytes)) → IsCode limits
    finished refs new (Some longer)
code_or_same limits finished refs bytes new routine longer contents is (Ok x) holds same =
    code_emitted limits finished refs bytes new routine longer contents is holds
code_or_same limits finished refs bytes new routine longer contents is (Err e) holds same =
    subst (λ xs. IsCode limits finished refs xs (Some longer)) (sym same.1)
    (subst (λ r. IsCode limits finished refs bytes (Some r)) (sym same.0) is)

-- the open routine is closed, and filled up
module _ (scale : Scale) (kind : RoutineKind) (limits : CodeLimits) (finished : ℕ) (refs listed : Fixups) (bytes written whole : List ℕ)
    (routine : State) (closed : Closed) (is : IsCode limits finished refs bytes (Some routine))
    (closes : Closes kind routine.start (contents_of routine bytes) bytes refs closed written listed) where
  abbrev contents : Contents
  contents = contents_of routine bytes

  written_is : written ≡ take finished bytes ++ (contents.locals ∷ closes.body ++ closing kind contents)
  written_is = closes.bytes ∙ ap (λ n. take n bytes ++ contents.locals ∷ closes.body ++ closing kind contents) is.behind.start
      ∙ append_assoc (take finished bytes) (contents.locals ∷ closes.body) (closing kind contents)

  pub front_closed : take finished written ≡ take finished bytes
  front_closed = front_longer limits finished refs bytes (Some routine) is written _ written_is

  long_enough : 8 ≤ length written
  long_enough = omega (
    arith,
    first_within limits finished refs bytes (Some routine) is,
    within_along limits finished refs bytes (Some routine) is written front_closed,
  )

  pub code_closed : whole ≡ written ++ zeros_behind scale closed.len
      → StandsFor 8 listed.list (drop 8 whole) (source_cells finished refs bytes ++ padded scale
      (routine_cells finished kind (contents_of routine bytes)))
  code_closed filled =
      let start = is.behind.start in let body = closes.body in
      let eight : 8 ≤ length (take finished bytes) =
      omega (arith, first_within limits finished refs bytes (Some routine) is, length_finished limits finished refs bytes (Some routine) is)
      in
      let body_is : body_bytes finished contents ≡ Some body = ap (λ n. body_bytes n contents) (sym start) ∙ closes.is in
      let listed_is : listed.list ≡ refs.list ++ routine_fixups finished contents =
      ap (λ (h : Fixups). h.list) closes.fixups ∙ ap (λ n. refs.list ++ routine_fixups n contents) start in
      let source_is : drop 8 written ≡ source_bytes finished bytes ++ contents.locals ∷ body ++ closing kind contents =
      ap (drop 8) written_is ∙ drop-append-le 8 (take finished bytes) (contents.locals ∷ body ++ closing kind contents) eight
      ∙ sym (append_assoc (source_bytes finished bytes) (contents.locals ∷ body) (closing kind contents)) in
      let whole_is : drop 8 whole ≡ drop 8 written ++ zeros_behind scale closed.len =
      ap (drop 8) filled ∙ drop-append-le 8 written (zeros_behind scale closed.len) long_enough in
      let count : closed.len ≡ length (whole_bytes kind contents body) =
      omega (arith, closes.len, length-append (contents.locals ∷ body) (closing kind contents)) in
      stands_for-closed scale kind contents body 8 refs.list listed.list (source_bytes finished bytes) (drop 8 written) (drop 8 whole)
      (source_cells finished refs bytes) finished closed.len
      (length_source limits finished refs bytes (Some routine) is) body_is is.stands listed_is source_is count whole_is

  pub finished_closed : whole ≡ written ++ zeros_behind scale closed.len
      → source_cells (length whole) listed whole ≡ source_cells finished refs bytes ++ padded scale
      (routine_cells (place_behind (source_cells finished refs bytes)) kind (contents_of routine bytes))
  finished_closed filled =
      let before = source_cells finished refs bytes in
      ap (λ xs. cells_from 8 listed.list (drop 8 xs)) (take_all (length whole) whole (omega arith)) ∙ (code_closed filled).are
      ∙ ap (λ n. before ++ padded scale (routine_cells n kind (contents_of routine bytes)))
      (sym (size_finished limits finished refs bytes (Some routine) is))

  whole_front : whole ≡ written ++ zeros_behind scale closed.len → take 8 (take (length whole) whole) ≡ first_routine
  whole_front filled =
      let more = contents.locals ∷ closes.body ++ closing kind contents in let zeros = zeros_behind scale closed.len in
      let longer : whole ≡ take finished bytes ++ (more ++ zeros) =
      filled ∙ ap (λ xs. xs ++ zeros) written_is ∙ append_assoc (take finished bytes) more zeros in
      ap (take 8) (take_all (length whole) whole (omega arith))
      ∙ sym (take-take 8 finished whole (first_within limits finished refs bytes (Some routine) is))
      ∙ ap (take 8) (front_longer limits finished refs bytes (Some routine) is whole _ longer) ∙ is.front

  pub whole_stands : whole ≡ written ++ zeros_behind scale closed.len →
      StandsFor 8 listed.list (source_bytes (length whole) whole) (source_cells (length whole) listed whole)
  whole_stands filled =
      let stands = itself 8 listed.list (drop 8 whole)
      (source_cells finished refs bytes ++ padded scale (routine_cells finished kind (contents_of routine bytes))) (code_closed filled) in
      subst (λ xs. StandsFor 8 listed.list (drop 8 xs) (cells_from 8 listed.list (drop 8 xs)))
      (sym (take_all (length whole) whole (omega arith))) stands

  pub code_after : whole ≡ written ++ zeros_behind scale closed.len → length whole ≤ limits.code →
      IsCode limits (length whole) listed whole None
  code_after filled few = record {
    within = omega arith;
    front = whole_front filled;
    stands = whole_stands filled;
    limit = ap (λ (h : Fixups). h.limit) closes.fixups ∙ is.limit;
    few = omega (arith, few);
    behind = tt;
  }

  -- each routine has a byte at least
  pub counted_closed : (routines : ℕ) → whole ≡ written ++ zeros_behind scale closed.len → routines + 8 ≤ finished
      → routines + 1 + 8 ≤ length whole
  counted_closed routines filled few = omega (
    arith,
    few,
    ap length filled,
    length-append written (zeros_behind scale closed.len),
    ap length written_is,
    length-append (take finished bytes) (contents.locals ∷ closes.body ++ closing kind contents),
    length-append (contents.locals ∷ closes.body) (closing kind contents),
    length_finished limits finished refs bytes (Some routine) is,
  )

  -- the code has then as many bytes as the area
  size_after : whole ≡ written ++ zeros_behind scale closed.len → place_behind (source_cells (length whole) listed whole) ≡ length whole
  size_after filled =
      let eight : 8 ≤ length whole = omega (arith, long_enough, ap length filled, length-append written (zeros_behind scale closed.len)) in
      let all : length (take (length whole) whole) ≡ length whole = ap length (take_all (length whole) whole (omega arith)) in
      omega (
        arith,
        size-stands_for 8 listed.list (source_bytes (length whole) whole) (source_cells (length whole) listed whole) (whole_stands filled),
        length-drop 8 (take (length whole) whole),
        all,
        eight,
      )

pub closed_size : (scale : Scale) (kind : RoutineKind) (limits : CodeLimits) (finished : ℕ) (refs listed : Fixups) (bytes written : List ℕ)
    (routine : State) (closed : Closed) (is : IsCode limits finished refs bytes (Some routine))
    → Closes kind routine.start (contents_of routine bytes) bytes refs closed written listed
    → place_behind (source_cells finished refs bytes ++ padded scale
    (routine_cells (place_behind (source_cells finished refs bytes)) kind (contents_of routine bytes))) ≡ length written + length
    (zeros_behind scale closed.len)
closed_size scale kind limits finished refs listed bytes written routine closed is closes =
    let whole = written ++ zeros_behind scale closed.len in
    ap place_behind (sym (finished_closed scale kind limits finished refs listed bytes written whole routine closed is closes refl))
    ∙ size_after scale kind limits finished refs listed bytes written whole routine closed is closes refl
    ∙ length-append written (zeros_behind scale closed.len)
