-- The places of labels in cells, part by part.
use Rattle.std.proofs.Common.{◌≡◌, ℕ, ◌+◌, ◌≤◌, Bool, true, false, cond, List, [], ◌∷◌, ◌++◌, length, Option, Some, None, ◌⊎◌, inl, inr}
use Rattle.std.proofs.Common.{refl, sym, ◌∙◌, ap, arith, length-append}
use Rattle.inf_opcode.specs.declared.cells.Special.{Special}
use Rattle.inf_opcode.specs.Cells.{Cell, Plain, Of, special_size, special_bytes, long_bytes}
use Rattle.inf_opcode.proofs.Growing.{length-special, long-append}
use Rattle.inf_assembler.specs.Places.{Places, marks, size_at, long_place, place_from, first_of}
use Rattle.inf_assembler.proofs.Passes.{size_le}
use Rattle.inf_assembler_laws.specs.Laws.{NoLater}

-- the size in bytes of cells that begin at a long place
abbrev pub cells_size : Places → ℕ → List Cell → ℕ
cells_size long old [] = 0
cells_size long old ((Plain byte) ∷ cells) = 1 + cells_size long (old + 1) cells
cells_size long old ((Of what) ∷ cells) = size_at long old what + cells_size long (old + special_size what) cells

abbrev pub long_size : List Cell → ℕ
long_size cells = length (long_bytes cells)

pub long_size-of : (what : Special) (cells : List Cell) → long_size (Of what ∷ cells) ≡ special_size what + long_size cells
long_size-of what cells = length-append (special_bytes what) (long_bytes cells) ∙ ap (λ n. n + long_size cells) (length-special what)

pub long_size-append : (xs ys : List Cell) → long_size (xs ++ ys) ≡ long_size xs + long_size ys
long_size-append xs ys = ap length (long-append xs ys) ∙ length-append (long_bytes xs) (long_bytes ys)

pub cells_size-append : (long : Places) (old : ℕ) (xs ys : List Cell) →
    cells_size long old (xs ++ ys) ≡ cells_size long old xs + cells_size long (old + long_size xs) ys
cells_size-append long old [] ys = let e : old ≡ old + 0 = omega arith in omega (arith, ap (λ n. cells_size long n ys) e)
cells_size-append long old ((Plain byte) ∷ xs) ys =
    let e : old + 1 + long_size xs ≡ old + long_size (Plain byte ∷ xs) = omega arith in
    omega (arith, cells_size-append long (old + 1) xs ys, ap (λ n. cells_size long n ys) e)
cells_size-append long old ((Of what) ∷ xs) ys =
    let e : old + special_size what + long_size xs ≡ old + long_size (Of what ∷ xs) = omega (arith, long_size-of what xs) in
    omega (arith, cells_size-append long (old + special_size what) xs ys, ap (λ n. cells_size long n ys) e)

-- a label with its long place and its place, between two bounds
pub record Found (long_one : Option ℕ) (old new place long_end end : ℕ) : Type 0 where
  pub long : ℕ
  pub is : long_one ≡ Some long
  pub long_from : old ≤ long
  pub from : new ≤ place
  pub long_to : long ≤ long_end
  pub to : place ≤ end
  pub near : place + old ≤ long + new

found_cond : (b : Bool) (o p : Option ℕ) (old new place more size long_rest rest : ℕ) → size ≤ more → cond b (Some new) o ≡ Some place
    → (o ≡ Some place → Found p (old + more) (new + size) place (old + more + long_rest) (new + size + rest))
    → Found (cond b (Some old) p) old new place (old + (more + long_rest)) (new + (size + rest))
found_cond true o p old new place more size long_rest rest small e next =
    let same : new ≡ place = cc in
    record {
      long = old;
      is = refl;
      long_from = omega arith;
      from = omega arith;
      long_to = omega arith;
      to = omega arith;
      near = omega arith;
    }
found_cond false o p old new place more size long_rest rest small e next =
    let f = next e in
    record {
      long = f.long;
      is = f.is;
      long_from = omega (arith, f.long_from);
      from = omega (arith, f.from);
      long_to = omega (arith, f.long_to);
      to = omega (arith, f.to);
      near = omega (arith, f.near);
    }

pub found_in : (long : Places) (old new : ℕ) (cells : List Cell) (label place : ℕ) → place_from long old new cells label ≡ Some place
    → Found (long_place old cells label) old new place (old + long_size cells) (new + cells_size long old cells)
found_in long old new [] label place e = cc
found_in long old new ((Plain byte) ∷ cells) label place e =
    let f = found_in long (old + 1) (new + 1) cells label place e in
    record {
      long = f.long;
      is = f.is;
      long_from = omega (arith, f.long_from);
      from = omega (arith, f.from);
      long_to = omega (arith, f.long_to);
      to = omega (arith, f.to);
      near = omega (arith, f.near);
    }
found_in long old new ((Of what) ∷ cells) label place e =
    let more = special_size what in
    let size = size_at long old what in
    let f = found_cond (marks label what) (place_from long (old + more) (new + size) cells label) (long_place (old + more) cells label) old
    new place more size (long_size cells) (cells_size long (old + more) cells) (size_le long old what) e
    (λ next. found_in long (old + more) (new + size) cells label place next) in
    record {
      long = f.long;
      is = f.is;
      long_from = f.long_from;
      from = f.from;
      long_to = omega (arith, f.long_to, long_size-of what cells);
      to = f.to;
      near = f.near;
    }

-- no place comes later
no_later_cond : (b : Bool) (o p : Option ℕ) (old new : ℕ) → new ≤ old → NoLater o p → NoLater (cond b (Some new) o) (cond b (Some old) p)
no_later_cond true o p old new before next = before
no_later_cond false o p old new before next = next

pub no_later : (long : Places) (old new : ℕ) (cells : List Cell) (label : ℕ) → new ≤ old →
    NoLater (place_from long old new cells label) (long_place old cells label)
no_later long old new [] label before = tt
no_later long old new ((Plain byte) ∷ cells) label before = no_later long (old + 1) (new + 1) cells label (omega arith)
no_later long old new ((Of what) ∷ cells) label before =
    let more = special_size what in
    let size = size_at long old what in
    no_later_cond (marks label what) (place_from long (old + more) (new + size) cells label) (long_place (old + more) cells label) old new
    before
    (no_later long (old + more) (new + size) cells label (omega (arith, size_le long old what)))

none_of_later : (o p : Option ℕ) → NoLater o p → o ≡ None → p ≡ None
none_of_later None None later e = refl
none_of_later None (Some q) later e = absurd later
none_of_later (Some t) p later e = cc

-- where there are labels in the first of two parts, and else in the second
first_of-cond : (b : Bool) (x : ℕ) (y z : Option ℕ) → cond b (Some x) (first_of y z) ≡ first_of (cond b (Some x) y) z
first_of-cond true x y z = refl
first_of-cond false x y z = refl

pub place_split : (long : Places) (old new : ℕ) (xs ys : List Cell) (label : ℕ)
    → place_from long old new (xs ++ ys) label ≡ first_of (place_from long old new xs label)
    (place_from long (old + long_size xs) (new + cells_size long old xs) ys label)
place_split long old new [] ys label =
    let e : old ≡ old + 0 = omega arith in
    let f : new ≡ new + 0 = omega arith in
    ap (λ n. place_from long n new ys label) e ∙ ap (λ n. place_from long (old + 0) n ys label) f
place_split long old new ((Plain byte) ∷ xs) ys label =
    let front = place_from long (old + 1) (new + 1) xs label in
    let e : old + 1 + long_size xs ≡ old + long_size (Plain byte ∷ xs) = omega arith in
    let f : new + 1 + cells_size long (old + 1) xs ≡ new + cells_size long old (Plain byte ∷ xs) = omega arith in
    place_split long (old + 1) (new + 1) xs ys label
    ∙ ap (λ n. first_of front (place_from long n (new + 1 + cells_size long (old + 1) xs) ys label)) e
    ∙ ap (λ n. first_of front (place_from long (old + long_size (Plain byte ∷ xs)) n ys label)) f
place_split long old new ((Of what) ∷ xs) ys label =
    let more = special_size what in
    let size = size_at long old what in
    let front = place_from long (old + more) (new + size) xs label in
    let e : old + more + long_size xs ≡ old + long_size (Of what ∷ xs) = omega (arith, long_size-of what xs) in
    let f : new + size + cells_size long (old + more) xs ≡ new + cells_size long old (Of what ∷ xs) = omega arith in
    ap (λ o. cond (marks label what) (Some new) o)
    (place_split long (old + more) (new + size) xs ys label
    ∙ ap (λ n. first_of front (place_from long n (new + size + cells_size long (old + more) xs) ys label)) e
    ∙ ap (λ n. first_of front (place_from long (old + long_size (Of what ∷ xs)) n ys label)) f)
    ∙ first_of-cond (marks label what) new front (place_from long (old + long_size (Of what ∷ xs))
    (new + cells_size long old (Of what ∷ xs)) ys label)

pub long_split : (old : ℕ) (xs ys : List Cell) (label : ℕ) →
    long_place old (xs ++ ys) label ≡ first_of (long_place old xs label) (long_place (old + long_size xs) ys label)
long_split old [] ys label = let e : old ≡ old + 0 = omega arith in ap (λ n. long_place n ys label) e
long_split old ((Plain byte) ∷ xs) ys label =
    let e : old + 1 + long_size xs ≡ old + long_size (Plain byte ∷ xs) = omega arith in
    long_split (old + 1) xs ys label ∙ ap (λ n. first_of (long_place (old + 1) xs label) (long_place n ys label)) e
long_split old ((Of what) ∷ xs) ys label =
    let more = special_size what in
    let front = long_place (old + more) xs label in
    let e : old + more + long_size xs ≡ old + long_size (Of what ∷ xs) = omega (arith, long_size-of what xs) in
    ap (λ o. cond (marks label what) (Some old) o)
    (long_split (old + more) xs ys label ∙ ap (λ n. first_of front (long_place n ys label)) e)
    ∙ first_of-cond (marks label what) old front (long_place (old + long_size (Of what ∷ xs)) ys label)

-- cells that mark no label
abbrev pub AreUnmarked : List Cell → Type 0
AreUnmarked [] = Unit {0}
AreUnmarked ((Plain byte) ∷ cells) = AreUnmarked cells
AreUnmarked ((Of (Special.Marks label)) ∷ cells) = ⊥
AreUnmarked ((Of (Special.Branches branch)) ∷ cells) = AreUnmarked cells
AreUnmarked ((Of (Special.Jumps label)) ∷ cells) = AreUnmarked cells
AreUnmarked ((Of (Special.Refers target)) ∷ cells) = AreUnmarked cells

place_unmarked : (long : Places) (old new : ℕ) (xs : List Cell) (label : ℕ) → AreUnmarked xs → place_from long old new xs label ≡ None
place_unmarked long old new [] label plain = refl
place_unmarked long old new ((Plain byte) ∷ xs) label plain = place_unmarked long (old + 1) (new + 1) xs label plain
place_unmarked long old new ((Of (Special.Marks other)) ∷ xs) label plain = absurd plain
place_unmarked long old new ((Of (Special.Branches branch)) ∷ xs) label plain =
    place_unmarked long (old + 2) (new + size_at long old (Special.Branches branch)) xs label plain
place_unmarked long old new ((Of (Special.Jumps other)) ∷ xs) label plain = place_unmarked long (old + 2) (new + 2) xs label plain
place_unmarked long old new ((Of (Special.Refers target)) ∷ xs) label plain = place_unmarked long (old + 2) (new + 2) xs label plain

long_unmarked : (old : ℕ) (xs : List Cell) (label : ℕ) → AreUnmarked xs → long_place old xs label ≡ None
long_unmarked old [] label plain = refl
long_unmarked old ((Plain byte) ∷ xs) label plain = long_unmarked (old + 1) xs label plain
long_unmarked old ((Of (Special.Marks other)) ∷ xs) label plain = absurd plain
long_unmarked old ((Of (Special.Branches branch)) ∷ xs) label plain = long_unmarked (old + 2) xs label plain
long_unmarked old ((Of (Special.Jumps other)) ∷ xs) label plain = long_unmarked (old + 2) xs label plain
long_unmarked old ((Of (Special.Refers target)) ∷ xs) label plain = long_unmarked (old + 2) xs label plain

-- A label is before two places, or behind them, where no label is marked between the two.
pub record Beside (long_one : Option ℕ) (long_before before long_behind behind place : ℕ) : Type 0 where
  pub long : ℕ
  pub is : long_one ≡ Some long
  pub side : ((place ≤ before) × (long ≤ long_before)) ⊎ ((behind ≤ place) × (long_behind ≤ long) × (place + long_behind ≤ long + behind))

module _ (long : Places) (start : ℕ) (front gap back : List Cell) (label place : ℕ) (plain : AreUnmarked gap) where
  abbrev middle : ℕ
  middle = start + long_size front

  abbrev new_middle : ℕ
  new_middle = start + cells_size long start front

  abbrev behind : ℕ
  behind = middle + long_size gap

  abbrev new_behind : ℕ
  new_behind = new_middle + cells_size long middle gap

  beside_by : (o : Option ℕ) → place_from long start start front label ≡ o →
      place_from long start start (front ++ (gap ++ back)) label ≡ Some place
      → Beside (long_place start (front ++ (gap ++ back)) label) middle new_middle behind new_behind place
  beside_by (Some found) is e =
      let here = place_split long start start front (gap ++ back) label in
      let same : found ≡ place =
      let whole = sym (ap (λ o. first_of o (place_from long middle new_middle (gap ++ back) label)) is) ∙ sym here ∙ e in cc in
      let f = found_in long start start front label place (is ∙ ap Some same) in
      record {
        long = f.long;
        is = long_split start front (gap ++ back) label ∙ ap (λ o. first_of o (long_place middle (gap ++ back) label)) f.is;
        side = inl (f.to, f.long_to);
      }
  beside_by None is e =
      let here = place_split long start start front (gap ++ back) label
      ∙ ap (λ o. first_of o (place_from long middle new_middle (gap ++ back) label)) is in
      let next = place_split long middle new_middle gap back label
      ∙ ap (λ o. first_of o (place_from long behind new_behind back label)) (place_unmarked long middle new_middle gap label plain) in
      let f = found_in long behind new_behind back label place (sym next ∙ sym here ∙ e) in
      let none = none_of_later (place_from long start start front label) (long_place start front label)
      (no_later long start start front label (omega arith)) is in
      record {
        long = f.long;
        is = long_split start front (gap ++ back) label ∙ ap (λ o. first_of o (long_place middle (gap ++ back) label)) none
            ∙ long_split middle gap back label ∙ ap (λ o. first_of o (long_place behind back label)) (long_unmarked middle gap label plain)
            ∙ f.is;
        side = inr (f.from, f.long_from, f.near);
      }

  pub beside : place_from long start start (front ++ (gap ++ back)) label ≡ Some place →
      Beside (long_place start (front ++ (gap ++ back)) label) middle new_middle behind new_behind place
  beside e = beside_by (place_from long start start front label) refl e
