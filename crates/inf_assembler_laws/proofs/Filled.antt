-- Filling the fixups of a routine gives the routine with its numbers.
use Rattle.std.proofs.{Math.ListN.set, Math.Seq.set-append_seam, lemmas.List.set-append_right}
use Rattle.std.proofs.Common.{◌≡◌, ℕ, ◌+◌, ◌-◌, ◌/◌, ◌%◌, cond, List, [], ◌∷◌, ◌++◌, length, Some, refl, sym, ◌∙◌, ap, arith, append_assoc}
use Rattle.std.proofs.Common.{length-append}
use mathlib.Core.Path.{fun_ext}
use Rattle.inf_area.specs.{declared.fixups.Fixup.Fixup, declared.targets.AreaName.AreaName, declared.targets.Target.Target}
use Rattle.inf_area.specs.Words.{word, with_word}
use Rattle.inf_opcode.specs.{Cells.Cell, Cells.Of, Cells.Plain, Cells.special_size, declared.cells.Special.Special}
use Rattle.inf_assembler.specs.Places.{Places, with_some, joined, marks, size_at, long_place, place_from, closed_special, closed_bytes}
use Rattle.inf_assembler.specs.Places.{closed_fixups, fixup_at}
use Rattle.inf_assembler.proofs.{Finishing.with_some_of, Passes.closed_size}
use Rattle.inf_assembler_laws.specs.Filling.{known_special, known_cells, filled}
use Rattle.inf_assembler_laws.proofs.Parts.{joined_of, some_same}

-- a word over two bytes in the middle
with_word-seam : (front back : List ℕ) (high low number : ℕ) →
    with_word (front ++ high ∷ low ∷ back) (length front) number ≡ front ++ (word number ++ back)
with_word-seam front back high low number =
    let top = number / 256 in
    let end = number % 256 in
    let one : length front + 1 - length front ≡ 1 = omega arith in
    ap (λ xs. set xs (length front + 1) end) (set-append_seam front high (low ∷ back) top)
    ∙ set-append_right front (top ∷ low ∷ back) (length front) (length front + 1) end refl (omega arith)
    ∙ ap (λ n. front ++ set (top ∷ low ∷ back) n end) one

-- The places of labels stay.
long_known : (number_of : Target → ℕ) (old : ℕ) (cells : List Cell) (label : ℕ) →
    long_place old (known_cells number_of cells) label ≡ long_place old cells label
long_known number_of old [] label = refl
long_known number_of old ((Plain byte) ∷ cells) label = long_known number_of (old + 1) cells label
long_known number_of old ((Of (Special.Marks other)) ∷ cells) label =
    ap (λ o. cond (marks label (Special.Marks other)) (Some old) o) (long_known number_of (old + 0) cells label)
long_known number_of old ((Of (Special.Branches branch)) ∷ cells) label = long_known number_of (old + 2) cells label
long_known number_of old ((Of (Special.Jumps other)) ∷ cells) label = long_known number_of (old + 2) cells label
long_known number_of old ((Of (Special.Refers target)) ∷ cells) label =
    let two : old + 1 + 1 ≡ old + 2 = omega arith in
    ap (λ n. long_place n (known_cells number_of cells) label) two ∙ long_known number_of (old + 2) cells label

place_known : (number_of : Target → ℕ) (long : Places) (old new : ℕ) (cells : List Cell) (label : ℕ) →
    place_from long old new (known_cells number_of cells) label ≡ place_from long old new cells label
place_known number_of long old new [] label = refl
place_known number_of long old new ((Plain byte) ∷ cells) label = place_known number_of long (old + 1) (new + 1) cells label
place_known number_of long old new ((Of (Special.Marks other)) ∷ cells) label =
    ap (λ o. cond (marks label (Special.Marks other)) (Some new) o) (place_known number_of long (old + 0) (new + 0) cells label)
place_known number_of long old new ((Of (Special.Branches branch)) ∷ cells) label =
    place_known number_of long (old + 2) (new + size_at long old (Special.Branches branch)) cells label
place_known number_of long old new ((Of (Special.Jumps other)) ∷ cells) label = place_known number_of long (old + 2) (new + 2) cells label
place_known number_of long old new ((Of (Special.Refers target)) ∷ cells) label =
    let two : old + 1 + 1 ≡ old + 2 = omega arith in
    let new_two : new + 1 + 1 ≡ new + 2 = omega arith in
    ap (λ n. place_from long n (new + 1 + 1) (known_cells number_of cells) label) two
    ∙ ap (λ n. place_from long (old + 2) n (known_cells number_of cells) label) new_two
    ∙ place_known number_of long (old + 2) (new + 2) cells label

-- The bytes of cells become those of the cells with numbers where their fixups are filled.
pub record Numbered (number_of : Target → ℕ) (long places : Places) (old new : ℕ) (cells : List Cell) (front bytes rest : List ℕ) : Type 0
  where
    pub numbered : List ℕ
    pub is : closed_bytes long places old new (known_cells number_of cells) ≡ Some numbered
    pub fills : filled number_of (closed_fixups long old new cells) (front ++ (bytes ++ rest)) ≡ front ++ (numbered ++ rest)

-- one byte or more before cells whose fixups are filled
module _ (number_of : Target → ℕ) (long places : Places) where
  kept_before : (old new : ℕ) (what : Special) (cells : List Cell) (front here back bytes rest : List ℕ) →
      known_special number_of what ≡ Of what ∷ [] → fixup_at new what ≡ []
      → closed_special long places old new what ≡ Some here → bytes ≡ here ++ back
      → Numbered number_of long places (old + special_size what) (new + size_at long old what) cells (front ++ here) back rest
      → Numbered number_of long places old new (Of what ∷ cells) front bytes rest
  kept_before old new what cells front here back bytes rest same none is whole next =
      let fixups = closed_fixups long (old + special_size what) (new + size_at long old what) cells in
      let regroup : (xs : List ℕ) → front ++ ((here ++ xs) ++ rest) ≡ (front ++ here) ++ (xs ++ rest) = λ xs. simp append_assoc in
      record {
        numbered = here ++ next.numbered;
        is = ap (λ k. closed_bytes long places old new (k ++ known_cells number_of cells)) same
            ∙ ap (λ o. joined o (closed_bytes long places (old + special_size what) (new + size_at long old what)
            (known_cells number_of cells))) is
            ∙ ap (joined (Some here)) next.is;
        fills = ap (λ hs. filled number_of (hs ++ fixups) (front ++ (bytes ++ rest))) none
            ∙ ap (λ b. filled number_of fixups (front ++ (b ++ rest))) whole
            ∙ ap (filled number_of fixups) (regroup back) ∙ next.fills ∙ sym (regroup next.numbered);
      }

  pub numbered : (old new : ℕ) (cells : List Cell) (front bytes rest : List ℕ) → new ≡ length front →
      closed_bytes long places old new cells ≡ Some bytes → Numbered number_of long places old new cells front bytes rest
  numbered old new [] front bytes rest at e =
      let same : bytes ≡ [] = some_same bytes [] (sym e) in
      record { numbered = []; is = refl; fills = ap (λ b. front ++ (b ++ rest)) same }
  numbered old new ((Plain byte) ∷ cells) front bytes rest at e =
      let made = with_some_of (λ others. byte ∷ others) (closed_bytes long places (old + 1) (new + 1) cells) bytes e in
      let one : List ℕ = byte ∷ [] in
      let next = numbered (old + 1) (new + 1) cells (front ++ one) made.0 rest (omega (arith, at, length-append front one)) made.1 in
      let fixups = closed_fixups long (old + 1) (new + 1) cells in
      record {
        numbered = byte ∷ next.numbered;
        is = ap (with_some (λ others. byte ∷ others)) next.is;
        fills = ap (λ b. filled number_of fixups (front ++ (b ++ rest))) made.2
            ∙ ap (filled number_of fixups) (sym (append_assoc front one (made.0 ++ rest))) ∙ next.fills
            ∙ append_assoc front one (next.numbered ++ rest);
      }
  numbered old new ((Of (Special.Marks label)) ∷ cells) front bytes rest at e =
      let made = joined_of (Some []) (closed_bytes long places (old + 0) (new + 0) cells) bytes e in
      let here = closed_size long places old new (Special.Marks label) made.front made.is_front in
      kept_before old new (Special.Marks label) cells front made.front made.back bytes rest refl refl made.is_front made.whole
      (numbered (old + 0) (new + 0) cells (front ++ made.front) made.back rest (omega (arith, at, length-append front made.front, here))
      made.is_back)
  numbered old new ((Of (Special.Branches branch)) ∷ cells) front bytes rest at e =
      let size = size_at long old (Special.Branches branch) in
      let made = joined_of (closed_special long places old new (Special.Branches branch))
      (closed_bytes long places (old + 2) (new + size) cells) bytes e in
      let here = closed_size long places old new (Special.Branches branch) made.front made.is_front in
      kept_before old new (Special.Branches branch) cells front made.front made.back bytes rest refl refl made.is_front made.whole
      (numbered (old + 2) (new + size) cells (front ++ made.front) made.back rest (omega (arith, at, length-append front made.front, here))
      made.is_back)
  numbered old new ((Of (Special.Jumps label)) ∷ cells) front bytes rest at e =
      let made =
      joined_of (closed_special long places old new (Special.Jumps label)) (closed_bytes long places (old + 2) (new + 2) cells) bytes e in
      let here = closed_size long places old new (Special.Jumps label) made.front made.is_front in
      kept_before old new (Special.Jumps label) cells front made.front made.back bytes rest refl refl made.is_front made.whole
      (numbered (old + 2) (new + 2) cells (front ++ made.front) made.back rest (omega (arith, at, length-append front made.front, here))
      made.is_back)
  numbered old new ((Of (Special.Refers target)) ∷ cells) front bytes rest at e =
      let made = joined_of (Some (0 ∷ 0 ∷ [])) (closed_bytes long places (old + 2) (new + 2) cells) bytes e in
      let zeros : made.front ≡ 0 ∷ 0 ∷ [] = some_same made.front (0 ∷ 0 ∷ []) (sym made.is_front) in
      let number = number_of target in
      let next = numbered (old + 2) (new + 2) cells (front ++ word number) made.back rest
      (omega (arith, at, length-append front (word number))) made.is_back in
      let fixups = closed_fixups long (old + 2) (new + 2) cells in
      let fixup : Fixup = record { area = AreaName.Code; place = new; target = target } in
      let two : old + 1 + 1 ≡ old + 2 = omega arith in
      let new_two : new + 1 + 1 ≡ new + 2 = omega arith in
      record {
        numbered = word number ++ next.numbered;
        is = ap (λ n. with_some (λ others. (number / 256) ∷ others)
            (with_some (λ others. (number % 256) ∷ others) (closed_bytes long places n (new + 1 + 1) (known_cells number_of cells))))
            two
            ∙ ap (λ n. with_some (λ others. (number / 256) ∷ others)
            (with_some (λ others. (number % 256) ∷ others) (closed_bytes long places (old + 2) n (known_cells number_of cells))))
            new_two
            ∙ ap (λ o. with_some (λ others. (number / 256) ∷ others) (with_some (λ others. (number % 256) ∷ others) o)) next.is;
        fills = ap (λ b. filled number_of (fixup ∷ fixups) (front ++ (b ++ rest))) (made.whole ∙ ap (λ f. f ++ made.back) zeros)
            ∙ ap (λ n. filled number_of fixups (with_word (front ++ (0 ∷ 0 ∷ (made.back ++ rest))) n number)) at
            ∙ ap (filled number_of fixups) (with_word-seam front (made.back ++ rest) 0 0 number)
            ∙ ap (filled number_of fixups) (sym (append_assoc front (word number) (made.back ++ rest)))
            ∙ next.fills ∙ append_assoc front (word number) (next.numbered ++ rest);
      }

-- the tables of the routine with its numbers
pub tables_known : (number_of : Target → ℕ) (place : ℕ) (cells : List Cell) →
    long_place place (known_cells number_of cells) ≡ long_place place cells
tables_known number_of place cells = fun_ext (λ label. long_known number_of place cells label)

pub places_known : (number_of : Target → ℕ) (long : Places) (place : ℕ) (cells : List Cell) →
    place_from long place place (known_cells number_of cells) ≡ place_from long place place cells
places_known number_of long place cells = fun_ext (λ label. place_known number_of long place place cells label)
