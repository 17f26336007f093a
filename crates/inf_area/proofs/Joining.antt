-- Cells one behind the other: their bytes, their fixups, and the number of these.
use Rattle.std.proofs.Common.{◌≡◌, ℕ, ◌+◌, ◌*◌, List, [], ◌∷◌, ◌++◌, length, length-append, map, append_assoc, drop, take, refl}
use Rattle.std.proofs.{Common.sym, Common.ap, Common.subst, Common.◌∙◌, Common.arith, Math.Seq.drop-append_seam, Math.Seq.take-append_seam}
use Rattle.inf_area.specs.{declared.cells.Cell.Cell, declared.fixups.Fixup.Fixup, declared.targets.AreaName.AreaName}
use Rattle.inf_area.specs.{Cells.bytes_of, Cells.fixups_of, Cells.later_count, Cells.size_of, Cells.value_cells, Cells.values_cells}
use Rattle.inf_area.specs.declared.targets.Value.{Value}

pub bytes_of-append : (cells others : List Cell) → bytes_of (cells ++ others) ≡ bytes_of cells ++ bytes_of others
bytes_of-append [] others = refl
bytes_of-append ((Cell.Byte byte) ∷ cells) others = ap (λ xs. byte ∷ xs) (bytes_of-append cells others)
bytes_of-append ((Cell.Later target) ∷ cells) others = ap (λ xs. 0 ∷ 0 ∷ xs) (bytes_of-append cells others)

pub size-append : (cells others : List Cell) → length (bytes_of (cells ++ others)) ≡ length (bytes_of cells) + length (bytes_of others)
size-append cells others = ap length (bytes_of-append cells others) ∙ length-append (bytes_of cells) (bytes_of others)

pub later_count-append : (cells others : List Cell) → later_count (cells ++ others) ≡ later_count cells + later_count others
later_count-append [] others = omega arith
later_count-append ((Cell.Byte byte) ∷ cells) others = later_count-append cells others
later_count-append ((Cell.Later target) ∷ cells) others = omega (arith, later_count-append cells others)

pub values_cells-append : (values others : List Value) → values_cells (values ++ others) ≡ values_cells values ++ values_cells others
values_cells-append [] others = refl
values_cells-append (v ∷ values) others = ap (λ cs. value_cells v ++ cs) (values_cells-append values others)
    ∙ sym (append_assoc (value_cells v) (values_cells values) (values_cells others))

value_size : (v : Value) → length (bytes_of (value_cells v)) ≡ 2
value_size (Value.Known number) = refl
value_size (Value.Later target) = refl

pub values_size : (values : List Value) → length (bytes_of (values_cells values)) ≡ 2 * length values
values_size [] = refl
values_size (v ∷ values) = omega (arith, size-append (value_cells v) (values_cells values), value_size v, values_size values)

pub fixups_of-append : (area : AreaName) (place : ℕ) (cells others : List Cell) →
    fixups_of area place (cells ++ others) ≡ fixups_of area place cells ++ fixups_of area (place + size_of cells) others
fixups_of-append area place [] others = ap (λ n. fixups_of area n others) (omega arith)
fixups_of-append area place ((Cell.Byte byte) ∷ cells) others =
    let at : place + 1 + size_of cells ≡ place + (1 + size_of cells) = omega arith in
    fixups_of-append area (place + 1) cells others ∙ ap (λ n. fixups_of area (place + 1) cells ++ fixups_of area n others) at
fixups_of-append area place ((Cell.Later target) ∷ cells) others =
    let at : place + 2 + size_of cells ≡ place + (2 + size_of cells) = omega arith in
    let here : Fixup = record { area = area; place = place; target = target } in
    ap (λ xs. here ∷ xs) (fixups_of-append area (place + 2) cells others ∙ ap (λ n. fixups_of area (place + 2) cells ++ fixups_of area n
    others) at)

pub length-bytes_of : (cells : List Cell) → length (bytes_of cells) ≡ size_of cells
length-bytes_of [] = refl
length-bytes_of ((Cell.Byte byte) ∷ cells) = omega (arith, length-bytes_of cells)
length-bytes_of ((Cell.Later target) ∷ cells) = omega (arith, length-bytes_of cells)

pub length-fixups_of : (area : AreaName) (place : ℕ) (cells : List Cell) → length (fixups_of area place cells) ≡ later_count cells
length-fixups_of area place [] = refl
length-fixups_of area place ((Cell.Byte byte) ∷ cells) = length-fixups_of area (place + 1) cells
length-fixups_of area place ((Cell.Later target) ∷ cells) = omega (arith, length-fixups_of area (place + 2) cells)

-- bytes that are known
pub bytes_of-known : (bytes : List ℕ) → bytes_of (map Cell.Byte bytes) ≡ bytes
bytes_of-known [] = refl
bytes_of-known (byte ∷ bytes) = ap (λ xs. byte ∷ xs) (bytes_of-known bytes)

pub fixups_of-known : (area : AreaName) (place : ℕ) (bytes : List ℕ) → fixups_of area place (map Cell.Byte bytes) ≡ []
fixups_of-known area place [] = refl
fixups_of-known area place (byte ∷ bytes) = fixups_of-known area (place + 1) bytes

-- the entries behind a front of this length, and those of the front
pub drop_front : {X : Type 0} (n : ℕ) (xs ys : List X) → length xs ≡ n → drop n (xs ++ ys) ≡ ys
drop_front n xs ys e = subst (λ k. drop k (xs ++ ys) ≡ ys) e (drop-append_seam xs ys)

pub take_front : {X : Type 0} (n : ℕ) (xs ys : List X) → length xs ≡ n → take n (xs ++ ys) ≡ xs
take_front n xs ys e = subst (λ k. take k (xs ++ ys) ≡ xs) e (take-append_seam xs ys)
