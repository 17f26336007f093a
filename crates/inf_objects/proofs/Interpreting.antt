-- An interpreter reads back the properties that are written of an object.
use Rattle.std.proofs.Common.{◌≡◌, ◌≤◌, ◌<◌, ◌+◌, ◌*◌, ◌/◌, ◌%◌, ◌∷◌, ◌++◌, ◌==◌, [], ℕ, zero, suc, List, Bool, true, false, Option}
use Rattle.std.proofs.Common.{Some, None, length, length-append, map, take, drop, append_assoc, refl, sym, ap, subst}
use Rattle.std.proofs.Common.{◌∙◌, arith, nat_le, nat_lt, option_to_list, if◌then◌else◌}
use Rattle.std.proofs.lemmas.Bool.{and_from, eqb-true, eqb-false, eq-eqb, ne_eqb, le-leb, lt-leb, lt-ltb, le-ltb}
use Rattle.std.proofs.lemmas.List.Folds.{list_all-append}
use Rattle.inf_area.specs.declared.{cells.Cell.Cell, targets.AreaName.AreaName, targets.Target.Target, targets.Value.Value}
use Rattle.inf_area.specs.Cells.{values_cells}
use Rattle.inf_area.proofs.Joining.{drop_front, take_front}
use Rattle.inf_properties.specs.{Properties.found, declared.sizes.Owner.Owner, declared.values.Property.Property}
use Rattle.inf_properties.specs.Sizes.{are_short, is_short}
use Rattle.inf_properties.proofs.Having.{found-append, found_one, or_found}
use Rattle.inf_objects.specs.declared.objects.Object.{Object}
use Rattle.inf_objects.specs.Reading.{AreFallingBelow, Row, filled, first_byte, long_count, number_in, row_of, rows_read, table_read, told}
use Rattle.inf_objects.specs.Reading.{words_of}
use Rattle.inf_objects.specs.Tables.{address_rows, byte_cells, class_rows, class_values, falling, has_individual, name_cells}
use Rattle.inf_objects.specs.Tables.{row_cells, rows_by, rows_cells, shown, size_cells}
use Rattle.inf_objects.proofs.Rows.{length-class_values}

filled-append : (f : Target → ℕ) (xs ys : List Cell) → filled f (xs ++ ys) ≡ filled f xs ++ filled f ys
filled-append f [] ys = refl
filled-append f (Cell.Byte b ∷ xs) ys = ap (λ bs. b ∷ bs) (filled-append f xs ys)
filled-append f (Cell.Later t ∷ xs) ys = ap (λ bs. (f t / 256) ∷ (f t % 256) ∷ bs) (filled-append f xs ys)

whole : (n : ℕ) → 256 * (n / 256) + n % 256 ≡ n
whole n = omega arith

values_words : (f : Target → ℕ) (vs : List Value) → words_of (filled f (values_cells vs)) ≡ map (number_in f) vs
values_words f [] = refl
values_words f (Value.Known n ∷ vs) =
    ap (λ ws. (256 * (n / 256) + n % 256) ∷ ws) (values_words f vs) ∙ ap (λ w. w ∷ map (number_in f) vs) (whole n)
values_words f (Value.Later t ∷ vs) =
    ap (λ ws. (256 * (f t / 256) + f t % 256) ∷ ws) (values_words f vs) ∙ ap (λ w. w ∷ map (number_in f) vs) (whole (f t))

values_count : (f : Target → ℕ) (vs : List Value) → length (filled f (values_cells vs)) ≡ 2 * length vs
values_count f [] = refl
values_count f (Value.Known n ∷ vs) = omega (arith, values_count f vs)
values_count f (Value.Later t ∷ vs) = omega (arith, values_count f vs)

-- the properties that are read from a first size byte on: with one size byte, and with two
abbrev short_read : ℕ → ℕ → List ℕ → List Row
short_read most size bytes = row_of (size % 64) (1 + size / 64 % 2) bytes ∷ rows_read most (drop (1 + size / 64 % 2) bytes)

abbrev long_read : ℕ → ℕ → List ℕ → List Row
long_read most size bytes =
    row_of (size % 64) (long_count (first_byte bytes)) (drop 1 bytes) ∷ rows_read most (drop (1 + long_count (first_byte bytes)) bytes)

read_short : (most size : ℕ) (bytes : List ℕ) → 0 < size → size < 128 → rows_read (suc most) (size ∷ bytes) ≡ short_read most size bytes
read_short most size bytes h k =
    ap (λ (b : Bool). if b then [] else if nat_lt size 128 then short_read most size bytes else long_read most size bytes)
    (ne_eqb size 0 (λ e. omega (arith, e, h)))
    ∙ ap (λ (b : Bool). if b then short_read most size bytes else long_read most size bytes) (lt-ltb size 128 k)

read_long : (most size : ℕ) (bytes : List ℕ) → 128 ≤ size → rows_read (suc most) (size ∷ bytes) ≡ long_read most size bytes
read_long most size bytes h =
    ap (λ (b : Bool). if b then [] else if nat_lt size 128 then short_read most size bytes else long_read most size bytes)
    (ne_eqb size 0 (λ e. omega (arith, e, h)))
    ∙ ap (λ (b : Bool). if b then short_read most size bytes else long_read most size bytes) (le-ltb size 128 h)

-- the property that is read of `n` and these values
abbrev told_of : (Target → ℕ) → ℕ → List Value → Row
told_of f n vs = record { number = n; words = map (number_in f) (shown vs) }

row_data : (f : Target → ℕ) (n k m : ℕ) (vs : List Value) (rest : List ℕ) → k ≡ n → 2 * length (shown vs) ≡ m
    → row_of k m (filled f (values_cells (shown vs)) ++ rest) ≡ told_of f n vs
row_data f n k m vs rest e h = ap (λ j. record { number = j; words = words_of (take m (filled f (values_cells (shown vs)) ++ rest)) }) e
    ∙ ap (λ bs. record { number = n; words = words_of bs })
    (take_front m (filled f (values_cells (shown vs))) rest (values_count f (shown vs) ∙ h))
    ∙ ap (λ ws. record { number = n; words = ws }) (values_words f (shown vs))

row_rest : (f : Target → ℕ) (m : ℕ) (vs : List Value) (rest : List ℕ) → 2 * length (shown vs) ≡ m →
    drop m (filled f (values_cells (shown vs)) ++ rest) ≡ rest
row_rest f m vs rest h = drop_front m (filled f (values_cells (shown vs))) rest (values_count f (shown vs) ∙ h)

-- a property of a single word is read back
short_row : (f : Target → ℕ) (most n : ℕ) (vs : List Value) (rest : List ℕ) → n < 64 → length (shown vs) ≡ 1
    → rows_read (suc most) ((64 + n) ∷ (filled f (values_cells (shown vs)) ++ rest)) ≡ told_of f n vs ∷ rows_read most rest
short_row f most n vs rest h one =
    let bytes = filled f (values_cells (shown vs)) ++ rest in let number : (64 + n) % 64 ≡ n = omega (arith, h) in
    let count : 1 + (64 + n) / 64 % 2 ≡ 2 = omega (arith, h) in
    let two : 2 * length (shown vs) ≡ 1 + (64 + n) / 64 % 2 = omega (arith, one, count) in
    read_short most (64 + n) bytes (omega arith) (omega (arith, h)) ∙ ap (λ r. r ∷ rows_read most (drop (1 + (64 + n) / 64 % 2) bytes))
    (row_data f n ((64 + n) % 64) (1 + (64 + n) / 64 % 2) vs rest number two)
    ∙ ap (λ bs. told_of f n vs ∷ rows_read most bs) (row_rest f (1 + (64 + n) / 64 % 2) vs rest two)

-- a property of 2 to 32 words is read back
long_row : (f : Target → ℕ) (most n : ℕ) (vs : List Value) (rest : List ℕ) → n < 64 → length (shown vs) ≡ length vs → 1 < length vs →
    length vs ≤ 32
    → rows_read (suc most) ((128 + n) ∷ (128 + 2 * length vs % 64) ∷ (filled f (values_cells (shown vs)) ++ rest)) ≡ told_of f n vs ∷
    rows_read most rest
long_row f most n vs rest h same more few =
    let bytes = filled f (values_cells (shown vs)) ++ rest in let second = 128 + 2 * length vs % 64 in
    let number : (128 + n) % 64 ≡ n = omega (arith, h) in
    let count : 2 * length (shown vs) ≡ long_count second = go (second % 64 == 0) refl in
    read_long most (128 + n) (second ∷ bytes) (omega arith) ∙ ap (λ r. r ∷ rows_read most (drop (1 + long_count second) (second ∷ bytes)))
    (row_data f n ((128 + n) % 64) (long_count second) vs rest number count)
    ∙ ap (λ bs. told_of f n vs ∷ rows_read most bs) (behind second bytes ∙ row_rest f (long_count second) vs rest count)
  where
    go : (b : Bool) → ((128 + 2 * length vs % 64) % 64 == 0) ≡ b →
        2 * length (shown vs) ≡ (if b then 64 else (128 + 2 * length vs % 64) % 64)
    go true e = omega (arith, eqb-true ((128 + 2 * length vs % 64) % 64) 0 e, same, more, few)
    go false e = omega (arith, eqb-false ((128 + 2 * length vs % 64) % 64) 0 e, same, more, few)

    behind : (second : ℕ) (bytes : List ℕ) → drop (1 + long_count second) (second ∷ bytes) ≡ drop (long_count second) bytes
    behind second bytes =
        let there : 1 + long_count second ≡ suc (long_count second) = omega arith in ap (λ n. drop n (second ∷ bytes)) there

row_by : (f : Target → ℕ) (most n : ℕ) (vs : List Value) (rest : List ℕ) → n < 64 → length vs ≤ 32
    → rows_read (suc most) (filled f (size_cells n (length vs) ++ values_cells (shown vs)) ++ rest) ≡ told_of f n vs ∷ rows_read most rest
row_by f most n [] rest h few = short_row f most n [] rest h refl
row_by f most n (v ∷ []) rest h few = short_row f most n (v ∷ []) rest h refl
row_by f most n (v ∷ w ∷ vs) rest h few =
    let more : 1 < length (v ∷ w ∷ vs) = omega arith in
    ap (λ (b : Bool). rows_read (suc most) (filled f ((if b then Cell.Byte (64 + n) ∷ [] else Cell.Byte (128 + n) ∷ Cell.Byte
    (128 + 2 * length (v ∷ w ∷ vs) % 64) ∷ []) ++ values_cells (v ∷ w ∷ vs)) ++ rest)) (lt-leb (length (v ∷ w ∷ vs)) 1 more)
    ∙ long_row f most n (v ∷ w ∷ vs) rest h refl more few

-- tells whether a table can have these properties
abbrev pub AreRows : List Property → Type 0
AreRows [] = Unit {0}
AreRows (p ∷ ps) = (p.number < 64) × (length p.values ≤ 32) × AreRows ps

rows_are_read : (f : Target → ℕ) (most : ℕ) (ps : List Property) (rest : List ℕ) → AreRows ps → length ps ≤ most
    → rows_read most (filled f (rows_cells ps) ++ 0 ∷ rest) ≡ map (told f) ps
rows_are_read f zero [] rest h few = refl
rows_are_read f (suc most) [] rest h few = refl
rows_are_read f zero (p ∷ ps) rest h few = absurd (omega (arith, few))
rows_are_read f (suc most) (p ∷ ps) rest h few =
    ap (λ bs. rows_read (suc most) (bs ++ 0 ∷ rest)) (filled-append f (row_cells p) (rows_cells ps))
    ∙ ap (rows_read (suc most)) (append_assoc (filled f (row_cells p)) (filled f (rows_cells ps)) (0 ∷ rest))
    ∙ row_by f most p.number p.values (filled f (rows_cells ps) ++ 0 ∷ rest) h.0 h.1
    ∙ ap (λ rs. told f p ∷ rs) (rows_are_read f most ps rest h.2 (omega (arith, few)))

-- each property has at least one byte
row_some : (f : Target → ℕ) (p : Property) → 1 ≤ length (filled f (row_cells p))
row_some f p = go (nat_le (length p.values) 1) where
  go : (b : Bool) → 1 ≤ length (filled f ((if b then Cell.Byte (64 + p.number) ∷ [] else Cell.Byte (128 + p.number) ∷ Cell.Byte
      (128 + 2 * length p.values % 64) ∷ []) ++ values_cells (shown p.values)))
  go true = omega arith
  go false = omega arith

rows_some : (f : Target → ℕ) (ps : List Property) → length ps ≤ length (filled f (rows_cells ps))
rows_some f [] = omega arith
rows_some f (p ∷ ps) = omega (
  arith,
  ap length (filled-append f (row_cells p) (rows_cells ps)),
  length-append (filled f (row_cells p)) (filled f (rows_cells ps)),
  row_some f p,
  rows_some f ps,
)

filled-bytes : (f : Target → ℕ) (bs : List ℕ) → filled f (byte_cells bs) ≡ bs
filled-bytes f [] = refl
filled-bytes f (b ∷ bs) = ap (λ cs. b ∷ cs) (filled-bytes f bs)

pub table_is_read : (f : Target → ℕ) (name : List ℕ) (words : ℕ) (ps : List Property) (rest : List ℕ) → length name ≡ 2 * words →
    words < 256 → AreRows ps → table_read (filled f (name_cells name ++ rows_cells ps ++ Cell.Byte 0 ∷ []) ++ rest) ≡ map (told f) ps
table_is_read f name words ps rest e few h =
    let rows = filled f (rows_cells ps) in
    let count : 2 * (length name / 2 % 256) ≡ length name = omega (arith, e, few) in
    let flat : filled f (name_cells name ++ rows_cells ps ++ Cell.Byte 0 ∷ []) ++ rest ≡ (length name / 2 % 256) ∷
    (name ++ (rows ++ 0 ∷ rest)) = flatten in
    ap table_read flat
    ∙ ap (rows_read (length (name ++ (rows ++ 0 ∷ rest)))) (drop_front (2 * (length name / 2 % 256)) name (rows ++ 0 ∷ rest) (sym count))
    ∙ rows_are_read f (length (name ++ (rows ++ 0 ∷ rest))) ps rest h
    (omega (arith, rows_some f ps, length-append name (rows ++ 0 ∷ rest), length-append rows (0 ∷ rest)))
  where
    count_byte : ℕ
    count_byte = length name / 2 % 256

    flatten : filled f (name_cells name ++ rows_cells ps ++ Cell.Byte 0 ∷ []) ++ rest ≡ count_byte ∷
        (name ++ (filled f (rows_cells ps) ++ 0 ∷ rest))
    flatten = ap (λ bs. bs ++ rest) (filled-append f (name_cells name ++ rows_cells ps) (Cell.Byte 0 ∷ []) ∙ ap (λ bs. bs ++ 0 ∷ [])
        (filled-append f (name_cells name) (rows_cells ps)))
        ∙ append_assoc (filled f (name_cells name) ++ filled f (rows_cells ps)) (0 ∷ []) rest
        ∙ append_assoc (filled f (name_cells name)) (filled f (rows_cells ps)) (0 ∷ rest)
        ∙ ap (λ bs. count_byte ∷ (bs ++ (filled f (rows_cells ps) ++ 0 ∷ rest))) (filled-bytes f name)

-- The rows of an object fall in number, and each is the property that the object has of its number.
found_number : (n : ℕ) (ps : List Property) (p : Property) → found n ps ≡ Some p → p.number ≡ n
found_number n [] p e = cc
found_number n (q ∷ ps) p e = go (q.number == n) refl e (found_number n ps p) where
  go : (b : Bool) → (q.number == n) ≡ b → (if b then Some q else found n ps) ≡ Some p → (found n ps ≡ Some p → p.number ≡ n) → p.number ≡ n
  go true same is later = let this : q ≡ p = cc in ap (λ (r : Property). r.number) (sym this) ∙ eqb-true q.number n same
  go false other is later = later is

pub falling_rows : (k : ℕ) (ps : List Property) → k ≤ 64 → are_short ps ≡ true → AreRows (falling k ps)
falling_rows zero ps h short = tt
falling_rows (suc k) ps h short = go (found k ps) refl (falling_rows k ps (omega (arith, h)) short) where
  go : (o : Option Property) → found k ps ≡ o → AreRows (falling k ps) → AreRows (option_to_list o ++ falling k ps)
  go None e later = later
  go (Some p) e later = let this = found_one k ps p e short in (omega (arith, this.0, h), this.1, later)

below_more : (k : ℕ) (ps : List Property) → AreFallingBelow k ps → AreFallingBelow (suc k) ps
below_more k [] h = tt
below_more k (p ∷ ps) h = (omega (arith, h.0), h.1)

pub falling_below : (k : ℕ) (ps : List Property) → AreFallingBelow k (falling k ps)
falling_below zero ps = tt
falling_below (suc k) ps = go (found k ps) refl (falling_below k ps) where
  go : (o : Option Property) → found k ps ≡ o → AreFallingBelow k (falling k ps) →
      AreFallingBelow (suc k) (option_to_list o ++ falling k ps)
  go None e later = below_more k (falling k ps) later
  go (Some p) e later =
      let number = found_number k ps p e in
      (omega (arith, number), subst (λ n. AreFallingBelow n (falling k ps)) (sym number) later)

-- no property has a number that is not below the bound
not_below : (n k : ℕ) (ps : List Property) → k ≤ n → AreFallingBelow k ps → found n ps ≡ None
not_below n k [] h f = refl
not_below n k (p ∷ ps) h f = ap (λ (b : Bool). if b then Some p else found n ps) (ne_eqb p.number n (λ e. omega (arith, e, h, f.0)))
    ∙ not_below n p.number ps (omega (arith, h, f.0)) f.1

pub found_falling : (n k : ℕ) (ps : List Property) → n < k → found n (falling k ps) ≡ found n ps
found_falling n zero ps h = absurd (omega (arith, h))
found_falling n (suc k) ps h = found-append n (option_to_list (found k ps)) (falling k ps) ∙ go (n == k) refl (found_falling n k ps) where
  one : (o : Option Property) → found k ps ≡ o → (n ≡ k) → or_found (found n (option_to_list o)) (found n (falling k ps)) ≡ found n ps
  one None e same = not_below n k (falling k ps) (omega (arith, same)) (falling_below k ps) ∙ sym (ap (λ m. found m ps) same ∙ e)
  one (Some p) e same = ap (λ (b : Bool). or_found (if b then Some p else None) (found n (falling k ps)))
      (eq-eqb p.number n (found_number k ps p e ∙ sym same)) ∙ sym (ap (λ m. found m ps) same ∙ e)

  other : (o : Option Property) → found k ps ≡ o → (n ≡ k → ⊥) → found n (falling k ps) ≡ found n ps →
      or_found (found n (option_to_list o)) (found n (falling k ps)) ≡ found n ps
  other None e isnt later = later
  other (Some p) e isnt later = ap (λ (b : Bool). or_found (if b then Some p else None) (found n (falling k ps)))
      (ne_eqb p.number n (λ same. isnt (sym same ∙ found_number k ps p e))) ∙ later

  go : (b : Bool) → (n == k) ≡ b → (n < k → found n (falling k ps) ≡ found n ps) →
      or_found (found n (option_to_list (found k ps))) (found n (falling k ps)) ≡ found n ps
  go true same later = one (found k ps) refl (eqb-true n k same)
  go false isnt later = other (found k ps) refl (eqb-false n k isnt) (later (omega (arith, h, eqb-false n k isnt)))

short_classes : (cs : List ℕ) → length cs ≤ 32 → are_short (class_rows cs) ≡ true
short_classes [] h = refl
short_classes (c ∷ cs) h = and_from (nat_le (length (class_values (c ∷ cs))) 32) true
    (le-leb (length (class_values (c ∷ cs))) 32 (omega (arith, length-class_values (c ∷ cs), h))) refl

short_address : (part : ℕ) (ps : List Property) → are_short (address_rows part ps) ≡ true
short_address part ps = go (has_individual ps) where
  row : Property
  row = record { number = 3; is_additive = false; values = Value.Later (Target.Part AreaName.IndividualTables part) ∷ [] }

  go : (b : Bool) → are_short (if b then row ∷ [] else []) ≡ true
  go true = refl
  go false = refl

pub short_rows : (w : Owner) (part : ℕ) (o : Object) → length o.classes ≤ 32 → are_short o.properties ≡ true →
    are_short (rows_by w part o) ≡ true
short_rows Owner.Object part o few short = list_all-append is_short (class_rows o.classes ++ address_rows part o.properties) o.properties
    ∙ and_from (are_short (class_rows o.classes ++ address_rows part o.properties)) (are_short o.properties)
    (list_all-append is_short (class_rows o.classes) (address_rows part o.properties)
    ∙ and_from (are_short (class_rows o.classes)) (are_short (address_rows part o.properties)) (short_classes o.classes few)
    (short_address part o.properties)) short
short_rows Owner.Class part o few short = refl
short_rows Owner.Nothing part o few short = refl
