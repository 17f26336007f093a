-- The properties in a property table, number by number.
use Rattle.std.proofs.Common.{◌≡◌, ◌<◌, ◌+◌, ◌∷◌, ◌++◌, ◌==◌, [], ℕ, zero, suc, List, Bool, true, false, Option, Some, None, length}
use Rattle.std.proofs.Common.{append_assoc, append-nil, refl, sym, ap, subst, ◌∙◌, arith, is_some, option_to_list, if◌then◌else◌}
use Rattle.std.proofs.lemmas.Bool.{eqb-true, eqb-false, ne_eqb}
use Rattle.inf_area.specs.{Cells.values_cells, declared.targets.AreaName.AreaName, declared.targets.Target.Target}
use Rattle.inf_area.specs.{declared.targets.Value.Value}
use Rattle.inf_properties.specs.{declared.sizes.Owner.Owner, declared.values.Property.Property}
use Rattle.inf_properties.specs.Properties.{AreFree, found, has}
use Rattle.inf_properties.proofs.Having.{found-append, or_found}
use Rattle.inf_objects.specs.declared.objects.Object.{Object}
use Rattle.inf_objects.specs.Tables.{address_rows, class_rows, class_values, falling, has_individual, row_cells, rows_by, rows_cells}
use Rattle.inf_objects.specs.Tables.{rows_for, rows_of, size_cells}

pub length-class_values : (ns : List ℕ) → length (class_values ns) ≡ length ns
length-class_values [] = refl
length-class_values (n ∷ ns) = omega (arith, length-class_values ns)

-- the list of classes, where it is not empty
pub class_rows_cells : (ns : List ℕ) → 0 < length ns →
    rows_cells (class_rows ns) ≡ size_cells 2 (length ns) ++ values_cells (class_values ns)
class_rows_cells [] h = absurd (omega arith)
class_rows_cells (n ∷ ns) h = append-nil (size_cells 2 (length (class_values (n ∷ ns))) ++ values_cells (class_values (n ∷ ns)))
    ∙ ap (λ k. size_cells 2 k ++ values_cells (class_values (n ∷ ns))) (length-class_values (n ∷ ns))

pub rows-append : (xs ys : List Property) → rows_cells (xs ++ ys) ≡ rows_cells xs ++ rows_cells ys
rows-append [] ys = refl
rows-append (x ∷ xs) ys =
    ap (λ cs. row_cells x ++ cs) (rows-append xs ys) ∙ sym (append_assoc (row_cells x) (rows_cells xs) (rows_cells ys))

pub none-found : (n : ℕ) (ps : List Property) → has n ps ≡ false → found n ps ≡ None
none-found n ps h = go (found n ps) h where
  go : (o : Option Property) → is_some o ≡ false → o ≡ None
  go None e = refl
  go (Some p) e = cc

pub no_classes : (n : ℕ) (cs : List ℕ) → (2 == n) ≡ false → found n (class_rows cs) ≡ None
no_classes n [] e = refl
no_classes n (c ∷ cs) e =
    ap (λ (b : Bool). if b then Some (record { number = 2; is_additive = false; values = class_values (c ∷ cs) }) else None) e

pub no_address : (n part : ℕ) (ps : List Property) → (3 == n) ≡ false → found n (address_rows part ps) ≡ None
no_address n part ps e = go (has_individual ps) where
  row : Property
  row = record { number = 3; is_additive = false; values = Value.Later (Target.Part AreaName.IndividualTables part) ∷ [] }

  go : (b : Bool) → found n (if b then row ∷ [] else []) ≡ None
  go true = ap (λ (c : Bool). if c then Some row else None) e
  go false = refl

classes_are : (cs : List ℕ) → option_to_list (found 2 (class_rows cs)) ≡ class_rows cs
classes_are [] = refl
classes_are (c ∷ cs) = refl

address_is : (part : ℕ) (ps : List Property) → option_to_list (found 3 (address_rows part ps)) ≡ address_rows part ps
address_is part ps = go (has_individual ps) where
  row : Property
  row = record { number = 3; is_additive = false; values = Value.Later (Target.Part AreaName.IndividualTables part) ∷ [] }

  go : (b : Bool) → option_to_list (found 3 (if b then row ∷ [] else [])) ≡ (if b then row ∷ [] else [])
  go true = refl
  go false = refl

first_alone : (o : Option Property) → or_found (or_found o None) None ≡ o
first_alone None = refl
first_alone (Some p) = refl

second_alone : (o : Option Property) → or_found (or_found None o) None ≡ o
second_alone None = refl
second_alone (Some p) = refl

-- the property of a number, looked for in three lists, one after the other
abbrev three : Option Property → Option Property → Option Property → Option Property
three a b c = or_found (or_found a b) c

found-rows : (part n : ℕ) (o : Object) → found n (rows_by Owner.Object part o) ≡ three (found n (class_rows o.classes))
    (found n (address_rows part o.properties)) (found n o.properties)
found-rows part n o = found-append n (class_rows o.classes ++ address_rows part o.properties) o.properties
    ∙ ap (λ x. or_found x (found n o.properties)) (found-append n (class_rows o.classes) (address_rows part o.properties))

rows_for-object : (part n : ℕ) (o : Object) → AreFree o.properties →
    rows_for part o n ≡ option_to_list (found n (rows_by Owner.Object part o))
rows_for-object part n o free = go (n == 2) (n == 3) refl refl where
  cs : List ℕ
  cs = o.classes

  ps : List Property
  ps = o.properties

  one : (k : ℕ) → k ≡ 2 → class_rows cs ≡ option_to_list (found k (rows_by Owner.Object part o))
  one k is = subst (λ m. class_rows cs ≡ option_to_list (found m (rows_by Owner.Object part o))) (sym is)
      (sym (ap option_to_list (found-rows part 2 o ∙ ap (λ x. three (found 2 (class_rows cs)) x (found 2 ps)) (no_address 2 part ps refl)
      ∙ ap (λ x. three (found 2 (class_rows cs)) None x) (none-found 2 ps free.no_classes)
      ∙ first_alone (found 2 (class_rows cs))) ∙ classes_are cs))

  two : (k : ℕ) → k ≡ 3 → address_rows part ps ≡ option_to_list (found k (rows_by Owner.Object part o))
  two k is = subst (λ m. address_rows part ps ≡ option_to_list (found m (rows_by Owner.Object part o))) (sym is)
      (sym (ap option_to_list (found-rows part 3 o ∙ ap (λ x. three x (found 3 (address_rows part ps)) (found 3 ps))
      (no_classes 3 cs refl) ∙ ap (λ x. three None (found 3 (address_rows part ps)) x) (none-found 3 ps free.no_address)
      ∙ second_alone (found 3 (address_rows part ps))) ∙ address_is part ps))

  other : (n ≡ 2 → ⊥) → (n ≡ 3 → ⊥) → option_to_list (found n ps) ≡ option_to_list (found n (rows_by Owner.Object part o))
  other e f = sym (ap option_to_list (found-rows part n o ∙ ap (λ x. three x (found n (address_rows part ps)) (found n ps))
      (no_classes n cs (ne_eqb 2 n (λ same. e (sym same))))
      ∙ ap (λ x. three None x (found n ps)) (no_address n part ps (ne_eqb 3 n (λ same. f (sym same))))))

  go : (a b : Bool) → (n == 2) ≡ a → (n == 3) ≡ b
      → (if a then class_rows cs else if b then address_rows part ps else option_to_list (found n ps)) ≡ option_to_list
      (found n (rows_by Owner.Object part o))
  go true b is at = one n (eqb-true n 2 is)
  go false true is at = two n (eqb-true n 3 at)
  go false false is at = other (eqb-false n 2 is) (eqb-false n 3 at)

pub rows_for-found : (part n : ℕ) (o : Object) → o.owner ≡ Owner.Object → AreFree o.properties →
    rows_for part o n ≡ option_to_list (found n (rows_of part o))
rows_for-found part n o e free = rows_for-object part n o free ∙ ap (λ w. option_to_list (found n (rows_by w part o))) (sym e)

-- the rows below a number are its own and those below the next lower number
pub falling-step : (part n left : ℕ) (o : Object) → left ≡ n + 1 → o.owner ≡ Owner.Object → AreFree o.properties
    → rows_cells (falling left (rows_of part o)) ≡ rows_cells (rows_for part o n) ++ rows_cells (falling n (rows_of part o))
falling-step part n left o is e free =
    let there : left ≡ suc n = omega (arith, is) in
    ap (λ k. rows_cells (falling k (rows_of part o))) there
    ∙ rows-append (option_to_list (found n (rows_of part o))) (falling n (rows_of part o))
    ∙ ap (λ ps. rows_cells ps ++ rows_cells (falling n (rows_of part o))) (sym (rows_for-found part n o e free))

pub nothing_falls : (n : ℕ) → falling n [] ≡ []
nothing_falls zero = refl
nothing_falls (suc n) = nothing_falls n
