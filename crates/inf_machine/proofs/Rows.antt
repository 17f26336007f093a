-- The atoms that begin symbols, and the row of a rule that an atom chooses.
use Rattle.std.proofs.Common.{◌≡◌, ℕ, ◌≤◌, List, [], ◌∷◌, ◌++◌, Bool, true, false, ◌&&◌, ◌||◌, ◌==◌, refl, sym, ◌∙◌, ap, arith, bit_or}
use Rattle.std.proofs.Common.{bit_and, if◌then◌else◌, inl, inr}
use Rattle.std.proofs.lemmas.Bool.{eqb-true, or_left, or_right, or_cases, or_parts, and_parts, cond-true, cond-false, false_from_ne_true}
use Rattle.std.proofs.lemmas.Bool.{both_ways}
use Rattle.inf_machine.specs.{Decided.all_beginnings, Decided.are_apart, Decided.beginning, Decided.empty_rows, Machine.Known}
use Rattle.inf_machine.specs.{Machine.can_end, Machine.empty_row, Machine.fits, Machine.row_for, declared.symbols.Symbol.Symbol}
use Rattle.inf_machine.specs.Grammar.{Grammar, Row, has, IsOneOf, first, later}
use Rattle.inf_machine.proofs.Sets.{has_zero, has_or, has_and}

or_false : (b : Bool) → b ≡ (b || false)
or_false true = refl
or_false false = refl

regroup : (h e f c s : Bool) → (h || (e && (f || (c && s)))) ≡ ((h || (e && f)) || ((e && c) && s))
regroup true e f c s = refl
regroup false true f c s = refl
regroup false false f c s = refl

module _ {A : Type 0} where
  -- an atom fits symbols exactly if it is one of those that begin them
  pub fits_is_begun : (g : Grammar A) (k : Known) (atom : ℕ) (symbols : List (Symbol A)) →
      fits g k atom symbols ≡ has (beginning g k symbols) atom
  fits_is_begun g k atom [] = sym (has_zero atom)
  fits_is_begun g k atom (Symbol.Token class ∷ symbols) = refl
  fits_is_begun g k atom (Symbol.Act a ∷ symbols) = fits_is_begun g k atom symbols
  fits_is_begun g k atom (Symbol.Rule rule ∷ symbols) =
      ap (λ f. has (k.begins rule) atom || (k.is_empty rule && f)) (fits_is_begun g k atom symbols)
      ∙ by_empty (k.is_empty rule) (k.begins rule) (beginning g k symbols)
    where
      by_empty : (e : Bool) (b s : ℕ) → (has b atom || (e && has s atom)) ≡ has (if e then bit_or b s else b) atom
      by_empty true b s = sym (has_or b s atom)
      by_empty false b s = sym (or_false (has b atom))

  -- an atom fits two lists of symbols if it fits the first, or the second where the first can be empty
  pub fits_append : (g : Grammar A) (k : Known) (atom : ℕ) (xs ys : List (Symbol A)) →
      fits g k atom (xs ++ ys) ≡ (fits g k atom xs || (can_end k xs && fits g k atom ys))
  fits_append g k atom [] ys = refl
  fits_append g k atom (Symbol.Token class ∷ xs) ys = or_false (has (g.atoms_of class) atom)
  fits_append g k atom (Symbol.Act a ∷ xs) ys = fits_append g k atom xs ys
  fits_append g k atom (Symbol.Rule rule ∷ xs) ys =
      ap (λ f. has (k.begins rule) atom || (k.is_empty rule && f)) (fits_append g k atom xs ys)
      ∙ regroup (has (k.begins rule) atom) (k.is_empty rule) (fits g k atom xs) (can_end k xs) (fits g k atom ys)

  -- no atom that was seen begins one of the rows
  pub seen_begins_none : (g : Grammar A) (k : Known) (atom seen : ℕ) (rows : List (Row A)) (r : Row A) → IsOneOf r rows →
      are_apart g k seen rows ≡ true → has seen atom ≡ true → fits g k atom r.parts ≡ false
  seen_begins_none g k atom seen [] r m apart h = elim m [ ]
  seen_begins_none g k atom seen (r ∷ rows) r' first apart h =
      let here = and_parts (bit_and seen (beginning g k r.parts) == 0) (are_apart g k (bit_or seen (beginning g k r.parts)) rows) apart in
      let none : has (bit_and seen (beginning g k r.parts)) atom ≡ false =
      ap (λ s. has s atom) (eqb-true (bit_and seen (beginning g k r.parts)) 0 here.0) ∙ has_zero atom in
      fits_is_begun g k atom r.parts
      ∙ other (has seen atom) (has (beginning g k r.parts) atom) h (sym (has_and seen (beginning g k r.parts) atom) ∙ none)
    where
      other : (x y : Bool) → x ≡ true → (x && y) ≡ false → y ≡ false
      other true y e f = f
      other false y e f = cc
  seen_begins_none g k atom seen (y ∷ rows) r (later m) apart h =
      let here = and_parts (bit_and seen (beginning g k y.parts) == 0) (are_apart g k (bit_or seen (beginning g k y.parts)) rows) apart in
      seen_begins_none g k atom (bit_or seen (beginning g k y.parts)) rows r m here.1
      (has_or seen (beginning g k y.parts) atom ∙ or_left (has seen atom) (has (beginning g k y.parts) atom) h)

  -- the row that an atom begins is the one that it chooses
  pub begun_is_chosen : (g : Grammar A) (k : Known) (atom seen : ℕ) (other : List (Symbol A)) (rows : List (Row A)) (r : Row A) →
      IsOneOf r rows → are_apart g k seen rows ≡ true → fits g k atom r.parts ≡ true → row_for g k atom other rows ≡ r.parts
  begun_is_chosen g k atom seen other [] r m apart h = elim m [ ]
  begun_is_chosen g k atom seen other (r ∷ rows) r' first apart h =
      cond-true (fits g k atom r.parts) r.parts (row_for g k atom other rows) h
  begun_is_chosen g k atom seen other (y ∷ rows) r (later m) apart h =
      let here = and_parts (bit_and seen (beginning g k y.parts) == 0) (are_apart g k (bit_or seen (beginning g k y.parts)) rows) apart in
      let not_here : fits g k atom y.parts ≡ false = false_from_ne_true (fits g k atom y.parts) (λ f. both_ways (fits g k atom r.parts)
      (seen_begins_none g k atom (bit_or seen (beginning g k y.parts)) rows r m here.1
      (has_or seen (beginning g k y.parts) atom ∙ or_right (has seen atom) (has (beginning g k y.parts) atom)
      (sym (fits_is_begun g k atom y.parts) ∙ f))) h) in
      cond-false (fits g k atom y.parts) y.parts (row_for g k atom other rows) not_here
      ∙ begun_is_chosen g k atom (bit_or seen (beginning g k y.parts)) other rows r m here.1 h

  -- an atom that begins a row is among those that begin the rows
  pub begins_all : (g : Grammar A) (k : Known) (atom : ℕ) (rows : List (Row A)) (r : Row A) → IsOneOf r rows →
      fits g k atom r.parts ≡ true → has (all_beginnings g k rows) atom ≡ true
  begins_all g k atom [] r m h = elim m [ ]
  begins_all g k atom (r ∷ rows) r' first h = has_or (beginning g k r.parts) (all_beginnings g k rows) atom
      ∙ or_left (has (beginning g k r.parts) atom) (has (all_beginnings g k rows) atom) (sym (fits_is_begun g k atom r.parts) ∙ h)
  begins_all g k atom (y ∷ rows) r (later m) h = has_or (beginning g k y.parts) (all_beginnings g k rows) atom
      ∙ or_right (has (beginning g k y.parts) atom) (has (all_beginnings g k rows) atom) (begins_all g k atom rows r m h)

  -- an atom that begins no row chooses the other one
  pub none_chooses_other : (g : Grammar A) (k : Known) (atom : ℕ) (other : List (Symbol A)) (rows : List (Row A)) →
      has (all_beginnings g k rows) atom ≡ false → row_for g k atom other rows ≡ other
  none_chooses_other g k atom other [] h = refl
  none_chooses_other g k atom other (r ∷ rows) h =
      let parts = or_parts (has (beginning g k r.parts) atom) (has (all_beginnings g k rows) atom)
      (sym (has_or (beginning g k r.parts) (all_beginnings g k rows) atom) ∙ h) in
      cond-false (fits g k atom r.parts) r.parts (row_for g k atom other rows) (fits_is_begun g k atom r.parts ∙ parts.0)
      ∙ none_chooses_other g k atom other rows parts.1

  -- the row that an atom begins is chosen whatever the other row is
  pub begun_whatever : (g : Grammar A) (k : Known) (atom : ℕ) (one other : List (Symbol A)) (rows : List (Row A)) →
      has (all_beginnings g k rows) atom ≡ true → row_for g k atom one rows ≡ row_for g k atom other rows
  begun_whatever g k atom one other [] h = absurd (both_ways (has 0 atom) (has_zero atom) h)
  begun_whatever g k atom one other (r ∷ rows) h = by_test (λ e. begun_whatever g k atom one other rows e) (fits g k atom r.parts) refl
    where
      rest : fits g k atom r.parts ≡ false → has (all_beginnings g k rows) atom ≡ true
      rest f = elim (or_cases (has (beginning g k r.parts) atom) (has (all_beginnings g k rows) atom)
          (sym (has_or (beginning g k r.parts) (all_beginnings g k rows) atom) ∙ h)) [
            | inl b ↦ absurd (both_ways (fits g k atom r.parts) f (fits_is_begun g k atom r.parts ∙ b))
            | inr b ↦ b
          ]

      by_test : (has (all_beginnings g k rows) atom ≡ true → row_for g k atom one rows ≡ row_for g k atom other rows) → (b : Bool) →
          fits g k atom r.parts ≡ b → row_for g k atom one (r ∷ rows) ≡ row_for g k atom other (r ∷ rows)
      by_test in_rest true e = cond-true (fits g k atom r.parts) r.parts (row_for g k atom one rows) e
          ∙ sym (cond-true (fits g k atom r.parts) r.parts (row_for g k atom other rows) e)
      by_test in_rest false e = cond-false (fits g k atom r.parts) r.parts (row_for g k atom one rows) e ∙ in_rest (rest e)
          ∙ sym (cond-false (fits g k atom r.parts) r.parts (row_for g k atom other rows) e)

  -- a row that an atom chooses since it begins the row
  pub record Begun (g : Grammar A) (k : Known) (atom : ℕ) (rows : List (Row A)) (parts : List (Symbol A)) : Type 0 where
    pub row : Row A
    pub one : IsOneOf row rows
    pub is : parts ≡ row.parts
    pub fits_it : fits g k atom row.parts ≡ true

  -- an atom that begins one of the rows chooses a row that it begins
  pub some_is_begun : (g : Grammar A) (k : Known) (atom : ℕ) (other : List (Symbol A)) (rows : List (Row A)) →
      has (all_beginnings g k rows) atom ≡ true → Begun g k atom rows (row_for g k atom other rows)
  some_is_begun g k atom other [] h = absurd (both_ways (has 0 atom) (has_zero atom) h)
  some_is_begun g k atom other (r ∷ rows) h = by_test (λ e. some_is_begun g k atom other rows e) (fits g k atom r.parts) refl where
    rest : fits g k atom r.parts ≡ false → has (all_beginnings g k rows) atom ≡ true
    rest f = elim (or_cases (has (beginning g k r.parts) atom) (has (all_beginnings g k rows) atom)
        (sym (has_or (beginning g k r.parts) (all_beginnings g k rows) atom) ∙ h)) [
          | inl b ↦ absurd (both_ways (fits g k atom r.parts) f (fits_is_begun g k atom r.parts ∙ b))
          | inr b ↦ b
        ]

    by_test : (has (all_beginnings g k rows) atom ≡ true → Begun g k atom rows (row_for g k atom other rows)) → (b : Bool) →
        fits g k atom r.parts ≡ b → Begun g k atom (r ∷ rows) (row_for g k atom other (r ∷ rows))
    by_test in_rest true e =
        record { row = r; one = first; is = cond-true (fits g k atom r.parts) r.parts (row_for g k atom other rows) e; fits_it = e }
    by_test in_rest false e =
        let b = in_rest (rest e) in
        record {
          row = b.row;
          one = later b.one;
          is = cond-false (fits g k atom r.parts) r.parts (row_for g k atom other rows) e ∙ b.is;
          fits_it = b.fits_it;
        }

  -- a row that can be empty is counted among those that can
  pub empty_counts : (k : Known) (rows : List (Row A)) (r : Row A) → IsOneOf r rows → can_end k r.parts ≡ true → 1 ≤ empty_rows k rows
  empty_counts k [] r m h = elim m [ ]
  empty_counts k (r ∷ rows) r' first h = omega (arith, cond-true {A = ℕ} (can_end k r.parts) 1 0 h)
  empty_counts k (y ∷ rows) r (later m) h = omega (arith, empty_counts k rows r m h)

  -- the only row that can be empty is the empty row
  pub empty_is_chosen : (k : Known) (rows : List (Row A)) (r : Row A) → IsOneOf r rows → can_end k r.parts ≡ true → empty_rows k rows ≤ 1 →
      empty_row k rows ≡ r.parts
  empty_is_chosen k [] r m h n = elim m [ ]
  empty_is_chosen k (r ∷ rows) r' first h n = cond-true (can_end k r.parts) r.parts (empty_row k rows) h
  empty_is_chosen k (y ∷ rows) r (later m) h n =
      let not_here : can_end k y.parts ≡ false =
      false_from_ne_true (can_end k y.parts) (λ f. omega (arith, cond-true {A = ℕ} (can_end k y.parts) 1 0 f, empty_counts k rows r m h)) in
      cond-false (can_end k y.parts) y.parts (empty_row k rows) not_here ∙ empty_is_chosen k rows r m h (omega arith)

  pub record Empty (k : Known) (rows : List (Row A)) (parts : List (Symbol A)) : Type 0 where
    pub row : Row A
    pub one : IsOneOf row rows
    pub is : parts ≡ row.parts
    pub ends : can_end k row.parts ≡ true

  -- where a row can be empty the empty row is one that can
  pub some_is_empty : (k : Known) (rows : List (Row A)) → 1 ≤ empty_rows k rows → Empty k rows (empty_row k rows)
  some_is_empty k [] n = absurd (omega arith)
  some_is_empty k (r ∷ rows) n = by_test (λ e. some_is_empty k rows e) (can_end k r.parts) refl where
    by_test : (1 ≤ empty_rows k rows → Empty k rows (empty_row k rows)) → (b : Bool) → can_end k r.parts ≡ b →
        Empty k (r ∷ rows) (empty_row k (r ∷ rows))
    by_test in_rest true e = record { row = r; one = first; is = cond-true (can_end k r.parts) r.parts (empty_row k rows) e; ends = e }
    by_test in_rest false e =
        let m = in_rest (omega (arith, cond-false {A = ℕ} (can_end k r.parts) 1 0 e)) in
        record { row = m.row; one = later m.one; is = cond-false (can_end k r.parts) r.parts (empty_row k rows) e ∙ m.is; ends = m.ends }
