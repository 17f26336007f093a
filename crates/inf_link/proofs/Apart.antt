-- Fixups that do not overlap may be filled in any order.
use Rattle.std.proofs.Common.{◌≡◌, ◌∙◌, ℕ, zero, suc, ◌+◌, ◌/◌, ◌%◌, ◌<◌, ◌≤◌, ◌≢◌, ◌⊎◌, inl, inr, List, [], ◌∷◌, Bool, true, false}
use Rattle.std.proofs.Common.{if◌then◌else◌, length, set, refl, ap, sym, subst, arith, nat_lt, ◌==◌, slice_index_or, AllPairs, Contains}
use Rattle.std.proofs.{lemmas.Bool.eqb-true, lemmas.List.set_comm}
use Rattle.inf_area.specs.{Words.with_word, declared.fixups.Fixup.Fixup, declared.targets.AreaName.AreaName, declared.targets.Target.Target}
use Rattle.inf_link.specs.{Areas.area_of, Areas.order, Areas.rank, Filling.filled, Filling.with_filled, Filling.with_number}
use Rattle.inf_link.specs.{FillingLaws.AreApart, FillingLaws.HaveSameFixups, declared.areas.Areas.Areas}
use Rattle.inf_link.proofs.{Fillings.length-with_number, Names.area_of-by_name, Names.by_name-same}

-- areas of the same rank are the same
ranked : (a : AreaName) → slice_index_or order (rank a) AreaName.LowStrings ≡ a
ranked AreaName.LowStrings = refl
ranked AreaName.Abbreviations = refl
ranked AreaName.PropertyDefaults = refl
ranked AreaName.Objects = refl
ranked AreaName.PropertyTables = refl
ranked AreaName.ClassNumbers = refl
ranked AreaName.IndividualTables = refl
ranked AreaName.Globals = refl
ranked AreaName.Arrays = refl
ranked AreaName.Grammar = refl
ranked AreaName.Actions = refl
ranked AreaName.ParsingRoutines = refl
ranked AreaName.Dictionary = refl
ranked AreaName.Code = refl
ranked AreaName.Strings = refl

pub rank-same : (a b : AreaName) → rank a ≡ rank b → a ≡ b
rank-same a b same = sym (ranked a) ∙ ap (λ n. slice_index_or order n AreaName.LowStrings) same ∙ ranked b

-- two words that do not overlap
abbrev Far : ℕ → ℕ → Type 0
Far p q = (p + 2 ≤ q) ⊎ (q + 2 ≤ p)

from_far : (G : Type 0) (p q : ℕ) → Far p q → (p + 2 ≤ q → G) → (q + 2 ≤ p → G) → G
from_far G p q (inl before) f g = f before
from_far G p q (inr behind) f g = g behind

with_word-comm : (bytes : List ℕ) (p q m n : ℕ) → Far p q → with_word (with_word bytes p m) q n ≡ with_word (with_word bytes q n) p m
with_word-comm bytes p q m n far =
    let a = m / 256 in let b = m % 256 in let c = n / 256 in let d = n % 256 in
    let first : p ≢ q = λ e. from_far ⊥ p q far (λ x. omega (arith, x, e)) (λ x. omega (arith, x, e)) in
    let second : p ≢ q + 1 = λ e. from_far ⊥ p q far (λ x. omega (arith, x, e)) (λ x. omega (arith, x, e)) in
    let third : p + 1 ≢ q = λ e. from_far ⊥ p q far (λ x. omega (arith, x, e)) (λ x. omega (arith, x, e)) in
    let fourth : p + 1 ≢ q + 1 = λ e. from_far ⊥ p q far (λ x. omega (arith, x, e)) (λ x. omega (arith, x, e)) in
    let one = set bytes p a in
    ap (λ xs. set xs (q + 1) d) (set_comm one (p + 1) q b c third) ∙ set_comm (set one q c) (p + 1) (q + 1) b d fourth
    ∙ ap (λ xs. set (set xs (q + 1) d) (p + 1) b) (set_comm bytes p q a c first)
    ∙ ap (λ xs. set xs (p + 1) b) (set_comm (set bytes q c) p (q + 1) a d second)

with_number-comm : (bytes : List ℕ) (p q m n : ℕ) → Far p q →
    with_number q n (with_number p m bytes) ≡ with_number p m (with_number q n bytes)
with_number-comm bytes p q m n far =
    let within = λ (at : ℕ) (xs : List ℕ). nat_lt (at + 1) (length xs) in
    ap (λ len. put (nat_lt (q + 1) len) q n (with_number p m bytes)) (length-with_number p m bytes)
    ∙ both (nat_lt (p + 1) (length bytes)) (nat_lt (q + 1) (length bytes))
    ∙ sym (ap (λ len. put (nat_lt (p + 1) len) p m (with_number q n bytes)) (length-with_number q n bytes)) where
      put : Bool → ℕ → ℕ → List ℕ → List ℕ
      put b at number xs = if b then with_word xs at number else xs

      both : (s t : Bool) → put t q n (put s p m bytes) ≡ put s p m (put t q n bytes)
      both true true = with_word-comm bytes p q m n far
      both true false = refl
      both false true = refl
      both false false = refl

-- bytes after a change that is made or not
abbrev chosen : Bool → (List ℕ → List ℕ) → List ℕ → List ℕ
chosen b f bytes = if b then f bytes else bytes

chosen-comm : (s t : Bool) (f g : List ℕ → List ℕ) (bytes : List ℕ) → (s ≡ true → t ≡ true → g (f bytes) ≡ f (g bytes)) →
    chosen t g (chosen s f bytes) ≡ chosen s f (chosen t g bytes)
chosen-comm true true f g bytes same = same refl refl
chosen-comm true false f g bytes same = refl
chosen-comm false true f g bytes same = refl
chosen-comm false false f g bytes same = refl

-- the areas where one fixup is filled
abbrev pub step : (Target → ℕ) → Fixup → Areas (List ℕ) → Areas (List ℕ)
step number fixup contents = with_filled fixup.area fixup.place (number fixup.target) contents

pub area_of-step : (number : Target → ℕ) (fixup : Fixup) (contents : Areas (List ℕ)) (name : AreaName)
    → area_of name (step number fixup contents) ≡ chosen (rank fixup.area == rank name) (with_number fixup.place (number fixup.target))
    (area_of name contents)
area_of-step number fixup contents name =
    area_of-by_name (λ n. chosen (rank fixup.area == rank n) (with_number fixup.place (number fixup.target)) (area_of n contents)) name

-- two fixups that do not overlap may be filled in either order
step-comm : (number : Target → ℕ) (fixup other : Fixup) (contents : Areas (List ℕ)) → AreApart fixup other
    → step number other (step number fixup contents) ≡ step number fixup (step number other contents)
step-comm number fixup other contents apart = by_name-same (two fixup other) (two other fixup) same where
  does : Fixup → AreaName → List ℕ → List ℕ
  does f name bytes = chosen (rank f.area == rank name) (with_number f.place (number f.target)) bytes

  two : Fixup → Fixup → AreaName → List ℕ
  two f g name = does g name (area_of name (step number f contents))

  same : (name : AreaName) → two fixup other name ≡ two other fixup name
  same name = ap (does other name) (area_of-step number fixup contents name)
      ∙ chosen-comm (rank fixup.area == rank name) (rank other.area == rank name) (with_number fixup.place (number fixup.target))
      (with_number other.place (number other.target)) (area_of name contents)
      (λ here there. with_number-comm (area_of name contents) fixup.place other.place (number fixup.target) (number other.target)
      (apart (rank-same fixup.area other.area (eqb-true (rank fixup.area) (rank name) here ∙ sym
      (eqb-true (rank other.area) (rank name) there))))) ∙ ap (does fixup name) (sym (area_of-step number other contents name))

-- Tells whether a list has a fixup.
abbrev pub IsIn : Fixup → List Fixup → Type 0
IsIn fixup [] = ⊥
IsIn fixup (other ∷ others) = (other ≡ fixup) ⊎ IsIn fixup others

-- Tells whether no two fixups of a list overlap.
abbrev pub Apart : List Fixup → Type 0
Apart [] = Unit {0}
Apart (fixup ∷ fixups) = ((other : Fixup) → IsIn other fixups → AreApart fixup other) × Apart fixups

not_itself : (fixup : Fixup) → AreApart fixup fixup → ⊥
not_itself fixup apart = from_far ⊥ fixup.place fixup.place (apart refl) (λ x. omega (arith, x)) (λ x. omega (arith, x))

apart-sym : (fixup other : Fixup) → AreApart fixup other → AreApart other fixup
apart-sym fixup other apart same =
    from_far (Far other.place fixup.place) fixup.place other.place (apart (sym same)) (λ x. inr x) (λ x. inl x)

-- a list without one of its fixups, which is filled first
record Without (number : Target → ℕ) (fixup : Fixup) (fixups : List Fixup) : Type 0 where
  left : List Fixup
  apart : Apart left
  from : (other : Fixup) → IsIn other left → IsIn other fixups
  other_than : (other : Fixup) → IsIn other left → AreApart fixup other
  found : (other : Fixup) → IsIn other fixups → (fixup ≡ other) ⊎ IsIn other left
  first : (contents : Areas (List ℕ)) → filled number fixups contents ≡ filled number left (step number fixup contents)

without : (number : Target → ℕ) (fixup : Fixup) (fixups : List Fixup) → IsIn fixup fixups → Apart fixups → Without number fixup fixups
without number fixup [] is apart = elim is [ ]
without number fixup (other ∷ others) (inl same) apart = record {
  left = others;
  apart = apart.1;
  from = λ f is. inr is;
  other_than = λ f is. subst (λ (x : Fixup). AreApart x f) same (apart.0 f is);
  found = λ f is. elim is [ inl e ↦ inl (sym same ∙ e) | inr e ↦ inr e ];
  first = λ contents. ap (λ (x : Fixup). filled number others (step number x contents)) same;
}
without number fixup (other ∷ others) (inr is) apart =
    let rest = without number fixup others is apart.1 in let here : AreApart other fixup = apart.0 fixup is in
    record {
      left = other ∷ rest.left;
      apart = ((λ f isf. apart.0 f (rest.from f isf)), rest.apart);
      from = λ f isf. elim isf [ inl e ↦ inl e | inr e ↦ inr (rest.from f e) ];
      other_than = λ f isf. elim isf [
        | inl e ↦ subst (λ (x : Fixup). AreApart fixup x) e (apart-sym other fixup here)
        | inr e ↦ rest.other_than f e
      ];
      found = λ f isf. elim isf [ inl e ↦ inr (inl e) | inr e ↦ elim (rest.found f e) [ inl x ↦ inl x | inr x ↦ inr (inr x) ] ];
      first =
          λ contents. rest.first (step number other contents) ∙ ap (filled number rest.left) (step-comm number other fixup contents here);
    }

pub filled-any_order : (number : Target → ℕ) (fixups others : List Fixup) (contents : Areas (List ℕ)) → Apart fixups → Apart others
    → ((f : Fixup) → IsIn f fixups → IsIn f others) → ((f : Fixup) → IsIn f others → IsIn f fixups) → filled number others contents ≡ filled
    number fixups contents
filled-any_order number [] [] contents apart apart_others to back = refl
filled-any_order number [] (other ∷ others) contents apart apart_others to back = absurd (back other (inl refl))
filled-any_order number (fixup ∷ fixups) others contents apart apart_others to back =
    let rest = without number fixup others (to fixup (inl refl)) apart_others in
    rest.first contents ∙ filled-any_order number fixups rest.left (step number fixup contents) apart.1 rest.apart
    (λ f is. elim (rest.found f (to f (inr is))) [
      | inl e ↦ absurd (not_itself fixup (subst (λ (x : Fixup). AreApart fixup x) (sym e) (apart.0 f is)))
      | inr x ↦ x
    ]) (λ f is. elim (back f (rest.from f is)) [
      | inl e ↦ absurd (not_itself fixup (subst (λ (x : Fixup). AreApart fixup x) (sym e) (rest.other_than f is)))
      | inr x ↦ x
    ])

-- a fixup of a list is in it, and fixups are apart, in the words of the law
is_in : (fixups : List Fixup) (fixup : Fixup) (k : ℕ) → k < length fixups → slice_index_or fixups k fixup ≡ fixup → IsIn fixup fixups
is_in [] fixup k lt e = absurd (omega (arith, lt))
is_in (other ∷ others) fixup zero lt e = inl e
is_in (other ∷ others) fixup (suc k) lt e = inr (is_in others fixup k (omega (arith, lt)) e)

contains : (fixups : List Fixup) (fixup : Fixup) → IsIn fixup fixups → Contains fixups fixup
contains [] fixup is = elim is [ ]
contains (other ∷ others) fixup (inl e) = (0, (omega arith), e)
contains (other ∷ others) fixup (inr is) = let rest = contains others fixup is in (suc rest.0, (omega (arith, rest.1)), rest.2)

pub all_apart : (fixups : List Fixup) → AllPairs AreApart fixups → Apart fixups
all_apart [] pairs = tt
all_apart (fixup ∷ fixups) pairs = (
  (λ other is. let found = contains fixups other is in subst (AreApart fixup) found.2
      (pairs 0 (suc found.0) other (omega arith) (omega (arith, found.1)))),
  all_apart fixups (λ i j d lt within. pairs (suc i) (suc j) d (omega (arith, lt)) (omega (arith, within))),
)

pub in_same : (fixups others : List Fixup) → HaveSameFixups fixups others → (f : Fixup) → IsIn f fixups → IsIn f others
in_same fixups others same f is = let found = (same f).0 (contains fixups f is) in is_in others f found.0 found.1 found.2

pub in_same_back : (fixups others : List Fixup) → HaveSameFixups fixups others → (f : Fixup) → IsIn f others → IsIn f fixups
in_same_back fixups others same f is = let found = (same f).1 (contains others f is) in is_in fixups f found.0 found.1 found.2

pub filled-in_any_order : (number : Target → ℕ) (contents : Areas (List ℕ)) (fixups others : List Fixup) → AllPairs AreApart fixups →
    AllPairs AreApart others → HaveSameFixups fixups others → filled number others contents ≡ filled number fixups contents
filled-in_any_order number contents fixups others apart apart_others same =
    filled-any_order number fixups others contents (all_apart fixups apart) (all_apart others apart_others) (in_same fixups others same)
    (in_same_back fixups others same)
