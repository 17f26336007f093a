-- Names of files that are among those opened, and how many these are.
use Rattle.std.proofs.{lemmas.Bool.or_cases, lemmas.List.Folds.list_any-append, lemmas.List.Sums.prefix_len-le-length}
use Rattle.std.proofs.{lemmas.Map.Made.length-le_from_is_member, lemmas.Slice.Eq.bytes_eq-Decides}
use Rattle.std.proofs.Common.{◌≡◌, ◌⊎◌, ◌||◌, inl, inr, ℕ, suc, ◌+◌, ◌<◌, ◌≤◌, not, Bool, true, false, cond, List, [], ◌∷◌, ◌++◌, length}
use Rattle.std.proofs.Common.{refl, sym, ap, subst, ◌∙◌, arith, length-append}
use Rattle.std.proofs.lemmas.Map.Keys.{IsDistinct-from_apart, IsDistinct-push}
use Rattle.std.specs.{Cmp.Lexicographic.nat_list_eq_equiv, List.list_any, List.position_or_len, Str.bytes_eq}
use Rattle.inf_devices.specs.Files.{with_name}
use Rattle.inf_lexer.specs.{Entering.AreOpened, Entering.OpensOn, Entering.StaysOpened, Names.number_of}

-- a name is among names to which it was added
pub in_with : (name : List ℕ) (names : List (List ℕ)) → list_any (bytes_eq name) (with_name name names) ≡ true
in_with name names = by (list_any (bytes_eq name) names) refl where
  by : (b : Bool) → list_any (bytes_eq name) names ≡ b → list_any (bytes_eq name) (cond b names (names ++ name ∷ [])) ≡ true
  by true e = e
  by false e = list_any-append (bytes_eq name) names (name ∷ []) ∙ ap (λ (b : Bool). b || (bytes_eq name name || false)) e
      ∙ ap (λ (b : Bool). b || false) (nat_list_eq_equiv.refl name)

-- names stay where one is added
pub stays_with : (name : List ℕ) (names : List (List ℕ)) → StaysOpened names (with_name name names)
stays_with name names q is = by (list_any (bytes_eq name) names) where
  by : (b : Bool) → list_any (bytes_eq q) (cond b names (names ++ name ∷ [])) ≡ true
  by true = is
  by false = list_any-append (bytes_eq q) names (name ∷ []) ∙ ap (λ (b : Bool). b || (bytes_eq q name || false)) is

pub stays_as : (before now : List (List ℕ)) → now ≡ before → StaysOpened before now
stays_as before now same = λ name is. subst (λ (names : List (List ℕ)). list_any (bytes_eq name) names ≡ true) (sym same) is

pub opened_stay : (names before now : List (List ℕ)) → StaysOpened before now → AreOpened names before → AreOpened names now
opened_stay names before now stays are = record { differ = are.differ; among = λ q is. stays q (are.among q is) }

-- names are opened with one more that is among those opened
with_one : (name : List ℕ) (names opened : List (List ℕ)) → AreOpened names opened → list_any (bytes_eq name) opened ≡ true
    → AreOpened (with_name name names) opened
with_one name names opened are is = by (list_any (bytes_eq name) names) refl where
  among : (q : List ℕ) → (list_any (bytes_eq q) names ≡ true) ⊎ ((bytes_eq q name || false) ≡ true) → list_any (bytes_eq q) opened ≡ true
  among q (inl was) = are.among q was
  among q (inr one) = elim (or_cases (bytes_eq q name) false one) [
    | inl same ↦ subst (λ (n : List ℕ). list_any (bytes_eq n) opened ≡ true) (sym ((bytes_eq-Decides q name).0 same)) is
    | inr never ↦ cc
  ]

  by : (b : Bool) → list_any (bytes_eq name) names ≡ b → AreOpened (cond b names (names ++ name ∷ [])) opened
  by true e = are
  by false e = record {
    differ = IsDistinct-push nat_list_eq_equiv names name are.differ e;
    among = λ q any. among q (or_cases (list_any (bytes_eq q) names) (bytes_eq q name || false)
        (sym (list_any-append (bytes_eq q) names (name ∷ [])) ∙ any));
  }

-- no names are opened, whatever was
pub none_opened : (opened : List (List ℕ)) → AreOpened [] opened
none_opened opened = record {
  differ = IsDistinct-from_apart bytes_eq [] (λ i j d less within. absurd (omega (arith, within)));
  among = λ q any. cc;
}

-- A call that asks for nothing, one behind another, one that opened a name, and one that knows it then.

pub opens_none : (names opened : List (List ℕ)) → OpensOn names names opened opened
opens_none names opened = record { stays = λ q is. is; opened = λ are. are }

pub opens_then : {a b c p q r : List (List ℕ)} → OpensOn a b p q → OpensOn b c q r → OpensOn a c p r
opens_then first second = record { stays = λ n is. second.stays n (first.stays n is); opened = λ are. second.opened (first.opened are) }

pub opens_one : (name : List ℕ) (names opened : List (List ℕ)) → OpensOn names names opened (with_name name opened)
opens_one name names opened = record {
  stays = stays_with name opened;
  opened = λ are. opened_stay names opened (with_name name opened) (stays_with name opened) are;
}

pub opens_with : (name : List ℕ) (names opened : List (List ℕ)) → OpensOn names (with_name name names) opened (with_name name opened)
opens_with name names opened = record {
  stays = stays_with name opened;
  opened = λ are. with_one name names (with_name name opened) ((opens_one name names opened).opened are) (in_with name opened);
}

found_within : (test : List ℕ → Bool) (names : List (List ℕ)) → list_any test names ≡ true → position_or_len test names < length names
found_within test [] e = cc
found_within test (n ∷ names) e = by (test n) e (found_within test names) where
  by : (b : Bool) → (b || list_any test names) ≡ true → (list_any test names ≡ true → position_or_len test names < length names)
      → cond (not b) (1 + position_or_len test names) 0 < suc (length names)
  by true e rest = omega arith
  by false e rest = omega (arith, rest e)

number_less : (name : List ℕ) (names : List (List ℕ)) → number_of name names < length (with_name name names)
number_less name names = by (list_any (bytes_eq name) names) refl where
  by : (b : Bool) → list_any (bytes_eq name) names ≡ b → number_of name names < length (cond b names (names ++ name ∷ []))
  by true e = found_within (bytes_eq name) names e
  by false e = omega (arith, prefix_len-le-length (λ k. not (bytes_eq name k)) names, length-append names (name ∷ []))

-- Where the known names were opened, and one that comes behind 65,535 of them, 65,536 different names were opened.
pub many_opened : (name : List ℕ) (names opened : List (List ℕ)) → AreOpened names opened → 65535 ≤ number_of name names
    → list_any (bytes_eq name) opened ≡ true → 65536 ≤ length opened
many_opened name names opened are many is =
    let all = with_one name names opened are is in
    omega (
      arith,
      many,
      number_less name names,
      length-le_from_is_member nat_list_eq_equiv (with_name name names) opened all.differ all.among,
    )
