-- An entry that is a number by itself: no name is looked up or used, nothing is wrong with the expression, and its value is the number.
use Rattle.std.proofs.Common.{◌≡◌, ◌⊎◌, inl, inr, ℕ, Bool, true, false, List, [], ◌∷◌, Option, Some, None, IfSome, refl, sym, ap, subst}
use Rattle.std.proofs.lemmas.Bool.{eqb-true}
use Rattle.inf_settings.specs.Bounds.{Limits}
use Rattle.inf_area.specs.declared.targets.Value.{Value}
use Rattle.inf_expressions.specs.{Findings.least_of_both, declared.findings.Finding.Finding, declared.symbols.Symbol.Symbol}
use Rattle.inf_gathering.specs.declared.gathering.Leaf.{Leaf}
use Rattle.inf_compilation.specs.{Actions.Compilation, Context.Context}
use Rattle.inf_declarations.specs.Arrays.{IsNumber, added, added_finding, adding, entry_added, entry_finding, is_first}
use Rattle.inf_declarations.specs.Arrays.{is_first_leaf, number_in, number_leaf, one_more}

-- the compilation where the unit's expression has these symbols and leaves
abbrev with_parts : List Symbol → List Leaf → Compilation → Compilation
with_parts symbols leaves w =
    record w { unit = record w.unit { gathering = record w.unit.gathering { leaves = leaves; symbols = symbols } } }

-- The symbols are those of the first leaf.
record AreFirst (symbols : List Symbol) : Type 0 where
  first : ℕ
  token : ℕ
  are : symbols ≡ Symbol.Leaf first token 0 ∷ []

first_at : (s : Symbol) → is_first s ≡ true → AreFirst (s ∷ [])
first_at (Symbol.Leaf first token place) e = record {
  first = first;
  token = token;
  are = ap (λ (n : ℕ). Symbol.Leaf first token n ∷ []) (eqb-true place 0 e);
}
first_at (Symbol.Bracketed order) e = cc
first_at (Symbol.Prefix order op) e = cc
first_at (Symbol.Suffix op) e = cc
first_at (Symbol.Two op) e = cc
first_at Symbol.Comma e = cc
first_at (Symbol.List joints) e = cc
first_at (Symbol.Call given) e = cc

are_first : (symbols : List Symbol) → is_first_leaf symbols ≡ true → AreFirst symbols
are_first [] e = cc
are_first (s ∷ []) e = first_at s e
are_first (s ∷ t ∷ symbols) e = cc

number_at : (l : Leaf) (number : ℕ) → number_in l ≡ Some number → (l ≡ Leaf.Number number) ⊎ (l ≡ Leaf.Char number)
number_at (Leaf.Number n) number e = inl cc
number_at (Leaf.Char zscii) number e = inr cc
number_at (Leaf.Name at) number e = cc
number_at (Leaf.Alone at) number e = cc
number_at (Leaf.Word word) number e = cc
number_at (Leaf.Text at) number e = cc
number_at (Leaf.Action at) number e = cc
number_at (Leaf.System at) number e = cc

numbers_at : (leaves : List Leaf) (number : ℕ) → number_leaf leaves ≡ Some number
    → (leaves ≡ Leaf.Number number ∷ []) ⊎ (leaves ≡ Leaf.Char number ∷ [])
numbers_at [] number e = cc
numbers_at (l ∷ []) number e = elim (number_at l number e) [
  | inl is ↦ inl (ap (λ (x : Leaf). x ∷ []) is)
  | inr is ↦ inr (ap (λ (x : Leaf). x ∷ []) is)
]
numbers_at (l ∷ m ∷ leaves) number e = cc

-- The finding about an entry with a number and what it adds are those of the number alone.
record Comes (limits : Limits) (context : Context) (alone : Bool) (number : ℕ) (w : Compilation) : Type 0 where
  found : entry_finding limits context alone w ≡ added_finding limits (adding alone (Value.Known number)) w
  adds : entry_added limits context alone w ≡ added limits (adding alone (Value.Known number)) w

least_of_one : (found : Option Finding) → least_of_both None found ≡ found
least_of_one None = refl
least_of_one (Some f) = refl

comes_number : (limits : Limits) (context : Context) (alone : Bool) (number first token : ℕ) (w : Compilation)
    → Comes limits context alone number (with_parts (Symbol.Leaf first token 0 ∷ []) (Leaf.Number number ∷ []) w)
comes_number limits context true number first token w =
    record { found = least_of_one (added_finding limits (adding true (Value.Known number)) w); adds = refl }
comes_number limits context false number first token w =
    record { found = least_of_one (added_finding limits (adding false (Value.Known number)) w); adds = refl }

comes_char : (limits : Limits) (context : Context) (alone : Bool) (number first token : ℕ) (w : Compilation)
    → Comes limits context alone number (with_parts (Symbol.Leaf first token 0 ∷ []) (Leaf.Char number ∷ []) w)
comes_char limits context true number first token w =
    record { found = least_of_one (added_finding limits (adding true (Value.Known number)) w); adds = refl }
comes_char limits context false number first token w =
    record { found = least_of_one (added_finding limits (adding false (Value.Known number)) w); adds = refl }

comes : (limits : Limits) (context : Context) (alone : Bool) (number : ℕ) (w : Compilation) → IsNumber number w
    → Comes limits context alone number w
comes limits context alone number w is =
    let symbols = are_first w.unit.gathering.symbols is.alone in
    let at : (leaves : List Leaf) → Comes limits context alone number (with_parts (Symbol.Leaf symbols.first symbols.token 0 ∷ []) leaves w)
    → w.unit.gathering.leaves ≡ leaves → Comes limits context alone number w = λ leaves one e.
    subst (λ (ls : List Leaf). Comes limits context alone number (with_parts w.unit.gathering.symbols ls w)) (sym e)
    (subst (λ (ss : List Symbol). Comes limits context alone number (with_parts ss leaves w)) (sym symbols.are) one) in
    elim (numbers_at w.unit.gathering.leaves number is.leaf) [
      | inl e ↦ at (Leaf.Number number ∷ []) (comes_number limits context alone number symbols.first symbols.token w) e
      | inr e ↦ at (Leaf.Char number ∷ []) (comes_char limits context alone number symbols.first symbols.token w) e
    ]

pub number_is : (w : Compilation) (number : Option ℕ) → number ≡ number_leaf w.unit.gathering.leaves
    → is_first_leaf w.unit.gathering.symbols ≡ true → IfSome number (λ n. IsNumber n w)
number_is w None e first = tt
number_is w (Some n) e first = record { leaf = sym e; alone = first }

pub number_adds : (limits : Limits) (context : Context) (alone : Bool) (number : ℕ) (w : Compilation) → IsNumber number w
    → added limits (adding alone (Value.Known number)) (one_more w) ≡ entry_added limits context alone (one_more w)
number_adds limits context alone number w is =
    sym (comes limits context alone number (one_more w) (record { leaf = is.leaf; alone = is.alone })).adds

pub number_found : (limits : Limits) (context : Context) (alone : Bool) (number : ℕ) (w : Compilation) → IsNumber number w
    → added_finding limits (adding alone (Value.Known number)) w ≡ entry_finding limits context alone w
number_found limits context alone number w is = sym (comes limits context alone number w is).found
