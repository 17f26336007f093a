-- The stem of a name, from its last `.` on.
use Rattle.std.proofs.Common.{◌≡◌, ◌≢◌, ℕ, zero, suc, ◌<◌, ◌==◌, List, [], ◌∷◌, ◌++◌, length, get_or, Bool, true, false, Option, Some, None}
use Rattle.std.proofs.Common.{drop, arith, lit<, ap, refl, sym, ◌∙◌, MatchBool, codes}
use Rattle.std.proofs.{Math.Bool.or-true, Math.Bool.true-or, lemmas.List.take-append-drop}
use Rattle.std.proofs.lemmas.Str.Pattern.{NoCharPasses-char, drop_at_char, contains_char}
use Rattle.std.specs.{Str.NoCharPasses, Str.Pattern.FindsChar, Str.Pattern.HasMatch, Str.Pattern.RFindsChar, Str.Pattern.SplitsAroundMatch}
use Rattle.inf_command.specs.FileNames.{source_name, stem, stem_after, has_slash}

-- a byte that is no `.` begins no extension
stem_after-other : (b : ℕ) (slash : Bool) → b ≢ 46 → stem_after b slash None ≡ None
stem_after-other b slash other = grind arith

-- without a `.` there is no stem
pub stem-no_dot : (bs : List ℕ) → ((i : ℕ) → i < length bs → get_or bs i 0 ≢ 46) → stem bs ≡ None
stem-no_dot [] other = refl
stem-no_dot (b ∷ bs) other = ap (stem_after b (has_slash bs)) (stem-no_dot bs (λ i lt. other (suc i) (omega arith)))
    ∙ stem_after-other b (has_slash bs) (other 0 (omega arith))

-- the last `.` begins the extension where no `/` is behind it
pub stem-at_dot : (front back : List ℕ) → stem back ≡ None → has_slash back ≡ false → stem (front ++ 46 ∷ back) ≡ Some front
stem-at_dot [] back none clear = ap (stem_after 46 (has_slash back)) none ∙ ap (λ s. stem_after 46 s None) clear
stem-at_dot (b ∷ front) back none clear = ap (stem_after b (has_slash (front ++ 46 ∷ back))) (stem-at_dot front back none clear)

-- a `/` in the back of a name is in the name
pub has_slash-append : (front back : List ℕ) → has_slash back ≡ true → has_slash (front ++ back) ≡ true
has_slash-append [] back has = has
has_slash-append (b ∷ front) back has = rw (has_slash-append front back has, or-true)

-- no `.` before a `/` begins an extension
pub stem-before_slash : (front back : List ℕ) → stem back ≡ None → has_slash back ≡ true → stem (front ++ back) ≡ None
stem-before_slash [] back none has = none
stem-before_slash (b ∷ front) back none has = ap (stem_after b (has_slash (front ++ back))) (stem-before_slash front back none has)
    ∙ ap (λ s. stem_after b s None) (has_slash-append front back has) ∙ stem_after-slash b
  where
    stem_after-slash : (b : ℕ) → stem_after b true None ≡ None
    stem_after-slash b = grind arith

-- a name with a `/` at some place has one
pub has_slash-at : (bs : List ℕ) (k : ℕ) → k < length bs → get_or bs k 0 ≡ 47 → has_slash bs ≡ true
has_slash-at [] k lt at = absurd (omega arith)
has_slash-at (b ∷ bs) zero lt at = rw (at, true-or)
has_slash-at (b ∷ bs) (suc k) lt at = rw (has_slash-at bs k (omega arith) at, or-true)

-- a name with a `/` at no place has none
pub has_slash-nowhere : (bs : List ℕ) → ((k : ℕ) → k < length bs → get_or bs k 0 ≢ 47) → has_slash bs ≡ false
has_slash-nowhere [] other = refl
has_slash-nowhere (b ∷ bs) other =
    let rest : has_slash bs ≡ false = has_slash-nowhere bs (λ k lt. other (suc k) (omega arith)) in
    let first : b ≢ 47 = other 0 (omega arith) in grind arith

-- the parts of a name that is split at its last `.`
pub split_at_dot : (bs front back : List ℕ) → SplitsAroundMatch (RFindsChar 46) bs front back
    → (bs ≡ front ++ 46 ∷ back) × ((i : ℕ) → i < length back → get_or back i 0 ≢ 46)
split_at_dot bs front back (i, j, found, is_front, is_back, ordered, front_len, back_len) = (
  sym (take-append-drop i bs) ∙ rw (drop_at_char 46 bs i j found.1 (lit< tt), is_front, is_back) refl,
  rw is_back (λ k lt. NoCharPasses-char 46 (drop j bs) k found.0 (lit< tt) lt),
)

-- a split at the last `.` gives the stem, unless a `/` is behind it
pub stem-split : (bs front back : List ℕ) → SplitsAroundMatch (RFindsChar 46) bs front back → has_slash back ≡ false → stem bs ≡ Some front
stem-split bs front back splits clear =
    let parts = split_at_dot bs front back splits in
    ap stem parts.0 ∙ stem-at_dot front back (stem-no_dot back parts.1) clear

pub stem-split_slash : (bs front back : List ℕ) → SplitsAroundMatch (RFindsChar 46) bs front back → has_slash back ≡ true → stem bs ≡ None
stem-split_slash bs front back splits has =
    let parts = split_at_dot bs front back splits in
    let behind : stem (46 ∷ back) ≡ None = ap (λ s. stem_after 46 s (stem back)) has ∙ ap (stem_after 46 true) (stem-no_dot back parts.1) in
    ap stem parts.0 ∙ stem-before_slash front (46 ∷ back) behind (rw has)

-- a name with no `.` to split it at has no stem
pub stem-undivided : (bs : List ℕ) → NoCharPasses (λ d. d == 46) bs → stem bs ≡ None
stem-undivided bs none = stem-no_dot bs (λ i lt. NoCharPasses-char 46 bs i none (lit< tt) lt)

-- a search for `/` shows whether there is one
pub has_slash-found : (bs : List ℕ) (r : Bool) → MatchBool r (HasMatch (FindsChar 47) bs) (FindsChar 47 bs None) → has_slash bs ≡ r
has_slash-found bs r cases = decided r (contains_char 47 bs r cases (lit< tt)) where
  decided : (r : Bool) →
      (r ≡ true → (k : ℕ) × (k < length bs) × (get_or bs k 0 ≡ 47)) × ((k : ℕ) → k < length bs → get_or bs k 0 ≡ 47 → r ≡ true) →
      has_slash bs ≡ r
  decided true (found, all) = let f = found refl in has_slash-at bs f.0 f.1 f.2
  decided false (found, all) = has_slash-nowhere bs (λ k lt at. let e : false ≡ true = all k lt at in cc)

-- the name of a source has bytes
abbrev name_by : Option (List ℕ) → List ℕ → List ℕ
name_by o word = elim o [ Some front ↦ word | None ↦ word ++ codes ".inf" ]

some_of : (o : Option (List ℕ)) (b : ℕ) (bs : List ℕ) → 0 < length (name_by o (b ∷ bs))
some_of (Some front) b bs = omega arith
some_of None b bs = omega arith

pub source_name_some : (word : List ℕ) → 0 < length (source_name word)
source_name_some [] = omega arith
source_name_some (b ∷ bs) = some_of (stem (b ∷ bs)) b bs
