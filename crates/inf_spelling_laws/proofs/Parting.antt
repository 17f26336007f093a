-- Parts of a source: the first gap and the token behind it are found in one way.
use Rattle.std.proofs.Common.{◌≡◌, ℕ, ◌==◌, ◌&&◌, List, [], ◌∷◌, ◌++◌, Bool, true, false, not, cond, refl, sym, ap, ◌∙◌}
use Rattle.std.proofs.lemmas.{Bool.and_parts, Bool.or_left, Bool.or_right, List.append_cancel_right}
use Rattle.inf_characters.specs.declared.characters.CharSet.{CharSet}
use Rattle.inf_spelling_laws.specs.Source.{IsPart, Part, Token, ends_line, is_empty, is_gap, is_space, starts, starts_gap}
use Rattle.inf_spelling_laws.proofs.Cutting.{Found, token_cut, token_is}

gap_byte : (set : CharSet) (b : ℕ) (gap behind : List ℕ) → is_gap set false (b ∷ gap) behind ≡ true → starts_gap set b ≡ true
gap_byte set b gap behind fits = by (b == 33) refl fits
  where
    by : (t : Bool) → (b == 33) ≡ t → cond t (is_gap set true gap behind) (is_space set b && is_gap set false gap behind) ≡ true
        → starts_gap set b ≡ true
    by true t e = or_right (is_space set b) (b == 33) t
    by false t e = or_left (is_space set b) (b == 33) (and_parts (is_space set b) (is_gap set false gap behind) e).0

gap_over : (set : CharSet) (c : Bool) (b : ℕ) (gap rest behind : List ℕ) → is_gap set c [] rest ≡ true → starts (starts_gap set) rest ≡ false
    → is_gap set c (b ∷ gap) behind ≡ true → rest ≡ (b ∷ gap) ++ behind → ⊥
gap_over set true b gap rest behind ends stops fits same = let f : false ≡ true = sym (ap is_empty same) ∙ ends in cc
gap_over set false b gap rest behind ends stops fits same =
    let f : true ≡ false = sym (gap_byte set b gap behind fits) ∙ sym (ap (starts (starts_gap set)) same) ∙ stops in cc

-- whether a comment is open behind a byte of a gap
abbrev pub opens : Bool → ℕ → Bool
opens true b = not (ends_line b)
opens false b = b == 33

pub gap_behind : (set : CharSet) (c : Bool) (b : ℕ) (gap behind : List ℕ) → is_gap set c (b ∷ gap) behind ≡ true
    → is_gap set (opens c b) gap behind ≡ true
gap_behind set true b gap behind fits = fits
gap_behind set false b gap behind fits = by (b == 33) fits
  where
    by : (t : Bool) → cond t (is_gap set true gap behind) (is_space set b && is_gap set false gap behind) ≡ true
        → is_gap set t gap behind ≡ true
    by true e = e
    by false e = (and_parts (is_space set b) (is_gap set false gap behind) e).1

pub record SameGap (gap other rest behind : List ℕ) : Type 0 where
  pub gaps : gap ≡ other
  pub rests : rest ≡ behind

first_same : (a b : ℕ) (xs ys : List ℕ) → a ∷ xs ≡ b ∷ ys → a ≡ b
first_same a b xs ys e = cc

rest_same : (a b : ℕ) (xs ys : List ℕ) → a ∷ xs ≡ b ∷ ys → xs ≡ ys
rest_same a b xs ys e = cc

pub same_gap : (set : CharSet) (c : Bool) (gap other rest behind : List ℕ) → is_gap set c gap rest ≡ true → is_gap set c other behind ≡ true
    → starts (starts_gap set) rest ≡ false → starts (starts_gap set) behind ≡ false → gap ++ rest ≡ other ++ behind
    → SameGap gap other rest behind
same_gap set c [] [] rest behind fits others stops ends same = record { gaps = refl; rests = same }
same_gap set c [] (b ∷ other) rest behind fits others stops ends same = absurd (gap_over set c b other rest behind fits stops others same)
same_gap set c (b ∷ gap) [] rest behind fits others stops ends same = absurd (gap_over set c b gap behind rest others ends fits (sym same))
same_gap set c (a ∷ gap) (b ∷ other) rest behind fits others stops ends same =
    let first : a ≡ b = first_same a b (gap ++ rest) (other ++ behind) same in
    let more = same_gap set (opens c a) gap other rest behind (gap_behind set c a gap rest fits)
    (ap (λ x. is_gap set (opens c x) other behind) first ∙ gap_behind set c b other behind others) stops ends
    (rest_same a b (gap ++ rest) (other ++ behind) same) in
    record { gaps = ap (λ x. x ∷ gap) first ∙ ap (λ g. b ∷ g) more.gaps; rests = more.rests }

pub same_part : (set : CharSet) (rest : List ℕ) (p q : Part) → IsPart set rest p → IsPart set rest q → p ≡ q
same_part set rest p q is other =
    let parts = same_gap set false p.gap q.gap (p.span ++ p.behind) (q.span ++ q.behind) is.gap_fits other.gap_fits is.stops other.stops
    (sym is.whole ∙ other.whole) in
    let one : token_cut (p.span ++ p.behind) ≡ record { token = p.token; left = p.behind } = token_is p.token p.span p.behind is.token_fits in
    let two : token_cut (q.span ++ q.behind) ≡ record { token = q.token; left = q.behind } = token_is q.token q.span q.behind other.token_fits in
    let found : record { token = p.token; left = p.behind } ≡ record { token = q.token; left = q.behind } =
    sym one ∙ ap token_cut parts.rests ∙ two in
    let token : p.token ≡ q.token = ap (λ (f : Found). f.token) found in
    let behind : p.behind ≡ q.behind = ap (λ (f : Found). f.left) found in
    let span : p.span ≡ q.span = append_cancel_right p.span q.span q.behind (ap (λ b. p.span ++ b) (sym behind) ∙ parts.rests) in
    ap (λ (g : List ℕ). record { gap = g; token = p.token; span = p.span; behind = p.behind }) parts.gaps
    ∙ ap (λ (t : Token). record { gap = q.gap; token = t; span = p.span; behind = p.behind }) token
    ∙ ap (λ (s : List ℕ). record { gap = q.gap; token = q.token; span = s; behind = p.behind }) span
    ∙ ap (λ (b : List ℕ). record { gap = q.gap; token = q.token; span = q.span; behind = b }) behind
