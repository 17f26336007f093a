-- Bytes of verbs and their lines, and numbers in them that are known later: of joined lists, of a list that is changed, and as written.
use Rattle.std.proofs.Common.{◌≡◌, ℕ, zero, suc, ◌+◌, ◌*◌, ◌-◌, ◌≤◌, ◌<◌, List, [], ◌∷◌, ◌++◌, length, refl, arith, ap, sym, ◌∙◌, get_or}
use Rattle.std.proofs.Common.{set, drop, length-append, append_assoc, append-nil, fold, length-set}
use Rattle.std.proofs.lemmas.List.{get_or-set_same}
use Rattle.inf_area.specs.{declared.cells.Cell.Cell, declared.targets.AreaName.AreaName, declared.targets.Target.Target}
use Rattle.inf_area.specs.Cells.{bytes_of, later_count, value_cells}
use Rattle.inf_area.specs.Sums.{sum_of}
use Rattle.inf_area.proofs.Joining.{bytes_of-append, drop_front, later_count-append, size-append}
use Rattle.inf_area.proofs.Sums.{entry-le-sum_of, sum_of-le-sum_of, sum_of-set, sum_of_more_first, sum_of_more_last}
use Rattle.inf_verbs.specs.{Routines.routines_cells, declared.lines.LineToken.LineToken, declared.verbs.LinePlace.LinePlace}
use Rattle.inf_verbs.specs.Lines.{LineOf, is_preposition, line_cells, line_size, lines_cells, lines_prepositions, lines_size, prepositions}
use Rattle.inf_verbs.specs.Lines.{token_type, token_value, tokens_cells}
use Rattle.inf_verbs.specs.Verbs.{VerbOf, address_cells, extended, grammar_cells, lines_of, part_size, places_from, places_of}
use Rattle.inf_verbs.specs.Verbs.{parts_cells, verb_cells, verb_laters, verb_size, verbs_laters, verbs_size, with_line}

-- the places for the addresses of routines are all known later
pub later_routines : (rs : List ℕ) → later_count (routines_cells rs) ≡ length rs
later_routines [] = refl
later_routines (r ∷ rs) = omega (arith, later_routines rs)

pub cells_joined : (xs ys : List LineOf) → lines_cells (xs ++ ys) ≡ lines_cells xs ++ lines_cells ys
cells_joined [] ys = refl
cells_joined (x ∷ xs) ys =
    ap (λ cs. line_cells x ++ cs) (cells_joined xs ys) ∙ sym (append_assoc (line_cells x) (lines_cells xs) (lines_cells ys))

-- a line has no more numbers that are known later than it has bytes
few_prepositions : (ts : List LineToken) → prepositions ts ≤ length ts
few_prepositions [] = omega arith
few_prepositions (t ∷ ts) = omega (arith, few_prepositions ts, one t) where
  one : (t : LineToken) → is_preposition t ≤ 1
  one (LineToken.Noun n) = omega arith
  one (LineToken.Preposition text is_first is_last) = omega arith
  one (LineToken.Filter n) = omega arith
  one (LineToken.Attribute n) = omega arith
  one (LineToken.Scope n) = omega arith
  one (LineToken.Routine n) = omega arith

pub few_laters : (vs : List VerbOf) → verbs_laters vs ≤ verbs_size vs
few_laters vs = sum_of-le-sum_of verb_laters verb_size vs λ v.
    let lines = sum_of-le-sum_of (λ (l : LineOf). prepositions l.tokens) line_size (lines_of v)
    (λ l. omega (arith, few_prepositions l.tokens)) in
    omega (arith, lines)

-- the bytes of the lines alone
abbrev pub parts_size : List VerbOf → ℕ
parts_size vs = sum_of part_size vs

pub size_parts : (vs : List VerbOf) → verbs_size vs ≡ 2 * length vs + parts_size vs
size_parts [] = omega arith
size_parts (v ∷ vs) = omega (arith, size_parts vs)

later_token : (t : LineToken) → later_count (value_cells (token_value t)) ≡ is_preposition t
later_token (LineToken.Noun n) = refl
later_token (LineToken.Preposition text is_first is_last) = refl
later_token (LineToken.Filter n) = refl
later_token (LineToken.Attribute n) = refl
later_token (LineToken.Scope n) = refl
later_token (LineToken.Routine n) = refl

later_tokens : (ts : List LineToken) → later_count (tokens_cells ts) ≡ prepositions ts
later_tokens [] = refl
later_tokens (t ∷ ts) =
    omega (arith, later_count-append (Cell.Byte (token_type t) ∷ value_cells (token_value t)) (tokens_cells ts), later_token t, later_tokens ts)

later_line : (l : LineOf) → later_count (line_cells l) ≡ prepositions l.tokens
later_line l = omega (arith, later_count-append (tokens_cells l.tokens) (Cell.Byte 15 ∷ []), later_tokens l.tokens)

later_lines : (ls : List LineOf) → later_count (lines_cells ls) ≡ lines_prepositions ls
later_lines [] = refl
later_lines (l ∷ ls) = omega (arith, later_count-append (line_cells l) (lines_cells ls), later_line l, later_lines ls)

later_addresses : (n : ℕ) → later_count (address_cells n) ≡ n
later_addresses zero = refl
later_addresses (suc n) =
    omega (arith, later_count-append (address_cells n) (Cell.Later (Target.Part AreaName.Grammar n) ∷ []), later_addresses n)

later_parts : (vs : List VerbOf) → length vs + later_count (parts_cells vs) ≡ verbs_laters vs
later_parts [] = omega arith
later_parts (v ∷ vs) = omega (arith, later_count-append (verb_cells v) (parts_cells vs), later_lines (lines_of v), later_parts vs)

-- the written numbers that are known later are as many as were counted
pub laters_written : (vs : List VerbOf) → later_count (grammar_cells vs) ≡ verbs_laters vs
laters_written vs =
    omega (arith, later_count-append (address_cells (length vs)) (parts_cells vs), later_addresses (length vs), later_parts vs)

-- the number of bytes that tokens, lines and verbs are written in
bytes_token : (t : LineToken) → length (bytes_of (value_cells (token_value t))) ≡ 2
bytes_token (LineToken.Noun n) = refl
bytes_token (LineToken.Preposition text is_first is_last) = refl
bytes_token (LineToken.Filter n) = refl
bytes_token (LineToken.Attribute n) = refl
bytes_token (LineToken.Scope n) = refl
bytes_token (LineToken.Routine n) = refl

bytes_tokens : (ts : List LineToken) → length (bytes_of (tokens_cells ts)) ≡ 3 * length ts
bytes_tokens [] = omega arith
bytes_tokens (t ∷ ts) =
    omega (arith, size-append (Cell.Byte (token_type t) ∷ value_cells (token_value t)) (tokens_cells ts), bytes_token t, bytes_tokens ts)

bytes_line : (l : LineOf) → length (bytes_of (line_cells l)) ≡ line_size l
bytes_line l = omega (arith, size-append (tokens_cells l.tokens) (Cell.Byte 15 ∷ []), bytes_tokens l.tokens)

bytes_lines : (ls : List LineOf) → length (bytes_of (lines_cells ls)) ≡ lines_size ls
bytes_lines [] = refl
bytes_lines (l ∷ ls) = omega (arith, size-append (line_cells l) (lines_cells ls), bytes_line l, bytes_lines ls)

bytes_verb : (v : VerbOf) → length (bytes_of (verb_cells v)) ≡ part_size v
bytes_verb v = omega (arith, bytes_lines (lines_of v))

bytes_parts : (vs : List VerbOf) → length (bytes_of (parts_cells vs)) ≡ parts_size vs
bytes_parts [] = refl
bytes_parts (v ∷ vs) = omega (arith, size-append (verb_cells v) (parts_cells vs), bytes_verb v, bytes_parts vs)

bytes_addresses : (n : ℕ) → length (bytes_of (address_cells n)) ≡ 2 * n
bytes_addresses zero = omega arith
bytes_addresses (suc n) = omega (arith, size-append (address_cells n) (Cell.Later (Target.Part AreaName.Grammar n) ∷ []), bytes_addresses n)

pub size_written : (vs : List VerbOf) → length (bytes_of (grammar_cells vs)) ≡ verbs_size vs
size_written vs =
    omega (arith, size-append (address_cells (length vs)) (parts_cells vs), bytes_addresses (length vs), bytes_parts vs, size_parts vs)

-- the lines of a verb are found behind its place
part_at : (vs : List VerbOf) (n at : ℕ) (front : List ℕ) → length front ≡ at → n < length vs
    → drop (get_or (places_from at vs) n 0) (front ++ bytes_of (parts_cells vs)) ≡ bytes_of (parts_cells (drop n vs))
part_at [] n at front is within = absurd (omega (arith, within))
part_at (v ∷ vs) zero at front is within = drop_front at front (bytes_of (parts_cells (v ∷ vs))) is
part_at (v ∷ vs) (suc n) at front is within = ap (drop (get_or (places_from (at + part_size v) vs) n 0))
    (ap (λ bs. front ++ bs) (bytes_of-append (verb_cells v) (parts_cells vs)) ∙ sym
    (append_assoc front (bytes_of (verb_cells v)) (bytes_of (parts_cells vs))))
    ∙ part_at vs n (at + part_size v) (front ++ bytes_of (verb_cells v))
    (omega (arith, is, length-append front (bytes_of (verb_cells v)), bytes_verb v)) (omega (arith, within))

pub verb_at_place : (vs : List VerbOf) (n : ℕ) → n < length vs
    → drop (get_or (places_of vs) n 0) (bytes_of (grammar_cells vs)) ≡ bytes_of (parts_cells (drop n vs))
verb_at_place vs n within = ap (drop (get_or (places_of vs) n 0)) (bytes_of-append (address_cells (length vs)) (parts_cells vs))
    ∙ part_at vs n (2 * length vs) (bytes_of (address_cells (length vs))) (bytes_addresses (length vs)) within

pub lines_more_last : (front back : List LineOf) (line : LineOf) → (front ++ back) ++ line ∷ [] ≡ front ++ (back ++ line ∷ [])
lines_more_last front back line = append_assoc front back (line ∷ [])

-- the cells of a verb, piece by piece
pub verb_written : (cells count : List Cell) (first front back : List LineOf)
    → (((cells ++ count) ++ lines_cells first) ++ lines_cells front) ++ lines_cells back ≡ cells ++
    (count ++ lines_cells (first ++ (front ++ back)))
verb_written cells count first front back = append_assoc ((cells ++ count) ++ lines_cells first) (lines_cells front) (lines_cells back)
    ∙ ap (λ cs. ((cells ++ count) ++ lines_cells first) ++ cs) (sym (cells_joined front back))
    ∙ append_assoc (cells ++ count) (lines_cells first) (lines_cells (front ++ back))
    ∙ ap (λ cs. (cells ++ count) ++ cs) (sym (cells_joined first (front ++ back)))
    ∙ append_assoc cells count (lines_cells (first ++ (front ++ back)))

pub extended_size : (how : LinePlace) (v : VerbOf) → lines_size (lines_of (extended how v)) ≤ lines_size (lines_of v)
extended_size LinePlace.First v = omega arith
extended_size LinePlace.Last v = omega arith
extended_size LinePlace.Replace v = omega arith

-- lines that come one by one follow one another
pub told_first : (first rest more : List LineOf)
    → lines_of (fold (λ v line. with_line LinePlace.First line v) (record { first = first; rest = rest }) more) ≡ (first ++ more) ++ rest
told_first first rest [] = ap (λ ls. ls ++ rest) (sym (append-nil first))
told_first first rest (line ∷ more) =
    told_first (first ++ line ∷ []) rest more ∙ ap (λ ls. ls ++ rest) (append_assoc first (line ∷ []) more)

pub told_last : (first rest more : List LineOf)
    → lines_of (fold (λ v line. with_line LinePlace.Last line v) (record { first = first; rest = rest }) more) ≡ (first ++ rest) ++ more
told_last first rest [] = sym (append-nil (first ++ rest))
told_last first rest (line ∷ more) = told_last first (rest ++ line ∷ []) more
    ∙ ap (λ ls. ls ++ more) (sym (append_assoc first rest (line ∷ []))) ∙ append_assoc (first ++ rest) (line ∷ []) more

pub told_replace : (first rest more : List LineOf)
    → lines_of (fold (λ v line. with_line LinePlace.Replace line v) (record { first = first; rest = rest }) more) ≡ (first ++ rest) ++ more
told_replace = told_last

with_line_sum : (f : LineOf → ℕ) (how : LinePlace) (line : LineOf) (v : VerbOf) →
    sum_of f (lines_of (with_line how line v)) ≡ sum_of f (lines_of v) + f line
with_line_sum f LinePlace.First line v = sum_of_more_first f v.first v.rest line
with_line_sum f LinePlace.Last line v = sum_of_more_last f v.first [] v.rest line
with_line_sum f LinePlace.Replace line v = sum_of_more_last f v.first [] v.rest line

-- a measure `g` of verbs is `k` with the measures `f` of their lines
record IsMeasured (f : LineOf → ℕ) (g : VerbOf → ℕ) (k : ℕ) : Type 0 where
  is : (v : VerbOf) → g v ≡ k + sum_of f (lines_of v)

by_size : IsMeasured line_size verb_size 3
by_size = record { is = λ v. omega arith }

by_laters : IsMeasured (λ l. prepositions l.tokens) verb_laters 1
by_laters = record { is = λ v. refl }

-- the lines of a verb have no more than all verbs
fit : {f : LineOf → ℕ} {g : VerbOf → ℕ} {k : ℕ} → IsMeasured f g k → (xs : List VerbOf) (n : ℕ) (old : VerbOf) → n < length xs
    → old ≡ get_or xs n old → sum_of f (lines_of old) ≤ sum_of g xs
fit {f} {g} m xs n old within is_old =
    omega (arith, entry-le-sum_of g xs n old within, m.is (get_or xs n old), ap (λ v. sum_of f (lines_of v)) is_old)

pub bytes_fit : (xs : List VerbOf) (n : ℕ) (old : VerbOf) → n < length xs → old ≡ get_or xs n old →
    lines_size (lines_of old) ≤ verbs_size xs
bytes_fit = fit by_size

pub laters_fit : (xs : List VerbOf) (n : ℕ) (old : VerbOf) → n < length xs → old ≡ get_or xs n old →
    lines_prepositions (lines_of old) ≤ verbs_laters xs
laters_fit = fit by_laters

-- verbs of which one gets another line
more_line : {f : LineOf → ℕ} {g : VerbOf → ℕ} {k : ℕ} → IsMeasured f g k → (xs : List VerbOf) (n : ℕ) (how : LinePlace) (line : LineOf)
    (old new : VerbOf) → n < length xs → old ≡ get_or xs n old → new ≡ with_line how line old
    → sum_of g (set xs n new) ≡ sum_of g xs + f line
more_line {f} {g} m xs n how line old new within is_old is_new =
    let all = sum_of-set g xs n new old within in
    let lines = λ (v : VerbOf). sum_of f (lines_of v) in
    omega (arith, all, m.is new, m.is (get_or xs n old), with_line_sum f how line old, ap lines is_old, ap lines is_new)

-- verbs of which one has other lines
other_lines : {f : LineOf → ℕ} {g : VerbOf → ℕ} {k : ℕ} → IsMeasured f g k → (xs : List VerbOf) (n : ℕ) (old new : VerbOf)
    → n < length xs → old ≡ get_or xs n old → sum_of g xs - sum_of f (lines_of old) + sum_of f (lines_of new) ≡ sum_of g (set xs n new)
other_lines {f} {g} m xs n old new within is_old =
    let all = sum_of-set g xs n new old within in
    let lines = λ (v : VerbOf). sum_of f (lines_of v) in
    omega (arith, all, m.is new, m.is (get_or xs n old), ap lines is_old, fit m xs n old within is_old)

-- verbs of which one gets another line keep their sizes and limits
pub line_stands : (xs : List VerbOf) (n : ℕ) (how : LinePlace) (line : LineOf) (old new : VerbOf) (size later limit space s l : ℕ)
    → n < length xs → old ≡ get_or xs n old → new ≡ with_line how line old → size ≡ verbs_size xs → later ≡ verbs_laters xs
    → length xs ≤ 255 → length xs ≤ limit → size + s ≤ space → s ≡ line_size line → l ≡ prepositions line.tokens
    → (size + s ≡ verbs_size (set xs n new)) × (later + l ≡ verbs_laters (set xs n new)) × (length (set xs n new) ≤ 255)
    × (length (set xs n new) ≤ limit) × (size + s ≤ space)
line_stands xs n how line old new size later limit space s l within is_old is_new is_size is_later few limited room is_s is_l = (
  omega (arith, more_line by_size xs n how line old new within is_old is_new, is_size, is_s),
  omega (arith, more_line by_laters xs n how line old new within is_old is_new, is_later, is_l),
  omega (arith, length-set xs n new, few),
  omega (arith, length-set xs n new, limited),
  room,
)

same_at : (xs : List VerbOf) (n : ℕ) (a b : VerbOf) → n < length xs → a ≡ get_or xs n a → b ≡ get_or xs n b → a ≡ b
same_at [] n a b within is_a is_b = absurd (omega (arith, within))
same_at (x ∷ xs) zero a b within is_a is_b = is_a ∙ sym is_b
same_at (x ∷ xs) (suc n) a b within is_a is_b = same_at xs n a b (omega (arith, within)) is_a is_b

-- verbs of which one was extended keep their sizes and limits
pub extended_stands : (xs : List VerbOf) (n : ℕ) (how : LinePlace) (old again changed new : VerbOf) (size later limit space : ℕ)
    → n < length xs → old ≡ get_or xs n old → again ≡ get_or xs n again → changed ≡ extended how again
    → new ≡ get_or (set xs n changed) n new → size ≡ verbs_size xs → later ≡ verbs_laters xs → length xs ≤ 255 → length xs ≤ limit → size ≤
    space → (size - lines_size (lines_of old) + lines_size (lines_of new) ≡ verbs_size (set xs n changed))
    × (later - lines_prepositions (lines_of old) + lines_prepositions (lines_of new) ≡ verbs_laters (set xs n changed))
    × (length (set xs n changed) ≤ 255) × (length (set xs n changed) ≤ limit)
    × (size - lines_size (lines_of old) + lines_size (lines_of new) ≤ space)
extended_stands xs n how old again changed new size later limit space within is_old is_again is_changed is_new is_size is_later few limited
    room =
    let is_same : old ≡ again = same_at xs n old again within is_old is_again in
    let is_there : new ≡ changed = is_new ∙ get_or-set_same xs n changed new within in
    let bytes = λ (v : VerbOf). lines_size (lines_of v) in
    let laters = λ (v : VerbOf). lines_prepositions (lines_of v) in
    let less = extended_size how again in
    let all = bytes_fit xs n old within is_old in (
      omega (arith, other_lines by_size xs n old changed within is_old, is_size, ap bytes is_there),
      omega (arith, other_lines by_laters xs n old changed within is_old, is_later, ap laters is_there),
      omega (arith, length-set xs n changed, few),
      omega (arith, length-set xs n changed, limited),
      omega (arith, all, is_size, ap bytes is_same, ap bytes is_there, ap bytes is_changed, less, room),
    )
