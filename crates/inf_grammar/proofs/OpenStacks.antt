-- Stacks where the bracket of a routine is open, and those where none is: the table keeps them apart, token by token.
use Rattle.std.proofs.Common.{◌≡◌, ℕ, zero, suc, ◌^◌, ◌≤◌, List, [], ◌∷◌, ◌++◌, Bool, true, false, not, ◌&&◌, ◌||◌, ◌==◌, nat_le, codes}
use Rattle.std.proofs.Common.{bit_and, refl, sym, ◌∙◌, ap, arith, inl, inr, if◌then◌else◌}
use Rattle.std.proofs.lemmas.Bool.{agree_below, agree_below_at, and_parts, and_from, or_cases, cases_lt, not-true, both_ways, eqb-true}
use Rattle.std.proofs.lemmas.Bool.{eqb-false, false_from_ne_true}
use Rattle.std.proofs.lemmas.Nat.Bits.{bit_at-pow_other}
use Rattle.inf_machine.specs.{Decided.beginning, Grammar.IsOneOf, Grammar.Row, Grammar.first, Grammar.has, Grammar.later, Machine.chosen}
use Rattle.inf_machine.specs.{Machine.fits, Machine.stepped, Machine.taken, Machine.work, Pieces.all_rows, declared.symbols.Symbol.Symbol}
use Rattle.inf_machine.proofs.Taking.{choice, chosen_fits, chosen_less, some_work}
use Rattle.inf_syntax.specs.{Atoms.mark_atom, Atoms.of_word, declared.actions.Action.Action}
use Rattle.inf_scanner.specs.declared.tokens.Mark.{Mark}
use Rattle.inf_grammar.specs.{Brackets.open_behind, Evaluated.language_is_decided, Evaluated.rows_past, Language.grammar, Language.known}
use Rattle.inf_grammar.specs.{Routines.ends_routine, Routines.is_in_routine}

-- The classes and the atoms of the brackets, and the words of arrays

abbrev opening : ℕ
opening = 2

abbrev closing : ℕ
closing = 4

abbrev pub array : ℕ
array = 7

abbrev open_atom : ℕ
open_atom = mark_atom Mark.OpenBracket

abbrev close_atom : ℕ
close_atom = mark_atom Mark.CloseBracket

-- The symbols that a stack may hold, by the rules that may be among them

abbrev has_no_bracket : ℕ → Bool
has_no_bracket class = not (has (grammar.atoms_of class) open_atom) && not (has (grammar.atoms_of class) close_atom)

-- Tells whether `symbols` have no brackets, and no end of a routine.
abbrev pub are_plain : (ℕ → Bool) → List (Symbol Action) → Bool
are_plain rules [] = true
are_plain rules (Symbol.Token class ∷ symbols) = has_no_bracket class && are_plain rules symbols
are_plain rules (Symbol.Act a ∷ symbols) = not (ends_routine a) && are_plain rules symbols
are_plain rules (Symbol.Rule rule ∷ symbols) = rules rule && are_plain rules symbols

-- the rules between the brackets of a routine: those of its names, and those of statements and expressions
abbrev inner : ℕ → Bool
inner rule = (rule == 3) || (rule == 4) || (rule == 49) || (rule == 50) || (nat_le 59 rule && nat_le rule 250)

-- the rules of all pieces but arrays
abbrev pub outer : ℕ → Bool
outer rule = nat_le 3 rule && (nat_le rule 250 && not (rule == 7))

-- Tells whether `symbols` begin with the bracket that closes a routine, which is no longer open.
abbrev are_closing : List (Symbol Action) → Bool
are_closing (Symbol.Token class ∷ symbols) = (class == closing) && are_plain outer symbols
are_closing _ = false

-- Tells whether `symbols` are the rest of a routine whose bracket is open.
abbrev are_inside : List (Symbol Action) → Bool
are_inside [] = false
are_inside (Symbol.Token class ∷ symbols) = has_no_bracket class && are_inside symbols
are_inside (Symbol.Act a ∷ symbols) = if ends_routine a then are_closing symbols else are_inside symbols
are_inside (Symbol.Rule rule ∷ symbols) = inner rule && are_inside symbols

-- Tells whether `symbols` begin, behind actions, with the bracket that opens a routine.
abbrev pub are_opening : List (Symbol Action) → Bool
are_opening (Symbol.Token class ∷ symbols) = (class == opening) && are_inside symbols
are_opening (Symbol.Act a ∷ symbols) = are_opening symbols
are_opening _ = false

abbrev pub are_outer : List (Symbol Action) → Bool
are_outer parts = are_plain outer parts || are_opening parts

-- Tells whether `symbols` may be a stack where a bracket is open, or none is, as `is_open` says.
abbrev pub stands : Bool → List (Symbol Action) → Bool
stands true symbols = are_inside symbols
stands false symbols = are_plain outer symbols

-- Arrays: the rules that have no end of a routine
abbrev calm : ℕ → Bool
calm rule = (rule == 6) || (rule == 7) || (nat_le 25 rule && nat_le rule 32) || (nat_le 59 rule && nat_le rule 250)

abbrev pub are_calm : List (Symbol Action) → Bool
are_calm [] = true
are_calm (Symbol.Token class ∷ symbols) = are_calm symbols
are_calm (Symbol.Act a ∷ symbols) = not (ends_routine a) && are_calm symbols
are_calm (Symbol.Rule rule ∷ symbols) = calm rule && are_calm symbols

-- the rows of directives: that of arrays, and those that no word of an array begins
abbrev pub is_array_row : List (Symbol Action) → Bool
is_array_row (Symbol.Token class ∷ parts) = (class == array) && are_calm parts
is_array_row _ = false

abbrev pub is_directive_row : List (Symbol Action) → Bool
is_directive_row parts = is_array_row parts || (are_outer parts && (bit_and (beginning grammar known parts) (of_word (codes "array")) == 0))

-- Lemmas by evaluation over the table

-- Tells whether the rows of `rule` pass `test`, where the rule is one of `rules`.
abbrev keeps : (ℕ → Bool) → (List (Symbol Action) → Bool) → ℕ → Bool
keeps rules test rule = not (rules rule) || all_rows test (grammar.rows_of rule)

inner_keep : agree_below (keeps inner (are_plain inner)) (λ rule. true) 256 ≡ true
unfolding grammar
inner_keep = refl

outer_keep : agree_below (keeps outer are_outer) (λ rule. true) 256 ≡ true
unfolding grammar
outer_keep = refl

calm_keep : agree_below (keeps calm are_calm) (λ rule. true) 256 ≡ true
unfolding grammar
calm_keep = refl

pub directive_keeps : agree_below (keeps (λ rule. rule == 2) is_directive_row) (λ rule. true) 256 ≡ true
unfolding grammar known
directive_keeps = refl

opening_is : grammar.atoms_of opening ≡ 2 ^ open_atom
unfolding grammar
opening_is = refl

closing_is : grammar.atoms_of closing ≡ 2 ^ close_atom
unfolding grammar
closing_is = refl

pub array_is : grammar.atoms_of array ≡ of_word (codes "array")
unfolding grammar
array_is = refl

past_keeps : (b : Bool) (test : List (Symbol Action) → Bool) (rows : List (Row Action)) → rows ≡ [] → (not b || all_rows test rows) ≡ true
past_keeps true test rows e = ap (all_rows test) e
past_keeps false test rows e = refl

row_of_all : (test : List (Symbol Action) → Bool) (rows : List (Row Action)) (r : Row Action) → IsOneOf r rows → all_rows test rows ≡ true →
    test r.parts ≡ true
row_of_all test [] r m h = elim m [ ]
row_of_all test (r ∷ rows) r' first h = (and_parts (test r.parts) (all_rows test rows) h).0
row_of_all test (y ∷ rows) r (later m) h = row_of_all test rows r m (and_parts (test y.parts) (all_rows test rows) h).1

-- a row of a rule of the set passes the test
passes : (rules : ℕ → Bool) (test : List (Symbol Action) → Bool) → agree_below (keeps rules test) (λ rule. true) 256 ≡ true
    → (rule : ℕ) → rules rule ≡ true → (r : Row Action) → IsOneOf r (grammar.rows_of rule) → test r.parts ≡ true
passes rules test all rule is r m = row_of_all test (grammar.rows_of rule) r m (in_rules (rules rule) is kept) where
  kept : keeps rules test rule ≡ true
  kept = elim (cases_lt rule 256) [
    | inl l ↦ agree_below_at (keeps rules test) (λ r. true) 256 rule all l
    | inr l ↦ past_keeps (rules rule) test (grammar.rows_of rule) (rows_past rule l)
  ]

  in_rules : (b : Bool) → b ≡ true → (not b || all_rows test (grammar.rows_of rule)) ≡ true → all_rows test (grammar.rows_of rule) ≡ true
  in_rules true e h = h
  in_rules false e h = cc

-- Lemmas about tokens

pub only_bit : (k atom : ℕ) → has (2 ^ k) atom ≡ true → atom ≡ k
only_bit k atom h = by_test (atom == k) refl where
  by_test : (b : Bool) → (atom == k) ≡ b → atom ≡ k
  by_test true e = eqb-true atom k e
  by_test false e = absurd (both_ways (has (2 ^ k) atom) (ap (λ b. b == 1) (bit_at-pow_other k atom (eqb-false atom k e))) h)

of_class : (class other atom k : ℕ) → (class == other) ≡ true → grammar.atoms_of other ≡ 2 ^ k → has (grammar.atoms_of class) atom ≡ true →
    atom ≡ k
of_class class other atom k same is f =
    only_bit k atom (sym (ap (λ s. has s atom) (ap grammar.atoms_of (eqb-true class other same) ∙ is)) ∙ f)

-- a token of a class without an atom is another one
is_other : (class atom other : ℕ) → not (has (grammar.atoms_of class) other) ≡ true → has (grammar.atoms_of class) atom ≡ true →
    (atom == other) ≡ false
is_other class atom other lacks f = false_from_ne_true (atom == other) (λ e.
    both_ways (has (grammar.atoms_of class) other) (not-true (has (grammar.atoms_of class) other) lacks)
    (ap (has (grammar.atoms_of class)) (sym (eqb-true atom other e)) ∙ f))

-- a token of a class without brackets opens and closes none
opens_none : (is_open : Bool) (class atom : ℕ) → has_no_bracket class ≡ true → has (grammar.atoms_of class) atom ≡ true →
    open_behind is_open atom ≡ is_open
opens_none is_open class atom h f =
    let both = and_parts (not (has (grammar.atoms_of class) open_atom)) (not (has (grammar.atoms_of class) close_atom)) h in
    ap (λ b. if b then true else if atom == close_atom then false else is_open) (is_other class atom open_atom both.0 f)
    ∙ ap (λ b. if b then false else is_open) (is_other class atom close_atom both.1 f)

-- Lemmas about symbols joined

plain_append : (rules : ℕ → Bool) (xs ys : List (Symbol Action)) → are_plain rules xs ≡ true → are_plain rules ys ≡ true →
    are_plain rules (xs ++ ys) ≡ true
plain_append rules [] ys h k = k
plain_append rules (Symbol.Token class ∷ xs) ys h k =
    let both = and_parts (has_no_bracket class) (are_plain rules xs) h in
    and_from (has_no_bracket class) (are_plain rules (xs ++ ys)) both.0 (plain_append rules xs ys both.1 k)
plain_append rules (Symbol.Act a ∷ xs) ys h k =
    let both = and_parts (not (ends_routine a)) (are_plain rules xs) h in
    and_from (not (ends_routine a)) (are_plain rules (xs ++ ys)) both.0 (plain_append rules xs ys both.1 k)
plain_append rules (Symbol.Rule rule ∷ xs) ys h k =
    let both = and_parts (rules rule) (are_plain rules xs) h in
    and_from (rules rule) (are_plain rules (xs ++ ys)) both.0 (plain_append rules xs ys both.1 k)

calm_append : (xs ys : List (Symbol Action)) → are_calm xs ≡ true → are_calm ys ≡ true → are_calm (xs ++ ys) ≡ true
calm_append [] ys h k = k
calm_append (Symbol.Token class ∷ xs) ys h k = calm_append xs ys h k
calm_append (Symbol.Act a ∷ xs) ys h k =
    let both = and_parts (not (ends_routine a)) (are_calm xs) h in
    and_from (not (ends_routine a)) (are_calm (xs ++ ys)) both.0 (calm_append xs ys both.1 k)
calm_append (Symbol.Rule rule ∷ xs) ys h k =
    let both = and_parts (calm rule) (are_calm xs) h in and_from (calm rule) (are_calm (xs ++ ys)) both.0 (calm_append xs ys both.1 k)

-- plain symbols inside of a routine
inner_inside : (xs ys : List (Symbol Action)) → are_plain inner xs ≡ true → are_inside ys ≡ true → are_inside (xs ++ ys) ≡ true
inner_inside [] ys h k = k
inner_inside (Symbol.Token class ∷ xs) ys h k =
    let both = and_parts (has_no_bracket class) (are_plain inner xs) h in
    and_from (has_no_bracket class) (are_inside (xs ++ ys)) both.0 (inner_inside xs ys both.1 k)
inner_inside (Symbol.Act a ∷ xs) ys h k =
    let both = and_parts (not (ends_routine a)) (are_plain inner xs) h in
    ap (λ b. if b then are_closing (xs ++ ys) else are_inside (xs ++ ys)) (not-true (ends_routine a) both.0) ∙ inner_inside xs ys both.1 k
inner_inside (Symbol.Rule rule ∷ xs) ys h k =
    let both = and_parts (inner rule) (are_plain inner xs) h in
    and_from (inner rule) (are_inside (xs ++ ys)) both.0 (inner_inside xs ys both.1 k)

closing_append : (xs ys : List (Symbol Action)) → are_closing xs ≡ true → are_plain outer ys ≡ true → are_closing (xs ++ ys) ≡ true
closing_append [] ys h k = cc
closing_append (Symbol.Token class ∷ xs) ys h k =
    let both = and_parts (class == closing) (are_plain outer xs) h in
    and_from (class == closing) (are_plain outer (xs ++ ys)) both.0 (plain_append outer xs ys both.1 k)
closing_append (Symbol.Act a ∷ xs) ys h k = cc
closing_append (Symbol.Rule rule ∷ xs) ys h k = cc

inside_append : (xs ys : List (Symbol Action)) → are_inside xs ≡ true → are_plain outer ys ≡ true → are_inside (xs ++ ys) ≡ true
inside_append [] ys h k = cc
inside_append (Symbol.Token class ∷ xs) ys h k =
    let both = and_parts (has_no_bracket class) (are_inside xs) h in
    and_from (has_no_bracket class) (are_inside (xs ++ ys)) both.0 (inside_append xs ys both.1 k)
inside_append (Symbol.Act a ∷ xs) ys h k = by_end (ends_routine a) (λ e. closing_append xs ys e k) (λ e. inside_append xs ys e k) h where
  by_end : (b : Bool) → (are_closing xs ≡ true → are_closing (xs ++ ys) ≡ true) → (are_inside xs ≡ true → are_inside (xs ++ ys) ≡ true)
      → (if b then are_closing xs else are_inside xs) ≡ true → (if b then are_closing (xs ++ ys) else are_inside (xs ++ ys)) ≡ true
  by_end true c i e = c e
  by_end false c i e = i e
inside_append (Symbol.Rule rule ∷ xs) ys h k =
    let both = and_parts (inner rule) (are_inside xs) h in
    and_from (inner rule) (are_inside (xs ++ ys)) both.0 (inside_append xs ys both.1 k)

opening_append : (xs ys : List (Symbol Action)) → are_opening xs ≡ true → are_plain outer ys ≡ true → are_opening (xs ++ ys) ≡ true
opening_append [] ys h k = cc
opening_append (Symbol.Token class ∷ xs) ys h k =
    let both = and_parts (class == opening) (are_inside xs) h in
    and_from (class == opening) (are_inside (xs ++ ys)) both.0 (inside_append xs ys both.1 k)
opening_append (Symbol.Act a ∷ xs) ys h k = opening_append xs ys h k
opening_append (Symbol.Rule rule ∷ xs) ys h k = cc

-- A stack shows whether a routine is open

plain_is_out : (symbols : List (Symbol Action)) → are_plain outer symbols ≡ true → is_in_routine symbols ≡ false
plain_is_out [] h = refl
plain_is_out (Symbol.Token class ∷ symbols) h = plain_is_out symbols (and_parts (has_no_bracket class) (are_plain outer symbols) h).1
plain_is_out (Symbol.Act a ∷ symbols) h =
    let both = and_parts (not (ends_routine a)) (are_plain outer symbols) h in
    ap (λ b. b || is_in_routine symbols) (not-true (ends_routine a) both.0) ∙ plain_is_out symbols both.1
plain_is_out (Symbol.Rule rule ∷ symbols) h = plain_is_out symbols (and_parts (outer rule) (are_plain outer symbols) h).1

pub calm_is_out : (symbols : List (Symbol Action)) → are_calm symbols ≡ true → is_in_routine symbols ≡ false
calm_is_out [] h = refl
calm_is_out (Symbol.Token class ∷ symbols) h = calm_is_out symbols h
calm_is_out (Symbol.Act a ∷ symbols) h =
    let both = and_parts (not (ends_routine a)) (are_calm symbols) h in
    ap (λ b. b || is_in_routine symbols) (not-true (ends_routine a) both.0) ∙ calm_is_out symbols both.1
calm_is_out (Symbol.Rule rule ∷ symbols) h = calm_is_out symbols (and_parts (calm rule) (are_calm symbols) h).1

inside_is_in : (symbols : List (Symbol Action)) → are_inside symbols ≡ true → is_in_routine symbols ≡ true
inside_is_in [] h = cc
inside_is_in (Symbol.Token class ∷ symbols) h = inside_is_in symbols (and_parts (has_no_bracket class) (are_inside symbols) h).1
inside_is_in (Symbol.Act a ∷ symbols) h = by_end (ends_routine a) (λ e. inside_is_in symbols e) h where
  by_end : (b : Bool) → (are_inside symbols ≡ true → is_in_routine symbols ≡ true) →
      (if b then are_closing symbols else are_inside symbols) ≡ true → (b || is_in_routine symbols) ≡ true
  by_end true i e = refl
  by_end false i e = i e
inside_is_in (Symbol.Rule rule ∷ symbols) h = inside_is_in symbols (and_parts (inner rule) (are_inside symbols) h).1

pub tells : (is_open : Bool) (symbols : List (Symbol Action)) → stands is_open symbols ≡ true → is_in_routine symbols ≡ is_open
tells true symbols h = inside_is_in symbols h
tells false symbols h = plain_is_out symbols h

-- Lemmas about one token

pub chosen_passes : (rules : ℕ → Bool) (test : List (Symbol Action) → Bool) → agree_below (keeps rules test) (λ rule. true) 256 ≡ true
    → (atom rule : ℕ) (symbols : List (Symbol Action)) → rules rule ≡ true → fits grammar known atom (Symbol.Rule rule ∷ symbols)
    ≡ true → test (chosen grammar known atom rule) ≡ true
chosen_passes rules test all atom rule symbols is f =
    let c = choice grammar known language_is_decided atom rule symbols f in ap test c.is ∙ passes rules test all rule is c.row c.one

-- a rule's row has fewer steps than the rule, and fits
fewer : (atom rule n : ℕ) (symbols : List (Symbol Action)) → work known atom (Symbol.Rule rule ∷ symbols) ≤ suc n →
    fits grammar known atom (Symbol.Rule rule ∷ symbols) ≡ true → work known atom (chosen grammar known atom rule ++ symbols) ≤ n
fewer atom rule n symbols w f = omega (arith, w, chosen_less grammar known language_is_decided atom rule symbols f)

pub fits_row : (atom rule : ℕ) (symbols : List (Symbol Action)) → fits grammar known atom (Symbol.Rule rule ∷ symbols) ≡ true →
    fits grammar known atom (chosen grammar known atom rule ++ symbols) ≡ true
fits_row atom rule symbols f = chosen_fits grammar known language_is_decided atom rule symbols f

pub no_step : (atom : ℕ) (symbols : List (Symbol Action)) → work known atom symbols ≤ 0 → fits grammar known atom symbols ≡ true → ⊥
no_step atom symbols w f = omega (arith, w, some_work grammar known language_is_decided atom symbols f)

abbrev pub left_of : ℕ → ℕ → List (Symbol Action) → List (Symbol Action)
left_of atom n symbols = (stepped grammar known atom n symbols).left

closing_on : (atom n : ℕ) (symbols : List (Symbol Action)) → are_closing symbols ≡ true → work known atom symbols ≤ n →
    fits grammar known atom symbols ≡ true → stands (open_behind true atom) (left_of atom n symbols) ≡ true
closing_on atom zero symbols h w f = absurd (no_step atom symbols w f)
closing_on atom (suc n) [] h w f = cc
closing_on atom (suc n) (Symbol.Token class ∷ symbols) h w f =
    let both = and_parts (class == closing) (are_plain outer symbols) h in
    ap (λ a. stands (open_behind true a) symbols) (of_class class closing atom close_atom both.0 closing_is f) ∙ both.1
closing_on atom (suc n) (Symbol.Act a ∷ symbols) h w f = cc
closing_on atom (suc n) (Symbol.Rule rule ∷ symbols) h w f = cc

inside_on : (atom n : ℕ) (symbols : List (Symbol Action)) → are_inside symbols ≡ true → work known atom symbols ≤ n →
    fits grammar known atom symbols ≡ true → stands (open_behind true atom) (left_of atom n symbols) ≡ true
inside_on atom zero symbols h w f = absurd (no_step atom symbols w f)
inside_on atom (suc n) [] h w f = cc
inside_on atom (suc n) (Symbol.Token class ∷ symbols) h w f =
    let both = and_parts (has_no_bracket class) (are_inside symbols) h in
    ap (λ b. stands b symbols) (opens_none true class atom both.0 f) ∙ both.1
inside_on atom (suc n) (Symbol.Act a ∷ symbols) h w f =
    by_end (ends_routine a) (λ e. closing_on atom n symbols e (omega (arith, w)) f) (λ e. inside_on atom n symbols e (omega (arith, w)) f) h
  where
    by_end : (b : Bool) → (are_closing symbols ≡ true → stands (open_behind true atom) (left_of atom n symbols) ≡ true)
        → (are_inside symbols ≡ true → stands (open_behind true atom) (left_of atom n symbols) ≡ true)
        → (if b then are_closing symbols else are_inside symbols) ≡ true → stands (open_behind true atom) (left_of atom n symbols) ≡ true
    by_end true c i e = c e
    by_end false c i e = i e
inside_on atom (suc n) (Symbol.Rule rule ∷ symbols) h w f =
    let both = and_parts (inner rule) (are_inside symbols) h in
    let plain = chosen_passes inner (are_plain inner) inner_keep atom rule symbols both.0 f in
    inside_on atom n (chosen grammar known atom rule ++ symbols) (inner_inside (chosen grammar known atom rule) symbols plain both.1)
    (fewer atom rule n symbols w f) (fits_row atom rule symbols f)

pub opening_on : (atom n : ℕ) (symbols : List (Symbol Action)) → are_opening symbols ≡ true → work known atom symbols ≤ n →
    fits grammar known atom symbols ≡ true → stands (open_behind false atom) (left_of atom n symbols) ≡ true
opening_on atom zero symbols h w f = absurd (no_step atom symbols w f)
opening_on atom (suc n) [] h w f = cc
opening_on atom (suc n) (Symbol.Token class ∷ symbols) h w f =
    let both = and_parts (class == opening) (are_inside symbols) h in
    ap (λ a. stands (open_behind false a) symbols) (of_class class opening atom open_atom both.0 opening_is f) ∙ both.1
opening_on atom (suc n) (Symbol.Act a ∷ symbols) h w f = opening_on atom n symbols h (omega (arith, w)) f
opening_on atom (suc n) (Symbol.Rule rule ∷ symbols) h w f = cc

pub outside_on : (atom n : ℕ) (symbols : List (Symbol Action)) → are_plain outer symbols ≡ true → work known atom symbols ≤ n →
    fits grammar known atom symbols ≡ true → stands (open_behind false atom) (left_of atom n symbols) ≡ true
outside_on atom zero symbols h w f = absurd (no_step atom symbols w f)
outside_on atom (suc n) [] h w f = cc
outside_on atom (suc n) (Symbol.Token class ∷ symbols) h w f =
    let both = and_parts (has_no_bracket class) (are_plain outer symbols) h in
    ap (λ b. stands b symbols) (opens_none false class atom both.0 f) ∙ both.1
outside_on atom (suc n) (Symbol.Act a ∷ symbols) h w f =
    outside_on atom n symbols (and_parts (not (ends_routine a)) (are_plain outer symbols) h).1 (omega (arith, w)) f
outside_on atom (suc n) (Symbol.Rule rule ∷ symbols) h w f =
    let both = and_parts (outer rule) (are_plain outer symbols) h in
    let parts : List (Symbol Action) = chosen grammar known atom rule in let w' = fewer atom rule n symbols w f in
    let f' = fits_row atom rule symbols f in
    elim (or_cases (are_plain outer parts) (are_opening parts) (chosen_passes outer are_outer outer_keep atom rule symbols both.0 f)) [
      | inl p ↦ outside_on atom n (parts ++ symbols) (plain_append outer parts symbols p both.1) w' f'
      | inr o ↦ opening_on atom n (parts ++ symbols) (opening_append parts symbols o both.1) w' f'
    ]

pub calm_on : (atom n : ℕ) (symbols : List (Symbol Action)) → are_calm symbols ≡ true → work known atom symbols ≤ n →
    fits grammar known atom symbols ≡ true → are_calm (left_of atom n symbols) ≡ true
calm_on atom zero symbols h w f = absurd (no_step atom symbols w f)
calm_on atom (suc n) [] h w f = cc
calm_on atom (suc n) (Symbol.Token class ∷ symbols) h w f = h
calm_on atom (suc n) (Symbol.Act a ∷ symbols) h w f =
    calm_on atom n symbols (and_parts (not (ends_routine a)) (are_calm symbols) h).1 (omega (arith, w)) f
calm_on atom (suc n) (Symbol.Rule rule ∷ symbols) h w f =
    let both = and_parts (calm rule) (are_calm symbols) h in
    let parts = chosen_passes calm are_calm calm_keep atom rule symbols both.0 f in
    calm_on atom n (chosen grammar known atom rule ++ symbols) (calm_append (chosen grammar known atom rule) symbols parts both.1)
    (fewer atom rule n symbols w f) (fits_row atom rule symbols f)

-- a stack behind a token is one where the brackets are open as the token leaves them
pub stands_on : (is_open : Bool) (atom : ℕ) (symbols : List (Symbol Action)) → stands is_open symbols ≡ true →
    fits grammar known atom symbols ≡ true → stands (open_behind is_open atom) (taken grammar known atom symbols).left ≡ true
stands_on true atom symbols h f = inside_on atom (work known atom symbols) symbols h (omega arith) f
stands_on false atom symbols h f = outside_on atom (work known atom symbols) symbols h (omega arith) f
