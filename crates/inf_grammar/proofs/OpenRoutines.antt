-- The rest of a piece has the end of a routine exactly where the routine's bracket is open.
use Rattle.std.proofs.Common.{◌≡◌, ℕ, zero, suc, ◌^◌, ◌≤◌, List, [], ◌∷◌, Bool, true, false, not, ◌&&◌, ◌||◌, ◌==◌, codes, Option, Some}
use Rattle.std.proofs.Common.{None, is_some, bit_and, refl, sym, ◌∙◌, ap, subst, arith, inl, inr, if◌then◌else◌}
use Rattle.std.proofs.lemmas.Bool.{and_parts, or_cases, both_ways, eqb-true, false_from_ne_true}
use Rattle.std.proofs.lemmas.List.{append-nil}
use Rattle.inf_machine.specs.{Decided.beginning, declared.symbols.Symbol.Symbol}
use Rattle.inf_machine.specs.Grammar.{Row, has, IsOneOf, first, later, Event}
use Rattle.inf_machine.specs.Machine.{fits, chosen, work, taken, events_of, read, Read, behind}
use Rattle.inf_machine.proofs.{Rows.fits_is_begun, Sets.has_and, Sets.has_zero, Taking.choice, Taking.taken_row}
use Rattle.inf_machine.proofs.{TokenLaws.bad_tokens_begin_nothing}
use Rattle.inf_syntax.specs.{Atoms.mark_atom, Atoms.of_word, Rows.row, declared.actions.Action.Action}
use Rattle.inf_scanner.specs.declared.tokens.Mark.{Mark}
use Rattle.inf_grammar.specs.{Evaluated.language_is_decided, Language.grammar, Language.known, Sources.is_inside, Sources.piece_rule}
use Rattle.inf_grammar.specs.Brackets.{open_behind, open_behind_all, begin_array, is_bracket_open, OpenRoutinesAreBracketed}
use Rattle.inf_grammar.specs.Brackets.{LeftRoutinesAreBracketed}
use Rattle.inf_grammar.proofs.OpenStacks.{are_calm, are_opening, are_outer, are_plain, array, array_is, calm_is_out, calm_on, chosen_passes}
use Rattle.inf_grammar.proofs.OpenStacks.{directive_keeps, fits_row, is_array_row, is_directive_row, left_of, no_step, only_bit, opening_on}
use Rattle.inf_grammar.proofs.OpenStacks.{outer, outside_on, stands, stands_on, tells}

-- Lemmas about some tokens

inside_behind : (events : List (Event Action)) (o : Option (Read Action)) → is_inside (behind events o) ≡ is_inside o
inside_behind events None = refl
inside_behind events (Some r) = refl

some_behind : (events : List (Event Action)) (o : Option (Read Action)) → is_some (behind events o) ≡ is_some o
some_behind events None = refl
some_behind events (Some r) = refl

-- where tokens are taken, the first of them
pub record FirstTaken (symbols : List (Symbol Action)) (atom : ℕ) (atoms : List ℕ) : Type 0 where
  pub fits_it : fits grammar known atom symbols ≡ true
  pub goes_on : is_some (read grammar known (taken grammar known atom symbols).left atoms) ≡ true
  pub tells : is_inside (read grammar known symbols (atom ∷ atoms)) ≡ is_inside
      (read grammar known (taken grammar known atom symbols).left atoms)

pub first_taken : (symbols : List (Symbol Action)) (atom : ℕ) (atoms : List ℕ) →
    is_some (read grammar known symbols (atom ∷ atoms)) ≡ true → FirstTaken symbols atom atoms
first_taken symbols atom atoms h = by_fit (fits grammar known atom symbols) refl where
  events : List (Event Action)
  events = events_of (taken grammar known atom symbols).actions atom

  on : Option (Read Action)
  on = read grammar known (taken grammar known atom symbols).left atoms

  by_fit : (b : Bool) → fits grammar known atom symbols ≡ b → FirstTaken symbols atom atoms
  by_fit true e = record {
    fits_it = e;
    goes_on = sym (ap (λ b. is_some (if b then behind events on else None)) e ∙ some_behind events on) ∙ h;
    tells = ap (λ b. is_inside (if b then behind events on else None)) e ∙ inside_behind events on;
  }
  by_fit false e = let none : false ≡ true = sym (ap (λ b. is_some (if b then behind events on else None)) e) ∙ h in cc

follow : (is_open : Bool) (symbols : List (Symbol Action)) (atoms : List ℕ) → stands is_open symbols ≡ true →
    is_some (read grammar known symbols atoms) ≡ true → is_inside (read grammar known symbols atoms) ≡ open_behind_all is_open atoms
follow is_open symbols [] s h = tells is_open symbols s
follow is_open symbols (atom ∷ atoms) s h =
    let t = first_taken symbols atom atoms h in
    t.tells
    ∙ follow (open_behind is_open atom) (taken grammar known atom symbols).left atoms (stands_on is_open atom symbols s t.fits_it) t.goes_on

follow_calm : (symbols : List (Symbol Action)) (atoms : List ℕ) → are_calm symbols ≡ true →
    is_some (read grammar known symbols atoms) ≡ true → is_inside (read grammar known symbols atoms) ≡ false
follow_calm symbols [] s h = calm_is_out symbols s
follow_calm symbols (atom ∷ atoms) s h =
    let t = first_taken symbols atom atoms h in
    t.tells ∙ follow_calm (taken grammar known atom symbols).left atoms
    (calm_on atom (work known atom symbols) symbols s (omega arith) t.fits_it) t.goes_on

-- Lemmas about the front of a piece

abbrev arrays : ℕ
arrays = of_word (codes "array")

-- The stack behind the first token of a directive.
data Begun (atom : ℕ) (left : List (Symbol Action)) : Type 0 where
  AsArray : has arrays atom ≡ true → are_calm left ≡ true → Begun atom left
  AsOther : has arrays atom ≡ false → stands (open_behind false atom) left ≡ true → Begun atom left

array_row_on : (atom n : ℕ) (parts : List (Symbol Action)) → is_array_row parts ≡ true → work known atom parts ≤ n →
    fits grammar known atom parts ≡ true → Begun atom (left_of atom n parts)
array_row_on atom zero parts h w f = absurd (no_step atom parts w f)
array_row_on atom (suc n) [] h w f = cc
array_row_on atom (suc n) (Symbol.Token class ∷ parts) h w f =
    let both = and_parts (class == array) (are_calm parts) h in
    AsArray (sym (ap (λ s. has s atom) (ap grammar.atoms_of (eqb-true class array both.0) ∙ array_is)) ∙ f) both.1
array_row_on atom (suc n) (Symbol.Act a ∷ parts) h w f = cc
array_row_on atom (suc n) (Symbol.Rule rule ∷ parts) h w f = cc

-- a token that begins parts which no word of an array begins is no such word
no_array : (atom : ℕ) (parts : List (Symbol Action)) → (bit_and (beginning grammar known parts) arrays == 0) ≡ true →
    fits grammar known atom parts ≡ true → has arrays atom ≡ false
no_array atom parts apart f =
    let none : has (bit_and (beginning grammar known parts) arrays) atom ≡ false =
    ap (λ s. has s atom) (eqb-true (bit_and (beginning grammar known parts) arrays) 0 apart) ∙ has_zero atom in
    other (has (beginning grammar known parts) atom) (has arrays atom) (sym (fits_is_begun grammar known atom parts) ∙ f)
    (sym (has_and (beginning grammar known parts) arrays atom) ∙ none)
  where
    other : (x y : Bool) → x ≡ true → (x && y) ≡ false → y ≡ false
    other true y e g = g
    other false y e g = cc

directive_row_on : (atom n : ℕ) (parts : List (Symbol Action)) → is_directive_row parts ≡ true → work known atom parts ≤ n →
    fits grammar known atom parts ≡ true → Begun atom (left_of atom n parts)
directive_row_on atom n parts h w f =
    elim (or_cases (is_array_row parts) (are_outer parts && (bit_and (beginning grammar known parts) arrays == 0)) h) [
      | inl a ↦ array_row_on atom n parts a w f
      | inr o ↦ others (and_parts (are_outer parts) (bit_and (beginning grammar known parts) arrays == 0) o)
    ]
  where
    others : (are_outer parts ≡ true) × ((bit_and (beginning grammar known parts) arrays == 0) ≡ true) → Begun atom (left_of atom n parts)
    others both = elim (or_cases (are_plain outer parts) (are_opening parts) both.0) [
      | inl p ↦ AsOther (no_array atom parts both.1 f) (outside_on atom n parts p w f)
      | inr o ↦ AsOther (no_array atom parts both.1 f) (opening_on atom n parts o w f)
    ]

-- taking a token of a rule alone leaves the stack that taking it of the chosen row leaves
taken_alone : (atom rule : ℕ) → fits grammar known atom (Symbol.Rule rule ∷ []) ≡ true →
    taken grammar known atom (Symbol.Rule rule ∷ []) ≡ taken grammar known atom (chosen grammar known atom rule)
taken_alone atom rule f =
    taken_row grammar known language_is_decided atom rule [] f ∙ ap (taken grammar known atom) (append-nil (chosen grammar known atom rule))

fits_alone : (atom rule : ℕ) → fits grammar known atom (Symbol.Rule rule ∷ []) ≡ true →
    fits grammar known atom (chosen grammar known atom rule) ≡ true
fits_alone atom rule f = sym (ap (fits grammar known atom) (append-nil (chosen grammar known atom rule))) ∙ fits_row atom rule [] f

directive_begun : (atom : ℕ) → fits grammar known atom (Symbol.Rule 2 ∷ []) ≡ true →
    Begun atom (taken grammar known atom (Symbol.Rule 2 ∷ [])).left
directive_begun atom f =
    let parts : List (Symbol Action) = chosen grammar known atom 2 in
    subst (λ t. Begun atom t.left) (sym (taken_alone atom 2 f)) (directive_row_on atom (work known atom parts) parts
    (chosen_passes (λ rule. rule == 2) is_directive_row directive_keeps atom 2 [] refl f) (omega arith) (fits_alone atom 2 f))

-- behind some tokens of a directive a routine is open exactly where its bracket is
directive_on : (atom : ℕ) (atoms : List ℕ) → fits grammar known atom (Symbol.Rule 2 ∷ []) ≡ true →
    is_some (read grammar known (taken grammar known atom (Symbol.Rule 2 ∷ [])).left atoms) ≡ true
    → is_inside (read grammar known (taken grammar known atom (Symbol.Rule 2 ∷ [])).left atoms) ≡
    (not (has arrays atom) && open_behind_all false (atom ∷ atoms))
directive_on atom atoms f h = by_begun (directive_begun atom f) where
  left : List (Symbol Action)
  left = (taken grammar known atom (Symbol.Rule 2 ∷ [])).left

  by_begun : Begun atom left → is_inside (read grammar known left atoms) ≡ (not (has arrays atom) && open_behind_all false (atom ∷ atoms))
  by_begun (AsArray a calm) = follow_calm left atoms calm h ∙ sym (ap (λ b. not b && open_behind_all false (atom ∷ atoms)) a)
  by_begun (AsOther a s) = follow (open_behind false atom) left atoms s h ∙ sym (ap (λ b. not b && open_behind_all false (atom ∷ atoms)) a)

directive_front : (atoms : List ℕ) → is_some (read grammar known (Symbol.Rule 2 ∷ []) atoms) ≡ true →
    is_inside (read grammar known (Symbol.Rule 2 ∷ []) atoms) ≡ (not (begin_array atoms) && open_behind_all false atoms)
directive_front [] h = refl
directive_front (atom ∷ atoms) h =
    let t = first_taken (Symbol.Rule 2 ∷ []) atom atoms h in t.tells ∙ directive_on atom atoms t.fits_it t.goes_on

-- The rows of a piece.
data PieceRow (parts : List (Symbol Action)) : Type 0 where
  Semicolon : parts ≡ Symbol.Token 0 ∷ [] → PieceRow parts
  Hash : parts ≡ Symbol.Token 1 ∷ Symbol.Rule 2 ∷ [] → PieceRow parts
  Directive : parts ≡ Symbol.Rule 2 ∷ [] → PieceRow parts

abbrev piece_rows : List (Row Action)
piece_rows = row (Symbol.Token 0 ∷ []) ∷ row (Symbol.Token 1 ∷ Symbol.Rule 2 ∷ []) ∷ row (Symbol.Rule 2 ∷ []) ∷ []

pieces_have_them : grammar.rows_of piece_rule ≡ piece_rows
unfolding grammar
pieces_have_them = refl

row_of_piece : (r : Row Action) → IsOneOf r piece_rows → PieceRow r.parts
row_of_piece r first = Semicolon refl
row_of_piece r (later first) = Hash refl
row_of_piece r (later (later first)) = Directive refl
row_of_piece r (later (later (later m))) = elim m [ ]

semicolon_is : grammar.atoms_of 0 ≡ 2 ^ mark_atom Mark.Semicolon
unfolding grammar
semicolon_is = refl

hash_is : grammar.atoms_of 1 ≡ 2 ^ mark_atom Mark.Hash
unfolding grammar
hash_is = refl

hash_begins_none : fits grammar known (mark_atom Mark.Hash) (Symbol.Rule 2 ∷ []) ≡ false
unfolding grammar known
hash_begins_none = refl

piece_front : (atoms : List ℕ) → is_some (read grammar known (Symbol.Rule piece_rule ∷ []) atoms) ≡ true →
    is_inside (read grammar known (Symbol.Rule piece_rule ∷ []) atoms) ≡ is_bracket_open atoms
piece_front [] h = refl
piece_front (atom ∷ atoms) h =
    let c = choice grammar known language_is_decided atom piece_rule [] t.fits_it in
    t.tells ∙ by_row (row_of_piece c.row (subst (λ rows. IsOneOf c.row rows) pieces_have_them c.one)) c.is
  where
    t : FirstTaken (Symbol.Rule piece_rule ∷ []) atom atoms
    t = first_taken (Symbol.Rule piece_rule ∷ []) atom atoms h

    whole : List (Symbol Action)
    whole = (taken grammar known atom (Symbol.Rule piece_rule ∷ [])).left

    leaves : (parts : List (Symbol Action)) → chosen grammar known atom piece_rule ≡ parts → whole ≡ (taken grammar known atom parts).left
    leaves parts e = ap (λ x. x.left) (taken_alone atom piece_rule t.fits_it) ∙ ap (λ symbols. (taken grammar known atom symbols).left) e

    fits_parts : (parts : List (Symbol Action)) → chosen grammar known atom piece_rule ≡ parts → fits grammar known atom parts ≡ true
    fits_parts parts e = sym (ap (fits grammar known atom) e) ∙ fits_alone atom piece_rule t.fits_it

    goes_on : (parts : List (Symbol Action)) → chosen grammar known atom piece_rule ≡ parts →
        is_some (read grammar known (taken grammar known atom parts).left atoms) ≡ true
    goes_on parts e = sym (ap (λ left. is_some (read grammar known left atoms)) (leaves parts e)) ∙ t.goes_on

    of_parts : (parts : List (Symbol Action)) → chosen grammar known atom piece_rule ≡ parts →
        is_inside (read grammar known whole atoms) ≡ is_inside (read grammar known (taken grammar known atom parts).left atoms)
    of_parts parts e = ap (λ left. is_inside (read grammar known left atoms)) (leaves parts e)

    no_hash : fits grammar known atom (Symbol.Rule 2 ∷ []) ≡ true → (atom == mark_atom Mark.Hash) ≡ false
    no_hash f = false_from_ne_true (atom == mark_atom Mark.Hash) (λ e. both_ways (fits grammar known atom (Symbol.Rule 2 ∷ []))
        (ap (λ a. fits grammar known a (Symbol.Rule 2 ∷ [])) (eqb-true atom (mark_atom Mark.Hash) e) ∙ hash_begins_none) f)

    or_no : (b : Bool) → b ≡ (b || false)
    or_no true = refl
    or_no false = refl

    by_row : {parts : List (Symbol Action)} → PieceRow parts → chosen grammar known atom piece_rule ≡ parts →
        is_inside (read grammar known whole atoms) ≡ is_bracket_open (atom ∷ atoms)
    by_row (Semicolon p) e =
        let is = e ∙ p in
        let same : atom ≡ mark_atom Mark.Semicolon =
        only_bit (mark_atom Mark.Semicolon) atom (sym (ap (λ s. has s atom) semicolon_is) ∙ fits_parts (Symbol.Token 0 ∷ []) is) in
        of_parts (Symbol.Token 0 ∷ []) is ∙ follow false [] atoms refl (goes_on (Symbol.Token 0 ∷ []) is)
        ∙ sym (ap (λ a. is_bracket_open (a ∷ atoms)) same)
    by_row (Hash p) e =
        let is = e ∙ p in
        let same : atom ≡ mark_atom Mark.Hash =
        only_bit (mark_atom Mark.Hash) atom (sym (ap (λ s. has s atom) hash_is) ∙ fits_parts (Symbol.Token 1 ∷ Symbol.Rule 2 ∷ []) is) in
        of_parts (Symbol.Token 1 ∷ Symbol.Rule 2 ∷ []) is ∙ directive_front atoms (goes_on (Symbol.Token 1 ∷ Symbol.Rule 2 ∷ []) is)
        ∙ sym (ap (λ a. is_bracket_open (a ∷ atoms)) same)
    by_row (Directive p) e =
        let is = e ∙ p in let f = fits_parts (Symbol.Rule 2 ∷ []) is in
        of_parts (Symbol.Rule 2 ∷ []) is ∙ directive_on atom atoms f (goes_on (Symbol.Rule 2 ∷ []) is)
        ∙ ap (λ b. not b && open_behind_all false (atom ∷ atoms)) (or_no (has arrays atom))
        ∙ sym (ap (λ b. not (has arrays atom || (b && begin_array atoms)) && open_behind_all false (atom ∷ atoms)) (no_hash f))

-- Proofs of the laws

pub open_routines_are_bracketed : OpenRoutinesAreBracketed
open_routines_are_bracketed front b = piece_front front ((bad_tokens_begin_nothing grammar known piece_rule front language_is_decided).1 b)

pub left_routines_are_bracketed : LeftRoutinesAreBracketed
left_routines_are_bracketed front r e = sym (ap is_inside e) ∙ piece_front front (ap is_some e)
