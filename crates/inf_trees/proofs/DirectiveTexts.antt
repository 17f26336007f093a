-- A text of a piece that begins as a directive that is one unit: the unit, its end and the semicolon.
use Rattle.std.proofs.Common.{◌≡◌, ℕ, ◌≤◌, List, [], ◌∷◌, true, false, ◌&&◌, ◌==◌, refl, sym, ◌∙◌, ap, inl, inr, bit_and, arith, is_some}
use Rattle.std.proofs.Common.{Bool, ◌++◌, Option, Some, subst}
use Rattle.std.proofs.lemmas.Bool.{and_from, and_parts, eqb-true, or_cases}
use Rattle.inf_scanner.specs.declared.tokens.Mark.{Mark}
use Rattle.inf_machine.specs.{Machine.fits, declared.symbols.Symbol.Symbol}
use Rattle.inf_machine.specs.Grammar.{Event, IsOneOf, IsText, Leads, Row, action, has, here, row, token}
use Rattle.inf_machine.proofs.{Sets.has_and, Sets.has_zero, Taking.leads_only}
use Rattle.inf_syntax.specs.{Atoms.mark_atom, Rows.row as row_of, declared.actions.Action.Action}
use Rattle.inf_syntax.specs.declared.parts.names.TheConstants as Part
use Rattle.inf_grammar.specs.{Evaluated.language_is_decided, Language.grammar, Language.known}
use Rattle.inf_grammar.proofs.Spaced.{rule_is_spaced}
use Rattle.inf_statement_laws.proofs.Rules.{number}
use Rattle.inf_trees.specs.Directives.{begins_directive, is_word, words}
use Rattle.inf_trees.proofs.{ItemTexts.same_symbols, Needs.Bytes, Needs.Kind, Needs.Places, Needs.needs_in, RuleRows.of_rows}
use Rattle.inf_trees.proofs.{RuleRows.of_rule, UnitStates.Ended, UnitStates.Free, UnitStates.Typed}
use Rattle.inf_trees.proofs.UnitWalks.{bind, declared, each_row, from_some, holds, or_else, walk}
use Rattle.inf_trees.proofs.Weights.{AllKeep, directive_bytes, directive_places, of_directives, weighed, weight}

-- Lemmas about atoms that are in no two sets

apart : (xs ys atom : ℕ) → bit_and xs ys ≡ 0 → has xs atom ≡ true → has ys atom ≡ true → ⊥
apart xs ys atom none x y =
    let both : has (bit_and xs ys) atom ≡ true = has_and xs ys atom ∙ and_from (has xs atom) (has ys atom) x y in
    let neither : has (bit_and xs ys) atom ≡ false = ap (λ set. has set atom) none ∙ has_zero atom in
    absurd_of (sym both ∙ neither)
  where
    absurd_of : true ≡ false → ⊥
    absurd_of same = cc

-- Symbols that begin with a token that is none of the words

abbrev pub outside : List (Symbol Action) → Bool
outside (Symbol.Token class ∷ symbols) = bit_and (grammar.atoms_of class) words == 0
outside (Symbol.Act a ∷ symbols) = outside symbols
outside _ = false

pub outside-append : (xs ys : List (Symbol Action)) → outside xs ≡ true → outside (xs ++ ys) ≡ true
outside-append [] ys is = cc
outside-append (Symbol.Token class ∷ xs) ys is = is
outside-append (Symbol.Act a ∷ xs) ys is = outside-append xs ys is
outside-append (Symbol.Rule rule ∷ xs) ys is = cc

same_first : {x y : ℕ} {xs ys : List ℕ} → x ∷ xs ≡ y ∷ ys → x ≡ y
same_first same = cc

no_word_first : (class first atom : ℕ) → (bit_and (grammar.atoms_of class) words == 0) ≡ true → has (grammar.atoms_of class) first ≡ true
    → first ≡ atom → is_word atom ≡ true → ⊥
unfolding is_word
no_word_first class first atom out h same is =
    apart (grammar.atoms_of class) words first (eqb-true (bit_and (grammar.atoms_of class) words) 0 out) h
    (ap (λ n. has words n) same ∙ is)

pub no_word : {symbols left : List (Symbol Action)} {atoms : List ℕ} {events : List (Event Action)}
    → Leads grammar symbols atoms events left
    → outside symbols ≡ true → (atom : ℕ) (rest : List ℕ) → atoms ≡ atom ∷ rest → is_word atom ≡ true → ⊥
no_word here out atom rest same is = cc
no_word (token {class} {atom = one} h leads) out atom rest same is = no_word_first class one atom out h (same_first same) is
no_word (action leads) out atom rest same is = no_word leads out atom rest same is
no_word (row m free leads) out atom rest same is = cc

pub sign_outside : (symbols : List (Symbol Action)) → outside (Part.HASH ∷ symbols) ≡ true
unfolding grammar
sign_outside symbols = refl

-- Lemmas about rows

abbrev pub unit_end : List (Symbol Action)
unit_end = Part.DO_END_DIRECTIVE ∷ Part.SEMICOLON ∷ []

-- A row of a directive is that of those that are one unit, or begins with none of the words.
pub data DirectiveRow : List (Symbol Action) → Type 0 where
  IsWhole : DirectiveRow (Part.WHOLE_DIRECTIVE ∷ unit_end)
  IsOutside : {parts : List (Symbol Action)} → outside parts ≡ true → DirectiveRow parts

abbrev directive_kind : (parts : List (Symbol Action)) → Option (DirectiveRow parts)
directive_kind parts = or_else (bind (holds (outside parts)) (λ is. Some (IsOutside is)))
    (bind (same_symbols parts (Part.WHOLE_DIRECTIVE ∷ unit_end)) (λ same. Some (subst DirectiveRow (sym same) IsWhole)))

pub directive_row : (r : Row Action) → IsOneOf r (grammar.rows_of (number Part.DIRECTIVE)) → DirectiveRow r.parts
unfolding grammar
directive_row r m = from_some (each_row DirectiveRow directive_kind (grammar.rows_of (number Part.DIRECTIVE))) refl r m

abbrev pub piece_rows : List (Row Action)
piece_rows = row_of (Part.SEMICOLON ∷ []) ∷ row_of (Part.HASH ∷ Part.DIRECTIVE ∷ []) ∷ row_of (Part.DIRECTIVE ∷ []) ∷ []

pub pieces_have : grammar.rows_of (number Part.PIECE) ≡ piece_rows
unfolding grammar
pieces_have = refl

-- A directive that begins with one of the words is one unit.

by_row : {parts : List (Symbol Action)} {atoms : List ℕ} {events : List (Event Action)} → DirectiveRow parts
    → IsText grammar parts atoms events
    → (atom : ℕ) (rest : List ℕ) → atoms ≡ atom ∷ rest → is_word atom ≡ true → IsText grammar (Part.WHOLE_DIRECTIVE ∷ unit_end) atoms events
by_row IsWhole text atom rest same is = text
by_row (IsOutside out) text atom rest same is = absurd (no_word text out atom rest same is)

directive_text : (atom : ℕ) (atoms : List ℕ) (events : List (Event Action)) → is_word atom ≡ true
    → IsText grammar (Part.DIRECTIVE ∷ []) (atom ∷ atoms) events → IsText grammar (Part.WHOLE_DIRECTIVE ∷ unit_end) (atom ∷ atoms) events
directive_text atom atoms events is text = of_rule (number Part.DIRECTIVE) text (λ r m t. by_row (directive_row r m) t atom atoms refl is)

-- No directive begins with the sign.
sign_unfit : fits grammar known (mark_atom Mark.Hash) (Part.DIRECTIVE ∷ []) ≡ false
unfolding grammar known
sign_unfit = refl

pub no_sign : (atom : ℕ) (atoms : List ℕ) (events : List (Event Action)) → atom ≡ mark_atom Mark.Hash
    → IsText grammar (Part.DIRECTIVE ∷ []) (atom ∷ atoms) events → ⊥
no_sign atom atoms events is text =
    let one = leads_only grammar known language_is_decided text (rule_is_spaced 2) in
    contrary (sym one.fits_here ∙ ap (λ a. fits grammar known a (Part.DIRECTIVE ∷ [])) is ∙ sign_unfit)
  where
    contrary : true ≡ false → ⊥
    contrary same = cc

-- The text of a directive that is one unit, which is read as such up to its end, and needs nothing
pub record UnitText (atoms : List ℕ) (events : List (Event Action)) : Type 0 where
  pub symbols : List (Symbol Action)
  pub typed : Typed declared Action.EndDirective Free symbols Ended
  pub text : IsText grammar symbols atoms events
  pub bytes : needs_in Bytes events ≤ 0
  pub places : needs_in Places events ≤ 0

word_typed : is_some (walk 80 Action.EndDirective Free (Part.WHOLE_DIRECTIVE ∷ unit_end) Ended) ≡ true
unfolding grammar declared
word_typed = refl

sign_typed : is_some (walk 80 Action.EndDirective Free (Part.HASH ∷ Part.WHOLE_DIRECTIVE ∷ unit_end) Ended) ≡ true
unfolding grammar declared
sign_typed = refl

free_of : (kind : Kind) → weight of_directives kind (Part.WHOLE_DIRECTIVE ∷ unit_end) ≡ 0
unfolding of_directives
free_of Bytes = refl
free_of Places = refl

directives_keep : (kind : Kind) → AllKeep of_directives kind
directives_keep Bytes = directive_bytes
directives_keep Places = directive_places

no_needs : (kind : Kind) {atoms : List ℕ} {events : List (Event Action)} → IsText grammar (Part.WHOLE_DIRECTIVE ∷ unit_end) atoms events
    → needs_in kind events ≤ 0
no_needs kind text =
    let none = free_of kind in
    let less = weighed of_directives kind (directives_keep kind) text (omega (arith, none)) in
    omega (arith, none, less)

semicolon_none : (first second : ℕ) (atoms : List ℕ) (events : List (Event Action))
    → IsText grammar (Part.SEMICOLON ∷ []) (first ∷ second ∷ atoms)
    events → ⊥
semicolon_none first second atoms events (token h leads) = elim leads [ ]

with_sign : (first second : ℕ) (atoms : List ℕ) (events : List (Event Action)) → is_word second ≡ true
    → IsText grammar (Part.HASH ∷ Part.DIRECTIVE ∷ []) (first ∷ second ∷ atoms) events → UnitText (first ∷ second ∷ atoms) events
with_sign first second atoms events is (token {events = rest} h leads) =
    let text = directive_text second atoms rest is leads in
    record {
      symbols = Part.HASH ∷ Part.WHOLE_DIRECTIVE ∷ unit_end;
      typed = from_some (walk 80 Action.EndDirective Free (Part.HASH ∷ Part.WHOLE_DIRECTIVE ∷ unit_end) Ended) sign_typed;
      text = token h text;
      bytes = no_needs Bytes text;
      places = no_needs Places text;
    }

without_sign : (first second : ℕ) (atoms : List ℕ) (events : List (Event Action)) → is_word first ≡ true
    → IsText grammar (Part.DIRECTIVE ∷ []) (first ∷ second ∷ atoms) events → UnitText (first ∷ second ∷ atoms) events
without_sign first second atoms events is text =
    let text = directive_text first (second ∷ atoms) events is text in
    record {
      symbols = Part.WHOLE_DIRECTIVE ∷ unit_end;
      typed = from_some (walk 80 Action.EndDirective Free (Part.WHOLE_DIRECTIVE ∷ unit_end) Ended) word_typed;
      text = text;
      bytes = no_needs Bytes text;
      places = no_needs Places text;
    }

pub piece_text : (atoms : List ℕ) (events : List (Event Action)) → begins_directive atoms ≡ true → IsText grammar (Part.PIECE ∷
    []) atoms events
    → UnitText atoms events
piece_text [] events begins text = cc
piece_text (first ∷ []) events begins text = cc
piece_text (first ∷ second ∷ atoms) events begins text =
    let all = first ∷ second ∷ atoms in
    of_rows (UnitText all events) (number Part.PIECE) piece_rows all events pieces_have (
      (λ t. absurd (semicolon_none first second atoms events t)),
      (
        (λ t. elim (or_cases (is_word first) ((first == mark_atom Mark.Hash) && is_word second) begins) [
          | inl is ↦ absurd (no_word t (sign_outside (Part.DIRECTIVE ∷ [])) first (second ∷ atoms) refl is)
          | inr both ↦ with_sign first second atoms events (and_parts (first == mark_atom Mark.Hash) (is_word second) both).1 t
        ]),
        (
          (λ t. elim (or_cases (is_word first) ((first == mark_atom Mark.Hash) && is_word second) begins) [
            | inl is ↦ without_sign first second atoms events is t
            | inr both ↦
                let parts = and_parts (first == mark_atom Mark.Hash) (is_word second) both in
                absurd (no_sign first (second ∷ atoms) events (eqb-true first (mark_atom Mark.Hash) parts.0) t)
          ]),
          tt,
        ),
      ),
    )
    text
