-- In a directive that is one unit no statement is over: the symbols behind each of its tokens begin with no end of one.
use Rattle.std.proofs.Common.{◌≡◌, inl, inr, ℕ, List, [], ◌∷◌, ◌++◌, Bool, true, false, not, ◌&&◌, ◌==◌, refl, subst}
use Rattle.std.proofs.lemmas.Bool.{agree_below, and_from, and_parts, eqb-true, or_cases}
use Rattle.inf_scanner.specs.declared.tokens.Mark.{Mark}
use Rattle.inf_machine.specs.declared.symbols.Symbol.{Symbol}
use Rattle.inf_machine.specs.Grammar.{Event, IsOneOf, IsText, Leads, Row, action, first, here, later, row, token}
use Rattle.inf_syntax.specs.{Atoms.mark_atom, declared.actions.Action.Action}
use Rattle.inf_syntax.specs.declared.parts.names.TheConstants as Part
use Rattle.inf_grammar.specs.{Language.grammar, Routines.closings}
use Rattle.inf_statement_laws.specs.Readings.{Seen}
use Rattle.inf_trees.specs.Directives.{begins_directive, is_word}
use Rattle.inf_trees.proofs.RuleRows.{is_among, keeps, passes}
use Rattle.inf_trees.proofs.DirectiveTexts.{DirectiveRow, IsOutside, IsWhole, directive_row, no_sign, no_word, outside-append, piece_rows}
use Rattle.inf_trees.proofs.DirectiveTexts.{pieces_have, sign_outside, unit_end}
use Rattle.inf_program.specs.definition.Fronts.{ends_in}
use Rattle.inf_turn_laws.proofs.Merged.{ClosesNone}

-- Lemmas about rules whose texts end no statement

abbrev pub is_close : Action → Bool
is_close Action.Close = true
is_close _ = false

abbrev open_rules : List (Symbol Action)
open_rules = Part.WHOLE_DIRECTIVE ∷ Part.WHOLE_DIRECTIVE_1 ∷ Part.WHOLE_DIRECTIVE_2 ∷ Part.WHOLE_DIRECTIVE_3 ∷ Part.WHOLE_DIRECTIVE_4 ∷
    Part.WHOLE_DIRECTIVE_5 ∷ Part.WHOLE_DIRECTIVE_6
    ∷ Part.INITIAL ∷ Part.INITIAL_1 ∷ Part.EXPRESSION ∷ Part.EXPRESSION_TAIL ∷ Part.ASSIGN ∷ Part.ASSIGN_TAIL ∷ Part.ASSIGN_TAIL_1 ∷
    Part.OTHER_ASSIGN ∷ Part.PREFIXED ∷ Part.LOGIC ∷
    Part.LOGIC_TAIL
    ∷ Part.LOGIC_OPERATOR ∷ Part.NEGATED ∷ Part.TEST ∷ Part.TEST_TAIL ∷ Part.TEST_TAIL_1 ∷ Part.TESTED ∷ Part.TESTED_1 ∷ Part.SUM ∷
    Part.SUM_OPERATOR ∷ Part.SUM_TAIL ∷ Part.TERM ∷ Part.TERM_OPERATOR
    ∷ Part.TERM_TAIL ∷ Part.BIT ∷ Part.ARRAY_OPERATOR ∷ Part.ARRAY_TAIL ∷ Part.NEG ∷ Part.INC ∷ Part.STEP_OPERATOR ∷ Part.STEP_PREFIX ∷
    Part.STEP_TAIL ∷ Part.ADDRESS_OPERATOR ∷ Part.ADDRESS_TAIL
    ∷ Part.POST ∷ Part.POST_TAIL ∷ Part.CALL ∷ Part.CALL_1 ∷ Part.CALL_2 ∷ Part.PRIM ∷ Part.OTHER_PRIM ∷ Part.PLAIN_PRIM ∷
    Part.BRACKETED ∷ Part.AFTER_PRIM ∷ Part.AFTER_UNARY ∷ []

unfoldable pub is_open_rule : ℕ → Bool
is_open_rule rule = is_among rule open_rules

-- whether symbols are tokens, these rules, and actions that end no statement
abbrev pub are_open : List (Symbol Action) → Bool
are_open [] = true
are_open (Symbol.Token class ∷ symbols) = are_open symbols
are_open (Symbol.Act a ∷ symbols) = not (is_close a) && are_open symbols
are_open (Symbol.Rule rule ∷ symbols) = is_open_rule rule && are_open symbols

rows_open : agree_below (keeps is_open_rule are_open) (λ rule. true) 256 ≡ true
unfolding grammar is_open_rule
rows_open = refl

open-append : (xs ys : List (Symbol Action)) → are_open xs ≡ true → are_open ys ≡ true → are_open (xs ++ ys) ≡ true
open-append [] ys x y = y
open-append (Symbol.Token class ∷ xs) ys x y = open-append xs ys x y
open-append (Symbol.Act a ∷ xs) ys x y =
    let both = and_parts (not (is_close a)) (are_open xs) x in
    and_from (not (is_close a)) (are_open (xs ++ ys)) both.0 (open-append xs ys both.1 y)
open-append (Symbol.Rule rule ∷ xs) ys x y =
    let both = and_parts (is_open_rule rule) (are_open xs) x in
    and_from (is_open_rule rule) (are_open (xs ++ ys)) both.0 (open-append xs ys both.1 y)

-- No statement is over behind any token.
abbrev AllZero : List ℕ → Type 0
AllZero [] = Unit {0}
AllZero (count ∷ counts) = (count ≡ 0) × AllZero counts

act_closes : (a : Action) (symbols : List (Symbol Action)) → not (is_close a) ≡ true → closings (Symbol.Act a ∷ symbols) ≡ 0
act_closes Action.Close symbols is = cc
act_closes _ symbols is = refl

none_over : (symbols : List (Symbol Action)) → are_open symbols ≡ true → closings symbols ≡ 0
none_over [] is = refl
none_over (Symbol.Token class ∷ symbols) is = refl
none_over (Symbol.Rule rule ∷ symbols) is = refl
none_over (Symbol.Act a ∷ symbols) is = act_closes a symbols (and_parts (not (is_close a)) (are_open symbols) is).0

open_ends : {symbols left : List (Symbol Action)} {atoms : List ℕ} {events : List (Event Action)}
    → (leads : Leads grammar symbols atoms events left) → are_open symbols ≡ true → AllZero (ends_in leads)
open_ends here is = tt
open_ends (token {symbols = symbols} h leads) is = (none_over symbols is, open_ends leads is)
open_ends (action {a = a} {symbols = symbols} leads) is = open_ends leads (and_parts (not (is_close a)) (are_open symbols) is).1
open_ends (row {rule = rule} {r = r} {symbols = symbols} is_row free leads) is =
    let both = and_parts (is_open_rule rule) (are_open symbols) is in
    open_ends leads (open-append r.parts symbols (passes is_open_rule are_open rows_open rule both.0 r is_row) both.1)

whole_is_open : are_open (Part.WHOLE_DIRECTIVE ∷ unit_end) ≡ true
unfolding is_open_rule
whole_is_open = refl

-- Lemmas about a piece that begins as such a directive

row_ends : {parts : List (Symbol Action)} → DirectiveRow parts → (atom : ℕ) (atoms : List ℕ) (events : List (Event Action))
    → is_word atom ≡ true → (leads : Leads grammar (parts ++ []) (atom ∷ atoms) events []) → AllZero (ends_in leads)
row_ends IsWhole atom atoms events is leads = open_ends leads whole_is_open
row_ends (IsOutside {parts} out) atom atoms events is leads = absurd (no_word leads (outside-append parts [] out) atom atoms refl is)

directive_ends : (atom : ℕ) (atoms : List ℕ) (events : List (Event Action)) → is_word atom ≡ true
    → (leads : IsText grammar (Part.DIRECTIVE ∷ []) (atom ∷ atoms) events) → AllZero (ends_in leads)
directive_ends atom atoms events is (row {r = r} is_row free leads) = row_ends (directive_row r is_row) atom atoms events is leads

-- a piece whose first row is that of the sign, or of a directive
piece_row_ends : (r : Row Action) → IsOneOf r piece_rows → (one two : ℕ) (atoms : List ℕ) (events : List (Event Action))
    → begins_directive (one ∷ two ∷ atoms) ≡ true → (leads : Leads grammar (r.parts ++ []) (one ∷ two ∷ atoms) events [])
    → AllZero (ends_in leads)
piece_row_ends r first one two atoms events begins (token h leads) = elim leads [ ]
piece_row_ends r (later first) one two atoms events begins (token {events = rest} h leads) =
    elim (or_cases (is_word one) ((one == mark_atom Mark.Hash) && is_word two) begins) [
      | inl is ↦ absurd (no_word (token h leads) (sign_outside (Part.DIRECTIVE ∷ [])) one (two ∷ atoms) refl is)
      | inr both ↦ (refl, directive_ends two atoms rest (and_parts (one == mark_atom Mark.Hash) (is_word two) both).1 leads)
    ]
piece_row_ends r (later (later first)) one two atoms events begins leads =
    elim (or_cases (is_word one) ((one == mark_atom Mark.Hash) && is_word two) begins) [
      | inl is ↦ directive_ends one (two ∷ atoms) events is leads
      | inr both ↦
          let parts = and_parts (one == mark_atom Mark.Hash) (is_word two) both in
          absurd (no_sign one (two ∷ atoms) events (eqb-true one (mark_atom Mark.Hash) parts.0) leads)
    ]
piece_row_ends r (later (later (later missing))) one two atoms events begins leads = elim missing [ ]

piece_ends : (atoms : List ℕ) (events : List (Event Action)) → begins_directive atoms ≡ true
    → (leads : IsText grammar (Part.PIECE ∷ []) atoms events) → AllZero (ends_in leads)
piece_ends [] events begins leads = cc
piece_ends (one ∷ []) events begins leads = cc
piece_ends (one ∷ two ∷ atoms) events begins (row {r = r} is_row free leads) =
    piece_row_ends r (subst (λ rows. IsOneOf r rows) pieces_have is_row) one two atoms events begins leads

none_close : (counts : List ℕ) (seen : List Seen) → AllZero counts → ClosesNone counts seen
none_close counts [] zero = tt
none_close [] (s ∷ seen) zero = tt
none_close (count ∷ counts) (s ∷ seen) zero = (inl zero.0, none_close counts seen zero.1)

-- Conditional directives within such a piece close no statement ahead.
pub directives_close_none : (atoms : List ℕ) (events : List (Event Action)) (counts : List ℕ) (seen : List Seen)
    → begins_directive atoms ≡ true → (leads : IsText grammar (Part.PIECE ∷
    []) atoms events) → ends_in leads ≡ counts → ClosesNone counts seen
directives_close_none atoms events counts seen begins leads are =
    subst (λ (numbers : List ℕ). ClosesNone numbers seen) are (none_close (ends_in leads) seen (piece_ends atoms events begins leads))
