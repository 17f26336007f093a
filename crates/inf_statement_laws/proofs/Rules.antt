-- The rules by which statements are read, given by the symbols of their rows; evaluation over the table shows that they are
-- these.
use Rattle.std.proofs.Common.{◌≡◌, ℕ, List, [], ◌∷◌, ◌++◌, Bool, true, false, not, ◌&&◌, ◌||◌, ◌==◌, refl, ap, subst, ◌⊎◌, inl, inr}
use Rattle.std.proofs.lemmas.Bool.{agree_below, agree_below_at, and_parts, cases_lt}
use Rattle.inf_machine.specs.{Machine.fits, Machine.taken, Pieces.all_rows, declared.symbols.Symbol.Symbol}
use Rattle.inf_machine.specs.Grammar.{IsOneOf, Row, first, has, later}
use Rattle.inf_syntax.specs.{Atoms.mark_atom, Rows.row, Rows.row_unless, declared.actions.Action.Action}
use Rattle.inf_syntax.specs.declared.parts.names.TheConstants as Part
use Rattle.inf_grammar.specs.{Evaluated.rows_past, Language.grammar, Language.known}
use Rattle.inf_scanner.specs.declared.tokens.Mark.{Mark}
use Rattle.inf_statement_laws.specs.Happenings.{is_quiet}

-- the number of a rule
abbrev pub number : Symbol Action → ℕ
number (Symbol.Token class) = 0
number (Symbol.Act a) = 0
number (Symbol.Rule rule) = rule

-- Rules of tokens and quiet actions alone, which the rules of expressions are, as the bits of a number. A rule is among
-- these where all of its rows have nothing else; for another numbering of the rules, the evaluations below refuse this
-- number.
abbrev quiet_rules : ℕ
quiet_rules = 0x40040812079018040818ffffffffc1839f6fffffffffffffab003c01ff3748

unfoldable pub is_quiet_rule : ℕ → Bool
is_quiet_rule rule = has quiet_rules rule

-- Rules of statements, and the rules behind the words of those that hold others
unfoldable pub is_holding : ℕ → Bool
is_holding rule = (rule == number Part.STATEMENT) || (rule == number Part.STATEMENT_3) || (rule == number Part.MARK_STATEMENT) ||
    (rule == number Part.MARK_STATEMENT_1)

-- Rules of a `switch` and of the top of a routine, in which cases end, as the bits of a number
abbrev case_rules : ℕ
case_rules = 0x7bffbf7edf86fe7fbf7e7000000003000000000000000000004000000000010

unfoldable pub is_case_rule : ℕ → Bool
is_case_rule rule = has case_rules rule

abbrev pub is_rest : ℕ → Bool
is_rest rule = (rule == number Part.IF_REST) || ((rule == number Part.WHILE_REST) ||
    ((rule == number Part.DO_REST) || ((rule == number Part.FOR_REST) || ((rule == number Part.OBJECTLOOP_REST) || (rule == number
    Part.SWITCH_REST)))))

abbrev pub is_case : Action → Bool
is_case Action.EndCase = true
is_case _ = false

-- the rules that may come among statements, and among cases
abbrev pub may : Bool → ℕ → Bool
may b rule = is_quiet_rule rule || (is_holding rule || (is_rest rule || (b && is_case_rule rule)))

abbrev pub all_may : Bool → List (Symbol Action) → Bool
all_may b [] = true
all_may b (Symbol.Token class ∷ symbols) = all_may b symbols
all_may b (Symbol.Act a ∷ symbols) = (is_quiet a || (b && is_case a)) && all_may b symbols
all_may b (Symbol.Rule rule ∷ symbols) = may b rule && all_may b symbols

abbrev pub all_quiet : List (Symbol Action) → Bool
all_quiet [] = true
all_quiet (Symbol.Token class ∷ symbols) = all_quiet symbols
all_quiet (Symbol.Act a ∷ symbols) = is_quiet a && all_quiet symbols
all_quiet (Symbol.Rule rule ∷ symbols) = is_quiet_rule rule && all_quiet symbols

-- Lemmas by evaluation over the table

abbrev keeps : (ℕ → Bool) → (List (Symbol Action) → Bool) → ℕ → Bool
keeps rules test rule = not (rules rule) || all_rows test (grammar.rows_of rule)

quiet_keep : agree_below (keeps is_quiet_rule all_quiet) (λ rule. true) 256 ≡ true
unfolding grammar is_quiet_rule
quiet_keep = refl

holding_keep : agree_below (keeps is_holding (all_may false)) (λ rule. true) 256 ≡ true
unfolding grammar is_quiet_rule is_holding is_case_rule
holding_keep = refl

holding_keep_in : agree_below (keeps is_holding (all_may true)) (λ rule. true) 256 ≡ true
unfolding grammar is_quiet_rule is_holding is_case_rule
holding_keep_in = refl

cases_keep : agree_below (keeps is_case_rule (all_may true)) (λ rule. true) 256 ≡ true
unfolding grammar is_quiet_rule is_holding is_case_rule
cases_keep = refl

past_keeps : (b : Bool) (test : List (Symbol Action) → Bool) (rows : List (Row Action)) → rows ≡ [] → (not b || all_rows test rows) ≡ true
past_keeps true test rows e = ap (all_rows test) e
past_keeps false test rows e = refl

row_of_all : (test : List (Symbol Action) → Bool) (rows : List (Row Action)) (r : Row Action) → IsOneOf r rows → all_rows test rows ≡ true
    → test r.parts ≡ true
row_of_all test [] r m h = elim m [ ]
row_of_all test (r ∷ rows) r' first h = (and_parts (test r.parts) (all_rows test rows) h).0
row_of_all test (y ∷ rows) r (later m) h = row_of_all test rows r m (and_parts (test y.parts) (all_rows test rows) h).1

-- a row of a rule of a set passes the test
passes : (rules : ℕ → Bool) (test : List (Symbol Action) → Bool) → agree_below (keeps rules test) (λ rule. true) 256 ≡ true
    → (rule : ℕ) → rules rule ≡ true → (r : Row Action) → IsOneOf r (grammar.rows_of rule) → test r.parts ≡ true
passes rules test all rule is r m = row_of_all test (grammar.rows_of rule) r m (in_rules (rules rule) is kept)
  where
    kept : keeps rules test rule ≡ true
    kept =
        elim (cases_lt rule 256) [
          | inl l ↦ agree_below_at (keeps rules test) (λ r. true) 256 rule all l
          | inr l ↦ past_keeps (rules rule) test (grammar.rows_of rule) (rows_past rule l)
        ]

    in_rules : (b : Bool) → b ≡ true → (not b || all_rows test (grammar.rows_of rule)) ≡ true → all_rows test (grammar.rows_of rule) ≡ true
    in_rules true e h = h
    in_rules false e h = cc

pub quiet_row : (rule : ℕ) → is_quiet_rule rule ≡ true → (r : Row Action) → IsOneOf r (grammar.rows_of rule) → all_quiet r.parts ≡ true
quiet_row rule is r m = passes is_quiet_rule all_quiet quiet_keep rule is r m

pub holding_row : (b : Bool) (rule : ℕ) → is_holding rule ≡ true → (r : Row Action) → IsOneOf r (grammar.rows_of rule)
    → all_may b r.parts ≡ true
holding_row false rule is r m = passes is_holding (all_may false) holding_keep rule is r m
holding_row true rule is r m = passes is_holding (all_may true) holding_keep_in rule is r m

pub case_row : (rule : ℕ) → is_case_rule rule ≡ true → (r : Row Action) → IsOneOf r (grammar.rows_of rule) → all_may true r.parts ≡ true
case_row rule is r m = passes is_case_rule (all_may true) cases_keep rule is r m

pub statement_may : may false (number Part.STATEMENT) ≡ true
unfolding is_quiet_rule is_holding
statement_may = refl

pub cases_may : may true (number Part.SWITCH_REST_1) ≡ true
unfolding is_quiet_rule is_holding is_case_rule
cases_may = refl

pub body_may : may true (number Part.DIRECTIVE_2) ≡ true
unfolding is_quiet_rule is_holding is_case_rule
body_may = refl

pub embedded_may : may true (number Part.VALUE_3) ≡ true
unfolding is_quiet_rule is_holding is_case_rule
embedded_may = refl

-- the text of a routine: items, one behind the other
pub body_rows : grammar.rows_of (number Part.DIRECTIVE_2) ≡ row (Part.TOP_ITEM ∷ Part.DIRECTIVE_2 ∷ []) ∷ row [] ∷ []
unfolding grammar
body_rows = refl

-- Lemmas about the symbols in the rows of statements that hold others

abbrev pub if_test : List (Symbol Action)
if_test = Part.OPEN_PARENTHESIS ∷ Part.DO_BEGIN ∷ Part.DO_OUTER ∷ Part.EXPRESSION ∷ Part.DO_END_IF ∷ Part.CLOSE_PARENTHESIS ∷ []

abbrev pub while_test : List (Symbol Action)
while_test = Part.OPEN_PARENTHESIS ∷ Part.DO_BEGIN ∷ Part.DO_OUTER ∷ Part.EXPRESSION ∷ Part.DO_END_WHILE ∷ Part.CLOSE_PARENTHESIS ∷ []

abbrev pub until_test : List (Symbol Action)
until_test = Part.OPEN_PARENTHESIS ∷ Part.DO_BEGIN ∷ Part.DO_OUTER ∷ Part.EXPRESSION ∷ Part.DO_END_UNTIL ∷ Part.CLOSE_PARENTHESIS ∷
    Part.SEMICOLON ∷ []

abbrev pub for_start : List (Symbol Action)
for_start = Part.OPEN_PARENTHESIS ∷ Part.FOR_REST_1 ∷ []

abbrev pub for_test : List (Symbol Action)
for_test = Part.COLON ∷ Part.FOR_REST_2 ∷ Part.COLON ∷ []

abbrev pub step_front : List (Symbol Action)
step_front = Part.DO_BEGIN ∷ Part.DO_OUTER ∷ Part.EXPRESSION ∷ []

abbrev pub loop_unit : List (Symbol Action)
loop_unit = Part.OPEN_PARENTHESIS ∷ Part.DO_BEGIN ∷ Part.DO_OUTER ∷ Part.EXPRESSION ∷ []

abbrev pub switch_value : List (Symbol Action)
switch_value = Part.OPEN_PARENTHESIS ∷ Part.DO_BEGIN ∷ Part.DO_OUTER ∷ Part.EXPRESSION ∷ Part.DO_END_SWITCH ∷ Part.CLOSE_PARENTHESIS ∷
    Part.OPEN_BRACE ∷ []

abbrev pub bracket : List (Symbol Action)
bracket = Part.CLOSE_PARENTHESIS ∷ []

abbrev pub brace : List (Symbol Action)
brace = Part.CLOSE_BRACE ∷ []

abbrev pub else_word : List (Symbol Action)
else_word = Part.WORD_ELSE ∷ []

abbrev pub until_word : List (Symbol Action)
until_word = Part.WORD_UNTIL ∷ []

abbrev pub if_parts : List (Symbol Action)
if_parts = Part.DO_OPEN_IF ∷ (if_test ++ Part.STATEMENT ∷ Part.ELSE_PART ∷ [])

abbrev pub else_parts : List (Symbol Action)
else_parts = Part.DO_ELSE ∷ (else_word ++ Part.STATEMENT ∷ Part.DO_CLOSE ∷ [])

abbrev pub lone_parts : List (Symbol Action)
lone_parts = Part.DO_CLOSE ∷ []

abbrev pub while_parts : List (Symbol Action)
while_parts = Part.DO_OPEN_WHILE ∷ (while_test ++ Part.STATEMENT ∷ Part.DO_CLOSE ∷ [])

abbrev pub do_parts : List (Symbol Action)
do_parts = Part.DO_OPEN_DO ∷ Part.STATEMENT ∷ (until_word ++ Part.DO_UNTIL ∷ (until_test ++ Part.DO_CLOSE ∷ []))

abbrev pub for_parts : List (Symbol Action)
for_parts = Part.DO_OPEN_FOR ∷ (for_start ++ Part.DO_FOR_TOP ∷ (for_test ++ Part.FOR_REST_3 ∷ (bracket ++ Part.STATEMENT ∷ Part.DO_CLOSE ∷
    [])))

abbrev pub step_parts : List (Symbol Action)
step_parts = step_front ++ Part.DO_END_FOR_STEP ∷ []

abbrev pub loop_parts : List (Symbol Action)
loop_parts = Part.DO_OPEN_OBJECTLOOP ∷ (loop_unit ++ Part.DO_END_OBJECTLOOP ∷ Part.DO_LOOP ∷ (bracket ++ Part.STATEMENT ∷ Part.DO_CLOSE ∷
    []))

abbrev pub switch_parts : List (Symbol Action)
switch_parts = Part.DO_OPEN_SWITCH ∷ (switch_value ++ Part.SWITCH_REST_1 ∷ (brace ++ Part.DO_CLOSE ∷ []))

abbrev HasRow : Symbol Action → List (Symbol Action) → Type 0
HasRow rule parts = (r : Row Action) → IsOneOf r (grammar.rows_of (number rule)) → r.parts ≡ parts

only : (x r : Row Action) → IsOneOf r (x ∷ []) → r.parts ≡ x.parts
only x r first = refl
only x r (later m) = elim m [ ]

one_row : (parts : List (Symbol Action)) (rows : List (Row Action)) → rows ≡ row parts ∷ [] → (r : Row Action) → IsOneOf r rows
    → r.parts ≡ parts
one_row parts rows e r m = only (row parts) r (subst (λ l. IsOneOf r l) e m)

pub if_row : HasRow Part.IF_REST if_parts
unfolding grammar
if_row = one_row if_parts (grammar.rows_of (number Part.IF_REST)) refl

pub while_row : HasRow Part.WHILE_REST while_parts
unfolding grammar
while_row = one_row while_parts (grammar.rows_of (number Part.WHILE_REST)) refl

pub do_row : HasRow Part.DO_REST do_parts
unfolding grammar
do_row = one_row do_parts (grammar.rows_of (number Part.DO_REST)) refl

pub for_row : HasRow Part.FOR_REST for_parts
unfolding grammar
for_row = one_row for_parts (grammar.rows_of (number Part.FOR_REST)) refl

pub loop_row : HasRow Part.OBJECTLOOP_REST loop_parts
unfolding grammar
loop_row = one_row loop_parts (grammar.rows_of (number Part.OBJECTLOOP_REST)) refl

pub switch_row : HasRow Part.SWITCH_REST switch_parts
unfolding grammar
switch_row = one_row switch_parts (grammar.rows_of (number Part.SWITCH_REST)) refl

-- one of two rows
abbrev HasRows : Symbol Action → List (Symbol Action) → List (Symbol Action) → Type 0
HasRows rule xs ys = (r : Row Action) → IsOneOf r (grammar.rows_of (number rule)) → (r.parts ≡ xs) ⊎ (r.parts ≡ ys)

either : (x y r : Row Action) → IsOneOf r (x ∷ y ∷ []) → (r.parts ≡ x.parts) ⊎ (r.parts ≡ y.parts)
either x y r first = inl refl
either x y r (later first) = inr refl
either x y r (later (later m)) = elim m [ ]

two_rows : (x y : Row Action) (rows : List (Row Action)) → rows ≡ x ∷ y ∷ [] → (r : Row Action) → IsOneOf r rows
    → (r.parts ≡ x.parts) ⊎ (r.parts ≡ y.parts)
two_rows x y rows e r m = either x y r (subst (λ l. IsOneOf r l) e m)

pub else_row : HasRows Part.ELSE_PART else_parts lone_parts
unfolding grammar
else_row = two_rows (row else_parts) (row_unless 115 lone_parts) (grammar.rows_of (number Part.ELSE_PART)) refl

pub step_row : HasRows Part.FOR_REST_3 step_parts []
unfolding grammar
step_row = two_rows (row step_parts) (row []) (grammar.rows_of (number Part.FOR_REST_3)) refl

-- The symbols beside their own actions, and bodies, are quiet.
pub quiet_if_test : all_quiet if_test ≡ true
unfolding is_quiet_rule
quiet_if_test = refl

pub quiet_while_test : all_quiet while_test ≡ true
unfolding is_quiet_rule
quiet_while_test = refl

pub quiet_until_test : all_quiet until_test ≡ true
unfolding is_quiet_rule
quiet_until_test = refl

pub quiet_for_start : all_quiet for_start ≡ true
unfolding is_quiet_rule
quiet_for_start = refl

pub quiet_for_test : all_quiet for_test ≡ true
unfolding is_quiet_rule
quiet_for_test = refl

pub quiet_step_front : all_quiet step_front ≡ true
unfolding is_quiet_rule
quiet_step_front = refl

pub quiet_loop_unit : all_quiet loop_unit ≡ true
unfolding is_quiet_rule
quiet_loop_unit = refl

pub quiet_switch_value : all_quiet switch_value ≡ true
unfolding is_quiet_rule
quiet_switch_value = refl

-- Lemmas about a routine

abbrev pub header_parts : List (Symbol Action)
header_parts = Part.DO_ROUTINE ∷ Part.OPEN_BRACKET ∷ Part.NAME ∷ Part.DIRECTIVE_1 ∷ []

abbrev pub semicolon_parts : List (Symbol Action)
semicolon_parts = Part.SEMICOLON ∷ []

abbrev pub last_parts : List (Symbol Action)
last_parts = Part.CLOSE_BRACKET ∷ Part.SEMICOLON ∷ []

abbrev pub routine_parts : List (Symbol Action)
routine_parts = header_parts ++ Part.DO_END_LOCALS ∷ (semicolon_parts ++ Part.DIRECTIVE_2 ∷ Part.DO_END_ROUTINE ∷ last_parts)

pub quiet_header : all_quiet header_parts ≡ true
unfolding is_quiet_rule
quiet_header = refl

-- a bracket begins a routine, of all pieces and directives
pub piece_begins : taken grammar known (mark_atom Mark.OpenBracket) (Part.PIECE ∷ []) ≡ taken grammar known (mark_atom Mark.OpenBracket)
    (Part.DIRECTIVE ∷ [])
unfolding grammar known
piece_begins = refl

pub routine_begins : taken grammar known (mark_atom Mark.OpenBracket) (Part.DIRECTIVE ∷
    []) ≡ taken grammar known (mark_atom Mark.OpenBracket)
    routine_parts
unfolding grammar known
routine_begins = refl

pub routine_fits : fits grammar known (mark_atom Mark.OpenBracket) routine_parts ≡ true
unfolding grammar known
routine_fits = refl
