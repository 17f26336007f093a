-- Laws of expressions: the grammar's actions gather of a text the one expression that the text is.
use Rattle.std.specs.Prelude.{◌≡◌, ℕ, ◌≤◌, ◌<◌, List, [], ◌∷◌, ◌++◌, length, Bool, true, false, ◌||◌, None}
use Rattle.inf_machine.specs.{Grammar.Event, Grammar.IsOneOf, Grammar.IsText, declared.symbols.Symbol.Symbol}
use Rattle.inf_syntax.specs.declared.actions.Action.{Action}
use Rattle.inf_syntax.specs.declared.parts.names.TheConstants as Part
use Part.{AFTER_PRIM, AFTER_UNARY, ASSIGN, BARE_PRIM, BEGINNAME, BRACKETED, CASENAME, CLOSE_PARENTHESIS, COMMA, DO_BRACKET, DO_BRACKETED}
use Part.{DO_COMMA, DO_NAME, DO_NEGATE, DO_OUTER_SURE, DO_TEXT, ENTRY, EXPRESSION, EXPRESSION_TAIL, INNER_OPERATOR, LOGIC, MINUS, NEG}
use Part.{NOTALIAS, OPEN_PARENTHESIS, OPERAND, OPERATOR, OTHER_ASSIGN, OTHER_OPERATOR, OUTER_OPERATOR, PLAIN_PRIM, POST, PREFIXED, PRIM}
use Part.{STEP_PREFIX, TEXT}
use Rattle.inf_expressions.specs.{Judging.root_finding, Rooted.seen, Sources.Source, Sources.found_in, Sources.meant, Units.judged}
use Rattle.inf_expressions.specs.{Units.trees_of, declared.operators.Operand.Operand, declared.units.Wanted.Wanted}
use Rattle.inf_grammar.specs.Language.{grammar}
use Rattle.inf_unit.specs.{Tokens.SourceToken, Units.Unit}
use Rattle.inf_expression_laws.specs.Precedence.{Written, assignments, commas, connections, members, negations, primaries}
use Rattle.inf_expression_laws.specs.Gathered.{AreSeen, read_by, symbols_of, with_source}

-- Symbols of the grammar for an expression, and the level at which it binds at least
pub record Form : Type 0 where
  pub symbols : List (Symbol Action)
  pub level : ℕ

abbrev form : List (Symbol Action) → ℕ → Form
form symbols level = record { symbols = symbols; level = level }

-- The forms of an expression by itself: in brackets and behind `return` and the like, as a value or a condition of a
-- directive, as an operand; as a statement, which begins with a name, another operand, a text or an operator; where a
-- `switch` is over a statement or a case may begin, which separates the operators from those that bind tighter than a sign;
-- and as a thing to be printed, where a name in brackets may be a print rule.
abbrev pub forms : List Form
forms =
    form (EXPRESSION ∷ []) commas
    ∷ form (ASSIGN ∷ []) assignments
    ∷ form (LOGIC ∷ []) connections
    ∷ form (POST ∷ []) members
    ∷ form (PRIM ∷ []) primaries
    ∷ form (ENTRY ∷ []) negations
    ∷ form (BARE_PRIM ∷ []) primaries
    ∷ form (MINUS ∷ BARE_PRIM ∷ DO_NEGATE ∷ []) negations
    ∷ form (NOTALIAS ∷ DO_NAME ∷ AFTER_PRIM ∷ []) assignments
    ∷ form (OTHER_ASSIGN ∷ []) assignments
    ∷ form (BEGINNAME ∷ DO_NAME ∷ AFTER_PRIM ∷ EXPRESSION_TAIL ∷ []) commas
    ∷ form (PLAIN_PRIM ∷ AFTER_PRIM ∷ EXPRESSION_TAIL ∷ []) commas
    ∷ form (BRACKETED ∷ AFTER_PRIM ∷ EXPRESSION_TAIL ∷ []) commas
    ∷ form (PREFIXED ∷ EXPRESSION_TAIL ∷ []) commas
    ∷ form (MINUS ∷ NEG ∷ DO_NEGATE ∷ AFTER_UNARY ∷ EXPRESSION_TAIL ∷ []) commas
    ∷ form (TEXT ∷ DO_OUTER_SURE ∷ DO_TEXT ∷ OPERATOR ∷ EXPRESSION_TAIL ∷ []) commas
    ∷ form (TEXT ∷ DO_OUTER_SURE ∷ DO_TEXT ∷ COMMA ∷ ASSIGN ∷ DO_COMMA ∷ EXPRESSION_TAIL ∷ []) commas
    ∷ form (CASENAME ∷ DO_NAME ∷ []) primaries
    ∷ form (CASENAME ∷ DO_NAME ∷ OPERATOR ∷ EXPRESSION_TAIL ∷ []) commas
    ∷ form (CASENAME ∷ DO_NAME ∷ INNER_OPERATOR ∷ AFTER_UNARY ∷ EXPRESSION_TAIL ∷ []) commas
    ∷ form (CASENAME ∷ DO_NAME ∷ OUTER_OPERATOR ∷ EXPRESSION_TAIL ∷ []) commas
    ∷ form (PLAIN_PRIM ∷ INNER_OPERATOR ∷ AFTER_UNARY ∷ EXPRESSION_TAIL ∷ []) commas
    ∷ form (PLAIN_PRIM ∷ OUTER_OPERATOR ∷ EXPRESSION_TAIL ∷ []) commas
    ∷ form (BRACKETED ∷ INNER_OPERATOR ∷ AFTER_UNARY ∷ EXPRESSION_TAIL ∷ []) commas
    ∷ form (BRACKETED ∷ OUTER_OPERATOR ∷ EXPRESSION_TAIL ∷ []) commas
    ∷ form (MINUS ∷ PRIM ∷ INNER_OPERATOR ∷ DO_NEGATE ∷ AFTER_UNARY ∷ EXPRESSION_TAIL ∷ []) commas
    ∷ form (MINUS ∷ PRIM ∷ DO_NEGATE ∷ OUTER_OPERATOR ∷ EXPRESSION_TAIL ∷ []) commas
    ∷ form (MINUS ∷ MINUS ∷ NEG ∷ DO_NEGATE ∷ DO_NEGATE ∷ AFTER_UNARY ∷ EXPRESSION_TAIL ∷ []) commas
    ∷ form (MINUS ∷ STEP_PREFIX ∷ DO_NEGATE ∷ AFTER_UNARY ∷ EXPRESSION_TAIL ∷ []) commas
    ∷ form (OPERAND ∷ DO_NAME ∷ AFTER_PRIM ∷ []) assignments
    ∷ form (PLAIN_PRIM ∷ AFTER_PRIM ∷ []) assignments
    ∷ form (PREFIXED ∷ []) assignments
    ∷ form (MINUS ∷ NEG ∷ DO_NEGATE ∷ AFTER_UNARY ∷ []) assignments
    ∷ form (TEXT ∷ DO_OUTER_SURE ∷ DO_TEXT ∷ OPERATOR ∷ []) assignments
    ∷ form (OPEN_PARENTHESIS ∷ DO_BRACKET ∷ DO_OUTER_SURE ∷ OTHER_ASSIGN ∷ EXPRESSION_TAIL ∷ DO_BRACKETED ∷
    CLOSE_PARENTHESIS ∷ AFTER_PRIM ∷
    []) assignments
    ∷ form (OPEN_PARENTHESIS ∷ DO_BRACKET ∷ OPERAND ∷ DO_NAME ∷ CLOSE_PARENTHESIS ∷ DO_OUTER_SURE ∷
    DO_BRACKETED ∷ []) primaries
    ∷ form (OPEN_PARENTHESIS ∷ DO_BRACKET ∷ OPERAND ∷ DO_NAME ∷ CLOSE_PARENTHESIS ∷ DO_OUTER_SURE ∷
    DO_BRACKETED ∷ OTHER_OPERATOR ∷ [])
    assignments
    ∷ form (OPEN_PARENTHESIS ∷ DO_BRACKET ∷ OPERAND ∷ DO_NAME ∷ DO_OUTER_SURE ∷ OPERATOR ∷
    EXPRESSION_TAIL ∷ DO_BRACKETED ∷ CLOSE_PARENTHESIS ∷
    AFTER_PRIM ∷ []) assignments
    ∷ form (OPEN_PARENTHESIS ∷ DO_BRACKET ∷ OPERAND ∷ DO_NAME ∷ DO_OUTER_SURE ∷ COMMA ∷ ASSIGN ∷
    DO_COMMA ∷ EXPRESSION_TAIL ∷ DO_BRACKETED ∷
    CLOSE_PARENTHESIS ∷ AFTER_PRIM ∷ []) assignments
    ∷ []

-- The tokens of a text of such a form are an expression by the levels of its operators; and taking them, with the actions
-- of the text, makes the unit gather that expression: its leaves by their tokens, its symbols, each operator behind its
-- parts, and its first token. The tokens of a unit are few enough for their orders to differ.
abbrev pub ExpressionsAreRead : Type 0
ExpressionsAreRead =
    (symbols : List (Symbol Action)) (level : ℕ) → IsOneOf (form symbols level) forms →
    (atoms : List ℕ) (events : List (Event Action)) → IsText grammar symbols atoms events →
    (u : Unit) (tokens : List SourceToken) → AreSeen atoms tokens → u.is_over ≡ false → u.begun ≤ length u.tokens →
    length (u.tokens ++ tokens) < 4294967295 →
    (a : Source)
    × Written level (length u.tokens) (length u.gathering.leaves) atoms a
    × ((read_by events tokens u).gathering ≡ with_source u.outer u.begun (u.tokens ++ tokens) a u.gathering)
    × ((read_by events tokens u).tokens ≡ u.tokens ++ tokens)

-- Whether a comma in no brackets joins the expressions around it: between the values of a case it does not.
abbrev pub joins_commas : Wanted → Bool
joins_commas Wanted.Case = false
joins_commas _ = true

-- The symbols of an expression make its tree, of the trees of its parts, and give the least of its faults.
abbrev pub SymbolsComeToTheirTree : Type 0
SymbolsComeToTheirTree =
    (w : Wanted) (in_brackets : Bool) (unit : ℕ) (operands : List Operand) (level order place : ℕ) (atoms : List ℕ) (a : Source) →
    Written level order place atoms a → (in_brackets || joins_commas w) ≡ true →
    (trees_of w unit operands (symbols_of in_brackets a) ≡ meant operands a ∷ [])
    × (judged w unit operands (symbols_of in_brackets a) ≡ root_finding w unit (seen (meant operands a)) (found_in unit operands a None))

-- Every expression by the levels of its operators is a text of the grammar's rule of expressions.
abbrev pub ExpressionsAreTexts : Type 0
ExpressionsAreTexts =
    (order place : ℕ) (atoms : List ℕ) (a : Source) → Written commas order place atoms a →
    (events : List (Event Action)) × IsText grammar (EXPRESSION ∷ []) atoms events

-- No tokens are two expressions.
abbrev pub TextsAreOneExpression : Type 0
TextsAreOneExpression =
    (level order place : ℕ) (atoms : List ℕ) (a b : Source) → Written level order place atoms a → Written level order place atoms b → a ≡ b
