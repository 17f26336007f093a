-- The statements of a routine that are one unit, as trees, and their effects as a whole where there is room for all of their parts; and
-- the units in the brackets of statements that hold others.
use Rattle.std.specs.Prelude.{◌≡◌, ℕ, ◌+◌, ◌<◌, List, [], ◌∷◌, ◌++◌, length, codes, Bool, true, false, ◌||◌, None}
use Rattle.inf_scanner.specs.{declared.tokens.Mark.Mark, declared.tokens.Place.Place}
use Rattle.inf_settings.specs.Bounds.{Limits}
use Rattle.inf_machine.specs.{Grammar.Event, Grammar.IsOneOf, Grammar.IsText, Grammar.has, declared.symbols.Symbol.Symbol}
use Rattle.inf_syntax.specs.{Atoms.joined, Atoms.of_mark, Atoms.of_word, declared.actions.Action.Action}
use Rattle.inf_syntax.specs.declared.parts.names.TheConstants as Part
use Part.{CLOSE_BRACE, DO_BEGIN, DO_DEEPER, DO_OUTER, DO_REST, EXPRESSION, FOR_REST, IF_REST, MARK_STATEMENT_1, OBJECTLOOP_REST, OPEN_BRACE}
use Part.{STATEMENT, SWITCH_REST, TOP_ITEM, WHILE_REST, WORD_DO, WORD_FOR, WORD_IF, WORD_OBJECTLOOP, WORD_SWITCH, WORD_WHILE}
use Rattle.inf_grammar.specs.Language.{grammar}
use Rattle.inf_unit.specs.{Tokens.is_mark, Units.Unit as UnitAtHand, Units.begun, Units.over}
use Rattle.inf_compilation.specs.{Actions.Compilation, Context.Context}
use Rattle.inf_parts.specs.Parts.{part_ended, statement_at}
use Rattle.inf_parts.specs.declared.parts.Part.TheVariants as part
use Rattle.inf_statement_laws.specs.{Laid.next_comes, Laid.passed, Laid.run, Readings.Seen}
use Rattle.inf_expression_laws.specs.Gathered.{AreSeen}
use Rattle.inf_language.specs.Texts.{atoms_of, happenings_before, tokens_of}
use Rattle.inf_trees.specs.{Ends.case_first, Room.have_room}
use Rattle.inf_trees.specs.Trees.{AreWritten, Part, all_seen, parts_told, with_parts}

-- a statement that is one unit, and its semicolon
pub record Statement : Type 0 where
  pub unit : List Part
  pub semicolon : Seen

-- The compilation with a unit of some parts, which begins behind the tokens between it and the unit before, and the reports of
-- its tokens.
abbrev pub with_unit : Context → List Part → Compilation → Compilation
with_unit context parts w = record (parts_told context (begun w.unit) parts w) { unit = with_parts parts (begun w.unit) }

-- The effect of a statement: the reports of its tokens, then its end, with its unit, which by its first tokens is one of the
-- statements of the language, and the conditional directives that end behind its semicolon.
abbrev pub statement_done : Limits → Context → Statement → Compilation → Compilation
statement_done limits context s w =
    let ready = with_unit context s.unit w in
    let ended = part_ended limits context s.semicolon.token.place (part.Statement (statement_at ready)) ready in
    next_comes (passed s.semicolon.behind (record ended { unit = over false ready.unit }))

-- Whether tokens begin as a statement of which there may be too many parts: as one that prints or gives things one by one, or as an
-- assembly line.
abbrev pub list_atoms : ℕ
list_atoms = joined (of_word (codes "print") ∷ of_word (codes "print_ret") ∷ of_word (codes "give") ∷ of_mark Mark.At ∷ [])

unfoldable pub is_list_atom : ℕ → Bool
is_list_atom atom = has list_atoms atom

abbrev pub begins_list : List Seen → Bool
begins_list [] = false
begins_list (s ∷ seen) = is_list_atom s.atom || is_mark Mark.At s.token.kind

-- Tells whether tokens behind a unit `u` are a statement that is one unit, whose expressions are those of their tokens by the levels
-- of operators, and whether taking the tokens by some events has the effect of the statement, where there is room for its parts. There is
-- room for those of each statement that does not begin so.
pub record IsStatement (limits : Limits) (u : UnitAtHand) (seen : List Seen) (events : List (Event Action)) : Type 0 where
  pub tree : Statement
  pub same : all_seen tree.unit ++ tree.semicolon ∷ [] ≡ seen
  pub written : AreWritten (begun u) tree.unit
  pub room : begins_list seen ≡ false → have_room limits (begun u) tree.unit ≡ true
  pub does : (context : Context) (next : Place) (w : Compilation) → w.opening ≡ None → have_room limits (begun u) tree.unit ≡ true
      → run limits context (happenings_before next events seen) (record w { unit = u })
      ≡ statement_done limits context tree (record w { unit = u })

-- a block, and the statements that hold others, with what stands before their words
abbrev pub block : List (Symbol Action)
block = OPEN_BRACE ∷ MARK_STATEMENT_1 ∷ CLOSE_BRACE ∷ []

abbrev pub holding : List (Symbol Action) → List (List (Symbol Action))
holding before =
    (before ++ WORD_IF ∷ IF_REST ∷ []) ∷ (before ++ WORD_WHILE ∷ WHILE_REST ∷ []) ∷ (before ++ WORD_DO ∷
    DO_REST ∷ [])
    ∷ (before ++ WORD_FOR ∷ FOR_REST ∷ []) ∷ (before ++ WORD_OBJECTLOOP ∷ OBJECTLOOP_REST ∷ []) ∷
    (before ++ WORD_SWITCH ∷ SWITCH_REST ∷ []) ∷ []

-- Tokens that are a statement of one unit, a block or a statement that holds others; or where `cases` says so a case: the first end of a
-- unit among its events is that of a case.
pub data IsOneUnit (limits : Limits) (before : List (Symbol Action)) (u : UnitAtHand) (seen : List Seen) (events : List (Event Action))
    : (cases : Bool) → Type 0 where
  One : {cases : Bool} → IsStatement limits u seen events → IsOneUnit limits before u seen events cases
  Other : {cases : Bool} (symbols : List (Symbol Action)) → IsOneOf symbols (block ∷ holding before)
      → IsText grammar symbols (atoms_of seen) events → IsOneUnit limits before u seen events cases
  Case : case_first events ≡ true → IsOneUnit limits before u seen events true

-- Each text of a statement, and each item at the top of a routine, is one of these. Each token that has the atom of a mark is that
-- mark, and there are few enough tokens for their orders to differ.
pub record StatementsAreTrees (limits : Limits) : Type 0 where
  pub statements : (u : UnitAtHand) (seen : List Seen) (events : List (Event Action))
      → IsText grammar (STATEMENT ∷ []) (atoms_of seen) events → AreSeen (atoms_of seen) (tokens_of seen)
      → length seen + 1 < 4294967295 → IsOneUnit limits (DO_DEEPER ∷ []) u seen events false
  pub items : (u : UnitAtHand) (seen : List Seen) (events : List (Event Action))
      → IsText grammar (TOP_ITEM ∷ []) (atoms_of seen) events → AreSeen (atoms_of seen) (tokens_of seen)
      → length seen + 1 < 4294967295 → IsOneUnit limits [] u seen events true

-- Tells whether tokens behind a unit `u` are a unit of some parts, and whether taking them by some events reads this unit.
pub record IsBracketed (limits : Limits) (u : UnitAtHand) (seen : List Seen) (events : List (Event Action)) : Type 0 where
  pub parts : List Part
  pub same : all_seen parts ≡ seen
  pub written : AreWritten (begun u) parts
  pub does : (context : Context) (next : Place) (w : Compilation) → w.opening ≡ None
      → run limits context (happenings_before next events seen) (record w { unit = u })
      ≡ with_unit context parts (record w { unit = u })

-- The units in the brackets of `if`, `while`, `until`, `for`, `objectloop` and `switch`, which are an expression each.
abbrev pub BracketedUnitsAreTrees : Limits → Type 0
BracketedUnitsAreTrees limits =
    (u : UnitAtHand) (seen : List Seen) (events : List (Event Action))
    → IsText grammar (DO_BEGIN ∷ DO_OUTER ∷ EXPRESSION ∷
    []) (atoms_of seen) events → AreSeen (atoms_of seen) (tokens_of seen)
    → length seen + 1 < 4294967295 → IsBracketed limits u seen events
