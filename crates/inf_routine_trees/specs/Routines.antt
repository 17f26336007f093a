-- A routine as a tree: its header with the names of its locals, its statements as trees, and its end.
use Rattle.std.specs.Prelude.{◌≡◌, ◌+◌, ◌<◌, List, [], ◌∷◌, ◌++◌, length, Option}
use Rattle.inf_settings.specs.Bounds.{Limits}
use Rattle.inf_machine.specs.{Grammar.Event, Grammar.IsText, declared.symbols.Symbol.Symbol}
use Rattle.inf_syntax.specs.declared.actions.Action.{Action}
use Rattle.inf_syntax.specs.declared.parts.names.TheConstants as Part
use Part.{CLOSE_BRACKET, DIRECTIVE, DIRECTIVE_1, DIRECTIVE_2, DO_END_LOCALS, DO_END_ROUTINE, DO_ROUTINE, NAME, OPEN_BRACKET, SEMICOLON}
use Rattle.inf_grammar.specs.Language.{grammar}
use Rattle.inf_unit.specs.declared.roles.Note.{Note}
use Rattle.inf_compilation.specs.{Actions.Compilation, Context.Context}
use Rattle.inf_reader.specs.Acting.{act}
use Rattle.inf_statement_laws.specs.{Happenings.Between, Laid.next_comes, Readings.Seen, Readings.all_taken}
use Rattle.inf_expression_laws.specs.Gathered.{AreSeen}
use Rattle.inf_language.specs.Texts.{NoneClosesAhead, atoms_of, tokens_of}
use Rattle.inf_trees.specs.Trees.{Noted, Part, Single, parts_told, with_parts}
use Rattle.inf_routine_trees.specs.Bodies.{Tree, TreeWritten, token_done, tree_laid, tree_seen, with_effects}

-- A header: the bracket that begins the routine, its name, the names of its locals, and the semicolon behind them.
pub record Header : Type 0 where
  pub bracket : Seen
  pub name : Seen
  pub locals : List Seen
  pub semicolon : Seen

-- The unit of a header: its bracket, its name, and each name of a local, which is noted as one.
abbrev pub local_parts : List Seen → List Part
local_parts [] = []
local_parts (s ∷ locals) = Single s ∷ Noted Note.Local ∷ local_parts locals

abbrev pub header_parts : Header → List Part
header_parts h = Single h.bracket ∷ Single h.name ∷ local_parts h.locals

-- A routine: its header, its statements, and the bracket and the semicolon at its end.
pub record Routine : Type 0 where
  pub header : Header
  pub body : Tree
  pub closing : Seen
  pub last : Seen

abbrev pub header_seen : Header → List Seen
header_seen h = h.bracket ∷ h.name ∷ (h.locals ++ h.semicolon ∷ [])

abbrev pub routine_seen : Routine → List Seen
routine_seen r = header_seen r.header ++ (tree_seen r.body ++ r.closing ∷ r.last ∷ [])

-- The effect of a header: the reports of its tokens, and its end, with the name and the locals of its unit, before its semicolon.
abbrev pub header_done : Limits → Context → Header → Compilation → Compilation
header_done limits context h w =
    let named = record (parts_told context w.unit (header_parts h) w) { unit = with_parts (header_parts h) w.unit } in
    token_done context h.semicolon (act limits context h.semicolon.token.place Action.EndLocals named)

-- The effect of a routine: its header, its statements, and its end, which acts before the closing bracket.
abbrev pub routine_done : Limits → Context → Routine → Compilation → Compilation
routine_done limits context r w =
    let inside = tree_laid limits context r.body (header_done limits context r.header w) in
    token_done context r.last (token_done context r.closing (act limits context r.closing.token.place Action.EndRoutine inside))

-- a routine with effects of conditional directives behind the ends of its statements
abbrev pub routine_with : List (Option Between) → Routine → Routine
routine_with effects r = record r { body = (with_effects effects r.body).0 }

-- the row of the grammar for a routine
abbrev pub routine_symbols : List (Symbol Action)
routine_symbols =
    DO_ROUTINE ∷ OPEN_BRACKET ∷ NAME ∷ DIRECTIVE_1 ∷ DO_END_LOCALS ∷ SEMICOLON ∷ DIRECTIVE_2 ∷
    DO_END_ROUTINE ∷ CLOSE_BRACKET ∷ SEMICOLON
    ∷ []

-- Tells whether tokens are a routine, and whether taking them, from a bracket that begins a directive, has the effect of the routine,
-- where no statement is closed ahead.
pub record IsRoutine (limits : Limits) (seen : List Seen) : Type 0 where
  pub tree : Routine
  pub same : routine_seen tree ≡ seen
  pub written : TreeWritten tree.body
  pub does : (context : Context) (w : Compilation) → w.closed ≡ 0
      → next_comes (all_taken limits context seen (DIRECTIVE ∷ []) w) ≡ routine_done limits context tree (next_comes w)

-- All tokens that are a text of a routine are one. Each that has the atom of a mark is that mark, there are few enough of them for their
-- orders to differ, and no conditional directive closes statements ahead between them.
abbrev pub RoutinesAreTrees : Limits → Type 0
RoutinesAreTrees limits =
    (seen : List Seen) (events : List (Event Action)) → IsText grammar routine_symbols (atoms_of seen) events
    → AreSeen (atoms_of seen) (tokens_of seen) → length seen + 1 < 4294967295 → NoneClosesAhead seen → IsRoutine limits seen
