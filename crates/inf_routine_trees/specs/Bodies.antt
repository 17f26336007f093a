-- The statements of a routine as trees: each that is one unit with this unit, each that holds others with the units in its brackets and
-- with its body; and cases, among the statements of a routine and of a `switch`, each with its values.
use Rattle.std.specs.Prelude.{◌≡◌, ℕ, ◌+◌, ◌<◌, List, [], ◌∷◌, ◌++◌, length, nat_lt, Bool, true, false, not, ◌&&◌, if◌then◌else◌, Option}
use Rattle.std.specs.Prelude.{Some, None}
use Rattle.inf_scanner.specs.declared.tokens.Place.{Place}
use Rattle.inf_settings.specs.Bounds.{Limits}
use Rattle.inf_machine.specs.Grammar.{Event, IsText}
use Rattle.inf_syntax.specs.{declared.actions.Action.Action}
use Rattle.inf_syntax.specs.declared.parts.names.TheConstants as Part
use Rattle.inf_grammar.specs.Language.{grammar}
use Rattle.inf_unit.specs.Units.{Unit as UnitAtHand, begun, no_unit}
use Rattle.inf_constructs.specs.{Constructs.between, Constructs.opened, declared.constructs.Kind.Kind, declared.constructs.Over.Over}
use Rattle.inf_constructs.specs.declared.constructs.Case.TheVariants as case
use Rattle.inf_compilation.specs.{Actions.Compilation, Actions.took, Context.Context}
use Rattle.inf_reader.specs.Acting.{act}
use Rattle.inf_statement_laws.specs.{Happenings.Between, Happenings.Moment, Happenings.Quiet, Readings.Seen, Readings.plainly_at}
use Rattle.inf_statement_laws.specs.Laid.{ended_as, holding, next_comes, opened_at, passed, run, with_kind_in, with_step_in}
use Rattle.inf_expression_laws.specs.Gathered.{AreSeen}
use Rattle.inf_language.specs.Texts.{atoms_of, happenings_before, tokens_of}
use Rattle.inf_trees.specs.{Room.have_room, Statements.Statement, Statements.statement_done, Statements.with_unit}
use Rattle.inf_trees.specs.Trees.{AreWritten, Part, all_seen, parts_told, with_parts}

-- A unit in brackets. The places of its tokens are by the unit before it: where a token stands between the two, it is counted.
pub record Bracketed : Type 0 where
  pub bracket : Seen
  pub unit : UnitAtHand → List Part
  pub closing : Seen

-- Where a statement that holds others stands: at the top of a routine; in another statement, where it is told at its word that too many
-- stand in one another; or in a `switch`, where its word may be a value, so that this waits for the next token.
pub data Standing : Type 0 where
  AtTop : Standing
  Inner : Standing
  OfSwitch : Standing

-- The ways in which the unit of a case begins: with a unit of its own; with what follows the unit before; or so, with the word of a
-- statement, which is taken where such a statement may stand.
pub data Start : Type 0 where
  WithUnit : Start
  WithNext : Start
  WithWord : (stands : Standing) (word : Seen) → Start

-- Statements one behind the other, or one; or a case, with its values. A statement that holds others begins with its word; behind its end
-- conditional directives may have an effect, where they closed it ahead.
pub data Tree : Type 0 where
  Nothing : Tree
  Then : (first others : Tree) → Tree
  Simple : (statement : UnitAtHand → Statement) (one_by_one : Quiet) → Tree
  Case : (start : Start) (values : UnitAtHand → List Part) (one_by_one : Quiet) (colon : Seen) → Tree
  Block : (brace : Seen) (inside : Tree) (closing : Seen) → Tree
  If : (stands : Standing) (word : Seen) (test : Bracketed) (body : Tree) → Tree
  IfElse : (stands : Standing) (word : Seen) (test : Bracketed) (body : Tree) (joins : Seen) (other : Tree) → Tree
  While : (stands : Standing) (word : Seen) (test : Bracketed) (body : Tree) → Tree
  Do : (stands : Standing) (word : Seen) (body : Tree) (joins : Seen) (test : Bracketed) (semicolon : Seen) → Tree
  For : (stands : Standing) (word bracket : Seen) (start : Option (UnitAtHand → List Part)) (first : Seen)
      (test : Option (UnitAtHand → List Part)) (second : Seen) (step : Option (UnitAtHand → List Part)) (closing : Seen) (body : Tree)
      → Tree
  Objectloop : (stands : Standing) (word : Seen) (loop : Bracketed) (body : Tree) → Tree
  Switch : (stands : Standing) (word : Seen) (value : Bracketed) (brace : Seen) (cases : Tree) (closing : Seen) → Tree
  With : (statement : Tree) (behind : Between) → Tree

-- Definitions of the tokens of trees

abbrev pub statement_seen : Statement → List Seen
statement_seen s = all_seen s.unit ++ s.semicolon ∷ []

abbrev pub bracketed_seen : Bracketed → List Seen
bracketed_seen b = b.bracket ∷ (all_seen (b.unit no_unit) ++ b.closing ∷ [])

-- the tokens of a unit that may be missing
abbrev pub maybe_seen : Option (UnitAtHand → List Part) → List Seen
maybe_seen None = []
maybe_seen (Some unit) = all_seen (unit no_unit)

-- the word with which a case begins, if it is one
abbrev pub start_seen : Start → List Seen
start_seen WithUnit = []
start_seen WithNext = []
start_seen (WithWord stands word) = word ∷ []

abbrev pub tree_seen : Tree → List Seen
tree_seen Nothing = []
tree_seen (Then first others) = tree_seen first ++ tree_seen others
tree_seen (Simple statement one_by_one) = statement_seen (statement no_unit)
tree_seen (Case start values one_by_one colon) = start_seen start ++ (all_seen (values no_unit) ++ colon ∷ [])
tree_seen (Block brace inside closing) = brace ∷ (tree_seen inside ++ closing ∷ [])
tree_seen (If stands word test body) = word ∷ (bracketed_seen test ++ tree_seen body)
tree_seen (IfElse stands word test body joins other) = word ∷ (bracketed_seen test ++ (tree_seen body ++ joins ∷ tree_seen other))
tree_seen (While stands word test body) = word ∷ (bracketed_seen test ++ tree_seen body)
tree_seen (Do stands word body joins test semicolon) =
    word ∷ (tree_seen body ++ joins ∷ (bracketed_seen test ++ semicolon ∷ []))
tree_seen (For stands word bracket start first test second step closing body) =
    word ∷ bracket
    ∷ (maybe_seen start ++ first ∷ (maybe_seen test ++ second ∷ (maybe_seen step ++ closing ∷ tree_seen body)))
tree_seen (Objectloop stands word loop body) = word ∷ (bracketed_seen loop ++ tree_seen body)
tree_seen (Switch stands word value brace cases closing) = word ∷ (bracketed_seen value ++ brace ∷ (tree_seen cases ++ closing ∷ []))
tree_seen (With statement behind) = tree_seen statement

-- Tells whether each expression in trees is that of its tokens, by the levels of operators, whichever unit is before its own.
abbrev pub UnitWritten : (UnitAtHand → List Part) → Type 0
UnitWritten unit = (u : UnitAtHand) → AreWritten (begun u) (unit u)

abbrev pub MaybeWritten : Option (UnitAtHand → List Part) → Type 0
MaybeWritten None = Unit {0}
MaybeWritten (Some unit) = UnitWritten unit

-- Tells whether `count` tokens fit behind a unit: its last token is not still to come, and their orders differ.
abbrev pub fits : ℕ → UnitAtHand → Bool
fits count u = not u.is_over && (not (nat_lt (length u.tokens) u.begun) && nat_lt (length u.tokens + count) 4294967295)

-- number of the tokens of the values of a case
abbrev pub count_of : (UnitAtHand → List Part) → ℕ
count_of values = length (all_seen (values no_unit))

abbrev pub ValuesWritten : (UnitAtHand → List Part) → Type 0
ValuesWritten values = (u : UnitAtHand) → fits (count_of values) u ≡ true → AreWritten u (values u)

abbrev pub TreeWritten : Tree → Type 0
TreeWritten Nothing = Unit {0}
TreeWritten (Then first others) = TreeWritten first × TreeWritten others
TreeWritten (Simple statement one_by_one) = UnitWritten (λ u. (statement u).unit)
TreeWritten (Case start values one_by_one colon) = ValuesWritten values
TreeWritten (Block brace inside closing) = TreeWritten inside
TreeWritten (If stands word test body) = UnitWritten test.unit × TreeWritten body
TreeWritten (IfElse stands word test body joins other) = UnitWritten test.unit × (TreeWritten body × TreeWritten other)
TreeWritten (While stands word test body) = UnitWritten test.unit × TreeWritten body
TreeWritten (Do stands word body joins test semicolon) = TreeWritten body × UnitWritten test.unit
TreeWritten (For stands word bracket start first test second step closing body) =
    MaybeWritten start × (MaybeWritten test × (MaybeWritten step × TreeWritten body))
TreeWritten (Objectloop stands word loop body) = UnitWritten loop.unit × TreeWritten body
TreeWritten (Switch stands word value brace cases closing) = UnitWritten value.unit × TreeWritten cases
TreeWritten (With statement behind) = TreeWritten statement

-- Definitions of the effects of trees

-- a token is taken, with the conditional directives that end behind it
abbrev pub token_done : Context → Seen → Compilation → Compilation
token_done context s w = next_comes (passed s.behind (took context s.token w))

-- the word of a statement that holds others
abbrev pub before_taken : Limits → Context → Standing → Place → Compilation → Compilation
before_taken limits context AtTop place w = w
before_taken limits context Inner place w = act limits context place Action.Deeper w
before_taken limits context OfSwitch place w = act limits context place Action.MaybeDeeper w

abbrev pub word_done : Limits → Context → Standing → Seen → Compilation → Compilation
word_done limits context stands word w = token_done context word (before_taken limits context stands word.token.place w)

-- A unit in brackets, up to its end; the end acts before the closing bracket.
abbrev pub unit_done : Context → Bracketed → Compilation → Compilation
unit_done context b w = let v = token_done context b.bracket w in with_unit context (b.unit v.unit) v

abbrev pub bracketed_done : Limits → Context → Action → Bracketed → Compilation → Compilation
bracketed_done limits context end b w =
    token_done context b.closing (act limits context b.closing.token.place end (unit_done context b w))

-- A unit that may be missing, with its end before a token at a place
abbrev pub maybe_done : Limits → Context → Action → Place → Option (UnitAtHand → List Part) → Compilation → Compilation
maybe_done limits context end place None w = w
maybe_done limits context end place (Some unit) w = act limits context place end (with_unit context (unit w.unit) w)

-- the beginning of a case
abbrev pub started : Limits → Context → Start → Compilation → Compilation
started limits context WithUnit w = record w { unit = begun w.unit }
started limits context WithNext w = w
started limits context (WithWord stands word) w = word_done limits context stands word w

-- the values of a case, behind the unit at hand: where they do not fit behind it, they are read one by one
abbrev pub values_done : Limits → Context → (UnitAtHand → List Part) → Quiet → Compilation → Compilation
values_done limits context values one_by_one w =
    if fits (count_of values) w.unit && have_room limits w.unit (values w.unit)
    then record (parts_told context w.unit (values w.unit) w) { unit = with_parts (values w.unit) w.unit }
    else run limits context one_by_one.all w

-- where a statement is opened that has a unit in brackets behind its word
abbrev pub opening_of : Bracketed → Moment
opening_of b = plainly_at b.bracket.token.place

-- where one is opened whose body follows its word
abbrev pub moment_before : List Seen → Seen → Moment
moment_before [] s = plainly_at s.token.place
moment_before (first ∷ seen) s = plainly_at first.token.place

abbrev pub tree_laid : Limits → Context → Tree → Compilation → Compilation
tree_laid limits context Nothing w = w
tree_laid limits context (Then first others) w = tree_laid limits context others (tree_laid limits context first w)
tree_laid limits context (Simple statement one_by_one) w =
    if have_room limits (begun w.unit) (statement w.unit).unit then statement_done limits context (statement w.unit) w
    else run limits context one_by_one.all w
tree_laid limits context (Case start values one_by_one colon) w =
    let read = values_done limits context values one_by_one (started limits context start w) in
    token_done context colon (act limits context colon.token.place Action.EndCase read)
tree_laid limits context (Block brace inside closing) w =
    token_done context closing (tree_laid limits context inside (token_done context brace w))
tree_laid limits context (If stands word test body) w =
    let v = word_done limits context stands word w in
    let c = opened limits Kind.If v.output in
    ended_as limits (opening_of test) c.0 v.constructs
    (tree_laid limits context body (bracketed_done limits context Action.EndIf test (opened_at context (opening_of test) c v)))
tree_laid limits context (IfElse stands word test body joins other) w =
    let v = word_done limits context stands word w in
    let c = opened limits Kind.If v.output in
    let first =
    tree_laid limits context body (bracketed_done limits context Action.EndIf test (opened_at context (opening_of test) c v)) in
    let joined = between limits c.0 first.output in
    ended_as limits (opening_of test) joined.0 v.constructs
    (tree_laid limits context other (token_done context joins (holding (opening_of test) joined v.constructs first)))
tree_laid limits context (While stands word test body) w =
    let v = word_done limits context stands word w in
    let c = opened limits Kind.While v.output in
    ended_as limits (opening_of test) c.0 v.constructs
    (tree_laid limits context body (bracketed_done limits context Action.EndWhile test (opened_at context (opening_of test) c v)))
tree_laid limits context (Do stands word body joins test semicolon) w =
    let v = word_done limits context stands word w in
    let c = opened limits Kind.Do v.output in
    let first = token_done context joins (tree_laid limits context body (opened_at context (moment_before (tree_seen body) joins) c v)) in
    let joined = between limits c.0 first.output in
    ended_as limits (opening_of test) joined.0 v.constructs
    (token_done context semicolon (bracketed_done limits context Action.EndUntil test
    (holding (opening_of test) joined v.constructs first)))
tree_laid limits context (For stands word bracket start first test second step closing body) w =
    let v = word_done limits context stands word w in
    let at = plainly_at bracket.token.place in
    let c = opened limits Kind.For v.output in
    let started =
    maybe_done limits context Action.EndForStart first.token.place start (token_done context bracket (opened_at context at c v)) in
    let top = between limits c.0 started.output in
    let tested =
    maybe_done limits context Action.EndForTest second.token.place test (token_done context first (holding at top v.constructs started)) in
    let stepped = maybe_done limits context Action.EndForStep closing.token.place step (token_done context second tested) in
    let own = with_step_in stepped.constructs top.0 in
    ended_as limits at own v.constructs
    (tree_laid limits context body (token_done context closing (record stepped { constructs = own ∷ v.constructs })))
tree_laid limits context (Objectloop stands word loop body) w =
    let v = word_done limits context stands word w in
    let c = opened limits (Kind.Objects Over.Nothing 0) v.output in
    let looped =
    act limits context loop.closing.token.place Action.EndObjectloop (unit_done context loop (opened_at context (opening_of loop) c v)) in
    let joined = between limits (with_kind_in looped.constructs c.0) looped.output in
    ended_as limits (opening_of loop) joined.0 v.constructs
    (tree_laid limits context body (token_done context loop.closing (holding (opening_of loop) joined v.constructs looped)))
tree_laid limits context (Switch stands word value brace cases closing) w =
    let v = word_done limits context stands word w in
    let c = opened limits (Kind.Switch case.Nothing false) v.output in
    let read = bracketed_done limits context Action.EndSwitch value (opened_at context (opening_of value) c v) in
    let inside = token_done context closing (tree_laid limits context cases (token_done context brace read)) in
    ended_as limits (opening_of value) (with_kind_in inside.constructs c.0) v.constructs inside
tree_laid limits context (With statement behind) w = passed behind (tree_laid limits context statement w)

-- Definitions of effects behind statements

-- whether an action ends a statement that holds others
abbrev pub is_close : Action → Bool
is_close Action.Close = true
is_close _ = false

-- The effects of conditional directives that close statements ahead, one for each statement that holds others, in the order of their ends:
-- the next one, and those behind it.
abbrev pub next_effect : List (Option Between) → Option Between
next_effect [] = None
next_effect (effect ∷ effects) = effect

abbrev pub later_effects : List (Option Between) → List (Option Between)
later_effects [] = []
later_effects (effect ∷ effects) = effects

abbrev pub with_effect : Option Between → Tree → Tree
with_effect None statement = statement
with_effect (Some behind) statement = With statement behind

-- trees with these effects behind their statements, and the effects that are left
abbrev pub with_effects : List (Option Between) → Tree → Tree × List (Option Between)
with_effects effects Nothing = (Nothing, effects)
with_effects effects (Then first others) =
    let one = with_effects effects first in
    let two = with_effects one.1 others in
    (Then one.0 two.0, two.1)
with_effects effects (Simple statement one_by_one) = (Simple statement one_by_one, effects)
with_effects effects (Case start values one_by_one colon) = (Case start values one_by_one colon, effects)
with_effects effects (Block brace inside closing) = let x = with_effects effects inside in (Block brace x.0 closing, x.1)
with_effects effects (If stands word test body) =
    let x = with_effects effects body in (with_effect (next_effect x.1) (If stands word test x.0), later_effects x.1)
with_effects effects (IfElse stands word test body joins other) =
    let x = with_effects effects body in
    let y = with_effects x.1 other in
    (with_effect (next_effect y.1) (IfElse stands word test x.0 joins y.0), later_effects y.1)
with_effects effects (While stands word test body) =
    let x = with_effects effects body in (with_effect (next_effect x.1) (While stands word test x.0), later_effects x.1)
with_effects effects (Do stands word body joins test semicolon) =
    let x = with_effects effects body in
    (with_effect (next_effect x.1) (Do stands word x.0 joins test semicolon), later_effects x.1)
with_effects effects (For stands word bracket start first test second step closing body) =
    let x = with_effects effects body in
    (with_effect (next_effect x.1) (For stands word bracket start first test second step closing x.0), later_effects x.1)
with_effects effects (Objectloop stands word loop body) =
    let x = with_effects effects body in (with_effect (next_effect x.1) (Objectloop stands word loop x.0), later_effects x.1)
with_effects effects (Switch stands word value brace cases closing) =
    let x = with_effects effects cases in
    (with_effect (next_effect x.1) (Switch stands word value brace x.0 closing), later_effects x.1)
with_effects effects (With statement behind) = let x = with_effects effects statement in (With x.0 behind, x.1)

-- Tells whether tokens are statements as trees, and whether taking them by some events, before another token at a place, lays what the
-- trees lay, where no statement is closed ahead.
pub record AreTrees (limits : Limits) (next : Place) (seen : List Seen) (events : List (Event Action)) : Type 0 where
  pub tree : Tree
  pub same : tree_seen tree ≡ seen
  pub written : TreeWritten tree
  pub does : (context : Context) (w : Compilation) → w.closed ≡ 0 → w.opening ≡ None
      → run limits context (happenings_before next events seen) w ≡ tree_laid limits context tree w

-- Each text of a statement is a tree. Each token that has the atom of a mark is that mark, and there are few enough tokens for their
-- orders to differ.
abbrev pub StatementsAreLaidAsTrees : Limits → Type 0
StatementsAreLaidAsTrees limits =
    (next : Place) (seen : List Seen) (events : List (Event Action)) → IsText grammar (Part.STATEMENT ∷ []) (atoms_of seen) events
    → AreSeen (atoms_of seen) (tokens_of seen) → length seen + 1 < 4294967295 → AreTrees limits next seen events

-- The body of each routine, between its header and its end, is laid as trees.
abbrev pub BodiesAreLaidAsTrees : Limits → Type 0
BodiesAreLaidAsTrees limits =
    (next : Place) (seen : List Seen) (events : List (Event Action)) → IsText grammar (Part.DIRECTIVE_2 ∷ []) (atoms_of seen) events
    → AreSeen (atoms_of seen) (tokens_of seen) → length seen + 1 < 4294967295 → AreTrees limits next seen events
