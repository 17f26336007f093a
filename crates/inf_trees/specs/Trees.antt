-- The units of a source as trees: tokens by themselves, expressions, and notes behind them. A unit is what its parts make of it, one by
-- one, and its tokens tell what is wrong with them as far as that is seen before the unit is whole.
use Rattle.std.specs.Prelude.{ℕ, List, [], ◌∷◌, ◌++◌, length, false, true, None, Some}
use Rattle.inf_expressions.specs.Sources.{Source}
use Rattle.inf_unit.specs.{Tokens.SourceToken, declared.roles.Note.Note, declared.steps.GatherStep.GatherStep}
use Rattle.inf_unit.specs.Units.{Unit as UnitAtHand, action_gathered, leaf_gathered, long_at, noted, outer_tokens, ruled, stepped, taken}
use Rattle.inf_compilation.specs.{Actions.Compilation, Context.Context, Context.longest}
use Rattle.inf_statement_laws.specs.{Laid.passed, Readings.Seen}
use Rattle.inf_expression_laws.specs.{Gathered.with_source, Precedence.Written}
use Rattle.inf_language.specs.{Constants.brackets_behind, Constants.length_told, Constants.token_told, Texts.atoms_of, Texts.tokens_of}

-- A part of a unit: a token by itself; the tokens of an expression, with the expression that they are, and the level at which its
-- operators bind at least; such tokens whose first ones could as well be something else, a text or a name in brackets, and then the
-- others; the name of a print rule in its brackets; the mark that the token before it is the name of an action; or what stands behind
-- an expression: its end, where another part follows, or what is to be done with it. Where a unit has values one behind the other, as a
-- case, there are also: the mark that the token before it, the word of a statement, is the first value; an expression behind a value and
-- a sign; and the mark that the values before it are joined, two to a range or one to those before it by a comma.
pub data Part : Type 0 where
  Single : (s : Seen) → Part
  Value : (level : ℕ) (tokens : List Seen) (value : Source) → Part
  Doubtful : (level : ℕ) (front tokens : List Seen) (value : Source) → Part
  Ruled : (bracket name closing : Seen) → Part
  Named : Part
  Noted : (n : Note) → Part
  Worded : Part
  Further : (level : ℕ) (tokens : List Seen) (value : Source) → Part
  Joined : (joint : GatherStep) → Part

-- the tokens of a part, and those of a unit
abbrev pub part_seen : Part → List Seen
part_seen (Single s) = s ∷ []
part_seen (Value level tokens value) = tokens
part_seen (Doubtful level front tokens value) = front ++ tokens
part_seen (Ruled bracket name closing) = bracket ∷ name ∷ closing ∷ []
part_seen Named = []
part_seen (Noted n) = []
part_seen Worded = []
part_seen (Further level tokens value) = tokens
part_seen (Joined joint) = []

abbrev pub all_seen : List Part → List Seen
all_seen [] = []
all_seen (p ∷ parts) = part_seen p ++ all_seen parts

-- Definitions of the unit

-- a unit whose next token begins an expression
abbrev pub with_outer : UnitAtHand → UnitAtHand
with_outer u = record u { outer = Some (length u.tokens); is_sure = true }

-- a unit with an expression more, which is gathered by its tokens
abbrev pub with_value : List SourceToken → Source → UnitAtHand → UnitAtHand
with_value tokens value u = record (with_outer u) {
  tokens = u.tokens ++ tokens;
  gathering = with_source (Some (length u.tokens)) u.begun (u.tokens ++ tokens) value u.gathering;
  depth = brackets_behind tokens u.depth;
}

-- A unit with a print rule more. Its name is gathered as an operand in brackets, and no expression is open: where it is a rule of the
-- language, it is no operand.
abbrev pub without_outer : UnitAtHand → UnitAtHand
without_outer u = record u { outer = None; is_sure = false }

abbrev pub with_rule : SourceToken → SourceToken → SourceToken → UnitAtHand → UnitAtHand
with_rule bracket name closing u =
    ruled (taken closing (leaf_gathered (taken name (stepped GatherStep.Bracket (taken bracket (without_outer u))))))

-- a unit in which the word of a statement is a value, and one with an expression more behind others
abbrev pub with_word : UnitAtHand → UnitAtHand
with_word u = leaf_gathered (noted Note.OuterWord u)

abbrev pub with_further : List SourceToken → Source → UnitAtHand → UnitAtHand
with_further tokens value u = record u {
  tokens = u.tokens ++ tokens;
  gathering = with_source u.outer u.begun (u.tokens ++ tokens) value u.gathering;
  depth = brackets_behind tokens u.depth;
}

-- a unit with a part more, and with more parts
abbrev pub with_part : Part → UnitAtHand → UnitAtHand
with_part (Single s) u = taken s.token u
with_part (Value level tokens value) u = with_value (tokens_of tokens) value u
with_part (Doubtful level front tokens value) u = with_value (tokens_of front ++ tokens_of tokens) value u
with_part (Ruled bracket name closing) u = with_rule bracket.token name.token closing.token u
with_part Named u = action_gathered u
with_part (Noted n) u = noted n u
with_part Worded u = with_word u
with_part (Further level tokens value) u = with_further (tokens_of tokens) value u
with_part (Joined joint) u = stepped joint u

abbrev pub with_parts : List Part → UnitAtHand → UnitAtHand
with_parts [] u = u
with_parts (p ∷ parts) u = with_parts parts (with_part p u)

-- Tells whether each expression among the parts is that of its tokens, by the levels of operators. Behind the parts of a unit `u`
-- its tokens and leaves have their places.
abbrev pub AreWritten : UnitAtHand → List Part → Type 0
AreWritten u [] = Unit {0}
AreWritten u (Single s ∷ parts) = AreWritten (taken s.token u) parts
AreWritten u (Value level tokens value ∷ parts) =
    Written level (length u.tokens) (length u.gathering.leaves) (atoms_of tokens) value
    × AreWritten (with_value (tokens_of tokens) value u) parts
AreWritten u (Doubtful level front tokens value ∷ parts) =
    Written level (length u.tokens) (length u.gathering.leaves) (atoms_of (front ++ tokens)) value
    × AreWritten (with_value (tokens_of front ++ tokens_of tokens) value u) parts
AreWritten u (Ruled bracket name closing ∷ parts) = AreWritten (with_rule bracket.token name.token closing.token u) parts
AreWritten u (Named ∷ parts) = AreWritten (action_gathered u) parts
AreWritten u (Noted n ∷ parts) = AreWritten (noted n u) parts
AreWritten u (Worded ∷ parts) = AreWritten (with_word u) parts
AreWritten u (Further level tokens value ∷ parts) =
    Written level (length u.tokens) (length u.gathering.leaves) (atoms_of tokens) value
    × AreWritten (with_further (tokens_of tokens) value u) parts
AreWritten u (Joined joint ∷ parts) = AreWritten (stepped joint u) parts

-- Definitions of the reports of tokens

-- The report of the last token of a unit: one where it is a bracket that is nested too deep, and one where the expression to
-- which it belongs has too many tokens.
abbrev pub told_at : Context → UnitAtHand → SourceToken → Compilation → Compilation
told_at context u t w = token_told context t u.depth (long_at (longest context) u) (outer_tokens u) w

-- The reports of tokens behind a unit, one by one, each with the conditional directives that end behind it.
abbrev pub tokens_told : Context → UnitAtHand → List Seen → Compilation → Compilation
tokens_told context u [] w = w
tokens_told context u (s ∷ seen) w =
    let v = taken s.token u in tokens_told context v seen (passed s.behind (told_at context v s.token w))

-- A unit behind the first tokens of an expression, once it is known that they are those of one; and the report of their number there.
abbrev pub with_front : List SourceToken → UnitAtHand → UnitAtHand
with_front tokens u = record (with_outer u) { tokens = u.tokens ++ tokens; depth = brackets_behind tokens u.depth }

abbrev pub front_told : Context → UnitAtHand → Compilation → Compilation
front_told context u w = length_told context (long_at (longest context) u) (outer_tokens u) w

-- the reports of the tokens of a part, and of those of more parts
abbrev pub part_told : Context → UnitAtHand → Part → Compilation → Compilation
part_told context u (Single s) w = tokens_told context u (s ∷ []) w
part_told context u (Value level tokens value) w = tokens_told context (with_outer u) tokens w
part_told context u (Doubtful level front tokens value) w =
    let v = with_front (tokens_of front) u in
    tokens_told context v tokens (front_told context v (tokens_told context (without_outer u) front w))
part_told context u (Ruled bracket name closing) w = tokens_told context (without_outer u) (bracket ∷ name ∷ closing ∷ []) w
part_told context u Named w = w
part_told context u (Noted n) w = w
part_told context u Worded w = front_told context (noted Note.OuterWord u) w
part_told context u (Further level tokens value) w = tokens_told context u tokens w
part_told context u (Joined joint) w = w

abbrev pub parts_told : Context → UnitAtHand → List Part → Compilation → Compilation
parts_told context u [] w = w
parts_told context u (p ∷ parts) w = parts_told context (with_part p u) parts (part_told context u p w)
