-- The trees that units gather of the expressions of a routine, as its tokens are taken and the actions of the grammar are carried out.
use Rattle.std.specs.Prelude.{◌≡◌, ℕ, zero, suc, false, List, [], ◌∷◌, ◌++◌, length, map, if◌then◌else◌}
use Rattle.inf_characters.specs.declared.characters.CharSet.{CharSet}
use Rattle.inf_area.specs.declared.targets.Target.{Target}
use Rattle.inf_expressions.specs.{Rooted.Rooted, Trees.Tree, Units.trees_of, declared.operators.Function.Function}
use Rattle.inf_expressions.specs.{declared.operators.Operand.Operand, declared.operators.Relative.Relative}
use Rattle.inf_expressions.specs.{declared.operators.Single.Single, declared.operators.Unary.Unary, declared.units.Wanted.Wanted}
use Rattle.inf_scanner.specs.{Tokens.next_token, declared.lines.Lines.Lines}
use Rattle.inf_machine.specs.Grammar.{Did}
use Rattle.inf_syntax.specs.declared.actions.Action.{Action}
use Rattle.inf_unit.specs.{Tokens.SourceToken, Tokens.is_end, Units.no_unit}
use Rattle.inf_expression_laws.specs.{Gathered.read_by, Precedence.commas}
use Rattle.inf_veneer_laws.specs.{Events.expression_events, Running.Numbers, Running.operand_in, Running.tree_of}
use Rattle.inf_veneer_laws.specs.Routines.{compare, count_children, find_own, of_class, property_address, property_length}
use Rattle.inf_veneer_laws.specs.Routines.{provides_property, read_property, region, step_byte, step_property, step_word, write_byte}
use Rattle.inf_veneer_laws.specs.Routines.{write_property, write_word}
use Rattle.inf_veneer_laws.specs.Sources.{Ask, Evaluate, Expression, For, If, Name, Number, One, PrintString, Return, ReturnFalse}
use Rattle.inf_veneer_laws.specs.Sources.{ReturnTrue, Routine, Statement, System, Then, Two, While, spelled}

-- The operands of an expression, leaf by leaf: a function of the system is a leaf in front of its argument.

abbrev pub function_operands : Unary → List Operand
function_operands (Unary.Relative Relative.Child) = Operand.Function Function.Child ∷ []
function_operands (Unary.Relative Relative.Sibling) = Operand.Function Function.Sibling ∷ []
function_operands (Unary.Single Single.Parent) = Operand.Function Function.Parent ∷ []
function_operands (Unary.Single Single.Random) = Operand.Function Function.Random ∷ []
function_operands (Unary.Single Single.Complement) = []
function_operands Unary.Children = Operand.Function Function.Children ∷ []
function_operands Unary.Indirect = Operand.Function Function.Indirect ∷ []
function_operands Unary.Negate = []
function_operands Unary.Not = []
function_operands (Unary.Before step) = []
function_operands (Unary.Behind step) = []
function_operands Unary.Call = []

abbrev pub operands_in : (List ℕ → Operand) → Expression → List Operand
operands_in known (Number n) = Operand.Known n ∷ []
operands_in known (Name name) = known name ∷ []
operands_in known (System c) = Operand.Later (Target.System c) ∷ []
operands_in known (One op a) = function_operands op ++ operands_in known a
operands_in known (Two op a b) = operands_in known a ++ operands_in known b

-- the tokens of a text up to its end, of which there are `most` at most
abbrev pub tokens_in : CharSet → ℕ → ℕ → Lines → List ℕ → List SourceToken
tokens_in set limit zero lines text = []
tokens_in set limit (suc most) lines text =
    let r = next_token set limit lines text in
    if is_end r.kind then []
    else record { kind = r.kind; bytes = r.kept.bytes; place = record { file = 0; line = r.line }; is_class = false }
    ∷ tokens_in set limit most r.lines r.rest

abbrev pub text_tokens : CharSet → ℕ → List ℕ → List SourceToken
text_tokens set limit text = tokens_in set limit (length text) (record { line = 1; after_return = false }) text

-- the trees that a unit has gathered once the tokens of an expression are taken by its events
abbrev pub trees_gathered : CharSet → ℕ → (List ℕ → Operand) → Expression → List Tree
trees_gathered set limit known e =
    let u = read_by (Did Action.Outer ∷ expression_events commas e) (text_tokens set limit (spelled commas e)) no_unit in
    map (λ (r : Rooted). r.tree) (trees_of Wanted.Value 0 (operands_in known e) u.gathering.symbols)

abbrev pub GathersOne : CharSet → ℕ → (List ℕ → Operand) → Expression → Type 0
GathersOne set limit known e = trees_gathered set limit known e ≡ tree_of known e ∷ []

-- Of each expression of a statement the tree is gathered.
abbrev pub Gathers : CharSet → ℕ → (List ℕ → Operand) → Statement → Type 0
Gathers set limit known (Evaluate e) = GathersOne set limit known e
Gathers set limit known (Return e) = GathersOne set limit known e
Gathers set limit known ReturnTrue = Unit {0}
Gathers set limit known ReturnFalse = Unit {0}
Gathers set limit known (If e body) = GathersOne set limit known e × Gathers set limit known body
Gathers set limit known (While e body) = GathersOne set limit known e × Gathers set limit known body
Gathers set limit known (For start e step body) =
    GathersOne set limit known start × GathersOne set limit known e × GathersOne set limit known step × Gathers set limit known body
Gathers set limit known (Ask q operands variable) = Unit {0}
Gathers set limit known (PrintString e) = GathersOne set limit known e
Gathers set limit known (Then first second) = Gathers set limit known first × Gathers set limit known second

abbrev pub IsGathered : Routine → Type 0
IsGathered r = (set : CharSet) (limit : ℕ) (numbers : Numbers) → Gathers set limit (operand_in numbers r) r.body

abbrev pub TreesAreGathered : Type 0
TreesAreGathered =
    IsGathered write_byte × IsGathered write_word × IsGathered step_byte × IsGathered step_word × IsGathered count_children
    × IsGathered write_property × IsGathered step_property × IsGathered provides_property × IsGathered property_address
    × IsGathered property_length × IsGathered read_property × IsGathered find_own × IsGathered compare × IsGathered region
    × IsGathered of_class
