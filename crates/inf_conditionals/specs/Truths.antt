-- Whether a condition is true, token by token: the numbers of its expressions so far take the place of its trees. Tokens and actions that
-- no condition has make it odd.
use Rattle.std.specs.Prelude.{ℕ, ◌==◌, List, [], ◌∷◌, drop, reverse, take, Bool, true, false, not, ◌||◌, if◌then◌else◌, is_none, Option}
use Rattle.std.specs.Prelude.{Some, None}
use Rattle.inf_scanner.specs.declared.tokens.Place.{Place}
use Rattle.inf_machine.specs.{Machine.taken as read, declared.symbols.Symbol.Symbol}
use Rattle.inf_syntax.specs.declared.actions.Action.{Action}
use Rattle.inf_grammar.specs.Language.{grammar, known}
use Rattle.inf_expressions.specs.declared.{operators.Binary.Binary, operators.Operand.Operand, operators.Test.Test, operators.Unary.Unary}
use Rattle.inf_gathering.specs.Gatherings.{latest, one_more}
use Rattle.inf_names.specs.Symbols.{Table, no_names}
use Rattle.inf_output.specs.Output.{Out}
use Rattle.inf_operands.specs.Operands.{looked_action, system_operand}
use Rattle.inf_unit.specs.{Roles.role_of, Tokens.SourceToken, Tokens.atom_of, Tokens.name_of, Units.bytes_of, Units.leaf_of}
use Rattle.inf_unit.specs.declared.{roles.Note.Note, roles.Role.Role, steps.GatherStep.GatherStep}
use Rattle.inf_conditionals.specs.{Condition.condition_begun, Operands.leaf_operand, Values.is_then, Values.single_value, Values.tested}
use Rattle.inf_conditionals.specs.Values.{two_value}

-- The numbers of parts of the open lists and the values of the expressions, the latest first; the new actions; and whether the condition
-- cannot be true any more, and whether something in it is odd.
pub record Truth : Type 0 where
  pub counts : List ℕ
  pub values : List (Option ℕ)
  pub ahead : Table Place
  pub is_false : Bool
  pub is_odd : Bool

abbrev pub no_truth : Truth
no_truth = record { counts = []; values = []; ahead = no_names false; is_false = false; is_odd = false }

-- the truth is not known: nothing is kept of it
abbrev pub odd : Truth → Truth
odd t = record t { counts = []; values = []; is_odd = true }

-- the value of an operator, in place of those of its parts: where it is not known, the condition cannot be true any more
abbrev pub with_value : Option ℕ → List (Option ℕ) → Truth → Truth
with_value v values t = record t { values = v ∷ values; is_false = t.is_false || is_none v }

-- the number that an operand is, if it is one
abbrev pub number_in : Operand → Option ℕ
number_in (Operand.Known n) = Some n
number_in o = None

-- Tells whether no condition is true that has a leaf with this operand.
abbrev pub is_never : Operand → Bool
is_never (Operand.Known n) = false
is_never (Operand.Later target) = false
is_never o = true

abbrev pub with_leaf : Operand → Truth → Truth
with_leaf o t = record t { values = number_in o ∷ t.values; is_false = t.is_false || is_never o }

abbrev pub single_taken : Unary → List (Option ℕ) → Truth → Truth
single_taken op [] t = odd t
single_taken op (a ∷ values) t = with_value (single_value op a) values t

abbrev pub two_taken : Binary → List (Option ℕ) → Truth → Truth
two_taken op (b ∷ a ∷ values) t = if is_then op then odd t else with_value (two_value op a b) values t
two_taken op _ t = odd t

-- a test against these parts of a list, or one that has to fail, of the latest value before them
abbrev pub tested_behind : Bool → Test → List (Option ℕ) → List (Option ℕ) → Truth → Truth
tested_behind sense test [] parts t = odd t
tested_behind sense test (a ∷ values) parts t = with_value (tested sense test a parts) values t

abbrev pub test_of : Bool → Test → ℕ → Truth → Truth
test_of sense test count t = if count == 0 then odd t else tested_behind sense test (drop count t.values) (reverse (take count t.values)) t

abbrev pub test_taken : Binary → ℕ → Truth → Truth
test_taken (Binary.Test test) count t = test_of true test count t
test_taken (Binary.Fails test) count t = test_of false test count t
test_taken op count t = odd t

-- a call of the latest value before its arguments
abbrev pub called_behind : List (Option ℕ) → Truth → Truth
called_behind [] t = odd t
called_behind (a ∷ values) t = with_value None values t

abbrev pub without_list : Truth → Truth
without_list t = record t { counts = drop 1 t.counts }

-- the operand of a token that is a leaf: that of a unit of this token alone
abbrev pub token_operand : ℕ → Out → SourceToken → Operand
token_operand declared o token = leaf_operand declared o.names o.code.scale (token ∷ []) (leaf_of 0 token.kind)

abbrev pub action_taken : Table Place × Operand → Truth → Truth
action_taken s t = with_leaf s.1 (record t { ahead = s.0 })

-- a step by which a unit gathers, behind a token
abbrev pub stepped_behind : ℕ → Out → SourceToken → GatherStep → Truth → Truth
stepped_behind declared o token GatherStep.Leaf t = with_leaf (token_operand declared o token) t
stepped_behind declared o token GatherStep.Action t = action_taken (looked_action (name_of token) o t.ahead) t
stepped_behind declared o token GatherStep.System t = with_leaf (system_operand (bytes_of (name_of token)) o.code.scale) t
stepped_behind declared o token (GatherStep.Prefix op) t = single_taken op t.values t
stepped_behind declared o token (GatherStep.Suffix op) t = single_taken op t.values t
stepped_behind declared o token (GatherStep.Two op) t = two_taken op t.values t
stepped_behind declared o token GatherStep.Comma t = two_taken Binary.Comma t.values t
stepped_behind declared o token GatherStep.List t = record t { counts = 0 ∷ t.counts }
stepped_behind declared o token GatherStep.Part t = record t { counts = one_more t.counts }
stepped_behind declared o token GatherStep.Call t = without_list (called_behind (drop (latest t.counts) t.values) t)
stepped_behind declared o token (GatherStep.Test op) t = without_list (test_taken op (latest t.counts) t)
stepped_behind declared o token GatherStep.Bracket t = t
stepped_behind declared o token GatherStep.Bracketed t = t

abbrev pub stepped : ℕ → Out → Option SourceToken → GatherStep → Truth → Truth
stepped declared o None step t = odd t
stepped declared o (Some token) step t = stepped_behind declared o token step t

-- Tells whether a note changes nothing that is gathered.
abbrev pub is_plain : Note → Bool
is_plain (Note.Outer is_sure) = true
is_plain Note.OuterWord = true
is_plain Note.OuterSure = true
is_plain Note.OuterEnd = true
is_plain _ = false

abbrev pub noted : Note → Truth → Truth
noted note t = if is_plain note then t else odd t

abbrev pub played : ℕ → Out → Option SourceToken → Role → Truth → Truth
played declared o last (Role.Gather step) t = stepped declared o last step t
played declared o last (Role.Note note) t = noted note t
played declared o last _ t = t

-- an action behind the last token; behind one that is odd nothing is done
abbrev pub acted : ℕ → Out → Option SourceToken → Action → Truth → Truth
acted declared o last a t = if t.is_odd then t else played declared o last (role_of a) t

abbrev pub all_acted : ℕ → Out → Option SourceToken → List Action → Truth → Truth
all_acted declared o last [] t = t
all_acted declared o last (a ∷ actions) t = all_acted declared o last actions (acted declared o last a t)

-- A reading: the rest of the directive, the last token, and the truth so far.
pub record Reading : Type 0 where
  pub stack : List (Symbol Action)
  pub last : Option SourceToken
  pub truth : Truth

abbrev pub reading_begun : Reading
reading_begun = record { stack = condition_begun.stack; last = None; truth = no_truth }

abbrev pub reading_took : ℕ → Out → SourceToken → Reading → Reading
reading_took declared o t r =
    let n = read grammar known (atom_of t) r.stack in
    record { stack = n.left; last = Some t; truth = all_acted declared o r.last n.actions r.truth }

abbrev pub all_read : ℕ → Out → List SourceToken → Reading → Reading
all_read declared o [] r = r
all_read declared o (t ∷ tokens) r = all_read declared o tokens (reading_took declared o t r)

-- the truth at the end, by the values of the expressions: where there is none it is not known
abbrev pub truth_by : List (Option ℕ) → Option Bool
truth_by ((Some n) ∷ []) = Some (not (n == 0))
truth_by (None ∷ []) = Some false
truth_by _ = None

abbrev pub truth_in : Truth → Option Bool
truth_in t = if t.is_odd then None else if t.is_false then Some false else truth_by t.values

abbrev pub truth_of : ℕ → Out → List SourceToken → Option Bool
truth_of declared o tokens = truth_in (all_read declared o tokens reading_begun).truth
