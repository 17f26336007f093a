-- The rows of operators: the texts of each of them.
use Rattle.std.proofs.Common.{◌≡◌, ℕ, suc, ◌≤◌, List, [], ◌∷◌, ◌++◌, codes, Bool, true, false, ◌&&◌, bit_and, Some, refl, sym, ◌∙◌, ap}
use Rattle.std.proofs.Common.{subst, arith, get_or}
use Rattle.std.proofs.lemmas.Option.{same_Some}
use Rattle.inf_machine.specs.declared.symbols.Symbol.{Symbol}
use Rattle.inf_machine.specs.Grammar.{Event, IsNext_not, IsText, Took, Did, first, later, has, token, action, row}
use Rattle.inf_machine.proofs.Sets.{has_and, has_zero}
use Rattle.inf_scanner.specs.declared.tokens.Mark.{Mark}
use Rattle.inf_syntax.specs.{Atoms.of_mark, Atoms.of_word, declared.actions.Action.Action}
use Rattle.inf_syntax.specs.declared.parts.names.TheConstants as Part
use Rattle.inf_expressions.specs.{Sources.Suffix, Sources.Two, declared.operators.Binary.Binary, declared.operators.Direction.Direction}
use Rattle.inf_expressions.specs.{declared.operators.Operation.Operation, declared.operators.PropertyPart.PropertyPart}
use Rattle.inf_expressions.specs.{declared.operators.Single.Single, declared.operators.Test.Test, declared.operators.Unary.Unary}
use Rattle.inf_unit.specs.Steps.{step_of}
use Rattle.inf_grammar.specs.Language.{grammar}
use Rattle.inf_expression_laws.specs.Precedence as written
use Rattle.inf_expression_laws.specs.Precedence.{commas, opening_sign}
use Rattle.inf_expression_laws.specs.Precedence.{sign_behind, sign_between, sign_in_front, sign_of_test, sums}
use Rattle.inf_expression_laws.proofs.Built.{State, behind, over_one, over_two, stepped, tested as tested_by, in_front_of}

-- Symbols that an expression of a level begins, and those that may go on with it at its level

abbrev pub begin : ℕ → List (Symbol Action)
begin level = get_or ((Part.EXPRESSION ∷ []) ∷ (Part.ASSIGN ∷ []) ∷ (Part.LOGIC ∷ []) ∷ (Part.NEGATED ∷ [])
    ∷ (Part.SUM ∷ Part.TEST_TAIL ∷ [])
    ∷ (Part.SUM ∷ [])
    ∷ (Part.TERM ∷ [])
    ∷ (Part.BIT ∷ [])
    ∷ (Part.NEG ∷ Part.ARRAY_TAIL ∷ [])
    ∷ (Part.NEG ∷ [])
    ∷ (Part.INC ∷ [])
    ∷ (Part.POST ∷ Part.ADDRESS_TAIL ∷ Part.STEP_TAIL ∷ [])
    ∷ (Part.POST ∷ Part.ADDRESS_TAIL ∷ [])
    ∷ (Part.POST ∷ [])
    ∷ (Part.PRIM ∷ [])
    ∷ []) level []

abbrev pub loop : ℕ → List (Symbol Action)
loop level = get_or ((Part.EXPRESSION_TAIL ∷ []) ∷ [] ∷ (Part.LOGIC_TAIL ∷ []) ∷ [] ∷ [] ∷ (Part.SUM_TAIL ∷ []) ∷ (Part.TERM_TAIL ∷ []) ∷ []
    ∷ (Part.ARRAY_TAIL ∷ [])
    ∷ []
    ∷ []
    ∷ (Part.STEP_TAIL ∷ [])
    ∷ (Part.ADDRESS_TAIL ∷ [])
    ∷ (Part.POST_TAIL ∷ [])
    ∷ []) level []

abbrev pub NotCalled : List ℕ → Type 0
NotCalled rest = IsNext_not opening_sign rest

pub free : (atoms : List ℕ) → IsNext_not 0 atoms
free [] = tt
free (atom ∷ atoms) = has_zero atom

-- Lemmas about tails of a row that are empty
pub no_expression_tail : {K : List (Symbol Action)} {atoms : List ℕ} {events : List (Event Action)} → IsText grammar K atoms events →
    IsText grammar (Part.EXPRESSION_TAIL ∷ K) atoms events
unfolding grammar
no_expression_tail l = row (later first) (free _) l

pub no_logic_tail : {K : List (Symbol Action)} {atoms : List ℕ} {events : List (Event Action)} → IsText grammar K atoms events →
    IsText grammar (Part.LOGIC_TAIL ∷ K) atoms events
unfolding grammar
no_logic_tail l = row (later first) (free _) l

pub no_sum_tail : {K : List (Symbol Action)} {atoms : List ℕ} {events : List (Event Action)} → IsText grammar K atoms events →
    IsText grammar (Part.SUM_TAIL ∷ K) atoms events
unfolding grammar
no_sum_tail l = row (later first) (free _) l

pub no_term_tail : {K : List (Symbol Action)} {atoms : List ℕ} {events : List (Event Action)} → IsText grammar K atoms events →
    IsText grammar (Part.TERM_TAIL ∷ K) atoms events
unfolding grammar
no_term_tail l = row (later first) (free _) l

pub no_array_tail : {K : List (Symbol Action)} {atoms : List ℕ} {events : List (Event Action)} → IsText grammar K atoms events →
    IsText grammar (Part.ARRAY_TAIL ∷ K) atoms events
unfolding grammar
no_array_tail l = row (later first) (free _) l

pub no_step_tail : {K : List (Symbol Action)} {atoms : List ℕ} {events : List (Event Action)} → IsText grammar K atoms events →
    IsText grammar (Part.STEP_TAIL ∷ K) atoms events
unfolding grammar
no_step_tail l = row (later first) (free _) l

pub no_address_tail : {K : List (Symbol Action)} {atoms : List ℕ} {events : List (Event Action)} → IsText grammar K atoms events →
    IsText grammar (Part.ADDRESS_TAIL ∷ K) atoms events
unfolding grammar
no_address_tail l = row (later first) (free _) l

pub no_call_1 : {K : List (Symbol Action)} {atoms : List ℕ} {events : List (Event Action)} → IsText grammar K atoms events →
    IsText grammar (Part.CALL_1 ∷ K) atoms events
unfolding grammar
no_call_1 l = row (later first) (free _) l

pub no_call_2 : {K : List (Symbol Action)} {atoms : List ℕ} {events : List (Event Action)} → IsText grammar K atoms events →
    IsText grammar (Part.CALL_2 ∷ K) atoms events
unfolding grammar
no_call_2 l = row (later first) (free _) l

pub no_tested_1 : {K : List (Symbol Action)} {atoms : List ℕ} {events : List (Event Action)} → IsText grammar K atoms events →
    IsText grammar (Part.TESTED_1 ∷ K) atoms events
unfolding grammar
no_tested_1 l = row (later first) (free _) l

pub no_test_tail : {K : List (Symbol Action)} {atoms : List ℕ} {events : List (Event Action)} → IsText grammar K atoms events →
    IsText grammar (Part.TEST_TAIL ∷ K) atoms events
unfolding grammar
no_test_tail l = row first (free _) (row (later first) (free _) l)

pub no_assign_tail : {K : List (Symbol Action)} {atoms : List ℕ} {events : List (Event Action)} → IsText grammar K atoms events →
    IsText grammar (Part.ASSIGN_TAIL ∷ K) atoms events
unfolding grammar
no_assign_tail l = row first (free _) (row (later first) (free _) l)

pub no_post_tail : {K : List (Symbol Action)} {atoms : List ℕ} {events : List (Event Action)} → NotCalled atoms →
    IsText grammar K atoms events → IsText grammar (Part.POST_TAIL ∷ K) atoms events
unfolding grammar
no_post_tail n l = row (later (later first)) n l

-- Lemmas about signs that are no opening bracket
pub apart : (signs : ℕ) → bit_and signs opening_sign ≡ 0 → (atom : ℕ) → has signs atom ≡ true → has opening_sign atom ≡ false
apart signs e atom h =
    by_both (has signs atom) (has opening_sign atom) h (sym (has_and signs opening_sign atom) ∙ ap (λ set. has set atom) e ∙ has_zero atom)
  where
    by_both : (x y : Bool) → x ≡ true → (x && y) ≡ false → y ≡ false
    by_both true y h n = n
    by_both false y h n = cc

-- Operators between two expressions: the texts of their rows

pub record Between (op : Binary) (level signs : ℕ) : Type 0 where
  pub act : Action
  pub effect : (s : State) → stepped (step_of act) s ≡ record s { sources = over_two (Two op) s.sources }
  pub no_call : bit_and signs opening_sign ≡ 0
  pub enters : (K : List (Symbol Action)) (rest : List ℕ) (events : List (Event Action)) (atom : ℕ) → has signs atom ≡ true →
      IsText grammar (begin (suc level) ++ Symbol.Act act ∷ (loop level ++ K)) rest events →
      IsText grammar (loop level ++ K) (atom ∷ rest) (Took atom ∷ events)
  pub closes : (K : List (Symbol Action)) (rest : List ℕ) (events : List (Event Action)) → (level ≤ 12 → NotCalled rest) →
      IsText grammar K rest events → IsText grammar (loop (suc level) ++ K) rest events

commas_entry : Between Binary.Comma written.commas (of_mark Mark.Comma)
unfolding grammar
commas_entry = record {
  act = Action.Comma;
  effect = λ s. refl;
  no_call = refl;
  enters = λ K rest events atom h l. row first (has_zero atom) (token h l);
  closes = λ K rest events q l. l;
}

and_entry : Between Binary.And written.connections (of_mark Mark.LogicalAnd)
unfolding grammar
and_entry = record {
  act = Action.And;
  effect = λ s. refl;
  no_call = refl;
  enters = λ K rest events atom h l. row first (has_zero atom) (row first (has_zero atom) (token h l));
  closes = λ K rest events q l. l;
}

or_entry : Between Binary.Or written.connections (of_mark Mark.LogicalOr)
unfolding grammar
or_entry = record {
  act = Action.Or;
  effect = λ s. refl;
  no_call = refl;
  enters = λ K rest events atom h l. row first (has_zero atom) (row (later first) (has_zero atom) (token h l));
  closes = λ K rest events q l. l;
}

add_entry : Between (Binary.Operation Operation.Add) written.sums (of_mark Mark.Plus)
unfolding grammar
add_entry = record {
  act = Action.Plus;
  effect = λ s. refl;
  no_call = refl;
  enters = λ K rest events atom h l. row first (has_zero atom) (row first (has_zero atom) (token h l));
  closes = λ K rest events q l. no_term_tail l;
}

subtract_entry : Between (Binary.Operation Operation.Subtract) written.sums (of_mark Mark.Minus)
unfolding grammar
subtract_entry = record {
  act = Action.Minus;
  effect = λ s. refl;
  no_call = refl;
  enters = λ K rest events atom h l. row first (has_zero atom) (row (later first) (has_zero atom) (token h l));
  closes = λ K rest events q l. no_term_tail l;
}

multiply_entry : Between (Binary.Operation Operation.Multiply) written.products (of_mark Mark.Times)
unfolding grammar
multiply_entry = record {
  act = Action.Times;
  effect = λ s. refl;
  no_call = refl;
  enters = λ K rest events atom h l. row first (has_zero atom) (row first (has_zero atom) (token h l));
  closes = λ K rest events q l. l;
}

divide_entry : Between (Binary.Operation Operation.Divide) written.products (of_mark Mark.Divide)
unfolding grammar
divide_entry = record {
  act = Action.Divide;
  effect = λ s. refl;
  no_call = refl;
  enters = λ K rest events atom h l. row first (has_zero atom) (row (later first) (has_zero atom) (token h l));
  closes = λ K rest events q l. l;
}

remainder_entry : Between (Binary.Operation Operation.Remainder) written.products (of_mark Mark.Remainder)
unfolding grammar
remainder_entry = record {
  act = Action.Remainder;
  effect = λ s. refl;
  no_call = refl;
  enters = λ K rest events atom h l. row first (has_zero atom) (row (later (later first)) (has_zero atom) (token h l));
  closes = λ K rest events q l. l;
}

bit_and_entry : Between (Binary.Operation Operation.BitAnd) written.products (of_mark Mark.BitAnd)
unfolding grammar
bit_and_entry = record {
  act = Action.BitAnd;
  effect = λ s. refl;
  no_call = refl;
  enters = λ K rest events atom h l. row first (has_zero atom) (row (later (later (later first))) (has_zero atom) (token h l));
  closes = λ K rest events q l. l;
}

bit_or_entry : Between (Binary.Operation Operation.BitOr) written.products (of_mark Mark.BitOr)
unfolding grammar
bit_or_entry = record {
  act = Action.BitOr;
  effect = λ s. refl;
  no_call = refl;
  enters = λ K rest events atom h l. row first (has_zero atom) (row (later (later (later (later first)))) (has_zero atom) (token h l));
  closes = λ K rest events q l. l;
}

byte_entry : Between (Binary.Operation Operation.Byte) written.entries (of_mark Mark.Arrow)
unfolding grammar
byte_entry = record {
  act = Action.ByteEntry;
  effect = λ s. refl;
  no_call = refl;
  enters = λ K rest events atom h l. row first (has_zero atom) (row first (has_zero atom) (token h l));
  closes = λ K rest events q l. l;
}

word_entry : Between (Binary.Operation Operation.Word) written.entries (of_mark Mark.LongArrow)
unfolding grammar
word_entry = record {
  act = Action.WordEntry;
  effect = λ s. refl;
  no_call = refl;
  enters = λ K rest events atom h l. row first (has_zero atom) (row (later first) (has_zero atom) (token h l));
  closes = λ K rest events q l. l;
}

address_entry : Between (Binary.Property PropertyPart.Address) written.addresses (of_mark Mark.DotAnd)
unfolding grammar
address_entry = record {
  act = Action.MemberAddress;
  effect = λ s. refl;
  no_call = refl;
  enters = λ K rest events atom h l. row first (has_zero atom) (row first (has_zero atom) (token h l));
  closes = λ K rest events q l. no_post_tail (q (omega arith)) l;
}

length_entry : Between (Binary.Property PropertyPart.Length) written.addresses (of_mark Mark.DotHash)
unfolding grammar
length_entry = record {
  act = Action.MemberLength;
  effect = λ s. refl;
  no_call = refl;
  enters = λ K rest events atom h l. row first (has_zero atom) (row (later first) (has_zero atom) (token h l));
  closes = λ K rest events q l. no_post_tail (q (omega arith)) l;
}

value_entry : Between (Binary.Property PropertyPart.Value) written.members (of_mark Mark.Dot)
unfolding grammar
value_entry = record {
  act = Action.Member;
  effect = λ s. refl;
  no_call = refl;
  enters = λ K rest events atom h l. row first (has_zero atom) (token h l);
  closes = λ K rest events q l. l;
}

between_at : {op : Binary} {one other : ℕ × ℕ} → Some one ≡ Some other → Between op one.0 one.1 → Between op other.0 other.1
between_at {op} {one} {other} e b = subst (λ (p : ℕ × ℕ). Between op p.0 p.1) (same_Some one other e) b

pub between_entry : (op : Binary) (level signs : ℕ) → sign_between op ≡ Some (level, signs) → Between op level signs
between_entry Binary.Comma level signs e = between_at e commas_entry
between_entry Binary.And level signs e = between_at e and_entry
between_entry Binary.Or level signs e = between_at e or_entry
between_entry (Binary.Operation Operation.Add) level signs e = between_at e add_entry
between_entry (Binary.Operation Operation.Subtract) level signs e = between_at e subtract_entry
between_entry (Binary.Operation Operation.Multiply) level signs e = between_at e multiply_entry
between_entry (Binary.Operation Operation.Divide) level signs e = between_at e divide_entry
between_entry (Binary.Operation Operation.Remainder) level signs e = between_at e remainder_entry
between_entry (Binary.Operation Operation.BitAnd) level signs e = between_at e bit_and_entry
between_entry (Binary.Operation Operation.BitOr) level signs e = between_at e bit_or_entry
between_entry (Binary.Operation Operation.Byte) level signs e = between_at e byte_entry
between_entry (Binary.Operation Operation.Word) level signs e = between_at e word_entry
between_entry (Binary.Property PropertyPart.Address) level signs e = between_at e address_entry
between_entry (Binary.Property PropertyPart.Length) level signs e = between_at e length_entry
between_entry (Binary.Property PropertyPart.Value) level signs e = between_at e value_entry
between_entry other level signs e = cc

-- Lemmas about operators in front of one expression

pub record InFront (op : Unary) (level signs : ℕ) : Type 0 where
  pub act : Action
  pub effect : (s : State) → stepped (step_of act) s ≡ record s { sources = over_one (in_front_of op) s.sources }
  pub no_loop : loop level ≡ []
  pub enters : (K : List (Symbol Action)) (rest : List ℕ) (events : List (Event Action)) (atom : ℕ) → has signs atom ≡ true →
      IsText grammar (begin level ++ Symbol.Act act ∷ K) rest events → IsText grammar (begin level ++ K) (atom ∷ rest) (Took atom ∷ events)

not_entry : InFront Unary.Not written.denials (of_mark Mark.LogicalNot)
unfolding grammar
not_entry = record {
  act = Action.Not;
  effect = λ s. refl;
  no_loop = refl;
  enters = λ K rest events atom h l. row first (has_zero atom) (token h l);
}

complement_entry : InFront (Unary.Single Single.Complement) written.complements (of_mark Mark.BitNot)
unfolding grammar
complement_entry = record {
  act = Action.BitNot;
  effect = λ s. refl;
  no_loop = refl;
  enters = λ K rest events atom h l. row first (has_zero atom) (token h l);
}

negate_entry : InFront Unary.Negate written.negations (of_mark Mark.Minus)
unfolding grammar
negate_entry = record {
  act = Action.Negate;
  effect = λ s. refl;
  no_loop = refl;
  enters = λ K rest events atom h l. row first (has_zero atom) (token h l);
}

up_entry : InFront (Unary.Before Direction.Up) written.steps_in_front (of_mark Mark.Increment)
unfolding grammar
up_entry = record {
  act = Action.IncrementBefore;
  effect = λ s. refl;
  no_loop = refl;
  enters = λ K rest events atom h l. row first (has_zero atom) (row first (has_zero atom) (token h l));
}

down_entry : InFront (Unary.Before Direction.Down) written.steps_in_front (of_mark Mark.Decrement)
unfolding grammar
down_entry = record {
  act = Action.DecrementBefore;
  effect = λ s. refl;
  no_loop = refl;
  enters = λ K rest events atom h l. row first (has_zero atom) (row (later first) (has_zero atom) (token h l));
}

in_front_at : {op : Unary} {one other : ℕ × ℕ} → Some one ≡ Some other → InFront op one.0 one.1 → InFront op other.0 other.1
in_front_at {op} {one} {other} e b = subst (λ (p : ℕ × ℕ). InFront op p.0 p.1) (same_Some one other e) b

pub in_front_entry : (op : Unary) (level signs : ℕ) → sign_in_front op ≡ Some (level, signs) → InFront op level signs
in_front_entry Unary.Not level signs e = in_front_at e not_entry
in_front_entry (Unary.Single Single.Complement) level signs e = in_front_at e complement_entry
in_front_entry Unary.Negate level signs e = in_front_at e negate_entry
in_front_entry (Unary.Before Direction.Up) level signs e = in_front_at e up_entry
in_front_entry (Unary.Before Direction.Down) level signs e = in_front_at e down_entry
in_front_entry (Unary.Single Single.Parent) level signs e = cc
in_front_entry (Unary.Single Single.Random) level signs e = cc
in_front_entry (Unary.Behind s) level signs e = cc
in_front_entry (Unary.Relative r) level signs e = cc
in_front_entry Unary.Children level signs e = cc
in_front_entry Unary.Call level signs e = cc
in_front_entry Unary.Indirect level signs e = cc

-- Lemmas about operators behind one expression

pub record Behind (op : Unary) (level signs : ℕ) : Type 0 where
  pub act : Action
  pub effect : (s : State) → stepped (step_of act) s ≡ record s { sources = over_one (Suffix op) s.sources }
  pub no_call : bit_and signs opening_sign ≡ 0
  pub enters : (K : List (Symbol Action)) (rest : List ℕ) (events : List (Event Action)) (atom : ℕ) → has signs atom ≡ true →
      IsText grammar (loop level ++ K) rest events → IsText grammar (loop level ++ K) (atom ∷ rest) (Took atom ∷ Did act ∷ events)

up_behind_entry : Behind (Unary.Behind Direction.Up) written.steps_behind (of_mark Mark.Increment)
unfolding grammar
up_behind_entry = record {
  act = Action.IncrementAfter;
  effect = λ s. refl;
  no_call = refl;
  enters = λ K rest events atom h l. row first (has_zero atom) (row first (has_zero atom) (token h (action l)));
}

down_behind_entry : Behind (Unary.Behind Direction.Down) written.steps_behind (of_mark Mark.Decrement)
unfolding grammar
down_behind_entry = record {
  act = Action.DecrementAfter;
  effect = λ s. refl;
  no_call = refl;
  enters = λ K rest events atom h l. row first (has_zero atom) (row (later first) (has_zero atom) (token h (action l)));
}

behind_at : {op : Unary} {one other : ℕ × ℕ} → Some one ≡ Some other → Behind op one.0 one.1 → Behind op other.0 other.1
behind_at {op} {one} {other} e b = subst (λ (p : ℕ × ℕ). Behind op p.0 p.1) (same_Some one other e) b

pub behind_entry : (op : Unary) (level signs : ℕ) → sign_behind op ≡ Some (level, signs) → Behind op level signs
behind_entry (Unary.Behind Direction.Up) level signs e = behind_at e up_behind_entry
behind_entry (Unary.Behind Direction.Down) level signs e = behind_at e down_behind_entry
behind_entry other level signs e = cc

-- Lemmas about tests

pub record Tested (op : Binary) (signs : ℕ) : Type 0 where
  pub act : Action
  pub effect : (s : State) → stepped (step_of act) s ≡ record s { sources = tested_by op s.counts s.sources; counts = behind s.counts }
  pub no_call : bit_and signs opening_sign ≡ 0
  pub enters : (K : List (Symbol Action)) (rest : List ℕ) (events : List (Event Action)) (atom : ℕ) → has signs atom ≡ true →
      IsText grammar (Part.SUM ∷ Part.DO_PART ∷ Part.TESTED_1 ∷ Symbol.Act act ∷ K) rest events →
      IsText grammar (Part.TEST_TAIL ∷ K) (atom ∷ rest) (Took atom ∷ Did Action.Count ∷ events)

equal_entry : Tested (Binary.Test Test.Equal) (of_mark Mark.Equal)
unfolding grammar
equal_entry = record {
  act = Action.Equal;
  effect = λ s. refl;
  no_call = refl;
  enters = λ K rest events atom h l. row first (has_zero atom)
      (row first (has_zero atom) (row first (has_zero atom) (token h (row first (free rest) (action l)))));
}

unequal_entry : Tested (Binary.Fails Test.Equal) (of_mark Mark.NotEqual)
unfolding grammar
unequal_entry = record {
  act = Action.Unequal;
  effect = λ s. refl;
  no_call = refl;
  enters = λ K rest events atom h l. row first (has_zero atom)
      (row first (has_zero atom) (row (later first) (has_zero atom) (token h (row first (free rest) (action l)))));
}

less_entry : Tested (Binary.Test Test.Less) (of_mark Mark.Less)
unfolding grammar
less_entry = record {
  act = Action.Less;
  effect = λ s. refl;
  no_call = refl;
  enters = λ K rest events atom h l. row first (has_zero atom)
      (row first (has_zero atom) (row (later (later first)) (has_zero atom) (token h (row first (free rest) (action l)))));
}

greater_entry : Tested (Binary.Test Test.Greater) (of_mark Mark.Greater)
unfolding grammar
greater_entry = record {
  act = Action.Greater;
  effect = λ s. refl;
  no_call = refl;
  enters = λ K rest events atom h l. row first (has_zero atom)
      (row first (has_zero atom) (row (later (later (later first))) (has_zero atom) (token h (row first (free rest) (action l)))));
}

at_most_entry : Tested (Binary.Test Test.AtMost) (of_mark Mark.LessOrEqual)
unfolding grammar
at_most_entry = record {
  act = Action.LessOrEqual;
  effect = λ s. refl;
  no_call = refl;
  enters = λ K rest events atom h l. row first (has_zero atom)
      (row first (has_zero atom) (row (later (later (later (later first)))) (has_zero atom) (token h (row first (free rest) (action l)))));
}

at_least_entry : Tested (Binary.Test Test.AtLeast) (of_mark Mark.GreaterOrEqual)
unfolding grammar
at_least_entry = record {
  act = Action.GreaterOrEqual;
  effect = λ s. refl;
  no_call = refl;
  enters = λ K rest events atom h l. row first (has_zero atom)
      (row first (has_zero atom) (row (later (later (later (later (later first))))) (has_zero atom)
      (token h (row first (free rest) (action l)))));
}

has_entry : Tested (Binary.Test Test.Has) (of_word (codes "has"))
unfolding grammar
has_entry = record {
  act = Action.Has;
  effect = λ s. refl;
  no_call = refl;
  enters = λ K rest events atom h l. row first (has_zero atom)
      (row first (has_zero atom) (row (later (later (later (later (later (later first)))))) (has_zero atom)
      (token h (row first (free rest) (action l)))));
}

hasnt_entry : Tested (Binary.Fails Test.Has) (of_word (codes "hasnt"))
unfolding grammar
hasnt_entry = record {
  act = Action.HasNot;
  effect = λ s. refl;
  no_call = refl;
  enters = λ K rest events atom h l. row first (has_zero atom)
      (row first (has_zero atom) (row (later (later (later (later (later (later (later first))))))) (has_zero atom)
      (token h (row first (free rest) (action l)))));
}

in_entry : Tested (Binary.Test Test.In) (of_word (codes "in"))
unfolding grammar
in_entry = record {
  act = Action.In;
  effect = λ s. refl;
  no_call = refl;
  enters = λ K rest events atom h l. row first (has_zero atom)
      (row first (has_zero atom) (row (later (later (later (later (later (later (later (later first)))))))) (has_zero atom)
      (token h (row first (free rest) (action l)))));
}

notin_entry : Tested (Binary.Fails Test.In) (of_word (codes "notin"))
unfolding grammar
notin_entry = record {
  act = Action.NotIn;
  effect = λ s. refl;
  no_call = refl;
  enters = λ K rest events atom h l. row first (has_zero atom)
      (row first (has_zero atom) (row (later (later (later (later (later (later (later (later (later first))))))))) (has_zero atom)
      (token h (row first (free rest) (action l)))));
}

ofclass_entry : Tested (Binary.Test Test.OfClass) (of_word (codes "ofclass"))
unfolding grammar
ofclass_entry = record {
  act = Action.OfClass;
  effect = λ s. refl;
  no_call = refl;
  enters = λ K rest events atom h l. row first (has_zero atom)
      (row first (has_zero atom) (row (later (later (later (later (later (later (later (later (later (later first)))))))))) (has_zero atom)
      (token h (row first (free rest) (action l)))));
}

provides_entry : Tested (Binary.Test Test.Provides) (of_word (codes "provides"))
unfolding grammar
provides_entry = record {
  act = Action.Provides;
  effect = λ s. refl;
  no_call = refl;
  enters = λ K rest events atom h l. row first (has_zero atom)
      (row first (has_zero atom) (row (later (later (later (later (later (later (later (later (later (later (later first)))))))))))
      (has_zero atom) (token h (row first (free rest) (action l)))));
}

tested_at : {op : Binary} {signs other_signs : ℕ} → Some signs ≡ Some other_signs → Tested op signs → Tested op other_signs
tested_at {op} {signs} {other_signs} e b = subst (λ s. Tested op s) (same_Some signs other_signs e) b

pub test_entry : (op : Binary) (signs : ℕ) → sign_of_test op ≡ Some signs → Tested op signs
test_entry (Binary.Test Test.Equal) signs e = tested_at e equal_entry
test_entry (Binary.Fails Test.Equal) signs e = tested_at e unequal_entry
test_entry (Binary.Test Test.Less) signs e = tested_at e less_entry
test_entry (Binary.Test Test.Greater) signs e = tested_at e greater_entry
test_entry (Binary.Test Test.AtMost) signs e = tested_at e at_most_entry
test_entry (Binary.Test Test.AtLeast) signs e = tested_at e at_least_entry
test_entry (Binary.Test Test.Has) signs e = tested_at e has_entry
test_entry (Binary.Fails Test.Has) signs e = tested_at e hasnt_entry
test_entry (Binary.Test Test.In) signs e = tested_at e in_entry
test_entry (Binary.Fails Test.In) signs e = tested_at e notin_entry
test_entry (Binary.Test Test.OfClass) signs e = tested_at e ofclass_entry
test_entry (Binary.Test Test.Provides) signs e = tested_at e provides_entry
test_entry other signs e = cc
