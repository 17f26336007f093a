-- The symbols and the operands of a condition that is still being read.
use Rattle.std.proofs.Common.{◌≡◌, ◌<◌, ◌+◌, ◌-◌, ℕ, List, [], ◌∷◌, ◌++◌, length, Bool, true, false}
use Rattle.std.proofs.Common.{Option, Some, refl, sym, ap, ◌∙◌, arith, slice_get}
use Rattle.std.proofs.Math.ListN.{get_or-append}
use Rattle.std.proofs.Math.Seq.{get_or-append_seam}
use Rattle.std.proofs.lemmas.List.{length-append}
use Rattle.inf_scanner.specs.declared.{tokens.Place.Place, tokens.TokenKind.TokenKind}
use Rattle.inf_expressions.specs.Units.{Gathered, acted, gathered, operand_at, with_operand}
use Rattle.inf_expressions.specs.declared.{operators.Operand.Operand, symbols.Symbol.Symbol, units.Wanted.Wanted}
use Rattle.inf_gathering.specs.declared.gathering.Leaf.{Leaf}
use Rattle.inf_names.specs.Symbols.{Table, no_names}
use Rattle.inf_output.specs.Output.{Out}
use Rattle.inf_operands.specs.Operands.{looked_action, system_operand}
use Rattle.inf_unit.specs.{Tokens.SourceToken, Tokens.name_of, Units.bytes_of, Units.leaf_of, Units.name_by, Units.told_leaf}
use Rattle.inf_conditionals.specs.Operands.{bytes_of as bytes_by, leaf_operand, name_operand, operand_behind, operands_from, operands_of}
use Rattle.inf_conditionals.specs.Truths.{token_operand}

-- Symbols whose leaves are there

abbrev pub IsIn : ℕ → Symbol → Type 0
IsIn n (Symbol.Leaf first token leaf) = leaf < n
IsIn n s = Unit {0}

abbrev pub AreIn : ℕ → List Symbol → Type 0
AreIn n [] = Unit {0}
AreIn n (s ∷ symbols) = IsIn n s × AreIn n symbols

one_more_in : (n : ℕ) (s : Symbol) → IsIn n s → IsIn (n + 1) s
one_more_in n (Symbol.Leaf first token leaf) is = omega (arith, is)
one_more_in n (Symbol.Bracketed order) is = tt
one_more_in n (Symbol.Prefix order op) is = tt
one_more_in n (Symbol.Suffix op) is = tt
one_more_in n (Symbol.Two op) is = tt
one_more_in n Symbol.Comma is = tt
one_more_in n (Symbol.List joints) is = tt
one_more_in n (Symbol.Call given) is = tt

pub all_in_more : (n : ℕ) (symbols : List Symbol) → AreIn n symbols → AreIn (n + 1) symbols
all_in_more n [] are = tt
all_in_more n (s ∷ symbols) are = (one_more_in n s are.0, all_in_more n symbols are.1)

pub in_append : (n : ℕ) (xs ys : List Symbol) → AreIn n xs → AreIn n ys → AreIn n (xs ++ ys)
in_append n [] ys are more = more
in_append n (x ∷ xs) ys are more = (are.0, in_append n xs ys are.1 more)

-- Operands that come later change nothing for symbols whose leaves are there.

acted_same : (s : Symbol) (ops more : List Operand) (g : Gathered) → IsIn (length ops) s →
    acted Wanted.Constant 0 (ops ++ more) s g ≡ acted Wanted.Constant 0 ops s g
acted_same (Symbol.Leaf first token leaf) ops more g is =
    ap (λ x. with_operand first token x g) (get_or-append ops more (Operand.Known 0) leaf is)
acted_same (Symbol.Bracketed order) ops more g is = refl
acted_same (Symbol.Prefix order op) ops more g is = refl
acted_same (Symbol.Suffix op) ops more g is = refl
acted_same (Symbol.Two op) ops more g is = refl
acted_same Symbol.Comma ops more g is = refl
acted_same (Symbol.List joints) ops more g is = refl
acted_same (Symbol.Call given) ops more g is = refl

pub gathered_same : (symbols : List Symbol) (ops more : List Operand) (g : Gathered) → AreIn (length ops) symbols →
    gathered Wanted.Constant 0 (ops ++ more) symbols g ≡ gathered Wanted.Constant 0 ops symbols g
gathered_same [] ops more g are = refl
gathered_same (s ∷ symbols) ops more g are =
    ap (λ (x : Gathered). gathered Wanted.Constant 0 (ops ++ more) symbols x) (acted_same s ops more g are.0)
    ∙ gathered_same symbols ops more (acted Wanted.Constant 0 ops s g) are.1

pub gathered_append : (xs ys : List Symbol) (ops : List Operand) (g : Gathered) →
    gathered Wanted.Constant 0 ops (xs ++ ys) g ≡ gathered Wanted.Constant 0 ops ys (gathered Wanted.Constant 0 ops xs g)
gathered_append [] ys ops g = refl
gathered_append (x ∷ xs) ys ops g = gathered_append xs ys ops (acted Wanted.Constant 0 ops x g)

-- The new actions behind some leaves, and their operands

abbrev pub ahead_behind : ℕ → Out → List SourceToken → List Leaf → Table Place → Table Place
ahead_behind declared o tokens [] ahead = ahead
ahead_behind declared o tokens (l ∷ leaves) ahead = ahead_behind declared o tokens leaves (operand_behind declared o tokens l ahead).0

abbrev pub ahead_of : ℕ → Out → List SourceToken → List Leaf → Table Place
ahead_of declared o tokens leaves = ahead_behind declared o tokens leaves (no_names false)

ahead_from : (declared : ℕ) (o : Out) (tokens : List SourceToken) (leaves : List Leaf) (l : Leaf) (ahead : Table Place) →
    ahead_behind declared o tokens (leaves ++ l ∷ []) ahead
    ≡ (operand_behind declared o tokens l (ahead_behind declared o tokens leaves ahead)).0
ahead_from declared o tokens [] l ahead = refl
ahead_from declared o tokens (x ∷ leaves) l ahead = ahead_from declared o tokens leaves l (operand_behind declared o tokens x ahead).0

pub ahead_more : (declared : ℕ) (o : Out) (tokens : List SourceToken) (leaves : List Leaf) (l : Leaf) →
    ahead_of declared o tokens (leaves ++ l ∷ []) ≡ (operand_behind declared o tokens l (ahead_of declared o tokens leaves)).0
ahead_more declared o tokens leaves l = ahead_from declared o tokens leaves l (no_names false)

more_from : (declared : ℕ) (o : Out) (tokens : List SourceToken) (leaves : List Leaf) (l : Leaf) (ahead : Table Place)
    (ops : List Operand) → operands_from declared o tokens (leaves ++ l ∷ []) ahead ops
    ≡ operands_from declared o tokens leaves ahead ops ++ (operand_behind declared o tokens l
    (ahead_behind declared o tokens leaves ahead)).1 ∷ []
more_from declared o tokens [] l ahead ops = refl
more_from declared o tokens (x ∷ leaves) l ahead ops =
    let s = operand_behind declared o tokens x ahead in more_from declared o tokens leaves l s.0 (ops ++ s.1 ∷ [])

pub operands_more : (declared : ℕ) (o : Out) (tokens : List SourceToken) (leaves : List Leaf) (l : Leaf) →
    operands_of declared o tokens (leaves ++ l ∷ [])
    ≡ operands_of declared o tokens leaves ++ (operand_behind declared o tokens l (ahead_of declared o tokens leaves)).1 ∷ []
operands_more declared o tokens leaves l = more_from declared o tokens leaves l (no_names false) []

count_from : (declared : ℕ) (o : Out) (tokens : List SourceToken) (leaves : List Leaf) (ahead : Table Place) (ops : List Operand) →
    length (operands_from declared o tokens leaves ahead ops) ≡ length ops + length leaves
count_from declared o tokens [] ahead ops = omega (arith)
count_from declared o tokens (x ∷ leaves) ahead ops =
    let s = operand_behind declared o tokens x ahead in
    omega (arith, count_from declared o tokens leaves s.0 (ops ++ s.1 ∷ []), length-append ops (s.1 ∷ []))

pub operands_count : (declared : ℕ) (o : Out) (tokens : List SourceToken) (leaves : List Leaf) →
    length (operands_of declared o tokens leaves) ≡ length leaves
operands_count declared o tokens leaves = omega (arith, count_from declared o tokens leaves (no_names false) [])

-- the operand of one leaf more is the last one
pub last_operand : (ops : List Operand) (x : Operand) (n : ℕ) → length ops ≡ n → operand_at (ops ++ x ∷ []) n ≡ x
last_operand ops x n is = ap (λ i. operand_at (ops ++ x ∷ []) i) (sym is) ∙ get_or-append_seam ops x [] (Operand.Known 0)

-- The operand of a leaf by its token alone

name_alone : (declared : ℕ) (o : Out) (tokens : List SourceToken) (at : ℕ) (t : SourceToken) (is_alone : Bool) →
    slice_get tokens at ≡ Some t → leaf_operand declared o.names o.code.scale tokens (told_leaf is_alone (Leaf.Name at))
    ≡ leaf_operand declared o.names o.code.scale (t ∷ []) (Leaf.Name 0)
name_alone declared o tokens at t true is = ap (λ (x : Option SourceToken). name_operand declared o.names (bytes_by (name_by x))) is
name_alone declared o tokens at t false is = ap (λ (x : Option SourceToken). name_operand declared o.names (bytes_by (name_by x))) is

-- a leaf of a kind at a place, and the same leaf of the token alone
leaf_alone : (declared : ℕ) (o : Out) (tokens : List SourceToken) (at : ℕ) (t : SourceToken) (kind : TokenKind) (is_alone : Bool) →
    slice_get tokens at ≡ Some t → leaf_operand declared o.names o.code.scale tokens (told_leaf is_alone (leaf_of at kind))
    ≡ leaf_operand declared o.names o.code.scale (t ∷ []) (leaf_of 0 kind)
leaf_alone declared o tokens at t (TokenKind.Number n) true is = refl
leaf_alone declared o tokens at t (TokenKind.Number n) false is = refl
leaf_alone declared o tokens at t (TokenKind.Char c) true is = refl
leaf_alone declared o tokens at t (TokenKind.Char c) false is = refl
leaf_alone declared o tokens at t (TokenKind.Word w) true is = refl
leaf_alone declared o tokens at t (TokenKind.Word w) false is = refl
leaf_alone declared o tokens at t TokenKind.Text true is = refl
leaf_alone declared o tokens at t TokenKind.Text false is = refl
leaf_alone declared o tokens at t kind is_alone is = name_alone declared o tokens at t is_alone is

-- the leaf of a token is no action
leaf_plain : (declared : ℕ) (o : Out) (tokens : List SourceToken) (at : ℕ) (kind : TokenKind) (is_alone : Bool) (ahead : Table Place) →
    operand_behind declared o tokens (told_leaf is_alone (leaf_of at kind)) ahead
    ≡ (ahead, leaf_operand declared o.names o.code.scale tokens (told_leaf is_alone (leaf_of at kind)))
leaf_plain declared o tokens at (TokenKind.Number n) true ahead = refl
leaf_plain declared o tokens at (TokenKind.Number n) false ahead = refl
leaf_plain declared o tokens at (TokenKind.Char c) true ahead = refl
leaf_plain declared o tokens at (TokenKind.Char c) false ahead = refl
leaf_plain declared o tokens at (TokenKind.Word w) true ahead = refl
leaf_plain declared o tokens at (TokenKind.Word w) false ahead = refl
leaf_plain declared o tokens at TokenKind.Text true ahead = refl
leaf_plain declared o tokens at TokenKind.Text false ahead = refl
leaf_plain declared o tokens at kind true ahead = refl
leaf_plain declared o tokens at kind false ahead = refl

pub leaf_is : (declared : ℕ) (o : Out) (tokens : List SourceToken) (at : ℕ) (t : SourceToken) (is_alone : Bool) (ahead : Table Place) →
    slice_get tokens at ≡ Some t → operand_behind declared o tokens (told_leaf is_alone (leaf_of at t.kind)) ahead
    ≡ (ahead, token_operand declared o t)
leaf_is declared o tokens at t is_alone ahead is = leaf_plain declared o tokens at t.kind is_alone ahead
    ∙ ap (λ (x : Operand). (ahead, x)) (leaf_alone declared o tokens at t t.kind is_alone is)

pub action_is : (declared : ℕ) (o : Out) (tokens : List SourceToken) (at : ℕ) (t : SourceToken) (ahead : Table Place) →
    slice_get tokens at ≡ Some t → operand_behind declared o tokens (Leaf.Action at) ahead ≡ looked_action (name_of t) o ahead
action_is declared o tokens at t ahead is = ap (λ (x : Option SourceToken). looked_action (name_by x) o ahead) is

pub system_is : (declared : ℕ) (o : Out) (tokens : List SourceToken) (at : ℕ) (t : SourceToken) (ahead : Table Place) →
    slice_get tokens at ≡ Some t → operand_behind declared o tokens (Leaf.System at) ahead
    ≡ (ahead, system_operand (bytes_of (name_of t)) o.code.scale)
system_is declared o tokens at t ahead is = ap (λ (x : Option SourceToken). (ahead, system_operand (bytes_of (name_by x)) o.code.scale)) is
