-- Behind a `#` the stack of a condition goes on with a token and an action, whatever its condition is: by evaluation of the grammar's rows.
use Rattle.std.proofs.lemmas.Bool.{agree_below, and_from, and_parts}
use Rattle.std.proofs.Common.{Bool, List, [], ap, append-nil, arith, false, nat_le, not, refl, subst, suc, true, zero, ℕ, ◌&&◌, ◌++◌, ◌==◌}
use Rattle.std.proofs.Common.{◌||◌, ◌∙◌, ◌∷◌, ◌≡◌, ◌≤◌}
use Rattle.inf_scanner.specs.declared.tokens.Mark.{Mark}
use Rattle.inf_machine.specs.{Grammar.has, Machine.chosen, Machine.fits, Machine.taken, Machine.work, Pieces.all_rows}
use Rattle.inf_machine.specs.declared.symbols.Symbol.{Symbol}
use Rattle.inf_machine.proofs.Taking.{chosen_less}
use Rattle.inf_syntax.specs.{Atoms.mark_atom, declared.actions.Action.Action}
use Rattle.inf_grammar.specs.{Evaluated.language_is_decided, Language.grammar, Language.known}
use Rattle.inf_grammar.proofs.OpenStacks.{chosen_passes, fits_row, left_of, no_step}

-- the `#` as the grammar sees it, and the classes of tokens that have it
abbrev pub sign : ℕ
sign = mark_atom Mark.Hash

abbrev has_sign : ℕ → Bool
has_sign class = has (grammar.atoms_of class) sign

-- Tells whether a token and an action come first.
abbrev pub is_before_act : List (Symbol Action) → Bool
is_before_act (Symbol.Token class ∷ Symbol.Act a ∷ symbols) = true
is_before_act _ = false

-- Tells whether symbols have no rule of files or pieces, and a `#` only before a token and an action.
abbrev pub is_tame : List (Symbol Action) → Bool
is_tame [] = true
is_tame (Symbol.Token class ∷ symbols) = (not (has_sign class) || is_before_act symbols) && is_tame symbols
is_tame (Symbol.Act a ∷ symbols) = is_tame symbols
is_tame (Symbol.Rule rule ∷ symbols) = nat_le 2 rule && is_tame symbols

-- the same of the symbols behind the first one, where this is a token
abbrev is_tame_behind : List (Symbol Action) → Bool
is_tame_behind (Symbol.Token class ∷ symbols) = is_tame symbols
is_tame_behind symbols = is_tame symbols

-- By evaluation over the table

rows_tame : agree_below (λ rule. not (nat_le 2 rule) || all_rows is_tame (grammar.rows_of rule)) (λ rule. true) 256 ≡ true
unfolding grammar
rows_tame = refl

pieces_tame : agree_below (λ rule. not (rule == 1) || all_rows is_tame_behind (grammar.rows_of rule)) (λ rule. true) 256 ≡ true
unfolding grammar
pieces_tame = refl

-- Tame symbols before others

act_before : (xs ys : List (Symbol Action)) → is_before_act xs ≡ true → is_before_act (xs ++ ys) ≡ true
act_before (Symbol.Token class ∷ Symbol.Act a ∷ xs) ys h = refl
act_before other ys h = cc

or_more : (a b c : Bool) → (b ≡ true → c ≡ true) → (a || b) ≡ true → (a || c) ≡ true
or_more true b c more h = refl
or_more false b c more h = more h

tame_before : (xs ys : List (Symbol Action)) → is_tame xs ≡ true → is_tame ys ≡ true → is_tame (xs ++ ys) ≡ true
tame_before [] ys first second = second
tame_before (Symbol.Token class ∷ xs) ys first second =
    let both = and_parts (not (has_sign class) || is_before_act xs) (is_tame xs) first in
    and_from (not (has_sign class) || is_before_act (xs ++ ys)) (is_tame (xs ++ ys))
    (or_more (not (has_sign class)) (is_before_act xs) (is_before_act (xs ++ ys)) (act_before xs ys) both.0)
    (tame_before xs ys both.1 second)
tame_before (Symbol.Act a ∷ xs) ys first second = tame_before xs ys first second
tame_before (Symbol.Rule rule ∷ xs) ys first second =
    let both = and_parts (nat_le 2 rule) (is_tame xs) first in
    and_from (nat_le 2 rule) (is_tame (xs ++ ys)) both.0 (tame_before xs ys both.1 second)

-- Tokens

-- Symbols are tame, and behind a `#` a token and an action come first.
abbrev Behind : ℕ → List (Symbol Action) → Type 0
Behind atom symbols = (is_tame symbols ≡ true) × (atom ≡ sign → is_before_act symbols ≡ true)

second_holds : (b c : Bool) → b ≡ true → (not b || c) ≡ true → c ≡ true
second_holds true c e h = h
second_holds false c e h = cc

stepped_on : (atom n : ℕ) (symbols : List (Symbol Action)) → is_tame symbols ≡ true → fits grammar known atom symbols ≡ true
    → work known atom symbols ≤ n → Behind atom (left_of atom n symbols)
stepped_on atom zero symbols tame fit few = absurd (no_step atom symbols few fit)
stepped_on atom (suc n) [] tame fit few = cc
stepped_on atom (suc n) (Symbol.Token class ∷ symbols) tame fit few =
    let both = and_parts (not (has_sign class) || is_before_act symbols) (is_tame symbols) tame in (
      both.1,
      λ is. second_holds (has_sign class) (is_before_act symbols) (subst (λ (a : ℕ). has (grammar.atoms_of class) a ≡ true) is fit) both.0,
    )
stepped_on atom (suc n) (Symbol.Act a ∷ symbols) tame fit few = stepped_on atom n symbols tame fit (omega (arith, few))
stepped_on atom (suc n) (Symbol.Rule rule ∷ symbols) tame fit few =
    let both = and_parts (nat_le 2 rule) (is_tame symbols) tame in
    let row = chosen_passes (nat_le 2) is_tame rows_tame atom rule symbols both.0 fit in
    stepped_on atom n (chosen grammar known atom rule ++ symbols) (tame_before (chosen grammar known atom rule) symbols row both.1)
    (fits_row atom rule symbols fit) (omega (arith, few, chosen_less grammar known language_is_decided atom rule symbols fit))

pub taken_tame : (atom : ℕ) (symbols : List (Symbol Action)) → is_tame symbols ≡ true → fits grammar known atom symbols ≡ true
    → Behind atom (taken grammar known atom symbols).left
taken_tame atom symbols tame fit = stepped_on atom (work known atom symbols) symbols tame fit (omega arith)

-- The first token of a piece

abbrev piece : List (Symbol Action)
piece = Symbol.Rule 1 ∷ []

behind_tame : (atom n : ℕ) (symbols : List (Symbol Action)) → is_tame_behind symbols ≡ true → fits grammar known atom symbols ≡ true
    → work known atom symbols ≤ n → is_tame (left_of atom n symbols) ≡ true
behind_tame atom zero symbols tame fit few = absurd (no_step atom symbols few fit)
behind_tame atom (suc n) (Symbol.Token class ∷ symbols) tame fit few = tame
behind_tame atom (suc n) symbols tame fit few = (stepped_on atom (suc n) symbols tame fit few).0

pub begun_tame : (atom : ℕ) → fits grammar known atom piece ≡ true → is_tame (taken grammar known atom piece).left ≡ true
begun_tame atom fit = go (work known atom piece) (omega arith)
  where
    row : List (Symbol Action)
    row = chosen grammar known atom 1

    go : (n : ℕ) → work known atom piece ≤ n → is_tame (left_of atom n piece) ≡ true
    go zero few = absurd (no_step atom piece few fit)
    go (suc n) few = behind_tame atom n (row ++ [])
        (ap is_tame_behind (append-nil row) ∙ chosen_passes (λ rule. rule == 1) is_tame_behind pieces_tame atom 1 [] refl fit)
        (fits_row atom 1 [] fit) (omega (arith, few, chosen_less grammar known language_is_decided atom 1 [] fit))
