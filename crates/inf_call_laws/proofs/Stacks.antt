-- The stacks of texts that are read by themselves: no end of a routine is to come behind a token, and no statement is over.
use Rattle.std.proofs.Common.{◌≡◌, ℕ, zero, suc, ◌≤◌, List, [], ◌∷◌, ◌++◌, Bool, true, false, ◌&&◌, ◌||◌, ◌==◌, nat_le, refl, ◌∙◌, ap}
use Rattle.std.proofs.Common.{arith, inl, inr}
use Rattle.std.proofs.lemmas.Bool.{agree_below, and_from, and_parts, or_cases}
use Rattle.inf_machine.specs.{Grammar.IsOneOf, Grammar.first, Grammar.later, Machine.chosen, Machine.fits, Machine.taken, Machine.work}
use Rattle.inf_machine.specs.declared.symbols.Symbol.{Symbol}
use Rattle.inf_machine.proofs.Taking.{chosen_less}
use Rattle.inf_syntax.specs.declared.actions.Action.{Action}
use Rattle.inf_grammar.specs.{Evaluated.language_is_decided, Language.grammar, Language.known, Routines.closings, Routines.ends_routine}
use Rattle.inf_grammar.specs.Routines.{is_in_routine}
use Rattle.inf_grammar.proofs.OpenStacks.{chosen_passes, fits_row, left_of, no_step}
use Rattle.inf_trees.proofs.RuleRows.{keeps}
use Rattle.inf_call_laws.specs.Texts.{alone_rules}

-- whether an action ends neither a routine nor a statement
abbrev stays : Action → Bool
stays Action.EndRoutine = false
stays Action.Close = false
stays _ = true

-- The rules of names of locals, of expressions, and of lines of assembly, and those of the texts: none of their rows has such an action
-- behind a token.
abbrev is_quiet : ℕ → Bool
is_quiet rule =
    (rule == 3) || (nat_le 59 rule && nat_le rule 102) || (rule == 115) || (nat_le 149 rule && nat_le rule 159) || nat_le 251 rule

abbrev pub are_quiet : List (Symbol Action) → Bool
are_quiet [] = true
are_quiet (Symbol.Token class ∷ symbols) = are_quiet symbols
are_quiet (Symbol.Act a ∷ symbols) = stays a && are_quiet symbols
are_quiet (Symbol.Rule rule ∷ symbols) = is_quiet rule && are_quiet symbols

-- whether symbols are quiet behind a token, before which any actions come
abbrev are_led : List (Symbol Action) → Bool
are_led [] = false
are_led (Symbol.Token class ∷ symbols) = are_quiet symbols
are_led (Symbol.Act a ∷ symbols) = are_led symbols
are_led (Symbol.Rule rule ∷ symbols) = false

abbrev is_row : List (Symbol Action) → Bool
is_row parts = are_quiet parts || are_led parts

rules_keep : agree_below (keeps is_quiet is_row) (λ rule. true) 256 ≡ true
unfolding grammar
rules_keep = refl

quiet_append : (xs ys : List (Symbol Action)) → are_quiet xs ≡ true → are_quiet ys ≡ true → are_quiet (xs ++ ys) ≡ true
quiet_append [] ys h k = k
quiet_append (Symbol.Token class ∷ xs) ys h k = quiet_append xs ys h k
quiet_append (Symbol.Act a ∷ xs) ys h k =
    let both = and_parts (stays a) (are_quiet xs) h in and_from (stays a) (are_quiet (xs ++ ys)) both.0 (quiet_append xs ys both.1 k)
quiet_append (Symbol.Rule rule ∷ xs) ys h k =
    let both = and_parts (is_quiet rule) (are_quiet xs) h in
    and_from (is_quiet rule) (are_quiet (xs ++ ys)) both.0 (quiet_append xs ys both.1 k)

led_append : (xs ys : List (Symbol Action)) → are_led xs ≡ true → are_quiet ys ≡ true → are_led (xs ++ ys) ≡ true
led_append [] ys h k = cc
led_append (Symbol.Token class ∷ xs) ys h k = quiet_append xs ys h k
led_append (Symbol.Act a ∷ xs) ys h k = led_append xs ys h k
led_append (Symbol.Rule rule ∷ xs) ys h k = cc

-- Lemmas about one token

fewer : (atom rule n : ℕ) (symbols : List (Symbol Action)) → work known atom (Symbol.Rule rule ∷ symbols) ≤ suc n
    → fits grammar known atom (Symbol.Rule rule ∷ symbols) ≡ true → work known atom (chosen grammar known atom rule ++ symbols) ≤ n
fewer atom rule n symbols w f = omega (arith, w, chosen_less grammar known language_is_decided atom rule symbols f)

led_on : (atom n : ℕ) (symbols : List (Symbol Action)) → are_led symbols ≡ true → work known atom symbols ≤ n
    → fits grammar known atom symbols ≡ true → are_quiet (left_of atom n symbols) ≡ true
led_on atom zero symbols h w f = absurd (no_step atom symbols w f)
led_on atom (suc n) [] h w f = cc
led_on atom (suc n) (Symbol.Token class ∷ symbols) h w f = h
led_on atom (suc n) (Symbol.Act a ∷ symbols) h w f = led_on atom n symbols h (omega (arith, w)) f
led_on atom (suc n) (Symbol.Rule rule ∷ symbols) h w f = cc

quiet_on : (atom n : ℕ) (symbols : List (Symbol Action)) → are_quiet symbols ≡ true → work known atom symbols ≤ n
    → fits grammar known atom symbols ≡ true → are_quiet (left_of atom n symbols) ≡ true
quiet_on atom zero symbols h w f = absurd (no_step atom symbols w f)
quiet_on atom (suc n) [] h w f = cc
quiet_on atom (suc n) (Symbol.Token class ∷ symbols) h w f = h
quiet_on atom (suc n) (Symbol.Act a ∷ symbols) h w f =
    quiet_on atom n symbols (and_parts (stays a) (are_quiet symbols) h).1 (omega (arith, w)) f
quiet_on atom (suc n) (Symbol.Rule rule ∷ symbols) h w f =
    let both = and_parts (is_quiet rule) (are_quiet symbols) h in
    let parts : List (Symbol Action) = chosen grammar known atom rule in
    let w' = fewer atom rule n symbols w f in
    let f' = fits_row atom rule symbols f in
    elim (or_cases (are_quiet parts) (are_led parts) (chosen_passes is_quiet is_row rules_keep atom rule symbols both.0 f)) [
      | inl p ↦ quiet_on atom n (parts ++ symbols) (quiet_append parts symbols p both.1) w' f'
      | inr l ↦ led_on atom n (parts ++ symbols) (led_append parts symbols l both.1) w' f'
    ]

pub still_quiet : (atom : ℕ) (symbols : List (Symbol Action)) → are_quiet symbols ≡ true → fits grammar known atom symbols ≡ true
    → are_quiet (taken grammar known atom symbols).left ≡ true
still_quiet atom symbols h f = quiet_on atom (work known atom symbols) symbols h (omega arith) f

-- Lemmas about quiet symbols

no_routine : (a : Action) → stays a ≡ true → ends_routine a ≡ false
no_routine Action.EndRoutine is = cc
no_routine _ is = refl

pub outside : (symbols : List (Symbol Action)) → are_quiet symbols ≡ true → is_in_routine symbols ≡ false
outside [] h = refl
outside (Symbol.Token class ∷ symbols) h = outside symbols h
outside (Symbol.Act a ∷ symbols) h =
    let both = and_parts (stays a) (are_quiet symbols) h in
    ap (λ b. b || is_in_routine symbols) (no_routine a both.0) ∙ outside symbols both.1
outside (Symbol.Rule rule ∷ symbols) h = outside symbols (and_parts (is_quiet rule) (are_quiet symbols) h).1

pub none_over : (symbols : List (Symbol Action)) → are_quiet symbols ≡ true → closings symbols ≡ 0
none_over [] h = refl
none_over (Symbol.Token class ∷ symbols) h = refl
none_over (Symbol.Rule rule ∷ symbols) h = refl
none_over (Symbol.Act Action.Close ∷ symbols) h = cc
none_over (Symbol.Act a ∷ symbols) h = refl

-- Lemmas about the rules

abbrev all_quiet : List ℕ → Bool
all_quiet [] = true
all_quiet (rule ∷ rules) = are_quiet (Symbol.Rule rule ∷ []) && all_quiet rules

quiet_of : (rules : List ℕ) (rule : ℕ) → all_quiet rules ≡ true → IsOneOf rule rules → are_quiet (Symbol.Rule rule ∷ []) ≡ true
quiet_of [] rule all m = elim m [ ]
quiet_of (x ∷ rules) rule all first = (and_parts (are_quiet (Symbol.Rule x ∷ [])) (all_quiet rules) all).0
quiet_of (x ∷ rules) rule all (later m) = quiet_of rules rule (and_parts (are_quiet (Symbol.Rule x ∷ [])) (all_quiet rules) all).1 m

pub alone_is_quiet : (rule : ℕ) → IsOneOf rule alone_rules → are_quiet (Symbol.Rule rule ∷ []) ≡ true
alone_is_quiet rule is = quiet_of alone_rules rule refl is
