-- The happenings of a text, where conditional directives end between its tokens, are those of its events, with the effects of these behind the
-- ends of statements.
use Rattle.std.proofs.Common.{◌≡◌, ℕ, zero, suc, ◌+◌, ◌-◌, ◌≤◌, List, [], ◌∷◌, Bool, true, false, Option, None, Some, refl, sym, ◌∙◌, ap, arith}
use Rattle.std.specs.Prelude.{if◌then◌else◌}
use Rattle.inf_scanner.specs.declared.tokens.Place.{Place}
use Rattle.inf_machine.specs.Grammar.{Did, Event, Leads, action, here, row, token}
use Rattle.inf_machine.specs.declared.symbols.Symbol.{Symbol}
use Rattle.inf_syntax.specs.declared.actions.Action.{Action}
use Rattle.inf_grammar.specs.{Language.grammar, Routines.closings}
use Rattle.inf_expression_laws.specs.Gathered.{AreSeen}
use Rattle.inf_statement_laws.specs.Happenings.{Acts, Between, Happening, Moment, Takes}
use Rattle.inf_statement_laws.specs.Readings.{Seen, behind_ends, behind_some, behind_token, plainly_at}
use Rattle.inf_language.specs.Texts.{atoms_of, happenings_of, tokens_of}
use Rattle.inf_routine_trees.specs.Bodies.{is_close, later_effects, next_effect}
use Rattle.inf_routine_trees.proofs.Effects.{Effects, ends_at, given}
use Rattle.inf_program.specs.definition.Fronts.{ends_in, later_ends}
use Rattle.inf_turn_laws.specs.{Acted.text_happenings, RoutinePieces.effect_now, RoutinePieces.effects_by, RoutinePieces.merged_by}

same_rest : {x y : ℕ} {xs ys : List ℕ} → x ∷ xs ≡ y ∷ ys → xs ≡ ys
same_rest same = cc

-- Whether an action ends a statement decides how many are over.

close_is : (a : Action) → is_close a ≡ true → a ≡ Action.Close
close_is Action.Close is = refl
close_is _ is = cc

none_over : (a : Action) (symbols : List (Symbol Action)) → is_close a ≡ false → closings (Symbol.Act a ∷ symbols) ≡ 0
none_over Action.Close symbols is = cc
none_over _ symbols is = refl

one_over : (a : Action) (symbols : List (Symbol Action)) → is_close a ≡ true → closings (Symbol.Act a ∷ symbols) ≡ 1 + closings symbols
one_over a symbols is = ap (λ b. closings (Symbol.Act b ∷ symbols)) (close_is a is)

-- Lemmas about ends of statements among happenings

no_ends : (effect : Option Between) (hs : List Happening) → behind_ends effect 0 hs ≡ hs
no_ends None hs = refl
no_ends (Some m) [] = refl
no_ends (Some m) (h ∷ hs) = refl

nothing_behind : (effect : Option Between) (count : ℕ) → behind_ends effect count [] ≡ []
nothing_behind None count = refl
nothing_behind (Some m) count = refl

one_less : (n : ℕ) → suc n - 1 ≡ n
one_less n = omega arith

-- the first of some ends
ends_first : (effect : Option Between) (count : ℕ) (place : Place) (a : Action) (hs : List Happening)
    → behind_ends effect count (Acts (plainly_at place) a ∷ hs)
    ≡ Acts (ends_at (effect_now effect count) (plainly_at place)) a ∷ behind_ends effect (count - 1) hs
ends_first None zero place a hs = refl
ends_first None (suc zero) place a hs = refl
ends_first None (suc (suc count)) place a hs = refl
ends_first (Some m) zero place a hs = ap (λ l. Acts (plainly_at place) a ∷ l) (sym (no_ends (Some m) hs))
ends_first (Some m) (suc zero) place a hs = ap (λ l. Acts (ends_at (Some m) (plainly_at place)) a ∷ l)
    (sym (no_ends (Some m) hs) ∙ ap (λ n. behind_some n m hs) (sym (one_less 0)))
ends_first (Some m) (suc (suc count)) place a hs = ap (λ n. Acts (plainly_at place) a ∷ behind_some n m hs) (sym (one_less (suc count)))

-- before which nothing is over
none_first : (effect : Option Between) (count : ℕ) (h : Happening) (hs : List Happening) → count ≡ 0
    → behind_ends effect count (h ∷ hs) ≡ h ∷ behind_ends effect count hs
none_first effect count h hs e = ap (λ n. behind_ends effect n (h ∷ hs)) e
    ∙ (no_ends effect (h ∷ hs) ∙ (ap (λ l. h ∷ l) (sym (no_ends effect hs)) ∙ ap (λ n. h ∷ behind_ends effect n hs) (sym e)))

given_close : (now : Option Between) (effects : Effects) (at : Moment) (a : Action) (others : List Happening) → is_close a ≡ true
    → given (now ∷ effects) (Acts at a ∷ others) ≡ Acts (ends_at now at) a ∷ given effects others
given_close now effects at a others is =
    ap (λ b. Acts (if b then ends_at now at else at) a ∷ given (if b then effects else now ∷ effects) others) is

given_open : (effects : Effects) (at : Moment) (a : Action) (others : List Happening) → is_close a ≡ false
    → given effects (Acts at a ∷ others) ≡ Acts at a ∷ given effects others
given_open effects at a others is =
    ap (λ b. Acts (if b then ends_at (next_effect effects) at else at) a ∷ given (if b then later_effects effects else effects) others) is

-- Lemmas about the happenings of a text

-- an action before a token
act_by : (b : Bool) (a : Action) (symbols : List (Symbol Action)) (events : List (Event Action)) (counts : List ℕ) (s : Seen)
    (seen : List Seen) (effect : Option Between) (count : ℕ) (hs : List Happening) → is_close a ≡ b → count ≤ closings
    (Symbol.Act a ∷ symbols)
    → ((less : ℕ) → less ≤ closings symbols → behind_ends effect less hs
    ≡ given (effects_by effect less events counts (s ∷ seen)) (happenings_of events (merged_by counts (s ∷ seen))))
    → behind_ends effect count (Acts (plainly_at s.token.place) a ∷ hs)
    ≡ given (effects_by effect count (Did a ∷ events) counts (s ∷ seen)) (happenings_of (Did a ∷ events) (merged_by counts (s ∷ seen)))
act_by true a symbols events counts s seen effect count hs is few on =
    let at = plainly_at s.token.place in
    let now = effect_now effect count in
    let effects = effects_by effect (count - 1) events counts (s ∷ seen) in
    let others = happenings_of events (merged_by counts (s ∷ seen)) in
    let more = one_over a symbols is in
    ends_first effect count s.token.place a hs
    ∙ (ap (λ l. Acts (ends_at now at) a ∷ l) (on (count - 1) (omega (arith, few, more)))
    ∙ (sym (given_close now effects at a others is)
    ∙ ap (λ b. given (if b then now ∷ effects else effects_by effect count events counts (s ∷ seen)) (Acts at a ∷ others)) (sym is)))
act_by false a symbols events counts s seen effect count hs is few on =
    let at = plainly_at s.token.place in
    let now = effect_now effect count in
    let effects = effects_by effect count events counts (s ∷ seen) in
    let others = happenings_of events (merged_by counts (s ∷ seen)) in
    let none = none_over a symbols is in
    let zero_count : count ≡ 0 = omega (arith, few, none) in
    none_first effect count (Acts at a) hs zero_count
    ∙ (ap (λ l. Acts at a ∷ l) (on count (omega (arith, few, none)))
    ∙ (sym (given_open effects at a others is)
    ∙ ap (λ b. given (if b then now ∷ effects_by effect (count - 1) events counts (s ∷ seen) else effects) (Acts at a ∷ others)) (sym is)))

pub text_given : {symbols left : List (Symbol Action)} {atoms : List ℕ} {events : List (Event Action)}
    → (leads : Leads grammar symbols atoms events left) (seen : List Seen) → atoms_of seen ≡ atoms → (effect : Option Between) (count : ℕ)
    → count ≤ closings symbols
    → behind_ends effect count (text_happenings leads seen)
    ≡ given (effects_by effect count events (ends_in leads) seen) (happenings_of events (merged_by (ends_in leads) seen))
text_given here seen are effect count few = nothing_behind effect count
text_given (token h leads) [] are effect count few = cc
text_given (token {symbols = symbols} h leads) (s ∷ seen) are effect count few =
    let first = Takes s.token (behind_token s.directive (closings symbols) s.behind) in
    let hs = behind_ends s.directive (closings symbols) (text_happenings leads seen) in
    let none : count ≡ 0 = omega (arith, few) in
    ap (λ n. behind_ends effect n (first ∷ hs)) none
    ∙ (no_ends effect (first ∷ hs)
    ∙ ap (λ l. first ∷ l) (text_given leads seen (same_rest are) s.directive (closings symbols) (omega arith)))
text_given (action leads) [] are effect count few = nothing_behind effect count
text_given (action {a = a} {symbols = symbols} {events = events} leads) (s ∷ seen) are effect count few =
    act_by (is_close a) a symbols events (ends_in leads) s seen effect count (text_happenings leads (s ∷ seen)) refl few
    (λ less fewer. text_given leads (s ∷ seen) are effect less fewer)
text_given (row is_row free leads) seen are effect count few = text_given leads seen are effect count (omega (arith, few))

-- Lemmas about the tokens with effects behind them

pub merged_by_atoms : (counts : List ℕ) (seen : List Seen) → atoms_of (merged_by counts seen) ≡ atoms_of seen
merged_by_atoms counts [] = refl
merged_by_atoms counts (s ∷ seen) = ap (λ (atoms : List ℕ). s.atom ∷ atoms) (merged_by_atoms (later_ends counts) seen)

pub merged_by_seen : (counts : List ℕ) (seen : List Seen) → AreSeen (atoms_of seen) (tokens_of seen)
    → AreSeen (atoms_of (merged_by counts seen)) (tokens_of (merged_by counts seen))
merged_by_seen counts [] are = tt
merged_by_seen counts (s ∷ seen) are = (are.0, merged_by_seen (later_ends counts) seen are.1)
