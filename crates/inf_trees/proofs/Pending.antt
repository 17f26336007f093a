-- The parts of a unit that are open while a unit is read, with its tokens and events.
use Rattle.std.proofs.Common.{◌≡◌, ℕ, List, [], ◌∷◌, ◌++◌, Bool, true, false, refl, sym, subst, append_assoc, append-nil, ◌+◌, is_some}
use Rattle.std.proofs.lemmas.Bool.{and_parts}
use Rattle.std.proofs.lemmas.List.{map-append}
use Rattle.inf_machine.specs.declared.symbols.Symbol.{Symbol}
use Rattle.inf_machine.specs.Grammar.{Did, Event, IsText, Took, action, has, here, token}
use Rattle.inf_syntax.specs.{declared.actions.Action.Action}
use Rattle.inf_syntax.specs.declared.parts.names.TheConstants as Part
use Rattle.inf_grammar.specs.Language.{grammar}
use Rattle.inf_unit.specs.Steps.{step_of}
use Rattle.inf_statement_laws.specs.Readings.{Seen}
use Rattle.inf_expression_laws.proofs.Typed.{Passes, done as passes_done, joined}
use Rattle.inf_expression_laws.proofs.Items.{Item, Whole, Within, bottom}
use Rattle.inf_language.specs.{Texts.atoms_of, Units.AllSteps}
use Rattle.inf_trees.proofs.{PrintRules.rule_events, UnitsRead.HasForm}
use Rattle.inf_trees.proofs.UnitStates.{Ended, Free, Lead, Lost, Never, Open, Ruling, State, Worded, all_steps}

-- Tokens and actions, one by one

pub data Leaves : List (Symbol Action) → List ℕ → List (Event Action) → Type 0 where
  NoLeaf : Leaves [] [] []
  ALeaf : {class atom : ℕ} {symbols : List (Symbol Action)} {atoms : List ℕ} {events : List (Event Action)}
      → has (grammar.atoms_of class) atom ≡ true → Leaves symbols atoms events
      → Leaves (Symbol.Token class ∷ symbols) (atom ∷ atoms) (Took atom ∷ events)
  AnAct : {a : Action} {symbols : List (Symbol Action)} {atoms : List ℕ} {events : List (Event Action)} → Leaves symbols atoms events
      → Leaves (Symbol.Act a ∷ symbols) atoms (Did a ∷ events)

pub leaves_text : {symbols : List (Symbol Action)} {atoms : List ℕ} {events : List (Event Action)} → Leaves symbols atoms events
    → IsText grammar symbols atoms events
leaves_text NoLeaf = here
leaves_text (ALeaf h leaves) = token h (leaves_text leaves)
leaves_text (AnAct leaves) = action (leaves_text leaves)

pub leaves_behind : {xs ys : List (Symbol Action)} {front rest : List ℕ} {early late : List (Event Action)} → Leaves xs front early
    → Leaves ys rest late → Leaves (xs ++ ys) (front ++ rest) (early ++ late)
leaves_behind NoLeaf others = others
leaves_behind (ALeaf h leaves) others = ALeaf h (leaves_behind leaves others)
leaves_behind (AnAct leaves) others = AnAct (leaves_behind leaves others)

pub leaves_of : {xs ys : List (Symbol Action)} (front rest : List Seen) {early late : List (Event Action)}
    → Leaves xs (atoms_of front) early
    → Leaves ys (atoms_of rest) late → Leaves (xs ++ ys) (atoms_of (front ++ rest)) (early ++ late)
leaves_of {xs} {ys} front rest {early} {late} leaves others =
    subst (λ l. Leaves (xs ++ ys) l (early ++ late)) (sym (map-append (λ (s : Seen). s.atom) front rest)) (leaves_behind leaves others)

pub only_leaves : {symbols : List (Symbol Action)} {atoms : List ℕ} {events : List (Event Action)} → Leaves symbols atoms events
    → all_steps symbols ≡ true → AllSteps events
only_leaves NoLeaf all = tt
only_leaves (ALeaf h leaves) all = only_leaves leaves all
only_leaves (AnAct {a} {symbols} leaves) all =
    let both = and_parts (is_some (step_of a)) (all_steps symbols) all in (both.0, only_leaves leaves both.1)

pub steps_behind : (steps late : List (Event Action)) → AllSteps steps → AllSteps late → AllSteps (steps ++ late)
steps_behind [] late steps others = others
steps_behind (Did a ∷ events) late steps others = (steps.0, steps_behind events late steps.1 others)
steps_behind (Took atom ∷ events) late steps others = steps_behind events late steps others

-- Expressions that are open

-- tokens and steps of an expression, of which some items were read
pub record Consumed (items : List Item) (tokens : List Seen) (steps : List (Event Action)) : Type 0 where
  pub symbols : List (Symbol Action)
  pub passes : Passes [] symbols items
  pub leaves : Leaves symbols (atoms_of tokens) steps
  pub only : AllSteps steps

pub nothing_consumed : Consumed [] [] []
nothing_consumed = record { symbols = []; passes = passes_done bottom; leaves = NoLeaf; only = tt }

pub widened : {symbols : List (Symbol Action)} {items wide : List Item} → Passes [] symbols items → Within items wide
    → Passes [] symbols wide
widened {symbols} {wide = wide} p w = subst (λ l. Passes [] l wide) (append-nil symbols) (joined p (passes_done w))

module _ {x : Symbol Action} {items now : List Item} (p : Passes items (x ∷ []) now) (seen : List Seen) (events : List (Event Action))
    (leaves : Leaves (x ∷ []) (atoms_of seen) events) (only : AllSteps events) where
  pub consumed_on : {tokens : List Seen} {steps : List (Event Action)} → Consumed items tokens steps
      → Consumed now (tokens ++ seen) (steps ++ events)
  consumed_on {tokens} {steps} c = record {
    symbols = c.symbols ++ x ∷ [];
    passes = joined c.passes p;
    leaves = leaves_of tokens seen c.leaves leaves;
    only = steps_behind steps events c.only only;
  }

pub has_form : {level : ℕ} {tokens : List Seen} {steps : List (Event Action)} → Consumed (Whole level ∷ []) tokens steps
    → HasForm (atoms_of tokens) steps
has_form {level} c =
    record { symbols = c.symbols; level = level; passes = c.passes; text = leaves_text c.leaves; steps = c.only }

-- An expression by its beginning: behind an action for it, behind a sign in a case, behind tokens of which it was not known that they begin
-- one, and behind a print rule.
pub data Opened : Bool → List Item → List Seen → List (Event Action) → Type 0 where
  First : {items : List Item} {tokens : List Seen} {steps : List (Event Action)} → Consumed items tokens steps
      → Opened false items tokens (Did Action.Outer ∷ steps)
  Later : {items : List Item} {tokens : List Seen} {steps : List (Event Action)} → Consumed items tokens steps
      → Opened false items tokens steps
  Sure : {fronts more : List (Symbol Action)} {items : List Item} (front tokens : List Seen) (early steps : List (Event Action))
      → Passes [] (fronts ++ Part.DO_OUTER_SURE ∷ more) items → Leaves fronts (atoms_of front) early → Leaves more (atoms_of tokens) steps
      → AllSteps early → AllSteps steps
      → Opened false items (front ++ tokens) (Did Action.OuterMaybe ∷ (early ++ Did Action.OuterSure ∷ steps))
  Ruled : {items : List Item} {tokens : List Seen} {steps : List (Event Action)} (ends : Bool) (bracket name closing : Seen)
      (one two three : ℕ) → Consumed items tokens steps
      → Opened true items (bracket ∷ name ∷ closing ∷ tokens) (rule_events ends one two three (Did Action.Outer ∷ steps))

module _ {x : Symbol Action} {items now : List Item} (p : Passes items (x ∷ []) now) (seen : List Seen) (events : List (Event Action))
    (leaves : Leaves (x ∷ []) (atoms_of seen) events) (only : AllSteps events) where
  pub opened_on : {ruled : Bool} {before : List Seen} {early : List (Event Action)} → Opened ruled items before early
      → Opened ruled now (before ++ seen) (early ++ events)
  opened_on (First c) = First (consumed_on p seen events leaves only c)
  opened_on (Later c) = Later (consumed_on p seen events leaves only c)
  opened_on (Sure {fronts} {more} front tokens early steps q l m a b) =
      let all = Did Action.OuterSure ∷ steps in
      subst (λ k. Opened false now k ((Did Action.OuterMaybe ∷ (early ++ all)) ++ events)) (sym (append_assoc front tokens seen))
      (subst (λ k. Opened false now (front ++ (tokens ++ seen)) (Did Action.OuterMaybe ∷ k)) (sym (append_assoc early all events))
      (Sure front (tokens ++ seen) early (steps ++ events)
      (subst (λ k. Passes [] k now) (append_assoc fronts (Part.DO_OUTER_SURE ∷ more) (x ∷ [])) (joined q p)) l
      (leaves_of tokens seen m leaves) a (steps_behind steps events b only)))
  opened_on (Ruled true bracket name closing one two three c) =
      Ruled true bracket name closing one two three (consumed_on p seen events leaves only c)
  opened_on (Ruled false bracket name closing one two three c) =
      Ruled false bracket name closing one two three (consumed_on p seen events leaves only c)

pub opened_wide : {ruled : Bool} {items wide : List Item} {seen : List Seen} {events : List (Event Action)} → Within items wide
    → Opened ruled items seen events → Opened ruled wide seen events
opened_wide w (First c) = First (record { symbols = c.symbols; passes = widened c.passes w; leaves = c.leaves; only = c.only })
opened_wide w (Later c) = Later (record { symbols = c.symbols; passes = widened c.passes w; leaves = c.leaves; only = c.only })
opened_wide w (Sure front tokens early steps q l m a b) = Sure front tokens early steps (widened q w) l m a b
opened_wide w (Ruled ends bracket name closing one two three c) = Ruled ends bracket name closing one two three
    (record { symbols = c.symbols; passes = widened c.passes w; leaves = c.leaves; only = c.only })

-- A state with the tokens and events of what is open
pub data Pending : State → List Seen → List (Event Action) → Type 0 where
  OfFree : Pending Free [] []
  OfOpen : {ruled : Bool} {items : List Item} {seen : List Seen} {events : List (Event Action)} → Opened ruled items seen events
      → Pending (Open ruled items) seen events
  OfLead : {symbols : List (Symbol Action)} {seen : List Seen} {events : List (Event Action)} → Leaves symbols (atoms_of seen) events
      → AllSteps events → Pending (Lead true symbols) seen (Did Action.Outer ∷ events)
  OfMaybe : {symbols : List (Symbol Action)} {seen : List Seen} {events : List (Event Action)} → Leaves symbols (atoms_of seen) events
      → Pending (Lead false symbols) seen (Did Action.OuterMaybe ∷ events)
  OfWord : Pending Worded [] (Did Action.OuterWord ∷ [])
  OfRule : (ends : Bool) (bracket name closing : Seen) (one two three : ℕ)
      → Pending (Ruling ends) (bracket ∷ name ∷ closing ∷ []) (rule_events ends one two three [])
  OfLost : {seen : List Seen} {events : List (Event Action)} → Pending Lost seen events

pub free_none : {seen : List Seen} {events : List (Event Action)} → Pending Free seen events → (seen ≡ []) × (events ≡ [])
free_none OfFree = (refl, refl)

abbrev pub is_last : State → Bool
is_last Ended = true
is_last Never = true
is_last _ = false

pub none_last : {s : State} {seen : List Seen} {events : List (Event Action)} → is_last s ≡ true → Pending s seen events → ⊥
none_last last OfFree = cc
none_last last other = cc
