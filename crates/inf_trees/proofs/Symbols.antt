-- The first symbol of a text, two parts of one, and none: tokens, events and happenings.
use Rattle.std.proofs.Common.{◌≡◌, ℕ, ◌+◌, List, [], ◌∷◌, ◌++◌, length, refl, sym, ◌∙◌, ap, subst}
use Rattle.std.proofs.lemmas.List.{length-append}
use Rattle.inf_scanner.specs.declared.tokens.Place.{Place}
use Rattle.inf_machine.specs.declared.symbols.Symbol.{Symbol}
use Rattle.inf_machine.specs.Grammar.{Did, Event, IsText, Took, action, here, token}
use Rattle.inf_syntax.specs.declared.actions.Action.{Action}
use Rattle.inf_grammar.specs.Language.{grammar}
use Rattle.inf_statement_laws.specs.{Happenings.Acts, Happenings.Takes, Readings.Seen, Readings.plainly_at}
use Rattle.inf_language.specs.Texts.{atoms_of, happenings_before}
use Rattle.inf_language.proofs.{Derivations.texts_take_all, TextsSplit.split}
use Rattle.inf_trees.proofs.{Doubts.apart, UnitsRead.before-append, UnitsRead.place_before}

-- Lemmas about a token at the front of a text, and an action

pub record TokenFirst (symbols : List (Symbol Action)) (seen : List Seen) (events : List (Event Action)) : Type 0 where
  pub s : Seen
  pub atom : ℕ
  pub rest : List Seen
  pub late : List (Event Action)
  pub same : s ∷ rest ≡ seen
  pub are : events ≡ Took atom ∷ late
  pub text : IsText grammar symbols (atoms_of rest) late
  pub happen : (next : Place) → happenings_before next events seen ≡ Takes s.token s.behind ∷ happenings_before next late rest
  pub place : (next : Place) → place_before seen next ≡ s.token.place

same_rest : {x y : ℕ} {xs ys : List ℕ} → x ∷ xs ≡ y ∷ ys → xs ≡ ys
same_rest same = cc

token_by : (class : ℕ) (symbols : List (Symbol Action)) {atoms : List ℕ} {events : List (Event Action)}
    → IsText grammar (Symbol.Token class ∷ symbols) atoms events → (seen : List Seen) → atoms_of seen ≡ atoms → TokenFirst
    symbols seen events
token_by class symbols (token h leads) [] is = cc
token_by class symbols (token {atom = atom} {events = late} h leads) (s ∷ seen) is = record {
  s = s;
  atom = atom;
  rest = seen;
  late = late;
  same = refl;
  are = refl;
  text = subst (λ a. IsText grammar symbols a late) (sym (same_rest is)) leads;
  happen = λ next. refl;
  place = λ next. refl;
}

pub token_first : {class : ℕ} (symbols : List (Symbol Action)) (seen : List Seen) (events : List (Event Action))
    → IsText grammar (Symbol.Token class ∷ symbols) (atoms_of seen) events → TokenFirst symbols seen events
token_first {class} symbols seen events text = token_by class symbols text seen refl

pub record ActFirst (a : Action) (symbols : List (Symbol Action)) (seen : List Seen) (events : List (Event Action)) : Type 0 where
  pub late : List (Event Action)
  pub are : events ≡ Did a ∷ late
  pub text : IsText grammar symbols (atoms_of seen) late
  pub happen : (next : Place) → happenings_before next events seen
      ≡ Acts (plainly_at (place_before seen next)) a ∷ happenings_before next late seen

act_happens : (a : Action) (late : List (Event Action)) (seen : List Seen) (next : Place)
    → happenings_before next (Did a ∷ late) seen ≡ Acts (plainly_at (place_before seen next)) a ∷ happenings_before next late seen
act_happens a late [] next = refl
act_happens a late (s ∷ seen) next = refl

act_by : (a : Action) (symbols : List (Symbol Action)) {atoms : List ℕ} {events : List (Event Action)}
    → IsText grammar (Symbol.Act a ∷ symbols) atoms events → (seen : List Seen) → atoms_of seen ≡ atoms → ActFirst a symbols seen events
act_by a symbols (action {events = late} leads) seen is = record {
  late = late;
  are = refl;
  text = subst (λ l. IsText grammar symbols l late) (sym is) leads;
  happen = λ next. act_happens a late seen next;
}

pub act_first : (a : Action) (symbols : List (Symbol Action)) (seen : List Seen) (events : List (Event Action))
    → IsText grammar (Symbol.Act a ∷ symbols) (atoms_of seen) events → ActFirst a symbols seen events
act_first a symbols seen events text = act_by a symbols text seen refl

-- Lemmas about two parts of a text

pub record PartsOf (xs ys : List (Symbol Action)) (seen : List Seen) (events : List (Event Action)) : Type 0 where
  pub front : List Seen
  pub rest : List Seen
  pub early : List (Event Action)
  pub late : List (Event Action)
  pub same : front ++ rest ≡ seen
  pub are : events ≡ early ++ late
  pub of_front : IsText grammar xs (atoms_of front) early
  pub of_rest : IsText grammar ys (atoms_of rest) late
  pub count : length front + length rest ≡ length seen
  pub happen : (next : Place) → happenings_before next events seen
      ≡ happenings_before (place_before rest next) early front ++ happenings_before next late rest

pub parts_of : (xs ys : List (Symbol Action)) (seen : List Seen) (events : List (Event Action))
    → IsText grammar (xs ++ ys) (atoms_of seen) events → PartsOf xs ys seen events
parts_of xs ys seen events text =
    let parts = split text refl xs ys refl in
    let l = apart parts.front parts.rest seen parts.atoms_are in
    record {
      front = l.front;
      rest = l.tokens;
      early = parts.early;
      late = parts.late;
      same = l.same;
      are = parts.events_are;
      of_front = subst (λ a. IsText grammar xs a parts.early) (sym l.front_are) parts.of_front;
      of_rest = subst (λ a. IsText grammar ys a parts.late) (sym l.tokens_are) parts.of_rest;
      count = sym (length-append l.front l.tokens) ∙ ap length l.same;
      happen = λ next. ap (λ x. happenings_before next events x) (sym l.same)
          ∙ (ap (λ es. happenings_before next es (l.front ++ l.tokens)) parts.events_are
          ∙ before-append next parts.early parts.late l.front l.tokens (texts_take_all parts.of_front l.front l.front_are));
    }

-- Nothing is left.
pub record Left (seen : List Seen) (events : List (Event Action)) : Type 0 where
  pub none : seen ≡ []
  pub happen : (next : Place) → happenings_before next events seen ≡ []

left_by : {atoms : List ℕ} {events : List (Event Action)} → IsText grammar [] atoms events → (seen : List Seen) → atoms_of seen ≡ atoms
    → Left seen events
left_by here [] is = record { none = refl; happen = λ next. refl }
left_by here (s ∷ seen) is = cc

pub nothing_left : (seen : List Seen) (events : List (Event Action)) → IsText grammar [] (atoms_of seen) events → Left seen events
nothing_left seen events text = left_by text seen refl
