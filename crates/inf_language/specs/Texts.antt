-- The effect of a text of the grammar, with no machine: its actions act in their order, each before the token that comes
-- next, and its tokens are taken.
use Rattle.std.specs.Prelude.{◌≡◌, ℕ, List, [], ◌∷◌, map, None, true}
use Rattle.inf_settings.specs.Bounds.{Limits}
use Rattle.inf_scanner.specs.declared.tokens.Place.{Place}
use Rattle.inf_machine.specs.{Grammar.Did, Grammar.Event, Grammar.IsText, Grammar.Took, declared.symbols.Symbol.Symbol}
use Rattle.inf_syntax.specs.declared.actions.Action.{Action}
use Rattle.inf_grammar.specs.Language.{grammar}
use Rattle.inf_unit.specs.Tokens.{SourceToken}
use Rattle.inf_compilation.specs.{Actions.Compilation, Context.Context}
use Rattle.inf_statement_laws.specs.{Happenings.Acts, Happenings.Happening, Happenings.Takes, Laid.next_comes, Laid.run}
use Rattle.inf_statement_laws.specs.Readings.{Seen, all_fit, all_taken, plainly_at}

-- the tokens that were seen, and their atoms, by which the grammar knows them
abbrev pub tokens_of : List Seen → List SourceToken
tokens_of seen = map (λ (s : Seen). s.token) seen

abbrev pub atoms_of : List Seen → List ℕ
atoms_of seen = map (λ (s : Seen). s.atom) seen

-- The happenings of the events of a text and its tokens: an action acts at the place of the next token, and each token is
-- taken with its happenings behind it. No action comes behind the last token.
abbrev pub happenings_of : List (Event Action) → List Seen → List Happening
happenings_of [] seen = []
happenings_of (Did a ∷ events) [] = []
happenings_of (Did a ∷ events) (s ∷ seen) = Acts (plainly_at s.token.place) a ∷ happenings_of events (s ∷ seen)
happenings_of (Took atom ∷ events) [] = []
happenings_of (Took atom ∷ events) (s ∷ seen) = Takes s.token s.behind ∷ happenings_of events seen

-- The happenings of a part of a text. Another token, whose place is `next`, follows its last one: the actions that are left
-- act there.
abbrev pub happenings_before : Place → List (Event Action) → List Seen → List Happening
happenings_before next [] seen = []
happenings_before next (Did a ∷ events) [] = Acts (plainly_at next) a ∷ happenings_before next events []
happenings_before next (Did a ∷ events) (s ∷ seen) = Acts (plainly_at s.token.place) a ∷ happenings_before next events (s ∷ seen)
happenings_before next (Took atom ∷ events) [] = []
happenings_before next (Took atom ∷ events) (s ∷ seen) = Takes s.token s.behind ∷ happenings_before next events seen

-- Tells whether no conditional directive that closes statements ahead ends behind one of the tokens.
abbrev pub NoneClosesAhead : List Seen → Type 0
NoneClosesAhead [] = Unit {0}
NoneClosesAhead (s ∷ seen) = (s.directive ≡ None) × NoneClosesAhead seen

-- Tokens that are a text of a rule all fit, one after the other, and have the effect of the happenings of the text's
-- events.
pub record TextsDoTheirActions (limits : Limits) : Type 0 where
  pub fit : (rule : ℕ) (seen : List Seen) (events : List (Event Action)) → IsText grammar (Symbol.Rule rule ∷ []) (atoms_of seen) events
      → all_fit seen (Symbol.Rule rule ∷ []) ≡ true
  pub act : (rule : ℕ) (seen : List Seen) (events : List (Event Action)) → IsText grammar (Symbol.Rule rule ∷ []) (atoms_of seen) events
      → NoneClosesAhead seen → (context : Context) (w : Compilation)
      → next_comes (all_taken limits context seen (Symbol.Rule rule ∷ []) w) ≡ run limits context (happenings_of events seen) (next_comes w)
