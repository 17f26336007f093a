-- Tokens that are a text of the grammar fit, and have the effect of the events of the text.
use Rattle.std.proofs.Common.{◌≡◌, ℕ, List, [], ◌∷◌, ◌++◌, Option, None, true, refl, sym, ◌∙◌, ap, subst}
use Rattle.std.proofs.lemmas.Bool.{and_from}
use Rattle.inf_settings.specs.Bounds.{Limits}
use Rattle.inf_machine.specs.{Grammar.Did, Grammar.Event, Grammar.Leads, Grammar.Took, Laws.IsSpaced, Machine.events_of, Machine.fits}
use Rattle.inf_machine.specs.{Machine.taken, Machine.work, declared.symbols.Symbol.Symbol}
use Rattle.inf_machine.proofs.Taking.{leads_only, spaced_left}
use Rattle.inf_syntax.specs.declared.actions.Action.{Action}
use Rattle.inf_grammar.specs.{Evaluated.language_is_decided, Language.grammar, Language.known, Routines.closings}
use Rattle.inf_compilation.specs.{Actions.Compilation, Actions.took, Context.Context}
use Rattle.inf_reader.specs.Acting.{all_acted}
use Rattle.inf_statement_laws.specs.{Happenings.Acts, Happenings.Between, Happenings.Happening, Laid.next_comes, Laid.passed, Laid.run}
use Rattle.inf_statement_laws.specs.Readings.{Seen, all_fit, all_happenings, all_taken, behind_ends, behind_token, directed, plainly_at}
use Rattle.inf_statement_laws.specs.Readings.{token_happenings}
use Rattle.inf_statement_laws.proofs.{Laying.run_then, Reading.tokens_happen}
use Rattle.inf_language.specs.Texts.{NoneClosesAhead, TextsDoTheirActions, atoms_of, happenings_of}
use Rattle.inf_grammar.proofs.Spaced.{rule_is_spaced}

-- Lemmas about the happenings of the events of a text, token by token

nothing_left : (events : List (Event Action)) → happenings_of events [] ≡ []
nothing_left [] = refl
nothing_left (Did a ∷ events) = refl
nothing_left (Took atom ∷ events) = refl

first_token : (actions : List Action) (atom : ℕ) (events : List (Event Action)) (s : Seen) (seen : List Seen)
    → happenings_of (events_of actions atom ++ events) (s ∷ seen) ≡ token_happenings s.token s.behind actions ++ happenings_of events seen
first_token [] atom events s seen = refl
first_token (a ∷ actions) atom events s seen = ap (λ hs. Acts (plainly_at s.token.place) a ∷ hs) (first_token actions atom events s seen)

-- a token behind which no conditional directive closes statements ahead
without_closing : (directive : Option Between) (count : ℕ) (s : Seen) (actions : List Action) (hs : List Happening) → directive ≡ None
    → token_happenings s.token (behind_token directive count s.behind) actions ++ behind_ends directive count hs
    ≡ token_happenings s.token s.behind actions ++ hs
without_closing directive count s actions hs none =
    subst (λ d. token_happenings s.token (behind_token d count s.behind) actions ++ behind_ends d count hs
    ≡ token_happenings s.token s.behind actions ++ hs) (sym none) refl

pub texts_happen : (seen : List Seen) (symbols left : List (Symbol Action)) (events : List (Event Action))
    → Leads grammar symbols (atoms_of seen) events left → IsSpaced grammar known symbols → NoneClosesAhead seen
    → all_happenings seen symbols ≡ happenings_of events seen
texts_happen [] symbols left events leads spaced none = sym (nothing_left events)
texts_happen (s ∷ seen) symbols left events leads spaced none =
    let first = leads_only grammar known language_is_decided leads spaced in
    let now = taken grammar known s.atom symbols in
    let still_spaced = spaced_left grammar known language_is_decided s.atom (work known s.atom symbols) symbols first.fits_here spaced in
    let others = texts_happen seen now.left left first.rest first.leads still_spaced none.1 in
    without_closing s.directive (closings now.left) s now.actions (all_happenings seen now.left) none.0
    ∙ (ap (λ hs. token_happenings s.token s.behind now.actions ++ hs) others
    ∙ (sym (first_token now.actions s.atom first.rest s seen) ∙ ap (λ es. happenings_of es (s ∷ seen)) (sym first.are)))

texts_fit : (seen : List Seen) (symbols left : List (Symbol Action)) (events : List (Event Action))
    → Leads grammar symbols (atoms_of seen) events left → IsSpaced grammar known symbols → all_fit seen symbols ≡ true
texts_fit [] symbols left events leads spaced = refl
texts_fit (s ∷ seen) symbols left events leads spaced =
    let first = leads_only grammar known language_is_decided leads spaced in
    let now = taken grammar known s.atom symbols in
    and_from (fits grammar known s.atom symbols) (all_fit seen now.left) first.fits_here
    (texts_fit seen now.left left first.rest first.leads
    (spaced_left grammar known language_is_decided s.atom (work known s.atom symbols) symbols first.fits_here spaced))

-- Lemmas about the effect of these happenings, one after the other

nothing_directed : (limits : Limits) (directive : Option Between) (count : ℕ) (w : Compilation) → directive ≡ None
    → directed limits directive count w ≡ w
nothing_directed limits directive count w none = subst (λ d. directed limits d count w ≡ w) (sym none) refl

tokens_run : (limits : Limits) (context : Context) (seen : List Seen) (symbols : List (Symbol Action)) (w : Compilation)
    → NoneClosesAhead seen
    → next_comes (all_taken limits context seen symbols w) ≡ run limits context (all_happenings seen symbols) (next_comes w)
tokens_run limits context [] symbols w none = refl
tokens_run limits context (s ∷ seen) symbols w none =
    let now = taken grammar known s.atom symbols in
    let v = passed s.behind (took context s.token (all_acted limits context s.token.place now.actions w)) in
    let own = token_happenings s.token s.behind now.actions in
    let others = all_happenings seen now.left in
    ap (λ x. next_comes (all_taken limits context seen now.left x)) (nothing_directed limits s.directive (closings now.left) v none.0)
    ∙ (tokens_run limits context seen now.left v none.1
    ∙ (ap (run limits context others) ((tokens_happen limits).runs context s.token s.behind now.actions w)
    ∙ (sym (run_then limits context own others (next_comes w))
    ∙ ap (λ hs. run limits context hs (next_comes w))
    (sym (without_closing s.directive (closings now.left) s now.actions others none.0)))))

pub texts_do_their_actions : (limits : Limits) → TextsDoTheirActions limits
texts_do_their_actions limits = record {
  fit = λ rule seen events text. texts_fit seen (Symbol.Rule rule ∷ []) [] events text (rule_is_spaced rule);
  act = λ rule seen events text none context w. tokens_run limits context seen (Symbol.Rule rule ∷ []) w none
      ∙ ap (λ hs. run limits context hs (next_comes w))
      (texts_happen seen (Symbol.Rule rule ∷ []) [] events text (rule_is_spaced rule) none);
}
