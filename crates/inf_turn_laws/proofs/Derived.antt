-- Derivations of a text token by token: the machine takes each token as the derivation does, with the same happenings.
use Rattle.std.proofs.Common.{◌≡◌, ℕ, List, [], ◌∷◌, ◌++◌, true, Option, None, refl, sym, ◌∙◌, ap, subst}
use Rattle.inf_machine.specs.{Laws.IsSpaced, Machine.Taken, Machine.fits, Machine.taken, declared.symbols.Symbol.Symbol}
use Rattle.inf_machine.specs.Grammar.{Event, IsNext_not, IsOneOf, Leads, Row, action, here, row, token}
use Rattle.inf_machine.proofs.Taking.{spaced_choice, taken_row}
use Rattle.inf_syntax.specs.declared.actions.Action.{Action}
use Rattle.inf_grammar.specs.{Evaluated.language_is_decided, Language.grammar, Language.known, Routines.closings}
use Rattle.inf_unit.specs.Tokens.{SourceToken}
use Rattle.inf_statement_laws.specs.Happenings.{Acts, Between, Happening, Takes}
use Rattle.inf_statement_laws.specs.Readings.{Seen, behind_ends, behind_token, plainly_at, token_happenings}
use Rattle.inf_language.specs.Texts.{NoneClosesAhead, happenings_of}
use Rattle.inf_turn_laws.specs.Acted.{text_happenings}
use Rattle.inf_program.proofs.Chosen.{EndWithToken, ends_behind, only, row_ends}

-- The first token of a derivation, which is taken as `now`. The happenings of the derivation, by its first token and the others, are those
-- of the token and then those of the derivation that goes on behind it.
pub record Follow (now : Taken Action) (atoms : List ℕ) (left : List (Symbol Action)) (all : Seen → List Seen → List Happening) : Type 0
  where
    pub rest : List (Event Action)
    pub leads : Leads grammar now.left atoms rest left
    pub ends : EndWithToken now.left
    pub are : (s : Seen) (seen : List Seen) → all s seen
        ≡ token_happenings s.token (behind_token s.directive (closings now.left) s.behind) now.actions
        ++ behind_ends s.directive (closings now.left) (text_happenings leads seen)

-- A derivation has no token, or the machine takes its first one.
abbrev pub First : List (Symbol Action) → List ℕ → List (Symbol Action) → (Seen → List Seen → List Happening) → Type 0
First symbols [] left all = Unit {0}
First symbols (atom ∷ atoms) left all = (fits grammar known atom symbols ≡ true) × Follow (taken grammar known atom symbols) atoms left all

first_behind : (a : Action) (symbols : List (Symbol Action)) (atoms : List ℕ) (left : List (Symbol Action))
    (all : Seen → List Seen → List Happening) → First symbols atoms left all
    → First (Symbol.Act a ∷ symbols) atoms left (λ s seen. Acts (plainly_at s.token.place) a ∷ all s seen)
first_behind a symbols [] left all f = tt
first_behind a symbols (atom ∷ atoms) left all f = (
  f.0,
  record {
    rest = f.1.rest;
    leads = f.1.leads;
    ends = f.1.ends;
    are = λ s seen. ap (λ hs. Acts (plainly_at s.token.place) a ∷ hs) (f.1.are s seen);
  },
)

first_in : (rule : ℕ) (r : Row Action) (symbols : List (Symbol Action)) (atoms : List ℕ) (left : List (Symbol Action))
    (all : Seen → List Seen → List Happening)
    → IsOneOf r (grammar.rows_of rule) → IsNext_not r.unless atoms → IsSpaced grammar known (Symbol.Rule rule ∷ symbols)
    → First (r.parts ++ symbols) atoms left all → First (Symbol.Rule rule ∷ symbols) atoms left all
first_in rule r symbols [] left all m free spaced f = tt
first_in rule r symbols (atom ∷ atoms) left all m free spaced f =
    let one = only atom rule r symbols m free spaced f.0 in
    let same : taken grammar known atom (r.parts ++ symbols) ≡ taken grammar known atom (Symbol.Rule rule ∷ symbols) =
    sym (taken_row grammar known language_is_decided atom rule symbols one.fits_here
    ∙ ap (λ parts. taken grammar known atom (parts ++ symbols)) one.is) in
    (one.fits_here, subst (λ (n : Taken Action). Follow n atoms left all) same f.1)

pub first_by : {symbols : List (Symbol Action)} {atoms : List ℕ} {events : List (Event Action)} {left : List (Symbol Action)}
    → (leads : Leads grammar symbols atoms events left) → IsSpaced grammar known symbols → EndWithToken symbols
    → First symbols atoms left (λ s seen. text_happenings leads (s ∷ seen))
first_by here spaced ends = tt
first_by (token {class} {symbols} {events} is_in leads) spaced ends =
    (is_in, record { rest = events; leads = leads; ends = ends_behind (Symbol.Token class) symbols ends; are = λ s seen. refl })
first_by (action {a} {symbols} {left} {atoms} leads) spaced ends =
    first_behind a symbols atoms left (λ s seen. text_happenings leads (s ∷ seen))
    (first_by leads spaced (ends_behind (Symbol.Act a) symbols ends))
first_by (row {rule} {r} {symbols} {left} {atoms} m free leads) spaced ends =
    first_in rule r symbols atoms left (λ s seen. text_happenings leads (s ∷ seen)) m free spaced
    (first_by leads (spaced_choice grammar known language_is_decided rule r symbols m spaced) (row_ends rule r symbols m ends))

-- Happenings without tokens, and without conditional directives

pub no_tokens : {symbols : List (Symbol Action)} {atoms : List ℕ} {events : List (Event Action)} {left : List (Symbol Action)}
    → (leads : Leads grammar symbols atoms events left) → text_happenings leads [] ≡ []
no_tokens here = refl
no_tokens (token is_in leads) = refl
no_tokens (action leads) = refl
no_tokens (row m free leads) = no_tokens leads

-- a token behind which no conditional directive ends
plain_token : (directive : Option Between) (count : ℕ) (t : SourceToken) (b : Between) (hs : List Happening) → directive ≡ None
    → Takes t (behind_token directive count b) ∷ behind_ends directive count hs ≡ Takes t b ∷ hs
plain_token directive count t b hs none =
    subst (λ d. Takes t (behind_token d count b) ∷ behind_ends d count hs ≡ Takes t b ∷ hs) (sym none) refl

pub plain_happenings : {symbols : List (Symbol Action)} {atoms : List ℕ} {events : List (Event Action)} {left : List (Symbol Action)}
    → (leads : Leads grammar symbols atoms events left) (seen : List Seen) → NoneClosesAhead seen
    → text_happenings leads seen ≡ happenings_of events seen
plain_happenings here seen none = refl
plain_happenings (token is_in leads) [] none = refl
plain_happenings (token {symbols} is_in leads) (s ∷ seen) none =
    plain_token s.directive (closings symbols) s.token s.behind (text_happenings leads seen) none.0
    ∙ ap (λ hs. Takes s.token s.behind ∷ hs) (plain_happenings leads seen none.1)
plain_happenings (action leads) [] none = refl
plain_happenings (action {a} leads) (s ∷ seen) none =
    ap (λ hs. Acts (plainly_at s.token.place) a ∷ hs) (plain_happenings leads (s ∷ seen) none)
plain_happenings (row m free leads) seen none = plain_happenings leads seen none
