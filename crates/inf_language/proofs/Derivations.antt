-- Derivations of a text beside the tokens that were seen.
use Rattle.std.proofs.Common.{◌≡◌, ℕ, List, [], ◌∷◌, ◌++◌, refl, ap}
use Rattle.inf_machine.specs.declared.symbols.Symbol.{Symbol}
use Rattle.inf_machine.specs.Grammar.{Did, Event, Leads, Took, action, here, row, token}
use Rattle.inf_syntax.specs.declared.actions.Action.{Action}
use Rattle.inf_grammar.specs.Language.{grammar}
use Rattle.inf_expression_laws.specs.Gathered.{AreSeen}
use Rattle.inf_statement_laws.specs.{Happenings.Acts, Happenings.Takes, Readings.Seen, Readings.plainly_at}
use Rattle.inf_language.specs.{Texts.atoms_of, Texts.happenings_before, Texts.happenings_of, Texts.tokens_of, Units.TakeAll}

-- Lemmas about the tokens of a text

same_rest : {x y : ℕ} {xs ys : List ℕ} → x ∷ xs ≡ y ∷ ys → xs ≡ ys
same_rest same = cc

same_first : {x y : ℕ} {xs ys : List ℕ} → x ∷ xs ≡ y ∷ ys → x ≡ y
same_first same = cc

same_both : {x y : ℕ} {xs ys : List ℕ} → x ≡ y → xs ≡ ys → x ∷ xs ≡ y ∷ ys
same_both first rest = cc

-- The events of a text take its tokens.
pub texts_take_all : {symbols left : List (Symbol Action)} {atoms : List ℕ} {events : List (Event Action)}
    → Leads grammar symbols atoms events left → (seen : List Seen) → atoms_of seen ≡ atoms → TakeAll events seen
texts_take_all here [] are = tt
texts_take_all here (s ∷ seen) are = cc
texts_take_all (token h leads) [] are = cc
texts_take_all (token h leads) (s ∷ seen) are = texts_take_all leads seen (same_rest are)
texts_take_all (action leads) seen are = texts_take_all leads seen are
texts_take_all (row is_row free leads) seen are = texts_take_all leads seen are

-- Tokens whose last atom is apart are tokens and a last one.
pub record LastApart (front : List ℕ) (seen : List Seen) : Type 0 where
  pub tokens : List Seen
  pub last : Seen
  pub same : tokens ++ last ∷ [] ≡ seen
  pub atoms : atoms_of tokens ≡ front

pub last_apart : (front : List ℕ) (atom : ℕ) (seen : List Seen) → atoms_of seen ≡ front ++ atom ∷ [] → LastApart front seen
last_apart [] atom [] are = cc
last_apart [] atom (s ∷ []) are = record { tokens = []; last = s; same = refl; atoms = refl }
last_apart [] atom (s ∷ x ∷ seen) are = cc
last_apart (a ∷ front) atom [] are = cc
last_apart (a ∷ front) atom (s ∷ seen) are =
    let on = last_apart front atom seen (same_rest are) in
    record { tokens = s ∷ on.tokens; last = on.last; same = ap (λ l. s ∷ l) on.same; atoms = same_both (same_first are) on.atoms }

pub seen_front : (tokens : List Seen) (last : Seen) → AreSeen (atoms_of (tokens ++ last ∷ [])) (tokens_of (tokens ++ last ∷ []))
    → AreSeen (atoms_of tokens) (tokens_of tokens)
seen_front [] last are = tt
seen_front (s ∷ tokens) last are = (are.0, seen_front tokens last are.1)

-- The happenings of two parts of a text are those of the first part, and then those of the second.
pub happenings-append : (early late : List (Event Action)) (tokens : List Seen) (s : Seen) (seen : List Seen) → TakeAll early tokens
    → happenings_of (early ++ late) (tokens ++ s ∷ seen) ≡ happenings_before s.token.place early tokens ++ happenings_of late (s ∷ seen)
happenings-append [] late [] s seen all = refl
happenings-append [] late (x ∷ tokens) s seen all = absurd all
happenings-append (Did a ∷ early) late [] s seen all =
    ap (λ hs. Acts (plainly_at s.token.place) a ∷ hs) (happenings-append early late [] s seen all)
happenings-append (Did a ∷ early) late (x ∷ tokens) s seen all =
    ap (λ hs. Acts (plainly_at x.token.place) a ∷ hs) (happenings-append early late (x ∷ tokens) s seen all)
happenings-append (Took atom ∷ early) late [] s seen all = absurd all
happenings-append (Took atom ∷ early) late (x ∷ tokens) s seen all =
    ap (λ hs. Takes x.token x.behind ∷ hs) (happenings-append early late tokens s seen all)
