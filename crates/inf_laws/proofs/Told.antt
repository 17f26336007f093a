-- A token of a piece is taken or told as the tokens before it decide.
use Rattle.std.proofs.Common.{◌≡◌, ◌⊎◌, inl, inr, append_assoc, List, [], ◌∷◌, ◌++◌, map, cond, true, false, refl, sym, ap, subst, ◌∙◌}
use Rattle.std.proofs.lemmas.List.{append-nil}
use Rattle.inf_settings.specs.Bounds.{Limits}
use Rattle.inf_unit.specs.Tokens.{SourceToken, atom_of, is_end}
use Rattle.inf_unit.proofs.Cases.{of_both}
use Rattle.inf_machine.specs.{Machine.fits, declared.symbols.Symbol.Symbol}
use Rattle.inf_syntax.specs.declared.actions.Action.{Action}
use Rattle.inf_grammar.specs.Language.{grammar, known}
use Rattle.inf_compilation.specs.{Actions.Compilation, Actions.piece_begun as work_begun, Context.Context}
use Rattle.inf_reader.specs.{Handing.unfit_in, declared.recovery.Recovery.Recovery}
use Rattle.inf_reader.specs.Pieces.{BeginsPiece, at_hand, at_hand_by, work_by}
use Rattle.inf_reader.specs.Reading.{Reading, ReaderState, bad, between, judged, piece_begun, read_at, step_in, took}
use Rattle.inf_laws.specs.{Skipping.given_at, Told.IsAt, Told.TokensAreTakenOrTold, Told.UnfitTokensAreTold}
use Rattle.inf_laws.specs.KeptTokens.{Given, GoesBehind, Kept, Unfit, all_given_to, given_to, rests}
use Rattle.inf_laws.proofs.KeptTokens.{At, Ended, Inside, Now, Skips, Whole, begins, first, goes, next, no_token, stops}

-- Lemmas about the tokens that were kept

abbrev kept_of : List Given → List SourceToken
kept_of [] = []
kept_of (Kept t ∷ given) = t ∷ kept_of given
kept_of (Unfit t ∷ given) = kept_of given

kept_again : (tokens : List SourceToken) → kept_of (map Kept tokens) ≡ tokens
kept_again [] = refl
kept_again (t ∷ tokens) = ap (λ ts. t ∷ ts) (kept_again tokens)

same_tokens : (xs ys : List SourceToken) → map Kept xs ≡ map Kept ys → xs ≡ ys
same_tokens xs ys e = sym (kept_again xs) ∙ ap kept_of e ∙ kept_again ys

onward : (given before : List Given) (r : Reading) → Now before r → GoesBehind given r → Now (before ++ given) (all_given_to given r)
onward [] before r now on = subst (λ gs. Now gs r) (sym (append-nil before)) now
onward (g ∷ given) before r now on = subst (λ gs. Now gs (all_given_to given (given_to g r))) (append_assoc before (g ∷ []) given)
    (onward given (before ++ g ∷ []) (given_to g r) (next g before r now on.0) on.1)

-- Lemmas about a piece that goes on

open_at : (tokens : List SourceToken) (r : Reading) → Now (map Kept tokens) r → r.mode ≡ Recovery.Reads → rests r ≡ false → At tokens r
open_at tokens r (Inside others e at some) reads on = subst (λ ts. At ts r) (sym (same_tokens tokens others e)) at
open_at tokens r (Whole others e is at) reads on = absurd (let never : true ≡ false = sym (ap rests at) ∙ on in cc)
open_at tokens r (Ended t e is at) reads on = absurd (let never : true ≡ false = sym (ap rests at) ∙ on in cc)
open_at tokens r (Skips others wrong behind e begun is_bad at) reads on =
    let same = ap (λ (x : Reading). x.mode) (sym at) ∙ reads in
    absurd (let never : true ≡ false = sym (ap rests at ∙ ap (λ m. rests (between m)) same) ∙ on in cc)

some_at : (t : SourceToken) (tokens : List SourceToken) (s : ReaderState) → IsAt (t ∷ tokens) s → rests s.reading ≡ false →
    At (t ∷ tokens) s.reading
some_at t tokens s at on = open_at (t ∷ tokens) s.reading (subst (λ (r : Reading). Now (map Kept (t ∷ tokens)) r) (sym at.is_read)
    (onward (map Kept tokens) (Kept t ∷ []) (given_to (Kept t) (between Recovery.Reads)) (first (Kept t) (between Recovery.Reads) refl)
    at.goes_on))
    at.reads on

open_stack : (stack : List (Symbol Action)) (r : Reading) → r.mode ≡ Recovery.Reads → r.stack ≡ stack → rests r ≡ false → stack ≡ [] → ⊥
open_stack stack r reads e on empty =
    let same : r ≡ between Recovery.Reads =
    ap (λ m. record { mode = m; stack = r.stack }) reads ∙ ap (λ x. record { mode = Recovery.Reads; stack = x }) (e ∙ empty) in
    let never : true ≡ false = sym (ap rests same) ∙ on in
    cc

-- Lemmas about the token

module _ (limits : Limits) (context : Context) (tokens : List SourceToken) (t : SourceToken) (r : Reading) (w : Compilation)
    (at : At tokens r) where
  takes : BeginsPiece (map atom_of (tokens ++ t ∷ [])) → judged limits context t r w ≡ took limits context t r w
  takes begun = of_both (λ (x : ReaderState). x ≡ took limits context t r w) (fits grammar known (atom_of t) r.stack)
      (took limits context t r w) (bad limits context t r w)
      (λ _. refl)
      (λ out. absurd (stops tokens r t at out begun))

  tells : (BeginsPiece (map atom_of (tokens ++ t ∷ [])) → ⊥) → judged limits context t r w ≡ bad limits context t r w
  tells none = of_both (λ (x : ReaderState). x ≡ bad limits context t r w) (fits grammar known (atom_of t) r.stack)
      (took limits context t r w) (bad limits context t r w)
      (λ f. absurd (none (begins (tokens ++ t ∷ []) _ (goes tokens r t at f))))
      (λ _. refl)

-- the way in which a token comes to be judged
comes : (limits : Limits) (context : Context) (t : SourceToken) (stack : List (Symbol Action)) (r : Reading) (w : Compilation) →
    (is_end t.kind ≡ false) ⊎ (stack ≡ [] → ⊥)
    → read_at limits context t stack r w ≡ judged limits context t (at_hand_by stack r) (work_by stack w)
comes limits context t [] r w (inl going) = ap (λ b. cond b (record { reading = record r { mode = Recovery.Ended }; work = w })
    (judged limits context t (piece_begun r) (work_begun w))) going
comes limits context t [] r w (inr some) = absurd (some refl)
comes limits context t (symbol ∷ symbols) r w going = refl

-- Lemmas about the piece at hand

is_at_hand : (stack : List (Symbol Action)) (r : Reading) → (stack ≡ [] → ⊥) → at_hand_by stack r ≡ r
is_at_hand [] r some = absurd (some refl)
is_at_hand (symbol ∷ symbols) r some = refl

hand_at : (tokens : List SourceToken) (s : ReaderState) → IsAt tokens s → (tokens ≡ []) ⊎ (rests s.reading ≡ false) →
    At tokens (at_hand s.reading)
hand_at [] s at is_open = subst (λ (r : Reading). At [] (at_hand r)) (sym at.is_read) no_token
hand_at (t ∷ tokens) s at (inl none) = cc
hand_at (t ∷ tokens) s at (inr on) = subst (λ (r : Reading). At (t ∷ tokens) r) (sym (is_at_hand s.reading.stack s.reading
    (open_stack s.reading.stack s.reading at.reads refl on)))
    (some_at t tokens s at on)

goes_by : (t : SourceToken) (s : ReaderState) → s.reading.mode ≡ Recovery.Reads → (is_end t.kind ≡ false) ⊎ (rests s.reading ≡ false) →
    (is_end t.kind ≡ false) ⊎ (s.reading.stack ≡ [] → ⊥)
goes_by t s reads (inl going) = inl going
goes_by t s reads (inr on) = inr (open_stack s.reading.stack s.reading reads refl on)

pub tokens_are_taken_or_told : (limits : Limits) → TokensAreTakenOrTold limits
tokens_are_taken_or_told limits context tokens t s at going = record {
  taken = λ begun. same ∙ takes limits context tokens t (at_hand s.reading) (work_by s.reading.stack s.work) hand begun;
  told = λ none. same ∙ tells limits context tokens t (at_hand s.reading) (work_by s.reading.stack s.work) hand none;
}
  where
    hand : At tokens (at_hand s.reading)
    hand = hand_at tokens s at at.is_open

    same : given_at limits context (Kept t) s ≡ judged limits context t (at_hand s.reading) (work_by s.reading.stack s.work)
    same = ap (λ m. step_in limits m context t s.reading s.work) at.reads
        ∙ comes limits context t s.reading.stack s.reading s.work (goes_by t s at.reads going)

pub unfit_tokens_are_told : (limits : Limits) → UnfitTokensAreTold limits
unfit_tokens_are_told limits context t s reads = ap (λ m. unfit_in limits m context t s) reads
