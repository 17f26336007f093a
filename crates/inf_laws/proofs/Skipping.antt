-- The skipping of a bad piece.
use Rattle.std.proofs.Common.{◌≡◌, ℕ, suc, zero, ◌≤◌, List, [], ◌∷◌, ◌++◌, length, take, cond, not, ◌||◌, true, false, refl, ap, ◌∙◌, arith}
use Rattle.std.proofs.lemmas.Bool.{and_parts, not-true, or_parts}
use Rattle.std.specs.List.{list_all}
use Rattle.inf_settings.specs.Bounds.{Limits}
use Rattle.inf_scanner.specs.{declared.tokens.Mark.Mark, declared.tokens.TokenKind.TokenKind}
use Rattle.inf_compilation.specs.Context.{Context}
use Rattle.inf_unit.specs.Tokens.{SourceToken, is_end, is_mark}
use Rattle.inf_reader.specs.{Handing.skips, Handing.unfit_in, declared.recovery.Recovery.Recovery}
use Rattle.inf_reader.specs.Reading.{ReaderState, passed, passed_mark, step_in}
use Rattle.inf_laws.specs.KeptTokens.{Given, Kept, Unfit, skipped, token_in}
use Rattle.inf_laws.specs.Skipping.{at, Lack, PassesTo, PassedTokensDoNothing, DirectivesAreSkipped, RoutinesAreSkipped, SourcesEnd}

-- Lemmas about one token

steps_over : (limits : Limits) (m : Recovery) (context : Context) (t : SourceToken) (s : ReaderState) → s.reading.mode ≡ m → skips m ≡ true
    → step_in limits m context t s.reading s.work ≡ at (passed m t.kind) s
steps_over limits Recovery.SkipsRoutine context t s e is = refl
steps_over limits Recovery.SkipsDirective context t s e is = refl
steps_over limits Recovery.Reads context t s e is = cc
steps_over limits Recovery.Ended context t s e is = cc

unfit_steps : (limits : Limits) (m : Recovery) (context : Context) (t : SourceToken) (s : ReaderState) → s.reading.mode ≡ m → skips m ≡ true
    → unfit_in limits m context t s ≡ step_in limits s.reading.mode context t s.reading s.work
unfit_steps limits Recovery.SkipsRoutine context t s e is = refl
unfit_steps limits Recovery.SkipsDirective context t s e is = refl
unfit_steps limits Recovery.Reads context t s e is = cc
unfit_steps limits Recovery.Ended context t s e is = cc

pub passed_tokens_do_nothing : (limits : Limits) → PassedTokensDoNothing limits
passed_tokens_do_nothing limits context (Kept t) s is = steps_over limits s.reading.mode context t s refl is
passed_tokens_do_nothing limits context (Unfit t) s is =
    unfit_steps limits s.reading.mode context t s refl is ∙ steps_over limits s.reading.mode context t s refl is

pub sources_end : SourcesEnd
sources_end m token e = ap (λ b. cond b Recovery.Ended (passed_mark m token)) e

-- Lemmas about the tokens of a piece

mark_is_no_end : (m : Mark) (k : TokenKind) → is_mark m k ≡ true → is_end k ≡ false
mark_is_no_end m TokenKind.End e = cc
mark_is_no_end m _ e = refl

-- From this mode a mark leads to the next, and every other token but the end leads nowhere.
record Passes (m : Mark) (before after : Recovery) : Type 0 where
  stays : (k : TokenKind) → is_end k ≡ false → is_mark m k ≡ false → passed before k ≡ before
  leaves : (k : TokenKind) → is_mark m k ≡ true → passed before k ≡ after

in_routine : Passes Mark.CloseBracket Recovery.SkipsRoutine Recovery.SkipsDirective
in_routine = record {
  stays = λ k going other. ap (λ b. cond b Recovery.Ended (passed_mark Recovery.SkipsRoutine k)) going
      ∙ ap (λ b. cond b Recovery.SkipsDirective Recovery.SkipsRoutine) other;
  leaves = λ k is. ap (λ b. cond b Recovery.Ended (passed_mark Recovery.SkipsRoutine k)) (mark_is_no_end Mark.CloseBracket k is)
      ∙ ap (λ b. cond b Recovery.SkipsDirective Recovery.SkipsRoutine) is;
}

in_directive : Passes Mark.Semicolon Recovery.SkipsDirective Recovery.Reads
in_directive = record {
  stays = λ k going other. ap (λ b. cond b Recovery.Ended (passed_mark Recovery.SkipsDirective k)) going
      ∙ ap (λ b. cond b Recovery.Reads Recovery.SkipsDirective) other;
  leaves = λ k is. ap (λ b. cond b Recovery.Ended (passed_mark Recovery.SkipsDirective k)) (mark_is_no_end Mark.Semicolon k is)
      ∙ ap (λ b. cond b Recovery.Reads Recovery.SkipsDirective) is;
}

module _ (m : Mark) (before after : Recovery) (passes : Passes m before after) where
  -- a first token that is neither the mark nor the end
  first_stays : (g : Given) (given : List Given) → Lack m (g ∷ given) → passed before (token_in g).kind ≡ before
  first_stays g given lack =
      let k = (token_in g).kind in
      let parts = or_parts (is_mark m k) (is_end k)
      (not-true (is_mark m k || is_end k) (and_parts (not (is_mark m k || is_end k))
      (list_all (λ g. not (is_mark m (token_in g).kind || is_end (token_in g).kind)) given) lack).0) in
      passes.stays k parts.1 parts.0

  rest_lacks : (g : Given) (given : List Given) → Lack m (g ∷ given) → Lack m given
  rest_lacks g given lack = (and_parts (not (is_mark m (token_in g).kind || is_end (token_in g).kind))
      (list_all (λ g. not (is_mark m (token_in g).kind || is_end (token_in g).kind)) given) lack).1

  -- each front of the tokens before the mark leads nowhere
  front_stays : (inside : List Given) (n : ℕ) → Lack m inside → n ≤ length inside → skipped before (take n inside) ≡ before
  front_stays inside zero lack le = refl
  front_stays [] (suc n) lack le = absurd (omega arith)
  front_stays (g ∷ given) (suc n) lack le =
      ap (λ x. skipped x (take n given)) (first_stays g given lack) ∙ front_stays given n (rest_lacks g given lack) (omega arith)

  -- the mark leads on
  goes_on : (inside : List Given) (g : Given) (behind : List Given) → Lack m inside → is_mark m (token_in g).kind ≡ true →
      skipped before (inside ++ g ∷ behind) ≡ skipped after behind
  goes_on [] g behind lack is = ap (λ x. skipped x behind) (passes.leaves (token_in g).kind is)
  goes_on (x ∷ inside) g behind lack is =
      ap (λ y. skipped y (inside ++ g ∷ behind)) (first_stays x inside lack) ∙ goes_on inside g behind (rest_lacks x inside lack) is

  passes_to : (inside : List Given) (g : Given) → Lack m inside → is_mark m (token_in g).kind ≡ true → PassesTo before after inside g
  passes_to inside g lack is = record { stays = λ n le. front_stays inside n lack le; ends = λ behind. goes_on inside g behind lack is }

pub directives_are_skipped : DirectivesAreSkipped
directives_are_skipped inside semicolon lack is =
    passes_to Mark.Semicolon Recovery.SkipsDirective Recovery.Reads in_directive inside semicolon lack is

pub routines_are_skipped : RoutinesAreSkipped
routines_are_skipped inside bracket lack is =
    passes_to Mark.CloseBracket Recovery.SkipsRoutine Recovery.SkipsDirective in_routine inside bracket lack is
