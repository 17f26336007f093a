-- Conditionals behind a token: where directives stand that are being read, and where a side is left out.
use Rattle.std.specs.Prelude.{◌≡◌, ◌⊎◌, ℕ, List, [], ◌∷◌, Bool, true, false, None}
use Rattle.inf_output.specs.Output.{Out}
use Rattle.inf_unit.specs.Tokens.{SourceToken}
use Rattle.inf_conditionals.specs.{Open.Conditions, declared.filtered.Filtered.Filtered, declared.filtered.Site.Site}
use Rattle.inf_conditionals.specs.{declared.pending.Awaits.Awaits, declared.pending.Effect.Effect, declared.pending.Pending.Pending}
use Rattle.inf_conditionals.specs.Judging.{Behind, judged}
use Rattle.inf_conditional_sides.specs.Judged.{FewIn, is_settled, sign_given, token_given}

-- A directive that opens a conditional between the other directives is read between them, and no other is read around it.
abbrev pub IsOutermost : Bool → List Pending → Type 0
IsOutermost is_between others = (is_between ≡ true) × (others ≡ [])

abbrev pub IsInside : Bool → List Pending → Bool → Type 0
IsInside is_between others true = Unit {0}
IsInside is_between others false = IsOutermost is_between others

abbrev pub IsSeated : Bool → Awaits → Bool → List Pending → Type 0
IsSeated is_between Awaits.Word is_inner others = IsOutermost is_between others
IsSeated is_between (Awaits.Name if_declared) is_inner others = IsInside is_between others is_inner
IsSeated is_between (Awaits.Condition wanted) is_inner others = IsInside is_between others is_inner
IsSeated is_between (Awaits.End (Effect.Opens is_kept)) is_inner others = IsInside is_between others is_inner
IsSeated is_between (Awaits.End Effect.Turns) is_inner others = Unit {0}
IsSeated is_between (Awaits.End Effect.Closes) is_inner others = Unit {0}
IsSeated is_between (Awaits.End Effect.Nothing) is_inner others = Unit {0}

abbrev pub AreSeated : Bool → List Pending → Type 0
AreSeated is_between [] = Unit {0}
AreSeated is_between (p ∷ pending) = IsSeated is_between p.awaits p.is_inner pending × AreSeated is_between pending

-- No token is handed on, neither as one that is kept nor as one that does not fit.
abbrev pub HandsNone : Filtered → Type 0
HandsNone j = (sign_given j.sign ≡ []) × ((t : SourceToken) → token_given j.token t ≡ [])

-- Behind a token directives are seated. Where one is still being read, or a side is left out, no token was handed on. A side that is left out
-- behind others is one of a conditional between the directives, which was opened just now.
pub record Rests (is_between : Bool) (names : ℕ) (b : Behind) : Type 0 where
  pub seated : AreSeated is_between b.now.pending
  pub quiet : ((b.now.pending ≡ []) × (b.now.left_out ≡ None)) ⊎ HandsNone b.judged
  pub settled : (is_settled b.now ≡ true) ⊎ ((is_between ≡ true) × ((b.now.pending ≡ []) × HandsNone b.judged))
  pub levels : FewIn b.now.left_out
  pub declared : b.now.declared ≡ names

-- Each token leaves conditionals so that were so before it.
abbrev pub TokensRest : Type 0
TokensRest = (site : Site) (o : Out) (t : SourceToken) (c : Conditions) → AreSeated site.is_between c.pending → is_settled c ≡ true
    → FewIn c.left_out → Rests site.is_between c.declared (judged site o t c)
