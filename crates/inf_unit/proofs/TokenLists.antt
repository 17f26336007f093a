-- Tokens from a place on.
use Rattle.std.proofs.Common.{◌≡◌, ◌<◌, ℕ, suc, zero, List, [], ◌∷◌, drop, length, Option, arith, refl, sym, ap, ◌∙◌, slice_get}
use Rattle.inf_names.specs.Spellings.{Name}
use Rattle.inf_unit.specs.{Tokens.SourceToken, Units.name_at, Units.names_from, Units.quoted_in, Units.text_by, Units.with_name}

quoted_step : (ts : List SourceToken) (at : ℕ) → at < length ts
    → quoted_in (drop at ts) ≡ text_by (slice_get ts at) (quoted_in (drop (suc at) ts))
quoted_step [] at less = absurd (omega (arith, less))
quoted_step (t ∷ ts) zero less = refl
quoted_step (t ∷ ts) (suc at) less = quoted_step ts at (omega (arith, less))

-- The first text from a place on is the token there, or one behind it.
pub quoted_next : (ts : List SourceToken) (at next : ℕ) (o : Option SourceToken) → next ≡ suc at → o ≡ slice_get ts at → at < length ts
    → quoted_in (drop at ts) ≡ text_by o (quoted_in (drop next ts))
quoted_next ts at next o n is less =
    quoted_step ts at less ∙ ap (λ (x : Option SourceToken). text_by x (quoted_in (drop (suc at) ts))) (sym is)
    ∙ ap (λ i. text_by o (quoted_in (drop i ts))) (sym n)

names_step : (ts : List SourceToken) (at : ℕ) (names : List Name) → at < length ts
    → names_from (drop at ts) names ≡ names_from (drop (suc at) ts) (with_name (name_at ts at) names)
names_step [] at names less = absurd (omega (arith, less))
names_step (t ∷ ts) zero names less = refl
names_step (t ∷ ts) (suc at) names less = names_step ts at names (omega (arith, less))

-- Names from a place on: that of the token there, if it is one, and those behind it.
pub names_next : (ts : List SourceToken) (at next : ℕ) (names : List Name) → next ≡ suc at → at < length ts
    → names_from (drop at ts) names ≡ names_from (drop next ts) (with_name (name_at ts at) names)
names_next ts at next names n less =
    names_step ts at names less ∙ ap (λ i. names_from (drop i ts) (with_name (name_at ts at) names)) (sym n)
