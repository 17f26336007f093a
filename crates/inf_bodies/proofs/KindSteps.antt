-- The tokens of a unit one by one, with their places.
use Rattle.std.proofs.Common.{◌≡◌, ◌<◌, ◌+◌, ℕ, suc, zero, List, [], ◌∷◌, drop, length, refl, sym, ap, ◌∙◌, arith}
use Rattle.inf_unit.specs.{Tokens.SourceToken, Units.kind_at}
use Rattle.inf_bodies.specs.{Objects.header_from, Objects.header_step, Values.bracket_from, Values.bracket_step}
use Rattle.inf_bodies.specs.{declared.headers.Header.Header}

header_next : (word place at : ℕ) (tokens : List SourceToken) (h : Header) → at < length tokens
    → header_from word place (drop at tokens) h ≡ header_from word (place + 1) (drop (suc at) tokens)
    (header_step word place (kind_at tokens at) h)
header_next word place at [] h lt = absurd (omega arith)
header_next word place zero (t ∷ tokens) h lt = refl
header_next word place (suc at) (t ∷ tokens) h lt = header_next word place at tokens h (omega arith)

-- one token more of a header
pub header_goes : (word at : ℕ) (tokens : List SourceToken) (h : Header) → at < length tokens
    → header_from word at (drop at tokens) h ≡ header_from word (at + 1) (drop (at + 1) tokens) (header_step word at (kind_at tokens at) h)
header_goes word at tokens h lt =
    let next : at + 1 ≡ suc at = omega arith in
    header_next word at at tokens h lt
    ∙ ap (λ n. header_from word (at + 1) (drop n tokens) (header_step word at (kind_at tokens at) h)) (sym next)

bracket_next : (place at : ℕ) (tokens : List SourceToken) (bracket : ℕ) → at < length tokens
    → bracket_from place (drop at tokens) bracket ≡ bracket_from (place + 1) (drop (suc at) tokens)
    (bracket_step place (kind_at tokens at) bracket)
bracket_next place at [] bracket lt = absurd (omega arith)
bracket_next place zero (t ∷ tokens) bracket lt = refl
bracket_next place (suc at) (t ∷ tokens) bracket lt = bracket_next place at tokens bracket (omega arith)

-- one token more of a routine's header
pub bracket_goes : (at : ℕ) (tokens : List SourceToken) (bracket : ℕ) → at < length tokens
    → bracket_from at (drop at tokens) bracket ≡ bracket_from (at + 1) (drop (at + 1) tokens) (bracket_step at (kind_at tokens at) bracket)
bracket_goes at tokens bracket lt =
    let next : at + 1 ≡ suc at = omega arith in
    bracket_next at at tokens bracket lt
    ∙ ap (λ n. bracket_from (at + 1) (drop n tokens) (bracket_step at (kind_at tokens at) bracket)) (sym next)
