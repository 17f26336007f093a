-- Bytes that are cut off behind others.
use Rattle.std.proofs.Common.{◌≡◌, ℕ, ◌+◌, List, ◌++◌, length, take, drop, append-nil, length-append, refl, ◌∙◌, ap, arith}
use Rattle.std.proofs.lemmas.List.{take_at, drop_all}

-- Where all bytes that were appended are cut off again, those before are left.
pub cut_behind : (bytes more : List ℕ) → take (length bytes) (bytes ++ more) ++ drop (length bytes + length more) (bytes ++ more) ≡ bytes
cut_behind bytes more = ap (λ xs. xs ++ drop (length bytes + length more) (bytes ++ more)) (take_at bytes more (length bytes) refl)
    ∙ ap (λ xs. bytes ++ xs) (drop_all (length bytes + length more) (bytes ++ more) (omega (arith, length-append bytes more)))
    ∙ append-nil bytes
