-- Bytes that a sink took in several writes.
use Rattle.std.proofs.Common.{◌≡◌, ℕ, ◌+◌, ◌-◌, List, ◌++◌, length, take, drop, length-drop, sym, Option, Some, None, append_assoc, ◌∙◌, ap}
use Rattle.std.proofs.Common.{subst}
use Rattle.std.proofs.Math.Seq.{take-add, take-length}
use Rattle.inf_devices.specs.Sinks.{Takes}

-- two writes, one behind the other
pub Takes-append : (old mid new : Option (List ℕ)) (xs ys : List ℕ) → Takes old mid xs → Takes mid new ys → Takes old new (xs ++ ys)
Takes-append None mid new xs ys first second = let P : Option (List ℕ) → Type 0 = λ m. Takes m new ys in subst P first second
Takes-append (Some old) mid new xs ys first second =
    let P : Option (List ℕ) → Type 0 = λ m. Takes m new ys in
    subst P first second ∙ ap Some (append_assoc old xs ys)

-- the bytes up to n and m more of them
pub Takes-more : (old mid new : Option (List ℕ)) (bytes : List ℕ) (n m : ℕ) → Takes old mid (take n bytes)
    → Takes mid new (take m (drop n bytes)) → Takes old new (take (n + m) bytes)
Takes-more old mid new bytes n m first second = rw (take-add n m bytes) (Takes-append old mid new _ _ first second)

-- Taking as many bytes as are left behind the first n takes all of those.
pub take-drop_all : (bytes : List ℕ) (n : ℕ) → take (length bytes - n) (drop n bytes) ≡ drop n bytes
take-drop_all bytes n = ap (λ k. take k (drop n bytes)) (sym (length-drop n bytes)) ∙ take-length (drop n bytes)
