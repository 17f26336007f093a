-- Lines that are kept backwards.
use Rattle.std.proofs.Common.{◌≡◌, ◌+◌, List, ◌++◌, length, reverse, ap, ◌∙◌, arith, append_assoc, length-append}
use Rattle.std.proofs.lemmas.List.{reverse-append, reverse-reverse, length-reverse}

module _ {A : Type 0} where
  -- lines that are put backwards behind lines that are kept backwards come in front of them
  pub turned_behind : (front first back : List A) → reverse (front ++ reverse first) ++ back ≡ first ++ (reverse front ++ back)
  turned_behind front first back =
      ap (λ xs. xs ++ back) (reverse-append front (reverse first) ∙ ap (λ xs. xs ++ reverse front) (reverse-reverse first))
      ∙ append_assoc first (reverse front) back

  pub turned_twice : (xs : List A) → reverse (reverse xs) ≡ xs
  turned_twice xs = reverse-reverse xs

  pub turned_length : (first front back : List A) → length (first ++ reverse front ++ back) ≡ length first + length front + length back
  turned_length first front back =
      omega (arith, length-append (first ++ reverse front) back, length-append first (reverse front), length-reverse front)

  pub turned_length_grouped : (first front back : List A) →
      length (first ++ (reverse front ++ back)) ≡ length first + length front + length back
  turned_length_grouped first front back =
      omega (arith, length-append first (reverse front ++ back), length-append (reverse front) back, length-reverse front)
