-- Z-characters taken behind those that wait, and their words.
use Rattle.std.proofs.Common.{◌≡◌, ◌<◌, ◌≤◌, ◌+◌, ◌*◌, ◌/◌, ◌%◌, ℕ, zero, suc, false, List, [], ◌∷◌, ◌++◌, append_assoc, sym, ap, ◌∙◌, arith}
use Rattle.inf_text.specs.Packer.{IsWaiting, Takes, digits}
use Rattle.inf_text.specs.Packing.{word, words}

two : (a b x y : ℕ) → a ≡ x → b ≡ y → ◌≡◌ {A = List ℕ} (a ∷ b ∷ []) (x ∷ y ∷ [])
two a b x y p q = cc

-- the word of a number of three Z-characters
pub word-number : (a b c n : ℕ) → a < 32 → b < 32 → c < 32 → n ≡ 1024 * a + 32 * b + c → word false a b c ≡ (n / 256) ∷ (n % 256) ∷ []
word-number a b c n la lb lc is =
    let high : 4 * a + b / 8 ≡ n / 256 = omega arith in let low : 32 * (b % 8) + c ≡ n % 256 = omega arith in
    two _ _ _ _ (omega arith) low

-- the number of three Z-characters
pub waiting-three : (count number : ℕ) → IsWaiting count number → 3 ≤ count → (count ≡ 3) × (number < 32768)
waiting-three zero number h le = absurd (omega arith)
waiting-three (suc zero) number h le = absurd (omega arith)
waiting-three (suc (suc zero)) number h le = absurd (omega arith)
waiting-three (suc (suc (suc count))) number h le = (omega (arith, h.few), h.fits)

-- a Z-character waits, and the word of the three before it is written
pub Takes-word : (bytes : List ℕ) (count number z : ℕ) (new : List ℕ) → IsWaiting count number → 3 ≤ count → z < 32 →
    new ≡ bytes ++ (number / 256) ∷ (number % 256) ∷ [] → Takes (bytes, digits count number) (z ∷ []) (new, digits 1 z)
Takes-word bytes count number z new h le small pushed more =
    let three = waiting-three count number h le in let fits = three.1 in let a = number / 32 / 32 % 32 in
    let b = number / 32 % 32 in let c = number % 32 in let own = (number / 256) ∷ (number % 256) ∷ [] in
    let same : word false a b c ≡ own = word-number a b c number (omega arith) (omega arith) (omega arith) (omega arith) in
    let last : z % 32 ≡ z = omega arith in
    ap (λ (xs : List ℕ). xs ++ words ((z % 32) ∷ more)) pushed ∙ ap (λ (y : ℕ). (bytes ++ own) ++ words (y ∷ more)) last
    ∙ append_assoc bytes own (words (z ∷ more)) ∙ ap (λ (xs : List ℕ). bytes ++ (xs ++ words (z ∷ more))) (sym same)
    ∙ ap (λ (n : ℕ). bytes ++ words (digits n number ++ z ∷ more)) (sym three.0)
