-- Where the packing of Z-characters stands. Only the crate's private clauses cite it.
use Rattle.std.specs.Prelude.{◌≡◌, ℕ, ◌<◌, ◌≤◌, zero, suc, ◌/◌, ◌%◌, List, [], ◌∷◌, ◌++◌}
use Rattle.inf_text.specs.{Packing.words}

-- the Z-characters of a number, which has five bits for each
abbrev pub digits : ℕ → ℕ → List ℕ
digits zero number = []
digits (suc count) number = digits count (number / 32) ++ (number % 32) ∷ []

-- the first number that is too large for `count` Z-characters, which are at most three
abbrev pub room : ℕ → ℕ
room zero = 1
room (suc zero) = 32
room (suc (suc zero)) = 1024
room (suc (suc (suc count))) = 32768

-- a number is that of at most three Z-characters
pub record IsWaiting (count number : ℕ) : Type 0 where
  pub few : count ≤ 3
  pub fits : number < room count

-- the bytes that come of the words written, the Z-characters that wait and those that follow
abbrev pub completed : List ℕ × List ℕ → List ℕ → List ℕ
completed packer zs = packer.0 ++ words (packer.1 ++ zs)

-- some Z-characters were taken
abbrev pub Takes : List ℕ × List ℕ → List ℕ → List ℕ × List ℕ → Type 0
Takes old zs new = (more : List ℕ) → completed new more ≡ completed old (zs ++ more)
