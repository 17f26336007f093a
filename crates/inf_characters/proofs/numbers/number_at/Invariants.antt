use Rattle.std.proofs.Common.{◌≡◌, ℕ, List, drop, min}
use Rattle.inf_characters.specs.Reading.{number_from}
use Rattle.inf_characters.proofs.numbers.number_at.Given as goal

-- the first bytes are a number, and its value up to the limit was read
pub record Reads (base i value : ℕ) (bytes : List ℕ) : Type 0 where
  pub high : ℕ
  pub value_is : value ≡ min high 65536
  pub rest : number_from base i high (drop i bytes) ≡ number_from base 0 0 bytes

abbrev pub invariant-loop-count : goal.invariant-loop-count
invariant-loop-count l = Reads l.base l.count l.value l.bytes
