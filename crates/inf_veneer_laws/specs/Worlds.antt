-- Worlds whose objects and properties are those in the memory of a story, and how any world is made one of these.
use Rattle.std.specs.Prelude.{◌≡◌, ℕ, ◌==◌, not, Option, Some, None, if◌then◌else◌}
use Rattle.inf_interpreter.specs.{Machine.Store, Machine.World, Supplied.word_written}
use Rattle.inf_veneer_laws.specs.Properties.{any_address, any_length, any_value, child_in, children_in, sibling_in}

-- A value is written to a property at the address of its data; nothing is written where the address is 0.
abbrev pub written_at : ℕ → ℕ → Store → Store
written_at start n s = if start == 0 then s else word_written start 0 n s

-- The world's answers are what memory says, wherever it says something: a table that does not end, or data that are neither a byte nor a
-- word, say nothing.
pub record HasObjects (w : World) : Type 0 where
  pub child : (s : Store) (o : ℕ) → w.child s o ≡ child_in s.bytes o
  pub sibling : (s : Store) (o : ℕ) → w.sibling s o ≡ sibling_in s.bytes o
  pub children : (s : Store) (o n : ℕ) → children_in s.bytes o ≡ Some n → w.children s o ≡ n
  pub value : (s : Store) (o p n : ℕ) → any_value s.bytes o p ≡ Some n → w.property s o p ≡ n
  pub address : (s : Store) (o p n : ℕ) → any_address s.bytes o p ≡ Some n → w.property_address s o p ≡ n
  pub length : (s : Store) (o p n : ℕ) → any_length s.bytes o p ≡ Some n → w.property_length s o p ≡ n
  pub writes : (o p n : ℕ) (s : Store) (start : ℕ) → any_address s.bytes o p ≡ Some start → w.with_property o p n s ≡ written_at start n s
  pub provides : (s : Store) (o p start : ℕ) → any_address s.bytes o p ≡ Some start → w.provides s o p ≡ not (start == 0)

-- a number that memory says, and 0 where it says none
abbrev pub known_or_0 : Option ℕ → ℕ
known_or_0 None = 0
known_or_0 (Some n) = n

abbrev pub with_objects : World → World
with_objects w = record w {
  child = λ s o. child_in s.bytes o;
  sibling = λ s o. sibling_in s.bytes o;
  children = λ s o. known_or_0 (children_in s.bytes o);
  property = λ s o p. known_or_0 (any_value s.bytes o p);
  property_address = λ s o p. known_or_0 (any_address s.bytes o p);
  property_length = λ s o p. known_or_0 (any_length s.bytes o p);
  with_property = λ o p n s. written_at (known_or_0 (any_address s.bytes o p)) n s;
  provides = λ s o p. not (known_or_0 (any_address s.bytes o p) == 0);
}

abbrev pub WorldsHaveObjects : Type 0
WorldsHaveObjects = (w : World) → HasObjects (with_objects w)
