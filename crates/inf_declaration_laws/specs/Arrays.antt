-- Arrays: the entries that their directives say, and their bytes in memory (Designer's Manual, fourth edition, section 2.4).
use Rattle.std.specs.Prelude.{ℕ, ◌/◌, ◌%◌, List, [], ◌∷◌, ◌++◌, length, map, replicate}
use Rattle.std.specs.List.{flat_map}
use Rattle.inf_area.specs.declared.targets.{Target.Target, Value.Value}
use Rattle.inf_arrays.specs.declared.kinds.ArrayKind.{ArrayKind}

-- Entries: a number by itself, a text by itself, and any other value

pub data Item : Type 0 where
  Number : ℕ → Item
  Text : List ℕ → Value → Item  -- its characters, and its address as a string
  Later : Target → Item

abbrev pub value : Item → Value
value (Number n) = Value.Known n
value (Text t v) = v
value (Later t) = Value.Later t

-- An entry that is alone asks for that many zeros, or for the characters of its text.
abbrev pub alone : Item → List Value
alone (Number n) = replicate n (Value.Known 0)
alone (Text t v) = map Value.Known t
alone (Later t) = Value.Later t ∷ []

abbrev pub entries : List Item → List Value
entries [] = []
entries (item ∷ []) = alone item
entries (item ∷ next ∷ items) = value item ∷ value next ∷ map value items

-- Bytes: `->` has a byte for each entry and `-->` two; `string` is `->` behind its count in a byte, and `table` is `-->` behind its
-- count in two.

abbrev pub two_bytes : ℕ → List ℕ
two_bytes n = (n / 256) ∷ (n % 256) ∷ []

abbrev pub number : (Target → ℕ) → Value → ℕ
number address (Value.Known n) = n
number address (Value.Later t) = address t

abbrev pub as_bytes : (Target → ℕ) → List Value → List ℕ
as_bytes address values = map (number address) values

abbrev pub as_words : (Target → ℕ) → List Value → List ℕ
as_words address values = flat_map (λ v. two_bytes (number address v)) values

abbrev pub in_memory : (Target → ℕ) → ArrayKind → List Value → List ℕ
in_memory address ArrayKind.Bytes values = as_bytes address values
in_memory address ArrayKind.Words values = as_words address values
in_memory address ArrayKind.String values = length values ∷ as_bytes address values
in_memory address ArrayKind.Table values = two_bytes (length values) ++ as_words address values
