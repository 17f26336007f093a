-- The sizes of properties in the tables of a story (Z-Machine Standard 1.1, section 12.4).
use Rattle.std.specs.Prelude.{ℕ, ◌+◌, ◌*◌, List, [], ◌∷◌, length, nat_le, nat_lt, sum_by, Bool, Option, None, Some, if◌then◌else◌}
use Rattle.std.specs.List.{list_all}
use Rattle.inf_area.specs.declared.targets.Value.{Value}
use Rattle.inf_properties.specs.declared.{sizes.Owner.Owner, sizes.Room.Room, sizes.Size.Size, values.Property.Property}

-- the number of values that are known later
abbrev pub later_count : List Value → ℕ
later_count [] = 0
later_count (Value.Known number ∷ values) = later_count values
later_count (Value.Later target ∷ values) = 1 + later_count values

-- The bytes of a property with `count` values in a property table: a byte for its size and number where it has one value, two bytes
-- where it has more; a property without values has one 0.
abbrev pub common_bytes : ℕ → ℕ
common_bytes count = if nat_le count 1 then 3 else 2 + 2 * count

-- The bytes of a property in an individual table: its number, a byte for its length, its values.
abbrev pub individual_bytes : ℕ → ℕ
individual_bytes count = if nat_le count 1 then 5 else 3 + 2 * count

abbrev pub no_size : Size
no_size = record { bytes = 0; fixups = 0; individuals = 0 }

-- a property has at most 32 values
abbrev pub is_short : Property → Bool
is_short p = nat_le (length p.values) 32

abbrev pub are_short : List Property → Bool
are_short properties = list_all is_short properties

-- The size that a property with `count` values, `later` of which are known later, adds to its owner's. A class keeps its values in
-- no table; each counts two bytes.
abbrev pub size_by : Owner → ℕ → ℕ → ℕ → Size
size_by Owner.Object number count later =
    if nat_lt number 64 then record { bytes = common_bytes count; fixups = later; individuals = 0 }
    else record { bytes = individual_bytes count; fixups = later; individuals = 1 }
size_by Owner.Class number count later = record { bytes = 2 * count; fixups = 0; individuals = 0 }
size_by Owner.Nothing number count later = no_size

abbrev pub size_of : Owner → Property → Size
size_of owner p = size_by owner p.number (length p.values) (later_count p.values)

-- the size of a property that may be there
abbrev pub size_option : Owner → Option Property → Size
size_option owner None = no_size
size_option owner (Some p) = size_of owner p

abbrev pub bytes_of : Owner → List Property → ℕ
bytes_of owner properties = sum_by (λ p. (size_of owner p).bytes) properties

abbrev pub fixups_of : Owner → List Property → ℕ
fixups_of owner properties = sum_by (λ p. (size_of owner p).fixups) properties

abbrev pub individuals_of : Owner → List Property → ℕ
individuals_of owner properties = sum_by (λ p. (size_of owner p).individuals) properties

abbrev pub total : Owner → List Property → Size
total owner properties =
    record { bytes = bytes_of owner properties; fixups = fixups_of owner properties; individuals = individuals_of owner properties }

-- a size with the end of an individual table, and the property that has its address, where there is such a table
abbrev pub with_table : Size → Size
with_table size = if nat_lt 0 size.individuals then record size { bytes = size.bytes + 5; fixups = size.fixups + 1 } else size

abbrev pub table_bytes : Owner → List Property → ℕ
table_bytes owner properties = (with_table (total owner properties)).bytes

-- the number of values that a property has with those of classes, and the number of these that are known later
abbrev pub joined_count : Bool → ℕ → List Value → ℕ
joined_count is_additive count above = count + (if is_additive then length above else 0)

abbrev pub joined_later : Bool → ℕ → List Value → ℕ
joined_later is_additive later above = later + (if is_additive then later_count above else 0)

abbrev pub joined_size : Owner → ℕ → Bool → ℕ → ℕ → List Value → Size
joined_size owner number is_additive count later above =
    size_by owner number (joined_count is_additive count above) (joined_later is_additive later above)

-- `bytes` more bytes, beside those of others, are more than there may be
abbrev pub lacks : Room → ℕ → Bool
lacks room bytes = nat_lt room.limit (room.others + bytes)
