-- Objects and properties in the memory of a story: Z-Machine Standard 1.1, sections 12.1 to 12.4, for versions 4 and later, and Inform
-- Technical Manual, section 9, for individual properties.
use Rattle.std.specs.Prelude.{ℕ, zero, suc, ◌+◌, ◌-◌, ◌*◌, ◌/◌, ◌%◌, ◌==◌, nat_le, Option, Some, None, if◌then◌else◌}
use Rattle.inf_objects.specs.Reading.{long_count}
use Rattle.inf_interpreter.specs.Machine.{◌then◌, less}

-- the bytes of memory, each by its address
abbrev pub Bytes : Type 0
Bytes = ℕ → ℕ

-- an element of an array at an address, by its number
abbrev pub byte_in : Bytes → ℕ → ℕ → ℕ
byte_in m a i = m ((a + i) % 65536)

abbrev pub word_in : Bytes → ℕ → ℕ → ℕ
word_in m a i = 256 * m ((a + 2 * i) % 65536) + m ((a + 2 * i + 1) % 65536)

-- Memory has 65,536 addresses: this bounds the number of rows of a table, and of objects that are the next of one another.
unfoldable pub most_rows : ℕ
most_rows = 65536

-- Objects (sections 12.1 to 12.3): the word at address 10 is the address of 63 words, the defaults of properties, and of the entries of
-- objects behind these, each with 14 bytes: six of attributes, and words that are its parent, its sibling, its child and the address of its
-- property table. There is no object 0.

abbrev pub objects_table : Bytes → ℕ
objects_table m = word_in m 10 0

abbrev pub entry : Bytes → ℕ → ℕ
entry m o = objects_table m + 126 + 14 * (o - 1)

abbrev pub sibling_in : Bytes → ℕ → ℕ
sibling_in m o = if o == 0 then 0 else word_in m (entry m o) 4

abbrev pub child_in : Bytes → ℕ → ℕ
child_in m o = if o == 0 then 0 else word_in m (entry m o) 5

abbrev pub property_table : Bytes → ℕ → ℕ
property_table m o = word_in m (entry m o) 6

abbrev pub default_in : Bytes → ℕ → ℕ
default_in m p = word_in m (objects_table m) (p - 1)

-- the number of an object's children: an object and those that are the next of one another, behind `n` others
abbrev pub count_from : ℕ → Bytes → ℕ → ℕ → Option ℕ
count_from zero m o n = None
count_from (suc most) m o n = if o == 0 then Some n else count_from most m (sibling_in m o) ((n + 1) % 65536)

abbrev pub children_in : Bytes → ℕ → Option ℕ
children_in m o = count_from most_rows m (child_in m o) 0

-- Property tables (section 12.4): the number of words of the short name, the name, and the rows of properties up to a byte 0. The lower six
-- bits of a row's first byte are the number of the property. With its top bit set a second byte has the length of the data in its lower six
-- bits, where 0 is 64; else the length is 1 or 2, by the next bit.

-- the length of the data, by the byte in front of them
abbrev pub size_by : ℕ → ℕ
size_by byte = if nat_le 128 byte then long_count byte else 1 + byte / 64 % 2

abbrev pub row_size : Bytes → ℕ → ℕ
row_size m row = if nat_le 128 (byte_in m row 0) then long_count (byte_in m row 1) else 1 + byte_in m row 0 / 64 % 2

abbrev pub data_of : Bytes → ℕ → ℕ
data_of m row = if nat_le 128 (byte_in m row 0) then (row + 2) % 65536 else (row + 1) % 65536

-- the length of the data at an address: 0 at the address 0
abbrev pub length_in : Bytes → ℕ → ℕ
length_in m start = if start == 0 then 0 else size_by (byte_in m start 65535)

abbrev pub next_row : Bytes → ℕ → ℕ
next_row m row = (data_of m row + row_size m row) % 65536

-- The row of a property in a table, if there is one, from a row on. A table that does not end has no rows.
abbrev pub row_from : ℕ → Bytes → ℕ → ℕ → Option (Option ℕ)
row_from zero m p row = None
row_from (suc most) m p row =
    if byte_in m row 0 == 0 then Some None
    else if byte_in m row 0 % 64 == p then Some (Some row)
    else row_from most m p (next_row m row)

abbrev pub first_row : Bytes → ℕ → ℕ
first_row m table = (table + 1 + 2 * byte_in m table 0) % 65536

unfoldable pub row_in : Bytes → ℕ → ℕ → Option (Option ℕ)
row_in m o p = if o == 0 then None else row_from most_rows m p (first_row m (property_table m o))

-- The opcodes that ask of a property (section 15): the address of its data, which is 0 where the object does not have it, and its value,
-- which is the default where the object does not have it, and nothing is said of data that are neither a byte nor a word.

abbrev pub row_address : Bytes → Option ℕ → ℕ
row_address m None = 0
row_address m (Some row) = data_of m row

abbrev pub address_in : Bytes → ℕ → ℕ → Option ℕ
address_in m o p = row_in m o p then λ row. Some (row_address m row)

abbrev pub value_at : Bytes → ℕ → ℕ → Option ℕ
value_at m start size = if size == 1 then Some (byte_in m start 0) else if size == 2 then Some (word_in m start 0) else None

abbrev pub row_value : Bytes → ℕ → Option ℕ → Option ℕ
row_value m p None = Some (default_in m p)
row_value m p (Some row) = value_at m (data_of m row) (row_size m row)

unfoldable pub value_in : Bytes → ℕ → ℕ → Option ℕ
value_in m o p = row_in m o p then λ row. row_value m p row

-- Individual properties: property 3 of an object is the address of a table of these, each with its number in a word, the length of its data
-- in a byte, and the data, up to a word 0. The place of a property there is the one of its length, and 0 where it has none.

abbrev pub own_from : ℕ → Bytes → ℕ → ℕ → Option ℕ
own_from zero m p row = None
own_from (suc most) m p row =
    if word_in m row 0 == 0 then Some 0
    else if word_in m row 0 == p then Some ((row + 2) % 65536)
    else own_from most m p (((row + 3) % 65536 + byte_in m row 2) % 65536)

abbrev pub own_behind : Bytes → ℕ → ℕ → Option ℕ
own_behind m p list = if list == 0 then Some 0 else own_from most_rows m p (word_in m list 0)

abbrev pub own_in : Bytes → ℕ → ℕ → Option ℕ
own_in m o p = address_in m o 3 then λ list. own_behind m p list

-- Any property: numbers below 64 are those of the property table, and others are individual ones.

abbrev pub own_address : ℕ → ℕ
own_address place = if place == 0 then 0 else (place + 1) % 65536

abbrev pub own_length : Bytes → ℕ → ℕ
own_length m place = if place == 0 then 0 else byte_in m place 0

abbrev pub own_value : Bytes → ℕ → ℕ
own_value m place = if place == 0 then 0 else word_in m ((place + 1) % 65536) 0

abbrev pub any_address : Bytes → ℕ → ℕ → Option ℕ
any_address m o p = if less p 64 then address_in m o p else (own_in m o p then λ place. Some (own_address place))

abbrev pub any_length : Bytes → ℕ → ℕ → Option ℕ
any_length m o p =
    if less p 64 then (address_in m o p then λ start. Some (length_in m start))
    else (own_in m o p then λ place. Some (own_length m place))

abbrev pub any_value : Bytes → ℕ → ℕ → Option ℕ
any_value m o p = if less p 64 then value_in m o p else (own_in m o p then λ place. Some (own_value m place))
