-- The names in the texts.
use Rattle.std.specs.{List.list_all, List.list_any, List.prefix_len, Str.str_eq_ignore_ascii_case}
use Rattle.std.specs.Prelude.{◌≡◌, ℕ, List, [], ◌∷◌, ◌++◌, drop, length, take, map, Bool, true, false, not, ◌&&◌, ◌||◌, ◌==◌, nat_le}
use Rattle.std.specs.Prelude.{if◌then◌else◌}
use Rattle.inf_veneer.specs.Texts.{all_names, all_texts}

-- a byte of a name: a letter, a digit or `_`
abbrev pub is_name_byte : ℕ → Bool
is_name_byte b = (nat_le 97 b && nat_le b 122) || (nat_le 65 b && nat_le b 90) || (nat_le 48 b && nat_le b 57) || b == 95

abbrev pub begins_routine : List ℕ → Bool
begins_routine [] = false
begins_routine (b ∷ bs) = b == 91

-- the name right behind the first byte
abbrev pub header_name : List ℕ → List ℕ
header_name text = take (prefix_len is_name_byte (drop 1 text)) (drop 1 text)

-- the text behind that name
abbrev pub behind_name : List ℕ → List ℕ
behind_name text = drop (length (header_name text)) (drop 1 text)

abbrev pub TextsHaveTheirNames : Type 0
TextsHaveTheirNames = (list_all begins_routine all_texts ≡ true) × (map header_name all_texts ≡ all_names)

-- the runs of bytes of names in a text, behind these bytes of the first run
abbrev pub runs : List ℕ → List ℕ → List (List ℕ)
runs run [] = run ∷ []
runs run (b ∷ bs) = if is_name_byte b then runs (run ++ b ∷ []) bs else run ∷ runs [] bs

-- whether a text has a name; upper and lower case are the same
abbrev pub has_name : List ℕ → List ℕ → Bool
has_name name text = list_any (str_eq_ignore_ascii_case name) (runs [] text)

-- whether no text from a name's own on has the name, but at the front of its own
abbrev pub are_behind : List (List ℕ) → List (List ℕ) → Bool
are_behind (name ∷ names) (text ∷ texts) = not (list_any (has_name name) (behind_name text ∷ texts)) && are_behind names texts
are_behind [] [] = true
are_behind _ _ = false

abbrev pub NamesComeBehind : Type 0
NamesComeBehind = are_behind all_names all_texts ≡ true
