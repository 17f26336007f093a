-- The names of files, and those that the text of an inclusion means (Designer's Manual, fourth edition, sections 38 and 39).
use Rattle.std.specs.{List.list_all, List.position_or_len, Str.bytes_eq}
use Rattle.std.specs.Prelude.{ℕ, ◌-◌, List, [], ◌∷◌, ◌++◌, length, take, map, Bool, false, not, ◌&&◌, ◌||◌, ◌==◌, nat_lt, codes}
use Rattle.std.specs.Prelude.{if◌then◌else◌, Option, Some, None, unwrap_or, slice_get}
use Rattle.inf_characters.specs.declared.characters.CharSet.{CharSet}
pub use Rattle.inf_devices.specs.Files.{with_name}

-- Nested files: the character set, the number of bytes that a quoted token may have, the names that were opened, each
-- at its number, and the numbers of the open files, the innermost last.
pub record Nest : Type 0 where
  pub set : CharSet
  pub limit : ℕ
  pub names : List (List ℕ)
  pub open_files : List ℕ

-- the number of a name: how many came before it
abbrev pub number_of : List ℕ → List (List ℕ) → ℕ
number_of name names = position_or_len (bytes_eq name) names

-- the files with one more entered
abbrev pub entered : List ℕ → Nest → Nest
entered name n = record {
  set = n.set;
  limit = n.limit;
  names = with_name name n.names;
  open_files = n.open_files ++ number_of name n.names ∷ [];
}

-- the files with the innermost one closed
abbrev pub left : Nest → Nest
left n = record { set = n.set; limit = n.limit; names = n.names; open_files = take (length n.open_files - 1) n.open_files }

-- the name of a file by its number: nothing where none is open
abbrev pub name_at : Option ℕ → List (List ℕ) → List ℕ
name_at None names = []
name_at (Some file) names = unwrap_or (slice_get names file) []

abbrev pub innermost_name : Nest → List ℕ
innermost_name n = name_at (slice_get n.open_files (length n.open_files - 1)) n.names

-- The text of an inclusion: whether the sign `>` is at its front, and the name behind the sign.
abbrev pub has_sign : List ℕ → Bool
has_sign [] = false
has_sign (b ∷ bs) = b == 62

abbrev pub behind_sign : List ℕ → List ℕ
behind_sign [] = []
behind_sign (b ∷ bs) = if b == 62 then bs else b ∷ bs

-- a name that is not empty, and of ASCII alone
abbrev pub is_fit : List ℕ → Bool
is_fit name = not (length name == 0) && list_all (λ b. nat_lt b 128) name

abbrev pub can_name : List ℕ → Bool
can_name text = is_fit (behind_sign text)

-- whether there is a `.` behind the last `/`, where `dot` says whether there is one before these bytes
abbrev pub has_dot : Bool → List ℕ → Bool
has_dot dot [] = dot
has_dot dot (b ∷ bs) = has_dot (b == 46 || (dot && not (b == 47))) bs

-- the name of a file behind its directory, with `.h` where it has no extension
abbrev pub placed : List ℕ → List ℕ → List ℕ
placed directory file = if has_dot false file then directory ++ file else directory ++ file ++ codes ".h"

-- the name of a file in a directory, or by itself where that is empty
abbrev pub name_in : List ℕ → List ℕ → List ℕ
name_in directory file = placed (if length directory == 0 then directory else directory ++ codes "/") file

abbrev pub has_slash : List ℕ → Bool
has_slash [] = false
has_slash (b ∷ bs) = b == 47 || has_slash bs

-- a name up to its last `/`
abbrev pub directory_of : List ℕ → List ℕ
directory_of [] = []
directory_of (b ∷ bs) = if b == 47 || has_slash bs then b ∷ directory_of bs else []

-- the name of a file beside another one
abbrev pub name_beside : List ℕ → List ℕ → List ℕ
name_beside other file = placed (directory_of other) file

-- the names of a file in some directories, in their order; its name by itself where there are none
abbrev pub names_in : List (List ℕ) → List ℕ → List (List ℕ)
names_in directories file = if length directories == 0 then name_in [] file ∷ [] else map (λ directory. name_in directory file) directories

-- the names under which the file of an inclusion is looked for, in their order
abbrev pub candidates : List (List ℕ) → List ℕ → List ℕ → List (List ℕ)
candidates directories including text =
    if has_sign text then name_beside including (behind_sign text) ∷ [] else names_in directories (behind_sign text)
