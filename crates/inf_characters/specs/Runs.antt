-- Runs of bytes that are a character each. Only the crate's private clauses cite them.
use Rattle.std.specs.Prelude.{ℕ, suc, ◌==◌, nat_le, Bool, false, not, ◌&&◌, ◌||◌, List, [], ◌∷◌, map, if◌then◌else◌}
use Rattle.inf_characters.specs.declared.texts.TextItem.{TextItem}

-- letters, digits and the signs that are themselves in every mode: ASCII behind the space, but for `@`, `\`, `]`, `^` and `~`
abbrev pub is_itself : ℕ → Bool
is_itself b = (nat_le 95 b && nat_le b 125) || (nat_le 33 b && nat_le b 91 && not (b == 64))

-- the first of some bytes is itself
abbrev pub begins_itself : List ℕ → Bool
begins_itself [] = false
begins_itself (b ∷ bytes) = is_itself b

-- a byte is a character by itself, where others come behind it: a space may begin a longer run of white space
abbrev pub is_single : ℕ → List ℕ → Bool
is_single b bytes = is_itself b || ((b == 32) && begins_itself bytes)

-- the number of bytes at the front that are a character each
abbrev pub run_len : List ℕ → ℕ
run_len [] = 0
run_len (b ∷ bytes) = if is_single b bytes then suc (run_len bytes) else 0

-- the characters of these codes
abbrev pub characters : List ℕ → List TextItem
characters bytes = map TextItem.Character bytes
