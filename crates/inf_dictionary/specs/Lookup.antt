-- How an interpreter looks for a word in a dictionary that is written: by halves, since the entries rise (Z-Machine Standard 1.1,
-- section 13.5).
use Rattle.std.specs.{Cmp.Lexicographic.slice_cmp, Ordering.match_ordering, Ordering.nat_cmp}
use Rattle.std.specs.Prelude.{ℕ, zero, suc, ◌+◌, ◌-◌, ◌*◌, ◌/◌, List, Option, Some, None, take, drop, nat_le, if◌then◌else◌}
use Rattle.inf_dictionary.specs.Texts.{Text}

-- the text of the entry at a place, behind the seven bytes of the head
abbrev pub text_written : List ℕ → ℕ → Text
text_written bytes place = take 6 (drop (7 + 9 * place) bytes)

-- the place half way from one to another
abbrev pub half_way : ℕ → ℕ → ℕ
half_way first end = first + (end - first) / 2

-- the place of a text among the entries from `first` on and before `end`, where at most the given number of steps finds it
abbrev pub found_by_halves : ℕ → List ℕ → Text → ℕ → ℕ → Option ℕ
found_by_halves zero bytes text first end = None
found_by_halves (suc steps) bytes text first end =
    if nat_le end first then None
    else match_ordering (slice_cmp nat_cmp text (text_written bytes (half_way first end)))
    (found_by_halves steps bytes text first (half_way first end)) (Some (half_way first end))
    (found_by_halves steps bytes text (half_way first end + 1) end)
