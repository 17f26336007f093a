-- A line of grammar that has more tokens than the grammar may have bytes. Such a line passes that setting, if nothing is wrong with
-- it. For a further token it matters only whether something is wrong with it, and whether it passes a setting that is told before
-- that one: there are more names, or more words, than there may be.
use Rattle.std.specs.{BTreeMap.insert_entry, BTreeMap.is_at, Cmp.Lexicographic.slice_cmp, Map.lookup, Ordering.nat_cmp}
use Rattle.std.specs.Prelude.{ℕ, ◌||◌, List, [], length, nat_lt, Bool, true, false, if◌then◌else◌, is_some}
use Rattle.inf_scanner.specs.declared.tokens.Place.{Place}
use Rattle.inf_names.specs.Symbols.{Table, no_names, with_used}

-- A long line: the number of tokens of the unit before the one at hand, whether something is wrong with one of them, and the names
-- and the words that came since the line was too long, each once.
pub record LongLine : Type 0 where
  pub count : ℕ
  pub is_bad : Bool
  pub names : Table Place
  pub words : List (List ℕ × Unit {0})

abbrev pub no_tokens : ℕ → Bool → LongLine
no_tokens count is_bad = record { count = count; is_bad = is_bad; names = no_names false; words = [] }

abbrev pub nowhere : Place
nowhere = record { file = 0; line = 0 }

-- A name is added, and a word, of which there may be `most`; and whether it is new, and at most `most` came before.
abbrev pub name_added : List ℕ → ℕ → LongLine → LongLine × Bool
name_added name most l =
    if nat_lt most (length l.names.names) then (l, false)
    else (
      record l { names = with_used name nowhere l.names },
      nat_lt (length l.names.names) (length (with_used name nowhere l.names).names),
    )

abbrev pub word_added : List ℕ → ℕ → LongLine → LongLine × Bool
word_added text most l =
    if nat_lt most (length l.words) || is_some (lookup (is_at (slice_cmp nat_cmp text)) l.words) then (l, false)
    else (record l { words = insert_entry (slice_cmp nat_cmp) l.words text tt }, true)
