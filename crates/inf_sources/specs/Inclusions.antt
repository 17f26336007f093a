-- The file that an inclusion opens, and the files that are open then (Designer's Manual, fourth edition, sections 38 and 39).
use Rattle.std.specs.Prelude.{◌≡◌, ℕ, ◌+◌, ◌≤◌, ◌⊎◌, List, [], ◌∷◌, ◌++◌, length, map, nat_le, not, Bool, if◌then◌else◌, Option, Some, None}
use Rattle.std.specs.Prelude.{slice_get, unwrap_or, Result, Ok, Err}
use Rattle.inf_characters.specs.declared.characters.CharSet.{CharSet}
use Rattle.inf_devices.specs.Files.{Sources}
use Rattle.inf_lexer.specs.{Entering.first_there, Names.can_name, Names.candidates, Names.number_of, Names.with_name}
use Rattle.inf_sources.specs.declared.{faults.IncludeFault.IncludeFault, open_file.Conditional.Conditional, open_files.Included.Included}
use Rattle.inf_sources.specs.Cursors.{Cursor, front}

-- A file that waits for one that it includes: its rest; the conditionals that are open between its directives, the latest first; and
-- whether its routines may be replaced.
pub record Waiting : Type 0 where
  pub cursor : Cursor
  pub conditionals : List Conditional
  pub is_system : Bool

-- the rests of some files that wait
abbrev pub cursors_of : List Waiting → List Cursor
cursors_of waiting = map (λ (w : Waiting). w.cursor) waiting

-- The files that are open: the names that were opened, each at its number; the names of all openings in their order; the rest of the
-- innermost file; and the files that wait for it, the inner ones first.
pub record Nesting : Type 0 where
  pub names : List (List ℕ)
  pub openings : List (List ℕ)
  pub cursor : Cursor
  pub waiting : List Waiting

-- the rests of all open files, the innermost first
abbrev pub cursors : Nesting → List Cursor
cursors n = n.cursor ∷ cursors_of n.waiting

-- the front of the source of this name, which gets the next number, if the name is new
abbrev pub front_of : CharSet → ℕ → Sources → List ℕ → List (List ℕ) → Cursor
front_of set limit sources name names = front set limit (number_of name names) (unwrap_or (sources name) [])

-- the main source, open alone
abbrev pub main_opened : CharSet → ℕ → Sources → List ℕ → Nesting
main_opened set limit sources name = record {
  names = with_name name [];
  openings = name ∷ [];
  cursor = front_of set limit sources name [];
  waiting = [];
}

-- the open files with one more, the innermost; the one that waits for it has these conditionals open, and this mark
abbrev pub with_opened : CharSet → ℕ → Sources → List Conditional → Bool → List ℕ → Nesting → Nesting
with_opened set limit sources conditionals is_system name n = record {
  names = with_name name n.names;
  openings = n.openings ++ name ∷ [];
  cursor = front_of set limit sources name n.names;
  waiting = record { cursor = n.cursor; conditionals = conditionals; is_system = is_system } ∷ n.waiting;
}

-- the open files without the innermost, where another waits for it
abbrev pub resumed : List Waiting → Nesting → Nesting
resumed [] n = n
resumed (w ∷ waiting) n = record n { cursor = w.cursor; waiting = waiting }

abbrev pub closed : Nesting → Nesting
closed n = resumed n.waiting n

-- the name of the innermost file
abbrev pub innermost_name : Nesting → List ℕ
innermost_name n = unwrap_or (slice_get n.names n.cursor.file) []

-- the most files that may be open
abbrev pub most_open : ℕ
most_open = 16

-- The outcome of an inclusion: the file that it opens, or the reason why it opens none.
pub data Inclusion : Type 0 where
  Opens : (name : List ℕ) → Inclusion
  OpensNone : (why : Included) → Inclusion

-- the inclusion that opens the first of the names that it may mean, if one is there
abbrev pub by_first : Option (List ℕ) → Inclusion
by_first None = OpensNone Included.NotThere
by_first (Some name) = Opens name

-- the outcome of an inclusion, by its text: one that can be no file's name is that of no file
abbrev pub inclusion : Sources → List (List ℕ) → List ℕ → Nesting → Inclusion
inclusion sources directories text n = if not (can_name text) then OpensNone Included.NotThere else
    if nat_le most_open (length n.waiting + 1) then OpensNone Included.TooDeep
    else by_first (first_there sources (candidates directories (innermost_name n) text))

-- the open files behind an inclusion, by the conditionals and the mark of the innermost file
abbrev pub nested_by : CharSet → ℕ → Sources → List Conditional → Bool → Inclusion → Nesting → Nesting
nested_by set limit sources conditionals is_system (Opens name) n = with_opened set limit sources conditionals is_system name n
nested_by set limit sources conditionals is_system (OpensNone why) n = n

-- the result that is returned for an inclusion
abbrev pub answer_of : Inclusion → Included
answer_of (Opens name) = Included.Entered
answer_of (OpensNone why) = why

-- The inclusion opened a file that is one more than can be numbered, and was closed at once.
pub record OpensTooMany (i : Inclusion) (was : Nesting) (openings : List (List ℕ)) : Type 0 where
  pub name : List ℕ
  pub is_opened : i ≡ Opens name
  pub is_too_many : 65535 ≤ number_of name was.names
  pub openings_are : openings ≡ was.openings ++ name ∷ []

-- The openings where an inclusion could not be tried are those before, or one more that was too many.
abbrev pub OpenedInVain : IncludeFault → Inclusion → Nesting → List (List ℕ) → Type 0
OpenedInVain IncludeFault.Memory i was openings = openings ≡ was.openings
OpenedInVain IncludeFault.Device i was openings = (openings ≡ was.openings) ⊎ OpensTooMany i was openings

-- An inclusion, by its answer: the file that is opened, or none, and the open files then.
abbrev pub Includes : CharSet → ℕ → Sources → List Conditional → Bool → Inclusion → Nesting → Nesting → Result Included IncludeFault
    → Type 0
Includes set limit sources conditionals is_system i was now (Ok included) =
    (included ≡ answer_of i) × (now ≡ nested_by set limit sources conditionals is_system i was)
Includes set limit sources conditionals is_system i was now (Err fault) = OpenedInVain fault i was now.openings
