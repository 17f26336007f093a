-- Facts that calls on a reader of files keep.
use Rattle.std.specs.{List.list_any, Str.bytes_eq}
use Rattle.std.specs.Prelude.{◌≡◌, ◌+◌, ◌<◌, ◌≤◌, ◌⊎◌, ℕ, List, [], ◌∷◌, IsTrue, length, map, min, Bool, true, false, Result, Ok, Err}
use Rattle.inf_devices.specs.{Files.Openings, Files.Rose, Files.last_count, Files.most_source_bytes, declared.files.Files.Ghosts as Files}
use Rattle.inf_lexer.specs.{Entering.OpensOn, Entering.StaysOpened, Names.number_of, Readers.Reader, Reading.ReadsOn, Reading.Unless}
use Rattle.inf_sources.specs.Open.{AllGiven, Each, Fits, IsNested, Open, lexers, opened_since}
use Rattle.inf_sources.specs.declared.{faults.IncludeFault.IncludeFault, open_files.Included.Included}

-- `P` holds, with an honest reader, for all openings before the files that are open.
abbrev pub Honestly : {S : Type 0} → Files S → S → Open → (Openings → Type 0) → Type 0
Honestly f old before P = IsTrue (f.is_honest old) → (start : Openings) → IsNested start (f.openings old) before → P start

-- the number of bytes that each lexer of an open file was given, the innermost first
abbrev pub given_each : Open → List ℕ
given_each f = map (λ (r : Reader). r.window.given) (lexers f)

-- A reader counts for each open file at least as many bytes as its lexer was given; where one is too long by this count, an opening more
-- is counted as too long than `base`.
abbrev pub AreCounted : ℕ → List ℕ → List ℕ → ℕ → Type 0
AreCounted base [] counts too_long = min base last_count ≤ too_long
AreCounted base (given ∷ outer) [] too_long = ⊥
AreCounted base (given ∷ outer) (count ∷ counts) too_long =
    ((given ≤ count) × (most_source_bytes < count → min (base + 1) last_count ≤ too_long)) × AreCounted base outer counts too_long

-- A call keeps the sources and the honesty of the reader, each failure is counted, and no name that was opened is forgotten.
pub record Kept {S : Type 0} (f : Files S) (old new : S) : Type 0 where
  pub sources : f.sources new ≡ f.sources old
  pub honesty : f.is_honest new ≡ f.is_honest old
  pub faults : f.faults old ≤ f.faults new
  pub opened : StaysOpened (f.opened old) (f.opened new)

-- A call keeps the given bytes of each opening a front of its source, and each open file tracked.
abbrev pub StaysGiven : {S : Type 0} → Files S → S → S → Open → Open → Type 0
StaysGiven f old new before after = Honestly f old before (λ start. AllGiven (f.sources old) (length start.all) (f.openings old) before
    → AllGiven (f.sources old) (length start.all) (f.openings new) after)

-- A call opens and closes just the files that are open now in place of those that were. The reader goes on to count the bytes that each of
-- these is given, and which of them are too long, and keeps the names that were opened: each known name is one. With an honest reader the
-- files stay nested, and their given bytes a front of their sources.
pub record Went {S : Type 0} (f : Files S) (old new : S) (before after : Open) : Type 0 where
  pub sources : f.sources new ≡ f.sources old
  pub honesty : f.is_honest new ≡ f.is_honest old
  pub faults : f.faults old ≤ f.faults new
  pub depth : f.depth new + length before.outer ≡ f.depth old + length after.outer
  pub counted : (base : ℕ) → AreCounted base (given_each before) (f.counts old).each (f.counts old).too_long
      → AreCounted base (given_each after) (f.counts new).each (f.counts new).too_long
  pub opened : OpensOn before.nest.names after.nest.names (f.opened old) (f.opened new)
  pub nested : Honestly f old before (λ start. IsNested start (f.openings new) after)
  pub stays_given : StaysGiven f old new before after

-- A call gives no opening more bytes than a source may have.
abbrev pub StaysFit : {S : Type 0} → Files S → S → S → Open → Type 0
StaysFit f old new before = Honestly f old before (λ start. AllGiven (f.sources old) (length start.all) (f.openings old) before
    → Each Fits (length start.all) (f.openings old).all → Each Fits (length start.all) (f.openings new).all)

-- A call read on in the innermost file, and nothing else changed; where `failed` is true, the file could at last not be read further.
pub record ReadsFile {S : Type 0} (f : Files S) (failed : Bool) (old new : S) (before after : Open) : Type 0 where
  pub went : Went f old new before after
  pub on : ReadsOn f failed old new before.lexer.window after.lexer.window
  pub opened : Honestly f old before (λ start. opened_since start (f.openings new) ≡ opened_since start (f.openings old))
  pub fits : Unless failed (StaysFit f old new before)
  pub nest : after.nest ≡ before.nest
  pub outer : after.outer ≡ before.outer
  pub file : after.lexer.file ≡ before.lexer.file

-- A call asked for one name more than can be numbered, which is among those opened.
pub record AskedTooMany {S : Type 0} (f : Files S) (new : S) (after : Open) : Type 0 where
  pub name : List ℕ
  pub is_too_many : 65535 ≤ number_of name after.nest.names
  pub is_opened : list_any (bytes_eq name) (f.opened new) ≡ true

-- A file could not be opened or read: the device failed, the innermost file is too long, or too many names were opened.
abbrev pub IsUnreadable : {S : Type 0} → Files S → S → S → Open → Open → Type 0
IsUnreadable f old new before after =
    Rose (f.faults old) (f.faults new) ⊎ ((16777216 < after.lexer.window.given) ⊎ AskedTooMany f new after)

-- whether an inclusion entered a file
abbrev pub has_entered : {E : Type 0} → Result Included E → Bool
has_entered (Ok Included.Entered) = true
has_entered _ = false

-- whether an inclusion could not be tried since the reader failed, or since a name was one too many
abbrev pub tells_device : {T : Type 0} → Result T IncludeFault → Bool
tells_device (Err IncludeFault.Device) = true
tells_device _ = false
