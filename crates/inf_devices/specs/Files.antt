-- The statements of a reader of files: the sources that there are, the openings, and the outcome of each.
use Rattle.std.specs.{List.list_any, Str.bytes_eq}
use Rattle.std.specs.Prelude.{◌≡◌, ℕ, ◌<◌, ◌⊎◌, List, [], ◌∷◌, ◌++◌, length, take, Bool, true, false, Option, Some, None, Result, Ok, Err}
use Rattle.std.specs.Prelude.{IsSome, slice_get, slice_set, ◌+◌, ◌&&◌, drop, if◌then◌else◌, min, nat_lt, not}
use Rattle.inf_devices.specs.{declared.files.OpenFault.OpenFault, declared.files.ReadFault.ReadFault}

-- An opening that succeeded: the name, the bytes that were given of the source, and whether its end was read.
pub record Opening : Type 0 where
  pub name : List ℕ
  pub given : List ℕ
  pub is_read_out : Bool

-- the sources by their names
abbrev pub Sources : Type 0
Sources = List ℕ → Option (List ℕ)

-- a source that was opened just now
abbrev pub opened : List ℕ → Opening
opened name = record { name = name; given = []; is_read_out = false }

-- The count of a device's failures has 64 bits, and stays at its last value.
abbrev pub last_count : ℕ
last_count = 18446744073709551615

-- a failure was counted between two moments, or the count is at its last value
abbrev pub Rose : ℕ → ℕ → Type 0
Rose before now = (before < now) ⊎ (now ≡ last_count)

-- the most bytes that a source may have
abbrev pub most_source_bytes : ℕ
most_source_bytes = 16777216

-- The numbers of bytes that were given of each source that is open, the innermost first, and the number of openings so far of which more
-- bytes were given than a source may have. Each number has 64 bits, and stays at its last value.
pub record Counts : Type 0 where
  pub each : List ℕ
  pub too_long : ℕ

abbrev pub nothing_given : Counts
nothing_given = record { each = []; too_long = 0 }

-- the counts where one more source is open, the innermost, and where the innermost is closed
abbrev pub counts_opened : Counts → Counts
counts_opened c = record { each = 0 ∷ c.each; too_long = c.too_long }

abbrev pub counts_closed : Counts → Counts
counts_closed c = record { each = drop 1 c.each; too_long = c.too_long }

-- whether a source has more bytes than it may have, where `count` were given of it
abbrev pub is_too_long : ℕ → Bool
is_too_long count = nat_lt most_source_bytes count

-- the counts of the open sources, where `n` bytes more were given of the innermost, if one is open
abbrev pub each_given : ℕ → List ℕ → List ℕ
each_given n [] = []
each_given n (count ∷ outer) = min (count + n) last_count ∷ outer

-- the number of openings that are too long, where `n` bytes more were given of the innermost: one more where it becomes so
abbrev pub too_long_given : ℕ → List ℕ → ℕ → ℕ
too_long_given n [] too_long = too_long
too_long_given n (count ∷ outer) too_long =
    if is_too_long (min (count + n) last_count) && not (is_too_long count) then min (too_long + 1) last_count else too_long

abbrev pub counts_given : ℕ → Counts → Counts
counts_given n c = record { each = each_given n c.each; too_long = too_long_given n c.each c.too_long }

-- the counts after a read of the innermost source, by its answer
abbrev pub counts_read : Result ℕ ReadFault → Counts → Counts
counts_read (Ok n) c = counts_given n c
counts_read (Err _) c = c

-- whether an attempt to open a source says that the device failed
abbrev pub tells_failure : Result Unit OpenFault → Bool
tells_failure (Err OpenFault.Device) = true
tells_failure _ = false

-- names with one more, behind the others where it is not among them
abbrev pub with_name : List ℕ → List (List ℕ) → List (List ℕ)
with_name name names = if list_any (bytes_eq name) names then names else names ++ name ∷ []

-- the different names of some openings, in the order of their first ones, behind other names
abbrev pub names_from : List (List ℕ) → List Opening → List (List ℕ)
names_from names [] = names
names_from names (o ∷ openings) = names_from (with_name o.name names) openings

-- The openings in their order, and the places there of the sources that are open, the innermost last.
pub record Openings : Type 0 where
  pub all : List Opening
  pub open_places : List ℕ

-- the openings after an attempt to open a source, by its answer: only a source that isn't there is called absent
abbrev pub Opens : Sources → List ℕ → Openings → Openings → Result Unit OpenFault → Type 0
Opens sources name old new (Ok _) =
    IsSome (sources name) × (new ≡ record { all = old.all ++ opened name ∷ []; open_places = old.open_places ++ length old.all ∷ [] })
Opens sources name old new (Err OpenFault.Absent) = (sources name ≡ None) × (new ≡ old)
Opens sources name old new (Err _) = new ≡ old

-- The source at this place gives these bytes next: those that follow the ones given before, and none only at its end.
pub record GivesNext (sources : Sources) (before : Opening) (bytes : List ℕ) : Type 0 where
  pub whole : List ℕ
  pub rest : List ℕ
  pub is_source : sources before.name ≡ Some whole
  pub in_order : whole ≡ before.given ++ bytes ++ rest
  pub end_only : bytes ≡ [] → rest ≡ []

-- the opening after these bytes: no bytes are the end
abbrev pub after_bytes : Opening → List ℕ → Opening
after_bytes before [] = record { name = before.name; given = before.given; is_read_out = true }
after_bytes before (b ∷ bytes) = record { name = before.name; given = before.given ++ (b ∷ bytes); is_read_out = before.is_read_out }

-- The innermost source gave these bytes, and nothing else changed.
pub record GivesInnermost (sources : Sources) (old new : Openings) (bytes : List ℕ) : Type 0 where
  pub outer : List ℕ
  pub place : ℕ
  pub before : Opening
  pub innermost : old.open_places ≡ outer ++ place ∷ []
  pub was_opened : slice_get old.all place ≡ Some before
  pub gives : GivesNext sources before bytes
  pub after : new ≡ record { all = slice_set old.all place (after_bytes before bytes); open_places = old.open_places }

-- the openings after a read into a buffer, by its answer
abbrev pub Reads : Sources → Openings → Openings → List ℕ → Result ℕ ReadFault → Type 0
Reads sources old new buffer (Ok n) = GivesInnermost sources old new (take n buffer)
Reads sources old new buffer (Err _) = new ≡ old

-- the innermost source is closed, and nothing else changes
pub record Closes (old new : Openings) : Type 0 where
  pub place : ℕ
  pub innermost : old.open_places ≡ new.open_places ++ place ∷ []
  pub same : new.all ≡ old.all
