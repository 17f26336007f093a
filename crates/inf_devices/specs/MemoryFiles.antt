-- Files in memory: their sources, and the openings of their records.
use Rattle.std.specs.{BTreeMap.BTreeMap, Cmp.Lexicographic.slice_cmp, Map.lookup, String.string_bytes, declared.alloc.Global.Global}
use Rattle.std.specs.Prelude.{◌≡◌, ℕ, ◌+◌, ◌<◌, ◌≤◌, ◌==◌, ◌||◌, List, map, length, take, Some, unwrap_or, All, [], String, Vec}
use Rattle.std.specs.Ordering.{is_eq, nat_cmp}
use Rattle.inf_devices.specs.{Files.Counts, Files.Opening, Files.Openings, Files.Sources, declared.memory_files.Opened.Opened}

-- a map from names to bytes, as the list of its entries in the names' order
abbrev pub kept_in : BTreeMap (String Global) (Vec ℕ Global) → List (List ℕ × List ℕ)
kept_in kept = map (λ e. (string_bytes e.0, e.1.items)) kept.entries

-- the sources of a list of names and bytes
abbrev pub sources_of : List (List ℕ × List ℕ) → Sources
sources_of kept name = lookup (λ key. is_eq (slice_cmp nat_cmp name key)) kept

-- the opening of a record, by the number of bytes that were given
abbrev pub opening_of : Sources → Opened → Opening
opening_of sources o = record {
  name = string_bytes o.name;
  given = take o.given (unwrap_or (sources (string_bytes o.name)) []);
  is_read_out = o.is_read_out;
}

-- the openings of records, with the places of the open ones
abbrev pub openings_of : Sources → List Opened → List ℕ → Openings
openings_of sources opened places = record { all = map (opening_of sources) opened; open_places = places }

-- the record after `count` more bytes were given: none are the end
abbrev pub given_more : Opened → ℕ → Opened
given_more o count = record { name = o.name; given = o.given + count; is_read_out = count == 0 || o.is_read_out }

-- a record of a source that is there, of which no more was given than it has
pub record IsOpening (sources : Sources) (o : Opened) : Type 0 where
  pub whole : List ℕ
  pub is_source : sources (string_bytes o.name) ≡ Some whole
  pub within : o.given ≤ length whole

-- records of openings, with the open ones among them
pub record AreOpenings (sources : Sources) (opened : List Opened) (places : List ℕ) : Type 0 where
  pub each : All (IsOpening sources) opened
  pub open_ones : All (λ place. place < length opened) places

-- the state of files in memory: their sources, which stay, the openings so far, and how many bytes were given of those that are open
pub record MemoryState : Type 0 where
  pub kept : List (List ℕ × List ℕ)
  pub openings : Openings
  pub counts : Counts
