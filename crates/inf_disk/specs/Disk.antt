-- Devices of the system: the answers of their calls, by the answers of the system.
use Rattle.std.specs.{List.ends_with, declared.fs.options.OpenOptions.OpenOptions, declared.io.ErrorKind.ErrorKind}
use Rattle.std.specs.Prelude.{◌≡◌, ◌⊎◌, ⊤, ℕ, ◌-◌, length, slice_get, slice_set, List, [], ◌∷◌, ◌++◌, Option, Some, None, Result, Ok, Err}
use Rattle.std.specs.Prelude.{Bool, true, ◌==◌, ◌||◌, codes}
use Rattle.std.specs.Fs.{new_options, with_write, with_create, with_truncate, with_create_new}
use Rattle.std.specs.Io.KnownBytes.{ReadConsumes, WriteAppends}
use Rattle.inf_devices.specs.declared.files.OpenFault.{OpenFault}

-- the fault of a file that cannot be opened: it is absent where none has the name, or none can have it
abbrev pub fault_of_kind : ErrorKind → OpenFault
fault_of_kind ErrorKind.NotFound = OpenFault.Absent
fault_of_kind ErrorKind.NotADirectory = OpenFault.Absent
fault_of_kind ErrorKind.InvalidInput = OpenFault.Absent
fault_of_kind ErrorKind.InvalidFilename = OpenFault.Absent
fault_of_kind ErrorKind.OutOfMemory = OpenFault.Memory
fault_of_kind _ = OpenFault.Device

-- A file is taken for a source by the end of its name: `.inf` or `.h`.
abbrev pub is_named_as_source : List ℕ → Bool
is_named_as_source name = ends_with (◌==◌) name (codes ".inf") || ends_with (◌==◌) name (codes ".h")

-- The story's file is written from its front, made where there is none, and cut to nothing where there is one; one that is named as a source
-- is made anew or not at all.
abbrev pub story_options : List ℕ → OpenOptions
story_options name = with_create_new (with_truncate (with_create (with_write new_options true) true) true) (is_named_as_source name)

-- An opening that succeeds adds a file behind the open ones. Any other leaves them as they were, and has its fault by the system's reason,
-- which is kept; but for want of memory it may fail with no reason of the system, and then the reason that was kept before stays.
abbrev pub OpensFile : {F : Type 0} → List F → List F → Option ErrorKind → Option ErrorKind → Result Unit OpenFault → Type 0
OpensFile {F} old new before reason (Ok _) = (reason ≡ None) × (file : F) × (new ≡ old ++ file ∷ [])
OpensFile old new before reason (Err OpenFault.Memory) =
    (new ≡ old) × ((reason ≡ before) ⊎ ((kind : ErrorKind) × (reason ≡ Some kind) × (fault_of_kind kind ≡ OpenFault.Memory)))
OpensFile old new before reason (Err refused) = (new ≡ old) × (kind : ErrorKind) × (reason ≡ Some kind) × (refused ≡ fault_of_kind kind)

-- a read of the last of the open files, and no other changed
abbrev pub ReadsLast : {F E : Type 0} → (F → Option (List ℕ)) → List F → List F → Result ℕ E → List ℕ → Type 0
ReadsLast {F} remaining old new answer buffer = (before : F) × (after : F) × (slice_get old (length old - 1) ≡ Some before)
    × (new ≡ slice_set old (length old - 1) after) × ReadConsumes (remaining before) (remaining after) answer buffer

-- A write to a file that is made first where there is none yet. Where it cannot be made, nothing is written.
abbrev pub WritesMade : {F E : Type 0} → (F → Option (List ℕ)) → Option F → Option F → Result ℕ E → List ℕ → Type 0
WritesMade {F} contents (Some before) new answer bytes =
    (after : F) × (new ≡ Some after) × WriteAppends (contents before) (contents after) answer bytes
WritesMade {F} contents None (Some after) answer bytes = (made : F) × WriteAppends (contents made) (contents after) answer bytes
WritesMade contents None None (Ok _) bytes = ⊥
WritesMade contents None None (Err _) bytes = ⊤
