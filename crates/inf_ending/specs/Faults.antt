-- The causes of a fault of each kind.
use Rattle.std.specs.Prelude.{◌≡◌, ℕ, List, string_bytes, IfErr, OnOk, Option, Result, unwrap_or}
use Rattle.inf_ending.specs.{declared.faults.Fault.Fault, declared.faults.Halt.Halt}

-- A fault of reading, with the name that it tells, and one of writing messages have their causes. A fault of writing the story never comes.
abbrev pub Caused : Fault → (List ℕ → Type 0) → Type 0 → Type 0
Caused Fault.Memory P Q = Unit {0}
Caused (Fault.Read name) P Q = P (string_bytes name)
Caused Fault.Messages P Q = Q
Caused (Fault.Story n) P Q = ⊥

abbrev pub IfRead : Fault → (List ℕ → Type 0) → Type 0
IfRead (Fault.Read name) P = P (string_bytes name)
IfRead Fault.Memory P = Unit {0}
IfRead Fault.Messages P = Unit {0}
IfRead (Fault.Story n) P = Unit {0}

abbrev pub IfStory : Fault → (ℕ → Type 0) → Type 0
IfStory (Fault.Story n) P = P n
IfStory Fault.Memory P = Unit {0}
IfStory (Fault.Read name) P = Unit {0}
IfStory Fault.Messages P = Unit {0}

abbrev pub UnlessStory : Fault → Type 0 → Type 0
UnlessStory (Fault.Story n) P = Unit {0}
UnlessStory Fault.Memory P = P
UnlessStory (Fault.Read name) P = P
UnlessStory Fault.Messages P = P

abbrev pub UnlessMessages : Fault → Type 0 → Type 0
UnlessMessages Fault.Messages P = Unit {0}
UnlessMessages Fault.Memory P = P
UnlessMessages (Fault.Read name) P = P
UnlessMessages (Fault.Story n) P = P

-- Only a call that answers that messages could not be written counts a failure to write them.
abbrev pub HidesNoFailure : {T : Type 0} → Result T Fault → ℕ → ℕ → Type 0
HidesNoFailure answer before now = OnOk answer (now ≡ before) × IfErr answer (λ fault. UnlessMessages fault (now ≡ before))

abbrev pub UnlessRead : Fault → Type 0 → Type 0
UnlessRead (Fault.Read name) P = Unit {0}
UnlessRead Fault.Memory P = P
UnlessRead Fault.Messages P = P
UnlessRead (Fault.Story n) P = P

-- Only a call that answers that a source could not be read counts a failure to open or to read one.
abbrev pub TellsEachRead : {T : Type 0} → Result T Fault → ℕ → ℕ → Type 0
TellsEachRead answer before now = OnOk answer (now ≡ before) × IfErr answer (λ fault. UnlessRead fault (now ≡ before))

-- the fault that is told for a turn that was given up, where this one was put aside
abbrev pub fault_of : Halt → Option Fault → Fault
fault_of Halt.Memory lost = Fault.Memory
fault_of Halt.Read lost = unwrap_or lost Fault.Memory
fault_of Halt.Messages lost = Fault.Messages
