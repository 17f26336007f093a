-- Facts that calls keep which read on in the innermost source.
use Rattle.std.specs.Prelude.{◌≡◌, ◌+◌, ◌<◌, ◌≤◌, ◌⊎◌, ℕ, List, [], ◌++◌, length, Bool, true, false, IsErr, IsOk, IsTrue, Result, Ok, Err}
use Rattle.inf_devices.specs.Files.{Reads, Rose, counts_read}
use Rattle.inf_devices.specs.declared.{files.Files.Ghosts as Files, files.ReadFault.ReadFault}
use Rattle.inf_lexer.specs.{Counted.CountsOn, declared.faults.LexFault.LexFault}
use Rattle.inf_lexer.specs.Unread.{CanFollow, Ends, Gave, StillGives, View}

-- the fact `P`, where `test` is true
abbrev pub When : Bool → Type 0 → Type 0
When true P = P
When false P = Unit {0}

-- the fact `P`, where `test` is false
abbrev pub Unless : Bool → Type 0 → Type 0
Unless true P = Unit {0}
Unless false P = P

-- whether a fault is that the source could not be read further
abbrev pub is_read : LexFault → Bool
is_read LexFault.Read = true
is_read LexFault.Memory = false

-- whether an answer says so
abbrev pub tells_read : {T : Type 0} → Result T LexFault → Bool
tells_read (Ok x) = false
tells_read (Err fault) = is_read fault

-- One reading of a source, by its answer: it wrote to the front of `bytes`.
pub record ReadsOnce {S : Type 0} (f : Files S) (old new : S) (bytes : List ℕ) (answer : Result ℕ ReadFault) : Type 0 where
  pub sources : f.sources new ≡ f.sources old
  pub honesty : f.is_honest new ≡ f.is_honest old
  pub depth : f.depth new ≡ f.depth old
  pub opened : f.opened new ≡ f.opened old
  pub counts : f.counts new ≡ counts_read answer (f.counts old)
  pub faults : f.faults old ≤ f.faults new
  pub calm : IsOk answer → f.faults new ≡ f.faults old
  pub cause : IsErr answer → Rose (f.faults old) (f.faults new)
  pub reads : IsTrue (f.is_honest old) → Reads (f.sources old) (f.openings old) (f.openings new) bytes answer

-- Between two moments a lexer read on in the innermost source; where `failed` is true, the source could at last not be read further, since
-- the reader failed or the source is too long. Nothing else of the reader changed. `bytes` came into view, of which at most 4,096 are left,
-- and none behind the end. With an honest reader they are the next ones of the source, and it is known whether its end was read.
pub record ReadsOn {S : Type 0} (f : Files S) (failed : Bool) (old new : S) (before after : View) : Type 0 where
  pub sources : f.sources new ≡ f.sources old
  pub honesty : f.is_honest new ≡ f.is_honest old
  pub depth : f.depth new ≡ f.depth old
  pub opened : f.opened new ≡ f.opened old
  pub faults : f.faults old ≤ f.faults new
  pub calm : Unless failed (f.faults new ≡ f.faults old)
  pub few : Unless failed (after.given ≤ 16777216)
  pub cause : When failed (Rose (f.faults old) (f.faults new) ⊎ (16777216 < after.given))
  pub on : When failed (after.is_over ≡ false)
  pub window : length after.left ≤ 4096
  pub bytes : List ℕ
  pub given : after.given ≡ before.given + length bytes
  pub stops : before.is_over ≡ true → (bytes ≡ []) × (after.is_over ≡ true)
  pub counts : CountsOn (f.counts old) (f.counts new) before.given after.given
  pub gave : IsTrue (f.is_honest old) → Gave (f.sources old) (f.openings old) (f.openings new) bytes
  pub end : IsTrue (f.is_honest old) → Ends (f.sources old) (f.openings old) before → Ends (f.sources old) (f.openings new) after
  pub still : IsTrue (f.is_honest old) → StillGives (f.openings old) before → StillGives (f.openings new) after

-- A lexer read on, and the value `now` of all that is still to come is the value `was` before, whatever follows the bytes that were given.
pub record Heard (T : Type 0) {S : Type 0} (f : Files S) (failed : Bool) (old new : S) (before after : View) (now was : List ℕ → T) :
    Type 0 where
  pub went : ReadsOn f failed old new before after
  pub same : (behind : List ℕ) → CanFollow after behind → now (after.left ++ behind) ≡ was (before.left ++ (went.bytes ++ behind))

-- More bytes came into view behind those that are there, and none was taken.
abbrev pub Fills : {S : Type 0} → Files S → Bool → S → S → View → View → Type 0
Fills f failed old new before after = Heard (List ℕ) f failed old new before after (λ bytes. bytes) (λ bytes. bytes)
