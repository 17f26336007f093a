-- The sources that are open behind the entering of a file, with a reader that keeps to its sources.
use Rattle.std.specs.{List.IsDistinct, List.list_any, Str.bytes_eq}
use Rattle.std.specs.Prelude.{◌≡◌, ℕ, ◌+◌, ◌<◌, ◌≤◌, ◌⊎◌, List, [], ◌∷◌, ◌++◌, length, nat_le, Option, Some, None, is_some, slice_get}
use Rattle.std.specs.Prelude.{Result, Ok, Err, is_ok, IfOk, OnErr, IsErrOf, Bool, true, false, IsTrue, if◌then◌else◌}
use Rattle.inf_devices.specs.Files.{Closes, Openings, Rose, Sources, counts_closed, counts_opened, opened}
use Rattle.inf_devices.specs.declared.files.Files.{Ghosts as Files}
use Rattle.inf_lexer.specs.{Reading.Unless, Readers.Reader, Readers.at_front, declared.enter_faults.EnterFault.EnterFault}
use Rattle.inf_lexer.specs.Names.{Nest, entered, number_of}

-- one more source is open, the innermost
abbrev pub with_opened : List ℕ → Openings → Openings
with_opened name o = record { all = o.all ++ opened name ∷ []; open_places = o.open_places ++ length o.all ∷ [] }

-- the openings where the source was closed again at once
abbrev pub with_closed : List ℕ → Openings → Openings
with_closed name o = record { all = o.all ++ opened name ∷ []; open_places = o.open_places }

-- the first of some names that is there
abbrev pub first_there : Sources → List (List ℕ) → Option (List ℕ)
first_there sources [] = None
first_there sources (name ∷ names) = if is_some (sources name) then Some name else first_there sources names

-- a lexer at the front of a source that was entered under the name `name`
abbrev pub IsEntered : List ℕ → Nest → Nest → Reader → Type 0
IsEntered name old new lexer = (new ≡ entered name old) × (lexer ≡ at_front old.set old.limit (number_of name old.names))

-- A source was entered under one of these names. With an honest reader it is the first that is there, and was opened once.
pub record Enters (sources : Sources) (is_honest : Bool) (names : List (List ℕ)) (before after : Openings) (old new : Nest)
    (lexer : Reader) : Type 0 where
  pub name : List ℕ
  pub place : ℕ
  pub is_named : slice_get names place ≡ Some name
  pub is_entered : IsEntered name old new lexer
  pub has_number : number_of name old.names < 65535
  pub is_first : IsTrue is_honest → first_there sources names ≡ Some name
  pub is_opened : IsTrue is_honest → after ≡ with_opened name before

-- whether 65,535 other known names come before one of `names`
abbrev pub has_one_too_many : List (List ℕ) → List (List ℕ) → Bool
has_one_too_many known names = list_any (λ name. nat_le 65535 (number_of name known)) names

-- The first of these names that is there was opened, was one too many, and was closed at once.
pub record ClosedAgain (sources : Sources) (known names : List (List ℕ)) (before after : Openings) : Type 0 where
  pub name : List ℕ
  pub is_first : first_there sources names ≡ Some name
  pub is_too_many : 65535 ≤ number_of name known
  pub is_closed : after ≡ with_closed name before

-- each name that was among those opened is still among them
abbrev pub StaysOpened : List (List ℕ) → List (List ℕ) → Type 0
StaysOpened before now = (name : List ℕ) → list_any (bytes_eq name) before ≡ true → list_any (bytes_eq name) now ≡ true

-- Names that differ from one another, each among those opened.
pub record AreOpened (names opened : List (List ℕ)) : Type 0 where
  pub differ : IsDistinct bytes_eq names
  pub among : StaysOpened names opened

-- A call forgets no name that was opened, and where the known names before it were opened, so are those behind it.
pub record OpensOn (before after opened_before opened_now : List (List ℕ)) : Type 0 where
  pub stays : StaysOpened opened_before opened_now
  pub opened : AreOpened before opened_before → AreOpened after opened_now

-- One of these names comes behind 65,535 others, and is among those that the reader opened. Its source was closed at once; with an honest
-- reader it is the first of the names that is there.
pub record WasTooMany (sources : Sources) (is_honest : Bool) (known names : List (List ℕ)) (before after : Openings)
    (opened_now : List (List ℕ)) : Type 0 where
  pub is_named : has_one_too_many known names ≡ true
  pub name : List ℕ
  pub is_too_many : 65535 ≤ number_of name known
  pub is_opened : list_any (bytes_eq name) opened_now ≡ true
  pub is_closed : IsTrue is_honest → ClosedAgain sources known names before after

-- the openings of an honest reader where no source of these names was entered
abbrev pub Leaves : Sources → List (List ℕ) → List (List ℕ) → Openings → Openings → Result Reader EnterFault → Type 0
Leaves sources known names before after (Ok lexer) = Unit {0}
Leaves sources known names before after (Err EnterFault.Absent) = (first_there sources names ≡ None) × (after ≡ before)
Leaves sources known names before after (Err EnterFault.Device) = (after ≡ before) ⊎ ClosedAgain sources known names before after
Leaves sources known names before after (Err _) = after ≡ before

-- an answer that is no refusal of a name or of a further file
abbrev pub is_of_opening : Result Reader EnterFault → Bool
is_of_opening (Err EnterFault.BadName) = false
is_of_opening (Err EnterFault.TooDeep) = false
is_of_opening _ = true

abbrev pub is_absent : Result Reader EnterFault → Bool
is_absent (Err EnterFault.Absent) = true
is_absent _ = false

-- Whether a name is refused, or a further file, by the answer: `can` says that the name may be a file's, and `depth` how many files are open.
-- Where one of them is refused, `same` holds.
abbrev pub Declines : Bool → ℕ → Type 0 → Result Reader EnterFault → Type 0
Declines can depth same (Err EnterFault.BadName) = (can ≡ false) × same
Declines can depth same (Err EnterFault.TooDeep) = (can ≡ true) × ((16 ≤ depth) × same)
Declines can depth same answer = (can ≡ true) × (depth < 16)

-- whether an answer says that the reader failed, or that a name was one too many
abbrev pub tells_failure : {T : Type 0} → Result T EnterFault → Bool
tells_failure (Err EnterFault.Device) = true
tells_failure _ = false

-- A call opens one source, if `opens` is true, and else none. Where `failed` is false, the reader did not fail.
pub record Tries {S : Type 0} (f : Files S) (opens failed : Bool) (old new : S) : Type 0 where
  pub sources : f.sources new ≡ f.sources old
  pub honesty : f.is_honest new ≡ f.is_honest old
  pub depth : f.depth new ≡ (if opens then f.depth old + 1 else f.depth old)
  pub counts : f.counts new ≡ (if opens then counts_opened (f.counts old) else f.counts old)
  pub faults : f.faults old ≤ f.faults new
  pub calm : Unless failed (f.faults new ≡ f.faults old)

-- A call closes the innermost source, and nothing else of the reader changes.
pub record ClosesInnermost {S : Type 0} (f : Files S) (old new : S) : Type 0 where
  pub sources : f.sources new ≡ f.sources old
  pub honesty : f.is_honest new ≡ f.is_honest old
  pub depth : f.depth new + 1 ≡ f.depth old
  pub opened : f.opened new ≡ f.opened old
  pub counts : f.counts new ≡ counts_closed (f.counts old)
  pub faults : f.faults new ≡ f.faults old
  pub closes : IsTrue (f.is_honest old) → Closes (f.openings old) (f.openings new)

-- An attempt to enter a file under one of these names, by its answer. Each known name is among those that the reader opened.
pub record Attempts {S : Type 0} (f : Files S) (old new : S) (names : List (List ℕ)) (before after : Nest)
    (answer : Result Reader EnterFault) : Type 0 where
  pub tries : Tries f (is_ok answer) (tells_failure answer) old new
  pub opened : OpensOn before.names after.names (f.opened old) (f.opened new)
  pub entered : IfOk answer (Enters (f.sources old) (f.is_honest old) names (f.openings old) (f.openings new) before after)
  pub same : OnErr answer (after ≡ before)
  pub leaves : IsTrue (f.is_honest old) → Leaves (f.sources old) before.names names (f.openings old) (f.openings new) answer
  pub cause : IsErrOf answer EnterFault.Device → Rose (f.faults old) (f.faults new)
      ⊎ WasTooMany (f.sources old) (f.is_honest old) before.names names (f.openings old) (f.openings new) (f.opened new)
