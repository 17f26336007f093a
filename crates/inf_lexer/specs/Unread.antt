-- The bytes of the innermost source that a reader of files has not given yet.
use Rattle.std.specs.Prelude.{◌≡◌, ℕ, ◌+◌, ◌-◌, List, [], ◌++◌, length, drop, get_or, unwrap_or, slice_get, Bool, true, false, IsTrue}
use Rattle.std.specs.Prelude.{if◌then◌else◌}
use Rattle.inf_devices.specs.Files.{Sources, Opening, Openings, opened}

-- the place of the innermost source among the openings
abbrev pub innermost_place : Openings → ℕ
innermost_place o = get_or o.open_places (length o.open_places - 1) 0

-- the opening of the innermost source
abbrev pub innermost : Openings → Opening
innermost o = get_or o.all (innermost_place o) (opened [])

-- the bytes of a source behind those that were given
abbrev pub unread_of : Sources → Opening → List ℕ
unread_of sources o = drop (length o.given) (unwrap_or (sources o.name) [])

abbrev pub unread : Sources → Openings → List ℕ
unread sources o = unread_of sources (innermost o)

-- Between two moments the innermost source gave these bytes, which come next in it, and no other opening changed.
pub record Gave (sources : Sources) (old new : Openings) (bytes : List ℕ) : Type 0 where
  pub next : unread sources old ≡ bytes ++ unread sources new
  pub given : (innermost new).given ≡ (innermost old).given ++ bytes
  pub name : (innermost new).name ≡ (innermost old).name
  pub places : new.open_places ≡ old.open_places
  pub count : length new.all ≡ length old.all
  pub others : (i : ℕ) → (i ≡ innermost_place old → ⊥) → slice_get new.all i ≡ slice_get old.all i

-- A view of a source: the bytes that were given and not taken yet, the number of all that were given, and whether the end was read.
-- Behind the end nothing is read any more.
pub record View : Type 0 where
  pub left : List ℕ
  pub given : ℕ
  pub is_over : Bool

-- the bytes that can follow those in view: none behind the end that was read, and any before
abbrev pub CanFollow : View → List ℕ → Type 0
CanFollow view behind = view.is_over ≡ true → behind ≡ []

-- the bytes of a source behind those in view: none where its end was read
abbrev pub behind_view : Sources → Openings → View → List ℕ
behind_view sources o view = if view.is_over then [] else unread sources o

-- all bytes that are still to come: those in view, and those that were not given
abbrev pub to_come : Sources → Openings → View → List ℕ
to_come sources o view = view.left ++ behind_view sources o view

-- Where the end was read, the innermost source has nothing more, and it is known that it was read to its end.
abbrev pub Ends : Sources → Openings → View → Type 0
Ends sources o view = view.is_over ≡ true → (unread sources o ≡ []) × ((innermost o).is_read_out ≡ true)

-- Where the end was not read, it is known that the source was not read to its end.
abbrev pub StillGives : Openings → View → Type 0
StillGives o view = view.is_over ≡ false → (innermost o).is_read_out ≡ false

-- nothing more is to come
abbrev pub IsAtEnd : View → Type 0
IsAtEnd view = (view.left ≡ []) × (view.is_over ≡ true)
