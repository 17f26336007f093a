-- Bytes in pages.
use Rattle.std.specs.{Global.Box, List.AllByRecursion, List.flat_map}
use Rattle.std.specs.Prelude.{◌≡◌, ℕ, ◌+◌, ◌*◌, ◌<◌, ◌≤◌, ◌^◌, List, ◌++◌, length, take, drop}

-- the bytes of pages, one behind the other
abbrev pub page_bytes : List (Box (List ℕ)) → List ℕ
page_bytes pages = flat_map (λ page. page.value) pages

-- tells whether each page has 1,024 bytes
abbrev pub AreWhole : List (Box (List ℕ)) → Type 0
AreWhole pages = AllByRecursion (λ page. length page.value ≡ 1024) pages

-- tells whether an area's bytes are within its pages, and their number is one that a place can count
pub record IsPaged (pages : List (Box (List ℕ))) (len : ℕ) : Type 0 where
  pub whole : AreWhole pages
  pub within : len ≤ 1024 * length pages
  pub counted : 1024 * length pages < 2 ^ 63

-- bytes with those from a place on set to others
abbrev pub with_bytes : List ℕ → ℕ → List ℕ → List ℕ
with_bytes bytes at others = take at bytes ++ others ++ drop (at + length others) bytes
