-- The search for the longest abbreviation. Only the crate's private clauses cite it.
use Rattle.std.specs.Prelude.{◌≡◌, ℕ, ◌<◌, ◌≤◌, ◌+◌, ◌==◌, nat_lt, nat_le, ◌&&◌, ◌||◌, Option, Some, None, List, [], ◌∷◌, length, drop}
use Rattle.std.specs.Prelude.{slice_index, slice_index_or, if◌then◌else◌}
use Rattle.inf_characters.specs.{Items.same_item, declared.texts.TextItem.TextItem}
use Rattle.inf_text.specs.{Parts.AreAbbreviations, declared.index.Index.Index, declared.index.Link.Link, declared.index.Ranges.Ranges}

-- the code of a character, or the number of a string variable
abbrev pub code_of : TextItem → ℕ
code_of (TextItem.Character c) = c
code_of (TextItem.Variable n) = n

-- the code of the first item, or 0 where there is none
abbrev pub first_code : List TextItem → ℕ
first_code [] = 0
first_code (x ∷ items) = code_of x

-- the number of items that two texts have in common at their fronts
abbrev pub common : List TextItem → List TextItem → ℕ
common items [] = 0
common [] (y ∷ ys) = 0
common (x ∷ xs) (y ∷ ys) = if same_item x y then 1 + common xs ys else 0

-- the text of a number
abbrev pub text_at : List (List TextItem) → ℕ → List TextItem
text_at texts n = slice_index_or texts n []

-- a number and its length in place of the best one so far, if it is longer, or as long and its number lower
abbrev pub pick : Option (ℕ × ℕ) → ℕ → ℕ → Option (ℕ × ℕ)
pick None n len = Some (n, len)
pick (Some best) n len = if nat_lt len best.1 || ((len == best.1) && nat_le best.0 n) then Some best else Some (n, len)

-- a text in place of the best one so far, if the items begin with it and it is better
abbrev pub tried : List TextItem → Option (ℕ × ℕ) → ℕ → List TextItem → Option (ℕ × ℕ)
tried items best n a = if common items a == length a then pick best n (length a) else best

-- the best of some texts, by their links
abbrev pub best_of : List (List TextItem) → List TextItem → Option (ℕ × ℕ) → List Link → Option (ℕ × ℕ)
best_of texts items best [] = best
best_of texts items best (l ∷ links) = best_of texts items (tried items best l.number (text_at texts l.number)) links

-- each number is below a bound
abbrev pub AreBelow : ℕ → List ℕ → Type 0
AreBelow bound ns = (j : ℕ) → j < length ns → slice_index ns j < bound

-- each number below a bound has its place in an order, and only such
pub record IsOrder (count : ℕ) (order : List ℕ) : Type 0 where
  pub below : AreBelow count order
  pub len : length order ≡ count
  pub all : (k : ℕ) → k < count → (j : ℕ) × ((j < length order) × (slice_index order j ≡ k))

-- the links of texts, behind another text
abbrev pub linked_from : List (List TextItem) → List TextItem → List ℕ → List Link
linked_from texts before [] = []
linked_from texts before (n ∷ order) =
    let shared = common before (text_at texts n) in
    record { number = n; next = first_code (drop shared (text_at texts n)); shared = shared; len = length (text_at texts n) } ∷ linked_from
    texts (text_at texts n) order

-- a link tells the length of its text, what the text has in common with another, and the code behind that
pub record IsLink (text before : List TextItem) (l : Link) : Type 0 where
  pub len : l.len ≡ length text
  pub shared : l.shared ≡ common before text
  pub next : l.next ≡ first_code (drop l.shared text)

-- links tell what each text has in common with the one before it
abbrev pub AreLinked : List (List TextItem) → List TextItem → List Link → Type 0
AreLinked texts before [] = Unit {0}
AreLinked texts before (l ∷ links) =
    (l.number < length texts) × IsLink (text_at texts l.number) before l × AreLinked texts (text_at texts l.number) links

-- links that stand behind some text
pub record HaveLinks (texts : List (List TextItem)) (links : List Link) : Type 0 where
  pub before : List TextItem
  pub linked : AreLinked texts before links

-- the place of each text lies in the range of the code that it begins with, and each range in the order
pub record AreRanges (texts : List (List TextItem)) (order : List ℕ) (ranges : Ranges) : Type 0 where
  pub starts : (j : ℕ) → j < length order → slice_index ranges.starts (first_code (text_at texts (slice_index order j))) ≤ j
  pub ends : (j : ℕ) → j < length order → j < slice_index ranges.ends (first_code (text_at texts (slice_index order j)))
  pub ordered : (c : ℕ) → slice_index ranges.starts c ≤ slice_index ranges.ends c
  pub fits : (c : ℕ) → slice_index ranges.ends c ≤ length order

-- the index of some texts
pub record IsIndex (texts : List (List TextItem)) (index : Index) : Type 0 where
  pub sorted : IsOrder (length texts) index.sorted.items
  pub order : IsOrder (length texts) index.order.items
  pub links : index.links.items ≡ linked_from texts [] index.order.items
  pub ranges : AreRanges texts index.order.items index.ranges

-- abbreviations with their index
pub record AreIndexed (texts : List (List TextItem)) (index : Index) : Type 0 where
  pub declared : AreAbbreviations texts
  pub indexed : IsIndex texts index
