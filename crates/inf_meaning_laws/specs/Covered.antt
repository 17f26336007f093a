-- Which expressions the laws speak of, and which of these keep variable 255: they neither call a routine nor store a value in it.
use Rattle.std.specs.Prelude.{◌≡◌, ℕ, suc, ◌≤◌, ◌⊎◌, Bool, true, false}
use Rattle.inf_expressions.specs.declared.{operators.Binary.Binary, operators.Operation.Operation, operators.PropertyPart.PropertyPart}
use Rattle.inf_expressions.specs.declared.{operators.Test.Test, operators.Unary.Unary}
use Rattle.inf_expressions.specs.Trees.{Tree, Leaf, One, Two}
use Rattle.inf_meaning_laws.specs.Values.{together}

-- the number of a list's members
abbrev pub count : Tree → ℕ
count (Two Binary.Then a b) = suc (count b)
count b = 1

-- A routine takes seven arguments at most. A call of a property is a message: the routine that sends it takes the object and the property
-- as two of them.
abbrev pub most_arguments : Tree → ℕ
most_arguments (Two (Binary.Property PropertyPart.Value) a b) = 5
most_arguments f = 7

-- An element of an array or a property of an object: where its value is assigned or stepped, a supplied routine does it.
abbrev pub IsElement : Tree → Type 0
IsElement (Two (Binary.Operation Operation.Byte) a i) = Unit {0}
IsElement (Two (Binary.Operation Operation.Word) a i) = Unit {0}
IsElement (Two (Binary.Property PropertyPart.Value) a p) = Unit {0}
IsElement a = ⊥

-- calls keep nothing, nor do supplied routines
abbrev pub CoversOne : Bool → Unary → Tree → Type 0
CoversOne keeps (Unary.Before s) (Leaf x) = Unit {0}
CoversOne keeps (Unary.Before s) a = (keeps ≡ false) × IsElement a
CoversOne keeps (Unary.Behind s) (Leaf x) = Unit {0}
CoversOne keeps (Unary.Behind s) a = (keeps ≡ false) × IsElement a
CoversOne keeps Unary.Children a = keeps ≡ false
CoversOne keeps Unary.Call f = keeps ≡ false
CoversOne keeps Unary.Indirect list = (keeps ≡ false) × (count list ≤ 8)
CoversOne keeps op a = Unit {0}

-- A test by an instruction keeps variable 255, and one by a supplied routine keeps nothing.
abbrev pub CoversTest : Bool → Test → Type 0
CoversTest keeps Test.OfClass = keeps ≡ false
CoversTest keeps Test.Provides = keeps ≡ false
CoversTest keeps t = Unit {0}

abbrev pub IsLeaf : Tree → Type 0
IsLeaf (Leaf x) = Unit {0}
IsLeaf a = ⊥

-- Alternatives: as many as are worked out together, or of a leaf. Another value waits in variable 255, which the test and all alternatives
-- have to keep.
abbrev pub Fits : Bool → Test → Tree → Tree → Type 0 → Type 0
Fits keeps t a b AreKept = (count b ≤ together t) ⊎ (IsLeaf a ⊎ ((keeps ≡ false) × CoversTest true t × AreKept))

abbrev pub CoversTwo : Bool → Binary → Tree → Tree → Type 0 → Type 0
CoversTwo keeps (Binary.Operation o) a b AreKept = Unit {0}
CoversTwo keeps (Binary.Test t) a b AreKept = CoversTest keeps t × Fits keeps t a b AreKept
CoversTwo keeps (Binary.Fails t) a b AreKept = CoversTest keeps t × Fits keeps t a b AreKept
CoversTwo keeps Binary.Assign (Leaf x) b AreKept = Unit {0}
CoversTwo keeps Binary.Assign a b AreKept = (keeps ≡ false) × IsElement a
CoversTwo keeps (Binary.Property p) a b AreKept = keeps ≡ false
CoversTwo keeps Binary.Comma a b AreKept = keeps ≡ false
CoversTwo keeps Binary.And a b AreKept = Unit {0}
CoversTwo keeps Binary.Or a b AreKept = Unit {0}
CoversTwo keeps Binary.Then a b AreKept = Unit {0}
CoversTwo keeps Binary.Call f b AreKept = (keeps ≡ false) × (count b ≤ most_arguments f)
CoversTwo keeps _ a b AreKept = ⊥

abbrev pub Covered : Bool → Tree → Type 0
Covered keeps (Leaf x) = Unit {0}
Covered keeps (One op a) = CoversOne keeps op a × Covered keeps a
Covered keeps (Two op a b) = CoversTwo keeps op a b (Covered true b) × Covered keeps a × Covered keeps b
