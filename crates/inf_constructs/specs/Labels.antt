-- The labels of a routine that have names.
use Rattle.std.specs.Prelude.{ℕ, zero, suc, List, [], ◌∷◌, Bool, true, false, if◌then◌else◌, Option, Some, None, bytes_eq}
use Rattle.inf_names.specs.Symbols.{folded}
use Rattle.inf_opcode.specs.declared.instructions.Label.{Label}

-- A label of a name: the name as it is first spelled, its number, and whether its place was given.
pub record Known : Type 0 where
  pub spelling : List ℕ
  pub label : Label
  pub is_given : Bool

-- a label with its name without case
pub record NamedLabel : Type 0 where
  pub key : List ℕ
  pub known : Known

abbrev pub known_of : List ℕ → List NamedLabel → Option Known
known_of key [] = None
known_of key (l ∷ labels) = if bytes_eq key l.key then Some l.known else known_of key labels

-- the labels where one is put in the place of its entry, or behind the others
abbrev pub put : List ℕ → Known → List NamedLabel → List NamedLabel
put key known [] = record { key = key; known = known } ∷ []
put key known (l ∷ labels) = if bytes_eq key l.key then record { key = l.key; known = known } ∷ labels else l ∷ put key known labels

-- the label of a name, in any case: its own, or a new one
abbrev pub label_or : Label → Option Known → Label
label_or new None = new
label_or new (Some k) = k.label

abbrev pub label_of : List ℕ → Label → List NamedLabel → Label
label_of name new labels = label_or new (known_of (folded name) labels)

-- the labels where a name is used: with a new label, where it has none
abbrev pub wanted_by : Option Known → List ℕ → Label → List NamedLabel → List NamedLabel
wanted_by None name new labels = put (folded name) (record { spelling = name; label = new; is_given = false }) labels
wanted_by (Some k) name new labels = labels

abbrev pub wanted : List ℕ → Label → List NamedLabel → List NamedLabel
wanted name new labels = wanted_by (known_of (folded name) labels) name new labels

-- the labels where the place of one is given
abbrev pub given_by : Option Known → List ℕ → Label → List NamedLabel → List NamedLabel
given_by None name new labels = put (folded name) (record { spelling = name; label = new; is_given = true }) labels
given_by (Some k) name new labels = put (folded name) (record { spelling = k.spelling; label = k.label; is_given = true }) labels

abbrev pub given : List ℕ → Label → List NamedLabel → List NamedLabel
given name new labels = given_by (known_of (folded name) labels) name new labels

abbrev pub was_given : Option Known → Bool
was_given None = false
was_given (Some k) = k.is_given

abbrev pub is_given : List ℕ → List NamedLabel → Bool
is_given name labels = was_given (known_of (folded name) labels)

-- the name of the first label that is used and whose place is not given, as it is first spelled
abbrev pub missing : List NamedLabel → Option (List ℕ)
missing [] = None
missing (l ∷ labels) = if l.known.is_given then missing labels else Some l.known.spelling

-- the label at a place among them
abbrev pub known_at : ℕ → List NamedLabel → Option Known
known_at n [] = None
known_at zero (l ∷ labels) = Some l.known
known_at (suc n) (l ∷ labels) = known_at n labels

-- the name of a label whose place is not given
abbrev pub missing_at : Option Known → Option (List ℕ)
missing_at None = None
missing_at (Some k) = if k.is_given then None else Some k.spelling
