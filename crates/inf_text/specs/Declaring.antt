-- The declaration of abbreviations (Z-Machine Standard 1.1, section 3.3).
use Rattle.std.specs.Prelude.{◌≡◌, ℕ, ◌==◌, nat_lt, Bool, ◌&&◌, Result, Ok, Err, List, [], ◌∷◌, ◌++◌, length, if◌then◌else◌}
use Rattle.std.specs.List.{list_any}
use Rattle.inf_text.specs.{Packing.begins_with, declared.abbreviation.AbbrevFault.AbbrevFault}
use Rattle.inf_characters.specs.declared.texts.TextItem.{TextItem}

-- Tells whether two texts have the same items.
abbrev pub same_text : List TextItem → List TextItem → Bool
same_text xs ys = (length xs == length ys) && begins_with xs ys

-- the number that a text is declared as, which counts those declared before, or the first refusal
abbrev pub declared_number : List (List TextItem) → List TextItem → Result ℕ AbbrevFault
declared_number declared text =
    if nat_lt 63 (length declared) then Err AbbrevFault.Full
    else if list_any (λ a. same_text a text) declared then Err AbbrevFault.Repeated
    else if nat_lt (length text) 2 then Err AbbrevFault.TooShort
    else Ok (length declared)

-- A call declares a text where that may be, adds it behind the others and gives its number; a refusal changes nothing, and one for want
-- of memory comes only where there is no other.
abbrev pub Declares : List (List TextItem) → List TextItem → List (List TextItem) → Result ℕ AbbrevFault → Type 0
Declares old text new (Ok n) = (declared_number old text ≡ Ok n) × (new ≡ old ++ text ∷ [])
Declares old text new (Err AbbrevFault.Full) = (declared_number old text ≡ Err AbbrevFault.Full) × (new ≡ old)
Declares old text new (Err AbbrevFault.Repeated) = (declared_number old text ≡ Err AbbrevFault.Repeated) × (new ≡ old)
Declares old text new (Err AbbrevFault.TooShort) = (declared_number old text ≡ Err AbbrevFault.TooShort) × (new ≡ old)
Declares old text new (Err AbbrevFault.Memory) = (declared_number old text ≡ Ok (length old)) × (new ≡ old)
