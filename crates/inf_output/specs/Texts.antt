-- Packing of the texts of a story (Z-Machine Standard 1.1, section 3).
use Rattle.std.specs.Prelude.{Bool, true, false, List, [], if◌then◌else◌}
use Rattle.inf_characters.specs.declared.texts.TextItem.{TextItem}

-- Abbreviations that were declared, in order; whether texts are packed with them; and whether a text was packed, behind which it is
-- too late to declare one.
pub record Packing : Type 0 where
  pub declared : List (List TextItem)
  pub are_used : Bool
  pub is_late : Bool

-- Packing before anything is declared or packed.
abbrev pub no_texts : Packing
no_texts = record { declared = []; are_used = false; is_late = false }

-- Abbreviations that a text is packed with.
abbrev pub used_in : Packing → List (List TextItem)
used_in packing = if packing.are_used then packing.declared else []

-- A text was packed.
abbrev pub late : Packing → Packing
late packing = record packing { is_late = true }
