-- The linked story is the story of the cells.
use Rattle.std.proofs.Common.{IfOk, Result, Ok, Err, MatchResult, ◌≡◌, ◌⊎◌, inl, inr, ◌∙◌, ℕ, List, Option, Some, None, ap, sym}
use Rattle.inf_area.specs.{declared.cells.Cell.Cell, declared.fixups.Fixup.Fixup, declared.targets.Value.Value}
use Rattle.inf_link.specs.{Areas.lengths, FillingLaws.cells_contents, FillingLaws.cells_fixups, MemoryMaps.too_long as too_long_by}
use Rattle.inf_link.specs.{Stories.refusal, Stories.sizes, Stories.story as linked, Targets.Lookup, declared.areas.Areas.Areas}
use Rattle.inf_link.specs.{declared.header.HeaderFields.HeaderFields, declared.link.LinkFault.LinkFault}
use Rattle.inf_link.proofs.CellLaws.{cells_in_order, sizes-cells}
use Rattle.inf_story.specs.{Stories.story, Stories.story_sizes, Stories.too_long, Tables.areas, Tables.looked_up}
use Rattle.inf_tables.specs.Tables.{AllTables}

pub is_story : (fields : HeaderFields) (main : ℕ) (names : List Value) (finished : List Cell) (strings : List ℕ) (tables : AllTables)
    (contents : Areas (List ℕ)) (fixups : List Fixup) (targets : Lookup)
    → contents ≡ cells_contents (areas main finished strings tables) → fixups ≡ cells_fixups (areas main finished strings tables) → targets
    ≡ looked_up names tables → linked contents fixups targets fields ≡ story fields main names finished strings tables
unfolding story
is_story fields main names finished strings tables contents fixups targets are_contents are_fixups are_targets =
    let cells = areas main finished strings tables in
    ap (λ bytes. linked bytes fixups targets fields) are_contents
    ∙ ap (λ places. linked (cells_contents cells) places targets fields) are_fixups
    ∙ ap (λ lists. linked (cells_contents cells) (cells_fixups cells) lists fields) are_targets
    ∙ cells_in_order cells (looked_up names tables) fields

pub is_too_long : (fields : HeaderFields) (main : ℕ) (finished : List Cell) (strings : List ℕ) (tables : AllTables)
    (contents : Areas (List ℕ)) → contents ≡ cells_contents (areas main finished strings tables)
    → too_long_by (lengths contents) fields.scale ≡ too_long fields main finished strings tables
unfolding too_long
is_too_long fields main finished strings tables contents are_contents = ap (λ bytes. too_long_by (lengths bytes) fields.scale) are_contents
    ∙ ap (λ sizes. too_long_by sizes fields.scale) (sizes-cells (areas main finished strings tables))

pub is_sized : (fields : HeaderFields) (main : ℕ) (finished : List Cell) (strings : List ℕ) (tables : AllTables)
    (contents : Areas (List ℕ)) (bytes : List ℕ) → contents ≡ cells_contents (areas main finished strings tables)
    → sizes contents fields bytes ≡ story_sizes fields main finished strings tables bytes
unfolding story_sizes
is_sized fields main finished strings tables contents bytes are_contents = ap (λ areas. sizes areas fields bytes) are_contents

-- Where one fact of an answer entails another, the other holds of it, too.
pub if_ok_more : {T E : Type 0} (r : Result T E) (P Q : T → Type 0) → ((x : T) → P x → Q x) → IfOk r P → IfOk r Q
if_ok_more (Ok x) P Q h p = h x p
if_ok_more (Err fault) P Q h p = tt

-- want of memory, or why there is no story
pub told : {T : Type 0} (r : Result T LinkFault) (long : Option LinkFault) →
    MatchResult r (λ _. long ≡ None) (λ fault. fault ≡ refusal long)
    → MatchResult r (λ _. long ≡ None) (λ fault. (fault ≡ LinkFault.Memory) ⊎ (long ≡ Some fault))
told (Ok x) long e = e
told (Err fault) None e = inl e
told (Err fault) (Some other) e = inr (ap Some (sym e))
