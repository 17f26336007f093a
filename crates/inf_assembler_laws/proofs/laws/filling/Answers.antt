-- The law is a lemma about cells.
use Rattle.std.proofs.Common.{◌+◌, ◌∷◌, ◌++◌, [], ◌∙◌, ap, sym, arith, append_assoc, length, length-append}
use Rattle.inf_assembler.specs.Places.{Places, place_from, closed_bytes}
use Rattle.inf_assembler.specs.Routines.{long_places, places, routine_fixups}
use Rattle.inf_assembler_laws.specs.Filling.{known_cells, filled}
use Rattle.inf_assembler_laws.proofs.Filled.{numbered, tables_known, places_known}
use Rattle.inf_assembler_laws.proofs.laws.filling.Goals as goal

pub returns : goal.returns
returns c = λ number_of contents front body rest e.
    let place = length front in
    let before = front ++ contents.locals ∷ [] in
    let long = long_places place contents in
    let table = places place contents in
    let known = known_cells number_of contents.cells in
    let done = numbered number_of long table (place + 1) (place + 1) contents.cells before body rest
    (omega (arith, length-append front (contents.locals ∷ []))) e in
    let longs = tables_known number_of (place + 1) contents.cells in (
      done.numbered,
      ap (λ (l : Places). closed_bytes l (place_from l (place + 1) (place + 1) known) (place + 1) (place + 1) known) longs
          ∙ ap (λ (t : Places). closed_bytes long t (place + 1) (place + 1) known) (places_known number_of long (place + 1) contents.cells)
          ∙ done.is,
      ap (filled number_of (routine_fixups place contents)) (sym (append_assoc front (contents.locals ∷ []) (body ++ rest)))
          ∙ done.fills ∙ append_assoc front (contents.locals ∷ []) (done.numbered ++ rest),
    )
