-- The labels with names, by the entries of the code's map.
use Rattle.std.specs.Prelude.{ℕ}
use Rattle.arrayvec.specs.declared.array_vec.ArrayVec.{ArrayVec}
use Rattle.inf_constructs.specs.{Labels.Known, Labels.NamedLabel, declared.labels.Entry.Entry}

abbrev pub known : Entry → Known
known e = record { spelling = e.spelling.items; label = e.label; is_given = e.is_given }

-- an entry of the map as a label with a name
abbrev pub as_named : ArrayVec ℕ 32 Unit × Entry → NamedLabel
as_named e = record { key = e.0.items; known = known e.1 }
