-- The names that the code's map stands for.
use Rattle.std.specs.Prelude.{ℕ}
use Rattle.arrayvec.specs.declared.array_vec.ArrayVec.{ArrayVec}
use Rattle.inf_names.specs.{Symbols.IsDeclared, Symbols.IsUsed, Symbols.Named, Symbols.Standing, declared.symbols.Entry.Entry}

abbrev pub standing : {P : Type 0} → Entry P → Standing P
standing (Entry.Declared number meaning place) = IsDeclared number meaning place
standing (Entry.Used spelling place) = IsUsed spelling.items place

-- an entry of the map as a name
abbrev pub as_named : {P : Type 0} → ArrayVec ℕ 35 Unit × Entry P → Named P
as_named e = record { name = e.0.items; standing = standing e.1 }
