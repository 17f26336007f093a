-- Lists of fixups.
use Rattle.std.specs.Prelude.{ℕ, List}
use Rattle.inf_area.specs.declared.fixups.Fixup.{Fixup}

-- the fixups in order, and the greatest number of them
pub record Fixups : Type 0 where
  pub list : List Fixup
  pub limit : ℕ

-- fixups with the list `list` in place of theirs, under their limit
abbrev pub with_fixups : List Fixup → Fixups → Fixups
with_fixups list fixups = record fixups { list = list }
