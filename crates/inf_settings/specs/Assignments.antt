-- Assignments of the code as a name and a number.
use Rattle.inf_settings.specs.{Words.Assigned, declared.words.Assignment.Assignment}

abbrev pub told : Assignment → Assigned
told a = record { name = a.name.now; number = a.number }
