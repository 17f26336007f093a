use Rattle.std.proofs.Common.{◌≡◌, ◌++◌, drop, map, take}
use Rattle.inf_sources.specs.Choosing.{file_with}
use Rattle.inf_sources.proofs.open_files.set_all.Given as goal

-- the files before this one are read by the set, and the others as before
abbrev pub invariant-loop-at : goal.invariant-loop-at
invariant-loop-at l = l.files ≡ map (file_with l.set) (take l.at l.initial.files) ++ drop l.at l.initial.files
