use Rattle.std.proofs.Common.{◌≡◌, drop}
use Rattle.inf_story.specs.Names.{values_of}
use Rattle.inf_story.proofs.NameSteps.{behind}
use Rattle.inf_story.proofs.names.values_of.Given as goal

-- the values so far, with those of the names that are left, are the values of all names
abbrev pub invariant-loop-number : goal.invariant-loop-number
invariant-loop-number g l = behind l.values.items (values_of (drop l.number l.names.names)) ≡ values_of l.names.names
