use Rattle.std.proofs.Common.{◌≡◌, drop}
use Rattle.inf_objects.specs.Objects.{has_number}
use Rattle.inf_objects.proofs.objects.has_number.Given as goal

abbrev pub invariant-loop-other : goal.invariant-loop-other
invariant-loop-other l = has_number l.number (drop l.other-index l.numbers) ≡ has_number l.number l.numbers
