use Rattle.std.proofs.Common.{◌≡◌, ◌++◌, ◌∷◌, [], drop}
use Rattle.inf_objects.specs.Objects.{new_classes}
use Rattle.inf_objects.proofs.objects.ClassNumbers.joined.Given as goal

abbrev pub invariant-loop-class : goal.invariant-loop-class
invariant-loop-class l = l.list.items ++ new_classes l.self l.number (drop l.class-index l.class-items) ≡ l.self ++ l.number ∷ [] ++
    new_classes l.self l.number l.class-items
