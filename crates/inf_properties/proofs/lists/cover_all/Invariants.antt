use Rattle.std.proofs.Common.{take}
use Rattle.inf_properties.specs.Places.{AreCovered, KeepsPlaces}
use Rattle.inf_properties.proofs.lists.cover_all.Given as goal

abbrev pub invariant-loop-property : goal.invariant-loop-property
invariant-loop-property l = record {
  kept : KeepsPlaces l.initial.places.items l.places.items;
  covered : AreCovered l.places.items (take l.property-index l.properties);
}
