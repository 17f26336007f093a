use Rattle.std.proofs.Common.{take, drop}
use Rattle.inf_properties.specs.{Places.AreAt, Places.AreCovered, Properties.AreNew}
use Rattle.inf_properties.proofs.lists.place_all.Given as goal

abbrev pub invariant-loop-place : goal.invariant-loop-place
invariant-loop-place l = record {
  at : AreAt 0 l.places (take l.place l.properties);
  covered : AreCovered l.places (drop l.place l.properties);
  once : AreNew (take l.place l.properties) (drop l.place l.properties);
}
