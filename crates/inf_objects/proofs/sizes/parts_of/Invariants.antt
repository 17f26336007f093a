use Rattle.std.proofs.Common.{◌≡◌, ◌+◌, ◌≤◌, true, drop}
use Rattle.inf_properties.specs.Sizes.{are_short}
use Rattle.inf_objects.specs.Measures.{parts_of}
use Rattle.inf_objects.proofs.sizes.parts_of.Given as goal

abbrev pub invariant-loop-property : goal.invariant-loop-property
invariant-loop-property l = record {
  bytes : l.all.bytes + (parts_of l.individual (drop l.property-index l.properties)).bytes ≡ (parts_of l.individual l.properties).bytes;
  later : l.all.later + (parts_of l.individual (drop l.property-index l.properties)).later ≡ (parts_of l.individual l.properties).later;
  few : l.all.later ≤ l.all.bytes;
  short : are_short (drop l.property-index l.properties) ≡ true;
}
