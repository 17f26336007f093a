-- Meaning of a compilation of the code.
use Rattle.inf_names.specs.LocalList.{listed}
use Rattle.inf_unit.specs.{AtHand.unit, Directives.asked}
use Rattle.inf_compilation.specs.{Actions.Compilation, declared.compilation.Compilation.Compilation as CodeCompilation}

abbrev pub work : {B : Type 0} → CodeCompilation B → Compilation
work w = record {
  most_tokens = w.most_tokens;
  most_labels = w.most_labels;
  unit = unit w.unit;
  constructs = w.constructs;
  closed = w.closed;
  opening = w.opening;
  labels = w.labels;
  locals = listed w.locals;
  output = w.output;
  report = w.report;
  asked = asked w.asked;
  replaced = w.replaced;
  is_system = w.is_system;
  is_replaced = w.is_replaced;
  listing = w.listing;
  lost = w.lost;
  is_name = w.is_name;
  is_embedded = w.is_embedded;
  extending = w.extending;
  letters = w.letters;
  told = w.told;
}
