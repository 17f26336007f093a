-- Meaning of a name token of the code.
use Rattle.inf_names.specs.Spellings.{Name}
use Rattle.inf_unit.specs.declared.unit_tokens.NameToken.{NameToken}

abbrev pub named : NameToken → Name
named n = record { bytes = n.bytes.now; place = n.place }
