-- Meaning of findings of the code.
use Rattle.std.specs.Prelude.{option_map}
use Rattle.inf_names.specs.Spellings.{as_name}
use Rattle.inf_compilation.specs.{declared.findings.Again.Again as CodeAgain, declared.findings.Findings.Findings as CodeFindings}
use Rattle.inf_compilation.specs.Findings.{Again, Findings}

abbrev pub again_as : CodeAgain → Again
again_as a = record { name = as_name a.name; first = a.first }

abbrev pub found_as : CodeFindings → Findings
found_as f = record { least = f.least; many = f.many; again = option_map again_as f.again }
