-- The messages of the code about conditions.
use Rattle.std.specs.Prelude.{slice_get}
use Rattle.inf_unit.specs.AtHand.{unit}
use Rattle.inf_conditionals.specs.{Said.Deep, Said.Long, Said.Right, Said.Said, Said.Wrong, Said.blame_at}
use Rattle.inf_conditionals.specs.declared.said.Said.{Said as CodeSaid}

abbrev pub said_of : CodeSaid → Said
said_of (CodeSaid.Right u) = Right (unit u).tokens (unit u).gathering.leaves
said_of (CodeSaid.Wrong directive u finding) = Wrong directive (blame_at directive finding.error (slice_get (unit u).tokens finding.order))
said_of (CodeSaid.Long place) = Long place
said_of (CodeSaid.Deep place) = Deep place
