-- The way in which a bad token is passed over, by the tokens of its piece before it.
use Rattle.std.specs.Prelude.{ℕ, List, if◌then◌else◌}
use Rattle.inf_grammar.specs.Brackets.{is_bracket_open}
use Rattle.inf_reader.specs.declared.recovery.Recovery.{Recovery}

-- The way in which tokens are passed over behind those that begin a piece, and that the grammar sees in the same way: as in a
-- routine where the last bracket among them is an opening one, and the piece is no array's.
abbrev pub skip_behind : List ℕ → Recovery
skip_behind seen = if is_bracket_open seen then Recovery.SkipsRoutine else Recovery.SkipsDirective
