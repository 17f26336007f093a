-- The values of a statement that prints more than code may have bytes for, or that gives or takes as many attributes. Such a
-- statement passes that setting, if nothing is wrong with it. For a further value it matters only whether something is wrong with it that
-- is told before all else that is wrong, and whether it passes a setting that is told before that one: by a name or a word that did not
-- come before, or by what it lays beside bytes. The number of an action depends on the actions before it.
use Rattle.std.specs.Prelude.{ℕ, List, [], take, Bool, true, false, ◌&&◌, ◌||◌, Option, Some, None, is_none}
use Rattle.inf_expressions.specs.{declared.findings.Finding.Finding, declared.operators.Operand.Operand}
use Rattle.inf_expressions.specs.Findings.{is_before, least_of_both}
use Rattle.inf_gathering.specs.declared.gathering.Extent.{Extent}
use Rattle.inf_names.specs.Symbols.{Table, no_names}
use Rattle.inf_scanner.specs.declared.tokens.Place.{Place}
use Rattle.inf_unit.specs.{LongLines.LongLine, LongLines.no_tokens, declared.crowds.Crowd.Crowd as CodeCrowd}

-- The values that are kept: the number of their tokens, with the names and the words that came; the number of their items, and the least
-- number of bytes of their code; the extent of what was gathered of them; the operands of their leaves; their new actions; and the least finding about them. Of the value at hand:
-- whether it may pass a setting, and whether an action in it is new.
pub record Crowd : Type 0 where
  pub line : LongLine
  pub items : ℕ
  pub code : ℕ
  pub extent : Extent
  pub operands : List Operand
  pub actions : Table Place
  pub least : Option Finding
  pub tells : Bool
  pub acts : Bool

-- the crowd of the code
abbrev pub crowd : CodeCrowd → Crowd
crowd c = record {
  line = c.line;
  items = c.items;
  code = c.code;
  extent = c.extent;
  operands = c.operands.items;
  actions = c.actions;
  least = c.least;
  tells = c.tells;
  acts = c.acts;
}

-- Nothing is kept so far. The value at hand is then all that the unit has, and is kept.
abbrev pub no_crowd : Crowd
no_crowd = record {
  line = no_tokens 0 false;
  items = 0;
  code = 0;
  extent = record { leaves = 0; symbols = 0; wholes = 0 };
  operands = [];
  actions = no_names false;
  least = None;
  tells = true;
  acts = false;
}

abbrev pub crowd_or : Option Crowd → Crowd
crowd_or None = no_crowd
crowd_or (Some c) = c

-- Tells whether a finding, if there is one, comes before the least so far.
abbrev pub is_lesser : Option Finding → Option Finding → Bool
is_lesser least None = false
is_lesser None (Some f) = true
is_lesser (Some old) (Some f) = is_before f old

-- Tells whether the value at hand is kept, about which a finding is the least. Where something is wrong already, no setting is passed.
abbrev pub is_telling : Option Finding → Crowd → Bool
is_telling f c = is_lesser c.least f || (c.acts || (c.tells && is_none c.least))

-- The value at hand is kept, with which the unit has `count` tokens and `items` items, whose code has `code` bytes at least, and has
-- gathered `extent`.
abbrev pub with_value : ℕ → ℕ → ℕ → Extent → Option Finding → Crowd → Crowd
with_value count items code extent f c = record {
  line = record c.line { count = count };
  items = items;
  code = code;
  extent = extent;
  operands = c.operands;
  actions = c.actions;
  least = least_of_both c.least f;
  tells = false;
  acts = false;
}

-- The value at hand is not kept.
abbrev pub without_value : Crowd → Crowd
without_value c = record c { operands = take c.extent.leaves c.operands; tells = false; acts = false }
