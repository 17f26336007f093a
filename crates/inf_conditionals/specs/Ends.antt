-- The ends of conditionals: those that were opened inside a directive have to end in it, the others in their file.
use Rattle.std.specs.Prelude.{ℕ, List, [], ◌∷◌, reverse, if◌then◌else◌, Option, Some, None}
use Rattle.inf_scanner.specs.declared.tokens.Place.{Place}
use Rattle.inf_report.specs.Messages.{LoneConditional}
use Rattle.inf_unit.specs.Messages.{FileNames, Reported, location, with_error}
use Rattle.inf_sources.specs.declared.open_file.Conditional.{Conditional}
use Rattle.inf_conditionals.specs.{Open.Conditions, declared.open.LeftOut.LeftOut}

-- the messages with a conditional directive without its other end, which is reported where it begins
abbrev pub with_lone : FileNames → Place → Reported → Reported
with_lone files place r = with_error (location files place) (location files place) LoneConditional r

abbrev pub with_all_lone : FileNames → List Conditional → Reported → Reported
with_all_lone files [] r = r
with_all_lone files (c ∷ cs) r = with_all_lone files cs (with_lone files c.place r)

-- the messages at the end of a directive: the conditionals that are open inside it are reported in the order in which they were opened
abbrev pub piece_told : FileNames → Conditions → Reported → Reported
piece_told files c r = with_all_lone files (reverse c.inner) r

-- the side that is left out behind a directive: none where its conditional ended with the directive
abbrev pub side_kept : Option LeftOut → Option LeftOut
side_kept None = None
side_kept (Some side) = if side.is_inner then None else Some side

-- the conditionals behind the directive at hand, where `declared` names are declared now
abbrev pub piece_ended : ℕ → Conditions → Conditions
piece_ended declared c = record c { inner = []; left_out = side_kept c.left_out; declared = declared }

-- the messages at the end of a file: the conditionals of its last directive are reported, and then the others
abbrev pub file_told : FileNames → Conditions → Reported → Reported
file_told files c r = with_all_lone files (reverse c.among) (piece_told files c r)

-- the conditionals behind the end of a file: none is open any more
abbrev pub file_ended : Conditions → Conditions
file_ended c = record c { among = []; inner = [] }

-- the conditionals, of which these are open between the directives
abbrev pub with_among : List Conditional → Conditions → Conditions
with_among among c = record c { among = among }
