-- Room for what a unit prints, gives or takes. Where more is printed or given than code may have bytes for, and where an assembly line
-- has more than 64 operands, the compiler keeps only those of its parts that matter.
use Rattle.std.specs.Prelude.{List, [], ◌∷◌, ◌++◌, Bool, true, not, ◌&&◌, nat_lt}
use Rattle.inf_settings.specs.{Bounds.Limits, declared.setting.Setting.Setting}
use Rattle.inf_unit.specs.declared.roles.Note.{Note}
use Rattle.inf_unit.specs.Units.{Unit as UnitAtHand, action_gathered, is_full, noted, stepped, taken}
use Rattle.inf_language.specs.Texts.{tokens_of}
use Rattle.inf_trees.specs.Trees.{Doubtful, Further, Joined, Named, Noted, Part, Ruled, Single, Value, Worded, with_further, with_rule}
use Rattle.inf_trees.specs.Trees.{with_value, with_word, without_outer}

-- Tells whether there is room for what is noted of a unit: for what is printed or given, as long as the code of what it has so far may
-- have the bytes that it has at least; for an operand, unless an assembly line has more than 64.
abbrev pub has_room : Limits → Note → UnitAtHand → Bool
has_room limits Note.PrintText u = not (nat_lt (limits Setting.Code) u.code)
has_room limits Note.PrintValue u = not (nat_lt (limits Setting.Code) u.code)
has_room limits Note.PrintRuled u = not (nat_lt (limits Setting.Code) u.code)
has_room limits Note.Set u = not (nat_lt (limits Setting.Code) u.code)
has_room limits Note.Clear u = not (nat_lt (limits Setting.Code) u.code)
has_room limits Note.OuterEnd u = not (is_full u)
has_room limits _ u = true

-- Tells whether there is room for all parts of a unit, one behind the other. A name in brackets is an operand until it is a print rule.
abbrev pub have_room : Limits → UnitAtHand → List Part → Bool
have_room limits u [] = true
have_room limits u (Single s ∷ parts) = have_room limits (taken s.token u) parts
have_room limits u (Value level tokens value ∷ parts) = have_room limits (with_value (tokens_of tokens) value u) parts
have_room limits u (Doubtful level front tokens value ∷ parts) =
    have_room limits (with_value (tokens_of front ++ tokens_of tokens) value u) parts
have_room limits u (Ruled bracket name closing ∷ parts) =
    has_room limits Note.OuterEnd (taken bracket.token (without_outer u))
    && have_room limits (with_rule bracket.token name.token closing.token u) parts
have_room limits u (Named ∷ parts) = have_room limits (action_gathered u) parts
have_room limits u (Noted n ∷ parts) = has_room limits n u && have_room limits (noted n u) parts
have_room limits u (Worded ∷ parts) = have_room limits (with_word u) parts
have_room limits u (Further level tokens value ∷ parts) = have_room limits (with_further (tokens_of tokens) value u) parts
have_room limits u (Joined joint ∷ parts) = have_room limits (stepped joint u) parts
