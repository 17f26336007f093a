-- The effect of each action of the grammar.
use Rattle.std.specs.Prelude.{ℕ, List, [], ◌∷◌, Bool, false, true, ◌&&◌, None, Some, nat_lt, if◌then◌else◌, Option}
use Rattle.inf_settings.specs.{Bounds.Limits, Settings.number_of, declared.setting.Setting.Setting}
use Rattle.inf_scanner.specs.declared.tokens.Place.{Place}
use Rattle.inf_syntax.specs.declared.actions.Action.{Action}
use Rattle.inf_compilation.specs.{Context.Context, Crowds.value_sifted}
use Rattle.inf_compilation.specs.Actions.{Compilation, body_ended, close, cut, finding_at, header_end, is_deep, nested, sized}
use Rattle.inf_compilation.specs.Nesting.{construct_closed, construct_joined, construct_opened}
use Rattle.inf_unit.specs.{declared.roles.Ending.Ending, declared.roles.Note.Note, declared.roles.Opening.Opening, declared.roles.Role.Role}
use Rattle.inf_unit.specs.Roles.{ends_outer, ends_token, ends_value, is_arrow, is_text, is_verb_word, makes_sure, role_of}
use Rattle.inf_unit.specs.Units.{is_full, last_leaf, last_passed, noted as unit_noted, operands_passed, order, stepped, text_passed}
use Rattle.inf_operands.specs.Operands.{leaves_named}
use Rattle.inf_expressions.specs.declared.units.Wanted.{Wanted}
use Rattle.inf_constructs.specs.{declared.constructs.Case.Case, declared.constructs.Kind.Kind, declared.constructs.Over.Over}
use Rattle.inf_declarations.specs.Arrays.{entry_ended}
use Rattle.inf_directives.specs.Abbreviations.{abbreviation}
use Rattle.inf_reader.specs.{Directives.directive_end, Headers.header_ended}
use Rattle.inf_bodies.specs.{Bodies.attribute_read, Bodies.class_read, Bodies.property_read, Values.embedded_read, Values.value_read}
use Rattle.inf_parts.specs.{Parts.part_ended, Parts.statement_at, declared.parts.Part.Part}
use Rattle.inf_verb_lines.specs.Verbs.{line_ended, token_sifted, word_sifted}

-- Whether the unit at hand prints or gives more than code may have bytes for, by the least number of bytes of the code of each item. Its
-- code then passes that setting, whatever else it prints or gives.
abbrev pub is_crowded : Limits → Compilation → Bool
is_crowded limits w = nat_lt (limits Setting.Code) w.unit.code

-- Whether the unit at hand has more arrows than there may be objects. It is then below none, whatever else it has: an object has as many
-- arrows as there are others above it.
abbrev pub is_tall : Context → Compilation → Bool
is_tall context w = nat_lt (number_of Setting.Objects context.settings) (last_leaf w.unit)

-- The operands of the unit at hand, which are more than an instruction has, name their locals, and the finding about them is kept.
abbrev pub operands_named : Compilation → Compilation
operands_named w = record w {
  locals = leaves_named w.unit.tokens w.unit.gathering.leaves w.locals;
  unit = operands_passed (finding_at (order w.unit.begun) Wanted.Operand w) w.unit;
}

-- A note is made of the unit at hand, by which its outermost expression may be too long. Only some of the texts that are printed, and of
-- the arrows before an object's name, are kept, and no operands where these are too many; of the tokens of a line of grammar that is too
-- long, of the words of a verb that has too many, and of the values of a statement that has too many, those that matter.
abbrev pub noted_of : Context → Note → Compilation → Compilation
noted_of context n w = let v = record w { unit = unit_noted n w.unit } in if makes_sure n then sized context v else v

-- Whether the unit at hand has more tokens than the grammar may have bytes. A token of a line of grammar has three bytes, and is three
-- tokens of the source at most.
abbrev pub is_long : Context → Compilation → Bool
is_long context w = nat_lt (number_of Setting.GrammarLines context.settings) (last_leaf w.unit)

-- Whether the unit at hand has more tokens than there may be words.
abbrev pub is_wordy : Context → Compilation → Bool
is_wordy context w = nat_lt (number_of Setting.DictionaryEntries context.settings) (last_leaf w.unit)

-- A value ends of a unit that has too many.
abbrev pub value_noted : Context → Note → Compilation → Compilation
value_noted context n w = value_sifted context (noted_of context n w)

abbrev pub noted : Limits → Context → Note → Compilation → Compilation
noted limits context n w =
    if is_text n && is_crowded limits w then record w { unit = text_passed w.unit }
    else if is_arrow n && is_tall context w then record w { unit = last_passed w.unit }
    else if ends_outer n && is_full w.unit then operands_named w
    else if ends_token n && is_long context w then token_sifted context w
    else if ends_value n && is_crowded limits w then value_noted context n w
    else if is_verb_word n && is_wordy context w then word_sifted w
    else noted_of context n w

-- The unit at hand ends, before a token at a place.
abbrev pub ended : Limits → Context → Place → Ending → Compilation → Compilation
ended limits context place Ending.Locals w = header_end limits context place w
ended limits context place Ending.Embedded w = embedded_read limits context place w
ended limits context place Ending.Routine w = close limits context place w
ended limits context place Ending.Directive w = directive_end limits context place w
ended limits context place Ending.Header w = header_ended limits context place w
ended limits context place Ending.Body w = body_ended w
ended limits context place Ending.Class w = class_read limits context place w
ended limits context place Ending.Attribute w = attribute_read limits context place w
ended limits context place Ending.Property w = property_read limits context place w
ended limits context place Ending.Value w = value_read limits context place w
ended limits context place Ending.Line w = line_ended limits context place w
ended limits context place Ending.Abbreviation w = abbreviation limits context place w
ended limits context place Ending.Entry w = entry_ended limits context place false w
ended limits context place Ending.Alone w = entry_ended limits context place true w
ended limits context place Ending.Statement w = part_ended limits context place (Part.Statement (statement_at w)) w
ended limits context place Ending.Condition w = part_ended limits context place Part.Condition w
ended limits context place Ending.Start w = part_ended limits context place Part.Start w
ended limits context place Ending.Step w = part_ended limits context place Part.Step w
ended limits context place Ending.Loop w = part_ended limits context place Part.Loop w
ended limits context place Ending.Switched w = part_ended limits context place Part.Switched w
ended limits context place Ending.Case w = part_ended limits context place Part.Case w

-- the kind of a statement that begins
abbrev pub kind_of : Opening → Kind
kind_of Opening.If = Kind.If
kind_of Opening.While = Kind.While
kind_of Opening.Do = Kind.Do
kind_of Opening.For = Kind.For
kind_of Opening.Objectloop = Kind.Objects Over.Nothing 0
kind_of Opening.Switch = Kind.Switch Case.Nothing false

-- the effect of an action, by its role, before a token at `place`
abbrev pub played : Limits → Context → Place → Role → Compilation → Compilation
played limits context place (Role.Gather s) w = record w { unit = stepped s w.unit }
played limits context place (Role.Note n) w = noted limits context n w
played limits context place (Role.End e) w = ended limits context place e w
played limits context place (Role.Open o) w = construct_opened limits context place (kind_of o) w
played limits context place Role.Join w = construct_joined limits w
played limits context place Role.Close w = construct_closed limits w
played limits context place Role.Deeper w = nested context place (is_deep w 1) w
played limits context place Role.MaybeDeeper w = record w { opening = Some place }
played limits context place Role.Nothing w = w

abbrev pub act : Limits → Context → Place → Action → Compilation → Compilation
act limits context place a w = played limits context place (role_of a) w

abbrev pub acted : Limits → Context → Place → List Action → Compilation → Compilation
acted limits context place [] w = w
acted limits context place (a ∷ actions) w = acted limits context place actions (act limits context place a w)

-- the effect of the actions on the way to a token
abbrev pub all_acted : Limits → Context → Place → List Action → Compilation → Compilation
all_acted limits context place actions w = acted limits context place actions (record w { opening = None })

-- A bad token at a place cuts the unit at hand. An entry of an array that waited for the token behind it is whole before the bad one.
abbrev pub held_ended : Option ℕ → Limits → Context → Place → Compilation → Compilation
held_ended None limits context place w = w
held_ended (Some count) limits context place w = entry_ended limits context place false w

abbrev pub cut_at : Limits → Context → Place → Compilation → Compilation
cut_at limits context place w = cut context (held_ended w.unit.held limits context place w)
