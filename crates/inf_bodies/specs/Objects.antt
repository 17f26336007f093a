-- Objects and classes: their headers. Designer's Manual, fourth edition, sections 3.1 to 3.8.
use Rattle.std.specs.Prelude.{ℕ, ◌+◌, ◌-◌, ◌%◌, nat_le, nat_lt, List, [], ◌∷◌, length, codes, Bool, false, if◌then◌else◌}
use Rattle.std.specs.Prelude.{Option, Some, None, unwrap_or, Result, Ok, Err}
use Rattle.std.specs.Str.{str_eq_ignore_ascii_case}
use Rattle.inf_settings.specs.{Bounds.Limits, declared.setting.Setting.Setting}
use Rattle.inf_expressions.specs.{declared.findings.Finding.Finding, declared.findings.UnitError.UnitError}
use Rattle.inf_expressions.specs.Findings.{least_of_both, wrong_kind}
use Rattle.inf_names.specs.{Spellings.Name, Symbols.found_in, declared.meanings.Meaning.Meaning, declared.symbols.Found.Found}
use Rattle.inf_output.specs.Output.{Code, Out, passed_table}
use Rattle.inf_report.specs.{Messages.TooMany, declared.messages.FixedLimit.FixedLimit}
use Rattle.inf_scanner.specs.{declared.tokens.Place.Place, declared.tokens.TokenKind.TokenKind}
use Rattle.inf_unit.specs.{Tokens.SourceToken}
use Rattle.inf_unit.specs.Units.{bytes_at, name_at, name_order, next_place, order}
use Rattle.inf_compilation.specs.{Actions.Compilation, Actions.unit_ended, Context.Context, Findings.found_alone, Findings.many_finding}
use Rattle.inf_tables.specs.{Objects.class_count, Objects.parent_of, declared.faults.Misfit.Misfit, declared.faults.WorldFault.WorldFault}
use Rattle.inf_tables.specs.{declared.faults.WorldSetting.WorldSetting, declared.kinds.Parent.Parent}
use Rattle.inf_tables.specs.World.{class_header_fault, class_of_fault, lost_header_fault, object_header_fault, with_class_header}
use Rattle.inf_tables.specs.World.{with_class_of, with_lost_header, with_object_header}
use Rattle.inf_named_values.specs.Declarations.{declared_ended, name_declared, plainly_known, with_world}
use Rattle.inf_named_values.specs.declared.declarations.Declared.{Declared}
use Rattle.inf_bodies.specs.declared.headers.Header.{Header}
use Rattle.inf_bodies.specs.ShortNames.{bracketed, name_packed, packed_name, short_text}

-- Definitions of refusals of the world

-- the setting that bounds a count
abbrev pub setting_of : WorldSetting → Setting
setting_of WorldSetting.Objects = Setting.Objects
setting_of WorldSetting.PropertyTables = Setting.PropertyTables

-- A refused entry does nothing; where it would pass a setting, that is passed.
abbrev pub noted : Limits → WorldFault → Code
noted limits (WorldFault.Limit l) o = o
noted limits (WorldFault.Misfit m) o = o
noted limits (WorldFault.Full s) o = passed_table limits (setting_of s) o
noted limits WorldFault.Memory o = o

-- The finding about an entry that the world refuses, at `name`, the order of its name. It is no error of the unit that a
-- setting would be passed.
abbrev pub refused_finding : Option WorldFault → ℕ → Option Finding
refused_finding None name = None
refused_finding (Some (WorldFault.Limit l)) name = Some (record { order = 0; error = UnitError.TooMany })
refused_finding (Some (WorldFault.Misfit m)) name = Some (wrong_kind name)
refused_finding (Some (WorldFault.Full s)) name = None
refused_finding (Some WorldFault.Memory) name = None

-- The end of a unit of an object or a class, which begins at `first`: the finding about it is shown, and at its first token
-- that there are too many values.
abbrev pub entry_told : Limits → Context → Place → Option Finding → Compilation → Compilation
entry_told limits context first f w = unit_ended limits context first false (found_alone f) w

-- Definitions of meanings of names

abbrev pub found_at : ℕ → Compilation → Found Place
found_at at w = found_in (bytes_at w.unit.tokens at) w.output.names

abbrev pub object_in : Meaning → Option ℕ
object_in (Meaning.Object number) = Some number
object_in _ = None

abbrev pub object_of : Found Place → Option ℕ
object_of (Found.System m) = object_in m
object_of (Found.Declared m first) = object_in m
object_of Found.Used = None
object_of Found.Unknown = None

-- the class of the source
abbrev pub class_in : Meaning → Option ℕ
class_in (Meaning.Class number) = Some number
class_in _ = None

abbrev pub class_of : Found Place → Option ℕ
class_of (Found.System m) = None
class_of (Found.Declared m first) = class_in m
class_of Found.Used = None
class_of Found.Unknown = None

-- The header of an object: behind its word arrows, the object's own name, a text as its short name, and the name of its parent

abbrev pub no_header : Header
no_header = record { own = None; text = None; parent = None; arrow = None; arrows = 0 }

abbrev pub arrow_at : ℕ → Header → Header
arrow_at at h = record h { arrow = Some (unwrap_or h.arrow at); arrows = next_place h.arrows }

-- a name behind the own one, or behind the text, is that of the parent
abbrev pub named_by : Option ℕ → Option ℕ → ℕ → Header → Header
named_by None None at h = record h { own = Some at }
named_by None (Some text) at h = record h { parent = Some at }
named_by (Some own) text at h = record h { parent = Some at }

abbrev pub named_at : ℕ → Header → Header
named_at at h = named_by h.own h.text at h

abbrev pub header_with : ℕ → TokenKind → Header → Header
header_with at (TokenKind.Mark m) h = arrow_at at h
header_with at TokenKind.Text h = record h { text = Some at }
header_with at _ h = named_at at h

abbrev pub header_step : ℕ → ℕ → Option TokenKind → Header → Header
header_step word at None h = h
header_step word at (Some k) h = if nat_lt word at then header_with at k h else h

abbrev pub header_from : ℕ → ℕ → List SourceToken → Header → Header
header_from word at [] h = h
header_from word at (t ∷ tokens) h = header_from word (at + 1) tokens (header_step word at (Some t.kind) h)

abbrev pub object_header_of : ℕ → List SourceToken → Header
object_header_of word tokens = header_from word 0 tokens no_header

-- the place of the directive's word, before which a `#` may come
abbrev pub word_place : List SourceToken → ℕ
word_place tokens = name_order tokens - 1

-- `Nearby` is an object with one arrow
abbrev pub is_nearby : List ℕ → Bool
is_nearby word = str_eq_ignore_ascii_case word (codes "nearby")

abbrev pub below : ℕ → Header → Header
below word h = record h { arrow = Some word; arrows = 1 }

abbrev pub header_in : List SourceToken → Header
header_in tokens =
    let word = word_place tokens in
    if is_nearby (bytes_at tokens word) then below word (object_header_of word tokens) else object_header_of word tokens

-- Definitions of classes

-- a body is open that belongs to nothing, since something is wrong with its header
abbrev pub lost_begun_by : Option WorldFault → Code
lost_begun_by None o = with_world (with_lost_header o.tables.world) o
lost_begun_by (Some f) o = o

abbrev pub lost_begun : Code
lost_begun o = lost_begun_by (lost_header_fault o.tables.world) o

-- the name of a class is declared; where there is no such class, as that of none
abbrev pub class_declared : Limits → Name → ℕ → Code
class_declared limits name number o = name_declared limits name (Meaning.Class (number % 65536)) o

abbrev pub class_lost : Limits → Name → Code
class_lost limits name o = class_declared limits name 0 (lost_begun o)

-- A class that the world refuses, since it would pass a setting, has a name all the same: that may pass a setting before that one.
abbrev pub class_refused : Limits → WorldFault → Name → Code
class_refused limits f name o = class_declared limits name 0 (noted limits f o)

abbrev pub class_begun_by : Limits → Option WorldFault → List ℕ → Name → Code
class_begun_by limits None short name o =
    class_declared limits name (5 + length o.tables.world.objects) (with_world (with_class_header short o.tables.world) o)
class_begun_by limits (Some f) short name o = class_refused limits f name o

abbrev pub class_begun : Limits → List ℕ → Name → Code
class_begun limits short name o = class_begun_by limits (class_header_fault limits short o.tables.world) short name o

abbrev pub class_opened : Limits → Context → Option Finding → Name → Compilation → Compilation
class_opened limits context None name w =
    let text = bracketed context.set name.bytes in
    record w { output = class_begun limits (packed_name text w.output.texts) name (name_packed text w.output) }
class_opened limits context (Some f) name w = record w { output = class_lost limits name w.output }

abbrev pub class_with : Limits → Context → Place → Name → Declared → Compilation → Compilation
class_with limits context first name d w =
    declared_ended limits context first false name FixedLimit.Globals d (class_opened limits context d.finding name w)

abbrev pub class_header : Limits → Context → Place → Name → Compilation → Compilation
class_header limits context first name w = class_with limits context first name (plainly_known name (name_order w.unit.tokens) w) w

-- Definitions of objects

-- the finding about arrows, the first of which is at a place: no object is above them
abbrev pub hung_finding : Result ℕ Misfit → ℕ → Option Finding
hung_finding (Ok number) at = None
hung_finding (Err m) at = Some (wrong_kind (order at))

abbrev pub above_finding : Option ℕ → ℕ → Compilation → Option Finding
above_finding None arrows w = None
above_finding (Some at) arrows w = hung_finding (parent_of (Parent.Arrows arrows) w.output.tables.world.objects) at

-- the finding about the name of a parent: it is that of no object, or arrows are there, too
abbrev pub parent_fit : Option ℕ → Option ℕ → ℕ → Option Finding
parent_fit (Some number) None at = None
parent_fit (Some number) (Some arrow) at = Some (wrong_kind (order at))
parent_fit None arrow at = Some (wrong_kind (order at))

abbrev pub named_parent_finding : Option ℕ → Option ℕ → Compilation → Option Finding
named_parent_finding None arrow w = None
named_parent_finding (Some at) arrow w = parent_fit (object_of (found_at at w)) arrow at

abbrev pub parent_finding : Header → Compilation → Option Finding
parent_finding h w = least_of_both (above_finding h.arrow h.arrows w) (named_parent_finding h.parent h.arrow w)

abbrev pub parent_in : Option ℕ → ℕ → Compilation → Parent
parent_in None arrows w = Parent.Arrows arrows
parent_in (Some at) arrows w = Parent.Object (unwrap_or (object_of (found_at at w)) 0)

abbrev pub own_name : Option ℕ → Compilation → Option Name
own_name None w = None
own_name (Some at) w = name_at w.unit.tokens at

-- the class that the word of the header names, if it does
abbrev pub class_of_word : Compilation → Option ℕ
class_of_word w = class_of (found_at (word_place w.unit.tokens) w)

-- An object that it heads has that class and all that are its classes: of classes an object has 32 at most.
abbrev pub has_most_classes : Option ℕ → Out → Bool
has_most_classes None o = false
has_most_classes (Some number) o = nat_le 32 (class_count number o.tables.world.objects)

-- the findings about the class that heads an object, and about the place of the object in the tree
abbrev pub headed_finding : Header → Compilation → Option Finding
headed_finding h w = least_of_both (many_finding (has_most_classes (class_of_word w) w.output)) (parent_finding h w)

abbrev pub joined_by : Limits → Option WorldFault → ℕ → Code
joined_by limits None number o = with_world (with_class_of number o.tables.world) o
joined_by limits (Some f) number o = noted limits f o

abbrev pub joined : Limits → ℕ → Code
joined limits number o = joined_by limits (class_of_fault limits number o.tables.world) number o

abbrev pub joined_some : Limits → Option ℕ → Code
joined_some limits None o = o
joined_some limits (Some number) o = joined limits number o

abbrev pub joined_fault : Limits → Option ℕ → Out → Option WorldFault
joined_fault limits None o = None
joined_fault limits (Some number) o = class_of_fault limits number o.tables.world

abbrev pub object_declared : Limits → Option Name → ℕ → Code
object_declared limits None number o = o
object_declared limits (Some n) number o = name_declared limits n (Meaning.Object (number % 65536)) o

abbrev pub object_named : Limits → Option ℕ → Option Name → ℕ → Code
object_named limits class name number o = object_declared limits name number (joined_some limits class o)

abbrev pub object_lost : Limits → Option Name → Code
object_lost limits name o = object_declared limits name 0 (lost_begun o)

-- an object that the world refuses has a name all the same
abbrev pub object_refused : Limits → WorldFault → Option Name → Code
object_refused limits f name o = object_declared limits name 0 (noted limits f o)

abbrev pub object_begun_by : Limits → Option WorldFault → Parent → List ℕ → Option ℕ → Option Name → Code
object_begun_by limits None p short class name o =
    object_named limits class name (5 + length o.tables.world.objects) (with_world (with_object_header p short o.tables.world) o)
object_begun_by limits (Some f) p short class name o = object_refused limits f name o

abbrev pub object_begun : Limits → Parent → List ℕ → Option ℕ → Option Name → Code
object_begun limits p short class name o = object_begun_by limits (object_header_fault limits p short o.tables.world) p short class name o

abbrev pub object_new : Limits → Context → Header → Option Name → Compilation → Compilation
object_new limits context h name w =
    let text = short_text context h name w in record w {
      output = object_begun limits (parent_in h.parent h.arrows w) (packed_name text w.output.texts) (class_of_word w) name
          (name_packed text w.output);
    }

abbrev pub object_opened : Limits → Context → Option Finding → Header → Option Name → Compilation → Compilation
object_opened limits context None h name w = object_new limits context h name w
object_opened limits context (Some f) h name w = record w { output = object_lost limits name w.output }

-- the declaration of an object, as far as it is known: the findings about its name, its class, and its place in the tree
abbrev pub named_known : Context → Header → ℕ → Name → Compilation → Declared
named_known context h at name w =
    let d = plainly_known name (order at) w in
    record { found = d.found; finding = least_of_both d.finding (headed_finding h w) }

abbrev pub object_known : Context → Header → Option Name → Compilation → Declared
object_known context h None w = record { found = Found.Unknown; finding = headed_finding h w }
object_known context h (Some name) w = named_known context h (unwrap_or h.own 0) name w

abbrev pub object_ended : Limits → Context → Place → Option Name → Declared → Compilation → Compilation
object_ended limits context first None d w = entry_told limits context first d.finding w
object_ended limits context first (Some name) d w = declared_ended limits context first false name FixedLimit.Values d w

abbrev pub object_with_known : Limits → Context → Place → Header → Option Name → Declared → Compilation → Compilation
object_with_known limits context first h name d w =
    object_ended limits context first name d (object_opened limits context d.finding h name w)

abbrev pub object_with : Limits → Context → Place → Header → Option Name → Compilation → Compilation
object_with limits context first h name w = object_with_known limits context first h name (object_known context h name w) w

abbrev pub object_header : Limits → Context → Place → Compilation → Compilation
object_header limits context first w =
    let h = header_in w.unit.tokens in object_with limits context first h (own_name h.own w) w
