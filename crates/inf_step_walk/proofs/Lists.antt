-- Lists of what stands in an output, names by their numbers and their meanings, and properties, objects and arrays as they are read.
use Rattle.std.specs.Prelude.{nat_le, option_map, option_to_list, replicate, slice_get, ◌==◌}
use Rattle.std.proofs.Common.{Bool, Err, List, None, Ok, Option, Result, Some, [], bytes_eq, drop, false, flat_map, if◌then◌else◌, length}
use Rattle.std.proofs.Common.{map, nat_lt, refl, suc, take, true, zero, ℕ, ◌++◌, ◌+◌, ◌-◌, ◌<◌, ◌∷◌, ◌≡◌, ◌≤◌}
use Rattle.inf_area.specs.{Cells.size_of, declared.cells.Cell.Cell as CodeCell, declared.fixups.Fixup.Fixup, declared.scale.Scale.Scale}
use Rattle.inf_area.specs.{declared.targets.Value.Value}
use Rattle.inf_scanner.specs.declared.tokens.Place.{Place}
use Rattle.inf_settings.specs.Bounds.{Limits}
use Rattle.inf_arrays.specs.declared.kinds.ArrayKind.{ArrayKind}
use Rattle.inf_arrays.specs.Arrays.{Adding, AllArrays, Characters, Listed, One, Zeros, all_of, characters, more_entries}
use Rattle.inf_arrays.specs.Arrays.{opened as opened_array, values_in, with_entries}
use Rattle.inf_verbs.specs.Routines.{is_among, with_routine}
use Rattle.inf_properties.specs.{Open.Open, Open.given_first, Open.with_given, Values.with_last_value, declared.values.Property.Property}
use Rattle.inf_properties.specs.Properties.{found, has, inherited, joined_values, lacked, values_in as property_values, values_of}
use Rattle.inf_properties.specs.Properties.{with_joined}
use Rattle.inf_objects.specs.{declared.body.Body.Body, declared.objects.Object.Object}
use Rattle.inf_objects.specs.Objects.{ended, is_lost, is_passed, with_joined_class}
use Rattle.inf_tables.specs.{declared.faults.Misfit.Misfit, declared.kinds.DeclaredProperty.DeclaredProperty, declared.kinds.Parent.Parent}
use Rattle.inf_tables.specs.Objects.{arrows_of, class_at, class_in, declared_at, is_class, parent_of}
use Rattle.inf_tables.specs.World.{WorldOf, class_by, ended_objects, given_of, kind_of, lost_given, with_class_of, with_end}
use Rattle.inf_tables.specs.World.{with_further_value, with_given_property, with_hung, with_object_header, with_property}
use Rattle.inf_opcode.specs.{Opcodes.row_of, declared.cells.Special.Special, declared.instructions.Branch.Branch}
use Rattle.inf_opcode.specs.{declared.instructions.Label.Label, declared.instructions.Operand.Operand as Written}
use Rattle.inf_opcode.specs.Cells.{Cell, Of, Plain, plain, special_size}
use Rattle.inf_opcode.specs.Instructions.{Parts, branch_cells, heading, instruction_cells, operand_cells, store_cells}
use Rattle.inf_assembler.specs.declared.routines.RoutineKind.{RoutineKind}
use Rattle.inf_assembler.specs.Places.{Places, closed_fixups, fixup_at, size_at}
use Rattle.inf_assembler.specs.Routines.{Contents, body_bytes, long_places, routine_fixups}
use Rattle.inf_names.specs.{SystemNames.system_meaning, declared.meanings.Meaning.Meaning, declared.symbols.Found.Found}
use Rattle.inf_names.specs.{declared.symbols.ReferFault.ReferFault}
use Rattle.inf_names.specs.Symbols.{IsDeclared, IsUsed, Named, Standing, Table, folded, found_as, found_from, found_in, number_of, put}
use Rattle.inf_names.specs.Symbols.{standing_of, with_used}
use Rattle.inf_code.specs.Code.{Opened, cells_from, cells_with, closed_cells, known, padding, routine_cells, whole_bytes, with_item}
use Rattle.inf_code.specs.Code.{with_label}
use Rattle.inf_output.specs.{Actions.routine_of, Operands.written, declared.operands.Simple.Simple}
use Rattle.inf_output.specs.Output.{Out, found_simple, referred_as_by, referred_by, routine_by, simple_by, standing_simple, used_by}
use Rattle.inf_operands.specs.Operands.{standing}
use Rattle.inf_statements.specs.Statements.{rest}
use Rattle.inf_named_values.specs.Declarations.{with_world}
use Rattle.inf_word_laws.specs.Standing.{AllOf}
use Rattle.inf_word_laws.proofs.Numbering.{IsWithin, number_within, within_more}
use Rattle.inf_step_walk.specs.Standing.{AllWrittenStand, ArraysStand, Before, CellStands, CellsStand, ListedStand, MeaningStands}
use Rattle.inf_step_walk.specs.Standing.{NamesStand, ObjectsStand, OpenArrayStands, OpenCellStands, OpenCellsStand, PropertiesStand}
use Rattle.inf_step_walk.specs.Standing.{RoutineStands, RoutinesStand, SpecialStands, StandingStands, TargetStands, ValueStands}
use Rattle.inf_step_walk.specs.Standing.{ValuesStand, WorldStands, WrittenStands}
use Rattle.inf_step_walk.specs.Walking.{Grown, Premises, Stays, Tables}
use Rattle.inf_step_walk.proofs.Premises.{SimpleStands, SimplesStand, all_join}

-- Lemmas about lists

-- A name is put in its place or behind the others.

pub names_put : (u : Out) (key : List ℕ) (s : Standing Place) (names : List (Named Place)) → StandingStands u s → NamesStand u names
    → NamesStand u (put key s names)
names_put u key s [] stands h = (stands, tt)
names_put u key s (n ∷ names) stands h = go (bytes_eq key n.name) (names_put u key s names stands h.1)
  where
    go : (b : Bool) → NamesStand u (put key s names)
        → NamesStand u (if b then record { name = n.name; standing = s } ∷ names else n ∷ put key s names)
    go true rest = (stands, h.1)
    go false rest = (h.0, rest)

-- Lemmas about instructions as cells

small_or_large : (u : Out) (b : Bool) (number : ℕ) → WrittenStands u (if b then Written.Small number else Written.Large number)
small_or_large u true number = tt
small_or_large u false number = tt

written_stands : (u : Out) (P : Type 0) (s : Simple) → P → SimpleStands u P s → WrittenStands u (written s)
written_stands u P (Simple.Known number) p h = small_or_large u (nat_lt number 256) number
written_stands u P (Simple.Variable number) p h = tt
written_stands u P (Simple.Later t) p h = h p

pub all_written : (u : Out) (P : Type 0) (all : List Simple) → P → SimplesStand u P all → AllWrittenStand u (map written all)
all_written u P [] p h = tt
all_written u P (s ∷ all) p h = (written_stands u P s p h.0, all_written u P all p h.1)

plain_stands : (u : Out) (bytes : List ℕ) → OpenCellsStand u (plain bytes)
plain_stands u [] = tt
plain_stands u (byte ∷ bytes) = (tt, plain_stands u bytes)

operand_stands : (u : Out) (x : Written) → WrittenStands u x → OpenCellsStand u (operand_cells x)
operand_stands u (Written.Large number) h = (tt, (tt, tt))
operand_stands u (Written.Later t) h = (h, tt)
operand_stands u x h = (tt, tt)

operands_stand : (u : Out) (operands : List Written) → AllWrittenStand u operands → OpenCellsStand u (flat_map operand_cells operands)
operands_stand u [] h = tt
operands_stand u (x ∷ operands) h =
    all_join (OpenCellStands u) (operand_cells x) (flat_map operand_cells operands) (operand_stands u x h.0) (operands_stand u operands h.1)

store_stands : (u : Out) (store : Option ℕ) → OpenCellsStand u (store_cells store)
store_stands u None = tt
store_stands u (Some number) = (tt, tt)

branch_stands : (u : Out) (branch : Option Branch) → OpenCellsStand u (branch_cells branch)
branch_stands u None = tt
branch_stands u (Some branch) = (tt, tt)

instruction_stands : (u : Out) (parts : Parts) → AllWrittenStand u parts.operands → OpenCellsStand u (instruction_cells parts)
instruction_stands u parts h =
    let first = plain (heading (row_of parts.opcode) parts.operands) in
    let all = flat_map operand_cells parts.operands in
    let store = store_cells parts.store in
    let branch = branch_cells parts.branch in
    all_join (OpenCellStands u) (first ++ all ++ store ++ branch) (plain parts.text)
    (all_join (OpenCellStands u) (first ++ all ++ store) branch
    (all_join (OpenCellStands u) (first ++ all) store
    (all_join (OpenCellStands u)
    first all (plain_stands u (heading (row_of parts.opcode) parts.operands)) (operands_stand u parts.operands h))
    (store_stands u parts.store))
    (branch_stands u parts.branch))
    (plain_stands u parts.text)

-- Lemmas about the open routine with an item more

pub item_joins : (u : Out) (parts : Parts) (opened : Option Opened) → AllWrittenStand u parts.operands → RoutineStands u opened
    → RoutineStands u (with_item parts opened)
item_joins u parts None h k = tt
item_joins u parts (Some o) h k = all_join (OpenCellStands u) o.contents.cells (instruction_cells parts) k (instruction_stands u parts h)

pub label_joins : (u : Out) (label : Label) (opened : Option Opened) → RoutineStands u opened → RoutineStands u (with_label label opened)
label_joins u label None k = tt
label_joins u label (Some o) k = all_join (OpenCellStands u) o.contents.cells (Of (Special.Marks label) ∷ []) k (tt, tt)

-- Closed routines have the references of their cells.

abbrev FixupsStand : Out → List Fixup → Type 0
FixupsStand u fixups = AllOf (λ (f : Fixup). TargetStands u f.target) fixups

fixup_stands : (u : Out) (place : ℕ) (what : Special) → SpecialStands u what → FixupsStand u (fixup_at place what)
fixup_stands u place (Special.Refers t) h = (h, tt)
fixup_stands u place what h = tt

fixups_stand : (u : Out) (long : Places) (old new : ℕ) (cells : List Cell) → OpenCellsStand u cells
    → FixupsStand u (closed_fixups long old new cells)
fixups_stand u long old new [] h = tt
fixups_stand u long old new (Plain byte ∷ cells) h = fixups_stand u long (old + 1) (new + 1) cells h.1
fixups_stand u long old new (Of what ∷ cells) h = all_join (λ (f : Fixup). TargetStands u f.target)
    (fixup_at new what) (closed_fixups long (old + special_size what) (new + size_at long old what) cells)
    (fixup_stands u new what h.0) (fixups_stand u long (old + special_size what) (new + size_at long old what) cells h.1)

pub known_stand : (u : Out) (bytes : List ℕ) → CellsStand u (known bytes)
known_stand u [] = tt
known_stand u (byte ∷ bytes) = (tt, known_stand u bytes)

from_stand : (u : Out) (place : ℕ) (fixups : List Fixup) (bytes : List ℕ) → FixupsStand u fixups
    → CellsStand u (cells_from place fixups bytes)
from_stand u place [] bytes h = known_stand u bytes
from_stand u place (fixup ∷ fixups) bytes h =
    let front = take (fixup.place - place) bytes in
    let behind = drop (fixup.place + 2 - place) bytes in
    all_join (CellStands u) (known front) (CodeCell.Later fixup.target ∷ cells_from (fixup.place + 2) fixups behind) (known_stand u front)
    (h.0, from_stand u (fixup.place + 2) fixups behind h.1)

with_stand : (u : Out) (place : ℕ) (kind : RoutineKind) (contents : Contents) (body : Option (List ℕ)) → OpenCellsStand u contents.cells
    → CellsStand u (cells_with place kind contents body)
with_stand u place kind contents None h = tt
with_stand u place kind contents (Some body) h = from_stand u place (routine_fixups place contents) (whole_bytes kind contents body)
    (fixups_stand u (long_places place contents) (place + 1) (place + 1) contents.cells h)

pub closed_stand : (u : Out) (scale : Scale) (kind : RoutineKind) (place : ℕ) (opened : Option Opened) → RoutineStands u opened
    → CellsStand u (closed_cells scale kind place opened)
closed_stand u scale kind place None h = tt
closed_stand u scale kind place (Some o) h = go o.is_lost
  where
    cells : List CodeCell
    cells = routine_cells place kind o.contents

    go : (b : Bool) → CellsStand u (if b then [] else cells ++ padding scale (size_of cells))
    go true = tt
    go false =
        all_join (CellStands u) cells (padding scale (size_of cells)) (with_stand u place kind o.contents (body_bytes place o.contents) h)
        (known_stand u _)

-- Lemmas about names

pub never : {A : Type 0} → true ≡ false → A
never e = absurd (cc e)

pub no_some : {A B : Type 0} {a : A} → Some a ≡ None → B
no_some e = absurd (cc e)

-- the number of a name that is used, among the names of an output that it comes before
used_within : (u : Out) (name : List ℕ) (place : Place) (t : Table Place) → length (with_used name place t).names ≤ length u.names.names
    → IsWithin (number_of name t) (length u.names.names)
used_within u name place t few = within_more (number_of name t) (length (with_used name place t).names) (length u.names.names)
    (number_within name place t (system_meaning t.is_debugging name) (standing_of (folded name) t.names) refl) few

-- a routine by its number among the names, where it is used
pub referred_within : (u : Out) (limits : Limits) (fault : Option ReferFault) (name : List ℕ) (place : Place) (o : Out)
    → Before u (referred_by limits fault name place o) → IsWithin (routine_of (referred_as_by fault name o.names)) (length u.names.names)
referred_within u limits None name place o e = used_within u name place o.names e.few_names
referred_within u limits (Some fault) name place o e = tt

pub routine_among : (u : Out) (routine : ℕ) (routines : List ℕ) → routine < length u.names.names → RoutinesStand u routines
    → RoutinesStand u (with_routine routine routines)
routine_among u routine routines h k = go (is_among routine routines)
  where
    go : (b : Bool) → RoutinesStand u (if b then routines else routines ++ routine ∷ [])
    go true = k
    go false = all_join (λ (routine : ℕ). routine < length u.names.names) routines (routine ∷ []) k (h, tt)

-- Lemmas about the routine of the veneer

none_stands : (u : Out) (P : Type 0) (number : Option ℕ) → IsWithin number (length u.names.names) → SimpleStands u P (simple_by None number)
none_stands u P None h = tt
none_stands u P (Some n) h = λ p. h

simple_stands : (u : Out) (P : Type 0) (m : Meaning) (number : Option ℕ) → IsWithin number (length u.names.names)
    → SimpleStands u P (simple_by (standing_simple m) number)
simple_stands u P (Meaning.Text place) number h = none_stands u P number h
simple_stands u P (Meaning.Word text) number h = none_stands u P number h
simple_stands u P (Meaning.LowString place) number h = none_stands u P number h
simple_stands u P (Meaning.Array place) number h = none_stands u P number h
simple_stands u P (Meaning.Routine place) number h = none_stands u P number h
simple_stands u P (Meaning.PackedAddress place) number h = none_stands u P number h
simple_stands u P (Meaning.Function f) number h = none_stands u P number h
simple_stands u P m number h = tt

found_simple_stands : (u : Out) (P : Type 0) (f : Found Place) (number : Option ℕ) → IsWithin number (length u.names.names)
    → SimpleStands u P (found_simple f number)
found_simple_stands u P (Found.System m) number h = simple_stands u P m number h
found_simple_stands u P (Found.Declared m place) number h = simple_stands u P m number h
found_simple_stands u P Found.Used number h = none_stands u P number h
found_simple_stands u P Found.Unknown number h = none_stands u P number h

pub routine_stands : (u : Out) (P : Type 0) (limits : Limits) (fault : Option ReferFault) (name : List ℕ) (o : Out)
    → Before u (used_by limits fault name o) → SimpleStands u P (routine_by fault name o.names)
routine_stands u P limits None name o e =
    found_simple_stands u P (found_in name o.names) (number_of name o.names) (used_within u name o.first o.names e.few_names)
routine_stands u P limits (Some fault) name o e = never e.complete

-- Lemmas about meanings of names that were declared

abbrev pub FoundStands : Out → Found Place → Type 0
FoundStands u (Found.Declared m place) = MeaningStands u m
FoundStands u _ = Unit {0}

abbrev SomeStands : Out → Option (Standing Place) → Type 0
SomeStands u None = Unit {0}
SomeStands u (Some s) = StandingStands u s

some_stands : (u : Out) (key : List ℕ) (names : List (Named Place)) → NamesStand u names → SomeStands u (standing_of key names)
some_stands u key [] h = tt
some_stands u key (n ∷ names) h = go (bytes_eq key n.name) (some_stands u key names h.1)
  where
    go : (b : Bool) → SomeStands u (standing_of key names) → SomeStands u (if b then Some n.standing else standing_of key names)
    go true rest = h.0
    go false rest = rest

system_stands : (u : Out) (system : Option Meaning) → FoundStands u (found_from system)
system_stands u None = tt
system_stands u (Some m) = tt

as_stands : (u : Out) (system : Option Meaning) (s : Option (Standing Place)) → SomeStands u s → FoundStands u (found_as system s)
as_stands u system None h = system_stands u system
as_stands u system (Some (IsDeclared number m place)) h = h
as_stands u system (Some (IsUsed spelling place)) h = tt

pub found_meaning : (u : Out) (name : List ℕ) (t : Table Place) → NamesStand u t.names → FoundStands u (found_in name t)
found_meaning u name t h =
    as_stands u (system_meaning t.is_debugging name) (standing_of (folded name) t.names) (some_stands u (folded name) t.names h)

abbrev pub WorldHolds : Out → WorldOf → Type 0
WorldHolds u w = WorldStands u w.declared w.objects w.body.properties.own w.body.properties.above

abbrev pub MaybeValue : Out → Option Value → Type 0
MaybeValue u None = Unit {0}
MaybeValue u (Some v) = ValueStands u v

-- an output with another world, before all that follows
pub world_later : {limits : Limits} {Q : Premises} {o v : Out} (world : WorldOf)
    → ((u : Out) → Before u o → Before u v → WorldHolds u o.tables.world → WorldHolds u world) → Grown limits Q (with_world world o) v
    → Grown limits Q o v
world_later world f later = Tables later refl (λ u b e h. (h.0, f u b e h.1))

pub world_grows : {limits : Limits} {Q : Premises} {o : Out} (world : WorldOf)
    → ((u : Out) → Before u o → WorldHolds u o.tables.world → WorldHolds u world) → Grown limits Q o (with_world world o)
world_grows world f = world_later world (λ u b e. f u b) Stays

-- Properties

found_stands : (u : Out) (number : ℕ) (properties : List Property) → PropertiesStand u properties
    → ValuesStand u (property_values (found number properties))
found_stands u number [] h = tt
found_stands u number (p ∷ properties) h = go (p.number == number) (found_stands u number properties h.1)
  where
    go : (b : Bool) → ValuesStand u (property_values (found number properties))
        → ValuesStand u (property_values (if b then Some p else found number properties))
    go true rest = h.0
    go false rest = rest

values_stand : (u : Out) (is_additive : Bool) (own above : List Value) → ValuesStand u own → ValuesStand u above
    → ValuesStand u (joined_values is_additive own above)
values_stand u true own above h k = all_join (ValueStands u) own above h k
values_stand u false own above h k = h

joined_stand : (u : Out) (above own : List Property) → PropertiesStand u above → PropertiesStand u own
    → PropertiesStand u (with_joined above own)
joined_stand u above [] h k = tt
joined_stand u above (p ∷ own) h k = (
  values_stand u p.is_additive p.values (values_of p.number above) k.0 (found_stands u p.number above h),
  joined_stand u above own h k.1,
)

lacked_stand : (u : Out) (own above : List Property) → PropertiesStand u above → PropertiesStand u (lacked own above)
lacked_stand u own [] h = tt
lacked_stand u own (p ∷ above) h = go (has p.number own) (lacked_stand u own above h.1)
  where
    go : (b : Bool) → PropertiesStand u (lacked own above) → PropertiesStand u (if b then lacked own above else p ∷ lacked own above)
    go true rest = rest
    go false rest = (h.0, rest)

inherited_stand : (u : Out) (own above : List Property) → PropertiesStand u own → PropertiesStand u above
    → PropertiesStand u (inherited own above)
inherited_stand u own above h k = all_join (λ (p : Property). ValuesStand u p.values)
    (with_joined above own) (lacked own above) (joined_stand u above own k h) (lacked_stand u own above k)

last_stand : (u : Out) (v : Value) (own : List Property) → ValueStands u v → PropertiesStand u own
    → PropertiesStand u (with_last_value v own)
last_stand u v [] s h = tt
last_stand u v (p ∷ []) s h = (all_join (ValueStands u) p.values (v ∷ []) h.0 (s, tt), tt)
last_stand u v (p ∷ q ∷ own) s h = (h.0, last_stand u v (q ∷ own) s h.1)

first_stands : (u : Out) (first : Option Value) → MaybeValue u first → ValuesStand u (option_to_list first)
first_stands u None h = tt
first_stands u (Some v) h = (h, tt)

-- Declarations, and values of the open body

pub property_holds : (u : Out) (is_additive : Bool) (v : Value) (w : WorldOf) → ValueStands u v → WorldHolds u w
    → WorldHolds u (with_property is_additive v w)
property_holds u is_additive v w s h = record {
  of_declared = all_join (λ (d : DeclaredProperty). ValueStands u d.default)
      w.declared (record { is_additive = is_additive; default = v } ∷ []) h.of_declared (s, tt);
  of_objects = h.of_objects;
  of_own = h.of_own;
  of_above = h.of_above;
}

given_stand : (u : Out) (b : Bool) (number : ℕ) (is_additive : Bool) (first : Option Value) (o : Open) → MaybeValue u first
    → PropertiesStand u o.own
    → PropertiesStand u (if◌then◌else◌ {A = Open} b (lost_given number o) (with_given (given_first number is_additive first) o)).own
given_stand u true number is_additive first o s h =
    all_join (λ (p : Property). ValuesStand u p.values) o.own (given_first number false None ∷ []) h (tt, tt)
given_stand u false number is_additive first o s h =
    all_join (λ (p : Property). ValuesStand u p.values) o.own (given_first number is_additive first ∷ []) h (first_stands u first s, tt)

given_above : (u : Out) (b : Bool) (number : ℕ) (is_additive : Bool) (first : Option Value) (o : Open) → PropertiesStand u o.above
    → PropertiesStand u (if◌then◌else◌ {A = Open} b (lost_given number o) (with_given (given_first number is_additive first) o)).above
given_above u true number is_additive first o h = h
given_above u false number is_additive first o h = h

pub given_holds : (u : Out) (number : ℕ) (first : Option Value) (w : WorldOf) → MaybeValue u first → WorldHolds u w
    → WorldHolds u (with_given_property number first w)
given_holds u number first w s h = go (kind_of number w)
  where
    go : (kind : Option Bool) → WorldHolds u (given_of kind number first w)
    go None = h
    go (Some is_additive) = record {
      of_declared = h.of_declared;
      of_objects = h.of_objects;
      of_own = given_stand u (is_lost w.body.properties.owner) number is_additive first w.body.properties s h.of_own;
      of_above = given_above u (is_lost w.body.properties.owner) number is_additive first w.body.properties h.of_above;
    }

further_stand : (u : Out) (b : Bool) (v : Value) (o : Open) → ValueStands u v → PropertiesStand u o.own
    → PropertiesStand u (if◌then◌else◌ {A = Open} b (record o { own = with_last_value v o.own }) o).own
further_stand u true v o s h = last_stand u v o.own s h
further_stand u false v o s h = h

further_above : (u : Out) (b : Bool) (v : Value) (o : Open) → PropertiesStand u o.above
    → PropertiesStand u (if◌then◌else◌ {A = Open} b (record o { own = with_last_value v o.own }) o).above
further_above u true v o h = h
further_above u false v o h = h

pub further_holds : (u : Out) (v : Value) (w : WorldOf) → ValueStands u v → WorldHolds u w → WorldHolds u (with_further_value v w)
further_holds u v w s h = record {
  of_declared = h.of_declared;
  of_objects = h.of_objects;
  of_own = further_stand u w.body.properties.takes_values v w.body.properties s h.of_own;
  of_above = further_above u w.body.properties.takes_values v w.body.properties h.of_above;
}

-- Headers, classes that are named, and ends of bodies

pub header_holds : (u : Out) (declared : List DeclaredProperty) (objects : List Object) (own above : List Property)
    → WorldStands u declared objects own above → WorldStands u declared objects [] []
header_holds u declared objects own above h =
    record { of_declared = h.of_declared; of_objects = h.of_objects; of_own = tt; of_above = tt }

pub object_holds : (u : Out) (parent : Parent) (name : List ℕ) (w : WorldOf) → WorldHolds u w
    → WorldHolds u (with_object_header parent name w)
object_holds u parent name w h = go (parent_of parent w.objects)
  where
    go : (hung : Result ℕ Misfit) → WorldHolds u (with_hung hung (arrows_of parent) name w)
    go (Err m) = h
    go (Ok number) = header_holds u w.declared w.objects w.body.properties.own w.body.properties.above h

abbrev ClassStands : Out → Option Object → Type 0
ClassStands u None = Unit {0}
ClassStands u (Some o) = PropertiesStand u o.properties

at_stands : (u : Out) (objects : List Object) (place : ℕ) → ObjectsStand u objects → ClassStands u (slice_get objects place)
at_stands u [] place h = tt
at_stands u (o ∷ objects) zero h = h.0
at_stands u (o ∷ objects) (suc place) h = at_stands u objects place h.1

in_stands : (u : Out) (o : Option Object) → ClassStands u o → ClassStands u (class_in o)
in_stands u None h = tt
in_stands u (Some o) h = go (is_class o.owner)
  where
    go : (b : Bool) → ClassStands u (if b then Some o else None)
    go true = h
    go false = tt

declared_at_stands : (u : Out) (number : ℕ) (objects : List Object) → ObjectsStand u objects → ClassStands u (declared_at number objects)
declared_at_stands u number objects h = go (nat_le number 4)
  where
    go : (b : Bool) → ClassStands u (if b then None else slice_get objects (number - 5))
    go true = tt
    go false = at_stands u objects (number - 5) h

class_stands : (u : Out) (number : ℕ) (objects : List Object) → ObjectsStand u objects → ClassStands u (class_at number objects)
class_stands u number objects h = in_stands u (declared_at number objects) (declared_at_stands u number objects h)

named_own : (u : Out) (b : Bool) (number : ℕ) (class : Object) (body : Body) → PropertiesStand u body.properties.own
    → PropertiesStand u (if◌then◌else◌ {A = Body} b body (with_joined_class number class body)).properties.own
named_own u true number class body h = h
named_own u false number class body h = h

named_above : (u : Out) (b : Bool) (number : ℕ) (class : Object) (body : Body) → PropertiesStand u class.properties
    → PropertiesStand u body.properties.above
    → PropertiesStand u (if◌then◌else◌ {A = Body} b body (with_joined_class number class body)).properties.above
named_above u true number class body s h = h
named_above u false number class body s h = inherited_stand u body.properties.above class.properties h s

named_holds : (u : Out) (number : ℕ) (class : Option Object) (w : WorldOf) → ClassStands u class → WorldHolds u w
    → WorldHolds u (class_by class number w)
named_holds u number None w s h = h
named_holds u number (Some class) w s h = record {
  of_declared = h.of_declared;
  of_objects = h.of_objects;
  of_own = named_own u (is_passed number w.body) number class w.body h.of_own;
  of_above = named_above u (is_passed number w.body) number class w.body s h.of_above;
}

pub class_holds : (u : Out) (number : ℕ) (w : WorldOf) → WorldHolds u w → WorldHolds u (with_class_of number w)
class_holds u number w h = go (number == 0)
  where
    go : (b : Bool) → WorldHolds u (if b then w else class_by (class_at number w.objects) number w)
    go true = h
    go false = named_holds u number (class_at number w.objects) w (class_stands u number w.objects h.of_objects) h

ended_stand : (u : Out) (b : Bool) (body : Body) → PropertiesStand u body.properties.own → PropertiesStand u body.properties.above
    → ObjectsStand u (if◌then◌else◌ {A = List Object} b [] (ended body ∷ []))
ended_stand u true body h k = tt
ended_stand u false body h k = (inherited_stand u body.properties.own body.properties.above h k, tt)

pub end_holds : (u : Out) (w : WorldOf) → WorldHolds u w → WorldHolds u (with_end w)
end_holds u w h = record {
  of_declared = h.of_declared;
  of_objects = all_join (λ (o : Object). PropertiesStand u o.properties) w.objects (ended_objects w.body) h.of_objects
      (ended_stand u (is_lost w.body.properties.owner) w.body h.of_own h.of_above);
  of_own = tt;
  of_above = tt;
}

-- Arrays

pub all_arrays : (u : Out) (arrays : AllArrays) → ArraysStand u arrays → ListedStand u (all_of arrays)
all_arrays u arrays h =
    all_join (λ (a : Listed). ValuesStand u a.entries) arrays.closed (option_to_list arrays.open_one) h.0 (open_stands arrays.open_one h.1)
  where
    open_stands : (o : Option Listed) → OpenArrayStands u o → ListedStand u (option_to_list o)
    open_stands None k = tt
    open_stands (Some a) k = (k, tt)

pub opened_holds : (u : Out) (kind : ArrayKind) (arrays : AllArrays) → ArraysStand u arrays → ArraysStand u (opened_array kind arrays)
opened_holds u kind arrays h = (all_arrays u arrays h, tt)

characters_stand : (u : Out) (text : List ℕ) → ValuesStand u (characters text)
characters_stand u [] = tt
characters_stand u (c ∷ text) = (tt, characters_stand u text)

zeros_stand : (u : Out) (count : ℕ) → ValuesStand u (replicate count (Value.Known 0))
zeros_stand u zero = tt
zeros_stand u (suc count) = (tt, zeros_stand u count)

abbrev pub AddingStands : Out → Adding → Type 0
AddingStands u (One v) = ValueStands u v
AddingStands u (Zeros count) = Unit {0}
AddingStands u (Characters text) = Unit {0}

adding_stands : (u : Out) (a : Adding) → AddingStands u a → ValuesStand u (values_in a)
adding_stands u (One v) h = (h, tt)
adding_stands u (Zeros count) h = zeros_stand u count
adding_stands u (Characters text) h = characters_stand u text

pub entries_hold : (u : Out) (a : Adding) (arrays : AllArrays) → AddingStands u a → ArraysStand u arrays
    → ArraysStand u (with_entries (values_in a) arrays)
entries_hold u a arrays s h = (h.0, go arrays.open_one h.1)
  where
    go : (o : Option Listed) → OpenArrayStands u o → OpenArrayStands u (option_map (more_entries (values_in a)) o)
    go None k = tt
    go (Some array) k = all_join (ValueStands u) array.entries (values_in a) k (adding_stands u a s)
