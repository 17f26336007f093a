-- Work of the actions of the grammar. While a unit is read they gather its parts, and at its end it acts, as a whole.
use Rattle.std.specs.Prelude.{ℕ, ◌+◌, ◌-◌, max, List, [], ◌∷◌, length, map, nat_lt, Bool, true, false, ◌&&◌, if◌then◌else◌, Option}
use Rattle.std.specs.Prelude.{Some, None, is_some, unwrap_or}
use Rattle.inf_settings.specs.{Bounds.Limits, declared.setting.Setting.Setting, declared.settings.Settings.Settings}
use Rattle.inf_characters.specs.declared.characters.CharSet.{CharSet}
use Rattle.inf_scanner.specs.{declared.tokens.Mark.Mark, declared.tokens.Place.Place, declared.tokens.TokenKind.TokenKind}
use Rattle.inf_assembler.specs.{declared.routines.CloseFault.CloseFault, declared.routines.RoutineKind.RoutineKind}
use Rattle.inf_expressions.specs.{Rooted.Rooted, Trees.Leaf, Trees.Tree, Units.judged, Units.trees_of, declared.findings.Finding.Finding}
use Rattle.inf_expressions.specs.{declared.operators.Operand.Operand, declared.units.Wanted.Wanted}
use Rattle.inf_expressions.specs.Findings.{least_of_both, no_constant, out_of_range}
use Rattle.inf_gathering.specs.declared.gathering.Leaf.{Leaf as UnitLeaf}
use Rattle.inf_area.specs.declared.scale.Scale.{Scale}
use Rattle.inf_letters.specs.Letters.{abbreviates, debugs, none_spoken, scale_of, warns}
use Rattle.inf_letters.specs.declared.letters.Letters.{Letters}
use Rattle.inf_code.specs.Code.{fault_closed, labels as labels_of, no_routines, place_behind, with_none_open}
use Rattle.inf_names.specs.{Locals.Headed, Locals.Local, NameSets.is_among, NameSets.with_name, Spellings.Name}
use Rattle.inf_names.specs.{declared.meanings.Meaning.Meaning, declared.symbols.DeclareFault.DeclareFault, declared.symbols.Found.Found}
use Rattle.inf_names.specs.Symbols.{Table, declare_fault, found_in, no_names}
use Rattle.inf_report.specs.Messages.{BranchTooFar, DeepNesting, Exceeded, LabelMissing, UnusedLocal}
use Rattle.inf_report.specs.OwnWords.{Words}
use Rattle.inf_compilation.specs.{Context.Context, Context.longest, Words.nowhere, declared.compilation.Extending.Extending}
use Rattle.inf_compilation.specs.{declared.compilation.Header.Header, declared.compilation.Listing.Listing}
use Rattle.inf_compilation.specs.Findings.{Again, Findings, again_by, again_finding, found_alone, header_findings, nothing_found, told_as}
use Rattle.inf_unit.specs.{Directives.Nothing, Directives.Request, Names.no_symbols, Tokens.SourceToken, Tokens.number_of}
use Rattle.inf_unit.specs.Messages.{FileNames, Reported, location, nothing_reported, with_error, with_fatal, with_fault, warnings_chosen}
use Rattle.inf_unit.specs.Messages.{with_full, with_warning}
use Rattle.inf_unit.specs.Units.{Unit, bytes_at, first_place, kind_at, long_at, name_order, names_in, no_unit, outer_tokens, over}
use Rattle.inf_unit.specs.Units.{quoted_in, taken as unit_taken}
use Rattle.inf_output.specs.{Strings.no_strings, Texts.no_texts}
use Rattle.inf_output.specs.Output.{Code, Out, begun, closed, declared, full, opened, referred, with_scale}
use Rattle.inf_tables.specs.{Tables.no_tables, World.WorldOf, World.no_body_fault, World.with_end, declared.faults.WorldFault.WorldFault}
use Rattle.inf_arrays.specs.Arrays.{AllArrays, no_arrays}
use Rattle.inf_verbs.specs.declared.verbs.LinePlace.{LinePlace}
use Rattle.inf_constructs.specs.{Constructs.depth, Constructs.ended, Labels.NamedLabel, Labels.missing, Roots.tree_in}
use Rattle.inf_constructs.specs.{declared.constructs.Construct.Construct}
use Rattle.inf_operands.specs.Operands.{Settled, all_looked, leaf_added, leaves_named, settled, stores_named}

abbrev pub no_output : Out
no_output = record {
  code = no_routines Scale.Four;
  strings = no_strings Scale.Four;
  tables = no_tables;
  names = no_symbols;
  texts = no_texts;
  seen = no_names false;
  first = nowhere;
  next = 0;
  past = None;
  kept = None;
}

-- All that was compiled so far: the most tokens that an expression had, and the most labels that a routine had, where units were
-- finished; the unit at hand; the statements that are open, the innermost first, and the number of those that are over and were
-- closed ahead of a conditional; the place of the last token, if it is the word of a compound statement where a case may stand,
-- too; the labels with names and the locals of the open routine; the code and the names of the source; the messages; the request of
-- a directive to the reading; the names of routines that are to be replaced, and whether those of the file at hand may be; whether
-- the routine at hand is passed over for that; the array whose entries are read, and where they go if its header had an error;
-- whether the values that are read are those of the property `name`, and whether the open routine is a value of a property; the
-- verb whose lines are read; all that letters said so far; and the entries of the header of the story that directives tell.
pub record Compilation : Type 0 where
  pub most_tokens : ℕ
  pub most_labels : ℕ
  pub unit : Unit
  pub constructs : List Construct
  pub closed : ℕ
  pub opening : Option Place
  pub labels : List NamedLabel
  pub locals : List Local
  pub output : Out
  pub report : Reported
  pub asked : Request
  pub replaced : List (List ℕ)
  pub is_system : Bool
  pub is_replaced : Bool
  pub listing : Listing
  pub lost : AllArrays
  pub is_name : Bool
  pub is_embedded : Bool
  pub extending : Extending
  pub letters : Letters
  pub told : Header

-- Compilation before the first unit of a source.
abbrev pub no_work : Settings → Compilation
no_work settings = record {
  most_tokens = 0;
  most_labels = 0;
  unit = no_unit;
  constructs = [];
  closed = 0;
  opening = None;
  labels = [];
  locals = [];
  output = no_output;
  report = nothing_reported;
  asked = Nothing;
  replaced = [];
  is_system = false;
  is_replaced = false;
  listing = record { is_lost = false; has_entries = false };
  lost = no_arrays;
  is_name = false;
  is_embedded = false;
  extending = record { verb = None; place = LinePlace.Last };
  letters = none_spoken;
  told = record { release = 1; serial = None };
}

-- Definitions of letters

-- All that were said so far hold from now on: the next routine and the next string are filled up as the version wants it, texts are packed
-- with abbreviations or without them, the language has the name `DEBUG` or has it not, and warnings are told or not.
abbrev pub letters_chosen : Letters → Compilation → Compilation
letters_chosen letters w =
    let o = with_scale (scale_of letters) w.output in record w {
      letters = letters;
      output = record o {
        names = record o.names { is_debugging = debugs letters };
        texts = record o.texts { are_used = abbreviates letters };
      };
      report = warnings_chosen (warns letters) w.report;
    }

-- Definitions of units

-- A piece begins. No locals of a routine before it are known in it.
abbrev pub piece_begun : Compilation → Compilation
piece_begun w = record w { unit = no_unit; constructs = []; closed = 0; opening = None; locals = [] }

-- The labels, branches and jumps of the open routine are counted.
abbrev pub labels_counted : Compilation → Compilation
labels_counted w = record w { most_labels = max w.most_labels (labels_of w.output.code) }

-- The least finding about a unit, which begins at a place, is told.
abbrev pub finding_told : Context → Place → Findings → Compilation → Compilation
finding_told context first found w = record w {
  report = with_fault context.names first (told_as context.names w.unit.tokens first found) w.report;
}

-- End of a unit, which begins at a place: the least finding about it is told, and then the first limit that was passed.
abbrev pub unit_ended : Limits → Context → Place → Bool → Findings → Compilation → Compilation
unit_ended limits context first has_last found w = record w {
  unit = over has_last w.unit;
  most_labels = max w.most_labels (labels_of w.output.code);
  report = with_full context.names first (full limits w.output)
      (with_fault context.names first (told_as context.names w.unit.tokens first found) w.report);
}

-- Something is laid for a unit that begins at a place.
abbrev pub laid : Place → Code → Compilation → Compilation
laid first code w = record w { output = code (record w.output { first = first }) }

-- Code begins with the first unit that is finished, before anything comes of that unit.
abbrev pub code_begun : Limits → Compilation → Compilation
code_begun limits w = record w { output = begun limits w.output }

-- A conditional directive at a place, or the source, is finished: code begins with it, and the first limit that was passed is told.
abbrev pub begun_at : Limits → FileNames → Place → Compilation → Compilation
begun_at limits files first w =
    let o = begun limits w.output in record w {
      output = o;
      most_labels = max w.most_labels (labels_of o.code);
      report = with_full files first (full limits o) w.report;
    }

-- A message at a place ends the compilation, if there is a place; and else the tokens of the expression are counted.
abbrev pub stopped : Context → Option Place → Compilation → Compilation
stopped context None w = record w { most_tokens = max w.most_tokens (outer_tokens w.unit) }
stopped context (Some place) w = record w { report = with_fatal (location context.names place) (Exceeded Setting.ExpressionNodes) w.report }

-- An expression of more tokens than it may have ends the compilation, at the first token too many.
abbrev pub sized : Context → Compilation → Compilation
sized context w = stopped context (long_at (longest context) w.unit) w

-- Number of brackets, braces and compound statements that may stand in one another.
abbrev pub most_nested : ℕ
most_nested = 64

abbrev pub is_deep : Compilation → ℕ → Bool
is_deep w more = nat_lt most_nested (w.unit.depth + depth w.constructs + more)

abbrev pub nested : Context → Place → Bool → Compilation → Compilation
nested context place is_deep w = if is_deep then record w { report = with_fatal (location context.names place) DeepNesting w.report } else w

abbrev pub opens : TokenKind → Bool
opens (TokenKind.Mark Mark.OpenParenthesis) = true
opens (TokenKind.Mark Mark.OpenBrace) = true
opens _ = false

-- A token is taken.
abbrev pub token_checked : Context → SourceToken → Compilation → Compilation
token_checked context t w = nested context t.place (opens t.kind && is_deep w 0) w

abbrev pub took : Context → SourceToken → Compilation → Compilation
took context t w = token_checked context t (sized context (record w { unit = unit_taken t w.unit }))

-- The body of an object or a class ends, if one is open.
abbrev pub world_ended_by : Option WorldFault → WorldOf → WorldOf
world_ended_by None world = with_end world
world_ended_by (Some f) world = world

abbrev pub world_ended : Code
world_ended o = record o { tables = record o.tables { world = world_ended_by (no_body_fault o.tables.world) o.tables.world } }

abbrev pub body_ended : Compilation → Compilation
body_ended w = record w { output = world_ended w.output }

-- The routine that is open is given up.
abbrev pub given_up : Compilation → Compilation
given_up w = record w { output = record w.output { code = with_none_open w.output.code } }

-- The word of a compound statement opens its level with a bad token behind it, too, where a case of that name might have stood.
abbrev pub opening_checked_at : Option Place → Context → Compilation → Compilation
opening_checked_at None context w = w
opening_checked_at (Some place) context w = nested context place (is_deep w 1) w

abbrev pub opening_checked : Context → Compilation → Compilation
opening_checked context w = opening_checked_at w.opening context w

-- A bad token cuts the unit at hand, which surely was an expression, and the body and the routine in which it stands.
abbrev pub cut : Context → Compilation → Compilation
cut context w = opening_checked context (sized context (given_up (body_ended (record w { unit = record w.unit { is_sure = true } }))))

-- Tells whether a token with these bytes is the name of a class.
abbrev pub names_class_of : Meaning → Bool
names_class_of (Meaning.Class number) = true
names_class_of _ = false

abbrev pub names_class : Found Place → Bool
names_class (Found.Declared m first) = names_class_of m
names_class (Found.System m) = false
names_class Found.Used = false
names_class Found.Unknown = false

abbrev pub is_class : TokenKind → List ℕ → Compilation → Bool
is_class TokenKind.Name bytes w = names_class (found_in bytes w.output.names)
is_class _ bytes w = false

-- Definitions of expressions of the unit at hand

abbrev pub operands_of : Compilation → List Operand
operands_of w = all_looked w.locals w.output w.unit.tokens w.unit.gathering.leaves

-- Least finding about the expressions of a unit whose first token has an order.
abbrev pub finding_at : ℕ → Wanted → Compilation → Option Finding
finding_at first wanted w = judged wanted first (operands_of w) w.unit.gathering.symbols

-- The expressions of the unit, and the variables in which it stores, name its locals.
abbrev pub named : Compilation → Compilation
named w = record w { locals = stores_named w.unit.tokens w.unit.items (leaves_named w.unit.tokens w.unit.gathering.leaves w.locals) }

-- Trees of the expressions of the unit, when their names were used.
abbrev pub settled_of : Limits → Context → Compilation → Settled
settled_of limits context w =
    settled limits context.set w.locals w.unit.tokens w.unit.gathering.leaves (record { out = w.output; operands = [] })

abbrev pub trees_at : ℕ → Wanted → List Operand → Compilation → List Rooted
trees_at first wanted operands w = trees_of wanted first operands w.unit.gathering.symbols

-- In a routine that is passed over nothing has an effect.
abbrev pub passed : Bool → Compilation → Compilation
passed has_last w = record w { unit = over has_last w.unit }

-- Definitions of a routine

-- A header, which begins at a place, opens a routine with its locals. With an error it still declares its name, where that
-- is free, and its locals. Z-Machine Standard 1.1, section 5.2.
abbrev pub opened_with : Limits → Context → Place → Headed → Findings → Compilation → Compilation
opened_with limits context first h found w = unit_ended limits context first true found (record w {
  output = opened limits (length h.locals) (is_some found.least) w.output;
  locals = h.locals;
  constructs = [];
  labels = [];
})

abbrev pub routine_declared : Limits → Name → Compilation → Compilation
routine_declared limits name w =
    record w { output = declared limits name.bytes name.place (Meaning.Routine (place_behind w.output.code.finished)) w.output }

-- The name of a routine stands behind the bracket of its header.
abbrev pub header_with : Limits → Context → Place → Name → Headed → Compilation → Compilation
header_with limits context first name h w =
    opened_with limits context first h (header_findings 1 (again_by name (declare_fault limits name.bytes w.output.names)) h)
    (routine_declared limits name w)

-- Tells whether the routine of a name is to be replaced, as it is in a file that is marked: then it is passed over.
abbrev pub is_to_be_replaced : Name → Compilation → Bool
is_to_be_replaced n w = w.is_system && is_among n.bytes w.replaced

-- Behind its bracket a header has the name of its routine; its locals are kept apart.
abbrev pub header_named : Limits → Context → Place → Name → Compilation → Compilation
header_named limits context first name w =
    if is_to_be_replaced name w then passed true (record w { is_replaced = true; is_embedded = false; constructs = [] })
    else header_with limits context first name w.unit.headed (record w { is_replaced = false; is_embedded = false })

abbrev pub header_of : Limits → Context → Place → List Name → Compilation → Compilation
header_of limits context first [] w = passed true w
header_of limits context first (name ∷ names) w = header_named limits context first name w

abbrev pub header_end : Limits → Context → Place → Compilation → Compilation
header_end limits context place w = header_of limits context (first_place w.unit.tokens place) (names_in w.unit.tokens) w

-- A warning, at a place, for each local that no statement named.
abbrev pub with_unused : Context → Place → Local → Reported → Reported
with_unused context place l r = if l.is_named then r else with_warning (location context.names place) (UnusedLocal l.name) r

abbrev pub with_all_unused : Context → Place → List Local → Reported → Reported
with_all_unused context place [] r = r
with_all_unused context place (l ∷ locals) r = with_all_unused context place locals (with_unused context place l r)

-- Error of the labels or offsets of a routine: a label that is used and not given, or a branch that goes too far. A label without a
-- name is missing only where a limit was passed before its place was laid, which is told by itself.
abbrev pub with_branch_fault : Context → Place → Option CloseFault → Reported → Reported
with_branch_fault context place (Some (CloseFault.LabelTwice label)) r =
    with_error (location context.names place) (location context.names place) BranchTooFar r
with_branch_fault context place (Some CloseFault.TooFar) r =
    with_error (location context.names place) (location context.names place) BranchTooFar r
with_branch_fault context place _ r = r

abbrev pub with_fault_or : Option (List ℕ) → Context → Place → Option CloseFault → Reported → Reported
with_fault_or (Some name) context place fault r =
    with_error (location context.names place) (location context.names place) (LabelMissing name) r
with_fault_or None context place fault r = with_branch_fault context place fault r

abbrev pub with_routine_fault : Context → Place → List NamedLabel → Option CloseFault → Reported → Reported
with_routine_fault context place labels fault r = with_fault_or (missing labels) context place fault r

-- A routine that stands in a list of values is embedded.
abbrev pub kind_ended : Bool → RoutineKind
kind_ended is_embedded = if is_embedded then RoutineKind.Embedded else RoutineKind.Plain

-- End of a routine of a kind, at a place: its error is told, and its unused locals, which are not known behind it.
abbrev pub close_as : Limits → RoutineKind → Context → Place → Compilation → Compilation
close_as limits how context place w =
    let fault = fault_closed limits how w.output.code in
    unit_ended limits context place true nothing_found (record w {
      most_labels = max w.most_labels (labels_of w.output.code);
      output = closed limits how w.output;
      report = with_all_unused context place w.locals (with_routine_fault context place w.labels fault w.report);
      locals = [];
      is_embedded = false;
    })

abbrev pub code_closed : Limits → Context → Place → Compilation → Compilation
code_closed limits context place w = close_as limits (kind_ended w.is_embedded) context place w

-- Before a routine ends, its own cases end, if it has such. Nothing ends in a routine that is passed over.
abbrev pub cases_ended : Limits → Compilation → Compilation
cases_ended limits w = let laid = ended limits w.constructs w.output in record w { constructs = laid.0; output = laid.1 }

abbrev pub close_open : Limits → Context → Place → Compilation → Compilation
close_open limits context place w = code_closed limits context place (cases_ended limits w)

abbrev pub close : Limits → Context → Place → Compilation → Compilation
close limits context place w = if w.is_replaced then passed true w else close_open limits context place w

-- Definitions of directives, which begin at a place

-- Text of the unit, in the character set of the sources.
abbrev pub words_of : CharSet → Unit → Words
words_of set u = record { bytes = quoted_in u.tokens; set = set }

-- Meaning of a constant, by its expression: a known number, or the meaning of a name that was declared before. A constant that is a
-- routine has the packed address of the routine.
abbrev pub as_constant : Meaning → Meaning
as_constant (Meaning.Routine place) = Meaning.PackedAddress place
as_constant m = m

abbrev pub declared_meaning : Found Place → Option Meaning
declared_meaning (Found.Declared m place) = Some (as_constant m)
declared_meaning (Found.System m) = None
declared_meaning Found.Used = None
declared_meaning Found.Unknown = None

abbrev pub named_leaf : List SourceToken → List UnitLeaf → List ℕ
named_leaf tokens ((UnitLeaf.Name at) ∷ leaves) = bytes_at tokens at
named_leaf tokens _ = []

-- A text is the next string, and a word of the dictionary stands for itself.
abbrev pub leaf_meaning : List UnitLeaf → Compilation → Option Meaning
leaf_meaning ((UnitLeaf.Text at) ∷ leaves) w = Some (Meaning.Text (length w.output.strings.bytes))
leaf_meaning ((UnitLeaf.Word word) ∷ leaves) w = Some (Meaning.Word word.text)
leaf_meaning leaves w = declared_meaning (found_in (named_leaf w.unit.tokens leaves) w.output.names)

abbrev pub constant_of : List Tree → Compilation → Option Meaning
constant_of [] w = Some (Meaning.Number 0)
constant_of ((Leaf (Operand.Known number)) ∷ trees) w = Some (Meaning.Number number)
constant_of ((Leaf (Operand.Later target)) ∷ trees) w = leaf_meaning w.unit.gathering.leaves w
constant_of (_ ∷ trees) w = None

-- Finding about the expression of a constant, and the meaning of the constant.
abbrev pub constant_finding : Option Meaning → Option Finding → Option Finding
constant_finding None None = Some (no_constant 0)
constant_finding _ found = found

abbrev pub constant_meaning : Option Meaning → Option Finding → Meaning
constant_meaning (Some m) None = m
constant_meaning _ found = Meaning.Number 0

-- Findings about the name of a constant, which stands at an order, and about its expression.
abbrev pub constant_findings : ℕ → Option Again → Option Finding → Findings
constant_findings order again finding = record (found_alone (least_of_both (again_finding order again) finding)) { again = again }

-- Without an error the text or word of a constant is added.
abbrev pub constant_added : Limits → Context → Option Finding → Compilation → Compilation
constant_added limits context None w = record w { output = leaf_added limits context.set w.unit.tokens w.unit.gathering.leaves w.output }
constant_added limits context (Some f) w = w

-- End of the directive of a constant, whose name was refused or not.
abbrev pub constant_ended : Limits → Context → Place → Name → Option (DeclareFault Place) → Option Finding → Compilation → Compilation
constant_ended limits context first name refused finding w =
    let found = constant_findings (name_order w.unit.tokens) (again_by name refused) finding in
    unit_ended limits context first true found (constant_added limits context found.least w)

abbrev pub constant_declared : Limits → Context → Place → Name → Option Meaning → Option Finding → Compilation → Compilation
constant_declared limits context first name m finding w =
    constant_ended limits context first name (declare_fault limits name.bytes w.output.names) finding
    (record w { output = declared limits name.bytes name.place (constant_meaning m finding) w.output })

abbrev pub constant_with : Limits → Context → Place → Name → Option Meaning → Option Finding → Compilation → Compilation
constant_with limits context first name m found w = constant_declared limits context first name m (constant_finding m found) w

abbrev pub constant : Limits → Context → Place → List Name → Compilation → Compilation
constant limits context first [] w = passed true w
constant limits context first (name ∷ names) w =
    constant_with limits context first name (constant_of (map tree_in (trees_at 0 Wanted.Constant (operands_of w) w)) w)
    (finding_at 0 Wanted.Constant w) w

-- The routine of a name is to be replaced where it stands in a file that is marked. That is a use of the name.
abbrev pub replace : Limits → Context → Place → List Name → Compilation → Compilation
replace limits context first [] w = passed true w
replace limits context first (name ∷ names) w = unit_ended limits context first true nothing_found
    (record w { output = referred limits name.bytes name.place w.output; replaced = with_name name.bytes w.replaced })

-- A stub is a routine with a number of locals, four at most, that returns 0. It is one where the name is not declared.
abbrev pub stub_locals_by : Option TokenKind → ℕ
stub_locals_by None = 0
stub_locals_by (Some k) = unwrap_or (number_of k) 0

abbrev pub stub_locals : List SourceToken → ℕ
stub_locals tokens = stub_locals_by (kind_at tokens (length tokens - 1))

abbrev pub stub_code : Limits → ℕ → Code
stub_code limits locals o = closed limits RoutineKind.Embedded (opened limits locals false o)

abbrev pub stubbed : Limits → Context → Place → Compilation → Compilation
stubbed limits context first w =
    let locals = stub_locals w.unit.tokens in
    if nat_lt 4 locals then unit_ended limits context first true (found_alone (Some (out_of_range 0))) w
    else unit_ended limits context first true nothing_found (record w { output = stub_code limits locals w.output })

-- Tells whether a name is declared, by the outcome of its look-up.
abbrev pub is_declared : Found Place → Bool
is_declared (Found.System m) = true
is_declared (Found.Declared m place) = true
is_declared Found.Used = false
is_declared Found.Unknown = false

-- Tells whether the first of some names is declared.
abbrev pub is_first_declared : List Name → Table Place → Bool
is_first_declared [] names = false
is_first_declared (name ∷ others) names = is_declared (found_in name.bytes names)

abbrev pub new_stub : Limits → Context → Place → List Name → Compilation → Compilation
new_stub limits context first [] w = passed true w
new_stub limits context first (name ∷ names) w = stubbed limits context first (routine_declared limits name w)

abbrev pub stub : Limits → Context → Place → List Name → Compilation → Compilation
stub limits context first names w =
    if is_first_declared names w.output.names then unit_ended limits context first true nothing_found w else new_stub limits context first
    names w
