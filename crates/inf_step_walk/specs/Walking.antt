-- Steps of a compilation by their changes: how an output grows, what happens within a unit, and what leads from one unit to another. A law
-- that holds of each change holds of each action, each token and each cut, by one induction. Beside each step goes the same one behind
-- another report, so that laws can compare two runs.
use Rattle.std.specs.Prelude.{Bool, List, None, Option, false, ℕ, ◌≡◌}
use Rattle.inf_area.specs.{declared.scale.Scale.Scale, declared.targets.Target.Target}
use Rattle.inf_expressions.specs.{Rooted.Rooted, Trees.Tree}
use Rattle.inf_scanner.specs.declared.tokens.Place.{Place}
use Rattle.inf_settings.specs.{Bounds.Limits, declared.setting.Setting.Setting}
use Rattle.inf_dictionary.specs.{Texts.Text, declared.uses.Word.Word, declared.uses.WordUse.WordUse}
use Rattle.inf_assembler.specs.declared.routines.RoutineKind.{RoutineKind}
use Rattle.inf_names.specs.{Symbols.Named, Symbols.declare_fault, declared.meanings.Meaning.Meaning}
use Rattle.inf_code.specs.Code.{Routines}
use Rattle.inf_output.specs.{declared.items.Item.Item, declared.past.Past.Past}
use Rattle.inf_output.specs.Output.{Out, apart, closed, declared, opened, passed_table, referred, with_low_text, with_scale, with_text}
use Rattle.inf_output.specs.Output.{with_word}
use Rattle.inf_report.specs.{OwnWords.Words, declared.messages.Kind.Kind}
use Rattle.inf_unit.specs.{Directives.Request, declared.roles.Ending.Ending}
use Rattle.inf_unit.specs.Messages.{FileNames, Reported, location, warnings_chosen, with_words}
use Rattle.inf_constructs.specs.declared.constructs.Kind.{Kind as Opening}
use Rattle.inf_constructs.specs.Constructs.{Laying, begun, cases_begun, changed, entered, looped_over, stepped}
use Rattle.inf_statements.specs.Statements.{alone}
use Rattle.inf_compilation.specs.{Context.Context, Findings.Findings}
use Rattle.inf_compilation.specs.Actions.{Compilation, begun_at, body_ended, cases_ended, close_as, code_begun, given_up, nested, sized}
use Rattle.inf_compilation.specs.Actions.{unit_ended}
use Rattle.inf_compilation.specs.Nesting.{closed_ahead, construct_ended, construct_joined, constructs_laid}
use Rattle.inf_directives.specs.Abbreviations.{low_added}
use Rattle.inf_reader.specs.Directives.{limits_told}
use Rattle.inf_code_walk.specs.Made.{Laid, TreeMeets, TreesMeet}
use Rattle.inf_word_laws.specs.Standing.{AllOf}
use Rattle.inf_step_walk.specs.Standing.{Before, MeaningStands, NamesStand, StepsStand, TablesStand, TargetStands, WorldStands}

-- A target stands in each output before which this one comes.
abbrev pub Stood : Out → Target → Type 0
Stood o t = (u : Out) → Before u o → TargetStands u t

abbrev pub RootsMeet : (Target → Type 0) → List Rooted → Type 0
RootsMeet L trees = AllOf (λ (r : Rooted). TreeMeets L r.tree) trees

-- All that stands in the tables of an output stands in another one.
abbrev pub TablesHold : Out → Out → Type 0
TablesHold u o =
    TablesStand u o.tables.arrays o.tables.globals o.tables.verbs.list o.tables.actions.routines o.tables.parsing
    × WorldStands u o.tables.world.declared o.tables.world.objects o.tables.world.body.properties.own o.tables.world.body.properties.above

-- the rest of an output: code, items that are kept apart, limits that were passed, abbreviations, names and words
abbrev pub Rest : Type 0
Rest = Routines × Option (List Item) × Option Past × List ℕ × List (Named Place) × List (Text × Word)

abbrev pub rest : Out → Rest
rest o = (o.code, o.kept, o.past, o.tables.low_strings.abbreviations, o.names.names, o.tables.dictionary.list)

-- Facts that are known where an ending does what no other one does: that of a text of `Abbreviate` adds an abbreviation, and that of a
-- directive asks for something.
abbrev pub Premises : Type 1
Premises = Ending → Type 0

abbrev pub free : Premises
free e = Unit {0}

-- An output grows: not at all; by two changes; by a laying of pieces, whose targets stand; by the beginning or the end of a routine; by
-- another scale; by a limit of tables that is passed; by a text, a low string, an abbreviation where one may be added, a word; by a name
-- that is declared, of which the meaning stands where the output behind all that follows comes before; by one that is used; and by tables
-- of which all stands there that stood before.
pub data Grown (limits : Limits) (Q : Premises) : Out → Out → Type 1 where
  Stays : {o : Out} → Grown limits Q o o
  Follows : {o p v : Out} → Grown limits Q o p → Grown limits Q p v → Grown limits Q o v
  Gives : {o : Out} {A : Type 0} {f : Laying A} → Laid limits (Stood o) A f → Grown limits Q o (f o).1
  Opens : {o : Out} (locals : ℕ) (is_lost : Bool) → Grown limits Q o (opened limits locals is_lost o)
  Closes : {o : Out} (kind : RoutineKind) → Grown limits Q o (closed limits kind o)
  Scales : {o : Out} (scale : Scale) → Grown limits Q o (with_scale scale o)
  Passes : {o : Out} (limit : Setting) → Grown limits Q o (passed_table limits limit o)
  Texts : {o : Out} (text : List ℕ) → Grown limits Q o (with_text limits text o)
  LowTexts : {o : Out} (text : List ℕ) → Grown limits Q o (with_low_text limits text o)
  Abbreviates : {o : Out} (bytes : List ℕ) → Q Ending.Abbreviation → Grown limits Q o (low_added limits bytes o)
  Uses : {o : Out} (text : Text) (how : WordUse) (is_plural : Bool) → Grown limits Q o (with_word limits text how is_plural o)
  Declares : {o v : Out} (name : List ℕ) (place : Place) (m : Meaning)
      → (declare_fault limits name o.names ≡ None → (u : Out) → Before u v → NamesStand u o.names.names → MeaningStands u m)
      → Grown limits Q (declared limits name place m o) v → Grown limits Q o v
  Refers : {o : Out} (name : List ℕ) (place : Place) → Grown limits Q o (referred limits name place o)
  Tables : {o p v : Out} → Grown limits Q p v → rest p ≡ rest o
      → ((u : Out) → Before u o → Before u v → TablesHold u o → TablesHold u p) → Grown limits Q o v

-- the most tokens of an expression, the most labels of a routine, the report, and what is asked
abbrev pub Tallies : Type 0
Tallies = ℕ × ℕ × Reported × Request

abbrev pub tallies : Compilation → Tallies
tallies w = (w.most_tokens, w.most_labels, w.report, w.asked)

-- these and the output
abbrev pub outside : Compilation → Out × Tallies
outside w = (w.output, tallies w)

-- the targets of the steps of open statements stand where they did before
abbrev pub StepsStay : Compilation → Compilation → Type 0
StepsStay w v = (u : Out) → StepsStand u w.constructs → StepsStand u v.constructs

-- the compilation with another report
abbrev pub with_report : Reported → Compilation → Compilation
with_report r w = record w { report = r }

-- Within a unit, the output grows, and nothing that is counted or told changes; code is kept apart as a step; cases begin, go on or are
-- over; or a loop over objects begins. The first compilation with the report `r` becomes `t`.
pub data Inner (limits : Limits) (Q : Premises) : (w : Compilation) (r : Reported) (v t : Compilation) → Type 1 where
  Puts : {w v : Compilation} {r : Reported} → Grown limits Q w.output v.output → StepsStay w v → tallies v ≡ tallies w
      → Inner limits Q w r v (with_report r v)
  Next : {w x v t : Compilation} {r : Reported} → Inner limits Q w r x (with_report r x) → Inner limits Q x r v t → Inner limits Q w r v t
  Parts : {w : Compilation} {r : Reported} (trees : List Tree) → TreesMeet (Stood w.output) trees
      → Inner limits Q w r (constructs_laid (λ o. stepped w.constructs (alone limits trees (apart o))) w)
      (constructs_laid (λ o. stepped w.constructs (alone limits trees (apart o))) (with_report r w))
  Cases : {w : Compilation} {r : Reported}
      → Inner limits Q w r (constructs_laid (cases_begun limits w.constructs) w)
      (constructs_laid (cases_begun limits w.constructs) (with_report r w))
  Enters : {w : Compilation} {r : Reported} (is_default : Bool)
      → Inner limits Q w r (constructs_laid (changed (entered limits is_default) w.constructs) w)
      (constructs_laid (changed (entered limits is_default) w.constructs) (with_report r w))
  Loops : {w : Compilation} {r : Reported} (trees : List Rooted) → RootsMeet (Stood w.output) trees
      → Inner limits Q w r (constructs_laid (looped_over limits trees w.constructs) w)
      (constructs_laid (looped_over limits trees w.constructs) (with_report r w))
  Over : {w : Compilation} {r : Reported} → Inner limits Q w r (cases_ended limits w) (cases_ended limits (with_report r w))

-- A walk leads from a compilation to another one: output, report and counts stay; one behind another, where the report between them is
-- known, or `g` behind it, whatever that is; something is told or asked; an expression is sized; a unit or a routine ends behind what
-- happened within it; the limits are told, in any case behind what follows the beginning of code; a body is over, or a routine given up; a
-- statement begins, is joined, or ends. The first compilation with the report `r` becomes `t`.
pub data Walk (limits : Limits) (context : Context) (Q : Premises) : (w : Compilation) (r : Reported) (v t : Compilation) → Type 1 where
  Rests : {w v : Compilation} {r : Reported} → StepsStay w v → outside v ≡ outside w → Walk limits context Q w r v (with_report r v)
  After : {w x v t : Compilation} {r s : Reported} → Walk limits context Q w r x (with_report s x) → Walk limits context Q x s v t
      → Walk limits context Q w r v t
  Behind : {w x v t : Compilation} {r : Reported} (g : Compilation → Compilation) → Walk limits context Q w r x t
      → ((s : Reported) → Walk limits context Q x s v (g (with_report s x))) → Walk limits context Q w r v (g t)
  Nests : {w : Compilation} {r : Reported} (place : Place) (is_deep : Bool)
      → Walk limits context Q w r (nested context place is_deep w) (nested context place is_deep (with_report r w))
  Says : {w : Compilation} {r : Reported} (place : Place) (k : Option Kind) (words : Words)
      → Walk limits context Q w r (with_report (with_words (location context.names place) k words w.report) w)
      (with_report (with_words (location context.names place) k words r) w)
  Warns : {w : Compilation} {r : Reported} (has_warnings : Bool)
      → Walk limits context Q w r (with_report (warnings_chosen has_warnings w.report) w) (with_report (warnings_chosen has_warnings r) w)
  Asks : {w : Compilation} {r : Reported} (request : Request) → Q Ending.Directive
      → Walk limits context Q w r (record w { asked = request }) (record w { report = r; asked = request })
  Sizes : {w : Compilation} {r : Reported} → Walk limits context Q w r (sized context w) (sized context (with_report r w))
  Ends : {w : Compilation} {r : Reported} (first : Place) (has_last : Bool) (found : Findings) (v : Compilation) {t : Compilation}
      → Inner limits Q w r v t
      → Walk limits context Q w r (unit_ended limits context first has_last found v) (unit_ended limits context first has_last found t)
  Finishes : {w : Compilation} {r : Reported} (how : RoutineKind) (place : Place) (v : Compilation) {t : Compilation}
      → Inner limits Q w r v t → Walk limits context Q w r (close_as limits how context place v) (close_as limits how context place t)
  Checks : {w : Compilation} {r : Reported} (first : Place)
      → Walk limits context Q w r (limits_told limits context first w) (limits_told limits context first (with_report r w))
  Begins : {w v t : Compilation} {r : Reported} (first : Place) → Walk limits context Q (code_begun limits w) r v t
      → Walk limits context Q w r (limits_told limits context first v) (limits_told limits context first t)
  Leaves : {w : Compilation} {r : Reported} → Walk limits context Q w r (body_ended w) (body_ended (with_report r w))
  GivesUp : {w : Compilation} {r : Reported} → Walk limits context Q w r (given_up w) (given_up (with_report r w))
  Starts : {w : Compilation} {r : Reported} (k : Opening)
      → Walk limits context Q w r (constructs_laid (begun limits k w.constructs) w)
      (constructs_laid (begun limits k w.constructs) (with_report r w))
  Joins : {w : Compilation} {r : Reported}
      → Walk limits context Q w r (construct_joined limits w) (construct_joined limits (with_report r w))
  Shuts : {w : Compilation} {r : Reported} → Walk limits context Q w r (construct_ended limits w) (construct_ended limits (with_report r w))

-- A function of compilations leads from `x` to what it makes of `w`, whatever was reported before; and where these are the same, it is a
-- walk.
abbrev pub Leads : Limits → Context → Premises → Compilation → (Compilation → Compilation) → Compilation → Type 1
Leads limits context Q x f w = (r : Reported) → Walk limits context Q x r (f w) (f (with_report r w))

abbrev pub Walks : Limits → Context → Premises → (Compilation → Compilation) → Compilation → Type 1
Walks limits context Q f w = Leads limits context Q w f w

-- the same within a unit
abbrev pub Lies : Limits → Premises → Compilation → (Compilation → Compilation) → Compilation → Type 1
Lies limits Q x f w = (r : Reported) → Inner limits Q x r (f w) (f (with_report r w))

-- A fatal message stays.
abbrev pub Remains : (Reported → Reported) → Type 0
Remains tell = (r : Reported) → (tell r).counts.is_over ≡ false → r.counts.is_over ≡ false

-- Turns lead from a compilation to another one: nowhere; by a walk; one behind another; something is told; and statements are closed ahead
-- where a conditional directive ends.
pub data Runs (limits : Limits) (context : Context) : Compilation → Compilation → Type 1 where
  Nowhere : {w : Compilation} → Runs limits context w w
  Acts : {w v t : Compilation} → Walk limits context free w w.report v t → Runs limits context w v
  Then : {w x v : Compilation} → Runs limits context w x → Runs limits context x v → Runs limits context w v
  Tells : {w : Compilation} (tell : Reported → Reported) → Remains tell → Runs limits context w (record w { report = tell w.report })
  Settles : {w : Compilation} (count : ℕ) (files : FileNames) (place : Place)
      → Runs limits context w (begun_at limits files place (closed_ahead limits count w))
