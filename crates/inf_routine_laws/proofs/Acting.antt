-- The names of a unit are used; the units of a routine, and what happens while it is read, in the book of labels.
use Rattle.std.proofs.lemmas.Bool.{and_parts}
use Rattle.std.proofs.Common.{Bool, List, None, Option, Some, [], ap, arith, false, if◌then◌else◌, map, refl, subst, true, ℕ, ◌&&◌, ◌∷◌}
use Rattle.std.proofs.Common.{◌≡◌}
use Rattle.inf_characters.specs.declared.characters.CharSet.{CharSet}
use Rattle.inf_expressions.specs.{Findings.is_before, Findings.least_of_both, Rooted.Rooted, declared.findings.Finding.Finding}
use Rattle.inf_scanner.specs.declared.tokens.Place.{Place}
use Rattle.inf_gathering.specs.declared.gathering.Leaf.{Leaf}
use Rattle.inf_settings.specs.Bounds.{Limits, unbounded}
use Rattle.inf_dictionary.specs.{Texts.Text, Words.add_fault, Words.word_of, declared.dictionary.AddFault.AddFault}
use Rattle.inf_dictionary.specs.{declared.uses.WordUse.WordUse}
use Rattle.inf_verbs.specs.{Routines.action_fault, declared.routines.ActionFault.ActionFault}
use Rattle.inf_names.specs.{Locals.Local, Symbols.declare_fault, Symbols.refer_fault, declared.symbols.DeclareFault.DeclareFault}
use Rattle.inf_names.specs.{declared.symbols.ReferFault.ReferFault}
use Rattle.inf_code.specs.Code.{Routines}
use Rattle.inf_output.specs.{Actions.numbered_by, Actions.seen_by, Strings.fits}
use Rattle.inf_output.specs.Output.{Out, referred_by, with_text_by, with_word_by}
use Rattle.inf_unit.specs.{Tokens.SourceToken, declared.roles.Ending.Ending, declared.roles.Note.Note, declared.roles.Role.Role}
use Rattle.inf_unit.specs.Roles.{ends_outer, ends_token, ends_value, is_arrow, is_text, is_verb_word, makes_sure, role_of}
use Rattle.inf_unit.specs.Units.{bytes_at, is_full, last_passed, long_at, next_place, noted as unit_noted, taken as unit_taken, text_passed}
use Rattle.inf_unit.proofs.Cases.{of_both}
use Rattle.inf_constructs.specs.{Cases.case_code, Labels.NamedLabel, Labels.is_given, Roots.tree_in}
use Rattle.inf_constructs.specs.{declared.constructs.Construct.Construct}
use Rattle.inf_constructs.specs.Constructs.{are_own, cases_begun, condition_label, next_case}
use Rattle.inf_operands.specs.Operands.{Settled, settled}
use Rattle.inf_statements.specs.{Effects.only_if, Effects.statement_finding, Statements.alone, Statements.switched, Statements.tested}
use Rattle.inf_statements.specs.{declared.statements.Statement.Statement}
use Rattle.inf_compilation.specs.{Context.Context, Context.longest, Nesting.constructs_laid}
use Rattle.inf_compilation.specs.Actions.{Compilation, finding_at, is_deep, named, nested, opens, passed, settled_of, sized, stopped, took}
use Rattle.inf_compilation.specs.Actions.{trees_at}
use Rattle.inf_parts.specs.declared.parts.Part.{Part}
use Rattle.inf_parts.specs.Parts.{actions_named, case_prepared, found_in, has_last, is_default, order_of, own_finding, part_begun}
use Rattle.inf_parts.specs.Parts.{part_carried, part_effect, part_ended, part_finished, part_prepared, place_of, site_of, statement_at}
use Rattle.inf_parts.specs.Parts.{wanted_of}
use Rattle.inf_verb_lines.specs.Verbs.{token_sifted, word_sifted}
use Rattle.inf_reader.specs.Acting.{act, ended as ended_as, is_crowded, is_long, is_tall, is_wordy, noted, noted_of, operands_named, played}
use Rattle.inf_reader.specs.Acting.{value_noted}
use Rattle.inf_statement_laws.specs.Laid.{happens, run}
use Rattle.inf_statement_laws.specs.Happenings.{Acts, Happening, Takes, happen_quietly, happens_quietly, is_quiet_end, is_quiet_role}
use Rattle.inf_code_walk.proofs.Statements.{label_in}
use Rattle.inf_label_laws.proofs.Owning.{Idle, idle_then}
use Rattle.inf_word_laws.proofs.Numbering.{Adds, Appears, Both, Looks, Names, Numbers, Packs, Still, Used, settled_used}
use Rattle.inf_routine_laws.specs.Laws.{AllLeave, LeavesRoutine}
use Rattle.inf_routine_laws.proofs.{Balance.Good, Balance.good_still, Balance.opened_cases, Booking.Counts}
use Rattle.inf_routine_laws.proofs.Constructing.{alone_owns, case_code_owns, entered_good, switched_owns, tested_owns}
use Rattle.inf_routine_laws.proofs.Naming.{code_good, condition_reached, next_reached, statement_good}

-- Lemmas about names, texts, words and actions of a unit

no_fault : {A B : Type 0} {a : A} → Some a ≡ None → B
no_fault e = absurd (cc e)

pub idle_self : (o : Out) → Idle o o
idle_self o = record { code = refl; next = refl; kept = refl; fits = λ e. e }

by_referred : (limits : Limits) (f : Option ReferFault) (name : List ℕ) (place : Place) (o : Out) →
    Idle o (referred_by limits f name place o)
by_referred limits None name place o =
    record { code = refl; next = refl; kept = refl; fits = λ e. e }
by_referred limits (Some fault) name place o =
    record { code = refl; next = refl; kept = refl; fits = λ e. no_fault e }

by_fitting : (limits : Limits) (b : Bool) (text : List ℕ) (o : Out) → Idle o (with_text_by limits b text o)
by_fitting limits true text o = record { code = refl; next = refl; kept = refl; fits = λ e. e }
by_fitting limits false text o =
    record { code = refl; next = refl; kept = refl; fits = λ e. no_fault e }

by_word : (limits : Limits) (f : Option AddFault) (text : Text) (how : WordUse) (is_plural : Bool) (o : Out) →
    Idle o (with_word_by limits f text how is_plural o)
by_word limits None text how is_plural o = record { code = refl; next = refl; kept = refl; fits = λ e. e }
by_word limits (Some AddFault.Full) text how is_plural o =
    record { code = refl; next = refl; kept = refl; fits = λ e. no_fault e }
by_word limits (Some AddFault.OtherVerb) text how is_plural o = idle_self o
by_word limits (Some AddFault.Memory) text how is_plural o = idle_self o

by_seen : (f : Option (DeclareFault Place)) (key : List ℕ) (place : Place) (o : Out) → Idle o (seen_by f key place o)
by_seen None key place o = record { code = refl; next = refl; kept = refl; fits = λ e. e }
by_seen (Some fault) key place o = idle_self o

by_number : (limits : Limits) (f : Option ActionFault) (routine : ℕ) (o : Out) → Idle o (numbered_by limits f routine o).0
by_number limits None routine o = record { code = refl; next = refl; kept = refl; fits = λ e. e }
by_number limits (Some fault) routine o =
    record { code = refl; next = refl; kept = refl; fits = λ e. no_fault e }

used_idle : {limits : Limits} {o v : Out} → Used limits o v → Idle o v
used_idle (Still {o}) = idle_self o
used_idle (Both {o} {p} {v} f g) = idle_then o p v (used_idle f) (used_idle g)
used_idle Packs = record { code = refl; next = refl; kept = refl; fits = λ e. e }
used_idle {limits} (Adds {o} text) = by_fitting limits (fits limits text o.strings) text o
used_idle {limits} (Looks {o} text how is_plural) =
    by_word limits (add_fault limits (word_of text o.tables.dictionary.list) how o.tables.dictionary) text how is_plural o
used_idle {limits} (Names {o} name place) = by_referred limits (refer_fault limits name o.names) name place o
used_idle (Appears {o} key place) = by_seen (declare_fault unbounded key o.seen) key place o
used_idle {limits} (Numbers {o} routine within) = by_number limits (action_fault limits routine o.tables.actions) routine o

pub settled_idle : (limits : Limits) (set : CharSet) (locals : List Local) (tokens : List SourceToken) (leaves : List Leaf) (s : Settled) →
    Idle s.out (settled limits set locals tokens leaves s).out
settled_idle limits set locals tokens leaves s = used_idle (settled_used {limits = limits} set locals tokens leaves s)

-- Lemmas about units of a routine

-- Lemmas about the book of a compilation
abbrev pub Balanced : Counts → Counts → Counts → Compilation → Type 0
Balanced due spare extra w = Good due spare extra w.labels w.constructs w.output

-- an output in which something beside code has changed
idle_leaves : (o p : Out) → Idle o p → LeavesRoutine o p
idle_leaves o p i = record { opened = ap (λ (r : Routines). r.opened) i.code; next = i.next; kept = i.kept; fits = i.fits }

first_leaves : (o : Out) (first : Place) → LeavesRoutine o (record o { first = first })
first_leaves o first = record { opened = refl; next = refl; kept = refl; fits = λ e. e }

-- the output of a unit without an error, when its names are used
pub settled_good : (limits : Limits) (context : Context) (first : Place) (due spare extra : Counts) (w : Compilation) →
    Balanced due spare extra w →
    Good due spare extra w.labels w.constructs (record (settled_of limits context w).out { first = first })
settled_good limits context first due spare extra w g =
    let s = settled_of limits context w in
    good_still due spare extra w.labels w.constructs s.out (record s.out { first = first }) (first_leaves s.out first)
    (good_still due spare extra w.labels w.constructs w.output s.out
    (idle_leaves w.output s.out (settled_idle limits context.set w.locals w.unit.tokens w.unit.gathering.leaves
    (record { out = w.output; operands = [] }))) g)

-- Lemmas about the effect of a unit

-- whether a unit gives the place of a label that was not given before, where it gives one
abbrev IsNew : Statement → Compilation → Type 0
IsNew s w = s ≡ Statement.Place → is_given (bytes_at w.unit.tokens (next_place w.unit.begun)) w.labels ≡ false

statement_effect : (limits : Limits) (context : Context) (s : Statement) (trees : List Rooted) (due spare extra : Counts)
    (w : Compilation) →
    IsNew s w → Balanced due spare extra w → Balanced due spare extra (part_effect limits context (Part.Statement s) trees w)
unfolding part_effect
statement_effect limits context s trees due spare extra w h g =
    statement_good limits (site_of context w) s (map tree_in trees) due spare extra w.labels w.output h g

condition_effect : (limits : Limits) (context : Context) (trees : List Rooted) (due spare extra : Counts) (w : Compilation) →
    Balanced due spare extra w → Balanced due spare extra (part_effect limits context Part.Condition trees w)
unfolding part_effect
condition_effect limits context trees due spare extra w g =
    code_good {code = tested limits (condition_label w.constructs) (map tree_in trees)}
    {needs = label_in (condition_label w.constructs)} due spare
    extra w.labels w.constructs w.output (tested_owns limits (condition_label w.constructs) (map tree_in trees))
    (λ n. let p = condition_reached w.constructs n in omega (arith, p)) g

start_effect : (limits : Limits) (context : Context) (trees : List Rooted) (due spare extra : Counts) (w : Compilation) →
    Balanced due spare extra w → Balanced due spare extra (part_effect limits context Part.Start trees w)
unfolding part_effect
start_effect limits context trees due spare extra w g =
    code_good {code = alone limits (map tree_in trees)} {needs = []} due spare extra w.labels w.constructs w.output
    (alone_owns limits (map tree_in trees)) (λ n. omega arith) g

switched_effect : (limits : Limits) (context : Context) (trees : List Rooted) (due spare extra : Counts) (w : Compilation) →
    Balanced due spare extra w → Balanced due spare extra (part_effect limits context Part.Switched trees w)
unfolding part_effect
switched_effect limits context trees due spare extra w g =
    code_good {code = switched limits (map tree_in trees)} {needs = []} due spare extra w.labels w.constructs w.output
    (switched_owns limits (map tree_in trees)) (λ n. omega arith) g

case_effect : (limits : Limits) (context : Context) (trees : List Rooted) (due spare extra : Counts) (w : Compilation) →
    Balanced due spare extra w → Balanced due spare extra (part_effect limits context Part.Case trees w)
unfolding part_effect
case_effect limits context trees due spare extra w g =
    code_good {code = case_code limits (next_case w.constructs) (map tree_in trees)} {needs = label_in (next_case w.constructs)} due spare
    extra w.labels w.constructs w.output (case_code_owns limits (next_case w.constructs) (map tree_in trees))
    (λ n. let p = next_reached w.constructs n in omega (arith, p)) g

-- Lemmas about the end of a unit, by its finding

some_finding : {A : Type 0} {a : A} {B : Type 0} → Some a ≡ None → B
some_finding e = absurd (cc e)

carried_statement : (limits : Limits) (context : Context) (first : Place) (s : Statement) (f : Option Finding) (due spare extra : Counts)
    (w : Compilation) → (f ≡ None → IsNew s w) → Balanced due spare extra w →
    Balanced due spare extra (part_carried limits context first (Part.Statement s) f w)
carried_statement limits context first s (Some f) due spare extra w h g = g
carried_statement limits context first s None due spare extra w h g =
    let o = (settled_of limits context w).out in
    let v = record w { output = record o { first = first } } in
    statement_effect limits context s
    (trees_at (order_of (Part.Statement s) w) (wanted_of (Part.Statement s)) (settled_of limits context w).operands w) due spare extra v
    (h refl) (settled_good limits context first due spare extra w g)

carried_condition : (limits : Limits) (context : Context) (first : Place) (f : Option Finding) (due spare extra : Counts)
    (w : Compilation) →
    Balanced due spare extra w → Balanced due spare extra (part_carried limits context first Part.Condition f w)
carried_condition limits context first (Some f) due spare extra w g = g
carried_condition limits context first None due spare extra w g = condition_effect limits context
    (trees_at (order_of Part.Condition w) (wanted_of Part.Condition) (settled_of limits context w).operands w) due spare extra
    (record w { output = record (settled_of limits context w).out { first = first } })
    (settled_good limits context first due spare extra w g)

carried_start : (limits : Limits) (context : Context) (first : Place) (f : Option Finding) (due spare extra : Counts) (w : Compilation) →
    Balanced due spare extra w → Balanced due spare extra (part_carried limits context first Part.Start f w)
carried_start limits context first (Some f) due spare extra w g = g
carried_start limits context first None due spare extra w g = start_effect limits context
    (trees_at (order_of Part.Start w) (wanted_of Part.Start) (settled_of limits context w).operands w) due spare extra
    (record w { output = record (settled_of limits context w).out { first = first } })
    (settled_good limits context first due spare extra w g)

carried_switched : (limits : Limits) (context : Context) (first : Place) (f : Option Finding) (due spare extra : Counts) (w : Compilation) →
    Balanced due spare extra w → Balanced due spare extra (part_carried limits context first Part.Switched f w)
carried_switched limits context first (Some f) due spare extra w g = g
carried_switched limits context first None due spare extra w g = switched_effect limits context
    (trees_at (order_of Part.Switched w) (wanted_of Part.Switched) (settled_of limits context w).operands w) due spare extra
    (record w { output = record (settled_of limits context w).out { first = first } })
    (settled_good limits context first due spare extra w g)

carried_case : (limits : Limits) (context : Context) (first : Place) (f : Option Finding) (due spare extra : Counts) (w : Compilation) →
    Balanced due spare extra w → Balanced due spare extra (part_carried limits context first Part.Case f w)
carried_case limits context first (Some f) due spare extra w g = g
carried_case limits context first None due spare extra w g = case_effect limits context
    (trees_at (order_of Part.Case w) (wanted_of Part.Case) (settled_of limits context w).operands w) due spare extra
    (record w { output = record (settled_of limits context w).out { first = first } })
    (settled_good limits context first due spare extra w g)

-- A unit that gives the place of a label has the finding that it was given before.
either_some : {B : Type 0} (b : Bool) (f g : Finding) → (if b then Some f else Some g) ≡ None → B
either_some true f g e = some_finding e
either_some false f g e = some_finding e

least_none : (f g : Option Finding) → least_of_both f g ≡ None → g ≡ None
least_none f None e = refl
least_none None (Some g) e = some_finding e
least_none (Some f) (Some g) e = either_some (is_before g f) g f e

only_none : (b : Bool) (f : Finding) → only_if b f ≡ None → b ≡ false
only_none true f e = some_finding e
only_none false f e = refl

place_finds : (limits : Limits) (context : Context) (w : Compilation) →
    own_finding limits context (Part.Statement Statement.Place) w ≡ None →
    is_given (bytes_at w.unit.tokens (next_place w.unit.begun)) w.labels ≡ false
unfolding statement_finding
place_finds limits context w e = only_none (is_given (bytes_at w.unit.tokens (next_place w.unit.begun)) w.labels) _ e

is_new : (limits : Limits) (context : Context) (s : Statement) (w : Compilation) → found_in limits context (Part.Statement s) w ≡ None →
    IsNew s w
is_new limits context s w e same =
    let p = Part.Statement s in
    let own = least_none (finding_at (order_of p w) (wanted_of p) w) (own_finding limits context p w) e in
    place_finds limits context w (subst (λ (t : Statement). own_finding limits context (Part.Statement t) w ≡ None) same own)

-- A unit ends, in a routine that is passed over or not.

statement_ends : (limits : Limits) (context : Context) (place : Place) (s : Statement) (due spare extra : Counts) (w : Compilation) →
    Balanced due spare extra w → Balanced due spare extra (part_ended limits context place (Part.Statement s) w)
statement_ends limits context place s due spare extra w g =
    let p = Part.Statement s in
    let ready = part_prepared w in
    of_both (Balanced due spare extra) w.is_replaced (passed (has_last p) w) (part_finished limits context (place_of p place ready) p ready)
    (λ _. g)
    (λ _. carried_statement limits context (place_of p place ready) s (found_in limits context p ready) due spare extra (named ready)
    (λ e. is_new limits context s ready e) g)

condition_ends : (limits : Limits) (context : Context) (place : Place) (due spare extra : Counts) (w : Compilation) →
    Balanced due spare extra w → Balanced due spare extra (part_ended limits context place Part.Condition w)
condition_ends limits context place due spare extra w g =
    let p = Part.Condition in
    let ready = part_prepared w in
    of_both (Balanced due spare extra) w.is_replaced (passed (has_last p) w) (part_finished limits context (place_of p place ready) p ready)
    (λ _. g)
    (λ _. carried_condition limits context (place_of p place ready) (found_in limits context p ready) due spare extra (named ready) g)

start_ends : (limits : Limits) (context : Context) (place : Place) (due spare extra : Counts) (w : Compilation) →
    Balanced due spare extra w → Balanced due spare extra (part_ended limits context place Part.Start w)
start_ends limits context place due spare extra w g =
    let p = Part.Start in
    let ready = part_prepared w in
    of_both (Balanced due spare extra) w.is_replaced (passed (has_last p) w) (part_finished limits context (place_of p place ready) p ready)
    (λ _. g)
    (λ _. carried_start limits context (place_of p place ready) (found_in limits context p ready) due spare extra (named ready) g)

switched_ends : (limits : Limits) (context : Context) (place : Place) (due spare extra : Counts) (w : Compilation) →
    Balanced due spare extra w → Balanced due spare extra (part_ended limits context place Part.Switched w)
switched_ends limits context place due spare extra w g =
    let p = Part.Switched in
    let ready = part_prepared w in
    of_both (Balanced due spare extra) w.is_replaced (passed (has_last p) w) (part_finished limits context (place_of p place ready) p ready)
    (λ _. g)
    (λ _. carried_switched limits context (place_of p place ready) (found_in limits context p ready) due spare extra (named ready) g)

-- a case, which begins the routine's own where no statement is open
begun_good : (limits : Limits) (due spare extra : Counts) (labels : List NamedLabel) (constructs : List Construct) (o : Out) →
    Good due spare extra labels constructs o →
    let r = cases_begun limits constructs o in Good due spare extra labels r.0 r.1
begun_good limits due spare extra labels [] o g = opened_cases limits due spare extra labels o g
begun_good limits due spare extra labels (c ∷ constructs) o g = g

actions_good : (b : Bool) (due spare extra : Counts) (w : Compilation) → Balanced due spare extra w →
    Balanced due spare extra (actions_named b w)
actions_good true due spare extra w g = g
actions_good false due spare extra w g = g

pub case_ends_good : (limits : Limits) (context : Context) (place : Place) (due spare extra : Counts) (w : Compilation) →
    Balanced due spare extra w → Balanced due spare extra (part_ended limits context place Part.Case w)
case_ends_good limits context place due spare extra w g =
    let p = Part.Case in
    let before = part_prepared w in
    let begun = constructs_laid (cases_begun limits before.constructs) before in
    let ready = case_prepared limits p before in
    let is_begun = begun_good limits due spare extra before.labels before.constructs before.output g in
    let is_ready = actions_good (are_own begun.constructs) due spare extra begun is_begun in
    of_both (Balanced due spare extra) w.is_replaced (passed (has_last p) w) (part_finished limits context (place_of p place ready) p ready)
    (λ _. g)
    (λ _. carried_case limits context (place_of p place ready) (found_in limits context p ready) due spare extra
    (named (part_begun limits p ready))
    (entered_good limits (is_default ready.unit.items) due spare extra ready.labels ready.constructs ready.output is_ready))

-- Lemmas about quiet actions

nested_good : (context : Context) (place : Place) (b : Bool) (due spare extra : Counts) (w : Compilation) → Balanced due spare extra w →
    Balanced due spare extra (nested context place b w)
nested_good context place true due spare extra w g = g
nested_good context place false due spare extra w g = g

stopped_good : (context : Context) (place : Option Place) (due spare extra : Counts) (w : Compilation) → Balanced due spare extra w →
    Balanced due spare extra (stopped context place w)
stopped_good context None due spare extra w g = g
stopped_good context (Some place) due spare extra w g = g

sized_good : (context : Context) (due spare extra : Counts) (w : Compilation) → Balanced due spare extra w →
    Balanced due spare extra (sized context w)
sized_good context due spare extra w g = stopped_good context (long_at (longest context) w.unit) due spare extra w g

took_good : (context : Context) (t : SourceToken) (due spare extra : Counts) (w : Compilation) → Balanced due spare extra w →
    Balanced due spare extra (took context t w)
took_good context t due spare extra w g =
    let u = record w { unit = unit_taken t w.unit } in
    nested_good context t.place (opens t.kind && is_deep (sized context u) 0) due spare extra (sized context u)
    (sized_good context due spare extra u g)

note_of_good : (context : Context) (n : Note) (due spare extra : Counts) (w : Compilation) → Balanced due spare extra w →
    Balanced due spare extra (noted_of context n w)
note_of_good context n due spare extra w g =
    let v = record w { unit = unit_noted n w.unit } in
    of_both (Balanced due spare extra) (makes_sure n) (sized context v) v (λ _. sized_good context due spare extra v g) (λ _. g)

note_good : (limits : Limits) (context : Context) (n : Note) (due spare extra : Counts) (w : Compilation) → Balanced due spare extra w →
    Balanced due spare extra (noted limits context n w)
note_good limits context n due spare extra w g =
    let B = Balanced due spare extra in
    let plain = noted_of context n w in
    let worded = if is_verb_word n && is_wordy context w then word_sifted w else plain in
    let valued = if ends_value n && is_crowded limits w then value_noted context n w else worded in
    let sifted = if ends_token n && is_long context w then token_sifted context w else valued in
    let named = if ends_outer n && is_full w.unit then operands_named w else sifted in
    let passed = record w { unit = last_passed w.unit } in
    let kept = if is_arrow n && is_tall context w then passed else named in
    of_both (Balanced due spare extra) (is_text n && is_crowded limits w) (record w { unit = text_passed w.unit }) kept (λ _. g)
    (λ _. of_both (Balanced due spare extra) (is_arrow n && is_tall context w) passed named (λ _. g)
    (λ _. of_both (Balanced due spare extra) (ends_outer n && is_full w.unit) (operands_named w) sifted (λ _. g)
    (λ _. of_both (Balanced due spare extra) (ends_token n && is_long context w) (token_sifted context w) valued (λ _. g)
    (λ _. of_both (Balanced due spare extra) (ends_value n && is_crowded limits w) (value_noted context n w) worded
    (λ _. note_of_good context n due spare extra w g)
    (λ _. of_both (Balanced due spare extra) (is_verb_word n && is_wordy context w) (word_sifted w) plain (λ _. g)
    (λ _. note_of_good context n due spare extra w g))))))

end_good : (limits : Limits) (context : Context) (place : Place) (e : Ending) (due spare extra : Counts) (w : Compilation) →
    is_quiet_end e ≡ true → Balanced due spare extra w → Balanced due spare extra (ended_as limits context place e w)
end_good limits context place Ending.Statement due spare extra w q g =
    statement_ends limits context place (statement_at w) due spare extra w g
end_good limits context place Ending.Condition due spare extra w q g = condition_ends limits context place due spare extra w g
end_good limits context place Ending.Start due spare extra w q g = start_ends limits context place due spare extra w g
end_good limits context place Ending.Switched due spare extra w q g = switched_ends limits context place due spare extra w g
end_good limits context place _ due spare extra w q g = cc

role_good : (limits : Limits) (context : Context) (place : Place) (r : Role) (due spare extra : Counts) (w : Compilation) →
    is_quiet_role r ≡ true → Balanced due spare extra w → Balanced due spare extra (played limits context place r w)
role_good limits context place (Role.Note n) due spare extra w q g = note_good limits context n due spare extra w g
role_good limits context place (Role.End e) due spare extra w q g = end_good limits context place e due spare extra w q g
role_good limits context place (Role.Open o) due spare extra w q g = cc
role_good limits context place Role.Join due spare extra w q g = cc
role_good limits context place Role.Close due spare extra w q g = cc
role_good limits context place Role.Deeper due spare extra w q g = nested_good context place (is_deep w 1) due spare extra w g
role_good limits context place role due spare extra w q g = g

-- Lemmas about happenings

quiet_happens_good : (limits : Limits) (context : Context) (h : Happening) (due spare extra : Counts) (w : Compilation) →
    happens_quietly h ≡ true → AllLeave (h ∷ []) → Balanced due spare extra w → Balanced due spare extra (happens limits context h w)
quiet_happens_good limits context (Acts at a) due spare extra w q l g =
    let v = act limits context at.place a w in
    good_still due spare extra v.labels v.constructs v.output (at.behind.output v.output) (l.0 v.output)
    (role_good limits context at.place (role_of a) due spare extra w q g)
quiet_happens_good limits context (Takes t m) due spare extra w q l g =
    let v = took context t w in
    good_still due spare extra v.labels v.constructs v.output (m.output v.output) (l.0 v.output) (took_good context t due spare extra w g)

first_leave : (h : Happening) (hs : List Happening) → AllLeave (h ∷ hs) → AllLeave (h ∷ []) × AllLeave hs
first_leave (Acts at a) hs l = ((l.0, tt), l.1)
first_leave (Takes t m) hs l = ((l.0, tt), l.1)

pub quiet_good : (limits : Limits) (context : Context) (hs : List Happening) (due spare extra : Counts) (w : Compilation) →
    happen_quietly hs ≡ true → AllLeave hs → Balanced due spare extra w → Balanced due spare extra (run limits context hs w)
quiet_good limits context [] due spare extra w q l g = g
quiet_good limits context (h ∷ hs) due spare extra w q l g =
    let both = and_parts (happens_quietly h) (happen_quietly hs) q in
    let leave = first_leave h hs l in
    quiet_good limits context hs due spare extra (happens limits context h w) both.1 leave.1
    (quiet_happens_good limits context h due spare extra w both.0 leave.0 g)
