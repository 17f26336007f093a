-- Within a routine nothing but the names of units changes the locals.
use Rattle.std.proofs.Common.{◌≡◌, List, [], ◌∷◌, map, Bool, true, false, not, Option, Some, None, refl, sym, ◌∙◌, ap, subst}
use Rattle.std.specs.Prelude.{◌-◌, ◌&&◌, nat_lt, if◌then◌else◌, drop}
use Rattle.inf_settings.specs.Bounds.{Limits}
use Rattle.inf_scanner.specs.declared.tokens.Place.{Place}
use Rattle.inf_syntax.specs.declared.actions.Action.{Action}
use Rattle.inf_expressions.specs.{Rooted.Rooted, declared.findings.Finding.Finding}
use Rattle.inf_names.specs.{Locals.Headed, Locals.Local, Locals.no_locals, Locals.with_all_named, Locals.with_locals, Spellings.Name}
use Rattle.inf_code.specs.Code.{fault_closed}
use Rattle.inf_output.specs.Output.{full}
use Rattle.inf_constructs.specs.Constructs.{are_own, cases_begun}
use Rattle.inf_unit.specs.{Crowds.Crowd, Messages.with_full, Roles.ends_token, Roles.role_of, Tokens.SourceToken}
use Rattle.inf_unit.specs.{declared.roles.Ending.Ending, declared.roles.Note.Note, declared.roles.Role.Role}
use Rattle.inf_unit.specs.Units.{Unit as UnitAtHand, first_place, is_full, last_passed, last_place, long_at, names_in as names_of_tokens}
use Rattle.inf_unit.specs.Units.{noted as unit_noted, taken, text_passed}
use Rattle.inf_unit.proofs.Cases.{of_both}
use Rattle.inf_compilation.specs.{Context.Context, Context.longest, Nesting.construct_ended, Nesting.constructs_laid}
use Rattle.inf_compilation.specs.Actions.{Compilation, cases_ended, close_open, header_of, header_with, is_deep, is_to_be_replaced}
use Rattle.inf_compilation.specs.Actions.{kind_ended, named, nested, opens, passed, settled_of, sized, stopped, took, trees_at}
use Rattle.inf_compilation.specs.Actions.{with_all_unused, with_routine_fault}
use Rattle.inf_compilation.specs.Crowds.{crowd_opened, crowd_told, value_named, value_named_by}
use Rattle.inf_parts.specs.Parts.{actions_named, case_prepared, found_in, has_last, order_of, part_begun, part_carried, part_effect}
use Rattle.inf_parts.specs.Parts.{part_ended, part_finished, part_prepared, place_of, statement_at, wanted_of}
use Rattle.inf_parts.specs.declared.parts.Part.{Part}
use Rattle.inf_verb_lines.specs.Verbs.{word_sifted}
use Rattle.inf_reader.specs.Acting.{act, ended, is_crowded, is_tall, is_wordy, noted, noted_of, operands_named, played, value_noted}
use Rattle.inf_statement_laws.specs.{Laid.happens, Laid.run, Readings.Seen, Readings.plainly_at}
use Rattle.inf_statement_laws.specs.Happenings.{Acts, Happening, Takes}
use Rattle.inf_language.specs.{HeaderNames.local_events, Headers.as_name, NamedLocals.UnitsNameTheirLocals, NamedLocals.leaves_names}
use Rattle.inf_language.specs.{Texts.happenings_before, Texts.tokens_of}
use Rattle.inf_language.proofs.{HeadersRead.headers_note_their_names, UnitsNamed.units_name_their_locals}
use Rattle.inf_turn_laws.specs.UnusedLocals.{AreInner, AreNew, HeadersMakeNew, UnusedAreWarned, ends_part, is_inner, names_in, names_of}
use Rattle.inf_turn_laws.specs.UnusedLocals.{noted_names, part_names, part_of, played_names, unused, value_names, value_names_by}
use Rattle.inf_turn_laws.specs.UnusedLocals.{with_warnings}
use Rattle.inf_turn_laws.proofs.MarkedLocals.{header_is_new, unused_are_told, with_units}

-- A token is taken.

stopped_locals : (context : Context) (place : Option Place) (w : Compilation) → (stopped context place w).locals ≡ w.locals
stopped_locals context None w = refl
stopped_locals context (Some place) w = refl

sized_locals : (context : Context) (w : Compilation) → (sized context w).locals ≡ w.locals
sized_locals context w = stopped_locals context (long_at (longest context) w.unit) w

nested_locals : (context : Context) (place : Place) (deep : Bool) (w : Compilation) → (nested context place deep w).locals ≡ w.locals
nested_locals context place true w = refl
nested_locals context place false w = refl

took_locals : (context : Context) (t : SourceToken) (w : Compilation) → (took context t w).locals ≡ w.locals
took_locals context t w =
    let with_token = record w { unit = taken t w.unit } in
    let v = sized context with_token in
    nested_locals context t.place (opens t.kind && is_deep v 0) v ∙ sized_locals context with_token

-- Lemmas about a note

noted_of_locals : (context : Context) (n : Note) (w : Compilation) → (noted_of context n w).locals ≡ w.locals
noted_of_locals context Note.OuterSure w = sized_locals context (record w { unit = unit_noted Note.OuterSure w.unit })
noted_of_locals context Note.OuterWord w = sized_locals context (record w { unit = unit_noted Note.OuterWord w.unit })
noted_of_locals context _ w = refl

never : false ≡ true → ⊥
never e = cc

-- the names of a value that is judged by itself
value_locals : (u : UnitAtHand) (locals : List Local) → value_named u locals ≡ with_all_named (value_names u) locals
value_locals u locals = go u.crowd
  where
    go : (crowd : Option Crowd) → value_named_by crowd u locals ≡ with_all_named (value_names_by crowd u) locals
    go None = refl
    go (Some c) =
        let law : UnitsNameTheirLocals = units_name_their_locals in law.leaves u.tokens (drop c.extent.leaves u.gathering.leaves) locals

crowded_locals : (context : Context) (n : Note) (w : Compilation) (crowded : Bool) → (noted_of context n w).locals ≡ w.locals
    → (if crowded then value_noted context n w else noted_of context n w).locals
    ≡ with_all_named (if crowded then value_names (crowd_told context (crowd_opened (noted_of context n w))).unit else []) w.locals
crowded_locals context n w true same =
    let v = crowd_told context (crowd_opened (noted_of context n w)) in
    value_locals v.unit v.locals ∙ ap (with_all_named (value_names v.unit)) same
crowded_locals context n w false same = same

noted_locals : (limits : Limits) (context : Context) (n : Note) (w : Compilation) → not (ends_token n) ≡ true
    → (noted limits context n w).locals ≡ with_all_named (noted_names limits context n w) w.locals
noted_locals limits context Note.PrintText w inner =
    of_both (λ (v : Compilation). v.locals ≡ w.locals) (is_crowded limits w) (record w { unit = text_passed w.unit })
    (noted_of context Note.PrintText w) (λ _. refl) (λ _. refl)
noted_locals limits context Note.Arrow w inner =
    of_both (λ (v : Compilation). v.locals ≡ w.locals) (is_tall context w) (record w { unit = last_passed w.unit })
    (noted_of context Note.Arrow w) (λ _. refl) (λ _. refl)
noted_locals limits context Note.OuterEnd w inner = go (is_full w.unit)
  where
    go : (b : Bool) → (if b then operands_named w else noted_of context Note.OuterEnd w).locals
        ≡ with_all_named (if b then leaves_names w.unit.tokens w.unit.gathering.leaves else []) w.locals
    go true = let law : UnitsNameTheirLocals = units_name_their_locals in law.leaves w.unit.tokens w.unit.gathering.leaves w.locals
    go false = refl
noted_locals limits context Note.LineToken w inner = absurd (never inner)
noted_locals limits context Note.PrintValue w inner = crowded_locals context Note.PrintValue w (is_crowded limits w) refl
noted_locals limits context Note.PrintRuled w inner = crowded_locals context Note.PrintRuled w (is_crowded limits w) refl
noted_locals limits context Note.Set w inner = crowded_locals context Note.Set w (is_crowded limits w) refl
noted_locals limits context Note.Clear w inner = crowded_locals context Note.Clear w (is_crowded limits w) refl
noted_locals limits context Note.VerbWord w inner =
    of_both (λ (v : Compilation). v.locals ≡ w.locals) (is_wordy context w) (word_sifted w) (noted_of context Note.VerbWord w) (λ _. refl)
    (λ _. refl)
noted_locals limits context Note.OuterSure w inner = noted_of_locals context Note.OuterSure w
noted_locals limits context Note.OuterWord w inner = noted_of_locals context Note.OuterWord w
noted_locals limits context _ w inner = refl

-- Lemmas about the end of a unit

effect_locals : (limits : Limits) (context : Context) (p : Part) (trees : List Rooted) (w : Compilation)
    → (part_effect limits context p trees w).locals ≡ w.locals
unfolding part_effect
effect_locals limits context (Part.Statement s) trees w = refl
effect_locals limits context other trees w = refl

carried_locals : (limits : Limits) (context : Context) (first : Place) (p : Part) (f : Option Finding) (w : Compilation)
    → (part_carried limits context first p f w).locals ≡ w.locals
carried_locals limits context first p (Some f) w = refl
carried_locals limits context first p None w =
    let s = settled_of limits context w in
    effect_locals limits context p (trees_at (order_of p w) (wanted_of p) s.operands w)
    (record w { output = record s.out { first = first } })

unit_locals : (w : Compilation) → (named w).locals ≡ with_all_named (names_of w.unit) w.locals
unit_locals w = let law : UnitsNameTheirLocals = units_name_their_locals in ap (λ (v : Compilation). v.locals) (law.units w)

begun_locals : (limits : Limits) (p : Part) (w : Compilation)
    → (named (part_begun limits p w)).locals ≡ with_all_named (names_of w.unit) w.locals
begun_locals limits Part.Case w = unit_locals (part_begun limits Part.Case w)
begun_locals limits _ w = unit_locals w

actions_locals : (b : Bool) (w : Compilation) → (actions_named b w).locals ≡ w.locals
actions_locals true w = refl
actions_locals false w = refl

abbrev ready_of : Limits → Part → Compilation → Compilation
ready_of limits p w = case_prepared limits p (part_prepared w)

ready_locals : (limits : Limits) (p : Part) (w : Compilation) → (ready_of limits p w).locals ≡ w.locals
ready_locals limits Part.Case w =
    let begun = constructs_laid (cases_begun limits w.constructs) (part_prepared w) in actions_locals (are_own begun.constructs) begun
ready_locals limits _ w = refl

part_locals : (limits : Limits) (context : Context) (place : Place) (p : Part) (w : Compilation)
    → (part_ended limits context place p w).locals ≡ with_all_named (part_names limits w (Some p)) w.locals
part_locals limits context place p w = go w.is_replaced
  where
    go : (b : Bool) → (if b then passed (has_last p) w
        else part_finished limits context (place_of p place (ready_of limits p w)) p (ready_of limits p w)).locals
        ≡ with_all_named (if b then [] else names_of (ready_of limits p w).unit) w.locals
    go true = refl
    go false =
        let ready = ready_of limits p w in
        carried_locals limits context (place_of p place ready) p (found_in limits context p ready) (named (part_begun limits p ready))
        ∙ begun_locals limits p ready
        ∙ ap (with_all_named (names_of ready.unit)) (ready_locals limits p w)

ended_locals : (limits : Limits) (context : Context) (place : Place) (e : Ending) (w : Compilation) → ends_part e ≡ true
    → (ended limits context place e w).locals ≡ with_all_named (part_names limits w (part_of e w)) w.locals
ended_locals limits context place Ending.Statement w inner = part_locals limits context place (Part.Statement (statement_at w)) w
ended_locals limits context place Ending.Condition w inner = part_locals limits context place Part.Condition w
ended_locals limits context place Ending.Start w inner = part_locals limits context place Part.Start w
ended_locals limits context place Ending.Step w inner = part_locals limits context place Part.Step w
ended_locals limits context place Ending.Loop w inner = part_locals limits context place Part.Loop w
ended_locals limits context place Ending.Switched w inner = part_locals limits context place Part.Switched w
ended_locals limits context place Ending.Case w inner = part_locals limits context place Part.Case w
ended_locals limits context place _ w inner = absurd (never inner)

-- An action acts.

played_locals : (limits : Limits) (context : Context) (place : Place) (r : Role) (w : Compilation) → is_inner r ≡ true
    → (played limits context place r w).locals ≡ with_all_named (played_names limits context r w) w.locals
played_locals limits context place (Role.Note n) w inner = noted_locals limits context n w inner
played_locals limits context place (Role.End e) w inner = ended_locals limits context place e w inner
played_locals limits context place (Role.Open o) w inner = nested_locals context (last_place w.unit.tokens place) (is_deep w 1) w
played_locals limits context place Role.Close w inner =
    of_both (λ (v : Compilation). v.locals ≡ w.locals) (nat_lt 0 w.closed) (record w { closed = w.closed - 1 }) (construct_ended limits w)
    (λ _. refl) (λ _. refl)
played_locals limits context place Role.Deeper w inner = nested_locals context place (is_deep w 1) w
played_locals limits context place other w inner = refl

-- Lemmas about happenings, one by one

run_locals : (limits : Limits) (context : Context) (happenings : List Happening) (w : Compilation) → AreInner happenings
    → (run limits context happenings w).locals ≡ with_units (names_in limits context happenings w) w.locals
run_locals limits context [] w inner = refl
run_locals limits context (Acts at a ∷ happenings) w inner =
    run_locals limits context happenings (happens limits context (Acts at a) w) inner.1
    ∙ ap (with_units (names_in limits context happenings (happens limits context (Acts at a) w)))
    (played_locals limits context at.place (role_of a) w inner.0)
run_locals limits context (Takes t m ∷ happenings) w inner =
    run_locals limits context happenings (happens limits context (Takes t m) w) inner
    ∙ ap (with_units (names_in limits context happenings (happens limits context (Takes t m) w))) (took_locals context t w)

-- Lemmas about the end of a routine

pub unused_are_warned : (limits : Limits) → UnusedAreWarned limits
unused_are_warned limits context place happenings w new inner kept =
    let v = run limits context happenings w in
    let units = names_in limits context happenings w in
    let c = cases_ended limits v in
    let told = with_routine_fault context place c.labels (fault_closed limits (kind_ended c.is_embedded) c.output.code) c.report in
    let after = close_open limits context place v in
    let same : act limits context place Action.EndRoutine v ≡ after = ap (λ b. if b then passed true v else after) kept in
    ap (λ (x : Compilation). x.report) same
    ∙ ap (λ ls. with_full context.names place (full limits after.output) (with_all_unused context place ls told))
    (run_locals limits context happenings w inner)
    ∙ ap (with_full context.names place (full limits after.output)) (unused_are_told context place units w.locals told new)
    ∙ ap (λ (x : Compilation). with_full context.names place (full limits x.output)
    (with_warnings context place (unused units w.locals) told)) (sym same)

-- Lemmas about headers

locals_stay : (limits : Limits) (context : Context) (place : Place) (names : List Seen) (w : Compilation)
    → (run limits context (happenings_before place (local_events names) names) w).locals ≡ w.locals
locals_stay limits context place [] w = refl
locals_stay limits context place (s ∷ []) w = took_locals context s.token w
locals_stay limits context place (s ∷ n ∷ names) w = locals_stay limits context place (n ∷ names)
    (happens limits context (Acts (plainly_at n.token.place) Action.Local) (happens limits context (Takes s.token s.behind) w))
    ∙ took_locals context s.token w

header_new : (limits : Limits) (context : Context) (first : Place) (names : List Name) (w : Compilation) → AreNew w.locals
    → AreNew w.unit.headed.locals → AreNew (header_of limits context first names w).locals
header_new limits context first [] w old new = old
header_new limits context first (name ∷ names) w old new = of_both (λ (v : Compilation). AreNew v.locals) (is_to_be_replaced name w)
    (passed true (record w { is_replaced = true; is_embedded = false; constructs = [] }))
    (header_with limits context first name w.unit.headed (record w { is_replaced = false; is_embedded = false })) (λ _. old) (λ _. new)

pub headers_make_new : (limits : Limits) → HeadersMakeNew limits
headers_make_new limits context place names w are goes_on none new =
    let v = run limits context (happenings_before place (local_events names) names) w in
    let all : List Name = map as_name (tokens_of names) in
    let headed : v.unit.headed ≡ with_locals all no_locals =
    ap (λ (u : UnitAtHand). u.headed) (headers_note_their_names limits context place names w are goes_on) ∙ ap (with_locals all) none in
    header_new limits context (first_place v.unit.tokens place) (names_of_tokens v.unit.tokens) v
    (subst AreNew (sym (locals_stay limits context place names w)) new)
    (subst (λ (h : Headed). AreNew h.locals) (sym headed) (header_is_new all))
