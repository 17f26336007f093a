-- The unit at hand and the locals of its routine, step by step: each step in a compilation changes them as it changes them by themselves.
use Rattle.std.proofs.Common.{◌≡◌, [], ◌∷◌, Bool, true, false, Option, Some, None, refl, ◌∙◌, ap, ◌&&◌, not, nat_lt, if◌then◌else◌, List}
use Rattle.inf_settings.specs.{Bounds.Limits, Settings.number_of, declared.setting.Setting.Setting, declared.settings.Settings.Settings}
use Rattle.inf_names.specs.Locals.{Local}
use Rattle.inf_output.specs.Output.{Out}
use Rattle.inf_scanner.specs.declared.tokens.Place.{Place}
use Rattle.inf_machine.specs.Grammar.{Did, Event, Took}
use Rattle.inf_syntax.specs.declared.actions.Action.{Action}
use Rattle.inf_unit.specs.{Roles.role_of, Tokens.SourceToken, declared.roles.Note.Note, declared.roles.Role.Role}
use Rattle.inf_unit.specs.Units.{Unit, acted, last_leaf, long_at, noted as unit_noted, played as unit_played, taken}
use Rattle.inf_compilation.specs.Context.{Context, longest}
use Rattle.inf_compilation.specs.Actions.{Compilation, is_deep, nested, opens, sized, stopped, took}
use Rattle.inf_reader.specs.Acting.{act, is_crowded, is_wordy, noted, noted_of, played, value_noted as valued}
use Rattle.inf_verb_lines.specs.Verbs.{word_sifted}
use Rattle.inf_expression_laws.specs.Gathered.{read_by}
use Rattle.inf_statement_laws.specs.{Happenings.Acts, Happenings.Takes, Laid.happens, Laid.run, Readings.Seen, Readings.plainly_at}
use Rattle.inf_language.specs.Texts.{happenings_before, tokens_of}
use Rattle.inf_language.specs.Sifting.{AllSift, NothingDropped, Read, UnitsAreSiftedAlone, action_read, drops_nothing, is_kept_or_sifted}
use Rattle.inf_language.specs.Sifting.{note_read, noted_whole, read_of, role_drops_nothing, role_read, sifted_by, sifts_in, value_noted}
use Rattle.inf_language.specs.Sifting.{value_read, word_read}

-- the unit, the locals and what is laid
abbrev known : Compilation → Read × Out
known w = (read_of w, w.output)

-- A token is taken.

stopped_known : (context : Context) (place : Option Place) (w : Compilation) → known (stopped context place w) ≡ known w
stopped_known context None w = refl
stopped_known context (Some place) w = refl

sized_known : (context : Context) (w : Compilation) → known (sized context w) ≡ known w
sized_known context w = stopped_known context (long_at (longest context) w.unit) w

nested_known : (context : Context) (place : Place) (is_deep : Bool) (w : Compilation) → known (nested context place is_deep w) ≡ known w
nested_known context place true w = refl
nested_known context place false w = refl

took_known : (context : Context) (t : SourceToken) (w : Compilation) → known (took context t w) ≡ ((taken t w.unit, w.locals), w.output)
took_known context t w =
    let with_token = record w { unit = taken t w.unit } in
    let v = sized context with_token in
    nested_known context t.place (opens t.kind && is_deep v 0) v ∙ sized_known context with_token

-- An action acts.

noted_of_known : (context : Context) (n : Note) (w : Compilation) → known (noted_of context n w) ≡ (noted_whole n (read_of w), w.output)
noted_of_known context Note.OuterSure w = sized_known context (record w { unit = unit_noted Note.OuterSure w.unit })
noted_of_known context Note.OuterWord w = sized_known context (record w { unit = unit_noted Note.OuterWord w.unit })
noted_of_known context _ w = refl

either_known : (b : Bool) (x : Compilation) (y : Compilation) (p : Read) (q : Read) (o : Out) → known x ≡ (p, o) → known y ≡ (q, o)
    → known (if b then x else y) ≡ ((if b then p else q), o)
either_known true x y p q o first second = first
either_known false x y p q o first second = second

value_known : (limits : Limits) (context : Context) (n : Note) (w : Compilation) → known (noted_of context n w) ≡ (noted_whole n (read_of w), w.output)
    → known (valued context n w) ≡ (value_read context.settings w.output (noted_whole n (read_of w)), w.output)
    → known (if is_crowded limits w then valued context n w else noted_of context n w)
    ≡ (value_noted limits context.settings w.output n (read_of w), w.output)
value_known limits context n w plain sifted = either_known (is_crowded limits w) (valued context n w) (noted_of context n w)
    (value_read context.settings w.output (noted_whole n (read_of w))) (noted_whole n (read_of w)) w.output sifted plain

noted_known : (limits : Limits) (context : Context) (n : Note) (w : Compilation) → is_kept_or_sifted n ≡ true
    → known (noted limits context n w) ≡ (note_read limits context.settings w.output n (read_of w), w.output)
noted_known limits context Note.PrintText w kept = cc
noted_known limits context Note.Arrow w kept = cc
noted_known limits context Note.OuterEnd w kept = cc
noted_known limits context Note.LineToken w kept = cc
noted_known limits context Note.PrintValue w kept = value_known limits context Note.PrintValue w refl refl
noted_known limits context Note.PrintRuled w kept = value_known limits context Note.PrintRuled w refl refl
noted_known limits context Note.Set w kept = value_known limits context Note.Set w refl refl
noted_known limits context Note.Clear w kept = value_known limits context Note.Clear w refl refl
noted_known limits context Note.VerbWord w kept =
    either_known (is_wordy context w) (word_sifted w) (noted_of context Note.VerbWord w) (word_read (read_of w))
    (noted_whole Note.VerbWord (read_of w)) w.output refl refl
noted_known limits context Note.OuterSure w kept = noted_of_known context Note.OuterSure w
noted_known limits context Note.OuterWord w kept = noted_of_known context Note.OuterWord w
noted_known limits context _ w kept = refl

played_known : (limits : Limits) (context : Context) (place : Place) (r : Role) (w : Compilation) → sifts_in r ≡ true
    → known (played limits context place r w) ≡ (role_read limits context.settings w.output r (read_of w), w.output)
played_known limits context place (Role.Gather s) w sifts = refl
played_known limits context place (Role.Note n) w sifts = noted_known limits context n w sifts
played_known limits context place _ w sifts = cc

act_known : (limits : Limits) (context : Context) (place : Place) (a : Action) (w : Compilation) → sifts_in (role_of a) ≡ true
    → known (act limits context place a w) ≡ (action_read limits context.settings w.output a (read_of w), w.output)
act_known limits context place a w sifts = played_known limits context place (role_of a) w sifts

-- Lemmas about the happenings one after the other

abbrev all_read : Limits → Settings → List (Event Action) → List Seen → Read × Out → Read
all_read limits settings events seen k = sifted_by limits settings k.1 events seen k.0

-- what is known behind a token, where conditional directives end
abbrev behind_known : Seen → Read × Out → Read × Out
behind_known s k = (k.0, s.behind.output k.1)

run_known : (limits : Limits) (context : Context) (next : Place) (events : List (Event Action)) (seen : List Seen) (w : Compilation)
    → AllSift events
    → read_of (run limits context (happenings_before next events seen) w)
    ≡ all_read limits context.settings events seen (known w)
run_known limits context next [] seen w sifts = refl
run_known limits context next (Did a ∷ events) [] w sifts =
    run_known limits context next events [] (happens limits context (Acts (plainly_at next) a) w) sifts.1
    ∙ ap (all_read limits context.settings events []) (act_known limits context next a w sifts.0)
run_known limits context next (Did a ∷ events) (s ∷ seen) w sifts =
    run_known limits context next events (s ∷ seen) (happens limits context (Acts (plainly_at s.token.place) a) w) sifts.1
    ∙ ap (all_read limits context.settings events (s ∷ seen)) (act_known limits context s.token.place a w sifts.0)
run_known limits context next (Took atom ∷ events) [] w sifts = refl
run_known limits context next (Took atom ∷ events) (s ∷ seen) w sifts =
    run_known limits context next events seen (happens limits context (Takes s.token s.behind) w) sifts
    ∙ ap (λ (k : Read × Out). all_read limits context.settings events seen (behind_known s k)) (took_known context s.token w)

-- Lemmas for the case that nothing is dropped

value_whole : (b : Bool) (p : Read) (q : Read) → not b ≡ true → (if b then p else q) ≡ q
value_whole true p q kept = cc
value_whole false p q kept = refl

note_whole : (limits : Limits) (settings : Settings) (o : Out) (n : Note) (r : Read) → drops_nothing limits settings n r.0 ≡ true
    → note_read limits settings o n r ≡ noted_whole n r
note_whole limits settings o Note.PrintValue r kept =
    value_whole (nat_lt (limits Setting.Code) r.0.code) (value_read settings o (noted_whole Note.PrintValue r))
    (noted_whole Note.PrintValue r) kept
note_whole limits settings o Note.PrintRuled r kept =
    value_whole (nat_lt (limits Setting.Code) r.0.code) (value_read settings o (noted_whole Note.PrintRuled r))
    (noted_whole Note.PrintRuled r) kept
note_whole limits settings o Note.Set r kept =
    value_whole (nat_lt (limits Setting.Code) r.0.code) (value_read settings o (noted_whole Note.Set r)) (noted_whole Note.Set r) kept
note_whole limits settings o Note.Clear r kept =
    value_whole (nat_lt (limits Setting.Code) r.0.code) (value_read settings o (noted_whole Note.Clear r)) (noted_whole Note.Clear r) kept
note_whole limits settings o Note.VerbWord r kept =
    value_whole (nat_lt (number_of Setting.DictionaryEntries settings) (last_leaf r.0)) (word_read r) (noted_whole Note.VerbWord r) kept
note_whole limits settings o _ r kept = refl

role_whole : (limits : Limits) (settings : Settings) (o : Out) (p : Role) (r : Read) → role_drops_nothing limits settings p r.0 ≡ true
    → role_read limits settings o p r ≡ (unit_played p r.0, r.1)
role_whole limits settings o (Role.Note n) r kept = note_whole limits settings o n r kept
role_whole limits settings o _ r kept = refl

all_whole : (limits : Limits) (settings : Settings) (o : Out) (events : List (Event Action)) (seen : List Seen) (u : Unit)
    (locals : List Local) → NothingDropped limits settings events (tokens_of seen) u
    → sifted_by limits settings o events seen (u, locals) ≡ (read_by events (tokens_of seen) u, locals)
all_whole limits settings o [] seen u locals kept = refl
all_whole limits settings o (Did a ∷ events) seen u locals kept =
    ap (sifted_by limits settings o events seen) (role_whole limits settings o (role_of a) (u, locals) kept.0)
    ∙ all_whole limits settings o events seen (acted a u) locals kept.1
all_whole limits settings o (Took atom ∷ events) [] u locals kept = refl
all_whole limits settings o (Took atom ∷ events) (s ∷ seen) u locals kept =
    all_whole limits settings (s.behind.output o) events seen (taken s.token u) locals kept

abbrev unit_in : Read → Unit
unit_in r = r.0

pub units_are_sifted_alone : (limits : Limits) → UnitsAreSiftedAlone limits
units_are_sifted_alone limits context next events seen w sifts =
    let is = run_known limits context next events seen w sifts in
    (is, λ kept. ap unit_in (is ∙ all_whole limits context.settings w.output events seen w.unit w.locals kept))
