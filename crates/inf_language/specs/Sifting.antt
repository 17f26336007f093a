-- The unit at hand while it is read, where of the values and the words that are too many only those are kept that tell something. By them
-- locals are named, and they are judged by what is known when the reading begins.
use Rattle.std.specs.Prelude.{◌≡◌, List, [], ◌∷◌, Bool, true, false, nat_lt, not, if◌then◌else◌, ⊤}
use Rattle.inf_settings.specs.{Bounds.Limits, Settings.number_of, declared.setting.Setting.Setting, declared.settings.Settings.Settings}
use Rattle.inf_names.specs.Locals.{Local}
use Rattle.inf_output.specs.Output.{Out}
use Rattle.inf_scanner.specs.declared.tokens.Place.{Place}
use Rattle.inf_machine.specs.Grammar.{Event, Took, Did}
use Rattle.inf_syntax.specs.declared.actions.Action.{Action}
use Rattle.inf_unit.specs.{Roles.role_of, Tokens.SourceToken, declared.roles.Note.Note, declared.roles.Role.Role}
use Rattle.inf_unit.specs.Units.{Unit, acted, crowd_begun, last_leaf, noted, played, sifted, taken, value_sifted}
use Rattle.inf_compilation.specs.{Actions.Compilation, Context.Context, Crowds.value_brought, Crowds.value_finding, Crowds.value_named}
use Rattle.inf_verb_lines.specs.Verbs.{word_came}
use Rattle.inf_expression_laws.specs.Gathered.{read_by}
use Rattle.inf_statement_laws.specs.{Laid.run, Readings.Seen}
use Rattle.inf_language.specs.Texts.{happenings_before, tokens_of}

-- the unit at hand, and the locals of its routine
abbrev pub Read : Type 0
Read = Unit × List Local

abbrev pub read_of : Compilation → Read
read_of w = (w.unit, w.locals)

-- A note that drops nothing.
abbrev pub noted_whole : Note → Read → Read
noted_whole n r = (noted n r.0, r.1)

-- A value ends of a unit that has more than code may have bytes for: it names its locals, and is kept where it tells something.
abbrev pub judged_value : Unit → List Local → Read
judged_value u locals = (value_sifted (value_finding u) u, value_named u locals)

abbrev pub value_read : Settings → Out → Read → Read
value_read settings o r = judged_value (value_brought settings r.1 o (crowd_begun r.0)) r.1

abbrev pub value_noted : Limits → Settings → Out → Note → Read → Read
value_noted limits settings o n r =
    if nat_lt (limits Setting.Code) r.0.code then value_read settings o (noted_whole n r) else noted_whole n r

-- A further word comes of a verb that has more tokens than there may be words.
abbrev pub word_read : Read → Read
word_read r = let came = word_came r.0 in (sifted came.1 true came.0, r.1)

abbrev pub word_noted : Settings → Read → Read
word_noted settings r =
    if nat_lt (number_of Setting.DictionaryEntries settings) (last_leaf r.0) then word_read r else noted_whole Note.VerbWord r

abbrev pub note_read : Limits → Settings → Out → Note → Read → Read
note_read limits settings o Note.PrintValue r = value_noted limits settings o Note.PrintValue r
note_read limits settings o Note.PrintRuled r = value_noted limits settings o Note.PrintRuled r
note_read limits settings o Note.Set r = value_noted limits settings o Note.Set r
note_read limits settings o Note.Clear r = value_noted limits settings o Note.Clear r
note_read limits settings o Note.VerbWord r = word_noted settings r
note_read limits settings o n r = noted_whole n r

abbrev pub role_read : Limits → Settings → Out → Role → Read → Read
role_read limits settings o (Role.Note n) r = note_read limits settings o n r
role_read limits settings o p r = (played p r.0, r.1)

abbrev pub action_read : Limits → Settings → Out → Action → Read → Read
action_read limits settings o a r = role_read limits settings o (role_of a) r

-- the unit and the locals once tokens were taken and actions carried out, one behind the other, with what is laid before each: at first `o`,
-- and behind a token what conditional directives that end there make of it
abbrev pub sifted_by : Limits → Settings → Out → List (Event Action) → List Seen → Read → Read
sifted_by limits settings o [] seen r = r
sifted_by limits settings o (Did a ∷ events) seen r = sifted_by limits settings o events seen (action_read limits settings o a r)
sifted_by limits settings o (Took atom ∷ events) [] r = r
sifted_by limits settings o (Took atom ∷ events) (s ∷ seen) r =
    sifted_by limits settings (s.behind.output o) events seen (taken s.token r.0, r.1)

-- Whether a note keeps what comes, or drops some of it as `note_read` says. Of four notes nothing is said: a text that is printed, an arrow
-- before the name of an object, the end of an operand, and a token of a line of grammar.
abbrev pub is_kept_or_sifted : Note → Bool
is_kept_or_sifted Note.PrintText = false
is_kept_or_sifted Note.Arrow = false
is_kept_or_sifted Note.OuterEnd = false
is_kept_or_sifted Note.LineToken = false
is_kept_or_sifted _ = true

abbrev pub sifts_in : Role → Bool
sifts_in (Role.Gather s) = true
sifts_in (Role.Note n) = is_kept_or_sifted n
sifts_in _ = false

-- Tells whether all actions among some events gather steps of expressions, or make such notes.
abbrev pub AllSift : List (Event Action) → Type 0
AllSift [] = ⊤
AllSift (Did a ∷ events) = (sifts_in (role_of a) ≡ true) × AllSift events
AllSift (Took atom ∷ events) = AllSift events

-- Whether a note drops nothing of a unit: no setting is passed so far that bounds its values or its words.
abbrev pub drops_nothing : Limits → Settings → Note → Unit → Bool
drops_nothing limits settings Note.PrintValue u = not (nat_lt (limits Setting.Code) u.code)
drops_nothing limits settings Note.PrintRuled u = not (nat_lt (limits Setting.Code) u.code)
drops_nothing limits settings Note.Set u = not (nat_lt (limits Setting.Code) u.code)
drops_nothing limits settings Note.Clear u = not (nat_lt (limits Setting.Code) u.code)
drops_nothing limits settings Note.VerbWord u = not (nat_lt (number_of Setting.DictionaryEntries settings) (last_leaf u))
drops_nothing limits settings _ u = true

abbrev pub role_drops_nothing : Limits → Settings → Role → Unit → Bool
role_drops_nothing limits settings (Role.Note n) u = drops_nothing limits settings n u
role_drops_nothing limits settings _ u = true

-- Tells whether nothing is dropped of a unit while tokens are taken and actions carried out, one behind the other.
abbrev pub NothingDropped : Limits → Settings → List (Event Action) → List SourceToken → Unit → Type 0
NothingDropped limits settings [] tokens u = ⊤
NothingDropped limits settings (Did a ∷ events) tokens u =
    (role_drops_nothing limits settings (role_of a) u ≡ true) × NothingDropped limits settings events tokens (acted a u)
NothingDropped limits settings (Took atom ∷ events) [] u = ⊤
NothingDropped limits settings (Took atom ∷ events) (t ∷ tokens) u = NothingDropped limits settings events tokens (taken t u)

-- The unit and the locals in a compilation are those that the same events and tokens make of them by themselves, with what is laid before
-- them. Where nothing is dropped meanwhile, the unit is the one that they make of the unit by itself.
abbrev pub UnitsAreSiftedAlone : Limits → Type 0
UnitsAreSiftedAlone limits =
    (context : Context) (next : Place) (events : List (Event Action)) (seen : List Seen) (w : Compilation) → AllSift events
    → (read_of (run limits context (happenings_before next events seen) w)
    ≡ sifted_by limits context.settings w.output events seen (read_of w))
    × (NothingDropped limits context.settings events (tokens_of seen) w.unit
    → (run limits context (happenings_before next events seen) w).unit ≡ read_by events (tokens_of seen) w.unit)
