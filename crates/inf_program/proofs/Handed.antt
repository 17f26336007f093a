-- Messages grow where the tokens that conditionals hand on are read, with the messages about conditions and conditional directives.
use Rattle.std.proofs.Common.{◌≡◌, ℕ, List, Bool, Option, Some, None, refl, ◌∙◌, ap, ◌&&◌, max}
use Rattle.inf_settings.specs.{Bounds.Limits, declared.setting.Setting.Setting}
use Rattle.inf_scanner.specs.{declared.tokens.Place.Place, declared.tokens.TokenKind.TokenKind}
use Rattle.inf_grammar.specs.Routines.{closings}
use Rattle.inf_code.specs.Code.{labels}
use Rattle.inf_output.specs.Output.{begun, full}
use Rattle.inf_report.specs.Messages.{DeepNesting, Exceeded, LoneConditional}
use Rattle.inf_unit.specs.{Messages.FileNames, Messages.location, Messages.with_full, Tokens.SourceToken}
use Rattle.inf_compilation.specs.{Actions.Compilation, Actions.begun_at, Actions.is_class, Context.Context, Nesting.closed_ahead}
use Rattle.inf_conditionals.specs.{Ends.with_lone, Judging.judged, Open.Conditions, declared.filtered.Filtered.Filtered}
use Rattle.inf_conditionals.specs.{declared.filtered.Forwarded.Forwarded, declared.filtered.Sign.Sign}
use Rattle.inf_conditionals.specs.Said.{Deep, Long, Right, Said, Wrong, with_right, with_said}
use Rattle.inf_reader.specs.{Reading.ReaderState, declared.recovery.Recovery.Recovery}
use Rattle.inf_reader.specs.Handing.{handed_as, hash, judged_taken, lone_told, said_told, sign_taken, site_of, token_taken, unfit_in}
use Rattle.inf_reader.specs.Handing.{unit_ended}
use Rattle.inf_session.specs.Taking.{Taken, token_at, token_taken as all_taken}
use Rattle.inf_message_laws.specs.Growing.{Grows}
use Rattle.inf_message_laws.proofs.Told.{Adds, Stays, error_adds, fatal_adds, full_adds, nothing_adds, then_grows, told_grows, with_grows}
use Rattle.inf_program.proofs.Readers.{bad_reads, state_behind, step_reads}

-- A step of a reading does not depend on lines that were reported before, and leaves them unchanged before its own.
pub record Leads (f : ReaderState → ReaderState) : Type 0 where
  pub leads : (lines : List ℕ) (s : ReaderState) → f (state_behind lines s) ≡ state_behind lines (f s)

nothing_lead : Leads (λ s. s)
nothing_lead = record { leads = λ lines s. refl }

then_lead : (f g : ReaderState → ReaderState) → Leads f → Leads g → Leads (λ s. g (f s))
then_lead f g first second = record { leads = λ lines s. ap g (first.leads lines s) ∙ second.leads lines (f s) }

-- a step of the compilation alone
work_lead : (g : Compilation → Compilation) → Grows g → Leads (λ s. record s { work = g s.work })
work_lead g grow = record { leads = λ lines s. ap (λ (w : Compilation). record s { work = w }) (grow.grows lines s.work) }

-- Lemmas about tokens that are handed on

unfit_lead : (limits : Limits) (m : Recovery) (context : Context) (t : SourceToken) → Leads (unfit_in limits m context t)
unfit_lead limits Recovery.Reads context t = record { leads = λ lines s. (bad_reads limits context t s.reading).reads lines s.work }
unfit_lead limits _ context t = record { leads = λ lines s. (step_reads limits context t s.reading).reads lines s.work }

handed_lead : (limits : Limits) (h : Forwarded) (context : Context) (t : SourceToken) → Leads (handed_as limits h context t)
handed_lead limits Forwarded.Kept context t = record { leads = λ lines s. (step_reads limits context t s.reading).reads lines s.work }
handed_lead limits Forwarded.Unfit context t = record { leads = λ lines s. (unfit_lead limits s.reading.mode context t).leads lines s }
handed_lead limits Forwarded.Condition context t = nothing_lead

sign_lead : (limits : Limits) (sign : Option Sign) (context : Context) → Leads (sign_taken limits sign context)
sign_lead limits None context = nothing_lead
sign_lead limits (Some sign) context = handed_lead limits sign.handed context (hash sign.place)

token_lead : (limits : Limits) (h : Option Forwarded) (context : Context) (t : SourceToken) → Leads (token_taken limits h context t)
token_lead limits None context t = nothing_lead
token_lead limits (Some h) context t = handed_lead limits h context t

-- Lemmas about messages about conditionals

said_adds : (files : FileNames) (said : Option Said) → Adds (with_said files said)
said_adds files None = nothing_adds
said_adds files (Some (Right tokens leaves)) = nothing_adds
said_adds files (Some (Wrong directive b)) = error_adds (location files b.place) (location files directive) b.message
said_adds files (Some (Long place)) = fatal_adds (location files place) (Exceeded Setting.ExpressionNodes)
said_adds files (Some (Deep place)) = fatal_adds (location files place) DeepNesting

-- the actions of a condition appear
abbrev appeared : Limits → Option Said → Compilation → Compilation
appeared limits said w = record w { output = with_right limits said w.output }

appeared_grows : (limits : Limits) (said : Option Said) → Grows (appeared limits said)
appeared_grows limits said = record { grows = λ lines w. refl }

-- the compilation with the message about a condition
abbrev said_in : Limits → Option Said → Context → Compilation → Compilation
said_in limits said context w =
    record w { report = with_said context.names said w.report; output = with_right limits said w.output }

said_in_grows : (limits : Limits) (said : Option Said) (context : Context) → Grows (said_in limits said context)
said_in_grows limits said context =
    then_grows (λ (w : Compilation). record w { report = with_said context.names said w.report }) (appeared limits said)
    (told_grows (with_said context.names said) (said_adds context.names said)) (appeared_grows limits said)

said_lead : (limits : Limits) (said : Option Said) (context : Context) → Leads (said_told limits said context)
said_lead limits said context = work_lead (said_in limits said context) (said_in_grows limits said context)

pub lone_adds : (files : FileNames) (place : Place) → Adds (with_lone files place)
lone_adds files place = error_adds (location files place) (location files place) LoneConditional

lone_lead : (place : Option Place) (context : Context) → Leads (lone_told place context)
lone_lead None context = nothing_lead
lone_lead (Some place) context = work_lead (λ (w : Compilation). record w { report = with_lone context.names place w.report })
    (told_grows (with_lone context.names place) (lone_adds context.names place))

-- Lemmas about ends of conditional directives

ahead_grows : (limits : Limits) (count : ℕ) → Grows (closed_ahead limits count)
ahead_grows limits count = record { grows = λ lines w. refl }

-- code begins
abbrev with_code : Limits → Compilation → Compilation
with_code limits w = record w { output = begun limits w.output; most_labels = max w.most_labels (labels (begun limits w.output).code) }

with_code_grows : (limits : Limits) → Grows (with_code limits)
with_code_grows limits = record { grows = λ lines w. refl }

-- the first setting that was passed is reported
abbrev full_told : FileNames → Place → Option Setting → Compilation → Compilation
full_told files place limit w = record w { report = with_full files place limit w.report }

full_told_grows : (files : FileNames) (place : Place) (limit : Option Setting) → Grows (full_told files place limit)
full_told_grows files place limit = told_grows (with_full files place limit) (full_adds files place limit)

pub begun_at_grows : (limits : Limits) (files : FileNames) (place : Place) → Grows (begun_at limits files place)
begun_at_grows limits files place =
    then_grows (with_code limits) (λ (w : Compilation). full_told files place (full limits w.output) w) (with_code_grows limits)
    (with_grows (λ (w : Compilation). full limits w.output) (full_told files place) (λ lines w. refl)
    (full_told_grows files place))

-- a conditional directive ends, where as many statements are closed ahead
abbrev ended_at : Limits → FileNames → Place → ℕ → Compilation → Compilation
ended_at limits files place count w = begun_at limits files place (closed_ahead limits count w)

ended_at_grows : (limits : Limits) (files : FileNames) (place : Place) (count : ℕ) → Grows (ended_at limits files place count)
ended_at_grows limits files place count = then_grows (closed_ahead limits count) (begun_at limits files place) (ahead_grows limits count)
    (begun_at_grows limits files place)

ended_lead : (limits : Limits) (place : Option Place) (context : Context) → Leads (unit_ended limits place context)
ended_lead limits None context = nothing_lead
ended_lead limits (Some place) context = record {
  leads = λ lines s. ap (λ (w : Compilation). record s { work = w })
      ((ended_at_grows limits context.names place (closings s.reading.stack)).grows lines s.work);
}

-- Lemmas about tokens among conditionals

pub judged_lead : (limits : Limits) (context : Context) (t : SourceToken) (j : Filtered) → Leads (judged_taken limits context t j)
judged_lead limits context t j = then_lead
    (λ (s : ReaderState). lone_told j.unmatched context (token_taken limits j.token context t (sign_taken limits j.sign context s)))
    (unit_ended limits j.ended context)
    (then_lead (λ (s : ReaderState). token_taken limits j.token context t (sign_taken limits j.sign context s))
    (lone_told j.unmatched context)
    (then_lead (sign_taken limits j.sign context) (token_taken limits j.token context t) (sign_lead limits j.sign context)
    (token_lead limits j.token context t))
    (lone_lead j.unmatched context))
    (ended_lead limits j.ended context)

-- the reading behind a token, by its judgement
abbrev read_by : Limits → Context → SourceToken → Option Said → Filtered → ReaderState → ReaderState
read_by limits context t said j s = judged_taken limits context t j (said_told limits said context s)

read_by_lead : (limits : Limits) (context : Context) (t : SourceToken) (said : Option Said) (j : Filtered)
    → Leads (read_by limits context t said j)
read_by_lead limits context t said j =
    then_lead (said_told limits said context) (judged_taken limits context t j) (said_lead limits said context)
    (judged_lead limits context t j)

-- the state behind a token, with lines before those of its compilation
abbrev pub taken_behind : List ℕ → Taken → Taken
taken_behind lines n = record n { stand = state_behind lines n.stand }

pub taken_lead : (limits : Limits) (context : Context) (t : SourceToken) (c : Conditions) (quoted : ℕ) (lines : List ℕ) (s : ReaderState)
    → all_taken limits context t c (state_behind lines s) quoted ≡ taken_behind lines (all_taken limits context t c s quoted)
taken_lead limits context t c quoted lines s =
    let b = judged (site_of context.settings s.reading) s.work.output t c in
    let n = all_taken limits context t c s quoted in
    ap (λ (x : ReaderState). record n { stand = x }) ((read_by_lead limits context t b.now.said b.judged).leads lines s)

-- The token that comes does not depend on what was reported.

class_stays : (k : TokenKind) (bytes : List ℕ) → Stays (is_class k bytes)
class_stays TokenKind.Name bytes lines w = refl
class_stays _ bytes lines w = refl

pub token_stays : (is_between : Bool) (k : TokenKind) (bytes : List ℕ) (place : Place) → Stays (token_at is_between k bytes place)
token_stays is_between k bytes place lines w =
    let t = token_at is_between k bytes place w in
    ap (λ (b : Bool). record t { is_class = is_between && b }) (class_stays k bytes lines w)
