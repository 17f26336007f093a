-- Turns of a reading, token by token, as walks; they and the supplied routines behind a reading keep counts.
use Rattle.std.specs.Prelude.{if◌then◌else◌, is_some, reverse}
use Rattle.std.proofs.Common.{Bool, List, None, Option, Some, [], ap, false, refl, subst, sym, true, ℕ, ◌∙◌, ◌∷◌, ◌≡◌, ◌≤◌}
use Rattle.inf_scanner.specs.declared.tokens.Place.{Place}
use Rattle.inf_gathering.specs.declared.gathering.Leaf.{Leaf}
use Rattle.inf_settings.specs.{Bounds.Limits, Settings.number_of, declared.setting.Setting.Setting}
use Rattle.inf_devices.specs.Files.{Sources}
use Rattle.inf_names.specs.Spellings.{Name}
use Rattle.inf_output.specs.Output.{Out}
use Rattle.inf_machine.specs.{Machine.fits, Machine.taken, declared.symbols.Symbol.Symbol}
use Rattle.inf_syntax.specs.declared.actions.Action.{Action}
use Rattle.inf_grammar.specs.{Language.grammar, Language.known, Routines.closings}
use Rattle.inf_report.specs.declared.messages.Kind.{Kind}
use Rattle.inf_report.specs.Messages.{DeepNesting, Exceeded, Location, LoneConditional, Message, NoInclude, TooManyFiles, kind_of}
use Rattle.inf_unit.specs.{Directives.Include, Directives.Nothing, Directives.Request, Messages.FileNames, Messages.location}
use Rattle.inf_unit.specs.{Messages.with_fatal, Tokens.SourceToken, Tokens.atom_of, Tokens.is_end, Units.name_at}
use Rattle.inf_compilation.specs.{Actions.Compilation, Actions.piece_begun as work_begun, Context.Context, Nesting.closed_ahead}
use Rattle.inf_sources.specs.{declared.open_file.Conditional.Conditional, declared.open_files.Included.Included}
use Rattle.inf_sources.specs.Inclusions.{Inclusion, Opens, OpensNone, Waiting, inclusion}
use Rattle.inf_conditionals.specs.{Ends.file_told, Ends.piece_told, Ends.with_all_lone, Ends.with_lone, Judging.Behind, Judging.judged}
use Rattle.inf_conditionals.specs.{Open.Conditions, Operands.action_added, Operands.actions_added, Operands.appeared_by, Said.Deep}
use Rattle.inf_conditionals.specs.{Said.Long, Said.Right, Said.Said, Said.Wrong, Said.with_said, declared.filtered.Filtered.Filtered}
use Rattle.inf_conditionals.specs.{declared.filtered.Forwarded.Forwarded, declared.filtered.Sign.Sign, declared.filtered.Site.Site}
use Rattle.inf_reader.specs.{Acting.all_acted, Acting.cut_at, Tests.complaint_of, declared.recovery.Recovery.Recovery}
use Rattle.inf_reader.specs.Handing.{handed_as, hash, judged_taken, lone_told, said_told, sign_taken, site_of, token_taken, unfit_in}
use Rattle.inf_reader.specs.Handing.{unit_ended}
use Rattle.inf_reader.specs.Reading.{ReaderState, Reading, bad, is_mode_ended, judged as token_judged, piece_begun, read_at, step, step_in}
use Rattle.inf_reader.specs.Reading.{took, with_complaint, with_complaint_of}
use Rattle.inf_session.specs.Choices.{Choices}
use Rattle.inf_session.specs.Session.{State, answered, asked_nothing, carried_out, context_of, file_closed, followed, has_ended}
use Rattle.inf_session.specs.Session.{included_by, is_resting, left, left_by, none_included, piece_closed, rested, stand_of, stepped}
use Rattle.inf_session.specs.Session.{token_of, turn}
use Rattle.inf_step_walk.specs.Walking.{Acts, Asks, Follows, Grown, Nowhere, Remains, Rests, Runs, Settles, Stays, Tells, Then, free}
use Rattle.inf_step_walk.proofs.{Actions.all_acted_steps, Actions.cut_at_steps, Actions.took_steps, Operands.action_grows}
use Rattle.inf_message_laws.proofs.Told.{error_adds, fatal_adds, remains}
use Rattle.inf_limit_laws.specs.Within.{Ends, Lays, Steps, is_over, unfollowed}
use Rattle.inf_limit_laws.proofs.Walked.{ahead_lays, counted, ran}
use Rattle.inf_limit_laws.proofs.Conditions.{AreTame, NoneRight, Same, is_loud, is_right, loud_is_over, right_ends, stacks_are_tame}
use Rattle.inf_limit_laws.proofs.Conditions.{tokens_are_few}
use Rattle.inf_limit_laws.proofs.Ways.{begun_ends, lay_of, lays_end, step_of, steps_then}

-- Lemmas about messages about tokens and conditionals

complaint_stays : (k : Kind) (at : Location) (m : Message) → Remains (with_complaint_of k at m)
complaint_stays Kind.Fatal at m = remains (fatal_adds at m)
complaint_stays Kind.Error at m = remains (error_adds at at m)
complaint_stays Kind.Warning at m = remains (error_adds at at m)

with_complaint_stays : (at : Location) (m : Message) → Remains (with_complaint at m)
with_complaint_stays at m = complaint_stays (kind_of m) at m

lone_stays : (files : FileNames) (place : Place) → Remains (with_lone files place)
lone_stays files place = remains (error_adds (location files place) (location files place) LoneConditional)

all_lone_stay : (files : FileNames) (conditionals : List Conditional) → Remains (with_all_lone files conditionals)
all_lone_stay files [] r free = free
all_lone_stay files (c ∷ conditionals) r free =
    lone_stays files c.place r (all_lone_stay files conditionals (with_lone files c.place r) free)

piece_stays : (files : FileNames) (c : Conditions) → Remains (piece_told files c)
piece_stays files c = all_lone_stay files (reverse c.inner)

file_stays : (files : FileNames) (c : Conditions) → Remains (file_told files c)
file_stays files c r free = piece_stays files c r (all_lone_stay files (reverse c.among) (piece_told files c r) free)

pub said_stays : (files : FileNames) (said : Option Said) → Remains (with_said files said)
said_stays files (Some (Wrong directive b)) r free =
    remains (error_adds (location files b.place) (location files directive) b.message) r free
said_stays files (Some (Long place)) r free = remains (fatal_adds (location files place) (Exceeded Setting.ExpressionNodes)) r free
said_stays files (Some (Deep place)) r free = remains (fatal_adds (location files place) DeepNesting) r free
said_stays files other r free = free

module _ {limits : Limits} {context : Context} where
  -- Lemmas about tokens that the grammar gets

  bad_walks : (t : SourceToken) (r : Reading) (w : Compilation) → Runs limits context w (bad limits context t r w).work
  bad_walks t r w =
      let c = cut_at limits context t.place w in
      Then (Acts (cut_at_steps t.place w w.report))
      (Tells (with_complaint (location context.names t.place) (complaint_of t))
      (with_complaint_stays (location context.names t.place) (complaint_of t)))

  took_token_walks : (t : SourceToken) (r : Reading) (w : Compilation) → Runs limits context w (took limits context t r w).work
  took_token_walks t r w =
      let n = taken grammar known (atom_of t) r.stack in
      let v = all_acted limits context t.place n.actions w in
      Then (Acts (all_acted_steps (λ e. tt) t.place n.actions w w.report)) (Acts (took_steps t v v.report))

  -- one of two states
  either_walks : (b : Bool) (w : Compilation) (x y : ReaderState) → Runs limits context w x.work → Runs limits context w y.work
      → Runs limits context w (if b then x else y).work
  either_walks true w x y f g = f
  either_walks false w x y f g = g

  judged_walks : (t : SourceToken) (r : Reading) (w : Compilation) → Runs limits context w (token_judged limits context t r w).work
  judged_walks t r w = either_walks (fits grammar known (atom_of t) r.stack) w (took limits context t r w) (bad limits context t r w)
      (took_token_walks t r w) (bad_walks t r w)

  -- a piece begins
  piece_walks : (w : Compilation) → Runs limits context w (work_begun w)
  piece_walks w = Acts (Rests (λ u h. tt) refl)

  at_walks : (t : SourceToken) (stack : List (Symbol Action)) (r : Reading)
      (w : Compilation) → Runs limits context w (read_at limits context t stack r w).work
  at_walks t [] r w = either_walks (is_end t.kind) w (record { reading = record r { mode = Recovery.Ended }; work = w })
      (token_judged limits context t (piece_begun r) (work_begun w)) Nowhere
      (Then (piece_walks w) (judged_walks t (piece_begun r) (work_begun w)))
  at_walks t (symbol ∷ symbols) r w = judged_walks t r w

  in_walks : (m : Recovery) (t : SourceToken) (r : Reading) (w : Compilation) → Runs limits context w (step_in limits m context t r w).work
  in_walks Recovery.Reads t r w = at_walks t r.stack r w
  in_walks mode t r w = Nowhere

  token_walks : (t : SourceToken) (r : Reading) (w : Compilation) → Runs limits context w (step limits context t r w).work
  token_walks t r w = in_walks r.mode t r w

  unfit_walks : (m : Recovery) (t : SourceToken) (s : ReaderState) → Runs limits context s.work (unfit_in limits m context t s).work
  unfit_walks Recovery.Reads t s = bad_walks t s.reading s.work
  unfit_walks mode t s = token_walks t s.reading s.work

  handed_walks : (h : Forwarded) (t : SourceToken) (s : ReaderState) → Runs limits context s.work (handed_as limits h context t s).work
  handed_walks Forwarded.Kept t s = token_walks t s.reading s.work
  handed_walks Forwarded.Unfit t s = unfit_walks s.reading.mode t s
  handed_walks Forwarded.Condition t s = Nowhere

  sign_walks : (sign : Option Sign) (s : ReaderState) → Runs limits context s.work (sign_taken limits sign context s).work
  sign_walks None s = Nowhere
  sign_walks (Some sign) s = handed_walks sign.handed (hash sign.place) s

  given_walks : (h : Option Forwarded) (t : SourceToken) (s : ReaderState)
      → Runs limits context s.work (token_taken limits h context t s).work
  given_walks None t s = Nowhere
  given_walks (Some h) t s = handed_walks h t s

  lone_walks : (place : Option Place) (s : ReaderState) → Runs limits context s.work (lone_told place context s).work
  lone_walks None s = Nowhere
  lone_walks (Some place) s = Tells (with_lone context.names place) (lone_stays context.names place)

  pub ended_walks : (place : Option Place) (s : ReaderState) → Runs limits context s.work (unit_ended limits place context s).work
  ended_walks None s = Nowhere
  ended_walks (Some place) s = Settles (closings s.reading.stack) context.names place

  -- the tokens of a turn, up to the end of a conditional directive
  pub between_walks : (t : SourceToken) (j : Filtered) (s : ReaderState) → Runs limits context s.work
      (lone_told j.unmatched context (token_taken limits j.token context t (sign_taken limits j.sign context s))).work
  between_walks t j s =
      let first = sign_taken limits j.sign context s in
      let second = token_taken limits j.token context t first in
      Then (sign_walks j.sign s) (Then (given_walks j.token t first) (lone_walks j.unmatched second))

-- Turns lead from a state to another one, where the conditionals tell the same, count the same tokens, and read the same conditions.
pub record Goes (limits : Limits) (context : Context) (s t : State) : Type 1 where
  pub runs : Runs limits context s.work t.work
  pub same : Same s.conditions t.conditions

module _ {limits : Limits} {context : Context} where
  nowhere : {s : State} → Goes limits context s s
  nowhere = record { runs = Nowhere; same = (refl, refl, refl) }

  then_goes : {s t u : State} → Goes limits context s t → Goes limits context t u → Goes limits context s u
  then_goes f g = record { runs = Then f.runs g.runs; same = (g.same.0 ∙ f.same.0, g.same.1 ∙ f.same.1, g.same.2 ∙ f.same.2) }

  -- one of two states
  either_goes : (b : Bool) {s : State} (x y : State) → Goes limits context s x → Goes limits context s y
      → Goes limits context s (if b then x else y)
  either_goes true x y f g = f
  either_goes false x y f g = g

  left_goes : (waiting : List Waiting) (s : State) → Goes limits context s (left_by waiting s)
  left_goes [] s = record { runs = Nowhere; same = (refl, refl, refl) }
  left_goes (w ∷ waiting) s = record { runs = Acts (Rests (λ u h. h) refl); same = (refl, refl, refl) }

  none_goes : (unit : Place) (text : List ℕ) (why : Included) (s : State) → Goes limits context s (none_included unit text why s)
  none_goes unit text Included.Entered s = nowhere
  none_goes unit text Included.NotThere s =
      let at = location s.nesting.names unit in
      record { runs = Tells (with_fatal at (NoInclude text)) (remains (fatal_adds at (NoInclude text))); same = (refl, refl, refl) }
  none_goes unit text Included.TooDeep s =
      let at = location s.nesting.names unit in
      record { runs = Tells (with_fatal at TooManyFiles) (remains (fatal_adds at TooManyFiles)); same = (refl, refl, refl) }

  included_goes : (sources : Sources) (o : Choices) (unit : Place) (text : List ℕ) (i : Inclusion) (s : State)
      → Goes limits context s (included_by sources o unit text i s)
  included_goes sources o unit text (Opens name) s = record { runs = Acts (Rests (λ u h. h) refl); same = (refl, refl, refl) }
  included_goes sources o unit text (OpensNone why) s = none_goes unit text why s

  answered_goes : (r : Request) (sources : Sources) (o : Choices) (s : State) → Goes limits context s (answered r sources o s)
  answered_goes (Include text unit) sources o s = included_goes sources o unit text (inclusion sources o.directories text s.nesting) s
  answered_goes other sources o s = record { runs = Nowhere; same = (refl, refl, refl) }

  carried_goes : (sources : Sources) (o : Choices) (s : State) → Goes limits context s (carried_out sources o s)
  carried_goes sources o s =
      let names = s.nesting.names in
      let closed : Goes limits context s (file_closed s) = record {
        runs = Tells (file_told names s.conditions) (file_stays names s.conditions);
        same = (refl, refl, refl);
      } in
      let silent : Goes limits context s (asked_nothing s) = record { runs = Acts (Asks Nothing tt); same = (refl, refl, refl) } in
      either_goes s.work.report.counts.is_over s _ nowhere
      (either_goes (is_mode_ended s.reading.mode) (left s) (answered s.work.asked sources o (asked_nothing s))
      (then_goes closed (left_goes s.nesting.waiting (file_closed s)))
      (then_goes silent (answered_goes s.work.asked sources o (asked_nothing s))))

  pub rested_goes : (s : State) → Goes limits context s (rested s)
  rested_goes s =
      let names = s.nesting.names in
      either_goes (has_ended s) s _ nowhere (either_goes (is_resting s) (piece_closed s) s (record {
        runs = Tells (piece_told names s.conditions) (piece_stays names s.conditions);
        same = (refl, refl, refl);
      }) nowhere)

  pub followed_goes : (sources : Sources) (o : Choices) (s : State) → Goes limits context s (followed sources o s)
  followed_goes sources o s = then_goes (carried_goes sources o s) (rested_goes (carried_out sources o s))

-- Lemmas about actions of a condition

one_action_grows : {limits : Limits} (tokens : List SourceToken) (l : Leaf) (o : Out) → Grown limits free o (action_added limits tokens l o)
one_action_grows {limits} tokens (Leaf.Action at) o = go (name_at tokens at)
  where
    go : (n : Option Name) → Grown limits free o (appeared_by limits n o)
    go None = Stays
    go (Some n) = action_grows n.bytes n.place o
one_action_grows tokens other o = Stays

pub actions_grow : {limits : Limits} (tokens : List SourceToken) (leaves : List Leaf) (o : Out)
    → Grown limits free o (actions_added limits tokens leaves o)
actions_grow tokens [] o = Stays
actions_grow {limits} tokens (l ∷ leaves) o =
    Follows (one_action_grows tokens l o) (actions_grow tokens leaves (action_added limits tokens l o))

-- Lemmas about turns

-- Where a conditional directive ends

directive_ends : {limits : Limits} {context : Context} {strict : Bool} (place : Place) (s : ReaderState)
    → Ends limits context (unfollowed strict) s.work (unit_ended limits (Some place) context s).work
directive_ends {limits} {context} {strict} place s =
    let w = closed_ahead limits (closings s.reading.stack) s.work in
    lays_end (ahead_lays (closings s.reading.stack) s.work) (begun_ends context.names place w)

-- Messages about a condition. One that is right has its actions appear, before its directive ends.

told_lays : {limits : Limits} {context : Context} {strict : Bool} (said : Option Said) (s : ReaderState)
    → Lays limits context (unfollowed strict) s.work (said_told limits said context s).work
told_lays {limits} {context} {strict} (Some (Right tokens leaves)) s = record {
  on = λ e. e;
  kept = λ e h. (h.0, (h.1.0, counted {Q = free} (λ q. refl) (actions_grow tokens leaves s.work.output) h.1.1));
}
told_lays {limits} {context} {strict} said s = record { on = said_stays context.names said s.work.report; kept = λ e h. h }

told_steps : {limits : Limits} {context : Context} {strict : Bool} (said : Option Said) (s : ReaderState) → is_right said ≡ false
    → Steps limits context (unfollowed strict) s.work (said_told limits said context s).work
told_steps {limits} {context} {strict} (Some (Right tokens leaves)) s none = cc
told_steps {limits} {context} {strict} said s none =
    record { on = said_stays context.names said s.work.report; kept = λ e h. h; few = λ e h k. k }

-- a turn in which a conditional directive ends
ending_steps : {limits : Limits} {context : Context} {strict : Bool} (t : SourceToken) (j : Filtered) (said : Option Said)
    (s : ReaderState)
    (ended : Option Place) → is_some ended ≡ true → Ends limits context (unfollowed strict) s.work
    (unit_ended limits ended context (lone_told j.unmatched context (token_taken limits j.token context t (sign_taken limits j.sign context
    (said_told limits said context s))))).work
ending_steps t j said s None e = cc
ending_steps {limits} {context} {strict} t j said s (Some place) e =
    let told = said_told limits said context s in
    lays_end (told_lays said s) (lays_end (lay_of (ran (between_walks t j told))) (directive_ends place
    (lone_told j.unmatched context (token_taken limits j.token context t (sign_taken limits j.sign context told)))))

turned_steps : {limits : Limits} {context : Context} {strict : Bool} (t : SourceToken) (j : Filtered) (said : Option Said)
    (s : ReaderState)
    → (is_right said ≡ true → is_some j.ended ≡ true)
    → Steps limits context (unfollowed strict) s.work (judged_taken limits context t j (said_told limits said context s)).work
turned_steps {limits} {context} {strict} t j said s ends = go (is_right said) refl
  where
    told : ReaderState
    told = said_told limits said context s

    go : (b : Bool) → is_right said ≡ b → Steps limits context (unfollowed strict) s.work (judged_taken limits context t j told).work
    go true e = step_of (ending_steps t j said s j.ended (ends e))
    go false e = steps_then (told_steps said s e) (steps_then (ran (between_walks t j told)) (ran (ended_walks j.ended
        (lone_told j.unmatched context (token_taken limits j.token context t (sign_taken limits j.sign context told))))))

-- Lemmas about states

-- one turn of tokens
pub stepped_steps : {strict : Bool} (limits : Limits) (o : Choices) (s : State) → NoneRight s.conditions
    → Steps limits (context_of o s) (unfollowed strict) s.work (stepped limits o s).work
stepped_steps limits o s none =
    let site = site_of (context_of o s).settings s.reading in
    let b = judged site s.work.output (token_of s) s.conditions in
    turned_steps (token_of s) b.judged b.now.said (stand_of s) (right_ends site s.work.output (token_of s) s.conditions none)

pub rested_steps : {limits : Limits} {context : Context} {strict : Bool} (s : State)
    → Steps limits context (unfollowed strict) s.work (rested s).work
rested_steps s = ran (rested_goes s).runs

-- a whole turn
pub turn_steps : {strict : Bool} (limits : Limits) (sources : Sources) (o : Choices) (s : State) → NoneRight s.conditions
    → Steps limits (context_of o s) (unfollowed strict) s.work (turn limits sources o s).work
turn_steps limits sources o s none =
    let t = stepped limits o s in
    steps_then (stepped_steps limits o s none)
    (steps_then (ran (followed_goes sources o t).runs) (record { on = λ e. e; kept = λ e h. h; few = λ e h k. k }))

-- Conditionals between two tokens: nothing right is told, stacks are tame, and no condition had too many tokens, unless that is told.
pub record Rest (o : Choices) (s : State) : Type 0 where
  pub none : NoneRight s.conditions
  pub tame : AreTame s.conditions.conditions
  pub few : is_over s.work ≡ false → s.conditions.most_tokens ≤ number_of Setting.ExpressionNodes o.settings

-- those of another state to which turns lead
rest_goes : {o : Choices} {limits : Limits} {context : Context} {s t : State} → Goes limits context s t → Rest o s → Rest o t
rest_goes {o} {limits} {context} {s} {t} g rest =
    let f : Steps limits context (unfollowed false) s.work t.work = ran g.runs in record {
      none = ap is_right g.same.0 ∙ rest.none;
      tame = subst AreTame (sym g.same.2) rest.tame;
      few = λ e. subst (λ (n : ℕ). n ≤ number_of Setting.ExpressionNodes o.settings) (sym g.same.1) (rest.few (f.on e));
    }

-- no fatal message stood before a token where none stands behind it
before_token : (limits : Limits) (context : Context) (t : SourceToken) (j : Filtered) (s : ReaderState)
    → is_over (judged_taken limits context t j s).work ≡ false → is_over s.work ≡ false
before_token limits context t j s e =
    let told = lone_told j.unmatched context (token_taken limits j.token context t (sign_taken limits j.sign context s)) in
    let f = steps_then {limits = limits} {context = context} {was = unfollowed false} (ran (between_walks t j s))
    (ran (ended_walks j.ended told)) in
    f.on e

pub stepped_rest : (limits : Limits) (o : Choices) (s : State) → Rest o s → Rest o (stepped limits o s)
stepped_rest limits o s rest = record {
  none = refl;
  tame = stacks_are_tame site s.work.output (token_of s) s.conditions rest.tame;
  few = λ e. go e (is_loud b.now.said) refl;
}
  where
    site : Site
    site = site_of o.settings s.reading

    b : Behind
    b = judged site s.work.output (token_of s) s.conditions

    told : ReaderState
    told = said_told limits b.now.said (context_of o s) (stand_of s)

    go : is_over (stepped limits o s).work ≡ false → (loud : Bool) → is_loud b.now.said ≡ loud
        → b.now.most_tokens ≤ number_of Setting.ExpressionNodes o.settings
    go e true said =
        let stands : is_over told.work ≡ true = loud_is_over s.nesting.names b.now.said s.work.report said in
        let free : is_over told.work ≡ false = before_token limits (context_of o s) (token_of s) b.judged told e in
        let never : true ≡ false = sym stands ∙ free in
        cc
    go e false said =
        let f = stepped_steps {strict = false} limits o s rest.none in
        tokens_are_few site s.work.output (token_of s) s.conditions rest.tame (rest.few (f.on e)) said

pub rested_rest : {o : Choices} (s : State) → Rest o s → Rest o (rested s)
rested_rest {o} s rest = rest_goes {limits = λ n. 0} {context = context_of o s} (rested_goes s) rest

pub turn_rest : (limits : Limits) (sources : Sources) (o : Choices) (s : State) → Rest o s → Rest o (turn limits sources o s)
turn_rest limits sources o s rest =
    let t = stepped limits o s in
    let r : Rest o (followed sources o t) =
    rest_goes {limits = limits} {context = context_of o s} (followed_goes sources o t) (stepped_rest limits o s rest) in
    record { none = r.none; tame = r.tame; few = r.few }
