-- The turns of a source, whose messages are still to be written, lead to the state to which turns by sides lead.
use Rattle.std.proofs.Common.{◌≡◌, ℕ, ◌⊎◌, inl, inr, zero, suc, List, [], ◌∷◌, ◌++◌, ◌&&◌, ◌||◌, Bool, true, false, Option, Some, None}
use Rattle.std.proofs.Common.{refl, sym, ◌∙◌, ap, subst, true≢false, if◌then◌else◌}
use Rattle.inf_settings.specs.Bounds.{Limits, limits_of}
use Rattle.inf_scanner.specs.declared.tokens.Place.{Place}
use Rattle.inf_devices.specs.Files.{Sources}
use Rattle.inf_unit.specs.{Directives.Nothing, Directives.Request, Messages.FileNames, Tokens.SourceToken}
use Rattle.inf_compilation.specs.Context.{Context}
use Rattle.inf_conditionals.specs.{Judging.Behind as Judged, Judging.is_none_pending, Judging.judged, Open.Conditions, Open.no_conditions}
use Rattle.inf_conditionals.specs.{Open.silent, Said.Said, declared.filtered.Filtered.Filtered, declared.filtered.Forwarded.Forwarded}
use Rattle.inf_conditionals.specs.{declared.filtered.Sign.Sign, declared.filtered.Site.Site}
use Rattle.inf_conditional_sides.specs.{Rests.AreSeated, Rests.HandsNone, Rests.Rests, Tellings.telling, Told.Told, Told.told_of}
use Rattle.inf_conditional_sides.specs.Judged.{Agree, ComeToTheSame, end_given, given_of, is_settled, lone_given, sign_given, token_given}
use Rattle.inf_conditional_sides.specs.Sides.{Given as GivenBySides, Sides, has_none, heard, step as side_step}
use Rattle.inf_conditional_sides.proofs.{Same.sides_are_judged, Seating.tokens_rest, Telling.conditions_are_told}
use Rattle.inf_reader.specs.{Handing.is_between, Handing.site_of, Reading.ReaderState, Reading.Reading, Reading.is_mode_ended}
use Rattle.inf_session.specs.{Choices.Choices, Taking.quoted_behind}
use Rattle.inf_session.specs.Session.{State as TurnState, carried_out as turn_carried_out, followed as turn_followed, left as turn_left}
use Rattle.inf_session.specs.Session.{answered as turn_answered, asked_nothing as turn_asked_nothing, rested as turn_rested}
use Rattle.inf_session.specs.Session.{start as turn_start, stepped as turn_stepped, token_of}
use Rattle.inf_laws.specs.KeptTokens.{given_sign, given_token}
use Rattle.inf_program.specs.{BySides.TurnsGoBySides, BySides.with_conditions, Writing.silent_run as turn_run}
use Rattle.inf_program.specs.{Writing.silent_turn as turn_silent, definition.Program.NoneGiven}
use Rattle.inf_program.specs.definition.NextToken.{Position, coming, step_at, told_at}
use Rattle.inf_program.specs.definition.States.{State, answered, asked_nothing, carried_out, context_of, followed, has_ended, is_resting}
use Rattle.inf_program.specs.definition.States.{left, rested, start}
use Rattle.inf_program.specs.definition.Steps.{Passes, Step, said_between, step_of, steps_of_all, token_steps}
use Rattle.inf_program.specs.SideTurns.{position_of, side_run, side_turn, stand_behind, stand_of, stepped, side_steps}
use Rattle.inf_program.specs.Turns.{given_steps, judged_steps, judgement, step_by, steps_behind, steps_by}
use Rattle.inf_program.proofs.{Asking.Calm, Given.NoneIn, Given.mild_at, Given.none_free, Stepping.followed_supplied, Stepping.over_ends}
use Rattle.inf_program.proofs.{TurnSteps.steps_joined, TurnSteps.turns_are_steps}
use Rattle.inf_program.proofs.RegularTurns.{followed_calm, none_asked, none_read, turn_rests}
use Rattle.inf_program.proofs.SideStates.{Behind, Matches, Ready, handed_alike, none_alike, then_rested}

-- The steps of a token, by its judgement and by what is given of it

given_joined : (limits : Limits) (files : FileNames) (a b : List GivenBySides)
    → steps_of_all limits files (a ++ b) ≡ steps_of_all limits files a ++ steps_of_all limits files b
given_joined limits files [] b = refl
given_joined limits files (x ∷ a) b = ap (λ (xs : List Step). step_of limits files x ∷ xs) (given_joined limits files a b)

sign_steps : (limits : Limits) (files : FileNames) (sign : Option Sign)
    → given_steps (given_sign sign) ≡ steps_of_all limits files (sign_given sign)
sign_steps limits files None = refl
sign_steps limits files (Some sign) = by_way sign.handed sign.place
  where
    by_way : (h : Forwarded) (place : Place) → given_steps (given_sign (Some (record { place = place; handed = h })))
        ≡ steps_of_all limits files (sign_given (Some (record { place = place; handed = h })))
    by_way Forwarded.Kept place = refl
    by_way Forwarded.Unfit place = refl
    by_way Forwarded.Condition place = refl

handed_steps : (limits : Limits) (files : FileNames) (h : Option Forwarded) (t : SourceToken)
    → given_steps (given_token h t) ≡ steps_of_all limits files (token_given h t)
handed_steps limits files None t = refl
handed_steps limits files (Some Forwarded.Kept) t = refl
handed_steps limits files (Some Forwarded.Unfit) t = refl
handed_steps limits files (Some Forwarded.Condition) t = refl

last_steps : (limits : Limits) (context : Context) (lone ended : Option Place) (j : Filtered) → j.unmatched ≡ lone → j.ended ≡ ended
    → (x : ReaderState)
    → steps_by limits context (steps_behind limits context.names (record j { unmatched = lone; ended = ended })) x
    ≡ steps_by limits context (steps_of_all limits context.names (lone_given lone ++ end_given ended)) x
last_steps limits context None None j first second x = refl
last_steps limits context None (Some place) j first second x = refl
last_steps limits context (Some at) None j first second x = refl
last_steps limits context (Some at) (Some place) j first second x = refl

judged_are_given : (limits : Limits) (context : Context) (t : SourceToken) (said : Option Said) (j : Filtered) (x : ReaderState)
    → steps_by limits context (judged_steps limits context t said j) x
    ≡ steps_by limits context (token_steps limits context.names said (given_of t j)) x
judged_are_given limits context t said j x =
    let files : FileNames = context.names in
    let y : ReaderState = step_by limits context (Passes (said_between limits files said)) x in
    let all = λ (given : List GivenBySides). steps_of_all limits files given in
    let signs : List Step = given_steps (given_sign j.sign) in
    let tokens : List Step = given_steps (given_token j.token t) in
    let last : List Step = steps_behind limits files j in
    let ends : List GivenBySides = lone_given j.unmatched ++ end_given j.ended in
    let z : ReaderState = steps_by limits context tokens (steps_by limits context signs y) in
    let parted : steps_by limits context (signs ++ (tokens ++ last)) y ≡ steps_by limits context last z =
    steps_joined limits context signs (tokens ++ last) y ∙ steps_joined limits context tokens last (steps_by limits context signs y) in
    let joined : steps_by limits context (all ends) z ≡ steps_by limits context (signs ++ (tokens ++ all ends)) y =
    sym (steps_joined limits context signs (tokens ++ all ends) y
    ∙ steps_joined limits context tokens (all ends) (steps_by limits context signs y)) in
    let same : signs ++ (tokens ++ all ends) ≡ all (given_of t j) =
    ap (λ (xs : List Step). xs ++ (tokens ++ all ends)) (sign_steps limits files j.sign)
    ∙ (ap (λ (xs : List Step). all (sign_given j.sign) ++ (xs ++ all ends)) (handed_steps limits files j.token t)
    ∙ (ap (λ (xs : List Step). all (sign_given j.sign) ++ xs) (sym (given_joined limits files (token_given j.token t) ends))
    ∙ sym (given_joined limits files (sign_given j.sign) (token_given j.token t ++ ends)))) in
    parted ∙ (last_steps limits context j.unmatched j.ended j refl refl z
    ∙ (joined ∙ ap (λ (xs : List Step). steps_by limits context xs y) same))

-- Lemmas about one token

-- what is known of a token by its judgement and by the sides
pub record Taken (limits : Limits) (o : Choices) (c : Conditions) (s : State) (b : Judged) : Type 0 where
  pub agree : Agree b.now (step_at (position_of s.reading) s).now
  pub given : given_of (coming (position_of s.reading) s) b.judged ≡ heard (position_of s.reading).is_passed (step_at (position_of s.reading) s).given
  pub told : telling b.now ≡ told_at o (position_of s.reading) s
  pub rests : Rests (is_between s.reading) c.declared b

pub taken_by : (limits : Limits) (o : Choices) (c : Conditions) (s : State) → c.most_tokens ≡ s.most_tokens → Matches c s
    → Taken limits o c s (judged (site_of o.settings s.reading) s.work.output (coming (position_of s.reading) s) c)
taken_by limits o c s most m =
    let site : Site = site_of o.settings s.reading in
    let t : SourceToken = coming (position_of s.reading) s in
    let b : Judged = judged site s.work.output t c in
    let come : ComeToTheSame site.is_quiet t b (side_step site.is_between s.declared s.work.output t s.sides) =
    subst (λ (declared : ℕ). ComeToTheSame site.is_quiet t b (side_step site.is_between declared s.work.output t s.sides)) m.declared
    (sides_are_judged.tokens site s.work.output t c s.sides m.agree m.settled m.levels) in
    let before : telling c ≡ record { said = None; most_tokens = s.most_tokens } =
    ap (λ (said : Option Said). record { said = said; most_tokens = c.most_tokens }) m.none_said
    ∙ ap (λ (n : ℕ). record { said = None; most_tokens = n }) most in
    record {
      agree = come.now;
      given = come.given;
      told = conditions_are_told site s.work.output t c s.sides m.agree m.settled m.levels m.none_said
          ∙ (ap (λ (declared : ℕ). told_of site.is_quiet site.longest declared s.work.output t s.sides (telling c)) m.declared
          ∙ ap (told_of site.is_quiet site.longest s.declared s.work.output t s.sides) before);
      rests = tokens_rest site s.work.output t c m.seated m.settled m.levels;
    }

-- the state behind the token is the same
pub stepped_alike : (limits : Limits) (sources : Sources) (o : Choices) (c : Conditions) (q : ℕ) (s : State)
    → let site = site_of o.settings s.reading in
    let t = coming (position_of s.reading) s in
    let b = judged site s.work.output t c in
    Taken limits o c s b
    → turn_stepped limits o (with_conditions c q s)
    ≡ with_conditions (silent b.now) (quoted_behind site b.judged t q) (stepped limits o s)
stepped_alike limits sources o c q s k =
    let site : Site = site_of o.settings s.reading in
    let p : Position = position_of s.reading in
    let t : SourceToken = coming p s in
    let context : Context = context_of o s in
    let b : Judged = judged site s.work.output t c in
    let stand : ReaderState = stand_of s in
    let steps = λ (said : Option Said). λ (given : List GivenBySides).
    steps_by limits context (token_steps limits s.nesting.names said given) stand in
    let same : steps_by limits context (judged_steps limits context t b.now.said b.judged) stand ≡ stand_behind limits o s =
    judged_are_given limits context t b.now.said b.judged stand
    ∙ (ap (λ (x : Told). steps x.said (given_of t b.judged)) k.told ∙ ap (steps (told_at o p s).said) k.given) in
    ap (λ (x : ReaderState). with_conditions (silent b.now) (quoted_behind site b.judged t q)
    (record (stepped limits o s) { reading = x.reading; work = x.work }))
    (turns_are_steps limits sources o zero (with_conditions c q s) tt ∙ same)

-- Where nothing is handed on, reading stands still.

none_in_ends : (lone ended : Option Place) → NoneIn (lone_given lone ++ end_given ended)
none_in_ends None None = tt
none_in_ends None (Some place) = tt
none_in_ends (Some at) None = tt
none_in_ends (Some at) (Some place) = tt

none_in : (t : SourceToken) (j : Filtered) → HandsNone j → NoneIn (given_of t j)
none_in t j none =
    subst (λ (xs : List GivenBySides). NoneIn (xs ++ (token_given j.token t ++ (lone_given j.unmatched ++ end_given j.ended)))) (sym none.0)
    (subst (λ (xs : List GivenBySides). NoneIn (xs ++ (lone_given j.unmatched ++ end_given j.ended))) (sym (none.1 t))
    (none_in_ends j.unmatched j.ended))

pub none_handed : (limits : Limits) (o : Choices) (c : Conditions) (s : State) (b : Judged) → Taken limits o c s b → HandsNone b.judged
    → NoneGiven (side_steps limits o s)
none_handed limits o c s b k none =
    let p : Position = position_of s.reading in
    none_free limits s.nesting.names (heard p.is_passed (step_at p s).given)
    (subst (λ (xs : List GivenBySides). NoneIn xs) k.given (none_in (coming p s) b.judged none))

record Still (s y : State) : Type 0 where
  reading : y.reading ≡ s.reading
  asks : y.work.asked ≡ Nothing

stands_still : (limits : Limits) (o : Choices) (c : Conditions) (s : State) (b : Judged) → Taken limits o c s b → Calm (stand_of s)
    → HandsNone b.judged → Still s (stepped limits o s)
stands_still limits o c s b k calm none =
    let p : Position = position_of s.reading in
    let free : NoneGiven (side_steps limits o s) = none_handed limits o c s b k none in
    record {
      reading = none_read limits (context_of o s) (side_steps limits o s) (stand_of s) free;
      asks = none_asked limits (context_of o s) (side_steps limits o s) (stand_of s) free (mild_at limits o p s) ∙ calm.asks;
    }

-- Lemmas about the state behind the token

pub agree_silent : (c : Conditions) (x : Sides) → Agree c x → Agree (silent c) x
agree_silent c x a =
    record { pending = a.pending; conditions = a.conditions; sign = a.sign; sides = a.sides; fronts = a.fronts }

mode_of : (a b c : Bool) → (a || (b || c)) ≡ false → c ≡ false
mode_of true b c e = absurd (true≢false e)
mode_of false true c e = absurd (true≢false e)
mode_of false false c e = e

both : (a b : Bool) → a ≡ true → b ≡ true → (a && b) ≡ true
both true b e f = f
both false b e f = absurd (true≢false (sym e))

-- the state behind a token, before a file is entered or left
pub record Passed (c : Conditions) (s y : State) (b : Judged) : Type 0 where
  pub agree : Agree b.now y.sides
  pub declared : b.now.declared ≡ y.declared
  pub most : b.now.most_tokens ≡ y.most_tokens
  pub rests : Rests (is_between s.reading) c.declared b

pub passed_by : (limits : Limits) (o : Choices) (c : Conditions) (s : State) (b : Judged) → Taken limits o c s b → c.declared ≡ s.declared
    → Passed c s (stepped limits o s) b
passed_by limits o c s b k declared = record {
  agree = k.agree;
  declared = k.rests.declared ∙ declared;
  most = ap (λ (x : Told). x.most_tokens) k.told;
  rests = k.rests;
}

-- where nothing was handed on
pub still_ready : (c : Conditions) (s y : State) (b : Judged) → Passed c s y b → y.reading ≡ s.reading → Ready (silent b.now) y
still_ready c s y b p still = record {
  agree = agree_silent b.now y.sides p.agree;
  declared = p.declared;
  none_said = refl;
  settled = by_settled p.rests.settled;
  seated = subst (λ (between : Bool). AreSeated between b.now.pending) (sym (ap is_between still)) p.rests.seated;
  levels = p.rests.levels;
}
  where
    by_settled : (is_settled b.now ≡ true) ⊎ ((is_between s.reading ≡ true) × ((b.now.pending ≡ []) × HandsNone b.judged))
        → (is_settled (silent b.now) ≡ true) ⊎ (is_resting y ≡ true)
    by_settled (inl settled) = inl settled
    by_settled (inr u) = inr (both (is_between y.reading) (has_none y.sides.texts) (ap is_between still ∙ u.0)
        (sym (none_alike y.sides.texts) ∙ (ap is_none_pending (sym p.agree.pending) ∙ ap is_none_pending u.1.0)))

asked_ready : (c : Conditions) (y : State) → Ready c y → Ready c (asked_nothing y)
asked_ready c y r = record {
  agree = r.agree;
  declared = r.declared;
  none_said = r.none_said;
  settled = r.settled;
  seated = r.seated;
  levels = r.levels;
}

abbrev Carried : ℕ → TurnState → State → Type 0
Carried q t s = Behind q t s (λ now. Ready now s)

-- where no fatal message came
gone_alike : (sources : Sources) (o : Choices) (q : ℕ) (c : Conditions) (s y : State) (b : Judged) → Passed c s y b
    → (HandsNone b.judged → Still s y) → is_mode_ended s.reading.mode ≡ false
    → ((b.now.pending ≡ []) × (b.now.left_out ≡ None)) ⊎ HandsNone b.judged
    → let t = with_conditions (silent b.now) q y in
    Carried q (if is_mode_ended y.reading.mode then turn_left t else turn_answered y.work.asked sources o (turn_asked_nothing t))
    (if is_mode_ended y.reading.mode then left y else answered y.work.asked sources o (asked_nothing y))
gone_alike sources o q c s y b p still reads (inl none) = handed_alike sources o (silent b.now) q y p.most (record {
  agree = agree_silent b.now y.sides p.agree;
  declared = p.declared;
  none_said = refl;
  none = none.0;
  stay = none.1;
}) (is_mode_ended y.reading.mode) refl
gone_alike sources o q c s y b p still reads (inr quiet) =
    let u : Still s y = still quiet in
    let t : TurnState = with_conditions (silent b.now) q y in
    let e : is_mode_ended y.reading.mode ≡ false = ap (λ (r : Reading). is_mode_ended r.mode) u.reading ∙ reads in
    subst (λ (m : Bool). Carried q (if m then turn_left t else turn_answered y.work.asked sources o (turn_asked_nothing t))
    (if m then left y else answered y.work.asked sources o (asked_nothing y))) (sym e)
    (subst (λ (a : Request). Carried q (turn_answered a sources o (turn_asked_nothing t)) (answered a sources o (asked_nothing y)))
    (sym u.asks)
    (record { now = silent b.now; same = refl; most = p.most; ready = λ on. asked_ready (silent b.now) y (still_ready c s y b p u.reading) }))

carried_alike : (sources : Sources) (o : Choices) (q : ℕ) (c : Conditions) (s y : State) (b : Judged) → Passed c s y b
    → (HandsNone b.judged → Still s y) → is_mode_ended s.reading.mode ≡ false → (over : Bool) → y.work.report.counts.is_over ≡ over
    → Carried q (turn_carried_out sources o (with_conditions (silent b.now) q y)) (carried_out sources o y)
carried_alike sources o q c s y b p still reads true over =
    let t : TurnState = with_conditions (silent b.now) q y in
    subst (λ (m : Bool). Carried q
    (if m then t else if is_mode_ended y.reading.mode then turn_left t else turn_answered y.work.asked sources o (turn_asked_nothing t))
    (if m then y else if is_mode_ended y.reading.mode then left y else answered y.work.asked sources o (asked_nothing y))) (sym over)
    (record { now = silent b.now; same = refl; most = p.most; ready = λ on. absurd (true≢false (sym (over_ends y over) ∙ on)) })
carried_alike sources o q c s y b p still reads false over =
    let t : TurnState = with_conditions (silent b.now) q y in
    subst (λ (m : Bool). Carried q
    (if m then t else if is_mode_ended y.reading.mode then turn_left t else turn_answered y.work.asked sources o (turn_asked_nothing t))
    (if m then y else if is_mode_ended y.reading.mode then left y else answered y.work.asked sources o (asked_nothing y))) (sym over)
    (gone_alike sources o q c s y b p still reads p.rests.quiet)

-- Lemmas about one turn

abbrev pub Matched : ℕ → TurnState → State → Type 0
Matched q t s = Behind q t s (λ now. Matches now s)

pub record Turned (t : TurnState) (s : State) : Type 0 where
  pub quoted : ℕ
  pub behind : Matched quoted t s

turned_alike : (limits : Limits) (sources : Sources) (o : Choices) (c : Conditions) (q : ℕ) (s : State) → c.most_tokens ≡ s.most_tokens
    → has_ended s ≡ false → s.is_supplied ≡ false → Matches c s → Calm (stand_of s)
    → Turned (turn_silent limits sources o (with_conditions c q s)) (side_turn limits sources o s)
turned_alike limits sources o c q s most going of_file m calm =
    let site : Site = site_of o.settings s.reading in
    let p : Position = position_of s.reading in
    let t : SourceToken = coming p s in
    let b : Judged = judged site s.work.output t c in
    let y : State = stepped limits o s in
    let q2 : ℕ = quoted_behind site b.judged t q in
    let k : Taken limits o c s b = taken_by limits o c s most m in
    let passed : Passed c s y b = passed_by limits o c s b k m.declared in
    let gone : TurnState = turn_carried_out sources o (with_conditions (silent b.now) q2 y) in
    let carried : Carried q2 (turn_carried_out sources o (with_conditions (silent b.now) q2 y)) (carried_out sources o y) =
    carried_alike sources o q2 c s y b passed (λ none. stands_still limits o c s b k calm none)
    (mode_of s.is_over s.work.report.counts.is_over (is_mode_ended s.reading.mode) going) y.work.report.counts.is_over refl in
    record {
      quoted = q2;
      behind = subst (λ (x : TurnState). Matched q2 (turn_followed sources o x) (followed sources o y))
          (sym (stepped_alike limits sources o c q s k))
          (subst (λ (is_supplied : Bool). Matched q2 (turn_rested gone) (rested (if is_supplied then y else carried_out sources o y)))
          (sym of_file) (then_rested q2 gone (carried_out sources o y) carried));
    }

-- Lemmas about all turns

-- what is known of a state from which reading goes on
pub record Goes (c : Conditions) (s : State) : Type 0 where
  pub of_file : s.is_supplied ≡ false
  pub matches : Matches c s
  pub calm : Calm (stand_of s)

pub record Ran (t : TurnState) (s : State) : Type 0 where
  pub conditions : Conditions
  pub quoted : ℕ
  pub same : t ≡ with_conditions conditions quoted s
  pub most : conditions.most_tokens ≡ s.most_tokens
  pub goes : has_ended s ≡ false → Goes conditions s

-- Lemmas about `n` turns from a state on
abbrev RunsAlike : Limits → Sources → Choices → ℕ → Type 0
RunsAlike limits sources o n =
    (c : Conditions) (q : ℕ) (s : State) → c.most_tokens ≡ s.most_tokens → (has_ended s ≡ false → Goes c s)
    → Ran (turn_run limits sources o n (with_conditions c q s)) (side_run limits sources o n s)

run_by : (limits : Limits) (sources : Sources) (o : Choices) (n : ℕ) → RunsAlike limits sources o n → (c : Conditions) (q : ℕ) (s : State)
    → c.most_tokens ≡ s.most_tokens → (has_ended s ≡ false → Goes c s) → (b : Bool) → has_ended s ≡ b
    → Ran (turn_run limits sources o (suc n) (with_conditions c q s)) (side_run limits sources o (suc n) s)
run_by limits sources o n later c q s most goes true over = subst (λ (b : Bool). Ran
    (if b then with_conditions c q s else turn_run limits sources o n (turn_silent limits sources o (with_conditions c q s)))
    (if b then s else side_run limits sources o n (side_turn limits sources o s))) (sym over)
    (record { conditions = c; quoted = q; same = refl; most = most; goes = goes })
run_by limits sources o n later c q s most goes false going =
    let g : Goes c s = goes going in
    let x : State = side_turn limits sources o s in
    let y : State = stepped limits o s in
    let turned : Turned (turn_silent limits sources o (with_conditions c q s)) x =
    turned_alike limits sources o c q s most going g.of_file g.matches g.calm in
    let behind : Matched turned.quoted (turn_silent limits sources o (with_conditions c q s)) x = turned.behind in
    subst (λ (b : Bool). Ran
    (if b then with_conditions c q s else turn_run limits sources o n (turn_silent limits sources o (with_conditions c q s)))
    (if b then s else side_run limits sources o n x)) (sym going)
    (subst (λ (t : TurnState). Ran (turn_run limits sources o n t) (side_run limits sources o n x)) (sym behind.same)
    (later behind.now turned.quoted x behind.most (λ on. record {
      of_file = followed_supplied sources o y ∙ g.of_file;
      matches = behind.ready on;
      calm = followed_calm sources o y g.of_file (turn_rests limits sources o s g.calm) y.work.report.counts.is_over refl on;
    })))

run_alike : (limits : Limits) (sources : Sources) (o : Choices) (n : ℕ) → RunsAlike limits sources o n
run_alike limits sources o zero c q s most goes = record { conditions = c; quoted = q; same = refl; most = most; goes = goes }
run_alike limits sources o (suc n) c q s most goes =
    run_by limits sources o n (run_alike limits sources o n) c q s most goes (has_ended s) refl

pub source_ran : (limits : Limits) (sources : Sources) (o : Choices) (name : List ℕ) (n : ℕ)
    → Ran (turn_run limits sources o n (turn_start sources o name)) (side_run limits sources o n (start sources o name))
source_ran limits sources o name n = run_alike limits sources o n no_conditions 0 (start sources o name) refl (λ going. record {
  of_file = refl;
  matches = record { agree = sides_are_judged.start; declared = refl; none_said = refl; settled = refl; seated = tt; levels = tt };
  calm = record { asks = refl; last = refl; spaced = tt };
})

given_alike : (o : Choices) (t : TurnState) (s : State) (r : Ran t s) → has_ended s ≡ false
    → given_of (token_of t) (judgement o t) ≡ heard (position_of s.reading).is_passed (step_at (position_of s.reading) s).given
given_alike o t s r going = subst (λ (x : TurnState). given_of (token_of x) (judgement o x)
    ≡ heard (position_of s.reading).is_passed (step_at (position_of s.reading) s).given) (sym r.same)
    (taken_by (limits_of o.settings) o r.conditions s r.most (r.goes going).matches).given

-- nothing is given of the next token
still_alike : (limits : Limits) (sources : Sources) (o : Choices) (t : TurnState) (s : State) (r : Ran t s) → has_ended s ≡ false
    → (step_at (position_of s.reading) s).given ≡ [] → (turn_stepped limits o t).reading ≡ t.reading
still_alike limits sources o t s r going none =
    let p : Position = position_of s.reading in
    let k = taken_by limits o r.conditions s r.most (r.goes going).matches in
    let free : NoneGiven (side_steps limits o s) = none_free limits s.nesting.names (heard p.is_passed (step_at p s).given)
    (subst (λ (xs : List GivenBySides). NoneIn (heard p.is_passed xs)) (sym none) (nothing_heard p.is_passed)) in
    ap (λ (x : TurnState). (turn_stepped limits o x).reading) r.same
    ∙ (ap (λ (x : TurnState). x.reading) (stepped_alike limits sources o r.conditions r.quoted s k)
    ∙ (none_read limits (context_of o s) (side_steps limits o s) (stand_of s) free ∙ ap (λ (x : TurnState). x.reading) (sym r.same)))
  where
    nothing_heard : (is_quiet : Bool) → NoneIn (heard is_quiet [])
    nothing_heard true = tt
    nothing_heard false = tt

pub turns_go_by_sides : TurnsGoBySides
turns_go_by_sides sources o name n =
    let limits : Limits = limits_of o.settings in
    let s : State = side_run limits sources o n (start sources o name) in
    let r : Ran (turn_run limits sources o n (turn_start sources o name)) s = source_ran limits sources o name n in
    record {
      conditions = r.conditions;
      quoted = r.quoted;
      same = r.same;
      most = r.most;
      agree = λ going. (r.goes going).matches.agree;
      given = λ going. given_alike o (turn_run limits sources o n (turn_start sources o name)) s r going;
      still = λ going none. still_alike limits sources o (turn_run limits sources o n (turn_start sources o name)) s r going none;
    }
