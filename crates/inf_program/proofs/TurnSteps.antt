-- Turns behind which nothing else happens have the effect of their steps.
use Rattle.std.proofs.Common.{◌≡◌, ℕ, zero, suc, List, [], ◌∷◌, ◌++◌, Bool, true, false, Option, Some, None, refl, sym, ◌∙◌, ap}
use Rattle.std.specs.Prelude.{if◌then◌else◌}
use Rattle.inf_settings.specs.Bounds.{Limits}
use Rattle.inf_scanner.specs.declared.tokens.Place.{Place}
use Rattle.inf_devices.specs.Files.{Sources}
use Rattle.inf_unit.specs.{Directives.Nothing, Directives.Request, Tokens.SourceToken}
use Rattle.inf_compilation.specs.Context.{Context}
use Rattle.inf_conditionals.specs.{Said.Said, declared.filtered.Filtered.Filtered, declared.filtered.Forwarded.Forwarded}
use Rattle.inf_conditionals.specs.{declared.filtered.Sign.Sign}
use Rattle.inf_reader.specs.Handing.{handed_as, hash, judged_taken, lone_told, said_told, sign_taken, token_taken, unit_ended}
use Rattle.inf_reader.specs.Reading.{ReaderState, is_mode_ended}
use Rattle.inf_session.specs.Choices.{Choices}
use Rattle.inf_session.specs.Session.{State, answered, asked_nothing, carried_out, context_of, followed, has_ended, is_resting, left}
use Rattle.inf_session.specs.Session.{piece_closed, rested, stand_of, stepped, token_of}
use Rattle.inf_laws.specs.KeptTokens.{given_as, given_sign, given_token}
use Rattle.inf_program.specs.definition.Steps.{Passes, Step, lone_between, said_between}
use Rattle.inf_program.specs.Turns.{AreQuiet, IsQuiet, all_steps, end_steps, given_steps, judged_steps, judgement, judgement_said, step_by}
use Rattle.inf_program.specs.Turns.{steps_behind, steps_by, steps_of}
use Rattle.inf_program.specs.Writing.{silent_turn, silent_turned}

-- Lemmas about steps one behind the other

pub steps_joined : (limits : Limits) (context : Context) (a b : List Step) (s : ReaderState)
    → steps_by limits context (a ++ b) s ≡ steps_by limits context b (steps_by limits context a s)
steps_joined limits context [] b s = refl
steps_joined limits context (x ∷ a) b s = steps_joined limits context a b (step_by limits context x s)

-- Lemmas about tokens that are handed on

handed_is : (limits : Limits) (h : Forwarded) (context : Context) (t : SourceToken) (s : ReaderState)
    → handed_as limits h context t s ≡ steps_by limits context (given_steps (given_as h t)) s
handed_is limits Forwarded.Kept context t s = refl
handed_is limits Forwarded.Unfit context t s = refl
handed_is limits Forwarded.Condition context t s = refl

sign_is : (limits : Limits) (sign : Option Sign) (context : Context) (s : ReaderState)
    → sign_taken limits sign context s ≡ steps_by limits context (given_steps (given_sign sign)) s
sign_is limits None context s = refl
sign_is limits (Some sign) context s = handed_is limits sign.handed context (hash sign.place) s

token_is : (limits : Limits) (h : Option Forwarded) (context : Context) (t : SourceToken) (s : ReaderState)
    → token_taken limits h context t s ≡ steps_by limits context (given_steps (given_token h t)) s
token_is limits None context t s = refl
token_is limits (Some h) context t s = handed_is limits h context t s

lone_is : (limits : Limits) (place : Option Place) (context : Context) (s : ReaderState)
    → lone_told place context s ≡ step_by limits context (Passes (lone_between context.names place)) s
lone_is limits None context s = refl
lone_is limits (Some place) context s = refl

ended_is : (limits : Limits) (place : Option Place) (context : Context) (s : ReaderState)
    → unit_ended limits place context s ≡ steps_by limits context (end_steps limits context.names place) s
ended_is limits None context s = refl
ended_is limits (Some place) context s = refl

-- Lemmas about a token by its judgement

judged_is : (limits : Limits) (context : Context) (t : SourceToken) (said : Option Said) (j : Filtered) (s : ReaderState)
    → judged_taken limits context t j (said_told limits said context s)
    ≡ steps_by limits context (judged_steps limits context t said j) s
judged_is limits context t said j s =
    let start = step_by limits context (Passes (said_between limits context.names said)) s in
    let signs = given_steps (given_sign j.sign) in
    let tokens = given_steps (given_token j.token t) in
    let last = steps_behind limits context.names j in
    let signed = steps_by limits context signs start in
    let taken = steps_by limits context tokens signed in
    ap (λ x. unit_ended limits j.ended context (lone_told j.unmatched context (token_taken limits j.token context t x)))
    (sign_is limits j.sign context start)
    ∙ (ap (λ x. unit_ended limits j.ended context (lone_told j.unmatched context x)) (token_is limits j.token context t signed)
    ∙ (ap (unit_ended limits j.ended context) (lone_is limits j.unmatched context taken)
    ∙ (ended_is limits j.ended context (step_by limits context (Passes (lone_between context.names j.unmatched)) taken)
    ∙ (sym (steps_joined limits context tokens last signed) ∙ sym (steps_joined limits context signs (tokens ++ last) start)))))

one_turn_steps : (limits : Limits) (o : Choices) (s : State)
    → stand_of (stepped limits o s) ≡ steps_by limits (context_of o s) (steps_of limits o s) (stand_of s)
one_turn_steps limits o s = judged_is limits (context_of o s) (token_of s) (judgement_said o s) (judgement o s) (stand_of s)

-- Lemmas about a turn behind which nothing else happens

answered_plainly : (asked : Request) (sources : Sources) (o : Choices) (s : State) → asked ≡ Nothing → answered asked sources o s ≡ s
answered_plainly asked sources o s nothing = ap (λ a. answered a sources o s) nothing

carried_plainly : (sources : Sources) (o : Choices) (s : State) → IsQuiet s → carried_out sources o s ≡ s
carried_plainly sources o s quiet =
    ap (λ b. if b then s else if is_mode_ended s.reading.mode then left s else answered s.work.asked sources o (asked_nothing s))
    quiet.is_not_over
    ∙ (ap (λ b. if b then left s else answered s.work.asked sources o (asked_nothing s)) quiet.has_more
    ∙ (answered_plainly s.work.asked sources o (asked_nothing s) quiet.asks_nothing
    ∙ ap (λ (a : Request). record s { work = record s.work { asked = a } }) (sym quiet.asks_nothing)))

either_state : (b : Bool) (s : State) → (if b then s else s) ≡ s
either_state true s = refl
either_state false s = refl

rested_plainly : (s : State) → is_resting s ≡ false → rested s ≡ s
rested_plainly s inside = ap (λ b. if has_ended s then s else if b then piece_closed s else s) inside ∙ either_state (has_ended s) s

followed_plainly : (sources : Sources) (o : Choices) (s : State) → IsQuiet s → followed sources o s ≡ s
followed_plainly sources o s quiet = ap rested (carried_plainly sources o s quiet) ∙ rested_plainly s quiet.is_inside

-- Lemmas about turns one behind the other

pub turns_are_steps : (limits : Limits) (sources : Sources) (o : Choices) (n : ℕ) (s : State) → AreQuiet limits sources o n s
    → stand_of (stepped limits o (silent_turned limits sources o n s))
    ≡ steps_by limits (context_of o s) (all_steps limits sources o n s) (stand_of s)
turns_are_steps limits sources o zero s quiet = one_turn_steps limits o s
turns_are_steps limits sources o (suc n) s quiet =
    let next = silent_turn limits sources o s in
    let rest = all_steps limits sources o n next in
    let same : next ≡ stepped limits o s = followed_plainly sources o (stepped limits o s) quiet.0 in
    turns_are_steps limits sources o n next quiet.1
    ∙ (ap (λ (x : State). steps_by limits (context_of o x) rest (stand_of x)) same
    ∙ (ap (steps_by limits (context_of o s) rest) (one_turn_steps limits o s)
    ∙ sym (steps_joined limits (context_of o s) (steps_of limits o s) rest (stand_of s))))
