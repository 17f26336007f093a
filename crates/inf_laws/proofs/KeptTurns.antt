-- The turns of a reading by the tokens that they hand on.
use Rattle.std.proofs.Common.{◌≡◌, ℕ, zero, suc, List, cond, false, refl, sym, ap, subst, ◌∙◌}
use Rattle.std.proofs.lemmas.List.{append-nil}
use Rattle.inf_settings.specs.Bounds.{Limits}
use Rattle.inf_scanner.specs.declared.tokens.Place.{Place}
use Rattle.inf_devices.specs.Files.{Sources}
use Rattle.inf_sources.specs.Inclusions.{Inclusion, Opens, OpensNone, inclusion}
use Rattle.inf_sources.specs.declared.open_files.Included.{Included}
use Rattle.inf_unit.specs.Directives.{Request, Characters, End, Include, Nothing}
use Rattle.inf_conditionals.specs.Judging.{judged}
use Rattle.inf_reader.specs.{Handing.said_told, Handing.site_of, Reading.Reading, Reading.is_mode_ended}
use Rattle.inf_session.specs.Choices.{Choices}
use Rattle.inf_session.specs.Session.{State, answered, asked_nothing, context_of, has_ended, carried_out, included_by, is_resting, left}
use Rattle.inf_session.specs.Session.{none_included, piece_closed, rested, stand_of, stepped, token_of, turn}
use Rattle.inf_laws.specs.KeptTokens.{Stands, all_given_to}
use Rattle.inf_laws.specs.KeptTurns.{StayInFile, TurnsReadPieces, given_by, given_in, turned}
use Rattle.inf_laws.proofs.KeptTokens.{given_both, kept_tokens_are_read, tokens_are_handed_on}
use Rattle.inf_unit.proofs.Cases.{of_both}

-- The reading of pieces is not changed behind the token of a turn, unless a file ends

none_reading : (unit : Place) (text : List ℕ) (why : Included) (s : State) → (none_included unit text why s).reading ≡ s.reading
none_reading unit text Included.Entered s = refl
none_reading unit text Included.NotThere s = refl
none_reading unit text Included.TooDeep s = refl

included_reading : (sources : Sources) (o : Choices) (unit : Place) (text : List ℕ) (i : Inclusion) (s : State) →
    (included_by sources o unit text i s).reading ≡ s.reading
included_reading sources o unit text (Opens name) s = refl
included_reading sources o unit text (OpensNone why) s = none_reading unit text why s

answered_reading : (a : Request) (sources : Sources) (o : Choices) (s : State) → (answered a sources o s).reading ≡ s.reading
answered_reading (Include text unit) sources o s = included_reading sources o unit text (inclusion sources o.directories text s.nesting) s
answered_reading End sources o s = refl
answered_reading (Characters set) sources o s = refl
answered_reading Nothing sources o s = refl

pub carried_out_reading : (sources : Sources) (o : Choices) (s : State) → is_mode_ended s.reading.mode ≡ false →
    (carried_out sources o s).reading ≡ s.reading
carried_out_reading sources o s going = of_both (λ (x : State). x.reading ≡ s.reading) s.work.report.counts.is_over s
    (cond (is_mode_ended s.reading.mode) (left s) (answered s.work.asked sources o (asked_nothing s)))
    (λ _. refl)
    (λ _. ap (λ b. (cond b (left s) (answered s.work.asked sources o (asked_nothing s))).reading) going ∙ answered_reading s.work.asked
    sources o (asked_nothing s))

pub rested_reading : (s : State) → (rested s).reading ≡ s.reading
rested_reading s = of_both (λ (x : State). x.reading ≡ s.reading) (has_ended s) s (cond (is_resting s) (piece_closed s) s) (λ _. refl)
    (λ _. of_both (λ (x : State). x.reading ≡ s.reading) (is_resting s) (piece_closed s) s (λ _. refl) (λ _. refl))

pub turn_reading : (limits : Limits) (sources : Sources) (o : Choices) (s : State) →
    is_mode_ended (stepped limits o s).reading.mode ≡ false →
    (turn limits sources o s).reading ≡ (stepped limits o s).reading
turn_reading limits sources o s going =
    rested_reading (carried_out sources o (stepped limits o s)) ∙ carried_out_reading sources o (stepped limits o s) going

-- Lemmas about the reading by the tokens that are handed on

pub stepped_reading : (limits : Limits) (o : Choices) (s : State) → (stepped limits o s).reading ≡ all_given_to (given_by o s) s.reading
stepped_reading limits o s =
    let t = token_of s in
    let b = judged (site_of o.settings s.reading) s.work.output t s.conditions in
    tokens_are_handed_on limits (context_of o s) t b.judged (said_told limits b.now.said (context_of o s) (stand_of s))

all_reading : (limits : Limits) (sources : Sources) (o : Choices) (n : ℕ) (s : State) → StayInFile limits sources o n s
    → (stepped limits o (turned limits sources o n s)).reading ≡ all_given_to (given_in limits sources o (suc n) s) s.reading
all_reading limits sources o zero s stay =
    stepped_reading limits o s ∙ ap (λ gs. all_given_to gs s.reading) (sym (append-nil (given_by o s)))
all_reading limits sources o (suc n) s stay =
    let next = turn limits sources o s in
    all_reading limits sources o n next stay.1
    ∙ ap (λ (r : Reading). all_given_to (given_in limits sources o (suc n) next) r)
    (turn_reading limits sources o s stay.0 ∙ stepped_reading limits o s)
    ∙ sym (given_both (given_by o s) (given_in limits sources o (suc n) next) s.reading)

pub turns_read_pieces : (limits : Limits) → TurnsReadPieces limits
turns_read_pieces limits sources o n s fresh stay goes =
    subst (λ (r : Reading). Stands (given_in limits sources o (suc n) s) r) (sym (all_reading limits sources o n s stay))
    (kept_tokens_are_read (given_in limits sources o (suc n) s) s.reading fresh goes)
