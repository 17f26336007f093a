-- Each turn of a reading is regular: a directive asks for something at the end of its piece alone.
use Rattle.std.proofs.Common.{◌≡◌, ℕ, zero, suc, List, [], ◌∷◌, ◌&&◌, ◌||◌, Bool, true, false, refl, sym, ◌∙◌, ap, cond, subst, true≢false}
use Rattle.std.specs.Prelude.{if◌then◌else◌}
use Rattle.inf_settings.specs.Bounds.{Limits}
use Rattle.inf_scanner.specs.declared.tokens.Place.{Place}
use Rattle.inf_devices.specs.Files.{Sources}
use Rattle.inf_machine.specs.Laws.{IsSpaced}
use Rattle.inf_sources.specs.Inclusions.{Inclusion, Opens, OpensNone, Waiting, inclusion}
use Rattle.inf_sources.specs.declared.open_files.Included.{Included}
use Rattle.inf_grammar.specs.Language.{grammar, known}
use Rattle.inf_unit.specs.Directives.{Characters, End, Include, Nothing, Request}
use Rattle.inf_unit.proofs.Cases.{of_both}
use Rattle.inf_compilation.specs.Context.{Context}
use Rattle.inf_reader.specs.{Handing.is_between, Handing.is_empty, Handing.reads, Reading.ReaderState, Reading.Reading}
use Rattle.inf_reader.specs.{Reading.is_mode_ended, declared.recovery.Recovery.Recovery}
use Rattle.inf_session.specs.Choices.{Choices}
use Rattle.inf_statement_laws.specs.Happenings.{Between}
use Rattle.inf_program.specs.{Regular.AreRegular, Turns.step_by, Turns.steps_by, definition.Program.NoneGiven}
use Rattle.inf_program.specs.definition.Steps.{Ends, Passes, Reads, Step}
use Rattle.inf_program.specs.definition.States.{State, answered, asked_nothing, carried_out, context_of, file_closed, followed, has_ended}
use Rattle.inf_program.specs.definition.States.{included_by, is_resting, left, left_by, none_included, piece_closed, rested, start}
use Rattle.inf_program.specs.SideTurns.{position_of, stand_of, stepped, side_steps}
use Rattle.inf_program.proofs.{Asking.Calm, Asking.given_settled, EndStacks.ends_last, Given.mild_at, Given.shape_at}
use Rattle.inf_program.proofs.Stepping.{followed_over, followed_supplied, over_ends}
use Rattle.inf_program.proofs.Shapes.{AllMild, NoToken, OneToken, Shape, TwoTokens}

-- Lemmas about steps

-- steps that hand nothing on
pub none_asked : (limits : Limits) (context : Context) (steps : List Step) (x : ReaderState) → NoneGiven steps → AllMild steps
    → (steps_by limits context steps x).work.asked ≡ x.work.asked
none_asked limits context [] x free mild = refl
none_asked limits context (Passes m ∷ steps) x free mild =
    none_asked limits context steps (step_by limits context (Passes m) x) free mild.1 ∙ mild.0 x.work.asked
none_asked limits context (Ends m ∷ steps) x free mild =
    none_asked limits context steps (step_by limits context (Ends m) x) free mild.1 ∙ mild.0 x.work.asked
none_asked limits context (Reads given ∷ steps) x free mild = absurd free

pub none_read : (limits : Limits) (context : Context) (steps : List Step) (x : ReaderState) → NoneGiven steps
    → (steps_by limits context steps x).reading ≡ x.reading
none_read limits context [] x free = refl
none_read limits context (Passes m ∷ steps) x free = none_read limits context steps (step_by limits context (Passes m) x) free
none_read limits context (Ends m ∷ steps) x free = none_read limits context steps (step_by limits context (Ends m) x) free
none_read limits context (Reads given ∷ steps) x free = absurd free

-- Lemmas about turns

-- Behind a turn something is asked between two pieces alone.
pub record Rests (x : ReaderState) : Type 0 where
  pub inside : is_between x.reading ≡ false → x.work.asked ≡ Nothing
  pub last : ends_last x.reading.stack ≡ true
  pub spaced : IsSpaced grammar known x.reading.stack

rests_on : (limits : Limits) (context : Context) (steps : List Step) (x : ReaderState) → NoneGiven steps → AllMild steps → Rests x
    → Rests (steps_by limits context steps x)
rests_on limits context steps x free mild r =
    let same = none_read limits context steps x free in
    record {
      inside = λ e. none_asked limits context steps x free mild ∙ r.inside (ap is_between (sym same) ∙ e);
      last = ap (λ (q : Reading). ends_last q.stack) same ∙ r.last;
      spaced = subst (λ (q : Reading). IsSpaced grammar known q.stack) (sym same) r.spaced;
    }

mild_calm : (limits : Limits) (context : Context) (m : Between) (x : ReaderState) → ((a : Request) → m.asked a ≡ a) → Calm x
    → Calm (step_by limits context (Passes m) x)
mild_calm limits context m x mild c = record { asks = mild x.work.asked ∙ c.asks; last = c.last; spaced = c.spaced }

turn_by : (limits : Limits) (context : Context) (steps : List Step) (x : ReaderState) → AllMild steps → Shape steps → Calm x
    → Rests (steps_by limits context steps x)
turn_by limits context steps x mild (NoToken free) c =
    rests_on limits context steps x free mild (record { inside = λ _. c.asks; last = c.last; spaced = c.spaced })
turn_by limits context steps x mild (OneToken m given rest is free) c =
    let mild2 : AllMild (Passes m ∷ Reads given ∷ rest) = subst AllMild is mild in
    let y : ReaderState = step_by limits context (Passes m) x in
    let s = given_settled limits context given y (mild_calm limits context m x mild2.0 c) in
    subst (λ (all : List Step). Rests (steps_by limits context all x)) (sym is)
    (rests_on limits context rest (step_by limits context (Reads given) y) free mild2.1
    (record { inside = s.inside; last = s.last; spaced = s.spaced }))
turn_by limits context steps x mild (TwoTokens m given next rest is is_hash free) c =
    let mild2 : AllMild (Passes m ∷ Reads given ∷ Reads next ∷ rest) = subst AllMild is mild in
    let y : ReaderState = step_by limits context (Passes m) x in
    let z : ReaderState = step_by limits context (Reads given) y in
    let first = given_settled limits context given y (mild_calm limits context m x mild2.0 c) in
    let s = given_settled limits context next z (record { asks = first.hash is_hash; last = first.last; spaced = first.spaced }) in
    subst (λ (all : List Step). Rests (steps_by limits context all x)) (sym is)
    (rests_on limits context rest (step_by limits context (Reads next) z) free mild2.1
    (record { inside = s.inside; last = s.last; spaced = s.spaced }))

pub turn_rests : (limits : Limits) (sources : Sources) (o : Choices) (s : State) → Calm (stand_of s) → Rests (stand_of (stepped limits o s))
turn_rests limits sources o s c =
    turn_by limits (context_of o s) (side_steps limits o s) (stand_of s) (mild_at limits o (position_of s.reading) s)
    (shape_at limits o (position_of s.reading) s) c

-- Lemmas about the state behind a turn

not_between : (r : Reading) → is_mode_ended r.mode ≡ true → is_between r ≡ false
not_between r e = by_mode r.mode e
  where
    by_mode : (m : Recovery) → is_mode_ended m ≡ true → (reads m && is_empty r.stack) ≡ false
    by_mode Recovery.Ended q = refl
    by_mode Recovery.Reads q = absurd (true≢false (sym q))
    by_mode Recovery.SkipsRoutine q = absurd (true≢false (sym q))
    by_mode Recovery.SkipsDirective q = absurd (true≢false (sym q))

rested_calm : (y : State) → Calm (stand_of y) → Calm (stand_of (rested y))
rested_calm y c = of_both (λ (x : State). Calm (stand_of x)) (has_ended y) y (cond (is_resting y) (piece_closed y) y) (λ _. c)
    (λ _. of_both (λ (x : State). Calm (stand_of x)) (is_resting y) (piece_closed y) y
    (λ _. record { asks = c.asks; last = c.last; spaced = c.spaced }) (λ _. c))

left_calm : (waiting : List Waiting) (y : State) → Calm (stand_of y) → Calm (stand_of (left_by waiting y))
left_calm [] y c = c
left_calm (w ∷ waiting) y c = record { asks = c.asks; last = c.last; spaced = c.spaced }

none_calm : (unit : Place) (text : List ℕ) (why : Included) (y : State) → Calm (stand_of y)
    → Calm (stand_of (none_included unit text why y))
none_calm unit text Included.Entered y c = c
none_calm unit text Included.NotThere y c = record { asks = c.asks; last = c.last; spaced = c.spaced }
none_calm unit text Included.TooDeep y c = record { asks = c.asks; last = c.last; spaced = c.spaced }

included_calm : (sources : Sources) (o : Choices) (unit : Place) (text : List ℕ) (i : Inclusion) (y : State) → Calm (stand_of y)
    → Calm (stand_of (included_by sources o unit text i y))
included_calm sources o unit text (Opens name) y c = record { asks = c.asks; last = c.last; spaced = c.spaced }
included_calm sources o unit text (OpensNone why) y c = none_calm unit text why y c

answered_calm : (a : Request) (sources : Sources) (o : Choices) (y : State) → Calm (stand_of y) → Calm (stand_of (answered a sources o y))
answered_calm (Include text unit) sources o y c = included_calm sources o unit text (inclusion sources o.directories text y.nesting) y c
answered_calm End sources o y c = record { asks = c.asks; last = c.last; spaced = c.spaced }
answered_calm (Characters set) sources o y c = record { asks = c.asks; last = c.last; spaced = c.spaced }
answered_calm Nothing sources o y c = c

-- where no fatal message came
gone_calm : (sources : Sources) (o : Choices) (x : State) → Rests (stand_of x) → (b : Bool) → is_mode_ended x.reading.mode ≡ b
    → Calm (stand_of (if b then left x else answered x.work.asked sources o (asked_nothing x)))
gone_calm sources o x r true e =
    left_calm x.nesting.waiting (file_closed x) (record { asks = r.inside (not_between x.reading e); last = r.last; spaced = r.spaced })
gone_calm sources o x r false e =
    answered_calm x.work.asked sources o (asked_nothing x) (record { asks = refl; last = r.last; spaced = r.spaced })

pub followed_calm : (sources : Sources) (o : Choices) (x : State) → x.is_supplied ≡ false → Rests (stand_of x) → (b : Bool)
    → x.work.report.counts.is_over ≡ b → has_ended (followed sources o x) ≡ false → Calm (stand_of (followed sources o x))
followed_calm sources o x of_file r true over going =
    absurd (true≢false (sym (ap has_ended (followed_over sources o x over) ∙ over_ends x over) ∙ going))
followed_calm sources o x of_file r false over going =
    let carried : carried_out sources o x
    ≡ (if is_mode_ended x.reading.mode then left x else answered x.work.asked sources o (asked_nothing x)) =
    ap (λ b. if b then x else if is_mode_ended x.reading.mode then left x else answered x.work.asked sources o (asked_nothing x)) over in
    subst (λ (b : Bool). Calm (stand_of (rested (if b then x else carried_out sources o x)))) (sym of_file)
    (rested_calm (carried_out sources o x)
    (subst (λ (y : State). Calm (stand_of y)) (sym carried) (gone_calm sources o x r (is_mode_ended x.reading.mode) refl)))

-- Lemmas about all turns

second_none : (a b : Bool) → (a || b) ≡ false → a ≡ false
second_none true b e = absurd (true≢false e)
second_none false b e = refl

turns_regular : (limits : Limits) (sources : Sources) (o : Choices) (n : ℕ) (s : State) → s.is_supplied ≡ false
    → (has_ended s ≡ false → Calm (stand_of s)) → AreRegular limits sources o n s
turns_regular limits sources o zero s of_file calm = tt
turns_regular limits sources o (suc n) s of_file calm = λ going.
    let x : State = stepped limits o s in
    let r : Rests (stand_of x) = turn_rests limits sources o s (calm going) in (
      record { asks_at_ends = λ e _. r.inside (second_none (is_between x.reading) (is_mode_ended x.reading.mode) e) },
      turns_regular limits sources o n (followed sources o x) (followed_supplied sources o x ∙ of_file)
          (λ on. followed_calm sources o x of_file r x.work.report.counts.is_over refl on),
    )

pub sources_regular : (limits : Limits) (sources : Sources) (o : Choices) (name : List ℕ) (n : ℕ)
    → AreRegular limits sources o n (start sources o name)
sources_regular limits sources o name n =
    turns_regular limits sources o n (start sources o name) refl (λ _. record { asks = refl; last = refl; spaced = tt })

-- In the text of a supplied routine nothing is done that is asked for, so each turn is regular.
pub text_regular : (limits : Limits) (sources : Sources) (o : Choices) (n : ℕ) (s : State) → s.is_supplied ≡ true
    → AreRegular limits sources o n s
text_regular limits sources o zero s supplied = tt
text_regular limits sources o (suc n) s supplied = λ going. (
  record { asks_at_ends = λ _ of_file. absurd (true≢false (sym supplied ∙ of_file)) },
  text_regular limits sources o n (followed sources o (stepped limits o s)) (followed_supplied sources o (stepped limits o s) ∙ supplied),
)
