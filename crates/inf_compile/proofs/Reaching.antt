-- Reading ends, whatever the sources are: a turn ends it, takes something of the innermost file, leaves that file, or enters another one;
-- and no more than sixteen are open.
use Rattle.std.proofs.Common.{◌≡◌, ◌⊎◌, inl, inr, ℕ, zero, suc, ◌+◌, ◌<◌, ◌≤◌, ◌||◌, List, [], ◌∷◌, length, map, Bool, true, false, not}
use Rattle.std.proofs.Common.{nat_le, cond, Option, Some, None, refl, sym, ap, subst, ◌∙◌, arith}
use Rattle.std.proofs.lemmas.Bool.{leb-false}
use Rattle.inf_settings.specs.Bounds.{limits_of, Limits}
use Rattle.inf_scanner.proofs.TokenLaws.{tokens_take_bytes}
use Rattle.inf_scanner.specs.declared.tokens.Place.{Place}
use Rattle.inf_devices.specs.Files.{Sources}
use Rattle.inf_lexer.specs.{Entering.first_there, Names.can_name, Names.candidates}
use Rattle.inf_characters.specs.declared.characters.CharSet.{CharSet}
use Rattle.inf_sources.specs.{Choosing.waiting_with, Cursors.read, declared.open_files.Included.Included}
use Rattle.inf_sources.specs.Inclusions.{Inclusion, Nesting, Opens, OpensNone, Waiting, by_first, inclusion, innermost_name}
use Rattle.inf_unit.proofs.Cases.{of_both}
use Rattle.inf_unit.specs.Directives.{Request, Nothing, Include, End, Characters}
use Rattle.inf_conditionals.specs.Judging.{judged}
use Rattle.inf_reader.specs.{Handing.said_told, Handing.site_of, Reading.is_mode_ended}
use Rattle.inf_session.specs.Choices.{Choices}
use Rattle.inf_session.specs.Session.{State, answered, asked_nothing, file_closed, followed, has_ended, carried_out, context_of}
use Rattle.inf_session.specs.Session.{included_by, is_resting, left, left_by, none_included, piece_closed, rested, run, stand_of, start}
use Rattle.inf_session.specs.Session.{stepped, token_of, turn}
use Rattle.inf_ending.specs.Ending.{Outcome, missing}
use Rattle.inf_session.proofs.{Leadings.run_going, Leadings.run_sum, Stepping.end_ends}
use Rattle.inf_compile.specs.{Outcome.IsOutcomeOf, Outcome.ending_of, OutcomeLaws.OutcomesExist}

-- Lemmas about a turn

-- the rests of files that wait, whatever character set they are read by
abbrev rests : List Waiting → List (List ℕ)
rests waiting = map (λ (w : Waiting). w.cursor.rest) waiting

rests_length : (waiting : List Waiting) → length (rests waiting) ≡ length waiting
rests_length [] = refl
rests_length (w ∷ waiting) = ap suc (rests_length waiting)

same_rests : (set : CharSet) (waiting : List Waiting) → rests (map (waiting_with set) waiting) ≡ rests waiting
same_rests set [] = refl
same_rests set (w ∷ waiting) = ap (λ (rs : List (List ℕ)). w.cursor.rest ∷ rs) (same_rests set waiting)

-- A turn that does not end reading takes bytes of the innermost file, leaves it, or enters another one behind taking bytes.
data Moves (was now : Nesting) : Type 0 where
  Stays : rests now.waiting ≡ rests was.waiting → length now.cursor.rest < length was.cursor.rest → Moves was now
  Leaves : (w : List ℕ) (others : List (List ℕ)) → rests was.waiting ≡ w ∷ others → now.cursor.rest ≡ w → rests now.waiting ≡ others →
      Moves was now
  Enters : (w : List ℕ) → rests now.waiting ≡ w ∷ rests was.waiting → length w < length was.cursor.rest
      → length (rests was.waiting) < 15 → Moves was now

abbrev Goes : Nesting → State → Type 0
Goes was t = (has_ended t ≡ true) ⊎ Moves was t.nesting

or_second : (a b : Bool) → b ≡ true → (a || b) ≡ true
or_second true b e = refl
or_second false b e = e

-- with a fatal message, or at the end of the main source, reading has ended
over_ends : (s : State) → s.work.report.counts.is_over ≡ true → has_ended s ≡ true
over_ends s e = or_second s.is_over _ (ap (λ b. b || is_mode_ended s.reading.mode) e)

mode_ends : (s : State) → is_mode_ended s.reading.mode ≡ true → has_ended s ≡ true
mode_ends s e = or_second s.is_over _ (or_second s.work.report.counts.is_over _ e)

-- the innermost file is left
left_goes : (was : Nesting) (waiting : List Waiting) (s : State) → rests was.waiting ≡ rests waiting → is_mode_ended s.reading.mode ≡ true →
    Goes was (left_by waiting (file_closed s))
left_goes was [] s same e = inl (mode_ends (file_closed s) e)
left_goes was (w ∷ waiting) s same e = inr (Leaves w.cursor.rest (rests waiting) same refl refl)

-- a file is entered only where there is room for it
opens_room : (can deep : Bool) (first : Option (List ℕ)) (name : List ℕ) →
    cond (not can) (OpensNone Included.NotThere) (cond deep (OpensNone Included.TooDeep) (by_first first)) ≡ Opens name → deep ≡ false
opens_room false deep first name e = cc
opens_room true true first name e = cc
opens_room true false first name e = refl

has_room : (sources : Sources) (directories : List (List ℕ)) (text name : List ℕ) (n : Nesting) →
    inclusion sources directories text n ≡ Opens name → length n.waiting < 15
has_room sources directories text name n e =
    let flat : nat_le 16 (length n.waiting + 1) ≡ false =
    opens_room (can_name text) (nat_le 16 (length n.waiting + 1)) (first_there sources (candidates directories (innermost_name n) text))
    name e in
    omega (arith, leb-false 16 (length n.waiting + 1) flat)

none_stays : (unit : Place) (text : List ℕ) (why : Included) (s : State) → (none_included unit text why s).nesting ≡ s.nesting
none_stays unit text Included.Entered s = refl
none_stays unit text Included.NotThere s = refl
none_stays unit text Included.TooDeep s = refl

included_goes : (was : Nesting) (sources : Sources) (o : Choices) (unit : Place) (text : List ℕ) (i : Inclusion) (s : State) →
    inclusion sources o.directories text s.nesting ≡ i
    → rests s.nesting.waiting ≡ rests was.waiting → length s.nesting.cursor.rest < length was.cursor.rest → Goes was
    (included_by sources o unit text i s)
included_goes was sources o unit text (Opens name) s e same less =
    let room = has_room sources o.directories text name s.nesting e in let w = s.nesting.cursor.rest in
    inr (Enters w (ap (λ (rs : List (List ℕ)). w ∷ rs) same) less (omega (arith, room, ap length same, rests_length s.nesting.waiting)))
included_goes was sources o unit text (OpensNone why) s e same less =
    inr (subst (λ (n : Nesting). Moves was n) (sym (none_stays unit text why s)) (Stays same less))

answered_goes : (was : Nesting) (a : Request) (sources : Sources) (o : Choices) (s : State) → rests s.nesting.waiting ≡ rests was.waiting →
    length s.nesting.cursor.rest < length was.cursor.rest → Goes was (answered a sources o s)
answered_goes was (Include text unit) sources o s same less =
    included_goes was sources o unit text (inclusion sources o.directories text s.nesting) s refl same less
answered_goes was End sources o s same less = inl refl
answered_goes was (Characters set) sources o s same less = inr (Stays (same_rests set s.nesting.waiting ∙ same) less)
answered_goes was Nothing sources o s same less = inr (Stays same less)

-- carrying out the request of a token, which takes bytes or ends the file, makes the turn go on
carried_out_goes : (was : Nesting) (sources : Sources) (o : Choices) (s : State) → rests s.nesting.waiting ≡ rests was.waiting
    → (is_mode_ended s.reading.mode ≡ true) ⊎ (length s.nesting.cursor.rest < length was.cursor.rest) → Goes was (carried_out sources o s)
carried_out_goes was sources o s same took = of_both (Goes was) s.work.report.counts.is_over s _ (λ over. inl (over_ends s over))
    (λ _. of_both (Goes was) (is_mode_ended s.reading.mode) (left s) (answered s.work.asked sources o (asked_nothing s))
    (λ e. left_goes was s.nesting.waiting s (sym same) e)
    (λ reads. elim took as (λ _. Goes was (answered s.work.asked sources o (asked_nothing s))) [
      | inl e ↦ absurd (let never : true ≡ false = sym e ∙ reads in cc)
      | inr less ↦ answered_goes was s.work.asked sources o (asked_nothing s) same less
    ]))

-- reporting conditionals changes nothing of a turn
rested_goes : (was : Nesting) (s : State) → Goes was s → Goes was (rested s)
rested_goes was s g = of_both (Goes was) (has_ended s) s (cond (is_resting s) (piece_closed s) s) (λ _. g)
    (λ going. of_both (Goes was) (is_resting s) (piece_closed s) s (λ _. elim g as (λ _. Goes was (piece_closed s)) [
      | inl e ↦ absurd (let never : true ≡ false = sym e ∙ going in cc)
      | inr m ↦ inr m
    ]) (λ _. g))

-- a token takes bytes, or is the end of its file, and ends it
stepped_takes : (limits : Limits) (o : Choices) (s : State) → (is_mode_ended (stepped limits o s).reading.mode ≡ true) ⊎
    (length (stepped limits o s).nesting.cursor.rest < length s.nesting.cursor.rest)
stepped_takes limits o s =
    let c = s.nesting.cursor in let t = token_of s in
    let b = judged (site_of o.settings s.reading) s.work.output t s.conditions in
    elim (tokens_take_bytes c.set c.limit c.lines c.rest).one as (λ _. (is_mode_ended (stepped limits o s).reading.mode ≡ true) ⊎
    (length (stepped limits o s).nesting.cursor.rest < length s.nesting.cursor.rest)) [
      | inl end ↦ inl (end_ends limits (context_of o s) t.kind t.bytes t.place t.is_class s.work.output s.conditions
          (said_told limits b.now.said (context_of o s) (stand_of s)) (site_of o.settings s.reading) b.now b.judged refl end)
      | inr less ↦ inr less
    ]

turn_goes : (limits : Limits) (sources : Sources) (o : Choices) (s : State) → Goes s.nesting (turn limits sources o s)
turn_goes limits sources o s = elim (rested_goes s.nesting (carried_out sources o (stepped limits o s))
    (carried_out_goes s.nesting sources o (stepped limits o s) refl (stepped_takes limits o s)))
    as (λ _. Goes s.nesting (turn limits sources o s)) [
      | inl e ↦ inl e
      | inr m ↦ inr m
    ]

-- Lemmas about turns

-- The innermost file was left for the one around it.
abbrev Popped : List (List ℕ) → State → Type 0
Popped [] t = ⊥
Popped (w ∷ others) t = (t.nesting.cursor.rest ≡ w) × (rests t.nesting.waiting ≡ others)

-- Some turns end reading, or leave the innermost file.
abbrev Reaches : Limits → Sources → Choices → State → List (List ℕ) → Type 0
Reaches limits sources o s waiting =
    (turns : ℕ) × ((has_ended (run limits sources o turns s) ≡ true) ⊎ Popped waiting (run limits sources o turns s))

-- Some turns end reading or leave the innermost file, in each state where `room` more files may be open, and less than `n` bytes are left
-- of the innermost one.
abbrev AllReach : Limits → Sources → Choices → ℕ → ℕ → Type 0
AllReach limits sources o room n = (s : State) → length s.nesting.cursor.rest < n → 15 ≤ length (rests s.nesting.waiting) + room →
    Reaches limits sources o s (rests s.nesting.waiting)

reaches_by : (limits : Limits) (sources : Sources) (o : Choices) (s t : State) (a : ℕ) (waiting : List (List ℕ)) →
    run limits sources o a s ≡ t → Reaches limits sources o t waiting → Reaches limits sources o s waiting
reaches_by limits sources o s t a waiting leads r =
    let same : run limits sources o r.0 t ≡ run limits sources o (a + r.0) s =
    ap (run limits sources o r.0) (sym leads) ∙ sym (run_sum limits sources o a r.0 s) in (
      a + r.0,
      elim r.1 as (λ _. (has_ended (run limits sources o (a + r.0) s) ≡ true) ⊎ Popped waiting (run limits sources o (a + r.0) s)) [
        | inl e ↦ inl (ap has_ended (sym same) ∙ e)
        | inr p ↦ inr (subst (λ (x : State). Popped waiting x) same p)
      ],
    )

-- behind a file inside it the outer one goes on
inside_by : (limits : Limits) (sources : Sources) (o : Choices) (room n : ℕ) (s t : State) (w : List ℕ) → AllReach limits sources o room n →
    rests t.nesting.waiting ≡ w ∷ rests s.nesting.waiting
    → length w < n → 15 ≤ length (rests s.nesting.waiting) + room → Reaches limits sources o t (w ∷ rests s.nesting.waiting) →
    Reaches limits sources o t (rests s.nesting.waiting)
inside_by limits sources o room n s t w later opens less deep r = by r.1 where
  by : (has_ended (run limits sources o r.0 t) ≡ true) ⊎ Popped (w ∷ rests s.nesting.waiting) (run limits sources o r.0 t) →
      Reaches limits sources o t (rests s.nesting.waiting)
  by (inl e) = (r.0, inl e)
  by (inr p) =
      let out : State = run limits sources o r.0 t in
      let on : Reaches limits sources o out (rests out.nesting.waiting) =
      later out (omega (arith, ap length p.0, less)) (omega (arith, ap length p.1, deep)) in
      reaches_by limits sources o t out r.0 (rests s.nesting.waiting) refl
      (subst (λ (waiting : List (List ℕ)). Reaches limits sources o out waiting) p.1 on)

-- one turn, and the turns behind it
step_by : (limits : Limits) (sources : Sources) (o : Choices) (room n : ℕ) (s : State) →
    ((inner : ℕ) → room ≡ suc inner → (m : ℕ) → AllReach limits sources o inner m) → AllReach limits sources o room n
    → length s.nesting.cursor.rest < suc n → 15 ≤ length (rests s.nesting.waiting) + room → has_ended s ≡ false →
    Reaches limits sources o s (rests s.nesting.waiting)
step_by limits sources o room n s inside later less deep going = by (turn_goes limits sources o s) where
  next : State
  next = turn limits sources o s

  one : run limits sources o (suc zero) s ≡ next
  one = run_going limits sources o zero s going

  entered : (room : ℕ) (w : List ℕ) → 15 ≤ length (rests s.nesting.waiting) + room →
      ((inner : ℕ) → room ≡ suc inner → (m : ℕ) → AllReach limits sources o inner m) → length (rests s.nesting.waiting) < 15
      → rests next.nesting.waiting ≡ w ∷ rests s.nesting.waiting → Reaches limits sources o next (w ∷ rests s.nesting.waiting)
  entered zero w deep inside few opens = absurd (omega (arith, deep, few))
  entered (suc inner) w deep inside few opens = subst (λ (waiting : List (List ℕ)). Reaches limits sources o next waiting) opens
      (inside inner refl (suc (length next.nesting.cursor.rest)) next (omega arith) (omega (arith, ap length opens, deep)))

  by : Goes s.nesting next → Reaches limits sources o s (rests s.nesting.waiting)
  by (inl e) = (suc zero, inl (ap has_ended one ∙ e))
  by (inr (Stays same takes)) =
      let on : Reaches limits sources o next (rests next.nesting.waiting) =
      later next (omega (arith, takes, less)) (omega (arith, ap length same, deep)) in
      reaches_by limits sources o s next (suc zero) (rests s.nesting.waiting) one
      (subst (λ (waiting : List (List ℕ)). Reaches limits sources o next waiting) same on)
  by (inr (Leaves w others was cursor rest)) = (
    suc zero,
    inr (subst (λ (ws : List (List ℕ)). Popped ws (run limits sources o (suc zero) s)) (sym was)
        (subst (λ (x : State). Popped (w ∷ others) x) (sym one) (cursor, rest))),
  )
  by (inr (Enters w opens takes few)) = reaches_by limits sources o s next (suc zero) (rests s.nesting.waiting) one
      (inside_by limits sources o room n s next w later opens (omega (arith, takes, less)) deep (entered room w deep inside few opens))

by_rest : (limits : Limits) (sources : Sources) (o : Choices) (room : ℕ) →
    ((inner : ℕ) → room ≡ suc inner → (m : ℕ) → AllReach limits sources o inner m) → (n : ℕ) → AllReach limits sources o room n
by_rest limits sources o room inside zero s less deep = absurd (omega (arith, less))
by_rest limits sources o room inside (suc n) s less deep = by (has_ended s) refl (by_rest limits sources o room inside n) where
  by : (b : Bool) → has_ended s ≡ b → AllReach limits sources o room n → Reaches limits sources o s (rests s.nesting.waiting)
  by true e later = (zero, inl e)
  by false going later = step_by limits sources o room n s inside later less deep going

reach : (limits : Limits) (sources : Sources) (o : Choices) (room n : ℕ) → AllReach limits sources o room n
reach limits sources o zero n = by_rest limits sources o zero (λ inner never m. absurd (omega (arith, never))) n
reach limits sources o (suc room) n =
    by_rest limits sources o (suc room) (λ inner is m. subst (λ (k : ℕ). AllReach limits sources o k m) (omega (arith, is))
    (reach limits sources o room m)) n

-- Lemmas about an outcome

outcome_by : (x : Option (List ℕ)) (sources : Sources) (o : Choices) (serial name : List ℕ) →
    (e : Outcome) × IsOutcomeOf x sources o serial name e
outcome_by None sources o serial name = (missing name, refl)
outcome_by (Some source) sources o serial name =
    by (reach (limits_of o.settings) sources o 15 (suc (length first.nesting.cursor.rest)) first (omega arith) (omega arith))
  where
    first : State
    first = start sources o name

    by : Reaches (limits_of o.settings) sources o first [] → (e : Outcome) × IsOutcomeOf (Some source) sources o serial name e
    by (turns, inl e) = (
      ending_of (limits_of o.settings) o serial (run (limits_of o.settings) sources o turns first),
      record {
        final = run (limits_of o.settings) sources o turns first;
        is_read = record { turns = turns; leads = refl; ends = e };
        is_ending = refl;
      },
    )
    by (turns, inr never) = absurd never

pub outcomes_exist : OutcomesExist
outcomes_exist sources o serial name = outcome_by (sources name) sources o serial name
