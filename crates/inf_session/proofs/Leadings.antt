-- Where turns lead: an end stays, turns follow one another, and lines are only added to those that were written.
use Rattle.std.proofs.Common.{◌≡◌, ◌⊎◌, inl, inr, ℕ, suc, zero, ◌+◌, ◌<◌, ◌||◌, List, [], ◌∷◌, ◌++◌, Bool, true, false, Option}
use Rattle.std.proofs.Common.{cond, refl, sym, ap, subst, ◌∙◌, append_assoc, append-nil, arith}
use Rattle.inf_settings.specs.Bounds.{Limits}
use Rattle.inf_devices.specs.{Files.Openings, Files.Sources, Sinks.Takes}
use Rattle.inf_unit.proofs.Cases.{of_both}
use Rattle.inf_sources.specs.{Open.Open, declared.open_files.Included.Included}
use Rattle.inf_sources.specs.Inclusions.{Inclusion, Nesting, Opens, OpensNone, OpensTooMany, Waiting, inclusion}
use Rattle.inf_unit.specs.Directives.{Request, Nothing, Include, End, Characters}
use Rattle.inf_reader.specs.Reading.{is_mode_ended}
use Rattle.inf_scanner.specs.declared.tokens.Place.{Place}
use Rattle.inf_session.specs.Choices.{Choices}
use Rattle.inf_session.specs.Leading.{CutsShort, NotTried, StopsFor, StopsAtInclusion, Writes, WroteAll}
use Rattle.inf_session.specs.Session.{State, answered, asked_nothing, file_closed, followed, has_ended, carried_out, included_by, is_parted}
use Rattle.inf_session.specs.Session.{is_resting, left, left_by, none_included, part, piece_closed, rested, run, stepped, turn}
use Rattle.inf_ending.specs.Delivered.{IsFront}
use Rattle.inf_ending.proofs.Delivering.{takes_none, takes_then}

-- Lemmas about fronts

pub front_same : (xs : List ℕ) → IsFront xs xs
front_same xs = record { rest = []; is_cut = sym (append-nil xs) }

pub front_more : (xs ys : List ℕ) → IsFront xs (xs ++ ys)
front_more xs ys = record { rest = ys; is_cut = refl }

pub front_then : {xs ys zs : List ℕ} → IsFront xs ys → IsFront ys zs → IsFront xs zs
front_then {xs = xs} a b = record {
  rest = a.rest ++ b.rest;
  is_cut = b.is_cut ∙ ap (λ l. l ++ b.rest) a.is_cut ∙ append_assoc xs a.rest b.rest;
}

-- Lemmas about the lines that were written, behind a turn

abbrev SameTold : State → State → Type 0
SameTold s t = t.told ≡ s.told

left_by_told : (waiting : List Waiting) (s : State) → SameTold s (left_by waiting s)
left_by_told [] s = refl
left_by_told (w ∷ waiting) s = refl

none_told : (unit : Place) (text : List ℕ) (why : Included) (s : State) → SameTold s (none_included unit text why s)
none_told unit text Included.Entered s = refl
none_told unit text Included.NotThere s = refl
none_told unit text Included.TooDeep s = refl

pub rested_told : (s : State) → SameTold s (rested s)
rested_told s =
    of_both (SameTold s) (has_ended s) s _ (λ _. refl) (λ _. of_both (SameTold s) (is_resting s) (piece_closed s) s (λ _. refl) (λ _. refl))

module _ (sources : Sources) (o : Choices) where
  included_told : (unit : Place) (text : List ℕ) (i : Inclusion) (s : State) → SameTold s (included_by sources o unit text i s)
  included_told unit text (Opens name) s = refl
  included_told unit text (OpensNone why) s = none_told unit text why s

  answered_told : (asked : Request) (s : State) → SameTold s (answered asked sources o s)
  answered_told (Include text unit) s = included_told unit text (inclusion sources o.directories text s.nesting) s
  answered_told End s = refl
  answered_told (Characters set) s = refl
  answered_told Nothing s = refl

  carried_out_told : (s : State) → SameTold s (carried_out sources o s)
  carried_out_told s = of_both (SameTold s) s.work.report.counts.is_over s _ (λ _. refl)
      (λ _. of_both (SameTold s) (is_mode_ended s.reading.mode) (left s) (answered s.work.asked sources o (asked_nothing s))
      (λ _. left_by_told s.nesting.waiting (file_closed s)) (λ _. answered_told s.work.asked (asked_nothing s)))

-- Lemmas about turns behind one another

-- One of two numbers is the other and some more.
apart : (m n : ℕ) → ((k : ℕ) × (n ≡ m + k)) ⊎ ((k : ℕ) × (m ≡ n + k))
apart zero n = inl (n, omega arith)
apart (suc m) zero = inr (suc m, omega arith)
apart (suc m) (suc n) = elim (apart m n) as (λ _. ((k : ℕ) × (suc n ≡ suc m + k)) ⊎ ((k : ℕ) × (suc m ≡ suc n + k)))
    [ inl less ↦ inl (less.0, omega (arith, less.1)) | inr more ↦ inr (more.0, omega (arith, more.1)) ]

-- where no part has ended, reading has not ended
pub still_going : (s : State) → is_parted s ≡ false → has_ended s ≡ false
still_going s e = by (has_ended s) _ e where
  by : (a b : Bool) → (a || b) ≡ false → a ≡ false
  by true b e = cc
  by false b e = refl

module _ (limits : Limits) (sources : Sources) (o : Choices) where
  abbrev next : State → State
  next = turn limits sources o

  abbrev ran : ℕ → State → State
  ran = run limits sources o

  abbrev parts : ℕ → State → State
  parts = part limits sources o

  pub turn_begins : (s : State) → IsFront s.told (turn limits sources o s).told
  turn_begins s =
      let t = stepped limits o s in
      record {
        rest = (followed sources o t).work.report.lines;
        is_cut = ap (λ told. told ++ (followed sources o t).work.report.lines)
            (rested_told (carried_out sources o t) ∙ carried_out_told sources o t);
      }

  pub run_going : (n : ℕ) (s : State) → has_ended s ≡ false
      → run limits sources o (suc n) s ≡ run limits sources o n (turn limits sources o s)
  run_going n s going = ap (λ b. cond b s (ran n (next s))) going

  pub run_ended : (n : ℕ) (s : State) → has_ended s ≡ true → run limits sources o n s ≡ s
  run_ended zero s e = refl
  run_ended (suc n) s e = ap (λ b. cond b s (ran n (next s))) e

  -- some turns behind others
  pub run_sum : (a b : ℕ) (s : State) → run limits sources o (a + b) s ≡ run limits sources o b (run limits sources o a s)
  run_sum zero b s = let none : zero + b ≡ b = omega arith in ap (λ n. ran n s) none
  run_sum (suc a) b s =
      let more : suc a + b ≡ suc (a + b) = omega arith in
      ap (λ n. ran n s) more ∙ by (has_ended s) refl (run_sum a b (next s))
    where
      by : (over : Bool) → has_ended s ≡ over → ran (a + b) (next s) ≡ ran b (ran a (next s)) → ran (suc (a + b)) s ≡ ran b (ran (suc a) s)
      by true e later = run_ended (suc (a + b)) s e ∙ sym (run_ended b s e) ∙ ap (ran b) (sym (run_ended (suc a) s e))
      by false e later = run_going (a + b) s e ∙ later ∙ ap (ran b) (sym (run_going a s e))

  -- one turn more behind others
  pub run_more : (n : ℕ) (s : State) → has_ended (run limits sources o n s) ≡ false →
      run limits sources o (suc n) s ≡ turn limits sources o (run limits sources o n s)
  run_more n s going =
      let one : suc n ≡ n + 1 = omega arith in ap (λ k. ran k s) one ∙ run_sum n 1 s ∙ run_going zero (ran n s) going

  pub run_begins : (n : ℕ) (s : State) → IsFront s.told (run limits sources o n s).told
  run_begins zero s = front_same s.told
  run_begins (suc n) s = of_both (λ t. IsFront s.told t.told) (has_ended s) s (ran n (next s)) (λ _. front_same s.told)
      (λ _. front_then (turn_begins s) (run_begins n (next s)))

  -- behind an end nothing changes
  stays_ended : (n k : ℕ) (s : State) → has_ended (ran n s) ≡ true → ran (n + k) s ≡ ran n s
  stays_ended n k s e = run_sum n k s ∙ run_ended k (ran n s) e

  -- the lines that were written after some turns are a front of those that are written at the end
  pub end_begins : (m n : ℕ) (s : State) → has_ended (run limits sources o n s) ≡ true →
      IsFront (run limits sources o m s).told (run limits sources o n s).told
  end_begins m n s e = elim (apart m n) [
    | inl less ↦ subst (λ (t : State). IsFront (ran m s).told t.told) (sym (ap (λ k. ran k s) less.1 ∙ run_sum m less.0 s))
        (run_begins less.0 (ran m s))
    | inr more ↦ subst (λ (t : State). IsFront t.told (ran n s).told) (sym (ap (λ k. ran k s) more.1 ∙ stays_ended n more.0 s e))
        (front_same (ran n s).told)
  ]

  -- two ends that turns reach from one state are the same
  pub same_end : (m n : ℕ) (s : State) → has_ended (run limits sources o m s) ≡ true → has_ended (run limits sources o n s) ≡ true
      → run limits sources o m s ≡ run limits sources o n s
  same_end m n s e f = elim (apart m n) [
    | inl less ↦ sym (ap (λ k. ran k s) less.1 ∙ stays_ended m less.0 s e)
    | inr more ↦ ap (λ k. ran k s) more.1 ∙ stays_ended n more.0 s f
  ]

  -- Lemmas about parts

  part_by : (n : ℕ) (s : State) (b : Bool) → has_ended s ≡ false → is_parted (next s) ≡ b
      → part limits sources o (suc n) s ≡ cond b (next s) (part limits sources o n (next s))
  part_by n s b going e = ap (λ x. cond x s (cond (is_parted (next s)) (next s) (parts n (next s)))) going
      ∙ ap (λ x. cond x (next s) (parts n (next s))) e

  -- a part of one turn
  pub part_one : (s : State) → has_ended s ≡ false → part limits sources o (suc zero) s ≡ turn limits sources o s
  part_one s going = by (is_parted (next s)) refl where
    by : (b : Bool) → is_parted (next s) ≡ b → parts (suc zero) s ≡ next s
    by true e = part_by zero s true going e
    by false e = part_by zero s false going e

  -- one turn more in a part that has not ended
  pub part_more : (n : ℕ) (s : State) → has_ended s ≡ false → is_parted (part limits sources o (suc n) s) ≡ false
      → part limits sources o (suc (suc n)) s ≡ turn limits sources o (part limits sources o (suc n) s)
  part_more zero s going still =
      let one = part_one s going in let open_still : is_parted (next s) ≡ false = ap is_parted (sym one) ∙ still in
      part_by (suc zero) s false going open_still ∙ part_one (next s) (still_going (next s) open_still) ∙ ap next (sym one)
  part_more (suc n) s going still = by (is_parted (next s)) refl (part_more n (next s)) where
    by : (b : Bool) → is_parted (next s) ≡ b → (has_ended (next s) ≡ false → is_parted (parts (suc n) (next s)) ≡ false
        → parts (suc (suc n)) (next s) ≡ next (parts (suc n) (next s))) → parts (suc (suc (suc n))) s ≡ next (parts (suc (suc n)) s)
    by true e later = let never : true ≡ false = sym (ap is_parted (part_by (suc n) s true going e) ∙ e) ∙ still in cc
    by false e later =
        let on = part_by (suc n) s false going e in
        part_by (suc (suc n)) s false going e ∙ later (still_going (next s) e) (ap is_parted (sym on) ∙ still) ∙ ap next (sym on)

-- Lemmas about the lines that a sink took

-- nothing was done
pub writes_nothing : {step : State → State} {was : List ℕ → State} (old : Option (List ℕ)) → ((told : List ℕ) → step (was told) ≡ was told)
    → Writes step was was old old
writes_nothing {was = was} old same =
    record { lines = []; takes = takes_none old; same = λ told. ap was (append-nil told) ∙ sym (same told) }

-- one step behind another
pub writes_on : {f g step : State → State} {was mid now : List ℕ → State} {old between new : Option (List ℕ)}
    → ((told : List ℕ) → g (was told) ≡ step (f (was told)))
    → Writes f was mid old between → Writes step mid now between new → Writes g was now old new
writes_on {step = step} {now = now} {old = old} {between = between} {new = new} more a b = record {
  lines = a.lines ++ b.lines;
  takes = takes_then old between new a.lines b.lines a.takes b.takes;
  same = λ told. ap now (sym (append_assoc told a.lines b.lines)) ∙ b.same (told ++ a.lines) ∙ ap step (a.same told) ∙ sym (more told);
}

-- a step by another name
pub writes_as : {f g : State → State} {was now : List ℕ → State} {old new : Option (List ℕ)}
    → ((told : List ℕ) → f (was told) ≡ g (was told)) → Writes f was now old new → Writes g was now old new
writes_as same w = record { lines = w.lines; takes = w.takes; same = λ told. w.same told ∙ same told }

pub cuts_as : {f g : State → State} {was : List ℕ → State} {old new : Option (List ℕ)} → ((told : List ℕ) → f (was told) ≡ g (was told))
    → CutsShort f was old new → CutsShort g was old new
cuts_as same c = record {
  front = c.front;
  takes = c.takes;
  begins = λ told. subst (λ (t : State). IsFront (told ++ c.front) t.told) (same told) (c.begins told);
}

-- nothing was written
pub cuts_nothing : {step : State → State} {was : List ℕ → State} (old : Option (List ℕ)) → ((told : List ℕ) → (was told).told ≡ told)
    → ((s : State) → IsFront s.told (step s).told) → CutsShort step was old old
cuts_nothing {step = step} {was = was} old told_is begins = record {
  front = [];
  takes = takes_none old;
  begins = λ told. subst (λ l. IsFront l (step (was told)).told) (told_is told ∙ sym (append-nil told)) (begins (was told));
}

-- a front of the lines was written
pub cuts_in : {step : State → State} {was : List ℕ → State} {old new : Option (List ℕ)} {front lines : List ℕ}
    → ((told : List ℕ) → (step (was told)).told ≡ told ++ lines) → Takes old new front → IsFront front lines → CutsShort step was old new
cuts_in {front = front} writes takes begins = record {
  front = front;
  takes = takes;
  begins = λ told. record {
    rest = begins.rest;
    is_cut = writes told ∙ ap (λ l. told ++ l) begins.is_cut ∙ sym (append_assoc told front begins.rest);
  };
}

-- a step that was broken off, behind another
pub cuts_on : {f g step : State → State} {was mid : List ℕ → State} {old between new : Option (List ℕ)}
    → ((told : List ℕ) → g (was told) ≡ step (f (was told)))
    → Writes f was mid old between → CutsShort step mid between new → CutsShort g was old new
cuts_on {g = g} {step = step} {was = was} {old = old} {between = between} {new = new} more a b = record {
  front = a.lines ++ b.front;
  takes = takes_then old between new a.lines b.front a.takes b.takes;
  begins = λ told. subst (λ l. IsFront l (g (was told)).told) (append_assoc told a.lines b.front)
      (subst (λ (t : State). IsFront ((told ++ a.lines) ++ b.front) t.told) (ap step (a.same told) ∙ sym (more told))
      (b.begins (told ++ a.lines)));
}

-- the sources that a step opens, behind another
pub opens_on : (g step : State → State) {f : State → State} {was mid : List ℕ → State} {old between : Option (List ℕ)}
    {openings : List (List ℕ)} → ((told : List ℕ) → g (was told) ≡ step (f (was told)))
    → Writes f was mid old between → ((told : List ℕ) → openings ≡ (step (mid told)).nesting.openings)
    → (told : List ℕ) → openings ≡ (g (was told)).nesting.openings
opens_on g step more w h told = h (told ++ w.lines) ∙ ap (λ (s : State). s.nesting.openings) (ap step (w.same told) ∙ sym (more told))

-- all lines were written of one step behind another
pub wrote_on : {f g step : State → State} {was mid : List ℕ → State} {old between new : Option (List ℕ)}
    → ((told : List ℕ) → g (was told) ≡ step (f (was told)))
    → Writes f was mid old between → WroteAll step mid between new → WroteAll g was old new
wrote_on {step = step} {old = old} {between = between} {new = new} more w all = record {
  lines = w.lines ++ all.lines;
  takes = takes_then old between new w.lines all.lines w.takes all.takes;
  same = λ told. ap (λ (s : State). s.told) (more told ∙ ap step (sym (w.same told))) ∙ all.same (told ++ w.lines)
      ∙ append_assoc told w.lines all.lines;
}

-- Lemmas about reading that was given up for a file: a device that failed in a part of some time failed in all of it

pub not_tried_more : {failed more : Type 0} {sources : Sources} {directories : List (List ℕ)} {text : List ℕ} {n : Nesting}
    {openings : List (List ℕ)} → (failed → more)
    → NotTried failed sources directories text n openings → NotTried more sources directories text n openings
not_tried_more {more = more} {sources = sources} {directories = directories} {text = text} {n = n} {openings = openings} later h = record {
  cause = elim h.cause as (λ _. more ⊎ OpensTooMany (inclusion sources directories text n) n openings)
      [ inl rose ↦ inl (later rose) | inr many ↦ inr many ];
  openings_are = h.openings_are;
}

pub stops_at_more : {failed more : Type 0} {sources : Sources} {o : Choices} {s : State} {openings : List (List ℕ)} {name : List ℕ}
    → (failed → more) → StopsAtInclusion failed sources o s openings name → StopsAtInclusion more sources o s openings name
stops_at_more later h = record {
  unit = h.unit;
  asks = h.asks;
  reads = h.reads;
  goes_on = h.goes_on;
  not_tried = not_tried_more later h.not_tried;
}

pub stops_more : (limits : Limits) (failed more : Type 0) (sources : Sources) (o : Choices) (s : State) (start now : Openings)
    (files : Open) (name : List ℕ) → (failed → more)
    → StopsFor limits failed sources o s start now files name → StopsFor limits more sources o s start now files name
stops_more limits failed more sources o s start now files name later (inl h) = inl (record {
  cause = elim h.cause as (λ _. more ⊎ (16777216 < files.lexer.window.given)) [ inl rose ↦ inl (later rose) | inr far ↦ inr far ];
  not_ended = h.not_ended;
  goes_on = h.goes_on;
  openings = h.openings;
  names = h.names;
  numbers = h.numbers;
  name_is = h.name_is;
})
stops_more limits failed more sources o s start now files name later (inr h) = inr (stops_at_more later h)
