-- Where reading was given up, and the messages that were written up to there.
use Rattle.std.proofs.Common.{◌≡◌, ◌⊎◌, ℕ, ◌+◌, ◌-◌, ◌<◌, ◌≤◌, List, [], ◌∷◌, length, map, min, reverse, get_or, drop, Option, arith}
use Rattle.std.proofs.Common.{Result, IfErr, inl, inr, sym, ap, subst, ◌∙◌}
use Rattle.inf_settings.specs.Bounds.{limits_of, Limits}
use Rattle.inf_devices.specs.{Sinks.Takes, declared.files.Files.Ghosts as Files}
use Rattle.inf_devices.specs.Files.{Counts, Opening, Openings, Sources, counts_opened, last_count, most_source_bytes, opened}
use Rattle.inf_characters.specs.declared.characters.CharSet.{CharSet}
use Rattle.inf_lexer.specs.{Entering.AreOpened, Readers.Reader, Readers.at_front}
use Rattle.inf_lexer.specs.Unread.{innermost, innermost_place, unread as unread_now, unread_of}
use Rattle.inf_lexer.proofs.Opened.{many_opened, opened_stay}
use Rattle.inf_sources.specs.{Calls.AreCounted, Calls.IsUnreadable, Calls.Kept, Calls.Went, Calls.given_each, Cursors.Unfinished}
use Rattle.inf_sources.specs.{Heading.head_front, Inclusions.Nesting, Inclusions.innermost_name, declared.open_file.OpenFile.OpenFile}
use Rattle.inf_sources.specs.Open.{AllGiven, AreTracked, Each, IsCounted, IsFrontOf, IsNested, Open, closed_to, lexers, lexers_of}
use Rattle.inf_sources.specs.Open.{opened_since}
use Rattle.inf_sources.proofs.Places.{innermost_of, last_of}
use Rattle.inf_session.specs.{Choices.Choices, Leading.GivenUp, Leading.OpensAll, Leading.StopsAtInclusion, Leading.StopsFor}
use Rattle.inf_session.specs.{Leading.StopsInToken, Session.State, Session.has_ended, Session.run, Session.start, Session.stepped}
use Rattle.inf_ending.specs.{Faults.IfRead, declared.faults.Fault.Fault}
use Rattle.inf_session.proofs.Leadings.{stops_more}
use Rattle.inf_compile.proofs.Telling.{if_read_more}
use Rattle.inf_ending.proofs.Delivering.{takes_none}
use Rattle.inf_compile.specs.Comes.{AreAt, GivenUpFrom, Heard, IsUnread, OpenedSome, StopsReading, main_front, numbers_of}
use Rattle.inf_compile.proofs.{Concluding.at_all, Heading.heard_in_head}

-- a reader that opened a main source, of which nothing was read yet, counts what was given of it
pub counted_at_front : (set : CharSet) (limit : ℕ) (main : Open) (old new : Counts) → new ≡ counts_opened old
    → (main.lexer ≡ at_front set limit 0) × (main.outer ≡ []) → AreCounted old.too_long (given_each main) new.each new.too_long
counted_at_front set limit main old new opened front =
    let given : given_each main ≡ 0 ∷ [] =
    ap (λ (r : Reader). r.window.given ∷ map (λ (q : Reader). q.window.given) (lexers_of (reverse main.outer))) front.0
    ∙ ap (λ (fs : List OpenFile). 0 ∷ map (λ (q : Reader). q.window.given) (lexers_of (reverse fs))) front.1 in
    subst (λ (c : Counts). AreCounted old.too_long (given_each main) c.each c.too_long) (sym opened)
    (subst (λ (gs : List ℕ). AreCounted old.too_long gs (0 ∷ old.each) old.too_long) (sym given)
    ((omega arith, λ over. omega (arith, over)), omega arith))

-- where the innermost lexer was given too many bytes, the reader counts an opening more that is too long
long_given : (base : ℕ) (now : Open) (c : Counts) → AreCounted base (given_each now) c.each c.too_long
    → most_source_bytes < now.lexer.window.given → min (base + 1) last_count ≤ c.too_long
long_given base now c counted over = by_each c.each counted where
  by_each : (each : List ℕ) → AreCounted base (given_each now) each c.too_long → min (base + 1) last_count ≤ c.too_long
  by_each [] h = absurd h
  by_each (n ∷ outer) h = h.0.1 (omega (arith, h.0.0, over))

-- A file was not read, between the moment when the main source was entered and that when all were closed.
pub unread_by : {S : Type 0} (f : Files S) (first entered read last : S) (main now : Open) → Kept f first entered →
    AreCounted (f.counts first).too_long (given_each main) (f.counts entered).each (f.counts entered).too_long
    → AreOpened main.nest.names (f.opened entered) → Went f entered read main now
    → Kept f read last → (f.faults last ≡ f.faults read) × ((f.counts last).too_long ≡ (f.counts read).too_long)
    → IsUnreadable f entered read main now → IsUnread f first last
unread_by f first entered read last main now kept counted opened went closed same (inl (inl less)) =
    inl (inl (omega (arith, less, kept.faults, same.0)))
unread_by f first entered read last main now kept counted opened went closed same (inl (inr far)) = inl (inr (same.0 ∙ far))
unread_by f first entered read last main now kept counted opened went closed same (inr (inl long)) =
    let base = (f.counts first).too_long in
    inr (inl (omega (arith, long_given base now (f.counts read) (went.counted base counted) long, same.1)))
unread_by f first entered read last main now kept counted opened went closed same (inr (inr many)) =
    let names = now.nest.names in
    let are = opened_stay names (f.opened read) (f.opened last) closed.opened (went.opened.opened opened) in
    inr (inr (many_opened many.name names (f.opened last) are many.is_too_many (closed.opened many.name many.is_opened)))

-- Reading was given up in a token.
stops_reading_of : (failed : Type 0) (s : Sources) (t : State) (old now new : Openings) (f : Open) (told : List ℕ) → new.all ≡ now.all →
    IsNested old now f → AllGiven s (length old.all) now f → StopsInToken failed s t old now f told → StopsReading failed s t old new told
stops_reading_of failed s t old now new f told all nested given h =
    let n : ℕ = length old.all in
    let at = innermost_of (length now.all) (reverse now.open_places) f.lexer (lexers_of (reverse f.outer)) nested.nested in
    let place : innermost_place now ≡ at.place = last_of now.open_places at.place at.rest at.is in
    let tracked : AreTracked s n f.nest.names now.all (at.place ∷ at.rest) (lexers f) =
    subst (λ (ps : List ℕ). AreTracked s n f.nest.names now.all ps (lexers f)) at.is given.tracked in
    let counted : IsCounted s (innermost now) f.lexer.window =
    subst (λ (i : ℕ). IsCounted s (get_or now.all i (opened [])) f.lexer.window) (sym place) tracked.0.counted in
    let stands : AreAt n (length now.all) t.nesting.names now.all (innermost_place now ∷ at.rest) (numbers_of t.nesting) =
    subst (λ (i : ℕ). AreAt n (length now.all) t.nesting.names now.all (i ∷ at.rest) (numbers_of t.nesting)) (sym place)
    (subst (λ (ps : List ℕ). AreAt n (length now.all) t.nesting.names now.all ps (numbers_of t.nesting)) at.is
    (subst (λ (names : List (List ℕ)). AreAt n (length now.all) names now.all (reverse now.open_places) (numbers_of t.nesting)) h.names
    (subst (λ (fs : List ℕ). AreAt n (length now.all) f.nest.names now.all (reverse now.open_places) fs) h.numbers
    (at_all s old now f nested given)))) in
    let here : get_or new.all (innermost_place now) (opened []) ≡ innermost now =
    ap (λ (xs : List Opening). get_or xs (innermost_place now) (opened [])) all in
    record {
      place = innermost_place now;
      places = at.rest;
      at = subst (λ (xs : List Opening). AreAt n (length xs) t.nesting.names xs (innermost_place now ∷ at.rest) (numbers_of t.nesting))
          (sym all) stands;
      openings = ap (λ (xs : List Opening). map (λ (q : Opening). q.name) (drop n xs)) all ∙ h.openings;
      cause = subst (λ (o : Opening). failed ⊎ (16777216 < length o.given)) (sym here)
          (subst (λ (k : ℕ). failed ⊎ (16777216 < k)) (sym counted.count) h.cause);
      not_ended = subst (λ (o : Opening). Unfinished t.nesting.cursor (length o.given - 16777216) (unread_of s o)) (sym here)
          (subst (λ (k : ℕ). Unfinished t.nesting.cursor (k - 16777216) (unread_now s now)) (sym counted.count) h.not_ended);
      goes_on = ap (λ (o : Opening). o.is_read_out) here ∙ counted.goes_on h.goes_on;
      name_is = h.name_is;
    }

stops_of : (limits : Limits) (failed : Type 0) (s : Sources) (o : Choices) (t : State) (old now new : Openings) (f : Open) (told : List ℕ) →
    new.all ≡ now.all → IsNested old now f → AllGiven s (length old.all) now f → StopsFor limits failed s o t old now f told
    → StopsReading failed s t old new told ⊎ StopsAtInclusion failed s o (stepped limits o t) (opened_since old new) told
stops_of limits failed s o t old now new f told all nested given (inl h) =
    inl (stops_reading_of failed s t old now new f told all nested given h)
stops_of limits failed s o t old now new f told all nested given (inr h) =
    inr (subst (λ (names : List (List ℕ)). StopsAtInclusion failed s o (stepped limits o t) names told)
    (ap (λ (xs : List Opening). map (λ (q : Opening). q.name) (drop (length old.all) xs)) (sym all)) h)

-- the messages of some turns were all written
heard_of : (failed : Type 0) (s : Sources) (o : Choices) (name : List ℕ) (was : List ℕ → State) (old now new : Openings) (f : Open)
    (before after : Option (List ℕ)) (told : List ℕ)
    → was [] ≡ start s o name → new.all ≡ now.all → IsNested old now f → AllGiven s (length old.all) now f → GivenUp (limits_of o.settings)
    failed s o was before after old now f told → Heard failed s o name old new before after told
heard_of failed s o name was old now new f before after told begun all nested given g = inr (inr (record {
  turns = g.turns;
  takes = subst (λ (x : State). Takes before after (run (limits_of o.settings) s o g.turns x).told) begun
      (subst (λ (lines : List ℕ). Takes before after lines) (sym (g.wrote.same [])) g.wrote.takes);
  goes_on = ap (λ (x : State). has_ended (run (limits_of o.settings) s o g.turns x)) (sym begun) ∙ g.goes_on [];
  stops = subst (λ (x : State). StopsReading failed s (run (limits_of o.settings) s o g.turns x) old new told ⊎ StopsAtInclusion failed s o
      (stepped (limits_of o.settings) o (run (limits_of o.settings) s o g.turns x)) (opened_since old new) told) begun
      (stops_of (limits_of o.settings) failed s o (run (limits_of o.settings) s o g.turns (was [])) old now new f told all nested given
      (g.stops []));
}))

-- reading was given up in the head of the main source, or behind it
heard_front : (failed : Type 0) (s : Sources) (o : Choices) (name : List ℕ) (front : Nesting) (was : List ℕ → State)
    (old now new : Openings) (f : Open) (before after : Option (List ℕ)) (told : List ℕ)
    → head_front front.cursor ≡ main_front s name → front.openings ≡ name ∷ [] → innermost_name front ≡ name
    → was [] ≡ start s o name → new.all ≡ now.all → IsNested old now f → AllGiven s (length old.all) now f
    → GivenUpFrom (limits_of o.settings) failed s o front was before after old now f told → Heard failed s o name old new before after told
heard_front failed s o name front was old now new f before after told at alone named begun all nested given (inl g) =
    inr (inl (heard_in_head failed s name front old now new f before after told at alone named all nested given g))
heard_front failed s o name front was old now new f before after told at alone named begun all nested given (inr g) =
    heard_of failed s o name was old now new f before after told begun all nested given g

pub heard_from : {T : Type 0} (r : Result T Fault) (failed : Type 0) (s : Sources) (o : Choices) (name : List ℕ) (front : Nesting)
    (was : List ℕ → State) (old now new : Openings) (f : Open) (before after : Option (List ℕ))
    → head_front front.cursor ≡ main_front s name → front.openings ≡ name ∷ [] → innermost_name front ≡ name
    → was [] ≡ start s o name → new.all ≡ now.all → IsNested old now f → AllGiven s (length old.all) now f
    → IfErr r (λ x. IfRead x (λ told. GivenUpFrom (limits_of o.settings) failed s o front was before after old now f told))
    → IfErr r (λ x. IfRead x (λ told. Heard failed s o name old new before after told))
heard_from r failed s o name front was old now new f before after at alone named begun all nested given g =
    if_read_more r (λ told. GivenUpFrom (limits_of o.settings) failed s o front was before after old now f told)
    (λ told. Heard failed s o name old new before after told)
    (λ told h. heard_front failed s o name front was old now new f before after told at alone named begun all nested given h) g

-- reading that was given up for a cause was given up for a wider one
pub given_up_more : (limits : Limits) (failed more : Type 0) (s : Sources) (o : Choices) (was : List ℕ → State) (old new : Option (List ℕ))
    (start now : Openings) (f : Open) (told : List ℕ) → (failed → more)
    → GivenUp limits failed s o was old new start now f told → GivenUp limits more s o was old new start now f told
given_up_more limits failed more s o was old new start now f told later g = record {
  turns = g.turns;
  wrote = g.wrote;
  goes_on = g.goes_on;
  stops = λ lines. stops_more limits failed more s o (run limits s o g.turns (was lines)) start now f told later (g.stops lines);
}

-- reading that was given up in the head, or behind it, for a cause was given up for a wider one
given_up_from_more : (limits : Limits) (failed more : Type 0) (s : Sources) (o : Choices) (front : Nesting) (was : List ℕ → State)
    (old new : Option (List ℕ)) (start now : Openings) (f : Open) (told : List ℕ) → (failed → more)
    → GivenUpFrom limits failed s o front was old new start now f told → GivenUpFrom limits more s o front was old new start now f told
given_up_from_more limits failed more s o front was old new start now f told later (inl g) = inl (record {
  takes = g.takes;
  cause = elim g.cause as (λ _. more ⊎ (16777216 < f.lexer.window.given)) [ inl fails ↦ inl (later fails) | inr long ↦ inr long ];
  not_ended = g.not_ended;
  goes_on = g.goes_on;
  openings = g.openings;
  names = g.names;
  numbers = g.numbers;
  name_is = g.name_is;
})
given_up_from_more limits failed more s o front was old new start now f told later (inr g) =
    inr (given_up_more limits failed more s o was old new start now f told later g)

pub given_up_from_between : {T : Type 0} (limits : Limits) (r : Result T Fault) (failed more : Type 0) (s : Sources) (o : Choices)
    (front : Nesting) (was : List ℕ → State) (old new : Option (List ℕ)) (start now : Openings) (f : Open)
    → (failed → more) → IfErr r (λ x. IfRead x (λ told. GivenUpFrom limits failed s o front was old new start now f told))
    → IfErr r (λ x. IfRead x (λ told. GivenUpFrom limits more s o front was old new start now f told))
given_up_from_between limits r failed more s o front was old new start now f later g =
    if_read_more r (λ told. GivenUpFrom limits failed s o front was old new start now f told)
    (λ told. GivenUpFrom limits more s o front was old new start now f told)
    (λ told h. given_up_from_more limits failed more s o front was old new start now f told later h) g

-- before the first turn nothing is written
pub heard_none : (failed : Type 0) (s : Sources) (o : Choices) (name : List ℕ) (old new : Openings) (before after : Option (List ℕ))
    (told : List ℕ) → failed → new ≡ old → after ≡ before → told ≡ name → Heard failed s o name old new before after told
heard_none failed s o name old new before after told cause same e is = inl (record {
  cause = cause;
  opened = same;
  takes = subst (λ (n : Option (List ℕ)). Takes before n []) (sym e) (takes_none before);
  name_is = is;
})

-- the openings where reading was given up
pub opened_some : (s : Sources) (o : Choices) (name : List ℕ) (old now new : Openings) (f : Open) (was : List ℕ → State) (turns : ℕ) →
    was [] ≡ start s o name
    → new ≡ closed_to old now → AllGiven s (length old.all) now f → OpensAll (run (limits_of o.settings) s o turns) was
    (opened_since old now) → OpenedSome s o name old new
opened_some s o name old now new f was turns begun closed given h = record {
  turns = turns;
  names = ap (λ (p : Openings). opened_since old p) closed ∙ h []
      ∙ ap (λ (x : State). (run (limits_of o.settings) s o turns x).nesting.openings) begun;
  closed = ap (λ (p : Openings). p.open_places) closed;
  each = subst (λ (p : Openings). Each (IsFrontOf s) (length old.all) p.all) (sym closed) given.each;
}
