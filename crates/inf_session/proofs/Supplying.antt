-- Where the reading of the rest of the veneer leads, and the lines that it writes.
use Rattle.std.proofs.Common.{slice_get, nat_le, is_some, ◌==◌, ◌≡◌, ℕ, suc, zero, ◌-◌, ◌+◌, ◌<◌, ◌≤◌, List, [], ◌++◌, length, Bool, true}
use Rattle.std.proofs.Common.{false, Option, Some, None, unwrap_or, cond, refl, sym, ap, subst, ◌∙◌, append_assoc, append-nil, arith}
use Rattle.std.proofs.{lemmas.Bool.leb-true, lemmas.List.Sums.AllPass-from_list_all}
use Rattle.std.proofs.lemmas.Option.{get_or_from_slice_get, slice_get_within}
use Rattle.std.specs.List.{list_all}
use Rattle.inf_settings.specs.Bounds.{Limits}
use Rattle.inf_scanner.specs.declared.tokens.Place.{Place}
use Rattle.inf_names.specs.Symbols.{Table}
use Rattle.inf_devices.specs.{Files.Openings, Files.Sources, Sinks.Takes}
use Rattle.inf_sources.specs.Inclusions.{Nesting}
use Rattle.inf_characters.specs.declared.characters.CharSet.{CharSet}
use Rattle.inf_text_lexer.specs.TextReaders.{TextReader, at_line}
use Rattle.inf_unit.specs.Messages.{veneer_file}
use Rattle.inf_session.specs.{Choices.Choices, Choices.most_quoted, Leading.CutsShort, Leading.Writes, Session.State, Session.has_ended}
use Rattle.inf_session.specs.{Session.rested, Session.stepped, Session.told_out, Standing.state, declared.session.Session.Session}
use Rattle.inf_session.specs.Veneer.{first_wanted, in_text, is_wanted, most_texts, next_supplied, next_text, supplied, supplied_at}
use Rattle.inf_session.specs.Veneer.{supplied_by, text_begun, text_front, text_read, text_turns, veneer_text}
use Rattle.inf_unit.proofs.Cases.{of_both}
use Rattle.inf_veneer.specs.Texts.{all_names, all_texts, name_of, numbered, text_of}
use Rattle.inf_ending.specs.Delivered.{IsFront}
use Rattle.inf_ending.specs.declared.faults.Fault.{Fault}
use Rattle.inf_devices.specs.declared.sinks.Sink.{Ghosts as Sink}
use Rattle.inf_session.specs.{Choices.chosen, Promises.Supplies}
use Rattle.std.proofs.lemmas.Option.{IfSome_then}
use Rattle.inf_session.proofs.Leadings.{cuts_as, cuts_nothing, front_same, front_then, rested_told, writes_as}
use Rattle.inf_session.proofs.Promises.{none_then, wrote_none}
use Rattle.inf_ending.proofs.Delivering.{takes_none, takes_then}

-- Names and texts are short

get_all : (p : List ℕ → Bool) (xs : List (List ℕ)) (i : ℕ) (x : List ℕ) → list_all p xs ≡ true → slice_get xs i ≡ Some x → p x ≡ true
get_all p xs i x all got = subst (λ (y : List ℕ). p y ≡ true) (get_or_from_slice_get xs i x x got)
    (AllPass-from_list_all p xs all i x (slice_get_within xs i x got))

behind_test : (b : Bool) (o : Option (List ℕ)) (x : List ℕ) → cond b None o ≡ Some x → o ≡ Some x
behind_test true o x e = let never : None ≡ Some x = e in cc
behind_test false o x e = e

numbered_all : (p : List ℕ → Bool) (xs : List (List ℕ)) (n : ℕ) (x : List ℕ) → list_all p xs ≡ true → numbered n xs ≡ Some x → p x ≡ true
numbered_all p xs n x all e = get_all p xs (n - 1) x all (behind_test (n == 0) (slice_get xs (n - 1)) x e)

names_few : list_all (λ (x : List ℕ). nat_le (length x) 35) all_names ≡ true
unfolding all_names
names_few = refl

texts_few : list_all (λ (x : List ℕ). nat_le (length x) 1000) all_texts ≡ true
unfolding all_texts
texts_few = refl

pub name_few : (n : ℕ) (name : List ℕ) → name_of n ≡ Some name → length name ≤ 35
name_few n name e = leb-true (length name) 35 (numbered_all (λ (x : List ℕ). nat_le (length x) 35) all_names n name names_few e)

few_by : (o : Option (List ℕ)) → ((x : List ℕ) → o ≡ Some x → length x ≤ 1000) → length (unwrap_or o []) ≤ 1000
few_by None few = omega arith
few_by (Some x) few = few x refl

pub text_few : (n : ℕ) → length (veneer_text n) ≤ 1000
text_few n = few_by (text_of n)
    (λ x e. leb-true (length x) 1000 (numbered_all (λ (x : List ℕ). nat_le (length x) 1000) all_texts n x texts_few e))

-- Lemmas about the routine that is read

neither : (b : Bool) (n : ℕ) (others : Option ℕ) → cond b (Some n) others ≡ None → (b ≡ false) × (others ≡ None)
neither true n others e = let never : Some n ≡ None = e in cc
neither false n others e = (refl, e)

some_then : (b : Bool) (o : Option ℕ) (n : ℕ) → cond b None o ≡ Some n → (b ≡ false) × (o ≡ Some n)
some_then true o n e = let never : None ≡ Some n = e in cc
some_then false o n e = (refl, e)

within_by : (b : Bool) (n m : ℕ) (others : Option ℕ) → n < most_texts → cond b (Some (suc n)) others ≡ Some m
    → (others ≡ Some m → (suc n < m) × (m ≤ most_texts)) → (n < m) × (m ≤ most_texts)
within_by true n m others few e later =
    let same : suc n ≡ m = ap (λ (o : Option ℕ). unwrap_or o 0) e in (omega (arith, same), omega (arith, same, few))
within_by false n m others few e later = let l = later e in (omega (arith, l.0), l.1)

pub first_within : (k n m : ℕ) (names : Table Place) → k ≡ most_texts - n → first_wanted k n names ≡ Some m → (n < m) × (m ≤ most_texts)
first_within zero n m names at e = let never : None ≡ Some m = e in cc
first_within (suc k) n m names at e = within_by (is_wanted (suc n) names) n m (first_wanted k (suc n) names) (omega (arith, at)) e
    (λ later. first_within k (suc n) m names (omega (arith, at)) later)

-- the search for the next routine goes on
pub first_next : (n : ℕ) (names : Table Place) → n < most_texts → is_wanted (n + 1) names ≡ false
    → first_wanted (most_texts - n) n names ≡ first_wanted (most_texts - (n + 1)) (n + 1) names
first_next n names few unwanted =
    let left : most_texts - n ≡ suc (most_texts - (n + 1)) = omega (arith, few) in
    let next : suc n ≡ n + 1 = omega arith in let k = most_texts - (n + 1) in
    ap (λ m. first_wanted m n names) left
    ∙ ap (λ b. cond b (Some (suc n)) (first_wanted k (suc n) names)) (ap (λ m. is_wanted m names) next ∙ unwanted)
    ∙ ap (λ m. first_wanted k m names) next

pub none_is : (o : Option ℕ) → is_some o ≡ false → o ≡ None
none_is None e = refl
none_is (Some n) e = let never : true ≡ false = e in cc

-- one text fewer is left
pub left_less : (was is : Bool) (p q : ℕ) → was ≡ true → (is ≡ true → (p < q) × (q ≤ most_texts))
    → cond is (suc (most_texts - q)) 0 < cond was (suc (most_texts - p)) 0
left_less true true p q e more = let b = more refl in omega (arith, b.0, b.1)
left_less true false p q e more = omega arith
left_less false is p q e more = let never : false ≡ true = e in cc

-- Where no routine is wanted none is read

none_left : (limits : Limits) (o : Choices) (k n : ℕ) (s : State) → first_wanted k n s.work.output.names ≡ None
    → supplied_by limits o k n s ≡ s
none_left limits o zero n s e = refl
none_left limits o (suc k) n s e =
    let names = s.work.output.names in
    let unwanted = neither (is_wanted (suc n) names) (suc n) (first_wanted k (suc n) names) e in
    of_both (λ (t : State). t ≡ s) s.work.report.counts.is_over s _ (λ _. refl)
    (λ _. ap (λ b. supplied_by limits o k (suc n) (cond b (text_read limits o (suc n) s) s)) unwanted.0
    ∙ none_left limits o k (suc n) s unwanted.1)

over_stays : (limits : Limits) (o : Choices) (k n : ℕ) (s : State) → s.work.report.counts.is_over ≡ true → supplied_by limits o k n s ≡ s
over_stays limits o zero n s e = refl
over_stays limits o (suc k) n s e = ap (λ b. cond b s (supplied_by limits o k (suc n)
    (cond (is_wanted (suc n) s.work.output.names) (text_read limits o (suc n) s) s))) e

none_by : (limits : Limits) (o : Choices) (s : State) (b : Bool) → s.work.report.counts.is_over ≡ b
    → cond b None (first_wanted (most_texts - s.passed) s.passed s.work.output.names) ≡ None → supplied limits o s ≡ s
none_by limits o s true is e = over_stays limits o (most_texts - s.passed) s.passed s is
none_by limits o s false is e = none_left limits o (most_texts - s.passed) s.passed s e

abbrev pub next_in : State → Option ℕ
next_in s = next_text s.work.report.counts.is_over s.passed s.work.output.names

pub supplied_none : (limits : Limits) (o : Choices) (s : State) → next_in s ≡ None → supplied limits o s ≡ s
supplied_none limits o s e = none_by limits o s s.work.report.counts.is_over refl e

-- The first routine that is wanted is read, and then those behind it

read_by : (limits : Limits) (o : Choices) (k n m : ℕ) (s : State) (b : Bool) → k ≡ most_texts - suc n
    → cond b (Some (suc n)) (first_wanted k (suc n) s.work.output.names) ≡ Some m → (first_wanted k (suc n) s.work.output.names ≡ Some m
    → supplied_by limits o k (suc n) s ≡ supplied_by limits o (most_texts - m) m (text_read limits o m s))
    → supplied_by limits o k (suc n) (cond b (text_read limits o (suc n) s) s)
    ≡ supplied_by limits o (most_texts - m) m (text_read limits o m s)
read_by limits o k n m s true at e later =
    let same : suc n ≡ m = ap (λ (o : Option ℕ). unwrap_or o 0) e in
    ap (λ k. supplied_by limits o k (suc n) (text_read limits o (suc n) s)) at
    ∙ ap (λ m. supplied_by limits o (most_texts - m) m (text_read limits o m s)) same
read_by limits o k n m s false at e later = later e

first_read : (limits : Limits) (o : Choices) (k n m : ℕ) (s : State) → k ≡ most_texts - n → first_wanted k n s.work.output.names ≡ Some m
    → s.work.report.counts.is_over ≡ false → supplied_by limits o k n s ≡ supplied_by limits o (most_texts - m) m (text_read limits o m s)
first_read limits o zero n m s at e going = let never : None ≡ Some m = e in cc
first_read limits o (suc k) n m s at e going =
    let b = is_wanted (suc n) s.work.output.names in
    ap (λ over. cond over s (supplied_by limits o k (suc n) (cond b (text_read limits o (suc n) s) s))) going
    ∙ read_by limits o k n m s b (omega (arith, at)) e (λ later. first_read limits o k (suc n) m s (omega (arith, at)) later going)

more_by : (limits : Limits) (o : Choices) (s : State) (next : Option ℕ) → next_in s ≡ next
    → supplied limits o (supplied_at limits o next s) ≡ supplied limits o s
more_by limits o s None e = refl
more_by limits o s (Some m) e =
    let some = some_then s.work.report.counts.is_over (first_wanted (most_texts - s.passed) s.passed s.work.output.names) m e in
    sym (first_read limits o (most_texts - s.passed) s.passed m s refl some.1 some.0)

pub supplied_more : (limits : Limits) (o : Choices) (s : State) → supplied limits o (next_supplied limits o s) ≡ supplied limits o s
supplied_more limits o s = more_by limits o s (next_in s) refl

pub next_within : (is_fatal : Bool) (passed m : ℕ) (names : Table Place) → next_text is_fatal passed names ≡ Some m
    → (passed < m) × (m ≤ most_texts)
next_within is_fatal passed m names e =
    first_within (most_texts - passed) passed m names refl (some_then is_fatal (first_wanted (most_texts - passed) passed names) m e).1

-- Lines are only added to those that were written

text_told : (limits : Limits) (o : Choices) (k : ℕ) (s : State) → (text_turns limits o k s).told ≡ s.told
text_told limits o zero s = refl
text_told limits o (suc k) s = of_both (λ (t : State). t.told ≡ s.told) (has_ended s) s _ (λ _. refl)
    (λ _. text_told limits o k (rested (stepped limits o s)) ∙ rested_told (stepped limits o s))

pub text_begins : (limits : Limits) (o : Choices) (n : ℕ) (s : State) → IsFront s.told (text_read limits o n s).told
text_begins limits o n s =
    let t = text_turns limits o (suc (length (veneer_text n))) (in_text (text_front o n s) (text_begun s)) in
    record {
      rest = t.work.report.lines;
      is_cut = ap (λ l. l ++ t.work.report.lines)
          (text_told limits o (suc (length (veneer_text n))) (in_text (text_front o n s) (text_begun s)));
    }

by_begins : (limits : Limits) (o : Choices) (k n : ℕ) (s : State) → IsFront s.told (supplied_by limits o k n s).told
by_begins limits o zero n s = front_same s.told
by_begins limits o (suc k) n s =
    let wanted = is_wanted (suc n) s.work.output.names in let next = cond wanted (text_read limits o (suc n) s) s in
    of_both (λ (t : State). IsFront s.told t.told) s.work.report.counts.is_over s _ (λ _. front_same s.told)
    (λ _. front_then {ys = next.told}
    (of_both (λ (t : State). IsFront s.told t.told) wanted (text_read limits o (suc n) s) s (λ _. text_begins limits o (suc n) s)
    (λ _. front_same s.told)) (by_begins limits o k (suc n) next))

pub supplied_begins : (limits : Limits) (o : Choices) (s : State) → IsFront s.told (supplied limits o s).told
supplied_begins limits o s = by_begins limits o (most_texts - s.passed) s.passed s

-- Lemmas about a text

-- the lexer at the front of a text
pub text_front_is : {B : Type 0} (o : Choices) (s : Session B) (sources : Sources) (start now : Openings) (told : List ℕ) (l : TextReader)
    (set : CharSet) (limit n : ℕ) (text : List ℕ)
    → l ≡ at_line set limit veneer_file n text → set ≡ s.open_files.lexer.set → limit ≡ most_quoted o → text ≡ veneer_text n
    → l ≡ text_front o n (state sources start now s told)
text_front_is o s sources start now told l set limit n text at by most bytes =
    at ∙ ap (λ (set : CharSet). at_line set limit veneer_file n text) by
    ∙ ap (λ limit. at_line s.open_files.lexer.set limit veneer_file n text) most
    ∙ ap (λ text. at_line s.open_files.lexer.set (most_quoted o) veneer_file n text) bytes

-- the turns of a text
pub text_turned_is : (limits : Limits) (o p : Choices) (n : ℕ) (text : List ℕ) (s t : State) → text ≡ veneer_text n → p ≡ o
    → t ≡ text_turns limits p (length text + 1) s → t ≡ text_turns limits o (suc (length (veneer_text n))) s
text_turned_is limits o p n text s t bytes same turned =
    let most : length text + 1 ≡ suc (length (veneer_text n)) = omega (arith, ap length bytes) in
    turned ∙ ap (λ (p : Choices). text_turns limits p (length text + 1) s) same ∙ ap (λ m. text_turns limits o m s) most

-- a text was read, and its lines were written
pub text_leads : (limits : Limits) (o : Choices) (n : ℕ) (was begun after : List ℕ → State) (first last : TextReader) (told : List ℕ)
    → begun told ≡ text_begun (was told) → first ≡ text_front o n (was told)
    → in_text last (after told) ≡ text_turns limits o (suc (length (veneer_text n))) (in_text first (begun told))
    → (after told).nesting ≡ (was told).nesting
    → record (told_out (after told)) { is_over = true; passed = n } ≡ text_read limits o n (was told)
text_leads limits o n was begun after first last told begins front turned nest =
    let over = λ (n : ℕ) (t : State) (m : Nesting). record (told_out t) { nesting = m; is_over = true; passed = n } in
    let turns = text_turns limits o (suc (length (veneer_text n))) in
    ap (λ (m : Nesting). over n (in_text last (after told)) m) nest ∙ ap (λ (t : State). over n t (was told).nesting) turned
    ∙ ap (λ (s : State). over n (turns (in_text first s)) (was told).nesting) begins
    ∙ ap (λ (l : TextReader). over n (turns (in_text l (text_begun (was told)))) (was told).nesting) front

-- Lemmas about calls on texts in memory

-- Nothing was written for want of memory.
pub supplies_none : {M B : Type 0} {m : Sink M} {step : Choices → State → State} {old : M} {x z : Session B} {fault : Option Fault}
    → Some Fault.Memory ≡ fault → z.open_files ≡ x.open_files → z.setup ≡ x.setup
    → ((o : Choices) (s : State) → IsFront s.told (step o s).told) → Supplies m step old old x z fault
supplies_none {m = m} {step = step} {old = old} {x = x} {z = z} e files setup begins =
    subst (λ (fault : Option Fault). Supplies m step old old x z fault) e (record {
      made = λ sources start now. tt;
      broken = λ sources start now. cuts_nothing (m.taken old) (λ told. refl) (begins (chosen x.setup));
      files = files;
      setup = setup;
      cause = tt;
      wrote = wrote_none (Some Fault.Memory);
    })

-- The fault may be given by an equal one.
pub supplies_as : {M B : Type 0} {m : Sink M} {step : Choices → State → State} {old new : M} {x z : Session B} {fault other : Option Fault}
    → fault ≡ other → Supplies m step old new x z fault → Supplies m step old new x z other
supplies_as {m = m} {step = step} {old = old} {new = new} {x = x} {z = z} e p =
    subst (λ (fault : Option Fault). Supplies m step old new x z fault) e p

-- a call by another name of its step, and by an equal fault
pub supplies_so : {M B : Type 0} {m : Sink M} {f g : Choices → State → State} {old new : M} {x z : Session B} {fault other : Option Fault}
    → fault ≡ other → Supplies m f old new x z fault
    → ((sources : Sources) (start now : Openings) (told : List ℕ) → f (chosen x.setup) (state sources start now x told)
    ≡ g (chosen x.setup) (state sources start now x told)) → Supplies m g old new x z other
supplies_so {m = m} {g = g} {old = old} {new = new} {x = x} {z = z} {fault = fault} e p same = supplies_as e (record {
  made = λ sources start now. none_then fault (p.made sources start now) (λ w. writes_as (same sources start now) w);
  broken = λ sources start now. IfSome_then fault (p.broken sources start now) (λ e w. cuts_as (same sources start now) w);
  files = p.files;
  setup = p.setup;
  cause = p.cause;
  wrote = p.wrote;
})

-- Lemmas about one routine behind another

-- The rest of the veneer leads from here to the state to which the whole led from the start, whatever was written before.
pub record LeadsOn (step : State → State) (was now : List ℕ → State) (old new : Option (List ℕ)) : Type 0 where
  pub lines : List ℕ
  pub takes : Takes old new lines
  pub same : (told : List ℕ) → step (now (told ++ lines)) ≡ step (was told)

pub leads_none : {step : State → State} {was : List ℕ → State} (old : Option (List ℕ)) → LeadsOn step was was old old
leads_none {step = step} {was = was} old =
    record { lines = []; takes = takes_none old; same = λ told. ap (λ l. step (was l)) (append-nil told) }

module _ (limits : Limits) (o : Choices) {was mid : List ℕ → State} {old between : Option (List ℕ)} where
  pub leads_then : {now : List ℕ → State} {new : Option (List ℕ)} → LeadsOn (supplied limits o) was mid old between
      → Writes (next_supplied limits o) mid now between new → LeadsOn (supplied limits o) was now old new
  leads_then {now = now} {new = new} a b = record {
    lines = a.lines ++ b.lines;
    takes = takes_then old between new a.lines b.lines a.takes b.takes;
    same = λ told. ap (λ l. supplied limits o (now l)) (sym (append_assoc told a.lines b.lines))
        ∙ ap (supplied limits o) (b.same (told ++ a.lines)) ∙ supplied_more limits o (mid (told ++ a.lines)) ∙ a.same told;
  }

  pub leads_all : ((told : List ℕ) → next_in (mid told) ≡ None) → LeadsOn (supplied limits o) was mid old between
      → Writes (supplied limits o) was mid old between
  leads_all none a = record {
    lines = a.lines;
    takes = a.takes;
    same = λ told. sym (supplied_none limits o (mid (told ++ a.lines)) (none (told ++ a.lines))) ∙ a.same told;
  }

  pub leads_cut : {new : Option (List ℕ)} → LeadsOn (supplied limits o) was mid old between
      → CutsShort (next_supplied limits o) mid between new → CutsShort (supplied limits o) was old new
  leads_cut {new = new} a b = record {
    front = a.lines ++ b.front;
    takes = takes_then old between new a.lines b.front a.takes b.takes;
    begins = λ told.
        let here = mid (told ++ a.lines) in let next = next_supplied limits o here in
        let whole : supplied limits o next ≡ supplied limits o (was told) = supplied_more limits o here ∙ a.same told in
        subst (λ l. IsFront l (supplied limits o (was told)).told) (append_assoc told a.lines b.front)
        (subst (λ (t : State). IsFront ((told ++ a.lines) ++ b.front) t.told) whole
        (front_then (b.begins (told ++ a.lines)) (supplied_begins limits o next)));
  }
