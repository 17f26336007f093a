-- The sources that have been opened where a turn was given up.
use Rattle.std.proofs.Common.{◌≡◌, inl, inr, ℕ, List, [], length, nat_le, not, ◌+◌, Bool, false, true, cond, None, Some, Option, Ok, OnOk}
use Rattle.std.proofs.Common.{Result, refl, subst, sym, ap, ◌∙◌}
use Rattle.inf_devices.specs.Files.{Openings, Sources}
use Rattle.inf_characters.specs.declared.characters.CharSet.{CharSet}
use Rattle.inf_scanner.specs.declared.tokens.Place.{Place}
use Rattle.inf_unit.proofs.Cases.{of_both}
use Rattle.inf_unit.specs.Directives.{Request, Include}
use Rattle.inf_reader.specs.{Reading.is_mode_ended, declared.recovery.Recovery.Recovery}
use Rattle.inf_sources.specs.declared.{faults.IncludeFault.IncludeFault, open_file.Conditional.Conditional, open_files.Included.Included}
use Rattle.inf_conditionals.specs.Open.{Conditions}
use Rattle.inf_unit.specs.Messages.{Reported}
use Rattle.inf_lexer.specs.{Entering.first_there, Names.can_name, Names.candidates}
use Rattle.inf_conditionals.specs.Ends.{with_among}
use Rattle.inf_session.specs.Choices.{most_quoted}
use Rattle.inf_sources.specs.Inclusions.{by_first, innermost_name, with_opened}
use Rattle.inf_sources.specs.Inclusions.{Inclusion, Nesting, OpenedInVain, Opens, OpensNone, answer_of, inclusion, nested_by}
use Rattle.inf_sources.specs.Open.{Open, nesting, opened_since}
use Rattle.inf_session.specs.{Choices.Choices, Leading.NotTried, Leading.OpensWithin, Promises.Stops, Promises.at_inclusion}
use Rattle.inf_session.specs.{Promises.in_inclusion}
use Rattle.inf_session.specs.{Promises.nowhere, Standing.is_fatal, Standing.state}
use Rattle.inf_session.proofs.Promises.{read_more}
use Rattle.inf_session.specs.declared.session.Session.{Session}
use Rattle.inf_devices.specs.declared.files.Files.{Ghosts as Files}
use Rattle.inf_ending.specs.declared.faults.Fault.{Fault}
use Rattle.inf_session.specs.Session.{State, answered, asked_nothing, followed, has_ended, carried_out, included, included_by, is_resting}
use Rattle.inf_session.specs.Session.{left, none_included, piece_closed, rested, turn}

-- Lemmas about an inclusion

none_opened : (unit : Place) (text : List ℕ) (why : Included) (s : State) → (none_included unit text why s).nesting ≡ s.nesting
none_opened unit text Included.Entered s = refl
none_opened unit text Included.NotThere s = refl
none_opened unit text Included.TooDeep s = refl

included_opens : (sources : Sources) (o : Choices) (unit : Place) (text : List ℕ) (set : CharSet) (limit : ℕ)
    (conditionals : List Conditional) (is_system : Bool) (i : Inclusion) (s : State)
    → (nested_by set limit sources conditionals is_system i s.nesting).openings ≡ (included_by sources o unit text i s).nesting.openings
included_opens sources o unit text set limit conditionals is_system (Opens name) s = refl
included_opens sources o unit text set limit conditionals is_system (OpensNone why) s =
    ap (λ (n : Nesting). n.openings) (sym (none_opened unit text why s))

-- an inclusion was tried
pub tried : {B : Type 0} (sources : Sources) (o : Choices) (unit : Place) (text : List ℕ) (set : CharSet) (limit : ℕ)
    (conditionals : List Conditional) (is_system : Bool) (start old new : Openings) (before : Session B) (after : Open)
    → nesting sources start new after ≡ nested_by set limit sources conditionals is_system
    (inclusion sources o.directories text (nesting sources start old before.open_files)) (nesting sources start old before.open_files)
    → OpensWithin (included sources o unit text) (state sources start old before) (opened_since start new)
tried sources o unit text set limit conditionals is_system start old new before after e = inr (λ told. ap (λ (n : Nesting). n.openings) e
    ∙ included_opens sources o unit text set limit conditionals is_system
    (inclusion sources o.directories text (nesting sources start old before.open_files)) (state sources start old before told))

-- Lemmas about what holds of a result that is known

pub on_ok_at : (T E : Type 0) (r : Result T E) (A : Type 0) (x : T) → r ≡ Ok x → OnOk r A → A
on_ok_at T E r A x is holds = subst (λ (y : Result T E). OnOk y A) is holds

-- no file was entered, for this reason

none_by : (sources : Sources) (o : Choices) (unit : Place) (text : List ℕ) (i : Inclusion) (why : Included) (s : State) → why ≡ answer_of i
    → (why ≡ Included.Entered → ⊥) → none_included unit text why s ≡ included_by sources o unit text i s
none_by sources o unit text (Opens name) why s is never = absurd (never is)
none_by sources o unit text (OpensNone other) why s is never = ap (λ (w : Included). none_included unit text w s) is

none_kept : (set : CharSet) (limit : ℕ) (sources : Sources) (conditionals : List Conditional) (is_system : Bool) (i : Inclusion)
    (n : Nesting) (why : Included)
    → why ≡ answer_of i → (why ≡ Included.Entered → ⊥) → nested_by set limit sources conditionals is_system i n ≡ n
none_kept set limit sources conditionals is_system (Opens name) n why is never = absurd (never is)
none_kept set limit sources conditionals is_system (OpensNone other) n why is never = refl

none_is : (unit : Place) (text : List ℕ) (why : Included) (s : State)
    → record s { work = record s.work { report = (none_included unit text why s).work.report } } ≡ none_included unit text why s
none_is unit text Included.Entered s = refl
none_is unit text Included.NotThere s = refl
none_is unit text Included.TooDeep s = refl

-- a file was entered
never_by : (a b : Bool) (first : Option (List ℕ)) →
    cond a (OpensNone Included.NotThere) (cond b (OpensNone Included.TooDeep) (by_first first)) ≡ OpensNone Included.Entered → ⊥
never_by true b first e = cc
never_by false true first e = cc
never_by false false None e = cc
never_by false false (Some name) e = cc

entered_by : (sources : Sources) (o : Choices) (unit : Place) (text : List ℕ) (set : CharSet) (limit : ℕ) (among : List Conditional)
    (is_system now_system : Bool) (s : State) (n : Nesting) (c : Conditions) (i : Inclusion)
    → (i ≡ OpensNone Included.Entered → ⊥) → Included.Entered ≡ answer_of i → n ≡ nested_by set limit sources among is_system i s.nesting
    → set ≡ s.nesting.cursor.set → limit ≡ most_quoted o → among ≡ s.conditions.among → is_system ≡ s.work.is_system
    → c ≡ with_among [] s.conditions → now_system ≡ false
    → record s { nesting = n; conditions = c; work = record s.work { is_system = now_system } } ≡ included_by sources o unit text i s
entered_by sources o unit text set limit among is_system now_system s n c (Opens name) never is opened a b d e f g =
    ap (λ (m : Nesting). record s { nesting = m; conditions = c; work = record s.work { is_system = now_system } })
    (opened ∙ ap (λ (x : CharSet). with_opened x limit sources among is_system name s.nesting) a
    ∙ ap (λ l. with_opened s.nesting.cursor.set l sources among is_system name s.nesting) b
    ∙ ap (λ (l : List Conditional). with_opened s.nesting.cursor.set (most_quoted o) sources l is_system name s.nesting) d
    ∙ ap (λ x. with_opened s.nesting.cursor.set (most_quoted o) sources s.conditions.among x name s.nesting) e)
    ∙ ap (λ (x : Conditions). record s {
      nesting = with_opened s.nesting.cursor.set (most_quoted o) sources s.conditions.among s.work.is_system name s.nesting;
      conditions = x;
      work = record s.work { is_system = now_system };
    }) f ∙ ap (λ x. record s {
      nesting = with_opened s.nesting.cursor.set (most_quoted o) sources s.conditions.among s.work.is_system name s.nesting;
      conditions = with_among [] s.conditions;
      work = record s.work { is_system = x };
    }) g
entered_by sources o unit text set limit among is_system now_system s n c (OpensNone why) never is opened a b d e f g =
    absurd (never (ap OpensNone (sym is)))

pub entered : (sources : Sources) (o : Choices) (unit : Place) (text : List ℕ) (set : CharSet) (limit : ℕ) (among : List Conditional)
    (is_system now_system : Bool) (s : State) (n : Nesting) (c : Conditions) → let i = inclusion sources o.directories text s.nesting in
    Included.Entered ≡ answer_of i → n ≡ nested_by set limit sources among is_system i s.nesting
    → set ≡ s.nesting.cursor.set → limit ≡ most_quoted o → among ≡ s.conditions.among → is_system ≡ s.work.is_system
    → c ≡ with_among [] s.conditions → now_system ≡ false
    → record s { nesting = n; conditions = c; work = record s.work { is_system = now_system } } ≡ included sources o unit text s
entered sources o unit text set limit among is_system now_system s n c is opened a b d e f g =
    entered_by sources o unit text set limit among is_system now_system s n c (inclusion sources o.directories text s.nesting)
    (λ never. never_by (not (can_name text)) (nat_le 16 (length s.nesting.waiting + 1))
    (first_there sources (candidates o.directories (innermost_name s.nesting) text)) never) is opened a b d e f g

pub not_entered : {B : Type 0} (sources : Sources) (o : Choices) (unit : Place) (text : List ℕ) (set : CharSet) (limit : ℕ)
    (conditionals : List Conditional) (was_system is_system : Bool) (start old new : Openings)
    (before : Session B) (after : Open) (why : Included) (c : Conditions) (r : Reported) (told : List ℕ)
    → let i = inclusion sources o.directories text (nesting sources start old before.open_files) in
    let s = state sources start old before told in
    why ≡ answer_of i → (why ≡ Included.Entered → ⊥)
    → nesting sources start new after ≡ nested_by set limit sources conditionals was_system i (nesting sources start old before.open_files)
    → c ≡ before.conditionals → is_system ≡ before.progress.work.is_system → r ≡ (none_included unit text why s).work.report
    → record s { nesting = nesting sources start new after; conditions = c; work = record s.work { report = r; is_system = is_system } }
    ≡ included sources o unit text s
not_entered sources o unit text set limit conditionals was_system is_system start old new before after why c r told is never opened same
    marked told_is =
    let was = nesting sources start old before.open_files in let i = inclusion sources o.directories text was in
    let s : State = state sources start old before told in
    ap (λ (n : Nesting). record s { nesting = n; conditions = c; work = record s.work { report = r; is_system = is_system } })
    (opened ∙ none_kept set limit sources conditionals was_system i was why is never)
    ∙ ap (λ (x : Conditions). record s { conditions = x; work = record s.work { report = r; is_system = is_system } }) same
    ∙ ap (λ (x : Bool). record s { work = record s.work { report = r; is_system = x } }) marked
    ∙ ap (λ (x : Reported). record s { work = record s.work { report = x } }) told_is
    ∙ none_is unit text why s ∙ none_by sources o unit text i why s is never

-- an inclusion could not be tried, or its file is one too many
pub in_vain : {B : Type 0} (sources : Sources) (o : Choices) (unit : Place) (text : List ℕ) (start old : Openings) (before : Session B)
    (openings : List (List ℕ))
    → OpenedInVain IncludeFault.Device (inclusion sources o.directories text (nesting sources start old before.open_files))
    (nesting sources start old before.open_files) openings
    → OpensWithin (included sources o unit text) (state sources start old before) openings
in_vain sources o unit text start old before openings (inl same) = inl (λ told. same)
in_vain sources o unit text start old before openings (inr t) =
    inr (λ told. t.openings_are ∙ sym (ap (λ (i : Inclusion). (included_by sources o unit text i
    (state sources start old before told)).nesting.openings) t.is_opened))

-- Lemmas about the request of a directive

pub not_ended : (m : Recovery) → (m ≡ Recovery.Ended → ⊥) → is_mode_ended m ≡ false
not_ended Recovery.Reads h = refl
not_ended Recovery.SkipsDirective h = refl
not_ended Recovery.SkipsRoutine h = refl
not_ended Recovery.Ended h = absurd (h refl)

-- what a directive asks is done behind a token that ends no file
pub carries_out : (sources : Sources) (o : Choices) (asked : Request) (s : State) → s.work.report.counts.is_over ≡ false →
    is_mode_ended s.reading.mode ≡ false → s.work.asked ≡ asked → answered asked sources o (asked_nothing s) ≡ carried_out sources o s
carries_out sources o asked s going reads asks =
    sym (ap (λ b. cond b s (cond (is_mode_ended s.reading.mode) (left s) (answered s.work.asked sources o (asked_nothing s)))) going
    ∙ ap (λ b. cond b (left s) (answered s.work.asked sources o (asked_nothing s))) reads
    ∙ ap (λ (a : Request). answered a sources o (asked_nothing s)) asks)

-- at the end of a file it is left
pub leaves : (sources : Sources) (o : Choices) (s : State) → s.work.report.counts.is_over ≡ false → is_mode_ended s.reading.mode ≡ true →
    left s ≡ carried_out sources o s
leaves sources o s going ends =
    sym (ap (λ b. cond b s (cond (is_mode_ended s.reading.mode) (left s) (answered s.work.asked sources o (asked_nothing s)))) going
    ∙ ap (λ b. cond b (left s) (answered s.work.asked sources o (asked_nothing s))) ends)

leaving_by : (sources : Sources) (o : Choices) (was : List ℕ → State) (openings : List (List ℕ))
    → ((told : List ℕ) → left (was told) ≡ carried_out sources o (was told)) → OpensWithin left was openings
    → OpensWithin (carried_out sources o) was openings
leaving_by sources o was openings same (inl before) = inl before
leaving_by sources o was openings same (inr there) = inr (λ told. there told ∙ ap (λ (s : State). s.nesting.openings) (same told))

module _ {R B : Type 0} {f : Files R} {a b : R} {x z : Session B} {failed : Type 0} {sources : Sources} {o : Choices} {start : Openings}
    {e : Fault} where
  -- Where a file was left, or the file of an inclusion was not entered, the request was not carried out.
  pub leaving_stops : is_fatal x ≡ false → is_mode_ended x.progress.reader.mode ≡ true
      → Stops f (λ s c. left) nowhere a b x z failed sources o start e → Stops f carried_out at_inclusion a b x z failed sources o start e
  leaving_stops going ends h = record {
    opened = leaving_by sources o (state sources start (f.openings a) x) (opened_since start (f.openings b))
        (λ told. leaves sources o (state sources start (f.openings a) x told) going ends) h.opened;
    unread = read_more e (λ name never told. absurd (never told)) h.unread;
  }

  pub including_stops : {y : Session B} {text : List ℕ} {unit : Place} → is_fatal x ≡ false → is_mode_ended x.progress.reader.mode ≡ false
      → (state sources start (f.openings a) x []).work.asked ≡ Include text unit
      → ((told : List ℕ) → state sources start (f.openings a) y told ≡ asked_nothing (state sources start (f.openings a) x told))
      → Stops f (λ s c. included s c unit text) (in_inclusion text) a b y z failed sources o start e
      → Stops f carried_out at_inclusion a b x z failed sources o start e
  including_stops {text = text} {unit = unit} going reads asks same h =
      let was = state sources start (f.openings a) x in
      record {
        opened = elim h.opened [
          | inl before ↦ inl (λ told. before told ∙ ap (λ (s : State). s.nesting.openings) (same told))
          | inr there ↦ inr (λ told. there told ∙ ap (λ (s : State). (included sources o unit text s).nesting.openings) (same told)
              ∙ ap (λ (s : State). s.nesting.openings) (carries_out sources o (Include text unit) (was told) going reads asks))
        ];
        unread = read_more e (λ name why told. record {
          unit = unit;
          asks = asks ∙ ap (λ (t : List ℕ). Include t unit) (sym (why told).0);
          reads = reads;
          goes_on = going;
          not_tried = subst (λ (t : List ℕ). NotTried failed sources o.directories t (was told).nesting (opened_since start (f.openings b)))
              (sym (why told).0) (subst (λ (s : State). NotTried failed sources o.directories text s.nesting
              (opened_since start (f.openings b))) (same told) (why told).1);
        }) h.unread;
      }

-- Lemmas about the state behind the request

pub rested_nesting : (s : State) → (rested s).nesting ≡ s.nesting
rested_nesting s = of_both (λ (t : State). t.nesting ≡ s.nesting) (has_ended s) s (cond (is_resting s) (piece_closed s) s) (λ _. refl)
    (λ _. of_both (λ (t : State). t.nesting ≡ s.nesting) (is_resting s) (piece_closed s) s (λ _. refl) (λ _. refl))

-- the sources that are opened behind the request stay those that were opened
pub followed_stops : {R B : Type 0} {f : Files R} {a b : R} {x y : Session B} {failed : Type 0} {sources : Sources} {o : Choices}
    {start : Openings} {e : Fault} → Stops f carried_out at_inclusion a b x y failed sources o start e
    → Stops f followed at_inclusion a b x y failed sources o start e
followed_stops {f = f} {a = a} {x = x} {sources = sources} {o = o} {start = start} h = record {
  opened = elim h.opened [
    | inl before ↦ inl before
    | inr there ↦ inr (λ told. there told ∙ ap (λ (n : Nesting). n.openings)
        (sym (rested_nesting (carried_out sources o (state sources start (f.openings a) x told)))))
  ];
  unread = h.unread;
}
