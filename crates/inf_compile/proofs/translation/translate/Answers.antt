use Rattle.std.proofs.Common.{rules, ◌≡◌, ◌+◌, ℕ, arith, List, inl, inr, IsTrue, string_bytes, length}
use Rattle.std.proofs.Common.{refl, ap, subst, sym, ◌∙◌}
use Rattle.std.proofs.lemmas.Result.{on_err_weaker}
use Rattle.inf_devices.specs.Files.{Rose, Sources}
use Rattle.inf_lexer.specs.Readers.{Reader}
use Rattle.inf_lexer.proofs.Candidates.{rose_earlier}
use Rattle.inf_sources.specs.declared.open_file.OpenFile.{OpenFile}
use Rattle.inf_sources.specs.{Calls.IsUnreadable, Calls.StaysFit, Inclusions.Nesting, Inclusions.main_opened}
use Rattle.inf_sources.specs.Open.{AllGiven, Each, Fits, nesting}
use Rattle.inf_ending.specs.{Delivered.TakesFront, Faults.TellsEachRead, declared.faults.Fault.Fault}
use Rattle.inf_ending.specs.Ending.{Outcome, missing, seen}
use Rattle.inf_opcode.proofs.Growing.{on_err}
use Rattle.inf_session.specs.{Session.start}
use Rattle.inf_ending.proofs.{Delivering.if_ok_more, Quiet.hides_none}
use Rattle.inf_compile.proofs.{Promised.gives_up, Telling.if_caused_more, Telling.tells_none, Telling.tells_then}
use Rattle.inf_settings.specs.Bounds.{limits_of}
use Rattle.inf_compile.specs.Chosen.{begun_at, chosen_at, chosen_for}
use Rattle.inf_compile.specs.Comes.{Begins, Comes, Concludes, GivenUpFrom, IsUnread}
use Rattle.inf_compile.specs.Translated.{Translated}
use Rattle.inf_compile.proofs.Concluding.{early_none, if_memory_any, never_memory}
use Rattle.inf_compile.proofs.Concluding.{begins_missing, begins_none, begins_of, comes_of, if_ok_both, on_err_leads}
use Rattle.inf_compile.proofs.GivingUp.{counted_at_front, given_up_from_between, heard_from, heard_none, opened_some, unread_by}
use Rattle.inf_compile.proofs.translation.translate.Goals as goal
use Rattle.inf_compile.proofs.translation.translate.Goals.{After-close}

-- the reader is as honest when the main source was entered
still : (g : _) (c : After-close g) → IsTrue (g.F.Files.is_honest c.args.files.now) → IsTrue (g.F.Files.is_honest c.enter_main.new.files)
still g c honest = subst (λ b. IsTrue b) (sym c.enter_main.ensures.kept.honesty) honest

-- The translation of the main source has its outcome by the files, and so by the name.
read_main : (g : _) (c : After-close g) → IsTrue (g.F.Files.is_honest c.args.files.now) →
    let files = g.F.Files in let s = files.sources c.args.files.now in let old = files.openings c.args.files.now in
    let now = files.openings c.translate_opened-open_files.new.files in let r = c.translate_opened-open_files.result in
    let n = main_opened c.set.result c.of-limit.result s c.args.name.now in let o = chosen_at n c.args.options.now in
    let was = begun_at n c.args.options.now in let before = g.M.Sink.taken c.args.messages.now in
    let after = g.M.Sink.taken c.translate_opened-open_files.new.messages in
    Translated (limits_of o.settings) s o c.args.serial.now was old now r.0 before after (GivenUpFrom (limits_of o.settings)
    (Rose (files.faults c.enter_main.new.files) (files.faults c.translate_opened-open_files.new.files)) s o n was before after old now r.0) r.1
read_main g c honest =
    let files = g.F.Files in let old = files.openings c.args.files.now in let mid = files.openings c.enter_main.new.files in
    let now = files.openings c.translate_opened-open_files.new.files in let r = c.translate_opened-open_files.result in
    let options = c.args.options.now in let before = g.M.Sink.taken c.args.messages.now in
    let after = g.M.Sink.taken c.translate_opened-open_files.new.messages in let e = c.in-Ok.ensures.entered honest in
    let later = Rose (files.faults c.enter_main.new.files) (files.faults c.translate_opened-open_files.new.files) in
    let P : Sources → Nesting → Type 0 = λ y n. Translated (limits_of (chosen_at n options).settings) y (chosen_at n options)
    c.args.serial.now (begun_at n options) old now r.0 before after (GivenUpFrom (limits_of (chosen_at n options).settings) later y
    (chosen_at n options) n (begun_at n options) before after old now r.0) r.1 in
    subst (P (files.sources c.args.files.now)) e.nesting_is (subst (λ (y : Sources). P y (nesting y old mid c.in-Ok.open_files))
    c.enter_main.ensures.kept.sources (c.translate_opened-open_files.ensures.translated (still g c honest) old e.nested))

-- the given bytes of each file are a front of its source when the main source was entered, and when it was read
given_main : (g : _) (c : After-close g) → IsTrue (g.F.Files.is_honest c.args.files.now) →
    AllGiven (g.F.Files.sources c.enter_main.new.files) (length (g.F.Files.openings c.args.files.now).all)
    (g.F.Files.openings c.enter_main.new.files) c.in-Ok.open_files
given_main g c honest =
    let files = g.F.Files in
    subst (λ (y : Sources). AllGiven y (length (files.openings c.args.files.now).all) (files.openings c.enter_main.new.files)
    c.in-Ok.open_files) (sym c.enter_main.ensures.kept.sources) (c.in-Ok.ensures.entered honest).given_all

given_read : (g : _) (c : After-close g) → IsTrue (g.F.Files.is_honest c.args.files.now) →
    AllGiven (g.F.Files.sources c.args.files.now) (length (g.F.Files.openings c.args.files.now).all)
    (g.F.Files.openings c.translate_opened-open_files.new.files) c.translate_opened-open_files.result.0
given_read g c honest =
    let files = g.F.Files in let old = files.openings c.args.files.now in
    subst (λ (y : Sources). AllGiven y (length old.all) (files.openings c.translate_opened-open_files.new.files)
    c.translate_opened-open_files.result.0) c.enter_main.ensures.kept.sources
    (c.translate_opened-open_files.ensures.leaves.went.stays_given (still g c honest) old (c.in-Ok.ensures.entered honest).nested
    (given_main g c honest))

pub returns-clause-comes : goal.returns-clause-comes
returns-clause-comes g c = λ honest.
    let at = (goal.at.returns-clause-comes g c).After-close in
    let files = g.F.Files in let s = files.sources c.args.files.now in let old = files.openings c.args.files.now in
    let now = files.openings c.translate_opened-open_files.new.files in let name = c.args.name.now in
    let options = c.args.options.now in let o = chosen_for s name options in let main = c.in-Ok.open_files in
    let f = c.translate_opened-open_files.result.0 in let serial = c.args.serial.now in
    let before = g.M.Sink.taken c.args.messages.now in let after = g.M.Sink.taken c.translate_opened-open_files.new.messages in
    let r = c.translate_opened-open_files.result.1 in let e = c.in-Ok.ensures.entered honest in
    let last = subst (λ b. IsTrue b) (sym c.translate_opened-open_files.ensures.leaves.went.honesty) (still g at honest) in
    if_ok_more r (λ x. Concludes (limits_of o.settings) s o serial (start s o name) old now f before after x × Each Fits (length old.all)
    now.all) (λ x. Comes s o serial name old (files.openings c.close.new.files) before after x)
    (λ x k. comes_of s o serial name old now (files.openings c.close.new.files) f (start s o name) before after x
    e.there refl (c.close.ensures.closed last old k.0.nested) (given_read g at honest) k.1 k.0)
    (if_ok_both r (λ x. Concludes (limits_of o.settings) s o serial (start s o name) old now f before after x)
    (λ x. Each Fits (length old.all) now.all) (read_main g at honest).concludes
    (if_ok_more r (λ x. StaysFit files c.enter_main.new.files c.translate_opened-open_files.new.files main)
    (λ x. Each Fits (length old.all) now.all)
    (λ x h. h (still g at honest) old e.nested (given_main g at honest) e.fits) c.translate_opened-open_files.ensures.leaves.fits))

pub returns-clause-begins : goal.returns-clause-begins
returns-clause-begins g c = λ honest.
    let at = (goal.at.returns-clause-begins g c).After-close in
    let s = g.F.Files.sources c.args.files.now in let name = c.args.name.now in let options = c.args.options.now in
    let o = chosen_for s name options in let serial = c.args.serial.now in
    let before = g.M.Sink.taken c.args.messages.now in let after = g.M.Sink.taken c.translate_opened-open_files.new.messages in
    on_err_weaker c.translate_opened-open_files.result.1
    (λ k. begins_of s o serial name (start s o name) before after (c.in-Ok.ensures.entered honest).there refl k)
    (read_main g at honest).stops

pub returns-in-Err-Absent-clause-begins : goal.returns-in-Err-Absent-clause-begins
returns-in-Err-Absent-clause-begins g c = λ honest.
    let s = g.F.Files.sources c.args.files.now in let name = c.args.name.now in
    let o = chosen_for s name c.args.options.now in let serial = c.args.serial.now in
    let old = g.M.Sink.taken c.args.messages.now in let new = g.M.Sink.taken c.written.new.messages in
    let ending = c.in_ok-no_file-in-Err-Absent.field-0 in
    let is : (seen ending).messages ≡ (missing name).messages = ap (λ (e : Outcome). e.messages) c.in_ok-no_file-in-Err-Absent.ensures
    ∙ ap (λ (n : List ℕ). (missing n).messages) c.as_bytes.ensures.value in
    on_err_leads c.written.result (TakesFront (seen ending).messages old new) (Begins s o serial name old new)
    (begins_missing s o serial name old new (seen ending).messages ((c.in-Err-Absent.ensures.refused honest).1 c.in-Err-Absent.field-0-is)
    is) c.written.ensures.err

pub returns-in-Err-BadName-clause-begins : goal.returns-in-Err-BadName-clause-begins
returns-in-Err-BadName-clause-begins g c = λ honest.
    let s = g.F.Files.sources c.args.files.now in let name = c.args.name.now in
    begins_none s (chosen_for s name c.args.options.now) c.args.serial.now name (g.M.Sink.taken c.args.messages.now)

pub returns-in_err-told-clause-begins : goal.returns-in_err-told-clause-begins
returns-in_err-told-clause-begins g c = λ honest.
    let s = g.F.Files.sources c.args.files.now in let name = c.args.name.now in
    on_err c.from_residual.result
    (begins_none s (chosen_for s name c.args.options.now) c.args.serial.now name (g.M.Sink.taken c.args.messages.now))

-- Reading was given up.

pub returns-clause-given_up : goal.returns-clause-given_up
returns-clause-given_up g c = λ honest.
    let at = (goal.at.returns-clause-given_up g c).After-close in
    let files = g.F.Files in let s = files.sources c.args.files.now in let old = files.openings c.args.files.now in
    let now = files.openings c.translate_opened-open_files.new.files in let new = files.openings c.close.new.files in
    let name = c.args.name.now in let options = c.args.options.now in let o = chosen_for s name options in
    let f = c.translate_opened-open_files.result.0 in let r = c.translate_opened-open_files.result.1 in
    let before = g.M.Sink.taken c.args.messages.now in let after = g.M.Sink.taken c.translate_opened-open_files.new.messages in
    let went = c.translate_opened-open_files.ensures.leaves.went in let here = still g at honest in
    let last = subst (λ b. IsTrue b) (sym went.honesty) here in
    let nested = went.nested here old (c.in-Ok.ensures.entered honest).nested in
    let first_faults = files.faults c.args.files.now in let main_faults = files.faults c.enter_main.new.files in
    let read_faults = files.faults c.translate_opened-open_files.new.files in
    let later = Rose main_faults read_faults in let failed = Rose first_faults (files.faults c.close.new.files) in
    let front = main_opened c.set.result c.of-limit.result s name in let was = begun_at front options in
    gives_up _ _ _ _ _ _ _ _ r (on_err_weaker r (λ k. inr (opened_some s o name old now new f was k.0 refl (c.close.ensures.closed last old nested)
    (given_read g at honest) k.1)) (read_main g at honest).opened) (read_main g at honest).early
    (heard_from r failed s o name front was old now new f before after refl refl refl refl (c.close.ensures.all last) nested
    (given_read g at honest) (given_up_from_between (limits_of o.settings) r later failed s o front was before after old now f
    (λ rose. subst (λ (n : ℕ). Rose first_faults n) (sym c.close.ensures.untouched.0)
    (rose_earlier first_faults main_faults read_faults c.enter_main.ensures.kept.faults rose)) (read_main g at honest).heard))

pub returns-in-Err-BadName-clause-given_up : goal.returns-in-Err-BadName-clause-given_up
returns-in-Err-BadName-clause-given_up g c = λ honest.
    let files = g.F.Files in let s = files.sources c.args.files.now in let name = c.args.name.now in
    let o = chosen_for s name c.args.options.now in let old = files.openings c.args.files.now in
    let new = files.openings c.enter_main.new.files in let taken = g.M.Sink.taken c.args.messages.now in
    let failed = Rose (files.faults c.args.files.now) (files.faults c.enter_main.new.files) in
    let rose : failed = search rules in let same = (c.in-Err-BadName.ensures.refused honest).0 in
    record {
      opened = inl same;
      early = tt;
      heard = heard_none failed s o name old new taken taken (string_bytes c.in_ok-told.told) rose same refl c.in_ok-told.ensures.ok;
    }

pub returns-in-Err-Absent-clause-given_up : goal.returns-in-Err-Absent-clause-given_up
returns-in-Err-Absent-clause-given_up g c = λ honest.
    let r = c.written.result in
    gives_up _ _ _ _ _ _ _ _ r (on_err r (inl (c.in-Err-Absent.ensures.refused honest).0)) (never_memory r _ c.written.ensures.only) (search rules)

pub returns-in_err-no_file-in-Err-Absent-clause-given_up : goal.returns-in_err-no_file-in-Err-Absent-clause-given_up
returns-in_err-no_file-in-Err-Absent-clause-given_up g c = λ honest.
    let r = c.from_residual-in_err-no_file-in-Err-Absent.result in
    gives_up _ _ _ _ _ _ _ _ r (on_err r (inl (c.in-Err-Absent.ensures.refused honest).0)) (if_memory_any r _ (early_none _ _ _ _ _)) (search rules)

pub returns-in-Err-Memory-clause-given_up : goal.returns-in-Err-Memory-clause-given_up
returns-in-Err-Memory-clause-given_up g c = λ honest.
    record { opened = inl (c.in-Err-Memory.ensures.refused honest).0; early = early_none _ _ _ _ _; heard = tt }

-- no room for the name
pub returns-in_err-told-clause-given_up : goal.returns-in_err-told-clause-given_up
returns-in_err-told-clause-given_up g c = λ honest.
    let r = c.from_residual.result in
    gives_up _ _ _ _ _ _ _ _ r (on_err r (inl refl)) (if_memory_any r _ (early_none _ _ _ _ _)) (search rules)

-- Promises about any devices

pub returns-clause-leaves : goal.returns-clause-leaves
returns-clause-leaves g c =
    let files = g.F.Files in let first = c.args.files.now in let entered = c.enter_main.new.files in
    let read = c.translate_opened-open_files.new.files in let last = c.close.new.files in
    let f = c.translate_opened-open_files.result.0 in let r = c.translate_opened-open_files.result.1 in let main = c.in-Ok.open_files in
    let left = c.translate_opened-open_files.ensures.leaves in
    let rose = Rose (g.M.Sink.failures c.args.messages.now) (g.M.Sink.failures c.translate_opened-open_files.new.messages) in
    record {
      errors = left.errors;
      clean = left.clean;
      seen = subst (λ (n : ℕ). TellsEachRead r (files.faults first) n) (sym c.close.ensures.untouched.0)
          (tells_then r (files.faults first) (files.faults entered) (files.faults read) c.in-Ok.ensures.tries.calm left.seen);
      quiet = left.quiet;
      fault = if_caused_more r (λ name. IsUnreadable files entered read main f) (λ name. IsUnread files first last) rose rose
          (λ name why. unread_by files first entered read last main f c.enter_main.ensures.kept
          (counted_at_front _ _ main (files.counts first) (files.counts entered) c.in-Ok.ensures.tries.counts
          (c.in-Ok.ensures.front.0, c.in-Ok.ensures.front.1.0))
          c.in-Ok.ensures.front.1.1 left.went c.close.ensures.kept c.close.ensures.untouched why) (λ r. r) left.fault;
    }

pub returns-in-Err-BadName-clause-leaves : goal.returns-in-Err-BadName-clause-leaves
returns-in-Err-BadName-clause-leaves g c =
    let files = g.F.Files in let first = c.args.files.now in let entered = c.enter_main.new.files in
    let unread : IsUnread files first entered = search rules in
    record { errors = tt; clean = tt; seen = (tt, tt); quiet = (tt, refl); fault = unread }

pub returns-in-Err-Absent-clause-leaves : goal.returns-in-Err-Absent-clause-leaves
returns-in-Err-Absent-clause-leaves g c =
    let faults = g.F.Files.faults in let tries = rw c.in-Err-Absent.field-0-is at c.in-Err-Absent.ensures.tries in
    record {
      errors = search rules;
      clean = search rules;
      seen = tells_none c.written.result (faults c.args.files.now) (faults c.enter_main.new.files) tries.calm;
      quiet = search rules;
      fault = search rules;
    }

pub returns-in_err-no_file-in-Err-Absent-clause-leaves : goal.returns-in_err-no_file-in-Err-Absent-clause-leaves
returns-in_err-no_file-in-Err-Absent-clause-leaves g c =
    let faults = g.F.Files.faults in let tries = rw c.in-Err-Absent.field-0-is at c.in-Err-Absent.ensures.tries in
    let r = c.from_residual-in_err-no_file-in-Err-Absent.result in
    record {
      errors = search rules;
      clean = search rules;
      seen = tells_none r (faults c.args.files.now) (faults c.enter_main.new.files) tries.calm;
      quiet = hides_none r (g.M.Sink.failures c.args.messages.now);
      fault = search rules;
    }

pub returns-in-Err-Memory-clause-leaves : goal.returns-in-Err-Memory-clause-leaves
returns-in-Err-Memory-clause-leaves g c =
    let tries = rw c.in-Err-Memory.field-0-is at c.in-Err-Memory.ensures.tries in
    record { errors = tt; clean = tt; seen = (tt, tries.calm); quiet = (tt, refl); fault = tt }

pub returns-in_err-told-clause-leaves : goal.returns-in_err-told-clause-leaves
returns-in_err-told-clause-leaves g c =
    let faults = g.F.Files.faults c.args.files.now in let r = c.from_residual.result in
    record {
      errors = search rules;
      clean = search rules;
      seen = tells_none r faults faults refl;
      quiet = hides_none r (g.M.Sink.failures c.args.messages.now);
      fault = search rules;
    }

-- Nothing is left open.

pub translate_opened-open_files-requires-clause-is_open : goal.translate_opened-open_files-requires-clause-is_open
translate_opened-open_files-requires-clause-is_open g c =
    let entered : g.F.Files.depth c.enter_main.new.files ≡ g.F.Files.depth c.args.files.now + 1 = c.in-Ok.ensures.tries.depth in
    omega (arith, entered, ap (λ (fs : List OpenFile). length fs) c.in-Ok.ensures.front.1.0)

pub translate_opened-open_files-requires-clause-alone : goal.translate_opened-open_files-requires-clause-alone
translate_opened-open_files-requires-clause-alone g c = c.in-Ok.ensures.front.1.0

pub translate_opened-open_files-requires-clause-goes : goal.translate_opened-open_files-requires-clause-goes
translate_opened-open_files-requires-clause-goes g c = ap (λ (r : Reader). r.has_failed) c.in-Ok.ensures.front.0

pub returns-clause-depth : goal.returns-clause-depth
returns-clause-depth g c =
    let entered : g.F.Files.depth c.enter_main.new.files ≡ g.F.Files.depth c.args.files.now + 1 = c.in-Ok.ensures.tries.depth in
    omega (
      arith,
      entered,
      c.translate_opened-open_files.ensures.leaves.went.depth,
      c.close.ensures.depth,
      ap (λ (fs : List OpenFile). length fs) c.in-Ok.ensures.front.1.0,
    )
