use Rattle.std.proofs.Common.{◌≡◌, zero, inl, inr, string_bytes, IsTrue, map, refl, ap, subst, sym, ◌∙◌}
use Rattle.inf_devices.specs.Files.{Openings, Rose, Sources}
use Rattle.inf_lexer.proofs.Candidates.{rose_earlier}
use Rattle.inf_sources.specs.{Calls.Honestly, Calls.IsUnreadable, Calls.StaysFit, Calls.Went, Inclusions.Nesting, Open.Open, Open.nesting}
use Rattle.inf_sources.proofs.Calls.{fit_then, unreadable_then, went_none, went_then}
use Rattle.inf_compile.proofs.Telling.{if_caused_more, tells_then}
use Rattle.inf_letters.specs.Letters.{set_of}
use Rattle.inf_session.specs.{Choices.Choices, Choices.most_quoted, Leading.GivenUp, Session.first_state}
use Rattle.inf_ending.proofs.{Delivering.if_ok_more}
use Rattle.inf_settings.specs.Bounds.{limits_of}
use Rattle.inf_command.specs.{Directories.directories_of, Spoken.settings_of}
use Rattle.inf_compile.specs.{Chosen.begun_at, Chosen.chosen_at, Chosen.read_as}
use Rattle.inf_compile.proofs.{Concluding.stops_none, GivingUp.given_up_more, Translating.heard_more, Translating.leaves_none}
use Rattle.inf_compile.proofs.Translating.{translated_none}
use Rattle.inf_compile.proofs.Heading.{chosen_is, chosen_over_is, given_up_there, made, read_as_is, unread_there, went_chosen}
use Rattle.inf_compile.specs.Translated.{Translated}
use Rattle.inf_compile.proofs.translation.translate_opened.Goals as goal
use Rattle.inf_compile.proofs.translation.translate_opened.Goals.{After-choose, After-translate_under}

-- A statement about the rest of the source by the choices that were made, where the files are read as chosen, holds by those of its head.
by_head : (g : _) (c : After-translate_under g) (P : Openings → Sources → Choices → Nesting → Type 0) →
    let files = g.F.Files in let mid = c.read_head.new.files in let f = c.choose.new.self in
    Honestly files mid f (λ start. P start (files.sources mid)
    (made c.letters.result c.settings-settings.result (map (λ d. d.now) c.as_slice.result.now))
    (nesting (files.sources mid) start (files.openings mid) f)) → Honestly files c.args.files.now c.args.open_files (λ start.
    let was = nesting (files.sources c.args.files.now) start (files.openings c.args.files.now) c.args.open_files in
    let o = chosen_at was c.args.options.now in P start (files.sources c.args.files.now) o (read_as o was))
by_head g c P under = λ honest start nested.
    let files = g.F.Files in let s = files.sources c.args.files.now in let mid = files.openings c.read_head.new.files in
    let f = c.choose.new.self in let was = nesting s start (files.openings c.args.files.now) c.args.open_files in
    let o = chosen_at was c.args.options.now in let options = c.with_head-options.result in
    let p = made c.letters.result c.settings-settings.result (map (λ d. d.now) c.as_slice.result.now) in
    let went = c.read_head.ensures.leaves.went in let still = subst (λ b. IsTrue b) (sym went.honesty) honest in
    let here = c.choose.ensures.nested start mid (went.nested honest start nested) in
    let chosen : p ≡ o = chosen_over_is was c.in-Ok-read_head.head c.args.options.now options p
    (c.in-Ok-read_head.ensures.read honest start nested).head c.with_head-options.ensures
    (chosen_is c.letters.result options.letters c.settings-settings.result (settings_of options.settings)
    (map (λ d. d.now) c.as_slice.result.now) (directories_of options.path)
    c.letters.ensures c.settings-settings.ensures (ap (map (λ d. d.now)) c.as_slice.ensures.value ∙ c.in-Ok-directories.ensures)) in
    let read : nesting s start mid f ≡ read_as o was =
    read_as_is o c.set.result c.of.result was (nesting s start mid c.read_head.new.open_files) (nesting s start mid f)
    (c.in-Ok-read_head.ensures.read honest start nested).nesting (c.choose.ensures.nesting s start mid)
    (c.set.ensures ∙ ap set_of (sym c.letters.ensures) ∙ ap (λ (x : Choices). set_of x.letters) chosen)
    (c.of.ensures.value ∙ ap most_quoted chosen) in
    subst (P start s o) read (subst (λ (q : Choices). P start s q (nesting s start mid f)) chosen
    (subst (λ (y : Sources). P start y p (nesting y start mid f)) went.sources (under still start here)))

pub returns-clause-translated : goal.returns-clause-translated
returns-clause-translated g c = λ honest start nested.
    let files = g.F.Files in let s = files.sources c.args.files.now in let r = c.translate_under.result in
    let now = files.openings c.translate_under.new.files in let before = g.M.Sink.taken c.args.messages.now in
    let after = g.M.Sink.taken c.translate_under.new.messages in
    let was = nesting s start (files.openings c.args.files.now) c.args.open_files in let o = chosen_at was c.args.options.now in
    let first_faults = files.faults c.args.files.now in let head_faults = files.faults c.read_head.new.files in
    let last_faults = files.faults c.translate_under.new.files in let later = Rose head_faults last_faults in
    heard_more (λ name h. inr (given_up_more (limits_of o.settings) later (Rose first_faults last_faults) s o
    (begun_at was c.args.options.now) before after start now r.0 name
    (rose_earlier first_faults head_faults last_faults c.read_head.ensures.leaves.went.faults) h))
    (by_head g (goal.at.returns-clause-translated g c).After-translate_under (λ start y q n. Translated (limits_of q.settings) y q c.args.serial.now (first_state q n) start now r.0 before after
    (GivenUp (limits_of q.settings) later y q (first_state q n) before after start now r.0) r.1) c.translate_under.ensures.translated honest
    start nested)

-- The head was read, and the files are read on as chosen.
went_head : (g : _) (c : After-choose g) → Went g.F.Files c.args.files.now c.read_head.new.files c.args.open_files c.choose.new.self
went_head g c =
    went_chosen g.F.Files c.args.files.now c.read_head.new.files c.args.open_files c.read_head.new.open_files c.choose.new.self c.set.result
    c.of.result c.choose.ensures.value c.choose.ensures.given c.choose.ensures.nested c.choose.ensures.given_all c.read_head.ensures.leaves.went

pub returns-clause-leaves : goal.returns-clause-leaves
returns-clause-leaves g c =
    let files = g.F.Files in let m = g.M.Sink in let a = c.args.files.now in let b = c.read_head.new.files in
    let d = c.translate_under.new.files in let x = c.args.open_files in let y = c.choose.new.self in let r = c.translate_under.result in
    let went = went_head g (goal.at.returns-clause-leaves g c).After-choose in let left = c.translate_under.ensures.leaves in
    let rose = Rose (m.failures c.args.messages.now) (m.failures c.translate_under.new.messages) in
    record {
      went = went_then files a b d x y r.0 went left.went;
      fits = if_ok_more r.1 (λ compiled. StaysFit files b d y) (λ compiled. StaysFit files a d x)
          (λ compiled fit. fit_then files a b d x y went c.in-Ok-read_head.ensures.leaves.fits fit) left.fits;
      seen = tells_then r.1 (files.faults a) (files.faults b) (files.faults d) c.in-Ok-read_head.ensures.leaves.seen left.seen;
      errors = left.errors;
      clean = left.clean;
      fault = if_caused_more r.1 (λ name. IsUnreadable files b d y r.0) (λ name. IsUnreadable files a d x r.0) rose rose
          (λ name why. unreadable_then files a b d x y r.0 went why) (λ rises. rises) left.fault;
      quiet = left.quiet;
    }

pub translate_under-requires-clause-set : goal.translate_under-requires-clause-set
translate_under-requires-clause-set g c = ap (λ (f : Open). f.nest.limit) c.choose.ensures.value ∙ c.of.ensures.value

-- a fault in the head

pub returns-in-Err-clause-translated : goal.returns-in-Err-clause-translated
returns-in-Err-clause-translated g c = λ honest start nested.
    let files = g.F.Files in let s = files.sources c.args.files.now in let head = c.in-Err.ensures in
    let failed = Rose (files.faults c.args.files.now) (files.faults c.read_head.new.files) in
    record {
      concludes = tt;
      stops = stops_none _ _ _ _ _ _;
      early = tt;
      heard = inl (given_up_there failed s start (files.openings c.args.files.now) (files.openings c.read_head.new.files) c.args.open_files
          c.read_head.new.open_files (g.M.Sink.taken c.args.messages.now) (string_bytes c.in-Ok.told) nested (head.leaves.cause refl).1
          (head.read honest start nested).unfinished (head.leaves.on refl) (c.read_head.ensures.read honest start nested).opened c.read_head.ensures.leaves.same
          (c.in-Ok.ensures.ok ∙ c.innermost.ensures.file));
      opened = (zero, λ told. (c.read_head.ensures.read honest start nested).opened);
    }

pub returns-in-Err-clause-leaves : goal.returns-in-Err-clause-leaves
returns-in-Err-clause-leaves g c = record {
  went = c.read_head.ensures.leaves.went;
  fits = tt;
  seen = (tt, tt);
  errors = tt;
  clean = tt;
  fault = unread_there g.F.Files c.args.files.now c.read_head.new.files c.args.open_files c.read_head.new.open_files
      (c.in-Err.ensures.leaves.cause refl).1;
  quiet = (tt, refl);
}

-- no memory for the directories, or for the name

pub returns-in_default-directories-clause-translated : goal.returns-in_default-directories-clause-translated
returns-in_default-directories-clause-translated g c = λ honest start nested.
    translated_none (λ told. (c.read_head.ensures.read honest start nested).opened)

pub returns-in_default-directories-clause-leaves : goal.returns-in_default-directories-clause-leaves
returns-in_default-directories-clause-leaves g c =
    leaves_none (went_head g (goal.at.returns-in_default-directories-clause-leaves g c).After-choose) c.in-Ok-read_head.ensures.leaves.seen

pub returns-in_default-clause-translated : goal.returns-in_default-clause-translated
returns-in_default-clause-translated g c = λ honest start nested. translated_none (λ told. refl)

pub returns-in_default-clause-leaves : goal.returns-in_default-clause-leaves
returns-in_default-clause-leaves g c = leaves_none (went_none g.F.Files c.args.files.now c.args.open_files) refl
