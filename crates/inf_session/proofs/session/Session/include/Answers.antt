use Rattle.std.proofs.Common.{rules, false, ◌≡◌, ◌⊎◌, inl, inr, List, Ok, Err, Some, Vec, ap, refl, reverse, subst, sym, ◌∙◌}
use Rattle.std.specs.declared.alloc.Global.{Global}
use Rattle.inf_sources.specs.{Calls.IsUnreadable, Open.Open, Open.lexers_of, Open.nesting, Open.opened_since}
use Rattle.inf_sources.proofs.Entered.{lexers_more}
use Rattle.inf_sources.specs.Inclusions.{OpenedInVain, OpensTooMany, inclusion}
use Rattle.inf_session.specs.{Choices.chosen, Session.State, Session.none_included, Standing.HasRoom, Standing.state}
use Rattle.inf_session.specs.Weights.{Enters, Stays}
use Rattle.inf_devices.specs.Files.{Rose}
use Rattle.inf_ending.specs.declared.faults.Fault.{Fault}
use Rattle.inf_sources.specs.declared.{faults.IncludeFault.IncludeFault, open_file.Conditional.Conditional, open_files.Included.Included}
use Rattle.inf_lexer.specs.Names.{Nest}
use Rattle.inf_conditionals.specs.{Ends.with_among, Open.Conditions}
use Rattle.inf_report.specs.{Meant.meant, Messages.Location}
use Rattle.inf_unit.specs.Messages.{location, with_fatal}
use Rattle.inf_session.proofs.Opening.{entered, in_vain, not_entered, on_ok_at, tried}
use Rattle.inf_session.proofs.Promises.{promised_as, promised_failed, promised_here, promised_went, told_halt}
use Rattle.inf_session.proofs.session.Session.include.Goals.{in-Ok-NotThere, in-Ok-TooDeep}
use Rattle.inf_session.proofs.session.Session.include.Goals as goal

pub returns-in_err-told-clause-called : goal.returns-in_err-told-clause-called
returns-in_err-told-clause-called g c = promised_as (told_halt c.from_residual.result _ _ c.from_residual.ensures.1)
    (promised_here (Some Fault.Memory) refl refl (λ s o start. tt)
    (λ failed s o start. record { opened = inl (λ told. refl); unread = tt }) tt)

pub returns-in-Err-Device-clause-called : goal.returns-in-Err-Device-clause-called
returns-in-Err-Device-clause-called g c =
    let files = g.F.Files in let before = c.args.self.now in let text = c.args.text.now in
    let s = files.sources c.args.files.now in let o = chosen before.setup in
    let device = ap (λ f. Err f) c.in-Err-Device.field-0-is in
    let failed = Rose (files.faults c.args.files.now) (files.faults c.include.new.files) in
    let unreadable : IsUnreadable files c.args.files.now c.include.new.files before.open_files c.include.new.self =
    elim (c.in-Err-Device.ensures.cause device).1 [ inl rose ↦ inl rose | inr many ↦ inr (inr many.0) ] in
    promised_as (ap (λ (e : Fault). Some e) (sym c.lose.ensures))
    (promised_failed c.include.ensures.went refl c.include.ensures.settings.1 tt unreadable (λ honest start nested.
    let was = nesting s start (files.openings c.args.files.now) before.open_files in
    let opened = opened_since start (files.openings c.include.new.files) in
    let cause : failed ⊎ OpensTooMany (inclusion s o.directories text was) was opened =
    elim (c.in-Err-Device.ensures.cause device).1 [ inl rose ↦ inl rose | inr many ↦ inr (many.1 honest start nested) ] in
    let vain : OpenedInVain IncludeFault.Device (inclusion s o.directories text was) was opened =
    subst (λ f. OpenedInVain f (inclusion s o.directories text was) was opened) c.in-Err-Device.field-0-is
    (c.in-Err-Device.ensures.included honest start nested) in
    record {
      opened = in_vain s o c.args.unit text start (files.openings c.args.files.now) before opened vain;
      unread = λ told. (
        c.in_ok-told.ensures.ok ∙ c.shown.ensures (c.in-Err-Device.ensures.cause device).0,
        record { cause = cause; openings_are = vain },
      );
    }))

pub returns-in-Err-Memory-clause-called : goal.returns-in-Err-Memory-clause-called
returns-in-Err-Memory-clause-called g c =
    let files = g.F.Files in let s = files.sources c.args.files.now in let o = chosen c.args.self.now.setup in
    let tries = rw c.in-Err-Memory.field-0-is at c.in-Err-Memory.ensures.tries in
    promised_failed c.include.ensures.went refl c.include.ensures.settings.1 tries.calm tt (λ honest start nested.
    let was = nesting s start (files.openings c.args.files.now) c.args.self.now.open_files in
    record {
      opened = inl (λ told. subst (λ f. OpenedInVain f (inclusion s o.directories c.args.text.now was) was
          (opened_since start (files.openings c.include.new.files))) c.in-Err-Memory.field-0-is
          (c.in-Err-Memory.ensures.included honest start nested));
      unread = tt;
    })

pub returns-in_err-fatal-clause-called : goal.returns-in_err-fatal-clause-called
returns-in_err-fatal-clause-called g c =
    let files = g.F.Files in let s = files.sources c.args.files.now in let before = c.args.self.now in
    let seen : files.faults c.include.new.files ≡ files.faults c.args.files.now = elim c.match-include-2.branch [
      | in-Ok-NotThere w ↦ (
          let is : c.include.result ≡ Ok Included.NotThere = search rules in let t = rw is at c.include.ensures.tries in t.calm
          )
      | in-Ok-TooDeep w ↦ (
          let is : c.include.result ≡ Ok Included.TooDeep = search rules in let t = rw is at c.include.ensures.tries in t.calm
          )
    ] in
    promised_as (told_halt c.from_residual-in_err-fatal.result _ _ c.from_residual-in_err-fatal.ensures.1)
    (promised_failed c.include.ensures.went refl c.include.ensures.settings.1 seen tt (λ honest start nested. record {
      opened = elim c.match-include-2.branch [
        | in-Ok-NotThere w ↦ (
            let is : c.include.result ≡ Ok Included.NotThere = search rules in
            let done = rw is at (c.include.ensures.included honest start nested) in
            tried s (chosen before.setup) c.args.unit c.args.text.now _ _ _ _ start (files.openings c.args.files.now)
            (files.openings c.include.new.files) before c.include.new.self done.1
            )
        | in-Ok-TooDeep w ↦ (
            let is : c.include.result ≡ Ok Included.TooDeep = search rules in
            let done = rw is at (c.include.ensures.included honest start nested) in
            tried s (chosen before.setup) c.args.unit c.args.text.now _ _ _ _ start (files.openings c.args.files.now)
            (files.openings c.include.new.files) before c.include.new.self done.1
            )
      ];
      unread = tt;
    }))

pub returns-in_err-make_room-in-Ok-Entered-clause-called : goal.returns-in_err-make_room-in-Ok-Entered-clause-called
returns-in_err-make_room-in-Ok-Entered-clause-called g c =
    let files = g.F.Files in let s = files.sources c.args.files.now in let before = c.args.self.now in
    promised_as (told_halt c.from_residual-in_err-make_room-in-Ok-Entered.result _ _
    c.from_residual-in_err-make_room-in-Ok-Entered.ensures.1)
    (promised_failed c.include.ensures.went refl c.include.ensures.settings.1 c.in-Ok-Entered.ensures.tries.calm tt
    (λ honest start nested. record {
      opened = tried s (chosen before.setup) c.args.unit c.args.text.now _ _ _ _ start (files.openings c.args.files.now)
          (files.openings c.include.new.files) before c.include.new.self (c.in-Ok-Entered.ensures.included honest start nested).1;
      unread = tt;
    }))

pub returns-in-Ok-Entered-clause-called : goal.returns-in-Ok-Entered-clause-called
returns-in-Ok-Entered-clause-called g c =
    let call = c.in-Ok-Entered.ensures in let moves = rw c.in-Ok-Entered.field-0-is at call.moves in
    promised_went c.include.ensures.went refl c.include.ensures.settings.1 (λ goes. call.goes) c.include.ensures.fits call.tries.calm
    (λ honest start nested told.
    let files = g.F.Files in let s = files.sources c.args.files.now in let before = c.args.self.now in
    let taken = c.take_among-conditionals in
    entered s (chosen before.setup) c.args.unit c.args.text.now _ _ _ _ c.include.new.is_system
    (state s start (files.openings c.args.files.now) before told) (nesting s start (files.openings c.include.new.files) c.include.new.self)
    taken.new.self (sym c.in-Ok-Entered.field-0-is ∙ (call.included honest start nested).0)
    (call.included honest start nested).1 refl c.requires.set taken.ensures.taken refl taken.ensures.none moves.mark_is)

pub returns-clause-called : goal.returns-clause-called
returns-clause-called g c =
    let seen : g.F.Files.faults c.include.new.files ≡ g.F.Files.faults c.args.files.now = elim c.match-include-2.branch [
      | in-Ok-NotThere w ↦ (
          let is : c.include.result ≡ Ok Included.NotThere = search rules in let t = rw is at c.include.ensures.tries in t.calm
          )
      | in-Ok-TooDeep w ↦ (
          let is : c.include.result ≡ Ok Included.TooDeep = search rules in let t = rw is at c.include.ensures.tries in t.calm
          )
    ] in
    let goes : c.include.new.self.lexer.has_failed ≡ false = elim c.match-include-2.branch [
      | in-Ok-NotThere w ↦ (
          let is : c.include.result ≡ Ok Included.NotThere = search rules in on_ok_at _ _ c.include.result _ _ is c.include.ensures.goes
          )
      | in-Ok-TooDeep w ↦ (
          let is : c.include.result ≡ Ok Included.TooDeep = search rules in on_ok_at _ _ c.include.result _ _ is c.include.ensures.goes
          )
    ] in
    promised_went c.include.ensures.went refl c.include.ensures.settings.1 (λ before. goes) c.include.ensures.fits seen
    (λ honest start nested told.
    let files = g.F.Files in let s = files.sources c.args.files.now in let o = chosen c.args.self.now.setup in
    let old = files.openings c.args.files.now in let new = files.openings c.include.new.files in
    let before = c.args.self.now in let unit = c.args.unit in let text = c.args.text.now in
    let report = before.progress.work.report in let here = location before.open_files.nest.names unit in
    let was : State = state s start old before told in let call = c.include.ensures in
    let taken = c.take_among-conditionals in
    let none = λ (why : Included) (is : c.include.result ≡ Ok why) (never : why ≡ Included.Entered → ⊥)
    (kept : (c.include.new.self ≡ before.open_files) × ((c.include.new.conditionals ≡ taken.result)
    × (c.include.new.is_system ≡ before.progress.work.is_system)))
    (says : with_fatal here (meant c.match-include-2.message) report ≡ (none_included unit text why was).work.report).
    let done = rw is at (call.included honest start nested) in
    not_entered s o unit text _ _ _ _ c.include.new.is_system start old new before c.include.new.self why c.give_among.new.self
    c.fatal.new.self told done.0 never done.1 (c.give_among.ensures
    ∙ ap (λ (v : Vec Conditional Global). with_among (reverse v.items) taken.new.self) kept.1.0
    ∙ ap (λ (k : Conditions). with_among (reverse taken.result.items) k) taken.ensures.none
    ∙ ap (λ (among : List Conditional). with_among among before.conditionals) taken.ensures.taken) kept.1.1 (c.in_ok-fatal.ensures
    ∙ ap (λ (l : Location). with_fatal l (meant c.match-include-2.message) report)
    (c.location-at.ensures ∙ ap (λ (n : Nest). location n.names unit) (c.names.ensures ∙ ap (λ (f : Open). f.nest) kept.0)) ∙ says) in
    elim c.match-include-2.branch [
      | in-Ok-NotThere w ↦ (
          let is : c.include.result ≡ Ok Included.NotThere = search rules in
          none Included.NotThere is (λ e. cc) (rw is at call.moves) (ap (λ m. with_fatal here (meant m) report) w.message-is)
          )
      | in-Ok-TooDeep w ↦ (
          let is : c.include.result ≡ Ok Included.TooDeep = search rules in
          none Included.TooDeep is (λ e. cc) (rw is at call.moves) (ap (λ m. with_fatal here (meant m) report) w.message-is)
          )
    ])

pub returns-in-Ok-Entered-clause-goes_on : goal.returns-in-Ok-Entered-clause-goes_on
returns-in-Ok-Entered-clause-goes_on g c =
    let before = c.args.self.now.open_files in
    let moves = rw c.in-Ok-Entered.field-0-is at c.in-Ok-Entered.ensures.moves in
    inr (Enters refl moves.given moves.left (ap lexers_of moves.outer ∙ lexers_more before.outer _) moves.room)

pub returns-clause-goes_on : goal.returns-clause-goes_on
returns-clause-goes_on g c =
    let same : c.include.new.self ≡ c.args.self.now.open_files = elim c.match-include-2.branch [
      | in-Ok-NotThere w ↦ (
          let is : c.include.result ≡ Ok Included.NotThere = search rules in let moves = rw is at c.include.ensures.moves in moves.0
          )
      | in-Ok-TooDeep w ↦ (
          let is : c.include.result ≡ Ok Included.TooDeep = search rules in let moves = rw is at c.include.ensures.moves in moves.0
          )
    ] in
    inr (Stays refl same)

pub returns-clause-room : goal.returns-clause-room
returns-clause-room g c =
    let same : c.include.new.self ≡ c.args.self.now.open_files = elim c.match-include-2.branch [
      | in-Ok-NotThere w ↦ (
          let is : c.include.result ≡ Ok Included.NotThere = search rules in let moves = rw is at c.include.ensures.moves in moves.0
          )
      | in-Ok-TooDeep w ↦ (
          let is : c.include.result ≡ Ok Included.TooDeep = search rules in let moves = rw is at c.include.ensures.moves in moves.0
          )
    ] in
    subst (λ (o : Open). HasRoom c.args.self.now.room o) (sym same) c.requires.room
