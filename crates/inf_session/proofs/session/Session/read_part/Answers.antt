use Rattle.std.proofs.Common.{inl, Err, ◌≡◌, ◌≤◌, zero, suc, [], false, true, None, Ok, Some, ap, refl, sym, subst, ◌∙◌}
use Rattle.inf_lexer.proofs.Candidates.{rose_earlier}
use Rattle.inf_session.specs.{Choices.chosen, Choices.most_quoted, Standing.came_to, Standing.ended, Standing.parted, Standing.state}
use Rattle.inf_session.specs.{Weights.weight, declared.setup.Setup.Setup}
use Rattle.inf_ending.specs.declared.faults.Fault.{Fault}
use Rattle.inf_session.proofs.{Bounds.bounded_still, Leadings.still_going, Leadings.writes_nothing, Parting.fatal_ends, Parting.parted_by}
use Rattle.inf_session.proofs.Promises.{promised_as, promised_from, promised_here, promised_so, promised_then, stepped_lost, still_open}
use Rattle.inf_session.proofs.{Promises.told_fault, Promises.wrote_as, Promises.wrote_none, Promises.wrote_then, Runs.none_breaks}
use Rattle.inf_session.proofs.{Runs.part_begins, Runs.part_goes, Runs.turn_breaks, Weighing.ends_or_falls, Weighing.falls_then}
use Rattle.inf_session.proofs.session.Session.read_part.Goals as goal

pub loop-self-init : goal.loop-self-init
loop-self-init g c =
    let took = c.in_default.ensures in
    let going : ended c.args.self.now ≡ false = sym c.has_ended.ensures ∙ c.if-has_ended.false in
    record {
      called = promised_from refl refl took.called (λ s o start w. part_begins g.B.Bounds.most s o (λ told. going) w)
          (λ failed s o start. tt) (λ r. r);
      wrote = took.wrote;
      falls = took.falls;
      is_open = still_open took.called.went c.requires.is_open;
      goes = took.called.goes c.requires.goes;
      set = took.called.set c.requires.set;
      longest = took.longest;
      room = took.room;
    }

pub loop-self-preserved : goal.loop-self-preserved
loop-self-preserved g c =
    let m = g.M.Sink in let inv = c.loop-self.invariant in let took = c.in_default-turn.ensures in
    let going : ended c.args.self.now ≡ false = sym c.has_ended.ensures ∙ c.if-has_ended.false in
    let open_still : parted c.loop-self.self ≡ false = sym c.has_parted.ensures ∙ c.loop-self-test.true in
    record {
      called = promised_then inv.called took.called
          (λ s o start led w. part_goes g.B.Bounds.most s o (λ told. going) (λ told. open_still) led w) (λ rose s o start. tt)
          (λ r. rose_earlier (m.failures c.args.messages.now) (m.failures c.loop-self.messages)
          (m.failures c.turn-in-loop-self.new.messages) inv.wrote.appends.failures r);
      wrote = wrote_then inv.wrote took.wrote;
      falls = falls_then (ended c.loop-self.self) (ended c.turn-in-loop-self.new.self) (weight c.args.self.now.open_files)
          (weight c.loop-self.self.open_files) (weight c.turn-in-loop-self.new.self.open_files)
          inv.falls (still_going (state (g.F.Files.sources c.args.files.now) (g.F.Files.openings c.args.files.now)
          (g.F.Files.openings c.loop-self.files) c.loop-self.self []) open_still) took.falls;
      is_open = still_open took.called.went inv.is_open;
      goes = took.called.goes inv.goes;
      set = took.called.set inv.set;
      longest = λ few. subst (λ (p : Setup). c.turn-in-loop-self.new.self.quoted ≤ most_quoted (chosen p)) inv.called.setup
          (took.longest (subst (λ (p : Setup). c.loop-self.self.quoted ≤ most_quoted (chosen p)) (sym inv.called.setup) (inv.longest few)));
      room = took.room;
    }

pub loop-self-smaller : goal.loop-self-smaller
loop-self-smaller g c =
    let files = g.F.Files in
    let open_still : parted c.loop-self.self ≡ false = sym c.has_parted.ensures ∙ c.loop-self-test.true in
    let s = files.sources c.args.files.now in
    ends_or_falls (ended c.turn-in-loop-self.new.self) (ended c.loop-self.self) (weight c.loop-self.self.open_files)
    (weight c.turn-in-loop-self.new.self.open_files)
    (still_going (state s (files.openings c.args.files.now) (files.openings c.loop-self.files) c.loop-self.self []) open_still)
    c.in_default-turn.ensures.falls

-- reading had ended

pub returns-then-has_ended-clause-called : goal.returns-then-has_ended-clause-called
returns-then-has_ended-clause-called g c =
    let old = g.M.Sink.taken c.args.messages.now in
    promised_here None refl refl (λ s o start. (zero, (writes_nothing old (λ told. refl), writes_nothing old (λ told. refl))))
    (λ failed s o start. tt) tt

pub returns-then-has_ended-clause-wrote : goal.returns-then-has_ended-clause-wrote
returns-then-has_ended-clause-wrote g c = wrote_none None

pub returns-then-has_ended-clause-stepped : goal.returns-then-has_ended-clause-stepped
returns-then-has_ended-clause-stepped g c =
    let over : ended c.args.self.now ≡ true = sym c.has_ended.ensures ∙ c.if-has_ended.true in
    record {
      parted = parted_by c.args.self.now over;
      came = c.came_to.ensures ∙ ap (λ b. came_to b c.args.self.now) (sym over);
      ends = λ more. over;
      again = λ e. (ap (λ x. Ok x) c.came_to.ensures, (refl, (refl, refl)));
      bounded = λ b. b;
      falls = inl over;
    }

-- no room for the name of the innermost file

pub returns-in_err-make_room-clause-called : goal.returns-in_err-make_room-clause-called
returns-in_err-make_room-clause-called g c = promised_as (told_fault c.from_residual.result _ c.from_residual.ensures.1)
    (promised_here (Some Fault.Memory) refl refl (λ s o start. tt) (λ failed s o start. none_breaks) tt)

pub returns-in_err-make_room-clause-wrote : goal.returns-in_err-make_room-clause-wrote
returns-in_err-make_room-clause-wrote g c = wrote_none _

pub returns-in_err-make_room-clause-stepped : goal.returns-in_err-make_room-clause-stepped
returns-in_err-make_room-clause-stepped g c =
    stepped_lost c.from_residual.result c.from_residual.ensures.0 (sym c.has_ended.ensures ∙ c.if-has_ended.false)

-- a turn was given up

pub returns-in-Err-clause-called : goal.returns-in-Err-clause-called
returns-in-Err-clause-called g c =
    let going : ended c.args.self.now ≡ false = sym c.has_ended.ensures ∙ c.if-has_ended.false in
    promised_as (ap (λ (e : Fault). Some e) (sym c.fault_of.ensures)) (promised_from refl refl c.in-Err.ensures.called (λ s o start. tt)
    (λ failed s o start h. turn_breaks zero h (writes_nothing (g.M.Sink.taken c.args.messages.now) (λ told. refl)) (λ told. going) (λ r. r))
    (λ r. r))

pub returns-in-Err-clause-wrote : goal.returns-in-Err-clause-wrote
returns-in-Err-clause-wrote g c = wrote_as (ap (λ (e : Fault). Some e) (sym c.fault_of.ensures)) c.in-Err.ensures.wrote

pub returns-in-Err-clause-stepped : goal.returns-in-Err-clause-stepped
returns-in-Err-clause-stepped g c = stepped_lost (Err c.fault_of.result) refl (sym c.has_ended.ensures ∙ c.if-has_ended.false)

pub returns-in-Err-turn-clause-called : goal.returns-in-Err-turn-clause-called
returns-in-Err-turn-clause-called g c =
    let m = g.M.Sink in let inv = c.loop-self.invariant in
    let open_still : parted c.loop-self.self ≡ false = sym c.has_parted.ensures ∙ c.loop-self-test.true in
    promised_as (ap (λ (e : Fault). Some e) (sym c.fault_of-in-Err-turn.ensures))
    (promised_then inv.called c.in-Err-turn.ensures.called (λ s o start. tt) (λ rose s o start led h. turn_breaks (suc led.0) h led.1.1
    (λ told. still_going (state s start (g.F.Files.openings c.loop-self.files) c.loop-self.self told) open_still) rose)
    (λ r. rose_earlier (m.failures c.args.messages.now) (m.failures c.loop-self.messages) (m.failures c.turn-in-loop-self.new.messages)
    inv.wrote.appends.failures r))

pub returns-in-Err-turn-clause-wrote : goal.returns-in-Err-turn-clause-wrote
returns-in-Err-turn-clause-wrote g c = wrote_as (ap (λ (e : Fault). Some e) (sym c.fault_of-in-Err-turn.ensures))
    (wrote_then c.loop-self.invariant.wrote c.in-Err-turn.ensures.wrote)

pub returns-in-Err-turn-clause-stepped : goal.returns-in-Err-turn-clause-stepped
returns-in-Err-turn-clause-stepped g c =
    stepped_lost (Err c.fault_of-in-Err-turn.result) refl (sym c.has_ended.ensures ∙ c.if-has_ended.false)

-- a part was read

pub returns-clause-called : goal.returns-clause-called
returns-clause-called g c = promised_so c.loop-self.invariant.called (λ s o start led. (suc led.0, led.1)) (λ failed s o start. tt) (λ r. r)

pub returns-clause-wrote : goal.returns-clause-wrote
returns-clause-wrote g c = c.loop-self.invariant.wrote

pub returns-clause-stepped : goal.returns-clause-stepped
returns-clause-stepped g c =
    let inv = c.loop-self.invariant in
    let going : ended c.args.self.now ≡ false = sym c.has_ended.ensures ∙ c.if-has_ended.false in
    record {
      parted = sym c.has_parted.ensures ∙ c.loop-self-test.false;
      came = c.came_to-2.ensures ∙ ap (λ b. came_to b c.loop-self.self) (sym going);
      ends = λ more. fatal_ends c.loop-self.self c.came_to-2.result c.came_to-2.ensures more;
      again = λ over. let never : false ≡ true = sym going ∙ over in cc;
      bounded = λ b. bounded_still c.args.self.now c.loop-self.self inv.called.setup inv.longest going b;
      falls = inv.falls;
    }
