use Rattle.std.proofs.Common.{◌≡◌, ◌⊎◌, ◌<◌, ◌≤◌, true, false, IfOk, refl, sym, ap, subst, ◌∙◌, is_none, length}
use Rattle.std.proofs.lemmas.Result.{on_ok_weaker}
use Rattle.inf_reader.specs.{Standing.reading}
use Rattle.inf_sources.specs.Open.{Open}
use Rattle.inf_session.specs.{Choices.chosen, Choices.most_quoted, declared.setup.Setup.Setup}
use Rattle.inf_session.specs.{Veneer.most_texts, Weights.steps_left, declared.session.Step.Step}
use Rattle.inf_session.specs.Standing.{came_to, ended, is_done, next_of}
use Rattle.inf_session.proofs.Parting.{done_by, done_is, going_is, if_ok_two, part_ends, part_falls, parted_by, veneer_bounded}
use Rattle.inf_session.proofs.Parting.{veneer_falls}
use Rattle.inf_session.proofs.Promises.{goes_on, on_ok_any, promised_all, promised_here_all, still_open}
use Rattle.inf_session.proofs.session.Session.step.Goals as goal

-- a routine of the veneer

pub returns-then-has_ended-clause-called : goal.returns-then-has_ended-clause-called
returns-then-has_ended-clause-called g c =
    let over : ended c.args.self.now ≡ true = sym c.has_ended.ensures ∙ c.if-has_ended.true in
    let supplied = c.step_veneer.ensures.supplied in
    let never : ended c.args.self.now ≡ false → ⊥ = λ going. let no : false ≡ true = sym going ∙ over in cc in
    promised_here_all _ supplied.files supplied.setup (λ s o start going. absurd (never going))
    (λ failed s o start e going. absurd (never going)) supplied.cause

pub returns-then-has_ended-clause-wrote : goal.returns-then-has_ended-clause-wrote
returns-then-has_ended-clause-wrote g c = c.step_veneer.ensures.supplied.wrote

pub returns-then-has_ended-clause-supplied : goal.returns-then-has_ended-clause-supplied
returns-then-has_ended-clause-supplied g c = λ over. (c.step_veneer.ensures.supplied, refl)

pub returns-then-has_ended-clause-stepped : goal.returns-then-has_ended-clause-stepped
returns-then-has_ended-clause-stepped g c =
    let s = c.args.self.now in let t = c.step_veneer.new.self in let call = c.step_veneer.ensures in
    let over : ended s ≡ true = sym c.has_ended.ensures ∙ c.if-has_ended.true in
    record {
      parted = on_ok_weaker c.step_veneer.result (λ (e : ended t ≡ true). parted_by t e) (call.ended over);
      came = subst (λ b. IfOk c.step_veneer.result (λ x. x ≡ came_to b t)) (sym (done_is s over)) call.came;
      ends = if_ok_two c.step_veneer.result (λ x. (x ≡ Step.More → ⊥) → is_none (next_of t) ≡ true) (λ x. ended t ≡ true)
          (λ x. (x ≡ Step.More → ⊥) → is_done t ≡ true) (λ x ends is more. done_by t is (ends more)) call.ends (call.ended over);
      again = λ done. let again = call.again (sym (done_is s over) ∙ done) in (again.0, (again.1.0, (refl, again.1.1)));
      bounded = λ bounded. on_ok_weaker c.step_veneer.result
          (λ few. veneer_bounded s t call.supplied.setup (λ before. few) (λ none. (call.again none).1.0) bounded) (call.longest bounded.0);
      falls = if_ok_two c.step_veneer.result (λ x. ended t ≡ true)
          (λ x. (is_none (next_of t) ≡ true) ⊎ ((s.passed < t.passed) × (t.passed ≤ most_texts)))
          (λ x. (is_done t ≡ true) ⊎ (steps_left t < steps_left s)) (λ x e falls. veneer_falls s t over e falls)
          (call.ended over) call.falls;
    }

-- a part of the source

pub returns-clause-called : goal.returns-clause-called
returns-clause-called g c =
    promised_all c.read_part.ensures.called (λ s o start made going. made) (λ failed s o start e h going. h) (λ r. r)

pub returns-clause-wrote : goal.returns-clause-wrote
returns-clause-wrote g c = c.read_part.ensures.wrote

pub returns-clause-supplied : goal.returns-clause-supplied
returns-clause-supplied g c = λ over. let never : false ≡ true = sym (sym c.has_ended.ensures ∙ c.if-has_ended.false) ∙ over in cc

pub returns-clause-stepped : goal.returns-clause-stepped
returns-clause-stepped g c =
    let s = c.args.self.now in let t = c.read_part.new.self in let call = c.read_part.ensures.stepped in
    let going : ended s ≡ false = sym c.has_ended.ensures ∙ c.if-has_ended.false in
    record {
      parted = call.parted;
      came = subst (λ b. IfOk c.read_part.result (λ x. x ≡ came_to b t)) (going ∙ sym (going_is s going)) call.came;
      ends = if_ok_two c.read_part.result (λ x. x ≡ came_to (ended s) t) (λ x. (x ≡ Step.More → ⊥) → ended t ≡ true)
          (λ x. (x ≡ Step.More → ⊥) → is_done t ≡ true)
          (λ x came ends more. part_ends t x (came ∙ ap (λ b. came_to b t) going) more (ends more)) call.came call.ends;
      again = λ done. let never : false ≡ true = sym (going_is s going) ∙ done in cc;
      bounded = call.bounded;
      falls = on_ok_weaker c.read_part.result (part_falls s t going) call.falls;
    }

-- reading goes on

pub returns-clause-is_open : goal.returns-clause-is_open
returns-clause-is_open g c = still_open c.read_part.ensures.called.went c.requires.is_open

pub returns-clause-set : goal.returns-clause-set
returns-clause-set g c = c.read_part.ensures.called.set c.requires.set

pub returns-clause-goes : goal.returns-clause-goes
returns-clause-goes g c = goes_on _ _ c.read_part.result c.requires.goes c.read_part.ensures.called.goes

pub returns-then-has_ended-clause-is_open : goal.returns-then-has_ended-clause-is_open
returns-then-has_ended-clause-is_open g c =
    subst (λ (o : Open). length o.outer < g.F.Files.depth c.args.files.now) (sym c.step_veneer.ensures.supplied.files) c.requires.is_open

pub returns-then-has_ended-clause-set : goal.returns-then-has_ended-clause-set
returns-then-has_ended-clause-set g c =
    let supplied = c.step_veneer.ensures.supplied in
    ap (λ (o : Open). o.nest.limit) supplied.files ∙ c.requires.set ∙ ap (λ (p : Setup). most_quoted (chosen p)) (sym supplied.setup)

pub returns-then-has_ended-clause-goes : goal.returns-then-has_ended-clause-goes
returns-then-has_ended-clause-goes g c =
    on_ok_any c.step_veneer.result (ap (λ (o : Open). o.lexer.has_failed) c.step_veneer.ensures.supplied.files ∙ c.requires.goes)
