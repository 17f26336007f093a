-- Sources have programs, since their reading ends and each of its turns is regular, and their outcomes are those of their programs.
use Rattle.std.proofs.Common.{◌≡◌, ℕ, List, [], true, false, Option, Some, refl, sym, ◌∙◌, ap, subst, ◌↔◌}
use Rattle.inf_settings.specs.Bounds.{Limits, limits_of}
use Rattle.inf_devices.specs.Files.{Sources}
use Rattle.inf_session.specs.{Choices.Choices, Session.State as TurnState, Session.has_ended, Session.run, Session.start}
use Rattle.inf_ending.specs.Ending.{Outcome}
use Rattle.inf_compile.specs.Outcome.{IsCompiled, IsOutcome, IsOutcomeOf}
use Rattle.inf_compile.proofs.{OutcomeLaws.outcomes_are_unique, Reaching.outcomes_exist}
use Rattle.inf_program.specs.{BySides.with_conditions, SideTurns.side_run, Writing.silent_run as turn_run, Writing.unwritten}
use Rattle.inf_program.specs.{definition.Supplied.AreSupplied, definition.Written.IsOutcomeOfProgram, definition.Written.ending}
use Rattle.inf_program.specs.definition.States.{State, has_ended as has_ended_by, start as start_by}
use Rattle.inf_program.specs.Readings.{ProgramOf, SourcesAreRegular, SourcesHavePrograms}
use Rattle.inf_program.proofs.{Outcomes.programs_have_their_outcome, Outcomes.unwritten_same, Readings.regular_readings_are_programs}
use Rattle.inf_program.proofs.{RegularTurns.sources_regular, SideTurns.Ran, SideTurns.source_ran, Supplied.texts_are_programs}
use Rattle.inf_program.proofs.{Turns.lines_are_written_at_any_time}

pub sources_are_regular : SourcesAreRegular
sources_are_regular sources o name n = sources_regular (limits_of o.settings) sources o name n

pub sources_have_programs : SourcesHavePrograms
sources_have_programs sources o name source there =
    let limits : Limits = limits_of o.settings in
    let s : TurnState = start sources o name in
    let out : (e : Outcome) × IsOutcome sources o [] name e = outcomes_exist sources o [] name in
    let c : IsCompiled sources o [] name out.0 = subst (λ (x : Option (List ℕ)). IsOutcomeOf x sources o [] name out.0) there out.1 in
    let n : ℕ = c.is_read.turns in
    let first : State = start_by sources o name in
    let x : State = side_run limits sources o n first in
    let a : Ran (turn_run limits sources o n s) x = source_ran limits sources o name n in
    let silent : unwritten (run limits sources o n s) ≡ with_conditions a.conditions a.quoted x =
    (lines_are_written_at_any_time limits).all sources o n s
    ∙ (ap (turn_run limits sources o n) (unwritten_same s refl) ∙ a.same) in
    let ends : has_ended_by x ≡ true = ap has_ended (sym silent) ∙ (ap has_ended c.is_read.leads ∙ c.is_read.ends) in
    let p : ProgramOf limits sources o n first =
    regular_readings_are_programs limits sources o n first refl (sources_regular limits sources o name n) ends in
    (p.final, p.is_program)

-- where reading does not end before the first token
pub outcomes_are_those_of_programs : (sources : Sources) (o : Choices) (serial name source : List ℕ) (e : Outcome) → sources name ≡ Some source
    → has_ended_by (start_by sources o name) ≡ false → IsOutcome sources o serial name e ↔ IsOutcomeOfProgram sources o serial name e
outcomes_are_those_of_programs sources o serial name source e there going = (onward, back)
  where
    onward : IsOutcome sources o serial name e → IsOutcomeOfProgram sources o serial name e
    onward outcome =
        let limits : Limits = limits_of o.settings in
        let p = sources_have_programs sources o name source there in
        let all : (end : State) × AreSupplied limits sources o end 0 p.0 = (texts_are_programs limits).all sources o 0 p.0 in
        record {
          final = p.0;
          end = all.0;
          is_program = p.1;
          are_supplied = all.1;
          is_ending = outcomes_are_unique sources o serial name e (ending limits serial all.0) outcome
              (programs_have_their_outcome sources o serial name source p.0 all.0 there going p.1 all.1);
        }

    back : IsOutcomeOfProgram sources o serial name e → IsOutcome sources o serial name e
    back w = subst (λ (x : Outcome). IsOutcome sources o serial name x) (sym w.is_ending)
        (programs_have_their_outcome sources o serial name source w.final w.end there going w.is_program w.are_supplied)
