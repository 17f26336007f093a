-- The outcome of a source is the one that its program gives, whether the source is there or not, and wherever reading ends.
use Rattle.std.proofs.Common.{◌≡◌, ℕ, zero, List, Bool, true, false, Option, Some, None, refl, sym, ◌∙◌, ap, subst, true≢false, ◌↔◌}
use Rattle.inf_settings.specs.Bounds.{Limits, limits_of}
use Rattle.inf_devices.specs.Files.{Sources}
use Rattle.inf_session.specs.{Choices.Choices, Session.State as TurnState, Session.start as turn_start, Session.told_out}
use Rattle.inf_ending.specs.Ending.{Outcome}
use Rattle.inf_session.proofs.Leadings.{run_ended}
use Rattle.inf_compile.specs.Outcome.{IsCompiled, IsOutcome, IsOutcomeOf, ending_of}
use Rattle.inf_compile.proofs.{OutcomeLaws.outcomes_are_unique, Reaching.outcomes_exist}
use Rattle.inf_program.specs.{Writings.OutcomesAreWritten, definition.Supplied.AreSupplied}
use Rattle.inf_program.specs.definition.Program.{Continues, IsOver, IsProgram}
use Rattle.inf_program.specs.definition.States.{State, has_ended, start}
use Rattle.inf_program.specs.definition.Written.{IsOutcomeOfProgram, IsWritten, IsWrittenOf, ending}
use Rattle.inf_program.proofs.{Early.ending_told, Early.start_over, Existing.outcomes_are_those_of_programs, Supplied.supplied_ending}
use Rattle.inf_program.proofs.{Supplied.texts_are_programs}

-- Reading ends before the first token

-- a program behind the end has nothing
nothing_comes : (limits : Limits) (sources : Sources) (o : Choices) (final s : State) → has_ended s ≡ true
    → IsProgram limits sources o final s → s ≡ final
nothing_comes limits sources o final s ended (IsOver over same) = same
nothing_comes limits sources o final s ended (Continues going fresh next rest) = absurd (true≢false (sym ended ∙ going))

-- the messages of the ending are then all that were written
early_ending : (sources : Sources) (o : Choices) (serial name : List ℕ) (end : State) → has_ended (start sources o name) ≡ true
    → AreSupplied (limits_of o.settings) sources o end 0 (start sources o name)
    → ending_of (limits_of o.settings) o serial (turn_start sources o name) ≡ ending (limits_of o.settings) serial end
early_ending sources o serial name end ended supplied =
    let limits : Limits = limits_of o.settings in
    let s : TurnState = turn_start sources o name in
    sym (ending_told limits o serial s (start_over sources o name ended))
    ∙ supplied_ending limits sources o serial end 0 (start sources o name) supplied (told_out s)
    (record { nesting = refl; work = refl; told = refl; most = refl; passed = refl })

early_onward : (sources : Sources) (o : Choices) (serial name : List ℕ) (e : Outcome) → has_ended (start sources o name) ≡ true
    → IsCompiled sources o serial name e → IsOutcomeOfProgram sources o serial name e
early_onward sources o serial name e ended c =
    let limits : Limits = limits_of o.settings in
    let s : TurnState = turn_start sources o name in
    let first : State = start sources o name in
    let final : c.final ≡ s = sym c.is_read.leads ∙ run_ended limits sources o c.is_read.turns s ended in
    let all : (end : State) × AreSupplied limits sources o end 0 first = (texts_are_programs limits).all sources o 0 first in
    record {
      final = first;
      end = all.0;
      is_program = IsOver ended refl;
      are_supplied = all.1;
      is_ending = c.is_ending
          ∙ (ap (λ (x : TurnState). ending_of limits o serial x) final ∙ early_ending sources o serial name all.0 ended all.1);
    }

early_back : (sources : Sources) (o : Choices) (serial name : List ℕ) (e : Outcome) → has_ended (start sources o name) ≡ true
    → IsOutcomeOfProgram sources o serial name e → IsCompiled sources o serial name e
early_back sources o serial name e ended p =
    let limits : Limits = limits_of o.settings in
    let s : State = start sources o name in
    let final : s ≡ p.final = nothing_comes limits sources o p.final s ended p.is_program in
    let all : AreSupplied limits sources o p.end 0 s =
    subst (λ (x : State). AreSupplied limits sources o p.end 0 x) (sym final) p.are_supplied in
    record {
      final = turn_start sources o name;
      is_read = record { turns = zero; leads = refl; ends = ended };
      is_ending = p.is_ending ∙ sym (early_ending sources o serial name p.end ended all);
    }

-- Lemmas about outcomes

there_by : (sources : Sources) (o : Choices) (serial name source : List ℕ) (e : Outcome) → sources name ≡ Some source → (b : Bool)
    → has_ended (start sources o name) ≡ b → IsCompiled sources o serial name e ↔ IsOutcomeOfProgram sources o serial name e
there_by sources o serial name source e there true ended =
    (early_onward sources o serial name e ended, early_back sources o serial name e ended)
there_by sources o serial name source e there false going =
    subst (λ (x : Option (List ℕ)). IsOutcomeOf x sources o serial name e ↔ IsOutcomeOfProgram sources o serial name e) there
    (outcomes_are_those_of_programs sources o serial name source e there going)

written_by : (sources : Sources) (o : Choices) (serial name : List ℕ) (e : Outcome) (x : Option (List ℕ)) → sources name ≡ x
    → IsOutcomeOf x sources o serial name e ↔ IsWrittenOf x sources o serial name e
written_by sources o serial name e None there = ((λ w. w), (λ w. w))
written_by sources o serial name e (Some source) there =
    there_by sources o serial name source e there (has_ended (start sources o name)) refl

pub same_outcomes : (sources : Sources) (o : Choices) (serial name : List ℕ) (e : Outcome)
    → IsOutcome sources o serial name e ↔ IsWritten sources o serial name e
same_outcomes sources o serial name e = written_by sources o serial name e (sources name) refl

pub outcomes_are_written : OutcomesAreWritten
outcomes_are_written = record {
  same = same_outcomes;
  exist = λ sources o serial name.
      let out = outcomes_exist sources o serial name in (out.0, (same_outcomes sources o serial name out.0).0 out.1);
  unique = λ sources o serial name e f one two.
      outcomes_are_unique sources o serial name e f ((same_outcomes sources o serial name e).1 one)
      ((same_outcomes sources o serial name f).1 two);
}
