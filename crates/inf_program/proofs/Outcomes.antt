-- The ending of a program is the outcome of its source: writing the messages behind the end, or behind each turn, makes no difference, and
-- neither do the rest of a piece that was broken off, the conditionals that are open there, and the longest quoted token.
use Rattle.std.proofs.Common.{◌≡◌, ℕ, zero, suc, List, [], ◌++◌, true, false, Option, refl, sym, ◌∙◌, ap, subst, append-nil, true≢false}
use Rattle.inf_settings.specs.Bounds.{Limits, limits_of}
use Rattle.inf_devices.specs.Files.{Sources}
use Rattle.inf_unit.proofs.Cases.{of_both}
use Rattle.inf_unit.specs.Messages.{flushed}
use Rattle.inf_conditionals.specs.Open.{Conditions}
use Rattle.inf_session.specs.Choices.{Choices}
use Rattle.inf_session.specs.Session.{State as TurnState, has_ended, run, start, told_out, turn}
use Rattle.inf_session.proofs.Leadings.{run_going}
use Rattle.inf_compile.specs.Outcome.{IsCompiled, IsOutcomeOf, ending_of}
use Rattle.inf_program.specs.{BySides.with_conditions, Programs.EndsAs, Programs.ProgramsHaveTheirOutcome, SideTurns.side_run}
use Rattle.inf_program.specs.{definition.NextToken.afresh, definition.Supplied.AreSupplied, definition.Written.ending}
use Rattle.inf_program.specs.Writing.{silent_run as turn_run, unwritten, with_lines}
use Rattle.inf_program.specs.definition.States.{State, has_ended as has_ended_by, start as start_by}
use Rattle.inf_program.proofs.{Programs.turns_do_programs, SideTurns.Ran, SideTurns.source_ran, Supplied.Speaks, Supplied.supplied_ending}
use Rattle.inf_program.proofs.{Turns.lines_are_written_at_any_time}

-- Lemmas about the messages

pub unwritten_same : (s : TurnState) → s.told ≡ [] → unwritten s ≡ s
unwritten_same s e = ap (λ (told : List ℕ). with_lines told [] s) e ∙ ap (λ (told : List ℕ). record s { told = told }) (sym e)

-- behind a turn no line is still to be written
run_flushed : (limits : Limits) (sources : Sources) (o : Choices) (n : ℕ) (s : TurnState) → s.work.report.lines ≡ []
    → (run limits sources o n s).work.report.lines ≡ []
run_flushed limits sources o zero s e = e
run_flushed limits sources o (suc n) s e =
    of_both (λ (x : TurnState). x.work.report.lines ≡ []) (has_ended s) s (run limits sources o n (turn limits sources o s)) (λ _. e)
    (λ _. run_flushed limits sources o n (turn limits sources o s) refl)

end_flushed : (limits : Limits) (sources : Sources) (o : Choices) (n : ℕ) (s : TurnState) → has_ended s ≡ false
    → has_ended (run limits sources o n s) ≡ true → (run limits sources o n s).work.report.lines ≡ []
end_flushed limits sources o zero s going e = absurd (true≢false (sym e ∙ going))
end_flushed limits sources o (suc n) s going e = ap (λ (x : TurnState). x.work.report.lines) (run_going limits sources o n s going)
    ∙ run_flushed limits sources o n (turn limits sources o s) refl

-- the state with these lines still to be written, behind those that were
abbrev written_as : List ℕ → List ℕ → TurnState → TurnState
written_as lines told s = record s { work = record s.work { report = record s.work.report { lines = lines } }; told = told }

-- where all lines were written, they are those that are written at once
written_at_once : (s : TurnState) → s.work.report.lines ≡ [] → told_out (unwritten s) ≡ s
written_at_once s e = ap (λ (lines : List ℕ). written_as [] (s.told ++ lines) s) e
    ∙ (ap (λ (told : List ℕ). written_as [] told s) (append-nil s.told) ∙ ap (λ (lines : List ℕ). written_as lines s.told s) (sym e))

-- Lemmas about outcomes

-- Behind the messages the state of turns speaks as the one by the program does, but for the rest of a piece.
end_speaks : (c : Conditions) (quoted : ℕ) (x final : State) → c.most_tokens ≡ x.most_tokens → afresh x ≡ afresh final
    → Speaks 0 (told_out (with_conditions c quoted x)) final
end_speaks c quoted x final most same = record {
  nesting = ap (λ (y : State). y.nesting) same;
  work = ap (λ (y : State). record y.work { report = flushed y.work.report }) same;
  told = ap (λ (y : State). y.work.report.lines) same;
  most = most ∙ ap (λ (y : State). y.most_tokens) same;
  passed = refl;
}

compiled_by : (sources : Sources) (o : Choices) (serial name : List ℕ) (final end : State)
    → has_ended_by (start_by sources o name) ≡ false → EndsAs (limits_of o.settings) sources o final (start_by sources o name)
    → AreSupplied (limits_of o.settings) sources o end 0 final
    → IsCompiled sources o serial name (ending (limits_of o.settings) serial end)
compiled_by sources o serial name final end going r supplied =
    let limits : Limits = limits_of o.settings in
    let s : TurnState = start sources o name in
    let x : State = side_run limits sources o r.turns (start_by sources o name) in
    let y : TurnState = run limits sources o r.turns s in
    let a : Ran (turn_run limits sources o r.turns s) x = source_ran limits sources o name r.turns in
    let silent : unwritten y ≡ with_conditions a.conditions a.quoted x = (lines_are_written_at_any_time limits).all sources o r.turns s
    ∙ (ap (turn_run limits sources o r.turns) (unwritten_same s refl) ∙ a.same) in
    let ends : has_ended y ≡ true = ap has_ended silent ∙ r.ends in
    let written : told_out (unwritten y) ≡ y = written_at_once y (end_flushed limits sources o r.turns s going ends) in
    let v : TurnState = told_out (with_conditions a.conditions a.quoted x) in
    record {
      final = y;
      is_read = record { turns = r.turns; leads = refl; ends = ends };
      is_ending = sym (supplied_ending limits sources o serial end 0 final supplied v (end_speaks a.conditions a.quoted x final a.most r.same))
          ∙ (ap (λ (z : TurnState). ending_of limits o serial (told_out z)) (sym silent) ∙ ap (ending_of limits o serial) written);
    }

pub programs_have_their_outcome : ProgramsHaveTheirOutcome
programs_have_their_outcome sources o serial name source final end there going program supplied =
    let limits : Limits = limits_of o.settings in
    subst (λ (x : Option (List ℕ)). IsOutcomeOf x sources o serial name (ending limits serial end)) (sym there)
    (compiled_by sources o serial name final end going (turns_do_programs limits sources o final (start_by sources o name) program) supplied)
