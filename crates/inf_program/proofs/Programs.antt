-- Turns do what a program does; so all programs from a state on end in the same state.
use Rattle.std.proofs.Common.{◌≡◌, ◌⊎◌, inl, inr, ℕ, zero, suc, ◌+◌, Bool, true, false, refl, sym, ◌∙◌, ap, if◌then◌else◌}
use Rattle.inf_settings.specs.Bounds.{Limits}
use Rattle.inf_devices.specs.Files.{Sources}
use Rattle.inf_session.specs.Choices.{Choices}
use Rattle.inf_program.specs.{SideTurns.side_run, SideTurns.side_turn, definition.NextToken.afresh, definition.Program.Continues}
use Rattle.inf_program.specs.{definition.Program.IsOver, definition.States.State, definition.States.has_ended}
use Rattle.inf_program.specs.Programs.{EndsAs, ProgramsEndInOneWay, TurnsDoPrograms}
use Rattle.inf_program.proofs.{Nexts.Done, Nexts.next_done, Stepping.over_ends}

-- Lemmas about turns behind the end

silent_ended : (limits : Limits) (sources : Sources) (o : Choices) (n : ℕ) (s : State) → has_ended s ≡ true
    → side_run limits sources o n s ≡ s
silent_ended limits sources o zero s e = refl
silent_ended limits sources o (suc n) s e = ap (λ b. if b then s else side_run limits sources o n (side_turn limits sources o s)) e

silent_going : (limits : Limits) (sources : Sources) (o : Choices) (n : ℕ) (s : State) → has_ended s ≡ false
    → side_run limits sources o (suc n) s ≡ side_run limits sources o n (side_turn limits sources o s)
silent_going limits sources o n s e = ap (λ b. if b then s else side_run limits sources o n (side_turn limits sources o s)) e

-- two ends that turns reach from one state are the same
same_by : (limits : Limits) (sources : Sources) (o : Choices) (m n : ℕ) (s : State) (b : Bool) → has_ended s ≡ b
    → (has_ended (side_run limits sources o m (side_turn limits sources o s)) ≡ true
    → has_ended (side_run limits sources o n (side_turn limits sources o s)) ≡ true
    → side_run limits sources o m (side_turn limits sources o s) ≡ side_run limits sources o n (side_turn limits sources o s))
    → has_ended (side_run limits sources o (suc m) s) ≡ true → has_ended (side_run limits sources o (suc n) s) ≡ true
    → side_run limits sources o (suc m) s ≡ side_run limits sources o (suc n) s
same_by limits sources o m n s true is later e f =
    silent_ended limits sources o (suc m) s is ∙ sym (silent_ended limits sources o (suc n) s is)
same_by limits sources o m n s false is later e f =
    let left = silent_going limits sources o m s is in
    let right = silent_going limits sources o n s is in
    left ∙ (later (ap has_ended (sym left) ∙ e) (ap has_ended (sym right) ∙ f) ∙ sym right)

pub same_end : (limits : Limits) (sources : Sources) (o : Choices) (m n : ℕ) (s : State)
    → has_ended (side_run limits sources o m s) ≡ true → has_ended (side_run limits sources o n s) ≡ true
    → side_run limits sources o m s ≡ side_run limits sources o n s
same_end limits sources o zero n s e f = sym (silent_ended limits sources o n s e)
same_end limits sources o (suc m) zero s e f = silent_ended limits sources o (suc m) s f
same_end limits sources o (suc m) (suc n) s e f =
    same_by limits sources o m n s (has_ended s) refl (λ x y. same_end limits sources o m n (side_turn limits sources o s) x y) e f

-- Lemmas about programs

-- what comes next, and the rest of a program
continued : (limits : Limits) (sources : Sources) (o : Choices) (final s t now : State) (turns : ℕ)
    → ((more : ℕ) → side_run limits sources o (turns + more) s ≡ side_run limits sources o more now)
    → (now ≡ t) ⊎ ((now.work.report.counts.is_over ≡ true) × (afresh now ≡ t)) → EndsAs limits sources o final t
    → EndsAs limits sources o final s
continued limits sources o final s t now turns leads (inl is) r =
    let there : side_run limits sources o (turns + r.turns) s ≡ side_run limits sources o r.turns t =
    leads r.turns ∙ ap (side_run limits sources o r.turns) is in
    record { turns = turns + r.turns; ends = ap has_ended there ∙ r.ends; same = ap afresh there ∙ r.same }
continued limits sources o final s t now turns leads (inr broken) r =
    let there : side_run limits sources o (turns + zero) s ≡ now = leads zero in
    let over : has_ended t ≡ true = ap has_ended (sym broken.1) ∙ over_ends (afresh now) broken.0 in
    let stays : side_run limits sources o r.turns t ≡ t = silent_ended limits sources o r.turns t over in
    record {
      turns = turns + zero;
      ends = ap has_ended there ∙ over_ends now broken.0;
      same = ap afresh there ∙ (ap afresh broken.1 ∙ (ap afresh (sym stays) ∙ r.same));
    }

pub turns_do_programs : (limits : Limits) → TurnsDoPrograms limits
turns_do_programs limits sources o final s (IsOver over same) = record { turns = zero; ends = over; same = ap afresh same }
turns_do_programs limits sources o final s (Continues {t} going fresh next rest) =
    let d : Done limits sources o s t = next_done limits sources o s t fresh going next in
    continued limits sources o final s t d.now d.comes.turns d.comes.leads d.is (turns_do_programs limits sources o final t rest)

pub programs_end_in_one_way : (limits : Limits) → ProgramsEndInOneWay limits
programs_end_in_one_way limits sources o one two s p q =
    let a : EndsAs limits sources o one s = turns_do_programs limits sources o one s p in
    let b : EndsAs limits sources o two s = turns_do_programs limits sources o two s q in
    sym a.same ∙ (ap afresh (same_end limits sources o a.turns b.turns s a.ends b.ends) ∙ b.same)
