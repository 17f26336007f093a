use Rattle.std.proofs.Common.{◌≡◌, ◌-◌, ◌≤◌}
use Rattle.inf_session.specs.Veneer.{first_wanted, most_texts}
use Rattle.inf_session.proofs.session.Session.next_wanted.Given as goal

-- the first routine that is wanted is among those that are still to be looked at
abbrev pub invariant-loop-number : goal.invariant-loop-number
invariant-loop-number g l =
    let names = l.self.progress.work.output.names in
    (first_wanted (most_texts - l.number) l.number names ≡ first_wanted (most_texts - l.self.passed) l.self.passed names)
    × (l.self.passed ≤ l.number)

abbrev pub decreases-loop-number : goal.decreases-loop-number
decreases-loop-number g l = most_texts - l.number
