-- One outcome.
use Rattle.std.proofs.Common.{◌≡◌, ℕ, List, Option, Some, None, sym, ap, ◌∙◌}
use Rattle.inf_settings.specs.Bounds.{limits_of}
use Rattle.inf_devices.specs.Files.{Sources}
use Rattle.inf_session.specs.{Choices.Choices, Session.State, Session.has_ended, Session.start}
use Rattle.inf_compile.specs.{Outcome.IsCompiled, Outcome.IsOutcomeOf, Outcome.ending_of, OutcomeLaws.OutcomesAreUnique}
use Rattle.inf_ending.specs.Ending.{Outcome}
use Rattle.inf_session.proofs.Leadings.{same_end}

same_final : (s : Sources) (o : Choices) (serial name : List ℕ) (e f : Outcome) → IsCompiled s o serial name e →
    IsCompiled s o serial name f → e ≡ f
same_final s o serial name e f a b =
    let final : a.final ≡ b.final = sym a.is_read.leads
    ∙ same_end (limits_of o.settings) s o a.is_read.turns b.is_read.turns (start s o name) (ap has_ended a.is_read.leads ∙ a.is_read.ends)
    (ap has_ended b.is_read.leads ∙ b.is_read.ends) ∙ b.is_read.leads in
    a.is_ending ∙ ap (λ (x : State). ending_of (limits_of o.settings) o serial x) final ∙ sym b.is_ending

same_outcome : (x : Option (List ℕ)) (s : Sources) (o : Choices) (serial name : List ℕ) (e f : Outcome) → IsOutcomeOf x s o serial name e →
    IsOutcomeOf x s o serial name f → e ≡ f
same_outcome None s o serial name e f a b = a ∙ sym b
same_outcome (Some source) s o serial name e f a b = same_final s o serial name e f a b

pub outcomes_are_unique : OutcomesAreUnique
outcomes_are_unique s o serial name e f a b = same_outcome (s name) s o serial name e f a b
