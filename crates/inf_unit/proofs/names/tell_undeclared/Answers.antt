-- One name more is told, or none.
use Rattle.std.proofs.Common.{Option, ◌≡◌, ◌<◌, ◌+◌, ℕ, List, drop, length, sym, ap, ◌∙◌, arith}
use Rattle.inf_scanner.specs.declared.tokens.Place.{Place}
use Rattle.inf_names.specs.Symbols.{standing_at, use_in}
use Rattle.inf_report.specs.Messages.{Location, Undeclared}
use Rattle.inf_unit.specs.{Messages.with_error, Names.with_all_undeclared}
use Rattle.inf_unit.proofs.NameSteps.{told_of, told_step}
use Rattle.inf_unit.proofs.names.tell_undeclared.Goals.{in-Some+in_ok-error, in_default}
use Rattle.inf_unit.proofs.names.tell_undeclared.Goals as goal

pub loop-number-preserved : goal.loop-number-preserved
loop-number-preserved g c =
    let files = c.args.files.now.names in let names = c.args.names.now.names in let number = c.loop-number.number in
    let before = c.loop-number.messages in
    let within : number < length names = omega (arith, c.loop-number-test.true, c.len-number-end.ensures.count) in
    let told : c.match-use_at.messages ≡ told_of files (use_in (standing_at number names)) before = elim c.match-use_at.branch [
      | in-Some+in_ok-error w ↦
          w.messages-is ∙ w.in_ok-error.ensures
          ∙ ap (λ (at : Location). with_error at at (Undeclared w.in-Some.spelling.now) before) w.location-at.ensures
          ∙ ap (λ (u : Option (List ℕ × Place)). told_of files u before) w.in-Some.ensures
      | in_default w ↦ w.messages-is ∙ ap (λ (u : Option (List ℕ × Place)). told_of files u before) w.in_default.ensures
    ] in
    ap (with_all_undeclared files (drop (number + 1) names)) told ∙ sym (told_step files names number before within)
    ∙ c.loop-number.invariant
