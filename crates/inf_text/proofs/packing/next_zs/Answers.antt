use Rattle.std.proofs.Common.{◌-◌, length, drop, sym, arith, option_copied}
use Rattle.std.proofs.lemmas.List.{take_all, length-drop}
use Rattle.inf_text.specs.Packing.{in_use}
use Rattle.inf_text.proofs.Stepping.{Steps-found}
use Rattle.inf_text.proofs.packing.next_zs.Goals as goal

pub returns-in-Some-clause-steps : goal.returns-in-Some-clause-steps
returns-in-Some-clause-steps c =
    let rest = c.in_ok-first.rest.now in let k = c.saturating_sub.result in
    Steps-found (in_use (option_copied c.args.abbreviations)) c.args.items.now c.in_ok-first.first.now rest c.in-Some.number c.in-Some.len k
    _ _ c.in_ok-first.ensures.cases.0 (sym c.in-Some.ensures.value) c.saturating_sub.ensures c.abbreviation_zs.ensures.value
    c.abbreviation_zs.ensures.small c.requires (take_all (length rest - k) (drop k rest) (omega (arith, length-drop k rest)))
