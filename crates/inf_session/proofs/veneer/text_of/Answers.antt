use Rattle.std.proofs.Common.{◌≤◌, ℕ, List, [], length, unwrap_or, sym, ap, subst}
use Rattle.inf_session.proofs.Supplying.{text_few}
use Rattle.inf_session.proofs.veneer.text_of.Goals as goal

pub returns-in-Some-clause-text : goal.returns-in-Some-clause-text
returns-in-Some-clause-text c = ap (λ o. unwrap_or o []) c.in-Some.ensures

pub returns-in-None-clause-text : goal.returns-in-None-clause-text
returns-in-None-clause-text c = ap (λ o. unwrap_or o []) c.in-None.ensures

pub returns-in-Some-clause-few : goal.returns-in-Some-clause-few
returns-in-Some-clause-few c =
    subst (λ (bytes : List ℕ). length bytes ≤ 1000) (sym (ap (λ o. unwrap_or o []) c.in-Some.ensures)) (text_few c.args.number)
