use Rattle.std.proofs.Common.{◌≡◌, ◌∷◌, ◌∙◌, ap, sym, List, ℕ}
use Rattle.inf_letters.specs.Letters.{with_letters}
use Rattle.inf_letters.proofs.Heard.{with_letters-alone, with_letters-paired}
use Rattle.inf_letters.proofs.letters.Letters.and.Goals as goal

pub loop-first-preserved-in-Some-alone : goal.loop-first-preserved-in-Some-alone
loop-first-preserved-in-Some-alone c =
    let split : c.loop-first.rest.now ≡ c.in-Some.first.now ∷ c.in-Some.behind.now = c.in-Some.ensures.cases.0 in
    ap (with_letters c.in-Some.behind.now) c.with-spoken.ensures
    ∙ with_letters-alone c.in-Some.first.now c.in-Some.behind.now c.loop-first.spoken c.in-Some-alone.said (sym c.in-Some-alone.ensures)
    ∙ ap (λ (rest : List ℕ). with_letters rest c.loop-first.spoken) (sym split) ∙ c.loop-first.invariant

pub loop-first-preserved : goal.loop-first-preserved
loop-first-preserved c =
    let first = c.in-Some.first.now in
    let second = c.in_ok-second.second.now in let behind = c.in_ok-second.behind.now in
    let split : c.loop-first.rest.now ≡ first ∷ second ∷ behind =
    c.in-Some.ensures.cases.0 ∙ ap (λ (rest : List ℕ). first ∷ rest) c.in_ok-second.ensures.cases.0 in
    ap (with_letters behind) c.with-spoken-in-Some.ensures
    ∙ with_letters-paired first second behind c.loop-first.spoken c.in_ok-paired.field-0 (sym c.in_default-alone.ensures)
    (sym c.paired.ensures ∙ c.in_ok-paired.was) ∙ ap (λ (rest : List ℕ). with_letters rest c.loop-first.spoken) (sym split)
    ∙ c.loop-first.invariant
