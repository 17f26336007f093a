-- The names of a source one by one.
use Rattle.std.proofs.Common.{◌≡◌, ◌<◌, ◌+◌, ℕ, suc, zero, List, [], ◌∷◌, drop, length, refl, sym, ap, ◌∙◌, arith, Option, Some, None}
use Rattle.inf_scanner.specs.declared.tokens.Place.{Place}
use Rattle.inf_names.specs.Symbols.{Named, Standing, IsDeclared, IsUsed, standing_at, use_in}
use Rattle.inf_report.specs.Messages.{Undeclared}
use Rattle.inf_unit.specs.Messages.{FileNames, Reported, location, with_error}
use Rattle.inf_unit.specs.Names.{with_all_undeclared, with_undeclared}

-- Report with the error of the first use of a name, if the name was not declared.
abbrev pub told_of : FileNames → Option (List ℕ × Place) → Reported → Reported
told_of files None r = r
told_of files (Some u) r = with_error (location files u.1) (location files u.1) (Undeclared u.0) r

told_one : (files : FileNames) (s : Standing Place) (r : Reported) → with_undeclared files s r ≡ told_of files (use_in (Some s)) r
told_one files (IsDeclared number meaning place) r = refl
told_one files (IsUsed spelling place) r = refl

told_next : (files : FileNames) (names : List (Named Place)) (number : ℕ) (r : Reported) → number < length names
    → with_all_undeclared files (drop number names) r ≡ with_all_undeclared files (drop (suc number) names)
    (told_of files (use_in (standing_at number names)) r)
told_next files [] number r lt = absurd (omega arith)
told_next files (n ∷ names) zero r lt = ap (with_all_undeclared files names) (told_one files n.standing r)
told_next files (n ∷ names) (suc number) r lt = told_next files names number r (omega arith)

pub told_step : (files : FileNames) (names : List (Named Place)) (number : ℕ) (r : Reported) → number < length names
    → with_all_undeclared files (drop number names) r ≡ with_all_undeclared files (drop (number + 1) names)
    (told_of files (use_in (standing_at number names)) r)
told_step files names number r lt =
    let next : number + 1 ≡ suc number = omega arith in
    told_next files names number r lt
    ∙ ap (λ n. with_all_undeclared files (drop n names) (told_of files (use_in (standing_at number names)) r)) (sym next)
