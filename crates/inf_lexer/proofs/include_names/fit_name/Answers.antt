use Rattle.std.proofs.{lemmas.Bool.and_from, lemmas.Bool.cond-true, lemmas.Str.IsUtf8-from_ascii}
use Rattle.std.proofs.Common.{◌≡◌, ◌==◌, length, nat_lt, true, false, not, Some, None, sym, ap, ◌∙◌}
use Rattle.std.specs.List.{list_all}
use Rattle.inf_lexer.specs.Names.{is_fit}
use Rattle.inf_lexer.proofs.FileNames.{all_ascii}
use Rattle.inf_lexer.proofs.include_names.fit_name.Goals as goal

pub returns-in-Ok : goal.returns-in-Ok
returns-in-Ok c =
    let name = c.args.name.now in
    let some : length name == 0 ≡ false = sym c.if-is_empty.ensures in
    let fit : is_fit name ≡ true =
    and_from (not (length name == 0)) (list_all (λ b. nat_lt b 128) name) (ap not some) (all_ascii name c.if-not-is_ascii.ensures.cases) in
    ap Some c.in-Ok.ensures.cases.0 ∙ sym (cond-true (is_fit name) (Some name) None fit)

pub returns-in-Err : goal.returns-in-Err
returns-in-Err c = absurd (c.in-Err.ensures.cases.0 (IsUtf8-from_ascii c.args.name.now c.if-not-is_ascii.ensures.cases))
