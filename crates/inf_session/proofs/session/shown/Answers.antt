use Rattle.std.proofs.lemmas.Str.{IsUtf8-from_ascii}
use Rattle.inf_session.proofs.Shown.{names_are_ascii}
use Rattle.inf_session.proofs.session.shown.Goals as goal

pub returns-in-Err : goal.returns-in-Err
returns-in-Err c = λ can. absurd (c.in-Err.ensures.cases.0 (IsUtf8-from_ascii c.args.text.now (names_are_ascii c.args.text.now can)))
