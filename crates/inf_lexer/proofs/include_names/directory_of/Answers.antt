use Rattle.std.proofs.Common.{◌++◌, ◌∷◌, [], sym, ap, ◌∙◌}
use Rattle.inf_lexer.proofs.FileNames.{directory-split, directory-undivided}
use Rattle.inf_lexer.proofs.include_names.directory_of.Goals as goal

pub returns-in_default : goal.returns-in_default
returns-in_default c = c.new.ensures.bytes ∙ sym (directory-undivided c.args.name.now c.in_default.ensures.cases)

pub returns : goal.returns
returns c = c.in_ok-push_str.ensures.bytes ∙ ap (λ bs. bs ++ 47 ∷ []) c.in_ok-directory.ensures.ok
    ∙ sym (directory-split c.args.name.now c.in-Some.front.now c.in-Some.field-0-1.now c.in-Some.ensures.cases)
