use Rattle.std.proofs.Common.{◌≡◌, [], unwrap_or, subst, ◌∙◌, slice_get}
use Rattle.inf_sources.specs.Open.{Open}
use Rattle.inf_sources.proofs.Answering.{same_name}
use Rattle.inf_sources.proofs.open_files.OpenFiles.innermost.Goals as goal

pub returns-clause-file : goal.returns-clause-file
returns-clause-file c =
    let inside : Open = record { nest = c.self.inside.names; lexer = c.self.inside.lexer; outer = c.self.inside.outer.items } in
    subst (λ (o : Open). c.innermost.result.now ≡ unwrap_or (slice_get o.nest.names o.lexer.file) []) c.self.view_is
    (c.innermost.ensures ∙ same_name inside c.self.invariant.0)
