-- The state before the first token is bounded by the settings.
use Rattle.std.proofs.Common.{rules, ap, refl, ◌∙◌}
use Rattle.inf_lexer.specs.Names.{Nest}
use Rattle.inf_session.specs.{Choices.chosen, Session.begun_with}
use Rattle.inf_session.proofs.Bounds.{bounded_first}
use Rattle.inf_session.proofs.session.Session.new.Goals as goal

pub returns-clause-begins : goal.returns-clause-begins
returns-clause-begins g c = record {
  begun = c.in-Ok.ensures ∙ ap (λ (n : Nest). begun_with (chosen c.args.setup) n.names) c.names.ensures;
  going = refl;
  conditionals = search rules;
  quoted = refl;
  passed = refl;
}

pub returns-clause-bounded : goal.returns-clause-bounded
returns-clause-bounded g c = bounded_first c.args.setup c.in-Ok.progress c.names.result.now.names c.in-Ok.ensures
