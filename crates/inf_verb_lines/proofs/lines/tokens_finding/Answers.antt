-- The finding about one token more is joined to the least of those before it.
use Rattle.std.proofs.Common.{◌∙◌, ap}
use native.Mathlib.Numerals.{unary_clauses}
use Rattle.inf_expressions.specs.Findings.{least_of_both}
use Rattle.inf_verb_lines.specs.Verbs.{tokens_finding}
use Rattle.inf_verb_lines.proofs.lines.tokens_finding.Goals as goal

pub loop-at-preserved : goal.loop-at-preserved
loop-at-preserved g c = simp unary_clauses (
    c.least_of_both-found.ensures ∙ ap (λ f. least_of_both f c.token_finding.result) c.loop-at.invariant
    ∙ ap (λ f. least_of_both (tokens_finding c.loop-at.at c.args.tokens.now c.args.names.now) f) c.token_finding.ensures)
