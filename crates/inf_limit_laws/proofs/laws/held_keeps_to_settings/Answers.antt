-- Tokens, labels and references of the state for which a session stands are within their settings, and so are all its counts.
use Rattle.inf_session.specs.{Choices.chosen, Standing.state}
use Rattle.inf_limit_laws.proofs.Whole.{reached_within}
use Rattle.inf_limit_laws.proofs.laws.held_keeps_to_settings.Goals as goal

pub returns-clause-within : goal.returns-clause-within
returns-clause-within g c = λ sources name start now told reached set bounded free.
    let s = c.args.session.now in
    c.held.ensures.within set bounded free
    (reached_within sources (chosen s.setup) name (state sources start now s told) reached free)
