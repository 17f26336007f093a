use Rattle.inf_laws.proofs.Skipping.{directives_are_skipped, passed_tokens_do_nothing, routines_are_skipped, sources_end}
use Rattle.inf_laws.proofs.laws.bad_pieces_are_skipped.Goals as goal

pub returns : goal.returns
returns c =
    record { alone = passed_tokens_do_nothing; directives = directives_are_skipped; routines = routines_are_skipped; sources = sources_end }
