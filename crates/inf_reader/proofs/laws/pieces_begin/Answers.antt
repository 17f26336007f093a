use Rattle.inf_reader.proofs.PieceLaws.{pieces_begin, fronts_begin, faulty_tokens_fit_nothing}
use Rattle.inf_reader.proofs.laws.pieces_begin.Goals as goal

pub returns : goal.returns
returns c = record { pieces_begin = pieces_begin; fronts_begin = fronts_begin; faulty_tokens_fit_nothing = faulty_tokens_fit_nothing }
