-- The texts of pieces end with a token: by evaluation.
use Rattle.std.proofs.Common.{◌≡◌, true, Some, refl}
use Rattle.inf_machine.specs.{Pieces.closes, declared.symbols.Symbol.Symbol}
use Rattle.inf_machine.proofs.SourcePieces.{sources_are_pieces}
use Rattle.inf_grammar.specs.{Evaluated.language_is_decided, Language.grammar, Language.known}
use Rattle.inf_grammar.specs.Sources.{piece_rule, skipped_behind, SourcesHavePieces}

pieces_close : closes grammar (Some (Symbol.Rule piece_rule)) 3 ≡ true
unfolding grammar
pieces_close = refl

pub sources_have_pieces : SourcesHavePieces
sources_have_pieces atoms = sources_are_pieces grammar known piece_rule 3 skipped_behind atoms language_is_decided pieces_close
