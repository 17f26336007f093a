-- Worked rows, by evaluation
use Rattle.std.proofs.Common.{refl}
use Rattle.inf_verb_laws.specs.Rows.{LinesAreShown, WordsAreShown}

pub lines_are_shown : LinesAreShown
lines_are_shown = (refl, refl)

pub words_are_shown : WordsAreShown
words_are_shown = (refl, refl)
