-- The tokens of a source, call by call.
use Rattle.std.proofs.Common.{◌≡◌, ℕ, List, [], ◌∷◌, length, map, refl, ap, ◌∙◌}
use Rattle.inf_characters.specs.declared.characters.CharSet.{CharSet}
use Rattle.inf_scanner.specs.{Lines.first_line, Tokens.Read, declared.lines.Lines.Lines}
use Rattle.inf_lexer.specs.AnswerLaws.{Answer, AreAnswers, TokensAreTheSources, first_tokens, told}

answered : (set : CharSet) (limit : ℕ) (lines : Lines) (rest : List ℕ) (answers : List Answer) → AreAnswers set limit lines rest answers →
    map told answers ≡ first_tokens (length answers) set limit lines rest
answered set limit lines rest [] are = refl
answered set limit lines rest (a ∷ answers) are = ap (λ rs. told a ∷ rs) (answered set limit a.reader.lines a.to_come answers are.1)
    ∙ ap (λ (r : Read). r ∷ first_tokens (length answers) set limit r.lines r.rest) are.0

pub tokens_are_the_sources : TokensAreTheSources
tokens_are_the_sources set limit source answers are = answered set limit first_line source answers are
