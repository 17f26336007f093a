-- The tokens of a source, call by call.
use Rattle.std.specs.Prelude.{◌≡◌, ℕ, List, [], ◌∷◌, length, map, zero, suc}
use Rattle.inf_characters.specs.declared.characters.CharSet.{CharSet}
use Rattle.inf_scanner.specs.{Lines.first_line, Tokens.Read, Tokens.next_token, declared.lines.Lines.Lines, declared.tokens.Token.Token}
use Rattle.inf_lexer.specs.Readers.{Reader, read_out}

-- An answer of a lexer: the token, the lexer behind it, and the bytes that were still to come then.
pub record Answer : Type 0 where
  pub token : Token
  pub reader : Reader
  pub to_come : List ℕ

abbrev pub told : Answer → Read
told a = read_out a.token a.reader a.to_come

-- answers one behind the other, each as a lexer promises it, whatever was given of the source between them
abbrev pub AreAnswers : CharSet → ℕ → Lines → List ℕ → List Answer → Type 0
AreAnswers set limit lines rest [] = Unit {0}
AreAnswers set limit lines rest (a ∷ answers) =
    (told a ≡ next_token set limit lines rest) × AreAnswers set limit a.reader.lines a.to_come answers

-- the first `n` tokens of some bytes
abbrev pub first_tokens : ℕ → CharSet → ℕ → Lines → List ℕ → List Read
first_tokens zero set limit lines rest = []
first_tokens (suc n) set limit lines rest =
    let r = next_token set limit lines rest in r ∷ first_tokens n set limit r.lines r.rest

-- The tokens of a source are the same, however few bytes each reading gives.
abbrev pub TokensAreTheSources : Type 0
TokensAreTheSources = (set : CharSet) (limit : ℕ) (source : List ℕ) (answers : List Answer)
    → AreAnswers set limit first_line source answers → map told answers ≡ first_tokens (length answers) set limit first_line source
