-- The ending that is found of a text is that of its next token.
use Rattle.std.proofs.Common.{◌≡◌, ℕ, List, [], ◌++◌, sym, ap, ◌∙◌, append-nil}
use Rattle.inf_characters.specs.declared.characters.CharSet.{CharSet}
use Rattle.inf_scanner.specs.{Kinds.kind_of, Tokens.next_token, Tokens.read_of, declared.lines.Lines.Lines, declared.scanner.Ending.Ending}
use Rattle.inf_scanner.specs.{declared.scanner.State.State, declared.scanner.Turn.Turn, declared.tokens.TokenKind.TokenKind}
use Rattle.inf_scanner.specs.Scanning.{Found, Sight, begun, find, found_after}
use Rattle.inf_text_lexer.specs.TextReaders.{read_with}

-- An ending behind the bytes of a text is the one found of the text.
pub found_is : (set : CharSet) (limit : ℕ) (seen : Sight) (text behind : List ℕ) (turn : Turn) (e : Ending) (now after : Sight)
    → ((rest : List ℕ) → found_after set limit turn now (behind ++ rest) ≡ find set limit State.Gap seen (text ++ rest))
    → record { ending = e; seen = after; rest = behind } ≡ found_after set limit turn now behind
    → record { ending = e; seen = after; rest = behind } ≡ find set limit State.Gap seen text
found_is set limit seen text behind turn e now after found ended =
    ended ∙ (ap (λ r. found_after set limit turn now r) (sym (append-nil behind)) ∙ (found []
    ∙ ap (λ r. find set limit State.Gap seen r) (append-nil text)))

-- The token of that ending is the next one of the text.
pub token_is : (set : CharSet) (limit : ℕ) (lines : Lines) (text behind : List ℕ) (e : Ending) (after : Sight) (k : TokenKind)
    → record { ending = e; seen = after; rest = behind } ≡ find set limit State.Gap (begun lines) text → k ≡ kind_of set e after.kept
    → read_with k after behind ≡ next_token set limit lines text
token_is set limit lines text behind e after k found is = ap (λ x. read_with x after behind) is ∙ ap (λ (f : Found). read_of set f) found
