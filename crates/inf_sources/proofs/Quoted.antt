-- A quoted token keeps at most as many bytes as it may have.
use Rattle.std.proofs.Common.{◌≡◌, ℕ, List, [], ◌∷◌, ◌++◌, length, Bool, true, false, Option, Some, None, refl, sym, ap, ◌∙◌, arith}
use Rattle.std.proofs.Common.{length-take}
use Rattle.std.proofs.lemmas.Bool.{cond_both}
use Rattle.inf_characters.specs.declared.characters.CharSet.{CharSet}
use Rattle.inf_devices.specs.declared.files.Files.{Ghosts as Files}
use Rattle.inf_lexer.specs.{Readers.Reader, Readers.read_out, Reading.Heard, Unread.View}
use Rattle.inf_scanner.specs.{Kept.Kept, Kinds.kind_of, Kinds.number_kind, Kinds.number_of, SpellingLaws.Piece, SpellingLaws.most_of}
use Rattle.inf_scanner.specs.{Tokens.Read, Tokens.next_token, declared.lines.Lines.Lines, declared.scanner.Ending.Ending}
use Rattle.inf_scanner.specs.{declared.tokens.BadToken.BadToken, declared.tokens.Token.Token, declared.tokens.TokenKind.TokenKind}
use Rattle.inf_scanner.proofs.SpellingLaws.{next_spelled}
use Rattle.inf_sources.specs.Quoted.{KeepsFew, is_quoted_kind}

number_unquoted : (o : Option ℕ) → is_quoted_kind (number_kind o) ≡ false
number_unquoted (Some n) = refl
number_unquoted None = refl

unquoted : (limit : ℕ) (e : Ending) (k : TokenKind) → is_quoted_kind k ≡ false → is_quoted_kind k ≡ true → most_of limit e ≡ limit
unquoted limit e k none is = let f : false ≡ true = sym none ∙ is in cc

-- a quoted token is one that began with a quote
quoted_only : (set : CharSet) (limit : ℕ) (e : Ending) (k : Kept) → is_quoted_kind (kind_of set e k) ≡ true → most_of limit e ≡ limit
quoted_only set limit Ending.End k is = cc
quoted_only set limit Ending.Unfit k is = cc
quoted_only set limit (Ending.Mark m) k is = cc
quoted_only set limit (Ending.Run false) k is = unquoted limit (Ending.Run false) (kind_of set (Ending.Run false) k)
    (cond_both k.is_cut (TokenKind.Bad BadToken.LongName) TokenKind.Name (λ x. is_quoted_kind x ≡ false) (λ _. refl) (λ _. refl)) is
quoted_only set limit (Ending.Run true) k is = unquoted limit (Ending.Run true) (kind_of set (Ending.Run true) k)
    (cond_both k.is_cut (TokenKind.Bad BadToken.Number) (number_kind (number_of k.bytes)) (λ x. is_quoted_kind x ≡ false) (λ _. refl)
    (λ _. number_unquoted (number_of k.bytes))) is
quoted_only set limit Ending.Unclosed k is = refl
quoted_only set limit Ending.Text k is = refl
quoted_only set limit Ending.Quote k is = refl

next_few : (set : CharSet) (limit : ℕ) (lines : Lines) (bytes : List ℕ) →
    KeepsFew limit (next_token set limit lines bytes).kind (next_token set limit lines bytes).kept
next_few set limit lines [] is = cc
next_few set limit lines (b ∷ bytes) is =
    let s = next_spelled set limit lines (b ∷ bytes) (omega arith) in let p : Piece = s.piece in
    let most : most_of limit s.is.ending ≡ limit =
    quoted_only set limit s.is.ending p.read.kept (ap is_quoted_kind (sym s.is.is_told ∙ ap (λ (r : Read). r.kind) s.is.is_read) ∙ is) in
    let kept : length (next_token set limit lines (b ∷ bytes)).kept.bytes ≡ length p.read.kept.bytes =
    ap (λ (r : Read). length r.kept.bytes) (sym s.is.is_read) in
    let cut = ap (λ (k : Kept). length k.bytes) s.is.keeps in
    omega (arith, most, kept, cut, length-take (most_of limit s.is.ending) s.is.bytes)

-- a lexer keeps few bytes of a quoted token, with any reader
pub heard_few : {S : Type 0} {f : Files S} {failed : Bool} {a b : S} {before after : View} (set : CharSet) (limit : ℕ) (lines : Lines)
    (token : Token) (lexer : Reader) {most : ℕ}
    → limit ≡ most → Heard Read f failed a b before after (read_out token lexer) (next_token set limit lines)
    → KeepsFew most token.kind lexer.kept
heard_few {before = before} {after = after} set limit lines token lexer same heard is =
    let bytes : List ℕ = before.left ++ (heard.went.bytes ++ []) in
    let read : read_out token lexer (after.left ++ []) ≡ next_token set limit lines bytes = heard.same [] (λ _. refl) in
    let kept = ap (λ (r : Read). length r.kept.bytes) read in
    omega (arith, kept, same, next_few set limit lines bytes (ap is_quoted_kind (sym (ap (λ (r : Read). r.kind) read)) ∙ is))
