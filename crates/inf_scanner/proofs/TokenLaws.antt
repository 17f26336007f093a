-- The bytes that each token takes of a source, and those that are kept of it.
use Rattle.std.proofs.Common.{◌≡◌, inl, inr, ℕ, ◌≤◌, List, [], ◌∷◌, length, Bool, true, false, ◌==◌, Option, Some, None, Result, Ok, Err}
use Rattle.std.proofs.Common.{refl, sym, ap, ◌∙◌, arith, length-take, bytes_eq}
use Rattle.std.proofs.lemmas.Bool.{cond_both}
use Rattle.inf_characters.specs.{Reading.text_of, declared.characters.CharSet.CharSet, declared.reading.Mode.Mode}
use Rattle.inf_characters.specs.{declared.reading.TextFault.TextFault, declared.texts.TextItem.TextItem}
use Rattle.inf_scanner.specs.{Kept.Kept, SpellingLaws.Piece, SpellingLaws.Spans, SpellingLaws.most_of, Tokens.Read, Tokens.next_token}
use Rattle.inf_scanner.specs.declared.{kinds.Sign.Sign, scanner.Ending.Ending, tokens.BadToken.BadToken, tokens.TokenKind.TokenKind}
use Rattle.inf_scanner.specs.Kinds.{front, kind_of, last, number_kind, number_of, quote_kind, quoted_kind, read_by, signed_kind, text_kind}
use Rattle.inf_scanner.specs.TokenLaws.{NothingIsTheEnd, RunsAreShort, TokensTakeBytes, is_run}
use Rattle.inf_scanner.proofs.SpellingLaws.{next_spelled, shorter}

-- tells whether a kind is a token that began with a quote, or a mark
abbrev is_other : TokenKind → Bool
is_other TokenKind.End = false
is_other TokenKind.Name = false
is_other (TokenKind.Number n) = false
is_other (TokenKind.Bad BadToken.LongName) = false
is_other (TokenKind.Bad BadToken.Number) = false
is_other _ = true

abbrev Other : TokenKind → Type 0
Other k = is_other k ≡ true

read_other : (f : List TextItem → TokenKind) (r : Result (List TextItem) TextFault) → ((items : List TextItem) → Other (f items)) →
    Other (read_by f r)
read_other f (Ok items) all = all items
read_other f (Err TextFault.UnknownEscape) all = refl
read_other f (Err TextFault.NoZscii) all = refl
read_other f (Err TextFault.BadCode) all = refl
read_other f (Err TextFault.Memory) all = refl

quoted_other : (s : Sign) (items : List TextItem) → Other (quoted_kind s items)
quoted_other Sign.Plural items = refl
quoted_other Sign.Single items = refl
quoted_other Sign.None [] = refl
quoted_other Sign.None (TextItem.Character c ∷ []) = refl
quoted_other Sign.None (TextItem.Character c ∷ x ∷ items) = refl
quoted_other Sign.None (TextItem.Variable v ∷ items) = refl

signed_other : (set : CharSet) (s : Sign) (bytes : List ℕ) → Other (signed_kind set s bytes)
signed_other set s bytes = read_other (quoted_kind s) (text_of set Mode.Quote bytes) (quoted_other s)

quote_other : (set : CharSet) (bytes : List ℕ) → Other (quote_kind set bytes)
quote_other set bytes = cond_both (length bytes == 0) _ _ Other (λ _. refl)
    (λ _. cond_both (bytes_eq (last 3 bytes) (47 ∷ 47 ∷ 112 ∷ [])) _ _ Other (λ _. signed_other set Sign.Plural (front 3 bytes))
    (λ _. cond_both (bytes_eq (last 2 bytes) (47 ∷ 47 ∷ [])) _ _ Other (λ _. signed_other set Sign.Single (front 2 bytes))
    (λ _. signed_other set Sign.None bytes)))

number_no_end : (o : Option ℕ) → number_kind o ≡ TokenKind.End → ⊥
number_no_end (Some n) e = cc
number_no_end None e = cc

other_no_end : (k : TokenKind) → Other k → k ≡ TokenKind.End → ⊥
other_no_end k other e = let f : false ≡ true = sym (ap is_other e) ∙ other in cc

-- the only token whose kind is the end is the end
end_only : (set : CharSet) (e : Ending) (k : Kept) → kind_of set e k ≡ TokenKind.End → e ≡ Ending.End
end_only set Ending.End k is = refl
end_only set Ending.Unfit k is = cc
end_only set (Ending.Mark m) k is = cc
end_only set (Ending.Run false) k is =
    absurd (cond_both k.is_cut (TokenKind.Bad BadToken.LongName) TokenKind.Name (λ x. x ≡ TokenKind.End → ⊥) (λ _ e. cc) (λ _ e. cc) is)
end_only set (Ending.Run true) k is =
    absurd (cond_both k.is_cut (TokenKind.Bad BadToken.Number) (number_kind (number_of k.bytes)) (λ x. x ≡ TokenKind.End → ⊥) (λ _ e. cc)
    (λ _. number_no_end (number_of k.bytes)) is)
end_only set Ending.Unclosed k is =
    absurd (cond_both k.is_cut (TokenKind.Bad BadToken.TooLong) (TokenKind.Bad BadToken.Unclosed) (λ x. x ≡ TokenKind.End → ⊥) (λ _ e. cc)
    (λ _ e. cc) is)
end_only set Ending.Text k is =
    absurd (cond_both k.is_cut (TokenKind.Bad BadToken.TooLong) (text_kind set k.bytes) (λ x. x ≡ TokenKind.End → ⊥) (λ _ e. cc)
    (λ _. other_no_end (text_kind set k.bytes) (read_other (λ _. TokenKind.Text) (text_of set Mode.Text k.bytes) (λ _. refl))) is)
end_only set Ending.Quote k is =
    absurd (cond_both k.is_cut (TokenKind.Bad BadToken.TooLong) (quote_kind set k.bytes) (λ x. x ≡ TokenKind.End → ⊥) (λ _ e. cc)
    (λ _. other_no_end (quote_kind set k.bytes) (quote_other set k.bytes)) is)

other_no_run : (k : TokenKind) → Other k → is_run k ≡ false
other_no_run TokenKind.End other = cc
other_no_run TokenKind.Name other = cc
other_no_run (TokenKind.Number n) other = cc
other_no_run TokenKind.Text other = refl
other_no_run (TokenKind.Char c) other = refl
other_no_run (TokenKind.Word w) other = refl
other_no_run (TokenKind.Mark m) other = refl
other_no_run (TokenKind.Bad BadToken.LongName) other = cc
other_no_run (TokenKind.Bad BadToken.Number) other = cc
other_no_run (TokenKind.Bad BadToken.Unfit) other = refl
other_no_run (TokenKind.Bad BadToken.Unclosed) other = refl
other_no_run (TokenKind.Bad BadToken.EmptyQuote) other = refl
other_no_run (TokenKind.Bad BadToken.UnknownEscape) other = refl
other_no_run (TokenKind.Bad BadToken.NoZscii) other = refl
other_no_run (TokenKind.Bad BadToken.BadCode) other = refl
other_no_run (TokenKind.Bad BadToken.TooLong) other = refl

no_run : (limit : ℕ) (e : Ending) (k : TokenKind) → Other k → is_run k ≡ true → most_of limit e ≡ 32
no_run limit e k other is = let f : false ≡ true = sym (other_no_run k other) ∙ is in cc

-- a run began with no quote, and keeps at most 32 bytes
run_only : (set : CharSet) (limit : ℕ) (e : Ending) (k : Kept) → is_run (kind_of set e k) ≡ true → most_of limit e ≡ 32
run_only set limit Ending.End k is = refl
run_only set limit Ending.Unfit k is = refl
run_only set limit (Ending.Mark m) k is = refl
run_only set limit (Ending.Run n) k is = refl
run_only set limit Ending.Unclosed k is = no_run limit Ending.Unclosed (kind_of set Ending.Unclosed k)
    (cond_both k.is_cut (TokenKind.Bad BadToken.TooLong) (TokenKind.Bad BadToken.Unclosed) Other (λ _. refl) (λ _. refl)) is
run_only set limit Ending.Text k is = no_run limit Ending.Text (kind_of set Ending.Text k)
    (cond_both k.is_cut (TokenKind.Bad BadToken.TooLong) (text_kind set k.bytes) Other (λ _. refl)
    (λ _. read_other (λ _. TokenKind.Text) (text_of set Mode.Text k.bytes) (λ _. refl))) is
run_only set limit Ending.Quote k is = no_run limit Ending.Quote (kind_of set Ending.Quote k)
    (cond_both k.is_cut (TokenKind.Bad BadToken.TooLong) (quote_kind set k.bytes) Other (λ _. refl) (λ _. quote_other set k.bytes)) is

span_end : (set : CharSet) (e : Ending) (bytes span behind : List ℕ) → Spans set e bytes span behind → e ≡ Ending.End → behind ≡ []
span_end set Ending.End bytes span behind spans is = spans.2
span_end set Ending.Unfit bytes span behind spans is = cc
span_end set (Ending.Mark m) bytes span behind spans is = cc
span_end set (Ending.Run n) bytes span behind spans is = cc
span_end set Ending.Unclosed bytes span behind spans is = cc
span_end set Ending.Text bytes span behind spans is = cc
span_end set Ending.Quote bytes span behind spans is = cc

pub tokens_take_bytes : TokensTakeBytes
tokens_take_bytes set limit lines [] = record { one = inl refl; end = λ _. refl }
tokens_take_bytes set limit lines (b ∷ bytes) =
    let s = next_spelled set limit lines (b ∷ bytes) (omega arith) in let p : Piece = s.piece in
    let less : length p.read.rest ≤ length bytes = shorter p.gap p.span p.read.rest b bytes s.is.whole s.some in
    let same : length p.read.rest ≡ length (next_token set limit lines (b ∷ bytes)).rest = ap (λ (r : Read). length r.rest) s.is.is_read in
    record {
      one = inr (omega (arith, less, same));
      end = λ is. ap (λ (r : Read). r.rest) (sym s.is.is_read) ∙ span_end set s.is.ending s.is.bytes p.span p.read.rest s.is.span_fits
          (end_only set s.is.ending p.read.kept (sym s.is.is_told ∙ ap (λ (r : Read). r.kind) s.is.is_read ∙ is));
    }

pub nothing_is_the_end : NothingIsTheEnd
nothing_is_the_end set limit lines = refl

pub runs_are_short : RunsAreShort
runs_are_short set limit lines [] is = omega arith
runs_are_short set limit lines (b ∷ bytes) is =
    let s = next_spelled set limit lines (b ∷ bytes) (omega arith) in let p : Piece = s.piece in
    let most : most_of limit s.is.ending ≡ 32 =
    run_only set limit s.is.ending p.read.kept (ap is_run (sym s.is.is_told ∙ ap (λ (r : Read). r.kind) s.is.is_read) ∙ is) in
    let kept : length (next_token set limit lines (b ∷ bytes)).kept.bytes ≡ length p.read.kept.bytes =
    ap (λ (r : Read). length r.kept.bytes) (sym s.is.is_read) in
    let cut = ap (λ (k : Kept). length k.bytes) s.is.keeps in
    omega (arith, most, kept, cut, length-take (most_of limit s.is.ending) s.is.bytes)
