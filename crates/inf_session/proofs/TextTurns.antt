-- The turns of the tokens of a text in memory, one after another.
use Rattle.std.proofs.Common.{◌≡◌, ℕ, suc, zero, ◌-◌, ◌<◌, ◌≤◌, List, [], ◌∷◌, length, length-take, Bool, true, false, Option, Some}
use Rattle.std.proofs.Common.{None, cond, refl, sym, ap, subst, ◌∙◌, arith}
use Rattle.std.proofs.lemmas.Bool.{cond_both, le-leb}
use Rattle.inf_characters.specs.declared.characters.CharSet.{CharSet}
use Rattle.inf_settings.specs.Bounds.{Limits}
use Rattle.inf_scanner.specs.{Kept.Kept, Kinds.kind_of, Kinds.number_kind, Kinds.number_of, SpellingLaws.Piece, SpellingLaws.most_of}
use Rattle.inf_scanner.specs.{TokenLaws.is_run, Tokens.Read, Tokens.next_token, declared.lines.Lines.Lines, declared.scanner.Ending.Ending}
use Rattle.inf_scanner.specs.{declared.tokens.BadToken.BadToken, declared.tokens.Token.Token, declared.tokens.TokenKind.TokenKind}
use Rattle.inf_scanner.proofs.{SpellingLaws.next_spelled, TokenLaws.runs_are_short}
use Rattle.inf_sources.specs.{Inclusions.Nesting, Quoted.is_quoted_kind}
use Rattle.inf_text_lexer.specs.TextReaders.{TextReader, behind, next_of, token_of as text_token}
use Rattle.inf_unit.specs.{Atoms.is_short}
use Rattle.inf_compilation.specs.Context.{Context}
use Rattle.inf_reader.specs.Handing.{is_between}
use Rattle.inf_session.specs.{Choices.Choices, Taking.Taken, Taking.token_at, Taking.token_taken, Veneer.in_text, Veneer.text_cursor}
use Rattle.inf_session.specs.{Veneer.text_turns}
use Rattle.inf_session.specs.Session.{State, context_of, has_ended, is_resting, piece_closed, rested, stand_of, stepped}
use Rattle.inf_session.proofs.Taking.{step_is, token_is, with_taken}

-- Lemmas about the bytes that are kept of a token

pub short_by : (k : TokenKind) (bytes : List ℕ) → (is_run k ≡ true → length bytes ≤ 32) → is_short k bytes ≡ true
short_by TokenKind.Name bytes few = le-leb (length bytes) 32 (few refl)
short_by (TokenKind.Number n) bytes few = refl
short_by TokenKind.Text bytes few = refl
short_by (TokenKind.Char c) bytes few = refl
short_by (TokenKind.Word w) bytes few = refl
short_by (TokenKind.Mark m) bytes few = refl
short_by (TokenKind.Bad b) bytes few = refl
short_by TokenKind.End bytes few = refl

-- a name is short
pub text_short : (before after : TextReader) (token : Token) → token ≡ text_token before.file (next_of before)
    → after ≡ behind (next_of before) before → is_short token.kind after.kept.bytes ≡ true
text_short before after token is on =
    let read = next_of before in
    subst (λ (t : Token). is_short t.kind after.kept.bytes ≡ true) (sym is)
    (subst (λ (l : TextReader). is_short read.kind l.kept.bytes ≡ true) (sym on)
    (short_by read.kind read.kept.bytes (runs_are_short before.set before.limit before.lines before.rest)))

number_unquoted : (o : Option ℕ) → is_quoted_kind (number_kind o) ≡ false
number_unquoted (Some n) = refl
number_unquoted None = refl

unquoted : (limit : ℕ) (e : Ending) (k : TokenKind) → is_quoted_kind k ≡ false → is_quoted_kind k ≡ true → most_of limit e ≡ limit
unquoted limit e k none is = let f : false ≡ true = sym none ∙ is in cc

-- a quoted token is one that began with a quote
quoted_only : (set : CharSet) (limit : ℕ) (e : Ending) (k : Kept) → is_quoted_kind (kind_of set e k) ≡ true → most_of limit e ≡ limit
quoted_only set limit Ending.End k is = cc
quoted_only set limit Ending.Unfit k is = cc
quoted_only set limit (Ending.Mark m) k is = cc
quoted_only set limit (Ending.Run false) k is = unquoted limit (Ending.Run false) (kind_of set (Ending.Run false) k)
    (cond_both k.is_cut (TokenKind.Bad BadToken.LongName) TokenKind.Name (λ x. is_quoted_kind x ≡ false) (λ _. refl) (λ _. refl)) is
quoted_only set limit (Ending.Run true) k is = unquoted limit (Ending.Run true) (kind_of set (Ending.Run true) k)
    (cond_both k.is_cut (TokenKind.Bad BadToken.Number) (number_kind (number_of k.bytes)) (λ x. is_quoted_kind x ≡ false) (λ _. refl)
    (λ _. number_unquoted (number_of k.bytes))) is
quoted_only set limit Ending.Unclosed k is = refl
quoted_only set limit Ending.Text k is = refl
quoted_only set limit Ending.Quote k is = refl

next_few : (set : CharSet) (limit : ℕ) (lines : Lines) (bytes : List ℕ) → is_quoted_kind (next_token set limit lines bytes).kind ≡ true
    → length (next_token set limit lines bytes).kept.bytes ≤ limit
next_few set limit lines [] is = cc
next_few set limit lines (b ∷ bytes) is =
    let s = next_spelled set limit lines (b ∷ bytes) (omega arith) in let p : Piece = s.piece in
    let most : most_of limit s.is.ending ≡ limit =
    quoted_only set limit s.is.ending p.read.kept (ap is_quoted_kind (sym s.is.is_told ∙ ap (λ (r : Read). r.kind) s.is.is_read) ∙ is) in
    let kept : length (next_token set limit lines (b ∷ bytes)).kept.bytes ≡ length p.read.kept.bytes =
    ap (λ (r : Read). length r.kept.bytes) (sym s.is.is_read) in
    let cut = ap (λ (k : Kept). length k.bytes) s.is.keeps in
    omega (arith, most, kept, cut, length-take (most_of limit s.is.ending) s.is.bytes)

-- at most as many bytes are kept of a quoted token as it may have
pub text_few : (before after : TextReader) (token : Token) → token ≡ text_token before.file (next_of before)
    → after ≡ behind (next_of before) before → is_quoted_kind token.kind ≡ true → length after.kept.bytes ≤ before.limit
text_few before after token is on quoted = subst (λ (l : TextReader). length l.kept.bytes ≤ before.limit) (sym on)
    (next_few before.set before.limit before.lines before.rest (ap (λ (t : Token). is_quoted_kind t.kind) (sym is) ∙ quoted))

-- Lemmas about a turn

in_cond : (l : TextReader) (b : Bool) (s t : State) → in_text l (cond b s t) ≡ cond b (in_text l s) (in_text l t)
in_cond l true s t = refl
in_cond l false s t = refl

pub in_rested : (l : TextReader) (s : State) → in_text l (rested s) ≡ rested (in_text l s)
in_rested l s = in_cond l (has_ended s) s (cond (is_resting s) (piece_closed s) s)
    ∙ ap (λ (t : State). cond (has_ended s) (in_text l s) t) (in_cond l (is_resting s) (piece_closed s) s)

pub text_turned : (limits : Limits) (o : Choices) (s mid now : State) (before after : TextReader) (token : Token) (context : Context)
    (bytes : List ℕ) (x : Taken)
    → token ≡ text_token before.file (next_of before) → after ≡ behind (next_of before) before → bytes ≡ after.kept.bytes
    → context ≡ context_of o (in_text before s)
    → x ≡ token_taken limits context (token_at (is_between s.reading) token.kind bytes token.place s.work) s.conditions (stand_of s)
    s.quoted → mid ≡ with_taken s s.nesting x → now ≡ rested mid → in_text after now ≡ rested (stepped limits o (in_text before s))
text_turned limits o s mid now before after token context bytes x is on spelled same taken goes last =
    let t = token_at (is_between s.reading) token.kind bytes token.place s.work in
    let kept : bytes ≡ (next_of before).kept.bytes = spelled ∙ ap (λ (l : TextReader). l.kept.bytes) on in
    let of : t ≡ token_at (is_between s.reading) (next_of before).kind (next_of before).kept.bytes
    (record { file = before.file; line = (next_of before).line }) s.work =
    token_is (in_text before s) (is_between s.reading) token.kind bytes token.place refl (ap (λ (t : Token). t.kind) is)
    (ap (λ (t : Token). t.place) is) kept in
    let moved : Nesting = record s.nesting { cursor = text_cursor after } in
    let step : with_taken (in_text before s) moved x ≡ stepped limits o (in_text before s) =
    step_is limits o (in_text before s) moved x context t (ap (λ (l : TextReader). record s.nesting { cursor = text_cursor l }) on) same of
    taken in
    ap (in_text after) last ∙ in_rested after mid ∙ ap (λ (m : State). rested (in_text after m)) goes ∙ ap rested step

-- Lemmas about the turns of a text

pub text_next : (limits : Limits) (o : Choices) (n : ℕ) (s t : State) → 0 < n → has_ended s ≡ false → t ≡ rested (stepped limits o s)
    → text_turns limits o (n - 1) t ≡ text_turns limits o n s
text_next limits o zero s t some going is = absurd (omega (arith, some))
text_next limits o (suc n) s t some going is =
    let less : suc n - 1 ≡ n = omega arith in
    ap (λ m. text_turns limits o m t) less ∙ ap (text_turns limits o n) is
    ∙ sym (ap (λ b. cond b s (text_turns limits o n (rested (stepped limits o s)))) going)

pub text_ended : (limits : Limits) (o : Choices) (n : ℕ) (s : State) → has_ended s ≡ true → text_turns limits o n s ≡ s
text_ended limits o zero s e = refl
text_ended limits o (suc n) s e = ap (λ b. cond b s (text_turns limits o n (rested (stepped limits o s)))) e
