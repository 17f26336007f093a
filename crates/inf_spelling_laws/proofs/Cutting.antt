-- The token at the front of some bytes, behind a gap, is found from its first byte on.
use Rattle.std.proofs.Common.{◌≡◌, ℕ, ◌==◌, ◌&&◌, ◌||◌, List, [], ◌∷◌, ◌++◌, append_assoc, Bool, true, false, not, cond, Option, Some, None}
use Rattle.std.proofs.Common.{refl, sym, ap, ◌∙◌, is_none}
use Rattle.std.proofs.lemmas.Bool.{and_parts, or_parts}
use Rattle.std.specs.List.{list_all}
use Rattle.inf_scanner.specs.{Marks.first_mark, Marks.longer_mark, Marks.mark_bytes, declared.tokens.Mark.Mark}
use Rattle.inf_spelling_laws.specs.Source.{End, IsToken, OpenQuote, OpenText, Quote, Sign, Stray, Text, Token, Word, begins_nothing, ends_line}
use Rattle.inf_spelling_laws.specs.Source.{ends_with_at, in_word, is_empty, is_longest, is_quoted, mark_of, starts}
use Rattle.inf_spelling_laws.proofs.Marks.{longer_is, mark_spelled}

-- bytes that were taken, those that are left, and whether a quote came behind them
pub record Cut : Type 0 where
  pub closed : Bool
  pub taken : List ℕ
  pub left : List ℕ

abbrev pub cut : Bool → List ℕ → List ℕ → Cut
cut closed taken left = record { closed = closed; taken = taken; left = left }

abbrev pub more : ℕ → Cut → Cut
more b c = record { closed = c.closed; taken = b ∷ c.taken; left = c.left }

not_true : (t : Bool) → not t ≡ true → t ≡ false
not_true true e = sym e
not_true false e = refl

-- Lemmas about a word

abbrev pub word_cut : List ℕ → Cut
word_cut [] = cut true [] []
word_cut (b ∷ bytes) = cond (in_word b) (more b (word_cut bytes)) (cut true [] (b ∷ bytes))

pub word_is : (bytes behind : List ℕ) → list_all in_word bytes ≡ true → starts in_word behind ≡ false
    → word_cut (bytes ++ behind) ≡ cut true bytes behind
word_is [] [] all stops = refl
word_is [] (c ∷ behind) all stops = ap (λ t. cond t (more c (word_cut behind)) (cut true [] (c ∷ behind))) stops
word_is (b ∷ bytes) behind all stops =
    let parts = and_parts (in_word b) (list_all in_word bytes) all in
    ap (λ t. cond t (more b (word_cut (bytes ++ behind))) (cut true [] (b ∷ (bytes ++ behind)))) parts.0
    ∙ ap (more b) (word_is bytes behind parts.1 stops)

-- Lemmas about a text

abbrev text_cut : List ℕ → Cut
text_cut [] = cut false [] []
text_cut (b ∷ bytes) = cond (b == 34) (cut true [] bytes) (more b (text_cut bytes))

text_more : (b : ℕ) (bytes : List ℕ) → not (b == 34) ≡ true → text_cut (b ∷ bytes) ≡ more b (text_cut bytes)
text_more b bytes e = ap (λ t. cond t (cut true [] bytes) (more b (text_cut bytes))) (not_true (b == 34) e)

text_closed : (bytes behind : List ℕ) → list_all (λ b. not (b == 34)) bytes ≡ true → text_cut (bytes ++ 34 ∷ behind) ≡ cut true bytes behind
text_closed [] behind all = refl
text_closed (b ∷ bytes) behind all =
    let parts = and_parts (not (b == 34)) (list_all (λ b. not (b == 34)) bytes) all in
    text_more b (bytes ++ 34 ∷ behind) parts.0 ∙ ap (more b) (text_closed bytes behind parts.1)

text_open : (bytes behind : List ℕ) → list_all (λ b. not (b == 34)) bytes ≡ true → behind ≡ []
    → text_cut (bytes ++ behind) ≡ cut false bytes behind
text_open [] [] all none = refl
text_open [] (c ∷ behind) all none = absurd (cc none)
text_open (b ∷ bytes) behind all none =
    let parts = and_parts (not (b == 34)) (list_all (λ b. not (b == 34)) bytes) all in
    text_more b (bytes ++ behind) parts.0 ∙ ap (more b) (text_open bytes behind parts.1 none)

-- Lemmas about a quote

abbrev quote_cut : Bool → List ℕ → Cut
quote_cut after_at [] = cut false [] []
quote_cut after_at (b ∷ bytes) =
    cond (ends_line b) (cut false [] (b ∷ bytes)) (cond (b == 39 && not after_at) (cut true [] bytes) (more b (quote_cut (b == 64) bytes)))

quote_more : (after_at : Bool) (b : ℕ) (bytes : List ℕ) → (not (ends_line b) && not (b == 39 && not after_at)) ≡ true
    → quote_cut after_at (b ∷ bytes) ≡ more b (quote_cut (b == 64) bytes)
quote_more after_at b bytes e =
    let parts = and_parts (not (ends_line b)) (not (b == 39 && not after_at)) e in
    let go : Cut = more b (quote_cut (b == 64) bytes) in
    ap (λ t. cond t (cut false [] (b ∷ bytes)) (cond (b == 39 && not after_at) (cut true [] bytes) go)) (not_true (ends_line b) parts.0)
    ∙ ap (λ t. cond t (cut true [] bytes) go) (not_true (b == 39 && not after_at) parts.1)

quote_closed : (after_at : Bool) (bytes behind : List ℕ) → is_quoted after_at bytes ≡ true → ends_with_at after_at bytes ≡ false
    → quote_cut after_at (bytes ++ 39 ∷ behind) ≡ cut true bytes behind
quote_closed after_at [] behind all last = ap (λ t. cond (not t) (cut true [] behind) (more 39 (quote_cut false behind))) last
quote_closed after_at (b ∷ bytes) behind all last =
    let parts = and_parts (not (ends_line b) && not (b == 39 && not after_at)) (is_quoted (b == 64) bytes) all in
    quote_more after_at b (bytes ++ 39 ∷ behind) parts.0 ∙ ap (more b) (quote_closed (b == 64) bytes behind parts.1 last)

quote_open : (after_at : Bool) (bytes behind : List ℕ) → is_quoted after_at bytes ≡ true
    → (is_empty behind || starts ends_line behind) ≡ true → quote_cut after_at (bytes ++ behind) ≡ cut false bytes behind
quote_open after_at [] [] all ends = refl
quote_open after_at [] (c ∷ behind) all ends =
    ap (λ t. cond t (cut false [] (c ∷ behind)) (cond (c == 39 && not after_at) (cut true [] behind) (more c (quote_cut (c == 64) behind)))) ends
quote_open after_at (b ∷ bytes) behind all ends =
    let parts = and_parts (not (ends_line b) && not (b == 39 && not after_at)) (is_quoted (b == 64) bytes) all in
    quote_more after_at b (bytes ++ behind) parts.0 ∙ ap (more b) (quote_open (b == 64) bytes behind parts.1 ends)

-- Lemmas about a token, and the bytes that are left behind it

pub record Found : Type 0 where
  pub token : Token
  pub left : List ℕ

abbrev found : Token → List ℕ → Found
found token left = record { token = token; left = left }

abbrev mark_cut : Mark → List ℕ → Found
mark_cut m [] = found (Sign m) []
mark_cut m (b ∷ bytes) = elim (longer_mark m b) [ None ↦ found (Sign m) (b ∷ bytes) | Some longer ↦ mark_cut longer bytes ]

abbrev first_cut : ℕ → List ℕ → Option Mark → Found
first_cut b bytes None = found (Stray b) bytes
first_cut b bytes (Some m) = mark_cut m bytes

abbrev word_found : Cut → Found
word_found c = found (Word c.taken) c.left

abbrev text_found : Cut → Found
text_found c = found (cond c.closed (Text c.taken) (OpenText c.taken)) c.left

abbrev quote_found : Cut → Found
quote_found c = found (cond c.closed (Quote c.taken) (OpenQuote c.taken)) c.left

abbrev pub token_cut : List ℕ → Found
token_cut [] = found End []
token_cut (b ∷ bytes) = cond (in_word b) (word_found (word_cut (b ∷ bytes)))
    (cond (b == 34) (text_found (text_cut bytes)) (cond (b == 39) (quote_found (quote_cut false bytes)) (first_cut b bytes (first_mark b))))

word_token : (bytes behind : List ℕ) → is_empty bytes ≡ false → list_all in_word bytes ≡ true → starts in_word behind ≡ false
    → token_cut (bytes ++ behind) ≡ found (Word bytes) behind
word_token [] behind some all stops = absurd (cc some)
word_token (b ∷ bytes) behind some all stops =
    let parts = and_parts (in_word b) (list_all in_word bytes) all in
    let rest : Found = cond (b == 34) (text_found (text_cut (bytes ++ behind)))
    (cond (b == 39) (quote_found (quote_cut false (bytes ++ behind))) (first_cut b (bytes ++ behind) (first_mark b))) in
    ap (λ t. cond t (word_found (word_cut (b ∷ (bytes ++ behind)))) rest) parts.0 ∙ ap word_found (word_is (b ∷ bytes) behind all stops)

mark_token : (m : Mark) (behind : List ℕ) → token_cut (mark_bytes m ++ behind) ≡ mark_cut m behind
mark_token Mark.Arrow behind = refl
mark_token other behind = refl

mark_stops : (m : Mark) (b : ℕ) (behind : List ℕ) (o : Option Mark) → is_none o ≡ true
    → elim o [ None ↦ found (Sign m) (b ∷ behind) | Some longer ↦ mark_cut longer behind ] ≡ found (Sign m) (b ∷ behind)
mark_stops m b behind None e = refl
mark_stops m b behind (Some longer) e = absurd (cc e)

mark_ends : (m : Mark) (behind : List ℕ) → is_longest (mark_bytes m) behind ≡ true → mark_cut m behind ≡ found (Sign m) behind
mark_ends m [] e = refl
mark_ends m (b ∷ behind) e = mark_stops m b behind (longer_mark m b) (ap is_none (sym (longer_is m b)) ∙ e)

stray_first : (b : ℕ) (bytes : List ℕ) (o : Option Mark) → is_none o ≡ true → first_cut b bytes o ≡ found (Stray b) bytes
stray_first b bytes None e = refl
stray_first b bytes (Some m) e = absurd (cc e)

stray_token : (b : ℕ) (behind : List ℕ) → begins_nothing b ≡ true → token_cut (b ∷ behind) ≡ found (Stray b) behind
stray_token b behind e =
    let parts = and_parts (not (in_word b || b == 34 || b == 39)) (is_none (mark_of (b ∷ []))) e in
    let tests = or_parts (in_word b || b == 34) (b == 39) (not_true (in_word b || b == 34 || b == 39) parts.0) in
    let front = or_parts (in_word b) (b == 34) tests.0 in
    let mark : Found = first_cut b behind (first_mark b) in
    let quote : Found = cond (b == 39) (quote_found (quote_cut false behind)) mark in
    let text : Found = cond (b == 34) (text_found (text_cut behind)) quote in
    ap (λ t. cond t (word_found (word_cut (b ∷ behind))) text) front.0
    ∙ ap (λ t. cond t (text_found (text_cut behind)) quote) front.1
    ∙ ap (λ t. cond t (quote_found (quote_cut false behind)) mark) tests.1
    ∙ stray_first b behind (first_mark b) parts.1

pub token_is : (t : Token) (span behind : List ℕ) → IsToken t span behind → token_cut (span ++ behind) ≡ found t behind
token_is (Word bytes) span behind is = ap (λ s. token_cut (s ++ behind)) is.0 ∙ word_token bytes behind is.1 is.2 is.3
token_is (Sign m) span behind is =
    let same = mark_spelled span m is.0 in
    ap (λ s. token_cut (s ++ behind)) same ∙ mark_token m behind
    ∙ mark_ends m behind (ap (λ s. is_longest s behind) (sym same) ∙ is.1)
token_is (Text bytes) span behind is = ap (λ s. token_cut (s ++ behind)) is.0
    ∙ ap (λ l. text_found (text_cut l)) (append_assoc bytes (34 ∷ []) behind) ∙ ap text_found (text_closed bytes behind is.1)
token_is (Quote bytes) span behind is = ap (λ s. token_cut (s ++ behind)) is.0
    ∙ ap (λ l. quote_found (quote_cut false l)) (append_assoc bytes (39 ∷ []) behind)
    ∙ ap quote_found (quote_closed false bytes behind is.1 is.2)
token_is (OpenText bytes) span behind is = ap (λ s. token_cut (s ++ behind)) is.0 ∙ ap text_found (text_open bytes behind is.1 is.2)
token_is (OpenQuote bytes) span behind is =
    ap (λ s. token_cut (s ++ behind)) is.0 ∙ ap quote_found (quote_open false bytes behind is.1 is.2)
token_is (Stray b) span behind is = ap (λ s. token_cut (s ++ behind)) is.0 ∙ stray_token b behind is.1
token_is End span behind is = ap (λ s. token_cut (s ++ behind)) is.0 ∙ ap token_cut is.1 ∙ ap (found End) (sym is.1)
