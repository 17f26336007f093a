-- From inside a token to its end: its span, and the bytes that are kept of it.
use Rattle.std.proofs.Common.{◌≡◌, ◌⊎◌, inl, inr, ℕ, suc, zero, ◌+◌, ◌<◌, ◌≤◌, List, [], ◌∷◌, ◌++◌, length, take, cond, not, ◌||◌, ◌&&◌}
use Rattle.std.proofs.Common.{◌==◌, nat_lt, Bool, true, false, Option, Some, None, refl, sym, ap, ◌∙◌, arith, append-nil, append_assoc}
use Rattle.std.proofs.Common.{length-append}
use Rattle.std.proofs.lemmas.Bool.{and_parts, and_from, cond-true, cond-false, cond_both, cases_lt, lt-ltb, le-ltb, eqb-true, not-true}
use Rattle.std.proofs.lemmas.Bool.{not_from_false}
use Rattle.std.proofs.lemmas.List.{take_all, length-take-le, take-append-le}
use Rattle.std.specs.List.{list_all}
use Rattle.inf_characters.specs.{Characters.is_line_end, declared.characters.CharSet.CharSet}
use Rattle.inf_scanner.proofs.Quoted.{after}
use Rattle.inf_scanner.specs.{Kept.Kept, Kept.nothing_kept, Kept.with_byte, Lines.past, Marks.first_mark, Marks.longer_mark}
use Rattle.inf_scanner.specs.{Marks.mark_bytes, declared.lines.Lines.Lines, declared.scanner.ByteStep.ByteStep}
use Rattle.inf_scanner.specs.{declared.scanner.Ending.Ending, declared.scanner.State.State, declared.tokens.Mark.Mark}
use Rattle.inf_scanner.specs.Scanning.{Sight, Found, is_run_byte, find, kept}
use Rattle.inf_scanner.specs.SpellingLaws.{Spans, ends_at, is_in_quote, kept_of, most_of, past_all}

-- Lemmas about the bytes that are kept

abbrev kept_as : List ℕ → Bool → Kept
kept_as bytes is_cut = record { bytes = bytes; is_cut = is_cut }

kept_room : (most b : ℕ) (bytes : List ℕ) → length bytes < most → with_byte most b (kept_of most bytes) ≡ kept_of most (bytes ++ b ∷ [])
kept_room most b bytes room =
    let all : take most bytes ≡ bytes = take_all most bytes (omega arith) in
    let more : length (bytes ++ b ∷ []) ≡ length bytes + 1 = omega (arith, length-append bytes (b ∷ [])) in
    let all_more : take most (bytes ++ b ∷ []) ≡ bytes ++ b ∷ [] = take_all most (bytes ++ b ∷ []) (omega (arith, more)) in
    let fits : nat_lt (length (take most bytes)) most ≡ true = lt-ltb (length (take most bytes)) most (omega (arith, ap length all)) in
    cond-true (nat_lt (length (take most bytes)) most) (kept_as (take most bytes ++ b ∷ []) (nat_lt most (length bytes)))
    (kept_as (take most bytes) true) fits ∙ ap (λ (bs : List ℕ). kept_as (bs ++ b ∷ []) (nat_lt most (length bytes))) all
    ∙ ap (λ c. kept_as (bytes ++ b ∷ []) c) (le-ltb most (length bytes) (omega arith) ∙ sym
    (le-ltb most (length (bytes ++ b ∷ [])) (omega (arith, more))))
    ∙ ap (λ bs. kept_as bs (nat_lt most (length (bytes ++ b ∷ [])))) (sym all_more)

kept_full : (most b : ℕ) (bytes : List ℕ) → most ≤ length bytes → with_byte most b (kept_of most bytes) ≡ kept_of most (bytes ++ b ∷ [])
kept_full most b bytes full =
    let size : length (take most bytes) ≡ most = length-take-le most bytes full in
    let more : length (bytes ++ b ∷ []) ≡ length bytes + 1 = omega (arith, length-append bytes (b ∷ [])) in
    let none : nat_lt (length (take most bytes)) most ≡ false = le-ltb (length (take most bytes)) most (omega (arith, size)) in
    cond-false (nat_lt (length (take most bytes)) most) (kept_as (take most bytes ++ b ∷ []) (nat_lt most (length bytes)))
    (kept_as (take most bytes) true) none
    ∙ ap (λ c. kept_as (take most bytes) c) (sym (lt-ltb most (length (bytes ++ b ∷ [])) (omega (arith, more))))
    ∙ ap (λ bs. kept_as bs (nat_lt most (length (bytes ++ b ∷ [])))) (sym (take-append-le most bytes (b ∷ []) full))

pub kept_more : (most b : ℕ) (bytes : List ℕ) → with_byte most b (kept_of most bytes) ≡ kept_of most (bytes ++ b ∷ [])
kept_more most b bytes = by (cases_lt (length bytes) most) where
  by : (length bytes < most) ⊎ (most ≤ length bytes) → with_byte most b (kept_of most bytes) ≡ kept_of most (bytes ++ b ∷ [])
  by (inl room) = kept_room most b bytes room
  by (inr full) = kept_full most b bytes full

take_none : (most : ℕ) → take {A = ℕ} most [] ≡ []
take_none zero = refl
take_none (suc most) = refl

pub kept_nothing : (most : ℕ) → nothing_kept ≡ kept_of most []
kept_nothing most =
    ap (λ bs. kept_as bs false) (sym (take_none most)) ∙ ap (λ c. kept_as (take most []) c) (sym (le-ltb most 0 (omega arith)))

-- Lemmas about bytes at the end of others

all_with : (test : ℕ → Bool) (bytes : List ℕ) (b : ℕ) → list_all test bytes ≡ true → test b ≡ true → list_all test (bytes ++ b ∷ []) ≡ true
all_with test [] b all is = and_from (test b) true is refl
all_with test (x ∷ bytes) b all is =
    let parts = and_parts (test x) (list_all test bytes) all in
    and_from (test x) (list_all test (bytes ++ b ∷ [])) parts.0 (all_with test bytes b parts.1 is)

ends_with : (after : Bool) (bytes : List ℕ) (b : ℕ) → ends_at after (bytes ++ b ∷ []) ≡ (b == 64)
ends_with after [] b = refl
ends_with after (x ∷ bytes) b = ends_with (x == 64) bytes b

in_quote_with : (after : Bool) (bytes : List ℕ) (b : ℕ) → is_in_quote after bytes ≡ true → is_line_end b ≡ false
    → (b == 39 && not (ends_at after bytes)) ≡ false → is_in_quote after (bytes ++ b ∷ []) ≡ true
in_quote_with after [] b inside no_end no_quote = and_from (not (is_line_end b) && not (b == 39 && not after)) true
    (and_from (not (is_line_end b)) (not (b == 39 && not after)) (not_from_false (is_line_end b) no_end)
    (not_from_false (b == 39 && not after) no_quote)) refl
in_quote_with after (x ∷ bytes) b inside no_end no_quote =
    let parts = and_parts (not (is_line_end x) && not (x == 39 && not after)) (is_in_quote (x == 64) bytes) inside in
    and_from (not (is_line_end x) && not (x == 39 && not after)) (is_in_quote (x == 64) (bytes ++ b ∷ [])) parts.0
    (in_quote_with (x == 64) bytes b parts.1 no_end no_quote)

-- Lemmas about marks byte by byte

pick : (b n : ℕ) (front : List ℕ) (x m : Mark) (later : Option Mark) → mark_bytes x ≡ front ++ n ∷ []
    → (later ≡ Some m → mark_bytes m ≡ front ++ b ∷ []) → cond (b == n) (Some x) later ≡ Some m → mark_bytes m ≡ front ++ b ∷ []
pick b n front x m later is next = by (b == n) refl where
  some_is : (x m : Mark) → Some x ≡ Some m → m ≡ x
  some_is x m e = cc

  by : (t : Bool) → b == n ≡ t → cond t (Some x) later ≡ Some m → mark_bytes m ≡ front ++ b ∷ []
  by true t e = ap mark_bytes (some_is x m e) ∙ is ∙ ap (λ k. front ++ k ∷ []) (sym (eqb-true b n t))
  by false t e = next e

no_more : (m : Mark) (bytes : List ℕ) → None ≡ Some m → mark_bytes m ≡ bytes
no_more m bytes e = cc

pub first_bytes : (b : ℕ) (m : Mark) → first_mark b ≡ Some m → mark_bytes m ≡ b ∷ []
first_bytes b m =
    pick b 45 [] Mark.Minus m _ refl (pick b 43 [] Mark.Plus m _ refl (pick b 42 [] Mark.Times m _ refl (pick b 47 [] Mark.Divide m _ refl
    (pick b 37 [] Mark.Remainder m _ refl (pick b 38 [] Mark.BitAnd m _ refl (pick b 124 [] Mark.BitOr m _ refl
    (pick b 126 [] Mark.BitNot m _ refl
    (pick b 61 [] Mark.Assign m _ refl (pick b 62 [] Mark.Greater m _ refl (pick b 60 [] Mark.Less m _ refl
    (pick b 44 [] Mark.Comma m _ refl
    (pick b 59 [] Mark.Semicolon m _ refl (pick b 58 [] Mark.Colon m _ refl (pick b 40 [] Mark.OpenParenthesis m _ refl
    (pick b 41 [] Mark.CloseParenthesis m _ refl (pick b 91 [] Mark.OpenBracket m _ refl (pick b 93 [] Mark.CloseBracket m _ refl
    (pick b 123 [] Mark.OpenBrace m _ refl (pick b 125 [] Mark.CloseBrace m _ refl
    (pick b 46 [] Mark.Dot m _ refl (pick b 35 [] Mark.Hash m _ refl (pick b 63 [] Mark.Question m _ refl (pick b 64 [] Mark.At m _ refl
    (no_more m (b ∷ [])))))))))))))))))))))))))

longer_bytes : (m : Mark) (b : ℕ) (x : Mark) → longer_mark m b ≡ Some x → mark_bytes x ≡ mark_bytes m ++ b ∷ []
longer_bytes Mark.Minus b x = pick b 45 (45 ∷ []) Mark.Decrement x _ refl (pick b 62 (45 ∷ []) Mark.Arrow x _ refl (no_more x _))
longer_bytes Mark.Decrement b x = pick b 62 (45 ∷ 45 ∷ []) Mark.LongArrow x _ refl (no_more x _)
longer_bytes Mark.Plus b x = pick b 43 (43 ∷ []) Mark.Increment x _ refl (no_more x _)
longer_bytes Mark.BitAnd b x = pick b 38 (38 ∷ []) Mark.LogicalAnd x _ refl (no_more x _)
longer_bytes Mark.BitOr b x = pick b 124 (124 ∷ []) Mark.LogicalOr x _ refl (no_more x _)
longer_bytes Mark.BitNot b x = pick b 126 (126 ∷ []) Mark.LogicalNot x _ refl (pick b 61 (126 ∷ []) Mark.NotEqual x _ refl (no_more x _))
longer_bytes Mark.Assign b x = pick b 61 (61 ∷ []) Mark.Equal x _ refl (no_more x _)
longer_bytes Mark.Greater b x =
    pick b 61 (62 ∷ []) Mark.GreaterOrEqual x _ refl (pick b 62 (62 ∷ []) Mark.DoubleGreater x _ refl (no_more x _))
longer_bytes Mark.Less b x = pick b 61 (60 ∷ []) Mark.LessOrEqual x _ refl (pick b 60 (60 ∷ []) Mark.DoubleLess x _ refl (no_more x _))
longer_bytes Mark.Dot b x = pick b 38 (46 ∷ []) Mark.DotAnd x _ refl (pick b 35 (46 ∷ []) Mark.DotHash x _ refl (no_more x _))
longer_bytes Mark.Hash b x = pick b 35 (35 ∷ []) Mark.DoubleHash x _ refl (no_more x _)
longer_bytes _ b x = no_more x _

-- Lemmas that lead from inside a token to its end

-- The token that goes on with these bytes, behind the front of its span.
pub record Tail (set : CharSet) (limit : ℕ) (f : Found) (front bs : List ℕ) (lines : Lines) (first : ℕ) : Type 0 where
  pub more : List ℕ
  pub span : List ℕ
  pub bytes : List ℕ
  pub whole : bs ≡ more ++ f.rest
  pub joins : span ≡ front ++ more
  pub spans : Spans set f.ending bytes span f.rest
  pub keeps : f.seen.kept ≡ kept_of (most_of limit f.ending) bytes
  pub passes : f.seen.lines ≡ past_all more lines
  pub begins : f.seen.first ≡ first

-- the token with one more byte in front
on : (set : CharSet) (limit : ℕ) (f : Found) (front bs : List ℕ) (lines : Lines) (first b : ℕ) →
    Tail set limit f (front ++ b ∷ []) bs (past b lines) first → Tail set limit f front (b ∷ bs) lines first
on set limit f front bs lines first b t = record {
  more = b ∷ t.more;
  span = t.span;
  bytes = t.bytes;
  whole = ap (λ r. b ∷ r) t.whole;
  joins = t.joins ∙ append_assoc front (b ∷ []) t.more;
  spans = t.spans;
  keeps = t.keeps;
  passes = t.passes;
  begins = t.begins;
}

pub run_tail : (set : CharSet) (limit : ℕ) (bs : List ℕ) (n : Bool) (seen : Sight) (bytes : List ℕ) → 0 < length bytes →
    list_all is_run_byte bytes ≡ true → seen.kept ≡ kept_of 32 bytes →
    Tail set limit (find set limit (State.Run n) seen bs) bytes bs seen.lines seen.first
run_tail set limit [] n seen bytes some all k = record {
  more = [];
  span = bytes;
  bytes = bytes;
  whole = refl;
  joins = sym (append-nil bytes);
  spans = (refl, some, all, refl);
  keeps = k;
  passes = refl;
  begins = refl;
}
run_tail set limit (b ∷ bs) n seen bytes some all k =
    cond_both (is_run_byte b) (ByteStep.Keep (State.Run (n || b == 36))) (ByteStep.Behind (Ending.Run n))
    (λ s. Tail set limit (after set limit s b seen bs) bytes (b ∷ bs) seen.lines seen.first)
    (λ yes. on set limit _ bytes bs seen.lines seen.first b
    (run_tail set limit bs (n || b == 36) (kept 32 b seen) (bytes ++ b ∷ []) (omega (arith, length-append bytes (b ∷ [])))
    (all_with is_run_byte bytes b all yes) (ap (with_byte 32 b) k ∙ kept_more 32 b bytes))) (λ no. record {
      more = [];
      span = bytes;
      bytes = bytes;
      whole = refl;
      joins = sym (append-nil bytes);
      spans = (refl, some, all, no);
      keeps = k;
      passes = refl;
      begins = refl;
    })

abbrev pub MarkTail : CharSet → ℕ → List ℕ → Type 0
MarkTail set limit bs = (m : Mark) (seen : Sight) (bytes : List ℕ) → bytes ≡ mark_bytes m → seen.kept ≡ kept_of 32 bytes → Tail set limit
    (find set limit (State.Mark m) seen bs) bytes bs seen.lines seen.first

mark_step : (set : CharSet) (limit : ℕ) (bs : List ℕ) (b : ℕ) → MarkTail set limit bs → MarkTail set limit (b ∷ bs)
mark_step set limit bs b later m seen bytes is k = by (longer_mark m b) refl where
  by : (o : Option Mark) → longer_mark m b ≡ o → Tail set limit
      (after set limit (elim o [ Some x ↦ ByteStep.Keep (State.Mark x) | None ↦ ByteStep.Behind (Ending.Mark m) ]) b seen bs)
      bytes (b ∷ bs) seen.lines seen.first
  by (Some x) e = on set limit _ bytes bs seen.lines seen.first b
      (later x (kept 32 b seen) (bytes ++ b ∷ []) (ap (λ bs. bs ++ b ∷ []) is ∙ sym (longer_bytes m b x e))
      (ap (with_byte 32 b) k ∙ kept_more 32 b bytes))
  by None e = record {
    more = [];
    span = bytes;
    bytes = bytes;
    whole = refl;
    joins = sym (append-nil bytes);
    spans = (refl, is, e);
    keeps = k;
    passes = refl;
    begins = refl;
  }

pub mark_tail : (set : CharSet) (limit : ℕ) (bs : List ℕ) → MarkTail set limit bs
mark_tail set limit [] m seen bytes is k = record {
  more = [];
  span = bytes;
  bytes = bytes;
  whole = refl;
  joins = sym (append-nil bytes);
  spans = (refl, is, tt);
  keeps = k;
  passes = refl;
  begins = refl;
}
mark_tail set limit (b ∷ bs) m seen bytes is k = mark_step set limit bs b (mark_tail set limit bs) m seen bytes is k

pub text_tail : (set : CharSet) (limit : ℕ) (bs : List ℕ) (seen : Sight) (bytes : List ℕ) → list_all (λ b. not (b == 34)) bytes ≡ true →
    seen.kept ≡ kept_of limit bytes → Tail set limit (find set limit State.Text seen bs) (34 ∷ bytes) bs seen.lines seen.first
text_tail set limit [] seen bytes none k = record {
  more = [];
  span = 34 ∷ bytes;
  bytes = bytes;
  whole = refl;
  joins = sym (append-nil (34 ∷ bytes));
  spans = inl (refl, none, refl);
  keeps = k;
  passes = refl;
  begins = refl;
}
text_tail set limit (b ∷ bs) seen bytes none k = cond_both (b == 34) (ByteStep.Close Ending.Text) (ByteStep.Keep State.Text)
    (λ s. Tail set limit (after set limit s b seen bs) (34 ∷ bytes) (b ∷ bs) seen.lines seen.first) (λ yes. record {
      more = b ∷ [];
      span = 34 ∷ (bytes ++ 34 ∷ []);
      bytes = bytes;
      whole = refl;
      joins = ap (λ q. 34 ∷ (bytes ++ q ∷ [])) (sym (eqb-true b 34 yes));
      spans = (refl, none);
      keeps = k;
      passes = refl;
      begins = refl;
    }) (λ no. on set limit _ (34 ∷ bytes) bs seen.lines seen.first b
    (text_tail set limit bs (kept limit b seen) (bytes ++ b ∷ []) (all_with (λ x. not (x == 34)) bytes b none (not_from_false (b == 34) no))
    (ap (with_byte limit b) k ∙ kept_more limit b bytes)))

pub quote_tail : (set : CharSet) (limit : ℕ) (bs : List ℕ) (a : Bool) (seen : Sight) (bytes : List ℕ) → is_in_quote false bytes ≡ true →
    ends_at false bytes ≡ a → seen.kept ≡ kept_of limit bytes →
    Tail set limit (find set limit (State.Quote a) seen bs) (39 ∷ bytes) bs seen.lines seen.first
quote_tail set limit [] a seen bytes inside at k = record {
  more = [];
  span = 39 ∷ bytes;
  bytes = bytes;
  whole = refl;
  joins = sym (append-nil (39 ∷ bytes));
  spans = inr (refl, inside, refl);
  keeps = k;
  passes = refl;
  begins = refl;
}
quote_tail set limit (b ∷ bs) a seen bytes inside at k = cond_both (is_line_end b) (ByteStep.Behind Ending.Unclosed)
    (cond (b == 39 && not a) (ByteStep.Close Ending.Quote) (ByteStep.Keep (State.Quote (b == 64))))
    (λ s. Tail set limit (after set limit s b seen bs) (39 ∷ bytes) (b ∷ bs) seen.lines seen.first) (λ yes. record {
      more = [];
      span = 39 ∷ bytes;
      bytes = bytes;
      whole = refl;
      joins = sym (append-nil (39 ∷ bytes));
      spans = inr (refl, inside, yes);
      keeps = k;
      passes = refl;
      begins = refl;
    }) (λ no_end. cond_both (b == 39 && not a) (ByteStep.Close Ending.Quote) (ByteStep.Keep (State.Quote (b == 64)))
    (λ s. Tail set limit (after set limit s b seen bs) (39 ∷ bytes) (b ∷ bs) seen.lines seen.first)
    (λ yes. let parts = and_parts (b == 39) (not a) yes in record {
      more = b ∷ [];
      span = 39 ∷ (bytes ++ 39 ∷ []);
      bytes = bytes;
      whole = refl;
      joins = ap (λ q. 39 ∷ (bytes ++ q ∷ [])) (sym (eqb-true b 39 parts.0));
      spans = (refl, inside, at ∙ not-true a parts.1);
      keeps = k;
      passes = refl;
      begins = refl;
    }) (λ no. on set limit _ (39 ∷ bytes) bs seen.lines seen.first b
    (quote_tail set limit bs (b == 64) (kept limit b seen) (bytes ++ b ∷ [])
    (in_quote_with false bytes b inside no_end (ap (λ x. b == 39 && not x) at ∙ no)) (ends_with false bytes b)
    (ap (with_byte limit b) k ∙ kept_more limit b bytes))))
