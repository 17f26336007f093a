-- A run of bytes that leave a state as it is has the effect of its bytes one after another.
use Rattle.std.proofs.Common.{◌≡◌, ℕ, suc, zero, ◌+◌, ◌-◌, ◌<◌, ◌≤◌, ◌⊎◌, inl, inr, List, [], ◌∷◌, ◌++◌, length, take, drop, cond, not}
use Rattle.std.proofs.Common.{◌||◌, ◌&&◌, ◌==◌, nat_le, nat_lt, Bool, true, false, Option, Some, None, refl, sym, ap, subst, ◌∙◌, arith}
use Rattle.std.proofs.Common.{append-nil, append_assoc, length-append, slice_get}
use Rattle.std.proofs.lemmas.Bool.{cond-true, cond-false, cases_lt, lt-ltb, le-ltb, eqb-true, le-leb, lt-leb}
use Rattle.std.specs.List.{prefix_len}
use Rattle.inf_characters.specs.{Characters.is_line_end, Characters.is_white, declared.characters.CharSet.CharSet}
use Rattle.inf_scanner.specs.{Kept.Kept, Kept.with_byte, Lines.past, Marks.longer_mark, Runs.is_blank, Runs.is_name_byte, Runs.is_plain}
use Rattle.inf_scanner.specs.{Runs.stays, Runs.with_bytes, declared.lines.Lines.Lines, declared.scanner.ByteStep.ByteStep}
use Rattle.inf_scanner.specs.{declared.scanner.Ending.Ending, declared.scanner.State.State, declared.tokens.Mark.Mark}
use Rattle.inf_scanner.specs.Scanning.{Sight, find, is_digit, is_gap, is_letter, is_run_byte, marked, most, step_of}
use Rattle.inf_scanner.proofs.Quoted.{after}

-- no byte passes a test that fails for all
pub no_run : (test : ℕ → Bool) → ((b : ℕ) → test b ≡ false) → (bs : List ℕ) → prefix_len test bs ≡ 0
no_run test none [] = refl
no_run test none (b ∷ bs) = cond-false (test b) (1 + prefix_len test bs) 0 (none b)

-- Lemmas about single bytes

-- a byte that passes a test differs from one that fails
other : (test : ℕ → Bool) (b n : ℕ) → test n ≡ false → test b ≡ true → (b == n) ≡ false
other test b n fails passes = by (b == n) refl where
  by : (t : Bool) → (b == n) ≡ t → t ≡ false
  by true e = let f : true ≡ false = sym passes ∙ ap test (eqb-true b n e) ∙ fails in cc
  by false e = refl

neither : (x y : Bool) → x ≡ false → y ≡ false → (x || y) ≡ false
neither true y e f = cc
neither false y e f = f

no_end : (s : State) (b : ℕ) → stays s b ≡ true → is_line_end b ≡ false
no_end s b passes = neither (b == 10) (b == 13) (other (stays s) b 10 (at_10 s) passes) (other (stays s) b 13 (at_13 s) passes) where
  at_10 : (s : State) → stays s 10 ≡ false
  at_10 State.Gap = refl
  at_10 State.Comment = refl
  at_10 (State.Run n) = refl
  at_10 (State.Mark m) = refl
  at_10 State.Text = refl
  at_10 (State.Quote false) = refl
  at_10 (State.Quote true) = refl

  at_13 : (s : State) → stays s 13 ≡ false
  at_13 State.Gap = refl
  at_13 State.Comment = refl
  at_13 (State.Run n) = refl
  at_13 (State.Mark m) = refl
  at_13 State.Text = refl
  at_13 (State.Quote false) = refl
  at_13 (State.Quote true) = refl

abbrev calm : Lines → Lines
calm lines = record { line = lines.line; after_return = false }

past_calm : (b : ℕ) (lines : Lines) → is_line_end b ≡ false → past b lines ≡ calm lines
past_calm b lines fails = by (b == 10) (b == 13) fails where
  by : (t u : Bool) → (t || u) ≡ false →
      record { line = cond (u || (t && not lines.after_return)) (lines.line + 1) lines.line; after_return = u } ≡ calm lines
  by true u e = cc
  by false true e = cc
  by false false e = refl

or_none : (n : Bool) → (n || false) ≡ n
or_none true = refl
or_none false = refl

name_runs : (x y z : Bool) → (x || y) ≡ true → (x || y || z) ≡ true
name_runs true y z e = refl
name_runs false true z e = refl
name_runs false false z e = cc

run_on : (set : CharSet) (n : Bool) (b : ℕ) → is_name_byte b ≡ true → step_of set (State.Run n) b ≡ ByteStep.Keep (State.Run n)
run_on set n b passes = cond-true (is_run_byte b) (ByteStep.Keep (State.Run (n || b == 36))) (ByteStep.Behind (Ending.Run n))
    (name_runs (is_letter b || is_digit b) (b == 95) (b == 36) passes)
    ∙ ap (λ t. ByteStep.Keep (State.Run (n || t))) (other is_name_byte b 36 refl passes) ∙ ap (λ t. ByteStep.Keep (State.Run t)) (or_none n)

text_on : (set : CharSet) (b : ℕ) → is_plain b ≡ true → step_of set State.Text b ≡ ByteStep.Keep State.Text
text_on set b passes = cond-false (b == 34) (ByteStep.Close Ending.Text) (ByteStep.Keep State.Text) (other is_plain b 34 refl passes)

quote_on : (set : CharSet) (b : ℕ) → is_plain b ≡ true → step_of set (State.Quote false) b ≡ ByteStep.Keep (State.Quote false)
quote_on set b passes = cond-false (is_line_end b) (ByteStep.Behind Ending.Unclosed)
    (cond (b == 39 && not false) (ByteStep.Close Ending.Quote) (ByteStep.Keep (State.Quote (b == 64)))) (no_end State.Text b passes)
    ∙ ap (λ t. cond (t && not false) (ByteStep.Close Ending.Quote) (ByteStep.Keep (State.Quote (b == 64))))
    (other is_plain b 39 refl passes) ∙ ap (λ t. ByteStep.Keep (State.Quote t)) (other is_plain b 64 refl passes)

comment_on : (set : CharSet) (b : ℕ) → is_plain b ≡ true → step_of set State.Comment b ≡ ByteStep.Skip State.Comment
comment_on set b passes = ap (λ s. ByteStep.Skip s) (cond-false (is_line_end b) State.Gap State.Comment (no_end State.Text b passes))

blank_white : (set : CharSet) (b : ℕ) → is_blank b ≡ true → is_white set b ≡ true
blank_white CharSet.Ascii b passes = by (b == 32) (b == 9) (b == 12) (is_line_end b) passes where
  by : (x y z w : Bool) → (x || y || z) ≡ true → (x || y || z || w) ≡ true
  by true y z w e = refl
  by false true z w e = refl
  by false false true w e = refl
  by false false false w e = cc
blank_white CharSet.Latin1 b passes = by (b == 32) (b == 9) (b == 12) (is_line_end b) (b == 160) passes where
  by : (x y z w v : Bool) → (x || y || z) ≡ true → (x || y || z || w || v) ≡ true
  by true y z w v e = refl
  by false true z w v e = refl
  by false false true w v e = refl
  by false false false w v e = cc

gap_on : (set : CharSet) (b : ℕ) → is_blank b ≡ true → step_of set State.Gap b ≡ ByteStep.Skip State.Gap
gap_on set b passes = cond-true (is_white set b) _ _ (blank_white set b passes)

-- Lemmas about one byte that leaves the state as it is

abbrev seen_on : Sight → Kept → Sight
seen_on seen kept = record { first = seen.first; kept = kept; lines = calm seen.lines }

-- the effect of a byte that leaves the state as it is
abbrev Steps : CharSet → ℕ → State → (ℕ → Sight → Sight) → Type 0
Steps set limit s on =
    (b : ℕ) (bs : List ℕ) (seen : Sight) → stays s b ≡ true → find set limit s seen (b ∷ bs) ≡ find set limit s (on b seen) bs

abbrev with_kept : ℕ → ℕ → Sight → Sight
with_kept most b seen = seen_on seen (with_byte most b seen.kept)

abbrev skipped : ℕ → Sight → Sight
skipped b seen = seen_on seen seen.kept

keeps : (set : CharSet) (limit : ℕ) (s : State) (b : ℕ) (bs : List ℕ) (seen : Sight) → marked s seen ≡ seen →
    step_of set s b ≡ ByteStep.Keep s → stays s b ≡ true
    → find set limit s seen (b ∷ bs) ≡ find set limit s (with_kept (most limit s) b seen) bs
keeps set limit s b bs seen same step passes = ap (λ (x : Sight). after set limit (step_of set s b) b x bs) same
    ∙ ap (λ (x : ByteStep). after set limit x b seen bs) step
    ∙ ap (λ (l : Lines). find set limit s (record { first = seen.first; kept = with_byte (most limit s) b seen.kept; lines = l }) bs)
    (past_calm b seen.lines (no_end s b passes))

run_kept : (set : CharSet) (limit : ℕ) (s : State) → is_gap s ≡ false → Steps set limit s (with_kept (most limit s))
run_kept set limit State.Gap fails b bs seen passes = cc
run_kept set limit State.Comment fails b bs seen passes = cc
run_kept set limit (State.Run n) fails b bs seen passes = keeps set limit (State.Run n) b bs seen refl (run_on set n b passes) passes
run_kept set limit (State.Mark m) fails b bs seen passes = cc
run_kept set limit State.Text fails b bs seen passes = keeps set limit State.Text b bs seen refl (text_on set b passes) passes
run_kept set limit (State.Quote false) fails b bs seen passes =
    keeps set limit (State.Quote false) b bs seen refl (quote_on set b passes) passes
run_kept set limit (State.Quote true) fails b bs seen passes = cc

-- before a token, the line that was noted for its first byte makes no difference
first_free : (set : CharSet) (limit : ℕ) (s : State) (first other : ℕ) (kept : Kept) (lines : Lines) (bs : List ℕ) → is_gap s ≡ true
    → find set limit s (record { first = first; kept = kept; lines = lines }) bs ≡ find set limit s
    (record { first = other; kept = kept; lines = lines }) bs
first_free set limit State.Gap first other kept lines [] gap = refl
first_free set limit State.Gap first other kept lines (b ∷ bs) gap = refl
first_free set limit State.Comment first other kept lines [] gap = refl
first_free set limit State.Comment first other kept lines (b ∷ bs) gap = refl
first_free set limit (State.Run n) first other kept lines bs gap = cc
first_free set limit (State.Mark m) first other kept lines bs gap = cc
first_free set limit State.Text first other kept lines bs gap = cc
first_free set limit (State.Quote a) first other kept lines bs gap = cc

skips : (set : CharSet) (limit : ℕ) (s : State) (b : ℕ) (bs : List ℕ) (seen : Sight) → is_gap s ≡ true → step_of set s b ≡ ByteStep.Skip s →
    stays s b ≡ true → find set limit s seen (b ∷ bs) ≡ find set limit s (skipped b seen) bs
skips set limit s b bs seen gap step passes = ap (λ (x : ByteStep). after set limit x b (marked s seen) bs) step
    ∙ ap (λ (l : Lines). find set limit s (record { first = (marked s seen).first; kept = seen.kept; lines = l }) bs)
    (past_calm b seen.lines (no_end s b passes))
    ∙ first_free set limit s (marked s seen).first seen.first seen.kept (calm seen.lines) bs gap

run_skipped : (set : CharSet) (limit : ℕ) (s : State) → is_gap s ≡ true → Steps set limit s skipped
run_skipped set limit State.Gap gap b bs seen passes = skips set limit State.Gap b bs seen refl (gap_on set b passes) passes
run_skipped set limit State.Comment gap b bs seen passes = skips set limit State.Comment b bs seen refl (comment_on set b passes) passes
run_skipped set limit (State.Run n) gap b bs seen passes = cc
run_skipped set limit (State.Mark m) gap b bs seen passes = cc
run_skipped set limit State.Text gap b bs seen passes = cc
run_skipped set limit (State.Quote a) gap b bs seen passes = cc

-- Lemmas about runs

abbrev ran : (ℕ → Sight → Sight) → List ℕ → Sight → Sight
ran on [] seen = seen
ran on (b ∷ bs) seen = ran on bs (on b seen)

one_and : (n : ℕ) → 1 + n ≡ suc n
one_and n = omega arith

abbrev RunFound : CharSet → ℕ → State → (ℕ → Sight → Sight) → List ℕ → List ℕ → ℕ → Type 0
RunFound set limit s on bytes rest n =
    (seen : Sight) → find set limit s (ran on (take n bytes) seen) (drop n bytes ++ rest) ≡ find set limit s seen (bytes ++ rest)

run_found : (set : CharSet) (limit : ℕ) (s : State) (on : ℕ → Sight → Sight) → Steps set limit s on → (bytes rest : List ℕ)
    → RunFound set limit s on bytes rest (prefix_len (stays s) bytes)
run_found set limit s on step [] rest seen = refl
run_found set limit s on step (b ∷ bytes) rest seen = by (stays s b) refl (run_found set limit s on step bytes rest) where
  by : (t : Bool) → stays s b ≡ t → RunFound set limit s on bytes rest (prefix_len (stays s) bytes)
      → find set limit s (ran on (take (cond t (1 + prefix_len (stays s) bytes) 0) (b ∷ bytes)) seen)
      (drop (cond t (1 + prefix_len (stays s) bytes) 0) (b ∷ bytes) ++ rest) ≡ find set limit s seen (b ∷ (bytes ++ rest))
  by true e later =
      ap (λ n. find set limit s (ran on (take n (b ∷ bytes)) seen) (drop n (b ∷ bytes) ++ rest)) (one_and (prefix_len (stays s) bytes))
      ∙ later (on b seen) ∙ sym (step b (bytes ++ rest) seen e)
  by false e later = refl

-- Lemmas about bytes that are kept

abbrev kept_as : List ℕ → Bool → Kept
kept_as bytes is_cut = record { bytes = bytes; is_cut = is_cut }

none_more : (most : ℕ) (k : Kept) → with_bytes most [] k ≡ k
none_more most k = cond-true (nat_le 0 (most - length k.bytes)) _ _ (le-leb 0 (most - length k.bytes) (omega arith))
    ∙ ap (λ bs. kept_as bs k.is_cut) (append-nil k.bytes)

all_kept : (most : ℕ) (bs : List ℕ) (k : Kept) → length bs + length k.bytes ≤ most → with_bytes most bs k ≡ kept_as (k.bytes ++ bs) k.is_cut
all_kept most bs k room = cond-true (nat_le (length bs) (most - length k.bytes)) (kept_as (k.bytes ++ bs) k.is_cut)
    (kept_as (k.bytes ++ take (most - length k.bytes) bs) true) (le-leb (length bs) (most - length k.bytes) (omega arith))

some_kept : (most : ℕ) (bs : List ℕ) (k : Kept) → most - length k.bytes < length bs →
    with_bytes most bs k ≡ kept_as (k.bytes ++ take (most - length k.bytes) bs) true
some_kept most bs k full = cond-false (nat_le (length bs) (most - length k.bytes)) (kept_as (k.bytes ++ bs) k.is_cut)
    (kept_as (k.bytes ++ take (most - length k.bytes) bs) true) (lt-leb (length bs) (most - length k.bytes) full)

-- where there is no room at all no byte is kept
full_kept : (most : ℕ) (bs bytes : List ℕ) → most ≤ length bytes → with_bytes most bs (kept_as bytes true) ≡ kept_as bytes true
full_kept most [] bytes full = none_more most (kept_as bytes true)
full_kept most (b ∷ bs) bytes full =
    let none : most - length bytes ≡ 0 = omega arith in
    some_kept most (b ∷ bs) (kept_as bytes true) (omega (arith, none)) ∙ ap (λ n. kept_as (bytes ++ take n (b ∷ bs)) true) none
    ∙ ap (λ x. kept_as x true) (append-nil bytes)

room_kept : (most b : ℕ) (bs : List ℕ) (k : Kept) → length k.bytes < most →
    with_bytes most (b ∷ bs) k ≡ with_bytes most bs (kept_as (k.bytes ++ b ∷ []) k.is_cut)
room_kept most b bs k room = by (cases_lt most (length bs + 1 + length k.bytes)) where
  more : length (k.bytes ++ b ∷ []) ≡ length k.bytes + 1
  more = omega (arith, length-append k.bytes (b ∷ []))

  by : (most < length bs + 1 + length k.bytes) ⊎ (length bs + 1 + length k.bytes ≤ most) →
      with_bytes most (b ∷ bs) k ≡ with_bytes most bs (kept_as (k.bytes ++ b ∷ []) k.is_cut)
  by (inl full) =
      let next : most - length k.bytes ≡ suc (most - length (k.bytes ++ b ∷ [])) = omega (arith, more, room) in
      some_kept most (b ∷ bs) k (omega arith) ∙ ap (λ n. kept_as (k.bytes ++ take n (b ∷ bs)) true) next
      ∙ ap (λ x. kept_as x true) (sym (append_assoc k.bytes (b ∷ []) (take (most - length (k.bytes ++ b ∷ [])) bs)))
      ∙ sym (some_kept most bs (kept_as (k.bytes ++ b ∷ []) k.is_cut) (omega (arith, more)))
  by (inr fits) = all_kept most (b ∷ bs) k (omega arith) ∙ ap (λ x. kept_as x k.is_cut) (sym (append_assoc k.bytes (b ∷ []) bs))
      ∙ sym (all_kept most bs (kept_as (k.bytes ++ b ∷ []) k.is_cut) (omega (arith, more)))

-- several bytes are kept as the first, and then the others
one_more : (most b : ℕ) (bs : List ℕ) (k : Kept) → with_bytes most (b ∷ bs) k ≡ with_bytes most bs (with_byte most b k)
one_more most b bs k = by (cases_lt (length k.bytes) most) where
  by : (length k.bytes < most) ⊎ (most ≤ length k.bytes) → with_bytes most (b ∷ bs) k ≡ with_bytes most bs (with_byte most b k)
  by (inl room) = room_kept most b bs k room
      ∙ ap (with_bytes most bs) (sym (cond-true (nat_lt (length k.bytes) most) (kept_as (k.bytes ++ b ∷ []) k.is_cut)
      (kept_as k.bytes true) (lt-ltb (length k.bytes) most room)))
  by (inr full) =
      let none : most - length k.bytes ≡ 0 = omega arith in
      some_kept most (b ∷ bs) k (omega (arith, none)) ∙ ap (λ n. kept_as (k.bytes ++ take n (b ∷ bs)) true) none
      ∙ ap (λ x. kept_as x true) (append-nil k.bytes) ∙ sym (full_kept most bs k.bytes full)
      ∙ ap (with_bytes most bs) (sym (cond-false (nat_lt (length k.bytes) most) (kept_as (k.bytes ++ b ∷ []) k.is_cut)
      (kept_as k.bytes true) (le-ltb (length k.bytes) most full)))

ran_skipped : (bs : List ℕ) (b : ℕ) (seen : Sight) → ran skipped (b ∷ bs) seen ≡ seen_on seen seen.kept
ran_skipped [] b seen = refl
ran_skipped (x ∷ bs) b seen = ran_skipped bs x (skipped b seen)

ran_kept : (most : ℕ) (bs : List ℕ) (b : ℕ) (seen : Sight) →
    ran (with_kept most) (b ∷ bs) seen ≡ seen_on seen (with_bytes most (b ∷ bs) seen.kept)
ran_kept most [] b seen =
    ap (λ (k : Kept). seen_on seen k) (sym (none_more most (with_byte most b seen.kept)) ∙ sym (one_more most b [] seen.kept))
ran_kept most (x ∷ bs) b seen =
    ran_kept most bs x (with_kept most b seen) ∙ ap (λ (k : Kept). seen_on seen k) (sym (one_more most b (x ∷ bs) seen.kept))

-- a token goes on behind a run that is kept
pub found_kept : (set : CharSet) (limit : ℕ) (s : State) (n : ℕ) (bytes rest : List ℕ) (seen : Sight) → is_gap s ≡ false →
    n ≡ prefix_len (stays s) bytes → (n ≡ 0 → ⊥)
    → find set limit s (seen_on seen (with_bytes (most limit s) (take n bytes) seen.kept)) (drop n bytes ++ rest) ≡ find set limit s seen
    (bytes ++ rest)
found_kept set limit s zero bytes rest seen fails is some = absurd (some refl)
found_kept set limit s (suc n) [] rest seen fails is some = cc
found_kept set limit s (suc n) (b ∷ bytes) rest seen fails is some =
    ap (λ (x : Sight). find set limit s x (drop n bytes ++ rest)) (sym (ran_kept (most limit s) (take n bytes) b seen))
    ∙ subst (RunFound set limit s (with_kept (most limit s)) (b ∷ bytes) rest) (sym is)
    (run_found set limit s (with_kept (most limit s)) (run_kept set limit s fails) (b ∷ bytes) rest) seen

-- a token goes on behind a run that is skipped
pub found_skipped : (set : CharSet) (limit : ℕ) (s : State) (n : ℕ) (bytes rest : List ℕ) (seen : Sight) → is_gap s ≡ true →
    n ≡ prefix_len (stays s) bytes → (n ≡ 0 → ⊥)
    → find set limit s (seen_on seen seen.kept) (drop n bytes ++ rest) ≡ find set limit s seen (bytes ++ rest)
found_skipped set limit s zero bytes rest seen gap is some = absurd (some refl)
found_skipped set limit s (suc n) [] rest seen gap is some = cc
found_skipped set limit s (suc n) (b ∷ bytes) rest seen gap is some =
    ap (λ (x : Sight). find set limit s x (drop n bytes ++ rest)) (sym (ran_skipped (take n bytes) b seen))
    ∙ subst (RunFound set limit s skipped (b ∷ bytes) rest) (sym is)
    (run_found set limit s skipped (run_skipped set limit s gap) (b ∷ bytes) rest) seen

-- The first byte of a name, and a mark that is the front of no other

name_black : (set : CharSet) (b : ℕ) → is_name_byte b ≡ true → is_white set b ≡ false
name_black set b passes = by set where
  is_none : (n : ℕ) → is_name_byte n ≡ false → (b == n) ≡ false
  is_none n fails = other is_name_byte b n fails passes

  four : (x y z w : Bool) → x ≡ false → y ≡ false → z ≡ false → w ≡ false → (x || y || z || w) ≡ false
  four true y z w e f g h = cc
  four false true z w e f g h = cc
  four false false true w e f g h = cc
  four false false false w e f g h = h

  five : (x y z w v : Bool) → x ≡ false → y ≡ false → z ≡ false → w ≡ false → v ≡ false → (x || y || z || w || v) ≡ false
  five true y z w v e f g h i = cc
  five false true z w v e f g h i = cc
  five false false true w v e f g h i = cc
  five false false false true v e f g h i = cc
  five false false false false v e f g h i = i

  by : (set : CharSet) → is_white set b ≡ false
  by CharSet.Ascii = four (b == 32) (b == 9) (b == 12) (is_line_end b) (is_none 32 refl) (is_none 9 refl) (is_none 12 refl)
      (neither (b == 10) (b == 13) (is_none 10 refl) (is_none 13 refl))
  by CharSet.Latin1 = five (b == 32) (b == 9) (b == 12) (is_line_end b) (b == 160) (is_none 32 refl) (is_none 9 refl) (is_none 12 refl)
      (neither (b == 10) (b == 13) (is_none 10 refl) (is_none 13 refl)) (is_none 160 refl)

name_first : (set : CharSet) (b : ℕ) → is_name_byte b ≡ true → step_of set State.Gap b ≡ ByteStep.Keep (State.Run (is_digit b))
name_first set b passes = cond-false (is_white set b) _ _ (name_black set b passes)
    ∙ cond-true (is_run_byte b) _ _ (name_runs (is_letter b || is_digit b) (b == 95) (b == 36) passes)
    ∙ ap (λ t. ByteStep.Keep (State.Run (is_digit b || t))) (other is_name_byte b 36 refl passes)
    ∙ ap (λ t. ByteStep.Keep (State.Run t)) (or_none (is_digit b))

-- a name or number is found from its first byte on
pub found_name : (set : CharSet) (limit b : ℕ) (behind rest : List ℕ) (seen : Sight) → slice_get behind 0 ≡ Some b → is_name_byte b ≡ true
    → find set limit (State.Run (is_digit b)) (marked State.Gap seen) (behind ++ rest) ≡ find set limit State.Gap seen (behind ++ rest)
found_name set limit b [] rest seen is passes = cc
found_name set limit b (x ∷ behind) rest seen is passes = by x is where
  by : (x : ℕ) → Some x ≡ Some b → find set limit (State.Run (is_digit b)) (marked State.Gap seen) (x ∷ (behind ++ rest)) ≡ find set limit
      State.Gap seen (x ∷ (behind ++ rest))
  by x is =
      let same : x ≡ b = cc in
      subst (λ (y : ℕ). find set limit (State.Run (is_digit b)) (marked State.Gap seen) (y ∷ (behind ++ rest)) ≡ find set limit State.Gap
      seen (y ∷ (behind ++ rest))) (sym same) (ap (λ (s : ByteStep). after set limit s b (marked State.Gap seen) (behind ++ rest))
      (run_on set (is_digit b) b passes ∙ sym (name_first set b passes)))

-- a mark that is the front of no other ends at once
pub found_mark : (set : CharSet) (limit : ℕ) (m : Mark) (seen : Sight) (bs : List ℕ) → ((b : ℕ) → longer_mark m b ≡ None)
    → record { ending = Ending.Mark m; seen = seen; rest = bs } ≡ find set limit (State.Mark m) seen bs
found_mark set limit m seen [] whole = refl
found_mark set limit m seen (b ∷ bs) whole = sym (ap (λ (o : Option Mark). after set limit
    (elim o [ Some x ↦ ByteStep.Keep (State.Mark x) | None ↦ ByteStep.Behind (Ending.Mark m) ]) b seen bs) (whole b))
