-- The head of a source is no part of its tokens.
use Rattle.std.proofs.Common.{◌≡◌, ℕ, zero, suc, ◌<◌, List, [], ◌∷◌, length, Bool, true, false, ◌||◌, ◌==◌, cond, if◌then◌else◌}
use Rattle.std.proofs.Common.{refl, sym, ap, ◌∙◌, arith}
use Rattle.std.proofs.lemmas.Bool.Decides.{nat_tests}
use Rattle.inf_characters.specs.{Characters.is_line_end, declared.characters.CharSet.CharSet}
use Rattle.inf_scanner.specs.{Lines.past, declared.lines.Lines.Lines, declared.scanner.ByteStep.ByteStep, declared.scanner.State.State}
use Rattle.inf_scanner.specs.{declared.scanner.Turn.Turn}
use Rattle.inf_scanner.specs.Scanning.{Found, Sight, begin, begun, find, marked, step_of, turn_by}
use Rattle.inf_lexer.specs.{declared.head.HeadPlace.HeadPlace, declared.head.HeadStep.HeadStep}
use Rattle.inf_lexer.specs.Heads.{HeadFound, comment_step, head_found, head_step, is_cut, line_step, place_behind, HeadRead, WholeHead}
use Rattle.inf_lexer.specs.Heads.{goes_on_at, head_within, is_word, next_head_word, with_head_byte, with_head_word}
use Rattle.inf_lexer.specs.HeadLaws.{HeadsHaveNoTokens, WholeHeadsHaveNoTokens, state_at}
use Rattle.inf_lexer.proofs.Heading.{after_step, goes_on_is, words_take}

eq_of : (m n : ℕ) → (m == n) ≡ true → m ≡ n
eq_of m n e = grind (arith, nat_tests)

-- before a token, the line where it was thought to begin makes no difference
free : (set : CharSet) (limit : ℕ) (p : HeadPlace) (first : ℕ) (lines : Lines) (bs : List ℕ)
    → find set limit (state_at p) (record { first = first; kept = (begun lines).kept; lines = lines }) bs
    ≡ find set limit (state_at p) (begun lines) bs
free set limit HeadPlace.Line first lines [] = refl
free set limit p first lines [] = refl
free set limit HeadPlace.Line first lines (b ∷ bs) = refl
free set limit p first lines (b ∷ bs) = refl

-- the step of a byte of a head is the same among tokens: the byte is passed over, to where the head goes on; where the head stops,
-- the byte does the same as behind the head
abbrev Passes : CharSet → HeadPlace → ℕ → HeadStep → Type 0
Passes set p b (HeadStep.Pass next) = step_of set (state_at p) b ≡ ByteStep.Skip (state_at next)
Passes set p b HeadStep.Keep = step_of set (state_at p) b ≡ ByteStep.Skip State.Comment
Passes set p b HeadStep.Stop = step_of set (state_at (place_behind p)) b ≡ step_of set (state_at p) b

sign_begins : (set : CharSet) (b : ℕ) → b ≡ 33 → begin set b ≡ ByteStep.Skip State.Comment
sign_begins CharSet.Ascii b e = ap (begin CharSet.Ascii) e
sign_begins CharSet.Latin1 b e = ap (begin CharSet.Latin1) e

feed_begins : (set : CharSet) (b : ℕ) → b ≡ 10 → begin set b ≡ ByteStep.Skip State.Gap
feed_begins CharSet.Ascii b e = ap (begin CharSet.Ascii) e
feed_begins CharSet.Latin1 b e = ap (begin CharSet.Latin1) e

return_begins : (set : CharSet) (b : ℕ) → b ≡ 13 → begin set b ≡ ByteStep.Skip State.Gap
return_begins CharSet.Ascii b e = ap (begin CharSet.Ascii) e
return_begins CharSet.Latin1 b e = ap (begin CharSet.Latin1) e

end_begins : (set : CharSet) (b : ℕ) (t : Bool) → (b == 10) ≡ t → is_line_end b ≡ true → begin set b ≡ ByteStep.Skip State.Gap
end_begins set b true e end = feed_begins set b (eq_of b 10 e)
end_begins set b false e end = return_begins set b (eq_of b 13 (sym (ap (λ x. x || (b == 13)) e) ∙ end))

comment_by : (set : CharSet) (b : ℕ) (t : Bool) → is_line_end b ≡ t
    → step_of set State.Comment b ≡ ByteStep.Skip (if t then State.Gap else State.Comment)
comment_by set b t e = ap (λ x. ByteStep.Skip (if x then State.Gap else State.Comment)) e

line_passes : (set : CharSet) (b : ℕ) (t : Bool) → (b == 33) ≡ t →
    Passes set HeadPlace.Line b (if t then HeadStep.Pass HeadPlace.Sign else HeadStep.Stop)
line_passes set b true e = sign_begins set b (eq_of b 33 e)
line_passes set b false e = refl

next_line_passes : (set : CharSet) (b : ℕ) (t : Bool) → (b == 33) ≡ t
    → Passes set HeadPlace.Return b (if t then HeadStep.Pass HeadPlace.Sign else HeadStep.Stop)
next_line_passes set b true e = sign_begins set b (eq_of b 33 e)
next_line_passes set b false e = refl

return_passes : (set : CharSet) (b : ℕ) (t : Bool) → (b == 10) ≡ t
    → Passes set HeadPlace.Return b (if t then HeadStep.Pass HeadPlace.Line else line_step b)
return_passes set b true e = feed_begins set b (eq_of b 10 e)
return_passes set b false e = next_line_passes set b (b == 33) refl

comment_passes : (set : CharSet) (b : ℕ) (t : Bool) → is_line_end b ≡ t
    → Passes set HeadPlace.Comment b (if t then HeadStep.Stop else HeadStep.Pass HeadPlace.Comment)
comment_passes set b true e = end_begins set b (b == 10) refl e ∙ sym (comment_by set b true e)
comment_passes set b false e = comment_by set b false e

lone_sign_passes : (set : CharSet) (b : ℕ) (t : Bool) → is_line_end b ≡ t
    → Passes set HeadPlace.Sign b (if t then HeadStep.Stop else HeadStep.Pass HeadPlace.Comment)
lone_sign_passes set b true e = end_begins set b (b == 10) refl e ∙ sym (comment_by set b true e)
lone_sign_passes set b false e = comment_by set b false e

sign_passes : (set : CharSet) (b : ℕ) (t : Bool) → (b == 37) ≡ t
    → Passes set HeadPlace.Sign b (if t then HeadStep.Pass HeadPlace.Gap else comment_step b)
sign_passes set b true e = comment_by set b false (ap is_line_end (eq_of b 37 e))
sign_passes set b false e = lone_sign_passes set b (is_line_end b) refl

cut_is_no_end : (b : ℕ) (t : Bool) → (b == 32) ≡ t → is_cut b ≡ true → is_line_end b ≡ false
cut_is_no_end b true e cut = ap is_line_end (eq_of b 32 e)
cut_is_no_end b false e cut = ap is_line_end (eq_of b 9 (sym (ap (λ x. x || (b == 9)) e) ∙ cut))

gap_passes : (set : CharSet) (b : ℕ) (cut ret feed : Bool) → is_cut b ≡ cut → (b == 13) ≡ ret → (b == 10) ≡ feed
    → Passes set HeadPlace.Gap b (if cut then HeadStep.Pass HeadPlace.Gap else if ret then HeadStep.Pass HeadPlace.Return else
    if feed then HeadStep.Pass HeadPlace.Line else HeadStep.Keep)
gap_passes set b true ret feed e f g = comment_by set b false (cut_is_no_end b (b == 32) refl e)
gap_passes set b false true feed e f g = comment_by set b true (ap is_line_end (eq_of b 13 f))
gap_passes set b false false true e f g = comment_by set b true (ap is_line_end (eq_of b 10 g))
gap_passes set b false false false e f g = comment_by set b false (ap (λ x. x || (b == 13)) g ∙ f)

second : (x y : Bool) → (x || y) ≡ false → y ≡ false
second true y e = cc
second false y e = e

word_passes : (set : CharSet) (b : ℕ) (t : Bool) → (is_cut b || is_line_end b) ≡ t
    → Passes set HeadPlace.Word b (if t then HeadStep.Stop else HeadStep.Keep)
word_passes set b true e = refl
word_passes set b false e = comment_by set b false (second (is_cut b) (is_line_end b) e)

passes : (set : CharSet) (p : HeadPlace) (b : ℕ) → Passes set p b (head_step p b)
passes set HeadPlace.Line b = line_passes set b (b == 33) refl
passes set HeadPlace.Return b = return_passes set b (b == 10) refl
passes set HeadPlace.Sign b = sign_passes set b (b == 37) refl
passes set HeadPlace.Gap b = gap_passes set b (is_cut b) (b == 13) (b == 10) refl refl refl
passes set HeadPlace.Word b = word_passes set b (is_cut b || is_line_end b) refl
passes set HeadPlace.Comment b = comment_passes set b (is_line_end b) refl
passes set HeadPlace.Behind b = refl

-- the finding behind a byte that makes the step `x`
abbrev turned : CharSet → ℕ → ByteStep → ℕ → Sight → List ℕ → Found
turned set limit x b seen bs =
    let t = turn_by limit x b seen in
    elim t.0 [
      | Turn.On next ↦ find set limit next t.1 bs
      | Turn.Last e ↦ record { ending = e; seen = t.1; rest = bs }
      | Turn.Behind e ↦ record { ending = e; seen = t.1; rest = b ∷ bs }
    ]

moved : (set : CharSet) (limit : ℕ) (p next : HeadPlace) (lines : Lines) (b : ℕ) (bs : List ℕ)
    → step_of set (state_at p) b ≡ ByteStep.Skip (state_at next)
    → find set limit (state_at next) (begun (past b lines)) bs ≡ find set limit (state_at p) (begun lines) (b ∷ bs)
moved set limit p next lines b bs e = sym (ap (λ x. turned set limit x b (marked (state_at p) (begun lines)) bs) e
    ∙ free set limit next (marked (state_at p) (begun lines)).first (past b lines) bs)

stopped : (set : CharSet) (limit : ℕ) (p : HeadPlace) (lines : Lines) (b : ℕ) (bs : List ℕ)
    → step_of set (state_at (place_behind p)) b ≡ step_of set (state_at p) b
    → find set limit (state_at (place_behind p)) (begun lines) (b ∷ bs) ≡ find set limit (state_at p) (begun lines) (b ∷ bs)
stopped set limit HeadPlace.Sign lines b bs e = ap (λ x. turned set limit x b (begun lines) bs) e
stopped set limit HeadPlace.Gap lines b bs e = ap (λ x. turned set limit x b (begun lines) bs) e
stopped set limit HeadPlace.Comment lines b bs e = ap (λ x. turned set limit x b (begun lines) bs) e
stopped set limit p lines b bs e = refl

ended : (set : CharSet) (limit : ℕ) (p : HeadPlace) (lines : Lines)
    → find set limit (state_at (place_behind p)) (begun lines) [] ≡ find set limit (state_at p) (begun lines) []
ended set limit HeadPlace.Line lines = refl
ended set limit p lines = refl

abbrev token_behind : CharSet → ℕ → HeadFound → Found
token_behind set limit f = find set limit (state_at (place_behind f.place)) (begun f.lines) f.rest

by_step : (set : CharSet) (limit : ℕ) (s : HeadStep) (p : HeadPlace) (word : List ℕ) (lines : Lines) (b : ℕ) (bs : List ℕ)
    → Passes set p b s → ((q : HeadPlace) (w : List ℕ) → token_behind set limit (head_found q w (past b lines) bs)
    ≡ find set limit (state_at q) (begun (past b lines)) bs)
    → token_behind set limit (after_step s p word lines b bs) ≡ find set limit (state_at p) (begun lines) (b ∷ bs)
by_step set limit (HeadStep.Pass next) p word lines b bs e rec = rec next word ∙ moved set limit p next lines b bs e
by_step set limit HeadStep.Keep p word lines b bs e rec =
    rec HeadPlace.Word (with_head_byte b word) ∙ moved set limit p HeadPlace.Word lines b bs e
by_step set limit HeadStep.Stop p word lines b bs e rec = stopped set limit p lines b bs e

found_on : (set : CharSet) (limit : ℕ) (bytes : List ℕ) (p : HeadPlace) (word : List ℕ) (lines : Lines)
    → token_behind set limit (head_found p word lines bytes) ≡ find set limit (state_at p) (begun lines) bytes
found_on set limit [] p word lines = ended set limit p lines
found_on set limit (b ∷ bs) p word lines =
    by_step set limit (head_step p b) p word lines b bs (passes set p b) (λ q w. found_on set limit bs q w (past b lines))

pub heads_have_no_tokens : HeadsHaveNoTokens
heads_have_no_tokens set limit p lines bytes = found_on set limit bytes p [] lines

-- Lemmas about the whole head

-- behind a word, or behind the last, none has begun
goes_on_free : (b : Bool) → is_word (goes_on_at b) ≡ false
goes_on_free true = refl
goes_on_free false = refl

-- the finding behind the words of a head that goes on here with less than `n` bytes is the finding here
abbrev FindsSame : CharSet → ℕ → ℕ → Type 0
FindsSame set limit n = (p : HeadPlace) (lines : Lines) (bytes : List ℕ) → length bytes < n → is_word p ≡ false
    → find set limit State.Gap (begun (head_within n p lines bytes).lines) (head_within n p lines bytes).rest
    ≡ find set limit (state_at p) (begun lines) bytes

behind_next : (set : CharSet) (limit n : ℕ) → FindsSame set limit n → FindsSame set limit (suc n)
behind_next set limit n same p lines bytes less none = by r.is_word refl where
  r : HeadRead
  r = next_head_word p lines bytes

  goes_on : r.place ≡ goes_on_at r.is_word
  goes_on = goes_on_is (head_found p [] lines bytes).place

  tail : WholeHead
  tail = head_within n r.place r.lines r.rest

  chosen : Bool → WholeHead
  chosen b = cond b (with_head_word r.word tail) (record { words = []; lines = r.lines; rest = r.rest })

  by : (b : Bool) → r.is_word ≡ b → find set limit State.Gap (begun (chosen b).lines) (chosen b).rest
      ≡ find set limit (state_at p) (begun lines) bytes
  by true e = same r.place r.lines r.rest (omega (arith, less, words_take p [] lines bytes none e))
      (ap is_word goes_on ∙ goes_on_free r.is_word) ∙ heads_have_no_tokens set limit p lines bytes
  by false e = sym (ap (λ (q : HeadPlace). find set limit (state_at q) (begun r.lines) r.rest) (goes_on ∙ ap goes_on_at e))
      ∙ heads_have_no_tokens set limit p lines bytes

within_on : (set : CharSet) (limit n : ℕ) → FindsSame set limit n
within_on set limit zero p lines bytes less none = absurd (omega (arith, less))
within_on set limit (suc n) p lines bytes less none = behind_next set limit n (within_on set limit n) p lines bytes less none

pub whole_heads_have_no_tokens : WholeHeadsHaveNoTokens
whole_heads_have_no_tokens set limit lines bytes = within_on set limit (suc (length bytes)) HeadPlace.Line lines bytes (omega arith) refl
