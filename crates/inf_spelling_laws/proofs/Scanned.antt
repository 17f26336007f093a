-- The token that the scanner reads behind a gap: whether it is a number, and which byte fits nothing.
use Rattle.std.proofs.Common.{◌≡◌, ◌⊎◌, inl, inr, ℕ, ◌<◌, ◌==◌, ◌&&◌, ◌||◌, List, [], ◌∷◌, ◌++◌, length, Bool, true, false, not, cond}
use Rattle.std.proofs.Common.{Option, Some, None, refl, sym, ap, ◌∙◌, arith, is_none}
use Rattle.std.proofs.lemmas.Bool.{and_from, and_parts, cond-false, cond-true, cond_both, eqb-true, not_from_false, or_from, or_parts}
use Rattle.std.proofs.Common.{subst, Result, Ok, Err}
use Rattle.std.specs.List.{list_all, list_any}
use Rattle.inf_characters.specs.{Reading.text_of, declared.reading.Mode.Mode, declared.reading.TextFault.TextFault}
use Rattle.inf_characters.specs.declared.texts.TextItem.{TextItem}
use Rattle.inf_scanner.specs.{Kept.Kept, Kept.nothing_kept, Kinds.kind_of, Kinds.read_by, declared.tokens.BadToken.BadToken}
use Rattle.inf_scanner.specs.declared.tokens.TokenKind.{TokenKind}
use Rattle.inf_characters.specs.{Characters.is_line_end, Characters.is_white, declared.characters.CharSet.CharSet}
use Rattle.inf_scanner.specs.{Marks.first_mark, Marks.longer_mark, Marks.mark_bytes, declared.scanner.ByteStep.ByteStep}
use Rattle.inf_scanner.specs.{declared.scanner.Ending.Ending, declared.scanner.State.State, declared.tokens.Mark.Mark}
use Rattle.inf_scanner.specs.Scanning.{Sight, begin, begins_number, find, is_run_byte, kept, marked, passed}
use Rattle.inf_scanner.specs.SpellingLaws.{Spans, are_gaps, begins_gap, begins_with, ends_at, is_in_quote, is_nothing, kept_of, most_of, no_longer}
use Rattle.inf_scanner.proofs.{Quoted.after, Tails.kept_nothing}
use Rattle.inf_spelling_laws.specs.Source.{End, IsToken, OpenQuote, OpenText, Quote, Sign, Stray, Text, Token, Word, begins_nothing, ends_line}
use Rattle.inf_spelling_laws.specs.Source.{ends_with_at, in_word, is_decimal, is_empty, is_gap, is_longest, is_quoted, is_space, mark_of, starts}
use Rattle.inf_spelling_laws.specs.Source.{starts_gap}
use Rattle.inf_spelling_laws.specs.Spelling.{bytes_of, ending_of, is_number}
use Rattle.inf_spelling_laws.proofs.{Cutting.Cut, Cutting.cut, Cutting.more, Cutting.word_cut, Cutting.word_is, Marks.longer_is, Marks.short_is, Marks.spelled_mark}

-- The tests of the description are those of the scanner.

space_is : (set : CharSet) (b : ℕ) → is_space set b ≡ is_white set b
space_is CharSet.Ascii b = refl
space_is CharSet.Latin1 b = refl

starts_gap_is : (set : CharSet) (b : ℕ) → starts_gap set b ≡ begins_gap set b
starts_gap_is set b = ap (λ t. t || b == 33) (space_is set b)

pub starts_is : (set : CharSet) (bytes : List ℕ) → starts (starts_gap set) bytes ≡ begins_with (begins_gap set) bytes
starts_is set [] = refl
starts_is set (b ∷ bytes) = starts_gap_is set b

empty_is : (bytes : List ℕ) → is_empty bytes ≡ is_nothing bytes
empty_is [] = refl
empty_is (b ∷ bytes) = refl

word_stops : (bytes : List ℕ) → starts in_word bytes ≡ begins_with is_run_byte bytes
word_stops [] = refl
word_stops (b ∷ bytes) = refl

line_stops : (bytes : List ℕ) → (is_empty bytes || starts ends_line bytes) ≡ (is_nothing bytes || begins_with is_line_end bytes)
line_stops [] = refl
line_stops (b ∷ bytes) = refl

pub gap_is : (set : CharSet) (c : Bool) (gap behind : List ℕ) → is_gap set c gap behind ≡ are_gaps set c gap behind
gap_is set c [] behind = ap (λ t. not c || t) (empty_is behind)
gap_is set true (b ∷ gap) behind = gap_is set (not (ends_line b)) gap behind
gap_is set false (b ∷ gap) behind = ap (λ t. cond (b == 33) t (is_space set b && is_gap set false gap behind)) (gap_is set true gap behind)
    ∙ ap (λ t. cond (b == 33) (are_gaps set true gap behind) (t && is_gap set false gap behind)) (space_is set b)
    ∙ ap (λ t. cond (b == 33) (are_gaps set true gap behind) (is_white set b && t)) (gap_is set false gap behind)

quoted_is : (c : Bool) (bytes : List ℕ) → is_quoted c bytes ≡ is_in_quote c bytes
quoted_is c [] = refl
quoted_is c (b ∷ bytes) = ap (λ t. (not (ends_line b) && not (b == 39 && not c)) && t) (quoted_is (b == 64) bytes)

at_is : (c : Bool) (bytes : List ℕ) → ends_with_at c bytes ≡ ends_at c bytes
at_is c [] = refl
at_is c (b ∷ bytes) = at_is (b == 64) bytes

-- A gap leaves the scanner as it was, but for its lines.

pub record Skips (set : CharSet) (limit : ℕ) (s : State) (seen : Sight) (bytes x : List ℕ) : Type 0 where
  pub later : Sight
  pub same : find set limit s seen bytes ≡ find set limit State.Gap later x

abbrev gap_state : Bool → State
gap_state true = State.Comment
gap_state false = State.Gap

state_is : (e : Bool) → cond e State.Gap State.Comment ≡ gap_state (not e)
state_is true = refl
state_is false = refl

begins_comment : (set : CharSet) → begin set 33 ≡ ByteStep.Skip State.Comment
begins_comment CharSet.Ascii = refl
begins_comment CharSet.Latin1 = refl

pub skip : (set : CharSet) (limit : ℕ) (c : Bool) (gap x : List ℕ) (seen : Sight) → is_gap set c gap x ≡ true
    → Skips set limit (gap_state c) seen (gap ++ x) x
skip set limit false [] x seen fits = record { later = seen; same = refl }
skip set limit true [] [] seen fits = record { later = seen; same = refl }
skip set limit true [] (b ∷ x) seen fits = absurd (cc fits)
skip set limit true (b ∷ gap) x seen fits =
    let m = passed b (marked State.Comment seen) in
    let r = skip set limit (not (ends_line b)) gap x m fits in
    record { later = r.later; same = ap (λ s. find set limit s m (gap ++ x)) (state_is (ends_line b)) ∙ r.same }
skip set limit false (b ∷ gap) x seen fits =
    by (b == 33) refl (λ e. skip set limit true gap x m e) (λ e. skip set limit false gap x m e) fits
  where
    m : Sight
    m = passed b (marked State.Gap seen)

    by : (t : Bool) → (b == 33) ≡ t → (is_gap set true gap x ≡ true → Skips set limit State.Comment m (gap ++ x) x)
        → (is_gap set false gap x ≡ true → Skips set limit State.Gap m (gap ++ x) x)
        → cond t (is_gap set true gap x) (is_space set b && is_gap set false gap x) ≡ true
        → Skips set limit State.Gap seen (b ∷ (gap ++ x)) x
    by true h comment other e =
        let r = comment e in
        let step : begin set b ≡ ByteStep.Skip State.Comment = ap (begin set) (eqb-true b 33 h) ∙ begins_comment set in
        record { later = r.later; same = ap (λ s. after set limit s b (marked State.Gap seen) (gap ++ x)) step ∙ r.same }
    by false h comment other e =
        let parts = and_parts (is_space set b) (is_gap set false gap x) e in
        let r = other parts.1 in
        let step : begin set b ≡ ByteStep.Skip State.Gap =
        cond-true (is_white set b) (ByteStep.Skip State.Gap) _ (sym (space_is set b) ∙ parts.0) in
        record { later = r.later; same = ap (λ s. after set limit s b (marked State.Gap seen) (gap ++ x)) step ∙ r.same }

-- Lemmas about words

or_none : (t : Bool) → t ≡ (t || false)
or_none true = refl
or_none false = refl

or_grouped : (a b c : Bool) → ((a || b) || c) ≡ (a || (b || c))
or_grouped true b c = refl
or_grouped false b c = refl

abbrev has_dollar : List ℕ → Bool
has_dollar bytes = list_any (λ b. b == 36) bytes

run_find : (set : CharSet) (limit : ℕ) (n : Bool) (bytes : List ℕ) (seen : Sight)
    → (find set limit (State.Run n) seen bytes).ending ≡ Ending.Run (n || has_dollar (word_cut bytes).taken)
run_find set limit n [] seen = ap Ending.Run (or_none n)
run_find set limit n (b ∷ bytes) seen = by (run_find set limit (n || b == 36) bytes (kept 32 b seen)) (in_word b)
  where
    by : (find set limit (State.Run (n || b == 36)) (kept 32 b seen) bytes).ending
        ≡ Ending.Run ((n || b == 36) || has_dollar (word_cut bytes).taken)
        → (t : Bool)
        → (after set limit (cond t (ByteStep.Keep (State.Run (n || b == 36))) (ByteStep.Behind (Ending.Run n))) b seen bytes).ending
        ≡ Ending.Run (n || has_dollar (cond {A = Cut} t (more b (word_cut bytes)) (cut true [] (b ∷ bytes))).taken)
    by rest true = rest ∙ ap Ending.Run (or_grouped n (b == 36) (has_dollar (word_cut bytes).taken))
    by rest false = ap Ending.Run (or_none n)

module _ (set : CharSet) (limit b : ℕ) (bytes : List ℕ) (seen : Sight) (stops : starts_gap set b ≡ false) where
  not_white : is_white set b ≡ false
  not_white = sym (space_is set b) ∙ (or_parts (is_space set b) (b == 33) stops).0

  first_run : in_word b ≡ true
      → (find set limit State.Gap seen (b ∷ bytes)).ending ≡ Ending.Run (begins_number b || has_dollar (word_cut bytes).taken)
  first_run word =
      let step : begin set b ≡ ByteStep.Keep (State.Run (begins_number b)) =
      cond-false (is_white set b) (ByteStep.Skip State.Gap) _ not_white
      ∙ cond-true (is_run_byte b) (ByteStep.Keep (State.Run (begins_number b))) _ word in
      ap (λ s. (after set limit s b (marked State.Gap seen) bytes).ending) step
      ∙ run_find set limit (begins_number b) bytes (kept 32 b (marked State.Gap seen))

-- Lemmas about bytes that fit nothing

abbrev pub is_unfit : Ending → Bool
is_unfit Ending.Unfit = true
is_unfit _ = false

text_fits : (set : CharSet) (limit : ℕ) (bytes : List ℕ) (seen : Sight) → is_unfit (find set limit State.Text seen bytes).ending ≡ false
text_fits set limit [] seen = refl
text_fits set limit (b ∷ bytes) seen = cond_both (b == 34) (ByteStep.Close Ending.Text) (ByteStep.Keep State.Text)
    (λ s. is_unfit (after set limit s b seen bytes).ending ≡ false)
    (λ _. refl) (λ _. text_fits set limit bytes (kept limit b seen))

quote_fits : (set : CharSet) (limit : ℕ) (bytes : List ℕ) (a : Bool) (seen : Sight)
    → is_unfit (find set limit (State.Quote a) seen bytes).ending ≡ false
quote_fits set limit [] a seen = refl
quote_fits set limit (b ∷ bytes) a seen = cond_both (is_line_end b) (ByteStep.Behind Ending.Unclosed)
    (cond (b == 39 && not a) (ByteStep.Close Ending.Quote) (ByteStep.Keep (State.Quote (b == 64))))
    (λ s. is_unfit (after set limit s b seen bytes).ending ≡ false)
    (λ _. refl)
    (λ _. cond_both (b == 39 && not a) (ByteStep.Close Ending.Quote) (ByteStep.Keep (State.Quote (b == 64)))
    (λ s. is_unfit (after set limit s b seen bytes).ending ≡ false)
    (λ _. refl) (λ _. quote_fits set limit bytes (b == 64) (kept limit b seen)))

mark_fits : (set : CharSet) (limit : ℕ) (m : Mark) (bytes : List ℕ) (seen : Sight)
    → is_unfit (find set limit (State.Mark m) seen bytes).ending ≡ false
mark_fits set limit m [] seen = refl
mark_fits set limit m (b ∷ bytes) seen = by (λ l. mark_fits set limit l bytes (kept 32 b seen)) (longer_mark m b)
  where
    by : ((l : Mark) → is_unfit (find set limit (State.Mark l) (kept 32 b seen) bytes).ending ≡ false) → (o : Option Mark)
        → is_unfit (after set limit (elim o [
          | Some longer ↦ ByteStep.Keep (State.Mark longer)
          | None ↦ ByteStep.Behind (Ending.Mark m)
        ]) b seen bytes).ending ≡ false
    by rest (Some longer) = rest longer
    by rest None = refl

module _ (set : CharSet) (limit b : ℕ) (bytes : List ℕ) (seen : Sight) (stops : starts_gap set b ≡ false) where
  abbrev Nothing : ByteStep → Type 0
  Nothing s = is_unfit (after set limit s b (marked State.Gap seen) bytes).ending ≡ true → begins_nothing b ≡ true

  fits_not : {A : Type 0} (e : Bool) → e ≡ false → e ≡ true → A
  fits_not e f g = absurd (cc (sym f ∙ g))

  last : in_word b ≡ false → (b == 34) ≡ false → (b == 39) ≡ false → (o : Option Mark) → first_mark b ≡ o
      → Nothing (elim o [ Some m ↦ ByteStep.Keep (State.Mark m) | None ↦ ByteStep.Close Ending.Unfit ])
  last word text quote (Some m) e h = fits_not (is_unfit (find set limit (State.Mark m) (kept 32 b (marked State.Gap seen)) bytes).ending)
      (mark_fits set limit m bytes (kept 32 b (marked State.Gap seen))) h
  last word text quote None e h = and_from (not (in_word b || b == 34 || b == 39)) (is_none (mark_of (b ∷ [])))
      (not_from_false (in_word b || b == 34 || b == 39)
      (or_from (in_word b || b == 34) (b == 39) (or_from (in_word b) (b == 34) word text) quote))
      (ap is_none (short_is b ∙ e))

  first_unfit : is_unfit (find set limit State.Gap seen (b ∷ bytes)).ending ≡ true → begins_nothing b ≡ true
  first_unfit =
      let tests = or_parts (is_space set b) (b == 33) stops in
      let m = marked State.Gap seen in
      cond_both (is_white set b) _ _ Nothing (λ w. fits_not (is_white set b) (sym (space_is set b) ∙ tests.0) w)
      (λ _. cond_both (is_run_byte b) _ _ Nothing
      (λ r h. absurd (cc (sym (ap is_unfit (run_find set limit (begins_number b) bytes (kept 32 b m))) ∙ h)))
      (λ word. cond_both (b == 33) _ _ Nothing (λ c. fits_not (b == 33) tests.1 c)
      (λ _. cond_both (b == 34) _ _ Nothing
      (λ _ h. fits_not (is_unfit (find set limit State.Text (passed b m) bytes).ending) (text_fits set limit bytes (passed b m)) h)
      (λ text. cond_both (b == 39) _ _ Nothing
      (λ _ h. fits_not (is_unfit (find set limit (State.Quote false) (passed b m) bytes).ending) (quote_fits set limit bytes false (passed b m)) h)
      (λ quote. last word text quote (first_mark b) refl)))))

-- A word is a number as the description has it.

run_ending : (set : CharSet) (limit : ℕ) (n : Bool) (bytes span behind : List ℕ) (seen : Sight)
    → Spans set (Ending.Run n) bytes span behind → starts (starts_gap set) (span ++ behind) ≡ false
    → (find set limit State.Gap seen (span ++ behind)).ending ≡ Ending.Run (is_number bytes)
run_ending set limit n [] span behind seen s stops = absurd (omega (arith, s.1))
run_ending set limit n (b ∷ bytes) span behind seen s stops =
    let parts = and_parts (in_word b) (list_all in_word bytes) s.2 in
    let taken : (word_cut (bytes ++ behind)).taken ≡ bytes =
    ap (λ (c : Cut). c.taken) (word_is bytes behind parts.1 (word_stops behind ∙ s.3)) in
    ap (λ x. (find set limit State.Gap seen (x ++ behind)).ending) s.0
    ∙ first_run set limit b (bytes ++ behind) seen (ap (λ x. starts (starts_gap set) (x ++ behind)) (sym s.0) ∙ stops) parts.0
    ∙ ap (λ l. Ending.Run (begins_number b || has_dollar l)) taken
    ∙ ap Ending.Run (or_grouped (is_decimal b) (b == 36) (has_dollar bytes))

-- Nothing else has the kind of a byte that fits nothing.

text_told : (r : Result (List TextItem) TextFault) → read_by (λ _. TokenKind.Text) r ≡ TokenKind.Bad BadToken.Unfit
    → is_unfit Ending.Text ≡ true
text_told (Ok items) e = absurd (cc e)
text_told (Err TextFault.UnknownEscape) e = absurd (cc e)
text_told (Err TextFault.NoZscii) e = absurd (cc e)
text_told (Err TextFault.BadCode) e = absurd (cc e)
text_told (Err TextFault.Memory) e = absurd (cc e)

unfit_told : (set : CharSet) (e : Ending) → kind_of set e nothing_kept ≡ TokenKind.Bad BadToken.Unfit → is_unfit e ≡ true
unfit_told set (Ending.Run true) e = absurd (cc e)
unfit_told set (Ending.Run false) e = absurd (cc e)
unfit_told set (Ending.Mark m) e = absurd (cc e)
unfit_told set Ending.Text e = text_told (text_of set Mode.Text []) e
unfit_told set Ending.Quote e = absurd (cc e)
unfit_told set Ending.Unclosed e = absurd (cc e)
unfit_told set Ending.Unfit e = refl
unfit_told set Ending.End e = absurd (cc e)

unfit_is : (set : CharSet) (limit b : ℕ) (span behind : List ℕ) (seen : Sight) → starts (starts_gap set) (span ++ behind) ≡ false
    → is_unfit (find set limit State.Gap seen (span ++ behind)).ending ≡ true → span ≡ b ∷ [] → begins_nothing b ≡ true
unfit_is set limit b span behind seen stops e same =
    first_unfit set limit b behind seen (ap (λ x. starts (starts_gap set) (x ++ behind)) (sym same) ∙ stops)
    (ap (λ x. is_unfit (find set limit State.Gap seen (x ++ behind)).ending) (sym same) ∙ e)

-- The token that was read, by its kind and the bytes that are kept

pub record Spelt (set : CharSet) (limit : ℕ) (ending : Ending) (bytes span behind : List ℕ) (kind : TokenKind) (kept : Kept) : Type 0 where
  pub token : Token
  pub room : most_of limit ending ≡ most_of limit (ending_of token)
  pub told : kind ≡ kind_of set (ending_of token) kept
  pub same : bytes_of span token ≡ bytes
  pub is : IsToken token span behind

some_byte : (bytes : List ℕ) → 0 < length bytes → is_empty bytes ≡ false
some_byte [] more = absurd (omega arith)
some_byte (b ∷ bytes) more = refl

longest : (m : Mark) (behind : List ℕ) → no_longer behind (Ending.Mark m) → is_longest (mark_bytes m) behind ≡ true
longest m [] h = refl
longest m (b ∷ behind) h = ap is_none (longer_is m b ∙ h)

module _ (set : CharSet) (limit : ℕ) (bytes span behind : List ℕ) (kind : TokenKind) (k : Kept) where
  abbrev SpeltAs : Ending → Type 0
  SpeltAs e = Spelt set limit e bytes span behind kind k

  unclosed : kind ≡ kind_of set Ending.Unclosed k → ((span ≡ 34 ∷ bytes) × (list_all (λ b. not (b == 34)) bytes ≡ true) × (behind ≡ []))
      ⊎ ((span ≡ 39 ∷ bytes) × (is_in_quote false bytes ≡ true) × (is_nothing behind || begins_with is_line_end behind ≡ true))
      → SpeltAs Ending.Unclosed
  unclosed told (inl h) = record { token = OpenText bytes; room = refl; told = told; same = refl; is = h }
  unclosed told (inr h) = record {
    token = OpenQuote bytes;
    room = refl;
    told = told;
    same = refl;
    is = (h.0, quoted_is false bytes ∙ h.1, line_stops behind ∙ h.2);
  }

  stray : kind ≡ kind_of set Ending.Unfit k → (s : List ℕ) → span ≡ s → length s ≡ 1 → bytes ≡ []
      → ((b : ℕ) → span ≡ b ∷ [] → begins_nothing b ≡ true) → SpeltAs Ending.Unfit
  stray told [] same one none fits = absurd (omega (arith, one))
  stray told (b ∷ []) same one none fits =
      record { token = Stray b; room = refl; told = told; same = sym none; is = (same, fits b same) }
  stray told (b ∷ c ∷ s) same one none fits = absurd (omega (arith, one))

  token_of : (e : Ending) → kind ≡ kind_of set e k → Spans set e bytes span behind
      → ((n : Bool) → e ≡ Ending.Run n → kind ≡ kind_of set (Ending.Run (is_number bytes)) k)
      → (e ≡ Ending.Unfit → (b : ℕ) → span ≡ b ∷ [] → begins_nothing b ≡ true) → SpeltAs e
  token_of (Ending.Run n) told s number unfit = record {
    token = Word bytes;
    room = refl;
    told = number n refl;
    same = refl;
    is = (s.0, some_byte bytes s.1, s.2, word_stops behind ∙ s.3);
  }
  token_of (Ending.Mark m) told s number unfit =
      let spelled : span ≡ mark_bytes m = s.0 ∙ s.1 in
      record {
        token = Sign m;
        room = refl;
        told = told;
        same = s.0;
        is = (ap mark_of spelled ∙ spelled_mark m, ap (λ x. is_longest x behind) spelled ∙ longest m behind s.2);
      }
  token_of Ending.Text told s number unfit = record { token = Text bytes; room = refl; told = told; same = refl; is = s }
  token_of Ending.Quote told s number unfit = record {
    token = Quote bytes;
    room = refl;
    told = told;
    same = refl;
    is = (s.0, quoted_is false bytes ∙ s.1, at_is false bytes ∙ s.2);
  }
  token_of Ending.Unclosed told s number unfit = unclosed told s
  token_of Ending.Unfit told s number unfit = stray told span refl s.0 s.1 (unfit refl)
  token_of Ending.End told s number unfit =
      record { token = End; room = refl; told = told; same = sym s.1; is = (s.0, s.2) }

run_told : (set : CharSet) (limit : ℕ) (e : Ending) (n : Bool) (bytes span behind : List ℕ) (seen : Sight)
    → Spans set e bytes span behind → starts (starts_gap set) (span ++ behind) ≡ false → e ≡ Ending.Run n
    → (find set limit State.Gap seen (span ++ behind)).ending ≡ Ending.Run (is_number bytes)
run_told set limit e n bytes span behind seen s stops same =
    run_ending set limit n bytes span behind seen (subst (λ e. Spans set e bytes span behind) same s) stops

none_kept : (set : CharSet) (limit : ℕ) (e : Ending) (bytes span behind : List ℕ) → Spans set e bytes span behind → e ≡ Ending.Unfit
    → kept_of (most_of limit e) bytes ≡ nothing_kept
none_kept set limit e bytes span behind s same =
    let t : Spans set Ending.Unfit bytes span behind = subst (λ e. Spans set e bytes span behind) same s in
    ap (λ e. kept_of (most_of limit e) bytes) same ∙ ap (kept_of 32) t.1 ∙ sym (kept_nothing 32)

-- the token that the scanner read, behind its gap
pub read_token : (set : CharSet) (limit : ℕ) (e : Ending) (bytes span behind : List ℕ) (kind : TokenKind) (k : Kept) (seen : Sight)
    → kind ≡ kind_of set e k → k ≡ kept_of (most_of limit e) bytes → Spans set e bytes span behind
    → starts (starts_gap set) (span ++ behind) ≡ false
    → kind ≡ kind_of set (find set limit State.Gap seen (span ++ behind)).ending k → Spelt set limit e bytes span behind kind k
read_token set limit e bytes span behind kind k seen told keeps s stops found =
    let ending = (find set limit State.Gap seen (span ++ behind)).ending in
    token_of set limit bytes span behind kind k e told s
    (λ n same. found ∙ ap (λ x. kind_of set x k) (run_told set limit e n bytes span behind seen s stops same))
    (λ same b one.
    let none : k ≡ nothing_kept = keeps ∙ none_kept set limit e bytes span behind s same in
    unfit_is set limit b span behind seen stops
    (unfit_told set ending (ap (kind_of set ending) (sym none) ∙ sym found ∙ told ∙ ap (λ x. kind_of set x k) same)) one)
