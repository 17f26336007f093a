-- Each source is its gaps and the spans of its tokens; the tokens do not depend on how the source is given.
use Rattle.std.proofs.Common.{◌≡◌, ◌⊎◌, inl, inr, ℕ, suc, zero, ◌+◌, ◌<◌, ◌≤◌, List, [], ◌∷◌, ◌++◌, length, cond, not, ◌||◌, ◌&&◌, ◌==◌}
use Rattle.std.proofs.Common.{Bool, true, false, Option, Some, None, refl, sym, ap, subst, ◌∙◌, arith, length-append}
use Rattle.std.proofs.lemmas.Bool.{and_parts, and_from, cond-true, cond-false, cond_both, eqb-true, ne_eqb, or_from, or_left, or_right}
use Rattle.std.proofs.lemmas.List.{append_cancel_right}
use Rattle.inf_characters.specs.{Characters.is_line_end, Characters.is_white, declared.characters.CharSet.CharSet}
use Rattle.inf_scanner.proofs.Quoted.{after}
use Rattle.inf_scanner.proofs.Tails.{Tail, first_bytes, kept_more, kept_nothing, mark_tail, quote_tail, run_tail, text_tail}
use Rattle.inf_scanner.specs.{Kept.nothing_kept, Kept.with_byte, Lines.first_line, Lines.past, Marks.first_mark, Tokens.Read}
use Rattle.inf_scanner.specs.{Tokens.next_token, declared.lines.Lines.Lines, declared.scanner.ByteStep.ByteStep}
use Rattle.inf_scanner.specs.{declared.scanner.Ending.Ending, declared.scanner.State.State, declared.tokens.Mark.Mark}
use Rattle.inf_scanner.specs.Scanning.{Sight, Found, is_run_byte, begins_number, begun, find, kept, marked, passed}
use Rattle.inf_scanner.specs.SpellingLaws.{AreSpelled, IsSpelled, LinesAreCounted, Piece, SourcesAreSpelledOnce, Spans, begins_gap}
use Rattle.inf_scanner.specs.SpellingLaws.{begins_with, are_gaps, is_nothing, joined, kept_of, lines_ended, most_of, past_all}

-- Lemmas that lead from a gap to the end of the token behind it

record Gapped (set : CharSet) (limit : ℕ) (f : Found) (in_comment : Bool) (bs : List ℕ) (lines : Lines) : Type 0 where
  gap : List ℕ
  span : List ℕ
  bytes : List ℕ
  whole : bs ≡ gap ++ (span ++ f.rest)
  fits : are_gaps set in_comment gap (span ++ f.rest) ≡ true
  spans : Spans set f.ending bytes span f.rest
  keeps : f.seen.kept ≡ kept_of (most_of limit f.ending) bytes
  begins : f.seen.first ≡ (past_all gap lines).line
  passes : f.seen.lines ≡ past_all span (past_all gap lines)
  stops : begins_with (begins_gap set) (span ++ f.rest) ≡ false
  some : (f.rest ≡ []) ⊎ (0 < length span)

-- the gap before a token that begins here is empty
here : (set : CharSet) (limit : ℕ) (f : Found) (b : ℕ) (front bs : List ℕ) (lines : Lines) → begins_gap set b ≡ false → front ≡ b ∷ [] →
    Tail set limit f front bs (past b lines) lines.line → Gapped set limit f false (b ∷ bs) lines
here set limit f b front bs lines starts is t =
    let span : t.span ≡ b ∷ t.more = t.joins ∙ ap (λ bs. bs ++ t.more) is in
    record {
      gap = [];
      span = t.span;
      bytes = t.bytes;
      whole = ap (λ r. b ∷ r) t.whole ∙ ap (λ s. s ++ f.rest) (sym span);
      fits = refl;
      spans = t.spans;
      keeps = t.keeps;
      begins = t.begins;
      passes = t.passes ∙ ap (λ s. past_all s lines) (sym span);
      stops = ap (λ s. begins_with (begins_gap set) (s ++ f.rest)) span ∙ starts;
      some = inr (omega (arith, ap length span));
    }

-- a gap with one more byte in front
wider : (set : CharSet) (limit : ℕ) (f : Found) (c d : Bool) (b : ℕ) (bs : List ℕ) (lines : Lines) →
    ((gap behind : List ℕ) → are_gaps set c (b ∷ gap) behind ≡ are_gaps set d gap behind) → Gapped set limit f d bs (past b lines) →
    Gapped set limit f c (b ∷ bs) lines
wider set limit f c d b bs lines same g = record {
  gap = b ∷ g.gap;
  span = g.span;
  bytes = g.bytes;
  whole = ap (λ r. b ∷ r) g.whole;
  fits = same g.gap (g.span ++ f.rest) ∙ g.fits;
  spans = g.spans;
  keeps = g.keeps;
  begins = g.begins;
  passes = g.passes;
  stops = g.stops;
  some = g.some;
}

white_is_no_mark : (set : CharSet) (b : ℕ) → is_white set b ≡ true → b == 33 ≡ false
white_is_no_mark CharSet.Ascii b white = ne_eqb b 33 (λ e. let f : false ≡ true = ap (is_white CharSet.Ascii) (sym e) ∙ white in cc)
white_is_no_mark CharSet.Latin1 b white = ne_eqb b 33 (λ e. let f : false ≡ true = ap (is_white CharSet.Latin1) (sym e) ∙ white in cc)

run_is_no_mark : (b : ℕ) → is_run_byte b ≡ true → b == 33 ≡ false
run_is_no_mark b run = ne_eqb b 33 (λ e. let f : false ≡ true = ap is_run_byte (sym e) ∙ run in cc)

white_gap : (set : CharSet) (b : ℕ) (gap behind : List ℕ) → is_white set b ≡ true →
    are_gaps set false (b ∷ gap) behind ≡ are_gaps set false gap behind
white_gap set b gap behind white =
    cond-false (b == 33) (are_gaps set true gap behind) (is_white set b && are_gaps set false gap behind) (white_is_no_mark set b white)
    ∙ ap (λ w. w && are_gaps set false gap behind) white

comment_gap : (set : CharSet) (b : ℕ) (gap behind : List ℕ) → b == 33 ≡ true →
    are_gaps set false (b ∷ gap) behind ≡ are_gaps set true gap behind
comment_gap set b gap behind is = cond-true (b == 33) (are_gaps set true gap behind) (is_white set b && are_gaps set false gap behind) is

abbrev gap_state : Bool → State
gap_state true = State.Comment
gap_state false = State.Gap

abbrev GapSpelled : CharSet → ℕ → List ℕ → Type 0
GapSpelled set limit bs =
    (c : Bool) (seen : Sight) → seen.kept ≡ nothing_kept → Gapped set limit (find set limit (gap_state c) seen bs) c bs seen.lines

at_mark : (set : CharSet) (limit : ℕ) (b : ℕ) (bs : List ℕ) (seen : Sight) → begins_gap set b ≡ false → seen.kept ≡ nothing_kept →
    (o : Option Mark) → first_mark b ≡ o
    → Gapped set limit (after set limit (elim o [ Some m ↦ ByteStep.Keep (State.Mark m) | None ↦ ByteStep.Close Ending.Unfit ]) b
    (marked State.Gap seen) bs) false (b ∷ bs) seen.lines
at_mark set limit b bs seen starts k (Some m) e = here set limit _ b (b ∷ []) bs seen.lines starts refl
    (mark_tail set limit bs m (kept 32 b (marked State.Gap seen)) (b ∷ []) (sym (first_bytes b m e))
    (ap (with_byte 32 b) k ∙ ap (with_byte 32 b) (kept_nothing 32) ∙ kept_more 32 b []))
at_mark set limit b bs seen starts k None e = record {
  gap = [];
  span = b ∷ [];
  bytes = [];
  whole = refl;
  fits = refl;
  spans = (refl, refl);
  keeps = k ∙ kept_nothing 32;
  begins = refl;
  passes = refl;
  stops = starts;
  some = inr (omega arith);
}

in_gap : (set : CharSet) (limit : ℕ) (b : ℕ) (bs : List ℕ) → GapSpelled set limit bs → (seen : Sight) → seen.kept ≡ nothing_kept
    → Gapped set limit (find set limit State.Gap seen (b ∷ bs)) false (b ∷ bs) seen.lines
in_gap set limit b bs later seen k =
    let now : Sight = marked State.Gap seen in
    let P : ByteStep → Type 0 = λ s. Gapped set limit (after set limit s b now bs) false (b ∷ bs) seen.lines in
    cond_both (is_white set b) _ _ P
    (λ white. wider set limit _ false false b bs seen.lines (λ gap behind. white_gap set b gap behind white) (later false (passed b now) k))
    (λ no_white. cond_both (is_run_byte b) _ _ P
    (λ run. here set limit _ b (b ∷ []) bs seen.lines (or_from (is_white set b) (b == 33) no_white (run_is_no_mark b run)) refl
    (run_tail set limit bs (begins_number b) (kept 32 b now) (b ∷ []) (omega arith) (and_from (is_run_byte b) true run refl)
    (ap (with_byte 32 b) k ∙ ap (with_byte 32 b) (kept_nothing 32) ∙ kept_more 32 b []))) (λ _. cond_both (b == 33) _ _ P
    (λ comment. wider set limit _ false true b bs seen.lines (λ gap behind. comment_gap set b gap behind comment)
    (later true (passed b now) k)) (λ no_comment. cond_both (b == 34) _ _ P
    (λ quote. here set limit _ b (34 ∷ []) bs seen.lines (or_from (is_white set b) (b == 33) no_white no_comment)
    (ap (λ q. q ∷ []) (sym (eqb-true b 34 quote))) (text_tail set limit bs (passed b now) [] refl (k ∙ kept_nothing limit)))
    (λ _. cond_both (b == 39) _ _ P
    (λ quote. here set limit _ b (39 ∷ []) bs seen.lines (or_from (is_white set b) (b == 33) no_white no_comment)
    (ap (λ q. q ∷ []) (sym (eqb-true b 39 quote))) (quote_tail set limit bs false (passed b now) [] refl refl (k ∙ kept_nothing limit)))
    (λ _. at_mark set limit b bs seen (or_from (is_white set b) (b == 33) no_white no_comment) k (first_mark b) refl)))))

in_comment : (set : CharSet) (limit : ℕ) (b : ℕ) (bs : List ℕ) → GapSpelled set limit bs → (seen : Sight) → seen.kept ≡ nothing_kept
    → Gapped set limit (find set limit State.Comment seen (b ∷ bs)) true (b ∷ bs) seen.lines
in_comment set limit b bs later seen k =
    let now : Sight = marked State.Comment seen in
    cond_both (is_line_end b) State.Gap State.Comment (λ s. Gapped set limit (find set limit s (passed b now) bs) true (b ∷ bs) seen.lines)
    (λ yes. wider set limit _ true false b bs seen.lines (λ gap behind. ap (λ c. are_gaps set (not c) gap behind) yes)
    (later false (passed b now) k))
    (λ no. wider set limit _ true true b bs seen.lines (λ gap behind. ap (λ c. are_gaps set (not c) gap behind) no)
    (later true (passed b now) k))

at_end_of : (set : CharSet) (limit : ℕ) (c : Bool) (seen : Sight) → seen.kept ≡ nothing_kept →
    Gapped set limit (find set limit (gap_state c) seen []) c [] seen.lines
at_end_of set limit true seen k = record {
  gap = [];
  span = [];
  bytes = [];
  whole = refl;
  fits = refl;
  spans = (refl, refl, refl);
  keeps = k ∙ kept_nothing 32;
  begins = refl;
  passes = refl;
  stops = refl;
  some = inl refl;
}
at_end_of set limit false seen k = record {
  gap = [];
  span = [];
  bytes = [];
  whole = refl;
  fits = refl;
  spans = (refl, refl, refl);
  keeps = k ∙ kept_nothing 32;
  begins = refl;
  passes = refl;
  stops = refl;
  some = inl refl;
}

gap_spelled : (set : CharSet) (limit : ℕ) (bs : List ℕ) → GapSpelled set limit bs
gap_spelled set limit [] c seen k = at_end_of set limit c seen k
gap_spelled set limit (b ∷ bs) true seen k = in_comment set limit b bs (gap_spelled set limit bs) seen k
gap_spelled set limit (b ∷ bs) false seen k = in_gap set limit b bs (gap_spelled set limit bs) seen k

-- Lemmas about the whole source

pub record Spelled (set : CharSet) (limit : ℕ) (lines : Lines) (rest : List ℕ) : Type 0 where
  pub piece : Piece
  pub is : IsSpelled set limit lines rest piece
  pub some : (piece.read.rest ≡ []) ⊎ (0 < length piece.span)

pub next_spelled : (set : CharSet) (limit : ℕ) (lines : Lines) (rest : List ℕ) → 0 < length rest → Spelled set limit lines rest
next_spelled set limit lines rest more =
    let g = gap_spelled set limit rest false (begun lines) refl in
    record {
      piece = record { gap = g.gap; span = g.span; read = next_token set limit lines rest };
      is = record {
        ending = (find set limit State.Gap (begun lines) rest).ending;
        bytes = g.bytes;
        is_read = refl;
        is_told = refl;
        whole = g.whole;
        gap_fits = g.fits;
        span_fits = g.spans;
        keeps = g.keeps;
        begins = g.begins;
        passes = g.passes;
        stops = g.stops;
        is_more = more;
      };
      some = g.some;
    }

record SpelledAll (set : CharSet) (limit : ℕ) (lines : Lines) (rest : List ℕ) : Type 0 where
  pieces : List Piece
  whole : joined pieces ≡ rest
  in_order : AreSpelled set limit lines rest pieces

abbrev Later : CharSet → ℕ → ℕ → Type 0
Later set limit n = (lines : Lines) (rest : List ℕ) → length rest ≤ n → SpelledAll set limit lines rest

pub shorter : (gap span behind : List ℕ) (b : ℕ) (rest : List ℕ) → b ∷ rest ≡ gap ++ (span ++ behind) → (behind ≡ []) ⊎ (0 < length span) →
    length behind ≤ length rest
shorter gap span behind b rest whole (inl none) = omega (arith, ap length none)
shorter gap span behind b rest whole (inr some) =
    omega (arith, ap length whole, length-append gap (span ++ behind), length-append span behind)

spell : (set : CharSet) (limit : ℕ) (n : ℕ) → Later set limit n
spell set limit n lines [] le = record { pieces = []; whole = refl; in_order = refl }
spell set limit zero lines (b ∷ rest) le = absurd (omega arith)
spell set limit (suc n) lines (b ∷ rest) le =
    let s = next_spelled set limit lines (b ∷ rest) (omega arith) in let p : Piece = s.piece in
    let less : length p.read.rest ≤ n = omega (arith, shorter p.gap p.span p.read.rest b rest s.is.whole s.some) in
    let more = spell set limit n p.read.lines p.read.rest less in
    record {
      pieces = p ∷ more.pieces;
      whole = ap (λ r. p.gap ++ (p.span ++ r)) more.whole ∙ sym s.is.whole;
      in_order = (s.is, more.in_order);
    }

-- A source has no other spelling

record SameParts (gap other rest behind : List ℕ) : Type 0 where
  gaps : gap ≡ other
  rests : rest ≡ behind

no_gap_byte : (set : CharSet) (b : ℕ) (gap behind : List ℕ) → are_gaps set false (b ∷ gap) behind ≡ true → begins_gap set b ≡ true
no_gap_byte set b gap behind fits = by (b == 33) refl where
  by : (t : Bool) → b == 33 ≡ t → begins_gap set b ≡ true
  by true t = or_right (is_white set b) (b == 33) t
  by false t =
      let white : is_white set b && are_gaps set false gap behind ≡ true =
      sym (cond-false (b == 33) (are_gaps set true gap behind) (is_white set b && are_gaps set false gap behind) t) ∙ fits in
      or_left (is_white set b) (b == 33) (and_parts (is_white set b) (are_gaps set false gap behind) white).0

-- a gap ends where it stops
no_longer_gap : (set : CharSet) (c : Bool) (b : ℕ) (gap rest behind : List ℕ) → are_gaps set c [] rest ≡ true →
    begins_with (begins_gap set) rest ≡ false → are_gaps set c (b ∷ gap) behind ≡ true → rest ≡ (b ∷ gap) ++ behind → ⊥
no_longer_gap set true b gap rest behind ends stops fits same = let f : false ≡ true = sym (ap is_nothing same) ∙ ends in cc
no_longer_gap set false b gap rest behind ends stops fits same =
    let f : true ≡ false = sym (no_gap_byte set b gap behind fits) ∙ sym (ap (begins_with (begins_gap set)) same) ∙ stops in cc

first_same : (a b : ℕ) (xs ys : List ℕ) → a ∷ xs ≡ b ∷ ys → a ≡ b
first_same a b xs ys e = cc

rest_same : (a b : ℕ) (xs ys : List ℕ) → a ∷ xs ≡ b ∷ ys → xs ≡ ys
rest_same a b xs ys e = cc

-- tells whether a comment is open behind a byte of a gap
abbrev opens : Bool → ℕ → Bool
opens true b = not (is_line_end b)
opens false b = b == 33

gap_behind : (set : CharSet) (c : Bool) (b : ℕ) (gap behind : List ℕ) → are_gaps set c (b ∷ gap) behind ≡ true →
    are_gaps set (opens c b) gap behind ≡ true
gap_behind set true b gap behind fits = fits
gap_behind set false b gap behind fits = by (b == 33) refl where
  by : (t : Bool) → b == 33 ≡ t → are_gaps set (b == 33) gap behind ≡ true
  by true t = ap (λ c. are_gaps set c gap behind) t
      ∙ sym (cond-true (b == 33) (are_gaps set true gap behind) (is_white set b && are_gaps set false gap behind) t) ∙ fits
  by false t =
      let white : is_white set b && are_gaps set false gap behind ≡ true =
      sym (cond-false (b == 33) (are_gaps set true gap behind) (is_white set b && are_gaps set false gap behind) t) ∙ fits in
      ap (λ c. are_gaps set c gap behind) t ∙ (and_parts (is_white set b) (are_gaps set false gap behind) white).1

same_parts : (set : CharSet) (c : Bool) (gap other rest behind : List ℕ) → are_gaps set c gap rest ≡ true →
    are_gaps set c other behind ≡ true
    → begins_with (begins_gap set) rest ≡ false → begins_with (begins_gap set) behind ≡ false → gap ++ rest ≡ other ++ behind → SameParts
    gap other rest behind
same_parts set c [] [] rest behind fits others stops ends same = record { gaps = refl; rests = same }
same_parts set c [] (b ∷ other) rest behind fits others stops ends same =
    absurd (no_longer_gap set c b other rest behind fits stops others same)
same_parts set c (b ∷ gap) [] rest behind fits others stops ends same =
    absurd (no_longer_gap set c b gap behind rest others ends fits (sym same))
same_parts set c (a ∷ gap) (b ∷ other) rest behind fits others stops ends same =
    let first : a ≡ b = first_same a b _ _ same in
    let more = same_parts set (opens c a) gap other rest behind (gap_behind set c a gap rest fits)
    (ap (λ x. are_gaps set (opens c x) other behind) first ∙ gap_behind set c b other behind others) stops ends (rest_same a b _ _ same) in
    record { gaps = ap (λ x. x ∷ gap) first ∙ ap (λ g. b ∷ g) more.gaps; rests = more.rests }

same_piece : (set : CharSet) (limit : ℕ) (lines : Lines) (rest : List ℕ) (p q : Piece) → IsSpelled set limit lines rest p →
    IsSpelled set limit lines rest q → p ≡ q
same_piece set limit lines rest p q is other =
    let read : p.read ≡ q.read = is.is_read ∙ sym other.is_read in
    let parts = same_parts set false p.gap q.gap (p.span ++ p.read.rest) (q.span ++ q.read.rest) is.gap_fits other.gap_fits is.stops
    other.stops (sym is.whole ∙ other.whole) in
    let span : p.span ≡ q.span =
    append_cancel_right p.span q.span q.read.rest (ap (λ (r : Read). p.span ++ r.rest) (sym read) ∙ parts.rests) in
    ap (λ (g : List ℕ). record { gap = g; span = p.span; read = p.read }) parts.gaps
    ∙ ap (λ (s : List ℕ). record { gap = q.gap; span = s; read = p.read }) span
    ∙ ap (λ (r : Read). record { gap = q.gap; span = q.span; read = r }) read

same_pieces : (set : CharSet) (limit : ℕ) (lines : Lines) (rest : List ℕ) (pieces others : List Piece) →
    AreSpelled set limit lines rest pieces → AreSpelled set limit lines rest others → others ≡ pieces
same_pieces set limit lines rest [] [] are these = refl
same_pieces set limit lines rest [] (q ∷ others) are these = absurd (omega (arith, ap length are, these.0.is_more))
same_pieces set limit lines rest (p ∷ pieces) [] are these = absurd (omega (arith, ap length these, are.0.is_more))
same_pieces set limit lines rest (p ∷ pieces) (q ∷ others) are these =
    let same : q ≡ p = same_piece set limit lines rest q p these.0 are.0 in
    let tail : AreSpelled set limit p.read.lines p.read.rest others =
    subst (λ (x : Piece). AreSpelled set limit x.read.lines x.read.rest others) same these.1 in
    ap (λ (x : Piece). x ∷ others) same ∙ ap (λ ps. p ∷ ps) (same_pieces set limit p.read.lines p.read.rest pieces others are.1 tail)

pub sources_are_spelled_once : SourcesAreSpelledOnce
sources_are_spelled_once set limit source =
    let all = spell set limit (length source) first_line source (omega arith) in
    record {
      pieces = all.pieces;
      whole = all.whole;
      in_order = all.in_order;
      no_other = λ others are. same_pieces set limit first_line source all.pieces others all.in_order are;
    }

-- Lemmas about lines

counted : (bytes : List ℕ) (lines : Lines) → (past_all bytes lines).line ≡ lines.line + lines_ended lines.after_return bytes
counted [] lines = omega arith
counted (b ∷ bytes) lines = counted bytes (past b lines) ∙ by (b == 13 || (b == 10 && not lines.after_return)) (lines_ended (b == 13) bytes)
  where
    by : (e : Bool) (later : ℕ) → cond e (lines.line + 1) lines.line + later ≡ lines.line + (cond e 1 0 + later)
    by true later = omega arith
    by false later = omega arith

pub lines_are_counted : LinesAreCounted
lines_are_counted bytes = counted bytes first_line
