-- Parts of a source are the pieces of the scanner, and each source has them in one way.
use Rattle.std.proofs.Common.{◌≡◌, ◌⊎◌, ℕ, zero, suc, ◌+◌, ◌<◌, ◌≤◌, List, [], ◌∷◌, ◌++◌, length, true, false, refl, sym, ap, ◌∙◌}
use Rattle.std.proofs.Common.{subst, arith}
use Rattle.std.proofs.lemmas.List.{append_cancel_right}
use Rattle.inf_characters.specs.declared.characters.CharSet.{CharSet}
use Rattle.inf_scanner.specs.{Kept.Kept, Kinds.kind_of, Lines.first_line, Tokens.Read, declared.lines.Lines.Lines}
use Rattle.inf_scanner.specs.{declared.scanner.Ending.Ending, declared.scanner.State.State, declared.tokens.TokenKind.TokenKind}
use Rattle.inf_scanner.specs.Scanning.{begun, find}
use Rattle.inf_scanner.specs.SpellingLaws.{IsSpelled, Piece, kept_of, most_of, past_all}
use Rattle.inf_scanner.proofs.SpellingLaws.{next_spelled, shorter}
use Rattle.inf_spelling_laws.specs.Source.{AreParts, IsPart, Part, is_empty, is_gap, starts, starts_gap}
use Rattle.inf_spelling_laws.specs.Spelling.{PartsAreSpelled, SourcesPartOnce, bytes_of, ending_of, joined, piece_of}
use Rattle.inf_spelling_laws.proofs.Parting.{same_gap, same_part}
use Rattle.inf_spelling_laws.proofs.Scanned.{Spelt, gap_is, read_token, skip, starts_is}

-- The piece that the scanner reads is a part.

pub record Reads (set : CharSet) (limit : ℕ) (lines : Lines) (rest : List ℕ) : Type 0 where
  pub piece : Piece
  pub spelled : IsSpelled set limit lines rest piece
  pub part : Part
  pub is : IsPart set rest part
  pub same : piece ≡ piece_of set limit lines part
  pub some : (part.behind ≡ []) ⊎ (0 < length part.span)

module _ (set : CharSet) (limit : ℕ) (lines : Lines) (p : Piece) (e : Ending) (bytes : List ℕ)
    (t : Spelt set limit e bytes p.span p.read.rest p.read.kind p.read.kept) where
  abbrev part : Part
  part = record { gap = p.gap; token = t.token; span = p.span; behind = p.read.rest }

  abbrev kept : Kept
  kept = kept_of (most_of limit (ending_of t.token)) (bytes_of p.span t.token)

  piece_is : p.read.kept ≡ kept_of (most_of limit e) bytes → p.read.line ≡ (past_all p.gap lines).line
      → p.read.lines ≡ past_all p.span (past_all p.gap lines) → p ≡ piece_of set limit lines part
  piece_is keeps begins passes =
      let kept_is : p.read.kept ≡ kept =
      keeps ∙ ap (λ n. kept_of n bytes) t.room ∙ ap (kept_of (most_of limit (ending_of t.token))) (sym t.same) in
      let kind_is : p.read.kind ≡ kind_of set (ending_of t.token) kept = t.told ∙ ap (kind_of set (ending_of t.token)) kept_is in
      let rest = p.read.rest in
      ap (λ (k : TokenKind). record {
        gap = p.gap;
        span = p.span;
        read = record { kind = k; line = p.read.line; kept = p.read.kept; lines = p.read.lines; rest = rest };
      }) kind_is
      ∙ ap (λ (l : ℕ). record {
        gap = p.gap;
        span = p.span;
        read = record { kind = kind_of set (ending_of t.token) kept; line = l; kept = p.read.kept; lines = p.read.lines; rest = rest };
      }) begins
      ∙ ap (λ (k : Kept). record {
        gap = p.gap;
        span = p.span;
        read = record {
          kind = kind_of set (ending_of t.token) kept;
          line = (past_all p.gap lines).line;
          kept = k;
          lines = p.read.lines;
          rest = rest;
        };
      }) kept_is
      ∙ ap (λ (l : Lines). record {
        gap = p.gap;
        span = p.span;
        read = record {
          kind = kind_of set (ending_of t.token) kept;
          line = (past_all p.gap lines).line;
          kept = kept;
          lines = l;
          rest = rest;
        };
      }) passes

reads : (set : CharSet) (limit : ℕ) (lines : Lines) (rest : List ℕ) → 0 < length rest → Reads set limit lines rest
reads set limit lines rest more =
    let s = next_spelled set limit lines rest more in
    let p = s.piece in
    let i = s.is in
    let x = p.span ++ p.read.rest in
    let fits : is_gap set false p.gap x ≡ true = gap_is set false p.gap x ∙ i.gap_fits in
    let stops : starts (starts_gap set) x ≡ false = starts_is set x ∙ i.stops in
    let k = skip set limit false p.gap x (begun lines) fits in
    let ends : (find set limit State.Gap (begun lines) rest).ending ≡ (find set limit State.Gap k.later x).ending =
    ap (λ r. (find set limit State.Gap (begun lines) r).ending) i.whole ∙ ap (λ f. f.ending) k.same in
    let found : p.read.kind ≡ kind_of set (find set limit State.Gap k.later x).ending p.read.kept = ap (λ (r : Read). r.kind) i.is_read
    ∙ ap (kind_of set (find set limit State.Gap (begun lines) rest).ending) (sym (ap (λ (r : Read). r.kept) i.is_read))
    ∙ ap (λ e. kind_of set e p.read.kept) ends in
    let t = read_token set limit i.ending i.bytes p.span p.read.rest p.read.kind p.read.kept k.later i.is_told i.keeps i.span_fits stops
    found in
    record {
      piece = p;
      spelled = i;
      part = record { gap = p.gap; token = t.token; span = p.span; behind = p.read.rest };
      is = record { whole = i.whole; gap_fits = fits; stops = stops; token_fits = t.is };
      same = piece_is set limit lines p i.ending i.bytes t i.keeps i.begins i.passes;
      some = s.some;
    }

-- A part of the bytes has one spelling alone

same_piece : (set : CharSet) (limit : ℕ) (lines : Lines) (rest : List ℕ) (p q : Piece) → IsSpelled set limit lines rest p
    → IsSpelled set limit lines rest q → p ≡ q
same_piece set limit lines rest p q is other =
    let read : p.read ≡ q.read = is.is_read ∙ sym other.is_read in
    let x = p.span ++ p.read.rest in
    let y = q.span ++ q.read.rest in
    let parts = same_gap set false p.gap q.gap x y (gap_is set false p.gap x ∙ is.gap_fits) (gap_is set false q.gap y ∙ other.gap_fits)
    (starts_is set x ∙ is.stops) (starts_is set y ∙ other.stops) (sym is.whole ∙ other.whole) in
    let span : p.span ≡ q.span =
    append_cancel_right p.span q.span q.read.rest (ap (λ (r : Read). p.span ++ r.rest) (sym read) ∙ parts.rests) in
    ap (λ (g : List ℕ). record { gap = g; span = p.span; read = p.read }) parts.gaps
    ∙ ap (λ (s : List ℕ). record { gap = q.gap; span = s; read = p.read }) span
    ∙ ap (λ (r : Read). record { gap = q.gap; span = q.span; read = r }) read

some_rest : (rest : List ℕ) → is_empty rest ≡ false → 0 < length rest
some_rest [] e = absurd (cc e)
some_rest (b ∷ rest) e = omega arith

pub parts_are_spelled : PartsAreSpelled
parts_are_spelled set limit lines rest more =
    let r = reads set limit lines rest (some_rest rest more) in
    record {
      spelled = λ q is. subst (λ x. IsSpelled set limit lines rest (piece_of set limit lines x)) (same_part set rest r.part q r.is is)
          (subst (IsSpelled set limit lines rest) r.same r.spelled);
      parted = λ p is. record { part = r.part; is = r.is; same = same_piece set limit lines rest p r.piece is r.spelled ∙ r.same };
    }

-- Lemmas about a whole source

record All (set : CharSet) (rest : List ℕ) : Type 0 where
  parts : List Part
  whole : joined parts ≡ rest
  are : AreParts set rest parts

all_parts : (set : CharSet) (n : ℕ) (rest : List ℕ) → length rest ≤ n → All set rest
all_parts set n [] le = record { parts = []; whole = refl; are = refl }
all_parts set zero (b ∷ rest) le = absurd (omega arith)
all_parts set (suc n) (b ∷ rest) le =
    let r = reads set 0 first_line (b ∷ rest) (omega arith) in
    let p = r.part in
    let less : length p.behind ≤ n = omega (arith, shorter p.gap p.span p.behind b rest r.is.whole r.some) in
    let more = all_parts set n p.behind less in
    record { parts = p ∷ more.parts; whole = ap (λ l. p.gap ++ (p.span ++ l)) more.whole ∙ sym r.is.whole; are = (refl, r.is, more.are) }

same_parts : (set : CharSet) (rest : List ℕ) (parts others : List Part) → AreParts set rest parts → AreParts set rest others → others ≡ parts
same_parts set rest [] [] are these = refl
same_parts set rest [] (q ∷ others) are these = absurd (cc (ap is_empty (sym are) ∙ these.0))
same_parts set rest (p ∷ parts) [] are these = absurd (cc (ap is_empty (sym these) ∙ are.0))
same_parts set rest (p ∷ parts) (q ∷ others) are these =
    let same : q ≡ p = same_part set rest q p these.1 are.1 in
    ap (λ (x : Part). x ∷ others) same
    ∙ ap (λ ps. p ∷ ps) (same_parts set p.behind parts others are.2 (subst (λ (x : Part). AreParts set x.behind others) same these.2))

pub sources_part_once : SourcesPartOnce
sources_part_once set source =
    let all = all_parts set (length source) source (omega arith) in
    record {
      parts = all.parts;
      whole = all.whole;
      are = all.are;
      no_other = λ others are. same_parts set source all.parts others all.are are;
    }
