-- Tokens in little memory, one more behind others and one less in front.
use Rattle.std.proofs.Common.{◌≡◌, ◌+◌, ◌-◌, ◌%◌, ℕ, suc, List, [], ◌∷◌, ◌++◌, drop, take, length, Bool, true, false, if◌then◌else◌}
use Rattle.std.proofs.Common.{refl, sym, ap, subst, ◌∙◌, arith}
use Rattle.std.proofs.Math.Nat.{mod-eq_of_lt}
use Rattle.std.proofs.Math.Seq.{drop-length, take-length}
use Rattle.std.proofs.lemmas.Bool.{ltb-false}
use Rattle.std.proofs.lemmas.List.{drop-append-le, length-append, take-append-le}
use Rattle.std.specs.Prelude.{nat_lt}
use Rattle.inf_scanner.specs.declared.{tokens.Place.Place, tokens.TokenKind.TokenKind}
use Rattle.inf_unit.specs.{Atoms.is_short, Tokens.SourceToken}
use Rattle.inf_conditionals.specs.declared.{packed.Beside.Beside, packed.Packed.Packed, packed.ShortKind.ShortKind}
use Rattle.inf_conditionals.specs.Packed.{ArePacked, beside_of, has_kind, others_left, packed_of, parts_of, short_kind, short_of}
use Rattle.inf_conditionals.specs.Packed.{token_of, unpacked}

-- A token that is packed by itself

parts_by : (b : Bool) (kind : TokenKind) (n : ℕ) → (b ≡ false → n % 256 ≡ n) →
    let s = if b then ShortKind.Beside else short_of kind in parts_of s (n % 256) (beside_of s kind n) ≡ (kind, n)
parts_by true kind n few = refl
parts_by false TokenKind.Name n few = ap (λ i. (TokenKind.Name, i)) (few refl)
parts_by false (TokenKind.Number x) n few = ap (λ i. (TokenKind.Number x, i)) (few refl)
parts_by false TokenKind.Text n few = ap (λ i. (TokenKind.Text, i)) (few refl)
parts_by false (TokenKind.Char c) n few = ap (λ i. (TokenKind.Char c, i)) (few refl)
parts_by false (TokenKind.Word w) n few = refl
parts_by false (TokenKind.Mark m) n few = ap (λ i. (TokenKind.Mark m, i)) (few refl)
parts_by false (TokenKind.Bad b) n few = ap (λ i. (TokenKind.Bad b, i)) (few refl)
parts_by false TokenKind.End n few = ap (λ i. (TokenKind.End, i)) (few refl)

parts_back : (kind : TokenKind) (n : ℕ) → parts_of (short_kind kind n) (n % 256) (beside_of (short_kind kind n) kind n) ≡ (kind, n)
parts_back kind n = parts_by (nat_lt 255 n) kind n (λ few. mod-eq_of_lt (omega (arith, ltb-false 255 n few)))

kind_by : (b : Bool) (kind : TokenKind) (n : ℕ) →
    let s = if b then ShortKind.Beside else short_of kind in has_kind s (beside_of s kind n) ≡ true
kind_by true kind n = refl
kind_by false TokenKind.Name n = refl
kind_by false (TokenKind.Number x) n = refl
kind_by false TokenKind.Text n = refl
kind_by false (TokenKind.Char c) n = refl
kind_by false (TokenKind.Word w) n = refl
kind_by false (TokenKind.Mark m) n = refl
kind_by false (TokenKind.Bad b) n = refl
kind_by false TokenKind.End n = refl

none_by : (b : Bool) (kind : TokenKind) (n : ℕ) →
    let s = if b then ShortKind.Beside else short_of kind in others_left s (beside_of s kind n) ≡ []
none_by true kind n = refl
none_by false TokenKind.Name n = refl
none_by false (TokenKind.Number x) n = refl
none_by false TokenKind.Text n = refl
none_by false (TokenKind.Char c) n = refl
none_by false (TokenKind.Word w) n = refl
none_by false (TokenKind.Mark m) n = refl
none_by false (TokenKind.Bad b) n = refl
none_by false TokenKind.End n = refl

-- Tokens behind another one change nothing for it

parts_more : (s : ShortKind) (n : ℕ) (beside more : List Beside) → has_kind s beside ≡ true →
    parts_of s n (beside ++ more) ≡ parts_of s n beside
parts_more ShortKind.Beside n [] more is = absurd (cc is)
parts_more ShortKind.Beside n (b ∷ beside) more is = refl
parts_more s n beside more is = refl

left_more : (s : ShortKind) (beside more : List Beside) → has_kind s beside ≡ true →
    others_left s (beside ++ more) ≡ others_left s beside ++ more
left_more ShortKind.Beside [] more is = absurd (cc is)
left_more ShortKind.Beside (b ∷ beside) more is = refl
left_more s beside more is = refl

kind_more : (s : ShortKind) (beside more : List Beside) → has_kind s beside ≡ true → has_kind s (beside ++ more) ≡ true
kind_more ShortKind.Beside [] more is = absurd (cc is)
kind_more ShortKind.Beside (b ∷ beside) more is = refl
kind_more s beside more is = refl

-- One token more

-- A token with these bytes is added to others.
pub record IsMore (kind : TokenKind) (place : Place) (is_class : Bool) (own : List ℕ)
    (ps now : List Packed) (beside with_more : List Beside) (bytes with_own : List ℕ) : Type 0 where
  pub tokens_are : now ≡ ps ++ packed_of kind place is_class (length own) ∷ []
  pub beside_are : with_more ≡ beside ++ beside_of (short_kind kind (length own)) kind (length own)
  pub bytes_are : with_own ≡ bytes ++ own

abbrev the_token : TokenKind → Place → Bool → List ℕ → SourceToken
the_token kind place is_class own = record { kind = kind; bytes = own; place = place; is_class = is_class }

one_alone : (kind : TokenKind) (place : Place) (is_class : Bool) (own : List ℕ) →
    let n = length own in
    unpacked (packed_of kind place is_class n ∷ []) (beside_of (short_kind kind n) kind n) own ≡ the_token kind place is_class own ∷ []
one_alone kind place is_class own =
    let n = length own in
    ap (λ (s : TokenKind × ℕ). token_of s.0 (packed_of kind place is_class n) (take s.1 own) ∷ []) (parts_back kind n)
    ∙ ap (λ (l : List ℕ). the_token kind place is_class l ∷ []) (take-length own)

one_more : (kind : TokenKind) (place : Place) (is_class : Bool) (own : List ℕ) (ps : List Packed) (beside : List Beside) (bytes : List ℕ) →
    ArePacked ps beside bytes → let n = length own in
    unpacked (ps ++ packed_of kind place is_class n ∷ []) (beside ++ beside_of (short_kind kind n) kind n) (bytes ++ own)
    ≡ unpacked ps beside bytes ++ the_token kind place is_class own ∷ []
one_more kind place is_class own [] beside bytes are =
    let n = length own in let p = packed_of kind place is_class n in let more = beside_of (short_kind kind n) kind n in
    ap (λ (l : List Beside). unpacked (p ∷ []) (l ++ more) (bytes ++ own)) are.0
    ∙ ap (λ (l : List ℕ). unpacked (p ∷ []) more (l ++ own)) are.1 ∙ one_alone kind place is_class own
one_more kind place is_class own (q ∷ ps) beside bytes are =
    let n = length own in let last = packed_of kind place is_class n ∷ [] in
    let more = beside_of (short_kind kind n) kind n in let s = parts_of q.kind q.count beside in
    ap (λ (x : TokenKind × ℕ). token_of x.0 q (take x.1 (bytes ++ own))
    ∷ unpacked (ps ++ last) (others_left q.kind (beside ++ more)) (drop x.1 (bytes ++ own)))
    (parts_more q.kind q.count beside more are.0.kind)
    ∙ ap (λ (l : List ℕ). token_of s.0 q l ∷ unpacked (ps ++ last) (others_left q.kind (beside ++ more)) (drop s.1 (bytes ++ own)))
    (take-append-le s.1 bytes own are.0.there)
    ∙ ap (λ (l : List Beside). token_of s.0 q (take s.1 bytes) ∷ unpacked (ps ++ last) l (drop s.1 (bytes ++ own)))
    (left_more q.kind beside more are.0.kind)
    ∙ ap (λ (l : List ℕ). token_of s.0 q (take s.1 bytes) ∷ unpacked (ps ++ last) (others_left q.kind beside ++ more) l)
    (drop-append-le s.1 bytes own are.0.there) ∙ ap (λ (l : List SourceToken). token_of s.0 q (take s.1 bytes) ∷ l)
    (one_more kind place is_class own ps (others_left q.kind beside) (drop s.1 bytes) are.1)

alone_packed : (kind : TokenKind) (place : Place) (is_class : Bool) (own : List ℕ) → is_short kind own ≡ true →
    let n = length own in ArePacked (packed_of kind place is_class n ∷ []) (beside_of (short_kind kind n) kind n) own
alone_packed kind place is_class own short =
    let n = length own in
    let parts = parts_back kind n in (
      record {
        kind = kind_by (nat_lt 255 n) kind n;
        there = omega (arith, ap (λ (s : TokenKind × ℕ). s.1) parts);
        short = ap (λ (s : TokenKind × ℕ). is_short s.0 (take s.1 own)) parts ∙ ap (λ (l : List ℕ). is_short kind l) (take-length own)
            ∙ short;
      },
      (none_by (nat_lt 255 n) kind n, ap (λ (s : TokenKind × ℕ). drop s.1 own) parts ∙ drop-length own),
    )

more_packed : (kind : TokenKind) (place : Place) (is_class : Bool) (own : List ℕ) (ps : List Packed) (beside : List Beside)
    (bytes : List ℕ) → is_short kind own ≡ true → ArePacked ps beside bytes → let n = length own in
    ArePacked (ps ++ packed_of kind place is_class n ∷ []) (beside ++ beside_of (short_kind kind n) kind n) (bytes ++ own)
more_packed kind place is_class own [] beside bytes short are =
    let n = length own in let p = packed_of kind place is_class n in let more = beside_of (short_kind kind n) kind n in
    subst (λ (l : List Beside). ArePacked (p ∷ []) (l ++ more) (bytes ++ own)) (sym are.0)
    (subst (λ (l : List ℕ). ArePacked (p ∷ []) more (l ++ own)) (sym are.1) (alone_packed kind place is_class own short))
more_packed kind place is_class own (q ∷ ps) beside bytes short are =
    let n = length own in let last = packed_of kind place is_class n ∷ [] in
    let more = beside_of (short_kind kind n) kind n in let s = parts_of q.kind q.count beside in
    let same = parts_more q.kind q.count beside more are.0.kind in
    let there = are.0.there in (
      record {
        kind = kind_more q.kind beside more are.0.kind;
        there = omega (arith, ap (λ (x : TokenKind × ℕ). x.1) same, there, length-append bytes own);
        short = ap (λ (x : TokenKind × ℕ). is_short x.0 (take x.1 (bytes ++ own))) same
            ∙ ap (λ (l : List ℕ). is_short s.0 l) (take-append-le s.1 bytes own there) ∙ are.0.short;
      },
      subst (λ (x : TokenKind × ℕ). ArePacked (ps ++ last) (others_left q.kind (beside ++ more)) (drop x.1 (bytes ++ own))) (sym same)
          (subst (λ (l : List Beside). ArePacked (ps ++ last) l (drop s.1 (bytes ++ own))) (sym (left_more q.kind beside more are.0.kind))
          (subst (λ (l : List ℕ). ArePacked (ps ++ last) (others_left q.kind beside ++ more) l) (sym (drop-append-le s.1 bytes own there))
          (more_packed kind place is_class own ps (others_left q.kind beside) (drop s.1 bytes) short are.1))),
    )

pub added_tokens : (kind : TokenKind) (place : Place) (is_class : Bool) (own : List ℕ)
    (ps now : List Packed) (beside with_more : List Beside) (bytes with_own : List ℕ) →
    IsMore kind place is_class own ps now beside with_more bytes with_own → ArePacked ps beside bytes →
    unpacked now with_more with_own ≡ unpacked ps beside bytes ++ the_token kind place is_class own ∷ []
added_tokens kind place is_class own ps now beside with_more bytes with_own m are =
    ap (λ (l : List Packed). unpacked l with_more with_own) m.tokens_are
    ∙ ap (λ (l : List Beside). unpacked (ps ++ packed_of kind place is_class (length own) ∷ []) l with_own) m.beside_are
    ∙ ap (λ (l : List ℕ). unpacked (ps ++ packed_of kind place is_class (length own) ∷ [])
    (beside ++ beside_of (short_kind kind (length own)) kind (length own)) l) m.bytes_are
    ∙ one_more kind place is_class own ps beside bytes are

pub added_packed : (kind : TokenKind) (place : Place) (is_class : Bool) (own : List ℕ)
    (ps now : List Packed) (beside with_more : List Beside) (bytes with_own : List ℕ) →
    IsMore kind place is_class own ps now beside with_more bytes with_own → is_short kind own ≡ true → ArePacked ps beside bytes →
    ArePacked now with_more with_own
added_packed kind place is_class own ps now beside with_more bytes with_own m short are =
    subst (λ (l : List Packed). ArePacked l with_more with_own) (sym m.tokens_are)
    (subst (λ (l : List Beside). ArePacked (ps ++ packed_of kind place is_class (length own) ∷ []) l with_own) (sym m.beside_are)
    (subst (λ (l : List ℕ). ArePacked (ps ++ packed_of kind place is_class (length own) ∷ [])
    (beside ++ beside_of (short_kind kind (length own)) kind (length own)) l) (sym m.bytes_are)
    (more_packed kind place is_class own ps beside bytes short are)))

pub packed_count : (ps : List Packed) (beside : List Beside) (bytes : List ℕ) → length (unpacked ps beside bytes) ≡ length ps
packed_count [] beside bytes = refl
packed_count (p ∷ ps) beside bytes = ap suc (packed_count ps (others_left p.kind beside) (drop (parts_of p.kind p.count beside).1 bytes))
