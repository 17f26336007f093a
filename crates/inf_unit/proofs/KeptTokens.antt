-- Tokens that are kept, with their bytes in one list.
use Rattle.std.proofs.Common.{◌≡◌, ◌≤◌, ◌-◌, ℕ, suc, zero, List, [], ◌∷◌, ◌++◌, drop, take, length, length-append, true, Option}
use Rattle.std.proofs.Common.{Bool, ◌+◌, Some, None, unwrap_or, arith, refl, sym, ap, subst, ◌∙◌, slice_get, option_map}
use Rattle.std.proofs.Common.{take_all, drop_of_length-le}
use Rattle.std.proofs.lemmas.List.{take-append-le, drop-append-le, take-append-drop, length-take-le, length-drop}
use Rattle.std.proofs.lemmas.List.Edits.{take-paste}
use Rattle.std.proofs.lemmas.Option.{slice_get_past}
use Rattle.std.proofs.lemmas.Nat.{div-add-mod'}
use Rattle.std.proofs.Math.Seq.{drop-append_seam, take-length}
use Rattle.std.specs.List.{between, copy_within}
use Rattle.inf_unit.specs.Kept.{AreKept, IsKept, end_of, end_of_all, halves, kept_of, kept_token, kept_tokens, token_with}
use Rattle.inf_unit.specs.{Atoms.atom_of_kind, Atoms.is_short, Tokens.SourceToken, Units.kind_at, Units.place_at, declared.kept.Kept.Kept}
use Rattle.inf_scanner.specs.{declared.tokens.Place.Place, declared.tokens.TokenKind.TokenKind}

-- The place behind the bytes of a token, in its halves

pub end_is : (kind : TokenKind) (place : Place) (is_class : Bool) (atom end : ℕ) → end_of (kept_of kind place is_class atom end) ≡ end
unfolding end_of
end_is kind place is_class atom end = div-add-mod' end halves

-- One token more

-- Bytes that come behind change nothing between two places.
between_more : (start end : ℕ) (bytes more : List ℕ) → start ≤ end → end ≤ length bytes
    → between start end (bytes ++ more) ≡ between start end bytes
between_more start end bytes more order there = ap (take (end - start)) (drop-append-le start bytes more (omega (arith, order, there)))
    ∙ take-append-le (end - start) (drop start bytes) more (omega (arith, order, there, length-drop start bytes))

-- the bytes that come last
between_last : (start end : ℕ) (bytes more : List ℕ) → start ≡ length bytes → end ≡ length (bytes ++ more)
    → between start end (bytes ++ more) ≡ more
between_last start end bytes more begins ends =
    let long : end - start ≡ length more = omega (arith, begins, ends, length-append bytes more) in
    ap (λ n. take (end - start) (drop n (bytes ++ more))) begins ∙ ap (take (end - start)) (drop-append_seam bytes more)
    ∙ ap (λ n. take n more) long ∙ take-length more

pub tokens_more : (start : ℕ) (ks : List Kept) (bytes more : List ℕ) → AreKept start ks bytes
    → kept_tokens start ks (bytes ++ more) ≡ kept_tokens start ks bytes
tokens_more start [] bytes more kept = refl
tokens_more start (k ∷ ks) bytes more kept = ap (λ (b : List ℕ). token_with k b ∷ kept_tokens (end_of k) ks (bytes ++ more))
    (between_more start (end_of k) bytes more kept.0.order kept.0.there)
    ∙ ap (λ (ts : List SourceToken). kept_token start k bytes ∷ ts) (tokens_more (end_of k) ks bytes more kept.1)

-- A token is added whose bytes come behind all others.
pub one_more : (start : ℕ) (ks : List Kept) (k : Kept) (bytes more : List ℕ) → AreKept start ks bytes → end_of k ≡ length (bytes ++ more)
    → kept_tokens start (ks ++ k ∷ []) (bytes ++ more) ≡ kept_tokens start ks bytes ++ token_with k more ∷ []
one_more start [] k bytes more kept ends = ap (λ (b : List ℕ). token_with k b ∷ []) (between_last start (end_of k) bytes more kept ends)
one_more start (j ∷ ks) k bytes more kept ends = ap (λ (b : List ℕ). token_with j b ∷ kept_tokens (end_of j) (ks ++ k ∷ []) (bytes ++ more))
    (between_more start (end_of j) bytes more kept.0.order kept.0.there)
    ∙ ap (λ (ts : List SourceToken). kept_token start j bytes ∷ ts) (one_more (end_of j) ks k bytes more kept.1 ends)

pub more_kept : (start : ℕ) (ks : List Kept) (k : Kept) (bytes more : List ℕ) → AreKept start ks bytes → end_of k ≡ length (bytes ++ more)
    → k.atom ≡ atom_of_kind k.is_class k.kind more → is_short k.kind more ≡ true → AreKept start (ks ++ k ∷ []) (bytes ++ more)
more_kept start [] k bytes more kept ends seen short =
    let all = sym (between_last start (end_of k) bytes more kept ends) in (
      record {
        order = omega (arith, kept, ends, length-append bytes more);
        there = omega (arith, ends);
        seen = subst (λ (b : List ℕ). k.atom ≡ atom_of_kind k.is_class k.kind b) all seen;
        short = subst (λ (b : List ℕ). is_short k.kind b ≡ true) all short;
      },
      ends,
    )
more_kept start (j ∷ ks) k bytes more kept ends seen short =
    let same = sym (between_more start (end_of j) bytes more kept.0.order kept.0.there) in (
      record {
        order = kept.0.order;
        there = omega (arith, kept.0.there, length-append bytes more);
        seen = subst (λ (b : List ℕ). j.atom ≡ atom_of_kind j.is_class j.kind b) same kept.0.seen;
        short = subst (λ (b : List ℕ). is_short j.kind b ≡ true) same kept.0.short;
      },
      more_kept (end_of j) ks k bytes more kept.1 ends seen short,
    )

-- One token

-- The token at a place: its bytes begin behind those of the tokens before it.
pub token_at : (start : ℕ) (ks : List Kept) (bytes : List ℕ) (at : ℕ) → slice_get (kept_tokens start ks bytes) at
    ≡ option_map (λ (k : Kept). kept_token (end_of_all start (take at ks)) k bytes) (slice_get ks at)
token_at start [] bytes zero = refl
token_at start [] bytes (suc at) = refl
token_at start (k ∷ ks) bytes zero = refl
token_at start (k ∷ ks) bytes (suc at) = token_at (end_of k) ks bytes at

pub kept_at : (start : ℕ) (ks : List Kept) (bytes : List ℕ) (at : ℕ) (k : Kept) → AreKept start ks bytes → slice_get ks at ≡ Some k
    → IsKept (end_of_all start (take at ks)) k bytes
kept_at start [] bytes zero k kept is = absurd (cc is)
kept_at start [] bytes (suc at) k kept is = absurd (cc is)
kept_at start (j ∷ ks) bytes zero k kept is = subst (λ (x : Kept). IsKept start x bytes) (ap (λ (o : Option Kept). unwrap_or o j) is) kept.0
kept_at start (j ∷ ks) bytes (suc at) k kept is = kept_at (end_of j) ks bytes at k kept.1 is

pub count_is : (start : ℕ) (ks : List Kept) (bytes : List ℕ) → length (kept_tokens start ks bytes) ≡ length ks
count_is start [] bytes = refl
count_is start (k ∷ ks) bytes = ap suc (count_is (end_of k) ks bytes)

-- The bytes of a token begin where those of the one before it end.
pub behind_one : (start : ℕ) (ks : List Kept) (at : ℕ) (k : Kept) → slice_get ks at ≡ Some k
    → end_of_all start (take (suc at) ks) ≡ end_of k
behind_one start [] zero k is = absurd (cc is)
behind_one start [] (suc at) k is = absurd (cc is)
behind_one start (j ∷ ks) zero k is = ap end_of (ap (λ (o : Option Kept). unwrap_or o j) is)
behind_one start (j ∷ ks) (suc at) k is = behind_one (end_of j) ks at k is

-- The bytes of a token begin behind those of the one before it.
pub begins_behind : (ks : List Kept) (at : ℕ) (k : Kept) → 1 ≤ at → slice_get ks (at - 1) ≡ Some k → end_of_all 0 (take at ks) ≡ end_of k
begins_behind ks zero k more is = absurd (omega (arith, more))
begins_behind ks (suc at) k more is =
    let same : at ≡ suc at - 1 = omega arith in behind_one 0 ks at k (ap (λ n. slice_get ks n) same ∙ is)

-- The bytes of a token, of which both ends are known.
pub part_is : (ks : List Kept) (bytes part : List ℕ) (at : ℕ) (k : Kept) (start end : ℕ) → start ≡ end_of_all 0 (take at ks)
    → end ≡ end_of k → part ≡ between start end bytes → part ≡ between (end_of_all 0 (take at ks)) (end_of k) bytes
part_is ks bytes part at k start end begins ends is =
    is ∙ ap (λ n. between n end bytes) begins ∙ ap (λ n. between (end_of_all 0 (take at ks)) n bytes) ends

pub got : (ks : List Kept) (bytes part : List ℕ) (at : ℕ) (k : Kept) (place : Place) → slice_get ks at ≡ Some k
    → part ≡ between (end_of_all 0 (take at ks)) (end_of k) bytes → place ≡ record { file = k.file; line = k.line }
    → Some (record { kind = k.kind; bytes = part; place = place; is_class = k.is_class }) ≡ slice_get (kept_tokens 0 ks bytes) at
got ks bytes part at k place is all there =
    ap (λ (p : Place). Some (record { kind = k.kind; bytes = part; place = p; is_class = k.is_class })) there
    ∙ ap (λ (b : List ℕ). Some (token_with k b)) all
    ∙ ap (λ (o : Option Kept). option_map (λ (x : Kept). kept_token (end_of_all 0 (take at ks)) x bytes) o) (sym is)
    ∙ sym (token_at 0 ks bytes at)

pub got_none : (ks : List Kept) (bytes : List ℕ) (at : ℕ) → length ks ≤ at → None ≡ slice_get (kept_tokens 0 ks bytes) at
got_none ks bytes at past = sym (slice_get_past (kept_tokens 0 ks bytes) at (omega (arith, count_is 0 ks bytes, past)))

-- The kind and the place of the token at a place.

pub kind_got : (ks : List Kept) (bytes : List ℕ) (at : ℕ) (k : Kept) → slice_get ks at ≡ Some k
    → Some k.kind ≡ kind_at (kept_tokens 0 ks bytes) at
kind_got ks bytes at k is = sym (ap (option_map (λ (t : SourceToken). t.kind))
    (token_at 0 ks bytes at ∙ ap (option_map (λ (x : Kept). kept_token (end_of_all 0 (take at ks)) x bytes)) is))

pub place_got : (ks : List Kept) (bytes : List ℕ) (at : ℕ) (k : Kept) → slice_get ks at ≡ Some k
    → Some (record { file = k.file; line = k.line }) ≡ place_at (kept_tokens 0 ks bytes) at
place_got ks bytes at k is = sym (ap (option_map (λ (t : SourceToken). t.place))
    (token_at 0 ks bytes at ∙ ap (option_map (λ (x : Kept). kept_token (end_of_all 0 (take at ks)) x bytes)) is))

-- The first tokens

-- The places up to which some of the tokens have bytes.
bounds : (start : ℕ) (ks : List Kept) (bytes : List ℕ) (n : ℕ) → AreKept start ks bytes
    → (start ≤ end_of_all start (take n ks)) × (end_of_all start (take n ks) ≤ length bytes)
bounds start [] bytes zero kept = (omega arith, omega (arith, kept))
bounds start [] bytes (suc n) kept = (omega arith, omega (arith, kept))
bounds start (k ∷ ks) bytes zero kept = (omega arith, omega (arith, kept.0.order, kept.0.there))
bounds start (k ∷ ks) bytes (suc n) kept =
    let b = bounds (end_of k) ks bytes n kept.1 in (omega (arith, b.0, kept.0.order), b.1)

-- Bytes up to a place, and those between two places before it.
between_front : (start end count : ℕ) (bytes : List ℕ) → start ≤ end → end ≤ count → count ≤ length bytes
    → between start end bytes ≡ between start end (take count bytes)
between_front start end count bytes order fits there = ap (between start end) (sym (take-append-drop count bytes))
    ∙ between_more start end (take count bytes) (drop count bytes) order (omega (arith, fits, length-take-le count bytes there))

-- some of the bytes are those up to a place
is_all : (start count : ℕ) (bytes : List ℕ) → start ≡ count → count ≤ length bytes → start ≡ length (take count bytes)
is_all start count bytes is there = omega (arith, is, length-take-le count bytes there)

fronts_kept : (start : ℕ) (ks : List Kept) (bytes : List ℕ) (n count : ℕ) → AreKept start ks bytes → count ≡ end_of_all start (take n ks)
    → AreKept start (take n ks) (take count bytes)
fronts_kept start [] bytes zero count kept is = is_all start count bytes (omega (arith, is)) (omega (arith, is, kept))
fronts_kept start [] bytes (suc n) count kept is = is_all start count bytes (omega (arith, is)) (omega (arith, is, kept))
fronts_kept start (k ∷ ks) bytes zero count kept is =
    is_all start count bytes (omega (arith, is)) (omega (arith, is, kept.0.order, kept.0.there))
fronts_kept start (k ∷ ks) bytes (suc n) count kept is =
    let b = bounds (end_of k) ks bytes n kept.1 in let there : count ≤ length bytes = omega (arith, is, b.1) in
    let same = between_front start (end_of k) count bytes kept.0.order (omega (arith, is, b.0)) there in (
      record {
        order = kept.0.order;
        there = omega (arith, is, b.0, length-take-le count bytes there);
        seen = subst (λ (x : List ℕ). k.atom ≡ atom_of_kind k.is_class k.kind x) same kept.0.seen;
        short = subst (λ (x : List ℕ). is_short k.kind x ≡ true) same kept.0.short;
      },
      fronts_kept (end_of k) ks bytes n count kept.1 is,
    )

front_of : (start : ℕ) (ks : List Kept) (bytes : List ℕ) (n : ℕ) → kept_tokens start (take n ks) bytes ≡ take n (kept_tokens start ks bytes)
front_of start [] bytes zero = refl
front_of start [] bytes (suc n) = refl
front_of start (k ∷ ks) bytes zero = refl
front_of start (k ∷ ks) bytes (suc n) = ap (λ (ts : List SourceToken). kept_token start k bytes ∷ ts) (front_of (end_of k) ks bytes n)

-- The first tokens, with no more bytes than theirs.
pub first_kept : (ks : List Kept) (bytes : List ℕ) (n count : ℕ) → AreKept 0 ks bytes → count ≡ end_of_all 0 (take n ks)
    → AreKept 0 (take n ks) (take count bytes)
first_kept ks bytes n count kept is = fronts_kept 0 ks bytes n count kept is

pub first_tokens : (ks : List Kept) (bytes : List ℕ) (n count : ℕ) → AreKept 0 ks bytes → count ≡ end_of_all 0 (take n ks)
    → kept_tokens 0 (take n ks) (take count bytes) ≡ take n (kept_tokens 0 ks bytes)
first_tokens ks bytes n count kept is =
    sym (tokens_more 0 (take n ks) (take count bytes) (drop count bytes) (first_kept ks bytes n count kept is))
    ∙ ap (kept_tokens 0 (take n ks)) (take-append-drop count bytes) ∙ front_of 0 ks bytes n

-- there are no more tokens than that
pub all_stay : (start : ℕ) (ks : List Kept) (bytes : List ℕ) (n : ℕ) → length ks ≤ n
    → kept_tokens start ks bytes ≡ take n (kept_tokens start ks bytes)
all_stay start ks bytes n few = sym (take_all n (kept_tokens start ks bytes) (omega (arith, count_is start ks bytes, few)))

-- One token alone: its bytes are moved to the front

pub moved : (start end count : ℕ) (bytes within now : List ℕ) → start ≤ end → end ≤ length bytes → count ≡ end - start
    → within ≡ copy_within bytes start end 0 → now ≡ take count within → now ≡ between start end bytes
moved start end count bytes within now order there counts copied left =
    let same : count ≡ 0 + (end - start) = omega (arith, counts) in
    left ∙ ap (take count) copied ∙ ap (λ n. take n (copy_within bytes start end 0)) same
    ∙ take-paste bytes 0 (drop start bytes) (end - start) (omega arith) (omega (arith, order, there, length-drop start bytes))

all_between : (bytes : List ℕ) (count : ℕ) → count ≡ length bytes → between 0 count bytes ≡ bytes
all_between bytes count is = let same : count - 0 ≡ length bytes = omega (arith, is) in ap (λ n. take n bytes) same ∙ take-length bytes

-- the token at a place, with its bytes alone
one_token : (start : ℕ) (ks : List Kept) (bytes : List ℕ) (at : ℕ) (k : Kept) → slice_get ks at ≡ Some k
    → take 1 (drop at (kept_tokens start ks bytes)) ≡ kept_token (end_of_all start (take at ks)) k bytes ∷ []
one_token start [] bytes zero k is = absurd (cc is)
one_token start [] bytes (suc at) k is = absurd (cc is)
one_token start (j ∷ ks) bytes zero k is = ap (λ (x : Kept). kept_token start x bytes ∷ []) (ap (λ (o : Option Kept). unwrap_or o j) is)
one_token start (j ∷ ks) bytes (suc at) k is = one_token (end_of j) ks bytes at k is

-- The token at a place, whose bytes are from one place to another, is left, and its bytes.
pub record IsAlone (ks now : List Kept) (bytes new : List ℕ) (at : ℕ) (k : Kept) (start end : ℕ) (place : Place) : Type 0 where
  pub is : slice_get ks at ≡ Some k
  pub begins : start ≡ end_of_all 0 (take at ks)
  pub ends : end ≡ end_of k
  pub left : new ≡ between start end bytes
  pub place_is : place ≡ record { file = k.file; line = k.line }
  pub only : now ≡ kept_of k.kind place k.is_class k.atom (end - start) ∷ []

-- its bytes
bytes_are : (ks now : List Kept) (bytes new : List ℕ) (at : ℕ) (k : Kept) (start end : ℕ) (place : Place)
    → IsAlone ks now bytes new at k start end place → new ≡ between (end_of_all 0 (take at ks)) (end_of k) bytes
bytes_are ks now bytes new at k start end place alone = part_is ks bytes new at k start end alone.begins alone.ends alone.left

length_is : (ks now : List Kept) (bytes new : List ℕ) (at : ℕ) (k : Kept) (start end : ℕ) (place : Place) → AreKept 0 ks bytes
    → IsAlone ks now bytes new at k start end place → end - start ≡ length new
length_is ks now bytes new at k start end place kept alone =
    let one = kept_at 0 ks bytes at k kept alone.is in let from = end_of_all 0 (take at ks) in
    omega (
      arith,
      alone.begins,
      alone.ends,
      ap (λ (l : List ℕ). length l) (bytes_are ks now bytes new at k start end place alone),
      length-take-le (end_of k - from) (drop from bytes) (omega (arith, one.order, one.there, length-drop from bytes)),
    )

-- the token as it is kept now
abbrev moved_one : Kept → ℕ → Kept
moved_one k count = kept_of k.kind (record { file = k.file; line = k.line }) k.is_class k.atom count

moved_end : (k : Kept) (count : ℕ) → end_of (moved_one k count) ≡ count
moved_end k count = end_is k.kind (record { file = k.file; line = k.line }) k.is_class k.atom count

only_one : (ks now : List Kept) (bytes new : List ℕ) (at : ℕ) (k : Kept) (start end : ℕ) (place : Place)
    → IsAlone ks now bytes new at k start end place → now ≡ moved_one k (end - start) ∷ []
only_one ks now bytes new at k start end place alone =
    alone.only ∙ ap (λ (p : Place). kept_of k.kind p k.is_class k.atom (end - start) ∷ []) alone.place_is

-- all bytes are its own
all_its : (ks now : List Kept) (bytes new : List ℕ) (at : ℕ) (k : Kept) (start end : ℕ) (place : Place) → AreKept 0 ks bytes
    → IsAlone ks now bytes new at k start end place
    → between 0 (end_of (moved_one k (end - start))) new ≡ between (end_of_all 0 (take at ks)) (end_of k) bytes
all_its ks now bytes new at k start end place kept alone = all_between new (end_of (moved_one k (end - start)))
    (moved_end k (end - start) ∙ length_is ks now bytes new at k start end place kept alone)
    ∙ bytes_are ks now bytes new at k start end place alone

pub alone_tokens : (ks now : List Kept) (bytes new : List ℕ) (at : ℕ) (k : Kept) (start end : ℕ) (place : Place) → AreKept 0 ks bytes
    → IsAlone ks now bytes new at k start end place → kept_tokens 0 now new ≡ take 1 (drop at (kept_tokens 0 ks bytes))
alone_tokens ks now bytes new at k start end place kept alone =
    ap (λ (l : List Kept). kept_tokens 0 l new) (only_one ks now bytes new at k start end place alone)
    ∙ ap (λ (b : List ℕ). token_with k b ∷ []) (all_its ks now bytes new at k start end place kept alone)
    ∙ sym (one_token 0 ks bytes at k alone.is)

pub alone_kept : (ks now : List Kept) (bytes new : List ℕ) (at : ℕ) (k : Kept) (start end : ℕ) (place : Place) → AreKept 0 ks bytes
    → IsAlone ks now bytes new at k start end place → AreKept 0 now new
alone_kept ks now bytes new at k start end place kept alone =
    let one = kept_at 0 ks bytes at k kept alone.is in
    let long = length_is ks now bytes new at k start end place kept alone in
    let same = sym (all_its ks now bytes new at k start end place kept alone) in
    let all : AreKept 0 (moved_one k (end - start) ∷ []) new = (
      record {
        order = omega arith;
        there = omega (arith, moved_end k (end - start), long);
        seen = subst (λ (x : List ℕ). k.atom ≡ atom_of_kind k.is_class k.kind x) same one.seen;
        short = subst (λ (x : List ℕ). is_short k.kind x ≡ true) same one.short;
      },
      moved_end k (end - start) ∙ long,
    ) in
    subst (λ (l : List Kept). AreKept 0 l new) (sym (only_one ks now bytes new at k start end place alone)) all

-- there is no token at a place
pub none_alone : (ks : List Kept) (bytes : List ℕ) (at : ℕ) → length ks ≤ at → [] ≡ take 1 (drop at (kept_tokens 0 ks bytes))
none_alone ks bytes at past = sym (ap (take 1) (drop_of_length-le (kept_tokens 0 ks bytes) (omega (arith, count_is 0 ks bytes, past))))

-- A token is added

pub record IsAdded (ks now : List Kept) (bytes new more : List ℕ) (kind : TokenKind) (place : Place) (is_class : Bool) (atom : ℕ) :
    Type 0 where
  pub k : Kept
  pub end : ℕ
  pub is : now ≡ ks ++ k ∷ []
  pub all : new ≡ bytes ++ more
  pub made : k ≡ kept_of kind place is_class atom end
  pub ends : end ≡ length new

behind_all : (ks now : List Kept) (bytes new more : List ℕ) (kind : TokenKind) (place : Place) (is_class : Bool) (atom : ℕ)
    (a : IsAdded ks now bytes new more kind place is_class atom) → end_of (kept_of kind place is_class atom a.end) ≡ length (bytes ++ more)
behind_all ks now bytes new more kind place is_class atom a =
    end_is kind place is_class atom a.end ∙ a.ends ∙ ap (λ (l : List ℕ). length l) a.all

last_is : (ks now : List Kept) (bytes new more : List ℕ) (kind : TokenKind) (place : Place) (is_class : Bool) (atom : ℕ)
    (a : IsAdded ks now bytes new more kind place is_class atom) → now ≡ ks ++ kept_of kind place is_class atom a.end ∷ []
last_is ks now bytes new more kind place is_class atom a = a.is ∙ ap (λ (x : Kept). ks ++ x ∷ []) a.made

pub added_kept : (ks now : List Kept) (bytes new more : List ℕ) (kind : TokenKind) (place : Place) (is_class : Bool) (atom : ℕ)
    → IsAdded ks now bytes new more kind place is_class atom → AreKept 0 ks bytes → atom ≡ atom_of_kind is_class kind more
    → is_short kind more ≡ true → AreKept 0 now new
added_kept ks now bytes new more kind place is_class atom a kept seen short =
    let k = kept_of kind place is_class atom a.end in
    let all = more_kept 0 ks k bytes more kept (behind_all ks now bytes new more kind place is_class atom a) seen short in
    subst (λ (b : List ℕ). AreKept 0 now b) (sym a.all)
    (subst (λ (l : List Kept). AreKept 0 l (bytes ++ more)) (sym (last_is ks now bytes new more kind place is_class atom a)) all)

pub added_tokens : (ks now : List Kept) (bytes new more : List ℕ) (kind : TokenKind) (place : Place) (is_class : Bool) (atom : ℕ)
    → IsAdded ks now bytes new more kind place is_class atom → AreKept 0 ks bytes
    → kept_tokens 0 now new ≡ kept_tokens 0 ks bytes ++ record { kind = kind; bytes = more; place = place; is_class = is_class } ∷ []
added_tokens ks now bytes new more kind place is_class atom a kept =
    ap (λ (l : List Kept). kept_tokens 0 l new) (last_is ks now bytes new more kind place is_class atom a)
    ∙ ap (λ (b : List ℕ). kept_tokens 0 (ks ++ kept_of kind place is_class atom a.end ∷ []) b) a.all
    ∙ one_more 0 ks (kept_of kind place is_class atom a.end) bytes more kept (behind_all ks now bytes new more kind place is_class atom a)

-- The first tokens are left

pub cut_kept : (ks now : List Kept) (bytes new : List ℕ) (n end : ℕ) → AreKept 0 ks bytes → now ≡ take n ks → new ≡ take end bytes
    → end ≡ end_of_all 0 (take n ks) → AreKept 0 now new
cut_kept ks now bytes new n end kept is left ends = subst (λ (b : List ℕ). AreKept 0 now b) (sym left)
    (subst (λ (l : List Kept). AreKept 0 l (take end bytes)) (sym is) (first_kept ks bytes n end kept ends))

pub cut_tokens : (ks now : List Kept) (bytes new : List ℕ) (n end : ℕ) → AreKept 0 ks bytes → now ≡ take n ks → new ≡ take end bytes
    → end ≡ end_of_all 0 (take n ks) → kept_tokens 0 now new ≡ take n (kept_tokens 0 ks bytes)
cut_tokens ks now bytes new n end kept is left ends =
    ap (λ (l : List Kept). kept_tokens 0 l new) is ∙ ap (λ (b : List ℕ). kept_tokens 0 (take n ks) b) left
    ∙ first_tokens ks bytes n end kept ends

-- The atom of a token is by its bytes.

pub part_seen : (ks : List Kept) (bytes part : List ℕ) (at : ℕ) (k : Kept) → AreKept 0 ks bytes → slice_get ks at ≡ Some k
    → part ≡ between (end_of_all 0 (take at ks)) (end_of k) bytes → k.atom ≡ atom_of_kind k.is_class k.kind part
part_seen ks bytes part at k kept is all =
    subst (λ (b : List ℕ). k.atom ≡ atom_of_kind k.is_class k.kind b) (sym all) (kept_at 0 ks bytes at k kept is).seen

pub part_short : (ks : List Kept) (bytes part : List ℕ) (at : ℕ) (k : Kept) → AreKept 0 ks bytes → slice_get ks at ≡ Some k
    → part ≡ between (end_of_all 0 (take at ks)) (end_of k) bytes → is_short k.kind part ≡ true
part_short ks bytes part at k kept is all =
    subst (λ (b : List ℕ). is_short k.kind b ≡ true) (sym all) (kept_at 0 ks bytes at k kept is).short
