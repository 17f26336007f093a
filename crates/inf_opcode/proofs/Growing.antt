-- Writing while a routine is open, piece by piece.
use Rattle.std.specs.Prelude.{Result, Ok, Err, OnErr}
use Rattle.std.proofs.Common.{◌≡◌, ℕ, ◌+◌, List, [], ◌∷◌, ◌++◌, length, refl, sym, ◌∙◌, ap, arith, append-nil, append_assoc, length-append}
use Rattle.std.proofs.lemmas.List.Concat.{flat_map-append}
use Rattle.inf_opcode.specs.{Grown.Grew, Grown.Longer, declared.cells.Kept.Kept, declared.cells.Special.Special}
use Rattle.inf_opcode.specs.Cells.{Cell, Plain, Of, plain, special_size, special_bytes, cell_bytes, long_bytes, kept_from}

pub length-special : (what : Special) → length (special_bytes what) ≡ special_size what
length-special (Special.Marks label) = refl
length-special (Special.Branches branch) = refl
length-special (Special.Jumps label) = refl
length-special (Special.Refers target) = refl

pub long-append : (xs ys : List Cell) → long_bytes (xs ++ ys) ≡ long_bytes xs ++ long_bytes ys
long-append xs ys = flat_map-append cell_bytes xs ys

pub kept-append : (place : ℕ) (xs ys : List Cell) →
    kept_from place (xs ++ ys) ≡ kept_from place xs ++ kept_from (place + length (long_bytes xs)) ys
kept-append place [] ys = ap (λ n. kept_from n ys) (omega arith)
kept-append place ((Plain byte) ∷ xs) ys =
    let next : place + 1 + length (long_bytes xs) ≡ place + (1 + length (long_bytes xs)) = omega arith in
    kept-append (place + 1) xs ys ∙ ap (λ n. kept_from (place + 1) xs ++ kept_from n ys) (next ∙ omega arith)
kept-append place ((Of what) ∷ xs) ys =
    let next : place + special_size what + length (long_bytes xs) ≡ place + length (special_bytes what ++ long_bytes xs) =
    omega (arith, length-append (special_bytes what) (long_bytes xs), length-special what) in
    ap (λ ks. record { place = place; what = what } ∷ ks)
    (kept-append (place + special_size what) xs ys ∙ ap (λ n. kept_from (place + special_size what) xs ++ kept_from n ys) next)

-- plain bytes are written as themselves, and nothing is kept of them
pub long-plain : (bytes : List ℕ) → long_bytes (plain bytes) ≡ bytes
long-plain [] = refl
long-plain (byte ∷ bytes) = ap (λ xs. byte ∷ xs) (long-plain bytes)

pub kept-plain : (place : ℕ) (bytes : List ℕ) → kept_from place (plain bytes) ≡ []
kept-plain place [] = refl
kept-plain place (byte ∷ bytes) = kept-plain (place + 1) bytes

-- Plain bytes grow what was written, and so does one special part.
pub grew_plain : (bytes added new_bytes : List ℕ) (kept : List Kept) → new_bytes ≡ bytes ++ added →
    Grew bytes kept (plain added) new_bytes kept
grew_plain bytes added new_bytes kept e = record {
  bytes = e ∙ ap (λ xs. bytes ++ xs) (sym (long-plain added));
  kept = sym (append-nil kept) ∙ ap (λ ks. kept ++ ks) (sym (kept-plain (length bytes) added));
}

pub grew_special : (bytes new_bytes : List ℕ) (kept new_kept : List Kept) (what : Special) → new_bytes ≡ bytes ++ special_bytes what →
    new_kept ≡ kept ++ record { place = length bytes; what = what } ∷ [] → Grew bytes kept (Of what ∷ []) new_bytes new_kept
grew_special bytes new_bytes kept new_kept what e f =
    record { bytes = e ∙ ap (λ xs. bytes ++ xs) (sym (append-nil (special_bytes what))); kept = f }

-- A piece written behind another grows what was written by both.
pub grew_then : {bytes mid new_bytes : List ℕ} {kept mid_kept new_kept : List Kept} {xs ys : List Cell} → Grew bytes kept xs mid mid_kept →
    Grew mid mid_kept ys new_bytes new_kept → Grew bytes kept (xs ++ ys) new_bytes new_kept
grew_then {bytes = bytes} {mid = mid} {kept = kept} {xs = xs} {ys = ys} first second =
    let longer : length mid ≡ length bytes + length (long_bytes xs) = ap length first.bytes ∙ length-append bytes (long_bytes xs) in
    record {
      bytes = second.bytes ∙ ap (λ b. b ++ long_bytes ys) first.bytes ∙ append_assoc bytes (long_bytes xs) (long_bytes ys)
          ∙ ap (λ b. bytes ++ b) (sym (long-append xs ys));
      kept = second.kept ∙ ap (λ k. k ++ kept_from (length mid) ys) first.kept
          ∙ append_assoc kept (kept_from (length bytes) xs) (kept_from (length mid) ys)
          ∙ ap (λ n. kept ++ (kept_from (length bytes) xs ++ kept_from n ys)) longer
          ∙ ap (λ k. kept ++ k) (sym (kept-append (length bytes) xs ys));
    }

pub longer_by : (bytes new_bytes added : List ℕ) (kept new_kept added_kept : List Kept) → new_bytes ≡ bytes ++ added →
    new_kept ≡ kept ++ added_kept → Longer bytes kept new_bytes new_kept
longer_by bytes new_bytes added kept new_kept added_kept e f = record { added = added; added_kept = added_kept; bytes = e; kept = f }

-- A fact that always holds also holds where a call is refused.
pub on_err : {T E Q : Type 0} (r : Result T E) → Q → OnErr r Q
on_err (Ok x) q = tt
on_err (Err e) q = q
