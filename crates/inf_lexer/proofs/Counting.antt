-- The counts of a reader, where more of the innermost source is read.
use Rattle.std.proofs.Common.{◌≡◌, ◌+◌, ◌<◌, ◌≤◌, ◌&&◌, ℕ, Bool, true, false, List, [], ◌∷◌, refl, subst, sym, ap, arith, min, not}
use Rattle.std.proofs.lemmas.Bool.{ltb-false, ltb-true}
use Rattle.std.specs.Prelude.{if◌then◌else◌}
use Rattle.inf_devices.specs.Files.{Counts, counts_given, each_given, is_too_long, last_count, most_source_bytes, too_long_given}
use Rattle.inf_lexer.specs.Counted.{CountsOn}

-- nothing was read
pub counts_same : {old new : Counts} {before after : ℕ} → new ≡ old → after ≡ before → CountsOn old new before after
counts_same {old = old} {before = before} {after = after} same none = subst (λ (c : Counts). CountsOn old c before after) (sym same)
    (subst (λ (n : ℕ). CountsOn old old before n) (sym none) (record { too_long = omega arith; stays = λ outer base counted. counted }))

-- a number that is counted up in a case, or not, is at least as large as before
counted_up : (m n : ℕ) (b : Bool) → m ≤ n → m ≤ last_count → m ≤ (if b then min (n + 1) last_count else n)
counted_up m n true less last = omega (arith, less, last)
counted_up m n false less last = less

too_long_more : (n : ℕ) (each : List ℕ) (m too_long : ℕ) → m ≤ too_long → m ≤ last_count → m ≤ too_long_given n each too_long
too_long_more n [] m too_long less last = less
too_long_more n (count ∷ outer) m too_long less last =
    counted_up m too_long (is_too_long (min (count + n) last_count) && not (is_too_long count)) less last

-- an opening that is too long now was so before, or is counted
found_long : (base too_long before now : ℕ) (was is : Bool) → is_too_long before ≡ was → is_too_long now ≡ is
    → min base last_count ≤ too_long → (most_source_bytes < before → min (base + 1) last_count ≤ too_long) → most_source_bytes < now
    → min (base + 1) last_count ≤ (if is && not was then min (too_long + 1) last_count else too_long)
found_long base too_long before now true true e d least long over = long (ltb-true most_source_bytes before e)
found_long base too_long before now false true e d least long over = omega (arith, least)
found_long base too_long before now true false e d least long over = absurd (omega (arith, over, ltb-false most_source_bytes now d))
found_long base too_long before now false false e d least long over = absurd (omega (arith, over, ltb-false most_source_bytes now d))

-- one reading gave `n` bytes
pub counts_more : {old new : Counts} {before after : ℕ} (n : ℕ) → new ≡ counts_given n old → after ≡ before + n → after ≤ last_count
    → CountsOn old new before after
counts_more {old = old} {before = before} {after = after} n is more few = subst (λ (c : Counts). CountsOn old c before after) (sym is)
    (record {
      too_long = too_long_more n old.each (min old.too_long last_count) old.too_long (omega arith) (omega arith);
      stays = λ outer base counted.
          let count : ℕ = min (counted.count + n) last_count in
          let long : (counts_given n old).too_long ≡ too_long_given n (counted.count ∷ outer) old.too_long =
          ap (λ (each : List ℕ). too_long_given n each old.too_long) counted.is in
          record {
            count = count;
            is = ap (each_given n) counted.is;
            within = omega (arith, counted.within, more, few);
            least = too_long_more n old.each (min base last_count) old.too_long counted.least (omega arith);
            too_long = λ over. subst (λ (m : ℕ). min (base + 1) last_count ≤ m) (sym long)
                (found_long base old.too_long counted.count count (is_too_long counted.count) (is_too_long count) refl refl counted.least
                counted.too_long over);
          };
    })

-- a reading behind another
pub counts_then : {a b c : Counts} {x y z : ℕ} → CountsOn a b x y → CountsOn b c y z → CountsOn a c x z
counts_then p q = record {
  too_long = omega (arith, p.too_long, q.too_long);
  stays = λ outer base counted. q.stays outer base (p.stays outer base counted);
}
