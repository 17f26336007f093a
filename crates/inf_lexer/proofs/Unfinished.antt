-- A token, or a word of a head, that is not ended by the bytes that were given.
use Rattle.std.proofs.Common.{◌≡◌, ◌⊎◌, inl, inr, ℕ, ◌+◌, ◌-◌, ◌≤◌, ◌<◌, List, [], ◌++◌, length, Bool, true, false, cond, IsTrue, refl}
use Rattle.std.proofs.Common.{sym, ap, subst, ◌∙◌, arith, append_assoc}
use Rattle.inf_devices.specs.declared.files.Files.{Ghosts as Files}
use Rattle.inf_lexer.specs.{Readers.StaysOpen, Reading.Fills, Reading.Heard, Unread.Gave, Unread.View, Unread.to_come, Unread.unread}

past_of : (before after some : ℕ) → before ≤ 16777216 → after ≡ before + some →
    (after ≡ before) ⊎ ((before ≡ 16777216) × (after ≡ 16777217)) → some ≡ after - 16777216
past_of before after some few is (inl same) = omega (arith, few, is, same)
past_of before after some few is (inr last) = omega (arith, is, last.0, last.1)

-- the end was not read before, where it was not read since
going_still : (before after : Bool) (bytes : List ℕ) → (before ≡ true → (bytes ≡ []) × (after ≡ true)) → after ≡ false → before ≡ false
going_still true after bytes stops e = let over : after ≡ true = (stops refl).1 in cc
going_still false after bytes stops e = refl

-- Nothing was in view any more and nothing more was given, where `now` takes all that follows and one byte at least of some bytes.
pub stays_open : {T S : Type 0} {f : Files S} {a b c : S} {u v w : View} {now was : List ℕ → T} (rest : T → List ℕ)
    → Heard T f false a b u v now was → Fills f true b c v w → (v.left ≡ []) × (v.is_over ≡ false)
    → (w.given ≡ v.given) ⊎ ((v.given ≡ 16777216) × (w.given ≡ 16777217)) → ((behind : List ℕ) → length (rest (now behind)) ≤ length behind)
    → (more : List ℕ) → length (rest (now more)) < length more → IsTrue (f.is_honest a)
    → StaysOpen (λ bytes. rest (was bytes)) (to_come (f.sources a) (f.openings a) u) (w.given - 16777216)
    (unread (f.sources a) (f.openings c))
stays_open {f = f} {a = a} {b = b} {c = c} {u = u} {v = v} {w = w} {now = now} {was = was} rest h r empty last within more takes honest =
    let read = r.went.bytes in let sources = f.sources a in
    let more_gave = subst (λ s. Gave s (f.openings b) (f.openings c) read) h.went.sources (r.went.gave (h.went.honesty ∙ honest)) in
    let found : (behind : List ℕ) → now behind ≡ was ((u.left ++ h.went.bytes) ++ behind) = λ behind.
    ap (λ l. now (l ++ behind)) (sym empty.0) ∙ h.same behind (λ over. let never : true ≡ false = sym over ∙ empty.1 in cc)
    ∙ ap was (sym (append_assoc u.left h.went.bytes behind)) in
    record {
      bytes = u.left ++ h.went.bytes;
      beyond = read;
      whole = ap (λ b. u.left ++ cond b [] (unread sources (f.openings a)))
          (going_still u.is_over v.is_over h.went.bytes h.went.stops empty.1)
          ∙ ap (λ l. u.left ++ l) ((h.went.gave honest).next ∙ ap (λ l. h.went.bytes ++ l) more_gave.next)
          ∙ sym (append_assoc u.left h.went.bytes (read ++ unread sources (f.openings c)));
      are_past = past_of v.given w.given (length read) h.went.few r.went.given last;
      ends_nothing = record {
        all = λ behind. subst (λ x. length (rest x) ≤ length behind) (found behind) (within behind);
        more = more;
        takes = subst (λ x. length (rest x) < length more) (found more) takes;
      };
    }
