-- Calls that read on in the innermost source: one behind the other, and where bytes are taken.
use Rattle.std.proofs.Common.{◌≡◌, ◌+◌, ◌<◌, ◌≤◌, ◌⊎◌, ◌==◌, inl, inr, ℕ, List, [], ◌++◌, length, take, drop, Bool, true, false, cond}
use Rattle.std.proofs.Common.{IsErr, IsErrAnd, IsTrue, Result, Err, Ok, refl, sym, ap, subst, ◌∙◌, arith, append_assoc, length-append}
use Rattle.std.proofs.Common.{length-drop, length-take}
use Rattle.std.proofs.Math.Path.{subst⁻¹}
use Rattle.std.proofs.lemmas.Bool.Decides.{nat_tests}
use Rattle.inf_devices.specs.Files.{Openings, Rose, Sources}
use Rattle.inf_devices.specs.declared.{files.Files.Ghosts as Files, files.ReadFault.ReadFault}
use Rattle.inf_lexer.specs.Reading.{Fills, Heard, ReadsOn, ReadsOnce, Unless, When, is_read, tells_read}
use Rattle.inf_lexer.specs.Unread.{CanFollow, Ends, Gave, StillGives, View, behind_view, innermost, to_come, unread}
use Rattle.inf_lexer.specs.declared.faults.LexFault.{LexFault}
use Rattle.inf_lexer.proofs.{Counting.counts_more, Counting.counts_same, Counting.counts_then, Giving.gave_more, Giving.gave_nothing}
use Rattle.inf_lexer.proofs.{Giving.gave_of, Giving.nothing_left, Giving.still_open}

pub unless_as : (b : Bool) {P Q : Type 0} → (P → Q) → Unless b P → Unless b Q
unless_as true by p = tt
unless_as false by p = by p

when_as : (b : Bool) {P Q : Type 0} → (P → Q) → When b P → When b Q
when_as true by p = by p
when_as false by p = tt

pub unless_is : (b : Bool) {P : Type 0} → P → Unless b P
unless_is true p = tt
unless_is false p = p

-- no call
pub reads_none : {S : Type 0} {f : Files S} {s : S} {v : View} → v.given ≤ 16777216 → length v.left ≤ 4096 → ReadsOn f false s s v v
reads_none few window = record {
  sources = refl;
  honesty = refl;
  depth = refl;
  opened = refl;
  faults = omega arith;
  calm = refl;
  few = few;
  cause = tt;
  on = tt;
  window = window;
  bytes = [];
  given = omega arith;
  stops = λ over. (refl, over);
  counts = counts_same refl refl;
  gave = λ honest. gave_nothing;
  end = λ honest ends. ends;
  still = λ honest still. still;
}

-- a call behind another
pub reads_then : {S : Type 0} {f : Files S} {failed : Bool} {a b c : S} {u v w : View}
    → ReadsOn f false a b u v → ReadsOn f failed b c v w → ReadsOn f failed a c u w
reads_then {f = f} {failed = failed} {a = a} {b = b} {c = c} {v = v} {w = w} p q =
    let honest : IsTrue (f.is_honest a) → IsTrue (f.is_honest b) = λ h. p.honesty ∙ h in
    record {
      sources = q.sources ∙ p.sources;
      honesty = q.honesty ∙ p.honesty;
      depth = q.depth ∙ p.depth;
      opened = q.opened ∙ p.opened;
      faults = omega (arith, p.faults, q.faults);
      calm = unless_as failed (λ same. same ∙ p.calm) q.calm;
      few = q.few;
      cause = when_as failed (λ why. subst (λ n. Rose n (f.faults c) ⊎ (16777216 < w.given)) p.calm why) q.cause;
      on = q.on;
      window = q.window;
      bytes = p.bytes ++ q.bytes;
      given = omega (arith, p.given, q.given, length-append p.bytes q.bytes);
      stops = λ over. (ap (λ bs. bs ++ q.bytes) (p.stops over).0 ∙ (q.stops (p.stops over).1).0, (q.stops (p.stops over).1).1);
      counts = counts_then p.counts q.counts;
      gave = λ h. gave_more (p.gave h) (subst (λ s. Gave s (f.openings b) (f.openings c) q.bytes) p.sources (q.gave (honest h)));
      end = λ h ends. subst (λ s. Ends s (f.openings c) w) p.sources
          (q.end (honest h) (subst⁻¹ (λ s. Ends s (f.openings b) v) p.sources (p.end h ends)));
      still = λ h still. q.still (honest h) (p.still h still);
    }

-- bytes that are in view are taken
taken_of : {S : Type 0} {f : Files S} {failed : Bool} {a b : S} {u v : View} (n : ℕ)
    → ReadsOn f failed a b u v → ReadsOn f failed a b u (record v { left = drop n v.left })
taken_of {v = v} n r = record {
  sources = r.sources;
  honesty = r.honesty;
  depth = r.depth;
  opened = r.opened;
  faults = r.faults;
  calm = r.calm;
  few = r.few;
  cause = r.cause;
  on = r.on;
  window = omega (arith, r.window, length-drop n v.left);
  bytes = r.bytes;
  given = r.given;
  stops = r.stops;
  counts = r.counts;
  gave = r.gave;
  end = r.end;
  still = r.still;
}

-- a refused answer by its fault
pub fault_is : {T E : Type 0} (answer : Result T E) {fault : E} → IsErr answer × IsErrAnd answer (λ x. x ≡ fault) → answer ≡ Err fault
fault_is (Ok x) told = cc
fault_is (Err x) told = ap Err told.1

-- a call that was refused
pub reads_refused : {S : Type 0} {f : Files S} {a b : S} {u v : View} {T : Type 0} {answer : Result T LexFault} {fault : LexFault}
    → answer ≡ Err fault → ReadsOn f (is_read fault) a b u v → ReadsOn f (tells_read answer) a b u v
reads_refused {f = f} {a = a} {b = b} {u = u} {v = v} same r = subst⁻¹ (λ x. ReadsOn f (tells_read x) a b u v) same r

-- one reading into a view of which nothing is left
pub fills_once : {S : Type 0} {f : Files S} (failed : Bool) {old new : S} {before after : View} {bytes : List ℕ} {n : ℕ}
    → before.left ≡ [] → before.is_over ≡ false → before.given ≤ 16777216 → ReadsOnce f old new bytes (Ok n) → n ≤ length bytes → n ≤ 4096
    → after.left ≡ take n bytes → after.given ≡ before.given + n → after.is_over ≡ (n == 0)
    → Unless failed (after.given ≤ 16777216) → When failed (16777216 < after.given) → Fills f failed old new before after
fills_once failed {before = before} {after = after} {bytes = bytes} {n = n} empty going most r within small left given over few many =
    let size : length (take n bytes) ≡ n = omega (arith, within, length-take n bytes) in
    record {
      went = record {
        sources = r.sources;
        honesty = r.honesty;
        depth = r.depth;
        opened = r.opened;
        faults = r.faults;
        calm = unless_is failed (r.calm refl);
        few = few;
        cause = when_as failed inr many;
        on = when_as failed (λ more. over ∙ some n (omega (arith, more, most, given))) many;
        window = omega (arith, ap length left, size, small);
        bytes = take n bytes;
        given = omega (arith, size, given);
        stops = λ is. let never : true ≡ false = sym is ∙ going in cc;
        counts = counts_more n r.counts given (omega (arith, most, small, given));
        gave = λ honest. gave_of (r.reads honest);
        end = λ honest ends is. nothing_left (r.reads honest) (none n (sym over ∙ is));
        still = λ honest still more. still_open (r.reads honest) (omega (arith, size, least n (sym over ∙ more))) (still going);
      };
      same = λ behind can. ap (λ l. l ++ behind) left ∙ ap (λ l. l ++ (take n bytes ++ behind)) (sym empty);
    }
  where
    some : (k : ℕ) → 0 < k → (k == 0) ≡ false
    some k less = grind (arith, nat_tests)

    least : (k : ℕ) → (k == 0) ≡ false → 0 < k
    least k more = grind (arith, nat_tests)

    none : (k : ℕ) → (k == 0) ≡ true → take k bytes ≡ []
    none k is = let e : k ≡ 0 = grind (arith, nat_tests) in ap (λ m. take m bytes) e

-- a reading that failed
pub fills_failed : {S : Type 0} {f : Files S} {old new : S} {before after : View} {bytes : List ℕ} {fault : ReadFault}
    → before.left ≡ [] → before.is_over ≡ false → ReadsOnce f old new bytes (Err fault)
    → after.left ≡ [] → after.given ≡ before.given → after.is_over ≡ before.is_over → Fills f true old new before after
fills_failed {f = f} {old = old} {new = new} {before = before} {after = after} empty going r left given over = record {
  went = record {
    sources = r.sources;
    honesty = r.honesty;
    depth = r.depth;
    opened = r.opened;
    faults = r.faults;
    calm = tt;
    few = tt;
    cause = inl (r.cause refl);
    on = over ∙ going;
    window = omega (arith, ap length left);
    bytes = [];
    given = omega (arith, given);
    stops = λ is. let never : true ≡ false = sym is ∙ going in cc;
    counts = counts_same r.counts given;
    gave = λ honest. subst⁻¹ (λ o. Gave (f.sources old) (f.openings old) o []) (r.reads honest) gave_nothing;
    end = λ honest ends is. let never : true ≡ false = sym is ∙ over ∙ going in cc;
    still = λ honest still more. ap (λ o. (innermost o).is_read_out) (r.reads honest) ∙ still going;
  };
  same = λ behind can. ap (λ l. l ++ behind) left ∙ ap (λ l. l ++ behind) (sym empty);
}

-- no byte was read on
pub heard_none : {T : Type 0} {S : Type 0} {f : Files S} {s : S} {v : View} {now : List ℕ → T} → v.given ≤ 16777216
    → length v.left ≤ 4096 → Heard T f false s s v v now now
unfolding reads_none
heard_none few window = record { went = reads_none few window; same = λ behind can. refl }

-- bytes that come into view behind those that were heard
pub heard_on : {T : Type 0} {S : Type 0} {f : Files S} {failed : Bool} {a b c : S} {u v w : View} {now was : List ℕ → T}
    → Heard T f false a b u v now was → Fills f failed b c v w → Heard T f failed a c u w now was
unfolding reads_then
heard_on {u = u} {now = now} {was = was} h r = record {
  went = reads_then h.went r.went;
  same = λ behind can. ap now (r.same behind can)
      ∙ h.same (r.went.bytes ++ behind) (λ over. ap (λ bs. bs ++ behind) (r.went.stops over).0 ∙ can (r.went.stops over).1)
      ∙ ap (λ bs. was (u.left ++ bs)) (sym (append_assoc h.went.bytes r.went.bytes behind));
}

-- The value of all that is still to come may be another one, where it is the same from here.
pub heard_same : {T : Type 0} {S : Type 0} {f : Files S} {failed : Bool} {a b : S} {u v : View} {now was : List ℕ → T} {next : List ℕ → T}
    → Heard T f failed a b u v now was → ((rest : List ℕ) → CanFollow v rest → next (v.left ++ rest) ≡ now (v.left ++ rest))
    → Heard T f failed a b u v next was
heard_same h same = record { went = h.went; same = λ behind can. same behind can ∙ h.same behind can }

-- More bytes come into view, and `n` are taken, which ends with the turn `t`: `next` is the value by a turn.
pub heard_taken : {T X S : Type 0} {f : Files S} {a b c : S} {u v w x : View} {now was : List ℕ → T} {t s : X} {left : List ℕ}
    (next : X → List ℕ → T) (n : ℕ) → Heard T f false a b u v now was → Fills f false b c v w → left ≡ w.left
    → x ≡ record w { left = drop n w.left } → ((rest : List ℕ) → next t (drop n left ++ rest) ≡ now (left ++ rest)) → t ≡ s
    → Heard T f false a c u x (next s) was
unfolding taken_of
heard_taken {T = T} {f = f} {a = a} {c = c} {u = u} {w = w} {x = x} {now = now} {was = was} {t = t} next n h r seen passed found turned =
    let on = heard_on h r in
    subst (λ k. Heard T f false a c u x (next k) was) turned (subst⁻¹ (λ v. Heard T f false a c u v (next t) was) passed (record {
      went = taken_of n on.went;
      same = λ behind can. subst (λ l. next t (drop n l ++ behind) ≡ now (l ++ behind)) seen (found behind) ∙ on.same behind can;
    }))

-- a value that is made of the one that was heard
pub heard_as : {T U : Type 0} {S : Type 0} {f : Files S} {failed : Bool} {a b : S} {u v : View} {now was : List ℕ → T} (make : T → U)
    → Heard T f failed a b u v now was → Heard U f failed a b u v (λ rest. make (now rest)) (λ rest. make (was rest))
heard_as make h = record { went = h.went; same = λ behind can. ap make (h.same behind can) }

can_follow : (s : Sources) (o : Openings) (v : View) → CanFollow v (behind_view s o v)
can_follow s o v = λ over. ap (λ b. cond b [] (unread s o)) over

-- the bytes that follow the view, before and after a reading
follows : (b c : Bool) {before after bytes : List ℕ} → (b ≡ true → (bytes ≡ []) × (c ≡ true)) → before ≡ bytes ++ after →
    (b ≡ false → c ≡ true → after ≡ []) → cond b [] before ≡ bytes ++ cond c [] after
follows true c {after = after} stops next ends =
    sym (ap (λ bs. bs ++ cond c [] after) (stops refl).0 ∙ ap (λ x. cond x [] after) (stops refl).1)
follows false true {bytes = bytes} stops next ends = next ∙ ap (λ u. bytes ++ u) (ends refl refl)
follows false false stops next ends = next

-- With an honest reader, the value of all that is still to come stays the same.
pub heard_source : {T : Type 0} {S : Type 0} {f : Files S} {failed : Bool} {a b : S} {u v : View} {now was : List ℕ → T}
    → Heard T f failed a b u v now was → IsTrue (f.is_honest a)
    → now (to_come (f.sources a) (f.openings b) v) ≡ was (to_come (f.sources a) (f.openings a) u)
heard_source {f = f} {a = a} {b = b} {u = u} {v = v} {was = was} h honest =
    let s = f.sources a in
    h.same (behind_view s (f.openings b) v) (can_follow s (f.openings b) v)
    ∙ ap (λ bs. was (u.left ++ bs)) (sym (follows u.is_over v.is_over h.went.stops (h.went.gave honest).next
    (λ going over. (h.went.end honest (λ is. let never : true ≡ false = sym is ∙ going in cc) over).0)))

-- lines are no more than bytes, behind `n` bytes that were taken
pub room_on : (line now n : ℕ) (v : View) {left : List ℕ} {w x : View} → line + length v.left ≤ v.given + 1
    → w.given + length v.left ≡ v.given + length w.left → left ≡ w.left → x ≡ record w { left = drop n w.left } → n ≤ length left
    → now ≤ line + n → now + length x.left ≤ x.given + 1
room_on line now n v {w = w} room filled seen passed within few = omega (
  arith,
  room,
  filled,
  ap length seen,
  ap (λ (y : View). length y.left) passed,
  ap (λ (y : View). y.given) passed,
  length-drop n w.left,
  within,
  few,
)
