use Rattle.std.proofs.Common.{◌≡◌, ◌≤◌, ◌+◌, ◌-◌, ◌==◌, ℕ, suc, zero, List, None, OnOk, Option, ap, arith, drop, false, get_or}
use Rattle.std.proofs.Common.{if◌then◌else◌, length, reverse, subst, sym, take}
use Rattle.std.proofs.Common.{◌∙◌}
use Rattle.std.proofs.Math.Dec.{eqb-suc-zero}
use Rattle.inf_conditionals.specs.{Truths.Truth, Truths.odd, Truths.test_of, Truths.tested_behind, Truths.with_value, Values.tested}
use Rattle.inf_conditionals.proofs.Backwards.{test_behind}
use Rattle.inf_conditionals.proofs.truth.Truth.test_of.Goals as goal

not_zero : (n : ℕ) → 1 ≤ n → (n == 0) ≡ false
not_zero zero some = absurd (omega (arith, some))
not_zero (suc n) some = eqb-suc-zero n

pub returns : goal.returns
returns c =
    let k = c.self.inside in let xs = k.values.items in let sense = c.args.sense in let test = c.args.test in
    let parts = c.args.parts in let before = c.len-count.result - parts - 1 in
    let t : Truth = record {
      counts = reverse k.counts.items;
      values = reverse xs;
      ahead = k.ahead;
      is_false = k.is_false;
      is_odd = k.is_odd;
    } in
    let all : parts + suc before ≡ length xs = omega (arith, c.len-count.ensures, k.values.ok.0, c.if-count-parts.false) in
    let some : (parts == 0) ≡ false = not_zero parts (omega (arith, c.if-parts-eq0.false)) in
    let first : c.value_at-a.result ≡ get_or xs before None =
    c.value_at-a.ensures ∙ ap (λ (l : List (Option ℕ)). get_or l before None) c.as_slice.ensures.value in
    let next : before + 1 ≡ suc before = omega arith in
    let left : c.behind.result.now ≡ drop (suc before) xs =
    c.behind.ensures ∙ ap (λ (l : List (Option ℕ)). drop (before + 1) l) c.as_slice-2.ensures.value ∙ ap (λ i. drop i xs) next in
    let value : c.in_ok-value.value ≡ tested sense test (get_or xs before None) (drop (suc before) xs) =
    c.in_ok-value.ensures ∙ ap (λ (x : Option ℕ). tested sense test x c.behind.result.now) first
    ∙ ap (λ (l : List (Option ℕ)). tested sense test (get_or xs before None) l) left in
    subst (λ (x : Truth). OnOk c.add.result (c.add.new.self ≡ x))
    (ap (λ (x : Option ℕ). with_value x (reverse c.truncate.new.self.items) t) value
    ∙ ap (λ (l : List (Option ℕ)). with_value (tested sense test (get_or xs before None) (drop (suc before) xs)) (reverse l) t)
    c.truncate.ensures.items ∙ test_behind sense test parts before xs t all
    ∙ ap (λ b. if b then odd t else tested_behind sense test (drop parts t.values) (reverse (take parts t.values)) t) (sym some)
    ∙ ap (λ (x : Truth). test_of sense test parts x) c.self.view_is) c.add.ensures
