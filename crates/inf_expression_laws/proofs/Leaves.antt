-- Leaves and opening brackets, by the last token of a unit.
use Rattle.std.proofs.Common.{◌≡◌, ℕ, zero, suc, ◌+◌, ◌-◌, ◌≤◌, ◌<◌, List, [], ◌∷◌, ◌++◌, length, Bool, true, false, ◌&&◌, ◌==◌, Some, refl}
use Rattle.std.proofs.Common.{sym, ◌∙◌, ap, append_assoc, arith, option_map, slice_get}
use Rattle.std.proofs.{lemmas.List.length-append, lemmas.Nat.Bits.bit_at-pow_other}
use Rattle.std.proofs.lemmas.Bool.{both_ways, cond-true, cond-false, eq-eqb, eqb-false, eqb-true, ne_eqb}
use Rattle.inf_machine.specs.Grammar.{has}
use Rattle.inf_scanner.specs.{declared.tokens.Mark.Mark, declared.tokens.TokenKind.TokenKind}
use Rattle.inf_syntax.specs.{Atoms.mark_atom, Atoms.of_mark, Classes.operand as operand_names}
use Rattle.inf_expressions.specs.{Sources.Leaf, declared.symbols.Symbol.Symbol}
use Rattle.inf_gathering.specs.{Gatherings.with_bracket, Gatherings.with_leaf, declared.gathering.Leaf.Leaf as Gathered}
use Rattle.inf_unit.specs.{Tokens.SourceToken, Units.Unit, Units.is_alone, Units.is_first, Units.is_sign, Units.is_some_mark, Units.kind_at}
use Rattle.inf_unit.specs.{Units.last_leaf, Units.leaf_of, Units.marked_from, Units.order, Units.told_leaf, Units.with_last}
use Rattle.inf_expression_laws.specs.Precedence.{Written, operand, action, system, opening_sign, operands, primaries}
use Rattle.inf_expression_laws.specs.Gathered.{kind_in, leaf_behind, leaf_read}
use Rattle.inf_expression_laws.proofs.{Items.Item, Items.Opened, Items.Sign, Items.Whole, Steps.placed}
use Rattle.inf_expression_laws.proofs.Standing.{Frame, gained, Stands, read, whole, opened}

-- A unit that has taken some tokens of those of a frame
pub record At (f : Frame) (u : Unit) (count : ℕ) (tokens : List SourceToken) : Type 0 where
  pub all : f.all ≡ u.tokens ++ tokens
  pub long : length u.tokens ≡ f.order + count
  pub outer : u.outer ≡ f.outer
  pub begun : u.begun ≡ f.begun
  pub early : f.begun ≤ f.order
  pub ready : u.is_over ≡ false
  pub few : length f.all < 4294967295

in_front_of : {A : Type 0} (xs ys : List A) (at : ℕ) → at < length xs → slice_get (xs ++ ys) at ≡ slice_get xs at
in_front_of [] ys at l = absurd (omega (arith, l))
in_front_of (x ∷ xs) ys zero l = refl
in_front_of (x ∷ xs) ys (suc at) l = in_front_of xs ys at (omega (arith, l))

pub kind_kept : (f : Frame) (u : Unit) (count : ℕ) (tokens : List SourceToken) → At f u count tokens → (at : ℕ) → at < length u.tokens →
    kind_at u.tokens at ≡ kind_at f.all at
kind_kept f u count tokens a at l =
    ap (option_map (λ (t : SourceToken). t.kind)) (sym (in_front_of u.tokens tokens at l) ∙ ap (λ ts. slice_get ts at) (sym a.all))

order_is : (at : ℕ) → at < 4294967295 → order at ≡ at
unfolding order
order_is at l = omega (arith, l)

within_all : (f : Frame) (u : Unit) (count : ℕ) (tokens : List SourceToken) → At f u count tokens → length u.tokens < 4294967295
within_all f u count tokens a = omega (arith, a.few, ap length a.all, length-append u.tokens tokens)

-- whether the last token is an operand of an assembly line by itself
alone_is : (f : Frame) (u : Unit) (count : ℕ) (tokens : List SourceToken) → At f u count tokens → 0 < count → (at n : ℕ) → at ≡ n →
    is_alone at u ≡ (is_first n f.outer && is_some_mark Mark.At (kind_at f.all f.begun))
alone_is f u count tokens a some at n e i = is_first (e i) (a.outer i)
    && (ap (λ b. is_some_mark Mark.At (kind_at u.tokens b)) a.begun ∙ ap (is_some_mark Mark.At)
    (kind_kept f u count tokens a f.begun (omega (arith, a.long, a.early, some)))) i

-- the leaf of a token that is one by itself
leaf_is : (f : Frame) (n : ℕ) (k : TokenKind) → kind_at f.all n ≡ Some k →
    leaf_read f.outer f.begun f.all n n ≡ told_leaf (is_first n f.outer && is_some_mark Mark.At (kind_at f.all f.begun)) (leaf_of n k)
leaf_is f n k e =
    let told = is_first n f.outer && is_some_mark Mark.At (kind_at f.all f.begun) in
    cond-true (n == n) (told_leaf told (leaf_of n (kind_in (kind_at f.all n)))) (leaf_behind (kind_at f.all n) n)
    (eq-eqb n n refl)
    ∙ ap (λ o. told_leaf told (leaf_of n (kind_in o))) e

pub leaf_stands : {f : Frame} {rest : List Item} {seen : List ℕ} (u : Unit) (tokens : List SourceToken) → At f u (length seen) tokens →
    Stands f (Sign operands ∷ rest) seen u.gathering →
    Stands f (Whole primaries ∷ rest) seen (with_last (last_leaf u) (is_alone (last_leaf u) u) (kind_at u.tokens (last_leaf u)) u.gathering)
leaf_stands {f} u tokens a (read seen atom s h k) =
    let g = u.gathering in
    let n = f.order + length seen in
    let at = last_leaf u in
    let count : length (seen ++ atom ∷ []) ≡ length seen + 1 = length-append seen (atom ∷ []) in
    let last : at ≡ n = omega (arith, a.long, count) in
    let kind : kind_at u.tokens at ≡ Some k.seen =
    kind_kept f u (length (seen ++ atom ∷ [])) tokens a at (omega (arith, a.long, count)) ∙ ap (kind_at f.all) last ∙ k.is in
    let order_last : order at ≡ n = order_is at (omega (arith, within_all f u (length (seen ++ atom ∷ [])) tokens a)) ∙ last in
    let told = alone_is f u (length (seen ++ atom ∷ [])) tokens a (omega (arith, count)) at n last in
    let one : gained f (Leaf n n (length g.leaves)) g ≡ with_leaf n n
    (told_leaf (is_first n f.outer && is_some_mark Mark.At (kind_at f.all f.begun)) (leaf_of n k.seen)) g =
    (λ i. record {
      leaves = g.leaves ++ leaf_is f n k.seen k.is i ∷ [];
      symbols = g.symbols ++ Symbol.Leaf n n (length g.leaves) ∷ [];
      firsts = n ∷ g.firsts;
      counts = g.counts;
      brackets = g.brackets;
    }) in
    let other : with_last at (is_alone at u) (kind_at u.tokens at) g ≡ with_leaf n n
    (told_leaf (is_first n f.outer && is_some_mark Mark.At (kind_at f.all f.begun)) (leaf_of n k.seen)) g =
    ap (λ o. with_last at (is_alone at u) o g) kind
    ∙ (λ i. with_leaf (order_last i) (order_last i) (told_leaf (told i) (leaf_of (last i) k.seen)) g) in
    placed refl (one ∙ sym other) (whole seen (atom ∷ []) (Leaf n n (length g.leaves)) g s (operand h))

-- the sign before the name of an action or a system constant
only_mark : (m : Mark) (atom : ℕ) → has (of_mark m) atom ≡ true → atom ≡ mark_atom m
only_mark m atom h = by_test (atom == mark_atom m) refl
  where
    by_test : (b : Bool) → (atom == mark_atom m) ≡ b → atom ≡ mark_atom m
    by_test true e = eqb-true atom (mark_atom m) e
    by_test false e = absurd (both_ways (has (of_mark m) atom) (ap (λ b. b == 1) (bit_at-pow_other (mark_atom m) atom
        (eqb-false atom (mark_atom m) e))) h)

-- a name behind a sign that determines its leaf
signed_stands : (m : Mark) (made : ℕ → Gathered) → ((at : ℕ) → leaf_behind (Some (TokenKind.Mark m)) at ≡ made at) →
    is_sign (Some (TokenKind.Mark m)) ≡ true →
    ((order place sign atom : ℕ) → has (of_mark m) sign ≡ true → has operand_names atom ≡ true →
    Written primaries order place (sign ∷ atom ∷ []) (Leaf order (suc order) place)) →
    {f : Frame} {rest : List Item} {seen : List ℕ} (u : Unit) (tokens : List SourceToken) → At f u (length seen) tokens →
    Stands f (Sign operand_names ∷ Sign (of_mark m) ∷ rest) seen u.gathering →
    Stands f (Whole primaries ∷ rest) seen (with_leaf (order (marked_from u.tokens (last_leaf u))) (order (last_leaf u))
    (made (last_leaf u)) u.gathering)
signed_stands m made makes signs written {f} u tokens a (read _ atom (read seen sign s l j) h k) =
    let g = u.gathering in
    let n = f.order + length seen in
    let at = last_leaf u in
    let count : length ((seen ++ sign ∷ []) ++ atom ∷ []) ≡ length seen + 2 =
    omega (arith, length-append (seen ++ sign ∷ []) (atom ∷ []), length-append seen (sign ∷ [])) in
    let last : at ≡ suc n = omega (arith, a.long, count) in
    let before : at - 1 ≡ n = omega (arith, last) in
    let order_last : order at ≡ suc n =
    order_is at (omega (arith, within_all f u (length ((seen ++ sign ∷ []) ++ atom ∷ [])) tokens a)) ∙ last in
    let mark_is : kind_at f.all n ≡ Some (TokenKind.Mark m) = j.is ∙ ap Some (j.mark m (only_mark m sign l)) in
    let hash : kind_at u.tokens (at - 1) ≡ Some (TokenKind.Mark m) =
    kind_kept f u (length ((seen ++ sign ∷ []) ++ atom ∷ [])) tokens a (at - 1) (omega (arith, a.long, count))
    ∙ ap (kind_at f.all) before
    ∙ mark_is in
    let begun : marked_from u.tokens at ≡ n =
    cond-true (is_sign (kind_at u.tokens (at - 1))) (at - 1) at (ap is_sign hash ∙ signs) ∙ before in
    let order_first : order (marked_from u.tokens at) ≡ n =
    ap order begun ∙ order_is n (omega (arith, last, within_all f u (length ((seen ++ sign ∷ []) ++ atom ∷ [])) tokens a)) in
    let leaf_of_name : leaf_read f.outer f.begun f.all n (suc n) ≡ made at =
    cond-false (n == suc n) (told_leaf (is_first (suc n) f.outer && is_some_mark Mark.At (kind_at f.all f.begun))
    (leaf_of (suc n) (kind_in (kind_at f.all (suc n))))) (leaf_behind (kind_at f.all n) (suc n)) (ne_eqb n (suc n) (omega arith))
    ∙ ap (λ o. leaf_behind o (suc n)) mark_is
    ∙ makes (suc n)
    ∙ ap made (sym last) in
    placed (sym (append_assoc seen (sign ∷ []) (atom ∷ []))) (λ i. record {
      leaves = g.leaves ++ leaf_of_name i ∷ [];
      symbols = g.symbols ++ Symbol.Leaf (sym order_first i) (sym order_last i) (length g.leaves) ∷ [];
      firsts = sym order_first i ∷ g.firsts;
      counts = g.counts;
      brackets = g.brackets;
    })
    (whole seen (sign ∷ atom ∷ []) (Leaf n (suc n) (length g.leaves)) g s (written n (length g.leaves) sign atom l h))

pub action_stands : {f : Frame} {rest : List Item} {seen : List ℕ} (u : Unit) (tokens : List SourceToken) → At f u (length seen) tokens →
    Stands f (Sign operand_names ∷ Sign (of_mark Mark.DoubleHash) ∷ rest) seen u.gathering →
    Stands f (Whole primaries ∷ rest) seen (with_leaf (order (marked_from u.tokens (last_leaf u))) (order (last_leaf u))
    (Gathered.Action (last_leaf u)) u.gathering)
action_stands u tokens a s =
    signed_stands Mark.DoubleHash Gathered.Action (λ at. refl) refl (λ order place sign atom l h. action l h) u tokens a s

pub system_stands : {f : Frame} {rest : List Item} {seen : List ℕ} (u : Unit) (tokens : List SourceToken) → At f u (length seen) tokens →
    Stands f (Sign operand_names ∷ Sign (of_mark Mark.Hash) ∷ rest) seen u.gathering →
    Stands f (Whole primaries ∷ rest) seen (with_leaf (order (marked_from u.tokens (last_leaf u))) (order (last_leaf u))
    (Gathered.System (last_leaf u)) u.gathering)
system_stands u tokens a s =
    signed_stands Mark.Hash Gathered.System (λ at. refl) refl (λ order place sign atom l h. system l h) u tokens a s

pub opened_stands : {f : Frame} {rest : List Item} {seen : List ℕ} (u : Unit) (tokens : List SourceToken) → At f u (length seen) tokens →
    Stands f (Sign opening_sign ∷ rest) seen u.gathering → Stands f (Opened ∷ rest) seen
    (with_bracket (order (length u.tokens - 1)) u.gathering)
opened_stands {f} u tokens a (read seen atom s h k) =
    let g = u.gathering in
    let n = f.order + length seen in
    let count : length (seen ++ atom ∷ []) ≡ length seen + 1 = length-append seen (atom ∷ []) in
    let last : length u.tokens - 1 ≡ n = omega (arith, a.long, count) in
    let order_last : order (length u.tokens - 1) ≡ n =
    order_is (length u.tokens - 1) (omega (arith, within_all f u (length (seen ++ atom ∷ [])) tokens a)) ∙ last in
    placed refl (ap (λ o. with_bracket o g) (sym order_last)) (opened seen atom g s h)
