-- The change of items by each action of an expression.
use Rattle.std.proofs.{lemmas.Bool.both_ways, lemmas.Bool.cond-false, lemmas.Bool.ne_eqb, lemmas.List.length-append}
use Rattle.std.proofs.Common.{◌≡◌, ℕ, suc, ◌+◌, ◌-◌, ◌<◌, List, [], ◌∷◌, ◌++◌, length, Bool, true, false, ◌==◌, Some, refl, sym, ◌∙◌, ap}
use Rattle.std.proofs.Common.{subst, append_assoc, arith}
use Rattle.inf_machine.specs.Grammar.{has}
use Rattle.inf_scanner.specs.declared.tokens.Mark.{Mark}
use Rattle.inf_syntax.specs.Atoms.{of_mark}
use Rattle.inf_expressions.specs.{declared.operators.Binary.Binary, declared.operators.Unary.Unary, declared.symbols.Symbol.Symbol}
use Rattle.inf_expressions.specs.Sources.{Source, Brackets, Prefix, Suffix, Two, Call, Alone}
use Rattle.inf_gathering.specs.Gatherings.{Gathering, comma, counted, with_call, with_closed_bracket, with_comma, with_list, with_part}
use Rattle.inf_gathering.specs.Gatherings.{with_prefix, with_suffix, with_test, with_two}
use Rattle.inf_expression_laws.specs.Precedence.{Written, in_front, behind, between, assigned, tested, called, alone, brackets, one, more}
use Rattle.inf_expression_laws.specs.Precedence.{assignments, closing_sign, comma_sign, commas, connections, leaf_count, list_of, members}
use Rattle.inf_expression_laws.specs.Precedence.{opening_sign, or_sign, primaries, sign_behind, sign_between, sign_in_front, sign_of_test}
use Rattle.inf_expression_laws.specs.Precedence.{sums, tests}
use Rattle.inf_expression_laws.specs.Gathered.{first_of, is_open, joints, leaves_of, symbols_behind, symbols_of}
use Rattle.inf_expression_laws.proofs.Items.{Item, Sign, Whole, Opened, Closing, NoneYet, Parts, Any}
use Rattle.inf_expression_laws.proofs.Standing.{Frame, gained, all_gained, with_parts, Stands, read, whole, opened, closing, none_yet}
use Rattle.inf_expression_laws.proofs.Standing.{parts, some, nothing, begins, gained_leaves, all_gained_leaves, all_gained_append}
use Rattle.inf_expression_laws.proofs.Standing.{all_gained_rest, all_gained_firsts, all_gained_list, list_joints, listed_moved, moved}
use Rattle.inf_expression_laws.proofs.Standing.{parts_have_tokens}

-- Lemmas about lists one behind the other
three : (xs ys : List ℕ) (z : ℕ) (zs : List ℕ) → xs ++ (ys ++ z ∷ zs) ≡ ((xs ++ ys) ++ z ∷ []) ++ zs
three xs ys z zs = sym (append_assoc (xs ++ ys) (z ∷ []) zs ∙ append_assoc xs ys (z ∷ zs))

two : (xs : List ℕ) (z : ℕ) (zs : List ℕ) → xs ++ z ∷ zs ≡ (xs ++ z ∷ []) ++ zs
two xs z zs = sym (append_assoc xs (z ∷ []) zs)

pub placed : {f : Frame} {items : List Item} {seen other_seen : List ℕ} {g other : Gathering} → seen ≡ other_seen → g ≡ other →
    Stands f items seen g → Stands f items other_seen other
placed {f} {items} {seen} {other_seen} {g} {other} e h s = subst (λ x. Stands f items other_seen x) h (subst (λ x. Stands f items x g) e s)

-- Number of tokens before the next one
length_next : (o : ℕ) (xs ys : List ℕ) (z : ℕ) → o + length ((xs ++ ys) ++ z ∷ []) ≡ suc ((o + length xs) + length ys)
length_next o xs ys z = omega (arith, length-append (xs ++ ys) (z ∷ []), length-append xs ys)

length_one : (o : ℕ) (xs : List ℕ) (z : ℕ) → o + length (xs ++ z ∷ []) ≡ suc (o + length xs)
length_one o xs z = omega (arith, length-append xs (z ∷ []))

to_left : {A : Type 0} (xs ys zs : List A) → xs ++ (ys ++ zs) ≡ (xs ++ ys) ++ zs
to_left xs ys zs = sym (append_assoc xs ys zs)

-- Lemmas about an operator in front
pub front_stands : {f : Frame} {level signs : ℕ} {rest : List Item} {seen : List ℕ} {g : Gathering} (op : Unary) →
    sign_in_front op ≡ Some (level, signs) →
    Stands f (Whole level ∷ Sign signs ∷ rest) seen g → Stands f (Whole level ∷ rest) seen (with_prefix op g)
front_stands {f} {level} {signs} op e (whole _ atoms a g (read seen sign s h k) w) =
    let o : f.order + length (seen ++ sign ∷ []) ≡ suc (f.order + length seen) = length_one f.order seen sign in
    let order : f.order + length seen ≡ first_of a - 1 = omega (arith, begins w, o) in
    placed (two seen sign atoms) (λ i. record {
      leaves = g.leaves ++ leaves_of f.outer f.begun f.all a;
      symbols = (to_left g.symbols (symbols_of (is_open g.brackets) a) (Symbol.Prefix (f.order + length seen) op ∷ [])
          ∙ ap (λ n. (g.symbols ++ symbols_of (is_open g.brackets) a) ++ Symbol.Prefix n op ∷ []) order) i;
      firsts = order i ∷ g.firsts;
      counts = g.counts;
      brackets = g.brackets;
    })
    (whole seen (sign ∷ atoms) (Prefix (f.order + length seen) op a) g s (in_front signs e h (moved o refl w)))

-- Lemmas about an operator behind
pub suffix_stands : {f : Frame} {level signs : ℕ} {rest : List Item} {seen : List ℕ} {g : Gathering} (op : Unary) →
    sign_behind op ≡ Some (level, signs) →
    Stands f (Sign signs ∷ Whole level ∷ rest) seen g → Stands f (Whole level ∷ rest) seen (with_suffix op g)
suffix_stands {f} {level} {signs} op e (read _ sign (whole seen atoms a g s w) h k) = placed (to_left seen atoms (sign ∷ [])) (λ i. record {
  leaves = g.leaves ++ leaves_of f.outer f.begun f.all a;
  symbols = to_left g.symbols (symbols_of (is_open g.brackets) a) (Symbol.Suffix op ∷ []) i;
  firsts = first_of a ∷ g.firsts;
  counts = g.counts;
  brackets = g.brackets;
}) (whole seen (atoms ++ sign ∷ []) (Suffix op a) g s (behind signs sign atoms e w h))

-- Two expressions with an operator between them
four : {A : Type 0} (xs ys zs ws : List A) → xs ++ ((ys ++ zs) ++ ws) ≡ ((xs ++ ys) ++ zs) ++ ws
four xs ys zs ws = to_left xs (ys ++ zs) ws ∙ ap (λ l. l ++ ws) (to_left xs ys zs)

both_gained : (f : Frame) (a b : Source) (op : Binary) (last : List Symbol) (g : Gathering) →
    symbols_behind (is_open g.brackets) op b ≡ last →
    gained f (Two op a b) g ≡ record g {
      leaves = (g.leaves ++ leaves_of f.outer f.begun f.all a) ++ leaves_of f.outer f.begun f.all b;
      symbols = ((g.symbols ++ symbols_of (is_open g.brackets) a) ++ symbols_of (is_open g.brackets) b) ++ last;
      firsts = first_of a ∷ g.firsts;
    }
both_gained f a b op last g e i = record {
  leaves = to_left g.leaves (leaves_of f.outer f.begun f.all a) (leaves_of f.outer f.begun f.all b) i;
  symbols =
      (four g.symbols (symbols_of (is_open g.brackets) a) (symbols_of (is_open g.brackets) b) (symbols_behind (is_open g.brackets) op b)
      ∙ ap (λ l. ((g.symbols ++ symbols_of (is_open g.brackets) a) ++ symbols_of (is_open g.brackets) b) ++ l) e) i;
  firsts = first_of a ∷ g.firsts;
  counts = g.counts;
  brackets = g.brackets;
}

-- Lemmas about the places of the second expression
second : (f : Frame) {level : ℕ} (a : Source) {b : Source} (g : Gathering) {right : List ℕ} (seen left : List ℕ) (sign : ℕ) →
    Written level (f.order + length ((seen ++ left) ++ sign ∷ [])) (length (gained f a g).leaves) right b →
    Written level (suc ((f.order + length seen) + length left)) (length g.leaves + leaf_count a) right b
second f a g seen left sign w = moved (length_next f.order seen left sign) (gained_leaves f a g) w

between_symbols : (in_brackets : Bool) (op : Binary) (b : Source) (level signs : ℕ) → sign_between op ≡ Some (level, signs) →
    (op ≡ Binary.Comma → false ≡ true) →
    symbols_behind in_brackets op b ≡ Symbol.Two op ∷ []
between_symbols in_brackets (Binary.Operation o) b level signs e n = refl
between_symbols in_brackets (Binary.Property p) b level signs e n = refl
between_symbols in_brackets Binary.Comma b level signs e n = absurd (both_ways false refl (n refl))
between_symbols in_brackets Binary.And b level signs e n = refl
between_symbols in_brackets Binary.Or b level signs e n = refl
between_symbols in_brackets other b level signs e n = cc

pub two_stands : {f : Frame} {level signs : ℕ} {rest : List Item} {seen : List ℕ} {g : Gathering} (op : Binary) →
    sign_between op ≡ Some (level, signs) →
    (op ≡ Binary.Comma → false ≡ true) → Stands f (Whole (suc level) ∷ Sign signs ∷ Whole level ∷ rest) seen g → Stands f
    (Whole level ∷ rest) seen (with_two op g)
two_stands {f} {level} {signs} op e n (whole _ right b _ (read _ sign (whole seen left a g s w) h k) v) =
    placed (three seen left sign right) (both_gained f a b op (Symbol.Two op ∷ []) g
    (between_symbols (is_open g.brackets) op b level signs e n))
    (whole seen (left ++ sign ∷ right) (Two op a b) g s (between signs sign left right e w h (second f a g seen left sign v)))

pub assign_stands : {f : Frame} {rest : List Item} {seen : List ℕ} {g : Gathering} →
    Stands f (Whole assignments ∷ Sign (of_mark Mark.Assign) ∷ Whole connections ∷ rest) seen g → Stands f (Whole assignments ∷ rest) seen
    (with_two Binary.Assign g)
assign_stands {f} (whole _ right b _ (read _ sign (whole seen left a g s w) h k) v) =
    placed (three seen left sign right) (both_gained f a b Binary.Assign (Symbol.Two Binary.Assign ∷ []) g refl)
    (whole seen (left ++ sign ∷ right) (Two Binary.Assign a b) g s (assigned sign left right w h (second f a g seen left sign v)))

comma_is : (orders : List ℕ) (b : Source) → symbols_behind (is_open orders) Binary.Comma b ≡ comma orders ∷ []
comma_is [] b = refl
comma_is (order ∷ orders) b = refl

pub comma_stands : {f : Frame} {rest : List Item} {seen : List ℕ} {g : Gathering} →
    Stands f (Whole assignments ∷ Sign comma_sign ∷ Whole commas ∷ rest) seen g → Stands f (Whole commas ∷ rest) seen (with_comma g)
comma_stands {f} (whole _ right b _ (read _ sign (whole seen left a g s w) h k) v) =
    placed (three seen left sign right) (both_gained f a b Binary.Comma (comma g.brackets ∷ []) g (comma_is g.brackets b))
    (whole seen (left ++ sign ∷ right) (Two Binary.Comma a b) g s
    (between comma_sign sign left right refl w h (second f a g seen left sign v)))

-- The gathering of calls, tests and parts
more_gained : (f : Frame) (a : Source) (sources : List Source) (b : Source) (g : Gathering) →
    length (a ∷ (sources ++ b ∷ [])) ≡ counted (length (a ∷ sources)) →
    with_parts f (a ∷ (sources ++ b ∷ [])) g ≡ with_part (gained f b (with_parts f (a ∷ sources) g))
more_gained f a sources b g e = ap (λ n. record (all_gained f (a ∷ (sources ++ b ∷ [])) g) { counts = n ∷ g.counts }) e
    ∙ ap (λ (x : Gathering). record x { counts = counted (length (a ∷ sources)) ∷ g.counts }) (all_gained_append f (a ∷ sources) b g)

alone_gained : (f : Frame) (a : Source) (g : Gathering) → gained f (Alone a) g ≡ with_call (with_list (gained f a g))
alone_gained f a g i = record {
  leaves = g.leaves ++ leaves_of f.outer f.begun f.all a;
  symbols = to_left g.symbols (symbols_of (is_open g.brackets) a) (Symbol.Call 0 ∷ []) i;
  firsts = first_of a ∷ g.firsts;
  counts = g.counts;
  brackets = g.brackets;
}

call_gained : (f : Frame) (a b : Source) (sources : List Source) (g : Gathering) → joints (list_of b sources) ≡ length sources →
    gained f (Call a (list_of b sources)) g ≡ with_call (with_parts f (b ∷ sources) (gained f a g))
call_gained f a b sources g e i =
    let one = gained f a g in
    let list = all_gained_list f b sources one in
    record {
      leaves = (to_left g.leaves (leaves_of f.outer f.begun f.all a) (leaves_of f.outer f.begun f.all (list_of b sources)) ∙ sym list.0) i;
      symbols = (four g.symbols (symbols_of (is_open g.brackets) a) (symbols_of (is_open g.brackets) (list_of b sources))
          (Symbol.Call (suc (joints (list_of b sources))) ∷ [])
          ∙ ap (λ n. ((g.symbols ++ symbols_of (is_open g.brackets) a) ++ symbols_of (is_open g.brackets) (list_of b sources)) ++
          Symbol.Call (suc n) ∷ []) e
          ∙ ap (λ l. l ++ Symbol.Call (suc (length sources)) ∷ []) (sym list.1)) i;
      firsts = sym (all_gained_firsts f (b ∷ sources) one) i;
      counts = g.counts;
      brackets = sym (all_gained_rest f (b ∷ sources) one).1 i;
    }

pub test_symbols : (in_brackets : Bool) (op : Binary) (list : Source) (signs : ℕ) → sign_of_test op ≡ Some signs →
    symbols_behind in_brackets op list ≡ Symbol.List (joints list) ∷ Symbol.Two op ∷ []
test_symbols in_brackets (Binary.Test t) list signs e = refl
test_symbols in_brackets (Binary.Fails t) list signs e = refl
test_symbols in_brackets other list signs e = cc

test_gained : (f : Frame) (a b : Source) (sources : List Source) (op : Binary) (signs : ℕ) (g : Gathering) → sign_of_test op ≡ Some signs →
    joints (list_of b sources) ≡ length sources → gained f (Two op a (list_of b sources)) g ≡ with_test op
    (with_parts f (b ∷ sources) (gained f a g))
test_gained f a b sources op signs g e j i =
    let one = gained f a g in
    let list = all_gained_list f b sources one in
    let last : symbols_behind (is_open g.brackets) op (list_of b sources) ≡ Symbol.List (length (b ∷ sources) - 1) ∷ Symbol.Two op ∷ [] =
    test_symbols (is_open g.brackets) op (list_of b sources) signs e ∙ ap (λ n. Symbol.List n ∷ Symbol.Two op ∷ []) (j ∙ omega arith) in
    record {
      leaves = (to_left g.leaves (leaves_of f.outer f.begun f.all a) (leaves_of f.outer f.begun f.all (list_of b sources)) ∙ sym list.0) i;
      symbols = (four g.symbols (symbols_of (is_open g.brackets) a) (symbols_of (is_open g.brackets) (list_of b sources))
          (symbols_behind (is_open g.brackets) op (list_of b sources))
          ∙ ap (λ l. ((g.symbols ++ symbols_of (is_open g.brackets) a) ++ symbols_of (is_open g.brackets) (list_of b sources)) ++ l) last
          ∙ ap (λ l. l ++ Symbol.List (length (b ∷ sources) - 1) ∷ Symbol.Two op ∷ []) (sym list.1)) i;
      firsts = sym (all_gained_firsts f (b ∷ sources) one) i;
      counts = g.counts;
      brackets = sym (all_gained_rest f (b ∷ sources) one).1 i;
    }

call_seen : (seen atoms : List ℕ) (left right : ℕ) →
    seen ++ ((atoms ++ left ∷ []) ++ right ∷ []) ≡ ((seen ++ atoms) ++ left ∷ []) ++ right ∷ []
call_seen seen atoms left right = four seen atoms (left ∷ []) (right ∷ [])

given_seen : (seen atoms given : List ℕ) (left right : ℕ) →
    seen ++ (((atoms ++ left ∷ []) ++ given) ++ right ∷ []) ≡ (((seen ++ atoms) ++ left ∷ []) ++ given) ++ right ∷ []
given_seen seen atoms given left right =
    to_left seen ((atoms ++ left ∷ []) ++ given) (right ∷ []) ∙ ap (λ l. l ++ right ∷ []) (four seen atoms (left ∷ []) given)

-- Lemmas about lists
pub list_stands : {f : Frame} {rest : List Item} {seen : List ℕ} {g : Gathering} → Stands f rest seen g →
    Stands f (NoneYet ∷ rest) seen (with_list g)
list_stands {g = g} s = none_yet g s

pub one_stands : {f : Frame} {level signs : ℕ} {rest : List Item} {seen : List ℕ} {g : Gathering} →
    Stands f (Whole level ∷ NoneYet ∷ rest) seen g → Stands f (Parts level signs ∷ rest) seen (with_part g)
one_stands {f} (whole seen atoms a _ (none_yet g s) w) = parts seen atoms a [] g s (one w)

-- as many parts as tokens at most are counted
pub more_stands : {f : Frame} {level signs : ℕ} {rest : List Item} {seen : List ℕ} {g : Gathering} → length seen < 4294967295 →
    Stands f (Whole level ∷ Sign signs ∷ Parts level signs ∷ rest) seen g → Stands f (Parts level signs ∷ rest) seen (with_part g)
more_stands {f} {level} {signs} few (whole _ right b _ (read _ sign (parts seen left a sources g s l) h k) w) =
    let count : length (a ∷ (sources ++ b ∷ [])) ≡ counted (length (a ∷ sources)) = omega (arith, length-append sources (b ∷ []))
    ∙ sym (cond_false_count (length (a ∷ sources))
    (omega (
      arith,
      few,
      parts_have_tokens l,
      length-append ((seen ++ left) ++ sign ∷ []) right,
      length-append (seen ++ left) (sign ∷ []),
      length-append seen left,
    ))) in
    placed (three seen left sign right) (more_gained f a sources b g count)
    (parts seen (left ++ sign ∷ right) a (sources ++ b ∷ []) g s
    (more sign left right (a ∷ sources) b l h (moved (length_next f.order seen left sign) (all_gained_leaves f (a ∷ sources) g) w)))
  where
    cond_false_count : (n : ℕ) → n < 4294967295 → counted n ≡ n + 1
    cond_false_count n l = cond-false (n == 4294967295) n (n + 1) (ne_eqb n 4294967295 (omega (arith, l)))

-- Lemmas about a call
pub call_stands : {f : Frame} {rest : List Item} {seen : List ℕ} {g : Gathering} →
    Stands f (Sign closing_sign ∷ Any assignments comma_sign ∷ Sign opening_sign ∷ Whole members ∷ rest) seen g → Stands f
    (Whole members ∷ rest) seen (with_call g)
call_stands {f} (read _ right (nothing (none_yet _ (read _ left (whole seen atoms a g s w) h k))) r q) =
    placed (call_seen seen atoms left right) (alone_gained f a g)
    (whole seen ((atoms ++ left ∷ []) ++ right ∷ []) (Alone a) g s (alone left right atoms w h r))
call_stands {f} (read _ right (some (parts _ given b sources _ (read _ left (whole seen atoms a g s w) h k) l)) r q) =
    placed (given_seen seen atoms given left right) (call_gained f a b sources g (list_joints b sources l))
    (whole seen (((atoms ++ left ∷ []) ++ given) ++ right ∷ []) (Call a (list_of b sources)) g s
    (called left right atoms given b sources w h (listed_moved (length_next f.order seen atoms left) (gained_leaves f a g) l) r))

-- Lemmas about a test
pub test_stands : {f : Frame} {signs : ℕ} {rest : List Item} {seen : List ℕ} {g : Gathering} (op : Binary) → sign_of_test op ≡ Some signs →
    Stands f (Parts sums or_sign ∷ Sign signs ∷ Whole sums ∷ rest) seen g → Stands f (Whole tests ∷ rest) seen (with_test op g)
test_stands {f} {signs} op e (parts _ right b sources _ (read _ sign (whole seen left a g s w) h k) l) =
    placed (three seen left sign right) (test_gained f a b sources op signs g e (list_joints b sources l))
    (whole seen (left ++ sign ∷ right) (Two op a (list_of b sources)) g s
    (tested signs sign left right b sources e w h (listed_moved (length_next f.order seen left sign) (gained_leaves f a g) l)))

-- Lemmas about brackets
pub closing_stands : {f : Frame} {rest : List Item} {seen : List ℕ} {g : Gathering} →
    Stands f (Whole commas ∷ Opened ∷ rest) seen g → Stands f (Closing ∷ rest) seen (with_closed_bracket g)
closing_stands {f} (whole _ atoms a _ (opened seen left g s h) w) =
    let o : f.order + length (seen ++ left ∷ []) ≡ suc (f.order + length seen) = length_one f.order seen left in
    placed (two seen left atoms) (λ i. record {
      leaves = g.leaves ++ leaves_of f.outer f.begun f.all a;
      symbols = to_left g.symbols (symbols_of true a) (Symbol.Bracketed (f.order + length seen) ∷ []) i;
      firsts = (f.order + length seen) ∷ g.firsts;
      counts = g.counts;
      brackets = g.brackets;
    })
    (closing seen left atoms a g s h (moved o refl w))

pub closed_stands : {f : Frame} {rest : List Item} {seen : List ℕ} {g : Gathering} (right : ℕ) → has closing_sign right ≡ true →
    Stands f (Closing ∷ rest) seen g → Stands f (Whole primaries ∷ rest) (seen ++ right ∷ []) g
closed_stands {f} right r (closing seen left atoms a g s h w) = placed (sym (append_assoc seen (left ∷ atoms) (right ∷ []))) refl
    (whole seen (left ∷ (atoms ++ right ∷ [])) (Brackets (f.order + length seen) a) g s (brackets right atoms h w r))

-- brackets where the closing one is taken before the action
pub bracketed_stands : {f : Frame} {rest : List Item} {seen : List ℕ} {g : Gathering} →
    Stands f (Sign closing_sign ∷ Whole commas ∷ Opened ∷ rest) seen g → Stands f (Whole primaries ∷ rest) seen (with_closed_bracket g)
bracketed_stands (read _ right s r k) = closed_stands right r (closing_stands s)
