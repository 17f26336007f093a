-- The items of an expression's tokens that were read, and the gathering that they made.
use Rattle.std.proofs.Common.{◌≡◌, ℕ, zero, suc, ◌+◌, ◌-◌, ◌≤◌, ◌<◌, List, [], ◌∷◌, ◌++◌, length, true, Option, Some, refl, ◌∙◌, ap, subst}
use Rattle.std.proofs.Common.{append_assoc, arith, drop}
use Rattle.std.proofs.lemmas.List.{length-append}
use Rattle.inf_machine.specs.Grammar.{has}
use Rattle.inf_scanner.specs.{declared.tokens.Mark.Mark, declared.tokens.TokenKind.TokenKind}
use Rattle.inf_syntax.specs.Atoms.{mark_atom}
use Rattle.inf_expressions.specs.Sources.{Source, Leaf, Brackets, Prefix, Suffix, Two, Then, Call, Alone}
use Rattle.inf_gathering.specs.Gatherings.{Gathering, with_bracket, with_list}
use Rattle.inf_unit.specs.{Tokens.SourceToken, Units.kind_at}
use Rattle.inf_expression_laws.specs.Precedence.{Written, operand, action, system, brackets, tighter, in_front, behind, between, assigned}
use Rattle.inf_expression_laws.specs.Precedence.{tested, called, alone, Listed, one, more, commas, leaf_count, leaf_count_of_all, list_of}
use Rattle.inf_expression_laws.specs.Precedence.{opening_sign}
use Rattle.inf_expression_laws.specs.Gathered.{first_of, is_open, joints, leaves_of, symbols_of, with_source}
use Rattle.inf_expression_laws.proofs.Items as it
use Rattle.inf_expression_laws.proofs.Items.{Item, Sign, Whole, Opened, Closing, NoneYet, Parts, Any, Within}

-- The unit in which an expression is read: the places where its outermost expression and the unit itself begin, all tokens
-- with those still to come, the order of the first token, and the gathering before.
pub record Frame : Type 0 where
  pub outer : Option ℕ
  pub begun : ℕ
  pub all : List SourceToken
  pub order : ℕ
  pub base : Gathering

abbrev pub gained : Frame → Source → Gathering → Gathering
gained f a g = with_source f.outer f.begun f.all a g

abbrev pub all_gained : Frame → List Source → Gathering → Gathering
all_gained f [] g = g
all_gained f (a ∷ sources) g = all_gained f sources (gained f a g)

-- the parts of a list that is open
abbrev pub with_parts : Frame → List Source → Gathering → Gathering
with_parts f sources g = record (all_gained f sources g) { counts = length sources ∷ g.counts }

-- the token at a place, with its atom
pub record Known (f : Frame) (at atom : ℕ) : Type 0 where
  pub seen : TokenKind
  pub is : kind_at f.all at ≡ Some seen
  pub mark : (m : Mark) → atom ≡ mark_atom m → seen ≡ TokenKind.Mark m

pub data Stands (f : Frame) : List Item → List ℕ → Gathering → Type 0 where
  start : Stands f [] [] f.base
  read : {set : ℕ} {items : List Item} {g : Gathering} (seen : List ℕ) (atom : ℕ) → Stands f items seen g → has set atom ≡ true →
      Known f (f.order + length seen) atom → Stands f (Sign set ∷ items) (seen ++ atom ∷ []) g
  whole : {level : ℕ} {items : List Item} (seen last : List ℕ) (a : Source) (g : Gathering) → Stands f items seen g →
      Written level (f.order + length seen) (length g.leaves) last a → Stands f (Whole level ∷ items) (seen ++ last) (gained f a g)
  opened : {items : List Item} (seen : List ℕ) (atom : ℕ) (g : Gathering) → Stands f items seen g → has opening_sign atom ≡ true →
      Stands f (Opened ∷ items) (seen ++ atom ∷ []) (with_bracket (f.order + length seen) g)
  closing : {items : List Item} (seen : List ℕ) (atom : ℕ) (last : List ℕ) (a : Source) (g : Gathering) → Stands f items seen g →
      has opening_sign atom ≡ true → Written commas (suc (f.order + length seen)) (length g.leaves) last a →
      Stands f (Closing ∷ items) (seen ++ atom ∷ last) (gained f (Brackets (f.order + length seen) a) g)
  none_yet : {items : List Item} {seen : List ℕ} (g : Gathering) → Stands f items seen g → Stands f (NoneYet ∷ items) seen (with_list g)
  parts : {level signs : ℕ} {items : List Item} (seen last : List ℕ) (a : Source) (sources : List Source) (g : Gathering) →
      Stands f items seen g → Listed level signs (f.order + length seen) (length g.leaves) last (a ∷ sources) →
      Stands f (Parts level signs ∷ items) (seen ++ last) (with_parts f (a ∷ sources) g)
  some : {level signs : ℕ} {items : List Item} {seen : List ℕ} {g : Gathering} → Stands f (Parts level signs ∷ items) seen g →
      Stands f (Any level signs ∷ items) seen g
  nothing : {level signs : ℕ} {items : List Item} {seen : List ℕ} {g : Gathering} → Stands f (NoneYet ∷ items) seen g →
      Stands f (Any level signs ∷ items) seen g

-- An expression that binds tighter binds at each looser level as well.
looser : {loose order place : ℕ} {atoms : List ℕ} {a : Source} (n tight : ℕ) → tight ≡ n + loose → Written tight order place atoms a →
    Written loose order place atoms a
looser {loose} {order} {place} {atoms} {a} zero tight e w = subst (λ l. Written l order place atoms a) (omega (arith, e)) w
looser {loose} {order} {place} {atoms} {a} (suc n) tight e w =
    looser n (n + loose) refl (tighter (subst (λ l. Written l order place atoms a) (omega (arith, e)) w))

pub loosened : {loose tight order place : ℕ} {atoms : List ℕ} {a : Source} → loose ≤ tight → Written tight order place atoms a →
    Written loose order place atoms a
loosened {loose} {tight} {order} {place} {atoms} {a} le w = looser (tight - loose) tight (omega (arith, le)) w

pub weakened : {f : Frame} {items wider : List Item} {seen : List ℕ} {g : Gathering} → Stands f items seen g → Within items wider →
    Stands f wider seen g
weakened start it.bottom = start
weakened (read seen atom s h k) (it.item (it.sign wide) w) = read seen atom (weakened s w) (wide atom h) k
weakened (whole seen last a g s written) (it.item (it.whole le) w) = whole seen last a g (weakened s w) (loosened le written)
weakened (opened seen atom g s h) (it.item it.opened w) = opened seen atom g (weakened s w) h
weakened (closing seen atom last a g s h written) (it.item it.closing w) = closing seen atom last a g (weakened s w) h written
weakened (none_yet g s) (it.item it.none_yet w) = none_yet g (weakened s w)
weakened (none_yet g s) (it.item it.nothing w) = nothing (none_yet g (weakened s w))
weakened (parts seen last a sources g s listed) (it.item it.parts w) = parts seen last a sources g (weakened s w) listed
weakened (parts seen last a sources g s listed) (it.item it.some w) = some (parts seen last a sources g (weakened s w) listed)
weakened (some s) (it.item it.any w) = some (weakened s (it.item it.parts w))
weakened (nothing s) (it.item it.any w) = nothing (weakened s (it.item it.none_yet w))

-- An expression that is written begins with its first token, is no list, and has its leaves.
pub begins : {level order place : ℕ} {atoms : List ℕ} {a : Source} → Written level order place atoms a → first_of a ≡ order
begins (operand h) = refl
begins (action h k) = refl
begins (system h k) = refl
begins (brackets right atoms l w r) = refl
begins (tighter w) = begins w
begins (in_front signs e h w) = refl
begins (behind signs sign atoms e w h) = begins w
begins (between signs sign left right e w h v) = begins w
begins (assigned sign left right w h v) = begins w
begins (tested signs sign left right b sources e w h v) = begins w
begins (called left right atoms given b sources w l v r) = begins w
begins (alone left right atoms w l r) = begins w

pub is_no_list : {level order place : ℕ} {atoms : List ℕ} {a : Source} → Written level order place atoms a → joints a ≡ 0
is_no_list (tighter w) = is_no_list w
is_no_list other = refl

pub leaves_count : (outer : Option ℕ) (begun : ℕ) (tokens : List SourceToken) (a : Source) →
    length (leaves_of outer begun tokens a) ≡ leaf_count a
leaves_count outer begun tokens (Leaf first token place) = refl
leaves_count outer begun tokens (Brackets order a) = leaves_count outer begun tokens a
leaves_count outer begun tokens (Prefix order op a) = leaves_count outer begun tokens a
leaves_count outer begun tokens (Suffix op a) = leaves_count outer begun tokens a
leaves_count outer begun tokens (Two op a b) = omega (
  arith,
  length-append (leaves_of outer begun tokens a) (leaves_of outer begun tokens b),
  leaves_count outer begun tokens a,
  leaves_count outer begun tokens b,
)
leaves_count outer begun tokens (Then a b) = omega (
  arith,
  length-append (leaves_of outer begun tokens a) (leaves_of outer begun tokens b),
  leaves_count outer begun tokens a,
  leaves_count outer begun tokens b,
)
leaves_count outer begun tokens (Call a b) = omega (
  arith,
  length-append (leaves_of outer begun tokens a) (leaves_of outer begun tokens b),
  leaves_count outer begun tokens a,
  leaves_count outer begun tokens b,
)
leaves_count outer begun tokens (Alone f) = leaves_count outer begun tokens f

pub gained_leaves : (f : Frame) (a : Source) (g : Gathering) → length (gained f a g).leaves ≡ length g.leaves + leaf_count a
gained_leaves f a g = omega (arith, length-append g.leaves (leaves_of f.outer f.begun f.all a), leaves_count f.outer f.begun f.all a)

pub all_gained_leaves : (f : Frame) (sources : List Source) (g : Gathering) →
    length (all_gained f sources g).leaves ≡ length g.leaves + leaf_count_of_all sources
all_gained_leaves f [] g = omega arith
all_gained_leaves f (a ∷ sources) g = omega (arith, all_gained_leaves f sources (gained f a g), gained_leaves f a g)

pub moved : {level order other_order place other_place : ℕ} {atoms : List ℕ} {a : Source} → order ≡ other_order → place ≡ other_place →
    Written level order place atoms a → Written level other_order other_place atoms a
moved {level} {order} {other_order} {place} {other_place} {atoms} {a} o p w =
    subst (λ q. Written level other_order q atoms a) p (subst (λ q. Written level q place atoms a) o w)

pub listed_moved : {level signs order other_order place other_place : ℕ} {atoms : List ℕ} {sources : List Source} → order ≡ other_order →
    place ≡ other_place → Listed level signs order place atoms sources → Listed level signs other_order other_place atoms sources
listed_moved {level} {signs} {order} {other_order} {place} {other_place} {atoms} {sources} o p w =
    subst (λ q. Listed level signs other_order q atoms sources) p (subst (λ q. Listed level signs q place atoms sources) o w)

-- No list has more parts than tokens.
some_tokens : {level order place : ℕ} {atoms : List ℕ} {a : Source} → Written level order place atoms a → 0 < length atoms
some_tokens (tighter w) = some_tokens w
some_tokens (behind signs sign atoms e w h) = omega (arith, length-append atoms (sign ∷ []))
some_tokens (between signs sign left right e w h v) = omega (arith, length-append left (sign ∷ right))
some_tokens (assigned sign left right w h v) = omega (arith, length-append left (sign ∷ right))
some_tokens (tested signs sign left right b sources e w h v) = omega (arith, length-append left (sign ∷ right))
some_tokens (called left right atoms given b sources w l v r) = omega (arith, length-append ((atoms ++ left ∷ []) ++ given) (right ∷ []))
some_tokens (alone left right atoms w l r) = omega (arith, length-append (atoms ++ left ∷ []) (right ∷ []))
some_tokens other = omega arith

pub parts_have_tokens : {level signs order place : ℕ} {atoms : List ℕ} {sources : List Source} →
    Listed level signs order place atoms sources → length sources ≤ length atoms
parts_have_tokens (one w) = omega (arith, some_tokens w)
parts_have_tokens (more sign left right sources a l h w) =
    omega (arith, parts_have_tokens l, length-append left (sign ∷ right), length-append sources (a ∷ []))

-- Lemmas about several expressions one behind the other
pub all_gained_append : (f : Frame) (sources : List Source) (b : Source) (g : Gathering) →
    all_gained f (sources ++ b ∷ []) g ≡ gained f b (all_gained f sources g)
all_gained_append f [] b g = refl
all_gained_append f (a ∷ sources) b g = all_gained_append f sources b (gained f a g)

pub all_gained_rest : (f : Frame) (sources : List Source) (g : Gathering) →
    ((all_gained f sources g).counts ≡ g.counts) × ((all_gained f sources g).brackets ≡ g.brackets)
all_gained_rest f [] g = (refl, refl)
all_gained_rest f (a ∷ sources) g = all_gained_rest f sources (gained f a g)

pub all_gained_firsts : (f : Frame) (sources : List Source) (g : Gathering) →
    drop (length sources) (all_gained f sources g).firsts ≡ g.firsts
all_gained_firsts f [] g = refl
all_gained_firsts f (a ∷ sources) g = drop_more (length sources) (all_gained f sources (gained f a g)).firsts (first_of a) g.firsts
    (all_gained_firsts f sources (gained f a g))
  where
    drop_more : (n : ℕ) (xs : List ℕ) (x : ℕ) (ys : List ℕ) → drop n xs ≡ x ∷ ys → drop (suc n) xs ≡ ys
    drop_more zero [] x ys e = cc
    drop_more zero (y ∷ xs) x ys e = cc
    drop_more (suc n) [] x ys e = cc
    drop_more (suc n) (y ∷ xs) x ys e = drop_more n xs x ys e

pub all_gained_list : (f : Frame) (a : Source) (sources : List Source) (g : Gathering) →
    ((all_gained f (a ∷ sources) g).leaves ≡ g.leaves ++ leaves_of f.outer f.begun f.all (list_of a sources))
    × ((all_gained f (a ∷ sources) g).symbols ≡ g.symbols ++ symbols_of (is_open g.brackets) (list_of a sources))
all_gained_list f a [] g = (refl, refl)
all_gained_list f a (b ∷ sources) g =
    let rest = all_gained_list f b sources (gained f a g) in (
      rest.0 ∙ append_assoc g.leaves (leaves_of f.outer f.begun f.all a) (leaves_of f.outer f.begun f.all (list_of b sources)),
      rest.1 ∙ append_assoc g.symbols (symbols_of (is_open g.brackets) a) (symbols_of (is_open g.brackets) (list_of b sources)),
    )

abbrev are_no_lists : List Source → Type 0
are_no_lists [] = 0 ≤ 0
are_no_lists (b ∷ rest) = (joints b ≡ 0) × are_no_lists rest

one_more : (sources : List Source) (b : Source) → are_no_lists sources → joints b ≡ 0 → are_no_lists (sources ++ b ∷ [])
one_more [] b n e = (e, omega arith)
one_more (a ∷ sources) b n e = (n.0, one_more sources b n.1 e)

all_no_lists : {level signs order place : ℕ} {atoms : List ℕ} {sources : List Source} → Listed level signs order place atoms sources →
    are_no_lists sources
all_no_lists (one w) = (is_no_list w, omega arith)
all_no_lists (more sign left right sources a l h w) = one_more sources a (all_no_lists l) (is_no_list w)

by_last : (b : Source) (rest : List Source) → are_no_lists (b ∷ rest) → joints (list_of b rest) ≡ length rest
by_last b [] n = n.0
by_last b (c ∷ rest) n = ap suc (by_last c rest n.1)

pub list_joints : (a : Source) (sources : List Source) {level signs order place : ℕ} {atoms : List ℕ} →
    Listed level signs order place atoms (a ∷ sources) → joints (list_of a sources) ≡ length sources
list_joints a sources l = by_last a sources (all_no_lists l)
