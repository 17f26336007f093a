-- The order of properties: own ones, then those of each class that are new
use Rattle.std.proofs.Common.{◌≡◌, ℕ, List, [], ◌∷◌, ◌++◌, Option, Some, Bool, true, false, refl, ◌∙◌, ap, sym, append_assoc, append-nil}
use Rattle.std.proofs.Common.{arith, ◌==◌, ◌||◌, cond, if◌then◌else◌, is_some, nat_eq, flat_map, fold}
use Rattle.inf_properties.specs.declared.values.Property.{Property}
use Rattle.inf_properties.specs.Properties.{found, has, inherited, lacked, with_joined}
use Rattle.inf_world_laws.specs.{Laws.AreSingle, Laws.OrderAgrees, Laws.numbers_of, Things.contains, Things.distinct}

abbrev pub without : List ℕ → List ℕ → List ℕ
without s [] = []
without s (n ∷ ns) = if contains s n then without s ns else n ∷ without s ns

numbers_joined : (above own : List Property) → numbers_of (with_joined above own) ≡ numbers_of own
numbers_joined above [] = refl
numbers_joined above (p ∷ own) = ap (λ l. p.number ∷ l) (numbers_joined above own)

found_or : (b : Bool) (p : Property) (o : Option Property) → is_some (cond b (Some p) o) ≡ b || is_some o
found_or true p o = refl
found_or false p o = refl

pub turned : (m n : ℕ) → (m == n) ≡ nat_eq n m
turned m n = grind arith

pub has_is : (n : ℕ) (own : List Property) → has n own ≡ contains (numbers_of own) n
has_is n [] = refl
has_is n (p ∷ own) = found_or (p.number == n) p (found n own) ∙ ap (λ b. b || has n own) (turned p.number n)
    ∙ ap (λ b. nat_eq n p.number || b) (has_is n own)

lack_by : (b : Bool) (p : Property) (ps : List Property) (ns : List ℕ) → numbers_of ps ≡ ns
    → numbers_of (cond b ps (p ∷ ps)) ≡ cond b ns (p.number ∷ ns)
lack_by true p ps ns e = e
lack_by false p ps ns e = ap (λ l. p.number ∷ l) e

numbers_lacked : (own above : List Property) → numbers_of (lacked own above) ≡ without (numbers_of own) (numbers_of above)
numbers_lacked own [] = refl
numbers_lacked own (p ∷ above) =
    lack_by (has p.number own) p (lacked own above) (without (numbers_of own) (numbers_of above)) (numbers_lacked own above)
    ∙ ap (λ b. cond b (without (numbers_of own) (numbers_of above)) (p.number ∷ without (numbers_of own) (numbers_of above)))
    (has_is p.number own)

-- Lemmas about lists without repeats

pub same_seen : (s t xs : List ℕ) → ((n : ℕ) → contains s n ≡ contains t n) → distinct s xs ≡ distinct t xs
same_seen s t [] h = refl
same_seen s t (x ∷ xs) h = ap (λ b. cond b (distinct s xs) (x ∷ distinct (x ∷ s) xs)) (h x)
    ∙ ap (λ l. cond (contains t x) l (x ∷ distinct (x ∷ s) xs)) (same_seen s t xs h)
    ∙ ap (λ l. cond (contains t x) (distinct t xs) (x ∷ l)) (same_seen (x ∷ s) (x ∷ t) xs (λ n. ap (λ b. nat_eq n x || b) (h n)))

-- a number that is in a list is in it when it comes again
pub again : (s : List ℕ) (x n : ℕ) → contains s x ≡ true → contains s n ≡ (nat_eq n x || contains s n)
again s x n h = by (nat_eq n x) refl
  where
    by : (b : Bool) → nat_eq n x ≡ b → contains s n ≡ (b || contains s n)
    by true e = let same : n ≡ x = grind arith in ap (contains s) same ∙ h
    by false e = refl

pub or_swapped : (a b c : Bool) → (a || (b || c)) ≡ (b || (a || c))
or_swapped true true c = refl
or_swapped true false c = refl
or_swapped false b c = refl

pub turn : (a b c : Bool) → ((a || b) || c) ≡ (b || (a || c))
turn true true c = refl
turn true false c = refl
turn false b c = refl

out : (n x : ℕ) (s xs : List ℕ) → contains s x ≡ true → ((nat_eq n x || contains xs n) || contains s n) ≡ (contains xs n || contains s n)
out n x s xs h = let a : contains s n ≡ (nat_eq n x || contains s n) = again s x n h in cases (nat_eq n x) (contains xs n) (contains s n) a
  where
    cases : (a b c : Bool) → c ≡ (a || c) → ((a || b) || c) ≡ (b || c)
    cases true true c e = refl
    cases true false c e = sym e
    cases false b c e = refl

join_by : (s t xs ys : List ℕ) (x : ℕ) → ((n : ℕ) → contains t n ≡ (contains (x ∷ xs) n || contains s n))
    → (((n : ℕ) → contains t n ≡ (contains xs n || contains s n)) → distinct s (xs ++ ys) ≡ distinct s xs ++ distinct t ys)
    → (((n : ℕ) → contains t n ≡ (contains xs n || contains (x ∷ s) n))
    → distinct (x ∷ s) (xs ++ ys) ≡ distinct (x ∷ s) xs ++ distinct t ys)
    → (b : Bool) → contains s x ≡ b
    → cond b (distinct s (xs ++ ys)) (x ∷ distinct (x ∷ s) (xs ++ ys)) ≡ cond b (distinct s xs) (x ∷ distinct (x ∷ s) xs) ++ distinct t ys
join_by s t xs ys x h rest more true e = rest (λ n. h n ∙ out n x s xs e)
join_by s t xs ys x h rest more false e = ap (λ l. x ∷ l) (more (λ n. h n ∙ turn (nat_eq n x) (contains xs n) (contains s n)))

pub join : (s t xs ys : List ℕ) → ((n : ℕ) → contains t n ≡ (contains xs n || contains s n))
    → distinct s (xs ++ ys) ≡ distinct s xs ++ distinct t ys
join s t [] ys h = same_seen s t ys (λ n. sym (h n))
join s t (x ∷ xs) ys h = join_by s t xs ys x h (join s t xs ys) (join (x ∷ s) t xs ys) (contains s x) refl

in_by : (s xs : List ℕ) (x n : ℕ) → (contains (distinct s xs) n || contains s n) ≡ (contains xs n || contains s n)
    → (contains (distinct (x ∷ s) xs) n || contains (x ∷ s) n) ≡ (contains xs n || contains (x ∷ s) n)
    → (b : Bool) → contains s x ≡ b
    → (contains (cond b (distinct s xs) (x ∷ distinct (x ∷ s) xs)) n || contains s n) ≡ (contains (x ∷ xs) n || contains s n)
in_by s xs x n rest more true e = rest ∙ sym (out n x s xs e)
in_by s xs x n rest more false e =
    turn (nat_eq n x) (contains (distinct (x ∷ s) xs) n) (contains s n) ∙ more ∙ sym (turn (nat_eq n x) (contains xs n) (contains s n))

pub kept : (s xs : List ℕ) (n : ℕ) → (contains (distinct s xs) n || contains s n) ≡ (contains xs n || contains s n)
kept s [] n = refl
kept s (x ∷ xs) n = in_by s xs x n (kept s xs n) (kept (x ∷ s) xs n) (contains s x) refl

pub or_true : (a : Bool) → a || true ≡ true
or_true true = refl
or_true false = refl

abbrev pub Joins : List ℕ → List ℕ → List ℕ → Type 0
Joins s t u = (n : ℕ) → contains u n ≡ (contains s n || contains t n)

drop_by : (s t u xs : List ℕ) (x : ℕ) → Joins s t u → (without s (distinct t xs) ≡ distinct u xs)
    → (Joins s (x ∷ t) u → without s (distinct (x ∷ t) xs) ≡ distinct u xs)
    → (Joins s (x ∷ t) (x ∷ u) → without s (distinct (x ∷ t) xs) ≡ distinct (x ∷ u) xs)
    → (b c : Bool) → contains t x ≡ b → contains s x ≡ c
    → without s (cond b (distinct t xs) (x ∷ distinct (x ∷ t) xs)) ≡ cond (c || b) (distinct u xs) (x ∷ distinct (x ∷ u) xs)
drop_by s t u xs x h rest one two true c e f = rest ∙ ap (λ b. cond b (distinct u xs) (x ∷ distinct (x ∷ u) xs)) (sym (or_true c))
drop_by s t u xs x h rest one two false true e f =
    ap (λ b. cond b (without s (distinct (x ∷ t) xs)) (x ∷ without s (distinct (x ∷ t) xs))) f
    ∙ one (λ n. h n ∙ seen (nat_eq n x) (contains s n) (contains t n) (again s x n f))
  where
    seen : (a b c : Bool) → b ≡ (a || b) → (b || c) ≡ (b || (a || c))
    seen true true c e = refl
    seen true false c e = cc
    seen false b c e = refl
drop_by s t u xs x h rest one two false false e f =
    ap (λ b. cond b (without s (distinct (x ∷ t) xs)) (x ∷ without s (distinct (x ∷ t) xs))) f
    ∙ ap (λ l. x ∷ l) (two (λ n. ap (λ b. nat_eq n x || b) (h n) ∙ or_swapped (nat_eq n x) (contains s n) (contains t n)))

pub drop_out : (s t u xs : List ℕ) → Joins s t u → without s (distinct t xs) ≡ distinct u xs
drop_out s t u [] h = refl
drop_out s t u (x ∷ xs) h = drop_by s t u xs x h (drop_out s t u xs h) (drop_out s (x ∷ t) u xs) (drop_out s (x ∷ t) (x ∷ u) xs)
    (contains t x) (contains s x) refl refl
    ∙ ap (λ b. cond b (distinct u xs) (x ∷ distinct (x ∷ u) xs)) (sym (h x))

-- Lemmas about properties

numbers_both : (xs ys : List Property) → numbers_of (xs ++ ys) ≡ numbers_of xs ++ numbers_of ys
numbers_both [] ys = refl
numbers_both (p ∷ xs) ys = ap (λ l. p.number ∷ l) (numbers_both xs ys)

pub or_nothing : (a : Bool) → a ≡ (a || false)
or_nothing true = refl
or_nothing false = refl

one_more : (own above : List Property) (ys zs : List ℕ) → numbers_of own ≡ distinct [] ys → numbers_of above ≡ distinct [] zs
    → numbers_of (inherited own above) ≡ distinct [] (ys ++ zs)
one_more own above ys zs e f =
    let s = distinct [] ys in
    numbers_both (with_joined above own) (lacked own above)
    ∙ ap (λ l. l ++ numbers_of (lacked own above)) (numbers_joined above own)
    ∙ ap (λ l. numbers_of own ++ l) (numbers_lacked own above)
    ∙ ap (λ l. l ++ without l (numbers_of above)) e
    ∙ ap (λ l. s ++ without s l) f
    ∙ ap (λ l. s ++ l) (drop_out s [] s zs (λ n. or_nothing (contains s n)))
    ∙ sym (join [] s ys zs (λ n. or_nothing (contains s n) ∙ kept [] ys n))

all_more : (above : List Property) (ys : List ℕ) (givers : List (List Property)) → AreSingle givers → numbers_of above ≡ distinct [] ys
    → numbers_of (fold (λ above g. inherited above g) above givers) ≡ distinct [] (ys ++ flat_map numbers_of givers)
all_more above ys [] are e = e ∙ ap (distinct []) (sym (append-nil ys))
all_more above ys (g ∷ givers) are e =
    all_more (inherited above g) (ys ++ numbers_of g) givers are.1 (one_more above g ys (numbers_of g) e are.0)
    ∙ ap (distinct []) (append_assoc ys (numbers_of g) (flat_map numbers_of givers))

-- An object has its own properties, and then those that it lacks of each class in order.
pub order_agrees : OrderAgrees
order_agrees own givers are =
    one_more own (fold (λ above g. inherited above g) [] givers) (numbers_of own) (flat_map numbers_of givers) are.0
    (all_more [] [] givers are.1 refl)
