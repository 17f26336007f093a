-- An interpreter finds below an object its children.
use Rattle.std.proofs.Common.{◌≡◌, ◌≤◌, ◌<◌, ◌+◌, ◌-◌, ◌∷◌, ◌==◌, [], ℕ, zero, suc, List, Bool, true, false, length, get_or, refl}
use Rattle.std.proofs.Common.{ap, ◌∙◌, arith, count_by, if◌then◌else◌}
use Rattle.std.proofs.{lemmas.Bool.eq-eqb, lemmas.Bool.eqb-true, lemmas.Bool.ne_eqb, lemmas.List.Sums.sum_by-cons}
use Rattle.inf_objects.specs.declared.tree.Link.{Link}
use Rattle.inf_objects.specs.Tree.{AreRisingFrom, children_from, children_of, first_of, link_at, link_of, links_of, next_below}
use Rattle.inf_objects.specs.Tree.{no_link, sibling_from, sibling_of, walked}
use Rattle.inf_objects.proofs.Hanging.{get-each}

pub link_is : (parents : List ℕ) (place : ℕ) → place < length parents → link_at (links_of parents) place ≡ link_of parents (place + 1)
link_is parents place h =
    let here : 1 + place ≡ place + 1 = omega arith in
    get-each 1 (length parents) (link_of parents) place no_link h ∙ ap (link_of parents) here

-- the sibling of an object is the next one below its parent, once the objects before it are passed
sibling_here : (first p : ℕ) (rest : List ℕ) → sibling_from first first (p ∷ rest) ≡ next_below p (first + 1) rest
sibling_here first p rest =
    ap (λ (b : Bool). if b then next_below p (first + 1) rest else sibling_from first (first + 1) rest) (eq-eqb first first refl)

sibling_later : (number first p : ℕ) (rest : List ℕ) → first < number →
    sibling_from number first (p ∷ rest) ≡ sibling_from number (first + 1) rest
sibling_later number first p rest h = ap (λ (b : Bool). if b then next_below p (first + 1) rest else sibling_from number (first + 1) rest)
    (ne_eqb number first (λ e. omega (arith, h, e)))

-- the walk goes from an object to its sibling
walked_one : (most : ℕ) (links : List Link) (n : ℕ) → 1 ≤ n →
    walked (suc most) links n ≡ n ∷ walked most links (link_at links (n - 1)).sibling
walked_one most links zero h = absurd (omega (arith, h))
walked_one most links (suc k) h =
    let here : k ≡ suc k - 1 = omega arith in ap (λ m. suc k ∷ walked most links (link_at links m).sibling) here

-- tells whether `rest` are the parents of the objects from number `first` on
abbrev IsRest : List ℕ → ℕ → List ℕ → Type 0
IsRest parents first rest = (number : ℕ) → first ≤ number → sibling_of number parents ≡ sibling_from number first rest

rest_next : (parents : List ℕ) (first p : ℕ) (rest : List ℕ) → IsRest parents first (p ∷ rest) → IsRest parents (first + 1) rest
rest_next parents first p rest h number k = h number (omega (arith, k)) ∙ sibling_later number first p rest (omega (arith, k))

-- the walk from the first child among the remaining objects finds all children among them
walk : (parents : List ℕ) (most first parent : ℕ) (rest : List ℕ) → (parent == 0) ≡ false → 1 ≤ first →
    first + length rest ≡ length parents + 1 → length rest ≤ most
    → IsRest parents first rest → walked most (links_of parents) (first_of (children_from first parent rest)) ≡ children_from first parent
    rest
walk parents zero first parent [] e f g h is = refl
walk parents (suc most) first parent [] e f g h is = refl
walk parents zero first parent (p ∷ rest) e f g h is = absurd (omega (arith, h))
walk parents (suc most) first parent (p ∷ rest) e f g h is = go (p == parent) refl
    (walk parents most (first + 1) parent rest e (omega arith) (omega (arith, g)) (omega (arith, h)) (rest_next parents first p rest is))
    (walk parents (suc most) (first + 1) parent rest e (omega arith) (omega (arith, g)) (omega (arith, h))
    (rest_next parents first p rest is))
  where
    go : (b : Bool) → (p == parent) ≡ b
        → walked most (links_of parents) (first_of (children_from (first + 1) parent rest)) ≡ children_from (first + 1) parent rest
        → walked (suc most) (links_of parents) (first_of (children_from (first + 1) parent rest)) ≡ children_from (first + 1) parent rest
        → walked (suc most) (links_of parents) (first_of (if b then first ∷ children_from (first + 1) parent rest else children_from
        (first + 1) parent rest)) ≡ (if b then first ∷ children_from (first + 1) parent rest else children_from (first + 1) parent rest)
    go true same nearer further =
        let within : first - 1 < length parents = omega (arith, f, g) in
        let here : first - 1 + 1 ≡ first = omega (arith, f) in let parent_is : p ≡ parent = eqb-true p parent same in
        let sibling : (link_at (links_of parents) (first - 1)).sibling ≡ first_of (children_from (first + 1) parent rest) =
        ap (λ (l : Link). l.sibling) (link_is parents (first - 1) within) ∙ ap (λ n. sibling_of n parents) here ∙ is first (omega arith)
        ∙ sibling_here first p rest ∙ ap (λ q. next_below q (first + 1) rest) parent_is
        ∙ ap (λ (b : Bool). if b then 0 else first_of (children_from (first + 1) parent rest)) e in
        walked_one most (links_of parents) first f ∙ ap (λ n. first ∷ walked most (links_of parents) n) sibling
        ∙ ap (λ ns. first ∷ ns) nearer
    go false other nearer further = further

pub walk_children : (parents : List ℕ) (number : ℕ) → number < length parents
    → walked (length parents) (links_of parents) (link_at (links_of parents) number).child ≡ children_of (number + 1) parents
walk_children parents number h = ap (λ (l : Link). walked (length parents) (links_of parents) l.child) (link_is parents number h)
    ∙ walk parents (length parents) 1 (number + 1) parents (ne_eqb (number + 1) 0 (λ e. omega (arith, e))) (omega arith) (omega arith)
    (omega arith) (λ n k. refl)

pub children_rise : (first parent : ℕ) (parents : List ℕ) → AreRisingFrom first (children_from first parent parents)
children_rise first parent [] = tt
children_rise first parent (p ∷ parents) = go (p == parent) (children_rise (first + 1) parent parents) where
  weaker : (least : ℕ) (ns : List ℕ) → AreRisingFrom (least + 1) ns → AreRisingFrom least ns
  weaker least [] h = tt
  weaker least (n ∷ ns) h = (omega (arith, h.0), h.1)

  go : (b : Bool) → AreRisingFrom (first + 1) (children_from (first + 1) parent parents)
      → AreRisingFrom first (if b then first ∷ children_from (first + 1) parent parents else children_from (first + 1) parent parents)
  go true h = (omega arith, h)
  go false h = weaker first (children_from (first + 1) parent parents) h

abbrev one_if : Bool → ℕ
one_if b = if b then 1 else 0

abbrev count_of : ℕ → List ℕ → ℕ
count_of number ns = count_by (λ n. n == number) ns

count_cons : (number n : ℕ) (ns : List ℕ) → count_of number (n ∷ ns) ≡ one_if (n == number) + count_of number ns
count_cons number n ns = sum_by-cons (λ m. one_if (m == number)) n ns

not_this : (number n : ℕ) → (n ≡ number → ⊥) → one_if (n == number) ≡ 0
not_this number n e = ap one_if (ne_eqb n number e)

this : (number n : ℕ) → n ≡ number → one_if (n == number) ≡ 1
this number n e = ap one_if (eq-eqb n number e)

count_behind : (number first parent : ℕ) (parents : List ℕ) → number < first → count_of number (children_from first parent parents) ≡ 0
count_behind number first parent [] h = refl
count_behind number first parent (p ∷ parents) h = go (p == parent) (count_behind number (first + 1) parent parents (omega (arith, h)))
  where
    go : (b : Bool) → count_of number (children_from (first + 1) parent parents) ≡ 0
        → count_of number (if b then first ∷ children_from (first + 1) parent parents else children_from (first + 1) parent parents) ≡ 0
    go true later = omega (
      arith,
      count_cons number first (children_from (first + 1) parent parents),
      not_this number first (λ e. omega (arith, e, h)),
      later,
    )
    go false later = later

pub count_once : (number first parent : ℕ) (parents : List ℕ) → number < length parents
    → count_of (first + number) (children_from first parent parents) ≡ one_if (get_or parents number 0 == parent)
count_once number first parent [] h = absurd (omega (arith, h))
count_once zero first parent (p ∷ parents) h = go (p == parent) (count_behind (first + 0) (first + 1) parent parents (omega arith)) where
  go : (b : Bool) → count_of (first + 0) (children_from (first + 1) parent parents) ≡ 0
      → count_of (first + 0) (if b then first ∷ children_from (first + 1) parent parents else children_from (first + 1) parent parents) ≡
      one_if b
  go true later =
      omega (arith, count_cons (first + 0) first (children_from (first + 1) parent parents), this (first + 0) first (omega arith), later)
  go false later = later
count_once (suc number) first parent (p ∷ parents) h =
    let there : first + suc number ≡ first + 1 + number = omega arith in
    go (p == parent) (ap (λ n. count_of n (children_from (first + 1) parent parents)) there ∙ count_once number (first + 1) parent parents
    (omega (arith, h)))
  where
    go : (b : Bool) → count_of (first + suc number) (children_from (first + 1) parent parents) ≡ one_if (get_or parents number 0 == parent)
        → count_of (first + suc number) (if b then first ∷ children_from (first + 1) parent parents else children_from (first + 1) parent
        parents) ≡ one_if (get_or parents number 0 == parent)
    go true later = omega (
      arith,
      count_cons (first + suc number) first (children_from (first + 1) parent parents),
      not_this (first + suc number) first (λ e. omega (arith, e)),
      later,
    )
    go false later = later
