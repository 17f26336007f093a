-- Links made from the last object on are those of the tree.
use Rattle.std.proofs.Common.{◌≡◌, ◌≤◌, ◌<◌, ◌+◌, ◌-◌, ◌∷◌, ◌++◌, ◌==◌, [], ℕ, zero, suc, List, Bool, true, false, length, replicate}
use Rattle.std.proofs.Common.{get_or, refl, sym, ap, subst, ◌∙◌, arith, inl, inr, slice_set, ◌⊎◌, if◌then◌else◌}
use Rattle.std.proofs.lemmas.Bool.{eqb-true, eqb-false, eq-eqb, ne_eqb, cases_eq}
use Rattle.inf_objects.specs.{Tree.AreWithin, Tree.children_from, Tree.each_from, Tree.first_of, Tree.link_at, Tree.linked, Tree.links_of}
use Rattle.inf_objects.specs.{Tree.next_below, Tree.no_link, Tree.sibling_from, Tree.with_child, Tree.with_sibling, declared.tree.Link.Link}

-- the links where the objects from `place` on are hung, the last one first
abbrev pub made : ℕ → List ℕ → List Link → List Link
made place [] links = links
made place (p ∷ parents) links = linked place p (made (place + 1) parents links)

pub made-last : (place : ℕ) (before : List ℕ) (p : ℕ) (links : List Link)
    → made place (before ++ p ∷ []) links ≡ made place before (linked (place + length before) p links)
made-last place [] p links = let here : place ≡ place + 0 = omega arith in ap (λ n. linked n p links) here
made-last place (q ∷ before) p links =
    let there : place + 1 + length before ≡ place + length (q ∷ before) = omega arith in
    ap (linked place q) (made-last (place + 1) before p links ∙ ap (λ n. made (place + 1) before (linked n p links)) there)

-- the link at each place is that of the function
pub get-each : (first count : ℕ) (f : ℕ → Link) (place : ℕ) (d : Link) → place < count →
    get_or (each_from first count f) place d ≡ f (first + place)
get-each first zero f place d h = absurd (omega arith)
get-each first (suc count) f zero d h = let here : first ≡ first + 0 = omega arith in ap f here
get-each first (suc count) f (suc place) d h =
    let there : first + 1 + place ≡ first + suc place = omega arith in get-each (first + 1) count f place d (omega arith) ∙ ap f there

-- a function with another link at one number
abbrev pub but_at : ℕ → Link → (ℕ → Link) → ℕ → Link
but_at number link f n = if n == number then link else f n

pub same-each : (first count : ℕ) (f g : ℕ → Link) → ((n : ℕ) → first ≤ n → f n ≡ g n) → each_from first count f ≡ each_from first count g
same-each first zero f g same = refl
same-each first (suc count) f g same = ap (λ link. link ∷ each_from (first + 1) count f) (same first (omega arith))
    ∙ ap (λ links. g first ∷ links) (same-each (first + 1) count f g (λ n h. same n (omega (arith, h))))

but-here : (number : ℕ) (link : Link) (f : ℕ → Link) → but_at number link f number ≡ link
but-here number link f = ap (λ (b : Bool). if b then link else f number) (eq-eqb number number refl)

but-there : (number : ℕ) (link : Link) (f : ℕ → Link) (n : ℕ) → (n ≡ number → ⊥) → but_at number link f n ≡ f n
but-there number link f n e = ap (λ (b : Bool). if b then link else f n) (ne_eqb n number e)

pub set-each : (first count : ℕ) (f : ℕ → Link) (place : ℕ) (link : Link) → place < count
    → slice_set (each_from first count f) place link ≡ each_from first count (but_at (first + place) link f)
set-each first zero f place link h = absurd (omega arith)
set-each first (suc count) f zero link h =
    let here : first ≡ first + 0 = omega arith in
    ap (λ l. l ∷ each_from (first + 1) count f) (sym (but-here first link f) ∙ ap (λ n. but_at n link f first) here)
    ∙ ap (λ ls. but_at (first + 0) link f first ∷ ls)
    (same-each (first + 1) count f (but_at (first + 0) link f) (λ n h. sym (but-there (first + 0) link f n (λ e. omega (arith, e, h)))))
set-each first (suc count) f (suc place) link h =
    let there : first + 1 + place ≡ first + suc place = omega arith in
    ap (λ l. l ∷ slice_set (each_from (first + 1) count f) place link)
    (sym (but-there (first + suc place) link f first (λ e. omega (arith, e)))) ∙ ap (λ ls. but_at (first + suc place) link f first ∷ ls)
    (set-each (first + 1) count f place link (omega arith) ∙ ap (λ n. each_from (first + 1) count (but_at n link f)) there)

pub nothing-each : (first count : ℕ) → replicate count no_link ≡ each_from first count (λ n. no_link)
nothing-each first zero = refl
nothing-each first (suc count) = ap (λ ls. no_link ∷ ls) (nothing-each (first + 1) count)

-- the link of an object, where the objects from `place` on are hung
abbrev pub link_from : ℕ → List ℕ → ℕ → Link
link_from place parents number =
    record { sibling = sibling_from number (place + 1) parents; child = first_of (children_from (place + 1) number parents) }

-- the links where one more object is hung
abbrev hung : ℕ → ℕ → (ℕ → Link) → ℕ → Link
hung place p f = but_at p (record (but_at (place + 1) (record (f (place + 1)) { sibling = (f p).child }) f p) { child = place + 1 })
    (but_at (place + 1) (record (f (place + 1)) { sibling = (f p).child }) f)

sibling-step : (n first p : ℕ) (ps : List ℕ) (b : Bool) → (n == first) ≡ b
    → sibling_from n first (p ∷ ps) ≡ (if b then next_below p (first + 1) ps else sibling_from n (first + 1) ps)
sibling-step n first p ps b e = ap (λ (c : Bool). if c then next_below p (first + 1) ps else sibling_from n (first + 1) ps) e

first-if : (b : Bool) (m : ℕ) (ns : List ℕ) → first_of (if b then m ∷ ns else ns) ≡ (if b then m else first_of ns)
first-if true m ns = refl
first-if false m ns = refl

child-step : (n first p : ℕ) (ps : List ℕ) (b : Bool) → (p == n) ≡ b
    → first_of (children_from first n (p ∷ ps)) ≡ (if b then first else first_of (children_from (first + 1) n ps))
child-step n first p ps b e = first-if (p == n) first (children_from (first + 1) n ps)
    ∙ ap (λ (c : Bool). if c then first else first_of (children_from (first + 1) n ps)) e

next-step : (p first : ℕ) (ps : List ℕ) → (p == 0) ≡ false → next_below p first ps ≡ first_of (children_from first p ps)
next-step p first ps e = ap (λ (b : Bool). if b then 0 else first_of (children_from first p ps)) e

abbrev linked_to : ℕ → ℕ → Link
linked_to sibling child = record { sibling = sibling; child = child }

both : (s s' c c' : ℕ) → s ≡ s' → c ≡ c' → linked_to s c ≡ linked_to s' c'
both s s' c c' d e = ap (λ n. linked_to n c) d ∙ ap (linked_to s') e

hung-is : (place p : ℕ) (parents : List ℕ) (n : ℕ) → (p == 0) ≡ false →
    hung place p (link_from (place + 1) parents) n ≡ link_from place (p ∷ parents) n
hung-is place p parents n e = elim (cases_eq n p) [
  | inl same ↦ subst (λ m. hung place p f m ≡ link_from place (p ∷ parents) m) (sym same) own
  | inr other ↦ but-there p up side n other ∙ beside other (cases_eq n (place + 1))
] where
  f : ℕ → Link
  f = link_from (place + 1) parents

  gone : Link
  gone = record (f (place + 1)) { sibling = (f p).child }

  side : ℕ → Link
  side = but_at (place + 1) gone f

  up : Link
  up = record (side p) { child = place + 1 }

  last : (m : ℕ) → m ≡ place + 1 → (f p).child ≡ sibling_from m (place + 1) (p ∷ parents)
  last m at = sym (sibling-step m (place + 1) p parents true (eq-eqb m (place + 1) at) ∙ next-step p (place + 1 + 1) parents e)

  further : (m : ℕ) → (m ≡ place + 1 → ⊥) → (f m).sibling ≡ sibling_from m (place + 1) (p ∷ parents)
  further m isnt = sym (sibling-step m (place + 1) p parents false (ne_eqb m (place + 1) isnt))

  above : (n ≡ p → ⊥) → (f n).child ≡ first_of (children_from (place + 1) n (p ∷ parents))
  above other = sym (child-step n (place + 1) p parents false (ne_eqb p n (λ same. other (sym same))))

  own_sibling : (p ≡ place + 1) ⊎ (p ≡ place + 1 → ⊥) → (side p).sibling ≡ sibling_from p (place + 1) (p ∷ parents)
  own_sibling (inl at) = ap (λ (b : Bool). (if b then gone else f p).sibling) (eq-eqb p (place + 1) at) ∙ last p at
  own_sibling (inr isnt) = ap (λ (b : Bool). (if b then gone else f p).sibling) (ne_eqb p (place + 1) isnt) ∙ further p isnt

  own : hung place p f p ≡ link_from place (p ∷ parents) p
  own = but-here p up side ∙ both (side p).sibling (sibling_from p (place + 1) (p ∷ parents)) (place + 1)
      (first_of (children_from (place + 1) p (p ∷ parents)))
      (own_sibling (cases_eq p (place + 1))) (sym (child-step p (place + 1) p parents true (eq-eqb p p refl)))

  beside : (n ≡ p → ⊥) → (n ≡ place + 1) ⊎ (n ≡ place + 1 → ⊥) → side n ≡ link_from place (p ∷ parents) n
  beside other (inl at) = ap (λ (b : Bool). if b then gone else f n) (eq-eqb n (place + 1) at)
      ∙ both (f p).child (sibling_from n (place + 1) (p ∷ parents)) (f (place + 1)).child
      (first_of (children_from (place + 1) n (p ∷ parents))) (last n at) (ap (λ m. (f m).child) (sym at) ∙ above other)
  beside other (inr isnt) = but-there (place + 1) gone f n isnt
      ∙ both (f n).sibling (sibling_from n (place + 1) (p ∷ parents)) (f n).child (first_of (children_from (place + 1) n (p ∷ parents)))
      (further n isnt) (above other)

-- a number below that of the first object of a list has no sibling in it
sibling-before : (n first : ℕ) (ps : List ℕ) → n < first → sibling_from n first ps ≡ 0
sibling-before n first [] h = refl
sibling-before n first (p ∷ ps) h =
    sibling-step n first p ps false (ne_eqb n first (λ e. omega (arith, e, h))) ∙ sibling-before n (first + 1) ps (omega (arith, h))

-- an object without a parent changes no link
root-is : (place p : ℕ) (parents : List ℕ) (n : ℕ) → p ≡ 0 → 1 ≤ n → link_from (place + 1) parents n ≡ link_from place (p ∷ parents) n
root-is place p parents n e h = both (sibling_from n (place + 1 + 1) parents) (sibling_from n (place + 1) (p ∷ parents))
    (first_of (children_from (place + 1 + 1) n parents)) (first_of (children_from (place + 1) n (p ∷ parents)))
    (go (cases_eq n (place + 1))) (sym (child-step n (place + 1) p parents false (ne_eqb p n (λ same. omega (arith, e, h, same)))))
  where
    go : (n ≡ place + 1) ⊎ (n ≡ place + 1 → ⊥) → sibling_from n (place + 1 + 1) parents ≡ sibling_from n (place + 1) (p ∷ parents)
    go (inl at) = sibling-before n (place + 1 + 1) parents (omega (arith, at))
        ∙ sym (ap (λ (b : Bool). if b then 0 else first_of (children_from (place + 1 + 1) p parents)) (eq-eqb p 0 e))
        ∙ sym (sibling-step n (place + 1) p parents true (eq-eqb n (place + 1) at))
    go (inr isnt) = sym (sibling-step n (place + 1) p parents false (ne_eqb n (place + 1) isnt))

sibling-each : (count : ℕ) (f : ℕ → Link) (place s : ℕ) → place < count
    → with_sibling place s (each_from 1 count f) ≡ each_from 1 count (but_at (place + 1) (record (f (place + 1)) { sibling = s }) f)
sibling-each count f place s h =
    let here : 1 + place ≡ place + 1 = omega arith in
    ap (λ (l : Link). slice_set (each_from 1 count f) place (record l { sibling = s })) (get-each 1 count f place no_link h)
    ∙ set-each 1 count f place (record (f (1 + place)) { sibling = s }) h
    ∙ ap (λ n. each_from 1 count (but_at n (record (f n) { sibling = s }) f)) here

child-each : (count : ℕ) (f : ℕ → Link) (place c : ℕ) → place < count
    → with_child place c (each_from 1 count f) ≡ each_from 1 count (but_at (place + 1) (record (f (place + 1)) { child = c }) f)
child-each count f place c h =
    let here : 1 + place ≡ place + 1 = omega arith in
    ap (λ (l : Link). slice_set (each_from 1 count f) place (record l { child = c })) (get-each 1 count f place no_link h)
    ∙ set-each 1 count f place (record (f (1 + place)) { child = c }) h
    ∙ ap (λ n. each_from 1 count (but_at n (record (f n) { child = c }) f)) here

linked-each : (place p count : ℕ) (parents : List ℕ) → place < count → p ≤ count
    → linked place p (each_from 1 count (link_from (place + 1) parents)) ≡ each_from 1 count (link_from place (p ∷ parents))
linked-each place p count parents h k = go (p == 0) refl where
  f : ℕ → Link
  f = link_from (place + 1) parents

  links : List Link
  links = each_from 1 count f

  go : (b : Bool) → (p == 0) ≡ b
      → (if b then links else with_child (p - 1) (place + 1) (with_sibling place (link_at links (p - 1)).child links)) ≡ each_from 1 count
      (link_from place (p ∷ parents))
  go true e = same-each 1 count f (link_from place (p ∷ parents)) (λ n from. root-is place p parents n (eqb-true p 0 e) from)
  go false e =
      let some : p ≡ p - 1 + 1 = omega (arith, eqb-false p 0 e) in
      let less : p - 1 < count = omega (arith, eqb-false p 0 e, k) in
      let front : 1 + (p - 1) ≡ p = omega (arith, eqb-false p 0 e) in
      let child : (link_at links (p - 1)).child ≡ (f p).child =
      ap (λ (l : Link). l.child) (get-each 1 count f (p - 1) no_link less ∙ ap f front) in
      let side = but_at (place + 1) (record (f (place + 1)) { sibling = (f p).child }) f in
      ap (λ c. with_child (p - 1) (place + 1) (with_sibling place c links)) child
      ∙ ap (with_child (p - 1) (place + 1)) (sibling-each count f place (f p).child h) ∙ child-each count side (p - 1) (place + 1) less
      ∙ ap (λ n. each_from 1 count (but_at n (record (side n) { child = place + 1 }) side)) (sym some)
      ∙ same-each 1 count (hung place p f) (link_from place (p ∷ parents)) (λ n from. hung-is place p parents n e)

pub made-each : (place count : ℕ) (parents : List ℕ) → place + length parents ≡ count → AreWithin count parents
    → made place parents (each_from 1 count (λ n. no_link)) ≡ each_from 1 count (link_from place parents)
made-each place count [] h k = same-each 1 count (λ n. no_link) (link_from place []) (λ n k. refl)
made-each place count (p ∷ parents) h k = ap (linked place p) (made-each (place + 1) count parents (omega (arith, h)) k.1)
    ∙ linked-each place p count parents (omega (arith, h)) k.0

-- once all objects are hung the links are those of the tree
pub made-links : (parents : List ℕ) → AreWithin (length parents) parents →
    made 0 parents (replicate (length parents) no_link) ≡ links_of parents
made-links parents h = ap (made 0 parents) (nothing-each 1 (length parents)) ∙ made-each 0 (length parents) parents (omega arith) h

pub within-front : (most : ℕ) (before : List ℕ) (p : ℕ) → AreWithin most (before ++ p ∷ []) → AreWithin most before × (p ≤ most)
within-front most [] p h = (tt, h.0)
within-front most (q ∷ before) p h = let later = within-front most before p h.1 in ((h.0, later.0), later.1)

-- hanging the last object that is left brings the links one step on
pub made-step : (left before : List ℕ) (p : ℕ) (links : List Link) → left ≡ before ++ p ∷ [] →
    made 0 before (linked (length before) p links) ≡ made 0 left links
made-step left before p links is =
    let here : length before ≡ 0 + length before = omega arith in
    ap (λ n. made 0 before (linked n p links)) here ∙ sym (made-last 0 before p links) ∙ ap (λ ps. made 0 ps links) (sym is)

pub none_left : (left : List ℕ) (links : List Link) → length left ≡ 0 → made 0 left links ≡ links
none_left [] links e = refl
none_left (p ∷ left) links e = absurd (omega arith)
