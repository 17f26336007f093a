-- The events of an expression build it, where those of its parts build these.
use Rattle.std.proofs.Common.{◌≡◌, ℕ, suc, ◌+◌, ◌-◌, List, [], ◌∷◌, ◌++◌, length, Some, refl, ◌∙◌, ap, arith}
use Rattle.std.proofs.lemmas.List.{length-append}
use Rattle.inf_machine.specs.Grammar.{Event, Took, Did}
use Rattle.inf_syntax.specs.declared.actions.Action.{Action}
use Rattle.inf_expressions.specs.{declared.operators.Binary.Binary, declared.operators.Unary.Unary}
use Rattle.inf_expressions.specs.Sources.{Source, Leaf, Brackets, Prefix, Suffix, Two, Call, Alone}
use Rattle.inf_unit.specs.{Steps.step_of, declared.steps.GatherStep.GatherStep}
use Rattle.inf_expression_laws.specs.{Gathered.first_of, Precedence.leaf_count, Precedence.leaf_count_of_all, Precedence.list_of}
use Rattle.inf_expression_laws.proofs.Built.{Builds, State, all_sources, behind, built, in_front_of, list_joined, one_more, over_one}
use Rattle.inf_expression_laws.proofs.Built.{over_two, pushed, stepped, tested}

-- Tells whether events build the parts of a list that was just opened.
abbrev pub Lists : (List (Event Action) → List (Event Action)) → ℕ → ℕ → ℕ → List Source → Type 0
Lists events order place count parts =
    (s : State) → s.order ≡ order → s.place ≡ place → (counts : List ℕ) → s.counts ≡ 0 ∷ counts → (more : List (Event Action)) →
    built (events more) s
    ≡ built more (record s {
      sources = all_sources parts s.sources;
      counts = length parts ∷ counts;
      order = s.order + count;
      place = s.place + leaf_count_of_all parts;
    })

pub leaf_builds : (a : Action) → step_of a ≡ Some GatherStep.Leaf → (order place atom : ℕ) →
    Builds (λ more. Took atom ∷ Did a ∷ more) order place 1 (Leaf order order place)
leaf_builds a e order place atom s o p more =
    let own : (s.order + 1) - 1 ≡ order = omega (arith, o) in
    ap (λ st. built more (stepped st (record s { order = s.order + 1 }))) e
    ∙ ap (built more) (λ i. record {
      sources = Leaf (own i) (own i) (p i) ∷ s.sources;
      counts = s.counts;
      brackets = s.brackets;
      order = s.order + 1;
      place = s.place + 1;
    })

pub action_builds : (order place sign atom : ℕ) →
    Builds (λ more. Took sign ∷ Took atom ∷ Did Action.Action ∷ more) order place 2 (Leaf order (suc order) place)
action_builds order place sign atom s o p more =
    let first : ((s.order + 1) + 1) - 2 ≡ order = omega (arith, o) in
    let own : ((s.order + 1) + 1) - 1 ≡ suc order = omega (arith, o) in
    let next : (s.order + 1) + 1 ≡ s.order + 2 = omega arith in
    ap (built more) (λ i. record {
      sources = Leaf (first i) (own i) (p i) ∷ s.sources;
      counts = s.counts;
      brackets = s.brackets;
      order = next i;
      place = s.place + 1;
    })

pub system_builds : (order place sign atom : ℕ) →
    Builds (λ more. Took sign ∷ Took atom ∷ Did Action.System ∷ more) order place 2 (Leaf order (suc order) place)
system_builds order place sign atom s o p more =
    let first : ((s.order + 1) + 1) - 2 ≡ order = omega (arith, o) in
    let own : ((s.order + 1) + 1) - 1 ≡ suc order = omega (arith, o) in
    let next : (s.order + 1) + 1 ≡ s.order + 2 = omega arith in
    ap (built more) (λ i. record {
      sources = Leaf (first i) (own i) (p i) ∷ s.sources;
      counts = s.counts;
      brackets = s.brackets;
      order = next i;
      place = s.place + 1;
    })

pub front_builds : (op : Unary) (x : Action) →
    ((s : State) → stepped (step_of x) s ≡ record s { sources = over_one (in_front_of op) s.sources }) →
    (order place sign n : ℕ) (a : Source) (events : List (Event Action) → List (Event Action)) → first_of a ≡ suc order → Builds events
    (suc order) place n a →
    Builds (λ more. Took sign ∷ events (Did x ∷ more)) order place (suc n) (Prefix order op a)
front_builds op x effect order place sign n a events f b s o p more =
    let own : first_of a - 1 ≡ order = omega (arith, f) in
    let next : (s.order + 1) + n ≡ s.order + suc n = omega arith in
    b (record s { order = s.order + 1 }) (omega (arith, o)) p (Did x ∷ more)
    ∙ ap (built more) (effect (pushed n a (record s { order = s.order + 1 })))
    ∙ ap (built more) (λ i. record {
      sources = Prefix (own i) op a ∷ s.sources;
      counts = s.counts;
      brackets = s.brackets;
      order = next i;
      place = s.place + leaf_count a;
    })

pub suffix_builds : (op : Unary) (x : Action) →
    ((s : State) → stepped (step_of x) s ≡ record s { sources = over_one (Suffix op) s.sources }) →
    (order place sign : ℕ) (atoms : List ℕ) (a : Source) (events : List (Event Action) → List (Event Action)) → Builds events order place
    (length atoms) a →
    Builds (λ more. events (Took sign ∷ Did x ∷ more)) order place (length (atoms ++ sign ∷ [])) (Suffix op a)
suffix_builds op x effect order place sign atoms a events b s o p more =
    let next : (s.order + length atoms) + 1 ≡ s.order + length (atoms ++ sign ∷ []) = omega (arith, length-append atoms (sign ∷ [])) in
    b s o p (Took sign ∷ Did x ∷ more)
    ∙ ap (built more) (effect (record (pushed (length atoms) a s) { order = (s.order + length atoms) + 1 }))
    ∙ ap (built more) (λ i. record {
      sources = Suffix op a ∷ s.sources;
      counts = s.counts;
      brackets = s.brackets;
      order = next i;
      place = s.place + leaf_count a;
    })

pub two_builds : (op : Binary) (x : Action) → ((s : State) → stepped (step_of x) s ≡ record s { sources = over_two (Two op) s.sources }) →
    (order place sign : ℕ) (left right : List ℕ) (a b : Source) (first second : List (Event Action) → List (Event Action)) →
    Builds first order place (length left) a → Builds second (suc (order + length left)) (place + leaf_count a) (length right) b →
    Builds (λ more. first (Took sign ∷ second (Did x ∷ more))) order place (length (left ++ sign ∷ right)) (Two op a b)
two_builds op x effect order place sign left right a b first second f g s o p more =
    let next : ((s.order + length left) + 1) + length right ≡ s.order + length (left ++ sign ∷ right) =
    omega (arith, length-append left (sign ∷ right)) in
    let last : (s.place + leaf_count a) + leaf_count b ≡ s.place + (leaf_count a + leaf_count b) = omega arith in
    let middle = record (pushed (length left) a s) { order = (s.order + length left) + 1 } in
    f s o p (Took sign ∷ second (Did x ∷ more))
    ∙ g middle (omega (arith, o)) (omega (arith, p)) (Did x ∷ more)
    ∙ ap (built more) (effect (pushed (length right) b middle))
    ∙ ap (built more) (λ i. record {
      sources = Two op a b ∷ s.sources;
      counts = s.counts;
      brackets = s.brackets;
      order = next i;
      place = last i;
    })

pub brackets_build : (order place left right : ℕ) (atoms : List ℕ) (a : Source) (events : List (Event Action) → List (Event Action)) →
    Builds events (suc order) place (length atoms) a →
    Builds (λ more. Took left ∷ Did Action.Bracket ∷ events (Did Action.Bracketed ∷ Took right ∷ more)) order place
    (length (left ∷ (atoms ++ right ∷ []))) (Brackets order a)
brackets_build order place left right atoms a events b s o p more =
    let own : (s.order + 1) - 1 ≡ order = omega (arith, o) in
    let next : ((s.order + 1) + length atoms) + 1 ≡ s.order + length (left ∷ (atoms ++ right ∷ [])) =
    omega (arith, length-append atoms (right ∷ [])) in
    b (record s { order = s.order + 1; brackets = ((s.order + 1) - 1) ∷ s.brackets }) (omega (arith, o)) p
    (Did Action.Bracketed ∷ Took right ∷ more)
    ∙ ap (built more) (λ i. record {
      sources = Brackets (own i) a ∷ s.sources;
      counts = s.counts;
      brackets = s.brackets;
      order = next i;
      place = s.place + leaf_count a;
    })

pub list_leaves : (b : Source) (sources : List Source) → leaf_count (list_of b sources) ≡ leaf_count_of_all (b ∷ sources)
list_leaves b [] = omega arith
list_leaves b (c ∷ sources) = omega (arith, list_leaves c sources)

pub test_builds : (op : Binary) (x : Action) →
    ((s : State) → stepped (step_of x) s ≡ record s { sources = tested op s.counts s.sources; counts = behind s.counts }) →
    (order place sign : ℕ) (left right : List ℕ) (a b : Source) (sources : List Source)
    (first second : List (Event Action) → List (Event Action)) →
    Builds first order place (length left) a → Lists second (suc (order + length left)) (place + leaf_count a) (length right) (b ∷ sources)
    →
    Builds (λ more. first (Took sign ∷ Did Action.Count ∷ second (Did x ∷ more))) order place (length (left ++ sign ∷ right))
    (Two op a (list_of b sources))
test_builds op x effect order place sign left right a b sources first second f g s o p more =
    let next : ((s.order + length left) + 1) + length right ≡ s.order + length (left ++ sign ∷ right) =
    omega (arith, length-append left (sign ∷ right)) in
    let last : (s.place + leaf_count a) + leaf_count_of_all (b ∷ sources) ≡ s.place + (leaf_count a + leaf_count (list_of b sources)) =
    omega (arith, list_leaves b sources) in
    let middle = record (pushed (length left) a s) { order = (s.order + length left) + 1; counts = 0 ∷ s.counts } in
    f s o p (Took sign ∷ Did Action.Count ∷ second (Did x ∷ more))
    ∙ g middle (omega (arith, o)) (omega (arith, p)) s.counts refl (Did x ∷ more)
    ∙ ap (built more) (effect _)
    ∙ ap (built more) (λ i. record {
      sources = ap (over_two (Two op)) (list_joined b sources (a ∷ s.sources)) i;
      counts = s.counts;
      brackets = s.brackets;
      order = next i;
      place = last i;
    })

pub call_builds : (order place left right : ℕ) (atoms given : List ℕ) (a b : Source) (sources : List Source)
    (first second : List (Event Action) → List (Event Action)) →
    Builds first order place (length atoms) a → Lists second (suc (order + length atoms)) (place + leaf_count a) (length given)
    (b ∷ sources) →
    Builds (λ more. first (Took left ∷ Did Action.Count ∷ second (Took right ∷ Did Action.Call ∷ more))) order place
    (length (((atoms ++ left ∷ []) ++ given) ++ right ∷ [])) (Call a (list_of b sources))
call_builds order place left right atoms given a b sources first second f g s o p more =
    let next : (((s.order + length atoms) + 1) + length given) + 1 ≡ s.order + length (((atoms ++ left ∷ []) ++ given) ++ right ∷ []) =
    omega (
      arith,
      length-append ((atoms ++ left ∷ []) ++ given) (right ∷ []),
      length-append (atoms ++ left ∷ []) given,
      length-append atoms (left ∷ []),
    ) in
    let last : (s.place + leaf_count a) + leaf_count_of_all (b ∷ sources) ≡ s.place + (leaf_count a + leaf_count (list_of b sources)) =
    omega (arith, list_leaves b sources) in
    let middle = record (pushed (length atoms) a s) { order = (s.order + length atoms) + 1; counts = 0 ∷ s.counts } in
    f s o p (Took left ∷ Did Action.Count ∷ second (Took right ∷ Did Action.Call ∷ more))
    ∙ g middle (omega (arith, o)) (omega (arith, p)) s.counts refl (Took right ∷ Did Action.Call ∷ more)
    ∙ ap (built more) (λ i. record {
      sources = ap (over_two Call) (list_joined b sources (a ∷ s.sources)) i;
      counts = s.counts;
      brackets = s.brackets;
      order = next i;
      place = last i;
    })

pub alone_builds : (order place left right : ℕ) (atoms : List ℕ) (a : Source) (events : List (Event Action) → List (Event Action)) →
    Builds events order place (length atoms) a →
    Builds (λ more. events (Took left ∷ Did Action.Count ∷ Took right ∷ Did Action.Call ∷ more)) order place
    (length ((atoms ++ left ∷ []) ++ right ∷ [])) (Alone a)
alone_builds order place left right atoms a events b s o p more =
    let next : ((s.order + length atoms) + 1) + 1 ≡ s.order + length ((atoms ++ left ∷ []) ++ right ∷ []) =
    omega (arith, length-append (atoms ++ left ∷ []) (right ∷ []), length-append atoms (left ∷ [])) in
    b s o p (Took left ∷ Did Action.Count ∷ Took right ∷ Did Action.Call ∷ more)
    ∙ ap (built more) (λ i. record {
      sources = Alone a ∷ s.sources;
      counts = s.counts;
      brackets = s.brackets;
      order = next i;
      place = s.place + leaf_count a;
    })

-- Lemmas about lists
pub one_lists : (order place n : ℕ) (a : Source) (events : List (Event Action) → List (Event Action)) → Builds events order place n a →
    Lists (λ more. events (Did Action.Part ∷ more)) order place n (a ∷ [])
one_lists order place n a events b s o p counts e more =
    let last : s.place + leaf_count a ≡ s.place + leaf_count_of_all (a ∷ []) = omega arith in
    b s o p (Did Action.Part ∷ more)
    ∙ ap (built more) (λ i. record {
      sources = a ∷ s.sources;
      counts = ap one_more e i;
      brackets = s.brackets;
      order = s.order + n;
      place = last i;
    })

last_source : (parts : List Source) (a : Source) (sources : List Source) →
    a ∷ all_sources parts sources ≡ all_sources (parts ++ a ∷ []) sources
last_source [] a sources = refl
last_source (b ∷ parts) a sources = last_source parts a (b ∷ sources)

all_leaves : (parts : List Source) (a : Source) → leaf_count_of_all (parts ++ a ∷ []) ≡ leaf_count_of_all parts + leaf_count a
all_leaves [] a = omega arith
all_leaves (b ∷ parts) a = omega (arith, all_leaves parts a)

pub more_lists : (order place sign : ℕ) (left right : List ℕ) (parts : List Source) (a : Source)
    (first second : List (Event Action) → List (Event Action)) →
    Lists first order place (length left) parts → Builds second (suc (order + length left)) (place + leaf_count_of_all parts) (length right)
    a →
    Lists (λ more. first (Took sign ∷ second (Did Action.Part ∷ more))) order place (length (left ++ sign ∷ right)) (parts ++ a ∷ [])
more_lists order place sign left right parts a first second f g s o p counts e more =
    let next : ((s.order + length left) + 1) + length right ≡ s.order + length (left ++ sign ∷ right) =
    omega (arith, length-append left (sign ∷ right)) in
    let last : (s.place + leaf_count_of_all parts) + leaf_count a ≡ s.place + leaf_count_of_all (parts ++ a ∷ []) =
    omega (arith, all_leaves parts a) in
    let count : suc (length parts) ≡ length (parts ++ a ∷ []) = omega (arith, length-append parts (a ∷ [])) in
    let middle = record s {
      sources = all_sources parts s.sources;
      counts = length parts ∷ counts;
      order = (s.order + length left) + 1;
      place = s.place + leaf_count_of_all parts;
    } in
    f s o p counts e (Took sign ∷ second (Did Action.Part ∷ more))
    ∙ g middle (omega (arith, o)) (omega (arith, p)) (Did Action.Part ∷ more)
    ∙ ap (built more) (λ i. record {
      sources = last_source parts a s.sources i;
      counts = count i ∷ counts;
      brackets = s.brackets;
      order = next i;
      place = last i;
    })
