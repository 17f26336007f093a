-- An expression that is known to be one only behind its first tokens: a text, or a name in brackets.
use Rattle.std.proofs.Common.{◌≡◌, ℕ, ◌+◌, ◌≤◌, ◌<◌, List, [], ◌∷◌, ◌++◌, length, false, Option, Some, None, refl, sym, ◌∙◌, ap}
use Rattle.std.proofs.Common.{append_assoc, append-nil, arith, subst}
use Rattle.std.proofs.lemmas.List.{length-append, map-append}
use Rattle.inf_expressions.specs.Sources.{Source}
use Rattle.inf_scanner.specs.declared.tokens.Place.{Place}
use Rattle.inf_gathering.specs.Gatherings.{Gathering}
use Rattle.inf_settings.specs.Bounds.{Limits}
use Rattle.inf_machine.specs.Grammar.{Did, Event, Took}
use Rattle.inf_syntax.specs.declared.actions.Action.{Action}
use Rattle.inf_unit.specs.Tokens.{SourceToken}
use Rattle.inf_unit.specs.Units.{Unit as UnitAtHand, acted, depth_behind, long_at, outer_tokens, taken}
use Rattle.inf_compilation.specs.{Actions.Compilation, Actions.stopped, Context.Context, Context.longest}
use Rattle.inf_reader.specs.Acting.{act}
use Rattle.inf_statement_laws.specs.{Laid.passed, Laid.run, Readings.Seen}
use Rattle.inf_statement_laws.proofs.Laying.{run_then}
use Rattle.inf_expression_laws.specs.{Gathered.AreSeen, Gathered.read_by, Gathered.with_source, Precedence.Written}
use Rattle.inf_language.specs.{Constants.brackets_behind, Constants.length_told, Texts.atoms_of, Texts.happenings_before, Texts.tokens_of}
use Rattle.inf_language.specs.{Units.AllSteps, Units.TakeAll}
use Rattle.inf_language.proofs.ExpressionsTold.{fields_stay}
use Rattle.inf_trees.specs.Trees.{Doubtful, front_told, tokens_told, told_at, with_front, with_outer, with_value, without_outer}
use Rattle.inf_trees.proofs.{Beside.acted_gathers, Needs.needs, Needs.steps_need, UnitsGo.Going, UnitsGo.steps_quiet}
use Rattle.inf_trees.proofs.UnitsRead.{at, before-append, note_first, place_before, ready, seen_parts, tokens_count, tokens_opening}
use Rattle.inf_trees.proofs.UnitsRead.{told_beside, value_reads}

-- Lemmas about reading by two lists of events

read-append : (early late : List (Event Action)) (front : List Seen) (rest : List SourceToken) (u : UnitAtHand) → TakeAll early front
    → read_by (early ++ late) (tokens_of front ++ rest) u ≡ read_by late rest (read_by early (tokens_of front) u)
read-append [] late [] rest u all = refl
read-append [] late (s ∷ front) rest u all = absurd all
read-append (Did a ∷ early) late front rest u all = read-append early late front rest (acted a u) all
read-append (Took atom ∷ early) late [] rest u all = absurd all
read-append (Took atom ∷ early) late (s ∷ front) rest u all = read-append early late front rest (taken s.token u) all

-- The tokens that a unit has once it was read by steps
tokens_read : (events : List (Event Action)) (seen : List Seen) (u : UnitAtHand) (tokens : List SourceToken) (g : Gathering) (depth : ℕ)
    → AllSteps events → TakeAll events seen
    → (read_by events (tokens_of seen) (at u tokens g depth)).tokens ≡ tokens ++ tokens_of seen
tokens_read [] [] u tokens g depth steps all = sym (append-nil tokens)
tokens_read [] (s ∷ seen) u tokens g depth steps all = absurd all
tokens_read (Did a ∷ events) seen u tokens g depth steps all =
    ap (λ (x : UnitAtHand). (read_by events (tokens_of seen) x).tokens) (acted_gathers a (at u tokens g depth) steps.0)
    ∙ tokens_read events seen u tokens (acted a (at u tokens g depth)).gathering depth steps.1 all
tokens_read (Took atom ∷ events) [] u tokens g depth steps all = absurd all
tokens_read (Took atom ∷ events) (s ∷ seen) u tokens g depth steps all =
    tokens_read events seen u (tokens ++ s.token ∷ []) g (depth_behind s.token.kind depth) steps all
    ∙ append_assoc tokens (s.token ∷ []) (tokens_of seen)

brackets-append : (xs ys : List SourceToken) (depth : ℕ) → brackets_behind ys (brackets_behind xs depth) ≡ brackets_behind (xs ++ ys) depth
brackets-append [] ys depth = refl
brackets-append (x ∷ xs) ys depth = brackets-append xs ys (depth_behind x.kind depth)

-- Lemmas about the expression

-- The source of an expression whose tokens a unit has been read by
pub record Valued (level : ℕ) (atoms : List ℕ) (events : List (Event Action)) (tokens : List SourceToken) (u : UnitAtHand) : Type 0 where
  pub value : Source
  pub written : Written level (length u.tokens) (length u.gathering.leaves) atoms value
  pub gathered : (read_by events tokens u).gathering ≡ with_source u.outer u.begun (u.tokens ++ tokens) value u.gathering
  pub all : (read_by events tokens u).tokens ≡ u.tokens ++ tokens

pub record IsDoubted (front tokens : List Seen) (early steps : List (Event Action)) : Type 0 where
  pub level : ℕ
  pub all_early : TakeAll early front
  pub all_steps : TakeAll steps tokens
  pub only_early : AllSteps early
  pub only_steps : AllSteps steps
  pub valued : (u : UnitAtHand) → AreSeen (atoms_of (front ++ tokens)) (tokens_of (front ++ tokens)) → u.is_over ≡ false
      → u.begun ≤ length u.tokens → length (u.tokens ++ tokens_of (front ++ tokens)) < 4294967295
      → Valued level (atoms_of (front ++ tokens)) (early ++ Did Action.OuterSure ∷ steps) (tokens_of (front ++ tokens)) u

-- Lemmas about the state behind the first tokens

-- the unit before it is known whether an expression is open, and once it is
abbrev maybe : UnitAtHand → UnitAtHand
maybe u = record (ready u) { outer = Some (length u.tokens); is_sure = false }

abbrev sure : UnitAtHand → List Seen → Gathering → UnitAtHand
sure u front g = record (with_front (tokens_of front) (ready u)) { gathering = g }

abbrev early_gathering : UnitAtHand → List Seen → List (Event Action) → Gathering
early_gathering u front early = (read_by early (tokens_of front) (maybe u)).gathering

abbrev doubted : UnitAtHand → List Seen → Gathering → UnitAtHand
doubted u front g =
    record (maybe u) { tokens = u.tokens ++ tokens_of front; gathering = g; depth = brackets_behind (tokens_of front) u.depth }

front_read : (u : UnitAtHand) (front : List Seen) (early : List (Event Action)) → AllSteps early → TakeAll early front
    → read_by early (tokens_of front) (maybe u) ≡ doubted u front (early_gathering u front early)
front_read u front early steps all =
    let x = maybe u in
    fields_stay early front x x.gathering x.depth x.tokens steps all
    ∙ ap (λ l. record (doubted u front (early_gathering u front early)) { tokens = l })
    (tokens_read early front x x.tokens x.gathering x.depth steps all)

-- Tokens of which it is not known yet have the reports of those outside of expressions.
maybe_told : (context : Context) (u : UnitAtHand) (tokens : List SourceToken) (depth n : ℕ) (seen : List Seen) (w : Compilation)
    → tokens_told context (record u { tokens = tokens; outer = Some n; is_sure = false; is_over = false; depth = depth }) seen w
    ≡ tokens_told context (record u { tokens = tokens; outer = None; is_sure = false; is_over = false; depth = depth }) seen w
maybe_told context u tokens depth n [] w = refl
maybe_told context u tokens depth n (s ∷ seen) w =
    let so_far = tokens ++ s.token ∷ [] in
    let behind = depth_behind s.token.kind depth in
    let v = record u { tokens = so_far; outer = None; is_sure = false; is_over = false; depth = behind } in
    maybe_told context u so_far behind n seen (passed s.behind (told_at context v s.token w))

pub sized_beside : (context : Context) (too_many : Option Place) (u : UnitAtHand) (w : Compilation)
    → stopped context too_many (record w { unit = u }) ≡ record (length_told context too_many (outer_tokens u) w) { unit = u }
sized_beside context None u w = refl
sized_beside context (Some place) u w = refl

-- The action by which it is known reports the number of its tokens.
sure_acts : (limits : Limits) (context : Context) (place : Place) (u : UnitAtHand) (front : List Seen) (g : Gathering) (w : Compilation)
    → act limits context place Action.OuterSure (record w { unit = doubted u front g })
    ≡ record (front_told context (with_front (tokens_of front) (ready u)) w) { unit = sure u front g }
sure_acts limits context place u front g w = sized_beside context (long_at (longest context) (sure u front g)) (sure u front g) w

pub length_opening : (context : Context) (too_many : Option Place) (count : ℕ) (w : Compilation)
    → (length_told context too_many count w).opening ≡ w.opening
length_opening context None count w = refl
length_opening context (Some place) count w = refl

-- Lemmas about the unit with the expression

valued_reads : (u : UnitAtHand) (front tokens : List Seen) (early steps : List (Event Action)) → (d : IsDoubted front tokens early steps)
    → (v : Valued d.level (atoms_of (front ++ tokens)) (early ++ Did Action.OuterSure ∷ steps) (tokens_of (front ++ tokens)) (maybe u))
    → read_by steps (tokens_of tokens) (sure u front (early_gathering u front early))
    ≡ with_value (tokens_of front ++ tokens_of tokens) v.value (ready u)
valued_reads u front tokens early steps d v =
    let all = tokens_of front ++ tokens_of tokens in
    let all_are : tokens_of (front ++ tokens) ≡ all = map-append (λ (s : Seen). s.token) front tokens in
    let g = early_gathering u front early in
    let x = maybe u in
    let r = read_by steps (tokens_of tokens) (sure u front g) in
    let same : read_by (early ++ Did Action.OuterSure ∷ steps) (tokens_of (front ++ tokens)) x ≡ r =
    ap (λ l. read_by (early ++ Did Action.OuterSure ∷ steps) l x) all_are
    ∙ (read-append early (Did Action.OuterSure ∷ steps) front (tokens_of tokens) x d.all_early
    ∙ ap (λ (y : UnitAtHand). read_by steps (tokens_of tokens) (acted Action.OuterSure y))
    (front_read u front early d.only_early d.all_early)) in
    let depth = brackets-append (tokens_of front) (tokens_of tokens) u.depth in
    let base = with_outer (ready u) in
    value_reads all v.value u r
    (fields_stay steps tokens base g (brackets_behind (tokens_of front) u.depth) (u.tokens ++ tokens_of front) d.only_steps d.all_steps
    ∙ ap (λ n. record base { tokens = r.tokens; gathering = r.gathering; depth = n }) depth)
    (sym (ap (λ (y : UnitAtHand). y.gathering) same) ∙ (v.gathered
    ∙ ap (λ l. with_source (Some (length u.tokens)) u.begun (u.tokens ++ l) v.value u.gathering) all_are))
    (sym (ap (λ (y : UnitAtHand). y.tokens) same) ∙ (v.all ∙ ap (λ l. u.tokens ++ l) all_are))

doubted_does : (limits : Limits) (context : Context) (next : Place) (u : UnitAtHand) (front tokens rest : List Seen)
    (early steps late : List (Event Action)) (value : Source) (level : ℕ) (w : Compilation) → IsDoubted front tokens early steps
    → read_by steps (tokens_of tokens) (sure u front (early_gathering u front early))
    ≡ with_value (tokens_of front ++ tokens_of tokens) value (ready u) → w.opening ≡ None
    → let v = with_front (tokens_of front) (ready u) in
    let told = tokens_told context v tokens (front_told context v (tokens_told context (without_outer (ready u)) front w)) in
    run limits context
    (happenings_before next (Did Action.OuterMaybe ∷ (early ++ Did Action.OuterSure ∷ (steps ++ late))) (front ++ (tokens ++ rest)))
    (record w { unit = ready u })
    ≡ run limits context (happenings_before next late rest)
    (record told { unit = with_value (tokens_of front ++ tokens_of tokens) value (ready u) })
doubted_does limits context next u front tokens rest early steps late value level w d reads none =
    let x = maybe u in
    let v = with_front (tokens_of front) (ready u) in
    let g = early_gathering u front early in
    let behind = Did Action.OuterSure ∷ (steps ++ late) in
    let told = tokens_told context (without_outer (ready u)) front w in
    let known = front_told context v told in
    let one = place_before (tokens ++ rest) next in
    let two = place_before rest next in
    let first_told : run limits context (happenings_before one early front) (record w { unit = x })
    ≡ record told { unit = doubted u front g } =
    told_beside limits context one x early front u.tokens u.gathering u.gathering u.depth w d.only_early d.all_early none
    ∙ (ap (λ y. record (tokens_told context x front w) { unit = y }) (front_read u front early d.only_early d.all_early)
    ∙ ap (λ (y : Compilation). record y { unit = doubted u front g })
    (maybe_told context u u.tokens u.depth (length u.tokens) front w)) in
    let told_none : told.opening ≡ None = tokens_opening context (without_outer (ready u)) front w ∙ none in
    note_first limits context next Action.OuterMaybe (front ++ (tokens ++ rest)) (early ++ behind) (record w { unit = ready u })
    (record w { unit = x }) (λ place. refl)
    ∙ (ap (λ hs. run limits context hs (record w { unit = x })) (before-append next early behind front (tokens ++ rest) d.all_early)
    ∙ (run_then limits context (happenings_before one early front) (happenings_before next behind (tokens ++ rest)) (record w { unit = x })
    ∙ (ap (run limits context (happenings_before next behind (tokens ++ rest))) first_told
    ∙ (note_first limits context next Action.OuterSure (tokens ++ rest) (steps ++ late) (record told { unit = doubted u front g })
    (record known { unit = sure u front g }) (λ place. sure_acts limits context place u front g told)
    ∙ (ap (λ hs. run limits context hs (record known { unit = sure u front g })) (before-append next steps late tokens rest d.all_steps)
    ∙ (run_then limits context (happenings_before two steps tokens) (happenings_before next late rest)
    (record known { unit = sure u front g })
    ∙ (ap (run limits context (happenings_before next late rest))
    (told_beside limits context two (with_outer (ready u)) steps tokens (u.tokens ++ tokens_of front) g u.gathering
    (brackets_behind (tokens_of front) u.depth) known d.only_steps d.all_steps
    (length_opening context (long_at (longest context) v) (outer_tokens v) told ∙ told_none))
    ∙ ap (λ y. run limits context (happenings_before next late rest) (record (tokens_told context v tokens known) { unit = y }))
    reads)))))))

pub doubted_expression : (limits : Limits) (front tokens rest : List Seen) (early steps late : List (Event Action))
    → IsDoubted front tokens early steps → Going limits rest late
    → Going limits (front ++ (tokens ++ rest)) (Did Action.OuterMaybe ∷ (early ++ Did Action.OuterSure ∷ (steps ++ late)))
doubted_expression limits front tokens rest early steps late d on u are_seen begun few =
    let all = tokens_of front ++ tokens_of tokens in
    let all_are : tokens_of (front ++ tokens) ≡ all = map-append (λ (s : Seen). s.token) front tokens in
    let joined : (front ++ tokens) ++ rest ≡ front ++ (tokens ++ rest) = append_assoc front tokens rest in
    let parts = seen_parts (front ++ tokens) rest (subst (λ l. AreSeen (atoms_of l) (tokens_of l)) (sym joined) are_seen) in
    let count = tokens_count (front ++ tokens) in
    let all_count = ap length (sym all_are) ∙ count in
    let seen_count = ap length (sym joined) ∙ length-append (front ++ tokens) rest in
    let taken_count = length-append u.tokens (tokens_of (front ++ tokens)) in
    let behind_count = length-append u.tokens all in
    let v = d.valued (maybe u) parts.0 refl begun (omega (arith, few, count, seen_count, taken_count)) in
    let reads = valued_reads u front tokens early steps d v in
    let more = on (with_value all v.value u) parts.1 (omega (arith, begun, all_count, behind_count))
    (omega (arith, few, seen_count, all_count, behind_count)) in
    record {
      parts = Doubtful d.level front tokens v.value ∷ more.parts;
      same = ap (λ l. (front ++ tokens) ++ l) more.same ∙ joined;
      quiet = (
        refl,
        steps_quiet early (Did Action.OuterSure ∷ (steps ++ late)) d.only_early (refl, steps_quiet steps late d.only_steps more.quiet),
      );
      weighs = λ kind. steps_need kind early (Did Action.OuterSure ∷ (steps ++ late)) (needs kind more.parts) d.only_early
          (steps_need kind steps late (needs kind more.parts) d.only_steps (more.weighs kind));
      written = (v.written, more.written);
      does = λ context next w none room.
          let w1 = with_front (tokens_of front) (ready u) in
          let told = tokens_told context (without_outer (ready u)) front w in
          let known = front_told context w1 told in
          doubted_does limits context next u front tokens rest early steps late v.value d.level w d reads none
          ∙ more.does context next (tokens_told context w1 tokens known)
          (tokens_opening context w1 tokens known
          ∙ (length_opening context (long_at (longest context) w1) (outer_tokens w1) told
          ∙ (tokens_opening context (without_outer (ready u)) front w ∙ none))) room;
    }

-- Lemmas about the two ways to an expression that is known only behind its first tokens

-- tokens with the atoms of two parts
pub record Apart (early late : List ℕ) (seen : List Seen) : Type 0 where
  pub front : List Seen
  pub tokens : List Seen
  pub same : front ++ tokens ≡ seen
  pub front_are : atoms_of front ≡ early
  pub tokens_are : atoms_of tokens ≡ late

pub apart : (early late : List ℕ) (seen : List Seen) → atoms_of seen ≡ early ++ late → Apart early late seen
apart [] late seen are = record { front = []; tokens = seen; same = refl; front_are = refl; tokens_are = are }
apart (a ∷ early) late [] are = cc
apart (a ∷ early) late (s ∷ seen) are =
    let on = apart early late seen (rest_of are) in
    record {
      front = s ∷ on.front;
      tokens = on.tokens;
      same = ap (λ l. s ∷ l) on.same;
      front_are = both_of (first_of are) on.front_are;
      tokens_are = on.tokens_are;
    }
  where
    rest_of : {x y : ℕ} {xs ys : List ℕ} → x ∷ xs ≡ y ∷ ys → xs ≡ ys
    rest_of e = cc

    first_of : {x y : ℕ} {xs ys : List ℕ} → x ∷ xs ≡ y ∷ ys → x ≡ y
    first_of e = cc

    both_of : {x y : ℕ} {xs ys : List ℕ} → x ≡ y → xs ≡ ys → x ∷ xs ≡ y ∷ ys
    both_of e f = cc
