-- Tokens as the machine takes them, and routines as a whole.
use Rattle.std.proofs.Common.{◌≡◌, ℕ, zero, suc, ◌+◌, Option, Some, None, List, [], ◌∷◌, ◌++◌, true, refl, sym, ◌∙◌, ap, subst, arith, map}
use Rattle.std.proofs.Common.{Bool, ◌&&◌}
use Rattle.std.proofs.lemmas.Bool.{and_from, and_parts}
use Rattle.inf_settings.specs.Bounds.{Limits}
use Rattle.inf_scanner.specs.{declared.tokens.Mark.Mark, declared.tokens.Place.Place}
use Rattle.inf_machine.specs.{Machine.events_of, Machine.fits, Machine.taken, Machine.work, declared.symbols.Symbol.Symbol}
use Rattle.inf_machine.specs.Grammar.{Did, Event, IsText, Took, here}
use Rattle.inf_machine.proofs.Taking.{leads_on}
use Rattle.inf_syntax.specs.{Atoms.mark_atom, declared.actions.Action.Action}
use Rattle.inf_syntax.specs.declared.parts.names.TheConstants as Part
use Rattle.inf_grammar.specs.{Evaluated.language_is_decided, Language.grammar, Language.known, Routines.closings}
use Rattle.inf_compilation.specs.{Actions.Compilation, Actions.took, Context.Context, Nesting.closed_ahead, Nesting.construct_ended}
use Rattle.inf_unit.specs.{Tokens.SourceToken, Units.first_place, Units.names_in}
use Rattle.inf_reader.specs.Acting.{act, acted}
use Rattle.inf_statement_laws.specs.Happenings.{Acts, AreOf, Between, Happening, Quiet, Takes, happen_quietly, is_quiet}
use Rattle.inf_statement_laws.specs.Laid.{happens, next_comes, passed, run}
use Rattle.inf_statement_laws.specs.Laws.{AreRoutine, RoutinesAreReadWhole, TokensHappen}
use Rattle.inf_statement_laws.specs.Nested.{Case, Do, For, If, IfElse, Nested, NoStep, Objectloop, Plain, Step, StepEnds, Switch, Then}
use Rattle.inf_statement_laws.specs.Nested.{While, happenings, step_happenings}
use Rattle.inf_statement_laws.specs.Readings.{Routine, Seen, all_fit, all_happenings, all_taken, behind_ends, behind_some, behind_token}
use Rattle.inf_statement_laws.specs.Readings.{body_laid, directed, left_behind, routine_happenings, routine_laid, token_happenings}
use Rattle.inf_statement_laws.specs.Readings.{with_behind}
use Rattle.inf_statement_laws.proofs.{Nesting.body_in, Nesting.quiet_of, Texts.OfRule, Texts.Parts, Texts.deep, Texts.split}
use Rattle.inf_statement_laws.proofs.Acts.{header_same, inside_act, is_inside, own_alone, quiet_inside, quiet_run, took_none}
use Rattle.inf_statement_laws.proofs.Laying.{ahead, ahead_is, alone_behind, closing_open, depth_of, laid_as, next_ahead, next_passed}
use Rattle.inf_statement_laws.proofs.Laying.{run_then}
use Rattle.inf_statement_laws.proofs.Rules.{header_parts, last_parts, piece_begins, quiet_header, routine_begins, routine_fits}
use Rattle.inf_statement_laws.proofs.Rules.{routine_parts, semicolon_parts}

-- Lemmas about tokens

actions_happen : (limits : Limits) (context : Context) (t : SourceToken) (m : Between) (actions : List Action) (w : Compilation)
    → next_comes (passed m (took context t (acted limits context t.place actions w))) ≡ run limits context (token_happenings t m actions) w
actions_happen limits context t m [] w = refl
actions_happen limits context t m (a ∷ actions) w = actions_happen limits context t m actions (act limits context t.place a w)

happen_as_events : (t : SourceToken) (m : Between) (actions : List Action) (atom : ℕ)
    → AreOf (events_of actions atom) (token_happenings t m actions)
happen_as_events t m [] atom = tt
happen_as_events t m (a ∷ actions) atom = (refl, happen_as_events t m actions atom)

-- the happenings of joined events
are_joined : (events others : List (Event Action)) (xs ys : List Happening) → AreOf events xs → AreOf others ys
    → AreOf (events ++ others) (xs ++ ys)
are_joined [] others [] ys x y = y
are_joined [] others (Acts at a ∷ xs) ys x y = absurd x
are_joined [] others (Takes t m ∷ xs) ys x y = absurd x
are_joined (Did a ∷ events) others [] ys x y = absurd x
are_joined (Did a ∷ events) others (Acts at b ∷ xs) ys x y = (x.0, are_joined events others xs ys x.1 y)
are_joined (Did a ∷ events) others (Takes t m ∷ xs) ys x y = absurd x
are_joined (Took atom ∷ events) others [] ys x y = absurd x
are_joined (Took atom ∷ events) others (Acts at b ∷ xs) ys x y = absurd x
are_joined (Took atom ∷ events) others (Takes t m ∷ xs) ys x y = are_joined events others xs ys x y

with_behind_are : (events : List (Event Action)) (m : Between) (h : Happening) (hs : List Happening) → AreOf events (h ∷ hs)
    → AreOf events (with_behind m h ∷ hs)
with_behind_are [] m h hs are = absurd are
with_behind_are (Did a ∷ events) m (Acts at b) hs are = are
with_behind_are (Did a ∷ events) m (Takes t b) hs are = absurd are
with_behind_are (Took atom ∷ events) m (Acts at b) hs are = absurd are
with_behind_are (Took atom ∷ events) m (Takes t b) hs are = are

behind_some_are : (events : List (Event Action)) (count : ℕ) (m : Between) (hs : List Happening) → AreOf events hs
    → AreOf events (behind_some count m hs)
behind_some_are events count m [] are = are
behind_some_are events zero m (h ∷ hs) are = are
behind_some_are events (suc zero) m (h ∷ hs) are = with_behind_are events m h hs are
behind_some_are [] (suc (suc count)) m (h ∷ hs) are = absurd are
behind_some_are (Did a ∷ events) (suc (suc count)) m (Acts at b ∷ hs) are = (are.0, behind_some_are events (suc count) m hs are.1)
behind_some_are (Did a ∷ events) (suc (suc count)) m (Takes t b ∷ hs) are = absurd are
behind_some_are (Took atom ∷ events) (suc (suc count)) m (Acts at b ∷ hs) are = absurd are
behind_some_are (Took atom ∷ events) (suc (suc count)) m (Takes t b ∷ hs) are = behind_some_are events (suc count) m hs are

behind_ends_are : (events : List (Event Action)) (d : Option Between) (count : ℕ) (hs : List Happening) → AreOf events hs
    → AreOf events (behind_ends d count hs)
behind_ends_are events None count hs are = are
behind_ends_are events (Some m) count hs are = behind_some_are events count m hs are

-- tokens that fit up to where no symbol is left are a text
record Text (seen : List Seen) (symbols : List (Symbol Action)) : Type 0 where
  events : List (Event Action)
  is_text : IsText grammar symbols (map (λ (s : Seen). s.atom) seen) events
  are : AreOf events (all_happenings seen symbols)

all_text : (seen : List Seen) (symbols : List (Symbol Action)) → all_fit seen symbols ≡ true → left_behind seen symbols ≡ []
    → Text seen symbols
all_text [] symbols f e = record { events = []; is_text = subst (λ left. IsText grammar left [] []) (sym e) here; are = tt }
all_text (s ∷ seen) symbols f e =
    let n = taken grammar known s.atom symbols in
    let both = and_parts (fits grammar known s.atom symbols) (all_fit seen n.left) f in
    let on = all_text seen n.left both.1 e in
    let own = behind_token s.directive (closings n.left) s.behind in
    let rest : List Happening = behind_ends s.directive (closings n.left) (all_happenings seen n.left) in
    record {
      events = events_of n.actions s.atom ++ on.events;
      is_text = leads_on grammar known language_is_decided s.atom (work known s.atom symbols) symbols (omega arith) both.0 on.is_text;
      are = are_joined (events_of n.actions s.atom) on.events (token_happenings s.token own n.actions) rest
          (happen_as_events s.token own n.actions s.atom)
          (behind_ends_are on.events s.directive (closings n.left) (all_happenings seen n.left) on.are);
    }

pub tokens_happen : (limits : Limits) → TokensHappen limits
tokens_happen limits = record {
  runs = λ context t m actions w. actions_happen limits context t m actions (next_comes w);
  are = happen_as_events;
  all_are = λ seen symbol f e.
      let t = all_text seen (symbol ∷ []) f e in
      record { atoms = map (λ (s : Seen). s.atom) seen; events = t.events; is_text = t.is_text; are = t.are };
  directives = λ files place w. refl;
}

-- Lemmas about the statements that conditional directives close ahead

-- the actions of `count` endings
abbrev ends : ℕ → List Action
ends zero = []
ends (suc count) = Action.Close ∷ ends count

acted_then : (limits : Limits) (context : Context) (place : Place) (xs ys : List Action) (w : Compilation)
    → acted limits context place (xs ++ ys) w ≡ acted limits context place ys (acted limits context place xs w)
acted_then limits context place [] ys w = refl
acted_then limits context place (x ∷ xs) ys w = acted_then limits context place xs ys (act limits context place x w)

-- the statements that end next, whatever the next token is, end first
closings_first : (atom : ℕ) (symbols : List (Symbol Action))
    → (rest : List Action) × ((taken grammar known atom symbols).actions ≡ ends (closings symbols) ++ rest)
closings_first atom [] = ((taken grammar known atom []).actions, refl)
closings_first atom (Symbol.Token class ∷ symbols) = ((taken grammar known atom (Symbol.Token class ∷ symbols)).actions, refl)
closings_first atom (Symbol.Rule rule ∷ symbols) = ((taken grammar known atom (Symbol.Rule rule ∷ symbols)).actions, refl)
closings_first atom (Symbol.Act Action.Close ∷ symbols) =
    let on = closings_first atom symbols in
    let more : suc (closings symbols) ≡ 1 + closings symbols = omega arith in
    (on.0, ap (λ l. Action.Close ∷ l) on.1 ∙ ap (λ n. ends n ++ on.0) more)
closings_first atom (Symbol.Act a ∷ symbols) = ((taken grammar known atom (Symbol.Act a ∷ symbols)).actions, refl)

ends_none : (limits : Limits) (context : Context) (place : Place) (count : ℕ) (w : Compilation) → w.closed ≡ 0 →
    (acted limits context place (ends count) w).closed ≡ 0
ends_none limits context place zero w e = e
ends_none limits context place (suc count) w e = ends_none limits context place count (act limits context place Action.Close w)
    (inside_act limits context place Action.Close w refl e)

-- the statements that were closed ahead end, and the effects meanwhile come behind their ends
ahead_ends : (limits : Limits) (context : Context) (place : Place) (m : Between) (count : ℕ) (w : Compilation) → w.closed ≡ 0
    → acted limits context place (ends count) (passed m (ahead limits count w)) ≡ passed m (acted limits context place (ends count) w)
ahead_ends limits context place m zero w e = ap (λ n. passed m (record w { closed = n })) (sym e)
ahead_ends limits context place m (suc count) w e =
    ap (acted limits context place (ends count)) (next_passed limits m count w ∙ ap (passed m) (next_ahead limits count w))
    ∙ (ahead_ends limits context place m count (construct_ended limits w) e
    ∙ ap (λ v. passed m (acted limits context place (ends count) v)) (sym (closing_open limits w e)))

-- the happenings of these ends have the same effect
behind_ends_run : (limits : Limits) (context : Context) (t : SourceToken) (b m : Between) (count : ℕ) (rest : List Action)
    (others : List Happening)
    (w : Compilation)
    → run limits context (behind_some (suc count) m (token_happenings t b (ends (suc count) ++ rest) ++ others)) w
    ≡ run limits context (token_happenings t b rest ++ others) (passed m (acted limits context t.place (ends (suc count)) w))
behind_ends_run limits context t b m zero rest others w = refl
behind_ends_run limits context t b m (suc count) rest others w =
    behind_ends_run limits context t b m count rest others (act limits context t.place Action.Close w)

-- Lemmas about tokens inside of a routine

abbrev all_inside : List Action → Bool
all_inside [] = true
all_inside (a ∷ actions) = is_inside a && all_inside actions

abbrev happens_inside : Happening → Bool
happens_inside (Acts at a) = is_inside a
happens_inside (Takes t m) = true

abbrev happen_inside : List Happening → Bool
happen_inside [] = true
happen_inside (h ∷ hs) = happens_inside h && happen_inside hs

abbrev reading_inside : List Seen → List (Symbol Action) → Bool
reading_inside [] symbols = true
reading_inside (s ∷ seen) symbols = all_inside (taken grammar known s.atom symbols).actions && reading_inside seen
    (taken grammar known s.atom symbols).left

acted_none : (limits : Limits) (context : Context) (place : Place) (actions : List Action) (w : Compilation) → all_inside actions ≡ true →
    w.closed ≡ 0
    → (acted limits context place actions w).closed ≡ 0
acted_none limits context place [] w i e = e
acted_none limits context place (a ∷ actions) w i e =
    let both = and_parts (is_inside a) (all_inside actions) i in
    acted_none limits context place actions (act limits context place a w) both.1 (inside_act limits context place a w both.0 e)

inside_joined : (xs ys : List Happening) → happen_inside xs ≡ true → happen_inside ys ≡ true → happen_inside (xs ++ ys) ≡ true
inside_joined [] ys x y = y
inside_joined (h ∷ xs) ys x y =
    let both = and_parts (happens_inside h) (happen_inside xs) x in
    and_from (happens_inside h) (happen_inside (xs ++ ys)) both.0 (inside_joined xs ys both.1 y)

inside_token : (t : SourceToken) (b : Between) (actions : List Action) (others : List Happening)
    → happen_inside (token_happenings t b actions ++ others) ≡ true
    → (all_inside actions ≡ true) × (happen_inside others ≡ true)
inside_token t b [] others i = (refl, i)
inside_token t b (a ∷ actions) others i =
    let both = and_parts (is_inside a) (happen_inside (token_happenings t b actions ++ others)) i in
    let on = inside_token t b actions others both.1 in
    (and_from (is_inside a) (all_inside actions) both.0 on.0, on.1)

with_behind_inside : (m : Between) (h : Happening) → happens_inside (with_behind m h) ≡ happens_inside h
with_behind_inside m (Acts at a) = refl
with_behind_inside m (Takes t b) = refl

behind_some_inside : (count : ℕ) (m : Between) (hs : List Happening) → happen_inside (behind_some count m hs) ≡ happen_inside hs
behind_some_inside count m [] = refl
behind_some_inside zero m (h ∷ hs) = refl
behind_some_inside (suc zero) m (h ∷ hs) = ap (λ b. b && happen_inside hs) (with_behind_inside m h)
behind_some_inside (suc (suc count)) m (h ∷ hs) = ap (λ b. happens_inside h && b) (behind_some_inside (suc count) m hs)

behind_ends_inside : (d : Option Between) (count : ℕ) (hs : List Happening) → happen_inside (behind_ends d count hs) ≡ happen_inside hs
behind_ends_inside None count hs = refl
behind_ends_inside (Some m) count hs = behind_some_inside count m hs

reading_is_inside : (seen : List Seen) (symbols : List (Symbol Action)) → happen_inside (all_happenings seen symbols) ≡ true
    → reading_inside seen symbols ≡ true
reading_is_inside [] symbols i = refl
reading_is_inside (s ∷ seen) symbols i =
    let n = taken grammar known s.atom symbols in
    let both = inside_token s.token (behind_token s.directive (closings n.left) s.behind) n.actions
    (behind_ends s.directive (closings n.left) (all_happenings seen n.left)) i in
    and_from (all_inside n.actions) (reading_inside seen n.left) both.0
    (reading_is_inside seen n.left (sym (behind_ends_inside s.directive (closings n.left) (all_happenings seen n.left)) ∙ both.1))

quiet_is_inside : (hs : List Happening) → happen_quietly hs ≡ true → happen_inside hs ≡ true
quiet_is_inside [] q = refl
quiet_is_inside (Acts at a ∷ hs) q =
    let both = and_parts (is_quiet a) (happen_quietly hs) q in
    and_from (is_inside a) (happen_inside hs) (quiet_inside a both.0) (quiet_is_inside hs both.1)
quiet_is_inside (Takes t m ∷ hs) q = quiet_is_inside hs q

quiet_then : (q : Quiet) (hs : List Happening) → happen_inside hs ≡ true → happen_inside (q.all ++ hs) ≡ true
quiet_then q hs i = inside_joined q.all hs (quiet_is_inside q.all q.are) i

step_is_inside : (step : Step) → happen_inside (step_happenings step) ≡ true
step_is_inside NoStep = refl
step_is_inside (StepEnds step ends) = quiet_then step (Acts ends Action.EndForStep ∷ []) refl

nested_is_inside : {b : Bool} (n : Nested b) → happen_inside (happenings n) ≡ true
nested_is_inside (Plain plain) = quiet_is_inside plain.all plain.are
nested_is_inside (Then before behind) = inside_joined (happenings before) (happenings behind) (nested_is_inside before)
    (nested_is_inside behind)
nested_is_inside (Case values ends) = quiet_then values (Acts ends Action.EndCase ∷ []) refl
nested_is_inside (If opens test body closes) =
    quiet_then test (happenings body ++ Acts closes Action.Close ∷ []) (inside_joined (happenings body) (Acts closes Action.Close ∷ [])
    (nested_is_inside body) refl)
nested_is_inside (IfElse opens test body joins word other closes) =
    let last : List Happening = Acts closes Action.Close ∷ [] in
    let rest : List Happening = word.all ++ (happenings other ++ last) in
    quiet_then test (happenings body ++ Acts joins Action.Else ∷ rest)
    (inside_joined (happenings body) (Acts joins Action.Else ∷ rest) (nested_is_inside body)
    (quiet_then word (happenings other ++ last) (inside_joined (happenings other) last (nested_is_inside other) refl)))
nested_is_inside (While opens test body closes) =
    quiet_then test (happenings body ++ Acts closes Action.Close ∷ []) (inside_joined (happenings body) (Acts closes Action.Close ∷ [])
    (nested_is_inside body) refl)
nested_is_inside (Do opens body word joins test closes) =
    let last : List Happening = test.all ++ Acts closes Action.Close ∷ [] in
    inside_joined (happenings body) (word.all ++ Acts joins Action.Until ∷ last) (nested_is_inside body)
    (quiet_then word (Acts joins Action.Until ∷ last) (quiet_then test (Acts closes Action.Close ∷ []) refl))
nested_is_inside (For opens start joins test step bracket body closes) =
    let last : List Happening = happenings body ++ Acts closes Action.Close ∷ [] in
    quiet_then start (Acts joins Action.ForTop ∷ (test.all ++ (step_happenings step ++ (bracket.all ++ last))))
    (quiet_then test (step_happenings step ++ (bracket.all ++ last))
    (inside_joined (step_happenings step) (bracket.all ++ last) (step_is_inside step)
    (quiet_then bracket last (inside_joined (happenings body) (Acts closes Action.Close ∷ []) (nested_is_inside body) refl))))
nested_is_inside (Objectloop opens loop ends joins bracket body closes) =
    let last : List Happening = happenings body ++ Acts closes Action.Close ∷ [] in
    quiet_then loop (Acts ends Action.EndObjectloop ∷ Acts joins Action.Loop ∷ (bracket.all ++ last))
    (quiet_then bracket last (inside_joined (happenings body) (Acts closes Action.Close ∷ []) (nested_is_inside body) refl))
nested_is_inside (Switch opens value cases brace closes) =
    let last : List Happening = brace.all ++ Acts closes Action.Close ∷ [] in
    quiet_then value (happenings cases ++ last)
    (inside_joined (happenings cases) last (nested_is_inside cases) (quiet_then brace (Acts closes Action.Close ∷ []) refl))

routine_is_inside : (r : Routine) → happen_inside (routine_happenings r) ≡ true
routine_is_inside r =
    let last : List Happening = Acts r.ends Action.EndRoutine ∷ r.last.all in
    quiet_then r.header (Acts r.heads Action.EndLocals ∷ (r.semicolon.all ++ (happenings r.body ++ last)))
    (quiet_then r.semicolon (happenings r.body ++ last) (inside_joined (happenings r.body) last (nested_is_inside r.body)
    (quiet_is_inside r.last.all r.last.are)))

-- Lemmas about reading

-- whether the effect from a conditional directive on is still to be put behind ends
abbrev Waits : Option Between → List (Symbol Action) → Type 0
Waits None symbols = Unit {0}
Waits (Some m) symbols = (count : ℕ) × (closings symbols ≡ suc count)

-- where a token's actions begin, by those from there on
record Starts (limits : Limits) (context : Context) (d : Option Between) (s : Seen) (own : Between) (symbols : List (Symbol Action))
    (others : List Happening) (w : Compilation) : Type 0 where
  rest : List Action
  from : Compilation
  acts : acted limits context s.token.place (taken grammar known s.atom symbols).actions
      (next_comes (directed limits d (closings symbols) w)) ≡ acted limits
      context s.token.place rest from
  runs : run limits context (behind_ends d (closings symbols) (token_happenings s.token own (taken grammar known s.atom symbols).actions ++
      others)) (next_comes w)
      ≡ run limits context (token_happenings s.token own rest ++ others) from
  none : from.closed ≡ 0
  inside : all_inside rest ≡ true

inside_rest : (count : ℕ) (rest : List Action) → all_inside (ends count ++ rest) ≡ true → all_inside rest ≡ true
inside_rest zero rest i = i
inside_rest (suc count) rest i = inside_rest count rest i

starts : (limits : Limits) (context : Context) (d : Option Between) (s : Seen) (own : Between) (symbols : List (Symbol Action))
    (others : List Happening)
    (w : Compilation) → w.closed ≡ 0 → Waits d symbols
    → all_inside (taken grammar known s.atom symbols).actions ≡ true → Starts limits context d s own symbols others w
starts limits context None s own symbols others w e waits i =
    record { rest = (taken grammar known s.atom symbols).actions; from = next_comes w; acts = refl; runs = refl; none = e; inside = i }
starts limits context (Some m) s own symbols others w e waits i =
    let c = closings_first s.atom symbols in
    let place = s.token.place in
    let k = suc waits.0 in
    let actions : (taken grammar known s.atom symbols).actions ≡ ends k ++ c.0 = c.1 ∙ ap (λ n. ends n ++ c.0) waits.1 in
    let v = next_comes w in
    record {
      rest = c.0;
      from = passed m (acted limits context place (ends k) v);
      acts = ap (λ n. acted limits context place (taken grammar known s.atom symbols).actions
          (next_comes (passed m (closed_ahead limits n w)))) waits.1
          ∙ (ap (λ l. acted limits context place l (passed m (closed_ahead limits k v))) actions
          ∙ (acted_then limits context place (ends k) c.0 (passed m (closed_ahead limits k v))
          ∙ (ap (λ x. acted limits context place c.0 (acted limits context place (ends k) (passed m x))) (ahead_is limits k v e)
          ∙ ap (acted limits context place c.0) (ahead_ends limits context place m k v e))));
      runs = ap (λ n. run limits context (behind_some n m (token_happenings s.token own (taken grammar known s.atom symbols).actions ++
          others)) v)
          waits.1
          ∙ (ap (λ l. run limits context (behind_some k m (token_happenings s.token own l ++ others)) v) actions
          ∙ behind_ends_run limits context s.token own m waits.0 c.0 others v);
      none = ends_none limits context place k v e;
      inside = inside_rest k c.0 (sym (ap all_inside actions) ∙ i);
    }

behind_none : (m : Between) (hs : List Happening) → behind_some 0 m hs ≡ hs
behind_none m [] = refl
behind_none m (h ∷ hs) = refl

-- the effect of all further tokens
abbrev Further : Limits → Context → List Seen → List (Symbol Action) → Type 0
Further limits context seen symbols =
    (d : Option Between) (w : Compilation) → w.closed ≡ 0 → Waits d symbols
    → next_comes (all_taken limits context seen symbols (directed limits d (closings symbols) w)) ≡ run limits context
    (behind_ends d (closings symbols) (all_happenings seen symbols)) (next_comes w)

-- behind a token
onward : (limits : Limits) (context : Context) (seen : List Seen) (symbols : List (Symbol Action)) → Further limits context seen symbols
    → (d : Option Between) (b : Between) (w : Compilation) → w.closed ≡ 0
    → (count : ℕ) → closings symbols ≡ count
    → next_comes (all_taken limits context seen symbols (directed limits d (closings symbols) (passed b w)))
    ≡ run limits context (behind_ends d (closings symbols) (all_happenings seen symbols))
    (next_comes (passed (behind_token d (closings symbols) b) w))
onward limits context seen symbols further None b w e count is = further None (passed b w) e tt
onward limits context seen symbols further (Some m) b w e (suc count) is = further (Some m) (passed b w) e (count, is)
    ∙ ap (λ n. run limits context (behind_some (closings symbols) m (all_happenings seen symbols))
    (next_comes (passed (behind_token (Some m) n b) w))) (sym is)
onward limits context seen symbols further (Some m) b w e zero is =
    let v = passed b w in
    let none : closed_ahead limits 0 v ≡ v = ahead_is limits 0 v e ∙ ap (λ n. record v { closed = n }) (sym e) in
    ap (λ n. next_comes (all_taken limits context seen symbols (passed m (closed_ahead limits n v)))) is
    ∙ (ap (λ x. next_comes (all_taken limits context seen symbols (passed m x))) none
    ∙ (further None (passed m v) e tt
    ∙ (ap (λ l. run limits context l (next_comes (passed m v))) (sym (behind_none m (all_happenings seen symbols)))
    ∙ ap (λ n. run limits context (behind_some n m (all_happenings seen symbols)) (next_comes (passed (behind_token (Some m) n b) w)))
    (sym is))))

no_ends : (symbols : List (Symbol Action)) (count : ℕ) → symbols ≡ [] → closings symbols ≡ suc count → ⊥
no_ends symbols count e c = let none : 0 ≡ suc count = sym (ap closings e) ∙ c in absurd (omega (arith, none))

all_read : (limits : Limits) (context : Context) (seen : List Seen) (symbols : List (Symbol Action)) → left_behind seen symbols ≡ []
    → reading_inside seen symbols ≡ true → Further limits context seen symbols
all_read limits context [] symbols l i None w e waits = refl
all_read limits context [] symbols l i (Some m) w e waits = absurd (no_ends symbols waits.0 l waits.1)
all_read limits context (s ∷ seen) symbols l i d w e waits =
    let n = taken grammar known s.atom symbols in
    let both = and_parts (all_inside n.actions) (reading_inside seen n.left) i in
    let own = behind_token s.directive (closings n.left) s.behind in
    let others : List Happening = behind_ends s.directive (closings n.left) (all_happenings seen n.left) in
    let st = starts limits context d s own symbols others w e waits both.0 in
    let acted_on = acted limits context s.token.place st.rest st.from in
    let none : (took context s.token acted_on).closed ≡ 0 =
    took_none context s.token acted_on ∙ acted_none limits context s.token.place st.rest st.from st.inside st.none in
    ap (λ v. next_comes (all_taken limits context seen n.left
    (directed limits s.directive (closings n.left) (passed s.behind (took context s.token v)))))
    st.acts
    ∙ (onward limits context seen n.left (all_read limits context seen n.left l both.1) s.directive s.behind (took context s.token acted_on)
    none
    (closings n.left) refl
    ∙ (ap (run limits context others) (actions_happen limits context s.token own st.rest st.from)
    ∙ (sym (run_then limits context (token_happenings s.token own st.rest) others st.from) ∙ sym st.runs)))

-- Lemmas about routines

routine_of : (n : ℕ) (hs : List Happening) → Parts (OfRule n) routine_parts hs → (r : Routine) × (routine_happenings r ≡ hs)
routine_of n hs p =
    let h = split (OfRule n) header_parts (Part.DO_END_LOCALS ∷ (semicolon_parts ++ Part.DIRECTIVE_2 ∷ Part.DO_END_ROUTINE ∷
    last_parts)) hs p in
    let e = h.of_rest in
    let s = split (OfRule n) semicolon_parts (Part.DIRECTIVE_2 ∷ Part.DO_END_ROUTINE ∷ last_parts) e.1 e.3 in
    let q = s.of_rest in
    let body = body_in n q.0 q.3 in
    let l = q.4 in
    let headed = λ (l : List Happening). h.front ++ l in
    let named = λ (l : List Happening). headed (Acts e.0 Action.EndLocals ∷ l) in
    let opened = λ (l : List Happening). named (s.front ++ l) in (
      record {
        header = quiet_of n header_parts h.front h.of_front quiet_header;
        heads = e.0;
        semicolon = quiet_of n semicolon_parts s.front s.of_front refl;
        body = body.0;
        ends = l.0;
        last = quiet_of n last_parts l.1 l.3 refl;
      },
      ap (λ x. opened (x ++ Acts l.0 Action.EndRoutine ∷ l.1)) body.1 ∙ (ap (λ x. opened (q.0 ++ x)) (sym l.2)
          ∙ (ap opened (sym q.2) ∙ (ap named (sym s.joined) ∙ (ap headed (sym e.2) ∙ sym h.joined)))),
    )

are_routines : (bracket : Seen) (seen : List Seen) → bracket.atom ≡ mark_atom Mark.OpenBracket
    → all_fit (bracket ∷ seen) (Part.DIRECTIVE ∷ []) ≡ true
    → left_behind (bracket ∷ seen) (Part.DIRECTIVE ∷ []) ≡ [] → (r : Routine) × (routine_happenings r ≡ all_happenings (bracket ∷ seen)
    (Part.DIRECTIVE ∷ []))
are_routines bracket seen is f e =
    let begins : taken grammar known bracket.atom (Part.DIRECTIVE ∷ []) ≡ taken grammar known bracket.atom routine_parts =
    subst (λ atom. taken grammar known atom (Part.DIRECTIVE ∷ []) ≡ taken grammar known atom routine_parts) (sym is) routine_begins in
    let fit : fits grammar known bracket.atom routine_parts ≡ true = ap (λ atom. fits grammar known atom routine_parts) is ∙ routine_fits in
    let both = and_parts (fits grammar known bracket.atom (Part.DIRECTIVE ∷ []))
    (all_fit seen (taken grammar known bracket.atom (Part.DIRECTIVE ∷ [])).left) f in
    let t = all_text (bracket ∷ seen) routine_parts
    (and_from (fits grammar known bracket.atom routine_parts) (all_fit seen (taken grammar known bracket.atom routine_parts).left) fit
    (sym (ap (λ n. all_fit seen n.left) begins) ∙ both.1))
    (sym (ap (λ n. left_behind seen n.left) begins) ∙ e) in
    let d = deep t.is_text refl (all_happenings (bracket ∷ seen) routine_parts) t.are in
    let r = routine_of d.0 (all_happenings (bracket ∷ seen) routine_parts) d.1 in (
      r.0,
      r.1 ∙ sym (ap (λ n. token_happenings bracket.token (behind_token bracket.directive (closings n.left) bracket.behind) n.actions
          ++ behind_ends bracket.directive (closings n.left) (all_happenings seen n.left)) begins),
    )

-- the compilation behind the header of a routine
abbrev headed : Limits → Context → Routine → Compilation → Compilation
headed limits context r w =
    run limits context r.semicolon.all (happens limits context (Acts r.heads Action.EndLocals) (run limits context r.header.all w))

headed_same : (limits : Limits) (context : Context) (r : Routine) (w : Compilation) → w.closed ≡ 0
    → ((headed limits context r w).closed ≡ 0) × (w.constructs ≡ [] → (headed limits context r w).constructs ≡ [])
headed_same limits context r w e =
    let v = run limits context r.header.all w in
    let h = quiet_run limits context r.header.all w r.header.are in
    let n = header_same limits context (first_place v.unit.tokens r.heads.place) (names_in v.unit.tokens) v in
    let s = quiet_run limits context r.semicolon.all (happens limits context (Acts r.heads Action.EndLocals) v) r.semicolon.are in
    (s.1 ∙ (n.0 ∙ (h.1 ∙ e)), λ o. s.0 ∙ n.1 (h.0 ∙ o))

routine_lays : (limits : Limits) (context : Context) (r : Routine) (w : Compilation) → w.closed ≡ 0 →
    run limits context (routine_happenings r) w ≡ routine_laid limits context r w
routine_lays limits context r w e =
    let rest : List Happening = Acts r.ends Action.EndRoutine ∷ r.last.all in
    let v = happens limits context (Acts r.heads Action.EndLocals) (run limits context r.header.all w) in
    run_then limits context r.header.all (Acts r.heads Action.EndLocals ∷ (r.semicolon.all ++ (happenings r.body ++ rest))) w
    ∙ (run_then limits context r.semicolon.all (happenings r.body ++ rest) v
    ∙ (run_then limits context (happenings r.body) rest (headed limits context r w)
    ∙ ap (run limits context rest) (laid_as limits context r.body (headed limits context r w) (headed_same limits context r w e).0).runs))

read_as : (limits : Limits) (bracket : Seen) (seen : List Seen) (r : Routine) → left_behind (bracket ∷ seen) (Part.DIRECTIVE ∷ []) ≡ []
    → routine_happenings r ≡ all_happenings (bracket ∷ seen) (Part.DIRECTIVE ∷ []) → AreRoutine limits r (bracket ∷ seen)
read_as limits bracket seen r l same =
    let inside = reading_is_inside (bracket ∷ seen) (Part.DIRECTIVE ∷ []) (sym (ap happen_inside same) ∙ routine_is_inside r) in
    record {
      same = same;
      lay = λ context w e. all_read limits context (bracket ∷ seen) (Part.DIRECTIVE ∷ []) l inside None w e tt
          ∙ (ap (λ hs. run limits context hs (next_comes w)) (sym same) ∙ routine_lays limits context r (next_comes w) e);
    }

pub routines_are_read_whole : (limits : Limits) → RoutinesAreReadWhole limits
routines_are_read_whole limits = record {
  are = λ bracket seen is f l. let r = are_routines bracket seen is f l in (r.0, read_as limits bracket seen r.0 l r.1);
  begin = piece_begins;
  end = λ context r w e o.
      let h = headed_same limits context r w e in
      depth_of (body_laid limits context r w).constructs
      (alone_behind limits context r.body (headed limits context r w) h.0 (ap own_alone (h.1 o)));
}
