-- A `for` is a tree.
use Rattle.std.proofs.Common.{◌≡◌, ℕ, suc, ◌+◌, ◌≤◌, ◌<◌, List, [], ◌∷◌, ◌++◌, length, Bool, true, false, Option, Some, None, refl, sym}
use Rattle.std.proofs.Common.{◌∙◌, ap, append_assoc, append-nil, arith}
use Rattle.std.proofs.lemmas.Bool.{and_from}
use Rattle.inf_scanner.specs.declared.tokens.Place.{Place}
use Rattle.inf_settings.specs.Bounds.{Limits}
use Rattle.inf_machine.specs.{Grammar.Event, Grammar.IsText, declared.symbols.Symbol.Symbol}
use Rattle.inf_syntax.specs.{Rows.row, declared.actions.Action.Action}
use Rattle.inf_syntax.specs.declared.parts.names.TheConstants as Part
use Rattle.inf_grammar.specs.Language.{grammar}
use Rattle.inf_unit.specs.Units.{Unit as UnitAtHand, no_unit}
use Rattle.inf_constructs.specs.{Constructs.between, Constructs.opened, declared.constructs.Construct.Construct}
use Rattle.inf_constructs.specs.{declared.constructs.Kind.Kind}
use Rattle.inf_compilation.specs.{Actions.Compilation, Context.Context}
use Rattle.inf_reader.specs.Acting.{act}
use Rattle.inf_statement_laws.specs.Readings.{Seen, plainly_at}
use Rattle.inf_statement_laws.specs.Happenings.{Acts, Happening, Moment, Quiet, Takes, happen_quietly, is_quiet}
use Rattle.inf_statement_laws.specs.Laid.{ended_as, holding, laid, opened_at, run, with_step_in}
use Rattle.inf_statement_laws.specs.Nested.{For, Nested, NoStep, Plain, Step, StepEnds, Then as After, happenings, step_happenings}
use Rattle.inf_statement_laws.proofs.{Laying.run_then, Rules.number}
use Rattle.inf_statement_laws.proofs.Acts.{inside_act, is_inside, quiet_run, took_none}
use Rattle.inf_language.specs.Texts.{atoms_of, happenings_before}
use Rattle.inf_trees.specs.Trees.{Part}
use Rattle.inf_trees.proofs.{RuleRows.Rows, RuleRows.by_rows, RuleRows.of_rows, StatementsRead.bracketed_units_are_trees}
use Rattle.inf_trees.proofs.{UnitsRead.place_before, UnitsRead.seen_parts}
use Rattle.inf_trees.proofs.Symbols.{ActFirst, PartsOf, TokenFirst, act_first, nothing_left, parts_of, token_first}
use Rattle.inf_routine_trees.specs.Bodies.{For as ForTree, MaybeWritten, Standing, Tree, later_effects, maybe_done, maybe_seen}
use Rattle.inf_routine_trees.specs.Bodies.{next_effect, token_done, tree_laid, tree_seen, with_effect, with_effects, word_done}
use Rattle.inf_routine_trees.proofs.Effects.{Effects, put, with_behind}
use Rattle.inf_routine_trees.proofs.Pieces.{Worded, before_word, quiet-append, quiet_text, unit_quiet, unit_symbols, word_happens, worded}
use Rattle.inf_routine_trees.proofs.Trees.{AreAll, Below, BodyText, IsTree, body_text, moved_seen, word_closed, word_quiet}

-- A unit that may be missing, before another token at a place, with the action that ends it
record MaybeText (limits : Limits) (end : Action) (place : Place) (seen : List Seen) (events : List (Event Action)) : Type 0 where
  unit : Option (UnitAtHand → List Part)
  all : maybe_seen unit ≡ seen
  written : MaybeWritten unit
  happens : List Happening
  quiet : is_quiet end ≡ true → happen_quietly happens ≡ true
  step : end ≡ Action.EndForStep → Step
  step_same : (is : end ≡ Action.EndForStep) → step_happenings (step is) ≡ happens
  same : happenings_before place events seen ≡ happens
  runs : (context : Context) (w : Compilation) → w.opening ≡ None
      → run limits context happens w ≡ maybe_done limits context end place unit w
  closed : (context : Context) (w : Compilation) → w.closed ≡ 0 → (run limits context happens w).closed ≡ 0

present : (limits : Limits) (end : Action) (place : Place) (seen : List Seen) (events : List (Event Action))
    → IsText grammar (unit_symbols ++ Symbol.Act end ∷ []) (atoms_of seen) events → is_inside end ≡ true → AreAll seen
    → length seen + 1 < 4294967295 → MaybeText limits end place seen events
present limits end place seen events text inside are_seen few =
    let p = parts_of unit_symbols (Symbol.Act end ∷ []) seen events text in
    let e = act_first end [] p.rest p.late p.of_rest in
    let n = nothing_left p.rest e.late e.text in
    let parts = seen_parts p.front p.rest (moved_seen (sym p.same) are_seen) in
    let at : place_before p.rest place ≡ place = ap (λ l. place_before l place) n.none in
    let unit = λ (u : UnitAtHand). bracketed_units_are_trees limits u p.front p.early p.of_front parts.0 (omega (arith, few, p.count)) in
    let hs = happenings_before place p.early p.front in
    let quiet_hs = quiet_text unit_symbols unit_quiet place p.front p.early p.of_front in
    let last : List Happening = Acts (plainly_at place) end ∷ [] in
    record {
      unit = Some (λ u. (unit u).parts);
      all = (unit no_unit).same ∙ (sym (append-nil p.front) ∙ (ap (λ l. p.front ++ l) (sym n.none) ∙ p.same));
      written = λ u. (unit u).written;
      happens = hs ++ last;
      quiet = λ q. quiet-append hs last quiet_hs (and_from (is_quiet end) true q refl);
      step = λ is. StepEnds (record { all = hs; are = quiet_hs }) (plainly_at place);
      step_same = λ is. ap (λ a. hs ++ Acts (plainly_at place) a ∷ []) (sym is);
      same = p.happen place ∙ (ap (λ x. happenings_before x p.early p.front ++ happenings_before place p.late p.rest) at
          ∙ ap (λ l. hs ++ l) (e.happen place
          ∙ (ap (λ x. Acts (plainly_at x) end ∷ happenings_before place e.late p.rest) at
          ∙ ap (λ l. Acts (plainly_at place) end ∷ l) (n.happen place))));
      runs = λ context w none.
          run_then limits context hs last w ∙ ap (act limits context place end) ((unit w.unit).does context place w none);
      closed = λ context w ahead. ap (λ (z : Compilation). z.closed) (run_then limits context hs last w)
          ∙ inside_act limits context place end (run limits context hs w) inside ((quiet_run limits context hs w quiet_hs).1 ∙ ahead);
    }

absent : (limits : Limits) (end : Action) (place : Place) (seen : List Seen) (events : List (Event Action))
    → IsText grammar [] (atoms_of seen) events → MaybeText limits end place seen events
absent limits end place seen events text =
    let n = nothing_left seen events text in
    record {
      unit = None;
      all = sym n.none;
      written = tt;
      happens = [];
      quiet = λ q. refl;
      step = λ is. NoStep;
      step_same = λ is. refl;
      same = n.happen place;
      runs = λ context w none. refl;
      closed = λ context w ahead. ahead;
    }

maybe_text : (limits : Limits) (end : Action) (rule : ℕ)
    → grammar.rows_of rule ≡ row (unit_symbols ++ Symbol.Act end ∷ []) ∷ row [] ∷ [] → (place : Place) (seen : List Seen)
    (events : List (Event Action)) → IsText grammar (Symbol.Rule rule ∷ []) (atoms_of seen) events → is_inside end ≡ true → AreAll seen
    → length seen + 1 < 4294967295 → MaybeText limits end place seen events
maybe_text limits end rule rows place seen events text inside are_seen few =
    of_rows (MaybeText limits end place seen events) rule (row (unit_symbols ++ Symbol.Act end ∷ []) ∷ row [] ∷ [])
    (atoms_of seen) events rows
    ((λ t. present limits end place seen events t inside are_seen few), ((λ t. absent limits end place seen events t), tt)) text

maybe_closed : {limits : Limits} {end : Action} {place : Place} {seen : List Seen} {events : List (Event Action)}
    (m : MaybeText limits end place seen events) (context : Context) (w : Compilation) → w.opening ≡ None → w.closed ≡ 0
    → (maybe_done limits context end place m.unit w).closed ≡ 0
maybe_closed m context w none ahead = ap (λ (z : Compilation). z.closed) (sym (m.runs context w none)) ∙ m.closed context w ahead

start_rows : Rows Part.FOR_REST_1 (row (unit_symbols ++ Part.DO_END_FOR_START ∷ []) ∷ row [] ∷ [])
unfolding grammar
start_rows = refl

test_rows : Rows Part.FOR_REST_2 (row (unit_symbols ++ Part.DO_END_FOR_TEST ∷ []) ∷ row [] ∷ [])
unfolding grammar
test_rows = refl

step_rows : Rows Part.FOR_REST_3 (row (unit_symbols ++ Part.DO_END_FOR_STEP ∷ []) ∷ row [] ∷ [])
unfolding grammar
step_rows = refl

abbrev behind_step : List (Symbol Action)
behind_step = Part.CLOSE_PARENTHESIS ∷ Part.STATEMENT ∷ Part.DO_CLOSE ∷ []

abbrev behind_test : List (Symbol Action)
behind_test = Part.COLON ∷ Part.FOR_REST_3 ∷ behind_step

abbrev behind_start : List (Symbol Action)
behind_start = Part.DO_FOR_TOP ∷ Part.COLON ∷ Part.FOR_REST_2 ∷ behind_test

abbrev for_symbols : List (Symbol Action)
for_symbols = Part.OPEN_PARENTHESIS ∷ Part.FOR_REST_1 ∷ behind_start

-- The pieces of a `for` behind its word
record ForText (limits : Limits) (stands : Standing) (next : Place) (seen : List Seen) (events : List (Event Action))
    (wd : Worded limits stands (Part.FOR_REST ∷ []) seen events) : Type 0 where
  o : ActFirst Action.OpenFor for_symbols wd.rest wd.late
  t : TokenFirst (Part.FOR_REST_1 ∷ behind_start) wd.rest o.late
  p : PartsOf (Part.FOR_REST_1 ∷ []) behind_start t.rest t.late
  j : ActFirst Action.ForTop (Part.COLON ∷ Part.FOR_REST_2 ∷ behind_test) p.rest p.late
  c : TokenFirst (Part.FOR_REST_2 ∷ behind_test) p.rest j.late
  q : PartsOf (Part.FOR_REST_2 ∷ []) behind_test c.rest c.late
  d : TokenFirst (Part.FOR_REST_3 ∷ behind_step) q.rest q.late
  r : PartsOf (Part.FOR_REST_3 ∷ []) behind_step d.rest d.late
  e : TokenFirst (Part.STATEMENT ∷ Part.DO_CLOSE ∷ []) r.rest r.late
  start : MaybeText limits Action.EndForStart c.s.token.place p.front p.early
  test : MaybeText limits Action.EndForTest d.s.token.place q.front q.early
  step : MaybeText limits Action.EndForStep e.s.token.place r.front r.early
  body : BodyText limits next e.rest e.late

for_text : (limits : Limits) (n : ℕ) → Below limits n → (stands : Standing) (next : Place) (seen : List Seen)
    (events : List (Event Action)) → (wd : Worded limits stands (Part.FOR_REST ∷ []) seen events)
    → IsText grammar (Part.DO_OPEN_FOR ∷ for_symbols) (atoms_of wd.rest) wd.late → AreAll seen → length seen + 1 < 4294967295
    → length seen ≤ suc n → ForText limits stands next seen events wd
for_text limits n below stands next seen events wd text are_seen few fewer =
    let all = moved_seen (sym wd.same) are_seen in
    let count : suc (length wd.rest) ≡ length seen = ap length wd.same in
    let o = act_first Action.OpenFor for_symbols wd.rest wd.late text in
    let t = token_first (Part.FOR_REST_1 ∷ behind_start) wd.rest o.late o.text in
    let t_count : suc (length t.rest) ≡ length wd.rest = ap length t.same in
    let seen_1 = moved_seen (sym t.same) all.1 in
    let p = parts_of (Part.FOR_REST_1 ∷ []) behind_start t.rest t.late t.text in
    let seen_2 = seen_parts p.front p.rest (moved_seen (sym p.same) seen_1.1) in
    let j = act_first Action.ForTop (Part.COLON ∷ Part.FOR_REST_2 ∷ behind_test) p.rest p.late p.of_rest in
    let c = token_first (Part.FOR_REST_2 ∷ behind_test) p.rest j.late j.text in
    let c_count : suc (length c.rest) ≡ length p.rest = ap length c.same in
    let seen_3 = moved_seen (sym c.same) seen_2.1 in
    let q = parts_of (Part.FOR_REST_2 ∷ []) behind_test c.rest c.late c.text in
    let seen_4 = seen_parts q.front q.rest (moved_seen (sym q.same) seen_3.1) in
    let d = token_first (Part.FOR_REST_3 ∷ behind_step) q.rest q.late q.of_rest in
    let d_count : suc (length d.rest) ≡ length q.rest = ap length d.same in
    let seen_5 = moved_seen (sym d.same) seen_4.1 in
    let r = parts_of (Part.FOR_REST_3 ∷ []) behind_step d.rest d.late d.text in
    let seen_6 = seen_parts r.front r.rest (moved_seen (sym r.same) seen_5.1) in
    let e = token_first (Part.STATEMENT ∷ Part.DO_CLOSE ∷ []) r.rest r.late r.of_rest in
    let e_count : suc (length e.rest) ≡ length r.rest = ap length e.same in
    let seen_7 = moved_seen (sym e.same) seen_6.1 in
    let few_1 : length t.rest + 1 < 4294967295 = omega (arith, few, count, t_count) in
    let few_2 : length c.rest + 1 < 4294967295 = omega (arith, few_1, p.count, c_count) in
    let few_3 : length d.rest + 1 < 4294967295 = omega (arith, few_2, q.count, d_count) in
    let few_4 : length e.rest + 1 < 4294967295 = omega (arith, few_3, r.count, e_count) in
    let fewer_4 : length e.rest ≤ n = omega (arith, fewer, count, t_count, p.count, c_count, q.count, d_count, r.count, e_count) in
    let start =
    maybe_text limits Action.EndForStart (number Part.FOR_REST_1) start_rows c.s.token.place p.front p.early p.of_front refl seen_2.0
    (omega (arith, few_1, p.count)) in
    let test =
    maybe_text limits Action.EndForTest (number Part.FOR_REST_2) test_rows d.s.token.place q.front q.early q.of_front refl seen_4.0
    (omega (arith, few_2, q.count)) in
    let step =
    maybe_text limits Action.EndForStep (number Part.FOR_REST_3) step_rows e.s.token.place r.front r.early r.of_front refl seen_6.0
    (omega (arith, few_3, r.count)) in
    let body = body_text limits n below next e.rest e.late e.text seen_7.1 few_4 fewer_4 in
    record {
      o = o;
      t = t;
      p = p;
      j = j;
      c = c;
      q = q;
      d = d;
      r = r;
      e = e;
      start = start;
      test = test;
      step = step;
      body = body;
    }

module _ {limits : Limits} {stands : Standing} {next : Place} {seen : List Seen} {events : List (Event Action)}
    {wd : Worded limits stands (Part.FOR_REST ∷ []) seen events} (x : ForText limits stands next seen events wd) where
  abbrev start_quiet : Quiet
  start_quiet = record { all = Takes x.t.s.token x.t.s.behind ∷ x.start.happens; are = x.start.quiet refl }

  abbrev between_colons : List Happening
  between_colons = Takes x.d.s.token x.d.s.behind ∷ []

  abbrev test_quiet : Quiet
  test_quiet = record {
    all = Takes x.c.s.token x.c.s.behind ∷ (x.test.happens ++ between_colons);
    are = quiet-append x.test.happens between_colons (x.test.quiet refl) refl;
  }

  abbrev closing_quiet : Quiet
  closing_quiet = record { all = Takes x.e.s.token x.e.s.behind ∷ []; are = refl }

  abbrev step_is : Step
  step_is = x.step.step refl

  abbrev opens : Moment
  opens = plainly_at x.t.s.token.place

  abbrev top_at : Moment
  top_at = plainly_at x.c.s.token.place

  abbrev last : List Happening
  last = happenings x.body.nested ++ Acts (plainly_at next) Action.Close ∷ []

  abbrev behind_second : List Happening
  behind_second = step_happenings step_is ++ Takes x.e.s.token x.e.s.behind ∷ last

  abbrev with_body : {b : Bool} → Nested false → Moment → Nested b
  with_body body closes = For opens start_quiet top_at test_quiet step_is closing_quiet body closes

  abbrev tree_for : Tree → Tree
  tree_for body = ForTree stands wd.word x.t.s x.start.unit x.c.s x.test.unit x.d.s x.step.unit x.e.s body

  abbrev nested_for : {b : Bool} → Nested b
  nested_for {b} = with_body {b = b} x.body.nested (plainly_at next)

  from_step : happenings_before next x.d.late x.d.rest ≡ behind_second
  from_step = x.r.happen next
      ∙ (ap (λ y. happenings_before y x.r.early x.r.front ++ happenings_before next x.r.late x.r.rest) (x.e.place next)
      ∙ (ap (λ l. l ++ happenings_before next x.r.late x.r.rest) (x.step.same ∙ sym (x.step.step_same refl))
      ∙ ap (λ l. step_happenings step_is ++ l) (x.e.happen next ∙ ap (λ l. Takes x.e.s.token x.e.s.behind ∷ l) x.body.happen)))

  from_test : happenings_before next x.c.late x.c.rest ≡ (x.test.happens ++ between_colons) ++ behind_second
  from_test = x.q.happen next
      ∙ (ap (λ y. happenings_before y x.q.early x.q.front ++ happenings_before next x.q.late x.q.rest) (x.d.place next)
      ∙ (ap (λ l. l ++ happenings_before next x.q.late x.q.rest) x.test.same
      ∙ (ap (λ l. x.test.happens ++ l) (x.d.happen next ∙ ap (λ l. Takes x.d.s.token x.d.s.behind ∷ l) from_step)
      ∙ sym (append_assoc x.test.happens between_colons behind_second))))

  from_start : happenings_before next x.t.late x.t.rest ≡ x.start.happens ++ Acts top_at Action.ForTop ∷ (test_quiet.all ++ behind_second)
  from_start = x.p.happen next
      ∙ (ap (λ y. happenings_before y x.p.early x.p.front ++ happenings_before next x.p.late x.p.rest) (x.c.place next)
      ∙ (ap (λ l. l ++ happenings_before next x.p.late x.p.rest) x.start.same
      ∙ ap (λ l. x.start.happens ++ l) (x.j.happen next
      ∙ (ap (λ y. Acts (plainly_at y) Action.ForTop ∷ happenings_before next x.j.late x.p.rest) (x.c.place next)
      ∙ ap (λ l. Acts top_at Action.ForTop ∷ l) (x.c.happen next ∙ ap (λ l. Takes x.c.s.token x.c.s.behind ∷ l) from_test)))))

  for_same : (b : Bool) → happenings_before next events seen ≡ word_happens stands wd.word ++ happenings (nested_for {b = b})
  for_same b = wd.happen next ∙ ap (λ y. word_happens stands wd.word ++ y) (x.o.happen next
      ∙ (ap (λ y. Acts (plainly_at y) Action.OpenFor ∷ happenings_before next x.o.late wd.rest) (x.t.place next)
      ∙ ap (λ y. Acts opens Action.OpenFor ∷ y) (x.t.happen next ∙ ap (λ y. Takes x.t.s.token x.t.s.behind ∷ y) from_start)))

  for_all : tree_seen (ForTree stands wd.word x.t.s x.start.unit x.c.s x.test.unit x.d.s x.step.unit x.e.s x.body.tree) ≡ seen
  for_all =
      let word = λ (y : List Seen). wd.word ∷ x.t.s ∷ y in
      let started = λ (y : List Seen). word (x.p.front ++ y) in
      let tested = λ (y : List Seen). started (x.c.s ∷ (x.q.front ++ y)) in
      let stepped = λ (y : List Seen). tested (x.d.s ∷ (x.r.front ++ y)) in
      let rest = x.e.s ∷ tree_seen x.body.tree in
      ap (λ y. word (y ++ x.c.s ∷ (maybe_seen x.test.unit ++ x.d.s ∷ (maybe_seen x.step.unit ++ rest)))) x.start.all
      ∙ (ap (λ y. started (x.c.s ∷ (y ++ x.d.s ∷ (maybe_seen x.step.unit ++ rest)))) x.test.all
      ∙ (ap (λ y. tested (x.d.s ∷ (y ++ rest))) x.step.all
      ∙ (ap (λ y. stepped (x.e.s ∷ y)) x.body.all
      ∙ (ap stepped x.e.same
      ∙ (ap (λ y. tested (x.d.s ∷ y)) x.r.same
      ∙ (ap tested x.d.same
      ∙ (ap (λ y. started (x.c.s ∷ y)) x.q.same
      ∙ (ap started x.c.same ∙ (ap word x.p.same ∙ (ap (λ y. wd.word ∷ y) x.t.same ∙ wd.same))))))))))

  for_lays : (b : Bool) (effects : Effects) (context : Context) (w : Compilation) → w.closed ≡ 0 → w.opening ≡ None
      → laid limits context (After (Plain (word_quiet wd)) (with_body {b = b} (put effects x.body.nested).0 (plainly_at next))) w
      ≡ tree_laid limits context (tree_for (with_effects effects x.body.tree).0) w
  for_lays b effects context w ahead none =
      let inner = put effects x.body.nested in
      let v = word_done limits context stands wd.word w in
      let k = opened limits Kind.For v.output in
      let begins = opened_at context opens k v in
      let closed_by = λ (top : Construct) (z : Compilation).
      let own = with_step_in z.constructs top in
      ended_as limits (plainly_at next) own v.constructs
      (laid limits context inner.0 (token_done context x.e.s (record z { constructs = own ∷ v.constructs }))) in
      let behind_start = λ (z : Compilation).
      let top = between limits k.0 z.output in
      closed_by top.0 (run limits context (step_happenings step_is) (run limits context test_quiet.all
      (holding top_at top v.constructs z))) in
      let y = token_done context x.t.s begins in
      let y_closed = took_none context x.t.s.token begins ∙ word_closed wd context w ahead in
      let started = maybe_done limits context Action.EndForStart x.c.s.token.place x.start.unit y in
      let started_closed = maybe_closed x.start context y refl y_closed in
      let top = between limits k.0 started.output in
      let held = holding top_at top v.constructs started in
      let z = token_done context x.c.s held in
      let z_closed = took_none context x.c.s.token held ∙ started_closed in
      let in_test = maybe_done limits context Action.EndForTest x.d.s.token.place x.test.unit z in
      let in_test_closed = maybe_closed x.test context z refl z_closed in
      let tested = token_done context x.d.s in_test in
      let tested_closed = took_none context x.d.s.token in_test ∙ in_test_closed in
      let stepped = maybe_done limits context Action.EndForStep x.e.s.token.place x.step.unit tested in
      let stepped_closed = maybe_closed x.step context tested refl tested_closed in
      let own = with_step_in stepped.constructs top.0 in
      let inside = record stepped { constructs = own ∷ v.constructs } in
      ap (laid {b = b} limits context (with_body inner.0 (plainly_at next))) (wd.runs context w)
      ∙ (ap behind_start (x.start.runs context y refl)
      ∙ (ap (λ g. closed_by top.0 (run limits context (step_happenings step_is) g))
      (run_then limits context x.test.happens between_colons z ∙ ap (token_done context x.d.s) (x.test.runs context z refl))
      ∙ (ap (closed_by top.0)
      (ap (λ hs. run limits context hs tested) (x.step.step_same refl) ∙ x.step.runs context tested refl)
      ∙ ap (λ g. ended_as limits (plainly_at next) own v.constructs g)
      (x.body.lays effects context (token_done context x.e.s inside) (took_none context x.e.s.token inside ∙ stepped_closed) refl))))

for_built : {b : Bool} (limits : Limits) (stands : Standing) (next : Place) (seen : List Seen) (events : List (Event Action))
    (wd : Worded limits stands (Part.FOR_REST ∷
    []) seen events) → ForText limits stands next seen events wd → IsTree b limits next seen events
for_built {b} limits stands next seen events wd x = record {
  tree = ForTree stands wd.word x.t.s x.start.unit x.c.s x.test.unit x.d.s x.step.unit x.e.s x.body.tree;
  all = for_all x;
  written = (x.start.written, (x.test.written, (x.step.written, x.body.written)));
  nested = After (Plain (word_quiet wd)) (nested_for x);
  same = sym (for_same x b);
  lays = λ effects context w ahead none.
      let inner = put effects x.body.nested in
      let holding_body = tree_for x (with_effects effects x.body.tree).0 in
      with_behind limits context (next_effect inner.1) holding_body w next
      (λ at. laid {b = b} limits context (After (Plain (word_quiet wd)) (with_body x inner.0 at)) w) (λ m. refl)
      (for_lays x b effects context w ahead none)
      ∙ ap (λ r. tree_laid limits context (with_effect (next_effect r) holding_body) w) (x.body.rests effects);
  rests = λ effects. ap later_effects (x.body.rests effects);
}

pub for_tree : {b : Bool} (limits : Limits) (n : ℕ) → Below limits n → (stands : Standing) (next : Place) (seen : List Seen)
    (events : List (Event Action)) → IsText grammar (before_word stands ++ Part.WORD_FOR ∷ Part.FOR_REST ∷ []) (atoms_of seen) events
    → AreAll seen → length seen + 1 < 4294967295 → length seen ≤ suc n → IsTree b limits next seen events
unfolding grammar
for_tree {b} limits n below stands next seen events text are_seen few fewer =
    let wd = worded limits stands _ (Part.FOR_REST ∷ []) seen events text in
    by_rows (IsTree b limits next seen events) (number Part.FOR_REST)
    ((λ t. for_built limits stands next seen events wd (for_text limits n below stands next seen events wd t are_seen few fewer)), tt)
    wd.text
