-- The pieces of statements that hold others: their tokens, events and happenings.
use Rattle.std.proofs.Common.{◌≡◌, ℕ, suc, ◌+◌, ◌≤◌, ◌<◌, List, [], ◌∷◌, ◌++◌, length, true, refl, sym, ◌∙◌, ap, subst, append_assoc}
use Rattle.std.proofs.Common.{arith}
use Rattle.std.proofs.lemmas.Bool.{and_from, and_parts}
use Rattle.inf_scanner.specs.declared.tokens.Place.{Place}
use Rattle.inf_settings.specs.Bounds.{Limits}
use Rattle.inf_machine.specs.declared.symbols.Symbol.{Symbol}
use Rattle.inf_machine.specs.Grammar.{Did, Event, IsText, Took, action, here}
use Rattle.inf_syntax.specs.declared.actions.Action.{Action}
use Rattle.inf_syntax.specs.declared.parts.names.TheConstants as Part
use Rattle.inf_grammar.specs.Language.{grammar}
use Rattle.inf_unit.specs.Units.{Unit as UnitAtHand, no_unit}
use Rattle.inf_compilation.specs.{Actions.Compilation, Context.Context}
use Rattle.inf_statement_laws.specs.{Laid.run, Readings.Seen, Readings.plainly_at}
use Rattle.inf_statement_laws.specs.Happenings.{Acts, AreOf, Happening, Takes, happen_quietly, happens_quietly, is_quiet}
use Rattle.inf_statement_laws.proofs.{Laying.run_then, Nesting.quiet_parts, Nesting.quiet_rule, Rules.all_quiet, Rules.is_quiet_rule}
use Rattle.inf_statement_laws.proofs.{Texts.OfRule, Texts.deep}
use Rattle.inf_expression_laws.specs.Gathered.{AreSeen}
use Rattle.inf_language.specs.{Texts.atoms_of, Texts.happenings_before, Texts.tokens_of, Units.TakeAll}
use Rattle.inf_language.proofs.Derivations.{texts_take_all}
use Rattle.inf_trees.specs.{Ends.case_first, Trees.all_seen}
use Rattle.inf_trees.proofs.{StatementsRead.bracketed_units_are_trees, Symbols.act_first, Symbols.parts_of, Symbols.token_first}
use Rattle.inf_trees.proofs.{UnitsRead.place_before, UnitsRead.seen_parts}
use Rattle.inf_routine_trees.specs.Bodies.{AtTop, Bracketed, Inner, OfSwitch, Standing, UnitWritten, bracketed_done, bracketed_seen}
use Rattle.inf_routine_trees.specs.Bodies.{token_done, unit_done, word_done}

-- Lemmas about the happenings of events

pub are_of : (next : Place) (events : List (Event Action)) (seen : List Seen) → TakeAll events seen
    → AreOf events (happenings_before next events seen)
are_of next [] [] all = tt
are_of next [] (s ∷ seen) all = absurd all
are_of next (Did a ∷ events) [] all = (refl, are_of next events [] all)
are_of next (Did a ∷ events) (s ∷ seen) all = (refl, are_of next events (s ∷ seen) all)
are_of next (Took atom ∷ events) [] all = absurd all
are_of next (Took atom ∷ events) (s ∷ seen) all = are_of next events seen all

pub quiet_text : (symbols : List (Symbol Action)) → all_quiet symbols ≡ true
    → (next : Place) (seen : List Seen) (events : List (Event Action))
    → IsText grammar symbols (atoms_of seen) events → happen_quietly (happenings_before next events seen) ≡ true
quiet_text symbols quiet next seen events text =
    let hs = happenings_before next events seen in
    let d = deep text refl hs (are_of next events seen (texts_take_all text seen refl)) in
    quiet_parts (OfRule d.0) (quiet_rule d.0) symbols hs d.1 quiet

pub quiet-append : (xs ys : List Happening) → happen_quietly xs ≡ true → happen_quietly ys ≡ true → happen_quietly (xs ++ ys) ≡ true
quiet-append [] ys x y = y
quiet-append (h ∷ xs) ys x y =
    let both = and_parts (happens_quietly h) (happen_quietly xs) x in
    and_from (happens_quietly h) (happen_quietly (xs ++ ys)) both.0 (quiet-append xs ys both.1 y)

-- Lemmas about a unit in brackets, with the action that ends it

abbrev pub unit_symbols : List (Symbol Action)
unit_symbols = Part.DO_BEGIN ∷ Part.DO_OUTER ∷ Part.EXPRESSION ∷ []

pub unit_quiet : all_quiet unit_symbols ≡ true
unfolding is_quiet_rule
unit_quiet = refl

pub record BracketedText (limits : Limits) (end : Action) (symbols : List (Symbol Action)) (seen : List Seen)
    (events : List (Event Action)) : Type 0 where
  pub tree : Bracketed
  pub written : UnitWritten tree.unit
  pub rest : List Seen
  pub late : List (Event Action)
  pub same : bracketed_seen tree ++ rest ≡ seen
  pub text : IsText grammar symbols (atoms_of rest) late
  pub seen_rest : AreSeen (atoms_of rest) (tokens_of rest)
  pub fewer : length rest + 2 ≤ length seen
  pub unit_happens : List Happening
  pub quiet : happen_quietly unit_happens ≡ true
  pub happen : (next : Place) → happenings_before next events seen ≡ Takes tree.bracket.token tree.bracket.behind
      ∷ (unit_happens ++ Acts (plainly_at tree.closing.token.place) end ∷ Takes tree.closing.token tree.closing.behind
      ∷ happenings_before next late rest)
  pub place : (next : Place) → place_before seen next ≡ tree.bracket.token.place
  pub runs : (context : Context) (w : Compilation)
      → run limits context (Takes tree.bracket.token tree.bracket.behind ∷ unit_happens) w ≡ unit_done context tree w

pub bracketed_text : (limits : Limits) (end : Action) (symbols : List (Symbol Action)) (seen : List Seen) (events : List (Event Action))
    → IsText grammar (Part.OPEN_PARENTHESIS ∷ Part.DO_BEGIN ∷ Part.DO_OUTER ∷ Part.EXPRESSION ∷ Symbol.Act end ∷ Part.CLOSE_PARENTHESIS ∷
    symbols)
    (atoms_of seen) events
    → AreSeen (atoms_of seen) (tokens_of seen) → length seen + 1 < 4294967295 → BracketedText limits end symbols seen events
bracketed_text limits end symbols seen events text are_seen few =
    let t = token_first (Part.DO_BEGIN ∷ Part.DO_OUTER ∷ Part.EXPRESSION ∷ Symbol.Act end ∷ Part.CLOSE_PARENTHESIS ∷
    symbols) seen events text in
    let p = parts_of unit_symbols (Symbol.Act end ∷ Part.CLOSE_PARENTHESIS ∷ symbols) t.rest t.late t.text in
    let b = act_first end (Part.CLOSE_PARENTHESIS ∷ symbols) p.rest p.late p.of_rest in
    let c = token_first symbols p.rest b.late b.text in
    let place = c.s.token.place in
    let seen_1 = subst (λ l. AreSeen (atoms_of l) (tokens_of l)) (sym t.same) are_seen in
    let seen_2 = seen_parts p.front p.rest (subst (λ l. AreSeen (atoms_of l) (tokens_of l)) (sym p.same) seen_1.1) in
    let seen_3 = subst (λ l. AreSeen (atoms_of l) (tokens_of l)) (sym c.same) seen_2.1 in
    let count_1 : suc (length t.rest) ≡ length seen = ap length t.same in
    let count_3 : suc (length c.rest) ≡ length p.rest = ap length c.same in
    let unit = λ (u : UnitAtHand).
    bracketed_units_are_trees limits u p.front p.early p.of_front seen_2.0 (omega (arith, few, count_1, p.count, count_3)) in
    let tree : Bracketed = record { bracket = t.s; unit = λ u. (unit u).parts; closing = c.s } in
    let hs = happenings_before place p.early p.front in
    let opened = λ (l : List Happening). Takes t.s.token t.s.behind ∷ l in
    record {
      tree = tree;
      written = λ u. (unit u).written;
      rest = c.rest;
      late = c.late;
      same = ap (λ l. t.s ∷ l) (append_assoc (all_seen (unit no_unit).parts) (c.s ∷ []) c.rest
          ∙ (ap (λ l. l ++ c.s ∷ c.rest) (unit no_unit).same ∙ (ap (λ l. p.front ++ l) c.same ∙ p.same)))
          ∙ t.same;
      text = c.text;
      seen_rest = seen_3.1;
      fewer = omega (arith, count_1, p.count, count_3);
      unit_happens = hs;
      quiet = quiet_text unit_symbols unit_quiet place p.front p.early p.of_front;
      happen = λ next. t.happen next ∙ ap opened (p.happen next
          ∙ (ap (λ x. happenings_before x p.early p.front ++ happenings_before next p.late p.rest) (c.place next)
          ∙ ap (λ l. hs ++ l) (b.happen next
          ∙ (ap (λ x. Acts (plainly_at x) end ∷ happenings_before next b.late p.rest) (c.place next)
          ∙ ap (λ l. Acts (plainly_at place) end ∷ l) (c.happen next)))));
      place = t.place;
      runs = λ context w.
          let v = token_done context t.s w in (unit v.unit).does context place v refl;
    }

-- the happenings of such a unit with its end and its closing bracket
abbrev pub test_happens : {limits : Limits} {end : Action} {symbols : List (Symbol Action)} {seen : List Seen}
    {events : List (Event Action)}
    → BracketedText limits end symbols seen events → List Happening
test_happens {end = end} b = Takes b.tree.bracket.token b.tree.bracket.behind
    ∷ (b.unit_happens ++ Acts (plainly_at b.tree.closing.token.place) end ∷ Takes b.tree.closing.token b.tree.closing.behind ∷ [])

pub test_happen : {limits : Limits} {end : Action} {symbols : List (Symbol Action)} {seen : List Seen} {events : List (Event Action)}
    (b : BracketedText limits end symbols seen events) (next : Place)
    → happenings_before next events seen ≡ test_happens b ++ happenings_before next b.late b.rest
test_happen {end = end} b next = b.happen next ∙ ap (λ l. Takes b.tree.bracket.token b.tree.bracket.behind ∷ l)
    (sym (append_assoc b.unit_happens
    (Acts (plainly_at b.tree.closing.token.place) end ∷ Takes b.tree.closing.token b.tree.closing.behind ∷ [])
    (happenings_before next b.late b.rest)))

pub test_quiet : {limits : Limits} {end : Action} {symbols : List (Symbol Action)} {seen : List Seen} {events : List (Event Action)}
    (b : BracketedText limits end symbols seen events) → is_quiet end ≡ true → happen_quietly (test_happens b) ≡ true
test_quiet {end = end} b quiet = quiet-append b.unit_happens
    (Acts (plainly_at b.tree.closing.token.place) end ∷ Takes b.tree.closing.token b.tree.closing.behind ∷ []) b.quiet
    (and_from (is_quiet end) true quiet refl)

pub test_runs : {limits : Limits} {end : Action} {symbols : List (Symbol Action)} {seen : List Seen} {events : List (Event Action)}
    (b : BracketedText limits end symbols seen events) (context : Context) (w : Compilation)
    → run limits context (test_happens b) w ≡ bracketed_done limits context end b.tree w
test_runs {limits} {end} b context w =
    let last : List Happening = Acts (plainly_at b.tree.closing.token.place) end ∷ Takes b.tree.closing.token b.tree.closing.behind ∷ [] in
    run_then limits context (Takes b.tree.bracket.token b.tree.bracket.behind ∷ b.unit_happens) last w
    ∙ ap (run limits context last) (b.runs context w)

-- Lemmas about the word of a statement that holds others

abbrev pub before_word : Standing → List (Symbol Action)
before_word AtTop = []
before_word Inner = Part.DO_DEEPER ∷ []
before_word OfSwitch = Part.DO_MAYBE_DEEPER ∷ []

abbrev pub word_happens : Standing → Seen → List Happening
word_happens AtTop word = Takes word.token word.behind ∷ []
word_happens Inner word = Acts (plainly_at word.token.place) Action.Deeper ∷ Takes word.token word.behind ∷ []
word_happens OfSwitch word = Acts (plainly_at word.token.place) Action.MaybeDeeper ∷ Takes word.token word.behind ∷ []

pub record Worded (limits : Limits) (stands : Standing) (symbols : List (Symbol Action)) (seen : List Seen) (events : List (Event Action))
    : Type 0 where
  pub word : Seen
  pub rest : List Seen
  pub late : List (Event Action)
  pub same : word ∷ rest ≡ seen
  pub text : IsText grammar symbols (atoms_of rest) late
  pub happen : (next : Place) → happenings_before next events seen ≡ word_happens stands word ++ happenings_before next late rest
  pub quiet : happen_quietly (word_happens stands word) ≡ true
  pub runs : (context : Context) (w : Compilation)
      → run limits context (word_happens stands word) w ≡ word_done limits context stands word w
  pub ends : case_first late ≡ case_first events

pub worded : (limits : Limits) (stands : Standing) (class : ℕ) (symbols : List (Symbol Action)) (seen : List Seen)
    (events : List (Event Action)) → IsText grammar (before_word stands ++ Symbol.Token class ∷ symbols) (atoms_of seen) events
    → Worded limits stands symbols seen events
worded limits AtTop class symbols seen events text =
    let t = token_first symbols seen events text in
    record {
      word = t.s;
      rest = t.rest;
      late = t.late;
      same = t.same;
      text = t.text;
      happen = t.happen;
      quiet = refl;
      runs = λ context w. refl;
      ends = sym (ap case_first t.are);
    }
worded limits Inner class symbols seen events text =
    let d = act_first Action.Deeper (Symbol.Token class ∷ symbols) seen events text in
    let t = token_first symbols seen d.late d.text in
    record {
      word = t.s;
      rest = t.rest;
      late = t.late;
      same = t.same;
      text = t.text;
      happen = λ next. d.happen next ∙ (ap (λ x. Acts (plainly_at x) Action.Deeper ∷ happenings_before next d.late seen) (t.place next)
          ∙ ap (λ l. Acts (plainly_at t.s.token.place) Action.Deeper ∷ l) (t.happen next));
      quiet = refl;
      runs = λ context w. refl;
      ends = sym (ap case_first d.are ∙ ap case_first t.are);
    }
worded limits OfSwitch class symbols seen events text =
    let d = act_first Action.MaybeDeeper (Symbol.Token class ∷ symbols) seen events text in
    let t = token_first symbols seen d.late d.text in
    record {
      word = t.s;
      rest = t.rest;
      late = t.late;
      same = t.same;
      text = t.text;
      happen = λ next. d.happen next ∙ (ap (λ x. Acts (plainly_at x) Action.MaybeDeeper ∷ happenings_before next d.late seen) (t.place next)
          ∙ ap (λ l. Acts (plainly_at t.s.token.place) Action.MaybeDeeper ∷ l) (t.happen next));
      quiet = refl;
      runs = λ context w. refl;
      ends = sym (ap case_first d.are ∙ ap case_first t.are);
    }

-- Lemmas about the end of such a statement

pub record Closed (seen : List Seen) (events : List (Event Action)) : Type 0 where
  pub none : seen ≡ []
  pub happen : (next : Place) → happenings_before next events seen ≡ Acts (plainly_at next) Action.Close ∷ []

closed_by : {atoms : List ℕ} {events : List (Event Action)} → IsText grammar (Part.DO_CLOSE ∷ []) atoms events → (seen : List Seen)
    → atoms_of seen ≡ atoms → Closed seen events
closed_by (action here) [] is = record { none = refl; happen = λ next. refl }
closed_by (action here) (s ∷ seen) is = cc

pub closed_text : (seen : List Seen) (events : List (Event Action)) → IsText grammar (Part.DO_CLOSE ∷ []) (atoms_of seen) events
    → Closed seen events
closed_text seen events text = closed_by text seen refl
