-- Statements are trees, and have their effects.
use Rattle.std.proofs.Common.{◌≡◌, ℕ, suc, ◌+◌, ◌≤◌, ◌<◌, List, [], ◌∷◌, ◌++◌, length, Bool, true, false, None, refl, sym, ◌∙◌, ap, subst}
use Rattle.std.proofs.Common.{append-nil, arith, if◌then◌else◌}
use Rattle.std.proofs.lemmas.Bool.{and_from}
use Rattle.inf_scanner.specs.declared.tokens.Place.{Place}
use Rattle.inf_settings.specs.Bounds.{Limits}
use Rattle.inf_machine.specs.{Grammar.Did, Grammar.Event, Grammar.IsText, Grammar.Took, declared.symbols.Symbol.Symbol}
use Rattle.inf_syntax.specs.declared.actions.Action.{Action}
use Rattle.inf_syntax.specs.declared.parts.names.TheConstants as Part
use Rattle.inf_grammar.specs.Language.{grammar}
use Rattle.inf_unit.specs.Units.{Unit as UnitAtHand, begun, no_unit}
use Rattle.inf_constructs.specs.{Constructs.between, Constructs.opened, declared.constructs.Kind.Kind}
use Rattle.inf_compilation.specs.{Actions.Compilation, Context.Context}
use Rattle.inf_statement_laws.specs.Readings.{Seen, plainly_at}
use Rattle.inf_statement_laws.specs.Happenings.{Acts, Quiet, Takes, happen_quietly, is_quiet}
use Rattle.inf_statement_laws.specs.Laid.{ended_as, holding, laid, opened_at, run}
use Rattle.inf_statement_laws.specs.Nested.{If, IfElse, Nested, Plain, Then as After, While, happenings}
use Rattle.inf_statement_laws.proofs.{Acts.quiet_run, Laying.laid_as, Rules.number}
use Rattle.inf_expression_laws.specs.Gathered.{AreSeen}
use Rattle.inf_language.specs.{Texts.atoms_of, Texts.happenings_before, Texts.tokens_of, Units.TakeAll}
use Rattle.inf_trees.specs.{Room.have_room, Statements.statement_done}
use Rattle.inf_trees.proofs.{RuleRows.by_rows, StatementsRead.BegunUnit, StatementsRead.is_statement, StatementsRead.unit_quiet}
use Rattle.inf_trees.proofs.{UnitsGo.AreQuiet, UnitsRead.place_before, UnitsRead.seen_parts}
use Rattle.inf_trees.proofs.Symbols.{PartsOf, act_first, parts_of, token_first}
use Rattle.inf_routine_trees.specs.Bodies.{If as IfTree, IfElse as ElseTree, Simple, Standing, Tree, TreeWritten, While as WhileTree}
use Rattle.inf_routine_trees.specs.Bodies.{bracketed_done, bracketed_seen, later_effects, next_effect, opening_of, token_done, tree_laid}
use Rattle.inf_routine_trees.specs.Bodies.{tree_seen, with_effect, with_effects, word_done}
use Rattle.inf_routine_trees.proofs.Endings.{last_took}
use Rattle.inf_routine_trees.proofs.Effects.{Effects, given, none_behind, none_effects, none_given, put, put_happens, with_behind}
use Rattle.inf_routine_trees.proofs.Pieces.{BracketedText, Worded, before_word, bracketed_text, closed_text, test_happen, test_happens}
use Rattle.inf_routine_trees.proofs.Pieces.{test_quiet, test_runs, word_happens, worded}

-- Tokens are a tree, which lays what the happenings of some events lay, nested by their words, before another token at a place.
pub record IsTree (b : Bool) (limits : Limits) (next : Place) (seen : List Seen) (events : List (Event Action)) : Type 0 where
  pub tree : Tree
  pub all : tree_seen tree ≡ seen
  pub written : TreeWritten tree
  pub nested : Nested b
  pub same : happenings nested ≡ happenings_before next events seen
  pub lays : (effects : Effects) (context : Context) (w : Compilation) → w.closed ≡ 0 → w.opening ≡ None
      → laid limits context (put effects nested).0 w ≡ tree_laid limits context (with_effects effects tree).0 w
  pub rests : (effects : Effects) → (put effects nested).1 ≡ (with_effects effects tree).1

-- Behind a tree no statement is closed ahead, and no word waits.
pub tree_runs : {b : Bool} (limits : Limits) (next : Place) (seen : List Seen) (events : List (Event Action))
    → (t : IsTree b limits next seen events) (effects : Effects) (context : Context) (w : Compilation) → w.closed ≡ 0 → w.opening ≡ None
    → run limits context (given effects (happenings_before next events seen)) w ≡ tree_laid limits context (with_effects effects t.tree).0 w
tree_runs limits next seen events t effects context w ahead none = ap (λ hs. run limits context (given effects hs) w) (sym t.same)
    ∙ (ap (λ hs. run limits context hs w) (sym (put_happens effects t.nested).same)
    ∙ ((laid_as limits context (put effects t.nested).0 w ahead).runs ∙ t.lays effects context w ahead none))

-- where no statement is closed ahead
pub plain_runs : {b : Bool} (limits : Limits) (next : Place) (seen : List Seen) (events : List (Event Action))
    → (t : IsTree b limits next seen events) → (context : Context) (w : Compilation) → w.closed ≡ 0 → w.opening ≡ None
    → run limits context (happenings_before next events seen) w ≡ tree_laid limits context t.tree w
plain_runs limits next seen events t context w ahead none =
    ap (λ hs. run limits context hs w) (sym (none_given (happenings_before next events seen)))
    ∙ (tree_runs limits next seen events t [] context w ahead none
    ∙ ap (λ (x : Tree × Effects). tree_laid limits context x.0 w) (none_effects t.tree))

pub tree_closed : {b : Bool} (limits : Limits) (next : Place) (seen : List Seen) (events : List (Event Action))
    → (t : IsTree b limits next seen events) (effects : Effects) (context : Context) (w : Compilation) → w.closed ≡ 0 → w.opening ≡ None
    → (tree_laid limits context (with_effects effects t.tree).0 w).closed ≡ 0
tree_closed limits next seen events t effects context w ahead none =
    ap (λ (v : Compilation). v.closed) (sym (t.lays effects context w ahead none))
    ∙ (laid_as limits context (put effects t.nested).0 w ahead).none_ahead

pub tree_opening : {b : Bool} (limits : Limits) (next : Place) (seen : List Seen) (events : List (Event Action))
    → (t : IsTree b limits next seen events) → TakeAll events seen → last_took false events ≡ true
    → (effects : Effects) (context : Context) (w : Compilation) → w.closed ≡ 0 → w.opening ≡ None
    → (tree_laid limits context (with_effects effects t.tree).0 w).opening ≡ None
tree_opening limits next seen events t all last effects context w ahead none =
    ap (λ (v : Compilation). v.opening) (sym (tree_runs limits next seen events t effects context w ahead none))
    ∙ none_behind limits context next effects false events seen w all last (λ e. cc)

-- Lemmas about statements of one unit

pub happen_quiet : (next : Place) (events : List (Event Action)) (seen : List Seen) → AreQuiet events
    → happen_quietly (happenings_before next events seen) ≡ true
happen_quiet next [] seen quiet = refl
happen_quiet next (Did a ∷ events) [] quiet =
    and_from (is_quiet a) (happen_quietly (happenings_before next events [])) quiet.0 (happen_quiet next events [] quiet.1)
happen_quiet next (Did a ∷ events) (s ∷ seen) quiet =
    and_from (is_quiet a) (happen_quietly (happenings_before next events (s ∷ seen))) quiet.0 (happen_quiet next events (s ∷ seen) quiet.1)
happen_quiet next (Took atom ∷ events) [] quiet = refl
happen_quiet next (Took atom ∷ events) (s ∷ seen) quiet = happen_quiet next events seen quiet

quiet_joined : (early late : List (Event Action)) → AreQuiet early → AreQuiet late → AreQuiet (early ++ late)
quiet_joined [] late quiet other = other
quiet_joined (Did a ∷ early) late quiet other = (quiet.0, quiet_joined early late quiet.1 other)
quiet_joined (Took atom ∷ early) late quiet other = quiet_joined early late quiet other

pub room_lays : (b : Bool) (done one_by_one : Compilation) → (b ≡ true → one_by_one ≡ done) → one_by_one ≡ (if b then done else one_by_one)
room_lays true done one_by_one same = same refl
room_lays false done one_by_one same = refl

pub simple_tree : {b : Bool} (limits : Limits) (next : Place) (seen : List Seen) (events : List (Event Action))
    → BegunUnit limits seen events
    → AreSeen (atoms_of seen) (tokens_of seen) → length seen + 1 < 4294967295 → IsTree b limits next seen events
simple_tree limits next seen events b are_seen few =
    let simple = λ (u : UnitAtHand). is_statement limits u seen events b are_seen few in
    let late : List (Event Action) = Did Action.EndStatement ∷ Took b.atom ∷ [] in
    let quiet : AreQuiet events =
    subst AreQuiet (sym b.are) (refl, quiet_joined b.early late (unit_quiet limits seen events b are_seen few) (refl, tt)) in
    let q : Quiet = record { all = happenings_before next events seen; are = happen_quiet next events seen quiet } in
    record {
      tree = Simple (λ u. (simple u).tree) q;
      all = (simple no_unit).same;
      written = λ u. (simple u).written;
      nested = Plain q;
      same = refl;
      lays = λ effects context w ahead none.
          room_lays (have_room limits (begun w.unit) (simple w.unit).tree.unit) (statement_done limits context (simple w.unit).tree w)
          (run limits context q.all w) (λ room. (simple w.unit).does context next w none room);
      rests = λ effects. refl;
    }

-- Lemmas about statements that hold others

abbrev pub AreAll : List Seen → Type 0
AreAll seen = AreSeen (atoms_of seen) (tokens_of seen)

pub moved_seen : {xs ys : List Seen} → xs ≡ ys → AreAll xs → AreAll ys
moved_seen same are = subst AreAll same are

-- Texts of one symbol, of at most `n` tokens, are trees, among which cases may be where `b` says so; those of statements with fewer tokens.
abbrev pub OfSymbol : Bool → Symbol Action → Limits → ℕ → Type 0
OfSymbol b symbol limits n =
    (next : Place) (seen : List Seen) (events : List (Event Action)) → IsText grammar (symbol ∷ []) (atoms_of seen) events
    → AreAll seen → length seen + 1 < 4294967295 → length seen ≤ n → IsTree b limits next seen events

abbrev pub Below : Limits → ℕ → Type 0
Below limits n = OfSymbol false Part.STATEMENT limits n

abbrev pub word_quiet : {limits : Limits} {stands : Standing} {symbols : List (Symbol Action)} {seen : List Seen}
    {events : List (Event Action)}
    → Worded limits stands symbols seen events → Quiet
word_quiet {stands = stands} wd = record { all = word_happens stands wd.word; are = wd.quiet }

pub word_closed : {limits : Limits} {stands : Standing} {symbols : List (Symbol Action)} {seen : List Seen} {events : List (Event Action)}
    (wd : Worded limits stands symbols seen events) (context : Context) (w : Compilation) → w.closed ≡ 0
    → (word_done limits context stands wd.word w).closed ≡ 0
word_closed {limits} {stands} wd context w ahead = ap (λ (v : Compilation). v.closed) (sym (wd.runs context w))
    ∙ ((quiet_run limits context (word_happens stands wd.word) w wd.quiet).1 ∙ ahead)

pub test_closed : {limits : Limits} {end : Action} {symbols : List (Symbol Action)} {seen : List Seen} {events : List (Event Action)}
    (t : BracketedText limits end symbols seen events) → is_quiet end ≡ true → (context : Context) (w : Compilation) → w.closed ≡ 0
    → (bracketed_done limits context end t.tree w).closed ≡ 0
test_closed {limits} t quiet context w ahead = ap (λ (v : Compilation). v.closed) (sym (test_runs t context w))
    ∙ ((quiet_run limits context (test_happens t) w (test_quiet t quiet)).1 ∙ ahead)

-- a statement and its closing
pub record BodyText (limits : Limits) (next : Place) (seen : List Seen) (events : List (Event Action)) : Type 0 where
  pub tree : Tree
  pub all : tree_seen tree ≡ seen
  pub written : TreeWritten tree
  pub nested : Nested false
  pub happen : happenings_before next events seen ≡ happenings nested ++ Acts (plainly_at next) Action.Close ∷ []
  pub lays : (effects : Effects) (context : Context) (w : Compilation) → w.closed ≡ 0 → w.opening ≡ None
      → laid limits context (put effects nested).0 w ≡ tree_laid limits context (with_effects effects tree).0 w
  pub rests : (effects : Effects) → (put effects nested).1 ≡ (with_effects effects tree).1

pub body_text : (limits : Limits) (n : ℕ) → Below limits n → (next : Place) (seen : List Seen) (events : List (Event Action))
    → IsText grammar (Part.STATEMENT ∷ Part.DO_CLOSE ∷
    []) (atoms_of seen) events → AreAll seen → length seen + 1 < 4294967295 → length seen ≤ n
    → BodyText limits next seen events
body_text limits n below next seen events text are_seen few fewer =
    let p = parts_of (Part.STATEMENT ∷ []) (Part.DO_CLOSE ∷ []) seen events text in
    let c = closed_text p.rest p.late p.of_rest in
    let parts = seen_parts p.front p.rest (moved_seen (sym p.same) are_seen) in
    let inner =
    below (place_before p.rest next) p.front p.early p.of_front parts.0 (omega (arith, few, p.count)) (omega (arith, fewer, p.count)) in
    record {
      tree = inner.tree;
      all = inner.all ∙ (sym (append-nil p.front) ∙ (ap (λ l. p.front ++ l) (sym c.none) ∙ p.same));
      written = inner.written;
      nested = inner.nested;
      happen = p.happen next
          ∙ (ap (λ l. l ++ happenings_before next p.late p.rest) (sym inner.same) ∙ ap (λ l. happenings inner.nested ++ l) (c.happen next));
      lays = inner.lays;
      rests = inner.rests;
    }

while_row_tree : {b : Bool} (limits : Limits) (n : ℕ) → Below limits n → (stands : Standing) (next : Place) (seen : List Seen)
    (events : List (Event Action)) → (wd : Worded limits stands (Part.WHILE_REST ∷ []) seen events)
    → IsText grammar (Part.DO_OPEN_WHILE ∷ Part.OPEN_PARENTHESIS ∷ Part.DO_BEGIN ∷ Part.DO_OUTER ∷ Part.EXPRESSION ∷ Part.DO_END_WHILE ∷
    Part.CLOSE_PARENTHESIS ∷ Part.STATEMENT ∷
    Part.DO_CLOSE ∷ [])
    (atoms_of wd.rest) wd.late → AreAll seen → length seen + 1 < 4294967295 → length seen ≤ suc n → IsTree b limits next seen events
while_row_tree {b} limits n below stands next seen events wd text are_seen few fewer =
    let all = moved_seen (sym wd.same) are_seen in
    let count : suc (length wd.rest) ≡ length seen = ap length wd.same in
    let o = act_first Action.OpenWhile
    (Part.OPEN_PARENTHESIS ∷ Part.DO_BEGIN ∷ Part.DO_OUTER ∷ Part.EXPRESSION ∷ Part.DO_END_WHILE ∷ Part.CLOSE_PARENTHESIS ∷
    Part.STATEMENT ∷ Part.DO_CLOSE ∷ []) wd.rest wd.late text in
    let t = bracketed_text limits Action.EndWhile (Part.STATEMENT ∷ Part.DO_CLOSE ∷
    []) wd.rest o.late o.text all.1 (omega (arith, few, count)) in
    let body = body_text limits n below next t.rest t.late t.text t.seen_rest (omega (arith, few, count, t.fewer))
    (omega (arith, fewer, count, t.fewer)) in
    let q : Quiet = record { all = test_happens t; are = test_quiet t refl } in
    let opens = opening_of t.tree in
    let closes = plainly_at next in
    let word = word_happens stands wd.word in
    record {
      tree = WhileTree stands wd.word t.tree body.tree;
      all = ap (λ l. wd.word ∷ (bracketed_seen t.tree ++ l)) body.all ∙ (ap (λ l. wd.word ∷ l) t.same ∙ wd.same);
      written = (t.written, body.written);
      nested = After (Plain (word_quiet wd)) (While opens q body.nested closes);
      same = sym (wd.happen next ∙ ap (λ l. word ++ l) (o.happen next
          ∙ (ap (λ x. Acts (plainly_at x) Action.OpenWhile ∷ happenings_before next o.late wd.rest) (t.place next)
          ∙ ap (λ l. Acts opens Action.OpenWhile ∷ l) (test_happen t next ∙ ap (λ l. test_happens t ++ l) body.happen))));
      lays = λ effects context w ahead none.
          let v = word_done limits context stands wd.word w in
          let c = opened limits Kind.While v.output in
          let x = opened_at context opens c v in
          let y = bracketed_done limits context Action.EndWhile t.tree x in
          let inner = put effects body.nested in
          let holding_body = WhileTree stands wd.word t.tree (with_effects effects body.tree).0 in
          with_behind limits context (next_effect inner.1) holding_body w next
          (λ at. laid {b = b} limits context (After (Plain (word_quiet wd)) (While opens q inner.0 at)) w) (λ m. refl)
          (ap (laid {b = b} limits context (While opens q inner.0 closes)) (wd.runs context w)
          ∙ (ap (λ z. ended_as limits closes c.0 v.constructs (laid limits context inner.0 z)) (test_runs t context x)
          ∙ ap (λ z. ended_as limits closes c.0 v.constructs z)
          (body.lays effects context y (test_closed t refl context x (word_closed wd context w ahead)) refl)))
          ∙ ap (λ r. tree_laid limits context (with_effect (next_effect r) holding_body) w) (body.rests effects);
      rests = λ effects. ap later_effects (body.rests effects);
    }

pub while_tree : {b : Bool} (limits : Limits) (n : ℕ) → Below limits n → (stands : Standing) (next : Place) (seen : List Seen)
    (events : List (Event Action)) → IsText grammar (before_word stands ++ Part.WORD_WHILE ∷ Part.WHILE_REST ∷ []) (atoms_of seen) events
    → AreAll seen → length seen + 1 < 4294967295 → length seen ≤ suc n → IsTree b limits next seen events
unfolding grammar
while_tree {b} limits n below stands next seen events text are_seen few fewer =
    let wd = worded limits stands _ (Part.WHILE_REST ∷ []) seen events text in
    by_rows (IsTree b limits next seen events) (number Part.WHILE_REST)
    ((λ t. while_row_tree limits n below stands next seen events wd t are_seen few fewer), tt) wd.text

-- The rest of an `if` behind its body: its closing, or its `else`
data ElseText (limits : Limits) (next : Place) (seen : List Seen) (events : List (Event Action)) : Type 0 where
  Without : seen ≡ [] → happenings_before next events seen ≡ Acts (plainly_at next) Action.Close ∷ [] → ElseText limits next seen events
  With : (joins : Seen) (rest : List Seen) (late : List (Event Action)) → joins ∷ rest ≡ seen → happenings_before next events seen
      ≡ Acts (plainly_at joins.token.place) Action.Else ∷ Takes joins.token joins.behind ∷ happenings_before next late rest
      → BodyText limits next rest late → ElseText limits next seen events

else_with : (limits : Limits) (n : ℕ) → Below limits n → (next : Place) (seen : List Seen) (events : List (Event Action))
    → IsText grammar (Part.DO_ELSE ∷ Part.WORD_ELSE ∷ Part.STATEMENT ∷ Part.DO_CLOSE ∷
    []) (atoms_of seen) events → AreAll seen → length seen + 1 < 4294967295
    → length seen ≤ n → ElseText limits next seen events
else_with limits n below next seen events text are_seen few fewer =
    let e = act_first Action.Else (Part.WORD_ELSE ∷ Part.STATEMENT ∷ Part.DO_CLOSE ∷ []) seen events text in
    let t = token_first (Part.STATEMENT ∷ Part.DO_CLOSE ∷ []) seen e.late e.text in
    let count : suc (length t.rest) ≡ length seen = ap length t.same in
    let all = moved_seen (sym t.same) are_seen in
    With t.s t.rest t.late t.same
    (e.happen next
    ∙ (ap (λ x. Acts (plainly_at x) Action.Else ∷ happenings_before next e.late seen) (t.place next)
    ∙ ap (λ l. Acts (plainly_at t.s.token.place) Action.Else ∷ l) (t.happen next)))
    (body_text limits n below next t.rest t.late t.text all.1 (omega (arith, few, count)) (omega (arith, fewer, count)))

else_text : (limits : Limits) (n : ℕ) → Below limits n → (next : Place) (seen : List Seen) (events : List (Event Action))
    → IsText grammar (Part.ELSE_PART ∷ []) (atoms_of seen) events → AreAll seen → length seen + 1 < 4294967295
    → length seen ≤ n → ElseText limits next seen events
unfolding grammar
else_text limits n below next seen events text are_seen few fewer = by_rows (ElseText limits next seen events) (number Part.ELSE_PART) (
  (λ t. else_with limits n below next seen events t are_seen few fewer),
  ((λ t. let c = closed_text seen events t in Without c.none (c.happen next)), tt),
) text

abbrev if_front : List (Symbol Action)
if_front = Part.OPEN_PARENTHESIS ∷ Part.DO_BEGIN ∷ Part.DO_OUTER ∷ Part.EXPRESSION ∷ Part.DO_END_IF ∷ Part.CLOSE_PARENTHESIS ∷ []

-- the parts of an `if` before its end
record IfText (limits : Limits) (n : ℕ) (stands : Standing) (next : Place) (seen : List Seen) (events : List (Event Action)) : Type 0 where
  wd : Worded limits stands (Part.IF_REST ∷ []) seen events
  former : List (Event Action)
  opened_first : (next : Place) → happenings_before next wd.late wd.rest
      ≡ Acts (plainly_at (place_before wd.rest next)) Action.OpenIf ∷ happenings_before next former wd.rest
  test : BracketedText limits Action.EndIf (Part.STATEMENT ∷ Part.ELSE_PART ∷ []) wd.rest former
  parts : PartsOf (Part.STATEMENT ∷ []) (Part.ELSE_PART ∷ []) test.rest test.late
  body : IsTree false limits (place_before parts.rest next) parts.front parts.early
  seen_rest : AreAll parts.rest
  few : length parts.rest + 1 < 4294967295
  fewer : length parts.rest ≤ n

if_text : (limits : Limits) (n : ℕ) → Below limits n → (stands : Standing) (next : Place) (seen : List Seen)
    (events : List (Event Action)) → (wd : Worded limits stands (Part.IF_REST ∷ []) seen events)
    → IsText grammar (Part.DO_OPEN_IF ∷ (if_front ++ Part.STATEMENT ∷ Part.ELSE_PART ∷ [])) (atoms_of wd.rest) wd.late
    → AreAll seen → length seen + 1 < 4294967295 → length seen ≤ suc n → IfText limits n stands next seen events
if_text limits n below stands next seen events wd text are_seen few fewer =
    let all = moved_seen (sym wd.same) are_seen in
    let count : suc (length wd.rest) ≡ length seen = ap length wd.same in
    let o = act_first Action.OpenIf (if_front ++ Part.STATEMENT ∷ Part.ELSE_PART ∷ []) wd.rest wd.late text in
    let t = bracketed_text limits Action.EndIf (Part.STATEMENT ∷ Part.ELSE_PART ∷
    []) wd.rest o.late o.text all.1 (omega (arith, few, count)) in
    let p = parts_of (Part.STATEMENT ∷ []) (Part.ELSE_PART ∷ []) t.rest t.late t.text in
    let seen_parts_2 = seen_parts p.front p.rest (moved_seen (sym p.same) t.seen_rest) in
    record {
      wd = wd;
      former = o.late;
      opened_first = o.happen;
      test = t;
      parts = p;
      body = below (place_before p.rest next) p.front p.early p.of_front seen_parts_2.0 (omega (arith, few, count, t.fewer, p.count))
          (omega (arith, fewer, count, t.fewer, p.count));
      seen_rest = seen_parts_2.1;
      few = omega (arith, few, count, t.fewer, p.count);
      fewer = omega (arith, fewer, count, t.fewer, p.count);
    }

if_happen : {limits : Limits} {n : ℕ} {stands : Standing} {next : Place} {seen : List Seen} {events : List (Event Action)}
    (i : IfText limits n stands next seen events)
    → happenings_before next events seen
    ≡ word_happens stands i.wd.word
    ++ Acts (opening_of i.test.tree) Action.OpenIf
    ∷ (test_happens i.test ++ (happenings i.body.nested ++ happenings_before next i.parts.late i.parts.rest))
if_happen {stands = stands} {next} i = i.wd.happen next ∙ ap (λ l. word_happens stands i.wd.word ++ l) (i.opened_first next
    ∙ (ap (λ x. Acts (plainly_at x) Action.OpenIf ∷ happenings_before next i.former i.wd.rest) (i.test.place next)
    ∙ ap (λ l. Acts (opening_of i.test.tree) Action.OpenIf ∷ l) (test_happen i.test next
    ∙ ap (λ l. test_happens i.test ++ l) (i.parts.happen next
    ∙ ap (λ l. l ++ happenings_before next i.parts.late i.parts.rest) (sym i.body.same)))))

if_by : {b : Bool} (limits : Limits) (n : ℕ) (stands : Standing) (next : Place) (seen : List Seen) (events : List (Event Action))
    → (i : IfText limits n stands next seen events) → ElseText limits next i.parts.rest i.parts.late → IsTree b limits next seen events
if_by {b} limits n stands next seen events i (Without none happen) =
    let q : Quiet = record { all = test_happens i.test; are = test_quiet i.test refl } in
    let opens = opening_of i.test.tree in
    let closes = plainly_at next in
    let word = word_happens stands i.wd.word in
    let body : i.parts.front ≡ i.test.rest = sym (append-nil i.parts.front) ∙ (ap (λ l. i.parts.front ++ l) (sym none) ∙ i.parts.same) in
    record {
      tree = IfTree stands i.wd.word i.test.tree i.body.tree;
      all = ap (λ l. i.wd.word ∷ (bracketed_seen i.test.tree ++ l)) (i.body.all ∙ body) ∙ (ap (λ l. i.wd.word ∷ l) i.test.same ∙ i.wd.same);
      written = (i.test.written, i.body.written);
      nested = After (Plain (word_quiet i.wd)) (If opens q i.body.nested closes);
      same = sym (if_happen i
          ∙ ap (λ l. word ++ Acts opens Action.OpenIf ∷ (test_happens i.test ++ (happenings i.body.nested ++ l))) happen);
      lays = λ effects context w ahead none.
          let v = word_done limits context stands i.wd.word w in
          let c = opened limits Kind.If v.output in
          let x = opened_at context opens c v in
          let y = bracketed_done limits context Action.EndIf i.test.tree x in
          let inner = put effects i.body.nested in
          let holding_body = IfTree stands i.wd.word i.test.tree (with_effects effects i.body.tree).0 in
          with_behind limits context (next_effect inner.1) holding_body w next
          (λ at. laid {b = b} limits context (After (Plain (word_quiet i.wd)) (If opens q inner.0 at)) w) (λ m. refl)
          (ap (laid {b = b} limits context (If opens q inner.0 closes)) (i.wd.runs context w)
          ∙ (ap (λ z. ended_as limits closes c.0 v.constructs (laid limits context inner.0 z)) (test_runs i.test context x)
          ∙ ap (λ z. ended_as limits closes c.0 v.constructs z)
          (i.body.lays effects context y (test_closed i.test refl context x (word_closed i.wd context w ahead)) refl)))
          ∙ ap (λ r. tree_laid limits context (with_effect (next_effect r) holding_body) w) (i.body.rests effects);
      rests = λ effects. ap later_effects (i.body.rests effects);
    }
if_by {b} limits n stands next seen events i (With joins rest late same happen other) =
    let q : Quiet = record { all = test_happens i.test; are = test_quiet i.test refl } in
    let word_2 : Quiet = record { all = Takes joins.token joins.behind ∷ []; are = refl } in
    let opens = opening_of i.test.tree in
    let at = plainly_at joins.token.place in
    let closes = plainly_at next in
    let word = word_happens stands i.wd.word in
    record {
      tree = ElseTree stands i.wd.word i.test.tree i.body.tree joins other.tree;
      all = ap (λ l. i.wd.word ∷ (bracketed_seen i.test.tree ++ (l ++ joins ∷ tree_seen other.tree))) i.body.all
          ∙ (ap (λ l. i.wd.word ∷ (bracketed_seen i.test.tree ++ (i.parts.front ++ joins ∷ l))) other.all
          ∙ (ap (λ l. i.wd.word ∷ (bracketed_seen i.test.tree ++ (i.parts.front ++ l))) same
          ∙ (ap (λ l. i.wd.word ∷ (bracketed_seen i.test.tree ++ l)) i.parts.same
          ∙ (ap (λ l. i.wd.word ∷ l) i.test.same ∙ i.wd.same))));
      written = (i.test.written, (i.body.written, other.written));
      nested = After (Plain (word_quiet i.wd)) (IfElse opens q i.body.nested at word_2 other.nested closes);
      same = sym (if_happen i ∙ ap (λ l. word ++ Acts opens Action.OpenIf ∷ (test_happens i.test ++ (happenings i.body.nested ++ l)))
          (happen ∙ ap (λ l. Acts at Action.Else ∷ Takes joins.token joins.behind ∷ l) other.happen));
      lays = λ effects context w ahead none.
          let v = word_done limits context stands i.wd.word w in
          let c = opened limits Kind.If v.output in
          let x = opened_at context opens c v in
          let y = bracketed_done limits context Action.EndIf i.test.tree x in
          let tested = test_closed i.test refl context x (word_closed i.wd context w ahead) in
          let inner = put effects i.body.nested in
          let inner_tree = with_effects effects i.body.tree in
          let two = put inner.1 other.nested in
          let two_tree = with_effects inner.1 other.tree in
          let behind = λ (z : Compilation). let joined = between limits c.0 z.output in
          ended_as limits closes joined.0 v.constructs
          (laid limits context two.0 (token_done context joins (holding at joined v.constructs z))) in
          let former = tree_laid limits context inner_tree.0 y in
          let holding_both = λ (r : Effects). ElseTree stands i.wd.word i.test.tree inner_tree.0 joins (with_effects r other.tree).0 in
          let joined = between limits c.0 former.output in
          let last = token_done context joins (holding at joined v.constructs former) in
          let last_open = (quiet_run limits context word_2.all (holding at joined v.constructs former) refl).1
          ∙ tree_closed limits (place_before i.parts.rest next) i.parts.front i.parts.early i.body effects context y tested refl in
          with_behind limits context (next_effect two.1) (holding_both inner.1) w next
          (λ moment. laid {b = b} limits context (After (Plain (word_quiet i.wd)) (IfElse opens q inner.0 at word_2 two.0 moment)) w)
          (λ m. refl)
          (ap (laid {b = b} limits context (IfElse opens q inner.0 at word_2 two.0 closes)) (i.wd.runs context w)
          ∙ (ap (λ z. behind (laid limits context inner.0 z)) (test_runs i.test context x)
          ∙ (ap behind (i.body.lays effects context y tested refl)
          ∙ ap (λ z. ended_as limits closes joined.0 v.constructs z) (other.lays inner.1 context last last_open refl))))
          ∙ (ap (λ r. tree_laid limits context (with_effect (next_effect r) (holding_both inner.1)) w) (other.rests inner.1)
          ∙ ap (λ r. tree_laid limits context (with_effect (next_effect (with_effects r other.tree).1) (holding_both r)) w)
          (i.body.rests effects));
      rests = λ effects. ap later_effects (other.rests (put effects i.body.nested).1)
          ∙ ap (λ r. later_effects (with_effects r other.tree).1) (i.body.rests effects);
    }

pub if_tree : {b : Bool} (limits : Limits) (n : ℕ) → Below limits n → (stands : Standing) (next : Place) (seen : List Seen)
    (events : List (Event Action)) → IsText grammar (before_word stands ++ Part.WORD_IF ∷ Part.IF_REST ∷ []) (atoms_of seen) events
    → AreAll seen → length seen + 1 < 4294967295 → length seen ≤ suc n → IsTree b limits next seen events
unfolding grammar
if_tree {b} limits n below stands next seen events text are_seen few fewer =
    let wd = worded limits stands _ (Part.IF_REST ∷ []) seen events text in
    by_rows (IsTree b limits next seen events) (number Part.IF_REST) (
      (λ t. let i = if_text limits n below stands next seen events wd t are_seen few fewer in
          if_by limits n stands next seen events i
          (else_text limits n below next i.parts.rest i.parts.late i.parts.of_rest i.seen_rest i.few i.fewer)),
      tt,
    )
    wd.text
