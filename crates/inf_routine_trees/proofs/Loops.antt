-- A `do` and a block are trees.
use Rattle.std.proofs.Common.{◌≡◌, ℕ, suc, ◌+◌, ◌≤◌, ◌<◌, List, [], ◌∷◌, ◌++◌, length, Bool, true, false, refl, sym, ◌∙◌, ap, append_assoc}
use Rattle.std.proofs.Common.{arith}
use Rattle.inf_scanner.specs.declared.tokens.Place.{Place}
use Rattle.inf_settings.specs.Bounds.{Limits}
use Rattle.inf_machine.specs.{Grammar.Event, Grammar.IsText, declared.symbols.Symbol.Symbol}
use Rattle.inf_syntax.specs.{Rows.row, declared.actions.Action.Action}
use Rattle.inf_syntax.specs.declared.parts.names.TheConstants as Part
use Rattle.inf_grammar.specs.Language.{grammar}
use Rattle.inf_constructs.specs.{Constructs.between, Constructs.opened, declared.constructs.Kind.Kind}
use Rattle.inf_compilation.specs.Actions.{Compilation}
use Rattle.inf_statement_laws.specs.Readings.{Seen, plainly_at}
use Rattle.inf_statement_laws.specs.Happenings.{Acts, Happening, Moment, Quiet, Takes}
use Rattle.inf_statement_laws.specs.Laid.{ended_as, holding, laid, opened_at, run}
use Rattle.inf_statement_laws.specs.Nested.{Do, Nested, Plain, Then as After, happenings}
use Rattle.inf_statement_laws.proofs.{Acts.quiet_run, Laying.run_then, Rules.number}
use Rattle.inf_language.specs.Texts.{atoms_of, happenings_before}
use Rattle.inf_trees.proofs.{RuleRows.Rows, RuleRows.by_rows, UnitsRead.place_before, UnitsRead.seen_parts}
use Rattle.inf_trees.proofs.Symbols.{act_first, nothing_left, parts_of, token_first}
use Rattle.inf_routine_trees.specs.Bodies.{Block, Do as DoTree, Standing, bracketed_done, bracketed_seen, later_effects, moment_before}
use Rattle.inf_routine_trees.specs.Bodies.{next_effect, opening_of, token_done, tree_laid, tree_seen, with_effect, with_effects, word_done}
use Rattle.inf_routine_trees.proofs.{Endings.end_so, Endings.ends, Lists.list_trees}
use Rattle.inf_routine_trees.proofs.Effects.{Effects, effects_seen, put, with_behind}
use Rattle.inf_routine_trees.proofs.Pieces.{Worded, before_word, bracketed_text, closed_text, quiet-append, test_happen, test_happens}
use Rattle.inf_routine_trees.proofs.Pieces.{test_quiet, test_runs, word_happens, worded}
use Rattle.inf_routine_trees.proofs.Trees.{AreAll, Below, IsTree, moved_seen, word_closed, word_quiet}
use Rattle.inf_routine_trees.proofs.Wider.{wider, wider_laid, wider_put, wider_same}

pub statement_ends : end_so false (Part.STATEMENT ∷ []) ≡ true
unfolding ends
statement_ends = refl

-- Lemmas about a `do`

abbrev until_front : List (Symbol Action)
until_front = Part.OPEN_PARENTHESIS ∷ Part.DO_BEGIN ∷ Part.DO_OUTER ∷ Part.EXPRESSION ∷ Part.DO_END_UNTIL ∷ Part.CLOSE_PARENTHESIS ∷ []

abbrev do_symbols : List (Symbol Action)
do_symbols = Part.STATEMENT ∷ Part.WORD_UNTIL ∷ Part.DO_UNTIL ∷ (until_front ++ Part.SEMICOLON ∷ Part.DO_CLOSE ∷ [])

-- the first token of a body, where there is one, and else that behind it
first_place : (next : Place) (front rest : List Seen) (s : Seen) → place_before rest next ≡ s.token.place
    → plainly_at (place_before (front ++ rest) next) ≡ moment_before front s
first_place next [] rest s is = ap plainly_at is
first_place next (x ∷ front) rest s is = refl

do_row_tree : {b : Bool} (limits : Limits) (n : ℕ) → Below limits n → (stands : Standing) (next : Place) (seen : List Seen)
    (events : List (Event Action)) → (wd : Worded limits stands (Part.DO_REST ∷ []) seen events)
    → IsText grammar (Part.DO_OPEN_DO ∷ do_symbols) (atoms_of wd.rest) wd.late → AreAll seen → length seen + 1 < 4294967295
    → length seen ≤ suc n → IsTree b limits next seen events
do_row_tree {b} limits n below stands next seen events wd text are_seen few fewer =
    let all = moved_seen (sym wd.same) are_seen in
    let count : suc (length wd.rest) ≡ length seen = ap length wd.same in
    let o = act_first Action.OpenDo do_symbols wd.rest wd.late text in
    let p = parts_of (Part.STATEMENT ∷ []) (Part.WORD_UNTIL ∷ Part.DO_UNTIL ∷ (until_front ++ Part.SEMICOLON ∷ Part.DO_CLOSE ∷
    [])) wd.rest o.late o.text in
    let parts = seen_parts p.front p.rest (moved_seen (sym p.same) all.1) in
    let u = token_first (Part.DO_UNTIL ∷ (until_front ++ Part.SEMICOLON ∷ Part.DO_CLOSE ∷ [])) p.rest p.late p.of_rest in
    let behind = moved_seen (sym u.same) parts.1 in
    let u_count : suc (length u.rest) ≡ length p.rest = ap length u.same in
    let j = act_first Action.Until (until_front ++ Part.SEMICOLON ∷ Part.DO_CLOSE ∷ []) u.rest u.late u.text in
    let t = bracketed_text limits Action.EndUntil (Part.SEMICOLON ∷ Part.DO_CLOSE ∷ []) u.rest j.late j.text behind.1
    (omega (arith, few, count, p.count, u_count)) in
    let s = token_first (Part.DO_CLOSE ∷ []) t.rest t.late t.text in
    let c = closed_text s.rest s.late s.text in
    let inner = below (place_before p.rest next) p.front p.early p.of_front parts.0 (omega (arith, few, count, p.count))
    (omega (arith, fewer, count, p.count)) in
    let last : List Happening = Takes s.s.token s.s.behind ∷ [] in
    let q : Quiet = record { all = test_happens t ++ last; are = quiet-append (test_happens t) last (test_quiet t refl) refl } in
    let word_2 : Quiet = record { all = Takes u.s.token u.s.behind ∷ []; are = refl } in
    let opens = moment_before (tree_seen inner.tree) u.s in
    let at = opening_of t.tree in
    let closes = plainly_at next in
    let word = word_happens stands wd.word in
    let closing : List Happening = Acts closes Action.Close ∷ [] in
    let opens_are : plainly_at (place_before wd.rest next) ≡ opens = ap (λ l. plainly_at (place_before l next)) (sym p.same)
    ∙ (first_place next p.front p.rest u.s (u.place next) ∙ ap (λ l. moment_before l u.s) (sym inner.all)) in
    let until_happens : happenings_before next p.late p.rest
    ≡ Takes u.s.token u.s.behind ∷ Acts at Action.Until ∷ (q.all ++ closing) =
    u.happen next
    ∙ ap (λ l. Takes u.s.token u.s.behind ∷ l) (j.happen next
    ∙ (ap (λ x. Acts (plainly_at x) Action.Until ∷ happenings_before next j.late u.rest) (t.place next)
    ∙ ap (λ l. Acts at Action.Until ∷ l) (test_happen t next
    ∙ (ap (λ l. test_happens t ++ l) (s.happen next ∙ ap (λ l. Takes s.s.token s.s.behind ∷ l) (c.happen next))
    ∙ sym (append_assoc (test_happens t) last closing))))) in
    record {
      tree = DoTree stands wd.word inner.tree u.s t.tree s.s;
      all = ap (λ l. wd.word ∷ (l ++ u.s ∷ (bracketed_seen t.tree ++ s.s ∷ []))) inner.all
          ∙ (ap (λ l. wd.word ∷ (p.front ++ u.s ∷ (bracketed_seen t.tree ++ s.s ∷ l))) (sym c.none)
          ∙ (ap (λ l. wd.word ∷ (p.front ++ u.s ∷ (bracketed_seen t.tree ++ l))) s.same
          ∙ (ap (λ l. wd.word ∷ (p.front ++ u.s ∷ l)) t.same
          ∙ (ap (λ l. wd.word ∷ (p.front ++ l)) u.same ∙ (ap (λ l. wd.word ∷ l) p.same ∙ wd.same)))));
      written = (inner.written, t.written);
      nested = After (Plain (word_quiet wd)) (Do opens inner.nested word_2 at q closes);
      same = sym (wd.happen next ∙ ap (λ l. word ++ l) (o.happen next
          ∙ (ap (λ x. Acts x Action.OpenDo ∷ happenings_before next o.late wd.rest) opens_are
          ∙ ap (λ l. Acts opens Action.OpenDo ∷ l) (p.happen next
          ∙ (ap (λ l. l ++ happenings_before next p.late p.rest) (sym inner.same) ∙ ap (λ l. happenings inner.nested ++ l)
          until_happens)))));
      lays = λ effects context w ahead none.
          let body = put effects inner.nested in
          let body_tree = with_effects effects inner.tree in
          let holding_body = DoTree stands wd.word body_tree.0 u.s t.tree s.s in
          let opens_as : opens ≡ moment_before (tree_seen body_tree.0) u.s =
          ap (λ l. moment_before l u.s) (sym (effects_seen effects inner.tree)) in
          let v = word_done limits context stands wd.word w in
          let c = opened limits Kind.Do v.output in
          let x = opened_at context opens c v in
          let v_open = word_closed wd context w ahead in
          let ended = λ (z : Compilation). let joined = between limits c.0 z.output in
          ended_as limits closes joined.0 v.constructs (run limits context q.all (holding at joined v.constructs z)) in
          let former = token_done context u.s (tree_laid limits context body_tree.0 x) in
          let laid_from = λ (from : Moment). let first = token_done context u.s
          (tree_laid limits context body_tree.0 (opened_at context from c v)) in
          let to_test = between limits c.0 first.output in
          ended_as limits at to_test.0 v.constructs
          (token_done context s.s (bracketed_done limits context Action.EndUntil t.tree (holding at to_test v.constructs first))) in
          let joined = between limits c.0 former.output in
          let y = holding at joined v.constructs former in
          with_behind limits context (next_effect body.1) holding_body w next
          (λ moment. laid {b = b} limits context (After (Plain (word_quiet wd)) (Do opens body.0 word_2 at q moment)) w) (λ m. refl)
          (ap (laid {b = b} limits context (Do opens body.0 word_2 at q closes)) (wd.runs context w)
          ∙ (ap (λ z. ended (token_done context u.s z)) (inner.lays effects context x v_open refl)
          ∙ (ap (λ z. ended_as limits closes joined.0 v.constructs z)
          (run_then limits context (test_happens t) last y ∙ ap (token_done context s.s) (test_runs t context y))
          ∙ ap laid_from opens_as)))
          ∙ ap (λ r. tree_laid limits context (with_effect (next_effect r) holding_body) w) (inner.rests effects);
      rests = λ effects. ap later_effects (inner.rests effects);
    }

pub do_tree : {b : Bool} (limits : Limits) (n : ℕ) → Below limits n → (stands : Standing) (next : Place) (seen : List Seen)
    (events : List (Event Action)) → IsText grammar (before_word stands ++ Part.WORD_DO ∷ Part.DO_REST ∷ []) (atoms_of seen) events
    → AreAll seen → length seen + 1 < 4294967295 → length seen ≤ suc n → IsTree b limits next seen events
unfolding grammar
do_tree {b} limits n below stands next seen events text are_seen few fewer =
    let wd = worded limits stands _ (Part.DO_REST ∷ []) seen events text in
    by_rows (IsTree b limits next seen events) (number Part.DO_REST)
    ((λ t. do_row_tree limits n below stands next seen events wd t are_seen few fewer), tt) wd.text

-- Lemmas about statements in braces

block_rows : Rows Part.MARK_STATEMENT_1 (row (Part.STATEMENT ∷ Part.MARK_STATEMENT_1 ∷ []) ∷ row [] ∷ [])
unfolding grammar
block_rows = refl

module _ (limits : Limits) (n : ℕ) (below : Below limits n) where
  pub block_tree : {b : Bool} (next : Place) (seen : List Seen) (events : List (Event Action))
      → IsText grammar (Part.OPEN_BRACE ∷ Part.MARK_STATEMENT_1 ∷ Part.CLOSE_BRACE ∷ []) (atoms_of seen) events → AreAll seen
      → length seen + 1 < 4294967295 → length seen ≤ suc n → IsTree b limits next seen events
  block_tree {b} next seen events text are_seen few fewer =
      let o = token_first (Part.MARK_STATEMENT_1 ∷ Part.CLOSE_BRACE ∷ []) seen events text in
      let all = moved_seen (sym o.same) are_seen in
      let count : suc (length o.rest) ≡ length seen = ap length o.same in
      let p = parts_of (Part.MARK_STATEMENT_1 ∷ []) (Part.CLOSE_BRACE ∷ []) o.rest o.late o.text in
      let parts = seen_parts p.front p.rest (moved_seen (sym p.same) all.1) in
      let c = token_first [] p.rest p.late p.of_rest in
      let e = nothing_left c.rest c.late c.text in
      let place = place_before p.rest next in
      let inner =
      list_trees limits Part.STATEMENT statement_ends (number Part.MARK_STATEMENT_1) block_rows n below n place p.front p.early p.of_front
      parts.0
      (omega (arith, few, count, p.count)) (omega (arith, fewer, count, p.count))
      (omega (arith, fewer, count, p.count)) in
      let front_quiet : Quiet = record { all = Takes o.s.token o.s.behind ∷ []; are = refl } in
      let last_quiet : Quiet = record { all = Takes c.s.token c.s.behind ∷ []; are = refl } in
      record {
        tree = Block o.s inner.list.tree c.s;
        all = ap (λ l. o.s ∷ (l ++ c.s ∷ [])) inner.list.all ∙ (ap (λ l. o.s ∷ (p.front ++ c.s ∷ l)) (sym e.none)
            ∙ (ap (λ l. o.s ∷ (p.front ++ l)) c.same ∙ (ap (λ l. o.s ∷ l) p.same ∙ o.same)));
        written = inner.list.written;
        nested = After (Plain front_quiet) (After (wider b inner.list.nested) (Plain last_quiet));
        same =
            ap (λ l. Takes o.s.token o.s.behind ∷ (l ++ Takes c.s.token c.s.behind ∷ [])) (wider_same b inner.list.nested ∙ inner.list.same)
            ∙ sym (o.happen next
            ∙ ap (λ l. Takes o.s.token o.s.behind ∷ l) (p.happen next
            ∙ ap (λ l. happenings_before place p.early p.front ++ l) (c.happen next
            ∙ ap (λ l. Takes c.s.token c.s.behind ∷ l) (e.happen next))));
        lays = λ effects context w ahead none.
            let x = token_done context o.s w in
            ap (token_done context c.s)
            (ap (λ (y : Nested b × Effects). laid limits context y.0 x) (wider_put b effects inner.list.nested)
            ∙ (wider_laid b limits context (put effects inner.list.nested).0 x
            ∙ inner.list.lays effects context x ((quiet_run limits context front_quiet.all w refl).1 ∙ ahead) refl));
        rests = λ effects. ap (λ (y : Nested b × Effects). y.1) (wider_put b effects inner.list.nested) ∙ inner.list.rests effects;
      }
