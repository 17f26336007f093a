-- A `switch` is a tree: the value that it is over, and its cases with the statements among them.
use Rattle.std.proofs.Common.{◌≡◌, ℕ, suc, ◌+◌, ◌≤◌, ◌<◌, List, [], ◌∷◌, ◌++◌, length, Bool, true, false, refl, sym, ◌∙◌, ap, append_assoc}
use Rattle.std.proofs.Common.{arith}
use Rattle.inf_scanner.specs.declared.tokens.Place.{Place}
use Rattle.inf_settings.specs.Bounds.{Limits}
use Rattle.inf_machine.specs.{Grammar.Event, Grammar.IsText, declared.symbols.Symbol.Symbol}
use Rattle.inf_syntax.specs.{Rows.row, declared.actions.Action.Action}
use Rattle.inf_syntax.specs.declared.parts.names.TheConstants as Part
use Rattle.inf_grammar.specs.Language.{grammar}
use Rattle.inf_constructs.specs.{Constructs.opened, declared.constructs.Case.Case, declared.constructs.Kind.Kind}
use Rattle.inf_compilation.specs.Actions.{Compilation}
use Rattle.inf_statement_laws.specs.Readings.{Seen, plainly_at}
use Rattle.inf_statement_laws.specs.Happenings.{Acts, Happening, Quiet, Takes}
use Rattle.inf_statement_laws.specs.Laid.{ended_as, laid, opened_at, run, with_kind_in}
use Rattle.inf_statement_laws.specs.Nested.{Plain, Switch, Then as After, happenings}
use Rattle.inf_statement_laws.proofs.{Acts.quiet_run, Laying.run_then, Rules.number}
use Rattle.inf_language.specs.Texts.{atoms_of, happenings_before}
use Rattle.inf_trees.proofs.{RuleRows.Rows, RuleRows.by_rows, Symbols.act_first, Symbols.parts_of, Symbols.token_first}
use Rattle.inf_trees.proofs.{UnitsRead.place_before, UnitsRead.seen_parts}
use Rattle.inf_routine_trees.specs.Bodies.{Standing, Switch as SwitchTree, bracketed_done, bracketed_seen, later_effects, next_effect}
use Rattle.inf_routine_trees.specs.Bodies.{opening_of, token_done, tree_laid, with_effect, with_effects, word_done}
use Rattle.inf_routine_trees.proofs.{Effects.put, Effects.with_behind, Endings.end_so, Endings.ends}
use Rattle.inf_routine_trees.proofs.Lists.{IsList, items_by, list_trees, no_items}
use Rattle.inf_routine_trees.proofs.Pieces.{Worded, before_word, bracketed_text, closed_text, quiet-append, test_happen, test_happens}
use Rattle.inf_routine_trees.proofs.Pieces.{test_quiet, test_runs, word_happens, worded}
use Rattle.inf_routine_trees.proofs.Trees.{AreAll, IsTree, OfSymbol, moved_seen, word_closed, word_quiet}

pub switch_ends : end_so false (Part.SWITCH_ITEM ∷ []) ≡ true
unfolding ends
switch_ends = refl

pub first_ends : end_so false (Part.FIRST_CASE ∷ []) ≡ true
unfolding ends
first_ends = refl

item_rows : Rows Part.SWITCH_REST_2 (row (Part.SWITCH_ITEM ∷ Part.SWITCH_REST_2 ∷ []) ∷ row [] ∷ [])
unfolding grammar
item_rows = refl

abbrev switch_symbols : List (Symbol Action)
switch_symbols = Part.OPEN_PARENTHESIS ∷ Part.DO_BEGIN ∷ Part.DO_OUTER ∷ Part.EXPRESSION ∷ Part.DO_END_SWITCH ∷ Part.CLOSE_PARENTHESIS ∷
    Part.OPEN_BRACE ∷ Part.SWITCH_REST_1 ∷ Part.CLOSE_BRACE ∷
    Part.DO_CLOSE ∷ []

module _ (limits : Limits) (n : ℕ) (items : OfSymbol true Part.SWITCH_ITEM limits n) where
  all_items : OfSymbol true Part.FIRST_CASE limits n → (next : Place) (seen : List Seen) (events : List (Event Action))
      → IsText grammar (Part.SWITCH_REST_1 ∷ []) (atoms_of seen) events → AreAll seen → length seen + 1 < 4294967295 → length seen ≤ n
      → IsList true limits next seen events
  unfolding grammar
  all_items first_cases next seen events text are_seen few fewer =
      by_rows (IsList true limits next seen events) (number Part.SWITCH_REST_1) (
        (λ t. let p = parts_of (Part.FIRST_CASE ∷ []) (Part.SWITCH_REST_2 ∷ []) seen events t in
            let parts = seen_parts p.front p.rest (moved_seen (sym p.same) are_seen) in
            items_by limits Part.FIRST_CASE Part.SWITCH_REST_2 first_ends next seen events p
            (first_cases (place_before p.rest next) p.front p.early p.of_front parts.0 (omega (arith, few, p.count))
            (omega (arith, fewer, p.count)))
            (list_trees limits Part.SWITCH_ITEM switch_ends (number Part.SWITCH_REST_2) item_rows n items (length p.rest) next p.rest
            p.late p.of_rest
            parts.1 (omega (arith, few, p.count)) (omega (arith, fewer, p.count)) (omega arith))),
        ((λ t. no_items limits next seen events t), tt),
      )
      text

  switch_row_tree : {b : Bool} → OfSymbol true Part.FIRST_CASE limits n → (stands : Standing) (next : Place) (seen : List Seen)
      (events : List (Event Action)) → (wd : Worded limits stands (Part.SWITCH_REST ∷ []) seen events)
      → IsText grammar (Part.DO_OPEN_SWITCH ∷ switch_symbols) (atoms_of wd.rest) wd.late → AreAll seen → length seen + 1 < 4294967295
      → length seen ≤ suc n → IsTree b limits next seen events
  switch_row_tree {b} first_cases stands next seen events wd text are_seen few fewer =
      let all = moved_seen (sym wd.same) are_seen in
      let count : suc (length wd.rest) ≡ length seen = ap length wd.same in
      let o = act_first Action.OpenSwitch switch_symbols wd.rest wd.late text in
      let t = bracketed_text limits Action.EndSwitch (Part.OPEN_BRACE ∷ Part.SWITCH_REST_1 ∷ Part.CLOSE_BRACE ∷ Part.DO_CLOSE ∷
      []) wd.rest o.late o.text all.1
      (omega (arith, few, count)) in
      let br = token_first (Part.SWITCH_REST_1 ∷ Part.CLOSE_BRACE ∷ Part.DO_CLOSE ∷ []) t.rest t.late t.text in
      let br_count : suc (length br.rest) ≡ length t.rest = ap length br.same in
      let behind = moved_seen (sym br.same) t.seen_rest in
      let p = parts_of (Part.SWITCH_REST_1 ∷ []) (Part.CLOSE_BRACE ∷ Part.DO_CLOSE ∷ []) br.rest br.late br.text in
      let parts = seen_parts p.front p.rest (moved_seen (sym p.same) behind.1) in
      let c = token_first (Part.DO_CLOSE ∷ []) p.rest p.late p.of_rest in
      let l = closed_text c.rest c.late c.text in
      let inner = all_items first_cases (place_before p.rest next) p.front p.early p.of_front parts.0
      (omega (arith, few, count, t.fewer, br_count, p.count)) (omega (arith, fewer, count, t.fewer, br_count, p.count)) in
      let brace : List Happening = Takes br.s.token br.s.behind ∷ [] in
      let q : Quiet = record { all = test_happens t ++ brace; are = quiet-append (test_happens t) brace (test_quiet t refl) refl } in
      let closing : Quiet = record { all = Takes c.s.token c.s.behind ∷ []; are = refl } in
      let opens = opening_of t.tree in
      let closes = plainly_at next in
      let word = word_happens stands wd.word in
      let last : List Happening = Takes c.s.token c.s.behind ∷ Acts closes Action.Close ∷ [] in
      record {
        tree = SwitchTree stands wd.word t.tree br.s inner.list.tree c.s;
        all = ap (λ x. wd.word ∷ (bracketed_seen t.tree ++ br.s ∷ (x ++ c.s ∷ []))) inner.list.all
            ∙ (ap (λ x. wd.word ∷ (bracketed_seen t.tree ++ br.s ∷ (p.front ++ c.s ∷ x))) (sym l.none)
            ∙ (ap (λ x. wd.word ∷ (bracketed_seen t.tree ++ br.s ∷ (p.front ++ x))) c.same
            ∙ (ap (λ x. wd.word ∷ (bracketed_seen t.tree ++ br.s ∷ x)) p.same
            ∙ (ap (λ x. wd.word ∷ (bracketed_seen t.tree ++ x)) br.same ∙ (ap (λ x. wd.word ∷ x) t.same ∙ wd.same)))));
        written = (t.written, inner.list.written);
        nested = After (Plain (word_quiet wd)) (Switch opens q inner.list.nested closing closes);
        same = sym (wd.happen next ∙ ap (λ x. word ++ x) (o.happen next
            ∙ (ap (λ x. Acts (plainly_at x) Action.OpenSwitch ∷ happenings_before next o.late wd.rest) (t.place next)
            ∙ ap (λ x. Acts opens Action.OpenSwitch ∷ x) (test_happen t next
            ∙ (ap (λ x. test_happens t ++ x) (br.happen next
            ∙ ap (λ x. Takes br.s.token br.s.behind ∷ x) (p.happen next
            ∙ (ap (λ x. x ++ happenings_before next p.late p.rest) (sym inner.list.same)
            ∙ ap (λ x. happenings inner.list.nested ++ x) (c.happen next ∙ ap (λ x. Takes c.s.token c.s.behind ∷ x) (l.happen next)))))
            ∙ sym (append_assoc (test_happens t) brace (happenings inner.list.nested ++ last)))))));
        rests = λ effects. ap later_effects (inner.list.rests effects);
        lays = λ effects context w ahead none.
            let cases = put effects inner.list.nested in
            let holding_cases = SwitchTree stands wd.word t.tree br.s (with_effects effects inner.list.tree).0 c.s in
            let v = word_done limits context stands wd.word w in
            let d = opened limits (Kind.Switch Case.Nothing false) v.output in
            let x = opened_at context opens d v in
            let y = token_done context br.s (bracketed_done limits context Action.EndSwitch t.tree x) in
            let reads : run limits context q.all x ≡ y =
            run_then limits context (test_happens t) brace x ∙ ap (token_done context br.s) (test_runs t context x) in
            let y_closed = ap (λ (z : Compilation). z.closed) (sym reads)
            ∙ ((quiet_run limits context q.all x q.are).1 ∙ word_closed wd context w ahead) in
            let ended = λ (z : Compilation). let inside = token_done context c.s z in
            ended_as limits closes (with_kind_in inside.constructs d.0) v.constructs inside in
            with_behind limits context (next_effect cases.1) holding_cases w next
            (λ moment. laid {b = b} limits context (After (Plain (word_quiet wd)) (Switch opens q cases.0 closing moment)) w) (λ m. refl)
            (ap (laid {b = b} limits context (Switch opens q cases.0 closing closes)) (wd.runs context w)
            ∙ (ap (λ z. ended (laid limits context cases.0 z)) reads ∙ ap ended (inner.list.lays effects context y y_closed refl)))
            ∙ ap (λ r. tree_laid limits context (with_effect (next_effect r) holding_cases) w) (inner.list.rests effects);
      }

  pub switch_tree : {b : Bool} → OfSymbol true Part.FIRST_CASE limits n → (stands : Standing) (next : Place) (seen : List Seen)
      (events : List (Event Action)) → IsText grammar (before_word stands ++ Part.WORD_SWITCH ∷ Part.SWITCH_REST ∷
      []) (atoms_of seen) events
      → AreAll seen → length seen + 1 < 4294967295 → length seen ≤ suc n → IsTree b limits next seen events
  unfolding grammar
  switch_tree {b} first_cases stands next seen events text are_seen few fewer =
      let wd = worded limits stands _ (Part.SWITCH_REST ∷ []) seen events text in
      by_rows (IsTree b limits next seen events) (number Part.SWITCH_REST)
      ((λ t. switch_row_tree first_cases stands next seen events wd t are_seen few fewer), tt) wd.text
