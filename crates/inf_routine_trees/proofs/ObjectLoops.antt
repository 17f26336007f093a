-- A loop over objects is a tree.
use Rattle.std.proofs.Common.{◌≡◌, ℕ, suc, ◌+◌, ◌≤◌, ◌<◌, List, [], ◌∷◌, ◌++◌, length, Bool, refl, sym, ◌∙◌, ap, append_assoc, arith}
use Rattle.inf_scanner.specs.declared.tokens.Place.{Place}
use Rattle.inf_settings.specs.Bounds.{Limits}
use Rattle.inf_machine.specs.{Grammar.Event, Grammar.IsText, declared.symbols.Symbol.Symbol}
use Rattle.inf_syntax.specs.declared.actions.Action.{Action}
use Rattle.inf_syntax.specs.declared.parts.names.TheConstants as Part
use Rattle.inf_grammar.specs.Language.{grammar}
use Rattle.inf_unit.specs.Units.{Unit as UnitAtHand, no_unit}
use Rattle.inf_constructs.specs.{Constructs.between, Constructs.opened, declared.constructs.Kind.Kind, declared.constructs.Over.Over}
use Rattle.inf_compilation.specs.Actions.{Compilation}
use Rattle.inf_reader.specs.Acting.{act}
use Rattle.inf_statement_laws.specs.{Nested.Objectloop, Nested.Plain, Nested.Then as After, Readings.Seen, Readings.plainly_at}
use Rattle.inf_statement_laws.specs.Happenings.{Acts, Happening, Quiet, Takes}
use Rattle.inf_statement_laws.specs.Laid.{ended_as, holding, laid, opened_at, run, with_kind_in}
use Rattle.inf_statement_laws.proofs.{Acts.inside_act, Acts.quiet_run, Acts.took_none, Rules.number}
use Rattle.inf_language.specs.Texts.{atoms_of, happenings_before}
use Rattle.inf_trees.specs.Trees.{all_seen}
use Rattle.inf_trees.proofs.{RuleRows.by_rows, StatementsRead.bracketed_units_are_trees, Symbols.act_first, Symbols.parts_of}
use Rattle.inf_trees.proofs.{Symbols.token_first, UnitsRead.seen_parts}
use Rattle.inf_routine_trees.specs.Bodies.{Bracketed, Objectloop as LoopTree, Standing, later_effects, next_effect, opening_of, token_done}
use Rattle.inf_routine_trees.specs.Bodies.{tree_laid, unit_done, with_effect, with_effects, word_done}
use Rattle.inf_routine_trees.proofs.Effects.{put, with_behind}
use Rattle.inf_routine_trees.proofs.Pieces.{Worded, before_word, quiet_text, unit_quiet, unit_symbols, word_happens, worded}
use Rattle.inf_routine_trees.proofs.Trees.{AreAll, Below, IsTree, body_text, moved_seen, word_closed, word_quiet}

abbrev behind_unit : List (Symbol Action)
behind_unit = Part.DO_END_OBJECTLOOP ∷ Part.DO_LOOP ∷ Part.CLOSE_PARENTHESIS ∷ Part.STATEMENT ∷ Part.DO_CLOSE ∷ []

abbrev loop_symbols : List (Symbol Action)
loop_symbols = Part.OPEN_PARENTHESIS ∷ (unit_symbols ++ behind_unit)

loop_row_tree : {b : Bool} (limits : Limits) (n : ℕ) → Below limits n → (stands : Standing) (next : Place) (seen : List Seen)
    (events : List (Event Action)) → (wd : Worded limits stands (Part.OBJECTLOOP_REST ∷ []) seen events)
    → IsText grammar (Part.DO_OPEN_OBJECTLOOP ∷ loop_symbols) (atoms_of wd.rest) wd.late → AreAll seen → length seen + 1 < 4294967295
    → length seen ≤ suc n → IsTree b limits next seen events
loop_row_tree {b} limits n below stands next seen events wd text are_seen few fewer =
    let all = moved_seen (sym wd.same) are_seen in
    let count : suc (length wd.rest) ≡ length seen = ap length wd.same in
    let o = act_first Action.OpenObjectloop loop_symbols wd.rest wd.late text in
    let t = token_first (unit_symbols ++ behind_unit) wd.rest o.late o.text in
    let t_count : suc (length t.rest) ≡ length wd.rest = ap length t.same in
    let seen_1 = moved_seen (sym t.same) all.1 in
    let p = parts_of unit_symbols behind_unit t.rest t.late t.text in
    let seen_2 = seen_parts p.front p.rest (moved_seen (sym p.same) seen_1.1) in
    let e = act_first Action.EndObjectloop (Part.DO_LOOP ∷ Part.CLOSE_PARENTHESIS ∷ Part.STATEMENT ∷ Part.DO_CLOSE ∷
    []) p.rest p.late p.of_rest in
    let l = act_first Action.Loop (Part.CLOSE_PARENTHESIS ∷ Part.STATEMENT ∷ Part.DO_CLOSE ∷ []) p.rest e.late e.text in
    let c = token_first (Part.STATEMENT ∷ Part.DO_CLOSE ∷ []) p.rest l.late l.text in
    let c_count : suc (length c.rest) ≡ length p.rest = ap length c.same in
    let seen_3 = moved_seen (sym c.same) seen_2.1 in
    let place = c.s.token.place in
    let unit = λ (u : UnitAtHand).
    bracketed_units_are_trees limits u p.front p.early p.of_front seen_2.0 (omega (arith, few, count, t_count, p.count, c_count)) in
    let loop : Bracketed = record { bracket = t.s; unit = λ u. (unit u).parts; closing = c.s } in
    let body = body_text limits n below next c.rest c.late c.text seen_3.1 (omega (arith, few, count, t_count, p.count, c_count))
    (omega (arith, fewer, count, t_count, p.count, c_count)) in
    let hs = happenings_before place p.early p.front in
    let q : Quiet = record {
      all = Takes t.s.token t.s.behind ∷ hs;
      are = quiet_text unit_symbols unit_quiet place p.front p.early p.of_front;
    } in
    let closed_quiet : Quiet = record { all = Takes c.s.token c.s.behind ∷ []; are = refl } in
    let opens = opening_of loop in
    let at = plainly_at place in
    let closes = plainly_at next in
    let word = word_happens stands wd.word in
    let front = λ (x : List Happening). Takes t.s.token t.s.behind ∷ (hs ++ x) in
    record {
      tree = LoopTree stands wd.word loop body.tree;
      all = ap (λ x. wd.word ∷ ((t.s ∷ (all_seen (unit no_unit).parts ++ c.s ∷ [])) ++ x)) body.all
          ∙ (ap (λ x. wd.word ∷ t.s ∷ x) (append_assoc (all_seen (unit no_unit).parts) (c.s ∷ []) c.rest
          ∙ (ap (λ x. x ++ c.s ∷ c.rest) (unit no_unit).same ∙ (ap (λ x. p.front ++ x) c.same ∙ p.same)))
          ∙ (ap (λ x. wd.word ∷ x) t.same ∙ wd.same));
      written = ((λ u. (unit u).written), body.written);
      nested = After (Plain (word_quiet wd)) (Objectloop opens q at at closed_quiet body.nested closes);
      same = sym (wd.happen next ∙ ap (λ x. word ++ x) (o.happen next
          ∙ (ap (λ x. Acts (plainly_at x) Action.OpenObjectloop ∷ happenings_before next o.late wd.rest) (t.place next)
          ∙ ap (λ x. Acts opens Action.OpenObjectloop ∷ x) (t.happen next
          ∙ ap (λ x. Takes t.s.token t.s.behind ∷ x) (p.happen next
          ∙ (ap (λ x. happenings_before x p.early p.front ++ happenings_before next p.late p.rest) (c.place next)
          ∙ ap (λ x. hs ++ x) (e.happen next
          ∙ (ap (λ x. Acts (plainly_at x) Action.EndObjectloop ∷ happenings_before next e.late p.rest) (c.place next)
          ∙ ap (λ x. Acts at Action.EndObjectloop ∷ x) (l.happen next
          ∙ (ap (λ x. Acts (plainly_at x) Action.Loop ∷ happenings_before next l.late p.rest) (c.place next)
          ∙ ap (λ x. Acts at Action.Loop ∷ x) (c.happen next
          ∙ ap (λ x. Takes c.s.token c.s.behind ∷ x) body.happen)))))))))));
      lays = λ effects context w ahead none.
          let inner = put effects body.nested in
          let holding_body = LoopTree stands wd.word loop (with_effects effects body.tree).0 in
          let v = word_done limits context stands wd.word w in
          let d = opened limits (Kind.Objects Over.Nothing 0) v.output in
          let x = opened_at context opens d v in
          let runs : run limits context q.all x ≡ unit_done context loop x =
          (unit (token_done context t.s x).unit).does context place (token_done context t.s x) refl in
          let ended = λ (z : Compilation).
          let looped = act limits context place Action.EndObjectloop z in
          let joined = between limits (with_kind_in looped.constructs d.0) looped.output in
          ended_as limits closes joined.0 v.constructs
          (laid limits context inner.0 (token_done context c.s (holding at joined v.constructs looped))) in
          let read = unit_done context loop x in
          let read_closed =
          ap (λ (z : Compilation). z.closed) (sym runs) ∙ ((quiet_run limits context q.all x q.are).1 ∙ word_closed wd context w ahead) in
          let looped = act limits context place Action.EndObjectloop read in
          let joined = between limits (with_kind_in looped.constructs d.0) looped.output in
          let y = holding at joined v.constructs looped in
          with_behind limits context (next_effect inner.1) holding_body w next
          (λ moment. laid {b = b} limits context (After (Plain (word_quiet wd)) (Objectloop opens q at at closed_quiet inner.0 moment)) w)
          (λ m. refl)
          (ap (laid {b = b} limits context (Objectloop opens q at at closed_quiet inner.0 closes)) (wd.runs context w)
          ∙ (ap ended runs
          ∙ ap (λ z. ended_as limits closes joined.0 v.constructs z)
          (body.lays effects context (token_done context c.s y)
          (took_none context c.s.token y ∙ inside_act limits context place Action.EndObjectloop read refl read_closed) refl)))
          ∙ ap (λ r. tree_laid limits context (with_effect (next_effect r) holding_body) w) (body.rests effects);
      rests = λ effects. ap later_effects (body.rests effects);
    }

pub loop_tree : {b : Bool} (limits : Limits) (n : ℕ) → Below limits n → (stands : Standing) (next : Place) (seen : List Seen)
    (events : List (Event Action)) → IsText grammar (before_word stands ++ Part.WORD_OBJECTLOOP ∷ Part.OBJECTLOOP_REST ∷
    []) (atoms_of seen) events
    → AreAll seen → length seen + 1 < 4294967295 → length seen ≤ suc n → IsTree b limits next seen events
unfolding grammar
loop_tree {b} limits n below stands next seen events text are_seen few fewer =
    let wd = worded limits stands _ (Part.OBJECTLOOP_REST ∷ []) seen events text in
    by_rows (IsTree b limits next seen events) (number Part.OBJECTLOOP_REST)
    ((λ t. loop_row_tree limits n below stands next seen events wd t are_seen few fewer), tt) wd.text
