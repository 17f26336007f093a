-- Items one behind the other are trees, whichever items they are: statements in braces, and statements and cases in a routine and in a
-- `switch`.
use Rattle.std.proofs.Common.{◌≡◌, ℕ, zero, suc, ◌+◌, ◌≤◌, ◌<◌, List, [], ◌∷◌, ◌++◌, length, Bool, true, false, None, refl, sym, ◌∙◌, ap}
use Rattle.std.proofs.Common.{arith}
use Rattle.inf_scanner.specs.declared.tokens.Place.{Place}
use Rattle.inf_settings.specs.Bounds.{Limits}
use Rattle.inf_machine.specs.{Grammar.Did, Grammar.Event, Grammar.IsText, Grammar.Took, declared.symbols.Symbol.Symbol}
use Rattle.inf_syntax.specs.{Rows.row, declared.actions.Action.Action}
use Rattle.inf_grammar.specs.Language.{grammar}
use Rattle.inf_compilation.specs.{Actions.Compilation, Context.Context}
use Rattle.inf_statement_laws.specs.{Laid.laid, Nested.Plain, Nested.Then as After, Nested.happenings, Readings.Seen}
use Rattle.inf_language.specs.{Texts.atoms_of, Texts.happenings_before, Units.TakeAll}
use Rattle.inf_language.proofs.Derivations.{texts_take_all}
use Rattle.inf_trees.proofs.{RuleRows.of_rows, Symbols.PartsOf, Symbols.nothing_left, Symbols.parts_of, UnitsRead.place_before}
use Rattle.inf_trees.proofs.{UnitsRead.seen_parts}
use Rattle.inf_routine_trees.specs.Bodies.{Nothing, Then, tree_laid, tree_seen, with_effects}
use Rattle.inf_routine_trees.proofs.{Effects.Effects, Effects.put, Endings.end_so, Endings.last_took, Endings.text_ends}
use Rattle.inf_routine_trees.proofs.Trees.{AreAll, IsTree, OfSymbol, moved_seen, tree_closed, tree_opening}

-- a text that ends with a token has one
nonempty : (events : List (Event Action)) (seen : List Seen) → TakeAll events seen → last_took false events ≡ true → 1 ≤ length seen
nonempty [] seen all last = cc
nonempty (Did a ∷ events) seen all last = nonempty events seen all last
nonempty (Took atom ∷ events) [] all last = absurd all
nonempty (Took atom ∷ events) (s ∷ seen) all last = omega arith

pub one_at_least : (item : Symbol Action) → end_so false (item ∷ []) ≡ true → (seen : List Seen) (events : List (Event Action))
    → IsText grammar (item ∷ []) (atoms_of seen) events → 1 ≤ length seen
one_at_least item ends seen events text = nonempty events seen (texts_take_all text seen refl) (text_ends text refl false ends)

-- A list, and the word that no word waits behind it where none waits before it
pub record IsList (b : Bool) (limits : Limits) (next : Place) (seen : List Seen) (events : List (Event Action)) : Type 0 where
  pub list : IsTree b limits next seen events
  pub opening : (effects : Effects) (context : Context) (w : Compilation) → w.closed ≡ 0 → w.opening ≡ None
      → (tree_laid limits context (with_effects effects list.tree).0 w).opening ≡ None

pub no_items : {b : Bool} (limits : Limits) (next : Place) (seen : List Seen) (events : List (Event Action))
    → IsText grammar [] (atoms_of seen) events → IsList b limits next seen events
no_items limits next seen events text =
    let n = nothing_left seen events text in
    record {
      list = record {
        tree = Nothing;
        all = sym n.none;
        written = tt;
        nested = Plain (record { all = []; are = refl });
        same = sym (n.happen next);
        lays = λ effects context w ahead none. refl;
        rests = λ effects. refl;
      };
      opening = λ effects context w ahead none. none;
    }

pub items_by : {b : Bool} (limits : Limits) (item list : Symbol Action) → end_so false (item ∷ []) ≡ true
    → (next : Place) (seen : List Seen)
    (events : List (Event Action)) → (p : PartsOf (item ∷ []) (list ∷ []) seen events)
    → IsTree b limits (place_before p.rest next) p.front p.early → IsList b limits next p.rest p.late → IsList b limits next seen events
items_by limits item list ends next seen events p head rest =
    let place = place_before p.rest next in
    let all = texts_take_all p.of_front p.front refl in
    let last = text_ends p.of_front refl false ends in
    record {
      list = record {
        tree = Then head.tree rest.list.tree;
        all = ap (λ l. l ++ tree_seen rest.list.tree) head.all ∙ (ap (λ l. p.front ++ l) rest.list.all ∙ p.same);
        written = (head.written, rest.list.written);
        nested = After head.nested rest.list.nested;
        same = ap (λ l. l ++ happenings rest.list.nested) head.same
            ∙ (ap (λ l. happenings_before place p.early p.front ++ l) rest.list.same ∙ sym (p.happen next));
        lays = λ effects context w ahead none.
            let x = put effects head.nested in
            let y = with_effects effects head.tree in
            ap (laid limits context (put x.1 rest.list.nested).0) (head.lays effects context w ahead none)
            ∙ (rest.list.lays x.1 context (tree_laid limits context y.0 w)
            (tree_closed limits place p.front p.early head effects context w ahead none)
            (tree_opening limits place p.front p.early head all last effects context w ahead none)
            ∙ ap (λ r. tree_laid limits context (with_effects r rest.list.tree).0 (tree_laid limits context y.0 w)) (head.rests effects));
        rests = λ effects. rest.list.rests (put effects head.nested).1 ∙ ap (λ r. (with_effects r rest.list.tree).1) (head.rests effects);
      };
      opening = λ effects context w ahead none.
          rest.opening (with_effects effects head.tree).1 context (tree_laid limits context (with_effects effects head.tree).0 w)
          (tree_closed limits place p.front p.early head effects context w ahead none)
          (tree_opening limits place p.front p.early head all last effects context w ahead none);
    }

none_less : (rest all one : ℕ) → one + rest ≡ all → 1 ≤ one → all ≤ 0 → ⊥
none_less rest all one count some small = omega (arith, count, some, small)

-- Lists of at most `m` tokens, where items of at most `n` tokens are trees
module _ {b : Bool} (limits : Limits) (item : Symbol Action) (ends : end_so false (item ∷ []) ≡ true) (list : ℕ)
    (rows : grammar.rows_of list ≡ row (item ∷ Symbol.Rule list ∷ []) ∷ row [] ∷ []) (n : ℕ) (items : OfSymbol b item limits n) where
  abbrev Lists : ℕ → Type 0
  Lists m =
      (next : Place) (seen : List Seen) (events : List (Event Action)) → IsText grammar (Symbol.Rule list ∷ []) (atoms_of seen) events
      → AreAll seen → length seen + 1 < 4294967295 → length seen ≤ n → length seen ≤ m → IsList b limits next seen events

  some_items : (m : ℕ) → Lists m → (next : Place) (seen : List Seen) (events : List (Event Action))
      → IsText grammar (item ∷ Symbol.Rule list ∷ []) (atoms_of seen) events → AreAll seen → length seen + 1 < 4294967295
      → length seen ≤ n → length seen ≤ suc m → IsList b limits next seen events
  some_items m lists next seen events text are_seen few fewer small =
      let p = parts_of (item ∷ []) (Symbol.Rule list ∷ []) seen events text in
      let parts = seen_parts p.front p.rest (moved_seen (sym p.same) are_seen) in
      let one = one_at_least item ends p.front p.early p.of_front in
      items_by limits item (Symbol.Rule list) ends next seen events p
      (items (place_before p.rest next) p.front p.early p.of_front parts.0 (omega (arith, few, p.count)) (omega (arith, fewer, p.count)))
      (lists next p.rest p.late p.of_rest parts.1 (omega (arith, few, p.count)) (omega (arith, fewer, p.count))
      (omega (arith, small, one, p.count)))

  no_more : (next : Place) (seen : List Seen) (events : List (Event Action))
      → IsText grammar (item ∷ Symbol.Rule list ∷ []) (atoms_of seen) events → length seen ≤ 0 → IsList b limits next seen events
  no_more next seen events text small =
      let p = parts_of (item ∷ []) (Symbol.Rule list ∷ []) seen events text in
      absurd (none_less (length p.rest) (length seen) (length p.front) p.count (one_at_least item ends p.front p.early p.of_front) small)

  pub list_trees : (m : ℕ) → Lists m
  list_trees zero next seen events text are_seen few fewer small =
      of_rows (IsList b limits next seen events) list (row (item ∷ Symbol.Rule list ∷ []) ∷ row [] ∷ []) (atoms_of seen) events rows
      ((λ t. no_more next seen events t small), ((λ t. no_items limits next seen events t), tt)) text
  list_trees (suc m) next seen events text are_seen few fewer small =
      of_rows (IsList b limits next seen events) list (row (item ∷ Symbol.Rule list ∷ []) ∷ row [] ∷ []) (atoms_of seen) events rows (
        (λ t. some_items m (list_trees m) next seen events t are_seen few fewer small),
        ((λ t. no_items limits next seen events t), tt),
      )
      text
