-- The body of a routine is a tree: statements, and cases among them.
use Rattle.std.proofs.Common.{◌≡◌, ℕ, ◌+◌, ◌<◌, List, [], ◌∷◌, length, true, false, refl, arith}
use Rattle.inf_scanner.specs.declared.tokens.Place.{Place}
use Rattle.inf_settings.specs.Bounds.{Limits}
use Rattle.inf_machine.specs.Grammar.{Event, IsText}
use Rattle.inf_syntax.specs.{declared.actions.Action.Action}
use Rattle.inf_syntax.specs.declared.parts.names.TheConstants as Part
use Rattle.inf_grammar.specs.Language.{grammar}
use Rattle.inf_statement_laws.specs.Readings.{Seen}
use Rattle.inf_statement_laws.proofs.Rules.{body_rows, number}
use Rattle.inf_language.specs.Texts.{atoms_of}
use Rattle.inf_trees.proofs.ItemTexts.{top_item_text}
use Rattle.inf_routine_trees.specs.Bodies.{AtTop, BodiesAreLaidAsTrees}
use Rattle.inf_routine_trees.proofs.{Endings.end_so, Endings.ends, Lists.list_trees, StatementTrees.item_tree, StatementTrees.smaller}
use Rattle.inf_routine_trees.proofs.Trees.{AreAll, IsTree, OfSymbol, plain_runs}

item_ends : end_so false (Part.TOP_ITEM ∷ []) ≡ true
unfolding ends
item_ends = refl

top_trees : (limits : Limits) (n : ℕ) → OfSymbol true Part.TOP_ITEM limits n
top_trees limits n next seen events text are_seen few fewer =
    item_tree limits (length seen) (smaller limits (length seen)) next seen events are_seen few (omega arith) AtTop
    (top_item_text limits seen events text)

pub body_tree : (limits : Limits) (next : Place) (seen : List Seen) (events : List (Event Action))
    → IsText grammar (Part.DIRECTIVE_2 ∷ []) (atoms_of seen) events → AreAll seen → length seen + 1 < 4294967295
    → IsTree true limits next seen events
body_tree limits next seen events text are_seen few =
    let n = length seen in
    (list_trees limits Part.TOP_ITEM item_ends (number Part.DIRECTIVE_2) body_rows n (top_trees limits n) n next seen events text are_seen
    few
    (omega arith) (omega arith)).list

pub bodies_are_laid_as_trees : (limits : Limits) → BodiesAreLaidAsTrees limits
bodies_are_laid_as_trees limits next seen events text are_seen few =
    let t = body_tree limits next seen events text are_seen few in
    record {
      tree = t.tree;
      same = t.all;
      written = t.written;
      does = λ context w ahead none. plain_runs limits next seen events t context w ahead none;
    }
