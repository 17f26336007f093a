-- Each statement is a tree, and so is each item of a `switch`.
use Rattle.std.proofs.Common.{◌≡◌, ℕ, zero, suc, ◌+◌, ◌≤◌, ◌<◌, List, [], ◌∷◌, length, Bool, true, false, arith}
use Rattle.inf_scanner.specs.declared.tokens.Place.{Place}
use Rattle.inf_settings.specs.Bounds.{Limits}
use Rattle.inf_machine.specs.declared.symbols.Symbol.{Symbol}
use Rattle.inf_machine.specs.Grammar.{Event, IsOneOf, IsText, first, later}
use Rattle.inf_syntax.specs.{declared.actions.Action.Action}
use Rattle.inf_syntax.specs.declared.parts.names.TheConstants as Part
use Rattle.inf_grammar.specs.Language.{grammar}
use Rattle.inf_statement_laws.specs.Readings.{Seen}
use Rattle.inf_language.specs.Texts.{atoms_of}
use Rattle.inf_trees.specs.Statements.{holding}
use Rattle.inf_trees.proofs.StatementsRead.{begun_unit}
use Rattle.inf_trees.proofs.ItemTexts.{ABlock, ACase, AUnit, Holds, ItemText, first_case_text, statement_text, switch_item_text}
use Rattle.inf_routine_trees.specs.Bodies.{Inner, OfSwitch, Standing, StatementsAreLaidAsTrees}
use Rattle.inf_routine_trees.proofs.{CaseTrees.case_tree, Endings.end_so, ForLoops.for_tree, Lists.one_at_least, Loops.block_tree}
use Rattle.inf_routine_trees.proofs.{Loops.do_tree, Loops.statement_ends, ObjectLoops.loop_tree, Pieces.before_word, Switches.first_ends}
use Rattle.inf_routine_trees.proofs.{Switches.switch_ends, Switches.switch_tree}
use Rattle.inf_routine_trees.proofs.Trees.{AreAll, Below, IsTree, OfSymbol, if_tree, plain_runs, simple_tree, while_tree}

-- Texts of at most `n` tokens are trees.
pub record Smaller (limits : Limits) (n : ℕ) : Type 0 where
  pub statements : Below limits n
  pub items : OfSymbol true Part.SWITCH_ITEM limits n
  pub first_cases : OfSymbol true Part.FIRST_CASE limits n

module _ (limits : Limits) (n : ℕ) (below : Smaller limits n) (next : Place) (seen : List Seen) (events : List (Event Action))
    (are_seen : AreAll seen) (few : length seen + 1 < 4294967295) (fewer : length seen ≤ suc n) where
  holding_tree : {b : Bool} (stands : Standing) (symbols : List (Symbol Action)) → IsOneOf symbols (holding (before_word stands))
      → IsText grammar symbols (atoms_of seen) events → IsTree b limits next seen events
  holding_tree stands _ first text = if_tree limits n below.statements stands next seen events text are_seen few fewer
  holding_tree stands _ (later first) text = while_tree limits n below.statements stands next seen events text are_seen few fewer
  holding_tree stands _ (later (later first)) text = do_tree limits n below.statements stands next seen events text are_seen few fewer
  holding_tree stands _ (later (later (later first))) text =
      for_tree limits n below.statements stands next seen events text are_seen few fewer
  holding_tree stands _ (later (later (later (later first)))) text =
      loop_tree limits n below.statements stands next seen events text are_seen few fewer
  holding_tree stands _ (later (later (later (later (later first))))) text =
      switch_tree limits n below.items below.first_cases stands next seen events text are_seen few fewer
  holding_tree stands _ (later (later (later (later (later (later missing)))))) text = elim missing [ ]

  pub item_tree : {cases : Bool} (stands : Standing) → ItemText (before_word stands) (atoms_of seen) events cases
      → IsTree cases limits next seen events
  item_tree stands (AUnit symbols typed small kind text) =
      simple_tree limits next seen events (begun_unit limits symbols typed small seen events kind text) are_seen few
  item_tree stands (ABlock text) = block_tree limits n below.statements next seen events text are_seen few fewer
  item_tree stands (Holds symbols is text) = holding_tree stands symbols is text
  item_tree stands (ACase start symbols is typed kind text) = case_tree is limits next symbols typed kind seen text are_seen few

none_less : (n : ℕ) → 1 ≤ n → n ≤ 0 → ⊥
none_less n one none = omega (arith, one, none)

no_text : {b : Bool} (limits : Limits) (symbol : Symbol Action) → end_so false (symbol ∷ []) ≡ true → OfSymbol b symbol limits 0
no_text limits symbol ends next seen events text are_seen few fewer =
    absurd (none_less (length seen) (one_at_least symbol ends seen events text) fewer)

pub smaller : (limits : Limits) (n : ℕ) → Smaller limits n
smaller limits zero = record {
  statements = no_text limits Part.STATEMENT statement_ends;
  items = no_text limits Part.SWITCH_ITEM switch_ends;
  first_cases = no_text limits Part.FIRST_CASE first_ends;
}
smaller limits (suc n) =
    let below = smaller limits n in
    record {
      statements = λ next seen events text are_seen few fewer.
          item_tree limits n below next seen events are_seen few fewer Inner (statement_text limits seen events text);
      items = λ next seen events text are_seen few fewer.
          item_tree limits n below next seen events are_seen few fewer OfSwitch (switch_item_text limits seen events text);
      first_cases = λ next seen events text are_seen few fewer.
          item_tree limits n below next seen events are_seen few fewer OfSwitch (first_case_text limits seen events text);
    }

pub statements_are_laid_as_trees : (limits : Limits) → StatementsAreLaidAsTrees limits
statements_are_laid_as_trees limits next seen events text are_seen few =
    let t = (smaller limits (length seen)).statements next seen events text are_seen few (omega arith) in
    record {
      tree = t.tree;
      same = t.all;
      written = t.written;
      does = λ context w ahead none. plain_runs limits next seen events t context w ahead none;
    }
