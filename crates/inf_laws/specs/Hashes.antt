-- No piece ends with a hash.
use Rattle.std.specs.Prelude.{ℕ, List, [], ◌∷◌, ◌++◌}
use Rattle.inf_machine.specs.{Grammar.Event, Grammar.IsText, declared.symbols.Symbol.Symbol}
use Rattle.inf_scanner.specs.declared.tokens.Mark.{Mark}
use Rattle.inf_syntax.specs.{Atoms.mark_atom, declared.actions.Action.Action}
use Rattle.inf_grammar.specs.{Language.grammar, Sources.piece_rule}

abbrev pub NoPieceEndsWithAHash : Type 0
NoPieceEndsWithAHash =
    (front : List ℕ) (events : List (Event Action)) → IsText grammar (Symbol.Rule piece_rule ∷ [])
    (front ++ mark_atom Mark.Hash ∷ []) events → ⊥
