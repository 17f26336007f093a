-- The grammar of the language, and the facts that the machine knows of it.
use Rattle.std.specs.Prelude.{List, ◌++◌}
use Rattle.inf_machine.specs.{Grammar.Grammar, Grammar.Row, Machine.Known}
use Rattle.inf_syntax.specs.{At.number_at, At.rows_at, At.test_at, Classes.classes, declared.actions.Action.Action}
use Rattle.inf_syntax.specs.Table.{rules_1, rules_2, rules_3, rules_4}
use Rattle.inf_grammar.specs.Facts.{beginnings, followers, empties, step_bounds}

abbrev pub rules : List (List (Row Action))
rules = rules_1 ++ rules_2 ++ rules_3 ++ rules_4

unfoldable pub grammar : Grammar Action
grammar = record { atoms_of = λ class. number_at classes class; rows_of = λ rule. rows_at rules rule }

unfoldable pub known : Known
known = record {
  begins = λ rule. number_at beginnings rule;
  follows = λ rule. number_at followers rule;
  is_empty = λ rule. test_at empties rule;
  steps = λ rule. number_at step_bounds rule;
}
