-- The code of statements that print.
use Rattle.std.specs.Prelude.{List, [], ◌∷◌, Bool, true, false, None}
use Rattle.inf_settings.specs.Bounds.{Limits}
use Rattle.inf_characters.specs.declared.characters.CharSet.{CharSet}
use Rattle.inf_opcode.specs.declared.opcodes.Opcode.{Opcode}
use Rattle.inf_expressions.specs.Trees.{Tree}
use Rattle.inf_output.specs.{Output.Code, Output.nothing, Output.◌▸◌, declared.veneer.Veneer.Veneer}
use Rattle.inf_templates.specs.{Meaning.meaning, Meaning.part, Parts.call, Parts.call_routine}
use Rattle.inf_unit.specs.{Tokens.SourceToken, declared.items.Item.Item, declared.items.PrintRule.PrintRule}
use Rattle.inf_statements.specs.Statements.{one_worked, plain, printed, rest}
use Rattle.inf_operands.specs.Texts.{text_at}

-- The items of a statement are printed in order. The last text of `print_ret` is an instruction of its own; behind any other last item a
-- new line comes, and 1 is returned.
abbrev pub text_opcode : Bool → List Item → Opcode
text_opcode true [] = Opcode.PrintRet
text_opcode _ _ = Opcode.Print

abbrev pub ended : Limits → Bool → Code
ended limits true = plain limits Opcode.NewLine ▸ plain limits Opcode.Rtrue
ended limits false = nothing

-- The code that prints a value by a rule: an instruction, a routine of the veneer, or the routine that is the expression before it.
abbrev pub called_with : Limits → List Tree → Code
called_with limits (f ∷ e ∷ trees) = call limits (part (meaning limits f)) (part (meaning limits e) ∷ []) None
called_with limits _ = nothing

abbrev pub veneer_called : Limits → Veneer → List Tree → Code
veneer_called limits v [] = nothing
veneer_called limits v (e ∷ trees) = call_routine limits v (part (meaning limits e) ∷ []) None

unfoldable pub rule_code : Limits → PrintRule → List Tree → Code
rule_code limits PrintRule.Character trees = one_worked limits Opcode.PrintChar trees
rule_code limits PrintRule.String trees = one_worked limits Opcode.PrintPaddr trees
rule_code limits PrintRule.Address trees = one_worked limits Opcode.PrintAddr trees
rule_code limits PrintRule.Object trees = one_worked limits Opcode.PrintObj trees
rule_code limits PrintRule.ShortName trees = veneer_called limits Veneer.ShortName trees
rule_code limits PrintRule.DefiniteArticle trees = veneer_called limits Veneer.DefiniteArticle trees
rule_code limits PrintRule.CapitalArticle trees = veneer_called limits Veneer.CapitalArticle trees
rule_code limits PrintRule.IndefiniteArticle trees = veneer_called limits Veneer.IndefiniteArticle trees
rule_code limits PrintRule.EnglishNumber trees = veneer_called limits Veneer.EnglishNumber trees
rule_code limits PrintRule.Routine trees = called_with limits trees

-- the trees behind those that a rule takes
abbrev pub rest_behind : PrintRule → List Tree → List Tree
rest_behind PrintRule.Routine trees = rest (rest trees)
rest_behind _ trees = rest trees

-- The code of one item, with `others` behind it; then the trees behind it, and whether something other than a text was printed last.
abbrev pub item_code : Limits → CharSet → List SourceToken → Bool → List Item → Item → List Tree → Code
item_code limits set tokens returns others (Item.Text at) trees = printed limits (text_opcode returns others) (text_at set tokens at)
item_code limits set tokens returns others Item.Value trees = one_worked limits Opcode.PrintNum trees
item_code limits set tokens returns others (Item.Ruled r) trees = rule_code limits r trees
item_code limits set tokens returns others _ trees = nothing

abbrev pub trees_behind : Item → List Tree → List Tree
trees_behind Item.Value trees = rest trees
trees_behind (Item.Ruled r) trees = rest_behind r trees
trees_behind _ trees = trees

abbrev pub ends_behind : Item → Bool → Bool
ends_behind (Item.Text at) returns = false
ends_behind _ returns = returns

abbrev pub items_printed : Limits → CharSet → List SourceToken → Bool → Bool → List Item → List Tree → Code
items_printed limits set tokens returns ends [] trees = ended limits ends
items_printed limits set tokens returns ends (i ∷ items) trees =
    item_code limits set tokens returns items i trees ▸ items_printed limits set tokens returns (ends_behind i returns) items
    (trees_behind i trees)
