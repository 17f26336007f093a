-- Items that the units of a routine have beside their expressions.
use Rattle.std.specs.Prelude.{ℕ, List, codes, Bool, true, false, if◌then◌else◌, min, ◌+◌, bytes_eq}
use Rattle.inf_unit.specs.{declared.items.Item.Item, declared.items.PrintRule.PrintRule}

-- Print rule of a name: those of the language are told with case, and every other name is that of a routine. Designer's Manual,
-- fourth edition, section 1.11.
abbrev pub rule_of : List ℕ → PrintRule
rule_of name = if bytes_eq name (codes "char") then PrintRule.Character else if bytes_eq name (codes "string") then PrintRule.String else
    if bytes_eq name (codes "address") then PrintRule.Address else if bytes_eq name (codes "object") then PrintRule.Object else
    if bytes_eq name (codes "name") then PrintRule.ShortName else if bytes_eq name (codes "the") then PrintRule.DefiniteArticle else
    if bytes_eq name (codes "The") then PrintRule.CapitalArticle else if bytes_eq name (codes "a") then PrintRule.IndefiniteArticle else
    if bytes_eq name (codes "an") then PrintRule.IndefiniteArticle else
    if bytes_eq name (codes "number") then PrintRule.EnglishNumber else PrintRule.Routine

-- Tells whether a rule is one of the language.
abbrev pub is_own : PrintRule → Bool
is_own PrintRule.Routine = false
is_own _ = true

-- The least number of bytes of the code by which a rule prints a value. `print_paddr`, `print_addr` and `print_obj` have one byte and their
-- operand, which has another at least. `print_char` has a byte more, that of its operand's type; and a routine is called with its own
-- address as an operand.
abbrev pub least_of_rule : PrintRule → ℕ
least_of_rule PrintRule.Character = 3
least_of_rule PrintRule.String = 2
least_of_rule PrintRule.Address = 2
least_of_rule PrintRule.Object = 2
least_of_rule PrintRule.ShortName = 3
least_of_rule PrintRule.DefiniteArticle = 3
least_of_rule PrintRule.CapitalArticle = 3
least_of_rule PrintRule.IndefiniteArticle = 3
least_of_rule PrintRule.EnglishNumber = 3
least_of_rule PrintRule.Routine = 3

-- The least number of bytes of the code of an item that is printed or given. A text has one byte and its characters, which are packed in
-- two at least; `print_num` has one byte, that of its operand's type, and its operand; and `set_attr` and `clear_attr` have one byte and
-- two operands. Other items are not printed or given, and are not counted.
abbrev pub least_code : Item → ℕ
least_code (Item.Text at) = 3
least_code Item.Value = 3
least_code (Item.Ruled r) = least_of_rule r
least_code Item.Set = 3
least_code Item.Clear = 3
least_code Item.Default = 0
least_code (Item.Store at) = 0
least_code (Item.Branch at sense) = 0
least_code (Item.Jump at) = 0

-- The least number of bytes of the code of some items and one more.
unfoldable pub code_behind : Item → ℕ → ℕ
code_behind i code = min (code + least_code i) 18446744073709551615
