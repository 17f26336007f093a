-- The way in which statements that print and change objects are written: the items and expressions of a unit, and the statements of the
-- laws.
use Rattle.std.specs.Prelude.{◌≡◌, Bool, true, false, List, [], ◌∷◌, Option, Some, None}
use Rattle.inf_area.specs.declared.targets.Target.{Target}
use Rattle.inf_characters.specs.{Items.IsText, declared.characters.CharSet.CharSet}
use Rattle.inf_text.specs.{Parts.AreAbbreviations, Unpacking.strings}
use Rattle.inf_expressions.specs.Trees.{Tree}
use Rattle.inf_unit.specs.{Tokens.SourceToken, declared.items.Item.Item, declared.items.PrintRule.PrintRule}
use Rattle.inf_output.specs.{Output.Out, Texts.used_in}
use Rattle.inf_operands.specs.Texts.{text_at}
use Rattle.inf_statements.specs.{Effects.Site, Effects.last_text, Effects.name_behind, declared.statements.Statement.Statement}
use Rattle.inf_interpreter.specs.Machine.{World, ◌then◌}
use Rattle.inf_meaning_laws.specs.Covered.{Covered}
use Rattle.inf_effect_laws.specs.Described.{AsAddress, AsCharacter, AsObject, AsString, By, Capital, Deed, Definite, DoAction}
use Rattle.inf_effect_laws.specs.Described.{DoActionReturn, Give, InWords, Indefinite, Move, Name, NewLine, Print, PrintReturn, Printed}
use Rattle.inf_effect_laws.specs.Described.{Remove, SetString, SetStyle, Spaces, Value, Words, waits}

-- an item of `print`, and the expressions behind those that it takes
abbrev pub ruled : PrintRule → Tree → List Tree → Option (Printed × List Tree)
ruled PrintRule.Character e trees = Some (AsCharacter e, trees)
ruled PrintRule.String e trees = Some (AsString e, trees)
ruled PrintRule.Address e trees = Some (AsAddress e, trees)
ruled PrintRule.Object e trees = Some (AsObject e, trees)
ruled PrintRule.ShortName e trees = Some (Name e, trees)
ruled PrintRule.DefiniteArticle e trees = Some (Definite e, trees)
ruled PrintRule.CapitalArticle e trees = Some (Capital e, trees)
ruled PrintRule.IndefiniteArticle e trees = Some (Indefinite e, trees)
ruled PrintRule.EnglishNumber e trees = Some (InWords e, trees)
ruled PrintRule.Routine routine [] = None
ruled PrintRule.Routine routine (e ∷ trees) = Some (By routine e, trees)

abbrev pub item_in : CharSet → List SourceToken → Item → List Tree → Option (Printed × List Tree)
item_in set tokens (Item.Text at) trees = text_at set tokens at then λ text. Some (Words text, trees)
item_in set tokens Item.Value (e ∷ trees) = Some (Value e, trees)
item_in set tokens (Item.Ruled r) (e ∷ trees) = ruled r e trees
item_in set tokens _ trees = None

abbrev pub items_in : CharSet → List SourceToken → List Item → List Tree → Option (List Printed)
items_in set tokens [] trees = Some []
items_in set tokens (i ∷ items) trees =
    item_in set tokens i trees then λ p. items_in set tokens items p.1 then λ others. Some (p.0 ∷ others)

-- attributes, given or taken away
abbrev pub gives : Item → Option Bool
gives Item.Set = Some true
gives Item.Clear = Some false
gives _ = None

abbrev pub attributes_in : List Item → List Tree → Option (List (Bool × Tree))
attributes_in [] trees = Some []
attributes_in (i ∷ items) [] = None
attributes_in (i ∷ items) (a ∷ trees) = gives i then λ given. attributes_in items trees then λ others. Some ((given, a) ∷ others)

-- an action has two nouns at most
abbrev pub action_in : List Tree → Option (List Tree)
action_in (action ∷ []) = Some (action ∷ [])
action_in (action ∷ noun ∷ []) = Some (action ∷ noun ∷ [])
action_in (action ∷ noun ∷ second ∷ []) = Some (action ∷ noun ∷ second ∷ [])
action_in _ = None

abbrev pub first_of : List Printed → Option Deed
first_of [] = None
first_of (p ∷ items) = Some (PrintReturn p items)

abbrev pub give_in : List Item → List Tree → Option Deed
give_in items [] = None
give_in items (e ∷ trees) = attributes_in items trees then λ attributes. Some (Give e attributes)

abbrev pub move_in : List Tree → Option Deed
move_in (object ∷ parent ∷ trees) = Some (Move object parent)
move_in _ = None

abbrev pub one_in : (Tree → Deed) → List Tree → Option Deed
one_in deed [] = None
one_in deed (e ∷ trees) = Some (deed e)

-- the statement that stands at a site, by its expressions and the place of the next low string
abbrev pub deed_of : Site → Target → List Tree → Statement → Option Deed
deed_of s low trees Statement.Print = items_in s.set s.tokens s.items trees then λ items. Some (Print items)
deed_of s low trees Statement.PrintReturn = items_in s.set s.tokens s.items trees then first_of
deed_of s low trees Statement.NewLine = Some NewLine
deed_of s low trees Statement.Give = give_in s.items trees
deed_of s low trees Statement.Move = move_in trees
deed_of s low trees Statement.Remove = one_in Remove trees
deed_of s low trees Statement.Style = Some (SetStyle (name_behind s))
deed_of s low trees Statement.String = last_text s then λ text. one_in (λ e. SetString e low) trees
deed_of s low trees Statement.Spaces = one_in Spaces trees
deed_of s low trees Statement.Action = action_in trees then λ values. Some (DoAction values)
deed_of s low trees Statement.ActionReturn = action_in trees then λ values. Some (DoActionReturn values)
deed_of s low trees _ = None

-- All expressions are covered. Where an object waits for several attributes, these keep variable 255. Each text has characters that a story
-- can print.

abbrev pub AllCovered : List Tree → Type 0
AllCovered [] = Unit {0}
AllCovered (e ∷ trees) = Covered false e × AllCovered trees

abbrev pub CoversItem : Printed → Type 0
CoversItem (Words text) = IsText text
CoversItem (Value e) = AllCovered (e ∷ [])
CoversItem (AsCharacter e) = AllCovered (e ∷ [])
CoversItem (AsString e) = AllCovered (e ∷ [])
CoversItem (AsAddress e) = AllCovered (e ∷ [])
CoversItem (AsObject e) = AllCovered (e ∷ [])
CoversItem (Name e) = AllCovered (e ∷ [])
CoversItem (Definite e) = AllCovered (e ∷ [])
CoversItem (Capital e) = AllCovered (e ∷ [])
CoversItem (Indefinite e) = AllCovered (e ∷ [])
CoversItem (InWords e) = AllCovered (e ∷ [])
CoversItem (By routine e) = AllCovered (routine ∷ e ∷ [])

abbrev pub CoversItems : List Printed → Type 0
CoversItems [] = Unit {0}
CoversItems (p ∷ items) = CoversItem p × CoversItems items

abbrev pub CoversEach : Bool → List (Bool × Tree) → Type 0
CoversEach keeps [] = Unit {0}
CoversEach keeps (a ∷ attributes) = Covered keeps a.1 × CoversEach keeps attributes

abbrev pub Covers : Deed → Type 0
Covers (Print items) = CoversItems items
Covers (PrintReturn p items) = CoversItems (p ∷ items)
Covers NewLine = Unit {0}
Covers (Give e attributes) = Covered false e × CoversEach (waits e attributes) attributes
Covers (Move object parent) = AllCovered (object ∷ parent ∷ [])
Covers (Remove object) = AllCovered (object ∷ [])
Covers (SetStyle name) = Unit {0}
Covers (SetString e at) = AllCovered (e ∷ [])
Covers (Spaces e) = AllCovered (e ∷ [])
Covers (DoAction values) = AllCovered values
Covers (DoActionReturn values) = AllCovered values

-- The world has the abbreviations with which an output packs texts.
pub record HasTexts (w : World) (o : Out) : Type 0 where
  pub spelled : w.abbreviations ≡ strings (used_in o.texts)
  pub are : AreAbbreviations (used_in o.texts)
