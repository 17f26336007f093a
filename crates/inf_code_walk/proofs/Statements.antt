-- The code of statements, of those that hold others, and of layings, which give something beside it, is made of pieces, whose operands
-- meet a premise where those of its trees do.
use Rattle.std.specs.Str.{str_eq_ignore_ascii_case}
use Rattle.std.proofs.Common.{Bool, List, None, Option, Some, [], codes, false, if◌then◌else◌, true, unwrap_or, ℕ, ◌++◌, ◌==◌, ◌∷◌}
use Rattle.inf_characters.specs.{declared.characters.CharSet.CharSet, declared.texts.TextItem.TextItem}
use Rattle.inf_text.specs.Packing.{packed}
use Rattle.inf_area.specs.{declared.targets.AreaName.AreaName, declared.targets.SystemConstant.SystemConstant}
use Rattle.inf_area.specs.{declared.targets.Target.Target}
use Rattle.inf_expressions.specs.{Questions.children_of, Questions.is_list, Questions.range_of, Rooted.Rooted, Trees.Leaf, Trees.Tree}
use Rattle.inf_expressions.specs.{Trees.Two, declared.operators.Binary.Binary, declared.operators.Test.Test}
use Rattle.inf_settings.specs.Bounds.{Limits}
use Rattle.inf_opcode.specs.{Opcodes.row_of, declared.instructions.Branch.Branch, declared.instructions.Destination.Destination}
use Rattle.inf_opcode.specs.{declared.instructions.Label.Label, declared.opcodes.Opcode.Opcode}
use Rattle.inf_names.specs.Locals.{Local}
use Rattle.inf_output.specs.{Texts.used_in, declared.operands.Simple.Simple, declared.veneer.Veneer.Veneer}
use Rattle.inf_output.specs.Output.{Code, Out, behind as number_behind, jumped, marked, next_label, nothing, to}
use Rattle.inf_templates.specs.{Meaning.Meaning, Meaning.meaning, Meaning.part, Parts.Part, Parts.SP, Parts.TEMP, Parts.is}
use Rattle.inf_unit.specs.{Opcodes.opcode_of, Tokens.SourceToken, Units.bytes_at, declared.items.Item.Item}
use Rattle.inf_unit.specs.{declared.items.PrintRule.PrintRule}
use Rattle.inf_constructs.specs.{Labels.NamedLabel, Labels.given, Labels.label_of, Labels.wanted, declared.constructs.Case.Case}
use Rattle.inf_constructs.specs.{declared.constructs.Construct.Construct, declared.constructs.Kind.Kind, declared.constructs.Over.Over}
use Rattle.inf_constructs.specs.Cases.{SWITCHED, beside, case_code, case_tested, group_behind, group_tested, grouped, is_empty, is_open}
use Rattle.inf_constructs.specs.Cases.{laid_before, operand_in, range_tested, value_grouped, value_laid, within}
use Rattle.inf_constructs.specs.Constructs.{between, case_closed, case_entered, entered, entered_by, front, joint, kind_behind, left_to}
use Rattle.inf_constructs.specs.Constructs.{looped, looped_by, looped_on, opened, over_all, over_children, tested_over, with_case}
use Rattle.inf_constructs.specs.Constructs.{with_labels}
use Rattle.inf_operands.specs.Texts.{text_at}
use Rattle.inf_statements.specs.{declared.assembly.Ends.Ends, declared.statements.Statement.Statement}
use Rattle.inf_statements.specs.Assembly.{branch_to, branched, branched_to, ends_of, fits, instructed, jumped_on, labelled, line_instructed}
use Rattle.inf_statements.specs.Assembly.{line_laid, line_laid_as, line_laid_by, named_first, operands_in, placed, printing_of}
use Rattle.inf_statements.specs.Assembly.{some_printed, store_of, text_printed, variable_of}
use Rattle.inf_statements.specs.Effects.{Site, last_text, name_behind, statement_code, statement_laid}
use Rattle.inf_statements.specs.Printing.{called_with, ended, ends_behind, item_code, items_printed, rest_behind, rule_code, text_opcode}
use Rattle.inf_statements.specs.Printing.{trees_behind, veneer_called}
use Rattle.inf_statements.specs.Statements.{abbreviations, action_laid, action_on, alone, are_several, attribute_code, attribute_opcode}
use Rattle.inf_statements.specs.Statements.{attributes_changed, attributes_given, given_by, jumped_to, moved, one_worked, plain, printed}
use Rattle.inf_statements.specs.Statements.{rest, returned, returned_by, returned_number, spaced, string_changed, string_set, style_of}
use Rattle.inf_statements.specs.Statements.{styled_by, switched, tested, unless}
use Rattle.inf_code_walk.specs.Made.{AllMeet, Binds, By, Either, Handed, Instructs, Jumps, Laid, Lays, Lows, Made, Marks, MaybeMeets, Meets}
use Rattle.inf_code_walk.specs.Made.{Names, Nothing, Packs, Prints, Takes, Then, TreeMeets, TreesMeet, branch_labels}
use Rattle.inf_code_walk.proofs.Rows.{Any, MeaningMade, PartMade, ask_made, at_first, at_second, before, behind, call_made, either_made}
use Rattle.inf_code_walk.proofs.Rows.{is_made, meaning_made, operand_meets, part_made, worked_made}

-- Lemmas about statements

-- the label that a statement goes to, if it does
abbrev pub label_in : Option Label → List ℕ
label_in None = []
label_in (Some l) = l.number ∷ []

abbrev pub needs_of : Site → Statement → List ℕ
needs_of s Statement.Break = label_in (left_to false s.constructs)
needs_of s Statement.Continue = label_in (left_to true s.constructs)
needs_of s _ = []

-- The targets that the code of statements refers to by itself meet a premise, too.
pub record FixedMeet (L : Target → Type 0) : Type 0 where
  pub place : (area : AreaName) (offset : ℕ) → L (Target.Place area offset)
  pub system : (constant : SystemConstant) → L (Target.System constant)

module _ (limits : Limits) (L : Target → Type 0) where
  -- code that needs no label of others
  abbrev Alone : Code → Type 0
  Alone c = Made limits L c [] []

  pub tree_part : (e : Tree) → TreeMeets L e → PartMade limits L (part (meaning limits e))
  tree_part e h = part_made limits L (meaning limits e) (meaning_made limits L e h)

  pub operand_meets_in : (e : Tree) → TreeMeets L e → Meets L (operand_in limits e)
  operand_meets_in e h = operand_meets limits L (meaning limits e).operand (meaning_made limits L e h).operand

  all_meet_in : (trees : List Tree) → TreesMeet L trees → AllMeet L (operands_in limits trees)
  all_meet_in [] h = tt
  all_meet_in (e ∷ trees) h = (operand_meets_in e h.0, all_meet_in trees h.1)

  rest_meet : (trees : List Tree) → TreesMeet L trees → TreesMeet L (rest trees)
  rest_meet [] h = tt
  rest_meet (e ∷ trees) h = h.1

  plain_made : (op : Opcode) → Alone (plain limits op)
  plain_made op = Instructs op [] None None tt

  printed_made : (op : Opcode) (text : Option (List TextItem)) → Alone (printed limits op text)
  printed_made op None = Nothing
  printed_made op (Some text) = behind Packs (Prints op (λ o. packed text (used_in o.texts)))

  one_made : (op : Opcode) (trees : List Tree) → TreesMeet L trees → Alone (one_worked limits op trees)
  one_made op [] h = Nothing
  one_made op (e ∷ trees) h = worked_made limits L op (part (meaning limits e) ∷ []) (tree_part e h.0, tt) None None

  -- Lemmas about printing

  ended_made : (ends : Bool) → Alone (ended limits ends)
  ended_made true = before (plain_made Opcode.NewLine) (plain_made Opcode.Rtrue)
  ended_made false = Nothing

  called_made : (trees : List Tree) → TreesMeet L trees → Alone (called_with limits trees)
  called_made [] h = Nothing
  called_made (f ∷ []) h = Nothing
  called_made (f ∷ e ∷ trees) h =
      call_made limits L (part (meaning limits f)) (part (meaning limits e) ∷ []) (tree_part f h.0) (tree_part e h.1.0, tt) None

  veneer_made : (v : Veneer) (trees : List Tree) → TreesMeet L trees → Alone (veneer_called limits v trees)
  veneer_made v [] h = Nothing
  veneer_made v (e ∷ trees) h = ask_made limits L v (part (meaning limits e) ∷ []) (tree_part e h.0, tt) None

  rule_made : (r : PrintRule) (trees : List Tree) → TreesMeet L trees → Alone (rule_code limits r trees)
  unfolding rule_code
  rule_made PrintRule.Character trees h = one_made Opcode.PrintChar trees h
  rule_made PrintRule.String trees h = one_made Opcode.PrintPaddr trees h
  rule_made PrintRule.Address trees h = one_made Opcode.PrintAddr trees h
  rule_made PrintRule.Object trees h = one_made Opcode.PrintObj trees h
  rule_made PrintRule.ShortName trees h = veneer_made Veneer.ShortName trees h
  rule_made PrintRule.DefiniteArticle trees h = veneer_made Veneer.DefiniteArticle trees h
  rule_made PrintRule.CapitalArticle trees h = veneer_made Veneer.CapitalArticle trees h
  rule_made PrintRule.IndefiniteArticle trees h = veneer_made Veneer.IndefiniteArticle trees h
  rule_made PrintRule.EnglishNumber trees h = veneer_made Veneer.EnglishNumber trees h
  rule_made PrintRule.Routine trees h = called_made trees h

  item_made : (set : CharSet) (tokens : List SourceToken) (returns : Bool) (others : List Item) (i : Item) (trees : List Tree)
      → TreesMeet L trees → Alone (item_code limits set tokens returns others i trees)
  item_made set tokens returns others (Item.Text at) trees h = printed_made (text_opcode returns others) (text_at set tokens at)
  item_made set tokens returns others Item.Value trees h = one_made Opcode.PrintNum trees h
  item_made set tokens returns others (Item.Ruled r) trees h = rule_made r trees h
  item_made set tokens returns others _ trees h = Nothing

  ruled_meet : (r : PrintRule) (trees : List Tree) → TreesMeet L trees → TreesMeet L (rest_behind r trees)
  ruled_meet PrintRule.Routine trees h = rest_meet (rest trees) (rest_meet trees h)
  ruled_meet _ trees h = rest_meet trees h

  behind_meet : (i : Item) (trees : List Tree) → TreesMeet L trees → TreesMeet L (trees_behind i trees)
  behind_meet Item.Value trees h = rest_meet trees h
  behind_meet (Item.Ruled r) trees h = ruled_meet r trees h
  behind_meet _ trees h = h

  items_made : (set : CharSet) (tokens : List SourceToken) (returns ends : Bool) (items : List Item) (trees : List Tree)
      → TreesMeet L trees → Alone (items_printed limits set tokens returns ends items trees)
  items_made set tokens returns ends [] trees h = ended_made ends
  items_made set tokens returns ends (i ∷ items) trees h = before (item_made set tokens returns items i trees h)
      (items_made set tokens returns (ends_behind i returns) items (trees_behind i trees) (behind_meet i trees h))

  -- Lemmas about single statements

  number_made : (n : ℕ) → Alone (returned_number limits n)
  number_made n = either_made (n == 1) (plain_made Opcode.Rtrue)
      (either_made (n == 0) (plain_made Opcode.Rfalse) (Instructs Opcode.Ret (Simple.Known n ∷ []) None None (tt, tt)))

  returned_by_made : (x : Option Simple) → MaybeMeets L x → (m : Meaning) → MeaningMade limits L m → Alone (returned_by limits x m)
  returned_by_made (Some (Simple.Known n)) s m h = number_made n
  returned_by_made (Some (Simple.Variable v)) s m h = Instructs Opcode.Ret (Simple.Variable v ∷ []) None None (tt, tt)
  returned_by_made (Some (Simple.Later t)) s m h = Instructs Opcode.Ret (Simple.Later t ∷ []) None None (s, tt)
  returned_by_made None s m h = before (h.value SP) (plain_made Opcode.RetPopped)

  returned_made : (trees : List Tree) → TreesMeet L trees → Alone (returned limits trees)
  returned_made [] h = plain_made Opcode.Rtrue
  returned_made (e ∷ trees) h =
      let m = meaning_made limits L e h.0 in returned_by_made (meaning limits e).operand m.operand (meaning limits e) m

  pub alone_made : (trees : List Tree) → TreesMeet L trees → Alone (alone limits trees)
  alone_made [] h = Nothing
  alone_made (e ∷ trees) h = (meaning_made limits L e h.0).alone

  moved_made : (trees : List Tree) → TreesMeet L trees → Alone (moved limits trees)
  moved_made [] h = Nothing
  moved_made (a ∷ []) h = Nothing
  moved_made (a ∷ b ∷ trees) h = worked_made limits L Opcode.InsertObj (part (meaning limits a) ∷ part (meaning limits b) ∷ [])
      (tree_part a h.0, (tree_part b h.1.0, tt)) None None

  spaced_made : (trees : List Tree) → TreesMeet L trees → Alone (spaced limits trees)
  spaced_made [] h = Nothing
  spaced_made (e ∷ trees) h = ask_made limits L Veneer.Spaces (part (meaning limits e) ∷ []) (tree_part e h.0, tt) None

  set_made : (low : Target) → L low → L abbreviations → (trees : List Tree) → TreesMeet L trees → Alone (string_set limits low trees)
  set_made low s f [] h = Nothing
  set_made low s f (e ∷ trees) h =
      worked_made limits L Opcode.Storew (is (Simple.Later abbreviations) ∷ part (meaning limits e) ∷ is (Simple.Later low) ∷ [])
      (is_made limits L (Simple.Later abbreviations) f, (tree_part e h.0, (is_made limits L (Simple.Later low) s, tt))) None None

  changed_made : FixedMeet L → (text : Option (List TextItem)) (trees : List Tree) → TreesMeet L trees
      → Alone (string_changed limits text trees)
  changed_made fixed None trees h = Nothing
  changed_made fixed (Some text) trees h = behind Packs (Lows (packed text []) (λ low. string_set limits low trees)
      (λ o. set_made _ (fixed.place AreaName.LowStrings _) (fixed.place AreaName.Abbreviations 0) trees h))

  on_made : (action : Part) → PartMade limits L action → (trees : List Tree) → TreesMeet L trees → Alone (action_on limits action trees)
  on_made action s [] h = ask_made limits L Veneer.Process (action ∷ []) (s, tt) None
  on_made action s (a ∷ []) h = ask_made limits L Veneer.Process (action ∷ part (meaning limits a) ∷ []) (s, (tree_part a h.0, tt)) None
  on_made action s (a ∷ b ∷ trees) h = ask_made limits L Veneer.Process (action ∷ part (meaning limits a) ∷ part (meaning limits b) ∷ [])
      (s, (tree_part a h.0, (tree_part b h.1.0, tt))) None

  action_made : (trees : List Tree) → TreesMeet L trees → Alone (action_laid limits trees)
  action_made [] h = Nothing
  action_made (e ∷ trees) h = on_made (part (meaning limits e)) (tree_part e h.0) trees h.1

  unless_made : (trees : List Tree) → TreesMeet L trees → (l : Label) → Made limits L (unless limits trees l) (l.number ∷ []) []
  unless_made [] h l = Nothing
  unless_made (e ∷ trees) h l = (meaning_made limits L e h.0).branch false l

  pub tested_made : (l : Option Label) (trees : List Tree) → TreesMeet L trees → Made limits L (tested limits l trees) (label_in l) []
  tested_made None trees h = Nothing
  tested_made (Some l) trees h = unless_made trees h l

  pub switched_made : (trees : List Tree) → TreesMeet L trees → Alone (switched limits trees)
  switched_made [] h = Nothing
  switched_made (e ∷ trees) h = (meaning_made limits L e h.0).value SWITCHED

  attribute_made : (op : Opcode) (object : Part) → PartMade limits L object → (trees : List Tree) → TreesMeet L trees
      → Alone (attribute_code limits op object trees)
  attribute_made op object s [] h = Nothing
  attribute_made op object s (a ∷ attributes) h =
      worked_made limits L op (object ∷ part (meaning limits a) ∷ []) (s, (tree_part a h.0, tt)) None None

  attributes_made : (object : Part) → PartMade limits L object → (items : List Item) (attributes : List Tree) → TreesMeet L attributes
      → Alone (attributes_given limits object items attributes)
  attributes_made object s [] attributes h = Nothing
  attributes_made object s (i ∷ items) attributes h = before (attribute_made (attribute_opcode i) object s attributes h)
      (attributes_made object s items (rest attributes) (rest_meet attributes h))

  given_made : (several : Bool) (x : Option Simple) (m : Meaning) → MeaningMade limits L m → (items : List Item) (attributes : List Tree)
      → TreesMeet L attributes → Alone (given_by limits several x m items attributes)
  given_made true None m s items attributes h = before (s.value TEMP)
      (attributes_made (is (Simple.Variable TEMP)) (is_made limits L (Simple.Variable TEMP) tt) items attributes h)
  given_made true (Some x) m s items attributes h = attributes_made (part m) (part_made limits L m s) items attributes h
  given_made false None m s items attributes h = attributes_made (part m) (part_made limits L m s) items attributes h
  given_made false (Some x) m s items attributes h = attributes_made (part m) (part_made limits L m s) items attributes h

  give_made : (items : List Item) (trees : List Tree) → TreesMeet L trees → Alone (attributes_changed limits items trees)
  give_made items [] h = Nothing
  give_made items (e ∷ trees) h =
      given_made (are_several items) (meaning limits e).operand (meaning limits e) (meaning_made limits L e h.0) items trees h.1

  styled_made : (style : Option ℕ) → Alone (styled_by limits style)
  styled_made None = Nothing
  styled_made (Some style) = Instructs Opcode.SetTextStyle (Simple.Known style ∷ []) None None (tt, tt)

  jumped_made : (l : Option Label) → Made limits L (jumped_to limits l) (label_in l) []
  jumped_made None = Nothing
  jumped_made (Some l) = Jumps l

  pub code_made : FixedMeet L → (s : Site) (trees : List Tree) → TreesMeet L trees → (st : Statement)
      → Made limits L (statement_code limits s trees st) (needs_of s st) []
  code_made fixed s trees h Statement.Expression = alone_made trees h
  code_made fixed s trees h Statement.Print = items_made s.set s.tokens false false s.items trees h
  code_made fixed s trees h Statement.PrintReturn = items_made s.set s.tokens true false s.items trees h
  code_made fixed s trees h Statement.Return = returned_made trees h
  code_made fixed s trees h Statement.NewLine = plain_made Opcode.NewLine
  code_made fixed s trees h Statement.Quit = plain_made Opcode.Quit
  code_made fixed s trees h Statement.ReturnTrue = plain_made Opcode.Rtrue
  code_made fixed s trees h Statement.ReturnFalse = plain_made Opcode.Rfalse
  code_made fixed s trees h Statement.Break = jumped_made (left_to false s.constructs)
  code_made fixed s trees h Statement.Continue = jumped_made (left_to true s.constructs)
  code_made fixed s trees h Statement.Give = give_made s.items trees h
  code_made fixed s trees h Statement.String = changed_made fixed (last_text s) trees h
  code_made fixed s trees h Statement.Move = moved_made trees h
  code_made fixed s trees h Statement.Action = action_made trees h
  code_made fixed s trees h Statement.ActionReturn = before (action_made trees h) (plain_made Opcode.Rtrue)
  code_made fixed s trees h Statement.Remove = one_made Opcode.RemoveObj trees h
  code_made fixed s trees h Statement.Spaces = spaced_made trees h
  code_made fixed s trees h Statement.Style = styled_made (style_of (name_behind s))
  code_made fixed s trees h other = Nothing

  -- Lemmas about assembly lines, but for the labels that they name

  first_made : (op : Opcode) (trees : List Tree) → TreesMeet L trees → (store : Option ℕ) (branch : Option Branch)
      → Made limits L (named_first limits op trees store branch) (branch_labels branch) []
  first_made op [] h store branch = Nothing
  first_made op (e ∷ trees) h store branch =
      Names op (unwrap_or (variable_of (meaning limits e).operand) 0) (operands_in limits trees) store branch (all_meet_in trees h.1)

  pub instructed_made : (names : Bool) (op : Opcode) (trees : List Tree) → TreesMeet L trees → (store : Option ℕ) (branch : Option Branch)
      → Made limits L (instructed limits names op trees store branch) (branch_labels branch) []
  unfolding instructed
  instructed_made true op trees h store branch = first_made op trees h store branch
  instructed_made false op trees h store branch = Instructs op (operands_in limits trees) store branch (all_meet_in trees h)

  text_made : (set : CharSet) (tokens : List SourceToken) (op : Option Opcode) (at : ℕ) → Alone (text_printed limits set tokens op at)
  text_made set tokens None at = Nothing
  text_made set tokens (Some op) at = printed_made op (text_at set tokens at)

  pub some_made : (set : CharSet) (tokens : List SourceToken) (op : Opcode) (at : Option ℕ) → Alone (some_printed limits set tokens op at)
  some_made set tokens op None = Nothing
  some_made set tokens op (Some at) = text_made set tokens (printing_of op) at

pub any_fixed : FixedMeet Any
any_fixed = record { place = λ area offset. tt; system = λ constant. tt }

-- Lemmas about statements that hold others

abbrev pub case_labels : Case → List ℕ
case_labels Case.Nothing = []
case_labels (Case.Values next) = next.number ∷ []
case_labels Case.Default = []

module _ (limits : Limits) (L : Target → Type 0) where
  -- The tests of a case, which lead to its body or to the next one

  group_made : (group : List Simple) → AllMeet L group → (sense : Bool) (l : Label)
      → Made limits L (group_tested limits group sense l) (l.number ∷ []) []
  unfolding group_tested
  group_made [] h sense l = Nothing
  group_made (a ∷ others) h sense l = Instructs Opcode.Je (Simple.Variable SWITCHED ∷ a ∷ others) None (to sense l) (tt, h)

  beside_made : (a b : Simple) → Meets L a → Meets L b → (next : Label) → Made limits L (beside limits a b next) (next.number ∷ []) []
  beside_made a b h k next = behind (Instructs Opcode.Jl (Simple.Variable SWITCHED ∷ a ∷ []) None (to true next) (tt, (h, tt)))
      (Instructs Opcode.Jg (Simple.Variable SWITCHED ∷ b ∷ []) None (to true next) (tt, (k, tt)))

  within_made : (a b : Simple) → Meets L a → Meets L b → (here : Label) → Made limits L (within limits a b here) (here.number ∷ []) []
  within_made a b h k here = Handed λ beyond.
      behind (at_first (Instructs Opcode.Jl (Simple.Variable SWITCHED ∷ a ∷ []) None (to true beyond) (tt, (h, tt))))
      (behind (at_second (Instructs Opcode.Jg (Simple.Variable SWITCHED ∷ b ∷ []) None (to false here) (tt, (k, tt)))) (Marks beyond))

  range_made : (is_last : Bool) (a b : Simple) → Meets L a → Meets L b → (here next : Label)
      → Made limits L (range_tested limits is_last a b here next) (here.number ∷ next.number ∷ []) []
  unfolding range_tested
  range_made true a b h k here next = at_second (beside_made a b h k next)
  range_made false a b h k here next = at_first (within_made a b h k here)

  full_made : (b : Bool) (group : List Simple) → AllMeet L group → (here : Label)
      → Made limits L (if b then nothing else group_tested limits group true here) (here.number ∷ []) []
  full_made true group h here = Nothing
  full_made false group h here = group_made group h true here

  -- the ends of a range
  abbrev pub EndsMeet : Option (Tree × Tree) → Type 0
  EndsMeet None = Unit {0}
  EndsMeet (Some ends) = TreeMeets L ends.0 × TreeMeets L ends.1

  before_made : (ends : Option (Tree × Tree)) → EndsMeet ends → (is_last : Bool) (group : List Simple) → AllMeet L group
      → (here next : Label) → Made limits L (laid_before limits ends is_last group here next) (here.number ∷ next.number ∷ []) []
  before_made (Some ends) e is_last group h here next = behind (at_first (group_made group h true here))
      (range_made is_last (operand_in limits ends.0) (operand_in limits ends.1) (operand_meets_in limits L ends.0 e.0)
      (operand_meets_in limits L ends.1 e.1) here next)
  before_made None e is_last group h here next = at_first (full_made (is_open group) group h here)

  range_meets : (t : Tree) → TreeMeets L t → EndsMeet (range_of t)
  range_meets (Two Binary.To a b) h = h
  range_meets t h = tt

  value_made : (v : Tree) → TreeMeets L v → (is_last : Bool) (group : List Simple) → AllMeet L group → (here next : Label)
      → Made limits L (value_laid limits v is_last group here next) (here.number ∷ next.number ∷ []) []
  unfolding value_laid
  value_made v s is_last group h here next = before_made (range_of v) (range_meets v s) is_last group h here next

  simples_join : (a b : List Simple) → AllMeet L a → AllMeet L b → AllMeet L (a ++ b)
  simples_join [] b h k = k
  simples_join (s ∷ a) b h k = (h.0, simples_join a b h.1 k)

  group_meets : (range : Option (Tree × Tree)) (a : Simple) (group : List Simple) → Meets L a → AllMeet L group
      → AllMeet L (group_behind range a group)
  group_meets (Some ends) a group s h = tt
  group_meets None a group s h = go (is_open group)
    where
      go : (b : Bool) → AllMeet L (if b then group ++ a ∷ [] else a ∷ [])
      go true = simples_join group (a ∷ []) h (s, tt)
      go false = (s, tt)

  grouped_meet : (v : Tree) (group : List Simple) → TreeMeets L v → AllMeet L group → AllMeet L (value_grouped limits v group)
  unfolding value_grouped
  grouped_meet v group s h = group_meets (range_of v) (operand_in limits v) group (operand_meets_in limits L v s) h

  grouped_made : (group : List Simple) → AllMeet L group → (values : List Tree) → TreesMeet L values → (here next : Label)
      → Made limits L (grouped limits group values here next) (here.number ∷ next.number ∷ []) []
  grouped_made group h [] s here next = at_second (group_made group h false next)
  grouped_made group h (v ∷ values) s here next = behind (value_made v s.0 (is_empty values) group h here next)
      (grouped_made (value_grouped limits v group) (grouped_meet v group s.0 h) values s.1 here next)

  tests_made : (values : List Tree) → TreesMeet L values → (next : Label)
      → Made limits L (case_tested limits values next) (next.number ∷ []) []
  tests_made values s next = Handed λ here. behind (grouped_made [] tt values s here next) (Marks here)

  pub case_made : (next : Option Label) (values : List Tree) → TreesMeet L values
      → Made limits L (case_code limits next values) (label_in next) []
  unfolding case_code
  case_made None values s = Nothing
  case_made (Some next) values s = tests_made values s next

  pub case_closed_made : (c : Case) (end : Label) → Made limits L (case_closed limits c end) (end.number ∷ []) (case_labels c)
  case_closed_made Case.Nothing end = Nothing
  case_closed_made (Case.Values next) end = behind (Jumps end) (Marks next)
  case_closed_made Case.Default end = Jumps end

  -- Lemmas about loops over objects

  pub children_made : (e : Tree) → TreeMeets L e → (v : ℕ) (c : Construct)
      → Made limits L (over_children limits e v c) (c.end.number ∷ []) (c.top.number ∷ [])
  children_made e h v c =
      behind (worked_made limits L Opcode.GetChild (part (meaning limits e) ∷ []) (tree_part limits L e h, tt) (Some v) (to false c.end))
      (Marks c.top)

  over_made : (x : Option Simple) (m : Meaning) → MeaningMade limits L m → (next : Label)
      → Made limits L (tested_over x m next) (next.number ∷ []) []
  over_made (Some operand) m h next = Nothing
  over_made None m h next = h.branch false next

  pub all_made : (e : Tree) → TreeMeets L e → (v : ℕ) (c : Construct)
      → Made limits L (over_all limits (meaning limits e) v c) (c.next.number ∷ []) (c.top.number ∷ [])
  all_made e h v c = before (Names Opcode.Store v (Simple.Known 5 ∷ []) None None (tt, tt))
      (Then {a = c.top.number ∷ []} {b = []} (Marks c.top)
      (over_made (meaning limits e).operand (meaning limits e) (meaning_made limits L e h) c.next))

  pub looped_on_made : FixedMeet L → (how : Over) (v : ℕ) (top : Label) → Made limits L (looped_on limits how v top) (top.number ∷ []) []
  looped_on_made fixed Over.Nothing v top = Nothing
  looped_on_made fixed Over.Children v top = Instructs Opcode.GetSibling (Simple.Variable v ∷ []) (Some v) (to true top) (tt, tt)
  looped_on_made fixed Over.All v top =
      Names Opcode.IncChk v (Simple.Later (Target.System SystemConstant.HighestObjectNumber) ∷ []) None (to false top)
      (fixed.system SystemConstant.HighestObjectNumber, tt)

-- Lemmas about layings

abbrev front_labels : Kind → Construct → List ℕ
front_labels Kind.While c = c.next.number ∷ []
front_labels Kind.Do c = c.top.number ∷ []
front_labels _ c = []

abbrev joint_labels : Construct → Kind → List ℕ
joint_labels c Kind.If = c.next.number ∷ []
joint_labels c Kind.Do = c.next.number ∷ []
joint_labels c Kind.For = c.top.number ∷ []
joint_labels c (Kind.Objects Over.Nothing v) = c.top.number ∷ []
joint_labels c _ = []

module _ (limits : Limits) (L : Target → Type 0) where
  abbrev ChildMeets : Option Tree → Type 0
  ChildMeets None = Unit {0}
  ChildMeets (Some e) = TreeMeets L e

  labelled_laid : (name : List ℕ) (labels : List NamedLabel) → Laid limits L _ (labelled name labels)
  labelled_laid name labels =
      Takes (λ o. (label_of name (next_label o) labels, wanted name (next_label o) labels)) (λ o. number_behind o.next)

  placed_laid : (name : List ℕ) (labels : List NamedLabel) → Laid limits L _ (placed name labels)
  placed_laid name labels = Takes (λ o. (label_of name (next_label o) labels, given name (next_label o) labels)) (λ o. number_behind o.next)

  -- Lemmas about assembly lines

  branched_to_laid : (name : List ℕ) (sense : Bool) (labels : List NamedLabel) → Laid limits L _ (branched_to name sense labels)
  branched_to_laid name sense labels =
      Either (str_eq_ignore_ascii_case name (codes "rtrue")) (λ o. ((branch_to sense Destination.ReturnTrue, labels), o))
      (λ o. if◌then◌else◌ {A = _ × Out} (str_eq_ignore_ascii_case name (codes "rfalse"))
      ((branch_to sense Destination.ReturnFalse, labels), o)
      (let l = labelled name labels o in ((branch_to sense (Destination.To l.0.0), l.0.1), l.1)))
      (Lays (branch_to sense Destination.ReturnTrue, labels) (Nothing {needs = []}))
      (Either (str_eq_ignore_ascii_case name (codes "rfalse")) (λ o. ((branch_to sense Destination.ReturnFalse, labels), o))
      (λ o. let l = labelled name labels o in ((branch_to sense (Destination.To l.0.0), l.0.1), l.1))
      (Lays (branch_to sense Destination.ReturnFalse, labels) (Nothing {needs = []}))
      (Binds (labelled name labels) (λ l o. ((branch_to sense (Destination.To l.0), l.1), o)) (labelled_laid name labels)
      (λ l. Lays (branch_to sense (Destination.To l.0), l.1) (Nothing {needs = []}))))

  branched_laid : (tokens : List SourceToken) (b : Option (ℕ × Bool)) (labels : List NamedLabel)
      → Laid limits L _ (branched tokens b labels)
  unfolding branched
  branched_laid tokens None labels = Lays (None, labels) (Nothing {needs = []})
  branched_laid tokens (Some b) labels = branched_to_laid (bytes_at tokens b.0) b.1 labels

  jumped_on_laid : (tokens : List SourceToken) (at : Option ℕ) (labels : List NamedLabel) →
      Laid limits L _ (jumped_on limits tokens at labels)
  jumped_on_laid tokens None labels = Lays labels (Nothing {needs = []})
  jumped_on_laid tokens (Some at) labels =
      Binds (labelled (bytes_at tokens at) labels) (λ l o. (l.1, jumped limits l.0 o)) (labelled_laid (bytes_at tokens at) labels)
      (λ l. Lays l.1 (Jumps l.0))

  instructed_laid : (locals : List Local) (tokens : List SourceToken) (op : Opcode) (e : Ends) (trees : List Tree) → TreesMeet L trees
      → (labels : List NamedLabel) → Laid limits L _ (line_instructed limits locals tokens op e trees labels)
  instructed_laid locals tokens op e trees h labels =
      let names = (row_of op).names_variable in
      Binds (branched tokens e.branch labels)
      (λ b o. (b.1, instructed limits names op trees (store_of locals o.names tokens e.store) b.0 o)) (branched_laid tokens e.branch labels)
      (λ b. By (λ o. store_of locals o.names tokens e.store) (λ store o. (b.1, instructed limits names op trees store b.0 o))
      (λ store. Lays b.1 (instructed_made limits L names op trees h store b.0)))

  by_laid : (jumps has_text : Bool) (set : CharSet) (locals : List Local) (tokens : List SourceToken) (op : Opcode) (e : Ends)
      (trees : List Tree) → TreesMeet L trees → (labels : List NamedLabel)
      → Laid limits L _ (line_laid_by limits jumps has_text set locals tokens op e trees labels)
  by_laid true has_text set locals tokens op e trees h labels = jumped_on_laid tokens e.jump labels
  by_laid false true set locals tokens op e trees h labels = Lays labels (some_made limits L set tokens op e.text)
  by_laid false false set locals tokens op e trees h labels = instructed_laid locals tokens op e trees h labels

  as_laid : (fits : Bool) (set : CharSet) (locals : List Local) (tokens : List SourceToken) (op : Opcode) (e : Ends) (trees : List Tree)
      → TreesMeet L trees → (labels : List NamedLabel)
      → Laid limits L _ (line_laid_as limits fits set locals tokens op e trees labels)
  as_laid true set locals tokens op e trees h labels = by_laid (row_of op).jumps (row_of op).has_text set locals tokens op e trees h labels
  as_laid false set locals tokens op e trees h labels = Lays labels (Nothing {needs = []})

  line_is_laid : (set : CharSet) (locals : List Local) (tokens : List SourceToken) (op : Option Opcode) (e : Ends) (trees : List Tree)
      → TreesMeet L trees → (labels : List NamedLabel) → Laid limits L _ (line_laid limits set locals tokens op e trees labels)
  unfolding line_laid
  line_is_laid set locals tokens None e trees h labels = Lays labels (Nothing {needs = []})
  line_is_laid set locals tokens (Some op) e trees h labels = as_laid (fits limits op trees e) set locals tokens op e trees h labels

  -- Lemmas about any statement

  pub statement_is_laid : FixedMeet L → (s : Site) (st : Statement) (trees : List Tree) → TreesMeet L trees → (labels : List NamedLabel)
      → Laid limits L _ (statement_laid limits s st trees labels)
  unfolding statement_laid
  statement_is_laid fixed s Statement.Jump trees h labels =
      Binds (labelled (name_behind s) labels) (λ l o. (l.1, jumped limits l.0 o)) (labelled_laid (name_behind s) labels)
      (λ l. Lays l.1 (Jumps l.0))
  statement_is_laid fixed s Statement.Place trees h labels =
      Binds (placed (name_behind s) labels) (λ l o. (l.1, marked limits l.0 o)) (placed_laid (name_behind s) labels)
      (λ l. Lays l.1 (Marks {needs = []} l.0))
  statement_is_laid fixed s Statement.Assembly trees h labels =
      line_is_laid s.set s.locals s.tokens (opcode_of (name_behind s)) (ends_of s.items) trees h labels
  statement_is_laid fixed s other trees h labels = Lays labels (code_made limits L fixed s trees h other)

  -- Lemmas about changes of an open statement

  front_made : (k : Kind) (c : Construct) → Made limits L (front limits k c) [] (front_labels k c)
  front_made Kind.While c = Marks c.next
  front_made Kind.Do c = Marks c.top
  front_made _ c = Nothing

  pub opened_laid : (k : Kind) → Laid limits L _ (opened limits k)
  unfolding opened
  opened_laid k = Binds (with_labels k) (λ c o. (c, front limits k c o))
      (Takes (λ o. (with_labels k o).0) (λ o. number_behind (number_behind (number_behind o.next)))) (λ c. Lays c (front_made k c))

  joint_made : (c : Construct) (k : Kind) → Made limits L (joint limits c k) (c.end.number ∷ []) (joint_labels c k)
  joint_made c Kind.If = behind (Jumps c.end) (Marks c.next)
  joint_made c Kind.Do = Marks c.next
  joint_made c Kind.For = Marks c.top
  joint_made c (Kind.Objects Over.Nothing v) = Marks c.top
  joint_made c _ = Nothing

  pub between_laid : (c : Construct) → Laid limits L _ (between limits c)
  unfolding between
  between_laid c = Lays (record c { kind = kind_behind c.kind }) (joint_made c c.kind)

  child_meets : (t : Tree) → TreeMeets L t → ChildMeets (children_of t)
  child_meets (Two (Binary.Test Test.In) (Leaf v) e) h = by_list (is_list e)
    where
      by_list : (b : Bool) → ChildMeets (if b then None else Some e)
      by_list true = tt
      by_list false = h.1
  child_meets t h = tt

  looped_by_laid : (parent : Option Tree) → ChildMeets parent → (e : Tree) → TreeMeets L e → (v : ℕ) (c : Construct)
      → Laid limits L _ (looped_by limits parent e v c)
  looped_by_laid (Some parent) k e h v c = Lays _ (children_made limits L parent k v c)
  looped_by_laid None k e h v c = Lays _ (all_made limits L e h v c)

  pub looped_laid : (r : Rooted) → TreeMeets L r.tree → (c : Construct) → Laid limits L _ (looped limits r c)
  unfolding looped
  looped_laid r h c = looped_by_laid (children_of r.tree) (child_meets r.tree h) r.tree h (unwrap_or r.origin.lead.variable 0) c

  case_entered_laid : (are_own is_default : Bool) (old : Case) (had_default : Bool) (c : Construct)
      → Laid limits L _ (case_entered limits are_own is_default old had_default c)
  case_entered_laid are_own true old had_default c =
      Lays (record c { kind = with_case are_own Case.Default true }) (case_closed_made limits L old c.end)
  case_entered_laid are_own false old had_default c = Binds (λ o. (
    record c { kind = with_case are_own (Case.Values (next_label o)) had_default },
    record o { next = number_behind o.next },
  )) (λ d o. (d, case_closed limits old c.end o))
      (Takes (λ o. record c { kind = with_case are_own (Case.Values (next_label o)) had_default }) (λ o. number_behind o.next))
      (λ d. Lays d (case_closed_made limits L old c.end))

  entered_by_laid : (k : Kind) (is_default : Bool) (c : Construct) → Laid limits L _ (entered_by limits k is_default c)
  entered_by_laid (Kind.Switch old had_default) is_default c = case_entered_laid false is_default old had_default c
  entered_by_laid (Kind.Cases old had_default) is_default c = case_entered_laid true is_default old had_default c
  entered_by_laid _ is_default c = Lays c (Nothing {needs = []})

  pub entered_laid : (is_default : Bool) (c : Construct) → Laid limits L _ (entered limits is_default c)
  unfolding entered
  entered_laid is_default c = entered_by_laid c.kind is_default c
