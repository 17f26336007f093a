-- Expressions and routines declare no name, and add nothing of the kinds that count.
use Rattle.std.proofs.Common.{List, [], ◌∷◌, ℕ, Option, Some, None, Bool, true, false, cond, refl, ◌∙◌}
use Rattle.inf_settings.specs.Bounds.{Limits}
use Rattle.inf_expressions.specs.declared.operators.Operand.{Operand}
use Rattle.inf_scanner.specs.{declared.tokens.Place.Place}
use Rattle.inf_characters.specs.{declared.characters.CharSet.CharSet, declared.texts.TextItem.TextItem}
use Rattle.inf_gathering.specs.declared.gathering.Leaf.{Leaf}
use Rattle.inf_dictionary.specs.{Texts.Text, Words.add_fault, Words.word_of}
use Rattle.inf_dictionary.specs.{declared.dictionary.AddFault.AddFault as WordFault, declared.uses.WordUse.WordUse}
use Rattle.inf_assembler.specs.{declared.routines.CloseFault.CloseFault, declared.routines.Limit.Limit as CodeLimit}
use Rattle.inf_assembler.specs.declared.routines.RoutineKind.{RoutineKind}
use Rattle.inf_verbs.specs.{Routines.action_fault, declared.routines.ActionFault.ActionFault}
use Rattle.inf_names.specs.{Locals.Local, Locals.local_number, Spellings.Name, declared.symbols.DeclareFault.DeclareFault}
use Rattle.inf_names.specs.Symbols.{declare_fault}
use Rattle.inf_settings.specs.Bounds.{unbounded}
use Rattle.inf_code.specs.Code.{fault_closed, full_opened}
use Rattle.inf_unit.specs.{Tokens.SourceToken, Units.bytes_at, Units.name_at}
use Rattle.inf_output.specs.Output.{Out, closed, closed_by, code_closed, opened, opened_by, past_of, with_labels_left, with_text, with_text_by}
use Rattle.inf_output.specs.Output.{referred, referred_as, with_word, with_word_by}
use Rattle.inf_output.specs.Actions.{action_by, appeared, fake_number, key_of, numbered_as, numbered_by, routine_name}
use Rattle.inf_output.specs.Actions.{routine_of, routine_used, seen_by}
use Rattle.inf_operands.specs.Operands.{Settled, is_stack, leaf_added, one_added, settled, settled_action, settled_by}
use Rattle.inf_operands.specs.Operands.{settled_leaf, settled_name, settled_text, with_settled}
use Rattle.inf_output.specs.{Strings.fits, Texts.used_in}
use Rattle.inf_text.specs.Packing.{packed}
use Rattle.inf_operands.specs.Texts.{text_at, text_packed}
use Rattle.inf_declaration_laws.specs.Laws.{Keeps}
use Rattle.inf_declaration_laws.proofs.Names.{referred_keeps}

pub then_keeps : {o p q : Out} → Keeps o p → Keeps p q → Keeps o q
then_keeps a b = record { names = λ t. b.names t ∙ a.names t; counts = b.counts ∙ a.counts }

pub same : (o : Out) → Keeps o o
same o = record { names = λ t. refl; counts = refl }

-- Lemmas about leaves of expressions

module _ (limits : Limits) where
  text_keeps : (b : Bool) (bytes : List ℕ) (o : Out) → Keeps o (with_text_by limits b bytes o)
  text_keeps true bytes o = record { names = λ t. refl; counts = refl }
  text_keeps false bytes o = record { names = λ t. refl; counts = refl }

  with_text_keeps : (bytes : List ℕ) (o : Out) → Keeps o (with_text limits bytes o)
  with_text_keeps bytes o = text_keeps (fits limits bytes o.strings) bytes o

  packed_keeps : (o : Out) → Keeps o (text_packed o)
  packed_keeps o = record { names = λ t. refl; counts = refl }

  settled_text_keeps : (items : Option (List TextItem)) (o : Out) → Keeps o (settled_text limits items o).0
  settled_text_keeps None o = same o
  settled_text_keeps (Some items) o = then_keeps (packed_keeps o) (with_text_keeps (packed items (used_in o.texts)) (text_packed o))

  word_keeps_by : (f : Option WordFault) (text : Text) (how : WordUse) (is_plural : Bool) (o : Out)
      → Keeps o (with_word_by limits f text how is_plural o)
  word_keeps_by None text how is_plural o = record { names = λ t. refl; counts = refl }
  word_keeps_by (Some WordFault.Full) text how is_plural o = record { names = λ t. refl; counts = refl }
  word_keeps_by (Some WordFault.OtherVerb) text how is_plural o = same o
  word_keeps_by (Some WordFault.Memory) text how is_plural o = same o

  word_keeps : (text : Text) (how : WordUse) (is_plural : Bool) (o : Out) → Keeps o (with_word limits text how is_plural o)
  word_keeps text how is_plural o =
      word_keeps_by (add_fault limits (word_of text o.tables.dictionary.list) how o.tables.dictionary) text how is_plural o

  numbered_keeps_by : (f : Option ActionFault) (routine : ℕ) (o : Out) → Keeps o (numbered_by limits f routine o).0
  numbered_keeps_by None routine o = record { names = λ t. refl; counts = refl }
  numbered_keeps_by (Some fault) routine o = record { names = λ t. refl; counts = refl }

  numbered_as_keeps : (routine : Option ℕ) (o : Out) → Keeps o (numbered_as limits routine o).0
  numbered_as_keeps None o = same o
  numbered_as_keeps (Some routine) o = numbered_keeps_by (action_fault limits routine o.tables.actions) routine o

  appeared_keeps_by : (f : Option (DeclareFault Place)) (key : List ℕ) (place : Place) (o : Out) → Keeps o (seen_by f key place o)
  appeared_keeps_by None key place o = record { names = λ t. refl; counts = refl }
  appeared_keeps_by (Some fault) key place o = same o

  routine_keeps : (name : List ℕ) (place : Place) (o : Out) → Keeps o (routine_used limits name place o).0
  routine_keeps name place o = then_keeps (referred_keeps name place o limits)
      (numbered_as_keeps (routine_of (referred_as limits name o)) (referred limits name place o))

  action_keeps_by : (fake : Option ℕ) (name : List ℕ) (place : Place) (o : Out) → Keeps o (action_by limits fake name place o).0
  action_keeps_by (Some fake) name place o = same o
  action_keeps_by None name place o = then_keeps (appeared_keeps_by (declare_fault unbounded (key_of name) o.seen) (key_of name) place o)
      (routine_keeps (routine_name name) place (appeared (key_of name) place o))

  action_keeps : (name : Option Name) (o : Out) → Keeps o (settled_action limits name o).0
  action_keeps None o = same o
  action_keeps (Some n) o = action_keeps_by (fake_number (key_of n.bytes) o) n.bytes n.place o

  settled_keeps_by : (local : Option ℕ) (name : List ℕ) (place : Place) (o : Out) → Keeps o (settled_by limits local name place o).0
  settled_keeps_by (Some local) name place o = same o
  settled_keeps_by None name place o = referred_keeps name place o limits

  name_keeps : (locals : List Local) (name : Option Name) (o : Out) → Keeps o (settled_name limits locals name o).0
  name_keeps locals None o = same o
  name_keeps locals (Some n) o = settled_keeps_by (local_number n.bytes locals) n.bytes n.place o

  module _ (set : CharSet) (locals : List Local) (tokens : List SourceToken) where
    alone_keeps : (b : Bool) (at : ℕ) (o : Out)
        → Keeps o (cond b (o, Operand.Variable 0) (settled_name limits locals (name_at tokens at) o)).0
    alone_keeps true at o = same o
    alone_keeps false at o = name_keeps locals (name_at tokens at) o

    leaf_keeps : (l : Leaf) (o : Out) → Keeps o (settled_leaf limits set locals tokens l o).0
    leaf_keeps (Leaf.Name at) o = name_keeps locals (name_at tokens at) o
    leaf_keeps (Leaf.Alone at) o = alone_keeps (is_stack (bytes_at tokens at) (local_number (bytes_at tokens at) locals)) at o
    leaf_keeps (Leaf.Word word) o = word_keeps word.text WordUse.Other word.is_plural o
    leaf_keeps (Leaf.Text at) o = settled_text_keeps (text_at set tokens at) o
    leaf_keeps (Leaf.Action at) o = action_keeps (name_at tokens at) o
    leaf_keeps other o = same o

    pub settled_keeps : (leaves : List Leaf) (s : Settled) → Keeps s.out (settled limits set locals tokens leaves s).out
    settled_keeps [] s = same s.out
    settled_keeps (l ∷ leaves) s = then_keeps (leaf_keeps l s.out)
        (settled_keeps leaves (with_settled (settled_leaf limits set locals tokens l s.out) s.operands))

    added_keeps : (l : Leaf) (o : Out) → Keeps o (one_added limits set tokens l o)
    added_keeps (Leaf.Word word) o = word_keeps word.text WordUse.Other word.is_plural o
    added_keeps (Leaf.Text at) o = settled_text_keeps (text_at set tokens at) o
    added_keeps (Leaf.Action at) o = action_keeps (name_at tokens at) o
    added_keeps other o = same o

    pub leaves_keep : (leaves : List Leaf) (o : Out) → Keeps o (leaf_added limits set tokens leaves o)
    leaves_keep [] o = same o
    leaves_keep (l ∷ leaves) o = then_keeps (added_keeps l o) (leaves_keep leaves (one_added limits set tokens l o))

  -- Lemmas about the routine of a stub

  opened_keeps : (f : Option CodeLimit) (locals : ℕ) (is_lost : Bool) (o : Out) → Keeps o (opened_by limits f locals is_lost o)
  opened_keeps None locals is_lost o = record { names = λ t. refl; counts = refl }
  opened_keeps (Some limit) locals is_lost o = record { names = λ t. refl; counts = refl }

  closed_keeps_by : (f : Option CloseFault) (how : RoutineKind) (o : Out) → Keeps o (closed_by limits f how o)
  closed_keeps_by None how o = record { names = λ t. refl; counts = refl }
  closed_keeps_by (Some (CloseFault.Full limit)) how o = record { names = λ t. refl; counts = refl }
  closed_keeps_by (Some (CloseFault.LabelMissing label)) how o = record { names = λ t. refl; counts = refl }
  closed_keeps_by (Some (CloseFault.LabelTwice label)) how o = record { names = λ t. refl; counts = refl }
  closed_keeps_by (Some CloseFault.TooFar) how o = record { names = λ t. refl; counts = refl }
  closed_keeps_by (Some CloseFault.Memory) how o = record { names = λ t. refl; counts = refl }

  labels_keep : (rest : Option ℕ) (o : Out) → Keeps o (with_labels_left limits rest o)
  labels_keep None o = record { names = λ t. refl; counts = refl }
  labels_keep (Some rest) o = same o

  closed_keeps : (how : RoutineKind) (o : Out) → Keeps o (closed limits how o)
  closed_keeps how o = then_keeps (closed_keeps_by (fault_closed limits how o.code) how o)
      (labels_keep (past_of limits o).labels (code_closed limits how o))

  pub routine_laid : (locals : ℕ) (how : RoutineKind) (o : Out) → Keeps o (closed limits how (opened limits locals false o))
  routine_laid locals how o =
      then_keeps (opened_keeps (full_opened limits false o.code) locals false o) (closed_keeps how (opened limits locals false o))
