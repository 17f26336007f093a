-- Expressions leave the arrays.
use Rattle.std.proofs.Common.{◌≡◌, ℕ, List, [], ◌∷◌, Option, Some, None, Bool, true, false, cond, refl, ◌∙◌}
use Rattle.inf_settings.specs.Bounds.{Limits, unbounded}
use Rattle.inf_characters.specs.{declared.characters.CharSet.CharSet, declared.texts.TextItem.TextItem}
use Rattle.inf_scanner.specs.declared.tokens.Place.{Place}
use Rattle.inf_gathering.specs.declared.gathering.Leaf.{Leaf}
use Rattle.inf_dictionary.specs.{Texts.Text, Words.add_fault, Words.word_of}
use Rattle.inf_dictionary.specs.{declared.dictionary.AddFault.AddFault as WordFault, declared.uses.WordUse.WordUse}
use Rattle.inf_verbs.specs.{Routines.action_fault, declared.routines.ActionFault.ActionFault}
use Rattle.inf_expressions.specs.declared.operators.Operand.{Operand}
use Rattle.inf_names.specs.{Locals.Local, Locals.local_number, Spellings.Name, Symbols.declare_fault, Symbols.refer_fault}
use Rattle.inf_names.specs.declared.symbols.{DeclareFault.DeclareFault, ReferFault.ReferFault}
use Rattle.inf_text.specs.Packing.{packed}
use Rattle.inf_unit.specs.{Tokens.SourceToken, Units.bytes_at, Units.name_at}
use Rattle.inf_output.specs.{Strings.fits, Texts.used_in}
use Rattle.inf_output.specs.Output.{Out, referred, referred_as, referred_by, with_text_by, with_word, with_word_by}
use Rattle.inf_output.specs.Actions.{action_by, appeared, fake_number, key_of, numbered_as, numbered_by, routine_name, routine_of, seen_by}
use Rattle.inf_operands.specs.Operands.{Settled, is_stack, settled, settled_action, settled_by, settled_leaf, settled_name, settled_text}
use Rattle.inf_operands.specs.Operands.{with_settled}
use Rattle.inf_operands.specs.Texts.{text_at, text_packed}

module _ (limits : Limits) where
  word_stays_by : (f : Option WordFault) (text : Text) (how : WordUse) (is_plural : Bool) (o : Out)
      → (with_word_by limits f text how is_plural o).tables.arrays ≡ o.tables.arrays
  word_stays_by None text how is_plural o = refl
  word_stays_by (Some WordFault.Full) text how is_plural o = refl
  word_stays_by (Some WordFault.OtherVerb) text how is_plural o = refl
  word_stays_by (Some WordFault.Memory) text how is_plural o = refl

  word_stays : (text : Text) (how : WordUse) (is_plural : Bool) (o : Out)
      → (with_word limits text how is_plural o).tables.arrays ≡ o.tables.arrays
  word_stays text how is_plural o =
      word_stays_by (add_fault limits (word_of text o.tables.dictionary.list) how o.tables.dictionary) text how is_plural o

  text_stays_by : (b : Bool) (bytes : List ℕ) (o : Out) → (with_text_by limits b bytes o).tables.arrays ≡ o.tables.arrays
  text_stays_by true bytes o = refl
  text_stays_by false bytes o = refl

  text_stays : (items : Option (List TextItem)) (o : Out) → (settled_text limits items o).0.tables.arrays ≡ o.tables.arrays
  text_stays None o = refl
  text_stays (Some items) o =
      text_stays_by (fits limits (packed items (used_in o.texts)) (text_packed o).strings) (packed items (used_in o.texts)) (text_packed o)

  referred_stays : (name : List ℕ) (at : Place) (o : Out) → (referred limits name at o).tables.arrays ≡ o.tables.arrays
  referred_stays name at o = by (refer_fault limits name o.names)
    where
      by : (r : Option ReferFault) → (referred_by limits r name at o).tables.arrays ≡ o.tables.arrays
      by None = refl
      by (Some fault) = refl

  numbered_stays_by : (f : Option ActionFault) (routine : ℕ) (o : Out) → (numbered_by limits f routine o).0.tables.arrays ≡ o.tables.arrays
  numbered_stays_by None routine o = refl
  numbered_stays_by (Some fault) routine o = refl

  numbered_stays : (routine : Option ℕ) (o : Out) → (numbered_as limits routine o).0.tables.arrays ≡ o.tables.arrays
  numbered_stays None o = refl
  numbered_stays (Some routine) o = numbered_stays_by (action_fault limits routine o.tables.actions) routine o

  appeared_stays : (f : Option (DeclareFault Place)) (key : List ℕ) (at : Place) (o : Out)
      → (seen_by f key at o).tables.arrays ≡ o.tables.arrays
  appeared_stays None key at o = refl
  appeared_stays (Some fault) key at o = refl

  action_stays_by : (fake : Option ℕ) (name : List ℕ) (at : Place) (o : Out)
      → (action_by limits fake name at o).0.tables.arrays ≡ o.tables.arrays
  action_stays_by (Some fake) name at o = refl
  action_stays_by None name at o =
      let p = appeared (key_of name) at o in
      numbered_stays (routine_of (referred_as limits (routine_name name) p)) (referred limits (routine_name name) at p)
      ∙ referred_stays (routine_name name) at p
      ∙ appeared_stays (declare_fault unbounded (key_of name) o.seen) (key_of name) at o

  action_stays : (name : Option Name) (o : Out) → (settled_action limits name o).0.tables.arrays ≡ o.tables.arrays
  action_stays None o = refl
  action_stays (Some n) o = action_stays_by (fake_number (key_of n.bytes) o) n.bytes n.place o

  name_stays_by : (local : Option ℕ) (name : List ℕ) (at : Place) (o : Out)
      → (settled_by limits local name at o).0.tables.arrays ≡ o.tables.arrays
  name_stays_by (Some local) name at o = refl
  name_stays_by None name at o = referred_stays name at o

  name_stays : (locals : List Local) (name : Option Name) (o : Out) → (settled_name limits locals name o).0.tables.arrays ≡ o.tables.arrays
  name_stays locals None o = refl
  name_stays locals (Some n) o = name_stays_by (local_number n.bytes locals) n.bytes n.place o

  alone_stays : (locals : List Local) (tokens : List SourceToken) (b : Bool) (at : ℕ) (o : Out)
      → (cond b (o, Operand.Variable 0) (settled_name limits locals (name_at tokens at) o)).0.tables.arrays ≡ o.tables.arrays
  alone_stays locals tokens true at o = refl
  alone_stays locals tokens false at o = name_stays locals (name_at tokens at) o

  leaf_stays : (set : CharSet) (locals : List Local) (tokens : List SourceToken) (l : Leaf) (o : Out)
      → (settled_leaf limits set locals tokens l o).0.tables.arrays ≡ o.tables.arrays
  leaf_stays set locals tokens (Leaf.Name at) o = name_stays locals (name_at tokens at) o
  leaf_stays set locals tokens (Leaf.Alone at) o =
      alone_stays locals tokens (is_stack (bytes_at tokens at) (local_number (bytes_at tokens at) locals)) at o
  leaf_stays set locals tokens (Leaf.Word word) o = word_stays word.text WordUse.Other word.is_plural o
  leaf_stays set locals tokens (Leaf.Text at) o = text_stays (text_at set tokens at) o
  leaf_stays set locals tokens (Leaf.Action at) o = action_stays (name_at tokens at) o
  leaf_stays set locals tokens other o = refl

  pub settled_stays : (set : CharSet) (locals : List Local) (tokens : List SourceToken) (leaves : List Leaf) (s : Settled)
      → (settled limits set locals tokens leaves s).out.tables.arrays ≡ s.out.tables.arrays
  settled_stays set locals tokens [] s = refl
  settled_stays set locals tokens (l ∷ leaves) s =
      settled_stays set locals tokens leaves (with_settled (settled_leaf limits set locals tokens l s.out) s.operands)
      ∙ leaf_stays set locals tokens l s.out
