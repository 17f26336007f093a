-- The names, texts, words and actions of a unit are settled: the abbreviations with which texts are packed stay.
use Rattle.std.proofs.Common.{◌≡◌, ℕ, List, [], ◌∷◌, Option, Some, None, Bool, true, false, refl, ◌∙◌}
use Rattle.inf_settings.specs.Bounds.{Limits, unbounded}
use Rattle.inf_characters.specs.{declared.characters.CharSet.CharSet, declared.texts.TextItem.TextItem}
use Rattle.inf_dictionary.specs.{Texts.Text, declared.dictionary.AddFault.AddFault, declared.uses.WordUse.WordUse}
use Rattle.inf_dictionary.specs.Words.{add_fault, word_of}
use Rattle.inf_scanner.specs.declared.tokens.Place.{Place}
use Rattle.inf_text.specs.Packing.{packed}
use Rattle.inf_expressions.specs.declared.operators.Operand.{Operand}
use Rattle.inf_gathering.specs.declared.gathering.Leaf.{Leaf}
use Rattle.inf_names.specs.{Locals.Local, Locals.local_number, Spellings.Name, Symbols.declare_fault, Symbols.refer_fault}
use Rattle.inf_names.specs.{declared.symbols.DeclareFault.DeclareFault, declared.symbols.ReferFault.ReferFault}
use Rattle.inf_unit.proofs.Cases.{of_both}
use Rattle.inf_unit.specs.{Tokens.SourceToken, Units.bytes_at, Units.name_at}
use Rattle.inf_verbs.specs.{Routines.action_fault, declared.routines.ActionFault.ActionFault}
use Rattle.inf_output.specs.{Strings.fits, Texts.used_in}
use Rattle.inf_output.specs.Actions.{action_by, appeared, fake_number, key_of, numbered_as, numbered_by, routine_name, routine_of, seen_by}
use Rattle.inf_output.specs.Output.{Out, referred, referred_as, referred_by, with_text_by, with_word, with_word_by}
use Rattle.inf_operands.specs.Operands.{Settled, is_stack, settled, settled_action, settled_alone, settled_by, settled_leaf, settled_name}
use Rattle.inf_operands.specs.Operands.{settled_text, with_settled}
use Rattle.inf_operands.specs.Texts.{text_at, text_packed}

abbrev pub Stay : Out → Out → Type 0
Stay a b = used_in b.texts ≡ used_in a.texts

-- lemmas about a leaf that is a name
by_referred : (limits : Limits) (f : Option ReferFault) (name : List ℕ) (place : Place) (o : Out) →
    Stay o (referred_by limits f name place o)
by_referred limits None name place o = refl
by_referred limits (Some fault) name place o = refl

referred_stays : (limits : Limits) (name : List ℕ) (place : Place) (o : Out) → Stay o (referred limits name place o)
referred_stays limits name place o = by_referred limits (refer_fault limits name o.names) name place o

by_local : (limits : Limits) (local : Option ℕ) (name : List ℕ) (place : Place) (o : Out) → Stay o (settled_by limits local name place o).0
by_local limits (Some local) name place o = refl
by_local limits None name place o = referred_stays limits name place o

name_stays : (limits : Limits) (locals : List Local) (name : Option Name) (o : Out) → Stay o (settled_name limits locals name o).0
name_stays limits locals None o = refl
name_stays limits locals (Some n) o = by_local limits (local_number n.bytes locals) n.bytes n.place o

alone_stays : (limits : Limits) (locals : List Local) (tokens : List SourceToken) (at : ℕ) (o : Out) →
    Stay o (settled_alone limits locals tokens at o).0
alone_stays limits locals tokens at o =
    of_both (λ (r : Out × Operand). Stay o r.0) (is_stack (bytes_at tokens at) (local_number (bytes_at tokens at) locals))
    (o, Operand.Variable 0) (settled_name limits locals (name_at tokens at) o) (λ _. refl)
    (λ _. name_stays limits locals (name_at tokens at) o)

-- lemmas about a leaf that is a text
by_fitting : (limits : Limits) (b : Bool) (text : List ℕ) (o : Out) → Stay o (with_text_by limits b text o)
by_fitting limits true text o = refl
by_fitting limits false text o = refl

text_stays : (limits : Limits) (text : Option (List TextItem)) (o : Out) → Stay o (settled_text limits text o).0
text_stays limits None o = refl
text_stays limits (Some items) o =
    by_fitting limits (fits limits (packed items (used_in o.texts)) (text_packed o).strings) (packed items (used_in o.texts))
    (text_packed o)

-- a word of the dictionary
by_word : (limits : Limits) (f : Option AddFault) (text : Text) (how : WordUse) (is_plural : Bool) (o : Out) →
    Stay o (with_word_by limits f text how is_plural o)
by_word limits None text how is_plural o = refl
by_word limits (Some AddFault.Full) text how is_plural o = refl
by_word limits (Some AddFault.OtherVerb) text how is_plural o = refl
by_word limits (Some AddFault.Memory) text how is_plural o = refl

word_stays : (limits : Limits) (text : Text) (how : WordUse) (is_plural : Bool) (o : Out) → Stay o (with_word limits text how is_plural o)
word_stays limits text how is_plural o =
    by_word limits (add_fault limits (word_of text o.tables.dictionary.list) how o.tables.dictionary) text how is_plural o

-- lemmas about a leaf that is an action
by_seen : (f : Option (DeclareFault Place)) (key : List ℕ) (place : Place) (o : Out) → Stay o (seen_by f key place o)
by_seen None key place o = refl
by_seen (Some fault) key place o = refl

by_number : (limits : Limits) (f : Option ActionFault) (routine : ℕ) (o : Out) → Stay o (numbered_by limits f routine o).0
by_number limits None routine o = refl
by_number limits (Some fault) routine o = refl

number_stays : (limits : Limits) (routine : Option ℕ) (o : Out) → Stay o (numbered_as limits routine o).0
number_stays limits None o = refl
number_stays limits (Some routine) o = by_number limits (action_fault limits routine o.tables.actions) routine o

by_fake : (limits : Limits) (fake : Option ℕ) (name : List ℕ) (place : Place) (o : Out) → Stay o (action_by limits fake name place o).0
by_fake limits (Some fake) name place o = refl
by_fake limits None name place o =
    let m = appeared (key_of name) place o in
    let used = referred limits (routine_name name) place m in
    let number = routine_of (referred_as limits (routine_name name) m) in
    number_stays limits number used ∙ referred_stays limits (routine_name name) place m
    ∙ by_seen (declare_fault unbounded (key_of name) o.seen) (key_of name) place o

action_stays : (limits : Limits) (name : Option Name) (o : Out) → Stay o (settled_action limits name o).0
action_stays limits None o = refl
action_stays limits (Some n) o = by_fake limits (fake_number (key_of n.bytes) o) n.bytes n.place o

-- each leaf, and all leaves of a unit
leaf_stays : (limits : Limits) (set : CharSet) (locals : List Local) (tokens : List SourceToken) (l : Leaf) (o : Out) →
    Stay o (settled_leaf limits set locals tokens l o).0
leaf_stays limits set locals tokens (Leaf.Name at) o = name_stays limits locals (name_at tokens at) o
leaf_stays limits set locals tokens (Leaf.Alone at) o = alone_stays limits locals tokens at o
leaf_stays limits set locals tokens (Leaf.Word word) o = word_stays limits word.text WordUse.Other word.is_plural o
leaf_stays limits set locals tokens (Leaf.Text at) o = text_stays limits (text_at set tokens at) o
leaf_stays limits set locals tokens (Leaf.Action at) o = action_stays limits (name_at tokens at) o
leaf_stays limits set locals tokens other o = refl

pub settled_stays : (limits : Limits) (set : CharSet) (locals : List Local) (tokens : List SourceToken) (leaves : List Leaf) (s : Settled) →
    Stay s.out (settled limits set locals tokens leaves s).out
settled_stays limits set locals tokens [] s = refl
settled_stays limits set locals tokens (l ∷ leaves) s =
    let n = with_settled (settled_leaf limits set locals tokens l s.out) s.operands in
    settled_stays limits set locals tokens leaves n ∙ leaf_stays limits set locals tokens l s.out
