-- The names of a unit are used, and its texts, words and actions are added: nothing is laid.
use Rattle.std.proofs.Common.{◌≡◌, ℕ, List, [], ◌∷◌, Option, Some, None, Bool, true, false, refl}
use Rattle.inf_settings.specs.Bounds.{Limits, unbounded}
use Rattle.inf_characters.specs.{declared.characters.CharSet.CharSet, declared.texts.TextItem.TextItem}
use Rattle.inf_dictionary.specs.{Texts.Text, declared.dictionary.AddFault.AddFault, declared.uses.WordUse.WordUse}
use Rattle.inf_dictionary.specs.Words.{add_fault, word_of}
use Rattle.inf_scanner.specs.declared.tokens.Place.{Place}
use Rattle.inf_text.specs.Packing.{packed}
use Rattle.inf_expressions.specs.declared.operators.Operand.{Operand}
use Rattle.inf_gathering.specs.declared.gathering.Leaf.{Leaf}
use Rattle.inf_names.specs.{Locals.Local, Locals.local_number, Spellings.Name, Symbols.declare_fault, Symbols.refer_fault}
use Rattle.inf_names.specs.{declared.symbols.DeclareFault.DeclareFault, declared.symbols.ReferFault.ReferFault}
use Rattle.inf_unit.proofs.Cases.{of_both}
use Rattle.inf_unit.specs.{Tokens.SourceToken, Units.bytes_at, Units.name_at}
use Rattle.inf_verbs.specs.{Routines.action_fault, declared.routines.ActionFault.ActionFault}
use Rattle.inf_output.specs.{Strings.fits, Texts.used_in}
use Rattle.inf_output.specs.Actions.{action_by, appeared, fake_number, key_of, numbered_as, numbered_by, routine_name, routine_of, seen_by}
use Rattle.inf_output.specs.Output.{Out, referred, referred_as, referred_by, with_text, with_text_by, with_word, with_word_by}
use Rattle.inf_operands.specs.Operands.{Settled, is_stack, settled, settled_action, settled_alone, settled_by, settled_leaf, settled_name}
use Rattle.inf_operands.specs.Operands.{settled_text, with_settled}
use Rattle.inf_operands.specs.Texts.{text_at, text_packed}
use Rattle.inf_interpreter.proofs.Naming.{name_stays, names_equal}
use Rattle.inf_control_laws.specs.Runs.{LaysNone}
use Rattle.inf_control_laws.proofs.Laying.{none_alike, none_both, none_past}

passed : {A B : Type 0} {a : A} → Some a ≡ None → B
passed e = absurd (cc e)

none_self : (o : Out) → LaysNone o o
none_self o = none_alike o o refl refl refl refl

-- lemmas about a leaf that is a name
by_referred : (limits : Limits) (f : Option ReferFault) (name : List ℕ) (place : Place) (o : Out) →
    LaysNone o (referred_by limits f name place o)
by_referred limits None name place o = none_past o (referred_by limits None name place o) refl (λ e. e) refl (name_stays name place o)
by_referred limits (Some fault) name place o = none_past o (referred_by limits (Some fault) name place o) refl (λ e. passed e) refl
    (names_equal o (referred_by limits (Some fault) name place o) refl)

referred_none : (limits : Limits) (name : List ℕ) (place : Place) (o : Out) → LaysNone o (referred limits name place o)
referred_none limits name place o = by_referred limits (refer_fault limits name o.names) name place o

by_local : (limits : Limits) (local : Option ℕ) (name : List ℕ) (place : Place) (o : Out) →
    LaysNone o (settled_by limits local name place o).0
by_local limits (Some local) name place o = none_self o
by_local limits None name place o = referred_none limits name place o

name_none : (limits : Limits) (locals : List Local) (name : Option Name) (o : Out) → LaysNone o (settled_name limits locals name o).0
name_none limits locals None o = none_self o
name_none limits locals (Some n) o = by_local limits (local_number n.bytes locals) n.bytes n.place o

alone_none : (limits : Limits) (locals : List Local) (tokens : List SourceToken) (at : ℕ) (o : Out) →
    LaysNone o (settled_alone limits locals tokens at o).0
alone_none limits locals tokens at o =
    of_both (λ (r : Out × Operand). LaysNone o r.0) (is_stack (bytes_at tokens at) (local_number (bytes_at tokens at) locals))
    (o, Operand.Variable 0) (settled_name limits locals (name_at tokens at) o) (λ _. none_self o)
    (λ _. name_none limits locals (name_at tokens at) o)

-- lemmas about a leaf that is a text
by_fitting : (limits : Limits) (b : Bool) (text : List ℕ) (o : Out) → LaysNone o (with_text_by limits b text o)
by_fitting limits true text o = none_alike o (with_text_by limits true text o) refl refl refl refl
by_fitting limits false text o = none_past o (with_text_by limits false text o) refl (λ e. passed e) refl
    (names_equal o (with_text_by limits false text o) refl)

text_none : (limits : Limits) (text : Option (List TextItem)) (o : Out) → LaysNone o (settled_text limits text o).0
text_none limits None o = none_self o
text_none limits (Some items) o =
    let m = text_packed o in
    let text = packed items (used_in o.texts) in
    none_both o m (with_text limits text m) (none_alike o m refl refl refl refl) (by_fitting limits (fits limits text m.strings) text m)

-- a word of the dictionary
by_word : (limits : Limits) (f : Option AddFault) (text : Text) (how : WordUse) (is_plural : Bool) (o : Out) →
    LaysNone o (with_word_by limits f text how is_plural o)
by_word limits None text how is_plural o = none_alike o (with_word_by limits None text how is_plural o) refl refl refl refl
by_word limits (Some AddFault.Full) text how is_plural o =
    none_past o (with_word_by limits (Some AddFault.Full) text how is_plural o) refl (λ e. passed e) refl
    (names_equal o (with_word_by limits (Some AddFault.Full) text how is_plural o) refl)
by_word limits (Some AddFault.OtherVerb) text how is_plural o = none_self o
by_word limits (Some AddFault.Memory) text how is_plural o = none_self o

word_none : (limits : Limits) (text : Text) (how : WordUse) (is_plural : Bool) (o : Out) →
    LaysNone o (with_word limits text how is_plural o)
word_none limits text how is_plural o =
    by_word limits (add_fault limits (word_of text o.tables.dictionary.list) how o.tables.dictionary) text how is_plural o

-- lemmas about a leaf that is an action
by_seen : (f : Option (DeclareFault Place)) (key : List ℕ) (place : Place) (o : Out) → LaysNone o (seen_by f key place o)
by_seen None key place o = none_alike o (seen_by None key place o) refl refl refl refl
by_seen (Some fault) key place o = none_self o

by_number : (limits : Limits) (f : Option ActionFault) (routine : ℕ) (o : Out) → LaysNone o (numbered_by limits f routine o).0
by_number limits None routine o = none_alike o (numbered_by limits None routine o).0 refl refl refl refl
by_number limits (Some fault) routine o = none_past o (numbered_by limits (Some fault) routine o).0 refl (λ e. passed e) refl
    (names_equal o (numbered_by limits (Some fault) routine o).0 refl)

number_none : (limits : Limits) (routine : Option ℕ) (o : Out) → LaysNone o (numbered_as limits routine o).0
number_none limits None o = none_self o
number_none limits (Some routine) o = by_number limits (action_fault limits routine o.tables.actions) routine o

by_fake : (limits : Limits) (fake : Option ℕ) (name : List ℕ) (place : Place) (o : Out) → LaysNone o (action_by limits fake name place o).0
by_fake limits (Some fake) name place o = none_self o
by_fake limits None name place o =
    let m = appeared (key_of name) place o in
    let used = referred limits (routine_name name) place m in
    let number = routine_of (referred_as limits (routine_name name) m) in
    none_both o m (numbered_as limits number used).0 (by_seen (declare_fault unbounded (key_of name) o.seen) (key_of name) place o)
    (none_both m used (numbered_as limits number used).0 (referred_none limits (routine_name name) place m)
    (number_none limits number used))

action_none : (limits : Limits) (name : Option Name) (o : Out) → LaysNone o (settled_action limits name o).0
action_none limits None o = none_self o
action_none limits (Some n) o = by_fake limits (fake_number (key_of n.bytes) o) n.bytes n.place o

-- lemmas about each leaf, and about all leaves of a unit
leaf_none : (limits : Limits) (set : CharSet) (locals : List Local) (tokens : List SourceToken) (l : Leaf) (o : Out) →
    LaysNone o (settled_leaf limits set locals tokens l o).0
leaf_none limits set locals tokens (Leaf.Name at) o = name_none limits locals (name_at tokens at) o
leaf_none limits set locals tokens (Leaf.Alone at) o = alone_none limits locals tokens at o
leaf_none limits set locals tokens (Leaf.Number number) o = none_self o
leaf_none limits set locals tokens (Leaf.Char zscii) o = none_self o
leaf_none limits set locals tokens (Leaf.Word word) o = word_none limits word.text WordUse.Other word.is_plural o
leaf_none limits set locals tokens (Leaf.Text at) o = text_none limits (text_at set tokens at) o
leaf_none limits set locals tokens (Leaf.Action at) o = action_none limits (name_at tokens at) o
leaf_none limits set locals tokens (Leaf.System at) o = none_self o

pub settled_none : (limits : Limits) (set : CharSet) (locals : List Local) (tokens : List SourceToken) (leaves : List Leaf) (s : Settled) →
    LaysNone s.out (settled limits set locals tokens leaves s).out
settled_none limits set locals tokens [] s = none_self s.out
settled_none limits set locals tokens (l ∷ leaves) s =
    let n = with_settled (settled_leaf limits set locals tokens l s.out) s.operands in
    none_both s.out n.out (settled limits set locals tokens leaves n).out (leaf_none limits set locals tokens l s.out)
    (settled_none limits set locals tokens leaves n)
