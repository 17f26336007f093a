-- Names by their numbers, leaf by leaf, and their values in a story. Names, texts, words and actions are used one by one: words stay, names
-- only get more, and what the operands of a unit refer to is there.
use Rattle.std.specs.Str.{bytes_eq, str_eq_ignore_ascii_case}
use Rattle.std.specs.Prelude.{is_some, slice_get, ◌+◌}
use Rattle.std.proofs.Common.{Bool, List, None, Option, Some, [], ap, arith, codes, false, if◌then◌else◌, length, refl, subst, suc, sym}
use Rattle.std.proofs.Common.{true, zero, ℕ, ◌++◌, ◌<◌, ◌∷◌, ◌≡◌, ◌≤◌}
use Rattle.inf_characters.specs.{declared.characters.CharSet.CharSet, declared.texts.TextItem.TextItem}
use Rattle.inf_text.specs.Packing.{packed}
use Rattle.inf_area.specs.{Scales.version, declared.scale.Scale.Scale, declared.targets.SystemConstant.SystemConstant}
use Rattle.inf_area.specs.{declared.targets.Target.Target, declared.targets.Value.Value}
use Rattle.inf_expressions.specs.declared.operators.Operand.{Operand}
use Rattle.inf_scanner.specs.declared.tokens.Place.{Place}
use Rattle.inf_gathering.specs.declared.gathering.Leaf.{Leaf}
use Rattle.inf_settings.specs.{Bounds.Limits, Bounds.unbounded, declared.setting.Setting.Setting}
use Rattle.inf_dictionary.specs.{Texts.Text, Words.add_fault, Words.word_of, declared.dictionary.AddFault.AddFault}
use Rattle.inf_dictionary.specs.{declared.uses.WordUse.WordUse}
use Rattle.inf_verbs.specs.{Routines.action_fault, declared.routines.ActionFault.ActionFault}
use Rattle.inf_names.specs.{Locals.Local, Locals.local_number, Spellings.Name, declared.meanings.Meaning.Meaning}
use Rattle.inf_names.specs.{declared.symbols.DeclareFault.DeclareFault, declared.symbols.Found.Found}
use Rattle.inf_names.specs.{declared.symbols.ReferFault.ReferFault, declared.system_names.SystemName.SystemName}
use Rattle.inf_names.specs.Symbols.{IsDeclared, IsUsed, Named, Standing, Table, declare_fault, folded, found_as, found_in, index_of}
use Rattle.inf_names.specs.Symbols.{meaning_in, number_by, put, refer_fault, standing_of, with_used_by}
use Rattle.inf_names.specs.SystemNames.{is_known, meaning_if, meaning_of, named, system_meaning}
use Rattle.inf_output.specs.{Strings.fits, Texts.used_in}
use Rattle.inf_output.specs.Actions.{action_by, action_of, appeared, fake_number, key_of, numbered, numbered_as, numbered_by, routine_name}
use Rattle.inf_output.specs.Actions.{routine_of, routine_referred, seen_by}
use Rattle.inf_output.specs.Output.{Out, referred, referred_as_by, referred_by, with_text, with_text_by, with_word, with_word_by}
use Rattle.inf_unit.specs.{Tokens.SourceToken, Units.bytes_at, Units.name_at}
use Rattle.inf_operands.specs.Texts.{text_at, text_packed}
use Rattle.inf_operands.specs.Operands.{Settled, found_operand, is_stack, leaf_added, one_added, operand_by, settled, settled_action}
use Rattle.inf_operands.specs.Operands.{settled_alone, settled_as, settled_by, settled_leaf, settled_name, settled_text, standing}
use Rattle.inf_operands.specs.Operands.{system_by, system_constant, system_operand, with_settled}
use Rattle.inf_story.specs.Names.{value_by, values_of, with_value}
use Rattle.inf_word_laws.specs.Standing.{AllDirect, AllOf, IsDirect, IsNamed, NamesAreFound, OperandStands, OperandsNamed, OperandsStand}
use Rattle.inf_word_laws.specs.Standing.{Stands}
use Rattle.inf_word_laws.proofs.Steps.{limit_stands, steps_keep_words, used_words_stand}

-- Names by their numbers

-- Lemmas about names in their list

pub not_some : {A B : Type 0} {a : A} → None ≡ Some a → B
not_some e = absurd (cc e)

pub same_some : {A : Type 0} {a b : A} → Some a ≡ Some b → a ≡ b
same_some e = cc e

pub put_longer : (key : List ℕ) (s : Standing Place) (names : List (Named Place)) → length names ≤ length (put key s names)
put_longer key s [] = omega arith
put_longer key s (n ∷ names) = go (bytes_eq key n.name) (put_longer key s names)
  where
    go : (b : Bool) → length names ≤ length (put key s names)
        → length (n ∷ names) ≤ length (if b then record { name = n.name; standing = s } ∷ names else n ∷ put key s names)
    go true later = omega arith
    go false later = omega (arith, later)

pub index_within : (key : List ℕ) (names : List (Named Place)) → is_some (standing_of key names) ≡ true → index_of key names < length names
index_within key [] h = cc
index_within key (n ∷ names) h = go (bytes_eq key n.name) h (λ k. index_within key names k)
  where
    go : (b : Bool) → is_some (if b then Some n.standing else standing_of key names) ≡ true
        → (is_some (standing_of key names) ≡ true → index_of key names < length names)
        → (if b then 0 else index_of key names + 1) < length (n ∷ names)
    go true k later = omega arith
    go false k later = let r = later k in omega (arith, r)

pub index_put : (key : List ℕ) (s : Standing Place) (names : List (Named Place)) → standing_of key names ≡ None →
    index_of key names < length (put key s names)
index_put key s [] h = omega arith
index_put key s (n ∷ names) h = go (bytes_eq key n.name) h (λ k. index_put key s names k)
  where
    go : (b : Bool) → (if b then Some n.standing else standing_of key names) ≡ None
        → (standing_of key names ≡ None → index_of key names < length (put key s names))
        → (if b then 0 else index_of key names + 1)
        < length (if b then record { name = n.name; standing = s } ∷ names else n ∷ put key s names)
    go true k later = absurd (cc k)
    go false k later = let r = later k in omega (arith, r)

-- Names only get more.

abbrev pub Grows : Out → Out → Type 0
Grows o v = length o.names.names ≤ length v.names.names

used_grows : (f : Found Place) (name : List ℕ) (place : Place) (t : Table Place) →
    length t.names ≤ length (with_used_by f name place t).names
used_grows Found.Unknown name place t = put_longer (folded name) (IsUsed name place) t.names
used_grows f name place t = omega arith

pub referred_grows : (limits : Limits) (f : Option ReferFault) (name : List ℕ) (place : Place) (o : Out) →
    Grows o (referred_by limits f name place o)
referred_grows limits None name place o = used_grows (found_in name o.names) name place o.names
referred_grows limits (Some fault) name place o = omega arith

pub fit_grows : (limits : Limits) (b : Bool) (text : List ℕ) (o : Out) → Grows o (with_text_by limits b text o)
fit_grows limits true text o = omega arith
fit_grows limits false text o = omega arith

pub word_grows : (limits : Limits) (f : Option AddFault) (text : Text) (how : WordUse) (is_plural : Bool) (o : Out) →
    Grows o (with_word_by limits f text how is_plural o)
word_grows limits None text how is_plural o = omega arith
word_grows limits (Some AddFault.Full) text how is_plural o = omega arith
word_grows limits (Some AddFault.OtherVerb) text how is_plural o = omega arith
word_grows limits (Some AddFault.Memory) text how is_plural o = omega arith

pub seen_grows : (f : Option (DeclareFault Place)) (key : List ℕ) (place : Place) (o : Out) → Grows o (seen_by f key place o)
seen_grows None key place o = omega arith
seen_grows (Some fault) key place o = omega arith

pub numbered_grows : (limits : Limits) (f : Option ActionFault) (routine : ℕ) (o : Out) → Grows o (numbered_by limits f routine o).0
numbered_grows limits None routine o = omega arith
numbered_grows limits (Some fault) routine o = omega arith

-- A name that is used is among the names, by its number.

abbrev pub IsWithin : Option ℕ → ℕ → Type 0
IsWithin None count = Unit {0}
IsWithin (Some number) count = number < count

pub number_within : (name : List ℕ) (place : Place) (t : Table Place) (system : Option Meaning) (s : Option (Standing Place))
    → standing_of (folded name) t.names ≡ s
    → IsWithin (number_by (found_as system s) name t) (length (with_used_by (found_as system s) name place t).names)
number_within name place t None None e = index_put (folded name) (IsUsed name place) t.names e
number_within name place t (Some m) None e = tt
number_within name place t system (Some (IsDeclared k m first)) e = index_within (folded name) t.names (ap is_some e)
number_within name place t system (Some (IsUsed spelling first)) e = index_within (folded name) t.names (ap is_some e)

pub within_more : (number : Option ℕ) (a b : ℕ) → IsWithin number a → a ≤ b → IsWithin number b
within_more None a b h few = tt
within_more (Some n) a b h few = omega (arith, h, few)

pub referred_number : (limits : Limits) (f : Option ReferFault) (name : List ℕ) (place : Place) (o : Out)
    → IsWithin (routine_of (referred_as_by f name o.names)) (length (referred_by limits f name place o).names.names)
referred_number limits None name place o =
    number_within name place o.names (system_meaning o.names.is_debugging name) (standing_of (folded name) o.names.names) refl
referred_number limits (Some fault) name place o = tt

-- An operand refers to a name or a word that is there, and to no part of an area.
abbrev pub IsBound : Operand → Out → Type 0
IsBound (Operand.Later (Target.Name number)) o = number < length o.names.names
IsBound (Operand.Later (Target.Word text)) o = Stands text o
IsBound (Operand.Later (Target.Part area part)) o = ⊥
IsBound _ o = Unit {0}

-- The language's own names have operands of their own.

own_operand : (n : SystemName) → is_some (standing (meaning_of n)) ≡ true
own_operand SystemName.True = refl
own_operand it = refl

pub own_by : (debugging : Bool) (n : Option SystemName) (m : Meaning) → meaning_if debugging n ≡ Some m → is_some (standing m) ≡ true
own_by debugging None m e = not_some e
own_by debugging (Some n) m e = go (is_known debugging n) e
  where
    go : (b : Bool) → (if b then Some (meaning_of n) else None) ≡ Some m → is_some (standing m) ≡ true
    go true f = subst (λ k. is_some (standing k) ≡ true) (same_some f) (own_operand n)
    go false f = not_some f

own_bound : (m : Meaning) (number : Option ℕ) (v : Out) → is_some (standing m) ≡ true → IsBound (operand_by (standing m) number) v
own_bound (Meaning.Text place) number v h = cc
own_bound (Meaning.Word place) number v h = cc
own_bound (Meaning.LowString place) number v h = cc
own_bound (Meaning.Array place) number v h = cc
own_bound (Meaning.Routine place) number v h = cc
own_bound (Meaning.PackedAddress place) number v h = cc
own_bound m number v h = tt

numbered_bound : (m : Meaning) (n : ℕ) (v : Out) → n < length v.names.names → IsBound (operand_by (standing m) (Some n)) v
numbered_bound (Meaning.Text place) n v h = h
numbered_bound (Meaning.Word place) n v h = h
numbered_bound (Meaning.LowString place) n v h = h
numbered_bound (Meaning.Array place) n v h = h
numbered_bound (Meaning.Routine place) n v h = h
numbered_bound (Meaning.PackedAddress place) n v h = h
numbered_bound m n v h = tt

-- a name that was found, in the output where it was used
found_bound : (name : List ℕ) (place : Place) (t : Table Place) (v : Out) (sys : Option Meaning) (st : Option (Standing Place)) →
    system_meaning t.is_debugging name ≡ sys → standing_of (folded name) t.names ≡ st →
    v.names ≡ with_used_by (found_as sys st) name place t →
    IsBound (found_operand (found_as sys st) (number_by (found_as sys st) name t)) v
found_bound name place t v None None d e is = subst (λ (x : Table Place). index_of (folded name) t.names < length x.names) (sym is)
    (index_put (folded name) (IsUsed name place) t.names e)
found_bound name place t v (Some m) None d e is = own_bound m None v (own_by t.is_debugging (named name) m d)
found_bound name place t v sys (Some (IsDeclared k m first)) d e is = numbered_bound m (index_of (folded name) t.names) v
    (subst (λ (x : Table Place). index_of (folded name) t.names < length x.names) (sym is)
    (index_within (folded name) t.names (ap is_some e)))
found_bound name place t v sys (Some (IsUsed spelling first)) d e is =
    subst (λ (x : Table Place). index_of (folded name) t.names < length x.names) (sym is)
    (index_within (folded name) t.names (ap is_some e))

referred_bound : (limits : Limits) (f : Option ReferFault) (name : List ℕ) (place : Place) (o : Out) →
    IsBound (settled_as (referred_as_by f name o.names)) (referred_by limits f name place o)
referred_bound limits None name place o =
    found_bound name place o.names (referred_by limits None name place o) (system_meaning o.names.is_debugging name)
    (standing_of (folded name) o.names.names) refl refl refl
referred_bound limits (Some fault) name place o = tt

local_bound : (limits : Limits) (local : Option ℕ) (name : List ℕ) (place : Place) (o : Out) →
    IsBound (settled_by limits local name place o).1 (settled_by limits local name place o).0
local_bound limits (Some local) name place o = tt
local_bound limits None name place o = referred_bound limits (refer_fault limits name o.names) name place o

name_bound : (limits : Limits) (locals : List Local) (n : Option Name) (o : Out) →
    IsBound (settled_name limits locals n o).1 (settled_name limits locals n o).0
name_bound limits locals None o = tt
name_bound limits locals (Some n) o = local_bound limits (local_number n.bytes locals) n.bytes n.place o

alone_bound : (limits : Limits) (locals : List Local) (tokens : List SourceToken) (at : ℕ) (o : Out) →
    IsBound (settled_alone limits locals tokens at o).1 (settled_alone limits locals tokens at o).0
alone_bound limits locals tokens at o = go (is_stack (bytes_at tokens at) (local_number (bytes_at tokens at) locals))
  where
    go : (b : Bool) → let r = (if b then (o, Operand.Variable 0) else settled_name limits locals (name_at tokens at) o) in IsBound r.1 r.0
    go true = tt
    go false = name_bound limits locals (name_at tokens at) o

text_bound : (limits : Limits) (items : Option (List TextItem)) (o v : Out) → IsBound (settled_text limits items o).1 v
text_bound limits None o v = tt
text_bound limits (Some items) o v = tt

action_bound : (limits : Limits) (n : Option Name) (o v : Out) → IsBound (settled_action limits n o).1 v
action_bound limits None o v = tt
action_bound limits (Some n) o v = tt

constant_bound : (c : Option SystemConstant) (v : Out) → IsBound (system_by c) v
constant_bound None v = tt
constant_bound (Some c) v = tt

system_bound : (n : List ℕ) (scale : Scale) (v : Out) → IsBound (system_operand n scale) v
system_bound n scale v = go (str_eq_ignore_ascii_case n (codes "version_number"))
  where
    go : (b : Bool) → IsBound (if b then Operand.Known (version scale) else system_by (system_constant n)) v
    go true = tt
    go false = constant_bound (system_constant n) v

pub leaf_bound : (limits : Limits) (set : CharSet) (locals : List Local) (tokens : List SourceToken) (l : Leaf) (o : Out) →
    IsBound (settled_leaf limits set locals tokens l o).1 (settled_leaf limits set locals tokens l o).0
leaf_bound limits set locals tokens (Leaf.Name at) o = name_bound limits locals (name_at tokens at) o
leaf_bound limits set locals tokens (Leaf.Alone at) o = alone_bound limits locals tokens at o
leaf_bound limits set locals tokens (Leaf.Number number) o = tt
leaf_bound limits set locals tokens (Leaf.Char zscii) o = tt
leaf_bound limits set locals tokens (Leaf.Word word) o = used_words_stand limits word.text WordUse.Other word.is_plural o
leaf_bound limits set locals tokens (Leaf.Text at) o =
    text_bound limits (text_at set tokens at) o (settled_text limits (text_at set tokens at) o).0
leaf_bound limits set locals tokens (Leaf.Action at) o =
    action_bound limits (name_at tokens at) o (settled_action limits (name_at tokens at) o).0
leaf_bound limits set locals tokens (Leaf.System at) o = system_bound (bytes_at tokens at) o.code.scale o

-- Values of names

value_below : (values : List Value) (number : ℕ) → number < length values → is_some (slice_get values number) ≡ true
value_below [] number below = absurd (omega (arith, below))
value_below (v ∷ values) zero below = refl
value_below (v ∷ values) (suc number) below = value_below values number (omega (arith, below))

value_direct : (m : Option Meaning) (v : Value) → value_by m ≡ Some v → IsDirect v
value_direct None v e = not_some e
value_direct (Some (Meaning.Function function)) v e = not_some e
value_direct other v e = subst IsDirect (same_some e) tt

-- Some values are as many as some names, and all are direct.
abbrev AreValues : ℕ → List Value → Type 0
AreValues count values = (length values ≡ count) × AllDirect values

one_behind : (count : ℕ) (x : Option Value) (y : Option (List Value)) (values : List Value) → with_value x y ≡ Some values →
    ((v : Value) → x ≡ Some v → IsDirect v) → ((vs : List Value) → y ≡ Some vs → AreValues count vs) → AreValues (suc count) values
one_behind count None y values e d r = not_some e
one_behind count (Some v) None values e d r = not_some e
one_behind count (Some v) (Some vs) values e d r =
    let others = r vs refl in
    let longer : length (v ∷ vs) ≡ suc count = let same = others.0 in omega (arith, same) in
    subst (AreValues (suc count)) (same_some e) (longer, (d v refl, others.1))

are_values : (names : List (Named Place)) (values : List Value) → values_of names ≡ Some values → AreValues (length names) values
are_values [] values e = subst (AreValues 0) (same_some e) (refl, tt)
are_values (n ∷ names) values e =
    let more = one_behind (length names) (value_by (meaning_in (Some n.standing))) (values_of names) values e
    (λ v is. value_direct (meaning_in (Some n.standing)) v is) (λ vs is. are_values names vs is) in
    let same : length values ≡ length (n ∷ names) = let is = more.0 in omega (arith, is) in
    (same, more.1)

pub names_are_found : NamesAreFound
names_are_found names values e =
    let all = are_values names values e in record {
      found = λ tables number below. value_below values number (let same = all.0 in omega (arith, same, below));
      direct = all.1;
    }

-- Names, texts, words and actions that a unit uses

-- An output becomes another one by what is used: a text is packed, or added; a word is looked up; a name is used, or appears as an action; and
-- an action has its number, by a routine that is among the names.
pub data Used (limits : Limits) : Out → Out → Type 0 where
  Still : {o : Out} → Used limits o o
  Both : {o p v : Out} → Used limits o p → Used limits p v → Used limits o v
  Packs : {o : Out} → Used limits o (text_packed o)
  Adds : {o : Out} (text : List ℕ) → Used limits o (with_text limits text o)
  Looks : {o : Out} (text : Text) (how : WordUse) (is_plural : Bool) → Used limits o (with_word limits text how is_plural o)
  Names : {o : Out} (name : List ℕ) (place : Place) → Used limits o (referred limits name place o)
  Appears : {o : Out} (key : List ℕ) (place : Place) → Used limits o (appeared key place o)
  Numbers : {o : Out} (routine : ℕ) → routine < length o.names.names → Used limits o (numbered limits routine o).0

module _ {limits : Limits} where
  number_used : (routine : Option ℕ) (o : Out) → IsWithin routine (length o.names.names) → Used limits o (numbered_as limits routine o).0
  number_used None o within = Still
  number_used (Some routine) o within = Numbers routine within

  pub action_used : (name : List ℕ) (place : Place) (o : Out) → Used limits o (action_of limits name place o).0
  action_used name place o = go (fake_number (key_of name) o)
    where
      go : (fake : Option ℕ) → Used limits o (action_by limits fake name place o).0
      go (Some fake) = Still
      go None =
          let v = appeared (key_of name) place o in
          let r = routine_referred limits (routine_name name) place v in
          Both {p = v} (Appears (key_of name) place) (Both {p = r.0} (Names (routine_name name) place)
          (number_used r.1 r.0 (referred_number limits (refer_fault limits (routine_name name) v.names) (routine_name name) place v)))

  by_used : (local : Option ℕ) (name : List ℕ) (place : Place) (o : Out) → Used limits o (settled_by limits local name place o).0
  by_used (Some local) name place o = Still
  by_used None name place o = Names name place

  name_used : (locals : List Local) (n : Option Name) (o : Out) → Used limits o (settled_name limits locals n o).0
  name_used locals None o = Still
  name_used locals (Some n) o = by_used (local_number n.bytes locals) n.bytes n.place o

  alone_used : (locals : List Local) (tokens : List SourceToken) (at : ℕ) (o : Out)
      → Used limits o (settled_alone limits locals tokens at o).0
  alone_used locals tokens at o = go (is_stack (bytes_at tokens at) (local_number (bytes_at tokens at) locals))
    where
      go : (b : Bool) → Used limits o (if b then (o, Operand.Variable 0) else settled_name limits locals (name_at tokens at) o).0
      go true = Still
      go false = name_used locals (name_at tokens at) o

  text_used : (items : Option (List TextItem)) (o : Out) → Used limits o (settled_text limits items o).0
  text_used None o = Still
  text_used (Some items) o = Both {p = text_packed o} Packs (Adds (packed items (used_in o.texts)))

  some_action_used : (n : Option Name) (o : Out) → Used limits o (settled_action limits n o).0
  some_action_used None o = Still
  some_action_used (Some n) o = action_used n.bytes n.place o

  leaf_used : (set : CharSet) (locals : List Local) (tokens : List SourceToken) (l : Leaf) (o : Out)
      → Used limits o (settled_leaf limits set locals tokens l o).0
  leaf_used set locals tokens (Leaf.Name at) o = name_used locals (name_at tokens at) o
  leaf_used set locals tokens (Leaf.Alone at) o = alone_used locals tokens at o
  leaf_used set locals tokens (Leaf.Word word) o = Looks word.text WordUse.Other word.is_plural
  leaf_used set locals tokens (Leaf.Text at) o = text_used (text_at set tokens at) o
  leaf_used set locals tokens (Leaf.Action at) o = some_action_used (name_at tokens at) o
  leaf_used set locals tokens l o = Still

  one_added_used : (set : CharSet) (tokens : List SourceToken) (l : Leaf) (o : Out) → Used limits o (one_added limits set tokens l o)
  one_added_used set tokens (Leaf.Text at) o = text_used (text_at set tokens at) o
  one_added_used set tokens (Leaf.Word word) o = Looks word.text WordUse.Other word.is_plural
  one_added_used set tokens (Leaf.Action at) o = some_action_used (name_at tokens at) o
  one_added_used set tokens _ o = Still

  pub added_used : (set : CharSet) (tokens : List SourceToken) (leaves : List Leaf) (o : Out)
      → Used limits o (leaf_added limits set tokens leaves o)
  added_used set tokens [] o = Still
  added_used set tokens (l ∷ leaves) o =
      Both (one_added_used set tokens l o) (added_used set tokens leaves (one_added limits set tokens l o))

  pub settled_used : (set : CharSet) (locals : List Local) (tokens : List SourceToken) (leaves : List Leaf) (s : Settled)
      → Used limits s.out (settled limits set locals tokens leaves s).out
  settled_used set locals tokens [] s = Still
  settled_used set locals tokens (l ∷ leaves) s = Both (leaf_used set locals tokens l s.out)
      (settled_used set locals tokens leaves (with_settled (settled_leaf limits set locals tokens l s.out) s.operands))

-- Words stay, and names only get more.

seen_stands : (f : Option (DeclareFault Place)) (key : List ℕ) (place : Place) (text : Text) (o : Out) → Stands text o
    → Stands text (seen_by f key place o)
seen_stands None key place text o stands = stands
seen_stands (Some fault) key place text o stands = stands

numbered_stands : (limits : Limits) (f : Option ActionFault) (routine : ℕ) (text : Text) (o : Out) → Stands text o
    → Stands text (numbered_by limits f routine o).0
numbered_stands limits None routine text o stands = stands
numbered_stands limits (Some fault) routine text o stands = limit_stands limits Setting.Actions text o

words_stay : {limits : Limits} {o v : Out} → Used limits o v → (text : Text) → Stands text o → Stands text v
words_stay Still text h = h
words_stay (Both f g) text h = words_stay g text (words_stay f text h)
words_stay Packs text h = h
words_stay {limits} (Adds {o} added) text h = ((steps_keep_words limits).text added).keeps text o h
words_stay {limits} (Looks {o} word how is_plural) text h = ((steps_keep_words limits).word word how is_plural).keeps text o h
words_stay {limits} (Names {o} name place) text h = ((steps_keep_words limits).refers name place).keeps text o h
words_stay (Appears {o} key place) text h = seen_stands (declare_fault unbounded key o.seen) key place text o h
words_stay {limits} (Numbers {o} routine within) text h =
    numbered_stands limits (action_fault limits routine o.tables.actions) routine text o h

names_grow : {limits : Limits} {o v : Out} → Used limits o v → Grows o v
names_grow Still = omega arith
names_grow (Both f g) = let a = names_grow f in let b = names_grow g in omega (arith, a, b)
names_grow Packs = omega arith
names_grow {limits} (Adds {o} text) = fit_grows limits (fits limits text o.strings) text o
names_grow {limits} (Looks {o} text how is_plural) =
    word_grows limits (add_fault limits (word_of text o.tables.dictionary.list) how o.tables.dictionary) text how is_plural o
names_grow {limits} (Names {o} name place) = referred_grows limits (refer_fault limits name o.names) name place o
names_grow (Appears {o} key place) = seen_grows (declare_fault unbounded key o.seen) key place o
names_grow {limits} (Numbers {o} routine within) = numbered_grows limits (action_fault limits routine o.tables.actions) routine o

-- A fact of operands that refer to what is there, which stays where more is used, holds of all operands of a unit.

module _ {limits : Limits} (P : Operand → Out → Type 0) (stays : (x : Operand) (o v : Out) → Used limits o v → P x o → P x v)
    (bound : (x : Operand) (v : Out) → IsBound x v → P x v) where
  one_more : (operands : List Operand) (x : Operand) (o v : Out) → Used limits o v → P x v → AllOf (λ (y : Operand). P y o) operands
      → AllOf (λ (y : Operand). P y v) (operands ++ x ∷ [])
  one_more [] x o v g h all = (h, tt)
  one_more (y ∷ operands) x o v g h all = (stays y o v g all.0, one_more operands x o v g h all.1)

  pub all_settled : (set : CharSet) (locals : List Local) (tokens : List SourceToken) (leaves : List Leaf) (s : Settled)
      → AllOf (λ (y : Operand). P y s.out) s.operands
      → AllOf (λ (y : Operand). P y (settled limits set locals tokens leaves s).out) (settled limits set locals tokens leaves s).operands
  all_settled set locals tokens [] s all = all
  all_settled set locals tokens (l ∷ leaves) s all =
      let r = settled_leaf limits set locals tokens l s.out in
      all_settled set locals tokens leaves (with_settled r s.operands)
      (one_more s.operands r.1 s.out r.0 (leaf_used set locals tokens l s.out)
      (bound r.1 r.0 (leaf_bound limits set locals tokens l s.out)) all)

stand_stays : {limits : Limits} (x : Operand) (o v : Out) → Used limits o v → OperandStands x o → OperandStands x v
stand_stays (Operand.Later (Target.Word text)) o v g h = words_stay g text h
stand_stays x o v g h = tt

bound_stands : (x : Operand) (v : Out) → IsBound x v → OperandStands x v
bound_stands (Operand.Later (Target.Word text)) v h = h
bound_stands x v h = tt

named_stays : {limits : Limits} (x : Operand) (o v : Out) → Used limits o v → IsNamed x o → IsNamed x v
named_stays (Operand.Later (Target.Name number)) o v g h = let a = names_grow g in omega (arith, a, h)
named_stays x o v g h = tt

bound_named : (x : Operand) (v : Out) → IsBound x v → IsNamed x v
bound_named (Operand.Later (Target.Name number)) v h = h
bound_named x v h = tt

pub operands_stand : (limits : Limits) → OperandsStand limits
operands_stand limits = record {
  stand = all_settled {limits = limits} OperandStands stand_stays bound_stands;
  added = λ set tokens leaves. record { keeps = λ text o. words_stay {limits = limits} (added_used set tokens leaves o) text };
}

pub operands_named : (limits : Limits) → OperandsNamed limits
operands_named limits = record {
  named = all_settled {limits = limits} IsNamed named_stays bound_named;
  grow = λ set locals tokens leaves s. names_grow {limits = limits} (settled_used set locals tokens leaves s);
}
