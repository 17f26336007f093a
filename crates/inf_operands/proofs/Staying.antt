-- A use of names that are known changes nothing, and gives what looking them up gives.
use Rattle.std.proofs.Common.{◌≡◌, ℕ, ◌+◌, List, [], ◌∷◌, ◌++◌, length, Bool, true, false, cond, Option, Some, None, refl, sym, ap, ◌∙◌}
use Rattle.std.proofs.Common.{arith}
use Rattle.std.proofs.lemmas.Bool.Decides.{nat_tests}
use Rattle.std.specs.Prelude.{is_some, nat_le}
use Rattle.std.specs.Str.{str_eq_ignore_ascii_case}
use Rattle.inf_settings.specs.Bounds.{Limits}
use Rattle.inf_scanner.specs.declared.tokens.Place.{Place}
use Rattle.inf_characters.specs.declared.characters.CharSet.{CharSet}
use Rattle.inf_expressions.specs.declared.operators.Operand.{Operand}
use Rattle.inf_gathering.specs.declared.gathering.Leaf.{Leaf}
use Rattle.inf_names.proofs.Putting.{index_of-absent}
use Rattle.inf_names.specs.{Spellings.Name, SystemNames.system_meaning, declared.meanings.Meaning.Meaning, declared.symbols.Found.Found}
use Rattle.inf_names.specs.Symbols.{IsDeclared, IsUsed, Standing, Table, folded, found_as, found_in, index_of, number_by, standing_of}
use Rattle.inf_names.specs.Locals.{Local, number_from, local_number, with_named}
use Rattle.inf_unit.proofs.Cases.{of_both}
use Rattle.inf_unit.specs.{Tokens.SourceToken, Units.bytes_at, Units.bytes_of, Units.name_at, declared.items.Item.Item}
use Rattle.inf_output.specs.Output.{Out}
use Rattle.inf_operands.specs.Operands.{Settled, found_operand, is_stack, leaf_named, leaves_named, looked, looked_by, looked_name}
use Rattle.inf_operands.specs.Operands.{settled, settled_by, settled_leaf, settled_name}
use Rattle.inf_operands.specs.Operands.{store_named, stores_named, with_settled}
use Rattle.inf_operands.specs.Uses.{LeafStays, is_new}

-- a name that is neither declared nor used is not among the names
absent : (system : Option Meaning) (s : Option (Standing Place)) → found_as system s ≡ Found.Unknown → is_some s ≡ false
absent system None is = refl
absent system (Some (IsDeclared number meaning place)) is = absurd (cc is)
absent system (Some (IsUsed spelling place)) is = absurd (cc is)

-- its number is that of the next name
next_name : (name : List ℕ) (t : Table Place) → found_in name t ≡ Found.Unknown → nat_le (length t.names) (index_of (folded name) t.names) ≡ true
next_name name t is =
    let last : index_of (folded name) t.names ≡ length t.names =
    index_of-absent (folded name) t.names (absent (system_meaning t.is_debugging name) (standing_of (folded name) t.names) is) in
    grind (arith, nat_tests, last)

-- a name that is no local
used_stays : (limits : Limits) (name : List ℕ) (place : Place) (o : Out) (op : Operand) (f : Found Place) → found_in name o.names ≡ f
    → op ≡ found_operand f (number_by f name o.names) → is_new (length o.names.names) op ≡ false
    → settled_by limits None name place o ≡ (o, op)
used_stays limits name place o op (Found.System m) is e known = rw (is, is) (ap (λ (x : Operand). (o, x)) (sym e))
used_stays limits name place o op (Found.Declared m first) is e known = rw (is, is) (ap (λ (x : Operand). (o, x)) (sym e))
used_stays limits name place o op Found.Used is e known = rw (is, is) (ap (λ (x : Operand). (o, x)) (sym e))
used_stays limits name place o op Found.Unknown is e known =
    let count = length o.names.names in
    let wrong : true ≡ false = sym (next_name name o.names is) ∙ ap (is_new count) (sym e) ∙ known in absurd (cc wrong)

name_stays : (limits : Limits) (name : List ℕ) (place : Place) (o : Out) (op : Operand) (local : Option ℕ)
    → op ≡ looked_by local name o.names → is_new (length o.names.names) op ≡ false → settled_by limits local name place o ≡ (o, op)
name_stays limits name place o op (Some local) e known = ap (λ (x : Operand). (o, x)) (sym e)
name_stays limits name place o op None e known = used_stays limits name place o op (found_in name o.names) refl e known

at_name : (limits : Limits) (locals : List Local) (o : Out) (op : Operand) (name : Option Name)
    → op ≡ looked_name locals o.names (bytes_of name) → is_new (length o.names.names) op ≡ false → is_some name ≡ true
    → settled_name limits locals name o ≡ (o, op)
at_name limits locals o op None e known there = absurd (cc there)
at_name limits locals o op (Some n) e known there = name_stays limits n.bytes n.place o op (local_number n.bytes locals) e known

pub named_stays : (o : Out) (tokens : List SourceToken) (at : ℕ) (op : Operand) → is_new (length o.names.names) op ≡ false
    → is_some (name_at tokens at) ≡ true → LeafStays o tokens (Leaf.Name at) op
named_stays o tokens at op known there limits set locals e = at_name limits locals o op (name_at tokens at) e known there

by_stack : (limits : Limits) (locals : List Local) (tokens : List SourceToken) (at : ℕ) (o : Out) (op : Operand) (b : Bool)
    → op ≡ cond b (Operand.Variable 0) (looked_name locals o.names (bytes_at tokens at)) → is_new (length o.names.names) op ≡ false
    → is_some (name_at tokens at) ≡ true → cond b (o, Operand.Variable 0) (settled_name limits locals (name_at tokens at) o) ≡ (o, op)
by_stack limits locals tokens at o op true e known there = ap (λ (x : Operand). (o, x)) (sym e)
by_stack limits locals tokens at o op false e known there = at_name limits locals o op (name_at tokens at) e known there

pub alone_stays : (o : Out) (tokens : List SourceToken) (at : ℕ) (op : Operand) → is_new (length o.names.names) op ≡ false
    → is_some (name_at tokens at) ≡ true → LeafStays o tokens (Leaf.Alone at) op
alone_stays o tokens at op known there limits set locals e =
    by_stack limits locals tokens at o op (is_stack (bytes_at tokens at) (local_number (bytes_at tokens at) locals)) e known there

pub number_stays : (o : Out) (tokens : List SourceToken) (number : ℕ) (op : Operand) → LeafStays o tokens (Leaf.Number number) op
number_stays o tokens number op limits set locals e = ap (λ (x : Operand). (o, x)) (sym e)

pub char_stays : (o : Out) (tokens : List SourceToken) (zscii : ℕ) (op : Operand) → LeafStays o tokens (Leaf.Char zscii) op
char_stays o tokens zscii op limits set locals e = ap (λ (x : Operand). (o, x)) (sym e)

pub system_stays : (o : Out) (tokens : List SourceToken) (at : ℕ) (op : Operand) → LeafStays o tokens (Leaf.System at) op
system_stays o tokens at op limits set locals e = ap (λ (x : Operand). (o, x)) (sym e)

-- one leaf more, whose use changes nothing
pub leaf_on : (limits : Limits) (set : CharSet) (locals : List Local) (tokens : List SourceToken) (l : Leaf) (leaves : List Leaf) (o : Out)
    (operands : List Operand) (op : Operand) → LeafStays o tokens l op → op ≡ looked locals o.names o.code.scale tokens l
    → settled limits set locals tokens leaves (record { out = o; operands = operands ++ op ∷ [] })
    ≡ settled limits set locals tokens (l ∷ leaves) (record { out = o; operands = operands })
leaf_on limits set locals tokens l leaves o operands op stays e =
    ap (λ (s : Out × Operand). settled limits set locals tokens leaves (with_settled s operands)) (sym (stays limits set locals e))

-- That statements name locals does not matter for the use of names.

named_number : (n : ℕ) (name key : List ℕ) (locals : List Local) → number_from n name (with_named key locals) ≡ number_from n name locals
named_number n name key [] = refl
named_number n name key (l ∷ locals) =
    of_both (λ (ls : List Local). number_from n name ls ≡ number_from n name (l ∷ locals)) (str_eq_ignore_ascii_case l.name key)
    (record { name = l.name; place = l.place; is_named = true } ∷ locals) (l ∷ with_named key locals) (λ _. refl)
    (λ _. ap (λ (r : Option ℕ). cond (str_eq_ignore_ascii_case l.name name) (Some n) r) (named_number (n + 1) name key locals))

-- Some locals have the numbers of others.
pub record Alike (locals others : List Local) : Type 0 where
  pub number : (name : List ℕ) → local_number name locals ≡ local_number name others

pub alike_leaf : (tokens : List SourceToken) (l : Leaf) (locals : List Local) → Alike (leaf_named tokens l locals) locals
alike_leaf tokens (Leaf.Name at) locals = record { number = λ name. named_number 1 name (bytes_at tokens at) locals }
alike_leaf tokens (Leaf.Alone at) locals = record { number = λ name. named_number 1 name (bytes_at tokens at) locals }
alike_leaf tokens (Leaf.Number number) locals = record { number = λ name. refl }
alike_leaf tokens (Leaf.Char zscii) locals = record { number = λ name. refl }
alike_leaf tokens (Leaf.Word word) locals = record { number = λ name. refl }
alike_leaf tokens (Leaf.Text at) locals = record { number = λ name. refl }
alike_leaf tokens (Leaf.Action at) locals = record { number = λ name. refl }
alike_leaf tokens (Leaf.System at) locals = record { number = λ name. refl }

pub alike_leaves : (tokens : List SourceToken) (leaves : List Leaf) (locals : List Local) → Alike (leaves_named tokens leaves locals) locals
alike_leaves tokens [] locals = record { number = λ name. refl }
alike_leaves tokens (l ∷ leaves) locals = record {
  number = λ name. (alike_leaves tokens leaves (leaf_named tokens l locals)).number name ∙ (alike_leaf tokens l locals).number name;
}

pub alike_store : (tokens : List SourceToken) (i : Item) (locals : List Local) → Alike (store_named tokens i locals) locals
alike_store tokens (Item.Store at) locals = record { number = λ name. named_number 1 name (bytes_at tokens at) locals }
alike_store tokens (Item.Text at) locals = record { number = λ name. refl }
alike_store tokens Item.Value locals = record { number = λ name. refl }
alike_store tokens (Item.Ruled rule) locals = record { number = λ name. refl }
alike_store tokens Item.Set locals = record { number = λ name. refl }
alike_store tokens Item.Clear locals = record { number = λ name. refl }
alike_store tokens Item.Default locals = record { number = λ name. refl }
alike_store tokens (Item.Branch at holds) locals = record { number = λ name. refl }
alike_store tokens (Item.Jump at) locals = record { number = λ name. refl }

pub alike_stores : (tokens : List SourceToken) (items : List Item) (locals : List Local) → Alike (stores_named tokens items locals) locals
alike_stores tokens [] locals = record { number = λ name. refl }
alike_stores tokens (i ∷ items) locals = record {
  number = λ name. (alike_stores tokens items (store_named tokens i locals)).number name ∙ (alike_store tokens i locals).number name;
}

name_alike : (limits : Limits) (locals others : List Local) (name : Option Name) (o : Out) → Alike locals others
    → settled_name limits locals name o ≡ settled_name limits others name o
name_alike limits locals others None o alike = refl
name_alike limits locals others (Some n) o alike =
    ap (λ (number : Option ℕ). settled_by limits number n.bytes n.place o) (alike.number n.bytes)

leaf_alike : (limits : Limits) (set : CharSet) (locals others : List Local) (tokens : List SourceToken) (l : Leaf) (o : Out)
    → Alike locals others → settled_leaf limits set locals tokens l o ≡ settled_leaf limits set others tokens l o
leaf_alike limits set locals others tokens (Leaf.Name at) o alike = name_alike limits locals others (name_at tokens at) o alike
leaf_alike limits set locals others tokens (Leaf.Alone at) o alike =
    ap (λ (number : Option ℕ). cond (is_stack (bytes_at tokens at) number) (o, Operand.Variable 0)
    (settled_name limits locals (name_at tokens at) o)) (alike.number (bytes_at tokens at))
    ∙ ap (λ (s : Out × Operand). cond (is_stack (bytes_at tokens at) (local_number (bytes_at tokens at) others)) (o, Operand.Variable 0) s)
    (name_alike limits locals others (name_at tokens at) o alike)
leaf_alike limits set locals others tokens (Leaf.Number number) o alike = refl
leaf_alike limits set locals others tokens (Leaf.Char zscii) o alike = refl
leaf_alike limits set locals others tokens (Leaf.Word word) o alike = refl
leaf_alike limits set locals others tokens (Leaf.Text at) o alike = refl
leaf_alike limits set locals others tokens (Leaf.Action at) o alike = refl
leaf_alike limits set locals others tokens (Leaf.System at) o alike = refl

settled_alike : (limits : Limits) (set : CharSet) (locals others : List Local) (tokens : List SourceToken) (leaves : List Leaf)
    (s : Settled) → Alike locals others → settled limits set locals tokens leaves s ≡ settled limits set others tokens leaves s
settled_alike limits set locals others tokens [] s alike = refl
settled_alike limits set locals others tokens (l ∷ leaves) s alike =
    ap (λ (r : Out × Operand). settled limits set locals tokens leaves (with_settled r s.operands))
    (leaf_alike limits set locals others tokens l s.out alike)
    ∙ settled_alike limits set locals others tokens leaves (with_settled (settled_leaf limits set others tokens l s.out) s.operands) alike

pub settled_named : (limits : Limits) (set : CharSet) (locals : List Local) (tokens : List SourceToken) (leaves : List Leaf)
    (items : List Item) (s : Settled) → settled limits set (stores_named tokens items (leaves_named tokens leaves locals)) tokens leaves s
    ≡ settled limits set locals tokens leaves s
settled_named limits set locals tokens leaves items s =
    settled_alike limits set (stores_named tokens items (leaves_named tokens leaves locals)) locals tokens leaves s (record {
      number = λ name. (alike_stores tokens items (leaves_named tokens leaves locals)).number name
          ∙ (alike_leaves tokens leaves locals).number name;
    })
