-- The names of a unit name its locals, one after the other.
use Rattle.std.proofs.Common.{◌≡◌, List, [], ◌∷◌, ◌++◌, refl, sym, ◌∙◌, ap}
use Rattle.inf_gathering.specs.declared.gathering.Leaf.{Leaf}
use Rattle.inf_names.specs.{Locals.Local, Locals.with_all_named, Locals.with_named, Spellings.Name}
use Rattle.inf_unit.specs.{Tokens.SourceToken, Units.bytes_at, declared.items.Item.Item}
use Rattle.inf_operands.specs.Operands.{leaves_named, stores_named}
use Rattle.inf_language.specs.NamedLocals.{UnitsNameTheirLocals, leaves_names, stores_names}

named-append : (first second : List Name) (locals : List Local)
    → with_all_named (first ++ second) locals ≡ with_all_named second (with_all_named first locals)
named-append [] second locals = refl
named-append (name ∷ first) second locals = named-append first second (with_named name.bytes locals)

leaves_name : (tokens : List SourceToken) (leaves : List Leaf) (locals : List Local)
    → leaves_named tokens leaves locals ≡ with_all_named (leaves_names tokens leaves) locals
leaves_name tokens [] locals = refl
leaves_name tokens (Leaf.Name at ∷ leaves) locals = leaves_name tokens leaves (with_named (bytes_at tokens at) locals)
leaves_name tokens (Leaf.Alone at ∷ leaves) locals = leaves_name tokens leaves (with_named (bytes_at tokens at) locals)
leaves_name tokens (_ ∷ leaves) locals = leaves_name tokens leaves locals

stores_name : (tokens : List SourceToken) (items : List Item) (locals : List Local)
    → stores_named tokens items locals ≡ with_all_named (stores_names tokens items) locals
stores_name tokens [] locals = refl
stores_name tokens (Item.Store at ∷ items) locals = stores_name tokens items (with_named (bytes_at tokens at) locals)
stores_name tokens (_ ∷ items) locals = stores_name tokens items locals

pub units_name_their_locals : UnitsNameTheirLocals
units_name_their_locals = record {
  leaves = leaves_name;
  stores = stores_name;
  units = λ w.
      let tokens = w.unit.tokens in
      let leaves = w.unit.gathering.leaves in
      let items = w.unit.items in
      ap (λ locals. record w { locals = locals })
      (stores_name tokens items (leaves_named tokens leaves w.locals)
      ∙ (ap (with_all_named (stores_names tokens items)) (leaves_name tokens leaves w.locals)
      ∙ sym (named-append (leaves_names tokens leaves) (stores_names tokens items) w.locals)));
}
