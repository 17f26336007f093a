-- Locals that are noted as named while leaves are looked up, and leaves that are looked up with such locals.
use Rattle.std.proofs.Common.{◌≡◌, ◌<◌, ◌≤◌, ℕ, ◌+◌, List, [], ◌∷◌, ◌++◌, length, map, Bool, true, false, cond, ltb, Option, Some, None}
use Rattle.std.proofs.Common.{refl, ap, ◌∙◌, arith}
use Rattle.std.proofs.lemmas.Bool.Decides.{nat_tests}
use Rattle.std.specs.{List.position_or_len, Str.str_eq_ignore_ascii_case}
use Rattle.inf_area.specs.declared.scale.Scale.{Scale}
use Rattle.inf_expressions.specs.declared.operators.Operand.{Operand}
use Rattle.inf_gathering.specs.declared.gathering.Leaf.{Leaf}
use Rattle.inf_names.proofs.LocalLemmas.{has, number_from-absent, number_from-found}
use Rattle.inf_names.specs.{LocalList.local, Symbols.Table, declared.locals.Local.Local as CodeLocal}
use Rattle.inf_names.specs.Locals.{Local, number_from, local_number, with_named}
use Rattle.inf_output.specs.Output.{Out}
use Rattle.inf_scanner.specs.declared.tokens.Place.{Place}
use Rattle.inf_operands.proofs.Staying.{Alike, alike_leaf}
use Rattle.inf_operands.specs.Operands.{is_stack, leaf_named, looked, looked_alone, looked_by, looked_from, looked_leaf, looked_name}
use Rattle.inf_unit.specs.{Tokens.SourceToken, Units.bytes_at}

-- the place of the local that has a number
pub found : (name : List ℕ) (ls : List CodeLocal) (n : ℕ) → Some n ≡ local_number name (map local ls)
    → (n ≡ 1 + position_or_len (has name) ls) × (position_or_len (has name) ls < length ls)
found name ls n e = go (ltb (position_or_len (has name) ls) (length ls)) refl where
  go : (t : Bool) → ltb (position_or_len (has name) ls) (length ls) ≡ t
      → (n ≡ 1 + position_or_len (has name) ls) × (position_or_len (has name) ls < length ls)
  go true is =
      let lt : position_or_len (has name) ls < length ls = grind (arith, nat_tests) in
      let same : Some n ≡ Some (1 + position_or_len (has name) ls) = e ∙ number_from-found 1 name ls lt in (cc, lt)
  go false is =
      let le : length ls ≤ position_or_len (has name) ls = grind (arith, nat_tests) in
      let none : Some n ≡ None = e ∙ number_from-absent 1 name ls le in absurd (cc none)

-- a name of no local names none
unnamed_from : (n : ℕ) (name : List ℕ) (locals : List Local) → None ≡ number_from n name locals → with_named name locals ≡ locals
unnamed_from n name [] e = refl
unnamed_from n name (l ∷ locals) e = go (str_eq_ignore_ascii_case l.name name) e (unnamed_from (n + 1) name locals) where
  go : (t : Bool) → None ≡ cond t (Some n) (number_from (n + 1) name locals) →
      (None ≡ number_from (n + 1) name locals → with_named name locals ≡ locals) →
      cond t (record { name = l.name; place = l.place; is_named = true } ∷ locals) (l ∷ with_named name locals) ≡ l ∷ locals
  go true e later = absurd (cc e)
  go false e later = ap (λ (ls : List Local). l ∷ ls) (later e)

pub unnamed : (name : List ℕ) (locals : List Local) → None ≡ local_number name locals → with_named name locals ≡ locals
unnamed name locals e = unnamed_from 1 name locals e

pub alike_self : (locals : List Local) → Alike locals locals
alike_self locals = record { number = λ name. refl }

-- a leaf more names a local
pub alike_on : (tokens : List SourceToken) (l : Leaf) (locals others new : List Local) → Alike locals others
    → new ≡ leaf_named tokens l locals → Alike new others
alike_on tokens l locals others new alike e = record {
  number = λ name. ap (λ (ls : List Local). local_number name ls) e ∙ (alike_leaf tokens l locals).number name ∙ alike.number name;
}

-- That statements name locals does not matter for leaves that are looked up.

pub name_looked : (locals others : List Local) (names : Table Place) (name : List ℕ) → Alike locals others
    → looked_name locals names name ≡ looked_name others names name
name_looked locals others names name alike = ap (λ (number : Option ℕ). looked_by number name names) (alike.number name)

alone_looked : (locals others : List Local) (names : Table Place) (name : List ℕ) → Alike locals others
    → looked_alone locals names name ≡ looked_alone others names name
alone_looked locals others names name alike =
    ap (λ (number : Option ℕ). cond (is_stack name number) (Operand.Variable 0) (looked_by number name names)) (alike.number name)

pub leaf_looked : (locals others : List Local) (names : Table Place) (scale : Scale) (tokens : List SourceToken) (l : Leaf)
    → Alike locals others → looked locals names scale tokens l ≡ looked others names scale tokens l
leaf_looked locals others names scale tokens (Leaf.Name at) alike = name_looked locals others names (bytes_at tokens at) alike
leaf_looked locals others names scale tokens (Leaf.Alone at) alike = alone_looked locals others names (bytes_at tokens at) alike
leaf_looked locals others names scale tokens (Leaf.Number number) alike = refl
leaf_looked locals others names scale tokens (Leaf.Char zscii) alike = refl
leaf_looked locals others names scale tokens (Leaf.Word word) alike = refl
leaf_looked locals others names scale tokens (Leaf.Text at) alike = refl
leaf_looked locals others names scale tokens (Leaf.Action at) alike = refl
leaf_looked locals others names scale tokens (Leaf.System at) alike = refl

leaf_looked_ahead : (locals others : List Local) (o : Out) (tokens : List SourceToken) (l : Leaf) (ahead : Table Place)
    → Alike locals others → looked_leaf locals o tokens l ahead ≡ looked_leaf others o tokens l ahead
leaf_looked_ahead locals others o tokens (Leaf.Name at) ahead alike =
    ap (λ (x : Operand). (ahead, x)) (name_looked locals others o.names (bytes_at tokens at) alike)
leaf_looked_ahead locals others o tokens (Leaf.Alone at) ahead alike =
    ap (λ (x : Operand). (ahead, x)) (alone_looked locals others o.names (bytes_at tokens at) alike)
leaf_looked_ahead locals others o tokens (Leaf.Number number) ahead alike = refl
leaf_looked_ahead locals others o tokens (Leaf.Char zscii) ahead alike = refl
leaf_looked_ahead locals others o tokens (Leaf.Word word) ahead alike = refl
leaf_looked_ahead locals others o tokens (Leaf.Text at) ahead alike = refl
leaf_looked_ahead locals others o tokens (Leaf.Action at) ahead alike = refl
leaf_looked_ahead locals others o tokens (Leaf.System at) ahead alike = refl

pub all_looked_ahead : (locals others : List Local) (o : Out) (tokens : List SourceToken) (leaves : List Leaf) (ahead : Table Place)
    (operands : List Operand) → Alike locals others
    → looked_from locals o tokens leaves ahead operands ≡ looked_from others o tokens leaves ahead operands
all_looked_ahead locals others o tokens [] ahead operands alike = refl
all_looked_ahead locals others o tokens (l ∷ leaves) ahead operands alike =
    ap (λ (s : Table Place × Operand). looked_from locals o tokens leaves s.0 (operands ++ s.1 ∷ []))
    (leaf_looked_ahead locals others o tokens l ahead alike)
    ∙ all_looked_ahead locals others o tokens leaves (looked_leaf others o tokens l ahead).0
    (operands ++ (looked_leaf others o tokens l ahead).1 ∷ []) alike

-- one leaf more that is looked up, and is no new action
pub looked_on : (locals others : List Local) (o : Out) (tokens : List SourceToken) (l : Leaf) (leaves : List Leaf) (ahead : Table Place)
    (operands : List Operand) (op : Operand) → Alike locals others → (ahead, op) ≡ looked_leaf locals o tokens l ahead
    → looked_from others o tokens leaves ahead (operands ++ op ∷ []) ≡ looked_from others o tokens (l ∷ leaves) ahead operands
looked_on locals others o tokens l leaves ahead operands op alike e =
    ap (λ (s : Table Place × Operand). looked_from others o tokens leaves s.0 (operands ++ s.1 ∷ []))
    (e ∙ leaf_looked_ahead locals others o tokens l ahead alike)

-- That statements name locals does not matter for the finding about an assembly line.
