-- Operands and ends that fit an opcode's row are those that the opcode takes.
use Rattle.std.proofs.Common.{◌≡◌, ◌≤◌, ◌-◌, ◌==◌, ℕ, suc, Bool, true, false, not, cond, List, [], ◌∷◌, ◌&&◌, length, Option, refl, sym, ap}
use Rattle.std.proofs.Common.{subst, ◌∙◌, arith, is_some, nat_le}
use Rattle.std.proofs.lemmas.Bool.{and_parts, eqb-true, leb-true}
use Rattle.inf_settings.specs.Bounds.{Limits}
use Rattle.inf_opcode.specs.{Opcodes.row_of, declared.instructions.Branch.Branch, declared.opcodes.Opcode.Opcode}
use Rattle.inf_opcode.specs.{declared.opcodes.OpcodeRow.OpcodeRow}
use Rattle.inf_output.specs.Output.{Takes, TakesVariable}
use Rattle.inf_expressions.specs.{Trees.Tree, declared.trees.Root.Root}
use Rattle.inf_statements.specs.{Statements.PrintsText, declared.assembly.Ends.Ends}
use Rattle.inf_statements.specs.Assembly.{first_variable, fits, fits_jump, fits_row, has_ends, prints, same}
use Rattle.inf_constructs.specs.Roots.{trees_from}

same_as : (a b : Bool) → same a b ≡ true → b ≡ a
same_as true true is = refl
same_as true false is = cc
same_as false true is = cc
same_as false false is = refl

-- The ends of a line that fit a row, one by one.
pub record HasEnds (row : OpcodeRow) (e : Ends) : Type 0 where
  pub stores : is_some e.store ≡ row.stores
  pub branches : is_some e.branch ≡ row.branches

ends_parts : (row : OpcodeRow) (e : Ends) → has_ends row e ≡ true → HasEnds row e
ends_parts row e is =
    let first =
    and_parts (same row.stores (is_some e.store) && same row.branches (is_some e.branch)) (same row.has_text (is_some e.text)) is in
    let both = and_parts (same row.stores (is_some e.store)) (same row.branches (is_some e.branch)) first.0 in
    record { stores = same_as row.stores (is_some e.store) both.0; branches = same_as row.branches (is_some e.branch) both.1 }

pub record FitsRow (row : OpcodeRow) (operands : ℕ) (has_variable : Bool) (e : Ends) : Type 0 where
  pub enough : row.least ≤ operands
  pub few : operands ≤ row.most
  pub eight : operands ≤ 8
  pub variable : cond row.names_variable has_variable true ≡ true
  pub ends : HasEnds row e

pub row_parts : (row : OpcodeRow) (operands : ℕ) (has_variable : Bool) (e : Ends) → fits_row row operands has_variable e ≡ true →
    FitsRow row operands has_variable e
row_parts row operands has_variable e is =
    let a = and_parts (nat_le row.least operands && nat_le operands row.most && nat_le operands 8 && cond row.names_variable has_variable
    true) (has_ends row e) is in
    let b = and_parts (nat_le row.least operands && nat_le operands row.most && nat_le operands 8)
    (cond row.names_variable has_variable true) a.0 in
    let d = and_parts (nat_le row.least operands && nat_le operands row.most) (nat_le operands 8) b.0 in
    let c = and_parts (nat_le row.least operands) (nat_le operands row.most) d.0 in
    record {
      enough = leb-true row.least operands c.0;
      few = leb-true operands row.most c.1;
      eight = leb-true operands 8 d.1;
      variable = b.1;
      ends = ends_parts row e a.1;
    }

-- the first operand is a variable where the opcode wants one
has_first : (b v : Bool) → b ≡ true → cond b v true ≡ true → v ≡ true
has_first true v is holds = holds
has_first false v is holds = cc

some_tree : (limits : Limits) (trees : List Tree) → is_some (first_variable limits trees) ≡ true → 1 ≤ length trees
some_tree limits [] is = cc
some_tree limits (e ∷ trees) is = omega arith

-- a negated test that holds is one that does not
not_true : (b : Bool) → not b ≡ true → b ≡ false
not_true true is = cc
not_true false is = refl

pub prints_text : (op : Opcode) → prints (row_of op) ≡ true → PrintsText op
prints_text op is =
    let row = row_of op in
    let a = and_parts (row.has_text && not row.jumps && not row.stores && not row.branches) (row.least == 0) is in
    let b = and_parts (row.has_text && not row.jumps && not row.stores) (not row.branches) a.0 in
    let c = and_parts (row.has_text && not row.jumps) (not row.stores) b.0 in
    let d = and_parts row.has_text (not row.jumps) c.0 in
    record {
      none = eqb-true row.least 0 a.1;
      stores = not_true row.stores c.1;
      branches = not_true row.branches b.1;
      jump = not_true row.jumps d.1;
      text = d.0;
    }

-- As many trees as roots lie at the roots.
length-trees : (nodes : List Tree) (roots : List Root) → length (trees_from nodes roots) ≡ length roots
length-trees nodes [] = refl
length-trees nodes (r ∷ roots) = ap suc (length-trees nodes roots)

pub few_roots : (op : Opcode) (nodes : List Tree) (roots : List Root) (v : Bool) (e : Ends) →
    fits_row (row_of op) (length (trees_from nodes roots)) v e ≡ true → length roots ≤ 8
few_roots op nodes roots v e fits =
    let row = row_parts (row_of op) (length (trees_from nodes roots)) v e fits in omega (arith, row.eight, length-trees nodes roots)

pub takes_operands : (op : Opcode) (nodes : List Tree) (roots : List Root) (v : Bool) (e : Ends) (count : ℕ) (store : Option ℕ)
    (branch : Option Branch) → count ≡ length roots → is_some store ≡ is_some e.store → is_some branch ≡ is_some e.branch
    → (row_of op).jumps ≡ false → (row_of op).has_text ≡ false → (row_of op).names_variable ≡ false → fits_row (row_of op)
    (length (trees_from nodes roots)) v e ≡ true → Takes op count (is_some store) (is_some branch)
takes_operands op nodes roots v e count store branch counts stores branches jumps text names fits =
    let row = row_parts (row_of op) (length (trees_from nodes roots)) v e fits in let len = length-trees nodes roots in
    record {
      enough = omega (arith, row.enough, len, counts);
      few = omega (arith, row.few, len, counts);
      variable = names;
      jump = jumps;
      stores = stores ∙ row.ends.stores;
      branches = branches ∙ row.ends.branches;
      text = text;
    }

pub takes_named : (limits : Limits) (op : Opcode) (nodes : List Tree) (roots : List Root) (e : Ends) (store : Option ℕ)
    (branch : Option Branch) → is_some store ≡ is_some e.store → is_some branch ≡ is_some e.branch
    → (row_of op).jumps ≡ false → (row_of op).has_text ≡ false → (row_of op).names_variable ≡ true
    → fits_row (row_of op) (length (trees_from nodes roots)) (is_some (first_variable limits (trees_from nodes roots))) e ≡ true
    → TakesVariable op (length roots - 1) (is_some store) (is_some branch)
takes_named limits op nodes roots e store branch stores branches jumps text names fits =
    let trees = trees_from nodes roots in
    let row = row_parts (row_of op) (length trees) (is_some (first_variable limits trees)) e fits in
    let one = some_tree limits trees (has_first (row_of op).names_variable (is_some (first_variable limits trees)) names row.variable) in
    let len = length-trees nodes roots in
    record {
      enough = omega (arith, row.enough, one, len);
      few = omega (arith, row.few, one, len);
      jump = jumps;
      stores = stores ∙ row.ends.stores;
      branches = branches ∙ row.ends.branches;
      text = text;
    }

pub takes_others : (op : Opcode) (count : ℕ) (others : List Root) (first : Root) (store branch : Bool) → count ≡ length others →
    TakesVariable op (length (first ∷ others) - 1) store branch → TakesVariable op count store branch
takes_others op count others first store branch counts takes =
    let len : length (first ∷ others) - 1 ≡ count = omega (arith, counts) in
    subst (λ n. TakesVariable op n store branch) len takes

-- a line that fits an opcode that is no jump fits its row
by_row : (jumps : Bool) (jump row : Bool) → cond jumps jump row ≡ true → jumps ≡ false → row ≡ true
by_row true jump row is fails = cc
by_row false jump row is fails = is

pub fits_as_row : (limits : Limits) (op : Opcode) (trees : List Tree) (e : Ends) → fits limits op trees e ≡ true → (row_of op).jumps ≡ false
    → fits_row (row_of op) (length trees) (is_some (first_variable limits trees)) e ≡ true
unfolding fits
fits_as_row limits op trees e is fails =
    by_row (row_of op).jumps (fits_jump e) (fits_row (row_of op) (length trees) (is_some (first_variable limits trees)) e) is fails

pub takes_count : (op : Opcode) (n count : ℕ) (store branch : Bool) → count ≡ n → Takes op n store branch → Takes op count store branch
takes_count op n count store branch counts takes = subst (λ m. Takes op m store branch) (sym counts) takes
