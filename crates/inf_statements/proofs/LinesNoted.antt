-- Lines of assembly whose names are looked up ahead.
use Rattle.std.proofs.Common.{◌≡◌, ℕ, List, cond, Option, Some, None, refl, ap}
use Rattle.inf_expressions.specs.{Findings.least_of_both, Trees.Tree, declared.findings.Finding.Finding}
use Rattle.inf_names.specs.{Locals.Local, Symbols.Table}
use Rattle.inf_scanner.specs.declared.tokens.Place.{Place}
use Rattle.inf_settings.specs.Bounds.{Limits}
use Rattle.inf_operands.proofs.Staying.{Alike}
use Rattle.inf_statements.specs.Assembly.{fits_some, line_finding, store_finding, store_finding_by, stored_in, wrong_opcode}
use Rattle.inf_statements.specs.declared.assembly.Ends.{Ends}
use Rattle.inf_operands.specs.Operands.{is_stack, looked_by}
use Rattle.inf_unit.specs.{Opcodes.opcode_of, Tokens.SourceToken, Units.bytes_at, Units.next_place, Units.order}

store_looked : (locals others : List Local) (names : Table Place) (tokens : List SourceToken) (store : Option ℕ) → Alike locals others
    → store_finding locals names tokens store ≡ store_finding others names tokens store
store_looked locals others names tokens None alike = refl
store_looked locals others names tokens (Some at) alike =
    let name = bytes_at tokens at in
    ap (λ (number : Option ℕ). store_finding_by (cond (is_stack name number) (Some 0) (stored_in (looked_by number name names))) at)
    (alike.number name)

pub line_looked : (limits : Limits) (locals others : List Local) (names : Table Place) (tokens : List SourceToken) (begun : ℕ) (e : Ends)
    (trees : List Tree) → Alike locals others
    → line_finding limits locals names tokens begun e trees ≡ line_finding limits others names tokens begun e trees
line_looked limits locals others names tokens begun e trees alike =
    let place = next_place begun in
    ap (λ (stores : Option Finding). cond (fits_some limits (opcode_of (bytes_at tokens place)) trees e) stores
    (least_of_both stores (Some (wrong_opcode (order place))))) (store_looked locals others names tokens e.store alike)
