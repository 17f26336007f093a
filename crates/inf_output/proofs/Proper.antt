-- Instructions of simple operands are proper.
use Rattle.std.specs.Prelude.{is_some}
use Rattle.std.proofs.Common.{◌≡◌, ℕ, Bool, true, false, cond, nat_lt, List, [], ◌∷◌, length, map, Option, IsTrue, refl, sym, subst, arith}
use Rattle.std.proofs.lemmas.List.{length-map}
use Rattle.inf_opcode.specs.{Opcodes.row_of, declared.instructions.Branch.Branch, declared.instructions.Operand.Operand}
use Rattle.inf_opcode.specs.{declared.opcodes.Opcode.Opcode}
use Rattle.inf_opcode.specs.Instructions.{IsProper, fits_jump, fits_text, fits_variable, has_no_offset}
use Rattle.inf_output.specs.{Operands.written, Output.Takes, Output.TakesVariable, declared.operands.Simple.Simple}

-- No simple operand is an offset.
no_offset_known : (b : Bool) (number : ℕ) (operands : List Operand) → has_no_offset operands ≡ true →
    has_no_offset (cond b (Operand.Small number) (Operand.Large number) ∷ operands) ≡ true
no_offset_known true number operands others = others
no_offset_known false number operands others = others

no_offset : (operands : List Simple) → has_no_offset (map written operands) ≡ true
no_offset [] = refl
no_offset (Simple.Known number ∷ operands) = no_offset_known (nat_lt number 256) number (map written operands) (no_offset operands)
no_offset (Simple.Variable number ∷ operands) = no_offset operands
no_offset (Simple.Later target ∷ operands) = no_offset operands

proper : (opcode : Opcode) (operands : List Simple) (store : Option ℕ) (branch : Option Branch) →
    Takes opcode (length operands) (is_some store) (is_some branch)
    → IsProper (record { opcode = opcode; operands = map written operands; store = store; branch = branch; text = [] })
proper opcode operands store branch takes = record {
  enough = omega (arith, takes.enough, length-map operands written);
  few = omega (arith, takes.few, length-map operands written);
  variable = subst (λ b. IsTrue (fits_variable b (map written operands))) (sym takes.variable) refl;
  jump = subst (λ b. IsTrue (fits_jump b (map written operands))) (sym takes.jump) (no_offset operands);
  store = takes.stores;
  branch = takes.branches;
  text = subst (λ b. IsTrue (fits_text b [])) (sym takes.text) refl;
}

naming_fits : (b : Bool) (variable : ℕ) (operands : List Operand) → IsTrue (fits_variable b (Operand.Small variable ∷ operands))
naming_fits true variable operands = refl
naming_fits false variable operands = refl

proper_naming : (opcode : Opcode) (variable : ℕ) (operands : List Simple) (store : Option ℕ) (branch : Option Branch) →
    TakesVariable opcode (length operands) (is_some store) (is_some branch) → IsProper (record {
      opcode = opcode;
      operands = Operand.Small variable ∷ map written operands;
      store = store;
      branch = branch;
      text = [];
    })
proper_naming opcode variable operands store branch takes = record {
  enough = omega (arith, takes.enough, length-map operands written);
  few = omega (arith, takes.few, length-map operands written);
  variable = naming_fits (row_of opcode).names_variable variable (map written operands);
  jump = subst (λ b. IsTrue (fits_jump b (Operand.Small variable ∷ map written operands))) (sym takes.jump) (no_offset operands);
  store = takes.stores;
  branch = takes.branches;
  text = subst (λ b. IsTrue (fits_text b [])) (sym takes.text) refl;
}

-- an instruction of operands that were made is proper
pub is_proper : (opcode : Opcode) (operands : List Simple) (all : List Operand) (store : Option ℕ) (branch : Option Branch) →
    all ≡ map written operands → Takes opcode (length operands) (is_some store) (is_some branch)
    → IsProper (record { opcode = opcode; operands = all; store = store; branch = branch; text = [] })
is_proper opcode operands all store branch are takes =
    subst (λ os. IsProper (record { opcode = opcode; operands = os; store = store; branch = branch; text = [] })) (sym are)
    (proper opcode operands store branch takes)

pub is_proper_naming : (opcode : Opcode) (variable : ℕ) (operands : List Simple) (all : List Operand) (store : Option ℕ)
    (branch : Option Branch) → all ≡ Operand.Small variable ∷ map written operands
    → TakesVariable opcode (length operands) (is_some store) (is_some branch) → IsProper
    (record { opcode = opcode; operands = all; store = store; branch = branch; text = [] })
is_proper_naming opcode variable operands all store branch are takes =
    subst (λ os. IsProper (record { opcode = opcode; operands = os; store = store; branch = branch; text = [] })) (sym are)
    (proper_naming opcode variable operands store branch takes)
