-- Tests, with one alternative or more.
use Rattle.std.proofs.Common.{◌≡◌, ◌≤◌, ℕ, List, [], ◌∷◌, Option, Some, None, Bool, refl, ◌∙◌, ap, sym, subst, true, false}
use Rattle.std.specs.Prelude.{◌==◌, not, if◌then◌else◌, length, map}
use Rattle.inf_settings.specs.Bounds.{Limits}
use Rattle.inf_opcode.specs.{Instructions.Parts, declared.instructions.Label.Label, declared.opcodes.Opcode.Opcode}
use Rattle.inf_expressions.specs.{Numbers.same, Numbers.truth, declared.operators.Operand.Operand, declared.operators.Test.Test}
use Rattle.inf_output.specs.{Operands.written, declared.items.Item.Item, declared.operands.Simple.Simple, declared.veneer.Veneer.Veneer}
use Rattle.inf_output.specs.Output.{to, ◌▸◌, instruction}
use Rattle.inf_templates.specs.Parts.{Part, SP, TEMP, call_routine, is, evaluated, operands}
use Rattle.inf_templates.specs.Meaning as code
use Rattle.inf_interpreter.specs.{Claims.Claim, Claims.Comes, Claims.Kept, Claims.state, Supplied.supplied, Supplied.told}
use Rattle.inf_interpreter.specs.Machine.{first_is_any, less, of_two, test_of_two, World, Store, Place, ◌then◌, and_first, action_of, acted}
use Rattle.inf_interpreter.specs.Machine.{branched, Tests}
use Rattle.inf_meaning_laws.specs.{Covered.CoversTest, Laws.Branches}
use Rattle.inf_meaning_laws.specs.Values.{answer, is_not_zero, nobody, number, supplied_value, Worked, worked_all, Arg, settled_all, Reads}
use Rattle.inf_meaning_laws.specs.Values as values
use Rattle.inf_interpreter.proofs.Laying.{Always, so, then_, nothing_, instruction_}
use Rattle.inf_interpreter.proofs.Running.{none_some, opened, same_some, comes_then, stepping}
use Rattle.inf_meaning_laws.proofs.{Supplying.supplies_value, Working.AreParts, Working.looks}
use Rattle.inf_meaning_laws.proofs.Instructions.{same_not, moved, tested_of, tests_, goes, zero_tested}

-- A branch, by a truth that depends on the number that variable 255 has at the beginning
abbrev pub BranchesBy : Bool → World → (ℕ → Store → Option (Bool × Store)) → Bool → Label → Claim
BranchesBy keeps w truth sense label at from to =
    (stack : List ℕ) (temp : ℕ) (s : Store) (b : Bool) (t : Store) → truth temp s ≡ Some (b, t) →
    (left : ℕ) × Kept keeps temp left × Comes w at from (state stack temp s) (if same b sense then at label else to) (state stack left t)

two_opposite : (h : ℕ → ℕ → Bool) (ns : List ℕ) (b : Bool) → test_of_two (λ x y. not (h x y)) ns ≡ Some b →
    (c : Bool) × (test_of_two h ns ≡ Some c) × (not c ≡ b)
two_opposite h (x ∷ y ∷ []) b e = (h x y, refl, same_some e)
two_opposite h other b e = none_some e

-- a test that is negated branches on the other sense
opposite_tests : (keeps : Bool) (w : World) (h : ℕ → ℕ → Bool) (args : ℕ → List Arg) (label : Label) (sense : Bool) (at : Label → Place)
    (from to : Place) → BranchesBy keeps w (λ temp. tested_of w (λ s. test_of_two h) (args temp)) (not sense) label at from to →
    BranchesBy keeps w (λ temp. tested_of w (λ s. test_of_two (λ x y. not (h x y))) (args temp)) sense label at from to
opposite_tests keeps w h args label sense at from to k stack temp s b t e =
    let o = opened (values.values w (args temp) s) (λ p. test_of_two (λ x y. not (h x y)) p.0 then λ b. Some (b, p.1)) (b, t) e in
    let q = opened (test_of_two (λ x y. not (h x y)) o.0.0) (λ b. Some (b, o.0.1)) (b, t) o.2 in
    let c = two_opposite h o.0.0 q.0 q.1 in
    let r = k stack temp s c.0 o.0.1
    (ap (λ m. m then λ p. test_of_two h p.0 then λ b. Some (b, p.1)) o.1 ∙ ap (λ m. m then λ b. Some (b, o.0.1)) c.1) in (
      r.0,
      r.1,
      subst (λ x. Comes w at from (state stack temp s) (if same x.0 sense then at label else to) (state stack r.0 x.1)) (same_some q.2)
          (moved (ap (λ z. if z then at label else to) (same_not c.0 sense ∙ ap (λ z. same z sense) c.2)) r.2),
    )

-- The effect of a test of some operands follows from the effect of each opcode of a test on them.
abbrev pub Instructs : Bool → World → Limits → List Part → (ℕ → List Arg) → Type 0
Instructs keeps w limits ps args =
    (op : Opcode) (g : Store → List ℕ → Option Bool) → action_of w op ≡ Tests g → (sense : Bool) (label : Label) →
    Always w (evaluated ps ▸ instruction limits op (operands ps) None (to sense label))
    (BranchesBy keeps w (λ temp. tested_of w g (args temp)) sense label)

pub instructed : (keeps : Bool) (w : World) (limits : Limits) (t : Test) → CoversTest true t → (ps : List Part) (args : ℕ → List Arg) →
    Instructs keeps w limits ps args → (sense : Bool) (label : Label) →
    Always w (code.tested limits t ps sense label) (BranchesBy keeps w (λ temp. values.tested w t (args temp)) sense label)
instructed keeps w limits Test.Equal d ps args h sense label = h Opcode.Je (λ s. first_is_any) refl sense label
instructed keeps w limits Test.Less d ps args h sense label = h Opcode.Jl (λ s. test_of_two (λ a b. less a b)) refl sense label
instructed keeps w limits Test.Greater d ps args h sense label = h Opcode.Jg (λ s. test_of_two (λ a b. less b a)) refl sense label
instructed keeps w limits Test.AtMost d ps args h sense label =
    so (opposite_tests keeps w (λ a b. less b a) args label sense) (h Opcode.Jg (λ s. test_of_two (λ a b. less b a)) refl (not sense) label)
instructed keeps w limits Test.AtLeast d ps args h sense label =
    so (opposite_tests keeps w (λ a b. less a b) args label sense) (h Opcode.Jl (λ s. test_of_two (λ a b. less a b)) refl (not sense) label)
instructed keeps w limits Test.Has d ps args h sense label = h Opcode.TestAttr (λ s. test_of_two (λ a b. w.has s a b)) refl sense label
instructed keeps w limits Test.In d ps args h sense label = h Opcode.Jin (λ s. test_of_two (λ a b. w.inside s a b)) refl sense label
instructed keeps w limits Test.OfClass d ps args h sense label = absurd (cc d)
instructed keeps w limits Test.Provides d ps args h sense label = absurd (cc d)

-- A supplied routine tests some operands: its answer is pushed, and compared with 0.
not_zero_truth : (b : Bool) → not (truth b == 0) ≡ b
not_zero_truth true = refl
not_zero_truth false = refl

truth_told : (f : Store → ℕ → ℕ → Bool) (ns : List ℕ) (s : Store) (b : Bool) → test_of_two (f s) ns ≡ Some b →
    is_not_zero (told (λ u. of_two (λ x y. Some (truth (f u x y)))) ns s then λ r. answer nobody r.0 r.1) ≡ Some (b, s)
truth_told f (x ∷ y ∷ []) s b e = ap (λ c. Some (c, s)) (not_zero_truth (f s x y) ∙ same_some e)
truth_told f other s b e = none_some e

asked_is : (w : World) (v : Veneer) (f : Store → ℕ → ℕ → Bool) →
    supplied w v ≡ told (λ u. of_two (λ x y. Some (truth (f u x y)))) → (args : List Arg) (s : Store) (b : Bool) (t : Store) →
    tested_of w (λ u. test_of_two (f u)) args s ≡ Some (b, t) → is_not_zero (supplied_value w v args nobody s) ≡ Some (b, t)
asked_is w v f tells args s b t e =
    let o = opened (values.values w args s) (λ p. test_of_two (f p.1) p.0 then λ b. Some (b, p.1)) (b, t) e in
    let q = opened (test_of_two (f o.0.1) o.0.0) (λ b. Some (b, o.0.1)) (b, t) o.2 in
    ap (λ m. is_not_zero (m then λ p. supplied w v p.0 p.1 then λ r. answer nobody r.0 r.1)) o.1
    ∙ ap (λ (g : List ℕ → Store → Option (ℕ × Store)). is_not_zero (g o.0.0 o.0.1 then λ r. answer nobody r.0 r.1)) tells
    ∙ truth_told f o.0.0 o.0.1 q.0 q.1 ∙ q.2

asks_ : (keeps : Bool) (w : World) (limits : Limits) (v : Veneer) (f : Store → ℕ → ℕ → Bool) →
    supplied w v ≡ told (λ u. of_two (λ x y. Some (truth (f u x y)))) → (ps : List Part) (args : List Arg) → AreParts keeps w ps args →
    length ps ≤ 7 → (sense : Bool) (label : Label) →
    Always w (evaluated ps ▸ code.asking limits v (operands ps) sense label)
    (Branches false w (tested_of w (λ u. test_of_two (f u)) args) sense label)
asks_ keeps w limits v f tells ps args h few sense label =
    so (λ at from to k stack temp s b t e. k stack temp s b t (asked_is w v f tells args s b t e))
    (zero_tested {keeps = false} w limits (supplied_value w v args) (call_routine limits v ps (Some SP))
    (supplies_value keeps w limits v ps args h few SP) sense label)

-- operands that are parts
pub compares : {keeps : Bool} (w : World) (limits : Limits) (t : Test) → CoversTest keeps t → (ps : List Part) (args : List Arg) →
    AreParts keeps w ps args → length ps ≤ 7 → (sense : Bool) (label : Label) →
    Always w (code.tested limits t ps sense label) (Branches keeps w (values.tested w t args) sense label)
compares {keeps} w limits Test.OfClass d ps args h few sense label =
    subst (λ k. Always w (code.tested limits Test.OfClass ps sense label) (Branches k w (values.tested w Test.OfClass args) sense label))
    (sym d) (asks_ keeps w limits Veneer.OfClass w.of_class refl ps args h few sense label)
compares {keeps} w limits Test.Provides d ps args h few sense label =
    subst (λ k. Always w (code.tested limits Test.Provides ps sense label) (Branches k w (values.tested w Test.Provides args) sense label))
    (sym d) (asks_ keeps w limits Veneer.Provides w.provides refl ps args h few sense label)
compares {keeps} w limits t d ps args h few sense label =
    instructed keeps w limits t tt ps (λ temp. args) (λ op g act how l. tests_ w limits op g ps args act h how l) sense label

-- Variable 255 as the first operand: it is the number that it has
abbrev with_store : Store → List ℕ → Option (List ℕ × Store)
with_store s ns = Some (ns, s)

abbrev read_all : World → List Worked × Store → Option (List ℕ × Store)
read_all w p = settled_all w p.0 p.1 then with_store p.1

abbrev with_number : ℕ → List Worked × Store → Option (List Worked × Store)
with_number n p = Some (Reads (Operand.Known n) ∷ p.0, p.1)

pub number_first : (w : World) (n : ℕ) (args : List Arg) (s : Store) (ns : List ℕ) (u : Store) →
    values.values w (number n ∷ args) s ≡ Some (ns, u) → (ms : List ℕ) × (values.values w args s ≡ Some (ms, u)) × (n ∷ ms ≡ ns)
number_first w n args s ns u e = by_worked (worked_all args s) e
  where
    by_settled : (m : Option (List ℕ)) (t : Store) → ((m then λ ms. Some (n ∷ ms)) then with_store t) ≡ Some (ns, u) →
        (ms : List ℕ) × ((m then with_store t) ≡ Some (ms, u)) × (n ∷ ms ≡ ns)
    by_settled None t f = none_some f
    by_settled (Some ms) t f = (ms, ap (λ x. Some (ms, x.1)) (same_some f), ap (λ x. x.0) (same_some f))

    by_worked : (m : Option (List Worked × Store)) → ((m then with_number n) then read_all w) ≡ Some (ns, u) →
        (ms : List ℕ) × ((m then read_all w) ≡ Some (ms, u)) × (n ∷ ms ≡ ns)
    by_worked None f = none_some f
    by_worked (Some p) f = by_settled (settled_all w p.0 p.1) p.1 f

pub kept_instructs : (w : World) (limits : Limits) (ps : List Part) (args : List Arg) → AreParts true w ps args →
    Instructs true w limits (is (Simple.Variable TEMP) ∷ ps) (λ temp. number temp ∷ args)
kept_instructs w limits ps args h op g act sense label = so (λ at from rest p stack temp s b t e.
    let o = opened (values.values w (number temp ∷ args) s) (λ p. g p.1 p.0 then λ b. Some (b, p.1)) (b, t) e in
    let q = opened (g o.0.1 o.0.0) (λ b. Some (b, o.0.1)) (b, t) o.2 in
    let f = number_first w temp args s o.0.0 o.0.1 o.1 in
    let l = p.1.1 stack temp s f.0 o.0.1 f.1 in
    let all = map written (operands (is (Simple.Variable TEMP) ∷ ps)) in
    let item : Parts = record { opcode = op; operands = all; store = None; branch = to sense label; text = [] } in
    let read = ap (and_first l.2.temp) l.4 ∙ ap (λ v. Some (v ∷ f.0, state stack l.0 o.0.1)) (l.3 ∙ l.1.same refl) in
    let moves = ap (λ a. acted w at a item rest l.2) act
    ∙ ap (λ m. m then λ p. g p.1.store p.0 then λ b. branched (to sense label) b at rest p.1) read
    ∙ ap (λ ms. g o.0.1 ms then λ b. branched (to sense label) b at rest (state stack l.0 o.0.1)) f.2
    ∙ ap (λ m. m then λ b. branched (to sense label) b at rest (state stack l.0 o.0.1)) q.1
    ∙ goes (same q.0 sense) label at rest (state stack l.0 o.0.1) in
    let c = comes_then l.5 (stepping w at (Item.Instruction item) p.1.0 rest l.2
    (if same q.0 sense then at label else rest, state stack l.0 o.0.1) (p.1.2 ∙ p.2) moves) in (
      l.0,
      l.1,
      subst (λ x. Comes w at from (state stack temp s) (if same x.0 sense then at label else rest) (state stack l.0 x.1)) (same_some q.2) c,
    ))
    (then_ (then_ (looks {keeps = true} w ps args h) nothing_) (instruction_ limits op (operands (is (Simple.Variable TEMP) ∷ ps)) None
    (to sense label)))
