-- Instructions of the templates, run one by one.
use Rattle.std.proofs.Common.{◌≡◌, ℕ, List, [], ◌∷◌, Option, Some, None, Bool, true, false, refl, ◌∙◌, ap, sym, subst}
use Rattle.std.specs.Prelude.{map, nat_le, not, ◌==◌, ◌||◌, ◌+◌, ◌%◌, if◌then◌else◌, take}
use Rattle.inf_settings.specs.Bounds.{Limits}
use Rattle.inf_opcode.specs.{Instructions.Parts, declared.instructions.Destination.Destination, declared.instructions.Label.Label}
use Rattle.inf_opcode.specs.{declared.opcodes.Opcode.Opcode}
use Rattle.inf_expressions.specs.{Numbers.same, Numbers.truth, declared.operators.Direction.Direction}
use Rattle.inf_output.specs.{Operands.written, declared.items.Item.Item, declared.operands.Simple.Simple}
use Rattle.inf_output.specs.Output.{Code, instruction, marked, naming, to, ◌▸◌}
use Rattle.inf_templates.specs.Parts.{Part, SP, TEMP, call_opcode, evaluated, jump_zero, load, operands, put, worked}
use Rattle.inf_templates.specs.Meaning as code
use Rattle.inf_interpreter.specs.Machine.{Calls, Writes, World, Store, State, Place, Computes, Tests, ◌then◌, acted, action_of, branched}
use Rattle.inf_interpreter.specs.Machine.{called, delivered, first_put, given, goes_by, named, operand_value, operand_values, put_in}
use Rattle.inf_interpreter.specs.Machine.{pushed, with_top, and_first, with_variable}
use Rattle.inf_interpreter.specs.Claims.{Claim, Comes, Kept, state}
use Rattle.inf_interpreter.specs.Machine as machine
use Rattle.inf_meaning_laws.specs.Values.{forgotten, Arg, Taker, answer, is_not_zero, is_own, nobody, opposite, values, with_step, sense}
use Rattle.inf_meaning_laws.specs.Laws.{Branches, GivesNothing, GivesValue, taken, taker}
use Rattle.inf_interpreter.proofs.Laying.{Always, Lies, Marks, instruction_, instruction_of, jump_to, jumped_, labelled, marked_}
use Rattle.inf_interpreter.proofs.Laying.{naming_, naming_of, so, then_}
use Rattle.inf_interpreter.proofs.Running.{comes_then, opened, same_some, stepping, not_kept}
use Rattle.inf_meaning_laws.proofs.Working.{AreParts, looks}

pub same_not : (a b : Bool) → same a (not b) ≡ same (not a) b
same_not true b = refl
same_not false true = refl
same_not false false = refl

-- equal places and states may be exchanged
pub moved : {w : World} {at : Label → Place} {from to to' : Place} {s t : State} → to ≡ to' → Comes w at from s to t →
    Comes w at from s to' t
moved {w} {at} {from} {to} {to'} {s} {t} e c = subst (λ p. Comes w at from s p t) e c

pub begun : {w : World} {at : Label → Place} {from from' to : Place} {s t : State} → from ≡ from' → Comes w at from s to t →
    Comes w at from' s to t
begun {w} {at} {from} {from'} {to} {s} {t} e c = subst (λ p. Comes w at p s to t) e c

pub left_as : {w : World} {at : Label → Place} {from to : Place} {s t t' : State} → t ≡ t' → Comes w at from s to t →
    Comes w at from s to t'
left_as {w} {at} {from} {to} {s} {t} {t'} e c = subst (λ u. Comes w at from s to u) e c

-- Lemmas about writing a variable, and a state that has taken the value

pub given_taken : (d n : ℕ) (stack : List ℕ) (temp : ℕ) (s : Store) → given d n (state stack temp s) ≡ taken d n stack temp (taker d n s)
given_taken d n stack temp s = go (d == 0) (d == 255)
  where
    go : (x y : Bool) → (if x then state (n ∷ stack) temp s else if y then state stack n s else state stack temp (with_variable d n s))
        ≡ (let t = (if x || y then nobody else with_variable d) n s in
        if x || y then (if x then state (n ∷ stack) temp t else if y then state stack n t else state stack temp (with_variable d n t))
        else state stack temp t)
    go true y = refl
    go false true = refl
    go false false = refl

-- a value that was put where it goes is taken
pub finish : (keeps : Bool) (w : World) (at : Label → Place) (from to : Place) (start : State) (d n m : ℕ) (stack : List ℕ) (temp left : ℕ)
    (s t : Store) → Kept keeps temp left → Comes w at from start to (given d n (state stack left s)) → answer (taker d) n s ≡ Some (m, t) →
    (left' : ℕ) × Kept keeps temp left' × Comes w at from start to (taken d m stack left' t)
finish keeps w at from to start d n m stack temp left s t h c e = (
  left,
  h,
  subst (λ x. Comes w at from start to (taken d x.0 stack left x.1)) (same_some e) (left_as (given_taken d n stack left s) c),
)

-- Values are put into variables and read from them.

abbrev pub Puts : World → Simple → ℕ → Claim
Puts w x d at from to =
    (s : State) (n : ℕ) → operand_value w (written x) s ≡ Some (n, s) → Comes w at from s to (given d n s)

pub one_value : (w : World) (x : Simple) (s t : State) (n : ℕ) → operand_value w (written x) s ≡ Some (n, t) →
    operand_values w (map written (x ∷ [])) s ≡ Some (n ∷ [], t)
one_value w x s t n e = ap (λ m. m then λ p. and_first p.0 (operand_values w [] p.1)) e

put_by : (w : World) (limits : Limits) (x : Simple) (d : ℕ) (b : Bool) → (d == 0) ≡ b →
    Always w (if b then instruction limits Opcode.Push (x ∷ []) None None else naming limits Opcode.Store d (x ∷ []) None None) (Puts w x d)
put_by w limits x d true e = so (λ at from to place s n v.
    stepping w at (instruction_of Opcode.Push (x ∷ []) None None) from to s (to, given d n s) place
    (ap (λ m. m then λ p. pushed p.0 to p.1) (one_value w x s s n v)
    ∙ ap (λ b. Some (
      to,
      if b then record s { stack = n ∷ s.stack } else if d == 255 then record s { temp = n } else record s
          { store = with_variable d n s.store },
    )) (sym e)))
    (instruction_ limits Opcode.Push (x ∷ []) None None)
put_by w limits x d false e = so (λ at from to place s n v.
    stepping w at (naming_of Opcode.Store d (x ∷ []) None None) from to s (to, given d n s) place
    (ap (λ m. m then λ p. first_put d p.0 to p.1) (one_value w x s s n v)
    ∙ ap (λ b. Some (to, if b then record s { stack = with_top n s.stack } else given d n s)) e))
    (naming_ limits Opcode.Store d (x ∷ []) None None)

pub put_ : (w : World) (limits : Limits) (x : Simple) (d : ℕ) → Always w (put limits x d) (Puts w x d)
put_ w limits x d = put_by w limits x d (d == 0) refl

-- a variable that an expression may name
own_by : {A : Type 0} (x y : Bool) (a b c : A) → (x || y) ≡ false → (if x then a else if y then b else c) ≡ c
own_by true y a b c e = absurd (cc e)
own_by false true a b c e = absurd (cc e)
own_by false false a b c e = refl

front_by : {A : Type 0} (x y : Bool) (a c : A) → (x || y) ≡ false → (if x then a else c) ≡ c
front_by true y a c e = absurd (cc e)
front_by false y a c e = refl

pub named_is : (v : ℕ) (s : State) → is_own v ≡ false → named v s ≡ Some (s.store.variables v)
named_is v s e = own_by (v == 0) (v == 255) (machine.top s.stack) (Some s.temp) (Some (s.store.variables v)) e

pub given_is : (v n : ℕ) (s : State) → is_own v ≡ false → given v n s ≡ record s { store = with_variable v n s.store }
given_is v n s e =
    own_by (v == 0) (v == 255) (record s { stack = n ∷ s.stack }) (record s { temp = n }) (record s { store = with_variable v n s.store }) e

put_in_is : (v n : ℕ) (s : State) → is_own v ≡ false → put_in v n s ≡ record s { store = with_variable v n s.store }
put_in_is v n s e = front_by (v == 0) (v == 255) (record s { stack = with_top n s.stack }) (given v n s) e ∙ given_is v n s e

abbrev pub Loads : World → ℕ → ℕ → Claim
Loads w v d at from to = (s : State) → is_own v ≡ false → Comes w at from s to (given d (s.store.variables v) s)

pub load_ : (w : World) (limits : Limits) (v d : ℕ) → Always w (load limits v d) (Loads w v d)
load_ w limits v d = so (λ at from to place s own.
    stepping w at (naming_of Opcode.Load v [] (Some d) None) from to s (to, given d (s.store.variables v) s) place
    (ap (λ m. m then λ n. delivered (Some d) n to s) (named_is v s own))) (naming_ limits Opcode.Load v [] (Some d) None)

abbrev pub MakesStep : World → Direction → ℕ → Claim
MakesStep w how v at from to = (s : State) → is_own v ≡ false → Comes w at from s to (record s { store = with_step how v s.store })

pub step_ : (w : World) (limits : Limits) (how : Direction) (v : ℕ) → Always w (code.stepping limits how v) (MakesStep w how v)
step_ w limits Direction.Up v = so (λ at from to place s own.
    stepping w at (naming_of Opcode.Inc v [] None None) from to s (to, record s { store = with_step Direction.Up v s.store }) place
    (ap (λ m. m then λ n. Some (to, put_in v ((n + 1) % 65536) s)) (named_is v s own)
    ∙ ap (λ t. Some (to, t)) (put_in_is v ((s.store.variables v + 1) % 65536) s own))) (naming_ limits Opcode.Inc v [] None None)
step_ w limits Direction.Down v = so (λ at from to place s own.
    stepping w at (naming_of Opcode.Dec v [] None None) from to s (to, record s { store = with_step Direction.Down v s.store }) place
    (ap (λ m. m then λ n. Some (to, put_in v ((n + 65535) % 65536) s)) (named_is v s own)
    ∙ ap (λ t. Some (to, t)) (put_in_is v ((s.store.variables v + 65535) % 65536) s own))) (naming_ limits Opcode.Dec v [] None None)

pub jump_comes : (w : World) (at : Label → Place) (l : Label) (from to : Place) (s : State) → Lies (jump_to l) at from to →
    Comes w at from s (at l) s
jump_comes w at l from to s place = stepping w at (jump_to l) from to s (at l, s) place refl

pub mark_comes : (w : World) (at : Label → Place) (l : Label) (from to : Place) (s : State) → Marks l at from to → Comes w at from s to s
mark_comes w at l from to s m = stepping w at (Item.Mark l) from to s (to, s) m.0 refl

-- Branches: where control goes by a truth and the sense of the branch

pub goes : (b : Bool) (l : Label) (at : Label → Place) (rest : Place) (s : State) →
    goes_by b (Destination.To l) at rest s ≡ Some (if b then at l else rest, s)
goes true l at rest s = refl
goes false l at rest s = refl

abbrev pub JumpsZero : World → Simple → Bool → Label → Claim
JumpsZero w x sense label at from to =
    (s : State) (n : ℕ) (t : State) → operand_value w (written x) s ≡ Some (n, t) →
    Comes w at from s (if same (not (n == 0)) sense then at label else to) t

pub jump_zero_ : (w : World) (limits : Limits) (x : Simple) (sense : Bool) (label : Label) →
    Always w (jump_zero limits x sense label) (JumpsZero w x sense label)
jump_zero_ w limits x sense label = so (λ at from rest place s n t v.
    stepping w at (instruction_of Opcode.Jz (x ∷ []) None (to (not sense) label)) from rest s
    (if same (not (n == 0)) sense then at label else rest, t) place
    (ap (λ m. m then λ p. machine.test_of_one (λ a. a == 0) p.0 then λ b. branched (to (not sense) label) b at rest p.1)
    (one_value w x s t n v)
    ∙ goes (same (n == 0) (not sense)) label at rest t
    ∙ ap (λ b. Some (if b then at label else rest, t)) (same_not (n == 0) sense)))
    (instruction_ limits Opcode.Jz (x ∷ []) None (to (not sense) label))

-- a negated condition branches on the other sense
pub opposed : {keeps : Bool} (w : World) (holds : Store → Option (Bool × Store)) (sense : Bool) (label : Label) (at : Label → Place)
    (from to : Place) →
    Branches keeps w holds (not sense) label at from to → Branches keeps w (opposite holds) sense label at from to
opposed {keeps} w holds sense label at from to h stack temp s b t e =
    let o = opened (holds s) (λ p. Some (not p.0, p.1)) (b, t) e in
    let r = h stack temp s o.0.0 o.0.1 o.1 in (
      r.0,
      r.1,
      subst (λ x. Comes w at from (state stack temp s) (if same x.0 sense then at label else to) (state stack r.0 x.1)) (same_some o.2)
          (moved (ap (λ c. if c then at label else to) (same_not o.0.0 sense)) r.2),
    )

-- where control goes is right behind the mark of the label, or right in front of it
pub led : (w : World) (at : Label → Place) (from m to : Place) (next : Label) (start s : State) (z : Bool) → Marks next at m to →
    Comes w at from start (if z then at next else m) s → Comes w at from start to s
led w at from m to next start s true h c = moved h.1 c
led w at from m to next start s false h c = comes_then c (mark_comes w at next m to s h)

-- Lemmas about an instruction that computes a value of its operands

abbrev pub computed_of : World → (Store → List ℕ → Option ℕ) → List Arg → Taker → Store → Option (ℕ × Store)
computed_of w f args take s = values w args s then λ p. f p.1 p.0 then λ n. answer take n p.1

pub computes_ : {keeps : Bool} (w : World) (limits : Limits) (op : Opcode) (f : Store → List ℕ → Option ℕ) (parts : List Part)
    (args : List Arg) →
    action_of w op ≡ Computes f → AreParts keeps w parts args → (d : ℕ) →
    Always w (worked limits op parts (Some d) None) (GivesValue keeps w (computed_of w f args) d)
computes_ {keeps} w limits op f parts args act h d = so (λ at from rest p stack temp s n t e.
    let o = opened (values w args s) (λ p. f p.1 p.0 then λ n. answer (taker d) n p.1) (n, t) e in
    let q = opened (f o.0.1 o.0.0) (λ n. answer (taker d) n o.0.1) (n, t) o.2 in
    let l = p.1 stack temp s o.0.0 o.0.1 o.1 in
    let item : Parts = record { opcode = op; operands = map written (operands parts); store = Some d; branch = None; text = [] } in
    let moves = ap (λ a. acted w at a item rest l.2) act
    ∙ ap (λ m. m then λ p. f p.1.store p.0 then λ n. delivered (Some d) n rest p.1) l.4
    ∙ ap (λ m. m then λ n. delivered (Some d) n rest (state stack l.0 o.0.1)) q.1 in
    finish keeps w at from rest (state stack temp s) d q.0 n stack temp l.0 o.0.1 t l.1
    (comes_then l.5 (stepping w at (Item.Instruction item) p.0 rest l.2 (rest, given d q.0 (state stack l.0 o.0.1)) p.2 moves)) q.2)
    (then_ (looks {keeps = keeps} w parts args h) (instruction_ limits op (operands parts) (Some d) None))

-- Lemmas about tests

abbrev pub tested_of : World → (Store → List ℕ → Option Bool) → List Arg → Store → Option (Bool × Store)
tested_of w g args s = values w args s then λ p. g p.1 p.0 then λ b. Some (b, p.1)

pub tests_ : {keeps : Bool} (w : World) (limits : Limits) (op : Opcode) (g : Store → List ℕ → Option Bool) (parts : List Part)
    (args : List Arg) →
    action_of w op ≡ Tests g → AreParts keeps w parts args → (sense : Bool) (label : Label) →
    Always w (evaluated parts ▸ instruction limits op (operands parts) None (to sense label)) (Branches keeps w
    (tested_of w g args) sense label)
tests_ {keeps} w limits op g parts args act h sense label = so (λ at from rest p stack temp s b t e.
    let o = opened (values w args s) (λ p. g p.1 p.0 then λ b. Some (b, p.1)) (b, t) e in
    let q = opened (g o.0.1 o.0.0) (λ b. Some (b, o.0.1)) (b, t) o.2 in
    let l = p.1 stack temp s o.0.0 o.0.1 o.1 in
    let item : Parts = record { opcode = op; operands = map written (operands parts); store = None; branch = to sense label; text = [] } in
    let moves = ap (λ a. acted w at a item rest l.2) act
    ∙ ap (λ m. m then λ p. g p.1.store p.0 then λ b. branched (to sense label) b at rest p.1) l.4
    ∙ ap (λ m. m then λ b. branched (to sense label) b at rest (state stack l.0 o.0.1)) q.1
    ∙ goes (same q.0 sense) label at rest (state stack l.0 o.0.1) in
    let c = comes_then l.5 (stepping w at (Item.Instruction item) p.0 rest l.2
    (if same q.0 sense then at label else rest, state stack l.0 o.0.1) p.2 moves) in (
      l.0,
      l.1,
      subst (λ x. Comes w at from (state stack temp s) (if same x.0 sense then at label else rest) (state stack l.0 x.1)) (same_some q.2) c,
    ))
    (then_ (looks {keeps = keeps} w parts args h) (instruction_ limits op (operands parts) None (to sense label)))

-- A value that is stored in variable 255 is forgotten, and a pushed one is compared with 0.
pub without : {keeps : Bool} (w : World) (value : Taker → Store → Option (ℕ × Store)) (at : Label → Place) (from to : Place) →
    GivesValue keeps w value TEMP at from to → GivesNothing w (forgotten value) at from to
without {keeps} w value at from to h stack temp s t e =
    let o = opened (value nobody s) (λ p. Some p.1) t e in
    let r = h stack temp s o.0.0 o.0.1 o.1 in
    (o.0.0, subst (λ u. Comes w at from (state stack temp s) to (state stack o.0.0 u)) (same_some o.2) r.2)

pub zero_tested : {keeps : Bool} (w : World) (limits : Limits) (value : Taker → Store → Option (ℕ × Store)) (c : Code) →
    Always w c (GivesValue keeps w value SP) →
    (sense : Bool) (label : Label) →
    Always w (c ▸ jump_zero limits (Simple.Variable SP) sense label) (Branches keeps w (λ s. is_not_zero (value nobody s)) sense label)
zero_tested {keeps} w limits value c h sense label = so (λ at from rest p stack temp s b t e.
    let o = opened (value nobody s) (λ p. Some (not (p.0 == 0), p.1)) (b, t) e in
    let r = p.1 stack temp s o.0.0 o.0.1 o.1 in (
      r.0,
      r.1,
      subst (λ x. Comes w at from (state stack temp s) (if same x.0 sense then at label else rest) (state stack r.0 x.1)) (same_some o.2)
          (comes_then r.2 (p.2 (state (o.0.0 ∷ stack) r.0 o.0.1) o.0.0 (state stack r.0 o.0.1) refl)),
    ))
    (then_ h (jump_zero_ w limits (Simple.Variable SP) sense label))

-- A condition as a value puts 1 or 0.

truth_comes : (w : World) (at : Label → Place) (from m1 m2 m3 m4 m5 to : Place) (fails last : Label) (d : ℕ) (start s : State) (b : Bool) →
    Puts w (Simple.Known 1) d at m1 m2 → Lies (jump_to last) at m2 m3 → Marks fails at m3 m4 → Puts w (Simple.Known 0) d at m4 m5 → Marks
    last at m5 to →
    Comes w at from start (if same b false then at fails else m1) s → Comes w at from start to (given d (truth b) s)
truth_comes w at from m1 m2 m3 m4 m5 to fails last d start s true one jump mark other end c =
    comes_then c (comes_then (one s 1 refl) (moved end.1 (jump_comes w at last m2 m3 (given d 1 s) jump)))
truth_comes w at from m1 m2 m3 m4 m5 to fails last d start s false one jump mark other end c =
    comes_then (moved mark.1 c) (comes_then (other s 0 refl) (mark_comes w at last m5 to (given d 0 s) end))

abbrev pub truth_value : (Store → Option (Bool × Store)) → Taker → Store → Option (ℕ × Store)
truth_value holds take s = holds s then λ p. answer take (truth p.0) p.1

pub truth_ : {keeps : Bool} (w : World) (limits : Limits) (holds : Store → Option (Bool × Store)) (branch : Bool → Label → Code) →
    ((sense : Bool) (label : Label) → Always w (branch sense label) (Branches keeps w holds sense label)) → (d : ℕ) →
    Always w (code.truth limits branch d) (GivesValue keeps w (truth_value holds) d)
truth_ {keeps} w limits holds branch h d = labelled λ fails. labelled λ last. so (λ at from rest p stack temp s n t e.
    let o = opened (holds s) (λ p. answer (taker d) (truth p.0) p.1) (n, t) e in
    let r = p.1 stack temp s o.0.0 o.0.1 o.1 in
    let p1 = p.2 in
    let p2 = p1.2 in
    let p3 = p2.2 in
    let p4 = p3.2 in
    finish keeps w at from rest (state stack temp s) d (truth o.0.0) n stack temp r.0 o.0.1 t r.1
    (truth_comes w at from p.0 p1.0 p2.0 p3.0 p4.0 rest fails last d (state stack temp s)
    (state stack r.0 o.0.1) o.0.0 p1.1 p2.1 p3.1 p4.1 p4.2
    r.2) o.2)
    (then_ (h false fails) (then_ (put_ w limits (Simple.Known 1) d) (then_ (jumped_ limits last) (then_ (marked_ limits fails) (then_
    (put_ w limits (Simple.Known 0) d) (marked_ limits last))))))

-- An object that an instruction finds: it is stored, and the branch leads to the next instruction in any case.
abbrev pub found_of : World → (Store → ℕ → ℕ) → List Arg → Taker → Store → Option (ℕ × Store)
found_of w f args take s = values w args s then λ p. machine.found_one (f p.1) p.0 then λ n. answer take n p.1

pub finds_ : {keeps : Bool} (w : World) (limits : Limits) (op : Opcode) (f : Store → ℕ → ℕ) (parts : List Part) (args : List Arg) →
    action_of w op ≡ machine.Finds f → AreParts keeps w parts args → (d : ℕ) (next : Label) →
    Always w (worked limits op parts (Some d) (to true next) ▸ marked limits next) (GivesValue keeps w (found_of w f args) d)
finds_ {keeps} w limits op f parts args act h d next = so (λ at from rest p stack temp s n t e.
    let o = opened (values w args s) (λ p. machine.found_one (f p.1) p.0 then λ n. answer (taker d) n p.1) (n, t) e in
    let q = opened (machine.found_one (f o.0.1) o.0.0) (λ n. answer (taker d) n o.0.1) (n, t) o.2 in
    let l = p.1.1 stack temp s o.0.0 o.0.1 o.1 in
    let now = given d q.0 (state stack l.0 o.0.1) in
    let item : Parts = record { opcode = op; operands = map written (operands parts); store = Some d; branch = to true next; text = [] } in
    let moves = ap (λ a. acted w at a item p.0 l.2) act
    ∙ ap (λ m. m then λ p'. machine.found_one (f p'.1.store) p'.0 then λ n. machine.branched_with (Some d) (to true next) n at p.0 p'.1) l.4
    ∙ ap (λ m. m then λ n. machine.branched_with (Some d) (to true next) n at p.0 (state stack l.0 o.0.1)) q.1
    ∙ goes (same (not (q.0 == 0)) true) next at p.0 now in
    let there = comes_then l.5 (stepping w at (Item.Instruction item) p.1.0 p.0 l.2
    (if same (not (q.0 == 0)) true then at next else p.0, now) p.1.2 moves) in
    finish keeps w at from rest (state stack temp s) d q.0 n stack temp l.0 o.0.1 t l.1
    (led w at from p.0 rest next (state stack temp s) now (same (not (q.0 == 0)) true) p.2 there) q.2)
    (then_ (then_ (looks {keeps = keeps} w parts args h) (instruction_ limits op (operands parts) (Some d) (to true next)))
    (marked_ limits next))

-- A random number is drawn.
abbrev pub drawn_value : World → List Arg → Taker → Store → Option (ℕ × Store)
drawn_value w args take s = values w args s then λ p. machine.drawn w p.0 p.1 then λ r. answer take r.0 r.1

pub draws_ : {keeps : Bool} (w : World) (limits : Limits) (parts : List Part) (args : List Arg) → AreParts keeps w parts args → (d : ℕ) →
    Always w (worked limits Opcode.Random parts (Some d) None) (GivesValue keeps w (drawn_value w args) d)
draws_ {keeps} w limits parts args h d = so (λ at from rest p stack temp s n t e.
    let o = opened (values w args s) (λ p. machine.drawn w p.0 p.1 then λ r. answer (taker d) r.0 r.1) (n, t) e in
    let q = opened (machine.drawn w o.0.0 o.0.1) (λ r. answer (taker d) r.0 r.1) (n, t) o.2 in
    let l = p.1 stack temp s o.0.0 o.0.1 o.1 in
    let item : Parts = record {
      opcode = Opcode.Random;
      operands = map written (operands parts);
      store = Some d;
      branch = None;
      text = [];
    } in
    let moves = ap (λ m. m then λ p. machine.drawn w p.0 p.1.store then λ r. delivered (Some d) r.0 rest (record p.1 { store = r.1 })) l.4
    ∙ ap (λ m. m then λ r. delivered (Some d) r.0 rest (state stack l.0 r.1)) q.1 in
    finish keeps w at from rest (state stack temp s) d q.0.0 n stack temp l.0 q.0.1 t l.1
    (comes_then l.5 (stepping w at (Item.Instruction item) p.0 rest l.2 (rest, given d q.0.0 (state stack l.0 q.0.1)) p.2 moves)) q.2)
    (then_ (looks {keeps = keeps} w parts args h) (instruction_ limits Opcode.Random (operands parts) (Some d) None))

-- Lemmas about an instruction that writes into memory

pub writes_ : (keeps : Bool) (w : World) (limits : Limits) (op : Opcode) (f : List ℕ → Store → Option Store) (parts : List Part)
    (args : List Arg) →
    action_of w op ≡ Writes f → AreParts keeps w parts args →
    Always w (evaluated parts ▸ instruction limits op (operands parts) None None)
    (GivesNothing w (λ s. values w args s then λ p. f p.0 p.1))
writes_ keeps w limits op f parts args act h = so (λ at from rest p stack temp s t e.
    let o = opened (values w args s) (λ p. f p.0 p.1) t e in
    let l = p.1 stack temp s o.0.0 o.0.1 o.1 in
    let item : Parts = record { opcode = op; operands = map written (operands parts); store = None; branch = None; text = [] } in
    let moves = ap (λ a. acted w at a item rest l.2) act
    ∙ ap (λ m. m then λ p. f p.0 p.1.store then λ t. Some (rest, record p.1 { store = t })) l.4
    ∙ ap (λ m. m then λ t. Some (rest, state stack l.0 t)) o.2 in
    (l.0, comes_then l.5 (stepping w at (Item.Instruction item) p.0 rest l.2 (rest, state stack l.0 t) p.2 moves)))
    (then_ (looks {keeps = keeps} w parts args h) (instruction_ limits op (operands parts) None None))

-- Calls: with up to seven arguments all operands are laid

call_acts_some : (w : World) (x y z : Bool) →
    action_of w (if x then Opcode.Call1s else if y then Opcode.Call2s else if z then Opcode.CallVs else Opcode.CallVs2) ≡ Calls
call_acts_some w true y z = refl
call_acts_some w false true z = refl
call_acts_some w false false true = refl
call_acts_some w false false false = refl

call_acts_none : (w : World) (x y z : Bool) →
    action_of w (if x then Opcode.Call1n else if y then Opcode.Call2n else if z then Opcode.CallVn else Opcode.CallVn2) ≡ Calls
call_acts_none w true y z = refl
call_acts_none w false true z = refl
call_acts_none w false false true = refl
call_acts_none w false false false = refl

pub call_acts : (w : World) (store : Option ℕ) (n : ℕ) → action_of w (call_opcode store n) ≡ Calls
call_acts w (Some d) n = call_acts_some w (n == 0) (n == 1) (nat_le n 3)
call_acts w None n = call_acts_none w (n == 0) (n == 1) (nat_le n 3)

abbrev pub call_value : World → List Arg → Taker → Store → Option (ℕ × Store)
call_value w args take s = values w args s then λ p. called w p.0 p.1 then λ r. answer take r.0 r.2

pub calls_ : (keeps : Bool) (w : World) (limits : Limits) (op : Opcode) (parts : List Part) (args : List Arg) → action_of w op ≡ Calls →
    AreParts keeps w parts args →
    (d : ℕ) → Always w (evaluated parts ▸ instruction limits op (operands parts) (Some d) None) (GivesValue false w (call_value w args) d)
calls_ keeps w limits op parts args act h d = so (λ at from rest p stack temp s n t e.
    let o = opened (values w args s) (λ p. called w p.0 p.1 then λ r. answer (taker d) r.0 r.2) (n, t) e in
    let q = opened (called w o.0.0 o.0.1) (λ r. answer (taker d) r.0 r.2) (n, t) o.2 in
    let l = p.1 stack temp s o.0.0 o.0.1 o.1 in
    let item : Parts = record { opcode = op; operands = map written (operands parts); store = Some d; branch = None; text = [] } in
    let moves = ap (λ a. acted w at a item rest l.2) act
    ∙ ap (λ m. m then λ p. called w p.0 p.1.store then λ r. machine.returned (Some d) r.0 rest (record p.1 { temp = r.1; store = r.2 })) l.4
    ∙ ap (λ m. m then λ r. machine.returned (Some d) r.0 rest (state stack r.1 r.2)) q.1 in
    finish false w at from rest (state stack temp s) d q.0.0 n stack temp q.0.1 q.0.2 t not_kept
    (comes_then l.5 (stepping w at (Item.Instruction item) p.0 rest l.2 (rest, given d q.0.0 (state stack q.0.1 q.0.2)) p.2 moves)) q.2)
    (then_ (looks {keeps = keeps} w parts args h) (instruction_ limits op (operands parts) (Some d) None))

pub calls_alone : (keeps : Bool) (w : World) (limits : Limits) (op : Opcode) (parts : List Part) (args : List Arg) →
    action_of w op ≡ Calls → AreParts keeps w parts args →
    Always w (evaluated parts ▸ instruction limits op (operands parts) None None) (GivesNothing w (forgotten (call_value w args)))
calls_alone keeps w limits op parts args act h = so (λ at from rest p stack temp s t e.
    let f = opened (call_value w args nobody s) (λ p. Some p.1) t e in
    let o = opened (values w args s) (λ p. called w p.0 p.1 then λ r. answer nobody r.0 r.2) f.0 f.1 in
    let q = opened (called w o.0.0 o.0.1) (λ r. answer nobody r.0 r.2) f.0 o.2 in
    let l = p.1 stack temp s o.0.0 o.0.1 o.1 in
    let item : Parts = record { opcode = op; operands = map written (operands parts); store = None; branch = None; text = [] } in
    let moves = ap (λ a. acted w at a item rest l.2) act
    ∙ ap (λ m. m then λ p. called w p.0 p.1.store then λ r. machine.returned None r.0 rest (record p.1 { temp = r.1; store = r.2 })) l.4
    ∙ ap (λ m. m then λ r. machine.returned None r.0 rest (state stack r.1 r.2)) q.1 in (
      q.0.1,
      subst (λ u. Comes w at from (state stack temp s) rest (state stack q.0.1 u)) (ap (λ x. x.1) (same_some q.2) ∙ same_some f.2)
          (comes_then l.5 (stepping w at (Item.Instruction item) p.0 rest l.2 (rest, state stack q.0.1 q.0.2) p.2 moves)),
    ))
    (then_ (looks {keeps = keeps} w parts args h) (instruction_ limits op (operands parts) None None))

-- a mark does nothing
pub pass : (w : World) (at : Label → Place) (from m to : Place) (over label : Label) (start s : State) (z : Bool) → Marks over at m to →
    Comes w at from start (if z then at label else m) s → Comes w at from start (if z then at label else to) s
pass w at from m to over label start s true h c = c
pass w at from m to over label start s false h c = comes_then c (mark_comes w at over m to s h)
