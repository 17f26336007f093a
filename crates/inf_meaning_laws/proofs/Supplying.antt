-- Calls of routines that the compiler supplies.
use Rattle.std.proofs.Common.{arith, ◌≡◌, ◌≤◌, ℕ, List, [], ◌∷◌, Option, Some, None, Bool, false, refl, ◌∙◌, ap, sym, subst, length, map}
use Rattle.inf_settings.specs.Bounds.{Limits}
use Rattle.inf_opcode.specs.Instructions.{Parts}
use Rattle.inf_expressions.specs.{declared.operators.Binary.Binary, declared.operators.PropertyPart.PropertyPart}
use Rattle.inf_output.specs.{Operands.written, Output.instruction, declared.items.Item.Item, declared.operands.Simple.Simple}
use Rattle.inf_output.specs.{declared.veneer.Veneer.Veneer}
use Rattle.inf_templates.specs.Parts.{Part, call_opcode, call_routine, calling, calling_routine, operands}
use Rattle.inf_templates.specs.Meaning.{InMemory, Meaning, part}
use Rattle.inf_templates.specs.Meaning as code
use Rattle.inf_interpreter.specs.{Claims.Claim, Claims.Comes, Claims.state, Supplied.supplied, Supplied.wrote}
use Rattle.inf_interpreter.specs.Machine.{World, Store, State, Place, ◌then◌, acted, and_first, called, given, operand_values}
use Rattle.inf_interpreter.specs.Machine.{write_of_three}
use Rattle.inf_interpreter.specs.Machine as machine
use Rattle.inf_meaning_laws.specs.Values.{Arg, Element, Properties, Sense, Width, answer, arg, forgotten, nobody, supplied_value, values}
use Rattle.inf_meaning_laws.specs.Laws.{GivesNothing, GivesValue, taker}
use Rattle.inf_meaning_laws.specs.Values as meant
use Rattle.inf_interpreter.proofs.Laying.{Always, Supplied, instruction_, routined, so, then_}
use Rattle.inf_interpreter.proofs.Running.{comes_then, none_some, not_kept, opened, same_some, stepping}
use Rattle.inf_meaning_laws.proofs.{Called.operands_length, Called.taken_whole, Instructions.call_acts, Instructions.finish}
use Rattle.inf_meaning_laws.proofs.{Working.AreParts, Working.looks}
use Rattle.inf_meaning_laws.proofs.Meant.{Means, args_of, memory_of, no_element, part_of, valued_means, width_of}

-- the state where a routine has returned, with its result stored or forgotten
abbrev pub returned_as : Option ℕ → ℕ → State → State
returned_as None n s = s
returned_as (Some d) n s = given d n s

returns : (store : Option ℕ) (n : ℕ) (rest : Place) (s : State) → machine.returned store n rest s ≡ Some (rest, returned_as store n s)
returns None n rest s = refl
returns (Some d) n rest s = refl

abbrev pub CallsSupplied : World → Veneer → List Simple → Option ℕ → Claim
CallsSupplied w v all store at from to =
    (s : State) (ns : List ℕ) (u : State) → operand_values w (map written all) s ≡ Some (ns, u) → (n : ℕ) (t : Store) →
    supplied w v ns u.store ≡ Some (n, t) →
    (left : ℕ) × Comes w at from s to (returned_as store n (record u { temp = left; store = t }))

called_by : (w : World) (limits : Limits) (v : Veneer) (x : Simple) (all : List Simple) → length all ≤ 7 → (store : Option ℕ) →
    Always w (calling limits x all store) (λ at from to. Supplied w v x → CallsSupplied w v all store at from to)
unfolding calling
called_by w limits v x all few store = subst (λ l. Always w (instruction limits (call_opcode store (length l)) (x ∷ l) store None)
    (λ at from to. Supplied w v x → CallsSupplied w v all store at from to)) (sym (taken_whole all 7 few))
    (so (λ at from to place is s ns u e n t c.
    let r = is.contracts.comes v ns u.store n t c in
    let item : Parts = record {
      opcode = call_opcode store (length all);
      operands = map written (x ∷ all);
      store = store;
      branch = None;
      text = [];
    } in
    let now = record u { temp = r.0; store = t } in
    let moves = ap (λ a. acted w at a item to s) (call_acts w store (length all))
    ∙ ap (λ m. m then λ p. called w p.0 p.1.store then λ r. machine.returned store r.0 to (record p.1 { temp = r.1; store = r.2 }))
    (ap (λ m. m then λ p. and_first p.0 (operand_values w (map written all) p.1)) (is.number s) ∙ ap (and_first (w.routine v)) e)
    ∙ ap (λ m. m then λ r. machine.returned store r.0 to (record u { temp = r.1; store = r.2 })) r.1
    ∙ returns store n to now in
    (r.0, stepping w at (Item.Instruction item) from to s (to, returned_as store n now) place moves))
    (instruction_ limits (call_opcode store (length all)) (x ∷ all) store None))

pub calling_ : (w : World) (limits : Limits) (v : Veneer) (all : List Simple) → length all ≤ 7 → (store : Option ℕ) →
    Always w (calling_routine limits v all store) (CallsSupplied w v all store)
unfolding calling_routine
calling_ w limits v all few store = routined limits v (λ x. called_by w limits v x all few store)

few_operands : (ps : List Part) → length ps ≤ 7 → length (operands ps) ≤ 7
few_operands ps few = subst (λ n. n ≤ 7) (sym (operands_length ps)) few

pub supplies_value : (keeps : Bool) (w : World) (limits : Limits) (v : Veneer) (ps : List Part) (args : List Arg) →
    AreParts keeps w ps args → length ps ≤ 7 → (d : ℕ) →
    Always w (call_routine limits v ps (Some d)) (GivesValue false w (supplied_value w v args) d)
supplies_value keeps w limits v ps args h few d = so (λ at from rest p stack temp s n t e.
    let o = opened (values w args s) (λ p. supplied w v p.0 p.1 then λ r. answer (taker d) r.0 r.1) (n, t) e in
    let q = opened (supplied w v o.0.0 o.0.1) (λ r. answer (taker d) r.0 r.1) (n, t) o.2 in
    let l = p.1 stack temp s o.0.0 o.0.1 o.1 in
    let c = p.2 l.2 o.0.0 (state stack l.0 o.0.1) l.4 q.0.0 q.0.1 q.1 in
    finish false w at from rest (state stack temp s) d q.0.0 n stack temp c.0 q.0.1 t not_kept (comes_then l.5 c.1) q.2)
    (then_ (looks {keeps = keeps} w ps args h) (calling_ w limits v (operands ps) (few_operands ps few) (Some d)))

pub supplies_alone : (keeps : Bool) (w : World) (limits : Limits) (v : Veneer) (ps : List Part) (args : List Arg) →
    AreParts keeps w ps args → length ps ≤ 7 →
    Always w (call_routine limits v ps None) (GivesNothing w (forgotten (supplied_value w v args)))
supplies_alone keeps w limits v ps args h few = so (λ at from rest p stack temp s t e.
    let f = opened (supplied_value w v args nobody s) (λ p. Some p.1) t e in
    let o = opened (values w args s) (λ p. supplied w v p.0 p.1 then λ r. answer nobody r.0 r.1) f.0 f.1 in
    let q = opened (supplied w v o.0.0 o.0.1) (λ r. answer nobody r.0 r.1) f.0 o.2 in
    let l = p.1 stack temp s o.0.0 o.0.1 o.1 in
    let c = p.2 l.2 o.0.0 (state stack l.0 o.0.1) l.4 q.0.0 q.0.1 q.1 in (
      c.0,
      subst (λ u. Comes w at from (state stack temp s) rest (state stack c.0 u)) (ap (λ x. x.1) (same_some q.2) ∙ same_some f.2)
          (comes_then l.5 c.1),
    ))
    (then_ (looks {keeps = keeps} w ps args h) (calling_ w limits v (operands ps) (few_operands ps few) None))

pub supplied_means : (keeps : Bool) (w : World) (limits : Limits) (v : Veneer) (ps : List Part) (args : List Arg) →
    AreParts keeps w ps args → length ps ≤ 7 →
    Means false w limits (code.called limits (call_routine limits v ps)) (meant.supplied_by w v args)
supplied_means keeps w limits v ps args h few =
    valued_means w limits (supplied_value w v args) (λ d. call_routine limits v ps (Some d)) (call_routine limits v ps None)
    (supplies_value keeps w limits v ps args h few) (supplies_alone keeps w limits v ps args h few)

-- A routine that writes a value does that, and answers some number.
wrote_as : (f : ℕ → ℕ → ℕ → Store → Store) (ns : List ℕ) (s t : Store) → write_of_three f ns s ≡ Some t →
    (n : ℕ) × (wrote f ns s ≡ Some (n, t))
wrote_as f (a ∷ i ∷ n ∷ []) s t e = (n, ap (λ u. Some (n, u)) (same_some e))
wrote_as f other s t e = none_some e

pub writes_property : (keeps : Bool) (w : World) (limits : Limits) (ps : List Part) (args : List Arg) → AreParts keeps w ps args →
    length ps ≤ 7 → Always w (call_routine limits Veneer.WriteProperty ps None) (GivesNothing w (meant.element_assigned w Properties args))
writes_property keeps w limits ps args h few = so (λ at from rest p stack temp s t e.
    let o = opened (values w args s) (λ p. meant.with_element w Properties p.0 p.1) t e in
    let a = wrote_as w.with_property o.0.0 o.0.1 t o.2 in
    let l = p.1 stack temp s o.0.0 o.0.1 o.1 in
    let c = p.2 l.2 o.0.0 (state stack l.0 o.0.1) l.4 a.0 t a.1 in
    (c.0, comes_then l.5 c.1))
    (then_ (looks {keeps = keeps} w ps args h) (calling_ w limits Veneer.WriteProperty (operands ps) (few_operands ps few) None))

-- The routine for a question about a property is the one of its meaning.
reader_is : (p : PropertyPart) → code.reader p ≡ meant.asked p
reader_is PropertyPart.Value = refl
reader_is other = refl

property_parts : (w : World) (p : PropertyPart) (ps : List Part) (args : List Arg) → AreParts false w ps args → (width : Width)
    (given_args : List Arg) → meant.property_aim p args ≡ Element width given_args →
    (qs : List Part) × (code.property_target p ps ≡ InMemory (memory_of width) qs) × AreParts false w qs given_args
property_parts w PropertyPart.Value ps args h width given_args e =
    (ps, ap (λ a. InMemory (memory_of (width_of a)) ps) e, subst (λ l. AreParts false w ps l) (ap args_of e) h)
property_parts w PropertyPart.Address ps args h width given_args e = no_element e
property_parts w PropertyPart.Length ps args h width given_args e = no_element e

pub property_means : (w : World) (limits : Limits) (p : PropertyPart) (m n : Meaning) (a b : Sense) → Means false w limits m a →
    Means false w limits n b → Means false w limits (code.two limits (Binary.Property p) m n) (meant.two w (Binary.Property p) a b)
property_means w limits p m n a b h k =
    let ps = part m ∷ part n ∷ [] in
    let args = arg a ∷ arg b ∷ [] in
    let are : AreParts false w ps args = (part_of w limits m a h, (part_of w limits n b k, tt)) in
    let c = subst (λ v. Means false w limits (code.called limits (call_routine limits v ps)) (meant.supplied_by w (meant.asked p) args))
    (sym (reader_is p)) (supplied_means false w limits (meant.asked p) ps args are (omega arith)) in
    record {
      operand = c.operand;
      first = c.first;
      others = c.others;
      value = c.value;
      alone = c.alone;
      aims = λ width l e. property_parts w p ps args are width l e;
      branch = c.branch;
    }
