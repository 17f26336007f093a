use Rattle.std.proofs.Common.{◌≡◌, sym, ap, subst, ◌∙◌, None, Some, Result, Ok, Err, IfErr, true, false, is_some, option_map}
use Rattle.inf_properties.specs.Open.{class_refused}
use Rattle.inf_objects.specs.Objects.{is_passed, join_fault}
use Rattle.inf_tables.specs.{Faults.given_fault, Objects.class_at, declared.faults.WorldFault.WorldFault}
use Rattle.inf_tables.specs.World.{IsRefused, WorldOf, class_of_fault, ended_bytes, room_beside}
use Rattle.inf_tables.proofs.Counting.{class_fault_is, refused_as, told_by}
use Rattle.inf_tables.proofs.world.World.join_class.Goals as goal

pub returns-in_err-name_class-clause-fault : goal.returns-in_err-name_class-clause-fault
returns-in_err-name_class-clause-fault g c =
    let i = c.self.inside in
    let w : WorldOf = record {
      attributes = i.attributes;
      declared = i.declared.items;
      individuals = i.individuals;
      objects = i.objects.items;
      is_open = i.is_open;
      body = i.body;
    } in
    let number = c.args.number in let f = c.in_err-name_class.field-0.0 in let class = c.in-Some.class.now in
    let is : class_at number w.objects ≡ Some class =
    ap (class_at number) (sym c.deref.ensures.value) ∙ sym c.class_of.ensures ∙ ap (option_map (λ o. o.now)) c.in-Some.is in
    let found : class_of_fault g.B.Bounds.most number w ≡ option_map given_fault
    (join_fault number class (room_beside g.B.Bounds.most w) w.body) =
    class_fault_is g.B.Bounds.most w number class c.if-not-self.false c.if-number-eq0.false is in
    let refused : class_refused (join_fault number class (room_beside g.B.Bounds.most w) w.body) f =
    subst (λ l. class_refused (join_fault number class (record { others = ended_bytes w.objects; limit = l }) i.body) f) c.self.invariant.2
    (subst (λ n. class_refused (join_fault number class (record { others = n; limit = i.limits.property_bytes }) i.body) f)
    c.self.invariant.0.bytes_are c.in_err-name_class.ensures.fault) in
    let told : IsRefused (class_of_fault g.B.Bounds.most number w) (given_fault f) = subst (λ o. IsRefused o (given_fault f)) (sym found)
    (refused_as (join_fault number class (room_beside g.B.Bounds.most w) w.body) f refused) in
    told_by c.from_residual.result (λ x. class_of_fault g.B.Bounds.most number c.args.self.now ≡ None)
    (IsRefused (class_of_fault g.B.Bounds.most number c.args.self.now)) (given_fault f) c.from_residual.ensures.1
    (subst (λ v. IsRefused (class_of_fault g.B.Bounds.most number v) (given_fault f)) c.self.view_is told)

-- what holds of each fault holds of a refusal
of_each_fault : {A : Type 0} (r : Result A WorldFault) (P : WorldFault → Type 0) → ((f : WorldFault) → P f) → IfErr r P
of_each_fault (Ok x) P holds = tt
of_each_fault (Err f) P holds = holds f

pub returns-in_err-name_class-clause-memory : goal.returns-in_err-name_class-clause-memory
returns-in_err-name_class-clause-memory g c =
    let number = c.args.number in let now = c.args.self.now in
    let is : class_at number c.self.inside.objects.items ≡ Some c.in-Some.class.now =
    ap (class_at number) (sym c.deref.ensures.value) ∙ sym c.class_of.ensures ∙ ap (option_map (λ o. o.now)) c.in-Some.is in
    of_each_fault c.from_residual.result (λ refused. refused ≡ WorldFault.Memory
    → (now.is_open ≡ true) × (is_some (class_at number now.objects) ≡ true) × (is_passed number now.body ≡ false)) (λ refused memory. (
      ap (λ (w : WorldOf). w.is_open) (sym c.self.view_is) ∙ c.if-not-self.false,
      ap (λ (w : WorldOf). is_some (class_at number w.objects)) (sym c.self.view_is) ∙ ap is_some is,
      ap (λ (w : WorldOf). is_passed number w.body) (sym c.self.view_is) ∙ c.in_err-name_class.ensures.passed,
    ))
