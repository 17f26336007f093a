-- Behind the units of declarations the world is that of their bodies, part by part.
use Rattle.std.proofs.Common.{◌≡◌, ℕ, ◌+◌, ◌==◌, List, [], ◌∷◌, ◌++◌, map, Bool, true, false, Option, Some, None, refl, sym, ap, ◌∙◌, subst, cond}
use Rattle.std.proofs.Common.{option_map, is_some}
use Rattle.inf_settings.specs.Bounds.{Limits}
use Rattle.inf_area.specs.declared.targets.Value.{Value}
use Rattle.inf_characters.specs.declared.texts.TextItem.{TextItem}
use Rattle.inf_scanner.specs.declared.tokens.Place.{Place}
use Rattle.inf_properties.specs.{Open.Open, Open.give_fault, Open.given_first, Properties.has, declared.open.GiveFault.GiveFault}
use Rattle.inf_objects.specs.{Objects.is_lost, declared.objects.Object.Object}
use Rattle.inf_compilation.specs.{Actions.Compilation, Actions.body_ended, Context.Context}
use Rattle.inf_tables.specs.{Faults.given_fault, Objects.class_at, declared.faults.WorldFault.WorldFault, declared.kinds.Parent.Parent}
use Rattle.inf_tables.specs.World.{WorldOf, class_by_fault, class_header_fault, class_of_fault, further_value_fault, given_fault_of}
use Rattle.inf_tables.specs.World.{given_property_fault, kind_of, lost_given_fault, object_header_fault, room_of, set_attribute_fault}
use Rattle.inf_tables.specs.World.{with_class_header, with_class_of, with_end, with_further_value, with_given_property, with_individual}
use Rattle.inf_tables.specs.World.{with_object_header, with_set_attribute}
use Rattle.inf_bodies.specs.Objects.{class_of_word, found_at}
use Rattle.inf_bodies.specs.Bodies.{given, given_finding, last_at, placed, property_of}
use Rattle.inf_bodies.specs.Values.{value_read}
use Rattle.inf_world_laws.specs.Declaring.{Run, given as given_in, given_as, given_values, headed, number_in, with_values}
use Rattle.inf_world_laws.specs.Parts.{AreThings, BodiesFit, Part, PartFits, PartsFit, begun, bodies_done, body_done}
use Rattle.inf_world_laws.specs.Parts.{part_done, parts_done}
use Rattle.inf_world_laws.specs.Things.{Declared, Individual, PropertyName}
use Rattle.inf_world_laws.specs.Whole.{ClassFits, GivenFits, HeadFits, IndividualFits, PropertyFits}
use Rattle.inf_world_laws.proofs.Parts.{bodies_agree}
use Rattle.inf_entry_laws.specs.Laws.{FirstClassFits, class_short, object_short, parent_of, with_first_class, world_of}
use Rattle.inf_entry_laws.specs.Runs.{AttributeNamed, ClassHeader, ClassNamed, DeclarationUnits, HeaderUnit, ObjectHeader, PartUnits, Piece}
use Rattle.inf_entry_laws.specs.Runs.{Plain, PropertyNamed, Routine, ValueUnit, Valued, all_behind, body_by, body_of, first_part, header_behind}
use Rattle.inf_entry_laws.specs.Runs.{headless, part_behind, part_of, parts_behind, place_by, plain_taken, taken, text_in, value_behind, value_in}
use Rattle.inf_entry_laws.specs.Runs.{values_behind}
use Rattle.inf_entry_laws.specs.Chains.{AreDeclarations, AreFurther, AreParts, DeclarationsMakeThings, Given}
use Rattle.inf_entry_laws.specs.Chains.{IsDeclaration, IsFirst, IsFurther, IsHeader, IsKnown, IsObjectHeader, IsPart, IsPlain}
use Rattle.inf_entry_laws.specs.Chains.{IsRight, number_of, piece_of, run}
use Rattle.inf_entry_laws.proofs.Entries.{entries_change, headers_change, values_change}

-- Lemmas about faults that a world has not

open_fits : (b : Bool) (g : Option WorldFault) (f : WorldFault) → cond b g (Some f) ≡ None → g ≡ None
open_fits true g f e = e
open_fits false g f e = absurd (cc e)

class_there : (limits : Limits) (c : ℕ) (w : WorldOf) → (c == 0) ≡ false → class_of_fault limits c w ≡ None → ClassFits c w.objects
class_there limits c w some e = (
  some,
  by (class_at c w.objects) (ap (λ b. cond b None (class_by_fault limits (class_at c w.objects) c w)) (sym some)
      ∙ open_fits w.is_open _ _ e),
)
  where
    by : (o : Option Object) → class_by_fault limits o c w ≡ None → is_some o ≡ true
    by None e = absurd (cc e)
    by (Some class) e = refl

fit_given : (o : Option GiveFault) → option_map given_fault o ≡ None → o ≡ None
fit_given None e = refl
fit_given (Some f) e = absurd (cc e)

fit_new : (b : Bool) (g : Option GiveFault) → cond b (Some GiveFault.Given) g ≡ None → b ≡ false
fit_new true g e = absurd (cc e)
fit_new false g e = refl

module _ (limits : Limits) (n : ℕ) (v : Option Value) (w : WorldOf) where
  abbrev own : Open
  own = w.body.properties

  given_new : (b l : Bool) → cond l (option_map given_fault (lost_given_fault n own))
      (option_map given_fault (give_fault (given_first n b v) (room_of limits w) own))
      ≡ None
      → has n own.own ≡ false
  given_new b true e = fit_new (has n own.own) _ (fit_given (lost_given_fault n own) e)
  given_new b false e = fit_new (has n own.own) _ (fit_given (give_fault (given_first n b v) (room_of limits w) own) e)

  given_by_kind : (k : Option Bool) → given_fault_of limits k n v w ≡ None → (is_some k ≡ true) × (has n own.own ≡ false)
  given_by_kind None e = absurd (cc e)
  given_by_kind (Some b) e = (refl, given_new b (is_lost own.owner) e)

  given_fits : given_property_fault limits n v w ≡ None → GivenFits n w
  given_fits e = given_by_kind (kind_of n w) (open_fits w.is_open _ _ e)

property_fits : (limits : Limits) (o : Option ℕ) (v : Option Value) (w : WorldOf) → Given limits o v w → IndividualFits o w
property_fits limits (Some n) v w h = given_fits limits n v w h
property_fits limits None v w h = given_fits limits (64 + w.individuals) v (with_individual w) h.1

module _ (limits : Limits) (context : Context) where
  -- Lemmas about values

  taken_world : (u : ValueUnit) → world_of (taken limits context u).work ≡ world_of (piece_of u).work
  taken_world (Plain u) = by (text_in context u.work)
    where
      by : (o : Option (List TextItem)) → world_of (plain_taken limits context o u.work).work ≡ world_of u.work
      by (Some items) = refl
      by None = (values_change limits context u.place u.work).settled
  taken_world (Routine u) = refl

  plain_is : (u : Piece) (o : Option (List TextItem)) → text_in context u.work ≡ o → IsPlain limits context o u.work
      → world_of (value_read limits context u.place u.work)
      ≡ world_of (placed limits (plain_taken limits context o u.work).name (plain_taken limits context o u.work).value None
      (plain_taken limits context o u.work).work)
  plain_is u (Some items) e right = (values_change limits context u.place u.work).word items e right
  plain_is u None e right = (values_change limits context u.place u.work).expression e right

  value_is : (u : ValueUnit) → IsRight limits context u → world_of (value_behind limits context u)
      ≡ world_of (placed limits (taken limits context u).name (taken limits context u).value None (taken limits context u).work)
  value_is (Plain u) right = plain_is u (text_in context u.work) refl right
  value_is (Routine u) right = (values_change limits context u.place (headless u.work)).routine _ _ u.work.unit.headed right

  -- the world behind a property with a first value or none, and behind all its values, by the number of its name

  abbrev first_world : Option ℕ → Option Value → WorldOf → WorldOf
  first_world (Some n) v w = with_given_property n v w
  first_world None v w = with_given_property (64 + w.individuals) v (with_individual w)

  first_run : (place : Place) (o : Option ℕ) (at : ℕ) (v : Option Value) (w : Compilation) → property_of (found_at at w) ≡ o
      → given_finding limits at v None w ≡ None → Given limits o v (world_of w)
      → world_of (given limits at v None w) ≡ first_world o v (world_of w)
  first_run place (Some n) at v w number untold fits = (values_change limits context place w).known at n v number untold fits
  first_run place None at v w number untold fits = (values_change limits context place w).new at v number untold fits.0 fits.1

  first_is : (p : PropertyName) (u : ValueUnit) (before : Compilation) (numbers : List (ℕ × ℕ)) → IsFirst limits context p u before numbers
      → world_of (value_behind limits context u)
      ≡ first_world (number_of p numbers) (Some (value_in limits context u)) (world_of before)
  first_is p u before numbers i =
      let t = taken limits context u in
      let v = Some t.value in
      let o = number_of p numbers in
      let same : world_of t.work ≡ world_of before = taken_world u ∙ i.continues in
      value_is u i.right
      ∙ ap (λ n. world_of (placed limits n t.value None t.work)) i.named
      ∙ first_run (piece_of u).place o i.at v t.work i.number i.untold (subst (Given limits o v) (sym same) i.fits)
      ∙ ap (first_world o v) same

  further_is : (u : ValueUnit) (before : Compilation) → IsFurther limits context u before
      → world_of (value_behind limits context u) ≡ with_further_value (value_in limits context u) (world_of before)
  further_is u before i =
      let t = taken limits context u in
      let same : world_of t.work ≡ world_of before = taken_world u ∙ i.continues in
      value_is u i.right
      ∙ ap (λ n. world_of (placed limits n t.value None t.work)) i.unnamed
      ∙ (values_change limits context (piece_of u).place t.work).more t.value i.untold
      (ap (further_value_fault limits t.value) same ∙ i.fits)
      ∙ ap (with_further_value t.value) same

  values_run : (more : List ValueUnit) (before : Compilation) → AreFurther limits context more before
      → world_of (values_behind limits context more before) ≡ with_values (map (value_in limits context) more) (world_of before)
  values_run [] before are = refl
  values_run (u ∷ more) before are = values_run more (value_behind limits context u) are.1
      ∙ ap (with_values (map (value_in limits context) more)) (further_is u before are.0)

  -- Lemmas about properties

  abbrev whole_world : Option ℕ → List Value → WorldOf → WorldOf
  whole_world (Some n) values w = given_values n values w
  whole_world None values w = given_values (64 + w.individuals) values (with_individual w)

  none_first : (o : Option ℕ) (w : WorldOf) → first_world o None w ≡ whole_world o [] w
  none_first (Some n) w = refl
  none_first None w = refl

  some_first : (o : Option ℕ) (v : Value) (values : List Value) (w : WorldOf)
      → with_values values (first_world o (Some v) w) ≡ whole_world o (v ∷ values) w
  some_first (Some n) v values w = refl
  some_first None v values w = refl

  as_world : (o : Option ℕ) (name : ℕ) (values : List Value) (r : Run) → (given_as o name values r).world ≡ whole_world o values r.world
  as_world (Some n) name values r = refl
  as_world None name values r = refl

  property_world : (p : PropertyName) (values : List Value) (r : Run)
      → (given_in (p, values) r).world ≡ whole_world (number_of p r.numbers) values r.world
  property_world (Declared n) values r = refl
  property_world (Individual name) values r = as_world (number_in name r.numbers) name values r

  property_fit : (p : PropertyName) (v : Option Value) (r : Run) → Given limits (number_of p r.numbers) v r.world → PropertyFits p r
  property_fit (Declared n) v r h = property_fits limits (Some n) v r.world h
  property_fit (Individual name) v r h = property_fits limits (number_in name r.numbers) v r.world h

  -- Lemmas about parts

  part_is : (u : PartUnits) (before : Compilation) (numbers : List (ℕ × ℕ)) → IsPart limits context u before numbers
      → world_of (part_behind limits context u) ≡ (part_done (part_of limits context u) (run before numbers)).world
  part_is (ClassNamed c u) before numbers i =
      (entries_change limits context u.place u.work).class c i.named (ap (class_of_fault limits c) i.continues ∙ i.fits)
      ∙ ap (with_class_of c) i.continues
  part_is (AttributeNamed a given u) before numbers i =
      (entries_change limits context u.place u.work).attribute a i.named (ap (set_attribute_fault a) i.continues ∙ i.fits)
      ∙ ap (λ b. with_set_attribute a b (world_of u.work)) i.sign ∙ ap (with_set_attribute a given) i.continues
  part_is (PropertyNamed p u) before numbers i =
      let o = number_of p numbers in
      (entries_change limits context u.place u.work).property
      ∙ first_run u.place o (last_at u.work.unit.tokens) None u.work i.number i.untold (subst (Given limits o None) (sym i.continues) i.fits)
      ∙ ap (first_world o None) i.continues ∙ none_first o (world_of before) ∙ sym (property_world p [] (run before numbers))
  part_is (Valued p u more) before numbers i =
      let o = number_of p numbers in
      let v = value_in limits context u in
      let values = map (value_in limits context) more in
      values_run more (value_behind limits context u) i.1
      ∙ ap (with_values values) (first_is p u before numbers i.0)
      ∙ some_first o v values (world_of before) ∙ sym (property_world p (v ∷ values) (run before numbers))

  part_fits : (u : PartUnits) (before : Compilation) (numbers : List (ℕ × ℕ)) → IsPart limits context u before numbers
      → PartFits (part_of limits context u) (run before numbers)
  part_fits (ClassNamed c u) before numbers i = class_there limits c (world_of before) i.known i.fits
  part_fits (AttributeNamed a given u) before numbers i = tt
  part_fits (PropertyNamed p u) before numbers i = property_fit p None (run before numbers) i.fits
  part_fits (Valued p u more) before numbers i = property_fit p (Some (value_in limits context u)) (run before numbers) i.0.fits

  run_is : (r : Run) (before : Compilation) → world_of before ≡ r.world → run before r.numbers ≡ r
  run_is r before e = ap (λ w. record { world = w; numbers = r.numbers }) e

  parts_run : (body : List PartUnits) (before : Compilation) (numbers : List (ℕ × ℕ)) → AreParts limits context body before numbers
      → world_of (parts_behind limits context body before)
      ≡ (parts_done (map (part_of limits context) body) (run before numbers)).world
  parts_run [] before numbers are = refl
  parts_run (u ∷ body) before numbers are =
      let r = part_done (part_of limits context u) (run before numbers) in
      parts_run body (part_behind limits context u) r.numbers are.1
      ∙ ap (λ r. (parts_done (map (part_of limits context) body) r).world)
      (run_is r (part_behind limits context u) (part_is u before numbers are.0))

  parts_fit : (body : List PartUnits) (before : Compilation) (numbers : List (ℕ × ℕ)) → AreParts limits context body before numbers
      → PartsFit (map (part_of limits context) body) (run before numbers)
  parts_fit [] before numbers are = tt
  parts_fit (u ∷ body) before numbers are =
      let r = part_done (part_of limits context u) (run before numbers) in (
        part_fits u before numbers are.0,
        subst (PartsFit (map (part_of limits context) body)) (run_is r (part_behind limits context u) (part_is u before numbers are.0))
            (parts_fit body (part_behind limits context u) r.numbers are.1),
      )

  -- Lemmas about headers

  headed_by : (p : Parent) (short : List ℕ) (w : WorldOf) → headed false (place_by p) short w ≡ with_object_header p short w
  headed_by (Parent.Arrows n) short w = refl
  headed_by (Parent.Object n) short w = refl

  head_by : (p : Parent) (short : List ℕ) (w : WorldOf) → object_header_fault limits p short w ≡ None
      → HeadFits limits false (place_by p) short w
  head_by (Parent.Arrows n) short w e = e
  head_by (Parent.Object n) short w e = e

  first_done : (f : Option ℕ) (parts : List Part) (w : WorldOf) (numbers : List (ℕ × ℕ))
      → parts_done parts (record { world = with_first_class f w; numbers = numbers })
      ≡ parts_done (first_part f ++ parts) (record { world = w; numbers = numbers })
  first_done None parts w numbers = refl
  first_done (Some c) parts w numbers = refl

  first_fits : (f : Option ℕ) (parts : List Part) (w : WorldOf) (numbers : List (ℕ × ℕ)) → IsKnown f → FirstClassFits limits f w
      → PartsFit parts (record { world = with_first_class f w; numbers = numbers })
      → PartsFit (first_part f ++ parts) (record { world = w; numbers = numbers })
  first_fits None parts w numbers known fits rest = rest
  first_fits (Some c) parts w numbers known fits rest = (class_there limits c w known fits, rest)

  module _ (parts : List Part) (before : Compilation) (numbers : List (ℕ × ℕ)) where
    pub record Heads (h : HeaderUnit) : Type 0 where
      pub is : parts_done parts (run (header_behind limits context h) numbers)
          ≡ parts_done (body_by context h parts).parts (begun (body_by context h parts) (run before numbers))
      pub head : HeadFits limits (body_by context h parts).is_class (body_by context h parts).place (body_by context h parts).short
          (world_of before)
      pub fits : PartsFit parts (run (header_behind limits context h) numbers)
          → PartsFit (body_by context h parts).parts (begun (body_by context h parts) (run before numbers))

    object_heads : (u : Piece) → IsObjectHeader limits context u before → Heads (ObjectHeader u)
    object_heads u i =
        let p = parent_of u.work in
        let short = object_short context u.work in
        let f = class_of_word u.work in
        let w = with_object_header p short (world_of before) in
        let world : world_of (header_behind limits context (ObjectHeader u)) ≡ with_first_class f w =
        (headers_change limits context u.place u.work).object i.untold (ap (object_header_fault limits p short) i.continues ∙ i.fits)
        (subst (λ w. FirstClassFits limits f (with_object_header p short w)) (sym i.continues) i.class_fits)
        ∙ ap (λ w. with_first_class f (with_object_header p short w)) i.continues in
        record {
          is = ap (λ w. parts_done parts (record { world = w; numbers = numbers })) world ∙ first_done f parts w numbers
              ∙ ap (λ w. parts_done (first_part f ++ parts) (record { world = w; numbers = numbers }))
              (sym (headed_by p short (world_of before)));
          head = head_by p short (world_of before) i.fits;
          fits = λ rest. subst (λ w. PartsFit (first_part f ++ parts) (record { world = w; numbers = numbers }))
              (sym (headed_by p short (world_of before)))
              (first_fits f parts w numbers i.known i.class_fits
              (subst (λ w. PartsFit parts (record { world = w; numbers = numbers })) world rest));
        }

    header_heads : (h : HeaderUnit) → IsHeader limits context h before → Heads h
    header_heads (ClassHeader n u) i =
        let short = class_short context n u.work in
        let world : world_of (header_behind limits context (ClassHeader n u)) ≡ with_class_header short (world_of before) =
        (headers_change limits context u.place u.work).class n i.untold (ap (class_header_fault limits short) i.continues ∙ i.fits)
        ∙ ap (with_class_header short) i.continues in
        record {
          is = ap (λ w. parts_done parts (record { world = w; numbers = numbers })) world;
          head = i.fits;
          fits = λ rest. subst (λ w. PartsFit parts (record { world = w; numbers = numbers })) world rest;
        }
    header_heads (ObjectHeader u) i = object_heads u i

  -- Lemmas about declarations

  module _ (d : DeclarationUnits) (before : Compilation) (numbers : List (ℕ × ℕ)) (i : IsDeclaration limits context d before numbers)
    where
      abbrev parts : List Part
      parts = map (part_of limits context) d.body

      abbrev heads : Heads parts before numbers d.header
      heads = header_heads parts before numbers d.header i.header

      declaration_is : world_of (body_ended d.last) ≡ (body_done (body_of limits context d) (run before numbers)).world
      declaration_is = (entries_change limits context (place_in d.header) d.last).ends i.is_open
          ∙ ap with_end (i.continues ∙ parts_run d.body (header_behind limits context d.header) numbers i.body
          ∙ ap (λ r. r.world) heads.is)
        where
          place_in : HeaderUnit → Place
          place_in (ClassHeader n u) = u.place
          place_in (ObjectHeader u) = u.place

      declaration_fits : PartsFit (body_of limits context d).parts (begun (body_of limits context d) (run before numbers))
      declaration_fits = heads.fits (parts_fit d.body (header_behind limits context d.header) numbers i.body)

  all_run : (units : List DeclarationUnits) (before : Compilation) (numbers : List (ℕ × ℕ))
      → AreDeclarations limits context units before numbers
      → (world_of (all_behind limits context units before)
      ≡ (bodies_done (map (body_of limits context) units) (run before numbers)).world)
      × BodiesFit limits (map (body_of limits context) units) (run before numbers)
  all_run [] before numbers are = (refl, tt)
  all_run (d ∷ units) before numbers are =
      let b = body_of limits context d in
      let r = body_done b (run before numbers) in
      let same = run_is r (body_ended d.last) (declaration_is d before numbers are.0) in
      let rest = all_run units (body_ended d.last) r.numbers are.1 in (
        rest.0 ∙ ap (λ r. (bodies_done (map (body_of limits context) units) r).world) same,
        (
          (heads d before numbers are.0).head,
          declaration_fits d before numbers are.0,
          subst (BodiesFit limits (map (body_of limits context) units)) same rest.1,
        ),
      )

pub declarations_make_things : DeclarationsMakeThings
declarations_make_things limits context additive units before none zero kinds are =
    let r = all_run limits context units before [] are in
    subst (AreThings additive (map (body_of limits context) units)) (sym (ap (λ w. w.objects) r.0))
    (bodies_agree limits additive (map (body_of limits context) units) (world_of before) none zero kinds r.1)
