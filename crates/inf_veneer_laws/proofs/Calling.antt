-- In a world whose calls run the texts, calls come to what the contracts say.
use Rattle.std.proofs.Common.{◌≡◌, ◌⊎◌, ℕ, zero, suc, List, [], ◌∷◌, Option, Bool, false, refl, ◌∙◌, ap, inl, inr, le_refl, sym}
use Rattle.std.proofs.lemmas.Bool.{eq-eqb}
use Rattle.std.specs.Prelude.{◌==◌, if◌then◌else◌}
use Rattle.inf_output.specs.{Veneer.name_of, declared.veneer.Veneer.Veneer}
use Rattle.inf_expressions.specs.declared.operators.Operand.{Operand}
use Rattle.inf_interpreter.specs.{Machine.Store, Machine.World, Worlds.with_left}
use Rattle.inf_veneer_laws.specs.{Properties.most_rows, Sources.Routine, Worlds.HasObjects}
use Rattle.inf_veneer_laws.specs.Calling.{AreCalled, AreDifferent, CallsRunTexts, IsOther, called_in, message_number, number_of, routines}
use Rattle.inf_veneer_laws.specs.Calling.{with_texts, with_texts_to}
use Rattle.inf_veneer_laws.specs.Classes.{Compares, HasClasses, HasConstants, TellsClass, TellsRegion}
use Rattle.inf_veneer_laws.specs.Outcomes.{AsksAddress, AsksLength, CountsChildren, FindsOwn, ProvidesProperty, ReadsProperty}
use Rattle.inf_veneer_laws.specs.Outcomes.{StepsProperty, WritesProperty}
use Rattle.inf_veneer_laws.specs.Routines.{compare, count_children, find_own, of_class, property_address, property_length}
use Rattle.inf_veneer_laws.specs.Routines.{provides_property, read_property, region, step_byte, step_property, step_word, write_byte}
use Rattle.inf_veneer_laws.specs.Routines.{write_property, write_word}
use Rattle.inf_veneer_laws.specs.Running.{Calls, Contract, IsSupplied, Meets, Numbers, called_with}
use Rattle.inf_veneer_laws.specs.Sending.{KeepsLocals, MessageMeets, Sends, message_called}
use Rattle.inf_veneer_laws.proofs.{Children.children_are_counted, Classes.classes_are_told, Comparing.numbers_are_compared}
use Rattle.inf_veneer_laws.proofs.{Entries.entries_are_stepped, Entries.entries_are_written, Keeping.locals_stay}
use Rattle.inf_veneer_laws.proofs.{Own.own_properties_are_found, Reading.properties_are_read, Regions.regions_are_told}
use Rattle.inf_veneer_laws.proofs.{Sending.messages_are_sent, Writing.properties_are_provided, Writing.properties_are_written}

abbrev Has : Routine → List Routine → Type 0
Has r [] = ⊥
Has r (other ∷ all) = (other ≡ r) ⊎ Has r all

-- A number finds its routine among those whose numbers differ.

is_other : (w : World) (numbers : Numbers) (action : Option Operand) (r x : Routine) (all : List Routine) → IsOther w numbers x all → Has r all →
    (number_of w numbers x == number_of w numbers r) ≡ false
is_other w numbers action r x [] d h = absurd h
is_other w numbers action r x (other ∷ all) d (inl e) = ap (λ (y : Routine). number_of w numbers x == number_of w numbers y) (sym e) ∙ d.0
is_other w numbers action r x (other ∷ all) d (inr h) = is_other w numbers action r x all d.1 h

finds : (w : World) (numbers : Numbers) (action : Option Operand) (r : Routine) (all : List Routine) → AreDifferent w numbers all → Has r all → (s : Store)
    (ns : List ℕ) → called_in w numbers action all s (number_of w numbers r) ns ≡ with_left (called_with w numbers most_rows r ns s)
finds w numbers action r [] d h s ns = absurd h
finds w numbers action r (x ∷ all) d (inl e) s ns =
    let others = called_in w numbers action all s (number_of w numbers r) ns in
    ap (λ (b : Bool). if b then with_left (called_with w numbers most_rows x ns s) else others)
    (eq-eqb (number_of w numbers x) (number_of w numbers r) (ap (number_of w numbers) e))
    ∙ ap (λ (y : Routine). with_left (called_with w numbers most_rows y ns s)) e
finds w numbers action r (x ∷ all) d (inr h) s ns =
    let others = called_in w numbers action all s (number_of w numbers r) ns in
    ap (λ (b : Bool). if b then with_left (called_with w numbers most_rows x ns s) else others) (is_other w numbers action r x all d.0 h)
    ∙ finds w numbers action r all d.1 h s ns

calls_text : (w : World) (numbers : Numbers) (action : Option Operand) (r : Routine) (C : Contract) → AreDifferent w numbers routines → Has r routines →
    Meets w numbers r C → Calls (with_texts w numbers action) numbers r.name C
calls_text w numbers action r C d h meets = record {
  comes = λ ns s n t c. (0, finds w numbers action r routines d h s ns ∙ ap with_left (meets ns s n t c most_rows (le_refl most_rows)));
}

-- The world is another one in its calls alone.

objects_stay : (w : World) (numbers : Numbers) (action : Option Operand) → HasObjects w → HasObjects (with_texts w numbers action)
objects_stay w numbers action h = record {
  child = h.child;
  sibling = h.sibling;
  children = h.children;
  value = h.value;
  address = h.address;
  length = h.length;
  writes = h.writes;
  provides = h.provides;
}

classes_stay : (w : World) (numbers : Numbers) (action : Option Operand) → HasClasses w → HasClasses (with_texts w numbers action)
classes_stay w numbers action h = record { parent = h.parent; classes = h.classes }

constants_stay : (w : World) (numbers : Numbers) (action : Option Operand) → HasConstants w → HasConstants (with_texts w numbers action)
constants_stay w numbers action h = record { objects = h.objects; strings = h.strings; code = h.code }

objects_stay_to : (w : World) (numbers : Numbers) (action : Option Operand) → HasObjects w → (depth : ℕ) → HasObjects (with_texts_to depth w numbers action)
objects_stay_to w numbers action h zero = h
objects_stay_to w numbers action h (suc depth) = objects_stay (with_texts_to depth w numbers action) numbers action (objects_stay_to w numbers action h depth)

classes_stay_to : (w : World) (numbers : Numbers) (action : Option Operand) → HasClasses w → (depth : ℕ) → HasClasses (with_texts_to depth w numbers action)
classes_stay_to w numbers action h zero = h
classes_stay_to w numbers action h (suc depth) = classes_stay (with_texts_to depth w numbers action) numbers action (classes_stay_to w numbers action h depth)

constants_stay_to : (w : World) (numbers : Numbers) (action : Option Operand) → HasConstants w → (depth : ℕ) → HasConstants (with_texts_to depth w numbers action)
constants_stay_to w numbers action h zero = h
constants_stay_to w numbers action h (suc depth) = constants_stay (with_texts_to depth w numbers action) numbers action (constants_stay_to w numbers action h depth)

differ_to : (w : World) (numbers : Numbers) (action : Option Operand) → AreDifferent w numbers routines → (depth : ℕ) →
    AreDifferent (with_texts_to depth w numbers action) numbers routines
differ_to w numbers action d zero = d
differ_to w numbers action d (suc depth) = differ_to w numbers action d depth

-- the routines behind the first six, and behind the first twelve
at_6 : {r : Routine} →
    Has r (step_property ∷ count_children ∷ write_byte ∷ write_word ∷ step_byte ∷ step_word ∷ compare ∷ region ∷ of_class ∷ []) →
    Has r routines
at_6 h = inr (inr (inr (inr (inr (inr h)))))

at_12 : {r : Routine} → Has r (compare ∷ region ∷ of_class ∷ []) → Has r routines
at_12 h = inr (inr (inr (inr (inr (inr (inr (inr (inr (inr (inr (inr h)))))))))))

-- calls of `CP__Tab`, one level up
own_called : (w : World) (numbers : Numbers) (action : Option Operand) → AreDifferent w numbers routines → Calls (with_texts w numbers action) numbers find_own.name FindsOwn
own_called w numbers action d = calls_text w numbers action find_own FindsOwn d (inl refl) (own_properties_are_found w numbers)

calls_at : (w : World) (numbers : Numbers) (action : Option Operand) → HasObjects w → HasClasses w → HasConstants w → AreDifferent w numbers routines →
    AreCalled (with_texts (with_texts (with_texts w numbers action) numbers action) numbers action) numbers
calls_at w numbers action h k c d =
    let one = with_texts w numbers action in
    let two = with_texts one numbers action in
    let h1 = objects_stay w numbers action h in
    let h2 = objects_stay one numbers action h1 in
    let address_below = calls_text one numbers action property_address (AsksAddress one) d (inr (inl refl))
    (properties_are_read one numbers h1 (own_called w numbers action d)).0 in
    let writes_below = calls_text one numbers action write_property (WritesProperty one) d (inr (inr (inr (inr (inr (inl refl))))))
    (properties_are_written one numbers h1).0 in
    let k2 = classes_stay one numbers action (classes_stay w numbers action k) in
    let c1 = constants_stay w numbers action c in
    let c2 = constants_stay one numbers action c1 in
    let compared_first = calls_text w numbers action compare Compares d (at_12 (inl refl)) (numbers_are_compared w numbers) in
    let compared_below = calls_text one numbers action compare Compares d (at_12 (inl refl)) (numbers_are_compared one numbers) in
    let region_below = calls_text one numbers action region (TellsRegion one) d (at_12 (inr (inl refl)))
    (regions_are_told one numbers c1 compared_first) in
    let read = properties_are_read two numbers h2 (own_called one numbers action d) in
    let written = properties_are_written two numbers h2 in record {
      own = own_called two numbers action d;
      address = calls_text two numbers action property_address (AsksAddress two) d (inr (inl refl)) read.0;
      length = calls_text two numbers action property_length (AsksLength two) d (inr (inr (inl refl))) read.1;
      value = calls_text two numbers action read_property (ReadsProperty two) d (inr (inr (inr (inl refl)))) read.2;
      provides = calls_text two numbers action provides_property (ProvidesProperty two) d (inr (inr (inr (inr (inl refl)))))
          (properties_are_provided two numbers h2 address_below);
      writes = calls_text two numbers action write_property (WritesProperty two) d (inr (inr (inr (inr (inr (inl refl)))))) written.0;
      steps = calls_text two numbers action step_property (StepsProperty two) d (at_6 (inl refl)) (written.1 writes_below);
      children = calls_text two numbers action count_children (CountsChildren two) d (at_6 (inr (inl refl)))
          (children_are_counted two numbers h2);
      writes_byte = calls_text two numbers action write_byte (IsSupplied two Veneer.WriteByte) d (at_6 (inr (inr (inl refl))))
          (entries_are_written two numbers).0;
      writes_word = calls_text two numbers action write_word (IsSupplied two Veneer.WriteWord) d (at_6 (inr (inr (inr (inl refl)))))
          (entries_are_written two numbers).1;
      steps_byte = calls_text two numbers action step_byte (IsSupplied two Veneer.StepByte) d (at_6 (inr (inr (inr (inr (inl refl))))))
          (entries_are_stepped two numbers).0;
      steps_word =
          calls_text two numbers action step_word (IsSupplied two Veneer.StepWord) d (at_6 (inr (inr (inr (inr (inr (inl refl)))))))
          (entries_are_stepped two numbers).1;
      compares = calls_text two numbers action compare Compares d (at_12 (inl refl)) (numbers_are_compared two numbers);
      region = calls_text two numbers action region (TellsRegion two) d (at_12 (inr (inl refl)))
          (regions_are_told two numbers c2 compared_below);
      class = calls_text two numbers action of_class (TellsClass two) d (at_12 (inr (inr (inl refl))))
          (classes_are_told two numbers k2 region_below);
    }

-- Messages: their routine is found behind all others.

not_message : (w : World) (numbers : Numbers) (x : Routine) (all : List Routine) → IsOther w numbers x all →
    (number_of w numbers x == message_number w numbers) ≡ false
not_message w numbers x [] d = d
not_message w numbers x (other ∷ all) d = not_message w numbers x all d.1

finds_message : (w : World) (numbers : Numbers) (action : Option Operand) (all : List Routine) → AreDifferent w numbers all → (s : Store)
    (ns : List ℕ) →
    called_in w numbers action all s (message_number w numbers) ns ≡ with_left (message_called w numbers action most_rows ns s)
finds_message w numbers action [] d s ns =
    let n = message_number w numbers in
    ap (λ (b : Bool). if b then with_left (message_called w numbers action most_rows ns s) else w.called s n ns) (eq-eqb n n refl)
finds_message w numbers action (x ∷ all) d s ns =
    let others = called_in w numbers action all s (message_number w numbers) ns in
    ap (λ (b : Bool). if b then with_left (called_with w numbers most_rows x ns s) else others) (not_message w numbers x all d.0)
    ∙ finds_message w numbers action all d.1 s ns

calls_message : (w : World) (numbers : Numbers) (action : Option Operand) → AreDifferent w numbers routines →
    MessageMeets w numbers action (Sends w action) →
    Calls (with_texts w numbers action) numbers (name_of Veneer.CallProperty) (Sends w action)
calls_message w numbers action d meets = record {
  comes = λ ns s n t c. (0, finds_message w numbers action routines d s ns ∙ ap with_left (meets ns s n t c most_rows));
}

keep_to : (w : World) (numbers : Numbers) (action : Option Operand) → KeepsLocals w → (depth : ℕ) →
    KeepsLocals (with_texts_to depth w numbers action)
keep_to w numbers action k zero = k
keep_to w numbers action k (suc depth) =
    locals_stay (with_texts_to depth w numbers action) numbers action (keep_to w numbers action k depth)

pub calls_run_texts : CallsRunTexts
calls_run_texts w numbers action h k c d depth =
    let below = with_texts_to (suc (suc (suc depth))) w numbers action in
    let called = calls_at (with_texts_to depth w numbers action) numbers action (objects_stay_to w numbers action h depth)
    (classes_stay_to w numbers action k depth) (constants_stay_to w numbers action c depth) (differ_to w numbers action d depth) in (
      called,
      λ keeps outer. calls_message below numbers action (differ_to w numbers action d (suc (suc (suc depth))))
          (messages_are_sent below numbers action (objects_stay_to w numbers action h (suc (suc (suc depth))))
          (keep_to w numbers action keeps (suc (suc (suc depth)))) outer called.region).0,
    )
