-- Calls of properties, which are messages to objects, and calls of anything.
use Rattle.std.proofs.Common.{arith, ◌≡◌, ◌≤◌, List, [], ◌∷◌, ◌++◌, Bool, false, refl, sym, subst, length}
use Rattle.inf_settings.specs.Bounds.{Limits}
use Rattle.inf_expressions.specs.{Trees.Tree, Trees.Two, declared.operators.Binary.Binary, declared.operators.PropertyPart.PropertyPart}
use Rattle.inf_output.specs.declared.veneer.Veneer.{Veneer}
use Rattle.inf_templates.specs.{Meaning.Meaning, Meaning.meaning, Parts.Part}
use Rattle.inf_templates.specs.Meaning as code
use Rattle.inf_interpreter.specs.Machine.{World}
use Rattle.inf_meaning_laws.specs.Values.{Arg, Element, Properties, Sense, arg, sense}
use Rattle.inf_meaning_laws.specs.Covered.{most_arguments}
use Rattle.inf_meaning_laws.specs.Values as values
use Rattle.inf_meaning_laws.proofs.{Called.call_of_means, Groups.same_length, Meant.Means, Supplying.supplied_means, Working.AreParts}
use Rattle.inf_meaning_laws.proofs.Assigned.{are_joined, joined_length}

-- The object, the property and the arguments are handed to the routine that sends the message.
message_means : (keeps : Bool) (w : World) (limits : Limits) (m : Meaning) (e : Sense) (parts : List Arg) →
    e.aim ≡ Element Properties parts → length parts ≡ 2 → Means keeps w limits m e → (ps : List Part) (arguments : List Arg) →
    AreParts keeps w ps arguments → length ps ≤ 5 →
    Means false w limits (code.called limits (code.call_of limits m ps)) (values.called_as w (Element Properties parts) e arguments)
unfolding code.call_of
message_means keeps w limits m e parts aim two k ps arguments h few =
    let q = k.aims Properties parts aim in
    let all = q.0 ++ ps in
    let args = parts ++ arguments in
    let are = are_joined keeps w q.0 parts ps arguments q.2 h in
    let long = joined_length parts arguments in
    let same = same_length keeps w all args are in
    let alike = same_length keeps w ps arguments h in
    let fits : length all ≤ 7 = omega (arith, long, same, alike, two, few) in
    subst (λ t. Means false w limits (code.called limits (code.called_by limits t m ps)) (values.supplied_by w Veneer.CallProperty args))
    (sym q.1) (supplied_means keeps w limits Veneer.CallProperty all args are fits)

pub call_means : (keeps : Bool) (w : World) (limits : Limits) (f : Tree) (ps : List Part) (arguments : List Arg) →
    Means keeps w limits (meaning limits f) (sense w f) → AreParts keeps w ps arguments → length ps ≤ most_arguments f →
    Means false w limits (code.called limits (code.call_of limits (meaning limits f) ps))
    (values.called_as w (sense w f).aim (sense w f) arguments)
call_means keeps w limits (Two (Binary.Property PropertyPart.Value) o p) ps arguments k h few =
    message_means keeps w limits (meaning limits (Two (Binary.Property PropertyPart.Value) o p))
    (sense w (Two (Binary.Property PropertyPart.Value) o p)) (arg (sense w o) ∷ arg (sense w p) ∷ []) refl refl k ps arguments h few
call_means keeps w limits f ps arguments k h few = call_of_means keeps w limits f tt k ps arguments h few
