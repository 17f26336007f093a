-- Groups of alternatives.
use Rattle.std.proofs.Common.{◌≡◌, ◌∙◌, ◌≤◌, ◌+◌, Bool, true, false, List, [], ◌∷◌, ap, arith, length, nat_lt, refl, take}
use Rattle.std.proofs.lemmas.Bool.Decides.{nat_tests}
use Rattle.inf_settings.specs.Bounds.{Limits}
use Rattle.inf_expressions.specs.declared.operators.Test.{Test}
use Rattle.inf_opcode.specs.declared.instructions.Label.{Label}
use Rattle.inf_output.specs.{Output.Out, declared.operands.Simple.Simple}
use Rattle.inf_templates.specs.Meaning.{compared, group, most_compared, single_tests, tested, tests, triple_tests}
use Rattle.inf_templates.specs.Parts.{Part, evaluated, is, operands}

pub one_left : (limits : Limits) (x : Simple) (b : Part) (sense : Bool) (label there : Label) (o : Out) →
    triple_tests limits x (b ∷ []) sense label there o ≡ tested limits Test.Equal (is x ∷ b ∷ []) sense label o
unfolding triple_tests
one_left limits x b sense label there o = refl

pub two_left : (limits : Limits) (x : Simple) (b c : Part) (sense : Bool) (label there : Label) (o : Out) →
    triple_tests limits x (b ∷ c ∷ []) sense label there o ≡ tested limits Test.Equal (is x ∷ b ∷ c ∷ []) sense label o
unfolding triple_tests
two_left limits x b c sense label there o = refl

pub three_left : (limits : Limits) (x : Simple) (b c d : Part) (sense : Bool) (label there : Label) (o : Out) →
    triple_tests limits x (b ∷ c ∷ d ∷ []) sense label there o ≡ tested limits Test.Equal (is x ∷ b ∷ c ∷ d ∷ []) sense label o
unfolding triple_tests
three_left limits x b c d sense label there o = refl

pub more_left : (limits : Limits) (x : Simple) (b c d e : Part) (others : List Part) (sense : Bool) (label there : Label) (o : Out) →
    triple_tests limits x (b ∷ c ∷ d ∷ e ∷ others) sense label there o
    ≡ triple_tests limits x (e ∷ others) sense label there (tested limits Test.Equal (is x ∷ b ∷ c ∷ d ∷ []) true there o)
unfolding triple_tests
more_left limits x b c d e others sense label there o = refl

pub last_left : (limits : Limits) (t : Test) (x : Simple) (b : Part) (sense : Bool) (label there : Label) (o : Out) →
    single_tests limits t x (b ∷ []) sense label there o ≡ tested limits t (is x ∷ b ∷ []) sense label o
unfolding single_tests
last_left limits t x b sense label there o = refl

pub others_left : (limits : Limits) (t : Test) (x : Simple) (b c : Part) (others : List Part) (sense : Bool) (label there : Label) (o : Out)
    → single_tests limits t x (b ∷ c ∷ others) sense label there o ≡ single_tests limits t x (c ∷ others) sense label there
    (tested limits t (is x ∷ b ∷ []) true there o)
unfolding single_tests
others_left limits t x b c others sense label there o = refl

-- One instruction makes all tests against simple members, where it takes as many.
once_triple : (limits : Limits) (x : Simple) (b : Part) (others : List Part) (sense : Bool) (label there : Label) (o : Out) →
    nat_lt 3 (length (b ∷ others)) ≡ false → evaluated (b ∷ others) o ≡ o → triple_tests limits x (b ∷ others) sense label there o
    ≡ compared limits Test.Equal (take 4 (operands (is x ∷ b ∷ others))) sense label o
once_triple limits x b [] sense label there o few simple =
    one_left limits x b sense label there o ∙ ap (compared limits Test.Equal (operands (is x ∷ b ∷ [])) sense label) simple
once_triple limits x b (c ∷ []) sense label there o few simple =
    two_left limits x b c sense label there o ∙ ap (compared limits Test.Equal (operands (is x ∷ b ∷ c ∷ [])) sense label) simple
once_triple limits x b (c ∷ d ∷ []) sense label there o few simple =
    three_left limits x b c d sense label there o ∙ ap (compared limits Test.Equal (operands (is x ∷ b ∷ c ∷ d ∷ [])) sense label) simple
once_triple limits x b (c ∷ d ∷ e ∷ others) sense label there o few simple =
    let most : length others + 4 ≤ 3 = grind (arith, nat_tests, few) in absurd (omega arith)

once_single : (limits : Limits) (t : Test) (x : Simple) (b : Part) (others : List Part) (sense : Bool) (label there : Label) (o : Out) →
    nat_lt 1 (length (b ∷ others)) ≡ false → evaluated (b ∷ others) o ≡ o
    → single_tests limits t x (b ∷ others) sense label there o ≡ compared limits t (take 2 (operands (is x ∷ b ∷ others))) sense label o
once_single limits t x b [] sense label there o few simple =
    last_left limits t x b sense label there o ∙ ap (compared limits t (operands (is x ∷ b ∷ [])) sense label) simple
once_single limits t x b (c ∷ others) sense label there o few simple =
    let most : length others + 2 ≤ 1 = grind (arith, nat_tests, few) in absurd (omega arith)

pub at_once : (limits : Limits) (t : Test) (x : Simple) (b : Part) (others : List Part) (sense : Bool) (label there : Label) (o : Out) →
    nat_lt (group t) (length (b ∷ others)) ≡ false → evaluated (b ∷ others) o ≡ o → tests limits t x (b ∷ others) sense label there o
    ≡ compared limits t (take (most_compared t) (operands (is x ∷ b ∷ others))) sense label o
unfolding tests
at_once limits Test.Equal x b others sense label there o few simple = once_triple limits x b others sense label there o few simple
at_once limits Test.Less x b others sense label there o few simple = once_single limits Test.Less x b others sense label there o few simple
at_once limits Test.Greater x b others sense label there o few simple =
    once_single limits Test.Greater x b others sense label there o few simple
at_once limits Test.AtMost x b others sense label there o few simple =
    once_single limits Test.AtMost x b others sense label there o few simple
at_once limits Test.AtLeast x b others sense label there o few simple =
    once_single limits Test.AtLeast x b others sense label there o few simple
at_once limits Test.Has x b others sense label there o few simple = once_single limits Test.Has x b others sense label there o few simple
at_once limits Test.In x b others sense label there o few simple = once_single limits Test.In x b others sense label there o few simple
at_once limits Test.OfClass x b others sense label there o few simple =
    once_single limits Test.OfClass x b others sense label there o few simple
at_once limits Test.Provides x b others sense label there o few simple =
    once_single limits Test.Provides x b others sense label there o few simple

pub ruleset single_rows = (last_left, others_left)

pub ruleset triple_rows = (one_left, two_left, three_left, more_left)
