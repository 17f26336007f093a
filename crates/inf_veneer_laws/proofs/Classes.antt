-- The routine that tells whether an object is of a class.
use Rattle.std.proofs.Common.{arith, ◌≡◌, ◌<◌, ◌≤◌, ℕ, zero, suc, ◌+◌, ◌/◌, ◌%◌, [], ◌∷◌, Option, Some, Bool, true, false, not, refl, ◌∙◌}
use Rattle.std.proofs.Common.{ap, sym, ◌==◌, ◌||◌, nat_le, nat_lt, codes, if◌then◌else◌}
use Rattle.std.proofs.lemmas.Bool.{cond_both, le-ltb, lt-ltb}
use Rattle.inf_area.specs.declared.targets.Target.{Target}
use Rattle.inf_expressions.specs.{Numbers.magnitude, Numbers.negated, Numbers.same, Numbers.truth, Trees.Leaf, Trees.One, Trees.Tree}
use Rattle.inf_expressions.specs.{Trees.Two, declared.operators.Binary.Binary, declared.operators.Direction.Direction}
use Rattle.inf_expressions.specs.{declared.operators.Operand.Operand, declared.operators.Operation.Operation}
use Rattle.inf_expressions.specs.{declared.operators.Single.Single, declared.operators.Test.Test, declared.operators.Unary.Unary}
use Rattle.inf_objects.specs.Reading.{long_count}
use Rattle.inf_interpreter.specs.Machine.{Store, World, ◌then◌, divided, less, with_variable}
use Rattle.inf_interpreter.proofs.Running.{none_some, opened, same_some}
use Rattle.inf_meaning_laws.specs.Values.{answer, nobody, sense, truth_of}
use Rattle.inf_control_laws.specs.Control.{Change, Done, Effect, Outcome, Returned, Truth, behind_turn, both_run, for_run, if_run}
use Rattle.inf_control_laws.specs.Plain.{alone_run, return_run}
use Rattle.inf_veneer_laws.specs.{Routines.of_class, Sources.GetPropAddr, Sources.GetPropLen, Sources.Number}
use Rattle.inf_veneer_laws.specs.Classes.{ClassesAreTold, HasClasses, TellsRegion, class_by, is_among, is_class_in, is_listed, object_class}
use Rattle.inf_veneer_laws.specs.Classes.{region_of}
use Rattle.inf_veneer_laws.specs.Properties.{Bytes, address_in, byte_in, length_in, most_rows, size_by, word_in}
use Rattle.inf_veneer_laws.specs.Running.{Calls, Numbers, asked, called_with, ended, entered, left, operand_in}
use Rattle.inf_veneer_laws.specs.Routines as named
use Rattle.inf_veneer_laws.proofs.{Comparing.below, Comparing.same_side, Comparing.tests, Flow.both_done, Flow.both_returns, Flow.both_same}
use Rattle.inf_veneer_laws.proofs.{Flow.comes_to, Flow.guard_passes, Flow.guard_returns, Flow.if_by, Flow.is_found, Flow.or_false}
use Rattle.inf_veneer_laws.proofs.{Flow.returns_with, Locals.local_left, Locals.one_local, Own.returns_0}

-- The variables are the object (1), the class (2), an address (3), a number (4) and a kind or a place in a list (5).

-- A run of statements returns a number, and only locals are other than before.
record Gives (run : Effect) (t : Store) (n : ℕ) : Type 0 where
  behind : Store
  runs : run t ≡ comes_to (Returned n) behind
  same : (s : Store) → left s behind ≡ left s t

gives_as : (run : Effect) (t : Store) (n m : ℕ) → n ≡ m → Gives run t n → Gives run t m
gives_as run t n m e g = record { behind = g.behind; runs = g.runs ∙ ap (λ (x : ℕ). comes_to (Returned x) g.behind) e; same = g.same }

-- a first statement that is done, or is passed over
gives_behind : (first second : Effect) (t u : Store) (n : ℕ) → first t ≡ comes_to Done u → ((s : Store) → left s u ≡ left s t) →
    Gives second u n → Gives (both_run first second) t n
gives_behind first second t u n e stays g = record {
  behind = g.behind;
  runs = both_done first second t u e ∙ g.runs;
  same = λ s. g.same s ∙ stays s;
}

gives_past : (holds : Truth) (body rest : Effect) (t : Store) (n : ℕ) → holds t ≡ is_found t false → Gives rest t n →
    Gives (both_run (if_run holds body) rest) t n
gives_past holds body rest t n e g = record { behind = g.behind; runs = guard_passes holds body rest t e ∙ g.runs; same = g.same }

gives_there : (holds : Truth) (body rest : Effect) (t : Store) (n : ℕ) → holds t ≡ is_found t true → body t ≡ comes_to (Returned n) t →
    Gives (both_run (if_run holds body) rest) t n
gives_there holds body rest t n e f = record { behind = t; runs = guard_returns holds body rest t t n e f; same = λ s. refl }

equal_is : (t : Store) (x y : ℕ) (b : Bool) → (x == y) ≡ b → is_found t ((x == y) || false) ≡ is_found t b
equal_is t x y b e = ap (is_found t) (or_false (x == y) ∙ e)

-- The list of classes is searched.

abbrev word_there : Tree
word_there = Two (Binary.Operation Operation.Word) (Leaf (Operand.Variable 3)) (Leaf (Operand.Variable 5))

abbrev goes_on : World → Truth
goes_on w = tests w Test.Less (Leaf (Operand.Variable 5)) (Leaf (Operand.Variable 4))

abbrev steps : World → Change
steps w = (sense w (One (Unary.Behind Direction.Up) (Leaf (Operand.Variable 5)))).alone

abbrev is_there : World → Truth
is_there w = tests w Test.Equal word_there (Leaf (Operand.Variable 2))

abbrev returns_1 : Effect
returns_1 s = Some (Returned 1, s)

abbrev turn : World → Effect
turn w = if_run (is_there w) returns_1

abbrev search_run : World → ℕ → Effect
search_run w turns = both_run (for_run (goes_on w) (steps w) (turn w) turns) returns_0

abbrev stepped_on : Store → Store
stepped_on t = with_variable 5 ((t.variables 5 + 1) % 65536) t

for_by : (holds : Truth) (step : Change) (body : Effect) (turns : ℕ) (t : Store) (b : Bool) → holds t ≡ is_found t b →
    for_run holds step body (suc turns) t
    ≡ (if b then (body t then λ r. behind_turn (λ u. step u then λ v. for_run holds step body turns v) r.0 r.1) else comes_to Done t)
for_by holds step body turns t b e = ap (λ (o : Option (Bool × Store)). o then λ p.
    if p.0 then (body p.1 then λ r. behind_turn (λ u. step u then λ v. for_run holds step body turns v) r.0 r.1) else Some (Done, p.1)) e

for_turn : (holds : Truth) (step : Change) (body : Effect) (turns : ℕ) (t : Store) (m : Option (Outcome × Store)) → body t ≡ m →
    (body t then λ r. behind_turn (λ u. step u then λ v. for_run holds step body turns v) r.0 r.1)
    ≡ (m then λ r. behind_turn (λ u. step u then λ v. for_run holds step body turns v) r.0 r.1)
for_turn holds step body turns t m e =
    ap (λ (o : Option (Outcome × Store)). o then λ r. behind_turn (λ u. step u then λ v. for_run holds step body turns v) r.0 r.1) e

small_less : (i n : ℕ) → i < 32768 → n < 32768 → less i n ≡ nat_lt i n
small_less i n hi hn = same_side i n (omega (arith, below i hi, below n hn))

among_by : (w : World) (count turns : ℕ) →
    ((t : Store) → t.variables 5 + count ≡ t.variables 4 → t.variables 4 < 32768 →
    Gives (search_run w turns) t (truth (is_among count t.bytes (t.variables 3) (t.variables 2) (t.variables 5)))) →
    (t : Store) → t.variables 5 + suc count ≡ t.variables 4 → t.variables 4 < 32768 → (b : Bool) →
    (word_in t.bytes (t.variables 3) (t.variables 5) == t.variables 2) ≡ b →
    Gives (search_run w (suc turns)) t
    (truth (b || is_among count t.bytes (t.variables 3) (t.variables 2) ((t.variables 5 + 1) % 65536)))
among_by w count turns later t sum few b e = go b e
  where
    more : goes_on w t ≡ is_found t true
    more = ap (is_found t) (small_less (t.variables 5) (t.variables 4) (omega (arith, sum, few)) few
        ∙ lt-ltb (t.variables 5) (t.variables 4) (omega (arith, sum)))

    go : (b : Bool) → (word_in t.bytes (t.variables 3) (t.variables 5) == t.variables 2) ≡ b → Gives (search_run w (suc turns)) t
        (truth (b || is_among count t.bytes (t.variables 3) (t.variables 2) ((t.variables 5 + 1) % 65536)))
    go true f =
        let body : turn w t ≡ comes_to (Returned 1) t = if_by (is_there w) returns_1 t true
        (equal_is t (word_in t.bytes (t.variables 3) (t.variables 5)) (t.variables 2) true f) in
        let looked = for_by (goes_on w) (steps w) (turn w) turns t true more
        ∙ for_turn (goes_on w) (steps w) (turn w) turns t (comes_to (Returned 1) t) body in record {
          behind = t;
          runs = both_returns (for_run (goes_on w) (steps w) (turn w) (suc turns)) returns_0 t t 1 looked;
          same = λ s. refl;
        }
    go false f =
        let body : turn w t ≡ comes_to Done t = if_by (is_there w) returns_1 t false
        (equal_is t (word_in t.bytes (t.variables 3) (t.variables 5)) (t.variables 2) false f) in
        let looked = for_by (goes_on w) (steps w) (turn w) turns t true more
        ∙ for_turn (goes_on w) (steps w) (turn w) turns t (comes_to Done t) body in
        let next : (t.variables 5 + 1) % 65536 + count ≡ t.variables 4 = omega (arith, sum, few) in
        let r = later (stepped_on t) next few in record {
          behind = r.behind;
          runs = both_same (for_run (goes_on w) (steps w) (turn w) (suc turns)) (for_run (goes_on w) (steps w) (turn w) turns) returns_0 t
              (stepped_on t) looked
              ∙ r.runs;
          same = λ s. r.same s ∙ local_left s t 5 ((t.variables 5 + 1) % 65536) refl;
        }

among : (w : World) (count turns : ℕ) → suc count ≤ turns → (t : Store) → t.variables 5 + count ≡ t.variables 4 → t.variables 4 < 32768 →
    Gives (search_run w turns) t (truth (is_among count t.bytes (t.variables 3) (t.variables 2) (t.variables 5)))
among w count zero enough t sum few = absurd (omega (arith, enough))
among w zero (suc turns) enough t sum few =
    let over : goes_on w t ≡ is_found t false = ap (is_found t) (small_less (t.variables 5) (t.variables 4) (omega (arith, sum, few)) few
    ∙ le-ltb (t.variables 5) (t.variables 4) (omega (arith, sum))) in record {
      behind = t;
      runs = both_done (for_run (goes_on w) (steps w) (turn w) (suc turns)) returns_0 t t
          (for_by (goes_on w) (steps w) (turn w) turns t false over);
      same = λ s. refl;
    }
among w (suc count) (suc turns) enough t sum few = among_by w count turns (among w count turns (omega (arith, enough))) t sum few
    (word_in t.bytes (t.variables 3) (t.variables 5) == t.variables 2) refl

-- The number of classes is half the length of the data, which is 64 at most.

count_few : (second : ℕ) → long_count second ≤ 64
count_few second = cond_both (second % 64 == 0) 64 (second % 64) (λ (n : ℕ). n ≤ 64) (λ e. omega arith) (λ e. omega arith)

size_few : (byte : ℕ) → size_by byte ≤ 64
size_few byte =
    cond_both (nat_le 128 byte) (long_count byte) (1 + byte / 64 % 2) (λ (n : ℕ). n ≤ 64) (λ e. count_few byte) (λ e. omega arith)

length_few : (m : Bytes) (start : ℕ) → length_in m start ≤ 64
length_few m start = cond_both (start == 0) 0 (size_by (byte_in m start 65535)) (λ (n : ℕ). n ≤ 64) (λ e. omega arith)
    (λ e. size_few (byte_in m start 65535))

rows_enough : (n : ℕ) → n ≤ 64 → suc (n / 2) ≤ most_rows
unfolding most_rows
rows_enough n few = omega (arith, few)

half : (n : ℕ) → n < 32768 → divided n 2 ≡ Some (n / 2)
half n few = ap (λ (b : Bool). if same b true then Some ((if b then n else negated n) / magnitude 2)
    else Some (negated ((if b then n else negated n) / magnitude 2))) (lt-ltb n 32768 few)

-- what a value that may be missing leaves in a variable
abbrev stored_in : ℕ → Store → Option ℕ → Option (Outcome × Store)
stored_in v s m = (((m then λ n. answer (with_variable v) n s) then λ p. answer nobody (p.1.variables v) p.1) then λ p. Some p.1)
    then λ u. Some (Done, u)

abbrev length_asked : World → Numbers → Effect
length_asked w numbers = asked w (operand_in numbers of_class) GetPropLen (named.a ∷ []) (codes "n")

abbrev halved : World → Effect
halved w = alone_run w (Two Binary.Assign (Leaf (Operand.Variable 4))
    (Two (Binary.Operation Operation.Divide) (Leaf (Operand.Variable 4)) (Leaf (Operand.Known 2))) ∷ [])

abbrev starts : World → Change
starts w = (sense w (Two Binary.Assign (Leaf (Operand.Variable 5)) (Leaf (Operand.Known 0)))).alone

abbrev searched : World → ℕ → Effect
searched w turns = both_run (λ s. starts w s then λ t. for_run (goes_on w) (steps w) (turn w) turns t) returns_0

abbrev no_list : World → Truth
no_list w = tests w Test.Equal (Leaf (Operand.Variable 3)) (Leaf (Operand.Known 0))

abbrev measured : World → Numbers → ℕ → Effect
measured w numbers turns = both_run (length_asked w numbers) (both_run (halved w) (searched w turns))

abbrev with_length : Store → Store
with_length t = with_variable 4 (length_in t.bytes (t.variables 3)) t

abbrev with_half : Store → Store
with_half t = with_variable 4 (length_in t.bytes (t.variables 3) / 2) (with_length t)

list_searched : (w : World) (numbers : Numbers) (turns : ℕ) → most_rows ≤ turns → (t : Store) → Gives (measured w numbers turns) t
    (truth (is_among (length_in t.bytes (t.variables 3) / 2) t.bytes (t.variables 3) (t.variables 2) 0))
list_searched w numbers turns enough t =
    let length = length_in t.bytes (t.variables 3) in
    let few = length_few t.bytes (t.variables 3) in
    let now = with_variable 5 0 (with_half t) in
    let halves : halved w (with_length t) ≡ comes_to Done (with_half t) =
    ap (stored_in 4 (with_length t)) (half length (omega (arith, few))) in
    let room : suc (length / 2) ≤ turns = omega (arith, rows_enough length few, enough) in
    let count : 0 + length / 2 ≡ length / 2 = omega arith in
    let bound : length / 2 < 32768 = omega (arith, few) in
    let r = among w (length / 2) turns room now count bound in
    gives_behind (length_asked w numbers) (both_run (halved w) (searched w turns)) t (with_length t)
    (truth (is_among (length / 2) t.bytes (t.variables 3) (t.variables 2) 0)) refl
    (λ s. local_left s t 4 length refl)
    (gives_behind (halved w) (searched w turns) (with_length t) (with_half t)
    (truth (is_among (length / 2) t.bytes (t.variables 3) (t.variables 2) 0)) halves
    (λ s. local_left s (with_length t) 4 (length / 2) refl)
    (record { behind = r.behind; runs = r.runs; same = λ s. r.same s ∙ local_left s (with_half t) 5 0 refl }))

list_found : (w : World) (numbers : Numbers) (turns : ℕ) → most_rows ≤ turns → (t : Store) (b : Bool) → (t.variables 3 == 0) ≡ b →
    Gives (both_run (if_run (no_list w) returns_0) (measured w numbers turns)) t
    (truth (if b then false else is_among (length_in t.bytes (t.variables 3) / 2) t.bytes (t.variables 3) (t.variables 2) 0))
list_found w numbers turns enough t true e =
    gives_there (no_list w) returns_0 (measured w numbers turns) t 0 (equal_is t (t.variables 3) 0 true e) refl
list_found w numbers turns enough t false e = gives_past (no_list w) returns_0 (measured w numbers turns) t
    (truth (is_among (length_in t.bytes (t.variables 3) / 2) t.bytes (t.variables 3) (t.variables 2) 0))
    (equal_is t (t.variables 3) 0 false e) (list_searched w numbers turns enough t)

-- Lemmas about whether an object is a class

abbrev class_told : World → Truth
class_told w = truth_of w (Two Binary.Or (Two (Binary.Test Test.Equal) (One (Unary.Single Single.Parent) (Leaf (Operand.Variable 1)))
    (Leaf (Operand.Known 1)))
    (Two (Binary.Test Test.Less) (Leaf (Operand.Variable 1)) (Leaf (Operand.Known 5))))

abbrev class_kept : World → Effect
class_kept w = alone_run w (Two Binary.Assign (Leaf (Operand.Variable 4))
    (Two Binary.Or (Two (Binary.Test Test.Equal) (One (Unary.Single Single.Parent) (Leaf (Operand.Variable 1))) (Leaf (Operand.Known 1)))
    (Two (Binary.Test Test.Less) (Leaf (Operand.Variable 1)) (Leaf (Operand.Known 5)))) ∷ [])

either_found : (s : Store) (b c : Bool) → (if b then is_found s true else is_found s c) ≡ is_found s (b || c)
either_found s true c = refl
either_found s false c = refl

class_is : (w : World) → HasClasses w → (s : Store) → class_told w s ≡ is_found s (is_class_in s.bytes (s.variables 1))
class_is w h s = either_found s ((w.parent s (s.variables 1) == 1) || false) (less (s.variables 1) 5)
    ∙ ap (λ (b : Bool). is_found s (b || less (s.variables 1) 5)) (or_false (w.parent s (s.variables 1) == 1))
    ∙ ap (λ (o : ℕ). is_found s ((o == 1) || less (s.variables 1) 5)) (h.parent s (s.variables 1))

abbrev truth_kept : Option (Bool × Store) → Option (Outcome × Store)
truth_kept m = (((m then λ p. answer (with_variable 4) (truth p.0) p.1) then λ p. answer nobody (p.1.variables 4) p.1) then λ p. Some p.1)
    then λ u. Some (Done, u)

truth_not : (b : Bool) → truth ((truth b == 0) || false) ≡ truth (not b)
truth_not true = refl
truth_not false = refl

-- Lemmas about the statements for an object

abbrev asks_class : World → ℕ → Truth
asks_class w n = tests w Test.Equal (Leaf (Operand.Variable 2)) (Leaf (Operand.Known n))

abbrev number_returned : World → Effect
number_returned w = return_run w (Leaf (Operand.Variable 4) ∷ [])

abbrev no_number_returned : World → Effect
no_number_returned w = return_run w (Two (Binary.Test Test.Equal) (Leaf (Operand.Variable 4)) (Leaf (Operand.Known 0)) ∷ [])

abbrev list_asked : World → Numbers → Effect
list_asked w numbers = asked w (operand_in numbers of_class) GetPropAddr (named.o ∷ Number 2 ∷ []) (codes "a")

abbrev by_list : World → Numbers → ℕ → Effect
by_list w numbers turns = both_run (list_asked w numbers) (both_run (if_run (no_list w) returns_0) (measured w numbers turns))

abbrev by_object : World → Numbers → ℕ → Effect
by_object w numbers turns = both_run (if_run (asks_class w 2) (no_number_returned w)) (by_list w numbers turns)

abbrev by_class : World → Numbers → ℕ → Effect
by_class w numbers turns = both_run (if_run (asks_class w 1) (number_returned w)) (by_object w numbers turns)

abbrev list_stored : Store → Option ℕ → Option (Outcome × Store)
list_stored t m = m then λ n. Some (Done, with_variable 3 n t)

class_found : (w : World) (numbers : Numbers) (turns : ℕ) → most_rows ≤ turns → (t : Store) (is_class b c d : Bool) →
    t.variables 4 ≡ truth is_class → (t.variables 2 == 1) ≡ c → (t.variables 2 == 2) ≡ d →
    (if c then Some is_class else if d then Some (not is_class)
    else (address_in t.bytes (t.variables 1) 2 then λ list. Some (is_listed t.bytes list (t.variables 2)))) ≡ Some b →
    Gives (by_class w numbers turns) t (truth b)
class_found w numbers turns enough t is_class b true d kept e f known =
    gives_there (asks_class w 1) (number_returned w) (by_object w numbers turns) t (truth b) (equal_is t (t.variables 2) 1 true e)
    (ap (λ (n : ℕ). comes_to (Returned n) t) (kept ∙ ap truth (same_some known)))
class_found w numbers turns enough t is_class b false true kept e f known =
    gives_past (asks_class w 1) (number_returned w) (by_object w numbers turns) t (truth b) (equal_is t (t.variables 2) 1 false e)
    (gives_there (asks_class w 2) (no_number_returned w) (by_list w numbers turns) t (truth b) (equal_is t (t.variables 2) 2 true f)
    (ap (λ (n : ℕ). comes_to (Returned (truth ((n == 0) || false))) t) kept
    ∙ ap (λ (n : ℕ). comes_to (Returned n) t) (truth_not is_class ∙ ap truth (same_some known))))
class_found w numbers turns enough t is_class b false false kept e f known =
    let q = opened (address_in t.bytes (t.variables 1) 2) (λ list. Some (is_listed t.bytes list (t.variables 2))) b known in
    let now = with_variable 3 q.0 t in
    gives_past (asks_class w 1) (number_returned w) (by_object w numbers turns) t (truth b) (equal_is t (t.variables 2) 1 false e)
    (gives_past (asks_class w 2) (no_number_returned w) (by_list w numbers turns) t (truth b) (equal_is t (t.variables 2) 2 false f)
    (gives_behind (list_asked w numbers) (both_run (if_run (no_list w) returns_0) (measured w numbers turns)) t now (truth b)
    (ap (list_stored t) q.1) (λ s. local_left s t 3 q.0 refl)
    (gives_as (both_run (if_run (no_list w) returns_0) (measured w numbers turns)) now (truth (is_listed t.bytes q.0 (t.variables 2)))
    (truth b) (ap truth (same_some q.2)) (list_found w numbers turns enough now (q.0 == 0) refl))))

object_found : (w : World) (numbers : Numbers) → HasClasses w → (turns : ℕ) → most_rows ≤ turns → (t : Store) (b : Bool) →
    object_class t.bytes (t.variables 1) (t.variables 2) ≡ Some b →
    Gives (both_run (class_kept w) (by_class w numbers turns)) t (truth b)
object_found w numbers h turns enough t b known =
    let is_class = is_class_in t.bytes (t.variables 1) in
    let now = with_variable 4 (truth is_class) t in
    let kept : class_kept w t ≡ comes_to Done now = ap truth_kept (class_is w h t) in
    gives_behind (class_kept w) (by_class w numbers turns) t now (truth b) kept (λ s. local_left s t 4 (truth is_class) refl)
    (class_found w numbers turns enough now is_class b (t.variables 2 == 1) (t.variables 2 == 2) refl refl refl known)

-- The call: the kind of the object is asked for.

abbrev kind_asked : World → Numbers → Effect
kind_asked w numbers = alone_run w (Two Binary.Assign (Leaf (Operand.Variable 5))
    (Two Binary.Call (Leaf (Operand.Later (Target.Name (numbers (codes "Z__Region")))))
    (Leaf (Operand.Variable 1))) ∷ [])

abbrev kind_stored : Option (ℕ × ℕ × Store) → Option (Outcome × Store)
kind_stored m = (((m then λ r. answer (with_variable 5) r.0 r.2) then λ p. answer nobody (p.1.variables 5) p.1) then λ p. Some p.1)
    then λ u. Some (Done, u)

abbrev no_kind : World → Truth
no_kind w = tests w Test.Equal (Leaf (Operand.Variable 5)) (Leaf (Operand.Known 0))

abbrev no_object : World → Truth
no_object w = tests w Test.Greater (Leaf (Operand.Variable 5)) (Leaf (Operand.Known 1))

abbrev kind_compared : World → Effect
kind_compared w = return_run w (Two (Binary.Test Test.Equal) (Leaf (Operand.Variable 2))
    (Two (Binary.Operation Operation.Add) (Leaf (Operand.Variable 5)) (Leaf (Operand.Known 1))) ∷ [])

abbrev for_object : World → Numbers → ℕ → Effect
for_object w numbers turns = both_run (class_kept w) (by_class w numbers turns)

abbrev by_kind : World → Numbers → ℕ → Effect
by_kind w numbers turns = both_run (if_run (no_object w) (kind_compared w)) (for_object w numbers turns)

kind_found : (w : World) (numbers : Numbers) → HasClasses w → (turns : ℕ) → most_rows ≤ turns → (t : Store) (b c d : Bool) →
    (t.variables 5 == 0) ≡ c → less 1 (t.variables 5) ≡ d →
    (if c then Some false else if d then Some (t.variables 2 == (t.variables 5 + 1) % 65536)
    else object_class t.bytes (t.variables 1) (t.variables 2)) ≡ Some b →
    Gives (both_run (if_run (no_kind w) returns_0) (by_kind w numbers turns)) t (truth b)
kind_found w numbers h turns enough t b true d e f known =
    gives_there (no_kind w) returns_0 (by_kind w numbers turns) t (truth b) (equal_is t (t.variables 5) 0 true e)
    (ap (λ (b : Bool). comes_to (Returned (truth b)) t) (same_some known))
kind_found w numbers h turns enough t b false true e f known =
    gives_past (no_kind w) returns_0 (by_kind w numbers turns) t (truth b) (equal_is t (t.variables 5) 0 false e)
    (gives_there (no_object w) (kind_compared w) (for_object w numbers turns) t (truth b) (ap (is_found t) f)
    (ap (λ (b : Bool). comes_to (Returned (truth b)) t)
    (or_false (t.variables 2 == (t.variables 5 + 1) % 65536) ∙ same_some known)))
kind_found w numbers h turns enough t b false false e f known =
    gives_past (no_kind w) returns_0 (by_kind w numbers turns) t (truth b) (equal_is t (t.variables 5) 0 false e)
    (gives_past (no_object w) (kind_compared w) (for_object w numbers turns) t (truth b) (ap (is_found t) f)
    (object_found w numbers h turns enough t b known))

class_is_told : (w : World) (numbers : Numbers) → HasClasses w → Calls w numbers (codes "Z__Region") (TellsRegion w) →
    (turns : ℕ) → most_rows ≤ turns → (o c : ℕ) (s : Store) (b : Bool) → o < 65536 → class_by (region_of w o) s.bytes o c ≡ Some b →
    called_with w numbers turns of_class (o ∷ c ∷ []) s ≡ returns_with (truth b) s
class_is_told w numbers h calls turns enough o c s b few known =
    let ns = o ∷ c ∷ [] in
    let begun = entered ns s in
    let kind = region_of w o in
    let now = with_variable 5 kind begun in
    let stored : kind_asked w numbers begun ≡ comes_to Done now =
    ap kind_stored (calls.comes (o ∷ []) begun kind begun (few, refl, refl)).1 in
    let r = kind_found w numbers h turns enough now b (kind == 0) (less 1 kind) refl refl known in
    ap (λ (m : Option (Outcome × Store)). m then ended s)
    (both_done (kind_asked w numbers) (both_run (if_run (no_kind w) returns_0) (by_kind w numbers turns)) begun now stored ∙ r.runs)
    ∙ ap (returns_with (truth b)) (r.same s ∙ one_local ns s 5 kind refl)

pub classes_are_told : ClassesAreTold
classes_are_told w numbers h calls [] s n t e turns enough = absurd e
classes_are_told w numbers h calls (o ∷ []) s n t e turns enough = absurd e
classes_are_told w numbers h calls (o ∷ c ∷ []) s n t e turns enough = class_is_told w numbers h calls turns enough o c s e.1.0 e.0 e.1.1
    ∙ ap (λ (b : Bool). returns_with (truth b) s) (sym (h.classes s o c e.1.0 e.1.1))
    ∙ e.2
classes_are_told w numbers h calls (o ∷ c ∷ x ∷ ns) s n t e turns enough = none_some e.2
