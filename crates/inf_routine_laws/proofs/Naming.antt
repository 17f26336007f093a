-- Labels with names, and statements that hold no others, in the book of labels.
use Rattle.std.specs.Str.{str_eq_ignore_ascii_case}
use Rattle.std.specs.Prelude.{codes}
use Rattle.std.proofs.Common.{Bool, List, None, Option, Some, [], ap, arith, bytes_eq, false, if◌then◌else◌, refl, sym, true, ℕ, ◌+◌, ◌∷◌}
use Rattle.std.proofs.Common.{◌≡◌, ◌≤◌}
use Rattle.inf_characters.specs.declared.characters.CharSet.{CharSet}
use Rattle.inf_expressions.specs.Trees.{Tree}
use Rattle.inf_settings.specs.Bounds.{Limits}
use Rattle.inf_opcode.specs.{Opcodes.row_of, declared.instructions.Branch.Branch, declared.instructions.Destination.Destination}
use Rattle.inf_opcode.specs.{declared.instructions.Label.Label, declared.opcodes.Opcode.Opcode}
use Rattle.inf_names.specs.{Locals.Local, Symbols.folded}
use Rattle.inf_output.specs.Output.{Code, Out, behind, jumped, marked, next_label}
use Rattle.inf_unit.specs.{Opcodes.opcode_of, Tokens.SourceToken, Units.bytes_at}
use Rattle.inf_constructs.specs.{declared.constructs.Case.Case, declared.constructs.Construct.Construct, declared.constructs.Kind.Kind}
use Rattle.inf_constructs.specs.Constructs.{break_of, condition_label, continue_of, found_or, left_to, left_to_by, next_case, next_case_in}
use Rattle.inf_constructs.specs.Constructs.{otherwise}
use Rattle.inf_constructs.specs.Labels.{Known, NamedLabel, given_by, is_given, known_of, label_or, put, wanted_by, was_given}
use Rattle.inf_statements.specs.{Statements.jumped_to, declared.assembly.Ends.Ends, declared.statements.Statement.Statement}
use Rattle.inf_statements.specs.Assembly.{branch_to, branched, branched_to, ends_of, fits, instructed, jumped_on, labelled, line_instructed}
use Rattle.inf_statements.specs.Assembly.{line_laid, line_laid_as, line_laid_by, placed, some_printed, store_of}
use Rattle.inf_statements.specs.Effects.{Site, name_behind, statement_code, statement_laid}
use Rattle.inf_code_walk.specs.Made.{branch_labels, times}
use Rattle.inf_code_walk.proofs.{Rows.Any, Rows.any_trees, Statements.instructed_made, Statements.label_in, Statements.some_made}
use Rattle.inf_label_laws.proofs.Owning.{Owned, owned, owned_jump, owned_mark, owned_nothing}
use Rattle.inf_routine_laws.proofs.Constructing.{code_owns, needs_one, none_needed}
use Rattle.inf_routine_laws.proofs.Balance.{Good, cased, good_label, good_paid, named_all, named_due, reached, reached_in, unless_given}
use Rattle.inf_routine_laws.proofs.Booking.{Counts, came, one, one_is, paid_together, sound_as, sound_paid}

-- Lemmas about labels with names

not_some : {A : Type 0} {B : Type 0} {a : A} → None ≡ Some a → B
not_some e = absurd (cc e)

some_same : {A : Type 0} {a b : A} → Some a ≡ Some b → a ≡ b
some_same e = cc e

-- Lemmas about lists of labels with names

-- a label that is found is one of them
found_all : (n : ℕ) (key : List ℕ) (labels : List NamedLabel) (k : Known) → known_of key labels ≡ Some k →
    one n k.label ≤ named_all n labels
found_all n key [] k e = not_some e
found_all n key (l ∷ labels) k e = go (bytes_eq key l.key) e (λ f. found_all n key labels k f)
  where
    go : (b : Bool) → (if b then Some l.known else known_of key labels) ≡ Some k
        → (known_of key labels ≡ Some k → one n k.label ≤ named_all n labels) → one n k.label ≤ one n l.known.label + named_all n labels
    go true f later = let s = ap (λ (x : Known). one n x.label) (some_same f) in omega (arith, s)
    go false f later = let r = later f in omega (arith, r)

-- A label that is put in the place of its entry, or behind the others, counts in its place.
put_new_due : (n : ℕ) (key : List ℕ) (k : Known) (labels : List NamedLabel) → known_of key labels ≡ None →
    named_due n (put key k labels) ≡ named_due n labels + unless_given k.is_given (one n k.label)
put_new_due n key k [] e = omega arith
put_new_due n key k (l ∷ labels) e = go (bytes_eq key l.key) e (λ f. put_new_due n key k labels f)
  where
    go : (b : Bool) → (if b then Some l.known else known_of key labels) ≡ None
        → (known_of key labels ≡ None → named_due n (put key k labels) ≡ named_due n labels + unless_given k.is_given (one n k.label)) →
        named_due n (if b then record { key = l.key; known = k } ∷ labels else l ∷ put key k labels)
        ≡ (unless_given l.known.is_given (one n l.known.label) + named_due n labels) + unless_given k.is_given (one n k.label)
    go true f later = absurd (cc f)
    go false f later = let r = later f in omega (arith, r)

put_new_all : (n : ℕ) (key : List ℕ) (k : Known) (labels : List NamedLabel) → known_of key labels ≡ None →
    named_all n (put key k labels) ≡ named_all n labels + one n k.label
put_new_all n key k [] e = omega arith
put_new_all n key k (l ∷ labels) e = go (bytes_eq key l.key) e (λ f. put_new_all n key k labels f)
  where
    go : (b : Bool) → (if b then Some l.known else known_of key labels) ≡ None
        → (known_of key labels ≡ None → named_all n (put key k labels) ≡ named_all n labels + one n k.label) →
        named_all n (if b then record { key = l.key; known = k } ∷ labels else l ∷ put key k labels)
        ≡ (one n l.known.label + named_all n labels) + one n k.label
    go true f later = absurd (cc f)
    go false f later = let r = later f in omega (arith, r)

-- One that was used and not given is given now.
put_due : (n : ℕ) (key spelling : List ℕ) (k : Known) (labels : List NamedLabel) → known_of key labels ≡ Some k → k.is_given ≡ false →
    named_due n labels ≡ one n k.label + named_due n (put key (record { spelling = spelling; label = k.label; is_given = true }) labels)
put_due n key spelling k [] e h = not_some e
put_due n key spelling k (l ∷ labels) e h = go (bytes_eq key l.key) e (λ f. put_due n key spelling k labels f h)
  where
    now : Known
    now = record { spelling = spelling; label = k.label; is_given = true }

    go : (b : Bool) → (if b then Some l.known else known_of key labels) ≡ Some k
        → (known_of key labels ≡ Some k → named_due n labels ≡ one n k.label + named_due n (put key now labels)) →
        unless_given l.known.is_given (one n l.known.label) + named_due n labels
        ≡ one n k.label + named_due n (if b then record { key = l.key; known = now } ∷ labels else l ∷ put key now labels)
    go true f later =
        let s = ap (λ (x : Known). unless_given x.is_given (one n x.label)) (some_same f) in
        let t = ap (λ b. unless_given b (one n k.label)) h in
        omega (arith, s, t)
    go false f later = let r = later f in omega (arith, r)

put_all : (n : ℕ) (key spelling : List ℕ) (k : Known) (labels : List NamedLabel) → known_of key labels ≡ Some k →
    named_all n (put key (record { spelling = spelling; label = k.label; is_given = true }) labels) ≡ named_all n labels
put_all n key spelling k [] e = not_some e
put_all n key spelling k (l ∷ labels) e = go (bytes_eq key l.key) e (λ f. put_all n key spelling k labels f)
  where
    now : Known
    now = record { spelling = spelling; label = k.label; is_given = true }

    go : (b : Bool) → (if b then Some l.known else known_of key labels) ≡ Some k
        → (known_of key labels ≡ Some k → named_all n (put key now labels) ≡ named_all n labels) →
        named_all n (if b then record { key = l.key; known = now } ∷ labels else l ∷ put key now labels)
        ≡ one n l.known.label + named_all n labels
    go true f later = let s = ap (λ (x : Known). one n x.label) (some_same f) in omega (arith, s)
    go false f later = let r = later f in omega (arith, r)

-- Lemmas about the book where labels with names change

good_named : (due spare rest extra : Counts) (labels now : List NamedLabel) (constructs : List Construct) (o : Out) →
    ((n : ℕ) → named_due n now + rest n ≤ named_due n labels + spare n) → ((n : ℕ) → named_due n labels ≤ named_due n now) →
    ((n : ℕ) → named_all n now ≤ named_all n labels + named_due n now) → Good due spare extra labels constructs o →
    Good due rest extra now constructs o
good_named due spare rest extra labels now constructs o f g h b = record {
  together = b.together;
  sound = sound_as (λ n. due n + (named_due n labels + cased n constructs)) spare
      (λ n. extra n + (reached n constructs + named_all n labels)) (λ n. due n + (named_due n now + cased n constructs)) rest
      (λ n. extra n + (reached n constructs + named_all n now)) o b.sound
      (λ n. once (due n) (named_due n now) (cased n constructs) (rest n) (named_due n labels) (spare n) (f n))
      (λ n. all (due n) (named_due n labels) (cased n constructs) (named_due n now) (g n))
      (λ n. known (extra n) (reached n constructs) (named_all n now) (named_all n labels) (due n) (named_due n now) (cased n constructs)
      (h n));
}
  where
    once : (d a c r l s : ℕ) → a + r ≤ l + s → (d + (a + c)) + r ≤ (d + (l + c)) + s
    once d a c r l s p = omega (arith, p)

    all : (d l c a : ℕ) → l ≤ a → d + (l + c) ≤ d + (a + c)
    all d l c a p = omega (arith, p)

    known : (e r a l d x c : ℕ) → a ≤ l + x → 1 ≤ e + (r + a) → 1 ≤ (e + (r + l)) + (d + (x + c))
    known e r a l d x c p some = omega (arith, p, some)

-- Tells what it is for a label of a name to be used: it is one of the labels, and is due or given.
pub record IsNamed (due spare extra : Counts) (constructs : List Construct) (l : Label) (labels : List NamedLabel) (o : Out) : Type 0 where
  pub good : Good due spare extra labels constructs o
  pub among : (n : ℕ) → one n l ≤ named_all n labels

drop_spare : (due spare extra : Counts) (l : Label) (labels : List NamedLabel) (constructs : List Construct) (o : Out) →
    Good due (λ n. spare n + one n l) extra labels constructs o → Good due spare extra labels constructs o
drop_spare due spare extra l labels constructs o g =
    good_named due (λ n. spare n + one n l) spare extra labels labels constructs o (λ n. omega arith) (λ n. omega arith)
    (λ n. omega arith) g

wanted_as : (due spare extra : Counts) (constructs : List Construct) (name : List ℕ) (new : Label) (labels : List NamedLabel) (o : Out)
    (k : Option Known) → known_of (folded name) labels ≡ k → Good due (λ n. spare n + one n new) extra labels constructs o →
    IsNamed due spare extra constructs (label_or new k) (wanted_by k name new labels) o
wanted_as due spare extra constructs name new labels o None e g =
    let entry : Known = record { spelling = name; label = new; is_given = false } in
    let now = put (folded name) entry labels in record {
      good = good_named due (λ n. spare n + one n new) spare extra labels now constructs o
          (λ n. let p = put_new_due n (folded name) entry labels e in omega (arith, p))
          (λ n. let p = put_new_due n (folded name) entry labels e in omega (arith, p))
          (λ n.
          let p = put_new_due n (folded name) entry labels e in
          let q = put_new_all n (folded name) entry labels e in
          omega (arith, p, q)) g;
      among = λ n. let q = put_new_all n (folded name) entry labels e in omega (arith, q);
    }
wanted_as due spare extra constructs name new labels o (Some k) e g = record {
  good = drop_spare due spare extra new labels constructs o g;
  among = λ n. found_all n (folded name) labels k e;
}

pub labelled_good : (due spare extra : Counts) (constructs : List Construct) (name : List ℕ) (labels : List NamedLabel) (o : Out) →
    Good due spare extra labels constructs o →
    let l = labelled name labels o in IsNamed due spare extra constructs l.0.0 l.0.1 l.1
labelled_good due spare extra constructs name labels o g =
    wanted_as due spare extra constructs name (next_label o) labels (record o { next = behind o.next }) (known_of (folded name) labels) refl
    (good_label due spare extra labels constructs o g)

pub jump_good : (limits : Limits) (due spare extra : Counts) (constructs : List Construct) (l : Label) (labels : List NamedLabel)
    (o : Out) →
    IsNamed due spare extra constructs l labels o → Good due spare extra labels constructs (jumped limits l o)
jump_good limits due spare extra constructs l labels o i =
    let b = i.good in
    let c = came {needs = l.number ∷ []} {given = []} (owned_jump limits l) o in record {
      together = paid_together (l.number ∷ []) [] o (jumped limits l o) b.together c;
      sound = sound_paid (l.number ∷ []) [] (λ n. due n + (named_due n labels + cased n constructs))
          (λ n. due n + (named_due n labels + cased n constructs)) spare (λ n. extra n + (reached n constructs + named_all n labels)) o
          (jumped limits l o) b.together b.sound c (λ n. omega arith)
          (λ n some. needs_one l n (extra n + (reached n constructs + named_all n labels)) (let a = i.among n in omega (arith, a)) some);
    }

-- The place of a label is given, which was not given before: it is marked.
given_as : (limits : Limits) (due spare extra : Counts) (constructs : List Construct) (name : List ℕ) (new : Label)
    (labels : List NamedLabel) (o : Out) (k : Option Known) → known_of (folded name) labels ≡ k → was_given k ≡ false →
    Good due (λ n. spare n + one n new) extra labels constructs o →
    Good due spare extra (given_by k name new labels) constructs (marked limits (label_or new k) o)
given_as limits due spare extra constructs name new labels o None e h g =
    let entry : Known = record { spelling = name; label = new; is_given = true } in
    let now = put (folded name) entry labels in
    let c = came {needs = []} {given = new.number ∷ []} (owned_mark limits new) o in
    let left : Counts = λ n. due n + (named_due n now + cased n constructs) in
    let need : Counts = λ n. extra n + (reached n constructs + named_all n now) in record {
      together = paid_together [] (new.number ∷ []) o (marked limits new o) g.together c;
      sound = sound_paid [] (new.number ∷ []) (λ n. one n new + left n) left spare need o (marked limits new o) g.together
          (sound_as (λ n. due n + (named_due n labels + cased n constructs)) (λ n. spare n + one n new)
          (λ n. extra n + (reached n constructs + named_all n labels)) (λ n. one n new + left n) spare need o g.sound
          (λ n. let p = put_new_due n (folded name) entry labels e in omega (arith, p))
          (λ n. let p = put_new_due n (folded name) entry labels e in omega (arith, p))
          (λ n some. let q = put_new_all n (folded name) entry labels e in omega (arith, q, some))) c
          (λ n. ap (λ m. m + left n) (sym (one_is n new)))
          (λ n some. none_needed n (need n) some);
    }
given_as limits due spare extra constructs name new labels o (Some k) e h g =
    let now = put (folded name) (record { spelling = k.spelling; label = k.label; is_given = true }) labels in
    let c = came {needs = []} {given = k.label.number ∷ []} (owned_mark limits k.label) o in
    let left : Counts = λ n. due n + (named_due n now + cased n constructs) in
    let need : Counts = λ n. extra n + (reached n constructs + named_all n now) in record {
      together = paid_together [] (k.label.number ∷ []) o (marked limits k.label o) g.together c;
      sound = sound_paid [] (k.label.number ∷ []) (λ n. one n k.label + left n) left spare need o (marked limits k.label o) g.together
          (sound_as (λ n. due n + (named_due n labels + cased n constructs)) (λ n. spare n + one n new)
          (λ n. extra n + (reached n constructs + named_all n labels)) (λ n. one n k.label + left n) spare need o g.sound
          (λ n. let p = put_due n (folded name) k.spelling k labels e h in omega (arith, p))
          (λ n. let p = put_due n (folded name) k.spelling k labels e h in omega (arith, p))
          (λ n some. let q = put_all n (folded name) k.spelling k labels e in omega (arith, q, some))) c
          (λ n. ap (λ m. m + left n) (sym (one_is n k.label)))
          (λ n some. none_needed n (need n) some);
    }

pub placed_good : (limits : Limits) (due spare extra : Counts) (constructs : List Construct) (name : List ℕ) (labels : List NamedLabel)
    (o : Out) → is_given name labels ≡ false → Good due spare extra labels constructs o →
    let l = placed name labels o in Good due spare extra l.0.1 constructs (marked limits l.0.0 l.1)
placed_good limits due spare extra constructs name labels o h g =
    given_as limits due spare extra constructs name (next_label o) labels (record o { next = behind o.next })
    (known_of (folded name) labels) refl h (good_label due spare extra labels constructs o g)

-- Lemmas about statements that hold no others

-- Lemmas about labels of open statements

continue_in : (n : ℕ) (c : Construct) (k : Kind) → times n (label_in (continue_of c k)) ≤ reached_in n c k
continue_in n c Kind.While = let e = one_is n c.next in omega (arith, e)
continue_in n c Kind.Do = let e = one_is n c.next in omega (arith, e)
continue_in n c Kind.For = let e = one_is n c.next in omega (arith, e)
continue_in n c (Kind.Objects how v) = let e = one_is n c.next in omega (arith, e)
continue_in n c kind = omega arith

break_in : (n : ℕ) (c : Construct) (k : Kind) → times n (label_in (break_of c k)) ≤ reached_in n c k
break_in n c Kind.If = omega arith
break_in n c Kind.Else = omega arith
break_in n c kind = let e = one_is n c.end in omega (arith, e)

left_in : (n : ℕ) (on : Bool) (c : Construct) → times n (label_in (left_to_by on c)) ≤ reached_in n c c.kind
left_in n true c = continue_in n c c.kind
left_in n false c = break_in n c c.kind

first_in : (n : ℕ) (x y : Option Label) → times n (label_in (found_or x y)) ≤ times n (label_in x) + times n (label_in y)
first_in n None y = omega arith
first_in n (Some l) y = omega arith

pub left_reached : (on : Bool) (constructs : List Construct) (n : ℕ) → times n (label_in (left_to on constructs)) ≤ reached n constructs
left_reached on [] n = omega arith
left_reached on (c ∷ constructs) n =
    let a = first_in n (left_to_by on c) (left_to on constructs) in
    let b = left_in n on c in
    let r = left_reached on constructs n in
    omega (arith, a, b, r)

otherwise_in : (n : ℕ) (c : Construct) (k : Kind) → times n ((otherwise c k).number ∷ []) ≤ reached_in n c k
otherwise_in n c Kind.If = let e = one_is n c.next in omega (arith, e)
otherwise_in n c Kind.Do = let e = one_is n c.top in omega (arith, e)
otherwise_in n c kind = let e = one_is n c.end in omega (arith, e)

pub condition_reached : (constructs : List Construct) (n : ℕ) → times n (label_in (condition_label constructs)) ≤ reached n constructs
condition_reached [] n = omega arith
condition_reached (c ∷ constructs) n = let a = otherwise_in n c c.kind in omega (arith, a)

next_in : (n : ℕ) (c : Construct) (k : Kind) → times n (label_in (next_case_in k)) ≤ reached_in n c k
next_in n c (Kind.Switch (Case.Values next) had_default) = let e = one_is n next in omega (arith, e)
next_in n c (Kind.Cases (Case.Values next) had_default) = let e = one_is n next in omega (arith, e)
next_in n c _ = omega arith

pub next_reached : (constructs : List Construct) (n : ℕ) → times n (label_in (next_case constructs)) ≤ reached n constructs
next_reached [] n = omega arith
next_reached (c ∷ constructs) n = let a = next_in n c c.kind in omega (arith, a)

-- Code that needs no labels but those
pub code_good : {code : Code} {needs : List ℕ} (due spare extra : Counts) (labels : List NamedLabel) (constructs : List Construct)
    (o : Out) →
    Owned code needs [] → ((n : ℕ) → times n needs ≤ reached n constructs + named_all n labels) → Good due spare extra labels constructs o →
    Good due spare extra labels constructs (code o)
code_good {code} {needs} due spare extra labels constructs o h k g =
    good_paid needs [] due due spare extra labels constructs o (code o) g (came {c = code} {needs = needs} {given = []} h o)
    (λ n. omega arith)
    (λ n some. let p = k n in omega (arith, p, some))

free_good : {code : Code} (due spare extra : Counts) (labels : List NamedLabel) (constructs : List Construct) (o : Out) → Owned code [] [] →
    Good due spare extra labels constructs o → Good due spare extra labels constructs (code o)
free_good {code} due spare extra labels constructs o h g =
    code_good {code = code} {needs = []} due spare extra labels constructs o h (λ n. omega arith) g

jumped_owns : (limits : Limits) (l : Option Label) → Owned (jumped_to limits l) (label_in l) []
jumped_owns limits None = owned_nothing
jumped_owns limits (Some l) = owned_jump limits l

left_good : (limits : Limits) (on : Bool) (due spare extra : Counts) (labels : List NamedLabel) (constructs : List Construct) (o : Out) →
    Good due spare extra labels constructs o →
    Good due spare extra labels constructs (jumped_to limits (left_to on constructs) o)
left_good limits on due spare extra labels constructs o g = code_good {code = jumped_to limits (left_to on constructs)}
    {needs = label_in (left_to on constructs)} due spare extra labels constructs o
    (jumped_owns limits (left_to on constructs)) (λ n. let p = left_reached on constructs n in omega (arith, p)) g

-- Lemmas about assembly lines

record IsBranch (due spare extra : Counts) (constructs : List Construct) (b : Option Branch) (labels : List NamedLabel)
    (o : Out) : Type 0 where
  good : Good due spare extra labels constructs o
  among : (n : ℕ) → times n (branch_labels b) ≤ named_all n labels

to_label : (due spare extra : Counts) (constructs : List Construct) (l : Label) (sense : Bool) (labels : List NamedLabel) (o : Out) →
    IsNamed due spare extra constructs l labels o →
    IsBranch due spare extra constructs (branch_to sense (Destination.To l)) labels o
to_label due spare extra constructs l sense labels o i = record {
  good = i.good;
  among = λ n. let a = i.among n in let e = one_is n l in omega (arith, a, e);
}

-- labels and an output behind a branch
abbrev Branching : Type 0
Branching = (Option Branch × List NamedLabel) × Out

one_of_three : (P : Branching → Type 0) (t f : Bool) (x y z : Branching) → P x → P y → P z → P (if t then x else if f then y else z)
one_of_three P true f x y z a b c = a
one_of_three P false true x y z a b c = b
one_of_three P false false x y z a b c = c

branched_to_good : (due spare extra : Counts) (constructs : List Construct) (name : List ℕ) (sense : Bool) (labels : List NamedLabel)
    (o : Out) → Good due spare extra labels constructs o →
    let b = branched_to name sense labels o in IsBranch due spare extra constructs b.0.0 b.0.1 b.1
branched_to_good due spare extra constructs name sense labels o g =
    let l = labelled name labels o in
    let x : Branching = ((branch_to sense Destination.ReturnTrue, labels), o) in
    let y : Branching = ((branch_to sense Destination.ReturnFalse, labels), o) in
    let z : Branching = ((branch_to sense (Destination.To l.0.0), l.0.1), l.1) in
    one_of_three (λ b. IsBranch due spare extra constructs b.0.0 b.0.1 b.1) (str_eq_ignore_ascii_case name (codes "rtrue"))
    (str_eq_ignore_ascii_case name (codes "rfalse")) x y z (record { good = g; among = λ n. omega arith })
    (record { good = g; among = λ n. omega arith })
    (to_label due spare extra constructs l.0.0 sense l.0.1 l.1 (labelled_good due spare extra constructs name labels o g))

branched_good : (due spare extra : Counts) (constructs : List Construct) (tokens : List SourceToken) (b : Option (ℕ × Bool))
    (labels : List NamedLabel) (o : Out) → Good due spare extra labels constructs o →
    let r = branched tokens b labels o in IsBranch due spare extra constructs r.0.0 r.0.1 r.1
unfolding branched
branched_good due spare extra constructs tokens None labels o g = record { good = g; among = λ n. omega arith }
branched_good due spare extra constructs tokens (Some b) labels o g =
    branched_to_good due spare extra constructs (bytes_at tokens b.0) b.1 labels o g

instructed_owns : (limits : Limits) (names : Bool) (op : Opcode) (trees : List Tree) (store : Option ℕ) (branch : Option Branch) →
    Owned (instructed limits names op trees store branch) (branch_labels branch) []
instructed_owns limits names op trees store branch = owned (instructed_made limits Any names op trees (any_trees trees) store branch)

instructed_good : (limits : Limits) (due spare extra : Counts) (constructs : List Construct) (locals : List Local)
    (tokens : List SourceToken)
    (op : Opcode) (e : Ends) (trees : List Tree) (labels : List NamedLabel) (o : Out) → Good due spare extra labels constructs o →
    let r = line_instructed limits locals tokens op e trees labels o in Good due spare extra r.0 constructs r.1
instructed_good limits due spare extra constructs locals tokens op e trees labels o g =
    let b = branched tokens e.branch labels o in
    let i = branched_good due spare extra constructs tokens e.branch labels o g in
    let store = store_of locals b.1.names tokens e.store in
    code_good {code = instructed limits (row_of op).names_variable op trees store b.0.0} {needs = branch_labels b.0.0} due spare extra b.0.1
    constructs b.1 (instructed_owns limits (row_of op).names_variable op trees store b.0.0)
    (λ n. let a = i.among n in omega (arith, a)) i.good

jumped_good : (limits : Limits) (due spare extra : Counts) (constructs : List Construct) (tokens : List SourceToken) (at : Option ℕ)
    (labels : List NamedLabel) (o : Out) → Good due spare extra labels constructs o →
    let r = jumped_on limits tokens at labels o in Good due spare extra r.0 constructs r.1
jumped_good limits due spare extra constructs tokens None labels o g = g
jumped_good limits due spare extra constructs tokens (Some at) labels o g =
    let l = labelled (bytes_at tokens at) labels o in
    jump_good limits due spare extra constructs l.0.0 l.0.1 l.1 (labelled_good due spare extra constructs (bytes_at tokens at) labels o g)

by_good : (limits : Limits) (jumps has_text : Bool) (due spare extra : Counts) (constructs : List Construct) (set : CharSet)
    (locals : List Local) (tokens : List SourceToken) (op : Opcode) (e : Ends) (trees : List Tree) (labels : List NamedLabel) (o : Out) →
    Good due spare extra labels constructs o →
    let r = line_laid_by limits jumps has_text set locals tokens op e trees labels o in Good due spare extra r.0 constructs r.1
by_good limits true has_text due spare extra constructs set locals tokens op e trees labels o g =
    jumped_good limits due spare extra constructs tokens e.jump labels o g
by_good limits false true due spare extra constructs set locals tokens op e trees labels o g =
    free_good {code = some_printed limits set tokens op e.text} due spare extra labels constructs o
    (owned (some_made limits Any set tokens op e.text)) g
by_good limits false false due spare extra constructs set locals tokens op e trees labels o g =
    instructed_good limits due spare extra constructs locals tokens op e trees labels o g

as_good : (limits : Limits) (b : Bool) (due spare extra : Counts) (constructs : List Construct) (set : CharSet) (locals : List Local)
    (tokens : List SourceToken) (op : Opcode) (e : Ends) (trees : List Tree) (labels : List NamedLabel) (o : Out) →
    Good due spare extra labels constructs o →
    let r = line_laid_as limits b set locals tokens op e trees labels o in Good due spare extra r.0 constructs r.1
as_good limits true due spare extra constructs set locals tokens op e trees labels o g =
    by_good limits (row_of op).jumps (row_of op).has_text due spare extra constructs set locals tokens op e trees labels o g
as_good limits false due spare extra constructs set locals tokens op e trees labels o g = g

line_good : (limits : Limits) (due spare extra : Counts) (constructs : List Construct) (set : CharSet) (locals : List Local)
    (tokens : List SourceToken) (op : Option Opcode) (e : Ends) (trees : List Tree) (labels : List NamedLabel) (o : Out) →
    Good due spare extra labels constructs o →
    let r = line_laid limits set locals tokens op e trees labels o in Good due spare extra r.0 constructs r.1
unfolding line_laid
line_good limits due spare extra constructs set locals tokens None e trees labels o g = g
line_good limits due spare extra constructs set locals tokens (Some op) e trees labels o g =
    as_good limits (fits limits op trees e) due spare extra constructs set locals tokens op e trees labels o g

-- Each statement; where it gives the place of a label, this was not given before.
pub statement_good : (limits : Limits) (s : Site) (which : Statement) (trees : List Tree) (due spare extra : Counts)
    (labels : List NamedLabel) (o : Out) → (which ≡ Statement.Place → is_given (name_behind s) labels ≡ false) →
    Good due spare extra labels s.constructs o →
    let r = statement_laid limits s which trees labels o in Good due spare extra r.0 s.constructs r.1
unfolding statement_laid
statement_good limits s Statement.Empty trees due spare extra labels o h g = g
statement_good limits s Statement.Break trees due spare extra labels o h g = left_good limits false due spare extra labels s.constructs o g
statement_good limits s Statement.Continue trees due spare extra labels o h g =
    left_good limits true due spare extra labels s.constructs o g
statement_good limits s Statement.Place trees due spare extra labels o h g =
    placed_good limits due spare extra s.constructs (name_behind s) labels o (h refl) g
statement_good limits s Statement.Jump trees due spare extra labels o h g =
    let l = labelled (name_behind s) labels o in
    jump_good limits due spare extra s.constructs l.0.0 l.0.1 l.1 (labelled_good due spare extra s.constructs (name_behind s) labels o g)
statement_good limits s Statement.Assembly trees due spare extra labels o h g =
    line_good limits due spare extra s.constructs s.set s.locals s.tokens (opcode_of (name_behind s)) (ends_of s.items) trees labels o g
statement_good limits s other trees due spare extra labels o h g =
    free_good {code = statement_code limits s trees other} due spare extra labels s.constructs o (code_owns limits s trees other) g
