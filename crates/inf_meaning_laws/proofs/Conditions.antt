-- Expressions that are worked out one behind the other: lists with commas, `~~`, `&&` and `||`.
use Rattle.std.proofs.Common.{◌≡◌, ℕ, List, Option, Some, Bool, true, false, refl, ◌∙◌, sym, subst, take, not, if◌then◌else◌}
use Rattle.inf_settings.specs.Bounds.{Limits}
use Rattle.inf_opcode.specs.declared.instructions.Label.{Label}
use Rattle.inf_expressions.specs.{Numbers.same, declared.operators.Binary.Binary, declared.operators.Unary.Unary}
use Rattle.inf_output.specs.Output.{◌▸◌}
use Rattle.inf_templates.specs.{Meaning.Meaning, Parts.SP}
use Rattle.inf_templates.specs.Meaning as code
use Rattle.inf_interpreter.specs.Machine.{World, Store, State, Place, ◌then◌}
use Rattle.inf_interpreter.specs.Claims.{Kept, Comes, state}
use Rattle.inf_meaning_laws.specs.{Laws.Branches, Laws.taker, Values.Sense, Values.opposite, Values.sense}
use Rattle.inf_meaning_laws.specs.Values as values
use Rattle.inf_interpreter.proofs.Laying.{Always, Marks, labelled, marked_, so, then_}
use Rattle.inf_interpreter.proofs.Running.{kept_here, kept_then, comes_then, opened, same_some, not_kept}
use Rattle.inf_meaning_laws.proofs.Instructions.{pass, moved, opposed, zero_tested}
use Rattle.inf_meaning_laws.proofs.Meant.{stored_means, condition_means, Means, part_of, no_element}

pub comma_means : {keeps keeps' : Bool} (w : World) (limits : Limits) (m n : Meaning) (a b : Sense) → Means keeps w limits m a →
    Means keeps' w limits n b → Means false w limits (code.two limits Binary.Comma m n) (values.two w Binary.Comma a b)
comma_means {keeps} {keeps'} w limits m n a b h k =
    stored_means w limits (λ take s. a.alone s then λ t. b.value take t) (λ d. m.alone ▸ n.value d)
    (λ d. so (λ at from to p stack temp s x t e.
    let o = opened (a.alone s) (λ t. b.value (taker d) t) (x, t) e in
    let r = p.1 stack temp s o.0 o.1 in
    let r' = p.2 stack r.0 o.0 x t o.2 in
    (r'.0, not_kept, comes_then r.1 r'.2)) (then_ h.alone (k.value d)))

pub not_means : {keeps : Bool} (w : World) (limits : Limits) (m : Meaning) (a : Sense) → Means keeps w limits m a →
    Means keeps w limits (code.one limits Unary.Not m) (values.one w Unary.Not a)
not_means {keeps} w limits m a h = condition_means w limits (opposite a.truth) (λ sense label. m.branch (not sense) label)
    (λ sense label. so (opposed w a.truth sense label) (h.branch (not sense) label))

-- `&&` (`x` true) and `||` (`x` false) in one: the right side counts where the left one is `x`
abbrev pub chain : Bool → (Store → Option (Bool × Store)) → (Store → Option (Bool × Store)) → Store → Option (Bool × Store)
chain true a b s = values.both a b s
chain false a b s = values.either a b s

pub chain_is : (x p : Bool) (b : Store → Option (Bool × Store)) (s : Store) →
    (elim x [ true ↦ if p then b s else Some (false, s) | false ↦ if p then Some (true, s) else b s ]) ≡ (if same p x then b s else Some
    (p, s))
chain_is true true b s = refl
chain_is true false b s = refl
chain_is false true b s = refl
chain_is false false b s = refl

abbrev pub found : Bool → Store → Option (Bool × Store)
found p s = Some (p, s)

-- where the right side decides, and where the left one did
pub comes_to : {keeps : Bool} (w : World) (at : Label → Place) (from m1 m2 : Place) (label : Label) (start : State) (stack : List ℕ)
    (left : ℕ) (y : Bool)
    (b : Store → Option (Bool × Store)) (s : Store) (r : Bool) (t : Store) →
    Comes w at from start m1 (state stack left s) → Branches keeps w b y label at m1 m2 → b s ≡ Some (r, t) →
    (left' : ℕ) × Kept keeps left left' × Comes w at from start (if same r y then at label else m2) (state stack left' t)
comes_to {keeps} w at from m1 m2 label start stack left y b s r t c h e = let q = h stack left s r t e in (q.0, q.1, comes_then c q.2)

pub decided : {keeps : Bool} (w : World) (at : Label → Place) (from to : Place) (label : Label) (start : State) (stack : List ℕ)
    (left : ℕ) (y p : Bool) (s : Store)
    (r : Bool) (t : Store) → Comes w at from start (if same p y then at label else to) (state stack left s) → found p s ≡ Some (r, t) →
    (left' : ℕ) × Kept keeps left left' × Comes w at from start (if same r y then at label else to) (state stack left' t)
decided {keeps} w at from to label start stack left y p s r t c e = (
  left,
  kept_here keeps left,
  subst (λ x. Comes w at from start (if same x.0 y then at label else to) (state stack left x.1)) (same_some e) c,
)

-- the left side jumps behind both, or both go to the label
pub over_by : {keeps : Bool} (w : World) (at : Label → Place) (from m1 m2 to : Place) (over label : Label) (start : State)
    (stack : List ℕ) (left : ℕ) (x p : Bool)
    (b : Store → Option (Bool × Store)) (s : Store) (r : Bool) (t : Store) →
    Comes w at from start (if same p (not x) then at over else m1) (state stack left s) → Branches keeps w b x label at m1 m2 →
    Marks over at m2 to →
    (if same p x then b s else Some (p, s)) ≡ Some (r, t) →
    (left' : ℕ) × Kept keeps left left' × Comes w at from start (if same r x then at label else to) (state stack left' t)
over_by {keeps} w at from m1 m2 to over label start stack left true true b s r t c h f e =
    let q = comes_to {keeps = keeps} w at from m1 m2 label start stack left true b s r t c h e in
    (q.0, q.1, pass w at from m2 to over label start (state stack q.0 t) (same r true) f q.2)
over_by {keeps} w at from m1 m2 to over label start stack left true false b s r t c h f e =
    decided {keeps = keeps} w at from to label start stack left true false s r t (moved f.1 c) e
over_by {keeps} w at from m1 m2 to over label start stack left false true b s r t c h f e =
    decided {keeps = keeps} w at from to label start stack left false true s r t (moved f.1 c) e
over_by {keeps} w at from m1 m2 to over label start stack left false false b s r t c h f e =
    let q = comes_to {keeps = keeps} w at from m1 m2 label start stack left false b s r t c h e in
    (q.0, q.1, pass w at from m2 to over label start (state stack q.0 t) (same r false) f q.2)

pub straight_by : {keeps : Bool} (w : World) (at : Label → Place) (from m1 to : Place) (label : Label) (start : State) (stack : List ℕ)
    (left : ℕ) (x p : Bool)
    (b : Store → Option (Bool × Store)) (s : Store) (r : Bool) (t : Store) →
    Comes w at from start (if same p (not x) then at label else m1) (state stack left s) → Branches keeps w b (not x) label at m1 to →
    (if same p x then b s else Some (p, s)) ≡ Some (r, t) →
    (left' : ℕ) × Kept keeps left left' × Comes w at from start (if same r (not x) then at label else to) (state stack left' t)
straight_by {keeps} w at from m1 to label start stack left true true b s r t c h e =
    comes_to {keeps = keeps} w at from m1 to label start stack left false b s r t c h e
straight_by {keeps} w at from m1 to label start stack left true false b s r t c h e =
    decided {keeps = keeps} w at from to label start stack left false false s r t c e
straight_by {keeps} w at from m1 to label start stack left false true b s r t c h e =
    decided {keeps = keeps} w at from to label start stack left true true s r t c e
straight_by {keeps} w at from m1 to label start stack left false false b s r t c h e =
    comes_to {keeps = keeps} w at from m1 to label start stack left true b s r t c h e

pub chain_opened : (x : Bool) (a b : Store → Option (Bool × Store)) (s : Store) (r : Bool) (t : Store) → chain x a b s ≡ Some (r, t) →
    (p : Bool) × (u : Store) × (a s ≡ Some (p, u)) × ((if same p x then b u else Some (p, u)) ≡ Some (r, t))
chain_opened true a b s r t e =
    let o = opened (a s) (λ p. if p.0 then b p.1 else Some (false, p.1)) (r, t) e in
    (o.0.0, o.0.1, o.1, sym (chain_is true o.0.0 b o.0.1) ∙ o.2)
chain_opened false a b s r t e =
    let o = opened (a s) (λ p. if p.0 then Some (true, p.1) else b p.1) (r, t) e in
    (o.0.0, o.0.1, o.1, sym (chain_is false o.0.0 b o.0.1) ∙ o.2)

pub both_ : {keeps : Bool} (w : World) (limits : Limits) (x : Bool) (m n : Meaning) (a b : Sense) → Means keeps w limits m a →
    Means keeps w limits n b → (label : Label) →
    Always w (code.both limits m n x label) (Branches keeps w (chain x a.truth b.truth) x label)
both_ {keeps} w limits x m n a b h k label = labelled λ over. so (λ at from to p stack temp s r t e.
    let o = chain_opened x a.truth b.truth s r t e in
    let q = p.1 stack temp s o.0 o.1 o.2 in
    let z = over_by {keeps = keeps} w at from p.0 p.2.0 to over label
    (state stack temp s) stack q.0 x o.0 b.truth o.1 r t q.2 p.2.1 p.2.2 o.3 in
    (z.0, kept_then keeps temp q.0 z.0 q.1 z.1, z.2))
    (then_ (h.branch (not x) over) (then_ (k.branch x label) (marked_ limits over)))

pub either_ : {keeps : Bool} (w : World) (limits : Limits) (x : Bool) (m n : Meaning) (a b : Sense) → Means keeps w limits m a →
    Means keeps w limits n b → (label : Label) →
    Always w (code.either m n (not x) label) (Branches keeps w (chain x a.truth b.truth) (not x) label)
either_ {keeps} w limits x m n a b h k label = so (λ at from to p stack temp s r t e.
    let o = chain_opened x a.truth b.truth s r t e in
    let q = p.1 stack temp s o.0 o.1 o.2 in
    let z = straight_by {keeps = keeps} w at from p.0 to label (state stack temp s) stack q.0 x o.0 b.truth o.1 r t q.2 p.2 o.3 in
    (z.0, kept_then keeps temp q.0 z.0 q.1 z.1, z.2))
    (then_ (h.branch (not x) label) (k.branch (not x) label))

pub and_branches : {keeps : Bool} (w : World) (limits : Limits) (m n : Meaning) (a b : Sense) → Means keeps w limits m a →
    Means keeps w limits n b → (sense : Bool) (label : Label) →
    Always w (code.and_branch limits m n sense label) (Branches keeps w (values.both a.truth b.truth) sense label)
unfolding code.and_branch
and_branches {keeps} w limits m n a b h k true label = both_ w limits true m n a b h k label
and_branches {keeps} w limits m n a b h k false label = either_ w limits true m n a b h k label

pub or_branches : {keeps : Bool} (w : World) (limits : Limits) (m n : Meaning) (a b : Sense) → Means keeps w limits m a →
    Means keeps w limits n b → (sense : Bool) (label : Label) →
    Always w (code.or_branch limits m n sense label) (Branches keeps w (values.either a.truth b.truth) sense label)
unfolding code.or_branch
or_branches {keeps} w limits m n a b h k true label = either_ w limits false m n a b h k label
or_branches {keeps} w limits m n a b h k false label = both_ w limits false m n a b h k label

-- a list is its first member
pub then_means : {keeps : Bool} (w : World) (limits : Limits) (m n : Meaning) (a b : Sense) → Means keeps w limits m a →
    Means keeps w limits n b → Means keeps w limits (code.two limits Binary.Then m n) (values.two w Binary.Then a b)
then_means {keeps} w limits m n a b h k = record {
  operand = refl;
  first = part_of w limits m a h;
  others = (k.first, k.others);
  value = h.value;
  alone = h.alone;
  aims = λ width args e. no_element e;
  branch = λ sense label. zero_tested {keeps = keeps} w limits a.value (m.value SP) (h.value SP) sense label;
}
