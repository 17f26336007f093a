-- The results of steps, of a source and of the veneer behind it, and the number of steps that are left.
use Rattle.std.proofs.Common.{◌&&◌, ◌||◌, is_none, ◌≡◌, ◌⊎◌, inl, inr, suc, ◌+◌, ◌-◌, ◌<◌, ◌≤◌, Bool, true, false, cond, Result, Ok, Err}
use Rattle.std.proofs.Common.{IfOk}
use Rattle.std.proofs.Common.{refl, sym, ap, subst, ◌∙◌, arith}
use Rattle.inf_conditionals.specs.Judging.{may_part}
use Rattle.inf_reader.specs.{Handing.is_between, Reading.is_mode_ended, Standing.reading}
use Rattle.inf_session.specs.{Choices.chosen, Choices.most_quoted, Veneer.most_texts, Veneer.next_text, Weights.steps_left, Weights.weight}
use Rattle.inf_session.specs.{declared.session.Session.Session, declared.session.Step.Step, declared.setup.Setup.Setup}
use Rattle.inf_session.specs.Standing.{HasObjects, IsBounded, came_to, ended, is_done, is_fatal, next_of, parted}

-- Lemmas about whether something is left

pub done_is : {B : Type 0} (s : Session B) → ended s ≡ true → is_done s ≡ is_none (next_of s)
done_is s e = ap (λ b. b && is_none (next_of s)) e

pub going_is : {B : Type 0} (s : Session B) → ended s ≡ false → is_done s ≡ false
going_is s e = ap (λ b. b && is_none (next_of s)) e

pub done_by : {B : Type 0} (s : Session B) → ended s ≡ true → is_none (next_of s) ≡ true → is_done s ≡ true
done_by s e none = done_is s e ∙ none

-- a part has ended where reading has
pub parted_by : {B : Type 0} (s : Session B) → ended s ≡ true → parted s ≡ true
parted_by s e = ap (λ b. b || (is_between (reading s.progress.reader) && may_part s.conditionals)) e

-- behind a fatal message no routine is read
pub none_next : {B : Type 0} (s : Session B) → is_fatal s ≡ true → is_none (next_of s) ≡ true
none_next s e = ap (λ b. is_none (next_text b s.passed s.progress.work.output.names)) e

fatal_by : (b : Bool) (x : Step) → x ≡ cond b Step.Fatal Step.More → (x ≡ Step.More → ⊥) → b ≡ true
fatal_by true x e more = refl
fatal_by false x e more = absurd (more e)

or_true : (a b : Bool) → (a || (true || b)) ≡ true
or_true true b = refl
or_true false b = refl

-- a step that does not go on came to a fatal message, at which reading ends
pub fatal_ends : {B : Type 0} (t : Session B) (x : Step) → x ≡ came_to false t → (x ≡ Step.More → ⊥) → ended t ≡ true
fatal_ends t x came more = ap (λ b. t.is_over || (b || is_mode_ended t.progress.reader.mode)) (fatal_by (is_fatal t) x came more)
    ∙ or_true t.is_over (is_mode_ended t.progress.reader.mode)

-- a part of the source that does not go on ended with a fatal message
pub part_ends : {B : Type 0} (t : Session B) (x : Step) → x ≡ came_to false t → (x ≡ Step.More → ⊥) → ended t ≡ true → is_done t ≡ true
part_ends t x came more over = done_by t over (none_next t (fatal_by (is_fatal t) x came more))

pub if_ok_two : {T E : Type 0} (r : Result T E) (P Q R : T → Type 0) → ((x : T) → P x → Q x → R x) → IfOk r P → IfOk r Q → IfOk r R
if_ok_two (Ok x) P Q R h p q = h x p q
if_ok_two (Err f) P Q R h p q = tt

-- Lemmas about the number of steps that are left

left_ended : {B : Type 0} (s : Session B) → ended s ≡ true → steps_left s ≡ most_texts - s.passed
left_ended s e = ap (λ b. cond b (most_texts - s.passed) (suc most_texts + weight s.open_files)) e

left_going : {B : Type 0} (s : Session B) → ended s ≡ false → steps_left s ≡ suc most_texts + weight s.open_files
left_going s e = ap (λ b. cond b (most_texts - s.passed) (suc most_texts + weight s.open_files)) e

pub veneer_falls : {B : Type 0} (s t : Session B) → ended s ≡ true → ended t ≡ true
    → (is_none (next_of t) ≡ true) ⊎ ((s.passed < t.passed) × (t.passed ≤ most_texts)) → (is_done t ≡ true) ⊎ (steps_left t < steps_left s)
veneer_falls s t was is (inl none) = inl (done_by t is none)
veneer_falls s t was is (inr more) = inr (omega (arith, left_ended s was, left_ended t is, more.0, more.1))

falls_by : {B : Type 0} (s t : Session B) (b : Bool) → ended t ≡ b → ended s ≡ false
    → (ended t ≡ true) ⊎ (weight t.open_files < weight s.open_files) → steps_left t < steps_left s
falls_by s t true is was falls = omega (arith, left_ended t is, left_going s was)
falls_by s t false is was (inl over) = let never : false ≡ true = sym is ∙ over in cc
falls_by s t false is was (inr less) = omega (arith, left_going t is, left_going s was, less)

pub part_falls : {B : Type 0} (s t : Session B) → ended s ≡ false
    → (ended t ≡ true) ⊎ (weight t.open_files < weight s.open_files) → (is_done t ≡ true) ⊎ (steps_left t < steps_left s)
part_falls s t was falls = inr (falls_by s t (ended t) refl was falls)

-- Lemmas about the bounds of the settings

still_by : {B : Type 0} (s t : Session B) (b : Bool) → is_fatal s ≡ b → (is_none (next_of s) ≡ true → t ≡ s) → is_fatal t ≡ false
    → is_fatal s ≡ false
still_by s t true is same going =
    let never : true ≡ false = sym is ∙ ap is_fatal (sym (same (none_next s is))) ∙ going in cc
still_by s t false is same going = is

pub veneer_bounded : {B : Type 0} (s t : Session B) → t.setup ≡ s.setup
    → (s.quoted ≤ most_quoted (chosen s.setup) → t.quoted ≤ most_quoted (chosen s.setup)) → (is_none (next_of s) ≡ true → t ≡ s)
    → IsBounded s → IsBounded t
veneer_bounded s t setup longest same b = (
  subst (λ (p : Setup). t.quoted ≤ most_quoted (chosen p)) (sym setup) (longest b.0),
  λ going. subst (λ (p : Setup). HasObjects (chosen p).settings) (sym setup) (b.1 (still_by s t (is_fatal s) refl same going)),
)
