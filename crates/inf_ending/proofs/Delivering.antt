-- The lines that were written of the last ones, and of all.
use Rattle.std.proofs.Common.{option_map, IsSome, ◌≡◌, ℕ, List, [], ◌++◌, take, drop, take-append-drop, append_assoc, arith, Option, Some}
use Rattle.std.proofs.Common.{None, Result, Ok, Err, IfOk, refl, sym, ap, subst, ◌∙◌, append-nil}
use Rattle.inf_report.specs.Reports.{closing}
use Rattle.inf_devices.specs.{Sinks.Takes, declared.sinks.Sink.Ghosts as Sink}
use Rattle.inf_settings.specs.Bounds.{Limits}
use Rattle.inf_unit.specs.Messages.{FileNames}
use Rattle.inf_compilation.specs.Actions.{Compilation}
use Rattle.inf_ending.specs.{Ending.Outcome, Ending.finished, declared.compiled.Compiled.Compiled, declared.compiled.Status.Status}
use Rattle.inf_ending.specs.Delivered.{Appends, Delivers, EndsClean, EndsCleanOf, TakesFront, story_in}
use Rattle.inf_ending.proofs.Endings.{success_clean}

pub takes_then : (old mid new : Option (List ℕ)) (xs ys : List ℕ) → Takes old mid xs → Takes mid new ys → Takes old new (xs ++ ys)
takes_then None mid new xs ys a b = subst (λ m. Takes m new ys) a b
takes_then (Some before) mid new xs ys a b = by_mid (subst (λ m. Takes m new ys) a b) where
  by_mid : new ≡ Some ((before ++ xs) ++ ys) → new ≡ Some (before ++ (xs ++ ys))
  by_mid e = e ∙ ap (λ l. Some l) (append_assoc before xs ys)

pub takes_none : (old : Option (List ℕ)) → Takes old old []
takes_none None = refl
takes_none (Some before) = ap (λ l. Some l) (sym (append-nil before))

-- a device that took nothing took a front of any lines
pub takes_no_front : (lines : List ℕ) (old : Option (List ℕ)) → TakesFront lines old old
takes_no_front lines old = record { front = []; takes = takes_none old; begins = record { rest = lines; is_cut = refl } }

-- a front of the lines was written
pub takes_part : (lines : List ℕ) (n : ℕ) (old new : Option (List ℕ)) → Takes old new (take n lines) → TakesFront lines old new
takes_part lines n old new taken =
    record { front = take n lines; takes = taken; begins = record { rest = drop n lines; is_cut = sym (take-append-drop n lines) } }

pub appends_none : {S : Type 0} (m : Sink S) (old : S) → Appends m old old
appends_none m old = record { lines = []; takes = takes_none (m.taken old); failures = omega arith }

-- some lines were written behind others
pub appends_then : {S : Type 0} (m : Sink S) (a b c : S) → Appends m a b → Appends m b c → Appends m a c
appends_then m a b c p q = record {
  lines = p.lines ++ q.lines;
  takes = takes_then (m.taken a) (m.taken b) (m.taken c) p.lines q.lines p.takes q.takes;
  failures = omega (arith, p.failures, q.failures);
}

-- the last lines that were written then are the last of all
ends_behind_of : {S : Type 0} (m : Sink S) (a b c : S) (limits : Limits) (serial : List ℕ) (files : FileNames) (w : Compilation)
    (story : Option (List ℕ)) → Appends m a b → EndsCleanOf limits serial files w story (m.taken b) (m.taken c)
    → EndsCleanOf limits serial files w story (m.taken a) (m.taken c)
ends_behind_of m a b c limits serial files w story p q =
    let closes = closing 0 q.warnings in
    record {
      counts_none = q.counts_none;
      is_story = q.is_story;
      has_story = q.has_story;
      before = p.lines ++ q.before;
      front = p.lines ++ q.front;
      warnings = q.warnings;
      takes = subst (λ (lines : List ℕ). Takes (m.taken a) (m.taken c) lines) (sym (append_assoc p.lines q.front closes))
          (takes_then (m.taken a) (m.taken b) (m.taken c) p.lines (q.front ++ closes) p.takes q.takes);
      last = append_assoc p.lines q.front closes ∙ ap (λ (lines : List ℕ). p.lines ++ lines) q.last
          ∙ sym (append_assoc p.lines q.before (finished limits serial files w).messages);
    }

pub ends_behind : {S : Type 0} (m : Sink S) (a b c : S) (serial : List ℕ) (story : Option (List ℕ)) → Appends m a b →
    EndsClean serial story (m.taken b) (m.taken c) → EndsClean serial story (m.taken a) (m.taken c)
ends_behind m a b c serial story p q = record {
  limits = q.limits;
  files = q.files;
  work = q.work;
  clean = ends_behind_of m a b c q.limits serial q.files q.work story p q.clean;
}

-- the ending of a compilation without an error has the story of its work, and its last line is the one that tells none
pub ends_clean : (limits : Limits) (serial : List ℕ) (files : FileNames) (w : Compilation) (c : Compiled) (old new : Option (List ℕ))
    → Delivers (finished limits serial files w) c old new → c.status ≡ Status.Success
    → EndsCleanOf limits serial files w (story_in c) old new
ends_clean limits serial files w c old new d is =
    let k = success_clean limits serial files w (sym d.status ∙ is) in
    record {
      counts_none = k.counts_none;
      is_story = sym d.story;
      has_story = subst (λ (o : Option (List ℕ)). IsSome o) (sym (d.story ∙ k.story)) refl;
      before = [];
      front = k.closes.front;
      warnings = k.closes.warnings;
      takes = subst (λ (lines : List ℕ). Takes old new lines) k.closes.is d.messages;
      last = sym k.closes.is;
    }

mapped_none : {T U : Type 0} (f : T → U) (o : Option T) → option_map f o ≡ None → o ≡ None
mapped_none f None e = refl
mapped_none f (Some x) e = let never : Some (f x) ≡ None = e in cc

-- an ending with an error has no story
pub has_none : (e : Outcome) (c : Compiled) (old new : Option (List ℕ)) → (e.status ≡ Status.Errors → e.story ≡ None) → Delivers e c old new
    → c.status ≡ Status.Errors → c.story ≡ None
has_none e c old new none d is = mapped_none (λ v. v.items) c.story (d.story ∙ none (sym d.status ∙ is))

pub if_ok_more : {T E : Type 0} (r : Result T E) (P Q : T → Type 0) → ((x : T) → P x → Q x) → IfOk r P → IfOk r Q
if_ok_more (Ok x) P Q h p = h x p
if_ok_more (Err fault) P Q h p = tt
