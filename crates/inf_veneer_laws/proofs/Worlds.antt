-- Worlds whose objects, or classes, are those in memory, whose messages look at these, and whose calls
-- keep to their own locals.
use Rattle.std.proofs.Common.{◌≡◌, ℕ, [], Option, Some, None, not, refl, ap, ◌∙◌, ◌==◌}
use Rattle.inf_interpreter.specs.Machine.{Store, ◌then◌}
use Rattle.inf_veneer_laws.specs.{Classes.WorldsHaveClasses, Classes.known_or_false, Running.entered, Running.left}
use Rattle.inf_veneer_laws.specs.Sending.{WorldsHaveMessages, WorldsKeepLocals, message_by}
use Rattle.inf_veneer_laws.specs.Worlds.{WorldsHaveObjects, known_or_0, written_at}
use Rattle.inf_veneer_laws.proofs.{Locals.entered_alike, Locals.left_through, Sending.with_locals}

pub worlds_have_classes : WorldsHaveClasses
worlds_have_classes w = (
  record { parent = λ s o. refl; classes = λ s o c b e. ap known_or_false e },
  λ h. record {
    child = h.child;
    sibling = h.sibling;
    children = h.children;
    value = h.value;
    address = h.address;
    length = h.length;
    writes = h.writes;
    provides = h.provides;
  },
)

pub worlds_have_objects : WorldsHaveObjects
worlds_have_objects w = record {
  child = λ s o. refl;
  sibling = λ s o. refl;
  children = λ s o n e. ap known_or_0 e;
  value = λ s o p n e. ap known_or_0 e;
  address = λ s o p n e. ap known_or_0 e;
  length = λ s o p n e. ap known_or_0 e;
  writes = λ o p n s start e. ap (λ (x : ℕ). written_at x n s) (ap known_or_0 e);
  provides = λ s o p start e. ap (λ (x : ℕ). not (x == 0)) (ap known_or_0 e);
}

pub worlds_have_messages : WorldsHaveMessages
worlds_have_messages w action = (
  record { sent = λ s o p n ns e. ap (λ (m : Option ℕ). m then λ v. message_by w action s o v ns) e },
  λ h. record {
    child = h.child;
    sibling = h.sibling;
    children = h.children;
    value = h.value;
    address = h.address;
    length = h.length;
    writes = h.writes;
    provides = h.provides;
  },
  λ h. record { parent = h.parent; classes = h.classes },
  λ k. record { keeps = k.keeps },
)

abbrev kept_with : ℕ → ℕ → Store → Option (ℕ × ℕ × Store)
kept_with n temp u = Some (n, temp, u)

left_behind : (s t : Store) (m : Option (ℕ × ℕ × Store)) → with_locals (left t s) m ≡ with_locals t (with_locals s m)
left_behind s t None = refl
left_behind s t (Some r) = ap (kept_with r.0 r.1) (left_through s t r.2)

pub worlds_keep_locals : WorldsKeepLocals
worlds_keep_locals w = (
  record {
    keeps = λ s t f ns. ap (λ (u : Store). with_locals (left t s) (w.called u f ns)) (entered_alike [] s t)
        ∙ left_behind s t (w.called (entered [] s) f ns);
  },
  λ h. record {
    child = h.child;
    sibling = h.sibling;
    children = h.children;
    value = h.value;
    address = h.address;
    length = h.length;
    writes = h.writes;
    provides = h.provides;
  },
  λ h. record { parent = h.parent; classes = h.classes },
)
