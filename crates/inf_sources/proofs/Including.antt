-- Inclusions that enter no file, and the entering of the main source.
use Rattle.std.proofs.Common.{◌≡◌, ◌<◌, ◌≤◌, ◌⊎◌, inl, inr, ℕ, Bool, true, cond, Err, List, [], ◌∷◌, length, IsTrue, Option, Some, None}
use Rattle.std.proofs.Common.{IsErrOf, Result, is_some, refl, sym, ap, subst, ◌∙◌, arith}
use Rattle.std.proofs.Math.Path.{subst⁻¹}
use Rattle.inf_characters.specs.declared.characters.CharSet.{CharSet}
use Rattle.inf_devices.specs.Files.{Openings, Rose, Sources}
use Rattle.inf_devices.specs.declared.files.Files.{Ghosts as Files}
use Rattle.inf_lexer.specs.{Readers.Reader, declared.enter_faults.EnterFault.EnterFault}
use Rattle.inf_lexer.specs.Entering.{Attempts, ClosedAgain, Enters, Leaves, WasTooMany}
use Rattle.inf_lexer.specs.Names.{Nest, can_name, candidates, innermost_name, number_of}
use Rattle.inf_sources.specs.{Calls.AskedTooMany, Calls.Honestly, Calls.StaysFit, Calls.Went, Inclusions.OpensTooMany, Inclusions.inclusion}
use Rattle.inf_sources.specs.{Open.Each, Open.Fits, Open.MainEntered, Open.Open, Open.nesting, Open.opened_since}
use Rattle.inf_sources.specs.declared.open_file.OpenFile.{OpenFile}
use Rattle.inf_sources.proofs.{Answering.IsNumbered, Answering.opens_too_many, Calls.asked_too_many, Calls.went_by}
use Rattle.inf_sources.proofs.{Fronts.failed_fit, Fronts.failed_given, Fronts.main_given, Fronts.none_fit, Openings.failed_nested}
use Rattle.inf_sources.proofs.Openings.{fresh, main_nested_of, main_of, only_name}

-- the openings are the same, or a source was one too many
how : {s : Sources} {known names : List (List ℕ)} {old new : Openings} (fault : EnterFault) → Leaves s known names old new (Err fault)
    → (new ≡ old) ⊎ ClosedAgain s known names old new
how EnterFault.Absent l = inl l.1
how EnterFault.Device l = l
how EnterFault.Memory l = inl l
how EnterFault.BadName l = inl l
how EnterFault.TooDeep l = inl l

-- the open files where the names and the files that wait are the same
pub open_same : {nest now : Nest} {lexer : Reader} {outer more : List OpenFile} → now ≡ nest → more ≡ outer
    → ◌≡◌ {A = Open} (record { nest = now; lexer = lexer; outer = more }) (record { nest = nest; lexer = lexer; outer = outer })
open_same {nest = nest} {lexer = lexer} {more = more} names files =
    ap (λ n. record { nest = n; lexer = lexer; outer = more }) names ∙ ap (λ fs. record { nest = nest; lexer = lexer; outer = fs }) files

pub went_failed : {S : Type 0} {f : Files S} {old new : S} {names : List (List ℕ)} {before after : Open} {fault : EnterFault}
    → Attempts f old new names before.nest after.nest (Err fault) → after ≡ before → Went f old new before after
went_failed {f = f} {old = old} {new = new} {names = names} {before = before} {fault = fault} t same = went_by t.tries t.opened same
    (λ honest start n. failed_nested (f.sources old) before.nest.names names start (f.openings old) (f.openings new) before n
    (how fault (t.leaves honest)))
    (λ honest start n all. failed_given (f.sources old) before.nest.names names start (f.openings old) (f.openings new) before n
    (how fault (t.leaves honest)) all)

pub fit_failed : {S : Type 0} {f : Files S} {old new : S} {names : List (List ℕ)} {before : Open} {after : Nest} {fault : EnterFault}
    → Attempts f old new names before.nest after (Err fault) → StaysFit f old new before
fit_failed {f = f} {old = old} {new = new} {names = names} {before = before} {fault = fault} t = λ honest start n given fit.
    failed_fit (f.sources old) before.nest.names names (length start.all) (f.openings old) (f.openings new)
    (how fault (t.leaves honest)) fit

-- the cause where the device refused
pub device_cause : {S : Type 0} {f : Files S} {old new : S} {before after : Open} (directories : List (List ℕ)) (text : List ℕ)
    → IsNumbered before → (can_name text ≡ true) × (length before.nest.open_files < 16)
    → Attempts f old new (candidates directories (innermost_name before.nest) text) before.nest after.nest (Err EnterFault.Device)
    → Rose (f.faults old) (f.faults new) ⊎ (AskedTooMany f new after × Honestly f old before (λ start.
    OpensTooMany (inclusion (f.sources old) directories text (nesting (f.sources old) start (f.openings old) before))
    (nesting (f.sources old) start (f.openings old) before) (opened_since start (f.openings new))))
device_cause {f = f} {old = old} {new = new} {before = before} {after = after} directories text e fit t =
    elim (t.cause refl) as (λ _. Rose (f.faults old) (f.faults new) ⊎ (AskedTooMany f new after × Honestly f old before (λ start.
    OpensTooMany (inclusion (f.sources old) directories text (nesting (f.sources old) start (f.openings old) before))
    (nesting (f.sources old) start (f.openings old) before) (opened_since start (f.openings new))))) [
      | inl rose ↦ inl rose
      | inr many ↦ inr (
        asked_too_many many.name t.same many.is_too_many many.is_opened,
        λ honest start n. opens_too_many (f.sources old) directories text n e fit.0 fit.1 (many.is_closed honest),
      )
    ]

-- Lemmas about the main source

-- a fault of one answer, as that of another
pub same_fault : {T U E : Type 0} {x y : E} (answer : Result T E) → answer ≡ Err x → answer ≡ Err y → IsErrOf {T = U} (Err x) y
same_fault {x = x} {y = y} answer told is = let both = sym told ∙ is in let e : x ≡ y = cc in ap Err e

pub main_entered : {s : Sources} {h : Bool} {name : List ℕ} {old new : Openings} {stack nest : Nest} {lexer : Reader}
    {outer : List OpenFile} {set : CharSet} {limit : ℕ} → stack ≡ fresh set limit → outer ≡ []
    → Enters s h (name ∷ []) old new stack nest lexer → IsTrue h
    → MainEntered s name set limit old new (record { nest = nest; lexer = lexer; outer = outer })
main_entered {s = s} {name = name} {old = old} {new = new} {stack = stack} {nest = nest} {lexer = lexer} {outer = outer} {set = set}
    {limit = limit} is_fresh empty e honest = record {
      there = λ none. let never : None ≡ Some e.name =
          sym (ap (λ (o : Option (List ℕ)). cond (is_some o) (Some name) None) none) ∙ e.is_first honest in cc;
      nesting_is = main_of s old new name e.name stack nest lexer outer set limit is_fresh (only_name name e.name e.place e.is_named)
          (e.is_opened honest) e.is_entered.0 e.is_entered.1 empty;
      nested = main_nested_of old new e.name nest lexer outer (e.is_opened honest) empty;
      given_all = main_given s old new (record { nest = nest; lexer = lexer; outer = outer }) e.name stack stack.set stack.limit
          (e.is_opened honest) e.is_entered.0 e.is_entered.1 empty;
      fits = subst⁻¹ (λ (o : Openings). Each Fits (length old.all) o.all) (e.is_opened honest) (none_fit old.all e.name);
    }

pub main_refused : (s : Sources) (name : List ℕ) {old new : Openings} {stack : Nest} {set : CharSet} {limit : ℕ} {fault : EnterFault}
    → stack ≡ fresh set limit → Leaves s stack.names (name ∷ []) old new (Err fault)
    → (new ≡ old) × (fault ≡ EnterFault.Absent → s name ≡ None)
main_refused s name {old = old} {new = new} {fault = fault} is_fresh leaves =
    by fault (subst (λ (n : Nest). Leaves s n.names (name ∷ []) old new (Err fault)) is_fresh leaves)
  where
    absent : (o : Option (List ℕ)) → cond (is_some o) (Some name) None ≡ None → o ≡ None
    absent None e = refl
    absent (Some bytes) e = cc

    by : (x : EnterFault) → Leaves s [] (name ∷ []) old new (Err x) → (new ≡ old) × (x ≡ EnterFault.Absent → s name ≡ None)
    by EnterFault.BadName l = (l, λ is. cc)
    by EnterFault.TooDeep l = (l, λ is. cc)
    by EnterFault.Memory l = (l, λ is. cc)
    by EnterFault.Absent l = (l.1, λ is. absent (s name) l.0)
    by EnterFault.Device (inl same) = (same, λ is. cc)
    by EnterFault.Device (inr again) = absurd (omega (arith, again.is_too_many))

pub main_cause : {m n : ℕ} {s : Sources} {h : Bool} {names opened : List (List ℕ)} {old new : Openings} {stack : Nest} {set : CharSet}
    {limit : ℕ} → stack ≡ fresh set limit → Rose m n ⊎ WasTooMany s h stack.names names old new opened → Rose m n
main_cause is_fresh (inl rose) = rose
main_cause is_fresh (inr many) =
    let most : 65535 ≤ 0 = subst (λ (n : Nest). 65535 ≤ number_of many.name n.names) is_fresh many.is_too_many in absurd
    (omega (arith, most))
