-- The findings of look-ups of names after declarations and uses.
use Rattle.std.proofs.Common.{◌≡◌, ◌+◌, ◌<◌, ◌≤◌, ℕ, List, [], ◌∷◌, ◌++◌, append_assoc, append-nil, arith, length, filter, cond, not, ◌||◌}
use Rattle.std.proofs.Common.{Bool, true, false, Option, None, Some, refl, sym, ap, subst, ◌∙◌, bytes_eq, find, is_some}
use Rattle.std.proofs.lemmas.Bool.{lt-leb, or_from, or_left, or_parts}
use Rattle.std.proofs.lemmas.List.Elements.{filter-append}
use Rattle.std.specs.List.{list_any}
use Rattle.inf_settings.specs.{Bounds.Limits, declared.setting.Setting.Setting}
use Rattle.inf_scanner.specs.declared.tokens.Place.{Place}
use Rattle.inf_names.specs.{declared.meanings.Meaning.Meaning, declared.symbols.DeclareFault.DeclareFault}
use Rattle.inf_names.specs.{declared.symbols.Found.Found, declared.symbols.ReferFault.ReferFault}
use Rattle.inf_names.specs.SystemNames.{meaning_if, name_of, system_meaning, system_names}
use Rattle.inf_names.specs.Symbols.{IsDeclared, IsUsed, Named, Standing, Table, declare_fault, declare_fault_by, folded, found_as, found_in}
use Rattle.inf_names.specs.Symbols.{is_full, no_names, put, refer_fault, refer_fault_by, standing_of, with_declared, with_used_by}
use Rattle.inf_names.proofs.Putting.{length-put}
use Rattle.inf_report.specs.Messages.{Undeclared}
use Rattle.inf_unit.specs.Messages.{FileNames, Reported, location, with_error}
use Rattle.inf_unit.specs.Names.{with_all_undeclared, with_undeclared}
use Rattle.inf_output.specs.Output.{declared_by, referred_by}
use Rattle.inf_laws.specs.NameEvents.{Declares, Event, is_full_fault, FirstDeclarationsCount, FewHaveRoom, HaveRoom, OperandsUse}
use Rattle.inf_laws.specs.NameEvents.{UndeclaredAreTold, UnitsDeclare, Use, Uses, declares, first_declaration, is_too_many, stands_for}
use Rattle.inf_laws.specs.NameEvents.{undeclared_use, undeclared_uses, uses, with_event, with_events, with_uses_told}
use Rattle.inf_laws.proofs.Choices.{cond-again, cond-swap, either, or-assoc, or-false, or-known}
use Rattle.inf_laws.proofs.SameNames.{bytes_eq-sym, key_same, same_key}

-- Declarations and uses of the compiler are events

pub units_declare : (limits : Limits) → UnitsDeclare limits
units_declare limits n m o = go (declare_fault limits n.bytes o.names)
  where
    go : (f : Option (DeclareFault Place)) →
        (declared_by limits f n.bytes n.place m o).names ≡ cond (is_some f) o.names (with_declared n.bytes n.place m o.names)
    go None = refl
    go (Some DeclareFault.Full) = refl
    go (Some DeclareFault.Memory) = refl
    go (Some (DeclareFault.Present place)) = refl

pub operands_use : (limits : Limits) → OperandsUse limits
operands_use limits n o = go (refer_fault limits n.bytes o.names)
  where
    go : (r : Option ReferFault) → (referred_by limits r n.bytes n.place o).names ≡ cond (is_some r) o.names
        (with_used_by (found_in n.bytes o.names) n.bytes n.place o.names)
    go None = refl
    go (Some fault) = refl

-- Lemmas about room for names

no_fault : (limits : Limits) (e : Event) (t : Table Place) → is_full limits t ≡ false → is_too_many limits e t ≡ false
no_fault limits (Declares name m place) t room =
    ap (λ full. is_full_fault (declare_fault_by (found_in name t) full)) room ∙ go (found_in name t)
  where
    go : (f : Found Place) → is_full_fault (declare_fault_by f false) ≡ false
    go (Found.System x) = refl
    go other = refl
no_fault limits (Uses name place) t room = ap (λ full. is_some (refer_fault_by (found_in name t) full)) room ∙ go (found_in name t)
  where
    go : (f : Found Place) → is_some (refer_fault_by f false) ≡ false
    go (Found.System x) = refl
    go other = refl

-- there is at most one name more than before
abbrev OneMore : Table Place → Table Place → Type 0
OneMore t new = length new.names ≤ length t.names + 1

put_one : (key : List ℕ) (s : Standing Place) (names : List (Named Place)) → length (put key s names) ≤ length names + 1
put_one key s names = go (is_some (standing_of key names)) (length-put key s names)
  where
    go : (known : Bool) → length (put key s names) ≡ length names + cond known 0 1 → length (put key s names) ≤ length names + 1
    go true e = omega (arith, e)
    go false e = omega (arith, e)

one_more : (limits : Limits) (e : Event) (t : Table Place) → OneMore t (with_event limits e t)
one_more limits (Declares name m place) t = go (is_some (declare_fault limits name t))
  where
    go : (b : Bool) → OneMore t (cond b t (with_declared name place m t))
    go true = omega arith
    go false = put_one (folded name) (IsDeclared t.declared m place) t.names
one_more limits (Uses name place) t = go (is_some (refer_fault limits name t)) (found_in name t)
  where
    go : (b : Bool) (f : Found Place) → OneMore t (cond b t (with_used_by f name place t))
    go true f = omega arith
    go false (Found.System m) = omega arith
    go false (Found.Declared m first) = omega arith
    go false Found.Used = omega arith
    go false Found.Unknown = put_one (folded name) (IsUsed name place) t.names

few_fit : (limits : Limits) (events : List Event) (t : Table Place) → length t.names + length events ≤ limits Setting.Symbols →
    HaveRoom limits events t
few_fit limits [] t few = tt
few_fit limits (e ∷ events) t few =
    let more = one_more limits e t in
    let room : length t.names < limits Setting.Symbols = omega (arith, few) in (
      no_fault limits e t (lt-leb (limits Setting.Symbols) (length t.names) room),
      few_fit limits events (with_event limits e t) (omega (arith, few, more)),
    )

pub few_have_room : (limits : Limits) → FewHaveRoom limits
few_have_room limits debugging events few = few_fit limits events (no_names debugging) (omega (arith, few))

-- Lemmas about the finding of a name after an event

standing_of-put : (key new : List ℕ) (s : Standing Place) (names : List (Named Place)) →
    standing_of key (put new s names) ≡ cond (bytes_eq key new) (Some s) (standing_of key names)
standing_of-put key new s [] = refl
standing_of-put key new s (n ∷ names) = go (bytes_eq new n.name) refl (standing_of-put key new s names)
  where
    go : (t : Bool) → bytes_eq new n.name ≡ t → standing_of key (put new s names) ≡ cond (bytes_eq key new) (Some s) (standing_of key names)
        → standing_of key (cond t (record { name = n.name; standing = s } ∷ names) (n ∷ put new s names)) ≡ cond (bytes_eq key new) (Some s)
        (cond (bytes_eq key n.name) (Some n.standing) (standing_of key names))
    go true e later = cond-again (bytes_eq key n.name) (Some s) (Some n.standing) (standing_of key names)
        ∙ ap (λ k. cond (bytes_eq key k) (Some s) (cond (bytes_eq key n.name) (Some n.standing) (standing_of key names)))
        (sym (same_key new n.name e))
    go false e later = ap (λ o. cond (bytes_eq key n.name) (Some n.standing) o) later
        ∙ cond-swap (bytes_eq key n.name) (bytes_eq key new) (Some n.standing) (Some s) (standing_of key names)
        (λ a b. let same : new ≡ n.name = sym (same_key key new b) ∙ same_key key n.name a in
        let never : true ≡ false = sym (key_same new n.name same) ∙ e in cc)

-- the language has a name in any case
system_same : (debugging : Bool) (a b : List ℕ) → folded a ≡ folded b → system_meaning debugging a ≡ system_meaning debugging b
system_same debugging a b e = ap (λ k. meaning_if debugging (find (λ known. bytes_eq k (folded (name_of known))) system_names)) e

found_same : (a b : List ℕ) (t : Table Place) → folded a ≡ folded b → found_in a t ≡ found_in b t
found_same a b t e = ap (λ m. found_as m (standing_of (folded a) t.names)) (system_same t.is_debugging a b e)
    ∙ ap (λ k. found_as (system_meaning t.is_debugging b) (standing_of k t.names)) e

-- the finding of a name after a declaration and after a use, of this name or another
abbrev behind_declared : Bool → Meaning → Place → Found Place → Found Place
behind_declared same m place (Found.System x) = Found.System x
behind_declared same m place (Found.Declared x first) = Found.Declared x first
behind_declared same m place Found.Used = cond same (Found.Declared m place) Found.Used
behind_declared same m place Found.Unknown = cond same (Found.Declared m place) Found.Unknown

abbrev behind_used : Bool → Found Place → Found Place
behind_used same (Found.System x) = Found.System x
behind_used same (Found.Declared x first) = Found.Declared x first
behind_used same Found.Used = Found.Used
behind_used same Found.Unknown = cond same Found.Used Found.Unknown

abbrev behind_event : List ℕ → Event → Found Place → Found Place
behind_event name (Declares other m place) f = behind_declared (bytes_eq (folded name) (folded other)) m place f
behind_event name (Uses other place) f = behind_used (bytes_eq (folded name) (folded other)) f

other_declared : (m : Meaning) (place : Place) (f : Found Place) → behind_declared false m place f ≡ f
other_declared m place (Found.System x) = refl
other_declared m place other = refl

other_used : (f : Found Place) → behind_used false f ≡ f
other_used (Found.System x) = refl
other_used other = refl

-- the state of one name leaves the finding of another as it is
found-other : (name other : List ℕ) (s : Standing Place) (t : Table Place) → bytes_eq (folded name) (folded other) ≡ false →
    found_as (system_meaning t.is_debugging name) (standing_of (folded name) (put (folded other) s t.names)) ≡ found_in name t
found-other name other s t e = ap (found_as (system_meaning t.is_debugging name))
    (standing_of-put (folded name) (folded other) s t.names ∙ ap (λ b. cond b (Some s) (standing_of (folded name) t.names)) e)

found-put : (name other : List ℕ) (s : Standing Place) (t : Table Place) → bytes_eq (folded name) (folded other) ≡ true → found_as
    (system_meaning t.is_debugging name) (standing_of (folded name) (put (folded other) s t.names)) ≡ found_as
    (system_meaning t.is_debugging name) (Some s)
found-put name other s t e = ap (found_as (system_meaning t.is_debugging name))
    (standing_of-put (folded name) (folded other) s t.names ∙ ap (λ b. cond b (Some s) (standing_of (folded name) t.names)) e)

declared_behind : (limits : Limits) (name other : List ℕ) (m : Meaning) (place : Place) (t : Table Place) →
    is_too_many limits (Declares other m place) t ≡ false →
    found_in name (with_event limits (Declares other m place) t) ≡ behind_event name (Declares other m place) (found_in name t)
declared_behind limits name other m place t room = go (bytes_eq (folded name) (folded other)) refl
  where
    new : Standing Place
    new = IsDeclared t.declared m place

    apart : (b : Bool) → bytes_eq (folded name) (folded other) ≡ false →
        found_in name (cond b t (with_declared other place m t)) ≡ found_in name t
    apart true e = refl
    apart false e = found-other name other new t e

    same : (f : Found Place) (full : Bool) → found_in name t ≡ f → bytes_eq (folded name) (folded other) ≡ true →
        is_full_fault (declare_fault_by f full) ≡ false →
        found_in name (cond (is_some (declare_fault_by f full)) t (with_declared other place m t)) ≡ behind_declared true m place f
    same (Found.System x) full is e room = is
    same (Found.Declared x first) full is e room = is
    same Found.Used full is e room = found-put name other new t e
    same Found.Unknown true is e room = cc
    same Found.Unknown false is e room = found-put name other new t e

    go : (b : Bool) → bytes_eq (folded name) (folded other) ≡ b →
        found_in name (with_event limits (Declares other m place) t) ≡ behind_declared b m place (found_in name t)
    go false e = apart (is_some (declare_fault limits other t)) e ∙ sym (other_declared m place (found_in name t))
    go true e =
        let alike = found_same name other t (same_key (folded name) (folded other) e) in
        same (found_in other t) (is_full limits t) alike e room ∙ ap (behind_declared true m place) (sym alike)

used_behind : (limits : Limits) (name other : List ℕ) (place : Place) (t : Table Place) → is_too_many limits (Uses other place) t ≡ false →
    found_in name (with_event limits (Uses other place) t) ≡ behind_event name (Uses other place) (found_in name t)
used_behind limits name other place t room = go (bytes_eq (folded name) (folded other)) refl
  where
    new : Standing Place
    new = IsUsed other place

    apart : (b : Bool) (f : Found Place) → bytes_eq (folded name) (folded other) ≡ false →
        found_in name (cond b t (with_used_by f other place t)) ≡ found_in name t
    apart true f e = refl
    apart false (Found.System x) e = refl
    apart false (Found.Declared x first) e = refl
    apart false Found.Used e = refl
    apart false Found.Unknown e = found-other name other new t e

    same : (f : Found Place) (full : Bool) → found_in name t ≡ f → bytes_eq (folded name) (folded other) ≡ true →
        is_some (refer_fault_by f full) ≡ false →
        found_in name (cond (is_some (refer_fault_by f full)) t (with_used_by f other place t)) ≡ behind_used true f
    same Found.Unknown true is e room = cc
    same Found.Unknown false is e room = found-put name other new t e
    same other full is e room = is

    go : (b : Bool) → bytes_eq (folded name) (folded other) ≡ b →
        found_in name (with_event limits (Uses other place) t) ≡ behind_used b (found_in name t)
    go false e = apart (is_some (refer_fault limits other t)) (found_in other t) e ∙ sym (other_used (found_in name t))
    go true e =
        let alike = found_same name other t (same_key (folded name) (folded other) e) in
        same (found_in other t) (is_full limits t) alike e room ∙ ap (behind_used true) (sym alike)

found_behind : (limits : Limits) (name : List ℕ) (e : Event) (t : Table Place) → is_too_many limits e t ≡ false →
    found_in name (with_event limits e t) ≡ behind_event name e (found_in name t)
found_behind limits name (Declares other m place) t room = declared_behind limits name other m place t room
found_behind limits name (Uses other place) t room = used_behind limits name other place t room

-- Lemmas about the finding of a name after some events

-- The names are those of these events.
abbrev AreOf : Bool → List Event → Table Place → Type 0
AreOf debugging before t =
    (name : List ℕ) → found_in name t ≡ stands_for (system_meaning debugging name) (first_declaration name before)
    (list_any (uses name) before)

any-append : (test : Event → Bool) (before more : List Event) →
    list_any test (before ++ more) ≡ (list_any test before || list_any test more)
any-append test [] more = refl
any-append test (e ∷ before) more =
    ap (λ b. test e || b) (any-append test before more) ∙ or-assoc (test e) (list_any test before) (list_any test more)

first-append : (name : List ℕ) (before more : List Event) →
    first_declaration name (before ++ more) ≡ either (first_declaration name before) (first_declaration name more)
first-append name [] more = refl
first-append name (Uses other place ∷ before) more = first-append name before more
first-append name (Declares other m place ∷ before) more = go (bytes_eq (folded name) (folded other)) (first-append name before more)
  where
    go : (b : Bool) → first_declaration name (before ++ more) ≡ either (first_declaration name before) (first_declaration name more) → cond
        b (Some (m, place)) (first_declaration name (before ++ more)) ≡ either (cond b (Some (m, place)) (first_declaration name before))
        (first_declaration name more)
    go true later = refl
    go false later = later

-- the finding of a name after one event more
stands_behind : (name : List ℕ) (e : Event) (system : Option Meaning) (first : Option (Meaning × Place)) (is_used : Bool) → behind_event
    name e (stands_for system first is_used) ≡ stands_for system (either first (first_declaration name (e ∷ [])))
    (is_used || list_any (uses name) (e ∷ []))
stands_behind name (Declares other m place) system first is_used = go system first is_used (bytes_eq (folded name) (folded other))
  where
    go : (system : Option Meaning) (first : Option (Meaning × Place)) (is_used same : Bool) → behind_declared same m place
        (stands_for system first is_used) ≡ stands_for system (either first (cond same (Some (m, place)) None)) (is_used || false)
    go (Some x) first is_used same = refl
    go None (Some d) is_used same = refl
    go None None true true = refl
    go None None true false = refl
    go None None false true = refl
    go None None false false = refl
stands_behind name (Uses other place) system first is_used = go system first is_used (bytes_eq (folded name) (folded other))
  where
    go : (system : Option Meaning) (first : Option (Meaning × Place)) (is_used same : Bool) →
        behind_used same (stands_for system first is_used) ≡ stands_for system (either first None) (is_used || (same || false))
    go (Some x) first is_used same = refl
    go None (Some d) is_used same = refl
    go None None true same = refl
    go None None false true = refl
    go None None false false = refl

are_of-event : (limits : Limits) (debugging : Bool) (e : Event) (before : List Event) (t : Table Place) → is_too_many limits e t ≡ false →
    AreOf debugging before t →
    AreOf debugging (before ++ e ∷ []) (with_event limits e t)
are_of-event limits debugging e before t room of name =
    let system = system_meaning debugging name in
    found_behind limits name e t room
    ∙ ap (behind_event name e) (of name)
    ∙ stands_behind name e system (first_declaration name before) (list_any (uses name) before)
    ∙ ap (λ d. stands_for system d (list_any (uses name) before || list_any (uses name) (e ∷ []))) (sym (first-append name before (e ∷ [])))
    ∙ ap (stands_for system (first_declaration name (before ++ e ∷ []))) (sym (any-append (uses name) before (e ∷ [])))

are_of-events : (limits : Limits) (debugging : Bool) (events before : List Event) (t : Table Place) → HaveRoom limits events t →
    AreOf debugging before t →
    AreOf debugging (before ++ events) (with_events limits events t)
are_of-events limits debugging [] before t room of = subst (λ es. AreOf debugging es t) (sym (append-nil before)) of
are_of-events limits debugging (e ∷ events) before t room of =
    subst (λ es. AreOf debugging es (with_events limits events (with_event limits e t))) (append_assoc before (e ∷ []) events)
    (are_of-events limits debugging events (before ++ e ∷ []) (with_event limits e t) room.1
    (are_of-event limits debugging e before t room.0 of))

nothing_known : (debugging : Bool) → AreOf debugging [] (no_names debugging)
nothing_known debugging name = go (system_meaning debugging name)
  where
    go : (system : Option Meaning) → found_as system None ≡ stands_for system None false
    go None = refl
    go (Some m) = refl

pub first_declarations_count : (limits : Limits) → FirstDeclarationsCount limits
first_declarations_count limits debugging events name room =
    are_of-events limits debugging events [] (no_names debugging) room (nothing_known debugging) name

-- Lemmas about undeclared names

-- the uses that the states of names are
abbrev use_in : Standing Place → List Use
use_in (IsDeclared number m place) = []
use_in (IsUsed spelling place) = record { name = spelling; place = place } ∷ []

abbrev use_at : Option (Standing Place) → List Use
use_at None = []
use_at (Some s) = use_in s

abbrev used_of : List (Named Place) → List Use
used_of [] = []
used_of (n ∷ names) = use_in n.standing ++ used_of names

told : (files : FileNames) (names : List (Named Place)) (r : Reported) →
    with_all_undeclared files names r ≡ with_uses_told files (used_of names) r
told files [] r = refl
told files (n ∷ names) r = go n.standing (told files names)
  where
    go : (s : Standing Place) → ((r : Reported) → with_all_undeclared files names r ≡ with_uses_told files (used_of names) r) →
        with_all_undeclared files names (with_undeclared files s r) ≡ with_uses_told files (use_in s ++ used_of names) r
    go (IsDeclared number m place) later = later r
    go (IsUsed spelling place) later = later (with_error (location files place) (location files place) (Undeclared spelling) r)

abbrev has : List ℕ → List (Named Place) → Bool
has key names = list_any (λ n. bytes_eq key n.name) names

-- a used name is kept under its spelling without case
abbrev IsKeyed : List ℕ → Standing Place → Type 0
IsKeyed key (IsDeclared number m place) = Unit {0}
IsKeyed key (IsUsed spelling place) = folded spelling ≡ key

-- each name is in the list once
abbrev Sound : List (Named Place) → Type 0
Sound [] = Unit {0}
Sound (n ∷ names) = (has n.name names ≡ false) × IsKeyed n.name n.standing × Sound names

has-put : (key new : List ℕ) (s : Standing Place) (names : List (Named Place)) →
    has key (put new s names) ≡ (has key names || bytes_eq key new)
has-put key new s [] = or-false (bytes_eq key new)
has-put key new s (n ∷ names) = go (bytes_eq new n.name) refl (has-put key new s names)
  where
    go : (t : Bool) → bytes_eq new n.name ≡ t → has key (put new s names) ≡ (has key names || bytes_eq key new) → has key
        (cond t (record { name = n.name; standing = s } ∷ names) (n ∷ put new s names)) ≡
        ((bytes_eq key n.name || has key names) || bytes_eq key new)
    go true e later = or-known (bytes_eq key n.name || has key names) (bytes_eq key new)
        (λ is. or_left (bytes_eq key n.name) (has key names) (key_same key n.name (same_key key new is ∙ same_key new n.name e)))
    go false e later = ap (λ b. bytes_eq key n.name || b) later ∙ or-assoc (bytes_eq key n.name) (has key names) (bytes_eq key new)

sound-put : (new : List ℕ) (s : Standing Place) (names : List (Named Place)) → IsKeyed new s → Sound names → Sound (put new s names)
sound-put new s [] keyed sound = (refl, keyed, tt)
sound-put new s (n ∷ names) keyed sound = go (bytes_eq new n.name) refl (sound-put new s names keyed sound.2)
  where
    go : (t : Bool) → bytes_eq new n.name ≡ t → Sound (put new s names) →
        Sound (cond t (record { name = n.name; standing = s } ∷ names) (n ∷ put new s names))
    go true e later = (sound.0, subst (λ k. IsKeyed k s) (same_key new n.name e) keyed, sound.2)
    go false e later = (
      has-put n.name new s names ∙ or_from (has n.name names) (bytes_eq n.name new) sound.0 (bytes_eq-sym n.name new ∙ e),
      sound.1,
      later,
    )

sound-event : (limits : Limits) (e : Event) (t : Table Place) → Sound t.names → Sound (with_event limits e t).names
sound-event limits (Declares name m place) t sound = go (is_some (declare_fault limits name t))
  where
    go : (b : Bool) → Sound (cond b t (with_declared name place m t)).names
    go true = sound
    go false = sound-put (folded name) (IsDeclared t.declared m place) t.names tt sound
sound-event limits (Uses name place) t sound = go (is_some (refer_fault limits name t)) (found_in name t)
  where
    go : (b : Bool) (f : Found Place) → Sound (cond b t (with_used_by f name place t)).names
    go true f = sound
    go false (Found.System m) = sound
    go false (Found.Declared m first) = sound
    go false Found.Used = sound
    go false Found.Unknown = sound-put (folded name) (IsUsed name place) t.names refl sound

-- the uses of other names
abbrev others : List ℕ → List Use → List Use
others key us = filter (λ u. not (bytes_eq (folded u.name) key)) us

-- one use more in front, of another name
others-split : (key name : List ℕ) (s : Standing Place) (us : List Use) → IsKeyed name s → bytes_eq key name ≡ false →
    others key (use_in s ++ us) ≡ use_in s ++ others key us
others-split key name (IsDeclared number m place) us keyed other = refl
others-split key name (IsUsed spelling place) us keyed other =
    ap (λ k. cond (not (bytes_eq k key)) (record { name = spelling; place = place } ∷ others key us) (others key us)) keyed
    ∙ ap (λ b. cond (not b) (record { name = spelling; place = place } ∷ others key us) (others key us)) (bytes_eq-sym name key ∙ other)

-- one use more in front, of this name
others-drop : (key name : List ℕ) (s : Standing Place) (us : List Use) → IsKeyed name s → bytes_eq key name ≡ true →
    others key (use_in s ++ us) ≡ others key us
others-drop key name (IsDeclared number m place) us keyed same = refl
others-drop key name (IsUsed spelling place) us keyed same =
    ap (λ k. cond (not (bytes_eq k key)) (record { name = spelling; place = place } ∷ others key us) (others key us)) keyed
    ∙ ap (λ b. cond (not b) (record { name = spelling; place = place } ∷ others key us) (others key us)) (bytes_eq-sym name key ∙ same)

others-absent : (key : List ℕ) (names : List (Named Place)) → Sound names → has key names ≡ false →
    others key (used_of names) ≡ used_of names
others-absent key [] sound is = refl
others-absent key (n ∷ names) sound is =
    let parts = or_parts (bytes_eq key n.name) (has key names) is in
    others-split key n.name n.standing (used_of names) sound.1 parts.0
    ∙ ap (λ u. use_in n.standing ++ u) (others-absent key names sound.2 parts.1)

-- where a name is the first of a list, it is none of the other names
others-behind : (key : List ℕ) (n : Named Place) (names : List (Named Place)) → Sound (n ∷ names) → bytes_eq key n.name ≡ true →
    others key (used_of names) ≡ used_of names
others-behind key n names sound same = others-absent key names sound.2 (ap (λ k. has k names) (same_key key n.name same) ∙ sound.0)

-- a name that is no use is none of the uses
used_of-known : (key : List ℕ) (names : List (Named Place)) → Sound names → use_at (standing_of key names) ≡ [] →
    used_of names ≡ others key (used_of names)
used_of-known key [] sound is = refl
used_of-known key (n ∷ names) sound is = go (bytes_eq key n.name) refl is (used_of-known key names sound.2)
  where
    go : (t : Bool) → bytes_eq key n.name ≡ t → use_at (cond t (Some n.standing) (standing_of key names)) ≡ [] →
        (use_at (standing_of key names) ≡ [] → used_of names ≡ others key (used_of names)) →
        use_in n.standing ++ used_of names ≡ others key (use_in n.standing ++ used_of names)
    go true e is later = ap (λ u. u ++ used_of names) is ∙ sym (others-behind key n names sound e)
        ∙ sym (others-drop key n.name n.standing (used_of names) sound.1 e)
    go false e is later = ap (λ u. use_in n.standing ++ u) (later is) ∙ sym (others-split key n.name n.standing (used_of names) sound.1 e)

used_of-declared : (key : List ℕ) (number : ℕ) (m : Meaning) (place : Place) (names : List (Named Place)) → Sound names →
    used_of (put key (IsDeclared number m place) names) ≡ others key (used_of names)
used_of-declared key number m place [] sound = refl
used_of-declared key number m place (n ∷ names) sound = go (bytes_eq key n.name) refl (used_of-declared key number m place names sound.2)
  where
    go : (t : Bool) → bytes_eq key n.name ≡ t → used_of (put key (IsDeclared number m place) names) ≡ others key (used_of names) → used_of
        (cond t (record { name = n.name; standing = IsDeclared number m place } ∷ names) (n ∷ put key (IsDeclared number m place) names)) ≡
        others key (use_in n.standing ++ used_of names)
    go true e later = sym (others-behind key n names sound e) ∙ sym (others-drop key n.name n.standing (used_of names) sound.1 e)
    go false e later = ap (λ u. use_in n.standing ++ u) later ∙ sym (others-split key n.name n.standing (used_of names) sound.1 e)

used_of-declaring : (limits : Limits) (name : List ℕ) (m : Meaning) (place : Place) (t : Table Place) → Sound t.names →
    used_of (with_event limits (Declares name m place) t).names ≡ others (folded name) (used_of t.names)
used_of-declaring limits name m place t sound =
    go (system_meaning t.is_debugging name) (standing_of (folded name) t.names) (is_full limits t) refl
  where
    declared : used_of (with_declared name place m t).names ≡ others (folded name) (used_of t.names)
    declared = used_of-declared (folded name) t.declared m place t.names sound

    none : (s : Option (Standing Place)) → standing_of (folded name) t.names ≡ s → use_at s ≡ [] →
        used_of t.names ≡ others (folded name) (used_of t.names)
    none s is no_use = used_of-known (folded name) t.names sound (ap use_at is ∙ no_use)

    go : (system : Option Meaning) (s : Option (Standing Place)) (full : Bool) → standing_of (folded name) t.names ≡ s → used_of
        (cond (is_some (declare_fault_by (found_as system s) full)) t (with_declared name place m t)).names ≡ others (folded name)
        (used_of t.names)
    go system (Some (IsDeclared number x first)) full is = none (Some (IsDeclared number x first)) is refl
    go system (Some (IsUsed spelling first)) full is = declared
    go (Some x) None full is = none None is refl
    go None None true is = none None is refl
    go None None false is = declared

-- the uses where a name is put behind all others
used_of-put : (key : List ℕ) (s : Standing Place) (names : List (Named Place)) → is_some (standing_of key names) ≡ false →
    used_of (put key s names) ≡ used_of names ++ use_in s
used_of-put key s [] is = append-nil (use_in s)
used_of-put key s (n ∷ names) is = go (bytes_eq key n.name) is (used_of-put key s names)
  where
    go : (t : Bool) → is_some (cond t (Some n.standing) (standing_of key names)) ≡ false →
        (is_some (standing_of key names) ≡ false → used_of (put key s names) ≡ used_of names ++ use_in s) → used_of
        (cond t (record { name = n.name; standing = s } ∷ names) (n ∷ put key s names)) ≡ (use_in n.standing ++ used_of names) ++ use_in s
    go true is later = cc
    go false is later = ap (λ u. use_in n.standing ++ u) (later is) ∙ sym (append_assoc (use_in n.standing) (used_of names) (use_in s))

abbrev is_unknown : Found Place → Bool
is_unknown Found.Unknown = true
is_unknown _ = false

abbrev one_use : List ℕ → Place → List Use
one_use name place = record { name = name; place = place } ∷ []

used_of-using : (limits : Limits) (name : List ℕ) (place : Place) (t : Table Place) → is_too_many limits (Uses name place) t ≡ false →
    used_of (with_event limits (Uses name place) t).names ≡ used_of t.names ++ cond (is_unknown (found_in name t)) (one_use name place) []
used_of-using limits name place t room =
    go (system_meaning t.is_debugging name) (standing_of (folded name) t.names) (is_full limits t) refl room
  where
    as_it_was : used_of t.names ≡ used_of t.names ++ []
    as_it_was = sym (append-nil (used_of t.names))

    go : (system : Option Meaning) (s : Option (Standing Place)) (full : Bool) → standing_of (folded name) t.names ≡ s → is_some
        (refer_fault_by (found_as system s) full) ≡ false → used_of
        (cond (is_some (refer_fault_by (found_as system s) full)) t (with_used_by (found_as system s) name place t)).names ≡ used_of t.names
        ++ cond (is_unknown (found_as system s)) (one_use name place) []
    go system (Some (IsDeclared number m first)) full is room = as_it_was
    go system (Some (IsUsed spelling first)) full is room = as_it_was
    go (Some m) None full is room = as_it_was
    go None None true is room = cc
    go None None false is room = used_of-put (folded name) (IsUsed name place) t.names (ap is_some is)

-- the uses that are left, since none of these events declares them
abbrev left : List Event → List Use → List Use
left events us = filter (λ u. not (list_any (declares u.name) events)) us

all_left : (us : List Use) → left [] us ≡ us
all_left [] = refl
all_left (u ∷ us) = ap (λ rest. u ∷ rest) (all_left us)

left-others : (name : List ℕ) (m : Meaning) (place : Place) (events : List Event) (us : List Use) →
    left events (others (folded name) us) ≡ left (Declares name m place ∷ events) us
left-others name m place events [] = refl
left-others name m place events (u ∷ us) = go (bytes_eq (folded u.name) (folded name)) (left-others name m place events us)
  where
    go : (t : Bool) → left events (others (folded name) us) ≡ left (Declares name m place ∷ events) us → left events
        (cond (not t) (u ∷ others (folded name) us) (others (folded name) us)) ≡ cond (not (t || list_any (declares u.name) events))
        (u ∷ left (Declares name m place ∷ events) us) (left (Declares name m place ∷ events) us)
    go true later = later
    go false later = ap (λ rest. cond (not (list_any (declares u.name) events)) (u ∷ rest) rest) later

-- the use that an event is, where its name is new and none of the later events declares it
abbrev fresh_use : Table Place → List Event → Event → List Use
fresh_use t events (Declares name m place) = []
fresh_use t events (Uses name place) = left events (cond (is_unknown (found_in name t)) (one_use name place) [])

abbrev fresh : Limits → Table Place → List Event → List Use
fresh limits t [] = []
fresh limits t (e ∷ events) = fresh_use t events e ++ fresh limits (with_event limits e t) events

left-fresh : (limits : Limits) (e : Event) (events : List Event) (t : Table Place) → is_too_many limits e t ≡ false → Sound t.names →
    left events (used_of (with_event limits e t).names) ≡ left (e ∷ events) (used_of t.names) ++ fresh_use t events e
left-fresh limits (Declares name m place) events t room sound = ap (left events) (used_of-declaring limits name m place t sound)
    ∙ left-others name m place events (used_of t.names)
    ∙ sym (append-nil (left (Declares name m place ∷ events) (used_of t.names)))
left-fresh limits (Uses name place) events t room sound = ap (left events) (used_of-using limits name place t room)
    ∙ filter-append (λ u. not (list_any (declares u.name) events)) (used_of t.names)
    (cond (is_unknown (found_in name t)) (one_use name place) [])

used_then : (limits : Limits) (events : List Event) (t : Table Place) → HaveRoom limits events t → Sound t.names →
    used_of (with_events limits events t).names ≡ left events (used_of t.names) ++ fresh limits t events
used_then limits [] t room sound = sym (append-nil (left [] (used_of t.names)) ∙ all_left (used_of t.names))
used_then limits (e ∷ events) t room sound = used_then limits events (with_event limits e t) room.1 (sound-event limits e t sound)
    ∙ ap (λ u. u ++ fresh limits (with_event limits e t) events) (left-fresh limits e events t room.0 sound)
    ∙ append_assoc (left (e ∷ events) (used_of t.names)) (fresh_use t events e) (fresh limits (with_event limits e t) events)

-- some event declares a name where there is a first declaration
first_declared : (name : List ℕ) (events : List Event) → is_some (first_declaration name events) ≡ list_any (declares name) events
first_declared name [] = refl
first_declared name (Uses other place ∷ events) = first_declared name events
first_declared name (Declares other m place ∷ events) = go (bytes_eq (folded name) (folded other)) (first_declared name events)
  where
    go : (b : Bool) → is_some (first_declaration name events) ≡ list_any (declares name) events →
        is_some (cond b (Some (m, place)) (first_declaration name events)) ≡ (b || list_any (declares name) events)
    go true later = refl
    go false later = later

fresh-is_undeclared : (debugging : Bool) (e : Event) (before events : List Event) (t : Table Place) → AreOf debugging before t →
    fresh_use t events e ≡ undeclared_use debugging (before ++ e ∷ events) before e
fresh-is_undeclared debugging (Declares name m place) before events t of = refl
fresh-is_undeclared debugging (Uses name place) before events t of =
    let system = system_meaning debugging name in
    ap (λ f. left events (cond (is_unknown f) (one_use name place) [])) (of name)
    ∙ go system (first_declaration name before) (list_any (uses name) before) (list_any (declares name) events) refl
    ∙ ap (λ b. cond (is_some system) [] (cond ((b || list_any (declares name) events) || list_any (uses name) before) []
    (one_use name place))) (first_declared name before)
    ∙ ap (λ b. cond (is_some system) [] (cond (b || list_any (uses name) before) [] (one_use name place)))
    (sym (any-append (declares name) before (Uses name place ∷ events)))
  where
    go : (system : Option Meaning) (first : Option (Meaning × Place)) (is_used later : Bool) → list_any (declares name) events ≡ later
        → left events (cond (is_unknown (stands_for system first is_used)) (one_use name place) []) ≡ cond (is_some system) []
        (cond ((is_some first || later) || is_used) [] (one_use name place))
    go (Some m) first is_used later e = refl
    go None (Some d) is_used later e = refl
    go None None true true e = refl
    go None None true false e = refl
    go None None false true e = ap (λ b. cond (not b) (one_use name place) []) e
    go None None false false e = ap (λ b. cond (not b) (one_use name place) []) e

fresh_are_undeclared : (limits : Limits) (debugging : Bool) (events before : List Event) (t : Table Place) → HaveRoom limits events t →
    AreOf debugging before t →
    fresh limits t events ≡ undeclared_uses debugging (before ++ events) before events
fresh_are_undeclared limits debugging [] before t room of = refl
fresh_are_undeclared limits debugging (e ∷ events) before t room of =
    ap (λ u. u ++ fresh limits (with_event limits e t) events) (fresh-is_undeclared debugging e before events t of)
    ∙ ap (λ u. undeclared_use debugging (before ++ e ∷ events) before e ++ u)
    (fresh_are_undeclared limits debugging events (before ++ e ∷ []) (with_event limits e t) room.1
    (are_of-event limits debugging e before t room.0 of)
    ∙ ap (λ all. undeclared_uses debugging all (before ++ e ∷ []) events) (append_assoc before (e ∷ []) events))

pub undeclared_are_told : (limits : Limits) → UndeclaredAreTold limits
undeclared_are_told limits files debugging events r room =
    let begun : Table Place = no_names debugging in
    told files (with_events limits events begun).names r
    ∙ ap (λ us. with_uses_told files us r) (used_then limits events begun room tt ∙ fresh_are_undeclared limits debugging events [] begun
    room
    (nothing_known debugging))
