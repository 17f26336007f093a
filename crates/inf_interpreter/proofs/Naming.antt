-- Which operand a supplied routine is called by, while names are added.
use Rattle.std.proofs.Common.{◌≡◌, ℕ, List, [], ◌∷◌, Option, Some, None, Bool, true, false, refl, ◌∙◌, ap, sym, ◌+◌, if◌then◌else◌}
use Rattle.std.proofs.Common.{bytes_eq}
use Rattle.std.proofs.lemmas.Slice.Eq.{bytes_eq-Decides}
use Rattle.inf_settings.specs.Bounds.{Limits}
use Rattle.inf_area.specs.declared.targets.Target.{Target}
use Rattle.inf_scanner.specs.declared.tokens.Place.{Place}
use Rattle.inf_names.specs.{declared.meanings.Meaning.Meaning, declared.symbols.Found.Found, declared.symbols.ReferFault.ReferFault}
use Rattle.inf_names.specs.Symbols.{IsUsed, IsDeclared, Named, Standing, Table, folded, found_as, found_in, index_of, is_full, number_by}
use Rattle.inf_names.specs.Symbols.{put, refer_fault, refer_fault_by, standing_of, with_used, with_used_by}
use Rattle.inf_names.specs.SystemNames.{system_meaning, system_names}
use Rattle.inf_output.specs.{Veneer.name_of, declared.operands.Simple.Simple, declared.veneer.Veneer.Veneer}
use Rattle.inf_output.specs.Output.{Out, found_simple, past_of, routine, routine_by, used, used_by}
use Rattle.inf_interpreter.specs.{Machine.World, Supplied.NamesStay, Supplied.Supplies, Supplied.named_operand, Supplied.operand_of}

missing : {A B : Type 0} {a : A} → Some a ≡ None → B
missing e = absurd (cc e)

absent : {A B : Type 0} {a : A} → None ≡ Some a → B
absent e = absurd (cc e)

-- A name is put into a list of names.

put_found : (key : List ℕ) (u : Standing Place) (names : List (Named Place)) → standing_of key (put key u names) ≡ Some u
put_found key u [] = ap (λ b. if b then Some u else None) ((bytes_eq-Decides key key).1 refl)
put_found key u (n ∷ names) = go (bytes_eq key n.name) refl (put_found key u names)
  where
    go : (b : Bool) → bytes_eq key n.name ≡ b → standing_of key (put key u names) ≡ Some u →
        standing_of key (put key u (n ∷ names)) ≡ Some u
    go true e later = ap (λ b. standing_of key (if b then record { name = n.name; standing = u } ∷ names else n ∷ put key u names)) e
        ∙ ap (λ b. if b then Some u else standing_of key names) e
    go false e later = ap (λ b. standing_of key (if b then record { name = n.name; standing = u } ∷ names else n ∷ put key u names)) e
        ∙ ap (λ b. if b then Some n.standing else standing_of key (put key u names)) e ∙ later

put_index : (key : List ℕ) (u : Standing Place) (names : List (Named Place)) → index_of key (put key u names) ≡ index_of key names
put_index key u [] = ap (λ b. if b then 0 else 0 + 1) ((bytes_eq-Decides key key).1 refl)
put_index key u (n ∷ names) = go (bytes_eq key n.name) refl (put_index key u names)
  where
    go : (b : Bool) → bytes_eq key n.name ≡ b → index_of key (put key u names) ≡ index_of key names →
        index_of key (put key u (n ∷ names)) ≡ index_of key (n ∷ names)
    go true e later = ap (λ b. index_of key (if b then record { name = n.name; standing = u } ∷ names else n ∷ put key u names)) e
    go false e later = ap (λ b. index_of key (if b then record { name = n.name; standing = u } ∷ names else n ∷ put key u names)) e
        ∙ ap (λ k. if bytes_eq key n.name then 0 else k + 1) later

-- Another name that is known stays as it is, where the one that is put was not known.
kept_standing : (key other : List ℕ) (u x : Standing Place) (names : List (Named Place)) → standing_of key names ≡ None →
    standing_of other names ≡ Some x → standing_of other (put key u names) ≡ Some x
kept_standing key other u x [] none some = absent some
kept_standing key other u x (n ∷ names) none some = first (bytes_eq key n.name) refl (kept_standing key other u x names)
  where
    second : (b : Bool) → standing_of key names ≡ None → (if b then Some n.standing else standing_of other names) ≡ Some x →
        (standing_of key names ≡ None → standing_of other names ≡ Some x → standing_of other (put key u names) ≡ Some x) →
        (if b then Some n.standing else standing_of other (put key u names)) ≡ Some x
    second true none e later = e
    second false none e later = later none e

    first : (b : Bool) → bytes_eq key n.name ≡ b →
        (standing_of key names ≡ None → standing_of other names ≡ Some x → standing_of other (put key u names) ≡ Some x) →
        standing_of other (put key u (n ∷ names)) ≡ Some x
    first true e later = missing (sym (ap (λ b. if b then Some n.standing else standing_of key names) e) ∙ none)
    first false e later = ap (λ b. standing_of other (if b then record { name = n.name; standing = u } ∷ names else n ∷ put key u names)) e
        ∙ second (bytes_eq other n.name) (sym (ap (λ b. if b then Some n.standing else standing_of key names) e) ∙ none) some later

kept_index : (key other : List ℕ) (u x : Standing Place) (names : List (Named Place)) → standing_of key names ≡ None →
    standing_of other names ≡ Some x → index_of other (put key u names) ≡ index_of other names
kept_index key other u x [] none some = absent some
kept_index key other u x (n ∷ names) none some = first (bytes_eq key n.name) refl (kept_index key other u x names)
  where
    second : (b : Bool) → standing_of key names ≡ None → (if b then Some n.standing else standing_of other names) ≡ Some x →
        (standing_of key names ≡ None → standing_of other names ≡ Some x → index_of other (put key u names) ≡ index_of other names) →
        (if b then 0 else index_of other (put key u names) + 1) ≡ (if b then 0 else index_of other names + 1)
    second true none e later = refl
    second false none e later = ap (λ k. k + 1) (later none e)

    first : (b : Bool) → bytes_eq key n.name ≡ b →
        (standing_of key names ≡ None → standing_of other names ≡ Some x → index_of other (put key u names) ≡ index_of other names) →
        index_of other (put key u (n ∷ names)) ≡ index_of other (n ∷ names)
    first true e later = missing (sym (ap (λ b. if b then Some n.standing else standing_of key names) e) ∙ none)
    first false e later = ap (λ b. index_of other (if b then record { name = n.name; standing = u } ∷ names else n ∷ put key u names)) e
        ∙ second (bytes_eq other n.name) (sym (ap (λ b. if b then Some n.standing else standing_of key names) e) ∙ none) some later

-- The language has none of these names.
no_system : (debugging : Bool) (v : Veneer) → system_meaning debugging (name_of v) ≡ None
unfolding system_names
no_system debugging Veneer.ReadProperty = refl
no_system debugging other = refl

-- the answer of a name's look-up, by its standing
abbrev seen : Option (Standing Place) → Found Place
seen st = found_as None st

seen_is : (v : Veneer) (o : Out) (st : Option (Standing Place)) → standing_of (folded (name_of v)) o.names.names ≡ st →
    found_in (name_of v) o.names ≡ seen st
seen_is v o st e = ap (λ m. found_as m (standing_of (folded (name_of v)) o.names.names)) (no_system o.names.is_debugging v) ∙ ap seen e

-- the output after a name is used, by the answer of its look-up
abbrev used_as : Limits → Veneer → Found Place → Option ReferFault → Out → Out
used_as limits v f None o = record o { names = with_used_by f (name_of v) o.first o.names }
used_as limits v f (Some fault) o = record o { past = Some (record (past_of limits o) { symbols = true }) }

by_used_as : (limits : Limits) (v : Veneer) (fault : Option ReferFault) (o : Out) →
    used_by limits fault (name_of v) o ≡ used_as limits v (found_in (name_of v) o.names) fault o
by_used_as limits v None o = refl
by_used_as limits v (Some fault) o = refl

used_is : (limits : Limits) (v : Veneer) (o : Out) (f : Found Place) → found_in (name_of v) o.names ≡ f →
    used limits v o ≡ used_as limits v f (refer_fault_by f (is_full limits o.names)) o
unfolding used
used_is limits v o f e = by_used_as limits v (refer_fault limits (name_of v) o.names) o
    ∙ ap (λ g. used_as limits v g (refer_fault_by g (is_full limits o.names)) o) e

abbrev called_as : Veneer → Found Place → Option ReferFault → Out → Simple
called_as v f None o = found_simple f (number_by f (name_of v) o.names)
called_as v f (Some fault) o = Simple.Later (Target.Name 0)

by_called_as : (v : Veneer) (fault : Option ReferFault) (o : Out) →
    routine_by fault (name_of v) o.names ≡ called_as v (found_in (name_of v) o.names) fault o
by_called_as v None o = refl
by_called_as v (Some fault) o = refl

routine_is : (limits : Limits) (v : Veneer) (o : Out) (f : Found Place) → found_in (name_of v) o.names ≡ f →
    routine limits v o ≡ called_as v f (refer_fault_by f (is_full limits o.names)) o
unfolding routine
routine_is limits v o f e = by_called_as v (refer_fault limits (name_of v) o.names) o
    ∙ ap (λ g. called_as v g (refer_fault_by g (is_full limits o.names)) o) e

-- Where the name of a routine was used and no limit was passed, its operand is the one by which the routine is called.
pub used_operand : (limits : Limits) (v : Veneer) (o : Out) → (used limits v o).past ≡ None →
    operand_of v (used limits v o) ≡ Some (routine limits v o)
used_operand limits v o fits = by (standing_of (folded (name_of v)) o.names.names) refl
  where
    so_used : (f : Found Place) → found_in (name_of v) o.names ≡ f →
        ((used_as limits v f (refer_fault_by f (is_full limits o.names)) o).past ≡ None →
        operand_of v (used_as limits v f (refer_fault_by f (is_full limits o.names)) o)
        ≡ Some (called_as v f (refer_fault_by f (is_full limits o.names)) o)) →
        operand_of v (used limits v o) ≡ Some (routine limits v o)
    so_used f e h = ap (operand_of v) (used_is limits v o f e) ∙ h (sym (ap (λ (p : Out). p.past) (used_is limits v o f e)) ∙ fits)
        ∙ ap Some (sym (routine_is limits v o f e))

    new : (b : Bool) → (used_as limits v Found.Unknown (refer_fault_by {P = Place} Found.Unknown b) o).past ≡ None →
        operand_of v (used_as limits v Found.Unknown (refer_fault_by {P = Place} Found.Unknown b) o)
        ≡ Some (called_as v Found.Unknown (refer_fault_by {P = Place} Found.Unknown b) o)
    new true e = missing e
    new false e =
        ap (λ st. named_operand st (index_of (folded (name_of v)) (put (folded (name_of v)) (IsUsed (name_of v) o.first) o.names.names)))
        (put_found (folded (name_of v)) (IsUsed (name_of v) o.first) o.names.names)
        ∙ ap (λ k. named_operand (Some (IsUsed (name_of v) o.first)) k)
        (put_index (folded (name_of v)) (IsUsed (name_of v) o.first) o.names.names)

    by : (st : Option (Standing Place)) → standing_of (folded (name_of v)) o.names.names ≡ st →
        operand_of v (used limits v o) ≡ Some (routine limits v o)
    by None e = so_used Found.Unknown (seen_is v o None e) (new (is_full limits o.names))
    by (Some (IsUsed spelling place)) e = so_used Found.Used (seen_is v o (Some (IsUsed spelling place)) e)
        (λ _. ap (λ st. named_operand st (index_of (folded (name_of v)) o.names.names)) e)
    by (Some (IsDeclared number meaning place)) e =
        so_used (Found.Declared meaning place) (seen_is v o (Some (IsDeclared number meaning place)) e)
        (λ _. ap (λ st. named_operand st (index_of (folded (name_of v)) o.names.names)) e)

-- The operands of routines' names stay.

pub names_equal : (before now : Out) → now.names ≡ before.names → NamesStay before now
names_equal before now e = record {
  stays = λ v x h.
      ap (λ (t : Table Place). named_operand (standing_of (folded (name_of v)) t.names) (index_of (folded (name_of v)) t.names)) e ∙ h;
}

pub names_then : (a b c : Out) → NamesStay a b → NamesStay b c → NamesStay a c
names_then a b c x y = record { stays = λ v n e. y.stays v n (x.stays v n e) }

pub used_stays : (limits : Limits) (u : Veneer) (o : Out) → NamesStay o (used limits u o)
used_stays limits u o = by (standing_of (folded (name_of u)) o.names.names) refl
  where
    so_used : (f : Found Place) → found_in (name_of u) o.names ≡ f →
        NamesStay o (used_as limits u f (refer_fault_by f (is_full limits o.names)) o) →
        NamesStay o (used limits u o)
    so_used f e h = record { stays = λ v x k. ap (operand_of v) (used_is limits u o f e) ∙ h.stays v x k }

    known : (v : Veneer) (x : Simple) (st : Option (Standing Place)) → standing_of (folded (name_of v)) o.names.names ≡ st →
        named_operand st (index_of (folded (name_of v)) o.names.names) ≡ Some x → standing_of (folded (name_of u)) o.names.names ≡ None →
        named_operand (standing_of (folded (name_of v)) (put (folded (name_of u)) (IsUsed (name_of u) o.first) o.names.names))
        (index_of (folded (name_of v)) (put (folded (name_of u)) (IsUsed (name_of u) o.first) o.names.names)) ≡ Some x
    known v x None e h none = absent h
    known v x (Some st) e h none =
        ap (λ s. named_operand s (index_of (folded (name_of v)) (put (folded (name_of u)) (IsUsed (name_of u) o.first) o.names.names)))
        (kept_standing (folded (name_of u)) (folded (name_of v)) (IsUsed (name_of u) o.first) st o.names.names none e)
        ∙ ap (λ k. named_operand (Some st) k)
        (kept_index (folded (name_of u)) (folded (name_of v)) (IsUsed (name_of u) o.first) st o.names.names none e) ∙ h

    new : standing_of (folded (name_of u)) o.names.names ≡ None → (b : Bool) →
        NamesStay o (used_as limits u Found.Unknown (refer_fault_by {P = Place} Found.Unknown b) o)
    new none true = names_equal o (used_as limits u Found.Unknown (refer_fault_by {P = Place} Found.Unknown true) o) refl
    new none false = record { stays = λ v x h. known v x (standing_of (folded (name_of v)) o.names.names) refl h none }

    by : (st : Option (Standing Place)) → standing_of (folded (name_of u)) o.names.names ≡ st → NamesStay o (used limits u o)
    by None e = so_used Found.Unknown (seen_is u o None e) (new e (is_full limits o.names))
    by (Some (IsUsed spelling place)) e = so_used Found.Used (seen_is u o (Some (IsUsed spelling place)) e)
        (names_equal o (used_as limits u Found.Used None o) refl)
    by (Some (IsDeclared number meaning place)) e =
        so_used (Found.Declared meaning place) (seen_is u o (Some (IsDeclared number meaning place)) e)
        (names_equal o (used_as limits u (Found.Declared meaning place) None o) refl)

-- where another name is used, names that stand stay
put_stays : (key : List ℕ) (u : Standing Place) (names : List (Named Place)) → standing_of key names ≡ None → (other : List ℕ) (x : Simple)
    (st : Option (Standing Place)) → standing_of other names ≡ st → named_operand st (index_of other names) ≡ Some x →
    named_operand (standing_of other (put key u names)) (index_of other (put key u names)) ≡ Some x
put_stays key u names new other x None e h = absent h
put_stays key u names new other x (Some st) e h =
    ap (λ s. named_operand s (index_of other (put key u names))) (kept_standing key other u st names new e)
    ∙ ap (λ k. named_operand (Some st) k) (kept_index key other u st names new e) ∙ h

pub name_stays : (name : List ℕ) (place : Place) (o : Out) → NamesStay o (record o { names = with_used name place o.names })
name_stays name place o = by (system_meaning o.names.is_debugging name) (standing_of (folded name) o.names.names) refl
  where
    by : (system : Option Meaning) (st : Option (Standing Place)) → standing_of (folded name) o.names.names ≡ st →
        NamesStay o (record o { names = with_used_by (found_as system st) name place o.names })
    by None None e = record {
      stays = λ v x h. put_stays (folded name) (IsUsed name place) o.names.names e (folded (name_of v)) x
          (standing_of (folded (name_of v)) o.names.names) refl h;
    }
    by (Some m) None e = names_equal o (record o { names = with_used_by (found_as (Some m) None) name place o.names }) refl
    by system (Some (IsUsed spelling first)) e =
        names_equal o (record o { names = with_used_by (found_as system (Some (IsUsed spelling first))) name place o.names }) refl
    by system (Some (IsDeclared number m first)) e =
        names_equal o (record o { names = with_used_by (found_as system (Some (IsDeclared number m first))) name place o.names }) refl

-- So a world that supplies the routines behind some code supplies them before it.
pub supplies_before : (w : World) (before now : Out) → NamesStay before now → (now.past ≡ None → before.past ≡ None) → Supplies w now →
    Supplies w before
supplies_before w before now names fits k = record {
  fits = fits k.fits;
  numbers = λ v x e. k.numbers v x (names.stays v x e);
  contracts = k.contracts;
}
