-- Attempts to enter a file: one behind the other, and each kind of them.
use Rattle.std.proofs.Common.{◌≡◌, ◌≤◌, ◌<◌, ◌+◌, ◌⊎◌, ◌||◌, inl, inr, ℕ, zero, suc, Bool, true, false, cond, nat_le, List, [], ◌∷◌, ◌++◌}
use Rattle.std.proofs.Common.{length, Option, Some, None, is_some, Result, Ok, Err, IfOk, OnErr, is_ok, IsErrOf, IsSome, IsTrue, refl, sym}
use Rattle.std.proofs.Common.{ap}
use Rattle.std.proofs.Common.{subst, ◌∙◌, arith, slice_get, length-append, add-one, drop, get_or, map, take}
use Rattle.std.proofs.{Math.Path.subst⁻¹, lemmas.Bool.le-leb, lemmas.Bool.or_left, lemmas.Bool.or_right, lemmas.Bool.or_cases}
use Rattle.std.proofs.{Math.Seq.drop-cons, Math.Seq.take-suc, lemmas.List.Folds.list_any-append, lemmas.List.map-append}
use Rattle.std.proofs.lemmas.List.{take-append-drop}
use Rattle.std.specs.{List.list_any, Str.bytes_eq}
use Rattle.inf_devices.specs.declared.{files.Files.Ghosts as Files, files.OpenFault.OpenFault}
use Rattle.inf_devices.specs.Files.{Closes, Opening, Openings, Opens, Rose, Sources, counts_closed, counts_opened, opened}
use Rattle.inf_devices.specs.Files.{tells_failure as tells}
use Rattle.inf_devices.specs.Files.{with_name}
use Rattle.inf_lexer.specs.{Reading.Unless, Readers.Reader, declared.enter_faults.EnterFault.EnterFault}
use Rattle.inf_lexer.specs.Entering.{Attempts, ClosedAgain, Enters, IsEntered, Leaves, OpensOn, WasTooMany, first_there, has_one_too_many}
use Rattle.inf_lexer.specs.Entering.{ClosesInnermost, Declines, is_absent, is_of_opening, tells_failure, with_closed, with_opened}
use Rattle.inf_lexer.specs.Names.{Nest, number_of}
use Rattle.inf_lexer.proofs.{Opened.in_with, Opened.opens_none, Opened.opens_one, Opened.opens_then, Opened.opens_with, Reading.unless_as}
use Rattle.inf_lexer.proofs.Reading.{unless_is}

-- Lemmas about attempts that open nothing

opens_same : {before after p q : List (List ℕ)} → after ≡ before → q ≡ p → OpensOn before after p q
opens_same {before = before} {p = p} {q = q} known opened =
    subst⁻¹ (λ ns. OpensOn before ns p q) known (subst⁻¹ (λ ns. OpensOn before before p ns) opened (opens_none before p))

-- an attempt that is refused before a source is asked for
pub attempt_none : {S : Type 0} {f : Files S} {s : S} {names : List (List ℕ)} {before after : Nest} {answer : Result Reader EnterFault}
    (fault : EnterFault) → answer ≡ Err fault → tells_failure {T = Reader} (Err fault) ≡ false → is_absent (Err fault) ≡ false
    → after ≡ before → Attempts f s s names before after answer
attempt_none {f = f} {s = s} {names = names} {before = before} {after = after} fault told calm there same =
    subst⁻¹ (λ r. Attempts f s s names before after r) told (record {
      tries = record {
        sources = refl;
        honesty = refl;
        depth = refl;
        counts = refl;
        faults = omega arith;
        calm = unless_is (tells_failure {T = Reader} (Err fault)) refl;
      };
      opened = opens_same (ap (λ (n : Nest). n.names) same) refl;
      entered = tt;
      same = same;
      leaves = λ honest. by fault calm there;
      cause = λ device. let never : true ≡ false = sym (ap tells_failure device) ∙ calm in cc;
    })
  where
    by : (x : EnterFault) → tells_failure {T = Reader} (Err x) ≡ false → is_absent (Err x) ≡ false
        → Leaves (f.sources s) before.names names (f.openings s) (f.openings s) (Err x)
    by EnterFault.BadName e d = refl
    by EnterFault.TooDeep e d = refl
    by EnterFault.Memory e d = refl
    by EnterFault.Absent e d = cc
    by EnterFault.Device e d = cc

-- no attempt yet
pub attempt_first : {S : Type 0} {f : Files S} {s : S} {nest : Nest} → Attempts f s s [] nest nest (Err EnterFault.Absent)
attempt_first {f = f} {s = s} {nest = nest} = record {
  tries = record { sources = refl; honesty = refl; depth = refl; counts = refl; faults = omega arith; calm = refl };
  opened = opens_none nest.names (f.opened s);
  entered = tt;
  same = refl;
  leaves = λ honest. (refl, refl);
  cause = λ device. cc;
}

-- the fault of a source that was not opened
abbrev pub fault_of : OpenFault → EnterFault
fault_of OpenFault.Absent = EnterFault.Absent
fault_of OpenFault.Device = EnterFault.Device
fault_of OpenFault.Memory = EnterFault.Memory

-- an attempt whose source was not opened
pub attempt_failed : {S : Type 0} {f : Files S} {old new : S} {asked name : List ℕ} {before after : Nest} {found : OpenFault}
    (fault : OpenFault) → found ≡ fault → asked ≡ name
    → (IsTrue (f.is_honest old) → Opens (f.sources old) asked (f.openings old) (f.openings new) (Err found))
    → (IsErrOf {T = Unit {0}} (Err found) OpenFault.Device → Rose (f.faults old) (f.faults new))
    → (f.faults old ≤ f.faults new) × (tells (Err found) ≡ false → f.faults new ≡ f.faults old) → f.depth new ≡ f.depth old
    → f.counts new ≡ f.counts old → f.opened new ≡ f.opened old → (f.sources new ≡ f.sources old) × (f.is_honest new ≡ f.is_honest old)
    → after ≡ before → Attempts f old new (name ∷ []) before after (Err (fault_of fault))
attempt_failed {f = f} {old = old} {new = new} {asked = asked} {name = name} {before = before} {after = after} {found = found} fault is
    named opens rose faults depth counts opened kept same =
    subst (λ x. Attempts f old new (name ∷ []) before after (Err (fault_of x))) is (record {
      tries = record { sources = kept.0; honesty = kept.1; depth = depth; counts = counts; faults = faults.0; calm = calm found faults.1 };
      opened = opens_same (ap (λ (n : Nest). n.names) same) opened;
      entered = tt;
      same = same;
      leaves = λ honest. leaves found (opens honest);
      cause = λ device. inl (rose (why found device));
    })
  where
    calm : (x : OpenFault) → (tells (Err x) ≡ false → f.faults new ≡ f.faults old)
        → Unless (tells_failure {T = Reader} (Err (fault_of x))) (f.faults new ≡ f.faults old)
    calm OpenFault.Absent same = same refl
    calm OpenFault.Memory same = same refl
    calm OpenFault.Device same = tt

    leaves : (x : OpenFault) → Opens (f.sources old) asked (f.openings old) (f.openings new) (Err x)
        → Leaves (f.sources old) before.names (name ∷ []) (f.openings old) (f.openings new) (Err (fault_of x))
    leaves OpenFault.Absent o = (
      ap (λ (b : Option (List ℕ)). cond (is_some b) (Some name) None) (ap (f.sources old) (sym named) ∙ o.0),
      o.1,
    )
    leaves OpenFault.Memory o = o
    leaves OpenFault.Device o = inl o

    why : (x : OpenFault) → IsErrOf {T = Reader} (Err (fault_of x)) EnterFault.Device → IsErrOf {T = Unit {0}} (Err x) OpenFault.Device
    why OpenFault.Absent device = cc
    why OpenFault.Memory device = cc
    why OpenFault.Device device = refl

-- Lemmas about one attempt behind another

-- the names behind some of which none is there
first_after : (s : Sources) (xs ys : List (List ℕ)) → first_there s xs ≡ None → first_there s (xs ++ ys) ≡ first_there s ys
first_after s [] ys none = refl
first_after s (x ∷ xs) ys none = by (is_some (s x)) none (λ rest. first_after s xs ys rest) where
  by : (b : Bool) → cond b (Some x) (first_there s xs) ≡ None → (first_there s xs ≡ None → first_there s (xs ++ ys) ≡ first_there s ys)
      → cond b (Some x) (first_there s (xs ++ ys)) ≡ first_there s ys
  by true e rest = cc
  by false e rest = rest e

-- a name that is there comes before the names behind it
first_here : (s : Sources) (name found : List ℕ) (ys : List (List ℕ)) → first_there s (name ∷ []) ≡ Some found
    → first_there s (name ∷ ys) ≡ Some found
first_here s name found ys e = by (is_some (s name)) e where
  by : (b : Bool) → cond b (Some name) None ≡ Some found → cond b (Some name) (first_there s ys) ≡ Some found
  by true e = e
  by false e = cc

seam : (xs ys : List (List ℕ)) (name : List ℕ) → slice_get (xs ++ name ∷ ys) (length xs) ≡ Some name
seam [] ys name = refl
seam (x ∷ xs) ys name = seam xs ys name

only : (name found : List ℕ) (place : ℕ) → slice_get (name ∷ []) place ≡ Some found → found ≡ name
only name found zero e = cc
only name found (suc place) e = cc

too_many_in : (known xs ys : List (List ℕ)) (name : List ℕ) → has_one_too_many known (name ∷ []) ≡ true
    → has_one_too_many known (xs ++ name ∷ ys) ≡ true
too_many_in known xs ys name is =
    let test : List ℕ → Bool = λ n. nat_le 65535 (number_of n known) in
    list_any-append test xs (name ∷ ys) ∙ or_right (list_any test xs) (list_any test (name ∷ ys)) (by (or_cases (test name) false is))
  where
    by : (nat_le 65535 (number_of name known) ≡ true) ⊎ (false ≡ true) → has_one_too_many known (name ∷ ys) ≡ true
    by (inl t) = or_left (nat_le 65535 (number_of name known)) (has_one_too_many known ys) t
    by (inr never) = cc

-- The names `xs` were not there, and then `name` was tried: unless that is not there either, this decides for all names.
attempt_then : {S : Type 0} {f : Files S} {a b c : S} {xs ys : List (List ℕ)} {name : List ℕ} {u v w : Nest}
    (answer : Result Reader EnterFault) → Attempts f a b xs u v (Err EnterFault.Absent) → Attempts f b c (name ∷ []) v w answer
    → (is_absent answer ≡ true → ys ≡ []) → Attempts f a c (xs ++ name ∷ ys) u w answer
attempt_then {f = f} {a = a} {b = b} {c = c} {xs = xs} {ys = ys} {name = name} {u = u} {v = v} {w = w} answer p q last = record {
  tries = record {
    sources = q.tries.sources ∙ p.tries.sources;
    honesty = q.tries.honesty ∙ p.tries.honesty;
    depth = q.tries.depth ∙ ap (λ n. cond (is_ok answer) (n + 1) n) p.tries.depth;
    counts = q.tries.counts ∙ ap (λ n. cond (is_ok answer) (counts_opened n) n) p.tries.counts;
    faults = omega (arith, p.tries.faults, q.tries.faults);
    calm = unless_as (tells_failure answer) (λ same. same ∙ p.tries.calm) q.tries.calm;
  };
  opened = opens_then p.opened q.opened;
  entered = enters answer q.entered;
  same = back answer q.same;
  leaves = λ h. leaves h answer last (subst (λ s. Leaves s v.names (name ∷ []) (f.openings b) (f.openings c) answer) p.tries.sources
      (q.leaves (p.tries.honesty ∙ h)));
  cause = λ device. why (q.cause device);
} where
  first : (h : IsTrue (f.is_honest a)) → (found : List ℕ) → first_there (f.sources a) (name ∷ []) ≡ Some found
      → first_there (f.sources a) (xs ++ name ∷ ys) ≡ Some found
  first h found is = first_after (f.sources a) xs (name ∷ ys) (p.leaves h).0 ∙ first_here (f.sources a) name found ys is

  enters : (r : Result Reader EnterFault) → IfOk r (Enters (f.sources b) (f.is_honest b) (name ∷ []) (f.openings b) (f.openings c) v w)
      → IfOk r (Enters (f.sources a) (f.is_honest a) (xs ++ name ∷ ys) (f.openings a) (f.openings c) u w)
  enters (Ok lexer) e = record {
    name = e.name;
    place = length xs;
    is_named = seam xs ys name ∙ ap Some (sym (only name e.name e.place e.is_named));
    is_entered = subst (λ (n : Nest). IsEntered e.name n w lexer) p.same e.is_entered;
    has_number = subst (λ (n : Nest). number_of e.name n.names < 65535) p.same e.has_number;
    is_first = λ h. first h e.name
        (subst (λ (s : Sources). first_there s (name ∷ []) ≡ Some e.name) p.tries.sources (e.is_first (p.tries.honesty ∙ h)));
    is_opened = λ h. e.is_opened (p.tries.honesty ∙ h) ∙ ap (with_opened e.name) (p.leaves h).1;
  }
  enters (Err fault) e = tt

  back : (r : Result Reader EnterFault) → OnErr r (w ≡ v) → OnErr r (w ≡ u)
  back (Ok lexer) e = tt
  back (Err fault) e = e ∙ p.same

  closed : (h : IsTrue (f.is_honest a)) → ClosedAgain (f.sources a) v.names (name ∷ []) (f.openings b) (f.openings c)
      → ClosedAgain (f.sources a) u.names (xs ++ name ∷ ys) (f.openings a) (f.openings c)
  closed h again = record {
    name = again.name;
    is_first = first h again.name again.is_first;
    is_too_many = subst (λ (n : Nest). 65535 ≤ number_of again.name n.names) p.same again.is_too_many;
    is_closed = again.is_closed ∙ ap (with_closed again.name) (p.leaves h).1;
  }

  leaves : (h : IsTrue (f.is_honest a)) (r : Result Reader EnterFault) → (is_absent r ≡ true → ys ≡ [])
      → Leaves (f.sources a) v.names (name ∷ []) (f.openings b) (f.openings c) r
      → Leaves (f.sources a) u.names (xs ++ name ∷ ys) (f.openings a) (f.openings c) r
  leaves h (Ok lexer) last l = tt
  leaves h (Err EnterFault.Absent) last l = (
    first_after (f.sources a) xs (name ∷ ys) (p.leaves h).0 ∙ ap (λ ns. first_there (f.sources a) (name ∷ ns)) (last refl) ∙ l.0,
    l.1 ∙ (p.leaves h).1,
  )
  leaves h (Err EnterFault.Device) last (inl same) = inl (same ∙ (p.leaves h).1)
  leaves h (Err EnterFault.Device) last (inr again) = inr (closed h again)
  leaves h (Err EnterFault.Memory) last l = l ∙ (p.leaves h).1
  leaves h (Err EnterFault.BadName) last l = l ∙ (p.leaves h).1
  leaves h (Err EnterFault.TooDeep) last l = l ∙ (p.leaves h).1

  why : Rose (f.faults b) (f.faults c)
      ⊎ WasTooMany (f.sources b) (f.is_honest b) v.names (name ∷ []) (f.openings b) (f.openings c) (f.opened c)
      → Rose (f.faults a) (f.faults c)
      ⊎ WasTooMany (f.sources a) (f.is_honest a) u.names (xs ++ name ∷ ys) (f.openings a) (f.openings c) (f.opened c)
  why (inl rose) = inl (subst (λ n. Rose n (f.faults c)) p.tries.calm rose)
  why (inr many) = inr (record {
    is_named = too_many_in u.names xs ys name (subst (λ (n : Nest). has_one_too_many n.names (name ∷ []) ≡ true) p.same many.is_named);
    name = many.name;
    is_too_many = subst (λ (n : Nest). 65535 ≤ number_of many.name n.names) p.same many.is_too_many;
    is_opened = many.is_opened;
    is_closed = λ h. closed h (subst (λ s. ClosedAgain s v.names (name ∷ []) (f.openings b) (f.openings c)) p.tries.sources
        (many.is_closed (p.tries.honesty ∙ h)));
  })

-- the names may be given by equal ones
pub attempt_as : {S : Type 0} {f : Files S} {a b : S} {names others : List (List ℕ)} {u v : Nest} {answer : Result Reader EnterFault}
    → others ≡ names → Attempts f a b names u v answer → Attempts f a b others u v answer
attempt_as {f = f} {a = a} {b = b} {u = u} {v = v} {answer = answer} same t = subst⁻¹ (λ names. Attempts f a b names u v answer) same t

-- Lemmas about the openings of one name

-- lists with an item at the end are the same only where their fronts are
front_same : (xs ys : List ℕ) (x y : ℕ) → xs ++ x ∷ [] ≡ ys ++ y ∷ [] → xs ≡ ys
front_same [] [] x y e = refl
front_same [] (b ∷ ys) x y e = absurd (omega (arith, ap length e, length-append ys (y ∷ [])))
front_same (a ∷ xs) [] x y e = absurd (omega (arith, ap length e, length-append xs (x ∷ [])))
front_same (a ∷ xs) (b ∷ ys) x y e =
    let head : a ≡ b = cc in let rest : xs ++ x ∷ [] ≡ ys ++ y ∷ [] = cc in
    ap (λ n. n ∷ xs) head ∙ ap (λ l. b ∷ l) (front_same xs ys x y rest)

closes_opened : (name : List ℕ) (old mid new : Openings) → mid ≡ with_opened name old → Closes mid new → new ≡ with_closed name old
closes_opened name old mid new opens closes =
    ap (λ (all : List Opening). record { all = all; open_places = new.open_places }) (closes.same ∙ ap (λ (o : Openings). o.all) opens)
    ∙ ap (λ (places : List ℕ). record { all = old.all ++ opened name ∷ []; open_places = places })
    (front_same new.open_places old.open_places closes.place (length old.all)
    (sym closes.innermost ∙ ap (λ (o : Openings). o.open_places) opens))

there_alone : (s : Sources) (name : List ℕ) → IsSome (s name) → first_there s (name ∷ []) ≡ Some name
there_alone s name there = go (s name) there where
  go : (o : Option (List ℕ)) → IsSome o → cond (is_some o) (Some name) None ≡ Some name
  go None there = cc
  go (Some bytes) there = refl

too_many_alone : (known : List (List ℕ)) (name : List ℕ) → 65535 ≤ number_of name known → has_one_too_many known (name ∷ []) ≡ true
too_many_alone known name most = or_left (nat_le 65535 (number_of name known)) false (le-leb 65535 (number_of name known) most)

-- a source that was closed
pub closes_by : {S : Type 0} {f : Files S} {old new : S} → (IsTrue (f.is_honest old) → Closes (f.openings old) (f.openings new))
    → f.depth new + 1 ≡ f.depth old → f.opened new ≡ f.opened old → f.faults new ≡ f.faults old
    → f.counts new ≡ counts_closed (f.counts old) → (f.sources new ≡ f.sources old) × (f.is_honest new ≡ f.is_honest old)
    → ClosesInnermost f old new
closes_by closes depth opened faults counts kept = record {
  sources = kept.0;
  honesty = kept.1;
  depth = depth;
  opened = opened;
  counts = counts;
  faults = faults;
  closes = closes;
}

-- A source was opened.
pub record Opened {S : Type 0} (f : Files S) (old new : S) (name : List ℕ) : Type 0 where
  pub sources : f.sources new ≡ f.sources old
  pub honesty : f.is_honest new ≡ f.is_honest old
  pub depth : f.depth new ≡ f.depth old + 1
  pub opened : f.opened new ≡ with_name name (f.opened old)
  pub counts : f.counts new ≡ counts_opened (f.counts old)
  pub calm : f.faults new ≡ f.faults old
  pub opens : IsTrue (f.is_honest old)
      → (first_there (f.sources old) (name ∷ []) ≡ Some name) × (f.openings new ≡ with_opened name (f.openings old))

pub opens_by : {S : Type 0} {f : Files S} {old new : S} {asked name : List ℕ} → asked ≡ name
    → (IsTrue (f.is_honest old) → IsSome (f.sources old asked) × (f.openings new ≡ with_opened asked (f.openings old)))
    → f.depth new ≡ f.depth old + 1 → f.opened new ≡ with_name asked (f.opened old) → f.faults new ≡ f.faults old
    → f.counts new ≡ counts_opened (f.counts old) → (f.sources new ≡ f.sources old) × (f.is_honest new ≡ f.is_honest old)
    → Opened f old new name
opens_by {f = f} {old = old} {new = new} {asked = asked} named opens depth opened calm counts kept =
    subst (λ n. Opened f old new n) named (record {
      sources = kept.0;
      honesty = kept.1;
      depth = depth;
      opened = opened;
      counts = counts;
      calm = calm;
      opens = λ honest. (there_alone (f.sources old) asked (opens honest).0, (opens honest).1);
    })

-- an attempt whose source was opened
pub attempt_opened : {S : Type 0} {f : Files S} {old new : S} {name : List ℕ} {before after : Nest} {lexer : Reader}
    → Opened f old new name → number_of name before.names < 65535 → IsEntered name before after lexer
    → Attempts f old new (name ∷ []) before after (Ok lexer)
attempt_opened {f = f} {old = old} {new = new} {name = name} {before = before} o few is = record {
  tries = record {
    sources = o.sources;
    honesty = o.honesty;
    depth = o.depth;
    counts = o.counts;
    faults = omega (arith, o.calm);
    calm = o.calm;
  };
  opened = subst⁻¹ (λ (n : Nest). OpensOn before.names n.names (f.opened old) (f.opened new)) is.0
      (subst⁻¹ (λ ns. OpensOn before.names (with_name name before.names) (f.opened old) ns) o.opened
      (opens_with name before.names (f.opened old)));
  entered = record {
    name = name;
    place = 0;
    is_named = refl;
    is_entered = is;
    has_number = few;
    is_first = λ honest. (o.opens honest).0;
    is_opened = λ honest. (o.opens honest).1;
  };
  same = tt;
  leaves = λ honest. tt;
  cause = λ device. cc;
}

-- an attempt whose source was one too many, and was closed again
pub attempt_closed : {S : Type 0} {f : Files S} {old mid new : S} {name : List ℕ} {before after : Nest}
    → Opened f old mid name → ClosesInnermost f mid new → 65535 ≤ number_of name before.names → after ≡ before
    → Attempts f old new (name ∷ []) before after (Err EnterFault.Device)
attempt_closed {f = f} {old = old} {mid = mid} {new = new} {name = name} {before = before} o closes many same =
    let again : IsTrue (f.is_honest old) → ClosedAgain (f.sources old) before.names (name ∷ []) (f.openings old) (f.openings new) =
    λ honest. record {
      name = name;
      is_first = (o.opens honest).0;
      is_too_many = many;
      is_closed = closes_opened name (f.openings old) (f.openings mid) (f.openings new) (o.opens honest).1
          (closes.closes (o.honesty ∙ honest));
    } in
    record {
      tries = record {
        sources = closes.sources ∙ o.sources;
        honesty = closes.honesty ∙ o.honesty;
        depth = omega (arith, closes.depth, o.depth);
        counts = closes.counts ∙ ap counts_closed o.counts;
        faults = omega (arith, closes.faults, o.calm);
        calm = tt;
      };
      opened = subst⁻¹ (λ (n : Nest). OpensOn before.names n.names (f.opened old) (f.opened new)) same
          (subst⁻¹ (λ ns. OpensOn before.names before.names (f.opened old) ns) (closes.opened ∙ o.opened)
          (opens_one name before.names (f.opened old)));
      entered = tt;
      same = same;
      leaves = λ honest. inr (again honest);
      cause = λ device. inr (record {
        is_named = too_many_alone before.names name many;
        name = name;
        is_too_many = many;
        is_opened = ap (λ names. list_any (bytes_eq name) names) (closes.opened ∙ o.opened) ∙ in_with name (f.opened old);
        is_closed = again;
      });
    }

-- an answer that comes of an opening refuses no name and no further file
pub declines_none : {can : Bool} {depth : ℕ} (same : Type 0) (answer : Result Reader EnterFault) → is_of_opening answer ≡ true → can ≡ true
    → depth < 16 → Declines can depth same answer
declines_none same (Ok lexer) is can few = (can, few)
declines_none same (Err EnterFault.Absent) is can few = (can, few)
declines_none same (Err EnterFault.Device) is can few = (can, few)
declines_none same (Err EnterFault.Memory) is can few = (can, few)
declines_none same (Err EnterFault.BadName) is can few = cc
declines_none same (Err EnterFault.TooDeep) is can few = cc

-- Lemmas about names in a list

-- the names up to a place, and those behind it
pub names_to : {A : Type 0} (f : A → List ℕ) (xs : List A) (i : ℕ) (d : A) {name : List ℕ} → i < length xs → f (get_or xs i d) ≡ name
    → map f (take (i + 1) xs) ≡ map f (take i xs) ++ name ∷ []
names_to f xs i d less is =
    ap (λ n. map f (take n xs)) (add-one i) ∙ ap (map f) (take-suc xs i d less) ∙ map-append f (take i xs) (get_or xs i d ∷ [])
    ∙ ap (λ n. map f (take i xs) ++ n ∷ []) is

pub names_at : {A : Type 0} (f : A → List ℕ) (xs : List A) (i : ℕ) (d : A) {name : List ℕ} → i < length xs → f (get_or xs i d) ≡ name
    → map f xs ≡ map f (take i xs) ++ name ∷ map f (drop (suc i) xs)
names_at f xs i d less is = ap (map f) (sym (take-append-drop i xs) ∙ ap (λ ys. take i xs ++ ys) (drop-cons xs i d less))
    ∙ map-append f (take i xs) (get_or xs i d ∷ drop (suc i) xs) ∙ ap (λ n. map f (take i xs) ++ n ∷ map f (drop (suc i) xs)) is

-- no file has the name, either
pub attempt_passes : {S : Type 0} {f : Files S} {a b c : S} {xs : List (List ℕ)} {name : List ℕ} {u v w : Nest}
    (answer : Result Reader EnterFault) → Attempts f a b xs u v (Err EnterFault.Absent) → Attempts f b c (name ∷ []) v w answer
    → is_absent answer ≡ true → Attempts f a c (xs ++ name ∷ []) u w (Err EnterFault.Absent)
attempt_passes {f = f} {a = a} {c = c} {xs = xs} {name = name} {u = u} {w = w} answer p q absent =
    by answer absent (attempt_then answer p q (λ _. refl))
  where
    by : (r : Result Reader EnterFault) → is_absent r ≡ true → Attempts f a c (xs ++ name ∷ []) u w r
        → Attempts f a c (xs ++ name ∷ []) u w (Err EnterFault.Absent)
    by (Ok lexer) is t = cc
    by (Err EnterFault.Absent) is t = t
    by (Err EnterFault.Device) is t = cc
    by (Err EnterFault.Memory) is t = cc
    by (Err EnterFault.BadName) is t = cc
    by (Err EnterFault.TooDeep) is t = cc

-- the last attempt decides
pub attempt_decides : {S : Type 0} {f : Files S} {a b c : S} {xs : List (List ℕ)} {name : List ℕ} {u v w : Nest} (ys : List (List ℕ))
    (answer : Result Reader EnterFault) → Attempts f a b xs u v (Err EnterFault.Absent) → Attempts f b c (name ∷ []) v w answer
    → is_absent answer ≡ false → Attempts f a c (xs ++ name ∷ ys) u w answer
attempt_decides ys answer p q decided = attempt_then answer p q (λ absent. let never : true ≡ false = sym absent ∙ decided in cc)
