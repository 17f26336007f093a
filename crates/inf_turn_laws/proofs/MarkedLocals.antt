-- Locals that units name, by a test of their names, and the locals of a header.
use Rattle.std.proofs.Common.{◌≡◌, ℕ, List, [], ◌∷◌, ◌++◌, length, map, filter, cond, not, ◌||◌, ◌&&◌, ltb, Bool, true, false, Option, None}
use Rattle.std.proofs.Common.{Some, refl, sym, ap, ◌∙◌}
use Rattle.std.proofs.lemmas.Bool.{and_from, and_parts, cond_both, not-true, or_from, or_parts}
use Rattle.std.specs.{List.list_all, List.list_any, Str.bytes_eq, Str.str_eq_ignore_ascii_case}
use Rattle.inf_scanner.specs.declared.tokens.Place.{Place}
use Rattle.inf_names.specs.{Spellings.Name, Symbols.folded}
use Rattle.inf_names.specs.Locals.{Local, Headed, local_of, most_locals, no_locals, with_all_named, with_local_by, with_locals, with_named}
use Rattle.inf_report.specs.Messages.{UnusedLocal}
use Rattle.inf_unit.specs.Messages.{Reported, location, with_warning}
use Rattle.inf_compilation.specs.{Actions.with_all_unused, Context.Context}
use Rattle.inf_turn_laws.specs.UnusedLocals.{AreDifferent, AreNew, AreUnnamed, is_local, is_named_by, is_named_in, unused, with_warnings}
use Rattle.inf_laws.proofs.{Choices.or-swap, SameNames.bytes_eq-sym, SameNames.same_names}

-- the locals after some units, each of which has some names
abbrev pub with_units : List (List Name) → List Local → List Local
with_units [] locals = locals
with_units (names ∷ units) locals = with_units units (with_all_named names locals)

-- a local that counts as named also where its name passes a test
abbrev marked : (List ℕ → Bool) → Local → Local
marked test l = record { name = l.name; place = l.place; is_named = test l.name || l.is_named }

abbrev is_same : List ℕ → List ℕ → Bool
is_same name other = str_eq_ignore_ascii_case other name

pub is_local-same : (a b : List ℕ) (ls : List Local) → folded a ≡ folded b → is_local a ls ≡ is_local b ls
is_local-same a b ls e = ap (λ k. list_any (λ l. bytes_eq (folded l.name) k) ls) e

none_marked : (name : List ℕ) (ls : List Local) → is_local name ls ≡ false → map (marked (is_same name)) ls ≡ ls
none_marked name [] is = refl
none_marked name (l ∷ ls) is =
    let parts = or_parts (str_eq_ignore_ascii_case l.name name) (is_local name ls) is in
    ap (λ b. record { name = l.name; place = l.place; is_named = b || l.is_named } ∷ map (marked (is_same name)) ls) parts.0
    ∙ ap (λ rest. l ∷ rest) (none_marked name ls parts.1)

with_named-marks : (name : List ℕ) (ls : List Local) → AreDifferent ls → with_named name ls ≡ map (marked (is_same name)) ls
with_named-marks name [] d = refl
with_named-marks name (l ∷ ls) d = go (str_eq_ignore_ascii_case l.name name) refl (with_named-marks name ls d.1)
  where
    go : (t : Bool) → str_eq_ignore_ascii_case l.name name ≡ t → with_named name ls ≡ map (marked (is_same name)) ls → cond t
        (record { name = l.name; place = l.place; is_named = true } ∷ ls) (l ∷ with_named name ls) ≡
        record { name = l.name; place = l.place; is_named = t || l.is_named } ∷ map (marked (is_same name)) ls
    go true e later = ap (λ rest. record { name = l.name; place = l.place; is_named = true } ∷ rest)
        (sym (none_marked name ls (sym (is_local-same l.name name ls (same_names l.name name e)) ∙ d.0)))
    go false e later = ap (λ rest. l ∷ rest) later

is_local-marked : (test : List ℕ → Bool) (name : List ℕ) (ls : List Local) → is_local name (map (marked test) ls) ≡ is_local name ls
is_local-marked test name [] = refl
is_local-marked test name (l ∷ ls) = ap (λ b. str_eq_ignore_ascii_case l.name name || b) (is_local-marked test name ls)

different-marked : (test : List ℕ → Bool) (ls : List Local) → AreDifferent ls → AreDifferent (map (marked test) ls)
different-marked test [] d = tt
different-marked test (l ∷ ls) d = (is_local-marked test l.name ls ∙ d.0, different-marked test ls d.1)

marked_twice : (first later : List ℕ → Bool) (ls : List Local) →
    map (marked later) (map (marked first) ls) ≡ map (marked (λ n. first n || later n)) ls
marked_twice first later [] = refl
marked_twice first later (l ∷ ls) =
    ap (λ b. record { name = l.name; place = l.place; is_named = b } ∷ map (marked later) (map (marked first) ls))
    (or-swap (later l.name) (first l.name) l.is_named)
    ∙ ap (λ rest. marked (λ n. first n || later n) l ∷ rest) (marked_twice first later ls)

marked_by_nothing : (ls : List Local) → ls ≡ map (marked (λ n. false)) ls
marked_by_nothing [] = refl
marked_by_nothing (l ∷ ls) = ap (λ rest. l ∷ rest) (marked_by_nothing ls)

with_all_named-marks : (names : List Name) (ls : List Local) → AreDifferent ls →
    with_all_named names ls ≡ map (marked (λ n. is_named_by n names)) ls
with_all_named-marks [] ls d = marked_by_nothing ls
with_all_named-marks (first ∷ names) ls d = ap (with_all_named names) (with_named-marks first.bytes ls d)
    ∙ with_all_named-marks names (map (marked (is_same first.bytes)) ls) (different-marked (is_same first.bytes) ls d)
    ∙ marked_twice (is_same first.bytes) (λ n. is_named_by n names) ls

with_units-marks : (units : List (List Name)) (ls : List Local) → AreDifferent ls →
    with_units units ls ≡ map (marked (λ n. is_named_in n units)) ls
with_units-marks [] ls d = marked_by_nothing ls
with_units-marks (names ∷ units) ls d = ap (with_units units) (with_all_named-marks names ls d)
    ∙ with_units-marks units (map (marked (λ n. is_named_by n names)) ls) (different-marked (λ n. is_named_by n names) ls d)
    ∙ marked_twice (λ n. is_named_by n names) (λ n. is_named_in n units) ls

warned : (context : Context) (place : Place) (test : List ℕ → Bool) (ls : List Local) (r : Reported) → AreUnnamed ls →
    with_all_unused context place (map (marked test) ls) r ≡ with_warnings context place (filter (λ l. not (test l.name)) ls) r
warned context place test [] r un = refl
warned context place test (l ∷ ls) r un =
    let parts = and_parts (not l.is_named) (list_all (λ l. not l.is_named) ls) un in
    go (test l.name) l.is_named (not-true l.is_named parts.0) (λ r. warned context place test ls r parts.1)
  where
    go : (t b : Bool) → b ≡ false → ((r : Reported) → with_all_unused context place (map (marked test) ls) r ≡ with_warnings context place
        (filter (λ l. not (test l.name)) ls) r) → with_all_unused context place (map (marked test) ls)
        (cond (t || b) r (with_warning (location context.names place) (UnusedLocal l.name) r)) ≡ with_warnings context place
        (cond (not t) (l ∷ filter (λ l. not (test l.name)) ls) (filter (λ l. not (test l.name)) ls)) r
    go true b e later = later r
    go false true e later = cc
    go false false e later = later (with_warning (location context.names place) (UnusedLocal l.name) r)

pub unused_are_told : (context : Context) (place : Place) (units : List (List Name)) (ls : List Local) (r : Reported) → AreNew ls →
    with_all_unused context place (with_units units ls) r ≡ with_warnings context place (unused units ls) r
unused_are_told context place units ls r new = ap (λ xs. with_all_unused context place xs r) (with_units-marks units ls new.different)
    ∙ warned context place (λ n. is_named_in n units) ls r new.unnamed

-- Lemmas about headers

absent : (name : List ℕ) (ls : List Local) → local_of name ls ≡ None → is_local name ls ≡ false
absent name [] e = refl
absent name (l ∷ ls) e = go (str_eq_ignore_ascii_case l.name name) e (absent name ls)
  where
    go : (t : Bool) → cond t (Some l) (local_of name ls) ≡ None → (local_of name ls ≡ None → is_local name ls ≡ false) →
        (t || is_local name ls) ≡ false
    go true e later = cc
    go false e later = later e

is_local-push : (name : List ℕ) (ls : List Local) (l : Local) → is_local name ls ≡ false → str_eq_ignore_ascii_case l.name name ≡ false →
    is_local name (ls ++ l ∷ []) ≡ false
is_local-push name [] l is other = or_from (str_eq_ignore_ascii_case l.name name) false other refl
is_local-push name (m ∷ ls) l is other =
    let parts = or_parts (str_eq_ignore_ascii_case m.name name) (is_local name ls) is in
    or_from (str_eq_ignore_ascii_case m.name name) (is_local name (ls ++ l ∷ [])) parts.0 (is_local-push name ls l parts.1 other)

different-push : (ls : List Local) (l : Local) → AreDifferent ls → is_local l.name ls ≡ false → AreDifferent (ls ++ l ∷ [])
different-push [] l d is = (refl, tt)
different-push (m ∷ ls) l d is =
    let parts = or_parts (str_eq_ignore_ascii_case m.name l.name) (is_local l.name ls) is in
    (is_local-push m.name ls l d.0 (bytes_eq-sym (folded l.name) (folded m.name) ∙ parts.0), different-push ls l d.1 parts.1)

unnamed-push : (ls : List Local) (l : Local) → AreUnnamed ls → l.is_named ≡ false → AreUnnamed (ls ++ l ∷ [])
unnamed-push [] l un is = ap (λ b. not b && true) is
unnamed-push (m ∷ ls) l un is =
    let parts = and_parts (not m.is_named) (list_all (λ l. not l.is_named) ls) un in
    and_from (not m.is_named) (list_all (λ l. not l.is_named) (ls ++ l ∷ [])) parts.0 (unnamed-push ls l parts.1 is)

one_more : (n : Name) (h : Headed) (o : Option Local) → local_of n.bytes h.locals ≡ o → AreNew h.locals →
    AreNew (with_local_by n o h).locals
one_more n h (Some l) e new = new
one_more n h None e new =
    let l : Local = record { name = n.bytes; place = n.place; is_named = false } in
    let more : Headed = record h { locals = h.locals ++ l ∷ [] } in
    let full : Headed = record h { are_too_many = true } in
    cond_both (ltb (length h.locals) most_locals) more full (λ x. AreNew x.locals)
    (λ _. record {
      different = different-push h.locals l new.different (absent n.bytes h.locals e);
      unnamed = unnamed-push h.locals l new.unnamed refl;
    })
    (λ _. new)

all_new : (names : List Name) (h : Headed) → AreNew h.locals → AreNew (with_locals names h).locals
all_new [] h new = new
all_new (first ∷ names) h new =
    all_new names (with_local_by first (local_of first.bytes h.locals) h) (one_more first h (local_of first.bytes h.locals) refl new)

pub header_is_new : (names : List Name) → AreNew (with_locals names no_locals).locals
header_is_new names = all_new names no_locals (record { different = tt; unnamed = refl })
