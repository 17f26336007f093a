-- Facts that calls keep: one behind the other, and each kind of them.
use Rattle.std.proofs.Common.{◌≡◌, ◌≤◌, inl, inr, ℕ, true, false, List, [], ◌∷◌, ◌++◌, length, min, Bool, IsTrue, refl, sym}
use Rattle.std.proofs.Common.{ap}
use Rattle.std.proofs.Common.{subst, ◌∙◌, arith, length-append, drop, map, reverse}
use Rattle.std.proofs.{Math.Path.subst⁻¹, lemmas.List.reverse-append}
use Rattle.std.specs.{List.list_any, Str.bytes_eq}
use Rattle.inf_devices.specs.Files.{Counts, Sources, counts_closed, counts_opened, last_count}
use Rattle.inf_devices.specs.declared.files.Files.{Ghosts as Files}
use Rattle.inf_lexer.specs.{Counted.CountsOn, Counted.IsCountedBy, Entering.ClosesInnermost, Entering.OpensOn, Entering.Tries, Names.Nest}
use Rattle.inf_lexer.specs.{Names.number_of, Readers.Reader, Reading.ReadsOn}
use Rattle.inf_lexer.proofs.{Opened.opens_none, Opened.opens_then, Reading.unless_as}
use Rattle.inf_sources.specs.{Open.AllGiven, Open.IsNested, Open.Open, Open.lexers_of, declared.open_file.OpenFile.OpenFile}
use Rattle.inf_sources.specs.Calls.{AreCounted, AskedTooMany, Honestly, IsUnreadable, ReadsFile, StaysFit, StaysGiven, Went, given_each}
use Rattle.inf_sources.proofs.{Fronts.left_given, Fronts.read_fit, Fronts.read_given, Nestings.left_nested, Nestings.nested_on}
use Rattle.inf_sources.proofs.Nestings.{opened_as_before}

-- what was counted is counted where more openings are too long
counted_more : (base : ℕ) (gs counts : List ℕ) (too_long more : ℕ) → min too_long last_count ≤ more → AreCounted base gs counts too_long
    → AreCounted base gs counts more
counted_more base [] counts too_long more up was = omega (arith, was, up)
counted_more base (g ∷ gs) [] too_long more up was = absurd was
counted_more base (g ∷ gs) (n ∷ counts) too_long more up was =
    ((was.0.0, λ over. let long = was.0.1 over in omega (arith, long, up)), counted_more base gs counts too_long more up was.1)

-- as many openings are too long as before
counted_least : (base : ℕ) (gs counts : List ℕ) (too_long : ℕ) → AreCounted base gs counts too_long → min base last_count ≤ too_long
counted_least base [] counts too_long was = was
counted_least base (g ∷ gs) [] too_long was = absurd was
counted_least base (g ∷ gs) (n ∷ counts) too_long was = counted_least base gs counts too_long was.1

-- more was read of the innermost file
counted_read : (base : ℕ) (old new : Counts) (before after : ℕ) (gs : List ℕ) → CountsOn old new before after
    → AreCounted base (before ∷ gs) old.each old.too_long → AreCounted base (after ∷ gs) new.each new.too_long
counted_read base old new before after gs on was = by_each old.each refl was where
  by_each : (each : List ℕ) → old.each ≡ each → AreCounted base (before ∷ gs) each old.too_long
      → AreCounted base (after ∷ gs) new.each new.too_long
  by_each [] e h = absurd h
  by_each (n ∷ outer) e h =
      let now : IsCountedBy new outer base after = on.stays outer base (record {
        count = n;
        is = e;
        within = h.0.0;
        least = counted_least base gs outer old.too_long h.1;
        too_long = h.0.1;
      }) in
      subst (λ (each : List ℕ). AreCounted base (after ∷ gs) each new.too_long) (sym now.is)
      ((now.within, now.too_long), counted_more base gs outer old.too_long new.too_long on.too_long h.1)

-- a file was entered, and nothing was read of it
counted_in : (base : ℕ) (old new : Counts) (gs hs : List ℕ) → new ≡ counts_opened old → hs ≡ 0 ∷ gs
    → AreCounted base gs old.each old.too_long → AreCounted base hs new.each new.too_long
counted_in base old new gs hs counts given was = subst (λ (c : Counts). AreCounted base hs c.each c.too_long) (sym counts)
    (subst (λ (xs : List ℕ). AreCounted base xs (0 ∷ old.each) old.too_long) (sym given) ((omega arith, λ over. omega (arith, over)), was))

-- the innermost file was left
counted_out : (base : ℕ) (old new : Counts) (gs hs : List ℕ) (g : ℕ) → new ≡ counts_closed old → gs ≡ g ∷ hs
    → AreCounted base gs old.each old.too_long → AreCounted base hs new.each new.too_long
counted_out base old new gs hs g counts given was = subst (λ (c : Counts). AreCounted base hs c.each c.too_long) (sym counts)
    (by_each old.each (subst (λ (xs : List ℕ). AreCounted base xs old.each old.too_long) given was))
  where
    by_each : (each : List ℕ) → AreCounted base (g ∷ hs) each old.too_long → AreCounted base hs (drop 1 each) old.too_long
    by_each [] h = absurd h
    by_each (n ∷ outer) h = h.1

-- the numbers of bytes that the lexers were given, where a file was entered or left
given_entered : (before after : Open) (waits : OpenFile) → waits.lexer ≡ before.lexer → after.outer ≡ before.outer ++ waits ∷ []
    → after.lexer.window.given ≡ 0 → given_each after ≡ 0 ∷ given_each before
given_entered before after waits same outer front =
    ap (λ (n : ℕ). n ∷ map (λ (r : Reader). r.window.given) (lexers_of (reverse after.outer))) front
    ∙ ap (λ (fs : List OpenFile). 0 ∷ map (λ (r : Reader). r.window.given) (lexers_of fs))
    (ap (λ (fs : List OpenFile). reverse fs) outer ∙ reverse-append before.outer (waits ∷ []))
    ∙ ap (λ (r : Reader). 0 ∷ r.window.given ∷ map (λ (q : Reader). q.window.given) (lexers_of (reverse before.outer))) same

given_left : (before after : Open) (back : OpenFile) → after.lexer ≡ back.lexer → before.outer ≡ after.outer ++ back ∷ []
    → given_each before ≡ before.lexer.window.given ∷ given_each after
given_left before after back same outer =
    ap (λ (fs : List OpenFile). before.lexer.window.given ∷ map (λ (r : Reader). r.window.given) (lexers_of fs))
    (ap (λ (fs : List OpenFile). reverse fs) outer ∙ reverse-append after.outer (back ∷ []))
    ∙ ap (λ (r : Reader). before.lexer.window.given ∷ r.window.given ∷ map (λ (q : Reader). q.window.given)
    (lexers_of (reverse after.outer))) (sym same)

-- no call keeps them
pub went_none : {S : Type 0} (f : Files S) (old : S) (files : Open) → Went f old old files files
went_none f old files = record {
  sources = refl;
  honesty = refl;
  faults = omega arith;
  depth = refl;
  counted = λ base was. was;
  opened = opens_none files.nest.names (f.opened old);
  nested = λ honest start nested. nested;
  stays_given = λ honest start nested given. given;
}

pub fit_none : {S : Type 0} (f : Files S) (old : S) (files : Open) → StaysFit f old old files
fit_none f old files = λ honest start nested given fit. fit

pub given_then : {S : Type 0} (f : Files S) (a b c : S) (x y z : Open) → f.sources b ≡ f.sources a → f.is_honest b ≡ f.is_honest a
    → Honestly f a x (λ start. IsNested start (f.openings b) y) → StaysGiven f a b x y → StaysGiven f b c y z → StaysGiven f a c x z
given_then f a b c x y z sources honesty nested p q = λ honest start n given.
    subst (λ (s : Sources). AllGiven s (length start.all) (f.openings c) z) sources
    (q (subst (λ t. IsTrue t) (sym honesty) honest) start (nested honest start n)
    (subst (λ (s : Sources). AllGiven s (length start.all) (f.openings b) y) (sym sources) (p honest start n given)))

-- a call behind another keeps them
pub went_then : {S : Type 0} (f : Files S) (a b c : S) (x y z : Open) → Went f a b x y → Went f b c y z → Went f a c x z
went_then f a b c x y z p q =
    let still : IsTrue (f.is_honest a) → IsTrue (f.is_honest b) = λ honest. subst (λ t. IsTrue t) (sym p.honesty) honest in
    record {
      sources = q.sources ∙ p.sources;
      honesty = q.honesty ∙ p.honesty;
      faults = omega (arith, p.faults, q.faults);
      depth = omega (arith, p.depth, q.depth);
      counted = λ base was. q.counted base (p.counted base was);
      opened = opens_then p.opened q.opened;
      nested = λ honest start nested. q.nested (still honest) start (p.nested honest start nested);
      stays_given = given_then f a b c x y z p.sources p.honesty p.nested p.stays_given q.stays_given;
    }

pub fit_then : {S : Type 0} (f : Files S) (a b c : S) (x y : Open) → Went f a b x y → StaysFit f a b x → StaysFit f b c y → StaysFit f a c x
fit_then f a b c x y w p q = λ honest start n given fit. q (subst (λ t. IsTrue t) (sym w.honesty) honest) start (w.nested honest start n)
    (subst (λ (s : Sources). AllGiven s (length start.all) (f.openings b) y) (sym w.sources) (w.stays_given honest start n given))
    (p honest start n given fit)

-- the open files may be given by an equal record
pub went_as : {S : Type 0} (f : Files S) (a b : S) (x y z : Open) → z ≡ y → Went f a b x y → Went f a b x z
went_as f a b x y z e w = subst (λ (o : Open). Went f a b x o) (sym e) w

-- a file that was not read behind a call was not read
pub unreadable_then : {S : Type 0} (f : Files S) (a b c : S) (x y z : Open) → Went f a b x y → IsUnreadable f b c y z →
    IsUnreadable f a c x z
unreadable_then f a b c x y z w (inl (inl less)) = inl (inl (omega (arith, w.faults, less)))
unreadable_then f a b c x y z w (inl (inr last)) = inl (inr last)
unreadable_then f a b c x y z w (inr (inl long)) = inr (inl long)
unreadable_then f a b c x y z w (inr (inr many)) = inr (inr many)

-- the innermost file was read on
pub reads_file : {S : Type 0} {f : Files S} {failed : Bool} {old new : S} {nest : Nest} {before after : Reader} {outer : List OpenFile}
    → ReadsOn f failed old new before.window after.window → after.file ≡ before.file
    → ReadsFile f failed old new (record { nest = nest; lexer = before; outer = outer })
    (record { nest = nest; lexer = after; outer = outer })
reads_file {f = f} {failed = failed} {old = old} {new = new} {nest = nest} {before = before} {after = after} {outer = outer} on file =
    record {
      went = record {
        sources = on.sources;
        honesty = on.honesty;
        faults = on.faults;
        depth = omega (arith, on.depth);
        counted = λ base was. counted_read base (f.counts old) (f.counts new) before.window.given after.window.given
            (map (λ (r : Reader). r.window.given) (lexers_of (reverse outer))) on.counts was;
        opened = subst⁻¹ (λ (names : List (List ℕ)). OpensOn nest.names nest.names (f.opened old) names) on.opened
            (opens_none nest.names (f.opened old));
        nested = λ honest start n. nested_on start (f.openings old) (f.openings new) (record { nest = nest; lexer = before; outer = outer })
            (record { nest = nest; lexer = after; outer = outer }) n (on.gave honest).places (on.gave honest).count refl;
        stays_given = λ honest start n given. read_given after on file honest n given;
      };
      on = on;
      opened = λ honest start n. opened_as_before (f.sources old) start (f.openings old) (f.openings new) on.bytes (on.gave honest);
      fits = unless_as failed (λ few honest start n given fit. read_fit after on file honest n given few fit) on.few;
      nest = refl;
      outer = refl;
      file = file;
    }

-- A file was entered.
pub went_in : {S : Type 0} {f : Files S} {failed : Bool} {old new : S} {before after : Open} → Tries f true failed old new
    → OpensOn before.nest.names after.nest.names (f.opened old) (f.opened new)
    → (waits : OpenFile) → waits.lexer ≡ before.lexer → after.outer ≡ before.outer ++ waits ∷ [] → after.lexer.window.given ≡ 0
    → Honestly f old before (λ start. IsNested start (f.openings new) after) → StaysGiven f old new before after
    → Went f old new before after
went_in {f = f} {old = old} {new = new} {before = before} {after = after} t opened waits same outer front nested stays = record {
  sources = t.sources;
  honesty = t.honesty;
  faults = t.faults;
  depth = omega (arith, t.depth, ap length outer, length-append before.outer (waits ∷ []));
  counted = λ base was. counted_in base (f.counts old) (f.counts new) (given_each before) (given_each after) t.counts
      (given_entered before after waits same outer front) was;
  opened = opened;
  nested = nested;
  stays_given = stays;
}

-- No file was entered.
pub went_by : {S : Type 0} {f : Files S} {failed : Bool} {old new : S} {before after : Open} → Tries f false failed old new
    → OpensOn before.nest.names after.nest.names (f.opened old) (f.opened new) → after ≡ before
    → Honestly f old before (λ start. IsNested start (f.openings new) before) → StaysGiven f old new before before
    → Went f old new before after
went_by {f = f} {old = old} {new = new} {before = before} t opened same nested stays =
    subst⁻¹ (λ (o : Open). Went f old new before o) same (record {
      sources = t.sources;
      honesty = t.honesty;
      faults = t.faults;
      depth = omega (arith, t.depth);
      counted = λ base was. subst⁻¹ (λ (c : Counts). AreCounted base (given_each before) c.each c.too_long) t.counts was;
      opened = subst (λ (o : Open). OpensOn before.nest.names o.nest.names (f.opened old) (f.opened new)) same opened;
      nested = nested;
      stays_given = stays;
    })

-- A file was left.
pub went_out : {S : Type 0} {f : Files S} {old new : S} {before after : Open} → ClosesInnermost f old new
    → (back : OpenFile) → after.lexer ≡ back.lexer → before.outer ≡ after.outer ++ back ∷ [] → after.nest.names ≡ before.nest.names
    → Went f old new before after
went_out {f = f} {old = old} {new = new} {before = before} {after = after} c back same outer names = record {
  sources = c.sources;
  honesty = c.honesty;
  faults = omega (arith, c.faults);
  depth = omega (arith, c.depth, ap length outer, length-append after.outer (back ∷ []));
  counted = λ base was. counted_out base (f.counts old) (f.counts new) (given_each before) (given_each after) before.lexer.window.given
      c.counts (given_left before after back same outer) was;
  opened = subst⁻¹ (λ (ns : List (List ℕ)). OpensOn before.nest.names ns (f.opened old) (f.opened new)) names
      (subst⁻¹ (λ (ns : List (List ℕ)). OpensOn before.nest.names before.nest.names (f.opened old) ns) c.opened
      (opens_none before.nest.names (f.opened old)));
  nested = λ honest start n. left_nested start (f.openings old) (f.openings new) before after back n (c.closes honest) outer same;
  stays_given = λ honest start n g.
      left_given (f.sources old) start (f.openings old) (f.openings new) before after n (c.closes honest) back outer same names g;
}

-- one name more than can be numbered was opened and closed
pub asked_too_many : {S : Type 0} {f : Files S} {new : S} {after : Open} {known : Nest} (name : List ℕ) → after.nest ≡ known
    → 65535 ≤ number_of name known.names → list_any (bytes_eq name) (f.opened new) ≡ true → AskedTooMany f new after
asked_too_many name same many is = record {
  name = name;
  is_too_many = subst⁻¹ (λ (n : Nest). 65535 ≤ number_of name n.names) same many;
  is_opened = is;
}
