-- Each opening has a front of its source as its given bytes, and each open file is tracked.
use Rattle.std.proofs.Common.{◌≡◌, ◌⊎◌, inl, inr, ℕ, suc, zero, ◌-◌, ◌<◌, ◌≤◌, List, [], ◌∷◌, ◌++◌, length, reverse, get_or, unwrap_or}
use Rattle.std.proofs.Common.{Bool, IsTrue}
use Rattle.std.proofs.Common.{Some, refl, sym, ap, subst, ◌∙◌, arith, append_assoc, length-append, slice_get}
use Rattle.std.proofs.{Math.Path.subst⁻¹, Math.Seq.get_or-append_seam, lemmas.Bool.cases_lt}
use Rattle.inf_characters.specs.declared.characters.CharSet.{CharSet}
use Rattle.inf_devices.specs.{Files.Closes, Files.Opening, Files.Openings, Files.Sources, Files.opened}
use Rattle.inf_devices.specs.{declared.files.Files.Ghosts as Files}
use Rattle.inf_lexer.specs.{Entering.ClosedAgain, Entering.with_closed, Entering.with_opened, Names.Nest, Names.entered, Names.number_of}
use Rattle.inf_lexer.specs.{Readers.Reader, Readers.at_front}
use Rattle.inf_lexer.specs.{Reading.ReadsOn, Unread.Gave, Unread.innermost, Unread.innermost_place, Unread.unread_of}
use Rattle.inf_sources.specs.{Open.AllGiven, Open.AreNested, Open.AreTracked, Open.Each, Open.Fits, Open.IsCounted, Open.IsFrontOf}
use Rattle.inf_sources.specs.{Open.IsNested, Open.IsTracked, Open.Open, Open.lexers, Open.lexers_of, declared.open_file.OpenFile.OpenFile}
use Rattle.inf_sources.proofs.{NamesKept.named_at, NamesKept.names_stay, Openings.slice_front}
use Rattle.inf_sources.proofs.Places.{Innermost, innermost_of, last_of, or_same, reverse_last}

-- two places are the same or not
same_place : (i at : ℕ) → (i ≡ at) ⊎ (i ≡ at → ⊥)
same_place zero zero = inl refl
same_place zero (suc at) = inr (λ e. absurd (omega (arith, e)))
same_place (suc i) zero = inr (λ e. absurd (omega (arith, e)))
same_place (suc i) (suc at) = next (same_place i at) where
  next : (i ≡ at) ⊎ (i ≡ at → ⊥) → (suc i ≡ suc at) ⊎ (suc i ≡ suc at → ⊥)
  next (inl e) = inl (ap suc e)
  next (inr other) = inr (λ e. other (omega (arith, e)))

-- the bytes given and the next ones are a front
next_front : (s : Sources) (old new : Opening) (bytes : List ℕ) → IsFrontOf s old → unread_of s old ≡ bytes ++ unread_of s new →
    new.given ≡ old.given ++ bytes → new.name ≡ old.name → IsFrontOf s new
next_front s old new bytes front next given name =
    ap (λ (x : List ℕ). unwrap_or (s x) []) name ∙ front ∙ ap (λ (x : List ℕ). old.given ++ x) next
    ∙ sym (append_assoc old.given bytes (unread_of s new)) ∙ ap (λ (x : List ℕ). x ++ unread_of s new) (sym given)

-- The names under their numbers are the same among more names.
abbrev NamesStay : List (List ℕ) → List (List ℕ) → Type 0
NamesStay known names = (i : ℕ) (name : List ℕ) → slice_get known i ≡ Some name → slice_get names i ≡ Some name

-- lexers of openings that did not change are tracked
tracked_same : (s : Sources) (n : ℕ) (known names : List (List ℕ)) (old new : List Opening) (bound : ℕ) (places : List ℕ)
    (readers : List Reader) → NamesStay known names
    → AreNested bound places readers → ((i : ℕ) → i < bound → slice_get new i ≡ slice_get old i) → AreTracked s n known old places readers
    → AreTracked s n names new places readers
tracked_same s n known names old new bound places [] stay h same t = tt
tracked_same s n known names old new bound [] (r ∷ readers) stay h same t = absurd h
tracked_same s n known names old new bound (p ∷ places) (r ∷ readers) stay h same t =
    let here : get_or new p (opened []) ≡ get_or old p (opened []) = or_same old new p (same p h.0) in (
      record {
        behind = t.0.behind;
        named = stay r.file _ t.0.named ∙ ap (λ (o : Opening). Some o.name) (sym here);
        counted = subst (λ (o : Opening). IsCounted s o r.window) (sym here) t.0.counted;
      },
      tracked_same s n known names old new p places readers stay h.1 (λ i less. same i (omega (arith, less, h.0))) t.1,
    )

-- Lemmas for the case that the innermost file gave some bytes

-- a statement holds of each opening where it held of each before, and holds of the innermost one now
read_each : (P : Opening → Type 0) (s : Sources) (n : ℕ) (old new : Openings) (bytes : List ℕ) → Gave s old new bytes → P (innermost new) →
    Each P n old.all → Each P n new.all
read_each P s n old new bytes gave here each = λ i le lt. at i le lt (same_place i (innermost_place old)) where
  place : innermost_place new ≡ innermost_place old
  place = ap (λ (ps : List ℕ). get_or ps (length ps - 1) 0) gave.places

  at : (i : ℕ) → n ≤ i → i < length new.all → (i ≡ innermost_place old) ⊎ (i ≡ innermost_place old → ⊥) → P (get_or new.all i (opened []))
  at i le lt (inl e) = subst (λ (k : ℕ). P (get_or new.all k (opened []))) (place ∙ sym e) here
  at i le lt (inr other) =
      subst (λ (o : Opening). P o) (sym (or_same old.all new.all i (gave.others i other))) (each i le (omega (arith, lt, gave.count)))

-- the innermost file was read on, by a lexer that is `r` then
module _ {S : Type 0} {f : Files S} {failed : Bool} {a b : S} {nest : Nest} {q : Reader} {outer : List OpenFile} {start : Openings}
    (r : Reader) (on : ReadsOn f failed a b q.window r.window) (file : r.file ≡ q.file) (honest : IsTrue (f.is_honest a))
    (nested : IsNested start (f.openings a) (record { nest = nest; lexer = q; outer = outer }))
    (given : AllGiven (f.sources a) (length start.all) (f.openings a) (record { nest = nest; lexer = q; outer = outer })) where
  gave : Gave (f.sources a) (f.openings a) (f.openings b) on.bytes
  gave = on.gave honest

  at : Innermost (length (f.openings a).all) (reverse (f.openings a).open_places) (lexers_of (reverse outer))
  at = innermost_of (length (f.openings a).all) (reverse (f.openings a).open_places) q (lexers_of (reverse outer)) nested.nested

  place : innermost_place (f.openings a) ≡ at.place
  place = last_of (f.openings a).open_places at.place at.rest at.is

  was : AreTracked (f.sources a) (length start.all) nest.names (f.openings a).all (at.place ∷ at.rest) (q ∷ lexers_of (reverse outer))
  was = subst (λ (ps : List ℕ). AreTracked (f.sources a) (length start.all) nest.names (f.openings a).all ps
      (q ∷ lexers_of (reverse outer))) at.is given.tracked

  -- the innermost file is still tracked
  first : IsTracked (f.sources a) (length start.all) nest.names (f.openings b).all at.place r
  first =
      let here : (innermost_place (f.openings b)) ≡ at.place = ap (λ (ps : List ℕ). get_or ps (length ps - 1) 0) gave.places ∙ place in
      let before = subst⁻¹ (λ (k : ℕ). IsTracked (f.sources a) (length start.all) nest.names (f.openings a).all k q) place was.0 in
      let counted : IsCounted (f.sources a) (innermost (f.openings b)) r.window = record {
        count = omega (
          arith,
          ap length gave.given,
          length-append (innermost (f.openings a)).given on.bytes,
          before.counted.count,
          on.given,
        );
        window = on.window;
        ends = on.end honest before.counted.ends;
        goes_on = on.still honest before.counted.goes_on;
      } in
      record {
        behind = was.0.behind;
        named = ap (λ (k : ℕ). slice_get nest.names k) file ∙ before.named ∙ ap (λ (x : List ℕ). Some x) (sym gave.name)
            ∙ ap (λ (k : ℕ). Some (get_or (f.openings b).all k (opened [])).name) here;
        counted = subst (λ (k : ℕ). IsCounted (f.sources a) (get_or (f.openings b).all k (opened [])) r.window) here counted;
      }

  pub read_given : AllGiven (f.sources a) (length start.all) (f.openings b) (record { nest = nest; lexer = r; outer = outer })
  read_given =
      let rest : AreTracked (f.sources a) (length start.all) nest.names (f.openings b).all at.rest (lexers_of (reverse outer)) =
      tracked_same (f.sources a) (length start.all) nest.names nest.names (f.openings a).all (f.openings b).all at.place at.rest
      (lexers_of (reverse outer)) (λ i name e. e) at.inner (λ i less. gave.others i (λ e. omega (arith, less, e, place))) was.1 in
      let front : IsFrontOf (f.sources a) (innermost (f.openings b)) =
      next_front (f.sources a) (innermost (f.openings a)) (innermost (f.openings b)) on.bytes
      (given.each (innermost_place (f.openings a)) (omega (arith, place, was.0.behind))
      (omega (arith, place, at.less))) gave.next gave.given gave.name in
      record {
        each = read_each (IsFrontOf (f.sources a)) (f.sources a) (length start.all) (f.openings a) (f.openings b) on.bytes gave front
            given.each;
        tracked = subst⁻¹ (λ (ps : List ℕ). AreTracked (f.sources a) (length start.all) nest.names (f.openings b).all ps
            (r ∷ lexers_of (reverse outer))) (ap reverse gave.places ∙ at.is) (first, rest);
      }

  -- as long as its lexer was given few bytes, no opening was given more
  pub read_fit : r.window.given ≤ 16777216 → Each Fits (length start.all) (f.openings a).all
      → Each Fits (length start.all) (f.openings b).all
  read_fit few fit =
      let here : (innermost_place (f.openings b)) ≡ at.place = ap (λ (ps : List ℕ). get_or ps (length ps - 1) 0) gave.places ∙ place in
      read_each Fits (f.sources a) (length start.all) (f.openings a) (f.openings b) on.bytes gave
      (subst⁻¹ (λ (k : ℕ). Fits (get_or (f.openings b).all k (opened []))) here (omega (arith, first.counted.count, few))) fit

-- Lemmas about one more opening

each_more : (P : Opening → Type 0) (n : ℕ) (all : List Opening) (name : List ℕ) → P (opened name) → Each P n all →
    Each P n (all ++ opened name ∷ [])
each_more P n all name here each = λ i le lt. at i le lt (same_place i (length all)) where
  at : (i : ℕ) → n ≤ i → i < length (all ++ opened name ∷ []) → (i ≡ length all) ⊎ (i ≡ length all → ⊥) →
      P (get_or (all ++ opened name ∷ []) i (opened []))
  at i le lt (inl e) =
      subst (λ (o : Opening). P o) (sym (ap (λ (k : ℕ). get_or (all ++ opened name ∷ []) k (opened [])) e ∙ get_or-append_seam all
      (opened name) [] (opened []))) here
  at i le lt (inr other) =
      let less : i < length all = front i lt other in
      subst (λ (o : Opening). P o) (sym (or_same all (all ++ opened name ∷ []) i (slice_front all (opened name) i less))) (each i le less)
    where
      front : (i : ℕ) → i < length (all ++ opened name ∷ []) → (i ≡ length all → ⊥) → i < length all
      front i lt other = by (cases_lt i (length all)) where
        by : (i < length all) ⊎ (length all ≤ i) → i < length all
        by (inl less) = less
        by (inr more) = absurd (other (omega (arith, lt, more, length-append all (opened name ∷ []))))

pub fit_more : (n : ℕ) (all : List Opening) (name : List ℕ) → Each Fits n all → Each Fits n (all ++ opened name ∷ [])
fit_more n all name fit = each_more Fits n all name (omega arith) fit

pub none_fit : (all : List Opening) (name : List ℕ) → Each Fits (length all) (all ++ opened name ∷ [])
none_fit all name = fit_more (length all) all name (λ i le lt. absurd (omega (arith, le, lt)))

-- one more file
tracked_new : (s : Sources) (n : ℕ) (all : List Opening) (name : List ℕ) (nest : Nest) (set : CharSet) (limit : ℕ) → n ≤ length all
    → IsTracked s n (entered name nest).names (all ++ opened name ∷ []) (length all) (at_front set limit (number_of name nest.names))
tracked_new s n all name nest set limit behind =
    let here : get_or (all ++ opened name ∷ []) (length all) (opened []) ≡ opened name =
    get_or-append_seam all (opened name) [] (opened []) in
    record {
      behind = behind;
      named = named_at name nest.names ∙ ap (λ (o : Opening). Some o.name) (sym here);
      counted = subst (λ (o : Opening). IsCounted s o (at_front set limit (number_of name nest.names)).window) (sym here)
          (record { count = refl; window = omega arith; ends = λ e. cc; goes_on = λ e. refl });
    }

pub entered_given : (s : Sources) (start old new : Openings) (before after : Open) (name : List ℕ) (set : CharSet) (limit : ℕ) →
    IsNested start old before → new ≡ with_opened name old → after.nest ≡ entered name before.nest → after.lexer ≡ at_front set limit
    (number_of name before.nest.names)
    → (f : OpenFile) → f.lexer ≡ before.lexer → after.outer ≡ before.outer ++ f ∷ [] → AllGiven s (length start.all) old before →
    AllGiven s (length start.all) new after
entered_given s start old new before after name set limit nested opens nest fronts f waits outer given =
    let n : ℕ = length start.all in let all : List Opening = old.all ++ opened name ∷ [] in
    let names : List (List ℕ) = (entered name before.nest).names in
    let front : Reader = at_front set limit (number_of name before.nest.names) in
    let rest : AreTracked s n names all (reverse old.open_places) (lexers before) =
    tracked_same s n before.nest.names names old.all all (length old.all) (reverse old.open_places) (lexers before)
    (λ i x e. names_stay name before.nest.names i x e) nested.nested (λ i less. slice_front old.all (opened name) i less) given.tracked in
    let readers : lexers_of (reverse after.outer) ≡ lexers before =
    ap (λ (fs : List OpenFile). lexers_of (reverse fs)) outer ∙ ap lexers_of (reverse_last before.outer f)
    ∙ ap (λ (r : Reader). r ∷ lexers_of (reverse before.outer)) waits in
    let tracked : AreTracked s n names all (length old.all ∷ reverse old.open_places) (front ∷ lexers before) =
    (tracked_new s n old.all name before.nest set limit nested.more, rest) in
    subst (λ (o : Openings). AllGiven s n o after) (sym opens) (record {
      each = each_more (IsFrontOf s) n old.all name refl given.each;
      tracked = rw (nest, reverse_last old.open_places (length old.all), fronts, readers) tracked;
    })

-- the main source alone
pub main_given : (s : Sources) (old new : Openings) (files : Open) (name : List ℕ) (nest : Nest) (set : CharSet) (limit : ℕ) →
    new ≡ with_opened name old
    → files.nest ≡ entered name nest → files.lexer ≡ at_front set limit (number_of name nest.names) → files.outer ≡ [] → AllGiven s
    (length old.all) new files
main_given s old new files name nest set limit opens enters fronts outer =
    let n : ℕ = length old.all in let all : List Opening = old.all ++ opened name ∷ [] in
    let front : Reader = at_front set limit (number_of name nest.names) in
    subst (λ (o : Openings). AllGiven s n o files) (sym opens) (record {
      each = each_more (IsFrontOf s) n old.all name refl (λ i le lt. absurd (omega (arith, le, lt)));
      tracked = rw (enters, reverse_last old.open_places (length old.all), fronts, outer)
          (tracked_new s n old.all name nest set limit (omega arith), tt);
    })

-- one more opening, which was closed at once
closed_given : (s : Sources) (start old : Openings) (files : Open) (name : List ℕ) → IsNested start old files →
    AllGiven s (length start.all) old files → AllGiven s (length start.all) (with_closed name old) files
closed_given s start old files name nested given = record {
  each = each_more (IsFrontOf s) (length start.all) old.all name refl given.each;
  tracked = tracked_same s (length start.all) files.nest.names files.nest.names old.all (old.all ++ opened name ∷ []) (length old.all)
      (reverse old.open_places) (lexers files)
      (λ i x e. e) nested.nested (λ i less. slice_front old.all (opened name) i less) given.tracked;
}

-- where the reader failed, or a name was one too many
pub failed_given : (s : Sources) (known names : List (List ℕ)) (start old new : Openings) (files : Open) → IsNested start old files
    → (new ≡ old) ⊎ ClosedAgain s known names old new → AllGiven s (length start.all) old files → AllGiven s (length start.all) new files
failed_given s known names start old new files n (inl same) g = subst (λ (o : Openings). AllGiven s (length start.all) o files) (sym same) g
failed_given s known names start old new files n (inr c) g =
    subst (λ (o : Openings). AllGiven s (length start.all) o files) (sym c.is_closed) (closed_given s start old files c.name n g)

pub failed_fit : (s : Sources) (known names : List (List ℕ)) (n : ℕ) (old new : Openings) →
    (new ≡ old) ⊎ ClosedAgain s known names old new → Each Fits n old.all → Each Fits n new.all
failed_fit s known names n old new (inl same) fit = subst (λ (o : Openings). Each Fits n o.all) (sym same) fit
failed_fit s known names n old new (inr c) fit =
    subst (λ (o : Openings). Each Fits n o.all) (sym c.is_closed) (fit_more n old.all c.name fit)

-- The innermost file was left.
pub left_given : (s : Sources) (start old new : Openings) (before after : Open) → IsNested start old before → Closes old new →
    (f : OpenFile) → before.outer ≡ after.outer ++ f ∷ [] → after.lexer ≡ f.lexer
    → after.nest.names ≡ before.nest.names → AllGiven s (length start.all) old before → AllGiven s (length start.all) new after
left_given s start old new before after nested closes f outer back names given =
    let n : ℕ = length start.all in
    let places : reverse old.open_places ≡ closes.place ∷ reverse new.open_places =
    ap reverse closes.innermost ∙ reverse_last new.open_places closes.place in
    let readers : lexers_of (reverse before.outer) ≡ lexers after =
    ap (λ (fs : List OpenFile). lexers_of (reverse fs)) outer ∙ ap lexers_of (reverse_last after.outer f)
    ∙ ap (λ (r : Reader). r ∷ lexers_of (reverse after.outer)) (sym back) in
    let was : AreTracked s n before.nest.names old.all (closes.place ∷ reverse new.open_places) (lexers before) =
    subst (λ (ps : List ℕ). AreTracked s n before.nest.names old.all ps (lexers before)) places given.tracked in
    record { each = rw closes.same given.each; tracked = rw (names, closes.same, ← readers) was.1 }
