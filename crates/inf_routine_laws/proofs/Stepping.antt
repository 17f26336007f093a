-- The units that change the innermost statement, in the book of labels: the step of a `for`, the objects of a loop, and cases.
use Rattle.std.specs.Prelude.{map, ◌+◌, ◌<◌, ◌⊎◌}
use Rattle.std.proofs.lemmas.Bool.{cases_lt}
use Rattle.std.proofs.Common.{Bool, List, None, Option, Some, [], ap, arith, false, inl, inr, refl, subst, sym, true, ℕ, ◌∙◌, ◌∷◌, ◌≡◌, ◌≤◌}
use Rattle.inf_expressions.specs.declared.findings.Finding.{Finding}
use Rattle.inf_scanner.specs.declared.tokens.Place.{Place}
use Rattle.inf_settings.specs.Bounds.{Limits}
use Rattle.inf_opcode.specs.Cells.{Cell}
use Rattle.inf_code.specs.Code.{Routines}
use Rattle.inf_output.specs.{Output.Code, Output.Out, Output.apart, Output.items_of, Output.together, declared.items.Item.Item}
use Rattle.inf_syntax.specs.declared.actions.Action.{Action}
use Rattle.inf_unit.proofs.Cases.{of_both}
use Rattle.inf_constructs.specs.{Labels.NamedLabel, Roots.tree_in, declared.constructs.Construct.Construct, declared.constructs.Kind.Kind}
use Rattle.inf_constructs.specs.{declared.constructs.Over.Over}
use Rattle.inf_constructs.specs.Constructs.{are_own, cases_begun, changed, closed, entered, entered_by, looped_over, opened, with_step}
use Rattle.inf_statements.specs.Statements.{alone}
use Rattle.inf_compilation.specs.{Context.Context, Nesting.constructs_laid}
use Rattle.inf_compilation.specs.Actions.{Compilation, named, passed, settled_of, trees_at}
use Rattle.inf_parts.specs.declared.parts.Part.{Part}
use Rattle.inf_parts.specs.Parts.{actions_named, case_prepared, found_in, has_last, is_default, order_of, part_begun, part_carried}
use Rattle.inf_parts.specs.Parts.{part_effect, part_finished, part_prepared, place_of, wanted_of}
use Rattle.inf_reader.specs.Acting.{act}
use Rattle.inf_statement_laws.specs.{Laid.laid, Laid.run, Nested.Case, Nested.Nested, Nested.Plain, Nested.Then}
use Rattle.inf_statement_laws.proofs.{Acts.quiet_run, Laying.laid_as}
use Rattle.inf_code_walk.specs.Made.{times}
use Rattle.inf_label_laws.specs.Labels.{marks, uses}
use Rattle.inf_label_laws.proofs.Owning.{Owned, Settles, some_of_two}
use Rattle.inf_routine_laws.proofs.Acting.{settled_good}
use Rattle.inf_routine_laws.proofs.Balance.{Good, cased, cased_in, good_as, loop_due, named_all, named_due, reached, reached_in, top_known}
use Rattle.inf_routine_laws.proofs.Booking.{Booked, Counts, booked_as, cell_marks, cell_uses}
use Rattle.inf_routine_laws.proofs.Constructing.{IsLooped, alone_owns, ends_cases, ends_switch, looped_good, not_looped}
use Rattle.inf_constructs.specs.declared.constructs.Case.TheVariants as case

-- The step of a `for`: its items are kept apart, and their labels are due from there on.

booked_apart : (due spare need : Counts) (low high : ℕ) (cells : List Cell) (items : List Item) → Booked due spare need low cells →
    Settles [] [] low high items →
    Booked (λ n. times n (marks items) + due n) spare (λ n. times n (uses items) + need n) high cells
booked_apart due spare need low high cells items b s = record {
  once = λ n. once n (cases_lt n low);
  over = λ n more.
      let p = b.over n (let r = s.within.grows in omega (arith, more, r)) in
      let q = s.within.over n more in
      omega (arith, p, q);
  known = λ n used. known n (some_of_two (times n (uses items)) (times n (cell_uses cells) + need n) (parted n used));
}
  where
    once : (n : ℕ) → (n < low) ⊎ (low ≤ n) → times n (cell_marks cells) + (times n (marks items) + due n) + spare n ≤ 1
    once n (inl less) = let p = b.once n in let q = s.within.below n less in omega (arith, p, q)
    once n (inr more) = let p = b.over n more in let q = s.within.once n in omega (arith, p, q)

    parted : (n : ℕ) → 1 ≤ times n (cell_uses cells) + (times n (uses items) + need n) →
        1 ≤ times n (uses items) + (times n (cell_uses cells) + need n)
    parted n used = omega (arith, used)

    known : (n : ℕ) → (1 ≤ times n (uses items)) ⊎ (1 ≤ times n (cell_uses cells) + need n) →
        1 ≤ times n (cell_marks cells) + (times n (marks items) + due n)
    known n (inl own) = let p = s.known n own in omega (arith, p)
    known n (inr before) = let p = b.known n before in omega (arith, p)

abbrev pub marks_due : Option (List Item) → Counts → Counts
marks_due step due n = times n (marks (items_of step)) + due n

abbrev pub uses_known : Option (List Item) → Counts → Counts
uses_known step extra n = times n (uses (items_of step)) + extra n

stepped_good : (code : Code) → Owned code [] [] → (due spare extra : Counts) (labels : List NamedLabel) (c : Construct)
    (around : List Construct) (o : Out) → c.kind ≡ Kind.For → Good due spare extra labels (c ∷ around) o →
    let step = Some (items_of (code (apart o)).kept) in
    Good (marks_due step due) spare (uses_known step extra) labels (record c { step = step } ∷ around) (together (code (apart o)))
stepped_good code owned due spare extra labels c around o e g =
    let x = owned (apart o) in
    let kept : items_of (code (apart o)).kept ≡ x.items = ap items_of x.laid.kept in
    subst (λ items. Good (marks_due (Some items) due) spare (uses_known (Some items) extra) labels
    (record c { step = Some items } ∷ around) (together (code (apart o)))) (sym kept)
    (record {
      together = refl;
      sound = record {
        holds = λ fits few now is.
            let before = g.sound.holds (x.laid.fits fits)
            (let r = (x.own few).within.grows in omega (arith, few, r)) now
            (sym (ap (λ (r : Routines). r.opened) (x.laid.code fits)) ∙ is) in
            let d = record c { step = Some x.items } in
            let i = λ (n : ℕ). ap (cased_in n d) e in
            let j = λ (n : ℕ). ap (cased_in n c) e in
            let k = λ (n : ℕ). ap (reached_in n d) e in
            let l = λ (n : ℕ). ap (reached_in n c) e in
            booked_as (λ n. times n (marks x.items) + (due n + (named_due n labels + cased n (c ∷ around)))) spare
            (λ n. times n (uses x.items) + (extra n + (reached n (c ∷ around) + named_all n labels)))
            (λ n. marks_due (Some x.items) due n + (named_due n labels + cased n (d ∷ around))) spare
            (λ n. uses_known (Some x.items) extra n + (reached n (d ∷ around) + named_all n labels)) (code (apart o)).next
            now.contents.cells
            (booked_apart (λ n. due n + (named_due n labels + cased n (c ∷ around))) spare
            (λ n. extra n + (reached n (c ∷ around) + named_all n labels)) o.next (code (apart o)).next now.contents.cells x.items before
            (x.own few))
            (λ n. let p = i n in let q = j n in omega (arith, p, q))
            (λ n. let p = i n in let q = j n in omega (arith, p, q))
            (λ n some. let p = k n in let q = l n in omega (arith, p, q, some));
      };
    })

-- A `for` with its step, if it has one without an error
pub record IsStepped (due spare extra : Counts) (labels : List NamedLabel) (c : Construct) (around constructs : List Construct) (o : Out) :
    Type 0 where
  pub step : Option (List Item)
  pub is : constructs ≡ record c { step = step } ∷ around
  pub good : Good (marks_due step due) spare (uses_known step extra) labels (record c { step = step } ∷ around) o

pub not_stepped : (due spare extra : Counts) (labels : List NamedLabel) (c : Construct) (around : List Construct) (o : Out) →
    c.step ≡ None → Good due spare extra labels (c ∷ around) o → IsStepped due spare extra labels c around (c ∷ around) o
not_stepped due spare extra labels c around o e g = record {
  step = None;
  is = ap (λ s. record c { step = s } ∷ around) e;
  good = subst (λ s. Good (marks_due None due) spare (uses_known None extra) labels (record c { step = s } ∷ around) o) e
      (good_as due spare extra (marks_due None due) spare (uses_known None extra) labels (c ∷ around) (c ∷ around) o
      (record { once = λ n. omega arith; all = λ n. omega arith; known = λ n. omega arith }) g);
}

step_carried : (limits : Limits) (context : Context) (first : Place) (f : Option Finding) (due spare extra : Counts) (c : Construct)
    (around : List Construct) (w : Compilation) → w.constructs ≡ c ∷ around → c.kind ≡ Kind.For → c.step ≡ None →
    Good due spare extra w.labels (c ∷ around) w.output →
    let v = part_carried limits context first Part.Step f w in IsStepped due spare extra v.labels c around v.constructs v.output
unfolding part_effect
step_carried limits context first (Some f) due spare extra c around w is e none g =
    subst (λ l. IsStepped due spare extra w.labels c around l w.output) (sym is)
    (not_stepped due spare extra w.labels c around w.output none g)
step_carried limits context first None due spare extra c around w is e none g =
    let s = settled_of limits context w in
    let o = record s.out { first = first } in
    let trees = map tree_in (trees_at (order_of Part.Step w) (wanted_of Part.Step) s.operands w) in
    let code = alone limits trees in
    let before = settled_good limits context first due spare extra w
    (subst (λ l. Good due spare extra w.labels l w.output) (sym is) g) in record {
      step = Some (items_of (code (apart o)).kept);
      is = ap (with_step (Some (items_of (code (apart o)).kept))) is;
      good = stepped_good code (alone_owns limits trees) due spare extra w.labels c around o e
          (subst (λ l. Good due spare extra w.labels l o) is before);
    }

pub step_ends_good : (limits : Limits) (context : Context) (place : Place) (due spare extra : Counts) (c : Construct)
    (around : List Construct) (w : Compilation) → w.constructs ≡ c ∷ around → c.kind ≡ Kind.For → c.step ≡ None →
    Good due spare extra w.labels (c ∷ around) w.output →
    let v = act limits context place Action.EndForStep w in IsStepped due spare extra v.labels c around v.constructs v.output
step_ends_good limits context place due spare extra c around w is e none g =
    let p = Part.Step in
    let ready = part_prepared w in
    of_both (λ (v : Compilation). IsStepped due spare extra v.labels c around v.constructs v.output) w.is_replaced (passed (has_last p) w)
    (part_finished limits context (place_of p place ready) p ready)
    (λ _. subst (λ l. IsStepped due spare extra w.labels c around l w.output) (sym is)
    (not_stepped due spare extra w.labels c around w.output none g))
    (λ _. step_carried limits context (place_of p place ready) (found_in limits context p ready) due spare extra c around (named ready) is e
    none g)

-- Lemmas about the objects of a loop

abbrev pub IsLoopedIn : Counts → Counts → Counts → Construct → List Construct → Compilation → Type 0
IsLoopedIn due spare extra c around v = IsLooped due spare extra v.labels c around v.constructs v.output

loop_carried : (limits : Limits) (context : Context) (first : Place) (f : Option Finding) (due spare extra : Counts) (c : Construct)
    (around : List Construct) (w : Compilation) → w.constructs ≡ c ∷ around → c.kind ≡ Kind.Objects Over.Nothing 0 →
    Good (loop_due c due) spare (top_known c extra) w.labels (c ∷ around) w.output →
    IsLoopedIn due spare extra c around (part_carried limits context first Part.Loop f w)
unfolding part_effect
loop_carried limits context first (Some f) due spare extra c around w is e g =
    subst (λ l. IsLooped due spare extra w.labels c around l w.output) (sym is) (not_looped due spare extra w.labels c around w.output e g)
loop_carried limits context first None due spare extra c around w is e g =
    let s = settled_of limits context w in
    let o = record s.out { first = first } in
    let trees = trees_at (order_of Part.Loop w) (wanted_of Part.Loop) s.operands w in
    let before = settled_good limits context first (loop_due c due) spare (top_known c extra) w
    (subst (λ l. Good (loop_due c due) spare (top_known c extra) w.labels l w.output) (sym is) g) in
    subst (λ l. let r = looped_over limits trees l o in IsLooped due spare extra w.labels c around r.0 r.1) (sym is)
    (looped_good limits trees due spare extra w.labels c around o e
    (subst (λ l. Good (loop_due c due) spare (top_known c extra) w.labels l o) is before))

pub loop_ends_good : (limits : Limits) (context : Context) (place : Place) (due spare extra : Counts) (c : Construct)
    (around : List Construct) (w : Compilation) → w.constructs ≡ c ∷ around → c.kind ≡ Kind.Objects Over.Nothing 0 →
    Good (loop_due c due) spare (top_known c extra) w.labels (c ∷ around) w.output →
    IsLoopedIn due spare extra c around (act limits context place Action.EndObjectloop w)
loop_ends_good limits context place due spare extra c around w is e g =
    let p = Part.Loop in
    let ready = part_prepared w in
    of_both (IsLoopedIn due spare extra c around) w.is_replaced (passed (has_last p) w)
    (part_finished limits context (place_of p place ready) p ready)
    (λ _. subst (λ l. IsLooped due spare extra w.labels c around l w.output) (sym is)
    (not_looped due spare extra w.labels c around w.output e g))
    (λ _. loop_carried limits context (place_of p place ready) (found_in limits context p ready) due spare extra c around
    (named ready) is e g)

-- Cases: the innermost statement stays a `switch`, or the routine's own cases.

abbrev pub case_kind : Kind → Bool
case_kind (Kind.Switch old had_default) = true
case_kind (Kind.Cases old had_default) = true
case_kind _ = false

abbrev pub case_inside : List Construct → Bool
case_inside [] = true
case_inside (c ∷ constructs) = case_kind c.kind

kind_entered : (limits : Limits) (k : Kind) (b : Bool) (c : Construct) (o : Out) → case_kind k ≡ true → case_kind c.kind ≡ true →
    case_kind (entered_by limits k b c o).0.kind ≡ true
kind_entered limits (Kind.Switch old had_default) true c o h e = refl
kind_entered limits (Kind.Switch old had_default) false c o h e = refl
kind_entered limits (Kind.Cases old had_default) true c o h e = refl
kind_entered limits (Kind.Cases old had_default) false c o h e = refl
kind_entered limits _ b c o h e = e

inside_entered : (limits : Limits) (b : Bool) (constructs : List Construct) (o : Out) → case_inside constructs ≡ true →
    case_inside (changed (entered limits b) constructs o).0 ≡ true
unfolding entered
inside_entered limits b [] o h = refl
inside_entered limits b (c ∷ constructs) o h = kind_entered limits c.kind b c o h h

kind_begun : (limits : Limits) (k : Kind) (o : Out) → case_kind (opened limits k o).0.kind ≡ case_kind k
unfolding opened
kind_begun limits k o = refl

inside_begun : (limits : Limits) (constructs : List Construct) (o : Out) → case_inside constructs ≡ true →
    case_inside (cases_begun limits constructs o).0 ≡ true
inside_begun limits [] o h = kind_begun limits (Kind.Cases case.Nothing false) o
inside_begun limits (c ∷ constructs) o h = h

actions_inside : (b : Bool) (w : Compilation) → (actions_named b w).constructs ≡ w.constructs
actions_inside true w = refl
actions_inside false w = refl

carried_inside : (limits : Limits) (context : Context) (first : Place) (f : Option Finding) (w : Compilation) →
    (part_carried limits context first Part.Case f w).constructs ≡ w.constructs
unfolding part_effect
carried_inside limits context first (Some f) w = refl
carried_inside limits context first None w = refl

case_ends_inside : (limits : Limits) (context : Context) (place : Place) (w : Compilation) → case_inside w.constructs ≡ true →
    case_inside (act limits context place Action.EndCase w).constructs ≡ true
case_ends_inside limits context place w h =
    let before = part_prepared w in
    let ready = case_prepared limits Part.Case before in
    let at = place_of Part.Case place ready in
    let begun = constructs_laid (cases_begun limits before.constructs) before in
    let entering = part_begun limits Part.Case ready in
    of_both (λ (v : Compilation). case_inside v.constructs ≡ true) w.is_replaced (passed (has_last Part.Case) w)
    (part_finished limits context at Part.Case ready)
    (λ _. h)
    (λ _. ap case_inside (carried_inside limits context at (found_in limits context Part.Case ready) (named entering))
    ∙ inside_entered limits (is_default ready.unit.items) ready.constructs ready.output
    (ap case_inside (actions_inside (are_own begun.constructs) begun) ∙ inside_begun limits before.constructs before.output h))

pub switch_stays : {b : Bool} (limits : Limits) (context : Context) (n : Nested b) (w : Compilation) → w.closed ≡ 0 →
    case_inside w.constructs ≡ true → case_inside (laid limits context n w).constructs ≡ true
switch_stays limits context (Plain plain) w e h = ap case_inside (quiet_run limits context plain.all w plain.are).0 ∙ h
switch_stays limits context (Then before behind) w e h =
    let one = laid_as limits context before w e in
    switch_stays limits context behind (laid limits context before w) one.none_ahead (switch_stays limits context before w e h)
switch_stays limits context (Case values ends) w e h = case_ends_inside limits context ends.place (run limits context values.all w)
    (ap case_inside (quiet_run limits context values.all w values.are).0 ∙ h)
switch_stays limits context other w e h = h

pub ends_case_kind : (limits : Limits) (k : Kind) (due spare extra : Counts) (labels : List NamedLabel) (c : Construct)
    (around : List Construct) (o : Out) → c.kind ≡ k → case_kind k ≡ true → Good due spare extra labels (c ∷ around) o →
    Good due spare extra labels around (closed limits c o)
ends_case_kind limits (Kind.Switch old had_default) due spare extra labels c around o e h g =
    ends_switch limits due spare extra labels c around o old had_default e g
ends_case_kind limits (Kind.Cases old had_default) due spare extra labels c around o e h g =
    ends_cases limits due spare extra labels c around o old had_default e g
ends_case_kind limits _ due spare extra labels c around o e h g = cc
