use Rattle.std.proofs.Common.{◌≡◌, length, ◌++◌, [], ◌∷◌, map, refl, reverse, sym, ap, ◌∙◌, arith}
use Rattle.std.proofs.Math.Path.{subst⁻¹}
use Rattle.inf_characters.specs.declared.characters.CharSet.{CharSet}
use Rattle.inf_devices.specs.Files.{Openings}
use Rattle.inf_lexer.specs.Readers.{Reader}
use Rattle.inf_lexer.proofs.Reading.{fault_is}
use Rattle.inf_sources.specs.Inclusions.{Opens, answer_of, nested_by}
use Rattle.inf_sources.specs.Open.{Each, Fits, Open, nesting, opened_since, waits}
use Rattle.inf_sources.proofs.Answering.{deep_is, entered_fits, entered_is, entered_nested_of, first_is, includes_none, nesting_same}
use Rattle.inf_sources.proofs.{Answering.opened_in_vain, Answering.unfit_is, Calls.went_as, Calls.went_in, Calls.went_none}
use Rattle.inf_sources.proofs.{Fronts.entered_given, Fronts.fit_more, Including.device_cause, Including.fit_failed, Including.open_same}
use Rattle.inf_sources.proofs.Including.{went_failed}
use Rattle.inf_sources.proofs.open_files.OpenFiles.include.Goals as goal

-- the files that wait behind a file that was entered
outer_is : (g : _) (c : goal.After-push_reserved g) → c.push_reserved.new.self.items
    ≡ c.self.inside.outer.items ++ waits c.self.inside.lexer c.args.conditionals.now c.args.is_system.now ∷ []
outer_is g c = c.push_reserved.ensures.items
    ∙ ap (λ r. c.reserve.new.self.items ++ waits r c.replace-in-Ok.result c.replace-in-Ok-2.result ∷ []) c.replace.ensures.value
    ∙ ap (λ v. c.reserve.new.self.items ++ waits c.self.inside.lexer v c.replace-in-Ok-2.result ∷ []) c.replace-in-Ok.ensures.value
    ∙ ap (λ b. c.reserve.new.self.items ++ waits c.self.inside.lexer c.args.conditionals.now b ∷ []) c.replace-in-Ok-2.ensures.value
    ∙ ap (λ fs. fs ++ waits c.self.inside.lexer c.args.conditionals.now c.args.is_system.now ∷ []) c.in_ok-reserve.ensures.items

pub invariant_of-self-in-Ok : goal.invariant_of-self-in-Ok
invariant_of-self-in-Ok g c =
    let inv = c.self.invariant in let e = c.in-Ok.ensures.attempt.entered in
    let goes = ap (λ (o : Open). o.lexer.has_failed) c.self.view_is ∙ c.requires.goes in
    entered_fits c.self.inside.names c.enter.new.self c.self.inside.outer.items c.push_reserved.new.self.items
    (waits c.self.inside.lexer c.args.conditionals.now c.args.is_system.now) c.replace.new.dest e.name
    inv.0 inv.1.1.1 (record { of_set = inv.1.0; of_limit = inv.1.1.0; goes = goes }) (outer_is g c)
    e.is_entered.0 (c.replace.ensures.after ∙ e.is_entered.1)

pub returns-in-Ok-clause-included : goal.returns-in-Ok-clause-included
returns-in-Ok-clause-included g c =
    let s = g.F.Files.sources c.args.files.now in let e = c.in-Ok.ensures.attempt.entered in
    let d = c.in-Ok.ensures.declines in
    let inside = c.self.inside in let conditionals = reverse c.args.conditionals.now.items in
    let mark = c.args.is_system.now in
    rw (← c.self.view_is) (λ honest start n.
    let comes = first_is s (map (λ d. d.now) c.args.directories.now) c.args.text.now n c.self.invariant.0 d.0 d.1 (e.is_first honest) in
    let before : Open = record { nest = inside.names; lexer = inside.lexer; outer = inside.outer.items } in
    let was = nesting s start (g.F.Files.openings c.args.files.now) before in (
      sym (ap answer_of comes),
      entered_is s start (g.F.Files.openings c.args.files.now) (g.F.Files.openings c.enter.new.files) before e.name c.enter.new.self
          c.replace.new.dest c.push_reserved.new.self.items c.args.conditionals.now mark n
          (e.is_opened honest) e.is_entered.0 (c.replace.ensures.after ∙ e.is_entered.1) (outer_is g c)
          ∙ ap (λ (set : CharSet). nested_by set inside.names.limit s conditionals mark (Opens e.name) was) (sym c.self.invariant.1.0)
          ∙ ap (λ i. nested_by inside.lexer.set inside.names.limit s conditionals mark i was) (sym comes),
    ))

pub returns-in-Ok-clause-went : goal.returns-in-Ok-clause-went
returns-in-Ok-clause-went g c =
    let t = c.in-Ok.ensures.attempt in
    let e = t.entered in let waiting = waits c.self.inside.lexer c.args.conditionals.now c.args.is_system.now in
    let inside = c.self.inside in let s = g.F.Files.sources c.args.files.now in
    let old = g.F.Files.openings c.args.files.now in let new = g.F.Files.openings c.enter.new.files in
    let before : Open = record { nest = inside.names; lexer = inside.lexer; outer = inside.outer.items } in
    let after : Open = record { nest = c.enter.new.self; lexer = c.replace.new.dest; outer = c.push_reserved.new.self.items } in
    rw (← c.self.view_is) (went_in t.tries t.opened waiting refl (outer_is g c)
    (ap (λ (r : Reader). r.window.given) (c.replace.ensures.after ∙ e.is_entered.1))
    (λ honest start n. entered_nested_of start old new before e.name c.enter.new.self c.replace.new.dest c.push_reserved.new.self.items
    waiting refl n (e.is_opened honest) (outer_is g c))
    (λ honest start n all. entered_given s start old new before after e.name inside.names.set inside.names.limit n
    (e.is_opened honest) e.is_entered.0 (c.replace.ensures.after ∙ e.is_entered.1) waiting refl (outer_is g c) all))

pub returns-in-Ok-clause-fits : goal.returns-in-Ok-clause-fits
returns-in-Ok-clause-fits g c = λ honest start nested given fit.
    let e = c.in-Ok.ensures.attempt.entered in
    subst⁻¹ (λ (o : Openings). Each Fits (length start.all) o.all) (e.is_opened honest)
    (fit_more (length start.all) (g.F.Files.openings c.args.files.now).all e.name fit)

pub returns-in-Ok-clause-tries : goal.returns-in-Ok-clause-tries
returns-in-Ok-clause-tries g c = c.in-Ok.ensures.attempt.tries

pub returns-in-Err-BadName-clause-went : goal.returns-in-Err-BadName-clause-went
returns-in-Err-BadName-clause-went g c = rw (← c.self.view_is) (went_failed c.in-Err-BadName.ensures.attempt
    (open_same c.in-Err-BadName.ensures.attempt.same c.in_ok-reserve.ensures.items))

pub returns-in-Err-BadName-clause-fits : goal.returns-in-Err-BadName-clause-fits
returns-in-Err-BadName-clause-fits g c = rw (← c.self.view_is) (fit_failed c.in-Err-BadName.ensures.attempt)

pub returns-in-Err-BadName-clause-tries : goal.returns-in-Err-BadName-clause-tries
returns-in-Err-BadName-clause-tries g c = let t = rw c.in-Err-BadName.field-0-is at c.in-Err-BadName.ensures.attempt in t.tries

pub returns-in-Err-Absent-clause-went : goal.returns-in-Err-Absent-clause-went
returns-in-Err-Absent-clause-went g c = rw (← c.self.view_is) (went_failed c.in-Err-Absent.ensures.attempt
    (open_same c.in-Err-Absent.ensures.attempt.same c.in_ok-reserve.ensures.items))

pub returns-in-Err-Absent-clause-fits : goal.returns-in-Err-Absent-clause-fits
returns-in-Err-Absent-clause-fits g c = rw (← c.self.view_is) (fit_failed c.in-Err-Absent.ensures.attempt)

pub returns-in-Err-Absent-clause-tries : goal.returns-in-Err-Absent-clause-tries
returns-in-Err-Absent-clause-tries g c = let t = rw c.in-Err-Absent.field-0-is at c.in-Err-Absent.ensures.attempt in t.tries

pub returns-in-Err-TooDeep-clause-went : goal.returns-in-Err-TooDeep-clause-went
returns-in-Err-TooDeep-clause-went g c = rw (← c.self.view_is) (went_failed c.in-Err-TooDeep.ensures.attempt
    (open_same c.in-Err-TooDeep.ensures.attempt.same c.in_ok-reserve.ensures.items))

pub returns-in-Err-TooDeep-clause-fits : goal.returns-in-Err-TooDeep-clause-fits
returns-in-Err-TooDeep-clause-fits g c = rw (← c.self.view_is) (fit_failed c.in-Err-TooDeep.ensures.attempt)

pub returns-in-Err-TooDeep-clause-tries : goal.returns-in-Err-TooDeep-clause-tries
returns-in-Err-TooDeep-clause-tries g c = let t = rw c.in-Err-TooDeep.field-0-is at c.in-Err-TooDeep.ensures.attempt in t.tries

pub returns-in-Err-Device-clause-went : goal.returns-in-Err-Device-clause-went
returns-in-Err-Device-clause-went g c = rw (← c.self.view_is) (went_failed c.in-Err-Device.ensures.attempt
    (open_same c.in-Err-Device.ensures.attempt.same c.in_ok-reserve.ensures.items))

pub returns-in-Err-Device-clause-fits : goal.returns-in-Err-Device-clause-fits
returns-in-Err-Device-clause-fits g c = rw (← c.self.view_is) (fit_failed c.in-Err-Device.ensures.attempt)

pub returns-in-Err-Device-clause-tries : goal.returns-in-Err-Device-clause-tries
returns-in-Err-Device-clause-tries g c = let t = rw c.in-Err-Device.field-0-is at c.in-Err-Device.ensures.attempt in t.tries

pub returns-in-Err-Memory-clause-went : goal.returns-in-Err-Memory-clause-went
returns-in-Err-Memory-clause-went g c = rw (← c.self.view_is) (went_failed c.in-Err-Memory.ensures.attempt
    (open_same c.in-Err-Memory.ensures.attempt.same c.in_ok-reserve.ensures.items))

pub returns-in-Err-Memory-clause-fits : goal.returns-in-Err-Memory-clause-fits
returns-in-Err-Memory-clause-fits g c = rw (← c.self.view_is) (fit_failed c.in-Err-Memory.ensures.attempt)

pub returns-in-Err-Memory-clause-tries : goal.returns-in-Err-Memory-clause-tries
returns-in-Err-Memory-clause-tries g c = let t = rw c.in-Err-Memory.field-0-is at c.in-Err-Memory.ensures.attempt in t.tries

pub returns-in-Err-BadName-clause-included : goal.returns-in-Err-BadName-clause-included
returns-in-Err-BadName-clause-included g c =
    let t = rw c.in-Err-BadName.field-0-is at c.in-Err-BadName.ensures.attempt in
    let d = rw c.in-Err-BadName.field-0-is at c.in-Err-BadName.ensures.declines in
    let directories = map (λ d. d.now) c.args.directories.now in
    let s = g.F.Files.sources c.args.files.now in
    rw (← c.self.view_is) (λ honest start n.
    includes_none c.self.inside.lexer.set c.self.inside.names.limit s (reverse c.args.conditionals.now.items) c.args.is_system.now
    (unfit_is s directories c.args.text.now n c.self.invariant.0 d.0) (nesting_same s start (t.leaves honest)
    (open_same {lexer = c.self.inside.lexer} t.same c.in_ok-reserve.ensures.items)))

pub returns-in-Err-Absent-clause-included : goal.returns-in-Err-Absent-clause-included
returns-in-Err-Absent-clause-included g c =
    let t = rw c.in-Err-Absent.field-0-is at c.in-Err-Absent.ensures.attempt in
    let d = rw c.in-Err-Absent.field-0-is at c.in-Err-Absent.ensures.declines in
    let directories = map (λ d. d.now) c.args.directories.now in
    let s = g.F.Files.sources c.args.files.now in
    rw (← c.self.view_is) (λ honest start n.
    includes_none c.self.inside.lexer.set c.self.inside.names.limit s (reverse c.args.conditionals.now.items) c.args.is_system.now
    (first_is s directories c.args.text.now n c.self.invariant.0 d.0 d.1 (t.leaves honest).0)
    (nesting_same s start (t.leaves honest).1 (open_same {lexer = c.self.inside.lexer} t.same c.in_ok-reserve.ensures.items)))

pub returns-in-Err-TooDeep-clause-included : goal.returns-in-Err-TooDeep-clause-included
returns-in-Err-TooDeep-clause-included g c =
    let t = rw c.in-Err-TooDeep.field-0-is at c.in-Err-TooDeep.ensures.attempt in
    let d = rw c.in-Err-TooDeep.field-0-is at c.in-Err-TooDeep.ensures.declines in
    let directories = map (λ d. d.now) c.args.directories.now in
    let s = g.F.Files.sources c.args.files.now in
    rw (← c.self.view_is) (λ honest start n.
    includes_none c.self.inside.lexer.set c.self.inside.names.limit s (reverse c.args.conditionals.now.items) c.args.is_system.now
    (deep_is s directories c.args.text.now n c.self.invariant.0 d.0 d.1.0) (nesting_same s start (t.leaves honest)
    (open_same {lexer = c.self.inside.lexer} t.same c.in_ok-reserve.ensures.items)))

pub returns-in-Err-Device-clause-included : goal.returns-in-Err-Device-clause-included
returns-in-Err-Device-clause-included g c =
    let t = rw c.in-Err-Device.field-0-is at c.in-Err-Device.ensures.attempt in
    let d = rw c.in-Err-Device.field-0-is at c.in-Err-Device.ensures.declines in
    rw (← c.self.view_is) (λ honest start n.
    opened_in_vain (g.F.Files.sources c.args.files.now) (map (λ d. d.now) c.args.directories.now) c.args.text.now n c.self.invariant.0 d.0
    d.1 (t.leaves honest))

pub returns-in-Err-Device-clause-cause : goal.returns-in-Err-Device-clause-cause
returns-in-Err-Device-clause-cause g c = λ device.
    let t = rw c.in-Err-Device.field-0-is at c.in-Err-Device.ensures.attempt in
    let d = rw c.in-Err-Device.field-0-is at c.in-Err-Device.ensures.declines in
    rw (← c.self.view_is) (d.0, device_cause (map (λ d. d.now) c.args.directories.now) c.args.text.now c.self.invariant.0 d t)

pub returns-in-Err-Memory-clause-included : goal.returns-in-Err-Memory-clause-included
returns-in-Err-Memory-clause-included g c =
    let t = rw c.in-Err-Memory.field-0-is at c.in-Err-Memory.ensures.attempt in
    λ honest start n. ap (opened_since start) (t.leaves honest)

pub returns-in_err-reserve-clause-went : goal.returns-in_err-reserve-clause-went
returns-in_err-reserve-clause-went g c =
    let inside = c.self.inside in
    let before : Open = record { nest = inside.names; lexer = inside.lexer; outer = inside.outer.items } in
    rw (← c.self.view_is) (went_as g.F.Files c.args.files.now c.args.files.now before before _ (open_same refl c.reserve.ensures.items)
    (went_none g.F.Files c.args.files.now before))

pub returns-in_err-reserve-clause-included : goal.returns-in_err-reserve-clause-included
returns-in_err-reserve-clause-included g c = rw (fault_is c.from_residual.result c.from_residual.ensures) (λ honest start n. refl)

pub returns-in_err-reserve-clause-tries : goal.returns-in_err-reserve-clause-tries
returns-in_err-reserve-clause-tries g c = rw (fault_is c.from_residual.result c.from_residual.ensures)
    (record { sources = refl; honesty = refl; depth = refl; counts = refl; faults = omega arith; calm = refl })
