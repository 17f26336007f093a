use Rattle.std.proofs.Common.{List, [], ◌∷◌, ◌++◌, length, arith, ap, subst, sym, ◌∙◌}
use Rattle.inf_devices.specs.Files.{Opening}
use Rattle.inf_sources.specs.Open.{AllWait, Each, Fits, Open, lexers_of, waits}
use Rattle.inf_lexer.specs.{Names.Nest, Readers.Reader}
use Rattle.inf_sources.proofs.{Calls.went_out, Nestings.left_nesting}
use Rattle.inf_sources.proofs.Entered.{Fits as FitsAhead, left_fits, left_none, lexers_more, waits_last}
use Rattle.inf_sources.proofs.open_files.OpenFiles.leave.Goals as goal

pub returns-in_err-lexer-clause-nesting : goal.returns-in_err-lexer-clause-nesting
returns-in_err-lexer-clause-nesting g c = rw (← c.self.view_is) (λ honest start n.
    left_none (g.F.Files.sources c.args.files.now) start (g.F.Files.openings c.args.files.now) c.self.inside.names c.self.inside.lexer
    c.self.inside.outer.items c.pop.new.self.items (omega (arith, c.in_err-lexer.ensures.cases.0)) c.in_err-lexer.ensures.items)

pub invariant_of-self-2 : goal.invariant_of-self-2
invariant_of-self-2 g c =
    let inv = c.self.invariant in let f = c.in_ok-lexer.field-0 in let items = c.in_ok-lexer.ensures.items in
    subst (λ (r : Reader). FitsAhead c.keep.new.self r (lexers_of c.pop.new.self.items)) (sym c.replace-left.ensures.after)
    (left_fits c.self.inside.names c.keep.new.self (lexers_of c.self.inside.outer.items) (lexers_of c.pop.new.self.items)
    c.self.inside.lexer.file f.lexer inv.0 inv.1.1.1 (ap lexers_of items ∙ lexers_more c.pop.new.self.items f)
    (c.keep.ensures ∙ c.leave.ensures.left))

pub returns-clause-left : goal.returns-clause-left
returns-clause-left g c =
    let f = c.in_ok-lexer.field-0 in
    let items = c.in_ok-lexer.ensures.items in (
      sym (ap (λ (o : Open). o.outer) c.self.view_is) ∙ items
          ∙ ap (λ (r : Reader). c.pop.new.self.items ++ waits r f.conditionals f.is_system ∷ []) (sym c.replace-left.ensures.after),
      ap (λ (r : Reader). r.has_failed) c.replace-left.ensures.after
          ∙ (waits_last c.self.inside.names.set c.self.inside.names.limit (lexers_of c.pop.new.self.items) f.lexer
          (subst (λ readers. AllWait c.self.inside.names.set c.self.inside.names.limit readers)
          (ap lexers_of items ∙ lexers_more c.pop.new.self.items f) c.self.invariant.1.1.1)).goes,
    )

pub returns-clause-nesting : goal.returns-clause-nesting
returns-clause-nesting g c =
    let files = g.F.Files in let inside = c.self.inside in
    rw (← c.self.view_is) (λ honest start n.
    left_nesting (files.sources c.args.files.now) start (files.openings c.args.files.now) (files.openings c.leave.new.files)
    (record { nest = inside.names; lexer = inside.lexer; outer = inside.outer.items })
    (record { nest = c.keep.new.self; lexer = c.replace-left.new.dest; outer = c.pop.new.self.items }) c.in_ok-lexer.field-0 n
    (c.leave.ensures.closes.closes honest) c.in_ok-lexer.ensures.items c.replace-left.ensures.after (c.keep.ensures ∙ c.leave.ensures.left))

pub returns-clause-went : goal.returns-clause-went
returns-clause-went g c = rw (← c.self.view_is)
    (went_out c.leave.ensures.closes c.in_ok-lexer.field-0 c.replace-left.ensures.after c.in_ok-lexer.ensures.items
    (ap (λ (n : Nest). n.names) (c.keep.ensures ∙ c.leave.ensures.left)))

pub returns-clause-fits : goal.returns-clause-fits
returns-clause-fits g c = λ honest start nested given fit.
    subst (λ (all : List Opening). Each Fits (length start.all) all) (sym (c.leave.ensures.closes.closes honest).same) fit
