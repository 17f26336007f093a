use Rattle.std.proofs.Common.{◌≡◌, ◌≤◌, ◌<◌, sym, ap, subst, ◌∙◌, arith}
use Rattle.inf_session.specs.{Choices.Choices, Choices.chosen, Session.rested, Session.stepped, Standing.state, Veneer.in_text}
use Rattle.inf_sources.specs.Open.{Open}
use Rattle.inf_session.proofs.TextTurns.{text_ended, text_next}
use Rattle.inf_session.proofs.session.Session.take_text.Goals as goal

pub returns-then-has_ended-clause-turned : goal.returns-then-has_ended-clause-turned
returns-then-has_ended-clause-turned g c = λ sources start now told.
    let inv = c.loop-left.invariant in
    sym (text_ended g.B.Bounds.most (chosen c.args.self.now.setup) c.loop-left.left
    (in_text c.loop-left.lexer (state sources start now c.loop-left.self told)) (sym c.has_ended.ensures ∙ c.if-has_ended.true))
    ∙ inv.led sources start now told

pub loop-left-preserved : goal.loop-left-preserved
loop-left-preserved g c =
    let inv = c.loop-left.invariant in let took = c.in_ok-turn_text.ensures in let o = chosen c.args.self.now.setup in
    record {
      led = λ sources start now told.
          let s = in_text c.loop-left.lexer (state sources start now c.loop-left.self told) in
          let t = in_text c.turn_text.new.lexer (state sources start now c.turn_text.new.self told) in
          let some : 0 < c.loop-left.left = omega (arith, c.loop-left-test.true) in
          let turned : t ≡ rested (stepped g.B.Bounds.most o s) = took.turned sources start now told
          ∙ ap (λ (p : Choices). rested (stepped g.B.Bounds.most p s)) (ap chosen inv.setup) in
          text_next g.B.Bounds.most o c.loop-left.left s t some (sym c.has_ended.ensures ∙ c.if-has_ended.false) turned
          ∙ inv.led sources start now told;
      set = ap (λ (f : Open). f.lexer.set) c.turn_text.ensures.files ∙ inv.set ∙ sym took.lexer.0;
      limit = took.lexer.1 ∙ inv.limit;
      longest = λ few. subst (λ n. c.turn_text.new.self.quoted ≤ n) inv.limit
          (took.longest (subst (λ n. c.loop-left.self.quoted ≤ n) (sym inv.limit) (inv.longest few)));
      files = c.turn_text.ensures.files ∙ inv.files;
      setup = c.turn_text.ensures.setup ∙ inv.setup;
    }
