use Rattle.std.proofs.Common.{◌≤◌, length, subst, arith, length-take}
use Rattle.inf_lexer.specs.Unread.{View}
use Rattle.inf_lexer.proofs.Reading.{heard_none}
use Rattle.inf_lexer.proofs.window.Window.refill.Goals as goal

pub returns-then-self-clause-fills : goal.returns-then-self-clause-fills
returns-then-self-clause-fills g c = heard_none c.requires.given
    (subst (λ (v : View). length v.left ≤ 4096) c.self.view_is (simp length-take (omega arith)))
