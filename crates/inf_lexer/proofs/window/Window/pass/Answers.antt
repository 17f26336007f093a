use Rattle.std.proofs.Common.{◌-◌, ◌≤◌, take, drop, length, sym, ap, ◌∙◌, arith, length-take}
use Rattle.std.proofs.Math.Path.{subst⁻¹}
use Rattle.inf_lexer.specs.Unread.{View}
use Rattle.inf_lexer.proofs.Giving.{window_behind}
use Rattle.inf_lexer.proofs.window.Window.pass.Goals as goal

pub returns : goal.returns
returns c =
    let inside = c.self.inside in
    let some : c.args.n ≤ length (take (inside.end - inside.next) (drop inside.next inside.buffer.items)) =
    subst⁻¹ (λ (v : View). c.args.n ≤ length v.left) c.self.view_is c.requires in
    ap (λ left. record { left = left; given = inside.given; is_over = inside.is_over })
    (window_behind c.args.n inside.next inside.end inside.buffer.items
    (omega (arith, some, c.self.invariant.0, length-take (inside.end - inside.next) (drop inside.next inside.buffer.items))))
    ∙ ap (λ (v : View). record v { left = drop c.args.n v.left }) c.self.view_is
