use Rattle.std.proofs.Common.{◌≡◌, length, sym, ap, ◌∙◌, arith, vec_len, true}
use Rattle.inf_conditionals.specs.Open.{turned_first}
use Rattle.inf_conditionals.proofs.Lasts.{last_is_at, last_set_at}
use Rattle.inf_conditionals.proofs.effects.turn_last.Goals as goal

pub returns-in-Some : goal.returns-in-Some
returns-in-Some c =
    let all = c.args.conditionals.now in let last = c.in-Some.last.now in let item = c.in-Some.ensures.item in
    let size : vec_len all ≡ length all.items = omega (arith, all.ok.0) in
    last_set_at all.items (vec_len all) last (record { place = last.place; is_second = true }) size item.3.0 item.1
    ∙ sym (ap turned_first (last_is_at all.items (vec_len all) last size item.3.0 item.1))
