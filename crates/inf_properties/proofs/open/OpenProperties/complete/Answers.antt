use Rattle.inf_properties.proofs.{Having.AreFree-inherited, Inheriting.AreNew-inherited}
use Rattle.inf_properties.proofs.open.OpenProperties.complete.Goals as goal

pub from_list-requires : goal.from_list-requires
from_list-requires c =
    let own = c.self.inside.own.items in let above = c.self.inside.above.items in
    rw (c.in_ok-list.ensures, c.deref.ensures.value, c.deref-3.ensures.value) (record {
      once = AreNew-inherited own above c.self.invariant.own_new c.self.invariant.above_new;
      short = c.self.invariant.short;
      free = AreFree-inherited own above c.self.invariant.own_free c.self.invariant.above_free;
    })
