use Rattle.std.proofs.Common.{◌≡◌, ◌-◌, ap, map, sym, ◌∙◌, length, length-set, get_or, set, arith}
use Rattle.std.specs.List.{position_or_len}
use Rattle.arrayvec.proofs.ArrayVecLemmas.{items-with_items}
use Rattle.inf_names.specs.LocalList.{listed, local}
use Rattle.inf_names.proofs.LocalLemmas.{as_named, has, with_named-found}
use Rattle.inf_operands.proofs.Noting.{found, unnamed}
use Rattle.inf_operands.proofs.naming.note.Goals as goal

pub returns-in_err-number-clause-named : goal.returns-in_err-number-clause-named
returns-in_err-number-clause-named c = sym (unnamed c.args.name.now (listed c.args.locals.now) c.in_err-number.ensures)

pub overflow_sub-from : goal.overflow_sub-from
overflow_sub-from c =
    let is = found c.args.name.now c.args.locals.now.list.items c.in_ok-number.number c.in_ok-number.ensures in
    omega (arith, is.0, c.from.ensures)

pub bounds-deref_mut-from : goal.bounds-deref_mut-from
bounds-deref_mut-from c =
    let is = found c.args.name.now c.args.locals.now.list.items c.in_ok-number.number c.in_ok-number.ensures in
    omega (arith, is.0, is.1, c.from.ensures, ap length c.deref_mut.ensures.value)

pub bounds-deref_mut-from-in_ok-number : goal.bounds-deref_mut-from-in_ok-number
bounds-deref_mut-from-in_ok-number c =
    let is = found c.args.name.now c.args.locals.now.list.items c.in_ok-number.number c.in_ok-number.ensures in
    omega (arith, is.0, is.1, c.from.ensures, ap length c.deref_mut.ensures.value)

pub returns-clause-named : goal.returns-clause-named
returns-clause-named c =
    let list = c.args.locals.now.list in let name = c.args.name.now in let shown = c.deref_mut.result.now in
    let place = c.from.result - 1 in let none = c.index-deref_mut-from.result in
    let is = found name list.items c.in_ok-number.number c.in_ok-number.ensures in
    let at : place ≡ position_or_len (has name) list.items = omega (arith, is.0, c.from.ensures) in
    let same : length (set shown place (as_named (get_or shown place none))) ≡ length list.items =
    length-set shown place (as_named (get_or shown place none)) ∙ ap length c.deref_mut.ensures.value in
    ap (map local) (items-with_items list (set shown place (as_named (get_or shown place none))) same)
    ∙ rw (c.deref_mut.ensures.value, at) (sym (with_named-found name list.items none is.1))
