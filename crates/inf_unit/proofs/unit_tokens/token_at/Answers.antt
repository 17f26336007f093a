use Rattle.std.proofs.Common.{arith}
use Rattle.inf_unit.proofs.KeptTokens.{got, got_none, kept_at, part_is, part_seen, part_short}
use Rattle.inf_unit.proofs.unit_tokens.token_at.Goals as goal

pub part_of-requires-clause-order : goal.part_of-requires-clause-order
part_of-requires-clause-order c =
    let one = kept_at 0 c.args.kept.now c.args.bytes.now c.args.at c.in-Some.token.now c.requires c.in-Some.ensures in
    omega (arith, c.start_of.ensures, c.end.ensures, one.order)

pub part_of-requires-clause-there : goal.part_of-requires-clause-there
part_of-requires-clause-there c =
    let one = kept_at 0 c.args.kept.now c.args.bytes.now c.args.at c.in-Some.token.now c.requires c.in-Some.ensures in
    omega (arith, c.end.ensures, one.there)

pub invariant_of-result-clause-is_seen : goal.invariant_of-result-clause-is_seen
invariant_of-result-clause-is_seen c =
    let ks = c.args.kept.now in let bytes = c.args.bytes.now in let k = c.in-Some.token.now in
    let part = c.part_of.result.now in
    part_seen ks bytes part c.args.at k c.requires c.in-Some.ensures
    (part_is ks bytes part c.args.at k c.start_of.result c.end.result c.start_of.ensures c.end.ensures c.part_of.ensures)

pub invariant_of-result-clause-is_short : goal.invariant_of-result-clause-is_short
invariant_of-result-clause-is_short c =
    let ks = c.args.kept.now in let bytes = c.args.bytes.now in let k = c.in-Some.token.now in
    let part = c.part_of.result.now in
    part_short ks bytes part c.args.at k c.requires c.in-Some.ensures
    (part_is ks bytes part c.args.at k c.start_of.result c.end.result c.start_of.ensures c.end.ensures c.part_of.ensures)

pub returns-in-Some : goal.returns-in-Some
returns-in-Some c =
    let ks = c.args.kept.now in let bytes = c.args.bytes.now in let k = c.in-Some.token.now in
    let part = c.part_of.result.now in
    got ks bytes part c.args.at k c.place.result c.in-Some.ensures
    (part_is ks bytes part c.args.at k c.start_of.result c.end.result c.start_of.ensures c.end.ensures c.part_of.ensures) c.place.ensures

pub returns-in-None : goal.returns-in-None
returns-in-None c = got_none c.args.kept.now c.args.bytes.now c.args.at c.in-None.ensures
