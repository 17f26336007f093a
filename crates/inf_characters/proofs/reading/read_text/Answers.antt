use Rattle.std.proofs.{lemmas.List.length-drop, lemmas.List.take_all, lemmas.Result.err_from_is_err_and}
use Rattle.std.proofs.Common.{◌-◌, ◌<◌, [], refl, length, drop, false, sym, ◌∙◌, arith}
use Rattle.inf_characters.specs.{Reading.text_from, Reading.text_of, Runs.run_len}
use Rattle.inf_characters.proofs.{Faults.Continues-fault, Pieces.Continues-holds, Pieces.Continues-more, Pieces.with_front-none}
use Rattle.inf_characters.proofs.Singles.{Continues-run, run_codes, run_holds}
use Rattle.inf_characters.proofs.reading.read_text.Goals as goal

pub loop-first-init : goal.loop-first-init
unfolding text_of
loop-first-init c =
    let none = c.reserve.ensures.items ∙ c.new-items.ensures.items in
    record {
      value = rw none (with_front-none (text_from c.args.set c.args.mode false 0 c.args.bytes.now));
      text = rw none tt;
      seen = [];
      bytes_are = refl;
      cut = λ xs ys split. rw none (sym (with_front-none (text_from c.args.set c.args.mode false 0 xs)));
    }

pub returns-in_err-push_times : goal.returns-in_err-push_times
returns-in_err-push_times c =
    let told = err_from_is_err_and c.from_residual-in_err-push_times.result c.from_residual-in_err-push_times.ensures.1 in
    rw (told.1, told.2, c.in_err-push_times.ensures.err.0)
    (Continues-holds c.args.set c.args.mode c.loop-first.after_mark c.loop-first.items.items c.loop-first.rest.now c.args.bytes.now
    c.in-Some.first.now c.in-Some.tail.now c.in_ok-piece.piece
    c.in-Some.ensures.cases.0 (sym c.in_ok-piece.ensures.value) c.in_ok-piece.ensures.piece c.in_err-push_times.ensures.err.1
    c.loop-first.invariant)

pub returns-in_err-piece : goal.returns-in_err-piece
returns-in_err-piece c =
    let told = err_from_is_err_and c.from_residual-in_err-piece.result c.from_residual-in_err-piece.ensures.1 in
    rw (told.1, told.2)
    (Continues-fault c.args.set c.args.mode c.loop-first.after_mark c.loop-first.items.items c.loop-first.rest.now c.args.bytes.now
    c.in-Some.first.now c.in-Some.tail.now c.in_err-piece.field-0.0
    c.in-Some.ensures.cases.0 (sym c.in_err-piece.ensures.value) c.loop-first.invariant)

pub loop-first-preserved : goal.loop-first-preserved
loop-first-preserved c =
    let piece = c.in_ok-piece.piece in let tail = c.in-Some.tail.now in
    Continues-more c.args.set c.args.mode c.loop-first.after_mark c.loop-first.items.items c.loop-first.rest.now c.args.bytes.now
    c.in-Some.first.now tail piece _ _
    c.in-Some.ensures.cases.0 (sym c.in_ok-piece.ensures.value) c.in_ok-push_times.ensures.ok c.in_ok-piece.ensures.piece
    (take_all (length tail - piece.behind) (drop piece.behind tail) (omega (arith, length-drop piece.behind tail))) c.loop-first.invariant

pub push_characters-requires : goal.push_characters-requires
push_characters-requires c = rw c.run_len-len.ensures.value (run_codes c.loop-first.rest.now)

pub returns-in_err-push_characters : goal.returns-in_err-push_characters
returns-in_err-push_characters c =
    let told = err_from_is_err_and c.from_residual.result c.from_residual.ensures.1 in
    let some : 0 < run_len c.loop-first.rest.now = omega (arith, c.run_len-len.ensures.value) in
    rw (told.1, told.2, c.in_err-push_characters.ensures.err)
    (run_holds c.args.set c.args.mode c.args.bytes.now c.loop-first.after_mark c.loop-first.items.items c.loop-first.rest.now some
    c.loop-first.invariant)

pub loop-first-preserved-then-len-gt0 : goal.loop-first-preserved-then-len-gt0
loop-first-preserved-then-len-gt0 c =
    let rest = c.loop-first.rest.now in let len = c.run_len-len.result in
    Continues-run c.args.set c.args.mode c.args.bytes.now c.loop-first.after_mark c.loop-first.items.items rest len _ _
    c.run_len-len.ensures.value (omega arith) c.in_ok-push_characters.ensures.ok
    (take_all (length rest - len) (drop len rest) (omega (arith, length-drop len rest))) c.loop-first.invariant
