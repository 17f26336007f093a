use Rattle.std.proofs.Common.{Err, false, length, refl, sym, ap, ◌∙◌, arith, length-drop}
use Rattle.inf_lexer.specs.{Heads.head_after, Heads.is_behind, Heads.is_head_on, Heads.turn_place, Unread.View}
use Rattle.inf_lexer.proofs.{Heading.head_end, Heading.head_stays_open, Reading.fault_is, Reading.heard_none, Reading.heard_on}
use Rattle.inf_lexer.proofs.{Reading.heard_same, Reading.heard_taken, Reading.room_on}
use Rattle.inf_lexer.proofs.Scanned.{none_left, some_left}
use Rattle.inf_lexer.proofs.lexer.scan_head.Goals as goal

pub windows-init : goal.windows-init
windows-init g c = record { heard = heard_none c.requires.few c.requires.window; before = λ not. not; room = c.requires.room }

pub windows-preserved : goal.windows-preserved
windows-preserved g c =
    let took = c.take_head-taken.ensures in let filled = c.in_ok-refill.ensures in
    record {
      heard = heard_taken (λ t. head_after t c.take_head-taken.new.word.items c.take_head-taken.new.lines) c.take_head-taken.result.0
          c.windows.invariant.heard filled.fills c.left-in-windows.ensures c.pass.ensures took.found c.in-On.is;
      before = λ not. sym (ap (λ t. is_behind (turn_place t)) c.in-On.is) ∙ took.before (c.windows.invariant.before not);
      room = room_on c.windows.lines.line _ c.take_head-taken.result.0 c.windows.window c.windows.invariant.room filled.taken
          c.left-in-windows.ensures c.pass.ensures took.within took.few;
    }

pub windows-smaller : goal.windows-smaller
windows-smaller g c =
    let filled = c.in_ok-refill.ensures in
    omega (
      arith,
      some_left c.left.result.now (sym c.is_empty.ensures ∙ c.if-is_empty.false),
      ap length c.left.ensures,
      ap length c.left-in-windows.ensures,
      c.take_head-taken.ensures.all (ap is_head_on c.in-On.is),
      ap (λ (v : View). length v.left) c.pass.ensures,
      ap (λ (v : View). v.given) c.pass.ensures,
      length-drop c.take_head-taken.result.0 c.refill.new.self.left,
      filled.taken,
      filled.fills.went.few,
      filled.fills.went.given,
      c.windows.invariant.heard.went.few,
    )

pub returns-then-is_empty-clause-heard : goal.returns-then-is_empty-clause-heard
returns-then-is_empty-clause-heard g c =
    let filled = c.in_ok-refill.ensures in
    let empty = sym c.left.ensures ∙ none_left c.left.result.now (sym c.is_empty.ensures ∙ c.if-is_empty.true) in
    heard_same {failed = false} (heard_on c.windows.invariant.heard filled.fills)
    (λ rest may. head_end c.windows.place c.windows.word.items c.windows.lines c.refill.new.self.left rest empty (may (filled.over empty)))

pub returns-in-Stopped-clause-heard : goal.returns-in-Stopped-clause-heard
returns-in-Stopped-clause-heard g c =
    heard_taken (λ t. head_after t c.take_head-taken.new.word.items c.take_head-taken.new.lines) c.take_head-taken.result.0
    c.windows.invariant.heard c.in_ok-refill.ensures.fills c.left-in-windows.ensures c.pass.ensures c.take_head-taken.ensures.found
    c.in-Stopped.is

pub returns-in-Stopped-clause-room : goal.returns-in-Stopped-clause-room
returns-in-Stopped-clause-room g c =
    let took = c.take_head-taken.ensures in
    room_on c.windows.lines.line _ c.take_head-taken.result.0 c.windows.window c.windows.invariant.room c.in_ok-refill.ensures.taken
    c.left-in-windows.ensures c.pass.ensures took.within took.few

pub returns-in_err-refill-clause-went : goal.returns-in_err-refill-clause-went
returns-in_err-refill-clause-went g c =
    let filled = c.in_err-refill.ensures in
    rw (fault_is c.from_residual.result c.from_residual.ensures ∙ ap Err filled.err) (heard_on c.windows.invariant.heard filled.fills).went

pub returns-in_err-refill-clause-refused : goal.returns-in_err-refill-clause-refused
returns-in_err-refill-clause-refused g c = λ refused not honest.
    let filled = c.in_err-refill.ensures in let inv = c.windows.invariant in
    head_stays_open inv.heard filled.fills (inv.before not) (filled.refused refl) (filled.unread refl) honest
