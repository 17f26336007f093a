use Rattle.std.proofs.Common.{◌++◌, Err, false, length, refl, sym, ap, subst, ◌∙◌, arith, length-drop}
use Rattle.std.proofs.Math.Path.{subst⁻¹}
use Rattle.inf_lexer.specs.{Reading.Heard, Reading.ReadsOn, Readers.Refuses, Unread.View, Unread.behind_view}
use Rattle.inf_lexer.proofs.{Reading.heard_none, Reading.heard_on, Reading.heard_same, Reading.heard_source, Reading.heard_taken}
use Rattle.inf_lexer.proofs.{Reading.fault_is, Reading.room_on, Scanned.find_end, Scanned.none_left, Scanned.some_left}
use Rattle.inf_lexer.proofs.{Scanned.token_stays_open}
use Rattle.inf_scanner.specs.{declared.scanner.State.State, declared.scanner.Turn.Turn}
use Rattle.inf_scanner.specs.Scanning.{Found, Sight, begun, find, found_after, is_on, is_open, is_quoted, sight}
use Rattle.inf_lexer.proofs.lexer.scan.Goals as goal

pub windows-init : goal.windows-init
windows-init g c = record {
  heard = subst⁻¹ (λ s. Heard Found g.F.Files false c.args.files.now c.args.files.now c.args.window.now c.args.window.now
      (find c.args.set c.args.limit State.Gap s) (find c.args.set c.args.limit State.Gap (begun c.args.seen.now.lines))) c.begin.ensures
      (heard_none c.requires.few c.requires.window);
  opens = refl;
  room = omega (arith, c.requires.room, ap (λ (s : Sight). s.lines.line) c.begin.ensures);
}

pub windows-preserved : goal.windows-preserved
windows-preserved g c =
    let took = c.in_ok-taken.ensures in
    record {
      heard = heard_taken (λ t. found_after c.args.set c.args.limit t (sight c.take_all.new.self)) c.in_ok-taken.taken
          c.windows.invariant.heard c.in_ok-refill.ensures.fills c.left-in-windows.ensures c.pass.ensures took.found c.in-On.is;
      opens = sym (ap is_open c.in-On.is) ∙ took.opens c.windows.invariant.opens;
      room = room_on c.windows.seen.lines.line _ c.in_ok-taken.taken c.windows.window c.windows.invariant.room c.in_ok-refill.ensures.taken
          c.left-in-windows.ensures c.pass.ensures took.within took.few;
    }

pub windows-smaller : goal.windows-smaller
windows-smaller g c =
    let filled = c.in_ok-refill.ensures in
    omega (
      arith,
      some_left c.left.result.now (sym c.is_empty.ensures ∙ c.if-is_empty.false),
      ap length c.left.ensures,
      ap length c.left-in-windows.ensures,
      c.in_ok-taken.ensures.all (ap is_on c.in-On.is),
      ap (λ (v : View). length v.left) c.pass.ensures,
      ap (λ (v : View). v.given) c.pass.ensures,
      length-drop c.in_ok-taken.taken c.refill.new.self.left,
      filled.taken,
      filled.fills.went.few,
      filled.fills.went.given,
      c.windows.invariant.heard.went.few,
    )

pub returns-then-is_empty-clause-heard : goal.returns-then-is_empty-clause-heard
returns-then-is_empty-clause-heard g c =
    let filled = c.in_ok-refill.ensures in
    let empty = sym c.left.ensures ∙ none_left c.left.result.now (sym c.is_empty.ensures ∙ c.if-is_empty.true) in
    heard_same {failed = false} (heard_on c.windows.invariant.heard filled.fills)
    (λ rest may. ap (λ e. record { ending = e; seen = sight c.mark.new.self; rest = c.refill.new.self.left ++ rest }) c.at_end.ensures
    ∙ find_end c.args.set c.args.limit c.windows.state (sight c.windows.seen) (sight c.mark.new.self) c.refill.new.self.left rest
    empty (may (filled.over empty)) c.mark.ensures)

pub returns-in-Last-clause-heard : goal.returns-in-Last-clause-heard
returns-in-Last-clause-heard g c = heard_taken (λ t. found_after c.args.set c.args.limit t (sight c.take_all.new.self)) c.in_ok-taken.taken
    c.windows.invariant.heard c.in_ok-refill.ensures.fills c.left-in-windows.ensures c.pass.ensures c.in_ok-taken.ensures.found c.in-Last.is

pub returns-in-Behind-clause-heard : goal.returns-in-Behind-clause-heard
returns-in-Behind-clause-heard g c =
    heard_taken (λ t. found_after c.args.set c.args.limit t (sight c.take_all.new.self)) c.in_ok-taken.taken
    c.windows.invariant.heard c.in_ok-refill.ensures.fills c.left-in-windows.ensures c.pass.ensures c.in_ok-taken.ensures.found
    c.in-Behind.is

pub returns-in-Last-clause-room : goal.returns-in-Last-clause-room
returns-in-Last-clause-room g c =
    let took = c.in_ok-taken.ensures in
    room_on c.windows.seen.lines.line _ c.in_ok-taken.taken c.windows.window c.windows.invariant.room c.in_ok-refill.ensures.taken
    c.left-in-windows.ensures c.pass.ensures took.within took.few

pub returns-in-Behind-clause-room : goal.returns-in-Behind-clause-room
returns-in-Behind-clause-room g c =
    let took = c.in_ok-taken.ensures in
    room_on c.windows.seen.lines.line _ c.in_ok-taken.taken c.windows.window c.windows.invariant.room c.in_ok-refill.ensures.taken
    c.left-in-windows.ensures c.pass.ensures took.within took.few

pub returns-in_err-refill-clause-went : goal.returns-in_err-refill-clause-went
returns-in_err-refill-clause-went g c =
    let filled = c.in_err-refill.ensures in
    rw (fault_is c.from_residual.result c.from_residual.ensures ∙ ap Err filled.err) (heard_on c.windows.invariant.heard filled.fills).went

pub returns-in_err-taken-clause-went : goal.returns-in_err-taken-clause-went
returns-in_err-taken-clause-went g c = rw (fault_is c.from_residual-in_err-taken.result c.from_residual-in_err-taken.ensures)
    (heard_on c.windows.invariant.heard c.in_ok-refill.ensures.fills).went

pub returns-in_err-refill-clause-refused : goal.returns-in_err-refill-clause-refused
returns-in_err-refill-clause-refused g c = λ honest.
    let filled = c.in_err-refill.ensures in let inv = c.windows.invariant in
    rw (fault_is c.from_residual.result c.from_residual.ensures ∙ ap Err filled.err)
    (token_stays_open c.args.set c.args.limit inv.heard filled.fills inv.opens (filled.refused refl) (filled.unread refl) honest)

pub returns-in_err-taken-clause-refused : goal.returns-in_err-taken-clause-refused
returns-in_err-taken-clause-refused g c = λ honest.
    let behind = behind_view (g.F.Files.sources c.args.files.now) (g.F.Files.openings c.refill.new.files) c.refill.new.self in
    rw (fault_is c.from_residual-in_err-taken.result c.from_residual-in_err-taken.ensures)
    (ap (λ (f : Found). is_quoted f.ending) (sym (heard_source (heard_on c.windows.invariant.heard c.in_ok-refill.ensures.fills) honest))
    ∙ ap (λ l. is_quoted (find c.args.set c.args.limit c.windows.state (sight c.windows.seen) (l ++ behind)).ending)
    (sym c.left-in-windows.ensures) ∙ c.in_err-taken.ensures.memory refl behind)
