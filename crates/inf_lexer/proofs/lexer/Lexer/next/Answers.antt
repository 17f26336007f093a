use Rattle.std.proofs.Common.{◌≡◌, refl, sym, ap, subst, ◌∙◌, true}
use Rattle.inf_lexer.specs.{Readers.Reader, Unread.to_come}
use Rattle.inf_lexer.proofs.{Reading.fault_is, Reading.heard_source, Reading.reads_refused, Taken.heard_token, Taken.took_of}
use Rattle.inf_scanner.specs.Scanning.{Found, begun, find, is_quoted}
use Rattle.inf_scanner.specs.declared.scanner.State.{State}
use Rattle.inf_lexer.proofs.lexer.Lexer.next.Goals as goal

pub returns-in_err-ending-clause-went : goal.returns-in_err-ending-clause-went
returns-in_err-ending-clause-went g c = λ goes.
    rw (← c.self.view_is) (reads_refused (fault_is c.from_residual.result c.from_residual.ensures) c.in_err-ending.ensures.went)

pub returns-in_err-ending-clause-refused : goal.returns-in_err-ending-clause-refused
returns-in_err-ending-clause-refused g c = λ honest goes.
    rw (← c.self.view_is, fault_is c.from_residual.result c.from_residual.ensures) (c.in_err-ending.ensures.refused honest)

pub returns-in_err-kind-clause-went : goal.returns-in_err-kind-clause-went
returns-in_err-kind-clause-went g c = λ goes. rw (← c.self.view_is)
    (reads_refused (fault_is c.from_residual-in_err-kind.result c.from_residual-in_err-kind.ensures) c.in_ok-ending.ensures.heard.went)

pub returns-in_err-kind-clause-refused : goal.returns-in_err-kind-clause-refused
returns-in_err-kind-clause-refused g c = λ honest goes.
    let files = g.F.Files in
    rw (fault_is c.from_residual-in_err-kind.result c.from_residual-in_err-kind.ensures)
    (subst (λ (r : Reader). is_quoted (find r.set r.limit State.Gap (begun r.lines)
    (to_come (files.sources c.args.files.now) (files.openings c.args.files.now) r.window)).ending ≡ true) c.self.view_is
    (ap (λ (f : Found). is_quoted f.ending) (sym (heard_source c.in_ok-ending.ensures.heard honest)) ∙ c.in_err-kind.ensures.memory refl))

pub returns-clause-token : goal.returns-clause-token
returns-clause-token g c = λ honest.
    let lexer = c.self.inside in
    rw (← c.self.view_is) (heard_source (heard_token lexer.set lexer.limit c.in_ok-ending.ensures.heard c.in_ok-kind.ensures.ok) honest)

pub returns-clause-heard : goal.returns-clause-heard
returns-clause-heard g c =
    let lexer = c.self.inside in
    rw (← c.self.view_is) (heard_token lexer.set lexer.limit c.in_ok-ending.ensures.heard c.in_ok-kind.ensures.ok)

pub returns-clause-took : goal.returns-clause-took
returns-clause-took g c =
    let lexer = c.self.inside in
    rw (← c.self.view_is) (
      took_of lexer.set lexer.limit (heard_token lexer.set lexer.limit c.in_ok-ending.ensures.heard c.in_ok-kind.ensures.ok),
      refl,
    )

pub returns-clause-went : goal.returns-clause-went
returns-clause-went g c = λ goes. rw (← c.self.view_is) c.in_ok-ending.ensures.heard.went
