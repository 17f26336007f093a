-- Only a fault of writing the messages counts a failure.
use Rattle.std.proofs.Common.{rules, ◌≡◌, IfErr, refl}
use Rattle.inf_compile.proofs.Concluding.{if_memory_any, never_memory}
use Rattle.inf_ending.specs.declared.faults.Fault.{Fault}
use Rattle.inf_ending.specs.Faults.{UnlessMessages}
use Rattle.inf_ending.proofs.Quiet.{hides_behind, hides_none}
use Rattle.inf_compile.proofs.compile.refuse.Goals as goal

pub returns-in_err-ending-clause-quiet : goal.returns-in_err-ending-clause-quiet
returns-in_err-ending-clause-quiet g c = hides_none c.from_residual.result (g.M.Sink.failures c.args.messages.now)

pub returns-in_err-compiled-clause-quiet : goal.returns-in_err-compiled-clause-quiet
returns-in_err-compiled-clause-quiet g c =
    let first = g.M.Sink.failures c.args.messages.now in let now = g.M.Sink.failures c.written.new.messages in
    let told : IfErr c.written.result (λ fault. UnlessMessages fault (now ≡ first)) = c.written.ensures.wrote.1.1 in
    let passed : IfErr c.from_residual-in_err-compiled.result (λ fault. UnlessMessages fault (now ≡ first)) = search rules in
    hides_behind c.from_residual-in_err-compiled.result first first now c.from_residual-in_err-compiled.ensures.0 refl passed

pub returns-clause-quiet : goal.returns-clause-quiet
returns-clause-quiet g c = (c.in_ok-compiled.ensures.wrote.1.0, tt)

pub returns-in_err-ending-clause-memory : goal.returns-in_err-ending-clause-memory
returns-in_err-ending-clause-memory g c = if_memory_any c.from_residual.result (c.args.messages.now ≡ c.args.messages.now) refl

pub returns-in_err-compiled-clause-memory : goal.returns-in_err-compiled-clause-memory
returns-in_err-compiled-clause-memory g c =
    let only : IfErr c.written.result (λ fault. fault ≡ Fault.Messages) = c.written.ensures.only in
    let passed : IfErr c.from_residual-in_err-compiled.result (λ fault. fault ≡ Fault.Messages) = search rules in
    never_memory c.from_residual-in_err-compiled.result (c.written.new.messages ≡ c.args.messages.now) passed
