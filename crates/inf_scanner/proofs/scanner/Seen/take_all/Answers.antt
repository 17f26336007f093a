use Rattle.std.proofs.{lemmas.List.drop-drop, lemmas.Slice.between_to_end}
use Rattle.std.proofs.Common.{◌++◌, ◌+◌, ℕ, List, length, drop, refl, sym, ap, ◌∙◌, arith}
use Rattle.inf_scanner.specs.{Scanning.find, Scanning.sight, Scanning.turn, declared.scanner.Turn.Turn}
use Rattle.inf_scanner.proofs.{Quoted.quoted_from, Quoted.quoted_in, Taking.found_on}
use Rattle.inf_scanner.proofs.scanner.Seen.take_all.Goals as goal

pub returns-in_err-len-clause-memory : goal.returns-in_err-len-clause-memory
returns-in_err-len-clause-memory c = λ failed rest.
    let bytes = c.args.bytes.now in
    quoted_in c.args.set c.args.limit c.loop-len.state (sight c.loop-len.self) (drop c.loop-len.taken bytes ++ rest)
    (find c.args.set c.args.limit c.args.from (sight c.args.self.now) (bytes ++ rest)) (c.in_err-len.ensures.memory refl)
    (c.loop-len.invariant.found rest)

pub returns-in_err-next-clause-memory : goal.returns-in_err-next-clause-memory
returns-in_err-next-clause-memory c = λ failed rest.
    let bytes = c.args.bytes.now in let left = between_to_end bytes c.loop-len.taken (length bytes) (omega arith) in
    quoted_from c.args.set c.args.limit c.in_ok-len.reached c.in-Some.byte.now (sight c.take_run.new.self) _
    (find c.args.set c.args.limit c.args.from (sight c.args.self.now) (bytes ++ rest)) (c.in_err-next.ensures.memory refl)
    (c.in_ok-len.ensures.found c.args.set rest
    ∙ ap (λ (l : List ℕ). find c.args.set c.args.limit c.loop-len.state (sight c.loop-len.self) (l ++ rest)) left
    ∙ c.loop-len.invariant.found rest)

pub returns-in-Some-ended-clause-found : goal.returns-in-Some-ended-clause-found
returns-in-Some-ended-clause-found c = λ rest.
    let set = c.args.set in let limit = c.args.limit in let bytes = c.args.bytes.now in let taken = c.loop-len.taken in
    let place = taken + c.in_ok-len.len in let left = between_to_end bytes taken (length bytes) (omega arith) in
    let read = c.in-Some.ensures.lookup.3 in
    c.in-Some-ended.ensures.found set limit (sight c.take.new.self) (drop (place + 1) bytes ++ rest)
    ∙ found_on set limit c.in_ok-len.reached c.in-On.next (sight c.take_run.new.self) (sight c.take.new.self) bytes place rest read.0
    (ap (λ (t : Turn). (t, sight c.take.new.self)) (sym c.in-On.is) ∙ c.in_ok-next.ensures.turn
    ∙ ap (λ b. turn set limit c.in_ok-len.reached b (sight c.take_run.new.self)) (read.1 0))
    ∙ ap (λ (l : List ℕ). find set limit c.in_ok-len.reached (sight c.take_run.new.self) (l ++ rest))
    (sym (drop-drop c.in_ok-len.len taken bytes) ∙ ap (λ (l : List ℕ). drop c.in_ok-len.len l) (sym left))
    ∙ c.in_ok-len.ensures.found set rest ∙ ap (λ (l : List ℕ). find set limit c.loop-len.state (sight c.loop-len.self) (l ++ rest)) left
    ∙ c.loop-len.invariant.found rest
