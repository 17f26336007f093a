use Rattle.std.proofs.Common.{ℕ, List, [], drop, sym, ap, ◌∙◌, refl, append-nil}
use Rattle.std.proofs.Math.Seq.{drop-length}
use Rattle.inf_scanner.specs.Scanning.{Found, Sight, find, is_quoted, sight}
use Rattle.inf_scanner.specs.declared.scanner.State.{State}
use Rattle.inf_text_lexer.proofs.Texts.{found_is, token_is}
use Rattle.inf_text_lexer.proofs.text_lexer.read_token.Goals as goal

pub returns-in_err-taken-clause-memory : goal.returns-in_err-taken-clause-memory
returns-in_err-taken-clause-memory c = λ memory.
    let text = c.args.rest.now in
    ap (λ (s : Sight). is_quoted (find c.args.set c.args.limit State.Gap s text).ending) (sym c.begin.ensures)
    ∙ (ap (λ (l : List ℕ). is_quoted (find c.args.set c.args.limit State.Gap (sight c.begin.new.self) l).ending) (sym (append-nil text))
    ∙ c.in_err-taken.ensures.memory refl [])

pub returns-in_err-kind-clause-memory : goal.returns-in_err-kind-clause-memory
returns-in_err-kind-clause-memory c = λ memory.
    let text = c.args.rest.now in let took = c.in_ok-taken.ensures in let behind = drop c.in_ok-taken.taken text in
    ap (λ (s : Sight). is_quoted (find c.args.set c.args.limit State.Gap s text).ending) (sym c.begin.ensures)
    ∙ (ap (λ (f : Found). is_quoted f.ending) (sym (found_is c.args.set c.args.limit (sight c.begin.new.self) text behind
    c.in_ok-taken.turn c.ending_of-ending.result (sight c.take_all.new.self) (sight c.ending_of-ending.new.seen) took.found
    (c.ending_of-ending.ensures.found c.args.set c.args.limit behind (λ on. ap (λ (n : ℕ). drop n text) (took.all on) ∙ drop-length text))))
    ∙ c.in_err-kind.ensures.memory refl)

pub returns-clause-token : goal.returns-clause-token
returns-clause-token c =
    let text = c.args.rest.now in let took = c.in_ok-taken.ensures in let behind = drop c.in_ok-taken.taken text in
    token_is c.args.set c.args.limit c.args.seen.now.lines text behind c.ending_of-ending.result (sight c.ending_of-ending.new.seen)
    c.in_ok-kind.kind (found_is c.args.set c.args.limit (sight c.begin.new.self) text behind c.in_ok-taken.turn c.ending_of-ending.result
    (sight c.take_all.new.self) (sight c.ending_of-ending.new.seen) took.found
    (c.ending_of-ending.ensures.found c.args.set c.args.limit behind (λ on. ap (λ (n : ℕ). drop n text) (took.all on) ∙ drop-length text))
    ∙ ap (λ (s : Sight). find c.args.set c.args.limit State.Gap s text) c.begin.ensures) c.in_ok-kind.ensures.ok
