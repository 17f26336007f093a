use Rattle.std.proofs.{lemmas.List.drop-drop, lemmas.Slice.between_to_end}
use Rattle.std.proofs.Common.{◌++◌, ◌-◌, ℕ, List, Bool, take, drop, length, sym, ap, ◌∙◌, arith}
use Rattle.inf_scanner.specs.{Scanning.find, Scanning.marked, Scanning.sight, declared.scanner.State.State}
use Rattle.inf_scanner.proofs.Runs.{found_name}
use Rattle.inf_scanner.proofs.scanner.Seen.take_run.Goals as goal

pub returns-in_ok-more-in-Gap-Some-clause-found : goal.returns-in_ok-more-in-Gap-Some-clause-found
returns-in_ok-more-in-Gap-Some-clause-found c = λ set rest.
    let limit = c.args.limit in let bytes = c.args.bytes.now in let len = c.in_ok-len.len in
    let more = c.in_ok-more-in-Gap-Some.more in let behind = take (length bytes - len) (drop len bytes) in
    let left = between_to_end bytes len (length bytes) (omega arith) in let first = sight c.pass_run.new.self in
    ap (λ (l : List ℕ). find set limit (State.Run c.is_ascii_digit.result) (sight c.pass_run-in-Gap-Some.new.self) (l ++ rest))
    (sym (drop-drop more len bytes) ∙ ap (λ (l : List ℕ). drop more l) (sym left)) ∙ c.in_ok-more-in-Gap-Some.ensures.found set rest
    ∙ ap (λ (t : Bool). find set limit (State.Run t) (marked State.Gap first) (behind ++ rest)) c.is_ascii_digit.ensures.value
    ∙ found_name set limit c.in-Gap-Some.byte.now behind rest first (sym c.in-Gap-Some.ensures.value) (sym c.if-is_name_byte.ensures)
    ∙ ap (λ (l : List ℕ). find set limit State.Gap first (l ++ rest)) left
    ∙ ap (λ (s : State). find set limit s first (drop len bytes ++ rest)) (sym c.in-Gap-Some.is-0) ∙ c.in_ok-len.ensures.found set rest
