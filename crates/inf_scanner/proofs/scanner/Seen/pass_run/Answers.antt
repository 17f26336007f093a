use Rattle.std.proofs.Common.{◌++◌, ℕ, take, drop, false, sym, ap, ◌∙◌}
use Rattle.inf_scanner.specs.{Kept.Kept, Runs.with_bytes, Scanning.Sight, Scanning.find, Scanning.sight, declared.scanner.Seen.Seen}
use Rattle.inf_scanner.proofs.Runs.{found_kept, found_skipped}
use Rattle.inf_scanner.proofs.scanner.Seen.pass_run.Goals.{then-not-is_gap+in_ok-extend, else-not-is_gap}
use Rattle.inf_scanner.proofs.scanner.Seen.pass_run.Goals as goal

-- the part of a token that was seen, behind bytes that end no line
abbrev calmed : Seen → Kept → Sight
calmed seen kept = record { first = seen.first; kept = kept; lines = record { line = seen.lines.line; after_return = false } }

pub returns-clause-found : goal.returns-clause-found
returns-clause-found c = λ set rest.
    let bytes = c.args.bytes.now in let len = c.run_len-len.result in let old : Seen = c.args.self.now in
    elim c.if-not-is_gap.branch [
      | then-not-is_gap+in_ok-extend w ↦
          ap (λ (x : Seen). find set c.args.limit c.args.state (calmed x x.spelling) (drop len bytes ++ rest)) w.self-is
          ∙ ap (λ (k : Kept). find set c.args.limit c.args.state (calmed old k) (drop len bytes ++ rest))
          (w.in_ok-extend.ensures.ok ∙ ap (λ (n : ℕ). with_bytes n (take len bytes) old.spelling) w.most.ensures)
          ∙ found_kept set c.args.limit c.args.state len bytes rest (sight old) (sym w.if-not-is_gap.ensures) c.run_len-len.ensures
          c.if-len-eq0.false
      | else-not-is_gap w ↦
          ap (λ (x : Seen). find set c.args.limit c.args.state (calmed x x.spelling) (drop len bytes ++ rest)) w.self-is
          ∙ found_skipped set c.args.limit c.args.state len bytes rest (sight old) (sym w.if-not-is_gap.ensures) c.run_len-len.ensures
          c.if-len-eq0.false
    ]
