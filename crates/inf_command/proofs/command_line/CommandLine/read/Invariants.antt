use Rattle.std.proofs.Common.{◌≡◌, map, drop}
use Rattle.inf_command.specs.Words.{read_from, read_words}
use Rattle.inf_command.proofs.command_line.CommandLine.read.Given as goal

-- reading the words that are left after those that were taken is reading all words
abbrev pub invariant-loop-place : goal.invariant-loop-place
invariant-loop-place l = read_from l.taken l.place (map (λ w. w.now) (drop l.place l.words)) ≡ read_words (map (λ w. w.now) l.words)
