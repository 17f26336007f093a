use Rattle.std.proofs.Common.{Err, map, take}
use Rattle.inf_lexer.specs.{Entering.Attempts, Names.name_in, declared.enter_faults.EnterFault.EnterFault}
use Rattle.inf_lexer.proofs.stack.Stack.open_first.Given as goal

-- none of the names so far is there
abbrev pub invariant-loop-directory : goal.invariant-loop-directory
invariant-loop-directory g l =
    Attempts g.F.Files l.fn.files l.files (map (λ d. name_in d.now l.file) (take l.directory-index l.directories)) l.fn.self l.self
    (Err EnterFault.Absent)
