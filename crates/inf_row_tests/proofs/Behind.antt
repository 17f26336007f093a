-- Items behind others.
use Rattle.std.proofs.Common.{◌++◌, [], refl, sym, ◌∙◌, ap, append-nil, append_assoc}
use Rattle.inf_assembler.specs.Routines.{Contents, Moment, Were, moment_of}

pub were_same : (a : Contents) → Were a (moment_of a) a
were_same a = record { added = []; locals = refl; cells = sym (append-nil a.cells); moment = refl }

pub were_then : (a b c : Contents) (m n : Moment) → Were a m b → Were b n c → Were a m c
were_then a b c m n first second =
    record {
      added = first.added ++ second.added;
      locals = second.locals ∙ first.locals;
      cells = second.cells ∙ ap (λ xs. xs ++ second.added) first.cells ∙ append_assoc a.cells first.added second.added;
      moment = first.moment;
    }
