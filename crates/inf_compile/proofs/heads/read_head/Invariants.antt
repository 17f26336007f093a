use Rattle.std.proofs.Common.{◌≡◌, ◌+◌, ◌-◌, ◌<◌, ◌≤◌, false, length}
use Rattle.inf_lexer.specs.Heads.{is_behind, is_word}
use Rattle.inf_sources.specs.{Calls.Honestly, Calls.StaysFit, Calls.Went, Open.nesting, Open.opened_since}
use Rattle.inf_compile.proofs.Heading.{Leads}
use Rattle.inf_compile.proofs.heads.read_head.Given as goal

-- the words that were taken, with those that are left, are those of the head
abbrev pub invariant-loop-head : goal.invariant-loop-head
invariant-loop-head g l =
    let files = g.F.Files in let sources = files.sources l.fn.files in
    record {
      led : Honestly files l.fn.files l.fn.open_files (λ start. Leads (nesting sources start (files.openings l.fn.files) l.fn.open_files)
          (nesting sources start (files.openings l.files) l.open_files) l.place l.head);
      opened : Honestly files l.fn.files l.fn.open_files
          (λ start. opened_since start (files.openings l.files) ≡ opened_since start (files.openings l.fn.files));
      went : Went files l.fn.files l.files l.fn.open_files l.open_files;
      fits : StaysFit files l.fn.files l.files l.fn.open_files;
      is_open : length l.open_files.outer < files.depth l.files;
      goes : l.open_files.lexer.has_failed ≡ false;
      same : (l.open_files.nest ≡ l.fn.open_files.nest) × ((l.open_files.outer ≡ l.fn.open_files.outer)
          × (l.open_files.lexer.file ≡ l.fn.open_files.lexer.file));
      seen : files.faults l.files ≡ files.faults l.fn.files;
      window : length l.fn.open_files.lexer.window.left ≤ 4096 → length l.open_files.lexer.window.left ≤ 4096;
      before : is_behind l.place ≡ false;
      none : is_word l.place ≡ false;
    }

abbrev pub decreases-loop-head : goal.decreases-loop-head
decreases-loop-head g l = 16777217 + length l.open_files.lexer.window.left - l.open_files.lexer.window.given
