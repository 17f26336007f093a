use Rattle.std.proofs.Common.{◌≡◌, ◌+◌, ◌<◌, length, IsTrue}
use Rattle.inf_devices.specs.Files.{Openings}
use Rattle.inf_sources.specs.Open.{IsNested}
use Rattle.inf_sources.proofs.open_files.OpenFiles.close.Given as goal

-- fewer and fewer files are open, nested as before
abbrev pub invariant-loop : goal.invariant-loop
invariant-loop g l =
    let files = g.F.Files in
    record {
      is_open : length l.self.outer < files.depth l.files;
      nested : IsTrue (files.is_honest l.fn.files) → (start : Openings) → IsNested start (files.openings l.fn.files) l.fn.self →
          IsNested start (files.openings l.files) l.self;
      all : IsTrue (files.is_honest l.fn.files) → (files.openings l.files).all ≡ (files.openings l.fn.files).all;
      depth : files.depth l.files + length l.fn.self.outer ≡ files.depth l.fn.files + length l.self.outer;
      faults : files.faults l.files ≡ files.faults l.fn.files;
      opened : files.opened l.files ≡ files.opened l.fn.files;
      too_long : (files.counts l.files).too_long ≡ (files.counts l.fn.files).too_long;
      sources : files.sources l.files ≡ files.sources l.fn.files;
      honesty : files.is_honest l.files ≡ files.is_honest l.fn.files;
    }

abbrev pub decreases-loop : goal.decreases-loop
decreases-loop g l = length l.self.outer
