-- The reading of a source as the code has it.
use Rattle.inf_compilation.specs.Works.{work}
use Rattle.inf_reader.specs.{Reading.ReaderState, Reading.Reading, declared.progress.Progress.Progress, declared.reader.Reader.Reader}

abbrev pub reading : Reader → Reading
reading r = record { mode = r.mode; stack = r.machine }

abbrev pub standing : {B : Type 0} → Progress B → ReaderState
standing p = record { reading = reading p.reader; work = work p.work }
