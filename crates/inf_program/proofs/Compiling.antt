-- A compilation leaves in its devices the bytes of the outcome that the program of its source gives, since the outcome of the turns is the
-- same.
use Rattle.std.proofs.Common.{ℕ, List, Option, IfErr, IfOk, OnErr, Result}
use Rattle.std.proofs.lemmas.Result.{IfErr-weaker, IfOk-weaker, on_err_weaker}
use Rattle.inf_devices.specs.Files.{Sources}
use Rattle.inf_session.specs.Choices.{Choices}
use Rattle.inf_ending.specs.{Faults.IfStory, declared.compiled.Status.Status, declared.faults.Fault.Fault}
use Rattle.inf_compile.specs.{Comes.Begins as TurnsBegin, Compiling.Compiles as TurnsCompile, Compiling.DeliversPart as TurnsDeliverPart}
use Rattle.inf_program.specs.Compiling.{Begins, Compiles, DeliversPart}
use Rattle.inf_program.proofs.Written.{same_outcomes}

compiles : (sources : Sources) (o : Choices) (serial name : List ℕ) (status : Status) (before after was now : Option (List ℕ))
    → TurnsCompile sources o serial name status before after was now → Compiles sources o serial name status before after was now
compiles sources o serial name status before after was now c = record {
  ending = c.ending;
  is_written = (same_outcomes sources o serial name c.ending).0 c.is_outcome;
  status_is = c.status_is;
  messages = c.messages;
  story = c.story;
}

begins : (sources : Sources) (o : Choices) (serial name : List ℕ) (before after : Option (List ℕ))
    → TurnsBegin sources o serial name before after → Begins sources o serial name before after
begins sources o serial name before after b = record {
  front = b.front;
  takes = b.takes;
  begins = λ e written. b.begins e ((same_outcomes sources o serial name e).1 written);
}

delivers : (sources : Sources) (o : Choices) (serial name : List ℕ) (n : ℕ) (before after was now : Option (List ℕ))
    → TurnsDeliverPart sources o serial name n before after was now → DeliversPart sources o serial name n before after was now
delivers sources o serial name n before after was now d = record {
  ending = d.ending;
  is_written = (same_outcomes sources o serial name d.ending).0 d.is_outcome;
  messages = d.messages;
  story = d.story;
}

if_delivers : (sources : Sources) (o : Choices) (serial name : List ℕ) (before after was now : Option (List ℕ)) (f : Fault)
    → IfStory f (λ n. TurnsDeliverPart sources o serial name n before after was now)
    → IfStory f (λ n. DeliversPart sources o serial name n before after was now)
if_delivers sources o serial name before after was now (Fault.Story n) d = delivers sources o serial name n before after was now d
if_delivers sources o serial name before after was now Fault.Memory d = d
if_delivers sources o serial name before after was now (Fault.Read file) d = d
if_delivers sources o serial name before after was now Fault.Messages d = d

-- Lemmas about the clauses of a call

pub headline_written : (result : Result Status Fault) (sources : Sources) (o : Choices) (serial name : List ℕ)
    (before after was now : Option (List ℕ))
    → IfOk result (λ status. TurnsCompile sources o serial name status before after was now)
    → IfOk result (λ status. Compiles sources o serial name status before after was now)
headline_written result sources o serial name before after was now c =
    IfOk-weaker result _ _ (λ status k. compiles sources o serial name status before after was now k) c

pub begins_written : (result : Result Status Fault) (sources : Sources) (o : Choices) (serial name : List ℕ)
    (before after : Option (List ℕ)) → OnErr result (TurnsBegin sources o serial name before after)
    → OnErr result (Begins sources o serial name before after)
begins_written result sources o serial name before after b = on_err_weaker result (begins sources o serial name before after) b

pub part_written : (result : Result Status Fault) (sources : Sources) (o : Choices) (serial name : List ℕ)
    (before after was now : Option (List ℕ))
    → IfErr result (λ f. IfStory f (λ n. TurnsDeliverPart sources o serial name n before after was now))
    → IfErr result (λ f. IfStory f (λ n. DeliversPart sources o serial name n before after was now))
part_written result sources o serial name before after was now d =
    IfErr-weaker result _ _ (λ f k. if_delivers sources o serial name before after was now f k) d
