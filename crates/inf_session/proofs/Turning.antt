-- The open files behind a turn to another character set.
use Rattle.std.proofs.Common.{◌≡◌, ◌+◌, ℕ, suc, List, [], ◌∷◌, length, map, refl, sym, ap, subst, ◌∙◌, arith}
use Rattle.inf_characters.specs.declared.characters.CharSet.{CharSet}
use Rattle.inf_devices.specs.{Files.Openings, Files.Sources, declared.files.Files.Ghosts as Files}
use Rattle.inf_lexer.specs.Entering.{OpensOn}
use Rattle.inf_sources.specs.{Calls.AreCounted, Calls.Went, Calls.given_each, Choosing.file_with, Choosing.open_with, Open.AllGiven}
use Rattle.inf_sources.specs.{Open.IsNested, Open.Open, declared.open_file.OpenFile.OpenFile}
use Rattle.inf_sources.proofs.Calls.{went_none}

-- the number of files that wait stays
as_many : (set : CharSet) (files : List OpenFile) → length (map (file_with set) files) ≡ length files
as_many set [] = refl
as_many set (f ∷ files) = ap suc (as_many set files)

-- No file is asked for anything at such a turn.
pub turned_went : {S : Type 0} (f : Files S) (s : S) (set : CharSet) (before after : Open) → after ≡ open_with set before
    → ((start now : Openings) → IsNested start now before → IsNested start now after)
    → ((sources : Sources) (n : ℕ) (now : Openings) → AllGiven sources n now before → AllGiven sources n now after)
    → given_each after ≡ given_each before → Went f s s before after
turned_went f s set before after turned nested stays given = record {
  sources = refl;
  honesty = refl;
  faults = omega arith;
  depth = ap (λ n. f.depth s + n) (sym (ap (λ (o : Open). length o.outer) turned ∙ as_many set before.outer));
  counted = λ base was. subst (λ (gs : List ℕ). AreCounted base gs (f.counts s).each (f.counts s).too_long) (sym given) was;
  opened = subst (λ (o : Open). OpensOn before.nest.names o.nest.names (f.opened s) (f.opened s)) (sym turned)
      (went_none f s before).opened;
  nested = λ honest start are. nested start (f.openings s) are;
  stays_given = λ honest start are all. stays (f.sources s) (length start.all) (f.openings s) all;
}
