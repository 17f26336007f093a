-- The file is made where there is none yet, and all bytes go to it.
use Rattle.std.proofs.Common.{◌≡◌, ℕ, List, Option, Some, None, Result, Ok, Err, IsErr, refl, sym, ◌∙◌, subst, IsSome}
use Rattle.std.specs.Io.KnownBytes.{WriteAppends}
use Rattle.inf_disk.specs.Disk.{WritesMade}
use Rattle.inf_disk.proofs.disk.StorySinkSink.write.Goals as goal

-- a write to a file that was there, or was made before it
to_made : {F E : Type 0} (contents : F → Option (List ℕ)) (old mid : Option F) (file after : F) (answer : Result ℕ E) (bytes : List ℕ) →
    (IsSome old → mid ≡ old) → mid ≡ Some file → WriteAppends (contents file) (contents after) answer bytes
    → WritesMade contents old (Some after) answer bytes
to_made contents None mid file after answer bytes held is wrote = (file, wrote)
to_made contents (Some before) mid file after answer bytes held is wrote =
    let same : file ≡ before = let some : Some file ≡ Some before = sym is ∙ held refl in cc in
    (after, refl, subst (λ f. WriteAppends (contents f) (contents after) answer bytes) same wrote)

-- no file could be made
none_made : {F E : Type 0} (contents : F → Option (List ℕ)) (old : Option F) (answer : Result ℕ E) (bytes : List ℕ) →
    (IsSome old → ⊥) → IsErr answer → WritesMade contents old None answer bytes
none_made contents old (Ok n) bytes none err = cc
none_made contents None (Err e) bytes none err = tt
none_made contents (Some before) (Err e) bytes none err = absurd (none refl)

pub returns-in_err-make-clause-bytes : goal.returns-in_err-make-clause-bytes
returns-in_err-make-clause-bytes g c =
    let contents = g.R.File.Write.contents in let old = c.args.self.now.file in let r = c.from_residual.result in
    let bytes = c.args.bytes.now in let none : c.make.new.self.file ≡ None = c.in_err-make.ensures.none refl in
    subst (λ f. WritesMade contents old f r bytes) (sym none)
    (none_made contents old r bytes (λ some. let never = (c.in_err-make.ensures.held some).0 in cc) c.from_residual.ensures.0)

pub returns-clause-bytes : goal.returns-clause-bytes
returns-clause-bytes g c =
    to_made g.R.File.Write.contents c.args.self.now.file c.make.new.self.file c.in-Some.file c.write_some.new.to c.write_some.result
    c.args.bytes.now (λ some. (c.in_ok-make.ensures.held some).1) c.in-Some.is c.write_some.ensures.bytes
