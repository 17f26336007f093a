-- The counts are those of the cells.
use Rattle.std.proofs.Common.{◌≡◌, ℕ, ◌+◌, ◌-◌, ◌∙◌, ◌∷◌, Bool, length, take, ap, arith, length-append}
use Rattle.inf_opcode.specs.Cells.{long_bytes}
use Rattle.inf_assembler.specs.Routines.{State, Moment, contents_of, moment_of}
use Rattle.inf_assembler.proofs.Opened.{kept_length}
use Rattle.inf_assembler.proofs.routines.Routine.mark.Goals as goal

pub returns : goal.returns
returns g c =
    let state = c.args.self.now in let bytes = g.A.Area.bytes c.args.area.now in
    let contents = contents_of state bytes in let front = take state.start bytes in let stands = c.requires in
    let inside = c.self.inside in let is = c.self.view_is in let all = moment_of contents in
    let make : ℕ → ℕ → ℕ → ℕ → Bool → Moment = λ l k a h f. record { len = l; kept = k; labels = a; fixups = h; is_final = f } in
    let len : c.len.result - inside.start ≡ all.len = omega (
      arith,
      c.len.ensures.value,
      ap length stands.bytes,
      length-append front (contents.locals ∷ long_bytes contents.cells),
      stands.start,
      ap (λ (s : State). s.start) is,
    ) in
    let kept : c.len-2.result ≡ all.kept = omega (
      arith,
      c.len-2.ensures,
      inside.kept.ok.0,
      ap length (ap (λ (s : State). s.kept) is ∙ stands.kept),
      kept_length (length front + 1) 0 contents.cells,
    ) in
    let labels = ap (λ (s : State). s.labels) is ∙ stands.labels in
    let fixups = ap (λ (s : State). s.fixups) is ∙ stands.fixups in
    ap (λ k. make k c.len-2.result inside.labels inside.fixups inside.is_final) len
    ∙ ap (λ k. make all.len k inside.labels inside.fixups inside.is_final) kept
    ∙ ap (λ k. make all.len all.kept k inside.fixups inside.is_final) labels
    ∙ ap (λ k. make all.len all.kept all.labels k inside.is_final) fixups
    ∙ ap (λ f. make all.len all.kept all.labels all.fixups f) (ap (λ (s : State). s.is_final) is)
