use Rattle.std.proofs.Common.{◌≡◌, ◌<◌, ◌+◌, ◌∙◌, ap, inl, inr, set, get_or, arith}
use Rattle.inf_text.specs.{Searching.first_code, declared.index.Ranges.Ranges}
use Rattle.inf_text.proofs.{Linking.text_is, index.ranges_of.Goals.else-ranges-code-eq0, index.ranges_of.Goals.then-ranges-code-eq0}
use Rattle.inf_text.proofs.Ranging.{AreRangesTo-more, AreRangesTo-none, code_at}
use Rattle.inf_text.proofs.index.ranges_of.Goals as goal

pub loop-place-init : goal.loop-place-init
loop-place-init c = AreRangesTo-none c.args.texts.now c.args.order.now _ c.no_ranges-ranges.ensures

pub loop-place-preserved : goal.loop-place-preserved
loop-place-preserved c =
    let texts = c.args.texts.now in let order = c.args.order.now in let place = c.loop-place.place in
    let code = c.from-code.result in let within = c.requires.numbers place c.loop-place-test.true in
    let text = text_is texts (get_or order place 0) c.from.result c.index-texts-from.result c.as_slice.result.now c.as_slice.ensures.value
    c.index-texts-from.is c.from.ensures within in
    let code_is : code ≡ code_at texts order place = c.from-code.ensures ∙ c.first_code.ensures ∙ ap first_code text in
    let small : code < 256 = omega (arith, c.from-code.ensures, c.first_code.type_inv) in
    elim c.if-ranges-code-eq0.branch [
      | then-ranges-code-eq0 w ↦
          AreRangesTo-more texts order place code c.loop-place.ranges c.if-ranges-code-eq0.ranges.starts
          (set c.if-ranges-code-eq0.ranges.ends code (place + 1)) code_is small
          (ap (λ (r : Ranges). set r.ends code (place + 1)) w.ranges-is)
          (inl (w.if-ranges-code-eq0.true, ap (λ (r : Ranges). r.starts) w.ranges-is)) c.loop-place.invariant
      | else-ranges-code-eq0 w ↦
          AreRangesTo-more texts order place code c.loop-place.ranges c.if-ranges-code-eq0.ranges.starts
          (set c.if-ranges-code-eq0.ranges.ends code (place + 1)) code_is small
          (ap (λ (r : Ranges). set r.ends code (place + 1)) w.ranges-is)
          (inr (w.if-ranges-code-eq0.false, ap (λ (r : Ranges). r.starts) w.ranges-is)) c.loop-place.invariant
    ]
