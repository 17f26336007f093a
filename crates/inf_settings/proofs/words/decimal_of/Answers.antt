use Rattle.std.proofs.Common.{◌≡◌, ◌-◌, ◌*◌, ◌+◌, min, get_or, ◌∙◌, sym, arith}
use Rattle.inf_settings.specs.Words.{greatest}
use Rattle.inf_settings.proofs.Decimals.{decimal_end, decimal_next}
use Rattle.inf_settings.proofs.words.decimal_of.Goals as goal

pub loop-byte-preserved : goal.loop-byte-preserved
loop-byte-preserved c =
    let ds = c.args.digits.now in let i = c.loop-byte.byte-index in
    let next : c.saturating_add-number.result ≡ min (min (c.loop-byte.number * 10) greatest + (get_or ds i 0 - 48)) greatest =
    omega (arith, c.saturating_mul.ensures, c.saturating_add-number.ensures, c.from.ensures) in
    record {
      gives = decimal_next c.loop-byte.number c.saturating_add-number.result ds i c.loop-byte-test.true
          c.if-not-is_ascii_digit.ensures.cases.0 c.if-not-is_ascii_digit.ensures.cases.1 next
          ∙ c.loop-byte.invariant.gives;
      small = omega (arith, c.saturating_add-number.ensures);
    }

pub returns : goal.returns
returns c = sym (decimal_end c.loop-byte.number c.args.digits.now c.loop-byte.byte-index c.loop-byte-test.false c.loop-byte.invariant.small)
    ∙ c.loop-byte.invariant.gives
