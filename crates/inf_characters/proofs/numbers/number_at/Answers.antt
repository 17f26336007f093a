use Rattle.std.proofs.Common.{◌+◌, ◌*◌, ◌∙◌, drop, get_or, sym}
use Rattle.std.proofs.lemmas.List.{at_drop_more}
use Rattle.inf_characters.specs.Reading.{number_from}
use Rattle.inf_characters.proofs.Capped.{capped-more, number_from-more}
use Rattle.inf_characters.proofs.numbers.number_at.Goals as goal

pub loop-count-preserved : goal.loop-count-preserved
loop-count-preserved c =
    let h = c.loop-count.invariant in let base = c.args.base in let bytes = c.args.bytes.now in
    let count = c.loop-count.count in let digit = c.in-Some.digit in
    let next = at_drop_more (number_from base count h.high) bytes count 0 c.loop-count-test.true in
    record {
      high = base * h.high + digit;
      value_is = c.min-value.ensures ∙ rw h.value_is (capped-more base h.high digit);
      rest = sym (next ∙ number_from-more base count h.high (get_or bytes count 0) digit (drop (count + 1) bytes)
          (sym c.digit_of.ensures.value ∙ c.in-Some.is)) ∙ h.rest;
    }
