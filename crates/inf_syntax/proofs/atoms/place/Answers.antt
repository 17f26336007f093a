-- By the word with the name's slot.
use Rattle.std.proofs.Common.{◌∙◌, sym, ap, arith, get_or}
use Rattle.std.specs.Str.{str_eq_ignore_ascii_case}
use Rattle.inf_syntax.specs.Slots.{all_slots}
use Rattle.inf_syntax.proofs.Slots.{placed, word_at}
use Rattle.inf_syntax.proofs.atoms.place.Goals as goal

pub returns-in-Some-clause-place : goal.returns-in-Some-clause-place
returns-in-Some-clause-place c =
    let s = c.args.spelling.now in let l = c.in-Some.ensures.lookup in
    let is = placed s c.word_with-place.result (c.word_with-place.ensures ∙ ap (λ n. get_or all_slots n 72) c.slot_of.ensures) in
    let at =
    word_at (λ w. w.now) c.known_words.result.now c.word_with-place.result c.in-Some.word.now c.known_words.ensures.words l.3.0 l.1 in
    is.inside (omega (arith, l.3.0, c.known_words.ensures.len))
    (ap (str_eq_ignore_ascii_case s) (sym at) ∙ sym c.is_same.ensures ∙ c.if-is_same.true)

pub returns-in-Some-2-clause-place : goal.returns-in-Some-2-clause-place
returns-in-Some-2-clause-place c =
    let s = c.args.spelling.now in let l = c.in-Some.ensures.lookup in
    let is = placed s c.word_with-place.result (c.word_with-place.ensures ∙ ap (λ n. get_or all_slots n 72) c.slot_of.ensures) in
    let at =
    word_at (λ w. w.now) c.known_words.result.now c.word_with-place.result c.in-Some.word.now c.known_words.ensures.words l.3.0 l.1 in
    is.outside (ap (str_eq_ignore_ascii_case s) (sym at) ∙ sym c.is_same.ensures ∙ c.if-is_same.false)

pub returns-in-Some-2-2-clause-place : goal.returns-in-Some-2-2-clause-place
returns-in-Some-2-2-clause-place c =
    let l = c.in-Some-2.ensures.lookup in
    let is =
    placed c.args.spelling.now c.word_with-place.result (c.word_with-place.ensures ∙ ap (λ n. get_or all_slots n 72) c.slot_of.ensures) in
    is.past (omega (arith, l.3, c.known_words.ensures.len))
