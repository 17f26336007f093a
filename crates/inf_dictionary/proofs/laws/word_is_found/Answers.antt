use Rattle.std.proofs.Common.{◌≡◌, ◌∙◌, ◌<◌, ◌*◌, ℕ, [], arith, length, slice_index_or}
use Rattle.std.proofs.lemmas.List.{length-map}
use Rattle.std.specs.{Cmp.Lexicographic.lists_total, Cmp.nat_cmp_total}
use Rattle.inf_dictionary.specs.{Lookup.text_written, Texts.texts_of, Words.dictionary_bytes}
use Rattle.inf_dictionary.proofs.{Halves.found_where_it_stands, Halves.none_found, Halves.other_at, Wholes.behind_head, Wholes.text_at}
use Rattle.inf_dictionary.proofs.laws.word_is_found.Goals as goal

pub returns-clause-found : goal.returns-clause-found
returns-clause-found g c = λ place h.
    let words = c.args.dictionary.now.list in
    let same : length (texts_of words) ≡ length words = length-map words (λ e. e.0) in
    let are : (k : ℕ) → k < length (texts_of words) → text_written (dictionary_bytes words) k ≡ slice_index_or (texts_of words) k []
    = λ k within. behind_head words (9 * k) ∙ text_at words k c.is_in_order.ensures.whole (omega (arith, same, within)) in
    found_where_it_stands (lists_total nat_cmp_total) (dictionary_bytes words) (texts_of words) place c.is_in_order.ensures.rising are
    (length words) 0 (length words) (omega arith) h (omega (arith, same)) (omega arith)

pub returns-clause-absent : goal.returns-clause-absent
returns-clause-absent g c = λ text none.
    let words = c.args.dictionary.now.list in
    let same : length (texts_of words) ≡ length words = length-map words (λ e. e.0) in
    none_found (dictionary_bytes words) text (texts_of words)
    (λ k within. behind_head words (9 * k) ∙ text_at words k c.is_in_order.ensures.whole (omega (arith, same, within)))
    (λ k within. other_at text words k none (omega (arith, same, within))) (length words) 0 (length words) (omega (arith, same))
