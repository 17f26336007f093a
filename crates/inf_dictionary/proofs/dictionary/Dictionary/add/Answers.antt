use Rattle.std.proofs.Common.{◌≡◌, ◌∙◌, rules, arith, ◌≤◌, ap, length, subst, sym}
use Rattle.std.proofs.lemmas.Grind.{common_steps}
use Rattle.std.specs.{BTreeMap.insert_entry, Cmp.Lexicographic.lists_total, Cmp.nat_cmp_total}
use Rattle.inf_dictionary.proofs.{Again.known_again, Ranks.order, Wholes.whole_with}
use Rattle.inf_dictionary.specs.{Texts.AreRising, Texts.AreWhole, Texts.texts_of, Words.Words, Words.joined, Words.word_of}
use Rattle.inf_dictionary.proofs.dictionary.Dictionary.add.Goals as goal

pub invariant_of-self-2 : goal.invariant_of-self-2
invariant_of-self-2 g c =
    let six : length c.args.text ≡ 6 = search rules in
    let bound : length c.insert.new.self.entries ≤ c.self.inside.limit = grind (arith, common_steps) in (
      bound,
      c.insert.ensures.ordered,
      subst (λ es. AreWhole (texts_of es)) (sym c.in_ok-insert.ensures.entries)
          (whole_with c.args.text c.joined-word.result c.self.inside.words.entries six c.self.invariant.2),
    )

pub returns-then-is_known-clause-ok : goal.returns-then-is_known-clause-ok
returns-then-is_known-clause-ok g c =
    let words = c.args.self.now.list in let text = c.args.text in let word = c.joined-word.result in
    let rising = subst (λ (w : Words). AreRising (texts_of w.list)) c.self.view_is c.self.invariant.1 in
    let known = sym c.word-before.ensures ∙ c.is_known.ensures c.if-is_known.true in
    let same : insert_entry order words text (joined (word_of text words) c.args.word_use c.args.is_plural) ≡ words =
    ap (λ w. insert_entry order words text (joined w c.args.word_use c.args.is_plural)) (sym c.word-before.ensures)
    ∙ ap (insert_entry order words text) (sym c.joined-word.ensures)
    ∙ known_again (lists_total nat_cmp_total) text word words rising known in
    sym (ap (λ l. record { list = l }) same)
