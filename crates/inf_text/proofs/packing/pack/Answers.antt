use Rattle.std.proofs.Common.{◌≡◌, [], IsTrue, option_copied, arith}
use Rattle.std.proofs.lemmas.Result.{IfOk-weaker}
use Rattle.inf_text.specs.{Packing.in_use, Packing.packed, Parts.AreAbbreviations, Unpacking.UnpacksTo, Words.are_words}
use Rattle.inf_text.proofs.{Marked.are_words-packed, Unpacks.unpacks}
use Rattle.inf_text.proofs.packing.pack.Goals as goal

none_declared : AreAbbreviations []
none_declared = record { few = omega arith; texts = tt }

pub returns-then-has_none-clause-bytes : goal.returns-then-has_none-clause-bytes
returns-then-has_none-clause-bytes c = rw (c.has_none.ensures c.if-has_none.true) c.pack_plain.ensures.bytes

pub returns-then-has_none-clause-unpacks : goal.returns-then-has_none-clause-unpacks
returns-then-has_none-clause-unpacks c =
    let declared = in_use (option_copied c.args.abbreviations) in
    let known : AreAbbreviations declared = rw (c.has_none.ensures c.if-has_none.true) none_declared in
    let law = unpacks declared c.args.text.now known c.pack_plain.ensures.text in
    IfOk-weaker c.pack_plain.result (λ v. v.items ≡ packed c.args.text.now declared) (λ v. UnpacksTo declared v.items c.args.text.now)
    (λ v is. rw is law) (returns-then-has_none-clause-bytes c)

pub returns-then-has_none-clause-words : goal.returns-then-has_none-clause-words
returns-then-has_none-clause-words c =
    let declared = in_use (option_copied c.args.abbreviations) in
    let known : AreAbbreviations declared = rw (c.has_none.ensures c.if-has_none.true) none_declared in
    let law = are_words-packed declared c.args.text.now known c.pack_plain.ensures.text in
    IfOk-weaker c.pack_plain.result (λ v. v.items ≡ packed c.args.text.now declared) (λ v. IsTrue (are_words v.items)) (λ v is. rw is law)
    (returns-then-has_none-clause-bytes c)

pub returns-else-has_none-clause-unpacks : goal.returns-else-has_none-clause-unpacks
returns-else-has_none-clause-unpacks c =
    let declared = in_use (option_copied c.args.abbreviations) in
    let law = unpacks declared c.args.text.now c.pack_short.ensures.declared c.pack_short.ensures.text in
    IfOk-weaker c.pack_short.result (λ v. v.items ≡ packed c.args.text.now declared) (λ v. UnpacksTo declared v.items c.args.text.now)
    (λ v is. rw is law) c.pack_short.ensures.bytes

pub returns-else-has_none-clause-words : goal.returns-else-has_none-clause-words
returns-else-has_none-clause-words c =
    let declared = in_use (option_copied c.args.abbreviations) in
    let law = are_words-packed declared c.args.text.now c.pack_short.ensures.declared c.pack_short.ensures.text in
    IfOk-weaker c.pack_short.result (λ v. v.items ≡ packed c.args.text.now declared) (λ v. IsTrue (are_words v.items)) (λ v is. rw is law)
    c.pack_short.ensures.bytes
