use Rattle.std.proofs.Common.{◌≡◌, ◌+◌, ◌∙◌, None, drop, get_or, ap, sym, arith, ℕ}
use Rattle.std.proofs.lemmas.List.{drop_more}
use Rattle.inf_text.specs.{Searching.best_of, Searching.common, Searching.first_code, Searching.text_at, declared.index.Link.Link}
use Rattle.inf_text.proofs.Linking.{Searches-more, Searches-next, common-fits_left, fits_next, goes_on, going_on, not_going_on, shorter}
use Rattle.inf_text.proofs.Linking.{taken_is, text_is}
use Rattle.inf_text.proofs.index.longest_of.Goals.{then-may_go_on, else-may_go_on+then-link-matched, else-may_go_on+else-link-matched}
use Rattle.inf_text.proofs.index.longest_of.Goals as goal

pub code_behind-code-requires-then-link-matched : goal.code_behind-code-requires-then-link-matched
code_behind-code-requires-then-link-matched c =
    let h = c.loop-link.invariant.1 in
    omega (arith, h.matched_is, common-fits_left c.args.items.now h.before, c.if-link-matched.true)

pub common_from-matched-requires-clause-items : goal.common_from-matched-requires-clause-items
common_from-matched-requires-clause-items c =
    let h = c.loop-link.invariant.1 in omega (arith, h.matched_is, common-fits_left c.args.items.now h.before)

pub common_from-matched-requires-clause-text : goal.common_from-matched-requires-clause-text
common_from-matched-requires-clause-text c =
    let others = c.in_ok-first.others.now in let i = c.loop-link.link-index in
    let l : Link = get_or others i (record { number = 0; next = 0; shared = 0; len = 0 }) in
    let next = Searches-next c.args.texts.now c.args.items.now c.loop-link.matched c.loop-link.best (drop i others) (drop (i + 1) others) l
    _ (drop_more others i _ c.loop-link-test.true) c.loop-link.invariant.1 in
    let a = c.as_slice-text-then-may_go_on.result.now in
    let is = text_is c.args.texts.now l.number c.from-then-may_go_on.result c.index-texts-from-then-may_go_on.result a
    c.as_slice-text-then-may_go_on.ensures.value c.index-texts-from-then-may_go_on.is c.from-then-may_go_on.ensures next.within in
    let same : l.shared ≡ c.loop-link.matched =
    going_on l c.loop-link.matched c.loop-link.code (sym c.may_go_on.ensures ∙ c.if-may_go_on.true) in
    fits_next c.args.texts.now c.args.items.now c.loop-link.matched l a is same next

pub loop-link-preserved : goal.loop-link-preserved
loop-link-preserved c =
    let texts = c.args.texts.now in let items = c.args.items.now in let others = c.in_ok-first.others.now in
    let i = c.loop-link.link-index in
    let l : Link = get_or others i (record { number = 0; next = 0; shared = 0; len = 0 }) in
    let split : drop i others ≡ _ = drop_more others i (record { number = 0; next = 0; shared = 0; len = 0 }) c.loop-link-test.true in
    let next = Searches-next texts items c.loop-link.matched c.loop-link.best (drop i others) (drop (i + 1) others) l _ split
    c.loop-link.invariant.1 in
    let matched = c.loop-link.matched in
    elim c.if-may_go_on.branch [
      | then-may_go_on w ↦
          let a = w.as_slice-text-then-may_go_on.result.now in
          let is = text_is texts l.number w.from-then-may_go_on.result w.index-texts-from-then-may_go_on.result a
          w.as_slice-text-then-may_go_on.ensures.value w.index-texts-from-then-may_go_on.is w.from-then-may_go_on.ensures next.within in
          let same : l.shared ≡ matched = going_on l matched c.loop-link.code (sym c.may_go_on.ensures ∙ w.if-may_go_on.true) in
          let now : w.common_from-matched.result ≡ common items (text_at texts l.number) =
          w.common_from-matched.ensures.value ∙ goes_on texts items matched l a is same next ∙ ap (common items) is in
          let better = taken_is items (text_at texts l.number) c.loop-link.best w.from-then-may_go_on-2.result l.number
          w.common_from-matched.result l.len now w.from-then-may_go_on-2.ensures next.link.len in
          let code =
          w.code-is ∙ w.code_behind-code-then-may_go_on.ensures ∙ ap (λ (n : ℕ). first_code (drop n items)) (sym w.matched-is) in (
            code,
            Searches-more texts items matched c.if-may_go_on.matched c.loop-link.best c.if-may_go_on.best (drop i others)
                (drop (i + 1) others) l (best_of texts items None c.args.links.now) split
                (w.matched-is ∙ now) (w.best-is ∙ w.taken-best-then-may_go_on.ensures ∙ better) c.loop-link.invariant.1,
          )
      | else-may_go_on+then-link-matched w ↦
          let now : l.shared ≡ common items (text_at texts l.number) = shorter texts items matched l w.if-link-matched.true next in
          let better = taken_is items (text_at texts l.number) c.loop-link.best w.from-then-link-matched.result l.number l.shared l.len now
          w.from-then-link-matched.ensures next.link.len in
          let code =
          w.code-is ∙ w.code_behind-code-then-link-matched.ensures ∙ ap (λ (n : ℕ). first_code (drop n items)) (sym w.matched-is) in (
            code,
            Searches-more texts items matched c.if-may_go_on.matched c.loop-link.best c.if-may_go_on.best (drop i others)
                (drop (i + 1) others) l (best_of texts items None c.args.links.now) split
                (w.matched-is ∙ now) (w.best-is ∙ w.taken-best-then-link-matched.ensures ∙ better) c.loop-link.invariant.1,
          )
      | else-may_go_on+else-link-matched w ↦
          let over = not_going_on texts items matched c.loop-link.code l c.loop-link.best c.loop-link.invariant.0
          (sym c.may_go_on.ensures ∙ w.if-may_go_on.false) w.if-link-matched.false next in
          let code = w.code-is ∙ c.loop-link.invariant.0 ∙ ap (λ (n : ℕ). first_code (drop n items)) (sym w.matched-is) in (
            code,
            Searches-more texts items matched c.if-may_go_on.matched c.loop-link.best c.if-may_go_on.best (drop i others)
                (drop (i + 1) others) l (best_of texts items None c.args.links.now) split
                (w.matched-is ∙ over.0) (w.best-is ∙ over.1) c.loop-link.invariant.1,
          )
    ]
