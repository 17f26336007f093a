-- A mark is seen in all entries behind it.
use Rattle.std.proofs.Common.{◌≡◌, ℕ, ◌+◌, ◌-◌, ◌∙◌, Option, ap, Some, None, cond, is_some, get_or, take, sym, arith}
use Rattle.std.proofs.lemmas.List.{take_more}
use Rattle.inf_opcode.specs.{declared.cells.Kept.Kept, declared.cells.Special.Special}
use Rattle.inf_assembler.specs.Places.{first_of, marks}
use Rattle.inf_assembler.specs.Closing.{found, nowhere, only, kept_place, kept_again}
use Rattle.inf_assembler.proofs.Passes.{kept_place-push, again_new, again_other, marks_other, twice_step, first_of-none}
use Rattle.inf_assembler.proofs.closing.first_twice.Goals.{in-Marks+else-is_some+in_ok-note, in_default}
use Rattle.inf_assembler.proofs.closing.first_twice.Goals as goal

abbrev nothing : Kept
nothing = record { place = 0; what = Special.Marks (record { number = 0 }) }

pub loop-entry-preserved : goal.loop-entry-preserved
loop-entry-preserved c =
    let kept = c.args.kept.now in let i = c.loop-entry.entry-index in let entry = get_or kept i nothing in
    let now = c.loop-entry.invariant in
    let place : (n : ℕ) → kept_place nowhere 0 (take (i + 1) kept) n ≡ first_of (kept_place nowhere 0 (take i kept) n)
    (cond (marks n entry.what) (Some (entry.place - 0)) None) =
    λ n. ap (λ ks. kept_place nowhere 0 ks n) (take_more kept i nothing c.loop-entry-test.true) ∙ kept_place-push 0 (take i kept) entry n in
    let K : ℕ → Option ℕ = λ n. kept_place nowhere 0 (take i kept) n in
    let same : entry.place ≡ entry.place - 0 = omega arith in
    elim c.match-entry.branch [
      | in-Marks+else-is_some+in_ok-note w ↦ (
          let label = w.in-Marks.label in
          let new =
          ap is_some (sym (w.place_of.ensures ∙ ap (λ xs. found xs label.number) w.as_slice.ensures.value ∙ now.seen label.number))
          ∙ sym w.is_some.ensures ∙ w.if-is_some.false in
          record {
            seen = λ n. ap (λ v. found v.items n) w.seen-is ∙ w.in_ok-note.ensures n
                ∙ ap (λ o. first_of o (only label.number entry.place n)) (now.seen n)
                ∙ ap (λ what. first_of (K n) (cond (marks n what) (Some entry.place) None)) (sym w.in-Marks.is)
                ∙ ap (λ p. first_of (K n) (cond (marks n entry.what) (Some p) None)) same ∙ sym (place n);
            left = twice_step i kept nothing c.loop-entry-test.true
                (ap (kept_again (take i kept)) w.in-Marks.is ∙ again_new (take i kept) label new) ∙ now.left;
          })
      | in_default w ↦ record {
        seen = λ n. ap (λ v. found v.items n) w.seen-is ∙ now.seen n ∙ sym (first_of-none (K n))
            ∙ ap (λ b. first_of (K n) (cond b (Some (entry.place - 0)) None)) (sym (marks_other n entry.what w.in_default.not-Marks))
            ∙ sym (place n);
        left = twice_step i kept nothing c.loop-entry-test.true (again_other (take i kept) entry.what w.in_default.not-Marks) ∙ now.left;
      }
    ]
