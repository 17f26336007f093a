-- One more reference is listed.
use Rattle.std.proofs.Common.{◌≡◌, ◌+◌, ◌-◌, ◌∙◌, [], ◌∷◌, ◌++◌, ap, get_or, drop, length, sym, arith, append_assoc, length-append}
use Rattle.std.proofs.lemmas.Result.{err_from_is_err_and}
use Rattle.inf_area.specs.{declared.fixups.Fixup.Fixup, declared.targets.AreaName.AreaName}
use Rattle.inf_opcode.specs.{declared.cells.Kept.Kept, declared.cells.Special.Special}
use Rattle.inf_assembler.specs.{Closing.found, Closing.kept_fixups, Closing.saving, Places.fixup_at}
use Rattle.inf_assembler.proofs.Passes.{fixups_step, fixup_other}
use Rattle.inf_assembler.proofs.closing.list_fixups.Goals.{in-Refers+in_ok-add, in_default}
use Rattle.inf_assembler.proofs.closing.list_fixups.Goals as goal

abbrev nothing : Kept
nothing = record { place = 0; what = Special.Marks (record { number = 0 }) }

pub returns-in_err-add-clause-full : goal.returns-in_err-add-clause-full
returns-in_err-add-clause-full c =
    let kept = c.args.kept.now in let i = c.loop-entry.entry-index in let entry = get_or kept i nothing in
    let long = found c.args.long.now in let now = c.loop-entry.invariant in
    let here = fixup_at (entry.place - c.loop-entry.saved) entry.what in
    let rest = kept_fixups long (c.loop-entry.saved + saving long entry) (drop (i + 1) kept) in
    let one : length here ≡ 1 = ap (λ what. length (fixup_at (entry.place - c.loop-entry.saved) what)) c.in-Refers.is in
    let all = ap length (ap (λ hs. c.loop-entry.refs.list ++ hs)
    (sym (fixups_step long c.loop-entry.saved i kept nothing c.loop-entry-test.true)) ∙ now.left) in
    let p = err_from_is_err_and c.from_residual.result c.from_residual.ensures.1 in
    rw (p.1, p.2) (λ e. omega (
      arith,
      c.in_err-add.ensures.full e,
      now.limit,
      all,
      one,
      length-append c.loop-entry.refs.list (here ++ rest),
      length-append here rest,
      length-append c.args.refs.now.list (kept_fixups long 0 kept),
    ))

pub loop-entry-preserved : goal.loop-entry-preserved
loop-entry-preserved c =
    let kept = c.args.kept.now in let i = c.loop-entry.entry-index in let entry = get_or kept i nothing in
    let long = found c.args.long.now in let now = c.loop-entry.invariant in let saved = c.loop-entry.saved in
    let list = c.loop-entry.refs.list in let rest = kept_fixups long (saved + saving long entry) (drop (i + 1) kept) in
    let next : kept_fixups long (saved + c.saving-saved.result) (drop (i + 1) kept) ≡ rest =
    ap (λ k. kept_fixups long (saved + k) (drop (i + 1) kept)) c.saving-saved.ensures.value in
    let left = ap (λ hs. list ++ hs) (sym (fixups_step long saved i kept nothing c.loop-entry-test.true)) ∙ now.left in
    elim c.match-entry.branch [
      | in-Refers+in_ok-add w ↦ (
          let fixup : Fixup = record { area = AreaName.Code; place = w.saturating_sub.result; target = w.in-Refers.target } in
          let here : fixup_at (entry.place - saved) entry.what ≡ fixup ∷ [] = ap (fixup_at (entry.place - saved)) w.in-Refers.is
          ∙ ap (λ p. record { area = AreaName.Code; place = p; target = w.in-Refers.target } ∷ []) (sym w.saturating_sub.ensures) in
          let is : c.match-entry.refs.list ≡ list ++ fixup ∷ [] = ap (λ r. r.list) (w.refs-is ∙ w.in_ok-add.ensures.ok) in
          let same = ap (λ r. r.limit) (w.refs-is ∙ w.in_ok-add.ensures.ok) in
          record {
            added = now.added ++ fixup ∷ [];
            saved = omega (arith, now.saved, c.saving-saved.ensures.small);
            limit = same ∙ now.limit;
            room = omega (arith, ap length is, length-append list (fixup ∷ []), w.in_ok-add.ensures.room, same);
            so_far = is ∙ ap (λ xs. xs ++ fixup ∷ []) now.so_far ∙ append_assoc c.args.refs.now.list now.added (fixup ∷ []);
            left = ap (λ xs. xs ++ kept_fixups long (saved + c.saving-saved.result) (drop (i + 1) kept)) is
                ∙ ap (λ hs. (list ++ fixup ∷ []) ++ hs) next
                ∙ append_assoc list (fixup ∷ []) rest ∙ ap (λ hs. list ++ (hs ++ rest)) (sym here) ∙ left;
          })
      | in_default w ↦ (
          let here : fixup_at (entry.place - saved) entry.what ≡ [] =
          fixup_other (entry.place - saved) entry.what w.in_default.not-Refers in
          let is : c.match-entry.refs.list ≡ list = ap (λ r. r.list) w.refs-is in
          let same = ap (λ r. r.limit) w.refs-is in
          record {
            added = now.added;
            saved = omega (arith, now.saved, c.saving-saved.ensures.small);
            limit = same ∙ now.limit;
            room = omega (arith, ap length is, now.room, same);
            so_far = is ∙ now.so_far;
            left = ap (λ xs. xs ++ kept_fixups long (saved + c.saving-saved.result) (drop (i + 1) kept)) is ∙ ap (λ hs. list ++ hs) next
                ∙ ap (λ hs. list ++ (hs ++ rest)) (sym here) ∙ left;
          })
    ]
