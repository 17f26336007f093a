-- A mark has no bytes.
use Rattle.std.proofs.Common.{◌≡◌, ◌+◌, ◌∙◌, ◌++◌, ◌∷◌, [], false, length, take, ap, sym, refl, append-nil, arith}
use Rattle.inf_opcode.specs.{Cells.Of, declared.cells.Special.Special}
use Rattle.inf_assembler.specs.Routines.{State, contents_of}
use Rattle.inf_opcode.proofs.Growing.{grew_special}
use Rattle.inf_assembler.proofs.Opened.{stands_more, holds}
use Rattle.inf_assembler.proofs.routines.Routine.label.Goals as goal

pub returns-clause-ok : goal.returns-clause-ok
returns-clause-ok g c =
    let state = c.args.self.now in let bytes = g.A.Area.bytes c.args.area.now in let inside = c.self.inside in
    let new : State = record {
      start = inside.start;
      kept = c.push.new.self.items;
      labels = inside.labels + 1;
      fixups = inside.fixups;
      is_final = false;
      limits = inside.limits;
    } in
    let is = c.self.view_is in
    let kept : c.push.new.self.items ≡ state.kept ++ record { place = length bytes; what = Special.Marks c.args.label } ∷ [] =
    c.in_ok-push.ensures.items ∙ ap (λ (s : State). s.kept ++ record { place = c.len.result; what = Special.Marks c.args.label } ∷ []) is
    ∙ ap (λ place. state.kept ++ record { place = place; what = Special.Marks c.args.label } ∷ []) c.len.ensures.value in
    let grew = grew_special bytes bytes state.kept c.push.new.self.items (Special.Marks c.args.label) (sym (append-nil bytes)) kept in
    let fixups : inside.fixups ≡ state.fixups + 0 = omega (arith, ap (λ (s : State). s.fixups) is) in
    let stands =
    stands_more state new bytes bytes (take state.start bytes) (contents_of state bytes) (Of (Special.Marks c.args.label) ∷ []) false
    c.requires grew (ap (λ (s : State). s.start) is) (ap (λ (s : State). s.labels + 1) is) fixups refl in
    holds _ state new bytes bytes (take state.start bytes) stands (ap (λ (s : State). s.start) is) refl (ap (λ (s : State). s.limits) is)
