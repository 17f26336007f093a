-- The fresh routine has the state that is defined.
use Rattle.std.proofs.Common.{false, sym, subst, refl, List, ℕ}
use Rattle.inf_assembler.specs.Routines.{State, Contents, Stands, fresh, contents_of}
use Rattle.inf_assembler.proofs.Opened.{told, told_front}
use Rattle.inf_assembler.proofs.routines.Routine.open.Goals as goal

pub returns-clause-open_now : goal.returns-clause-open_now
returns-clause-open_now g c =
    let old = g.A.Area.bytes c.args.area.now in let new = g.A.Area.bytes c.push.new.self in
    let state : State =
    record { start = c.len-start.result; kept = c.new.result.items; labels = 0; fixups = 0; is_final = false; limits = c.args.limits } in
    let stands : Stands state new old (fresh c.args.locals) = record {
      start = c.len-start.ensures.value;
      bytes = c.in_ok-push.ensures.ok;
      kept = c.new.ensures.items;
      labels = refl;
      fixups = refl;
      is_final = refl;
    } in
    let P : List ℕ → Contents → Type 0 = λ front items. Stands state new front items in (
      told stands,
      subst (λ front. P front (contents_of state new)) (sym (told_front stands)) (subst (λ items. P old items) (sym (told stands)) stands),
    )
