-- Code at any place of a program whose labels are looked up, and the examples, by evaluation.
use Rattle.std.proofs.lemmas.Bool.{eq-eqb}
use Rattle.std.proofs.Common.{List, [], ap, append_assoc, false, if◌then◌else◌, refl, subst, sym, ℕ, ◌++◌, ◌==◌, ◌∙◌, ◌∷◌, ◌≡◌}
use Rattle.inf_opcode.specs.declared.instructions.Label.{Label}
use Rattle.inf_output.specs.declared.items.Item.{Item}
use Rattle.inf_output.specs.Output.{Code, Out, apart, behind, instruction, items_of, jumped, laid, marked, naming}
use Rattle.inf_templates.specs.Meaning.{and_branch, assign_value, meaning, single_tests, test_branch, tests, triple_tests}
use Rattle.inf_interpreter.specs.{Claims.Claim, Claims.Does, Claims.state, Machine.Place, Machine.Stands, Machine.World, Machine.◌then◌}
use Rattle.inf_meaning_laws.specs.{Laws.GivesValue, Laws.taken, Values.sense}
use Rattle.inf_meaning_laws.proofs.Expressions.{values_are_computed}
use Rattle.inf_label_laws.specs.Examples.{ExamplesAreEvaluated, WaitingValuesAreLost, store}
use Rattle.inf_label_laws.specs.Labels.{AreDifferent, IsAbsent, ProgramsCompute, ProgramsPush, RunsTo, behind_mark, items_laid, marks}

absent_before : (n : ℕ) (front tail : List Item) (l : Label) → IsAbsent n (marks (front ++ Item.Mark l ∷ tail)) → (n == l.number) ≡ false
absent_before n [] tail l h = h.0
absent_before n ((Item.Instruction i) ∷ front) tail l h = absent_before n front tail l h
absent_before n ((Item.Mark m) ∷ front) tail l h = absent_before n front tail l h.1

found_mark : (front tail : List Item) (l : Label) → AreDifferent (marks (front ++ Item.Mark l ∷ tail)) →
    behind_mark (front ++ Item.Mark l ∷ tail) l ≡ tail
found_mark [] tail l h = ap (λ b. if b then tail else behind_mark tail l) (eq-eqb l.number l.number refl)
found_mark ((Item.Instruction i) ∷ front) tail l h = found_mark front tail l h
found_mark ((Item.Mark m) ∷ front) tail l h =
    ap (λ b. if b then front ++ Item.Mark l ∷ tail else behind_mark (front ++ Item.Mark l ∷ tail) l)
    (absent_before m.number front tail l h.0)
    ∙ found_mark front tail l h.1

-- The labels of a piece are at the places where the program marks them.
stand : (program front items : List Item) (rest : Place) → program ≡ front ++ (items ++ rest) → AreDifferent (marks program) →
    Stands (behind_mark program) items rest
stand program front [] rest e h = tt
stand program front ((Item.Instruction i) ∷ items) rest e h =
    stand program (front ++ Item.Instruction i ∷ []) items rest (e ∙ sym (append_assoc front (Item.Instruction i ∷ []) (items ++ rest))) h
stand program front ((Item.Mark l) ∷ items) rest e h = (
  ap (λ p. behind_mark p l) e ∙ found_mark front (items ++ rest) l (subst (λ p. AreDifferent (marks p)) e h),
  stand program (front ++ Item.Mark l ∷ []) items rest (e ∙ sym (append_assoc front (Item.Mark l ∷ []) (items ++ rest))) h,
)

laid_apart : (w : World) (c : Code) (P : Claim) (o : Out) (x : Does w c P (apart o)) → items_laid c o ≡ x.items
laid_apart w c P o x = ap items_of x.laid.kept

pub programs_compute : ProgramsCompute
programs_compute keeps w limits tree h d o program stack temp s t n k v =
    let x = values_are_computed keeps w limits tree h d (apart o) in
    subst (λ items. RunsTo w program items (state stack temp s) (λ left. taken d n stack left t))
    (sym (laid_apart w ((meaning limits tree).value d) (GivesValue keeps w (sense w tree).value d) o x))
    (λ rest front e different.
    let r = x.runs (behind_mark program) rest k (stand program front x.items rest e different) stack temp s n t v in
    let q = r.2.steps 0 in
    (r.0, q.0, q.1))

pub programs_push : ProgramsPush
programs_push keeps w limits tree h o program stack temp s t n k v = programs_compute keeps w limits tree h 0 o program stack temp s t n k v

pub examples_are_evaluated : ExamplesAreEvaluated
unfolding laid instruction naming marked jumped behind test_branch tests triple_tests single_tests and_branch assign_value
examples_are_evaluated = (refl, refl, refl, refl)

pub waiting_values_are_lost : WaitingValuesAreLost
unfolding laid instruction naming marked jumped behind test_branch tests triple_tests single_tests
waiting_values_are_lost = ((store, refl), refl)
