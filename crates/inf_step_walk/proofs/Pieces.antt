-- Code that is made of pieces keeps targets, where its operands stand; and so does each change of an output.
use Rattle.std.proofs.Common.{Bool, List, None, Option, [], false, length, subst, suc, sym, take, true, zero, ℕ, ◌∷◌, ◌≡◌}
use Rattle.inf_area.specs.declared.targets.Target.{Target}
use Rattle.inf_settings.specs.{Bounds.Limits, declared.setting.Setting.Setting}
use Rattle.inf_objects.specs.Objects.{is_lost}
use Rattle.inf_tables.specs.LowStrings.{low_fits}
use Rattle.inf_opcode.specs.{Instructions.bare, declared.instructions.Branch.Branch, declared.instructions.Label.Label}
use Rattle.inf_opcode.specs.{declared.opcodes.Opcode.Opcode}
use Rattle.inf_names.specs.Symbols.{refer_fault}
use Rattle.inf_output.specs.{Veneer.name_of, declared.items.Item.Item, declared.operands.Simple.Simple, declared.veneer.Veneer.Veneer}
use Rattle.inf_output.specs.Output.{Code, Out, behind, instruction, jumped, low_string_at, marked, next_label, nothing, routine, used}
use Rattle.inf_output.specs.Output.{with_low_text, ◌▸◌}
use Rattle.inf_templates.specs.Parts.{call_opcode, calling, calling_routine}
use Rattle.inf_constructs.specs.Constructs.{Laying}
use Rattle.inf_directives.specs.Abbreviations.{low_added, low_added_by}
use Rattle.inf_code_walk.specs.Made.{As, Asks, Binds, By, Either, Handed, Instructs, Jumps, Laid, Lays, Lows, Made, Marks, Names, Nothing}
use Rattle.inf_code_walk.specs.Made.{Packs, Prints, Takes, Then, Wide}
use Rattle.inf_code_walk.proofs.Statements.{FixedMeet}
use Rattle.inf_step_walk.specs.Standing.{Before, CodeStands, Holds, IsBefore, NamesStand}
use Rattle.inf_step_walk.specs.Walking.{Abbreviates, Closes, Declares, Follows, Gives, Grown, LowTexts, Opens, Passes, Premises, Refers}
use Rattle.inf_step_walk.specs.Walking.{Rest, Scales, Stays, Stood, Tables, TablesHold, Texts, Uses, rest}
use Rattle.inf_step_walk.proofs.{Lists.routine_stands, Premises.SimpleStands, Premises.SimplesStand, Premises.There, Premises.all_more}
use Rattle.inf_step_walk.proofs.Outputs.{Goes, GoesIf, Sound, close_keeps, declare_goes, goes_nowhere, goes_then, if_nowhere, if_then}
use Rattle.inf_step_walk.proofs.Outputs.{instruction_before, instruction_keeps, item_keeps, jump_keeps, low_text_keeps, mark_keeps}
use Rattle.inf_step_walk.proofs.Outputs.{naming_keeps, open_keeps, refer_keeps, scale_keeps, table_keeps, text_keeps, used_keeps}
use Rattle.inf_step_walk.proofs.Outputs.{word_keeps}

-- Lemmas about pieces of code put together

pub sound_nothing : {limits : Limits} {u : Out} {P : Type 0} → Sound limits u P nothing
sound_nothing {limits} {u} {P} = record { keeps = if_nowhere u P }

pub sound_then : {limits : Limits} {u : Out} {P : Type 0} {c d : Code} → Sound limits u P c → Sound limits u P d → Sound limits u P (c ▸ d)
sound_then {limits} {u} {P} {c} {d} first second =
    record { keeps = λ o. if_then u P o (c o) (d (c o)) (first.keeps o) (second.keeps (c o)) }

sound_instruction : {limits : Limits} {u : Out} {P : Type 0} (opcode : Opcode) (operands : List Simple) (store : Option ℕ)
    (branch : Option Branch)
    → SimplesStand u P operands → Sound limits u P (instruction limits opcode operands store branch)
sound_instruction {limits} {u} {P} opcode operands store branch s =
    record { keeps = instruction_keeps limits u P opcode operands store branch s }

pub sound_mark : {limits : Limits} {u : Out} {P : Type 0} (label : Label) → Sound limits u P (marked limits label)
sound_mark {limits} {u} {P} label = record { keeps = mark_keeps limits u P label }

pub sound_jump : {limits : Limits} {u : Out} {P : Type 0} (label : Label) → Sound limits u P (jumped limits label)
sound_jump {limits} {u} {P} label = record { keeps = jump_keeps limits u P label }

-- Lemmas about calls of supplied routines

take_stand : (u : Out) (P : Type 0) (n : ℕ) (all : List Simple) → SimplesStand u P all → SimplesStand u P (take n all)
take_stand u P zero all h = tt
take_stand u P (suc n) [] h = tt
take_stand u P (suc n) (s ∷ all) h = (h.0, take_stand u P n all h.1)

calling_sound : {u : Out} {P : Type 0} (limits : Limits) (routine : Simple) (arguments : List Simple) (store : Option ℕ)
    → SimpleStands u P routine → SimplesStand u P arguments → Sound limits u P (calling limits routine arguments store)
unfolding calling
calling_sound {u} {P} limits routine arguments store r h =
    sound_instruction (call_opcode store (length (take 7 arguments))) (routine ∷ take 7 arguments) store None
    (r, take_stand u P 7 arguments h)

calling_before : (limits : Limits) (u : Out) (routine : Simple) (arguments : List Simple) (store : Option ℕ) (o : Out)
    → Before u (calling limits routine arguments store o) → Before u o
unfolding calling
calling_before limits u routine arguments store o =
    instruction_before limits u (call_opcode store (length (take 7 arguments))) (routine ∷ take 7 arguments) store None o

veneer_stands : (limits : Limits) (u : Out) (v : Veneer) (o : Out) → Before u (used limits v o)
    → SimpleStands u (Unit {0}) (routine limits v o)
unfolding used routine
veneer_stands limits u v o e = routine_stands u (Unit {0}) limits (refer_fault limits (name_of v) o.names) (name_of v) o e

asked_goes : (limits : Limits) (u : Out) (P : Type 0) (v : Veneer) (arguments : List Simple) (store : Option ℕ) → SimplesStand u P arguments
    → (o : Out) → GoesIf P u o (calling_routine limits v arguments store o)
unfolding calling_routine
asked_goes limits u P v arguments store h o =
    let r = routine limits v o in
    let w = used limits v o in
    let first = used_keeps limits u v o in (
      (λ e. first.0 (calling_before limits u r arguments store w e)),
      (
          λ p e k.
          let before = calling_before limits u r arguments store w e in
          let called : Sound limits u (Unit {0}) (calling limits r arguments store) =
          calling_sound limits r arguments store (veneer_stands limits u v o before)
          (all_more {L = There u P} {M = There u (Unit {0})} (λ t g x. g p) arguments h) in
          (called.keeps w).1 tt e (first.1 before k)
          ),
    )

asked_sound : {u : Out} {P : Type 0} (limits : Limits) (v : Veneer) (arguments : List Simple) (store : Option ℕ)
    → SimplesStand u P arguments → Sound limits u P (calling_routine limits v arguments store)
asked_sound {u} {P} limits v arguments store h = record { keeps = asked_goes limits u P v arguments store h }

-- code of pieces that meet a premise, which is no wider than what stands once something is given
pub made_by : {limits : Limits} {u : Out} {P : Type 0} {L : Target → Type 0} {c : Code} {needs given : List ℕ}
    → ((t : Target) → L t → There u P t) → Made limits L c needs given → Sound limits u P c
made_by wide Nothing = sound_nothing
made_by wide (Then f g) = sound_then (made_by wide f) (made_by wide g)
made_by wide (Handed f) = record { keeps = λ o. (made_by wide (f (next_label o))).keeps (record o { next = behind o.next }) }
made_by wide (Wide h f) = made_by wide f
made_by wide (As h f) = made_by wide f
made_by wide (Instructs op operands store branch m) = sound_instruction op operands store branch (all_more wide operands m)
made_by {limits} {u} {P} wide (Names op v operands store branch m) =
    record { keeps = naming_keeps limits u P op v operands store branch (all_more wide operands m) }
made_by {limits} wide (Asks v arguments store m) = asked_sound limits v arguments store (all_more wide arguments m)
made_by wide (Marks l) = sound_mark l
made_by wide (Jumps l) = sound_jump l
made_by {limits} {u} {P} wide Packs = record { keeps = λ o. if_nowhere u P o }
made_by {limits} {u} {P} wide (Prints op text) =
    record { keeps = λ o. item_keeps limits u P (Item.Instruction (record (bare op) { text = text o })) (λ p. tt) o }
made_by {limits} {u} {P} wide (Lows text body f) = record {
  keeps = λ o.
      let v = with_low_text limits text o in
      let g = low_text_keeps limits u text o in
      if_then u P o v (body (low_string_at o) v) (g.0, (λ x. g.1)) ((made_by wide (f o)).keeps v);
}

pub made_sound : {limits : Limits} {u : Out} {P : Type 0} {c : Code} {needs given : List ℕ} → Made limits (There u P) c needs given
    → Sound limits u P c
made_sound m = made_by (λ t h. h) m

pub fixed_stand : (u : Out) (P : Type 0) → FixedMeet (There u P)
fixed_stand u P = record { place = λ area offset p. tt; system = λ constant p. tt }

pub fixed_stood : (o : Out) → FixedMeet (Stood o)
fixed_stood o = record { place = λ area offset u e. tt; system = λ constant u e. tt }

-- Layings: code with a result keeps targets.

pub record GivesIf {A : Type 0} (limits : Limits) (u : Out) (P : Type 0) (laying : Laying A) : Type 0 where
  pub keeps : (o : Out) → GoesIf P u o (laying o).1

pub laid_by : {limits : Limits} {u : Out} {P : Type 0} {L : Target → Type 0} {A : Type 0} {f : Laying A}
    → ((t : Target) → L t → There u P t) → Laid limits L A f → GivesIf limits u P f
laid_by wide (Lays a m) = record { keeps = (made_by wide m).keeps }
laid_by {limits} {u} {P} wide (Takes x next) = record { keeps = if_nowhere u P }
laid_by wide (Either true f g a b) = record { keeps = (laid_by wide a).keeps }
laid_by wide (Either false f g a b) = record { keeps = (laid_by wide b).keeps }
laid_by {limits} {u} {P} wide (Binds f g a b) = record {
  keeps = λ o. if_then u P o (f o).1 (g (f o).0 (f o).1).1 ((laid_by wide a).keeps o) ((laid_by wide (b (f o).0)).keeps (f o).1);
}
laid_by wide (By x g b) = record { keeps = λ o. (laid_by wide (b (x o))).keeps o }

-- Lemmas about changes of an output

low_added_keeps : (limits : Limits) (u : Out) (bytes : List ℕ) (o : Out) → Goes u o (low_added limits bytes o)
low_added_keeps limits u bytes o = go (low_fits limits bytes o.tables.low_strings)
  where
    go : (b : Bool) → Goes u o (low_added_by limits b bytes o)
    go true = goes_nowhere u o
    go false = table_keeps limits u Setting.LowStrings o

-- tables of which all stands there that stood before, with the rest as it was

tables_before : (u o p : Out) → rest p ≡ rest o → Before u p → Before u o
tables_before u o p same e = subst (λ (r : Rest). IsBefore r.2 r.5 r.4 u) same e

tables_hold : (u o p : Out) → rest p ≡ rest o → (TablesHold u o → TablesHold u p) → Holds u o → Holds u p
tables_hold u o p same f h =
    let t = f (h.1.0, h.1.1.0) in (
      subst (λ (r : Rest). CodeStands u r.0.finished r.0.opened r.1) (sym same) h.0,
      (t.0, (t.1, subst (λ (r : Rest). NamesStand u r.4) (sym same) h.1.1.1)),
    )

pub goes : {limits : Limits} {Q : Premises} {o v : Out} → Grown limits Q o v → (u : Out) → Goes u o v
goes (Stays {o}) u = goes_nowhere u o
goes (Follows {o} {p} {v} f g) u = goes_then u o p v (goes f u) (goes g u)
goes (Gives {o} m) u =
    let g = (laid_by {u = u} {P = Before u o} {L = Stood o} (λ t s e. s u e) m).keeps o in (g.0, (λ e h. g.1 (g.0 e) e h))
goes {limits} (Opens {o} locals is_lost) u = open_keeps limits u locals is_lost o
goes {limits} (Closes {o} kind) u = close_keeps limits u kind o
goes (Scales {o} scale) u = scale_keeps u scale o
goes {limits} (Passes {o} limit) u = table_keeps limits u limit o
goes {limits} (Texts {o} text) u = text_keeps limits u text o
goes {limits} (LowTexts {o} text) u = low_text_keeps limits u text o
goes {limits} (Abbreviates {o} bytes q) u = low_added_keeps limits u bytes o
goes {limits} (Uses {o} text how is_plural) u = word_keeps limits u text how is_plural o
goes {limits} (Declares {o} name place m stands later) u =
    let d = declare_goes limits u name place m o in
    let g = goes later u in
    ((λ e. d.0 (g.0 e)), (λ e h. g.1 e (d.1 (λ free. stands free u e h.1.1.1) (g.0 e) h)))
goes {limits} (Refers {o} name place) u = refer_keeps limits u name place o
goes (Tables {o} {p} {v} later same f) u =
    let g = goes later u in (
      (λ e. tables_before u o p same (g.0 e)),
      (λ e h. g.1 e (tables_hold u o p same (f u (tables_before u o p same (g.0 e)) e) h)),
    )

-- an output comes before each one before which a later one comes
pub before : {limits : Limits} {Q : Premises} {o v : Out} → Grown limits Q o v → (u : Out) → Before u v → Before u o
before g u = (goes g u).0
