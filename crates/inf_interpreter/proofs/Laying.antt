-- Code in pieces: the items that are laid, the places of their labels, and the way from claims about pieces to a claim about the
-- whole.
use Rattle.std.proofs.Common.{◌≡◌, ℕ, List, [], ◌∷◌, ◌++◌, Option, Some, None, refl, ◌∙◌, ap, sym, subst, append_assoc, append-nil, map}
use Rattle.inf_settings.specs.Bounds.{Limits}
use Rattle.inf_opcode.specs.{Instructions.Parts, declared.instructions.Branch.Branch, declared.instructions.Label.Label}
use Rattle.inf_opcode.specs.{declared.instructions.Operand.Operand, declared.opcodes.Opcode.Opcode}
use Rattle.inf_output.specs.{Operands.written, Veneer.name_of, declared.Past.Past, declared.items.Item.Item}
use Rattle.inf_output.specs.{declared.operands.Simple.Simple, declared.veneer.Veneer.Veneer}
use Rattle.inf_output.specs.Output.{Code, Out, behind, fitted, full_item, grown, in_routine, instruction, jumped, laid, laid_by, marked}
use Rattle.inf_output.specs.Output.{naming, next_label, nothing, routine, used, with_label, with_routine, ◌▸◌, used_by}
use Rattle.inf_code.specs.Code.{Routines}
use Rattle.inf_assembler.specs.declared.routines.Limit.{Limit}
use Rattle.inf_names.specs.{Symbols.refer_fault, declared.symbols.ReferFault.ReferFault}
use Rattle.inf_interpreter.specs.Machine.{World, State, Place, Stands, operand_value}
use Rattle.inf_interpreter.specs.Supplied.{Contracts, NamesStay}
use Rattle.inf_interpreter.specs.Claims.{Claim, Does, Laid, all_grown, code_behind, kept_behind}
use Rattle.inf_interpreter.proofs.Naming.{names_equal, names_then, supplies_before, used_operand, used_stays}

not_none : {A : Type 0} {B : Type 0} {a : A} → Some a ≡ None → B
not_none e = absurd (cc e)

-- Items that are laid, and others behind them, are laid together.

kept_joined : (k : Option (List Item)) (a b : List Item) → kept_behind (kept_behind k a) b ≡ kept_behind k (a ++ b)
kept_joined None a b = refl
kept_joined (Some before) a b = ap Some (append_assoc before a b)

grown_joined : (a b : List Item) (code : Routines) → all_grown b (all_grown a code) ≡ all_grown (a ++ b) code
grown_joined [] b code = refl
grown_joined (item ∷ a) b code = grown_joined a b (grown item code)

code_joined : (k : Option (List Item)) (a b : List Item) (code : Routines) →
    code_behind (kept_behind k a) b (code_behind k a code) ≡ code_behind k (a ++ b) code
code_joined None a b code = grown_joined a b code
code_joined (Some before) a b code = refl

pub laid_then : (a b : List Item) (o p q : Out) → Laid o a p → Laid p b q → Laid o (a ++ b) q
laid_then a b o p q x y = record {
  kept = y.kept ∙ ap (λ k. kept_behind k b) x.kept ∙ kept_joined o.kept a b;
  fits = λ e. x.fits (y.fits e);
  code = λ e. y.code e ∙ ap (λ k. code_behind k b p.code) x.kept ∙ ap (λ c. code_behind (kept_behind o.kept a) b c) (x.code
      (y.fits e)) ∙ code_joined
      o.kept a b o.code;
}

pub kept_none : (k : Option (List Item)) → k ≡ kept_behind k []
kept_none None = refl
kept_none (Some before) = ap Some (sym (append-nil before))

pub code_none : (k : Option (List Item)) (code : Routines) → code ≡ code_behind k [] code
code_none None code = refl
code_none (Some before) code = refl

-- an item that is laid leaves what is kept of an output
fitted_kept : (limits : Limits) (f : Option Limit) (item : Item) (o : Out) → (fitted limits f item o).kept ≡ o.kept
fitted_kept limits None item o = refl
fitted_kept limits (Some limit) item o = refl

in_kept : (limits : Limits) (p : Option Past) (item : Item) (o : Out) → (in_routine limits p item o).kept ≡ o.kept
in_kept limits None item o = fitted_kept limits (full_item item o.code) item o
in_kept limits (Some past) item o = refl

by_kept : (limits : Limits) (k : Option (List Item)) (item : Item) (o : Out) → o.kept ≡ k →
    (laid_by limits k item o).kept ≡ kept_behind k (item ∷ [])
by_kept limits None item o e = in_kept limits o.past item o ∙ e
by_kept limits (Some before) item o e = refl

in_fits : (limits : Limits) (p : Option Past) (item : Item) (o : Out) → o.past ≡ p → (in_routine limits p item o).past ≡ None →
    o.past ≡ None
in_fits limits None item o e h = e
in_fits limits (Some past) item o e h = not_none h

by_fits : (limits : Limits) (k : Option (List Item)) (item : Item) (o : Out) → (laid_by limits k item o).past ≡ None → o.past ≡ None
by_fits limits None item o h = in_fits limits o.past item o refl h
by_fits limits (Some before) item o h = h

fitted_code : (limits : Limits) (f : Option Limit) (item : Item) (o : Out) → (fitted limits f item o).past ≡ None →
    (fitted limits f item o).code ≡ grown item o.code
fitted_code limits None item o h = refl
fitted_code limits (Some limit) item o h = not_none h

in_code : (limits : Limits) (p : Option Past) (item : Item) (o : Out) → (in_routine limits p item o).past ≡ None →
    (in_routine limits p item o).code ≡ grown item o.code
in_code limits None item o h = fitted_code limits (full_item item o.code) item o h
in_code limits (Some past) item o h = not_none h

by_code : (limits : Limits) (k : Option (List Item)) (item : Item) (o : Out) → (laid_by limits k item o).past ≡ None →
    (laid_by limits k item o).code ≡ code_behind k (item ∷ []) o.code
by_code limits None item o h = in_code limits o.past item o h
by_code limits (Some before) item o h = refl

pub item_laid : (limits : Limits) (item : Item) (o : Out) → Laid o (item ∷ []) (laid limits item o)
unfolding laid
item_laid limits item o = record {
  kept = by_kept limits o.kept item o refl;
  fits = by_fits limits o.kept item o;
  code = by_code limits o.kept item o;
}

-- An item names nothing.
fitted_names : (limits : Limits) (f : Option Limit) (item : Item) (o : Out) → (fitted limits f item o).names ≡ o.names
fitted_names limits None item o = refl
fitted_names limits (Some limit) item o = refl

in_names : (limits : Limits) (p : Option Past) (item : Item) (o : Out) → (in_routine limits p item o).names ≡ o.names
in_names limits None item o = fitted_names limits (full_item item o.code) item o
in_names limits (Some past) item o = refl

by_names : (limits : Limits) (k : Option (List Item)) (item : Item) (o : Out) → (laid_by limits k item o).names ≡ o.names
by_names limits None item o = in_names limits o.past item o
by_names limits (Some before) item o = refl

pub item_names : (limits : Limits) (item : Item) (o : Out) → NamesStay o (laid limits item o)
unfolding laid
item_names limits item o = names_equal o (laid limits item o) (by_names limits o.kept item o)

-- Lemmas about marks of joined items

pub stands_front : (a b : List Item) (at : Label → Place) (rest : Place) → Stands at (a ++ b) rest → Stands at a (b ++ rest)
stands_front [] b at rest s = tt
stands_front ((Item.Instruction i) ∷ a) b at rest s = stands_front a b at rest s
stands_front ((Item.Mark l) ∷ a) b at rest s = (s.0 ∙ append_assoc a b rest, stands_front a b at rest s.1)

pub stands_back : (a b : List Item) (at : Label → Place) (rest : Place) → Stands at (a ++ b) rest → Stands at b rest
stands_back [] b at rest s = s
stands_back ((Item.Instruction i) ∷ a) b at rest s = stands_back a b at rest s
stands_back ((Item.Mark l) ∷ a) b at rest s = stands_back a b at rest s.1

-- Lemmas about claims, which hold whatever was laid before

abbrev pub Always : World → Code → Claim → Type 0
Always w c P = (o : Out) → Does w c P o

abbrev pub Then : Claim → Claim → Claim
Then P Q at from to = (middle : Place) × P at from middle × Q at middle to

abbrev pub Nothing : Claim
Nothing at from to = from ≡ to

abbrev pub Lies : Item → Claim
Lies item at from to = from ≡ item ∷ to

abbrev pub Marks : Label → Claim
Marks l at from to = (from ≡ Item.Mark l ∷ to) × (at l ≡ to)

pub then_ : {w : World} {c d : Code} {P Q : Claim} → Always w c P → Always w d Q → Always w (c ▸ d) (Then P Q)
then_ {w} {c} {d} {P} {Q} f g o =
    let x = f o in
    let y = g (c o) in
    record {
      items = x.items ++ y.items;
      laid = laid_then x.items y.items o (c o) (d (c o)) x.laid y.laid;
      names = names_then o (c o) (d (c o)) x.names y.names;
      runs = λ at rest k s. subst (λ from. Then P Q at from rest) (sym (append_assoc x.items y.items rest)) (
        y.items ++ rest,
        x.runs at (y.items ++ rest) (supplies_before w (c o) (d (c o)) y.names y.laid.fits k) (stands_front x.items y.items at rest s),
        y.runs at rest k (stands_back x.items y.items at rest s),
      );
    }

pub so : {w : World} {c : Code} {P Q : Claim} → ((at : Label → Place) (from to : Place) → P at from to → Q at from to) → Always w c P →
    Always w c Q
so {w} {c} {P} {Q} h f o =
    let x = f o in
    record { items = x.items; laid = x.laid; names = x.names; runs = λ at rest k s. h at (x.items ++ rest) rest (x.runs at rest k s) }

pub labelled : {w : World} {body : Label → Code} {P : Claim} → ((l : Label) → Always w (body l) P) → Always w (with_label body) P
labelled {w} {body} {P} f o =
    let x = f (next_label o) (record o { next = behind o.next }) in
    record {
      items = x.items;
      laid = record { kept = x.laid.kept; fits = x.laid.fits; code = x.laid.code };
      names = record { stays = x.names.stays };
      runs = x.runs;
    }

-- Code that calls a supplied routine uses its name first, which lays nothing.
by_used_kept : (limits : Limits) (f : Option ReferFault) (name : List ℕ) (o : Out) → (used_by limits f name o).kept ≡ o.kept
by_used_kept limits None name o = refl
by_used_kept limits (Some fault) name o = refl

pub used_kept : (limits : Limits) (v : Veneer) (o : Out) → (used limits v o).kept ≡ o.kept
unfolding used
used_kept limits v o = by_used_kept limits (refer_fault limits (name_of v) o.names) (name_of v) o

by_used_fits : (limits : Limits) (f : Option ReferFault) (name : List ℕ) (o : Out) → (used_by limits f name o).past ≡ None → o.past ≡ None
by_used_fits limits None name o e = e
by_used_fits limits (Some fault) name o e = not_none e

pub used_fits : (limits : Limits) (v : Veneer) (o : Out) → (used limits v o).past ≡ None → o.past ≡ None
unfolding used
used_fits limits v o e = by_used_fits limits (refer_fault limits (name_of v) o.names) (name_of v) o e

by_used_code : (limits : Limits) (f : Option ReferFault) (name : List ℕ) (o : Out) → (used_by limits f name o).code ≡ o.code
by_used_code limits None name o = refl
by_used_code limits (Some fault) name o = refl

pub used_code : (limits : Limits) (v : Veneer) (o : Out) → (used limits v o).code ≡ o.code
unfolding used
used_code limits v o = by_used_code limits (refer_fault limits (name_of v) o.names) (name_of v) o

-- In a world that supplies the routine, the operand is its number, and a call of it comes to the outcome of its contract.
pub record Supplied (w : World) (v : Veneer) (x : Simple) : Type 0 where
  pub number : (s : State) → operand_value w (written x) s ≡ Some (w.routine v, s)
  pub contracts : Contracts w

pub routined : {w : World} {body : Simple → Code} {P : Claim} (limits : Limits) (v : Veneer) →
    ((x : Simple) → Always w (body x) (λ at from to. Supplied w v x → P at from to)) → Always w (with_routine limits v body) P
routined {w} {body} {P} limits v f o =
    let called = routine limits v o in
    let named = used limits v o in
    let x = f called named in
    record {
      items = x.items;
      laid = record {
        kept = x.laid.kept ∙ ap (λ k. kept_behind k x.items) (used_kept limits v o);
        fits = λ e. used_fits limits v o (x.laid.fits e);
        code = λ e. x.laid.code e ∙ ap (λ k. code_behind k x.items named.code) (used_kept limits v o)
            ∙ ap (λ c. code_behind o.kept x.items c) (used_code limits v o);
      };
      names = names_then o named (body called named) (used_stays limits v o) x.names;
      runs = λ at rest k s.
          let before = supplies_before w named (body called named) x.names x.laid.fits k in
          x.runs at rest k s (record {
            number = before.numbers v called (used_operand limits v o before.fits);
            contracts = before.contracts;
          });
    }

pub nothing_ : {w : World} → Always w nothing Nothing
nothing_ o = record {
  items = [];
  laid = record { kept = kept_none o.kept; fits = λ e. e; code = λ e. code_none o.kept o.code };
  names = names_equal o o refl;
  runs = λ at rest k s. refl;
}

pub laid_ : {w : World} (limits : Limits) (i : Parts) → Always w (laid limits (Item.Instruction i)) (Lies (Item.Instruction i))
laid_ limits i o = record {
  items = Item.Instruction i ∷ [];
  laid = item_laid limits (Item.Instruction i) o;
  names = item_names limits (Item.Instruction i) o;
  runs = λ at rest k s. refl;
}

abbrev pub instruction_of : Opcode → List Simple → Option ℕ → Option Branch → Item
instruction_of op operands store branch =
    Item.Instruction (record { opcode = op; operands = map written operands; store = store; branch = branch; text = [] })

abbrev pub naming_of : Opcode → ℕ → List Simple → Option ℕ → Option Branch → Item
naming_of op v operands store branch =
    Item.Instruction (record { opcode = op; operands = Operand.Small v ∷ map written operands; store = store; branch = branch; text = [] })

abbrev pub jump_to : Label → Item
jump_to l = Item.Instruction (record { opcode = Opcode.Jump; operands = Operand.Offset l ∷ []; store = None; branch = None; text = [] })

pub instruction_ : {w : World} (limits : Limits) (op : Opcode) (operands : List Simple) (store : Option ℕ) (branch : Option Branch) →
    Always w (instruction limits op operands store branch) (Lies (instruction_of op operands store branch))
unfolding instruction
instruction_ limits op operands store branch o = laid_ limits _ o

pub naming_ : {w : World} (limits : Limits) (op : Opcode) (v : ℕ) (operands : List Simple) (store : Option ℕ) (branch : Option Branch) →
    Always w (naming limits op v operands store branch) (Lies (naming_of op v operands store branch))
unfolding naming
naming_ limits op v operands store branch o = laid_ limits _ o

pub jumped_ : {w : World} (limits : Limits) (l : Label) → Always w (jumped limits l) (Lies (jump_to l))
unfolding jumped
jumped_ limits l o = laid_ limits _ o

pub marked_ : {w : World} (limits : Limits) (l : Label) → Always w (marked limits l) (Marks l)
unfolding marked
marked_ limits l o = record {
  items = Item.Mark l ∷ [];
  laid = item_laid limits (Item.Mark l) o;
  names = item_names limits (Item.Mark l) o;
  runs = λ at rest k s. (refl, s.0);
}
