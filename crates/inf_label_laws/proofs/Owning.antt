-- Which labels code marks, that of each expression, too: those that are handed out while it is laid, and some that are given to it.
use Rattle.std.specs.Prelude.{length, take}
use Rattle.std.proofs.{Math.Nat.min-eq_left, Math.Nat.min-eq_right, lemmas.Bool.cases_eq, lemmas.Bool.cases_lt}
use Rattle.std.proofs.Common.{Bool, List, None, Option, Some, [], ap, append-nil, append_assoc, arith, false, if◌then◌else◌, inl, inr, map}
use Rattle.std.proofs.Common.{min, nat_lt, refl, subst, suc, sym, true, ℕ, ◌++◌, ◌+◌, ◌<◌, ◌∙◌, ◌∷◌, ◌≡◌, ◌≤◌, ◌⊎◌}
use Rattle.inf_area.specs.declared.targets.Target.{Target}
use Rattle.inf_settings.specs.Bounds.{Limits}
use Rattle.inf_tables.specs.LowStrings.{low_fits}
use Rattle.inf_opcode.specs.{Instructions.Parts, Instructions.bare, declared.instructions.Branch.Branch, declared.instructions.Label.Label}
use Rattle.inf_opcode.specs.{declared.instructions.Operand.Operand, declared.opcodes.Opcode.Opcode}
use Rattle.inf_assembler.specs.declared.routines.Limit.{Limit}
use Rattle.inf_names.specs.{Symbols.refer_fault, declared.symbols.ReferFault.ReferFault}
use Rattle.inf_output.specs.{Operands.written, Texts.late, Veneer.name_of, declared.Past.Past, declared.items.Item.Item}
use Rattle.inf_output.specs.{declared.operands.Simple.Simple, declared.veneer.Veneer.Veneer}
use Rattle.inf_output.specs.Output.{Code, Out, apart, behind, fitted, full_item, in_routine, instruction, items_of, jumped, laid, laid_by}
use Rattle.inf_output.specs.Output.{marked, naming, next_label, nothing, routine, used, used_by, with_label, with_low_text}
use Rattle.inf_output.specs.Output.{with_low_text_by, with_routine, ◌▸◌}
use Rattle.inf_templates.specs.{Meaning.meaning, Parts.call_opcode, Parts.calling, Parts.calling_routine}
use Rattle.inf_interpreter.specs.Claims.{Laid, code_behind, kept_behind}
use Rattle.inf_interpreter.proofs.Laying.{code_none, item_laid, kept_none, laid_then, used_code, used_fits, used_kept}
use Rattle.inf_code_walk.specs.Made.{As, Asks, Handed, Instructs, Jumps, Lows, Made, Marks, Names, Nothing, Packs, Prints, Then, TreeMade}
use Rattle.inf_code_walk.specs.Made.{Wide, branch_labels, times}
use Rattle.inf_code_walk.proofs.Rows.{Any, any_tree, one_needed, times_first, times_joined, times_other, tree_made}
use Rattle.inf_label_laws.specs.Labels.{LabelsAreOwn, MarksItsOwn, NeedsAlone, items_laid, marks, operand_labels, uses}

-- Lemmas about labels in lists

pub marks_joined : (a b : List Item) → marks (a ++ b) ≡ marks a ++ marks b
marks_joined [] b = refl
marks_joined ((Item.Instruction i) ∷ a) b = marks_joined a b
marks_joined ((Item.Mark l) ∷ a) b = ap (λ ms. l.number ∷ ms) (marks_joined a b)

pub uses_joined : (a b : List Item) → uses (a ++ b) ≡ uses a ++ uses b
uses_joined [] b = refl
uses_joined ((Item.Instruction i) ∷ a) b = ap (λ ns. operand_labels i.operands ++ (branch_labels i.branch ++ ns)) (uses_joined a b)
    ∙ (ap (λ ns. operand_labels i.operands ++ ns) (sym (append_assoc (branch_labels i.branch) (uses a) (uses b)))
    ∙ sym (append_assoc (operand_labels i.operands) (branch_labels i.branch ++ uses a) (uses b)))
uses_joined ((Item.Mark l) ∷ a) b = uses_joined a b

-- operands that are written have no offset
written_known : (n : ℕ) (b : Bool) (others : List Operand) → operand_labels others ≡ []
    → operand_labels ((if b then Operand.Small n else Operand.Large n) ∷ others) ≡ []
written_known n true others e = e
written_known n false others e = e

written_none : (operands : List Simple) → operand_labels (map written operands) ≡ []
written_none [] = refl
written_none ((Simple.Known n) ∷ operands) = written_known n (nat_lt n 256) (map written operands) (written_none operands)
written_none ((Simple.Variable v) ∷ operands) = written_none operands
written_none ((Simple.Later t) ∷ operands) = written_none operands

pub some_of_two : (a b : ℕ) → 1 ≤ a + b → (1 ≤ a) ⊎ (1 ≤ b)
some_of_two a b h = go (cases_lt 0 a)
  where
    go : (0 < a) ⊎ (a ≤ 0) → (1 ≤ a) ⊎ (1 ≤ b)
    go (inl more) = inl (omega (arith, more))
    go (inr none) = inr (omega (arith, h, none))

-- Some numbers are each once among those from one to below another, and beside that as often as they are given.
pub record Within (given : List ℕ) (low high : ℕ) (ms : List ℕ) : Type 0 where
  pub grows : low ≤ high
  pub once : (n : ℕ) → times n ms ≤ suc (times n given)
  pub below : (n : ℕ) → n < low → times n ms ≤ times n given
  pub over : (n : ℕ) → high ≤ n → times n ms ≤ times n given

within_then : (a b : List ℕ) (low mid high : ℕ) (x y : List ℕ) → Within a low mid x → Within b mid high y →
    Within (a ++ b) low high (x ++ y)
within_then a b low mid high x y f g = record {
  grows = let p = f.grows in let q = g.grows in omega (arith, p, q);
  once = λ n. once n (cases_lt n mid);
  below = λ n less.
      let e = times_joined n a b in
      let d = times_joined n x y in
      let p = f.below n less in
      let q = g.below n (let r = f.grows in omega (arith, less, r)) in
      omega (arith, e, d, p, q);
  over = λ n more.
      let e = times_joined n a b in
      let d = times_joined n x y in
      let p = f.over n (let r = g.grows in omega (arith, more, r)) in
      let q = g.over n more in
      omega (arith, e, d, p, q);
}
  where
    once : (n : ℕ) → (n < mid) ⊎ (mid ≤ n) → times n (x ++ y) ≤ suc (times n (a ++ b))
    once n (inl less) =
        let e = times_joined n a b in
        let d = times_joined n x y in
        let p = f.once n in
        let q = g.below n less in
        omega (arith, e, d, p, q)
    once n (inr more) =
        let e = times_joined n a b in
        let d = times_joined n x y in
        let p = f.over n more in
        let q = g.once n in
        omega (arith, e, d, p, q)

-- A label that is handed out belongs to the items that are laid behind that.
within_label : (given : List ℕ) (low high : ℕ) (ms : List ℕ) → Within (low ∷ given) (suc low) high ms → Within given low high ms
within_label given low high ms f = record {
  grows = let p = f.grows in omega (arith, p);
  once = λ n. once n (cases_eq n low);
  below = λ n less.
      let e = times_other n low given (λ same. omega (arith, same, less)) in
      let p = f.below n (omega (arith, less)) in
      omega (arith, e, p);
  over = λ n more.
      let r = f.grows in
      let e = times_other n low given (λ same. omega (arith, same, more, r)) in
      let p = f.over n more in
      omega (arith, e, p);
}
  where
    once : (n : ℕ) → (n ≡ low) ⊎ (n ≡ low → ⊥) → times n ms ≤ suc (times n given)
    once n (inl same) =
        let e = subst (λ k. times n (k ∷ given) ≡ suc (times n given)) same (times_first n given) in
        let p = f.below n (omega (arith, same)) in
        omega (arith, e, p)
    once n (inr other) =
        let e = times_other n low given other in
        let p = f.once n in
        omega (arith, e, p)

within_as : (a b : List ℕ) (low high : ℕ) (ms : List ℕ) → ((n : ℕ) → times n a ≤ times n b) → Within a low high ms → Within b low high ms
within_as a b low high ms h f = record {
  grows = f.grows;
  once = λ n. let p = f.once n in let q = h n in omega (arith, p, q);
  below = λ n less. let p = f.below n less in let q = h n in omega (arith, p, q);
  over = λ n more. let p = f.over n more in let q = h n in omega (arith, p, q);
}

-- marks of the labels that are given, and of no others
within_given : (given : List ℕ) (low : ℕ) → Within given low low given
within_given given low = record {
  grows = omega arith;
  once = λ n. omega arith;
  below = λ n less. omega arith;
  over = λ n more. omega arith;
}

-- Items mark labels of their own, each at most once, and those that they are given; and they branch or jump to labels that they mark, or
-- that they may need.
pub record Settles (needs given : List ℕ) (low high : ℕ) (items : List Item) : Type 0 where
  pub within : Within given low high (marks items)
  pub all : (n : ℕ) → times n given ≤ times n (marks items)
  pub known : (n : ℕ) → 1 ≤ times n (uses items) → 1 ≤ times n needs + times n (marks items)

settles_then : (needs a b : List ℕ) (low mid high : ℕ) (x y : List Item) → Settles needs a low mid x → Settles needs b mid high y →
    Settles needs (a ++ b) low high (x ++ y)
settles_then needs a b low mid high x y f g = record {
  within = subst (λ ms. Within (a ++ b) low high ms) (sym (marks_joined x y))
      (within_then a b low mid high (marks x) (marks y) f.within g.within);
  all = λ n.
      let e = times_joined n a b in
      let d = marked n in
      let p = f.all n in
      let q = g.all n in
      omega (arith, e, d, p, q);
  known = λ n h. known n (some_of_two (times n (uses x)) (times n (uses y)) (used n h));
}
  where
    marked : (n : ℕ) → times n (marks (x ++ y)) ≡ times n (marks x) + times n (marks y)
    marked n = ap (times n) (marks_joined x y) ∙ times_joined n (marks x) (marks y)

    used : (n : ℕ) → 1 ≤ times n (uses (x ++ y)) → 1 ≤ times n (uses x) + times n (uses y)
    used n h = let e = ap (times n) (uses_joined x y) ∙ times_joined n (uses x) (uses y) in omega (arith, e, h)

    known : (n : ℕ) → (1 ≤ times n (uses x)) ⊎ (1 ≤ times n (uses y)) → 1 ≤ times n needs + times n (marks (x ++ y))
    known n (inl first) = let p = f.known n first in let d = marked n in omega (arith, p, d)
    known n (inr second) = let p = g.known n second in let d = marked n in omega (arith, p, d)

settles_as : (needs a b : List ℕ) (low high : ℕ) (items : List Item) → ((n : ℕ) → times n a ≡ times n b) → Settles needs a low high items →
    Settles needs b low high items
settles_as needs a b low high items h f = record {
  within = within_as a b low high (marks items) (λ n. let e = h n in omega (arith, e)) f.within;
  all = λ n. let e = h n in let p = f.all n in omega (arith, e, p);
  known = f.known;
}

-- A label that is handed out is marked, so what is laid behind that may need it.
settles_label : (needs given : List ℕ) (low high : ℕ) (items : List Item) → Settles (low ∷ needs) (low ∷ given) (suc low) high items →
    Settles needs given low high items
settles_label needs given low high items f = record {
  within = within_label given low high (marks items) f.within;
  all = λ n. all n (cases_eq n low);
  known = λ n h. known n h (cases_eq n low);
}
  where
    all : (n : ℕ) → (n ≡ low) ⊎ (n ≡ low → ⊥) → times n given ≤ times n (marks items)
    all n (inl same) =
        let e = subst (λ k. times n (k ∷ given) ≡ suc (times n given)) same (times_first n given) in
        let p = f.all n in
        omega (arith, e, p)
    all n (inr other) = let e = times_other n low given other in let p = f.all n in omega (arith, e, p)

    known : (n : ℕ) → 1 ≤ times n (uses items) → (n ≡ low) ⊎ (n ≡ low → ⊥) → 1 ≤ times n needs + times n (marks items)
    known n h (inl same) =
        let e = subst (λ k. times n (k ∷ given) ≡ suc (times n given)) same (times_first n given) in
        let p = f.all n in
        omega (arith, e, p)
    known n h (inr other) = let e = times_other n low needs other in let p = f.known n h in omega (arith, e, p)

-- Lemmas about code

pub record Owns (c : Code) (needs given : List ℕ) (o : Out) : Type 0 where
  pub items : List Item
  pub laid : Laid o items (c o)
  pub own : (c o).next < 4294967295 → Settles needs given o.next (c o).next items

abbrev pub Owned : Code → List ℕ → List ℕ → Type 0
Owned c needs given = (o : Out) → Owns c needs given o

pub owned_then : {c d : Code} {needs a b : List ℕ} → Owned c needs a → Owned d needs b → Owned (c ▸ d) needs (a ++ b)
owned_then {c} {d} {needs} {a} {b} f g o =
    let x = f o in
    let y = g (c o) in
    record {
      items = x.items ++ y.items;
      laid = laid_then x.items y.items o (c o) (d (c o)) x.laid y.laid;
      own = λ few.
          let q = y.own few in
          let p = x.own (let r = q.within.grows in omega (arith, few, r)) in
          settles_then needs a b o.next (c o).next (d (c o)).next x.items y.items p q;
    }

-- code that is given no label, with other code behind it
pub owned_behind : {c d : Code} {needs b : List ℕ} → Owned c needs [] → Owned d needs b → Owned (c ▸ d) needs b
owned_behind {c} {d} {needs} {b} f g = owned_then {c = c} {d = d} {needs = needs} {a = []} {b = b} f g

pub owned_wide : {c : Code} {a b given : List ℕ} → ((n : ℕ) → 1 ≤ times n a → 1 ≤ times n b) → Owned c a given → Owned c b given
owned_wide {c} {a} {b} {given} h f o =
    let x = f o in
    record {
      items = x.items;
      laid = x.laid;
      own = λ few.
          let s = x.own few in record {
            within = s.within;
            all = s.all;
            known = λ n used. known n s (some_of_two (times n a) (times n (marks x.items)) (s.known n used));
          };
    }
  where
    known : (n : ℕ) → Settles a given o.next (c o).next (f o).items → (1 ≤ times n a) ⊎ (1 ≤ times n (marks (f o).items))
        → 1 ≤ times n b + times n (marks (f o).items)
    known n s (inl some) = let p = h n some in omega (arith, p)
    known n s (inr own) = omega (arith, own)

none_needed : {B : Type 0} (n : ℕ) → 1 ≤ times n [] → B
none_needed n h = absurd (omega (arith, h))

-- code that needs no label of others
pub owned_free : {c : Code} {needs given : List ℕ} → Owned c [] given → Owned c needs given
owned_free {c} {needs} {given} f = owned_wide {c = c} {a = []} {b = needs} (λ n h. none_needed n h) f

-- code that needs one label, which is among others
pub owned_at : {c : Code} {l : ℕ} {needs given : List ℕ} → 1 ≤ times l needs → Owned c (l ∷ []) given → Owned c needs given
owned_at {c} {l} {needs} {given} has f = owned_wide {c = c} {a = l ∷ []} {b = needs} (λ n h. one_needed needs l n has h) f

pub owned_as : {c : Code} {needs a b : List ℕ} → ((n : ℕ) → times n a ≡ times n b) → Owned c needs a → Owned c needs b
owned_as {c} {needs} {a} {b} h f o =
    let x = f o in
    record { items = x.items; laid = x.laid; own = λ few. settles_as needs a b o.next (c o).next x.items h (x.own few) }

pub behind_is : (n : ℕ) → behind n < 4294967295 → behind n ≡ suc n
unfolding behind
behind_is n h = go (cases_lt 4294967295 (n + 1))
  where
    go : (4294967295 < n + 1) ⊎ (n + 1 ≤ 4294967295) → behind n ≡ suc n
    go (inl more) =
        let long : 4294967295 ≤ n + 1 = omega (arith, more) in
        let e : min (n + 1) 4294967295 ≡ 4294967295 = min-eq_right long in
        absurd (omega (arith, h, e))
    go (inr few) = let e : n + 1 ≡ suc n = omega arith in min-eq_left few ∙ e

pub owned_label : {body : Label → Code} {needs given : List ℕ} →
    ((l : Label) → Owned (body l) (l.number ∷ needs) (l.number ∷ given)) → Owned (with_label body) needs given
owned_label {body} {needs} {given} f o =
    let next = record o { next = behind o.next } in
    let x = f (next_label o) next in
    let high = (body (next_label o) next).next in
    record {
      items = x.items;
      laid = record { kept = x.laid.kept; fits = x.laid.fits; code = x.laid.code };
      own = λ few.
          let w = x.own few in
          let e = behind_is o.next (let r = w.within.grows in omega (arith, few, r)) in
          settles_label needs given o.next high x.items (subst (λ n. Settles (o.next ∷ needs) (o.next ∷ given) n high x.items) e w);
    }

settles_nothing : (needs : List ℕ) (low : ℕ) → Settles needs [] low low []
settles_nothing needs low = record { within = within_given [] low; all = λ n. omega arith; known = λ n h. none_needed n h }

pub owned_nothing : {needs : List ℕ} → Owned nothing needs []
owned_nothing {needs} o = record {
  items = [];
  laid = record { kept = kept_none o.kept; fits = λ e. e; code = λ e. code_none o.kept o.code };
  own = λ few. settles_nothing needs o.next;
}

-- an item counts no label
fitted_next : (limits : Limits) (f : Option Limit) (item : Item) (o : Out) → (fitted limits f item o).next ≡ o.next
fitted_next limits None item o = refl
fitted_next limits (Some limit) item o = refl

in_next : (limits : Limits) (p : Option Past) (item : Item) (o : Out) → (in_routine limits p item o).next ≡ o.next
in_next limits None item o = fitted_next limits (full_item item o.code) item o
in_next limits (Some past) item o = refl

by_next : (limits : Limits) (k : Option (List Item)) (item : Item) (o : Out) → (laid_by limits k item o).next ≡ o.next
by_next limits None item o = in_next limits o.past item o
by_next limits (Some before) item o = refl

laid_next : (limits : Limits) (item : Item) (o : Out) → (laid limits item o).next ≡ o.next
unfolding laid
laid_next limits item o = by_next limits o.kept item o

settles_item : (item : Item) (low : ℕ) → Settles (uses (item ∷ [])) (marks (item ∷ [])) low low (item ∷ [])
settles_item item low = record { within = within_given (marks (item ∷ [])) low; all = λ n. omega arith; known = λ n h. omega (arith, h) }

pub owned_item : (limits : Limits) (item : Item) → Owned (laid limits item) (uses (item ∷ [])) (marks (item ∷ []))
owned_item limits item o = record {
  items = item ∷ [];
  laid = item_laid limits item o;
  own = λ few. subst (λ n. Settles (uses (item ∷ [])) (marks (item ∷ [])) o.next n (item ∷ [])) (sym (laid_next limits item o))
      (settles_item item o.next);
}

-- an instruction needs the label of its branch
pub owned_parts_laid : (limits : Limits) (i : Parts) (needs : List ℕ) → operand_labels i.operands ≡ [] → branch_labels i.branch ≡ needs →
    Owned (laid limits (Item.Instruction i)) needs []
owned_parts_laid limits i needs none e = owned_wide {c = laid limits (Item.Instruction i)} {a = uses (Item.Instruction i ∷ [])} {b = needs}
    (λ n h. subst (λ ns. 1 ≤ times n ns) is h)
    (owned_item limits (Item.Instruction i))
  where
    is : operand_labels i.operands ++ (branch_labels i.branch ++ []) ≡ needs
    is = ap (λ ns. ns ++ (branch_labels i.branch ++ [])) none ∙ (append-nil (branch_labels i.branch) ∙ e)

pub owned_instruction : (limits : Limits) (op : Opcode) (operands : List Simple) (store : Option ℕ) (branch : Option Branch) →
    Owned (instruction limits op operands store branch) (branch_labels branch) []
unfolding instruction
owned_instruction limits op operands store branch o =
    owned_parts_laid limits (record { opcode = op; operands = map written operands; store = store; branch = branch; text = [] })
    (branch_labels branch) (written_none operands) refl o

pub owned_naming : (limits : Limits) (op : Opcode) (v : ℕ) (operands : List Simple) (store : Option ℕ) (branch : Option Branch) →
    Owned (naming limits op v operands store branch) (branch_labels branch) []
unfolding naming
owned_naming limits op v operands store branch o = owned_parts_laid limits
    (record { opcode = op; operands = Operand.Small v ∷ map written operands; store = store; branch = branch; text = [] })
    (branch_labels branch) (written_none operands) refl o

pub owned_jump : (limits : Limits) (l : Label) → Owned (jumped limits l) (l.number ∷ []) []
unfolding jumped
owned_jump limits l o = owned_item limits (Item.Instruction _) o

pub owned_mark : {needs : List ℕ} (limits : Limits) (l : Label) → Owned (marked limits l) needs (l.number ∷ [])
unfolding marked
owned_mark {needs} limits l o =
    owned_free {c = laid limits (Item.Mark l)} {needs = needs} {given = l.number ∷ []} (owned_item limits (Item.Mark l)) o

-- nor does the name of a supplied routine
by_used_next : (limits : Limits) (f : Option ReferFault) (name : List ℕ) (o : Out) → (used_by limits f name o).next ≡ o.next
by_used_next limits None name o = refl
by_used_next limits (Some fault) name o = refl

used_next : (limits : Limits) (v : Veneer) (o : Out) → (used limits v o).next ≡ o.next
unfolding used
used_next limits v o = by_used_next limits (refer_fault limits (name_of v) o.names) (name_of v) o

pub owned_routine : {body : Simple → Code} {needs given : List ℕ} (limits : Limits) (v : Veneer) →
    ((r : Simple) → Owned (body r) needs given) → Owned (with_routine limits v body) needs given
owned_routine {body} {needs} {given} limits v f o =
    let x = f (routine limits v o) (used limits v o) in
    record {
      items = x.items;
      laid = record {
        kept = x.laid.kept ∙ ap (λ k. kept_behind k x.items) (used_kept limits v o);
        fits = λ e. used_fits limits v o (x.laid.fits e);
        code = λ e. x.laid.code e ∙ ap (λ k. code_behind k x.items (used limits v o).code) (used_kept limits v o)
            ∙ ap (λ c. code_behind o.kept x.items c) (used_code limits v o);
      };
      own = λ few. subst (λ n. Settles needs given n (body (routine limits v o) (used limits v o)).next x.items) (used_next limits v o)
          (x.own few);
    }

supplied_owned : (limits : Limits) (v : Veneer) (all : List Simple) (store : Option ℕ) → Owned (calling_routine limits v all store) [] []
unfolding calling calling_routine
supplied_owned limits v all store =
    owned_routine limits v (λ r. owned_instruction limits (call_opcode store (length (take 7 all))) (r ∷ take 7 all) store None)

-- an output in which something beside code has changed
pub record Idle (o p : Out) : Type 0 where
  pub code : p.code ≡ o.code
  pub next : p.next ≡ o.next
  pub kept : p.kept ≡ o.kept
  pub fits : p.past ≡ None → o.past ≡ None

pub idle_then : (o p q : Out) → Idle o p → Idle p q → Idle o q
idle_then o p q x y = record { code = y.code ∙ x.code; next = y.next ∙ x.next; kept = y.kept ∙ x.kept; fits = λ e. x.fits (y.fits e) }

idle_owns : {c d : Code} {needs given : List ℕ} (o p : Out) → Idle o p → d o ≡ c p → Owns c needs given p → Owns d needs given o
idle_owns {c} {d} {needs} {given} o p i e x = record {
  items = x.items;
  laid = record {
    kept = ap (λ (q : Out). q.kept) e ∙ (x.laid.kept ∙ ap (λ k. kept_behind k x.items) i.kept);
    fits = λ h. i.fits (x.laid.fits (ap (λ (q : Out). q.past) (sym e) ∙ h));
    code = λ h. ap (λ (q : Out). q.code) e ∙ (x.laid.code (ap (λ (q : Out). q.past) (sym e) ∙ h)
        ∙ (ap (λ k. code_behind k x.items p.code) i.kept ∙ ap (code_behind o.kept x.items) i.code));
  };
  own = λ few.
      let same = ap (λ (q : Out). q.next) e in
      subst (λ n. Settles needs given o.next n x.items) (sym same)
      (subst (λ n. Settles needs given n (c p).next x.items) i.next (x.own (subst (λ n. n < 4294967295) same few)));
}

past_none : {A : Type 0} {B : Type 0} {a : A} → Some a ≡ None → B
past_none e = absurd (cc e)

low_idle : (limits : Limits) (b : Bool) (text : List ℕ) (o : Out) → Idle o (with_low_text_by limits b text o)
low_idle limits true text o = record { code = refl; next = refl; kept = refl; fits = λ e. e }
low_idle limits false text o = record { code = refl; next = refl; kept = refl; fits = λ e. past_none e }

packed_owned : Owned (λ o. record o { texts = late o.texts }) [] []
packed_owned o = idle_owns {c = nothing} {d = λ o. record o { texts = late o.texts }} o (record o { texts = late o.texts })
    (record { code = refl; next = refl; kept = refl; fits = λ e. e }) refl (owned_nothing {needs = []} (record o { texts = late o.texts }))

prints_owned : (limits : Limits) (op : Opcode) (text : Out → List ℕ)
    → Owned (λ o. laid limits (Item.Instruction (record (bare op) { text = text o })) o) [] []
prints_owned limits op text o =
    let x = owned_parts_laid limits (record (bare op) { text = text o }) [] refl refl o in
    record { items = x.items; laid = x.laid; own = x.own }

pub owned : {limits : Limits} {L : Target → Type 0} {c : Code} {needs given : List ℕ} → Made limits L c needs given → Owned c needs given
owned Nothing = owned_nothing
owned (Then f g) = owned_then (owned f) (owned g)
owned (Handed f) = owned_label (λ l. owned (f l))
owned (Wide h f) = owned_wide h (owned f)
owned (As h f) = owned_as h (owned f)
owned {limits} (Instructs op operands store branch m) = owned_instruction limits op operands store branch
owned {limits} (Names op v operands store branch m) = owned_naming limits op v operands store branch
owned {limits} (Asks v arguments store m) = supplied_owned limits v arguments store
owned {limits} (Marks l) = owned_mark limits l
owned {limits} (Jumps l) = owned_jump limits l
owned Packs = packed_owned
owned {limits} (Prints op text) = prints_owned limits op text
owned {limits} (Lows text body f) =
    λ o. idle_owns o (with_low_text limits text o) (low_idle limits (low_fits limits text o.tables.low_strings) text o) refl
    (owned (f o) (with_low_text limits text o))

-- The law

marks_its_own : (c : Code) (needs : List ℕ) → Owned c needs [] → MarksItsOwn c
marks_its_own c needs h o few n =
    let x = h (apart o) in
    let e : items_laid c o ≡ x.items = ap items_of x.laid.kept in
    let w = (x.own few).within in
    subst (λ items. (times n (marks items) ≤ 1) × (n < o.next → times n (marks items) ≡ 0) × ((c (apart o)).next ≤ n → times n
    (marks items) ≡ 0))
    (sym e) (
      w.once n,
      λ less. let p = w.below n less in omega (arith, p),
      λ more. let p = w.over n more in omega (arith, p),
    )

needs_alone : (needs : List ℕ) (c : Code) → Owned c needs [] → NeedsAlone needs c
needs_alone needs c h o few n =
    let x = h (apart o) in
    let e : items_laid c o ≡ x.items = ap items_of x.laid.kept in
    subst (λ items. 1 ≤ times n (uses items) → 1 ≤ times n needs + times n (marks items)) (sym e) ((x.own few).known n)

pub labels_are_own : LabelsAreOwn
labels_are_own limits t =
    let h : TreeMade limits Any t = tree_made limits Any t (any_tree t) in
    let m = meaning limits t in record {
      value = λ d. marks_its_own (m.value d) [] (owned (h.value d));
      alone = marks_its_own m.alone [] (owned h.alone);
      branch = λ sense label. marks_its_own (m.branch sense label) (label.number ∷ []) (owned (h.branch sense label));
      value_needs = λ d. needs_alone [] (m.value d) (owned (h.value d));
      alone_needs = needs_alone [] m.alone (owned h.alone);
      branch_needs = λ sense label. needs_alone (label.number ∷ []) (m.branch sense label) (owned (h.branch sense label));
    }
