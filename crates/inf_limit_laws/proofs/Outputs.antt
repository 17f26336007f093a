-- The steps by which an output grows keep it counted.
use Rattle.std.proofs.Common.{Bool, List, None, Option, Some, [], ap, arith, cond, drop, false, is_some, length, refl, subst, sym, take}
use Rattle.std.proofs.Common.{true, ℕ, ◌++◌, ◌+◌, ◌-◌, ◌∙◌, ◌∷◌, ◌≡◌, ◌≤◌}
use Rattle.inf_area.specs.{Cells.later_count, Cells.size_of, declared.cells.Cell.Cell as CodeCell, declared.fixups.Fixup.Fixup}
use Rattle.inf_area.specs.{declared.scale.Scale.Scale}
use Rattle.inf_scanner.specs.declared.tokens.Place.{Place}
use Rattle.inf_settings.specs.{Bounds.Limits, declared.setting.Setting.Setting}
use Rattle.inf_dictionary.specs.{Texts.Text, Words.add_fault, Words.word_of, declared.dictionary.AddFault.AddFault as WordFault}
use Rattle.inf_dictionary.specs.{declared.uses.WordUse.WordUse}
use Rattle.inf_tables.specs.LowStrings.{low_fits}
use Rattle.inf_opcode.specs.{Cells.Cell, Cells.fixup_count, Instructions.Parts, Instructions.instruction_cells}
use Rattle.inf_opcode.specs.{declared.instructions.Branch.Branch, declared.instructions.Label.Label, declared.opcodes.Opcode.Opcode}
use Rattle.inf_assembler.specs.{declared.routines.CloseFault.CloseFault, declared.routines.Limit.Limit as CodeLimit}
use Rattle.inf_assembler.specs.{declared.routines.RoutineKind.RoutineKind}
use Rattle.inf_assembler.specs.Routines.{Contents, body_bytes, long_places, routine_fixups}
use Rattle.inf_assembler.proofs.Finishing.{length-fixups}
use Rattle.inf_names.specs.{Symbols.declare_fault, Symbols.refer_fault, declared.meanings.Meaning.Meaning}
use Rattle.inf_names.specs.{declared.symbols.DeclareFault.DeclareFault, declared.symbols.ReferFault.ReferFault}
use Rattle.inf_code.specs.Code.{Opened, Routines, begun_unless, cells_from, cells_with, closed_cells, fault_closed, full_begun, full_behind}
use Rattle.inf_code.specs.Code.{full_marked, full_opened, known, padding, place_behind, references_open, routine_cells, whole_bytes}
use Rattle.inf_code.specs.Code.{with_item as code_with_item, with_label as with_mark, with_none_open, with_opened, zeros_behind}
use Rattle.inf_output.specs.{Strings.fits, Veneer.name_of, declared.items.Item.Item, declared.operands.Simple.Simple}
use Rattle.inf_output.specs.{declared.past.Past.Past, declared.veneer.Veneer.Veneer}
use Rattle.inf_output.specs.Output.{Code, Out, begun, begun_by, closed, closed_by, code_closed, declared, declared_by, fitted, full_item}
use Rattle.inf_output.specs.Output.{full_past, in_routine, instruction, jumped, laid, laid_all, laid_by, marked, naming, opened, opened_by}
use Rattle.inf_output.specs.Output.{passed, passed_limit, passed_table, past_by, past_of, referred, referred_by, routine, symbols_passed}
use Rattle.inf_output.specs.Output.{table_passed, used, used_by, with_labels_left, with_low_text, with_low_text_by, with_routine}
use Rattle.inf_output.specs.Output.{with_scale, with_text, with_text_by, with_word, with_word_by, without_item}
use Rattle.inf_limit_laws.specs.Within.{Before, Counted, IsCounted, Keeps, LeavesRoom}
use Rattle.inf_limit_laws.proofs.Rooms.{item_tightens, limit_full, past_room, strings_full, symbols_full, table_full, tight_room}

-- a limit that was passed has no room to speak of
full_room : {limits : Limits} {code : Routines} {p : Past} (q : Past) → Some q ≡ Some p → (full_past q ≡ None → ⊥) → full_past p ≡ None
    → LeavesRoom limits code p
full_room {limits} {code} {p} q is never free =
    let same : q ≡ p = cc in absurd (never (subst (λ (x : Past). full_past x ≡ None) (sym same) free))

-- Lemmas about items

some_item : (parts : Parts) (o : Option Opened) → is_some (code_with_item parts o) ≡ is_some o
some_item parts None = refl
some_item parts (Some o) = refl

some_mark : (label : Label) (o : Option Opened) → is_some (with_mark label o) ≡ is_some o
some_mark label None = refl
some_mark label (Some o) = refl

behind_opened : (finished : List CodeCell) (cells : List Cell) (o : Option Opened) (limit : CodeLimit)
    → full_behind finished cells o ≡ Some limit → is_some o ≡ true
behind_opened finished cells None limit e = cc
behind_opened finished cells (Some o) limit e = refl

marked_opened : (o : Option Opened) (limit : CodeLimit) → full_marked o ≡ Some limit → is_some o ≡ true
marked_opened None limit e = cc
marked_opened (Some o) limit e = refl

item_opened : (item : Item) (code : Routines) (limit : CodeLimit) → full_item item code ≡ Some limit → is_some code.opened ≡ true
item_opened (Item.Instruction parts) code limit e = behind_opened code.finished (instruction_cells parts) code.opened limit e
item_opened (Item.Mark label) code limit e = marked_opened code.opened limit e

grown_counted : {was : Before} (limits : Limits) (item : Item) (o : Out) → Counted limits was o → o.past ≡ None →
    Counted limits was (fitted limits None item o)
grown_counted {was} limits (Item.Instruction parts) o h none = record {
  same = h.same;
  begun = λ e. h.begun (sym (some_item parts o.code.opened) ∙ e);
  room = λ p is free. let never : None ≡ Some p = sym none ∙ is in cc;
}
grown_counted {was} limits (Item.Mark label) o h none = record {
  same = h.same;
  begun = λ e. h.begun (sym (some_mark label o.code.opened) ∙ e);
  room = λ p is free. let never : None ≡ Some p = sym none ∙ is in cc;
}

passed_counted : {was : Before} (limits : Limits) (item : Item) (o : Out) → Counted limits was o
    → (full_past (past_of limits o) ≡ None → LeavesRoom limits o.code (past_of limits o)) → Counted limits was (passed limits item o)
passed_counted {was} limits item o h room = record {
  same = h.same;
  begun = h.begun;
  room = λ p is free.
      let same : without_item o.code item (past_of limits o) ≡ p = cc in
      let t = item_tightens o.code item (past_of limits o) in
      subst (λ (x : Past). full_past x ≡ None → LeavesRoom limits o.code x) same (λ f. tight_room (room (t.free f)) t) free;
}

room_stays : {was : Before} (limits : Limits) (o : Out) → Counted limits was o → (past : Past) → o.past ≡ Some past →
    full_past (past_of limits o) ≡ None
    → LeavesRoom limits o.code (past_of limits o)
room_stays {was} limits o h past is =
    subst (λ (x : Option Past). full_past (past_by limits x o.code) ≡ None → LeavesRoom limits o.code (past_by limits x o.code)) (sym is)
    (λ free. h.room past is free)

fitted_counted : {was : Before} (limits : Limits) (item : Item) (o : Out) → Counted limits was o → o.past ≡ None → (full : Option CodeLimit)
    → full_item item o.code ≡ full → Counted limits was (fitted limits full item o)
fitted_counted {was} limits item o h none None e = grown_counted limits item o h none
fitted_counted {was} limits item o h none (Some limit) e =
    passed_counted limits item o h (past_room limits o h (h.begun (item_opened item o.code limit e)))

routine_counted : {was : Before} (limits : Limits) (item : Item) (o : Out) → Counted limits was o → (past : Option Past) → o.past ≡ past
    → Counted limits was (in_routine limits past item o)
routine_counted {was} limits item o h None is = fitted_counted limits item o h is (full_item item o.code) refl
routine_counted {was} limits item o h (Some past) is = passed_counted limits item o h (room_stays limits o h past is)

by_counted : {was : Before} (limits : Limits) (item : Item) (o : Out) → Counted limits was o → (kept : Option (List Item))
    → Counted limits was (laid_by limits kept item o)
by_counted {was} limits item o h None = routine_counted limits item o h o.past refl
by_counted {was} limits item o h (Some items) = h

pub item_keeps : {was : Before} (limits : Limits) (item : Item) → Keeps limits was (laid limits item)
unfolding laid
item_keeps {was} limits item o h = by_counted limits item o h o.kept

pub items_keep : {was : Before} (limits : Limits) (items : List Item) → Keeps limits was (laid_all limits items)
items_keep {was} limits [] o h = h
items_keep {was} limits (item ∷ items) o h = items_keep limits items (laid limits item o) (item_keeps limits item o h)

pub instruction_keeps : {was : Before} (limits : Limits) (opcode : Opcode) (operands : List Simple) (store : Option ℕ)
    (branch : Option Branch)
    → Keeps limits was (instruction limits opcode operands store branch)
unfolding instruction
instruction_keeps {was} limits opcode operands store branch = item_keeps limits _

pub naming_keeps : {was : Before} (limits : Limits) (opcode : Opcode) (variable : ℕ) (operands : List Simple) (store : Option ℕ)
    (branch : Option Branch)
    → Keeps limits was (naming limits opcode variable operands store branch)
unfolding naming
naming_keeps {was} limits opcode variable operands store branch = item_keeps limits _

pub mark_keeps : {was : Before} (limits : Limits) (label : Label) → Keeps limits was (marked limits label)
unfolding marked
mark_keeps {was} limits label = item_keeps limits (Item.Mark label)

pub jump_keeps : {was : Before} (limits : Limits) (label : Label) → Keeps limits was (jumped limits label)
unfolding jumped
jump_keeps {was} limits label = item_keeps limits _

-- Lemmas about routines

-- what has begun has five references of its own
five : {b : Bool} → b ≡ true → ◌≡◌ {A = ℕ} (cond b 5 4) 5
five {b} e = ap (λ (x : Bool). cond x 5 4) e

opened_room : (limits : Limits) (locals : ℕ) (is_lost : Bool) (code : Routines) (p : Past) → LeavesRoom limits code p
    → LeavesRoom limits (with_opened locals is_lost code) p
opened_room limits locals true code p r = record {
  begun = refl;
  few_labels = omega arith;
  few_references = λ left is. let c = five r.begun in omega (arith, c, r.few_references left is);
}
opened_room limits locals false code p r = record {
  begun = refl;
  few_labels = omega arith;
  few_references = λ left is. let c = five r.begun in omega (arith, c, r.few_references left is);
}

pub open_keeps : {was : Before} (limits : Limits) (locals : ℕ) (is_lost : Bool) → Keeps limits was (opened limits locals is_lost)
open_keeps {was} limits locals is_lost o h = go (full_opened limits is_lost o.code)
  where
    go : (full : Option CodeLimit) → Counted limits was (opened_by limits full locals is_lost o)
    go None = record { same = h.same; begun = λ e. refl; room = λ p is free. opened_room limits locals is_lost o.code p (h.room p is free) }
    go (Some limit) = record {
      same = h.same;
      begun = λ e. cc;
      room = λ p is free. full_room (passed_limit limit (past_by limits o.past (with_none_open o.code))) is (limit_full limit
          (past_by limits o.past (with_none_open o.code))) free;
    }

none_open_room : (limits : Limits) (code : Routines) (p : Past) → LeavesRoom limits code p → LeavesRoom limits (with_none_open code) p
none_open_room limits code p r = record {
  begun = r.begun;
  few_labels = omega arith;
  few_references = λ left is. omega (arith, r.few_references left is);
}

-- the open routine is given up
pub none_open_keeps : {was : Before} (limits : Limits) → Keeps limits was (λ o. record o { code = with_none_open o.code })
none_open_keeps {was} limits o h = record {
  same = h.same;
  begun = λ e. cc;
  room = λ p is free. none_open_room limits o.code p (h.room p is free);
}

later_append : (a b : List CodeCell) → later_count (a ++ b) ≡ later_count a + later_count b
later_append [] b = omega arith
later_append ((CodeCell.Byte byte) ∷ a) b = later_append a b
later_append ((CodeCell.Later target) ∷ a) b = omega (arith, later_append a b)

later_known : (bytes : List ℕ) → later_count (known bytes) ≡ 0
later_known [] = refl
later_known (byte ∷ bytes) = later_known bytes

later_from : (fixups : List Fixup) (place : ℕ) (bytes : List ℕ) → later_count (cells_from place fixups bytes) ≡ length fixups
later_from [] place bytes = later_known bytes
later_from (fixup ∷ fixups) place bytes =
    let front = take (fixup.place - place) bytes in
    let others = cells_from (fixup.place + 2) fixups (drop (fixup.place + 2 - place) bytes) in
    omega (
      arith,
      later_append (known front) (CodeCell.Later fixup.target ∷ others),
      later_known front,
      later_from fixups (fixup.place + 2) (drop (fixup.place + 2 - place) bytes),
    )

later_with : (place : ℕ) (kind : RoutineKind) (contents : Contents) (body : Option (List ℕ))
    → later_count (cells_with place kind contents body) ≤ fixup_count contents.cells
later_with place kind contents None = omega arith
later_with place kind contents (Some body) =
    let whole = whole_bytes kind contents body in
    omega (
      arith,
      later_from (routine_fixups place contents) place whole,
      length-fixups (long_places place contents) (place + 1) (place + 1) contents.cells,
    )

later_padded : (scale : Scale) (cells : List CodeCell) → later_count (cells ++ padding scale (size_of cells)) ≡ later_count cells
later_padded scale cells =
    omega (arith, later_append cells (padding scale (size_of cells)), later_known (zeros_behind scale (size_of cells)))

-- the references of cells that a routine becomes are at most those of the routine
later_closed : (scale : Scale) (kind : RoutineKind) (place : ℕ) (o : Option Opened)
    → later_count (closed_cells scale kind place o) ≤ references_open o
later_closed scale kind place None = omega arith
later_closed scale kind place (Some o) = go o.is_lost
  where
    cells : List CodeCell
    cells = routine_cells place kind o.contents

    go : (b : Bool) → later_count (cond b [] (cells ++ padding scale (size_of cells))) ≤ cond b 0 (fixup_count o.contents.cells)
    go true = omega arith
    go false = omega (arith, later_padded scale cells, later_with place kind o.contents (body_bytes place o.contents))

closed_room : (limits : Limits) (kind : RoutineKind) (o : Out) (p : Past) → LeavesRoom limits o.code p
    → LeavesRoom limits (closed_by limits None kind o).code p
closed_room limits kind o p r =
    let cells = closed_cells o.code.scale kind (place_behind o.code.finished) o.code.opened in
    record {
      begun = r.begun;
      few_labels = omega arith;
      few_references = λ left is. omega (
        arith,
        later_append o.code.finished cells,
        later_closed o.code.scale kind (place_behind o.code.finished) o.code.opened,
        r.few_references left is,
      );
    }

by_closed : {was : Before} (limits : Limits) (kind : RoutineKind) (o : Out) → Counted limits was o → (fault : Option CloseFault)
    → Counted limits was (closed_by limits fault kind o)
by_closed {was} limits kind o h None = record {
  same = h.same;
  begun = λ e. cc;
  room = λ p is free. closed_room limits kind o p (h.room p is free);
}
by_closed {was} limits kind o h (Some (CloseFault.Full limit)) = record {
  same = h.same;
  begun = λ e. cc;
  room = λ p is free. full_room (passed_limit limit (past_by limits o.past (with_none_open o.code))) is
      (limit_full limit (past_by limits o.past (with_none_open o.code))) free;
}
by_closed {was} limits kind o h (Some (CloseFault.LabelMissing label)) = none_open_keeps limits o h
by_closed {was} limits kind o h other = none_open_keeps limits o h

labels_counted : {was : Before} (limits : Limits) (left : Option ℕ) (o : Out) → Counted limits was o →
    Counted limits was (with_labels_left limits left o)
labels_counted {was} limits None o h = record {
  same = h.same;
  begun = h.begun;
  room = λ p is free. full_room (passed_limit CodeLimit.Labels (past_of limits o)) is (limit_full CodeLimit.Labels (past_of limits o)) free;
}
labels_counted {was} limits (Some left) o h = h

pub close_keeps : {was : Before} (limits : Limits) (kind : RoutineKind) → Keeps limits was (closed limits kind)
close_keeps {was} limits kind o h = labels_counted limits (past_of limits o).labels (code_closed limits kind o)
    (by_closed limits kind o h (fault_closed limits kind o.code))

-- Lemmas about how code or a condition begins

begun_code : {was : Before} (limits : Limits) (o : Out) → Counted limits was o → (full : Option CodeLimit)
    → IsCounted limits was (begun_unless full o.code) o.past o.tables.low_strings.abbreviations
begun_code {was} limits o h None = record {
  same = h.same;
  begun = λ e. refl;
  room = λ p is free.
      let r = h.room p is free in
      record {
        begun = refl;
        few_labels = r.few_labels;
        few_references = λ left some. let c = five r.begun in omega (arith, c, r.few_references left some);
      };
}
begun_code {was} limits o h (Some limit) = h

pub begin_keeps : {was : Before} (limits : Limits) → Keeps limits was (begun limits)
begin_keeps {was} limits o h = go (full_begun limits o.code)
  where
    counted : IsCounted limits was (begun_unless (full_begun limits o.code) o.code) o.past o.tables.low_strings.abbreviations
    counted = begun_code limits o h (full_begun limits o.code)

    go : (full : Option CodeLimit) → Counted limits was (begun_by limits full o)
    go None = counted
    go (Some limit) = record {
      same = counted.same;
      begun = counted.begun;
      room = λ p is free. full_room (passed_limit limit (past_of limits o)) is (limit_full limit (past_of limits o)) free;
    }

-- Packed addresses are multiplied by another scale.
pub scale_keeps : {was : Before} (limits : Limits) (scale : Scale) → Keeps limits was (with_scale scale)
scale_keeps {was} limits scale o h = record {
  same = h.same;
  begun = h.begun;
  room = λ p is free.
      let r = h.room p is free in
      record { begun = r.begun; few_labels = r.few_labels; few_references = r.few_references };
}

-- Lemmas about limits of tables, strings and names

pub table_keeps : {was : Before} (limits : Limits) (limit : Setting) → Keeps limits was (passed_table limits limit)
table_keeps {was} limits limit o h = record {
  same = h.same;
  begun = h.begun;
  room = λ p is free. full_room (table_passed limit (past_of limits o)) is (table_full limit (past_of limits o)) free;
}

pub symbols_keeps : {was : Before} (limits : Limits) → Keeps limits was (symbols_passed limits)
symbols_keeps {was} limits o h = record {
  same = h.same;
  begun = h.begun;
  room = λ p is free. full_room (record (past_of limits o) { symbols = true }) is (symbols_full (past_of limits o)) free;
}

pub text_keeps : {was : Before} (limits : Limits) (text : List ℕ) → Keeps limits was (with_text limits text)
text_keeps {was} limits text o h = go (fits limits text o.strings)
  where
    go : (b : Bool) → Counted limits was (with_text_by limits b text o)
    go true = h
    go false = record {
      same = h.same;
      begun = h.begun;
      room = λ p is free. full_room (record (past_of limits o) { strings = true }) is (strings_full (past_of limits o)) free;
    }

pub low_text_keeps : {was : Before} (limits : Limits) (text : List ℕ) → Keeps limits was (with_low_text limits text)
low_text_keeps {was} limits text o h = go (low_fits limits text o.tables.low_strings)
  where
    go : (b : Bool) → Counted limits was (with_low_text_by limits b text o)
    go true = h
    go false = table_keeps limits Setting.LowStrings o h

pub word_keeps : {was : Before} (limits : Limits) (text : Text) (how : WordUse) (is_plural : Bool) →
    Keeps limits was (with_word limits text how is_plural)
word_keeps {was} limits text how is_plural o h = go (add_fault limits (word_of text o.tables.dictionary.list) how o.tables.dictionary)
  where
    go : (fault : Option WordFault) → Counted limits was (with_word_by limits fault text how is_plural o)
    go (Some WordFault.Full) = table_keeps limits Setting.DictionaryEntries o h
    go other = h

pub declare_keeps : {was : Before} (limits : Limits) (name : List ℕ) (place : Place) (m : Meaning) →
    Keeps limits was (declared limits name place m)
declare_keeps {was} limits name place m o h = go (declare_fault limits name o.names)
  where
    go : (fault : Option (DeclareFault Place)) → Counted limits was (declared_by limits fault name place m o)
    go (Some DeclareFault.Full) = symbols_keeps limits o h
    go other = h

pub refer_keeps : {was : Before} (limits : Limits) (name : List ℕ) (place : Place) → Keeps limits was (referred limits name place)
refer_keeps {was} limits name place o h = go (refer_fault limits name o.names)
  where
    go : (fault : Option ReferFault) → Counted limits was (referred_by limits fault name place o)
    go None = h
    go (Some fault) = symbols_keeps limits o h

used_keeps : {was : Before} (limits : Limits) (veneer : Veneer) → Keeps limits was (used limits veneer)
unfolding used
used_keeps {was} limits veneer o h = go (refer_fault limits (name_of veneer) o.names)
  where
    go : (fault : Option ReferFault) → Counted limits was (used_by limits fault (name_of veneer) o)
    go None = h
    go (Some fault) = symbols_keeps limits o h

pub with_routine_keeps : {was : Before} (limits : Limits) (veneer : Veneer) (body : Simple → Code) →
    ((s : Simple) → Keeps limits was (body s))
    → Keeps limits was (with_routine limits veneer body)
with_routine_keeps {was} limits veneer body keeps o h =
    keeps (routine limits veneer o) (used limits veneer o) (used_keeps limits veneer o h)
