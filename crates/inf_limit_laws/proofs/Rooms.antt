-- Rooms of limits: as code is counted they get less, and where a unit ends without a limit that was passed its counts fit.
use Rattle.std.specs.Prelude.{[], if◌then◌else◌, length, ◌∷◌}
use Rattle.std.proofs.lemmas.Bool.{ltb-false}
use Rattle.std.proofs.Common.{Bool, None, Option, Some, arith, cond, false, ltb, refl, true, ℕ, ◌+◌, ◌-◌, ◌≡◌, ◌≤◌}
use Rattle.inf_settings.specs.{Bounds.Limits, declared.setting.Setting.Setting}
use Rattle.inf_tables.specs.Tables.{references}
use Rattle.inf_opcode.specs.{Cells.Of, Counts.counts_of, Instructions.front_cells, declared.cells.Special.Special}
use Rattle.inf_opcode.specs.{declared.writing.Counts.Counts}
use Rattle.inf_assembler.specs.declared.routines.Limit.{Limit as CodeLimit}
use Rattle.inf_code.specs.Code.{Routines, bytes_of_code, is_lost_in, labels, reference_count, references_open, rest, rest_behind}
use Rattle.inf_output.specs.{declared.items.Item.Item, declared.past.Past.Past}
use Rattle.inf_output.specs.Output.{Out, counted, first_table, full, full_of, full_past, less, or_full, passed_limit, past_by, past_of}
use Rattle.inf_output.specs.Output.{table_passed, taken, whole, without, without_bytes, without_item, without_labels, without_lost}
use Rattle.inf_limit_laws.specs.Within.{Before, Counted, LeavesRoom}

-- Lemmas about rests of a limit

pub less_some : (x : Option ℕ) (n left : ℕ) → less x n ≡ Some left → (m : ℕ) × ((x ≡ Some m) × (m ≡ left + n))
less_some None n left is = cc
less_some (Some m) n left is = go (ltb m n) refl is
  where
    go : (b : Bool) → ltb m n ≡ b → cond b None (Some (m - n)) ≡ Some left → (k : ℕ) × ((Some m ≡ Some k) × (k ≡ left + n))
    go true e free = cc
    go false e free = let same : m - n ≡ left = cc in (m, (refl, omega (arith, ltb-false m n e, same)))

pub rest_some : (limit used left : ℕ) → rest limit used ≡ Some left → used + left ≤ limit
rest_some limit used left is = go (ltb limit used) refl is
  where
    go : (b : Bool) → ltb limit used ≡ b → cond b None (Some (limit - used)) ≡ Some left → used + left ≤ limit
    go true e free = cc
    go false e free = let same : limit - used ≡ left = cc in omega (arith, ltb-false limit used e, same)

behind_some : (limit used others left : ℕ) → rest_behind (rest limit used) others ≡ Some left → used + others + left ≤ limit
behind_some limit used others left is = go (ltb limit used) refl is
  where
    go : (b : Bool) → ltb limit used ≡ b → rest_behind (cond b None (Some (limit - used))) others ≡ Some left → used + others + left ≤ limit
    go true e free = cc
    go false e free = omega (arith, ltb-false limit used e, rest_some (limit - used) others left free)

less_none : (x : Option ℕ) (n : ℕ) → x ≡ None → less x n ≡ None
less_none None n e = refl
less_none (Some m) n e = cc

-- A limit that was passed stays passed

full_stays : (x y : Option ℕ) (s : Setting) (later now : Option Setting) → (x ≡ None → y ≡ None) → (now ≡ None → later ≡ None)
    → full_of y s now ≡ None → full_of x s later ≡ None
full_stays None None s later now h k free = free
full_stays None (Some n) s later now h k free = let never : Some n ≡ None = h refl in cc
full_stays (Some m) None s later now h k free = cc
full_stays (Some m) (Some n) s later now h k free = k free

or_stays : (t later now : Option Setting) → (now ≡ None → later ≡ None) → or_full t now ≡ None → or_full t later ≡ None
or_stays None later now k free = k free
or_stays (Some s) later now k free = free

if_stays : (b : Bool) (s : Setting) (later now : Option Setting) → (now ≡ None → later ≡ None) → cond b (Some s) now ≡ None
    → cond b (Some s) later ≡ None
if_stays true s later now k free = free
if_stays false s later now k free = k free

-- the room of labels, code and references becomes another one
abbrev lessened : Option ℕ → Option ℕ → Option ℕ → Past → Past
lessened labels code refs past = record past { labels = labels; code = code; refs = refs }

lessened_free : (past : Past) (labels code refs : Option ℕ) → (past.labels ≡ None → labels ≡ None) → (past.code ≡ None → code ≡ None)
    → (past.refs ≡ None → refs ≡ None) → full_past (lessened labels code refs past) ≡ None → full_past past ≡ None
lessened_free past labels code refs of_labels of_code of_refs =
    let last = full_of past.refs Setting.References None in
    let now_last = full_of refs Setting.References None in
    let strings = if past.strings then Some Setting.Strings else last in
    let now_strings = if past.strings then Some Setting.Strings else now_last in
    let tables = or_full past.tables (full_of past.code Setting.Code strings) in
    let now_tables = or_full past.tables (full_of code Setting.Code now_strings) in
    if_stays past.symbols Setting.Symbols (full_of past.labels Setting.Labels tables) (full_of labels Setting.Labels now_tables)
    (full_stays past.labels labels Setting.Labels tables now_tables of_labels
    (or_stays past.tables (full_of past.code Setting.Code strings) (full_of code Setting.Code now_strings)
    (full_stays past.code code Setting.Code strings now_strings of_code
    (if_stays past.strings Setting.Strings last now_last
    (full_stays past.refs refs Setting.References None None of_refs (λ e. e))))))

-- The rooms get less, or stay.
pub record Tightens (new old : Past) : Type 0 where
  pub free : full_past new ≡ None → full_past old ≡ None
  pub refs : (left : ℕ) → new.refs ≡ Some left → (m : ℕ) × ((old.refs ≡ Some m) × (left ≤ m))

tightens_then : {a b c : Past} → Tightens b a → Tightens c b → Tightens c a
tightens_then {a} {b} {c} f g = record {
  free = λ free. f.free (g.free free);
  refs = λ left is. let m = g.refs left is in let n = f.refs m.0 m.1.0 in (n.0, (n.1.0, omega (arith, m.1.1, n.1.1)));
}

taken_tightens : (counts : Counts) (past : Past) → Tightens (taken counts past) past
taken_tightens counts past = record {
  free = lessened_free past (less past.labels counts.labels) (less past.code counts.bytes) (less past.refs counts.fixups)
      (less_none past.labels counts.labels) (less_none past.code counts.bytes) (less_none past.refs counts.fixups);
  refs = λ left is. let m = less_some past.refs counts.fixups left is in (m.0, (m.1.0, omega (arith, m.1.1)));
}

bytes_tighten : (bytes : ℕ) (past : Past) → Tightens (without_bytes bytes past) past
bytes_tighten bytes past = record {
  free = lessened_free past past.labels (less past.code bytes) past.refs (λ e. e) (less_none past.code bytes) (λ e. e);
  refs = λ left is. (left, (is, omega arith));
}

labels_tighten : (n : ℕ) (past : Past) → Tightens (without_labels n past) past
labels_tighten n past = record {
  free = lessened_free past (less past.labels n) past.code past.refs (less_none past.labels n) (λ e. e) (λ e. e);
  refs = λ left is. (left, (is, omega arith));
}

whole_item_tightens : (item : Item) (past : Past) → Tightens (without item past) past
whole_item_tightens (Item.Instruction parts) past = tightens_then (taken_tightens (counts_of (front_cells parts)) past)
    (bytes_tighten (length parts.text) (taken (counts_of (front_cells parts)) past))
whole_item_tightens (Item.Mark label) past = taken_tightens (counts_of (Of (Special.Marks label) ∷ [])) past

lost_item_tightens : (item : Item) (past : Past) → Tightens (without_lost item past) past
lost_item_tightens (Item.Instruction parts) past = labels_tighten (counts_of (front_cells parts)).labels past
lost_item_tightens (Item.Mark label) past = whole_item_tightens (Item.Mark label) past

pub item_tightens : (code : Routines) (item : Item) (past : Past) → Tightens (without_item code item past) past
item_tightens code item past = go (is_lost_in code.opened)
  where
    go : (b : Bool) → Tightens (if b then without_lost item past else without item past) past
    go true = lost_item_tightens item past
    go false = whole_item_tightens item past

pub tight_room : {limits : Limits} {code : Routines} {old new : Past} → LeavesRoom limits code old → Tightens new old
    → LeavesRoom limits code new
tight_room {limits} {code} {old} {new} room t = record {
  begun = room.begun;
  few_labels = room.few_labels;
  few_references = λ left is. let m = t.refs left is in omega (arith, room.few_references m.0 m.1.0, m.1.1);
}

-- Lemmas about limits that were passed

pub symbols_full : (past : Past) → full_past (record past { symbols = true }) ≡ None → ⊥
symbols_full past free = cc

behind_full : (b : Bool) (s : Setting) (x : Option ℕ) (t others : Option Setting) → (or_full t others ≡ None → ⊥)
    → cond b (Some s) (full_of x Setting.Labels (or_full t others)) ≡ None → ⊥
behind_full true s x t others never free = cc
behind_full false s None t others never free = cc
behind_full false s (Some n) t others never free = never free

of_code : (x : Option ℕ) (others : Option Setting) → (others ≡ None → ⊥) → full_of x Setting.Code others ≡ None → ⊥
of_code None others never free = cc
of_code (Some n) others never free = never free

of_table : (t others : Option Setting) → (others ≡ None → ⊥) → or_full t others ≡ None → ⊥
of_table None others never free = never free
of_table (Some s) others never free = cc

of_strings : (b : Bool) → cond b (Some Setting.Strings) (full_of None Setting.References None) ≡ None → ⊥
of_strings true free = cc
of_strings false free = cc

pub table_full : (limit : Setting) (past : Past) → full_past (table_passed limit past) ≡ None → ⊥
table_full limit past = behind_full past.symbols Setting.Symbols past.labels (Some (first_table past.tables limit))
    (full_of past.code Setting.Code (if past.strings then Some Setting.Strings else full_of past.refs Setting.References None)) (λ e. cc)

pub strings_full : (past : Past) → full_past (record past { strings = true }) ≡ None → ⊥
strings_full past = behind_full past.symbols Setting.Symbols past.labels past.tables (full_of past.code Setting.Code (Some Setting.Strings))
    (of_table past.tables (full_of past.code Setting.Code (Some Setting.Strings)) (of_code past.code (Some Setting.Strings) (λ e. cc)))

labels_full : (b : Bool) (s : Setting) (others : Option Setting) → cond b (Some s) (full_of None Setting.Labels others) ≡ None → ⊥
labels_full true s others free = cc
labels_full false s others free = cc

pub limit_full : (limit : CodeLimit) (past : Past) → full_past (passed_limit limit past) ≡ None → ⊥
limit_full CodeLimit.Labels past = labels_full past.symbols Setting.Symbols (or_full past.tables (full_of past.code Setting.Code
    (if past.strings then Some Setting.Strings else full_of past.refs Setting.References None)))
limit_full CodeLimit.Code past =
    let strings = if past.strings then Some Setting.Strings else full_of past.refs Setting.References None in
    behind_full past.symbols Setting.Symbols past.labels past.tables (full_of None Setting.Code strings)
    (of_table past.tables (full_of None Setting.Code strings) (λ e. cc))
limit_full CodeLimit.Refs past =
    let strings = if past.strings then Some Setting.Strings else full_of None Setting.References None in
    behind_full past.symbols Setting.Symbols past.labels past.tables (full_of past.code Setting.Code strings)
    (of_table past.tables (full_of past.code Setting.Code strings) (of_code past.code strings (of_strings past.strings)))

-- Lemmas about all rooms beside code

whole_labels : (limits : Limits) (code : Routines) → full_past (whole limits code) ≡ None → labels code ≤ limits Setting.Labels
whole_labels limits code = go (ltb (limits Setting.Labels) (labels code)) refl
    (full_of (rest (limits Setting.Code) (bytes_of_code code)) Setting.Code
    (full_of (rest_behind (rest (limits Setting.References) (reference_count code)) (references_open code.opened)) Setting.References None))
  where
    go : (b : Bool) → ltb (limits Setting.Labels) (labels code) ≡ b → (others : Option Setting)
        → full_of (cond b None (Some (limits Setting.Labels - labels code))) Setting.Labels others ≡ None
        → labels code ≤ limits Setting.Labels
    go true e others free = cc
    go false e others free = ltb-false (limits Setting.Labels) (labels code) e

whole_room : (limits : Limits) (code : Routines) → code.has_begun ≡ true → full_past (whole limits code) ≡ None
    → LeavesRoom limits code (whole limits code)
whole_room limits code begun free = record {
  begun = begun;
  few_labels = whole_labels limits code free;
  few_references = λ left is. behind_some (limits Setting.References) (reference_count code) (references_open code.opened) left is;
}

-- The rooms of an output, whether code is laid in it or counted alone
pub past_room : {was : Before} (limits : Limits) (o : Out) → Counted limits was o → o.code.has_begun ≡ true →
    full_past (past_of limits o) ≡ None
    → LeavesRoom limits o.code (past_of limits o)
past_room limits o h begun = go o.past refl
  where
    go : (past : Option Past) → o.past ≡ past → full_past (past_by limits past o.code) ≡ None
        → LeavesRoom limits o.code (past_by limits past o.code)
    go None e free = whole_room limits o.code begun free
    go (Some p) e free = h.room p e free

-- Lemmas about ends of units

pub counted_free : (n : ℕ) (past : Past) → full_past (counted n past) ≡ None → full_past past ≡ None
counted_free n past = lessened_free past past.labels past.code (less past.refs n) (λ e. e) (λ e. e) (less_none past.refs n)

last_some : (x : Option ℕ) → full_of x Setting.References None ≡ None → (m : ℕ) × (x ≡ Some m)
last_some None free = cc
last_some (Some m) free = (m, refl)

strings_free : (b : Bool) (others : Option Setting) → cond b (Some Setting.Strings) others ≡ None → others ≡ None
strings_free true others free = cc
strings_free false others free = free

symbols_free : (b : Bool) (others : Option Setting) → cond b (Some Setting.Symbols) others ≡ None → others ≡ None
symbols_free true others free = cc
symbols_free false others free = free

of_free : (x : Option ℕ) (s : Setting) (others : Option Setting) → full_of x s others ≡ None → others ≡ None
of_free None s others free = cc
of_free (Some n) s others free = free

or_free : (t others : Option Setting) → or_full t others ≡ None → others ≡ None
or_free None others free = free
or_free (Some s) others free = cc

refs_some : (past : Past) → full_past past ≡ None → (m : ℕ) × (past.refs ≡ Some m)
refs_some past free =
    let last = full_of past.refs Setting.References None in
    let strings = if past.strings then Some Setting.Strings else last in
    let code = full_of past.code Setting.Code strings in
    let tables = or_full past.tables code in
    last_some past.refs (strings_free past.strings last (of_free past.code Setting.Code strings
    (or_free past.tables code (of_free past.labels Setting.Labels tables
    (symbols_free past.symbols (full_of past.labels Setting.Labels tables) free)))))

-- A unit that passed no limit: its labels fit, and so do all references.
pub record Fits (limits : Limits) (o : Out) : Type 0 where
  pub few_labels : labels o.code ≤ limits Setting.Labels
  pub few_references : reference_count o.code + references o.tables ≤ limits Setting.References

room_fits : (limits : Limits) (o : Out) (past : Past) → full_past (counted (references o.tables) past) ≡ None
    → labels o.code ≤ limits Setting.Labels
    → ((left : ℕ) → past.refs ≡ Some left
    → reference_count o.code + references_open o.code.opened + left ≤ limits Setting.References)
    → Fits limits o
room_fits limits o past free few room =
    let some = refs_some (counted (references o.tables) past) free in
    let left = less_some past.refs (references o.tables) some.0 some.1 in
    record { few_labels = few; few_references = omega (arith, room left.0 left.1.0, left.1.1) }

pub unit_fits : {was : Before} (limits : Limits) (o : Out) → Counted limits was o → full limits o ≡ None → Fits limits o
unit_fits limits o h = go o.past refl
  where
    go : (past : Option Past) → o.past ≡ past → full_past (counted (references o.tables) (past_by limits past o.code)) ≡ None
        → Fits limits o
    go None e free = room_fits limits o (whole limits o.code) free
        (whole_labels limits o.code (counted_free (references o.tables) (whole limits o.code) free))
        (behind_some (limits Setting.References) (reference_count o.code) (references_open o.code.opened))
    go (Some p) e free =
        let room = h.room p e (counted_free (references o.tables) p free) in
        room_fits limits o p free room.few_labels room.few_references
