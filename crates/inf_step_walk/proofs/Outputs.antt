-- The steps by which an output grows keep its targets.
use Rattle.std.proofs.Common.{Bool, List, None, Option, Some, [], ap, arith, false, if◌then◌else◌, is_some, length, map, refl, subst, sym}
use Rattle.std.proofs.Common.{true, ℕ, ◌||◌, ◌∙◌, ◌∷◌, ◌≡◌, ◌≤◌}
use Rattle.inf_area.specs.declared.scale.Scale.{Scale}
use Rattle.inf_scanner.specs.declared.tokens.Place.{Place}
use Rattle.inf_settings.specs.{Bounds.Limits, declared.setting.Setting.Setting}
use Rattle.inf_dictionary.specs.{Texts.Text, Words.add_fault, Words.word_of, declared.dictionary.AddFault.AddFault as WordFault}
use Rattle.inf_dictionary.specs.{declared.uses.WordUse.WordUse}
use Rattle.inf_tables.specs.LowStrings.{low_fits}
use Rattle.inf_opcode.specs.{declared.instructions.Branch.Branch, declared.instructions.Label.Label, declared.instructions.Operand.Operand}
use Rattle.inf_opcode.specs.{declared.opcodes.Opcode.Opcode}
use Rattle.inf_assembler.specs.{declared.routines.CloseFault.CloseFault, declared.routines.Limit.Limit as CodeLimit}
use Rattle.inf_assembler.specs.{declared.routines.RoutineKind.RoutineKind}
use Rattle.inf_names.specs.{declared.meanings.Meaning.Meaning, declared.symbols.DeclareFault.DeclareFault, declared.symbols.Found.Found}
use Rattle.inf_names.specs.{declared.symbols.ReferFault.ReferFault}
use Rattle.inf_names.specs.Symbols.{IsDeclared, IsUsed, declare_fault, folded, found_in, refer_fault, with_used_by}
use Rattle.inf_code.specs.Code.{Routines, begun_unless, closed_cells, fault_closed, full_begun, full_opened, is_lost_in, place_behind}
use Rattle.inf_code.specs.Code.{with_none_open}
use Rattle.inf_output.specs.{Operands.written, Strings.fits, Veneer.name_of, declared.items.Item.Item, declared.operands.Simple.Simple}
use Rattle.inf_output.specs.{declared.past.Past.Past, declared.veneer.Veneer.Veneer}
use Rattle.inf_output.specs.Output.{Code, Out, begun, begun_by, closed, closed_by, code_closed, declared, declared_by, fitted, full_item}
use Rattle.inf_output.specs.Output.{in_routine, instruction, items_of, jumped, laid, laid_all, laid_by, marked, naming, opened, opened_by}
use Rattle.inf_output.specs.Output.{passed_limit, passed_table, past_by, past_of, referred, referred_by, symbols_passed, used, used_by}
use Rattle.inf_output.specs.Output.{with_labels_left, with_low_text, with_low_text_by, with_scale, with_text, with_text_by, with_word}
use Rattle.inf_output.specs.Output.{with_word_by, without, without_item, without_lost}
use Rattle.inf_word_laws.specs.Standing.{Stands, has_word, is_limited, is_limited_by}
use Rattle.inf_word_laws.proofs.Numbering.{put_longer}
use Rattle.inf_word_laws.proofs.Steps.{limit_tables, passed_tables, steps_keep_words, used_words_stand}
use Rattle.inf_step_walk.specs.Standing.{Before, CellStands, Holds, IsBefore, ItemStands, ItemsStand, MeaningStands, is_short_by}
use Rattle.inf_step_walk.proofs.Premises.{SimplesStand, all_join}
use Rattle.inf_step_walk.proofs.Lists.{all_written, closed_stand, item_joins, label_joins, names_put, never}

-- From one output to another: the first comes before each one before which the second comes, and what it has stands there as well behind
-- the step as before it.
abbrev pub Goes : Out → Out → Out → Type 0
Goes u o v = (Before u v → Before u o) × (Before u v → Holds u o → Holds u v)

-- a step that keeps targets once something is given, as that its operands stand
abbrev pub GoesIf : Type 0 → Out → Out → Out → Type 0
GoesIf P u o v = (Before u v → Before u o) × (P → Before u v → Holds u o → Holds u v)

pub goes_then : (u o p v : Out) → Goes u o p → Goes u p v → Goes u o v
goes_then u o p v f g = ((λ e. f.0 (g.0 e)), (λ e h. g.1 e (f.1 (g.0 e) h)))

pub goes_nowhere : (u o : Out) → Goes u o o
goes_nowhere u o = ((λ e. e), (λ e h. h))

pub if_then : (u : Out) (P : Type 0) (o p v : Out) → GoesIf P u o p → GoesIf P u p v → GoesIf P u o v
if_then u P o p v f g = ((λ e. f.0 (g.0 e)), (λ s e h. g.1 s e (f.1 s (g.0 e) h)))

pub if_nowhere : (u : Out) (P : Type 0) (o : Out) → GoesIf P u o o
if_nowhere u P o = ((λ e. e), (λ s e h. h))

abbrev pub Keeps : Out → Code → Type 0
Keeps u c = (o : Out) → Goes u o (c o)

-- Code keeps targets, where what it lays stands once something is given.
abbrev pub KeepsIf : Out → Type 0 → Code → Type 0
KeepsIf u P c = (o : Out) → GoesIf P u o (c o)

pub record Sound (limits : Limits) (u : Out) (P : Type 0) (c : Code) : Type 0 where
  pub keeps : KeepsIf u P c

-- Lemmas about limits that are passed

or_true : (b : Bool) → (b || true) ≡ true
or_true true = refl
or_true false = refl

short_past : (limits : Limits) (past : Option Past) (code : Routines)
    → ((past_by limits past code).symbols || is_some (past_by limits past code).tables) ≡ is_short_by past
short_past limits None code = refl
short_past limits (Some p) code = refl

-- a room with the limits of names and of tables as they were
same_short : (limits : Limits) (past : Option Past) (code : Routines) (q : Past) → q.symbols ≡ (past_by limits past code).symbols
    → q.tables ≡ (past_by limits past code).tables → is_short_by (Some q) ≡ is_short_by past
same_short limits past code q symbols tables = ap (λ (b : Bool). b || is_some q.tables) symbols
    ∙ (ap (λ (t : Option Setting). (past_by limits past code).symbols || is_some t) tables ∙ short_past limits past code)

before_past : (limits : Limits) (u o : Out) (code : Routines) (q : Past) → q.symbols ≡ (past_by limits o.past code).symbols
    → q.tables ≡ (past_by limits o.past code).tables → IsBefore (Some q) o.tables.dictionary.list o.names.names u → Before u o
before_past limits u o code q symbols tables e = record {
  complete = sym (same_short limits o.past code q symbols tables) ∙ e.complete;
  few_names = e.few_names;
  has_words = e.has_words;
}

pub table_keeps : (limits : Limits) (u : Out) (limit : Setting) → Keeps u (passed_table limits limit)
table_keeps limits u limit o = (
  (λ e. never (sym (or_true (past_of limits o).symbols) ∙ e.complete)),
  (λ e h. never (sym (or_true (past_of limits o).symbols) ∙ e.complete)),
)

pub symbols_keep : (limits : Limits) (u : Out) → Keeps u (symbols_passed limits)
symbols_keep limits u o = ((λ e. never e.complete), (λ e h. never e.complete))

-- Lemmas about items

lost_symbols : (item : Item) (past : Past) → (without_lost item past).symbols ≡ past.symbols
lost_symbols (Item.Instruction parts) past = refl
lost_symbols (Item.Mark label) past = refl

item_symbols : (item : Item) (past : Past) → (without item past).symbols ≡ past.symbols
item_symbols (Item.Instruction parts) past = refl
item_symbols (Item.Mark label) past = refl

passed_symbols : (code : Routines) (item : Item) (past : Past) → (without_item code item past).symbols ≡ past.symbols
passed_symbols code item past = go (is_lost_in code.opened)
  where
    go : (b : Bool) → (if b then without_lost item past else without item past).symbols ≡ past.symbols
    go true = lost_symbols item past
    go false = item_symbols item past

passed_goes : (limits : Limits) (u : Out) (item : Item) (o : Out) → Goes u o (fitted limits (Some CodeLimit.Code) item o)
passed_goes limits u item o = (
  before_past limits u o o.code (without_item o.code item (past_of limits o)) (passed_symbols o.code item (past_of limits o))
      (passed_tables o.code item (past_of limits o)),
  (λ e h. h),
)

grown_goes : (limits : Limits) (u : Out) (item : Item) (o : Out) → GoesIf (ItemStands u item) u o (fitted limits None item o)
grown_goes limits u (Item.Instruction parts) o = (
  (λ e. e),
  (
      λ s e h. (
        record { of_finished = h.0.of_finished; of_opened = item_joins u parts o.code.opened s h.0.of_opened; of_kept = h.0.of_kept },
        h.1,
      )
      ),
)
grown_goes limits u (Item.Mark label) o = (
  (λ e. e),
  (
      λ s e h. (
        record { of_finished = h.0.of_finished; of_opened = label_joins u label o.code.opened h.0.of_opened; of_kept = h.0.of_kept },
        h.1,
      )
      ),
)

fitted_goes : (limits : Limits) (u : Out) (item : Item) (full : Option CodeLimit) (o : Out)
    → GoesIf (ItemStands u item) u o (fitted limits full item o)
fitted_goes limits u item None o = grown_goes limits u item o
fitted_goes limits u item (Some limit) o = let g = passed_goes limits u item o in (g.0, (λ s. g.1))

routine_goes : (limits : Limits) (u : Out) (item : Item) (past : Option Past) (o : Out)
    → GoesIf (ItemStands u item) u o (in_routine limits past item o)
routine_goes limits u item None o = fitted_goes limits u item (full_item item o.code) o
routine_goes limits u item (Some past) o = let g = passed_goes limits u item o in (g.0, (λ s. g.1))

kept_goes : (limits : Limits) (u : Out) (item : Item) (o : Out) (kept : Option (List Item)) → o.kept ≡ kept
    → GoesIf (ItemStands u item) u o (laid_by limits kept item o)
kept_goes limits u item o None is = routine_goes limits u item o.past o
kept_goes limits u item o (Some items) is = (
  (λ e. e),
  (
      λ s e h. (
        record {
          of_finished = h.0.of_finished;
          of_opened = h.0.of_opened;
          of_kept = all_join (ItemStands u) items (item ∷ [])
              (subst (λ (k : Option (List Item)). ItemsStand u (items_of k)) is h.0.of_kept) (s, tt);
        },
        h.1,
      )
      ),
)

item_goes : (limits : Limits) (u : Out) (item : Item) (o : Out) → GoesIf (ItemStands u item) u o (laid limits item o)
unfolding laid
item_goes limits u item o = kept_goes limits u item o o.kept refl

pub item_keeps : (limits : Limits) (u : Out) (P : Type 0) (item : Item) → (P → ItemStands u item) → KeepsIf u P (laid limits item)
item_keeps limits u P item s o = let g = item_goes limits u item o in (g.0, (λ p. g.1 (s p)))

pub items_keep : (limits : Limits) (u : Out) (P : Type 0) (items : List Item) → (P → ItemsStand u items)
    → KeepsIf u P (laid_all limits items)
items_keep limits u P [] s o = if_nowhere u P o
items_keep limits u P (item ∷ items) s o =
    let v = laid limits item o in
    if_then u P o v (laid_all limits items v) (item_keeps limits u P item (λ p. (s p).0) o) (items_keep limits u P items (λ p. (s p).1) v)

pub instruction_keeps : (limits : Limits) (u : Out) (P : Type 0) (opcode : Opcode) (operands : List Simple) (store : Option ℕ)
    (branch : Option Branch) → SimplesStand u P operands → KeepsIf u P (instruction limits opcode operands store branch)
unfolding instruction
instruction_keeps limits u P opcode operands store branch s = item_keeps limits u P
    (Item.Instruction (record { opcode = opcode; operands = map written operands; store = store; branch = branch; text = [] }))
    (λ p. all_written u P operands p s)

-- an output comes before each before which the one behind an instruction does, whatever the operands are
pub instruction_before : (limits : Limits) (u : Out) (opcode : Opcode) (operands : List Simple) (store : Option ℕ) (branch : Option Branch)
    (o : Out) → Before u (instruction limits opcode operands store branch o) → Before u o
unfolding instruction
instruction_before limits u opcode operands store branch o = (item_goes limits u
    (Item.Instruction (record { opcode = opcode; operands = map written operands; store = store; branch = branch; text = [] })) o).0

pub naming_keeps : (limits : Limits) (u : Out) (P : Type 0) (opcode : Opcode) (variable : ℕ) (operands : List Simple) (store : Option ℕ)
    (branch : Option Branch) → SimplesStand u P operands → KeepsIf u P (naming limits opcode variable operands store branch)
unfolding naming
naming_keeps limits u P opcode variable operands store branch s = item_keeps limits u P (Item.Instruction (record {
  opcode = opcode;
  operands = Operand.Small variable ∷ map written operands;
  store = store;
  branch = branch;
  text = [];
})) (λ p. (tt, all_written u P operands p s))

pub mark_keeps : (limits : Limits) (u : Out) (P : Type 0) (label : Label) → KeepsIf u P (marked limits label)
unfolding marked
mark_keeps limits u P label = item_keeps limits u P (Item.Mark label) (λ p. tt)

pub jump_keeps : (limits : Limits) (u : Out) (P : Type 0) (label : Label) → KeepsIf u P (jumped limits label)
unfolding jumped
jump_keeps limits u P label = item_keeps limits u P
    (Item.Instruction (record { opcode = Opcode.Jump; operands = Operand.Offset label ∷ []; store = None; branch = None; text = [] }))
    (λ p. (tt, tt))

-- Lemmas about routines

limit_symbols : (limit : CodeLimit) (past : Past) → (passed_limit limit past).symbols ≡ past.symbols
limit_symbols CodeLimit.Labels past = refl
limit_symbols limit past = refl

limit_before : (limits : Limits) (u o : Out) (code : Routines) (limit : CodeLimit)
    → IsBefore (Some (passed_limit limit (past_by limits o.past code))) o.tables.dictionary.list o.names.names u → Before u o
limit_before limits u o code limit =
    before_past limits u o code (passed_limit limit (past_by limits o.past code)) (limit_symbols limit (past_by limits o.past code))
    (limit_tables limit (past_by limits o.past code))

pub open_keeps : (limits : Limits) (u : Out) (locals : ℕ) (is_lost : Bool) → Keeps u (opened limits locals is_lost)
open_keeps limits u locals is_lost o = go (full_opened limits is_lost o.code)
  where
    go : (full : Option CodeLimit) → Goes u o (opened_by limits full locals is_lost o)
    go None = ((λ e. e), (λ e h. (record { of_finished = h.0.of_finished; of_opened = tt; of_kept = h.0.of_kept }, h.1)))
    go (Some limit) = (
      limit_before limits u o (with_none_open o.code) limit,
      (λ e h. (record { of_finished = h.0.of_finished; of_opened = tt; of_kept = h.0.of_kept }, h.1)),
    )

-- the open routine is given up
pub none_open_keeps : (u : Out) → Keeps u (λ o. record o { code = with_none_open o.code })
none_open_keeps u o = ((λ e. e), (λ e h. (record { of_finished = h.0.of_finished; of_opened = tt; of_kept = h.0.of_kept }, h.1)))

by_closed : (limits : Limits) (u : Out) (kind : RoutineKind) (o : Out) (fault : Option CloseFault)
    → Goes u o (closed_by limits fault kind o)
by_closed limits u kind o None = (
  (λ e. e),
  (
      λ e h. (
        record {
          of_finished = all_join (CellStands u)
              o.code.finished (closed_cells o.code.scale kind (place_behind o.code.finished) o.code.opened)
              h.0.of_finished (closed_stand u o.code.scale kind (place_behind o.code.finished) o.code.opened h.0.of_opened);
          of_opened = tt;
          of_kept = h.0.of_kept;
        },
        h.1,
      )
      ),
)
by_closed limits u kind o (Some (CloseFault.Full limit)) = (
  limit_before limits u o (with_none_open o.code) limit,
  (λ e h. (record { of_finished = h.0.of_finished; of_opened = tt; of_kept = h.0.of_kept }, h.1)),
)
by_closed limits u kind o (Some (CloseFault.LabelMissing label)) = none_open_keeps u o
by_closed limits u kind o other = none_open_keeps u o

labels_keep : (limits : Limits) (u : Out) (left : Option ℕ) → Keeps u (with_labels_left limits left)
labels_keep limits u None o = (limit_before limits u o o.code CodeLimit.Labels, (λ e h. h))
labels_keep limits u (Some left) o = goes_nowhere u o

pub close_keeps : (limits : Limits) (u : Out) (kind : RoutineKind) → Keeps u (closed limits kind)
close_keeps limits u kind o =
    let v = code_closed limits kind o in
    goes_then u o v (closed limits kind o) (by_closed limits u kind o (fault_closed limits kind o.code))
    (labels_keep limits u (past_of limits o).labels v)

-- Lemmas about how code or a condition begins

begun_code : (u o : Out) (full : Option CodeLimit) → Holds u o → Holds u (record o { code = begun_unless full o.code })
begun_code u o None h = h
begun_code u o (Some limit) h = h

pub begin_keeps : (limits : Limits) (u : Out) → Keeps u (begun limits)
begin_keeps limits u o = go (full_begun limits o.code)
  where
    go : (full : Option CodeLimit) → Goes u o (begun_by limits full o)
    go None = ((λ e. e), (λ e h. begun_code u o (full_begun limits o.code) h))
    go (Some limit) = (limit_before limits u o o.code limit, (λ e h. begun_code u o (full_begun limits o.code) h))

pub scale_keeps : (u : Out) (scale : Scale) → Keeps u (with_scale scale)
scale_keeps u scale o = goes_nowhere u o

-- Lemmas about texts and words

strings_before : (limits : Limits) (u o : Out)
    → IsBefore (Some (record (past_of limits o) { strings = true })) o.tables.dictionary.list o.names.names u → Before u o
strings_before limits u o = before_past limits u o o.code (record (past_of limits o) { strings = true }) refl refl

pub text_keeps : (limits : Limits) (u : Out) (text : List ℕ) → Keeps u (with_text limits text)
text_keeps limits u text o = go (fits limits text o.strings)
  where
    go : (b : Bool) → Goes u o (with_text_by limits b text o)
    go true = goes_nowhere u o
    go false = (strings_before limits u o, (λ e h. h))

pub low_text_keeps : (limits : Limits) (u : Out) (text : List ℕ) → Keeps u (with_low_text limits text)
low_text_keeps limits u text o = go (low_fits limits text o.tables.low_strings)
  where
    go : (b : Bool) → Goes u o (with_low_text_by limits b text o)
    go true = goes_nowhere u o
    go false = table_keeps limits u Setting.LowStrings o

second_false : (a b : Bool) → (a || b) ≡ false → b ≡ false
second_false true b e = never e
second_false false b e = e

first_true : (a b : Bool) → (a || b) ≡ true → b ≡ false → a ≡ true
first_true true b e f = refl
first_true false b e f = never (sym e ∙ f)

not_limited : (past : Option Past) → is_short_by past ≡ false → is_limited_by past ≡ false
not_limited None e = refl
not_limited (Some p) e = second_false p.symbols (is_some p.tables) e

-- a word that stands is there, where no limit was passed
pub word_there : (text : Text) (v : Out) → Stands text v → is_short_by v.past ≡ false → has_word text v ≡ true
word_there text v stands e = first_true (has_word text v) (is_limited v) stands (not_limited v.past e)

used_before : (limits : Limits) (u : Out) (text : Text) (how : WordUse) (is_plural : Bool) (o : Out) → is_short_by o.past ≡ false
    → Before u (with_word limits text how is_plural o) → Before u o
used_before limits u text how is_plural o complete e = record {
  complete = complete;
  few_names = names e.few_names;
  has_words = λ other has. e.has_words other (word_there other (with_word limits text how is_plural o)
      (((steps_keep_words limits).word text how is_plural).keeps other o (ap (λ (b : Bool). b || is_limited o) has)) e.complete);
}
  where
    fault : Option WordFault
    fault = add_fault limits (word_of text o.tables.dictionary.list) how o.tables.dictionary

    same : (f : Option WordFault) → length (with_word_by limits f text how is_plural o).names.names ≤ length u.names.names
        → length o.names.names ≤ length u.names.names
    same None few = few
    same (Some WordFault.Full) few = few
    same (Some WordFault.OtherVerb) few = few
    same (Some WordFault.Memory) few = few

    names : length (with_word limits text how is_plural o).names.names ≤ length u.names.names → length o.names.names ≤ length u.names.names
    names = same fault

pub word_keeps : (limits : Limits) (u : Out) (text : Text) (how : WordUse) (is_plural : Bool)
    → Keeps u (with_word limits text how is_plural)
word_keeps limits u text how is_plural o =
    ((λ e. used_before limits u text how is_plural o (complete fault e.complete) e), (λ e h. holds fault e.complete h))
  where
    fault : Option WordFault
    fault = add_fault limits (word_of text o.tables.dictionary.list) how o.tables.dictionary

    complete : (f : Option WordFault) → is_short_by (with_word_by limits f text how is_plural o).past ≡ false → is_short_by o.past ≡ false
    complete (Some WordFault.Full) e = never (sym (or_true (past_of limits o).symbols) ∙ e)
    complete other e = e

    holds : (f : Option WordFault) → is_short_by (with_word_by limits f text how is_plural o).past ≡ false → Holds u o
        → Holds u (with_word_by limits f text how is_plural o)
    holds (Some WordFault.Full) e h = never (sym (or_true (past_of limits o).symbols) ∙ e)
    holds other e h = h

-- a word that is used stands wherever the output behind its use comes before
pub word_stands : (limits : Limits) (u : Out) (text : Text) (how : WordUse) (is_plural : Bool) (o : Out)
    → Before u (with_word limits text how is_plural o) → has_word text u ≡ true
word_stands limits u text how is_plural o e =
    e.has_words text (word_there text (with_word limits text how is_plural o) (used_words_stand limits text how is_plural o) e.complete)

-- Lemmas about names

longer : (a b c : ℕ) → a ≤ b → b ≤ c → a ≤ c
longer a b c f g = omega (arith, f, g)

-- A name is declared, unless something is wrong with that: what its meaning refers to has to stand.
pub declare_goes : (limits : Limits) (u : Out) (name : List ℕ) (place : Place) (m : Meaning) (o : Out)
    → GoesIf (declare_fault limits name o.names ≡ None → MeaningStands u m) u o (declared limits name place m o)
declare_goes limits u name place m o = go (declare_fault limits name o.names) refl
  where
    go : (fault : Option (DeclareFault Place)) → declare_fault limits name o.names ≡ fault
        → GoesIf (declare_fault limits name o.names ≡ None → MeaningStands u m) u o (declared_by limits fault name place m o)
    go None is = (
      (
          λ e. record {
            complete = e.complete;
            few_names = longer _ _ _ (put_longer (folded name) (IsDeclared o.names.declared m place) o.names.names) e.few_names;
            has_words = e.has_words;
          }
          ),
      (λ s e h. (h.0, (h.1.0, (h.1.1.0, names_put u (folded name) (IsDeclared o.names.declared m place) o.names.names (s is) h.1.1.1)))),
    )
    go (Some DeclareFault.Full) is = ((λ e. never e.complete), (λ s e h. never e.complete))
    go (Some (DeclareFault.Present first)) is = ((λ e. e), (λ s e h. h))
    go (Some DeclareFault.Memory) is = ((λ e. e), (λ s e h. h))

-- a name is used, as far as it is among the names then
used_goes : (u : Out) (f : Found Place) (name : List ℕ) (place : Place) (o : Out)
    → Goes u o (record o { names = with_used_by f name place o.names })
used_goes u Found.Unknown name place o = (
  (
      λ e. record {
        complete = e.complete;
        few_names = longer _ _ _ (put_longer (folded name) (IsUsed name place) o.names.names) e.few_names;
        has_words = e.has_words;
      }
      ),
  (λ e h. (h.0, (h.1.0, (h.1.1.0, names_put u (folded name) (IsUsed name place) o.names.names tt h.1.1.1)))),
)
used_goes u Found.Used name place o = goes_nowhere u o
used_goes u f name place o = goes_nowhere u o

pub refer_keeps : (limits : Limits) (u : Out) (name : List ℕ) (place : Place) → Keeps u (referred limits name place)
refer_keeps limits u name place o = go (refer_fault limits name o.names)
  where
    go : (fault : Option ReferFault) → Goes u o (referred_by limits fault name place o)
    go None = used_goes u (found_in name o.names) name place o
    go (Some fault) = symbols_keep limits u o

pub used_keeps : (limits : Limits) (u : Out) (veneer : Veneer) → Keeps u (used limits veneer)
unfolding used
used_keeps limits u veneer o = go (refer_fault limits (name_of veneer) o.names)
  where
    go : (fault : Option ReferFault) → Goes u o (used_by limits fault (name_of veneer) o)
    go None = used_goes u (found_in (name_of veneer) o.names) (name_of veneer) o.first o
    go (Some fault) = symbols_keep limits u o
