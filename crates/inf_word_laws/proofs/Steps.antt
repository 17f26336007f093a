-- Steps that leave the dictionary as it is, and those that add to it.
use Rattle.std.specs.{Cmp.Lexicographic.lists_total, Cmp.Lexicographic.slice_cmp, Cmp.nat_cmp_total, Ordering.ordering_reverse}
use Rattle.std.proofs.Common.{Bool, Equal, Greater, Less, List, None, Option, Ordering, Some, [], ap, false, if◌then◌else◌, inl, inr, is_eq}
use Rattle.std.proofs.Common.{is_none, is_some, length, nat_cmp, nat_le, refl, true, ℕ, ◌&&◌, ◌||◌, ◌∙◌, ◌∷◌, ◌≡◌, ◌⊎◌}
use Rattle.inf_scanner.specs.declared.tokens.Place.{Place}
use Rattle.inf_settings.specs.{Bounds.Limits, declared.setting.Setting.Setting}
use Rattle.inf_dictionary.specs.{Texts.Text, Uses.UseOf, declared.dictionary.AddFault.AddFault, declared.uses.Word.Word}
use Rattle.inf_dictionary.specs.{declared.uses.WordUse.WordUse}
use Rattle.inf_dictionary.specs.Words.{add_fault, is_of_other_verb, joined, with_use, word_of}
use Rattle.inf_dictionary.proofs.Known.{known_by_all}
use Rattle.inf_tables.specs.{LowStrings.low_fits, Tables.references}
use Rattle.inf_assembler.specs.{declared.routines.CloseFault.CloseFault, declared.routines.Limit.Limit as CodeLimit}
use Rattle.inf_assembler.specs.{declared.routines.RoutineKind.RoutineKind}
use Rattle.inf_names.specs.{Symbols.declare_fault, Symbols.refer_fault, declared.meanings.Meaning.Meaning}
use Rattle.inf_names.specs.{declared.symbols.DeclareFault.DeclareFault, declared.symbols.ReferFault.ReferFault}
use Rattle.inf_code.specs.Code.{Routines, fault_closed, full_begun, full_opened, is_lost_in, with_none_open}
use Rattle.inf_output.specs.{Strings.fits, declared.items.Item.Item, declared.past.Past.Past}
use Rattle.inf_output.specs.Output.{Out, begun_by, behind, closed_by, code_closed, counted, declared_by, fitted, full_item, full_of}
use Rattle.inf_output.specs.Output.{full_past, in_routine, laid, laid_by, less, next_label, opened_by, or_full, passed_limit, passed_table}
use Rattle.inf_output.specs.Output.{past_by, past_of, referred_by, with_labels_left, with_low_text_by, with_text_by, with_word_by, without}
use Rattle.inf_output.specs.Output.{without_item, without_lost}
use Rattle.inf_word_laws.specs.Standing.{Keeps, StandingAreThere, Stands, StepsKeepWords, UsedWordsStand, has_word, is_limited}
use Rattle.inf_word_laws.specs.Standing.{is_limited_by}

or-true : (b : Bool) → (b || true) ≡ true
or-true true = refl
or-true false = refl

-- A step that changes neither the words nor whether a limit of tables was passed keeps words.

same_stands : (text : Text) (o v : Out) → has_word text v ≡ has_word text o → is_limited v ≡ is_limited o → Stands text o → Stands text v
same_stands text o v words limited stands = ap (λ b. b || is_limited v) words ∙ ap (λ b. has_word text o || b) limited ∙ stands

-- the limits that a room is of, where one was passed or not
past_tables : (limits : Limits) (past : Option Past) (code : Routines) → is_some (past_by limits past code).tables ≡ is_limited_by past
past_tables limits None code = refl
past_tables limits (Some past) code = refl

-- where only limits beside those of tables were passed, words stay
with_past : (text : Text) (limits : Limits) (o v : Out) (code : Routines) (q : Past) → q.tables ≡ (past_by limits o.past code).tables
    → v.tables ≡ o.tables → v.past ≡ Some q → Stands text o → Stands text v
with_past text limits o v code q same tables past stands = same_stands text o v (ap (λ t. is_some (word_of text t.dictionary.list)) tables)
    (ap is_limited_by past ∙ (ap is_some same ∙ past_tables limits o.past code)) stands

-- Lemmas about items

lost_tables : (item : Item) (past : Past) → (without_lost item past).tables ≡ past.tables
lost_tables (Item.Instruction parts) past = refl
lost_tables (Item.Mark label) past = refl

item_tables : (item : Item) (past : Past) → (without item past).tables ≡ past.tables
item_tables (Item.Instruction parts) past = refl
item_tables (Item.Mark label) past = refl

pub passed_tables : (code : Routines) (item : Item) (past : Past) → (without_item code item past).tables ≡ past.tables
passed_tables code item past = go (is_lost_in code.opened)
  where
    go : (b : Bool) → (if b then without_lost item past else without item past).tables ≡ past.tables
    go true = lost_tables item past
    go false = item_tables item past

item_stands : (limits : Limits) (item : Item) (past : Option Past) (text : Text) (o : Out) → o.past ≡ past → Stands text o
    → Stands text (in_routine limits past item o)
item_stands limits item (Some p) text o is stands =
    with_past text limits o (in_routine limits (Some p) item o) o.code (without_item o.code item (past_of limits o))
    (passed_tables o.code item (past_of limits o)) refl refl stands
item_stands limits item None text o is stands = go (full_item item o.code)
  where
    go : (f : Option CodeLimit) → Stands text (fitted limits f item o)
    go None = stands
    go (Some limit) = with_past text limits o (fitted limits (Some limit) item o) o.code (without_item o.code item (past_of limits o))
        (passed_tables o.code item (past_of limits o)) refl refl stands

laid_stands : (limits : Limits) (item : Item) (kept : Option (List Item)) (text : Text) (o : Out) → Stands text o
    → Stands text (laid_by limits kept item o)
laid_stands limits item None text o stands = item_stands limits item o.past text o refl stands
laid_stands limits item (Some items) text o stands = stands

keeps_item : (limits : Limits) (item : Item) → Keeps (laid limits item)
unfolding laid
keeps_item limits item = record { keeps = λ text o stands. laid_stands limits item o.kept text o stands }

-- Lemmas about routines

pub limit_tables : (limit : CodeLimit) (past : Past) → (passed_limit limit past).tables ≡ past.tables
limit_tables CodeLimit.Labels past = refl
limit_tables limit past = refl

opened_stands : (limits : Limits) (f : Option CodeLimit) (locals : ℕ) (is_lost : Bool) (text : Text) (o : Out) → Stands text o
    → Stands text (opened_by limits f locals is_lost o)
opened_stands limits None locals is_lost text o stands = stands
opened_stands limits (Some limit) locals is_lost text o stands =
    let code = with_none_open o.code in
    with_past text limits o (opened_by limits (Some limit) locals is_lost o) code (passed_limit limit (past_by limits o.past code))
    (limit_tables limit (past_by limits o.past code)) refl refl stands

begun_stands : (limits : Limits) (f : Option CodeLimit) (text : Text) (o : Out) → Stands text o → Stands text (begun_by limits f o)
begun_stands limits None text o stands = stands
begun_stands limits (Some limit) text o stands =
    with_past text limits o (begun_by limits (Some limit) o) o.code (passed_limit limit (past_of limits o))
    (limit_tables limit (past_of limits o)) refl refl stands

closed_stands : (limits : Limits) (f : Option CloseFault) (kind : RoutineKind) (text : Text) (o : Out) → Stands text o
    → Stands text (closed_by limits f kind o)
closed_stands limits (Some (CloseFault.Full limit)) kind text o stands =
    let code = with_none_open o.code in
    with_past text limits o (closed_by limits (Some (CloseFault.Full limit)) kind o) code (passed_limit limit (past_by limits o.past code))
    (limit_tables limit (past_by limits o.past code)) refl refl stands
closed_stands limits other kind text o stands = stands

left_stands : (limits : Limits) (rest : Option ℕ) (text : Text) (o : Out) → Stands text o → Stands text (with_labels_left limits rest o)
left_stands limits None text o stands =
    with_past text limits o (with_labels_left limits None o) o.code (passed_limit CodeLimit.Labels (past_of limits o)) refl refl refl stands
left_stands limits (Some rest) text o stands = stands

-- Lemmas about texts and names

text_stands : (limits : Limits) (fit : Bool) (bytes : List ℕ) (text : Text) (o : Out) → Stands text o
    → Stands text (with_text_by limits fit bytes o)
text_stands limits true bytes text o stands = stands
text_stands limits false bytes text o stands =
    with_past text limits o (with_text_by limits false bytes o) o.code (record (past_of limits o) { strings = true }) refl refl refl stands

pub limit_stands : (limits : Limits) (limit : Setting) (text : Text) (o : Out) → Stands text (passed_table limits limit o)
limit_stands limits limit text o = or-true (has_word text o)

low_text_stands : (limits : Limits) (fit : Bool) (bytes : List ℕ) (text : Text) (o : Out) → Stands text o
    → Stands text (with_low_text_by limits fit bytes o)
low_text_stands limits true bytes text o stands = stands
low_text_stands limits false bytes text o stands = limit_stands limits Setting.LowStrings text o

declared_stands : (limits : Limits) (f : Option (DeclareFault Place)) (name : List ℕ) (place : Place) (m : Meaning) (text : Text) (o : Out)
    → Stands text o → Stands text (declared_by limits f name place m o)
declared_stands limits (Some DeclareFault.Full) name place m text o stands =
    with_past text limits o (declared_by limits (Some DeclareFault.Full) name place m o) o.code
    (record (past_of limits o) { symbols = true })
    refl refl refl stands
declared_stands limits other name place m text o stands = stands

referred_stands : (limits : Limits) (f : Option ReferFault) (name : List ℕ) (place : Place) (text : Text) (o : Out) → Stands text o
    → Stands text (referred_by limits f name place o)
referred_stands limits None name place text o stands = stands
referred_stands limits (Some fault) name place text o stands =
    with_past text limits o (referred_by limits (Some fault) name place o) o.code (record (past_of limits o) { symbols = true })
    refl refl refl stands

-- Lemmas about words

some_by : (b : Bool) (word : Word) (known : Option Word) → is_some known ≡ true → is_some (if b then Some word else known) ≡ true
some_by true word known is = refl
some_by false word known is = is

-- a further use leaves each word there
word_stays : (text used : Text) (how : WordUse) (is_plural : Bool) (o : Out) → has_word text o ≡ true
    → is_some (word_of text (with_use used how is_plural o.tables.dictionary).list) ≡ true
word_stays text used how is_plural o is =
    let u : UseOf = record { text = used; how = how; is_plural = is_plural } in
    let known = word_of text o.tables.dictionary.list in
    ap is_some (known_by_all (lists_total nat_cmp_total) (u ∷ []) text o.tables.dictionary)
    ∙ some_by (is_eq (slice_cmp nat_cmp text used)) (joined known how is_plural) known is

word_comes : (used : Text) (how : WordUse) (is_plural : Bool) (o : Out)
    → is_some (word_of used (with_use used how is_plural o.tables.dictionary).list) ≡ true
word_comes used how is_plural o =
    let u : UseOf = record { text = used; how = how; is_plural = is_plural } in
    let known = word_of used o.tables.dictionary.list in
    ap is_some (known_by_all (lists_total nat_cmp_total) (u ∷ []) used o.tables.dictionary)
    ∙ ap (λ b. is_some (if b then Some (joined known how is_plural) else known)) (same_text used)
  where
    itself : (o : Ordering) → o ≡ ordering_reverse o → is_eq o ≡ true
    itself Less e = cc
    itself Equal e = refl
    itself Greater e = cc

    same_text : (text : Text) → is_eq (slice_cmp nat_cmp text text) ≡ true
    same_text text = itself (slice_cmp nat_cmp text text) ((lists_total nat_cmp_total).antisymm text text)

or_parts_true : (a b : Bool) → (a || b) ≡ true → (a ≡ true) ⊎ (b ≡ true)
or_parts_true true b e = inl refl
or_parts_true false b e = inr e

word_added : (limits : Limits) (f : Option AddFault) (used : Text) (how : WordUse) (is_plural : Bool) (text : Text) (o : Out) →
    Stands text o
    → Stands text (with_word_by limits f used how is_plural o)
word_added limits None used how is_plural text o stands = go (or_parts_true (has_word text o) (is_limited o) stands)
  where
    go : (has_word text o ≡ true) ⊎ (is_limited o ≡ true) → Stands text (with_word_by limits None used how is_plural o)
    go (inl has) = ap (λ b. b || is_limited o) (word_stays text used how is_plural o has)
    go (inr is) = ap (λ b. is_some (word_of text (with_use used how is_plural o.tables.dictionary).list) || b) is
        ∙ or-true (is_some (word_of text (with_use used how is_plural o.tables.dictionary).list))
word_added limits (Some AddFault.Full) used how is_plural text o stands = limit_stands limits Setting.DictionaryEntries text o
word_added limits (Some AddFault.OtherVerb) used how is_plural text o stands = stands
word_added limits (Some AddFault.Memory) used how is_plural text o stands = stands

-- a word of another verb is there
of_verb : (word : Option Word) (how : WordUse) → is_of_other_verb word how ≡ true → is_some word ≡ true
of_verb None how e = e
of_verb (Some word) how e = refl

pub used_words_stand : (limits : Limits) → UsedWordsStand limits
used_words_stand limits used how is_plural o =
    go (is_of_other_verb word how) refl (is_none word && nat_le (limits Setting.DictionaryEntries) count)
  where
    word : Option Word
    word = word_of used o.tables.dictionary.list

    count : ℕ
    count = length o.tables.dictionary.list

    go : (other : Bool) → is_of_other_verb word how ≡ other → (full : Bool)
        → Stands used (with_word_by limits (if other then Some AddFault.OtherVerb else if full then Some AddFault.Full else None) used how
        is_plural o)
    go true e full = ap (λ b. b || is_limited o) (of_verb word how e)
    go false e true = limit_stands limits Setting.DictionaryEntries used o
    go false e false = ap (λ b. b || is_limited o) (word_comes used how is_plural o)

pub steps_keep_words : (limits : Limits) → StepsKeepWords limits
steps_keep_words limits = record {
  item = keeps_item limits;
  opening = λ locals is_lost.
      record { keeps = λ text o stands. opened_stands limits (full_opened limits is_lost o.code) locals is_lost text o stands };
  closing = λ kind. record {
    keeps = λ text o stands. left_stands limits (past_of limits o).labels text (code_closed limits kind o)
        (closed_stands limits (fault_closed limits kind o.code) kind text o stands);
  };
  beginning = record { keeps = λ text o stands. begun_stands limits (full_begun limits o.code) text o stands };
  text = λ bytes. record { keeps = λ text o stands. text_stands limits (fits limits bytes o.strings) bytes text o stands };
  low_text = λ bytes.
      record { keeps = λ text o stands. low_text_stands limits (low_fits limits bytes o.tables.low_strings) bytes text o stands };
  word = λ used how is_plural. record {
    keeps = λ text o stands.
        word_added limits (add_fault limits (word_of used o.tables.dictionary.list) how o.tables.dictionary) used how is_plural
        text o stands;
  };
  declaring = λ name place m.
      record { keeps = λ text o stands. declared_stands limits (declare_fault limits name o.names) name place m text o stands };
  refers =
      λ name place. record { keeps = λ text o stands. referred_stands limits (refer_fault limits name o.names) name place text o stands };
  limit = λ limit. record { keeps = λ text o stands. limit_stands limits limit text o };
  both = λ first second one other.
      record { keeps = λ text o stands. other.keeps text (first o) (one.keeps text o stands) };
  labelled = λ body each.
      record { keeps = λ text o stands. (each (next_label o)).keeps text (record o { next = behind o.next }) stands };
}

-- A limit that was passed is told.

told : (past : Past) (refs : ℕ) → is_some past.tables ≡ true → full_past (counted refs past) ≡ None → ⊥
told past refs is none = symbols past.symbols past.tables past.labels is none
  where
    others : Option Setting
    others = full_of past.code Setting.Code (if past.strings then Some Setting.Strings else
        full_of (less past.refs refs) Setting.References None)

    labels : (o : Option ℕ) (t : Option Setting) → is_some t ≡ true → full_of o Setting.Labels (or_full t others) ≡ None → ⊥
    labels None t is none = cc
    labels (Some rest) (Some limit) is none = cc
    labels (Some rest) None is none = cc

    symbols : (s : Bool) (t : Option Setting) (l : Option ℕ) → is_some t ≡ true
        → (if s then Some Setting.Symbols else full_of l Setting.Labels (or_full t others)) ≡ None → ⊥
    symbols true t l is none = cc
    symbols false t l is none = labels l t is none

pub standing_are_there : (limits : Limits) → StandingAreThere limits
standing_are_there limits text o stands none = go (or_parts_true (has_word text o) (is_limited o) stands)
  where
    limited : (past : Option Past) → is_limited_by past ≡ true →
        full_past (counted (references o.tables) (past_by limits past o.code)) ≡ None
        → has_word text o ≡ true
    limited None is none = cc
    limited (Some p) is none = absurd (told p (references o.tables) is none)

    go : (has_word text o ≡ true) ⊎ (is_limited o ≡ true) → has_word text o ≡ true
    go (inl has) = has
    go (inr is) = limited o.past is none
