-- Entries, one by one, are those of the description.
use Rattle.std.proofs.Common.{◌≡◌, ℕ, ◌&&◌, not, List, [], ◌∷◌, ◌++◌, append_assoc, append-nil, map, Option, Some, None, Bool, true, false}
use Rattle.std.proofs.Common.{cond, refl, sym, ap, subst, ◌∙◌}
use Rattle.inf_settings.specs.Bounds.{Limits, unbounded}
use Rattle.inf_area.specs.declared.targets.Value.{Value}
use Rattle.inf_characters.specs.declared.texts.TextItem.{TextItem}
use Rattle.inf_names.specs.{Symbols.found_in, declared.meanings.Meaning.Meaning}
use Rattle.inf_output.specs.Output.{Out}
use Rattle.inf_operands.specs.Texts.{text_at}
use Rattle.inf_arrays.specs.Arrays.{Adding, AllArrays, Characters, One, added_fault, all_of, arrays_size, characters, open_fault, opened}
use Rattle.inf_arrays.specs.Arrays.{values_in, with_entries}
use Rattle.inf_arrays.specs.declared.kinds.ArrayKind.{ArrayKind}
use Rattle.inf_unit.specs.{Units.first_place, Units.name_order}
use Rattle.inf_compilation.specs.{Actions.Compilation, Actions.settled_of, Actions.unit_ended, Context.Context, Findings.nothing_found}
use Rattle.inf_named_values.specs.{Declarations.name_declared, Declarations.plainly_known, Values.value_of}
use Rattle.inf_declarations.specs.Arrays.{added, adding, array_opened_by, bare_text, codes_of, entry_added, entry_added_by, entry_ended}
use Rattle.inf_declarations.specs.Arrays.{entry_with, is_alone, kind_in, listed, lost_added, one_more, story_added, text_added, with_arrays}
use Rattle.inf_declaration_laws.specs.ArrayLaws.{EntriesAgree, Entry, Follow, HeadersOpen, IsRight, SaysItem, adding_of, all_ended, ended}
use Rattle.inf_declaration_laws.specs.ArrayLaws.{is_last, with_open}
use Rattle.inf_declaration_laws.specs.Arrays.{Item, Later, Number, Text, alone, value}
use Rattle.inf_declaration_laws.proofs.{Names.declared_tables, Names.found_declared, Staying.settled_stays}

characters_are : (t : List ℕ) → characters t ≡ map Value.Known t
characters_are [] = refl
characters_are (c ∷ t) = ap (λ l. Value.Known c ∷ l) (characters_are t)

alone_is : (item : Item) → values_in (adding_of true item) ≡ alone item
alone_is (Number n) = refl
alone_is (Text t v) = characters_are t
alone_is (Later t) = refl

module _ (limits : Limits) (context : Context) where
  -- the work behind an entry: one more, with what it adds to the arrays
  record Adds (a : Adding) (w u : Compilation) : Type 0 where
    output : Out
    is : u ≡ record (one_more w) { output = output }
    arrays : output.tables.arrays ≡ with_entries (values_in a) w.output.tables.arrays

  -- something is added to an output that has the arrays of the work
  added_is : (a : Adding) (w : Compilation) (o : Out) → w.listing.is_lost ≡ false → o.tables.arrays ≡ w.output.tables.arrays
      → added_fault limits a w.output.tables.arrays ≡ None → Adds a w (added limits a (record (one_more w) { output = o }))
  added_is a w o lost stays fits =
      let v = record (one_more w) { output = o } in record {
        output = story_added limits None a o;
        is = ap (λ b. cond b (record v {
          lost = lost_added (added_fault unbounded a v.lost) a v.lost;
        }) (record v { output = story_added limits (added_fault limits a o.tables.arrays) a o })) lost
            ∙ ap (λ f. record v { output = story_added limits f a o }) (ap (added_fault limits a) stays ∙ fits);
        arrays = ap (with_entries (values_in a)) stays;
      }

  abbrev settled_output : Compilation → Out
  settled_output w = (settled_of limits context w).out

  settled_arrays : (w : Compilation) → (settled_output w).tables.arrays ≡ w.output.tables.arrays
  settled_arrays w =
      settled_stays limits context.set w.locals w.unit.tokens w.unit.gathering.leaves (record { out = w.output; operands = [] })

  -- an entry that is a value by itself or among others
  value_is : (b : Bool) (a : Adding) (w : Compilation) (v : Value) → w.listing.is_lost ≡ false → bare_text b w ≡ None
      → value_of limits context w ≡ v → adding b v ≡ a → added_fault limits a w.output.tables.arrays ≡ None
      → Adds a w (entry_added limits context b (one_more w))
  value_is b a w v lost bare valued adds fits = subst (λ u. Adds a w u) (sym (ap (λ t. entry_added_by limits context t b (one_more w)) bare
      ∙ ap (λ x. added limits (adding b x) (record (one_more w) { output = settled_output w })) valued
      ∙ ap (λ x. added limits x (record (one_more w) { output = settled_output w })) adds))
      (added_is a w (settled_output w) lost (settled_arrays w) fits)

  text_is : (at : ℕ) (items : List TextItem) (t : List ℕ) (w : Compilation) → w.listing.is_lost ≡ false → bare_text true w ≡ Some at
      → text_at context.set w.unit.tokens at ≡ Some items → codes_of items ≡ t
      → added_fault limits (Characters t) w.output.tables.arrays ≡ None
      → Adds (Characters t) w (entry_added limits context true (one_more w))
  text_is at items t w lost bare text codes fits =
      subst (λ u. Adds (Characters t) w u) (sym (ap (λ x. entry_added_by limits context x true (one_more w)) bare
      ∙ ap (λ x. text_added limits x (one_more w)) text
      ∙ ap (λ c. added limits (Characters c) (one_more w)) codes))
      (added_is (Characters t) w w.output lost refl fits)

  item_is : (item : Item) (b : Bool) (w : Compilation) → w.listing.is_lost ≡ false → SaysItem limits context item w
      → added_fault limits (adding_of b item) w.output.tables.arrays ≡ None
      → Adds (adding_of b item) w (entry_added limits context b (one_more w))
  item_is (Number n) true w lost says fits = value_is true _ w (Value.Known n) lost says.0 says.1 refl fits
  item_is (Text t v) true w lost says fits = text_is says.0.at says.0.items t w lost says.0.bare says.0.text says.0.codes fits
  item_is (Later t) true w lost says fits = value_is true _ w (Value.Later t) lost says.0 says.1 refl fits
  item_is (Number n) false w lost says fits = value_is false _ w (Value.Known n) lost refl says.1 refl fits
  item_is (Text t v) false w lost says fits = value_is false _ w v lost refl says.1 refl fits
  item_is (Later t) false w lost says fits = value_is false _ w (Value.Later t) lost refl says.1 refl fits

  -- Lemmas about what is listed behind an entry, and the arrays

  record Goes (has : Bool) (values : List Value) (arrays : AllArrays) (u : Compilation) : Type 0 where
    lost : u.listing.is_lost ≡ false
    has_entries : u.listing.has_entries ≡ has
    arrays_are : u.output.tables.arrays ≡ with_entries values arrays

  entry_goes : (e : Entry) (last b : Bool) → is_alone last e.work ≡ b → e.work.listing.is_lost ≡ false → IsRight limits context last e
      → Goes true (values_in (adding_of b e.item)) e.work.output.tables.arrays
      (entry_ended limits context e.place last e.work)
  entry_goes e last b is lost right =
      let w = e.work in
      let first = first_place w.unit.tokens e.place in
      let adds = item_is e.item b w lost right.says
      (ap (λ b. added_fault limits (adding_of b e.item) w.output.tables.arrays) (sym is) ∙ right.fits) in
      let ends : entry_ended limits context e.place last w
      ≡ unit_ended limits context first false nothing_found (record (one_more w) { output = adds.output }) =
      ap (λ f. entry_with limits context first (is_alone last w) f (one_more w)) right.untold
      ∙ ap (λ b. unit_ended limits context first false nothing_found (entry_added limits context b (one_more w))) is
      ∙ ap (unit_ended limits context first false nothing_found) adds.is in
      subst (λ u. Goes true (values_in (adding_of b e.item)) w.output.tables.arrays u) (sym ends)
      (record { lost = lost; has_entries = refl; arrays_are = adds.arrays })

  and_false : (b : Bool) → (b && false) ≡ false
  and_false true = refl
  and_false false = refl

  -- entries behind others
  more_go : (all : List Entry) (kind : ArrayKind) (before : AllArrays) (us : List Value) (w : Compilation) → w.listing.is_lost ≡ false
      → w.listing.has_entries ≡ true → w.output.tables.arrays ≡ with_open kind us before → Follow limits context w all
      → (all_ended limits context w all).output.tables.arrays ≡ with_open kind (us ++ map value (map (λ e. e.item) all)) before
  more_go [] kind before us w lost has are f = are ∙ ap (λ l. with_open kind l before) (sym (append-nil us))
  more_go (e ∷ behind) kind before us w lost has are f =
      let several : is_alone (is_last behind) e.work ≡ false =
      ap (λ l. is_last behind && not l.has_entries) f.0 ∙ ap (λ h. is_last behind && not h) has ∙ and_false (is_last behind) in
      let g = entry_goes e (is_last behind) false several (ap (λ l. l.is_lost) f.0 ∙ lost) f.2 in
      more_go behind kind before (us ++ value e.item ∷ []) (ended limits context e behind) g.lost g.has_entries
      (g.arrays_are ∙ ap (with_entries (value e.item ∷ [])) (f.1 ∙ are)) f.3
      ∙ ap (λ l. with_open kind l before) (append_assoc us (value e.item ∷ []) (map value (map (λ e. e.item) behind)))

pub entries_agree : EntriesAgree
entries_agree limits context kind before w [] listing are f = are
entries_agree limits context kind before w (e ∷ []) listing are f =
    let only : is_alone true e.work ≡ true = ap (λ l. true && not l.has_entries) (f.0 ∙ listing) in
    let g = entry_goes limits context e true true only (ap (λ l. l.is_lost) (f.0 ∙ listing)) f.2 in
    g.arrays_are ∙ ap (with_entries (values_in (adding_of true e.item))) (f.1 ∙ are)
    ∙ ap (λ l. with_open kind l before) (alone_is e.item)
entries_agree limits context kind before w (e ∷ next ∷ behind) listing are f =
    let g = entry_goes limits context e false false refl (ap (λ l. l.is_lost) (f.0 ∙ listing)) f.2 in
    more_go limits context (next ∷ behind) kind before (value e.item ∷ []) (ended limits context e (next ∷ behind)) g.lost g.has_entries
    (g.arrays_are ∙ ap (with_entries (value e.item ∷ [])) (f.1 ∙ are)) f.3

pub headers_open : HeadersOpen
headers_open limits context place n w untold fits =
    let kind = kind_in w.unit.tokens in
    let arrays = w.output.tables.arrays in
    let o = with_arrays (opened kind arrays) w.output in
    let m = Meaning.Array (arrays_size (all_of arrays)) in
    let opens : (listed limits (plainly_known n (name_order w.unit.tokens) w).finding kind n w).output ≡ name_declared limits n m o =
    ap (λ f. (listed limits f kind n w).output) untold ∙ ap (λ f. array_opened_by limits f kind n w.output) fits in
    record {
      listing = ap (λ f. (listed limits f kind n w).listing) untold;
      arrays = ap (λ o. o.tables.arrays) opens ∙ ap (λ t. t.arrays) (declared_tables limits n m o);
      name = λ free. ap (λ o. found_in n.bytes o.names) opens ∙ found_declared limits n m o free;
    }
