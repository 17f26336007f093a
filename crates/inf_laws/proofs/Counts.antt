-- The references and the bytes of the areas of a story.
use Rattle.std.proofs.Common.{◌≡◌, ◌∙◌, ◌+◌, ◌-◌, ◌≤◌, ℕ, zero, suc, List, [], ◌∷◌, ◌++◌, cond, length, ltb, map, Bool, true, false, Option}
use Rattle.std.proofs.Common.{Some, None, refl, sym, ap, subst, arith, sum_by}
use Rattle.std.proofs.{Math.Nat.min-eq_left, lemmas.List.Sums.sum_by-cons}
use Rattle.std.proofs.lemmas.Bool.{le-ltb, lt-ltb, ltb-false, ltb-true}
use Rattle.inf_area.specs.{Cells.later_count, Cells.size_of, declared.targets.AreaName.AreaName, declared.targets.Target.Target}
use Rattle.inf_arrays.specs.{Arrays.all_of, Arrays.arrays_laters, Kinds.laters}
use Rattle.inf_arrays.proofs.Sizes.{globals_later, laters_written as arrays_written}
use Rattle.inf_code.specs.Code.{Routines, code_cells, known, rest, rest_behind}
use Rattle.inf_dictionary.specs.Words.{dictionary_bytes}
use Rattle.inf_link.specs.Areas.{order}
use Rattle.inf_objects.specs.{Objects.ended, Objects.head_fixups, Objects.object_fixups, declared.objects.Object.Object}
use Rattle.inf_area.proofs.Joining.{later_count-append}
use Rattle.inf_output.specs.Output.{Out, counted, full, full_of, full_past, less, or_full, past_by, whole}
use Rattle.inf_properties.specs.{declared.sizes.Owner.Owner, declared.values.Property.Property}
use Rattle.inf_properties.specs.Sizes.{bytes_of, fixups_of, size_of as property_size, total, with_table}
use Rattle.inf_settings.specs.{Bounds.Limits, declared.setting.Setting.Setting}
use Rattle.inf_story.specs.Tables as story
use Rattle.inf_tables.specs.{Areas.area_cells, Tables.AllTables, Tables.more, Tables.references, declared.kinds.WorldArea.WorldArea}
use Rattle.inf_tables.specs.World.{WorldOf, ended_fixups, fixups_now, later_defaults}
use Rattle.inf_verbs.specs.Verbs.{verbs_laters}
use Rattle.inf_verbs.proofs.Sizes.{later_routines, laters_written as verbs_written}
use Rattle.inf_laws.specs.Counts.{IsFinished, LimitsCountTheStory, areas_of, first_passed, later_in}

-- bytes alone have no references
later_known : (bytes : List ℕ) → later_count (known bytes) ≡ 0
later_known [] = refl
later_known (byte ∷ bytes) = later_known bytes

-- an abbreviation that is declared is known later, and no other
later_undeclared : (n : ℕ) → later_count (story.undeclared n) ≡ 0
later_undeclared zero = refl
later_undeclared (suc n) = later_undeclared n

later_declared : (places : List ℕ) → later_count (map story.declared_at places) ≡ length places
later_declared [] = refl
later_declared (place ∷ places) = omega (arith, later_declared places)

later_abbreviations : (places : List ℕ) → later_count (story.abbreviations places) ≡ length places
unfolding story.abbreviations
later_abbreviations places =
    let front = story.undeclared 32 in
    let declared = map story.declared_at places in
    let rest = story.undeclared (64 - length places) in
    omega (
      arith,
      later_count-append (front ++ declared) rest,
      later_count-append front declared,
      later_undeclared 32,
      later_declared places,
      later_undeclared (64 - length places),
    )

-- properties that belong to nothing have no references
nothing_sum : (f : Property → ℕ) (ps : List Property) → ((p : Property) → f p ≡ 0) → sum_by f ps ≡ 0
nothing_sum f [] none = refl
nothing_sum f (p ∷ ps) none = omega (arith, sum_by-cons f p ps, none p, nothing_sum f ps none)

nothing_later : (ps : List Property) → head_fixups Owner.Nothing + (with_table (total Owner.Nothing ps)).fixups ≡ 0
nothing_later ps =
    let none : (with_table (total Owner.Nothing ps)).fixups ≡ 0 =
    ap (λ n. (with_table (record { bytes = bytes_of Owner.Nothing ps; fixups = fixups_of Owner.Nothing ps; individuals = n })).fixups)
    (nothing_sum (λ p. (property_size Owner.Nothing p).individuals) ps (λ p. refl))
    ∙ nothing_sum (λ p. (property_size Owner.Nothing p).fixups) ps (λ p. refl) in
    omega (arith, none)

none_open : (o : Object) → o.owner ≡ Owner.Nothing → object_fixups o ≡ 0
none_open o e = ap (λ (w : Owner). head_fixups w + (with_table (total w o.properties)).fixups) e ∙ nothing_later o.properties

-- counts that stay below the greatest number are added
added : (a b : ℕ) → a + b ≤ 18446744073709551615 → more a b ≡ a + b
unfolding more
added a b few = min-eq_left few

tables_added : (w g a v r p b : ℕ) → w + (g + (a + (v + (r + (p + b))))) ≤ 18446744073709551615
    → more (more (more w g) a) (more (more v (more r p)) b) ≡ w + (g + (a + (v + (r + (p + b)))))
tables_added w g a v r p b few = ap (λ x. more (more x a) (more (more v (more r p)) b)) (added w g (omega (arith, few)))
    ∙ ap (λ x. more x (more (more v (more r p)) b)) (added (w + g) a (omega (arith, few)))
    ∙ ap (λ x. more (w + g + a) (more (more v x) b)) (added r p (omega (arith, few)))
    ∙ ap (λ x. more (w + g + a) (more x b)) (added v (r + p) (omega (arith, few)))
    ∙ ap (λ x. more (w + g + a) x) (added (v + (r + p)) b (omega (arith, few)))
    ∙ added (w + g + a) (v + (r + p) + b) (omega (arith, few))
    ∙ omega arith

-- Lemmas about limits

none_used : (limit : ℕ) (s : Setting) (others : Option Setting) → full_of (rest limit 0) s others ≡ others
none_used limit s others = ap (λ b. full_of (cond b None (Some (limit - 0))) s others) (le-ltb limit 0 (omega arith))

some_used : (limit used : ℕ) (s : Setting) (others : Option Setting) → full_of (rest limit used) s others ≡ cond (ltb limit used) (Some s) others
some_used limit used s others = go (ltb limit used)
  where
    go : (b : Bool) → full_of (cond b None (Some (limit - used))) s others ≡ cond b (Some s) others
    go true = refl
    go false = refl

-- two counts that are looked at one behind the other are one
both_used : (limit count others : ℕ) (s : Setting)
    → full_of (less (rest_behind (rest limit count) 0) others) s None ≡ cond (ltb limit (count + others)) (Some s) None
both_used limit count others s = go (ltb limit count) refl
  where
    left : (b : Bool) → ltb (limit - count - 0) others ≡ b → count ≤ limit
        → full_of (cond b None (Some (limit - count - 0 - others))) s None ≡ cond (ltb limit (count + others)) (Some s) None
    left true e fits = ap (λ b. cond b (Some s) None)
        (sym (lt-ltb limit (count + others) (omega (arith, ltb-true (limit - count - 0) others e, fits))))
    left false e fits = ap (λ b. cond b (Some s) None)
        (sym (le-ltb limit (count + others) (omega (arith, ltb-false (limit - count - 0) others e, fits))))

    go : (b : Bool) → ltb limit count ≡ b → full_of (less (rest_behind (cond b None (Some (limit - count))) 0) others) s None
        ≡ cond (ltb limit (count + others)) (Some s) None
    go true e = ap (λ b. cond b (Some s) None) (sym (lt-ltb limit (count + others) (omega (arith, ltb-true limit count e))))
    go false e = ap (λ b. full_of (less (cond b None (Some (limit - count - 0))) others) s None) (le-ltb (limit - count) 0 (omega arith))
        ∙ left (ltb (limit - count - 0) others) refl (ltb-false limit count e)

-- the limits of an output that is finished
abbrev finished_code : Routines → Routines
finished_code code = record code { has_begun = true; opened = None }

full_at : (limits : Limits) (code : Routines) (refs : ℕ) → full_past (counted refs (whole limits (finished_code code)))
    ≡ first_passed limits (8 + size_of code.finished) (5 + later_count code.finished + refs)
full_at limits code refs = none_used (limits Setting.Labels) Setting.Labels
    (or_full None (full_of (rest (limits Setting.Code) (8 + size_of code.finished)) Setting.Code
    (full_of (less (rest_behind (rest (limits Setting.References) (5 + later_count code.finished)) 0) refs) Setting.References None)))
    ∙ some_used (limits Setting.Code) (8 + size_of code.finished) Setting.Code
    (full_of (less (rest_behind (rest (limits Setting.References) (5 + later_count code.finished)) 0) refs) Setting.References None)
    ∙ ap (cond (ltb (limits Setting.Code) (8 + size_of code.finished)) (Some Setting.Code))
    (both_used (limits Setting.References) (5 + later_count code.finished) refs Setting.References)

full_finished : (limits : Limits) (o : Out) → IsFinished o
    → full limits o ≡ first_passed limits (8 + size_of o.code.finished) (5 + later_count o.code.finished + references o.tables)
full_finished limits o is = ap (λ past. full_past (counted (references o.tables) (past_by limits past o.code))) is.unpassed
    ∙ ap (λ begun. full_past (counted (references o.tables) (whole limits (record o.code { has_begun = begun })))) is.begun
    ∙ ap (λ opened. full_past (counted (references o.tables) (whole limits (record o.code { has_begun = true; opened = opened })))) is.closed
    ∙ full_at limits o.code (references o.tables)

-- the references of the areas of a world are counted
abbrev pub Counted : WorldOf → Type 0
Counted w = later_count (area_cells WorldArea.PropertyDefaults w) + later_count (area_cells WorldArea.Objects w)
    + later_count (area_cells WorldArea.PropertyTables w) + later_count (area_cells WorldArea.ClassNumbers w)
    + later_count (area_cells WorldArea.IndividualTables w) ≡ ended_fixups w.objects + later_defaults w.declared

-- The references of the tables, with those of the code, are those of all areas.
references_are : (o : Out) (main : ℕ) → Counted o.tables.world → IsFinished o → later_in order (areas_of main o) ≤ 18446744073709551615
    → 5 + later_count o.code.finished + references o.tables ≡ later_in order (areas_of main o)
references_are o main of_world is few =
    let finished = o.code.finished in
    let tables = o.tables in
    let world = tables.world in
    let of_code : later_count (code_cells (Target.Place AreaName.Code main) finished) ≡ 1 + later_count finished = refl in
    let none : object_fixups (ended world.body) ≡ 0 = none_open (ended world.body) is.unowned in
    let in_world : fixups_now world - 4 ≡ sum_by object_fixups world.objects + later_defaults world.declared = omega (arith, none) in
    let all : 5 + later_count finished + ((fixups_now world - 4) + (laters tables.globals + (arrays_laters (all_of tables.arrays)
    + (verbs_laters tables.verbs.list + (length tables.actions.routines + (length tables.parsing
    + length tables.low_strings.abbreviations)))))) ≡ later_in order (areas_of main o) = omega (
      arith,
      later_known (story.three_spaces ++ tables.low_strings.bytes),
      later_abbreviations tables.low_strings.abbreviations,
      of_world,
      in_world,
      globals_later tables.globals,
      arrays_written (all_of tables.arrays),
      verbs_written tables.verbs.list,
      later_routines tables.actions.routines,
      later_routines tables.parsing,
      later_known (dictionary_bytes tables.dictionary.list),
      of_code,
      later_known o.strings.bytes,
    ) in
    let sum =
    tables_added (fixups_now world - 4) (laters tables.globals) (arrays_laters (all_of tables.arrays)) (verbs_laters tables.verbs.list)
    (length tables.actions.routines) (length tables.parsing) (length tables.low_strings.abbreviations) (omega (arith, few, all)) in
    ap (λ n. 5 + later_count finished + n) sum ∙ all

pub limits_count_the_story : (tables : AllTables) → Counted tables.world → LimitsCountTheStory tables
limits_count_the_story tables of_world limits o main same is few =
    let of_size : size_of (areas_of main o).code ≡ 8 + size_of o.code.finished = omega arith in
    full_finished limits o is
    ∙ ap (λ bytes. first_passed limits bytes (5 + later_count o.code.finished + references o.tables)) (sym of_size)
    ∙ ap (first_passed limits (size_of (areas_of main o).code))
    (references_are o main (subst (λ (t : AllTables). Counted t.world) (sym same) of_world) is few)
