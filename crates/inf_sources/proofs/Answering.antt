-- The outcome of an inclusion, by the outcome of opening a file beside the open ones.
use Rattle.std.proofs.Common.{◌≡◌, ◌⊎◌, inl, inr, ℕ, suc, ◌+◌, ◌-◌, ◌<◌, ◌≤◌, List, [], ◌∷◌, ◌++◌, length, drop, reverse, cond, not, nat_le}
use Rattle.std.proofs.Common.{Bool, true, false, Option, Some, unwrap_or, Ok, refl, sym, ap, ◌∙◌, arith, length-append, slice_get}
use Rattle.std.proofs.Common.{Vec}
use Rattle.std.proofs.{lemmas.Bool.le-leb, lemmas.Bool.lt-leb, lemmas.List.length-reverse}
use Rattle.std.specs.declared.alloc.Global.{Global}
use Rattle.inf_characters.specs.declared.characters.CharSet.{CharSet}
use Rattle.inf_devices.specs.Files.{Openings, Sources}
use Rattle.inf_lexer.specs.{Entering.ClosedAgain, Entering.first_there, Entering.with_opened, Readers.Reader, Readers.at_front}
use Rattle.inf_lexer.specs.Names.{Nest, can_name, candidates, entered, innermost_name, name_at, number_of}
use Rattle.inf_sources.specs.{declared.faults.IncludeFault.IncludeFault, declared.open_file.Conditional.Conditional}
use Rattle.inf_sources.specs.{declared.open_file.OpenFile.OpenFile, declared.open_files.Included.Included}
use Rattle.inf_sources.specs.Inclusions.{Includes, Inclusion, Nesting, OpenedInVain, OpensNone, OpensTooMany, Opens, answer_of, by_first}
use Rattle.inf_sources.specs.Inclusions.{inclusion, nested_by}
use Rattle.inf_sources.specs.Open.{AllWait, IsNested, Open, Waits, files_of, lexers_of, nesting, opened_since, waiting_at, waits}
use Rattle.inf_sources.proofs.{Entered.Fits, Entered.files_more, Entered.lexers_more, Entered.waits_more, Openings.entered_nested}
use Rattle.inf_sources.proofs.{Openings.entered_nesting, Openings.opened_and_closed, Places.innermost_of, Places.waiting_length}

seam : (xs : List ℕ) (x : ℕ) → slice_get (xs ++ x ∷ []) (length xs) ≡ Some x
seam [] x = refl
seam (y ∷ xs) x = seam xs x

last_file : (xs : List ℕ) (x : ℕ) → slice_get (xs ++ x ∷ []) (length (xs ++ x ∷ []) - 1) ≡ Some x
last_file xs x =
    let last : length (xs ++ x ∷ []) - 1 ≡ length xs = omega (arith, length-append xs (x ∷ [])) in
    ap (λ n. slice_get (xs ++ x ∷ []) n) last ∙ seam xs x

files_length : (files : List OpenFile) → length (files_of (lexers_of files)) ≡ length files
files_length [] = refl
files_length (f ∷ files) = ap suc (files_length files)

-- the numbers of the open files are those of the lexers
abbrev pub IsNumbered : Open → Type 0
IsNumbered files = files.nest.open_files ≡ files_of (lexers_of files.outer) ++ files.lexer.file ∷ []

pub same_name : (files : Open) → IsNumbered files → innermost_name files.nest ≡ unwrap_or (slice_get files.nest.names files.lexer.file) []
same_name files e = ap (λ (fs : List ℕ). name_at (slice_get fs (length fs - 1)) files.nest.names) e
    ∙ ap (λ (o : Option ℕ). name_at o files.nest.names) (last_file (files_of (lexers_of files.outer)) files.lexer.file)

same_depth : (s : Sources) (start now : Openings) (files : Open) → IsNested start now files → IsNumbered files
    → length files.nest.open_files ≡ length (nesting s start now files).waiting + 1
same_depth s start now files n e =
    let at = innermost_of (length now.all) (reverse now.open_places) files.lexer (lexers_of (reverse files.outer)) n.nested in
    let waits : length (nesting s start now files).waiting ≡ length files.outer =
    ap (λ (ps : List ℕ). length (waiting_at s now.all (drop 1 ps) (reverse files.outer))) at.is
    ∙ waiting_length s now.all at.place at.rest (reverse files.outer) at.inner ∙ length-reverse files.outer in
    omega (arith, ap length e, length-append (files_of (lexers_of files.outer)) (files.lexer.file ∷ []), files_length files.outer, waits)

-- the outcome of an inclusion by its three tests
abbrev by_tests : (can deep : Bool) → Option (List ℕ) → Inclusion
by_tests can deep first = cond (not can) (OpensNone Included.NotThere) (cond deep (OpensNone Included.TooDeep) (by_first first))

tested : (s : Sources) (directories : List (List ℕ)) (text : List ℕ) (start now : Openings) (files : Open) → IsNested start now files →
    IsNumbered files → inclusion s directories text (nesting s start now files)
    ≡ by_tests (can_name text) (nat_le 16 (length files.nest.open_files))
    (first_there s (candidates directories (innermost_name files.nest) text))
tested s directories text start now files n e = ap (λ (k : ℕ). by_tests (can_name text) (nat_le 16 k)
    (first_there s (candidates directories (unwrap_or (slice_get files.nest.names files.lexer.file) []) text)))
    (sym (same_depth s start now files n e)) ∙ ap (λ (name : List ℕ). by_tests (can_name text) (nat_le 16 (length files.nest.open_files))
    (first_there s (candidates directories name text))) (sym (same_name files e))

-- Lemmas about the outcome of an inclusion

module _ (s : Sources) (directories : List (List ℕ)) (text : List ℕ) {start old : Openings} {before : Open} (n : IsNested start old before)
    (e : IsNumbered before) where
  abbrev first : Option (List ℕ)
  first = first_there s (candidates directories (innermost_name before.nest) text)

  pub unfit_is : can_name text ≡ false → inclusion s directories text (nesting s start old before) ≡ OpensNone Included.NotThere
  unfit_is unfit =
      tested s directories text start old before n e ∙ ap (λ b. by_tests b (nat_le 16 (length before.nest.open_files)) first) unfit

  pub deep_is : can_name text ≡ true → 16 ≤ length before.nest.open_files
      → inclusion s directories text (nesting s start old before) ≡ OpensNone Included.TooDeep
  deep_is fit deep =
      tested s directories text start old before n e ∙ ap (λ b. by_tests b (nat_le 16 (length before.nest.open_files)) first) fit
      ∙ ap (λ b. by_tests true b first) (le-leb 16 (length before.nest.open_files) deep)

  pub first_is : {found : Option (List ℕ)} → can_name text ≡ true → length before.nest.open_files < 16
      → first_there s (candidates directories (innermost_name before.nest) text) ≡ found
      → inclusion s directories text (nesting s start old before) ≡ by_first found
  first_is fit few there =
      tested s directories text start old before n e ∙ ap (λ b. by_tests b (nat_le 16 (length before.nest.open_files)) first) fit
      ∙ ap (λ b. by_tests true b first) (lt-leb 16 (length before.nest.open_files) few) ∙ ap (λ o. by_tests true false o) there

  -- the openings where the file was one too many
  pub opens_too_many : {new : Openings} → can_name text ≡ true → length before.nest.open_files < 16
      → ClosedAgain s before.nest.names (candidates directories (innermost_name before.nest) text) old new
      → OpensTooMany (inclusion s directories text (nesting s start old before)) (nesting s start old before) (opened_since start new)
  opens_too_many {new = new} fit few c = record {
    name = c.name;
    is_opened = first_is fit few c.is_first;
    is_too_many = c.is_too_many;
    openings_are = opened_and_closed start old new c.name n.more c.is_closed;
  }

  -- the openings where the device refused
  pub opened_in_vain : {new : Openings} → can_name text ≡ true → length before.nest.open_files < 16
      → (new ≡ old) ⊎ ClosedAgain s before.nest.names (candidates directories (innermost_name before.nest) text) old new
      → OpenedInVain IncludeFault.Device (inclusion s directories text (nesting s start old before)) (nesting s start old before)
      (opened_since start new)
  opened_in_vain fit few (inl same) = inl (ap (opened_since start) same)
  opened_in_vain fit few (inr c) = inr (opens_too_many fit few c)

-- where no file is entered, the nesting stays
pub nesting_same : (s : Sources) (start : Openings) {old new : Openings} {before after : Open} → new ≡ old → after ≡ before
    → nesting s start new after ≡ nesting s start old before
nesting_same s start {old = old} {after = after} opens same = ap (λ o. nesting s start o after) opens ∙ ap (nesting s start old) same

pub includes_none : (set : CharSet) (limit : ℕ) (s : Sources) (conditionals : List Conditional) (is_system : Bool) {i : Inclusion}
    {was now : Nesting} {why : Included} → i ≡ OpensNone why → now ≡ was → Includes set limit s conditionals is_system i was now (Ok why)
includes_none set limit s conditionals is_system {was = was} comes same =
    (sym (ap answer_of comes), same ∙ sym (ap (λ i. nested_by set limit s conditionals is_system i was) comes))

-- the open files behind a file that was entered
pub entered_is : (s : Sources) (start old new : Openings) (before : Open) (name : List ℕ) (nest : Nest) (lexer : Reader)
    (outer : List OpenFile) (conditionals : Vec Conditional Global) (is_system : Bool) → IsNested start old before
    → new ≡ with_opened name old → nest ≡ entered name before.nest → lexer ≡ at_front before.nest.set before.nest.limit
    (number_of name before.nest.names) → outer ≡ before.outer ++ waits before.lexer conditionals is_system ∷ []
    → nesting s start new (record { nest = nest; lexer = lexer; outer = outer }) ≡ nested_by before.nest.set before.nest.limit s
    (reverse conditionals.items) is_system (Opens name) (nesting s start old before)
entered_is s start old new before name nest lexer outer conditionals is_system n opens enters fronts more = rw (opens, enters, fronts, more)
    (entered_nesting s start old before name before.nest.set before.nest.limit conditionals is_system n)

pub entered_nested_of : (start old new : Openings) (before : Open) (name : List ℕ) (nest : Nest) (lexer : Reader) (outer : List OpenFile)
    (f : OpenFile) → f.lexer ≡ before.lexer → IsNested start old before
    → new ≡ with_opened name old → outer ≡ before.outer ++ f ∷ [] → IsNested start new
    (record { nest = nest; lexer = lexer; outer = outer })
entered_nested_of start old new before name nest lexer outer f waits n opens more =
    rw (opens, more) (entered_nested start old before name nest lexer f waits n)

-- the numbers and settings of the open files behind a file that was entered
pub entered_fits : (nest after : Nest) (outer new : List OpenFile) (f : OpenFile) (lexer : Reader) (name : List ℕ) →
    nest.open_files ≡ files_of (lexers_of outer) ++ f.lexer.file ∷ []
    → AllWait nest.set nest.limit (lexers_of outer) → Waits nest.set nest.limit f.lexer → new ≡ outer ++ f ∷ [] → after ≡ entered name nest
    → lexer ≡ at_front nest.set nest.limit (number_of name nest.names) → Fits after lexer (lexers_of new)
entered_fits nest after outer new f lexer name files all w e enters fronts =
    let readers : List Reader = lexers_of outer in
    let more : lexers_of new ≡ readers ++ f.lexer ∷ [] = ap lexers_of e ∙ lexers_more outer f in
    let made : Fits (entered name nest) (at_front nest.set nest.limit (number_of name nest.names)) (readers ++ f.lexer ∷ []) = (
      ap (λ fs. fs ++ number_of name nest.names ∷ []) (files ∙ sym (files_more readers f.lexer)),
      (refl, (refl, waits_more nest.set nest.limit readers f.lexer all w)),
    ) in
    rw (enters, fronts, more) made
