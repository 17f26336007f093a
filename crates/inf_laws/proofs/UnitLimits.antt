-- Units that end without a fatal message keep labels, code and references within their settings.
use Rattle.std.proofs.Common.{◌≡◌, ◌∙◌, ◌+◌, ◌-◌, ◌≤◌, ℕ, cond, ltb, Bool, true, false, Option, Some}
use Rattle.std.proofs.Common.{None, refl, sym, arith}
use Rattle.std.proofs.{Math.Nat.max-le, Math.Nat.min-le_left, lemmas.Bool.ltb-false}
use Rattle.inf_code.specs.Code.{Routines, bytes_of_code, labels, reference_count, references_open, rest, rest_behind}
use Rattle.inf_compilation.specs.{Context.Context, Findings.Findings, Findings.told_as}
use Rattle.inf_compilation.specs.Actions.{Compilation, begun_at, unit_ended}
use Rattle.inf_output.specs.Output.{Out, begun, counted, full, full_of, full_past, less, past_by, whole}
use Rattle.inf_output.specs.declared.past.Past.{Past}
use Rattle.inf_report.specs.Reports.{Counts, with_fatal as fatal_counted}
use Rattle.inf_scanner.specs.declared.tokens.Place.{Place}
use Rattle.inf_settings.specs.{Bounds.Limits, declared.setting.Setting.Setting}
use Rattle.inf_tables.specs.Tables.{AllTables, more, references}
use Rattle.inf_unit.specs.{Messages.FileNames, Messages.Reported, Messages.with_fault, Messages.with_full}
use Rattle.inf_laws.specs.UnitLimits.{IsWithin, KeepsWithin, StopsForALimit, UnitsKeepWithin}

-- Lemmas about messages

fatal_is_over : (c : Counts) → (fatal_counted c).is_over ≡ true
fatal_is_over c = go c.is_over refl
  where
    go : (b : Bool) → c.is_over ≡ b → (cond b c (record c { is_over = true })).is_over ≡ true
    go true e = e
    go false e = refl

-- no limit was passed where no fatal message tells it
none_told : (files : FileNames) (first : Place) (f : Option Setting) (r : Reported) → (with_full files first f r).counts.is_over ≡ false
    → f ≡ None
none_told files first None r goes = refl
none_told files first (Some s) r goes = let never : true ≡ false = sym (fatal_is_over r.counts) ∙ goes in cc

-- Lemmas about limits

rest_fits : (limit used : ℕ) (s : Setting) (others : Option Setting) → full_of (rest limit used) s others ≡ None
    → (used ≤ limit) × (others ≡ None)
rest_fits limit used s others = go (ltb limit used) refl
  where
    go : (b : Bool) → ltb limit used ≡ b → full_of (cond b None (Some (limit - used))) s others ≡ None → (used ≤ limit) × (others ≡ None)
    go true e free = cc
    go false e free = (ltb-false limit used e, free)

less_fits : (left more : ℕ) (s : Setting) → full_of (less (Some left) more) s None ≡ None → more ≤ left
less_fits left more s free = (rest_fits left more s None free).0

open_fits : (left in_open tables : ℕ) (s : Setting) → full_of (less (rest left in_open) tables) s None ≡ None → in_open + tables ≤ left
open_fits left in_open tables s = go (ltb left in_open) refl
  where
    go : (b : Bool) → ltb left in_open ≡ b → full_of (less (cond b None (Some (left - in_open))) tables) s None ≡ None → in_open + tables ≤ left
    go true e free = cc
    go false e free = omega (arith, ltb-false left in_open e, less_fits (left - in_open) tables s free)

references_fit : (limit count in_open tables : ℕ) (s : Setting) → full_of (less (rest_behind (rest limit count) in_open) tables) s None ≡ None
    → count + in_open + tables ≤ limit
references_fit limit count in_open tables s = go (ltb limit count) refl
  where
    go : (b : Bool) → ltb limit count ≡ b → full_of (less (rest_behind (cond b None (Some (limit - count))) in_open) tables) s None ≡ None
        → count + in_open + tables ≤ limit
    go true e free = cc
    go false e free = omega (arith, ltb-false limit count e, open_fits (limit - count) in_open tables s free)

more_within : (a b limit : ℕ) → a + b ≤ limit → more a b ≤ limit
unfolding more
more_within a b limit few = omega (arith, few, min-le_left (a + b) 18446744073709551615)

-- the limits of an output of which all was laid
whole_fits : (limits : Limits) (code : Routines) (tables : AllTables) → full_past (counted (references tables) (whole limits code)) ≡ None
    → (labels code ≤ limits Setting.Labels) × ((bytes_of_code code ≤ limits Setting.Code)
    × (reference_count code + references_open code.opened + references tables ≤ limits Setting.References))
whole_fits limits code tables free =
    let refs = full_of (less (rest_behind (rest (limits Setting.References) (reference_count code)) (references_open code.opened))
    (references tables)) Setting.References None in
    let first = rest_fits (limits Setting.Labels) (labels code) Setting.Labels
    (full_of (rest (limits Setting.Code) (bytes_of_code code)) Setting.Code refs) free in
    let second = rest_fits (limits Setting.Code) (bytes_of_code code) Setting.Code refs first.1 in
    let third =
    references_fit (limits Setting.References) (reference_count code) (references_open code.opened) (references tables) Setting.References
    second.1 in
    (first.0, (second.0, third))

-- a limit that was passed stays passed where references of tables are counted
none_by : (symbols : Bool) (labels : Option ℕ) (tables : Option Setting) (code : Option ℕ) (strings : Bool) (refs : Option ℕ) (n : ℕ)
    → full_past (counted n (record {
      symbols = symbols;
      labels = labels;
      tables = tables;
      code = code;
      strings = strings;
      refs = refs;
    })) ≡ None
    → full_past (record { symbols = symbols; labels = labels; tables = tables; code = code; strings = strings; refs = refs }) ≡ None
none_by true labels tables code strings refs n free = free
none_by false None tables code strings refs n free = free
none_by false (Some l) (Some t) code strings refs n free = free
none_by false (Some l) None None strings refs n free = free
none_by false (Some l) None (Some c) true refs n free = free
none_by false (Some l) None (Some c) false None n free = free
none_by false (Some l) None (Some c) false (Some r) n free = refl

none_passed : (n : ℕ) (past : Past) → full_past (counted n past) ≡ None → full_past past ≡ None
none_passed n past free = none_by past.symbols past.labels past.tables past.code past.strings past.refs n free

within_by : (limits : Limits) (o : Out) (past : Option Past) → o.past ≡ past → StopsForALimit o
    → full_past (counted (references o.tables) (past_by limits past o.code)) ≡ None → IsWithin limits o
within_by limits o (Some past) is stops free = absurd (stops past is (none_passed (references o.tables) past free))
within_by limits o None is stops free =
    let fits = whole_fits limits o.code o.tables free in
    record {
      few_labels = fits.0;
      few_bytes = fits.1.0;
      few_references = more_within (reference_count o.code) (references o.tables) (limits Setting.References) (omega (arith, fits.1.1));
      few_with_open = fits.1.1;
    }

full_within : (limits : Limits) (o : Out) → StopsForALimit o → full limits o ≡ None → IsWithin limits o
full_within limits o stops free = within_by limits o o.past refl stops free

-- Lemmas about units

unit_keeps : (limits : Limits) (context : Context) (first : Place) (has_last : Bool) (found : Findings) (w : Compilation)
    → StopsForALimit w.output → KeepsWithin limits w (unit_ended limits context first has_last found w)
unit_keeps limits context first has_last found w stops =
    let free : (unit_ended limits context first has_last found w).report.counts.is_over ≡ false → full limits w.output ≡ None =
    λ goes. none_told context.names first (full limits w.output)
    (with_fault context.names first (told_as context.names w.unit.tokens first found) w.report) goes in
    record {
      within = λ goes. full_within limits w.output stops (free goes);
      most_labels = λ goes few. max-le few (full_within limits w.output stops (free goes)).few_labels;
    }

conditional_keeps : (limits : Limits) (files : FileNames) (first : Place) (w : Compilation) → StopsForALimit (begun limits w.output)
    → KeepsWithin limits w (begun_at limits files first w)
conditional_keeps limits files first w stops =
    let free : (begun_at limits files first w).report.counts.is_over ≡ false → full limits (begun limits w.output) ≡ None =
    λ goes. none_told files first (full limits (begun limits w.output)) w.report goes in
    record {
      within = λ goes. full_within limits (begun limits w.output) stops (free goes);
      most_labels = λ goes few. max-le few (full_within limits (begun limits w.output) stops (free goes)).few_labels;
    }

pub units_keep_within : (limits : Limits) → UnitsKeepWithin limits
units_keep_within limits = record { unit = unit_keeps limits; conditional = conditional_keeps limits }
