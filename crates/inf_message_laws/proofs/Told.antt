-- Messages are added behind the report, and steps that only add messages.
use Rattle.std.specs.Prelude.{[], if◌then◌else◌, not, ◌++◌, ◌+◌, ◌||◌, ◌∷◌, ◌≤◌}
use Rattle.std.proofs.Common.{Bool, List, None, Option, Some, ap, append-nil, append_assoc, arith, false, refl, sym, true, ℕ, ◌∙◌, ◌≡◌}
use Rattle.inf_scanner.specs.declared.tokens.Place.{Place}
use Rattle.inf_settings.specs.declared.setting.Setting.{Setting}
use Rattle.inf_assembler.specs.declared.routines.CloseFault.{CloseFault}
use Rattle.inf_names.specs.Locals.{Local}
use Rattle.inf_report.specs.{OwnWords.Words, declared.messages.Kind.Kind}
use Rattle.inf_report.specs.Messages.{BranchTooFar, ErrorText, Exceeded, FatalText, LabelMissing, Location, Message, UnusedLocal}
use Rattle.inf_report.specs.Messages.{WarningText}
use Rattle.inf_report.specs.Reports.{Counts, error_lines, fatal_lines, is_last, one_warning_more, plain_lines, warning_lines}
use Rattle.inf_report.specs.Reports.{with_error as error_counted, with_fatal as fatal_counted, with_warning as warning_counted}
use Rattle.inf_unit.specs.Messages.{Diagnostic, FileNames, Reported, location, warnings_chosen, with_error, with_fatal, with_fault}
use Rattle.inf_unit.specs.Messages.{with_full, with_plain, with_warning, with_words}
use Rattle.inf_constructs.specs.Labels.{NamedLabel, missing}
use Rattle.inf_compilation.specs.Context.{Context}
use Rattle.inf_compilation.specs.Actions.{Compilation, with_all_unused, with_branch_fault, with_fault_or, with_routine_fault, with_unused}
use Rattle.inf_step_walk.specs.Walking.{Remains}
use Rattle.inf_message_laws.specs.Growing.{GoesOn, Grows, told_before, with_lines_before}

-- Lemmas about reports that go on

pub same_report : (r s : Reported) → s ≡ r → GoesOn r s
same_report r s e = record {
  more = [];
  lines = ap (λ (x : Reported). x.lines) e ∙ sym (append-nil r.lines);
  over = λ o. ap (λ (x : Reported). x.counts.is_over) e ∙ o;
  errors = let n = ap (λ (x : Reported). x.counts.errors) e in omega (arith, n);
}

pub goes_behind : (r s t : Reported) → GoesOn r s → GoesOn s t → GoesOn r t
goes_behind r s t a b = record {
  more = a.more ++ b.more;
  lines = b.lines ∙ (ap (λ lines. lines ++ b.more) a.lines ∙ append_assoc r.lines a.more b.more);
  over = λ o. b.over (a.over o);
  errors = let p = a.errors in let q = b.errors in omega (arith, p, q);
}

-- Lemmas about changes of the report put together

-- A change of the report does not depend on its lines, leaves them unchanged before its own, and the report goes on.
pub record Adds (tell : Reported → Reported) : Type 0 where
  pub adds : (lines : List ℕ) (r : Reported) → tell (told_before lines r) ≡ told_before lines (tell r)
  pub goes_on : (r : Reported) → GoesOn r (tell r)

-- a fatal message stays
pub remains : {tell : Reported → Reported} → Adds tell → Remains tell
remains {tell} adds r free = go r.counts.is_over refl
  where
    go : (b : Bool) → r.counts.is_over ≡ b → r.counts.is_over ≡ false
    go false e = e
    go true e = let never : true ≡ false = sym ((adds.goes_on r).over e) ∙ free in absurd cc

pub nothing_adds : Adds (λ r. r)
nothing_adds = record { adds = λ lines r. refl; goes_on = λ r. same_report r r refl }

pub then_adds : (f g : Reported → Reported) → Adds f → Adds g → Adds (λ r. g (f r))
then_adds f g first second = record {
  adds = λ lines r. ap g (first.adds lines r) ∙ second.adds lines (f r);
  goes_on = λ r. goes_behind r (f r) (g (f r)) (first.goes_on r) (second.goes_on (f r));
}

-- the step of a compilation that changes the report alone
pub told_grows : (tell : Reported → Reported) → Adds tell → Grows (λ w. record w { report = tell w.report })
told_grows tell only = record { grows = λ lines w. ap (λ (r : Reported). record w { report = r }) (only.adds lines w.report) }

-- Steps whose messages grow put together

-- A value of the compilation does not depend on what was reported.
abbrev pub Stays : {A : Type 0} → (Compilation → A) → Type 0
Stays x = (lines : List ℕ) (w : Compilation) → x (with_lines_before lines w) ≡ x w

pub nothing_grows : Grows (λ w. w)
nothing_grows = record { grows = λ lines w. refl }

-- one step behind another
pub then_grows : (f g : Compilation → Compilation) → Grows f → Grows g → Grows (λ w. g (f w))
then_grows f g first second = record { grows = λ lines w. ap g (first.grows lines w) ∙ second.grows lines (f w) }

-- a step by a value that stays
pub with_grows : {A : Type 0} (x : Compilation → A) (f : A → Compilation → Compilation) → Stays x → ((a : A) → Grows (f a))
    → Grows (λ w. f (x w) w)
with_grows x f stays each = record {
  grows = λ lines w. ap (λ a. f a (with_lines_before lines w)) (stays lines w) ∙ (each (x w)).grows lines w;
}

-- Messages

-- whether warnings are told
pub chosen_adds : (has_warnings : Bool) → Adds (warnings_chosen has_warnings)
chosen_adds has_warnings = record {
  adds = λ lines r. refl;
  goes_on = λ r. record { more = []; lines = sym (append-nil r.lines); over = λ o. o; errors = omega arith };
}

-- counts behind a message: they keep that a fatal message was told, and errors are no fewer
record IsCounted (counted : Counts → Counts) : Type 0 where
  over : (c : Counts) → c.is_over ≡ true → (counted c).is_over ≡ true
  errors : (c : Counts) → c.errors ≤ (counted c).errors

error_counts : IsCounted error_counted
error_counts = record { over = λ c. over c c.is_over refl; errors = λ c. errors c c.is_over }
  where
    over : (c : Counts) (b : Bool) → c.is_over ≡ b → c.is_over ≡ true
        → (if b then c else record c { errors = c.errors + 1; is_over = is_last c }).is_over ≡ true
    over c true is e = e
    over c false is e = absurd (cc)

    errors : (c : Counts) (b : Bool) → c.errors ≤ (if b then c else record c { errors = c.errors + 1; is_over = is_last c }).errors
    errors c true = omega arith
    errors c false = omega arith

warning_counts : IsCounted warning_counted
warning_counts = record { over = λ c. over c (c.is_over || not c.has_warnings); errors = λ c. errors c (c.is_over || not c.has_warnings) }
  where
    over : (c : Counts) (b : Bool) → c.is_over ≡ true →
        (if b then c else record c { warnings = one_warning_more c.warnings }).is_over ≡ true
    over c true e = e
    over c false e = e

    errors : (c : Counts) (b : Bool) → c.errors ≤ (if b then c else record c { warnings = one_warning_more c.warnings }).errors
    errors c true = omega arith
    errors c false = omega arith

fatal_counts : IsCounted fatal_counted
fatal_counts = record { over = λ c. over c c.is_over; errors = λ c. errors c c.is_over }
  where
    over : (c : Counts) (b : Bool) → c.is_over ≡ true → (if b then c else record c { is_over = true }).is_over ≡ true
    over c true e = e
    over c false e = refl

    errors : (c : Counts) (b : Bool) → c.errors ≤ (if b then c else record c { is_over = true }).errors
    errors c true = omega arith
    errors c false = omega arith

-- lines behind those of the report, and counts, which both depend on the counts alone
abbrev with_more : (Counts → List ℕ) → (Counts → Counts) → Reported → Reported
with_more more counted r = record { lines = r.lines ++ more r.counts; counts = counted r.counts }

more_adds : (more : Counts → List ℕ) (counted : Counts → Counts) → IsCounted counted → Adds (with_more more counted)
more_adds more counted h = record {
  adds = λ lines r. ap (λ (all : List ℕ). record r { lines = all; counts = counted r.counts }) (append_assoc lines r.lines (more r.counts));
  goes_on = λ r. record { more = more r.counts; lines = refl; over = h.over r.counts; errors = h.errors r.counts };
}

-- Lemmas about the messages one by one

pub error_adds : (at unit : Location) (m : Message) → Adds (with_error at unit m)
error_adds at unit m = more_adds (error_lines at unit m) error_counted error_counts

pub warning_adds : (at : Location) (m : Message) → Adds (with_warning at m)
warning_adds at m = more_adds (warning_lines at m) warning_counted warning_counts

pub fatal_adds : (at : Location) (m : Message) → Adds (with_fatal at m)
fatal_adds at m = more_adds (fatal_lines at m) fatal_counted fatal_counts

plain_adds : (words : Words) → Adds (with_plain words)
plain_adds words = more_adds (plain_lines words) (λ c. c) (record { over = λ c e. e; errors = λ c. omega arith })

pub words_add : (at : Location) (kind : Option Kind) (words : Words) → Adds (with_words at kind words)
words_add at None words = plain_adds words
words_add at (Some Kind.Error) words = error_adds at at (ErrorText words)
words_add at (Some Kind.Warning) words = warning_adds at (WarningText words)
words_add at (Some Kind.Fatal) words = fatal_adds at (FatalText words)

pub fault_adds : (files : FileNames) (unit : Place) (blame : Option Diagnostic) → Adds (with_fault files unit blame)
fault_adds files unit None = nothing_adds
fault_adds files unit (Some b) = error_adds (location files b.place) (location files unit) b.message

pub full_adds : (files : FileNames) (unit : Place) (limit : Option Setting) → Adds (with_full files unit limit)
full_adds files unit None = nothing_adds
full_adds files unit (Some s) = fatal_adds (location files unit) (Exceeded s)

-- the messages at the end of a unit
pub end_adds : (files : FileNames) (unit : Place) (blame : Option Diagnostic) (limit : Option Setting)
    → Adds (λ r. with_full files unit limit (with_fault files unit blame r))
end_adds files unit blame limit =
    then_adds (with_fault files unit blame) (with_full files unit limit) (fault_adds files unit blame) (full_adds files unit limit)

-- Lemmas about the messages at the end of a routine

unused_by : (is_named : Bool) (at : Location) (m : Message) → Adds (λ r. if is_named then r else with_warning at m r)
unused_by true at m = nothing_adds
unused_by false at m = warning_adds at m

unused_adds : (context : Context) (place : Place) (l : Local) → Adds (with_unused context place l)
unused_adds context place l = unused_by l.is_named (location context.names place) (UnusedLocal l.name)

pub all_unused_add : (context : Context) (place : Place) (locals : List Local) → Adds (with_all_unused context place locals)
all_unused_add context place [] = nothing_adds
all_unused_add context place (l ∷ locals) =
    then_adds (with_unused context place l) (with_all_unused context place locals) (unused_adds context place l)
    (all_unused_add context place locals)

branch_adds : (context : Context) (place : Place) (fault : Option CloseFault) → Adds (with_branch_fault context place fault)
branch_adds context place (Some (CloseFault.LabelTwice label)) =
    error_adds (location context.names place) (location context.names place) BranchTooFar
branch_adds context place (Some CloseFault.TooFar) = error_adds (location context.names place) (location context.names place) BranchTooFar
branch_adds context place _ = nothing_adds

missing_adds : (label : Option (List ℕ)) (context : Context) (place : Place) (fault : Option CloseFault)
    → Adds (with_fault_or label context place fault)
missing_adds (Some name) context place fault = error_adds (location context.names place) (location context.names place) (LabelMissing name)
missing_adds None context place fault = branch_adds context place fault

pub routine_adds : (context : Context) (place : Place) (labels : List NamedLabel) (fault : Option CloseFault)
    → Adds (with_routine_fault context place labels fault)
routine_adds context place labels fault = missing_adds (missing labels) context place fault
