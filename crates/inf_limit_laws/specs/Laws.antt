-- The counts of a reading that are compared with their settings later are within these, as long as no fatal message was told.
use Rattle.std.specs.Prelude.{Bool, List, None, false, ℕ, ◌≡◌}
use Rattle.inf_scanner.specs.declared.tokens.Place.{Place}
use Rattle.inf_settings.specs.{Bounds.AreSet, Bounds.Limits, Bounds.limits_of, Settings.all_settings}
use Rattle.inf_devices.specs.Files.{Openings, Sources}
use Rattle.inf_syntax.specs.declared.actions.Action.{Action}
use Rattle.inf_unit.specs.{Messages.FileNames, Roles.role_of, Tokens.SourceToken, declared.roles.Ending.Ending, declared.roles.Role.Role}
use Rattle.inf_compilation.specs.{Context.Context, Findings.Findings}
use Rattle.inf_compilation.specs.Actions.{Compilation, begun_at, took, unit_ended}
use Rattle.inf_reader.specs.Acting.{act, cut_at}
use Rattle.inf_ending.specs.Ending.{first_place}
use Rattle.inf_session.specs.{Choices.Choices, Choices.chosen, Session.State, Uses.AreKept, declared.session.Session.Session}
use Rattle.inf_session.specs.Standing.{AreWithin, IsBounded, is_fatal, state}
use Rattle.inf_limit_laws.specs.Reached.{IsReached}
use Rattle.inf_limit_laws.specs.Within.{AreFew, Before, Ends, IsKept, Steps, is_over, unfollowed}

-- Each action of the grammar, each token that is taken, and the cut that a bad token makes keep the counts of a compilation, and the
-- abbreviations that are followed, which are none where one is added; and where a unit, a conditional directive or the source ends,
-- references are few.
pub record StepsKeepCounts (limits : Limits) : Type 0 where
  pub action : (context : Context) (was : Before) (place : Place) (a : Action) (w : Compilation)
      → (role_of a ≡ Role.End Ending.Abbreviation → was.abbreviations ≡ None) → Steps limits context was w (act limits context place a w)
  pub token : (context : Context) (was : Before) (t : SourceToken) (w : Compilation) → Steps limits context was w (took context t w)
  pub cut : (context : Context) (was : Before) (place : Place) (w : Compilation)
      → Steps limits context was w (cut_at limits context place w)
  pub unit : (context : Context) (was : Before) (first : Place) (has_last : Bool) (found : Findings) (w : Compilation)
      → Ends limits context was w (unit_ended limits context first has_last found w)
  pub conditional : (context : Context) (was : Before) (files : FileNames) (first : Place) (w : Compilation)
      → Ends limits context was w (begun_at limits files first w)

-- where the abbreviations of a compilation begin, in their order
abbrev pub abbreviations_of : Compilation → List ℕ
abbreviations_of w = w.output.tables.low_strings.abbreviations

-- Nothing changes the abbreviations but the end of a text of `Abbreviate`: each other action, each token that is taken and the cut that a
-- bad token makes leave them, where the counts of the compilation are kept and no fatal message stands behind the step.
pub record AbbreviationsStay (limits : Limits) : Type 0 where
  pub action : (context : Context) (place : Place) (a : Action) (w : Compilation) → (role_of a ≡ Role.End Ending.Abbreviation → ⊥)
      → IsKept limits context (unfollowed false) w → is_over (act limits context place a w) ≡ false
      → abbreviations_of (act limits context place a w) ≡ abbreviations_of w
  pub token : (context : Context) (t : SourceToken) (w : Compilation) → IsKept limits context (unfollowed false) w
      → is_over (took context t w) ≡ false → abbreviations_of (took context t w) ≡ abbreviations_of w
  pub cut : (context : Context) (place : Place) (w : Compilation) → IsKept limits context (unfollowed false) w
      → is_over (cut_at limits context place w) ≡ false → abbreviations_of (cut_at limits context place w) ≡ abbreviations_of w

-- Tokens of expressions and of conditions, labels of a routine, and references keep to their settings in each state to which a reading
-- comes, and where the source ends; and references do behind each unit that ends.
pub record CountsKeepToSettings (sources : Sources) (o : Choices) : Type 0 where
  pub within : (name : List ℕ) (s : State) → IsReached sources o name s → is_over s.work ≡ false
      → AreKept o.settings s.quoted s.conditions s.work
  pub units : (name : List ℕ) (s : State) → IsReached sources o name s → (context : Context) (first : Place) (has_last : Bool)
      (found : Findings) → is_over (unit_ended (limits_of o.settings) context first has_last found s.work) ≡ false
      → AreFew (limits_of o.settings) (unit_ended (limits_of o.settings) context first has_last found s.work)
  pub ends : (name : List ℕ) (s : State) → IsReached sources o name s
      → is_over (begun_at (limits_of o.settings) s.nesting.names first_place s.work) ≡ false
      → AreKept o.settings s.quoted s.conditions (begun_at (limits_of o.settings) s.nesting.names first_place s.work)

-- All counts of a session keep to their settings, where it stands for a state to which a reading comes.
abbrev pub AmountsKeep : {B : Type 0} → Limits → Session B → List ℕ → Type 0
AmountsKeep most s counts =
    let o = chosen s.setup in
    (sources : Sources) (name : List ℕ) (start now : Openings) (told : List ℕ) → IsReached sources o name (state sources start now s told)
    → AreSet most o.settings → IsBounded s → is_fatal s ≡ false → AreWithin counts all_settings o.settings
