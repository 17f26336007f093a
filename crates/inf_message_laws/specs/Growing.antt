-- Messages only grow: a step of a compilation has the same effect whatever was reported before it, and its own messages stand behind that.
use Rattle.std.specs.Prelude.{List, [], true, ℕ, ◌++◌, ◌∷◌, ◌≡◌, ◌≤◌}
use Rattle.inf_scanner.specs.declared.tokens.Place.{Place}
use Rattle.inf_settings.specs.Bounds.{Limits}
use Rattle.inf_output.specs.Output.{Out}
use Rattle.inf_syntax.specs.declared.actions.Action.{Action}
use Rattle.inf_unit.specs.{Messages.Reported, Roles.role_of, Tokens.SourceToken, declared.roles.Ending.Ending, declared.roles.Role.Role}
use Rattle.inf_compilation.specs.{Actions.Compilation, Actions.took, Context.Context}
use Rattle.inf_reader.specs.Acting.{act, cut_at}
use Rattle.inf_statement_laws.specs.{Happenings.Acts, Happenings.Between, Happenings.Happening, Happenings.Takes, Laid.run}

-- Report with some lines before its own, whose messages are not counted.
abbrev pub told_before : List ℕ → Reported → Reported
told_before lines r = record r { lines = lines ++ r.lines }

abbrev pub with_lines_before : List ℕ → Compilation → Compilation
with_lines_before lines w = record w { report = told_before lines w.report }

-- A step does not depend on lines that were reported before it, and leaves them unchanged before its own.
pub record Grows (step : Compilation → Compilation) : Type 0 where
  pub grows : (lines : List ℕ) (w : Compilation) → step (with_lines_before lines w) ≡ with_lines_before lines (step w)

-- Conditional directives between two tokens add lines to the report, and change none.
abbrev pub OnlyAdds : Between → Type 0
OnlyAdds m = (lines : List ℕ) (o : Out) (r : Reported) → m.report o (told_before lines r) ≡ told_before lines (m.report o r)

abbrev pub AllOnlyAdd : List Happening → Type 0
AllOnlyAdd [] = Unit {0}
AllOnlyAdd (Acts at a ∷ happenings) = OnlyAdds at.behind × AllOnlyAdd happenings
AllOnlyAdd (Takes t m ∷ happenings) = OnlyAdds m × AllOnlyAdd happenings

-- Tells whether an action is not the end of a directive.
abbrev pub EndsNoDirective : Action → Type 0
EndsNoDirective a = role_of a ≡ Role.End Ending.Directive → ⊥

-- Nothing is asked where a token is taken, where any action acts but the end of a directive, and where a bad token cuts a unit.
pub record AsksAtDirectives (limits : Limits) : Type 0 where
  pub token : (context : Context) (t : SourceToken) (w : Compilation) → (took context t w).asked ≡ w.asked
  pub action : (context : Context) (place : Place) (a : Action) (w : Compilation) → EndsNoDirective a
      → (act limits context place a w).asked ≡ w.asked
  pub cut : (context : Context) (place : Place) (w : Compilation) → (cut_at limits context place w).asked ≡ w.asked

-- Messages grow where a token is taken, where an action of the grammar acts, where a bad token cuts a unit, and over all happenings.
pub record MessagesGrow (limits : Limits) : Type 0 where
  pub token : (context : Context) (t : SourceToken) → Grows (took context t)
  pub action : (context : Context) (place : Place) (a : Action) → Grows (act limits context place a)
  pub cut : (context : Context) (place : Place) → Grows (cut_at limits context place)
  pub all : (context : Context) (happenings : List Happening) → AllOnlyAdd happenings → Grows (run limits context happenings)
  pub asks : AsksAtDirectives limits

-- A report goes on from another: the lines of that stand before its own, a fatal message ends it, too, and errors are no fewer.
pub record GoesOn (before behind : Reported) : Type 0 where
  pub more : List ℕ
  pub lines : behind.lines ≡ before.lines ++ more
  pub over : before.counts.is_over ≡ true → behind.counts.is_over ≡ true
  pub errors : before.counts.errors ≤ behind.counts.errors

-- The report goes on where a token is taken, where an action of the grammar acts, and where a bad token cuts a unit.
pub record ReportsGoOn (limits : Limits) : Type 0 where
  pub token : (context : Context) (t : SourceToken) (w : Compilation) → GoesOn w.report (took context t w).report
  pub action : (context : Context) (place : Place) (a : Action) (w : Compilation) → GoesOn w.report (act limits context place a w).report
  pub cut : (context : Context) (place : Place) (w : Compilation) → GoesOn w.report (cut_at limits context place w).report
