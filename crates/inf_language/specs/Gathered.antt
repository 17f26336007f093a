-- Expressions that are read in a compilation: the unit at hand has gathered each as a whole.
use Rattle.std.specs.Prelude.{◌≡◌, ℕ, ◌≤◌, ◌<◌, List, ◌++◌, length, false}
use Rattle.inf_settings.specs.Bounds.{Limits}
use Rattle.inf_scanner.specs.declared.tokens.Place.{Place}
use Rattle.inf_machine.specs.{Grammar.Event, Grammar.IsOneOf, Grammar.IsText, declared.symbols.Symbol.Symbol}
use Rattle.inf_syntax.specs.declared.actions.Action.{Action}
use Rattle.inf_grammar.specs.Language.{grammar}
use Rattle.inf_expressions.specs.Sources.{Source}
use Rattle.inf_unit.specs.Units.{Unit}
use Rattle.inf_compilation.specs.{Actions.Compilation, Context.Context}
use Rattle.inf_expression_laws.specs.{Gathered.AreSeen, Gathered.with_source, Laws.forms, Precedence.Written}
use Rattle.inf_statement_laws.specs.{Laid.run, Readings.Seen}
use Rattle.inf_language.specs.Texts.{atoms_of, happenings_before, tokens_of}

-- The unit of the compilation once the events of a text acted on its tokens, before another token at a place.
abbrev pub unit_behind : Limits → Context → Place → List (Event Action) → List Seen → Compilation → Unit
unit_behind limits context next events seen w = (run limits context (happenings_before next events seen) w).unit

-- The tokens of a text where an expression stands by itself are an expression by the levels of its operators; and behind
-- them the unit of the compilation has gathered that expression, beside what it had, whatever is reported or compiled
-- meanwhile. The tokens of a unit are few enough for their orders to differ.
abbrev pub ExpressionsAreGathered : Limits → Type 0
ExpressionsAreGathered limits =
    (context : Context) (next : Place) (symbols : List (Symbol Action)) (level : ℕ)
    → IsOneOf (record { symbols = symbols; level = level }) forms
    → (events : List (Event Action)) (seen : List Seen) → IsText grammar symbols (atoms_of seen) events
    → AreSeen (atoms_of seen) (tokens_of seen) → (w : Compilation) → w.unit.is_over ≡ false
    → w.unit.begun ≤ length w.unit.tokens → length (w.unit.tokens ++ tokens_of seen) < 4294967295
    → (a : Source) × Written level (length w.unit.tokens) (length w.unit.gathering.leaves) (atoms_of seen) a
    × ((unit_behind limits context next events seen w).gathering
    ≡ with_source w.unit.outer w.unit.begun (w.unit.tokens ++ tokens_of seen) a w.unit.gathering)
    × ((unit_behind limits context next events seen w).tokens ≡ w.unit.tokens ++ tokens_of seen)
