-- The header of a routine that is read in a compilation: behind its names the unit at hand has their locals.
use Rattle.std.specs.Prelude.{◌≡◌, List, [], ◌∷◌, map, false}
use Rattle.inf_settings.specs.Bounds.{Limits}
use Rattle.inf_scanner.specs.declared.tokens.Place.{Place}
use Rattle.inf_machine.specs.Grammar.{Did, Event, Took}
use Rattle.inf_syntax.specs.declared.actions.Action.{Action}
use Rattle.inf_names.specs.Locals.{with_locals}
use Rattle.inf_compilation.specs.{Actions.Compilation, Context.Context}
use Rattle.inf_statement_laws.specs.{Laid.run, Readings.Seen}
use Rattle.inf_language.specs.{Headers.AreNames, Headers.as_name, Texts.happenings_before, Texts.tokens_of}

-- the events that the grammar has behind the name of a routine: each token is taken, and noted as a local
abbrev pub local_events : List Seen → List (Event Action)
local_events [] = []
local_events (s ∷ seen) = Took s.atom ∷ Did Action.Local ∷ local_events seen

-- The unit behind these events is the one before them with the locals of the names, where the tokens are names.
abbrev pub HeadersNoteTheirNames : Limits → Type 0
HeadersNoteTheirNames limits = (context : Context) (next : Place) (names : List Seen) (w : Compilation) → AreNames (tokens_of names)
    → w.unit.is_over ≡ false
    → (run limits context (happenings_before next (local_events names) names) w).unit
    ≡ record w.unit { headed = with_locals (map as_name (tokens_of names)) w.unit.headed }
