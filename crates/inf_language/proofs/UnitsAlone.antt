-- The unit at hand, step by step: each step in a compilation changes it as the step changes a unit by itself.
use Rattle.std.proofs.Common.{◌≡◌, [], ◌∷◌, Bool, true, false, Option, Some, None, refl, ◌∙◌, ap, ◌&&◌}
use Rattle.inf_settings.specs.Bounds.{Limits}
use Rattle.inf_scanner.specs.declared.tokens.Place.{Place}
use Rattle.inf_machine.specs.Grammar.{Did, Took}
use Rattle.inf_syntax.specs.declared.actions.Action.{Action}
use Rattle.inf_unit.specs.{Roles.role_of, Tokens.SourceToken, declared.roles.Note.Note, declared.roles.Role.Role}
use Rattle.inf_unit.specs.Units.{acted, long_at, noted as unit_noted, played as unit_played, taken}
use Rattle.inf_compilation.specs.Context.{Context, longest}
use Rattle.inf_compilation.specs.Actions.{Compilation, is_deep, nested, opens, sized, stopped, took}
use Rattle.inf_reader.specs.Acting.{act, noted, noted_of, played}
use Rattle.inf_expression_laws.specs.Gathered.{read_by}
use Rattle.inf_statement_laws.specs.{Happenings.Acts, Happenings.Takes, Laid.happens, Readings.plainly_at}
use Rattle.inf_language.specs.{Texts.tokens_of, Units.UnitsAreReadAlone, Units.gathers, Units.gathers_in, Units.is_kept_whole}

-- A token is taken.

stopped_unit : (context : Context) (place : Option Place) (w : Compilation) → (stopped context place w).unit ≡ w.unit
stopped_unit context None w = refl
stopped_unit context (Some place) w = refl

sized_unit : (context : Context) (w : Compilation) → (sized context w).unit ≡ w.unit
sized_unit context w = stopped_unit context (long_at (longest context) w.unit) w

nested_unit : (context : Context) (place : Place) (is_deep : Bool) (w : Compilation) → (nested context place is_deep w).unit ≡ w.unit
nested_unit context place true w = refl
nested_unit context place false w = refl

took_unit : (context : Context) (t : SourceToken) (w : Compilation) → (took context t w).unit ≡ taken t w.unit
took_unit context t w =
    let with_token = record w { unit = taken t w.unit } in
    let v = sized context with_token in
    nested_unit context t.place (opens t.kind && is_deep v 0) v ∙ sized_unit context with_token

-- An action acts.

noted_of_unit : (context : Context) (n : Note) (w : Compilation) → (noted_of context n w).unit ≡ unit_noted n w.unit
noted_of_unit context Note.OuterSure w = sized_unit context (record w { unit = unit_noted Note.OuterSure w.unit })
noted_of_unit context Note.OuterWord w = sized_unit context (record w { unit = unit_noted Note.OuterWord w.unit })
noted_of_unit context _ w = refl

noted_unit : (limits : Limits) (context : Context) (n : Note) (w : Compilation) → is_kept_whole n ≡ true
    → (noted limits context n w).unit ≡ unit_noted n w.unit
noted_unit limits context Note.PrintText w kept = cc
noted_unit limits context Note.Arrow w kept = cc
noted_unit limits context Note.OuterEnd w kept = cc
noted_unit limits context Note.LineToken w kept = cc
noted_unit limits context Note.PrintValue w kept = cc
noted_unit limits context Note.PrintRuled w kept = cc
noted_unit limits context Note.Set w kept = cc
noted_unit limits context Note.Clear w kept = cc
noted_unit limits context Note.VerbWord w kept = cc
noted_unit limits context Note.OuterSure w kept = noted_of_unit context Note.OuterSure w
noted_unit limits context Note.OuterWord w kept = noted_of_unit context Note.OuterWord w
noted_unit limits context _ w kept = refl

played_unit : (limits : Limits) (context : Context) (place : Place) (r : Role) (w : Compilation) → gathers_in r ≡ true
    → (played limits context place r w).unit ≡ unit_played r w.unit
played_unit limits context place (Role.Gather s) w gather = refl
played_unit limits context place (Role.Note n) w gather = noted_unit limits context n w gather
played_unit limits context place _ w gather = cc

act_unit : (limits : Limits) (context : Context) (place : Place) (a : Action) (w : Compilation) → gathers a ≡ true
    → (act limits context place a w).unit ≡ acted a w.unit
act_unit limits context place a w gather = played_unit limits context place (role_of a) w gather

-- Lemmas about the happenings one after the other

pub units_are_read_alone : (limits : Limits) → UnitsAreReadAlone limits
units_are_read_alone limits context next [] seen w gather = refl
units_are_read_alone limits context next (Did a ∷ events) [] w gather =
    units_are_read_alone limits context next events [] (happens limits context (Acts (plainly_at next) a) w) gather.1
    ∙ ap (read_by events []) (act_unit limits context next a w gather.0)
units_are_read_alone limits context next (Did a ∷ events) (s ∷ seen) w gather =
    units_are_read_alone limits context next events (s ∷ seen) (happens limits context (Acts (plainly_at s.token.place) a) w) gather.1
    ∙ ap (read_by events (tokens_of (s ∷ seen))) (act_unit limits context s.token.place a w gather.0)
units_are_read_alone limits context next (Took atom ∷ events) [] w gather = refl
units_are_read_alone limits context next (Took atom ∷ events) (s ∷ seen) w gather =
    units_are_read_alone limits context next events seen (happens limits context (Takes s.token s.behind) w) gather
    ∙ ap (read_by events (tokens_of seen)) (took_unit context s.token w)
