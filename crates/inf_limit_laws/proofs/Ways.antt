-- Steps of a compilation put together, ends of routines and of bodies, and the beginning of code: a fatal message stays, and counts keep to
-- their settings.
use Rattle.std.specs.List.{slice_get}
use Rattle.std.specs.Prelude.{if◌then◌else◌, max, sum_by}
use Rattle.std.proofs.{Math.Nat.max-le, lemmas.Bool.ltb-false, lemmas.List.Sums.sum_by-append}
use Rattle.std.proofs.Common.{Bool, List, None, Option, Some, [], arith, cond, false, length, ltb, option_map, refl, suc, sym, true}
use Rattle.std.proofs.Common.{zero, ℕ, ◌++◌, ◌+◌, ◌-◌, ◌∙◌, ◌∷◌, ◌≡◌, ◌≤◌}
use Rattle.inf_scanner.specs.declared.tokens.Place.{Place}
use Rattle.inf_settings.specs.{Bounds.Limits, declared.setting.Setting.Setting}
use Rattle.inf_objects.specs.{declared.body.Body.Body, declared.objects.Object.Object}
use Rattle.inf_objects.specs.Objects.{ended, is_lost, nothing_read, object_fixups}
use Rattle.inf_tables.specs.{Tables.AllTables, Tables.more, Tables.references, declared.faults.WorldFault.WorldFault}
use Rattle.inf_tables.specs.World.{WorldOf, ended_objects, fixups_now, no_body_fault, with_end}
use Rattle.inf_assembler.specs.{declared.routines.CloseFault.CloseFault, declared.routines.Limit.Limit}
use Rattle.inf_assembler.specs.declared.routines.RoutineKind.{RoutineKind}
use Rattle.inf_code.specs.Code.{Routines, fault_closed, labels}
use Rattle.inf_output.specs.declared.past.Past.{Past}
use Rattle.inf_output.specs.Output.{Out, begun, closed, closed_by, code_closed, counted, full, full_past, passed_limit, past_by}
use Rattle.inf_output.specs.Output.{past_of, with_labels_left}
use Rattle.inf_report.specs.{Messages.DeepNesting, Messages.Exceeded, Reports.Counts, Reports.with_fatal as fatal_counted}
use Rattle.inf_unit.specs.Tokens.{SourceToken}
use Rattle.inf_unit.specs.Messages.{FileNames, Reported, location, with_fatal, with_fault, with_full}
use Rattle.inf_unit.specs.Units.{Unit, long_at, long_by, long_from, outer_count, outer_tokens, place_at}
use Rattle.inf_compilation.specs.{Context.Context, Context.longest, Findings.Findings, Findings.nothing_found, Findings.told_as}
use Rattle.inf_compilation.specs.Actions.{Compilation, begun_at, body_ended, close_as, code_begun, given_up, nested, sized, stopped}
use Rattle.inf_compilation.specs.Actions.{unit_ended, with_all_unused, with_routine_fault, world_ended_by}
use Rattle.inf_reader.specs.Directives.{limits_told}
use Rattle.inf_step_walk.specs.Walking.{Remains}
use Rattle.inf_message_laws.proofs.Told.{all_unused_add, end_adds, fatal_adds, full_adds, remains, routine_adds}
use Rattle.inf_limit_laws.specs.Within.{Before, Counted, Ends, IsKept, Lays, Steps, is_over}
use Rattle.inf_limit_laws.proofs.Outputs.{begin_keeps, close_keeps, none_open_keeps}
use Rattle.inf_limit_laws.proofs.Rooms.{Fits, counted_free, limit_full, rest_some, unit_fits}

-- One step behind another

module _ {limits : Limits} {context : Context} {was : Before} where
  pub lays_then : {a b c : Compilation} → Lays limits context was a b → Lays limits context was b c → Lays limits context was a c
  lays_then {a} {b} {c} f g = record { on = λ e. f.on (g.on e); kept = λ e h. g.kept e (f.kept (g.on e) h) }

  pub lays_end : {a b c : Compilation} → Lays limits context was a b → Ends limits context was b c → Ends limits context was a c
  lays_end {a} {b} {c} f g = record {
    on = λ e. f.on (g.on e);
    kept = λ e h. g.kept e (f.kept (g.on e) h);
    few = λ e h. g.few e (f.kept (g.on e) h);
  }

  pub steps_then : {a b c : Compilation} → Steps limits context was a b → Steps limits context was b c → Steps limits context was a c
  steps_then {a} {b} {c} f g = record {
    on = λ e. f.on (g.on e);
    kept = λ e h. g.kept e (f.kept (g.on e) h);
    few = λ e h k. g.few e (f.kept (g.on e) h) (f.few (g.on e) h k);
  }

  pub step_of : {a b : Compilation} → Ends limits context was a b → Steps limits context was a b
  step_of {a} {b} f = record { on = f.on; kept = f.kept; few = λ e h k. f.few e h }

  pub lay_of : {a b : Compilation} → Steps limits context was a b → Lays limits context was a b
  lay_of {a} {b} f = record { on = f.on; kept = f.kept }

  -- the end of a unit behind something that it lays, as a step
  pub lays_step : {a b c : Compilation} → Lays limits context was a b → Ends limits context was b c → Steps limits context was a c
  lays_step f g = step_of (lays_end f g)

  -- nothing happens
  pub stays : (w : Compilation) → Steps limits context was w w
  stays w = record { on = λ e. e; kept = λ e h. h; few = λ e h k. k }

-- Lemmas about messages

pub fatal_is_over : (c : Counts) → (fatal_counted c).is_over ≡ true
fatal_is_over c = go c.is_over refl
  where
    go : (b : Bool) → c.is_over ≡ b → (cond b c (record c { is_over = true })).is_over ≡ true
    go true e = e
    go false e = refl

-- none was told where none stands
pub no_fatal : {A : Type 0} (c : Counts) → (fatal_counted c).is_over ≡ false → A
no_fatal c free = let never : true ≡ false = sym (fatal_is_over c) ∙ free in absurd cc

-- no limit was passed where no fatal message tells it
pub none_full : (files : FileNames) (unit : Place) (s : Option Setting) (r : Reported) → (with_full files unit s r).counts.is_over ≡ false
    → s ≡ None
none_full files unit None r free = refl
none_full files unit (Some s) r free = no_fatal r.counts free

-- a step that changes the report alone
pub report_steps : {limits : Limits} {context : Context} {was : Before} (w : Compilation) (tell : Reported → Reported) → Remains tell
    → Steps limits context was w (record w { report = tell w.report })
report_steps {limits} {context} {was} w tell remains =
    record { on = remains w.report; kept = λ e h. h; few = λ e h k. k }

-- Lemmas about units

fits_full : {was : Before} (limits : Limits) (files : FileNames) (first : Place) (o : Out) (r : Reported)
    → (with_full files first (full limits o) r).counts.is_over ≡ false → Counted limits was o → Fits limits o
fits_full {was} limits files first o r free h = unit_fits limits o h (none_full files first (full limits o) r free)

module _ {limits : Limits} {context : Context} {was : Before} where
  pub unit_ends : (first : Place) (has_last : Bool) (found : Findings) (w : Compilation)
      → Ends limits context was w (unit_ended limits context first has_last found w)
  unit_ends first has_last found w =
      let blame = told_as context.names w.unit.tokens first found in
      let told = with_fault context.names first blame w.report in
      record {
        on = λ e. remains (end_adds context.names first blame (full limits w.output)) w.report e;
        kept = λ e h. (h.0, (max-le h.1.0 (fits_full limits context.names first w.output told e h.1.1).few_labels, h.1.1));
        few = λ e h. (fits_full limits context.names first w.output told e h.1.1).few_references;
      }

  pub limits_end : (first : Place) (w : Compilation) → Ends limits context was w (limits_told limits context first w)
  limits_end first w = record {
    on = remains (full_adds context.names first (full limits w.output)) w.report;
    kept = λ e h. h;
    few = λ e h. (fits_full limits context.names first w.output w.report e h.1.1).few_references;
  }

  pub begun_ends : (files : FileNames) (first : Place) (w : Compilation) → Ends limits context was w (begun_at limits files first w)
  begun_ends files first w = record {
    on = λ e. remains (full_adds files first (full limits (begun limits w.output))) w.report e;
    kept = λ e h.
        let c = begin_keeps limits w.output h.1.1 in
        (h.0, (max-le h.1.0 (fits_full limits files first (begun limits w.output) w.report e c).few_labels, c));
    few = λ e h. (fits_full limits files first (begun limits w.output) w.report e (begin_keeps limits w.output h.1.1)).few_references;
  }

-- Lemmas about tokens

none_behind : (tokens : List SourceToken) (at : ℕ) → slice_get tokens at ≡ None → length tokens ≤ at
none_behind [] at e = omega arith
none_behind (t ∷ tokens) zero e = cc
none_behind (t ∷ tokens) (suc at) e = omega (arith, none_behind tokens at e)

no_place : (tokens : List SourceToken) (at : ℕ) → place_at tokens at ≡ None → length tokens ≤ at
no_place tokens at = go (slice_get tokens at) refl
  where
    go : (x : Option SourceToken) → slice_get tokens at ≡ x → option_map (λ (t : SourceToken). t.place) x ≡ None → length tokens ≤ at
    go (Some t) e free = cc
    go None e free = none_behind tokens at e

sure_within : (tokens : List SourceToken) (most outer : ℕ) → long_from tokens most outer true ≡ None → length tokens - outer ≤ most
sure_within tokens most outer = go (ltb most (length tokens - outer)) refl
  where
    go : (b : Bool) → ltb most (length tokens - outer) ≡ b → cond b (place_at tokens (outer + most)) None ≡ None
        → length tokens - outer ≤ most
    go false e free = ltb-false most (length tokens - outer) e
    go true e free = omega (arith, no_place tokens (outer + most) free)

long_within : (tokens : List SourceToken) (most : ℕ) (is_sure : Bool) (outer : Option ℕ) → long_by tokens most is_sure outer ≡ None
    → outer_count tokens is_sure outer ≤ most
long_within tokens most is_sure None free = omega arith
long_within tokens most false (Some outer) free = omega arith
long_within tokens most true (Some outer) free = sure_within tokens most outer free

-- an expression that is not too long has as many tokens as it may have, at most
pub tokens_within : (most : ℕ) (u : Unit) → long_at most u ≡ None → outer_tokens u ≤ most
tokens_within most u free = long_within u.tokens most u.is_sure u.outer free

module _ {limits : Limits} {context : Context} {was : Before} where
  stopped_steps : (p : Option Place) (w : Compilation) → long_at (longest context) w.unit ≡ p
      → Steps limits context was w (stopped context p w)
  stopped_steps None w e = record {
    on = λ free. free;
    kept = λ free h. ((λ x. max-le (h.0 x) (tokens_within (longest context) w.unit e)), h.1);
    few = λ free h k. k;
  }
  stopped_steps (Some place) w e = report_steps w (with_fatal (location context.names place) (Exceeded Setting.ExpressionNodes))
      (remains (fatal_adds (location context.names place) (Exceeded Setting.ExpressionNodes)))

  pub sized_steps : (w : Compilation) → Steps limits context was w (sized context w)
  sized_steps w = stopped_steps (long_at (longest context) w.unit) w refl

  pub nested_steps : (place : Place) (is_deep : Bool) (w : Compilation) → Steps limits context was w (nested context place is_deep w)
  nested_steps place true w =
      let at = location context.names place in report_steps w (with_fatal at DeepNesting) (remains (fatal_adds at DeepNesting))
  nested_steps place false w = stays w

-- Ends of routines: where no fatal message stands then, the routine had no more labels than it may have.

left_labels : {was : Before} (limits : Limits) (o : Out) → Counted limits was o → (code : Routines) (left : ℕ) →
    (past_of limits o).labels ≡ Some left
    → full_past (counted (references o.tables) (past_by limits o.past code)) ≡ None → labels o.code ≤ limits Setting.Labels
left_labels {was} limits o h code left e free = go o.past refl e free
  where
    go : (past : Option Past) → o.past ≡ past → (past_by limits past o.code).labels ≡ Some left
        → full_past (counted (references o.tables) (past_by limits past code)) ≡ None → labels o.code ≤ limits Setting.Labels
    go None is some none = omega (arith, rest_some (limits Setting.Labels) (labels o.code) left some)
    go (Some p) is some none = (h.room p is (counted_free (references o.tables) p none)).few_labels

by_labels : {was : Before} (limits : Limits) (how : RoutineKind) (o : Out) → Counted limits was o → (left : ℕ) →
    (past_of limits o).labels ≡ Some left
    → (fault : Option CloseFault) → full limits (closed_by limits fault how o) ≡ None → labels o.code ≤ limits Setting.Labels
by_labels {was} limits how o h left e (Some (CloseFault.Full limit)) free =
    absurd (limit_full limit _ (counted_free (references o.tables) _ free))
by_labels {was} limits how o h left e other free = left_labels limits o h _ left e free

closing_labels : {was : Before} (limits : Limits) (how : RoutineKind) (o : Out) → Counted limits was o →
    full limits (closed limits how o) ≡ None
    → labels o.code ≤ limits Setting.Labels
closing_labels {was} limits how o h free = go (past_of limits o).labels refl free
  where
    go : (left : Option ℕ) → (past_of limits o).labels ≡ left
        → full limits (with_labels_left limits left (code_closed limits how o)) ≡ None → labels o.code ≤ limits Setting.Labels
    go None e none = absurd (limit_full Limit.Labels (past_of limits (code_closed limits how o))
        (counted_free (references (code_closed limits how o).tables)
        (passed_limit Limit.Labels (past_of limits (code_closed limits how o))) none))
    go (Some left) e none = by_labels limits how o h left e (fault_closed limits how o.code) none

-- the compilation behind a routine, before the end of its unit
abbrev closed_off : Limits → RoutineKind → Context → Place → Compilation → Compilation
closed_off limits how context place w = record w {
  most_labels = max w.most_labels (labels w.output.code);
  output = closed limits how w.output;
  report =
      with_all_unused context place w.locals (with_routine_fault context place w.labels (fault_closed limits how w.output.code) w.report);
  locals = [];
  is_embedded = false;
}

pub close_as_ends : {limits : Limits} {context : Context} {was : Before} (how : RoutineKind) (place : Place) (w : Compilation)
    → Ends limits context was w (close_as limits how context place w)
close_as_ends {limits} {context} {was} how place w = record {
  on = λ e. remains (routine_adds context place w.labels (fault_closed limits how w.output.code)) w.report
      (remains (all_unused_add context place w.locals)
      (with_routine_fault context place w.labels (fault_closed limits how w.output.code) w.report)
      ((unit_ends {limits = limits} {context = context} {was = was} place true nothing_found v).on e));
  kept = λ e h. (unit_ends {limits = limits} {context = context} {was = was} place true nothing_found v).kept e (kept e h);
  few = λ e h. (unit_ends {limits = limits} {context = context} {was = was} place true nothing_found v).few e (kept e h);
}
  where
    v : Compilation
    v = closed_off limits how context place w

    kept : is_over (close_as limits how context place w) ≡ false → IsKept limits context was w → IsKept limits context was v
    kept e h = (
      h.0,
      (
        max-le h.1.0 (closing_labels limits how w.output h.1.1
            (none_full context.names place (full limits (closed limits how w.output)) v.report e)),
        close_keeps limits how w.output h.1.1,
      ),
    )

-- The end of a body

more_grows : (a b c : ℕ) → a ≤ b → more a c ≤ more b c
unfolding more
more_grows a b c few = omega (arith, few)

no_fixups : object_fixups (ended nothing_read) ≡ 0
no_fixups = refl

ended_few : (objects : List Object) (body : Body)
    → sum_by object_fixups (objects ++ ended_objects body) ≤ sum_by object_fixups objects + object_fixups (ended body)
ended_few objects body = go (is_lost body.properties.owner)
  where
    go : (b : Bool) → sum_by object_fixups (objects ++ (if b then [] else ended body ∷ []))
        ≤ sum_by object_fixups objects + object_fixups (ended body)
    go true = omega (arith, sum_by-append object_fixups objects [])
    go false = omega (arith, sum_by-append object_fixups objects (ended body ∷ []))

end_few : (world : WorldOf) → fixups_now (with_end world) ≤ fixups_now world
end_few world = omega (arith, no_fixups, ended_few world.objects world.body)

world_few : (t : AllTables) (world : WorldOf) → fixups_now world ≤ fixups_now t.world →
    references (record t { world = world }) ≤ references t
world_few t world few =
    let first : fixups_now world - 4 ≤ fixups_now t.world - 4 = omega (arith, few) in
    more_grows _ _ _ (more_grows _ _ _ (more_grows _ _ _ first))

by_few : (f : Option WorldFault) (world : WorldOf) → fixups_now (world_ended_by f world) ≤ fixups_now world
by_few None world = end_few world
by_few (Some f) world = omega arith

module _ {limits : Limits} {context : Context} {was : Before} where
  pub body_steps : (w : Compilation) → Steps limits context was w (body_ended w)
  body_steps w = record {
    on = λ e. e;
    kept = λ e h. h;
    few = λ e h k.
        let t = w.output.tables in
        let ended = world_ended_by (no_body_fault t.world) t.world in
        omega (arith, k, world_few t ended (by_few (no_body_fault t.world) t.world));
  }

  pub given_up_steps : (w : Compilation) → Steps limits context was w (given_up w)
  given_up_steps w = record { on = λ e. e; kept = λ e h. (h.0, (h.1.0, none_open_keeps limits w.output h.1.1)); few = λ e h k. k }

  -- code begins
  pub begun_lays : (w : Compilation) → Lays limits context was w (code_begun limits w)
  begun_lays w = record { on = λ e. e; kept = λ e h. (h.0, (h.1.0, begin_keeps limits w.output h.1.1)) }
