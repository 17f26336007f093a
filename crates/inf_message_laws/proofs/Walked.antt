-- Messages grow, nothing is asked, and the report goes on along each walk, and so at each token, action and cut; and messages grow over all
-- happenings of a text, one after the other.
use Rattle.std.proofs.Common.{List, None, Option, Some, [], ap, false, refl, subst, sym, true, ◌∙◌, ◌∷◌, ◌≡◌}
use Rattle.inf_scanner.specs.declared.tokens.Place.{Place}
use Rattle.inf_settings.specs.{Bounds.Limits, Bounds.unbounded, declared.setting.Setting.Setting}
use Rattle.inf_code.specs.Code.{fault_closed}
use Rattle.inf_output.specs.Output.{Out, closed, full}
use Rattle.inf_syntax.specs.declared.actions.Action.{Action}
use Rattle.inf_report.specs.Messages.{DeepNesting, Exceeded}
use Rattle.inf_unit.specs.{Roles.role_of, Tokens.SourceToken, Units.long_at, declared.roles.Ending.Ending, declared.roles.Role.Role}
use Rattle.inf_unit.specs.Messages.{Reported, location, warnings_chosen, with_fatal, with_fault, with_full, with_words}
use Rattle.inf_compilation.specs.{Context.Context, Context.longest, Findings.nothing_found, Findings.told_as}
use Rattle.inf_compilation.specs.Actions.{Compilation, close_as, stopped, took, unit_ended, with_all_unused, with_routine_fault}
use Rattle.inf_reader.specs.{Acting.act, Acting.cut_at, Directives.limits_told}
use Rattle.inf_statement_laws.specs.Laid.{next_comes, passed, run}
use Rattle.inf_statement_laws.specs.Happenings.{Acts, Between, Happening, Takes}
use Rattle.inf_step_walk.specs.Walking.{After, Asks, Begins, Behind, Checks, Ends, Finishes, Leaves, Nests, Premises, Rests}
use Rattle.inf_step_walk.specs.Walking.{Says, Sizes, Tallies, Walk, Walks, Warns, free, with_report}
use Rattle.inf_step_walk.proofs.{Actions.act_steps, Actions.cut_at_steps, Actions.took_steps, Units.inner_told}
use Rattle.inf_message_laws.specs.Growing.{AllOnlyAdd, GoesOn, Grows, MessagesGrow, OnlyAdds, ReportsGoOn, told_before}
use Rattle.inf_message_laws.proofs.Told.{Adds, all_unused_add, chosen_adds, end_adds, fatal_adds, full_adds, nothing_adds, nothing_grows}
use Rattle.inf_message_laws.proofs.Told.{routine_adds, then_adds, then_grows, words_add}

-- Along walks

-- A change of the report leads from a compilation to another one, and from the first with the report `r` to `t`. What is asked stays, if
-- not the end of a directive may ask for something.
record IsTold (Q : Premises) (w : Compilation) (r : Reported) (v t : Compilation) : Type 0 where
  tell : Reported → Reported
  adds : Adds tell
  report : v.report ≡ tell w.report
  other : t ≡ with_report (tell r) v
  asked : (Q Ending.Directive → ⊥) → v.asked ≡ w.asked

module _ {Q : Premises} where
  tells : {w v t : Compilation} {r : Reported} (tell : Reported → Reported) → Adds tell → v.report ≡ tell w.report
      → t ≡ with_report (tell r) v → v.asked ≡ w.asked → IsTold Q w r v t
  tells tell adds report other asked = record { tell = tell; adds = adds; report = report; other = other; asked = λ none. asked }

  -- nothing is told or asked
  silent : {w v t : Compilation} {r : Reported} → v.report ≡ w.report → t ≡ with_report r v → v.asked ≡ w.asked → IsTold Q w r v t
  silent report other asked = tells (λ r. r) nothing_adds report other asked

  stopped_told : (context : Context) (p : Option Place) (w : Compilation) (r : Reported)
      → IsTold Q w r (stopped context p w) (stopped context p (with_report r w))
  stopped_told context None w r = silent refl refl refl
  stopped_told context (Some place) w r =
      let at = location context.names place in
      tells (with_fatal at (Exceeded Setting.ExpressionNodes)) (fatal_adds at (Exceeded Setting.ExpressionNodes)) refl refl refl

  walk_told : {limits : Limits} {context : Context} {w v t : Compilation} {r : Reported} → Walk limits context Q w r v t → IsTold Q w r v t
  walk_told (Rests stay same) = silent (ap (λ (t : Out × Tallies). t.1.2) same) refl (ap (λ (t : Out × Tallies). t.1.3) same)
  walk_told (After {v} f g) =
      let a = walk_told f in
      let b = walk_told g in record {
        tell = λ s. b.tell (a.tell s);
        adds = then_adds a.tell b.tell a.adds b.adds;
        report = b.report ∙ ap b.tell a.report;
        other = b.other ∙ ap (λ (c : Compilation). with_report (b.tell c.report) v) a.other;
        asked = λ none. b.asked none ∙ a.asked none;
      }
  walk_told (Behind {r} g f next) =
      let a = walk_told f in
      let b = walk_told (next (a.tell r)) in record {
        tell = λ s. b.tell (a.tell s);
        adds = then_adds a.tell b.tell a.adds b.adds;
        report = b.report ∙ ap b.tell a.report;
        other = ap g a.other ∙ b.other;
        asked = λ none. b.asked none ∙ a.asked none;
      }
  walk_told {context = context} (Nests place true) =
      let at = location context.names place in tells (with_fatal at DeepNesting) (fatal_adds at DeepNesting) refl refl refl
  walk_told (Nests place false) = silent refl refl refl
  walk_told {context = context} (Says place k words) =
      let at = location context.names place in tells (with_words at k words) (words_add at k words) refl refl refl
  walk_told (Warns has_warnings) = tells (warnings_chosen has_warnings) (chosen_adds has_warnings) refl refl refl
  walk_told (Asks request q) =
      record { tell = λ s. s; adds = nothing_adds; report = refl; other = refl; asked = λ none. absurd (none q) }
  walk_told {context = context} (Sizes {w} {r}) = stopped_told context (long_at (longest context) w.unit) w r
  walk_told {limits} {context} (Ends {w} {r} first has_last found v f) =
      let k = inner_told f in
      let blame = told_as context.names v.unit.tokens first found in
      let tell = λ (s : Reported). with_full context.names first (full limits v.output) (with_fault context.names first blame s) in
      tells tell (end_adds context.names first blame (full limits v.output)) (ap (λ (t : Tallies). tell t.2) k.0)
      (ap (unit_ended limits context first has_last found) k.1) (ap (λ (t : Tallies). t.3) k.0)
  walk_told {limits} {context} (Finishes {w} {r} how place v f) =
      let k = inner_told f in
      let fault = fault_closed limits how v.output.code in
      let tell = λ (s : Reported). with_all_unused context place v.locals (with_routine_fault context place v.labels fault s) in
      let blame = told_as context.names v.unit.tokens place nothing_found in
      let past = full limits (closed limits how v.output) in
      let ended = λ (s : Reported). with_full context.names place past (with_fault context.names place blame s) in
      tells (λ s. ended (tell s))
      (then_adds tell ended
      (then_adds (with_routine_fault context place v.labels fault) (with_all_unused context place v.locals)
      (routine_adds context place v.labels fault) (all_unused_add context place v.locals)) (end_adds context.names place blame past))
      (ap (λ (t : Tallies). ended (tell t.2)) k.0) (ap (close_as limits how context place) k.1) (ap (λ (t : Tallies). t.3) k.0)
  walk_told {limits} {context} (Checks {w} first) =
      let limit = full limits w.output in tells (with_full context.names first limit) (full_adds context.names first limit) refl refl refl
  walk_told {limits} {context} (Begins {v} first f) =
      let a = walk_told f in
      let limit = full limits v.output in
      let tell = with_full context.names first limit in record {
        tell = λ s. tell (a.tell s);
        adds = then_adds a.tell tell a.adds (full_adds context.names first limit);
        report = ap tell a.report;
        other = ap (limits_told limits context first) a.other;
        asked = a.asked;
      }
  walk_told Leaves = silent refl refl refl
  walk_told others = silent refl refl refl

module _ (limits : Limits) (context : Context) {Q : Premises} where
  grows_of : (f : Compilation → Compilation) → ((w : Compilation) → Walks limits context Q f w) → Grows f
  grows_of f steps = record {
    grows = λ lines w.
        let k = walk_told (steps w (told_before lines w.report)) in
        k.other ∙ ap (λ s. with_report s (f w)) (k.adds.adds lines w.report ∙ ap (told_before lines) (sym k.report));
  }

  goes_on : {w v t : Compilation} {r : Reported} → Walk limits context Q w r v t → GoesOn w.report v.report
  goes_on {w} f = let k = walk_told f in subst (λ s. GoesOn w.report s) (sym k.report) (k.adds.goes_on w.report)

  asked_of : {w v t : Compilation} {r : Reported} → Walk limits context Q w r v t → (Q Ending.Directive → ⊥) → v.asked ≡ w.asked
  asked_of f = (walk_told f).asked

-- Tokens, actions and cuts

pub took_grows : (context : Context) (t : SourceToken) → Grows (took context t)
took_grows context t = grows_of unbounded context {Q = free} (took context t) (took_steps t)

pub act_grows : (limits : Limits) (context : Context) (place : Place) (a : Action) → Grows (act limits context place a)
act_grows limits context place a = grows_of limits context {Q = free} (act limits context place a) (λ w. act_steps place a w (λ e is. tt))

pub cut_at_grows : (limits : Limits) (context : Context) (place : Place) → Grows (cut_at limits context place)
cut_at_grows limits context place = grows_of limits context {Q = free} (cut_at limits context place) (cut_at_steps place)

-- All happenings

between_grows : (m : Between) → OnlyAdds m → Grows (passed m)
between_grows m adds = record { grows = λ lines w. ap (λ r. record (passed m w) { report = r }) (adds lines w.output w.report) }

comes_grows : Grows next_comes
comes_grows = record { grows = λ lines w. refl }

all_grow : (limits : Limits) (context : Context) (happenings : List Happening) → AllOnlyAdd happenings
    → Grows (run limits context happenings)
all_grow limits context [] all = nothing_grows
all_grow limits context (Acts at a ∷ happenings) all =
    then_grows (λ (w : Compilation). passed at.behind (act limits context at.place a w)) (run limits context happenings)
    (then_grows (act limits context at.place a) (passed at.behind) (act_grows limits context at.place a)
    (between_grows at.behind all.0))
    (all_grow limits context happenings all.1)
all_grow limits context (Takes t m ∷ happenings) all =
    then_grows (λ (w : Compilation). next_comes (passed m (took context t w))) (run limits context happenings)
    (then_grows (λ (w : Compilation). passed m (took context t w)) next_comes
    (then_grows (took context t) (passed m) (took_grows context t) (between_grows m all.0)) comes_grows)
    (all_grow limits context happenings all.1)

pub messages_grow : (limits : Limits) → MessagesGrow limits
messages_grow limits = record {
  token = took_grows;
  action = act_grows limits;
  cut = cut_at_grows limits;
  all = all_grow limits;
  asks = record {
    token = λ context t w. asked_of limits context {Q = λ e. ⊥} (took_steps t w w.report) (λ none. none);
    action = λ context place a w. asked_of limits context {Q = λ e. role_of a ≡ Role.End e} (act_steps place a w (λ e is. is) w.report);
    cut = λ context place w. asked_of limits context {Q = λ e. ⊥} (cut_at_steps place w w.report) (λ none. none);
  };
}

pub reports_go_on : (limits : Limits) → ReportsGoOn limits
reports_go_on limits = record {
  token = λ context t w. goes_on limits context {Q = free} (took_steps t w w.report);
  action = λ context place a w. goes_on limits context {Q = free} (act_steps place a w (λ e is. tt) w.report);
  cut = λ context place w. goes_on limits context {Q = free} (cut_at_steps place w w.report);
}
