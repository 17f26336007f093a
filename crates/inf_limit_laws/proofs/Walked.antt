-- Changes of an output keep it counted, and walks keep the counts of a compilation.
use Rattle.std.proofs.Common.{Bool, List, None, Some, ap, false, refl, subst, sym, true, ℕ, ◌+◌, ◌-◌, ◌∙◌, ◌≡◌, ◌≤◌}
use Rattle.inf_scanner.specs.declared.tokens.Place.{Place}
use Rattle.inf_settings.specs.{Bounds.Limits, declared.setting.Setting.Setting}
use Rattle.inf_tables.specs.{LowStrings.low_fits, Tables.references}
use Rattle.inf_code.specs.Code.{reference_count}
use Rattle.inf_output.specs.Output.{Out, apart}
use Rattle.inf_syntax.specs.declared.actions.Action.{Action}
use Rattle.inf_unit.specs.{Roles.role_of, Tokens.SourceToken, declared.roles.Ending.Ending, declared.roles.Role.Role}
use Rattle.inf_unit.specs.Messages.{Reported, location, warnings_chosen, with_words}
use Rattle.inf_constructs.specs.declared.constructs.Construct.{Construct}
use Rattle.inf_constructs.specs.Constructs.{Laying, begun, between, cases_begun, changed, ended, entered, looped_over}
use Rattle.inf_compilation.specs.{Actions.Compilation, Actions.took, Context.Context, Context.longest}
use Rattle.inf_compilation.specs.Nesting.{closed_ahead, construct_ended, construct_joined, constructs_laid}
use Rattle.inf_directives.specs.Abbreviations.{low_added, low_added_by}
use Rattle.inf_reader.specs.Acting.{act, cut_at}
use Rattle.inf_step_walk.specs.Walking.{Abbreviates, Acts, After, Asks, Begins, Behind, Cases, Checks, Closes, Declares, Ends, Enters}
use Rattle.inf_step_walk.specs.Walking.{Finishes, Follows, Gives, GivesUp, Grown, Inner, Joins, Leaves, Loops, LowTexts, Nests, Next}
use Rattle.inf_step_walk.specs.Walking.{Nowhere, Opens, Over, Parts, Passes, Premises, Puts, Refers, Rest, Rests, Runs, Says, Scales, Settles, Shuts}
use Rattle.inf_step_walk.specs.Walking.{Sizes, Starts, Stays, Tables, Tallies, Tells, Texts, Then, Uses, Walk, Warns, free}
use Rattle.inf_step_walk.proofs.Actions.{act_steps as act_walks, cut_at_steps as cut_at_walks, took_steps as took_walks}
use Rattle.inf_message_laws.proofs.Told.{remains, words_add}
use Rattle.inf_limit_laws.specs.Within.{Before, Counted, IsCounted, Keeps, Lays, Steps, unfollowed}
use Rattle.inf_limit_laws.proofs.Constructs.{Few, Gives as LayingGives, all_ended_keep, alone_sound, begun_few, begun_gives, between_gives}
use Rattle.inf_limit_laws.proofs.Constructs.{cases_gives, changed_gives, ended_few, ended_gives, entered_gives, joined_few, laid_gives}
use Rattle.inf_limit_laws.proofs.Constructs.{looped_over_gives}
use Rattle.inf_limit_laws.proofs.Outputs.{close_keeps, declare_keeps, low_text_keeps, open_keeps, refer_keeps, scale_keeps, table_keeps}
use Rattle.inf_limit_laws.proofs.Outputs.{text_keeps, word_keeps}
use Rattle.inf_limit_laws.proofs.Ways.{begun_ends, begun_lays, body_steps, close_as_ends, given_up_steps, lay_of, lays_end, lays_step, lays_then}
use Rattle.inf_limit_laws.proofs.Ways.{limits_end, nested_steps, report_steps, sized_steps, stays, step_of, steps_then, unit_ends}

-- Lemmas about open statements

module _ {limits : Limits} {context : Context} {was : Before} where
  pub constructs_lay : (w : Compilation) (laying : Laying (List Construct)) → LayingGives limits was laying
      → Lays limits context was w (constructs_laid laying w)
  constructs_lay w laying gives = record { on = λ e. e; kept = λ e h. (h.0, (h.1.0, gives.keeps w.output h.1.1)) }

  constructs_step : (w : Compilation) (laying : Laying (List Construct)) → LayingGives limits was laying
      → (Few limits w.output → Few limits (laying w.output).1) → Steps limits context was w (constructs_laid laying w)
  constructs_step w laying gives few = record {
    on = λ e. e;
    kept = λ e h. (h.0, (h.1.0, gives.keeps w.output h.1.1));
    few = λ e h k. few k;
  }

  pub joining_steps : (w : Compilation) → Steps limits context was w (construct_joined limits w)
  joining_steps w =
      constructs_step w (changed (between limits) w.constructs) (changed_gives limits (between limits) (between_gives limits) w.constructs)
      (joined_few limits w.constructs w.output)

  ending_steps : (w : Compilation) → Steps limits context was w (construct_ended limits w)
  ending_steps w = constructs_step w (ended limits w.constructs) (ended_gives limits w.constructs) (ended_few limits w.constructs w.output)

  pub ahead_lays : (count : ℕ) (w : Compilation) → Lays limits context was w (closed_ahead limits count w)
  ahead_lays count w = record {
    on = λ e. e;
    kept = λ e h. (h.0, (h.1.0, all_ended_keep limits (count - w.closed) w.constructs w.output h.1.1));
  }

-- Lemmas about changes of an output

low_added_keeps : {was : Before} (limits : Limits) (bytes : List ℕ) → was.abbreviations ≡ None → Keeps limits was (low_added limits bytes)
low_added_keeps {was} limits bytes none o h = go (low_fits limits bytes o.tables.low_strings)
  where
    go : (b : Bool) → Counted limits was (low_added_by limits b bytes o)
    go true = record {
      begun = h.begun;
      room = h.room;
      same = λ known is. let never : None ≡ Some known = sym none ∙ is in cc;
    }
    go false = table_keeps limits Setting.LowStrings o h

pub counted : {limits : Limits} {was : Before} {Q : Premises} → (Q Ending.Abbreviation → was.abbreviations ≡ None) → {o v : Out}
    → Grown limits Q o v → Counted limits was o → Counted limits was v
counted none Stays h = h
counted none (Follows f g) h = counted none g (counted none f h)
counted none (Gives {o} m) h = (laid_gives m).keeps o h
counted {limits} none (Opens {o} locals is_lost) h = open_keeps limits locals is_lost o h
counted {limits} none (Closes {o} kind) h = close_keeps limits kind o h
counted {limits} none (Scales {o} scale) h = scale_keeps limits scale o h
counted {limits} none (Passes {o} limit) h = table_keeps limits limit o h
counted {limits} none (Texts {o} text) h = text_keeps limits text o h
counted {limits} none (LowTexts {o} text) h = low_text_keeps limits text o h
counted {limits} none (Abbreviates {o} bytes q) h = low_added_keeps limits bytes (none q) o h
counted {limits} none (Uses {o} text how is_plural) h = word_keeps limits text how is_plural o h
counted {limits} none (Declares {o} name place m stands later) h = counted none later (declare_keeps limits name place m o h)
counted {limits} none (Refers {o} name place) h = refer_keeps limits name place o h
counted {limits} {was} none (Tables later same f) h =
    counted none later (subst (λ (r : Rest). IsCounted limits was r.0 r.2 r.3) (sym same) h)

-- Lemmas about changes within a unit

abbrev TalliesKept : Limits → Context → Before → Tallies → Type 0
TalliesKept limits context was t = (was.is_exact ≡ true → t.0 ≤ longest context) × (t.1 ≤ limits Setting.Labels)

module _ {limits : Limits} {context : Context} {was : Before} where
  pub laid : {Q : Premises} → (Q Ending.Abbreviation → was.abbreviations ≡ None) → {w v t : Compilation} {r : Reported}
      → Inner limits Q w r v t → Lays limits context was w v
  laid none (Puts {w} {v} g stay same) = record {
    on = λ e. subst (λ (t : Tallies). t.2.counts.is_over ≡ false) same e;
    kept = λ e h.
        let k = subst (λ (t : Tallies). TalliesKept limits context was t) (sym same) (h.0, h.1.0) in
        (k.0, (k.1, counted none g h.1.1));
  }
  laid none (Next f g) = lays_then (laid none f) (laid none g)
  laid none (Parts {w} trees m) = record {
    on = λ e. e;
    kept = λ e h. (h.0, (h.1.0, (alone_sound limits trees).keeps (apart w.output) h.1.1));
  }
  laid none (Cases {w}) = constructs_lay w (cases_begun limits w.constructs) (cases_gives limits w.constructs)
  laid none (Enters {w} is_default) = constructs_lay w (changed (entered limits is_default) w.constructs)
      (changed_gives limits (entered limits is_default) (entered_gives limits is_default) w.constructs)
  laid none (Loops {w} trees m) = constructs_lay w (looped_over limits trees w.constructs) (looped_over_gives limits trees w.constructs)
  laid none (Over {w}) = constructs_lay w (ended limits w.constructs) (ended_gives limits w.constructs)

  -- Walks

  pub walked : {Q : Premises} → (Q Ending.Abbreviation → was.abbreviations ≡ None) → {w v t : Compilation} {r : Reported}
      → Walk limits context Q w r v t → Steps limits context was w v
  walked none (Rests {w} {v} stay same) = record {
    on = λ e. subst (λ (t : Out × Tallies). t.1.2.counts.is_over ≡ false) same e;
    kept = λ e h. subst (λ (t : Out × Tallies).
        (was.is_exact ≡ true → t.1.0 ≤ longest context) × ((t.1.1 ≤ limits Setting.Labels) × Counted limits was t.0)) (sym same) h;
    few = λ e h k. subst (λ (t : Out × Tallies). reference_count t.0.code + references t.0.tables ≤ limits Setting.References) (sym same) k;
  }
  walked none (After f g) = steps_then (walked none f) (walked none g)
  walked none (Behind {r} g f next) = steps_then (walked none f) (walked none (next r))
  walked none (Nests {w} place is_deep) = nested_steps place is_deep w
  walked none (Says {w} place k words) =
      let at = location context.names place in report_steps w (with_words at k words) (remains (words_add at k words))
  walked none (Warns {w} has_warnings) = report_steps w (warnings_chosen has_warnings) (λ r free. free)
  walked none (Asks request q) = record { on = λ e. e; kept = λ e h. h; few = λ e h k. k }
  walked none (Sizes {w}) = sized_steps w
  walked none (Ends first has_last found v f) = lays_step (laid none f) (unit_ends first has_last found v)
  walked none (Finishes how place v f) = lays_step (laid none f) (close_as_ends how place v)
  walked none (Checks {w} first) = step_of (limits_end first w)
  walked none (Begins {w} {v} first f) = lays_step (lays_then (begun_lays w) (lay_of (walked none f))) (limits_end first v)
  walked none (Leaves {w}) = body_steps w
  walked none (GivesUp {w}) = given_up_steps w
  walked none (Starts {w} k) = constructs_step w (begun limits k w.constructs) (begun_gives limits k w.constructs)
      (begun_few limits k w.constructs w.output)
  walked none (Joins {w}) = joining_steps w
  walked none (Shuts {w}) = ending_steps w

-- Turns

pub ran : {limits : Limits} {context : Context} {strict : Bool} {w v : Compilation} → Runs limits context w v
    → Steps limits context (unfollowed strict) w v
ran (Nowhere {w}) = stays w
ran (Acts f) = walked {Q = free} (λ q. refl) f
ran (Then f g) = steps_then (ran f) (ran g)
ran (Tells {w} tell remains) = report_steps w tell remains
ran {limits} (Settles {w} count files place) =
    step_of (lays_end (ahead_lays count w) (begun_ends files place (closed_ahead limits count w)))

-- Lemmas about actions of the grammar, tokens, and cuts

module _ {limits : Limits} {context : Context} {was : Before} where
  pub act_steps : (place : Place) (a : Action) (w : Compilation) → (role_of a ≡ Role.End Ending.Abbreviation → was.abbreviations ≡ None)
      → Steps limits context was w (act limits context place a w)
  act_steps place a w none = walked {Q = λ e. e ≡ Ending.Abbreviation → was.abbreviations ≡ None} (λ q. q refl)
      (act_walks place a w (λ e is same. none (is ∙ ap Role.End same)) w.report)

  pub took_steps : (t : SourceToken) (w : Compilation) → Steps limits context was w (took context t w)
  took_steps t w = walked {Q = λ e. ⊥} (λ q. absurd q) (took_walks t w w.report)

  pub cut_at_steps : (place : Place) (w : Compilation) → Steps limits context was w (cut_at limits context place w)
  cut_at_steps place w = walked {Q = λ e. ⊥} (λ q. absurd q) (cut_at_walks place w w.report)
