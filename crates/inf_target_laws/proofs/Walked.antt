-- Walks keep targets, and so do statements that hold others and their steps; and targets stand from the start of a reading on, turn by
-- turn, and behind the supplied routines.
use Rattle.std.specs.Prelude.{unwrap_or}
use Rattle.std.proofs.Common.{Bool, List, None, Option, Some, [], arith, false, if◌then◌else◌, length, refl, subst, suc, sym, true, zero, ℕ}
use Rattle.std.proofs.Common.{◌-◌, ◌∷◌, ◌≡◌}
use Rattle.inf_expressions.specs.{Questions.children_of, Rooted.Rooted, Trees.Tree}
use Rattle.inf_scanner.specs.declared.tokens.Place.{Place}
use Rattle.inf_settings.specs.Bounds.{Limits, limits_of}
use Rattle.inf_tables.specs.{World.no_body_fault, declared.faults.WorldFault.WorldFault}
use Rattle.inf_opcode.specs.declared.instructions.Label.{Label}
use Rattle.inf_assembler.specs.declared.routines.RoutineKind.{RoutineKind}
use Rattle.inf_devices.specs.Files.{Sources}
use Rattle.inf_output.specs.{Output.Out, Output.apart, Output.items_of, Output.laid_all, declared.items.Item.Item}
use Rattle.inf_syntax.specs.declared.actions.Action.{Action}
use Rattle.inf_unit.specs.{Messages.FileNames, Messages.Reported, Tokens.SourceToken, Units.long_at}
use Rattle.inf_constructs.specs.{declared.constructs.Case.Case, declared.constructs.Construct.Construct, declared.constructs.Kind.Kind}
use Rattle.inf_constructs.specs.Constructs.{Laying, all_ended, begun, between, case_closed, cases_begun, changed, closed, ended, ending}
use Rattle.inf_constructs.specs.Constructs.{entered, entered_by, looped, looped_by, looped_over, opened, stepped}
use Rattle.inf_statements.specs.Statements.{alone}
use Rattle.inf_compilation.specs.{Context.Context, Context.longest, Findings.Findings}
use Rattle.inf_compilation.specs.Actions.{Compilation, begun_at, close_as, nested, sized, stopped, took, unit_ended, world_ended}
use Rattle.inf_compilation.specs.Actions.{world_ended_by}
use Rattle.inf_compilation.specs.Nesting.{closed_ahead, construct_ended, construct_joined, constructs_laid}
use Rattle.inf_named_values.specs.Declarations.{with_world}
use Rattle.inf_conditionals.specs.{Judging.judged, Said.Right, Said.Said, declared.filtered.Filtered.Filtered}
use Rattle.inf_reader.specs.{Acting.act, Acting.cut_at, Reading.ReaderState}
use Rattle.inf_reader.specs.Handing.{judged_taken, lone_told, said_told, sign_taken, site_of, token_taken}
use Rattle.inf_ending.specs.Ending.{first_place}
use Rattle.inf_session.specs.Choices.{Choices}
use Rattle.inf_session.specs.Session.{State, context_of, has_ended, rested, stand_of, start, stepped as turned, token_of, turn}
use Rattle.inf_session.specs.Veneer.{in_text, text_begun, text_front, text_read, text_turns, veneer_text}
use Rattle.inf_code_walk.specs.Made.{TreesMeet}
use Rattle.inf_code_walk.proofs.Statements.{alone_made, between_laid, case_closed_made, entered_laid, looped_laid, looped_on_made}
use Rattle.inf_code_walk.proofs.Statements.{opened_laid}
use Rattle.inf_step_walk.specs.Standing.{Before, Holds, ItemsStand, StepsStand, is_short}
use Rattle.inf_step_walk.specs.Walking.{Acts, After, Asks, Begins, Behind, Cases, Checks, Ends, Enters, Finishes, GivesUp, Inner, Joins}
use Rattle.inf_step_walk.specs.Walking.{Leaves, Loops, Nests, Next, Nowhere, Over, Parts, Premises, Puts, Rests, RootsMeet, Runs, Says}
use Rattle.inf_step_walk.specs.Walking.{Settles, Shuts, Sizes, Starts, Stood, Tallies, Tells, Then, Walk, Warns, free}
use Rattle.inf_step_walk.proofs.{Actions.act_steps as act_walks, Actions.cut_at_steps as cut_at_walks, Actions.took_steps as took_walks}
use Rattle.inf_step_walk.proofs.{Lists.end_holds, Premises.There, Premises.roots_more}
use Rattle.inf_step_walk.proofs.Outputs.{Goes, GoesIf, Sound, begin_keeps, close_keeps, goes_nowhere, items_keep, none_open_keeps}
use Rattle.inf_step_walk.proofs.Pieces.{GivesIf, fixed_stand, goes, laid_by, made_by, made_sound, sound_jump, sound_mark, sound_then}
use Rattle.inf_limit_laws.specs.Reached.{Here, IsBehind, IsReached, Supplies, Turns}
use Rattle.inf_limit_laws.proofs.Turns.{actions_grow, between_walks, ended_walks, followed_goes, rested_goes}
use Rattle.inf_target_laws.specs.Laws.{Held, Leads, StepsKeepTargets, TargetsStand}

-- A step by the limits and the context at hand, which lemmas find in it
pub record Steps (limits : Limits) (context : Context) (u : Out) (w v : Compilation) : Type 0 where
  pub on : Before u v.output → Before u w.output
  pub kept : Before u v.output → Held u w → Held u v

module _ {limits : Limits} {context : Context} {u : Out} where
  pub steps_then : {a b c : Compilation} → Steps limits context u a b → Steps limits context u b c → Steps limits context u a c
  steps_then {a} {b} {c} f g = record { on = λ e. f.on (g.on e); kept = λ e h. g.kept e (f.kept (g.on e) h) }

  -- nothing happens
  pub stays : (w : Compilation) → Steps limits context u w w
  stays w = record { on = λ e. e; kept = λ e h. h }

  -- the output is another one
  pub output_steps : (w : Compilation) (o : Out) → Goes u w.output o → Steps limits context u w (record w { output = o })
  output_steps w o g = record { on = g.0; kept = λ e h. (g.1 e h.0, h.1) }

  -- the report is another one
  pub report_steps : (w : Compilation) (r : Reported) → Steps limits context u w (record w { report = r })
  report_steps w r = record { on = λ e. e; kept = λ e h. h }

  pub unit_ends : (first : Place) (has_last : Bool) (found : Findings) (w : Compilation)
      → Steps limits context u w (unit_ended limits context first has_last found w)
  unit_ends first has_last found w = record { on = λ e. e; kept = λ e h. h }

  pub begun_ends : (files : FileNames) (first : Place) (w : Compilation) → Steps limits context u w (begun_at limits files first w)
  begun_ends files first w =
      let g = begin_keeps limits u w.output in record { on = g.0; kept = λ e h. (g.1 e h.0, h.1) }

  stopped_steps : (p : Option Place) (w : Compilation) → Steps limits context u w (stopped context p w)
  stopped_steps None w = record { on = λ e. e; kept = λ e h. h }
  stopped_steps (Some place) w = record { on = λ e. e; kept = λ e h. h }

  pub sized_steps : (w : Compilation) → Steps limits context u w (sized context w)
  sized_steps w = stopped_steps (long_at (longest context) w.unit) w

  pub nested_steps : (place : Place) (is_deep : Bool) (w : Compilation) → Steps limits context u w (nested context place is_deep w)
  nested_steps place true w = record { on = λ e. e; kept = λ e h. h }
  nested_steps place false w = stays w

-- Lemmas about statements that hold others

pub between_gives : {u : Out} {P : Type 0} (limits : Limits) (c : Construct) → GivesIf limits u P (between limits c)
between_gives {u} {P} limits c = laid_by (λ t h. h) (between_laid limits (There u P) c)

case_closed_sound : {u : Out} {P : Type 0} (limits : Limits) (c : Case) (end : Label) → Sound limits u P (case_closed limits c end)
case_closed_sound {u} {P} limits c end = made_sound (case_closed_made limits (There u P) c end)

step_sound : {u : Out} {P : Type 0} (limits : Limits) (items : List Item) → (P → ItemsStand u items)
    → Sound limits u P (laid_all limits items)
step_sound {u} {P} limits items h = record { keeps = items_keep limits u P items h }

ending_sound : {u : Out} {P : Type 0} (limits : Limits) (c : Construct) → (P → ItemsStand u (items_of c.step)) → (k : Kind)
    → Sound limits u P (ending limits c k)
ending_sound {u} {P} limits c h Kind.If = sound_mark c.next
ending_sound {u} {P} limits c h Kind.Else = sound_mark c.end
ending_sound {u} {P} limits c h Kind.While = sound_then (sound_jump c.next) (sound_mark c.end)
ending_sound {u} {P} limits c h Kind.Do = sound_mark c.end
ending_sound {u} {P} limits c h Kind.For = sound_then (sound_mark c.next) (sound_then (step_sound limits (items_of c.step) h)
    (sound_then (sound_jump c.top) (sound_mark c.end)))
ending_sound {u} {P} limits c h (Kind.Objects how v) =
    sound_then (sound_mark c.next) (sound_then (made_sound (looped_on_made limits (There u P) (fixed_stand u P) how v c.top))
    (sound_mark c.end))
ending_sound {u} {P} limits c h (Kind.Switch old had_default) = sound_then (case_closed_sound limits old c.end) (sound_mark c.end)
ending_sound {u} {P} limits c h (Kind.Cases old had_default) = sound_then (case_closed_sound limits old c.end) (sound_mark c.end)

closed_sound : {u : Out} {P : Type 0} (limits : Limits) (c : Construct) → (P → ItemsStand u (items_of c.step))
    → Sound limits u P (closed limits c)
unfolding closed
closed_sound {u} {P} limits c h = ending_sound limits c h c.kind

pub entered_gives : {u : Out} {P : Type 0} (limits : Limits) (is_default : Bool) (c : Construct)
    → GivesIf limits u P (entered limits is_default c)
entered_gives {u} {P} limits is_default c = laid_by (λ t h. h) (entered_laid limits (There u P) is_default c)

-- Open statements: with a change of these their steps stand, too.
pub record Moves (limits : Limits) (u : Out) (P : Type 0) (constructs : List Construct) (laying : Laying (List Construct)) : Type 0 where
  pub keeps : (o : Out) → GoesIf (P × StepsStand u constructs) u o (laying o).1
  pub steps : StepsStand u constructs → (o : Out) → StepsStand u (laying o).0

-- a change of the innermost statement leaves its step as it is
abbrev pub LeavesStep : (Construct → Laying Construct) → Type 0
LeavesStep change = (c : Construct) (o : Out) → (change c o).0.step ≡ c.step

pub between_leaves : (limits : Limits) → LeavesStep (between limits)
unfolding between
between_leaves limits c o = refl

entered_step : (limits : Limits) (k : Kind) (is_default : Bool) (c : Construct) (o : Out)
    → (entered_by limits k is_default c o).0.step ≡ c.step
entered_step limits (Kind.Switch old had_default) true c o = refl
entered_step limits (Kind.Switch old had_default) false c o = refl
entered_step limits (Kind.Cases old had_default) true c o = refl
entered_step limits (Kind.Cases old had_default) false c o = refl
entered_step limits kind is_default c o = refl

pub entered_leaves : (limits : Limits) (is_default : Bool) → LeavesStep (entered limits is_default)
unfolding entered
entered_leaves limits is_default c o = entered_step limits c.kind is_default c o

looped_step : (limits : Limits) (parent : Option Tree) (e : Tree) (v : ℕ) (c : Construct) (o : Out)
    → (looped_by limits parent e v c o).0.step ≡ c.step
looped_step limits None e v c o = refl
looped_step limits (Some parent) e v c o = refl

looped_leaves : (limits : Limits) (r : Rooted) → LeavesStep (looped limits r)
unfolding looped
looped_leaves limits r c o = looped_step limits (children_of r.tree) r.tree (unwrap_or r.origin.lead.variable 0) c o

opened_step : (limits : Limits) (k : Kind) (o : Out) → (opened limits k o).0.step ≡ None
unfolding opened
opened_step limits k o = refl

step_stands : (u : Out) (a b : Option (List Item)) → a ≡ b → ItemsStand u (items_of b) → ItemsStand u (items_of a)
step_stands u a b same h = subst (λ (s : Option (List Item)). ItemsStand u (items_of s)) (sym same) h

pub begun_moves : {u : Out} {P : Type 0} (limits : Limits) (k : Kind) (constructs : List Construct)
    → Moves limits u P constructs (begun limits k constructs)
begun_moves {u} {P} limits k constructs = record {
  keeps = λ o. let g =
      (laid_by {limits = limits} {u = u} {P = P} (λ t h. h) (opened_laid limits (There u P) k)).keeps o in (g.0, (λ p. g.1 p.0));
  steps = λ h o. (step_stands u (opened limits k o).0.step None (opened_step limits k o) tt, h);
}

pub changed_moves : {u : Out} {P : Type 0} (limits : Limits) (change : Construct → Laying Construct)
    → ((c : Construct) → GivesIf limits u P (change c)) → LeavesStep change → (constructs : List Construct)
    → Moves limits u P constructs (changed change constructs)
changed_moves {u} {P} limits change each leaves [] = record { keeps = λ o. ((λ e. e), (λ p e h. h)); steps = λ h o. tt }
changed_moves {u} {P} limits change each leaves (c ∷ constructs) = record {
  keeps = λ o. let g = (each c).keeps o in (g.0, (λ p. g.1 p.0));
  steps = λ h o. (step_stands u (change c o).0.step c.step (leaves c o) h.0, h.1);
}

pub cases_moves : {u : Out} {P : Type 0} (limits : Limits) (constructs : List Construct)
    → Moves limits u P constructs (cases_begun limits constructs)
cases_moves {u} {P} limits [] =
    let m : Moves limits u P [] (begun limits (Kind.Cases Case.Nothing false) []) = begun_moves limits (Kind.Cases Case.Nothing false) [] in
    record { keeps = m.keeps; steps = m.steps }
cases_moves {u} {P} limits (c ∷ constructs) = record { keeps = λ o. ((λ e. e), (λ p e h. h)); steps = λ h o. h }

closed_keeps : (limits : Limits) (u : Out) (P : Type 0) (c : Construct) (constructs : List Construct) (o : Out)
    → GoesIf (P × StepsStand u (c ∷ constructs)) u o (closed limits c o)
closed_keeps limits u P c constructs o =
    let s : Sound limits u (P × StepsStand u (c ∷ constructs)) (closed limits c) = closed_sound limits c (λ p. p.1.0) in s.keeps o

pub ended_moves : {u : Out} {P : Type 0} (limits : Limits) (constructs : List Construct)
    → Moves limits u P constructs (ended limits constructs)
ended_moves {u} {P} limits [] = record { keeps = λ o. ((λ e. e), (λ p e h. h)); steps = λ h o. tt }
ended_moves {u} {P} limits (c ∷ constructs) = record { keeps = closed_keeps limits u P c constructs; steps = λ h o. h.1 }

pub all_ended_goes : (limits : Limits) (u : Out) (n : ℕ) (constructs : List Construct) (o : Out)
    → GoesIf (StepsStand u constructs) u o (all_ended limits n constructs o).1
all_ended_goes limits u zero constructs o = ((λ e. e), (λ p e h. h))
all_ended_goes limits u (suc n) constructs o =
    let m : Moves limits u (Unit {0}) constructs (ended limits constructs) = ended_moves limits constructs in
    let next = ended limits constructs o in
    let f = m.keeps o in
    let g = all_ended_goes limits u n next.0 next.1 in
    ((λ e. f.0 (g.0 e)), (λ p e h. g.1 (m.steps p o) e (f.1 (tt, p) (g.0 e) h)))

pub all_ended_steps : (limits : Limits) (u : Out) (n : ℕ) (constructs : List Construct) (o : Out) → StepsStand u constructs
    → StepsStand u (all_ended limits n constructs o).0
all_ended_steps limits u zero constructs o h = h
all_ended_steps limits u (suc n) constructs o h =
    let m : Moves limits u (Unit {0}) constructs (ended limits constructs) = ended_moves limits constructs in
    let next = ended limits constructs o in
    all_ended_steps limits u n next.0 next.1 (m.steps h o)

pub looped_over_moves : {u : Out} {P : Type 0} (limits : Limits) (trees : List Rooted) → RootsMeet (There u P) trees
    → (constructs : List Construct) → Moves limits u P constructs (looped_over limits trees constructs)
looped_over_moves {u} {P} limits [] k constructs = record { keeps = λ o. ((λ e. e), (λ p e h. h)); steps = λ h o. h }
looped_over_moves {u} {P} limits (r ∷ trees) k constructs =
    let m : Moves limits u P constructs (changed (looped limits r) constructs) =
    changed_moves limits (looped limits r) (λ c. laid_by (λ t h. h) (looped_laid limits (There u P) r k.0 c)) (looped_leaves limits r)
    constructs in
    record { keeps = m.keeps; steps = m.steps }

-- Lemmas about walks

-- Lemmas about open statements

module _ {limits : Limits} {context : Context} {u : Out} where
  constructs_step : (P : Type 0) (w : Compilation) (laying : Laying (List Construct)) → (Before u (laying w.output).1 → P)
      → Moves limits u P w.constructs laying → Steps limits context u w (constructs_laid laying w)
  constructs_step P w laying given m = record {
    on = (m.keeps w.output).0;
    kept = λ e h. ((m.keeps w.output).1 (given e, h.1) e h.0, m.steps h.1 w.output);
  }

  pub joining_steps : (w : Compilation) → Steps limits context u w (construct_joined limits w)
  joining_steps w = constructs_step (Unit {0}) w (changed (between limits) w.constructs) (λ e. tt)
      (changed_moves limits (between limits) (between_gives limits) (between_leaves limits) w.constructs)

  ending_steps : (w : Compilation) → Steps limits context u w (construct_ended limits w)
  ending_steps w = constructs_step (Unit {0}) w (ended limits w.constructs) (λ e. tt) (ended_moves limits w.constructs)

  pub ahead_steps : (count : ℕ) (w : Compilation) → Steps limits context u w (closed_ahead limits count w)
  ahead_steps count w =
      let n = count - w.closed in
      let g = all_ended_goes limits u n w.constructs w.output in
      record { on = g.0; kept = λ e h. (g.1 h.1 e h.0, all_ended_steps limits u n w.constructs w.output h.1) }

-- code that is kept apart becomes the step of the innermost statement
step_held : (u o : Out) (constructs : List Construct) → Holds u o → StepsStand u constructs
    → Holds u (stepped constructs o).1 × StepsStand u (stepped constructs o).0
step_held u o [] h k = ((record { of_finished = h.0.of_finished; of_opened = h.0.of_opened; of_kept = tt }, h.1), tt)
step_held u o (c ∷ constructs) h k =
    ((record { of_finished = h.0.of_finished; of_opened = h.0.of_opened; of_kept = tt }, h.1), (h.0.of_kept, k.1))

module _ {limits : Limits} {context : Context} {u : Out} where
  parts_step : (trees : List Tree) (w : Compilation) → TreesMeet (Stood w.output) trees
      → Steps limits context u w (constructs_laid (λ o. stepped w.constructs (alone limits trees (apart o))) w)
  parts_step trees w m =
      let g = (made_by {u = u} {P = Before u w.output} {L = Stood w.output} (λ t s e. s u e)
      (alone_made limits (Stood w.output) trees m)).keeps (apart w.output) in
      record {
        on = g.0;
        kept = λ e k.
            let aside : Holds u (apart w.output) =
            (record { of_finished = k.0.0.of_finished; of_opened = k.0.0.of_opened; of_kept = tt }, k.0.1) in
            step_held u (alone limits trees (apart w.output)) w.constructs (g.1 (g.0 e) e aside) k.1;
      }

  loops_step : (trees : List Rooted) (w : Compilation) → RootsMeet (Stood w.output) trees
      → Steps limits context u w (constructs_laid (looped_over limits trees w.constructs) w)
  loops_step trees w m =
      let v : Moves limits u (Before u w.output) w.constructs (looped_over limits trees w.constructs) =
      looped_over_moves limits trees (roots_more {L =
      Stood w.output} {M = There u (Before u w.output)} (λ t s e. s u e) trees m) w.constructs in
      constructs_step (Before u w.output) w (looped_over limits trees w.constructs) (v.keeps w.output).0 v

-- Lemmas about changes within a unit

pub inner_steps : {limits : Limits} {context : Context} {Q : Premises} {w v t : Compilation} {r : Reported} → Inner limits Q w r v t
    → (u : Out) → Steps limits context u w v
inner_steps (Puts g stay same) u = record { on = (goes g u).0; kept = λ e h. ((goes g u).1 e h.0, stay u h.1) }
inner_steps (Next f g) u = steps_then (inner_steps f u) (inner_steps g u)
inner_steps (Parts {w} trees m) u = parts_step trees w m
inner_steps {limits} (Cases {w}) u =
    constructs_step (Unit {0}) w (cases_begun limits w.constructs) (λ e. tt) (cases_moves limits w.constructs)
inner_steps {limits} (Enters {w} is_default) u = constructs_step (Unit {0}) w (changed (entered limits is_default) w.constructs) (λ e. tt)
    (changed_moves limits (entered limits is_default) (entered_gives limits is_default) (entered_leaves limits is_default) w.constructs)
inner_steps (Loops {w} trees m) u = loops_step trees w m
inner_steps {limits} (Over {w}) u = constructs_step (Unit {0}) w (ended limits w.constructs) (λ e. tt) (ended_moves limits w.constructs)

-- Lemmas about walks

close_as_steps : {limits : Limits} {context : Context} {u : Out} (how : RoutineKind) (place : Place) (w : Compilation)
    → Steps limits context u w (close_as limits how context place w)
close_as_steps {limits} {context} {u} how place w =
    let g = close_keeps limits u how w.output in record { on = g.0; kept = λ e h. (g.1 e h.0, h.1) }

ended_keeps : (u o : Out) → Goes u o (world_ended o)
ended_keeps u o = go (no_body_fault o.tables.world)
  where
    go : (f : Option WorldFault) → Goes u o (with_world (world_ended_by f o.tables.world) o)
    go None = ((λ e. e), (λ e h. (h.0, (h.1.0, (end_holds u o.tables.world h.1.1.0, h.1.1.1)))))
    go (Some f) = goes_nowhere u o

pub walk_steps : {limits : Limits} {context : Context} {Q : Premises} {w v t : Compilation} {r : Reported}
    → Walk limits context Q w r v t → (u : Out) → Steps limits context u w v
walk_steps (Rests stay same) u = record {
  on = λ e. subst (λ (t : Out × Tallies). Before u t.0) same e;
  kept = λ e h. (subst (λ (t : Out × Tallies). Holds u t.0) (sym same) h.0, stay u h.1);
}
walk_steps (After f g) u = steps_then (walk_steps f u) (walk_steps g u)
walk_steps (Behind {r} g f next) u = steps_then (walk_steps f u) (walk_steps (next r) u)
walk_steps (Nests {w} place is_deep) u = nested_steps place is_deep w
walk_steps (Says {w} place k words) u = report_steps w _
walk_steps (Warns {w} has_warnings) u = report_steps w _
walk_steps (Asks request q) u = record { on = λ e. e; kept = λ e h. h }
walk_steps (Sizes {w}) u = sized_steps w
walk_steps (Ends first has_last found v f) u = steps_then (inner_steps f u) (unit_ends first has_last found v)
walk_steps (Finishes how place v f) u = steps_then (inner_steps f u) (close_as_steps how place v)
walk_steps (Checks {w} first) u = report_steps w _
walk_steps {limits} (Begins {w} {v} first f) u =
    steps_then (output_steps w _ (begin_keeps limits u w.output)) (steps_then (walk_steps f u) (report_steps v _))
walk_steps (Leaves {w}) u = output_steps w (world_ended w.output) (ended_keeps u w.output)
walk_steps (GivesUp {w}) u = output_steps w _ (none_open_keeps u w.output)
walk_steps {limits} (Starts {w} k) u =
    constructs_step (Unit {0}) w (begun limits k w.constructs) (λ e. tt) (begun_moves limits k w.constructs)
walk_steps (Joins {w}) u = joining_steps w
walk_steps (Shuts {w}) u = ending_steps w

module _ {limits : Limits} {context : Context} {u : Out} where
  pub ran : {w v : Compilation} → Runs limits context w v → Steps limits context u w v
  ran (Nowhere {w}) = stays w
  ran (Acts f) = walk_steps f u
  ran (Then f g) = steps_then (ran f) (ran g)
  ran (Tells {w} tell remains) = report_steps w (tell w.report)
  ran (Settles {w} count files place) = steps_then (ahead_steps count w) (begun_ends files place (closed_ahead limits count w))

  -- Actions of the grammar, tokens, and cuts

  pub act_steps : (place : Place) (a : Action) (w : Compilation) → Steps limits context u w (act limits context place a w)
  act_steps place a w = walk_steps {Q = free} (act_walks place a w (λ e is. tt) w.report) u

  pub took_steps : (t : SourceToken) (w : Compilation) → Steps limits context u w (took context t w)
  took_steps t w = walk_steps {Q = free} (took_walks t w w.report) u

  pub cut_at_steps : (place : Place) (w : Compilation) → Steps limits context u w (cut_at limits context place w)
  cut_at_steps place w = walk_steps {Q = free} (cut_at_walks place w w.report) u

  -- Messages about a condition. One that is right has its actions appear, before its directive ends.
  told_steps : (said : Option Said) (s : ReaderState) → Steps limits context u s.work (said_told limits said context s).work
  told_steps (Some (Right tokens leaves)) s =
      let g = goes (actions_grow {limits = limits} tokens leaves s.work.output) u in record { on = g.0; kept = λ e h. (g.1 e h.0, h.1) }
  told_steps other s = record { on = λ e. e; kept = λ e h. h }

  turned_steps : (t : SourceToken) (j : Filtered) (said : Option Said) (s : ReaderState)
      → Steps limits context u s.work (judged_taken limits context t j (said_told limits said context s)).work
  turned_steps t j said s =
      let told = said_told limits said context s in
      steps_then (told_steps said s) (steps_then (ran (between_walks t j told)) (ran (ended_walks j.ended
      (lone_told j.unmatched context (token_taken limits j.token context t (sign_taken limits j.sign context told))))))

-- States

-- one turn of tokens
pub stepped_steps : {u : Out} (limits : Limits) (o : Choices) (s : State) → Steps limits (context_of o s) u s.work (turned limits o s).work
stepped_steps limits o s =
    let site = site_of (context_of o s).settings s.reading in
    let b = judged site s.work.output (token_of s) s.conditions in
    turned_steps (token_of s) b.judged b.now.said (stand_of s)

pub rested_steps : {limits : Limits} {context : Context} {u : Out} (s : State) → Steps limits context u s.work (rested s).work
rested_steps s = ran (rested_goes s).runs

-- a whole turn
pub turn_steps : {u : Out} (limits : Limits) (sources : Sources) (o : Choices) (s : State)
    → Steps limits (context_of o s) u s.work (turn limits sources o s).work
turn_steps limits sources o s =
    let t = turned limits o s in
    steps_then (stepped_steps limits o s) (steps_then (ran (followed_goes sources o t).runs) (record { on = λ e. e; kept = λ e h. h }))

-- From the start on

-- all targets of a state stand in each output before which its own comes
pub record Stands (u : Out) (s : State) : Type 0 where
  pub held : Before u s.work.output → Held u s.work

stands_by : {u : Out} {limits : Limits} {context : Context} (s t : State) → Steps limits context u s.work t.work → Stands u s → Stands u t
stands_by {u} {limits} {context} s t f h = record { held = λ e. f.kept e (h.held (f.on e)) }

-- Supplied routines

either_stands : {u : Out} (b : Bool) (s t : State) → Stands u s → Stands u t → Stands u (if b then s else t)
either_stands true s t h k = h
either_stands false s t h k = k

turns_stand : (u : Out) (o : Choices) (n : ℕ) (s : State) → Stands u s → Stands u (text_turns (limits_of o.settings) o n s)
turns_stand u o zero s h = h
turns_stand u o (suc n) s h =
    let t = turned (limits_of o.settings) o s in
    let f : Steps (limits_of o.settings) (context_of o s) u s.work (rested t).work =
    steps_then (stepped_steps (limits_of o.settings) o s) (rested_steps t) in
    either_stands (has_ended s) s (text_turns (limits_of o.settings) o n (rested t)) h
    (turns_stand u o n (rested t) (stands_by s (rested t) f h))

read_stands : (u : Out) (o : Choices) (n : ℕ) (s : State) → Stands u s → Stands u (text_read (limits_of o.settings) o n s)
read_stands u o n s h =
    let begun = in_text (text_front o n s) (text_begun s) in
    let t = turns_stand u o (suc (length (veneer_text n))) begun (record { held = h.held }) in
    record { held = t.held }

behind_stands : (u : Out) (sources : Sources) (o : Choices) {s t : State} → IsBehind sources o s t → Stands u s → Stands u t
behind_stands u sources o Here h = h
behind_stands u sources o (Turns {t} behind) h =
    stands_by t (turn (limits_of o.settings) sources o t) (turn_steps (limits_of o.settings) sources o t)
    (behind_stands u sources o behind h)
behind_stands u sources o (Supplies {t} number behind) h = read_stands u o number t (behind_stands u sources o behind h)

-- The start has no code, no names and nothing in its tables.
start_stands : (u : Out) (sources : Sources) (o : Choices) (name : List ℕ) → Stands u (start sources o name)
start_stands u sources o name = record {
  held = λ e. (
    (
      record { of_finished = tt; of_opened = tt; of_kept = tt },
      (
        record { of_arrays = (tt, tt); of_globals = tt; of_verbs = tt; of_actions = tt; of_parsing = tt },
        (record { of_declared = tt; of_objects = tt; of_own = tt; of_above = tt }, tt),
      ),
    ),
    tt,
  );
}

-- an output comes before itself, where no limit was passed
itself : (u : Out) → is_short u ≡ false → Before u u
itself u free = record { complete = free; few_names = omega arith; has_words = λ text has. has }

pub reached_stands : (u : Out) (sources : Sources) (o : Choices) (name : List ℕ) (s : State) → IsReached sources o name s → Stands u s
reached_stands u sources o name s reached = behind_stands u sources o reached (start_stands u sources o name)

pub end_stands : (sources : Sources) (o : Choices) (name : List ℕ) (s : State) → IsReached sources o name s
    → let w = begun_at (limits_of o.settings) s.nesting.names first_place s.work in is_short w.output ≡ false → Held w.output w
end_stands sources o name s reached free =
    let w = begun_at (limits_of o.settings) s.nesting.names first_place s.work in
    let f : Steps (limits_of o.settings) (context_of o s) w.output s.work w = begun_ends s.nesting.names first_place s.work in
    let e = itself w.output free in
    f.kept e ((reached_stands w.output sources o name s reached).held (f.on e))

pub targets_stand : (sources : Sources) (o : Choices) → TargetsStand sources o
targets_stand sources o = record {
  states = λ name s reached free. (reached_stands s.work.output sources o name s reached).held (itself s.work.output free);
  ends = end_stands sources o;
}

-- Steps

leads : {limits : Limits} {context : Context} (u : Out) (w v : Compilation) → Steps limits context u w v → Leads u w v
leads u w v f = record { on = f.on; kept = f.kept }

pub steps_keep_targets : (limits : Limits) → StepsKeepTargets limits
steps_keep_targets limits = record {
  action = λ u context place a w. leads {limits = limits} {context = context} u w _ (act_steps place a w);
  token = λ u context t w. leads {limits = limits} {context = context} u w _ (took_steps t w);
  cut = λ u context place w. leads {limits = limits} {context = context} u w _ (cut_at_steps place w);
  conditional = λ u files first w.
      let g = begin_keeps limits u w.output in record { on = g.0; kept = λ e h. (g.1 e h.0, h.1) };
}
