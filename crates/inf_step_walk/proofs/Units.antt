-- Changes and walks put together, and the units of a routine.
use Rattle.std.proofs.Common.{Bool, List, None, Option, Some, [], ap, false, if◌then◌else◌, is_some, length, map, nat_lt, refl, subst, sym}
use Rattle.std.proofs.Common.{true, ℕ, ◌∙◌, ◌∷◌, ◌≡◌}
use Rattle.inf_expressions.specs.{Findings.out_of_range, Rooted.Rooted, Trees.Leaf as LeafTree, Trees.Tree}
use Rattle.inf_expressions.specs.{declared.findings.Finding.Finding, declared.operators.Operand.Operand, declared.units.Wanted.Wanted}
use Rattle.inf_scanner.specs.declared.tokens.Place.{Place}
use Rattle.inf_gathering.specs.declared.gathering.Leaf.{Leaf}
use Rattle.inf_settings.specs.Bounds.{Limits}
use Rattle.inf_dictionary.specs.declared.uses.WordUse.{WordUse}
use Rattle.inf_assembler.specs.declared.routines.RoutineKind.{RoutineKind}
use Rattle.inf_names.specs.{Locals.Headed, NameSets.with_name, Spellings.Name, Symbols.declare_fault, Symbols.found_in as found_in_names}
use Rattle.inf_names.specs.{declared.meanings.Meaning.Meaning, declared.symbols.DeclareFault.DeclareFault, declared.symbols.Found.Found}
use Rattle.inf_code.specs.Code.{place_behind}
use Rattle.inf_output.specs.Output.{Code, Out, declared, opened, referred, with_word}
use Rattle.inf_unit.specs.Messages.{Reported}
use Rattle.inf_unit.specs.Units.{Unit as SourceUnit, first_place, last_place, name_order, names_in}
use Rattle.inf_constructs.specs.{Roots.tree_in, declared.constructs.Kind.Kind}
use Rattle.inf_constructs.specs.Constructs.{are_own, begun, cases_begun, condition_label, ended, next_case}
use Rattle.inf_operands.specs.Operands.{leaf_added}
use Rattle.inf_statements.specs.{Effects.statement_laid, declared.statements.Statement.Statement}
use Rattle.inf_compilation.specs.{Context.Context, Nesting.construct_closed, Nesting.construct_opened, Nesting.constructs_laid}
use Rattle.inf_compilation.specs.Actions.{Compilation, as_constant, cases_ended, close, constant, constant_added, constant_declared}
use Rattle.inf_compilation.specs.Actions.{constant_finding, constant_findings, constant_meaning, constant_of, declared_meaning, finding_at}
use Rattle.inf_compilation.specs.Actions.{header_end, header_named, header_of, header_with, is_deep, is_first_declared, is_to_be_replaced}
use Rattle.inf_compilation.specs.Actions.{kind_ended, leaf_meaning, named, named_leaf, new_stub, opened_with, operands_of, passed, replace}
use Rattle.inf_compilation.specs.Actions.{routine_declared, settled_of, stub, stub_code, stub_locals, stubbed, trees_at, unit_ended}
use Rattle.inf_compilation.specs.Findings.{Findings, again_by, found_alone, header_findings, nothing_found}
use Rattle.inf_parts.specs.declared.parts.Part.{Part}
use Rattle.inf_parts.specs.Parts.{actions_named, case_prepared, found_in, has_last, is_default, order_of, part_begun, part_carried}
use Rattle.inf_parts.specs.Parts.{part_effect, part_ended, part_finished, part_prepared, place_of, site_of, wanted_of}
use Rattle.inf_directives.specs.Defaults.{default}
use Rattle.inf_code_walk.specs.Made.{Lays, Made}
use Rattle.inf_code_walk.proofs.Statements.{alone_made, case_made, statement_is_laid, switched_made, tested_made}
use Rattle.inf_step_walk.specs.Standing.{Before, MeaningStands, NamesStand}
use Rattle.inf_step_walk.specs.Walking.{Behind, Cases, Closes, Declares, Ends, Enters, Finishes, Follows, Gives, Grown, Inner, Lies, Loops}
use Rattle.inf_step_walk.specs.Walking.{Nests, Next, Opens, Over, Parts, Premises, Puts, Refers, Rests, RootsMeet, Shuts, Starts, Stays}
use Rattle.inf_step_walk.specs.Walking.{StepsStay, Stood, Walk, Walks, free, tallies, with_report}
use Rattle.inf_step_walk.proofs.{Lists.FoundStands, Lists.found_meaning, Lists.no_some, Outputs.word_stands, Pieces.before}
use Rattle.inf_step_walk.proofs.{Pieces.fixed_stood, Premises.OperandsMeet, Premises.roots_stand as roots_meet, Premises.trees_in}
use Rattle.inf_step_walk.proofs.Operands.{added_grows, declares, other, settled_grows, settled_stood}

-- Another report

module _ {limits : Limits} {Q : Premises} where
  -- what is counted and told stays within a unit, and so does another report
  pub inner_told : {w v t : Compilation} {r : Reported} → Inner limits Q w r v t → (tallies v ≡ tallies w) × (t ≡ with_report r v)
  inner_told (Puts g stay same) = (same, refl)
  inner_told (Next f g) = ((inner_told g).0 ∙ (inner_told f).0, (inner_told g).1)
  inner_told (Parts trees m) = (refl, refl)
  inner_told Cases = (refl, refl)
  inner_told (Enters is_default) = (refl, refl)
  inner_told (Loops trees m) = (refl, refl)
  inner_told Over = (refl, refl)

  -- the same with another report, where what becomes of it is written in another way, and where it is written as it is
  pub inner_like : {w v s t : Compilation} {r : Reported} → s ≡ t → Inner limits Q w r v t → Inner limits Q w r v s
  inner_like {w} {v} {s} {t} {r} e f = subst (λ (c : Compilation). Inner limits Q w r v c) (sym e) f

  pub alike : {w v t : Compilation} {r : Reported} → Inner limits Q w r v t → Inner limits Q w r v (with_report r v)
  alike f = inner_like (sym (inner_told f).1) f

  pub puts : {w : Compilation} (o : Out) → Grown limits Q w.output o → Lies limits Q w (λ v. record v { output = o }) w
  puts o g r = Puts g (λ u h. h) refl

  pub rests : (w : Compilation) → Lies limits Q w (λ v. v) w
  rests w r = Puts Stays (λ u h. h) refl

  pub inner_if : {w v x s t : Compilation} {r : Reported} (b : Bool) → Inner limits Q w r v s → Inner limits Q w r x t
      → Inner limits Q w r (if b then v else x) (if b then s else t)
  inner_if true f g = f
  inner_if false f g = g

module _ {limits : Limits} {context : Context} {Q : Premises} where
  -- the same walk with another report, where what becomes of it is written in another way
  pub like : {w v s t : Compilation} {r : Reported} → s ≡ t → Walk limits context Q w r v t → Walk limits context Q w r v s
  like {w} {v} {s} {t} {r} e f = subst (λ (c : Compilation). Walk limits context Q w r v c) (sym e) f

  -- a step behind what happens within a unit
  pub inside : {w x v t : Compilation} {r : Reported} (g : Compilation → Compilation) → Inner limits Q w r x t
      → (Inner limits Q w r x (with_report r x) → Walk limits context Q w r v (g (with_report r x))) → Walk limits context Q w r v (g t)
  inside g f next = like (ap g (inner_told f).1) (next (alike f))

  pub stays : (w : Compilation) → Walks limits context Q (λ v. v) w
  stays w r = Rests (λ u h. h) refl

  pub unit_steps : (w : Compilation) (at : SourceUnit) → Walks limits context Q (λ v. record v { unit = at }) w
  unit_steps w at r = Rests (λ u h. h) refl

  pub passed_steps : (has_last : Bool) (w : Compilation) → Walks limits context Q (passed has_last) w
  passed_steps has_last w r = Rests (λ u h. h) refl

  pub steps_if : {w v x s t : Compilation} {r : Reported} (b : Bool) → Walk limits context Q w r v s → Walk limits context Q w r x t
      → Walk limits context Q w r (if b then v else x) (if b then s else t)
  steps_if true f g = f
  steps_if false f g = g

  -- a unit ends, and nothing happened within it
  pub unit_ends : (first : Place) (has_last : Bool) (found : Findings) (w : Compilation)
      → Walks limits context Q (unit_ended limits context first has_last found) w
  unit_ends first has_last found w r = Ends first has_last found w (rests w r)

-- Lemmas about parts, and open statements

module _ {limits : Limits} {Q : Premises} where
  -- Parts

  part_lays : {w : Compilation} {c : Code} {needs given : List ℕ} → Made limits (Stood w.output) c needs given
      → Lies limits Q w (λ v. record v { output = c w.output }) w
  part_lays {w} {c} m = puts (c w.output) (Gives {A = Unit {0}} {f = λ o. (tt, c o)} (Lays tt m))

  effect_lays : (context : Context) (p : Part) (trees : List Rooted) (w : Compilation) → RootsMeet (Stood w.output) trees
      → Lies limits Q w (part_effect limits context p trees) w
  unfolding part_effect
  effect_lays context (Part.Statement s) trees w h r =
      Puts (Gives {f = statement_laid limits (site_of context w) s (map tree_in trees) w.labels}
      (statement_is_laid limits (Stood w.output) (fixed_stood w.output) (site_of context w) s (map tree_in trees)
      (trees_in (Stood w.output) trees h) w.labels)) (λ u h. h) refl
  effect_lays context Part.Condition trees w h r =
      part_lays (tested_made limits (Stood w.output) (condition_label w.constructs) (map tree_in trees)
      (trees_in (Stood w.output) trees h)) r
  effect_lays context Part.Start trees w h r =
      part_lays (alone_made limits (Stood w.output) (map tree_in trees) (trees_in (Stood w.output) trees h)) r
  effect_lays context Part.Step trees w h r = Parts (map tree_in trees) (trees_in (Stood w.output) trees h)
  effect_lays context Part.Loop trees w h r = Loops trees h
  effect_lays context Part.Switched trees w h r =
      part_lays (switched_made limits (Stood w.output) (map tree_in trees) (trees_in (Stood w.output) trees h)) r
  effect_lays context Part.Case trees w h r =
      part_lays (case_made limits (Stood w.output) (next_case w.constructs) (map tree_in trees) (trees_in (Stood w.output) trees h)) r

  begun_lays : (p : Part) (w : Compilation) → Lies limits Q w (part_begun limits p) w
  begun_lays Part.Case w r = Enters (is_default w.unit.items)
  begun_lays p w r = rests w r

  naming_lays : (w : Compilation) → Lies limits Q w named w
  naming_lays w r = Puts Stays (λ u h. h) refl

  actions_lay : (are_own : Bool) (w : Compilation) → Lies limits Q w (actions_named are_own) w
  actions_lay true w r = Puts Stays (λ u h. h) refl
  actions_lay false w r = rests w r

  prepared_lays : (p : Part) (w : Compilation) → Lies limits Q w (case_prepared limits p) w
  prepared_lays Part.Case w r =
      let begun = constructs_laid (cases_begun limits w.constructs) w in
      Next {x = begun} Cases (actions_lay (are_own begun.constructs) begun r)
  prepared_lays p w r = rests w r

  routine_lays : (name : Name) (w : Compilation) → Lies limits Q w (routine_declared limits name) w
  routine_lays name w = puts _ (declares name.bytes name.place (Meaning.Routine (place_behind w.output.code.finished)) (λ u. tt))

  -- the output where the names of a unit are used, and its operands and trees there
  pub used_grows : (context : Context) (w : Compilation) → Grown limits Q w.output (settled_of limits context w).out
  used_grows context w = settled_grows context.set w.locals w.unit.tokens w.unit.gathering.leaves (record { out = w.output; operands = [] })

pub used_stood : (limits : Limits) (context : Context) (w : Compilation)
    → OperandsMeet (Stood (settled_of limits context w).out) (settled_of limits context w).operands
used_stood limits context w = settled_stood limits context.set w.locals w.unit.tokens w.unit.gathering.leaves w.output

-- The place of a part, and the findings about it, do not depend on what was reported.

order_told : (p : Part) (r : Reported) (w : Compilation) → order_of p (with_report r w) ≡ order_of p w
order_told Part.Case r w = refl
order_told p r w = refl

finished_told : (limits : Limits) (context : Context) (place : Place) (p : Part) (r : Reported) (w : Compilation)
    → part_finished limits context (place_of p place (with_report r w)) p (with_report r w)
    ≡ part_carried limits context (place_of p place w) p (found_in limits context p w) (with_report r (named (part_begun limits p w)))
finished_told limits context place (Part.Statement Statement.Assembly) r w = refl
finished_told limits context place (Part.Statement s) r w = refl
finished_told limits context place Part.Case r w = refl
finished_told limits context place p r w = refl

module _ {limits : Limits} {context : Context} {Q : Premises} where
  pub opening_steps : (place : Place) (k : Kind) (w : Compilation) → Walks limits context Q (construct_opened limits context place k) w
  opening_steps place k w r =
      Behind (λ (v : Compilation). constructs_laid (begun limits k v.constructs) v) (Nests (last_place w.unit.tokens place) (is_deep w 1))
      (λ s. Starts k)

  pub closing_steps : (w : Compilation) → Walks limits context Q (construct_closed limits) w
  closing_steps w r = steps_if (nat_lt 0 w.closed) (Rests (λ u h. h) refl) Shuts

  carried_lays : (first : Place) (p : Part) (found : Option Finding) (x w : Compilation) (r : Reported)
      → Inner limits Q x r w (with_report r w)
      → Walk limits context Q x r (part_carried limits context first p found w)
      (part_carried limits context first p found (with_report r w))
  carried_lays first p (Some f) x w r ahead = Ends first (has_last p) (found_alone (Some f)) w ahead
  carried_lays first p None x w r ahead =
      let s = settled_of limits context w in
      let used = record w { output = record s.out { first = first } } in
      let trees = trees_at (order_of p w) (wanted_of p) s.operands w in
      like (ap (λ n. unit_ended limits context first (has_last p) nothing_found
      (part_effect limits context p (trees_at n (wanted_of p) s.operands w) (with_report r used))) (order_told p r w))
      (Ends first (has_last p) nothing_found (part_effect limits context p trees used)
      (Next ahead (Next {x = used} (puts (record s.out { first = first }) (Follows (used_grows context w) (other refl (λ u h. h))) r)
      (effect_lays context p trees used
      (roots_meet (Stood s.out) (wanted_of p) (order_of p w) s.operands w.unit.gathering.symbols (used_stood limits context w)) r))))

  finished_steps : (place : Place) (p : Part) (x w : Compilation) (r : Reported) → Inner limits Q x r w (with_report r w)
      → Walk limits context Q x r (part_finished limits context (place_of p place w) p w)
      (part_finished limits context (place_of p place (with_report r w)) p (with_report r w))
  finished_steps place p x w r ahead = like (finished_told limits context place p r w)
      (carried_lays (place_of p place w) p (found_in limits context p w) x (named (part_begun limits p w)) r
      (Next ahead (Next (alike (begun_lays p w r)) (naming_lays (part_begun limits p w) r))))

  pub part_steps : (place : Place) (p : Part) (w : Compilation) → Walks limits context Q (part_ended limits context place p) w
  part_steps place p w r =
      let ready = case_prepared limits p (part_prepared w) in
      steps_if w.is_replaced (passed_steps (has_last p) w r)
      (inside (λ (v : Compilation). part_finished limits context (place_of p place v) p v)
      (Next {x = part_prepared w} (Puts Stays (λ u h. h) refl) (prepared_lays p (part_prepared w) r)) (finished_steps place p w ready r))

  -- Lemmas about routines

  pub opened_steps : (first : Place) (h : Headed) (told : Findings) (x w : Compilation) (r : Reported)
      → Inner limits Q x r w (with_report r w)
      → Walk limits context Q x r (opened_with limits context first h told w) (opened_with limits context first h told (with_report r w))
  opened_steps first h told x w r ahead = Ends first true told (record w {
    output = opened limits (length h.locals) (is_some told.least) w.output;
    locals = h.locals;
    constructs = [];
    labels = [];
  }) (Next ahead (Puts (Opens (length h.locals) (is_some told.least)) (λ u k. tt) refl))

  header_with_steps : (first : Place) (name : Name) (h : Headed) (x w : Compilation) (r : Reported) → Inner limits Q x r w (with_report r w)
      → Walk limits context Q x r (header_with limits context first name h w) (header_with limits context first name h (with_report r w))
  header_with_steps first name h x w r ahead =
      opened_steps first h (header_findings 1 (again_by name (declare_fault limits name.bytes w.output.names)) h) x
      (routine_declared limits name w) r (Next ahead (routine_lays name w r))

  named_steps : (first : Place) (name : Name) (w : Compilation) → Walks limits context Q (header_named limits context first name) w
  named_steps first name w r = steps_if (is_to_be_replaced name w) (Rests (λ u h. tt) refl)
      (header_with_steps first name w.unit.headed w (record w { is_replaced = false; is_embedded = false }) r (Puts Stays (λ u h. h) refl))

  header_of_steps : (first : Place) (names : List Name) (w : Compilation) → Walks limits context Q (header_of limits context first names) w
  header_of_steps first [] w = passed_steps true w
  header_of_steps first (name ∷ names) w = named_steps first name w

  pub header_steps : (place : Place) (w : Compilation) → Walks limits context Q (header_end limits context place) w
  header_steps place w = header_of_steps (first_place w.unit.tokens place) (names_in w.unit.tokens) w

  pub close_steps : (place : Place) (w : Compilation) → Walks limits context Q (close limits context place) w
  close_steps place w r =
      let ended = cases_ended limits w in
      steps_if w.is_replaced (passed_steps true w r) (Finishes (kind_ended ended.is_embedded) place ended Over)

  -- Lemmas about stubs and routines that are to be replaced

  pub replace_steps : (first : Place) (names : List Name) (w : Compilation) → Walks limits context Q (replace limits context first names) w
  replace_steps first [] w r = passed_steps true w r
  replace_steps first (name ∷ names) w r = Ends first true nothing_found (record w {
    output = referred limits name.bytes name.place w.output;
    replaced = with_name name.bytes w.replaced;
  }) (Puts (Refers name.bytes name.place) (λ u h. h) refl)

  stubbed_steps : (first : Place) (x w : Compilation) (r : Reported) → Inner limits Q x r w (with_report r w)
      → Walk limits context Q x r (stubbed limits context first w) (stubbed limits context first (with_report r w))
  stubbed_steps first x w r ahead =
      let locals = stub_locals w.unit.tokens in
      steps_if (nat_lt 4 locals) (Ends first true (found_alone (Some (out_of_range 0))) w ahead)
      (Ends first true nothing_found (record w { output = stub_code limits locals w.output })
      (Next ahead (puts (stub_code limits locals w.output) (Follows (Opens locals false) (Closes RoutineKind.Embedded)) r)))

  new_stub_steps : (first : Place) (names : List Name) (w : Compilation) → Walks limits context Q (new_stub limits context first names) w
  new_stub_steps first [] w r = passed_steps true w r
  new_stub_steps first (name ∷ names) w r = stubbed_steps first w (routine_declared limits name w) r (routine_lays name w r)

  pub stub_steps : (first : Place) (names : List Name) (w : Compilation) → Walks limits context Q (stub limits context first names) w
  stub_steps first names w r =
      steps_if (is_first_declared names w.output.names) (unit_ends first true nothing_found w r) (new_stub_steps first names w r)

-- Constants: a word for which one stands is added behind its name.

abbrev SomeMeaning : Out → Option Meaning → Type 0
SomeMeaning u None = Unit {0}
SomeMeaning u (Some m) = MeaningStands u m

constant_as : (u : Out) (m : Meaning) → MeaningStands u m → MeaningStands u (as_constant m)
constant_as u (Meaning.Routine place) h = tt
constant_as u m h = h

declared_stands : (u : Out) (f : Found Place) → FoundStands u f → SomeMeaning u (declared_meaning f)
declared_stands u (Found.Declared m place) h = constant_as u m h
declared_stands u f h = tt

leaf_meaning_stands : (limits : Limits) (u : Out) (context : Context) (w : Compilation) (leaves : List Leaf) (o : Out)
    → NamesStand u w.output.names.names → Before u (leaf_added limits context.set w.unit.tokens leaves o)
    → SomeMeaning u (leaf_meaning leaves w)
leaf_meaning_stands limits u context w (Leaf.Text at ∷ leaves) o h e = tt
leaf_meaning_stands limits u context w (Leaf.Word word ∷ leaves) o h e =
    let v = with_word limits word.text WordUse.Other word.is_plural o in
    word_stands limits u word.text WordUse.Other word.is_plural o
    (before {limits = limits} {Q = free} (added_grows context.set w.unit.tokens leaves v) u e)
leaf_meaning_stands limits u context w leaves o h e = declared_stands u (found_in_names (named_leaf w.unit.tokens leaves) w.output.names)
    (found_meaning u (named_leaf w.unit.tokens leaves) w.output.names h)

constant_of_stands : (limits : Limits) (u : Out) (context : Context) (w : Compilation) (trees : List Tree) (o : Out)
    → NamesStand u w.output.names.names → Before u (leaf_added limits context.set w.unit.tokens w.unit.gathering.leaves o)
    → SomeMeaning u (constant_of trees w)
constant_of_stands limits u context w [] o h e = tt
constant_of_stands limits u context w (LeafTree (Operand.Known number) ∷ trees) o h e = tt
constant_of_stands limits u context w (LeafTree (Operand.Later t) ∷ trees) o h e =
    leaf_meaning_stands limits u context w w.unit.gathering.leaves o h e
constant_of_stands limits u context w (t ∷ trees) o h e = tt

meaning_stands : (u : Out) (m : Option Meaning) (finding : Option Finding) → (finding ≡ None → SomeMeaning u m)
    → MeaningStands u (constant_meaning m finding)
meaning_stands u (Some m) None h = h refl
meaning_stands u None None h = tt
meaning_stands u None (Some f) h = tt
meaning_stands u (Some m) (Some f) h = tt

-- where nothing is wrong with the name or the expression, its text or word is added
added_before : (limits : Limits) (u : Out) (context : Context) (order : ℕ) (name : Name) (refused : Option (DeclareFault Place))
    (finding : Option Finding) (w : Compilation) → refused ≡ None → finding ≡ None
    → Before u (constant_added limits context (constant_findings order (again_by name refused) finding).least w).output
    → Before u (leaf_added limits context.set w.unit.tokens w.unit.gathering.leaves w.output)
added_before limits u context order name None None w r f e = e
added_before limits u context order name (Some fault) finding w r f e = no_some r
added_before limits u context order name None (Some x) w r f e = no_some f

module _ {limits : Limits} {Q : Premises} where
  added_by_grows : (context : Context) (found : Option Finding) (w : Compilation)
      → Grown limits Q w.output (constant_added limits context found w).output
  added_by_grows context None w = added_grows context.set w.unit.tokens w.unit.gathering.leaves w.output
  added_by_grows context (Some f) w = Stays

  added_lays : (context : Context) (found : Option Finding) (x w : Compilation) (r : Reported)
      → Grown limits Q x.output (constant_added limits context found w).output → StepsStay x w → tallies w ≡ tallies x
      → Inner limits Q x r (constant_added limits context found w) (constant_added limits context found (with_report r w))
  added_lays context None x w r g stay same = Puts g stay same
  added_lays context (Some f) x w r g stay same = Puts g stay same

-- The meaning of a constant does not depend on what was reported.

leaf_told : (leaves : List Leaf) (r : Reported) (w : Compilation) → leaf_meaning leaves (with_report r w) ≡ leaf_meaning leaves w
leaf_told (Leaf.Text at ∷ leaves) r w = refl
leaf_told leaves r w = refl

constant_told : (trees : List Tree) (r : Reported) (w : Compilation) → constant_of trees (with_report r w) ≡ constant_of trees w
constant_told (LeafTree (Operand.Later t) ∷ trees) r w = leaf_told w.unit.gathering.leaves r w
constant_told trees r w = refl

module _ {limits : Limits} {context : Context} {Q : Premises} where
  declared_steps : (first : Place) (name : Name) (trees : List Tree) (finding : Option Finding) (w : Compilation)
      → Walks limits context Q (constant_declared limits context first name (constant_of trees w) finding) w
  declared_steps first name trees finding w r =
      let m = constant_of trees w in
      let refused = declare_fault limits name.bytes w.output.names in
      let v = record w { output = declared limits name.bytes name.place (constant_meaning m finding) w.output } in
      let told = constant_findings (name_order w.unit.tokens) (again_by name refused) finding in
      Ends first true told (constant_added limits context told.least v)
      (added_lays context told.least w v r (Declares name.bytes name.place (constant_meaning m finding) (λ free u e h.
      meaning_stands u m finding (λ right. constant_of_stands limits u context w trees v.output h
      (added_before limits u context (name_order w.unit.tokens) name refused finding v free right e)))
      (added_by_grows context told.least v)) (λ u h. h) refl)

  pub constant_steps : (first : Place) (names : List Name) (w : Compilation)
      → Walks limits context Q (constant limits context first names) w
  constant_steps first [] w r = passed_steps true w r
  constant_steps first (name ∷ names) w r =
      let trees = map tree_in (trees_at 0 Wanted.Constant (operands_of w) w) in
      like (ap (λ m. constant_declared limits context first name m (constant_finding m (finding_at 0 Wanted.Constant w)) (with_report r w))
      (constant_told trees r w))
      (declared_steps first name trees (constant_finding (constant_of trees w) (finding_at 0 Wanted.Constant w)) w r)

  pub default_steps : (first : Place) (names : List Name) (w : Compilation) → Walks limits context Q (default limits context first names) w
  default_steps first names w r =
      steps_if (is_first_declared names w.output.names) (unit_ends first true nothing_found w r) (constant_steps first names w r)
