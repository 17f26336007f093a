-- The effect of each action on the statements that are open.
use Rattle.std.proofs.Common.{◌≡◌, ℕ, List, [], ◌∷◌, Bool, true, false, ◌&&◌, Option, Some, None, refl, ◌∙◌, ap}
use Rattle.std.proofs.lemmas.Bool.{and_parts}
use Rattle.std.specs.Prelude.{◌-◌, if◌then◌else◌, nat_lt, unwrap_or}
use Rattle.inf_settings.specs.Bounds.{Limits}
use Rattle.inf_names.specs.Spellings.{Name}
use Rattle.inf_unit.specs.{Tokens.SourceToken, declared.roles.Ending.Ending, declared.roles.Note.Note, declared.roles.Role.Role}
use Rattle.inf_unit.specs.Units.{first_place, is_full, last_passed, last_place, long_at, names_in, noted as unit_noted, taken as unit_taken}
use Rattle.inf_unit.specs.Units.{text_passed}
use Rattle.inf_unit.specs.Roles.{ends_outer, ends_token, ends_value, is_arrow, is_text, is_verb_word, makes_sure, role_of}
use Rattle.inf_compilation.specs.Actions.{Compilation, close, close_open, header_of, header_with, is_deep, is_to_be_replaced, named, nested}
use Rattle.inf_compilation.specs.Actions.{opens, passed, settled_of, sized, stopped, took, trees_at}
use Rattle.inf_compilation.specs.Nesting.{construct_closed, construct_ended, construct_opened, constructs_laid}
use Rattle.inf_compilation.specs.Context.{Context, longest}
use Rattle.inf_parts.specs.Parts.{actions_named, case_prepared, found_in, has_last, is_default, order_of, part_begun, part_carried}
use Rattle.inf_parts.specs.Parts.{part_effect, part_ended, part_finished, part_prepared, place_of, statement_at, wanted_of}
use Rattle.inf_parts.specs.declared.parts.Part.{Part}
use Rattle.inf_scanner.specs.declared.tokens.Place.{Place}
use Rattle.inf_expressions.specs.{Questions.children_of, Rooted.Rooted, Trees.Tree, declared.findings.Finding.Finding}
use Rattle.inf_verb_lines.specs.Verbs.{token_sifted, word_sifted}
use Rattle.inf_syntax.specs.declared.actions.Action.{Action}
use Rattle.inf_output.specs.{Output.Out, declared.items.Item.Item}
use Rattle.inf_unit.proofs.Cases.{of_both}
use Rattle.inf_constructs.specs.{declared.constructs.Case.Case, declared.constructs.Construct.Construct, declared.constructs.Kind.Kind}
use Rattle.inf_constructs.specs.Constructs.{are_cases, are_own, cases_begun, changed, entered, entered_by, looped, looped_by, looped_over}
use Rattle.inf_constructs.specs.Constructs.{opened, with_step}
use Rattle.inf_reader.specs.Acting.{act, ended as ended_as, is_crowded, is_long, is_tall, is_wordy, kind_of, noted, noted_of}
use Rattle.inf_reader.specs.Acting.{operands_named, played, value_noted}
use Rattle.inf_statement_laws.specs.Happenings.{Acts, Happening, Takes, happen_quietly, happens_quietly, is_quiet, is_quiet_end}
use Rattle.inf_statement_laws.specs.Happenings.{is_quiet_role}
use Rattle.inf_statement_laws.specs.Laid.{happens, run}

-- Tells whether the same statements are open, and as many are closed ahead.
abbrev pub SameOpen : Compilation → Compilation → Type 0
SameOpen w v = (v.constructs ≡ w.constructs) × (v.closed ≡ w.closed)

pub same_then : (a b c : Compilation) → SameOpen a b → SameOpen b c → SameOpen a c
same_then a b c first second = (second.0 ∙ first.0, second.1 ∙ first.1)

-- Lemmas about tokens

nested_same : (context : Context) (place : Place) (b : Bool) (w : Compilation) → SameOpen w (nested context place b w)
nested_same context place true w = (refl, refl)
nested_same context place false w = (refl, refl)

stopped_same : (context : Context) (place : Option Place) (w : Compilation) → SameOpen w (stopped context place w)
stopped_same context None w = (refl, refl)
stopped_same context (Some place) w = (refl, refl)

sized_same : (context : Context) (w : Compilation) → SameOpen w (sized context w)
sized_same context w = stopped_same context (long_at (longest context) w.unit) w

took_same : (context : Context) (t : SourceToken) (w : Compilation) → SameOpen w (took context t w)
took_same context t w =
    let u = record w { unit = unit_taken t w.unit } in
    let s = sized context u in
    same_then w s (took context t w) (sized_same context u) (nested_same context t.place (opens t.kind && is_deep s 0) s)

-- Lemmas about units

-- units that leave all open statements unchanged
abbrev is_quiet_part : Part → Bool
is_quiet_part Part.Step = false
is_quiet_part Part.Loop = false
is_quiet_part Part.Case = false
is_quiet_part _ = true

quiet_carried : (limits : Limits) (context : Context) (first : Place) (p : Part) (f : Option Finding) (w : Compilation) →
    is_quiet_part p ≡ true
    → SameOpen w (part_carried limits context first p f w)
unfolding part_effect
quiet_carried limits context first p (Some f) w q = (refl, refl)
quiet_carried limits context first (Part.Statement s) None w q = (refl, refl)
quiet_carried limits context first Part.Condition None w q = (refl, refl)
quiet_carried limits context first Part.Start None w q = (refl, refl)
quiet_carried limits context first Part.Switched None w q = (refl, refl)
quiet_carried limits context first Part.Step None w q = cc
quiet_carried limits context first Part.Loop None w q = cc
quiet_carried limits context first Part.Case None w q = cc

quiet_finished : (limits : Limits) (context : Context) (first : Place) (p : Part) (w : Compilation) → is_quiet_part p ≡ true
    → SameOpen w (part_finished limits context first p w)
quiet_finished limits context first (Part.Statement s) w q =
    quiet_carried limits context first (Part.Statement s) (found_in limits context (Part.Statement s) w)
    (named w) refl
quiet_finished limits context first Part.Condition w q =
    quiet_carried limits context first Part.Condition (found_in limits context Part.Condition w) (named w) refl
quiet_finished limits context first Part.Start w q =
    quiet_carried limits context first Part.Start (found_in limits context Part.Start w) (named w) refl
quiet_finished limits context first Part.Switched w q =
    quiet_carried limits context first Part.Switched (found_in limits context Part.Switched w) (named w) refl
quiet_finished limits context first other w q = cc

quiet_prepared : (limits : Limits) (p : Part) (w : Compilation) → is_quiet_part p ≡ true → SameOpen w (case_prepared limits p w)
quiet_prepared limits Part.Case w q = cc
quiet_prepared limits _ w q = (refl, refl)

quiet_part : (limits : Limits) (context : Context) (place : Place) (p : Part) (w : Compilation) → is_quiet_part p ≡ true →
    SameOpen w (part_ended limits context place p w)
quiet_part limits context place p w q =
    let ready = case_prepared limits p (part_prepared w) in
    of_both (SameOpen w) w.is_replaced (passed (has_last p) w) (part_finished limits context (place_of p place ready) p ready)
    (λ _. (refl, refl))
    (λ _. same_then w ready (part_finished limits context (place_of p place ready) p ready) (quiet_prepared limits p (part_prepared w) q)
    (quiet_finished limits context (place_of p place ready) p ready q))

-- Lemmas about actions

quiet_note_of : (context : Context) (n : Note) (w : Compilation) → SameOpen w (noted_of context n w)
quiet_note_of context n w =
    let v = record w { unit = unit_noted n w.unit } in
    of_both (SameOpen w) (makes_sure n) (sized context v) v (λ _. sized_same context v) (λ _. (refl, refl))

value_same : (context : Context) (n : Note) (w : Compilation) → SameOpen w (value_noted context n w)
value_same context n w = quiet_note_of context n w

quiet_note : (limits : Limits) (context : Context) (n : Note) (w : Compilation) → SameOpen w (noted limits context n w)
quiet_note limits context n w =
    let plain = noted_of context n w in
    let worded = if is_verb_word n && is_wordy context w then word_sifted w else plain in
    let valued = if ends_value n && is_crowded limits w then value_noted context n w else worded in
    let sifted = if ends_token n && is_long context w then token_sifted context w else valued in
    let named = if ends_outer n && is_full w.unit then operands_named w else sifted in
    let passed = record w { unit = last_passed w.unit } in
    let kept = if is_arrow n && is_tall context w then passed else named in
    of_both (SameOpen w) (is_text n && is_crowded limits w) (record w { unit = text_passed w.unit }) kept (λ _. (refl, refl))
    (λ _. of_both (SameOpen w) (is_arrow n && is_tall context w) passed named (λ _. (refl, refl))
    (λ _. of_both (SameOpen w) (ends_outer n && is_full w.unit) (operands_named w) sifted (λ _. (refl, refl))
    (λ _. of_both (SameOpen w) (ends_token n && is_long context w) (token_sifted context w) valued (λ _. (refl, refl))
    (λ _. of_both (SameOpen w) (ends_value n && is_crowded limits w) (value_noted context n w) worded (λ _. value_same context n w)
    (λ _. of_both (SameOpen w) (is_verb_word n && is_wordy context w) (word_sifted w) plain (λ _. (refl, refl))
    (λ _. quiet_note_of context n w))))))

quiet_end : (limits : Limits) (context : Context) (place : Place) (e : Ending) (w : Compilation) → is_quiet_end e ≡ true →
    SameOpen w (ended_as limits context place e w)
quiet_end limits context place Ending.Statement w q = quiet_part limits context place (Part.Statement (statement_at w)) w refl
quiet_end limits context place Ending.Condition w q = quiet_part limits context place Part.Condition w refl
quiet_end limits context place Ending.Start w q = quiet_part limits context place Part.Start w refl
quiet_end limits context place Ending.Switched w q = quiet_part limits context place Part.Switched w refl
quiet_end limits context place _ w q = cc

quiet_role : (limits : Limits) (context : Context) (place : Place) (r : Role) (w : Compilation) → is_quiet_role r ≡ true →
    SameOpen w (played limits context place r w)
quiet_role limits context place (Role.Note n) w q = quiet_note limits context n w
quiet_role limits context place (Role.End e) w q = quiet_end limits context place e w q
quiet_role limits context place (Role.Open o) w q = cc
quiet_role limits context place Role.Join w q = cc
quiet_role limits context place Role.Close w q = cc
quiet_role limits context place Role.Deeper w q = nested_same context place (is_deep w 1) w
quiet_role limits context place other w q = (refl, refl)

quiet_act : (limits : Limits) (context : Context) (place : Place) (a : Action) (w : Compilation) → is_quiet a ≡ true →
    SameOpen w (act limits context place a w)
quiet_act limits context place a w q = quiet_role limits context place (role_of a) w q

-- Lemmas about happenings

quiet_happens : (limits : Limits) (context : Context) (h : Happening) (w : Compilation) → happens_quietly h ≡ true →
    SameOpen w (happens limits context h w)
quiet_happens limits context (Acts at a) w q = quiet_act limits context at.place a w q
quiet_happens limits context (Takes t m) w q = took_same context t w

pub quiet_run : (limits : Limits) (context : Context) (hs : List Happening) (w : Compilation) → happen_quietly hs ≡ true →
    SameOpen w (run limits context hs w)
quiet_run limits context [] w q = (refl, refl)
quiet_run limits context (h ∷ hs) w q =
    let both = and_parts (happens_quietly h) (happen_quietly hs) q in
    let v = happens limits context h w in
    same_then w v (run limits context hs v) (quiet_happens limits context h w both.0) (quiet_run limits context hs v both.1)

-- Lemmas about units that change the innermost

-- Tells whether the innermost statement has changed in its kind alone, or in its step alone.
abbrev pub KindIn : Construct → List Construct → List Construct → Type 0
KindIn c around after = (k : Kind) × (after ≡ record c { kind = k } ∷ around)

abbrev pub StepIn : Construct → List Construct → List Construct → Type 0
StepIn c around after = (s : Option (List Item)) × (after ≡ record c { step = s } ∷ around)

-- the step of a `for`
step_carried : (limits : Limits) (context : Context) (first : Place) (f : Option Finding) (w : Compilation) (c : Construct)
    (around : List Construct)
    → w.constructs ≡ c ∷ around
    → StepIn c around (part_carried limits context first Part.Step f w).constructs ×
    ((part_carried limits context first Part.Step f w).closed ≡ w.closed)
unfolding part_effect
step_carried limits context first (Some f) w c around e = ((c.step, e), refl)
step_carried limits context first None w c around e = ((_, ap (with_step _) e), refl)

pub step_ends : (limits : Limits) (context : Context) (place : Place) (w : Compilation) (c : Construct) (around : List Construct) →
    w.constructs ≡ c ∷ around
    → StepIn c around (act limits context place Action.EndForStep w).constructs ×
    ((act limits context place Action.EndForStep w).closed ≡ w.closed)
step_ends limits context place w c around e =
    let ready = part_prepared w in
    of_both (λ (v : Compilation). StepIn c around v.constructs × (v.closed ≡ w.closed)) w.is_replaced (passed (has_last Part.Step) w)
    (part_finished limits context (place_of Part.Step place ready) Part.Step ready)
    (λ _. ((c.step, e), refl)) (λ _. step_carried limits context (place_of Part.Step place ready) (found_in limits context Part.Step ready)
    (named ready)
    c around e)

-- the objects that a loop over objects goes over
looped_kind_by : (limits : Limits) (parent : Option Tree) (e : Tree) (v : ℕ) (c : Construct) (o : Out)
    → (k : Kind) × ((looped_by limits parent e v c o).0 ≡ record c { kind = k })
looped_kind_by limits None e v c o = (_, refl)
looped_kind_by limits (Some parent) e v c o = (_, refl)

looped_kind : (limits : Limits) (r : Rooted) (c : Construct) (o : Out) → (k : Kind) × ((looped limits r c o).0 ≡ record c { kind = k })
unfolding looped
looped_kind limits r c o = looped_kind_by limits (children_of r.tree) r.tree (unwrap_or r.origin.lead.variable 0) c o

looped_over_kind : (limits : Limits) (trees : List Rooted) (constructs : List Construct) (o : Out) (c : Construct) (around : List Construct)
    → constructs ≡ c ∷ around → KindIn c around (looped_over limits trees constructs o).0
looped_over_kind limits [] constructs o c around e = (c.kind, e)
looped_over_kind limits (r ∷ trees) constructs o c around e =
    let k = looped_kind limits r c o in
    (k.0, ap (λ l. (changed (looped limits r) l o).0) e ∙ ap (λ d. d ∷ around) k.1)

loop_carried : (limits : Limits) (context : Context) (first : Place) (f : Option Finding) (w : Compilation) (c : Construct)
    (around : List Construct)
    → w.constructs ≡ c ∷ around
    → KindIn c around (part_carried limits context first Part.Loop f w).constructs ×
    ((part_carried limits context first Part.Loop f w).closed ≡ w.closed)
unfolding part_effect
loop_carried limits context first (Some f) w c around e = ((c.kind, e), refl)
loop_carried limits context first None w c around e =
    let s = settled_of limits context w in (
      looped_over_kind limits (trees_at (order_of Part.Loop w) (wanted_of Part.Loop) s.operands w) w.constructs
          (record s.out { first = first })
          c around e,
      refl,
    )

pub loop_ends : (limits : Limits) (context : Context) (place : Place) (w : Compilation) (c : Construct) (around : List Construct) →
    w.constructs ≡ c ∷ around
    → KindIn c around (act limits context place Action.EndObjectloop w).constructs ×
    ((act limits context place Action.EndObjectloop w).closed ≡ w.closed)
loop_ends limits context place w c around e =
    let ready = part_prepared w in
    of_both (λ (v : Compilation). KindIn c around v.constructs × (v.closed ≡ w.closed)) w.is_replaced (passed (has_last Part.Loop) w)
    (part_finished limits context (place_of Part.Loop place ready) Part.Loop ready)
    (λ _. ((c.kind, e), refl)) (λ _. loop_carried limits context (place_of Part.Loop place ready) (found_in limits context Part.Loop ready)
    (named ready)
    c around e)

-- lemmas about the beginning of a case
entered_kind_by : (limits : Limits) (k : Kind) (b : Bool) (c : Construct) (o : Out) →
    (after : Kind) × ((entered_by limits k b c o).0 ≡ record c { kind = after })
entered_kind_by limits (Kind.Switch old had_default) true c o = (_, refl)
entered_kind_by limits (Kind.Switch old had_default) false c o = (_, refl)
entered_kind_by limits (Kind.Cases old had_default) true c o = (_, refl)
entered_kind_by limits (Kind.Cases old had_default) false c o = (_, refl)
entered_kind_by limits _ b c o = (c.kind, refl)

entered_kind : (limits : Limits) (b : Bool) (c : Construct) (o : Out) →
    (after : Kind) × ((entered limits b c o).0 ≡ record c { kind = after })
unfolding entered
entered_kind limits b c o = entered_kind_by limits c.kind b c o

actions_named_same : (b : Bool) (w : Compilation) → SameOpen w (actions_named b w)
actions_named_same true w = (refl, refl)
actions_named_same false w = (refl, refl)

case_ready : (limits : Limits) (w : Compilation) (c : Construct) (around : List Construct) → w.constructs ≡ c ∷ around
    → ((case_prepared limits Part.Case w).constructs ≡ c ∷ around) × ((case_prepared limits Part.Case w).closed ≡ w.closed)
case_ready limits w c around e =
    let begun = constructs_laid (cases_begun limits w.constructs) w in
    let same = actions_named_same (are_own begun.constructs) begun in
    (same.0 ∙ ap (λ l. (cases_begun limits l w.output).0) e, same.1)

case_carried : (limits : Limits) (context : Context) (first : Place) (f : Option Finding) (w : Compilation) →
    SameOpen w (part_carried limits context first Part.Case f w)
unfolding part_effect
case_carried limits context first (Some f) w = (refl, refl)
case_carried limits context first None w = (refl, refl)

case_finished : (limits : Limits) (context : Context) (first : Place) (w : Compilation) (c : Construct) (around : List Construct) →
    w.constructs ≡ c ∷ around
    → KindIn c around (part_finished limits context first Part.Case w).constructs ×
    ((part_finished limits context first Part.Case w).closed ≡ w.closed)
case_finished limits context first w c around e =
    let begun = part_begun limits Part.Case w in
    let same = case_carried limits context first (found_in limits context Part.Case w) (named begun) in
    let k = entered_kind limits (is_default w.unit.items) c w.output in
    ((k.0, same.0 ∙ (ap (λ l. (changed (entered limits (is_default w.unit.items)) l w.output).0) e ∙ ap (λ d. d ∷ around) k.1)), same.1)

pub case_ends : (limits : Limits) (context : Context) (place : Place) (w : Compilation) (c : Construct) (around : List Construct) →
    w.constructs ≡ c ∷ around
    → KindIn c around (act limits context place Action.EndCase w).constructs
case_ends limits context place w c around e =
    let before = part_prepared w in
    let ready = case_prepared limits Part.Case before in
    of_both (λ (v : Compilation). KindIn c around v.constructs) w.is_replaced (passed (has_last Part.Case) w)
    (part_finished limits context (place_of Part.Case place ready) Part.Case ready)
    (λ _. (c.kind, e)) (λ _. (case_finished limits context (place_of Part.Case place ready) ready c around
    (case_ready limits before c around e).0).0)

-- the number of statements that are closed ahead stays, whatever is open
pub case_none_ahead : (limits : Limits) (context : Context) (place : Place) (w : Compilation) →
    (act limits context place Action.EndCase w).closed ≡ w.closed
case_none_ahead limits context place w =
    let before = part_prepared w in
    let ready = case_prepared limits Part.Case before in
    let begun = constructs_laid (cases_begun limits before.constructs) before in
    of_both (λ (v : Compilation). v.closed ≡ w.closed) w.is_replaced (passed (has_last Part.Case) w)
    (part_finished limits context (place_of Part.Case place ready) Part.Case ready)
    (λ _. refl)
    (λ _. (case_carried limits context (place_of Part.Case place ready) (found_in limits context Part.Case ready)
    (named (part_begun limits Part.Case ready))).1
    ∙ (actions_named_same (are_own begun.constructs) begun).1)

-- Lemmas about the routine's own cases

-- whether no statement is open but the routine's own cases
abbrev pub own_alone : List Construct → Bool
own_alone [] = true
own_alone (c ∷ []) = are_cases c.kind
own_alone (c ∷ d ∷ constructs) = false

begun_own : (limits : Limits) (k : Kind) (o : Out) → are_cases (opened limits k o).0.kind ≡ are_cases k
unfolding opened
begun_own limits k o = refl

begun_alone : (limits : Limits) (constructs : List Construct) (o : Out) → own_alone constructs ≡ true →
    own_alone (cases_begun limits constructs o).0 ≡ true
begun_alone limits [] o h = begun_own limits (Kind.Cases Case.Nothing false) o
begun_alone limits (c ∷ constructs) o h = h

entered_own_by : (limits : Limits) (k : Kind) (b : Bool) (c : Construct) (o : Out) → are_cases k ≡ true → are_cases c.kind ≡ true
    → are_cases (entered_by limits k b c o).0.kind ≡ true
entered_own_by limits (Kind.Cases old had_default) true c o h e = refl
entered_own_by limits (Kind.Cases old had_default) false c o h e = refl
entered_own_by limits (Kind.Switch old had_default) b c o h e = cc
entered_own_by limits _ b c o h e = e

entered_own : (limits : Limits) (b : Bool) (c : Construct) (o : Out) → are_cases c.kind ≡ true →
    are_cases (entered limits b c o).0.kind ≡ true
unfolding entered
entered_own limits b c o h = entered_own_by limits c.kind b c o h h

entered_alone : (limits : Limits) (b : Bool) (constructs : List Construct) (o : Out) → own_alone constructs ≡ true
    → own_alone (changed (entered limits b) constructs o).0 ≡ true
entered_alone limits b [] o h = refl
entered_alone limits b (c ∷ []) o h = entered_own limits b c o h
entered_alone limits b (c ∷ d ∷ constructs) o h = cc

pub case_alone : (limits : Limits) (context : Context) (place : Place) (w : Compilation) → own_alone w.constructs ≡ true
    → own_alone (act limits context place Action.EndCase w).constructs ≡ true
case_alone limits context place w h =
    let before = part_prepared w in
    let ready = case_prepared limits Part.Case before in
    let at = place_of Part.Case place ready in
    let begun = constructs_laid (cases_begun limits before.constructs) before in
    let entering = part_begun limits Part.Case ready in
    of_both (λ (v : Compilation). own_alone v.constructs ≡ true) w.is_replaced (passed (has_last Part.Case) w)
    (part_finished limits context at Part.Case ready)
    (λ _. h)
    (λ _. ap own_alone (case_carried limits context at (found_in limits context Part.Case ready) (named entering)).0
    ∙ entered_alone limits (is_default ready.unit.items) ready.constructs ready.output
    (ap own_alone (actions_named_same (are_own begun.constructs) begun).0 ∙ begun_alone limits before.constructs before.output h))

-- Nothing in a routine closes statements ahead where none was closed

-- an action of a routine
abbrev pub is_inside_end : Ending → Bool
is_inside_end Ending.Locals = true
is_inside_end Ending.Routine = true
is_inside_end Ending.Statement = true
is_inside_end Ending.Condition = true
is_inside_end Ending.Start = true
is_inside_end Ending.Step = true
is_inside_end Ending.Loop = true
is_inside_end Ending.Switched = true
is_inside_end Ending.Case = true
is_inside_end _ = false

abbrev pub is_inside_role : Role → Bool
is_inside_role (Role.End e) = is_inside_end e
is_inside_role _ = true

abbrev pub is_inside : Action → Bool
is_inside a = is_inside_role (role_of a)

opened_none : (limits : Limits) (context : Context) (place : Place) (k : Kind) (w : Compilation) →
    (construct_opened limits context place k w).closed ≡ w.closed
opened_none limits context place k w = (nested_same context (last_place w.unit.tokens place) (is_deep w 1) w).1

closed_none : (limits : Limits) (w : Compilation) → w.closed ≡ 0 → (construct_closed limits w).closed ≡ 0
closed_none limits w e =
    ap (λ (v : Compilation). v.closed) (ap (λ n. if nat_lt 0 n then record w { closed = n - 1 } else construct_ended limits w) e) ∙ e

step_carried_none : (limits : Limits) (context : Context) (first : Place) (f : Option Finding) (v : Compilation)
    → (part_carried limits context first Part.Step f v).closed ≡ v.closed
unfolding part_effect
step_carried_none limits context first (Some f) v = refl
step_carried_none limits context first None v = refl

step_none : (limits : Limits) (context : Context) (place : Place) (w : Compilation) →
    (act limits context place Action.EndForStep w).closed ≡ w.closed
step_none limits context place w =
    let ready = part_prepared w in
    let first = place_of Part.Step place ready in
    of_both (λ (v : Compilation). v.closed ≡ w.closed) w.is_replaced (passed (has_last Part.Step) w)
    (part_finished limits context first Part.Step ready)
    (λ _. refl) (λ _. step_carried_none limits context first (found_in limits context Part.Step ready) (named ready))

loop_carried_none : (limits : Limits) (context : Context) (first : Place) (f : Option Finding) (v : Compilation)
    → (part_carried limits context first Part.Loop f v).closed ≡ v.closed
unfolding part_effect
loop_carried_none limits context first (Some f) v = refl
loop_carried_none limits context first None v = refl

loop_none : (limits : Limits) (context : Context) (place : Place) (w : Compilation) →
    (act limits context place Action.EndObjectloop w).closed ≡ w.closed
loop_none limits context place w =
    let ready = part_prepared w in
    let first = place_of Part.Loop place ready in
    of_both (λ (v : Compilation). v.closed ≡ w.closed) w.is_replaced (passed (has_last Part.Loop) w)
    (part_finished limits context first Part.Loop ready)
    (λ _. refl) (λ _. loop_carried_none limits context first (found_in limits context Part.Loop ready) (named ready))

-- a header closes none ahead, and leaves none open where none was
pub header_same : (limits : Limits) (context : Context) (first : Place) (names : List Name) (w : Compilation)
    → ((header_of limits context first names w).closed ≡ w.closed) ×
    (w.constructs ≡ [] → (header_of limits context first names w).constructs ≡ [])
header_same limits context first [] w = (refl, λ e. e)
header_same limits context first (name ∷ names) w =
    of_both (λ (v : Compilation). (v.closed ≡ w.closed) × (w.constructs ≡ [] → v.constructs ≡ [])) (is_to_be_replaced name w)
    (passed true (record w { is_replaced = true; is_embedded = false; constructs = [] }))
    (header_with limits context first name w.unit.headed (record w { is_replaced = false; is_embedded = false }))
    (λ _. (refl, λ e. refl)) (λ _. (refl, λ e. refl))

routine_none : (limits : Limits) (context : Context) (place : Place) (w : Compilation) → (close limits context place w).closed ≡ w.closed
routine_none limits context place w =
    of_both (λ (v : Compilation). v.closed ≡ w.closed) w.is_replaced (passed true w) (close_open limits context place w) (λ _. refl)
    (λ _. refl)

inside_end : (limits : Limits) (context : Context) (place : Place) (e : Ending) (w : Compilation) → is_inside_end e ≡ true → w.closed ≡ 0
    → (ended_as limits context place e w).closed ≡ 0
inside_end limits context place Ending.Locals w i e =
    (header_same limits context (first_place w.unit.tokens place) (names_in w.unit.tokens) w).0 ∙ e
inside_end limits context place Ending.Routine w i e = routine_none limits context place w ∙ e
inside_end limits context place Ending.Statement w i e = (quiet_end limits context place Ending.Statement w refl).1 ∙ e
inside_end limits context place Ending.Condition w i e = (quiet_end limits context place Ending.Condition w refl).1 ∙ e
inside_end limits context place Ending.Start w i e = (quiet_end limits context place Ending.Start w refl).1 ∙ e
inside_end limits context place Ending.Step w i e = step_none limits context place w ∙ e
inside_end limits context place Ending.Loop w i e = loop_none limits context place w ∙ e
inside_end limits context place Ending.Switched w i e = (quiet_end limits context place Ending.Switched w refl).1 ∙ e
inside_end limits context place Ending.Case w i e = case_none_ahead limits context place w ∙ e
inside_end limits context place _ w i e = cc

inside_role : (limits : Limits) (context : Context) (place : Place) (r : Role) (w : Compilation) → is_inside_role r ≡ true → w.closed ≡ 0
    → (played limits context place r w).closed ≡ 0
inside_role limits context place (Role.Gather s) w i e = e
inside_role limits context place (Role.Note n) w i e = (quiet_note limits context n w).1 ∙ e
inside_role limits context place (Role.End ends) w i e = inside_end limits context place ends w i e
inside_role limits context place (Role.Open o) w i e = opened_none limits context place (kind_of o) w ∙ e
inside_role limits context place Role.Join w i e = e
inside_role limits context place Role.Close w i e = closed_none limits w e
inside_role limits context place Role.Deeper w i e = (quiet_role limits context place Role.Deeper w refl).1 ∙ e
inside_role limits context place Role.MaybeDeeper w i e = e
inside_role limits context place Role.Nothing w i e = e

pub inside_act : (limits : Limits) (context : Context) (place : Place) (a : Action) (w : Compilation) → is_inside a ≡ true → w.closed ≡ 0
    → (act limits context place a w).closed ≡ 0
inside_act limits context place a w i e = inside_role limits context place (role_of a) w i e

pub took_none : (context : Context) (t : SourceToken) (w : Compilation) → (took context t w).closed ≡ w.closed
took_none context t w = (took_same context t w).1

quiet_end_inside : (e : Ending) → is_quiet_end e ≡ true → is_inside_end e ≡ true
quiet_end_inside Ending.Statement q = refl
quiet_end_inside Ending.Condition q = refl
quiet_end_inside Ending.Start q = refl
quiet_end_inside Ending.Switched q = refl
quiet_end_inside _ q = cc

quiet_role_inside : (r : Role) → is_quiet_role r ≡ true → is_inside_role r ≡ true
quiet_role_inside (Role.End e) q = quiet_end_inside e q
quiet_role_inside _ q = refl

pub quiet_inside : (a : Action) → is_quiet a ≡ true → is_inside a ≡ true
quiet_inside a q = quiet_role_inside (role_of a) q
