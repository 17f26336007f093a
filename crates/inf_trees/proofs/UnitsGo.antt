-- The parts of a unit, read one behind the other, where there is room for them.
use Rattle.std.proofs.Common.{◌≡◌, ℕ, ◌+◌, ◌≤◌, ◌<◌, List, [], ◌∷◌, ◌++◌, length, Bool, true, false, not, Option, None, refl, sym, ◌∙◌, ap}
use Rattle.std.proofs.Common.{arith, subst, is_some, nat_lt}
use Rattle.std.proofs.lemmas.Bool.{and_parts, cond-false}
use Rattle.std.proofs.lemmas.List.{length-append}
use Rattle.inf_scanner.specs.declared.tokens.Place.{Place}
use Rattle.inf_gathering.specs.Gatherings.{Gathering}
use Rattle.inf_settings.specs.{Bounds.Limits, declared.setting.Setting.Setting}
use Rattle.inf_machine.specs.Grammar.{Did, Event, Took}
use Rattle.inf_syntax.specs.declared.actions.Action.{Action}
use Rattle.inf_unit.specs.{Roles.role_of, Steps.step_in, declared.items.Item.Item, declared.roles.Note.Note, declared.roles.Role.Role}
use Rattle.inf_unit.specs.Units.{Unit as UnitAtHand, action_gathered, depth_behind, is_full, noted, taken, text_passed}
use Rattle.inf_compilation.specs.{Actions.Compilation, Context.Context}
use Rattle.inf_reader.specs.Acting.{act, operands_named, value_noted}
use Rattle.inf_statement_laws.specs.{Happenings.is_quiet, Happenings.is_quiet_role, Laid.passed, Laid.run, Readings.Seen}
use Rattle.inf_expression_laws.specs.Gathered.{AreSeen}
use Rattle.inf_language.specs.{Texts.atoms_of, Texts.happenings_before, Texts.tokens_of, Units.AllSteps}
use Rattle.inf_language.proofs.Derivations.{texts_take_all}
use Rattle.inf_trees.specs.Room.{has_room, have_room}
use Rattle.inf_trees.specs.Trees.{AreWritten, Named, Noted, Part, Single, Value, all_seen, parts_told, tokens_told, told_at, with_outer}
use Rattle.inf_trees.specs.Trees.{with_parts, with_value}
use Rattle.inf_trees.proofs.UnitStates.{is_note}
use Rattle.inf_trees.proofs.Needs.{Kind, counted, counted_more, need_of, needs, needs_in, note_need, steps_need}
use Rattle.inf_trees.proofs.UnitsRead.{HasForm, expressed_does, gathers, note_first, one_taken, ready, seen_parts, tokens_count}
use Rattle.inf_trees.proofs.UnitsRead.{tokens_opening, told_at_opening}

-- The actions among some events neither open a statement that holds others nor go on with one nor end one.
abbrev pub AreQuiet : List (Event Action) → Type 0
AreQuiet [] = Unit {0}
AreQuiet (Did a ∷ events) = (is_quiet a ≡ true) × AreQuiet events
AreQuiet (Took atom ∷ events) = AreQuiet events

role_is_quiet : (r : Role) → is_some (step_in r) ≡ true → is_quiet_role r ≡ true
role_is_quiet (Role.Gather s) is = refl
role_is_quiet _ is = cc

pub steps_quiet : (steps late : List (Event Action)) → AllSteps steps → AreQuiet late → AreQuiet (steps ++ late)
steps_quiet [] late steps quiet = quiet
steps_quiet (Did a ∷ events) late steps quiet = (role_is_quiet (role_of a) steps.0, steps_quiet events late steps.1 quiet)
steps_quiet (Took atom ∷ events) late steps quiet = steps_quiet events late steps quiet

-- Some tokens behind a unit are parts, by which the unit goes on and reports are told, where there is room for them.
pub record Goes (limits : Limits) (u : UnitAtHand) (seen : List Seen) (events : List (Event Action)) : Type 0 where
  pub parts : List Part
  pub same : all_seen parts ≡ seen
  pub quiet : AreQuiet events
  pub weighs : (kind : Kind) → needs kind parts ≤ needs_in kind events
  pub written : AreWritten (ready u) parts
  pub does : (context : Context) (next : Place) (w : Compilation) → w.opening ≡ None → have_room limits (ready u) parts ≡ true
      → run limits context (happenings_before next events seen) (record w { unit = ready u })
      ≡ record (parts_told context (ready u) parts w) { unit = with_parts parts (ready u) }

-- Behind each unit that they fit in, the tokens are parts.
abbrev pub Going : Limits → List Seen → List (Event Action) → Type 0
Going limits seen events =
    (u : UnitAtHand) → AreSeen (atoms_of seen) (tokens_of seen) → u.begun ≤ length u.tokens → length u.tokens + length seen < 4294967295
    → Goes limits u seen events

pub moved : (limits : Limits) {seen others : List Seen} {events late : List (Event Action)} → others ≡ seen → late ≡ events
    → Going limits others late → Going limits seen events
moved limits {others = others} {events = events} same are on =
    subst (λ l. Going limits l events) same (subst (λ es. Going limits others es) are on)

-- Nothing more

pub nothing_goes : (limits : Limits) (u : UnitAtHand) → Goes limits u [] []
nothing_goes limits u = record {
  parts = [];
  same = refl;
  quiet = tt;
  weighs = λ kind. omega arith;
  written = tt;
  does = λ context next w none room. refl;
}

pub nothing : (limits : Limits) → Going limits [] []
nothing limits u are_seen begun few = nothing_goes limits u

-- Lemmas about a token by itself

pub alone_goes : (limits : Limits) (s : Seen) (atom : ℕ) (u : UnitAtHand) (seen : List Seen) (events : List (Event Action))
    → Goes limits (record u { tokens = u.tokens ++ s.token ∷ []; depth = depth_behind s.token.kind u.depth }) seen events
    → Goes limits u (s ∷ seen) (Took atom ∷ events)
alone_goes limits s atom u seen events on = record {
  parts = Single s ∷ on.parts;
  same = ap (λ l. s ∷ l) on.same;
  quiet = on.quiet;
  weighs = on.weighs;
  written = on.written;
  does = λ context next w none room.
      let v = taken s.token (ready u) in
      ap (run limits context (happenings_before next events seen)) (one_taken context s (ready u) w none)
      ∙ on.does context next (passed s.behind (told_at context v s.token w)) (told_at_opening context v s.token w ∙ none) room;
}

pub alone : (limits : Limits) (s : Seen) (atom : ℕ) (seen : List Seen) (events : List (Event Action)) → Going limits seen events
    → Going limits (s ∷ seen) (Took atom ∷ events)
alone limits s atom seen events on u are_seen begun few =
    let count = length-append u.tokens (s.token ∷ []) in
    alone_goes limits s atom u seen events
    (on (record u { tokens = u.tokens ++ s.token ∷ []; depth = depth_behind s.token.kind u.depth }) are_seen.1
    (omega (arith, begun, count)) (omega (arith, few, count)))

-- Lemmas about notes

pub noted_goes : (limits : Limits) (a : Action) (n : Note) (u v : UnitAtHand) (seen : List Seen) (events : List (Event Action))
    → is_quiet a ≡ true → need_of a ≡ note_need n → noted n (ready u) ≡ ready v
    → ((context : Context) (place : Place) (w : Compilation) → has_room limits n (ready u) ≡ true
    → act limits context place a (record w { unit = ready u }) ≡ record w { unit = noted n (ready u) })
    → Goes limits v seen events → Goes limits u seen (Did a ∷ events)
noted_goes limits a n u v seen events quiet need is acts on = record {
  parts = Noted n ∷ on.parts;
  same = on.same;
  quiet = (quiet, on.quiet);
  weighs = λ kind. subst (λ o. counted (note_need n) kind (needs kind on.parts) ≤ counted o kind (needs_in kind events)) (sym need)
      (counted_more (note_need n) kind (needs kind on.parts) (needs_in kind events) (on.weighs kind));
  written = subst (λ x. AreWritten x on.parts) (sym is) on.written;
  does = λ context next w none room.
      let both = and_parts (has_room limits n (ready u)) (have_room limits (noted n (ready u)) on.parts) room in
      note_first limits context next a seen events (record w { unit = ready u }) (record w { unit = noted n (ready u) })
      (λ place. acts context place w both.0)
      ∙ subst (λ x. run limits context (happenings_before next events seen) (record w { unit = x })
      ≡ record (parts_told context x on.parts w) { unit = with_parts on.parts x }) (sym is)
      (on.does context next w none (subst (λ x. have_room limits x on.parts ≡ true) is both.1));
}

named_goes : (limits : Limits) (u : UnitAtHand) (seen : List Seen) (events : List (Event Action))
    → Goes limits (action_gathered u) seen events → Goes limits u seen (Did Action.Action ∷ events)
named_goes limits u seen events on = record {
  parts = Named ∷ on.parts;
  same = on.same;
  quiet = (refl, on.quiet);
  weighs = on.weighs;
  written = on.written;
  does = λ context next w none room. note_first limits context next Action.Action seen events (record w { unit = ready u })
      (record w { unit = action_gathered (ready u) }) (λ place. refl)
      ∙ on.does context next w none room;
}

not_true : (b : Bool) → not b ≡ true → b ≡ false
not_true true is = cc
not_true false is = refl

abbrev crowds : Limits → UnitAtHand → Bool
crowds limits u = nat_lt (limits Setting.Code) u.code

-- Lemmas about the effects of notes, where there is room

pub text_acts : (limits : Limits) (context : Context) (place : Place) (u : UnitAtHand) (w : Compilation)
    → has_room limits Note.PrintText u ≡ true
    → act limits context place Action.PrintText (record w { unit = u }) ≡ record w { unit = noted Note.PrintText u }
text_acts limits context place u w room =
    cond-false (crowds limits u) (record w { unit = text_passed u }) (record w { unit = noted Note.PrintText u })
    (not_true (crowds limits u) room)

pub value_acts : (limits : Limits) (context : Context) (place : Place) (u : UnitAtHand) (w : Compilation)
    → has_room limits Note.PrintValue u ≡ true
    → act limits context place Action.PrintValue (record w { unit = u }) ≡ record w { unit = noted Note.PrintValue u }
value_acts limits context place u w room =
    cond-false (crowds limits u) (value_noted context Note.PrintValue (record w { unit = u })) (record w { unit = noted Note.PrintValue u })
    (not_true (crowds limits u) room)

pub rule_acts : (limits : Limits) (context : Context) (place : Place) (u : UnitAtHand) (w : Compilation)
    → has_room limits Note.PrintRuled u ≡ true
    → act limits context place Action.PrintRule (record w { unit = u }) ≡ record w { unit = noted Note.PrintRuled u }
rule_acts limits context place u w room =
    cond-false (crowds limits u) (value_noted context Note.PrintRuled (record w { unit = u })) (record w { unit = noted Note.PrintRuled u })
    (not_true (crowds limits u) room)

set_acts : (limits : Limits) (context : Context) (place : Place) (u : UnitAtHand) (w : Compilation) → has_room limits Note.Set u ≡ true
    → act limits context place Action.Set (record w { unit = u }) ≡ record w { unit = noted Note.Set u }
set_acts limits context place u w room =
    cond-false (crowds limits u) (value_noted context Note.Set (record w { unit = u })) (record w { unit = noted Note.Set u })
    (not_true (crowds limits u) room)

clear_acts : (limits : Limits) (context : Context) (place : Place) (u : UnitAtHand) (w : Compilation) → has_room limits Note.Clear u ≡ true
    → act limits context place Action.Clear (record w { unit = u }) ≡ record w { unit = noted Note.Clear u }
clear_acts limits context place u w room =
    cond-false (crowds limits u) (value_noted context Note.Clear (record w { unit = u })) (record w { unit = noted Note.Clear u })
    (not_true (crowds limits u) room)

pub end_acts : (limits : Limits) (context : Context) (place : Place) (u : UnitAtHand) (w : Compilation)
    → has_room limits Note.OuterEnd u ≡ true
    → act limits context place Action.OuterEnd (record w { unit = u }) ≡ record w { unit = noted Note.OuterEnd u }
end_acts limits context place u w room =
    cond-false (is_full u) (operands_named (record w { unit = u })) (record w { unit = noted Note.OuterEnd u }) (not_true (is_full u) room)

-- Lemmas about the actions that note something
pub data IsAny : Action → Type 0 where
  AnEnd : IsAny Action.OuterEnd
  AText : IsAny Action.PrintText
  AValue : IsAny Action.PrintValue
  ASet : IsAny Action.Set
  AClear : IsAny Action.Clear
  AName : IsAny Action.Action
  AStore : IsAny Action.Store
  ABranch : IsAny Action.Branch
  ABranchNot : IsAny Action.BranchNot

pub any_of : (a : Action) → is_note a ≡ true → IsAny a
any_of Action.OuterEnd is = AnEnd
any_of Action.PrintText is = AText
any_of Action.PrintValue is = AValue
any_of Action.Set is = ASet
any_of Action.Clear is = AClear
any_of Action.Action is = AName
any_of Action.Store is = AStore
any_of Action.Branch is = ABranch
any_of Action.BranchNot is = ABranchNot
any_of _ is = cc

-- Behind a note a unit has the same tokens.
pub note_goes : (limits : Limits) {a : Action} → IsAny a → (u : UnitAtHand) (seen : List Seen) (events : List (Event Action))
    → ((g : Gathering) (items : List Item) (code : ℕ) (outer : Option ℕ)
    → Goes limits (record u { gathering = g; items = items; code = code; outer = outer }) seen events)
    → Goes limits u seen (Did a ∷ events)
note_goes limits AnEnd u seen events on =
    let v = noted Note.OuterEnd u in
    noted_goes limits Action.OuterEnd Note.OuterEnd u v seen events refl refl refl
    (λ context place w. end_acts limits context place (ready u) w)
    (on v.gathering v.items v.code v.outer)
note_goes limits AText u seen events on =
    let v = noted Note.PrintText u in
    noted_goes limits Action.PrintText Note.PrintText u v seen events refl refl refl
    (λ context place w. text_acts limits context place (ready u) w) (on v.gathering v.items v.code v.outer)
note_goes limits AValue u seen events on =
    let v = noted Note.PrintValue u in
    noted_goes limits Action.PrintValue Note.PrintValue u v seen events refl refl refl
    (λ context place w. value_acts limits context place (ready u) w) (on v.gathering v.items v.code v.outer)
note_goes limits ASet u seen events on =
    let v = noted Note.Set u in
    noted_goes limits Action.Set Note.Set u v seen events refl refl refl (λ context place w. set_acts limits context place (ready u) w)
    (on v.gathering v.items v.code v.outer)
note_goes limits AClear u seen events on =
    let v = noted Note.Clear u in
    noted_goes limits Action.Clear Note.Clear u v seen events refl refl refl
    (λ context place w. clear_acts limits context place (ready u) w)
    (on v.gathering v.items v.code v.outer)
note_goes limits AName u seen events on =
    let v = action_gathered u in named_goes limits u seen events (on v.gathering v.items v.code v.outer)
note_goes limits AStore u seen events on =
    let v = noted Note.Store u in
    noted_goes limits Action.Store Note.Store u v seen events refl refl refl (λ context place w room. refl)
    (on v.gathering v.items v.code v.outer)
note_goes limits ABranch u seen events on =
    let v = noted (Note.Branch true) u in
    noted_goes limits Action.Branch (Note.Branch true) u v seen events refl refl refl (λ context place w room. refl)
    (on v.gathering v.items v.code v.outer)
note_goes limits ABranchNot u seen events on =
    let v = noted (Note.Branch false) u in
    noted_goes limits Action.BranchNot (Note.Branch false) u v seen events refl refl refl (λ context place w room. refl)
    (on v.gathering v.items v.code v.outer)

-- Lemmas about an expression

pub expressed : (limits : Limits) (tokens rest : List Seen) (steps late : List (Event Action)) → HasForm (atoms_of tokens) steps
    → Going limits rest late → Going limits (tokens ++ rest) (Did Action.Outer ∷ (steps ++ late))
expressed limits tokens rest steps late form on u are_seen begun few =
    let parts = seen_parts tokens rest are_seen in
    let count = tokens_count tokens in
    let all_count = length-append u.tokens (tokens_of tokens) in
    let seen_count = length-append tokens rest in
    let all = texts_take_all form.text tokens refl in
    let g = gathers u tokens steps form all parts.0 begun (omega (arith, few, seen_count)) in
    let more = on (with_value (tokens_of tokens) g.value u) parts.1 (omega (arith, begun, all_count, count))
    (omega (arith, few, seen_count, all_count, count)) in
    record {
      parts = Value g.level tokens g.value ∷ more.parts;
      same = ap (λ l. tokens ++ l) more.same;
      quiet = (refl, steps_quiet steps late g.only more.quiet);
      weighs = λ kind. steps_need kind steps late (needs kind more.parts) g.only (more.weighs kind);
      written = (g.written, more.written);
      does = λ context next w none room. expressed_does limits context next u tokens rest steps late g.value w g.reads g.only all none
          ∙ more.does context next (tokens_told context (with_outer (ready u)) tokens w)
          (tokens_opening context (with_outer (ready u)) tokens w ∙ none) room;
    }

-- Tokens are parts of a unit, whatever parts follow them.
abbrev pub Leading : Limits → List Seen → List (Event Action) → Type 0
Leading limits tokens events =
    (rest : List Seen) (late : List (Event Action)) → Going limits rest late → Going limits (tokens ++ rest) (events ++ late)

-- Lemmas about a text that is printed

pub text_printed : (limits : Limits) (s : Seen) (atom : ℕ) (rest : List Seen) (late : List (Event Action)) → Going limits rest late
    → Going limits (s ∷ rest) (Did Action.OuterMaybe ∷ Took atom ∷ Did Action.PrintText ∷ late)
text_printed limits s atom rest late on u are_seen begun few =
    let v = noted (Note.Outer false) u in
    let x = record v { tokens = v.tokens ++ s.token ∷ []; depth = depth_behind s.token.kind v.depth } in
    let count = length-append u.tokens (s.token ∷ []) in
    noted_goes limits Action.OuterMaybe (Note.Outer false) u v (s ∷ rest) (Took atom ∷ Did Action.PrintText ∷ late) refl refl refl
    (λ context place w room. refl)
    (alone_goes limits s atom v rest (Did Action.PrintText ∷ late)
    (note_goes limits AText x rest late
    (λ g items code outer. on (record x { gathering = g; items = items; code = code; outer = outer }) are_seen.1
    (omega (arith, begun, count))
    (omega (arith, few, count)))))
