-- A case is a tree: the way in which it begins, its values, and its colon.
use Rattle.std.proofs.Common.{◌≡◌, ◌+◌, ◌≤◌, ◌<◌, List, [], ◌∷◌, ◌++◌, length, Bool, true, false, None, refl, sym, ◌∙◌, ap, subst}
use Rattle.std.proofs.Common.{append_assoc, arith, nat_lt, not, ◌&&◌}
use Rattle.std.proofs.lemmas.Bool.{and_parts, ltb-false, ltb-true}
use Rattle.std.proofs.lemmas.List.{length-append}
use Rattle.inf_scanner.specs.declared.tokens.Place.{Place}
use Rattle.inf_settings.specs.Bounds.{Limits}
use Rattle.inf_machine.specs.{Grammar.Did, Grammar.Event, Grammar.IsText, Grammar.Took, declared.symbols.Symbol.Symbol}
use Rattle.inf_syntax.specs.declared.actions.Action.{Action}
use Rattle.inf_grammar.specs.Language.{grammar}
use Rattle.inf_unit.specs.Units.{Unit as UnitAtHand, no_unit}
use Rattle.inf_compilation.specs.{Actions.Compilation, Context.Context}
use Rattle.inf_reader.specs.Acting.{act}
use Rattle.inf_statement_laws.specs.{Laid.run, Nested.Case, Nested.Plain, Nested.Then as After, Readings.Seen, Readings.plainly_at}
use Rattle.inf_statement_laws.specs.Happenings.{Acts, Happening, Quiet, Takes, happen_quietly}
use Rattle.inf_expression_laws.specs.Gathered.{AreSeen}
use Rattle.inf_language.specs.{Texts.atoms_of, Texts.happenings_before, Texts.tokens_of, Units.TakeAll}
use Rattle.inf_language.proofs.Derivations.{seen_front, texts_take_all}
use Rattle.inf_trees.specs.{Ends.case_first, Room.have_room}
use Rattle.inf_trees.specs.Trees.{AreWritten, Part, all_seen, parts_told, with_parts}
use Rattle.inf_trees.proofs.{Pending.OfFree, StatementsRead.take_front, Symbols.act_first, UnitStates.Ended, UnitStates.Free}
use Rattle.inf_trees.proofs.{UnitStates.Typed, UnitWalks.OfCase, UnitWalks.declared, UnitsGo.AreQuiet, UnitsGo.Going}
use Rattle.inf_trees.proofs.{UnitsTyped.units_typed}
use Rattle.inf_trees.proofs.ItemTexts.{Begun, CaseStart, Directly, SwitchWord, TopWord}
use Rattle.inf_trees.proofs.UnitsRead.{before-append, place_before, ready, seen_parts}
use Rattle.inf_routine_trees.specs.Bodies.{AtTop, Case as CaseTree, OfSwitch, Standing, Start, WithNext, WithUnit, WithWord, count_of}
use Rattle.inf_routine_trees.specs.Bodies.{fits, start_seen, started, token_done}
use Rattle.inf_routine_trees.proofs.Pieces.{word_happens, worded}
use Rattle.inf_routine_trees.proofs.Trees.{AreAll, IsTree, happen_quiet, moved_seen, room_lays}

-- Lemmas about the beginning of a case

record Starts (symbols : List (Symbol Action)) (seen : List Seen) (events : List (Event Action)) : Type 0 where
  start : Start
  rest : List Seen
  late : List (Event Action)
  same : start_seen start ++ rest ≡ seen
  text : IsText grammar symbols (atoms_of rest) late
  fewer : length rest ≤ length seen
  ends : case_first late ≡ case_first events
  happens : Place → List Happening
  happen : (next : Place) → happenings_before next events seen ≡ happens next ++ happenings_before next late rest
  quiet : (next : Place) → happen_quietly (happens next) ≡ true
  runs : (limits : Limits) (context : Context) (next : Place) (w : Compilation)
      → run limits context (happens next) w ≡ started limits context start w
  opening : (limits : Limits) (context : Context) (w : Compilation) → w.opening ≡ None → (started limits context start w).opening ≡ None

with_word : (stands : Standing) (symbols : List (Symbol Action)) (seen : List Seen) (events : List (Event Action)) (word : Seen)
    (rest : List Seen) (late : List (Event Action)) → word ∷ rest ≡ seen → IsText grammar symbols (atoms_of rest) late
    → case_first late ≡ case_first events
    → ((next : Place) → happenings_before next events seen ≡ word_happens stands word ++ happenings_before next late rest)
    → happen_quietly (word_happens stands word) ≡ true
    → ((limits : Limits) (context : Context) (w : Compilation)
    → run limits context (word_happens stands word) w ≡ started limits context (WithWord stands word) w)
    → Starts symbols seen events
with_word stands symbols seen events word rest late same text ends happen quiet runs =
    let count = ap length same in
    record {
      start = WithWord stands word;
      rest = rest;
      late = late;
      same = same;
      text = text;
      fewer = omega (arith, count);
      ends = ends;
      happens = λ next. word_happens stands word;
      happen = happen;
      quiet = λ next. quiet;
      runs = λ limits context next w. runs limits context w;
      opening = λ limits context w none. refl;
    }

starts : {begins : List (Symbol Action)} → CaseStart begins → (limits : Limits) (symbols : List (Symbol Action)) (seen : List Seen)
    (events : List (Event Action)) → IsText grammar (begins ++ symbols) (atoms_of seen) events → Starts symbols seen events
starts Begun limits symbols seen events text =
    let b = act_first Action.Begin symbols seen events text in
    record {
      start = WithUnit;
      rest = seen;
      late = b.late;
      same = refl;
      text = b.text;
      fewer = omega arith;
      ends = sym (ap case_first b.are);
      happens = λ next. Acts (plainly_at (place_before seen next)) Action.Begin ∷ [];
      happen = b.happen;
      quiet = λ next. refl;
      runs = λ limits context next w. refl;
      opening = λ limits context w none. none;
    }
starts Directly limits symbols seen events text = record {
  start = WithNext;
  rest = seen;
  late = events;
  same = refl;
  text = text;
  fewer = omega arith;
  ends = refl;
  happens = λ next. [];
  happen = λ next. refl;
  quiet = λ next. refl;
  runs = λ limits context next w. refl;
  opening = λ limits context w none. none;
}
starts (TopWord {class}) limits symbols seen events text =
    let wd = worded limits AtTop class symbols seen events text in
    with_word AtTop symbols seen events wd.word wd.rest wd.late wd.same wd.text wd.ends wd.happen wd.quiet (λ l context w. refl)
starts (SwitchWord {class}) limits symbols seen events text =
    let wd = worded limits OfSwitch class symbols seen events text in
    with_word OfSwitch symbols seen events wd.word wd.rest wd.late wd.same wd.text wd.ends wd.happen wd.quiet (λ l context w. refl)

-- Lemmas about the values, behind any unit

both_ways : (b : Bool) → b ≡ true → b ≡ false → ⊥
both_ways true is not_so = cc
both_ways false is not_so = cc

not_true : (b : Bool) → not b ≡ true → b ≡ false
not_true true is = cc
not_true false is = refl

ready_is : (u : UnitAtHand) → u.is_over ≡ false → ready u ≡ u
ready_is u is = ap (λ b. record u { is_over = b }) (sym is)

record Valued (limits : Limits) (seen : List Seen) (events : List (Event Action)) (u : UnitAtHand) : Type 0 where
  parts : List Part
  same : all_seen parts ≡ seen
  quiet : AreQuiet events
  written : fits (length seen) u ≡ true → AreWritten u parts
  does : fits (length seen) u ≡ true → (context : Context) (next : Place) (w : Compilation) → w.opening ≡ None
      → have_room limits u parts ≡ true
      → run limits context (happenings_before next events seen) (record w { unit = u })
      ≡ record (parts_told context u parts w) { unit = with_parts parts u }

module _ (limits : Limits) (seen : List Seen) (events : List (Event Action)) (going : Going limits seen events)
    (are_seen : AreSeen (atoms_of seen) (tokens_of seen)) (few : length seen < 4294967295) where
  valued_by : (u : UnitAtHand) (b : Bool) → fits (length seen) u ≡ b → Valued limits seen events u
  valued_by u true is =
      let begins = not (nat_lt (length u.tokens) u.begun) in
      let count = nat_lt (length u.tokens + length seen) 4294967295 in
      let both = and_parts (not u.is_over) (begins && count) is in
      let others = and_parts begins count both.1 in
      let over = not_true u.is_over both.0 in
      let begun = ltb-false (length u.tokens) u.begun (not_true (nat_lt (length u.tokens) u.begun) others.0) in
      let g = going u are_seen begun (ltb-true (length u.tokens + length seen) 4294967295 others.1) in
      let same = ready_is u over in
      record {
        parts = g.parts;
        same = g.same;
        quiet = g.quiet;
        written = λ fit. subst (λ x. AreWritten x g.parts) same g.written;
        does = λ fit context next w none room. subst (λ x. run limits context (happenings_before next events seen) (record w { unit = x })
            ≡ record (parts_told context x g.parts w) { unit = with_parts g.parts x }) same
            (g.does context next w none (subst (λ x. have_room limits x g.parts ≡ true) (sym same) room));
      }
  valued_by u false is =
      let g = going no_unit are_seen (omega arith) (omega (arith, few)) in
      record {
        parts = g.parts;
        same = g.same;
        quiet = g.quiet;
        written = λ fit. absurd (both_ways (fits (length seen) u) fit is);
        does = λ fit context next w none room. absurd (both_ways (fits (length seen) u) fit is);
      }

  valued : (u : UnitAtHand) → Valued limits seen events u
  valued u = valued_by u (fits (length seen) u) refl

pub case_tree : {begins : List (Symbol Action)} → CaseStart begins → (limits : Limits) (next : Place) (symbols : List (Symbol Action))
    → Typed declared Action.EndCase Free symbols Ended → {events : List (Event Action)} → case_first events ≡ true → (seen : List Seen)
    → IsText grammar (begins ++ symbols) (atoms_of seen) events → AreAll seen → length seen + 1 < 4294967295
    → IsTree true limits next seen events
case_tree is limits next symbols typed {events} kind seen text are_seen few =
    let s = starts is limits symbols seen events text in
    let parts = seen_parts (start_seen s.start) s.rest (moved_seen (sym s.same) are_seen) in
    let u = units_typed limits OfCase s.text refl s.rest refl typed refl (s.ends ∙ kind) [] [] OfFree in
    let c = u.last in
    let late : List (Event Action) = Did Action.EndCase ∷ Took u.atom ∷ [] in
    let place = c.token.place in
    let ends = plainly_at place in
    let hs = happenings_before place u.acts u.body in
    let end : List Happening = Acts ends Action.EndCase ∷ Takes c.token c.behind ∷ [] in
    let all_rest = texts_take_all s.text s.rest refl in
    let all = take_front Action.EndCase u.atom u.acts u.body c
    (subst (λ l. TakeAll l (u.body ++ c ∷ [])) (sym u.are) (subst (λ l. TakeAll s.late l) (sym u.same) all_rest)) in
    let happen : happenings_before next s.late s.rest ≡ hs ++ end = ap (λ l. happenings_before next l s.rest) (sym u.are)
    ∙ (ap (λ l. happenings_before next (u.acts ++ late) l) (sym u.same) ∙ before-append next u.acts late u.body (c ∷ []) all) in
    let inside = seen_front u.body c (moved_seen (sym u.same) parts.1) in
    let body_count : length u.body + 1 ≡ length s.rest = sym (length-append u.body (c ∷ [])) ∙ ap length u.same in
    let v = valued limits u.body u.acts u.going inside (omega (arith, few, s.fewer, body_count)) in
    let q : Quiet = record { all = hs; are = happen_quiet place u.acts u.body (v no_unit).quiet } in
    let first : Quiet = record { all = s.happens next; are = s.quiet next } in
    let last : Quiet = record { all = Takes c.token c.behind ∷ []; are = refl } in
    let values = λ (x : UnitAtHand). (v x).parts in
    let count : count_of values ≡ length u.body = ap length (v no_unit).same in
    record {
      tree = CaseTree s.start values q c;
      all = ap (λ x. start_seen s.start ++ (x ++ c ∷ [])) (v no_unit).same ∙ (ap (λ x. start_seen s.start ++ x) u.same ∙ s.same);
      written = λ x fit. (v x).written (ap (λ m. fits m x) (sym count) ∙ fit);
      nested = After (Plain first) (After (Case q ends) (Plain last));
      same = sym (s.happen next ∙ ap (λ x. s.happens next ++ x) (happen
          ∙ sym (append_assoc hs (Acts ends Action.EndCase ∷ []) (Takes c.token c.behind ∷ []))));
      rests = λ effects. refl;
      lays = λ effects context w ahead none.
          let x = started limits context s.start w in
          let behind = λ (z : Compilation). token_done context c (act limits context place Action.EndCase z) in
          let values_done_by = record (parts_told context x.unit (values x.unit) x) { unit = with_parts (values x.unit) x.unit } in
          ap (λ z. behind (run limits context hs z)) (s.runs limits context next w)
          ∙ ap behind (room_lays (fits (count_of values) x.unit && have_room limits x.unit (values x.unit)) values_done_by
          (run limits context hs x)
          (λ is. let both = and_parts (fits (count_of values) x.unit) (have_room limits x.unit (values x.unit)) is in
          (v x.unit).does (ap (λ m. fits m x.unit) (sym count) ∙ both.0) context place x (s.opening limits context w none) both.1));
    }
