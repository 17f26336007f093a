-- The results computed from the kept entries are those of the routine's cells.
use Rattle.std.proofs.Common.{◌≡◌, ◌+◌, [], ◌∷◌, ◌++◌, length, take, Option, Some, None, ◌⊎◌, inr, subst, MatchResult, sym, ◌∙◌, ap, arith}
use Rattle.std.proofs.Common.{append_assoc, length-append}
use Rattle.std.proofs.lemmas.List.{take-append-le, take-take}
use Rattle.inf_area.specs.Fixups.{with_fixups}
use Rattle.inf_assembler.specs.{Places.missing, Places.twice_behind, Places.with_some, declared.routines.CloseFault.CloseFault}
use Rattle.inf_assembler.specs.Closing.{found, kept_place, kept_missing, kept_fixups, squeezed}
use Rattle.inf_assembler.specs.Routines.{State, contents_of, long_places, body_bytes, closing_bytes, routine_fixups, end_fault, full_fault}
use Rattle.inf_assembler.specs.Routines.{body_fault, fault_of}
use Rattle.inf_opcode.specs.Cells.{fixup_count, kept_from}
use Rattle.inf_assembler.proofs.Finishing.{none_of, long_is, places_is, missing_is, twice_is, fixups_is, order_is, squeezed_is}
use Rattle.inf_assembler.proofs.Finishing.{fault_missing, fault_twice, fault_body, with_none, with_some_of, length-fixups, both_ok}
use Rattle.inf_assembler.proofs.routines.Routine.finish.Goals as goal

pub returns-in-Some-clause-fault : goal.returns-in-Some-clause-fault
returns-in-Some-clause-fault g c =
    let state = c.args.self.now in let bytes = g.A.Area.bytes c.args.area.now in
    let contents = contents_of state bytes in let start = state.start in let stands = c.requires.open_still in
    let kept = c.as_slice-kept.result.now in
    let is : kept ≡ kept_from (start + 1) contents.cells =
    c.as_slice-kept.ensures.value ∙ ap (λ (s : State). s.kept) c.self.view_is ∙ stands.kept
    ∙ ap (λ k. kept_from (k + 1) contents.cells) (sym stands.start) in
    let long = c.in_ok-long.long.items in let long_e = long_is start contents kept is long c.in_ok-long.ensures in
    let missing_e : missing (long_places start contents) contents.cells ≡ c.first_missing.result =
    sym (c.first_missing.ensures ∙ ap (λ xs. kept_missing (found xs) kept) c.as_slice.ensures.value ∙ missing_is start contents kept is long
    long_e) in
    inr (fault_missing start c.args.kind contents state.limits c.args.refs.now c.in-Some.label (missing_e ∙ c.in-Some.is))

pub returns-in-Some-2-clause-fault : goal.returns-in-Some-2-clause-fault
returns-in-Some-2-clause-fault g c =
    let state = c.args.self.now in let bytes = g.A.Area.bytes c.args.area.now in
    let contents = contents_of state bytes in let start = state.start in let stands = c.requires.open_still in
    let kept = c.as_slice-kept.result.now in
    let is : kept ≡ kept_from (start + 1) contents.cells =
    c.as_slice-kept.ensures.value ∙ ap (λ (s : State). s.kept) c.self.view_is ∙ stands.kept
    ∙ ap (λ k. kept_from (k + 1) contents.cells) (sym stands.start) in
    let long = c.in_ok-long.long.items in let long_e = long_is start contents kept is long c.in_ok-long.ensures in
    let missing_e : missing (long_places start contents) contents.cells ≡ c.first_missing.result =
    sym (c.first_missing.ensures ∙ ap (λ xs. kept_missing (found xs) kept) c.as_slice.ensures.value ∙ missing_is start contents kept is long
    long_e) in
    let none = missing_e ∙ none_of c.first_missing.result c.in_default.not-Some in
    let twice_e : twice_behind [] contents.cells ≡ c.in_ok-label.field-0 = sym (c.in_ok-label.ensures ∙ twice_is start contents kept is) in
    inr (fault_twice start c.args.kind contents state.limits c.args.refs.now c.in-Some-2.label none (twice_e ∙ c.in-Some-2.is))

pub squeeze-requires : goal.squeeze-requires
squeeze-requires g c =
    let state = c.args.self.now in let bytes = g.A.Area.bytes c.args.area.now in
    let contents = contents_of state bytes in let start = state.start in let stands = c.requires.open_still in
    let kept = c.as_slice-kept.result.now in
    let is : kept ≡ kept_from (start + 1) contents.cells =
    c.as_slice-kept.ensures.value ∙ ap (λ (s : State). s.kept) c.self.view_is ∙ stands.kept
    ∙ ap (λ k. kept_from (k + 1) contents.cells) (sym stands.start) in
    let start_e : c.self.inside.start ≡ start = ap (λ (s : State). s.start) c.self.view_is in
    rw start_e (order_is start contents kept is bytes (take start bytes) stands.start stands.bytes)

pub overflow_add-self-inside : goal.overflow_add-self-inside
overflow_add-self-inside g c = omega (arith, c.self.invariant)

pub returns-in-None-clause-fault : goal.returns-in-None-clause-fault
returns-in-None-clause-fault g c =
    let state = c.args.self.now in let bytes = g.A.Area.bytes c.args.area.now in
    let contents = contents_of state bytes in let start = state.start in let stands = c.requires.open_still in
    let kept = c.as_slice-kept.result.now in
    let is : kept ≡ kept_from (start + 1) contents.cells =
    c.as_slice-kept.ensures.value ∙ ap (λ (s : State). s.kept) c.self.view_is ∙ stands.kept
    ∙ ap (λ k. kept_from (k + 1) contents.cells) (sym stands.start) in
    let long = c.in_ok-long.long.items in let long_e = long_is start contents kept is long c.in_ok-long.ensures in
    let missing_e : missing (long_places start contents) contents.cells ≡ c.first_missing.result =
    sym (c.first_missing.ensures ∙ ap (λ xs. kept_missing (found xs) kept) c.as_slice.ensures.value ∙ missing_is start contents kept is long
    long_e) in
    let none = missing_e ∙ none_of c.first_missing.result c.in_default.not-Some in
    let twice_e : twice_behind [] contents.cells ≡ c.in_ok-label.field-0 = sym (c.in_ok-label.ensures ∙ twice_is start contents kept is) in
    let none_twice = twice_e ∙ none_of c.in_ok-label.field-0 c.in_default-2.not-Some in
    let table = c.in_ok-places.places.items in
    let places_e = places_is start contents kept is long table long_e
    (λ n. c.in_ok-places.ensures n ∙ ap (λ xs. kept_place (found xs) 0 kept n) c.as_slice-2.ensures.value) in
    let start_e : c.self.inside.start ≡ start = ap (λ (s : State). s.start) c.self.view_is in
    let squeezed_e : squeezed (found c.as_slice-3.result.now) (found c.as_slice-4.result.now) (c.self.inside.start + 1)
    (c.self.inside.start + 1) kept bytes ≡ with_some (λ rest. (take start bytes ++ contents.locals ∷ []) ++ rest)
    (body_bytes start contents) =
    ap (λ k. squeezed (found c.as_slice-3.result.now) (found c.as_slice-4.result.now) (k + 1) (k + 1) kept bytes) start_e
    ∙ ap (λ xs. squeezed (found xs) (found c.as_slice-4.result.now) (start + 1) (start + 1) kept bytes) c.as_slice-3.ensures.value
    ∙ ap (λ xs. squeezed (found long) (found xs) (start + 1) (start + 1) kept bytes) c.as_slice-4.ensures.value
    ∙ squeezed_is start contents kept is long table bytes (take start bytes) long_e places_e stands.start stands.bytes in
    let far = with_none _ (body_bytes start contents) (sym squeezed_e ∙ c.in-None.ensures.bytes) in
    inr (fault_body start c.args.kind contents state.limits c.args.refs.now none none_twice ∙ ap
    (body_fault (full_fault start c.args.kind contents state.limits c.args.refs.now)) far)

pub returns : goal.returns
returns g c =
    let state = c.args.self.now in let bytes = g.A.Area.bytes c.args.area.now in
    let contents = contents_of state bytes in let start = state.start in let stands = c.requires.open_still in
    let kept = c.as_slice-kept.result.now in
    let is : kept ≡ kept_from (start + 1) contents.cells =
    c.as_slice-kept.ensures.value ∙ ap (λ (s : State). s.kept) c.self.view_is ∙ stands.kept
    ∙ ap (λ k. kept_from (k + 1) contents.cells) (sym stands.start) in
    let long = c.in_ok-long.long.items in let long_e = long_is start contents kept is long c.in_ok-long.ensures in
    let missing_e : missing (long_places start contents) contents.cells ≡ c.first_missing.result =
    sym (c.first_missing.ensures ∙ ap (λ xs. kept_missing (found xs) kept) c.as_slice.ensures.value ∙ missing_is start contents kept is long
    long_e) in
    let none = missing_e ∙ none_of c.first_missing.result c.in_default.not-Some in
    let twice_e : twice_behind [] contents.cells ≡ c.in_ok-label.field-0 = sym (c.in_ok-label.ensures ∙ twice_is start contents kept is) in
    let none_twice = twice_e ∙ none_of c.in_ok-label.field-0 c.in_default-2.not-Some in
    let table = c.in_ok-places.places.items in
    let places_e = places_is start contents kept is long table long_e
    (λ n. c.in_ok-places.ensures n ∙ ap (λ xs. kept_place (found xs) 0 kept n) c.as_slice-2.ensures.value) in
    let start_e : c.self.inside.start ≡ start = ap (λ (s : State). s.start) c.self.view_is in
    let squeezed_e : squeezed (found c.as_slice-3.result.now) (found c.as_slice-4.result.now) (c.self.inside.start + 1)
    (c.self.inside.start + 1) kept bytes ≡ with_some (λ rest. (take start bytes ++ contents.locals ∷ []) ++ rest)
    (body_bytes start contents) =
    ap (λ k. squeezed (found c.as_slice-3.result.now) (found c.as_slice-4.result.now) (k + 1) (k + 1) kept bytes) start_e
    ∙ ap (λ xs. squeezed (found xs) (found c.as_slice-4.result.now) (start + 1) (start + 1) kept bytes) c.as_slice-3.ensures.value
    ∙ ap (λ xs. squeezed (found long) (found xs) (start + 1) (start + 1) kept bytes) c.as_slice-4.ensures.value
    ∙ squeezed_is start contents kept is long table bytes (take start bytes) long_e places_e stands.start stands.bytes in
    let head = take start bytes ++ contents.locals ∷ [] in let squeezed_bytes = g.A.Area.bytes c.squeeze.new.area in
    let done =
    with_some_of (λ rest. head ++ rest) (body_bytes start contents) squeezed_bytes (sym squeezed_e ∙ c.in-Some-squeeze.ensures.bytes) in
    let is_state : state.kept ≡ kept_from (start + 1) contents.cells =
    stands.kept ∙ ap (λ k. kept_from (k + 1) contents.cells) (sym stands.start) in
    let fixups_e : kept_fixups (found c.as_slice-in-Some-squeeze.result.now) 0 state.kept ≡ routine_fixups start contents =
    ap (λ xs. kept_fixups (found xs) 0 state.kept) c.as_slice-in-Some-squeeze.ensures.value
    ∙ fixups_is start contents state.kept is_state long long_e in
    let long_body : start + 1 + length done.0 ≡ length squeezed_bytes =
    omega (arith, ap length done.2, length-append head done.0, length-append (take start bytes) (contents.locals ∷ []), stands.start) in
    let counted : fixup_count contents.cells ≡ length (kept_fixups (found c.as_slice-in-Some-squeeze.result.now) 0 state.kept) =
    sym (ap length fixups_e ∙ length-fixups (long_places start contents) (start + 1) (start + 1) contents.cells) in
    let all : fault_of start c.args.kind contents state.limits c.args.refs.now ≡ end_fault state.is_final state.limits
    (length squeezed_bytes) c.args.refs.now (length (kept_fixups (found c.as_slice-in-Some-squeeze.result.now) 0 state.kept)) =
    fault_body start c.args.kind contents state.limits c.args.refs.now none none_twice
    ∙ ap (body_fault (full_fault start c.args.kind contents state.limits c.args.refs.now)) done.1
    ∙ ap (λ k. end_fault state.is_final state.limits k c.args.refs.now (fixup_count contents.cells)) long_body
    ∙ ap (end_fault state.is_final state.limits (length squeezed_bytes) c.args.refs.now) counted in
    let P : Option CloseFault → Type 0 =
    λ f. MatchResult c.finish_end.result (λ _. f ≡ None) (λ refused. (refused ≡ CloseFault.Memory) ⊎ (f ≡ Some refused)) in
    let more = c.self.inside.start + 1 in let grown = c.finish_end.ensures.grown in
    record {
      ok = both_ok c.finish_end.result c.finish_end.ensures.bytes c.finish_end.ensures.fixups (λ written listed. record {
        body = done.0;
        is = done.1;
        bytes = written ∙ ap (λ xs. xs ++ closing_bytes c.args.kind state.is_final)
            (done.2 ∙ append_assoc (take start bytes) (contents.locals ∷ []) done.0);
        fixups = listed ∙ ap (λ hs. with_fixups (c.args.refs.now.list ++ hs) c.args.refs.now) fixups_e;
      });
      before = ap (take start) grown.1
          ∙ take-append-le start squeezed_bytes grown.0 (omega (arith, start_e, c.in-Some-squeeze.ensures.within))
          ∙ sym (take-take start more squeezed_bytes (omega (arith, start_e))) ∙ ap (take start) c.in-Some-squeeze.ensures.before
          ∙ take-take start more bytes (omega (arith, start_e));
      within = omega (arith, ap length grown.1, length-append squeezed_bytes grown.0, start_e, c.in-Some-squeeze.ensures.within);
      refs = c.finish_end.ensures.refs;
      fault = subst P (sym all) c.finish_end.ensures.fault;
    }
