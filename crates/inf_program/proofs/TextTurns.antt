-- The turns of the text of a supplied routine: by sides they lead to the same state, they end, and lines are written at any time.
use Rattle.std.proofs.Common.{◌≡◌, ◌⊎◌, inl, inr, ℕ, zero, suc, ◌<◌, ◌||◌, List, [], length, Bool, true, false, None, refl, sym, ◌∙◌, ap}
use Rattle.std.proofs.Common.{arith, subst, true≢false, if◌then◌else◌}
use Rattle.inf_settings.specs.Bounds.{Limits}
use Rattle.inf_scanner.proofs.TokenLaws.{tokens_take_bytes}
use Rattle.inf_devices.specs.Files.{Sources}
use Rattle.inf_unit.specs.Tokens.{SourceToken}
use Rattle.inf_unit.proofs.Cases.{of_both}
use Rattle.inf_conditionals.specs.{Judging.Behind as Judged, Judging.judged, Open.Conditions, Open.silent, declared.filtered.Site.Site}
use Rattle.inf_conditional_sides.specs.Rests.{HandsNone}
use Rattle.inf_reader.specs.{Handing.said_told, Handing.site_of, Reading.is_mode_ended}
use Rattle.inf_session.specs.{Choices.Choices, Taking.quoted_behind, Veneer.text_turns}
use Rattle.inf_session.specs.Session.{State as TurnState, context_of as turn_context, has_ended as turn_has_ended}
use Rattle.inf_session.specs.Session.{is_resting as turn_resting, piece_closed as turn_piece_closed, rested as turn_rested}
use Rattle.inf_session.specs.Session.{stand_of as turn_stand, stepped as turn_stepped, token_of}
use Rattle.inf_session.proofs.{Stepping.end_ends, TextTurns.text_ended}
use Rattle.inf_message_laws.specs.Growing.{with_lines_before}
use Rattle.inf_program.specs.{BySides.with_conditions, Writing.with_lines, definition.NextToken.Position, definition.NextToken.coming}
use Rattle.inf_program.specs.definition.States.{State, carried_out, context_of, has_ended, rested}
use Rattle.inf_program.specs.SideTurns.{position_of, side_run, side_turn, stand_of, stepped, side_steps}
use Rattle.inf_program.proofs.{Followed.rested_moves, RegularTurns.none_read, Stepping.followed_supplied, Turns.stepped_moves}
use Rattle.inf_program.proofs.SideStates.{Matches, Ready, open_ready, then_rested}
use Rattle.inf_program.proofs.SideTurns.{Matched, Passed, Taken, Turned, agree_silent, none_handed, passed_by, stepped_alike, still_ready}
use Rattle.inf_program.proofs.SideTurns.{taken_by}

-- Lemmas about one turn by sides

text_ready : (c : Conditions) (s y : State) (b : Judged) → Passed c s y b → (HandsNone b.judged → y.reading ≡ s.reading)
    → ((b.now.pending ≡ []) × (b.now.left_out ≡ None)) ⊎ HandsNone b.judged → Ready (silent b.now) y
text_ready c s y b p still (inl none) = open_ready (silent b.now) y (record {
  agree = agree_silent b.now y.sides p.agree;
  declared = p.declared;
  none_said = refl;
  none = none.0;
  stay = none.1;
})
text_ready c s y b p still (inr quiet) = still_ready c s y b p (still quiet)

text_turned : (limits : Limits) (sources : Sources) (o : Choices) (c : Conditions) (q : ℕ) (s : State) → c.most_tokens ≡ s.most_tokens
    → s.is_supplied ≡ true → Matches c s
    → Turned (turn_rested (turn_stepped limits o (with_conditions c q s))) (side_turn limits sources o s)
text_turned limits sources o c q s most supplied m =
    let site : Site = site_of o.settings s.reading in
    let p : Position = position_of s.reading in
    let t : SourceToken = coming p s in
    let b : Judged = judged site s.work.output t c in
    let y : State = stepped limits o s in
    let q2 : ℕ = quoted_behind site b.judged t q in
    let k : Taken limits o c s b = taken_by limits o c s most m in
    let passed : Passed c s y b = passed_by limits o c s b k m.declared in
    let still : HandsNone b.judged → y.reading ≡ s.reading =
    λ none. none_read limits (context_of o s) (side_steps limits o s) (stand_of s) (none_handed limits o c s b k none) in
    let now : TurnState = with_conditions (silent b.now) q2 y in
    record {
      quoted = q2;
      behind = subst (λ (x : TurnState). Matched q2 (turn_rested x) (side_turn limits sources o s))
          (sym (stepped_alike limits sources o c q s k))
          (subst (λ (is_supplied : Bool). Matched q2 (turn_rested now) (rested (if is_supplied then y else carried_out sources o y)))
          (sym supplied)
          (then_rested q2 now y (record {
            now = silent b.now;
            same = refl;
            most = passed.most;
            ready = λ on. text_ready c s y b passed still k.rests.quiet;
          })));
    }

-- Lemmas about all turns by sides

pub record TextRan (t : TurnState) (s : State) : Type 0 where
  pub conditions : Conditions
  pub quoted : ℕ
  pub same : t ≡ with_conditions conditions quoted s
  pub most : conditions.most_tokens ≡ s.most_tokens

abbrev TextsAlike : Limits → Sources → Choices → ℕ → Type 0
TextsAlike limits sources o n =
    (c : Conditions) (q : ℕ) (s : State) → c.most_tokens ≡ s.most_tokens → s.is_supplied ≡ true → (has_ended s ≡ false → Matches c s)
    → TextRan (text_turns limits o n (with_conditions c q s)) (side_run limits sources o n s)

text_by : (limits : Limits) (sources : Sources) (o : Choices) (n : ℕ) → TextsAlike limits sources o n → (c : Conditions) (q : ℕ) (s : State)
    → c.most_tokens ≡ s.most_tokens → s.is_supplied ≡ true → (has_ended s ≡ false → Matches c s) → (b : Bool) → has_ended s ≡ b
    → TextRan (text_turns limits o (suc n) (with_conditions c q s)) (side_run limits sources o (suc n) s)
text_by limits sources o n later c q s most supplied matches true over = subst (λ (b : Bool). TextRan
    (if b then with_conditions c q s else text_turns limits o n (turn_rested (turn_stepped limits o (with_conditions c q s))))
    (if b then s else side_run limits sources o n (side_turn limits sources o s))) (sym over)
    (record { conditions = c; quoted = q; same = refl; most = most })
text_by limits sources o n later c q s most supplied matches false going =
    let x : State = side_turn limits sources o s in
    let t : TurnState = turn_rested (turn_stepped limits o (with_conditions c q s)) in
    let turned : Turned t x = text_turned limits sources o c q s most supplied (matches going) in
    let behind : Matched turned.quoted t x = turned.behind in
    subst (λ (b : Bool). TextRan (if b then with_conditions c q s else text_turns limits o n t)
    (if b then s else side_run limits sources o n x)) (sym going)
    (subst (λ (y : TurnState). TextRan (text_turns limits o n y) (side_run limits sources o n x)) (sym behind.same)
    (later behind.now turned.quoted x behind.most (followed_supplied sources o (stepped limits o s) ∙ supplied) (λ on. behind.ready on)))

pub texts_alike : (limits : Limits) (sources : Sources) (o : Choices) (n : ℕ) → TextsAlike limits sources o n
texts_alike limits sources o zero c q s most supplied matches = record { conditions = c; quoted = q; same = refl; most = most }
texts_alike limits sources o (suc n) c q s most supplied matches =
    text_by limits sources o n (texts_alike limits sources o n) c q s most supplied matches (has_ended s) refl

-- Lemmas about the end of a text

-- a token takes bytes, or is the end of the text, and ends it
text_takes : (limits : Limits) (o : Choices) (s : TurnState) → (is_mode_ended (turn_stepped limits o s).reading.mode ≡ true)
    ⊎ (length (turn_stepped limits o s).nesting.cursor.rest < length s.nesting.cursor.rest)
text_takes limits o s =
    let c = s.nesting.cursor in
    let t : SourceToken = token_of s in
    let b = judged (site_of o.settings s.reading) s.work.output t s.conditions in
    elim (tokens_take_bytes c.set c.limit c.lines c.rest).one as
    (λ _. (is_mode_ended (turn_stepped limits o s).reading.mode ≡ true)
    ⊎ (length (turn_stepped limits o s).nesting.cursor.rest < length s.nesting.cursor.rest)) [
      | inl end ↦ inl (end_ends limits (turn_context o s) t.kind t.bytes t.place t.is_class s.work.output s.conditions
          (said_told limits b.now.said (turn_context o s) (turn_stand s)) (site_of o.settings s.reading) b.now b.judged refl end)
      | inr less ↦ inr less
    ]

third_of_three : (a b c : Bool) → c ≡ true → (a || (b || c)) ≡ true
third_of_three true b c e = refl
third_of_three false true c e = refl
third_of_three false false c e = e

rested_ends : (x : TurnState) → turn_has_ended x ≡ true → turn_has_ended (turn_rested x) ≡ true
rested_ends x e = ap turn_has_ended (ap (λ b. if b then x else if turn_resting x then turn_piece_closed x else x) e) ∙ e

rested_cursor : (x : TurnState) → length (turn_rested x).nesting.cursor.rest ≡ length x.nesting.cursor.rest
rested_cursor x = of_both (λ (y : TurnState). length y.nesting.cursor.rest ≡ length x.nesting.cursor.rest) (turn_has_ended x) x
    (if turn_resting x then turn_piece_closed x else x) (λ _. refl)
    (λ _. of_both (λ (y : TurnState). length y.nesting.cursor.rest ≡ length x.nesting.cursor.rest) (turn_resting x) (turn_piece_closed x) x
    (λ _. refl) (λ _. refl))

-- more turns than a text has bytes end it
abbrev AllEnd : Limits → Choices → ℕ → Type 0
AllEnd limits o n = (s : TurnState) → length s.nesting.cursor.rest < n → turn_has_ended (text_turns limits o n s) ≡ true

shorter : (a b c n : ℕ) → a ≡ b → b < c → c < suc n → a < n
shorter a b c n same less few = omega (arith, same, less, few)

end_by : (limits : Limits) (o : Choices) (n : ℕ) → AllEnd limits o n → (s : TurnState) → length s.nesting.cursor.rest < suc n
    → (is_mode_ended (turn_stepped limits o s).reading.mode ≡ true)
    ⊎ (length (turn_stepped limits o s).nesting.cursor.rest < length s.nesting.cursor.rest)
    → turn_has_ended (text_turns limits o n (turn_rested (turn_stepped limits o s))) ≡ true
end_by limits o n later s few (inl ended) =
    let x : TurnState = turn_stepped limits o s in
    let over : turn_has_ended (turn_rested x) ≡ true =
    rested_ends x (third_of_three x.is_over x.work.report.counts.is_over (is_mode_ended x.reading.mode) ended) in
    ap turn_has_ended (text_ended limits o n (turn_rested x) over) ∙ over
end_by limits o n later s few (inr less) =
    let x : TurnState = turn_stepped limits o s in
    later (turn_rested x) (shorter (length (turn_rested x).nesting.cursor.rest) (length x.nesting.cursor.rest) (length s.nesting.cursor.rest) n
    (rested_cursor x) less few)

pub texts_end : (limits : Limits) (o : Choices) (n : ℕ) → AllEnd limits o n
texts_end limits o zero s few = absurd (omega (arith, few))
texts_end limits o (suc n) s few = of_both (λ (x : TurnState). turn_has_ended x ≡ true) (turn_has_ended s) s
    (text_turns limits o n (turn_rested (turn_stepped limits o s))) (λ e. e)
    (λ _. end_by limits o n (texts_end limits o n) s few (text_takes limits o s))

-- Lemmas about lines

-- State with some lines before those that are still to be written, where other lines were written, and another number of the last routine
-- that was read.
abbrev pub beside : List ℕ → List ℕ → ℕ → TurnState → TurnState
beside lines told passed s = record s { work = with_lines_before lines s.work; told = told; passed = passed }

abbrev with_passed : ℕ → TurnState → TurnState
with_passed passed s = record s { passed = passed }

rested_beside : (lines told : List ℕ) (passed : ℕ) (s : TurnState)
    → turn_rested (beside lines told passed s) ≡ beside lines told passed (turn_rested s)
rested_beside lines told passed s = by_cases (turn_has_ended s) (turn_resting s) (with_lines lines told s)
    ∙ ap (with_passed passed) (rested_moves.moves lines told s)
  where
    by_cases : (ended rests : Bool) (x : TurnState)
        → (if ended then with_passed passed x else if rests then turn_piece_closed (with_passed passed x) else with_passed passed x)
        ≡ with_passed passed (if ended then x else if rests then turn_piece_closed x else x)
    by_cases true rests x = refl
    by_cases false true x = refl
    by_cases false false x = refl

turn_beside : (limits : Limits) (o : Choices) (lines told : List ℕ) (passed : ℕ) (s : TurnState)
    → turn_rested (turn_stepped limits o (beside lines told passed s)) ≡ beside lines told passed (turn_rested (turn_stepped limits o s))
turn_beside limits o lines told passed s =
    ap (λ (x : TurnState). turn_rested (with_passed passed x)) ((stepped_moves limits o).moves lines told s)
    ∙ rested_beside lines told passed (turn_stepped limits o s)

beside_by : (lines told : List ℕ) (passed : ℕ) (b : Bool) (x y z : TurnState) → y ≡ beside lines told passed z
    → (if b then beside lines told passed x else y) ≡ beside lines told passed (if b then x else z)
beside_by lines told passed true x y z same = refl
beside_by lines told passed false x y z same = same

pub texts_beside : (limits : Limits) (o : Choices) (n : ℕ) (lines told : List ℕ) (passed : ℕ) (s : TurnState)
    → text_turns limits o n (beside lines told passed s) ≡ beside lines told passed (text_turns limits o n s)
texts_beside limits o zero lines told passed s = refl
texts_beside limits o (suc n) lines told passed s = beside_by lines told passed (turn_has_ended s) s
    (text_turns limits o n (turn_rested (turn_stepped limits o (beside lines told passed s))))
    (text_turns limits o n (turn_rested (turn_stepped limits o s)))
    (ap (text_turns limits o n) (turn_beside limits o lines told passed s)
    ∙ texts_beside limits o n lines told passed (turn_rested (turn_stepped limits o s)))
