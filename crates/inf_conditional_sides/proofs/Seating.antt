-- Each token leaves directives seated, and sides settled but for a moment: behind a `#`, in a side that is left out, and for any token.
use Rattle.std.proofs.Common.{◌≡◌, ◌≤◌, ℕ, ◌+◌, ◌⊎◌, inl, inr, min, List, [], ◌∷◌, Bool, true, false, not, ◌&&◌, ◌==◌, Option, Some, None}
use Rattle.std.proofs.Common.{refl, ◌∙◌, arith, unwrap_or}
use Rattle.std.proofs.Math.Nat.{min-le_right}
use Rattle.inf_scanner.specs.{declared.tokens.Mark.Mark, declared.tokens.Place.Place}
use Rattle.inf_machine.specs.Machine.{fits}
use Rattle.inf_grammar.specs.Language.{grammar, known}
use Rattle.inf_output.specs.Output.{Out}
use Rattle.inf_sources.specs.declared.open_file.Conditional.{Conditional}
use Rattle.inf_unit.specs.Tokens.{SourceToken, atom_of, is_end, is_mark, keyword}
use Rattle.inf_unit.proofs.Cases.{of_both}
use Rattle.inf_conditionals.specs.{Condition.Condition, Condition.condition_took, Words.word_of, declared.filtered.Filtered.Filtered}
use Rattle.inf_conditionals.specs.{declared.filtered.Forwarded.Forwarded, declared.filtered.Site.Site, declared.open.LeftOut.LeftOut}
use Rattle.inf_conditionals.specs.{declared.pending.Awaits.Awaits, declared.pending.Effect.Effect, declared.pending.Pending.Pending}
use Rattle.inf_conditionals.specs.{declared.words.ConditionalWord.ConditionalWord}
use Rattle.inf_conditionals.specs.Judging.{Behind, awaiting, behind_sign, hash, in_side, is_none_pending, judged, kept, offered, passed}
use Rattle.inf_conditionals.specs.Judging.{held, passed_by, sign_asked, sign_awaited, sign_handed, unfit, word_passed, asked_on}
use Rattle.inf_conditionals.specs.Open.{Conditions, ended_by, ends_at, is_second, latest, levels_behind, most_levels}
use Rattle.inf_conditional_sides.specs.Judged.{FewIn, is_settled, is_settled_by}
use Rattle.inf_conditional_sides.specs.Rests.{AreSeated, HandsNone, IsOutermost, IsSeated, Rests, TokensRest}
use Rattle.inf_conditional_sides.proofs.{Acts.state, Resting.begun_rests, Resting.offered_rests}

-- Lemmas about a token behind a `#`

abbrev signed : Behind → Place → Option Forwarded → Behind
signed b place h = record b { judged = record b.judged { sign = sign_handed place h } }

-- The `#` is one that a condition takes.
hands_none : (j : Filtered) (place : Place) → HandsNone j → HandsNone (record j { sign = sign_handed place (Some Forwarded.Condition) })
hands_none j place none = (refl, none.1)

condition_signed : (between : Bool) (declared : ℕ) (b : Behind) (place : Place) → Rests between declared b
    → Rests between declared (signed b place (Some Forwarded.Condition))
condition_signed between declared b place r = record {
  seated = r.seated;
  quiet = by_quiet r.quiet;
  settled = by_settled r.settled;
  levels = r.levels;
  declared = r.declared;
}
  where
    by_quiet : ((b.now.pending ≡ []) × (b.now.left_out ≡ None)) ⊎ HandsNone b.judged
        → ((b.now.pending ≡ []) × (b.now.left_out ≡ None)) ⊎ HandsNone
        (record b.judged { sign = sign_handed place (Some Forwarded.Condition) })
    by_quiet (inl e) = inl e
    by_quiet (inr none) = inr (hands_none b.judged place none)

    by_settled : (is_settled b.now ≡ true) ⊎ ((between ≡ true) × ((b.now.pending ≡ []) × HandsNone b.judged)) → (is_settled b.now ≡ true)
        ⊎ ((between ≡ true) × ((b.now.pending ≡ []) × HandsNone (record b.judged { sign = sign_handed place (Some Forwarded.Condition) })))
    by_settled (inl e) = inl e
    by_settled (inr u) = inr (u.0, (u.1.0, hands_none b.judged place u.1.1))

-- No directive is being read behind the `#`, whether it is kept or does not fit.
none_signed : (site : Site) (o : Out) (t : SourceToken) (c : Conditions) (place : Place) (h : Option Forwarded)
    (inner among : List Conditional) (conditions : List Condition)
    → Rests site.is_between c.declared (signed (offered false site o t (state c inner among [] conditions)) place h)
none_signed site o t c place h inner among conditions =
    let before : Conditions = state c inner among [] conditions in
    of_both (λ (b : Behind). Rests site.is_between c.declared (signed b place h)) (is_mark Mark.Hash t.kind)
    (passed (held false t.place before))
    (kept before)
    (λ _. record { seated = tt; quiet = inl (refl, refl); settled = inl refl; levels = tt; declared = refl })
    (λ _. record { seated = tt; quiet = inl (refl, refl); settled = inl refl; levels = tt; declared = refl })

never_front : (between : Bool) (pending : List Pending) → false ≡ true → IsOutermost between pending
never_front between pending e = cc

-- The condition of the innermost directive takes the `#`, or does not.
sign_asked_rests : (conditions : List Condition) (wanted : Bool) (site : Site) (o : Out) (t : SourceToken) (c : Conditions)
    (place : Place) (p : Pending) (inner among : List Conditional) (pending : List Pending) (others : List Condition)
    → IsSeated site.is_between (Awaits.Condition wanted) p.is_inner pending → AreSeated site.is_between pending
    → let s = sign_asked conditions wanted place site p (state c inner among pending others) in
    Rests site.is_between c.declared (signed (offered false site o t s.now) place s.judged.token)
sign_asked_rests [] wanted site o t c place p inner among pending others seat seated =
    none_signed site o t c place (Some Forwarded.Unfit) inner among []
sign_asked_rests (k ∷ conditions) wanted site o t c place p inner among pending others seat seated =
    let rest : Conditions = state c inner among pending conditions in
    let q : Pending = record { place = p.place; is_inner = p.is_inner; awaits = Awaits.Condition wanted } in
    let x : Condition = condition_took (hash place) k in
    let on : Behind = asked_on wanted site (hash place) x p rest in
    of_both (λ (s : Behind). Rests site.is_between c.declared (signed (offered false site o t s.now) place s.judged.token))
    (fits grammar known (atom_of (hash place)) k.stack) on (unfit rest)
    (λ _. condition_signed site.is_between c.declared (offered false site o t on.now) place
    (offered_rests false site o t on.now inner among (q ∷ pending) (x ∷ conditions) (never_front site.is_between (q ∷ pending)) (seat, seated)))
    (λ _. none_signed site o t c place (Some Forwarded.Unfit) inner among [])

sign_awaited_rests : (a : Awaits) (site : Site) (o : Out) (t : SourceToken) (c : Conditions)
    (place : Place) (p : Pending) (inner among : List Conditional) (pending : List Pending) (conditions : List Condition)
    → IsSeated site.is_between a p.is_inner pending → AreSeated site.is_between pending
    → let s = sign_awaited a place site p (state c inner among pending conditions) in
    Rests site.is_between c.declared (signed (offered false site o t s.now) place s.judged.token)
sign_awaited_rests (Awaits.Condition wanted) site o t c place p inner among pending conditions seat seated =
    sign_asked_rests conditions wanted site o t c place p inner among pending conditions seat seated
sign_awaited_rests a site o t c place p inner among pending conditions seat seated =
    none_signed site o t c place (Some Forwarded.Unfit) inner among []

behind_sign_rests : (w : Option ConditionalWord) (site : Site) (o : Out) (t : SourceToken) (c : Conditions) (place : Place)
    (inner among : List Conditional) (pending : List Pending) (conditions : List Condition) (sign : Option Place)
    → AreSeated site.is_between pending
    → Rests site.is_between c.declared (behind_sign w place site o t (record (state c inner among pending conditions) { sign = sign }))
behind_sign_rests (Some w) site o t c place inner among pending conditions sign seated =
    begun_rests w site.is_between c t place true inner among pending conditions tt seated
behind_sign_rests None site o t c place inner among [] conditions sign seated =
    none_signed site o t c place (Some Forwarded.Kept) inner among []
behind_sign_rests None site o t c place inner among (p ∷ pending) conditions sign seated =
    sign_awaited_rests p.awaits site o t c place p inner among pending conditions seated.0 seated.1

-- Lemmas about a side that is left out

abbrev leaving : Conditions → LeftOut → Option Place → List Conditional → List Conditional → List Pending → List Condition → Conditions
leaving c side sign inner among pending conditions =
    record (state c inner among pending conditions) { left_out = Some side; sign = sign }

levels_few : (w : ConditionalWord) (levels : ℕ) → levels ≤ most_levels → levels_behind w levels ≤ most_levels
levels_few ConditionalWord.Ifdef levels few = min-le_right (levels + 1) most_levels
levels_few ConditionalWord.Ifndef levels few = min-le_right (levels + 1) most_levels
levels_few ConditionalWord.Iftrue levels few = min-le_right (levels + 1) most_levels
levels_few ConditionalWord.Iffalse levels few = min-le_right (levels + 1) most_levels
levels_few ConditionalWord.Ifnot levels few = few
levels_few ConditionalWord.Endif levels few = omega (arith, few)

same_settled : (inner : List Conditional) (side : LeftOut) (levels : ℕ)
    → is_settled_by (Some (record side { levels = levels })) inner ≡ is_settled_by (Some side) inner
same_settled [] side levels = refl
same_settled (x ∷ inner) side levels = refl

-- the word that ends the side has acted, and its directive is read to its end
acted_rests : (w : ConditionalWord) (between : Bool) (c : Conditions) (side : LeftOut) (sign : Option Place) (place : Place)
    (inner among : List Conditional) (pending : List Pending) (conditions : List Condition) → AreSeated between pending
    → Rests between c.declared (passed (awaiting place false (Awaits.End Effect.Nothing)
    (record (ended_by w (leaving c side sign inner among pending conditions)) { left_out = None; sign = None })))
acted_rests ConditionalWord.Endif between c side sign place [] among pending conditions seated =
    record { seated = (tt, seated); quiet = inr (refl, λ t. refl); settled = inl refl; levels = tt; declared = refl }
acted_rests ConditionalWord.Endif between c side sign place (x ∷ inner) among pending conditions seated =
    record { seated = (tt, seated); quiet = inr (refl, λ t. refl); settled = inl refl; levels = tt; declared = refl }
acted_rests w between c side sign place [] among pending conditions seated =
    record { seated = (tt, seated); quiet = inr (refl, λ t. refl); settled = inl refl; levels = tt; declared = refl }
acted_rests w between c side sign place (x ∷ inner) among pending conditions seated =
    record { seated = (tt, seated); quiet = inr (refl, λ t. refl); settled = inl refl; levels = tt; declared = refl }

word_rests : (w : ConditionalWord) (between : Bool) (c : Conditions) (t : SourceToken) (side : LeftOut) (sign : Option Place)
    (inner among : List Conditional) (pending : List Pending) (conditions : List Condition) → AreSeated between pending
    → is_settled_by (Some side) inner ≡ true → side.levels ≤ most_levels
    → Rests between c.declared (passed (word_passed w t.place side (leaving c side sign inner among pending conditions)))
word_rests w between c t side sign inner among pending conditions seated settled few =
    let before : Conditions = leaving c side sign inner among pending conditions in
    let place : Place = unwrap_or sign t.place in
    of_both (λ (x : Conditions). Rests between c.declared (passed x)) ((side.levels == 0) && ends_at w (is_second (latest before)))
    (awaiting place false (Awaits.End Effect.Nothing) (record (ended_by w before) { left_out = None; sign = None }))
    (record before { left_out = Some (record side { levels = levels_behind w side.levels }); sign = None })
    (λ _. acted_rests w between c side sign place inner among pending conditions seated)
    (λ _. record {
      seated = seated;
      quiet = inr (refl, λ x. refl);
      settled = inl (same_settled inner side (levels_behind w side.levels) ∙ settled);
      levels = levels_few w side.levels few;
      declared = refl;
    })

passes_rest : (w : Option ConditionalWord) (between : Bool) (c : Conditions) (t : SourceToken) (side : LeftOut) (sign : Option Place)
    (inner among : List Conditional) (pending : List Pending) (conditions : List Condition) → AreSeated between pending
    → is_settled_by (Some side) inner ≡ true → side.levels ≤ most_levels
    → Rests between c.declared (passed (passed_by w t side (leaving c side sign inner among pending conditions)))
passes_rest None between c t side sign inner among pending conditions seated settled few = record {
  seated = seated;
  quiet = inr (refl, λ x. refl);
  settled = inl settled;
  levels = few;
  declared = refl;
}
passes_rest (Some w) between c t side sign inner among pending conditions seated settled few =
    word_rests w between c t side sign inner among pending conditions seated settled few

in_side_rests : (site : Site) (o : Out) (t : SourceToken) (c : Conditions) (side : LeftOut) (sign : Option Place)
    (inner among : List Conditional) (pending : List Pending) (conditions : List Condition) → AreSeated site.is_between pending
    → is_settled_by (Some side) inner ≡ true → side.levels ≤ most_levels
    → Rests site.is_between c.declared (in_side site o t side (leaving c side sign inner among pending conditions))
in_side_rests site o t c side sign inner among pending conditions seated settled few =
    let before : Conditions = leaving c side sign inner among pending conditions in
    of_both (Rests site.is_between c.declared) (is_end t.kind) (offered false site o t (record before { left_out = None; sign = None }))
    (passed (passed_by (word_of (keyword t)) t side before))
    (λ _. offered_rests false site o t c inner among pending conditions (never_front site.is_between pending) seated)
    (λ _. passes_rest (word_of (keyword t)) site.is_between c t side sign inner among pending conditions seated settled few)

-- Lemmas about any token

front_of : (between : Bool) (pending : List Pending) → (between && is_none_pending pending) ≡ true → IsOutermost between pending
front_of true [] e = (refl, refl)
front_of true (p ∷ pending) e = cc
front_of false pending e = cc

by_state : (left : Option LeftOut) (sign : Option Place) (site : Site) (o : Out) (t : SourceToken) (c : Conditions)
    (inner among : List Conditional) (pending : List Pending) (conditions : List Condition) → AreSeated site.is_between pending
    → is_settled_by left inner ≡ true → FewIn left
    → Rests site.is_between c.declared
    (judged site o t (record (state c inner among pending conditions) { left_out = left; sign = sign }))
by_state (Some side) sign site o t c inner among pending conditions seated settled few =
    in_side_rests site o t c side sign inner among pending conditions seated settled few
by_state None (Some place) site o t c inner among pending conditions seated settled few =
    behind_sign_rests (word_of (keyword t)) site o t c place inner among pending conditions (Some place) seated
by_state None None site o t c inner among pending conditions seated settled few =
    offered_rests (site.is_between && is_none_pending pending) site o t c inner among pending conditions
    (front_of site.is_between pending) seated

pub tokens_rest : TokensRest
tokens_rest site o t c seated settled few = by_state c.left_out c.sign site o t c c.inner c.among c.pending c.conditions seated settled few
