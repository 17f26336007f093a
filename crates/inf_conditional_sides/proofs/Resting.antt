-- Each token leaves directives seated, and sides settled but for a moment: where all sides stay, by the state in which a directive waits.
use Rattle.std.proofs.Common.{◌≡◌, ℕ, inl, inr, List, [], ◌∷◌, Bool, true, false, not, Option, Some, None, refl, arith, if◌then◌else◌}
use Rattle.inf_scanner.specs.{declared.tokens.Mark.Mark, declared.tokens.Place.Place, declared.tokens.TokenKind.TokenKind}
use Rattle.inf_machine.specs.Machine.{fits}
use Rattle.inf_grammar.specs.Language.{grammar, known}
use Rattle.inf_output.specs.Output.{Out}
use Rattle.inf_sources.specs.declared.open_file.Conditional.{Conditional}
use Rattle.inf_unit.specs.Tokens.{SourceToken, atom_of, is_mark, keyword}
use Rattle.inf_unit.proofs.Cases.{of_both}
use Rattle.inf_conditionals.specs.{Open.Conditions, Said.told_by, Words.word_of, declared.condition.Verdict.Verdict}
use Rattle.inf_conditionals.specs.{declared.filtered.Site.Site, declared.pending.Awaits.Awaits, declared.pending.Effect.Effect}
use Rattle.inf_conditionals.specs.{declared.pending.Pending.Pending, declared.words.ConditionalWord.ConditionalWord}
use Rattle.inf_conditionals.specs.Condition.{Condition, condition_begun, condition_took, is_whole, verdict_of}
use Rattle.inf_conditionals.specs.Judging.{asked, asked_first, asked_on, at_front, awaited, behind_front, begun, effected, held, kept}
use Rattle.inf_conditionals.specs.Judging.{named, none_handed, offered, offered_to, passed, unfit, went_on, asking, decided}
use Rattle.inf_conditional_sides.specs.Rests.{AreSeated, HandsNone, IsInside, IsOutermost, IsSeated, Rests}
use Rattle.inf_conditional_sides.proofs.Acts.{state}

-- Lemmas about a token that is passed, kept or does not fit

none_handed_on : HandsNone none_handed
none_handed_on = (refl, λ t. refl)

unfit_rests : (b : Bool) (c : Conditions) (inner among : List Conditional) (pending : List Pending) (conditions : List Condition)
    → Rests b c.declared (unfit (state c inner among pending conditions))
unfit_rests b c inner among pending conditions = record { seated = tt; quiet = inl (refl, refl); settled = inl refl; levels = tt; declared = refl }

-- where no directive is being read
kept_rests : (b : Bool) (c : Conditions) (inner among : List Conditional) (conditions : List Condition)
    → Rests b c.declared (kept (state c inner among [] conditions))
kept_rests b c inner among conditions = record { seated = tt; quiet = inl (refl, refl); settled = inl refl; levels = tt; declared = refl }

-- a directive is being read, or goes on
awaiting_rests : (b : Bool) (c : Conditions) (inner among : List Conditional) (pending : List Pending) (conditions : List Condition)
    (p : Pending) → IsSeated b p.awaits p.is_inner pending → AreSeated b pending
    → Rests b c.declared (passed (state c inner among (p ∷ pending) conditions))
awaiting_rests b c inner among pending conditions p seat seated = record {
  seated = (seat, seated);
  quiet = inr none_handed_on;
  settled = inl refl;
  levels = tt;
  declared = refl;
}

-- Lemmas about the end of a directive

opened_rests : (b : Bool) (c : Conditions) (is_quiet is_kept is_inner : Bool) (place : Place) (a : Awaits)
    (inner among : List Conditional) (pending : List Pending) (conditions : List Condition) → IsInside b pending is_inner
    → AreSeated b pending
    → Rests b c.declared (effected (Effect.Opens is_kept) is_quiet (record { place = place; is_inner = is_inner; awaits = a })
    (state c inner among pending conditions))
opened_rests b c is_quiet true is_inner place a inner among pending conditions seat seated =
    record { seated = seated; quiet = inr (refl, λ t. refl); settled = inl refl; levels = tt; declared = refl }
opened_rests b c is_quiet false true place a inner among pending conditions seat seated =
    record { seated = seated; quiet = inr (refl, λ t. refl); settled = inl refl; levels = omega arith; declared = refl }
opened_rests b c is_quiet false false place a [] among pending conditions seat seated =
    record { seated = seated; quiet = inr (refl, λ t. refl); settled = inl refl; levels = omega arith; declared = refl }
opened_rests b c is_quiet false false place a (x ∷ inner) among pending conditions seat seated = record {
  seated = seated;
  quiet = inr (refl, λ t. refl);
  settled = inr (seat.0, (seat.1, (refl, λ t. refl)));
  levels = omega arith;
  declared = refl;
}

-- the latest conditional, by the place where it begins and whether it is in its second side
abbrev latest_at : Place → Bool → Conditional
latest_at place is_second = record { place = place; is_second = is_second }

abbrev TurnRests : Bool → Conditions → Bool → Pending → List Conditional → List Conditional → List Pending → List Condition → Type 0
TurnRests b c is_quiet p inner among pending conditions =
    Rests b c.declared (effected Effect.Turns is_quiet p (state c inner among pending conditions))

turned_outer : (is_second : Bool) (at : Place) (b : Bool) (c : Conditions) (is_quiet : Bool) (p : Pending)
    (among : List Conditional) (pending : List Pending) (conditions : List Condition) → AreSeated b pending
    → TurnRests b c is_quiet p [] (latest_at at is_second ∷ among) pending conditions
turned_outer true at b c is_quiet p among pending conditions seated =
    record { seated = seated; quiet = inr (refl, λ t. refl); settled = inl refl; levels = tt; declared = refl }
turned_outer false at b c is_quiet p among pending conditions seated =
    record { seated = seated; quiet = inr (refl, λ t. refl); settled = inl refl; levels = omega arith; declared = refl }

turned_inner : (is_second : Bool) (at : Place) (b : Bool) (c : Conditions) (is_quiet : Bool) (p : Pending)
    (inner among : List Conditional) (pending : List Pending) (conditions : List Condition) → AreSeated b pending
    → TurnRests b c is_quiet p (latest_at at is_second ∷ inner) among pending conditions
turned_inner true at b c is_quiet p inner among pending conditions seated =
    record { seated = seated; quiet = inr (refl, λ t. refl); settled = inl refl; levels = tt; declared = refl }
turned_inner false at b c is_quiet p inner among pending conditions seated =
    record { seated = seated; quiet = inr (refl, λ t. refl); settled = inl refl; levels = omega arith; declared = refl }

turned_rests : (b : Bool) (c : Conditions) (is_quiet : Bool) (p : Pending) (inner among : List Conditional) (pending : List Pending)
    (conditions : List Condition) → AreSeated b pending → TurnRests b c is_quiet p inner among pending conditions
turned_rests b c is_quiet p [] [] pending conditions seated =
    record { seated = seated; quiet = inr (refl, λ t. refl); settled = inl refl; levels = tt; declared = refl }
turned_rests b c is_quiet p [] (x ∷ among) pending conditions seated =
    turned_outer x.is_second x.place b c is_quiet p among pending conditions seated
turned_rests b c is_quiet p (x ∷ inner) among pending conditions seated =
    turned_inner x.is_second x.place b c is_quiet p inner among pending conditions seated

closed_rests : (b : Bool) (c : Conditions) (is_quiet : Bool) (p : Pending) (inner among : List Conditional) (pending : List Pending)
    (conditions : List Condition) → AreSeated b pending
    → Rests b c.declared (effected Effect.Closes is_quiet p (state c inner among pending conditions))
closed_rests b c is_quiet p [] [] pending conditions seated =
    record { seated = seated; quiet = inr (refl, λ t. refl); settled = inl refl; levels = tt; declared = refl }
closed_rests b c is_quiet p [] (x ∷ among) pending conditions seated =
    record { seated = seated; quiet = inr (refl, λ t. refl); settled = inl refl; levels = tt; declared = refl }
closed_rests b c is_quiet p (x ∷ inner) among pending conditions seated =
    record { seated = seated; quiet = inr (refl, λ t. refl); settled = inl refl; levels = tt; declared = refl }

effected_rests : (e : Effect) (b : Bool) (c : Conditions) (is_quiet : Bool) (p : Pending) (inner among : List Conditional)
    (pending : List Pending) (conditions : List Condition) → IsSeated b (Awaits.End e) p.is_inner pending → AreSeated b pending
    → Rests b c.declared (effected e is_quiet p (state c inner among pending conditions))
effected_rests (Effect.Opens is_kept) b c is_quiet p inner among pending conditions seat seated =
    opened_rests b c is_quiet is_kept p.is_inner p.place p.awaits inner among pending conditions seat seated
effected_rests Effect.Turns b c is_quiet p inner among pending conditions seat seated =
    turned_rests b c is_quiet p inner among pending conditions seated
effected_rests Effect.Closes b c is_quiet p inner among pending conditions seat seated =
    closed_rests b c is_quiet p inner among pending conditions seated
effected_rests Effect.Nothing b c is_quiet p inner among pending conditions seat seated =
    record { seated = seated; quiet = inr (refl, λ t. refl); settled = inl refl; levels = tt; declared = refl }

-- Lemmas about the word of a directive

asked_first_rests : (wanted : Bool) (b : Bool) (c : Conditions) (t : SourceToken) (is_inner : Bool) (inner among : List Conditional)
    (pending : List Pending) (conditions : List Condition) → IsInside b pending is_inner → AreSeated b pending
    → Rests b c.declared (asked_first wanted t is_inner (state c inner among pending conditions))
asked_first_rests wanted b c t is_inner inner among pending conditions seat seated =
    of_both (Rests b c.declared) (fits grammar known (atom_of t) condition_begun.stack)
    (passed (asking t.place is_inner wanted (condition_took t condition_begun) (state c inner among pending conditions)))
    (unfit (state c inner among pending conditions))
    (λ _. awaiting_rests b c inner among pending (condition_took t condition_begun ∷ conditions)
    (record { place = t.place; is_inner = is_inner; awaits = Awaits.Condition wanted }) seat seated)
    (λ _. unfit_rests b c inner among pending conditions)

pub begun_rests : (w : ConditionalWord) (b : Bool) (c : Conditions) (t : SourceToken) (place : Place) (is_inner : Bool)
    (inner among : List Conditional) (pending : List Pending) (conditions : List Condition) → IsInside b pending is_inner
    → AreSeated b pending → Rests b c.declared (begun w t place is_inner (state c inner among pending conditions))
begun_rests ConditionalWord.Ifdef b c t place is_inner inner among pending conditions seat seated =
    awaiting_rests b c inner among pending conditions (record { place = place; is_inner = is_inner; awaits = Awaits.Name true }) seat seated
begun_rests ConditionalWord.Ifndef b c t place is_inner inner among pending conditions seat seated =
    awaiting_rests b c inner among pending conditions
    (record { place = place; is_inner = is_inner; awaits = Awaits.Name false }) seat seated
begun_rests ConditionalWord.Iftrue b c t place is_inner inner among pending conditions seat seated =
    asked_first_rests true b c (record t { place = place }) is_inner inner among pending conditions seat seated
begun_rests ConditionalWord.Iffalse b c t place is_inner inner among pending conditions seat seated =
    asked_first_rests false b c (record t { place = place }) is_inner inner among pending conditions seat seated
begun_rests ConditionalWord.Ifnot b c t place is_inner inner among pending conditions seat seated =
    awaiting_rests b c inner among pending conditions
    (record { place = place; is_inner = is_inner; awaits = Awaits.End Effect.Turns }) tt seated
begun_rests ConditionalWord.Endif b c t place is_inner inner among pending conditions seat seated =
    awaiting_rests b c inner among pending conditions
    (record { place = place; is_inner = is_inner; awaits = Awaits.End Effect.Closes }) tt seated

inside_of : (b is_inner : Bool) (pending : List Pending) → IsOutermost b pending → IsInside b pending is_inner
inside_of b true pending seat = tt
inside_of b false pending seat = seat

behind_front_rests : (w : Option ConditionalWord) (b : Bool) (c : Conditions) (t : SourceToken) (p : Pending)
    (inner among : List Conditional) (pending : List Pending) (conditions : List Condition) → IsOutermost b pending → AreSeated b pending
    → Rests b c.declared (behind_front w t p (state c inner among pending conditions))
behind_front_rests None b c t p inner among pending conditions seat seated =
    record { seated = seated; quiet = inl (seat.1, refl); settled = inl refl; levels = tt; declared = refl }
behind_front_rests (Some w) b c t p inner among pending conditions seat seated =
    begun_rests w b c t p.place p.is_inner inner among pending conditions (inside_of b p.is_inner pending seat) seated

-- Lemmas about a token of a directive

named_rests : (k : TokenKind) (bytes : List ℕ) (if_declared : Bool) (o : Out) (b : Bool) (c : Conditions) (p : Pending)
    (inner among : List Conditional) (pending : List Pending) (conditions : List Condition) → IsInside b pending p.is_inner
    → AreSeated b pending → Rests b c.declared (named k bytes if_declared o p (state c inner among pending conditions))
named_rests TokenKind.Name bytes if_declared o b c p inner among pending conditions seat seated =
    record { seated = (seat, seated); quiet = inr none_handed_on; settled = inl refl; levels = tt; declared = refl }
named_rests k bytes if_declared o b c p inner among pending conditions seat seated = unfit_rests b c inner among pending conditions

asked_on_rests : (wanted : Bool) (site : Site) (t : SourceToken) (k : Condition) (c : Conditions) (p : Pending)
    (inner among : List Conditional) (pending : List Pending) (conditions : List Condition) → IsInside site.is_between pending p.is_inner
    → AreSeated site.is_between pending
    → Rests site.is_between c.declared (asked_on wanted site t k p (state c inner among pending conditions))
asked_on_rests wanted site t k c p inner among pending conditions seat seated =
    record { seated = (seat, seated); quiet = inr (refl, λ x. refl); settled = inl refl; levels = tt; declared = refl }

went_on_rests : (wanted : Bool) (site : Site) (o : Out) (t : SourceToken) (k : Condition) (c : Conditions) (p : Pending)
    (inner among : List Conditional) (pending : List Pending) (conditions : List Condition) → IsInside site.is_between pending p.is_inner
    → AreSeated site.is_between pending
    → Rests site.is_between c.declared (went_on wanted site o t k p (state c inner among pending conditions))
went_on_rests wanted site o t k c p inner among pending conditions seat seated =
    let before : Conditions = state c inner among pending conditions in
    let v : Verdict = verdict_of c.declared o k in
    of_both (Rests site.is_between c.declared) (is_whole k) (decided v wanted site.is_quiet k p before) (asked_on wanted site t k p before)
    (λ _. effected_rests (Effect.Opens (if wanted then v.is_true else not v.is_true)) site.is_between
    (record c { said = if site.is_quiet then None else told_by p.place k v.finding }) site.is_quiet p inner among pending conditions seat seated)
    (λ _. asked_on_rests wanted site t k c p inner among pending conditions seat seated)

asked_rests : (conditions : List Condition) (wanted : Bool) (site : Site) (o : Out) (t : SourceToken) (c : Conditions) (p : Pending)
    (inner among : List Conditional) (pending : List Pending) (others : List Condition) → IsInside site.is_between pending p.is_inner
    → AreSeated site.is_between pending
    → Rests site.is_between c.declared (asked conditions wanted site o t p (state c inner among pending others))
asked_rests [] wanted site o t c p inner among pending others seat seated = unfit_rests site.is_between c inner among pending others
asked_rests (k ∷ conditions) wanted site o t c p inner among pending others seat seated =
    let before : Conditions = state c inner among pending conditions in
    of_both (Rests site.is_between c.declared) (fits grammar known (atom_of t) k.stack) (went_on wanted site o t (condition_took t k) p before)
    (unfit before)
    (λ _. went_on_rests wanted site o t (condition_took t k) c p inner among pending conditions seat seated)
    (λ _. unfit_rests site.is_between c inner among pending conditions)

ends_rest : (e : Effect) (site : Site) (t : SourceToken) (c : Conditions) (p : Pending) (inner among : List Conditional)
    (pending : List Pending) (conditions : List Condition) → IsSeated site.is_between (Awaits.End e) p.is_inner pending
    → AreSeated site.is_between pending
    → Rests site.is_between c.declared (if is_mark Mark.Semicolon t.kind then effected e site.is_quiet p
    (state c inner among pending conditions)
    else unfit (state c inner among pending conditions))
ends_rest e site t c p inner among pending conditions seat seated =
    let before : Conditions = state c inner among pending conditions in
    of_both (Rests site.is_between c.declared) (is_mark Mark.Semicolon t.kind) (effected e site.is_quiet p before) (unfit before)
    (λ _. effected_rests e site.is_between c site.is_quiet p inner among pending conditions seat seated)
    (λ _. unfit_rests site.is_between c inner among pending conditions)

awaited_rests : (a : Awaits) (site : Site) (o : Out) (t : SourceToken) (c : Conditions) (p : Pending) (inner among : List Conditional)
    (pending : List Pending) (conditions : List Condition) → IsSeated site.is_between a p.is_inner pending → AreSeated site.is_between pending
    → Rests site.is_between c.declared (awaited a site o t p (state c inner among pending conditions))
awaited_rests Awaits.Word site o t c p inner among pending conditions seat seated =
    behind_front_rests (word_of (keyword t)) site.is_between c t p inner among pending conditions seat seated
awaited_rests (Awaits.Name if_declared) site o t c p inner among pending conditions seat seated =
    named_rests t.kind t.bytes if_declared o site.is_between c p inner among pending conditions seat seated
awaited_rests (Awaits.Condition wanted) site o t c p inner among pending conditions seat seated =
    asked_rests conditions wanted site o t c p inner among pending conditions seat seated
awaited_rests (Awaits.End e) site o t c p inner among pending conditions seat seated =
    ends_rest e site t c p inner among pending conditions seat seated

-- Lemmas about any token, where all sides stay

at_front_rests : (w : Option ConditionalWord) (b : Bool) (c : Conditions) (t : SourceToken) (inner among : List Conditional)
    (conditions : List Condition) → b ≡ true → Rests b c.declared (at_front w t (state c inner among [] conditions))
at_front_rests None b c t inner among conditions front = kept_rests b c inner among conditions
at_front_rests (Some w) b c t inner among conditions front = begun_rests w b c t t.place false inner among [] conditions (front, refl) tt

held_rests : (is_front : Bool) (b : Bool) (c : Conditions) (place : Place) (inner among : List Conditional) (pending : List Pending)
    (conditions : List Condition) → (is_front ≡ true → IsOutermost b pending) → AreSeated b pending
    → Rests b c.declared (passed (held is_front place (state c inner among pending conditions)))
held_rests true b c place inner among pending conditions front seated =
    record { seated = (front refl, seated); quiet = inr none_handed_on; settled = inl refl; levels = tt; declared = refl }
held_rests false b c place inner among pending conditions front seated =
    record { seated = seated; quiet = inr none_handed_on; settled = inl refl; levels = tt; declared = refl }

offered_to_rests : (pending : List Pending) (is_front : Bool) (site : Site) (o : Out) (t : SourceToken) (c : Conditions)
    (inner among : List Conditional) (conditions : List Condition) → (is_front ≡ true → IsOutermost site.is_between pending)
    → AreSeated site.is_between pending
    → Rests site.is_between c.declared (offered_to pending is_front site o t (state c inner among pending conditions))
offered_to_rests [] is_front site o t c inner among conditions front seated =
    of_both (Rests site.is_between c.declared) is_front (at_front (word_of (keyword t)) t (state c inner among [] conditions))
    (kept (state c inner among [] conditions))
    (λ is. at_front_rests (word_of (keyword t)) site.is_between c t inner among conditions (front is).0)
    (λ _. kept_rests site.is_between c inner among conditions)
offered_to_rests (p ∷ pending) is_front site o t c inner among conditions front seated =
    awaited_rests p.awaits site o t c p inner among pending conditions seated.0 seated.1

pub offered_rests : (is_front : Bool) (site : Site) (o : Out) (t : SourceToken) (c : Conditions) (inner among : List Conditional)
    (pending : List Pending) (conditions : List Condition) → (is_front ≡ true → IsOutermost site.is_between pending)
    → AreSeated site.is_between pending
    → Rests site.is_between c.declared (offered is_front site o t (state c inner among pending conditions))
offered_rests is_front site o t c inner among pending conditions front seated =
    let before : Conditions = state c inner among pending conditions in
    of_both (Rests site.is_between c.declared) (is_mark Mark.Hash t.kind) (passed (held is_front t.place before))
    (offered_to pending is_front site o t before)
    (λ _. held_rests is_front site.is_between c t.place inner among pending conditions front seated)
    (λ _. offered_to_rests pending is_front site o t c inner among conditions front seated)
