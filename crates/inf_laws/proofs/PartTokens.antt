-- Behind a token that conditionals hand on no conditional directive is being read, and no side is left out.
use Rattle.std.proofs.Common.{◌≡◌, ℕ, List, [], ◌∷◌, ◌&&◌, ◌||◌, ◌⊎◌, inl, inr, cond, not, Bool, true, false, Option, Some, None, refl, sym}
use Rattle.std.proofs.Common.{subst}
use Rattle.inf_scanner.specs.{declared.tokens.Mark.Mark, declared.tokens.Place.Place, declared.tokens.TokenKind.TokenKind}
use Rattle.inf_machine.specs.Machine.{fits}
use Rattle.inf_grammar.specs.Language.{grammar, known}
use Rattle.inf_output.specs.Output.{Out}
use Rattle.inf_unit.specs.Tokens.{SourceToken, atom_of, is_end, is_mark, keyword}
use Rattle.inf_unit.proofs.Cases.{of_both}
use Rattle.inf_conditionals.specs.{Said.told_by, Said.too_much, Words.word_of}
use Rattle.inf_conditionals.specs.declared.{condition.Verdict.Verdict, filtered.Filtered.Filtered, filtered.Forwarded.Forwarded}
use Rattle.inf_conditionals.specs.declared.{filtered.Sign.Sign, filtered.Site.Site, open.LeftOut.LeftOut, pending.Awaits.Awaits}
use Rattle.inf_conditionals.specs.declared.{pending.Effect.Effect, pending.Pending.Pending, words.ConditionalWord.ConditionalWord}
use Rattle.inf_conditionals.specs.Condition.{Condition, condition_begun, condition_took, is_whole, verdict_of}
use Rattle.inf_conditionals.specs.Open.{Conditions, closed, closed_by, ended_by, is_none_open, is_second, latest, turned, turned_by}
use Rattle.inf_conditionals.specs.Judging.{Behind, asked, asked_on, asking, at_front, awaited, awaiting, begun, behind_front, behind_sign}
use Rattle.inf_conditionals.specs.Judging.{decided, effected, effected_by, given_up, hash, held, in_side, is_none_pending, judged}
use Rattle.inf_conditionals.specs.Judging.{judged_by, kept, unmatched, named, offered, offered_to, passed, passed_by, saying, sign_asked}
use Rattle.inf_conditionals.specs.Judging.{sign_awaited, sign_handed, sign_offered, taken, tokens_counted, unfit, went_on}
use Rattle.inf_sources.specs.declared.open_file.Conditional.{Conditional}

-- whether a token is handed on
abbrev pub gives : Option Forwarded → Bool
gives None = false
gives (Some Forwarded.Kept) = true
gives (Some Forwarded.Unfit) = true
gives (Some Forwarded.Condition) = false

abbrev pub gives_sign : Option Sign → Bool
gives_sign None = false
gives_sign (Some sign) = gives (Some sign.handed)

abbrev pub gives_some : Filtered → Bool
gives_some j = gives_sign j.sign || gives j.token

-- a `#` at the front of a directive waits behind all others
abbrev pub IsLast : Awaits → List Pending → Type 0
IsLast Awaits.Word pending = pending ≡ []
IsLast _ pending = Unit {0}

abbrev pub AreProper : List Pending → Type 0
AreProper [] = Unit {0}
AreProper (p ∷ pending) = IsLast p.awaits pending × AreProper pending

pub record Fine (b : Behind) : Type 0 where
  pub proper : AreProper b.now.pending
  pub clear : (gives_some b.judged ≡ false) ⊎ ((b.now.pending ≡ []) × (b.now.left_out ≡ None))

abbrev AllKept : Conditions → Type 0
AllKept c = c.left_out ≡ None

none_proper : (pending : List Pending) → pending ≡ [] → AreProper pending
none_proper pending e = subst (λ ps. AreProper ps) (sym e) tt

passed_fine : (c : Conditions) → AreProper c.pending → Fine (passed c)
passed_fine c p = record { proper = p; clear = inl refl }

kept_fine : (c : Conditions) → c.pending ≡ [] → AllKept c → Fine (kept c)
kept_fine c e all = record { proper = none_proper c.pending e; clear = inr (e, all) }

unfit_fine : (c : Conditions) → AllKept c → Fine (unfit c)
unfit_fine c all = record { proper = tt; clear = inr (refl, all) }

-- Lemmas about ends of directives

turned_pending : (inner : List Conditional) (c : Conditions) → (turned_by inner c).pending ≡ c.pending
turned_pending [] c = refl
turned_pending (x ∷ inner) c = refl

closed_pending : (inner : List Conditional) (c : Conditions) → (closed_by inner c).pending ≡ c.pending
closed_pending [] c = refl
closed_pending (x ∷ inner) c = refl

ended_pending : (w : ConditionalWord) (c : Conditions) → (ended_by w c).pending ≡ c.pending
ended_pending ConditionalWord.Endif c = closed_pending c.inner c
ended_pending other c = turned_pending c.inner c

abbrev ended_at : Option Place → Behind → Behind
ended_at place b = record b { judged = record b.judged { ended = place } }

effect_fine : (e : Effect) (is_quiet : Bool) (p : Pending) (place : Option Place) (c : Conditions) → AreProper c.pending →
    Fine (ended_at place (effected_by e is_quiet p c))
effect_fine (Effect.Opens is_kept) is_quiet p place c proper = record { proper = proper; clear = inl refl }
effect_fine Effect.Nothing is_quiet p place c proper = record { proper = proper; clear = inl refl }
effect_fine Effect.Turns is_quiet p place c proper =
    of_both (λ (b : Behind). Fine (ended_at place b)) (is_second (latest c)) (unmatched is_quiet p.place c)
    (passed (record (turned c) { left_out = Some (record { is_inner = not (is_none_open c.inner); levels = 0 }) }))
    (λ _. record { proper = proper; clear = inl refl })
    (λ _. record { proper = subst (λ ps. AreProper ps) (sym (turned_pending c.inner c)) proper; clear = inl refl })
effect_fine Effect.Closes is_quiet p place c proper =
    of_both (λ (b : Behind). Fine (ended_at place b)) (is_none_open (latest c)) (unmatched is_quiet p.place c) (passed (closed c))
    (λ _. record { proper = proper; clear = inl refl })
    (λ _. record { proper = subst (λ ps. AreProper ps) (sym (closed_pending c.inner c)) proper; clear = inl refl })

effected_fine : (e : Effect) (is_quiet : Bool) (p : Pending) (c : Conditions) → AreProper c.pending → Fine (effected e is_quiet p c)
effected_fine e is_quiet p c proper = effect_fine e is_quiet p (cond is_quiet None (Some p.place)) c proper

-- Lemmas about words

begun_fine : (w : ConditionalWord) (t : SourceToken) (place : Place) (is_inner : Bool) (c : Conditions) → AreProper c.pending → AllKept c →
    Fine (begun w t place is_inner c)
begun_fine ConditionalWord.Iftrue t place is_inner c proper all =
    of_both Fine (fits grammar known (atom_of (record t { place = place })) condition_begun.stack)
    (passed (asking place is_inner true (condition_took (record t { place = place }) condition_begun) c)) (unfit c)
    (λ _. record { proper = (tt, proper); clear = inl refl }) (λ _. unfit_fine c all)
begun_fine ConditionalWord.Iffalse t place is_inner c proper all =
    of_both Fine (fits grammar known (atom_of (record t { place = place })) condition_begun.stack)
    (passed (asking place is_inner false (condition_took (record t { place = place }) condition_begun) c)) (unfit c)
    (λ _. record { proper = (tt, proper); clear = inl refl }) (λ _. unfit_fine c all)
begun_fine other t place is_inner c proper all = record { proper = (tt, proper); clear = inl refl }

front_fine : (w : Option ConditionalWord) (t : SourceToken) (p : Pending) (c : Conditions) → c.pending ≡ [] → AllKept c →
    Fine (behind_front w t p c)
front_fine None t p c e all = record { proper = none_proper c.pending e; clear = inr (e, all) }
front_fine (Some w) t p c e all = begun_fine w t p.place p.is_inner c (none_proper c.pending e) all

-- Lemmas about directives that wait for a token

named_fine : (k : TokenKind) (bytes : List ℕ) (if_declared : Bool) (o : Out) (p : Pending) (c : Conditions) → AreProper c.pending →
    AllKept c → Fine (named k bytes if_declared o p c)
named_fine TokenKind.Name bytes if_declared o p c proper all = record { proper = (tt, proper); clear = inl refl }
named_fine other bytes if_declared o p c proper all = unfit_fine c all

went_fine : (wanted : Bool) (site : Site) (o : Out) (t : SourceToken) (k : Condition) (p : Pending) (c : Conditions) → AreProper c.pending →
    Fine (went_on wanted site o t k p c)
went_fine wanted site o t k p c proper = of_both Fine (is_whole k) (decided (verdict_of c.declared o k) wanted site.is_quiet k p c)
    (taken (asking p.place p.is_inner wanted k (saying site.is_quiet (too_much site.longest t k) (tokens_counted site.is_quiet k c))))
    (λ _. let v : Verdict = verdict_of c.declared o k in
    effected_fine (Effect.Opens (cond wanted v.is_true (not v.is_true))) site.is_quiet p
    (saying site.is_quiet (told_by p.place k v.finding) c)
    proper)
    (λ _. record { proper = (tt, proper); clear = inl refl })

asked_fine : (conditions : List Condition) (wanted : Bool) (site : Site) (o : Out) (t : SourceToken) (p : Pending) (c : Conditions) →
    AreProper c.pending → AllKept c → Fine (asked conditions wanted site o t p c)
asked_fine [] wanted site o t p c proper all = unfit_fine c all
asked_fine (k ∷ conditions) wanted site o t p c proper all =
    let here = record c { conditions = conditions } in
    of_both Fine (fits grammar known (atom_of t) k.stack) (went_on wanted site o t (condition_took t k) p here) (unfit here)
    (λ _. went_fine wanted site o t (condition_took t k) p here proper) (λ _. unfit_fine here all)

awaited_fine : (a : Awaits) (site : Site) (o : Out) (t : SourceToken) (p : Pending) (c : Conditions) → IsLast a c.pending →
    AreProper c.pending → AllKept c → Fine (awaited a site o t p c)
awaited_fine Awaits.Word site o t p c last proper all = front_fine (word_of (keyword t)) t p c last all
awaited_fine (Awaits.Name if_declared) site o t p c last proper all = named_fine t.kind t.bytes if_declared o p c proper all
awaited_fine (Awaits.Condition wanted) site o t p c last proper all = asked_fine c.conditions wanted site o t p c proper all
awaited_fine (Awaits.End e) site o t p c last proper all =
    of_both Fine (is_mark Mark.Semicolon t.kind) (effected e site.is_quiet p c) (unfit c) (λ _. effected_fine e site.is_quiet p c proper)
    (λ _. unfit_fine c all)

-- Lemmas about a token of a kept side

held_proper : (is_front : Bool) (place : Place) (c : Conditions) → (is_front ≡ true → c.pending ≡ []) → AreProper c.pending →
    AreProper (held is_front place c).pending
held_proper true place c front proper = (front refl, proper)
held_proper false place c front proper = proper

word_fine : (w : Option ConditionalWord) (t : SourceToken) (c : Conditions) → c.pending ≡ [] → AllKept c → Fine (at_front w t c)
word_fine None t c e all = kept_fine c e all
word_fine (Some w) t c e all = begun_fine w t t.place false c (none_proper c.pending e) all

to_fine : (pending : List Pending) (is_front : Bool) (site : Site) (o : Out) (t : SourceToken) (c : Conditions) → c.pending ≡ pending →
    AreProper pending → AllKept c → Fine (offered_to pending is_front site o t c)
to_fine [] is_front site o t c e proper all =
    of_both Fine is_front (at_front (word_of (keyword t)) t c) (kept c) (λ _. word_fine (word_of (keyword t)) t c e all)
    (λ _. kept_fine c e all)
to_fine (p ∷ pending) is_front site o t c e proper all =
    awaited_fine p.awaits site o t p (record c { pending = pending }) proper.0 proper.1 all

offered_fine : (is_front : Bool) (site : Site) (o : Out) (t : SourceToken) (c : Conditions) → (is_front ≡ true → c.pending ≡ []) →
    AreProper c.pending → AllKept c → Fine (offered is_front site o t c)
offered_fine is_front site o t c front proper all =
    of_both Fine (is_mark Mark.Hash t.kind) (passed (held is_front t.place c)) (offered_to c.pending is_front site o t c)
    (λ _. passed_fine (held is_front t.place c) (held_proper is_front t.place c front proper))
    (λ _. to_fine c.pending is_front site o t c refl proper all)

-- with a `#` before the token, which was held back, and with the judgement of that `#`
abbrev signed : Place → Option Forwarded → Behind → Behind
signed place h b = record b { judged = record b.judged { sign = sign_handed place h } }

abbrev SignFine : Place → Site → Out → SourceToken → Behind → Type 0
SignFine place site o t s = Fine (signed place s.judged.token (offered false site o t s.now))

signed_fine : (place : Place) (h : Forwarded) (site : Site) (o : Out) (t : SourceToken) (c : Conditions) → c.pending ≡ [] → AllKept c →
    Fine (signed place (Some h) (offered false site o t c))
signed_fine place h site o t c e all =
    of_both (λ (b : Behind). Fine (signed place (Some h) b)) (is_mark Mark.Hash t.kind) (passed (held false t.place c))
    (offered_to c.pending false site o t c)
    (λ _. record { proper = none_proper c.pending e; clear = inr (e, all) })
    (λ _. subst (λ ps. Fine (signed place (Some h) (offered_to ps false site o t c))) (sym e)
    (record { proper = none_proper c.pending e; clear = inr (e, all) }))

-- where a condition takes the `#`, which is not handed on
never_front : (c : Conditions) → false ≡ true → c.pending ≡ []
never_front c e = cc

second_gives : (first second : Bool) → first || second ≡ false → second ≡ false
second_gives true second e = cc
second_gives false second e = e

taken_sign_fine : (place : Place) (site : Site) (o : Out) (t : SourceToken) (c : Conditions) → AreProper c.pending → AllKept c →
    SignFine place site o t (taken c)
taken_sign_fine place site o t c proper all =
    let b = offered false site o t c in
    let f = offered_fine false site o t c (never_front c) proper all in
    record {
      proper = f.proper;
      clear = elim f.clear [
        | inl none ↦ inl (second_gives (gives_sign b.judged.sign) (gives b.judged.token) none)
        | inr both ↦ inr both
      ];
    }

unfit_sign_fine : (place : Place) (site : Site) (o : Out) (t : SourceToken) (c : Conditions) → AllKept c → SignFine place site o t (unfit c)
unfit_sign_fine place site o t c all = signed_fine place Forwarded.Unfit site o t (given_up c) refl all

asked_sign_fine : (ks : List Condition) (wanted : Bool) (place : Place) (site : Site) (o : Out) (t : SourceToken) (p : Pending)
    (c : Conditions) → AreProper c.pending → AllKept c → SignFine place site o t (sign_asked ks wanted place site p c)
asked_sign_fine [] wanted place site o t p c proper all = unfit_sign_fine place site o t c all
asked_sign_fine (k ∷ ks) wanted place site o t p c proper all =
    let rest : Conditions = record c { conditions = ks } in
    let next = condition_took (hash place) k in
    of_both (SignFine place site o t) (fits grammar known (atom_of (hash place)) k.stack)
    (asked_on wanted site (hash place) next p rest) (unfit rest)
    (λ _. taken_sign_fine place site o t (asking p.place p.is_inner wanted next
    (saying site.is_quiet (too_much site.longest (hash place) next) (tokens_counted site.is_quiet next rest))) (tt, proper) all)
    (λ _. unfit_sign_fine place site o t rest all)

awaited_sign_fine : (a : Awaits) (place : Place) (site : Site) (o : Out) (t : SourceToken) (p : Pending) (c : Conditions) →
    AreProper c.pending → AllKept c → SignFine place site o t (sign_awaited a place site p c)
awaited_sign_fine (Awaits.Condition wanted) place site o t p c proper all =
    asked_sign_fine c.conditions wanted place site o t p c proper all
awaited_sign_fine other place site o t p c proper all = unfit_sign_fine place site o t c all

offered_sign_fine : (pending : List Pending) (place : Place) (site : Site) (o : Out) (t : SourceToken) (c : Conditions) →
    AreProper pending → AllKept c → SignFine place site o t (sign_offered pending place site c)
offered_sign_fine [] place site o t c proper all = signed_fine place Forwarded.Kept site o t (given_up c) refl all
offered_sign_fine (p ∷ pending) place site o t c proper all =
    awaited_sign_fine p.awaits place site o t p (record c { pending = pending }) proper.1 all

sign_fine : (w : Option ConditionalWord) (place : Place) (site : Site) (o : Out) (t : SourceToken) (c : Conditions) →
    AreProper c.pending → AllKept c → Fine (behind_sign w place site o t c)
sign_fine (Some w) place site o t c proper all = begun_fine w t place true (record c { sign = None }) proper all
sign_fine None place site o t c proper all = offered_sign_fine c.pending place site o t (record c { sign = None }) proper all

-- Lemmas about a token of a side that is left out

passed_proper : (w : Option ConditionalWord) (t : SourceToken) (side : LeftOut) (c : Conditions) → AreProper c.pending →
    AreProper (passed_by w t side c).pending
passed_proper None t side c proper = proper
passed_proper (Some w) t side c proper = of_both (λ (x : Conditions). AreProper x.pending) _
    (awaiting _ false (Awaits.End Effect.Nothing) (record (ended_by w c) { left_out = None; sign = None })) _
    (λ _. (tt, subst (λ ps. AreProper ps) (sym (ended_pending w c)) proper)) (λ _. proper)

side_fine : (site : Site) (o : Out) (t : SourceToken) (side : LeftOut) (c : Conditions) → AreProper c.pending →
    Fine (in_side site o t side c)
side_fine site o t side c proper =
    let here = record c { left_out = None; sign = None } in
    of_both Fine (is_end t.kind) (offered false site o t here) (passed (passed_by (word_of (keyword t)) t side c))
    (λ _. offered_fine false site o t here (λ e. let never : false ≡ true = e in cc) proper refl)
    (λ _. passed_fine (passed_by (word_of (keyword t)) t side c) (passed_proper (word_of (keyword t)) t side c proper))

-- Lemmas about any token

none_waits : (between : Bool) (pending : List Pending) → (between && is_none_pending pending) ≡ true → pending ≡ []
none_waits true [] e = refl
none_waits true (p ∷ pending) e = cc
none_waits false pending e = cc

by_fine : (left : Option LeftOut) (sign : Option Place) (site : Site) (o : Out) (t : SourceToken) (c : Conditions) → c.left_out ≡ left →
    AreProper c.pending → Fine (judged_by left sign site o t c)
by_fine (Some side) sign site o t c e proper = side_fine site o t side c proper
by_fine None (Some place) site o t c e proper = sign_fine (word_of (keyword t)) place site o t c proper e
by_fine None None site o t c e proper =
    offered_fine (site.is_between && is_none_pending c.pending) site o t c (none_waits site.is_between c.pending) proper e

pub judged_fine : (site : Site) (o : Out) (t : SourceToken) (c : Conditions) → AreProper c.pending → Fine (judged site o t c)
judged_fine site o t c proper = by_fine c.left_out c.sign site o t c refl proper
