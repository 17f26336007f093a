-- Where all sides stay and a `#` waited, the next token has the same result for conditionals and for sides.
use Rattle.std.proofs.Common.{◌≡◌, ℕ, List, [], ◌∷◌, ◌++◌, Bool, true, false, not, Option, Some, None, refl, sym, ◌∙◌, ap, subst}
use Rattle.std.specs.Prelude.{if◌then◌else◌, is_some}
use Rattle.inf_scanner.specs.{declared.tokens.Mark.Mark, declared.tokens.Place.Place, declared.tokens.TokenKind.TokenKind}
use Rattle.inf_machine.specs.Machine.{fits}
use Rattle.inf_grammar.specs.Language.{grammar, known}
use Rattle.inf_output.specs.Output.{Out}
use Rattle.inf_sources.specs.declared.open_file.Conditional.{Conditional}
use Rattle.inf_unit.specs.Tokens.{SourceToken, atom_of, is_mark}
use Rattle.inf_conditionals.specs.{Condition.Condition, Condition.condition_took, Condition.is_whole, Condition.verdict_of, Said.too_much}
use Rattle.inf_conditionals.specs.declared.{filtered.Filtered.Filtered, filtered.Forwarded.Forwarded, filtered.Site.Site}
use Rattle.inf_conditionals.specs.declared.{pending.Effect.Effect, pending.Pending.Pending, words.ConditionalWord.ConditionalWord}
use Rattle.inf_conditionals.specs.Judging.{Behind, asked as token_asked, asked_on as asked_on_judged, awaited}
use Rattle.inf_conditionals.specs.Judging.{behind_sign as behind_sign_judged, decided, effected, held as held_judged, kept, named}
use Rattle.inf_conditionals.specs.Judging.{offered as offered_judged, passed, saying, sign_asked as sign_asked_judged, sign_awaited}
use Rattle.inf_conditionals.specs.Judging.{sign_handed, taken, tokens_counted, unfit as unfit_judged, unmatched, went_on}
use Rattle.inf_conditionals.specs.Open.{Conditions, closed, is_none_open, is_second, latest, turned}
use Rattle.inf_conditional_sides.specs.Sides.{Asked, Directive, Ended, Given, Kept, Sign, Step, Text, Unfit, asked, behind_sign}
use Rattle.inf_conditional_sides.specs.Sides.{condition_form, condition_of, giving, goes_on, hash, heard, offered, sign_asked}
use Rattle.inf_conditional_sides.specs.Judged.{AreFronts, ComeToTheSame, IsFront, as_handed, awaits_behind, conditions_of, end_given}
use Rattle.inf_conditional_sides.specs.Judged.{given_of, lone_given, pending_of, pendings, sign_given, token_given, with_condition}
use Rattle.inf_conditional_sides.proofs.Acts.{kept_heard, none_heard, reading, state, staying, unfit_heard}
use Rattle.inf_conditional_sides.proofs.Kept.{asking, asking_pending, begun_same, condition_more, goes_past, offered_same}

-- Lemmas about the things that are given of a `#` and then of a token

heard-append : (is_quiet : Bool) (xs ys : List Given) → heard is_quiet (xs ++ ys) ≡ heard is_quiet xs ++ heard is_quiet ys
heard-append false xs ys = refl
heard-append true [] ys = refl
heard-append true (Kept t ∷ xs) ys = ap (λ given. Kept t ∷ given) (heard-append true xs ys)
heard-append true (Unfit t ∷ xs) ys = ap (λ given. Unfit t ∷ given) (heard-append true xs ys)
heard-append true (_ ∷ xs) ys = heard-append true xs ys

abbrev with_sign : Place → Forwarded → Behind → Behind
with_sign place h b = record b { judged = record b.judged { sign = Some (record { place = place; handed = h }) } }

sign_heard : (is_quiet : Bool) (t : SourceToken) (place : Place) (h : Forwarded) (j : Filtered) (before behind : List Given)
    → as_handed h (hash place) ≡ heard is_quiet before → j.sign ≡ None → given_of t j ≡ heard is_quiet behind
    → given_of t (record j { sign = Some (record { place = place; handed = h }) }) ≡ heard is_quiet (before ++ behind)
sign_heard is_quiet t place h j before behind first none second =
    let rest = token_given j.token t ++ (lone_given j.unmatched ++ end_given j.ended) in
    let rest_heard : rest ≡ heard is_quiet behind = sym (ap (λ g. sign_given g ++ rest) none) ∙ second in
    ap (λ given. given ++ rest) first
    ∙ (ap (λ given. heard is_quiet before ++ given) rest_heard ∙ sym (heard-append is_quiet before behind))

-- No `#` is handed on with a token that a directive takes.

if_none : (b : Bool) (x y : Behind) → x.judged.sign ≡ None → y.judged.sign ≡ None → (if b then x else y).judged.sign ≡ None
if_none true x y first second = first
if_none false x y first second = second

effect_none : (e : Effect) (is_quiet : Bool) (p : Pending) (c : Conditions) → (effected e is_quiet p c).judged.sign ≡ None
effect_none (Effect.Opens is_kept) is_quiet p c = refl
effect_none Effect.Turns is_quiet p c = if_none (is_second (latest c)) (unmatched is_quiet p.place c)
    (passed (record (turned c) { left_out = Some (record { is_inner = not (is_none_open c.inner); levels = 0 }) })) refl refl
effect_none Effect.Closes is_quiet p c = if_none (is_none_open (latest c)) (unmatched is_quiet p.place c) (passed (closed c)) refl refl
effect_none Effect.Nothing is_quiet p c = refl

named_none : (k : TokenKind) (bytes : List ℕ) (if_declared : Bool) (o : Out) (p : Pending) (c : Conditions)
    → (named k bytes if_declared o p c).judged.sign ≡ None
named_none TokenKind.Name bytes if_declared o p c = refl
named_none _ bytes if_declared o p c = refl

asked_none : (conditions : List Condition) (wanted : Bool) (site : Site) (o : Out) (t : SourceToken) (p : Pending) (c : Conditions)
    → (token_asked conditions wanted site o t p c).judged.sign ≡ None
asked_none [] wanted site o t p c = refl
asked_none (k ∷ conditions) wanted site o t p c =
    let rest = record c { conditions = conditions } in
    let more = condition_took t k in
    if_none (fits grammar known (atom_of t) k.stack) (went_on wanted site o t more p rest) (unfit_judged rest)
    (if_none (is_whole more) (decided (verdict_of rest.declared o more) wanted site.is_quiet more p rest)
    (asked_on_judged wanted site t more p rest) refl refl) refl

directive_none : (site : Site) (o : Out) (t : SourceToken) (w : ConditionalWord) (others : List Asked) (p : Pending) (c : Conditions)
    → (awaited (awaits_behind w others) site o t p c).judged.sign ≡ None
directive_none site o t ConditionalWord.Ifdef [] p c = named_none t.kind t.bytes true o p c
directive_none site o t ConditionalWord.Ifdef (n ∷ others) p c =
    if_none (is_mark Mark.Semicolon t.kind) (effected (Effect.Opens n.is_declared) site.is_quiet p c) (unfit_judged c)
    (effect_none (Effect.Opens n.is_declared) site.is_quiet p c) refl
directive_none site o t ConditionalWord.Ifndef [] p c = named_none t.kind t.bytes false o p c
directive_none site o t ConditionalWord.Ifndef (n ∷ others) p c =
    if_none (is_mark Mark.Semicolon t.kind) (effected (Effect.Opens (not n.is_declared)) site.is_quiet p c) (unfit_judged c)
    (effect_none (Effect.Opens (not n.is_declared)) site.is_quiet p c) refl
directive_none site o t ConditionalWord.Iftrue others p c = asked_none c.conditions true site o t p c
directive_none site o t ConditionalWord.Iffalse others p c = asked_none c.conditions false site o t p c
directive_none site o t ConditionalWord.Ifnot others p c =
    if_none (is_mark Mark.Semicolon t.kind) (effected Effect.Turns site.is_quiet p c) (unfit_judged c)
    (effect_none Effect.Turns site.is_quiet p c) refl
directive_none site o t ConditionalWord.Endif others p c =
    if_none (is_mark Mark.Semicolon t.kind) (effected Effect.Closes site.is_quiet p c) (unfit_judged c)
    (effect_none Effect.Closes site.is_quiet p c) refl

-- A `#` was handed on in some way, and left some directives, of which the innermost waits for no word behind a `#`.

abbrev NoSign : List Text → Type 0
NoSign [] = Unit {0}
NoSign (Sign place ∷ texts) = ⊥
NoSign (Ended place ∷ texts) = ⊥
NoSign (Directive place is_inner w first others ∷ texts) = Unit {0}

offered_none : (site : Site) (o : Out) (t : SourceToken) (c : Conditions) (inner among : List Conditional) (texts : List Text)
    → NoSign texts
    → (offered_judged false site o t (reading c inner among texts)).judged.sign ≡ None
offered_none site o t c inner among [] none =
    let now = reading c inner among [] in
    if_none (is_mark Mark.Hash t.kind) (passed (held_judged false t.place now)) (kept now) refl refl
offered_none site o t c inner among (Sign place ∷ texts) none = absurd none
offered_none site o t c inner among (Ended place ∷ texts) none = absurd none
offered_none site o t c inner among (Directive place is_inner w first others ∷ texts) none =
    let x = Directive place is_inner w first others in
    let now = reading c inner among (x ∷ texts) in
    let rest = record now { pending = pendings texts } in
    if_none (is_mark Mark.Hash t.kind) (passed (held_judged false t.place now))
    (awaited (awaits_behind w others) site o t (pending_of x) rest) refl (directive_none site o t w others (pending_of x) rest)

abbrev Signed : Site → Out → SourceToken → Place → Forwarded → List Given → Conditions → List Conditional → List Conditional → List Text
    → Type 0
Signed site o t place h before c inner among texts =
    let n = offered false c.declared o t (staying inner among texts) in
    ComeToTheSame site.is_quiet t (with_sign place h (offered_judged false site o t (reading c inner among texts)))
    (giving n.now (before ++ n.given))

then_offered : (site : Site) (o : Out) (t : SourceToken) (place : Place) (h : Forwarded) (before : List Given) (c : Conditions)
    (inner among : List Conditional) (texts : List Text) → AreFronts texts → NoSign texts → as_handed h (hash place)
    ≡ heard site.is_quiet before
    → Signed site o t place h before c inner among texts
then_offered site o t place h before c inner among texts fronts none first =
    let same = offered_same false site o t c inner among texts fronts in
    let b = offered_judged false site o t (reading c inner among texts) in
    let n = offered false c.declared o t (staying inner among texts) in
    record {
      now = same.now;
      given = sign_heard site.is_quiet t place h b.judged before n.given first (offered_none site o t c inner among texts none) same.given;
    }

unfit_sign : (site : Site) (o : Out) (t : SourceToken) (place : Place) (c : Conditions) (inner among : List Conditional)
    → Signed site o t place Forwarded.Unfit (Unfit (hash place) ∷ []) c inner among []
unfit_sign site o t place c inner among =
    then_offered site o t place Forwarded.Unfit (Unfit (hash place) ∷ []) c inner among [] tt tt (unfit_heard site.is_quiet (hash place))

-- The `#` may be one of a condition.

abbrev Behinds : Site → Out → SourceToken → Place → Conditions → Step → Behind → Type 0
Behinds site o t place c before s =
    let b = offered_judged false site o t s.now in
    let n = offered false c.declared o t before.now in
    ComeToTheSame site.is_quiet t (record b { judged = record b.judged { sign = sign_handed place s.judged.token } })
    (giving n.now (before.given ++ n.given))

condition_sign : (fit wanted : Bool) (site : Site) (o : Out) (t : SourceToken) (place begins : Place) (is_inner : Bool)
    (first : SourceToken)
    (more : List Asked) (k : Condition) (c : Conditions) (inner among : List Conditional) (texts : List Text) → AreFronts texts
    → condition_of first more ≡ (if fit then Some k else None)
    → Behinds site o t place c
    (goes_on (condition_form (condition_of first more)) (hash place) (Directive begins is_inner (asking wanted) first more)
    (staying inner among texts))
    (if fit then asked_on_judged wanted site (hash place) k (asking_pending begins is_inner wanted) (reading c inner among texts)
    else unfit_judged (reading c inner among texts))
condition_sign false wanted site o t place begins is_inner first more k c inner among texts fronts is =
    let x = Directive begins is_inner (asking wanted) first more in
    subst (λ f. Behinds site o t place c (goes_on (condition_form f) (hash place) x (staying inner among texts))
    (unfit_judged (reading c inner among texts))) (sym is) (unfit_sign site o t place c inner among)
condition_sign true true site o t place begins is_inner first more k c inner among texts fronts is =
    let x = Directive begins is_inner ConditionalWord.Iftrue first more in
    let s = staying inner among texts in
    let c' = saying site.is_quiet (too_much site.longest (hash place) k) (tokens_counted site.is_quiet k c) in
    let front : IsFront ConditionalWord.Iftrue first more = ap is_some is in
    let read = λ (conditions : List Condition). λ (n : Step).
    Behinds site o t place c n (taken (state c' inner among (asking_pending begins is_inner true ∷ pendings texts) conditions)) in
    subst (λ n. read (k ∷ conditions_of texts) n)
    (sym (ap (λ f. goes_on (condition_form f) (hash place) x s) is ∙ goes_past (is_whole k) (hash place) x s))
    (subst (λ conditions. read conditions (giving (staying inner among (x ∷ texts)) []))
    (ap (λ f. with_condition f (conditions_of texts)) is)
    (then_offered site o t place Forwarded.Condition [] c' inner among (x ∷ texts) (front, fronts) tt (none_heard site.is_quiet)))
condition_sign true false site o t place begins is_inner first more k c inner among texts fronts is =
    let x = Directive begins is_inner ConditionalWord.Iffalse first more in
    let s = staying inner among texts in
    let c' = saying site.is_quiet (too_much site.longest (hash place) k) (tokens_counted site.is_quiet k c) in
    let front : IsFront ConditionalWord.Iffalse first more = ap is_some is in
    let read = λ (conditions : List Condition). λ (n : Step).
    Behinds site o t place c n (taken (state c' inner among (asking_pending begins is_inner false ∷ pendings texts) conditions)) in
    subst (λ n. read (k ∷ conditions_of texts) n)
    (sym (ap (λ f. goes_on (condition_form f) (hash place) x s) is ∙ goes_past (is_whole k) (hash place) x s))
    (subst (λ conditions. read conditions (giving (staying inner among (x ∷ texts)) []))
    (ap (λ f. with_condition f (conditions_of texts)) is)
    (then_offered site o t place Forwarded.Condition [] c' inner among (x ∷ texts) (front, fronts) tt (none_heard site.is_quiet)))

sign_of_condition : (r : Option Condition) (wanted : Bool) (site : Site) (o : Out) (t : SourceToken) (place begins : Place)
    (is_inner : Bool)
    (first : SourceToken) (others : List Asked) (c : Conditions) (inner among : List Conditional) (texts : List Text) → AreFronts texts
    → condition_of first others ≡ r → is_some r ≡ true
    → let conditions = with_condition r (conditions_of texts) in
    let more = others ++ asked c.declared o (hash place) ∷ [] in
    Behinds site o t place c
    (goes_on (condition_form (condition_of first more)) (hash place) (Directive begins is_inner (asking wanted) first more)
    (staying inner among texts))
    (sign_asked_judged conditions wanted place site (asking_pending begins is_inner wanted)
    (state c inner among (pendings texts) conditions))
sign_of_condition None wanted site o t place begins is_inner first others c inner among texts fronts is some = cc
sign_of_condition (Some k) wanted site o t place begins is_inner first others c inner among texts fronts is some =
    let a = asked c.declared o (hash place) in
    condition_sign (fits grammar known (atom_of (hash place)) k.stack) wanted site o t place begins is_inner first (others ++ a ∷ [])
    (condition_took (hash place) k) c inner among texts fronts (condition_more first others a k is)

sign_of_text : (site : Site) (o : Out) (t : SourceToken) (place : Place) (x : Text) (c : Conditions) (inner among : List Conditional)
    (texts : List Text) → AreFronts (x ∷ texts)
    → let p = pending_of x in
    Behinds site o t place c (sign_asked c.declared o place x (staying inner among texts))
    (sign_awaited p.awaits place site p (state c inner among (pendings texts) (conditions_of (x ∷ texts))))
sign_of_text site o t place (Sign begins) c inner among texts fronts = unfit_sign site o t place c inner among
sign_of_text site o t place (Ended begins) c inner among texts fronts = unfit_sign site o t place c inner among
sign_of_text site o t place (Directive begins is_inner ConditionalWord.Ifdef first []) c inner among texts fronts =
    unfit_sign site o t place c inner among
sign_of_text site o t place (Directive begins is_inner ConditionalWord.Ifdef first (n ∷ [])) c inner among texts fronts =
    unfit_sign site o t place c inner among
sign_of_text site o t place (Directive begins is_inner ConditionalWord.Ifdef first (n ∷ m ∷ [])) c inner among texts fronts =
    unfit_sign site o t place c inner among
sign_of_text site o t place (Directive begins is_inner ConditionalWord.Ifdef first (n ∷ m ∷ l ∷ others)) c inner among texts fronts =
    unfit_sign site o t place c inner among
sign_of_text site o t place (Directive begins is_inner ConditionalWord.Ifndef first []) c inner among texts fronts =
    unfit_sign site o t place c inner among
sign_of_text site o t place (Directive begins is_inner ConditionalWord.Ifndef first (n ∷ [])) c inner among texts fronts =
    unfit_sign site o t place c inner among
sign_of_text site o t place (Directive begins is_inner ConditionalWord.Ifndef first (n ∷ m ∷ [])) c inner among texts fronts =
    unfit_sign site o t place c inner among
sign_of_text site o t place (Directive begins is_inner ConditionalWord.Ifndef first (n ∷ m ∷ l ∷ others)) c inner among texts fronts =
    unfit_sign site o t place c inner among
sign_of_text site o t place (Directive begins is_inner ConditionalWord.Ifnot first []) c inner among texts fronts =
    unfit_sign site o t place c inner among
sign_of_text site o t place (Directive begins is_inner ConditionalWord.Ifnot first (n ∷ [])) c inner among texts fronts =
    unfit_sign site o t place c inner among
sign_of_text site o t place (Directive begins is_inner ConditionalWord.Ifnot first (n ∷ m ∷ others)) c inner among texts fronts =
    unfit_sign site o t place c inner among
sign_of_text site o t place (Directive begins is_inner ConditionalWord.Endif first []) c inner among texts fronts =
    unfit_sign site o t place c inner among
sign_of_text site o t place (Directive begins is_inner ConditionalWord.Endif first (n ∷ [])) c inner among texts fronts =
    unfit_sign site o t place c inner among
sign_of_text site o t place (Directive begins is_inner ConditionalWord.Endif first (n ∷ m ∷ others)) c inner among texts fronts =
    unfit_sign site o t place c inner among
sign_of_text site o t place (Directive begins is_inner ConditionalWord.Iftrue first others) c inner among texts fronts =
    sign_of_condition (condition_of first others) true site o t place begins is_inner first others c inner among texts fronts.1 refl
    fronts.0
sign_of_text site o t place (Directive begins is_inner ConditionalWord.Iffalse first others) c inner among texts fronts =
    sign_of_condition (condition_of first others) false site o t place begins is_inner first others c inner among texts fronts.1 refl
    fronts.0

-- Lemmas about any token behind a `#` that waited

sign_same : (site : Site) (o : Out) (t : SourceToken) (place : Place) (c : Conditions) (inner among : List Conditional) (texts : List Text)
    → AreFronts texts
    → ComeToTheSame site.is_quiet t (behind_sign_judged None place site o t (record (reading c inner among texts) { sign = Some place }))
    (behind_sign None place c.declared o t (record (staying inner among texts) { sign = Some place }))
sign_same site o t place c inner among [] fronts =
    then_offered site o t place Forwarded.Kept (Kept (hash place) ∷ []) c inner among [] tt tt (kept_heard site.is_quiet (hash place))
sign_same site o t place c inner among (x ∷ texts) fronts = sign_of_text site o t place x c inner among texts fronts

pub behind_sign_same : (w : Option ConditionalWord) (site : Site) (o : Out) (t : SourceToken) (place : Place) (c : Conditions)
    (inner among : List Conditional) (texts : List Text) → AreFronts texts
    → ComeToTheSame site.is_quiet t (behind_sign_judged w place site o t (record (reading c inner among texts) { sign = Some place }))
    (behind_sign w place c.declared o t (record (staying inner among texts) { sign = Some place }))
behind_sign_same (Some w) site o t place c inner among texts fronts = begun_same site.is_quiet w t place true c inner among texts fronts
behind_sign_same None site o t place c inner among texts fronts = sign_same site o t place c inner among texts fronts
