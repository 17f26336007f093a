-- Of each token the same is told of a condition by conditionals and by sides.
use Rattle.std.proofs.Common.{◌≡◌, ℕ, List, [], ◌∷◌, ◌++◌, Bool, true, false, not, Option, Some, None, refl, sym, ◌∙◌, ap, subst}
use Rattle.std.specs.Prelude.{◌&&◌, ◌==◌, if◌then◌else◌, is_some, unwrap_or}
use Rattle.inf_scanner.specs.{declared.tokens.Mark.Mark, declared.tokens.Place.Place, declared.tokens.TokenKind.TokenKind}
use Rattle.inf_machine.specs.Machine.{fits}
use Rattle.inf_grammar.specs.Language.{grammar, known}
use Rattle.inf_output.specs.Output.{Out}
use Rattle.inf_sources.specs.declared.open_file.Conditional.{Conditional}
use Rattle.inf_unit.specs.Tokens.{SourceToken, atom_of, is_end, is_mark, keyword}
use Rattle.inf_unit.proofs.Cases.{of_both}
use Rattle.inf_conditionals.specs.{Said.Said, Said.told_by, Said.too_much, Words.word_of, declared.filtered.Site.Site}
use Rattle.inf_conditionals.specs.{declared.open.LeftOut.LeftOut, declared.pending.Awaits.Awaits, declared.pending.Effect.Effect}
use Rattle.inf_conditionals.specs.{declared.pending.Pending.Pending, declared.words.ConditionalWord.ConditionalWord}
use Rattle.inf_conditionals.specs.Condition.{Condition, condition_begun, condition_took, is_whole, verdict_of}
use Rattle.inf_conditionals.specs.Judging.{Behind, asked as token_asked, asked_on, at_front, awaited, awaiting, asking as with_asking}
use Rattle.inf_conditionals.specs.Judging.{behind_front, behind_sign, begun, decided, effected, held, judged, judged_by, named, offered}
use Rattle.inf_conditionals.specs.Judging.{offered_to, passed, passed_by, saying, sign_asked, sign_awaited, tokens_counted, is_none_pending}
use Rattle.inf_conditionals.specs.Judging.{taken, unfit, unmatched, went_on}
use Rattle.inf_conditionals.specs.Open.{Conditions, closed, closed_by, ended_by, ends_at, is_none_open, is_second, latest, levels_behind}
use Rattle.inf_conditionals.specs.Open.{turned, turned_by}
use Rattle.inf_conditional_sides.specs.Sides.{Asked, Directive, Ended, Side, Sign, Step, Text, all_stay, asked, condition_form, condition_of}
use Rattle.inf_conditional_sides.specs.Sides.{giving, goes_on, hash, outer_sides, sign_asked as sides_sign_asked}
use Rattle.inf_conditional_sides.specs.Judged.{AreFronts, StandFor, conditions_of, is_settled_by, open_sides}
use Rattle.inf_conditional_sides.specs.Judged.{LeftInside, awaits_behind, pending_of, pendings, with_condition}
use Rattle.inf_conditional_sides.specs.Told.{Told, behind_hash, behind_sign_told, hash_in, kept_told, left_told, told_behind, told_first}
use Rattle.inf_conditional_sides.specs.Told.{told_in, told_of, token_told, went_on as condition_went_on}
use Rattle.inf_conditional_sides.specs.Tellings.{ConditionsAreTold, telling}
use Rattle.inf_conditional_sides.proofs.{Acts.reading, Acts.state, Acts.staying, Kept.asking, Kept.asking_pending, Kept.condition_more}
use Rattle.inf_conditional_sides.proofs.{Kept.goes_past, Left.leaving, Left.one_left, Left.open_stay, Left.sided, Same.stated}

-- Among tokens that are passed over nothing is told.
abbrev unless : Bool → Told → Told → Told
unless is_quiet before after = if is_quiet then before else after

abbrev IsSilent : Bool → Conditions → Type 0
IsSilent is_quiet c = is_quiet ≡ true → c.said ≡ None

either : (is_quiet : Bool) (x : Told) → x ≡ unless is_quiet x x
either true x = refl
either false x = refl

twice : (is_quiet : Bool) (before after : Told) (f : Told → Told) (x : Told) → x ≡ unless is_quiet before after
    → unless is_quiet x (f x) ≡ unless is_quiet before (f after)
twice true before after f x e = e
twice false before after f x e = ap f e

-- Lemmas about tokens that tell nothing

named_tells : (k : TokenKind) (bytes : List ℕ) (if_declared : Bool) (o : Out) (p : Pending) (c : Conditions)
    → telling (named k bytes if_declared o p c).now ≡ telling c
named_tells TokenKind.Name bytes if_declared o p c = refl
named_tells _ bytes if_declared o p c = refl

turned_tells : (inner : List Conditional) (c : Conditions) → telling (turned_by inner c) ≡ telling c
turned_tells [] c = refl
turned_tells (x ∷ inner) c = refl

closed_tells : (inner : List Conditional) (c : Conditions) → telling (closed_by inner c) ≡ telling c
closed_tells [] c = refl
closed_tells (x ∷ inner) c = refl

effect_tells : (e : Effect) (is_quiet : Bool) (p : Pending) (c : Conditions) → telling (effected e is_quiet p c).now ≡ telling c
effect_tells (Effect.Opens is_kept) is_quiet p c = refl
effect_tells Effect.Turns is_quiet p c =
    of_both (λ (b : Behind). telling b.now ≡ telling c) (is_second (latest c)) (unmatched is_quiet p.place c)
    (passed (record (turned c) { left_out = Some (record { is_inner = not (is_none_open c.inner); levels = 0 }) })) (λ _. refl)
    (λ _. turned_tells c.inner c)
effect_tells Effect.Closes is_quiet p c =
    of_both (λ (b : Behind). telling b.now ≡ telling c) (is_none_open (latest c)) (unmatched is_quiet p.place c) (passed (closed c))
    (λ _. refl) (λ _. closed_tells c.inner c)
effect_tells Effect.Nothing is_quiet p c = refl

ended_tells : (e : Effect) (is_quiet : Bool) (t : SourceToken) (p : Pending) (c : Conditions)
    → telling (if is_mark Mark.Semicolon t.kind then effected e is_quiet p c else unfit c).now ≡ telling c
ended_tells e is_quiet t p c =
    of_both (λ (b : Behind). telling b.now ≡ telling c) (is_mark Mark.Semicolon t.kind) (effected e is_quiet p c) (unfit c)
    (λ _. effect_tells e is_quiet p c) (λ _. refl)

asked_first_tells : (wanted : Bool) (first : SourceToken) (is_inner : Bool) (c : Conditions)
    → telling (if fits grammar known (atom_of first) condition_begun.stack
    then passed (with_asking first.place is_inner wanted (condition_took first condition_begun) c) else unfit c).now
    ≡ telling c
asked_first_tells wanted first is_inner c =
    of_both (λ (b : Behind). telling b.now ≡ telling c) (fits grammar known (atom_of first) condition_begun.stack)
    (passed (with_asking first.place is_inner wanted (condition_took first condition_begun) c)) (unfit c) (λ _. refl) (λ _. refl)

begun_tells : (w : ConditionalWord) (t : SourceToken) (place : Place) (is_inner : Bool) (c : Conditions)
    → telling (begun w t place is_inner c).now ≡ telling c
begun_tells ConditionalWord.Iftrue t place is_inner c = asked_first_tells true (record t { place = place }) is_inner c
begun_tells ConditionalWord.Iffalse t place is_inner c = asked_first_tells false (record t { place = place }) is_inner c
begun_tells ConditionalWord.Ifdef t place is_inner c = refl
begun_tells ConditionalWord.Ifndef t place is_inner c = refl
begun_tells ConditionalWord.Ifnot t place is_inner c = refl
begun_tells ConditionalWord.Endif t place is_inner c = refl

front_tells : (w : Option ConditionalWord) (t : SourceToken) (p : Pending) (c : Conditions) → telling (behind_front w t p c).now ≡ telling c
front_tells None t p c = refl
front_tells (Some w) t p c = begun_tells w t p.place p.is_inner c

at_front_tells : (w : Option ConditionalWord) (t : SourceToken) (c : Conditions) → telling (at_front w t c).now ≡ telling c
at_front_tells None t c = refl
at_front_tells (Some w) t c = begun_tells w t t.place false c

held_tells : (is_front : Bool) (place : Place) (c : Conditions) → telling (held is_front place c) ≡ telling c
held_tells true place c = refl
held_tells false place c = refl

-- Lemmas about tokens of a condition

on_told : (is_quiet : Bool) (longest : ℕ) (t : SourceToken) (k : Condition) (c : Conditions) → IsSilent is_quiet c
    → telling (saying is_quiet (too_much longest t k) (tokens_counted is_quiet k c))
    ≡ unless is_quiet (telling c) (condition_went_on longest t k (telling c))
on_told true longest t k c none = ap (λ (said : Option Said). record { said = said; most_tokens = c.most_tokens }) (sym (none refl))
on_told false longest t k c none = refl

whole_told : (is_quiet : Bool) (said : Option Said) (c : Conditions) → IsSilent is_quiet c
    → telling (saying is_quiet said c) ≡ unless is_quiet (telling c) (record (telling c) { said = said })
whole_told true said c none = ap (λ (x : Option Said). record { said = x; most_tokens = c.most_tokens }) (sym (none refl))
whole_told false said c none = refl

went_told : (is_whole_now wanted : Bool) (site : Site) (o : Out) (t : SourceToken) (k : Condition) (p : Pending) (c : Conditions)
    → IsSilent site.is_quiet c
    → telling (if is_whole_now then decided (verdict_of c.declared o k) wanted site.is_quiet k p c else asked_on wanted site t k p c).now
    ≡ unless site.is_quiet (telling c)
    (if is_whole_now then record (telling c) { said = told_by p.place k (verdict_of c.declared o k).finding }
    else condition_went_on site.longest t k (telling c))
went_told true wanted site o t k p c none = whole_told site.is_quiet (told_by p.place k (verdict_of c.declared o k).finding) c none
went_told false wanted site o t k p c none = on_told site.is_quiet site.longest t k c none

fit_told : (fit wanted : Bool) (site : Site) (o : Out) (t : SourceToken) (k : Condition) (p : Pending) (c : Conditions)
    → IsSilent site.is_quiet c
    → telling (if fit then went_on wanted site o t k p c else unfit c).now
    ≡ unless site.is_quiet (telling c) (told_behind site.longest c.declared o p.place t (if fit then Some k else None) (telling c))
fit_told true wanted site o t k p c none = went_told (is_whole k) wanted site o t k p c none
fit_told false wanted site o t k p c none = either site.is_quiet (telling c)

condition_told : (r : Option Condition) (wanted : Bool) (site : Site) (o : Out) (t : SourceToken) (p : Pending) (first : SourceToken)
    (others : List Asked) (c : Conditions) (inner among : List Conditional) (texts : List Text) → IsSilent site.is_quiet c
    → condition_of first others ≡ r → is_some r ≡ true
    → let conditions = with_condition r (conditions_of texts) in
    telling (token_asked conditions wanted site o t p (state c inner among (pendings texts) conditions)).now
    ≡ unless site.is_quiet (telling c)
    (told_behind site.longest c.declared o p.place t (condition_of first (others ++ asked c.declared o t ∷ [])) (telling c))
condition_told None wanted site o t p first others c inner among texts none is some = cc
condition_told (Some k) wanted site o t p first others c inner among texts none is some =
    let more : Condition = condition_took t k in
    let rest : Conditions = state c inner among (pendings texts) (conditions_of texts) in
    subst (λ (r : Option Condition).
    telling (if fits grammar known (atom_of t) k.stack then went_on wanted site o t more p rest else unfit rest).now
    ≡ unless site.is_quiet (telling c) (told_behind site.longest c.declared o p.place t r (telling c)))
    (sym (condition_more first others (asked c.declared o t) k is))
    (fit_told (fits grammar known (atom_of t) k.stack) wanted site o t more p rest none)

-- Lemmas about a token more of a directive

directive_told : (site : Site) (o : Out) (t : SourceToken) (place : Place) (is_inner : Bool) (w : ConditionalWord) (first : SourceToken)
    (others : List Asked) (c : Conditions) (inner among : List Conditional) (texts : List Text) → IsSilent site.is_quiet c
    → let x = Directive place is_inner w first others in
    AreFronts (x ∷ texts)
    → telling (awaited (awaits_behind w others) site o t (pending_of x)
    (state c inner among (pendings texts) (conditions_of (x ∷ texts)))).now
    ≡ unless site.is_quiet (telling c) (told_in site.longest c.declared o t x (telling c))
directive_told site o t place is_inner ConditionalWord.Ifdef first [] c inner among texts none fronts =
    let x = Directive place is_inner ConditionalWord.Ifdef first [] in
    named_tells t.kind t.bytes true o (pending_of x) (state c inner among (pendings texts) (conditions_of texts))
    ∙ either site.is_quiet (telling c)
directive_told site o t place is_inner ConditionalWord.Ifdef first (n ∷ others) c inner among texts none fronts =
    let x = Directive place is_inner ConditionalWord.Ifdef first (n ∷ others) in
    ended_tells (Effect.Opens n.is_declared) site.is_quiet t (pending_of x) (state c inner among (pendings texts) (conditions_of texts))
    ∙ either site.is_quiet (telling c)
directive_told site o t place is_inner ConditionalWord.Ifndef first [] c inner among texts none fronts =
    let x = Directive place is_inner ConditionalWord.Ifndef first [] in
    named_tells t.kind t.bytes false o (pending_of x) (state c inner among (pendings texts) (conditions_of texts))
    ∙ either site.is_quiet (telling c)
directive_told site o t place is_inner ConditionalWord.Ifndef first (n ∷ others) c inner among texts none fronts =
    let x = Directive place is_inner ConditionalWord.Ifndef first (n ∷ others) in
    ended_tells (Effect.Opens (not n.is_declared)) site.is_quiet t (pending_of x)
    (state c inner among (pendings texts) (conditions_of texts))
    ∙ either site.is_quiet (telling c)
directive_told site o t place is_inner ConditionalWord.Iftrue first others c inner among texts none fronts =
    condition_told (condition_of first others) true site o t (asking_pending place is_inner true) first others c inner among texts none refl
    fronts.0
directive_told site o t place is_inner ConditionalWord.Iffalse first others c inner among texts none fronts =
    condition_told (condition_of first others) false site o t (asking_pending place is_inner false) first others c inner among texts none
    refl fronts.0
directive_told site o t place is_inner ConditionalWord.Ifnot first others c inner among texts none fronts =
    let x = Directive place is_inner ConditionalWord.Ifnot first others in
    ended_tells Effect.Turns site.is_quiet t (pending_of x) (state c inner among (pendings texts) (conditions_of texts))
    ∙ either site.is_quiet (telling c)
directive_told site o t place is_inner ConditionalWord.Endif first others c inner among texts none fronts =
    let x = Directive place is_inner ConditionalWord.Endif first others in
    ended_tells Effect.Closes site.is_quiet t (pending_of x) (state c inner among (pendings texts) (conditions_of texts))
    ∙ either site.is_quiet (telling c)

text_told : (site : Site) (o : Out) (t : SourceToken) (x : Text) (c : Conditions) (inner among : List Conditional) (texts : List Text)
    → IsSilent site.is_quiet c → AreFronts (x ∷ texts)
    → let p = pending_of x in
    telling (awaited p.awaits site o t p (state c inner among (pendings texts) (conditions_of (x ∷ texts)))).now
    ≡ unless site.is_quiet (telling c) (told_in site.longest c.declared o t x (telling c))
text_told site o t (Sign place) c inner among texts none fronts =
    front_tells (word_of (keyword t)) t (pending_of (Sign place)) (state c inner among (pendings texts) (conditions_of texts))
    ∙ either site.is_quiet (telling c)
text_told site o t (Ended place) c inner among texts none fronts =
    ended_tells Effect.Nothing site.is_quiet t (pending_of (Ended place)) (state c inner among (pendings texts) (conditions_of texts))
    ∙ either site.is_quiet (telling c)
text_told site o t (Directive place is_inner w first others) c inner among texts none fronts =
    directive_told site o t place is_inner w first others c inner among texts none fronts

-- Lemmas about any token that is offered

first_told : (is_front : Bool) (site : Site) (o : Out) (t : SourceToken) (c : Conditions) (inner among : List Conditional)
    (texts : List Text)
    → IsSilent site.is_quiet c → AreFronts texts
    → telling (offered_to (pendings texts) is_front site o t (reading c inner among texts)).now
    ≡ unless site.is_quiet (telling c) (told_first site.longest c.declared o t texts (telling c))
first_told true site o t c inner among [] none fronts =
    at_front_tells (word_of (keyword t)) t (reading c inner among []) ∙ either site.is_quiet (telling c)
first_told false site o t c inner among [] none fronts = either site.is_quiet (telling c)
first_told is_front site o t c inner among (x ∷ texts) none fronts = text_told site o t x c inner among texts none fronts

offered_by : (is_hash is_front : Bool) (site : Site) (o : Out) (t : SourceToken) (c : Conditions) (inner among : List Conditional)
    (texts : List Text) → IsSilent site.is_quiet c → AreFronts texts
    → telling (if is_hash then passed (held is_front t.place (reading c inner among texts))
    else offered_to (pendings texts) is_front site o t (reading c inner among texts)).now
    ≡ unless site.is_quiet (telling c) (if is_hash then telling c else told_first site.longest c.declared o t texts (telling c))
offered_by true is_front site o t c inner among texts none fronts =
    held_tells is_front t.place (reading c inner among texts) ∙ either site.is_quiet (telling c)
offered_by false is_front site o t c inner among texts none fronts = first_told is_front site o t c inner among texts none fronts

offered_told : (is_front : Bool) (site : Site) (o : Out) (t : SourceToken) (c : Conditions) (inner among : List Conditional)
    (texts : List Text) → IsSilent site.is_quiet c → AreFronts texts
    → telling (offered is_front site o t (reading c inner among texts)).now
    ≡ unless site.is_quiet (telling c) (token_told site.longest c.declared o t texts (telling c))
offered_told is_front site o t c inner among texts none fronts =
    offered_by (is_mark Mark.Hash t.kind) is_front site o t c inner among texts none fronts

-- Lemmas about a token behind a `#` that waited

-- the `#` of a condition
abbrev Signed : Site → Out → SourceToken → Place → Conditions → Step → Behind → Told → Type 0
Signed site o t place c n s hashed = telling (offered false site o t s.now).now
    ≡ unless site.is_quiet (telling c) (token_told site.longest c.declared o t n.now.texts hashed)

plain_sign : (site : Site) (o : Out) (t : SourceToken) (place : Place) (c : Conditions) (inner among : List Conditional)
    → IsSilent site.is_quiet c
    → telling (offered false site o t (reading c inner among [])).now
    ≡ unless site.is_quiet (telling c) (token_told site.longest c.declared o t [] (telling c))
plain_sign site o t place c inner among none = offered_told false site o t c inner among [] none tt

said_none : (is_quiet : Bool) (said : Option Said) → is_quiet ≡ true → (if is_quiet then None else said) ≡ None
said_none is_quiet said quiet = ap (λ (b : Bool). if b then None else said) quiet

taken_sign : (wanted : Bool) (site : Site) (o : Out) (t : SourceToken) (place begins : Place) (is_inner : Bool) (first : SourceToken)
    (more : List Asked) (k : Condition) (c : Conditions) (inner among : List Conditional) (texts : List Text) → IsSilent site.is_quiet c
    → AreFronts texts → condition_of first more ≡ Some k
    → Signed site o t place c
    (goes_on (condition_form (condition_of first more)) (hash place) (Directive begins is_inner (asking wanted) first more)
    (staying inner among texts))
    (asked_on wanted site (hash place) k (asking_pending begins is_inner wanted) (reading c inner among texts))
    (behind_hash site.longest place (condition_of first more) (telling c))
taken_sign true site o t place begins is_inner first more k c inner among texts none fronts is =
    let x = Directive begins is_inner ConditionalWord.Iftrue first more in
    let s = staying inner among texts in
    let said = too_much site.longest (hash place) k in
    let c' = saying site.is_quiet said (tokens_counted site.is_quiet k c) in
    let read = λ (conditions : List Condition). λ (n : Step). λ (f : Option Condition).
    Signed site o t place c n (taken (state c' inner among (asking_pending begins is_inner true ∷ pendings texts) conditions))
    (behind_hash site.longest place f (telling c)) in
    subst (λ (f : Option Condition). read (k ∷ conditions_of texts) (goes_on (condition_form f) (hash place) x s) f) (sym is)
    (subst (λ (n : Step). read (k ∷ conditions_of texts) n (Some k)) (sym (goes_past (is_whole k) (hash place) x s))
    (subst (λ (conditions : List Condition). read conditions (giving (staying inner among (x ∷ texts)) []) (Some k))
    (ap (λ f. with_condition f (conditions_of texts)) is)
    (offered_told false site o t c' inner among (x ∷ texts) (said_none site.is_quiet said) (ap is_some is, fronts)
    ∙ twice site.is_quiet (telling c) (condition_went_on site.longest (hash place) k (telling c))
    (token_told site.longest c.declared o t (x ∷ texts)) (telling c')
    (on_told site.is_quiet site.longest (hash place) k c none))))
taken_sign false site o t place begins is_inner first more k c inner among texts none fronts is =
    let x = Directive begins is_inner ConditionalWord.Iffalse first more in
    let s = staying inner among texts in
    let said = too_much site.longest (hash place) k in
    let c' = saying site.is_quiet said (tokens_counted site.is_quiet k c) in
    let read = λ (conditions : List Condition). λ (n : Step). λ (f : Option Condition).
    Signed site o t place c n (taken (state c' inner among (asking_pending begins is_inner false ∷ pendings texts) conditions))
    (behind_hash site.longest place f (telling c)) in
    subst (λ (f : Option Condition). read (k ∷ conditions_of texts) (goes_on (condition_form f) (hash place) x s) f) (sym is)
    (subst (λ (n : Step). read (k ∷ conditions_of texts) n (Some k)) (sym (goes_past (is_whole k) (hash place) x s))
    (subst (λ (conditions : List Condition). read conditions (giving (staying inner among (x ∷ texts)) []) (Some k))
    (ap (λ f. with_condition f (conditions_of texts)) is)
    (offered_told false site o t c' inner among (x ∷ texts) (said_none site.is_quiet said) (ap is_some is, fronts)
    ∙ twice site.is_quiet (telling c) (condition_went_on site.longest (hash place) k (telling c))
    (token_told site.longest c.declared o t (x ∷ texts)) (telling c')
    (on_told site.is_quiet site.longest (hash place) k c none))))

condition_sign : (fit wanted : Bool) (site : Site) (o : Out) (t : SourceToken) (place begins : Place) (is_inner : Bool)
    (first : SourceToken) (more : List Asked) (k : Condition) (c : Conditions) (inner among : List Conditional) (texts : List Text)
    → IsSilent site.is_quiet c → AreFronts texts → condition_of first more ≡ (if fit then Some k else None)
    → Signed site o t place c
    (goes_on (condition_form (condition_of first more)) (hash place) (Directive begins is_inner (asking wanted) first more)
    (staying inner among texts))
    (if fit then asked_on wanted site (hash place) k (asking_pending begins is_inner wanted) (reading c inner among texts)
    else unfit (reading c inner among texts))
    (behind_hash site.longest place (condition_of first more) (telling c))
condition_sign false wanted site o t place begins is_inner first more k c inner among texts none fronts is =
    let x = Directive begins is_inner (asking wanted) first more in
    subst (λ (f : Option Condition). Signed site o t place c (goes_on (condition_form f) (hash place) x (staying inner among texts))
    (unfit (reading c inner among texts)) (behind_hash site.longest place f (telling c))) (sym is)
    (plain_sign site o t place c inner among none)
condition_sign true wanted site o t place begins is_inner first more k c inner among texts none fronts is =
    taken_sign wanted site o t place begins is_inner first more k c inner among texts none fronts is

sign_of_condition : (r : Option Condition) (wanted : Bool) (site : Site) (o : Out) (t : SourceToken) (place begins : Place)
    (is_inner : Bool) (first : SourceToken) (others : List Asked) (c : Conditions) (inner among : List Conditional) (texts : List Text)
    → IsSilent site.is_quiet c → AreFronts texts → condition_of first others ≡ r → is_some r ≡ true
    → let conditions = with_condition r (conditions_of texts) in
    let more = others ++ asked c.declared o (hash place) ∷ [] in
    Signed site o t place c
    (goes_on (condition_form (condition_of first more)) (hash place) (Directive begins is_inner (asking wanted) first more)
    (staying inner among texts))
    (sign_asked conditions wanted place site (asking_pending begins is_inner wanted)
    (state c inner among (pendings texts) conditions))
    (behind_hash site.longest place (condition_of first more) (telling c))
sign_of_condition None wanted site o t place begins is_inner first others c inner among texts none fronts is some = cc
sign_of_condition (Some k) wanted site o t place begins is_inner first others c inner among texts none fronts is some =
    let a = asked c.declared o (hash place) in
    condition_sign (fits grammar known (atom_of (hash place)) k.stack) wanted site o t place begins is_inner first (others ++ a ∷ [])
    (condition_took (hash place) k) c inner among texts none fronts (condition_more first others a k is)

abbrev TextSigned : Site → Out → SourceToken → Place → Text → Conditions → List Conditional → List Conditional → List Text → Type 0
TextSigned site o t place x c inner among texts =
    let p = pending_of x in
    Signed site o t place c (sides_sign_asked c.declared o place x (staying inner among texts))
    (sign_awaited p.awaits place site p (state c inner among (pendings texts) (conditions_of (x ∷ texts))))
    (hash_in site.longest c.declared o place x (telling c))

sign_of_directive : (site : Site) (o : Out) (t : SourceToken) (place begins : Place) (is_inner : Bool) (w : ConditionalWord)
    (first : SourceToken) (others : List Asked) (c : Conditions) (inner among : List Conditional) (texts : List Text)
    → IsSilent site.is_quiet c → AreFronts (Directive begins is_inner w first others ∷ texts)
    → TextSigned site o t place (Directive begins is_inner w first others) c inner among texts
sign_of_directive site o t place begins is_inner ConditionalWord.Ifdef first [] c inner among texts none fronts =
    plain_sign site o t place c inner among none
sign_of_directive site o t place begins is_inner ConditionalWord.Ifdef first (n ∷ []) c inner among texts none fronts =
    plain_sign site o t place c inner among none
sign_of_directive site o t place begins is_inner ConditionalWord.Ifdef first (n ∷ m ∷ []) c inner among texts none fronts =
    plain_sign site o t place c inner among none
sign_of_directive site o t place begins is_inner ConditionalWord.Ifdef first (n ∷ m ∷ l ∷ others) c inner among texts none fronts =
    plain_sign site o t place c inner among none
sign_of_directive site o t place begins is_inner ConditionalWord.Ifndef first [] c inner among texts none fronts =
    plain_sign site o t place c inner among none
sign_of_directive site o t place begins is_inner ConditionalWord.Ifndef first (n ∷ []) c inner among texts none fronts =
    plain_sign site o t place c inner among none
sign_of_directive site o t place begins is_inner ConditionalWord.Ifndef first (n ∷ m ∷ []) c inner among texts none fronts =
    plain_sign site o t place c inner among none
sign_of_directive site o t place begins is_inner ConditionalWord.Ifndef first (n ∷ m ∷ l ∷ others) c inner among texts none fronts =
    plain_sign site o t place c inner among none
sign_of_directive site o t place begins is_inner ConditionalWord.Ifnot first [] c inner among texts none fronts =
    plain_sign site o t place c inner among none
sign_of_directive site o t place begins is_inner ConditionalWord.Ifnot first (n ∷ []) c inner among texts none fronts =
    plain_sign site o t place c inner among none
sign_of_directive site o t place begins is_inner ConditionalWord.Ifnot first (n ∷ m ∷ others) c inner among texts none fronts =
    plain_sign site o t place c inner among none
sign_of_directive site o t place begins is_inner ConditionalWord.Endif first [] c inner among texts none fronts =
    plain_sign site o t place c inner among none
sign_of_directive site o t place begins is_inner ConditionalWord.Endif first (n ∷ []) c inner among texts none fronts =
    plain_sign site o t place c inner among none
sign_of_directive site o t place begins is_inner ConditionalWord.Endif first (n ∷ m ∷ others) c inner among texts none fronts =
    plain_sign site o t place c inner among none
sign_of_directive site o t place begins is_inner ConditionalWord.Iftrue first others c inner among texts none fronts =
    sign_of_condition (condition_of first others) true site o t place begins is_inner first others c inner among texts none fronts.1 refl
    fronts.0
sign_of_directive site o t place begins is_inner ConditionalWord.Iffalse first others c inner among texts none fronts =
    sign_of_condition (condition_of first others) false site o t place begins is_inner first others c inner among texts none fronts.1 refl
    fronts.0

sign_of_text : (site : Site) (o : Out) (t : SourceToken) (place : Place) (x : Text) (c : Conditions) (inner among : List Conditional)
    (texts : List Text) → IsSilent site.is_quiet c → AreFronts (x ∷ texts) → TextSigned site o t place x c inner among texts
sign_of_text site o t place (Sign begins) c inner among texts none fronts = plain_sign site o t place c inner among none
sign_of_text site o t place (Ended begins) c inner among texts none fronts = plain_sign site o t place c inner among none
sign_of_text site o t place (Directive begins is_inner w first others) c inner among texts none fronts =
    sign_of_directive site o t place begins is_inner w first others c inner among texts none fronts

behind_sign_by : (w : Option ConditionalWord) (site : Site) (o : Out) (t : SourceToken) (place : Place) (c : Conditions)
    (inner among : List Conditional) (texts : List Text) → IsSilent site.is_quiet c → AreFronts texts
    → telling (behind_sign w place site o t (record (reading c inner among texts) { sign = Some place })).now
    ≡ unless site.is_quiet (telling c)
    (behind_sign_told w place site.longest c.declared o t (record (staying inner among texts) { sign = Some place }) (telling c))
behind_sign_by (Some w) site o t place c inner among texts none fronts =
    begun_tells w t place true (reading c inner among texts) ∙ either site.is_quiet (telling c)
behind_sign_by None site o t place c inner among [] none fronts = plain_sign site o t place c inner among none
behind_sign_by None site o t place c inner among (x ∷ texts) none fronts = sign_of_text site o t place x c inner among texts none fronts

kept_by : (sign : Option Place) (site : Site) (o : Out) (t : SourceToken) (c : Conditions) (inner among : List Conditional)
    (texts : List Text) → IsSilent site.is_quiet c → AreFronts texts
    → telling (judged_by None sign site o t (record (reading c inner among texts) { sign = sign })).now
    ≡ unless site.is_quiet (telling c)
    (kept_told sign site.longest c.declared o t (sided (open_sides inner among) texts sign) (telling c))
kept_by None site o t c inner among texts none fronts =
    offered_told (site.is_between && is_none_pending (pendings texts)) site o t c inner among texts none fronts
kept_by (Some place) site o t c inner among texts none fronts =
    behind_sign_by (word_of (keyword t)) site o t place c inner among texts none fronts

-- Lemmas about a side that is left out

ended_by_tells : (w : ConditionalWord) (c : Conditions) → telling (ended_by w c) ≡ telling c
ended_by_tells ConditionalWord.Endif c = closed_tells c.inner c
ended_by_tells ConditionalWord.Ifnot c = turned_tells c.inner c
ended_by_tells ConditionalWord.Ifdef c = turned_tells c.inner c
ended_by_tells ConditionalWord.Ifndef c = turned_tells c.inner c
ended_by_tells ConditionalWord.Iftrue c = turned_tells c.inner c
ended_by_tells ConditionalWord.Iffalse c = turned_tells c.inner c

passed_tells : (w : Option ConditionalWord) (t : SourceToken) (side : LeftOut) (c : Conditions) → telling (passed_by w t side c) ≡ telling c
passed_tells None t side c = refl
passed_tells (Some w) t side c =
    of_both (λ (x : Conditions). telling x ≡ telling c) ((side.levels == 0) && ends_at w (is_second (latest c)))
    (awaiting (unwrap_or c.sign t.place) false (Awaits.End Effect.Nothing) (record (ended_by w c) { left_out = None; sign = None }))
    (record c { left_out = Some (record side { levels = levels_behind w side.levels }); sign = None })
    (λ _. ended_by_tells w c) (λ _. refl)

left_by : (is_end : Bool) (site : Site) (o : Out) (t : SourceToken) (c : Conditions) (inner among : List Conditional) (texts : List Text)
    (sign : Option Place) (side : LeftOut) → IsSilent site.is_quiet c → AreFronts texts
    → let before = leaving c inner among texts sign side in
    telling (if is_end then offered false site o t (record before { left_out = None; sign = None })
    else passed (passed_by (word_of (keyword t)) t side before)).now
    ≡ unless site.is_quiet (telling c) (if is_end then token_told site.longest c.declared o t texts (telling c) else telling c)
left_by true site o t c inner among texts sign side none fronts = offered_told false site o t c inner among texts none fronts
left_by false site o t c inner among texts sign side none fronts =
    passed_tells (word_of (keyword t)) t side (leaving c inner among texts sign side) ∙ either site.is_quiet (telling c)

-- Lemmas about any token

-- whether all sides stay
abbrev Stays : Option LeftOut → List Side → Type 0
Stays None sides = all_stay sides ≡ true
Stays (Some side) sides = all_stay sides ≡ false

inside_stays : (is_inner : Bool) (levels : ℕ) (x : Conditional) (inner among : List Conditional) (sides : List Side) → is_inner ≡ true
    → LeftInside is_inner levels x inner among sides → all_stay sides ≡ false
inside_stays true levels x inner among sides settled l = ap all_stay l.all ∙ one_left l.inside (open_sides inner among) true x
inside_stays false levels x inner among sides settled l = cc

stays : (left : Option LeftOut) (inner among : List Conditional) (sides : List Side) → StandFor left inner among sides
    → is_settled_by left inner ≡ true → Stays left sides
stays None inner among sides stand settled = ap all_stay stand ∙ open_stay inner among
stays (Some side) [] [] sides stand settled = absurd stand
stays (Some side) [] (x ∷ among) sides stand settled = ap all_stay stand.1.all ∙ one_left stand.1.inside (outer_sides among) false x
stays (Some side) (x ∷ inner) among sides stand settled = inside_stays side.is_inner side.levels x inner among sides settled stand

told_by_state : (left : Option LeftOut) (inner among : List Conditional) (site : Site) (o : Out) (t : SourceToken) (c : Conditions)
    (texts : List Text) (sign : Option Place) (sides : List Side) → IsSilent site.is_quiet c → AreFronts texts
    → StandFor left inner among sides → is_settled_by left inner ≡ true
    → telling (judged site o t (stated c left inner among texts sign)).now
    ≡ told_of site.is_quiet site.longest c.declared o t (sided sides texts sign) (telling c)
told_by_state None inner among site o t c texts sign sides none fronts stand settled =
    let s = sided sides texts sign in
    subst (λ (b : Bool). telling (judged site o t (stated c None inner among texts sign)).now
    ≡ unless site.is_quiet (telling c) (if b then kept_told sign site.longest c.declared o t s (telling c)
    else left_told site.longest c.declared o t s (telling c)))
    (sym (stays None inner among sides stand settled))
    (subst (λ (xs : List Side). telling (judged site o t (stated c None inner among texts sign)).now
    ≡ unless site.is_quiet (telling c) (kept_told sign site.longest c.declared o t (sided xs texts sign) (telling c)))
    (sym stand) (kept_by sign site o t c inner among texts none fronts))
told_by_state (Some side) inner among site o t c texts sign sides none fronts stand settled =
    let s = sided sides texts sign in
    subst (λ (b : Bool). telling (judged site o t (stated c (Some side) inner among texts sign)).now
    ≡ unless site.is_quiet (telling c) (if b then kept_told sign site.longest c.declared o t s (telling c)
    else left_told site.longest c.declared o t s (telling c)))
    (sym (stays (Some side) inner among sides stand settled))
    (left_by (is_end t.kind) site o t c inner among texts sign side none fronts)

pub conditions_are_told : ConditionsAreTold
conditions_are_told site o t c s a settled few none =
    let same : stated c c.left_out c.inner c.among s.texts s.sign ≡ c =
    ap (λ pending. record c { pending = pending; conditions = conditions_of s.texts; sign = s.sign }) (sym a.pending)
    ∙ (ap (λ conditions. record c { conditions = conditions; sign = s.sign }) (sym a.conditions)
    ∙ ap (λ sign. record c { sign = sign }) (sym a.sign)) in
    subst (λ (x : Conditions). telling (judged site o t x).now
    ≡ told_of site.is_quiet site.longest c.declared o t s (telling c)) same
    (told_by_state c.left_out c.inner c.among site o t c s.texts s.sign s.sides (λ _. none) a.fronts a.sides settled)
