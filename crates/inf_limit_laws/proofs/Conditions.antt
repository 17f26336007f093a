-- Conditions: the tokens that they have, and what is told of one that has too many.
use Rattle.std.specs.Prelude.{if◌then◌else◌, is_some, max, nat_lt, not, unwrap_or, ◌&&◌, ◌==◌}
use Rattle.std.proofs.{Math.Nat.max-le, lemmas.List.length-append}
use Rattle.std.proofs.Common.{Bool, List, None, Option, Some, [], ap, arith, false, refl, subst, sym, true, ℕ, ◌++◌, ◌-◌}
use Rattle.std.proofs.Common.{◌+◌, ◌∙◌, ◌∷◌, ◌≡◌, ◌≤◌}
use Rattle.inf_scanner.specs.{declared.tokens.Mark.Mark, declared.tokens.Place.Place, declared.tokens.TokenKind.TokenKind}
use Rattle.inf_output.specs.Output.{Out}
use Rattle.inf_machine.specs.{Machine.fits, declared.symbols.Symbol.Symbol}
use Rattle.inf_syntax.specs.declared.actions.Action.{Action}
use Rattle.inf_grammar.specs.Language.{grammar, known}
use Rattle.inf_unit.specs.{Messages.FileNames, Messages.Reported, Units.Unit as SourceUnit, Units.depth_behind, Units.long_at}
use Rattle.inf_unit.specs.{Units.outer_count, Units.outer_tokens, Units.taken as unit_taken}
use Rattle.inf_unit.specs.Tokens.{SourceToken, atom_of, is_end, is_mark, keyword}
use Rattle.inf_unit.proofs.Cases.{of_both}
use Rattle.inf_sources.specs.declared.open_file.Conditional.{Conditional}
use Rattle.inf_conditionals.specs.{Words.awaits_of, Words.word_of, declared.condition.Verdict.Verdict, declared.filtered.Site.Site}
use Rattle.inf_conditionals.specs.{declared.open.LeftOut.LeftOut, declared.pending.Awaits.Awaits, declared.pending.Effect.Effect}
use Rattle.inf_conditionals.specs.{declared.pending.Pending.Pending, declared.words.ConditionalWord.ConditionalWord}
use Rattle.inf_conditionals.specs.Condition.{Condition, condition_begun, condition_took, is_whole, verdict_of}
use Rattle.inf_conditionals.specs.Judging.{Behind, asked, asked_on, asking, at_front, awaited, awaiting, begun, begun_by, behind_front}
use Rattle.inf_conditionals.specs.Judging.{behind_sign, decided, effected, effected_by, given_up, hash, held, is_none_pending, judged}
use Rattle.inf_conditionals.specs.Judging.{judged_by, kept, named, offered, offered_to, passed, passed_by, saying, sign_asked, sign_awaited}
use Rattle.inf_conditionals.specs.Judging.{sign_offered, unfit, unmatched, went_on}
use Rattle.inf_conditionals.specs.Open.{Conditions, closed, closed_by, ended_by, ends_at, is_none_open, is_second, latest, levels_behind}
use Rattle.inf_conditionals.specs.Open.{turned, turned_by}
use Rattle.inf_conditionals.specs.Said.{Deep, Long, Right, Said, told_by, too_much, too_much_by, with_said}
use Rattle.inf_limit_laws.proofs.{Stacks.begun_tame, Stacks.is_before_act, Stacks.is_tame, Stacks.sign, Stacks.taken_tame}
use Rattle.inf_limit_laws.proofs.Ways.{fatal_is_over, tokens_within}

-- whether a condition is told to be right, whose actions then appear
abbrev pub is_right : Option Said → Bool
is_right (Some (Right tokens leaves)) = true
is_right other = false

-- whether it is told to be too long or too deep, which is a fatal message
abbrev pub is_loud : Option Said → Bool
is_loud (Some (Long place)) = true
is_loud (Some (Deep place)) = true
is_loud other = false

-- A directive ends where its condition is right.
abbrev pub RightEnds : Behind → Type 0
RightEnds b = is_right b.now.said ≡ true → is_some b.judged.ended ≡ true

-- nothing right was told
abbrev pub NoneRight : Conditions → Type 0
NoneRight c = is_right c.said ≡ false

-- Conditions had few tokens, unless that is told.
abbrev pub FewTokens : ℕ → Behind → Type 0
FewTokens longest b = is_loud b.now.said ≡ false → b.now.most_tokens ≤ longest

-- The stacks of conditions are tame.
abbrev pub AreTame : List Condition → Type 0
AreTame [] = Unit {0}
AreTame (k ∷ conditions) = (is_tame k.stack ≡ true) × AreTame conditions

-- what was told before, and the tokens that were counted
abbrev Was : Type 0
Was = Option Said × ℕ

abbrev was : Conditions → Was
was c = (c.said, c.most_tokens)

-- Where nothing right was told, a directive ends whose condition is right; and where a premise holds, tokens are few behind few ones, and
-- stacks are tame.
record Judged (premise : Type 0) (longest : ℕ) (before : Was) (b : Behind) : Type 0 where
  right : is_right before.0 ≡ false → RightEnds b
  few : premise → before.1 ≤ longest → FewTokens longest b
  tame : premise → AreTame b.now.conditions

-- the same behind conditionals whose stacks are tame
abbrev Turned : ℕ → Conditions → Behind → Type 0
Turned longest c b = Judged (AreTame c.conditions) longest (was c) b

-- The conditionals tell what they told before, count no more tokens, and read the same conditions.
abbrev pub Same : Conditions → Conditions → Type 0
Same c d = (d.said ≡ c.said) × (d.most_tokens ≡ c.most_tokens) × (d.conditions ≡ c.conditions)

none_ends : (b : Behind) → NoneRight b.now → RightEnds b
none_ends b none right = let never : true ≡ false = sym right ∙ none in absurd cc

-- nothing changes
still : {longest : ℕ} (c : Conditions) {b : Behind} → Same c b.now → Turned longest c b
still {longest} c {b} same = record {
  right = λ none. none_ends b (ap is_right same.0 ∙ none);
  few = λ tame few quiet. subst (λ (n : ℕ). n ≤ longest) (sym same.1) few;
  tame = λ tame. subst AreTame (sym same.2) tame;
}

unfit_judged : {premise : Type 0} {longest : ℕ} (c : Conditions) → Judged premise longest (was c) (unfit c)
unfit_judged c = record { right = none_ends (unfit c); few = λ _ few quiet. few; tame = λ _. tt }

if_judged : {premise : Type 0} {longest : ℕ} {before : Was} (b : Bool) (x y : Behind) → Judged premise longest before x
    → Judged premise longest before y → Judged premise longest before (if b then x else y)
if_judged true x y h k = h
if_judged false x y h k = k

-- The ends of directives

turned_same : (inner : List Conditional) (c : Conditions) → Same c (turned_by inner c)
turned_same [] c = (refl, refl, refl)
turned_same (x ∷ inner) c = (refl, refl, refl)

closed_same : (inner : List Conditional) (c : Conditions) → Same c (closed_by inner c)
closed_same [] c = (refl, refl, refl)
closed_same (x ∷ inner) c = (refl, refl, refl)

effected_same : (e : Effect) (is_quiet : Bool) (p : Pending) (c : Conditions) → Same c (effected_by e is_quiet p c).now
effected_same Effect.Turns is_quiet p c = of_both (λ (b : Behind). Same c b.now) (is_second (latest c)) (unmatched is_quiet p.place c)
    (passed (record (turned c) { left_out = Some (record { is_inner = not (is_none_open c.inner); levels = 0 }) }))
    (λ _. (refl, refl, refl)) (λ _. turned_same c.inner c)
effected_same Effect.Closes is_quiet p c =
    of_both (λ (b : Behind). Same c b.now) (is_none_open (latest c)) (unmatched is_quiet p.place c) (passed (closed c))
    (λ _. (refl, refl, refl)) (λ _. closed_same c.inner c)
effected_same other is_quiet p c = (refl, refl, refl)

effected_judged : {longest : ℕ} (e : Effect) (is_quiet : Bool) (p : Pending) (c : Conditions) → Turned longest c (effected e is_quiet p c)
effected_judged e is_quiet p c = still c (effected_same e is_quiet p c)

-- A whole condition ends its directive, unless it is among tokens that are passed over, where nothing is told.
decided_judged : {premise : Type 0} {longest : ℕ} (v : Verdict) (wanted is_quiet : Bool) (k : Condition) (p : Pending) (c : Conditions)
    → (premise → AreTame c.conditions) → Judged premise longest (was c) (decided v wanted is_quiet k p c)
decided_judged {premise} {longest} v wanted is_quiet k p c tame = record {
  right = λ none. ends is_quiet;
  few = λ h. (opened is_quiet).few (tame h);
  tame = λ h. (opened is_quiet).tame (tame h);
}
  where
    said : Bool → Conditions
    said b = saying b (told_by p.place k v.finding) c

    opened : (b : Bool) → Turned longest (said b) (decided v wanted b k p c)
    opened b = effected_judged (Effect.Opens (if wanted then v.is_true else not v.is_true)) b p (said b)

    ends : (b : Bool) → RightEnds (decided v wanted b k p c)
    ends true right = (opened true).right refl right
    ends false right = refl

-- Lemmas about tokens of a condition

much_none : (is_quiet : Bool) (p : Option Place) (t : SourceToken) (depth : ℕ)
    → is_right (if is_quiet then None else too_much_by p t depth) ≡ false
much_none true p t depth = refl
much_none false (Some place) t depth = refl
much_none false None t depth =
    of_both (λ (said : Option Said). is_right said ≡ false) (is_mark Mark.OpenParenthesis t.kind && nat_lt 64 depth) (Some (Deep t.place))
    None (λ _. refl) (λ _. refl)

none_long : (p : Option Place) (t : SourceToken) (depth : ℕ) → is_loud (too_much_by p t depth) ≡ false → p ≡ None
none_long None t depth e = refl
none_long (Some place) t depth e = cc

on_few : (wanted : Bool) (site : Site) (t : SourceToken) (k : Condition) (p : Pending) (c : Conditions) → c.most_tokens ≤ site.longest
    → FewTokens site.longest (asked_on wanted site t k p c)
on_few wanted site t k p c few = go site.is_quiet
  where
    go : (b : Bool) → is_loud (if b then None else too_much site.longest t k) ≡ false
        → (if b then c.most_tokens else max c.most_tokens (outer_tokens k.unit)) ≤ site.longest
    go true quiet = few
    go false quiet = max-le few (tokens_within site.longest k.unit (none_long (long_at site.longest k.unit) t k.unit.depth quiet))

went_judged : {premise : Type 0} (wanted : Bool) (site : Site) (o : Out) (t : SourceToken) (k : Condition) (p : Pending) (c : Conditions)
    → (premise → AreTame (k ∷ c.conditions)) → Judged premise site.longest (was c) (went_on wanted site o t k p c)
went_judged wanted site o t k p c tame =
    let on = asked_on wanted site t k p c in
    if_judged (is_whole k) (decided (verdict_of c.declared o k) wanted site.is_quiet k p c) on
    (decided_judged (verdict_of c.declared o k) wanted site.is_quiet k p c (λ h. (tame h).1)) (record {
      right = λ _. none_ends on (much_none site.is_quiet (long_at site.longest k.unit) t k.unit.depth);
      few = λ _. on_few wanted site t k p c;
      tame = tame;
    })

-- the condition at hand took a token, and the others are as they were
took_tame : (t : SourceToken) (k : Condition) (conditions : List Condition) → fits grammar known (atom_of t) k.stack ≡ true
    → AreTame (k ∷ conditions) → AreTame (condition_took t k ∷ conditions)
took_tame t k conditions fit h = ((taken_tame (atom_of t) k.stack h.0 fit).0, h.1)

asked_judged : (conditions : List Condition) (wanted : Bool) (site : Site) (o : Out) (t : SourceToken) (p : Pending) (c : Conditions)
    → Judged (AreTame conditions) site.longest (was c) (asked conditions wanted site o t p c)
asked_judged [] wanted site o t p c = unfit_judged c
asked_judged (k ∷ conditions) wanted site o t p c =
    let rest = record c { conditions = conditions } in
    of_both (Judged (AreTame (k ∷ conditions)) site.longest (was c)) (fits grammar known (atom_of t) k.stack)
    (went_on wanted site o t (condition_took t k) p rest) (unfit rest)
    (λ fit. went_judged wanted site o t (condition_took t k) p rest (took_tame t k conditions fit)) (λ _. unfit_judged rest)

-- Lemmas about how code or a condition begins

by_judged : {longest : ℕ} (a : Awaits) (t : SourceToken) (is_inner : Bool) (c : Conditions) → Turned longest c (begun_by a t is_inner c)
by_judged {longest} (Awaits.Condition wanted) t is_inner c =
    let begins = passed (asking t.place is_inner wanted (condition_took t condition_begun) c) in
    of_both (Turned longest c) (fits grammar known (atom_of t) condition_begun.stack) begins (unfit c)
    (λ fit. record { right = none_ends begins; few = λ _ few quiet. few; tame = λ tame. (begun_tame (atom_of t) fit, tame) })
    (λ _. unfit_judged c)
by_judged pending t is_inner c = still c (refl, refl, refl)

begun_judged : {longest : ℕ} (w : ConditionalWord) (t : SourceToken) (place : Place) (is_inner : Bool) (c : Conditions)
    → Turned longest c (begun w t place is_inner c)
begun_judged w t place is_inner c = by_judged (awaits_of w) (record t { place = place }) is_inner c

front_judged : {longest : ℕ} (w : Option ConditionalWord) (t : SourceToken) (p : Pending) (c : Conditions)
    → Turned longest c (behind_front w t p c)
front_judged None t p c = still c (refl, refl, refl)
front_judged (Some w) t p c = begun_judged w t p.place p.is_inner c

named_judged : {longest : ℕ} (k : TokenKind) (bytes : List ℕ) (if_declared : Bool) (o : Out) (p : Pending) (c : Conditions)
    → Turned longest c (named k bytes if_declared o p c)
named_judged TokenKind.Name bytes if_declared o p c = still c (refl, refl, refl)
named_judged _ bytes if_declared o p c = unfit_judged c

awaited_judged : (a : Awaits) (site : Site) (o : Out) (t : SourceToken) (p : Pending) (c : Conditions)
    → Turned site.longest c (awaited a site o t p c)
awaited_judged Awaits.Word site o t p c = front_judged (word_of (keyword t)) t p c
awaited_judged (Awaits.Name if_declared) site o t p c = named_judged t.kind t.bytes if_declared o p c
awaited_judged (Awaits.Condition wanted) site o t p c = asked_judged c.conditions wanted site o t p c
awaited_judged (Awaits.End e) site o t p c =
    if_judged (is_mark Mark.Semicolon t.kind) (effected e site.is_quiet p c) (unfit c) (effected_judged e site.is_quiet p c)
    (unfit_judged c)

-- Lemmas about tokens of a kept side

held_judged : {longest : ℕ} (is_front : Bool) (place : Place) (c : Conditions) → Turned longest c (passed (held is_front place c))
held_judged true place c = still c (refl, refl, refl)
held_judged false place c = still c (refl, refl, refl)

at_judged : {longest : ℕ} (w : Option ConditionalWord) (t : SourceToken) (c : Conditions) → Turned longest c (at_front w t c)
at_judged None t c = still c (refl, refl, refl)
at_judged (Some w) t c = begun_judged w t t.place false c

to_judged : (pending : List Pending) (is_front : Bool) (site : Site) (o : Out) (t : SourceToken) (c : Conditions)
    → Turned site.longest c (offered_to pending is_front site o t c)
to_judged [] is_front site o t c =
    if_judged is_front (at_front (word_of (keyword t)) t c) (kept c) (at_judged (word_of (keyword t)) t c) (still c (refl, refl, refl))
to_judged (p ∷ pending) is_front site o t c = awaited_judged p.awaits site o t p (record c { pending = pending })

offered_judged : (is_front : Bool) (site : Site) (o : Out) (t : SourceToken) (c : Conditions)
    → Turned site.longest c (offered is_front site o t c)
offered_judged is_front site o t c =
    if_judged (is_mark Mark.Hash t.kind) (passed (held is_front t.place c)) (offered_to c.pending is_front site o t c)
    (held_judged is_front t.place c) (to_judged c.pending is_front site o t c)

-- A `#` that was held back, and the token behind it: a condition that goes on with a token and an action does not end with this token.

more_tokens : (t : SourceToken) (u : SourceUnit) → outer_tokens u ≤ outer_tokens (unit_taken t u)
more_tokens t u = of_both (λ v. outer_tokens u ≤ outer_tokens v) u.is_over (record u { is_over = false })
    (record u { tokens = u.tokens ++ t ∷ []; depth = depth_behind t.kind u.depth }) (λ _. omega arith) (λ _. go u.is_sure u.outer)
  where
    go : (sure : Bool) (outer : Option ℕ) → outer_count u.tokens sure outer ≤ outer_count (u.tokens ++ t ∷ []) sure outer
    go sure None = omega arith
    go true (Some outer) = omega (arith, length-append u.tokens (t ∷ []))
    go false (Some outer) = omega arith

both_few : (wanted : Bool) (site : Site) (o : Out) (t : SourceToken) (place : Place) (stack : List (Symbol Action)) (u : SourceUnit)
    (p : Pending) (c : Conditions) → is_before_act stack ≡ true → c.most_tokens ≤ site.longest → FewTokens site.longest
    (offered false site o t (asked_on wanted site (hash place) (record { stack = stack; unit = u }) p c).now)
both_few wanted site o t place (Symbol.Token class ∷ Symbol.Act a ∷ symbols) u p c goes few =
    of_both (FewTokens site.longest) (is_mark Mark.Hash t.kind) (passed (held false t.place d)) (offered_to d.pending false site o t d)
    (λ _. stays) (λ _. of_both (FewTokens site.longest) (fits grammar known (atom_of t) k.stack)
    (went_on wanted site o t (condition_took t k) again rest) (unfit rest)
    (λ _ quiet. on_few wanted site t (condition_took t k) again rest (go site.is_quiet quiet) quiet) (λ _. stays))
  where
    k : Condition
    k = record { stack = Symbol.Token class ∷ Symbol.Act a ∷ symbols; unit = u }

    d : Conditions
    d = (asked_on wanted site (hash place) k p c).now

    again : Pending
    again = record { place = p.place; is_inner = p.is_inner; awaits = Awaits.Condition wanted }

    rest : Conditions
    rest = record d { pending = c.pending; conditions = c.conditions }

    stays : FewTokens site.longest (asked_on wanted site (hash place) k p c)
    stays = on_few wanted site (hash place) k p c few

    go : (b : Bool) → is_loud (if b then None else too_much site.longest t (condition_took t k)) ≡ false
        → (if b then c.most_tokens else max c.most_tokens (outer_tokens u)) ≤ site.longest
    go true quiet = few
    go false quiet =
        let v = unit_taken t u in
        max-le few (omega (arith, more_tokens t u, tokens_within site.longest v (none_long (long_at site.longest v) t v.depth quiet)))
both_few wanted site o t place other u p c goes few = cc

-- Conditionals behind the `#` go on from those before it, and tokens are few behind the next token.
record Signed (premise : Type 0) (site : Site) (o : Out) (t : SourceToken) (before : Was) (c : Conditions) : Type 0 where
  none : is_right before.0 ≡ false → NoneRight c
  few : premise → before.1 ≤ site.longest → FewTokens site.longest (offered false site o t c)
  tame : premise → AreTame c.conditions

given_signed : {premise : Type 0} (site : Site) (o : Out) (t : SourceToken) (c : Conditions) → Signed premise site o t (was c) (given_up c)
given_signed site o t c =
    record { none = λ none. none; few = λ _. (offered_judged false site o t (given_up c)).few tt; tame = λ _. tt }

asked_signed : (conditions : List Condition) (wanted : Bool) (place : Place) (site : Site) (o : Out) (t : SourceToken) (p : Pending)
    (c : Conditions) → Signed (AreTame conditions) site o t (was c) (sign_asked conditions wanted place site p c).now
asked_signed [] wanted place site o t p c = given_signed site o t c
asked_signed (k ∷ conditions) wanted place site o t p c =
    let rest = record c { conditions = conditions } in
    let took = condition_took (hash place) k in
    of_both (λ (b : Behind). Signed (AreTame (k ∷ conditions)) site o t (was c) b.now) (fits grammar known (atom_of (hash place)) k.stack)
    (asked_on wanted site (hash place) took p rest) (unfit rest) (λ fit. record {
      none = λ _. much_none site.is_quiet (long_at site.longest took.unit) (hash place) took.unit.depth;
      few = λ h. both_few wanted site o t place took.stack took.unit p rest ((taken_tame sign k.stack h.0 fit).1 refl);
      tame = took_tame (hash place) k conditions fit;
    }) (λ _. given_signed site o t rest)

awaited_signed : (a : Awaits) (place : Place) (site : Site) (o : Out) (t : SourceToken) (p : Pending) (c : Conditions)
    → Signed (AreTame c.conditions) site o t (was c) (sign_awaited a place site p c).now
awaited_signed (Awaits.Condition wanted) place site o t p c = asked_signed c.conditions wanted place site o t p c
awaited_signed pending place site o t p c = given_signed site o t c

signed : (pending : List Pending) (place : Place) (site : Site) (o : Out) (t : SourceToken) (c : Conditions)
    → Signed (AreTame c.conditions) site o t (was c) (sign_offered pending place site c).now
signed [] place site o t c = given_signed site o t c
signed (p ∷ pending) place site o t c = awaited_signed p.awaits place site o t p (record c { pending = pending })

behind_judged : (w : Option ConditionalWord) (place : Place) (site : Site) (o : Out) (t : SourceToken) (c : Conditions)
    → Turned site.longest c (behind_sign w place site o t c)
behind_judged (Some w) place site o t c = begun_judged w t place true (record c { sign = None })
behind_judged None place site o t c =
    let clear = record c { sign = None } in
    let s = signed c.pending place site o t clear in
    let j = offered_judged false site o t (sign_offered c.pending place site clear).now in
    record { right = λ none. j.right (s.none none); few = s.few; tame = λ tame. j.tame (s.tame tame) }

-- Lemmas about a side that is left out

ended_by_same : (w : ConditionalWord) (c : Conditions) → Same c (ended_by w c)
ended_by_same ConditionalWord.Endif c = closed_same c.inner c
ended_by_same word c = turned_same c.inner c

passed_same : (w : Option ConditionalWord) (t : SourceToken) (side : LeftOut) (c : Conditions) → Same c (passed_by w t side c)
passed_same None t side c = (refl, refl, refl)
passed_same (Some w) t side c = of_both (Same c) ((side.levels == 0) && ends_at w (is_second (latest c)))
    (awaiting (unwrap_or c.sign t.place) false (Awaits.End Effect.Nothing) (record (ended_by w c) { left_out = None; sign = None }))
    (record c { left_out = Some (record side { levels = levels_behind w side.levels }); sign = None }) (λ _. ended_by_same w c)
    (λ _. (refl, refl, refl))

-- Lemmas about any token

by_turned : (side : Option LeftOut) (waiting : Option Place) (site : Site) (o : Out) (t : SourceToken) (c : Conditions)
    → Turned site.longest c (judged_by side waiting site o t c)
by_turned (Some side) waiting site o t c =
    let clear = record c { left_out = None; sign = None } in
    if_judged (is_end t.kind) (offered false site o t clear) (passed (passed_by (word_of (keyword t)) t side c))
    (offered_judged false site o t clear) (still c (passed_same (word_of (keyword t)) t side c))
by_turned None (Some place) site o t c = behind_judged (word_of (keyword t)) place site o t c
by_turned None None site o t c = offered_judged (site.is_between && is_none_pending c.pending) site o t c

pub right_ends : (site : Site) (o : Out) (t : SourceToken) (c : Conditions) → NoneRight c → RightEnds (judged site o t c)
right_ends site o t c none = (by_turned c.left_out c.sign site o t c).right none

pub tokens_are_few : (site : Site) (o : Out) (t : SourceToken) (c : Conditions) → AreTame c.conditions → c.most_tokens ≤ site.longest
    → FewTokens site.longest (judged site o t c)
tokens_are_few site o t c tame few = (by_turned c.left_out c.sign site o t c).few tame few

pub stacks_are_tame : (site : Site) (o : Out) (t : SourceToken) (c : Conditions) → AreTame c.conditions
    → AreTame (judged site o t c).now.conditions
stacks_are_tame site o t c tame = (by_turned c.left_out c.sign site o t c).tame tame

pub loud_is_over : (files : FileNames) (said : Option Said) (r : Reported) → is_loud said ≡ true
    → (with_said files said r).counts.is_over ≡ true
loud_is_over files (Some (Long place)) r e = fatal_is_over r.counts
loud_is_over files (Some (Deep place)) r e = fatal_is_over r.counts
loud_is_over files other r e = cc
