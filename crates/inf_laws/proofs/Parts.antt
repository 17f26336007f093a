-- The parts of a reading are the pieces of its context.
use Rattle.std.proofs.Common.{◌≡◌, ◌⊎◌, inl, inr, ℕ, zero, suc, List, [], ◌∷◌, ◌++◌, ◌&&◌, ◌||◌, map, cond, Bool, true, false, Option, Some}
use Rattle.std.proofs.Common.{None, refl, sym, ap, subst, ◌∙◌, append_assoc}
use Rattle.std.proofs.lemmas.List.{append-nil, map-append}
use Rattle.inf_settings.specs.Bounds.{Limits}
use Rattle.inf_devices.specs.Files.{Sources}
use Rattle.inf_scanner.specs.{declared.tokens.Mark.Mark, declared.tokens.Place.Place, declared.tokens.TokenKind.TokenKind}
use Rattle.inf_machine.specs.{Grammar.IsText, declared.symbols.Symbol.Symbol}
use Rattle.inf_grammar.specs.Language.{grammar}
use Rattle.inf_laws.specs.{BadTokens.skip_behind, KeptTurns.given_by, KeptTurns.given_in, KeptTurns.turned, Parts.PartsArePieces}
use Rattle.inf_laws.specs.{Parts.PartsEndWithPieces, Parts.StayInPart}
use Rattle.inf_laws.specs.KeptTokens.{Given, Kept, Stands, Unfit, all_given_to, given_as, given_of, given_sign, given_to, given_token}
use Rattle.inf_laws.specs.KeptTokens.{rests, skipped, token_in}
use Rattle.inf_syntax.specs.{Atoms.mark_atom, declared.actions.Action.Action}
use Rattle.inf_sources.specs.Inclusions.{Inclusion, Opens, OpensNone, Waiting, inclusion}
use Rattle.inf_sources.specs.declared.open_files.Included.{Included}
use Rattle.inf_unit.specs.Directives.{Request, Include}
use Rattle.inf_unit.specs.Tokens.{SourceToken, atom_of, is_end}
use Rattle.inf_unit.proofs.Cases.{of_both}
use Rattle.inf_conditionals.specs.{Ends.side_kept, Judging.judged, Judging.may_part, declared.filtered.Filtered.Filtered}
use Rattle.inf_conditionals.specs.{declared.filtered.Forwarded.Forwarded, declared.filtered.Sign.Sign}
use Rattle.inf_reader.specs.Handing.{hash, is_between, is_empty, reads, site_of}
use Rattle.inf_reader.specs.Reading.{Reading, between, is_mode_ended, passed, piece_rule}
use Rattle.inf_reader.specs.declared.recovery.Recovery.{Recovery}
use Rattle.inf_session.specs.Choices.{Choices}
use Rattle.inf_session.specs.Session.{State, answered, asked_nothing, file_closed, has_ended, carried_out, included_by, is_parted}
use Rattle.inf_session.specs.Session.{is_resting, left, left_by, none_included, piece_closed, rested, start, stepped, token_of, turn}
use Rattle.inf_laws.proofs.{Hashes.no_piece_ends_with_a_hash, KeptTurns.rested_reading, KeptTurns.stepped_reading, KeptTurns.turn_reading}
use Rattle.inf_laws.proofs.KeptTokens.{Ended, Inside, Now, Skips, Whole, first, given_both, next, skipped_more, stands}
use Rattle.inf_laws.proofs.PartTokens.{AreProper, gives, gives_sign, gives_some, judged_fine}

-- Behind a `#` no piece ends

last_kept : (before : List Given) (h : Given) (tokens : List SourceToken) → before ++ h ∷ [] ≡ map Kept tokens →
    (front : List SourceToken) × (x : SourceToken) × (tokens ≡ front ++ x ∷ []) × (h ≡ Kept x)
last_kept [] h [] e = cc
last_kept [] h (x ∷ []) e = ([], x, refl, cc)
last_kept [] h (x ∷ y ∷ tokens) e = cc
last_kept (b ∷ before) h [] e = cc
last_kept (b ∷ before) h (x ∷ tokens) e =
    let same : before ++ h ∷ [] ≡ map Kept tokens = cc in
    let r = last_kept before h tokens same in
    (x ∷ r.0, r.1, ap (λ xs. x ∷ xs) r.2, r.3)

none_behind : (ys : List Given) (w : Given) (behind : List Given) → [] ≡ ys ++ w ∷ behind → ⊥
none_behind [] w behind e = cc
none_behind (y ∷ ys) w behind e = cc

last_behind : (xs : List Given) (h : Given) (ys : List Given) (w : Given) (behind : List Given) → xs ++ h ∷ [] ≡ ys ++ w ∷ behind →
    (front : List Given) × (w ∷ behind ≡ front ++ h ∷ [])
last_behind xs h [] w behind e = (xs, sym e)
last_behind [] h (y ∷ ys) w behind e = absurd (none_behind ys w behind (cc))
last_behind (x ∷ xs) h (y ∷ ys) w behind e = last_behind xs h ys w behind (cc)

last_one : (before : List Given) (h x : Given) → before ++ h ∷ [] ≡ x ∷ [] → h ≡ x
last_one [] h x e = cc
last_one (b ∷ []) h x e = cc
last_one (b ∷ c ∷ before) h x e = cc

empty_not : (stack : List (Symbol Action)) → (stack ≡ [] → ⊥) → is_empty stack ≡ false
empty_not [] some = absurd (some refl)
empty_not (s ∷ stack) some = refl

goes_inside : (r : Reading) → r.mode ≡ Recovery.Reads → (r.stack ≡ [] → ⊥) → rests r ≡ false
goes_inside r is some = ap (λ m. (reads m && is_empty r.stack) || is_mode_ended m) is ∙ ap (λ b. b || false) (empty_not r.stack some)

passed_hash : (m : Recovery) → rests (between (passed m (TokenKind.Mark Mark.Hash))) ≡ false
passed_hash Recovery.Reads = refl
passed_hash other = refl

no_end : true ≡ false → ⊥
no_end e = cc

hash_goes : (before : List Given) (h : Given) (place : Place) (r : Reading) → token_in h ≡ hash place → Now (before ++ h ∷ []) r →
    rests r ≡ false
hash_goes before h place r is (Inside tokens e at some) = goes_inside r at.reads some
hash_goes before h place r is (Whole tokens e piece at) =
    let l = last_kept before h tokens e in
    let token : l.1 ≡ hash place = ap token_in (sym l.3) ∙ is in
    let atom : atom_of l.1 ≡ mark_atom Mark.Hash = ap atom_of token in
    let atoms : map atom_of tokens ≡ map atom_of l.0 ++ mark_atom Mark.Hash ∷ [] =
    ap (map atom_of) l.2 ∙ map-append atom_of l.0 (l.1 ∷ []) ∙ ap (λ a. map atom_of l.0 ++ a ∷ []) atom in
    absurd (no_piece_ends_with_a_hash (map atom_of l.0) piece.events
    (subst (λ xs. IsText grammar (Symbol.Rule piece_rule ∷ []) xs piece.events) atoms piece.is_text))
hash_goes before h place r is (Skips tokens wrong behind e begun bad at) =
    let m = skip_behind (map atom_of tokens) in
    let l = last_behind before h (map Kept tokens) wrong behind e in
    ap rests at
    ∙ ap (λ gs. rests (between (skipped m gs))) l.1
    ∙ ap (λ x. rests (between x)) (skipped_more m l.0 h)
    ∙ ap (λ (t : SourceToken). rests (between (passed (skipped m l.0) t.kind))) is
    ∙ passed_hash (skipped m l.0)
hash_goes before h place r is (Ended t e ends at) =
    let same : token_in h ≡ t = ap token_in (last_one before h (Kept t) e) in
    absurd (no_end (sym ends ∙ ap (λ (x : SourceToken). is_end x.kind) (sym same ∙ is)))

-- Lemmas about the state of a part behind some of its tokens

data Goes (given : List Given) (r : Reading) : Type 0 where
  None_yet : given ≡ [] → r ≡ between Recovery.Reads → Goes given r
  Some_yet : Now given r → rests r ≡ false → Goes given r

one_more : (before : List Given) (g : Given) (r : Reading) → Goes before r → Now (before ++ g ∷ []) (given_to g r)
one_more before g r (None_yet e fresh) = subst (λ gs. Now (gs ++ g ∷ []) (given_to g r)) (sym e) (first g r fresh)
one_more before g r (Some_yet now on) = next g before r now on

same_goes : (before : List Given) (r : Reading) → Goes before r → Goes (before ++ []) r
same_goes before r goes = subst (λ gs. Goes gs r) (sym (append-nil before)) goes

sign_goes : (o : Option Sign) (before : List Given) (r : Reading) → Goes before r →
    Goes (before ++ given_sign o) (all_given_to (given_sign o) r)
sign_goes None before r goes = same_goes before r goes
sign_goes (Some sign) before r goes = go sign.handed
  where
    go : (h : Forwarded) → Goes (before ++ given_as h (hash sign.place)) (all_given_to (given_as h (hash sign.place)) r)
    go Forwarded.Kept =
        let h = Kept (hash sign.place) in
        let now = one_more before h r goes in Some_yet now (hash_goes before h sign.place (given_to h r) refl now)
    go Forwarded.Unfit =
        let h = Unfit (hash sign.place) in
        let now = one_more before h r goes in Some_yet now (hash_goes before h sign.place (given_to h r) refl now)
    go Forwarded.Condition = same_goes before r goes

-- the state behind a turn: the part goes on, or the reading rests behind a token that was handed on
data Comes (before given : List Given) (r : Reading) : Type 0 where
  Still : Goes (before ++ given) r → Comes before given r
  Rests : Now (before ++ given) r → rests r ≡ true → (given ≡ [] → ⊥) → Comes before given r

bool_of : (b : Bool) → (b ≡ true) ⊎ (b ≡ false)
bool_of true = inl refl
bool_of false = inr refl

no_item : (xs : List Given) (g : Given) → xs ++ g ∷ [] ≡ [] → ⊥
no_item [] g e = cc
no_item (x ∷ xs) g e = cc

one_comes : (before signed : List Given) (g : Given) (r : Reading) → Goes (before ++ signed) r →
    Comes before (signed ++ g ∷ []) (given_to g r)
one_comes before signed g r goes =
    let all = append_assoc before signed (g ∷ []) in
    let now : Now (before ++ (signed ++ g ∷ [])) (given_to g r) =
    subst (λ gs. Now gs (given_to g r)) all (one_more (before ++ signed) g r goes) in
    elim (bool_of (rests (given_to g r))) [
      | inl rest_now ↦ Rests now rest_now (no_item signed g)
      | inr going ↦ Still (Some_yet now going)
    ]

token_comes : (o : Option Forwarded) (t : SourceToken) (before signed : List Given) (r : Reading) →
    Goes (before ++ signed) r → Comes before (signed ++ given_token o t) (all_given_to (given_token o t) r)
token_comes None t before signed r goes = Still (subst (λ gs. Goes (before ++ gs) r) (sym (append-nil signed)) goes)
token_comes (Some Forwarded.Kept) t before signed r goes = one_comes before signed (Kept t) r goes
token_comes (Some Forwarded.Unfit) t before signed r goes = one_comes before signed (Unfit t) r goes
token_comes (Some Forwarded.Condition) t before signed r goes = Still (subst (λ gs. Goes (before ++ gs) r) (sym (append-nil signed)) goes)

step_comes : (limits : Limits) (o : Choices) (before : List Given) (s : State) → Goes before s.reading →
    Comes before (given_by o s) (stepped limits o s).reading
step_comes limits o before s goes =
    let t = token_of s in
    let b = judged (site_of o.settings s.reading) s.work.output t s.conditions in
    let signed = given_sign b.judged.sign in
    subst (λ (r : Reading). Comes before (given_by o s) r)
    (sym (given_both signed (given_token b.judged.token t) s.reading) ∙ sym (stepped_reading limits o s))
    (token_comes b.judged.token t before signed (all_given_to signed s.reading) (sign_goes b.judged.sign before s.reading goes))

-- Lemmas about the conditionals behind a turn

carried_out_same : (sources : Sources) (o : Choices) (s : State) → ((carried_out sources o s).conditions.pending ≡ s.conditions.pending) ×
    ((carried_out sources o s).conditions.left_out ≡ s.conditions.left_out)
carried_out_same sources o s = of_both Same s.work.report.counts.is_over s (cond (is_mode_ended s.reading.mode) (left s)
    (answered s.work.asked sources o (asked_nothing s))) (λ _. (refl, refl))
    (λ _. of_both Same (is_mode_ended s.reading.mode) (left s) (answered s.work.asked sources o (asked_nothing s))
    (λ _. left_same s.nesting.waiting) (λ _. asked_same s.work.asked))
  where
    Same : State → Type 0
    Same x = (x.conditions.pending ≡ s.conditions.pending) × (x.conditions.left_out ≡ s.conditions.left_out)

    left_same : (waiting : List Waiting) → Same (left_by waiting (file_closed s))
    left_same [] = (refl, refl)
    left_same (w ∷ waiting) = (refl, refl)

    none_same : (unit : Place) (text : List ℕ) (why : Included) → Same (none_included unit text why (asked_nothing s))
    none_same unit text Included.Entered = (refl, refl)
    none_same unit text other = (refl, refl)

    included_same : (unit : Place) (text : List ℕ) (i : Inclusion) → Same (included_by sources o unit text i (asked_nothing s))
    included_same unit text (Opens name) = (refl, refl)
    included_same unit text (OpensNone why) = none_same unit text why

    asked_same : (a : Request) → Same (answered a sources o (asked_nothing s))
    asked_same (Include text unit) = included_same unit text (inclusion sources o.directories text s.nesting)
    asked_same other = (refl, refl)

rested_pending : (s : State) → (rested s).conditions.pending ≡ s.conditions.pending
rested_pending s =
    of_both (λ (x : State). x.conditions.pending ≡ s.conditions.pending) (has_ended s) s (cond (is_resting s) (piece_closed s) s)
    (λ _. refl)
    (λ _. of_both (λ (x : State). x.conditions.pending ≡ s.conditions.pending) (is_resting s) (piece_closed s) s (λ _. refl) (λ _. refl))

rested_left : (s : State) → s.conditions.left_out ≡ None → (rested s).conditions.left_out ≡ None
rested_left s all =
    of_both (λ (x : State). x.conditions.left_out ≡ None) (has_ended s) s (cond (is_resting s) (piece_closed s) s) (λ _. all)
    (λ _. of_both (λ (x : State). x.conditions.left_out ≡ None) (is_resting s) (piece_closed s) s (λ _. ap side_kept all) (λ _. all))

turn_pending : (limits : Limits) (sources : Sources) (o : Choices) (s : State) →
    (turn limits sources o s).conditions.pending ≡ (stepped limits o s).conditions.pending
turn_pending limits sources o s =
    rested_pending (carried_out sources o (stepped limits o s)) ∙ (carried_out_same sources o (stepped limits o s)).0

turn_left : (limits : Limits) (sources : Sources) (o : Choices) (s : State) → (stepped limits o s).conditions.left_out ≡ None →
    (turn limits sources o s).conditions.left_out ≡ None
turn_left limits sources o s all =
    rested_left (carried_out sources o (stepped limits o s)) ((carried_out_same sources o (stepped limits o s)).1 ∙ all)

abbrev Proper : State → Type 0
Proper s = AreProper s.conditions.pending

step_fine : (limits : Limits) (o : Choices) (s : State) → Proper s → Proper (stepped limits o s)
step_fine limits o s proper = (judged_fine (site_of o.settings s.reading) s.work.output (token_of s) s.conditions proper).proper

turn_proper : (limits : Limits) (sources : Sources) (o : Choices) (s : State) → Proper s → Proper (turn limits sources o s)
turn_proper limits sources o s proper = subst (λ ps. AreProper ps) (sym (turn_pending limits sources o s)) (step_fine limits o s proper)

all_proper : (limits : Limits) (sources : Sources) (o : Choices) (n : ℕ) (s : State) → Proper s → Proper (turned limits sources o n s)
all_proper limits sources o zero s proper = proper
all_proper limits sources o (suc n) s proper =
    all_proper limits sources o n (turn limits sources o s) (turn_proper limits sources o s proper)

-- no `#` is handed on where `gives_sign` is false
none_signed : (o : Option Sign) → gives_sign o ≡ false → given_sign o ≡ []
none_signed None e = refl
none_signed (Some sign) e = go sign.handed e
  where
    go : (h : Forwarded) → gives (Some h) ≡ false → given_as h (hash sign.place) ≡ []
    go Forwarded.Kept e = cc
    go Forwarded.Unfit e = cc
    go Forwarded.Condition e = refl

none_given : (o : Option Forwarded) (t : SourceToken) → gives o ≡ false → given_token o t ≡ []
none_given None t e = refl
none_given (Some Forwarded.Kept) t e = cc
none_given (Some Forwarded.Unfit) t e = cc
none_given (Some Forwarded.Condition) t e = refl

or_parts : (a b : Bool) → (a || b) ≡ false → (a ≡ false) × (b ≡ false)
or_parts true b e = cc
or_parts false b e = (refl, e)

nothing_given : (j : Filtered) (t : SourceToken) → gives_some j ≡ false → given_of j t ≡ []
nothing_given j t e =
    let parts = or_parts (gives_sign j.sign) (gives j.token) e in
    ap (λ gs. gs ++ given_token j.token t) (none_signed j.sign parts.0) ∙ none_given j.token t parts.1

abbrev IsClear : State → Type 0
IsClear s = (s.conditions.pending ≡ []) × (s.conditions.left_out ≡ None)

clear_behind : (limits : Limits) (o : Choices) (s : State) → Proper s → (given_by o s ≡ [] → ⊥) → IsClear (stepped limits o s)
clear_behind limits o s proper some =
    let t = token_of s in
    let b = judged (site_of o.settings s.reading) s.work.output t s.conditions in
    elim (judged_fine (site_of o.settings s.reading) s.work.output t s.conditions proper).clear [
      | inl none ↦ absurd (some (nothing_given b.judged t none))
      | inr clear ↦ clear
    ]

-- A part ends where the reading rests behind a token that was handed on

or_true : (a : Bool) → (a || true) ≡ true
or_true true = refl
or_true false = refl

ended_parts : (s : State) → is_mode_ended s.reading.mode ≡ true → is_parted s ≡ true
ended_parts s e =
    let over = s.work.report.counts.is_over in
    ap (λ b. (s.is_over || (over || b)) || (is_between s.reading && may_part s.conditions)) e
    ∙ ap (λ b. (s.is_over || b) || (is_between s.reading && may_part s.conditions)) (or_true over)
    ∙ ap (λ b. b || (is_between s.reading && may_part s.conditions)) (or_true s.is_over)

clear_parts : (s : State) → s.reading ≡ between Recovery.Reads → s.conditions.pending ≡ [] → s.conditions.left_out ≡ None →
    is_parted s ≡ true
clear_parts s fresh none all =
    let parts : may_part s.conditions ≡ true = ap (λ ps. may_part (record s.conditions { pending = ps })) none
    ∙ ap (λ l. may_part (record s.conditions { pending = []; left_out = l })) all in
    ap (λ (r : Reading). has_ended s || (is_between r && may_part s.conditions)) fresh
    ∙ ap (λ b. has_ended s || b) parts
    ∙ or_true (has_ended s)

-- at the end of a file reading goes on between two pieces, or ends
left_ends : (s : State) (waiting : List Waiting) → is_mode_ended s.reading.mode ≡ true → s.reading.stack ≡ []
    → (is_mode_ended (left_by waiting (file_closed s)).reading.mode ≡ true) ⊎
    ((left_by waiting (file_closed s)).reading ≡ between Recovery.Reads)
left_ends s [] e empty = inl e
left_ends s (w ∷ waiting) e empty = inr (ap (λ stack. record { mode = Recovery.Reads; stack = stack }) empty)

carried_out_ends : (sources : Sources) (o : Choices) (s : State) → is_mode_ended s.reading.mode ≡ true → s.reading.stack ≡ []
    → (is_mode_ended (carried_out sources o s).reading.mode ≡ true) ⊎ ((carried_out sources o s).reading ≡ between Recovery.Reads)
carried_out_ends sources o s e empty =
    of_both (λ (x : State). (is_mode_ended x.reading.mode ≡ true) ⊎ (x.reading ≡ between Recovery.Reads)) s.work.report.counts.is_over s
    (cond (is_mode_ended s.reading.mode) (left s) (answered s.work.asked sources o (asked_nothing s)))
    (λ _. inl e)
    (λ _. subst (λ b. (is_mode_ended (cond b (left s) (answered s.work.asked sources o (asked_nothing s))).reading.mode ≡ true) ⊎
    ((cond b (left s) (answered s.work.asked sources o (asked_nothing s))).reading ≡ between Recovery.Reads))
    (sym e) (left_ends s s.nesting.waiting e empty))

-- a reading that rests is between two pieces, or at the end
now_rests : (given : List Given) (r : Reading) → Now given r → rests r ≡ true →
    (r ≡ between Recovery.Reads) ⊎ ((is_mode_ended r.mode ≡ true) × (r.stack ≡ []))
now_rests given r (Inside tokens e at some) rest_now = absurd (no_end (sym rest_now ∙ goes_inside r at.reads some))
now_rests given r (Whole tokens e piece at) rest_now = inl at
now_rests given r (Skips tokens wrong behind e begun bad at) rest_now = go (skipped (skip_behind (map atom_of tokens)) (wrong ∷ behind)) at
  where
    go : (m : Recovery) → r ≡ between m → (r ≡ between Recovery.Reads) ⊎ ((is_mode_ended r.mode ≡ true) × (r.stack ≡ []))
    go Recovery.Reads same = inl same
    go Recovery.Ended same = inr (ap (λ (x : Reading). is_mode_ended x.mode) same, ap (λ (x : Reading). x.stack) same)
    go Recovery.SkipsRoutine same = absurd (no_end (sym rest_now ∙ ap rests same))
    go Recovery.SkipsDirective same = absurd (no_end (sym rest_now ∙ ap rests same))
now_rests given r (Ended t e ends at) rest_now = inr (ap (λ (x : Reading). is_mode_ended x.mode) at, ap (λ (x : Reading). x.stack) at)

rests_parts : (limits : Limits) (sources : Sources) (o : Choices) (s : State) (given : List Given) →
    Now given (stepped limits o s).reading →
    rests (stepped limits o s).reading ≡ true → IsClear (stepped limits o s) → is_parted (turn limits sources o s) ≡ true
rests_parts limits sources o s given now rest_now clear =
    let none = turn_pending limits sources o s ∙ clear.0 in
    let all = turn_left limits sources o s clear.1 in
    elim (now_rests given (stepped limits o s).reading now rest_now) [
      | inl fresh ↦ clear_parts (turn limits sources o s)
          (turn_reading limits sources o s (ap (λ (r : Reading). is_mode_ended r.mode) fresh) ∙ fresh)
          none all
      | inr ended ↦ elim (carried_out_ends sources o (stepped limits o s) ended.0 ended.1) [
        | inl over ↦ ended_parts (turn limits sources o s)
            (ap (λ (r : Reading). is_mode_ended r.mode) (rested_reading (carried_out sources o (stepped limits o s))) ∙ over)
        | inr fresh ↦ clear_parts (turn limits sources o s) (rested_reading (carried_out sources o (stepped limits o s)) ∙ fresh) none all
      ]
    ]

-- Lemmas about turns of one part

rests_goes : (given : List Given) (r : Reading) → Goes given r → is_mode_ended r.mode ≡ false
rests_goes given r (None_yet e fresh) = ap (λ (x : Reading). is_mode_ended x.mode) fresh
rests_goes given r (Some_yet now on) = (or_parts (reads r.mode && is_empty r.stack) (is_mode_ended r.mode) on).1

goes_behind : (limits : Limits) (sources : Sources) (o : Choices) (before : List Given) (s : State) → Proper s → Goes before s.reading →
    is_parted (turn limits sources o s) ≡ false → Goes (before ++ given_by o s) (turn limits sources o s).reading
goes_behind limits sources o before s proper goes on =
    elim (step_comes limits o before s goes) [
      | Still on_now ↦ subst (λ (r : Reading). Goes (before ++ given_by o s) r)
          (sym (turn_reading limits sources o s (rests_goes (before ++ given_by o s) (stepped limits o s).reading on_now))) on_now
      | Rests now rest_now some ↦ absurd (no_end (sym (rests_parts limits sources o s (before ++ given_by o s) now rest_now
          (clear_behind limits o s proper some)) ∙ on))
    ]

-- the reading behind the last of some turns
abbrev LastOf : List Given → Reading → Type 0
LastOf given r = (given ≡ []) ⊎ Stands given r

last_stands : (before given : List Given) (r : Reading) → Comes before given r → LastOf (before ++ given) r
last_stands before given r (Still (None_yet e fresh)) = inl e
last_stands before given r (Still (Some_yet now on)) = inr (stands (before ++ given) r now)
last_stands before given r (Rests now rest_now some) = inr (stands (before ++ given) r now)

turns_stand : (limits : Limits) (sources : Sources) (o : Choices) (n : ℕ) (before : List Given) (s : State) → Proper s →
    Goes before s.reading →
    StayInPart limits sources o n s
    → LastOf (before ++ given_in limits sources o (suc n) s) (stepped limits o (turned limits sources o n s)).reading
turns_stand limits sources o zero before s proper goes stay =
    subst (λ gs. LastOf (before ++ gs) (stepped limits o s).reading) (sym (append-nil (given_by o s)))
    (last_stands before (given_by o s) (stepped limits o s).reading (step_comes limits o before s goes))
turns_stand limits sources o (suc n) before s proper goes stay =
    let now = turn limits sources o s in
    subst (λ gs. LastOf gs (stepped limits o (turned limits sources o n now)).reading)
    (append_assoc before (given_by o s) (given_in limits sources o (suc n) now))
    (turns_stand limits sources o n (before ++ given_by o s) now (turn_proper limits sources o s proper)
    (goes_behind limits sources o before s proper goes stay.0)
    stay.1)

turns_go : (limits : Limits) (sources : Sources) (o : Choices) (n : ℕ) (before : List Given) (s : State) → Proper s →
    Goes before s.reading →
    StayInPart limits sources o n s
    → (given : List Given) × Goes given (turned limits sources o n s).reading
turns_go limits sources o zero before s proper goes stay = (before, goes)
turns_go limits sources o (suc n) before s proper goes stay =
    turns_go limits sources o n (before ++ given_by o s) (turn limits sources o s) (turn_proper limits sources o s proper)
    (goes_behind limits sources o before s proper goes stay.0) stay.1

start_proper : (limits : Limits) (sources : Sources) (o : Choices) (name : List ℕ) (m : ℕ) →
    Proper (turned limits sources o m (start sources o name))
start_proper limits sources o name m = all_proper limits sources o m (start sources o name) tt

pub parts_are_pieces : (limits : Limits) → PartsArePieces limits
parts_are_pieces limits sources o name m n fresh stay =
    turns_stand limits sources o n [] (turned limits sources o m (start sources o name)) (start_proper limits sources o name m)
    (None_yet refl fresh) stay

rests_end : (limits : Limits) (sources : Sources) (o : Choices) (before : List Given) (s : State) → Proper s → Goes before s.reading →
    (given_by o s ≡ [] → ⊥) →
    rests (stepped limits o s).reading ≡ true → is_parted (turn limits sources o s) ≡ true
rests_end limits sources o before s proper goes some rest_now =
    elim (step_comes limits o before s goes) [
      | Still on ↦ still on
      | Rests now rest given ↦ rests_parts limits sources o s (before ++ given_by o s) now rest_now (clear_behind limits o s proper some)
    ]
  where
    still : Goes (before ++ given_by o s) (stepped limits o s).reading → is_parted (turn limits sources o s) ≡ true
    still (Some_yet now on) = absurd (no_end (sym rest_now ∙ on))
    still (None_yet e fresh) = absurd (some (none_of before e))
      where
        none_of : (xs : List Given) → xs ++ given_by o s ≡ [] → given_by o s ≡ []
        none_of [] e = e
        none_of (x ∷ xs) e = cc

pub parts_end_with_pieces : (limits : Limits) → PartsEndWithPieces limits
parts_end_with_pieces limits sources o name m n fresh stay some rest_now =
    let s = turned limits sources o m (start sources o name) in
    let g = turns_go limits sources o n [] s (start_proper limits sources o name m) (None_yet refl fresh) stay in
    rests_end limits sources o g.0 (turned limits sources o n s) (all_proper limits sources o n s (start_proper limits sources o name m))
    g.1 some rest_now
