-- Where all sides stay, a token has the same result for conditionals and for sides.
use Rattle.std.proofs.Common.{◌≡◌, ℕ, List, [], ◌∷◌, ◌++◌, Bool, true, false, not, ◌&&◌, Option, Some, None, refl, sym, ◌∙◌, ap, subst}
use Rattle.std.specs.Prelude.{if◌then◌else◌, is_some}
use Rattle.inf_scanner.specs.{declared.tokens.Mark.Mark, declared.tokens.Place.Place, declared.tokens.TokenKind.TokenKind}
use Rattle.inf_machine.specs.Machine.{fits}
use Rattle.inf_grammar.specs.Language.{grammar, known}
use Rattle.inf_output.specs.Output.{Out}
use Rattle.inf_sources.specs.declared.open_file.Conditional.{Conditional}
use Rattle.inf_unit.specs.Tokens.{SourceToken, atom_of, is_mark, keyword}
use Rattle.inf_conditionals.specs.{Open.Conditions, Said.told_by, Said.too_much, Words.word_of, declared.filtered.Filtered.Filtered}
use Rattle.inf_conditionals.specs.{declared.filtered.Site.Site, declared.pending.Awaits.Awaits, declared.pending.Effect.Effect}
use Rattle.inf_conditionals.specs.{declared.pending.Pending.Pending, declared.words.ConditionalWord.ConditionalWord}
use Rattle.inf_conditionals.specs.Condition.{Condition, condition_begun, condition_took, is_whole, verdict_of}
use Rattle.inf_conditionals.specs.Judging.{asked as token_asked, at_front as front_judged, awaited, behind_front as behind_front_judged}
use Rattle.inf_conditionals.specs.Judging.{asked_on as asked_on_judged, begun as begun_judged, decided, effected, held as held_judged}
use Rattle.inf_conditionals.specs.Judging.{named, none_handed, offered as offered_judged, offered_to as offered_in_judged, passed, saying}
use Rattle.inf_conditionals.specs.Judging.{tokens_counted, unfit as unfit_judged, went_on}
use Rattle.inf_conditional_sides.specs.Sides.{Asked, Directive, Ended, Ends, Front, Misfit, Sides, Sign, Text, Whole, asked, at_front}
use Rattle.inf_conditional_sides.specs.Sides.{begun, behind_front, condition_form, condition_holds, condition_in, condition_of}
use Rattle.inf_conditional_sides.specs.Sides.{condition_read, giving, goes_on, hash, held, is_name, name_form, offered, offered_in}
use Rattle.inf_conditional_sides.specs.Sides.{offered_to, opens, read_as, tokens_in, unfit}
use Rattle.inf_conditional_sides.specs.Judged.{Agree, AreFronts, ComeToTheSame, IsFront, awaits_behind, conditions_of}
use Rattle.inf_conditional_sides.specs.Judged.{given_of, pending_of, pendings, with_condition}
use Rattle.inf_conditional_sides.proofs.Acts.{agree, both_heard, closed_same, conditional, end_heard, kept_heard, none_heard, opened_same}
use Rattle.inf_conditional_sides.proofs.Acts.{reading, state, staying, turned_same, turning_pending, unfit_same}

-- Lemmas about directives with a condition

abbrev pub asking : Bool → ConditionalWord
asking true = ConditionalWord.Iftrue
asking false = ConditionalWord.Iffalse

asking_awaits : (wanted : Bool) (others : List Asked) → Awaits.Condition wanted ≡ awaits_behind (asking wanted) others
asking_awaits true others = refl
asking_awaits false others = refl

asking_condition : (wanted : Bool) (first : SourceToken) (others : List Asked)
    → condition_of first others ≡ condition_in (asking wanted) first others
asking_condition true first others = refl
asking_condition false first others = refl

pub asking_front : (wanted : Bool) (first : SourceToken) (others : List Asked) → is_some (condition_of first others) ≡ true
    → IsFront (asking wanted) first others
asking_front true first others is = is
asking_front false first others is = is

abbrev pub asking_pending : Place → Bool → Bool → Pending
asking_pending place is_inner wanted = record { place = place; is_inner = is_inner; awaits = Awaits.Condition wanted }

asked_agree : (place : Place) (is_inner wanted : Bool) (first : SourceToken) (others : List Asked) (k : Condition) (c : Conditions)
    (inner among : List Conditional) (texts : List Text) → AreFronts texts → condition_of first others ≡ Some k
    → Agree (state c inner among (asking_pending place is_inner wanted ∷ pendings texts) (k ∷ conditions_of texts))
    (staying inner among (Directive place is_inner (asking wanted) first others ∷ texts))
asked_agree place is_inner wanted first others k c inner among texts fronts is = record {
  pending = ap (λ (a : Awaits). record { place = place; is_inner = is_inner; awaits = a } ∷ pendings texts) (asking_awaits wanted others);
  conditions = ap (λ o. with_condition o (conditions_of texts)) (sym is ∙ asking_condition wanted first others);
  sign = refl;
  sides = refl;
  fronts = (asking_front wanted first others (ap is_some is), fronts);
}

-- a directive goes on with a token, whether the grammar reads it or not
pub goes_past : (is : Bool) (t : SourceToken) (x : Text) (s : Sides)
    → goes_on (if is then Whole else Front) t x s ≡ giving (record s { texts = x ∷ s.texts }) []
goes_past true t x s = refl
goes_past false t x s = refl

asked_on : (is_quiet fit : Bool) (t : SourceToken) (place : Place) (is_inner wanted : Bool) (first : SourceToken) (others : List Asked)
    (k : Condition) (c : Conditions) (inner among : List Conditional) (pending : List Pending) (conditions : List Condition)
    (texts : List Text) (j : Filtered) → [] ≡ given_of t j → AreFronts texts
    → condition_of first others ≡ (if fit then Some k else None)
    → ComeToTheSame is_quiet t
    (if fit then record {
      now = state c inner among (asking_pending place is_inner wanted ∷ pendings texts) (k ∷ conditions_of texts);
      judged = j;
    } else unfit_judged (state c inner among pending conditions))
    (goes_on (condition_form (condition_of first others)) t (Directive place is_inner (asking wanted) first others)
    (staying inner among texts))
asked_on is_quiet true t place is_inner wanted first others k c inner among pending conditions texts j none fronts is =
    let x = Directive place is_inner (asking wanted) first others in
    let s = staying inner among texts in
    subst (λ n. ComeToTheSame is_quiet t
    (record {
      now = state c inner among (asking_pending place is_inner wanted ∷ pendings texts) (k ∷ conditions_of texts);
      judged = j;
    }) n) (sym (ap (λ o. goes_on (condition_form o) t x s) is ∙ goes_past (is_whole k) t x s))
    (record {
      now = asked_agree place is_inner wanted first others k c inner among texts fronts is;
      given = sym none ∙ none_heard is_quiet;
    })
asked_on is_quiet false t place is_inner wanted first others k c inner among pending conditions texts j none fronts is =
    let x = Directive place is_inner (asking wanted) first others in
    subst (λ n. ComeToTheSame is_quiet t (unfit_judged (state c inner among pending conditions)) n)
    (sym (ap (λ o. goes_on (condition_form o) t x (staying inner among texts)) is))
    (unfit_same is_quiet t c inner among pending conditions texts)

-- A directive begins with its word

pub begun_same : (is_quiet : Bool) (w : ConditionalWord) (t : SourceToken) (place : Place) (is_inner : Bool) (c : Conditions)
    (inner among : List Conditional) (texts : List Text) → AreFronts texts
    → ComeToTheSame is_quiet t (begun_judged w t place is_inner (reading c inner among texts))
    (begun w t place is_inner (staying inner among texts))
begun_same is_quiet ConditionalWord.Iftrue t place is_inner c inner among texts fronts =
    let first = record t { place = place } in
    asked_on is_quiet (fits grammar known (atom_of first) condition_begun.stack) t place is_inner true first []
    (condition_took first condition_begun) c inner among (pendings texts) (conditions_of texts) texts none_handed refl fronts refl
begun_same is_quiet ConditionalWord.Iffalse t place is_inner c inner among texts fronts =
    let first = record t { place = place } in
    asked_on is_quiet (fits grammar known (atom_of first) condition_begun.stack) t place is_inner false first []
    (condition_took first condition_begun) c inner among (pendings texts) (conditions_of texts) texts none_handed refl fronts refl
begun_same is_quiet ConditionalWord.Ifdef t place is_inner c inner among texts fronts = record {
  now = agree c inner among (Directive place is_inner ConditionalWord.Ifdef (record t { place = place }) [] ∷ texts) (refl, fronts);
  given = none_heard is_quiet;
}
begun_same is_quiet ConditionalWord.Ifndef t place is_inner c inner among texts fronts = record {
  now = agree c inner among (Directive place is_inner ConditionalWord.Ifndef (record t { place = place }) [] ∷ texts) (refl, fronts);
  given = none_heard is_quiet;
}
begun_same is_quiet ConditionalWord.Ifnot t place is_inner c inner among texts fronts = record {
  now = agree c inner among (Directive place is_inner ConditionalWord.Ifnot (record t { place = place }) [] ∷ texts) (refl, fronts);
  given = none_heard is_quiet;
}
begun_same is_quiet ConditionalWord.Endif t place is_inner c inner among texts fronts = record {
  now = agree c inner among (Directive place is_inner ConditionalWord.Endif (record t { place = place }) [] ∷ texts) (refl, fronts);
  given = none_heard is_quiet;
}

-- Lemmas about a token more of a directive

-- the name of an `Ifdef` or `Ifndef` has the same result
named_same : (is_quiet : Bool) (o : Out) (k : TokenKind) (bytes : List ℕ) (at : Place) (is_class : Bool) (place : Place) (is_inner : Bool)
    (first : SourceToken) (c : Conditions) (inner among : List Conditional) (texts : List Text) → AreFronts texts
    → let t : SourceToken = record { kind = k; bytes = bytes; place = at; is_class = is_class } in
    let others = asked c.declared o t ∷ [] in
    let p : Pending = record { place = place; is_inner = is_inner; awaits = Awaits.Name true } in
    let q : Pending = record { place = place; is_inner = is_inner; awaits = Awaits.Name false } in
    let read = λ (w : ConditionalWord). read_as (name_form others) w c.declared o t place is_inner first others (staying inner among texts)
    in
    ComeToTheSame is_quiet t (named k bytes true o p (reading c inner among texts)) (read ConditionalWord.Ifdef)
    × ComeToTheSame is_quiet t (named k bytes false o q (reading c inner among texts)) (read ConditionalWord.Ifndef)
named_same is_quiet o TokenKind.Name bytes at is_class place is_inner first c inner among texts fronts =
    let t : SourceToken = record { kind = TokenKind.Name; bytes = bytes; place = at; is_class = is_class } in
    let others = asked c.declared o t ∷ [] in (
      record {
        now = agree c inner among (Directive place is_inner ConditionalWord.Ifdef first others ∷ texts) (refl, fronts);
        given = none_heard is_quiet;
      },
      record {
        now = agree c inner among (Directive place is_inner ConditionalWord.Ifndef first others ∷ texts) (refl, fronts);
        given = none_heard is_quiet;
      },
    )
named_same is_quiet o k bytes at is_class place is_inner first c inner among texts fronts =
    let t : SourceToken = record { kind = k; bytes = bytes; place = at; is_class = is_class } in
    let both = unfit_same is_quiet t c inner among (pendings texts) (conditions_of texts) texts in (both, both)

-- A semicolon behind the name of an `Ifdef` or `Ifndef` has the same result.
abbrev NamesEnd : Bool → Bool → Bool → Out → SourceToken → Place → Bool → SourceToken → List Asked → Conditions → List Conditional
    → List Conditional
    → List Text → Bool → ConditionalWord → Type 0
NamesEnd is_quiet is_end is_name o t place is_inner first others c inner among texts stays w =
    let p : Pending = record { place = place; is_inner = is_inner; awaits = Awaits.End (Effect.Opens stays) } in
    let form = if is_end && is_name then Whole else Misfit in
    ComeToTheSame is_quiet t
    (if is_end then effected (Effect.Opens stays) is_quiet p (reading c inner among texts) else unfit_judged (reading c inner among texts))
    (read_as form w c.declared o t place is_inner first others (staying inner among texts))

names_end : (is_quiet is_end is_name : Bool) (o : Out) (t : SourceToken) (place : Place) (is_inner : Bool) (first : SourceToken) (n : Asked)
    (others : List Asked) (c : Conditions) (inner among : List Conditional) (texts : List Text) → AreFronts texts
    → (if is_name then Front else Misfit) ≡ Front
    → NamesEnd is_quiet is_end is_name o t place is_inner first (n ∷ others) c inner among texts n.is_declared ConditionalWord.Ifdef
    × NamesEnd is_quiet is_end is_name o t place is_inner first (n ∷ others) c inner among texts (not n.is_declared) ConditionalWord.Ifndef
names_end is_quiet true true o t place is_inner first n others c inner among texts fronts is = (
  opened_same is_quiet t place (Awaits.End (Effect.Opens n.is_declared)) is_inner n.is_declared c inner among texts fronts,
  opened_same is_quiet t place (Awaits.End (Effect.Opens (not n.is_declared))) is_inner (not n.is_declared) c inner among texts fronts,
)
names_end is_quiet true false o t place is_inner first n others c inner among texts fronts is = cc
names_end is_quiet false is_name o t place is_inner first n others c inner among texts fronts is =
    let both = unfit_same is_quiet t c inner among (pendings texts) (conditions_of texts) texts in (both, both)

-- a semicolon behind `Ifnot` or `Endif` has the same result
turn_ends : (is_quiet is_end : Bool) (o : Out) (t : SourceToken) (place : Place) (is_inner : Bool) (first : SourceToken)
    (others : List Asked)
    (c : Conditions) (inner among : List Conditional) (texts : List Text) → AreFronts texts
    → ComeToTheSame is_quiet t
    (if is_end then effected Effect.Turns is_quiet (turning_pending place is_inner) (reading c inner among texts)
    else unfit_judged (reading c inner among texts))
    (read_as (if is_end then Whole else Misfit) ConditionalWord.Ifnot c.declared o t place is_inner first others
    (staying inner among texts))
turn_ends is_quiet true o t place is_inner first others c inner among texts fronts =
    turned_same is_quiet t place is_inner c inner among texts fronts
turn_ends is_quiet false o t place is_inner first others c inner among texts fronts =
    unfit_same is_quiet t c inner among (pendings texts) (conditions_of texts) texts

close_ends : (is_quiet is_end : Bool) (o : Out) (t : SourceToken) (place : Place) (is_inner : Bool) (first : SourceToken)
    (others : List Asked)
    (c : Conditions) (inner among : List Conditional) (texts : List Text) → AreFronts texts
    → ComeToTheSame is_quiet t
    (if is_end then effected Effect.Closes is_quiet (record { place = place; is_inner = is_inner; awaits = Awaits.End Effect.Closes })
    (reading c inner among texts) else unfit_judged (reading c inner among texts))
    (read_as (if is_end then Whole else Misfit) ConditionalWord.Endif c.declared o t place is_inner first others
    (staying inner among texts))
close_ends is_quiet true o t place is_inner first others c inner among texts fronts =
    closed_same is_quiet t place is_inner c inner among texts fronts
close_ends is_quiet false o t place is_inner first others c inner among texts fronts =
    unfit_same is_quiet t c inner among (pendings texts) (conditions_of texts) texts

-- a semicolon behind a word that acted already has the same result
ended_ends : (is_quiet is_end : Bool) (t : SourceToken) (place : Place) (c : Conditions) (inner among : List Conditional)
    (texts : List Text)
    → AreFronts texts
    → ComeToTheSame is_quiet t
    (if is_end then effected Effect.Nothing is_quiet (record { place = place; is_inner = false; awaits = Awaits.End Effect.Nothing })
    (reading c inner among texts) else unfit_judged (reading c inner among texts))
    (if is_end then giving (staying inner among texts) (Ends place ∷ []) else unfit t (staying inner among texts))
ended_ends is_quiet true t place c inner among texts fronts =
    record { now = agree c inner among texts fronts; given = end_heard is_quiet t place }
ended_ends is_quiet false t place c inner among texts fronts =
    unfit_same is_quiet t c inner among (pendings texts) (conditions_of texts) texts

-- A condition reads one token more

where_fit : (fit : Bool) (read more last : Option Condition) (k : Condition) → (if fit then read else None) ≡ Some k
    → (read ≡ Some k → more ≡ last) → (if fit then more else None) ≡ last
where_fit true read more last k is on = on is
where_fit false read more last k is on = cc

read_more : (tokens : List SourceToken) (t : SourceToken) (from k : Condition) → condition_read tokens from ≡ Some k
    → condition_read (tokens ++ t ∷ []) from ≡ (if fits grammar known (atom_of t) k.stack then Some (condition_took t k) else None)
read_more [] t from k is =
    ap (λ (x : Condition). if fits grammar known (atom_of t) x.stack then Some (condition_took t x) else None) (same_condition is)
  where
    same_condition : {x y : Condition} → Some x ≡ Some y → x ≡ y
    same_condition same = cc
read_more (u ∷ tokens) t from k is =
    where_fit (fits grammar known (atom_of u) from.stack) (condition_read tokens (condition_took u from))
    (condition_read (tokens ++ t ∷ []) (condition_took u from))
    (if fits grammar known (atom_of t) k.stack then Some (condition_took t k) else None) k is
    (read_more tokens t (condition_took u from) k)

tokens-append : (others : List Asked) (a : Asked) → tokens_in (others ++ a ∷ []) ≡ tokens_in others ++ a.token ∷ []
tokens-append [] a = refl
tokens-append (x ∷ others) a = ap (λ tokens. x.token ∷ tokens) (tokens-append others a)

pub condition_more : (first : SourceToken) (others : List Asked) (a : Asked) (k : Condition) → condition_of first others ≡ Some k
    → condition_of first (others ++ a ∷ [])
    ≡ (if fits grammar known (atom_of a.token) k.stack then Some (condition_took a.token k) else None)
condition_more first others a k is = ap (λ tokens. condition_read (first ∷ tokens) condition_begun) (tokens-append others a)
    ∙ read_more (first ∷ tokens_in others) a.token condition_begun k is

-- a condition that is whole opens a conditional, with the same result
decided_same : (is_quiet wanted : Bool) (o : Out) (t : SourceToken) (place : Place) (is_inner : Bool) (first : SourceToken)
    (others : List Asked) (k : Condition) (c : Conditions) (inner among : List Conditional) (texts : List Text) → AreFronts texts
    → condition_of first others ≡ Some k
    → let v = verdict_of c.declared o k in
    ComeToTheSame is_quiet t
    (effected (Effect.Opens (if wanted then v.is_true else not v.is_true)) is_quiet (asking_pending place is_inner wanted)
    (reading c inner among texts))
    (read_as Whole (asking wanted) c.declared o t place is_inner first others (staying inner among texts))
decided_same is_quiet true o t place is_inner first others k c inner among texts fronts is =
    let v = verdict_of c.declared o k in
    let now = effected (Effect.Opens v.is_true) is_quiet (asking_pending place is_inner true) (reading c inner among texts) in
    subst (λ x. ComeToTheSame is_quiet t now (opens place is_inner (condition_holds c.declared o x) (staying inner among texts))) (sym is)
    (opened_same is_quiet t place (Awaits.Condition true) is_inner v.is_true c inner among texts fronts)
decided_same is_quiet false o t place is_inner first others k c inner among texts fronts is =
    let v = verdict_of c.declared o k in
    let now = effected (Effect.Opens (not v.is_true)) is_quiet (asking_pending place is_inner false) (reading c inner among texts) in
    subst (λ x. ComeToTheSame is_quiet t now (opens place is_inner (not (condition_holds c.declared o x)) (staying inner among texts)))
    (sym is)
    (opened_same is_quiet t place (Awaits.Condition false) is_inner (not v.is_true) c inner among texts fronts)

-- a condition that goes on, or is whole, has the same result
went_same : (is_whole_now wanted : Bool) (site : Site) (o : Out) (t : SourceToken) (place : Place) (is_inner : Bool) (first : SourceToken)
    (others : List Asked) (k : Condition) (c : Conditions) (inner among : List Conditional) (texts : List Text) → AreFronts texts
    → condition_of first others ≡ Some k
    → let p = asking_pending place is_inner wanted in
    let now = reading c inner among texts in
    ComeToTheSame site.is_quiet t
    (if is_whole_now then decided (verdict_of c.declared o k) wanted site.is_quiet k p now else asked_on_judged wanted site t k p now)
    (read_as (if is_whole_now then Whole else Front) (asking wanted) c.declared o t place is_inner first others (staying inner among texts))
went_same true wanted site o t place is_inner first others k c inner among texts fronts is =
    let v = verdict_of c.declared o k in
    let c' = saying site.is_quiet (told_by place k v.finding) c in
    decided_same site.is_quiet wanted o t place is_inner first others k c' inner among texts fronts is
went_same false wanted site o t place is_inner first others k c inner among texts fronts is =
    let c' = saying site.is_quiet (too_much site.longest t k) (tokens_counted site.is_quiet k c) in
    record { now = asked_agree place is_inner wanted first others k c' inner among texts fronts is; given = none_heard site.is_quiet }

condition_offered : (fit wanted : Bool) (site : Site) (o : Out) (t : SourceToken) (place : Place) (is_inner : Bool) (first : SourceToken)
    (others : List Asked) (k : Condition) (c : Conditions) (inner among : List Conditional) (texts : List Text) → AreFronts texts
    → condition_of first others ≡ (if fit then Some k else None)
    → ComeToTheSame site.is_quiet t
    (if fit then went_on wanted site o t k (asking_pending place is_inner wanted) (reading c inner among texts)
    else unfit_judged (reading c inner among texts))
    (read_as (condition_form (condition_of first others)) (asking wanted) c.declared o t place is_inner first others
    (staying inner among texts))
condition_offered true wanted site o t place is_inner first others k c inner among texts fronts is =
    let read = λ (x : Option Condition). read_as (condition_form x) (asking wanted) c.declared o t place is_inner first others
    (staying inner among texts) in
    subst (λ x. ComeToTheSame site.is_quiet t
    (went_on wanted site o t k (asking_pending place is_inner wanted) (reading c inner among texts)) (read x)) (sym is)
    (went_same (is_whole k) wanted site o t place is_inner first others k c inner among texts fronts is)
condition_offered false wanted site o t place is_inner first others k c inner among texts fronts is =
    let read = λ (x : Option Condition). read_as (condition_form x) (asking wanted) c.declared o t place is_inner first others
    (staying inner among texts) in
    subst (λ x. ComeToTheSame site.is_quiet t (unfit_judged (reading c inner among texts)) (read x)) (sym is)
    (unfit_same site.is_quiet t c inner among (pendings texts) (conditions_of texts) texts)

-- the condition of the innermost directive is the first
condition_asked : (r : Option Condition) (wanted : Bool) (site : Site) (o : Out) (t : SourceToken) (place : Place) (is_inner : Bool)
    (first : SourceToken) (others : List Asked) (c : Conditions) (inner among : List Conditional) (texts : List Text) → AreFronts texts
    → condition_of first others ≡ r → is_some r ≡ true
    → let conditions = with_condition r (conditions_of texts) in
    let more = others ++ asked c.declared o t ∷ [] in
    ComeToTheSame site.is_quiet t
    (token_asked conditions wanted site o t (asking_pending place is_inner wanted) (state c inner among (pendings texts) conditions))
    (read_as (condition_form (condition_of first more)) (asking wanted) c.declared o t place is_inner first more
    (staying inner among texts))
condition_asked None wanted site o t place is_inner first others c inner among texts fronts is some = cc
condition_asked (Some k) wanted site o t place is_inner first others c inner among texts fronts is some =
    condition_offered (fits grammar known (atom_of t) k.stack) wanted site o t place is_inner first (others ++ asked c.declared o t ∷ [])
    (condition_took t k) c inner among texts fronts (condition_more first others (asked c.declared o t) k is)

-- Lemmas about any token that is offered

front_same : (is_quiet : Bool) (w : Option ConditionalWord) (t : SourceToken) (place : Place) (c : Conditions)
    (inner among : List Conditional)
    (texts : List Text) → AreFronts texts
    → ComeToTheSame is_quiet t
    (behind_front_judged w t (record { place = place; is_inner = false; awaits = Awaits.Word }) (reading c inner among texts))
    (behind_front w t place (staying inner among texts))
front_same is_quiet None t place c inner among texts fronts =
    record { now = agree c inner among texts fronts; given = both_heard is_quiet (hash place) t }
front_same is_quiet (Some w) t place c inner among texts fronts = begun_same is_quiet w t place false c inner among texts fronts

-- tokens behind an `Ifdef` are its front only where they are no more than a name
too_many_names : (is_end is_name : Bool) → (if is_end && is_name then Whole else Misfit) ≡ Front → ⊥
too_many_names true true same = cc
too_many_names true false same = cc
too_many_names false is_name same = cc

too_many_ends : (is_end : Bool) → (if is_end then Whole else Misfit) ≡ Front → ⊥
too_many_ends true same = cc
too_many_ends false same = cc

misfit_front : Misfit ≡ Front → ⊥
misfit_front same = cc

directive_same : (site : Site) (o : Out) (t : SourceToken) (place : Place) (is_inner : Bool) (w : ConditionalWord) (first : SourceToken)
    (others : List Asked) (c : Conditions) (inner among : List Conditional) (texts : List Text) → AreFronts texts → IsFront w first others
    → let x = Directive place is_inner w first others in
    ComeToTheSame site.is_quiet t
    (awaited (awaits_behind w others) site o t (pending_of x) (state c inner among (pendings texts) (conditions_of (x ∷ texts))))
    (offered_to c.declared o t x (staying inner among texts))
directive_same site o t place is_inner ConditionalWord.Ifdef first [] c inner among texts fronts is =
    (named_same site.is_quiet o t.kind t.bytes t.place t.is_class place is_inner first c inner among texts fronts).0
directive_same site o t place is_inner ConditionalWord.Ifdef first (n ∷ []) c inner among texts fronts is =
    (names_end site.is_quiet (is_mark Mark.Semicolon t.kind) (is_name n.token.kind) o t place is_inner first n (asked c.declared o t ∷ [])
    c inner
    among texts fronts is).0
directive_same site o t place is_inner ConditionalWord.Ifdef first (n ∷ m ∷ []) c inner among texts fronts is =
    absurd (too_many_names (is_mark Mark.Semicolon m.token.kind) (is_name n.token.kind) is)
directive_same site o t place is_inner ConditionalWord.Ifdef first (n ∷ m ∷ l ∷ others) c inner among texts fronts is =
    absurd (misfit_front is)
directive_same site o t place is_inner ConditionalWord.Ifndef first [] c inner among texts fronts is =
    (named_same site.is_quiet o t.kind t.bytes t.place t.is_class place is_inner first c inner among texts fronts).1
directive_same site o t place is_inner ConditionalWord.Ifndef first (n ∷ []) c inner among texts fronts is =
    (names_end site.is_quiet (is_mark Mark.Semicolon t.kind) (is_name n.token.kind) o t place is_inner first n (asked c.declared o t ∷ [])
    c inner
    among texts fronts is).1
directive_same site o t place is_inner ConditionalWord.Ifndef first (n ∷ m ∷ []) c inner among texts fronts is =
    absurd (too_many_names (is_mark Mark.Semicolon m.token.kind) (is_name n.token.kind) is)
directive_same site o t place is_inner ConditionalWord.Ifndef first (n ∷ m ∷ l ∷ others) c inner among texts fronts is =
    absurd (misfit_front is)
directive_same site o t place is_inner ConditionalWord.Iftrue first others c inner among texts fronts is =
    condition_asked (condition_of first others) true site o t place is_inner first others c inner among texts fronts refl is
directive_same site o t place is_inner ConditionalWord.Iffalse first others c inner among texts fronts is =
    condition_asked (condition_of first others) false site o t place is_inner first others c inner among texts fronts refl is
directive_same site o t place is_inner ConditionalWord.Ifnot first [] c inner among texts fronts is =
    turn_ends site.is_quiet (is_mark Mark.Semicolon t.kind) o t place is_inner first (asked c.declared o t ∷ []) c inner among texts fronts
directive_same site o t place is_inner ConditionalWord.Ifnot first (n ∷ []) c inner among texts fronts is =
    absurd (too_many_ends (is_mark Mark.Semicolon n.token.kind) is)
directive_same site o t place is_inner ConditionalWord.Ifnot first (n ∷ m ∷ others) c inner among texts fronts is = absurd (misfit_front is)
directive_same site o t place is_inner ConditionalWord.Endif first [] c inner among texts fronts is =
    close_ends site.is_quiet (is_mark Mark.Semicolon t.kind) o t place is_inner first (asked c.declared o t ∷ []) c inner among texts fronts
directive_same site o t place is_inner ConditionalWord.Endif first (n ∷ []) c inner among texts fronts is =
    absurd (too_many_ends (is_mark Mark.Semicolon n.token.kind) is)
directive_same site o t place is_inner ConditionalWord.Endif first (n ∷ m ∷ others) c inner among texts fronts is = absurd (misfit_front is)

text_same : (site : Site) (o : Out) (t : SourceToken) (x : Text) (c : Conditions) (inner among : List Conditional) (texts : List Text)
    → AreFronts (x ∷ texts)
    → let p = pending_of x in
    ComeToTheSame site.is_quiet t
    (awaited p.awaits site o t p (state c inner among (pendings texts) (conditions_of (x ∷ texts))))
    (offered_to c.declared o t x (staying inner among texts))
text_same site o t (Sign place) c inner among texts fronts =
    front_same site.is_quiet (word_of (keyword t)) t place c inner among texts fronts
text_same site o t (Ended place) c inner among texts fronts =
    ended_ends site.is_quiet (is_mark Mark.Semicolon t.kind) t place c inner among texts fronts
text_same site o t (Directive place is_inner w first others) c inner among texts fronts =
    directive_same site o t place is_inner w first others c inner among texts fronts.1 fronts.0

at_front_same : (is_quiet : Bool) (w : Option ConditionalWord) (t : SourceToken) (c : Conditions) (inner among : List Conditional)
    (texts : List Text) → AreFronts texts
    → ComeToTheSame is_quiet t (front_judged w t (reading c inner among texts)) (at_front w t (staying inner among texts))
at_front_same is_quiet None t c inner among texts fronts =
    record { now = agree c inner among texts fronts; given = kept_heard is_quiet t }
at_front_same is_quiet (Some w) t c inner among texts fronts = begun_same is_quiet w t t.place false c inner among texts fronts

held_same : (is_quiet is_front : Bool) (t : SourceToken) (place : Place) (c : Conditions) (inner among : List Conditional)
    (texts : List Text)
    → AreFronts texts
    → ComeToTheSame is_quiet t (passed (held_judged is_front place (reading c inner among texts)))
    (giving (held is_front place (staying inner among texts)) [])
held_same is_quiet true t place c inner among texts fronts =
    record { now = agree c inner among (Sign place ∷ texts) fronts; given = none_heard is_quiet }
held_same is_quiet false t place c inner among texts fronts = record {
  now = record { pending = refl; conditions = refl; sign = refl; sides = refl; fronts = fronts };
  given = none_heard is_quiet;
}

plain_same : (is_front : Bool) (site : Site) (o : Out) (t : SourceToken) (c : Conditions) (inner among : List Conditional)
    (texts : List Text)
    → AreFronts texts
    → ComeToTheSame site.is_quiet t (offered_in_judged (pendings texts) is_front site o t (reading c inner among texts))
    (offered_in texts is_front c.declared o t (staying inner among texts))
plain_same true site o t c inner among [] fronts = at_front_same site.is_quiet (word_of (keyword t)) t c inner among [] fronts
plain_same false site o t c inner among [] fronts =
    record { now = agree c inner among [] fronts; given = kept_heard site.is_quiet t }
plain_same is_front site o t c inner among (x ∷ texts) fronts = text_same site o t x c inner among texts fronts

offered_by : (is_hash is_front : Bool) (site : Site) (o : Out) (t : SourceToken) (c : Conditions) (inner among : List Conditional)
    (texts : List Text) → AreFronts texts
    → ComeToTheSame site.is_quiet t
    (if is_hash then passed (held_judged is_front t.place (reading c inner among texts))
    else offered_in_judged (pendings texts) is_front site o t (reading c inner among texts))
    (if is_hash then giving (held is_front t.place (staying inner among texts)) []
    else offered_in texts is_front c.declared o t (staying inner among texts))
offered_by true is_front site o t c inner among texts fronts = held_same site.is_quiet is_front t t.place c inner among texts fronts
offered_by false is_front site o t c inner among texts fronts = plain_same is_front site o t c inner among texts fronts

pub offered_same : (is_front : Bool) (site : Site) (o : Out) (t : SourceToken) (c : Conditions) (inner among : List Conditional)
    (texts : List Text) → AreFronts texts
    → ComeToTheSame site.is_quiet t (offered_judged is_front site o t (reading c inner among texts))
    (offered is_front c.declared o t (staying inner among texts))
offered_same is_front site o t c inner among texts fronts =
    offered_by (is_mark Mark.Hash t.kind) is_front site o t c inner among texts fronts
