-- Tokens are handed on by sides as by conditionals, one behind the other.
use Rattle.std.proofs.Common.{◌≡◌, ◌≤◌, ℕ, ◌⊎◌, inl, inr, List, [], ◌∷◌, Bool, true, false, Option, Some, None, refl, sym, ◌∙◌, ap, subst}
use Rattle.std.specs.Prelude.{if◌then◌else◌, is_some}
use Rattle.inf_conditionals.specs.{Ends.piece_ended as conditions_ended, Ends.side_kept, Judging.Behind, Open.Conditions, Open.most_levels}
use Rattle.inf_conditionals.specs.{Open.no_conditions, declared.open.LeftOut.LeftOut, declared.pending.Pending.Pending}
use Rattle.inf_conditional_sides.specs.Sides.{Given, Sides, Step, heard, no_sides, step}
use Rattle.inf_conditional_sides.specs.Judged.{Agree, ComeToTheSame, FewIn, given_of, is_settled}
use Rattle.inf_conditional_sides.specs.Rests.{AreSeated, HandsNone, Rests}
use Rattle.inf_conditional_sides.specs.Runs.{AreRead, Event, NextIsAt, StandsStill, TokensGoBySides, all_given, all_judged, declared_behind}
use Rattle.inf_conditional_sides.specs.Runs.{ended_by, judged_at, sides_ended}
use Rattle.inf_conditional_sides.proofs.{Same.sides_are_judged, Seating.tokens_rest}

-- Lemmas about the state before a token, by conditionals and by sides

abbrev SeatedFor : List Event → Conditions → Type 0
SeatedFor [] c = Unit {0}
SeatedFor (e ∷ events) c = AreSeated e.site.is_between c.pending

record Goes (events : List Event) (c : Conditions) (declared : ℕ) (s : Sides) : Type 0 where
  agree : Agree c s
  settled : is_settled c ≡ true
  seated : SeatedFor events c
  levels : FewIn c.left_out
  same : c.declared ≡ declared

-- The state behind a token and, where one ends, behind a directive

none_seated : (events : List Event) (c : Conditions) → c.pending ≡ [] → SeatedFor events c
none_seated [] c e = tt
none_seated (x ∷ events) c e = subst (λ (pending : List Pending). AreSeated x.site.is_between pending) (sym e) tt

still_seated : (is_between : Bool) (events : List Event) (c : Conditions) → AreSeated is_between c.pending → NextIsAt is_between events
    → SeatedFor events c
still_seated is_between [] c seated next = tt
still_seated is_between (x ∷ events) c seated next = subst (λ (b : Bool). AreSeated b c.pending) (sym next) seated

seated_by : (e : Event) (events : List Event) (b : Behind) → AreSeated e.site.is_between b.now.pending → StandsStill e b events
    → ((b.now.pending ≡ []) × (b.now.left_out ≡ None)) ⊎ HandsNone b.judged → SeatedFor events b.now
seated_by e events b seated still (inl none) = none_seated events b.now none.0
seated_by e events b seated still (inr quiet) = still_seated e.site.is_between events b.now seated (still.stays quiet)

ended_seated : (events : List Event) (declared : ℕ) (c : Conditions) → SeatedFor events c → SeatedFor events (conditions_ended declared c)
ended_seated [] declared c seated = tt
ended_seated (x ∷ events) declared c seated = seated

side_levels : (is_inner : Bool) (side : LeftOut) → side.is_inner ≡ is_inner → side.levels ≤ most_levels → FewIn (side_kept (Some side))
side_levels true side is few = subst (λ (b : Bool). FewIn (if b then None else Some side)) (sym is) tt
side_levels false side is few = subst (λ (b : Bool). FewIn (if b then None else Some side)) (sym is) few

pub kept_levels : (left : Option LeftOut) → FewIn left → FewIn (side_kept left)
kept_levels None few = tt
kept_levels (Some side) few = side_levels side.is_inner side refl few

settled_by : (e : Event) (events : List Event) (b : Behind) → StandsStill e b events
    → (is_settled b.now ≡ true) ⊎ ((e.site.is_between ≡ true) × ((b.now.pending ≡ []) × HandsNone b.judged)) → e.ended ≡ None
    → is_settled b.now ≡ true
settled_by e events b still (inl settled) none = settled
settled_by e events b still (inr moment) none =
    let some : is_some e.ended ≡ true = still.ends moment.1.1 moment.0 moment.1.0 in
    let never : false ≡ true = sym (ap (λ (x : Option ℕ). is_some x) none) ∙ some in cc

goes_behind : (ended : Option ℕ) (e : Event) (events : List Event) (c : Conditions) (declared : ℕ) (now : Sides) → e.ended ≡ ended
    → Agree (judged_at e c).now now → StandsStill e (judged_at e c) events → Rests e.site.is_between declared (judged_at e c)
    → Goes events (ended_by ended (judged_at e c).now) (declared_behind ended declared) (sides_ended ended now)
goes_behind None e events c declared now is agree still r = record {
  agree = agree;
  settled = settled_by e events (judged_at e c) still r.settled is;
  seated = seated_by e events (judged_at e c) r.seated still r.quiet;
  levels = r.levels;
  same = r.declared;
}
goes_behind (Some names) e events c declared now is agree still r =
    let b : Behind = judged_at e c in
    let pieces = sides_are_judged.pieces names b.now now agree in
    record {
      agree = pieces.0;
      settled = pieces.1;
      seated = ended_seated events names b.now (seated_by e events b r.seated still r.quiet);
      levels = kept_levels b.now.left_out r.levels;
      same = refl;
    }

-- Lemmas about all tokens

goes_on : (events : List Event) (c : Conditions) (declared : ℕ) (s : Sides) → Goes events c declared s → AreRead events c
    → all_judged events c ≡ all_given events declared s
goes_on [] c declared s g read = refl
goes_on (e ∷ events) c declared s g read =
    let b : Behind = judged_at e c in
    let x : Step = step e.site.is_between c.declared e.out e.token s in
    let y : Step = step e.site.is_between declared e.out e.token s in
    let same : x ≡ y = ap (λ (d : ℕ). step e.site.is_between d e.out e.token s) g.same in
    let r : Rests e.site.is_between c.declared b = tokens_rest e.site e.out e.token c g.seated g.settled g.levels in
    let come : ComeToTheSame e.site.is_quiet e.token b x = sides_are_judged.tokens e.site e.out e.token c s g.agree g.settled g.levels in
    let agree : Agree b.now y.now = subst (λ (z : Step). Agree b.now z.now) same come.now in
    let given : given_of e.token b.judged ≡ heard e.site.is_quiet y.given =
    come.given ∙ ap (λ (z : Step). heard e.site.is_quiet z.given) same in
    let rest : Rests e.site.is_between declared b = subst (λ (d : ℕ). Rests e.site.is_between d b) g.same r in
    let on : Goes events (ended_by e.ended b.now) (declared_behind e.ended declared) (sides_ended e.ended y.now) =
    goes_behind e.ended e events c declared y.now refl agree read.0 rest in
    let behind : all_judged events (ended_by e.ended b.now)
    ≡ all_given events (declared_behind e.ended declared) (sides_ended e.ended y.now) =
    goes_on events (ended_by e.ended b.now) (declared_behind e.ended declared) (sides_ended e.ended y.now) on read.1 in
    ap (λ (first : List Given). first ∷ all_judged events (ended_by e.ended b.now)) given
    ∙ ap (λ (others : List (List Given)). heard e.site.is_quiet y.given ∷ others) behind

first_seated : (events : List Event) → SeatedFor events no_conditions
first_seated [] = tt
first_seated (e ∷ events) = tt

pub tokens_go_by_sides : TokensGoBySides
tokens_go_by_sides events read = goes_on events no_conditions 0 no_sides (record {
  agree = sides_are_judged.start;
  settled = refl;
  seated = first_seated events;
  levels = tt;
  same = refl;
}) read
