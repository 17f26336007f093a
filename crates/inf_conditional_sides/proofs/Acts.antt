-- Conditionals and sides where all sides stay, and the effects of a whole directive on both.
use Rattle.std.proofs.Common.{◌≡◌, List, [], ◌∷◌, ◌++◌, map, Bool, true, false, not, Some, None, refl, ap, if◌then◌else◌}
use Rattle.inf_scanner.specs.declared.tokens.Place.{Place}
use Rattle.inf_sources.specs.declared.open_file.Conditional.{Conditional}
use Rattle.inf_unit.specs.Tokens.{SourceToken}
use Rattle.inf_conditionals.specs.{Condition.Condition, Open.Conditions, declared.filtered.Filtered.Filtered}
use Rattle.inf_conditionals.specs.{declared.pending.Awaits.Awaits, declared.pending.Effect.Effect, declared.pending.Pending.Pending}
use Rattle.inf_conditionals.specs.Judging.{effected, none_handed, unfit as unfit_judged}
use Rattle.inf_conditional_sides.specs.Sides.{Ends, Kept, Lone, Side, Sides, Text, Unfit, closes, heard, opens, outer_sides, side_of, turns}
use Rattle.inf_conditional_sides.specs.Sides.{unfit, with_side}
use Rattle.inf_conditional_sides.specs.Judged.{Agree, AreFronts, ComeToTheSame, conditions_of, given_of, open_sides, pendings}

-- Lemmas about conditionals and sides where all stay

abbrev pub state : Conditions → List Conditional → List Conditional → List Pending → List Condition → Conditions
state c inner among pending conditions = record c {
  among = among;
  inner = inner;
  pending = pending;
  conditions = conditions;
  left_out = None;
  sign = None;
}

abbrev pub reading : Conditions → List Conditional → List Conditional → List Text → Conditions
reading c inner among texts = state c inner among (pendings texts) (conditions_of texts)

abbrev pub staying : List Conditional → List Conditional → List Text → Sides
staying inner among texts = record { sides = open_sides inner among; texts = texts; sign = None }

pub agree : (c : Conditions) (inner among : List Conditional) (texts : List Text) → AreFronts texts
    → Agree (reading c inner among texts) (staying inner among texts)
agree c inner among texts fronts = record { pending = refl; conditions = refl; sign = refl; sides = refl; fronts = fronts }

-- Lemmas about the things that are given of a token

pub none_heard : (is_quiet : Bool) → [] ≡ heard is_quiet []
none_heard true = refl
none_heard false = refl

pub kept_heard : (is_quiet : Bool) (t : SourceToken) → Kept t ∷ [] ≡ heard is_quiet (Kept t ∷ [])
kept_heard true t = refl
kept_heard false t = refl

pub unfit_heard : (is_quiet : Bool) (t : SourceToken) → Unfit t ∷ [] ≡ heard is_quiet (Unfit t ∷ [])
unfit_heard true t = refl
unfit_heard false t = refl

pub both_heard : (is_quiet : Bool) (a b : SourceToken) → Kept a ∷ Kept b ∷ [] ≡ heard is_quiet (Kept a ∷ Kept b ∷ [])
both_heard true a b = refl
both_heard false a b = refl

abbrev ended_at : Bool → Place → Filtered
ended_at is_quiet place = record none_handed { ended = if is_quiet then None else Some place }

pub end_heard : (is_quiet : Bool) (t : SourceToken) (place : Place)
    → given_of t (ended_at is_quiet place) ≡ heard is_quiet (Ends place ∷ [])
end_heard true t place = refl
end_heard false t place = refl

lone_heard : (is_quiet : Bool) (t : SourceToken) (place : Place)
    → given_of t (record (ended_at is_quiet place) { unmatched = if is_quiet then None else Some place })
    ≡ heard is_quiet (Lone place ∷ Ends place ∷ [])
lone_heard true t place = refl
lone_heard false t place = refl

-- Lemmas about a token that does not fit

pub unfit_same : (is_quiet : Bool) (t : SourceToken) (c : Conditions) (inner among : List Conditional) (pending : List Pending)
    (conditions : List Condition) (texts : List Text)
    → ComeToTheSame is_quiet t (unfit_judged (state c inner among pending conditions)) (unfit t (staying inner among texts))
unfit_same is_quiet t c inner among pending conditions texts =
    record { now = agree c inner among [] tt; given = unfit_heard is_quiet t }

-- Lemmas about the effects of a whole directive

inner_first : (place : Place) (is_second stays : Bool) (sides : List Side)
    → let x : Side = record { place = place; is_inner = true; is_second = is_second; stays = stays } in with_side x sides ≡ x ∷ sides
inner_first place is_second stays [] = refl
inner_first place is_second stays (y ∷ sides) = refl

behind_inner : (place : Place) (is_second stays : Bool) (inner among : List Conditional)
    → let x : Side = record { place = place; is_inner = false; is_second = is_second; stays = stays } in
    with_side x (open_sides inner among) ≡ map (side_of true true) inner ++ x ∷ outer_sides among
behind_inner place is_second stays [] [] = refl
behind_inner place is_second stays [] (y ∷ among) = refl
behind_inner place is_second stays (y ∷ inner) among =
    ap (λ sides. side_of true true y ∷ sides) (behind_inner place is_second stays inner among)

pub opened_same : (is_quiet : Bool) (t : SourceToken) (place : Place) (a : Awaits) (is_inner stays : Bool) (c : Conditions)
    (inner among : List Conditional) (texts : List Text) → AreFronts texts
    → ComeToTheSame is_quiet t
    (effected (Effect.Opens stays) is_quiet (record { place = place; is_inner = is_inner; awaits = a }) (reading c inner among texts))
    (opens place is_inner stays (staying inner among texts))
opened_same is_quiet t place a true true c inner among texts fronts = record {
  now = record {
    pending = refl;
    conditions = refl;
    sign = refl;
    sides = inner_first place false true (open_sides inner among);
    fronts = fronts;
  };
  given = end_heard is_quiet t place;
}
opened_same is_quiet t place a true false c inner among texts fronts = record {
  now = record {
    pending = refl;
    conditions = refl;
    sign = refl;
    sides = record { inside = []; are = tt; count = refl; all = inner_first place false false (open_sides inner among) };
    fronts = fronts;
  };
  given = end_heard is_quiet t place;
}
opened_same is_quiet t place a false true c inner among texts fronts = record {
  now = record { pending = refl; conditions = refl; sign = refl; sides = behind_inner place false true inner among; fronts = fronts };
  given = end_heard is_quiet t place;
}
opened_same is_quiet t place a false false c [] among texts fronts = record {
  now = record {
    pending = refl;
    conditions = refl;
    sign = refl;
    sides = (refl, record { inside = []; are = tt; count = refl; all = behind_inner place false false [] among });
    fronts = fronts;
  };
  given = end_heard is_quiet t place;
}
opened_same is_quiet t place a false false c (y ∷ inner) among texts fronts = record {
  now = record {
    pending = refl;
    conditions = refl;
    sign = refl;
    sides = record {
      x = record { place = place; is_second = false };
      others = among;
      are = refl;
      none = refl;
      all = behind_inner place false false (y ∷ inner) among;
    };
    fronts = fronts;
  };
  given = end_heard is_quiet t place;
}

-- the latest conditional, by the place where it begins and whether it is in its second side
abbrev pub conditional : Place → Bool → Conditional
conditional place is_second = record { place = place; is_second = is_second }

abbrev pub turning_pending : Place → Bool → Pending
turning_pending place is_inner = record { place = place; is_inner = is_inner; awaits = Awaits.End Effect.Turns }

abbrev TurnsSame : Bool → SourceToken → Place → Bool → Conditions → List Conditional → List Conditional → List Text → Type 0
TurnsSame is_quiet t place is_inner c inner among texts =
    ComeToTheSame is_quiet t (effected Effect.Turns is_quiet (turning_pending place is_inner) (reading c inner among texts))
    (turns place (staying inner among texts))

turned_outer : (is_quiet : Bool) (t : SourceToken) (place at : Place) (is_inner is_second : Bool) (c : Conditions)
    (among : List Conditional)
    (texts : List Text) → AreFronts texts → TurnsSame is_quiet t place is_inner c [] (conditional at is_second ∷ among) texts
turned_outer is_quiet t place at is_inner true c among texts fronts =
    record { now = agree c [] (conditional at true ∷ among) texts fronts; given = lone_heard is_quiet t place }
turned_outer is_quiet t place at is_inner false c among texts fronts = record {
  now = record {
    pending = refl;
    conditions = refl;
    sign = refl;
    sides = (refl, record { inside = []; are = tt; count = refl; all = refl });
    fronts = fronts;
  };
  given = end_heard is_quiet t place;
}

turned_inner : (is_quiet : Bool) (t : SourceToken) (place at : Place) (is_inner is_second : Bool) (c : Conditions)
    (inner among : List Conditional) (texts : List Text) → AreFronts texts
    → TurnsSame is_quiet t place is_inner c (conditional at is_second ∷ inner) among texts
turned_inner is_quiet t place at is_inner true c inner among texts fronts =
    record { now = agree c (conditional at true ∷ inner) among texts fronts; given = lone_heard is_quiet t place }
turned_inner is_quiet t place at is_inner false c inner among texts fronts = record {
  now = record {
    pending = refl;
    conditions = refl;
    sign = refl;
    sides = record { inside = []; are = tt; count = refl; all = refl };
    fronts = fronts;
  };
  given = end_heard is_quiet t place;
}

pub turned_same : (is_quiet : Bool) (t : SourceToken) (place : Place) (is_inner : Bool) (c : Conditions) (inner among : List Conditional)
    (texts : List Text) → AreFronts texts → TurnsSame is_quiet t place is_inner c inner among texts
turned_same is_quiet t place is_inner c [] [] texts fronts =
    record { now = agree c [] [] texts fronts; given = lone_heard is_quiet t place }
turned_same is_quiet t place is_inner c [] (x ∷ among) texts fronts =
    turned_outer is_quiet t place x.place is_inner x.is_second c among texts fronts
turned_same is_quiet t place is_inner c (x ∷ inner) among texts fronts =
    turned_inner is_quiet t place x.place is_inner x.is_second c inner among texts fronts

pub closed_same : (is_quiet : Bool) (t : SourceToken) (place : Place) (is_inner : Bool) (c : Conditions) (inner among : List Conditional)
    (texts : List Text) → AreFronts texts
    → ComeToTheSame is_quiet t
    (effected Effect.Closes is_quiet (record { place = place; is_inner = is_inner; awaits = Awaits.End Effect.Closes })
    (reading c inner among texts)) (closes place (staying inner among texts))
closed_same is_quiet t place is_inner c [] [] texts fronts =
    record { now = agree c [] [] texts fronts; given = lone_heard is_quiet t place }
closed_same is_quiet t place is_inner c [] (x ∷ among) texts fronts =
    record { now = agree c [] among texts fronts; given = end_heard is_quiet t place }
closed_same is_quiet t place is_inner c (x ∷ inner) among texts fronts =
    record { now = agree c inner among texts fronts; given = end_heard is_quiet t place }
