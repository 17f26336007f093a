-- Conditionals that lack their other end are reported as sides tell them.
use Rattle.std.proofs.Common.{◌≡◌, List, [], ◌∷◌, ◌++◌, map, reverse, Bool, true, false, Option, Some, None, refl, sym, ◌∙◌, ap}
use Rattle.std.proofs.lemmas.List.{map-append, reverse-append}
use Rattle.std.specs.Prelude.{if◌then◌else◌}
use Rattle.inf_sources.specs.declared.open_file.Conditional.{Conditional}
use Rattle.inf_unit.specs.Messages.{FileNames, Reported}
use Rattle.inf_conditionals.specs.{Ends.piece_told, Ends.with_all_lone, Ends.with_lone, Open.Conditions, declared.open.LeftOut.LeftOut}
use Rattle.inf_conditional_sides.specs.Sides.{Side, Sides, all_stay, at_end, only_between, outer_sides, side_of}
use Rattle.inf_conditional_sides.specs.Judged.{Agree, AllAre, IsLeftOut, LeftInside, StandFor, is_settled_by, open_sides}
use Rattle.inf_conditional_sides.specs.Ends.{EndsAreToldBySides, inner_only, piece_told_by, with_lone_sides}
use Rattle.inf_conditional_sides.proofs.Left.{left_at_end, open_stay, outer_stay}

-- Lemmas about the sides between the directives, at the end of a file

at_end_open : (inner among : List Conditional) → at_end (open_sides inner among) ≡ open_sides inner among
at_end_open [] [] = refl
at_end_open [] (x ∷ among) =
    ap (λ (b : Bool). if b then side_of false true x ∷ outer_sides among else at_end (outer_sides among)) (outer_stay among)
at_end_open (x ∷ inner) among =
    ap (λ (b : Bool). if b then side_of true true x ∷ open_sides inner among else at_end (open_sides inner among)) (open_stay inner among)

inside_end : (is_inner : Bool) (side : LeftOut) (x : Conditional) (inner among : List Conditional) (sides : List Side)
    → LeftInside is_inner side.levels x inner among sides → is_inner ≡ true → at_end sides ≡ open_sides (x ∷ inner) among
inside_end true side x inner among sides l is =
    ap at_end l.all ∙ left_at_end l.inside (open_sides inner among) true x (open_stay inner among)
inside_end false side x inner among sides l is = cc

at_end_by : (left_out : Option LeftOut) (inner among : List Conditional) (sides : List Side) → StandFor left_out inner among sides
    → is_settled_by left_out inner ≡ true → at_end sides ≡ open_sides inner among
at_end_by None inner among sides stand settled = ap at_end stand ∙ at_end_open inner among
at_end_by (Some side) [] [] sides stand settled = absurd stand
at_end_by (Some side) [] (x ∷ among) sides stand settled =
    let l : IsLeftOut false side.levels x (outer_sides among) sides = stand.1 in
    ap at_end l.all ∙ left_at_end l.inside (outer_sides among) false x (outer_stay among)
at_end_by (Some side) (x ∷ inner) among sides stand settled = inside_end side.is_inner side x inner among sides stand settled

pub between_of : (inner among : List Conditional) → only_between (open_sides inner among) ≡ outer_sides among
between_of [] [] = refl
between_of [] (x ∷ among) = refl
between_of (x ∷ inner) among = between_of inner among

-- Lemmas about the sides inside of the directive at hand, at its end

abbrev inner_sides : List Conditional → List Side
inner_sides inner = map (side_of true true) inner

inner_none : (among : List Conditional) → inner_only (outer_sides among) ≡ []
inner_none [] = refl
inner_none (x ∷ among) = inner_none among

inner_before : (inner : List Conditional) (sides : List Side) → inner_only sides ≡ []
    → inner_only (inner_sides inner ++ sides) ≡ inner_sides inner
inner_before [] sides none = none
inner_before (x ∷ inner) sides none = ap (λ (all : List Side). side_of true true x ∷ all) (inner_before inner sides none)

pub inner_of : (inner among : List Conditional) → inner_only (open_sides inner among) ≡ inner_sides inner
inner_of inner among = inner_before inner (outer_sides among) (inner_none among)

outer_passed : (inside sides : List Side) → AllAre false inside → inner_only (inside ++ sides) ≡ inner_only sides
outer_passed [] sides are = refl
outer_passed (y ∷ inside) sides are = ap (λ (b : Bool). if b then y ∷ inner_only (inside ++ sides) else inner_only (inside ++ sides)) are.0
    ∙ outer_passed inside sides are.1

inner_kept : (inside sides : List Side) → AllAre true inside → inner_only (inside ++ sides) ≡ inside ++ inner_only sides
inner_kept [] sides are = refl
inner_kept (y ∷ inside) sides are = ap (λ (b : Bool). if b then y ∷ inner_only (inside ++ sides) else inner_only (inside ++ sides)) are.0
    ∙ ap (λ (all : List Side). y ∷ all) (inner_kept inside sides are.1)

inner_stay : (inner : List Conditional) → all_stay (inner_sides inner) ≡ true
inner_stay [] = refl
inner_stay (x ∷ inner) = inner_stay inner

inner_end : (inner : List Conditional) → at_end (inner_sides inner) ≡ inner_sides inner
inner_end [] = refl
inner_end (x ∷ inner) =
    ap (λ (b : Bool). if b then side_of true true x ∷ inner_sides inner else at_end (inner_sides inner)) (inner_stay inner)

inside_told : (is_inner : Bool) (side : LeftOut) (x : Conditional) (inner among : List Conditional) (sides : List Side)
    → LeftInside is_inner side.levels x inner among sides → at_end (inner_only sides) ≡ inner_sides (x ∷ inner)
inside_told true side x inner among sides l = ap (λ (all : List Side). at_end (inner_only all)) l.all
    ∙ (ap at_end (inner_kept l.inside (side_of true false x ∷ open_sides inner among) l.are
    ∙ ap (λ (all : List Side). l.inside ++ side_of true false x ∷ all) (inner_of inner among))
    ∙ left_at_end l.inside (inner_sides inner) true x (inner_stay inner))
inside_told false side x inner among sides l = ap (λ (all : List Side). at_end (inner_only all)) l.all
    ∙ (ap at_end (inner_before (x ∷ inner) (side_of false false l.x ∷ outer_sides l.others) (inner_none l.others)) ∙ inner_end (x ∷ inner))

told_by : (left_out : Option LeftOut) (inner among : List Conditional) (sides : List Side) → StandFor left_out inner among sides
    → at_end (inner_only sides) ≡ inner_sides inner
told_by None inner among sides stand =
    ap (λ (all : List Side). at_end (inner_only all)) stand ∙ (ap at_end (inner_of inner among) ∙ inner_end inner)
told_by (Some side) [] [] sides stand = absurd stand
told_by (Some side) [] (x ∷ among) sides stand =
    let l : IsLeftOut false side.levels x (outer_sides among) sides = stand.1 in
    ap (λ (all : List Side). at_end (inner_only all)) l.all
    ∙ ap at_end (outer_passed l.inside (side_of false false x ∷ outer_sides among) l.are ∙ inner_none among)
told_by (Some side) (x ∷ inner) among sides stand = inside_told side.is_inner side x inner among sides stand

-- Lemmas about messages

reversed : (f : Conditional → Side) (cs : List Conditional) → reverse (map f cs) ≡ map f (reverse cs)
reversed f [] = refl
reversed f (x ∷ cs) = reverse-append (f x ∷ []) (map f cs) ∙ (ap (λ (sides : List Side). sides ++ f x ∷ []) (reversed f cs)
    ∙ (sym (map-append f (reverse cs) (x ∷ [])) ∙ ap (map f) (sym (reverse-append (x ∷ []) cs))))

all_lone : (is_inner : Bool) (files : FileNames) (cs : List Conditional) (r : Reported)
    → with_all_lone files cs r ≡ with_lone_sides files (map (side_of is_inner true) cs) r
all_lone is_inner files [] r = refl
all_lone is_inner files (x ∷ cs) r = all_lone is_inner files cs (with_lone files x.place r)

told_of : (is_inner : Bool) (files : FileNames) (cs : List Conditional) (sides : List Side) (r : Reported)
    → sides ≡ map (side_of is_inner true) cs → with_all_lone files (reverse cs) r ≡ with_lone_sides files (reverse sides) r
told_of is_inner files cs sides r e = all_lone is_inner files (reverse cs) r
    ∙ ap (λ (all : List Side). with_lone_sides files all r) (sym (ap reverse e ∙ reversed (side_of is_inner true) cs))

of_directives : (files : FileNames) (c : Conditions) (s : Sides) (r : Reported) → Agree c s → piece_told files c r ≡ piece_told_by files s r
of_directives files c s r a =
    told_of true files c.inner (at_end (inner_only s.sides)) r (told_by c.left_out c.inner c.among s.sides a.sides)

pub ends_are_told_by_sides : EndsAreToldBySides
ends_are_told_by_sides = record {
  of_directives = of_directives;
  of_files = λ files c s r a settled. told_of false files c.among (only_between (at_end s.sides)) (piece_told files c r)
      (ap only_between (at_end_by c.left_out c.inner c.among s.sides a.sides settled) ∙ between_of c.inner c.among)
      ∙ ap (with_lone_sides files (reverse (only_between (at_end s.sides)))) (of_directives files c s r a);
}
