-- Conditionals and sides give the same result by any token, and at the end of a piece.
use Rattle.std.proofs.Common.{◌≡◌, ℕ, ◌≤◌, List, [], ◌∷◌, ◌++◌, length, map, Bool, true, false, Option, Some, None, refl, sym, ◌∙◌, ap}
use Rattle.std.proofs.Common.{subst, ◌&&◌, if◌then◌else◌}
use Rattle.inf_scanner.specs.declared.tokens.Place.{Place}
use Rattle.inf_output.specs.Output.{Out}
use Rattle.inf_sources.specs.declared.open_file.Conditional.{Conditional}
use Rattle.inf_unit.specs.Tokens.{SourceToken, is_end, keyword}
use Rattle.inf_conditionals.specs.{Ends.side_kept, Open.Conditions, Open.most_levels, Words.word_of, declared.filtered.Site.Site}
use Rattle.inf_conditionals.specs.{declared.open.LeftOut.LeftOut, declared.words.ConditionalWord.ConditionalWord}
use Rattle.inf_conditionals.specs.Judging.{judged, judged_by, offered as offered_judged, passed, passed_by}
use Rattle.inf_conditional_sides.specs.Sides.{Side, Sides, Text, all_stay, at_end, giving, kept_step, left_step, offered, only_between}
use Rattle.inf_conditional_sides.specs.Sides.{outer_sides, passed_over, side_of, step}
use Rattle.inf_conditional_sides.specs.Judged.{Agree, AllAre, AreFronts, ComeToTheSame, FewIn, IsLeftOut, SidesAreJudged, StandFor}
use Rattle.inf_conditional_sides.specs.Judged.{conditions_of, is_settled, is_settled_by, open_sides, pendings}
use Rattle.inf_conditional_sides.proofs.{Acts.none_heard, Acts.reading, Kept.offered_same, Signed.behind_sign_same}
use Rattle.inf_conditional_sides.proofs.Left.{inner_words, leaving, left_at_end, one_left, open_stay, outer_stay, outer_words, side_at}
use Rattle.inf_conditional_sides.proofs.Left.{sided}

-- Lemmas for the case that all sides stay

abbrev signed : Conditions → List Conditional → List Conditional → List Text → Option Place → Conditions
signed c inner among texts sign = record (reading c inner among texts) { sign = sign }

kept_same : (sign : Option Place) (site : Site) (o : Out) (t : SourceToken) (c : Conditions) (inner among : List Conditional)
    (texts : List Text) → AreFronts texts
    → ComeToTheSame site.is_quiet t (judged_by None sign site o t (signed c inner among texts sign))
    (kept_step sign site.is_between c.declared o t (sided (open_sides inner among) texts sign))
kept_same None site o t c inner among [] fronts = offered_same (site.is_between && true) site o t c inner among [] fronts
kept_same None site o t c inner among (x ∷ texts) fronts = offered_same (site.is_between && false) site o t c inner among (x ∷ texts) fronts
kept_same (Some place) site o t c inner among texts fronts =
    behind_sign_same (word_of (keyword t)) site o t place c inner among texts fronts

all_kept : (site : Site) (o : Out) (t : SourceToken) (c : Conditions) (inner among : List Conditional) (texts : List Text)
    (sign : Option Place) (sides : List Side) → AreFronts texts → sides ≡ open_sides inner among
    → ComeToTheSame site.is_quiet t (judged site o t (signed c inner among texts sign))
    (step site.is_between c.declared o t (sided sides texts sign))
all_kept site o t c inner among texts sign sides fronts are =
    let now = judged site o t (signed c inner among texts sign) in
    let all = sided (open_sides inner among) texts sign in
    subst (λ x. ComeToTheSame site.is_quiet t now (step site.is_between c.declared o t (sided x texts sign))) (sym are)
    (subst (λ b. ComeToTheSame site.is_quiet t now
    (if b then kept_step sign site.is_between c.declared o t all else left_step c.declared o t all)) (sym (open_stay inner among))
    (kept_same sign site o t c inner among texts fronts))

-- Lemmas for the case that a side is left out

-- A token that is no word leaves the sides as they are; a word acts on both alike.
abbrev PassesAgree : SourceToken → Conditions → List Conditional → List Conditional → List Text → Option Place → LeftOut → List Side
    → Option ConditionalWord → Type 0
PassesAgree t c inner among texts sign side sides w =
    Agree (passed_by w t side (leaving c inner among texts sign side)) (passed_over w t (sided sides texts sign))

outer_passes : (w : Option ConditionalWord) (t : SourceToken) (c : Conditions) (x : Conditional) (among : List Conditional)
    (texts : List Text) (sign : Option Place) (levels : ℕ) (inside : List Side) → AreFronts texts → AllAre false inside
    → length inside ≡ levels → levels ≤ most_levels
    → PassesAgree t c [] (x ∷ among) texts sign (side_at false levels) (inside ++ side_of false false x ∷ outer_sides among) w
outer_passes None t c x among texts sign levels inside fronts are count few = record {
  pending = refl;
  conditions = refl;
  sign = refl;
  sides = (refl, record { inside = inside; are = are; count = count; all = refl });
  fronts = fronts;
}
outer_passes (Some w) t c x among texts sign levels inside fronts are count few =
    outer_words inside w t.place c x among texts sign levels fronts are count few

inner_passes : (w : Option ConditionalWord) (t : SourceToken) (c : Conditions) (x : Conditional) (inner among : List Conditional)
    (texts : List Text) (sign : Option Place) (levels : ℕ) (inside : List Side) → AreFronts texts → AllAre true inside
    → length inside ≡ levels → levels ≤ most_levels
    → PassesAgree t c (x ∷ inner) among texts sign (side_at true levels) (inside ++ side_of true false x ∷ open_sides inner among) w
inner_passes None t c x inner among texts sign levels inside fronts are count few = record {
  pending = refl;
  conditions = refl;
  sign = refl;
  sides = record { inside = inside; are = are; count = count; all = refl };
  fronts = fronts;
}
inner_passes (Some w) t c x inner among texts sign levels inside fronts are count few =
    inner_words inside w t.place c x inner among texts sign levels fronts are count few

-- The end of the file is read where all stay again, and any other token is passed over.
left_same : (is_end : Bool) (site : Site) (o : Out) (t : SourceToken) (c : Conditions) (inner among : List Conditional) (texts : List Text)
    (sign : Option Place) (side : LeftOut) (sides : List Side) → AreFronts texts → at_end sides ≡ open_sides inner among
    → PassesAgree t c inner among texts sign side sides (word_of (keyword t))
    → let before = leaving c inner among texts sign side in
    let s = sided sides texts sign in
    ComeToTheSame site.is_quiet t
    (if is_end then offered_judged false site o t (record before { left_out = None; sign = None })
    else passed (passed_by (word_of (keyword t)) t side before))
    (if is_end then offered false c.declared o t (record s { sides = at_end sides; sign = None })
    else giving (passed_over (word_of (keyword t)) t s) [])
left_same true site o t c inner among texts sign side sides fronts ends passes =
    subst (λ x. ComeToTheSame site.is_quiet t (offered_judged false site o t (reading c inner among texts))
    (offered false c.declared o t (sided x texts None))) (sym ends) (offered_same false site o t c inner among texts fronts)
left_same false site o t c inner among texts sign side sides fronts ends passes =
    record { now = passes; given = none_heard site.is_quiet }

left_stepped : (site : Site) (o : Out) (t : SourceToken) (c : Conditions) (inner among : List Conditional) (texts : List Text)
    (sign : Option Place) (side : LeftOut) (sides : List Side) → AreFronts texts → all_stay sides ≡ false
    → at_end sides ≡ open_sides inner among → PassesAgree t c inner among texts sign side sides (word_of (keyword t))
    → ComeToTheSame site.is_quiet t (judged site o t (leaving c inner among texts sign side))
    (step site.is_between c.declared o t (sided sides texts sign))
left_stepped site o t c inner among texts sign side sides fronts not_all ends passes =
    let s = sided sides texts sign in
    subst (λ b. ComeToTheSame site.is_quiet t (judged site o t (leaving c inner among texts sign side))
    (if b then kept_step sign site.is_between c.declared o t s else left_step c.declared o t s)) (sym not_all)
    (left_same (is_end t.kind) site o t c inner among texts sign side sides fronts ends passes)

outer_left : (site : Site) (o : Out) (t : SourceToken) (c : Conditions) (x : Conditional) (among : List Conditional) (texts : List Text)
    (sign : Option Place) (levels : ℕ) (sides : List Side) → AreFronts texts → levels ≤ most_levels
    → IsLeftOut false levels x (outer_sides among) sides
    → ComeToTheSame site.is_quiet t (judged site o t (leaving c [] (x ∷ among) texts sign (side_at false levels)))
    (step site.is_between c.declared o t (sided sides texts sign))
outer_left site o t c x among texts sign levels sides fronts few l =
    let around = outer_sides among in
    subst (λ all. ComeToTheSame site.is_quiet t (judged site o t (leaving c [] (x ∷ among) texts sign (side_at false levels)))
    (step site.is_between c.declared o t (sided all texts sign))) (sym l.all)
    (left_stepped site o t c [] (x ∷ among) texts sign (side_at false levels) (l.inside ++ side_of false false x ∷ around) fronts
    (one_left l.inside around false x) (left_at_end l.inside around false x (outer_stay among))
    (outer_passes (word_of (keyword t)) t c x among texts sign levels l.inside fronts l.are l.count few))

inner_left : (site : Site) (o : Out) (t : SourceToken) (c : Conditions) (x : Conditional) (inner among : List Conditional)
    (texts : List Text) (sign : Option Place) (levels : ℕ) (sides : List Side) → AreFronts texts → levels ≤ most_levels
    → IsLeftOut true levels x (open_sides inner among) sides
    → ComeToTheSame site.is_quiet t (judged site o t (leaving c (x ∷ inner) among texts sign (side_at true levels)))
    (step site.is_between c.declared o t (sided sides texts sign))
inner_left site o t c x inner among texts sign levels sides fronts few l =
    let around = open_sides inner among in
    subst (λ all. ComeToTheSame site.is_quiet t (judged site o t (leaving c (x ∷ inner) among texts sign (side_at true levels)))
    (step site.is_between c.declared o t (sided all texts sign))) (sym l.all)
    (left_stepped site o t c (x ∷ inner) among texts sign (side_at true levels) (l.inside ++ side_of true false x ∷ around) fronts
    (one_left l.inside around true x) (left_at_end l.inside around true x (open_stay inner among))
    (inner_passes (word_of (keyword t)) t c x inner among texts sign levels l.inside fronts l.are l.count few))

-- Lemmas about any token

abbrev pub stated : Conditions → Option LeftOut → List Conditional → List Conditional → List Text → Option Place → Conditions
stated c left inner among texts sign = record c {
  among = among;
  inner = inner;
  pending = pendings texts;
  conditions = conditions_of texts;
  left_out = left;
  sign = sign;
}

inside_left : (is_inner : Bool) (site : Site) (o : Out) (t : SourceToken) (c : Conditions) (x : Conditional)
    (inner among : List Conditional)
    (texts : List Text) (sign : Option Place) (levels : ℕ) (sides : List Side) → AreFronts texts
    → StandFor (Some (side_at is_inner levels)) (x ∷ inner) among sides → is_inner ≡ true → levels ≤ most_levels
    → ComeToTheSame site.is_quiet t (judged site o t (leaving c (x ∷ inner) among texts sign (side_at is_inner levels)))
    (step site.is_between c.declared o t (sided sides texts sign))
inside_left true site o t c x inner among texts sign levels sides fronts stand settled few =
    inner_left site o t c x inner among texts sign levels sides fronts few stand
inside_left false site o t c x inner among texts sign levels sides fronts stand settled few = cc

by_state : (left : Option LeftOut) (inner among : List Conditional) (site : Site) (o : Out) (t : SourceToken) (c : Conditions)
    (texts : List Text) (sign : Option Place) (sides : List Side) → AreFronts texts → StandFor left inner among sides
    → is_settled_by left inner ≡ true → FewIn left
    → ComeToTheSame site.is_quiet t (judged site o t (stated c left inner among texts sign))
    (step site.is_between c.declared o t (sided sides texts sign))
by_state None inner among site o t c texts sign sides fronts stand settled few =
    all_kept site o t c inner among texts sign sides fronts stand
by_state (Some side) [] [] site o t c texts sign sides fronts stand settled few = absurd stand
by_state (Some side) [] (x ∷ among) site o t c texts sign sides fronts stand settled few =
    subst (λ b. ComeToTheSame site.is_quiet t (judged site o t (leaving c [] (x ∷ among) texts sign (side_at b side.levels)))
    (step site.is_between c.declared o t (sided sides texts sign))) (sym stand.0)
    (outer_left site o t c x among texts sign side.levels sides fronts few stand.1)
by_state (Some side) (x ∷ inner) among site o t c texts sign sides fronts stand settled few =
    inside_left side.is_inner site o t c x inner among texts sign side.levels sides fronts stand settled few

tokens_same : (site : Site) (o : Out) (t : SourceToken) (c : Conditions) (s : Sides) → Agree c s → is_settled c ≡ true → FewIn c.left_out
    → ComeToTheSame site.is_quiet t (judged site o t c) (step site.is_between c.declared o t s)
tokens_same site o t c s a settled few =
    let same : stated c c.left_out c.inner c.among s.texts s.sign ≡ c =
    ap (λ pending. record c { pending = pending; conditions = conditions_of s.texts; sign = s.sign }) (sym a.pending)
    ∙ (ap (λ conditions. record c { conditions = conditions; sign = s.sign }) (sym a.conditions)
    ∙ ap (λ sign. record c { sign = sign }) (sym a.sign)) in
    subst (λ x. ComeToTheSame site.is_quiet t (judged site o t x) (step site.is_between c.declared o t s)) same
    (by_state c.left_out c.inner c.among site o t c s.texts s.sign s.sides a.fronts a.sides settled few)

-- Lemmas about the end of a piece

outer_only : (among : List Conditional) → only_between (outer_sides among) ≡ outer_sides among
outer_only [] = refl
outer_only (x ∷ among) = refl

inner_over : (inner : List Conditional) (sides : List Side) → only_between (map (side_of true true) inner ++ sides) ≡ only_between sides
inner_over [] sides = refl
inner_over (x ∷ inner) sides = inner_over inner sides

all_over : (inside sides : List Side) → AllAre true inside → only_between (inside ++ sides) ≡ only_between sides
all_over [] sides are = refl
all_over (y ∷ inside) sides are =
    ap (λ b. if b then only_between (inside ++ sides) else y ∷ (inside ++ sides)) are.0 ∙ all_over inside sides are.1

none_over : (inside around : List Side) (x : Conditional) → AllAre false inside
    → only_between (inside ++ side_of false false x ∷ around) ≡ inside ++ side_of false false x ∷ around
none_over [] around x are = refl
none_over (y ∷ inside) around x are =
    ap (λ b. if b then only_between (inside ++ side_of false false x ∷ around) else y ∷ (inside ++ side_of false false x ∷ around)) are.0

inside_over : (is_inner : Bool) (levels : ℕ) (x : Conditional) (inner among : List Conditional) (sides : List Side)
    → StandFor (Some (side_at is_inner levels)) (x ∷ inner) among sides
    → StandFor (side_kept (Some (side_at is_inner levels))) [] among (only_between sides)
inside_over true levels x inner among sides l = ap only_between l.all
    ∙ (all_over l.inside (side_of true false x ∷ open_sides inner among) l.are ∙ (inner_over inner (outer_sides among) ∙ outer_only among))
inside_over false levels x inner among sides l =
    let now : only_between sides ≡ side_of false false l.x ∷ outer_sides l.others =
    ap only_between l.all ∙ inner_over (x ∷ inner) (side_of false false l.x ∷ outer_sides l.others) in
    subst (λ all. StandFor (Some (side_at false levels)) [] all (only_between sides)) (sym l.are)
    (refl, record { inside = []; are = tt; count = sym l.none; all = now })

pieces_stand : (left : Option LeftOut) (inner among : List Conditional) (sides : List Side) → StandFor left inner among sides
    → StandFor (side_kept left) [] among (only_between sides)
pieces_stand None inner among sides stand = ap only_between stand ∙ (inner_over inner (outer_sides among) ∙ outer_only among)
pieces_stand (Some side) [] [] sides stand = absurd stand
pieces_stand (Some side) [] (x ∷ among) sides stand =
    let l = stand.1 in
    let around = outer_sides among in
    subst (λ b. StandFor (if b then None else Some side) [] (x ∷ among) (only_between sides)) (sym stand.0) (
      stand.0,
      record { inside = l.inside; are = l.are; count = l.count; all = ap only_between l.all ∙ none_over l.inside around x l.are },
    )
pieces_stand (Some side) (x ∷ inner) among sides stand = inside_over side.is_inner side.levels x inner among sides stand

none_inner : (left : Option LeftOut) → is_settled_by left [] ≡ true
none_inner None = refl
none_inner (Some side) = refl

pub sides_are_judged : SidesAreJudged
sides_are_judged = record {
  start = record { pending = refl; conditions = refl; sign = refl; sides = refl; fronts = tt };
  tokens = tokens_same;
  pieces = λ declared c s a. (
    record {
      pending = a.pending;
      conditions = a.conditions;
      sign = a.sign;
      sides = pieces_stand c.left_out c.inner c.among s.sides a.sides;
      fronts = a.fronts;
    },
    none_inner (side_kept c.left_out),
  );
}
