-- Where a side is left out, a token has the same result for conditionals and for sides; and so has the end of a piece.
use Rattle.std.proofs.Common.{◌≡◌, ℕ, suc, ◌+◌, ◌-◌, ◌<◌, ◌≤◌, List, [], ◌∷◌, ◌++◌, length, Bool, true, false, not, ◌&&◌, Option, Some}
use Rattle.std.proofs.Common.{None, refl, ◌∙◌, ap, arith, subst, sym, ◌==◌, if◌then◌else◌, min, nat_lt, unwrap_or}
use Rattle.std.proofs.{Math.Nat.min-eq_left, Math.Nat.min-eq_right, lemmas.Bool.ltb-false, lemmas.Bool.ltb-true, lemmas.Bool.ne_eqb}
use Rattle.inf_scanner.specs.declared.tokens.Place.{Place}
use Rattle.inf_sources.specs.declared.open_file.Conditional.{Conditional}
use Rattle.inf_conditionals.specs.{declared.open.LeftOut.LeftOut, declared.pending.Awaits.Awaits, declared.pending.Effect.Effect}
use Rattle.inf_conditionals.specs.{declared.words.ConditionalWord.ConditionalWord}
use Rattle.inf_conditionals.specs.Judging.{awaiting, word_passed as word_judged}
use Rattle.inf_conditionals.specs.Open.{Conditions, ended_by, ends_at, is_second, latest, levels_behind, most_levels}
use Rattle.inf_conditional_sides.specs.Sides.{Ended, Side, Sides, Text, all_stay, at_end, count_inside, most_inside, outer_sides, side_of}
use Rattle.inf_conditional_sides.specs.Sides.{sides_behind, turned_over, with_inside, word_passed}
use Rattle.inf_conditional_sides.specs.Judged.{Agree, AllAre, AreFronts, IsLeftOut, StandFor, conditions_of, open_sides, pendings}
use Rattle.inf_conditional_sides.proofs.Acts.{reading}

-- Lemmas about sides that stay, and sides of which one does not

pub outer_stay : (among : List Conditional) → all_stay (outer_sides among) ≡ true
outer_stay [] = refl
outer_stay (x ∷ among) = outer_stay among

pub open_stay : (inner among : List Conditional) → all_stay (open_sides inner among) ≡ true
open_stay [] among = outer_stay among
open_stay (x ∷ inner) among = open_stay inner among

and_false : (b : Bool) → (b && false) ≡ false
and_false true = refl
and_false false = refl

pub one_left : (inside around : List Side) (is_inner : Bool) (x : Conditional)
    → all_stay (inside ++ side_of is_inner false x ∷ around) ≡ false
one_left [] around is_inner x = refl
one_left (y ∷ inside) around is_inner x = ap (λ b. y.stays && b) (one_left inside around is_inner x) ∙ and_false y.stays

-- At the end of a file the sides inside of one that was left out belong to no conditionals of the file.
pub left_at_end : (inside around : List Side) (is_inner : Bool) (x : Conditional) → all_stay around ≡ true
    → at_end (inside ++ side_of is_inner false x ∷ around) ≡ side_of is_inner true x ∷ around
left_at_end [] around is_inner x stay = ap (λ b. if b then side_of is_inner true x ∷ around else at_end around) stay
left_at_end (y ∷ inside) around is_inner x stay =
    ap (λ b. if b then record y { stays = true } ∷ (inside ++ side_of is_inner false x ∷ around)
    else at_end (inside ++ side_of is_inner false x ∷ around)) (one_left inside around is_inner x)
    ∙ left_at_end inside around is_inner x stay

-- Lemmas about words in a side that is left out, in which others are open

same_inner : (is_second : Bool) (x : Side)
    → (if is_second then x else record x { is_second = true; stays = not x.stays }).is_inner ≡ x.is_inner
same_inner true x = refl
same_inner false x = refl

turned_inner : (x : Side) → (turned_over x).is_inner ≡ x.is_inner
turned_inner x = same_inner x.is_second x

not_zero : (xs : List Side) (x : Side) (levels : ℕ) → length (x ∷ xs) ≡ levels → (levels == 0) ≡ false
not_zero xs x levels count = ne_eqb levels 0 (λ zero. omega (arith, count, zero))

-- the number of sides inside of the one that is left out
inside_of : (inside around : List Side) (is_inner : Bool) (x : Conditional) → all_stay around ≡ true
    → count_inside (inside ++ side_of is_inner false x ∷ around) ≡ length inside
inside_of [] around is_inner x stay = ap (λ b. if b then 0 else suc (count_inside around)) stay
inside_of (y ∷ inside) around is_inner x stay =
    ap (λ b. if b then 0 else suc (count_inside (inside ++ side_of is_inner false x ∷ around))) (one_left inside around is_inner x)
    ∙ ap suc (inside_of inside around is_inner x stay)

-- One side more is open there, or as many as may be.
one_by : (y : Side) (inside : List Side) (place : Place) (is_inner : Bool) (x : Conditional) (around : List Side) (levels : ℕ)
    → AllAre is_inner (y ∷ inside) → length (y ∷ inside) ≡ levels → levels ≤ most_levels → (is_few : Bool)
    → nat_lt levels most_levels ≡ is_few
    → let sides = (y ∷ inside) ++ side_of is_inner false x ∷ around in
    IsLeftOut is_inner (min (levels + 1) most_levels) x around
    (if is_few then record { place = place; is_inner = y.is_inner; is_second = false; stays = true } ∷ sides else sides)
one_by y inside place is_inner x around levels are count few true free =
    let fewer : levels < most_levels = ltb-true levels most_levels free in
    let less : min (levels + 1) most_levels ≡ levels + 1 = min-eq_left (omega (arith, fewer)) in
    record {
      inside = record { place = place; is_inner = y.is_inner; is_second = false; stays = true } ∷ y ∷ inside;
      are = (are.0, are);
      count = omega (arith, count, less);
      all = refl;
    }
one_by y inside place is_inner x around levels are count few false full =
    let most : most_levels ≤ levels = ltb-false levels most_levels full in
    let less : min (levels + 1) most_levels ≡ most_levels = min-eq_right (omega (arith, most)) in
    record { inside = y ∷ inside; are = are; count = omega (arith, count, less, most, few); all = refl }

one_deeper : (y : Side) (inside : List Side) (place : Place) (is_inner : Bool) (x : Conditional) (around : List Side) (levels : ℕ)
    → all_stay around ≡ true → AllAre is_inner (y ∷ inside) → length (y ∷ inside) ≡ levels → levels ≤ most_levels
    → IsLeftOut is_inner (min (levels + 1) most_levels) x around (with_inside place ((y ∷ inside) ++ side_of is_inner false x ∷ around))
one_deeper y inside place is_inner x around levels stay are count few =
    let sides = (y ∷ inside) ++ side_of is_inner false x ∷ around in
    one_by y inside place is_inner x around levels are count few (nat_lt (count_inside sides) most_inside)
    (ap (λ n. nat_lt n most_levels) (sym count ∙ sym (inside_of (y ∷ inside) around is_inner x stay)))

deeper : (w : ConditionalWord) (place : Place) (y : Side) (inside : List Side) (is_inner : Bool) (x : Conditional) (around : List Side)
    (levels : ℕ) → all_stay around ≡ true → AllAre is_inner (y ∷ inside) → length (y ∷ inside) ≡ levels → levels ≤ most_levels
    → IsLeftOut is_inner (levels_behind w levels) x around (sides_behind w place ((y ∷ inside) ++ side_of is_inner false x ∷ around))
deeper ConditionalWord.Endif place y inside is_inner x around levels stay are count few =
    record { inside = inside; are = are.1; count = omega (arith, count); all = refl }
deeper ConditionalWord.Ifnot place y inside is_inner x around levels stay are count few =
    record { inside = turned_over y ∷ inside; are = (turned_inner y ∙ are.0, are.1); count = count; all = refl }
deeper ConditionalWord.Ifdef place y inside is_inner x around levels stay are count few =
    one_deeper y inside place is_inner x around levels stay are count few
deeper ConditionalWord.Ifndef place y inside is_inner x around levels stay are count few =
    one_deeper y inside place is_inner x around levels stay are count few
deeper ConditionalWord.Iftrue place y inside is_inner x around levels stay are count few =
    one_deeper y inside place is_inner x around levels stay are count few
deeper ConditionalWord.Iffalse place y inside is_inner x around levels stay are count few =
    one_deeper y inside place is_inner x around levels stay are count few

-- the first side inside of the one that is left out
first_inside : (around : List Side) (is_inner : Bool) (x : Conditional) (place : Place) → all_stay around ≡ true
    → with_inside place (side_of is_inner false x ∷ around)
    ≡ record { place = place; is_inner = is_inner; is_second = false; stays = true } ∷ side_of is_inner false x ∷ around
first_inside around is_inner x place stay = ap (λ n. if nat_lt n most_inside
    then record { place = place; is_inner = is_inner; is_second = false; stays = true } ∷ side_of is_inner false x ∷ around
    else side_of is_inner false x ∷ around)
    (inside_of [] around is_inner x stay)

-- Conditionals of which a side is left out, and sides beside them

abbrev pub leaving : Conditions → List Conditional → List Conditional → List Text → Option Place → LeftOut → Conditions
leaving c inner among texts sign side = record c {
  among = among;
  inner = inner;
  pending = pendings texts;
  conditions = conditions_of texts;
  left_out = Some side;
  sign = sign;
}

abbrev pub sided : List Side → List Text → Option Place → Sides
sided sides texts sign = record { sides = sides; texts = texts; sign = sign }

abbrev pub side_at : Bool → ℕ → LeftOut
side_at is_inner levels = record { is_inner = is_inner; levels = levels }

-- A word has the same result.
abbrev WordsAgree : ConditionalWord → Place → Conditions → List Conditional → List Conditional → List Text → Option Place → LeftOut
    → List Side
    → Type 0
WordsAgree w at c inner among texts sign side sides =
    let now = sides_behind w (unwrap_or sign at) sides in
    Agree (word_judged w at side (leaving c inner among texts sign side))
    (word_passed (all_stay now) (unwrap_or sign at) now (sided sides texts sign))

-- a word inside of others that are open in the side has the same result
goes_deeper : (w : ConditionalWord) (at : Place) (c : Conditions) (inner among : List Conditional) (texts : List Text) (sign : Option Place)
    (is_inner : Bool) (levels : ℕ) (x : Conditional) (around : List Side) (y : Side) (inside : List Side) → AreFronts texts
    → length (y ∷ inside) ≡ levels
    → (l : IsLeftOut is_inner (levels_behind w levels) x around
    (sides_behind w (unwrap_or sign at) ((y ∷ inside) ++ side_of is_inner false x ∷ around)))
    → StandFor (Some (side_at is_inner (levels_behind w levels))) inner among
    (sides_behind w (unwrap_or sign at) ((y ∷ inside) ++ side_of is_inner false x ∷ around))
    → WordsAgree w at c inner among texts sign (side_at is_inner levels) ((y ∷ inside) ++ side_of is_inner false x ∷ around)
goes_deeper w at c inner among texts sign is_inner levels x around y inside fronts count l stand =
    let place = unwrap_or sign at in
    let sides = (y ∷ inside) ++ side_of is_inner false x ∷ around in
    let now = sides_behind w place sides in
    let side = side_at is_inner levels in
    let before = leaving c inner among texts sign side in
    let ended = awaiting place false (Awaits.End Effect.Nothing) (record (ended_by w before) { left_out = None; sign = None }) in
    let goes_on = record before { left_out = Some (side_at is_inner (levels_behind w levels)); sign = None } in
    let not_all : all_stay now ≡ false = ap all_stay l.all ∙ one_left l.inside around is_inner x in
    subst (λ b. Agree (word_judged w at side before) (word_passed b place now (sided sides texts sign))) (sym not_all)
    (subst (λ b. Agree (if b && ends_at w (is_second (latest before)) then ended else goes_on) (sided now texts None))
    (sym (not_zero inside y levels count))
    (record { pending = refl; conditions = refl; sign = refl; sides = stand; fronts = fronts }))

-- a conditional that begins at `place`, in its second side or not
abbrev conditional : Place → Bool → Conditional
conditional place is_second = record { place = place; is_second = is_second }

opens_in_outer : (place begins : Place) (is_second : Bool) (c : Conditions) (among : List Conditional) (texts : List Text)
    (sign : Option Place)
    → AreFronts texts
    → let x = conditional begins is_second in
    let sides = side_of false false x ∷ outer_sides among in
    let now = with_inside place sides in
    Agree (record (leaving c [] (x ∷ among) texts None (side_at false 1)) { sign = None })
    (word_passed (all_stay now) place now (sided sides texts sign))
opens_in_outer place begins is_second c among texts sign fronts =
    let x = conditional begins is_second in
    let sides = side_of false false x ∷ outer_sides among in
    let new : Side = record { place = place; is_inner = false; is_second = false; stays = true } in
    subst (λ (now : List Side). Agree (record (leaving c [] (x ∷ among) texts None (side_at false 1)) { sign = None })
    (word_passed (all_stay now) place now (sided sides texts sign)))
    (sym (first_inside (outer_sides among) false x place (outer_stay among)))
    (record {
      pending = refl;
      conditions = refl;
      sign = refl;
      sides = (refl, record { inside = new ∷ []; are = (refl, tt); count = refl; all = refl });
      fronts = fronts;
    })

opens_in_inner : (place begins : Place) (is_second : Bool) (c : Conditions) (inner among : List Conditional) (texts : List Text)
    (sign : Option Place)
    → AreFronts texts
    → let x = conditional begins is_second in
    let sides = side_of true false x ∷ open_sides inner among in
    let now = with_inside place sides in
    Agree (record (leaving c (x ∷ inner) among texts None (side_at true 1)) { sign = None })
    (word_passed (all_stay now) place now (sided sides texts sign))
opens_in_inner place begins is_second c inner among texts sign fronts =
    let x = conditional begins is_second in
    let sides = side_of true false x ∷ open_sides inner among in
    let new : Side = record { place = place; is_inner = true; is_second = false; stays = true } in
    subst (λ (now : List Side). Agree (record (leaving c (x ∷ inner) among texts None (side_at true 1)) { sign = None })
    (word_passed (all_stay now) place now (sided sides texts sign)))
    (sym (first_inside (open_sides inner among) true x place (open_stay inner among)))
    (record {
      pending = refl;
      conditions = refl;
      sign = refl;
      sides = record { inside = new ∷ []; are = (refl, tt); count = refl; all = refl };
      fronts = fronts;
    })

-- where all sides stay behind the word, its directive is read to its end
all_kept : (c : Conditions) (inner among : List Conditional) (texts : List Text) (place : Place) (sides : List Side) (sign : Option Place)
    (now : List Side) → now ≡ open_sides inner among → AreFronts texts
    → Agree (reading c inner among (Ended place ∷ texts)) (word_passed (all_stay now) place now (sided sides texts sign))
all_kept c inner among texts place sides sign now is fronts =
    subst (λ b. Agree (reading c inner among (Ended place ∷ texts)) (word_passed b place now (sided sides texts sign)))
    (sym (ap all_stay is ∙ open_stay inner among))
    (record { pending = refl; conditions = refl; sign = refl; sides = is; fronts = fronts })

word_outer : (w : ConditionalWord) (at begins : Place) (is_second : Bool) (c : Conditions) (among : List Conditional) (texts : List Text)
    (sign : Option Place) → AreFronts texts
    → let x = conditional begins is_second in
    WordsAgree w at c [] (x ∷ among) texts sign (side_at false 0) (side_of false false x ∷ outer_sides among)
word_outer ConditionalWord.Endif at begins is_second c among texts sign fronts =
    let sides = side_of false false (conditional begins is_second) ∷ outer_sides among in
    all_kept c [] among texts (unwrap_or sign at) sides sign (outer_sides among) refl fronts
word_outer ConditionalWord.Ifnot at begins true c among texts sign fronts = record {
  pending = refl;
  conditions = refl;
  sign = refl;
  sides = (refl, record { inside = []; are = tt; count = refl; all = refl });
  fronts = fronts;
}
word_outer ConditionalWord.Ifnot at begins false c among texts sign fronts =
    let sides = side_of false false (conditional begins false) ∷ outer_sides among in
    let turned : List Conditional = conditional begins true ∷ among in
    all_kept c [] turned texts (unwrap_or sign at) sides sign (outer_sides turned) refl fronts
word_outer ConditionalWord.Ifdef at begins is_second c among texts sign fronts =
    opens_in_outer (unwrap_or sign at) begins is_second c among texts sign fronts
word_outer ConditionalWord.Ifndef at begins is_second c among texts sign fronts =
    opens_in_outer (unwrap_or sign at) begins is_second c among texts sign fronts
word_outer ConditionalWord.Iftrue at begins is_second c among texts sign fronts =
    opens_in_outer (unwrap_or sign at) begins is_second c among texts sign fronts
word_outer ConditionalWord.Iffalse at begins is_second c among texts sign fronts =
    opens_in_outer (unwrap_or sign at) begins is_second c among texts sign fronts

word_inner : (w : ConditionalWord) (at begins : Place) (is_second : Bool) (c : Conditions) (inner among : List Conditional)
    (texts : List Text) (sign : Option Place) → AreFronts texts
    → let x = conditional begins is_second in
    WordsAgree w at c (x ∷ inner) among texts sign (side_at true 0) (side_of true false x ∷ open_sides inner among)
word_inner ConditionalWord.Endif at begins is_second c inner among texts sign fronts =
    let sides = side_of true false (conditional begins is_second) ∷ open_sides inner among in
    all_kept c inner among texts (unwrap_or sign at) sides sign (open_sides inner among) refl fronts
word_inner ConditionalWord.Ifnot at begins true c inner among texts sign fronts = record {
  pending = refl;
  conditions = refl;
  sign = refl;
  sides = record { inside = []; are = tt; count = refl; all = refl };
  fronts = fronts;
}
word_inner ConditionalWord.Ifnot at begins false c inner among texts sign fronts =
    let sides = side_of true false (conditional begins false) ∷ open_sides inner among in
    let turned : List Conditional = conditional begins true ∷ inner in
    all_kept c turned among texts (unwrap_or sign at) sides sign (open_sides turned among) refl fronts
word_inner ConditionalWord.Ifdef at begins is_second c inner among texts sign fronts =
    opens_in_inner (unwrap_or sign at) begins is_second c inner among texts sign fronts
word_inner ConditionalWord.Ifndef at begins is_second c inner among texts sign fronts =
    opens_in_inner (unwrap_or sign at) begins is_second c inner among texts sign fronts
word_inner ConditionalWord.Iftrue at begins is_second c inner among texts sign fronts =
    opens_in_inner (unwrap_or sign at) begins is_second c inner among texts sign fronts
word_inner ConditionalWord.Iffalse at begins is_second c inner among texts sign fronts =
    opens_in_inner (unwrap_or sign at) begins is_second c inner among texts sign fronts

-- a word has the same result in a side between directives, with `levels` open in it
pub outer_words : (inside : List Side) (w : ConditionalWord) (at : Place) (c : Conditions) (x : Conditional) (among : List Conditional)
    (texts : List Text) (sign : Option Place) (levels : ℕ) → AreFronts texts → AllAre false inside → length inside ≡ levels
    → levels ≤ most_levels
    → WordsAgree w at c [] (x ∷ among) texts sign (side_at false levels) (inside ++ side_of false false x ∷ outer_sides among)
outer_words [] w at c x among texts sign levels fronts are count few =
    subst (λ n. WordsAgree w at c [] (x ∷ among) texts sign (side_at false n) (side_of false false x ∷ outer_sides among)) count
    (word_outer w at x.place x.is_second c among texts sign fronts)
outer_words (y ∷ inside) w at c x among texts sign levels fronts are count few =
    let l = deeper w (unwrap_or sign at) y inside false x (outer_sides among) levels (outer_stay among) are count few in
    goes_deeper w at c [] (x ∷ among) texts sign false levels x (outer_sides among) y inside fronts count l (refl, l)

pub inner_words : (inside : List Side) (w : ConditionalWord) (at : Place) (c : Conditions) (x : Conditional)
    (inner among : List Conditional)
    (texts : List Text) (sign : Option Place) (levels : ℕ) → AreFronts texts → AllAre true inside → length inside ≡ levels
    → levels ≤ most_levels
    → WordsAgree w at c (x ∷ inner) among texts sign (side_at true levels) (inside ++ side_of true false x ∷ open_sides inner among)
inner_words [] w at c x inner among texts sign levels fronts are count few =
    subst (λ n. WordsAgree w at c (x ∷ inner) among texts sign (side_at true n) (side_of true false x ∷ open_sides inner among)) count
    (word_inner w at x.place x.is_second c inner among texts sign fronts)
inner_words (y ∷ inside) w at c x inner among texts sign levels fronts are count few =
    let l = deeper w (unwrap_or sign at) y inside true x (open_sides inner among) levels (open_stay inner among) are count few in
    goes_deeper w at c (x ∷ inner) among texts sign true levels x (open_sides inner among) y inside fronts count l l
