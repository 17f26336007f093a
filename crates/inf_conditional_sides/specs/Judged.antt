-- Sides beside the conditionals of the compiler's contracts: the sides that agree with conditionals, and the same results of each token
-- for both.
use Rattle.std.specs.Prelude.{◌≡◌, ℕ, ◌≤◌, List, [], ◌∷◌, ◌++◌, length, map, Bool, true, false, not, Option, Some, None, is_some}
use Rattle.inf_scanner.specs.declared.tokens.Place.{Place}
use Rattle.inf_output.specs.Output.{Out}
use Rattle.inf_sources.specs.declared.open_file.Conditional.{Conditional}
use Rattle.inf_unit.specs.Tokens.{SourceToken}
use Rattle.inf_conditionals.specs.{Condition.Condition, Ends.piece_ended as conditions_ended, Judging.Behind, Judging.judged}
use Rattle.inf_conditionals.specs.declared.{filtered.Filtered.Filtered, filtered.Forwarded.Forwarded, filtered.Sign.Sign as HandedSign}
use Rattle.inf_conditionals.specs.declared.{filtered.Site.Site, open.LeftOut.LeftOut, pending.Awaits.Awaits, pending.Effect.Effect}
use Rattle.inf_conditionals.specs.declared.{pending.Pending.Pending, words.ConditionalWord.ConditionalWord}
use Rattle.inf_conditionals.specs.Open.{Conditions, most_levels, no_conditions}
use Rattle.inf_conditional_sides.specs.Sides.{Asked, Directive, Ended, Ends, Front, Given, Kept, Lone, Side, Sides, Sign, Step, Text, Unfit}
use Rattle.inf_conditional_sides.specs.Sides.{condition_in, condition_of, end_form, hash, heard, name_form, no_sides, outer_sides, piece_ended}
use Rattle.inf_conditional_sides.specs.Sides.{side_of, step}

-- Definitions of the directives that are being read

-- the thing that a directive waits for, by its word and its tokens behind that
abbrev pub awaits_behind : ConditionalWord → List Asked → Awaits
awaits_behind ConditionalWord.Ifdef [] = Awaits.Name true
awaits_behind ConditionalWord.Ifdef (n ∷ others) = Awaits.End (Effect.Opens n.is_declared)
awaits_behind ConditionalWord.Ifndef [] = Awaits.Name false
awaits_behind ConditionalWord.Ifndef (n ∷ others) = Awaits.End (Effect.Opens (not n.is_declared))
awaits_behind ConditionalWord.Iftrue others = Awaits.Condition true
awaits_behind ConditionalWord.Iffalse others = Awaits.Condition false
awaits_behind ConditionalWord.Ifnot others = Awaits.End Effect.Turns
awaits_behind ConditionalWord.Endif others = Awaits.End Effect.Closes

abbrev pub pending_of : Text → Pending
pending_of (Sign place) = record { place = place; is_inner = false; awaits = Awaits.Word }
pending_of (Ended place) = record { place = place; is_inner = false; awaits = Awaits.End Effect.Nothing }
pending_of (Directive place is_inner w first others) = record { place = place; is_inner = is_inner; awaits = awaits_behind w others }

abbrev pub pendings : List Text → List Pending
pendings texts = map pending_of texts

-- the conditions of the directives that have one
abbrev pub with_condition : Option Condition → List Condition → List Condition
with_condition None conditions = conditions
with_condition (Some k) conditions = k ∷ conditions

abbrev pub conditions_of : List Text → List Condition
conditions_of [] = []
conditions_of (Sign place ∷ texts) = conditions_of texts
conditions_of (Ended place ∷ texts) = conditions_of texts
conditions_of (Directive place is_inner w first others ∷ texts) = with_condition (condition_in w first others) (conditions_of texts)

-- The tokens of each directive that is being read begin such a directive. A condition is read as far as it goes.
abbrev pub IsFront : ConditionalWord → SourceToken → List Asked → Type 0
IsFront ConditionalWord.Ifdef first others = name_form others ≡ Front
IsFront ConditionalWord.Ifndef first others = name_form others ≡ Front
IsFront ConditionalWord.Iftrue first others = is_some (condition_of first others) ≡ true
IsFront ConditionalWord.Iffalse first others = is_some (condition_of first others) ≡ true
IsFront ConditionalWord.Ifnot first others = end_form others ≡ Front
IsFront ConditionalWord.Endif first others = end_form others ≡ Front

abbrev pub AreFronts : List Text → Type 0
AreFronts [] = Unit {0}
AreFronts (Sign place ∷ texts) = AreFronts texts
AreFronts (Ended place ∷ texts) = AreFronts texts
AreFronts (Directive place is_inner w first others ∷ texts) = IsFront w first others × AreFronts texts

-- Definitions of the sides that are open

-- the sides where all stay: those of conditionals inside of the directive at hand, and behind them those of the others
abbrev pub open_sides : List Conditional → List Conditional → List Side
open_sides inner among = map (side_of true true) inner ++ outer_sides among

-- Sides where one of a conditional is left out: before it are the `levels` sides that were opened in it, and all behind it stay.
abbrev pub AllAre : Bool → List Side → Type 0
AllAre is_inner [] = Unit {0}
AllAre is_inner (x ∷ sides) = (x.is_inner ≡ is_inner) × AllAre is_inner sides

pub record IsLeftOut (is_inner : Bool) (levels : ℕ) (x : Conditional) (around sides : List Side) : Type 0 where
  pub inside : List Side
  pub are : AllAre is_inner inside
  pub count : length inside ≡ levels
  pub all : sides ≡ inside ++ side_of is_inner false x ∷ around

-- A conditional between the directives may be opened by a directive inside of which others are open. Its side is then left out behind
-- theirs, until these end with the directive, which is at once.
pub record IsLeftBehind (levels : ℕ) (inner among : List Conditional) (sides : List Side) : Type 0 where
  pub x : Conditional
  pub others : List Conditional
  pub are : among ≡ x ∷ others
  pub none : levels ≡ 0
  pub all : sides ≡ map (side_of true true) inner ++ side_of false false x ∷ outer_sides others

abbrev pub LeftInside : Bool → ℕ → Conditional → List Conditional → List Conditional → List Side → Type 0
LeftInside true levels x inner among sides = IsLeftOut true levels x (open_sides inner among) sides
LeftInside false levels x inner among sides = IsLeftBehind levels (x ∷ inner) among sides

abbrev pub StandFor : Option LeftOut → List Conditional → List Conditional → List Side → Type 0
StandFor None inner among sides = sides ≡ open_sides inner among
StandFor (Some side) [] [] sides = ⊥
StandFor (Some side) [] (x ∷ among) sides = (side.is_inner ≡ false) × IsLeftOut false side.levels x (outer_sides among) sides
StandFor (Some side) (x ∷ inner) among sides = LeftInside side.is_inner side.levels x inner among sides

-- Sides agree with conditionals.
pub record Agree (c : Conditions) (s : Sides) : Type 0 where
  pub pending : c.pending ≡ pendings s.texts
  pub conditions : c.conditions ≡ conditions_of s.texts
  pub sign : c.sign ≡ s.sign
  pub sides : StandFor c.left_out c.inner c.among s.sides
  pub fronts : AreFronts s.texts

-- Tells whether no side is left out behind others.
abbrev pub is_settled_by : Option LeftOut → List Conditional → Bool
is_settled_by (Some side) (x ∷ inner) = side.is_inner
is_settled_by left_out inner = true

abbrev pub is_settled : Conditions → Bool
is_settled c = is_settled_by c.left_out c.inner

-- No more levels are open in a side that is left out than are counted at most.
abbrev pub FewIn : Option LeftOut → Type 0
FewIn None = Unit {0}
FewIn (Some side) = side.levels ≤ most_levels

-- Definitions of the things that are given of a token

abbrev pub as_handed : Forwarded → SourceToken → List Given
as_handed Forwarded.Kept t = Kept t ∷ []
as_handed Forwarded.Unfit t = Unfit t ∷ []
as_handed Forwarded.Condition t = []

abbrev pub sign_given : Option HandedSign → List Given
sign_given None = []
sign_given (Some s) = as_handed s.handed (hash s.place)

abbrev pub token_given : Option Forwarded → SourceToken → List Given
token_given None t = []
token_given (Some h) t = as_handed h t

abbrev pub lone_given : Option Place → List Given
lone_given None = []
lone_given (Some place) = Lone place ∷ []

abbrev pub end_given : Option Place → List Given
end_given None = []
end_given (Some place) = Ends place ∷ []

abbrev pub given_of : SourceToken → Filtered → List Given
given_of t j = sign_given j.sign ++ (token_given j.token t ++ (lone_given j.unmatched ++ end_given j.ended))

-- A token has the same result: the sides behind it agree with the conditionals behind it, and the same things are given.
pub record ComeToTheSame (is_quiet : Bool) (t : SourceToken) (b : Behind) (n : Step) : Type 0 where
  pub now : Agree b.now n.now
  pub given : given_of t b.judged ≡ heard is_quiet n.given

-- Where nothing is open, sides agree with conditionals; and where they do, a token and the end of a piece have the same result for both.
pub record SidesAreJudged : Type 0 where
  pub start : Agree no_conditions no_sides
  pub tokens : (site : Site) (o : Out) (t : SourceToken) (c : Conditions) (s : Sides) → Agree c s → is_settled c ≡ true → FewIn c.left_out
      → ComeToTheSame site.is_quiet t (judged site o t c) (step site.is_between c.declared o t s)
  pub pieces : (declared : ℕ) (c : Conditions) (s : Sides) → Agree c s
      → Agree (conditions_ended declared c) (piece_ended s) × (is_settled (conditions_ended declared c) ≡ true)
