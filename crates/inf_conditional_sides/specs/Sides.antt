-- Conditionals as sides. Each conditional that is open has a side at hand, which stays or is left out, and a token is kept where all
-- sides around it stay. Beside them are the conditional directives that are being read, each with its tokens so far; whether these begin
-- a directive, or are one, is asked of the tokens themselves.
use Rattle.std.specs.Prelude.{ℕ, suc, codes, nat_lt, ◌&&◌, List, [], ◌∷◌, ◌++◌, map, Bool, true, false, not, if◌then◌else◌, Option, Some}
use Rattle.std.specs.Prelude.{None, unwrap_or}
use Rattle.inf_scanner.specs.{declared.tokens.Mark.Mark, declared.tokens.Place.Place, declared.tokens.TokenKind.TokenKind}
use Rattle.inf_machine.specs.Machine.{fits}
use Rattle.inf_grammar.specs.Language.{grammar, known}
use Rattle.inf_names.specs.Symbols.{declared_before}
use Rattle.inf_output.specs.Output.{Out}
use Rattle.inf_sources.specs.declared.open_file.Conditional.{Conditional}
use Rattle.inf_unit.specs.Tokens.{SourceToken, atom_of, is_end, is_mark, keyword}
use Rattle.inf_conditionals.specs.{Words.word_of, declared.words.ConditionalWord.ConditionalWord}
use Rattle.inf_conditionals.specs.Condition.{Condition, condition_begun, condition_took, is_whole, verdict_of}

-- The side at hand of a conditional that is open: the place where the conditional begins, and whether it is inside another directive;
-- whether the side is the second; and whether it stays.
pub record Side : Type 0 where
  pub place : Place
  pub is_inner : Bool
  pub is_second : Bool
  pub stays : Bool

-- A token of a conditional directive, and whether a directive before the one at hand declared the name that it spells.
pub record Asked : Type 0 where
  pub token : SourceToken
  pub is_declared : Bool

-- The part of a conditional directive that was read: a `#` at the front of a piece, behind which a word is to come; a directive whose
-- word ended a side that was left out, and that only has to end itself; or any other, with its word, the token of the word, and the
-- tokens behind that.
pub data Text : Type 0 where
  Sign : (place : Place) → Text
  Ended : (place : Place) → Text
  Directive : (place : Place) (is_inner : Bool) (word : ConditionalWord) (first : SourceToken) (others : List Asked) → Text

-- The sides that are open and the directives that are being read, each with the innermost first; and a `#` inside a directive, if the
-- next token has to decide whether it begins a conditional one.
pub record Sides : Type 0 where
  pub sides : List Side
  pub texts : List Text
  pub sign : Option Place

-- the sides where nothing is open and nothing is being read
abbrev pub no_sides : Sides
no_sides = record { sides = []; texts = []; sign = None }

-- The things that are given of a token: a token is handed on as one that is kept, or as one that does not fit; a directive that ends or
-- turns a conditional has none; a conditional directive has ended, which begins at a place.
pub data Given : Type 0 where
  Kept : (token : SourceToken) → Given
  Unfit : (token : SourceToken) → Given
  Lone : (directive : Place) → Given
  Ends : (directive : Place) → Given

pub record Step : Type 0 where
  pub now : Sides
  pub given : List Given

abbrev pub giving : Sides → List Given → Step
giving s given = record { now = s; given = given }

-- a `#` at a place, as a token
abbrev pub hash : Place → SourceToken
hash place = record { kind = TokenKind.Mark Mark.Hash; bytes = codes "#"; place = place; is_class = false }

-- Definitions of the forms that tokens have as a conditional directive

-- The form of tokens: they begin no directive, they begin one, or they are one.
pub data Form : Type 0 where
  Misfit : Form
  Front : Form
  Whole : Form

abbrev pub is_name : TokenKind → Bool
is_name TokenKind.Name = true
is_name _ = false

-- the form of the tokens behind `Ifdef` and `Ifndef`: a name and a semicolon
abbrev pub name_form : List Asked → Form
name_form [] = Front
name_form (n ∷ []) = if is_name n.token.kind then Front else Misfit
name_form (n ∷ t ∷ []) = if is_mark Mark.Semicolon t.token.kind && is_name n.token.kind then Whole else Misfit
name_form _ = Misfit

-- the form of the tokens behind `Ifnot` and `Endif`: a semicolon
abbrev pub end_form : List Asked → Form
end_form [] = Front
end_form (t ∷ []) = if is_mark Mark.Semicolon t.token.kind then Whole else Misfit
end_form _ = Misfit

-- the condition as the grammar reads some tokens of its directive, if it reads them all
abbrev pub condition_read : List SourceToken → Condition → Option Condition
condition_read [] k = Some k
condition_read (t ∷ tokens) k = if fits grammar known (atom_of t) k.stack then condition_read tokens (condition_took t k) else None

abbrev pub condition_form : Option Condition → Form
condition_form None = Misfit
condition_form (Some k) = if is_whole k then Whole else Front

abbrev pub tokens_in : List Asked → List SourceToken
tokens_in others = map (λ (a : Asked). a.token) others

abbrev pub condition_of : SourceToken → List Asked → Option Condition
condition_of first others = condition_read (first ∷ tokens_in others) condition_begun

-- the condition of a directive, if it has one
abbrev pub condition_in : ConditionalWord → SourceToken → List Asked → Option Condition
condition_in ConditionalWord.Iftrue first others = condition_of first others
condition_in ConditionalWord.Iffalse first others = condition_of first others
condition_in _ first others = None

abbrev pub form_of : ConditionalWord → SourceToken → List Asked → Form
form_of ConditionalWord.Ifdef first others = name_form others
form_of ConditionalWord.Ifndef first others = name_form others
form_of ConditionalWord.Iftrue first others = condition_form (condition_of first others)
form_of ConditionalWord.Iffalse first others = condition_form (condition_of first others)
form_of ConditionalWord.Ifnot first others = end_form others
form_of ConditionalWord.Endif first others = end_form others

-- Definitions of the effects of a whole directive on the sides

-- Tells whether the first side stays of the conditional that a directive opens: where its name was declared, or was not; where its
-- condition is true, or is not. As many names as `declared` says were declared by the directives before.
abbrev pub name_declared : List Asked → Bool
name_declared [] = false
name_declared (n ∷ others) = n.is_declared

abbrev pub condition_holds : ℕ → Out → Option Condition → Bool
condition_holds declared o None = false
condition_holds declared o (Some k) = (verdict_of declared o k).is_true

abbrev pub first_stays : ConditionalWord → ℕ → Out → SourceToken → List Asked → Bool
first_stays ConditionalWord.Ifdef declared o first others = name_declared others
first_stays ConditionalWord.Ifndef declared o first others = not (name_declared others)
first_stays ConditionalWord.Iftrue declared o first others = condition_holds declared o (condition_of first others)
first_stays ConditionalWord.Iffalse declared o first others = not (condition_holds declared o (condition_of first others))
first_stays _ declared o first others = false

-- the sides with a new one before all that are open; one that is opened between the directives comes behind those inside of the directive
-- at hand, which end with that
abbrev pub with_side : Side → List Side → List Side
with_side x [] = x ∷ []
with_side x (y ∷ sides) = if not x.is_inner && y.is_inner then y ∷ with_side x sides else x ∷ y ∷ sides

-- a side whose first one ends: the second one stays where the first was left out
abbrev pub turned_over : Side → Side
turned_over x = if x.is_second then x else record x { is_second = true; stays = not x.stays }

abbrev pub turned : List Side → List Side
turned [] = []
turned (x ∷ sides) = turned_over x ∷ sides

abbrev pub closed : List Side → List Side
closed [] = []
closed (x ∷ sides) = sides

-- Tells whether there is a first side to turn, and below, whether there is any side to close.
abbrev pub has_first : List Side → Bool
has_first [] = false
has_first (x ∷ sides) = not x.is_second

abbrev pub has_any : List Side → Bool
has_any [] = false
has_any (x ∷ sides) = true

abbrev pub opens : Place → Bool → Bool → Sides → Step
opens place is_inner stays s =
    giving (record s { sides = with_side (record { place = place; is_inner = is_inner; is_second = false; stays = stays }) s.sides })
    (Ends place ∷ [])

abbrev pub turns : Place → Sides → Step
turns place s =
    if has_first s.sides then giving (record s { sides = turned s.sides }) (Ends place ∷ []) else giving s (Lone place ∷ Ends place ∷ [])

abbrev pub closes : Place → Sides → Step
closes place s =
    if has_any s.sides then giving (record s { sides = closed s.sides }) (Ends place ∷ []) else giving s (Lone place ∷ Ends place ∷ [])

abbrev pub acts : ConditionalWord → ℕ → Out → Place → Bool → SourceToken → List Asked → Sides → Step
acts ConditionalWord.Ifnot declared o place is_inner first others s = turns place s
acts ConditionalWord.Endif declared o place is_inner first others s = closes place s
acts w declared o place is_inner first others s = opens place is_inner (first_stays w declared o first others) s

-- Definitions of a token of a side that stays

-- A token that does not fit gives up all directives that are being read.
abbrev pub unfit : SourceToken → Sides → Step
unfit t s = giving (record s { texts = [] }) (Unfit t ∷ [])

abbrev pub asked : ℕ → Out → SourceToken → Asked
asked declared o t = record { token = t; is_declared = declared_before t.bytes declared o.names }

-- the result of a token with which no directive can be whole
abbrev pub goes_on : Form → SourceToken → Text → Sides → Step
goes_on Misfit t x s = unfit t s
goes_on _ t x s = giving (record s { texts = x ∷ s.texts }) []

-- the result of a word with which a directive begins, at the place of that or of the `#` before it
abbrev pub begun : ConditionalWord → SourceToken → Place → Bool → Sides → Step
begun w t place is_inner s =
    let first = record t { place = place } in goes_on (form_of w first []) t (Directive place is_inner w first []) s

abbrev pub read_as : Form → ConditionalWord → ℕ → Out → SourceToken → Place → Bool → SourceToken → List Asked → Sides → Step
read_as Misfit w declared o t place is_inner first others s = unfit t s
read_as Front w declared o t place is_inner first others s =
    giving (record s { texts = Directive place is_inner w first others ∷ s.texts }) []
read_as Whole w declared o t place is_inner first others s = acts w declared o place is_inner first others s

-- the result behind a `#` at the front of a piece: a token that is no word of a conditional is kept, with the `#`
abbrev pub behind_front : Option ConditionalWord → SourceToken → Place → Sides → Step
behind_front None t place s = giving s (Kept (hash place) ∷ Kept t ∷ [])
behind_front (Some w) t place s = begun w t place false s

-- the result of one token more of the innermost directive, which is apart from the others
abbrev pub offered_to : ℕ → Out → SourceToken → Text → Sides → Step
offered_to declared o t (Sign place) s = behind_front (word_of (keyword t)) t place s
offered_to declared o t (Ended place) s = if is_mark Mark.Semicolon t.kind then giving s (Ends place ∷ []) else unfit t s
offered_to declared o t (Directive place is_inner w first others) s =
    let more = others ++ asked declared o t ∷ [] in read_as (form_of w first more) w declared o t place is_inner first more s

-- the result of a token at the front of a piece, where a conditional directive may begin
abbrev pub at_front : Option ConditionalWord → SourceToken → Sides → Step
at_front None t s = giving s (Kept t ∷ [])
at_front (Some w) t s = begun w t t.place false s

abbrev pub offered_in : List Text → Bool → ℕ → Out → SourceToken → Sides → Step
offered_in [] is_front declared o t s = if is_front then at_front (word_of (keyword t)) t s else giving s (Kept t ∷ [])
offered_in (x ∷ texts) is_front declared o t s = offered_to declared o t x (record s { texts = texts })

-- the sides with a `#` that waits for the next token
abbrev pub held : Bool → Place → Sides → Sides
held true place s = record s { texts = Sign place ∷ s.texts }
held false place s = record s { sign = Some place }

abbrev pub offered : Bool → ℕ → Out → SourceToken → Sides → Step
offered is_front declared o t s =
    if is_mark Mark.Hash t.kind then giving (held is_front t.place s) [] else offered_in s.texts is_front declared o t s

-- A `#` that waited, and begins no conditional directive, is kept where none is being read. It may be one of a condition, and fits
-- nowhere else in a directive.
abbrev pub sign_asked : ℕ → Out → Place → Text → Sides → Step
sign_asked declared o place (Directive begins is_inner w first others) s =
    let more = others ++ asked declared o (hash place) ∷ [] in
    goes_on (form_of w first more) (hash place) (Directive begins is_inner w first more) s
sign_asked declared o place _ s = unfit (hash place) s

abbrev pub sign_offered : List Text → ℕ → Out → Place → Sides → Step
sign_offered [] declared o place s = giving s (Kept (hash place) ∷ [])
sign_offered (x ∷ texts) declared o place s = sign_asked declared o place x (record s { texts = texts })

abbrev pub behind_sign : Option ConditionalWord → Place → ℕ → Out → SourceToken → Sides → Step
behind_sign (Some w) place declared o t s = begun w t place true (record s { sign = None })
behind_sign None place declared o t s =
    let before = sign_offered s.texts declared o place (record s { sign = None }) in
    let behind = offered false declared o t before.now in
    giving behind.now (before.given ++ behind.given)

abbrev pub has_none : List Text → Bool
has_none [] = true
has_none (x ∷ texts) = false

abbrev pub kept_step : Option Place → Bool → ℕ → Out → SourceToken → Sides → Step
kept_step (Some place) is_between declared o t s = behind_sign (word_of (keyword t)) place declared o t s
kept_step None is_between declared o t s = offered (is_between && has_none s.texts) declared o t s

-- A token of a side that is left out: only words of conditionals are looked at, wherever they come, and each acts at once. Where all
-- sides stay behind it, its directive is read to its end.

abbrev pub all_stay : List Side → Bool
all_stay [] = true
all_stay (x ∷ sides) = x.stays && all_stay sides

abbrev pub first_is_inner : List Side → Bool
first_is_inner [] = false
first_is_inner (x ∷ sides) = x.is_inner

-- the number of sides inside of the outermost one that is left out
abbrev pub count_inside : List Side → ℕ
count_inside [] = 0
count_inside (x ∷ sides) = if all_stay sides then 0 else suc (count_inside sides)

-- the most sides inside of one that is left out; no file has as many
abbrev pub most_inside : ℕ
most_inside = 4294967295

abbrev pub with_inside : Place → List Side → List Side
with_inside place sides =
    if nat_lt (count_inside sides) most_inside
    then record { place = place; is_inner = first_is_inner sides; is_second = false; stays = true } ∷ sides else sides

abbrev pub sides_behind : ConditionalWord → Place → List Side → List Side
sides_behind ConditionalWord.Ifnot place sides = turned sides
sides_behind ConditionalWord.Endif place sides = closed sides
sides_behind w place sides = with_inside place sides

abbrev pub word_passed : Bool → Place → List Side → Sides → Sides
word_passed true place sides s = record s { sides = sides; sign = None; texts = Ended place ∷ s.texts }
word_passed false place sides s = record s { sides = sides; sign = None }

abbrev pub passed_over : Option ConditionalWord → SourceToken → Sides → Sides
passed_over None t s = record s { sign = if is_mark Mark.Hash t.kind then Some t.place else None }
passed_over (Some w) t s =
    let place = unwrap_or s.sign t.place in let sides = sides_behind w place s.sides in word_passed (all_stay sides) place sides s

-- At the end of a file nothing is left out any more, and a conditional that is open inside of a side that was left out is no conditional
-- of the file.
abbrev pub at_end : List Side → List Side
at_end [] = []
at_end (x ∷ sides) = if all_stay sides then record x { stays = true } ∷ sides else at_end sides

abbrev pub left_step : ℕ → Out → SourceToken → Sides → Step
left_step declared o t s =
    if is_end t.kind then offered false declared o t (record s { sides = at_end s.sides; sign = None })
    else giving (passed_over (word_of (keyword t)) t s) []

-- Definitions of any token, between the pieces of a source or not

abbrev pub step : Bool → ℕ → Out → SourceToken → Sides → Step
step is_between declared o t s =
    if all_stay s.sides then kept_step s.sign is_between declared o t s else left_step declared o t s

-- Behind a whole directive the sides are over that were opened inside of it.
abbrev pub only_between : List Side → List Side
only_between [] = []
only_between (x ∷ sides) = if x.is_inner then only_between sides else x ∷ sides

abbrev pub piece_ended : Sides → Sides
piece_ended s = record s { sides = only_between s.sides }

-- Definitions of files

-- the side of a conditional
abbrev pub side_of : Bool → Bool → Conditional → Side
side_of is_inner stays x = record { place = x.place; is_inner = is_inner; is_second = x.is_second; stays = stays }

-- the sides of conditionals that are open between the directives of a file; all of them stay
abbrev pub outer_sides : List Conditional → List Side
outer_sides among = map (side_of false true) among

-- Definitions of tokens that are passed over

-- the things that are given; among tokens that are passed over behind a bad one those about directives are not
abbrev pub heard : Bool → List Given → List Given
heard false given = given
heard true [] = []
heard true (Kept t ∷ given) = Kept t ∷ heard true given
heard true (Unfit t ∷ given) = Unfit t ∷ heard true given
heard true (Lone place ∷ given) = heard true given
heard true (Ends place ∷ given) = heard true given
