-- The things that sides give of a token: at most two tokens, of which the first of two is a `#`, and behind them ends of directives.
use Rattle.std.proofs.Common.{◌≡◌, ℕ, List, [], ◌∷◌, ◌++◌, Bool, true, false, Option, Some, None, refl, ◌∙◌, ap}
use Rattle.inf_scanner.specs.{declared.tokens.Mark.Mark, declared.tokens.Place.Place, declared.tokens.TokenKind.TokenKind}
use Rattle.inf_settings.specs.Bounds.{Limits}
use Rattle.inf_output.specs.Output.{Out}
use Rattle.inf_unit.specs.{Messages.FileNames, Tokens.SourceToken, Tokens.is_end, Tokens.is_mark, Tokens.keyword}
use Rattle.inf_unit.proofs.Cases.{of_both}
use Rattle.inf_conditionals.specs.{Said.Said, Words.word_of, declared.words.ConditionalWord.ConditionalWord}
use Rattle.inf_conditional_sides.specs.Sides as by_sides
use Rattle.inf_conditional_sides.specs.Sides.{Asked, Directive, Ended, Form, Front, Given as GivenBySides}
use Rattle.inf_conditional_sides.specs.Sides.{Misfit, Sides, Sign, Step as SideStep, Text, Whole}
use Rattle.inf_conditional_sides.specs.Sides.{acts, all_stay, asked, at_end, at_front, begun, behind_front, behind_sign, closed, form_of}
use Rattle.inf_conditional_sides.specs.Sides.{giving, goes_on, has_any, has_first, has_none, hash, heard, held, kept_step, left_step}
use Rattle.inf_conditional_sides.specs.Sides.{offered, offered_in, offered_to, passed_over, read_as, step, turned, unfit}
use Rattle.inf_session.specs.Choices.{Choices}
use Rattle.inf_laws.specs.KeptTokens.{Given, Kept, Unfit, token_in}
use Rattle.inf_program.specs.{definition.Program.NoneGiven, definition.States.State}
use Rattle.inf_program.specs.definition.Steps.{Passes, Reads, Step, said_between, steps_of_all, token_steps}
use Rattle.inf_program.specs.definition.NextToken.{Position, coming, step_at, steps_at, told_at}
use Rattle.inf_program.proofs.Shapes.{AllMild, NoToken, OneToken, Shape, TwoTokens}

-- no token is given
abbrev pub NoneIn : List GivenBySides → Type 0
NoneIn [] = Unit {0}
NoneIn (by_sides.Kept t ∷ given) = ⊥
NoneIn (by_sides.Unfit t ∷ given) = ⊥
NoneIn (by_sides.Lone place ∷ given) = NoneIn given
NoneIn (by_sides.Ends place ∷ given) = NoneIn given

abbrev as_given : Given → GivenBySides
as_given (Kept t) = by_sides.Kept t
as_given (Unfit t) = by_sides.Unfit t

data Handed (all : List GivenBySides) : Type 0 where
  NoneHanded : NoneIn all → Handed all
  OneHanded : (given : Given) (rest : List GivenBySides) → all ≡ as_given given ∷ rest → NoneIn rest → Handed all
  TwoHanded : (given next : Given) (rest : List GivenBySides) → all ≡ as_given given ∷ as_given next ∷ rest
      → (token_in given).kind ≡ TokenKind.Mark Mark.Hash → NoneIn rest → Handed all

-- Lemmas about a token that is offered

acts_handed : (w : ConditionalWord) (declared : ℕ) (o : Out) (place : Place) (is_inner : Bool) (first : SourceToken) (others : List Asked)
    (s : Sides) → Handed (acts w declared o place is_inner first others s).given
acts_handed ConditionalWord.Ifnot declared o place is_inner first others s =
    of_both (λ (n : SideStep). Handed n.given) (has_first s.sides) (giving (record s { sides = turned s.sides }) (by_sides.Ends place ∷ []))
    (giving s (by_sides.Lone place ∷ by_sides.Ends place ∷ [])) (λ _. NoneHanded tt) (λ _. NoneHanded tt)
acts_handed ConditionalWord.Endif declared o place is_inner first others s =
    of_both (λ (n : SideStep). Handed n.given) (has_any s.sides) (giving (record s { sides = closed s.sides }) (by_sides.Ends place ∷ []))
    (giving s (by_sides.Lone place ∷ by_sides.Ends place ∷ [])) (λ _. NoneHanded tt) (λ _. NoneHanded tt)
acts_handed ConditionalWord.Ifdef declared o place is_inner first others s = NoneHanded tt
acts_handed ConditionalWord.Ifndef declared o place is_inner first others s = NoneHanded tt
acts_handed ConditionalWord.Iftrue declared o place is_inner first others s = NoneHanded tt
acts_handed ConditionalWord.Iffalse declared o place is_inner first others s = NoneHanded tt

goes_handed : (form : Form) (t : SourceToken) (x : Text) (s : Sides) → Handed (goes_on form t x s).given
goes_handed Misfit t x s = OneHanded (Unfit t) [] refl tt
goes_handed Front t x s = NoneHanded tt
goes_handed Whole t x s = NoneHanded tt

begun_handed : (w : ConditionalWord) (t : SourceToken) (place : Place) (is_inner : Bool) (s : Sides)
    → Handed (begun w t place is_inner s).given
begun_handed w t place is_inner s =
    let first = record t { place = place } in goes_handed (form_of w first []) t (Directive place is_inner w first []) s

read_handed : (form : Form) (w : ConditionalWord) (declared : ℕ) (o : Out) (t : SourceToken) (place : Place) (is_inner : Bool)
    (first : SourceToken) (others : List Asked) (s : Sides) → Handed (read_as form w declared o t place is_inner first others s).given
read_handed Misfit w declared o t place is_inner first others s = OneHanded (Unfit t) [] refl tt
read_handed Front w declared o t place is_inner first others s = NoneHanded tt
read_handed Whole w declared o t place is_inner first others s = acts_handed w declared o place is_inner first others s

front_handed : (w : Option ConditionalWord) (t : SourceToken) (place : Place) (s : Sides) → Handed (behind_front w t place s).given
front_handed None t place s = TwoHanded (Kept (hash place)) (Kept t) [] refl refl tt
front_handed (Some w) t place s = begun_handed w t place false s

at_front_handed : (w : Option ConditionalWord) (t : SourceToken) (s : Sides) → Handed (at_front w t s).given
at_front_handed None t s = OneHanded (Kept t) [] refl tt
at_front_handed (Some w) t s = begun_handed w t t.place false s

text_handed : (declared : ℕ) (o : Out) (t : SourceToken) (x : Text) (s : Sides) → Handed (offered_to declared o t x s).given
text_handed declared o t (Sign place) s = front_handed (word_of (keyword t)) t place s
text_handed declared o t (Ended place) s =
    of_both (λ (n : SideStep). Handed n.given) (is_mark Mark.Semicolon t.kind) (giving s (by_sides.Ends place ∷ [])) (unfit t s)
    (λ _. NoneHanded tt) (λ _. OneHanded (Unfit t) [] refl tt)
text_handed declared o t (Directive place is_inner w first others) s =
    let more = others ++ asked declared o t ∷ [] in read_handed (form_of w first more) w declared o t place is_inner first more s

in_handed : (texts : List Text) (is_front : Bool) (declared : ℕ) (o : Out) (t : SourceToken) (s : Sides)
    → Handed (offered_in texts is_front declared o t s).given
in_handed [] true declared o t s = at_front_handed (word_of (keyword t)) t s
in_handed [] false declared o t s = OneHanded (Kept t) [] refl tt
in_handed (x ∷ texts) is_front declared o t s = text_handed declared o t x (record s { texts = texts })

offered_handed : (is_front : Bool) (declared : ℕ) (o : Out) (t : SourceToken) (s : Sides) → Handed (offered is_front declared o t s).given
offered_handed is_front declared o t s =
    of_both (λ (n : SideStep). Handed n.given) (is_mark Mark.Hash t.kind) (giving (held is_front t.place s) [])
    (offered_in s.texts is_front declared o t s) (λ _. NoneHanded tt) (λ _. in_handed s.texts is_front declared o t s)

-- A token behind a `#` that was given, where no directive is being read

alone_handed : (given : Given) (declared : ℕ) (o : Out) (t : SourceToken) (s : Sides) → (token_in given).kind ≡ TokenKind.Mark Mark.Hash
    → Handed (as_given given ∷ (offered false declared o t (record s { texts = [] })).given)
alone_handed given declared o t s is_hash =
    let none = record s { texts = [] } in
    of_both (λ (n : SideStep). Handed (as_given given ∷ n.given)) (is_mark Mark.Hash t.kind) (giving (held false t.place none) [])
    (offered_in [] false declared o t none) (λ _. OneHanded given [] refl tt) (λ _. TwoHanded given (Kept t) [] refl is_hash tt)

-- a token behind a `#` that a directive was asked for
abbrev HandedBehind : ℕ → Out → SourceToken → SideStep → Type 0
HandedBehind declared o t n = Handed (n.given ++ (offered false declared o t n.now).given)

asked_handed : (form : Form) (declared : ℕ) (o : Out) (t : SourceToken) (place : Place) (x : Text) (s : Sides)
    → HandedBehind declared o t (goes_on form (hash place) x s)
asked_handed Misfit declared o t place x s = alone_handed (Unfit (hash place)) declared o t s refl
asked_handed Front declared o t place x s = offered_handed false declared o t (record s { texts = x ∷ s.texts })
asked_handed Whole declared o t place x s = offered_handed false declared o t (record s { texts = x ∷ s.texts })

sign_handed : (texts : List Text) (w : Option ConditionalWord) (place : Place) (declared : ℕ) (o : Out) (t : SourceToken) (s : Sides)
    → Handed (behind_sign w place declared o t (record s { texts = texts })).given
sign_handed texts (Some w) place declared o t s = begun_handed w t place true (record s { sign = None; texts = texts })
sign_handed [] None place declared o t s = alone_handed (Kept (hash place)) declared o t (record s { sign = None }) refl
sign_handed (Sign begins ∷ texts) None place declared o t s = alone_handed (Unfit (hash place)) declared o t (record s { sign = None }) refl
sign_handed (Ended begins ∷ texts) None place declared o t s =
    alone_handed (Unfit (hash place)) declared o t (record s { sign = None }) refl
sign_handed (Directive begins is_inner w first others ∷ texts) None place declared o t s =
    let more = others ++ asked declared o (hash place) ∷ [] in
    asked_handed (form_of w first more) declared o t place (Directive begins is_inner w first more)
    (record s { sign = None; texts = texts })

-- Lemmas about any token

kept_handed : (sign : Option Place) (is_between : Bool) (declared : ℕ) (o : Out) (t : SourceToken) (s : Sides)
    → Handed (kept_step sign is_between declared o t s).given
kept_handed None true declared o t s = offered_handed (has_none s.texts) declared o t s
kept_handed None false declared o t s = offered_handed false declared o t s
kept_handed (Some place) is_between declared o t s = sign_handed s.texts (word_of (keyword t)) place declared o t s

left_handed : (declared : ℕ) (o : Out) (t : SourceToken) (s : Sides) → Handed (left_step declared o t s).given
left_handed declared o t s =
    let ended = record s { sides = at_end s.sides; sign = None } in
    of_both (λ (n : SideStep). Handed n.given) (is_end t.kind) (offered false declared o t ended)
    (giving (passed_over (word_of (keyword t)) t s) []) (λ _. offered_handed false declared o t ended) (λ _. NoneHanded tt)

step_handed : (is_between : Bool) (declared : ℕ) (o : Out) (t : SourceToken) (s : Sides) → Handed (step is_between declared o t s).given
step_handed is_between declared o t s =
    of_both (λ (n : SideStep). Handed n.given) (all_stay s.sides) (kept_step s.sign is_between declared o t s) (left_step declared o t s)
    (λ _. kept_handed s.sign is_between declared o t s) (λ _. left_handed declared o t s)

-- Lemmas about tokens that are passed over

none_heard : (is_quiet : Bool) (given : List GivenBySides) → NoneIn given → NoneIn (heard is_quiet given)
none_heard false given none = none
none_heard true [] none = tt
none_heard true (by_sides.Kept t ∷ given) none = absurd none
none_heard true (by_sides.Unfit t ∷ given) none = absurd none
none_heard true (by_sides.Lone place ∷ given) none = none_heard true given none
none_heard true (by_sides.Ends place ∷ given) none = none_heard true given none

one_heard : (is_quiet : Bool) (given : Given) (rest : List GivenBySides)
    → heard is_quiet (as_given given ∷ rest) ≡ as_given given ∷ heard is_quiet rest
one_heard false given rest = refl
one_heard true (Kept t) rest = refl
one_heard true (Unfit t) rest = refl

-- Lemmas about steps

pub none_free : (limits : Limits) (files : FileNames) (given : List GivenBySides) → NoneIn given → NoneGiven (steps_of_all limits files given)
none_free limits files [] none = tt
none_free limits files (by_sides.Kept t ∷ given) none = absurd none
none_free limits files (by_sides.Unfit t ∷ given) none = absurd none
none_free limits files (by_sides.Lone place ∷ given) none = none_free limits files given none
none_free limits files (by_sides.Ends place ∷ given) none = none_free limits files given none

one_step : (limits : Limits) (files : FileNames) (given : Given) (rest : List GivenBySides)
    → steps_of_all limits files (as_given given ∷ rest) ≡ Reads given ∷ steps_of_all limits files rest
one_step limits files (Kept t) rest = refl
one_step limits files (Unfit t) rest = refl

heard_steps : (limits : Limits) (files : FileNames) (is_quiet : Bool) (given : Given) (rest : List GivenBySides)
    → steps_of_all limits files (heard is_quiet (as_given given ∷ rest)) ≡ Reads given ∷ steps_of_all limits files (heard is_quiet rest)
heard_steps limits files is_quiet given rest =
    ap (steps_of_all limits files) (one_heard is_quiet given rest) ∙ one_step limits files given (heard is_quiet rest)

shape_by : (limits : Limits) (files : FileNames) (said : Option Said) (is_quiet : Bool) (all : List GivenBySides) → Handed all
    → Shape (token_steps limits files said (heard is_quiet all))
shape_by limits files said is_quiet all (NoneHanded none) = NoToken (none_free limits files (heard is_quiet all) (none_heard is_quiet all none))
shape_by limits files said is_quiet all (OneHanded given rest is none) =
    let m = said_between limits files said in
    OneToken m given (steps_of_all limits files (heard is_quiet rest))
    (ap (λ (xs : List GivenBySides). token_steps limits files said (heard is_quiet xs)) is
    ∙ ap (λ (xs : List Step). Passes m ∷ xs) (heard_steps limits files is_quiet given rest))
    (none_free limits files (heard is_quiet rest) (none_heard is_quiet rest none))
shape_by limits files said is_quiet all (TwoHanded given next rest is is_hash none) =
    let m = said_between limits files said in
    TwoTokens m given next (steps_of_all limits files (heard is_quiet rest))
    (ap (λ (xs : List GivenBySides). token_steps limits files said (heard is_quiet xs)) is
    ∙ (ap (λ (xs : List Step). Passes m ∷ xs) (heard_steps limits files is_quiet given (as_given next ∷ rest))
    ∙ ap (λ (xs : List Step). Passes m ∷ Reads given ∷ xs) (heard_steps limits files is_quiet next rest)))
    is_hash (none_free limits files (heard is_quiet rest) (none_heard is_quiet rest none))

steps_shape : (limits : Limits) (files : FileNames) (said : Option Said) (is_quiet is_between : Bool) (declared : ℕ) (o : Out)
    (t : SourceToken) (s : Sides) → Shape (token_steps limits files said (heard is_quiet (step is_between declared o t s).given))
steps_shape limits files said is_quiet is_between declared o t s =
    shape_by limits files said is_quiet (step is_between declared o t s).given (step_handed is_between declared o t s)

-- Conditional directives ask for nothing.

all_mild : (limits : Limits) (files : FileNames) (given : List GivenBySides) → AllMild (steps_of_all limits files given)
all_mild limits files [] = tt
all_mild limits files (by_sides.Kept t ∷ given) = all_mild limits files given
all_mild limits files (by_sides.Unfit t ∷ given) = all_mild limits files given
all_mild limits files (by_sides.Lone place ∷ given) = ((λ a. refl), all_mild limits files given)
all_mild limits files (by_sides.Ends place ∷ given) = ((λ a. refl), all_mild limits files given)

steps_mild : (limits : Limits) (files : FileNames) (said : Option Said) (given : List GivenBySides)
    → AllMild (token_steps limits files said given)
steps_mild limits files said given = ((λ a. refl), all_mild limits files given)

-- Lemmas about the next token at a position

pub shape_at : (limits : Limits) (o : Choices) (p : Position) (s : State) → Shape (steps_at limits o p s)
shape_at limits o p s =
    steps_shape limits s.nesting.names (told_at o p s).said p.is_passed p.is_front s.declared s.work.output (coming p s) s.sides

pub mild_at : (limits : Limits) (o : Choices) (p : Position) (s : State) → AllMild (steps_at limits o p s)
mild_at limits o p s = steps_mild limits s.nesting.names (told_at o p s).said (heard p.is_passed (step_at p s).given)
