-- Tokens one behind the other, with the ends of directives between them: by the sides that are open each is handed on as by the
-- conditionals of the compiler, as long as reading stands still where no token is handed on.
use Rattle.std.specs.Prelude.{◌≡◌, ℕ, List, [], ◌∷◌, Bool, true, Option, Some, None, is_some}
use Rattle.inf_output.specs.Output.{Out}
use Rattle.inf_unit.specs.Tokens.{SourceToken}
use Rattle.inf_conditionals.specs.{Ends.piece_ended as conditions_ended, Judging.Behind, Judging.judged, Open.Conditions}
use Rattle.inf_conditionals.specs.{Open.no_conditions, declared.filtered.Site.Site}
use Rattle.inf_conditional_sides.specs.{Judged.given_of, Rests.HandsNone}
use Rattle.inf_conditional_sides.specs.Sides.{Given, Sides, heard, no_sides, piece_ended, step}

-- A token, where it comes and what is known there; and the number of names that are declared, where a directive ends behind it.
pub record Event : Type 0 where
  pub site : Site
  pub out : Out
  pub token : SourceToken
  pub ended : Option ℕ

-- Definitions by conditionals

abbrev pub ended_by : Option ℕ → Conditions → Conditions
ended_by None c = c
ended_by (Some declared) c = conditions_ended declared c

abbrev pub judged_at : Event → Conditions → Behind
judged_at e c = judged e.site e.out e.token c

-- the things that are given of each token
abbrev pub all_judged : List Event → Conditions → List (List Given)
all_judged [] c = []
all_judged (e ∷ events) c =
    given_of e.token (judged_at e c).judged ∷ all_judged events (ended_by e.ended (judged_at e c).now)

-- Definitions by sides

abbrev pub sides_ended : Option ℕ → Sides → Sides
sides_ended None s = s
sides_ended (Some declared) s = piece_ended s

abbrev pub declared_behind : Option ℕ → ℕ → ℕ
declared_behind None declared = declared
declared_behind (Some now) declared = now

abbrev pub all_given : List Event → ℕ → Sides → List (List Given)
all_given [] declared s = []
all_given (e ∷ events) declared s =
    let n = step e.site.is_between declared e.out e.token s in
    heard e.site.is_quiet n.given ∷ all_given events (declared_behind e.ended declared) (sides_ended e.ended n.now)

-- Definitions of reading

-- The next token comes between directives, or not, as this one does.
abbrev pub NextIsAt : Bool → List Event → Type 0
NextIsAt is_between [] = Unit {0}
NextIsAt is_between (e ∷ events) = e.site.is_between ≡ is_between

-- Where no token is handed on, reading stands still: the next token comes between directives if this one does, and there a directive has
-- ended where no conditional one is being read any more.
pub record StandsStill (e : Event) (b : Behind) (events : List Event) : Type 0 where
  pub stays : HandsNone b.judged → NextIsAt e.site.is_between events
  pub ends : HandsNone b.judged → e.site.is_between ≡ true → b.now.pending ≡ [] → is_some e.ended ≡ true

abbrev pub AreRead : List Event → Conditions → Type 0
AreRead [] c = Unit {0}
AreRead (e ∷ events) c =
    StandsStill e (judged_at e c) events × AreRead events (ended_by e.ended (judged_at e c).now)

-- From where nothing is open each token of a file is handed on by its sides as by the conditionals.
abbrev pub TokensGoBySides : Type 0
TokensGoBySides = (events : List Event) → AreRead events no_conditions → all_judged events no_conditions ≡ all_given events 0 no_sides
