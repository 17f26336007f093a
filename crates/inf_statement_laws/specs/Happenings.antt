-- The happenings of a compilation while a text of the grammar is read: actions act, each before a token at a place, and
-- tokens are taken. Behind a token, before the next one comes, more may happen, which leaves the statements that are open.
use Rattle.std.specs.Prelude.{◌≡◌, ℕ, ◌&&◌, Bool, true, false, List, [], ◌∷◌}
use Rattle.inf_scanner.specs.declared.tokens.Place.{Place}
use Rattle.inf_machine.specs.{Grammar.Did, Grammar.Event, Grammar.IsText, Grammar.Took, declared.symbols.Symbol.Symbol}
use Rattle.inf_syntax.specs.declared.actions.Action.{Action}
use Rattle.inf_syntax.specs.declared.parts.names.TheConstants as Part
use Part.{DIRECTIVE_2, DO_REST, FOR_REST, IF_REST, OBJECTLOOP_REST, SWITCH_REST, VALUE_3, WHILE_REST}
use Rattle.inf_grammar.specs.Language.{grammar}
use Rattle.inf_output.specs.Output.{Out}
use Rattle.inf_unit.specs.{Directives.Request, Messages.Reported, Roles.role_of, Tokens.SourceToken, declared.roles.Ending.Ending}
use Rattle.inf_unit.specs.{declared.roles.Role.Role}

-- The effect of conditional directives between two tokens: they may report something and begin code, and the report is
-- written. Open statements stay open.
pub record Between : Type 0 where
  pub report : Out → Reported → Reported
  pub output : Out → Out
  pub most_labels : Out → ℕ → ℕ
  pub asked : Request → Request

-- the place where an action acts, and the effect behind it, before another token comes
pub record Moment : Type 0 where
  pub place : Place
  pub behind : Between

pub data Happening : Type 0 where
  Acts : (at : Moment) (action : Action) → Happening
  Takes : (token : SourceToken) (behind : Between) → Happening

-- Tells whether happenings are those of some events of the grammar, in order: the same actions, at any places, and for each
-- token that was taken one, whichever it is, with any effect behind it.
abbrev pub AreOf : List (Event Action) → List Happening → Type 0
AreOf [] [] = Unit {0}
AreOf (Did a ∷ events) (Acts at b ∷ happenings) = (b ≡ a) × AreOf events happenings
AreOf (Took atom ∷ events) (Takes t m ∷ happenings) = AreOf events happenings
AreOf _ _ = ⊥

-- Tells whether happenings are those of a text of a symbol.
pub record IsRead (symbol : Symbol Action) (happenings : List Happening) : Type 0 where
  pub atoms : List ℕ
  pub events : List (Event Action)
  pub is_text : IsText grammar (symbol ∷ []) atoms events
  pub are : AreOf events happenings

-- the rules behind the words of the statements that hold others
abbrev pub rests : List (Symbol Action)
rests = IF_REST ∷ WHILE_REST ∷ DO_REST ∷ FOR_REST ∷ OBJECTLOOP_REST ∷ SWITCH_REST ∷ []

-- the rules between the header and the end of a routine, and of one that is a value of a property
abbrev pub bodies : List (Symbol Action)
bodies = DIRECTIVE_2 ∷ VALUE_3 ∷ []

-- Whether an action neither opens a statement that holds others nor goes on with one nor ends one, whatever unit it may
-- end. Actions outside of statements count as ones that do.
abbrev pub is_quiet_end : Ending → Bool
is_quiet_end Ending.Statement = true
is_quiet_end Ending.Condition = true
is_quiet_end Ending.Start = true
is_quiet_end Ending.Switched = true
is_quiet_end _ = false

abbrev pub is_quiet_role : Role → Bool
is_quiet_role (Role.End e) = is_quiet_end e
is_quiet_role (Role.Open o) = false
is_quiet_role Role.Join = false
is_quiet_role Role.Close = false
is_quiet_role _ = true

abbrev pub is_quiet : Action → Bool
is_quiet a = is_quiet_role (role_of a)

abbrev pub happens_quietly : Happening → Bool
happens_quietly (Acts at a) = is_quiet a
happens_quietly (Takes t m) = true

abbrev pub happen_quietly : List Happening → Bool
happen_quietly [] = true
happen_quietly (h ∷ happenings) = happens_quietly h && happen_quietly happenings

-- Tokens and actions by which no statement that holds others is opened, goes on or ends
pub record Quiet : Type 0 where
  pub all : List Happening
  pub are : happen_quietly all ≡ true
