-- The reading of the tokens of a text that is read by itself: the bad one is the first with which they begin none.
use Rattle.std.specs.Prelude.{◌≡◌, ℕ, suc, List, [], ◌∷◌, ◌++◌, map}
use Rattle.inf_settings.specs.Bounds.{Limits}
use Rattle.inf_devices.specs.Files.{Sources}
use Rattle.inf_machine.specs.{Grammar.Begins, Grammar.Event, Grammar.IsOneOf, Grammar.IsText, declared.symbols.Symbol.Symbol}
use Rattle.inf_syntax.specs.declared.actions.Action.{Action}
use Rattle.inf_grammar.specs.Language.{grammar}
use Rattle.inf_unit.specs.Tokens.{SourceToken, atom_of}
use Rattle.inf_reader.specs.{Reading.Reading, Reading.between, declared.recovery.Recovery.Recovery}
use Rattle.inf_session.specs.{Choices.Choices, Session.State, Session.stepped}
use Rattle.inf_laws.specs.KeptTokens.{Given, GoesBehind, Kept, Unfit, all_given_to, skipped}
use Rattle.inf_laws.specs.KeptTurns.{StayInFile, given_in, turned}
use Rattle.inf_calls.specs.Calls.{begun_with_rule}
use Rattle.inf_call_laws.specs.Texts.{alone_rules, text_begun}

-- Tokens with these atoms are a text of a rule.
pub record IsTextOf (rule : ℕ) (atoms : List ℕ) : Type 0 where
  pub events : List (Event Action)
  pub is_text : IsText grammar (Symbol.Rule rule ∷ []) atoms events

-- Tokens with these atoms begin a text of a rule, as far as they go.
pub record BeginsText (rule : ℕ) (atoms : List ℕ) : Type 0 where
  pub begins : Begins grammar (Symbol.Rule rule ∷ []) atoms

-- The bad token of a text, behind tokens that begin it: one that does not fit a conditional directive, or one that is kept and with which
-- they begin no text, as the end of a file.
abbrev pub IsBad : ℕ → List SourceToken → Given → Type 0
IsBad rule tokens (Kept t) = BeginsText rule (map atom_of (tokens ++ t ∷ [])) → ⊥
IsBad rule tokens (Unfit t) = Unit {0}

-- The state of the reading behind the tokens that were handed on since the text began: within it; behind it, where it is whole; or behind a
-- bad token, which is passed over with those behind it, up to the first semicolon among these.
pub data TextStands (rule : ℕ) (given : List Given) (r : Reading) : Type 0 where
  InAText : (tokens : List SourceToken) → given ≡ map Kept tokens → BeginsText rule (map atom_of tokens) → r.mode ≡ Recovery.Reads →
      TextStands rule given r
  BehindAText : (tokens : List SourceToken) → given ≡ map Kept tokens → IsTextOf rule (map atom_of tokens) → r ≡ between Recovery.Reads →
      TextStands rule given r
  BehindABadToken : (tokens : List SourceToken) (bad : Given) (behind : List Given) → given ≡ map Kept tokens ++ bad ∷ behind →
      BeginsText rule (map atom_of tokens) → IsBad rule tokens bad →
      r ≡ between (skipped Recovery.SkipsDirective (bad ∷ behind)) → TextStands rule given r

-- The tokens that are handed on decide how a text is read, as long as it goes on and with its last token (`read`); and so they do where
-- turns hand them on, in which no file ends before the last (`turns`).
pub record BadTokensOfTexts (limits : Limits) : Type 0 where
  pub read : (rule : ℕ) → IsOneOf rule alone_rules → (given : List Given) (r : Reading) → r ≡ text_begun rule → GoesBehind given r
      → TextStands rule given (all_given_to given r)
  pub turns : (rule : ℕ) → IsOneOf rule alone_rules → (sources : Sources) (o : Choices) (n : ℕ) (s : State)
      → s.reading ≡ between Recovery.Reads → StayInFile limits sources o n (begun_with_rule rule s)
      → GoesBehind (given_in limits sources o (suc n) (begun_with_rule rule s)) (text_begun rule)
      → TextStands rule (given_in limits sources o (suc n) (begun_with_rule rule s))
      (stepped limits o (turned limits sources o n (begun_with_rule rule s))).reading
