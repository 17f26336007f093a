-- Tokens as they are read, one after the other, by the machine of the grammar; and a routine as a whole, from its opening bracket to its
-- semicolon. Designer's Manual, fourth edition, section 1.3.
use Rattle.std.specs.Prelude.{ℕ, zero, suc, Bool, true, ◌&&◌, List, [], ◌∷◌, ◌++◌, Option, Some, None, max}
use Rattle.inf_settings.specs.Bounds.{Limits}
use Rattle.inf_scanner.specs.declared.tokens.Place.{Place}
use Rattle.inf_machine.specs.{Machine.fits, Machine.taken, declared.symbols.Symbol.Symbol}
use Rattle.inf_syntax.specs.declared.actions.Action.{Action}
use Rattle.inf_grammar.specs.{Language.grammar, Language.known, Routines.closings}
use Rattle.inf_code.specs.Code.{labels}
use Rattle.inf_output.specs.Output.{begun, full}
use Rattle.inf_unit.specs.{Messages.FileNames, Messages.with_full, Tokens.SourceToken}
use Rattle.inf_compilation.specs.{Actions.Compilation, Actions.took, Context.Context, Nesting.closed_ahead}
use Rattle.inf_reader.specs.Acting.{all_acted}
use Rattle.inf_statement_laws.specs.{Laid.happens, Laid.laid, Laid.passed, Laid.run, Nested.Nested, Nested.happenings}
use Rattle.inf_statement_laws.specs.Happenings.{Acts, Between, Happening, Moment, Quiet, Takes}

-- Definitions of the effect between two tokens

abbrev pub nothing_between : Between
nothing_between = record { report = λ o r. r; output = λ o. o; most_labels = λ o n. n; asked = λ a. a }

abbrev pub then_between : Between → Between → Between
then_between m n = record {
  report = λ o r. n.report (m.output o) (m.report o r);
  output = λ o. n.output (m.output o);
  most_labels = λ o k. n.most_labels (m.output o) (m.most_labels o k);
  asked = λ a. n.asked (m.asked a);
}

abbrev pub plainly_at : Place → Moment
plainly_at place = record { place = place; behind = nothing_between }

-- the effect of a conditional directive that ends at a place
abbrev pub directive_between : Limits → FileNames → Place → Between
directive_between limits files place = record nothing_between {
  report = λ o r. with_full files place (full limits (begun limits o)) r;
  output = begun limits;
  most_labels = λ o n. max n (labels (begun limits o).code);
}

-- Definitions of tokens

-- A token with its atom, by which the grammar knows it, the effect behind it, and the effect from where the first
-- conditional directive ends behind it, if one does.
pub record Seen : Type 0 where
  pub token : SourceToken
  pub atom : ℕ
  pub behind : Between
  pub directive : Option Between

-- whether tokens fit the symbols that are still to be read, one after the other, and the symbols that are left behind them
abbrev pub all_fit : List Seen → List (Symbol Action) → Bool
all_fit [] symbols = true
all_fit (s ∷ seen) symbols = fits grammar known s.atom symbols && all_fit seen (taken grammar known s.atom symbols).left

abbrev pub left_behind : List Seen → List (Symbol Action) → List (Symbol Action)
left_behind [] symbols = symbols
left_behind (s ∷ seen) symbols = left_behind seen (taken grammar known s.atom symbols).left

-- A conditional directive closes ahead the statements that end next, whatever the next token is.
abbrev pub directed : Limits → Option Between → ℕ → Compilation → Compilation
directed limits None count w = w
directed limits (Some m) count w = passed m (closed_ahead limits count w)

-- Each token is taken behind the actions on the way to it.
abbrev pub all_taken : Limits → Context → List Seen → List (Symbol Action) → Compilation → Compilation
all_taken limits context [] symbols w = w
all_taken limits context (s ∷ seen) symbols w =
    let n = taken grammar known s.atom symbols in
    all_taken limits context seen n.left
    (directed limits s.directive (closings n.left)
    (passed s.behind (took context s.token (all_acted limits context s.token.place n.actions w))))

-- Definitions of the happenings of tokens

-- the happenings of one token, behind some actions
abbrev pub token_happenings : SourceToken → Between → List Action → List Happening
token_happenings t m [] = Takes t m ∷ []
token_happenings t m (a ∷ actions) = Acts (plainly_at t.place) a ∷ token_happenings t m actions

-- The effect from where a conditional directive ends comes behind the ends of the statements that it closes ahead.
abbrev pub with_behind : Between → Happening → Happening
with_behind m (Acts at a) = Acts (record at { behind = then_between at.behind m }) a
with_behind m (Takes t b) = Takes t (then_between b m)

abbrev pub behind_some : ℕ → Between → List Happening → List Happening
behind_some count m [] = []
behind_some zero m (h ∷ happenings) = h ∷ happenings
behind_some (suc zero) m (h ∷ happenings) = with_behind m h ∷ happenings
behind_some (suc (suc count)) m (h ∷ happenings) = h ∷ behind_some (suc count) m happenings

abbrev pub behind_ends : Option Between → ℕ → List Happening → List Happening
behind_ends None count happenings = happenings
behind_ends (Some m) count happenings = behind_some count m happenings

-- The effect of a directive that closes no statement comes behind the token.
abbrev pub behind_token : Option Between → ℕ → Between → Between
behind_token None count b = b
behind_token (Some m) zero b = then_between b m
behind_token (Some m) (suc count) b = b

abbrev pub all_happenings : List Seen → List (Symbol Action) → List Happening
all_happenings [] symbols = []
all_happenings (s ∷ seen) symbols =
    let n = taken grammar known s.atom symbols in
    token_happenings s.token (behind_token s.directive (closings n.left) s.behind) n.actions
    ++ behind_ends s.directive (closings n.left) (all_happenings seen n.left)

-- A routine: its header, its statements, and its end

pub record Routine : Type 0 where
  pub header : Quiet
  pub heads : Moment
  pub semicolon : Quiet
  pub body : Nested true
  pub ends : Moment
  pub last : Quiet

abbrev pub routine_happenings : Routine → List Happening
routine_happenings r =
    r.header.all ++ Acts r.heads Action.EndLocals
    ∷ (r.semicolon.all ++ (happenings r.body ++ Acts r.ends Action.EndRoutine ∷ r.last.all))

-- the compilation before the end of a routine, and behind it
abbrev pub body_laid : Limits → Context → Routine → Compilation → Compilation
body_laid limits context r w =
    laid limits context r.body (run limits context r.semicolon.all (happens limits context (Acts r.heads Action.EndLocals)
    (run limits context r.header.all w)))

abbrev pub routine_laid : Limits → Context → Routine → Compilation → Compilation
routine_laid limits context r w =
    run limits context r.last.all (happens limits context (Acts r.ends Action.EndRoutine) (body_laid limits context r w))
