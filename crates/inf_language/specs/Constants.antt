-- The reports of the tokens of an expression beside its unit, and the compilation between two pieces.
use Rattle.std.specs.Prelude.{ℕ, ◌+◌, List, [], ◌∷◌, ◌++◌, length, max, nat_lt, Bool, ◌&&◌, Option, Some, None}
use Rattle.std.specs.Prelude.{if◌then◌else◌}
use Rattle.inf_settings.specs.declared.setting.Setting.{Setting}
use Rattle.inf_scanner.specs.declared.tokens.Place.{Place}
use Rattle.inf_report.specs.Messages.{Exceeded}
use Rattle.inf_constructs.specs.Constructs.{depth as open_depth}
use Rattle.inf_unit.specs.{Messages.location, Messages.with_fatal, Tokens.SourceToken}
use Rattle.inf_unit.specs.Units.{depth_behind, no_unit, place_at}
use Rattle.inf_compilation.specs.Context.{Context, longest}
use Rattle.inf_compilation.specs.Actions.{Compilation, most_nested, nested, opens}
use Rattle.inf_statement_laws.specs.{Laid.passed, Readings.Seen}

-- The report of a token up to which its expression has `count` tokens. Where one of these is the first that is too many, a
-- message there ends the compilation; where none is, `count` counts for the longest expression.
abbrev pub length_told : Context → Option Place → ℕ → Compilation → Compilation
length_told context None count w = record w { most_tokens = max w.most_tokens count }
length_told context (Some too_many) count w =
    record w { report = with_fatal (location context.names too_many) (Exceeded Setting.ExpressionNodes) w.report }

-- whether brackets are nested too deep in one another and in statements
abbrev pub is_too_deep : ℕ → ℕ → ℕ → Bool
is_too_deep brackets statements more = nat_lt most_nested (brackets + statements + more)

-- The report of a token of an expression, with which `brackets` brackets are open: that of its count, and one where it is a
-- bracket that is nested too deep.
abbrev pub token_told : Context → SourceToken → ℕ → Option Place → ℕ → Compilation → Compilation
token_told context t brackets too_many count w =
    let v = length_told context too_many count w in
    nested context t.place (opens t.kind && is_too_deep brackets (open_depth v.constructs) 0) v

-- the place of the first token that is too many, if there is one
abbrev pub first_past : ℕ → List SourceToken → Option Place
first_past most tokens = if nat_lt most (length tokens) then place_at tokens most else None

-- The reports of the tokens of an expression, one by one, each with the conditional directives that end behind it. The
-- tokens `front` of the expression precede them, behind which `brackets` brackets are open.
abbrev pub expression_told : Context → List SourceToken → ℕ → List Seen → Compilation → Compilation
expression_told context front brackets [] w = w
expression_told context front brackets (s ∷ seen) w =
    let so_far = front ++ s.token ∷ [] in
    let behind = depth_behind s.token.kind brackets in
    expression_told context so_far behind seen
    (passed s.behind (token_told context s.token behind (first_past (longest context) so_far) (length so_far) w))

-- the number of brackets that are open behind some tokens
abbrev pub brackets_behind : List SourceToken → ℕ → ℕ
brackets_behind [] brackets = brackets
brackets_behind (t ∷ tokens) brackets = brackets_behind tokens (depth_behind t.kind brackets)

-- Definitions of pieces

-- The compilation between two pieces: there is no unit, and no word waits for its report.
abbrev pub piece_done : Compilation → Compilation
piece_done w = record w { unit = no_unit; opening = None }
