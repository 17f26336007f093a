-- The header of a routine: its locals are those of its names, though no token of it is kept. Designer's Manual, fourth
-- edition, section 1.4.
use Rattle.std.specs.Prelude.{◌≡◌, List, [], ◌∷◌, map, false}
use Rattle.inf_scanner.specs.declared.tokens.TokenKind.{TokenKind}
use Rattle.inf_syntax.specs.declared.actions.Action.{Action}
use Rattle.inf_names.specs.{Locals.with_locals, Spellings.Name}
use Rattle.inf_unit.specs.{Tokens.SourceToken, Units.Unit as UnitAtHand, Units.acted, Units.taken}

-- Tells whether each token is a name.
abbrev pub AreNames : List SourceToken → Type 0
AreNames [] = Unit {0}
AreNames (t ∷ tokens) = (t.kind ≡ TokenKind.Name) × AreNames tokens

-- the name that a token spells
abbrev pub as_name : SourceToken → Name
as_name t = record { bytes = t.bytes; place = t.place }

-- the unit once each token was taken and noted as a local
abbrev pub locals_read : List SourceToken → UnitAtHand → UnitAtHand
locals_read [] u = u
locals_read (t ∷ tokens) u = locals_read tokens (acted Action.Local (taken t u))

-- The unit has the locals of the names behind those that it had, and is unchanged otherwise, where the tokens are names.
abbrev pub HeadersHaveTheirLocals : Type 0
HeadersHaveTheirLocals = (names : List SourceToken) (u : UnitAtHand) → AreNames names → u.is_over ≡ false
    → locals_read names u ≡ record u { headed = with_locals (map as_name names) u.headed }
