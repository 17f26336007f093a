-- The end of a file ends its reading, however it is read.
use Rattle.std.proofs.Common.{◌≡◌, ℕ, List, [], ◌∷◌, Bool, cond, true, refl, ap}
use Rattle.inf_settings.specs.Bounds.{Limits}
use Rattle.inf_scanner.specs.{declared.tokens.Place.Place, declared.tokens.TokenKind.TokenKind}
use Rattle.inf_unit.specs.Tokens.{SourceToken, is_end}
use Rattle.inf_syntax.specs.declared.actions.Action.{Action}
use Rattle.inf_machine.specs.declared.symbols.Symbol.{Symbol}
use Rattle.inf_compilation.specs.{Actions.Compilation, Context.Context}
use Rattle.inf_reader.specs.Reading.{Reading, bad, took, judged, read_at, step_in}
use Rattle.inf_reader.specs.declared.recovery.Recovery.{Recovery}
use Rattle.inf_conditionals.proofs.Misfits.{end_fits_nothing}

-- The end of the source ends the reading

-- the end of the source fits nowhere, so in a piece it is the bad token
end_in_piece : (limits : Limits) (context : Context) (bytes : List ℕ) (place : Place) (named : Bool) (r : Reading) (w : Compilation)
    → (judged limits context (record { kind = TokenKind.End; bytes = bytes; place = place; is_class = named }) r w).reading.mode ≡
    Recovery.Ended
end_in_piece limits context bytes place named r w =
    let t : SourceToken = record { kind = TokenKind.End; bytes = bytes; place = place; is_class = named } in
    ap (λ b. (cond b (took limits context t r w) (bad limits context t r w)).reading.mode) (end_fits_nothing r.stack)

end_read : (limits : Limits) (context : Context) (bytes : List ℕ) (place : Place) (named : Bool) (stack : List (Symbol Action))
    (r : Reading) (w : Compilation)
    → (read_at limits context (record { kind = TokenKind.End; bytes = bytes; place = place; is_class = named }) stack r w).reading.mode ≡
    Recovery.Ended
end_read limits context bytes place named [] r w = refl
end_read limits context bytes place named (symbol ∷ stack) r w = end_in_piece limits context bytes place named r w

pub end_at : (limits : Limits) (m : Recovery) (context : Context) (k : TokenKind) (bytes : List ℕ) (place : Place) (named : Bool)
    (r : Reading) (w : Compilation) → is_end k ≡ true → r.mode ≡ m
    → (step_in limits m context (record { kind = k; bytes = bytes; place = place; is_class = named }) r w).reading.mode ≡ Recovery.Ended
end_at limits Recovery.Reads context TokenKind.End bytes place named r w h e = end_read limits context bytes place named r.stack r w
end_at limits Recovery.SkipsRoutine context TokenKind.End bytes place named r w h e = refl
end_at limits Recovery.SkipsDirective context TokenKind.End bytes place named r w h e = refl
end_at limits Recovery.Ended context TokenKind.End bytes place named r w h e = e
end_at limits m context (TokenKind.Mark mark) bytes place named r w h e = cc
end_at limits m context TokenKind.Name bytes place named r w h e = cc
end_at limits m context (TokenKind.Number n) bytes place named r w h e = cc
end_at limits m context TokenKind.Text bytes place named r w h e = cc
end_at limits m context (TokenKind.Char c) bytes place named r w h e = cc
end_at limits m context (TokenKind.Word word) bytes place named r w h e = cc
end_at limits m context (TokenKind.Bad b) bytes place named r w h e = cc
