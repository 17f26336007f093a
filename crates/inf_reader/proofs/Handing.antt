-- The end of a source ends the reading, however it is handed on.
use Rattle.std.proofs.Common.{◌≡◌, ℕ, List, Bool, true, false, Option, Some, None, refl, ap, ◌∙◌}
use Rattle.inf_settings.specs.Bounds.{Limits}
use Rattle.inf_scanner.specs.{declared.tokens.Place.Place, declared.tokens.TokenKind.TokenKind}
use Rattle.inf_compilation.specs.Context.{Context}
use Rattle.inf_unit.specs.Tokens.{SourceToken}
use Rattle.inf_conditionals.specs.{declared.filtered.Filtered.Filtered, declared.filtered.Forwarded.Forwarded}
use Rattle.inf_conditionals.proofs.Ending.{is_on}
use Rattle.inf_reader.specs.{Reading.ReaderState, declared.recovery.Recovery.Recovery}
use Rattle.inf_reader.specs.Handing.{handed_as, judged_taken, lone_told, sign_taken, token_taken, unfit_in, unit_ended}
use Rattle.inf_reader.proofs.Turns.{end_at}

abbrev end_of : List ℕ → Place → Bool → SourceToken
end_of bytes place named = record { kind = TokenKind.End; bytes = bytes; place = place; is_class = named }

unfit_end : (limits : Limits) (m : Recovery) (context : Context) (bytes : List ℕ) (place : Place) (named : Bool) (s : ReaderState) →
    s.reading.mode ≡ m → (unfit_in limits m context (end_of bytes place named) s).reading.mode ≡ Recovery.Ended
unfit_end limits Recovery.Reads context bytes place named s e = refl
unfit_end limits Recovery.SkipsRoutine context bytes place named s e =
    end_at limits s.reading.mode context TokenKind.End bytes place named s.reading s.work refl refl
unfit_end limits Recovery.SkipsDirective context bytes place named s e =
    end_at limits s.reading.mode context TokenKind.End bytes place named s.reading s.work refl refl
unfit_end limits Recovery.Ended context bytes place named s e =
    end_at limits s.reading.mode context TokenKind.End bytes place named s.reading s.work refl refl

end_handed : (limits : Limits) (h : Forwarded) (context : Context) (bytes : List ℕ) (place : Place) (named : Bool) (s : ReaderState) →
    is_on h ≡ true → (handed_as limits h context (end_of bytes place named) s).reading.mode ≡ Recovery.Ended
end_handed limits Forwarded.Condition context bytes place named s on = let never : false ≡ true = on in cc
end_handed limits Forwarded.Kept context bytes place named s on =
    end_at limits s.reading.mode context TokenKind.End bytes place named s.reading s.work refl refl
end_handed limits Forwarded.Unfit context bytes place named s on = unfit_end limits s.reading.mode context bytes place named s refl

lone_mode : (unmatched : Option Place) (context : Context) (s : ReaderState) → (lone_told unmatched context s).reading.mode ≡ s.reading.mode
lone_mode None context s = refl
lone_mode (Some place) context s = refl

ended_mode : (limits : Limits) (ended : Option Place) (context : Context) (s : ReaderState) →
    (unit_ended limits ended context s).reading.mode ≡ s.reading.mode
ended_mode limits None context s = refl
ended_mode limits (Some place) context s = refl

pub end_taken : (limits : Limits) (context : Context) (bytes : List ℕ) (place : Place) (named : Bool) (j : Filtered) (h : Forwarded)
    (s : ReaderState) → j.token ≡ Some h → is_on h ≡ true
    → (judged_taken limits context (end_of bytes place named) j s).reading.mode ≡ Recovery.Ended
end_taken limits context bytes place named j h s e on =
    let told =
    lone_told j.unmatched context (token_taken limits j.token context (end_of bytes place named) (sign_taken limits j.sign context s)) in
    ended_mode limits j.ended context told
    ∙ lone_mode j.unmatched context (token_taken limits j.token context (end_of bytes place named) (sign_taken limits j.sign context s))
    ∙ ap (λ o. (token_taken limits o context (end_of bytes place named) (sign_taken limits j.sign context s)).reading.mode) e
    ∙ end_handed limits h context bytes place named (sign_taken limits j.sign context s) on
