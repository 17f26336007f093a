-- At the end of a file reading ends.
use Rattle.std.proofs.Common.{◌≡◌, ℕ, List, Bool, true, ap, sym, subst, ◌∙◌}
use Rattle.inf_settings.specs.Bounds.{Limits}
use Rattle.inf_scanner.specs.{declared.tokens.Place.Place, declared.tokens.TokenKind.TokenKind}
use Rattle.inf_output.specs.Output.{Out}
use Rattle.inf_compilation.specs.Context.{Context}
use Rattle.inf_unit.specs.Tokens.{SourceToken}
use Rattle.inf_conditionals.specs.{Open.Conditions, declared.filtered.Filtered.Filtered, declared.filtered.Site.Site}
use Rattle.inf_conditionals.specs.Judging.{Behind, judged}
use Rattle.inf_conditionals.proofs.Ending.{end_is_handed, end_of}
use Rattle.inf_reader.proofs.Handing.{end_taken}
use Rattle.inf_reader.specs.{Handing.judged_taken, Reading.ReaderState, Reading.is_mode_ended}

abbrev pub spelled_as : TokenKind → List ℕ → Place → Bool → SourceToken
spelled_as k bytes place named = record { kind = k; bytes = bytes; place = place; is_class = named }

at_end : (limits : Limits) (context : Context) (bytes : List ℕ) (place : Place) (named : Bool) (out : Out) (c : Conditions)
    (s : ReaderState) (site : Site) (now : Conditions) (j : Filtered)
    → record { now = now; judged = j } ≡ judged site out (end_of bytes place named) c → is_mode_ended
    (judged_taken limits context (end_of bytes place named) j s).reading.mode ≡ true
at_end limits context bytes place named out c s site now j e =
    let h = end_is_handed site out bytes place named c in
    ap is_mode_ended (end_taken limits context bytes place named j h.handed s (ap (λ (b : Behind). b.judged.token) e ∙ h.is) h.on)

-- the end of a file is handed on, in some way, and ends the reading
pub end_ends : (limits : Limits) (context : Context) (k : TokenKind) (bytes : List ℕ) (place : Place) (named : Bool) (out : Out)
    (c : Conditions) (s : ReaderState) (site : Site) (now : Conditions) (j : Filtered)
    → record { now = now; judged = j } ≡ judged site out (spelled_as k bytes place named) c → k ≡ TokenKind.End
    → is_mode_ended (judged_taken limits context (spelled_as k bytes place named) j s).reading.mode ≡ true
end_ends limits context k bytes place named out c s site now j e is =
    subst (λ (x : TokenKind). is_mode_ended (judged_taken limits context (spelled_as x bytes place named) j s).reading.mode ≡ true) (sym is)
    (at_end limits context bytes place named out c s site now j
    (subst (λ (x : TokenKind). record { now = now; judged = j } ≡ judged site out (spelled_as x bytes place named) c) is e))
