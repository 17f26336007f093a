-- The code has the entries in the order of the names.
use Rattle.std.proofs.Common.{sym, ◌∙◌, ap, option_map}
use Rattle.inf_names.specs.{Entries.standing, Symbols.Table, Symbols.standing_at}
use Rattle.inf_names.proofs.Putting.{standing_at-get}
use Rattle.inf_names.proofs.symbols.Symbols.entry_at.Goals as goal

pub returns-in_err-entry : goal.returns-in_err-entry
returns-in_err-entry g c = ap (option_map (λ e. standing e.now)) c.from_residual.ensures
    ∙ ap (option_map (λ e. standing e.1)) c.in_err-entry.ensures.entry ∙ sym (standing_at-get c.args.number c.self.inside.entries.entries)
    ∙ ap (λ (t : Table _). standing_at c.args.number t.names) c.self.view_is

pub returns : goal.returns
returns g c = ap (option_map (λ e. standing e.1)) c.in_ok-entry.ensures.entry
    ∙ sym (standing_at-get c.args.number c.self.inside.entries.entries)
    ∙ ap (λ (t : Table _). standing_at c.args.number t.names) c.self.view_is
