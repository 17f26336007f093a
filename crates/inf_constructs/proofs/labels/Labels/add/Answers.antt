use Rattle.std.proofs.Common.{◌≡◌, List, None, sym, ◌∙◌, ap, map}
use Rattle.std.proofs.lemmas.Result.{MatchResult-from_err}
use Rattle.std.specs.Prelude.{⊤, option_map}
use Rattle.inf_names.specs.Symbols.{folded}
use Rattle.inf_constructs.specs.{Entries.as_named, Entries.known, Labels.Known, Labels.NamedLabel, Labels.known_of, Labels.put}
use Rattle.inf_constructs.proofs.Named.{known_of-lookup, put-insert}
use Rattle.inf_constructs.proofs.labels.Labels.add.Goals as goal

pub returns-clause-ok : goal.returns-clause-ok
returns-clause-ok c =
    let es = c.self.inside.entries.entries in
    let entry : Known = record { spelling = c.args.spelling.items; label = c.args.label; is_given = c.args.is_given } in
    ap (map as_named) c.in_ok-insert.ensures.entries ∙ put-insert _ _ es ∙ ap (λ k. put k entry (map as_named es)) c.folded.ensures
    ∙ ap (λ (labels : List NamedLabel). put (folded c.args.name.now) entry labels) c.self.view_is

pub returns-in_err-insert-clause-memory : goal.returns-in_err-insert-clause-memory
returns-in_err-insert-clause-memory c =
    let es = c.self.inside.entries.entries in
    let new : known_of (folded c.args.name.now) c.args.self.now ≡ None = sym (ap (known_of (folded c.args.name.now)) c.self.view_is)
    ∙ ap (λ k. known_of k (map as_named es)) (sym c.folded.ensures) ∙ known_of-lookup c.folded.result.items es
    ∙ ap (option_map known) c.in_err-insert.ensures.absent in
    MatchResult-from_err c.from_residual.result (λ _. ⊤) (λ _. known_of (folded c.args.name.now) c.args.self.now ≡ None)
    c.from_residual.ensures.0 (λ fault. new)
