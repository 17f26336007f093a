-- The key of a name comes behind the others, unless it is one of them.
use Rattle.std.proofs.Common.{◌≡◌, ℕ, List, [], ◌∷◌, ◌++◌, false, cond, ◌∙◌, sym, ap}
use Rattle.std.proofs.lemmas.Result.{MatchResult-from_err}
use Rattle.std.specs.{List.list_any, Str.bytes_eq}
use Rattle.std.specs.Prelude.{⊤}
use Rattle.inf_names.specs.NameSets.{is_among, with_name}
use Rattle.inf_names.proofs.NameLists.{any-spelled, spelled, spelled-insert}
use Rattle.inf_names.proofs.name_sets.NameSet.add.Goals as goal

pub returns-clause-ok : goal.returns-clause-ok
returns-clause-ok c =
    let keys = c.self.inside.keys.keys in let names = spelled keys in
    let With : List ℕ → List (List ℕ) = λ k. cond (list_any (bytes_eq k) names) names (names ++ k ∷ []) in
    ap spelled c.in_ok-insert.ensures.keys ∙ spelled-insert c.of.result keys ∙ ap With c.of.ensures
    ∙ ap (with_name c.args.name.now) c.self.view_is

pub returns-in_err-insert-clause-memory : goal.returns-in_err-insert-clause-memory
returns-in_err-insert-clause-memory c =
    let keys = c.self.inside.keys.keys in
    let new : is_among c.args.name.now c.args.self.now ≡ false =
    sym (any-spelled c.of.result.items keys ∙ ap (λ k. list_any (bytes_eq k) (spelled keys)) c.of.ensures
    ∙ ap (is_among c.args.name.now) c.self.view_is) ∙ c.in_err-insert.ensures.absent in
    MatchResult-from_err c.from_residual.result (λ _. ⊤) (λ _. is_among c.args.name.now c.args.self.now ≡ false)
    c.from_residual.ensures.0 (λ fault. new)
