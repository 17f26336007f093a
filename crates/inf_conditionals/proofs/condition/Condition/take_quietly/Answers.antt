use Rattle.std.proofs.Common.{◌≡◌, List, ap, sym, true, ◌∙◌}
use Rattle.inf_machine.specs.{Machine.fits, declared.symbols.Symbol.Symbol}
use Rattle.inf_syntax.specs.declared.actions.Action.{Action}
use Rattle.inf_grammar.specs.Language.{grammar, known}
use Rattle.inf_unit.specs.{AtHand.unit as unit_of, Spelled.spelled, Tokens.atom_of}
use Rattle.inf_conditionals.specs.{Condition.Condition, Condition.condition_took, Held.has_tokens}
use Rattle.inf_conditionals.proofs.HeldParts.{either_there, rest_is, tokens_more, tokens_took}
use Rattle.inf_conditionals.proofs.condition.Condition.take_quietly.Goals as goal

pub invariant_of-self-2 : goal.invariant_of-self-2
invariant_of-self-2 c =
    let k = c.self.inside in let there : has_tokens k.held ≡ true = either_there k.held c.in-Both.is in
    tokens_more k.held k.rest (unit_of k.unit) k.tokens c.add.new.self (spelled c.args.token.now) c.read.new.rest there c.self.invariant
    (sym c.in_ok-read.ensures.fits ∙ c.if-not-branch.false) (c.in_ok-read.ensures.left c.if-not-branch.false) c.in_ok-add.ensures.added

pub returns : goal.returns
returns c =
    let k = c.self.inside in let t = spelled c.args.token.now in
    let there : has_tokens k.held ≡ true = either_there k.held c.in-Both.is in
    record {
      fits =
          sym c.if-not-branch.false ∙ c.in_ok-read.ensures.fits
          ∙ ap (λ (s : List (Symbol Action)). fits grammar known (atom_of t) s)
          (rest_is k.held k.rest (unit_of k.unit) k.tokens there c.self.invariant ∙ ap (λ (x : Condition). x.stack) c.self.view_is);
      taken = λ e. tokens_took k.held k.rest (unit_of k.unit) k.tokens c.add.new.self t there c.self.invariant c.in_ok-add.ensures.added
          ∙ ap (λ (x : Condition). condition_took t x) c.self.view_is;
    }
