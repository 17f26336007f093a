use Rattle.std.proofs.Common.{◌≡◌, ◌≤◌, true, length, refl, sym, ap, subst, ◌∙◌}
use Rattle.std.proofs.lemmas.Result.{on_ok_weaker}
use Rattle.inf_lexer.specs.Names.{Nest}
use Rattle.inf_characters.specs.declared.characters.CharSet.{CharSet}
use Rattle.inf_unit.specs.{Atoms.is_short, Messages.FileNames}
use Rattle.inf_compilation.specs.Context.{Context}
use Rattle.inf_reader.specs.{Handing.is_between, Standing.standing}
use Rattle.inf_sources.specs.Quoted.{is_quoted_kind}
use Rattle.inf_session.specs.{Choices.chosen, Session.State, Session.context_of, Standing.state, Taking.Taken, Taking.token_at}
use Rattle.inf_session.specs.{Veneer.in_text}
use Rattle.inf_session.proofs.Taking.{taken_as, taken_within, with_taken}
use Rattle.inf_session.proofs.TextTurns.{text_few, text_short, text_turned}
use Rattle.inf_session.proofs.session.Session.turn_text.Goals as goal

pub take-requires : goal.take-requires
take-requires g c = subst (λ bytes. is_short c.in_ok-token.token.kind bytes ≡ true) (sym c.spelling.ensures)
    (text_short c.args.lexer.now c.next.new.self c.in_ok-token.token c.in_ok-token.ensures.token c.in_ok-token.ensures.behind)

pub returns-clause-turned : goal.returns-clause-turned
returns-clause-turned g c = λ sources start now told.
    let o = chosen c.args.self.now.setup in let was : State = state sources start now c.args.self.now told in
    let before = in_text c.args.lexer.now was in
    let context : Context = record {
      names = c.names.result.now.names;
      set = c.characters.result;
      settings = c.args.self.now.setup.settings.now;
    } in
    let named : c.names.result.now.names ≡ before.nesting.names = ap (λ (n : Nest). n.names) c.names.ensures in
    let set : c.characters.result ≡ before.nesting.cursor.set = c.characters.ensures.innermost ∙ c.requires in
    let same : context ≡ context_of o before = ap (λ (names : FileNames). record context { names = names }) named
    ∙ ap (λ (set : CharSet). record context { names = before.nesting.names; set = set }) set in
    let x : Taken = taken_as c.take.new.conditionals (standing c.take.new.progress) c.in_ok-self.field-0 in
    on_ok_weaker c.rest.result
    (λ rested. text_turned g.B.Bounds.most o was (with_taken was was.nesting x) (state sources start now c.rest.new.self told)
    c.args.lexer.now c.next.new.self c.in_ok-token.token context c.spelling.result.now x c.in_ok-token.ensures.token
    c.in_ok-token.ensures.behind c.spelling.ensures same c.in_ok-self.ensures refl (rested told)) (c.rest.ensures.rested sources start now)

pub returns-clause-longest : goal.returns-clause-longest
returns-clause-longest g c = λ before.
    let most = c.args.lexer.now.limit in let token = c.in_ok-token.token in
    let context : Context = record {
      names = c.names.result.now.names;
      set = c.characters.result;
      settings = c.args.self.now.setup.settings.now;
    } in
    let few = λ (is : is_quoted_kind token.kind ≡ true). subst (λ bytes. length bytes ≤ most) (sym c.spelling.ensures)
    (text_few c.args.lexer.now c.next.new.self token c.in_ok-token.ensures.token c.in_ok-token.ensures.behind is) in
    let stand = standing c.args.self.now.progress in
    let longest = taken_within g.B.Bounds.most context
    (token_at (is_between stand.reading) token.kind c.spelling.result.now token.place stand.work) c.args.self.now.conditionals stand
    c.args.self.now.quoted most few before in
    let taken : c.in_ok-self.field-0 ≤ most = subst (λ n. n ≤ most) (sym (ap (λ (x : Taken). x.quoted) c.in_ok-self.ensures)) longest in
    on_ok_weaker c.rest.result (λ same. subst (λ n. n ≤ most) (sym same) taken) c.rest.ensures.quoted
