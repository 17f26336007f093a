use Rattle.std.proofs.Common.{◌≡◌, length, unwrap_or, ap, ◌∙◌, bytes_eq}
use Rattle.inf_lexer.specs.Names.{Nest, number_of}
use Rattle.inf_lexer.proofs.NameLists.{place_in}
use Rattle.inf_lexer.proofs.stack.Stack.number_of.Goals as goal

pub returns : goal.returns
returns c =
    let len : c.len.result ≡ length c.self.inside.names.keys = c.len.ensures.len in
    c.unwrap_or.ensures ∙ ap (λ o. unwrap_or o c.len.result) c.get_index_of.ensures.index
    ∙ rw len (place_in (bytes_eq c.args.name.now) c.self.inside.names.keys)
    ∙ ap (λ (n : Nest). number_of c.args.name.now n.names) c.self.view_is
