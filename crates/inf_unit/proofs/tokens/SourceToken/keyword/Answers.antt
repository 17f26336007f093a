-- By its atom, which is that of a name.
use Rattle.std.proofs.Common.{ap, sym, ◌∙◌}
use Rattle.inf_scanner.specs.declared.tokens.TokenKind.{TokenKind}
use Rattle.inf_syntax.specs.Atoms.{keyword_at}
use Rattle.inf_syntax.proofs.Keywords.{keyword_is}
use Rattle.inf_unit.specs.Atoms.{atom_of_kind, keyword_of_kind}
use Rattle.inf_unit.proofs.tokens.SourceToken.keyword.Goals as goal

pub returns-in-Name : goal.returns-in-Name
returns-in-Name c =
    let t = c.args.self.now in
    c.keyword_at.ensures ∙ ap keyword_at (t.is_seen ∙ ap (λ (k : TokenKind). atom_of_kind t.is_class k t.bytes.now) c.in-Name.is)
    ∙ keyword_is t.is_class t.bytes.now ∙ ap (λ (k : TokenKind). keyword_of_kind k t.bytes.now) (sym c.in-Name.is)
