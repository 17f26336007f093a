use Rattle.inf_language.proofs.HeadersRead.{headers_have_their_locals}
use Rattle.inf_language.proofs.laws.headers_have_their_locals.Goals as goal

pub returns : goal.returns
returns c = headers_have_their_locals
