use Rattle.inf_language.proofs.HeadersRead.{headers_note_their_names}
use Rattle.inf_language.proofs.laws.headers_note_their_names.Goals as goal

pub returns : goal.returns
returns c = headers_note_their_names
