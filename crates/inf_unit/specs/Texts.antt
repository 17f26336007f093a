-- The characters of texts.
use Rattle.std.specs.Prelude.{ℕ, List, Option, Some, None, Result, Ok, Err}
use Rattle.inf_characters.specs.{Reading.text_of, declared.characters.CharSet.CharSet, declared.reading.Mode.Mode}
use Rattle.inf_characters.specs.{declared.reading.TextFault.TextFault, declared.texts.TextItem.TextItem}
use Rattle.inf_scanner.specs.declared.tokens.TokenKind.{TokenKind}
use Rattle.inf_unit.specs.Tokens.{SourceToken}

-- Characters of a text of a source in a character set.
abbrev pub characters : CharSet → List ℕ → Result (List TextItem) TextFault
characters set bytes = text_of set Mode.Text bytes

-- Characters of a text, where they have no fault.
abbrev pub fit_characters : Result (List TextItem) TextFault → Option (List TextItem)
fit_characters (Ok items) = Some items
fit_characters (Err _) = None

-- Characters of a token that is a text.
abbrev pub read_of_kind : CharSet → TokenKind → List ℕ → Option (List TextItem)
read_of_kind set TokenKind.Text bytes = fit_characters (characters set bytes)
read_of_kind set _ bytes = None

abbrev pub read_of : CharSet → SourceToken → Option (List TextItem)
read_of set t = read_of_kind set t.kind t.bytes
