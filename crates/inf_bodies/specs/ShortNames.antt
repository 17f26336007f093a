-- The short names of objects and classes. Z-Machine Standard 1.1, section 12.4; Designer's Manual, fourth edition, section 3.1.
use Rattle.std.specs.Prelude.{ℕ, List, [], ◌∷◌, ◌++◌, codes, Option, Some, None}
use Rattle.inf_characters.specs.{Reading.text_of, declared.characters.CharSet.CharSet, declared.reading.Mode.Mode}
use Rattle.inf_characters.specs.{declared.texts.TextItem.TextItem}
use Rattle.inf_names.specs.Spellings.{Name}
use Rattle.inf_output.specs.{Output.Code, Texts.Packing, Texts.used_in}
use Rattle.inf_text.specs.Packing.{packed}
use Rattle.inf_unit.specs.Texts.{fit_characters}
use Rattle.inf_operands.specs.Texts.{text_at, text_packed}
use Rattle.inf_compilation.specs.{Actions.Compilation, Context.Context}
use Rattle.inf_bodies.specs.declared.headers.Header.{Header}

-- the bytes of a short name of these characters, by how the texts of the story are packed
abbrev pub packed_name : Option (List TextItem) → Packing → List ℕ
packed_name None texts = []
packed_name (Some items) texts = packed items (used_in texts)

-- the output after a short name was made: where it has characters, a text was packed
abbrev pub name_packed : Option (List TextItem) → Code
name_packed None o = o
name_packed (Some items) o = text_packed o

-- a name in round brackets
abbrev pub in_brackets : List ℕ → List ℕ
in_brackets name = 40 ∷ (name ++ 41 ∷ [])

-- the characters of the short name of an object or a class without a text for it
abbrev pub bracketed : CharSet → List ℕ → Option (List TextItem)
bracketed set name = fit_characters (text_of set Mode.Text (in_brackets name))

-- the name of an object, or a question mark where it has none
abbrev pub shown_name : Option Name → List ℕ
shown_name None = codes "?"
shown_name (Some n) = n.bytes

-- the characters of the text of a header, where it has one
abbrev pub header_text : Context → Option ℕ → Compilation → Option (List TextItem)
header_text context None w = None
header_text context (Some at) w = text_at context.set w.unit.tokens at

-- the characters of the short name of an object: its text, or its name in round brackets
abbrev pub short_by : CharSet → Option (List TextItem) → Option Name → Option (List TextItem)
short_by set None name = bracketed set (shown_name name)
short_by set (Some items) name = Some items

abbrev pub short_text : Context → Header → Option Name → Compilation → Option (List TextItem)
short_text context h name w = short_by context.set (header_text context h.text w) name
