-- The character set by which open files are read, and the most bytes that a quoted token of theirs may have.
use Rattle.std.specs.Prelude.{ℕ, map}
use Rattle.inf_characters.specs.declared.characters.CharSet.{CharSet}
use Rattle.inf_lexer.specs.Readers.{Reader}
use Rattle.inf_sources.specs.{Cursors.Cursor, Inclusions.Nesting, Inclusions.Waiting, Open.Open, declared.open_file.OpenFile.OpenFile}

-- a lexer that reads by `set`
abbrev pub reader_with : CharSet → Reader → Reader
reader_with set r = record r { set = set }

-- a file that waits, and will be read by `set`
abbrev pub file_with : CharSet → OpenFile → OpenFile
file_with set f = record f { lexer = reader_with set f.lexer }

-- the open files, all of which are read by `set`, as are those that are entered later
abbrev pub open_with : CharSet → Open → Open
open_with set o = record { nest = record o.nest { set = set }; lexer = reader_with set o.lexer; outer = map (file_with set) o.outer }

-- the rest of a file, read by `set`
abbrev pub cursor_with : CharSet → Cursor → Cursor
cursor_with set c = record c { set = set }

abbrev pub waiting_with : CharSet → Waiting → Waiting
waiting_with set w = record w { cursor = cursor_with set w.cursor }

-- the rests of all open files, read by `set`
abbrev pub nesting_with : CharSet → Nesting → Nesting
nesting_with set n = record n { cursor = cursor_with set n.cursor; waiting = map (waiting_with set) n.waiting }

-- the innermost file and those that are entered later, read by `set`, with quoted tokens of at most `limit` bytes
abbrev pub chosen : CharSet → ℕ → Open → Open
chosen set limit o = record o { nest = record o.nest { set = set; limit = limit }; lexer = record o.lexer { set = set; limit = limit } }

abbrev pub nesting_chosen : CharSet → ℕ → Nesting → Nesting
nesting_chosen set limit n = record n { cursor = record n.cursor { set = set; limit = limit } }
