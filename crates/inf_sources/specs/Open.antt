-- The nesting of the code's open files, with a reader that keeps to its sources.
use Rattle.std.specs.Prelude.{◌≡◌, ◌≢◌, ℕ, suc, ◌<◌, ◌≤◌, List, [], ◌∷◌, ◌++◌, length, map, drop, reverse, get_or, unwrap_or, Some}
use Rattle.std.specs.Prelude.{slice_get}
use Rattle.std.specs.Prelude.{Bool, true, false, if◌then◌else◌, None, Result, Ok, Err, Vec}
use Rattle.std.specs.declared.alloc.Global.{Global}
use Rattle.inf_characters.specs.declared.characters.CharSet.{CharSet}
use Rattle.inf_scanner.specs.declared.tokens.Token.{Token}
use Rattle.inf_devices.specs.Files.{Opening, Openings, Sources, opened}
use Rattle.inf_lexer.specs.{Names.Nest, Readers.Reader, Unread.View, Unread.to_come, Unread.unread_of}
use Rattle.inf_sources.specs.{Cursors.Cursor, Cursors.behind, Cursors.read, Inclusions.Nesting, Inclusions.Waiting, Inclusions.main_opened}
use Rattle.inf_sources.specs.declared.{faults.IncludeFault.IncludeFault, open_file.Conditional.Conditional, open_file.OpenFile.OpenFile}
use Rattle.inf_sources.specs.declared.open_files.Included.{Included}

-- The names and numbers of the files, the lexer of the innermost, and the files that wait, the main one first.
pub record Open : Type 0 where
  pub nest : Nest
  pub lexer : Reader
  pub outer : List OpenFile

-- a file that waits: its lexer, the conditionals that are open between its directives, the latest last, and its mark
abbrev pub waits : Reader → Vec Conditional Global → Bool → OpenFile
waits lexer conditionals is_system = record { lexer = lexer; conditionals = conditionals; is_system = is_system }

-- the lexers of some files
abbrev pub lexers_of : List OpenFile → List Reader
lexers_of files = map (λ (f : OpenFile). f.lexer) files

-- the lexers of all files that are open, the innermost first
abbrev pub lexers : Open → List Reader
lexers files = files.lexer ∷ lexers_of (reverse files.outer)

-- the numbers of the files of some lexers
abbrev pub files_of : List Reader → List ℕ
files_of readers = map (λ (r : Reader). r.file) readers

-- a lexer that waits has not refused, and has the set and the limit of all
pub record Waits (set : CharSet) (limit : ℕ) (r : Reader) : Type 0 where
  pub of_set : r.set ≡ set
  pub of_limit : r.limit ≡ limit
  pub goes : r.has_failed ≡ false

abbrev pub AllWait : CharSet → ℕ → List Reader → Type 0
AllWait set limit [] = Unit {0}
AllWait set limit (r ∷ readers) = Waits set limit r × AllWait set limit readers

-- the rest of a file that this lexer reads
abbrev pub cursor_of : Reader → List ℕ → Cursor
cursor_of r rest = record { rest = rest; lines = r.lines; file = r.file; set = r.set; limit = r.limit }

-- the rest of the source of an opening, of which `view` is in view
abbrev pub rest_of : Sources → Opening → View → List ℕ
rest_of sources o view = view.left ++ (if view.is_over then [] else unread_of sources o)

-- a file that waits, with the bytes that are its rest
abbrev pub waiting_as : OpenFile → List ℕ → Waiting
waiting_as f rest = record { cursor = cursor_of f.lexer rest; conditionals = reverse f.conditionals.items; is_system = f.is_system }

-- some files that wait, by the places of their openings
abbrev pub waiting_at : Sources → List Opening → List ℕ → List OpenFile → List Waiting
waiting_at sources all (p ∷ places) (f ∷ files) =
    waiting_as f (rest_of sources (get_or all p (opened [])) f.lexer.window) ∷ waiting_at sources all places files
waiting_at sources all places files = []

-- the names of the openings now behind those that were there before, in their order
abbrev pub opened_since : Openings → Openings → List (List ℕ)
opened_since start now = map (λ (p : Opening). p.name) (drop (length start.all) now.all)

-- The files that are open now, where these openings were before them. The innermost opening was opened last.
abbrev pub nesting : Sources → Openings → Openings → Open → Nesting
nesting sources start now files = record {
  names = files.nest.names;
  openings = opened_since start now;
  cursor = cursor_of files.lexer (to_come sources now files.lexer.window);
  waiting = waiting_at sources now.all (drop 1 (reverse now.open_places)) (reverse files.outer);
}

-- Each lexer has its opening, and each was opened behind those around it.
abbrev pub AreNested : ℕ → List ℕ → List Reader → Type 0
AreNested bound places [] = Unit {0}
AreNested bound [] (r ∷ readers) = ⊥
AreNested bound (p ∷ places) (r ∷ readers) = (p < bound) × AreNested p places readers

-- The open files were opened behind the others, one inside the other.
pub record IsNested (start now : Openings) (files : Open) : Type 0 where
  pub more : length start.all ≤ length now.all
  pub nested : AreNested (length now.all) (reverse now.open_places) (lexers files)
  pub others : drop (suc (length files.outer)) (reverse now.open_places) ≡ reverse start.open_places

-- The bytes given of an opening are a front of its source.
abbrev pub IsFrontOf : Sources → Opening → Type 0
IsFrontOf sources o = unwrap_or (sources o.name) [] ≡ o.given ++ unread_of sources o

-- An opening was given at most as many bytes as a source may have.
abbrev pub Fits : Opening → Type 0
Fits o = length o.given ≤ 16777216

pub record IsGiven (sources : Sources) (o : Opening) : Type 0 where
  pub is_cut : IsFrontOf sources o
  pub fits : Fits o

-- `P` holds of each opening behind `n` others.
abbrev pub Each : (Opening → Type 0) → ℕ → List Opening → Type 0
Each P n all = (i : ℕ) → n ≤ i → i < length all → P (get_or all i (opened []))

-- The lexer of an opening counts the bytes that were given of it, of which it has at most 4,096 in view. Where it read the end, nothing
-- more is to come, and the source is known to be read to its end; where it did not, the source is known not to be.
pub record IsCounted (sources : Sources) (o : Opening) (view : View) : Type 0 where
  pub count : length o.given ≡ view.given
  pub window : length view.left ≤ 4096
  pub ends : view.is_over ≡ true → (unread_of sources o ≡ []) × (o.is_read_out ≡ true)
  pub goes_on : view.is_over ≡ false → o.is_read_out ≡ false

-- An open file, by the place of its opening: it was opened behind n openings, under the name of its number, and its lexer counts.
pub record IsTracked (sources : Sources) (n : ℕ) (names : List (List ℕ)) (all : List Opening) (place : ℕ) (r : Reader) : Type 0 where
  pub behind : n ≤ place
  pub named : slice_get names r.file ≡ Some (get_or all place (opened [])).name
  pub counted : IsCounted sources (get_or all place (opened [])) r.window

-- Each open file is tracked.
abbrev pub AreTracked : Sources → ℕ → List (List ℕ) → List Opening → List ℕ → List Reader → Type 0
AreTracked sources n names all places [] = Unit {0}
AreTracked sources n names all [] (r ∷ readers) = ⊥
AreTracked sources n names all (p ∷ places) (r ∷ readers) =
    IsTracked sources n names all p r × AreTracked sources n names all places readers

-- Each opening behind `n` others was given a front of its source, and each open file is tracked.
pub record AllGiven (sources : Sources) (n : ℕ) (now : Openings) (files : Open) : Type 0 where
  pub each : Each (IsFrontOf sources) n now.all
  pub tracked : AreTracked sources n files.nest.names now.all (reverse now.open_places) (lexers files)

-- A token was read of the innermost file, with this spelling.
pub record Reads (token : Token) (spelling : List ℕ) (was now : Nesting) : Type 0 where
  pub kind : token.kind ≡ (read was.cursor).kind
  pub place : token.place ≡ record { file = was.cursor.file; line = (read was.cursor).line }
  pub bytes : spelling ≡ (read was.cursor).kept.bytes
  pub goes_on : now ≡ record was { cursor = behind was.cursor (read was.cursor) }

-- the openings with all files closed that were opened since
abbrev pub closed_to : Openings → Openings → Openings
closed_to start now = record now { open_places = start.open_places }

-- The main source was entered.
pub record MainEntered (sources : Sources) (name : List ℕ) (set : CharSet) (limit : ℕ) (old new : Openings) (files : Open) : Type 0 where
  pub there : sources name ≢ None
  pub nesting_is : nesting sources old new files ≡ main_opened set limit sources name
  pub nested : IsNested old new files
  pub given_all : AllGiven sources (length old.all) new files
  pub fits : Each Fits (length old.all) new.all

-- A file was entered, which has no conditional yet and no mark; the one that waits for it keeps its own.
pub record EntersFile (old new : Open) (conditionals fresh : Vec Conditional Global) (is_system mark : Bool) : Type 0 where
  pub given : new.lexer.window.given ≡ 0
  pub left : new.lexer.window.left ≡ []
  pub outer : new.outer ≡ old.outer ++ waits old.lexer conditionals is_system ∷ []
  pub room : length old.outer < 15
  pub conditionals_are : fresh.items ≡ []
  pub mark_is : mark ≡ false

-- An inclusion changes the open files, by its answer: if no file is entered, nothing changes.
abbrev pub Moves : Open → Open → Vec Conditional Global → Vec Conditional Global → Bool → Bool → Result Included IncludeFault → Type 0
Moves old new before after was is (Ok Included.Entered) = EntersFile old new before after was is
Moves old new before after was is (Ok Included.NotThere) = (new ≡ old) × ((after ≡ before) × (is ≡ was))
Moves old new before after was is (Ok Included.TooDeep) = (new ≡ old) × ((after ≡ before) × (is ≡ was))
Moves old new before after was is (Err fault) = (new ≡ old) × ((after ≡ before) × (is ≡ was))
