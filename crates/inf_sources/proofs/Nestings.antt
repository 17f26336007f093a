-- The open files after a token was read, and after a file was left.
use Rattle.std.proofs.Common.{◌≡◌, ℕ, suc, ◌-◌, List, [], ◌∷◌, ◌++◌, length, drop, reverse, get_or, refl, sym, ap, subst, ◌∙◌, arith}
use Rattle.std.proofs.Common.{length-append, Bool, false, IsTrue, Option, Some, None, IfNone, is_some}
use Rattle.std.proofs.lemmas.List.{drop-map, reverse-reverse}
use Rattle.inf_scanner.specs.{Tokens.Read, Tokens.next_token, declared.lines.Lines.Lines, declared.tokens.Token.Token}
use Rattle.inf_devices.specs.{Files.Closes, Files.Opening, Files.Openings, Files.Sources, Files.opened}
use Rattle.inf_devices.specs.{declared.files.Files.Ghosts as Files}
use Rattle.inf_lexer.specs.{Heads.HeadRead, Heads.next_head_word, Names.Nest, Names.left, Readers.Reader, Readers.Stays, Readers.head_out}
use Rattle.inf_lexer.specs.{Readers.read_out, Reading.ReadsOn, Unread.Gave, Unread.innermost_place, Unread.to_come}
use Rattle.inf_lexer.specs.declared.head.HeadPlace.{HeadPlace}
use Rattle.inf_sources.specs.{Cursors.Cursor, Cursors.behind, Cursors.read, Heading.ReadsHead, Heading.behind_head, Heading.read_head}
use Rattle.inf_sources.specs.{Inclusions.Nesting, Inclusions.Waiting, Inclusions.closed, declared.open_file.OpenFile.OpenFile}
use Rattle.inf_sources.specs.Open.{AreNested, IsNested, Open, Reads, closed_to, cursor_of, lexers, lexers_of, nesting, opened_since}
use Rattle.inf_sources.specs.Open.{rest_of, waiting_as, waiting_at}
use Rattle.inf_sources.proofs.Places.{innermost_of, last_of, names_of, names_same, nested_as, nested_more, reverse_last, waiting_same}

-- where the same files stay open, they are nested as before
pub nested_on : (start old new : Openings) (before after : Open) → IsNested start old before → new.open_places ≡ old.open_places
    → length new.all ≡ length old.all → after.outer ≡ before.outer → IsNested start new after
nested_on start old new before after n places count outer = record {
  more = omega (arith, n.more, count);
  nested = rw (outer, places, count)
      (nested_as (length old.all) (reverse old.open_places) before.lexer after.lexer (lexers_of (reverse before.outer)) n.nested);
  others = rw (outer, places) n.others;
}

abbrev made : List (List ℕ) → List (List ℕ) → Cursor → List Waiting → Nesting
made names openings cursor waiting = record { names = names; openings = openings; cursor = cursor; waiting = waiting }

-- the names of later openings are the same where all names are
names_behind : (n : ℕ) (old new : List Opening) → names_of new ≡ names_of old → names_of (drop n new) ≡ names_of (drop n old)
names_behind n old new e =
    sym (drop-map (λ (o : Opening). o.name) n new) ∙ ap (λ names. drop n names) e ∙ drop-map (λ (o : Opening). o.name) n old

-- bytes that the innermost opening gives change no name
names_given : (s : Sources) (old new : Openings) (bytes : List ℕ) → Gave s old new bytes → names_of new.all ≡ names_of old.all
names_given s old new bytes gave = names_same old.all new.all (innermost_place old) gave.count gave.others
    (ap (λ (i : ℕ). (get_or new.all i (opened [])).name) (ap (λ (ps : List ℕ). get_or ps (length ps - 1) 0) (sym gave.places)) ∙ gave.name)

pub opened_as_before : (s : Sources) (start old new : Openings) (bytes : List ℕ) → Gave s old new bytes →
    opened_since start new ≡ opened_since start old
opened_as_before s start old new bytes gave = names_behind (length start.all) old.all new.all (names_given s old new bytes gave)

-- a lexer that has read on
cursor_moved : {q r : Reader} {is : Bool} {rest was : List ℕ} {lines : Lines} → rest ≡ was → r.lines ≡ lines → Stays q r is
    → cursor_of r rest ≡ record { rest = was; lines = lines; file = q.file; set = q.set; limit = q.limit }
cursor_moved {q = q} {r = r} {was = was} {lines = lines} on passed same = ap (cursor_of r) on
    ∙ ap (λ x. record { rest = was; lines = x; file = r.file; set = r.set; limit = r.limit }) passed
    ∙ ap (λ x. record { rest = was; lines = lines; file = x; set = r.set; limit = r.limit }) same.file
    ∙ ap (λ x. record { rest = was; lines = lines; file = q.file; set = x; limit = r.limit }) same.set
    ∙ ap (λ x. record { rest = was; lines = lines; file = q.file; set = q.set; limit = x }) same.limit

-- Lemmas about the innermost file, which a lexer that is `r` then read on

module _ {S : Type 0} {f : Files S} {failed : Bool} {a b : S} {nest : Nest} {q r : Reader} {outer : List OpenFile} {start : Openings}
    (on : ReadsOn f failed a b q.window r.window) (same : Stays q r false) (honest : IsTrue (f.is_honest a))
    (nested : IsNested start (f.openings a) (record { nest = nest; lexer = q; outer = outer })) where
  abbrev s : Sources
  s = f.sources a

  abbrev old : Openings
  old = f.openings a

  abbrev new : Openings
  new = f.openings b

  -- the nesting has the cursor `c` then, and is otherwise the one before
  nesting_on : (c : Cursor) → cursor_of r (to_come s new r.window) ≡ c
      → nesting s start new (record { nest = nest; lexer = r; outer = outer })
      ≡ record (nesting s start old (record { nest = nest; lexer = q; outer = outer })) { cursor = c }
  nesting_on c cursor =
      let gave = on.gave honest in
      let at = innermost_of (length old.all) (reverse old.open_places) q (lexers_of (reverse outer)) nested.nested in
      let place : innermost_place old ≡ at.place = last_of old.open_places at.place at.rest at.is in
      let waits : waiting_at s new.all (drop 1 (reverse new.open_places)) (reverse outer)
      ≡ waiting_at s old.all (drop 1 (reverse old.open_places)) (reverse outer) =
      ap (λ (ps : List ℕ). waiting_at s new.all (drop 1 ps) (reverse outer)) (ap reverse gave.places ∙ at.is)
      ∙ waiting_same s old.all new.all at.place at.rest (reverse outer) at.inner
      (λ i less. gave.others i (λ is. omega (arith, less, is, place)))
      ∙ sym (ap (λ (ps : List ℕ). waiting_at s old.all (drop 1 ps) (reverse outer)) at.is) in
      rw (opened_as_before s start old new on.bytes gave, cursor, waits) refl

  -- a token was read
  pub reads_on : (token : Token) → read_out token r (to_come s new r.window) ≡ next_token q.set q.limit q.lines (to_come s old q.window)
      → token.place.file ≡ q.file → Reads token r.kept.bytes (nesting s start old (record { nest = nest; lexer = q; outer = outer }))
      (nesting s start new (record { nest = nest; lexer = r; outer = outer }))
  reads_on token e file =
      let c = cursor_of q (to_come s old q.window) in
      record {
        kind = ap (λ (x : Read). x.kind) e;
        place = ap (λ (f : ℕ). record { file = f; line = token.place.line }) file
            ∙ ap (λ (l : ℕ). record { file = q.file; line = l }) (ap (λ (x : Read). x.line) e);
        bytes = ap (λ (x : Read). x.kept.bytes) e;
        goes_on = nesting_on (behind c (read c)) (cursor_moved (ap (λ (x : Read). x.rest) e) (ap (λ (x : Read). x.lines) e) same);
      }

  -- a word of its head was read
  pub reads_head_on : (is_word : Bool) (place from : HeadPlace) (word : List ℕ)
      → head_out is_word place word r (to_come s new r.window) ≡ next_head_word from q.lines (to_come s old q.window)
      → ReadsHead is_word place word from (nesting s start old (record { nest = nest; lexer = q; outer = outer }))
      (nesting s start new (record { nest = nest; lexer = r; outer = outer }))
  reads_head_on is_word place from word e =
      let c = cursor_of q (to_come s old q.window) in
      record {
        tells = ap (λ (x : HeadRead). x.is_word) e;
        goes_to = ap (λ (x : HeadRead). x.place) e;
        spelled = ap (λ (x : HeadRead). x.word) e;
        goes_on = nesting_on (behind_head c (read_head from c))
            (cursor_moved (ap (λ (x : HeadRead). x.rest) e) (ap (λ (x : HeadRead). x.lines) e) same);
      }

-- The innermost file was left

pub left_nested : (start old new : Openings) (before after : Open) (f : OpenFile) → IsNested start old before → Closes old new
    → before.outer ≡ after.outer ++ f ∷ [] → after.lexer ≡ f.lexer → IsNested start new after
left_nested start old new before after f n closes outer back =
    let at = innermost_of (length old.all) (reverse old.open_places) before.lexer (lexers_of (reverse before.outer)) n.nested in
    let places : reverse old.open_places ≡ closes.place ∷ reverse new.open_places =
    ap reverse closes.innermost ∙ reverse_last new.open_places closes.place in
    let readers : lexers_of (reverse before.outer) ≡ lexers after =
    ap (λ (files : List OpenFile). lexers_of (reverse files)) outer ∙ ap lexers_of (reverse_last after.outer f)
    ∙ ap (λ (r : Reader). r ∷ lexers_of (reverse after.outer)) (sym back) in
    let rest : at.rest ≡ reverse new.open_places = ap (λ (ps : List ℕ). drop 1 ps) (sym at.is ∙ places) in
    let inner : AreNested at.place (reverse new.open_places) (lexers after) =
    subst (λ (ps : List ℕ). AreNested at.place ps (lexers after)) rest
    (subst (λ (rs : List Reader). AreNested at.place at.rest rs) readers at.inner) in
    let count : length new.all ≡ length old.all = ap length closes.same in
    let size : length before.outer ≡ suc (length after.outer) = ap length outer ∙ omega (arith, length-append after.outer (f ∷ [])) in
    record {
      more = omega (arith, n.more, count);
      nested = nested_more at.place (length new.all) (reverse new.open_places) (lexers after) (omega (arith, at.less, count)) inner;
      others = sym (ap (λ (ps : List ℕ). drop (suc (suc (length after.outer))) ps) places)
          ∙ ap (λ (k : ℕ). drop (suc k) (reverse old.open_places)) (sym size) ∙ n.others;
    }

pub left_nesting : (s : Sources) (start old new : Openings) (before after : Open) (f : OpenFile) → IsNested start old before →
    Closes old new → before.outer ≡ after.outer ++ f ∷ [] → after.lexer ≡ f.lexer → after.nest ≡ left before.nest
    → nesting s start new after ≡ closed (nesting s start old before)
left_nesting s start old new before after f n closes outer back nest =
    let at = innermost_of (length new.all) (reverse new.open_places) after.lexer (lexers_of (reverse after.outer))
    (left_nested start old new before after f n closes outer back).nested in
    let places : reverse old.open_places ≡ closes.place ∷ reverse new.open_places =
    ap reverse closes.innermost ∙ reverse_last new.open_places closes.place in
    let files : reverse before.outer ≡ f ∷ reverse after.outer = ap reverse outer ∙ reverse_last after.outer f in
    let place : innermost_place new ≡ at.place = last_of new.open_places at.place at.rest at.is in
    let waits : waiting_at s old.all (drop 1 (reverse old.open_places)) (reverse before.outer)
    ≡ waiting_as f (rest_of s (get_or old.all at.place (opened [])) f.lexer.window) ∷ waiting_at s old.all at.rest (reverse after.outer) =
    ap (λ (ps : List ℕ). waiting_at s old.all (drop 1 ps) (reverse before.outer)) places
    ∙ ap (λ (fs : List OpenFile). waiting_at s old.all (reverse new.open_places) fs) files
    ∙ ap (λ (ps : List ℕ). waiting_at s old.all ps (f ∷ reverse after.outer)) at.is in
    ap (λ (x : Nest). made x.names (names_of (drop (length start.all) new.all)) (cursor_of after.lexer (to_come s new after.lexer.window))
    (waiting_at s new.all (drop 1 (reverse new.open_places)) (reverse after.outer))) nest
    ∙ ap (λ (i : ℕ). made before.nest.names (names_of (drop (length start.all) new.all))
    (cursor_of after.lexer (rest_of s (get_or new.all i (opened [])) after.lexer.window))
    (waiting_at s new.all (drop 1 (reverse new.open_places)) (reverse after.outer))) place
    ∙ ap (λ (ps : List ℕ). made before.nest.names (names_of (drop (length start.all) new.all))
    (cursor_of after.lexer (rest_of s (get_or new.all at.place (opened [])) after.lexer.window))
    (waiting_at s new.all (drop 1 ps) (reverse after.outer))) at.is
    ∙ ap (λ (all : List Opening). made before.nest.names (names_of (drop (length start.all) all))
    (cursor_of after.lexer (rest_of s (get_or all at.place (opened [])) after.lexer.window))
    (waiting_at s all at.rest (reverse after.outer))) closes.same
    ∙ ap (λ (r : Reader). made before.nest.names (names_of (drop (length start.all) old.all))
    (cursor_of r (rest_of s (get_or old.all at.place (opened [])) r.window)) (waiting_at s old.all at.rest (reverse after.outer))) back
    ∙ sym (ap (λ (waiting : List Waiting). closed (made before.nest.names (names_of (drop (length start.all) old.all))
    (cursor_of before.lexer (to_come s old before.lexer.window)) waiting)) waits)

-- where no file waits the statement for this case holds
pub none_left : {T : Type 0} (o : Option T) (P : Type 0) → is_some o ≡ false → IfNone o P → P
none_left None P e h = h
none_left (Some x) P e h = cc

-- all files were left but the main one, which was closed too
pub closed_is : (start old now new : Openings) (files : Open) → IsNested start now files → length files.outer ≡ 0 → now.all ≡ old.all →
    Closes now new → new ≡ closed_to start old
closed_is start old now new files n alone all closes =
    let backwards : reverse new.open_places ≡ reverse start.open_places =
    sym (ap (λ (ps : List ℕ). drop 1 ps) (ap reverse closes.innermost ∙ reverse_last new.open_places closes.place))
    ∙ sym (ap (λ (k : ℕ). drop (suc k) (reverse now.open_places)) alone) ∙ n.others in
    let places : new.open_places ≡ start.open_places =
    sym (reverse-reverse new.open_places) ∙ ap reverse backwards ∙ reverse-reverse start.open_places in
    ap (λ (x : List Opening). record { all = x; open_places = new.open_places }) (closes.same ∙ all)
    ∙ ap (λ (x : List ℕ). record { all = old.all; open_places = x }) places
