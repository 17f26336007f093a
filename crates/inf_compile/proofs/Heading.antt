-- The head of a main source, word by word, and the rest behind it.
use Rattle.std.proofs.Common.{◌≡◌, ◌⊎◌, inl, inr, ◌+◌, ◌-◌, ◌<◌, ◌≤◌, ℕ, zero, suc, List, [], ◌∷◌, length, length-drop, map, min}
use Rattle.std.proofs.Common.{drop, get_or, reverse, Bool, true, false, cond, Option, IsTrue, unwrap_or, refl, sym, ap, subst, ◌∙◌, arith}
use Rattle.std.proofs.lemmas.List.{length-map}
use Rattle.std.specs.Prelude.{slice_get}
use Rattle.inf_devices.specs.{Files.Opening, Files.Openings, Files.Rose, Files.Sources, Files.opened, declared.files.Files.Ghosts as Files}
use Rattle.inf_lexer.specs.{Entering.OpensOn, Names.Nest, declared.head.HeadPlace.HeadPlace}
use Rattle.inf_lexer.specs.Heads.{WholeHead, head_within, is_word, with_head_word}
use Rattle.inf_lexer.specs.Unread.{innermost, innermost_place, unread as unread_now, unread_of}
use Rattle.inf_letters.specs.{Letters.set_of, declared.letters.Letters.Letters}
use Rattle.inf_settings.specs.declared.settings.Settings.{Settings}
use Rattle.inf_characters.specs.declared.characters.CharSet.{CharSet}
use Rattle.inf_sources.specs.{Choosing.chosen as files_chosen, Choosing.nesting_chosen, Cursors.Cursor, Inclusions.Nesting}
use Rattle.inf_sources.specs.{Inclusions.innermost_name, declared.open_file.OpenFile.OpenFile}
use Rattle.inf_sources.specs.Heading.{HeadAt, ReadsHead, StopsInHead, UnfinishedAt, UnfinishedHead, behind_head, behind_word, behind_words}
use Rattle.inf_sources.specs.Heading.{head_at, head_front, head_in, past_head, read_head}
use Rattle.inf_sources.specs.Calls.{AreCounted, Honestly, IsUnreadable, Went, given_each}
use Rattle.inf_sources.specs.Open.{AllGiven, AreNested, AreTracked, IsCounted, IsNested, Open, files_of, lexers, lexers_of, nesting}
use Rattle.inf_sources.specs.Open.{opened_since}
use Rattle.inf_session.specs.Choices.{Choices, most_quoted}
use Rattle.inf_lexer.proofs.Heading.{words_take}
use Rattle.inf_sources.proofs.Places.{files_are, innermost_of, last_of}
use Rattle.inf_ending.proofs.Delivering.{takes_none}
use Rattle.inf_compile.specs.{Chosen.by_words, Chosen.chosen_at, Chosen.read_as, Comes.GivenUpInHead, Comes.HeardInHead, Comes.main_front}
use Rattle.inf_command.specs.Heads.{HeadWords, head_from, head_of, no_head, take_head_word, with_head}
use Rattle.inf_command.specs.Words.{Choice}

-- a statement of the files behind a call holds of those before it
pub behind_call : {S : Type 0} (f : Files S) (a b : S) (x y : Open) (P : Sources → Openings → Type 0) → Went f a b x y
    → Honestly f b y (λ start. P (f.sources b) start) → Honestly f a x (λ start. P (f.sources a) start)
behind_call f a b x y P went h = λ honest start nested. subst (λ (s : Sources). P s start) went.sources
    (h (subst (λ t. IsTrue t) (sym went.honesty) honest) start (went.nested honest start nested))

-- The words taken of the head of a file, and those left in its rest, make up the head; the rest behind it is that of the file.
pub record Leads (first now : Nesting) (at : HeadPlace) (head : HeadWords) : Type 0 where
  pub words : ℕ
  pub there_are : behind_words words (head_front first.cursor) ≡ head_at at now.cursor
  pub left : ℕ
  pub enough : length now.cursor.rest < left
  pub says : head_from head (head_within left at now.cursor.lines now.cursor.rest).words ≡ head_of (head_in first.cursor).words
  pub lines : (head_within left at now.cursor.lines now.cursor.rest).lines ≡ (head_in first.cursor).lines
  pub rest : (head_within left at now.cursor.lines now.cursor.rest).rest ≡ (head_in first.cursor).rest
  pub nest : now ≡ record first { cursor = record first.cursor { rest = now.cursor.rest; lines = now.cursor.lines } }

-- before the first word all words are left
pub leads_first : (n : Nesting) → Leads n n HeadPlace.Line no_head
leads_first n = record {
  words = zero;
  there_are = refl;
  left = suc (length n.cursor.rest);
  enough = omega arith;
  says = refl;
  lines = refl;
  rest = refl;
  nest = refl;
}

-- the rest behind one word more is the rest behind that word of the rest
behind_last : (n : ℕ) (h : HeadAt) → behind_words (suc n) h ≡ behind_word (behind_words n h)
behind_last zero h = refl
behind_last (suc n) h = behind_last n (behind_word h)

-- a head that goes on with a word has this word and those behind it
word_next : (n : ℕ) (p : HeadPlace) (c : Cursor) → (read_head p c).is_word ≡ true → head_within (suc n) p c.lines c.rest
    ≡ with_head_word (read_head p c).word (head_within n (read_head p c).place (read_head p c).lines (read_head p c).rest)
word_next n p c e = ap (λ (b : Bool). cond b
    (with_head_word (read_head p c).word (head_within n (read_head p c).place (read_head p c).lines (read_head p c).rest))
    (record { words = []; lines = (read_head p c).lines; rest = (read_head p c).rest })) e

-- a head that goes on with no word ends
word_none : (n : ℕ) (p : HeadPlace) (c : Cursor) → (read_head p c).is_word ≡ false → head_within (suc n) p c.lines c.rest
    ≡ record { words = []; lines = (read_head p c).lines; rest = (read_head p c).rest }
word_none n p c e = ap (λ (b : Bool). cond b
    (with_head_word (read_head p c).word (head_within n (read_head p c).place (read_head p c).lines (read_head p c).rest))
    (record { words = []; lines = (read_head p c).lines; rest = (read_head p c).rest })) e

-- a word of the head takes bytes
takes_one : (p : HeadPlace) (c : Cursor) → is_word p ≡ false → (read_head p c).is_word ≡ true → length (read_head p c).rest < length c.rest
takes_one p c none is = words_take p [] c.lines c.rest none is

-- behind the next word the taken words and the words left make up the head
pub leads_on : (first was now : Nesting) (from at : HeadPlace) (head : HeadWords) (word : List ℕ) → Leads first was from head
    → is_word from ≡ false → ReadsHead true at word from was now → Leads first now at (take_head_word head word)
leads_on first was now from at head word l none r = by l.left l.enough l.says l.lines l.rest where
  c : Cursor
  c = was.cursor

  is : (read_head from c).is_word ≡ true
  is = sym r.tells

  next : now.cursor ≡ behind_head c (read_head from c)
  next = ap (λ (n : Nesting). n.cursor) r.goes_on

  less : length now.cursor.rest < length c.rest
  less = omega (arith, ap (λ (x : Cursor). length x.rest) next, takes_one from c none is)

  whole : (n : ℕ) → head_within (suc n) from c.lines c.rest ≡ with_head_word word (head_within n at now.cursor.lines now.cursor.rest)
  whole n = word_next n from c is
      ∙ ap (λ (w : List ℕ). with_head_word w (head_within n (read_head from c).place (read_head from c).lines (read_head from c).rest))
      (sym r.spelled)
      ∙ ap (λ (p : HeadPlace). with_head_word word (head_within n p (read_head from c).lines (read_head from c).rest)) (sym r.goes_to)
      ∙ ap (λ (x : Cursor). with_head_word word (head_within n at x.lines x.rest)) (sym next)

  by : (left : ℕ) → length c.rest < left → head_from head (head_within left from c.lines c.rest).words
      ≡ head_of (head_in first.cursor).words → (head_within left from c.lines c.rest).lines ≡ (head_in first.cursor).lines
      → (head_within left from c.lines c.rest).rest ≡ (head_in first.cursor).rest → Leads first now at (take_head_word head word)
  by zero enough says lines rest = absurd (omega (arith, enough))
  by (suc n) enough says lines rest = record {
    words = suc l.words;
    there_are = behind_last l.words (head_front first.cursor) ∙ ap behind_word l.there_are
        ∙ ap (λ (p : HeadPlace). head_at p (behind_head c (read_head from c))) (sym r.goes_to)
        ∙ ap (λ (x : Cursor). head_at at x) (sym next);
    left = n;
    enough = omega (arith, enough, less);
    says = ap (λ (h : WholeHead). head_from head h.words) (sym (whole n)) ∙ says;
    lines = ap (λ (h : WholeHead). h.lines) (sym (whole n)) ∙ lines;
    rest = ap (λ (h : WholeHead). h.rest) (sym (whole n)) ∙ rest;
    nest = r.goes_on
        ∙ ap (λ (x : Nesting). record x { cursor = record x.cursor { rest = (read_head from c).rest; lines = (read_head from c).lines } })
        l.nest ∙ ap (λ (x : Cursor). record first { cursor = record first.cursor { rest = x.rest; lines = x.lines } }) (sym next);
  }

-- At the end of a head all its words were taken, and the rest behind it is left.
pub record LedOut (first now : Nesting) (head : HeadWords) : Type 0 where
  pub says : head ≡ head_of (head_in first.cursor).words
  pub nest : now ≡ past_head first

pub leads_out : (first was now : Nesting) (from at : HeadPlace) (head : HeadWords) (word : List ℕ) → Leads first was from head
    → ReadsHead false at word from was now → LedOut first now head
leads_out first was now from at head word l r = by l.left l.enough l.says l.lines l.rest where
  c : Cursor
  c = was.cursor

  none : (read_head from c).is_word ≡ false
  none = sym r.tells

  by : (left : ℕ) → length c.rest < left → head_from head (head_within left from c.lines c.rest).words
      ≡ head_of (head_in first.cursor).words → (head_within left from c.lines c.rest).lines ≡ (head_in first.cursor).lines
      → (head_within left from c.lines c.rest).rest ≡ (head_in first.cursor).rest → LedOut first now head
  by zero enough says lines rest = absurd (omega (arith, enough))
  by (suc n) enough says lines rest =
      let whole = word_none n from c none in
      record {
        says = ap (λ (h : WholeHead). head_from head h.words) (sym whole) ∙ says;
        nest = r.goes_on ∙ ap (λ (x : Nesting). record x {
          cursor = record x.cursor { rest = (read_head from c).rest; lines = (read_head from c).lines };
        }) l.nest
            ∙ ap (λ (bytes : List ℕ). record first { cursor = record first.cursor { rest = bytes; lines = (read_head from c).lines } })
            (ap (λ (h : WholeHead). h.rest) (sym whole) ∙ rest)
            ∙ ap (λ x. record first { cursor = record first.cursor { rest = (head_in first.cursor).rest; lines = x } })
            (ap (λ (h : WholeHead). h.lines) (sym whole) ∙ lines);
      }

-- a head in which reading was given up stops behind some words
pub stops_behind : (first was : Nesting) (from : HeadPlace) (head : HeadWords) (past : ℕ) (unread : List ℕ) → Leads first was from head
    → UnfinishedHead from was.cursor past unread → StopsInHead (head_front first.cursor) past unread
stops_behind first was from head past unread l open_still = record {
  words = l.words;
  not_ended = subst (λ (h : HeadAt). UnfinishedAt h past unread) (sym l.there_are) open_still;
}

-- reading was given up in the head, with the same files open
pub given_up_there : (failed : Type 0) (s : Sources) (start old now : Openings) (before after : Open) (told : Option (List ℕ))
    (name : List ℕ) → IsNested start old before → failed ⊎ (16777216 < after.lexer.window.given)
    → StopsInHead (head_front (nesting s start old before).cursor) (after.lexer.window.given - 16777216) (unread_now s now)
    → after.lexer.window.is_over ≡ false → opened_since start now ≡ opened_since start old
    → (after.nest ≡ before.nest) × ((after.outer ≡ before.outer) × (after.lexer.file ≡ before.lexer.file))
    → name ≡ unwrap_or (slice_get before.nest.names before.lexer.file) []
    → GivenUpInHead failed s (nesting s start old before) told told start now after name
given_up_there failed s start old now before after told name nested cause not_ended on opened same named = record {
  takes = takes_none told;
  cause = cause;
  not_ended = not_ended;
  goes_on = on;
  openings = opened;
  names = ap (λ (n : Nest). n.names) same.0;
  numbers = ap (λ (fs : List OpenFile). after.lexer.file ∷ files_of (lexers_of (reverse fs))) same.1.0
      ∙ ap (λ (i : ℕ). i ∷ files_of (lexers_of (reverse before.outer))) same.1.1 ∙ sym (files_are s start old before nested);
  name_is = named;
}

-- the files were not read for a known reason
pub unread_there : {S : Type 0} (f : Files S) (old new : S) (before after : Open)
    → Rose (f.faults old) (f.faults new) ⊎ (16777216 < after.lexer.window.given) → IsUnreadable f old new before after
unread_there f old new before after (inl rose) = inl rose
unread_there f old new before after (inr long) = inr (inl long)

-- a call that is followed by the choice of how files are read keeps the same
pub went_chosen : {S : Type 0} (f : Files S) (a b : S) (x y z : Open) (set : CharSet) (limit : ℕ) → z ≡ files_chosen set limit y
    → given_each z ≡ given_each y → ((start now : Openings) → IsNested start now y → IsNested start now z)
    → ((s : Sources) (n : ℕ) (now : Openings) → AllGiven s n now y → AllGiven s n now z) → Went f a b x y → Went f a b x z
went_chosen f a b x y z set limit is given nested all went = record {
  sources = went.sources;
  honesty = went.honesty;
  faults = went.faults;
  depth = went.depth ∙ ap (λ (o : Open). f.depth a + length o.outer) (sym is);
  counted = λ base was. subst (λ (gs : List ℕ). AreCounted base gs (f.counts b).each (f.counts b).too_long) (sym given)
      (went.counted base was);
  opened = subst (λ (o : Open). OpensOn x.nest.names o.nest.names (f.opened a) (f.opened b)) (sym is) went.opened;
  nested = λ honest start here. nested start (f.openings b) (went.nested honest start here);
  stays_given = λ honest start here g. all (f.sources a) (length start.all) (f.openings b) (went.stays_given honest start here g);
}

-- choices, made of their parts
abbrev pub made : Letters → Settings → List (List ℕ) → Choices
made letters settings directories = record { letters = letters; settings = settings; directories = directories }

pub chosen_is : (k l : Letters) (s t : Settings) (d e : List (List ℕ)) → k ≡ l → s ≡ t → d ≡ e → made k s d ≡ made l t e
chosen_is k l s t d e of_letters of_settings of_directories =
    ap (λ (x : Letters). made x s d) of_letters ∙ ap (λ (x : Settings). made l x d) of_settings
    ∙ ap (λ (x : List (List ℕ)). made l t x) of_directories

-- the choices of words over a head are those where the files are open
pub chosen_over_is : (was : Nesting) (head : HeadWords) (c d : Choice) (p : Choices) → head ≡ head_of (head_in was.cursor).words
    → d ≡ with_head head c → p ≡ by_words d → p ≡ chosen_at was c
chosen_over_is was head c d p says over is = is ∙ ap by_words over ∙ ap (λ (h : HeadWords). by_words (with_head h c)) says

-- the files as they are read with these choices
pub read_as_is : (o : Choices) (set : CharSet) (limit : ℕ) (was led read : Nesting) → led ≡ past_head was
    → read ≡ nesting_chosen set limit led → set ≡ set_of o.letters → limit ≡ most_quoted o → read ≡ read_as o was
read_as_is o set limit was led read behind chosen of_set of_limit =
    chosen ∙ ap (nesting_chosen set limit) behind ∙ ap (λ (x : CharSet). nesting_chosen x limit (past_head was)) of_set
    ∙ ap (λ (n : ℕ). nesting_chosen (set_of o.letters) n (past_head was)) of_limit

-- Where reading was given up in the head of a main source, all files were closed again.
pub heard_in_head : (failed : Type 0) (s : Sources) (name : List ℕ) (was : Nesting) (old now new : Openings) (f : Open)
    (before after : Option (List ℕ)) (told : List ℕ)
    → head_front was.cursor ≡ main_front s name → was.openings ≡ name ∷ [] → innermost_name was ≡ name → new.all ≡ now.all
    → IsNested old now f → AllGiven s (length old.all) now f → GivenUpInHead failed s was before after old now f told
    → HeardInHead failed s name old new before after told
heard_in_head failed s name was old now new f before after told front alone named all nested given h =
    let n : ℕ = length old.all in
    let at = innermost_of (length now.all) (reverse now.open_places) f.lexer (lexers_of (reverse f.outer)) nested.nested in
    let place : innermost_place now ≡ at.place = last_of now.open_places at.place at.rest at.is in
    let inside : AreNested (length now.all) (at.place ∷ at.rest) (lexers f) =
    subst (λ (ps : List ℕ). AreNested (length now.all) ps (lexers f)) at.is nested.nested in
    let tracked : AreTracked s n f.nest.names now.all (at.place ∷ at.rest) (lexers f) =
    subst (λ (ps : List ℕ). AreTracked s n f.nest.names now.all ps (lexers f)) at.is given.tracked in
    let counted : IsCounted s (innermost now) f.lexer.window =
    subst (λ (i : ℕ). IsCounted s (get_or now.all i (opened [])) f.lexer.window) (sym place) tracked.0.counted in
    let one : length (opened_since old now) ≡ 1 = ap (λ (names : List (List ℕ)). length names) (h.openings ∙ alone) in
    let first : innermost_place now ≡ n = omega (
      arith,
      place,
      one,
      length-map (drop n now.all) (λ (q : Opening). q.name),
      length-drop n now.all,
      nested.more,
      inside.0,
      tracked.0.behind,
    ) in
    let here : get_or new.all n (opened []) ≡ innermost now =
    ap (λ (xs : List Opening). get_or xs n (opened [])) all ∙ ap (λ (i : ℕ). get_or now.all i (opened [])) (sym first) in
    record {
      openings = ap (λ (xs : List Opening). map (λ (q : Opening). q.name) (drop n xs)) all ∙ h.openings ∙ alone;
      cause = subst (λ (p : Opening). failed ⊎ (16777216 < length p.given)) (sym here)
          (subst (λ (k : ℕ). failed ⊎ (16777216 < k)) (sym counted.count) h.cause);
      not_ended = subst (λ (p : Opening). StopsInHead (main_front s name) (length p.given - 16777216) (unread_of s p)) (sym here)
          (subst (λ (k : ℕ). StopsInHead (main_front s name) (k - 16777216) (unread_now s now)) (sym counted.count)
          (subst (λ (h : HeadAt). StopsInHead h (f.lexer.window.given - 16777216) (unread_now s now)) front h.not_ended));
      goes_on = ap (λ (p : Opening). p.is_read_out) here ∙ counted.goes_on h.goes_on;
      takes = h.takes;
      name_is = h.name_is ∙ named;
    }
