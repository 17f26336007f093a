-- Behind the units of `Verb` and `Extend` verbs and words are those of what they say, one after another.
use Rattle.std.proofs.Common.{◌≡◌, ℕ, zero, suc, ◌||◌, length, List, [], ◌∷◌, map, Option, Some, None, Bool, true, false, cond, refl, sym}
use Rattle.std.proofs.Common.{ap, ◌∙◌, subst, flat_map, Ordering, Less, Equal, Greater}
use Rattle.std.proofs.lemmas.Map.Lookups.{exact_bytes}
use Rattle.std.specs.{Cmp.Lexicographic.slice_cmp, Ordering.is_eq, Ordering.nat_cmp}
use Rattle.inf_settings.specs.Bounds.{Limits}
use Rattle.inf_scanner.specs.declared.tokens.DictionaryWord.{DictionaryWord}
use Rattle.inf_dictionary.specs.Words.{Words, add_fault as word_fault, or_verb, verb_byte_of, verb_in, verb_of, with_use, word_of}
use Rattle.inf_dictionary.specs.{declared.dictionary.AddFault.AddFault as WordFault, declared.uses.WordUse.WordUse}
use Rattle.inf_tables.specs.Tables.{AllTables}
use Rattle.inf_unit.specs.{Tokens.SourceToken, Units.name_at, Units.name_order, Units.next_place}
use Rattle.inf_output.specs.Output.{Out, with_word, with_word_by}
use Rattle.inf_compilation.specs.{Actions.Compilation, Context.Context}
use Rattle.inf_verbs.specs.{Lines.LineOf, Verbs.line_fault_of, Verbs.lines_of as lines_in, Verbs.with_extended}
use Rattle.inf_verbs.specs.{Verbs.with_line_of, Verbs.with_verb, declared.verbs.LineFault.LineFault, declared.verbs.LinePlace.LinePlace}
use Rattle.inf_verb_lines.specs.Verbs.{action_by, arrow_in, extend_header, has_verb, line_ended, line_kept_by, line_laid}
use Rattle.inf_verb_lines.specs.Verbs.{lines_of, one_line_by, texts_before, tokens_finding, verb_extended, verb_header}
use Rattle.inf_verb_lines.specs.Verbs.{verb_by, with_text, with_verbs, word_at, word_used}
use Rattle.inf_verb_laws.specs.Laws.{where_of}
use Rattle.inf_verb_laws.specs.Saying.{Tables, no_tables, place_of, verb_use as use_by, with_all, with_line_told, with_lines, with_more_lines}
use Rattle.inf_verb_laws.specs.Saying.{with_more_words, with_one, with_words}
use Rattle.inf_verb_laws.specs.Verbs.{Line, Text, has_word, prepositions, same_text}
use Rattle.inf_verb_laws.proofs.Saying.{has_both, lines_agree, one_used, others_used, other_used, use_is, verbs_used, words_agree, words_keep_verbs}
use Rattle.inf_entry_laws.specs.Runs.{Piece}
use Rattle.inf_entry_laws.specs.Verbs.{head_of, how_of, line_of, taken, use_of, verbs_of, word_with, words_of, words_with}
use Rattle.inf_entry_laws.specs.VerbChains.{AreLines, AreVerbs, Extended, IsExtended, IsMore, IsNew, IsVerb, Leaves, LineUnit, More, New}
use Rattle.inf_entry_laws.specs.VerbChains.{UnitsMakeVerbs, VerbUnits, lines_behind, lines_said, said_of, text_at, text_of, texts_of, verb_behind}
use Rattle.inf_entry_laws.specs.VerbChains.{verbs_behind}
use Rattle.inf_entry_laws.proofs.{Lines.action_stays, Lines.tokens_stay, Verbs.verbs_change}

-- Lemmas about the verb of a word

abbrev verb_in_tables : Text → AllTables → Option ℕ
verb_in_tables t tables = verb_of t tables.dictionary.list

is_equal : (o : Ordering) → is_eq o ≡ true → o ≡ Equal
is_equal Less h = absurd (cc h)
is_equal Equal h = refl
is_equal Greater h = absurd (cc h)

same_is : (t u : Text) → same_text t u ≡ true → t ≡ u
same_is t u e = exact_bytes t u (is_equal (slice_cmp nat_cmp t u) e)

-- a word that is one of a verb becomes one of it again
again_by : (n : ℕ) (b : Bool) (o : Option ℕ) → (b ≡ true → o ≡ Some n) → cond b (or_verb (Some n) o) o ≡ o
again_by n true o h = sym (h refl)
again_by n false o h = refl

module _ (how : WordUse) (n : ℕ) (is : verb_in how ≡ Some n) where
  again : (u t : Text) (p : Bool) (words : Words) → verb_of u words.list ≡ Some n → verb_of t (with_use u how p words).list ≡ verb_of t words.list
  again u t p words e = one_used how p u t words
      ∙ ap (λ v. cond (same_text t u) (or_verb v (verb_of t words.list)) (verb_of t words.list)) is
      ∙ again_by n (same_text t u) (verb_of t words.list) (λ h. ap (λ x. verb_of x words.list) (same_is t u h) ∙ e)

  -- words before a place
  chosen : (a b : Bool) (x y : Option ℕ) → cond b x (cond a x y) ≡ cond (a || b) x y
  chosen true true x y = refl
  chosen true false x y = refl
  chosen false true x y = refl
  chosen false false x y = refl

  one_more : (word : Option DictionaryWord) (before : List Text) (t : Text) (words : Words) (old : Option ℕ)
      → verb_of t words.list ≡ cond (has_word t before) (Some n) old
      → verb_of t (word_with word how words).list ≡ cond (has_word t (with_text word before)) (Some n) old
  one_more None before t words old e = e
  one_more (Some word) before t words old e = one_used how word.is_plural word.text t words
      ∙ ap (λ v. cond (same_text t word.text) (or_verb v (verb_of t words.list)) (verb_of t words.list)) is
      ∙ ap (cond (same_text t word.text) (Some n)) e
      ∙ chosen (has_word t before) (same_text t word.text) (Some n) old
      ∙ ap (λ b. cond (has_word t before || b) (Some n) old) (or_nothing (same_text t word.text))
      ∙ ap (λ b. cond b (Some n) old) (sym (has_both t before (word.text ∷ [])))
    where
      or_nothing : (b : Bool) → b ≡ (b || false)
      or_nothing true = refl
      or_nothing false = refl

  words_verbs : (at : ℕ) (tokens : List SourceToken) (t : Text) (words : Words)
      → verb_of t (words_with at tokens how words).list ≡ cond (has_word t (texts_before at tokens)) (Some n) (verb_of t words.list)
  words_verbs zero tokens t words = refl
  words_verbs (suc at) tokens t words =
      one_more (word_at tokens at) (texts_before at tokens) t (words_with at tokens how words) (verb_of t words.list)
      (words_verbs at tokens t words)

  -- the word of a header that is one of the verb
  word_again : (word : Option DictionaryWord) (t : Text) (words : Words) → verb_of (text_of word) words.list ≡ Some n
      → verb_of t (word_with word how words).list ≡ verb_of t words.list
  word_again None t words e = refl
  word_again (Some word) t words e = again word.text t word.is_plural words e

module _ (limits : Limits) (t : Text) where
  -- Lemmas about words in a use that names no verb, or their own

  word_leaves_by : (f : Option WordFault) (u : Text) (how : WordUse) (p : Bool) (o : Out)
      → verb_of t (with_use u how p o.tables.dictionary).list ≡ verb_in_tables t o.tables
      → verb_in_tables t (with_word_by limits f u how p o).tables ≡ verb_in_tables t o.tables
  word_leaves_by None u how p o e = e
  word_leaves_by (Some WordFault.Full) u how p o e = refl
  word_leaves_by (Some WordFault.OtherVerb) u how p o e = refl
  word_leaves_by (Some WordFault.Memory) u how p o e = refl

  preposition_leaves : (u : Text) (p : Bool) (o : Out)
      → verb_in_tables t (with_word limits u WordUse.Preposition p o).tables ≡ verb_in_tables t o.tables
  preposition_leaves u p o =
      word_leaves_by (word_fault limits (word_of u o.tables.dictionary.list) WordUse.Preposition o.tables.dictionary) u WordUse.Preposition p
      o (other_used WordUse.Preposition p u t o.tables.dictionary refl)

  again_leaves : (n : ℕ) (word : Option DictionaryWord) (o : Out) → verb_of (text_of word) o.tables.dictionary.list ≡ Some n
      → verb_in_tables t (word_used limits word (WordUse.Verb n) o).tables ≡ verb_in_tables t o.tables
  again_leaves n None o e = refl
  again_leaves n (Some word) o e =
      let how = WordUse.Verb n in
      word_leaves_by (word_fault limits (word_of word.text o.tables.dictionary.list) how o.tables.dictionary) word.text how word.is_plural o
      (again how n refl word.text t word.is_plural o.tables.dictionary e)

  -- Lemmas about a line

  laid_leaves_by : (f : Option LineFault) (n : ℕ) (how : LinePlace) (l : LineOf) (o : Out)
      → verb_in_tables t (one_line_by limits f n how l o).tables ≡ verb_in_tables t o.tables
  laid_leaves_by None n how l o = refl
  laid_leaves_by (Some f) n how l o = refl

  laid_leaves : (b : Bool) (f : Option LineFault) (n : ℕ) (how : LinePlace) (l : LineOf) (o : Out)
      → verb_in_tables t (cond b (one_line_by limits f n how l o) o).tables ≡ verb_in_tables t o.tables
  laid_leaves true f n how l o = laid_leaves_by f n how l o
  laid_leaves false f n how l o = refl

  kept_leaves : (v : Option ℕ) (how : LinePlace) (l : LineOf) (o : Out)
      → verb_in_tables t (line_kept_by limits v how l o).tables ≡ verb_in_tables t o.tables
  kept_leaves None how l o = refl
  kept_leaves (Some n) how l o = laid_leaves (has_verb n o) (line_fault_of limits (length l.tokens) o.tables.verbs) n how l o

  line_leaves : (context : Context) (u : Piece) → tokens_finding (arrow_in u.work.unit.tokens) u.work.unit.tokens u.work.output.names ≡ None
      → verb_of t (words_of (line_ended limits context u.place u.work)).list ≡ verb_of t (words_of u.work).list
  line_leaves context u untold =
      let w = u.work in
      let arrow = arrow_in w.unit.tokens in
      let name = name_at w.unit.tokens (next_place arrow) in
      let o = (action_by limits name (taken limits w).0).0 in
      let P = verb_in_tables t in
      ap (λ f. verb_of t (words_of (line_laid limits f arrow w)).list) untold
      ∙ kept_leaves w.extending.verb w.extending.place (line_of limits w) o
      ∙ action_stays limits P preposition_leaves (λ r x. refl) (λ a x. refl) name (taken limits w).0
      ∙ tokens_stay limits P preposition_leaves (λ r x. refl) (λ a x. refl) arrow w.unit.tokens w.output

  -- Lemmas about `Extend`

  extended_leaves : (n : ℕ) (how : LinePlace) (b : Bool) (o : Out)
      → verb_in_tables t (cond b (with_verbs (with_extended n how o.tables.verbs) o) o).tables ≡ verb_in_tables t o.tables
  extended_leaves n how true o = refl
  extended_leaves n how false o = refl

  header_leaves : (n : ℕ) (how : LinePlace) (word : Option DictionaryWord) (o : Out) → verb_of (text_of word) o.tables.dictionary.list ≡ Some n
      → verb_in_tables t (verb_extended limits (Some n) how word o).tables ≡ verb_in_tables t o.tables
  header_leaves n how word o e =
      let p = word_used limits word (WordUse.Verb n) o in
      extended_leaves n how (has_verb n p) p ∙ again_leaves n word o e

-- Verbs and words of the tables are those of the operations for what is said.
record Alike (s : Tables) (w : Compilation) : Type 0 where
  verbs : verbs_of w ≡ s.verbs
  words : (t : Text) → verb_of t (words_of w).list ≡ verb_of t s.words.list

named_is : (word : Option DictionaryWord) (o : Out) (n : ℕ) → verb_by word o ≡ Some n → verb_of (text_of word) o.tables.dictionary.list ≡ Some n
named_is None o n e = absurd (cc e)
named_is (Some word) o n e = e

place_is : (how : LinePlace) → place_of (where_of how) ≡ how
place_is LinePlace.First = refl
place_is LinePlace.Last = refl
place_is LinePlace.Replace = refl

module _ (limits : Limits) (context : Context) (f : Line → LineOf) where
  leaves_alike : (s : Tables) (u : Piece) (before : Compilation) → Alike s before → Leaves u before → Alike s u.work
  leaves_alike s u before a l = record { verbs = l.verbs ∙ a.verbs; words = λ t. l.words t ∙ a.words t }

  extending_stays : (u : Piece) → tokens_finding (arrow_in u.work.unit.tokens) u.work.unit.tokens u.work.output.names ≡ None
      → (line_ended limits context u.place u.work).extending ≡ u.work.extending
  extending_stays u untold = ap (λ f. (line_laid limits f (arrow_in u.work.unit.tokens) u.work).extending) untold

  lines_alike : (n : ℕ) (how : LinePlace) (lines : List LineUnit) (s : Tables) (before : Compilation) → Alike s before
      → before.extending ≡ lines_of (Some n) how → AreLines limits context f lines n before
      → Alike (with_lines f n how (lines_said lines) s) (lines_behind limits context lines before)
  lines_alike n how [] s before a opened are = a
  lines_alike n how (l ∷ lines) s before a opened are =
      let i = are.0 in
      let u = l.unit in
      let w = u.work in
      let texts = flat_map prepositions l.line.tokens in
      let b = leaves_alike s u before a i.leaves in
      let opens : w.extending ≡ lines_of (Some n) how = i.same_verb ∙ opened in
      lines_alike n how lines (with_line_told f n how l.line s) (line_ended limits context u.place w)
      (record {
        verbs = (verbs_change limits context u.place w).line n (ap (λ e. e.verb) opens) i.there i.untold i.fits
            ∙ ap (λ e. with_line_of n e.place (line_of limits w) (verbs_of w)) opens
            ∙ ap (λ l. with_line_of n how l (verbs_of w)) i.told
            ∙ ap (with_line_of n how (f l.line)) (b.verbs ∙ sym (words_keep_verbs WordUse.Preposition texts s));
        words = λ t. line_leaves limits t context u i.untold ∙ b.words t ∙ sym (others_used WordUse.Preposition texts t s refl);
      })
      (extending_stays u i.untold ∙ opens) are.1

  new_alike : (u : Piece) (lines : List LineUnit) (s : Tables) (before : Compilation) → Alike s before
      → IsNew limits context f u lines before → Alike (with_one f (said_of (New u lines)) s) (verb_behind limits context (New u lines))
  new_alike u lines s before a i =
      let w = u.work in
      let n = length (verbs_of w).list in
      let b = leaves_alike s u before a i.leaves in
      let is_meta = (head_of w).is_meta in
      let texts = texts_of w in
      let r : Tables = record { verbs = with_verb s.verbs; words = s.words } in
      let h = verb_header limits context u.place w in
      let c = verbs_change limits context u.place w in
      subst (λ m. Alike (with_lines f m LinePlace.Last (lines_said lines) (with_words (use_by is_meta m) texts r))
      (verb_behind limits context (New u lines))) (ap (λ v. length v.list) b.verbs)
      (lines_alike n LinePlace.Last lines (with_words (use_by is_meta n) texts r) h
      (record {
        verbs = c.verb i.plain i.untold i.fits ∙ ap with_verb b.verbs ∙ sym (words_keep_verbs (use_by is_meta n) texts r);
        words = λ t. ap (λ words. verb_of t words.list) (c.words i.plain i.untold i.fits i.words_fit)
            ∙ words_verbs (use_of n w) n (use_is is_meta n) (head_of w).end w.unit.tokens t (words_of w)
            ∙ ap (cond (has_word t texts) (Some n)) (b.words t)
            ∙ sym (verbs_used (use_by is_meta n) n texts t r (use_is is_meta n));
      })
      (c.opens i.plain i.untold i.fits) i.are_lines)

  more_alike : (u : Piece) (at : ℕ) (s : Tables) (before : Compilation) → Alike s before → IsMore limits u at before
      → Alike (with_one f (said_of (More u at)) s) (verb_behind limits context (More u at))
  more_alike u at s before a i =
      let w = u.work in
      let n = i.number in
      let b = leaves_alike s u before a i.leaves in
      let is_meta = (head_of w).is_meta in
      let texts = texts_of w in
      let c = verbs_change limits context u.place w in
      let word = word_at w.unit.tokens at in
      let known : verb_of (text_at at w) (words_of w).list ≡ Some n = named_is word w.output n i.named in
      let words = words_with (head_of w).end w.unit.tokens (use_of n w) (words_of w) in
      let verb : (t : Text) → verb_of t words.list ≡ cond (has_word t texts) (Some n) (verb_of t (words_of w).list) =
      λ t. words_verbs (use_of n w) n (use_is is_meta n) (head_of w).end w.unit.tokens t (words_of w) in
      subst (λ o. Alike (with_more_words o is_meta texts s) (verb_behind limits context (More u at))) (sym known ∙ b.words (text_at at w))
      (record {
        verbs = c.like at n i.sign i.untold i.named ∙ b.verbs ∙ sym (words_keep_verbs (use_by is_meta n) texts s);
        words = λ t. ap (λ words. verb_of t words.list) (c.more_words at n i.sign i.untold i.named i.words_fit i.word_fits)
            ∙ word_again (WordUse.Verb n) n refl word t words (verb (text_at at w) ∙ still (has_word (text_at at w) texts) n _ known)
            ∙ verb t
            ∙ ap (cond (has_word t texts) (Some n)) (b.words t)
            ∙ sym (verbs_used (use_by is_meta n) n texts t s (use_is is_meta n));
      })
    where
      still : (b : Bool) (n : ℕ) (o : Option ℕ) → o ≡ Some n → cond b (Some n) o ≡ Some n
      still true n o e = refl
      still false n o e = e

  extended_alike : (u : Piece) (lines : List LineUnit) (s : Tables) (before : Compilation) → Alike s before
      → IsExtended limits context f u lines before
      → Alike (with_one f (said_of (Extended u lines)) s) (verb_behind limits context (Extended u lines))
  extended_alike u lines s before a i =
      let w = u.work in
      let n = i.number in
      let at = name_order w.unit.tokens in
      let how = how_of w in
      let word = word_at w.unit.tokens at in
      let b = leaves_alike s u before a i.leaves in
      let c = verbs_change limits context u.place w in
      let known : verb_of (text_at at w) (words_of w).list ≡ Some n = named_is word w.output n i.named in
      let r : Tables = record { verbs = with_extended n how s.verbs; words = s.words } in
      subst (λ o. Alike (with_more_lines f o (place_of (where_of how)) (lines_said lines) s) (verb_behind limits context (Extended u lines)))
      (sym known ∙ b.words (text_at at w))
      (subst (λ p. Alike (with_more_lines f (Some n) p (lines_said lines) s) (verb_behind limits context (Extended u lines)))
      (sym (place_is how))
      (lines_alike n how lines r (extend_header limits context u.place w)
      (record {
        verbs = c.extend n i.named i.there ∙ ap (with_extended n how) b.verbs;
        words = λ t. ap (λ k. verb_in_tables t (verb_extended limits k how word w.output).tables) i.named
            ∙ header_leaves limits t n how word w.output known ∙ b.words t;
      })
      (c.extends n i.named) i.are_lines))

  one_alike : (u : VerbUnits) (s : Tables) (before : Compilation) → Alike s before → IsVerb limits context f u before
      → Alike (with_one f (said_of u) s) (verb_behind limits context u)
  one_alike (New u lines) s before a i = new_alike u lines s before a i
  one_alike (More u at) s before a i = more_alike u at s before a i
  one_alike (Extended u lines) s before a i = extended_alike u lines s before a i

  all_alike : (units : List VerbUnits) (s : Tables) (before : Compilation) → Alike s before → AreVerbs limits context f units before
      → Alike (with_all f (map said_of units) s) (verbs_behind limits context units before)
  all_alike [] s before a are = a
  all_alike (u ∷ units) s before a are =
      all_alike units (with_one f (said_of u) s) (verb_behind limits context u) (one_alike u s before a are.0) are.1

pub units_make_verbs : UnitsMakeVerbs
units_make_verbs limits context f units before none unknown right are =
    let a = all_alike limits context f units no_tables before (record {
      verbs = ap (λ l. record { list = l }) none;
      words = unknown;
    }) are in
    record {
      lines = ap (λ v. map lines_in v.list) a.verbs ∙ lines_agree f (map said_of units) right;
      words = λ t. ap verb_byte_of (a.words t) ∙ words_agree f (map said_of units) right t;
    }
