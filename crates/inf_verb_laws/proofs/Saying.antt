-- Verbs, one thing after another that a source says of them: each has the lines of the description, and each word its verb.
use Rattle.std.proofs.Common.{◌≡◌, ℕ, zero, suc, ◌+◌, ◌-◌, ◌||◌, List, [], ◌∷◌, ◌++◌, length, map, option_map, Option, Some, None, Bool, true}
use Rattle.std.proofs.Common.{false, cond, refl, sym, ap, ◌∙◌, subst, arith, fold, slice_index_or, slice_set, flat_map}
use Rattle.std.proofs.lemmas.List.{length-map, map-append}
use Rattle.std.specs.{Cmp.Lexicographic.lists_total, Cmp.nat_cmp_total, List.list_any}
use Rattle.inf_dictionary.specs.{Uses.UseOf, Words.Words, Words.joined, Words.or_verb, Words.verb_byte_of, Words.verb_in, Words.verb_in_word}
use Rattle.inf_dictionary.specs.{Words.verb_of, Words.with_use, Words.word_of, declared.uses.Word.Word, declared.uses.WordUse.WordUse}
use Rattle.inf_dictionary.proofs.Known.{known_by_all}
use Rattle.inf_verbs.specs.{Lines.LineOf, declared.verbs.LinePlace.LinePlace}
use Rattle.inf_verbs.specs.Verbs.{VerbOf, extended as with_place, lines_of, no_lines, with_extended, with_line, with_line_of, with_verb}
use Rattle.inf_verb_laws.specs.Verbs.{Extend, First, Last, Like, Line, Mentions, Plural, Replace, Said, Text, Uses, Verb, VerbIs, Where}
use Rattle.inf_verb_laws.specs.Verbs.{changed, extended, has_word, prepositions, same_text, verb_byte, verb_from, verbs, with_said}
use Rattle.inf_verb_laws.specs.Saying.{AreNew, AreRight, IsRight, LinesAgree, Tables, WordsAgree, all_words, lacks, no_tables, place_of, verb_use, with_all}
use Rattle.inf_verb_laws.specs.Saying.{with_line_told, with_lines, with_more_lines, with_more_words, with_one, with_word, with_words}
use Rattle.inf_verb_laws.proofs.Extended.{extend_agrees}

-- Lemmas about the verb of a word, by its place among all

abbrev place : Text → List (List Text) → Option ℕ
place t [] = None
place t (w ∷ ws) = cond (has_word t w) (Some 0) (option_map suc (place t ws))

abbrev byte_from : ℕ → Option ℕ → ℕ
byte_from n None = 0
byte_from n (Some m) = 255 - (n + m)

byte_later : (n : ℕ) (o : Option ℕ) → byte_from (n + 1) o ≡ byte_from n (option_map suc o)
byte_later n None = refl
byte_later n (Some m) = ap (λ k. 255 - k) (let same : n + 1 + m ≡ n + suc m = omega arith in same)

byte_is : (n : ℕ) (t : Text) (vs : List VerbIs) → verb_from n t vs ≡ byte_from n (place t (all_words vs))
byte_is n t [] = refl
byte_is n t (v ∷ vs) = by (has_word t v.words) (byte_is (n + 1) t vs)
  where
    by : (b : Bool) → verb_from (n + 1) t vs ≡ byte_from (n + 1) (place t (all_words vs))
        → cond b (255 - n) (verb_from (n + 1) t vs) ≡ byte_from n (cond b (Some 0) (option_map suc (place t (all_words vs))))
    by true e = ap (λ k. 255 - k) (let same : n ≡ n + 0 = omega arith in same)
    by false e = e ∙ byte_later n (place t (all_words vs))

byte_of : (o : Option ℕ) → verb_byte_of o ≡ byte_from 0 o
byte_of None = refl
byte_of (Some m) = ap (λ k. 255 - k) (let same : m ≡ 0 + m = omega arith in same)

-- Lemmas about words

verb_joined : (known : Option Word) (how : WordUse) (p : Bool) → verb_in_word (Some (joined known how p)) ≡ or_verb (verb_in how) (verb_in_word known)
verb_joined None (WordUse.Verb n) p = refl
verb_joined None (WordUse.MetaVerb n) p = refl
verb_joined None WordUse.Preposition p = refl
verb_joined None WordUse.Other p = refl
verb_joined (Some word) how p = refl

verb_chosen : (b : Bool) (known : Option Word) (how : WordUse) (p : Bool)
    → verb_in_word (cond b (Some (joined known how p)) known) ≡ cond b (or_verb (verb_in how) (verb_in_word known)) (verb_in_word known)
verb_chosen true known how p = verb_joined known how p
verb_chosen false known how p = refl

-- the verb of a word behind one use
pub one_used : (how : WordUse) (p : Bool) (u t : Text) (words : Words)
    → verb_of t (with_use u how p words).list ≡ cond (same_text t u) (or_verb (verb_in how) (verb_of t words.list)) (verb_of t words.list)
one_used how p u t words =
    ap verb_in_word (known_by_all (lists_total nat_cmp_total) (record { text = u; how = how; is_plural = p } ∷ []) t words)
    ∙ verb_chosen (same_text t u) (word_of t words.list) how p

same_by : {A : Type 0} (b : Bool) (x : A) → cond b x x ≡ x
same_by true x = refl
same_by false x = refl

-- a use that names no verb
pub other_used : (how : WordUse) (p : Bool) (u t : Text) (words : Words) → verb_in how ≡ None
    → verb_of t (with_use u how p words).list ≡ verb_of t words.list
other_used how p u t words none = one_used how p u t words
    ∙ ap (λ o. cond (same_text t u) (or_verb o (verb_of t words.list)) (verb_of t words.list)) none
    ∙ same_by (same_text t u) (verb_of t words.list)

pub others_used : (how : WordUse) (texts : List Text) (t : Text) (s : Tables) → verb_in how ≡ None
    → verb_of t (with_words how texts s).words.list ≡ verb_of t s.words.list
others_used how [] t s none = refl
others_used how (u ∷ texts) t s none = others_used how texts t (with_word how false u s) none ∙ other_used how false u t s.words none

either : {A : Type 0} (a b : Bool) (x y : A) → cond a x (cond b x y) ≡ cond (b || a) x y
either true true x y = refl
either true false x y = refl
either false true x y = refl
either false false x y = refl

pub verbs_used : (how : WordUse) (n : ℕ) (texts : List Text) (t : Text) (s : Tables) → verb_in how ≡ Some n
    → verb_of t (with_words how texts s).words.list ≡ cond (has_word t texts) (Some n) (verb_of t s.words.list)
verbs_used how n [] t s is = refl
verbs_used how n (u ∷ texts) t s is = verbs_used how n texts t (with_word how false u s) is
    ∙ ap (λ o. cond (has_word t texts) (Some n) o) (one_used how false u t s.words
    ∙ ap (λ o. cond (same_text t u) (or_verb o (verb_of t s.words.list)) (verb_of t s.words.list)) is)
    ∙ either (has_word t texts) (same_text t u) (Some n) (verb_of t s.words.list)

pub words_keep_verbs : (how : WordUse) (texts : List Text) (s : Tables) → (with_words how texts s).verbs ≡ s.verbs
words_keep_verbs how [] s = refl
words_keep_verbs how (u ∷ texts) s = words_keep_verbs how texts (with_word how false u s)

pub use_is : (is_meta : Bool) (n : ℕ) → verb_in (verb_use is_meta n) ≡ Some n
use_is true n = refl
use_is false n = refl

-- Words of several verbs: no word is one of two.

abbrev OneOf : Text → List (List Text) → Type 0
OneOf t [] = Unit {0}
OneOf t (w ∷ ws) = (has_word t w ≡ true → lacks t ws) × OneOf t ws

place_lacks : (t : Text) (ws : List (List Text)) → place t ws ≡ None → lacks t ws
place_lacks t [] e = refl
place_lacks t (w ∷ ws) e = by (has_word t w) e (place_lacks t ws)
  where
    later : (o : Option ℕ) → option_map suc o ≡ None → o ≡ None
    later None e = refl
    later (Some m) e = absurd (cc e)

    by : (b : Bool) → cond b (Some 0) (option_map suc (place t ws)) ≡ None → (place t ws ≡ None → lacks t ws)
        → (b || list_any (has_word t) ws) ≡ false
    by true e rest = absurd (cc e)
    by false e rest = rest (later (place t ws) e)

-- a new verb behind all
place_end : (t : Text) (words : List Text) (ws : List (List Text)) → (has_word t words ≡ true → lacks t ws)
    → place t (ws ++ words ∷ []) ≡ cond (has_word t words) (Some (length ws)) (place t ws)
place_end t words [] new = refl
place_end t words (w ∷ ws) new = by (has_word t words) refl (has_word t w) refl (place_end t words ws)
  where
    by : (b : Bool) → has_word t words ≡ b → (c : Bool) → has_word t w ≡ c
        → ((has_word t words ≡ true → lacks t ws) → place t (ws ++ words ∷ []) ≡ cond (has_word t words) (Some (length ws)) (place t ws))
        → cond (has_word t w) (Some 0) (option_map suc (place t (ws ++ words ∷ [])))
        ≡ cond (has_word t words) (Some (length (w ∷ ws))) (cond (has_word t w) (Some 0) (option_map suc (place t ws)))
    by true e true h rest = absurd (cc (sym (ap (λ b. b || list_any (has_word t) ws) h) ∙ new e))
    by true e false h rest = ap (λ c. cond c (Some 0) (option_map suc (place t (ws ++ words ∷ [])))) h
        ∙ ap (option_map suc) (rest (λ k. sym (ap (λ b. b || list_any (has_word t) ws) h) ∙ new k)
        ∙ ap (λ b. cond b (Some (length ws)) (place t ws)) e)
        ∙ sym (ap (λ b. cond b (Some (length (w ∷ ws))) (cond (has_word t w) (Some 0) (option_map suc (place t ws)))) e)
    by false e c h rest = ap (λ o. cond (has_word t w) (Some 0) (option_map suc o)) (rest (λ k. absurd (cc (sym k ∙ e)))
        ∙ ap (λ b. cond b (Some (length ws)) (place t ws)) e)
        ∙ sym (ap (λ b. cond b (Some (length (w ∷ ws))) (cond (has_word t w) (Some 0) (option_map suc (place t ws)))) e)

or_parts : (a b : Bool) → (a || b) ≡ false → (a ≡ false) × (b ≡ false)
or_parts true b e = absurd (cc e)
or_parts false b e = (refl, e)

lacks_end : (t : Text) (words : List Text) (ws : List (List Text)) → lacks t ws → has_word t words ≡ false → lacks t (ws ++ words ∷ [])
lacks_end t words [] h e = ap (λ b. b || false) e
lacks_end t words (w ∷ ws) h e =
    let parts = or_parts (has_word t w) (list_any (has_word t) ws) h in
    ap (λ b. b || list_any (has_word t) (ws ++ words ∷ [])) parts.0 ∙ lacks_end t words ws parts.1 e

one_end : (t : Text) (words : List Text) (ws : List (List Text)) → (has_word t words ≡ true → lacks t ws) → OneOf t ws
    → OneOf t (ws ++ words ∷ [])
one_end t words [] new one = (λ h. refl, tt)
one_end t words (w ∷ ws) new one = (
  λ h. lacks_end t words ws (one.0 h) (not_new (has_word t words) refl h),
  one_end t words ws (λ h. (or_parts (has_word t w) (list_any (has_word t) ws) (new h)).1) one.1,
)
  where
    not_new : (b : Bool) → has_word t words ≡ b → has_word t w ≡ true → b ≡ false
    not_new true e h = absurd (cc (sym (or_parts (has_word t w) (list_any (has_word t) ws) (new e)).0 ∙ h))
    not_new false e h = refl

-- further words of the verb that has one
abbrev more : Text → List Text → List (List Text) → List (List Text)
more t words ws = map (λ w. cond (has_word t w) (w ++ words) w) ws

more_none : (t : Text) (words : List Text) (ws : List (List Text)) → lacks t ws → more t words ws ≡ ws
more_none t words [] h = refl
more_none t words (w ∷ ws) h =
    let parts = or_parts (has_word t w) (list_any (has_word t) ws) h in
    ap (λ b. cond b (w ++ words) w ∷ more t words ws) parts.0 ∙ ap (λ l. w ∷ l) (more_none t words ws parts.1)

or_grouped : (a b c : Bool) → ((a || b) || c) ≡ (a || (b || c))
or_grouped true b c = refl
or_grouped false b c = refl

pub has_both : (t : Text) (xs ys : List Text) → has_word t (xs ++ ys) ≡ (has_word t xs || has_word t ys)
has_both t [] ys = refl
has_both t (x ∷ xs) ys = ap (λ b. same_text t x || b) (has_both t xs ys) ∙ sym (or_grouped (same_text t x) (has_word t xs) (has_word t ys))

exchanged : (a b : Bool) (m : ℕ) (o : Option ℕ) → (b ≡ true → a ≡ false)
    → cond a (Some 0) (option_map suc (cond b (Some m) o)) ≡ cond b (Some (suc m)) (cond a (Some 0) (option_map suc o))
exchanged true true m o h = absurd (cc (h refl))
exchanged true false m o h = refl
exchanged false true m o h = refl
exchanged false false m o h = refl

-- where a word of one verb gives it more words, these are words of that verb
place_later : (words : List Text) (u : Text) (n : ℕ) (w : List Text) (ws vs : List (List Text)) (o : Option ℕ)
    → (has_word u words ≡ true → has_word u w ≡ false)
    → ((m : ℕ) → o ≡ Some m → place u vs ≡ cond (has_word u words) (Some m) (place u ws)) → option_map suc o ≡ Some n
    → place u (w ∷ vs) ≡ cond (has_word u words) (Some n) (place u (w ∷ ws))
place_later words u n w ws vs None new rest e = absurd (cc e)
place_later words u n w ws vs (Some m) new rest e =
    let next : suc m ≡ n = cc e in
    ap (λ o. cond (has_word u w) (Some 0) (option_map suc o)) (rest m refl)
    ∙ exchanged (has_word u w) (has_word u words) m (place u ws) new
    ∙ ap (λ k. cond (has_word u words) (Some k) (place u (w ∷ ws))) next

place_by : (t : Text) (words : List Text) (u : Text) (n : ℕ) (w : List Text) (ws : List (List Text)) → (b : Bool) → (b ≡ true → lacks t ws)
    → (has_word u words ≡ true → has_word u w ≡ false)
    → ((m : ℕ) → place t ws ≡ Some m → place u (more t words ws) ≡ cond (has_word u words) (Some m) (place u ws))
    → cond b (Some 0) (option_map suc (place t ws)) ≡ Some n
    → place u (cond b (w ++ words) w ∷ more t words ws) ≡ cond (has_word u words) (Some n) (place u (w ∷ ws))
place_by t words u n w ws true only new rest e =
    let first : 0 ≡ n = cc e in
    ap (λ l. place u ((w ++ words) ∷ l)) (more_none t words ws (only refl))
    ∙ ap (λ b. cond b (Some 0) (option_map suc (place u ws))) (has_both u w words)
    ∙ sym (either (has_word u words) (has_word u w) (Some 0) (option_map suc (place u ws)))
    ∙ ap (λ k. cond (has_word u words) (Some k) (place u (w ∷ ws))) first
place_by t words u n w ws false only new rest e = place_later words u n w ws (more t words ws) (place t ws) new rest e

place_more : (t : Text) (words : List Text) (u : Text) (n : ℕ) (ws : List (List Text)) → AreNew words ws → OneOf t ws
    → place t ws ≡ Some n → place u (more t words ws) ≡ cond (has_word u words) (Some n) (place u ws)
place_more t words u n [] new one e = absurd (cc e)
place_more t words u n (w ∷ ws) new one e =
    place_by t words u n w ws (has_word t w) one.0 (λ h. (or_parts (has_word u w) (list_any (has_word u) ws) (new u h)).0)
    (λ m p. place_more t words u m ws (λ v h. (or_parts (has_word v w) (list_any (has_word v) ws) (new v h)).1) one.1 p) e

lacks_more : (t : Text) (words : List Text) (u : Text) (ws : List (List Text)) → has_word u words ≡ false → lacks u ws
    → lacks u (more t words ws)
lacks_more t words u [] e h = refl
lacks_more t words u (w ∷ ws) e h =
    let parts = or_parts (has_word u w) (list_any (has_word u) ws) h in
    ap (λ b. b || list_any (has_word u) (more t words ws)) (by (has_word t w) parts.0) ∙ lacks_more t words u ws e parts.1
  where
    by : (b : Bool) → has_word u w ≡ false → has_word u (cond b (w ++ words) w) ≡ false
    by true h = has_both u w words ∙ ap (λ b. b || has_word u words) h ∙ e
    by false h = h

one_by : (t : Text) (words : List Text) (u : Text) (w : List Text) (ws : List (List Text)) → (has_word u words ≡ true → lacks u (w ∷ ws))
    → (has_word u w ≡ true → lacks u ws) → (b : Bool) → (b ≡ true → lacks t ws)
    → has_word u (cond b (w ++ words) w) ≡ true → lacks u (more t words ws)
one_by t words u w ws new one true only h = ap (list_any (has_word u)) (more_none t words ws (only refl))
    ∙ parts (has_word u w) refl (sym (has_both u w words) ∙ h)
  where
    parts : (a : Bool) → has_word u w ≡ a → (a || has_word u words) ≡ true → lacks u ws
    parts true e h = one e
    parts false e h = (or_parts (has_word u w) (list_any (has_word u) ws) (new h)).1
one_by t words u w ws new one false only h = lacks_more t words u ws (not_new (has_word u words) refl) (one h)
  where
    not_new : (b : Bool) → has_word u words ≡ b → has_word u words ≡ false
    not_new true e = absurd (cc (sym (or_parts (has_word u w) (list_any (has_word u) ws) (new e)).0 ∙ h))
    not_new false e = e

one_more : (t : Text) (words : List Text) (u : Text) (ws : List (List Text)) → AreNew words ws → OneOf t ws → OneOf u ws
    → OneOf u (more t words ws)
one_more t words u [] new one own = tt
one_more t words u (w ∷ ws) new one own = (
  one_by t words u w ws (new u) own.0 (has_word t w) one.0,
  one_more t words u ws (λ v h. (or_parts (has_word v w) (list_any (has_word v) ws) (new v h)).1) one.1 own.1,
)

-- Lines: a verb at a place is changed

abbrev edited : ℕ → (VerbOf → VerbOf) → List VerbOf → List VerbOf
edited n g list = slice_set list n (g (slice_index_or list n no_lines))

edited_twice : (n : ℕ) (g h : VerbOf → VerbOf) (list : List VerbOf) → edited n h (edited n g list) ≡ edited n (λ v. h (g v)) list
edited_twice n g h [] = refl
edited_twice zero g h (x ∷ list) = refl
edited_twice (suc n) g h (x ∷ list) = ap (λ l. x ∷ l) (edited_twice n g h list)

edited_not : (n : ℕ) (list : List VerbOf) → edited n (λ v. v) list ≡ list
edited_not n [] = refl
edited_not zero (x ∷ list) = refl
edited_not (suc n) (x ∷ list) = ap (λ l. x ∷ l) (edited_not n list)

abbrev all_lines : LinePlace → List LineOf → VerbOf → VerbOf
all_lines how new v = fold (λ v l. with_line how l v) v new

module _ (f : Line → LineOf) where
  lines_told : (n : ℕ) (how : LinePlace) (lines : List Line) (s : Tables)
      → (with_lines f n how lines s).verbs.list ≡ edited n (all_lines how (map f lines)) s.verbs.list
  lines_told n how [] s = sym (edited_not n s.verbs.list)
  lines_told n how (l ∷ lines) s = lines_told n how lines (with_line_told f n how l s)
      ∙ ap (λ v. edited n (all_lines how (map f lines)) (with_line_of n how (f l) v).list)
      (words_keep_verbs WordUse.Preposition (flat_map prepositions l.tokens) s)
      ∙ edited_twice n (with_line how (f l)) (all_lines how (map f lines)) s.verbs.list

  lines_keep_words : (n : ℕ) (how : LinePlace) (lines : List Line) (s : Tables) (t : Text)
      → verb_of t (with_lines f n how lines s).words.list ≡ verb_of t s.words.list
  lines_keep_words n how [] s t = refl
  lines_keep_words n how (l ∷ lines) s t = lines_keep_words n how lines (with_line_told f n how l s) t
      ∙ others_used WordUse.Preposition (flat_map prepositions l.tokens) t s refl

  -- Tables and verbs of the description agree, and no word is one of two verbs.

  abbrev shown : List VerbIs → List (List LineOf)
  shown vs = map (λ v. map f v.lines) vs

  record Agrees (vs : List VerbIs) (s : Tables) : Type 0 where
    lines : map lines_of s.verbs.list ≡ shown vs
    words : (t : Text) → verb_of t s.words.list ≡ place t (all_words vs)
    single : (t : Text) → OneOf t (all_words vs)

  -- The verb of a word is changed, in the tables and in the description.

  abbrev Follows : (VerbOf → VerbOf) → (VerbIs → VerbIs) → Type 0
  Follows g h = (x : VerbOf) (v : VerbIs) → lines_of x ≡ map f v.lines → lines_of (g x) ≡ map f (h v).lines

  unchanged : (t : Text) (h : VerbIs → VerbIs) (vs : List VerbIs) → lacks t (all_words vs) → changed t h vs ≡ vs
  unchanged t h [] e = refl
  unchanged t h (v ∷ vs) e = by (has_word t v.words) e (unchanged t h vs)
    where
      by : (b : Bool) → (b || list_any (has_word t) (all_words vs)) ≡ false → (lacks t (all_words vs) → changed t h vs ≡ vs)
          → cond b (h v) v ∷ changed t h vs ≡ v ∷ vs
      by true e rest = absurd (cc e)
      by false e rest = ap (λ l. v ∷ l) (rest e)

  changed_later : (t : Text) (n : ℕ) (g : VerbOf → VerbOf) (h : VerbIs → VerbIs) (vs : List VerbIs) (list : List VerbOf) (x : VerbOf)
      (v : VerbIs) → lines_of x ≡ map f v.lines
      → ((m : ℕ) → place t (all_words vs) ≡ Some m → map lines_of (edited m g list) ≡ shown (changed t h vs))
      → (o : Option ℕ) → place t (all_words vs) ≡ o → option_map suc o ≡ Some n
      → map lines_of (edited n g (x ∷ list)) ≡ shown (v ∷ changed t h vs)
  changed_later t n g h vs list x v head rest None p q = absurd (cc q)
  changed_later t n g h vs list x v head rest (Some m) p q =
      let next : suc m ≡ n = cc q in
      subst (λ n. map lines_of (edited n g (x ∷ list)) ≡ shown (v ∷ changed t h vs)) next
      (ap (λ l. lines_of x ∷ l) (rest m p) ∙ ap (λ l. l ∷ shown (changed t h vs)) head)

  changed_by : (t : Text) (n : ℕ) (g : VerbOf → VerbOf) (h : VerbIs → VerbIs) (vs : List VerbIs) (list : List VerbOf) (x : VerbOf)
      (v : VerbIs) → Follows g h → lines_of x ≡ map f v.lines → map lines_of list ≡ shown vs
      → ((m : ℕ) → place t (all_words vs) ≡ Some m → map lines_of (edited m g list) ≡ shown (changed t h vs))
      → (b : Bool) → (b ≡ true → lacks t (all_words vs)) → cond b (Some 0) (option_map suc (place t (all_words vs))) ≡ Some n
      → map lines_of (edited n g (x ∷ list)) ≡ shown (cond b (h v) v ∷ changed t h vs)
  changed_by t n g h vs list x v k head tail rest true only at =
      let first : 0 ≡ n = cc at in
      subst (λ n. map lines_of (edited n g (x ∷ list)) ≡ shown (h v ∷ changed t h vs)) first
      (ap (λ l. lines_of (g x) ∷ l) (tail ∙ ap shown (sym (unchanged t h vs (only refl))))
      ∙ ap (λ l. l ∷ shown (changed t h vs)) (k x v head))
  changed_by t n g h vs list x v k head tail rest false only at =
      changed_later t n g h vs list x v head rest (place t (all_words vs)) refl at

  changed_at : (t : Text) (n : ℕ) (g : VerbOf → VerbOf) (h : VerbIs → VerbIs) → Follows g h → (vs : List VerbIs) (list : List VerbOf)
      → map lines_of list ≡ shown vs → OneOf t (all_words vs) → place t (all_words vs) ≡ Some n
      → map lines_of (edited n g list) ≡ shown (changed t h vs)
  changed_at t n g h k [] list e one at = absurd (cc at)
  changed_at t n g h k (v ∷ vs) [] e one at = absurd (cc e)
  changed_at t n g h k (v ∷ vs) (x ∷ list) e one at =
      let head : lines_of x ≡ map f v.lines = cc e in
      let tail : map lines_of list ≡ shown vs = cc e in
      changed_by t n g h vs list x v k head tail (λ m p. changed_at t m g h k vs list tail one.1 p) (has_word t v.words) one.0 at

  -- Lemmas about `Extend`

  words_stay : (t : Text) (h : VerbIs → VerbIs) → ((v : VerbIs) → (h v).words ≡ v.words) → (vs : List VerbIs)
      → all_words (changed t h vs) ≡ all_words vs
  words_stay t h k [] = refl
  words_stay t h k (v ∷ vs) = ap (λ l. (cond (has_word t v.words) (h v) v).words ∷ l) (words_stay t h k vs)
      ∙ ap (λ w. w ∷ all_words vs) (by (has_word t v.words))
    where
      by : (b : Bool) → (cond b (h v) v).words ≡ v.words
      by true = k v
      by false = refl

  extend_follows : (p : Where) (lines : List Line)
      → Follows (λ v. all_lines (place_of p) (map f lines) (with_place (place_of p) v)) (λ v. record v { lines = extended p lines v.lines })
  extend_follows First lines x v e =
      extend_agrees LinePlace.First (map f lines) x ∙ ap (λ l. map f lines ++ l) e ∙ sym (map-append f lines v.lines)
  extend_follows Last lines x v e =
      extend_agrees LinePlace.Last (map f lines) x ∙ ap (λ l. l ++ map f lines) e ∙ sym (map-append f v.lines lines)
  extend_follows Replace lines x v e = extend_agrees LinePlace.Replace (map f lines) x

  extend_by : (vs : List VerbIs) (s : Tables) (t : Text) (p : Where) (lines : List Line) → Agrees vs s → (o : Option ℕ)
      → place t (all_words vs) ≡ o
      → Agrees (changed t (λ v. record v { lines = extended p lines v.lines }) vs) (with_more_lines f o (place_of p) lines s)
  extend_by vs s t p lines a None e = subst (λ l. Agrees l s) (sym (unchanged t (λ v. record v { lines = extended p lines v.lines }) vs
      (place_lacks t (all_words vs) e))) a
  extend_by vs s t p lines a (Some n) e =
      let h : VerbIs → VerbIs = λ v. record v { lines = extended p lines v.lines } in
      let how = place_of p in
      let r = record s { verbs = with_extended n how s.verbs } in
      let stays = words_stay t h (λ v. refl) vs in
      record {
        lines = ap (map lines_of) (lines_told n how lines r ∙ edited_twice n (with_place how) (all_lines how (map f lines)) s.verbs.list)
            ∙ changed_at t n (λ v. all_lines how (map f lines) (with_place how v)) h (extend_follows p lines) vs s.verbs.list a.lines
            (a.single t) e;
        words = λ u. lines_keep_words n how lines r u ∙ a.words u ∙ ap (place u) (sym stays);
        single = λ u. subst (OneOf u) (sym stays) (a.single u);
      }

  -- Lemmas about further words

  abbrev with_words_more : List Text → VerbIs → VerbIs
  with_words_more words v = record v { words = v.words ++ words }

  lines_stay : (t : Text) (words : List Text) (vs : List VerbIs) → shown (changed t (with_words_more words) vs) ≡ shown vs
  lines_stay t words [] = refl
  lines_stay t words (v ∷ vs) = ap (λ l. map f (cond (has_word t v.words) (with_words_more words v) v).lines ∷ l) (lines_stay t words vs)
      ∙ ap (λ w. map f w ∷ shown vs) (by (has_word t v.words))
    where
      by : (b : Bool) → (cond b (with_words_more words v) v).lines ≡ v.lines
      by true = refl
      by false = refl

  words_more : (t : Text) (words : List Text) (vs : List VerbIs)
      → all_words (changed t (with_words_more words) vs) ≡ more t words (all_words vs)
  words_more t words [] = refl
  words_more t words (v ∷ vs) = ap (λ l. (cond (has_word t v.words) (with_words_more words v) v).words ∷ l) (words_more t words vs)
      ∙ ap (λ w. w ∷ more t words (all_words vs)) (by (has_word t v.words))
    where
      by : (b : Bool) → (cond b (with_words_more words v) v).words ≡ cond b (v.words ++ words) v.words
      by true = refl
      by false = refl

  like_by : (vs : List VerbIs) (s : Tables) (is_meta : Bool) (words : List Text) (t : Text) → Agrees vs s → AreNew words (all_words vs)
      → (o : Option ℕ) → place t (all_words vs) ≡ o
      → Agrees (changed t (with_words_more words) vs) (with_more_words o is_meta words s)
  like_by vs s is_meta words t a new None e =
      subst (λ l. Agrees l s) (sym (unchanged t (with_words_more words) vs (place_lacks t (all_words vs) e))) a
  like_by vs s is_meta words t a new (Some n) e = record {
    lines = ap (λ v. map lines_of v.list) (words_keep_verbs (verb_use is_meta n) words s) ∙ a.lines ∙ sym (lines_stay t words vs);
    words = λ u. verbs_used (verb_use is_meta n) n words u s (use_is is_meta n) ∙ ap (cond (has_word u words) (Some n)) (a.words u)
        ∙ sym (place_more t words u n (all_words vs) new (a.single t) e)
        ∙ ap (place u) (sym (words_more t words vs));
    single = λ u. subst (OneOf u) (sym (words_more t words vs)) (one_more t words u (all_words vs) new (a.single t) (a.single u));
  }

  -- Lemmas about `Verb`

  edited_end : (g : VerbOf → VerbOf) (list : List VerbOf) (x : VerbOf) → edited (length list) g (list ++ x ∷ []) ≡ list ++ g x ∷ []
  edited_end g [] x = refl
  edited_end g (y ∷ list) x = ap (λ l. y ∷ l) (edited_end g list x)

  verb_step : (vs : List VerbIs) (s : Tables) (is_meta : Bool) (words : List Text) (lines : List Line) → Agrees vs s
      → AreNew words (all_words vs)
      → Agrees (vs ++ record { words = words; lines = lines } ∷ []) (with_one f (Verb is_meta words lines) s)
  verb_step vs s is_meta words lines a new =
      let n = length s.verbs.list in
      let v : VerbIs = record { words = words; lines = lines } in
      let r = record s { verbs = with_verb s.verbs } in
      let u = with_words (verb_use is_meta n) words r in
      let g = all_lines LinePlace.Last (map f lines) in
      let ws : all_words (vs ++ v ∷ []) ≡ all_words vs ++ words ∷ [] = map-append (λ v. v.words) vs (v ∷ []) in
      let count : n ≡ length (all_words vs) =
      sym (length-map s.verbs.list lines_of) ∙ ap length a.lines ∙ length-map vs (λ v. map f v.lines) ∙ sym (length-map vs (λ v. v.words)) in
      record {
        lines = ap (map lines_of) (lines_told n LinePlace.Last lines u
            ∙ ap (λ v. edited n g v.list) (words_keep_verbs (verb_use is_meta n) words r)
            ∙ edited_end g s.verbs.list no_lines)
            ∙ map-append lines_of s.verbs.list (g no_lines ∷ [])
            ∙ ap (λ l. map lines_of s.verbs.list ++ l ∷ []) (extend_agrees LinePlace.Last (map f lines) no_lines)
            ∙ ap (λ l. l ++ map f lines ∷ []) a.lines
            ∙ sym (map-append (λ v. map f v.lines) vs (v ∷ []));
        words = λ t. lines_keep_words n LinePlace.Last lines u t ∙ verbs_used (verb_use is_meta n) n words t r (use_is is_meta n)
            ∙ ap (cond (has_word t words) (Some n)) (a.words t)
            ∙ ap (λ k. cond (has_word t words) (Some k) (place t (all_words vs))) count
            ∙ sym (place_end t words (all_words vs) (new t))
            ∙ ap (place t) (sym ws);
        single = λ t. subst (OneOf t) (sym ws) (one_end t words (all_words vs) (new t) (a.single t));
      }

  -- Lemmas about all that a source says

  one_step : (said : Said) (vs : List VerbIs) (s : Tables) → Agrees vs s → IsRight said vs → Agrees (with_said vs said) (with_one f said s)
  one_step (Verb is_meta words lines) vs s a right = verb_step vs s is_meta words lines a right
  one_step (Like is_meta words t) vs s a right =
      subst (λ o. Agrees (changed t (with_words_more words) vs) (with_more_words o is_meta words s)) (sym (a.words t))
      (like_by vs s is_meta words t a right (place t (all_words vs)) refl)
  one_step (Extend t p lines) vs s a right =
      subst (λ o. Agrees (changed t (λ v. record v { lines = extended p lines v.lines }) vs) (with_more_lines f o (place_of p) lines s))
      (sym (a.words t)) (extend_by vs s t p lines a (place t (all_words vs)) refl)
  one_step (Mentions action) vs s a right = a
  one_step (Uses u) vs s a right =
      record { lines = a.lines; words = λ t. other_used WordUse.Other false u t s.words refl ∙ a.words t; single = a.single }
  one_step (Plural u) vs s a right =
      record { lines = a.lines; words = λ t. other_used WordUse.Other true u t s.words refl ∙ a.words t; single = a.single }

  all_steps : (all : List Said) (vs : List VerbIs) (s : Tables) → Agrees vs s → AreRight vs all
      → Agrees (fold with_said vs all) (with_all f all s)
  all_steps [] vs s a right = a
  all_steps (said ∷ all) vs s a right = all_steps all (with_said vs said) (with_one f said s) (one_step said vs s a right.0) right.1

  nothing_said : Agrees [] no_tables
  nothing_said = record { lines = refl; words = λ t. refl; single = λ t. tt }

pub lines_agree : LinesAgree
lines_agree f all right = (all_steps f all [] no_tables (nothing_said f) right).lines

pub words_agree : WordsAgree
words_agree f all right t =
    let a = all_steps f all [] no_tables (nothing_said f) right in
    ap verb_byte_of (a.words t) ∙ byte_of (place t (all_words (verbs all))) ∙ sym (byte_is 0 t (verbs all))
