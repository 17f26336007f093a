-- The open files where all files are read by another character set.
use Rattle.std.proofs.{lemmas.Grind.reverse_onto, lemmas.List.length-map, lemmas.List.map-append}
use Rattle.std.proofs.Common.{◌≡◌, ℕ, suc, List, [], ◌∷◌, ◌++◌, length, drop, map, reverse, refl, sym, ap, subst, ◌∙◌}
use Rattle.inf_characters.specs.declared.characters.CharSet.{CharSet}
use Rattle.inf_devices.specs.Files.{Opening, Openings, Sources}
use Rattle.inf_lexer.specs.Readers.{Reader}
use Rattle.inf_sources.specs.{Calls.given_each, Inclusions.Waiting, declared.open_file.OpenFile.OpenFile}
use Rattle.inf_sources.specs.Choosing.{file_with, nesting_with, open_with, reader_with, waiting_with}
use Rattle.inf_sources.specs.Open.{AllGiven, AllWait, AreNested, AreTracked, IsNested, Open, files_of, lexers, lexers_of, nesting}
use Rattle.inf_sources.specs.Open.{waiting_at}

-- mapping each item backwards is mapping all and turning them
reverse_each : {X : Type 0} → (f : X → X) (xs : List X) → reverse (map f xs) ≡ map f (reverse xs)
reverse_each f [] = refl
reverse_each f (x ∷ xs) = reverse_onto (map f xs) (f x) [] ∙ ap (λ ys. ys ++ f x ∷ []) (reverse_each f xs)
    ∙ sym (ap (map f) (reverse_onto xs x []) ∙ map-append f (reverse xs) (x ∷ []))

-- Lemmas about the lexers that read by another set

readers_with : (set : CharSet) (files : List OpenFile) → lexers_of (map (file_with set) files) ≡ map (reader_with set) (lexers_of files)
readers_with set [] = refl
readers_with set (f ∷ files) = ap (λ rs. reader_with set f.lexer ∷ rs) (readers_with set files)

lexers_with : (set : CharSet) (o : Open) → lexers (open_with set o) ≡ map (reader_with set) (lexers o)
lexers_with set o = ap (λ (fs : List OpenFile). reader_with set o.lexer ∷ lexers_of fs) (reverse_each (file_with set) o.outer)
    ∙ ap (λ rs. reader_with set o.lexer ∷ rs) (readers_with set (reverse o.outer))

files_with : (set : CharSet) (readers : List Reader) → files_of (map (reader_with set) readers) ≡ files_of readers
files_with set [] = refl
files_with set (r ∷ readers) = ap (λ fs. r.file ∷ fs) (files_with set readers)

-- lexers that read by another set are those of the same files
pub numbers_with : (set : CharSet) (files : List OpenFile) → files_of (lexers_of (map (file_with set) files)) ≡ files_of (lexers_of files)
numbers_with set files = ap files_of (readers_with set files) ∙ files_with set (lexers_of files)

wait_with : (was set : CharSet) (limit : ℕ) (readers : List Reader) → AllWait was limit readers
    → AllWait set limit (map (reader_with set) readers)
wait_with was set limit [] all = all
wait_with was set limit (r ∷ readers) all =
    (record { of_set = refl; of_limit = all.0.of_limit; goes = all.0.goes }, wait_with was set limit readers all.1)

-- files that wait do so by another set
pub all_wait_with : (was set : CharSet) (limit : ℕ) (files : List OpenFile) → AllWait was limit (lexers_of files)
    → AllWait set limit (lexers_of (map (file_with set) files))
all_wait_with was set limit files all =
    subst (AllWait set limit) (sym (readers_with set files)) (wait_with was set limit (lexers_of files) all)

given_with : (set : CharSet) (readers : List Reader)
    → map (λ (r : Reader). r.window.given) (map (reader_with set) readers) ≡ map (λ (r : Reader). r.window.given) readers
given_with set [] = refl
given_with set (r ∷ readers) = ap (λ (xs : List ℕ). r.window.given ∷ xs) (given_with set readers)

-- Lexers that read by another set were given as many bytes.
pub given_each_with : (set : CharSet) (o : Open) → given_each (open_with set o) ≡ given_each o
given_each_with set o =
    ap (λ (readers : List Reader). map (λ (r : Reader). r.window.given) readers) (lexers_with set o) ∙ given_with set (lexers o)

-- Lemmas about the rest of each file

waiting_each : (set : CharSet) (s : Sources) (all : List Opening) (places : List ℕ) (files : List OpenFile)
    → waiting_at s all places (map (file_with set) files) ≡ map (waiting_with set) (waiting_at s all places files)
waiting_each set s all [] files = refl
waiting_each set s all (p ∷ places) [] = refl
waiting_each set s all (p ∷ places) (f ∷ files) =
    ap (λ (ws : List Waiting). waiting_at s all (p ∷ []) (file_with set f ∷ []) ++ ws) (waiting_each set s all places files)

pub nesting_is_with : (set : CharSet) (s : Sources) (start now : Openings) (o : Open)
    → nesting s start now (open_with set o) ≡ nesting_with set (nesting s start now o)
nesting_is_with set s start now o =
    let was = nesting s start now o in
    ap (λ (ws : List Waiting). record (nesting_with set was) { waiting = ws })
    (ap (λ (fs : List OpenFile). waiting_at s now.all (drop 1 (reverse now.open_places)) fs) (reverse_each (file_with set) o.outer)
    ∙ waiting_each set s now.all (drop 1 (reverse now.open_places)) (reverse o.outer))

nested_each : (set : CharSet) (bound : ℕ) (places : List ℕ) (readers : List Reader) → AreNested bound places readers
    → AreNested bound places (map (reader_with set) readers)
nested_each set bound [] [] h = h
nested_each set bound (p ∷ places) [] h = h
nested_each set bound [] (r ∷ readers) h = absurd h
nested_each set bound (p ∷ places) (r ∷ readers) h = (h.0, nested_each set p places readers h.1)

pub is_nested_with : (set : CharSet) (start now : Openings) (o : Open) → IsNested start now o → IsNested start now (open_with set o)
is_nested_with set start now o n = record {
  more = n.more;
  nested = subst (AreNested (length now.all) (reverse now.open_places)) (sym (lexers_with set o))
      (nested_each set (length now.all) (reverse now.open_places) (lexers o) n.nested);
  others = ap (λ k. drop (suc k) (reverse now.open_places)) (length-map o.outer (file_with set)) ∙ n.others;
}

tracked_each : (set : CharSet) (s : Sources) (n : ℕ) (names : List (List ℕ)) (all : List Opening) (places : List ℕ) (readers : List Reader)
    → AreTracked s n names all places readers → AreTracked s n names all places (map (reader_with set) readers)
tracked_each set s n names all places [] h = h
tracked_each set s n names all [] (r ∷ readers) h = absurd h
tracked_each set s n names all (p ∷ places) (r ∷ readers) h =
    (record { behind = h.0.behind; named = h.0.named; counted = h.0.counted }, tracked_each set s n names all places readers h.1)

pub all_given_with : (set : CharSet) (s : Sources) (n : ℕ) (now : Openings) (o : Open) → AllGiven s n now o
    → AllGiven s n now (open_with set o)
all_given_with set s n now o all = record {
  each = all.each;
  tracked = subst (AreTracked s n o.nest.names now.all (reverse now.open_places)) (sym (lexers_with set o))
      (tracked_each set s n o.nest.names now.all (reverse now.open_places) (lexers o) all.tracked);
}
