-- The places of the openings that are open, and the openings at them.
use Rattle.std.proofs.Common.{◌≡◌, ℕ, suc, zero, ◌-◌, ◌<◌, List, [], ◌∷◌, ◌++◌, length, drop, map, reverse, get_or, Some, None, unwrap_or}
use Rattle.std.proofs.Common.{refl, sym, ap, ◌∙◌, arith, length-append, slice_get}
use Rattle.std.proofs.{Math.Seq.get_or-append_seam, lemmas.Grind.reverse_onto, lemmas.List.reverse-append, lemmas.List.reverse-reverse}
use Rattle.std.proofs.lemmas.Option.{unwrap_or-slice_get}
use Rattle.inf_devices.specs.Files.{Opening, Openings, Sources, opened}
use Rattle.inf_lexer.specs.Readers.{Reader}
use Rattle.inf_sources.specs.{Cursors.Cursor, Inclusions.cursors, Inclusions.cursors_of, declared.open_file.OpenFile.OpenFile}
use Rattle.inf_sources.specs.Open.{AreNested, IsNested, Open, files_of, lexers, lexers_of, nesting, rest_of, waiting_as, waiting_at}

-- the last of some numbers is found at its place
last_place : (outer : List ℕ) (place : ℕ) → get_or (outer ++ place ∷ []) (length (outer ++ place ∷ []) - 1) 0 ≡ place
last_place outer place =
    let last : length (outer ++ place ∷ []) - 1 ≡ length outer = omega (arith, length-append outer (place ∷ [])) in
    ap (λ n. get_or (outer ++ place ∷ []) n 0) last ∙ get_or-append_seam outer place [] 0

pub reverse_last : {X : Type 0} → (xs : List X) (x : X) → reverse (xs ++ x ∷ []) ≡ x ∷ reverse xs
reverse_last xs x = reverse-append xs (x ∷ [])

-- the last place is the first of them backwards
pub last_of : (places : List ℕ) (p : ℕ) (rest : List ℕ) → reverse places ≡ p ∷ rest → get_or places (length places - 1) 0 ≡ p
last_of places p rest e =
    let whole : places ≡ reverse rest ++ p ∷ [] = sym (reverse-reverse places) ∙ ap reverse e ∙ reverse_onto rest p [] in
    ap (λ (ps : List ℕ). get_or ps (length ps - 1) 0) whole ∙ last_place (reverse rest) p

-- The innermost of some places, and those around it.
pub record Innermost (bound : ℕ) (places : List ℕ) (readers : List Reader) : Type 0 where
  pub place : ℕ
  pub rest : List ℕ
  pub is : places ≡ place ∷ rest
  pub less : place < bound
  pub inner : AreNested place rest readers

pub innermost_of : (bound : ℕ) (places : List ℕ) (r : Reader) (readers : List Reader) → AreNested bound places (r ∷ readers) →
    Innermost bound places readers
innermost_of bound [] r readers h = absurd h
innermost_of bound (p ∷ places) r readers h = record { place = p; rest = places; is = refl; less = h.0; inner = h.1 }

-- the innermost lexer does not matter to the nesting
pub nested_as : (bound : ℕ) (places : List ℕ) (r q : Reader) (readers : List Reader) → AreNested bound places (r ∷ readers) →
    AreNested bound places (q ∷ readers)
nested_as bound [] r q readers h = absurd h
nested_as bound (p ∷ places) r q readers h = h

pub nested_more : (bound more : ℕ) (places : List ℕ) (readers : List Reader) → bound < suc more → AreNested bound places readers →
    AreNested more places readers
nested_more bound more [] [] le h = h
nested_more bound more (p ∷ places) [] le h = h
nested_more bound more [] (r ∷ readers) le h = absurd h
nested_more bound more (p ∷ places) (r ∷ readers) le h = (omega (arith, le, h.0), h.1)

-- Lemmas about openings at places

pub or_same : (old new : List Opening) (i : ℕ) → slice_get new i ≡ slice_get old i → get_or new i (opened []) ≡ get_or old i (opened [])
or_same old new i e =
    sym (unwrap_or-slice_get new i (opened [])) ∙ ap (λ o. unwrap_or o (opened [])) e ∙ unwrap_or-slice_get old i (opened [])

-- files that wait have the same rests where their openings did not change
pub waiting_same : (s : Sources) (old new : List Opening) (bound : ℕ) (places : List ℕ) (files : List OpenFile) →
    AreNested bound places (lexers_of files)
    → ((i : ℕ) → i < bound → slice_get new i ≡ slice_get old i) → waiting_at s new places files ≡ waiting_at s old places files
waiting_same s old new bound [] [] h same = refl
waiting_same s old new bound (p ∷ places) [] h same = refl
waiting_same s old new bound [] (f ∷ files) h same = absurd h
waiting_same s old new bound (p ∷ places) (f ∷ files) h same =
    ap (λ o. waiting_as f (rest_of s o f.lexer.window) ∷ waiting_at s new places files) (or_same old new p (same p h.0))
    ∙ ap (λ waiting. waiting_as f (rest_of s (get_or old p (opened [])) f.lexer.window) ∷ waiting)
    (waiting_same s old new p places files h.1 (λ i less. same i (omega (arith, less, h.0))))

pub waiting_length : (s : Sources) (all : List Opening) (bound : ℕ) (places : List ℕ) (files : List OpenFile) →
    AreNested bound places (lexers_of files) → length (waiting_at s all places files) ≡ length files
waiting_length s all bound [] [] h = refl
waiting_length s all bound (p ∷ places) [] h = refl
waiting_length s all bound [] (f ∷ files) h = absurd h
waiting_length s all bound (p ∷ places) (f ∷ files) h = ap suc (waiting_length s all p places files h.1)

-- the numbers of the files that wait are those of their lexers
waiting_files : (s : Sources) (all : List Opening) (bound : ℕ) (places : List ℕ) (files : List OpenFile) →
    AreNested bound places (lexers_of files)
    → map (λ (c : Cursor). c.file) (cursors_of (waiting_at s all places files)) ≡ files_of (lexers_of files)
waiting_files s all bound [] [] h = refl
waiting_files s all bound (p ∷ places) [] h = refl
waiting_files s all bound [] (f ∷ files) h = absurd h
waiting_files s all bound (p ∷ places) (f ∷ files) h =
    ap (λ (numbers : List ℕ). f.lexer.file ∷ numbers) (waiting_files s all p places files h.1)

pub files_are : (s : Sources) (start now : Openings) (files : Open) → IsNested start now files
    → map (λ (c : Cursor). c.file) (cursors (nesting s start now files)) ≡ files_of (lexers files)
files_are s start now files n =
    let at = innermost_of (length now.all) (reverse now.open_places) files.lexer (lexers_of (reverse files.outer)) n.nested in
    ap (λ (ps : List ℕ). files.lexer.file ∷ map (λ (c : Cursor). c.file)
    (cursors_of (waiting_at s now.all (drop 1 ps) (reverse files.outer)))) at.is
    ∙ ap (λ (fs : List ℕ). files.lexer.file ∷ fs) (waiting_files s now.all at.place at.rest (reverse files.outer) at.inner)

-- Lemmas about names of openings

some_same : (x y : Opening) → Some x ≡ Some y → x ≡ y
some_same x y e = cc

abbrev pub names_of : List Opening → List (List ℕ)
names_of all = map (λ (o : Opening). o.name) all

all_same : (old new : List Opening) → ((i : ℕ) → slice_get new i ≡ slice_get old i) → names_of new ≡ names_of old
all_same [] [] same = refl
all_same [] (n ∷ new) same = let never : Some n ≡ None = same 0 in cc
all_same (o ∷ old) [] same = let never : None ≡ Some o = same 0 in cc
all_same (o ∷ old) (n ∷ new) same = ap (λ (p : Opening). p.name ∷ names_of new) (some_same n o (same 0))
    ∙ ap (λ names. o.name ∷ names) (all_same old new (λ i. same (suc i)))

-- where one opening changes, and not its name, all names stay
pub names_same : (old new : List Opening) (at : ℕ) → length new ≡ length old → ((i : ℕ) → (i ≡ at → ⊥) → slice_get new i ≡ slice_get old i)
    → (get_or new at (opened [])).name ≡ (get_or old at (opened [])).name → names_of new ≡ names_of old
names_same [] [] at count others here = refl
names_same [] (n ∷ new) at count others here = absurd (omega (arith, count))
names_same (o ∷ old) [] at count others here = absurd (omega (arith, count))
names_same (o ∷ old) (n ∷ new) zero count others here = ap (λ name. name ∷ names_of new) here
    ∙ ap (λ names. o.name ∷ names) (all_same old new (λ i. others (suc i) (λ e. absurd (omega (arith, e)))))
names_same (o ∷ old) (n ∷ new) (suc at) count others here =
    ap (λ (p : Opening). p.name ∷ names_of new) (some_same n o (others 0 (λ e. absurd (omega (arith, e)))))
    ∙ ap (λ names. o.name ∷ names) (names_same old new at (omega (arith, count)) (λ i other. others (suc i) (λ e. other (omega (arith, e))))
    here)
