-- The lexers of the files that wait, and those of files that are entered and left.
use Rattle.std.proofs.Common.{◌≡◌, ℕ, ◌-◌, List, [], ◌∷◌, ◌++◌, length, drop, take, reverse, refl, sym, ap, subst, ◌∙◌, arith}
use Rattle.std.proofs.Common.{length-append}
use Rattle.std.proofs.Math.Seq.{take-append_seam}
use Rattle.inf_characters.specs.declared.characters.CharSet.{CharSet}
use Rattle.inf_devices.specs.Files.{Opening, Openings, Sources}
use Rattle.inf_lexer.specs.{Names.Nest, Names.left, Readers.Reader}
use Rattle.inf_sources.specs.{Inclusions.Waiting, Inclusions.closed, Inclusions.resumed, declared.open_file.OpenFile.OpenFile}
use Rattle.inf_sources.specs.Open.{AllWait, Waits, files_of, lexers_of, nesting, waiting_at}

pub waits_front : (set : CharSet) (limit : ℕ) (readers : List Reader) (r : Reader) → AllWait set limit (readers ++ r ∷ []) →
    AllWait set limit readers
waits_front set limit [] r h = tt
waits_front set limit (q ∷ readers) r h = (h.0, waits_front set limit readers r h.1)

pub waits_last : (set : CharSet) (limit : ℕ) (readers : List Reader) (r : Reader) → AllWait set limit (readers ++ r ∷ []) →
    Waits set limit r
waits_last set limit [] r h = h.0
waits_last set limit (q ∷ readers) r h = waits_last set limit readers r h.1

pub waits_more : (set : CharSet) (limit : ℕ) (readers : List Reader) (r : Reader) → AllWait set limit readers → Waits set limit r →
    AllWait set limit (readers ++ r ∷ [])
waits_more set limit [] r h w = (w, h)
waits_more set limit (q ∷ readers) r h w = (h.0, waits_more set limit readers r h.1 w)

pub lexers_more : (files : List OpenFile) (f : OpenFile) → lexers_of (files ++ f ∷ []) ≡ lexers_of files ++ f.lexer ∷ []
lexers_more [] f = refl
lexers_more (g ∷ files) f = ap (λ readers. g.lexer ∷ readers) (lexers_more files f)

pub files_more : (readers : List Reader) (r : Reader) → files_of (readers ++ r ∷ []) ≡ files_of readers ++ r.file ∷ []
files_more [] r = refl
files_more (q ∷ readers) r = ap (λ files. q.file ∷ files) (files_more readers r)

-- some numbers without the last
pub without_last : (xs : List ℕ) (x : ℕ) → take (length (xs ++ x ∷ []) - 1) (xs ++ x ∷ []) ≡ xs
without_last xs x =
    let last : length (xs ++ x ∷ []) - 1 ≡ length xs = omega (arith, length-append xs (x ∷ [])) in
    ap (λ n. take n (xs ++ x ∷ [])) last ∙ take-append_seam xs (x ∷ [])

-- where no file waits no rest of one is to come
pub none_wait : (s : Sources) (all : List Opening) (places : List ℕ) → waiting_at s all places [] ≡ []
none_wait s all [] = refl
none_wait s all (p ∷ places) = refl

-- The numbers and the settings of the open files behind one that was left.
abbrev pub Fits : Nest → Reader → List Reader → Type 0
Fits nest r readers = (nest.open_files ≡ files_of readers ++ r.file ∷ []) ×
    ((r.set ≡ nest.set) × ((r.limit ≡ nest.limit) × AllWait nest.set nest.limit readers))

pub left_fits : (nest after : Nest) (outer readers : List Reader) (file : ℕ) (r : Reader) → nest.open_files ≡ files_of outer ++ file ∷ []
    → AllWait nest.set nest.limit outer → outer ≡ readers ++ r ∷ [] → after ≡ left nest → Fits after r readers
left_fits nest after outer readers file r files waits e is =
    let all : AllWait nest.set nest.limit (readers ++ r ∷ []) = subst (AllWait nest.set nest.limit) e waits in
    let last = waits_last nest.set nest.limit readers r all in
    subst (λ (n : Nest). Fits n r readers) (sym is) (
      ap (λ fs. take (length fs - 1) fs) files ∙ without_last (files_of outer) file ∙ ap files_of e ∙ files_more readers r,
      (last.of_set, (last.of_limit, waits_front nest.set nest.limit readers r all)),
    )

-- leaving the last file changes nothing
pub left_none : (s : Sources) (start now : Openings) (nest : Nest) (lexer : Reader) (old new : List OpenFile) → length old ≡ 0 →
    old ≡ new ++ [] → nesting s start now (record { nest = nest; lexer = lexer; outer = new }) ≡ closed
    (nesting s start now (record { nest = nest; lexer = lexer; outer = old }))
left_none s start now nest lexer (f ∷ old) new none e = absurd (omega (arith, none))
left_none s start now nest lexer [] (f ∷ new) none e = cc
left_none s start now nest lexer [] [] none e =
    let n = nesting s start now (record { nest = nest; lexer = lexer; outer = [] }) in
    ap (λ (waiting : List Waiting). resumed waiting n) (sym (none_wait s now.all (drop 1 (reverse now.open_places))))
