-- The names under which a file is looked for.
use Rattle.std.proofs.Common.{◌≡◌, ◌≤◌, ◌==◌, inl, inr, ℕ, Bool, true, false, cond, List, [], ◌∷◌, length, map, Some, None, Bor, refl, sym}
use Rattle.std.proofs.Common.{ap}
use Rattle.std.proofs.Common.{◌∙◌, arith}
use Rattle.std.proofs.lemmas.Bool.{cond-false, cond-true, ne_eqb}
use Rattle.inf_devices.specs.Files.{Rose}
use Rattle.inf_lexer.specs.Names.{behind_sign, can_name, candidates, has_sign, is_fit, name_beside, name_in, names_in}

pub rose_earlier : (start before now : ℕ) → start ≤ before → Rose before now → Rose start now
rose_earlier start before now le (inl less) = inl (omega arith)
rose_earlier start before now le (inr last) = inr last

pub fit_is : (b : Bool) (x y : List ℕ) → Some x ≡ cond b (Some y) None → x ≡ y
fit_is true x y e = cc
fit_is false x y e = cc

-- a name that is fit
pub can_be : (b : Bool) (x y text : List ℕ) → Some x ≡ cond b (Some y) None → b ≡ is_fit y → y ≡ behind_sign text → can_name text ≡ true
can_be true x y text e is name = ap is_fit (sym name) ∙ sym is
can_be false x y text e is name = cc

listed : (directories : List (Bor (List ℕ))) (file : List ℕ) →
    map (λ d. name_in d.now file) directories ≡ map (λ directory. name_in directory file) (map (λ d. d.now) directories)
listed [] file = refl
listed (d ∷ directories) file = ap (λ names. name_in d.now file ∷ names) (listed directories file)

pub names_listed : (directories : List (Bor (List ℕ))) (including text file : List ℕ) → has_sign text ≡ false → file ≡ behind_sign text →
    (length directories == 0) ≡ false → map (λ d. name_in d.now file) directories ≡ candidates (map (λ d. d.now) directories) including text
names_listed [] including text file no_sign is some = cc
names_listed (d ∷ directories) including text file no_sign is some =
    let names : List (List ℕ) = map (λ d. d.now) (d ∷ directories) in
    let known : length names == 0 ≡ false = ne_eqb (length names) 0 (λ e. omega (arith, e)) in
    listed (d ∷ directories) file ∙ ap (λ f. map (λ directory. name_in directory f) names) is
    ∙ sym (cond-false (length names == 0) (name_in [] (behind_sign text) ∷ [])
    (map (λ directory. name_in directory (behind_sign text)) names) known)
    ∙ sym (cond-false (has_sign text) (name_beside including (behind_sign text) ∷ []) (names_in names (behind_sign text)) no_sign)

-- the name beside the innermost file
pub name_alone : (directories : List (List ℕ)) (including text file : List ℕ) → has_sign text ≡ true → file ≡ behind_sign text →
    candidates directories including text ≡ name_beside including file ∷ []
name_alone directories including text file sign is =
    cond-true (has_sign text) (name_beside including (behind_sign text) ∷ []) (names_in directories (behind_sign text)) sign
    ∙ ap (λ f. name_beside including f ∷ []) (sym is)

-- the name by itself, where there is no directory
pub names_none : (directories : List (Bor (List ℕ))) (including text file : List ℕ) → has_sign text ≡ false → file ≡ behind_sign text →
    (length directories == 0) ≡ true → candidates (map (λ d. d.now) directories) including text ≡ name_in [] file ∷ []
names_none [] including text file no_sign is none =
    cond-false (has_sign text) (name_beside including (behind_sign text) ∷ []) (name_in [] (behind_sign text) ∷ []) no_sign
    ∙ ap (λ f. name_in [] f ∷ []) (sym is)
names_none (d ∷ directories) including text file no_sign is none =
    let never = sym (ne_eqb (length (d ∷ directories)) 0 (λ e. omega (arith, e))) ∙ none in cc
