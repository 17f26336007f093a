-- Names of files: ASCII, and the directory up to the last `/`.
use Rattle.std.proofs.{lemmas.List.take-append-drop, lemmas.Str.Pattern.NoCharPasses-char, lemmas.Str.Pattern.drop_at_char}
use Rattle.std.proofs.Common.{◌≡◌, ◌≢◌, ℕ, suc, ◌<◌, ◌==◌, nat_lt, List, [], ◌∷◌, ◌++◌, length, get_or, true, false, cond, drop}
use Rattle.std.proofs.Common.{arith, lit<, ap, refl, sym, ◌∙◌}
use Rattle.std.proofs.lemmas.Bool.{and_from, lt-ltb, or_right, or_from, ne_eqb}
use Rattle.std.specs.{List.list_all, Str.IsAscii, Str.NoCharPasses, Str.Pattern.RFindsChar, Str.Pattern.SplitsAroundMatch}
use Rattle.inf_lexer.specs.Names.{has_slash, directory_of}

pub all_ascii : (bs : List ℕ) → IsAscii bs → list_all (λ b. nat_lt b 128) bs ≡ true
all_ascii [] each = refl
all_ascii (b ∷ bs) each =
    and_from (nat_lt b 128) (list_all (λ x. nat_lt x 128) bs) (lt-ltb b 128 (each 0)) (all_ascii bs (λ i. each (suc i)))

-- a name with a `/` behind its front has one
slash_behind : (front back : List ℕ) → has_slash (front ++ 47 ∷ back) ≡ true
slash_behind [] back = refl
slash_behind (b ∷ front) back = or_right (b == 47) (has_slash (front ++ 47 ∷ back)) (slash_behind front back)

no_slash : (bs : List ℕ) → ((i : ℕ) → i < length bs → get_or bs i 0 ≢ 47) → has_slash bs ≡ false
no_slash [] other = refl
no_slash (b ∷ bs) other =
    or_from (b == 47) (has_slash bs) (ne_eqb b 47 (other 0 (omega arith))) (no_slash bs (λ i lt. other (suc i) (omega arith)))

-- without a `/` there is no directory
no_directory : (bs : List ℕ) → has_slash bs ≡ false → directory_of bs ≡ []
no_directory [] none = refl
no_directory (b ∷ bs) none = ap (λ e. cond e (b ∷ directory_of bs) []) none

directory-at : (front back : List ℕ) → has_slash back ≡ false → directory_of (front ++ 47 ∷ back) ≡ front ++ 47 ∷ []
directory-at [] back none = ap (λ d. 47 ∷ d) (no_directory back none)
directory-at (b ∷ front) back none =
    ap (λ e. cond e (b ∷ directory_of (front ++ 47 ∷ back)) []) (or_right (b == 47) _ (slash_behind front back))
    ∙ ap (λ d. b ∷ d) (directory-at front back none)

-- a split at the last `/` gives the directory
pub directory-split : (bs front back : List ℕ) → SplitsAroundMatch (RFindsChar 47) bs front back → directory_of bs ≡ front ++ 47 ∷ []
directory-split bs front back (i, j, found, is_front, is_back, ordered, front_len, back_len) =
    let parts : bs ≡ front ++ 47 ∷ back =
    sym (take-append-drop i bs) ∙ rw (drop_at_char 47 bs i j found.1 (lit< tt), is_front, is_back) refl in
    let none : has_slash back ≡ false = no_slash back (rw is_back (λ k lt. NoCharPasses-char 47 (drop j bs) k found.0 (lit< tt) lt)) in
    ap directory_of parts ∙ directory-at front back none

pub directory-undivided : (bs : List ℕ) → NoCharPasses (λ d. d == 47) bs → directory_of bs ≡ []
directory-undivided bs none = no_directory bs (no_slash bs (λ i lt. NoCharPasses-char 47 bs i none (lit< tt) lt))
