-- Names that are the same, in any case.
use Rattle.std.proofs.{lemmas.Bool.Decides.Decides-like, lemmas.Bool.Decides.same_from_decides, lemmas.Slice.Eq.bytes_eq-Decides}
use Rattle.std.proofs.Common.{◌≡◌, ℕ, true, List, sym}
use Rattle.std.specs.Str.{bytes_eq, str_eq_ignore_ascii_case}
use Rattle.inf_names.specs.Symbols.{folded}

pub same_key : (a b : List ℕ) → bytes_eq a b ≡ true → a ≡ b
same_key a b e = (bytes_eq-Decides a b).0 e

pub key_same : (a b : List ℕ) → a ≡ b → bytes_eq a b ≡ true
key_same a b e = (bytes_eq-Decides a b).1 e

pub bytes_eq-sym : (a b : List ℕ) → bytes_eq a b ≡ bytes_eq b a
bytes_eq-sym a b =
    same_from_decides (bytes_eq a b) (bytes_eq b a) (bytes_eq-Decides a b) (Decides-like (bytes_eq b a) sym sym (bytes_eq-Decides b a))

pub same_names : (a b : List ℕ) → str_eq_ignore_ascii_case a b ≡ true → folded a ≡ folded b
same_names a b e = same_key (folded a) (folded b) e
