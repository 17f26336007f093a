-- The names that are kept, as lists of bytes.
use Rattle.std.proofs.Common.{◌≡◌, ◌≤◌, ℕ, suc, ◌+◌, not, Bool, true, false, cond, nat_lt, List, [], ◌∷◌, length, map, Some, None}
use Rattle.std.proofs.Common.{unwrap_or}
use Rattle.std.proofs.Common.{position, String, refl, ap, ◌∙◌, arith}
use Rattle.std.proofs.lemmas.{List.Sums.prefix_len-le-length, List.length-map}
use Rattle.inf_characters.specs.declared.characters.CharSet.{CharSet}
use Rattle.inf_lexer.specs.Names.{Nest}
use Rattle.std.specs.{List.position_or_len, List.prefix_len, String.string_bytes, declared.alloc.Global.Global}

prefix_map : (test : List ℕ → Bool) (keys : List (String Global)) →
    prefix_len (λ k. test (string_bytes k)) keys ≡ prefix_len test (map string_bytes keys)
prefix_map test [] = refl
prefix_map test (k ∷ keys) = ap (λ n. cond (test (string_bytes k)) (1 + n) 0) (prefix_map test keys)

within : (n m : ℕ) → n ≤ m → unwrap_or (cond (nat_lt n m) (Some n) None) m ≡ n
within n m le = by (nat_lt n m) refl where
  by : (b : Bool) → nat_lt n m ≡ b → unwrap_or (cond b (Some n) None) m ≡ n
  by true e = refl
  by false e = grind (arith, e, le)

-- the place of a name among the keys
pub place_in : (test : List ℕ → Bool) (keys : List (String Global)) →
    unwrap_or (position (λ k. test (string_bytes k)) keys) (length keys) ≡ position_or_len test (map string_bytes keys)
place_in test keys =
    let same : position_or_len (λ (k : String Global). test (string_bytes k)) keys ≡ position_or_len test (map string_bytes keys) =
    prefix_map (λ n. not (test n)) keys in
    ap (λ n. unwrap_or (cond (nat_lt n (length keys)) (Some n) None) (length keys)) same
    ∙ within (position_or_len test (map string_bytes keys)) (length keys)
    (omega (arith, prefix_len-le-length (λ n. not (test n)) (map string_bytes keys), length-map keys string_bytes))

-- the names that are kept by equal keys
pub nest_same : {set : CharSet} {limit : ℕ} {files : List ℕ} {keys now : List (String Global)} {nest : Nest} → now ≡ keys
    → record { set = set; limit = limit; names = map string_bytes keys; open_files = files } ≡ nest
    → record { set = set; limit = limit; names = map string_bytes now; open_files = files } ≡ nest
nest_same {set = set} {limit = limit} {files = files} same is =
    ap (λ ks. record { set = set; limit = limit; names = map string_bytes ks; open_files = files }) same ∙ is
