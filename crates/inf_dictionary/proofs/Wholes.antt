-- Words whose texts have six bytes: one more, and where they stand in what is written.
use Rattle.std.proofs.Common.{◌≡◌, ◌∷◌, ◌++◌, ◌+◌, ◌*◌, ◌<◌, ℕ, zero, suc, List, [], ap, ◌∙◌, arith, length, take, drop, slice_index_or}
use Rattle.std.proofs.Common.{Ordering, Less, Equal, Greater, length-append, append_assoc, ◌/◌, ◌%◌}
use Rattle.std.proofs.lemmas.List.{take_at}
use Rattle.std.specs.{BTreeMap.insert_entry, Cmp.Lexicographic.slice_cmp, Ordering.match_ordering, Ordering.nat_cmp}
use Rattle.inf_dictionary.specs.{Texts.AreWhole, Texts.Text, Texts.texts_of, declared.uses.Word.Word}
use Rattle.inf_dictionary.specs.Words.{dictionary_bytes, entries_bytes, entry_bytes, verb_byte}

-- a word more
pub whole_with : (text : Text) (word : Word) (words : List (Text × Word)) → length text ≡ 6 → AreWhole (texts_of words) →
    AreWhole (texts_of (insert_entry (slice_cmp nat_cmp) words text word))
whole_with text word [] six whole = (six, tt)
whole_with text word (e ∷ words) six whole = go (slice_cmp nat_cmp text e.0) (whole_with text word words six whole.1) where
  go : (o : Ordering) → AreWhole (texts_of (insert_entry (slice_cmp nat_cmp) words text word))
      → AreWhole (texts_of (match_ordering o ((text, word) ∷ e ∷ words) ((e.0, word) ∷ words)
      (e ∷ insert_entry (slice_cmp nat_cmp) words text word)))
  go Less rest = (six, whole)
  go Equal rest = whole
  go Greater rest = (whole.0, rest)

behind : (a b : List ℕ) (n : ℕ) → drop (length a + n) (a ++ b) ≡ drop n b
behind [] b n = let none : length no_bytes + n ≡ n = omega arith in ap (λ i. drop i b) none where
  no_bytes : List ℕ
  no_bytes = []
behind (x ∷ a) b n = let one : length (x ∷ a) + n ≡ suc (length a + n) = omega arith in ap (λ i. drop i (x ∷ a ++ b)) one ∙ behind a b n

-- the entry at a place begins with the text at this place
pub text_at : (words : List (Text × Word)) (place : ℕ) → AreWhole (texts_of words) → place < length words
    → take 6 (drop (9 * place) (entries_bytes words)) ≡ slice_index_or (texts_of words) place []
text_at [] place whole within = absurd (omega (arith, within))
text_at (e ∷ words) zero whole within =
    let none : 9 * 0 ≡ 0 = omega arith in
    ap (λ i. take 6 (drop i (entries_bytes (e ∷ words)))) none
    ∙ ap (take 6) (append_assoc e.0 (e.1.flags ∷ verb_byte e.1 ∷ 0 ∷ []) (entries_bytes words))
    ∙ take_at e.0 ((e.1.flags ∷ verb_byte e.1 ∷ 0 ∷ []) ++ entries_bytes words) 6 whole.0
text_at (e ∷ words) (suc place) whole within =
    let there : 9 * suc place ≡ length (entry_bytes e) + 9 * place =
    omega (arith, whole.0, length-append e.0 (e.1.flags ∷ verb_byte e.1 ∷ 0 ∷ [])) in
    ap (λ i. take 6 (drop i (entries_bytes (e ∷ words)))) there ∙ ap (take 6) (behind (entry_bytes e) (entries_bytes words) (9 * place))
    ∙ text_at words place whole.1 (omega (arith, within))

-- the entries stand behind seven bytes
pub behind_head : (words : List (Text × Word)) (n : ℕ) →
    take 6 (drop (7 + n) (dictionary_bytes words)) ≡ take 6 (drop n (entries_bytes words))
behind_head words n =
    ap (take 6) (behind (3 ∷ 46 ∷ 44 ∷ 34 ∷ 9 ∷ length words / 256 % 256 ∷ length words % 256 ∷ []) (entries_bytes words) n)
