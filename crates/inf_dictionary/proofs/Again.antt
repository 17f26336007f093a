-- A use that says nothing new of a word leaves the words as they are.
use Rattle.std.proofs.{lemmas.Map.Keys.sorted_head, lemmas.Map.Keys.sorted_tail}
use Rattle.std.proofs.Common.{◌≡◌, ◌∷◌, ◌∙◌, List, [], cond, refl, ap, sym, Ordering, Less, Equal, Greater, None, Some}
use Rattle.std.specs.{BTreeMap.insert_entry, BTreeMap.is_at, Cmp.IsTotalOrder, List.AllByRecursion, Map.keys_of, Map.lookup}
use Rattle.std.specs.{Ordering.is_eq, Ordering.match_ordering}
use Rattle.inf_dictionary.specs.{Texts.AreRising, Texts.Text, Texts.texts_of, declared.uses.Word.Word}
use Rattle.inf_dictionary.proofs.Ranks.{order}

-- a text below all others is none of them
none_below : IsTotalOrder order → (text first : Text) (words : List (Text × Word)) → order text first ≡ Less
    → AllByRecursion (λ y. order first y ≡ Less) (keys_of words) → lookup (is_at (order text)) words ≡ None
none_below total text first [] below above = refl
none_below total text first (e ∷ words) below above =
    ap (λ o. cond (is_eq o) (Some e.1) (lookup (is_at (order text)) words)) (total.trans text first e.0 below above.0)
    ∙ none_below total text first words below above.1

-- a word that is put where it is
pub known_again : IsTotalOrder order → (text : Text) (word : Word) (words : List (Text × Word)) → AreRising (texts_of words)
    → lookup (is_at (order text)) words ≡ Some word → insert_entry order words text word ≡ words
known_again total text word [] rising found = cc
known_again total text word (e ∷ words) rising found =
    go (order text e.0) refl found (known_again total text word words (sorted_tail order e.0 (keys_of words) rising))
  where
    go : (o : Ordering) → order text e.0 ≡ o → cond (is_eq o) (Some e.1) (lookup (is_at (order text)) words) ≡ Some word
        → (lookup (is_at (order text)) words ≡ Some word → insert_entry order words text word ≡ words)
        → match_ordering o ((text, word) ∷ e ∷ words) ((e.0, word) ∷ words) (e ∷ insert_entry order words text word) ≡ e ∷ words
    go Less h is later =
        let none = none_below total text e.0 words h (sorted_head order e.0 (keys_of words) rising) in
        absurd (cc (sym none ∙ is))
    go Equal h is later = let same : e.1 ≡ word = cc in ap (λ w. (e.0, w) ∷ words) (sym same)
    go Greater h is later = ap (λ l. e ∷ l) (later is)
