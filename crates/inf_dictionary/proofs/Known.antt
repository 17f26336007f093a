-- Uses of other words leave the facts known of a word as they are.
use Rattle.std.proofs.{lemmas.Cmp.alike_right, lemmas.Map.Lookups.exact_bytes}
use Rattle.std.proofs.Common.{◌≡◌, ◌∷◌, ◌∙◌, List, [], Bool, true, false, cond, refl, ap, sym, Ordering, Less, Equal, Greater, Option, Some}
use Rattle.std.specs.{BTreeMap.insert_entry, BTreeMap.is_at, Cmp.IsTotalOrder, Map.lookup, Ordering.is_eq, Ordering.match_ordering}
use Rattle.inf_dictionary.specs.{Texts.Text, Uses.UseOf, Uses.said_of, Uses.with_uses, Words.Words, Words.joined, Words.with_use}
use Rattle.inf_dictionary.specs.{Words.word_of, declared.uses.Word.Word, declared.uses.WordUse.WordUse}
use Rattle.inf_dictionary.proofs.Ranks.{order}

is_equal : (o : Ordering) → is_eq o ≡ true → o ≡ Equal
is_equal Less h = absurd (cc h)
is_equal Equal h = refl
is_equal Greater h = absurd (cc h)

-- two tests that do not both hold can stand in either order
swapped : {A : Type 0} → (a b : Bool) → (x y z : A) → (a ≡ true → b ≡ true → ⊥) → cond a x (cond b y z) ≡ cond b y (cond a x z)
swapped true true x y z apart = absurd (apart refl refl)
swapped true false x y z apart = refl
swapped false true x y z apart = refl
swapped false false x y z apart = refl

once : {A : Type 0} → (b : Bool) → (x y z : A) → cond b x z ≡ cond b x (cond b y z)
once true x y z = refl
once false x y z = refl

-- adding a word makes it known by its text, and leaves every other one as it was
known_with : IsTotalOrder order → (text : Text) (word : Word) (other : Text) (words : List (Text × Word))
    → lookup (is_at (order other)) (insert_entry order words text word)
    ≡ cond (is_eq (order other text)) (Some word) (lookup (is_at (order other)) words)
known_with total text word other [] = refl
known_with total text word other (e ∷ words) = go (order text e.0) refl (known_with total text word other words) where
  rest : Option Word
  rest = lookup (is_at (order other)) words

  go : (o : Ordering) → order text e.0 ≡ o
      → lookup (is_at (order other)) (insert_entry order words text word) ≡ cond (is_eq (order other text)) (Some word) rest
      → lookup (is_at (order other)) (match_ordering o ((text, word) ∷ e ∷ words) ((e.0, word) ∷ words)
      (e ∷ insert_entry order words text word))
      ≡ cond (is_eq (order other text)) (Some word) (cond (is_eq (order other e.0)) (Some e.1) rest)
  go Less h below = refl
  go Equal h below = once (is_eq (order other e.0)) (Some word) (Some e.1) rest
      ∙ ap (λ r. cond (is_eq r) (Some word) (cond (is_eq (order other e.0)) (Some e.1) rest)) (sym (alike_right total text e.0 other h))
  go Greater h below = ap (λ l. cond (is_eq (order other e.0)) (Some e.1) l) below
      ∙ swapped (is_eq (order other e.0)) (is_eq (order other text)) (Some e.1) (Some word) rest
      (λ a b. let same : order other e.0 ≡ order text e.0 = total.congr other text e.0 (is_equal (order other text) b) in
      absurd (cc (sym (is_equal (order other e.0) a) ∙ same ∙ h)))

-- a further use says of a word what `said_by` has, and of every other one nothing
said_with : (text other : Text) (how : WordUse) (is_plural : Bool) (words : Words) (b : Bool) → is_eq (order other text) ≡ b
    → cond b (Some (joined (word_of text words.list) how is_plural)) (word_of other words.list)
    ≡ cond b (Some (joined (word_of other words.list) how is_plural)) (word_of other words.list)
said_with text other how is_plural words true h =
    ap (λ t. Some (joined (word_of t words.list) how is_plural)) (sym (exact_bytes other text (is_equal (order other text) h)))
said_with text other how is_plural words false h = refl

pub known_by_all : IsTotalOrder order → (uses : List UseOf) (text : Text) (words : Words)
    → word_of text (with_uses uses words).list ≡ said_of text uses (word_of text words.list)
known_by_all total [] text words = refl
known_by_all total (u ∷ uses) text words = known_by_all total uses text (with_use u.text u.how u.is_plural words)
    ∙ ap (said_of text uses) (known_with total u.text (joined (word_of u.text words.list) u.how u.is_plural) text words.list
    ∙ said_with u.text text u.how u.is_plural words (is_eq (order text u.text)) refl)
