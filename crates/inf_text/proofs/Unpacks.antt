-- Unpacking gives back what was packed.
use Rattle.std.proofs.{lemmas.Bool.Decides.nat_tests, lemmas.Option.get_or_from_slice_get, lemmas.Option.slice_get_within}
use Rattle.std.proofs.Common.{◌≡◌, ◌<◌, ◌≤◌, ◌+◌, ◌-◌, ◌*◌, ◌/◌, ◌%◌, ℕ, zero, suc, Bool, true, false, ◌&&◌, cond, ltb, leb, eqb, Option}
use Rattle.std.proofs.Common.{None, Some, List, [], ◌∷◌, ◌++◌, length, map, replicate, get_or, append_assoc, refl, ap, ◌∙◌, arith, lit<}
use Rattle.std.proofs.lemmas.List.{append-nil, get_or-map, length-map}
use Rattle.std.specs.Prelude.{IsTrue, slice_get}
use Rattle.std.specs.List.{flat_map, position_from}
use Rattle.inf_text.proofs.Cutting.{AreLongTexts-at, is_cut}
use Rattle.inf_text.specs.Parts.{AreAbbreviations, AreLongTexts, Cuts, Part, Plain, Short, part_zs}
use Rattle.inf_text.specs.Packing.{AreZs, abbreviation_zs, character_zs, item_zs, other_zs, packed, punctuation, word, words, zs_from}
use Rattle.inf_text.specs.Unpacking.{Letter, abbreviation_text, letters, printed, string_zs, strings, unpacked, UnpacksTo}
use Rattle.inf_characters.specs.{Characters.is_code, Items.IsItem, Items.IsText, declared.texts.TextItem.TextItem}

-- the five bits of each Z-character of a word, whatever its top bit is
first_bits : (t a b c v : ℕ) → b < 32 → c < 32 → a < 32 → v ≡ 32768 * t + 1024 * a + 32 * b + c → v / 1024 % 32 ≡ a
first_bits t a b c v lb lc la e =
    let q : v / 1024 ≡ 32 * t + a = omega arith in rw q (omega arith)

second_bits : (t a b c v : ℕ) → b < 32 → c < 32 → v ≡ 32768 * t + 1024 * a + 32 * b + c → v / 32 % 32 ≡ b
second_bits t a b c v lb lc e =
    let q : v / 32 ≡ 32 * (32 * t + a) + b = omega arith in rw q (omega arith)

third_bits : (t a b c v : ℕ) → c < 32 → v ≡ 32768 * t + 1024 * a + 32 * b + c → v % 32 ≡ c
third_bits t a b c v lc e = omega arith

three : (a b c x y z : ℕ) (xs ys : List ℕ) → a ≡ x → b ≡ y → c ≡ z → xs ≡ ys → ◌≡◌ {A = List ℕ} (a ∷ b ∷ c ∷ xs) (x ∷ y ∷ z ∷ ys)
three a b c x y z xs ys p q r s = cc

-- a word that is not the last gives its Z-characters, and those of the words behind it
string_zs-word : (a b c : ℕ) (bytes : List ℕ) → a < 32 → b < 32 → c < 32 →
    string_zs (word false a b c ++ bytes) ≡ a ∷ b ∷ c ∷ string_zs bytes
string_zs-word a b c bytes la lb lc =
    let v = 256 * (0 + 4 * a + b / 8) + (32 * (b % 8) + c) in
    let e : v ≡ 32768 * 0 + 1024 * a + 32 * b + c = omega arith in
    let low : ltb (0 + 4 * a + b / 8) 128 ≡ true = let lt : 0 + 4 * a + b / 8 < 128 = omega arith in grind (arith, nat_tests) in
    three _ _ _ a b c _ (string_zs bytes) (first_bits 0 a b c v lb lc la e) (second_bits 0 a b c v lb lc e) (third_bits 0 a b c v lc e)
    (ap (λ (t : Bool). cond t (string_zs bytes) []) low)

-- the last word gives its Z-characters
string_zs-last : (a b c : ℕ) → a < 32 → b < 32 → c < 32 → string_zs (word true a b c) ≡ a ∷ b ∷ c ∷ []
string_zs-last a b c la lb lc =
    let v = 256 * (128 + 4 * a + b / 8) + (32 * (b % 8) + c) in
    let e : v ≡ 32768 * 1 + 1024 * a + 32 * b + c = omega arith in
    let high : ltb (128 + 4 * a + b / 8) 128 ≡ false = let le : 128 ≤ 128 + 4 * a + b / 8 = omega arith in grind (arith, nat_tests) in
    three _ _ _ a b c _ [] (first_bits 1 a b c v lb lc la e) (second_bits 1 a b c v lb lc e) (third_bits 1 a b c v lc e)
    (ap (λ (t : Bool). cond {A = List ℕ} t [] []) high)

-- the words of some Z-characters give them, and what fills the last word
string_zs-words : (zs : List ℕ) → AreZs zs → (n : ℕ) × (string_zs (words zs) ≡ zs ++ replicate n 5)
string_zs-words [] h = (3, refl)
string_zs-words (a ∷ []) h = (2, string_zs-last a 5 5 h.0 (omega arith) (omega arith))
string_zs-words (a ∷ b ∷ []) h = (1, string_zs-last a b 5 h.0 h.1.0 (omega arith))
string_zs-words (a ∷ b ∷ c ∷ []) h = (0, string_zs-last a b c h.0 h.1.0 h.1.1.0)
string_zs-words (a ∷ b ∷ c ∷ d ∷ zs) h =
    let more = string_zs-words (d ∷ zs) h.1.1.1 in
    (more.0, string_zs-word a b c (words (d ∷ zs)) h.0 h.1.0 h.1.1.0 ∙ ap (λ (r : List ℕ). a ∷ b ∷ c ∷ r) more.1)

-- nothing is printed by what fills a word
printed-fill : (texts : List (List TextItem)) (n alphabet : ℕ) → printed texts (Letter alphabet) (replicate n 5) ≡ []
printed-fill texts zero alphabet = refl
printed-fill texts (suc n) alphabet = printed-fill texts n 2

-- the `n` numbers from `first` on
run : ℕ → ℕ → List ℕ
run first zero = []
run first (suc n) = first ∷ run (first + 1) n

get_or-run : (first n i : ℕ) → i < n → get_or (run first n) i 0 ≡ first + i
unfolding run
get_or-run first zero i lt = absurd (omega arith)
get_or-run first (suc n) zero lt = omega arith
get_or-run first (suc n) (suc i) lt = get_or-run (first + 1) n i (omega arith) ∙ omega arith

small_letter : (i : ℕ) → i < 26 → get_or (letters 0) i 0 ≡ 97 + i
unfolding run
small_letter i lt = get_or-run 97 26 i lt

capital_letter : (i : ℕ) → i < 26 → get_or (letters 1) i 0 ≡ 65 + i
unfolding run
capital_letter i lt = get_or-run 65 26 i lt

-- a Z-character from 6 on prints a letter of its alphabet, but for two of A2
printed-letter : (texts : List (List TextItem)) (alphabet z : ℕ) (zs : List ℕ) → 6 ≤ z → (eqb alphabet 2 && eqb z 6) ≡ false →
    (eqb alphabet 2 && eqb z 7) ≡ false →
    printed texts (Letter alphabet) (z ∷ zs) ≡ TextItem.Character (get_or (letters alphabet) (z - 6) 0) ∷ printed texts (Letter 0) zs
printed-letter texts alphabet z zs le not_six not_seven =
    let not_space : eqb z 0 ≡ false = grind (arith, nat_tests) in
    let not_entry : ltb z 4 ≡ false = grind (arith, nat_tests) in
    let not_shift : ltb z 6 ≡ false = grind (arith, nat_tests) in
    rw (not_space, not_entry, not_shift, not_six, not_seven) refl

-- a number that is found stands at its place
position_from-at : (c first : ℕ) (xs : List ℕ) (place : ℕ) → position_from (λ x. eqb x c) first xs ≡ Some place →
    (first ≤ place) × (get_or xs (place - first) 0 ≡ c)
position_from-at c first [] place e = cc
position_from-at c first (x ∷ xs) place e = go (eqb x c) refl e (position_from-at c (first + 1) xs place) where
  go : (t : Bool) → eqb x c ≡ t → cond t (Some first) (position_from (λ x. eqb x c) (first + 1) xs) ≡ Some place →
      (position_from (λ x. eqb x c) (first + 1) xs ≡ Some place → (first + 1 ≤ place) × (get_or xs (place - (first + 1)) 0 ≡ c)) →
      (first ≤ place) × (get_or (x ∷ xs) (place - first) 0 ≡ c)
  go true is e later =
      let same : x ≡ c = grind (arith, nat_tests) in let at : first ≡ place = cc in
      let none : place - first ≡ 0 = omega arith in (omega arith, rw none same)
  go false is e later =
      let found = later e in let one : place - first ≡ suc (place - (first + 1)) = omega (arith, found.0) in
      (omega (arith, found.0), rw one found.1)

-- A2 has the punctuation from Z-character 8 on
punctuation_letter : (c place : ℕ) → get_or punctuation (place - 0) 0 ≡ c → get_or (letters 2) (8 + place - 6) 0 ≡ c
unfolding punctuation
punctuation_letter c place h =
    let behind : 8 + place - 6 ≡ suc (suc place) = omega arith in let same : place - 0 ≡ place = omega arith in
    rw behind (rw same at h)

-- the Z-characters of what is no letter print it
printed-other : (texts : List (List TextItem)) (c : ℕ) (found : Option ℕ) (zs : List ℕ) →
    position_from (λ x. eqb x c) 0 punctuation ≡ found →
    printed texts (Letter 0) (other_zs c found ++ zs) ≡ TextItem.Character c ∷ printed texts (Letter 0) zs
printed-other texts c None zs e =
    let whole : 32 * (c / 32) + c % 32 ≡ c = omega arith in
    ap (λ (n : ℕ). TextItem.Character n ∷ printed texts (Letter 0) zs) whole
printed-other texts c (Some place) zs e =
    let not_six : eqb (8 + place) 6 ≡ false = grind (arith, nat_tests) in
    let not_seven : eqb (8 + place) 7 ≡ false = grind (arith, nat_tests) in
    let at : get_or (letters 2) (8 + place - 6) 0 ≡ c = punctuation_letter c place (position_from-at c 0 punctuation place e).1 in
    printed-letter texts 2 (8 + place) zs (omega arith) not_six not_seven
    ∙ ap (λ (n : ℕ). TextItem.Character n ∷ printed texts (Letter 0) zs) at

and_both : (a b : Bool) → (a && b) ≡ true → (a ≡ true) × (b ≡ true)
and_both true b h = (refl, h)
and_both false b h = cc

-- The Z-characters of a code print it.
Prints : List (List TextItem) → List ℕ → ℕ → List ℕ → Type 0
Prints texts zs c more = printed texts (Letter 0) (zs ++ more) ≡ TextItem.Character c ∷ printed texts (Letter 0) more

prints_small : (texts : List (List TextItem)) (c : ℕ) (more : List ℕ) → (leb 97 c && leb c 122) ≡ true → Prints texts ((c - 91) ∷ []) c more
unfolding Prints
prints_small texts c more h =
    let both = and_both (leb 97 c) (leb c 122) h in let low : 97 ≤ c = grind (arith, nat_tests, both.0) in
    let high : c ≤ 122 = grind (arith, nat_tests, both.1) in let behind : c - 91 - 6 ≡ c - 97 = omega arith in
    let at : get_or (letters 0) (c - 91 - 6) 0 ≡ c = rw behind (small_letter (c - 97) (omega arith) ∙ omega arith) in
    printed-letter texts 0 (c - 91) more (omega arith) refl refl ∙ ap (λ (n : ℕ). TextItem.Character n ∷ printed texts (Letter 0) more) at

prints_capital : (texts : List (List TextItem)) (c : ℕ) (more : List ℕ) → (leb 65 c && leb c 90) ≡ true →
    Prints texts (4 ∷ (c - 59) ∷ []) c more
unfolding Prints
prints_capital texts c more h =
    let both = and_both (leb 65 c) (leb c 90) h in let low : 65 ≤ c = grind (arith, nat_tests, both.0) in
    let high : c ≤ 90 = grind (arith, nat_tests, both.1) in let behind : c - 59 - 6 ≡ c - 65 = omega arith in
    let at : get_or (letters 1) (c - 59 - 6) 0 ≡ c = rw behind (capital_letter (c - 65) (omega arith) ∙ omega arith) in
    printed-letter texts 1 (c - 59) more (omega arith) refl refl ∙ ap (λ (n : ℕ). TextItem.Character n ∷ printed texts (Letter 0) more) at

prints_space : (texts : List (List TextItem)) (c : ℕ) (more : List ℕ) → eqb c 32 ≡ true → Prints texts (0 ∷ []) c more
unfolding Prints
prints_space texts c more h = let same : c ≡ 32 = grind (arith, nat_tests) in rw same refl

prints_new_line : (texts : List (List TextItem)) (c : ℕ) (more : List ℕ) → eqb c 13 ≡ true → Prints texts (5 ∷ 7 ∷ []) c more
unfolding Prints
prints_new_line texts c more h = let same : c ≡ 13 = grind (arith, nat_tests) in rw same refl

prints_other : (texts : List (List TextItem)) (c : ℕ) (more : List ℕ) →
    Prints texts (other_zs c (position_from (λ x. eqb x c) 0 punctuation)) c more
unfolding Prints
prints_other texts c more = printed-other texts c (position_from (λ x. eqb x c) 0 punctuation) more refl

prints_chosen : (texts : List (List TextItem)) (c : ℕ) (more xs ys : List ℕ) (t : Bool) → (t ≡ true → Prints texts xs c more) →
    Prints texts ys c more → Prints texts (cond t xs ys) c more
prints_chosen texts c more xs ys true p q = p refl
prints_chosen texts c more xs ys false p q = q

-- the Z-characters of a code print it
printed-character : (texts : List (List TextItem)) (c : ℕ) (zs : List ℕ) → Prints texts (character_zs c) c zs
unfolding character_zs
printed-character texts c zs = prints_chosen texts c zs _ _ (eqb c 32) (prints_space texts c zs)
    (prints_chosen texts c zs _ _ (leb 97 c && leb c 122) (prints_small texts c zs)
    (prints_chosen texts c zs _ _ (leb 65 c && leb c 90) (prints_capital texts c zs)
    (prints_chosen texts c zs _ _ (eqb c 13) (prints_new_line texts c zs) (prints_other texts c zs))))

-- the Z-characters of an item print it
printed-item : (texts : List (List TextItem)) (x : TextItem) (zs : List ℕ) → IsItem x →
    printed texts (Letter 0) (item_zs x ++ zs) ≡ x ∷ printed texts (Letter 0) zs
unfolding Prints
printed-item texts (TextItem.Variable n) zs h =
    let low : ltb (0 + n) 32 ≡ true = grind (arith, nat_tests) in let same : 0 + n ≡ n = omega arith in
    rw low (ap (λ (m : ℕ). TextItem.Variable m ∷ printed texts (Letter 0) zs) same)
printed-item texts (TextItem.Character c) zs h = printed-character texts c zs

-- the Z-characters of an abbreviation print its text
printed-abbreviation : (texts : List (List TextItem)) (n : ℕ) (zs : List ℕ) → n < 64 →
    printed texts (Letter 0) (abbreviation_zs n ++ zs) ≡ get_or texts n [] ++ printed texts (Letter 0) zs
printed-abbreviation texts n zs lt =
    let bank = (32 + n) / 32 + 1 in let not_space : eqb bank 0 ≡ false = grind (arith, nat_tests) in
    let bank_fits : bank < 4 = omega arith in let entry : ltb bank 4 ≡ true = grind (arith, nat_tests) in
    let number : 32 * (bank - 1) + (32 + n) % 32 ≡ 32 + n = omega arith in
    let declared : ltb (32 + n) 32 ≡ false = grind (arith, nat_tests) in let place : 32 + n - 32 ≡ n = omega arith in
    rw (not_space, entry, number, declared, place) refl

AreZs-append : (xs ys : List ℕ) → AreZs xs → AreZs ys → AreZs (xs ++ ys)
AreZs-append [] ys h k = k
AreZs-append (x ∷ xs) ys h k = (h.0, AreZs-append xs ys h.1 k)

-- a place that is found lies within
position_from-within : (c first : ℕ) (xs : List ℕ) (place : ℕ) → position_from (λ x. eqb x c) first xs ≡ Some place →
    place < first + length xs
position_from-within c first [] place e = cc
position_from-within c first (x ∷ xs) place e = go (eqb x c) e (position_from-within c (first + 1) xs place) where
  go : (t : Bool) → cond t (Some first) (position_from (λ x. eqb x c) (first + 1) xs) ≡ Some place →
      (position_from (λ x. eqb x c) (first + 1) xs ≡ Some place → place < first + 1 + length xs) → place < first + length (x ∷ xs)
  go true e later = let at : first ≡ place = cc in omega arith
  go false e later = omega (arith, later e)

within_punctuation : (c place : ℕ) → position_from (λ x. eqb x c) 0 punctuation ≡ Some place → place < 24
unfolding punctuation
within_punctuation c place e = position_from-within c 0 punctuation place e

AreZs-other : (c : ℕ) (found : Option ℕ) → c < 256 → position_from (λ x. eqb x c) 0 punctuation ≡ found → AreZs (other_zs c found)
AreZs-other c None lt e =
    let high : c / 32 < 32 = omega arith in let low : c % 32 < 32 = omega arith in
    (lit< tt, (lit< tt, (high, (low, tt))))
AreZs-other c (Some place) lt e =
    let within : place < 24 = within_punctuation c place e in (lit< tt, (omega arith, tt))

AreZs-chosen : (t : Bool) (xs ys : List ℕ) → (t ≡ true → AreZs xs) → AreZs ys → AreZs (cond t xs ys)
AreZs-chosen true xs ys p q = p refl
AreZs-chosen false xs ys p q = q

AreZs-character : (c : ℕ) → c < 256 → AreZs (character_zs c)
unfolding character_zs
AreZs-character c lt = AreZs-chosen (eqb c 32) _ _ (λ _. (lit< tt, tt))
    (AreZs-chosen (leb 97 c && leb c 122) _ _ (λ h. let high : c ≤ 122 = grind (arith, nat_tests, (and_both (leb 97 c) (leb c 122) h).1) in
    (omega arith, tt))
    (AreZs-chosen (leb 65 c && leb c 90) _ _ (λ h. let high : c ≤ 90 = grind (arith, nat_tests, (and_both (leb 65 c) (leb c 90) h).1) in
    (lit< tt, (omega arith, tt))) (AreZs-chosen (eqb c 13) _ _ (λ _. (lit< tt, (lit< tt, tt)))
    (AreZs-other c (position_from (λ x. eqb x c) 0 punctuation) lt refl))))

-- a code is a byte
code_small : (c : ℕ) → IsTrue (is_code c) → c < 256
code_small c h = grind (arith, nat_tests)

AreZs-item : (x : TextItem) → IsItem x → AreZs (item_zs x)
AreZs-item (TextItem.Character c) h = AreZs-character c (code_small c h)
AreZs-item (TextItem.Variable n) h = (lit< tt, (h, tt))

AreZs-abbreviation : (n : ℕ) → n < 64 → AreZs (abbreviation_zs n)
AreZs-abbreviation n lt =
    let bank : (32 + n) / 32 + 1 < 32 = omega arith in let place : (32 + n) % 32 < 32 = omega arith in
    (bank, (place, tt))

IsText-right : (xs ys : List TextItem) → IsText (xs ++ ys) → IsText ys
IsText-right [] ys h = h
IsText-right (x ∷ xs) ys h = IsText-right xs ys h.1

-- each declared abbreviation has its text in a table
Agrees : List (List TextItem) → List (List TextItem) → Type 0
Agrees declared texts = (n : ℕ) (a : List TextItem) → slice_get declared n ≡ Some a → (n < 64) × (get_or texts n [] ≡ a)

-- the Z-characters of parts have five bits each, and print the items that the parts cut
AreZs-parts : (declared texts : List (List TextItem)) (parts : List Part) (items : List TextItem) → Agrees declared texts → IsText items →
    Cuts declared parts items → AreZs (flat_map part_zs parts)
unfolding Agrees
AreZs-parts declared texts [] items agrees text cuts = tt
AreZs-parts declared texts (Plain x ∷ parts) items agrees text (rest, (split, none, cuts)) =
    let text' : IsText (x ∷ rest) = rw split at text in
    AreZs-append (item_zs x) (flat_map part_zs parts) (AreZs-item x text'.0) (AreZs-parts declared texts parts rest agrees text'.1 cuts)
AreZs-parts declared texts (Short n ∷ parts) items agrees text (a, (rest, (takes, cuts))) =
    let text' : IsText (a ++ rest) = rw takes.items_are at text in
    AreZs-append (abbreviation_zs n) (flat_map part_zs parts) (AreZs-abbreviation n (agrees n a takes.declared_as).0)
    (AreZs-parts declared texts parts rest agrees (IsText-right a rest text') cuts)

printed-parts : (declared texts : List (List TextItem)) (parts : List Part) (items : List TextItem) (zs : List ℕ) → Agrees declared texts →
    IsText items → Cuts declared parts items →
    printed texts (Letter 0) (flat_map part_zs parts ++ zs) ≡ items ++ printed texts (Letter 0) zs
unfolding Agrees
printed-parts declared texts [] items zs agrees text cuts = rw cuts refl
printed-parts declared texts (Plain x ∷ parts) items zs agrees text (rest, (split, none, cuts)) =
    let text' : IsText (x ∷ rest) = rw split at text in
    rw (split, append_assoc (item_zs x) (flat_map part_zs parts) zs)
    (printed-item texts x (flat_map part_zs parts ++ zs) text'.0 ∙ ap (λ (r : List TextItem). x ∷ r)
    (printed-parts declared texts parts rest zs agrees text'.1 cuts))
printed-parts declared texts (Short n ∷ parts) items zs agrees text (a, (rest, (takes, cuts))) =
    let text' : IsText (a ++ rest) = rw takes.items_are at text in let known = agrees n a takes.declared_as in
    rw (takes.items_are, append_assoc a rest (printed texts (Letter 0) zs))
    (printed-abbreviation texts n (flat_map part_zs parts ++ zs) known.0 ∙ rw known.1
    (ap (λ (r : List TextItem). a ++ r) (printed-parts declared texts parts rest zs agrees (IsText-right a rest text') cuts)))

-- the words of a text print it, where a table has the declared abbreviations
printed-words : (declared texts : List (List TextItem)) (items : List TextItem) → AreLongTexts declared → Agrees declared texts →
    IsText items → printed texts (Letter 0) (string_zs (words (zs_from declared 0 items))) ≡ items
printed-words declared texts items long agrees text =
    let cut = is_cut declared items long in let zs = flat_map part_zs cut.0 in
    let small : AreZs zs = AreZs-parts declared texts cut.0 items agrees text cut.1.0 in
    let read = string_zs-words zs small in
    rw (cut.1.1, read.1) (printed-parts declared texts cut.0 items (replicate read.0 5) agrees text cut.1.0
    ∙ ap (λ (r : List TextItem). items ++ r) (printed-fill texts read.0 0) ∙ append-nil items)

-- an abbreviation's own string prints its text
abbreviation_text-packed : (a : List TextItem) → IsText a → abbreviation_text (packed a []) ≡ a
unfolding abbreviation_text packed Agrees
abbreviation_text-packed a text = printed-words [] [] a tt (λ n b e. absurd (let no : None ≡ Some b = e in cc)) text

-- the table of the declared abbreviations' strings has their texts
table_agrees : (declared : List (List TextItem)) → AreAbbreviations declared → Agrees declared (map abbreviation_text (strings declared))
unfolding Agrees
table_agrees declared h n a e =
    let lt : n < length declared = slice_get_within declared n a e in
    let string : List TextItem → List ℕ = λ b. packed b [] in
    let lt' : n < length (strings declared) = rw (length-map declared string) lt in
    let at : get_or (map abbreviation_text (strings declared)) n [] ≡ abbreviation_text (get_or (strings declared) n []) =
    get_or-map abbreviation_text (strings declared) n [] [] lt' in
    let text : get_or (strings declared) n [] ≡ packed a [] =
    get_or-map string declared n [] [] lt ∙ ap string (get_or_from_slice_get declared n a [] e) in
    (omega (arith, h.few), at ∙ ap abbreviation_text text ∙ abbreviation_text-packed a (AreLongTexts-at declared n a h.texts e).1)

-- an interpreter reads the text that was packed
pub unpacks : (declared : List (List TextItem)) (items : List TextItem) → AreAbbreviations declared → IsText items →
    UnpacksTo declared (packed items declared) items
unfolding unpacked packed
unpacks declared items h text =
    printed-words declared (map abbreviation_text (strings declared)) items h.texts (table_agrees declared h) text

-- the Z-characters of a text have five bits each
pub AreZs-packed : (declared : List (List TextItem)) (items : List TextItem) → AreAbbreviations declared → IsText items →
    AreZs (zs_from declared 0 items)
AreZs-packed declared items h text =
    let cut = is_cut declared items h.texts in
    rw cut.1.1 (AreZs-parts declared (map abbreviation_text (strings declared)) cut.0 items (table_agrees declared h) text cut.1.0)
