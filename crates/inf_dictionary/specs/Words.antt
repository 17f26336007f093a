-- The words of a story: each text once, in rising order, with what all its uses say together.
use Rattle.std.specs.{BTreeMap.insert_entry, BTreeMap.is_at, Cmp.Lexicographic.slice_cmp, Map.lookup, Ordering.nat_cmp}
use Rattle.std.specs.Prelude.{ℕ, List, [], ◌∷◌, ◌++◌, Option, Some, None, length, bit_or, ◌+◌, ◌-◌, ◌/◌, ◌%◌, ◌==◌, ◌||◌, not, Bool, false}
use Rattle.std.specs.Prelude.{if◌then◌else◌, is_some, is_none, nat_le, ◌&&◌}
use Rattle.inf_settings.specs.{Bounds.Limits, declared.setting.Setting.Setting}
use Rattle.inf_dictionary.specs.{Texts.Text, declared.dictionary.AddFault.AddFault, declared.uses.Word.Word, declared.uses.WordUse.WordUse}

-- the words in rising order of their texts
pub record Words : Type 0 where
  pub list : List (Text × Word)

-- the facts known of the word with a text
abbrev pub word_of : Text → List (Text × Word) → Option Word
word_of text words = lookup (is_at (slice_cmp nat_cmp text)) words

abbrev pub verb_in_word : Option Word → Option ℕ
verb_in_word None = None
verb_in_word (Some word) = word.verb

-- the verb that the text is a word of
abbrev pub verb_of : Text → List (Text × Word) → Option ℕ
verb_of text words = verb_in_word (word_of text words)

-- the bits of a use: 1 verb, 2 meta, 4 plural, 8 preposition, 128 any other
abbrev pub flags_of : WordUse → Bool → ℕ
flags_of (WordUse.Verb number) is_plural = bit_or 1 (if is_plural then 4 else 0)
flags_of (WordUse.MetaVerb number) is_plural = bit_or 3 (if is_plural then 4 else 0)
flags_of WordUse.Preposition is_plural = bit_or 8 (if is_plural then 4 else 0)
flags_of WordUse.Other is_plural = bit_or 128 (if is_plural then 4 else 0)

abbrev pub verb_in : WordUse → Option ℕ
verb_in (WordUse.Verb number) = Some number
verb_in (WordUse.MetaVerb number) = Some number
verb_in WordUse.Preposition = None
verb_in WordUse.Other = None

abbrev pub or_verb : Option ℕ → Option ℕ → Option ℕ
or_verb None old = old
or_verb (Some number) old = Some number

-- a further use joins its flags
abbrev pub joined : Option Word → WordUse → Bool → Word
joined None how is_plural = record { flags = flags_of how is_plural; verb = verb_in how }
joined (Some word) how is_plural = record { flags = bit_or word.flags (flags_of how is_plural); verb = or_verb (verb_in how) word.verb }

abbrev pub with_use : Text → WordUse → Bool → Words → Words
with_use text how is_plural words =
    record words { list = insert_entry (slice_cmp nat_cmp) words.list text (joined (word_of text words.list) how is_plural) }

abbrev pub are_other : Option ℕ → Option ℕ → Bool
are_other (Some old) (Some new) = not (old == new)
are_other (Some old) None = false
are_other None new = false

-- Tells whether a word of a verb would become one of another verb.
abbrev pub is_of_other_verb : Option Word → WordUse → Bool
is_of_other_verb word how = are_other (verb_in_word word) (verb_in how)

-- the reason why a use cannot be added of a word, of which `word` is known: the word is one of another verb, or it is new and there are
-- as many words as there may be
abbrev pub add_fault : Limits → Option Word → WordUse → Words → Option AddFault
add_fault limits word how words =
    if is_of_other_verb word how then Some AddFault.OtherVerb
    else if is_none word && nat_le (limits Setting.DictionaryEntries) (length words.list) then Some AddFault.Full else None

-- Tells whether a text cannot become a word of a new verb behind the texts of `before`: it is a word of a verb already, or is among these.
unfoldable pub is_misfit : List (Text × Word) → List (Text × Unit {0}) → Text → Bool
is_misfit words before text = is_some (verb_of text words) || is_some (lookup (is_at (slice_cmp nat_cmp text)) before)

-- the place of the first text that cannot become a word of a new verb
abbrev pub first_misfit : List (Text × Word) → ℕ → List (Text × Unit {0}) → List Text → Option ℕ
first_misfit words place before [] = None
first_misfit words place before (text ∷ texts) =
    if is_misfit words before text then Some place else first_misfit words (place + 1) (insert_entry (slice_cmp nat_cmp) before text tt)
    texts

-- The dictionary as it is written (Z-Machine Standard 1.1, section 13.2 to 13.4; Inform Technical Manual, section 8.5).

-- the byte that an entry has for its verb
abbrev pub verb_byte_of : Option ℕ → ℕ
verb_byte_of None = 0
verb_byte_of (Some number) = 255 - number

abbrev pub verb_byte : Word → ℕ
verb_byte word = verb_byte_of word.verb

-- the bytes of an entry: the text, the flags, the verb, and a byte that is not used
abbrev pub entry_bytes : Text × Word → List ℕ
entry_bytes (text, word) = text ++ word.flags ∷ verb_byte word ∷ 0 ∷ []

abbrev pub entries_bytes : List (Text × Word) → List ℕ
entries_bytes [] = []
entries_bytes (entry ∷ words) = entry_bytes entry ++ entries_bytes words

-- the bytes of a dictionary: three separators, `.` `,` and the quote, the length of an entry, the number of entries, and the entries
abbrev pub dictionary_bytes : List (Text × Word) → List ℕ
dictionary_bytes words = (3 ∷ 46 ∷ 44 ∷ 34 ∷ 9 ∷ length words / 256 % 256 ∷ length words % 256 ∷ []) ++ entries_bytes words
