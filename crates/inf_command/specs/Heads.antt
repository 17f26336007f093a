-- Words of the head of a source, and their choices where the words of the command are silent.
use Rattle.std.specs.{Char.is_ascii, List.list_all, Option.option_or}
use Rattle.std.specs.Prelude.{◌≡◌, ℕ, ◌==◌, ◌&&◌, nat_le, Bool, length, List, [], ◌∷◌, if◌then◌else◌, Option, Some, None, Result, Ok, Err}
use Rattle.inf_letters.specs.{Letters.none_spoken, Letters.spoken_over, declared.letters.Letters.Letters}
use Rattle.inf_settings.specs.{Settings.named, Words.Assigned, Words.assignment_of}
use Rattle.inf_command.specs.{declared.command_line.WordFault.WordFault, declared.spoken.Spoken.Spoken}
use Rattle.inf_command.specs.Spoken.{none_named, numbers_over, with_name}
use Rattle.inf_command.specs.Words.{Choice, TakenWords, chosen_letters, no_words, read_from, read_words}

-- The choices of a head's words: their letters, the settings that they name, and the directories of included files where a word gives
-- them, as the text behind its sign.
pub record HeadWords : Type 0 where
  pub letters : Letters
  pub settings : Spoken
  pub path : Option (List ℕ)

-- the choices before the first word of a head
abbrev pub no_head : HeadWords
no_head = record { letters = none_spoken; settings = none_named; path = None }

-- Tells whether a word may be of a head: it has at most 255 bytes, all of ASCII.
abbrev pub is_head_word : List ℕ → Bool
is_head_word word = nat_le (length word) 255 && list_all is_ascii word

-- the choices after a word `-..`, by its letters, which choose nothing where one is unknown
abbrev pub with_head_letters : HeadWords → Option Letters → HeadWords
with_head_letters h None = h
with_head_letters h (Some letters) = record h { letters = letters }

-- the choices after a word `$..`, by the setting and the number that it has: none is changed where there is no setting of this name or it
-- cannot have the number
abbrev pub with_head_setting : HeadWords → Option Assigned → HeadWords
with_head_setting h None = h
with_head_setting h (Some a) = record h { settings = with_name (named a.name) a.number h.settings }

-- the choices after a word, by its first byte: without a sign it chooses nothing
abbrev pub heard : HeadWords → List ℕ → HeadWords
heard h [] = h
heard h (b ∷ bs) =
    if b == 45 then with_head_letters h (chosen_letters h.letters bs)
    else if b == 36 then with_head_setting h (assignment_of (b ∷ bs))
    else if b == 43 then record h { path = Some bs }
    else h

-- the choices after one more word
abbrev pub take_head_word : HeadWords → List ℕ → HeadWords
take_head_word h word = if is_head_word word then heard h word else h

-- the choices after some more words, taken from left to right
abbrev pub head_from : HeadWords → List (List ℕ) → HeadWords
head_from h [] = h
head_from h (word ∷ words) = head_from (take_head_word h word) words

-- the choices of all the words of a head
abbrev pub head_of : List (List ℕ) → HeadWords
head_of words = head_from no_head words

-- the choices of a command's words over those of a head, matter by matter
abbrev pub with_head : HeadWords → Choice → Choice
with_head h c = record c {
  letters = spoken_over c.letters h.letters;
  settings = numbers_over c.settings h.settings;
  path = option_or c.path h.path;
}

-- the choices of a command's words over those of a head, where no word of the command is refused
abbrev pub behind_head : HeadWords → Result Choice WordFault → Result Choice WordFault
behind_head h (Ok c) = Ok (with_head h c)
behind_head h (Err refused) = Err refused

-- the choices before the first word of the command, where those of a head came first
abbrev pub begun_with : HeadWords → TakenWords
begun_with h = record no_words { letters = h.letters; settings = h.settings; path = h.path }

-- Words of a head, followed by those of the command, choose from left to right as the command's words over the head's.
abbrev pub ComesFirst : List (List ℕ) → List (List ℕ) → Type 0
ComesFirst head words = read_from (begun_with (head_of head)) 0 words ≡ behind_head (head_of head) (read_words words)
