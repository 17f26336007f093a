-- The words of a command and their choices, taken from left to right.
use Rattle.std.specs.Prelude.{ℕ, ◌+◌, ◌==◌, List, [], ◌∷◌, if◌then◌else◌, Option, Some, None, Result, Ok, Err}
use Rattle.inf_letters.specs.{Letters.none_spoken, Letters.with_letters, declared.letters.Letters.Letters}
use Rattle.inf_settings.specs.{Settings.answer_to, Settings.named, Words.Assigned, Words.assignment_of, declared.settings.SetFault.SetFault}
use Rattle.inf_command.specs.{Spoken.none_named, Spoken.with_name, declared.command_line.WordFault.WordFault, declared.spoken.Spoken.Spoken}

-- the choices of a command's words: the source, the story where a word names it, the settings that are named, those of letters, and the
-- directories of included files where a word gives them, as the text behind its sign
pub record Choice : Type 0 where
  pub source : List ℕ
  pub story : Option (List ℕ)
  pub settings : Spoken
  pub letters : Letters
  pub path : Option (List ℕ)

-- the choices after some of the words, of which perhaps none names the source
pub record TakenWords : Type 0 where
  pub source : Option (List ℕ)
  pub story : Option (List ℕ)
  pub settings : Spoken
  pub letters : Letters
  pub path : Option (List ℕ)

-- the choices before the first word
abbrev pub no_words : TakenWords
no_words = record { source = None; story = None; settings = none_named; letters = none_spoken; path = None }

-- the choices of a word's letters behind others: there is at least one letter
abbrev pub chosen_letters : Letters → List ℕ → Option Letters
chosen_letters l [] = None
chosen_letters l (b ∷ letters) = with_letters (b ∷ letters) l

-- the choices after a word `-..`, by its letters
abbrev pub take_letters : TakenWords → ℕ → Option Letters → Result TakenWords WordFault
take_letters taken place None = Err (WordFault.Unknown place)
take_letters taken place (Some letters) = Ok (record taken { letters = letters })

-- the choices after a word `$..`, by the settings that it leaves, and by the result of setting
abbrev pub with_settings : TakenWords → ℕ → Spoken → Result Unit SetFault → Result TakenWords WordFault
with_settings taken place settings (Ok done) = Ok (record taken { settings = settings })
with_settings taken place settings (Err refused) = Err (WordFault.BadSetting place)

abbrev pub take_setting : TakenWords → ℕ → Option Assigned → Result TakenWords WordFault
take_setting taken place None = Err (WordFault.BadSetting place)
take_setting taken place (Some a) =
    with_settings taken place (with_name (named a.name) a.number taken.settings) (answer_to (named a.name) a.number)

-- the choices after a word that names a file, by those that are named already: the first is the source, the second the story
abbrev pub take_name : Option (List ℕ) → Option (List ℕ) → TakenWords → ℕ → List ℕ → Result TakenWords WordFault
take_name None story taken place word = Ok (record taken { source = Some word })
take_name (Some source) None taken place word = Ok (record taken { story = Some word })
take_name (Some source) (Some story) taken place word = Err (WordFault.TooMany place)

-- the choices after one more word, at its place among the words: its first byte decides what kind of word it is
abbrev pub take_word : TakenWords → ℕ → List ℕ → Result TakenWords WordFault
take_word taken place [] = take_name taken.source taken.story taken place []
take_word taken place (b ∷ bs) =
    if b == 45 then take_letters taken place (chosen_letters taken.letters bs)
    else if b == 36 then take_setting taken place (assignment_of (b ∷ bs))
    else if b == 43 then Ok (record taken { path = Some bs })
    else take_name taken.source taken.story taken place (b ∷ bs)

-- the choice at the end of the words
abbrev pub choice_of : Option (List ℕ) → TakenWords → Result Choice WordFault
choice_of None taken = Err WordFault.NoSource
choice_of (Some source) taken =
    Ok (record { source = source; story = taken.story; settings = taken.settings; letters = taken.letters; path = taken.path })

-- the result of the words behind one that was taken, or the error of one that was refused
abbrev pub and_then : (TakenWords → Result Choice WordFault) → Result TakenWords WordFault → Result Choice WordFault
and_then next (Ok taken) = next taken
and_then next (Err refused) = Err refused

-- the choice of the words from a place on, taken from left to right up to the first that is refused
abbrev pub read_from : TakenWords → ℕ → List (List ℕ) → Result Choice WordFault
read_from taken place [] = choice_of taken.source taken
read_from taken place (word ∷ words) = and_then (λ next. read_from next (place + 1) words) (take_word taken place word)

-- the choice of all the words of a command
abbrev pub read_words : List (List ℕ) → Result Choice WordFault
read_words words = read_from no_words 0 words
