-- Words of a command behind those of a head.
use Rattle.std.proofs.Common.{◌≡◌, ℕ, ◌+◌, ◌==◌, List, [], ◌∷◌, Bool, true, false, cond, Option, Some, None, Result, Ok, Err, refl, ap, ◌∙◌}
use Rattle.std.specs.Option.{option_map, option_or}
use Rattle.inf_letters.specs.{Letters.spoken_over, declared.letters.Letters.Letters}
use Rattle.inf_letters.proofs.Overs.{with_letters-over}
use Rattle.inf_settings.specs.{Words.Assigned, Words.assignment_of, declared.setting.Setting.Setting, declared.settings.SetFault.SetFault}
use Rattle.inf_settings.specs.Settings.{answer_to, is_fit, named}
use Rattle.inf_command.specs.{Heads.ComesFirst, Heads.HeadWords, Heads.behind_head, Heads.head_of, Spoken.numbers_over, Spoken.with_name}
use Rattle.inf_command.specs.{Spoken.with_named, declared.command_line.WordFault.WordFault, declared.spoken.Spoken.Spoken}
use Rattle.inf_command.specs.Words.{Choice, TakenWords, and_then, choice_of, chosen_letters, no_words, read_from, take_letters, take_name}
use Rattle.inf_command.specs.Words.{take_setting, take_word, with_settings}

-- a setting that is named over others
with_named-over : (x : Setting) (n : ℕ) (s others : Spoken) → with_named x n (numbers_over s others)
    ≡ numbers_over (with_named x n s) others
with_named-over Setting.QuotedText n s others = refl
with_named-over Setting.ExpressionNodes n s others = refl
with_named-over Setting.Symbols n s others = refl
with_named-over Setting.Labels n s others = refl
with_named-over Setting.DictionaryEntries n s others = refl
with_named-over Setting.Objects n s others = refl
with_named-over Setting.Verbs n s others = refl
with_named-over Setting.Actions n s others = refl
with_named-over Setting.GrammarLines n s others = refl
with_named-over Setting.PropertyTables n s others = refl
with_named-over Setting.Arrays n s others = refl
with_named-over Setting.LowStrings n s others = refl
with_named-over Setting.Code n s others = refl
with_named-over Setting.Strings n s others = refl
with_named-over Setting.References n s others = refl

with_name-over : (o : Option Setting) (n : ℕ) (s others : Spoken) → with_name o n (numbers_over s others)
    ≡ numbers_over (with_name o n s) others
with_name-over None n s others = refl
with_name-over (Some x) n s others = by (is_fit n) where
  by : (fit : Bool) → cond fit (with_named x n (numbers_over s others)) (numbers_over s others)
      ≡ numbers_over (cond fit (with_named x n s) s) others
  by true = with_named-over x n s others
  by false = refl

-- the words of a command taken so far, over those of a head
abbrev over : HeadWords → TakenWords → TakenWords
over h t = record t {
  letters = spoken_over t.letters h.letters;
  settings = numbers_over t.settings h.settings;
  path = option_or t.path h.path;
}

abbrev all_over : HeadWords → Result TakenWords WordFault → Result TakenWords WordFault
all_over h (Ok t) = Ok (over h t)
all_over h (Err refused) = Err refused

-- letters chosen over a head's are those chosen alone, over the head's
chosen-over : (l others : Letters) (letters : List ℕ) →
    chosen_letters (spoken_over l others) letters ≡ option_map (λ x. spoken_over x others) (chosen_letters l letters)
chosen-over l others [] = refl
chosen-over l others (b ∷ letters) = with_letters-over (b ∷ letters) l others

take_letters-over : (h : HeadWords) (t : TakenWords) (place : ℕ) (o : Option Letters) →
    take_letters (over h t) place (option_map (λ x. spoken_over x h.letters) o) ≡ all_over h (take_letters t place o)
take_letters-over h t place None = refl
take_letters-over h t place (Some l) = refl

-- settings named over a head's are those named alone, over the head's
with_settings-over : (h : HeadWords) (t : TakenWords) (place : ℕ) (s : Spoken) (r : Result Unit SetFault) →
    with_settings (over h t) place (numbers_over s h.settings) r ≡ all_over h (with_settings t place s r)
with_settings-over h t place s (Ok done) = refl
with_settings-over h t place s (Err refused) = refl

take_setting-over : (h : HeadWords) (t : TakenWords) (place : ℕ) (o : Option Assigned) →
    take_setting (over h t) place o ≡ all_over h (take_setting t place o)
take_setting-over h t place None = refl
take_setting-over h t place (Some a) = ap (λ (s : Spoken). with_settings (over h t) place s (answer_to (named a.name) a.number))
    (with_name-over (named a.name) a.number t.settings h.settings)
    ∙ with_settings-over h t place (with_name (named a.name) a.number t.settings) (answer_to (named a.name) a.number)

-- names taken over a head's words are those taken alone
take_name-over : (source story : Option (List ℕ)) (h : HeadWords) (t : TakenWords) (place : ℕ) (word : List ℕ) →
    take_name source story (over h t) place word ≡ all_over h (take_name source story t place word)
take_name-over None story h t place word = refl
take_name-over (Some source) None h t place word = refl
take_name-over (Some source) (Some story) h t place word = refl

-- of two results that are both over a head's, the chosen one is, too
choice-over : (h : HeadWords) (b : Bool) (x y first second : Result TakenWords WordFault) → x ≡ all_over h first → y ≡ all_over h second
    → cond b x y ≡ all_over h (cond b first second)
choice-over h true x y first second e f = e
choice-over h false x y first second e f = f

-- a word taken over a head's words is the word taken alone, over the head's
take_word-over : (h : HeadWords) (t : TakenWords) (place : ℕ) (word : List ℕ) →
    take_word (over h t) place word ≡ all_over h (take_word t place word)
take_word-over h t place [] = take_name-over t.source t.story h t place []
take_word-over h t place (b ∷ bs) = choice-over h (b == 45) _ _ _ _
    (ap (take_letters (over h t) place) (chosen-over t.letters h.letters bs) ∙ take_letters-over h t place (chosen_letters t.letters bs))
    (choice-over h (b == 36) _ _ _ _ (take_setting-over h t place (assignment_of (b ∷ bs)))
    (choice-over h (b == 43) _ _ _ _ refl (take_name-over t.source t.story h t place (b ∷ bs))))

-- the choice at the end is that of the command's words alone, over the head's
choice_of-over : (source : Option (List ℕ)) (h : HeadWords) (t : TakenWords) → choice_of source (over h t)
    ≡ behind_head h (choice_of source t)
choice_of-over None h t = refl
choice_of-over (Some source) h t = refl

and_then-over : (h : HeadWords) (next : TakenWords → Result Choice WordFault) (r : Result TakenWords WordFault) →
    ((t : TakenWords) → next (over h t) ≡ behind_head h (next t)) → and_then next (all_over h r) ≡ behind_head h (and_then next r)
and_then-over h next (Ok t) law = law t
and_then-over h next (Err refused) law = refl

-- words read over a head's choose over them what they choose alone
read_from-over : (words : List (List ℕ)) (h : HeadWords) (t : TakenWords) (place : ℕ) →
    read_from (over h t) place words ≡ behind_head h (read_from t place words)
read_from-over [] h t place = choice_of-over t.source h t
read_from-over (word ∷ words) h t place = ap (and_then (λ next. read_from next (place + 1) words)) (take_word-over h t place word)
    ∙ and_then-over h (λ next. read_from next (place + 1) words) (take_word t place word) (λ next. read_from-over words h next (place + 1))

-- Words of a head, followed by those of the command, choose from left to right as the command's words over the head's.
pub comes_first : (head words : List (List ℕ)) → ComesFirst head words
comes_first head words = read_from-over words (head_of head) no_words 0
