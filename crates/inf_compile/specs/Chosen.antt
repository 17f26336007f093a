-- The choices of a command's words, over those of the head of the main source.
use Rattle.std.specs.Prelude.{ℕ, List, [], unwrap_or}
use Rattle.inf_devices.specs.Files.{Sources}
use Rattle.inf_letters.specs.Letters.{set_of}
use Rattle.inf_lexer.specs.Heads.{WholeHead, whole_head}
use Rattle.inf_scanner.specs.Lines.{first_line}
use Rattle.inf_sources.specs.{Choosing.nesting_chosen, Heading.head_in, Heading.past_head, Inclusions.Nesting}
use Rattle.inf_session.specs.{Choices.Choices, Choices.most_quoted, Session.State, Session.first_state}
use Rattle.inf_command.specs.{Directories.directories_of, Heads.head_of, Heads.with_head, Spoken.settings_of, Words.Choice}

-- the choices of words for the reading
abbrev pub by_words : Choice → Choices
by_words c = record { letters = c.letters; settings = settings_of c.settings; directories = directories_of c.path }

-- the choices of words over those of a head: on each matter of which the words say nothing, the head has the say
abbrev pub chosen_over : WholeHead → Choice → Choices
chosen_over head c = by_words (with_head (head_of head.words) c)

-- the head of the main source of a name, which has no words where it is not there
abbrev pub main_head : Sources → List ℕ → WholeHead
main_head sources name = whole_head first_line (unwrap_or (sources name) [])

-- the choices for the main source of a name
abbrev pub chosen_for : Sources → List ℕ → Choice → Choices
chosen_for sources name c = chosen_over (main_head sources name) c

-- the choices where these files are open, of which nothing was read yet
abbrev pub chosen_at : Nesting → Choice → Choices
chosen_at n c = chosen_over (head_in n.cursor) c

-- The files are then read from behind the head, as was chosen.
abbrev pub read_as : Choices → Nesting → Nesting
read_as o n = nesting_chosen (set_of o.letters) (most_quoted o) (past_head n)

-- the state in which reading begins there, where these messages were written
abbrev pub begun_at : Nesting → Choice → List ℕ → State
begun_at n c told = first_state (chosen_at n c) (read_as (chosen_at n c) n) told
