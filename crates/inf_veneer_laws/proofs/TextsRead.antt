-- The texts are read as the events of their trees, as evaluation shows.
use Rattle.std.proofs.Common.{◌≡◌, ℕ, [], ◌∷◌, Some, refl}
use Rattle.std.specs.Fmt.{digits}
use Rattle.inf_characters.specs.declared.characters.CharSet.{CharSet}
use Rattle.inf_machine.specs.Machine.{read}
use Rattle.inf_syntax.specs.declared.parts.names.TheConstants as Part
use Rattle.inf_grammar.specs.Language.{grammar, known}
use Rattle.inf_veneer_laws.specs.Events.{TextsAreRead, atoms_of, routine_events, text_atoms}
use Rattle.inf_veneer_laws.specs.Routines.{compare, count_children, find_own, of_class, property_address, property_length}
use Rattle.inf_veneer_laws.specs.Routines.{provides_property, read_property, region, step_byte, step_property, step_word, write_byte}
use Rattle.inf_veneer_laws.specs.Routines.{write_property, write_word}
use Rattle.inf_veneer_laws.specs.Sources.{Routine, routine_spelled}

abbrev HasTokens : Routine → Type 0
HasTokens r = (set : CharSet) (limit : ℕ) → text_atoms set limit (routine_spelled r) ≡ atoms_of (routine_events r)

abbrev HasEvents : Routine → Type 0
HasEvents r = read grammar known (Part.PIECE ∷ []) (atoms_of (routine_events r)) ≡ Some (record { events = routine_events r; left = [] })

write_byte_tokens : HasTokens write_byte
unfolding digits
write_byte_tokens CharSet.Ascii limit = refl
write_byte_tokens CharSet.Latin1 limit = refl

write_byte_events : HasEvents write_byte
unfolding grammar known
write_byte_events = refl

write_word_tokens : HasTokens write_word
unfolding digits
write_word_tokens CharSet.Ascii limit = refl
write_word_tokens CharSet.Latin1 limit = refl

write_word_events : HasEvents write_word
unfolding grammar known
write_word_events = refl

step_byte_tokens : HasTokens step_byte
unfolding digits
step_byte_tokens CharSet.Ascii limit = refl
step_byte_tokens CharSet.Latin1 limit = refl

step_byte_events : HasEvents step_byte
unfolding grammar known
step_byte_events = refl

step_word_tokens : HasTokens step_word
unfolding digits
step_word_tokens CharSet.Ascii limit = refl
step_word_tokens CharSet.Latin1 limit = refl

step_word_events : HasEvents step_word
unfolding grammar known
step_word_events = refl

count_children_tokens : HasTokens count_children
unfolding digits
count_children_tokens CharSet.Ascii limit = refl
count_children_tokens CharSet.Latin1 limit = refl

count_children_events : HasEvents count_children
unfolding grammar known
count_children_events = refl

write_property_tokens : HasTokens write_property
unfolding digits
write_property_tokens CharSet.Ascii limit = refl
write_property_tokens CharSet.Latin1 limit = refl

write_property_events : HasEvents write_property
unfolding grammar known
write_property_events = refl

step_property_tokens : HasTokens step_property
unfolding digits
step_property_tokens CharSet.Ascii limit = refl
step_property_tokens CharSet.Latin1 limit = refl

step_property_events : HasEvents step_property
unfolding grammar known
step_property_events = refl

provides_property_tokens : HasTokens provides_property
unfolding digits
provides_property_tokens CharSet.Ascii limit = refl
provides_property_tokens CharSet.Latin1 limit = refl

provides_property_events : HasEvents provides_property
unfolding grammar known
provides_property_events = refl

property_address_tokens : HasTokens property_address
unfolding digits
property_address_tokens CharSet.Ascii limit = refl
property_address_tokens CharSet.Latin1 limit = refl

property_address_events : HasEvents property_address
unfolding grammar known
property_address_events = refl

property_length_tokens : HasTokens property_length
unfolding digits
property_length_tokens CharSet.Ascii limit = refl
property_length_tokens CharSet.Latin1 limit = refl

property_length_events : HasEvents property_length
unfolding grammar known
property_length_events = refl

read_property_tokens : HasTokens read_property
unfolding digits
read_property_tokens CharSet.Ascii limit = refl
read_property_tokens CharSet.Latin1 limit = refl

read_property_events : HasEvents read_property
unfolding grammar known
read_property_events = refl

find_own_tokens : HasTokens find_own
unfolding digits
find_own_tokens CharSet.Ascii limit = refl
find_own_tokens CharSet.Latin1 limit = refl

find_own_events : HasEvents find_own
unfolding grammar known
find_own_events = refl

compare_tokens : HasTokens compare
unfolding digits
compare_tokens CharSet.Ascii limit = refl
compare_tokens CharSet.Latin1 limit = refl

compare_events : HasEvents compare
unfolding grammar known
compare_events = refl

region_tokens : HasTokens region
unfolding digits
region_tokens CharSet.Ascii limit = refl
region_tokens CharSet.Latin1 limit = refl

region_events : HasEvents region
unfolding grammar known
region_events = refl

of_class_tokens : HasTokens of_class
unfolding digits
of_class_tokens CharSet.Ascii limit = refl
of_class_tokens CharSet.Latin1 limit = refl

of_class_events : HasEvents of_class
unfolding grammar known
of_class_events = refl

pub texts_are_read : TextsAreRead
texts_are_read = (
  record { tokens = write_byte_tokens; events = write_byte_events },
  record { tokens = write_word_tokens; events = write_word_events },
  record { tokens = step_byte_tokens; events = step_byte_events },
  record { tokens = step_word_tokens; events = step_word_events },
  record { tokens = count_children_tokens; events = count_children_events },
  record { tokens = write_property_tokens; events = write_property_events },
  record { tokens = step_property_tokens; events = step_property_events },
  record { tokens = provides_property_tokens; events = provides_property_events },
  record { tokens = property_address_tokens; events = property_address_events },
  record { tokens = property_length_tokens; events = property_length_events },
  record { tokens = read_property_tokens; events = read_property_events },
  record { tokens = find_own_tokens; events = find_own_events },
  record { tokens = compare_tokens; events = compare_events },
  record { tokens = region_tokens; events = region_events },
  record { tokens = of_class_tokens; events = of_class_events },
)
