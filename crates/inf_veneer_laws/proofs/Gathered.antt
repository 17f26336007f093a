-- The trees are gathered, as evaluation shows.
use Rattle.std.proofs.Common.{refl}
use Rattle.std.specs.Fmt.{digits}
use Rattle.inf_characters.specs.declared.characters.CharSet.{CharSet}
use Rattle.inf_unit.specs.Units.{next_place, order}
use Rattle.inf_veneer_laws.specs.Gathered.{IsGathered, TreesAreGathered}
use Rattle.inf_veneer_laws.specs.Routines.{compare, count_children, find_own, of_class, property_address, property_length}
use Rattle.inf_veneer_laws.specs.Routines.{provides_property, read_property, region, step_byte, step_property, step_word, write_byte}
use Rattle.inf_veneer_laws.specs.Routines.{write_property, write_word}

write_byte_gathered : IsGathered write_byte
unfolding digits next_place order
write_byte_gathered CharSet.Ascii limit numbers = (refl, refl)
write_byte_gathered CharSet.Latin1 limit numbers = (refl, refl)

write_word_gathered : IsGathered write_word
unfolding digits next_place order
write_word_gathered CharSet.Ascii limit numbers = (refl, refl)
write_word_gathered CharSet.Latin1 limit numbers = (refl, refl)

step_byte_gathered : IsGathered step_byte
unfolding digits next_place order
step_byte_gathered CharSet.Ascii limit numbers = (refl, (refl, ((refl, refl), refl)))
step_byte_gathered CharSet.Latin1 limit numbers = (refl, (refl, ((refl, refl), refl)))

step_word_gathered : IsGathered step_word
unfolding digits next_place order
step_word_gathered CharSet.Ascii limit numbers = (refl, (refl, ((refl, refl), refl)))
step_word_gathered CharSet.Latin1 limit numbers = (refl, (refl, ((refl, refl), refl)))

count_children_gathered : IsGathered count_children
unfolding digits next_place order
count_children_gathered CharSet.Ascii limit numbers = (refl, ((refl, (refl, refl)), refl))
count_children_gathered CharSet.Latin1 limit numbers = (refl, ((refl, (refl, refl)), refl))

write_property_gathered : IsGathered write_property
unfolding digits next_place order
write_property_gathered CharSet.Ascii limit numbers = (refl, ((refl, refl), refl))
write_property_gathered CharSet.Latin1 limit numbers = (refl, ((refl, refl), refl))

step_property_gathered : IsGathered step_property
unfolding digits next_place order
step_property_gathered CharSet.Ascii limit numbers = (refl, (refl, ((refl, refl), refl)))
step_property_gathered CharSet.Latin1 limit numbers = (refl, (refl, ((refl, refl), refl)))

provides_property_gathered : IsGathered provides_property
unfolding digits next_place order
provides_property_gathered CharSet.Ascii limit numbers = refl
provides_property_gathered CharSet.Latin1 limit numbers = refl

property_address_gathered : IsGathered property_address
unfolding digits next_place order
property_address_gathered CharSet.Ascii limit numbers = ((refl, (tt, refl)), (refl, ((refl, refl), tt)))
property_address_gathered CharSet.Latin1 limit numbers = ((refl, (tt, refl)), (refl, ((refl, refl), tt)))

property_length_gathered : IsGathered property_length
unfolding digits next_place order
property_length_gathered CharSet.Ascii limit numbers = ((refl, (tt, ((refl, tt), (tt, refl)))), (refl, ((refl, refl), tt)))
property_length_gathered CharSet.Latin1 limit numbers = ((refl, (tt, ((refl, tt), (tt, refl)))), (refl, ((refl, refl), tt)))

read_property_gathered : IsGathered read_property
unfolding digits next_place order
read_property_gathered CharSet.Ascii limit numbers = ((refl, (tt, refl)), (refl, ((refl, tt), refl)))
read_property_gathered CharSet.Latin1 limit numbers = ((refl, (tt, refl)), (refl, ((refl, tt), refl)))

find_own_gathered : IsGathered find_own
unfolding digits next_place order
find_own_gathered CharSet.Ascii limit numbers = (tt, ((refl, tt), (refl, ((refl, ((refl, refl), refl)), tt))))
find_own_gathered CharSet.Latin1 limit numbers = (tt, ((refl, tt), (refl, ((refl, ((refl, refl), refl)), tt))))

compare_gathered : IsGathered compare
unfolding digits next_place order
compare_gathered CharSet.Ascii limit numbers = ((refl, refl), ((refl, refl), ((refl, refl), ((refl, refl), refl))))
compare_gathered CharSet.Latin1 limit numbers = ((refl, refl), ((refl, refl), ((refl, refl), ((refl, refl), refl))))

region_gathered : IsGathered region
unfolding digits next_place order
region_gathered CharSet.Ascii limit numbers = ((refl, tt), ((refl, refl), ((refl, refl), ((refl, refl), tt))))
region_gathered CharSet.Latin1 limit numbers = ((refl, tt), ((refl, refl), ((refl, refl), ((refl, refl), tt))))

of_class_gathered : IsGathered of_class
unfolding digits next_place order
of_class_gathered CharSet.Ascii limit numbers = (
  refl,
  (
    (refl, tt),
    ((refl, refl), (refl, ((refl, refl), ((refl, refl), (tt, ((refl, tt), (tt, (refl, ((refl, refl, refl, (refl, tt)), tt))))))))),
  ),
)
of_class_gathered CharSet.Latin1 limit numbers = (
  refl,
  (
    (refl, tt),
    ((refl, refl), (refl, ((refl, refl), ((refl, refl), (tt, ((refl, tt), (tt, (refl, ((refl, refl, refl, (refl, tt)), tt))))))))),
  ),
)

pub trees_are_gathered : TreesAreGathered
trees_are_gathered = (
  write_byte_gathered,
  write_word_gathered,
  step_byte_gathered,
  step_word_gathered,
  count_children_gathered,
  write_property_gathered,
  step_property_gathered,
  provides_property_gathered,
  property_address_gathered,
  property_length_gathered,
  read_property_gathered,
  find_own_gathered,
  compare_gathered,
  region_gathered,
  of_class_gathered,
)
