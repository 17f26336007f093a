-- The expressions of the routines are covered, one by one.
use Rattle.std.proofs.Common.{refl, inl, lit≤}
use Rattle.inf_veneer_laws.specs.{Covered.IsCovered, Covered.RoutinesAreCovered, Running.Numbers}
use Rattle.inf_veneer_laws.specs.Routines.{compare, count_children, find_own, of_class, property_address, property_length}
use Rattle.inf_veneer_laws.specs.Routines.{provides_property, read_property, region, step_byte, step_property, step_word, write_byte}
use Rattle.inf_veneer_laws.specs.Routines.{write_property, write_word}

write_byte_covered : (numbers : Numbers) → IsCovered numbers write_byte
write_byte_covered numbers = (((refl, tt), (tt, tt, tt), tt), tt)

write_word_covered : (numbers : Numbers) → IsCovered numbers write_word
write_word_covered numbers = (((refl, tt), (tt, tt, tt), tt), tt)

step_byte_covered : (numbers : Numbers) → IsCovered numbers step_byte
step_byte_covered numbers = ((tt, tt, (tt, tt, tt)), (((refl, tt), (tt, tt, tt), (tt, tt, tt)), ((tt, (tt, tt, tt)), tt)))

step_word_covered : (numbers : Numbers) → IsCovered numbers step_word
step_word_covered numbers = ((tt, tt, (tt, tt, tt)), (((refl, tt), (tt, tt, tt), (tt, tt, tt)), ((tt, (tt, tt, tt)), tt)))

count_children_covered : (numbers : Numbers) → IsCovered numbers count_children
count_children_covered numbers = ((tt, tt, (tt, tt)), ((tt, ((tt, tt), (tt, tt, (tt, tt)))), tt))

write_property_covered : (numbers : Numbers) → IsCovered numbers write_property
write_property_covered numbers = ((tt, tt, (refl, tt, tt)), ((tt, ((refl, tt), (tt, tt, tt), tt)), tt))

step_property_covered : (numbers : Numbers) → IsCovered numbers step_property
step_property_covered numbers = (
  (tt, tt, (refl, tt, tt)),
  (((refl, lit≤ tt), tt, (tt, tt, (tt, tt, (tt, tt, tt)))), ((tt, (tt, tt, tt)), tt)),
)

provides_property_covered : (numbers : Numbers) → IsCovered numbers provides_property
provides_property_covered numbers = ((tt, inl (lit≤ tt)), ((refl, lit≤ tt), tt, (tt, tt, tt)), tt)

property_address_covered : (numbers : Numbers) → IsCovered numbers property_address
property_address_covered numbers = (
  (((tt, inl (lit≤ tt)), tt, tt), (tt, tt)),
  ((tt, tt, ((refl, lit≤ tt), tt, (tt, tt, tt))), ((tt, (tt, tt, tt)), tt)),
)

property_length_covered : (numbers : Numbers) → IsCovered numbers property_length
property_length_covered numbers = (
  (((tt, inl (lit≤ tt)), tt, tt), (tt, ((((tt, inl (lit≤ tt)), tt, tt), tt), (tt, tt)))),
  ((tt, tt, ((refl, lit≤ tt), tt, (tt, tt, tt))), ((tt, (tt, tt, tt)), tt)),
)

read_property_covered : (numbers : Numbers) → IsCovered numbers read_property
read_property_covered numbers = (
  (((tt, inl (lit≤ tt)), tt, tt), (tt, tt)),
  ((tt, tt, ((refl, lit≤ tt), tt, (tt, tt, tt))), ((((tt, inl (lit≤ tt)), tt, tt), tt), (tt, (tt, tt, tt), tt))),
)

find_own_covered : (numbers : Numbers) → IsCovered numbers find_own
find_own_covered numbers = (
  tt,
  (
    (((tt, inl (lit≤ tt)), tt, tt), tt),
    (
      (tt, tt, (tt, tt, tt)),
      (((tt, tt, tt), ((((tt, inl (lit≤ tt)), (tt, tt, tt), tt), (tt, tt, tt)), (tt, tt, (tt, (tt, tt, tt), (tt, tt, tt))))), tt),
    ),
  ),
)

compare_covered : (numbers : Numbers) → IsCovered numbers compare
compare_covered numbers = (
  (((tt, inl (lit≤ tt)), tt, tt), tt),
  (
    ((tt, ((tt, inl (lit≤ tt)), tt, tt), ((tt, inl (lit≤ tt)), tt, tt)), tt),
    (((tt, ((tt, inl (lit≤ tt)), tt, tt), ((tt, inl (lit≤ tt)), tt, tt)), tt), ((((tt, inl (lit≤ tt)), tt, tt), tt), tt)),
  ),
)

region_covered : (numbers : Numbers) → IsCovered numbers region
region_covered numbers = (
  (((tt, inl (lit≤ tt)), tt, tt), tt),
  (
    (((tt, inl (lit≤ tt)), ((refl, lit≤ tt), tt, (tt, tt, tt)), tt), tt),
    (
      (((tt, inl (lit≤ tt)), ((refl, lit≤ tt), tt, (tt, tt, tt)), tt), tt),
      ((((tt, inl (lit≤ tt)), ((refl, lit≤ tt), tt, (tt, tt, tt)), tt), tt), tt),
    ),
  ),
)

of_class_covered : (numbers : Numbers) → IsCovered numbers of_class
of_class_covered numbers = (
  (tt, tt, ((refl, lit≤ tt), tt, tt)),
  (
    (((tt, inl (lit≤ tt)), tt, tt), tt),
    (
      (((tt, inl (lit≤ tt)), tt, tt), ((tt, inl (lit≤ tt)), tt, (tt, tt, tt))),
      (
        (tt, tt, (tt, ((tt, inl (lit≤ tt)), (tt, tt), tt), ((tt, inl (lit≤ tt)), tt, tt))),
        (
          (((tt, inl (lit≤ tt)), tt, tt), tt),
          (
            (((tt, inl (lit≤ tt)), tt, tt), ((tt, inl (lit≤ tt)), tt, tt)),
            (
              tt,
              (
                (((tt, inl (lit≤ tt)), tt, tt), tt),
                (
                  tt,
                  (
                    (tt, tt, (tt, tt, tt)),
                    (((tt, tt, tt), ((tt, inl (lit≤ tt)), tt, tt), (tt, tt), (((tt, inl (lit≤ tt)), (tt, tt, tt), tt), tt)), tt),
                  ),
                ),
              ),
            ),
          ),
        ),
      ),
    ),
  ),
)

pub routines_are_covered : RoutinesAreCovered
routines_are_covered numbers = (
  write_byte_covered numbers,
  write_word_covered numbers,
  step_byte_covered numbers,
  step_word_covered numbers,
  count_children_covered numbers,
  write_property_covered numbers,
  step_property_covered numbers,
  provides_property_covered numbers,
  property_address_covered numbers,
  property_length_covered numbers,
  read_property_covered numbers,
  find_own_covered numbers,
  compare_covered numbers,
  region_covered numbers,
  of_class_covered numbers,
)
