-- The objects and classes of a story, by the list of their declarations alone (Designer's Manual, fourth edition, sections 3.1 to 3.8). An
-- object or a class that was declared before is known by its number, a property by its number or by a number that stands for its name.
use Rattle.std.specs.Prelude.{ℕ, zero, suc, ◌+◌, ◌==◌, nat_eq, List, [], ◌∷◌, ◌++◌, length, map, option_map, reverse, Bool, not}
use Rattle.std.specs.Prelude.{◌&&◌, Option, Some, None, if◌then◌else◌}
use Rattle.std.specs.List.{filter_map, flat_map, list_any, position_or_len}
use Rattle.inf_area.specs.declared.targets.Value.{Value}

-- Definitions of declarations

pub data PropertyName : Type 0 where
  Declared : ℕ → PropertyName  -- by its number: 1 is `name`, 4 the first that the source declares
  Individual : ℕ → PropertyName  -- by a number that stands for its name

pub data Place : Type 0 where
  Arrows : ℕ → Place  -- `Nearby` is one
  Inside : ℕ → Place  -- the parent's number

-- One declaration: the classes that it names, the one that heads it first; each attribute that it gives (true) or takes away; and each
-- property that it gives, with its values. A class has no place.
pub record Declaration : Type 0 where
  pub is_class : Bool
  pub place : Place
  pub classes : List ℕ
  pub has : List (ℕ × Bool)
  pub with : List (PropertyName × List Value)

-- A thing that is declared: the properties have numbers here, and values from classes.
pub record Thing : Type 0 where
  pub is_class : Bool
  pub arrows : ℕ
  pub parent : ℕ
  pub classes : List ℕ
  pub has : ℕ → Bool
  pub properties : List (ℕ × List Value)

-- Numbers: the first declaration has number 5. Lists of things have the latest first.

abbrev pub contains : List ℕ → ℕ → Bool
contains numbers n = list_any (nat_eq n) numbers

-- each number where it comes first, without those that were seen before
abbrev pub distinct : List ℕ → List ℕ → List ℕ
distinct seen [] = []
distinct seen (n ∷ numbers) = if contains seen n then distinct seen numbers else n ∷ distinct (n ∷ seen) numbers

abbrev pub thing_at : ℕ → List Thing → Option Thing
thing_at number [] = None
thing_at number (t ∷ before) = if number == 5 + length before then Some t else thing_at number before

-- Individual properties have numbers from 64 on, in the order in which bodies first give them.

abbrev pub names_in : List (PropertyName × List Value) → List ℕ
names_in [] = []
names_in ((Declared n, values) ∷ with) = names_in with
names_in ((Individual name, values) ∷ with) = name ∷ names_in with

abbrev pub all_names : List Declaration → List ℕ
all_names declarations = distinct [] (flat_map (λ d. names_in d.with) declarations)

abbrev pub number_of : List ℕ → PropertyName → ℕ
number_of names (Declared n) = n
number_of names (Individual name) = 64 + position_or_len (nat_eq name) names

-- The tree: an object with arrows is a child of the latest object that has one arrow less, classes not counted; a class is a child of
-- `Class`, which is object 1.

abbrev pub latest : ℕ → List Thing → ℕ
latest arrows [] = 0
latest arrows (t ∷ before) = if not t.is_class && t.arrows == arrows then 5 + length before else latest arrows before

abbrev pub arrows_of : Place → ℕ
arrows_of (Arrows n) = n
arrows_of (Inside number) = 0

abbrev pub parent_by : Place → List Thing → ℕ
parent_by (Arrows zero) before = 0
parent_by (Arrows (suc n)) before = latest n before
parent_by (Inside number) before = number

-- Classes: those that are named, each with its own behind it, none twice. A class gives where it is named, but nothing where it came with
-- an earlier one.

abbrev pub classes_in : Option Thing → List ℕ
classes_in None = []
classes_in (Some class) = class.classes

abbrev pub with_own : List Thing → ℕ → List ℕ
with_own before c = c ∷ classes_in (thing_at c before)

abbrev pub and_given : Option Thing → List Thing → List Thing
and_given None others = others
and_given (Some class) others = class ∷ others

abbrev pub giving : List Thing → List ℕ → List ℕ → List Thing
giving before seen [] = []
giving before seen (c ∷ named) =
    if contains seen c then giving before seen named else and_given (thing_at c before) (giving before (with_own before c ++ seen) named)

-- Attributes: the last word of the body on one, and else whether a class has it

abbrev pub said : ℕ → Bool → List (ℕ × Bool) → Bool
said a above [] = above
said a above ((n, given) ∷ has) = said a (if n == a then given else above) has

-- Properties: the body's own, then those of its classes. An additive one has the values of all that give it, and any other those of the
-- first that does.

abbrev pub values_in : ℕ → List (ℕ × List Value) → Option (List Value)
values_in n [] = None
values_in n ((m, values) ∷ properties) = if m == n then Some values else values_in n properties

abbrev pub whole : Bool → List (List Value) → Option (List Value)
whole additive [] = None
whole additive (values ∷ others) = Some (if additive then flat_map (λ l. l) (values ∷ others) else values)

abbrev pub values_given : (ℕ → Bool) → List (List (ℕ × List Value)) → ℕ → Option (List Value)
values_given additive givers n = whole (additive n) (filter_map (values_in n) givers)

abbrev pub properties_of : (ℕ → Bool) → List (List (ℕ × List Value)) → List (ℕ × List Value)
properties_of additive givers =
    filter_map (λ n. option_map (λ values. (n, values)) (values_given additive givers n)) (distinct [] (flat_map (map (λ p. p.0)) givers))

-- Definitions of things as a whole

abbrev pub thing : (ℕ → Bool) → List ℕ → Declaration → List Thing → Thing
thing additive names d before = let above = giving before [] d.classes in record {
  is_class = d.is_class;
  arrows = if d.is_class then 0 else arrows_of d.place;
  parent = if d.is_class then 1 else parent_by d.place before;
  classes = distinct [] (flat_map (with_own before) d.classes);
  has = λ a. said a (list_any (λ c. c.has a) above) d.has;
  properties = properties_of additive (map (λ p. (number_of names p.0, p.1)) d.with ∷ map (λ c. c.properties) above);
}

abbrev pub made : (ℕ → Bool) → List ℕ → List Thing → List Declaration → List Thing
made additive names before [] = before
made additive names before (d ∷ declarations) = made additive names (thing additive names d before ∷ before) declarations

-- in the order of their numbers
abbrev pub things : (ℕ → Bool) → List Declaration → List Thing
things additive declarations = reverse (made additive (all_names declarations) [] declarations)
