-- The code does with its map as the definitions do with the list of names.
use Rattle.std.proofs.Common.{◌≡◌, ◌≤◌, ℕ, ◌+◌, Bool, true, false, cond, not, ltb, List, [], ◌∷◌, length, map, Option, None, Some, refl}
use Rattle.std.proofs.Common.{sym, ◌∙◌, ap, arith, zero, suc}
use Rattle.std.proofs.lemmas.Bool.Decides.{nat_tests}
use Rattle.std.specs.{Borrow.Bor, List.position_or_len, Map.keys_of, Map.lookup, Option.option_copied, Str.bytes_eq}
use Rattle.std.specs.Prelude.{is_some, nat_le, position, slice_get, option_map, if◌then◌else◌}
use Rattle.arrayvec.specs.declared.array_vec.ArrayVec.{ArrayVec}
use Rattle.indexmap.specs.IndexMap.{insert_entry}
use Rattle.inf_names.specs.{declared.meanings.Meaning.Meaning, declared.symbols.DeclareFault.DeclareFault, declared.symbols.Entry.Entry}
use Rattle.inf_names.specs.{declared.symbols.Found.Found, declared.symbols.ReferFault.ReferFault}
use Rattle.inf_names.specs.Entries.{as_named, standing}
use Rattle.inf_names.specs.Symbols.{Named, Standing, IsDeclared, IsUsed, Table, declarations, declare_fault_by, declare_refusal, found_as}
use Rattle.inf_names.specs.Symbols.{folded, index_of, number_among, number_by, put, refer_fault_by, refer_refusal, standing_at, standing_of}
use Rattle.inf_names.specs.Symbols.{with_used_by}

abbrev pub Key : Type 0
Key = ArrayVec ℕ 35 Unit

-- whether a stored name is `key`
abbrev pub has : List ℕ → Key → Bool
has key k = bytes_eq key k.items

pub standing_of-lookup : {P : Type 0} (key : List ℕ) (es : List (Key × Entry P)) →
    standing_of key (map as_named es) ≡ option_map standing (lookup (has key) es)
standing_of-lookup key [] = refl
standing_of-lookup key (e ∷ es) = go (bytes_eq key e.0.items) (standing_of-lookup key es) where
  go : (t : Bool) → standing_of key (map as_named es) ≡ option_map standing (lookup (has key) es) →
      cond t (Some (standing e.1)) (standing_of key (map as_named es)) ≡ option_map standing (cond t (Some e.1) (lookup (has key) es))
  go true later = refl
  go false later = later

pub standing_at-get : {P : Type 0} (n : ℕ) (es : List (Key × Entry P)) →
    standing_at n (map as_named es) ≡ option_map (λ e. standing e.1) (slice_get es n)
standing_at-get n [] = refl
standing_at-get zero (e ∷ es) = refl
standing_at-get (suc n) (e ∷ es) = standing_at-get n es

pub put-insert : {P : Type 0} (key : Key) (entry : Entry P) (es : List (Key × Entry P)) →
    map as_named (insert_entry (λ a b. bytes_eq a.items b.items) es key entry) ≡ put key.items (standing entry) (map as_named es)
put-insert key entry [] = refl
put-insert key entry (e ∷ es) = go (bytes_eq key.items e.0.items) (put-insert key entry es) where
  go : (t : Bool) → map as_named (insert_entry (λ a b. bytes_eq a.items b.items) es key entry) ≡ put key.items (standing entry)
      (map as_named es) → map as_named (cond t ((e.0, entry) ∷ es) (e ∷ insert_entry (λ a b. bytes_eq a.items b.items) es key entry)) ≡
      cond t (as_named (e.0, entry) ∷ map as_named es) (as_named e ∷ put key.items (standing entry) (map as_named es))
  go true later = refl
  go false later = ap (λ names. as_named e ∷ names) later

pub index_of-place : {P : Type 0} (key : List ℕ) (es : List (Key × Entry P)) →
    index_of key (map as_named es) ≡ position_or_len (has key) (keys_of es)
index_of-place key [] = refl
index_of-place key (e ∷ es) = go (bytes_eq key e.0.items) (index_of-place key es) where
  go : (t : Bool) → index_of key (map as_named es) ≡ position_or_len (has key) (keys_of es) →
      cond t 0 (index_of key (map as_named es) + 1) ≡ cond (not t) (1 + position_or_len (has key) (keys_of es)) 0
  go true later = refl
  go false later = omega arith

-- a name that is not there is put behind all others
pub index_of-absent : {P : Type 0} (key : List ℕ) (names : List (Named P)) → is_some (standing_of key names) ≡ false →
    index_of key names ≡ length names
index_of-absent key [] is = refl
index_of-absent key (n ∷ names) is = go (bytes_eq key n.name) is (index_of-absent key names) where
  go : (t : Bool) → is_some (cond t (Some n.standing) (standing_of key names)) ≡ false →
      (is_some (standing_of key names) ≡ false → index_of key names ≡ length names) → cond t 0 (index_of key names + 1) ≡ length (n ∷ names)
  go true is later = cc
  go false is later = omega (arith, later is)

-- whether a name's state is not that of a declared one
abbrev pub is_open : {P : Type 0} → Option (Standing P) → Bool
is_open None = true
is_open (Some (IsUsed spelling place)) = true
is_open (Some (IsDeclared number meaning place)) = false

-- the count of declared names grows by one where a name is declared
pub declarations-declared : {P : Type 0} (key : List ℕ) (number : ℕ) (meaning : Meaning) (place : P) (names : List (Named P)) →
    is_open (standing_of key names) ≡ true → declarations (put key (IsDeclared number meaning place) names) ≡ 1 + declarations names
declarations-declared key number meaning place [] is = refl
declarations-declared {P} key number meaning place (n ∷ names) is =
    go (bytes_eq key n.name) n.standing is (declarations-declared key number meaning place names)
  where
    go : (t : Bool) (s : Standing P) → is_open (cond t (Some s) (standing_of key names)) ≡ true →
        (is_open (standing_of key names) ≡ true → declarations (put key (IsDeclared number meaning place) names) ≡ 1 + declarations names)
        → declarations (cond t (record { name = n.name; standing = IsDeclared number meaning place } ∷ names)
        (record { name = n.name; standing = s } ∷ put key (IsDeclared number meaning place) names)) ≡ 1 + declarations
        (record { name = n.name; standing = s } ∷ names)
    go true (IsUsed spelling place) is later = refl
    go true (IsDeclared number meaning place) is later = cc
    go false (IsUsed spelling place) is later = later is
    go false (IsDeclared number meaning place) is later = omega (arith, later is)

-- the count of declared names stays where a new name is used
pub declarations-used : {P : Type 0} (key spelling : List ℕ) (place : P) (names : List (Named P)) →
    is_some (standing_of key names) ≡ false → declarations (put key (IsUsed spelling place) names) ≡ declarations names
declarations-used key spelling place [] is = refl
declarations-used {P} key spelling place (n ∷ names) is =
    go (bytes_eq key n.name) n.standing is (declarations-used key spelling place names)
  where
    go : (t : Bool) (s : Standing P) → is_some (cond t (Some s) (standing_of key names)) ≡ false →
        (is_some (standing_of key names) ≡ false → declarations (put key (IsUsed spelling place) names) ≡ declarations names)
        → declarations (cond t (record { name = n.name; standing = IsUsed spelling place } ∷ names)
        (record { name = n.name; standing = s } ∷ put key (IsUsed spelling place) names)) ≡ declarations
        (record { name = n.name; standing = s } ∷ names)
    go true s is later = cc
    go false (IsUsed spelling place) is later = later is
    go false (IsDeclared number meaning place) is later = ap (λ n. 1 + n) (later is)

pub declarations-few : {P : Type 0} (names : List (Named P)) → declarations names ≤ length names
declarations-few [] = omega arith
declarations-few {P} (n ∷ names) = go n.standing (declarations-few names) where
  go : (s : Standing P) → declarations names ≤ length names →
      declarations (record { name = n.name; standing = s } ∷ names) ≤ length (n ∷ names)
  go (IsUsed spelling place) few = omega (arith, few)
  go (IsDeclared number meaning place) few = omega (arith, few)

pub standing-copied : {P : Type 0} (r : Option (Bor (Entry P))) → option_map (λ e. standing e.now) r ≡ option_map standing (option_copied r)
standing-copied None = refl
standing-copied (Some e) = refl

-- the count of names grows by one where a name is new
pub length-put : {P : Type 0} (key : List ℕ) (s : Standing P) (names : List (Named P)) →
    length (put key s names) ≡ length names + cond (is_some (standing_of key names)) 0 1
length-put key s [] = refl
length-put key s (n ∷ names) = go (bytes_eq key n.name) (length-put key s names) where
  go : (t : Bool) → length (put key s names) ≡ length names + cond (is_some (standing_of key names)) 0 1 → length
      (cond t (record { name = n.name; standing = s } ∷ names) (n ∷ put key s names)) ≡ length (n ∷ names) + cond
      (is_some (cond t (Some n.standing) (standing_of key names))) 0 1
  go true later = omega arith
  go false later = omega (arith, later)

-- where a name has no fault it was not declared
pub open_where_fit : {P : Type 0} (system : Option Meaning) (s : Option (Standing P)) (full : Bool) →
    declare_fault_by (found_as system s) full ≡ None → is_open s ≡ true
open_where_fit system None full is = refl
open_where_fit system (Some (IsUsed spelling place)) full is = refl
open_where_fit system (Some (IsDeclared number meaning place)) full is = cc

pub room_where_fit : {P : Type 0} (system : Option Meaning) (s : Option (Standing P)) (full : Bool) →
    declare_fault_by (found_as system s) full ≡ None → is_some s ≡ false → full ≡ false
room_where_fit None None false is absent = refl
room_where_fit None None true is absent = cc
room_where_fit (Some meaning) None full is absent = cc
room_where_fit system (Some s) full is absent = cc

-- the names stay where a name that is known is used again
module _ {P : Type 0} (name : List ℕ) (place : P) (t : Table P) where
  pub known_used : (system : Option Meaning) (s : Option (Standing P)) → is_some s ≡ true →
      with_used_by (found_as system s) name place t ≡ t
  known_used system None is = cc
  known_used system (Some (IsUsed spelling first)) is = refl
  known_used system (Some (IsDeclared number meaning first)) is = refl

  pub known_number : (system : Option Meaning) (s : Option (Standing P)) → is_some s ≡ true →
      number_by (found_as system s) name t ≡ Some (index_of (folded name) t.names)
  known_number system None is = cc
  known_number system (Some (IsUsed spelling first)) is = refl
  known_number system (Some (IsDeclared number meaning first)) is = refl

  -- a new name that is used is put among the names
  pub new_used : (system : Option Meaning) (s : Option (Standing P)) → is_some system ≡ false → is_some s ≡ false →
      with_used_by (found_as system s) name place t ≡ record t { names = put (folded name) (IsUsed name place) t.names }
  new_used None None free absent = refl
  new_used (Some meaning) s free absent = cc
  new_used None (Some s) free absent = cc

  pub new_number : (system : Option Meaning) (s : Option (Standing P)) → is_some system ≡ false → is_some s ≡ false →
      number_by (found_as system s) name t ≡ Some (index_of (folded name) t.names)
  new_number None None free absent = refl
  new_number (Some meaning) s free absent = cc
  new_number None (Some s) free absent = cc

-- a name that the language lacks, and that was neither declared nor used, is unknown
pub unknown_where : {P : Type 0} (system : Option Meaning) (s : Option (Standing P)) → is_some system ≡ false → is_some s ≡ false →
    found_as system s ≡ Found.Unknown
unknown_where None None free absent = refl
unknown_where (Some meaning) s free absent = cc
unknown_where None (Some s) free absent = cc

-- a name that is not there is unknown where it has no fault
pub unknown_where_fit : {P : Type 0} (system : Option Meaning) (s : Option (Standing P)) (full : Bool) →
    declare_fault_by (found_as system s) full ≡ None → is_some s ≡ false → found_as system s ≡ Found.Unknown
unknown_where_fit None None full is absent = refl
unknown_where_fit (Some meaning) None full is absent = cc
unknown_where_fit system (Some s) full is absent = cc

-- want of memory is no fault that is found
pub never_lacks : {P : Type 0} (f : Found P) (full : Bool) → Some DeclareFault.Memory ≡ declare_fault_by f full → ⊥
never_lacks (Found.System meaning) full is = cc
never_lacks (Found.Declared meaning place) full is = cc
never_lacks Found.Used full is = cc
never_lacks Found.Unknown true is = cc
never_lacks Found.Unknown false is = cc

-- where want of memory is told, nothing is wrong with a name that is to be declared
pub fit_where_memory : {P : Type 0} (f : Found P) (full : Bool) → DeclareFault.Memory ≡ declare_refusal (declare_fault_by f full) →
    declare_fault_by f full ≡ None
fit_where_memory (Found.System meaning) full is = cc
fit_where_memory (Found.Declared meaning place) full is = cc
fit_where_memory Found.Used full is = refl
fit_where_memory Found.Unknown true is = cc
fit_where_memory Found.Unknown false is = refl

-- nor with one that is to be used
pub used_where_memory : {P : Type 0} (f : Found P) (full : Bool) → ReferFault.Memory ≡ refer_refusal (refer_fault_by f full) →
    refer_fault_by f full ≡ None
used_where_memory (Found.System meaning) full is = refl
used_where_memory (Found.Declared meaning place) full is = refl
used_where_memory Found.Used full is = refl
used_where_memory Found.Unknown true is = cc
used_where_memory Found.Unknown false is = refl

-- a key that a map lacks is that of no name
pub absent_key : {P : Type 0} (key : List ℕ) (es : List (Key × Entry P)) → lookup (has key) es ≡ None →
    is_some (standing_of key (map as_named es)) ≡ false
absent_key key es lacks = ap is_some (standing_of-lookup key es ∙ ap (option_map standing) lacks)

-- a number that was found is the number of a name
module _ {P : Type 0} (key : List ℕ) (names : List (Named P)) where
  pub numbered : (n : ℕ) → Some n ≡ number_among key names → (is_some (standing_of key names) ≡ true) × (n ≡ index_of key names)
  numbered n is = go (is_some (standing_of key names)) is where
    go : (t : Bool) → Some n ≡ cond t (Some (index_of key names)) None → (t ≡ true) × (n ≡ index_of key names)
    go true is = (refl, cc)
    go false is = cc

  pub not_numbered : None ≡ number_among key names → is_some (standing_of key names) ≡ false
  not_numbered is = go (is_some (standing_of key names)) is where
    go : (t : Bool) → None ≡ cond t (Some (index_of key names)) None → t ≡ false
    go true is = cc
    go false is = refl

-- a place that a search found is the first that passes
found_place : (n place len : ℕ) → Some n ≡ cond (ltb place len) (Some place) None → n ≡ place
found_place n place len is = go (ltb place len) is where
  go : (t : Bool) → Some n ≡ cond t (Some place) None → n ≡ place
  go true is = cc
  go false is = cc

is_some-option_map : {A B : Type 0} (f : A → B) (o : Option A) → is_some (option_map f o) ≡ is_some o
is_some-option_map f None = refl
is_some-option_map f (Some x) = refl

-- the place of a key is the number of its name
pub number_of_place : {P : Type 0} (key : List ℕ) (es : List (Key × Entry P)) (r : Option ℕ) → r ≡ position (has key) (keys_of es) →
    is_some r ≡ is_some (lookup (has key) es) → r ≡ number_among key (map as_named es)
number_of_place {P} key es r is same = go r is same where
  names : List (Named P)
  names = map as_named es

  known : is_some (standing_of key names) ≡ is_some (lookup (has key) es)
  known = ap is_some (standing_of-lookup key es) ∙ is_some-option_map standing (lookup (has key) es)

  go : (r : Option ℕ) → r ≡ position (has key) (keys_of es) → is_some r ≡ is_some (lookup (has key) es) → r ≡ number_among key names
  go None is same = sym (ap (λ t. cond t (Some (index_of key names)) None) (known ∙ sym same))
  go (Some n) is same = ap Some (found_place n _ _ is ∙ sym (index_of-place key es))
      ∙ sym (ap (λ t. cond t (Some (index_of key names)) None) (known ∙ sym same))

-- there are at most as many names as there may be, where a new one comes only if there is room
pub fits_behind : (limit len new : ℕ) (known : Bool) → len ≤ limit → new ≡ len + cond known 0 1 →
    (known ≡ false → nat_le limit len ≡ false) → new ≤ limit
fits_behind limit len new true within is room = omega (arith, within, is)
fits_behind limit len new false within is room =
    let below : nat_le limit len ≡ false = room refl in grind (arith, nat_tests, below, is)

-- the state of a name is found at its number
standing_at-index : {P : Type 0} (key : List ℕ) (names : List (Named P)) → is_some (standing_of key names) ≡ true →
    standing_at (index_of key names) names ≡ standing_of key names
standing_at-index key [] is = cc
standing_at-index {P} key (n ∷ names) is = go (bytes_eq key n.name) is (standing_at-index key names) where
  go : (t : Bool) → is_some (cond t (Some n.standing) (standing_of key names)) ≡ true →
      (is_some (standing_of key names) ≡ true → standing_at (index_of key names) names ≡ standing_of key names)
      → standing_at (cond t 0 (index_of key names + 1)) (n ∷ names) ≡ cond t (Some n.standing) (standing_of key names)
  go true known later = refl
  go false known later =
      let next : index_of key names + 1 ≡ suc (index_of key names) = omega arith in
      ap (λ k. standing_at k (n ∷ names)) next ∙ later known

found_known : {P : Type 0} (system : Option Meaning) (s : Option (Standing P)) → is_some s ≡ true → found_as None s ≡ found_as system s
found_known system None is = cc
found_known system (Some (IsUsed spelling place)) is = refl
found_known system (Some (IsDeclared number meaning place)) is = refl

some_same : (a b : ℕ) → Some a ≡ Some b → a ≡ b
some_same a b e = cc

pub found_at_number : {P : Type 0} (system : Option Meaning) (key : List ℕ) (names : List (Named P)) (number : ℕ) →
    Some number ≡ number_among key names → found_as None (standing_at number names) ≡ found_as system (standing_of key names)
found_at_number {P} system key names number is = go (is_some (standing_of key names)) refl is where
  go : (t : Bool) → is_some (standing_of key names) ≡ t → Some number ≡ (if t then Some (index_of key names) else None) →
      found_as None (standing_at number names) ≡ found_as system (standing_of key names)
  go true known same =
      let at : number ≡ index_of key names = some_same number (index_of key names) same in
      ap (λ k. found_as None (standing_at k names)) at ∙ ap (found_as None) (standing_at-index key names known)
      ∙ found_known system (standing_of key names) known
  go false known same = cc
