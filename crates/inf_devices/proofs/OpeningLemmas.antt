-- Files in memory and the openings that they state.
use Rattle.std.proofs.Common.{◌≡◌, ℕ, zero, suc, ◌-◌, ◌<◌, ◌≤◌, List, [], ◌∷◌, ◌++◌, length, map, take, drop, get_or, Bool, true, false}
use Rattle.std.proofs.Common.{cond, Option, Some, None, String, Vec, Global, Bor, unwrap_or, arith, add-zero, append_assoc, ap, refl, sym}
use Rattle.std.proofs.Common.{◌∙◌, BTreeMap, option_copied, option_map, is_eq, nat_cmp, string_bytes, slice_set}
use Rattle.std.proofs.{Math.Dec.eqb-suc-zero, Math.Seq.take-add, Math.Seq.take-length, Math.Seq.take-suc, lemmas.List.Elements.All-append}
use Rattle.std.proofs.{lemmas.List.Elements.All-set, lemmas.Option.slice_get-get_or, lemmas.Option.slice_get-map}
use Rattle.std.proofs.lemmas.List.{map-append, length-map, map-set, length-append, length-set, length-take, length-drop, take-append-drop}
use Rattle.std.proofs.lemmas.List.{nil_from_length}
use Rattle.std.specs.{BTreeMap.get_by_text, Cmp.Lexicographic.slice_cmp, Map.lookup, Option.is_some}
use Rattle.inf_devices.specs.declared.memory_files.Opened.{Opened}
use Rattle.inf_devices.specs.Files.{Sources, opened, GivesNext, GivesInnermost, after_bytes}
use Rattle.inf_devices.specs.MemoryFiles.{kept_in, sources_of, opening_of, openings_of, given_more, IsOpening, AreOpenings}

at_first : (key : Bool) (bytes : Vec ℕ Global) (found : Option (Vec ℕ Global)) (listed : Option (List ℕ))
    → listed ≡ option_map (λ v. v.items) found
    → cond key (Some bytes.items) listed ≡ option_map (λ v. v.items) (cond key (Some bytes) found)
at_first true bytes found listed same = refl
at_first false bytes found listed same = same

listed_is_found : (entries : List (String Global × Vec ℕ Global)) (name : List ℕ)
    → sources_of (map (λ e. (string_bytes e.0, e.1.items)) entries) name
    ≡ option_map (λ v. v.items) (lookup (λ key. is_eq (slice_cmp nat_cmp name (string_bytes key))) entries)
listed_is_found [] name = refl
listed_is_found (e ∷ entries) name = at_first (is_eq (slice_cmp nat_cmp name (string_bytes e.0))) e.1 _ _ (listed_is_found entries name)

-- a source is found in the list of the entries as in the map
pub sources_of-kept_in : (sources : BTreeMap (String Global) (Vec ℕ Global)) (name : List ℕ)
    → sources_of (kept_in sources) name ≡ option_map (λ v. v.items) (get_by_text sources name)
sources_of-kept_in sources name = listed_is_found sources.entries name

-- The bytes that a look-up found are a source.
pub source_found : (sources : BTreeMap (String Global) (Vec ℕ Global)) (name : List ℕ) (bytes : Vec ℕ Global)
    → get_by_text sources name ≡ Some bytes → sources_of (kept_in sources) name ≡ Some bytes.items
source_found sources name bytes found = sources_of-kept_in sources name ∙ ap (option_map (λ v. v.items)) found

-- a name that the map lacks has no source
pub source_missed : (sources : BTreeMap (String Global) (Vec ℕ Global)) (name : List ℕ)
    → get_by_text sources name ≡ None → sources_of (kept_in sources) name ≡ None
source_missed sources name missed = sources_of-kept_in sources name ∙ ap (option_map (λ v. v.items)) missed

-- a source that is there is found, and the look-up gives its bytes
pub source_got : (sources : BTreeMap (String Global) (Vec ℕ Global)) (name asked whole : List ℕ) (found : Option (Bor (Vec ℕ Global)))
    → sources_of (kept_in sources) name ≡ Some whole → asked ≡ name → option_copied found ≡ get_by_text sources asked
    → (bytes : Bor (Vec ℕ Global)) × (found ≡ Some bytes) × (bytes.now.items ≡ whole)
source_got sources name asked whole None there same got =
    let missed : sources_of (kept_in sources) asked ≡ None = source_missed sources asked (sym got) in
    absurd (none_is_not_some whole (sym missed ∙ ap (sources_of (kept_in sources)) same ∙ there))
  where
    none_is_not_some : (w : List ℕ) → None ≡ Some w → ⊥
    none_is_not_some w e = cc
source_got sources name asked whole (Some bytes) there same got =
    let found : sources_of (kept_in sources) asked ≡ Some bytes.now.items = source_found sources asked bytes.now (sym got) in
    (bytes, refl, some_same bytes.now.items whole (sym found ∙ ap (sources_of (kept_in sources)) same ∙ there))
  where
    some_same : (x y : List ℕ) → Some x ≡ Some y → x ≡ y
    some_same x y e = cc

pub source_taken : (sources : BTreeMap (String Global) (Vec ℕ Global)) (name asked whole : List ℕ) (found : Option (Bor (Vec ℕ Global)))
    (bytes : Bor (Vec ℕ Global))
    → sources_of (kept_in sources) name ≡ Some whole → asked ≡ name → option_copied found ≡ get_by_text sources asked
    → found ≡ Some bytes → bytes.now.items ≡ whole
source_taken sources name asked whole found bytes there same got is =
    let g = source_got sources name asked whole found there same got in
    let e : g.0 ≡ bytes = some_same g.0 bytes (sym g.1 ∙ is) in
    sym (ap (λ (b : Bor (Vec ℕ Global)). b.now.items) e) ∙ g.2
  where
    some_same : (x y : Bor (Vec ℕ Global)) → Some x ≡ Some y → x ≡ y
    some_same x y e = cc

-- Records with one more, of the source that is open then, are records of openings, too.
pub AreOpenings-opened : (sources : Sources) (opened : List Opened) (places : List ℕ) (o : Opened)
    → AreOpenings sources opened places → IsOpening sources o → AreOpenings sources (opened ++ o ∷ []) (places ++ length opened ∷ [])
AreOpenings-opened sources opened places o are is = record {
  each = All-append (IsOpening sources) opened (o ∷ []) are.each (λ k d lt. let e : k ≡ 0 = omega arith in rw e is);
  open_ones = All-append (λ place. place < length (opened ++ o ∷ [])) places (length opened ∷ [])
      (λ k d lt. omega (arith, are.open_ones k d lt, length-append opened (o ∷ [])))
      (λ k d lt. let e : k ≡ 0 = omega arith in rw e (omega (arith, length-append opened (o ∷ []))));
}

-- A new record is read as an opening without a byte.
pub openings_of-opened : (sources : Sources) (opens : List Opened) (places : List ℕ) (o : Opened) → o.given ≡ 0 → o.is_read_out ≡ false
    → openings_of sources (opens ++ o ∷ []) (places ++ length opens ∷ []) ≡ record {
      all = map (opening_of sources) opens ++ opened (string_bytes o.name) ∷ [];
      open_places = places ++ length (map (opening_of sources) opens) ∷ [];
    }
openings_of-opened sources opens places o none unread =
    rw (map-append (opening_of sources) opens (o ∷ []), length-map opens (opening_of sources), none, unread)

-- A record is still one after `count` more of the bytes that are left of its source.
pub IsOpening-given : (sources : Sources) (o : Opened) (count : ℕ) → IsOpening sources o
    → count ≤ length (drop o.given (unwrap_or (sources (string_bytes o.name)) [])) → IsOpening sources (given_more o count)
IsOpening-given sources o count is left = record {
  whole = is.whole;
  is_source = is.is_source;
  within = omega (arith, is.within, (rw (is.is_source, length-drop o.given is.whole) at left));
}

pub AreOpenings-given : (sources : Sources) (opened : List Opened) (places : List ℕ) (place : ℕ) (o : Opened)
    → AreOpenings sources opened places → IsOpening sources o → AreOpenings sources (slice_set opened place o) places
AreOpenings-given sources opened places place o are is = record {
  each = All-set (IsOpening sources) opened place o is are.each;
  open_ones = λ k d lt. omega (arith, are.open_ones k d lt, length-set opened place o);
}

-- A source is absent where the test for its name says no.
pub source_absent : (sources : BTreeMap (String Global) (Vec ℕ Global)) (name : List ℕ)
    → is_some (get_by_text sources name) ≡ false → sources_of (kept_in sources) name ≡ None
source_absent sources name lacks = source_missed sources name (none_then (get_by_text sources name) lacks) where
  none_then : (o : Option (Vec ℕ Global)) → is_some o ≡ false → o ≡ None
  none_then None lacks = refl
  none_then (Some v) lacks = cc

pub source_present : (sources : BTreeMap (String Global) (Vec ℕ Global)) (name : List ℕ)
    → is_some (get_by_text sources name) ≡ true → (whole : List ℕ) × (sources_of (kept_in sources) name ≡ Some whole)
source_present sources name has =
    let there = some_then (get_by_text sources name) has in
    (there.0.items, source_found sources name there.0 there.1)
  where
    some_then : (o : Option (Vec ℕ Global)) → is_some o ≡ true → (v : Vec ℕ Global) × (o ≡ Some v)
    some_then None has = cc
    some_then (Some v) has = (v, refl)

-- the bytes that are left of an opened source
abbrev pub left_of : Sources → Opened → List ℕ
left_of sources o = drop o.given (unwrap_or (sources (string_bytes o.name)) [])

after_some : (given : List ℕ) (name : List ℕ) (read_out : Bool) (bytes : List ℕ) → 0 < length bytes
    → after_bytes (record { name = name; given = given; is_read_out = read_out }) bytes ≡
    record { name = name; given = given ++ bytes; is_read_out = read_out }
after_some given name read_out [] some = absurd (omega arith)
after_some given name read_out (b ∷ bytes) some = refl

-- The opening of a record with `count` more bytes given is its opening before, with those bytes read.
opening_of-given : (sources : Sources) (o : Opened) (count : ℕ) → count ≤ length (left_of sources o)
    → opening_of sources (given_more o count) ≡ after_bytes (opening_of sources o) (take count (left_of sources o))
opening_of-given sources o zero enough = rw add-zero
opening_of-given sources o (suc n) enough =
    let whole = unwrap_or (sources (string_bytes o.name)) [] in
    let some : 0 < length (take (suc n) (left_of sources o)) = simp length-take (omega arith) in
    rw (take-add o.given (suc n) whole, eqb-suc-zero n)
    (sym (after_some (take o.given whole) (string_bytes o.name) o.is_read_out (take (suc n) (left_of sources o)) some))

-- the bytes that are left come next
gives_next : (sources : Sources) (o : Opened) (count : ℕ) (bytes : List ℕ) → IsOpening sources o
    → count ≤ length (left_of sources o) → (count ≡ 0 → length (left_of sources o) ≡ 0) → bytes ≡ take count (left_of sources o)
    → GivesNext sources (opening_of sources o) bytes
gives_next sources o count bytes is enough end_only are_bytes = record {
  whole = unwrap_or (sources (string_bytes o.name)) [];
  rest = drop count (left_of sources o);
  is_source = rw is.is_source;
  in_order = rw (are_bytes, append_assoc, take-append-drop count (left_of sources o))
      (sym (take-append-drop o.given (unwrap_or (sources (string_bytes o.name)) [])));
  end_only = λ none.
      let taken : length (take count (left_of sources o)) ≡ 0 = ap length (sym are_bytes ∙ none) in
      let count_none : count ≡ 0 = omega (arith, enough, simp length-take at taken) in
      nil_from_length _ (simp length-drop (omega (arith, simp length-drop at (end_only count_none))));
}

-- the innermost place is among the records, and its record is of a source
pub place_within : (sources : Sources) (opens : List Opened) (places : List ℕ) → AreOpenings sources opens places
    → 0 < length places → (place : ℕ) → place ≡ get_or places (length places - 1) 0 → place < length opens
place_within sources opens places are some place last = rw last (are.open_ones (length places - 1) 0 (omega arith))

pub is_opening : (sources : Sources) (opens : List Opened) (places : List ℕ) → AreOpenings sources opens places
    → (place : ℕ) (o : Opened) → place < length opens → o ≡ get_or opens place o → IsOpening sources o
is_opening sources opens places are place o within at = rw at (are.each place o within)

-- a read of the innermost source
pub gives_innermost : (sources : Sources) (opens : List Opened) (places : List ℕ) (place : ℕ) (o : Opened) (count : ℕ) (bytes : List ℕ)
    → 0 < length places → place ≡ get_or places (length places - 1) 0 → place < length opens → o ≡ get_or opens place o → IsOpening sources
    o → count ≤ length (left_of sources o) → (count ≡ 0 → length (left_of sources o) ≡ 0) → bytes ≡ take count (left_of sources o)
    → GivesInnermost sources (openings_of sources opens places) (openings_of sources (slice_set opens place (given_more o count)) places)
    bytes
gives_innermost sources opens places place o count bytes some last within at is enough end_only are_bytes = record {
  outer = take (length places - 1) places;
  place = place;
  before = opening_of sources o;
  innermost = up_to_last places place some last;
  was_opened = slice_get-map (opening_of sources) opens place
      ∙ ap (option_map (opening_of sources)) (slice_get-get_or opens place o within ∙ ap Some (sym at));
  gives = gives_next sources o count bytes is enough end_only are_bytes;
  after = rw (are_bytes, ← opening_of-given sources o count enough, map-set (opening_of sources) opens place (given_more o count));
} where
  up_to_last : (places : List ℕ) (place : ℕ) → 0 < length places → place ≡ get_or places (length places - 1) 0
      → places ≡ take (length places - 1) places ++ place ∷ []
  up_to_last places place some last =
      let before : length places - 1 < length places = omega arith in
      let whole : suc (length places - 1) ≡ length places = omega arith in
      sym (take-length places) ∙ ap (λ n. take n places) (sym whole) ∙ take-suc places (length places - 1) 0 before ∙ rw last
