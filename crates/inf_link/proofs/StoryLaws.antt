-- The length and the sum that a story's header says, and the places of its areas.
use Rattle.std.proofs.Common.{◌≡◌, ◌∙◌, ℕ, ◌+◌, ◌/◌, ◌%◌, List, [], ◌∷◌, ◌++◌, Bool, true, false, if◌then◌else◌, length, take, drop, sum}
use Rattle.std.proofs.Common.{refl, ap, sym, subst, arith, append_assoc, length-append, replicate}
use Rattle.std.proofs.lemmas.List.{length-replicate, take_at, drop_at}
use Rattle.inf_area.specs.{Words.word, declared.scale.Scale.Scale, declared.targets.AreaName.AreaName}
use Rattle.inf_area.specs.Scales.{aligned, gap, scale_number}
use Rattle.inf_link.specs.{Areas.area_of, Areas.is_packed, Areas.lengths, Areas.order, Areas.rank, Bodies.body, Bodies.joined}
use Rattle.inf_link.specs.{Bodies.padded, Bodies.up_to, Header.header, Header.header_back, Header.header_front, Header.header_size}
use Rattle.inf_link.specs.{Header.number_bytes, MemoryMaps.base_of, MemoryMaps.begin, MemoryMaps.end_of, MemoryMaps.map_of}
use Rattle.inf_link.specs.{Stories.story_of, StoryLaws.AreasStandAtTheirBases, StoryLaws.HasAt, StoryLaws.StoriesTellThemselves}
use Rattle.inf_link.specs.{StoryLaws.TellsItself, declared.areas.Areas.Areas, declared.header.HeaderFields.HeaderFields}
use Rattle.inf_link.proofs.Names.{area_of-by_name}

-- places in the story and behind the header have the same distance from the next packed address
gap-behind : (s : Scale) (n : ℕ) → gap s (64 + n) ≡ gap s n
gap-behind Scale.Four n = omega arith
gap-behind Scale.Eight n = omega arith

aligned-behind : (s : Scale) (n : ℕ) → aligned s (64 + n) ≡ 64 + aligned s n
aligned-behind s n = omega (arith, gap-behind s n)

aligned-whole : (s : Scale) (n : ℕ) → aligned s n % scale_number s ≡ 0
aligned-whole Scale.Four n = omega arith
aligned-whole Scale.Eight n = omega arith

length-padded : (s : Scale) (bytes : List ℕ) → length (padded s bytes) ≡ aligned s (length bytes)
length-padded s bytes =
    length-append bytes (replicate (gap s (length bytes)) 0) ∙ ap (λ n. length bytes + n) (length-replicate (gap s (length bytes)) 0)

length-up_to : (s : Scale) (area : AreaName) (bytes : List ℕ) → 64 + length (up_to s area bytes) ≡ begin s area (64 + length bytes)
length-up_to s area bytes = go (is_packed area) where
  go : (b : Bool) → 64 + length (if b then padded s bytes else bytes) ≡ (if b then aligned s (64 + length bytes) else 64 + length bytes)
  go true = ap (λ n. 64 + n) (length-padded s bytes) ∙ sym (aligned-behind s (length bytes))
  go false = refl

-- bytes with one more area
abbrev with_area : Scale → Areas (List ℕ) → AreaName → List ℕ → List ℕ
with_area s contents area bytes = up_to s area bytes ++ area_of area contents

length-with_area : (s : Scale) (contents : Areas (List ℕ)) (area : AreaName) (bytes : List ℕ)
    → 64 + length (with_area s contents area bytes) ≡ begin s area (64 + length bytes) + area_of area (lengths contents)
length-with_area s contents area bytes =
    let size : area_of area (lengths contents) ≡ length (area_of area contents) = area_of-by_name (λ n. length (area_of n contents)) area in
    omega (arith, length-append (up_to s area bytes) (area_of area contents), length-up_to s area bytes, size)

-- the length of the bytes behind the header
length-joined : (s : Scale) (contents : Areas (List ℕ)) (names : List AreaName) (bytes : List ℕ)
    → 64 + length (joined s contents names bytes) ≡ aligned s (end_of (lengths contents) s (64 + length bytes) names)
length-joined s contents [] bytes = ap (λ n. 64 + n) (length-padded s bytes) ∙ sym (aligned-behind s (length bytes))
length-joined s contents (area ∷ names) bytes = length-joined s contents names (with_area s contents area bytes)
    ∙ ap (λ n. aligned s (end_of (lengths contents) s n names)) (length-with_area s contents area bytes)

-- areas are joined behind the bytes before them
joined-front : (s : Scale) (contents : Areas (List ℕ)) (names : List AreaName) (bytes : List ℕ) →
    (rest : List ℕ) × (joined s contents names bytes ≡ bytes ++ rest)
joined-front s contents [] bytes = (replicate (gap s (length bytes)) 0, refl)
joined-front s contents (area ∷ names) bytes =
    let others = joined-front s contents names (with_area s contents area bytes) in go (is_packed area) others where
      go : (b : Bool) → ((rest : List ℕ) × (joined s contents names (with_area s contents area bytes) ≡
          ((if b then padded s bytes else bytes) ++ area_of area contents) ++ rest))
          → (rest : List ℕ) × (joined s contents names (with_area s contents area bytes) ≡ bytes ++ rest)
      go true others = (
        replicate (gap s (length bytes)) 0 ++ (area_of area contents ++ others.0),
        others.1 ∙ append_assoc (bytes ++ replicate (gap s (length bytes)) 0) (area_of area contents) others.0
            ∙ append_assoc bytes (replicate (gap s (length bytes)) 0) (area_of area contents ++ others.0),
      )
      go false others = (area_of area contents ++ others.0, others.1 ∙ append_assoc bytes (area_of area contents) others.0)

-- an area among others, and what is before it
record Stands (s : Scale) (contents : Areas (List ℕ)) (area : AreaName) (base : ℕ) (bytes : List ℕ) : Type 0 where
  before : List ℕ
  behind : List ℕ
  are : bytes ≡ before ++ (area_of area contents ++ behind)
  place : 64 + length before ≡ base

stands : (s : Scale) (contents : Areas (List ℕ)) (area : AreaName) (names others : List AreaName) (bytes : List ℕ)
    → Stands s contents area (begin s area (end_of (lengths contents) s (64 + length bytes) names))
    (joined s contents (names ++ area ∷ others) bytes)
stands s contents area [] others bytes =
    let rest = joined-front s contents others (with_area s contents area bytes) in
    record {
      before = up_to s area bytes;
      behind = rest.0;
      are = rest.1 ∙ append_assoc (up_to s area bytes) (area_of area contents) rest.0;
      place = length-up_to s area bytes;
    }
stands s contents area (first ∷ names) others bytes =
    subst (λ n. Stands s contents area (begin s area (end_of (lengths contents) s n names))
    (joined s contents (names ++ area ∷ others) (with_area s contents first bytes)))
    (length-with_area s contents first bytes) (stands s contents area names others (with_area s contents first bytes))

pub in_order : (a : AreaName) → take (rank a) order ++ a ∷ drop (rank a + 1) order ≡ order
in_order AreaName.LowStrings = refl
in_order AreaName.Abbreviations = refl
in_order AreaName.PropertyDefaults = refl
in_order AreaName.Objects = refl
in_order AreaName.PropertyTables = refl
in_order AreaName.ClassNumbers = refl
in_order AreaName.IndividualTables = refl
in_order AreaName.Globals = refl
in_order AreaName.Arrays = refl
in_order AreaName.Grammar = refl
in_order AreaName.Actions = refl
in_order AreaName.ParsingRoutines = refl
in_order AreaName.Dictionary = refl
in_order AreaName.Code = refl
in_order AreaName.Strings = refl

stands-body : (s : Scale) (contents : Areas (List ℕ)) (area : AreaName) →
    Stands s contents area (base_of (lengths contents) s area) (body s contents)
stands-body s contents area =
    subst (λ names. Stands s contents area (base_of (lengths contents) s area) (joined s contents names [])) (in_order area)
    (stands s contents area (take (rank area) order) (drop (rank area + 1) order) [])

-- a statement about any six digits holds for a list of six
with_six : (P : List ℕ → Type 0) → ((a b c d e f : ℕ) → P (a ∷ b ∷ c ∷ d ∷ e ∷ f ∷ [])) → (serial : List ℕ) → length serial ≡ 6 → P serial
with_six P all (a ∷ b ∷ c ∷ d ∷ e ∷ f ∷ []) six = all a b c d e f
with_six P all [] six = absurd (omega arith)
with_six P all (a ∷ []) six = absurd (omega arith)
with_six P all (a ∷ b ∷ []) six = absurd (omega arith)
with_six P all (a ∷ b ∷ c ∷ []) six = absurd (omega arith)
with_six P all (a ∷ b ∷ c ∷ d ∷ []) six = absurd (omega arith)
with_six P all (a ∷ b ∷ c ∷ d ∷ e ∷ []) six = absurd (omega arith)
with_six P all (a ∷ b ∷ c ∷ d ∷ e ∷ f ∷ g ∷ rest) six = absurd (omega arith)

length-header : (fields : HeaderFields) (bases : Areas ℕ) (bytes : List ℕ) → length fields.serial ≡ 6 →
    length (header fields bases bytes) ≡ 64
unfolding header_front header_back
length-header fields bases bytes six =
    with_six (λ serial. length (header (record fields { serial = serial }) bases bytes) ≡ 64) (λ a b c d e f. refl) fields.serial six

-- the length and the sum of the bytes behind the header, as the header says them
header_words : (fields : HeaderFields) (bases : Areas ℕ) (bytes : List ℕ) → length fields.serial ≡ 6
    → HasAt 0x1A (header fields bases bytes ++ bytes) (number_bytes ((64 + length bytes) / scale_number fields.scale)) × HasAt 0x1C
    (header fields bases bytes ++ bytes) (number_bytes (sum bytes % 65536))
unfolding header_front header_back
header_words fields bases bytes six = with_six (λ serial. HasAt 0x1A (header (record fields { serial = serial }) bases bytes ++ bytes)
    (number_bytes ((64 + length bytes) / scale_number fields.scale))
    × HasAt 0x1C (header (record fields { serial = serial }) bases bytes ++ bytes) (number_bytes (sum bytes % 65536)))
    (λ a b c d e f. (refl, refl)) fields.serial six

told : (fields : HeaderFields) (bases : Areas ℕ) (end : ℕ) (bytes : List ℕ) → length fields.serial ≡ 6 → 64 + length bytes ≡ end →
    end % scale_number fields.scale ≡ 0 → TellsItself fields.scale end (header fields bases bytes ++ bytes)
told fields bases end bytes six long whole =
    let head = header fields bases bytes in
    let size : length (head ++ bytes) ≡ 64 + length bytes =
    length-append head bytes ∙ ap (λ n. n + length bytes) (length-header fields bases bytes six) in
    let words = header_words fields bases bytes six in
    let rest : drop 0x40 (head ++ bytes) ≡ bytes = drop_at head bytes 64 (length-header fields bases bytes six) in
    let twice : (sum bytes % 65536) % 65536 ≡ sum bytes % 65536 = omega arith in
    record {
      as_mapped = size ∙ long;
      whole = ap (λ n. n % scale_number fields.scale) (size ∙ long) ∙ whole;
      length_word = subst (λ n. HasAt 0x1A (head ++ bytes) (number_bytes (n / scale_number fields.scale))) (sym size) words.0;
      checksum_word = subst (λ xs. HasAt 0x1C (head ++ bytes) (number_bytes (sum xs))) (sym rest)
          (subst (HasAt 0x1C (head ++ bytes)) (ap word twice) words.1);
    }

pub stories_tell_themselves : StoriesTellThemselves
unfolding story_of
stories_tell_themselves contents fields six =
    let map = map_of (lengths contents) fields.scale in
    told fields map.bases map.end (body fields.scale contents) six (length-joined fields.scale contents order [])
    (aligned-whole fields.scale (end_of (lengths contents) fields.scale header_size order))

pub areas_stand_at_their_bases : AreasStandAtTheirBases
unfolding story_of
areas_stand_at_their_bases contents fields six area =
    let behind = body fields.scale contents in
    let head = header fields (map_of (lengths contents) fields.scale).bases behind in
    let here = stands-body fields.scale contents area in let part = area_of area contents in
    let all : head ++ behind ≡ (head ++ here.before) ++ (part ++ here.behind) =
    ap (λ xs. head ++ xs) here.are ∙ sym (append_assoc head here.before (part ++ here.behind)) in
    let place : length (head ++ here.before) ≡ base_of (lengths contents) fields.scale area = length-append head here.before
    ∙ ap (λ n. n + length here.before) (length-header fields (map_of (lengths contents) fields.scale).bases behind six) ∙ here.place in
    ap (λ xs. take (length part) (drop (base_of (lengths contents) fields.scale area) xs)) all
    ∙ ap (take (length part)) (drop_at (head ++ here.before) (part ++ here.behind) (base_of (lengths contents) fields.scale area) place)
    ∙ take_at part here.behind (length part) refl
