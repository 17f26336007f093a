-- Verbs, actions and the words of a dictionary, by the list of what a source says of them (Designer's Manual, fourth edition, section 30).
-- Actions and routines are known by numbers that stand for their names, words by their six bytes.
use Rattle.std.specs.{Cmp.Lexicographic.slice_cmp, Ordering.is_eq, Ordering.nat_cmp}
use Rattle.std.specs.Prelude.{ℕ, ◌+◌, ◌-◌, nat_eq, bit_or, List, [], ◌∷◌, ◌++◌, map, Bool, Option, Some, None, if◌then◌else◌}
use Rattle.std.specs.List.{filter_map, flat_map, fold, list_any}

abbrev pub Text : Type 0
Text = List ℕ

pub data Token : Type 0 where
  Noun : ℕ → Token  -- 0 `noun`, 1 `held` .. 9 `topic`
  Words : List Text → Token  -- alternatives, as 'in'/'on'
  Filter : ℕ → Token  -- noun=R
  Attribute : ℕ → Token
  Scope : ℕ → Token  -- scope=R
  Routine : ℕ → Token

pub record Line : Type 0 where
  pub tokens : List Token
  pub action : ℕ
  pub is_reverse : Bool

pub data Where : Type 0 where
  First : Where
  Last : Where
  Replace : Where

-- One thing that a source says of verbs, actions or words, in the order of the source
pub data Said : Type 0 where
  Verb : Bool → List Text → List Line → Said  -- `meta` or not
  Like : Bool → List Text → Text → Said  -- Verb 'a' = 'b'
  Extend : Text → Where → List Line → Said
  Mentions : ℕ → Said  -- an action: ##X, <X>, or a case
  Uses : Text → Said  -- a word anywhere else
  Plural : Text → Said  -- a word with `//p`, beside its use

pub record VerbIs : Type 0 where
  pub words : List Text
  pub lines : List Line

abbrev pub same_text : Text → Text → Bool
same_text t u = is_eq (slice_cmp nat_cmp t u)

abbrev pub has_word : Text → List Text → Bool
has_word t texts = list_any (same_text t) texts

-- Verbs in order. A word is one of a single verb, to which `=` gives further words and `Extend` lines.

abbrev pub changed : Text → (VerbIs → VerbIs) → List VerbIs → List VerbIs
changed t f verbs = map (λ v. if has_word t v.words then f v else v) verbs

abbrev pub extended : {A : Type 0} → Where → List A → List A → List A
extended First new old = new ++ old
extended Last new old = old ++ new
extended Replace new old = new

abbrev pub with_said : List VerbIs → Said → List VerbIs
with_said verbs (Verb meta words lines) = verbs ++ record { words = words; lines = lines } ∷ []
with_said verbs (Like meta words t) = changed t (λ v. record v { words = v.words ++ words }) verbs
with_said verbs (Extend t place lines) = changed t (λ v. record v { lines = extended place lines v.lines }) verbs
with_said verbs said = verbs

abbrev pub verbs : List Said → List VerbIs
verbs all = fold with_said [] all

-- Definitions of actions, and routines that parse, by their first appearance

abbrev pub distinct : List ℕ → List ℕ → List ℕ
distinct seen [] = []
distinct seen (n ∷ numbers) = if list_any (nat_eq n) seen then distinct seen numbers else n ∷ distinct (n ∷ seen) numbers

abbrev pub lines_in : Said → List Line
lines_in (Verb meta words lines) = lines
lines_in (Extend t place lines) = lines
lines_in said = []

abbrev pub actions_in : Said → List ℕ
actions_in (Mentions action) = action ∷ []
actions_in said = map (λ l. l.action) (lines_in said)

abbrev pub routine_in : Token → Option ℕ
routine_in (Filter r) = Some r
routine_in (Scope r) = Some r
routine_in (Routine r) = Some r
routine_in token = None

abbrev pub actions : List Said → List ℕ
actions all = distinct [] (flat_map actions_in all)

abbrev pub routines : List Said → List ℕ
routines all = distinct [] (flat_map (λ s. flat_map (λ l. filter_map routine_in l.tokens) (lines_in s)) all)

-- The dictionary's data of a word: 1 for one of a verb, 2 if that is meta, 4 plural, 8 preposition, 128 for any other use; and the verb

abbrev pub prepositions : Token → List Text
prepositions (Words texts) = texts
prepositions token = []

abbrev pub line_bits : List Line → List (Text × ℕ)
line_bits lines = flat_map (λ l. map (λ t. (t, 8)) (flat_map prepositions l.tokens)) lines

abbrev pub verb_bits : Bool → List Text → List (Text × ℕ)
verb_bits is_meta words = map (λ t. (t, if is_meta then 3 else 1)) words

abbrev pub bits : Said → List (Text × ℕ)
bits (Verb meta words lines) = verb_bits meta words ++ line_bits lines
bits (Like meta words t) = verb_bits meta words
bits (Extend t place lines) = line_bits lines
bits (Mentions action) = []
bits (Uses t) = (t, 128) ∷ []
bits (Plural t) = (t, 4) ∷ []

-- the bits of all uses of a word together
abbrev pub all_bits : List (Text × ℕ) → Text → ℕ
all_bits uses t = fold (λ f u. if same_text t u.0 then bit_or f u.1 else f) 0 uses

abbrev pub flags : List Said → Text → ℕ
flags all t = all_bits (flat_map bits all) t

abbrev pub verb_from : ℕ → Text → List VerbIs → ℕ
verb_from number t [] = 0
verb_from number t (v ∷ others) = if has_word t v.words then 255 - number else verb_from (number + 1) t others

abbrev pub verb_byte : List Said → Text → ℕ
verb_byte all t = verb_from 0 t (verbs all)
