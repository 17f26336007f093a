-- The needs of the parts of a unit: bytes for what is printed or given, and places for operands. They are no more than those of its events,
-- and where they are little there is room for the parts.
use Rattle.std.proofs.Common.{◌≡◌, ℕ, zero, suc, ◌≤◌, List, [], ◌∷◌, ◌++◌, Bool, true, false, ◌&&◌, not, Option, Some, None, refl}
use Rattle.std.proofs.Common.{sym, ◌∙◌, ap, subst, append_assoc, append-nil, arith, length, nat_lt}
use Rattle.std.proofs.lemmas.Bool.{and_from, cond-false, le-ltb}
use Rattle.std.proofs.lemmas.List.{map-append}
use Rattle.inf_scanner.specs.declared.tokens.Mark.{Mark}
use Rattle.inf_settings.specs.{Bounds.Limits, declared.setting.Setting.Setting}
use Rattle.inf_machine.specs.Grammar.{Did, Event, Took}
use Rattle.inf_syntax.specs.declared.actions.Action.{Action}
use Rattle.inf_unit.specs.{Roles.role_of, Tokens.SourceToken, declared.roles.Note.Note, declared.roles.Role.Role}
use Rattle.inf_unit.specs.{declared.steps.GatherStep.GatherStep}
use Rattle.inf_unit.specs.Units.{Unit as UnitAtHand, action_gathered, depth_behind, is_assembly, is_full, is_some_mark, kind_at, noted}
use Rattle.inf_unit.specs.Units.{stepped, taken}
use Rattle.inf_statement_laws.specs.Readings.{Seen}
use Rattle.inf_language.specs.{Texts.tokens_of, Units.AllSteps}
use Rattle.inf_trees.specs.Room.{has_room, have_room}
use Rattle.inf_trees.specs.Trees.{Doubtful, Further, Joined, Named, Noted, Part, Ruled, Single, Value, Worded, all_seen, with_further}
use Rattle.inf_trees.specs.Trees.{with_value, with_word}
use Rattle.inf_trees.proofs.Beside.{stepped_gathers}

-- Bytes are needed by what is noted once in most statements, and a place by the end of an operand; more by what stands only in lists.
pub data Need : Type 0 where
  Space : Need
  Operand : Need
  Much : Need

abbrev pub note_need : Note → Option Need
note_need (Note.Outer is_sure) = None
note_need Note.OuterWord = None
note_need Note.OuterSure = None
note_need Note.OuterEnd = Some Operand
note_need Note.PrintText = Some Space
note_need Note.PrintValue = Some Space
note_need Note.PrintRuled = Some Space
note_need Note.Set = Some Space
note_need Note.Clear = Some Space
note_need Note.Default = Some Space
note_need Note.Store = Some Space
note_need (Note.Branch sense) = Some Space
note_need _ = Some Much

abbrev pub role_need : Role → Option Need
role_need (Role.Note n) = note_need n
role_need _ = None

abbrev pub need_of : Action → Option Need
need_of a = role_need (role_of a)

-- a number of needs with one more, counted as bytes or as places
pub data Kind : Type 0 where
  Bytes : Kind
  Places : Kind

abbrev pub counted : Option Need → Kind → ℕ → ℕ
counted None kind n = n
counted (Some Space) Bytes n = suc n
counted (Some Space) Places n = n
counted (Some Operand) Bytes n = n
counted (Some Operand) Places n = suc n
counted (Some Much) kind n = suc (suc n)

abbrev pub needs_in : Kind → List (Event Action) → ℕ
needs_in kind [] = 0
needs_in kind (Took atom ∷ events) = needs_in kind events
needs_in kind (Did a ∷ events) = counted (need_of a) kind (needs_in kind events)

abbrev pub part_need : Part → Option Need
part_need (Single s) = None
part_need (Value level tokens value) = None
part_need (Doubtful level front tokens value) = None
part_need (Ruled bracket name closing) = Some Much
part_need Named = None
part_need (Noted n) = note_need n
part_need Worded = None
part_need (Further level tokens value) = None
part_need (Joined joint) = None

abbrev pub needs : Kind → List Part → ℕ
needs kind [] = 0
needs kind (p ∷ parts) = counted (part_need p) kind (needs kind parts)

pub counted_more : (o : Option Need) (kind : Kind) (m n : ℕ) → m ≤ n → counted o kind m ≤ counted o kind n
counted_more None kind m n less = less
counted_more (Some Space) Bytes m n less = omega (arith, less)
counted_more (Some Space) Places m n less = less
counted_more (Some Operand) Bytes m n less = less
counted_more (Some Operand) Places m n less = omega (arith, less)
counted_more (Some Much) kind m n less = omega (arith, less)

pub counted_grows : (o : Option Need) (kind : Kind) (m n : ℕ) → m ≤ n → m ≤ counted o kind n
counted_grows None kind m n less = less
counted_grows (Some Space) Bytes m n less = omega (arith, less)
counted_grows (Some Space) Places m n less = less
counted_grows (Some Operand) Bytes m n less = less
counted_grows (Some Operand) Places m n less = omega (arith, less)
counted_grows (Some Much) kind m n less = omega (arith, less)

-- Steps need nothing.
pub steps_need : (kind : Kind) (steps late : List (Event Action)) (n : ℕ) → AllSteps steps → n ≤ needs_in kind late
    → n ≤ needs_in kind (steps ++ late)
steps_need kind [] late n all less = less
steps_need kind (Did a ∷ events) late n all less =
    counted_grows (need_of a) kind n (needs_in kind (events ++ late)) (steps_need kind events late n all.1 less)
steps_need kind (Took atom ∷ events) late n all less = steps_need kind events late n all less

-- The first of some events need no more than all.
pub front_needs : (kind : Kind) (early late : List (Event Action)) → needs_in kind early ≤ needs_in kind (early ++ late)
front_needs kind [] late = none (needs_in kind late)
  where
    none : (n : ℕ) → 0 ≤ n
    none n = omega arith
front_needs kind (Did a ∷ early) late =
    counted_more (need_of a) kind (needs_in kind early) (needs_in kind (early ++ late)) (front_needs kind early late)
front_needs kind (Took atom ∷ early) late = front_needs kind early late

-- Room

-- whether no mark of an assembly line stands at a place
abbrev pub NoLine : List SourceToken → ℕ → Type 0
NoLine tokens place = is_some_mark Mark.At (kind_at tokens place) ≡ false

line_in_front : (xs ys : List SourceToken) (place : ℕ) → NoLine (xs ++ ys) place → NoLine xs place
line_in_front [] ys place none = refl
line_in_front (x ∷ xs) ys zero none = none
line_in_front (x ∷ xs) ys (suc place) none = line_in_front xs ys place none

-- A step leaves the tokens of a unit, and its bytes.

stepped_tokens : (s : GatherStep) (u : UnitAtHand) → (stepped s u).tokens ≡ u.tokens
stepped_tokens s u = ap (λ (v : UnitAtHand). v.tokens) (stepped_gathers s u)

stepped_begun : (s : GatherStep) (u : UnitAtHand) → (stepped s u).begun ≡ u.begun
stepped_begun s u = ap (λ (v : UnitAtHand). v.begun) (stepped_gathers s u)

stepped_code : (s : GatherStep) (u : UnitAtHand) → (stepped s u).code ≡ u.code
stepped_code s u = ap (λ (v : UnitAtHand). v.code) (stepped_gathers s u)

-- Parts of a unit need little: places only where it is no assembly line, and bytes once, where it has none so far.
pub record IsLittle (u : UnitAtHand) (parts : List Part) : Type 0 where
  pub on : u.is_over ≡ false
  pub line : 1 ≤ needs Places parts → NoLine (u.tokens ++ tokens_of (all_seen parts)) u.begun
  pub once : needs Bytes parts ≤ 1
  pub first : 1 ≤ needs Bytes parts → u.code ≡ 0

-- a unit with more tokens, which has as many bytes
behind_tokens : (u v : UnitAtHand) (seen : List Seen) (parts : List Part) → v.tokens ≡ u.tokens ++ tokens_of seen → v.begun ≡ u.begun
    → v.code ≡ u.code → v.is_over ≡ false → (1 ≤ needs Places parts → NoLine (u.tokens ++ tokens_of (seen ++ all_seen parts)) u.begun)
    → needs Bytes parts ≤ 1 → (1 ≤ needs Bytes parts → u.code ≡ 0) → IsLittle v parts
behind_tokens u v seen parts tokens begun code on line once first = record {
  on = on;
  line = λ e. subst (λ n. NoLine (v.tokens ++ tokens_of (all_seen parts)) n) (sym begun) (subst (λ l. NoLine l u.begun)
      (ap (λ l. u.tokens ++ l) (map-append (λ (s : Seen). s.token) seen (all_seen parts))
      ∙ (sym (append_assoc u.tokens (tokens_of seen) (tokens_of (all_seen parts)))
      ∙ ap (λ l. l ++ tokens_of (all_seen parts)) (sym tokens))) (line e));
  once = once;
  first = λ e. code ∙ first e;
}

too_much : {A : Type 0} (n : ℕ) → suc (suc n) ≤ 1 → A
too_much n much = absurd (none much)
  where
    none : suc (suc n) ≤ 1 → ⊥
    none e = omega (arith, e)

no_more : (m n : ℕ) → suc n ≤ 1 → 1 ≤ n → m ≡ 0
no_more m n once e = absurd (none once e)
  where
    none : suc n ≤ 1 → 1 ≤ n → ⊥
    none once e = omega (arith, once, e)

module _ (limits : Limits) (u : UnitAtHand) (parts : List Part) where
  -- behind a note that needs nothing, the unit has the same tokens and bytes
  behind_note : (v : UnitAtHand) → v.tokens ≡ u.tokens → v.begun ≡ u.begun → v.code ≡ u.code → v.is_over ≡ false
      → (1 ≤ needs Places parts → NoLine (u.tokens ++ tokens_of (all_seen parts)) u.begun) → needs Bytes parts ≤ 1
      → (1 ≤ needs Bytes parts → u.code ≡ 0) → IsLittle v parts
  behind_note v tokens begun code on line once first =
      behind_tokens u v [] parts (tokens ∙ sym (append-nil u.tokens)) begun code on line once first

  -- behind one that needs bytes nothing else does
  last_note : (v : UnitAtHand) → v.tokens ≡ u.tokens → v.begun ≡ u.begun → v.is_over ≡ false
      → (1 ≤ needs Places parts → NoLine (u.tokens ++ tokens_of (all_seen parts)) u.begun) → suc (needs Bytes parts) ≤ 1 → IsLittle v parts
  last_note v tokens begun on line once = record {
    on = on;
    line = λ e. subst (λ n. NoLine (v.tokens ++ tokens_of (all_seen parts)) n) (sym begun)
        (subst (λ l. NoLine (l ++ tokens_of (all_seen parts)) u.begun) (sym tokens) (line e));
    once = omega (arith, once);
    first = λ e. no_more v.code (needs Bytes parts) once e;
  }

  bytes_left : u.code ≡ 0 → not (nat_lt (limits Setting.Code) u.code) ≡ true
  bytes_left none = ap (λ n. not (nat_lt (limits Setting.Code) n)) none ∙ ap not (le-ltb (limits Setting.Code) 0 (omega arith))

  one_at_least : (n : ℕ) → 1 ≤ suc n
  one_at_least n = omega arith

  place_left : (b : Bool) → is_assembly u ≡ false → not (b && is_assembly u) ≡ true
  place_left true plain = ap not plain
  place_left false plain = refl

  abbrev Rest : Note → Type 0
  Rest n = IsLittle (noted n u) parts → have_room limits (noted n u) parts ≡ true

  note_room : (n : Note) → IsLittle u (Noted n ∷ parts) → Rest n → (has_room limits n u && have_room limits (noted n u) parts) ≡ true
  note_room (Note.Outer is_sure) little rest =
      rest (behind_note (noted (Note.Outer is_sure) u) refl refl refl little.on little.line little.once little.first)
  note_room Note.OuterWord little rest =
      rest (behind_note (noted Note.OuterWord u) refl refl refl little.on little.line little.once little.first)
  note_room Note.OuterSure little rest =
      rest (behind_note (noted Note.OuterSure u) refl refl refl little.on little.line little.once little.first)
  note_room Note.OuterEnd little rest =
      let line = little.line (one_at_least (needs Places parts)) in
      and_from (not (is_full u)) (have_room limits (noted Note.OuterEnd u) parts)
      (place_left (nat_lt 64 (length u.gathering.firsts)) (line_in_front u.tokens (tokens_of (all_seen parts)) u.begun line))
      (rest (behind_note (noted Note.OuterEnd u) refl refl refl little.on (λ e. line) little.once little.first))
  note_room Note.PrintText little rest = and_from (has_room limits Note.PrintText u) (have_room limits (noted Note.PrintText u) parts)
      (bytes_left (little.first (one_at_least (needs Bytes parts))))
      (rest (last_note (noted Note.PrintText u) refl refl little.on little.line little.once))
  note_room Note.PrintValue little rest = and_from (has_room limits Note.PrintValue u) (have_room limits (noted Note.PrintValue u) parts)
      (bytes_left (little.first (one_at_least (needs Bytes parts))))
      (rest (last_note (noted Note.PrintValue u) refl refl little.on little.line little.once))
  note_room Note.PrintRuled little rest = and_from (has_room limits Note.PrintRuled u) (have_room limits (noted Note.PrintRuled u) parts)
      (bytes_left (little.first (one_at_least (needs Bytes parts))))
      (rest (last_note (noted Note.PrintRuled u) refl refl little.on little.line little.once))
  note_room Note.Set little rest = and_from (has_room limits Note.Set u) (have_room limits (noted Note.Set u) parts)
      (bytes_left (little.first (one_at_least (needs Bytes parts))))
      (rest (last_note (noted Note.Set u) refl refl little.on little.line little.once))
  note_room Note.Clear little rest = and_from (has_room limits Note.Clear u) (have_room limits (noted Note.Clear u) parts)
      (bytes_left (little.first (one_at_least (needs Bytes parts))))
      (rest (last_note (noted Note.Clear u) refl refl little.on little.line little.once))
  note_room Note.Default little rest = rest (last_note (noted Note.Default u) refl refl little.on little.line little.once)
  note_room Note.Store little rest = rest (last_note (noted Note.Store u) refl refl little.on little.line little.once)
  note_room (Note.Branch sense) little rest = rest (last_note (noted (Note.Branch sense) u) refl refl little.on little.line little.once)
  note_room other little rest = too_much (needs Bytes parts) little.once

taken_on : (t : SourceToken) (u : UnitAtHand) → u.is_over ≡ false
    → taken t u ≡ record u { tokens = u.tokens ++ t ∷ []; depth = depth_behind t.kind u.depth }
taken_on t u on =
    cond-false u.is_over (record u { is_over = false }) (record u { tokens = u.tokens ++ t ∷ []; depth = depth_behind t.kind u.depth }) on

-- Where the parts need little, there is room for them.
pub little_room : (limits : Limits) (parts : List Part) (u : UnitAtHand) → IsLittle u parts → have_room limits u parts ≡ true
little_room limits [] u little = refl
little_room limits (Single s ∷ parts) u little =
    let v = record u { tokens = u.tokens ++ s.token ∷ []; depth = depth_behind s.token.kind u.depth } in
    subst (λ x. have_room limits x parts ≡ true) (sym (taken_on s.token u little.on))
    (little_room limits parts v (behind_tokens u v (s ∷ []) parts refl refl refl little.on little.line little.once little.first))
little_room limits (Value level tokens value ∷ parts) u little =
    let v = with_value (tokens_of tokens) value u in
    little_room limits parts v (behind_tokens u v tokens parts refl refl refl little.on little.line little.once little.first)
little_room limits (Doubtful level front tokens value ∷ parts) u little =
    let v = with_value (tokens_of front ++ tokens_of tokens) value u in
    little_room limits parts v
    (behind_tokens u v (front ++ tokens) parts (ap (λ l. u.tokens ++ l) (sym (map-append (λ (s : Seen). s.token) front tokens))) refl refl
    little.on little.line little.once little.first)
little_room limits (Ruled bracket name closing ∷ parts) u little = too_much (needs Bytes parts) little.once
little_room limits (Named ∷ parts) u little =
    let v = action_gathered u in
    little_room limits parts v
    (behind_note limits u parts v refl refl refl little.on little.line little.once little.first)
little_room limits (Noted n ∷ parts) u little = note_room limits u parts n little (little_room limits parts (noted n u))
little_room limits (Worded ∷ parts) u little =
    let v = with_word u in
    little_room limits parts v
    (behind_note limits u parts v refl refl refl little.on little.line little.once little.first)
little_room limits (Further level tokens value ∷ parts) u little =
    let v = with_further (tokens_of tokens) value u in
    little_room limits parts v (behind_tokens u v tokens parts refl refl refl little.on little.line little.once little.first)
little_room limits (Joined joint ∷ parts) u little =
    let v = stepped joint u in
    little_room limits parts v
    (behind_note limits u parts v (stepped_tokens joint u) (stepped_begun joint u) (stepped_code joint u)
    (ap (λ (x : UnitAtHand). x.is_over) (stepped_gathers joint u) ∙ little.on) little.line little.once little.first)
