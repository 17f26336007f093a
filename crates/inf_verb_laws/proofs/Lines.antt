-- Lines of verbs are read back.
use Rattle.std.proofs.Common.{◌≡◌, ◌<◌, ℕ, zero, suc, ◌+◌, ◌*◌, ◌/◌, ◌%◌, List, [], ◌∷◌, ◌++◌, Bool, true, false, refl, ◌∙◌, ap, sym}
use Rattle.std.proofs.Common.{append_assoc, arith, length, ◌==◌, cond, map, nat_le}
use Rattle.inf_area.specs.{Cells.value_cells, declared.cells.Cell.Cell, declared.targets.Target.Target, declared.targets.Value.Value}
use Rattle.inf_objects.specs.Reading.{filled, number_in}
use Rattle.inf_verbs.specs.{declared.lines.LineToken.LineToken, declared.lines.Noun.Noun}
use Rattle.inf_verbs.specs.Lines.{LineOf, action_word, lines_cells, token_type, token_value, tokens_cells}
use Rattle.inf_verb_laws.specs.Laws.{AreActions, LinesAreRead, line_seen, token_seen}
use Rattle.inf_verb_laws.specs.Reading.{Read, lines_read, tokens_read}

module _ (address : Target → ℕ) where
  filled_both : (xs ys : List Cell) → filled address (xs ++ ys) ≡ filled address xs ++ filled address ys
  filled_both [] ys = refl
  filled_both (Cell.Byte b ∷ xs) ys = ap (λ l. b ∷ l) (filled_both xs ys)
  filled_both (Cell.Later t ∷ xs) ys = ap (λ l. (address t / 256) ∷ (address t % 256) ∷ l) (filled_both xs ys)

  word_back : (n : ℕ) → 256 * (n / 256) + n % 256 ≡ n
  word_back n = omega arith

  -- the type of a token is no 15, and it is that of the table
  type_is : (t : LineToken) → (token_type t, number_in address (token_value t)) ≡ token_seen address t
  type_is (LineToken.Noun Noun.Noun) = refl
  type_is (LineToken.Preposition text true true) = refl
  type_is (LineToken.Preposition text true false) = refl
  type_is (LineToken.Preposition text false true) = refl
  type_is (LineToken.Preposition text false false) = refl
  type_is other = refl

  no_end : (t : LineToken) → (token_type t == 15) ≡ false
  no_end (LineToken.Noun n) = refl
  no_end (LineToken.Preposition text true true) = refl
  no_end (LineToken.Preposition text true false) = refl
  no_end (LineToken.Preposition text false true) = refl
  no_end (LineToken.Preposition text false false) = refl
  no_end other = refl

  abbrev Found : Type 0
  Found = List (ℕ × ℕ) × List ℕ

  abbrev with_one : ℕ × ℕ → Found → Found
  with_one t more = (t ∷ more.0, more.1)

  one_back : (most k : ℕ) (v : Value) (cells : List Cell) (rest : List ℕ) → (k == 15) ≡ false
      → tokens_read (suc most) (filled address ((Cell.Byte k ∷ value_cells v) ++ cells) ++ rest)
      ≡ with_one (k, number_in address v) (tokens_read most (filled address cells ++ rest))
  one_back most k (Value.Known n) cells rest h =
      let left = filled address cells ++ rest in
      ap (λ b. cond {A = Found} b ([], (n / 256) ∷ (n % 256) ∷ left) (with_one (k, 256 * (n / 256) + n % 256) (tokens_read most left))) h
      ∙ ap (λ m. with_one (k, m) (tokens_read most left)) (word_back n)
  one_back most k (Value.Later t) cells rest h =
      let left = filled address cells ++ rest in
      let high = address t / 256 in
      let low = address t % 256 in
      ap (λ b. cond {A = Found} b ([], high ∷ low ∷ left) (with_one (k, 256 * high + low) (tokens_read most left))) h
      ∙ ap (λ m. with_one (k, m) (tokens_read most left)) (word_back (address t))

  tokens_back : (ts : List LineToken) (most : ℕ) (rest : List ℕ) → length ts < most
      → tokens_read most (filled address (tokens_cells ts) ++ 15 ∷ rest) ≡ (map (token_seen address) ts, rest)
  tokens_back ts zero rest few = let h : ⊥ = omega arith in elim h [ ]
  tokens_back [] (suc most) rest few = refl
  tokens_back (t ∷ ts) (suc most) rest few = one_back most (token_type t) (token_value t) (tokens_cells ts) (15 ∷ rest) (no_end t)
      ∙ ap (with_one (token_type t, number_in address (token_value t))) (tokens_back ts most rest (omega arith))
      ∙ ap (λ p. with_one p (map (token_seen address) ts, rest)) (type_is t)

  longer_by : (v : Value) (cells : List Cell) (rest : List ℕ) (n : ℕ) → n < length (filled address cells ++ rest)
      → suc n < length (filled address (value_cells v ++ cells) ++ rest) + 1
  longer_by (Value.Known m) cells rest n h = omega arith
  longer_by (Value.Later t) cells rest n h = omega arith

  long : (ts : List LineToken) (rest : List ℕ) → length ts < length (filled address (tokens_cells ts) ++ 15 ∷ rest)
  long [] rest = omega arith
  long (t ∷ ts) rest =
      let h : suc (length ts) < length (filled address (value_cells (token_value t) ++ tokens_cells ts) ++ 15 ∷ rest) + 1 =
      longer_by (token_value t) (tokens_cells ts) (15 ∷ rest) (length ts) (long ts rest) in omega arith

  -- the word of an action
  abbrev head_read : ℕ → List (ℕ × ℕ) → Read
  head_read n tokens = record { action = 256 * (n / 256 % 4) + n % 256; is_reverse = nat_le 4 (n / 256 % 8); tokens = tokens }

  head_back : (l : LineOf) (b : Bool) → l.is_reverse ≡ b → l.action < 1024
      → head_read (action_word l) (map (token_seen address) l.tokens) ≡ line_seen address l
  head_back l true e h =
      let w : action_word l ≡ l.action + 1024 = grind arith in
      let a : 256 * ((l.action + 1024) / 256 % 4) + (l.action + 1024) % 256 ≡ l.action = omega arith in
      let r : nat_le 4 ((l.action + 1024) / 256 % 8) ≡ true = grind arith in
      ap (λ n. head_read n (map (token_seen address) l.tokens)) w
      ∙ ap (λ n. record { action = n; is_reverse = nat_le 4 ((l.action + 1024) / 256 % 8); tokens = map (token_seen address) l.tokens }) a
      ∙ ap (λ b. record { action = l.action; is_reverse = b; tokens = map (token_seen address) l.tokens }) (r ∙ sym e)
  head_back l false e h =
      let w : action_word l ≡ l.action = grind arith in
      let a : 256 * (l.action / 256 % 4) + l.action % 256 ≡ l.action = omega arith in
      let r : nat_le 4 (l.action / 256 % 8) ≡ false = grind arith in
      ap (λ n. head_read n (map (token_seen address) l.tokens)) w
      ∙ ap (λ n. record { action = n; is_reverse = nat_le 4 (l.action / 256 % 8); tokens = map (token_seen address) l.tokens }) a
      ∙ ap (λ b. record { action = l.action; is_reverse = b; tokens = map (token_seen address) l.tokens }) (r ∙ sym e)

  abbrev body_read : ℕ → ℕ → Found → List Read
  body_read count n r = head_read n r.0 ∷ lines_read count r.1

  lines_back : (lines : List LineOf) (rest : List ℕ) → AreActions lines
      → lines_read (length lines) (filled address (lines_cells lines) ++ rest) ≡ map (line_seen address) lines
  lines_back [] rest are = refl
  lines_back (l ∷ lines) rest are =
      let n = action_word l in
      let behind = filled address (lines_cells lines) ++ rest in
      let parts : filled address (tokens_cells l.tokens ++ Cell.Byte 15 ∷ lines_cells lines) ++ rest
      ≡ filled address (tokens_cells l.tokens) ++ 15 ∷ behind =
      ap (λ b. b ++ rest) (filled_both (tokens_cells l.tokens) (Cell.Byte 15 ∷ lines_cells lines))
      ∙ append_assoc (filled address (tokens_cells l.tokens)) (15 ∷ filled address (lines_cells lines)) rest in
      let turned : filled address (lines_cells (l ∷ lines)) ++ rest
      ≡ (n / 256) ∷ (n % 256) ∷ (filled address (tokens_cells l.tokens ++ Cell.Byte 15 ∷ lines_cells lines) ++ rest) =
      ap (λ c. (n / 256) ∷ (n % 256) ∷ (filled address c ++ rest))
      (append_assoc (tokens_cells l.tokens) (Cell.Byte 15 ∷ []) (lines_cells lines)) in
      ap (lines_read (suc (length lines))) turned
      ∙ ap (λ b. body_read (length lines) n (tokens_read (length b) b)) parts
      ∙ ap (body_read (length lines) n)
      (tokens_back l.tokens (length (filled address (tokens_cells l.tokens) ++ 15 ∷ behind)) behind (long l.tokens behind))
      ∙ ap (λ r. r ∷ lines_read (length lines) behind) (head_back l l.is_reverse refl are.0)
      ∙ ap (λ r. line_seen address l ∷ r) (lines_back lines rest are.1)

pub lines_are_read : LinesAreRead
lines_are_read = lines_back
