-- Symbols are read one by one into a state. The step of the state at each kind of symbol is all that has to be known to read an
-- expression from its symbols: this is shown once, for any state.
use Rattle.std.proofs.Common.{◌≡◌, ℕ, zero, suc, List, [], ◌∷◌, ◌++◌, refl, ◌∙◌, ap, append_assoc}
use Rattle.inf_expressions.specs.{declared.operators.Binary.Binary, declared.operators.Unary.Unary, declared.symbols.Symbol.Symbol}
use Rattle.inf_expressions.specs.Sources.{Source, Leaf, Brackets, Prefix, Suffix, Two, Then, Call, Alone, closed, opened, postfix}
use Rattle.inf_expressions.specs.Sources.{postfixes}

abbrev pub run : {S : Type 0} → (Symbol → S → S) → List Symbol → S → S
run act [] state = state
run act (s ∷ symbols) state = run act symbols (act s state)

abbrev pub joints : {S : Type 0} → (S → S) → ℕ → S → S
joints joint zero state = state
joints joint (suc n) state = joint (joints joint n state)

-- the way in which a state takes symbols, and in which it gains a whole expression
pub record Reads {S : Type 0} (act : Symbol → S → S) (joint : S → S) (have : Source → S → S) : Type 0 where
  pub leaf : (first token leaf : ℕ) (state : S) → act (Symbol.Leaf first token leaf) state ≡ have (Leaf first token leaf) state
  pub brackets : (order : ℕ) (a : Source) (state : S) → act (Symbol.Bracketed order) (have a state) ≡ have (Brackets order a) state
  pub prefix : (order : ℕ) (op : Unary) (a : Source) (state : S) →
      act (Symbol.Prefix order op) (have a state) ≡ have (Prefix order op a) state
  pub suffix : (op : Unary) (a : Source) (state : S) → act (Symbol.Suffix op) (have a state) ≡ have (Suffix op a) state
  pub two : (op : Binary) (a b : Source) (state : S) → act (Symbol.Two op) (have b (have a state)) ≡ have (Two op a b) state
  pub next : (a b : Source) (state : S) → joint (have b (have a state)) ≡ have (Then a b) state
  pub list : (n : ℕ) (state : S) → act (Symbol.List (suc n)) state ≡ joints joint (suc n) state
  pub alone : (f : Source) (state : S) → act (Symbol.Call zero) (have f state) ≡ have (Alone f) state
  pub call : (n : ℕ) (f list : Source) (state given : S) → n ≡ (opened list).1 → joints joint n given ≡ have list (have f state) →
      act (Symbol.Call (suc n)) given ≡ have (Call f list) state

-- the state that gains the members of a list, one behind the other
abbrev pub spread : {S : Type 0} → (Source → S → S) → Source → S → S
spread have (Then a b) state = spread have b (have a state)
spread have (Leaf first token leaf) state = have (Leaf first token leaf) state
spread have (Brackets order a) state = have (Brackets order a) state
spread have (Prefix order op a) state = have (Prefix order op a) state
spread have (Suffix op a) state = have (Suffix op a) state
spread have (Two op a b) state = have (Two op a b) state
spread have (Call f list) state = have (Call f list) state
spread have (Alone f) state = have (Alone f) state

-- The joints of a list make one expression of its members.
gathers : {S : Type 0} {act : Symbol → S → S} {joint : S → S} {have : Source → S → S} (reads : Reads act joint have)
    (a : Source) (state : S) → joints joint (opened a).1 (spread have a state) ≡ have a state
gathers {joint = joint} {have = have} reads (Then a b) state = ap joint (gathers reads b (have a state)) ∙ reads.next a b state
gathers reads (Leaf first token leaf) state = refl
gathers reads (Brackets order a) state = refl
gathers reads (Prefix order op a) state = refl
gathers reads (Suffix op a) state = refl
gathers reads (Two op a b) state = refl
gathers reads (Call f list) state = refl
gathers reads (Alone f) state = refl

-- A list that is closed is read as its members and its joints.
closes : {S : Type 0} {act : Symbol → S → S} {joint : S → S} {have : Source → S → S} (reads : Reads act joint have)
    (symbols : List Symbol) (n : ℕ) (rest : List Symbol) (before members after : S) →
    ((more : List Symbol) → run act (symbols ++ more) before ≡ run act more members) → joints joint n members ≡ after →
    run act (closed symbols n ++ rest) before ≡ run act rest after
closes {act = act} reads symbols zero rest before members after opens is = opens rest ∙ ap (run act rest) is
closes {act = act} reads symbols (suc n) rest before members after opens is =
    ap (λ s. run act s before) (append_assoc symbols (Symbol.List (suc n) ∷ []) rest)
    ∙ opens (Symbol.List (suc n) ∷ rest)
    ∙ ap (run act rest) (reads.list n members ∙ is)

-- A whole expression is read from its symbols, where its symbols without that of the list are read as its members.
whole : {S : Type 0} {act : Symbol → S → S} {joint : S → S} {have : Source → S → S} (reads : Reads act joint have) (a : Source) →
    ((more : List Symbol) (state : S) → run act ((opened a).0 ++ more) state ≡ run act more (spread have a state)) →
    (rest : List Symbol) (state : S) → run act (postfix a ++ rest) state ≡ run act rest (have a state)
whole {have = have} reads a opens rest state =
    closes reads (opened a).0 (opened a).1 rest state (spread have a state) (have a state) (λ more. opens more state)
    (gathers reads a state)

-- An expression and one symbol behind it are read, one after the other.
behind : {S : Type 0} {act : Symbol → S → S} {joint : S → S} {have : Source → S → S} (reads : Reads act joint have) (a : Source) →
    ((more : List Symbol) (state : S) → run act ((opened a).0 ++ more) state ≡ run act more (spread have a state)) →
    (s : Symbol) (rest : List Symbol) (state after : S) → act s (have a state) ≡ after →
    run act ((postfix a ++ s ∷ []) ++ rest) state ≡ run act rest after
behind {act = act} reads a opens s rest state after is = ap (λ symbols. run act symbols state) (append_assoc (postfix a) (s ∷ []) rest)
    ∙ whole reads a opens (s ∷ rest) state
    ∙ ap (run act rest) is

opening : {S : Type 0} {act : Symbol → S → S} {joint : S → S} {have : Source → S → S} (reads : Reads act joint have)
    (a : Source) (rest : List Symbol) (state : S) → run act ((opened a).0 ++ rest) state ≡ run act rest (spread have a state)
opening {act = act} reads (Leaf first token leaf) rest state = ap (run act rest) (reads.leaf first token leaf state)
opening reads (Brackets order a) rest state =
    behind reads a (λ more st. opening reads a more st) (Symbol.Bracketed order) rest state _ (reads.brackets order a state)
opening reads (Prefix order op a) rest state =
    behind reads a (λ more st. opening reads a more st) (Symbol.Prefix order op) rest state _ (reads.prefix order op a state)
opening reads (Suffix op a) rest state =
    behind reads a (λ more st. opening reads a more st) (Symbol.Suffix op) rest state _ (reads.suffix op a state)
opening {act = act} {have = have} reads (Two op a b) rest state =
    ap (λ symbols. run act symbols state) (append_assoc (postfix a) (postfix b ++ Symbol.Two op ∷ []) rest)
    ∙ whole reads a (λ more st. opening reads a more st) ((postfix b ++ Symbol.Two op ∷ []) ++ rest) state
    ∙ behind reads b (λ more st. opening reads b more st) (Symbol.Two op) rest (have a state) _ (reads.two op a b state)
opening {act = act} {have = have} reads (Then a b) rest state =
    ap (λ symbols. run act symbols state) (append_assoc (postfix a) (opened b).0 rest)
    ∙ whole reads a (λ more st. opening reads a more st) ((opened b).0 ++ rest) state
    ∙ opening reads b rest (have a state)
opening {act = act} {have = have} reads (Call f list) rest state =
    ap (λ symbols. run act symbols state) (append_assoc (postfix f) ((opened list).0 ++ Symbol.Call (suc (opened list).1) ∷ []) rest)
    ∙ whole reads f (λ more st. opening reads f more st) (((opened list).0 ++ Symbol.Call (suc (opened list).1) ∷ []) ++ rest) state
    ∙ ap (λ symbols. run act symbols (have f state)) (append_assoc (opened list).0 (Symbol.Call (suc (opened list).1) ∷ []) rest)
    ∙ opening reads list (Symbol.Call (suc (opened list).1) ∷ rest) (have f state)
    ∙ ap (run act rest) (reads.call (opened list).1 f list state (spread have list (have f state)) refl (gathers reads list (have f state)))
opening reads (Alone f) rest state =
    behind reads f (λ more st. opening reads f more st) (Symbol.Call zero) rest state _ (reads.alone f state)

-- An expression is read from its symbols, whatever follows them.
pub reading : {S : Type 0} {act : Symbol → S → S} {joint : S → S} {have : Source → S → S} (reads : Reads act joint have)
    (a : Source) (rest : List Symbol) (state : S) → run act (postfix a ++ rest) state ≡ run act rest (have a state)
reading reads a rest state = whole reads a (λ more st. opening reads a more st) rest state

abbrev pub all : {S : Type 0} → (Source → S → S) → List Source → S → S
all have [] state = state
all have (a ∷ sources) state = all have sources (have a state)

-- Several expressions are read from their symbols, one after another.
pub reading_all : {S : Type 0} {act : Symbol → S → S} {joint : S → S} {have : Source → S → S} (reads : Reads act joint have)
    (sources : List Source) (state : S) → run act (postfixes sources) state ≡ all have sources state
reading_all reads [] state = refl
reading_all {have = have} reads (a ∷ sources) state = reading reads a (postfixes sources) state ∙ reading_all reads sources (have a state)
