-- The symbols of an expression that is written make its tree.
use Rattle.std.proofs.Common.{◌≡◌, ℕ, suc, ◌-◌, ◌≤◌, List, [], ◌∷◌, ◌++◌, length, reverse, Bool, true, false, ◌||◌, ◌==◌, Some, refl, sym}
use Rattle.std.proofs.Common.{◌∙◌, ap, append_assoc, append-nil, arith}
use Rattle.std.proofs.lemmas.Bool.Decides.{nat_tests}
use Rattle.inf_expressions.specs.declared.{operators.Binary.Binary, operators.Operand.Operand, symbols.Symbol.Symbol, units.Wanted.Wanted}
use Rattle.inf_expressions.specs.Sources.{Source, Prefix, Suffix, Two, Then, Call, found_in, meant, opened}
use Rattle.inf_expressions.specs.Units.{Gathered, acted, call_joined, gathered, listed, nothing_gathered, roots_finding, with_two_of}
use Rattle.inf_expression_laws.specs.Precedence.{Written, brackets, tighter, in_front, behind, between, assigned}
use Rattle.inf_expression_laws.specs.Precedence.{tested, called, alone, Listed, one, more, list_of, sign_between}
use Rattle.inf_expression_laws.specs.Gathered.{joints, symbols_behind, symbols_of}
use Rattle.inf_expression_laws.specs.Laws.{SymbolsComeToTheirTree, joins_commas}
use Rattle.inf_expression_laws.proofs.{Standing.list_joints, Steps.test_symbols}

-- an expression more, and several more
abbrev gained : ℕ → List Operand → Source → Gathered → Gathered
gained unit operands a g = record { trees = meant operands a ∷ g.trees; finding = found_in unit operands a g.finding }

abbrev all_gained : ℕ → List Operand → List Source → Gathered → Gathered
all_gained unit operands [] g = g
all_gained unit operands (a ∷ sources) g = all_gained unit operands sources (gained unit operands a g)

-- Tells whether the symbols of an expression are read as that expression, whatever follows them.
abbrev IsRead : Wanted → Bool → ℕ → List Operand → Source → Type 0
IsRead w in_brackets unit operands a =
    (rest : List Symbol) (g : Gathered) → gathered w unit operands (symbols_of in_brackets a ++ rest) g ≡ gathered w unit operands rest
    (gained unit operands a g)

abbrev AreRead : Wanted → Bool → ℕ → List Operand → List Source → Type 0
AreRead w in_brackets unit operands [] = 0 ≤ 0
AreRead w in_brackets unit operands (a ∷ sources) = IsRead w in_brackets unit operands a × AreRead w in_brackets unit operands sources

one_more_read : (w : Wanted) (in_brackets : Bool) (unit : ℕ) (operands : List Operand) (sources : List Source) (b : Source) →
    AreRead w in_brackets unit operands sources → IsRead w in_brackets unit operands b → AreRead w in_brackets unit operands
    (sources ++ b ∷ [])
one_more_read w in_brackets unit operands [] b are is = (is, are)
one_more_read w in_brackets unit operands (a ∷ sources) b are is = (are.0, one_more_read w in_brackets unit operands sources b are.1 is)

-- the parts of a list are read
list_read : (w : Wanted) (in_brackets : Bool) (unit : ℕ) (operands : List Operand) (a : Source) (sources : List Source) →
    AreRead w in_brackets unit operands (a ∷ sources) →
    (rest : List Symbol) (g : Gathered) →
    gathered w unit operands (symbols_of in_brackets (list_of a sources) ++ rest) g ≡ gathered w unit operands rest
    (all_gained unit operands (a ∷ sources) g)
list_read w in_brackets unit operands a [] are rest g = are.0 rest g
list_read w in_brackets unit operands a (b ∷ sources) are rest g =
    ap (λ l. gathered w unit operands l g) (append_assoc (symbols_of in_brackets a) (symbols_of in_brackets (list_of b sources)) rest)
    ∙ are.0 (symbols_of in_brackets (list_of b sources) ++ rest) g
    ∙ list_read w in_brackets unit operands b sources are.1 rest (gained unit operands a g)

-- the parts of a list are joined to it
list_joined : (unit : ℕ) (operands : List Operand) (a : Source) (sources : List Source) (g : Gathered) →
    listed unit (length sources) (all_gained unit operands (a ∷ sources) g) ≡ gained unit operands (list_of a sources) g
list_joined unit operands a [] g = refl
list_joined unit operands a (b ∷ sources) g =
    ap (with_two_of unit Binary.Then) (list_joined unit operands b sources (gained unit operands a g))

joints_are : (a : Source) → (opened a).1 ≡ joints a
joints_are (Then a b) = ap suc (joints_are b)
joints_are other = refl

-- Lemmas about an operator behind two expressions
between_read : (w : Wanted) (in_brackets : Bool) (unit : ℕ) (operands : List Operand) (op : Binary) (b : Source) (g : Gathered)
    (level signs : ℕ) →
    sign_between op ≡ Some (level, signs) → (in_brackets || joins_commas w) ≡ true → gathered w unit operands
    (symbols_behind in_brackets op b) g ≡ with_two_of unit op g
between_read w in_brackets unit operands (Binary.Operation o) b g level signs e j = refl
between_read w in_brackets unit operands (Binary.Property p) b g level signs e j = refl
between_read w in_brackets unit operands (Binary.Test t) b g level signs e j = cc
between_read w in_brackets unit operands (Binary.Fails t) b g level signs e j = cc
between_read w in_brackets unit operands Binary.Assign b g level signs e j = cc
between_read w true unit operands Binary.Comma b g level signs e j = refl
between_read Wanted.Value false unit operands Binary.Comma b g level signs e j = refl
between_read Wanted.Constant false unit operands Binary.Comma b g level signs e j = refl
between_read Wanted.Number false unit operands Binary.Comma b g level signs e j = refl
between_read Wanted.Operand false unit operands Binary.Comma b g level signs e j = refl
between_read Wanted.Case false unit operands Binary.Comma b g level signs e j = cc
between_read Wanted.Loop false unit operands Binary.Comma b g level signs e j = refl
between_read w in_brackets unit operands Binary.And b g level signs e j = refl
between_read w in_brackets unit operands Binary.Or b g level signs e j = refl
between_read w in_brackets unit operands Binary.Call b g level signs e j = cc
between_read w in_brackets unit operands Binary.Then b g level signs e j = cc
between_read w in_brackets unit operands Binary.To b g level signs e j = cc

gathered_on : (w : Wanted) (unit : ℕ) (operands : List Operand) (symbols rest : List Symbol) (g : Gathered) →
    gathered w unit operands (symbols ++ rest) g ≡ gathered w unit operands rest (gathered w unit operands symbols g)
gathered_on w unit operands [] rest g = refl
gathered_on w unit operands (s ∷ symbols) rest g = gathered_on w unit operands symbols rest (acted w unit operands s g)

-- an expression, and symbols behind it
behind_one : (w : Wanted) (in_brackets : Bool) (unit : ℕ) (operands : List Operand) (a : Source) → IsRead w in_brackets unit operands a →
    (last rest : List Symbol) (g : Gathered) →
    gathered w unit operands ((symbols_of in_brackets a ++ last) ++ rest) g ≡ gathered w unit operands rest
    (gathered w unit operands last (gained unit operands a g))
behind_one w in_brackets unit operands a is last rest g =
    ap (λ l. gathered w unit operands l g) (append_assoc (symbols_of in_brackets a) last rest)
    ∙ is (last ++ rest) g
    ∙ gathered_on w unit operands last rest (gained unit operands a g)

-- an expression, another one or a list, and symbols behind them
behind_two : (w : Wanted) (in_brackets : Bool) (unit : ℕ) (operands : List Operand) (a list : Source) (after : Gathered → Gathered) →
    IsRead w in_brackets unit operands a →
    ((rest : List Symbol) (g : Gathered) → gathered w unit operands (symbols_of in_brackets list ++ rest) g ≡ gathered w unit operands rest
    (after g)) →
    (last rest : List Symbol) (g : Gathered) →
    gathered w unit operands (((symbols_of in_brackets a ++ symbols_of in_brackets list) ++ last) ++ rest) g
    ≡ gathered w unit operands rest (gathered w unit operands last (after (gained unit operands a g)))
behind_two w in_brackets unit operands a list after is lists last rest g =
    ap (λ l. gathered w unit operands l g) (append_assoc (symbols_of in_brackets a ++ symbols_of in_brackets list) last rest
    ∙ append_assoc (symbols_of in_brackets a) (symbols_of in_brackets list) (last ++ rest))
    ∙ is (symbols_of in_brackets list ++ (last ++ rest)) g
    ∙ lists (last ++ rest) (gained unit operands a g)
    ∙ gathered_on w unit operands last rest (after (gained unit operands a g))

call_is : (unit : ℕ) (operands : List Operand) (f b : Source) (sources : List Source) (n : ℕ) (g : Gathered) → n ≡ length sources →
    joints (list_of b sources) ≡ length sources →
    (w : Wanted) → acted w unit operands (Symbol.Call (suc n)) (all_gained unit operands (b ∷ sources) (gained unit operands f g)) ≡ gained
    unit operands (Call f (list_of b sources)) g
call_is unit operands f b sources n g e j w =
    let less : suc n - 1 ≡ n = omega arith in
    let not_none : (suc n == 0) ≡ false = grind (arith, nat_tests) in
    let whole = all_gained unit operands (b ∷ sources) (gained unit operands f g) in
    rw (not_none, less) (ap (call_joined unit (suc n))
    (ap (λ m. listed unit m whole) e ∙ list_joined unit operands b sources (gained unit operands f g))
    ∙ ap (λ m. call_joined unit (suc m) (gained unit operands (list_of b sources) (gained unit operands f g)))
    (e ∙ sym j ∙ sym (joints_are (list_of b sources))))

mutual
  written_read : (w : Wanted) (in_brackets : Bool) (unit : ℕ) (operands : List Operand) → (in_brackets || joins_commas w) ≡ true →
      {level order place : ℕ} {atoms : List ℕ} {a : Source} → Written level order place atoms a → IsRead w in_brackets unit operands a
  written_read w in_brackets unit operands j (brackets {order = order} right atoms {a = a} l v r) rest g =
      behind_one w true unit operands a (written_read w true unit operands refl v) (Symbol.Bracketed order ∷ []) rest g
  written_read w in_brackets unit operands j (tighter v) rest g = written_read w in_brackets unit operands j v rest g
  written_read w in_brackets unit operands j (in_front {order = order} signs {op = op} {a = a} e h v) rest g =
      behind_one w in_brackets unit operands a (written_read w in_brackets unit operands j v) (Symbol.Prefix order op ∷ []) rest g
  written_read w in_brackets unit operands j (behind signs sign atoms {op = op} {a = a} e v h) rest g =
      behind_one w in_brackets unit operands a (written_read w in_brackets unit operands j v) (Symbol.Suffix op ∷ []) rest g
  written_read w in_brackets unit operands j (between {level = level} signs sign left right {op = op} {a = a} {b = b} e v h u) rest g =
      behind_two w in_brackets unit operands a b (gained unit operands b) (written_read w in_brackets unit operands j v)
      (written_read w in_brackets unit operands j u) (symbols_behind in_brackets op b) rest g
      ∙ ap (gathered w unit operands rest) (between_read w in_brackets unit operands op b
      (gained unit operands b (gained unit operands a g)) level signs e j)
  written_read w in_brackets unit operands j (assigned sign left right {a = a} {b = b} v h u) rest g =
      behind_two w in_brackets unit operands a b (gained unit operands b) (written_read w in_brackets unit operands j v)
      (written_read w in_brackets unit operands j u) (Symbol.Two Binary.Assign ∷ []) rest g
  written_read w in_brackets unit operands j (tested signs sign left right {op = op} {a = a} b sources e v h l) rest g =
      behind_two w in_brackets unit operands a (list_of b sources) (all_gained unit operands (b ∷ sources))
      (written_read w in_brackets unit operands j v)
      (list_read w in_brackets unit operands b sources (listed_read w in_brackets unit operands j l))
      (symbols_behind in_brackets op (list_of b sources)) rest g
      ∙ ap (λ s. gathered w unit operands rest (gathered w unit operands s (all_gained unit operands (b ∷ sources)
      (gained unit operands a g)))) (test_symbols in_brackets op (list_of b sources) signs e)
      ∙ ap (λ m. gathered w unit operands rest (with_two_of unit op (listed unit m (all_gained unit operands (b ∷ sources)
      (gained unit operands a g))))) (list_joints b sources l)
      ∙ ap (λ x. gathered w unit operands rest (with_two_of unit op x)) (list_joined unit operands b sources (gained unit operands a g))
  written_read w in_brackets unit operands j (called left right atoms given {f = f} b sources v h l r) rest g =
      behind_two w in_brackets unit operands f (list_of b sources) (all_gained unit operands (b ∷ sources))
      (written_read w in_brackets unit operands j v)
      (list_read w in_brackets unit operands b sources (listed_read w in_brackets unit operands j l))
      (Symbol.Call (suc (joints (list_of b sources))) ∷ []) rest g
      ∙ ap (gathered w unit operands rest) (call_is unit operands f b sources (joints (list_of b sources)) g (list_joints b sources l)
      (list_joints b sources l) w)
  written_read w in_brackets unit operands j (alone left right atoms {f = f} v h r) rest g =
      behind_one w in_brackets unit operands f (written_read w in_brackets unit operands j v) (Symbol.Call 0 ∷ []) rest g
  written_read w in_brackets unit operands j other rest g = refl

  listed_read : (w : Wanted) (in_brackets : Bool) (unit : ℕ) (operands : List Operand) → (in_brackets || joins_commas w) ≡ true →
      {level signs order place : ℕ} {atoms : List ℕ} {sources : List Source} → Listed level signs order place atoms sources → AreRead w
      in_brackets unit operands sources
  listed_read w in_brackets unit operands j (one v) = (written_read w in_brackets unit operands j v, omega arith)
  listed_read w in_brackets unit operands j (more sign left right sources a l h v) =
      one_more_read w in_brackets unit operands sources a (listed_read w in_brackets unit operands j l)
      (written_read w in_brackets unit operands j v)

pub symbols_come_to_their_tree : SymbolsComeToTheirTree
symbols_come_to_their_tree w in_brackets unit operands level order place atoms a v j =
    let whole : gathered w unit operands (symbols_of in_brackets a) nothing_gathered ≡ gained unit operands a nothing_gathered =
    ap (λ l. gathered w unit operands l nothing_gathered) (sym (append-nil (symbols_of in_brackets a)))
    ∙ written_read w in_brackets unit operands j v [] nothing_gathered in
    (ap (λ (g : Gathered). reverse g.trees) whole, ap (λ (g : Gathered). roots_finding w unit (reverse g.trees) g.finding) whole)
