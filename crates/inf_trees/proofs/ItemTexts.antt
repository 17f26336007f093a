-- The texts of statements, and of items among which cases may be: units up to the end of a statement or of a case, blocks, and statements
-- that hold others. Each row of the grammar is sorted by evaluation.
use Rattle.std.proofs.Common.{◌≡◌, ℕ, zero, suc, List, [], ◌∷◌, ◌++◌, Bool, true, false, ◌==◌, Option, Some, None, refl, sym, ap, ◌∙◌}
use Rattle.std.proofs.Common.{subst}
use Rattle.std.proofs.lemmas.Bool.{eqb-true}
use Rattle.inf_settings.specs.Bounds.{Limits}
use Rattle.inf_machine.specs.declared.symbols.Symbol.{Symbol}
use Rattle.inf_machine.specs.Grammar.{Event, IsOneOf, IsText, Row, first, later}
use Rattle.inf_syntax.specs.declared.actions.Action.{Action}
use Rattle.inf_syntax.specs.declared.parts.names.TheConstants as Part
use Rattle.inf_grammar.specs.Language.{grammar}
use Rattle.inf_statement_laws.specs.Readings.{Seen}
use Rattle.inf_statement_laws.proofs.Rules.{number}
use Rattle.inf_language.specs.Texts.{atoms_of}
use Rattle.inf_trees.specs.{Ends.case_first, Statements.block, Statements.holding, Statements.is_list_atom}
use Rattle.inf_trees.proofs.{Pending.OfFree, Pending.OfLost, RuleRows.of_rule, RuleRows.opened, Symbols.act_first, UnitsTyped.UnitOf}
use Rattle.inf_trees.proofs.{UnitsTyped.units_typed, Weights.is_small, Weights.of_statements}
use Rattle.inf_trees.proofs.UnitStates.{Ended, Free, Lost, Never, Typed}
use Rattle.inf_trees.proofs.UnitWalks.{OfCase, OfStatement, bind, declared, from_some, holds, one_of, walk}

-- The ways in which a case begins: with a unit, behind the unit before, or with the word of a statement
pub data CaseStart : List (Symbol Action) → Type 0 where
  Begun : CaseStart (Part.DO_BEGIN ∷ [])
  Directly : CaseStart []
  TopWord : {class : ℕ} → CaseStart (Symbol.Token class ∷ [])
  SwitchWord : {class : ℕ} → CaseStart (Part.DO_MAYBE_DEEPER ∷ Symbol.Token class ∷ [])

-- A statement, or where `cases` says so a case
pub data ItemText (before : List (Symbol Action)) (atoms : List ℕ) (events : List (Event Action)) : (cases : Bool) → Type 0 where
  AUnit : {cases : Bool} (symbols : List (Symbol Action)) → Typed declared Action.EndStatement Free symbols Ended → is_small symbols ≡ true
      → case_first events ≡ false → IsText grammar (Part.DO_BEGIN ∷ symbols) atoms events → ItemText before atoms events cases
  ABlock : {cases : Bool} → IsText grammar block atoms events → ItemText before atoms events cases
  Holds : {cases : Bool} (symbols : List (Symbol Action)) → IsOneOf symbols (holding before) → IsText grammar symbols atoms events
      → ItemText before atoms events cases
  ACase : (start symbols : List (Symbol Action)) → CaseStart start → Typed declared Action.EndCase Free symbols Ended
      → case_first events ≡ true → IsText grammar (start ++ symbols) atoms events → ItemText before atoms events true

-- Equal symbols, as far as evaluation tells

abbrev same_act : (a b : Action) → Option (a ≡ b)
same_act Action.Deeper Action.Deeper = Some refl
same_act Action.MaybeDeeper Action.MaybeDeeper = Some refl
same_act Action.EndDirective Action.EndDirective = Some refl
same_act _ _ = None

abbrev same_symbol : (x y : Symbol Action) → Option (x ≡ y)
same_symbol (Symbol.Token m) (Symbol.Token n) = bind (holds (m == n)) (λ is. Some (ap (λ class. Symbol.Token class) (eqb-true m n is)))
same_symbol (Symbol.Act a) (Symbol.Act b) = bind (same_act a b) (λ is. Some (ap (λ c. Symbol.Act c) is))
same_symbol (Symbol.Rule m) (Symbol.Rule n) = bind (holds (m == n)) (λ is. Some (ap (λ rule. Symbol.Rule rule) (eqb-true m n is)))
same_symbol _ _ = None

pub both_same : {x y : Symbol Action} {xs ys : List (Symbol Action)} → x ≡ y → xs ≡ ys → x ∷ xs ≡ y ∷ ys
both_same one others = cc

abbrev pub same_symbols : (xs ys : List (Symbol Action)) → Option (xs ≡ ys)
same_symbols [] [] = Some refl
same_symbols (x ∷ xs) (y ∷ ys) = bind (same_symbol x y) (λ one. bind (same_symbols xs ys) (λ others. Some (both_same one others)))
same_symbols _ _ = None

is_first : {xs ys : List (Symbol Action)} (others : List (List (Symbol Action))) → xs ≡ ys → IsOneOf xs (ys ∷ others)
is_first {xs} others same = subst (λ l. IsOneOf xs (l ∷ others)) same first

abbrev or_later : {xs ys : List (Symbol Action)} (others : List (List (Symbol Action))) → Option (xs ≡ ys) → Option (IsOneOf xs others)
    → Option (IsOneOf xs (ys ∷ others))
or_later others (Some same) more = Some (is_first others same)
or_later others None more = bind more (λ m. Some (later m))

abbrev one_among : (xs : List (Symbol Action)) (all : List (List (Symbol Action))) → Option (IsOneOf xs all)
one_among xs [] = None
one_among xs (ys ∷ others) = or_later others (same_symbols xs ys) (one_among xs others)

-- the beginning of a case, and the symbols behind it
record Started (parts : List (Symbol Action)) : Type 0 where
  start : List (Symbol Action)
  symbols : List (Symbol Action)
  same : parts ≡ start ++ symbols
  is : CaseStart start

abbrev started : (parts : List (Symbol Action)) → Started parts
started (Symbol.Token class ∷ symbols) = record { start = Symbol.Token class ∷ []; symbols = symbols; same = refl; is = TopWord }
started (Symbol.Act Action.MaybeDeeper ∷ Symbol.Token class ∷ symbols) =
    record { start = Part.DO_MAYBE_DEEPER ∷ Symbol.Token class ∷ []; symbols = symbols; same = refl; is = SwitchWord }
started parts = record { start = []; symbols = parts; same = refl; is = Directly }

-- How a row is sorted
data Kind : Type 0 where
  AsUnit : Kind
  AsEither : Kind
  AsCase : Kind
  AsBlock : Kind
  AsHolding : Kind

-- a row by itself, or by the rows of its last rule, which stands behind two symbols at most
data RowKind : Type 0 where
  Itself : Kind → RowKind
  ByLast : List Kind → RowKind

abbrev each_as : {K : Type 0} (P : List (Symbol Action) → Type 0) → (K → (parts : List (Symbol Action)) → Option (P parts)) → List K
    → (rows : List (Row Action)) → Option ((r : Row Action) → IsOneOf r rows → P r.parts)
each_as P sort kinds [] = Some (λ r m. elim m [ ])
each_as P sort [] (x ∷ rows) = None
each_as P sort (kind ∷ kinds) (x ∷ rows) =
    bind (sort kind x.parts) (λ p. bind (each_as P sort kinds rows) (λ others. Some (λ r m. one_of P x rows p others r m)))

module _ (limits : Limits) (before : List (Symbol Action)) (cases : Bool) (seen : List Seen) (events : List (Event Action)) where
  abbrev Sorted : List (Symbol Action) → Type 0
  Sorted parts = IsText grammar parts (atoms_of seen) events → ItemText before (atoms_of seen) events cases

  not_so : {A : Type 0} {e : Action} {t : List Seen} {es : List (Event Action)} → UnitOf limits e Never t es → A
  not_so u = absurd (by_end u.over)
    where
      by_end : Never ≡ Ended → ⊥
      by_end same = cc

  -- a unit that ends as what the first of its ends says
  unit_or_case : (symbols : List (Symbol Action)) → is_small symbols ≡ true → Typed declared Action.EndStatement Free symbols Ended
      → Typed declared Action.EndCase Free symbols Ended → true ≡ cases → Sorted (Part.DO_BEGIN ∷ symbols)
  unit_or_case symbols small one other all text = by_kind (case_first events) refl
    where
      by_kind : (b : Bool) → case_first events ≡ b → ItemText before (atoms_of seen) events cases
      by_kind true is = subst (λ c. ItemText before (atoms_of seen) events c) all (ACase (Part.DO_BEGIN ∷ []) symbols Begun other is text)
      by_kind false is = AUnit symbols one small is text

  only_unit : (symbols : List (Symbol Action)) → is_small symbols ≡ true → Typed declared Action.EndStatement Free symbols Ended
      → Typed declared Action.EndCase Free symbols Never → Sorted (Part.DO_BEGIN ∷ symbols)
  only_unit symbols small one none text = by_kind (case_first events) refl
    where
      by_kind : (b : Bool) → case_first events ≡ b → ItemText before (atoms_of seen) events cases
      by_kind false is = AUnit symbols one small is text
      by_kind true is =
          let b = act_first Action.Begin symbols seen events text in
          not_so (units_typed limits OfCase b.text refl seen refl none refl (sym (ap case_first b.are) ∙ is) [] [] OfFree)

  only_case : (start symbols : List (Symbol Action)) → CaseStart start → Typed declared Action.EndCase Free symbols Ended
      → Typed declared Action.EndStatement Lost (start ++ symbols) Never → true ≡ cases → Sorted (start ++ symbols)
  only_case start symbols is one none all text = by_kind (case_first events) refl
    where
      by_kind : (b : Bool) → case_first events ≡ b → ItemText before (atoms_of seen) events cases
      by_kind true kind = subst (λ c. ItemText before (atoms_of seen) events c) all (ACase start symbols is one kind text)
      by_kind false kind = not_so (units_typed limits OfStatement text refl seen refl none refl kind [] [] OfLost)

  moved_text : {xs ys : List (Symbol Action)} → xs ≡ ys → Sorted ys → Sorted xs
  moved_text same on text = on (subst (λ l. IsText grammar l (atoms_of seen) events) same text)

  abbrev are_cases : (b : Bool) → Option (true ≡ b)
  are_cases true = Some refl
  are_cases false = None

  abbrev sorted : Kind → (parts : List (Symbol Action)) → Option (Sorted parts)
  sorted AsUnit (Symbol.Act Action.Begin ∷ symbols) =
      bind (holds (is_small symbols)) (λ small. bind (walk 80 Action.EndStatement Free symbols Ended)
      (λ one. bind (walk 80 Action.EndCase Free symbols Never) (λ none. Some (only_unit symbols small one none))))
  sorted AsEither (Symbol.Act Action.Begin ∷ symbols) =
      bind (are_cases cases) (λ all. bind (holds (is_small symbols)) (λ small. bind (walk 80 Action.EndStatement Free symbols Ended)
      (λ one. bind (walk 80 Action.EndCase Free symbols Ended) (λ other. Some (unit_or_case symbols small one other all)))))
  sorted AsCase parts =
      let s = started parts in
      bind (are_cases cases) (λ all. bind (walk 80 Action.EndCase Free s.symbols Ended)
      (λ one. bind (walk 80 Action.EndStatement Lost (s.start ++ s.symbols) Never)
      (λ none. Some (moved_text s.same (only_case s.start s.symbols s.is one none all)))))
  sorted AsBlock parts = bind (same_symbols parts block) (λ same. Some (moved_text same (λ text. ABlock text)))
  sorted AsHolding parts = bind (one_among parts (holding before)) (λ is. Some (λ text. Holds parts is text))
  sorted _ _ = None

  -- a rule with what stands before it, by its rows
  by_last : (xs : List (Symbol Action)) (rule : ℕ)
      → ((r : Row Action) → IsOneOf r (grammar.rows_of rule) → Sorted (xs ++ (r.parts ++ []))) → Sorted (xs ++ Symbol.Rule rule ∷ [])
  by_last xs rule each text = let o = opened text refl xs rule [] refl in each o.way o.is_row o.text

  abbrev sorted_last : List Kind → (xs : List (Symbol Action)) (rule : ℕ) → Option (Sorted (xs ++ Symbol.Rule rule ∷ []))
  sorted_last kinds xs rule =
      bind (each_as (λ parts. Sorted (xs ++ (parts ++ []))) (λ kind parts. sorted kind (xs ++ (parts ++ []))) kinds (grammar.rows_of rule))
      (λ each. Some (by_last xs rule each))

  abbrev sorted_row : RowKind → (parts : List (Symbol Action)) → Option (Sorted parts)
  sorted_row (Itself kind) parts = sorted kind parts
  sorted_row (ByLast kinds) (Symbol.Rule rule ∷ []) = sorted_last kinds [] rule
  sorted_row (ByLast kinds) (x ∷ Symbol.Rule rule ∷ []) = sorted_last kinds (x ∷ []) rule
  sorted_row (ByLast kinds) (x ∷ y ∷ Symbol.Rule rule ∷ []) = sorted_last kinds (x ∷ y ∷ []) rule
  sorted_row _ _ = None

  abbrev sorted_rule : List RowKind → (rule : ℕ) → Option ((r : Row Action) → IsOneOf r (grammar.rows_of rule) → Sorted r.parts)
  sorted_rule kinds rule = each_as Sorted sorted_row kinds (grammar.rows_of rule)

-- The rules

abbrev times : {A : Type 0} → ℕ → A → List A → List A
times zero x xs = xs
times (suc n) x xs = x ∷ times n x xs

abbrev marks : RowKind
marks = ByLast (AsUnit ∷ AsBlock ∷ times 4 AsUnit [])

abbrev word_or_value : RowKind
word_or_value = ByLast (AsHolding ∷ AsCase ∷ [])

abbrev statement_kinds : List RowKind
statement_kinds = marks ∷ times 4 (Itself AsUnit) (ByLast (times 6 AsHolding []) ∷ times 9 (Itself AsUnit) [])

abbrev top_kinds : List RowKind
top_kinds = marks ∷ times 5 (Itself AsEither) (times 6 word_or_value (times 9 (Itself AsEither) (Itself AsCase ∷ [])))

abbrev switch_kinds : List RowKind
switch_kinds = marks ∷ times 6 (Itself AsEither) (times 6 word_or_value (times 9 (Itself AsEither) (Itself AsCase ∷ [])))

module _ (limits : Limits) (seen : List Seen) (events : List (Event Action)) where
  pub statement_text : IsText grammar (Part.STATEMENT ∷ []) (atoms_of seen) events →
      ItemText (Part.DO_DEEPER ∷ []) (atoms_of seen) events false
  unfolding grammar declared of_statements is_list_atom
  statement_text text = of_rule (number Part.STATEMENT) text
      (from_some (sorted_rule limits (Part.DO_DEEPER ∷ []) false seen events statement_kinds (number Part.STATEMENT)) refl)

  pub top_item_text : IsText grammar (Part.TOP_ITEM ∷ []) (atoms_of seen) events → ItemText [] (atoms_of seen) events true
  unfolding grammar declared of_statements is_list_atom
  top_item_text text =
      of_rule (number Part.TOP_ITEM) text (from_some (sorted_rule limits [] true seen events top_kinds (number Part.TOP_ITEM)) refl)

  pub switch_item_text : IsText grammar (Part.SWITCH_ITEM ∷ []) (atoms_of seen) events
      → ItemText (Part.DO_MAYBE_DEEPER ∷ []) (atoms_of seen) events true
  unfolding grammar declared of_statements is_list_atom
  switch_item_text text = of_rule (number Part.SWITCH_ITEM) text
      (from_some (sorted_rule limits (Part.DO_MAYBE_DEEPER ∷ []) true seen events switch_kinds (number Part.SWITCH_ITEM)) refl)

  pub first_case_text : IsText grammar (Part.FIRST_CASE ∷ []) (atoms_of seen) events
      → ItemText (Part.DO_MAYBE_DEEPER ∷ []) (atoms_of seen) events true
  unfolding grammar declared of_statements is_list_atom
  first_case_text text = of_rule (number Part.FIRST_CASE) text
      (from_some (sorted_rule limits (Part.DO_MAYBE_DEEPER ∷ []) true seen events (times 2 (Itself AsCase) []) (number Part.FIRST_CASE))
      refl)
