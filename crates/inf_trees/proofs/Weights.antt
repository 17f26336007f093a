-- The most that texts of rules need, by evaluation over the rows of the grammar: directives nothing, and statements bytes once, but for
-- those that begin lists.
use Rattle.std.proofs.Common.{◌≡◌, ℕ, ◌+◌, ◌≤◌, List, [], ◌∷◌, ◌++◌, Bool, true, false, not, ◌&&◌, ◌||◌, ◌==◌, Option, Some, None, refl}
use Rattle.std.proofs.Common.{sym, ◌∙◌, ap, subst, arith, inl, inr, bit_and, nat_lt, if◌then◌else◌}
use Rattle.std.proofs.lemmas.Bool.{agree_below, agree_below_at, and_parts, cases_lt, eqb-true, le-ltb, ltb-false, or_cases, or_left}
use Rattle.inf_machine.specs.{Pieces.all_rows, declared.symbols.Symbol.Symbol}
use Rattle.inf_machine.specs.Grammar.{Event, IsOneOf, IsText, Leads, Row, action, has, here, row, token}
use Rattle.inf_machine.proofs.Sets.{has_and}
use Rattle.inf_syntax.specs.declared.actions.Action.{Action}
use Rattle.inf_syntax.specs.declared.parts.names.TheConstants as Part
use Rattle.inf_grammar.specs.{Evaluated.rows_past, Language.grammar}
use Rattle.inf_statement_laws.specs.Readings.{Seen}
use Rattle.inf_statement_laws.proofs.Rules.{number}
use Rattle.inf_language.specs.Texts.{atoms_of}
use Rattle.inf_trees.specs.Statements.{begins_list, is_list_atom, list_atoms}
use Rattle.inf_trees.proofs.RuleRows.{row_passes}
use Rattle.inf_trees.proofs.Needs.{Bytes, Kind, Much, Need, Operand, Places, Space, counted, counted_grows, counted_more, need_of}
use Rattle.inf_trees.proofs.Needs.{needs_in}

-- The most that a text of a rule needs, by rules that stand one behind the other on the page of the grammar

abbrev Range : Type 0
Range = ℕ × ℕ

abbrev rules : Symbol Action → Symbol Action → Range
rules first last = (number first, number last)

abbrev is_in : ℕ → List Range → Bool
is_in rule [] = false
is_in rule (r ∷ ranges) = (not (nat_lt rule r.0) && not (nat_lt r.1 rule)) || is_in rule ranges

-- the rules of directives and of expressions, of which no text needs anything
abbrev directive_rules : List Range
directive_rules = rules Part.WHOLE_DIRECTIVE Part.INITIAL_1 ∷ rules Part.EXPRESSION Part.OUTER_OPERATOR ∷ []

unfoldable pub of_directives : ℕ → ℕ
of_directives rule = if is_in rule directive_rules then 0 else 2

-- the rules of statements and cases of which no text needs bytes, and those of which a text needs them once
abbrev free_rules : List Range
free_rules =
    rules Part.EXPRESSION Part.OUTER_OPERATOR ∷ rules Part.STATEMENT_1 Part.STATEMENT_2 ∷ rules Part.STATEMENT_4 Part.STATEMENT_END ∷
    rules Part.TEXT_MORE Part.TEXT_MORE
    ∷ rules Part.RETURN_REST Part.JUMP_REST ∷ rules Part.MOVE_REST Part.OF_EXPRESSION ∷ rules Part.STYLE_REST Part.ACT_3 ∷
    rules Part.TOP_ITEM_1 Part.TOP_ITEM_1
    ∷ rules Part.TOP_ITEM_3 Part.TOP_ITEM_4 ∷ rules Part.TOP_ITEM_11 Part.TOP_ITEM_11 ∷ rules Part.TOP_ITEM_13 Part.TOP_ITEM_15 ∷
    rules Part.TOP_ITEM_17 Part.TOP_ITEM_19
    ∷ rules Part.TOP_ITEM_21 Part.TOP_FOLLOWING_1 ∷ rules Part.FIRST_CASE_2 Part.RANGE ∷ rules Part.SWITCH_ITEM_2 Part.SWITCH_ITEM_3 ∷
    rules Part.SWITCH_ITEM_5 Part.SWITCH_ITEM_9
    ∷ rules Part.SWITCH_ITEM_16 Part.SWITCH_ITEM_16 ∷ rules Part.SWITCH_ITEM_18 Part.SWITCH_ITEM_20 ∷
    rules Part.SWITCH_ITEM_22 Part.SWITCH_ITEM_24
    ∷ rules Part.SWITCH_ITEM_26 Part.OUTER_FOLLOWING_1 ∷ []

abbrev single_rules : List Range
single_rules =
    rules Part.TEXT_STATEMENT Part.TEXT_STATEMENT_1 ∷ rules Part.STRING_REST Part.STRING_REST ∷ rules Part.TOP_ITEM_2 Part.TOP_ITEM_2 ∷
    rules Part.TOP_ITEM_20 Part.TOP_ITEM_20
    ∷ rules Part.SWITCH_ITEM_1 Part.SWITCH_ITEM_1 ∷ rules Part.SWITCH_ITEM_4 Part.SWITCH_ITEM_4 ∷
    rules Part.SWITCH_ITEM_25 Part.SWITCH_ITEM_25 ∷ []

unfoldable pub of_statements : ℕ → ℕ
of_statements rule = if is_in rule free_rules then 0 else if is_in rule single_rules then 1 else 2

abbrev pub weight : (ℕ → ℕ) → Kind → List (Symbol Action) → ℕ
weight of kind [] = 0
weight of kind (Symbol.Token class ∷ symbols) = weight of kind symbols
weight of kind (Symbol.Act a ∷ symbols) = counted (need_of a) kind (weight of kind symbols)
weight of kind (Symbol.Rule rule ∷ symbols) = of rule + weight of kind symbols

-- whether the rows of a rule need no more than is said of it, if this is once at most
abbrev no_more : (ℕ → ℕ) → Kind → ℕ → List (Symbol Action) → Bool
no_more of kind rule parts = not (nat_lt (of rule) (weight of kind parts))

abbrev pub keeps_to : (ℕ → ℕ) → Kind → ℕ → Bool
keeps_to of kind rule = nat_lt 1 (of rule) || all_rows (no_more of kind rule) (grammar.rows_of rule)

abbrev pub AllKeep : (ℕ → ℕ) → Kind → Type 0
AllKeep of kind = agree_below (keeps_to of kind) (λ rule. true) 256 ≡ true

pub directive_bytes : AllKeep of_directives Bytes
unfolding grammar of_directives
directive_bytes = refl

pub directive_places : AllKeep of_directives Places
unfolding grammar of_directives
directive_places = refl

pub statement_bytes : AllKeep of_statements Bytes
unfolding grammar of_statements
statement_bytes = refl

other_of : (b x : Bool) → b ≡ false → (b || x) ≡ true → x ≡ true
other_of true x not_so is = cc
other_of false x not_so is = is

not_true : (b : Bool) → not b ≡ true → b ≡ false
not_true true is = cc
not_true false is = refl

counted_plus : (o : Option Need) (kind : Kind) (m n : ℕ) → counted o kind (m + n) ≡ counted o kind m + n
counted_plus None kind m n = refl
counted_plus (Some Space) Bytes m n = omega arith
counted_plus (Some Space) Places m n = refl
counted_plus (Some Operand) Bytes m n = refl
counted_plus (Some Operand) Places m n = omega arith
counted_plus (Some Much) kind m n = omega arith

module _ (of : ℕ → ℕ) (kind : Kind) (kept : AllKeep of kind) where
  row_weight : (rule : ℕ) → of rule ≤ 1 → (r : Row Action) → IsOneOf r (grammar.rows_of rule) → weight of kind r.parts ≤ of rule
  row_weight rule few r m =
      elim (cases_lt rule 256) [
        | inl below ↦
            ltb-false (of rule) (weight of kind r.parts)
            (not_true (nat_lt (of rule) (weight of kind r.parts))
            (row_passes (no_more of kind rule) (grammar.rows_of rule) r m
            (other_of (nat_lt 1 (of rule)) (all_rows (no_more of kind rule) (grammar.rows_of rule)) (le-ltb 1 (of rule) few)
            (agree_below_at (keeps_to of kind) (λ n. true) 256 rule kept below))))
        | inr past ↦ elim (subst (λ l. IsOneOf r l) (rows_past rule past) m) [ ]
      ]

  weight-append : (xs ys : List (Symbol Action)) → weight of kind (xs ++ ys) ≡ weight of kind xs + weight of kind ys
  weight-append [] ys = none_more (weight of kind ys)
    where
      none_more : (n : ℕ) → n ≡ 0 + n
      none_more n = omega arith
  weight-append (Symbol.Token class ∷ xs) ys = weight-append xs ys
  weight-append (Symbol.Act a ∷ xs) ys =
      ap (counted (need_of a) kind) (weight-append xs ys) ∙ counted_plus (need_of a) kind (weight of kind xs) (weight of kind ys)
  weight-append (Symbol.Rule rule ∷ xs) ys = let others = weight-append xs ys in omega (arith, others)

  -- A text needs no more than its symbols.
  pub weighed : {symbols left : List (Symbol Action)} {atoms : List ℕ} {events : List (Event Action)}
      → Leads grammar symbols atoms events left → weight of kind symbols ≤ 1 → needs_in kind events ≤ weight of kind symbols
  weighed (here {symbols = symbols}) few = none (weight of kind symbols)
    where
      none : (n : ℕ) → 0 ≤ n
      none n = omega arith
  weighed (token h leads) few = weighed leads few
  weighed (action {a} {symbols = symbols} {events = events} leads) few =
      let w = weight of kind symbols in
      let grows = counted_grows (need_of a) kind w w (omega arith) in
      counted_more (need_of a) kind (needs_in kind events) w (weighed leads (omega (arith, few, grows)))
  weighed (row {rule} {r} {symbols} is_row free leads) few =
      let own = row_weight rule (omega (arith, few)) r is_row in
      let joined = weight-append r.parts symbols in
      let more = weighed leads (omega (arith, few, own, joined)) in
      omega (arith, more, own, joined)

-- Statements that begin lists

abbrev is_listed : ℕ → Bool
is_listed set = bit_and set list_atoms == set

abbrev first_listed : List (Symbol Action) → Bool
first_listed (Symbol.Token class ∷ symbols) = is_listed (grammar.atoms_of class)
first_listed _ = false

abbrev pub begins_listed : List (Symbol Action) → Bool
begins_listed [] = false
begins_listed (Symbol.Token class ∷ symbols) = is_listed (grammar.atoms_of class)
begins_listed (Symbol.Act a ∷ symbols) = begins_listed symbols
begins_listed (Symbol.Rule rule ∷ symbols) = all_rows first_listed (grammar.rows_of rule)

first_begins : (xs ys : List (Symbol Action)) → first_listed xs ≡ true → begins_listed (xs ++ ys) ≡ true
first_begins [] ys is = cc
first_begins (Symbol.Token class ∷ xs) ys is = is
first_begins (Symbol.Act a ∷ xs) ys is = cc
first_begins (Symbol.Rule rule ∷ xs) ys is = cc

listed_atom : (set atom : ℕ) → is_listed set ≡ true → has set atom ≡ true → is_list_atom atom ≡ true
unfolding is_list_atom
listed_atom set atom is h = (and_parts (has set atom) (has list_atoms atom)
    (sym (has_and set list_atoms atom) ∙ (ap (λ s. has s atom) (eqb-true (bit_and set list_atoms) set is) ∙ h))).1

none_listed : (symbols : List (Symbol Action)) → symbols ≡ [] → begins_listed symbols ≡ true → ⊥
none_listed symbols none is = contrary (sym (ap begins_listed none) ∙ is)
  where
    contrary : false ≡ true → ⊥
    contrary same = cc

same_first : {x y : ℕ} {xs ys : List ℕ} → x ∷ xs ≡ y ∷ ys → x ≡ y
same_first same = cc

listed_text : {symbols left : List (Symbol Action)} {atoms : List ℕ} {events : List (Event Action)}
    → Leads grammar symbols atoms events left
    → left ≡ [] → begins_listed symbols ≡ true → (seen : List Seen) → atoms_of seen ≡ atoms → begins_list seen ≡ true
listed_text (here {symbols = symbols}) none is seen are = absurd (none_listed symbols none is)
listed_text (token h leads) none is [] are = cc
listed_text (token {class} {atom} h leads) none is (s ∷ seen) are = or_left (is_list_atom s.atom) _
    (listed_atom (grammar.atoms_of class) s.atom is (ap (λ n. has (grammar.atoms_of class) n) (same_first are) ∙ h))
listed_text (action leads) none is seen are = listed_text leads none is seen are
listed_text (row {rule} {r} {symbols} is_row free leads) none is seen are =
    listed_text leads none (first_begins r.parts symbols (row_passes first_listed (grammar.rows_of rule) r is_row is)) seen are

-- Symbols of a unit whose texts need bytes once at most, or begin a list
abbrev pub is_small : List (Symbol Action) → Bool
is_small symbols = not (nat_lt 1 (weight of_statements Bytes symbols)) || begins_listed symbols

pub small_needs : (symbols : List (Symbol Action)) (seen : List Seen) (events : List (Event Action)) → is_small symbols ≡ true
    → IsText grammar symbols (atoms_of seen) events → begins_list seen ≡ false → needs_in Bytes events ≤ 1
small_needs symbols seen events small text plain =
    let w = weight of_statements Bytes symbols in
    elim (or_cases (not (nat_lt 1 w)) (begins_listed symbols) small) [
      | inl is ↦
          let few : w ≤ 1 = ltb-false 1 w (not_true (nat_lt 1 w) is) in
          let less = weighed of_statements Bytes statement_bytes text few in
          omega (arith, few, less)
      | inr is ↦ absurd (contrary (sym (listed_text text refl is seen refl) ∙ plain))
    ]
  where
    contrary : true ≡ false → ⊥
    contrary same = cc
