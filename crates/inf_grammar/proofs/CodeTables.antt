-- The program's tables hold the grammar: by evaluation.
use Rattle.std.proofs.Common.{◌≡◌, ℕ, ◌<◌, ◌≤◌, List, [], ◌∷◌, Bool, true, false, zero, suc, map, reverse, get_or, length, refl, sym, ◌∙◌}
use Rattle.std.proofs.Common.{ap, arith, ◌&&◌, if◌then◌else◌}
use Rattle.std.proofs.lemmas.Bool.{and_parts, cond-true, cond-false}
use Rattle.inf_machine.specs.{Decided.beginning, Grammar.Row, Grammar.has, declared.symbols.Symbol.Symbol}
use Rattle.inf_machine.specs.Machine.{row_for, fits, are_acts, passed_row, way}
use Rattle.inf_grammar.specs.{Evaluated.language_is_decided, Facts.beginnings, Facts.empties, declared.rules.Row.Row as CodeRow}
use Rattle.inf_grammar.specs.{declared.rules.Rule.Rule as CodeRule, declared.rules.Set.Set, declared.rules.Span.Span}
use Rattle.inf_grammar.specs.Language.{grammar, known, rules}
use Rattle.inf_grammar.specs.Tables.{all_classes, all_parts, all_rows, all_rules, set_number, cut, found, span_for}
use Rattle.inf_syntax.specs.{Classes.classes, declared.actions.Action.Action}
use Rattle.inf_machine.proofs.{Deciding.decided_parts, Rows.fits_is_begun, Rows.none_chooses_other}

-- a row by the atoms that begin it and its parts in order
pub record RowView : Type 0 where
  pub begins : ℕ
  pub parts : List (Symbol Action)

pub record RuleView : Type 0 where
  pub begins : ℕ
  pub is_empty : Bool
  pub rows : List RowView
  pub other : List (Symbol Action)

abbrev pub row_view : CodeRow → RowView
row_view row = record { begins = set_number row.begins; parts = reverse (cut row.parts all_parts) }

abbrev pub rule_view : CodeRule → RuleView
rule_view rule = record {
  begins = set_number rule.begins;
  is_empty = rule.is_empty;
  rows = map row_view (cut rule.rows all_rows);
  other = reverse (cut rule.other all_parts);
}

abbrev pub row_of : Row Action → RowView
row_of row = record { begins = beginning grammar known row.parts; parts = row.parts }

abbrev pub rule_of : List (Row Action) → ℕ → Bool → RuleView
rule_of rows begins is_empty =
    record { begins = begins; is_empty = is_empty; rows = map row_of rows; other = passed_row grammar known rows }

abbrev pub rules_of : List (List (Row Action)) → List ℕ → List Bool → List RuleView
rules_of [] _ _ = []
rules_of (rows ∷ rest) [] _ = []
rules_of (rows ∷ rest) (b ∷ bs) [] = []
rules_of (rows ∷ rest) (b ∷ bs) (e ∷ es) = rule_of rows b e ∷ rules_of rest bs es

pub classes_same : map set_number all_classes ≡ classes
unfolding all_classes
classes_same = refl

pub rules_same : map rule_view all_rules ≡ rules_of rules beginnings empties
unfolding grammar known all_parts all_rows all_rules
rules_same = refl

-- The items of the tables are found at their places

class_at : (sets : List Set) (ns : List ℕ) → map set_number sets ≡ ns → (at : ℕ) (d : Set) → at < length sets →
    set_number (get_or sets at d) ≡ get_or ns at 0
class_at [] ns e at d l = absurd (omega arith)
class_at (s ∷ sets) [] e at d l = cc
class_at (s ∷ sets) (n ∷ ns) e zero d l = cc
class_at (s ∷ sets) (n ∷ ns) e (suc at) d l = class_at sets ns (cc) at d (omega arith)

pub class_is : (class : ℕ) (d : Set) → class < length all_classes → set_number (get_or all_classes class d) ≡ grammar.atoms_of class
unfolding grammar
class_is class d l = class_at all_classes classes classes_same class d l

past : (sets : List Set) (ns : List ℕ) → map set_number sets ≡ ns → (at : ℕ) → length sets ≤ at → get_or ns at 0 ≡ 0
past [] [] e at l = refl
past [] (n ∷ ns) e at l = cc
past (s ∷ sets) [] e at l = refl
past (s ∷ sets) (n ∷ ns) e zero l = absurd (omega arith)
past (s ∷ sets) (n ∷ ns) e (suc at) l = past sets ns (cc) at (omega arith)

pub no_class : (class : ℕ) → length all_classes ≤ class → grammar.atoms_of class ≡ 0
unfolding grammar
no_class class l = past all_classes classes classes_same class l

-- A rule of the program is that of the grammar.
pub record IsRule (rule : CodeRule) (at : ℕ) : Type 0 where
  pub begins : set_number rule.begins ≡ known.begins at
  pub empty : rule.is_empty ≡ known.is_empty at
  pub rows : map row_view (cut rule.rows all_rows) ≡ map row_of (grammar.rows_of at)
  pub other : reverse (cut rule.other all_parts) ≡ passed_row grammar known (grammar.rows_of at)

record IsRuleOf (rule : CodeRule) (rows : List (Row Action)) (b : ℕ) (e : Bool) : Type 0 where
  begins : set_number rule.begins ≡ b
  empty : rule.is_empty ≡ e
  same_rows : map row_view (cut rule.rows all_rows) ≡ map row_of rows
  other : reverse (cut rule.other all_parts) ≡ passed_row grammar known rows

rule_at : (code : List CodeRule) (rs : List (List (Row Action))) (bs : List ℕ) (es : List Bool) → map rule_view code ≡ rules_of rs bs es →
    (at : ℕ) (d : CodeRule) → at < length code → IsRuleOf (get_or code at d) (get_or rs at []) (get_or bs at 0) (get_or es at false)
rule_at [] rs bs es e at d l = absurd (omega arith)
rule_at (c ∷ code) [] bs es e at d l = cc
rule_at (c ∷ code) (r ∷ rs) [] es e at d l = cc
rule_at (c ∷ code) (r ∷ rs) (b ∷ bs) [] e at d l = cc
rule_at (c ∷ code) (r ∷ rs) (b ∷ bs) (x ∷ es) e zero d l =
    let same : rule_view c ≡ rule_of r b x = cc in
    record {
      begins = ap (λ v. v.begins) same;
      empty = ap (λ v. v.is_empty) same;
      same_rows = ap (λ v. v.rows) same;
      other = ap (λ v. v.other) same;
    }
rule_at (c ∷ code) (r ∷ rs) (b ∷ bs) (x ∷ es) e (suc at) d l = rule_at code rs bs es (cc) at d (omega arith)

pub rule_is : (at : ℕ) (d : CodeRule) → at < length all_rules → IsRule (get_or all_rules at d) at
unfolding grammar known
rule_is at d l =
    let r = rule_at all_rules rules beginnings empties rules_same at d l in
    record { begins = r.begins; empty = r.empty; rows = r.same_rows; other = r.other }

pub rules_length : length all_rules ≡ 256
unfolding grammar known all_rules
rules_length = refl

-- The parts that are put in place of a rule that is passed over are actions alone

abbrev all_acts : List (List (Row Action)) → Bool
all_acts [] = true
all_acts (rows ∷ rest) = are_acts (passed_row grammar known rows) && all_acts rest

rules_acts : all_acts rules ≡ true
unfolding grammar known
rules_acts = refl

acts_at : (rs : List (List (Row Action))) → all_acts rs ≡ true → (at : ℕ) → are_acts (passed_row grammar known (get_or rs at [])) ≡ true
acts_at [] e at = refl
acts_at (rows ∷ rest) e zero = (and_parts (are_acts (passed_row grammar known rows)) (all_acts rest) e).0
acts_at (rows ∷ rest) e (suc at) = acts_at rest (and_parts (are_acts (passed_row grammar known rows)) (all_acts rest) e).1 at

pub only_acts : (rule : ℕ) → are_acts (passed_row grammar known (grammar.rows_of rule)) ≡ true
unfolding grammar known
only_acts rule = acts_at rules rules_acts rule

-- The row that the program finds is the row that is chosen

pub found_is_chosen : (atom : ℕ) (other : Span) (code : List CodeRow) (rows : List (Row Action)) → map row_view code ≡ map row_of rows →
    reverse (cut (found atom other code) all_parts) ≡ row_for grammar known atom (reverse (cut other all_parts)) rows
found_is_chosen atom other [] [] e = refl
found_is_chosen atom other [] (r ∷ rows) e = cc
found_is_chosen atom other (c ∷ code) [] e = cc
found_is_chosen atom other (c ∷ code) (r ∷ rows) e =
    let same : row_view c ≡ row_of r = cc in
    let begins : has (set_number c.begins) atom ≡ fits grammar known atom r.parts =
    ap (λ v. has v.begins atom) same ∙ sym (fits_is_begun grammar known atom r.parts) in
    by_test (has (set_number c.begins) atom) (fits grammar known atom r.parts) begins (ap (λ v. v.parts) same)
    (found_is_chosen atom other code rows (cc))
  where
    by_test : (b f : Bool) → b ≡ f → reverse (cut c.parts all_parts) ≡ r.parts → reverse (cut (found atom other code) all_parts) ≡ row_for
        grammar known atom (reverse (cut other all_parts)) rows → reverse (cut (if b then c.parts else found atom other code) all_parts) ≡
        (if f then r.parts else row_for grammar known atom (reverse (cut other all_parts)) rows)
    by_test true true q p r' = p
    by_test false false q p r' = r'
    by_test true false q p r' = cc
    by_test false true q p r' = cc

-- The parts that the program puts in place of a rule are those that the machine puts there

pub span_is_way : (atom at : ℕ) (rule : CodeRule) → IsRule rule at →
    reverse (cut (span_for rule atom) all_parts) ≡ way grammar known atom at
span_is_way atom at rule is = by_begun (has (set_number rule.begins) atom) refl where
  rows : List (Row Action)
  rows = grammar.rows_of at

  by_begun : (b : Bool) → has (set_number rule.begins) atom ≡ b → reverse (cut (span_for rule atom) all_parts) ≡ way grammar known atom at
  by_begun true e =
      ap (λ s. reverse (cut s all_parts)) (cond-true (has (set_number rule.begins) atom) (found atom rule.other (cut rule.rows all_rows))
      rule.other e) ∙ found_is_chosen atom rule.other (cut rule.rows all_rows) rows is.rows
      ∙ ap (λ other. row_for grammar known atom other rows) is.other
  by_begun false e =
      let none =
      ap (λ s. has s atom) (decided_parts grammar known at (language_is_decided at)).whole ∙ ap (λ n. has n atom) (sym is.begins) ∙ e in
      ap (λ s. reverse (cut s all_parts)) (cond-false (has (set_number rule.begins) atom) (found atom rule.other (cut rule.rows all_rows))
      rule.other e) ∙ is.other ∙ sym (none_chooses_other grammar known atom (passed_row grammar known rows) rows none)
