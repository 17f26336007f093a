-- The change of items by each row of an expression: a table of its rules, checked against the grammar by evaluation.
use Rattle.std.proofs.Common.{◌≡◌, ℕ, suc, List, [], ◌∷◌, ◌++◌, Bool, true, false, ◌&&◌, ◌==◌, Option, Some, None, refl, sym, ◌∙◌, ap}
use Rattle.std.proofs.Common.{subst, append_assoc, inl, inr, if◌then◌else◌}
use Rattle.std.proofs.lemmas.Bool.{agree_below, agree_below_at, and_parts, cases_lt}
use Rattle.std.proofs.lemmas.Option.{same_Some}
use Rattle.inf_machine.specs.{Decided.is_within, Pieces.all_rows, declared.symbols.Symbol.Symbol}
use Rattle.inf_machine.specs.Grammar.{Row, IsOneOf, first, later}
use Rattle.inf_scanner.specs.declared.tokens.Mark.{Mark}
use Rattle.inf_syntax.specs.{Atoms.of_mark, Classes.operand, declared.actions.Action.Action}
use Rattle.inf_syntax.specs.declared.parts.names.TheConstants as Part
use Rattle.inf_expressions.specs.declared.operators.Binary.{Binary}
use Rattle.inf_unit.specs.{Steps.step_of, declared.steps.GatherStep.GatherStep}
use Rattle.inf_grammar.specs.{Evaluated.rows_past, Language.grammar}
use Rattle.inf_expression_laws.specs.Precedence.{addresses, assignments, closing_sign, comma_sign, commas, complements, connections}
use Rattle.inf_expression_laws.specs.Precedence.{denials, entries, members, negations, opening_sign, operands, or_sign, primaries, products}
use Rattle.inf_expression_laws.specs.Precedence.{sign_behind, sign_between, sign_in_front, sign_of_test, steps_behind, steps_in_front, sums}
use Rattle.inf_expression_laws.specs.Precedence.{tests}
use Rattle.inf_expression_laws.specs.Laws.{Form, forms}
use Rattle.inf_expression_laws.proofs.ActionSteps.{is_sure, only_sure}
use Rattle.inf_expression_laws.proofs.Items.{Item, Sign, Whole, Opened, Closing, NoneYet, Parts, Any, Within, all_fit, all_fit_sound}
use Rattle.inf_expression_laws.proofs.Items.{all_popped, all_popped_sound, and_then, fits_same, item, within_append, within_same}
use Rattle.inf_expression_laws.proofs.Items.{within_trans}

-- The items that are taken from the top, and those that are put there
pub record Change : Type 0 where
  pub old : List Item
  pub now : List Item

abbrev pub change : List Item → List Item → Change
change old now = record { old = old; now = now }

abbrev pub front_changes : Option (ℕ × ℕ) → List Change
front_changes None = []
front_changes (Some sign) = change (Whole sign.0 ∷ Sign sign.1 ∷ []) (Whole sign.0 ∷ []) ∷ []

abbrev pub suffix_changes : Option (ℕ × ℕ) → List Change
suffix_changes None = []
suffix_changes (Some sign) = change (Sign sign.1 ∷ Whole sign.0 ∷ []) (Whole sign.0 ∷ []) ∷ []

abbrev pub between_changes : Option (ℕ × ℕ) → List Change
between_changes None = []
between_changes (Some sign) = change (Whole (suc sign.0) ∷ Sign sign.1 ∷ Whole sign.0 ∷ []) (Whole sign.0 ∷ []) ∷ []

abbrev pub two_changes : Binary → List Change
two_changes Binary.Comma = []
two_changes Binary.Assign = change (Whole assignments ∷ Sign (of_mark Mark.Assign) ∷ Whole connections ∷ []) (Whole assignments ∷ []) ∷ []
two_changes op = between_changes (sign_between op)

abbrev pub test_changes : Option ℕ → List Change
test_changes None = []
test_changes (Some signs) = change (Parts sums or_sign ∷ Sign signs ∷ Whole sums ∷ []) (Whole tests ∷ []) ∷ []

-- the changes of an action, by the step that it gathers: one of these
abbrev pub step_changes : Option GatherStep → List Change
step_changes None = []
step_changes (Some GatherStep.Leaf) = change (Sign operands ∷ []) (Whole primaries ∷ []) ∷ []
step_changes (Some GatherStep.Action) = change (Sign operand ∷ Sign (of_mark Mark.DoubleHash) ∷ []) (Whole primaries ∷ []) ∷ []
step_changes (Some GatherStep.System) = change (Sign operand ∷ Sign (of_mark Mark.Hash) ∷ []) (Whole primaries ∷ []) ∷ []
step_changes (Some (GatherStep.Prefix op)) = front_changes (sign_in_front op)
step_changes (Some (GatherStep.Suffix op)) = suffix_changes (sign_behind op)
step_changes (Some (GatherStep.Two op)) = two_changes op
step_changes (Some GatherStep.Comma) = change (Whole assignments ∷ Sign comma_sign ∷ Whole commas ∷ []) (Whole commas ∷ []) ∷ []
step_changes (Some GatherStep.List) = change [] (NoneYet ∷ []) ∷ []
step_changes (Some GatherStep.Part) = change (Whole sums ∷ NoneYet ∷ []) (Parts sums or_sign ∷ [])
    ∷ change (Whole assignments ∷ NoneYet ∷ []) (Parts assignments comma_sign ∷ [])
    ∷ change (Whole sums ∷ Sign or_sign ∷ Parts sums or_sign ∷ []) (Parts sums or_sign ∷ [])
    ∷ change (Whole assignments ∷ Sign comma_sign ∷ Parts assignments comma_sign ∷ []) (Parts assignments comma_sign ∷ [])
    ∷ []
step_changes (Some GatherStep.Call) =
    change (Sign closing_sign ∷ Any assignments comma_sign ∷ Sign opening_sign ∷ Whole members ∷ []) (Whole members ∷ []) ∷ []
step_changes (Some (GatherStep.Test op)) = test_changes (sign_of_test op)
step_changes (Some GatherStep.Bracket) = change (Sign opening_sign ∷ []) (Opened ∷ []) ∷ []
step_changes (Some GatherStep.Bracketed) =
    change (Sign closing_sign ∷ Whole commas ∷ Opened ∷ []) (Whole primaries ∷ []) ∷ change (Whole commas ∷ Opened ∷ []) (Closing ∷ []) ∷ []

-- the change of a rule
pub record Typing : Type 0 where
  pub rule : Symbol Action
  pub change : Change

abbrev typing : Symbol Action → List Item → List Item → Typing
typing rule old now = record { rule = rule; change = change old now }

abbrev typings : List Typing
typings = typing Part.EXPRESSION [] (Whole commas ∷ []) ∷ typing Part.EXPRESSION_TAIL (Whole commas ∷ []) (Whole commas ∷ [])
    ∷ typing Part.ASSIGN [] (Whole assignments ∷ [])
    ∷ typing Part.ENTRY [] (Whole negations ∷ [])
    ∷ typing Part.BARE_PRIM [] (Whole primaries ∷ [])
    ∷ typing Part.OTHER_ASSIGN [] (Whole assignments ∷ [])
    ∷ typing Part.PREFIXED [] (Whole assignments ∷ [])
    ∷ typing Part.ASSIGN_TAIL (Whole connections ∷ []) (Whole assignments ∷ [])
    ∷ typing Part.ASSIGN_TAIL_1 (Whole connections ∷ []) (Whole assignments ∷ [])
    ∷ typing Part.LOGIC [] (Whole connections ∷ [])
    ∷ typing Part.LOGIC_TAIL (Whole connections ∷ []) (Whole connections ∷ [])
    ∷ typing Part.LOGIC_OPERATOR (Whole connections ∷ []) (Whole connections ∷ [])
    ∷ typing Part.NEGATED [] (Whole denials ∷ [])
    ∷ typing Part.TEST_TAIL (Whole sums ∷ []) (Whole tests ∷ [])
    ∷ typing Part.TEST_TAIL_1 (Whole sums ∷ []) (Whole tests ∷ [])
    ∷ typing Part.TEST (Whole sums ∷ []) (Whole tests ∷ [])
    ∷ typing Part.TESTED [] (Parts sums or_sign ∷ [])
    ∷ typing Part.TESTED_1 (Parts sums or_sign ∷ []) (Parts sums or_sign ∷ [])
    ∷ typing Part.SUM [] (Whole sums ∷ [])
    ∷ typing Part.SUM_TAIL (Whole sums ∷ []) (Whole sums ∷ [])
    ∷ typing Part.SUM_OPERATOR (Whole sums ∷ []) (Whole sums ∷ [])
    ∷ typing Part.TERM [] (Whole products ∷ [])
    ∷ typing Part.TERM_TAIL (Whole products ∷ []) (Whole products ∷ [])
    ∷ typing Part.TERM_OPERATOR (Whole products ∷ []) (Whole products ∷ [])
    ∷ typing Part.BIT [] (Whole complements ∷ [])
    ∷ typing Part.ARRAY_TAIL (Whole entries ∷ []) (Whole entries ∷ [])
    ∷ typing Part.ARRAY_OPERATOR (Whole entries ∷ []) (Whole entries ∷ [])
    ∷ typing Part.NEG [] (Whole negations ∷ [])
    ∷ typing Part.INC [] (Whole steps_in_front ∷ [])
    ∷ typing Part.STEP_PREFIX [] (Whole steps_in_front ∷ [])
    ∷ typing Part.STEP_TAIL (Whole steps_behind ∷ []) (Whole steps_behind ∷ [])
    ∷ typing Part.STEP_OPERATOR (Whole steps_behind ∷ []) (Whole steps_behind ∷ [])
    ∷ typing Part.ADDRESS_TAIL (Whole addresses ∷ []) (Whole addresses ∷ [])
    ∷ typing Part.ADDRESS_OPERATOR (Whole addresses ∷ []) (Whole addresses ∷ [])
    ∷ typing Part.POST [] (Whole members ∷ [])
    ∷ typing Part.POST_TAIL (Whole members ∷ []) (Whole members ∷ [])
    ∷ typing Part.CALL (Whole members ∷ []) (Whole members ∷ [])
    ∷ typing Part.CALL_1 (NoneYet ∷ []) (Any assignments comma_sign ∷ [])
    ∷ typing Part.CALL_2 (Parts assignments comma_sign ∷ []) (Parts assignments comma_sign ∷ [])
    ∷ typing Part.PRIM [] (Whole primaries ∷ [])
    ∷ typing Part.OTHER_PRIM [] (Whole primaries ∷ [])
    ∷ typing Part.BRACKETED [] (Whole primaries ∷ [])
    ∷ typing Part.PLAIN_PRIM [] (Whole primaries ∷ [])
    ∷ typing Part.AFTER_PRIM (Whole members ∷ []) (Whole assignments ∷ [])
    ∷ typing Part.AFTER_UNARY (Whole entries ∷ []) (Whole assignments ∷ [])
    ∷ typing Part.OPERATOR (Whole members ∷ []) (Whole assignments ∷ [])
    ∷ typing Part.OTHER_OPERATOR (Whole members ∷ []) (Whole assignments ∷ [])
    ∷ typing Part.INNER_OPERATOR (Whole members ∷ []) (Whole steps_behind ∷ [])
    ∷ typing Part.MEMBER_OPERATOR (Whole members ∷ []) (Whole steps_behind ∷ [])
    ∷ typing Part.OUTER_OPERATOR (Whole entries ∷ []) (Whole assignments ∷ [])
    ∷ []

abbrev is_rule : ℕ → Symbol Action → Bool
is_rule number (Symbol.Rule rule) = number == rule
is_rule number (Symbol.Token class) = false
is_rule number (Symbol.Act a) = false

abbrev found_change : ℕ → List Typing → Option Change
found_change number [] = None
found_change number (t ∷ rest) = if is_rule number t.rule then Some t.change else found_change number rest

abbrev pub rule_change : ℕ → Option Change
rule_change number = found_change number typings

-- Items behind symbols that are passed, if each finds the items that it takes.

abbrev pub changed : Change → List Item → Option (List Item)
changed c items = and_then (λ rest. Some (c.now ++ rest)) (all_popped c.old items)

abbrev or_else : Option (List Item) → Option (List Item) → Option (List Item)
or_else (Some items) other = Some items
or_else None other = other

abbrev pub changed_by_one : List Change → List Item → Option (List Item)
changed_by_one [] items = None
changed_by_one (c ∷ changes) items = or_else (changed c items) (changed_by_one changes items)

abbrev pub changed_by : Option Change → List Item → Option (List Item)
changed_by None items = None
changed_by (Some c) items = changed c items

-- A closing bracket ends an expression in brackets. Every other token is put on the top.
abbrev pub with_token : ℕ → List Item → List Item
with_token set (Closing ∷ rest) = if is_within set closing_sign then Whole primaries ∷ rest else Sign set ∷ Closing ∷ rest
with_token set items = Sign set ∷ items

abbrev pub passed : List (Symbol Action) → List Item → Option (List Item)
passed [] items = Some items
passed (Symbol.Token class ∷ symbols) items = passed symbols (with_token (grammar.atoms_of class) items)
passed (Symbol.Act a ∷ symbols) items =
    if is_sure a then passed symbols items else and_then (passed symbols) (changed_by_one (step_changes (step_of a)) items)
passed (Symbol.Rule rule ∷ symbols) items = and_then (passed symbols) (changed_by (rule_change rule) items)

-- the passing of symbols as a relation
pub data Passes : List Item → List (Symbol Action) → List Item → Type 0 where
  done : {items target : List Item} → Within items target → Passes items [] target
  token : {class : ℕ} {items target : List Item} {symbols : List (Symbol Action)} →
      Passes (Sign (grammar.atoms_of class) ∷ items) symbols target → Passes items (Symbol.Token class ∷ symbols) target
  close : {class : ℕ} {items rest target : List Item} {symbols : List (Symbol Action)} → Within items (Closing ∷ rest) →
      is_within (grammar.atoms_of class) closing_sign ≡ true → Passes (Whole primaries ∷ rest) symbols target →
      Passes items (Symbol.Token class ∷ symbols) target
  sure : {items target : List Item} {symbols : List (Symbol Action)} → Passes items symbols target →
      Passes items (Symbol.Act Action.OuterSure ∷ symbols) target
  act : {a : Action} {items target : List Item} {symbols : List (Symbol Action)} (c : Change) (rest : List Item) →
      IsOneOf c (step_changes (step_of a)) → Within items (c.old ++ rest) → Passes (c.now ++ rest) symbols target →
      Passes items (Symbol.Act a ∷ symbols) target
  rule : {r : ℕ} {items target : List Item} {symbols : List (Symbol Action)} (c : Change) (rest : List Item) → rule_change r ≡ Some c →
      Within items (c.old ++ rest) → Passes (c.now ++ rest) symbols target → Passes items (Symbol.Rule r ∷ symbols) target

-- the items that a change took from the top, where the rest stays
record Took (c : Change) (items next : List Item) : Type 0 where
  rest : List Item
  within : Within items (c.old ++ rest)
  is : next ≡ c.now ++ rest

changed_sound : (c : Change) (items next : List Item) → changed c items ≡ Some next → Took c items next
changed_sound c items next e = by_rest (all_popped c.old items) refl e
  where
    by_rest : (o : Option (List Item)) → all_popped c.old items ≡ o → and_then (λ rest. Some (c.now ++ rest)) o ≡ Some next →
        Took c items next
    by_rest None p q = cc
    by_rest (Some rest) p q =
        record { rest = rest; within = all_popped_sound c.old items rest p; is = sym (same_Some (c.now ++ rest) next q) }

record TookOne (changes : List Change) (items next : List Item) : Type 0 where
  c : Change
  one : IsOneOf c changes
  took : Took c items next

one_sound : (changes : List Change) (items next : List Item) → changed_by_one changes items ≡ Some next → TookOne changes items next
one_sound [] items next e = cc
one_sound (c ∷ changes) items next e = by_first (λ q. one_sound changes items next q) (changed c items) refl e
  where
    further : TookOne changes items next → TookOne (c ∷ changes) items next
    further t = record { c = t.c; one = later t.one; took = t.took }

    by_first : (changed_by_one changes items ≡ Some next → TookOne changes items next) → (o : Option (List Item)) → changed c items ≡ o →
        or_else o (changed_by_one changes items) ≡ Some next → TookOne (c ∷ changes) items next
    by_first others None p q = further (others q)
    by_first others (Some found) p q = record { c = c; one = first; took = changed_sound c items next (p ∙ q) }

record TookBy (o : Option Change) (items next : List Item) : Type 0 where
  c : Change
  is : o ≡ Some c
  took : Took c items next

by_sound : (o : Option Change) (items next : List Item) → changed_by o items ≡ Some next → TookBy o items next
by_sound None items next e = cc
by_sound (Some c) items next e = record { c = c; is = refl; took = changed_sound c items next e }

passed_token : (class : ℕ) (items target : List Item) (symbols : List (Symbol Action)) →
    Passes (with_token (grammar.atoms_of class) items) symbols target → Passes items (Symbol.Token class ∷ symbols) target
passed_token class (Closing ∷ rest) target symbols p = by_test (is_within (grammar.atoms_of class) closing_sign) refl p
  where
    by_test : (b : Bool) → is_within (grammar.atoms_of class) closing_sign ≡ b →
        Passes (if b then Whole primaries ∷ rest else Sign (grammar.atoms_of class) ∷ Closing ∷ rest) symbols target →
        Passes (Closing ∷ rest) (Symbol.Token class ∷ symbols) target
    by_test true e q = close (within_same (Closing ∷ rest)) e q
    by_test false e q = token q
passed_token class other target symbols p = token p

pub passed_sound : (symbols : List (Symbol Action)) (items target last : List Item) → passed symbols items ≡ Some last →
    Within last target → Passes items symbols target
passed_sound [] items target last e w = done (subst (λ l. Within l target) (sym (same_Some items last e)) w)
passed_sound (Symbol.Token class ∷ symbols) items target last e w =
    passed_token class items target symbols (passed_sound symbols (with_token (grammar.atoms_of class) items) target last e w)
passed_sound (Symbol.Act a ∷ symbols) items target last e w =
    by_sure (λ q. passed_sound symbols items target last q w) (λ next q. passed_sound symbols next target last q w) (is_sure a) refl e
  where
    by_next : ((next : List Item) → passed symbols next ≡ Some last → Passes next symbols target) → (o : Option (List Item)) →
        changed_by_one (step_changes (step_of a)) items ≡ o → and_then (passed symbols) o ≡ Some last →
        Passes items (Symbol.Act a ∷ symbols) target
    by_next on None p q = cc
    by_next on (Some next) p q =
        let t = one_sound (step_changes (step_of a)) items next p in
        act t.c t.took.rest t.one t.took.within (subst (λ n. Passes n symbols target) t.took.is (on next q))

    by_sure : (passed symbols items ≡ Some last → Passes items symbols target) →
        ((next : List Item) → passed symbols next ≡ Some last → Passes next symbols target) → (b : Bool) → is_sure a ≡ b →
        (if b then passed symbols items else and_then (passed symbols) (changed_by_one (step_changes (step_of a)) items)) ≡ Some last →
        Passes items (Symbol.Act a ∷ symbols) target
    by_sure same on true f q = subst (λ x. Passes items (Symbol.Act x ∷ symbols) target) (sym (only_sure a f)) (sure (same q))
    by_sure same on false f q = by_next on (changed_by_one (step_changes (step_of a)) items) refl q
passed_sound (Symbol.Rule r ∷ symbols) items target last e w =
    by_next (λ next q. passed_sound symbols next target last q w) (changed_by (rule_change r) items) refl e
  where
    by_next : ((next : List Item) → passed symbols next ≡ Some last → Passes next symbols target) → (o : Option (List Item)) →
        changed_by (rule_change r) items ≡ o → and_then (passed symbols) o ≡ Some last → Passes items (Symbol.Rule r ∷ symbols) target
    by_next on None p q = cc
    by_next on (Some next) p q =
        let t = by_sound (rule_change r) items next p in
        rule t.c t.took.rest t.is t.took.within (subst (λ n. Passes n symbols target) t.took.is (on next q))

-- Items that are cases of wider ones pass where those do, and the items below stay.

narrower : {items wider target : List Item} {symbols : List (Symbol Action)} → Within items wider → Passes wider symbols target →
    Passes items symbols target
narrower w (done v) = done (within_trans w v)
narrower {items = items} w (token {class = class} {items = wider} {target = target} {symbols = symbols} p) =
    token (narrower {items = Sign (grammar.atoms_of class) ∷ items} (item (fits_same (Sign (grammar.atoms_of class))) w) p)
narrower w (close v e p) = close (within_trans w v) e p
narrower w (sure p) = sure (narrower w p)
narrower w (act c rest one v p) = act c rest one (within_trans w v) p
narrower w (rule c rest is v p) = rule c rest is (within_trans w v) p

pub joined : {items middle target : List Item} {symbols more : List (Symbol Action)} → Passes items symbols middle →
    Passes middle more target → Passes items (symbols ++ more) target
joined (done w) q = narrower w q
joined (token p) q = token (joined p q)
joined (close w e p) q = close w e (joined p q)
joined (sure p) q = sure (joined p q)
joined (act c rest one w p) q = act c rest one w (joined p q)
joined (rule c rest is w p) q = rule c rest is w (joined p q)

pub below : {items target : List Item} {symbols : List (Symbol Action)} (under : List Item) → Passes items symbols target →
    Passes (items ++ under) symbols (target ++ under)
below under (done w) = done (within_append under w)
below under (token p) = token (below under p)
below under (close w e p) = close (within_append under w) e (below under p)
below under (sure p) = sure (below under p)
below under (act {items = items} {target = target} {symbols = symbols} c rest one w p) = act c (rest ++ under) one
    (subst (λ xs. Within (items ++ under) xs) (append_assoc c.old rest under) (within_append under w))
    (subst (λ xs. Passes xs symbols (target ++ under)) (append_assoc c.now rest under) (below under p))
below under (rule {items = items} {target = target} {symbols = symbols} c rest is w p) = rule c (rest ++ under) is
    (subst (λ xs. Within (items ++ under) xs) (append_assoc c.old rest under) (within_append under w))
    (subst (λ xs. Passes xs symbols (target ++ under)) (append_assoc c.now rest under) (below under p))

-- Each row of a rule changes items as the rule does, by evaluation over the table.

abbrev fit_now : Change → Option (List Item) → Bool
fit_now c None = false
fit_now c (Some last) = all_fit last c.now

abbrev row_fits : Change → List (Symbol Action) → Bool
row_fits c parts = fit_now c (passed parts c.old)

abbrev rows_fit : Option Change → List (Row Action) → Bool
rows_fit None rows = true
rows_fit (Some c) rows = all_rows (row_fits c) rows

all_typed : agree_below (λ rule. rows_fit (rule_change rule) (grammar.rows_of rule)) (λ rule. true) 256 ≡ true
unfolding grammar
all_typed = refl

typed_rule : (r : ℕ) → rows_fit (rule_change r) (grammar.rows_of r) ≡ true
typed_rule r =
    elim (cases_lt r 256) [
      | inl l ↦ agree_below_at (λ rule. rows_fit (rule_change rule) (grammar.rows_of rule)) (λ rule. true) 256 r all_typed l
      | inr l ↦ past (rule_change r) (grammar.rows_of r) (rows_past r l)
    ]
  where
    past : (o : Option Change) (rows : List (Row Action)) → rows ≡ [] → rows_fit o rows ≡ true
    past None rows e = refl
    past (Some c) rows e = ap (all_rows (row_fits c)) e

fit_sound : (c : Change) (parts : List (Symbol Action)) → row_fits c parts ≡ true → Passes c.old parts c.now
fit_sound c parts e = by_last (passed parts c.old) refl e
  where
    by_last : (o : Option (List Item)) → passed parts c.old ≡ o → fit_now c o ≡ true → Passes c.old parts c.now
    by_last None p q = cc
    by_last (Some last) p q = passed_sound parts c.old c.now last p (all_fit_sound last c.now q)

one_of_all : (passes : List (Symbol Action) → Bool) (rows : List (Row Action)) (r : Row Action) → IsOneOf r rows →
    all_rows passes rows ≡ true → passes r.parts ≡ true
one_of_all passes [] r m h = elim m [ ]
one_of_all passes (r ∷ rows) r' first h = (and_parts (passes r.parts) (all_rows passes rows) h).0
one_of_all passes (y ∷ rows) r (later m) h = one_of_all passes rows r m (and_parts (passes y.parts) (all_rows passes rows) h).1

pub row_passes : (r : ℕ) (c : Change) (row : Row Action) → rule_change r ≡ Some c → IsOneOf row (grammar.rows_of r) →
    Passes c.old row.parts c.now
row_passes r c row e m =
    fit_sound c row.parts (one_of_all (row_fits c) (grammar.rows_of r) row m (ap (λ o. rows_fit o (grammar.rows_of r)) (sym e) ∙ typed_rule
    r))

abbrev all_forms : (Form → Bool) → List Form → Bool
all_forms is [] = true
all_forms is (form ∷ others) = is form && all_forms is others

-- each form of an expression changes items as its level says
forms_typed : all_forms (λ form. row_fits (change [] (Whole form.level ∷ [])) form.symbols) forms ≡ true
unfolding grammar
forms_typed = refl

of_all : (is : Form → Bool) (some : List Form) (form : Form) → IsOneOf form some → all_forms is some ≡ true → is form ≡ true
of_all is [] form m h = elim m [ ]
of_all is (form ∷ some) other first h = (and_parts (is form) (all_forms is some) h).0
of_all is (y ∷ some) form (later m) h = of_all is some form m (and_parts (is y) (all_forms is some) h).1

pub form_passes : (symbols : List (Symbol Action)) (level : ℕ) → IsOneOf (record { symbols = symbols; level = level }) forms →
    Passes [] symbols (Whole level ∷ [])
form_passes symbols level m = fit_sound (change [] (Whole level ∷ [])) symbols
    (of_all (λ form. row_fits (change [] (Whole form.level ∷ [])) form.symbols) forms (record { symbols = symbols; level = level }) m
    forms_typed)
