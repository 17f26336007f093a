-- Every expression by the levels of its operators is a text of the grammar, and the events of the text build it.
use Rattle.std.proofs.Common.{◌≡◌, ℕ, zero, suc, ◌≤◌, ◌<◌, List, [], ◌∷◌, ◌++◌, length, true, false, bit_and, Some, refl, sym, ◌∙◌, ap}
use Rattle.std.proofs.Common.{subst, append_assoc, append-nil, arith, inl, inr}
use Rattle.std.proofs.lemmas.Bool.{or_cases}
use Rattle.inf_machine.specs.declared.symbols.Symbol.{Symbol}
use Rattle.inf_machine.specs.Grammar.{Event, IsText, Leads, Took, Did, first, later, has, here, token, action, row}
use Rattle.inf_machine.proofs.Sets.{has_or, has_zero}
use Rattle.inf_scanner.specs.declared.tokens.Mark.{Mark}
use Rattle.inf_syntax.specs.{Classes.operand as operand_names, declared.actions.Action.Action}
use Rattle.inf_syntax.specs.Atoms.{char, joined as joined_sets, number, of_mark, text, word_literal}
use Rattle.inf_syntax.specs.declared.parts.names.TheConstants as Part
use Rattle.inf_expressions.specs.{Sources.Source, declared.operators.Binary.Binary}
use Rattle.inf_unit.specs.{Steps.step_of, declared.steps.GatherStep.GatherStep}
use Rattle.inf_grammar.specs.Language.{grammar}
use Rattle.inf_expression_laws.specs.Precedence as written
use Rattle.inf_expression_laws.specs.Precedence.{Written, Listed, closing_sign, comma_sign}
use Rattle.inf_expression_laws.specs.Precedence.{opening_sign, operands, or_sign, sums, assignments}
use Rattle.inf_expression_laws.specs.Laws.{ExpressionsAreTexts, TextsAreOneExpression}
use Rattle.inf_expression_laws.proofs.{Built.Builds, Built.State, Built.built, OneText.same_events, Standing.begins, Standing.loosened}
use Rattle.inf_expression_laws.proofs.Building.{Lists, action_builds, alone_builds, brackets_build, call_builds, front_builds, leaf_builds}
use Rattle.inf_expression_laws.proofs.Building.{more_lists, one_lists, suffix_builds, system_builds, test_builds, two_builds}
use Rattle.inf_expression_laws.proofs.OperatorRows.{NotCalled, apart, begin, behind_entry, between_entry, free, in_front_entry, loop}
use Rattle.inf_expression_laws.proofs.OperatorRows.{no_address_tail, no_array_tail, no_assign_tail, no_call_1, no_call_2}
use Rattle.inf_expression_laws.proofs.OperatorRows.{no_expression_tail, no_logic_tail, no_post_tail, no_step_tail, no_sum_tail}
use Rattle.inf_expression_laws.proofs.OperatorRows.{no_term_tail, no_test_tail, no_tested_1, test_entry}

-- A stack of symbols where those at the bottom are put in place of others

head_is : {x y : Symbol Action} {xs ys : List (Symbol Action)} → x ∷ xs ≡ y ∷ ys → x ≡ y
head_is {x} e = ap (head_or x) e
  where
    head_or : Symbol Action → List (Symbol Action) → Symbol Action
    head_or x [] = x
    head_or x (y ∷ ys) = y

rest_is : {x y : Symbol Action} {xs ys : List (Symbol Action)} → x ∷ xs ≡ y ∷ ys → xs ≡ ys
rest_is {xs = xs} e = ap rest_of e
  where
    rest_of : List (Symbol Action) → List (Symbol Action)
    rest_of [] = []
    rest_of (y ∷ ys) = ys

under : (top : List (Symbol Action)) {below other : List (Symbol Action)} →
    ((atoms : List ℕ) (events : List (Event Action)) → IsText grammar below atoms events → IsText grammar other atoms events) →
    {all : List (Symbol Action)} {atoms : List ℕ} {events : List (Event Action)} → Leads grammar all atoms events [] → all ≡ top ++ below →
    IsText grammar (top ++ other) atoms events
under [] {other = other} f {atoms = atoms} {events = events} l e = f atoms events (subst (λ s. Leads grammar s atoms events []) e l)
under (s ∷ top) f here e = cc
under (s ∷ top) {other = other} f (token {class = class} {atom = atom} {atoms = atoms} {events = events} h l) e =
    subst (λ x. IsText grammar (x ∷ (top ++ other)) (atom ∷ atoms) (Took atom ∷ events)) (head_is e) (token h (under top f l (rest_is e)))
under (s ∷ top) {other = other} f (action {a = a} {atoms = atoms} {events = events} l) e =
    subst (λ x. IsText grammar (x ∷ (top ++ other)) atoms (Did a ∷ events)) (head_is e) (action (under top f l (rest_is e)))
under (s ∷ top) {below = below} {other = other} f
    (row {rule = rule} {r = r} {symbols = symbols} {atoms = atoms} {events = events} m clear l) e =
    let on = under (r.parts ++ top) {below = below} {other = other} f l
    (ap (λ x. r.parts ++ x) (rest_is e) ∙ sym (append_assoc r.parts top below)) in
    subst (λ x. IsText grammar (x ∷ (top ++ other)) atoms events) (head_is e)
    (row m clear (subst (λ x. IsText grammar x atoms events) (append_assoc r.parts top other) on))

-- An expression that may be assigned to is read as the row of assignments has it.
after_unary_on : {K : List (Symbol Action)} (atoms : List ℕ) (events : List (Event Action)) →
    IsText grammar (Part.ARRAY_TAIL ∷ Part.TERM_TAIL ∷ Part.SUM_TAIL ∷ Part.TEST_TAIL ∷ Part.LOGIC_TAIL ∷ Part.ASSIGN_TAIL ∷
    K) atoms events → IsText grammar
    (Part.AFTER_UNARY ∷ K) atoms events
unfolding grammar
after_unary_on atoms events l = row first (free atoms) l

after_prim_on : {K : List (Symbol Action)} (atoms : List ℕ) (events : List (Event Action)) →
    IsText grammar (Part.POST_TAIL ∷ Part.ADDRESS_TAIL ∷ Part.STEP_TAIL ∷ Part.ARRAY_TAIL ∷ Part.TERM_TAIL ∷ Part.SUM_TAIL ∷
    Part.TEST_TAIL ∷ Part.LOGIC_TAIL ∷ Part.ASSIGN_TAIL ∷ K)
    atoms events → IsText grammar (Part.AFTER_PRIM ∷ K) atoms events
unfolding grammar
after_prim_on atoms events l =
    row first (free atoms) (under (Part.POST_TAIL ∷ Part.ADDRESS_TAIL ∷ Part.STEP_TAIL ∷ []) after_unary_on l refl)

from_neg : {K : List (Symbol Action)} {atoms : List ℕ} {events : List (Event Action)} →
    IsText grammar (Part.NEG ∷ Part.ARRAY_TAIL ∷ Part.TERM_TAIL ∷ Part.SUM_TAIL ∷ Part.TEST_TAIL ∷ Part.LOGIC_TAIL ∷ Part.ASSIGN_TAIL ∷
    K) atoms events → IsText grammar
    (Part.ASSIGN ∷ K) atoms events
unfolding grammar
from_neg (row first clear (token {atom = atom} h l)) =
    row (later (later first)) (has_zero atom) (token h (under (Part.NEG ∷ Part.DO_NEGATE ∷ []) after_unary_on l refl))
from_neg {atoms = atoms} (row (later first) clear (row first plain l)) =
    row (later first) (free atoms) (row (later (later first)) (free atoms) (under (Part.STEP_PREFIX ∷ []) after_unary_on l refl))
from_neg {atoms = atoms} (row (later first) clear (row (later first) plain (row first wide l))) =
    row first (free atoms) (under (Part.PRIM ∷ []) after_prim_on l refl)
from_neg (row (later first) clear (row (later first) plain (row (later m) wide l))) = elim m [ ]
from_neg (row (later first) clear (row (later (later m)) plain l)) = elim m [ ]
from_neg (row (later (later m)) clear l) = elim m [ ]

from_sum : {K : List (Symbol Action)} {atoms : List ℕ} {events : List (Event Action)} →
    IsText grammar (Part.SUM ∷ Part.TEST_TAIL ∷ Part.LOGIC_TAIL ∷ Part.ASSIGN_TAIL ∷ K) atoms events → IsText grammar (Part.ASSIGN ∷
    K) atoms events
unfolding grammar
from_sum (row first clear (row first plain (row first wide (token {atom = atom} h l)))) =
    row (later first) (has_zero atom) (row (later first) (has_zero atom) (token h l))
from_sum (row first clear (row first plain (row (later first) wide l))) = from_neg l
from_sum (row first clear (row first plain (row (later (later m)) wide l))) = elim m [ ]
from_sum (row first clear (row (later m) plain l)) = elim m [ ]
from_sum (row (later m) clear l) = elim m [ ]

as_assign : {K : List (Symbol Action)} {atoms : List ℕ} {events : List (Event Action)} →
    IsText grammar (Part.LOGIC ∷ Part.ASSIGN_TAIL ∷ K) atoms events → IsText grammar (Part.ASSIGN ∷ K) atoms events
unfolding grammar
as_assign (row first clear (row first plain (token {atom = atom} h l))) =
    row (later first) (has_zero atom) (row first (has_zero atom) (token h l))
as_assign (row first clear (row (later first) plain l)) = from_sum l
as_assign (row first clear (row (later (later m)) plain l)) = elim m [ ]
as_assign (row (later m) clear l) = elim m [ ]

-- Lemmas that lead from a level of operators to the next one

record Climb (level : ℕ) (K : List (Symbol Action)) (rest : List ℕ) (events : List (Event Action)) : Type 0 where
  under : List (Symbol Action)
  after : IsText grammar (loop (suc level) ++ under) rest events
  back : (atoms : List ℕ) (all : List (Event Action)) → IsText grammar (begin (suc level) ++ under) atoms all →
      IsText grammar (begin level ++ K) atoms all

climb : (level : ℕ) → level < 14 → (K : List (Symbol Action)) (rest : List ℕ) (events : List (Event Action)) →
    (level ≤ 12 → NotCalled rest) → IsText grammar (loop level ++ K) rest events → Climb level K rest events
unfolding grammar
climb zero less K rest events q l = record { under = Part.EXPRESSION_TAIL ∷ K; after = l; back = λ atoms all l. row first (free atoms) l }
climb (suc zero) less K rest events q l =
    record { under = Part.ASSIGN_TAIL ∷ K; after = no_logic_tail (no_assign_tail l); back = λ atoms all l. as_assign l }
climb (suc (suc zero)) less K rest events q l = record {
  under = Part.LOGIC_TAIL ∷ K;
  after = l;
  back = λ atoms all l. row first (free atoms) l;
}
climb (suc (suc (suc zero))) less K rest events q l =
    record { under = K; after = l; back = λ atoms all l. row (later first) (free atoms) l }
climb (suc (suc (suc (suc zero)))) less K rest events q l =
    record { under = Part.TEST_TAIL ∷ K; after = no_sum_tail (no_test_tail l); back = λ atoms all l. l }
climb (suc (suc (suc (suc (suc zero))))) less K rest events q l =
    record { under = Part.SUM_TAIL ∷ K; after = no_term_tail l; back = λ atoms all l. row first (free atoms) l }
climb (suc (suc (suc (suc (suc (suc zero)))))) less K rest events q l =
    record { under = Part.TERM_TAIL ∷ K; after = l; back = λ atoms all l. row first (free atoms) l }
climb (suc (suc (suc (suc (suc (suc (suc zero))))))) less K rest events q l =
    record { under = K; after = no_array_tail l; back = λ atoms all l. row (later first) (free atoms) l }
climb (suc (suc (suc (suc (suc (suc (suc (suc zero)))))))) less K rest events q l =
    record { under = Part.ARRAY_TAIL ∷ K; after = l; back = λ atoms all l. l }
climb (suc (suc (suc (suc (suc (suc (suc (suc (suc zero))))))))) less K rest events q l =
    record { under = K; after = l; back = λ atoms all l. row (later first) (free atoms) l }
climb (suc (suc (suc (suc (suc (suc (suc (suc (suc (suc zero)))))))))) less K rest events q l =
    record { under = K; after = no_step_tail l; back = λ atoms all l. row (later first) (free atoms) l }
climb (suc (suc (suc (suc (suc (suc (suc (suc (suc (suc (suc zero))))))))))) less K rest events q l =
    record { under = Part.STEP_TAIL ∷ K; after = no_address_tail l; back = λ atoms all l. l }
climb (suc (suc (suc (suc (suc (suc (suc (suc (suc (suc (suc (suc zero)))))))))))) less K rest events q l =
    record { under = Part.ADDRESS_TAIL ∷ K; after = no_post_tail (q (omega arith)) l; back = λ atoms all l. l }
climb (suc (suc (suc (suc (suc (suc (suc (suc (suc (suc (suc (suc (suc zero))))))))))))) less K rest events q l =
    record { under = Part.POST_TAIL ∷ K; after = l; back = λ atoms all l. row first (free atoms) l }
climb (suc (suc (suc (suc (suc (suc (suc (suc (suc (suc (suc (suc (suc (suc n)))))))))))))) less K rest events q l =
    absurd (omega (arith, less))

-- no level is past the last
level_bound : {level order place : ℕ} {atoms : List ℕ} {a : Source} → Written level order place atoms a → level ≤ 14
level_bound (written.tighter w) = omega (arith, level_bound w)
level_bound (written.in_front signs e h w) = level_bound w
level_bound (written.behind signs sign atoms e w h) = level_bound w
level_bound (written.between signs sign left right e w h v) = level_bound w
level_bound other = omega arith

-- Lemmas about leaves and brackets

record LeafText (K : List (Symbol Action)) (rest : List ℕ) (events : List (Event Action)) (atom : ℕ) : Type 0 where
  act : Action
  is : step_of act ≡ Some GatherStep.Leaf
  leads : IsText grammar (Part.PRIM ∷ K) (atom ∷ rest) (Took atom ∷ Did act ∷ events)

leaf_text : (K : List (Symbol Action)) (rest : List ℕ) (events : List (Event Action)) (atom : ℕ) → has operands atom ≡ true →
    IsText grammar K rest events → LeafText K rest events atom
unfolding grammar
leaf_text K rest events atom h l =
    elim (or_cases (has operand_names atom) (has (joined_sets (number ∷ char ∷ word_literal ∷ text ∷ [])) atom)
    (sym (has_or operand_names (joined_sets (number ∷ char ∷ word_literal ∷ text ∷ [])) atom) ∙ h)) [
      | inl e ↦ record { act = Action.Name; is = refl; leads = row first (has_zero atom) (token e (action l)) }
      | inr others ↦ elim (or_cases (has number atom) (has (joined_sets (char ∷ word_literal ∷ text ∷ [])) atom)
          (sym (has_or number (joined_sets (char ∷ word_literal ∷ text ∷ [])) atom) ∙ others)) [
            | inl e ↦ record {
              act = Action.Number;
              is = refl;
              leads = row (later first) (has_zero atom) (row first (has_zero atom) (row first (has_zero atom) (token e (action l))));
            }
            | inr others ↦ elim (or_cases (has char atom) (has (joined_sets (word_literal ∷ text ∷ [])) atom)
                (sym (has_or char (joined_sets (word_literal ∷ text ∷ [])) atom) ∙ others)) [
                  | inl e ↦ record {
                    act = Action.Char;
                    is = refl;
                    leads = row (later first) (has_zero atom)
                        (row first (has_zero atom) (row (later first) (has_zero atom) (token e (action l))));
                  }
                  | inr others ↦ elim (or_cases (has word_literal atom) (has (joined_sets (text ∷ [])) atom)
                      (sym (has_or word_literal (joined_sets (text ∷ [])) atom) ∙ others)) [
                        | inl e ↦ record {
                          act = Action.Word;
                          is = refl;
                          leads = row (later first) (has_zero atom)
                              (row first (has_zero atom) (row (later (later first)) (has_zero atom) (token e (action l))));
                        }
                        | inr e ↦ record {
                          act = Action.Text;
                          is = refl;
                          leads = row (later first) (has_zero atom) (row (later first) (has_zero atom) (token e (action l)));
                        }
                      ]
                ]
          ]
    ]

action_text : {K : List (Symbol Action)} {rest : List ℕ} {events : List (Event Action)} (sign atom : ℕ) →
    has (of_mark Mark.DoubleHash) sign ≡ true → has operand_names atom ≡ true →
    IsText grammar K rest events → IsText grammar (Part.PRIM ∷ K) (sign ∷ atom ∷ rest) (Took sign ∷ Took atom ∷ Did Action.Action ∷ events)
unfolding grammar
action_text sign atom h k l =
    row (later first) (has_zero sign) (row first (has_zero sign) (row (later (later (later first))) (has_zero sign)
    (token h (token k (action l)))))

system_text : {K : List (Symbol Action)} {rest : List ℕ} {events : List (Event Action)} (sign atom : ℕ) →
    has (of_mark Mark.Hash) sign ≡ true → has operand_names atom ≡ true →
    IsText grammar K rest events → IsText grammar (Part.PRIM ∷ K) (sign ∷ atom ∷ rest) (Took sign ∷ Took atom ∷ Did Action.System ∷ events)
unfolding grammar
system_text sign atom h k l =
    row (later first) (has_zero sign) (row first (has_zero sign) (row (later (later (later (later first)))) (has_zero sign)
    (token h (token k (action l)))))

bracket_text : {K : List (Symbol Action)} {rest : List ℕ} {events : List (Event Action)} (left : ℕ) → has opening_sign left ≡ true →
    IsText grammar (Part.EXPRESSION ∷ Part.DO_BRACKETED ∷ Part.CLOSE_PARENTHESIS ∷ K) rest events → IsText grammar (Part.PRIM ∷ K) (left ∷
    rest)
    (Took left ∷ Did Action.Bracket ∷ events)
unfolding grammar
bracket_text left h l =
    row (later first) (has_zero left) (row (later (later first)) (has_zero left) (row first (has_zero left) (token h (action l))))

closing_text : {K : List (Symbol Action)} {rest : List ℕ} {events : List (Event Action)} (right : ℕ) → has closing_sign right ≡ true →
    IsText grammar K rest events → IsText grammar (Part.CLOSE_PARENTHESIS ∷ K) (right ∷ rest) (Took right ∷ events)
unfolding grammar
closing_text right h l = token h l

call_text : {K : List (Symbol Action)} {rest : List ℕ} {events : List (Event Action)} (left : ℕ) → has opening_sign left ≡ true →
    IsText grammar (Part.CALL_1 ∷ Part.CLOSE_PARENTHESIS ∷ Part.DO_CALL ∷ Part.POST_TAIL ∷
    K) rest events → IsText grammar (Part.POST_TAIL ∷ K) (left ∷ rest)
    (Took left ∷ Did Action.Count ∷ events)
unfolding grammar
call_text left h l = row (later first) (has_zero left) (row first (has_zero left) (token h (action l)))

some_call : {K : List (Symbol Action)} {rest : List ℕ} {events : List (Event Action)} →
    IsText grammar (Part.ASSIGN ∷ Part.DO_PART ∷ Part.CALL_2 ∷ K) rest events → IsText grammar (Part.CALL_1 ∷ K) rest events
unfolding grammar
some_call {rest = rest} l = row first (free rest) l

next_call : {K : List (Symbol Action)} {rest : List ℕ} {events : List (Event Action)} (sign : ℕ) → has comma_sign sign ≡ true →
    IsText grammar (Part.ASSIGN ∷ Part.DO_PART ∷ Part.CALL_2 ∷ K) rest events → IsText grammar (Part.CALL_2 ∷ K) (sign ∷
    rest) (Took sign ∷ events)
unfolding grammar
next_call sign h l = row first (has_zero sign) (token h l)

next_test : {K : List (Symbol Action)} {rest : List ℕ} {events : List (Event Action)} (sign : ℕ) → has or_sign sign ≡ true →
    IsText grammar (Part.SUM ∷ Part.DO_PART ∷ Part.TESTED_1 ∷ K) rest events → IsText grammar (Part.TESTED_1 ∷ K) (sign ∷
    rest) (Took sign ∷ events)
unfolding grammar
next_test sign h l = row first (has_zero sign) (token h l)

assigned_text : {K : List (Symbol Action)} {rest : List ℕ} {events : List (Event Action)} (sign : ℕ) →
    has (of_mark Mark.Assign) sign ≡ true →
    IsText grammar (Part.ASSIGN ∷ Symbol.Act Action.Assign ∷ K) rest events → IsText grammar (Part.ASSIGN_TAIL ∷ K) (sign ∷
    rest) (Took sign ∷ events)
unfolding grammar
assigned_text sign h l = row first (has_zero sign) (row first (has_zero sign) (token h l))

no_call_of : (sign signs : ℕ) → bit_and signs opening_sign ≡ 0 → has signs sign ≡ true → has opening_sign sign ≡ false
no_call_of sign signs e h = apart signs e sign h

given_atoms : (atoms given : List ℕ) (left right : ℕ) (rest : List ℕ) →
    atoms ++ left ∷ (given ++ right ∷ rest) ≡ (((atoms ++ left ∷ []) ++ given) ++ right ∷ []) ++ rest
given_atoms atoms given left right rest = sym (append_assoc atoms (left ∷ []) (given ++ right ∷ rest))
    ∙ sym (append_assoc (atoms ++ left ∷ []) given (right ∷ rest))
    ∙ sym (append_assoc ((atoms ++ left ∷ []) ++ given) (right ∷ []) rest)

alone_atoms : (atoms : List ℕ) (left right : ℕ) (rest : List ℕ) →
    atoms ++ left ∷ right ∷ rest ≡ ((atoms ++ left ∷ []) ++ right ∷ []) ++ rest
alone_atoms atoms left right rest =
    sym (append_assoc atoms (left ∷ []) (right ∷ rest)) ∙ sym (append_assoc (atoms ++ left ∷ []) (right ∷ []) rest)

-- Lemmas about the texts of all expressions

record Text (symbols : List (Symbol Action)) (atoms rest : List ℕ) (last : List (Event Action)) (order place : ℕ) (a : Source) : Type 0
  where
    events : List (Event Action) → List (Event Action)
    leads : IsText grammar symbols (atoms ++ rest) (events last)
    builds : Builds events order place (length atoms) a

record ListText (symbols : List (Symbol Action)) (atoms rest : List ℕ) (last : List (Event Action)) (order place : ℕ)
    (parts : List Source) : Type 0 where
  events : List (Event Action) → List (Event Action)
  leads : IsText grammar symbols (atoms ++ rest) (events last)
  lists : Lists events order place (length atoms) parts

rejoined : {symbols : List (Symbol Action)} {events : List (Event Action)} (left right rest : List ℕ) →
    IsText grammar symbols (left ++ (right ++ rest)) events → IsText grammar symbols ((left ++ right) ++ rest) events
rejoined {symbols} {events} left right rest l = subst (λ atoms. IsText grammar symbols atoms events) (sym (append_assoc left right rest)) l

mutual
  written_text : {level order place : ℕ} {atoms : List ℕ} {a : Source} → Written level order place atoms a →
      (K : List (Symbol Action)) (rest : List ℕ) (last : List (Event Action)) →
      (level ≤ 12 → NotCalled rest) → IsText grammar (loop level ++ K) rest last → Text (begin level ++ K) atoms rest last order place a
  written_text (written.operand {order = order} {place = place} {atom = atom} h) K rest last q l =
      let t = leaf_text K rest last atom h l in
      record { events = λ more. Took atom ∷ Did t.act ∷ more; leads = t.leads; builds = leaf_builds t.act t.is order place atom }
  written_text (written.action {order = order} {place = place} {sign = sign} {atom = atom} h k) K rest last q l =
      record {
        events = λ more. Took sign ∷ Took atom ∷ Did Action.Action ∷ more;
        leads = action_text sign atom h k l;
        builds = action_builds order place sign atom;
      }
  written_text (written.system {order = order} {place = place} {sign = sign} {atom = atom} h k) K rest last q l =
      record {
        events = λ more. Took sign ∷ Took atom ∷ Did Action.System ∷ more;
        leads = system_text sign atom h k l;
        builds = system_builds order place sign atom;
      }
  written_text (written.brackets {order = order} {place = place} {left = left} right atoms {a = a} h w k) K rest last q l =
      let not_called = no_call_of right closing_sign refl k in
      let t = written_text w (Part.DO_BRACKETED ∷ Part.CLOSE_PARENTHESIS ∷ K) (right ∷ rest) (Did Action.Bracketed ∷ Took right ∷ last)
      (λ le. not_called) (no_expression_tail (action (closing_text right k l))) in
      record {
        events = λ more. Took left ∷ Did Action.Bracket ∷ t.events (Did Action.Bracketed ∷ Took right ∷ more);
        leads = bracket_text left h (rejoined atoms (right ∷ []) rest t.leads);
        builds = brackets_build order place left right atoms a t.events t.builds;
      }
  written_text (written.tighter {level = level} w) K rest last q l =
      let c = climb level (omega (arith, level_bound w)) K rest last q l in
      let t = written_text w c.under rest last (λ le. q (omega (arith, le))) c.after in
      record { events = t.events; leads = c.back _ _ t.leads; builds = t.builds }
  written_text (written.in_front {level = level} {order = order} {place = place} {sign = sign} signs {atoms = atoms} {op = op} {a = a} e h
      w) K rest last q l =
      let n = in_front_entry op level signs e in
      let passed : IsText grammar K rest last = subst (λ s. IsText grammar (s ++ K) rest last) n.no_loop l in
      let t = written_text w (Symbol.Act n.act ∷ K) rest (Did n.act ∷ last) q
      (subst (λ s. IsText grammar (s ++ Symbol.Act n.act ∷ K) rest (Did n.act ∷ last)) (sym n.no_loop) (action passed)) in
      record {
        events = λ more. Took sign ∷ t.events (Did n.act ∷ more);
        leads = n.enters K (atoms ++ rest) (t.events (Did n.act ∷ last)) sign h t.leads;
        builds = front_builds op n.act n.effect order place sign (length atoms) a t.events (begins w) t.builds;
      }
  written_text (written.behind {level = level} {order = order} {place = place} signs sign atoms {op = op} {a = a} e w h) K rest last q l =
      let n = behind_entry op level signs e in
      let t = written_text w K (sign ∷ rest) (Took sign ∷ Did n.act ∷ last) (λ le. no_call_of sign signs n.no_call h)
      (n.enters K rest last sign h l) in
      record {
        events = λ more. t.events (Took sign ∷ Did n.act ∷ more);
        leads = rejoined atoms (sign ∷ []) rest t.leads;
        builds = suffix_builds op n.act n.effect order place sign atoms a t.events t.builds;
      }
  written_text (written.between {level = level} {order = order} {place = place} signs sign left right {op = op} {a = a} {b = b} e w h v) K
      rest last q l =
      let n = between_entry op level signs e in
      let u = written_text v (Symbol.Act n.act ∷ (loop level ++ K)) rest (Did n.act ∷ last) (λ le. q (omega (arith, le)))
      (n.closes (Symbol.Act n.act ∷ (loop level ++ K)) rest (Did n.act ∷ last) q (action l)) in
      let t = written_text w K (sign ∷ (right ++ rest)) (Took sign ∷ u.events (Did n.act ∷ last)) (λ le. no_call_of sign signs n.no_call h)
      (n.enters K (right ++ rest) (u.events (Did n.act ∷ last)) sign h u.leads) in
      record {
        events = λ more. t.events (Took sign ∷ u.events (Did n.act ∷ more));
        leads = rejoined left (sign ∷ right) rest t.leads;
        builds = two_builds op n.act n.effect order place sign left right a b t.events u.events t.builds u.builds;
      }
  written_text (written.assigned {order = order} {place = place} sign left right {a = a} {b = b} w h v) K rest last q l =
      let u = written_text v (Symbol.Act Action.Assign ∷ K) rest (Did Action.Assign ∷ last) q (action l) in
      let t = written_text w (Part.ASSIGN_TAIL ∷ K) (sign ∷ (right ++ rest)) (Took sign ∷ u.events (Did Action.Assign ∷ last))
      (λ le. no_call_of sign (of_mark Mark.Assign) refl h)
      (no_logic_tail (assigned_text sign h u.leads)) in
      record {
        events = λ more. t.events (Took sign ∷ u.events (Did Action.Assign ∷ more));
        leads = rejoined left (sign ∷ right) rest (as_assign t.leads);
        builds = two_builds Binary.Assign Action.Assign (λ s. refl) order place sign left right a b t.events u.events t.builds u.builds;
      }
  written_text (written.tested {order = order} {place = place} signs sign left right {op = op} {a = a} b sources e w h v) K rest last q l =
      let n = test_entry op signs e in
      let u = or_text v (Symbol.Act n.act ∷ K) rest (Did n.act ∷ last) (q (omega arith)) (no_tested_1 (action l)) in
      let t = written_text w (Part.TEST_TAIL ∷ K) (sign ∷ (right ++ rest)) (Took sign ∷ Did Action.Count ∷ u.events (Did n.act ∷ last))
      (λ le. no_call_of sign signs n.no_call h)
      (no_sum_tail (n.enters K (right ++ rest) (u.events (Did n.act ∷ last)) sign h u.leads)) in
      record {
        events = λ more. t.events (Took sign ∷ Did Action.Count ∷ u.events (Did n.act ∷ more));
        leads = rejoined left (sign ∷ right) rest t.leads;
        builds = test_builds op n.act n.effect order place sign left right a b sources t.events u.events t.builds u.lists;
      }
  written_text (written.called {order = order} {place = place} left right atoms given {f = f} b sources w h v k) K rest last q l =
      let u = comma_text v (Part.CLOSE_PARENTHESIS ∷ Part.DO_CALL ∷ Part.POST_TAIL ∷ K) (right ∷ rest) (Took right ∷ Did Action.Call ∷ last)
      (no_call_of right closing_sign refl k)
      (no_call_2 (closing_text right k (action l))) in
      let t =
      written_text w K (left ∷ (given ++ right ∷ rest)) (Took left ∷ Did Action.Count ∷ u.events (Took right ∷ Did Action.Call ∷ last))
      (λ le. absurd (omega (arith, le)))
      (call_text left h (some_call u.leads)) in
      record {
        events = λ more. t.events (Took left ∷ Did Action.Count ∷ u.events (Took right ∷ Did Action.Call ∷ more));
        leads = subst (λ all. IsText grammar (Part.POST ∷ K) all
            (t.events (Took left ∷ Did Action.Count ∷ u.events (Took right ∷ Did Action.Call ∷ last))))
            (given_atoms atoms given left right rest) t.leads;
        builds = call_builds order place left right atoms given f b sources t.events u.events t.builds u.lists;
      }
  written_text (written.alone {order = order} {place = place} left right atoms {f = f} w h k) K rest last q l =
      let t = written_text w K (left ∷ right ∷ rest) (Took left ∷ Did Action.Count ∷ Took right ∷ Did Action.Call ∷ last)
      (λ le. absurd (omega (arith, le)))
      (call_text left h (no_call_1 (closing_text right k (action l)))) in
      record {
        events = λ more. t.events (Took left ∷ Did Action.Count ∷ Took right ∷ Did Action.Call ∷ more);
        leads = subst (λ all. IsText grammar (Part.POST ∷ K) all (t.events (Took left ∷ Did Action.Count ∷ Took right ∷ Did Action.Call ∷
            last)))
            (alone_atoms atoms left right rest) t.leads;
        builds = alone_builds order place left right atoms f t.events t.builds;
      }

  or_text : {order place : ℕ} {atoms : List ℕ} {parts : List Source} → Listed sums or_sign order place atoms parts →
      (K : List (Symbol Action)) (rest : List ℕ) (last : List (Event Action)) →
      NotCalled rest → IsText grammar (Part.TESTED_1 ∷ K) rest last → ListText (Part.SUM ∷ Part.DO_PART ∷ Part.TESTED_1 ∷
      K) atoms rest last order place parts
  or_text (written.one {order = order} {place = place} {atoms = atoms} {a = a} w) K rest last q l =
      let t = written_text w (Part.DO_PART ∷ Part.TESTED_1 ∷ K) rest (Did Action.Part ∷ last) (λ le. q) (no_sum_tail (action l)) in
      record {
        events = λ more. t.events (Did Action.Part ∷ more);
        leads = t.leads;
        lists = one_lists order place (length atoms) a t.events t.builds;
      }
  or_text (written.more {order = order} {place = place} sign left right sources a f h w) K rest last q l =
      let u = written_text w (Part.DO_PART ∷ Part.TESTED_1 ∷ K) rest (Did Action.Part ∷ last) (λ le. q) (no_sum_tail (action l)) in
      let t = or_text f K (sign ∷ (right ++ rest)) (Took sign ∷ u.events (Did Action.Part ∷ last)) (no_call_of sign or_sign refl h)
      (next_test sign h u.leads) in
      record {
        events = λ more. t.events (Took sign ∷ u.events (Did Action.Part ∷ more));
        leads = rejoined left (sign ∷ right) rest t.leads;
        lists = more_lists order place sign left right sources a t.events u.events t.lists u.builds;
      }

  comma_text : {order place : ℕ} {atoms : List ℕ} {parts : List Source} → Listed assignments comma_sign order place atoms parts →
      (K : List (Symbol Action)) (rest : List ℕ) (last : List (Event Action)) →
      NotCalled rest → IsText grammar (Part.CALL_2 ∷ K) rest last → ListText (Part.ASSIGN ∷ Part.DO_PART ∷ Part.CALL_2 ∷
      K) atoms rest last order place parts
  comma_text (written.one {order = order} {place = place} {atoms = atoms} {a = a} w) K rest last q l =
      let t = written_text w (Part.DO_PART ∷ Part.CALL_2 ∷ K) rest (Did Action.Part ∷ last) (λ le. q) (action l) in
      record {
        events = λ more. t.events (Did Action.Part ∷ more);
        leads = t.leads;
        lists = one_lists order place (length atoms) a t.events t.builds;
      }
  comma_text (written.more {order = order} {place = place} sign left right sources a f h w) K rest last q l =
      let u = written_text w (Part.DO_PART ∷ Part.CALL_2 ∷ K) rest (Did Action.Part ∷ last) (λ le. q) (action l) in
      let t = comma_text f K (sign ∷ (right ++ rest)) (Took sign ∷ u.events (Did Action.Part ∷ last)) (no_call_of sign comma_sign refl h)
      (next_call sign h u.leads) in
      record {
        events = λ more. t.events (Took sign ∷ u.events (Did Action.Part ∷ more));
        leads = rejoined left (sign ∷ right) rest t.leads;
        lists = more_lists order place sign left right sources a t.events u.events t.lists u.builds;
      }

-- Proofs of the laws

pub expressions_are_texts : ExpressionsAreTexts
expressions_are_texts order place atoms a w =
    let t = written_text w [] [] [] (λ le. tt) (no_expression_tail here) in
    (t.events [], subst (λ all. IsText grammar (Part.EXPRESSION ∷ []) all (t.events [])) (append-nil atoms) t.leads)

abbrev rule_number : Symbol Action → ℕ
rule_number (Symbol.Rule rule) = rule
rule_number (Symbol.Token class) = 0
rule_number (Symbol.Act a) = 0

abbrev latest_of : Source → List Source → Source
latest_of other [] = other
latest_of other (a ∷ sources) = a

pub texts_are_one_expression : TextsAreOneExpression
texts_are_one_expression level order place atoms a b w v =
    let s : State = record { sources = []; counts = []; brackets = []; order = order; place = place } in
    let one = written_text {level = 0} (loosened (omega arith) w) [] [] [] (λ le. tt) (no_expression_tail here) in
    let two = written_text {level = 0} (loosened (omega arith) v) [] [] [] (λ le. tt) (no_expression_tail here) in
    let same = same_events (rule_number Part.EXPRESSION) (atoms ++ []) (one.events []) (two.events []) one.leads two.leads in
    ap (λ (x : State). latest_of a x.sources) (sym (one.builds s refl refl []) ∙ ap (λ es. built es s) same ∙ two.builds s refl refl [])
