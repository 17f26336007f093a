-- A statement, and an item at the top of a routine, ends with a token, behind which statements that hold it may be closed: no word waits
-- for its report behind it.
use Rattle.std.proofs.Common.{◌≡◌, ℕ, List, [], ◌∷◌, ◌++◌, Bool, true, false, ◌&&◌, ◌||◌, ◌-◌, None, refl, sym, ◌∙◌, ap, subst, nat_lt}
use Rattle.std.proofs.lemmas.Bool.{agree_below, and_parts}
use Rattle.inf_scanner.specs.declared.tokens.Place.{Place}
use Rattle.inf_settings.specs.Bounds.{Limits}
use Rattle.inf_machine.specs.declared.symbols.Symbol.{Symbol}
use Rattle.inf_machine.specs.Grammar.{Did, Event, IsOneOf, Leads, Row, Took, action, here, row, token}
use Rattle.inf_syntax.specs.declared.actions.Action.{Action}
use Rattle.inf_syntax.specs.declared.parts.names.TheConstants as Part
use Rattle.inf_grammar.specs.Language.{grammar}
use Rattle.inf_unit.proofs.Cases.{of_both}
use Rattle.inf_compilation.specs.{Actions.Compilation, Context.Context, Nesting.construct_closed, Nesting.construct_ended}
use Rattle.inf_reader.specs.Acting.{act}
use Rattle.inf_trees.proofs.RuleRows.{is_among, keeps, passes}
use Rattle.inf_routine_trees.specs.Bodies.{is_close}

close_is : (a : Action) → is_close a ≡ true → a ≡ Action.Close
close_is Action.Close is = refl
close_is _ is = cc

-- whether the last of some events that is no closing is a token, where `b` says it of those before them
abbrev pub last_took : Bool → List (Event Action) → Bool
last_took b [] = b
last_took b (Did a ∷ events) = last_took (b && is_close a) events
last_took b (Took atom ∷ events) = last_took true events

-- rules all of whose texts end so, and those that do behind a token
abbrev end_rules : List (Symbol Action)
end_rules = Part.CASE_END ∷ Part.DO_REST ∷ Part.END ∷ Part.FOR_REST ∷ Part.GIVE_REST ∷ Part.IF_REST ∷ Part.JUMP_REST ∷ Part.MARK_STATEMENT ∷
    Part.MOVE_REST ∷ Part.OBJECTLOOP_REST ∷
    Part.OF_EXPRESSION ∷ Part.PRINT_REST ∷ Part.RETURN_REST ∷ Part.STATEMENT ∷ Part.STATEMENT_3 ∷ Part.STATEMENT_END ∷ Part.STRING_REST ∷
    Part.STYLE_REST ∷ Part.SWITCH_REST ∷
    Part.TEXT_MORE ∷ Part.TEXT_STATEMENT ∷ Part.TEXT_STATEMENT_1 ∷ Part.TOP_FOLLOWING ∷ Part.TOP_FOLLOWING_1 ∷ Part.TOP_ITEM ∷
    Part.TOP_ITEM_1 ∷ Part.TOP_ITEM_10 ∷
    Part.TOP_ITEM_12 ∷ Part.TOP_ITEM_13 ∷ Part.TOP_ITEM_14 ∷ Part.TOP_ITEM_15 ∷ Part.TOP_ITEM_16 ∷ Part.TOP_ITEM_17 ∷ Part.TOP_ITEM_19 ∷
    Part.TOP_ITEM_2 ∷ Part.TOP_ITEM_20 ∷
    Part.TOP_ITEM_21 ∷ Part.TOP_ITEM_5 ∷ Part.TOP_ITEM_6 ∷ Part.TOP_ITEM_7 ∷ Part.TOP_ITEM_8 ∷ Part.TOP_ITEM_9 ∷ Part.TOP_MORE ∷
    Part.TOP_NEXT ∷ Part.TOP_RANGE ∷ Part.TOP_VALUES ∷
    Part.TOP_WORD ∷ Part.TOP_WORD_1 ∷ Part.WHILE_REST ∷ Part.FIRST_CASE ∷ Part.FIRST_CASE_1 ∷ Part.FIRST_CASE_2 ∷ Part.FIRST_CASE_4 ∷
    Part.VALUES ∷ Part.SWITCH_ITEM ∷ Part.SWITCH_ITEM_1 ∷
    Part.SWITCH_ITEM_2 ∷ Part.SWITCH_ITEM_3 ∷ Part.SWITCH_ITEM_4 ∷ Part.SWITCH_ITEM_5 ∷ Part.SWITCH_ITEM_7 ∷ Part.SWITCH_ITEM_8 ∷
    Part.SWITCH_ITEM_10 ∷ Part.SWITCH_ITEM_11 ∷
    Part.SWITCH_ITEM_12 ∷ Part.SWITCH_ITEM_13 ∷ Part.SWITCH_ITEM_14 ∷ Part.SWITCH_ITEM_15 ∷ Part.SWITCH_ITEM_17 ∷ Part.SWITCH_ITEM_18 ∷
    Part.SWITCH_ITEM_19 ∷ Part.SWITCH_ITEM_20 ∷
    Part.SWITCH_ITEM_21 ∷ Part.SWITCH_ITEM_22 ∷ Part.SWITCH_ITEM_24 ∷ Part.SWITCH_ITEM_25 ∷ Part.SWITCH_ITEM_26 ∷ Part.SWITCH_WORD ∷
    Part.SWITCH_WORD_1 ∷ Part.MINUS_MORE ∷
    Part.MINUS_MORE_1 ∷ Part.SWITCH_MORE ∷ Part.OUTER_MORE ∷ Part.SWITCH_NEXT ∷ Part.SWITCH_NEXT_1 ∷ Part.MINUS_FOLLOWING ∷
    Part.SWITCH_FOLLOWING ∷ Part.OUTER_FOLLOWING ∷
    Part.OUTER_FOLLOWING_1 ∷ []

unfoldable pub ends : ℕ → Bool
ends rule = is_among rule end_rules

unfoldable pub goes_on : ℕ → Bool
goes_on rule = is_among rule (Part.ELSE_PART ∷ [])

abbrev pub end_so : Bool → List (Symbol Action) → Bool
end_so b [] = b
end_so b (Symbol.Token class ∷ symbols) = end_so true symbols
end_so b (Symbol.Act a ∷ symbols) = end_so (b && is_close a) symbols
end_so b (Symbol.Rule rule ∷ symbols) = end_so (ends rule || (b && goes_on rule)) symbols

rows_end : agree_below (keeps ends (end_so false)) (λ rule. true) 256 ≡ true
unfolding grammar ends goes_on
rows_end = refl

rows_go_on : agree_below (keeps goes_on (end_so true)) (λ rule. true) 256 ≡ true
unfolding grammar ends goes_on
rows_go_on = refl

-- Where symbols end so whatever is before them, they end so behind a token.
rule_behind : (e g : Bool) (symbols : List (Symbol Action)) → ((b : Bool) → end_so false symbols ≡ true → end_so b symbols ≡ true)
    → end_so (e || false) symbols ≡ true → end_so (e || g) symbols ≡ true
rule_behind true g symbols on is = is
rule_behind false g symbols on is = on g is

behind_any : (b : Bool) (symbols : List (Symbol Action)) → end_so false symbols ≡ true → end_so b symbols ≡ true
behind_any false symbols is = is
behind_any true [] is = cc
behind_any true (Symbol.Token class ∷ symbols) is = is
behind_any true (Symbol.Act a ∷ symbols) is = behind_any (is_close a) symbols is
behind_any true (Symbol.Rule rule ∷ symbols) is = rule_behind (ends rule) (goes_on rule) symbols (λ b. behind_any b symbols) is

any_parts : (b : Bool) (parts symbols : List (Symbol Action)) → end_so false symbols ≡ true → end_so b (parts ++ symbols) ≡ true
any_parts b [] symbols is = behind_any b symbols is
any_parts b (Symbol.Token class ∷ parts) symbols is = any_parts true parts symbols is
any_parts b (Symbol.Act a ∷ parts) symbols is = any_parts (b && is_close a) parts symbols is
any_parts b (Symbol.Rule rule ∷ parts) symbols is = any_parts (ends rule || (b && goes_on rule)) parts symbols is

-- Lemmas about symbols behind others that end so
end-append : (b : Bool) (parts symbols : List (Symbol Action)) → end_so b parts ≡ true → end_so true symbols ≡ true
    → end_so b (parts ++ symbols) ≡ true
end-append b [] symbols is behind = subst (λ x. end_so x symbols ≡ true) (sym is) behind
end-append b (Symbol.Token class ∷ parts) symbols is behind = end-append true parts symbols is behind
end-append b (Symbol.Act a ∷ parts) symbols is behind = end-append (b && is_close a) parts symbols is behind
end-append b (Symbol.Rule rule ∷ parts) symbols is behind = end-append (ends rule || (b && goes_on rule)) parts symbols is behind

row_ends : (rule : ℕ) (r : Row Action) → IsOneOf r (grammar.rows_of rule) → (b : Bool) (symbols : List (Symbol Action))
    → end_so (ends rule || (b && goes_on rule)) symbols ≡ true → end_so b (r.parts ++ symbols) ≡ true
row_ends rule r is b symbols so = by_cases (ends rule) refl
  where
    by_go : (g : Bool) → goes_on rule ≡ g → (c : Bool) → end_so (c && g) symbols ≡ true → end_so c (r.parts ++ symbols) ≡ true
    by_go true e true same = end-append true r.parts symbols (passes goes_on (end_so true) rows_go_on rule e r is) same
    by_go true e false same = any_parts false r.parts symbols same
    by_go false e true same = any_parts true r.parts symbols same
    by_go false e false same = any_parts false r.parts symbols same

    by_cases : (x : Bool) → ends rule ≡ x → end_so b (r.parts ++ symbols) ≡ true
    by_cases true e = end-append b r.parts symbols (behind_any b r.parts (passes ends (end_so false) rows_end rule e r is))
        (subst (λ x. end_so (x || (b && goes_on rule)) symbols ≡ true) e so)
    by_cases false e = by_go (goes_on rule) refl b (subst (λ x. end_so (x || (b && goes_on rule)) symbols ≡ true) e so)

pub text_ends : {symbols left : List (Symbol Action)} {atoms : List ℕ} {events : List (Event Action)}
    → Leads grammar symbols atoms events left → left ≡ [] → (b : Bool) → end_so b symbols ≡ true → last_took b events ≡ true
text_ends (here {symbols = []}) none b so = so
text_ends (here {symbols = x ∷ symbols}) none b so = cc
text_ends (token h leads) none b so = text_ends leads none true so
text_ends (action {a} leads) none b so = text_ends leads none (b && is_close a) so
text_ends (row {rule} {r} {symbols} is_row free leads) none b so = text_ends leads none b (row_ends rule r is_row b symbols so)

-- No word waits behind such events.

ended_opening : (limits : Limits) (w : Compilation) → (construct_ended limits w).opening ≡ w.opening
ended_opening limits w = refl

close_opening : (limits : Limits) (w : Compilation) → (construct_closed limits w).opening ≡ w.opening
close_opening limits w =
    of_both (λ (v : Compilation). v.opening ≡ w.opening) (nat_lt 0 w.closed) (record w { closed = w.closed - 1 }) (construct_ended limits w)
    (λ e. refl) (λ e. ended_opening limits w)

pub both_true : (b : Bool) (a : Action) → (b && is_close a) ≡ true → (b ≡ true) × (a ≡ Action.Close)
both_true b a is = let both = and_parts b (is_close a) is in (both.0, close_is a both.1)

pub act_opening : (limits : Limits) (context : Context) (place : Place) (a : Action) (w : Compilation) → a ≡ Action.Close
    → w.opening ≡ None → (act limits context place a w).opening ≡ None
act_opening limits context place a w is none = ap (λ b. (act limits context place b w).opening) is ∙ (close_opening limits w ∙ none)
