-- Statements of one unit, items at the top of a routine, and units in brackets are trees.
use Rattle.std.proofs.Common.{◌≡◌, ℕ, ◌+◌, ◌≤◌, ◌<◌, List, [], ◌∷◌, ◌++◌, length, Bool, true, false, ◌||◌, refl, sym, ◌∙◌, ap, subst}
use Rattle.std.proofs.Common.{arith, append-nil}
use Rattle.std.proofs.lemmas.Bool.{eqb-true}
use Rattle.std.proofs.lemmas.List.{length-append, length-take}
use Rattle.std.specs.Prelude.{take}
use Rattle.inf_scanner.specs.{declared.tokens.Mark.Mark, declared.tokens.Place.Place}
use Rattle.inf_settings.specs.Bounds.{Limits}
use Rattle.inf_machine.specs.declared.symbols.Symbol.{Symbol}
use Rattle.inf_machine.specs.Grammar.{Did, Event, IsText, Took, first, has, later}
use Rattle.inf_syntax.specs.declared.actions.Action.{Action}
use Rattle.inf_syntax.specs.declared.parts.names.TheConstants as Part
use Rattle.inf_grammar.specs.Language.{grammar}
use Rattle.inf_unit.specs.Tokens.{SourceToken, is_mark}
use Rattle.inf_unit.specs.Units.{Unit as UnitAtHand, begun, is_some_mark, kind_at, no_unit}
use Rattle.inf_compilation.specs.{Actions.Compilation, Actions.opens, Context.Context}
use Rattle.inf_parts.specs.Parts.{part_ended, statement_at}
use Rattle.inf_parts.specs.declared.parts.Part.TheVariants as part
use Rattle.inf_statement_laws.specs.{Happenings.Acts, Happenings.Happening, Happenings.Takes, Laid.next_comes, Laid.passed, Laid.run}
use Rattle.inf_statement_laws.specs.{Readings.Seen, Readings.plainly_at}
use Rattle.inf_statement_laws.proofs.Laying.{run_then}
use Rattle.inf_expression_laws.specs.Gathered.{AreSeen}
use Rattle.inf_language.specs.{Texts.atoms_of, Texts.happenings_before, Texts.tokens_of, Units.TakeAll}
use Rattle.inf_language.proofs.Derivations.{seen_front, texts_take_all}
use Rattle.inf_trees.specs.{Ends.case_first, Trees.Part, Trees.Value}
use Rattle.inf_trees.specs.Statements.{BracketedUnitsAreTrees, Case, IsOneUnit, IsStatement, One, Other, Statement, StatementsAreTrees}
use Rattle.inf_trees.specs.Statements.{begins_list, block, is_list_atom, statement_done, with_unit}
use Rattle.inf_trees.proofs.{Pending.OfFree, Semicolons.last_seen, Semicolons.opens_nothing, Semicolons.over_taken}
use Rattle.inf_trees.proofs.{StatementEnds.statement_over, Symbols.act_first, UnitStates.Ended, UnitStates.Free, UnitStates.Typed}
use Rattle.inf_trees.proofs.{UnitWalks.OfStatement, UnitWalks.declared, UnitsGo.AreQuiet, UnitsGo.Going, UnitsTyped.units_typed}
use Rattle.inf_trees.proofs.{Weights.is_small, Weights.small_needs}
use Rattle.inf_trees.proofs.ItemTexts.{ABlock, ACase, AUnit, Holds, ItemText, statement_text, top_item_text}
use Rattle.inf_trees.proofs.Needs.{Bytes, NoLine, front_needs, little_room, needs_in}
use Rattle.inf_trees.proofs.UnitsRead.{before-append, expressed_does, expression_form, gathers, note_first}

-- Lemmas about the tokens between a unit and the one before

pub few_before : (tokens : List SourceToken) → length (take 1 tokens) ≤ 1
few_before tokens = let count = length-take 1 tokens in omega (arith, count)

kind_behind : (xs ys : List SourceToken) → kind_at (xs ++ ys) (length xs) ≡ kind_at ys 0
kind_behind [] ys = refl
kind_behind (x ∷ xs) ys = kind_behind xs ys

or_right_false : (a b : Bool) → (a || b) ≡ false → b ≡ false
or_right_false true b none = cc
or_right_false false b none = none

no_line : (before : List SourceToken) (tokens : List Seen) → begins_list tokens ≡ false
    → NoLine (before ++ tokens_of tokens) (length before)
no_line before [] plain = ap (is_some_mark Mark.At) (kind_behind before [])
no_line before (s ∷ tokens) plain = ap (is_some_mark Mark.At) (kind_behind before (s.token ∷ tokens_of tokens))
    ∙ or_right_false (is_list_atom s.atom) (is_mark Mark.At s.token.kind) plain

-- The unit of a text, and its semicolon

none_left : (acts : List (Event Action)) (e : Action) (atom : ℕ) → TakeAll (acts ++ Did e ∷ Took atom ∷ []) [] → ⊥
none_left [] e atom all = all
none_left (Did a ∷ acts) e atom all = none_left acts e atom all
none_left (Took n ∷ acts) e atom all = all

pub take_front : (e : Action) (atom : ℕ) (acts : List (Event Action)) (body : List Seen) (last : Seen)
    → TakeAll (acts ++ Did e ∷ Took atom ∷ []) (body ++ last ∷ []) → TakeAll acts body
take_front e atom [] [] last all = tt
take_front e atom [] (x ∷ []) last all = absurd all
take_front e atom [] (x ∷ y ∷ body) last all = absurd all
take_front e atom (Did a ∷ acts) body last all = take_front e atom acts body last all
take_front e atom (Took n ∷ acts) [] last all = absurd (none_left acts e atom all)
take_front e atom (Took n ∷ acts) (x ∷ body) last all = take_front e atom acts body last all

pub record BegunUnit (limits : Limits) (seen : List Seen) (events : List (Event Action)) : Type 0 where
  pub tokens : List Seen
  pub semicolon : Seen
  pub early : List (Event Action)
  pub atom : ℕ
  pub same : tokens ++ semicolon ∷ [] ≡ seen
  pub are : events ≡ Did Action.Begin ∷ (early ++ Did Action.EndStatement ∷ Took atom ∷ [])
  pub is_semicolon : has (grammar.atoms_of 0) semicolon.atom ≡ true
  pub all : TakeAll early tokens
  pub going : Going limits tokens early
  pub little : begins_list seen ≡ false → needs_in Bytes early ≤ 1

pub begun_unit : (limits : Limits) (symbols : List (Symbol Action)) → Typed declared Action.EndStatement Free symbols Ended
    → is_small symbols ≡ true → (seen : List Seen) (events : List (Event Action)) → case_first events ≡ false
    → IsText grammar (Part.DO_BEGIN ∷ symbols) (atoms_of seen) events → BegunUnit limits seen events
begun_unit limits symbols typed small seen events kind text =
    let b = act_first Action.Begin symbols seen events text in
    let u = units_typed limits OfStatement b.text refl seen refl typed refl (sym (ap case_first b.are) ∙ kind) [] [] OfFree in
    let all = texts_take_all b.text seen refl in
    let late : List (Event Action) = Did Action.EndStatement ∷ Took u.atom ∷ [] in
    let front = front_needs Bytes u.acts late in
    let count = ap (needs_in Bytes) u.are in
    record {
      tokens = u.body;
      semicolon = u.last;
      early = u.acts;
      atom = u.atom;
      same = u.same;
      are = b.are ∙ ap (λ l. Did Action.Begin ∷ l) (sym u.are);
      is_semicolon = subst (λ c. has (grammar.atoms_of c) u.last.atom ≡ true) (eqb-true u.class 0 u.closes) u.is;
      all = take_front Action.EndStatement u.atom u.acts u.body u.last
          (subst (λ l. TakeAll l (u.body ++ u.last ∷ [])) (sym u.are) (subst (λ l. TakeAll b.late l) (sym u.same) all));
      going = u.going;
      little = λ plain. let few = small_needs symbols seen b.late small b.text plain in omega (arith, few, front, count);
    }

-- Lemmas about the effect of a statement

statement_runs : (limits : Limits) (context : Context) (next : Place) (u : UnitAtHand) (tokens : List Seen) (semicolon : Seen)
    (early : List (Event Action)) (atom : ℕ) (w : Compilation) (parts : List Part)
    → run limits context (happenings_before semicolon.token.place early tokens) (record w { unit = begun u })
    ≡ with_unit context parts (record w { unit = u })
    → TakeAll early tokens → opens semicolon.token.kind ≡ false
    → let s : Statement = record { unit = parts; semicolon = semicolon } in
    run limits context (happenings_before next (Did Action.Begin ∷ (early ++ Did Action.EndStatement ∷ Took atom ∷ []))
    (tokens ++ semicolon ∷ [])) (record w { unit = u })
    ≡ statement_done limits context s (record w { unit = u })
statement_runs limits context next u tokens semicolon early atom w parts reads all plain =
    let place = semicolon.token.place in
    let late : List (Event Action) = Did Action.EndStatement ∷ Took atom ∷ [] in
    let front = happenings_before place early tokens in
    let end : List Happening = Acts (plainly_at place) Action.EndStatement ∷ Takes semicolon.token semicolon.behind ∷ [] in
    let begins = record w { unit = begun u } in
    let ready = with_unit context parts (record w { unit = u }) in
    let ended = part_ended limits context place (part.Statement (statement_at ready)) ready in
    note_first limits context next Action.Begin (tokens ++ semicolon ∷ []) (early ++ late) (record w { unit = u }) begins (λ p. refl)
    ∙ (ap (λ hs. run limits context hs begins) (before-append next early late tokens (semicolon ∷ []) all)
    ∙ (run_then limits context front end begins
    ∙ (ap (run limits context end) reads
    ∙ ap (λ x. next_comes (passed semicolon.behind x))
    (over_taken context semicolon ready.unit ended plain (statement_over limits context place (statement_at ready) ready)))))

-- The events of the unit neither open a statement that holds others nor go on with one nor end one.
pub unit_quiet : (limits : Limits) (seen : List Seen) (events : List (Event Action)) → (p : BegunUnit limits seen events)
    → AreSeen (atoms_of seen) (tokens_of seen) → length seen + 1 < 4294967295 → AreQuiet p.early
unit_quiet limits seen events p are_seen few =
    let seen_again = subst (λ x. AreSeen (atoms_of x) (tokens_of x)) (sym p.same) are_seen in
    let count : length p.tokens + 1 ≡ length seen = sym (length-append p.tokens (p.semicolon ∷ [])) ∙ ap length p.same in
    (p.going no_unit (seen_front p.tokens p.semicolon seen_again) (omega arith) (omega (arith, few, count))).quiet

plain_front : (tokens rest seen : List Seen) → tokens ++ rest ≡ seen → begins_list seen ≡ false → begins_list tokens ≡ false
plain_front [] rest seen same plain = refl
plain_front (s ∷ tokens) rest seen same plain = subst (λ l. begins_list l ≡ false) (sym same) plain

pub is_statement : (limits : Limits) (u : UnitAtHand) (seen : List Seen) (events : List (Event Action)) → BegunUnit limits seen events
    → AreSeen (atoms_of seen) (tokens_of seen) → length seen + 1 < 4294967295 → IsStatement limits u seen events
is_statement limits u seen events p are_seen few =
    let seen_again = subst (λ x. AreSeen (atoms_of x) (tokens_of x)) (sym p.same) are_seen in
    let count : length p.tokens + 1 ≡ length seen = sym (length-append p.tokens (p.semicolon ∷ [])) ∙ ap length p.same in
    let before = few_before u.tokens in
    let r = p.going (begun u) (seen_front p.tokens p.semicolon seen_again) (omega arith) (omega (arith, few, count, before)) in
    let weighs = r.weighs Bytes in
    record {
      tree = record { unit = r.parts; semicolon = p.semicolon };
      same = ap (λ l. l ++ p.semicolon ∷ []) r.same ∙ p.same;
      written = r.written;
      room = λ plain.
          let little = p.little plain in
          little_room limits r.parts (begun u) (record {
            on = refl;
            line = λ e. subst (λ l. NoLine (take 1 u.tokens ++ tokens_of l) (length (take 1 u.tokens))) (sym r.same)
                (no_line (take 1 u.tokens) p.tokens (plain_front p.tokens (p.semicolon ∷ []) seen p.same plain));
            once = omega (arith, weighs, little);
            first = λ e. refl;
          });
      does = λ context next w none room.
          let before = record w { unit = u } in
          ap (λ l. run limits context (happenings_before next events l) before) (sym p.same)
          ∙ (ap (λ es. run limits context (happenings_before next es (p.tokens ++ p.semicolon ∷ [])) before) p.are
          ∙ statement_runs limits context next u p.tokens p.semicolon p.early p.atom w r.parts
          (r.does context p.semicolon.token.place before none room) p.all
          (opens_nothing p.semicolon p.is_semicolon (last_seen p.tokens p.semicolon seen_again)));
    }

by_text : {cases : Bool} (limits : Limits) (before : List (Symbol Action)) (u : UnitAtHand) (seen : List Seen)
    (events : List (Event Action))
    → ItemText before (atoms_of seen) events cases → AreSeen (atoms_of seen) (tokens_of seen) → length seen + 1 < 4294967295
    → IsOneUnit limits before u seen events cases
by_text limits before u seen events (AUnit symbols typed small kind text) are_seen few =
    One (is_statement limits u seen events (begun_unit limits symbols typed small seen events kind text) are_seen few)
by_text limits before u seen events (ABlock text) are_seen few = Other block first text
by_text limits before u seen events (Holds symbols is text) are_seen few = Other symbols (later is) text
by_text limits before u seen events (ACase start symbols is typed kind text) are_seen few = Case kind

pub statements_are_trees : (limits : Limits) → StatementsAreTrees limits
statements_are_trees limits = record {
  statements = λ u seen events text are_seen few.
      by_text limits (Part.DO_DEEPER ∷ []) u seen events (statement_text limits seen events text) are_seen few;
  items = λ u seen events text are_seen few. by_text limits [] u seen events (top_item_text limits seen events text) are_seen few;
}

-- Lemmas about units in brackets

pub bracketed_units_are_trees : (limits : Limits) → BracketedUnitsAreTrees limits
bracketed_units_are_trees limits u seen events text are_seen few =
    let b = act_first Action.Begin (Part.DO_OUTER ∷ Part.EXPRESSION ∷ []) seen events text in
    let o = act_first Action.Outer (Part.EXPRESSION ∷ []) seen b.late b.text in
    let before = few_before u.tokens in
    let form = expression_form (atoms_of seen) o.late o.text in
    let all = texts_take_all o.text seen refl in
    let g = gathers (begun u) seen o.late form all are_seen (omega arith) (omega (arith, few, before)) in
    record {
      parts = Value g.level seen g.value ∷ [];
      same = append-nil seen;
      written = (g.written, tt);
      does = λ context next w none. ap (λ es. run limits context (happenings_before next es seen) (record w { unit = u }))
          (b.are ∙ ap (λ x. Did Action.Begin ∷ x) o.are)
          ∙ (note_first limits context next Action.Begin seen (Did Action.Outer ∷ o.late) (record w { unit = u })
          (record w { unit = begun u }) (λ p. refl)
          ∙ (ap (λ es. run limits context (happenings_before next (Did Action.Outer ∷ es) seen) (record w { unit = begun u }))
          (sym (append-nil o.late))
          ∙ (ap (λ l. run limits context (happenings_before next (Did Action.Outer ∷ (o.late ++ [])) l) (record w { unit = begun u }))
          (sym (append-nil seen))
          ∙ expressed_does limits context next (begun u) seen [] o.late [] g.value (record w { unit = u }) g.reads g.only all none)));
    }
