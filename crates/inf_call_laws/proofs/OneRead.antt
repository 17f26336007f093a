-- The tokens of an expression or a constant that is read by itself: the unit has gathered the one expression that they are.
use Rattle.std.proofs.Common.{◌≡◌, ℕ, ◌+◌, ◌^◌, ◌≤◌, ◌<◌, List, [], ◌∷◌, ◌++◌, length, take, true, false, None, refl, sym, ◌∙◌, ap}
use Rattle.std.proofs.Common.{arith, subst}
use Rattle.std.proofs.lemmas.List.{length-append}
use Rattle.inf_settings.specs.Bounds.{Limits}
use Rattle.inf_scanner.specs.declared.{tokens.Mark.Mark, tokens.TokenKind.TokenKind}
use Rattle.inf_machine.specs.{Grammar.IsOneOf, Grammar.IsText, Grammar.Row, declared.symbols.Symbol.Symbol}
use Rattle.inf_machine.specs.Grammar.{Did, Event, Took, action, first, has, here, later, token}
use Rattle.inf_syntax.specs.{Atoms.mark_atom, Rows.row, declared.actions.Action.Action}
use Rattle.inf_syntax.specs.declared.parts.names.TheConstants as Part
use Rattle.inf_expressions.specs.Sources.{Source}
use Rattle.inf_grammar.specs.Language.{grammar}
use Rattle.inf_grammar.proofs.OpenStacks.{only_bit}
use Rattle.inf_unit.specs.declared.roles.Note.{Note}
use Rattle.inf_unit.specs.Units.{Unit as UnitAtHand, begun, noted, taken}
use Rattle.inf_compilation.specs.{Actions.Compilation, Actions.opens, Context.Context}
use Rattle.inf_expression_laws.specs.{Gathered.AreSeen, Gathered.read_by, Laws.forms, Precedence.assignments, Precedence.commas}
use Rattle.inf_expression_laws.proofs.ExpressionsRead.{expressions_are_read}
use Rattle.inf_statement_laws.specs.{Laid.next_comes, Laid.passed, Laid.run, Readings.Seen}
use Rattle.inf_language.specs.{Texts.atoms_of, Texts.happenings_before, Texts.happenings_of, Texts.tokens_of, Units.AllSteps, Units.TakeAll}
use Rattle.inf_language.proofs.Derivations.{happenings-append, last_apart, seen_front, texts_take_all}
use Rattle.inf_language.proofs.ExpressionsTold.{fields_stay, nothing_told}
use Rattle.inf_language.proofs.TextsSplit.{assign_steps, only_steps, split}
use Rattle.inf_trees.specs.Trees.{tokens_told, with_outer, with_value}
use Rattle.inf_trees.proofs.{RuleRows.of_rows, Semicolons.last_atom, Semicolons.last_seen, UnitsRead.before-append, UnitsRead.expressed_does}
use Rattle.inf_trees.proofs.UnitsRead.{expression_form, form_of, note_first, one_taken, tokens_count, tokens_opening, value_reads}
use Rattle.inf_calls.specs.Calls.{alone_constant, alone_expression}
use Rattle.inf_call_laws.specs.Laid.{IsOne, Kind, kinds, text_read}

-- Lemmas about the symbols of a text that a call reads

abbrev behind_value : List (Symbol Action)
behind_value = Part.DO_HOLD ∷ Part.SEMICOLON ∷ []

abbrev alone_row : Symbol Action → Row Action
alone_row value = row (Part.DO_BEGIN ∷ Part.DO_OUTER ∷ value ∷ behind_value)

expression_rows : grammar.rows_of alone_expression ≡ alone_row Part.EXPRESSION ∷ []
unfolding grammar
expression_rows = refl

constant_rows : grammar.rows_of alone_constant ≡ alone_row Part.ASSIGN ∷ []
unfolding grammar
constant_rows = refl

semicolon_class : grammar.atoms_of 0 ≡ 2 ^ mark_atom Mark.Semicolon
unfolding grammar
semicolon_class = refl

-- the events behind the value
abbrev late_events : ℕ → List (Event Action)
late_events atom = Did Action.Hold ∷ Took atom ∷ []

record Held (atoms : List ℕ) (events : List (Event Action)) : Type 0 where
  pub atom : ℕ
  pub one : atoms ≡ atom ∷ []
  pub are : events ≡ late_events atom
  pub is_semicolon : has (grammar.atoms_of 0) atom ≡ true

held : (atoms : List ℕ) (events : List (Event Action)) → IsText grammar behind_value atoms events → Held atoms events
held atoms events (action (token {atom = atom} h here)) = record { atom = atom; one = refl; are = refl; is_semicolon = h }

-- the value of a text, and its semicolon
record Inner (value : Symbol Action) (atoms : List ℕ) (events : List (Event Action)) : Type 0 where
  pub front : List ℕ
  pub early : List (Event Action)
  pub atom : ℕ
  pub of_front : IsText grammar (value ∷ []) front early
  pub atoms_are : atoms ≡ front ++ atom ∷ []
  pub events_are : events ≡ Did Action.Begin ∷ Did Action.Outer ∷ (early ++ late_events atom)
  pub is_semicolon : has (grammar.atoms_of 0) atom ≡ true

inner : (value : Symbol Action) (atoms : List ℕ) (events : List (Event Action))
    → IsText grammar (Part.DO_BEGIN ∷ Part.DO_OUTER ∷ value ∷ behind_value) atoms events → Inner value atoms events
inner value atoms events (action (action leads)) =
    let parts = split leads refl (value ∷ []) behind_value refl in
    let end = held parts.rest parts.late parts.of_rest in
    record {
      front = parts.front;
      early = parts.early;
      atom = end.atom;
      of_front = parts.of_front;
      atoms_are = parts.atoms_are ∙ ap (λ rest. parts.front ++ rest) end.one;
      events_are = ap (λ es. Did Action.Begin ∷ Did Action.Outer ∷ es) (parts.events_are ∙ ap (λ late. parts.early ++ late) end.are);
      is_semicolon = end.is_semicolon;
    }

-- Lemmas about the happenings

of_before : (early : List (Event Action)) (atom : ℕ) (tokens : List Seen) (last : Seen) → TakeAll early tokens
    → happenings_of (early ++ late_events atom) (tokens ++ last ∷ [])
    ≡ happenings_before last.token.place (early ++ late_events atom) (tokens ++ last ∷ [])
of_before early atom tokens last all = happenings-append early (late_events atom) tokens last [] all
    ∙ sym (before-append last.token.place early (late_events atom) tokens (last ∷ []) all)

-- A semicolon behind an expression is taken, and nothing is reported of it.
last_taken : (limits : Limits) (context : Context) (atom : ℕ) (tokens : List Seen) (last : Seen) (value : Source) (w : Compilation)
    → opens last.token.kind ≡ false → w.opening ≡ None
    → run limits context (happenings_before last.token.place (late_events atom) (last ∷ []))
    (record (tokens_told context (with_outer (begun w.unit)) tokens w) { unit = with_value (tokens_of tokens) value (begun w.unit) })
    ≡ text_read context tokens value last w
last_taken limits context atom tokens last value w plain none =
    let before = noted Note.Hold (with_value (tokens_of tokens) value (begun w.unit)) in
    let told = tokens_told context (with_outer (begun w.unit)) tokens w in
    let behind = taken last.token before in
    one_taken context last before told (tokens_opening context (with_outer (begun w.unit)) tokens w ∙ none)
    ∙ ap (λ (x : Compilation). record (passed last.behind x) { unit = behind })
    (nothing_told context last.token behind.depth told plain)

-- Lemmas about numbers of tokens

few_tokens : {A : Type 0} (xs : List A) → length (take 1 xs) ≤ 1
few_tokens [] = let none : 0 ≤ 1 = omega arith in none
few_tokens (x ∷ xs) = let one : 1 ≤ 1 = omega arith in one

same_count : (n : ℕ) → n ≤ n
same_count n = omega arith

-- The tokens of the unit are few, where all those of the text are, of which one is the semicolon.
few_enough : (all own front tokens seen : ℕ) → all ≡ own + front → own ≤ 1 → front ≡ tokens → tokens + 1 ≡ seen → seen < 4294967295
    → all < 4294967295
few_enough all own front tokens seen joined few same more most = omega (arith, joined, few, same, more, most)

-- Lemmas about a text

abbrev Steps : Symbol Action → Type 0
Steps value = (atoms : List ℕ) (events : List (Event Action)) → IsText grammar (value ∷ []) atoms events → AllSteps events

one_read : (limits : Limits) (context : Context) (value : Symbol Action) (level : ℕ) → IsOneOf (form_of (value ∷ []) level) forms
    → Steps value → (seen : List Seen) (events : List (Event Action))
    → IsText grammar (Part.DO_BEGIN ∷ Part.DO_OUTER ∷ value ∷
    behind_value) (atoms_of seen) events → AreSeen (atoms_of seen) (tokens_of seen)
    → length seen < 4294967295 → (w : Compilation) → IsOne limits context level events seen w
one_read limits context value level form steps seen events text are few w =
    let i = inner value (atoms_of seen) events text in
    let l = last_apart i.front i.atom seen i.atoms_are in
    let tokens = l.tokens in
    let last = l.last in
    let all_seen : AreSeen (atoms_of (tokens ++ last ∷ [])) (tokens_of (tokens ++ last ∷ [])) =
    subst (λ (x : List Seen). AreSeen (atoms_of x) (tokens_of x)) (sym l.same) are in
    let of_tokens : IsText grammar (value ∷ []) (atoms_of tokens) i.early =
    subst (λ (x : List ℕ). IsText grammar (value ∷ []) x i.early) (sym l.atoms) i.of_front in
    let take_all : TakeAll i.early tokens = texts_take_all of_tokens tokens refl in
    let last_is : last.atom ≡ i.atom = last_atom tokens last i.front i.atom l.atoms (ap atoms_of l.same ∙ i.atoms_are) in
    let semicolon : last.token.kind ≡ TokenKind.Mark Mark.Semicolon = last_seen tokens last all_seen Mark.Semicolon
    (last_is ∙ only_bit (mark_atom Mark.Semicolon) i.atom (sym (ap (λ set. has set i.atom) semicolon_class) ∙ i.is_semicolon)) in
    let v : Compilation = next_comes w in
    let u : UnitAtHand = begun w.unit in
    let x : UnitAtHand = with_outer u in
    let only : AllSteps i.early = steps (atoms_of tokens) i.early of_tokens in
    let own : length u.tokens ≤ 1 = few_tokens w.unit.tokens in
    let one_more : length tokens + 1 ≡ length seen = sym (length-append tokens (last ∷ [])) ∙ ap length l.same in
    let counts : length (u.tokens ++ tokens_of tokens) < 4294967295 =
    few_enough (length (u.tokens ++ tokens_of tokens)) (length u.tokens) (length (tokens_of tokens)) (length tokens) (length seen)
    (length-append u.tokens (tokens_of tokens)) own (tokens_count tokens) one_more few in
    let e =
    expressions_are_read (value ∷ []) level form (atoms_of tokens) i.early of_tokens x (tokens_of tokens) (seen_front tokens last all_seen)
    refl (same_count (length u.tokens)) counts in
    let reads : read_by i.early (tokens_of tokens) x ≡ with_value (tokens_of tokens) e.0 u =
    value_reads (tokens_of tokens) e.0 u (read_by i.early (tokens_of tokens) x)
    (fields_stay i.early tokens x u.gathering u.depth u.tokens only take_all) e.2 e.3 in
    let late = late_events i.atom in
    record {
      tokens = tokens;
      semicolon = last;
      same = l.same;
      is_semicolon = semicolon;
      value = e.0;
      written = e.1;
      does = ap (λ (es : List (Event Action)). run limits context (happenings_of es seen) v) i.events_are
          ∙ (ap (λ (all : List Seen). run limits context
          (happenings_of (Did Action.Begin ∷ Did Action.Outer ∷ (i.early ++ late)) all) v) (sym l.same)
          ∙ (ap (λ hs. run limits context hs v)
          (of_before (Did Action.Begin ∷ Did Action.Outer ∷ i.early) i.atom tokens last take_all)
          ∙ (note_first limits context last.token.place Action.Begin (tokens ++ last ∷ []) (Did Action.Outer ∷ (i.early ++ late)) v
          (record v { unit = u }) (λ place. refl)
          ∙ (expressed_does limits context last.token.place u tokens (last ∷ []) i.early late e.0 v reads only take_all refl
          ∙ last_taken limits context i.atom tokens last e.0 v (ap opens semicolon) refl))));
    }

-- Lemmas about the rules

expression_steps : Steps Part.EXPRESSION
expression_steps atoms events text = (expression_form atoms events text).steps

assign_only : Steps Part.ASSIGN
assign_only atoms events text = only_steps text assign_steps

expression_read : (limits : Limits) (context : Context) (seen : List Seen) (events : List (Event Action))
    → IsText grammar (Symbol.Rule alone_expression ∷ []) (atoms_of seen) events → AreSeen (atoms_of seen) (tokens_of seen)
    → length seen < 4294967295 → (w : Compilation) → IsOne limits context commas events seen w
expression_read limits context seen events text are few w =
    of_rows (IsOne limits context commas events seen w) alone_expression (alone_row Part.EXPRESSION ∷
    []) (atoms_of seen) events expression_rows
    ((λ t. one_read limits context Part.EXPRESSION commas first expression_steps seen events t are few w), tt) text

constant_read : (limits : Limits) (context : Context) (seen : List Seen) (events : List (Event Action))
    → IsText grammar (Symbol.Rule alone_constant ∷ []) (atoms_of seen) events → AreSeen (atoms_of seen) (tokens_of seen)
    → length seen < 4294967295 → (w : Compilation) → IsOne limits context assignments events seen w
constant_read limits context seen events text are few w =
    of_rows (IsOne limits context assignments events seen w) alone_constant (alone_row Part.ASSIGN ∷
    []) (atoms_of seen) events constant_rows
    ((λ t. one_read limits context Part.ASSIGN assignments (later first) assign_only seen events t are few w), tt) text

of_two : (P : Kind → Type 0) (a b kind : Kind) → P a → P b → IsOneOf kind (a ∷ b ∷ []) → P kind
of_two P a b kind x y first = x
of_two P a b kind x y (later first) = y
of_two P a b kind x y (later (later m)) = elim m [ ]

abbrev AreOne : Limits → Kind → Type 0
AreOne limits kind =
    (context : Context) (seen : List Seen) (events : List (Event Action))
    → IsText grammar (Symbol.Rule kind.rule ∷ []) (atoms_of seen) events → AreSeen (atoms_of seen) (tokens_of seen)
    → length seen < 4294967295 → (w : Compilation) → IsOne limits context kind.level events seen w

pub texts_are_one : (limits : Limits) (kind : Kind) → IsOneOf kind kinds → AreOne limits kind
texts_are_one limits kind is =
    of_two (AreOne limits) (record { rule = alone_expression; level = commas }) (record { rule = alone_constant; level = assignments }) kind
    (expression_read limits) (constant_read limits) is
