-- The tokens of a unit are read: the unit is that of its parts, and beside it their reports are told.
use Rattle.std.proofs.Common.{false, ◌≡◌, ℕ, suc, ◌+◌, ◌≤◌, ◌<◌, List, [], ◌∷◌, ◌++◌, length, Some, None, refl, sym, ◌∙◌, ap, arith}
use Rattle.std.proofs.lemmas.List.{length-append}
use Rattle.inf_expressions.specs.Sources.{Source}
use Rattle.inf_scanner.specs.declared.tokens.Place.{Place}
use Rattle.inf_gathering.specs.Gatherings.{Gathering}
use Rattle.inf_settings.specs.Bounds.{Limits}
use Rattle.inf_machine.specs.declared.symbols.Symbol.{Symbol}
use Rattle.inf_machine.specs.Grammar.{Did, Event, IsText, Took, first as the_first}
use Rattle.inf_syntax.specs.{declared.actions.Action.Action}
use Rattle.inf_syntax.specs.declared.parts.names.TheConstants as Part
use Rattle.inf_grammar.specs.Language.{grammar}
use Rattle.inf_unit.specs.Tokens.{SourceToken}
use Rattle.inf_unit.specs.Units.{Unit as UnitAtHand, acted, depth_behind, long_at, outer_tokens, taken}
use Rattle.inf_compilation.specs.{Actions.Compilation, Actions.took, Context.Context, Context.longest}
use Rattle.inf_reader.specs.Acting.{act}
use Rattle.inf_statement_laws.specs.{Happenings.Acts, Happenings.Takes, Laid.next_comes, Laid.passed, Laid.run, Readings.Seen}
use Rattle.inf_statement_laws.specs.{Readings.plainly_at}
use Rattle.inf_statement_laws.proofs.Laying.{run_then}
use Rattle.inf_expression_laws.specs.{Gathered.AreSeen, Gathered.read_by, Gathered.with_source, Laws.Form, Precedence.Written}
use Rattle.inf_expression_laws.specs.{Precedence.commas}
use Rattle.inf_expression_laws.proofs.{ExpressionsRead.passed_are_read, Items.Whole, Typed.Passes, Typed.form_passes}
use Rattle.inf_language.specs.{Texts.atoms_of, Texts.happenings_before, Texts.tokens_of, Units.AllSteps, Units.TakeAll}
use Rattle.inf_language.proofs.{ExpressionsTold.fields_stay, ExpressionsTold.none_waits, ExpressionsTold.took_is_told, TextsSplit.is_rule}
use Rattle.inf_language.proofs.{TextsSplit.only_steps}
use Rattle.inf_trees.specs.Trees.{tokens_told, told_at, with_outer, with_value}
use Rattle.inf_trees.proofs.Beside.{acted_gathers, step_acts, told_opening}

-- Lemmas about the happenings of two parts of a text, before another token

abbrev pub place_before : List Seen → Place → Place
place_before [] next = next
place_before (s ∷ seen) next = s.token.place

pub before-append : (next : Place) (early late : List (Event Action)) (tokens rest : List Seen) → TakeAll early tokens
    → happenings_before next (early ++ late) (tokens ++ rest)
    ≡ happenings_before (place_before rest next) early tokens ++ happenings_before next late rest
before-append next [] late [] rest all = refl
before-append next [] late (x ∷ tokens) rest all = absurd all
before-append next (Did a ∷ early) late [] [] all = ap (λ hs. Acts (plainly_at next) a ∷ hs) (before-append next early late [] [] all)
before-append next (Did a ∷ early) late [] (s ∷ rest) all =
    ap (λ hs. Acts (plainly_at s.token.place) a ∷ hs) (before-append next early late [] (s ∷ rest) all)
before-append next (Did a ∷ early) late (x ∷ tokens) rest all =
    ap (λ hs. Acts (plainly_at x.token.place) a ∷ hs) (before-append next early late (x ∷ tokens) rest all)
before-append next (Took atom ∷ early) late [] rest all = absurd all
before-append next (Took atom ∷ early) late (x ∷ tokens) rest all =
    ap (λ hs. Takes x.token x.behind ∷ hs) (before-append next early late tokens rest all)

-- an expression begins at the next token
outer_acts : (limits : Limits) (context : Context) (next : Place) (events : List (Event Action)) (seen : List Seen) (w : Compilation)
    → run limits context (happenings_before next (Did Action.Outer ∷ events) seen) w
    ≡ run limits context (happenings_before next events seen) (record w { unit = with_outer w.unit })
outer_acts limits context next events [] w = refl
outer_acts limits context next events (s ∷ seen) w = refl

-- Lemmas about one token

pub one_taken : (context : Context) (s : Seen) (u : UnitAtHand) (w : Compilation) → w.opening ≡ None
    → next_comes (passed s.behind (took context s.token (record w { unit = u })))
    ≡ record (passed s.behind (told_at context (taken s.token u) s.token w)) { unit = taken s.token u }
one_taken context s u w none =
    let v = taken s.token u in
    let told = told_at context v s.token w in
    ap (λ x. next_comes (passed s.behind x)) (took_is_told context s.token u w)
    ∙ none_waits (record (passed s.behind told) { unit = v })
    (told_opening context s.token v.depth (long_at (longest context) v) (outer_tokens v) w ∙ none)

pub told_at_opening : (context : Context) (u : UnitAtHand) (t : SourceToken) (w : Compilation) → (told_at context u t w).opening ≡ w.opening
told_at_opening context u t w = told_opening context t u.depth (long_at (longest context) u) (outer_tokens u) w

pub tokens_opening : (context : Context) (u : UnitAtHand) (seen : List Seen) (w : Compilation)
    → (tokens_told context u seen w).opening ≡ w.opening
tokens_opening context u [] w = refl
tokens_opening context u (s ∷ seen) w =
    let v = taken s.token u in
    tokens_opening context v seen (passed s.behind (told_at context v s.token w)) ∙ told_at_opening context v s.token w

-- The tokens of an expression: their reports do not depend on what is gathered.

abbrev pub at : UnitAtHand → List SourceToken → Gathering → ℕ → UnitAtHand
at u tokens g depth = record u { tokens = tokens; gathering = g; is_over = false; depth = depth }

pub told_beside : (limits : Limits) (context : Context) (next : Place) (u : UnitAtHand) (events : List (Event Action)) (seen : List Seen)
    (tokens : List SourceToken) (g first : Gathering) (depth : ℕ) (w : Compilation)
    → AllSteps events → TakeAll events seen → w.opening ≡ None
    → run limits context (happenings_before next events seen) (record w { unit = at u tokens g depth })
    ≡ record (tokens_told context (at u tokens first depth) seen w) { unit = read_by events (tokens_of seen) (at u tokens g depth) }
told_beside limits context next u [] [] tokens g first depth w steps all none = refl
told_beside limits context next u [] (s ∷ seen) tokens g first depth w steps all none = absurd all
told_beside limits context next u (Did a ∷ events) [] tokens g first depth w steps all none =
    let now = at u tokens g depth in
    ap (run limits context (happenings_before next events [])) (step_acts limits context next a w now steps.0)
    ∙ (told_beside limits context next u events [] tokens (acted a now).gathering first depth w steps.1 all none
    ∙ ap (λ x. record w { unit = read_by events [] x }) (sym (acted_gathers a now steps.0)))
told_beside limits context next u (Did a ∷ events) (s ∷ seen) tokens g first depth w steps all none =
    let now = at u tokens g depth in
    let told = tokens_told context (at u tokens first depth) (s ∷ seen) w in
    ap (run limits context (happenings_before next events (s ∷ seen))) (step_acts limits context s.token.place a w now steps.0)
    ∙ (told_beside limits context next u events (s ∷ seen) tokens (acted a now).gathering first depth w steps.1 all none
    ∙ ap (λ x. record told { unit = read_by events (tokens_of (s ∷ seen)) x }) (sym (acted_gathers a now steps.0)))
told_beside limits context next u (Took atom ∷ events) [] tokens g first depth w steps all none = absurd all
told_beside limits context next u (Took atom ∷ events) (s ∷ seen) tokens g first depth w steps all none =
    let now = at u tokens g depth in
    let more = at u (tokens ++ s.token ∷ []) first (depth_behind s.token.kind depth) in
    ap (run limits context (happenings_before next events seen)) (one_taken context s now w none)
    ∙ told_beside limits context next u events seen (tokens ++ s.token ∷ []) g first (depth_behind s.token.kind depth)
    (passed s.behind (told_at context more s.token w)) steps all (told_at_opening context more s.token w ∙ none)

-- Lemmas about notes

-- an action before the next token, wherever that stands
pub note_first : (limits : Limits) (context : Context) (next : Place) (a : Action) (seen : List Seen) (events : List (Event Action))
    (w v : Compilation) → ((place : Place) → act limits context place a w ≡ v)
    → run limits context (happenings_before next (Did a ∷ events) seen) w ≡ run limits context (happenings_before next events seen) v
note_first limits context next a [] events w v acts = ap (run limits context (happenings_before next events [])) (acts next)
note_first limits context next a (s ∷ seen) events w v acts =
    ap (run limits context (happenings_before next events (s ∷ seen))) (acts s.token.place)

-- Numbers of tokens, and the atoms of parts

pub tokens_count : (seen : List Seen) → length (tokens_of seen) ≡ length seen
tokens_count [] = refl
tokens_count (s ∷ seen) = ap suc (tokens_count seen)

pub seen_parts : (tokens rest : List Seen) → AreSeen (atoms_of (tokens ++ rest)) (tokens_of (tokens ++ rest))
    → AreSeen (atoms_of tokens) (tokens_of tokens) × AreSeen (atoms_of rest) (tokens_of rest)
seen_parts [] rest are = (tt, are)
seen_parts (s ∷ tokens) rest are = let on = seen_parts tokens rest are.1 in ((are.0, on.0), on.1)

-- A text with the form of an expression

abbrev pub form_of : List (Symbol Action) → ℕ → Form
form_of symbols level = record { symbols = symbols; level = level }

pub record HasForm (atoms : List ℕ) (events : List (Event Action)) : Type 0 where
  pub symbols : List (Symbol Action)
  pub level : ℕ
  pub passes : Passes [] symbols (Whole level ∷ [])
  pub text : IsText grammar symbols atoms events
  pub steps : AllSteps events

expression_steps : {atoms : List ℕ} {events : List (Event Action)} → IsText grammar (Part.EXPRESSION ∷ []) atoms events → AllSteps events
unfolding is_rule
expression_steps text = only_steps text refl

-- the expression of a statement
pub expression_form : (atoms : List ℕ) (events : List (Event Action)) → IsText grammar (Part.EXPRESSION ∷
    []) atoms events → HasForm atoms events
expression_form atoms events text = record {
  symbols = Part.EXPRESSION ∷ [];
  level = commas;
  passes = form_passes (Part.EXPRESSION ∷ []) commas the_first;
  text = text;
  steps = expression_steps text;
}

-- A unit with an expression more

abbrev pub ready : UnitAtHand → UnitAtHand
ready u = record u { is_over = false }

pub record Gathers (u : UnitAtHand) (tokens : List Seen) (steps : List (Event Action)) : Type 0 where
  pub level : ℕ
  pub value : Source
  pub written : Written level (length u.tokens) (length u.gathering.leaves) (atoms_of tokens) value
  pub reads : read_by steps (tokens_of tokens) (with_outer (ready u)) ≡ with_value (tokens_of tokens) value (ready u)
  pub only : AllSteps steps

pub value_reads : (tokens : List SourceToken) (value : Source) (u r : UnitAtHand)
    → r ≡ record (with_outer (ready u)) { tokens = r.tokens; gathering = r.gathering; depth = (with_value tokens value u).depth }
    → r.gathering ≡ with_source (Some (length u.tokens)) u.begun (u.tokens ++ tokens) value u.gathering → r.tokens ≡ u.tokens ++ tokens
    → r ≡ with_value tokens value (ready u)
value_reads tokens value u r stays gathered all =
    let v = with_value tokens value (ready u) in
    stays ∙ (ap (λ l. record v { tokens = l; gathering = r.gathering }) all ∙ ap (λ g. record v { gathering = g }) gathered)

pub gathers : (u : UnitAtHand) (tokens : List Seen) (steps : List (Event Action))
    → HasForm (atoms_of tokens) steps → TakeAll steps tokens → AreSeen (atoms_of tokens) (tokens_of tokens)
    → u.begun ≤ length u.tokens → length u.tokens + length tokens < 4294967295 → Gathers u tokens steps
gathers u tokens steps f all are_seen begun few =
    let x = with_outer (ready u) in
    let count = tokens_count tokens in
    let all_count = length-append u.tokens (tokens_of tokens) in
    let e = passed_are_read f.symbols f.level f.passes (atoms_of tokens) steps f.text x (tokens_of tokens) are_seen refl begun
    (omega (arith, few, count, all_count)) in
    record {
      level = f.level;
      value = e.0;
      written = e.1;
      reads = value_reads (tokens_of tokens) e.0 u (read_by steps (tokens_of tokens) x)
          (fields_stay steps tokens x u.gathering u.depth u.tokens f.steps all) e.2 e.3;
      only = f.steps;
    }

pub expressed_does : (limits : Limits) (context : Context) (next : Place) (u : UnitAtHand) (tokens rest : List Seen)
    (steps late : List (Event Action)) (value : Source) (w : Compilation)
    → read_by steps (tokens_of tokens) (with_outer (ready u)) ≡ with_value (tokens_of tokens) value (ready u)
    → AllSteps steps → TakeAll steps tokens → w.opening ≡ None
    → run limits context (happenings_before next (Did Action.Outer ∷ (steps ++ late)) (tokens ++ rest)) (record w { unit = ready u })
    ≡ run limits context (happenings_before next late rest)
    (record (tokens_told context (with_outer (ready u)) tokens w) { unit = with_value (tokens_of tokens) value (ready u) })
expressed_does limits context next u tokens rest steps late value w reads only all none =
    let x = with_outer (ready u) in
    let early = happenings_before (place_before rest next) steps tokens in
    let others = happenings_before next late rest in
    outer_acts limits context next (steps ++ late) (tokens ++ rest) (record w { unit = ready u })
    ∙ (ap (λ hs. run limits context hs (record w { unit = x })) (before-append next steps late tokens rest all)
    ∙ (run_then limits context early others (record w { unit = x })
    ∙ ap (run limits context others)
    (told_beside limits context (place_before rest next) x steps tokens u.tokens u.gathering u.gathering u.depth w only all none
    ∙ ap (λ y. record (tokens_told context x tokens w) { unit = y }) reads)))
