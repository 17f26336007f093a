-- Statements that a conditional directive closes ahead: all is as if it ended behind their ends, whatever is closed ahead before it.
use Rattle.std.proofs.Common.{◌≡◌, ℕ, zero, suc, ◌+◌, ◌-◌, max, Option, None, Some, List, [], ◌∷◌, ◌++◌, refl, sym, ◌∙◌, ap, arith, true}
use Rattle.std.proofs.lemmas.Bool.{lt-ltb}
use Rattle.std.specs.Prelude.{if◌then◌else◌, nat_lt}
use Rattle.inf_settings.specs.Bounds.{Limits}
use Rattle.inf_scanner.specs.declared.tokens.Place.{Place}
use Rattle.inf_machine.specs.{Machine.taken, declared.symbols.Symbol.Symbol}
use Rattle.inf_syntax.specs.declared.actions.Action.{Action}
use Rattle.inf_grammar.specs.{Language.grammar, Language.known, Routines.closings}
use Rattle.inf_unit.specs.Tokens.{SourceToken}
use Rattle.inf_constructs.specs.Constructs.{all_ended}
use Rattle.inf_compilation.specs.{Actions.Compilation, Actions.took, Context.Context}
use Rattle.inf_compilation.specs.Nesting.{closed_ahead, construct_closed, construct_ended, constructs_laid}
use Rattle.inf_reader.specs.Acting.{act, acted, all_acted}
use Rattle.inf_statement_laws.specs.{Happenings.Between, Happenings.Happening, Laid.next_comes, Laid.passed, Laid.run}
use Rattle.inf_statement_laws.specs.Readings.{Seen, all_taken, behind_ends, behind_some, behind_token, directed, token_happenings}
use Rattle.inf_statement_laws.proofs.Laying.{ahead_is, closing_open, next_ahead, next_passed}
use Rattle.inf_program.proofs.Grouping.{closed_once}

-- One statement ends

pub nothing_ahead : (limits : Limits) (w : Compilation) → closed_ahead limits 0 w ≡ w
nothing_ahead limits w = closed_once limits 0 w (none_less w.closed) (most_alone w.closed)
  where
    none_less : (n : ℕ) → 0 - n ≡ 0
    none_less n = omega arith

    most_alone : (n : ℕ) → max n 0 ≡ n
    most_alone n = omega arith

-- one of the statements that are closed ahead ends
closing_counted : (limits : Limits) (n : ℕ) (v : Compilation) → v.closed ≡ suc n → construct_closed limits v ≡ record v { closed = n }
closing_counted limits n v e =
    let some : nat_lt 0 (suc n) ≡ true = lt-ltb 0 (suc n) (omega arith) in
    let one_less : suc n - 1 ≡ n = omega arith in
    ap (λ k. if nat_lt 0 k then record v { closed = k - 1 } else construct_ended limits v) e
    ∙ (ap (λ b. if b then record v { closed = suc n - 1 } else construct_ended limits v) some ∙ ap (λ k. record v { closed = k }) one_less)

most_less : (closed n count : ℕ) → closed ≡ suc n → max closed (suc count) ≡ suc (max n count)
most_less closed n count e = omega (arith, e)

fewer : (closed n count : ℕ) → closed ≡ suc n → suc count - closed ≡ count - n
fewer closed n count e = omega (arith, e)

-- the next statement ends, and the effect meanwhile comes behind its end
next_closed : (limits : Limits) (m : Between) (count : ℕ) (w : Compilation)
    → construct_closed limits (passed m (closed_ahead limits (suc count) w))
    ≡ passed m (closed_ahead limits count (construct_closed limits w))
next_closed limits m count w = by_closed w.closed refl
  where
    by_closed : (n : ℕ) → w.closed ≡ n → construct_closed limits (passed m (closed_ahead limits (suc count) w))
        ≡ passed m (closed_ahead limits count (construct_closed limits w))
    by_closed zero e = ap (λ (v : Compilation). construct_closed limits (passed m v)) (ahead_is limits (suc count) w e)
        ∙ (next_passed limits m count w
        ∙ (ap (passed m) (next_ahead limits count w)
        ∙ (ap (passed m) (sym (ahead_is limits count (construct_ended limits w) e))
        ∙ ap (λ (v : Compilation). passed m (closed_ahead limits count v)) (sym (closing_open limits w e)))))
    by_closed (suc n) e = closing_counted limits (max n count) (passed m (closed_ahead limits (suc count) w)) (most_less w.closed n count e)
        ∙ (ap (λ k. passed m (record (constructs_laid (all_ended limits k w.constructs) w) { closed = max n count }))
        (fewer w.closed n count e)
        ∙ ap (λ (v : Compilation). passed m (closed_ahead limits count v)) (sym (closing_counted limits n w e)))

-- All statements end that end next, whatever the next token is

-- the actions of `count` ends
abbrev ends : ℕ → List Action
ends zero = []
ends (suc count) = Action.Close ∷ ends count

acted_then : (limits : Limits) (context : Context) (place : Place) (xs ys : List Action) (w : Compilation)
    → acted limits context place (xs ++ ys) w ≡ acted limits context place ys (acted limits context place xs w)
acted_then limits context place [] ys w = refl
acted_then limits context place (x ∷ xs) ys w = acted_then limits context place xs ys (act limits context place x w)

-- their ends come first on the way to each token
closings_first : (atom : ℕ) (symbols : List (Symbol Action))
    → (rest : List Action) × ((taken grammar known atom symbols).actions ≡ ends (closings symbols) ++ rest)
closings_first atom [] = ((taken grammar known atom []).actions, refl)
closings_first atom (Symbol.Token class ∷ symbols) = ((taken grammar known atom (Symbol.Token class ∷ symbols)).actions, refl)
closings_first atom (Symbol.Rule rule ∷ symbols) = ((taken grammar known atom (Symbol.Rule rule ∷ symbols)).actions, refl)
closings_first atom (Symbol.Act Action.Close ∷ symbols) =
    let on = closings_first atom symbols in
    let more : suc (closings symbols) ≡ 1 + closings symbols = omega arith in
    (on.0, ap (λ l. Action.Close ∷ l) on.1 ∙ ap (λ n. ends n ++ on.0) more)
closings_first atom (Symbol.Act a ∷ symbols) = ((taken grammar known atom (Symbol.Act a ∷ symbols)).actions, refl)

ahead_ends : (limits : Limits) (context : Context) (place : Place) (m : Between) (count : ℕ) (w : Compilation)
    → acted limits context place (ends count) (passed m (closed_ahead limits count w))
    ≡ passed m (acted limits context place (ends count) w)
ahead_ends limits context place m zero w = ap (passed m) (nothing_ahead limits w)
ahead_ends limits context place m (suc count) w = ap (acted limits context place (ends count)) (next_closed limits m count w)
    ∙ ahead_ends limits context place m count (construct_closed limits w)

-- the happenings of these ends have the same effect
behind_ends_run : (limits : Limits) (context : Context) (t : SourceToken) (b m : Between) (count : ℕ) (rest : List Action)
    (others : List Happening)
    (w : Compilation)
    → run limits context (behind_some (suc count) m (token_happenings t b (ends (suc count) ++ rest) ++ others)) w
    ≡ run limits context (token_happenings t b rest ++ others) (passed m (acted limits context t.place (ends (suc count)) w))
behind_ends_run limits context t b m zero rest others w = refl
behind_ends_run limits context t b m (suc count) rest others w =
    behind_ends_run limits context t b m count rest others (act limits context t.place Action.Close w)

-- Lemmas about tokens

pub actions_happen : (limits : Limits) (context : Context) (t : SourceToken) (m : Between) (actions : List Action) (w : Compilation)
    → next_comes (passed m (took context t (acted limits context t.place actions w))) ≡ run limits context (token_happenings t m actions) w
actions_happen limits context t m [] w = refl
actions_happen limits context t m (a ∷ actions) w = actions_happen limits context t m actions (act limits context t.place a w)

-- whether the effect from where a conditional directive ends is still to come behind ends of statements
abbrev pub Waits : Option Between → List (Symbol Action) → Type 0
Waits None symbols = Unit {0}
Waits (Some m) symbols = (count : ℕ) × (closings symbols ≡ suc count)

-- where a token's actions begin, by those from there on
pub record Starts (limits : Limits) (context : Context) (d : Option Between) (s : Seen) (own : Between) (symbols : List (Symbol Action))
    (others : List Happening) (w : Compilation) : Type 0 where
  pub rest : List Action
  pub from : Compilation
  pub acts : all_acted limits context s.token.place (taken grammar known s.atom symbols).actions (directed limits d (closings symbols) w)
      ≡ acted limits context s.token.place rest from
  pub runs : run limits context
      (behind_ends d (closings symbols) (token_happenings s.token own (taken grammar known s.atom symbols).actions ++ others))
      (next_comes w)
      ≡ run limits context (token_happenings s.token own rest ++ others) from

pub starts : (limits : Limits) (context : Context) (d : Option Between) (s : Seen) (own : Between) (symbols : List (Symbol Action))
    (others : List Happening) (w : Compilation) → Waits d symbols → Starts limits context d s own symbols others w
starts limits context None s own symbols others w waits =
    record { rest = (taken grammar known s.atom symbols).actions; from = next_comes w; acts = refl; runs = refl }
starts limits context (Some m) s own symbols others w waits =
    let c = closings_first s.atom symbols in
    let place = s.token.place in
    let k = suc waits.0 in
    let actions : (taken grammar known s.atom symbols).actions ≡ ends k ++ c.0 = c.1 ∙ ap (λ n. ends n ++ c.0) waits.1 in
    let v = next_comes w in
    record {
      rest = c.0;
      from = passed m (acted limits context place (ends k) v);
      acts = ap (λ n. acted limits context place (taken grammar known s.atom symbols).actions
          (next_comes (passed m (closed_ahead limits n w)))) waits.1
          ∙ (ap (λ l. acted limits context place l (passed m (closed_ahead limits k v))) actions
          ∙ (acted_then limits context place (ends k) c.0 (passed m (closed_ahead limits k v))
          ∙ ap (acted limits context place c.0) (ahead_ends limits context place m k v)));
      runs = ap (λ n. run limits context
          (behind_some n m (token_happenings s.token own (taken grammar known s.atom symbols).actions ++ others)) v) waits.1
          ∙ (ap (λ l. run limits context (behind_some k m (token_happenings s.token own l ++ others)) v) actions
          ∙ behind_ends_run limits context s.token own m waits.0 c.0 others v);
    }

-- further tokens have the effect of some happenings
abbrev pub Further : Limits → Context → List Seen → List (Symbol Action) → List Happening → Type 0
Further limits context seen symbols hs =
    (d : Option Between) (w : Compilation) → Waits d symbols
    → next_comes (all_taken limits context seen symbols (directed limits d (closings symbols) w))
    ≡ run limits context (behind_ends d (closings symbols) hs) (next_comes w)

behind_none : (m : Between) (hs : List Happening) → behind_some 0 m hs ≡ hs
behind_none m [] = refl
behind_none m (h ∷ hs) = refl

-- behind a token
pub onward : (limits : Limits) (context : Context) (seen : List Seen) (symbols : List (Symbol Action)) (hs : List Happening)
    → Further limits context seen symbols hs
    → (d : Option Between) (b : Between) (w : Compilation) (count : ℕ) → closings symbols ≡ count
    → next_comes (all_taken limits context seen symbols (directed limits d (closings symbols) (passed b w)))
    ≡ run limits context (behind_ends d (closings symbols) hs) (next_comes (passed (behind_token d (closings symbols) b) w))
onward limits context seen symbols hs further None b w count is = further None (passed b w) tt
onward limits context seen symbols hs further (Some m) b w (suc count) is = further (Some m) (passed b w) (count, is)
    ∙ ap (λ n. run limits context (behind_some (closings symbols) m hs) (next_comes (passed (behind_token (Some m) n b) w))) (sym is)
onward limits context seen symbols hs further (Some m) b w zero is =
    let v = passed b w in
    ap (λ n. next_comes (all_taken limits context seen symbols (passed m (closed_ahead limits n v)))) is
    ∙ (ap (λ (x : Compilation). next_comes (all_taken limits context seen symbols (passed m x))) (nothing_ahead limits v)
    ∙ (further None (passed m v) tt
    ∙ (ap (λ l. run limits context l (next_comes (passed m v))) (sym (behind_none m hs))
    ∙ ap (λ n. run limits context (behind_some n m hs) (next_comes (passed (behind_token (Some m) n b) w))) (sym is))))
