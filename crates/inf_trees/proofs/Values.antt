-- Values one behind the other, as in a case: expressions with signs between them, which are joined to ranges and by commas; and words of
-- statements that are values.
use Rattle.std.proofs.Common.{◌≡◌, ℕ, ◌+◌, ◌≤◌, ◌<◌, List, ◌∷◌, ◌++◌, length, true, None, refl, ◌∙◌, ap, arith}
use Rattle.std.proofs.lemmas.List.{length-append}
use Rattle.inf_expressions.specs.{Sources.Source, declared.operators.Binary.Binary}
use Rattle.inf_scanner.specs.declared.tokens.Place.{Place}
use Rattle.inf_settings.specs.Bounds.{Limits}
use Rattle.inf_machine.specs.Grammar.{Did, Event}
use Rattle.inf_syntax.specs.declared.actions.Action.{Action}
use Rattle.inf_unit.specs.{Tokens.SourceToken, declared.roles.Note.Note, declared.steps.GatherStep.GatherStep}
use Rattle.inf_unit.specs.Units.{Unit as UnitAtHand, leaf_gathered, long_at, noted, outer_tokens, stepped}
use Rattle.inf_compilation.specs.{Actions.Compilation, Context.Context, Context.longest}
use Rattle.inf_statement_laws.specs.{Laid.run, Readings.Seen}
use Rattle.inf_statement_laws.proofs.Laying.{run_then}
use Rattle.inf_expression_laws.specs.{Gathered.AreSeen, Gathered.read_by, Gathered.with_source, Precedence.Written}
use Rattle.inf_expression_laws.proofs.ExpressionsRead.{passed_are_read}
use Rattle.inf_language.specs.{Constants.brackets_behind, Texts.atoms_of, Texts.happenings_before, Texts.tokens_of, Units.AllSteps}
use Rattle.inf_language.specs.{Units.TakeAll}
use Rattle.inf_language.proofs.{Derivations.texts_take_all, ExpressionsTold.fields_stay}
use Rattle.inf_trees.specs.Trees.{Further, Joined, Worded, front_told, tokens_told, with_further, with_word}
use Rattle.inf_trees.proofs.{Doubts.length_opening, Doubts.sized_beside, Needs.needs, Needs.steps_need, UnitsGo.Going, UnitsGo.noted_goes}
use Rattle.inf_trees.proofs.{UnitsGo.steps_quiet}
use Rattle.inf_trees.proofs.UnitsRead.{HasForm, before-append, note_first, place_before, ready, seen_parts, tokens_count, tokens_opening}
use Rattle.inf_trees.proofs.UnitsRead.{told_beside}

-- Lemmas about an expression behind others

further_reads : (tokens : List SourceToken) (value : Source) (u r : UnitAtHand)
    → r ≡ record (ready u) { tokens = r.tokens; gathering = r.gathering; depth = brackets_behind tokens u.depth }
    → r.gathering ≡ with_source u.outer u.begun (u.tokens ++ tokens) value u.gathering → r.tokens ≡ u.tokens ++ tokens
    → r ≡ with_further tokens value (ready u)
further_reads tokens value u r stays gathered all =
    let v = with_further tokens value (ready u) in
    stays ∙ (ap (λ l. record v { tokens = l; gathering = r.gathering }) all ∙ ap (λ g. record v { gathering = g }) gathered)

record GathersFurther (u : UnitAtHand) (tokens : List Seen) (steps : List (Event Action)) : Type 0 where
  level : ℕ
  value : Source
  written : Written level (length u.tokens) (length u.gathering.leaves) (atoms_of tokens) value
  reads : read_by steps (tokens_of tokens) (ready u) ≡ with_further (tokens_of tokens) value (ready u)
  only : AllSteps steps

gathers_further : (u : UnitAtHand) (tokens : List Seen) (steps : List (Event Action)) → HasForm (atoms_of tokens) steps
    → TakeAll steps tokens → AreSeen (atoms_of tokens) (tokens_of tokens) → u.begun ≤ length u.tokens
    → length u.tokens + length tokens < 4294967295 → GathersFurther u tokens steps
gathers_further u tokens steps f all are_seen begun few =
    let x = ready u in
    let count = tokens_count tokens in
    let all_count = length-append u.tokens (tokens_of tokens) in
    let e = passed_are_read f.symbols f.level f.passes (atoms_of tokens) steps f.text x (tokens_of tokens) are_seen refl begun
    (omega (arith, few, count, all_count)) in
    record {
      level = f.level;
      value = e.0;
      written = e.1;
      reads = further_reads (tokens_of tokens) e.0 u (read_by steps (tokens_of tokens) x)
          (fields_stay steps tokens x u.gathering u.depth u.tokens f.steps all) e.2 e.3;
      only = f.steps;
    }

further_does : (limits : Limits) (context : Context) (next : Place) (u : UnitAtHand) (tokens rest : List Seen)
    (steps late : List (Event Action)) (value : Source) (w : Compilation)
    → read_by steps (tokens_of tokens) (ready u) ≡ with_further (tokens_of tokens) value (ready u) → AllSteps steps → TakeAll steps tokens
    → w.opening ≡ None
    → run limits context (happenings_before next (steps ++ late) (tokens ++ rest)) (record w { unit = ready u })
    ≡ run limits context (happenings_before next late rest)
    (record (tokens_told context (ready u) tokens w) { unit = with_further (tokens_of tokens) value (ready u) })
further_does limits context next u tokens rest steps late value w reads only all none =
    let x = ready u in
    let early = happenings_before (place_before rest next) steps tokens in
    let others = happenings_before next late rest in
    ap (λ hs. run limits context hs (record w { unit = x })) (before-append next steps late tokens rest all)
    ∙ (run_then limits context early others (record w { unit = x })
    ∙ ap (run limits context others)
    (told_beside limits context (place_before rest next) x steps tokens u.tokens u.gathering u.gathering u.depth w only all none
    ∙ ap (λ y. record (tokens_told context x tokens w) { unit = y }) reads))

pub further : (limits : Limits) (tokens rest : List Seen) (steps late : List (Event Action)) → HasForm (atoms_of tokens) steps
    → Going limits rest late → Going limits (tokens ++ rest) (steps ++ late)
further limits tokens rest steps late form on u are_seen begun few =
    let parts = seen_parts tokens rest are_seen in
    let count = tokens_count tokens in
    let all_count = length-append u.tokens (tokens_of tokens) in
    let seen_count = length-append tokens rest in
    let all = texts_take_all form.text tokens refl in
    let g = gathers_further u tokens steps form all parts.0 begun (omega (arith, few, seen_count)) in
    let more = on (with_further (tokens_of tokens) g.value u) parts.1 (omega (arith, begun, all_count, count))
    (omega (arith, few, seen_count, all_count, count)) in
    record {
      parts = Further g.level tokens g.value ∷ more.parts;
      same = ap (λ l. tokens ++ l) more.same;
      quiet = steps_quiet steps late g.only more.quiet;
      weighs = λ kind. steps_need kind steps late (needs kind more.parts) g.only (more.weighs kind);
      written = (g.written, more.written);
      does = λ context next w none room. further_does limits context next u tokens rest steps late g.value w g.reads g.only all none
          ∙ more.does context next (tokens_told context (ready u) tokens w) (tokens_opening context (ready u) tokens w ∙ none) room;
    }

-- Lemmas about values that are joined

pub range_joined : (limits : Limits) (rest : List Seen) (late : List (Event Action)) → Going limits rest late
    → Going limits rest (Did Action.To ∷ late)
range_joined limits rest late on u are_seen begun few =
    let joint = GatherStep.Two Binary.To in
    let more = on (stepped joint u) are_seen begun few in
    record {
      parts = Joined joint ∷ more.parts;
      same = more.same;
      quiet = (refl, more.quiet);
      weighs = more.weighs;
      written = more.written;
      does = λ context next w none room.
          note_first limits context next Action.To rest late (record w { unit = ready u }) (record w { unit = stepped joint (ready u) })
          (λ place. refl)
          ∙ more.does context next w none room;
    }

pub comma_joined : (limits : Limits) (rest : List Seen) (late : List (Event Action)) → Going limits rest late
    → Going limits rest (Did Action.Comma ∷ late)
comma_joined limits rest late on u are_seen begun few =
    let more = on (stepped GatherStep.Comma u) are_seen begun few in
    record {
      parts = Joined GatherStep.Comma ∷ more.parts;
      same = more.same;
      quiet = (refl, more.quiet);
      weighs = more.weighs;
      written = more.written;
      does = λ context next w none room. note_first limits context next Action.Comma rest late (record w { unit = ready u })
          (record w { unit = stepped GatherStep.Comma (ready u) }) (λ place. refl)
          ∙ more.does context next w none room;
    }

-- The word of a statement that is a value, and tokens that are no expression

pub worded : (limits : Limits) (rest : List Seen) (late : List (Event Action)) → Going limits rest late
    → Going limits rest (Did Action.OuterWord ∷ Did Action.Name ∷ late)
worded limits rest late on u are_seen begun few =
    let more = on (with_word u) are_seen begun few in
    record {
      parts = Worded ∷ more.parts;
      same = more.same;
      quiet = (refl, (refl, more.quiet));
      weighs = more.weighs;
      written = more.written;
      does = λ context next w none room.
          let y = noted Note.OuterWord (ready u) in
          let told = front_told context y w in
          note_first limits context next Action.OuterWord rest (Did Action.Name ∷ late) (record w { unit = ready u })
          (record told { unit = y }) (λ place. sized_beside context (long_at (longest context) y) y w)
          ∙ (note_first limits context next Action.Name rest late (record told { unit = y }) (record told { unit = leaf_gathered y })
          (λ place. refl)
          ∙ more.does context next told (length_opening context (long_at (longest context) y) (outer_tokens y) w ∙ none) room);
    }

pub outer_noted : (limits : Limits) (rest : List Seen) (late : List (Event Action)) → Going limits rest late
    → Going limits rest (Did Action.Outer ∷ late)
outer_noted limits rest late on u are_seen begun few =
    let v = noted (Note.Outer true) u in
    noted_goes limits Action.Outer (Note.Outer true) u v rest late refl refl refl (λ context place w room. refl) (on v are_seen begun few)

pub default_noted : (limits : Limits) (rest : List Seen) (late : List (Event Action)) → Going limits rest late
    → Going limits rest (Did Action.Default ∷ late)
default_noted limits rest late on u are_seen begun few =
    let v = noted Note.Default u in
    noted_goes limits Action.Default Note.Default u v rest late refl refl refl (λ context place w room. refl) (on v are_seen begun few)
