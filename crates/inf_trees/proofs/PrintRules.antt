-- A print rule, which is a name in brackets, and the value that is printed by it.
use Rattle.std.proofs.Common.{◌≡◌, ℕ, suc, ◌+◌, ◌-◌, ◌≤◌, List, [], ◌∷◌, ◌++◌, length, Bool, true, false, Some, None, refl, ◌∙◌, ap, arith}
use Rattle.std.proofs.Common.{◌&&◌}
use Rattle.std.proofs.lemmas.Bool.{and_parts, ne_eqb}
use Rattle.std.proofs.lemmas.List.{length-append}
use Rattle.inf_expressions.specs.Sources.{Source}
use Rattle.inf_scanner.specs.declared.tokens.Place.{Place}
use Rattle.inf_settings.specs.Bounds.{Limits}
use Rattle.inf_machine.specs.Grammar.{Did, Event, Took}
use Rattle.inf_syntax.specs.declared.actions.Action.{Action}
use Rattle.inf_unit.specs.{declared.roles.Note.Note, declared.steps.GatherStep.GatherStep}
use Rattle.inf_unit.specs.Units.{Unit as UnitAtHand, is_alone, is_assembly, kind_at, last_leaf, leaf_gathered, noted, stepped, taken}
use Rattle.inf_unit.specs.Units.{with_last}
use Rattle.inf_compilation.specs.{Actions.Compilation, Context.Context}
use Rattle.inf_statement_laws.specs.{Happenings.Acts, Happenings.Happening, Happenings.Takes, Laid.passed, Laid.run, Readings.Seen}
use Rattle.inf_statement_laws.specs.{Readings.nothing_between, Readings.plainly_at}
use Rattle.inf_expression_laws.specs.Gathered.{read_by}
use Rattle.inf_language.specs.{Texts.atoms_of, Texts.happenings_before, Texts.tokens_of, Units.AllSteps, Units.TakeAll}
use Rattle.inf_language.proofs.Derivations.{texts_take_all}
use Rattle.inf_trees.specs.Room.{has_room, have_room}
use Rattle.inf_trees.specs.Trees.{Ruled, Value, tokens_told, with_outer, with_rule, with_value, without_outer}
use Rattle.inf_trees.proofs.Needs.{Bytes, Kind, Places, needs, needs_in, steps_need}
use Rattle.inf_trees.proofs.UnitsGo.{AreQuiet, Going, end_acts, noted_goes, rule_acts, steps_quiet}
use Rattle.inf_trees.proofs.UnitsRead.{HasForm, expressed_does, gathers, note_first, one_taken, ready, seen_parts, tokens_count}
use Rattle.inf_trees.proofs.UnitsRead.{tokens_opening}

-- a unit whose next token may begin an expression, and units behind the tokens of the rule
abbrev maybe : UnitAtHand → UnitAtHand
maybe u = record (ready u) { outer = Some (length u.tokens); is_sure = false }

abbrev bracketed : UnitAtHand → Seen → UnitAtHand
bracketed u bracket = stepped GatherStep.Bracket (taken bracket.token (without_outer (ready u)))

abbrev named : UnitAtHand → Seen → Seen → UnitAtHand
named u bracket name = taken name.token (bracketed u bracket)

abbrev gathered : UnitAtHand → Seen → Seen → UnitAtHand
gathered u bracket name = leaf_gathered (named u bracket name)

abbrev told : Context → UnitAtHand → Seen → Seen → Seen → Compilation → Compilation
told context u bracket name closing w = tokens_told context (without_outer (ready u)) (bracket ∷ name ∷ closing ∷ []) w

-- the compilation behind the first token, and behind the second
abbrev told_one : Context → UnitAtHand → Seen → Compilation → Compilation
told_one context u bracket w = tokens_told context (without_outer (ready u)) (bracket ∷ []) w

abbrev told_two : Context → UnitAtHand → Seen → Seen → Compilation → Compilation
told_two context u bracket name w = tokens_told context (without_outer (ready u)) (bracket ∷ name ∷ []) w

-- A name in brackets may begin an expression; it is no operand of an assembly line by itself, which would begin with it.
not_alone : (u : UnitAtHand) (bracket name : Seen)
    → is_alone (last_leaf (named u bracket name)) (record (named u bracket name) { outer = Some (length u.tokens) }) ≡ false
not_alone u bracket name =
    let first_count = length-append u.tokens (bracket.token ∷ []) in
    let second_count = length-append (u.tokens ++ bracket.token ∷ []) (name.token ∷ []) in
    let at = length ((u.tokens ++ bracket.token ∷ []) ++ name.token ∷ []) - 1 in
    ap (λ b. b && is_assembly (named u bracket name))
    (ne_eqb (length u.tokens) at (λ same. omega (arith, same, first_count, second_count)))

gathered_open : (u : UnitAtHand) (bracket name : Seen) → leaf_gathered (record (named u bracket name) { outer = Some (length u.tokens) })
    ≡ record (gathered u bracket name) { outer = Some (length u.tokens) }
gathered_open u bracket name =
    let v = named u bracket name in
    let at = last_leaf v in
    ap (λ b. record v { outer = Some (length u.tokens); gathering = with_last at b (kind_at v.tokens at) v.gathering })
    (not_alone u bracket name)

abbrev pub rule_events : (ends : Bool) → ℕ → ℕ → ℕ → List (Event Action) → List (Event Action)
rule_events true one two three more =
    Did Action.OuterMaybe ∷ Took one ∷ Did Action.Bracket ∷ Did Action.OuterEnd ∷ Took two ∷ Did Action.Name ∷ Took three
    ∷ Did Action.Rule ∷ more
rule_events false one two three more =
    Did Action.OuterMaybe ∷ Took one ∷ Did Action.Bracket ∷ Took two ∷ Did Action.Name ∷ Took three ∷ Did Action.Rule ∷ more

rule_quiet : (ends : Bool) (one two three : ℕ) (more : List (Event Action)) → AreQuiet more → AreQuiet (rule_events ends one two three more)
rule_quiet true one two three more quiet = (refl, (refl, (refl, (refl, (refl, quiet)))))
rule_quiet false one two three more quiet = (refl, (refl, (refl, (refl, quiet))))

rule_needs : (ends : Bool) (kind : Kind) (one two three n : ℕ) (more : List (Event Action)) → n ≤ needs_in kind more
    → suc (suc n) ≤ needs_in kind (rule_events ends one two three more)
rule_needs true Bytes one two three n more less = omega (arith, less)
rule_needs true Places one two three n more less = omega (arith, less)
rule_needs false kind one two three n more less = omega (arith, less)

-- the unit behind the rule: whether an expression may be open does not matter any more
abbrev behind_rule : Bool → UnitAtHand → Seen → Seen → Seen → UnitAtHand
behind_rule true u bracket name closing = with_rule bracket.token name.token closing.token (ready u)
behind_rule false u bracket name closing =
    record (with_rule bracket.token name.token closing.token (ready u)) { outer = Some (length u.tokens) }

rule_runs : (ends : Bool) (limits : Limits) (context : Context) (next : Place) (u : UnitAtHand) (bracket name closing : Seen)
    (one two three : ℕ) (seen : List Seen) (more : List (Event Action)) (w : Compilation)
    → has_room limits Note.OuterEnd (taken bracket.token (without_outer (ready u))) ≡ true → w.opening ≡ None
    → run limits context (happenings_before next (rule_events ends one two three more) (bracket ∷ name ∷ closing ∷ seen))
    (record w { unit = ready u })
    ≡ run limits context (happenings_before next more seen)
    (record (told context u bracket name closing w) { unit = behind_rule ends u bracket name closing })
rule_runs true limits context next u bracket name closing one two three seen more w room none =
    let last = happenings_before next (Did Action.Rule ∷ more) seen in
    let behind_name : List Happening = Acts (plainly_at closing.token.place) Action.Name ∷ Takes closing.token closing.behind ∷ last in
    let behind_end : List Happening = Takes name.token name.behind ∷ behind_name in
    let behind_bracket : List Happening =
    Acts (plainly_at name.token.place) Action.Bracket ∷ Acts (plainly_at name.token.place) Action.OuterEnd ∷ behind_end in
    let x = maybe u in
    let y = stepped GatherStep.Bracket (taken bracket.token x) in
    let w1 = told_one context u bracket w in
    let w2 = told_two context u bracket name w in
    let w3 = told context u bracket name closing w in
    let v = without_outer (ready u) in
    let none1 : w1.opening ≡ None = tokens_opening context v (bracket ∷ []) w ∙ none in
    let none2 : w2.opening ≡ None = tokens_opening context v (bracket ∷ name ∷ []) w ∙ none in
    ap (run limits context behind_bracket) (one_taken context bracket x w none)
    ∙ (ap (λ z. run limits context behind_end (passed nothing_between z)) (end_acts limits context name.token.place y w1 room)
    ∙ (ap (run limits context behind_name) (one_taken context name (bracketed u bracket) w1 none1)
    ∙ (ap (run limits context last) (one_taken context closing (gathered u bracket name) w2 none2)
    ∙ note_first limits context next Action.Rule seen more (record w3 { unit = taken closing.token (gathered u bracket name) })
    (record w3 { unit = behind_rule true u bracket name closing }) (λ place. refl))))
rule_runs false limits context next u bracket name closing one two three seen more w room none =
    let last = happenings_before next (Did Action.Rule ∷ more) seen in
    let behind_name : List Happening = Acts (plainly_at closing.token.place) Action.Name ∷ Takes closing.token closing.behind ∷ last in
    let behind_bracket : List Happening = Acts (plainly_at name.token.place) Action.Bracket ∷ Takes name.token name.behind ∷ behind_name in
    let outer = Some (length u.tokens) in
    let x = maybe u in
    let y = record (bracketed u bracket) { outer = outer } in
    let z = record (named u bracket name) { outer = outer } in
    let g = record (gathered u bracket name) { outer = outer } in
    let w1 = told_one context u bracket w in
    let w2 = told_two context u bracket name w in
    let w3 = told context u bracket name closing w in
    let v = without_outer (ready u) in
    let none1 : w1.opening ≡ None = tokens_opening context v (bracket ∷ []) w ∙ none in
    let none2 : w2.opening ≡ None = tokens_opening context v (bracket ∷ name ∷ []) w ∙ none in
    ap (run limits context behind_bracket) (one_taken context bracket x w none)
    ∙ (ap (run limits context behind_name) (one_taken context name y w1 none1)
    ∙ (ap (λ k. run limits context (Takes closing.token closing.behind ∷ last) (record w2 { unit = k })) (gathered_open u bracket name)
    ∙ (ap (run limits context last) (one_taken context closing g w2 none2)
    ∙ note_first limits context next Action.Rule seen more (record w3 { unit = taken closing.token g })
    (record w3 { unit = behind_rule false u bracket name closing }) (λ place. refl))))

abbrev rule_unit : UnitAtHand → Seen → Seen → Seen → UnitAtHand
rule_unit u bracket name closing = with_rule bracket.token name.token closing.token (ready u)

-- the value behind the rule
value_read : (ends : Bool) (limits : Limits) (context : Context) (next : Place) (u : UnitAtHand) (bracket name closing : Seen)
    (tokens rest : List Seen) (steps late : List (Event Action)) (value : Source) (w : Compilation)
    → let r = rule_unit u bracket name closing in
    read_by steps (tokens_of tokens) (with_outer r) ≡ with_value (tokens_of tokens) value r
    → AllSteps steps → TakeAll steps tokens → w.opening ≡ None
    → run limits context (happenings_before next (Did Action.Outer ∷ (steps ++ late)) (tokens ++ rest))
    (record w { unit = behind_rule ends u bracket name closing })
    ≡ run limits context (happenings_before next late rest)
    (record (tokens_told context (with_outer r) tokens w) { unit = with_value (tokens_of tokens) value r })
value_read true limits context next u bracket name closing tokens rest steps late value w reads only all none =
    expressed_does limits context next (behind_rule true u bracket name closing) tokens rest steps late value w reads only all none
value_read false limits context next u bracket name closing tokens rest steps late value w reads only all none =
    expressed_does limits context next (behind_rule false u bracket name closing) tokens rest steps late value w reads only all none

pub ruled_value : (ends : Bool) (limits : Limits) (bracket name closing : Seen) (one two three : ℕ) (tokens rest : List Seen)
    (steps late : List (Event Action)) → HasForm (atoms_of tokens) steps → Going limits rest late
    → Going limits (bracket ∷ name ∷ closing ∷ (tokens ++ rest))
    (rule_events ends one two three (Did Action.Outer ∷ (steps ++ Did Action.PrintRule ∷ late)))
ruled_value ends limits bracket name closing one two three tokens rest steps late form on u are_seen begun few =
    let r = rule_unit u bracket name closing in
    let count = tokens_count tokens in
    let first_count = length-append u.tokens (bracket.token ∷ []) in
    let second_count = length-append (u.tokens ++ bracket.token ∷ []) (name.token ∷ []) in
    let third_count = length-append ((u.tokens ++ bracket.token ∷ []) ++ name.token ∷ []) (closing.token ∷ []) in
    let seen_count = length-append tokens rest in
    let rule_count : length r.tokens ≡ length u.tokens + 3 = omega (arith, first_count, second_count, third_count) in
    let parts = seen_parts tokens rest are_seen.1.1.1 in
    let all = texts_take_all form.text tokens refl in
    let g = gathers r tokens steps form all parts.0 (omega (arith, begun, rule_count)) (omega (arith, few, rule_count, seen_count)) in
    let v = with_value (tokens_of tokens) g.value r in
    let all_count = length-append r.tokens (tokens_of tokens) in
    let printed = noted Note.PrintRuled v in
    let more = noted_goes limits Action.PrintRule Note.PrintRuled v printed rest late refl refl refl
    (λ context place w. rule_acts limits context place (ready v) w)
    (on printed parts.1 (omega (arith, begun, rule_count, all_count, count))
    (omega (arith, few, seen_count, rule_count, all_count, count))) in
    record {
      parts = Ruled bracket name closing ∷ Value g.level tokens g.value ∷ more.parts;
      same = ap (λ l. bracket ∷ name ∷ closing ∷ (tokens ++ l)) more.same;
      quiet = rule_quiet ends one two three (Did Action.Outer ∷ (steps ++ Did Action.PrintRule ∷ late))
          (refl, steps_quiet steps (Did Action.PrintRule ∷ late) g.only more.quiet);
      weighs = λ kind.
          rule_needs ends kind one two three (needs kind more.parts) (Did Action.Outer ∷ (steps ++ Did Action.PrintRule ∷ late))
          (steps_need kind steps (Did Action.PrintRule ∷ late) (needs kind more.parts) g.only (more.weighs kind));
      written = (g.written, more.written);
      does = λ context next w none room.
          let both = and_parts (has_room limits Note.OuterEnd (taken bracket.token (without_outer (ready u))))
          (have_room limits v more.parts) room in
          let w3 = told context u bracket name closing w in
          let none3 : w3.opening ≡ None = tokens_opening context (without_outer (ready u)) (bracket ∷ name ∷ closing ∷ []) w ∙ none in
          rule_runs ends limits context next u bracket name closing one two three (tokens ++ rest)
          (Did Action.Outer ∷ (steps ++ Did Action.PrintRule ∷ late)) w both.0 none
          ∙ (value_read ends limits context next u bracket name closing tokens rest steps (Did Action.PrintRule ∷ late) g.value w3 g.reads
          g.only all none3
          ∙ more.does context next (tokens_told context (with_outer r) tokens w3)
          (tokens_opening context (with_outer r) tokens w3 ∙ none3) both.1);
    }
