-- The effects behind statements that are closed ahead, among happenings and in nested statements.
use Rattle.std.proofs.Common.{◌≡◌, List, [], ◌∷◌, ◌++◌, Bool, true, false, Option, Some, None, refl, sym, ◌∙◌, ap, ◌&&◌, if◌then◌else◌}
use Rattle.std.proofs.lemmas.Bool.{and_parts}
use Rattle.inf_scanner.specs.declared.tokens.Place.{Place}
use Rattle.inf_settings.specs.Bounds.{Limits}
use Rattle.inf_machine.specs.Grammar.{Did, Event, Took}
use Rattle.inf_syntax.specs.declared.actions.Action.{Action}
use Rattle.inf_compilation.specs.{Actions.Compilation, Actions.took, Context.Context}
use Rattle.inf_statement_laws.specs.Readings.{Seen, plainly_at}
use Rattle.inf_statement_laws.specs.Happenings.{Acts, Between, Happening, Moment, Quiet, Takes, happen_quietly, is_quiet}
use Rattle.inf_statement_laws.specs.Laid.{happens, next_comes, passed, run}
use Rattle.inf_statement_laws.specs.Nested.{Case, Do, For, If, IfElse, Nested, NoStep, Objectloop, Plain, Step, StepEnds, Switch, Then}
use Rattle.inf_statement_laws.specs.Nested.{While, happenings, step_happenings}
use Rattle.inf_language.specs.{Texts.happenings_before, Units.TakeAll}
use Rattle.inf_routine_trees.specs.Bodies.{Block, Do as DoTree, For as ForTree, If as IfTree, IfElse as ElseTree}
use Rattle.inf_routine_trees.specs.Bodies.{Objectloop as LoopTree, Switch as SwitchTree, Then as ThenTree, Tree}
use Rattle.inf_routine_trees.specs.Bodies.{While as WhileTree, With, bracketed_seen, is_close, later_effects, maybe_seen, next_effect}
use Rattle.inf_routine_trees.specs.Bodies.{tree_laid, tree_seen, with_effect, with_effects}
use Rattle.inf_routine_trees.proofs.Endings.{act_opening, both_true, last_took}

abbrev pub Effects : Type 0
Effects = List (Option Between)

-- an end with an effect behind it
abbrev pub ends_at : Option Between → Moment → Moment
ends_at None at = at
ends_at (Some m) at = record at { behind = m }

-- Lemmas about happenings

abbrev pub given : Effects → List Happening → List Happening
given effects [] = []
given effects (Takes t m ∷ hs) = Takes t m ∷ given effects hs
given effects (Acts at a ∷ hs) =
    Acts (if is_close a then ends_at (next_effect effects) at else at) a ∷ given (if is_close a then later_effects effects else effects) hs

abbrev pub left : Effects → List Happening → Effects
left effects [] = effects
left effects (Takes t m ∷ hs) = left effects hs
left effects (Acts at a ∷ hs) = left (if is_close a then later_effects effects else effects) hs

pub given-append : (effects : Effects) (xs ys : List Happening) → given effects (xs ++ ys) ≡ given effects xs ++ given (left effects xs) ys
given-append effects [] ys = refl
given-append effects (Takes t m ∷ xs) ys = ap (λ l. Takes t m ∷ l) (given-append effects xs ys)
given-append effects (Acts at a ∷ xs) ys = ap (λ l. Acts (if is_close a then ends_at (next_effect effects) at else at) a ∷ l)
    (given-append (if is_close a then later_effects effects else effects) xs ys)

pub left-append : (effects : Effects) (xs ys : List Happening) → left effects (xs ++ ys) ≡ left (left effects xs) ys
left-append effects [] ys = refl
left-append effects (Takes t m ∷ xs) ys = left-append effects xs ys
left-append effects (Acts at a ∷ xs) ys = left-append (if is_close a then later_effects effects else effects) xs ys

-- Quiet happenings end no statement.

quiet_is_no_close : (a : Action) → is_quiet a ≡ true → is_close a ≡ false
quiet_is_no_close Action.Close is = cc
quiet_is_no_close _ is = refl

pub given_quiet : (effects : Effects) (hs : List Happening) → happen_quietly hs ≡ true → given effects hs ≡ hs
given_quiet effects [] quiet = refl
given_quiet effects (Takes t m ∷ hs) quiet = ap (λ l. Takes t m ∷ l) (given_quiet effects hs quiet)
given_quiet effects (Acts at a ∷ hs) quiet =
    let both = and_parts (is_quiet a) (happen_quietly hs) quiet in
    ap (λ b. Acts (if b then ends_at (next_effect effects) at else at) a ∷ given (if b then later_effects effects else effects) hs)
    (quiet_is_no_close a both.0)
    ∙ ap (λ l. Acts at a ∷ l) (given_quiet effects hs both.1)

pub left_quiet : (effects : Effects) (hs : List Happening) → happen_quietly hs ≡ true → left effects hs ≡ effects
left_quiet effects [] quiet = refl
left_quiet effects (Takes t m ∷ hs) quiet = left_quiet effects hs quiet
left_quiet effects (Acts at a ∷ hs) quiet =
    let both = and_parts (is_quiet a) (happen_quietly hs) quiet in
    ap (λ b. left (if b then later_effects effects else effects) hs) (quiet_is_no_close a both.0) ∙ left_quiet effects hs both.1

pub given_behind : (effects : Effects) (q : Quiet) (hs : List Happening) → given effects (q.all ++ hs) ≡ q.all ++ given effects hs
given_behind effects q hs = given-append effects q.all hs ∙ (ap (λ l. l ++ given (left effects q.all) hs) (given_quiet effects q.all q.are)
    ∙ ap (λ e. q.all ++ given e hs) (left_quiet effects q.all q.are))

left_behind : (effects : Effects) (q : Quiet) (hs : List Happening) → left effects (q.all ++ hs) ≡ left effects hs
left_behind effects q hs = left-append effects q.all hs ∙ ap (λ e. left e hs) (left_quiet effects q.all q.are)

step_given : (effects : Effects) (step : Step) (hs : List Happening)
    → given effects (step_happenings step ++ hs) ≡ step_happenings step ++ given effects hs
step_given effects NoStep hs = refl
step_given effects (StepEnds step ends) hs =
    let last : List Happening = Acts ends Action.EndForStep ∷ [] in
    given-append effects (step.all ++ last) hs
    ∙ (ap (λ l. l ++ given (left effects (step.all ++ last)) hs) (given_behind effects step last)
    ∙ ap (λ e. (step.all ++ last) ++ given e hs) (left_behind effects step last))

step_left : (effects : Effects) (step : Step) (hs : List Happening) → left effects (step_happenings step ++ hs) ≡ left effects hs
step_left effects NoStep hs = refl
step_left effects (StepEnds step ends) hs =
    let last : List Happening = Acts ends Action.EndForStep ∷ [] in
    left-append effects (step.all ++ last) hs ∙ ap (λ e. left e hs) (left_behind effects step last)

-- Nested statements with such effects, and the effects that are left
abbrev pub put : {b : Bool} → Effects → Nested b → Nested b × Effects
put effects (Plain plain) = (Plain plain, effects)
put effects (Then first second) = let x = put effects first in let y = put x.1 second in (Then x.0 y.0, y.1)
put effects (Case values ends) = (Case values ends, effects)
put effects (If opens test body closes) =
    let x = put effects body in (If opens test x.0 (ends_at (next_effect x.1) closes), later_effects x.1)
put effects (IfElse opens test body joins word other closes) =
    let x = put effects body in
    let y = put x.1 other in
    (IfElse opens test x.0 joins word y.0 (ends_at (next_effect y.1) closes), later_effects y.1)
put effects (While opens test body closes) =
    let x = put effects body in (While opens test x.0 (ends_at (next_effect x.1) closes), later_effects x.1)
put effects (Do opens body word joins test closes) =
    let x = put effects body in (Do opens x.0 word joins test (ends_at (next_effect x.1) closes), later_effects x.1)
put effects (For opens start joins test step bracket body closes) =
    let x = put effects body in
    (For opens start joins test step bracket x.0 (ends_at (next_effect x.1) closes), later_effects x.1)
put effects (Objectloop opens loop ends joins bracket body closes) =
    let x = put effects body in
    (Objectloop opens loop ends joins bracket x.0 (ends_at (next_effect x.1) closes), later_effects x.1)
put effects (Switch opens value cases brace closes) =
    let x = put effects cases in (Switch opens value x.0 brace (ends_at (next_effect x.1) closes), later_effects x.1)

-- what a nested statement with effects happens to be
pub record Put {b : Bool} (effects : Effects) (n : Nested b) : Type 0 where
  pub same : happenings (put effects n).0 ≡ given effects (happenings n)
  pub rest : (put effects n).1 ≡ left effects (happenings n)

-- The happenings of a body and the end of its statement, with something between
record Ended {b : Bool} (effects : Effects) (n : Nested b) (others : List Happening) (closes : Moment) : Type 0 where
  same : given effects (happenings n ++ (others ++ Acts closes Action.Close ∷ []))
      ≡ happenings (put effects n).0 ++ (others ++ Acts (ends_at (next_effect (put effects n).1) closes) Action.Close ∷ [])
  rest : left effects (happenings n ++ (others ++ Acts closes Action.Close ∷ [])) ≡ later_effects (put effects n).1

ended : {b : Bool} (effects : Effects) (n : Nested b) (others : Quiet) (closes : Moment) → Put effects n → Ended effects n others.all closes
ended effects n others closes p =
    let close = λ (at : Moment). Acts at Action.Close ∷ [] in
    let x = put effects n in
    let hs = happenings n in
    record {
      same = given-append effects hs (others.all ++ close closes)
          ∙ (ap (λ l. l ++ given (left effects hs) (others.all ++ close closes)) (sym p.same)
          ∙ (ap (λ e. happenings x.0 ++ given e (others.all ++ close closes)) (sym p.rest)
          ∙ ap (λ l. happenings x.0 ++ l) (given_behind x.1 others (close closes))));
      rest = left-append effects hs (others.all ++ close closes)
          ∙ (ap (λ e. left e (others.all ++ close closes)) (sym p.rest) ∙ left_behind x.1 others (close closes));
    }

abbrev nothing : Quiet
nothing = record { all = []; are = refl }

pub put_happens : {b : Bool} (effects : Effects) (n : Nested b) → Put effects n
put_happens effects (Plain plain) =
    record { same = sym (given_quiet effects plain.all plain.are); rest = sym (left_quiet effects plain.all plain.are) }
put_happens effects (Then first second) =
    let x = put effects first in
    let one = put_happens effects first in
    let two = put_happens x.1 second in
    let hs = happenings first in
    record {
      same = ap (λ l. l ++ happenings (put x.1 second).0) one.same ∙ (ap (λ l. given effects hs ++ l) two.same
          ∙ (ap (λ e. given effects hs ++ given e (happenings second)) one.rest ∙ sym (given-append effects hs (happenings second))));
      rest = two.rest ∙ (ap (λ e. left e (happenings second)) one.rest ∙ sym (left-append effects hs (happenings second)));
    }
put_happens effects (Case values ends) =
    let last : List Happening = Acts ends Action.EndCase ∷ [] in
    record { same = sym (given_behind effects values last); rest = sym (left_behind effects values last) }
put_happens effects (If opens test body closes) =
    let e = ended effects body nothing closes (put_happens effects body) in
    let hs = happenings body ++ Acts closes Action.Close ∷ [] in
    record {
      same = sym (ap (λ l. Acts opens Action.OpenIf ∷ l) (given_behind effects test hs ∙ ap (λ l. test.all ++ l) e.same));
      rest = sym (left_behind effects test hs ∙ e.rest);
    }
put_happens effects (IfElse opens test body joins word other closes) =
    let x = put effects body in
    let p = put_happens effects body in
    let e = ended x.1 other nothing closes (put_happens x.1 other) in
    let last = happenings other ++ Acts closes Action.Close ∷ [] in
    let behind : List Happening = Acts joins Action.Else ∷ (word.all ++ last) in
    let hs = happenings body ++ behind in
    record {
      same = sym (ap (λ l. Acts opens Action.OpenIf ∷ l) (given_behind effects test hs
          ∙ ap (λ l. test.all ++ l) (given-append effects (happenings body) behind
          ∙ (ap (λ l. l ++ given (left effects (happenings body)) behind) (sym p.same)
          ∙ (ap (λ r. happenings x.0 ++ given r behind) (sym p.rest)
          ∙ ap (λ l. happenings x.0 ++ Acts joins Action.Else ∷ l) (given_behind x.1 word last ∙ ap (λ l. word.all ++ l) e.same))))));
      rest = sym (left_behind effects test hs ∙ (left-append effects (happenings body) behind
          ∙ (ap (λ r. left r behind) (sym p.rest) ∙ (left_behind x.1 word last ∙ e.rest))));
    }
put_happens effects (While opens test body closes) =
    let e = ended effects body nothing closes (put_happens effects body) in
    let hs = happenings body ++ Acts closes Action.Close ∷ [] in
    record {
      same = sym (ap (λ l. Acts opens Action.OpenWhile ∷ l) (given_behind effects test hs ∙ ap (λ l. test.all ++ l) e.same));
      rest = sym (left_behind effects test hs ∙ e.rest);
    }
put_happens effects (Do opens body word joins test closes) =
    let x = put effects body in
    let p = put_happens effects body in
    let close = λ (at : Moment). Acts at Action.Close ∷ [] in
    let last = word.all ++ Acts joins Action.Until ∷ (test.all ++ close closes) in
    record {
      same = sym (ap (λ l. Acts opens Action.OpenDo ∷ l) (given-append effects (happenings body) last
          ∙ (ap (λ l. l ++ given (left effects (happenings body)) last) (sym p.same)
          ∙ (ap (λ r. happenings x.0 ++ given r last) (sym p.rest)
          ∙ ap (λ l. happenings x.0 ++ l) (given_behind x.1 word (Acts joins Action.Until ∷ (test.all ++ close closes))
          ∙ ap (λ l. word.all ++ Acts joins Action.Until ∷ l) (given_behind x.1 test (close closes)))))));
      rest = sym (left-append effects (happenings body) last ∙ (ap (λ r. left r last) (sym p.rest)
          ∙ (left_behind x.1 word (Acts joins Action.Until ∷ (test.all ++ close closes)) ∙ left_behind x.1 test (close closes))));
    }
put_happens effects (For opens start joins test step bracket body closes) =
    let e = ended effects body nothing closes (put_happens effects body) in
    let last = happenings body ++ Acts closes Action.Close ∷ [] in
    let bracketed = bracket.all ++ last in
    let stepped = step_happenings step ++ bracketed in
    let tested : List Happening = Acts joins Action.ForTop ∷ (test.all ++ stepped) in
    record {
      same = sym (ap (λ l. Acts opens Action.OpenFor ∷ l) (given_behind effects start tested
          ∙ ap (λ l. start.all ++ Acts joins Action.ForTop ∷ l) (given_behind effects test stepped
          ∙ ap (λ l. test.all ++ l) (step_given effects step bracketed
          ∙ ap (λ l. step_happenings step ++ l) (given_behind effects bracket last ∙ ap (λ l. bracket.all ++ l) e.same)))));
      rest = sym (left_behind effects start tested
          ∙ (left_behind effects test stepped ∙ (step_left effects step bracketed ∙ (left_behind effects bracket last ∙ e.rest))));
    }
put_happens effects (Objectloop opens loop ends joins bracket body closes) =
    let e = ended effects body nothing closes (put_happens effects body) in
    let last = happenings body ++ Acts closes Action.Close ∷ [] in
    let looped : List Happening = Acts ends Action.EndObjectloop ∷ Acts joins Action.Loop ∷ (bracket.all ++ last) in
    record {
      same = sym (ap (λ l. Acts opens Action.OpenObjectloop ∷ l) (given_behind effects loop looped
          ∙ ap (λ l. loop.all ++ Acts ends Action.EndObjectloop ∷ Acts joins Action.Loop ∷ l)
          (given_behind effects bracket last ∙ ap (λ l. bracket.all ++ l) e.same)));
      rest = sym (left_behind effects loop looped ∙ (left_behind effects bracket last ∙ e.rest));
    }
put_happens effects (Switch opens value cases brace closes) =
    let e = ended effects cases brace closes (put_happens effects cases) in
    let hs = happenings cases ++ (brace.all ++ Acts closes Action.Close ∷ []) in
    record {
      same = sym (ap (λ l. Acts opens Action.OpenSwitch ∷ l) (given_behind effects value hs ∙ ap (λ l. value.all ++ l) e.same));
      rest = sym (left_behind effects value hs ∙ e.rest);
    }

-- An effect behind the end of a statement comes behind all of it.
pub with_behind : (limits : Limits) (context : Context) (effect : Option Between) (tree : Tree) (w : Compilation) (place : Place)
    (laid_to : Moment → Compilation)
    → ((m : Between) → laid_to (record (plainly_at place) { behind = m }) ≡ passed m (laid_to (plainly_at place)))
    → laid_to (plainly_at place) ≡ tree_laid limits context tree w
    → laid_to (ends_at effect (plainly_at place)) ≡ tree_laid limits context (with_effect effect tree) w
with_behind limits context None tree w place laid_to behind same = same
with_behind limits context (Some m) tree w place laid_to behind same = behind m ∙ ap (passed m) same

-- No word waits behind such events.
pub none_behind : (limits : Limits) (context : Context) (next : Place) (effects : Effects) (b : Bool) (events : List (Event Action))
    (seen : List Seen) (w : Compilation) → TakeAll events seen → last_took b events ≡ true → (b ≡ true → w.opening ≡ None)
    → (run limits context (given effects (happenings_before next events seen)) w).opening ≡ None
none_behind limits context next effects b [] [] w all last none = none last
none_behind limits context next effects b [] (s ∷ seen) w all last none = absurd all
none_behind limits context next effects b (Did a ∷ events) [] w all last none =
    let at = if is_close a then ends_at (next_effect effects) (plainly_at next) else plainly_at next in
    none_behind limits context next (if is_close a then later_effects effects else effects) (b && is_close a) events []
    (happens limits context (Acts at a) w) all last
    (λ e. let both = both_true b a e in act_opening limits context at.place a w both.1 (none both.0))
none_behind limits context next effects b (Did a ∷ events) (s ∷ seen) w all last none =
    let plain = plainly_at s.token.place in
    let at = if is_close a then ends_at (next_effect effects) plain else plain in
    none_behind limits context next (if is_close a then later_effects effects else effects) (b && is_close a) events (s ∷ seen)
    (happens limits context (Acts at a) w) all last
    (λ e. let both = both_true b a e in act_opening limits context at.place a w both.1 (none both.0))
none_behind limits context next effects b (Took atom ∷ events) [] w all last none = absurd all
none_behind limits context next effects b (Took atom ∷ events) (s ∷ seen) w all last none =
    none_behind limits context next effects true events seen (next_comes (passed s.behind (took context s.token w))) all last (λ e. refl)

-- Without effects all stays as it is.

same_if : {X : Type 0} (b : Bool) (x : X) → (if b then x else x) ≡ x
same_if true x = refl
same_if false x = refl

pub none_given : (hs : List Happening) → given [] hs ≡ hs
none_given [] = refl
none_given (Takes t m ∷ hs) = ap (λ l. Takes t m ∷ l) (none_given hs)
none_given (Acts at a ∷ hs) = ap (λ x. Acts x a ∷ given (if is_close a then [] else []) hs) (same_if (is_close a) at)
    ∙ (ap (λ (e : Effects). Acts at a ∷ given e hs) (same_if (is_close a) []) ∙ ap (λ l. Acts at a ∷ l) (none_given hs))

-- a tree that holds others, where these have no effects
abbrev held_by : (Tree → Tree) → Tree × Effects → Tree × Effects
held_by holding x = (with_effect (next_effect x.1) (holding x.0), later_effects x.1)

held : (holding : Tree → Tree) (inside : Tree) → with_effects [] inside ≡ (inside, [])
    → held_by holding (with_effects [] inside) ≡ held_by holding (inside, [])
held holding inside same = ap (held_by holding) same

pub none_effects : (tree : Tree) → with_effects [] tree ≡ (tree, [])
none_effects (ThenTree one others) =
    ap (λ (x : Tree × Effects). let y = with_effects x.1 others in (ThenTree x.0 y.0, y.1)) (none_effects one)
    ∙ ap (λ (y : Tree × Effects). (ThenTree one y.0, y.1)) (none_effects others)
none_effects (Block brace inside closing) = ap (λ (x : Tree × Effects). (Block brace x.0 closing, x.1)) (none_effects inside)
none_effects (IfTree stands word test body) = held (λ x. IfTree stands word test x) body (none_effects body)
none_effects (ElseTree stands word test body joins other) = ap (λ (x : Tree × Effects). let y = with_effects x.1 other in
    (with_effect (next_effect y.1) (ElseTree stands word test x.0 joins y.0), later_effects y.1)) (none_effects body)
    ∙ held (λ y. ElseTree stands word test body joins y) other (none_effects other)
none_effects (WhileTree stands word test body) = held (λ x. WhileTree stands word test x) body (none_effects body)
none_effects (DoTree stands word body joins test semicolon) = held (λ x. DoTree stands word x joins test semicolon) body (none_effects body)
none_effects (ForTree stands word bracket start one test two step closing body) =
    held (λ x. ForTree stands word bracket start one test two step closing x) body (none_effects body)
none_effects (LoopTree stands word loop body) = held (λ x. LoopTree stands word loop x) body (none_effects body)
none_effects (SwitchTree stands word value brace cases closing) =
    held (λ x. SwitchTree stands word value brace x closing) cases (none_effects cases)
none_effects (With statement behind) = ap (λ (x : Tree × Effects). (With x.0 behind, x.1)) (none_effects statement)
none_effects other = refl

-- Trees with effects have the same tokens, and are written as those without.

effect_seen : (effect : Option Between) (tree : Tree) → tree_seen (with_effect effect tree) ≡ tree_seen tree
effect_seen None tree = refl
effect_seen (Some m) tree = refl

pub effects_seen : (effects : Effects) (tree : Tree) → tree_seen (with_effects effects tree).0 ≡ tree_seen tree
effects_seen effects (ThenTree one others) =
    let x = with_effects effects one in
    let y = with_effects x.1 others in
    ap (λ l. l ++ tree_seen y.0) (effects_seen effects one) ∙ ap (λ l. tree_seen one ++ l) (effects_seen x.1 others)
effects_seen effects (Block brace inside closing) = ap (λ l. brace ∷ (l ++ closing ∷ [])) (effects_seen effects inside)
effects_seen effects (IfTree stands word test body) =
    let x = with_effects effects body in
    effect_seen (next_effect x.1) (IfTree stands word test x.0) ∙ ap (λ l. word ∷ (bracketed_seen test ++ l)) (effects_seen effects body)
effects_seen effects (ElseTree stands word test body joins other) =
    let x = with_effects effects body in
    let y = with_effects x.1 other in
    effect_seen (next_effect y.1) (ElseTree stands word test x.0 joins y.0)
    ∙ (ap (λ l. word ∷ (bracketed_seen test ++ (l ++ joins ∷ tree_seen y.0))) (effects_seen effects body)
    ∙ ap (λ l. word ∷ (bracketed_seen test ++ (tree_seen body ++ joins ∷ l))) (effects_seen x.1 other))
effects_seen effects (WhileTree stands word test body) =
    let x = with_effects effects body in
    effect_seen (next_effect x.1) (WhileTree stands word test x.0) ∙ ap (λ l. word ∷ (bracketed_seen test ++ l)) (effects_seen effects body)
effects_seen effects (DoTree stands word body joins test semicolon) =
    let x = with_effects effects body in
    effect_seen (next_effect x.1) (DoTree stands word x.0 joins test semicolon)
    ∙ ap (λ l. word ∷ (l ++ joins ∷ (bracketed_seen test ++ semicolon ∷ []))) (effects_seen effects body)
effects_seen effects (ForTree stands word bracket start one test two step closing body) =
    let x = with_effects effects body in
    effect_seen (next_effect x.1) (ForTree stands word bracket start one test two step closing x.0)
    ∙ ap (λ l. word ∷ bracket ∷ (maybe_seen start ++ one ∷ (maybe_seen test ++ two ∷ (maybe_seen step ++ closing ∷ l))))
    (effects_seen effects body)
effects_seen effects (LoopTree stands word loop body) =
    let x = with_effects effects body in
    effect_seen (next_effect x.1) (LoopTree stands word loop x.0) ∙ ap (λ l. word ∷ (bracketed_seen loop ++ l)) (effects_seen effects body)
effects_seen effects (SwitchTree stands word value brace cases closing) =
    let x = with_effects effects cases in
    effect_seen (next_effect x.1) (SwitchTree stands word value brace x.0 closing)
    ∙ ap (λ l. word ∷ (bracketed_seen value ++ brace ∷ (l ++ closing ∷ []))) (effects_seen effects cases)
effects_seen effects (With statement behind) = effects_seen effects statement
effects_seen effects other = refl
