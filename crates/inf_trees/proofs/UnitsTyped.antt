-- The tokens of a unit are parts of it, whichever rows of the grammar they are a text of: each token and each action goes on with what is
-- open, or parts are whole.
use Rattle.std.proofs.Common.{◌≡◌, ℕ, List, [], ◌∷◌, ◌++◌, Bool, true, false, refl, sym, ◌∙◌, ap, subst, append_assoc, append-nil, None}
use Rattle.std.proofs.Common.{Option, ◌+◌, ◌≤◌, ◌<◌, arith, length, if◌then◌else◌}
use Rattle.std.proofs.lemmas.List.{length-append}
use Rattle.inf_settings.specs.Bounds.{Limits}
use Rattle.inf_machine.specs.declared.symbols.Symbol.{Symbol}
use Rattle.inf_machine.specs.Grammar.{Did, Event, IsOneOf, IsText, Leads, Row, Took, action, has, here, row, token}
use Rattle.inf_syntax.specs.{declared.actions.Action.Action}
use Rattle.inf_syntax.specs.declared.parts.names.TheConstants as Part
use Rattle.inf_grammar.specs.Language.{grammar}
use Rattle.inf_unit.specs.{Opcodes.takes_text, declared.items.Item.Item as UnitItem, declared.roles.Note.Note}
use Rattle.inf_unit.specs.Units.{Unit as UnitAtHand, bytes_at, depth_behind, last_leaf, leaf_gathered, next_place, noted, with_item}
use Rattle.inf_statement_laws.specs.Readings.{Seen}
use Rattle.inf_expression_laws.specs.Gathered.{AreSeen}
use Rattle.inf_expression_laws.proofs.{ExpressionsRead.passed_are_read, Items.Whole, Typed.Passes, Typed.below, Typed.row_passes}
use Rattle.inf_language.specs.{Texts.atoms_of, Texts.tokens_of, Units.AllSteps}
use Rattle.inf_language.proofs.Derivations.{texts_take_all}
use Rattle.inf_trees.specs.Ends.{by_end, case_first, end_kind}
use Rattle.inf_trees.proofs.{Doubts.IsDoubted, Doubts.doubted_expression, PrintRules.rule_events, PrintRules.ruled_value, UnitsRead.ready}
use Rattle.inf_trees.proofs.Pending.{ALeaf, AnAct, Consumed, First, Later, Leaves, NoLeaf, OfFree, OfLead, OfLost, OfMaybe, OfOpen, OfRule}
use Rattle.inf_trees.proofs.Pending.{OfWord, Opened, Pending, Ruled, Sure, free_none, has_form, is_last, leaves_behind, leaves_of}
use Rattle.inf_trees.proofs.Pending.{leaves_text, none_last, nothing_consumed, only_leaves, opened_on, opened_wide, steps_behind}
use Rattle.inf_trees.proofs.UnitStates.{ActMove, Agrees, Alone, Begins, ByRows, ByRule, Changes, Closes, Commas, Does, Done, Else, Ended}
use Rattle.inf_trees.proofs.UnitStates.{Ends, Fits, ForLine, Free, Gathers, Into, Joint, Known, LaterWord, Leading, Lists, Loses, Marking}
use Rattle.inf_trees.proofs.UnitStates.{MayBegin, Misread, Misses, Names, Narrow, Notes, Others, Passed, Printed, Prints, Ranges, Rules}
use Rattle.inf_trees.proofs.UnitStates.{RulesBy, Same, State, Tails, Takes, TokenMove, Turns, Typed, Words, all_steps, behind, closes_with}
use Rattle.inf_trees.proofs.UnitStates.{ends_otherwise, fits_then, fitted_before, is_other, row_lost, row_opened}
use Rattle.inf_trees.proofs.UnitWalks.{IsEnd, declared, listed_row, row_unsure}
use Rattle.inf_trees.proofs.UnitsGo.{Goes, Going, IsAny, Leading as Prefix, alone, alone_goes, any_of, expressed, moved, note_goes}
use Rattle.inf_trees.proofs.UnitsGo.{noted_goes, nothing, text_printed}
use Rattle.inf_trees.proofs.Values.{comma_joined, default_noted, further, outer_noted, range_joined, worded}

module _ (limits : Limits) where
  -- parts that are whole, and what is open behind them
  pub record Outcome (s : State) (seen : List Seen) (events : List (Event Action)) : Type 0 where
    done : List Seen
    acts : List (Event Action)
    pend : List Seen
    left : List (Event Action)
    same : done ++ pend ≡ seen
    are : acts ++ left ≡ events
    prefix : Prefix limits done acts
    pending : Pending s pend left

  held : {s : State} {seen : List Seen} {events : List (Event Action)} → Pending s seen events → Outcome s seen events
  held {seen = seen} {events = events} p = record {
    done = [];
    acts = [];
    pend = seen;
    left = events;
    same = refl;
    are = refl;
    prefix = λ rest late on. on;
    pending = p;
  }

  finished : {t : State} (seen : List Seen) (events : List (Event Action)) → Prefix limits seen events → Fits Free t → Outcome t seen events
  finished seen events p Same = record {
    done = seen;
    acts = events;
    pend = [];
    left = [];
    same = append-nil seen;
    are = append-nil events;
    prefix = p;
    pending = OfFree;
  }
  finished seen events p Loses = held OfLost

  combined : {s t : State} {seen : List Seen} {events : List (Event Action)} (others : List Seen) (more : List (Event Action))
      (o : Outcome s seen events) → Outcome t (o.pend ++ others) (o.left ++ more) → Outcome t (seen ++ others) (events ++ more)
  combined others more o q = record {
    done = o.done ++ q.done;
    acts = o.acts ++ q.acts;
    pend = q.pend;
    left = q.left;
    same = append_assoc o.done q.done q.pend
        ∙ (ap (λ l. o.done ++ l) q.same ∙ (sym (append_assoc o.done o.pend others) ∙ ap (λ l. l ++ others) o.same));
    are = append_assoc o.acts q.acts q.left
        ∙ (ap (λ l. o.acts ++ l) q.are ∙ (sym (append_assoc o.acts o.left more) ∙ ap (λ l. l ++ more) o.are));
    prefix = λ rest late on. moved limits (sym (append_assoc o.done q.done rest)) (sym (append_assoc o.acts q.acts late))
        (o.prefix (q.done ++ rest) (q.acts ++ late) (q.prefix rest late on));
    pending = q.pending;
  }

  -- An expression that is whole

  doubted : {fronts more : List (Symbol Action)} (level : ℕ) (front tokens : List Seen) (early steps : List (Event Action))
      → Passes [] (fronts ++ Part.DO_OUTER_SURE ∷ more) (Whole level ∷ []) → Leaves fronts (atoms_of front) early
      → Leaves more (atoms_of tokens) steps → AllSteps early → AllSteps steps → IsDoubted front tokens early steps
  doubted {fronts} {more} level front tokens early steps q l m a b = record {
    level = level;
    all_early = texts_take_all (leaves_text l) front refl;
    all_steps = texts_take_all (leaves_text m) tokens refl;
    only_early = a;
    only_steps = b;
    valued = λ u are over begun few.
        let e =
        passed_are_read (fronts ++ Part.DO_OUTER_SURE ∷ more) level q (atoms_of (front ++ tokens)) (early ++ Did Action.OuterSure ∷ steps)
        (leaves_text (leaves_of front tokens l (AnAct m))) u (tokens_of (front ++ tokens)) are over begun few in
        record { value = e.0; written = e.1; gathered = e.2; all = e.3 };
  }

  whole : {level : ℕ} {seen : List Seen} {events : List (Event Action)} → Opened false (Whole level ∷ []) seen events
      → Prefix limits seen events
  whole (First {tokens = tokens} {steps = steps} c) rest late on = expressed limits tokens rest steps late (has_form c) on
  whole (Later {tokens = tokens} {steps = steps} c) rest late on = further limits tokens rest steps late (has_form c) on
  whole {level} (Sure front tokens early steps q l m a b) rest late on = moved limits (sym (append_assoc front tokens rest))
      (ap (λ k. Did Action.OuterMaybe ∷ k) (sym (append_assoc early (Did Action.OuterSure ∷ steps) late)))
      (doubted_expression limits front tokens rest early steps late (doubted level front tokens early steps q l m a b) on)

  fit_out : {s t : State} → Fits s t → {seen : List Seen} {events : List (Event Action)} → Pending s seen events → Outcome t seen events
  fit_out Same p = held p
  fit_out Loses p = held OfLost
  fit_out (Narrow w f) (OfOpen o) = fit_out f (OfOpen (opened_wide w o))
  fit_out (Closes f) {seen} {events} (OfOpen o) = finished seen events (whole o) f
  fit_out (Turns {symbols} p f) (OfLead l a) = fit_out f (OfOpen (First (record { symbols = symbols; passes = p; leaves = l; only = a })))

  -- A token

  token_out : {s t : State} {class : ℕ} → TokenMove s class t → (x : Seen) → has (grammar.atoms_of class) x.atom ≡ true
      → {seen : List Seen} {events : List (Event Action)} → Pending s seen events → Outcome t (seen ++ x ∷ []) (events ++ Took x.atom ∷ [])
  token_out Alone x h OfFree = finished (x ∷ []) (Took x.atom ∷ []) (λ rest late on. alone limits x x.atom rest late on) Same
  token_out Joint x h OfFree = record {
    done = x ∷ [];
    acts = Took x.atom ∷ [];
    pend = [];
    left = [];
    same = refl;
    are = refl;
    prefix = λ rest late on. alone limits x x.atom rest late on;
    pending = OfOpen (Later nothing_consumed);
  }
  token_out (Into p) x h (OfOpen o) = held (OfOpen (opened_on p (x ∷ []) (Took x.atom ∷ []) (ALeaf h NoLeaf) tt o))
  token_out Leading x h {seen} (OfLead {events = events} l a) =
      held (OfLead (leaves_of seen (x ∷ []) l (ALeaf h NoLeaf)) (steps_behind events (Took x.atom ∷ []) a tt))
  token_out Leading x h {seen} (OfMaybe l) = held (OfMaybe (leaves_of seen (x ∷ []) l (ALeaf h NoLeaf)))
  token_out Passed x h p = held OfLost

  -- An action

  record OneLeaf (seen : List Seen) (events : List (Event Action)) : Type 0 where
    s : Seen
    atom : ℕ
    same : s ∷ [] ≡ seen
    are : Took atom ∷ [] ≡ events

  one_leaf : {class : ℕ} {atoms : List ℕ} {events : List (Event Action)} → Leaves (Symbol.Token class ∷ []) atoms events
      → (seen : List Seen)
      → atoms_of seen ≡ atoms → OneLeaf seen events
  one_leaf (ALeaf h NoLeaf) [] is = cc
  one_leaf (ALeaf {atom = atom} h NoLeaf) (s ∷ []) is = record { s = s; atom = atom; same = refl; are = refl }
  one_leaf (ALeaf h NoLeaf) (s ∷ x ∷ seen) is = cc

  record Ruler (ends : Bool) (seen : List Seen) (events : List (Event Action)) : Type 0 where
    bracket : Seen
    name : Seen
    closing : Seen
    one : ℕ
    two : ℕ
    three : ℕ
    same : bracket ∷ name ∷ closing ∷ [] ≡ seen
    are : rule_events ends one two three [] ≡ Did Action.OuterMaybe ∷ (events ++ Did Action.Rule ∷ [])

  ruler : {one two three : ℕ} {atoms : List ℕ} {events : List (Event Action)}
      → Leaves (Symbol.Token one ∷ Symbol.Act Action.Bracket ∷ Symbol.Token two ∷ Symbol.Act Action.Name ∷ Symbol.Token three ∷ []) atoms
      events
      → (seen : List Seen) → atoms_of seen ≡ atoms → Ruler false seen events
  ruler (ALeaf {atom = one} h (AnAct (ALeaf {atom = two} i (AnAct (ALeaf {atom = three} j NoLeaf))))) (b ∷ n ∷ c ∷ []) is =
      record { bracket = b; name = n; closing = c; one = one; two = two; three = three; same = refl; are = refl }
  ruler (ALeaf h (AnAct (ALeaf i (AnAct (ALeaf j NoLeaf))))) other is = cc

  ruler_by : {one two three : ℕ} {atoms : List ℕ} {events : List (Event Action)}
      → Leaves (Symbol.Token one ∷ Symbol.Act Action.Bracket ∷ Symbol.Act Action.OuterEnd ∷ Symbol.Token two ∷ Symbol.Act Action.Name
      ∷ Symbol.Token three ∷ []) atoms events → (seen : List Seen) → atoms_of seen ≡ atoms → Ruler true seen events
  ruler_by (ALeaf {atom = one} h (AnAct (AnAct (ALeaf {atom = two} i (AnAct (ALeaf {atom = three} j NoLeaf)))))) (b ∷ n ∷ c ∷ []) is =
      record { bracket = b; name = n; closing = c; one = one; two = two; three = three; same = refl; are = refl }
  ruler_by (ALeaf h (AnAct (AnAct (ALeaf i (AnAct (ALeaf j NoLeaf)))))) other is = cc

  -- a text that an opcode takes, or an operand, by the opcode
  line_noted : (b : Bool) (u : UnitAtHand) (rest : List Seen) (late : List (Event Action))
      → takes_text (bytes_at u.tokens (next_place u.begun)) ≡ b
      → Goes limits (if b then with_item (UnitItem.Text (last_leaf u)) (ready u) else leaf_gathered (ready u)) rest late
      → Goes limits u rest (Did Action.AsmText ∷ late)
  line_noted true u rest late is on =
      let v = with_item (UnitItem.Text (last_leaf u)) (ready u) in
      noted_goes limits Action.AsmText Note.AsmText u v rest late refl refl (ap (λ c. if c then v else leaf_gathered (ready u)) is)
      (λ context place w room. refl) on
  line_noted false u rest late is on =
      let v = leaf_gathered (ready u) in
      noted_goes limits Action.AsmText Note.AsmText u v rest late refl refl
      (ap (λ c. if c then with_item (UnitItem.Text (last_leaf u)) (ready u) else v) is) (λ context place w room. refl) on

  line_text : (s : Seen) (atom : ℕ) → Prefix limits (s ∷ []) (Did Action.OuterMaybe ∷ Took atom ∷ Did Action.AsmText ∷ [])
  line_text s atom rest late on u are_seen begun few =
      let v = noted (Note.Outer false) u in
      let x = record v { tokens = v.tokens ++ s.token ∷ []; depth = depth_behind s.token.kind v.depth } in
      let count = length-append u.tokens (s.token ∷ []) in
      let takes = takes_text (bytes_at x.tokens (next_place x.begun)) in
      noted_goes limits Action.OuterMaybe (Note.Outer false) u v (s ∷ rest) (Took atom ∷ Did Action.AsmText ∷ late) refl refl refl
      (λ context place w room. refl)
      (alone_goes limits s atom v rest (Did Action.AsmText ∷ late)
      (line_noted takes x rest late refl (by_text takes x are_seen.1 (omega (arith, begun, count)) (omega (arith, few, count)))))
    where
      by_text : (b : Bool) (x : UnitAtHand) → AreSeen (atoms_of rest) (tokens_of rest) → x.begun ≤ length x.tokens
          → length x.tokens + length rest < 4294967295
          → Goes limits (if b then with_item (UnitItem.Text (last_leaf x)) (ready x) else leaf_gathered (ready x)) rest late
      by_text true x are begun few = on (with_item (UnitItem.Text (last_leaf x)) (ready x)) are begun few
      by_text false x are begun few = on (leaf_gathered (ready x)) are begun few

  by_any : {a : Action} → IsAny a → Prefix limits [] (Did a ∷ [])
  by_any is rest late on u are begun few = note_goes limits is u rest late
      (λ g items code outer. on (record u { gathering = g; items = items; code = code; outer = outer }) are begun few)

  -- the value of a print rule
  by_rule : (ends : Bool) (bracket name closing : Seen) (one two three : ℕ) {level : ℕ} {tokens : List Seen} {steps : List (Event Action)}
      → Consumed (Whole level ∷ []) tokens steps
      → Prefix limits (bracket ∷ name ∷ closing ∷ tokens)
      (rule_events ends one two three (Did Action.Outer ∷ steps) ++ Did Action.PrintRule ∷ [])
  by_rule true bracket name closing one two three {tokens = tokens} {steps = steps} c rest late on = moved limits refl
      (ap (λ l. rule_events true one two three (Did Action.Outer ∷ l)) (sym (append_assoc steps (Did Action.PrintRule ∷ []) late)))
      (ruled_value true limits bracket name closing one two three tokens rest steps late (has_form c) on)
  by_rule false bracket name closing one two three {tokens = tokens} {steps = steps} c rest late on = moved limits refl
      (ap (λ l. rule_events false one two three (Did Action.Outer ∷ l)) (sym (append_assoc steps (Did Action.PrintRule ∷ []) late)))
      (ruled_value false limits bracket name closing one two three tokens rest steps late (has_form c) on)

  act_out : {s t : State} {a : Action} → ActMove s a t → {seen : List Seen} {events : List (Event Action)} → Pending s seen events
      → Outcome t seen (events ++ Did a ∷ [])
  act_out {a = a} (Gathers p is) {seen} {events} (OfOpen o) = record {
    done = [];
    acts = [];
    pend = seen ++ [];
    left = events ++ Did a ∷ [];
    same = append-nil seen;
    are = refl;
    prefix = λ rest late on. on;
    pending = OfOpen (opened_on p [] (Did a ∷ []) (AnAct NoLeaf) (is, tt) o);
  }
  act_out {a = a} (Marking {symbols = symbols}) {seen} (OfMaybe {events = events} l) =
      held (OfMaybe (subst (λ k. Leaves (symbols ++ Symbol.Act a ∷ []) k (events ++ Did a ∷ [])) (append-nil (atoms_of seen))
      (leaves_behind l (AnAct NoLeaf))))
  act_out Begins OfFree = held (OfLead NoLeaf tt)
  act_out MayBegin OfFree = held (OfMaybe NoLeaf)
  act_out (Known all p) {seen} (OfMaybe {events = events} l) = record {
    done = [];
    acts = [];
    pend = seen ++ [];
    left = Did Action.OuterMaybe ∷ (events ++ Did Action.OuterSure ∷ []);
    same = append-nil seen;
    are = refl;
    prefix = λ rest late on. on;
    pending = OfOpen (Sure seen [] events [] p l NoLeaf (only_leaves l all) tt);
  }
  act_out Printed {seen} (OfMaybe l) =
      let o = one_leaf l seen refl in record {
        done = o.s ∷ [];
        acts = Did Action.OuterMaybe ∷ Took o.atom ∷ Did Action.PrintText ∷ [];
        pend = [];
        left = [];
        same = o.same;
        are = ap (λ k. Did Action.OuterMaybe ∷ (k ++ Did Action.PrintText ∷ [])) o.are;
        prefix = λ rest late on. text_printed limits o.s o.atom rest late on;
        pending = OfFree;
      }
  act_out ForLine {seen} (OfMaybe l) =
      let o = one_leaf l seen refl in record {
        done = o.s ∷ [];
        acts = Did Action.OuterMaybe ∷ Took o.atom ∷ Did Action.AsmText ∷ [];
        pend = [];
        left = [];
        same = o.same;
        are = ap (λ k. Did Action.OuterMaybe ∷ (k ++ Did Action.AsmText ∷ [])) o.are;
        prefix = λ rest late on. line_text o.s o.atom rest late on;
        pending = OfFree;
      }
  act_out Others {seen} (OfLead l all) =
      let o = one_leaf l seen refl in record {
        done = o.s ∷ [];
        acts = Did Action.Outer ∷ Took o.atom ∷ Did Action.Default ∷ [];
        pend = [];
        left = [];
        same = o.same;
        are = ap (λ k. Did Action.Outer ∷ (k ++ Did Action.Default ∷ [])) o.are;
        prefix = λ rest late on. outer_noted limits (o.s ∷ rest) (Took o.atom ∷ Did Action.Default ∷ late)
            (alone limits o.s o.atom rest (Did Action.Default ∷ late) (default_noted limits rest late on));
        pending = OfFree;
      }
  act_out LaterWord {seen} (OfLead l all) =
      let o = one_leaf l seen refl in record {
        done = o.s ∷ [];
        acts = Did Action.Outer ∷ Took o.atom ∷ [];
        pend = [];
        left = Did Action.OuterWord ∷ [];
        same = o.same;
        are = ap (λ k. Did Action.Outer ∷ (k ++ Did Action.OuterWord ∷ [])) o.are;
        prefix = λ rest late on. outer_noted limits (o.s ∷ rest) (Took o.atom ∷ late) (alone limits o.s o.atom rest late on);
        pending = OfWord;
      }
  act_out Words OfFree = held OfWord
  act_out Names OfWord = finished [] (Did Action.OuterWord ∷ Did Action.Name ∷ []) (λ rest late on. worded limits rest late on) Same
  act_out {a = a} (Notes is) OfFree = finished [] (Did a ∷ []) (by_any (any_of a is)) Same
  act_out Ranges OfFree = finished [] (Did Action.To ∷ []) (λ rest late on. range_joined limits rest late on) Same
  act_out Commas OfFree = finished [] (Did Action.Comma ∷ []) (λ rest late on. comma_joined limits rest late on) Same
  act_out Rules {seen} (OfMaybe l) =
      let o = ruler l seen refl in record {
        done = [];
        acts = [];
        pend = o.bracket ∷ o.name ∷ o.closing ∷ [];
        left = rule_events false o.one o.two o.three [];
        same = o.same;
        are = o.are;
        prefix = λ rest late on. on;
        pending = OfRule false o.bracket o.name o.closing o.one o.two o.three;
      }
  act_out RulesBy {seen} (OfMaybe l) =
      let o = ruler_by l seen refl in record {
        done = [];
        acts = [];
        pend = o.bracket ∷ o.name ∷ o.closing ∷ [];
        left = rule_events true o.one o.two o.three [];
        same = o.same;
        are = o.are;
        prefix = λ rest late on. on;
        pending = OfRule true o.bracket o.name o.closing o.one o.two o.three;
      }
  act_out Prints (OfRule true bracket name closing one two three) =
      held (OfOpen (Ruled true bracket name closing one two three nothing_consumed))
  act_out Prints (OfRule false bracket name closing one two three) =
      held (OfOpen (Ruled false bracket name closing one two three nothing_consumed))
  act_out ByRule {seen} {events} (OfOpen (Ruled ends bracket name closing one two three c)) =
      finished seen (events ++ Did Action.PrintRule ∷ []) (by_rule ends bracket name closing one two three c) Same
  act_out Misses p = held OfLost

  -- A unit up to its end

  pub record UnitOf (e : Action) (t : State) (seen : List Seen) (events : List (Event Action)) : Type 0 where
    pub body : List Seen
    pub last : Seen
    pub acts : List (Event Action)
    pub atom : ℕ
    pub class : ℕ
    pub over : t ≡ Ended
    pub same : body ++ last ∷ [] ≡ seen
    pub are : acts ++ Did e ∷ Took atom ∷ [] ≡ events
    pub going : Going limits body acts
    pub closes : closes_with e class ≡ true
    pub is : has (grammar.atoms_of class) last.atom ≡ true

  unit_moved : {e : Action} {t : State} {seen others : List Seen} {events more : List (Event Action)} → seen ≡ others → events ≡ more
      → UnitOf e t seen events → UnitOf e t others more
  unit_moved {e} {t} {seen} {others} {events} {more} same are u = subst (λ l. UnitOf e t l more) same (subst (λ l. UnitOf e t seen l) are u)

  behind_parts : {e : Action} {s t : State} {seen : List Seen} {events : List (Event Action)} (rest : List Seen)
      (late : List (Event Action))
      (o : Outcome s seen events) → UnitOf e t (o.pend ++ rest) (o.left ++ late) → UnitOf e t (seen ++ rest) (events ++ late)
  behind_parts {e} rest late o u = record {
    body = o.done ++ u.body;
    last = u.last;
    acts = o.acts ++ u.acts;
    atom = u.atom;
    class = u.class;
    over = u.over;
    same = append_assoc o.done u.body (u.last ∷ [])
        ∙ (ap (λ l. o.done ++ l) u.same ∙ (sym (append_assoc o.done o.pend rest) ∙ ap (λ l. l ++ rest) o.same));
    are = append_assoc o.acts u.acts (Did e ∷ Took u.atom ∷ [])
        ∙ (ap (λ l. o.acts ++ l) u.are ∙ (sym (append_assoc o.acts o.left late) ∙ ap (λ l. l ++ late) o.are));
    going = o.prefix u.body u.acts u.going;
    closes = u.closes;
    is = u.is;
  }

  unit_ends : {e : Action} (class atom : ℕ) (x : Seen) {seen : List Seen} {events : List (Event Action)} → Outcome Free seen events
      → closes_with e class ≡ true → has (grammar.atoms_of class) x.atom ≡ true
      → UnitOf e Ended (seen ++ x ∷ []) (events ++ Did e ∷ Took atom ∷ [])
  unit_ends {e} class atom x o closes is =
      let n = free_none o.pending in
      let late : List (Event Action) = Did e ∷ Took atom ∷ [] in
      record {
        body = o.done;
        last = x;
        acts = o.acts;
        atom = atom;
        class = class;
        over = refl;
        same = ap (λ l. l ++ x ∷ []) (sym (append-nil o.done) ∙ (ap (λ l. o.done ++ l) (sym n.0) ∙ o.same));
        are = ap (λ l. l ++ late) (sym (append-nil o.acts) ∙ (ap (λ l. o.acts ++ l) (sym n.1) ∙ o.are));
        going = moved limits (append-nil o.done) (append-nil o.acts) (o.prefix [] [] (nothing limits));
        closes = closes;
        is = is;
      }

same_rest : {x y : ℕ} {xs ys : List ℕ} → x ∷ xs ≡ y ∷ ys → xs ≡ ys
same_rest same = cc

same_first : {x y : ℕ} {xs ys : List ℕ} → x ∷ xs ≡ y ∷ ys → x ≡ y
same_first same = cc

module _ (limits : Limits) {e : Action} {s at next t : State} {before : List Seen} {early : List (Event Action)} (f : Fits s at)
    (p : Pending s before early) (seen : List Seen) (late : List (Event Action))
    (others : (pend : List Seen) (left : List (Event Action)) → Pending next pend left → UnitOf limits e t (pend ++ seen) (left ++ late))
  where
    behind_outcome : {now : List Seen} {events : List (Event Action)} → Outcome limits next now events
        → UnitOf limits e t (now ++ seen) (events ++ late)
    behind_outcome o = behind_parts limits seen late o (others o.pend o.left o.pending)

    token_taken : {class : ℕ} (atom : ℕ) (x : Seen) → TokenMove at class next → has (grammar.atoms_of class) x.atom ≡ true → x.atom ≡ atom
        → UnitOf limits e t (before ++ x ∷ seen) (early ++ Took atom ∷ late)
    token_taken atom x move h same = subst (λ n. UnitOf limits e t (before ++ x ∷ seen) (early ++ Took n ∷ late)) same
        (unit_moved limits (append_assoc before (x ∷ []) seen) (append_assoc early (Took x.atom ∷ []) late)
        (behind_outcome (by_fits (fit_out limits f p))))
      where
        by_fits : Outcome limits at before early → Outcome limits next (before ++ x ∷ []) (early ++ Took x.atom ∷ [])
        by_fits fits = combined limits (x ∷ []) (Took x.atom ∷ []) fits (token_out limits move x h fits.pending)

    act_done : (a : Action) → ActMove at a next → UnitOf limits e t (before ++ seen) (early ++ Did a ∷ late)
    act_done a move =
        unit_moved limits (append_assoc before [] seen) (append_assoc early (Did a ∷ []) late) (behind_outcome (by_fits (fit_out limits f p)))
      where
        by_fits : Outcome limits at before early → Outcome limits next (before ++ []) (early ++ Did a ∷ [])
        by_fits fits = combined limits [] (Did a ∷ []) fits
            (subst (λ l. Outcome limits next l (fits.left ++ Did a ∷ [])) (sym (append-nil fits.pend)) (act_out limits move fits.pending))

plain_rest : (a : Action) (late : List (Event Action)) (e : Option Bool) → end_kind a ≡ None → Agrees e (case_first (Did a ∷ late))
    → Agrees e (case_first late)
plain_rest a late e plain first = subst (λ k. Agrees e (by_end k (case_first late))) plain first

-- Symbols by their first one

typed_nothing : {e : Action} {s t : State} {symbols : List (Symbol Action)} → symbols ≡ [] → Typed declared e s symbols t → Fits s t
typed_nothing none (Done f) = f
typed_nothing none other = cc

record TokenTyped (e : Action) (s : State) (class : ℕ) (symbols : List (Symbol Action)) (t : State) : Type 0 where
  at : State
  next : State
  fits : Fits s at
  move : TokenMove at class next
  typed : Typed declared e next symbols t

token_typed : {e : Action} {s t : State} {class : ℕ} {symbols : List (Symbol Action)} → Typed declared e s (Symbol.Token class ∷ symbols) t
    → TokenTyped e s class symbols t
token_typed (Takes {at = at} {next = next} f move typed) = record { at = at; next = next; fits = f; move = move; typed = typed }

data ActTyped (e : Action) (s : State) (a : Action) (symbols : List (Symbol Action)) (t : State) : Type 0 where
  GoesOn : {at next : State} → Fits s at → ActMove at a next → end_kind a ≡ None → Typed declared e next symbols t
      → ActTyped e s a symbols t
  Stops : {class : ℕ} → Fits s Free → closes_with e class ≡ true → a ≡ e → symbols ≡ Symbol.Token class ∷ [] → t ≡ Ended
      → ActTyped e s a symbols t
  Elsewhere : is_other (end_kind a) (end_kind e) ≡ true → ActTyped e s a symbols t

act_typed : {e : Action} {s t : State} {a : Action} {symbols : List (Symbol Action)} → Typed declared e s (Symbol.Act a ∷ symbols) t
    → ActTyped e s a symbols t
act_typed (Does f move plain typed) = GoesOn f move plain typed
act_typed (Ends f closes) = Stops f closes refl refl refl
act_typed (Else other) = Elsewhere other

row_typed : {e : Action} → IsEnd e → {s t : State} {rule : ℕ} {symbols : List (Symbol Action)}
    → Typed declared e s (Symbol.Rule rule ∷ symbols) t → (r : Row Action) → IsOneOf r (grammar.rows_of rule)
    → Typed declared e s (r.parts ++ symbols) t
row_typed end {rule = rule} (Changes c rest f change w typed) r m = fitted_before (fits_then f (Narrow w Same))
    (behind (row_opened (below rest (row_passes rule c r change m)) (row_unsure rule c change r m)) refl typed)
row_typed end {rule = rule} (Misread c change typed) r m =
    fitted_before Loses (behind (row_lost (row_passes rule c r change m) (row_unsure rule c change r m)) refl typed)
row_typed end {rule = rule} (Lists q listed on f typed) r m = fitted_before f (behind (listed_row end rule q listed r m) on typed)
row_typed {e} end {s} {rule = rule} (Tails q listed f) r m =
    subst (λ l. Typed declared e s l Ended) (sym (append-nil r.parts)) (fitted_before f (listed_row end rule (q, Ended) listed r m))
row_typed end (ByRows each) r m = each r m

record OneToken (class : ℕ) (atoms : List ℕ) (late : List (Event Action)) : Type 0 where
  atom : ℕ
  is : has (grammar.atoms_of class) atom ≡ true
  atoms_are : atoms ≡ atom ∷ []
  late_are : late ≡ Took atom ∷ []

one_token : {class : ℕ} {atoms : List ℕ} {late : List (Event Action)} → IsText grammar (Symbol.Token class ∷ []) atoms late
    → OneToken class atoms late
one_token (token {atom = atom} h here) = record { atom = atom; is = h; atoms_are = refl; late_are = refl }

none_first : {x : ℕ} {xs : List ℕ} → [] ≡ x ∷ xs → ⊥
none_first same = cc

none_second : {x y z : ℕ} {xs : List ℕ} → x ∷ y ∷ xs ≡ z ∷ [] → ⊥
none_second same = cc

module _ (limits : Limits) {e : Action} where
  end_read : {class : ℕ} {atoms : List ℕ} {late : List (Event Action)} → OneToken class atoms late → (seen : List Seen)
      → atoms_of seen ≡ atoms
      → {before : List Seen} {early : List (Event Action)} → Outcome limits Free before early → closes_with e class ≡ true
      → UnitOf limits e Ended (before ++ seen) (early ++ Did e ∷ late)
  end_read k [] is o closes = absurd (none_first (is ∙ k.atoms_are))
  end_read {class} k (x ∷ []) is {before} {early} o closes =
      subst (λ l. UnitOf limits e Ended (before ++ x ∷ []) (early ++ Did e ∷ l)) (sym k.late_are)
      (unit_ends limits class k.atom x o closes
      (subst (λ n. has (grammar.atoms_of class) n ≡ true) (sym (same_first (is ∙ k.atoms_are))) k.is))
  end_read k (x ∷ y ∷ seen) is o closes = absurd (none_second (is ∙ k.atoms_are))

  act_read : {s t : State} (a : Action) {symbols left : List (Symbol Action)} {atoms : List ℕ} (late : List (Event Action))
      → ActTyped e s a symbols t → Leads grammar symbols atoms late left → left ≡ [] → (seen : List Seen) → atoms_of seen ≡ atoms
      → Agrees (end_kind e) (case_first (Did a ∷ late)) → (before : List Seen) (early : List (Event Action)) → Pending s before early
      → ((next : State) → Typed declared e next symbols t → Agrees (end_kind e) (case_first late) → (pend : List Seen)
      (rest : List (Event Action))
      → Pending next pend rest → UnitOf limits e t (pend ++ seen) (rest ++ late))
      → UnitOf limits e t (before ++ seen) (early ++ Did a ∷ late)
  act_read a late (GoesOn {next = next} f move plain typed) leads none seen is first before early p on =
      act_done limits f p seen late (λ pend rest q. on next typed (plain_rest a late (end_kind e) plain first) pend rest q) a move
  act_read {t = t} a {symbols} {atoms = atoms} late (Stops f closes same symbols_are over) leads none seen is first before early p on =
      let k =
      one_token (subst (λ l. Leads grammar l atoms late []) symbols_are (subst (λ l. Leads grammar symbols atoms late l) none leads)) in
      let ends = end_read k seen is (fit_out limits f p) closes in
      subst (λ k. UnitOf limits e k (before ++ seen) (early ++ Did a ∷ late)) (sym over)
      (subst (λ b. UnitOf limits e Ended (before ++ seen) (early ++ Did b ∷ late)) (sym same) ends)
  act_read a late (Elsewhere other) leads none seen is first before early p on =
      absurd (ends_otherwise (end_kind a) (end_kind e) (case_first late) other first)

module _ (limits : Limits) {e : Action} (end : IsEnd e) where
  -- Symbols whose texts are units up to their end, behind what is open
  pub units_typed : {symbols left : List (Symbol Action)} {atoms : List ℕ} {events : List (Event Action)}
      → Leads grammar symbols atoms events left → left ≡ [] → (seen : List Seen) → atoms_of seen ≡ atoms → {s t : State}
      → Typed declared e s symbols t → is_last t ≡ true → Agrees (end_kind e) (case_first events)
      → (before : List Seen) (early : List (Event Action))
      → Pending s before early → UnitOf limits e t (before ++ seen) (early ++ events)
  units_typed here none seen is typed last first before early p =
      absurd (none_last last (fit_out limits (typed_nothing none typed) p).pending)
  units_typed (token h leads) none [] is typed last first before early p = cc
  units_typed (token {class} {atom} {events = late} h leads) none (x ∷ seen) is typed last first before early p =
      let k = token_typed typed in
      token_taken limits k.fits p seen late (λ pend left q. units_typed leads none seen (same_rest is) k.typed last first pend left q) atom
      x
      k.move (subst (λ n. has (grammar.atoms_of class) n ≡ true) (sym (same_first is)) h) (same_first is)
  units_typed (action {a} {events = late} leads) none seen is typed last first before early p =
      act_read limits a late (act_typed typed) leads none seen is first before early p
      (λ next others kind pend left q. units_typed leads none seen is others last kind pend left q)
  units_typed (row {r = r} m free leads) none seen is typed last first before early p =
      units_typed leads none seen is (row_typed end typed r m) last first before early p
