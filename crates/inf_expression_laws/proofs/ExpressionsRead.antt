-- The tokens of an expression are read: the expression that they are is gathered.
use Rattle.std.proofs.Common.{◌≡◌, ℕ, ◌+◌, ◌≤◌, ◌<◌, List, [], ◌∷◌, ◌++◌, length, true, false, Option, Some, None, refl, sym, ◌∙◌, ap}
use Rattle.std.proofs.Common.{subst, append_assoc, append-nil, arith, option_map, slice_get}
use Rattle.std.proofs.{lemmas.Bool.cond-false, lemmas.List.length-append}
use Rattle.inf_machine.specs.declared.symbols.Symbol.{Symbol}
use Rattle.inf_machine.specs.Grammar.{Event, IsOneOf, IsText, Leads, first, later, here, token, action, row}
use Rattle.inf_machine.proofs.Sets.{has_within}
use Rattle.inf_syntax.specs.declared.actions.Action.{Action}
use Rattle.inf_expressions.specs.{Sources.Source, declared.operators.Binary.Binary, declared.operators.Unary.Unary}
use Rattle.inf_gathering.specs.Gatherings.{Gathering, with_prefix, with_suffix, with_test, with_two}
use Rattle.inf_unit.specs.{Steps.step_of, Tokens.SourceToken, declared.steps.GatherStep.GatherStep}
use Rattle.inf_unit.specs.Units.{Unit, acted, depth_behind, stepped, taken}
use Rattle.inf_grammar.specs.Language.{grammar}
use Rattle.inf_expression_laws.specs.{Gathered.AreSeen, Gathered.IsSeen, Gathered.read_by, Gathered.with_source, Laws.ExpressionsAreRead}
use Rattle.inf_expression_laws.specs.Precedence.{Written, sign_behind, sign_between, sign_in_front, sign_of_test}
use Rattle.inf_expression_laws.proofs.{ActionSteps.acted_step, Items.Item, Items.Whole}
use Rattle.inf_expression_laws.proofs.Leaves.{At, action_stands, leaf_stands, opened_stands, system_stands}
use Rattle.inf_expression_laws.proofs.Standing.{Frame, gained, Known, Stands, moved, read, start, weakened, whole}
use Rattle.inf_expression_laws.proofs.Steps.{assign_stands, bracketed_stands, call_stands, closed_stands, closing_stands, comma_stands}
use Rattle.inf_expression_laws.proofs.Steps.{front_stands, list_stands, more_stands, one_stands, suffix_stands, test_stands, two_stands}
use Rattle.inf_expression_laws.proofs.Typed.{Change, form_passes, Passes, below, between_changes, front_changes, joined, row_passes}
use Rattle.inf_expression_laws.proofs.Typed.{step_changes, suffix_changes, test_changes, two_changes}
use Rattle.inf_expression_laws.proofs.Typed as typed

-- Lemmas about the state of the reading
record Read (f : Frame) (items : List Item) (seen : List ℕ) (u : Unit) (tokens : List SourceToken) : Type 0 where
  stands : Stands f items seen u.gathering
  at : At f u (length seen) tokens

-- gathering changes nothing else in the unit
at_gathered : {f : Frame} {u : Unit} {count : ℕ} {tokens : List SourceToken} (g : Gathering) → At f u count tokens →
    At f (record u { gathering = g }) count tokens
at_gathered g a = record { all = a.all; long = a.long; outer = a.outer; begun = a.begun; early = a.early; ready = a.ready; few = a.few }

at_sure : {f : Frame} {u : Unit} {count : ℕ} {tokens : List SourceToken} → At f u count tokens →
    At f (record u { is_sure = true }) count tokens
at_sure a = record { all = a.all; long = a.long; outer = a.outer; begun = a.begun; early = a.early; ready = a.ready; few = a.few }

few_seen : {f : Frame} {u : Unit} {count : ℕ} {tokens : List SourceToken} → At f u count tokens → count < 4294967295
few_seen {f} {u} {count} {tokens} a = omega (arith, a.few, ap length a.all, length-append u.tokens tokens, a.long)

-- the items after each kind of step
front_by : {f : Frame} {seen : List ℕ} {g : Gathering} (rest : List Item) (op : Unary) (c : Change) (o : Option (ℕ × ℕ)) →
    sign_in_front op ≡ o → IsOneOf c (front_changes o) →
    Stands f (c.old ++ rest) seen g → Stands f (c.now ++ rest) seen (with_prefix op g)
front_by rest op c None e m s = elim m [ ]
front_by rest op c (Some sign) e first s = front_stands op e s
front_by rest op c (Some sign) e (later m) s = elim m [ ]

suffix_by : {f : Frame} {seen : List ℕ} {g : Gathering} (rest : List Item) (op : Unary) (c : Change) (o : Option (ℕ × ℕ)) →
    sign_behind op ≡ o → IsOneOf c (suffix_changes o) →
    Stands f (c.old ++ rest) seen g → Stands f (c.now ++ rest) seen (with_suffix op g)
suffix_by rest op c None e m s = elim m [ ]
suffix_by rest op c (Some sign) e first s = suffix_stands op e s
suffix_by rest op c (Some sign) e (later m) s = elim m [ ]

between_by : {f : Frame} {seen : List ℕ} {g : Gathering} (rest : List Item) (op : Binary) (c : Change) (o : Option (ℕ × ℕ)) →
    sign_between op ≡ o → (op ≡ Binary.Comma → false ≡ true) → IsOneOf c (between_changes o) →
    Stands f (c.old ++ rest) seen g → Stands f (c.now ++ rest) seen (with_two op g)
between_by rest op c None e n m s = elim m [ ]
between_by rest op c (Some sign) e n first s = two_stands op e n s
between_by rest op c (Some sign) e n (later m) s = elim m [ ]

test_by : {f : Frame} {seen : List ℕ} {g : Gathering} (rest : List Item) (op : Binary) (c : Change) (o : Option ℕ) → sign_of_test op ≡ o →
    IsOneOf c (test_changes o) →
    Stands f (c.old ++ rest) seen g → Stands f (c.now ++ rest) seen (with_test op g)
test_by rest op c None e m s = elim m [ ]
test_by rest op c (Some signs) e first s = test_stands op e s
test_by rest op c (Some signs) e (later m) s = elim m [ ]

two_by : {f : Frame} {seen : List ℕ} {g : Gathering} (rest : List Item) (op : Binary) (c : Change) → IsOneOf c (two_changes op) →
    Stands f (c.old ++ rest) seen g → Stands f (c.now ++ rest) seen (with_two op g)
two_by rest Binary.Comma c m s = elim m [ ]
two_by rest Binary.Assign c first s = assign_stands s
two_by rest Binary.Assign c (later m) s = elim m [ ]
two_by rest (Binary.Operation o) c m s = between_by rest (Binary.Operation o) c (sign_between (Binary.Operation o)) refl (λ e. cc) m s
two_by rest (Binary.Property p) c m s = between_by rest (Binary.Property p) c (sign_between (Binary.Property p)) refl (λ e. cc) m s
two_by rest (Binary.Test t) c m s = elim m [ ]
two_by rest (Binary.Fails t) c m s = elim m [ ]
two_by rest Binary.And c m s = between_by rest Binary.And c (sign_between Binary.And) refl (λ e. cc) m s
two_by rest Binary.Or c m s = between_by rest Binary.Or c (sign_between Binary.Or) refl (λ e. cc) m s
two_by rest Binary.Call c m s = elim m [ ]
two_by rest Binary.Then c m s = elim m [ ]
two_by rest Binary.To c m s = elim m [ ]

stepped_stands : {f : Frame} {seen : List ℕ} (rest : List Item) (s : GatherStep) (c : Change) → IsOneOf c (step_changes (Some s)) →
    (u : Unit) (tokens : List SourceToken) →
    Read f (c.old ++ rest) seen u tokens → Read f (c.now ++ rest) seen (stepped s u) tokens
stepped_stands rest GatherStep.Leaf c first u tokens r = record { stands = leaf_stands u tokens r.at r.stands; at = at_gathered _ r.at }
stepped_stands rest GatherStep.Leaf c (later m) u tokens r = elim m [ ]
stepped_stands rest GatherStep.Action c first u tokens r =
    record { stands = action_stands u tokens r.at r.stands; at = at_gathered _ r.at }
stepped_stands rest GatherStep.Action c (later m) u tokens r = elim m [ ]
stepped_stands rest GatherStep.System c first u tokens r =
    record { stands = system_stands u tokens r.at r.stands; at = at_gathered _ r.at }
stepped_stands rest GatherStep.System c (later m) u tokens r = elim m [ ]
stepped_stands rest (GatherStep.Prefix op) c m u tokens r =
    record { stands = front_by rest op c (sign_in_front op) refl m r.stands; at = at_gathered _ r.at }
stepped_stands rest (GatherStep.Suffix op) c m u tokens r =
    record { stands = suffix_by rest op c (sign_behind op) refl m r.stands; at = at_gathered _ r.at }
stepped_stands rest (GatherStep.Two op) c m u tokens r = record { stands = two_by rest op c m r.stands; at = at_gathered _ r.at }
stepped_stands rest GatherStep.Comma c first u tokens r = record { stands = comma_stands r.stands; at = at_gathered _ r.at }
stepped_stands rest GatherStep.Comma c (later m) u tokens r = elim m [ ]
stepped_stands rest GatherStep.List c first u tokens r = record { stands = list_stands r.stands; at = at_gathered _ r.at }
stepped_stands rest GatherStep.List c (later m) u tokens r = elim m [ ]
stepped_stands rest GatherStep.Part c first u tokens r = record { stands = one_stands r.stands; at = at_gathered _ r.at }
stepped_stands rest GatherStep.Part c (later first) u tokens r = record { stands = one_stands r.stands; at = at_gathered _ r.at }
stepped_stands rest GatherStep.Part c (later (later first)) u tokens r =
    record { stands = more_stands (few_seen r.at) r.stands; at = at_gathered _ r.at }
stepped_stands rest GatherStep.Part c (later (later (later first))) u tokens r =
    record { stands = more_stands (few_seen r.at) r.stands; at = at_gathered _ r.at }
stepped_stands rest GatherStep.Part c (later (later (later (later m)))) u tokens r = elim m [ ]
stepped_stands rest GatherStep.Call c first u tokens r = record { stands = call_stands r.stands; at = at_gathered _ r.at }
stepped_stands rest GatherStep.Call c (later m) u tokens r = elim m [ ]
stepped_stands rest (GatherStep.Test op) c m u tokens r =
    record { stands = test_by rest op c (sign_of_test op) refl m r.stands; at = at_gathered _ r.at }
stepped_stands rest GatherStep.Bracket c first u tokens r =
    record { stands = opened_stands u tokens r.at r.stands; at = at_gathered _ r.at }
stepped_stands rest GatherStep.Bracket c (later m) u tokens r = elim m [ ]
stepped_stands rest GatherStep.Bracketed c first u tokens r = record { stands = bracketed_stands r.stands; at = at_gathered _ r.at }
stepped_stands rest GatherStep.Bracketed c (later first) u tokens r = record { stands = closing_stands r.stands; at = at_gathered _ r.at }
stepped_stands rest GatherStep.Bracketed c (later (later m)) u tokens r = elim m [ ]

-- an action changes what is open from `c.old` to `c.now`, where `c` is one of the changes of its step
acts : {f : Frame} {seen : List ℕ} (rest : List Item) (a : Action) (c : Change) → IsOneOf c (step_changes (step_of a)) →
    (u : Unit) (tokens : List SourceToken) →
    Read f (c.old ++ rest) seen u tokens → Read f (c.now ++ rest) seen (acted a u) tokens
acts {f} {seen} rest a c m u tokens r = by_step (step_of a) refl m
  where
    by_step : (o : Option GatherStep) → step_of a ≡ o → IsOneOf c (step_changes o) → Read f (c.now ++ rest) seen (acted a u) tokens
    by_step None e n = elim n [ ]
    by_step (Some s) e n =
        subst (λ v. Read f (c.now ++ rest) seen v tokens) (sym (acted_step a s u e)) (stepped_stands rest s c n u tokens r)

-- Lemmas about a token
last_of : {A : Type 0} (xs ys : List A) (y : A) → slice_get (xs ++ y ∷ ys) (length xs) ≡ Some y
last_of [] ys y = refl
last_of (x ∷ xs) ys y = last_of xs ys y

taken_ready : (t : SourceToken) (u : Unit) → u.is_over ≡ false →
    taken t u ≡ record u { tokens = u.tokens ++ t ∷ []; depth = depth_behind t.kind u.depth }
taken_ready t u e =
    cond-false u.is_over (record u { is_over = false }) (record u { tokens = u.tokens ++ t ∷ []; depth = depth_behind t.kind u.depth }) e

with_token : {f : Frame} {items : List Item} {seen : List ℕ} {u : Unit} (t : SourceToken) (tokens : List SourceToken) (atom : ℕ) →
    IsSeen atom t → Read f items seen u (t ∷ tokens) →
    ((other : List Item) → Stands f other (seen ++ atom ∷ []) u.gathering → Read f other (seen ++ atom ∷ []) (taken t u) tokens) × Known f
    (f.order + length seen) atom
with_token {f} {items} {seen} {u} t tokens atom is r =
    let a = r.at in (
      λ other s. subst (λ v. Read f other (seen ++ atom ∷ []) v tokens) (sym (taken_ready t u a.ready)) (record {
        stands = s;
        at = record {
          all = a.all ∙ sym (append_assoc u.tokens (t ∷ []) tokens);
          long = omega (arith, length-append u.tokens (t ∷ []), a.long, length-append seen (atom ∷ []));
          outer = a.outer;
          begun = a.begun;
          early = a.early;
          ready = a.ready;
          few = a.few;
        };
      }),
      record {
        seen = t.kind;
        is = ap (option_map (λ (x : SourceToken). x.kind))
            (ap (λ n. slice_get f.all n) (sym a.long) ∙ ap (λ ts. slice_get ts (length u.tokens)) a.all ∙ last_of u.tokens tokens t);
        mark = is;
      },
    )

-- where no symbols are left to be read
at_end : {f : Frame} {symbols : List (Symbol Action)} {items target : List Item} → symbols ≡ [] → Passes items symbols target →
    {seen : List ℕ} {g : Gathering} → Stands f items seen g → Stands f target seen g
at_end e (typed.done w) s = weakened s w
at_end e other s = cc

reads : {symbols left : List (Symbol Action)} {atoms : List ℕ} {events : List (Event Action)} → Leads grammar symbols atoms events left →
    left ≡ [] →
    {f : Frame} {items target : List Item} {seen : List ℕ} → Passes items symbols target → (u : Unit) (tokens : List SourceToken) → AreSeen
    atoms tokens →
    Read f items seen u tokens → Read f target (seen ++ atoms) (read_by events tokens u) []
reads here e {f = f} {target = target} {seen = seen} p u [] a r =
    subst (λ s. Read f target s u []) (sym (append-nil seen)) (record { stands = at_end e p r.stands; at = r.at })
reads here e p u (t ∷ tokens) a r = cc
reads (token h l) e (typed.token p) u [] a r = cc
reads (token {atom = atom} {atoms = atoms} {events = events} h l) e {f = f} {target = target} {seen = seen} (typed.token p) u (t ∷ tokens) a
    r =
    let n = with_token t tokens atom a.0 r in
    subst (λ s. Read f target s (read_by events tokens (taken t u)) []) (append_assoc seen (atom ∷ []) atoms)
    (reads l e p (taken t u) tokens a.1 (n.0 _ (read seen atom r.stands h n.1)))
reads (token h l) e (typed.close w i p) u [] a r = cc
reads (token {atom = atom} {atoms = atoms} {events = events} h l) e {f = f} {target = target} {seen = seen} (typed.close w i p) u
    (t ∷ tokens) a r =
    let n = with_token t tokens atom a.0 r in
    subst (λ s. Read f target s (read_by events tokens (taken t u)) []) (append_assoc seen (atom ∷ []) atoms)
    (reads l e p (taken t u) tokens a.1 (n.0 _ (closed_stands atom (has_within _ _ atom i h) (weakened r.stands w))))
reads (action l) e {f = f} {seen = seen} (typed.sure p) u tokens a r =
    reads l e p (acted Action.OuterSure u) tokens a (record { stands = r.stands; at = at_sure r.at })
reads (action {a = does} l) e {f = f} {seen = seen} (typed.act c rest one w p) u tokens a r =
    reads l e p (acted does u) tokens a (acts rest does c one u tokens (record { stands = weakened r.stands w; at = r.at }))
reads (row {rule = number} {r = way} one not l) e {f = f} {seen = seen} (typed.rule c rest is w p) u tokens a r =
    reads l e (joined (below rest (row_passes number c way is one)) p) u tokens a (record { stands = weakened r.stands w; at = r.at })

-- Lemmas about a whole expression

only_whole : {f : Frame} {level : ℕ} {all : List ℕ} {g : Gathering} → Stands f (Whole level ∷ []) all g →
    (a : Source) × Written level f.order (length f.base.leaves) all a × (g ≡ gained f a f.base)
only_whole {f} (whole _ atoms a _ start w) = (a, moved (omega arith) refl w, refl)

abbrev frame : Unit → List SourceToken → Frame
frame u tokens = record { outer = u.outer; begun = u.begun; all = u.tokens ++ tokens; order = length u.tokens; base = u.gathering }

at_start : (u : Unit) (tokens : List SourceToken) → u.is_over ≡ false → u.begun ≤ length u.tokens →
    length (u.tokens ++ tokens) < 4294967295 → At (frame u tokens) u 0 tokens
at_start u tokens ready early few = record {
  all = refl;
  long = omega arith;
  outer = refl;
  begun = refl;
  early = early;
  ready = ready;
  few = few;
}

-- an expression whose symbols lead to one that binds at a level
pub passed_are_read : (symbols : List (Symbol Action)) (level : ℕ) → Passes [] symbols (Whole level ∷ []) →
    (atoms : List ℕ) (events : List (Event Action)) → IsText grammar symbols atoms events →
    (u : Unit) (tokens : List SourceToken) → AreSeen atoms tokens → u.is_over ≡ false → u.begun ≤ length u.tokens →
    length (u.tokens ++ tokens) < 4294967295 →
    (a : Source)
    × Written level (length u.tokens) (length u.gathering.leaves) atoms a
    × ((read_by events tokens u).gathering ≡ with_source u.outer u.begun (u.tokens ++ tokens) a u.gathering)
    × ((read_by events tokens u).tokens ≡ u.tokens ++ tokens)
passed_are_read symbols level p atoms events t u tokens seen ready early few =
    let r =
    reads t refl {f = frame u tokens} {seen = []} p u tokens seen (record { stands = start; at = at_start u tokens ready early few }) in
    let w = only_whole r.stands in
    (w.0, w.1, w.2, sym (append-nil (read_by events tokens u).tokens) ∙ sym r.at.all)

pub expressions_are_read : ExpressionsAreRead
expressions_are_read symbols level form = passed_are_read symbols level (form_passes symbols level form)
