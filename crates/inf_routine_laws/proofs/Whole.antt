-- A routine as a whole: where it ends, each label is marked once, and each that is used is marked.
use Rattle.std.specs.Prelude.{if◌then◌else◌, is_some, length, ◌+◌}
use Rattle.std.proofs.Common.{Bool, List, None, Option, Some, [], ap, arith, false, refl, subst, suc, sym, true, zero, ℕ, ◌++◌, ◌∙◌, ◌∷◌}
use Rattle.std.proofs.Common.{◌≡◌}
use Rattle.inf_area.specs.{Cells.later_count, declared.cells.Cell.Cell as CodeCell}
use Rattle.inf_scanner.specs.declared.tokens.Place.{Place}
use Rattle.inf_settings.specs.Bounds.{Limits}
use Rattle.inf_opcode.specs.{Cells.Cell, declared.instructions.Label.Label}
use Rattle.inf_assembler.specs.{Places.twice_behind, declared.routines.CloseFault.CloseFault, declared.routines.Limit.Limit}
use Rattle.inf_assembler.specs.{declared.routines.RoutineKind.RoutineKind}
use Rattle.inf_assembler.specs.Routines.{Contents, body_bytes, body_fault, is_full, missing_fault, twice_fault}
use Rattle.inf_names.specs.{Locals.Headed, Spellings.Name, Symbols.declare_fault, declared.meanings.Meaning.Meaning}
use Rattle.inf_names.specs.{declared.symbols.DeclareFault.DeclareFault}
use Rattle.inf_code.specs.declared.code.CodeLimits.{CodeLimits}
use Rattle.inf_code.specs.Code.{Opened, Routines, begun_unless, code_limits, fault_behind, fault_closed, fault_end, fault_of_full}
use Rattle.inf_code.specs.Code.{finished_fault, first_fault, full_begun, full_finished, full_opened, limit_fault, padded, place_behind}
use Rattle.inf_code.specs.Code.{references_before, routine_cells, unlimited}
use Rattle.inf_output.specs.Output.{Out, begun_by, declared_by, opened, opened_by}
use Rattle.inf_machine.specs.{Machine.taken, declared.symbols.Symbol.Symbol}
use Rattle.inf_syntax.specs.declared.actions.Action.{Action}
use Rattle.inf_grammar.specs.{Language.grammar, Language.known, Routines.closings}
use Rattle.inf_unit.specs.{Tokens.SourceToken, Units.first_place, Units.names_in}
use Rattle.inf_constructs.specs.{Constructs.are_cases, Constructs.ended, Labels.NamedLabel, Labels.missing}
use Rattle.inf_constructs.specs.{declared.constructs.Construct.Construct, declared.constructs.Kind.Kind}
use Rattle.inf_compilation.specs.{Context.Context, Findings.Findings, Findings.again_by, Findings.header_findings}
use Rattle.inf_compilation.specs.Actions.{Compilation, header_of, header_with, is_to_be_replaced, opened_with, passed as passed_over}
use Rattle.inf_compilation.specs.Actions.{routine_declared}
use Rattle.inf_reader.specs.Acting.{act}
use Rattle.inf_statement_laws.specs.{Laid.happens, Laid.laid, Laid.passed, Laid.run, Nested.Nested, Nested.happenings}
use Rattle.inf_statement_laws.specs.Happenings.{Acts, Between, Happening, Moment, Takes}
use Rattle.inf_statement_laws.specs.Readings.{Routine, Seen, all_happenings, behind_ends, behind_some, behind_token, body_laid}
use Rattle.inf_statement_laws.specs.Readings.{routine_happenings, then_between, token_happenings}
use Rattle.inf_statement_laws.proofs.{Acts.inside_act, Acts.own_alone, Acts.quiet_run, Laying.alone_behind}
use Rattle.inf_code_walk.specs.Made.{times}
use Rattle.inf_routine_laws.specs.Laws.{AllLeave, AllSeenLeave, DirectiveLeaves, HasBegun, HasItsLabels, LeaveRoutine, LeavesRoutine}
use Rattle.inf_routine_laws.specs.Laws.{RoutinesHaveTheirLabels, headed, is_of_labels}
use Rattle.inf_routine_laws.proofs.{Acting.Balanced, Acting.quiet_good, Nesting.keeps_all, Nesting.leave_both, Stepping.case_kind}
use Rattle.inf_routine_laws.proofs.{Stepping.ends_case_kind}
use Rattle.inf_routine_laws.proofs.Balance.{Good, cased, named_all, named_due, reached, unless_given}
use Rattle.inf_routine_laws.proofs.Booking.{AreWhole, Counts, cell_marks, cell_uses, one, some_is, whole_missing, whole_twice}

-- Lemmas about tokens as they are read

leaves_then : (o p q : Out) → LeavesRoutine o p → LeavesRoutine p q → LeavesRoutine o q
leaves_then o p q a b = record {
  opened = b.opened ∙ a.opened;
  next = b.next ∙ a.next;
  kept = b.kept ∙ a.kept;
  fits = λ e. a.fits (b.fits e);
}

both_leave : (m n : Between) → LeaveRoutine m → LeaveRoutine n → LeaveRoutine (then_between m n)
both_leave m n a b o = leaves_then o (m.output o) (n.output (m.output o)) (a o) (b (m.output o))

joined_leave : (xs ys : List Happening) → AllLeave xs → AllLeave ys → AllLeave (xs ++ ys)
joined_leave [] ys a b = b
joined_leave ((Acts at x) ∷ xs) ys a b = (a.0, joined_leave xs ys a.1 b)
joined_leave ((Takes t m) ∷ xs) ys a b = (a.0, joined_leave xs ys a.1 b)

token_leaves : (t : SourceToken) (m : Between) (actions : List Action) → LeaveRoutine m → AllLeave (token_happenings t m actions)
token_leaves t m [] a = (a, tt)
token_leaves t m (x ∷ actions) a = (λ o. record { opened = refl; next = refl; kept = refl; fits = λ e. e }, token_leaves t m actions a)

behind_leaves : (directive : Option Between) (count : ℕ) (b : Between) → DirectiveLeaves directive → LeaveRoutine b →
    LeaveRoutine (behind_token directive count b)
behind_leaves None count b d a = a
behind_leaves (Some m) zero b d a = both_leave b m a d
behind_leaves (Some m) (suc count) b d a = a

some_leave : (count : ℕ) (m : Between) (hs : List Happening) → LeaveRoutine m → AllLeave hs → AllLeave (behind_some count m hs)
some_leave count m [] d a = tt
some_leave zero m ((Acts at x) ∷ hs) d a = a
some_leave zero m ((Takes t b) ∷ hs) d a = a
some_leave (suc zero) m ((Acts at x) ∷ hs) d a = (both_leave at.behind m a.0 d, a.1)
some_leave (suc zero) m ((Takes t b) ∷ hs) d a = (both_leave b m a.0 d, a.1)
some_leave (suc (suc count)) m ((Acts at x) ∷ hs) d a = (a.0, some_leave (suc count) m hs d a.1)
some_leave (suc (suc count)) m ((Takes t b) ∷ hs) d a = (a.0, some_leave (suc count) m hs d a.1)

ends_leave : (directive : Option Between) (count : ℕ) (hs : List Happening) → DirectiveLeaves directive → AllLeave hs →
    AllLeave (behind_ends directive count hs)
ends_leave None count hs d a = a
ends_leave (Some m) count hs d a = some_leave count m hs d a

pub tokens_leave : (seen : List Seen) (symbols : List (Symbol Action)) → AllSeenLeave seen → AllLeave (all_happenings seen symbols)
tokens_leave [] symbols l = tt
tokens_leave (s ∷ seen) symbols l =
    let n = taken grammar known s.atom symbols in
    let first = token_happenings s.token (behind_token s.directive (closings n.left) s.behind) n.actions in
    let others = all_happenings seen n.left in
    joined_leave first (behind_ends s.directive (closings n.left) others)
    (token_leaves s.token (behind_token s.directive (closings n.left) s.behind) n.actions
    (behind_leaves s.directive (closings n.left) s.behind l.0.1 l.0.0))
    (ends_leave s.directive (closings n.left) others l.0.1 (tokens_leave seen n.left l.1))

-- Lemmas about routines

-- Lemmas about the fault of a routine whose labels are whole

full_label : (b : Bool) (s : Limit) (rest : Option CloseFault) → is_of_labels rest ≡ false →
    is_of_labels (if b then Some (CloseFault.Full s) else rest) ≡ false
full_label true s rest h = refl
full_label false s rest h = h

limit_label : (references : ℕ) (contents : Contents) (len : ℕ) → is_of_labels (limit_fault references contents len) ≡ false
limit_label references contents len = full_label (is_full contents.is_final unlimited len) Limit.Code _ (full_label _ Limit.Refs None refl)

of_full_label : (full : Option Limit) → is_of_labels (fault_of_full full) ≡ false
of_full_label None = refl
of_full_label (Some limit) = refl

finished_label : (is_lost : Bool) (limits : CodeLimits) (finished : List CodeCell) →
    is_of_labels (finished_fault is_lost limits finished) ≡ false
finished_label true limits finished = refl
finished_label false limits finished = of_full_label (full_finished limits (place_behind finished) (5 + later_count finished))

body_label : (next : List ℕ → Option CloseFault) → ((body : List ℕ) → is_of_labels (next body) ≡ false) → (body : Option (List ℕ)) →
    is_of_labels (body_fault next body) ≡ false
body_label next h None = refl
body_label next h (Some body) = h body

first_label : (f g : Option CloseFault) → is_of_labels f ≡ false → is_of_labels g ≡ false → is_of_labels (first_fault f g) ≡ false
first_label None g h k = k
first_label (Some f) g h k = h

whole_label : (start references : ℕ) (contents : Contents) → AreWhole contents.cells →
    is_of_labels (fault_behind start references contents) ≡ false
whole_label start references contents w =
    let next = λ (body : List ℕ). limit_fault references contents (start + 1 + length body) in
    let inner = body_fault next (body_bytes start contents) in
    ap (λ (m : Option Label). is_of_labels (missing_fault (twice_fault inner (twice_behind [] contents.cells)) m))
    (whole_missing (start + 1) contents.cells w)
    ∙ (ap (λ (t : Option Label). is_of_labels (twice_fault inner t)) (whole_twice contents.cells w)
    ∙ body_label next (λ body. limit_label references contents (start + 1 + length body)) (body_bytes start contents))

closed_label : (limits : Limits) (how : RoutineKind) (code : Routines) (x : Option Opened) → code.opened ≡ x →
    ((routine : Opened) → x ≡ Some routine → AreWhole routine.contents.cells) → is_of_labels (fault_closed limits how code) ≡ false
closed_label limits how code None e w = ap (λ x. is_of_labels (fault_end (code_limits limits) code.scale how code.finished x)) e
closed_label limits how code (Some r) e w =
    let place = place_behind code.finished in
    ap (λ x. is_of_labels (fault_end (code_limits limits) code.scale how code.finished x)) e
    ∙ first_label (fault_behind place (references_before r.is_lost code.finished) r.contents)
    (finished_fault r.is_lost (code_limits limits) (code.finished ++ padded code.scale (routine_cells place how r.contents)))
    (whole_label place (references_before r.is_lost code.finished) r.contents (w r refl))
    (finished_label r.is_lost (code_limits limits) (code.finished ++ padded code.scale (routine_cells place how r.contents)))

-- Lemmas about the end of a routine

none_some : {A : Type 0} {B : Type 0} {a : A} → Some a ≡ None → B
none_some e = absurd (cc e)

no_due : (n : ℕ) (labels : List NamedLabel) → missing labels ≡ None → named_due n labels ≡ 0
no_due n [] e = refl
no_due n (l ∷ labels) e = go l.known.is_given e (λ f. no_due n labels f)
  where
    go : (b : Bool) → (if b then missing labels else Some l.known.spelling) ≡ None → (missing labels ≡ None → named_due n labels ≡ 0)
        → unless_given b (one n l.known.label) + named_due n labels ≡ 0
    go true f later = let r = later f in omega (arith, r)
    go false f later = none_some f

abbrev none_due : Counts
none_due n = 0

ended_good : (limits : Limits) (labels : List NamedLabel) (constructs : List Construct) (o : Out) → own_alone constructs ≡ true →
    Good none_due none_due none_due labels constructs o →
    Good none_due none_due none_due labels [] (ended limits constructs o).1
ended_good limits labels [] o h g = g
ended_good limits labels (c ∷ []) o h g = ends_case_kind limits c.kind none_due none_due none_due labels c [] o refl (cases_kind c.kind h) g
  where
    cases_kind : (k : Kind) → are_cases k ≡ true → case_kind k ≡ true
    cases_kind (Kind.Cases old had_default) e = refl
    cases_kind (Kind.Switch old had_default) e = refl
    cases_kind other e = cc
ended_good limits labels (c ∷ d ∷ constructs) o h g = cc

has_its_labels : (limits : Limits) (v : Compilation) → own_alone v.constructs ≡ true → Balanced none_due none_due none_due v →
    HasItsLabels limits v
has_its_labels limits v h g fits few none how =
    let o = (ended limits v.constructs v.output).1 in
    let end = ended_good limits v.labels v.constructs v.output h g in
    closed_label limits how o.code o.code.opened refl
    (λ routine is.
    let b = end.sound.holds fits few routine is in record {
      once = λ n. let p = b.once n in omega (arith, p);
      known = λ n used.
          let p = b.known n (omega (arith, used)) in let q = no_due n v.labels none in omega (arith, p, q);
    })

-- Lemmas about a routine that has just begun

begun_good : (w : Compilation) → HasBegun w → Balanced none_due none_due none_due w
begun_good w h = record {
  together = h.together;
  sound = record {
    holds = λ fits few routine is.
        let cells = h.items routine is in
        let due = λ (n : ℕ). ap (named_due n) h.labels in
        let all = λ (n : ℕ). ap (named_all n) h.labels in
        let open_ = λ (n : ℕ). ap (cased n) h.constructs in
        let known = λ (n : ℕ). ap (reached n) h.constructs in
        let marked = λ (n : ℕ). ap (λ c. times n (cell_marks c)) cells in
        let used = λ (n : ℕ). ap (λ c. times n (cell_uses c)) cells in record {
          once = λ n. let a = due n in let b = open_ n in let c = marked n in omega (arith, a, b, c);
          over = λ n more. let a = due n in let b = open_ n in let c = marked n in omega (arith, a, b, c);
          known = λ n some. let a = all n in let b = known n in let c = used n in absurd (omega (arith, a, b, c, some));
        };
  };
}

own_begun : (w : Compilation) → HasBegun w → own_alone w.constructs ≡ true
own_begun w h = ap own_alone h.constructs

body_has : (limits : Limits) (context : Context) (body : Nested true) (w : Compilation) → w.closed ≡ 0 → own_alone w.constructs ≡ true →
    Balanced none_due none_due none_due w → AllLeave (happenings body) → HasItsLabels limits (laid limits context body w)
body_has limits context body w e h g l = has_its_labels limits (laid limits context body w) (alone_behind limits context body w e h)
    (keeps_all limits context body none_due none_due none_due w e l g)

routine_has : (limits : Limits) (context : Context) (r : Routine) (w : Compilation) → w.closed ≡ 0 →
    HasBegun (headed limits context r w) → AllLeave (routine_happenings r) → HasItsLabels limits (body_laid limits context r w)
routine_has limits context r w e h l =
    let v = headed limits context r w in
    let ends : List Happening = Acts r.ends Action.EndRoutine ∷ r.last.all in
    let l1 = leave_both r.header.all (Acts r.heads Action.EndLocals ∷ (r.semicolon.all ++ (happenings r.body ++ ends))) l in
    let l2 = leave_both r.semicolon.all (happenings r.body ++ ends) l1.1.1 in
    let l3 = leave_both (happenings r.body) ends l2.1 in
    let before = quiet_run limits context r.header.all w r.header.are in
    let none = inside_act limits context r.heads.place Action.EndLocals (run limits context r.header.all w) refl (before.1 ∙ e) in
    let same = quiet_run limits context r.semicolon.all v r.semicolon.are in
    body_has limits context r.body (run limits context r.semicolon.all v) (same.1 ∙ none) (ap own_alone same.0 ∙ own_begun v h)
    (quiet_good limits context r.semicolon.all none_due none_due none_due v r.semicolon.are l2.0 (begun_good v h)) l3.0

-- Lemmas about headers

no_routine : {A : Type 0} {B : Type 0} {a : A} → None ≡ Some a → B
no_routine e = absurd (cc e)

no_items : (locals : ℕ) (is_lost : Bool) (limits : Limits) (x : Option Limit) (o : Out) (routine : Opened) →
    (opened_by limits x locals is_lost o).code.opened ≡ Some routine → routine.contents.cells ≡ []
no_items locals is_lost limits None o routine e = sym (ap (λ (r : Opened). r.contents.cells) (some_is e))
no_items locals is_lost limits (Some limit) o routine e = no_routine e

whole_empty : (cells : List Cell) → cells ≡ [] → AreWhole cells
whole_empty cells e = record {
  once = λ n. let p = ap (λ c. times n (cell_marks c)) e in omega (arith, p);
  known = λ n used. let p = ap (λ c. times n (cell_uses c)) e in absurd (omega (arith, p, used));
}

empty_has : (limits : Limits) (how : RoutineKind) (locals : ℕ) (is_lost : Bool) (o : Out) →
    is_of_labels (fault_closed limits how (opened limits locals is_lost o).code) ≡ false
empty_has limits how locals is_lost o =
    let code = (opened limits locals is_lost o).code in
    closed_label limits how code code.opened refl
    (λ routine is. whole_empty routine.contents.cells (no_items locals is_lost limits (full_opened limits is_lost o.code) o routine is))

opened_kept : (locals : ℕ) (is_lost : Bool) (limits : Limits) (x : Option Limit) (o : Out) →
    (opened_by limits x locals is_lost o).kept ≡ o.kept
opened_kept locals is_lost limits None o = refl
opened_kept locals is_lost limits (Some limit) o = refl

declared_kept : (limits : Limits) (f : Option (DeclareFault Place)) (name : List ℕ) (place : Place) (m : Meaning) (o : Out) →
    (declared_by limits f name place m o).kept ≡ o.kept
declared_kept limits None name place m o = refl
declared_kept limits (Some DeclareFault.Full) name place m o = refl
declared_kept limits (Some (DeclareFault.Present first)) name place m o = refl
declared_kept limits (Some DeclareFault.Memory) name place m o = refl

opened_begins : (limits : Limits) (context : Context) (first : Place) (h : Headed) (found : Findings) (w : Compilation) →
    w.output.kept ≡ None → HasBegun (opened_with limits context first h found w)
opened_begins limits context first h found w e =
    let lost = is_some found.least in
    let x = full_opened limits lost w.output.code in record {
      items = λ routine is. no_items (length h.locals) lost limits x w.output routine is;
      labels = refl;
      constructs = refl;
      together = opened_kept (length h.locals) lost limits x w.output ∙ e;
    }

header_begins : (limits : Limits) (context : Context) (first : Place) (name : Name) (h : Headed) (w : Compilation) → w.output.kept ≡ None →
    HasBegun (header_with limits context first name h w)
header_begins limits context first name h w e =
    opened_begins limits context first h (header_findings 1 (again_by name (declare_fault limits name.bytes w.output.names)) h)
    (routine_declared limits name w)
    (declared_kept limits (declare_fault limits name.bytes w.output.names) name.bytes name.place _ w.output ∙ e)

begun_behind : (m : Between) (v : Compilation) → LeaveRoutine m → HasBegun v → HasBegun (passed m v)
begun_behind m v l h = record {
  items = λ routine is. h.items routine (sym (l v.output).opened ∙ is);
  labels = h.labels;
  constructs = h.constructs;
  together = (l v.output).kept ∙ h.together;
}

headers_begin : (limits : Limits) (context : Context) (at : Moment) (name : Name) (names : List Name) (w : Compilation) →
    names_in w.unit.tokens ≡ name ∷ names → is_to_be_replaced name w ≡ false → w.output.kept ≡ None → LeaveRoutine at.behind →
    HasBegun (happens limits context (Acts at Action.EndLocals) w)
headers_begin limits context at name names w e free none l =
    let first = first_place w.unit.tokens at.place in
    let own = record w { is_replaced = false; is_embedded = false } in
    let over = passed_over true (record w { is_replaced = true; is_embedded = false; constructs = [] }) in
    let v = header_with limits context first name w.unit.headed own in
    let same : header_of limits context first (names_in w.unit.tokens) w ≡ v =
    ap (λ l. header_of limits context first l w) e ∙ ap (λ b. if b then over else v) free in
    begun_behind at.behind (act limits context at.place Action.EndLocals w) l
    (subst HasBegun (sym same) (header_begins limits context first name w.unit.headed own none))

-- Lemmas about conditional directives

begun_opened : (x : Option Limit) (r : Routines) → (begun_unless x r).opened ≡ r.opened
begun_opened None r = refl
begun_opened (Some s) r = refl

begun_leaves : (limits : Limits) (x : Option Limit) (o : Out) → LeavesRoutine o (begun_by limits x o)
begun_leaves limits None o = record { opened = begun_opened (full_begun limits o.code) o.code; next = refl; kept = refl; fits = λ e. e }
begun_leaves limits (Some s) o = record {
  opened = begun_opened (full_begun limits o.code) o.code;
  next = refl;
  kept = refl;
  fits = λ e. none_some e;
}

pub routines_have_their_labels : (limits : Limits) → RoutinesHaveTheirLabels limits
routines_have_their_labels limits = record {
  bodies = λ context body w e h l. body_has limits context body w e (own_begun w h) (begun_good w h) l;
  routines = λ context r w e h l. routine_has limits context r w e h l;
  opened = λ context first h found w e. opened_begins limits context first h found w e;
  headers = headers_begin limits;
  empty = λ how locals is_lost o. empty_has limits how locals is_lost o;
  directives = λ files place o. begun_leaves limits (full_begun limits o.code) o;
  tokens = λ seen symbols l. tokens_leave seen symbols l;
}
