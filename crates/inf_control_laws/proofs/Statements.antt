-- Nested statements run as their control flow says, by induction on their nesting.
use Rattle.std.proofs.Common.{◌≡◌, ◌⊎◌, ℕ, List, [], ◌∷◌, Some, Bool, true, false, refl, ◌∙◌, ap, sym, subst, inl, inr}
use Rattle.inf_settings.specs.Bounds.{Limits}
use Rattle.inf_syntax.specs.declared.actions.Action.{Action}
use Rattle.inf_output.specs.Output.{Out}
use Rattle.inf_compilation.specs.{Actions.Compilation, Context.Context}
use Rattle.inf_constructs.specs.{declared.constructs.Case.Case as CaseKind, declared.constructs.Construct.Construct}
use Rattle.inf_constructs.specs.{declared.constructs.Kind.Kind, declared.constructs.Over.Over}
use Rattle.inf_constructs.specs.Constructs.{between, closed, left_to, opened}
use Rattle.inf_statement_laws.specs.Happenings.{Acts}
use Rattle.inf_statement_laws.specs.Nested.{Case, Do, For, If, IfElse, Nested, NoStep, Objectloop, Plain, Step, StepEnds, Switch, Then}
use Rattle.inf_statement_laws.specs.Nested.{While, step_happenings}
use Rattle.inf_statement_laws.specs.Laid.{happens, holding, laid, opened_at, run, with_kind_in, with_step_in}
use Rattle.inf_statement_laws.proofs.{Acts.inside_act, Acts.quiet_run, Laying.Holds, Laying.laid_as, Laying.run_then}
use Rattle.inf_interpreter.specs.Machine.{World}
use Rattle.inf_interpreter.proofs.Laying as pieces
use Rattle.inf_interpreter.proofs.Running.{same_some}
use Rattle.inf_control_laws.specs.{Carrying.Carries, Laws.StatementsRun, Parts.BeginsCase, Parts.open_case}
use Rattle.inf_control_laws.specs.Control.{Both, CaseOf, Control, Does, DoUntil, Effect, Either, ForEach, IfTrue, Objects, WhileTrue}
use Rattle.inf_control_laws.specs.Control.{ByCases, both_walk, case_walk, effect, own_walk, ways}
use Rattle.inf_control_laws.specs.Runs.{Exits, Lays, LaysNone, Runs, exits}
use Rattle.inf_control_laws.proofs.{Laying.lays_so, Laying.lays_then, Laying.none_then, Turning.inside}
use Rattle.inf_control_laws.proofs.Opening.{do_closed, do_exits, do_joined, do_opened, else_closed, else_exits, for_closed, for_exits}
use Rattle.inf_control_laws.proofs.Opening.{for_joined, for_opened, if_closed, if_exits, if_joined, if_opened, while_closed, while_exits}
use Rattle.inf_control_laws.proofs.Opening.{objects_closed, objects_exits, objects_joined, objects_opened, switch_begins, switch_closed}
use Rattle.inf_control_laws.proofs.Opening.{switch_exits, switch_opened, while_opened}
use Rattle.inf_control_laws.proofs.Walking.{Walks, both_walks, case_walks, own_walks}
use Rattle.inf_control_laws.proofs.Pieces.{both_laid, do_laid, else_laid, for_laid, if_laid, objects_laid, switch_laid, while_laid}

-- Lemmas about statements where they stand

exits_alike : (w : World) (x y : Exits) (e : Effect) (a b : Out) → x ≡ y → Lays w (Runs w x e) a b → Lays w (Runs w y e) a b
exits_alike w x y e a b same h = subst (λ z. Lays w (Runs w z e) a b) same h

-- a statement that is no case leaves the statements that are known
stays_open : (b : Bool) → b ≡ false → (before after : List Construct) → Holds b before after → after ≡ before
stays_open b fixed before after h = subst (λ z. Holds z before after) fixed h

-- the step of a `for` closes no statement ahead
step_none : (limits : Limits) (context : Context) (step : Step) (v : Compilation) → v.closed ≡ 0 →
    (run limits context (step_happenings step) v).closed ≡ 0
step_none limits context NoStep v e = e
step_none limits context (StepEnds step ends) v e =
    let front = run limits context step.all v in
    ap (λ (u : Compilation). u.closed) (run_then limits context step.all (Acts ends Action.EndForStep ∷ []) v)
    ∙ inside_act limits context ends.place Action.EndForStep front refl ((quiet_run limits context step.all v step.are).1 ∙ e)

-- Statements that are neither a case nor several
abbrev pub IsSingle : {b : Bool} → Nested b → Type 0
IsSingle (Then first second) = ⊥
IsSingle (Case values ends) = ⊥
IsSingle s = Unit {0}

-- The walk of a statement among the cases of a `switch`
record WalkLaid {b : Bool} (w : World) (limits : Limits) (context : Context) (turns : ℕ) (s : Nested b) (p : Control) (v : Compilation)
    (old : CaseKind) : Type 0 where
  new : CaseKind
  is : open_case (laid limits context s v).constructs ≡ Some new
  same : exits (laid limits context s v).constructs ≡ exits v.constructs
  walks : Lays w (Walks w (exits v.constructs) old new (ways turns p).walk) v.output (laid limits context s v).output

record Claimed {b : Bool} (w : World) (limits : Limits) (context : Context) (turns : ℕ) (s : Nested b) (p : Control) (v : Compilation) :
    Type 0 where
  runs : ((b ≡ false) ⊎ IsSingle s) → Lays w (Runs w (exits v.constructs) (effect turns p)) v.output (laid limits context s v).output
  walks : (old : CaseKind) → open_case v.constructs ≡ Some old → WalkLaid w limits context turns s p v old

single : {b : Bool} (w : World) (limits : Limits) (context : Context) (turns : ℕ) (s : Nested b) (p : Control) (v : Compilation) →
    (ways turns p).walk ≡ own_walk (effect turns p) → (laid limits context s v).constructs ≡ v.constructs →
    Lays w (Runs w (exits v.constructs) (effect turns p)) v.output (laid limits context s v).output →
    Claimed w limits context turns s p v
single w limits context turns s p v same stays l =
    let x = exits v.constructs in
    let z = (laid limits context s v).output in record {
      runs = λ how. l;
      walks = λ old known. record {
        new = old;
        is = ap open_case stays ∙ known;
        same = ap exits stays;
        walks = subst (λ k. Lays w (Walks w x old old k) v.output z) (sym same)
            (lays_so w (Runs w x (effect turns p)) (Walks w x old old (own_walk (effect turns p))) v.output z
            (own_walks w x old (effect turns p)) l);
      };
    }

fixed_of : {b : Bool} → (b ≡ false) ⊎ ⊥ → b ≡ false
fixed_of (inl e) = e
fixed_of (inr n) = absurd n

no_case : {A : Type 0} → (true ≡ false) ⊎ ⊥ → A
no_case (inl e) = absurd (cc e)
no_case (inr n) = absurd n

acts_as : {b : Bool} (w : World) (limits : Limits) (context : Context) (turns : ℕ) (s : Nested b) (p : Control) (v : Compilation) →
    v.closed ≡ 0 → Carries w limits context s p v → Claimed w limits context turns s p v
acts_as w limits context turns (Plain plain) (Does e) v e0 h =
    single w limits context turns (Plain plain) (Does e) v refl (quiet_run limits context plain.all v plain.are).0 h
acts_as w limits context turns (Then {b} first second) (Both p q) v e0 h =
    let front = laid_as limits context first v e0 in
    let u = laid limits context first v in
    let z = (laid limits context second u).output in
    let x = exits v.constructs in
    let one = acts_as w limits context turns first p v e0 h.0 in
    let two = acts_as w limits context turns second q u front.none_ahead h.1 in record {
      runs = λ how.
          let e = fixed_of how in
          let same = stays_open b e v.constructs u.constructs front.holds in
          both_laid w x (effect turns p) (effect turns q) v.output u.output z (one.runs (inl e))
          (exits_alike w (exits u.constructs) x (effect turns q) u.output z (ap exits same) (two.runs (inl e)));
      walks = λ old known.
          let a = one.walks old known in
          let c = two.walks a.new a.is in record {
            new = c.new;
            is = c.is;
            same = c.same ∙ a.same;
            walks = lays_so w (pieces.Then (Walks w x old a.new (ways turns p).walk) (Walks w x a.new c.new (ways turns q).walk))
                (Walks w x old c.new (both_walk (ways turns p).walk (ways turns q).walk)) v.output z
                (both_walks w x old a.new c.new (ways turns p).walk (ways turns q).walk)
                (lays_then w (Walks w x old a.new (ways turns p).walk) (Walks w x a.new c.new (ways turns q).walk) v.output u.output z
                a.walks (subst (λ y. Lays w (Walks w y a.new c.new (ways turns q).walk) u.output z) a.same c.walks));
          };
    }
acts_as w limits context turns (If opens test body closes) (IfTrue holds p) v e0 h =
    let c = opened limits Kind.If v.output in
    let inner = opened_at context opens c v in
    let tested = run limits context test.all inner in
    let same = quiet_run limits context test.all inner test.are in
    let x = exits v.constructs in
    let done = (laid limits context body tested).output in
    let runs = exits_alike w (exits tested.constructs) x (effect turns p) tested.output done
    (ap exits same.0 ∙ if_exits limits v.output v.constructs)
    ((acts_as w limits context turns body p tested (same.1 ∙ e0) h.2).runs (inl refl)) in
    single w limits context turns (If opens test body closes) (IfTrue holds p) v refl refl
    (if_laid w x c.0.next holds (effect turns p) v.output c.1 inner.output tested.output done (closed limits c.0 done)
    (closes.behind.output (closed limits c.0 done)) (if_opened limits v.output) (h.0 c.1) h.1 runs (if_closed w limits v.output done)
    (h.3 (closed limits c.0 done)))
acts_as w limits context turns (IfElse opens test body joins word other closes) (Either holds p q) v e0 h =
    let c = opened limits Kind.If v.output in
    let inner = opened_at context opens c v in
    let tested = run limits context test.all inner in
    let same = quiet_run limits context test.all inner test.are in
    let x = exits v.constructs in
    let e1 : tested.closed ≡ 0 = same.1 ∙ e0 in
    let first = laid limits context body tested in
    let joined = between limits c.0 first.output in
    let behind = holding joins joined v.constructs first in
    let ready = run limits context word.all behind in
    let alike = quiet_run limits context word.all behind word.are in
    let done = (laid limits context other ready).output in
    let runs = exits_alike w (exits tested.constructs) x (effect turns p) tested.output first.output
    (ap exits same.0 ∙ if_exits limits v.output v.constructs) ((acts_as w limits context turns body p tested e1 h.2).runs (inl refl)) in
    let runs2 = exits_alike w (exits ready.constructs) x (effect turns q) ready.output done
    (ap exits alike.0 ∙ else_exits limits v.output first.output v.constructs)
    ((acts_as w limits context turns other q ready (alike.1 ∙ (laid_as limits context body tested e1).none_ahead) h.5).runs (inl refl)) in
    single w limits context turns (IfElse opens test body joins word other closes) (Either holds p q) v refl refl
    (else_laid w x c.0.next c.0.end holds (effect turns p) (effect turns q) v.output c.1 inner.output tested.output first.output joined.1
    behind.output ready.output done (closed limits joined.0 done) (closes.behind.output (closed limits joined.0 done))
    (if_opened limits v.output) (h.0 c.1) h.1 runs (if_joined w limits v.output first.output) (h.3 joined.1) h.4 runs2
    (else_closed w limits v.output first.output done) (h.6 (closed limits joined.0 done)))
acts_as w limits context turns (While opens test body closes) (WhileTrue holds p) v e0 h =
    let c = opened limits Kind.While v.output in
    let inner = opened_at context opens c v in
    let tested = run limits context test.all inner in
    let same = quiet_run limits context test.all inner test.are in
    let done = (laid limits context body tested).output in
    let runs = exits_alike w (exits tested.constructs) (inside c.0.end c.0.next) (effect turns p) tested.output done
    (ap exits same.0 ∙ while_exits limits v.output v.constructs)
    ((acts_as w limits context turns body p tested (same.1 ∙ e0) h.2).runs (inl refl)) in
    single w limits context turns (While opens test body closes) (WhileTrue holds p) v refl refl
    (while_laid w (exits v.constructs) c.0.next c.0.end holds (effect turns p) turns v.output c.1 inner.output tested.output done
    (closed limits c.0 done) (closes.behind.output (closed limits c.0 done)) (while_opened w limits v.output) (h.0 c.1) h.1 runs
    (while_closed w limits v.output done) (h.3 (closed limits c.0 done)))
acts_as w limits context turns (Do opens body word joins test closes) (DoUntil p holds) v e0 h =
    let c = opened limits Kind.Do v.output in
    let inner = opened_at context opens c v in
    let first = laid limits context body inner in
    let ready = run limits context word.all first in
    let joined = between limits c.0 ready.output in
    let behind = holding joins joined v.constructs ready in
    let tested = (run limits context test.all behind).output in
    let runs = exits_alike w (exits inner.constructs) (inside c.0.end c.0.next) (effect turns p) inner.output first.output
    (do_exits limits v.output v.constructs) ((acts_as w limits context turns body p inner e0 h.1).runs (inl refl)) in
    single w limits context turns (Do opens body word joins test closes) (DoUntil p holds) v refl refl
    (do_laid w (exits v.constructs) c.0.top c.0.next c.0.end (effect turns p) holds turns v.output c.1 inner.output first.output
    ready.output joined.1 behind.output tested (closed limits joined.0 tested) (closes.behind.output (closed limits joined.0 tested))
    (do_opened w limits v.output) (h.0 c.1) runs h.2 (do_joined w limits v.output ready.output) (h.3 joined.1) h.4
    (do_closed w limits v.output ready.output tested) (h.5 (closed limits joined.0 tested)))
acts_as w limits context turns (For opens start joins test step bracket body closes) (ForEach begins holds next p) v e0 h =
    let c = opened limits Kind.For v.output in
    let inner = opened_at context opens c v in
    let started = run limits context start.all inner in
    let top = between limits c.0 started.output in
    let behind = holding joins top v.constructs started in
    let tested = run limits context test.all behind in
    let stepped = run limits context (step_happenings step) tested in
    let own = with_step_in stepped.constructs top.0 in
    let held = record stepped { constructs = own ∷ v.constructs } in
    let ready = run limits context bracket.all held in
    let same = quiet_run limits context bracket.all held bracket.are in
    let e1 : started.closed ≡ 0 = (quiet_run limits context start.all inner start.are).1 ∙ e0 in
    let e2 : tested.closed ≡ 0 = (quiet_run limits context test.all behind test.are).1 ∙ e1 in
    let e3 : ready.closed ≡ 0 = same.1 ∙ step_none limits context step tested e2 in
    let done = (laid limits context body ready).output in
    let runs = exits_alike w (exits ready.constructs) (inside c.0.end c.0.next) (effect turns p) ready.output done
    (ap exits same.0 ∙ for_exits limits v.output started.output stepped.constructs v.constructs)
    ((acts_as w limits context turns body p ready e3 h.6).runs (inl refl)) in
    single w limits context turns (For opens start joins test step bracket body closes) (ForEach begins holds next p) v refl refl
    (for_laid w limits (exits v.constructs) c.0.top c.0.next c.0.end begins holds next (effect turns p) own.step turns v.output c.1
    inner.output started.output top.1 behind.output tested.output stepped.output ready.output done (closed limits own done)
    (closes.behind.output (closed limits own done)) (for_opened limits v.output) (h.0 c.1) h.1
    (for_joined w limits v.output started.output) (h.2 top.1) h.3 h.4 h.5 runs
    (for_closed limits v.output started.output done stepped.constructs) (h.7 (closed limits own done)))
acts_as w limits context turns (Objectloop opens loop ends joins bracket body closes) (Objects first holds next p) v e0 h =
    let c = opened limits (Kind.Objects Over.Nothing 0) v.output in
    let inner = opened_at context opens c v in
    let unit = run limits context loop.all inner in
    let looped = happens limits context (Acts ends Action.EndObjectloop) unit in
    let own = with_kind_in looped.constructs c.0 in
    let joined = between limits own looped.output in
    let behind = holding joins joined v.constructs looped in
    let ready = run limits context bracket.all behind in
    let same = quiet_run limits context bracket.all behind bracket.are in
    let e1 : unit.closed ≡ 0 = (quiet_run limits context loop.all inner loop.are).1 ∙ e0 in
    let e2 : looped.closed ≡ 0 = inside_act limits context ends.place Action.EndObjectloop unit refl e1 in
    let how = h.0.how in
    let variable = h.0.variable in
    let joins_as = objects_joined limits own how variable h.0.some h.0.is looped.output in
    let done = (laid limits context body ready).output in
    let runs = exits_alike w (exits ready.constructs) (inside c.0.end c.0.next) (effect turns p) ready.output done
    (ap exits same.0 ∙ ap (λ (j : Construct × Out). exits (j.0 ∷ v.constructs)) joins_as
    ∙ objects_exits limits v.output looped.constructs v.constructs how variable)
    ((acts_as w limits context turns body p ready (same.1 ∙ e2) h.5).runs (inl refl)) in
    single w limits context turns (Objectloop opens loop ends joins bracket body closes) (Objects first holds next p) v refl refl
    (objects_laid w limits (exits v.constructs) c.0.top c.0.next c.0.end first holds next (effect turns p) how variable turns v.output c.1
    inner.output looped.output behind.output ready.output done (closed limits joined.0 done)
    (closes.behind.output (closed limits joined.0 done)) (objects_opened limits v.output) (h.1 c.1) h.2
    (subst (λ o. LaysNone o behind.output) (ap (λ (j : Construct × Out). j.1) joins_as) (h.3 joined.1)) h.4 runs h.0.steps
    (objects_closed limits v.output done looped.constructs how variable
    ∙ ap (λ (j : Construct × Out). closed limits j.0 done) (sym joins_as)) (h.6 (closed limits joined.0 done)))
acts_as w limits context turns (Case values ends) (CaseOf holds) v e0 h =
    let before = run limits context values.all v in
    let now = happens limits context (Acts ends Action.EndCase) before in
    let b = h.1 in
    let x = exits v.constructs in record {
      runs = λ how. no_case how;
      walks =
          λ old known. subst (λ k. WalkLaid w limits context turns (Case values ends) (CaseOf holds) v k) (same_some (sym b.was ∙ known))
          (record {
            new = b.new;
            is = b.is;
            same = b.same;
            walks = none_then w (Walks w x b.old b.new (case_walk holds)) v.output before.output now.output h.0
                (lays_so w (BeginsCase w holds b.old b.new b.end) (Walks w x b.old b.new (case_walk holds)) before.output now.output
                (case_walks w x holds b.old b.new b.end b.breaks) b.begins);
          });
    }
acts_as w limits context turns (Switch opens value cases brace closes) (ByCases keeps p) v e0 h =
    let c = opened limits (Kind.Switch CaseKind.Nothing false) v.output in
    let inner = opened_at context opens c v in
    let valued = run limits context value.all inner in
    let done = laid limits context cases valued in
    let ready = run limits context brace.all done in
    let same = quiet_run limits context value.all inner value.are in
    let after = quiet_run limits context brace.all done brace.are in
    let e1 : valued.closed ≡ 0 = same.1 ∙ e0 in
    let known = ap open_case same.0 ∙ switch_begins limits v.output v.constructs in
    let k = (acts_as w limits context turns cases p valued e1 h.2).walks CaseKind.Nothing known in
    let y : Exits = record { breaks = Some c.0.end; continues = left_to true v.constructs } in
    let alike = ap exits same.0 ∙ switch_exits limits v.output v.constructs in
    let walk = (ways turns p).walk in
    let walked = subst (λ z. Lays w (Walks w z CaseKind.Nothing k.new walk) valued.output done.output) alike k.walks in
    let own = with_kind_in ready.constructs c.0 in
    let ends = switch_closed limits c.0 ready.constructs k.new ready.output (ap open_case after.0 ∙ k.is) in
    single w limits context turns (Switch opens value cases brace closes) (ByCases keeps p) v refl refl
    (switch_laid w limits (exits v.constructs) y c.0.end k.new keeps walk v.output c.1 inner.output valued.output done.output ready.output
    (closed limits own ready.output) (closes.behind.output (closed limits own ready.output)) refl refl (switch_opened limits v.output)
    (h.0 c.1) h.1 walked h.3 ends (h.4 (closed limits own ready.output)))
acts_as w limits context turns s p v e0 h = absurd h

pub statements_run : StatementsRun
statements_run w limits context s p v e h turns = (acts_as w limits context turns s p v e h).runs (inl refl)
